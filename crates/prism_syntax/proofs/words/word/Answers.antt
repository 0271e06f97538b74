use Rattle.prism_syntax.proofs.SpellingLemmas.{word_found, word_none}
use Rattle.prism_syntax.proofs.words.word.Goals as goal

pub returns-clause-found : goal.returns-clause-found
returns-clause-found c = word_found c.args.text.now c.find_word.result c.find_word.ensures

pub returns-clause-none : goal.returns-clause-none
returns-clause-none c = word_none c.args.text.now c.find_word.result c.find_word.ensures
