use Rattle.std.proofs.Common.{sym, ◌∙◌}
use Rattle.prism_lexer.proofs.ScanLemmas.{word_run}
use Rattle.prism_lexer.proofs.scanning.word_len.Goals as goal

pub returns-in-len1-up-clause-value : goal.returns-in-len1-up-clause-value
returns-in-len1-up-clause-value c =
    c.run_len.ensures.value ∙ word_run c.args.text.now c.in-len1-up.len_at_least (sym c.begins_word.ensures ∙ c.if-begins_word.true)
