use Rattle.std.proofs.Common.{◌≡◌, get_or, sym, ◌∙◌, arith}
use Rattle.prism_lexer.proofs.BlankLemmas.{passes_first, passes_line}
use Rattle.prism_lexer.proofs.blanks.past_one.Goals as goal

pub returns-in-len1-up-clause-passed : goal.returns-in-len1-up-clause-passed
returns-in-len1-up-clause-passed c = passes_first c.args.text.now c.in-len1-up.len_at_least (sym c.is_blank.ensures ∙ c.if-is_blank.true)

pub returns-in-47-clause-passed : goal.returns-in-47-clause-passed
returns-in-47-clause-passed c =
    let first : get_or c.args.text.now 0 0 ≡ 47 = omega arith in
    let second : get_or c.args.text.now 1 0 ≡ 47 = omega arith in
    passes_line c.args.text.now c.split_at.result.1.now c.line_len.result c.in-47.len_at_least first second c.line_len.ensures.value c.split_at.ensures.back
