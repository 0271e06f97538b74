use Rattle.std.proofs.Common.{sym, ap, ◌∙◌}
use Rattle.prism_reading.proofs.ReachLemmas.{heads}
use Rattle.prism_reading.proofs.TerminalLemmas.{terminal_parses}
use Rattle.prism_syntax.specs.Tokens.{kinds}
use Rattle.prism_reading.proofs.terminals.accept.Goals as goal

pub returns-then-is_kind : goal.returns-then-is_kind
returns-then-is_kind c = terminal_parses c.in_ok-first.first.now c.in_ok-first.ensures.cases.0 (c.is_kind.ensures.0 c.if-is_kind.true)

pub returns-else-is_kind : goal.returns-else-is_kind
returns-else-is_kind c after equal =
    let is = c.is_kind.ensures.1 (heads (sym (ap kinds c.in_ok-first.ensures.cases.0) ∙ equal)) in
    let other = c.if-is_kind.false in
    cc
