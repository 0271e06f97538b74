use Rattle.std.proofs.Common.{◌++◌, ℕ, map, ap, ◌∙◌}
use Rattle.typecheck.specs.Declarations.{commands_of}
use Rattle.typecheck.proofs.ListingLemmas.{appended, listed_more}
use Rattle.prism_syntax.specs.declared.commands.Command.{Command}
use Rattle.typecheck.proofs.listing.list_module_commands.Goals as goal

pub loop-number-preserved : goal.loop-number-preserved
loop-number-preserved c =
    appended _ _ _ _ _ _ c.loop-number.invariant
    (c.in_ok-list_commands.ensures ∙ ap (λ z. map {B = ℕ × Command} (λ c. (c.0, c.1.now)) c.loop-number.list.items ++ map {B = ℕ × Command} (λ d. (c.loop-number.number, d)) z) c.commands_of.ensures)
    (listed_more c.args.modules.now c.loop-number.number c.index-modules-number.result c.loop-number-test.true c.index-modules-number.is
    (λ m. map {B = ℕ × Command} (λ c. (m.0, c)) (commands_of m.1)))
