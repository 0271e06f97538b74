-- A state that is compared has the number.
use Rattle.std.proofs.Common.{◌≡◌, true, List, sym, ap, ◌∙◌}
use Rattle.std.specs.Prelude.{ℤ, Some}
use Rattle.std.proofs.lemmas.Bool.Decides.{Decides-int_eq}
use Rattle.std.proofs.lemmas.Slice.Eq.{slice_eq-Decides}
use Rattle.state_table.proofs.slots.find.Goals as goal

pub returns-then-eq : goal.returns-then-eq
returns-then-eq c =
    let same : c.in-Some.known.now ≡ c.args.state.now =
    (slice_eq-Decides Decides-int_eq c.in-Some.known.now c.args.state.now c.eq.result c.eq.ensures).0 c.if-eq.true in
    sym c.in-Some.ensures ∙ ap Some same
