-- The commands at which a span points are those of the state's choices.
use Rattle.std.proofs.Common.{◌≡◌, ℕ, ◌+◌, ◌-◌, ◌*◌, ◌<◌, List, length, take, drop, refl, sym, ◌∙◌, subst, arith}
use Rattle.std.specs.Prelude.{Option, Some, IfSome, slice_get}
use Rattle.std.proofs.lemmas.Option.{same_Some, slice_get_read}
use Rattle.chain_model.specs.States.{State}
use Rattle.successors.specs.Choosing.{AreKnownChoices}
use Rattle.one_trace.specs.Kept.{IsKept}
use Rattle.one_trace.proofs.kept.KeptChoices.choices_of.Goals as goal

pub returns : goal.returns
returns c = λ job states state are at.
    let span = c.index-span.result.now in
    let numbered : slice_get states c.in-Some.number ≡ Some state =
    subst (λ (o : Option ℕ). IfSome o (λ n. slice_get states n ≡ Some state)) c.in-Some.is at in
    let within : c.in-Some.number < length c.args.self.now.spans.items = omega (arith, c.if-number-len.false, c.len.ensures) in
    let is : IsKept job states c.args.self.now.commands.items c.in-Some.number span =
    are c.in-Some.number span
    (slice_get_read c.args.self.now.spans.items (length c.args.self.now.spans.items) c.in-Some.number span refl within c.index-span.ensures)
    (omega (arith, c.if-listed-eq0.false)) in
    let size : ℕ = span.count * span.size in
    let long : span.from + size - span.from ≡ size = omega arith in
    subst (λ (k : ℕ). AreKnownChoices job.chain state span.count span.size (take k (drop span.from c.deref.result.now))) (sym long)
    (subst (λ (cs : List ℕ). AreKnownChoices job.chain state span.count span.size (take size (drop span.from cs))) (sym c.deref.ensures.value)
    (subst (λ (s : State). AreKnownChoices job.chain s span.count span.size (take size (drop span.from c.args.self.now.commands.items)))
    (same_Some is.state state (sym is.numbered ∙ numbered)) is.choices))
