-- The choice of the number that is drawn is the one that a step takes.
use Rattle.std.proofs.Common.{◌≡◌, ℕ, Bool, List, take, Some, sym, ap, ◌∙◌, arith}
use Rattle.std.specs.Prelude.{slice_get}
use Rattle.std.proofs.lemmas.List.{length-take}
use Rattle.trace_streams.specs.Draws.{Place, draw_at}
use Rattle.successors.specs.Enabled.{is_enabled}
use Rattle.successors.specs.Partition.{choice_lists}
use Rattle.successors.proofs.MoveLemmas.{chosen, chosen_few, known}
use Rattle.successors.proofs.moving.choose.Goals as goal

-- the choice that was written, among those by the plan
found : (p : ℕ → Bool) (alone first : List ℕ) (joint second : List (List (List ℕ))) (number : ℕ) (commands : List ℕ) → first ≡ alone → second ≡ joint
    → slice_get (choice_lists p first second) number ≡ Some commands → slice_get (choice_lists p alone joint) number ≡ Some commands
found p alone first joint second number commands a b is = (λ i. slice_get (choice_lists p (sym a i) (sym b i)) number) ∙ is

pub returns-clause-value : goal.returns-clause-value
returns-clause-value c =
    let k = known c.args.chain.now c.args.state.now c.args.plan.now c.args.lane c.args.enabled.now c.requires.plan c.requires.guards in
    chosen c.args.chain.now (draw_at c.args.draws.now.seed c.args.draws.now.trace) c.args.state.now c.args.draws.now.place c.args.count c.drawn_number-number.result
    c.drawn_number-number.new.draws.place k.choices (choice_lists (is_enabled c.args.lane c.args.enabled.now) c.args.plan.now.partition.singles c.args.plan.now.partition.actions)
    (take c.write_choice.result c.write_choice.new.chosen) k.made k.commands (c.requires.count ∙ sym k.size) c.requires.few c.drawn_number-number.ensures.value
    (found (is_enabled c.args.lane c.args.enabled.now) c.args.plan.now.partition.singles c.as_slice.result.now c.args.plan.now.partition.actions c.as_slice-2.result.now
    c.drawn_number-number.result (take c.write_choice.result c.write_choice.new.chosen) c.as_slice.ensures c.as_slice-2.ensures c.write_choice.ensures.value)
    (ap (λ (p : Place). p.place) c.drawn_number-number.ensures.moves)

pub returns-clause-few : goal.returns-clause-few
returns-clause-few c =
    let k = known c.args.chain.now c.args.state.now c.args.plan.now c.args.lane c.args.enabled.now c.requires.plan c.requires.guards in
    omega (
      arith,
      chosen_few c.args.chain.now (draw_at c.args.draws.now.seed c.args.draws.now.trace) c.args.state.now c.args.draws.now.place c.args.count c.drawn_number-number.result
          k.choices (choice_lists (is_enabled c.args.lane c.args.enabled.now) c.args.plan.now.partition.singles c.args.plan.now.partition.actions)
          (take c.write_choice.result c.write_choice.new.chosen) k.made k.commands (c.requires.count ∙ sym k.size) c.requires.few c.drawn_number-number.ensures.value
          (found (is_enabled c.args.lane c.args.enabled.now) c.args.plan.now.partition.singles c.as_slice.result.now c.args.plan.now.partition.actions c.as_slice-2.result.now
          c.drawn_number-number.result (take c.write_choice.result c.write_choice.new.chosen) c.as_slice.ensures c.as_slice-2.ensures c.write_choice.ensures.value),
      length-take c.write_choice.result c.write_choice.new.chosen,
      c.write_choice.ensures.within,
      c.write_choice.auto.chosen,
    )
