-- The choice that is taken is one of the state's choices.
use Rattle.std.proofs.Common.{List, length, ap, ◌∙◌, arith}
use Rattle.std.specs.Prelude.{flat_map}
use Rattle.trace_streams.specs.Draws.{draw_at}
use Rattle.chain_model.specs.declared.steps.Choice.{Choice}
use Rattle.chain_model.specs.Step.{choice_of}
use Rattle.trace_meaning.specs.declared.groups.Group.{Group}
use Rattle.trace_meaning.specs.Groups.{group_choices}
use Rattle.trace_meaning.proofs.StepLemmas.{taken_few}
use Rattle.trace_meaning.proofs.step.taken_choice.Goals as goal

pub returns-in-Ok-drawn_choice-clause-few : goal.returns-in-Ok-drawn_choice-clause-few
returns-in-Ok-drawn_choice-clause-few c =
    omega (
      arith,
      ap (λ (choice : Choice). length choice.commands)
          (c.in-Ok-drawn_choice.ensures.value
          ∙ ap (λ (groups : List Group). choice_of (draw_at c.args.draws.now.seed c.args.draws.now.trace) c.args.draws.now.place (flat_map group_choices groups)) c.as_slice.ensures),
      taken_few c.args.chain.now (draw_at c.args.draws.now.seed c.args.draws.now.trace) c.args.state.now c.args.draws.now.place (flat_map group_choices c.in-Ok.counted.1) c.in-Ok.ensures.choices,
    )
