-- All branches are written.
use Rattle.std.proofs.Common.{◌≡◌, ℕ, List, length, take, Ok, append-nil, sym, ap, ◌∙◌, arith}
use Rattle.std.proofs.lemmas.List.{drop_all}
use Rattle.trace_streams.specs.Draws.{draw_at}
use Rattle.chain_model.specs.Step.{branches_of}
use Rattle.trace_meaning.proofs.ResultLemmas.{prepend}
use Rattle.successors.proofs.taking.write_branches.Goals as goal

pub returns-clause-value : goal.returns-clause-value
returns-clause-value c =
    let at : c.loop-index.index ≡ length c.args.chosen.now = omega (arith, c.loop-index-test.false, c.loop-index.auto.index-end) in
    sym c.loop-index.invariant.same
    ∙ ap (λ (cs : List ℕ). prepend (take c.loop-index.index c.loop-index.branches) (branches_of c.args.chain.now (draw_at c.args.draws.now.seed c.args.draws.now.trace) c.args.state.now c.loop-index.draws.place cs))
    (drop_all c.loop-index.index c.args.chosen.now c.loop-index-test.false)
    ∙ ap Ok (append-nil (take c.loop-index.index c.loop-index.branches))
    ∙ ap (λ n. Ok (take n c.loop-index.branches)) at
