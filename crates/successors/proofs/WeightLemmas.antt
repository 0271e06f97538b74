-- The branch of a command from the weights that nodes give.
use Rattle.std.proofs.Common.{◌≡◌, ℕ, ◌+◌, ◌<◌, List, [], ◌∷◌, ◌++◌, length, get_or, set, take, drop, refl, sym, ap, ◌∙◌, subst, append_assoc, Result, Ok, Err}
use Rattle.std.specs.Prelude.{All}
use Rattle.std.proofs.lemmas.List.{at_drop_more, take_more_set}
use Rattle.std.proofs.lemmas.List.Elements.{All-push}
use Rattle.smc_num.specs.Fraction.{Fraction}
use Rattle.chain_model.specs.declared.outcome.TraceFault.{TraceFault}
use Rattle.chain_model.specs.declared.chain.Chain.{Chain}
use Rattle.chain_model.specs.Results.{◌>>=◌, each}
use Rattle.chain_model.specs.States.{State}
use Rattle.chain_model.specs.Step.{arms_of, weights_of, branch_of}
use Rattle.guard_code.specs.declared.nodes.Node.{Node}
use Rattle.guard_code.specs.Tests.{IsSmall}
use Rattle.trace_meaning.specs.Weights.{IsWeight}
use Rattle.trace_meaning.proofs.ResultLemmas.{prepend}
use Rattle.successors.specs.Weighing.{node_weights, weighed_branch, HasWeights}

-- one more stands before the others
prepended : {B : Type 0} (ys : List B) (y : B) (rest : Result (List B) TraceFault)
    → prepend ys (rest >>= λ zs. Ok (y ∷ zs)) ≡ prepend (ys ++ (y ∷ [])) rest
prepended ys y (Ok zs) = ap Ok (sym (append_assoc ys (y ∷ []) zs))
prepended ys y (Err fault) = refl

-- one result further, written
pub written_next : {A B : Type 0} (f : A → Result B TraceFault) (xs : List A) (ys : List B) (i : ℕ) (x : A) (y : B) (whole : Result (List B) TraceFault)
    → i < length xs → i < length ys → x ≡ get_or xs i x → f x ≡ Ok y → prepend (take i ys) (each f (drop i xs)) ≡ whole
    → prepend (take (i + 1) (set ys i y)) (each f (drop (i + 1) xs)) ≡ whole
written_next f xs ys i x y whole lt room is made so =
    ap (λ ls. prepend ls (each f (drop (i + 1) xs))) (take_more_set ys i y room)
    ∙ sym (prepended (take i ys) y (each f (drop (i + 1) xs)))
    ∙ ap (λ r. prepend (take i ys) (r >>= λ z. each f (drop (i + 1) xs) >>= λ zs. Ok (z ∷ zs))) (sym made)
    ∙ ap (λ z. prepend (take i ys) (each f (z ∷ drop (i + 1) xs))) is
    ∙ sym (at_drop_more (λ ls. prepend (take i ys) (each f ls)) xs i x lt)
    ∙ so

-- one weight more
pub weights_next : (weights : List Fraction) (i : ℕ) (weight : Fraction) → i < length weights → All IsWeight (take i weights) → IsWeight weight
    → All IsWeight (take (i + 1) (set weights i weight))
weights_next weights i weight room all is =
    subst (All IsWeight) (sym (take_more_set weights i weight room)) (All-push IsWeight (take i weights) weight all is)

-- the branch of a command is what its weights say
pub branch_weighed : (chain : Chain) (draw : ℕ → ℕ) (state : State) (position command : ℕ)
    → branch_of chain draw state position command ≡ (weights_of state command (arms_of chain command) >>= weighed_branch draw position command)
unfolding branch_of
branch_weighed chain draw state position command = refl

-- so it is what the weights say that nodes give
pub branch_by_nodes : (chain : Chain) (draw : ℕ → ℕ) (state : State) (position command : ℕ) (nodes : List Node) (read : Result (List Fraction) TraceFault)
    → HasWeights chain command nodes → IsSmall state → node_weights state command nodes ≡ read
    → branch_of chain draw state position command ≡ (read >>= weighed_branch draw position command)
branch_by_nodes chain draw state position command nodes read has small is =
    branch_weighed chain draw state position command
    ∙ ap (λ (r : Result (List Fraction) TraceFault). r >>= weighed_branch draw position command) (has.weights state small ∙ is)
