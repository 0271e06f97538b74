-- A code gives the values of its job's expressions, in each state of the job's chain.
use Rattle.std.proofs.Common.{◌≡◌, ℕ, zero, suc, ◌+◌, ◌<◌, ◌≤◌, ◌^◌, List, [], ◌∷◌, ◌++◌, map, length, Some, None, refl, sym, ap, ◌∙◌, arith, length-append}
use Rattle.std.specs.Prelude.{ℤ, pos, slice_get, unwrap_or, unsigned_abs, ◌≤ℤ◌, Option}
use Rattle.std.specs.Ordering.{int_eq}
use Rattle.std.specs.Cmp.Lexicographic.{pointwise}
use Rattle.std.proofs.lemmas.List.{length-map}
use Rattle.std.proofs.lemmas.Grind.{common_steps}
use Rattle.chain_model.specs.declared.values.LabelValues.{LabelValues}
use Rattle.chain_model.specs.declared.expressions.Typed.{Typed}
use Rattle.chain_model.specs.declared.chain.Var.{Var}
use Rattle.chain_model.specs.declared.chain.Chain.{Chain}
use Rattle.chain_model.specs.declared.job.Job.{Job}
use Rattle.chain_model.proofs.StateLemmas.{All-slice_get}
use Rattle.chain_model.specs.Chain.{IsVariable, IsWithinLimits}
use Rattle.chain_model.specs.States.{State, IsState}
use Rattle.chain_model.specs.Values.{Valued, value_with}
use Rattle.chain_model.specs.Choices.{value_in, no_labels}
use Rattle.chain_model.specs.Labels.{labels_of, value_of}
use Rattle.guard_code.specs.declared.nodes.Node.{Node}
use Rattle.guard_code.specs.declared.code.Code.{Code}
use Rattle.guard_code.specs.Tests.{IsSmall, number_in}
use Rattle.guard_code.specs.Means.{Means}
use Rattle.guard_code.specs.Nodes.{node_value}
use Rattle.guard_code.specs.Guards.{told_act, told_command, stuck_result}
use Rattle.guard_code.specs.Codes.{IsCode, model_expressions, path_expressions, expressions_of, values_of, code_labels}
use Rattle.guard_code.proofs.StuckLemmas.{stuck-is}

-- ---- the values of a state are within the limits of numbers

-- a variable for each value
variable_of : (vars : List Var) (state : State) (n : ℕ) (value : ℤ) → length state ≡ length vars → slice_get state n ≡ Some value → (var : Var) × (slice_get vars n ≡ Some var)
variable_of [] [] zero value long is = absurd (cc)
variable_of [] [] (suc n) value long is = absurd (cc)
variable_of (x ∷ xs) [] n value long is = absurd (omega (arith, long))
variable_of [] (y ∷ ys) n value long is = absurd (omega (arith, long))
variable_of (x ∷ xs) (y ∷ ys) zero value long is = (x, refl)
variable_of (x ∷ xs) (y ∷ ys) (suc n) value long is = variable_of xs ys n value (omega (arith, long)) is

between : (lo hi n : ℤ) → lo ≤ℤ n → n ≤ℤ hi → unsigned_abs lo < 2 ^ 62 → unsigned_abs hi < 2 ^ 62 → unsigned_abs n < 2 ^ 62
between lo hi n p q r s = grind (arith, common_steps, p, q, r, s)

small_at : (chain : Chain) (state : State) → IsState chain state → (v : ℕ) → IsWithinLimits (number_in state v)
small_at chain state is v = go (slice_get state v) refl
  where
    go : (found : Option ℤ) → slice_get state v ≡ found → IsWithinLimits (unwrap_or found (pos 0))
    go None at = omega arith
    go (Some value) at =
        let there = variable_of chain.vars state v value is.long at in
        let variable = All-slice_get (IsVariable (length chain.modules)) chain.vars v there.0 chain.well_formed.each_variable there.1 in
        let range = is.in_range v there.0 value there.1 at in
        between there.0.lo there.0.hi value range.0 range.1 variable.least variable.greatest

pub small_state : (chain : Chain) (state : State) → IsState chain state → IsSmall state
small_state chain state is = λ v. small_at chain state is v

-- ---- the values of expressions by their numbers

front : (f : Typed → Valued) (model : List Typed) (more : List Valued) (n : ℕ) → n < length model → slice_get (map f model ++ more) n ≡ slice_get (map f model) n
front f [] more n lt = absurd (omega (arith, lt))
front f (x ∷ xs) more zero lt = refl
front f (x ∷ xs) more (suc n) lt = front f xs more n (omega (arith, lt))

back : (f : Typed → Valued) (model : List Typed) (more : List Valued) (k n : ℕ) → n ≡ length model + k → slice_get (map f model ++ more) n ≡ slice_get more k
back f [] more k n is = ap (slice_get more) (let e : n ≡ k = omega (arith, is) in e)
back f (x ∷ xs) more k zero is = absurd (omega (arith, is))
back f (x ∷ xs) more k (suc n) is = back f xs more k n (omega (arith, is))

found : (f : Node → Valued) (nodes : List Node) (n : ℕ) (node : Node) → slice_get nodes n ≡ Some node → slice_get (map f nodes) n ≡ Some (f node)
found f [] zero node is = absurd (cc)
found f [] (suc n) node is = absurd (cc)
found f (x ∷ xs) zero node is = let same : x ≡ node = cc in ap (λ z. Some (f z)) same
found f (x ∷ xs) (suc n) node is = found f xs n node is

none_past : (nodes : List Node) (n : ℕ) → None ≡ slice_get nodes n → length nodes ≤ n
none_past [] n none = omega arith
none_past (x ∷ xs) zero none = absurd (cc)
none_past (x ∷ xs) (suc n) none = omega (arith, none_past xs n none)

-- as many nodes as expressions of commands
node_count : (job : Job) (code : Code) (state : State) → IsCode job code → IsSmall state → length code.nodes ≡ length (model_expressions job)
node_count job code state is small =
    sym (length-map code.nodes (node_value no_labels state))
    ∙ ap length (is.nodes.same no_labels state small)
    ∙ length-map (model_expressions job) (value_with no_labels state)

-- an expression of a command
pub model_value : (job : Job) (code : Code) (state : State) (n : ℕ) (node : Node) → IsCode job code → IsState job.chain state → slice_get code.nodes n ≡ Some node
    → n < length code.nodes → slice_get (values_of job state) n ≡ Some (node_value no_labels state node)
model_value job code state n node is state_is at lt =
    let small = small_state job.chain state state_is in
    let count = node_count job code state is small in
    front (value_in state) (model_expressions job) (map (value_of job.chain state) (path_expressions job)) n (omega (arith, lt, count))
    ∙ ap (λ vs. slice_get vs n) (sym (is.nodes.same no_labels state small))
    ∙ found (node_value no_labels state) code.nodes n node at

same_labels : (job : Job) (code : Code) (state : State) → IsCode job code → IsSmall state → code_labels code state ≡ labels_of job.chain state
same_labels job code state is small =
    let init : pointwise int_eq state code.initial ≡ (labels_of job.chain state).init = ap (pointwise int_eq state) is.initial in
    let deadlock : stuck_result (map (told_command state) code.commands) code.takes ≡ (labels_of job.chain state).deadlock =
    ap (λ ts. stuck_result ts code.takes) (is.commands state small)
    ∙ ap (stuck_result (map (told_act state) job.chain.commands)) is.takes
    ∙ stuck-is job.chain state in
    λ i. record { init = init i; deadlock = deadlock i }

-- a state formula of the path
pub formula_value : (job : Job) (code : Code) (state : State) (node : Node) (expr : Typed) → IsCode job code → IsState job.chain state → Means node expr
    → node_value (code_labels code state) state node ≡ value_of job.chain state expr
unfolding value_of
formula_value job code state node expr is state_is means =
    let small = small_state job.chain state state_is in
    ap (λ (labels : LabelValues). node_value labels state node) (same_labels job code state is small)
    ∙ means.same (labels_of job.chain state) state small

pub first_value : (job : Job) (code : Code) (state : State) (n : ℕ) → IsCode job code → IsState job.chain state → n ≡ length code.nodes
    → slice_get (values_of job state) n ≡ Some (node_value (code_labels code state) state code.first)
first_value job code state n is state_is at =
    let count = node_count job code state is (small_state job.chain state state_is) in
    back (value_in state) (model_expressions job) (map (value_of job.chain state) (path_expressions job)) 0 n (omega (arith, at, count))
    ∙ ap (λ (v : Valued). Some v) (sym (formula_value job code state code.first job.path.first is state_is is.first))

pub second_value : (job : Job) (code : Code) (state : State) (n : ℕ) → IsCode job code → IsState job.chain state → n < length (expressions_of job)
    → None ≡ slice_get code.nodes n → (n ≡ length code.nodes → ⊥) → slice_get (values_of job state) n ≡ Some (node_value (code_labels code state) state code.second)
second_value job code state n is state_is within none other =
    let count = node_count job code state is (small_state job.chain state state_is) in
    back (value_in state) (model_expressions job) (map (value_of job.chain state) (path_expressions job)) 1 n
    (omega (arith, within, other, count, none_past code.nodes n none, length-append (model_expressions job) (path_expressions job)))
    ∙ ap (λ (v : Valued). Some v) (sym (formula_value job code state code.second job.path.second is state_is is.second))
