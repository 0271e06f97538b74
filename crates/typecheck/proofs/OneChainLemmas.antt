-- A flat model has one chain at most.
use Rattle.std.proofs.Common.{◌≡◌, ℕ, suc, ◌<◌, List, [], ◌∷◌, Option, Bool, true, false, All, length, map, get_or, refl, sym, ap, ◌∙◌, subst, arith}
use Rattle.std.specs.Prelude.{None, Some, Ok, ℤ, pos, MatchOption, ◌==◌, ◌||◌}
use mathlib.Core.Logic.{inl, inr}
use mathlib.Core.HLevel.{is_prop→PathP}
use mathlib.Core.Path.{PathP}
use Rattle.std.proofs.Props.{props}
use Rattle.std.specs.List.{AllZip, AllPairs, list_any}
use Rattle.std.specs.Result.{result_unwrap_or}
use Rattle.std.proofs.lemmas.Bool.{cases_Bool, eqb-true, eq-eqb}
use Rattle.std.proofs.lemmas.Bool.Decides.{nat_tests}
use Rattle.std.proofs.lemmas.List.Elements.{All-head, All-tail}
use Rattle.chain_model.specs.declared.values.Sort.TheVariants as sort
use Rattle.chain_model.specs.declared.values.Value.TheVariants as value
use Rattle.chain_model.specs.declared.expressions.Typed.{Typed}
use Rattle.chain_model.specs.declared.chain.Var.{Var}
use Rattle.chain_model.specs.declared.chain.Action.{Action}
use Rattle.chain_model.specs.declared.chain.Arm.{Arm}
use Rattle.chain_model.specs.declared.chain.Act.{Act}
use Rattle.chain_model.specs.declared.chain.Chain.{Chain}
use Rattle.chain_model.specs.Chain.{IsAction, IsChain}
use Rattle.chain_model.specs.Step.{stored}
use Rattle.chain_model.specs.Values.{Valued}
use Rattle.prism_syntax.specs.declared.expressions.Expr.{Expr}
use Rattle.prism_syntax.specs.declared.commands.Branch.{Branch}
use Rattle.prism_syntax.specs.declared.commands.Command.{Command}
use Rattle.prism_syntax.specs.declared.models.Named.{Named}
use Rattle.prism_syntax.specs.declared.models.Variable.{Variable}
use Rattle.prism_syntax.specs.declared.models.FlatText.{FlatText}
use Rattle.prism_names.specs.First.{Name}
use Rattle.const_eval.specs.declared.consts.Constant.{Constant}
use Rattle.typed_trees.specs.Leaves.{literal}
use Rattle.typecheck.specs.Declarations.{declared_variables, declared_commands}
use Rattle.typecheck.specs.Chains as chains
use Rattle.typecheck.specs.Chains.{HasNumber, IsVariableOf, IsNumberOf, IsTreeOf, IsBranchOf, IsCommandOf, IsLabelOf, IsChainOf}
use Rattle.typecheck.proofs.MakingLemmas.{same-Some, pairs-head, pairs-tail}

-- where each has one partner at most, lists have
zip-one : {A B : Type 0} (R : A → B → Type 0) → ((x : A) (y z : B) → R x y → R x z → y ≡ z) → (xs : List A) (ys zs : List B) → AllZip R xs ys → AllZip R xs zs → ys ≡ zs
zip-one R each [] [] [] one two = refl
zip-one R each [] [] (z ∷ zs) one two = absurd two
zip-one R each [] (y ∷ ys) zs one two = absurd one
zip-one R each (x ∷ xs) [] zs one two = absurd one
zip-one R each (x ∷ xs) (y ∷ ys) [] one two = absurd two
zip-one R each (x ∷ xs) (y ∷ ys) (z ∷ zs) one two = λ i. each x y z one.0 two.0 i ∷ zip-one R each xs ys zs one.1 two.1 i

module _ (consts : List (Name × Constant)) where
  one-number : (x : Expr) (a b : ℤ) → HasNumber consts x a → HasNumber consts x b → a ≡ b
  one-number x a b one two =
      let first : Valued = Ok one.0 in
      let same : first ≡ Ok two.0 = sym one.1 ∙ two.1 in
      one.2 ∙ (ap stored (ap (λ (r : Valued). result_unwrap_or r one.0) same) ∙ sym two.2)

  one-range : (range : Option (Expr × Expr)) (low high low' high' : ℤ)
      → MatchOption range ((low ≡ pos 0) × (high ≡ pos 1)) (λ r. HasNumber consts r.0 low × HasNumber consts r.1 high)
      → MatchOption range ((low' ≡ pos 0) × (high' ≡ pos 1)) (λ r. HasNumber consts r.0 low' × HasNumber consts r.1 high') → (low ≡ low') × (high ≡ high')
  one-range None low high low' high' one two = (one.0 ∙ sym two.0, one.1 ∙ sym two.1)
  one-range (Some r) low high low' high' one two = (one-number r.0 low low' one.0 two.0, one-number r.1 high high' one.1 two.1)

  one-start : (init : Option Expr) (low low' first first' : ℤ) → low ≡ low' → MatchOption init (first ≡ low) (λ x. HasNumber consts x first)
      → MatchOption init (first' ≡ low') (λ x. HasNumber consts x first') → first ≡ first'
  one-start None low low' first first' same one two = one ∙ (same ∙ sym two)
  one-start (Some x) low low' first first' same one two = one-number x first first' one two

  one-variable : (t : Option ℕ × Variable) (a b : Var) → IsVariableOf consts t a → IsVariableOf consts t b → a ≡ b
  one-variable t a b one two =
      let ends = one-range t.1.range a.lo a.hi b.lo b.hi one.range two.range in
      let starts : a.init ≡ b.init = one-start t.1.init a.lo b.lo a.init b.init ends.0 one.start two.start in
      λ i. record {
        name = (one.name ∙ sym two.name) i;
        owner = (one.owner ∙ sym two.owner) i;
        sort = (one.sort ∙ sym two.sort) i;
        lo = ends.0 i;
        hi = ends.1 i;
        init = starts i;
      }

  module _ (flat : FlatText) where
    one-tree : (x : Expr) (s t : Typed) → IsTreeOf consts flat x s → IsTreeOf consts flat x t → s ≡ t
    one-tree x s t one two = same-Some s t (sym one ∙ two)

    one-set : (set : Name × Expr) (a b : ℕ × Typed) → IsNumberOf flat set.0 a.0 × IsTreeOf consts flat set.1 a.1
        → IsNumberOf flat set.0 b.0 × IsTreeOf consts flat set.1 b.1 → a ≡ b
    one-set set a b one two = λ i. (same-Some a.0 b.0 (sym one.0 ∙ two.0) i, one-tree set.1 a.1 b.1 one.1 two.1 i)

    one-weight : (o : Option Expr) (s t : Typed) → MatchOption o (s ≡ literal sort.Int (value.Num chains.one)) (λ x. IsTreeOf consts flat x s)
        → MatchOption o (t ≡ literal sort.Int (value.Num chains.one)) (λ x. IsTreeOf consts flat x t) → s ≡ t
    one-weight None s t first second = first ∙ sym second
    one-weight (Some x) s t first second = one-tree x s t first second

    one-branch : (text : Branch) (a b : Arm) → IsBranchOf consts flat text a → IsBranchOf consts flat text b → a ≡ b
    one-branch text a b first second = λ i. record {
      weight = one-weight text.weight a.weight b.weight first.weight second.weight i;
      sets = zip-one (λ set c. IsNumberOf flat set.0 c.0 × IsTreeOf consts flat set.1 c.1) one-set text.sets a.sets b.sets first.sets second.sets i;
    }

    one-command : (text : ℕ × Command) (a b : Act) → IsCommandOf consts flat text a → IsCommandOf consts flat text b → a ≡ b
    one-command text a b first second = λ i. record {
      «module» = (first.owner ∙ sym second.owner) i;
      action = (first.action ∙ sym second.action) i;
      guard = one-tree text.1.guard a.guard b.guard first.guard second.guard i;
      branches = zip-one (IsBranchOf consts flat) one-branch text.1.branches a.branches b.branches first.branches second.branches i;
    }

    one-label : (text : Named) (a b : Name × Typed) → IsLabelOf consts flat text a → IsLabelOf consts flat text b → a ≡ b
    one-label text a b first second = λ i. ((first.name ∙ sym second.name) i, one-tree text.body a.1 b.1 first.body second.body i)

-- a number is none of those above it
none-above : (k : ℕ) (xs : List ℕ) → All (λ y. k < y) xs → list_any (λ n. n == k) xs ≡ false
none-above k [] all = refl
none-above k (x ∷ xs) all =
    let above : k < x = All-head (λ y. k < y) x xs all in
    let differs : (x == k) ≡ false = grind (arith, nat_tests, above) in
    ap (λ b. b || list_any (λ n. n == k) xs) differs ∙ none-above k xs (All-tail (λ y. k < y) x xs all)

itself : (k : ℕ) (xs : List ℕ) → list_any (λ n. n == k) (k ∷ xs) ≡ true
itself k xs = ap (λ b. b || list_any (λ n. n == k) xs) (eq-eqb k k refl)

-- one that is among others and not the first is above it
is-above : (x y : ℕ) (ys : List ℕ) → All (λ z. y < z) ys → list_any (λ n. n == x) (y ∷ ys) ≡ true → (x ≡ y → ⊥) → y < x
is-above x y ys all has differs = elim (cases_Bool (y == x)) [
  | inl same ↦ absurd (differs (sym (eqb-true y x same)))
  | inr other ↦ among ys all (sym (ap (λ b. b || list_any (λ n. n == x) ys) other) ∙ has)
]
  where
    among : (zs : List ℕ) → All (λ z. y < z) zs → list_any (λ n. n == x) zs ≡ true → y < x
    among [] all has = absurd (let never : ⊥ = cc in never)
    among (z ∷ zs) all has = elim (cases_Bool (z == x)) [
      | inl same ↦ subst (λ (k : ℕ). y < k) (eqb-true z x same) (All-head (λ w. y < w) z zs all)
      | inr other ↦ among zs (All-tail (λ w. y < w) z zs all) (sym (ap (λ b. b || list_any (λ n. n == x) zs) other) ∙ has)
    ]

-- rising numbers are one list where the same stand in them
rising-one : (xs ys : List ℕ) → AllPairs ◌<◌ xs → AllPairs ◌<◌ ys → ((k : ℕ) → list_any (λ n. n == k) xs ≡ list_any (λ n. n == k) ys) → xs ≡ ys
rising-one [] [] one two same = refl
rising-one [] (y ∷ ys) one two same = absurd (let wrong : false ≡ true = same y ∙ itself y ys in let never : ⊥ = cc in never)
rising-one (x ∷ xs) [] one two same = absurd (let wrong : true ≡ false = sym (itself x xs) ∙ same x in let never : ⊥ = cc in never)
rising-one (x ∷ xs) (y ∷ ys) one two same = λ i. heads i ∷ rising-one xs ys (pairs-tail ◌<◌ x xs one) (pairs-tail ◌<◌ y ys two) tails i
  where
    heads : x ≡ y
    heads = elim (cases_Bool (x == y)) [
      | inl is ↦ eqb-true x y is
      | inr other ↦
          let differs : x ≡ y → ⊥ = λ e. (let wrong : true ≡ false = sym (eq-eqb x y e) ∙ other in let never : ⊥ = cc in never) in
          let below : y < x = is-above x y ys (pairs-head ◌<◌ y ys two) (sym (same x) ∙ itself x xs) differs in
          let above : x < y = is-above y x xs (pairs-head ◌<◌ x xs one) (same y ∙ itself y ys) (λ e. differs (sym e)) in
          absurd (omega (arith, below, above))
    ]

    drops : (b c d : Bool) → (b ≡ true → (c ≡ false) × (d ≡ false)) → (b || c) ≡ (b || d) → c ≡ d
    drops true c d none is = (none refl).0 ∙ sym (none refl).1
    drops false c d none is = is

    tails : (k : ℕ) → list_any (λ n. n == k) xs ≡ list_any (λ n. n == k) ys
    tails k =
        drops (x == k) (list_any (λ n. n == k) xs) (list_any (λ n. n == k) ys)
        (λ is. (
          subst (λ (z : ℕ). list_any (λ n. n == z) xs ≡ false) (eqb-true x k is) (none-above x xs (pairs-head ◌<◌ x xs one)),
          subst (λ (z : ℕ). list_any (λ n. n == z) ys ≡ false) (sym heads ∙ eqb-true x k is) (none-above y ys (pairs-head ◌<◌ y ys two)),
        ))
        (same k ∙ ap (λ z. (z == k) || list_any (λ n. n == k) ys) (sym heads))

-- an action takes the same modules in the same commands
takes-one : (commands : List Act) (number : ℕ) (a b : Action) → IsAction commands number a → IsAction commands number b → a.takes ≡ b.takes
takes-one commands number a b one two = rising-one a.takes b.takes one.rising two.rising (λ owner. one.exact owner ∙ sym (two.exact owner))

-- actions are one list where their names are, and each takes the same
actions-one : (cs ds : List Action) → map (λ (action : Action). action.name) cs ≡ map (λ (action : Action). action.name) ds
    → ((i : ℕ) (d : Action) → i < length cs → i < length ds → (get_or cs i d).takes ≡ (get_or ds i d).takes) → cs ≡ ds
actions-one [] [] same takes = refl
actions-one [] (b ∷ ds) same takes = absurd (let never : ⊥ = cc in never)
actions-one (a ∷ cs) [] same takes = absurd (let never : ⊥ = cc in never)
actions-one (a ∷ cs) (b ∷ ds) same takes =
    let title : a.name ≡ b.name = cc in
    let others : map (λ (action : Action). action.name) cs ≡ map (λ (action : Action). action.name) ds = cc in
    let first : a.takes ≡ b.takes = takes 0 a (omega arith) (omega arith) in
    λ i. record { name = title i; takes = first i } ∷ actions-one cs ds others (λ j d lt less. takes (suc j) d (omega (arith, lt)) (omega (arith, less))) i

-- chains of the same parts are one
chain-same : (a b : Chain) → a.vars ≡ b.vars → a.actions ≡ b.actions → a.modules ≡ b.modules → a.commands ≡ b.commands → a.labels ≡ b.labels → a ≡ b
chain-same a b vars actions modules commands labels =
    let formed : PathP (λ i. IsChain (vars i) (actions i) (modules i) (commands i) (labels i)) a.well_formed b.well_formed =
    is_prop→PathP (λ i. IsChain (vars i) (actions i) (modules i) (commands i) (labels i)) (λ i. hlevel props) a.well_formed b.well_formed in
    λ i. record { vars = vars i; actions = actions i; modules = modules i; commands = commands i; labels = labels i; well_formed = formed i }

-- two chains of a model are one
pub chain-once : (flat : FlatText) (consts : List (Name × Constant)) (chain other : Chain) → IsChainOf flat consts chain → IsChainOf flat consts other → chain ≡ other
chain-once flat consts chain other one two =
    chain-same chain other
    (zip-one (IsVariableOf consts) (one-variable consts) (declared_variables flat) chain.vars other.vars one.vars two.vars)
    (actions-one chain.actions other.actions (one.actions ∙ sym two.actions) (λ i d lt less.
    takes-one other.commands i (get_or chain.actions i d) (get_or other.actions i d)
    (subst (λ (cs : List Act). IsAction cs i (get_or chain.actions i d)) commands-same (chain.well_formed.each_action.each i d lt))
    (other.well_formed.each_action.each i d less)))
    (one.modules ∙ sym two.modules)
    commands-same
    (zip-one (IsLabelOf consts flat) (one-label consts flat) flat.labels chain.labels other.labels one.labels two.labels)
  where
    commands-same : chain.commands ≡ other.commands
    commands-same = zip-one (IsCommandOf consts flat) (one-command consts flat) (declared_commands flat) chain.commands other.commands one.commands two.commands
