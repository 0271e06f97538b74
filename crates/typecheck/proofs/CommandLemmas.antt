-- The commands of a chain are those of the text, where nothing is wrong with them.
use Rattle.std.proofs.Common.{◌≡◌, ℕ, ◌+◌, ◌<◌, ◌≤◌, List, [], ◌∷◌, ◌++◌, append_assoc, cond, count_by, find, Option, Bool, true, false, not, All, length, map, get_or, bytes_eq, refl, sym, ap, ◌∙◌, subst, unwrap_or, arith, option_map, is_some}
use Rattle.std.specs.Prelude.{None, Some, ◌==◌, ◌&&◌, IfSome, MatchOption, position, slice_get, nat_lt, if◌then◌else◌}
use mathlib.Core.Logic.{inl, inr}
use Rattle.std.specs.List.{AllPairs, list_all}
use Rattle.std.specs.Option.{option_map_or, option_and_then, IsSomeAnd}
use Rattle.std.proofs.lemmas.Bool.{eqb-true, eq-eqb, cases_Bool}
use Rattle.std.proofs.lemmas.Grind.{common_steps}
use Rattle.std.proofs.lemmas.List.{length-map, get_or-map}
use Rattle.std.proofs.lemmas.List.Kept.{AllPairs-cons}
use Rattle.std.proofs.lemmas.List.Quantifiers.{position-Some}
use Rattle.std.proofs.lemmas.List.Elements.{All-nil, All-cons, All-weaker}
use Rattle.std.proofs.lemmas.Option.{slice_get_within, slice_get-map}
use Rattle.chain_model.specs.declared.values.Sort.{Sort}
use Rattle.chain_model.specs.declared.values.Sort.TheVariants as sort
use Rattle.chain_model.specs.declared.values.Value.TheVariants as value
use Rattle.chain_model.specs.declared.expressions.Labels.TheVariants.{Refused}
use Rattle.chain_model.specs.declared.expressions.Typed.{Typed}
use Rattle.chain_model.specs.declared.chain.Var.{Var}
use Rattle.chain_model.specs.declared.chain.Arm.{Arm}
use Rattle.chain_model.specs.declared.chain.Act.{Act}
use Rattle.chain_model.specs.Chain.{may_assign, IsAssignment, IsBranch, IsCommand}
use Rattle.chain_model.specs.Sorts.{◌>>=◌, is_number}
use Rattle.chain_model.specs.Typing.{IsNumber, sort_of}
use Rattle.prism_syntax.specs.declared.expressions.Expr.{Expr}
use Rattle.prism_syntax.specs.declared.commands.Branch.{Branch}
use Rattle.prism_syntax.specs.declared.commands.Command.{Command}
use Rattle.prism_syntax.specs.declared.models.Variable.{Variable}
use Rattle.prism_syntax.specs.declared.models.FlatText.{FlatText}
use Rattle.prism_names.specs.First.{Name, AreDistinct, first_some, first_repeated}
use Rattle.const_eval.specs.declared.consts.Constant.{Constant}
use Rattle.typed_trees.specs.Leaves.{literal, shown, variable_leaf, leaf_of}
use Rattle.typed_trees.specs.Trees.{tree_of, no_label}
use Rattle.typed_trees.specs.Numbers.{constant_value}
use Rattle.typed_trees.proofs.TypedLemmas.{literal-IsTyped}
use Rattle.typed_trees.proofs.TableLemmas.{same_bytes, own_bytes}
use Rattle.typecheck.specs.Declarations.{declared_sort, declared_variables, declared_actions, variable_sorts}
use Rattle.typecheck.specs.ModelRefusals.{sort_by}
use Rattle.typecheck.specs.Items.{is_tree_of, assignment_fits, weight_fits, branch_fits, command_fits}
use Rattle.typecheck.specs.Writes.{owner_in, is_foreign, is_global, first_assigned, assigned_names, foreign_write, global_write, double_write}
use Rattle.typecheck.specs.Chains.{one, IsNumberOf, IsTreeOf, IsBranchOf, IsCommandOf}
use Rattle.typecheck.specs.Parts.{all_made, number_of, assigned_number, made_variable, made_set, made_weight, made_branch, action_number, made_command}
use Rattle.typecheck.proofs.MakingLemmas.{made-each, zip-All, zip-Pairs, zip-long, zip-weaker}
use Rattle.typecheck.proofs.FirstOfLemmas as FirstOf
use Rattle.typecheck.proofs.FirstOfLemmas.{both, each-passes, each-none}
use Rattle.typecheck.proofs.DeclaredLemmas.{shown-small}
use Rattle.typecheck.proofs.LookupLemmas.{Found, found, number-of-variable}
use Rattle.typecheck.proofs.TypeLemmas.{tree-there, there-passes, tree-typed, tree-sorted}

-- what is mapped from something there
unmapped-Some : {X Y : Type 0} (g : X → Y) (o : Option X) (y : Y) → option_map g o ≡ Some y → (x : X) × (o ≡ Some x) × (g x ≡ y)
unmapped-Some g None y is = absurd (let never : ⊥ = cc in never)
unmapped-Some g (Some x) y is = (x, refl, ap (λ o. unwrap_or o y) is)

untrue : (b : Bool) → not b ≡ false → b ≡ true
untrue true is = refl
untrue false is = absurd (let never : ⊥ = cc in never)

-- a command may assign the variable of an owner that is no other module, and no global where the command is labelled
may : (owner : ℕ) (action : Option ℕ) (o : Option ℕ) (m : ℕ) → m ≡ shown owner → is_foreign owner (Some o) ≡ false → (is_some action ≡ true → is_global (Some o) ≡ false)
    → option_map_or (λ w. w == m) (option_map shown o) (option_map_or (λ a. false) action true) ≡ true
may owner action (Some w) m is own free =
    eq-eqb (shown w) m (ap shown (eqb-true w owner (untrue (w == owner) own)) ∙ sym is)
may owner None None m is own free = refl
may owner (Some a) None m is own free = absurd (let wrong : true ≡ false = free refl in let never : ⊥ = cc in never)

module _ (flat : FlatText) (consts : List (Name × Constant)) where
  abbrev declared : List (Option ℕ × Variable)
  declared = declared_variables flat

  abbrev vars : List Var
  vars = map (made_variable (constant_value consts)) declared

  abbrev variables : Name → Option Typed
  variables = variable_leaf (variable_sorts flat)

  abbrev tree : Expr → Option Typed
  tree = tree_of (leaf_of consts (variable_sorts flat)) no_label

  -- two names of one variable are one
  same-number : (n m : Name) (k : ℕ) → IsNumberOf flat n k → IsNumberOf flat m k → n ≡ m
  same-number n m k one two =
      let d : Name × Sort = (n, sort.Bool) in
      let first = position-Some (λ v. bytes_eq n v.0) (variable_sorts flat) k d one in
      let second = position-Some (λ v. bytes_eq m v.0) (variable_sorts flat) k d two in
      same_bytes n (get_or (variable_sorts flat) k d).0 first.1 ∙ sym (same_bytes m (get_or (variable_sorts flat) k d).0 second.1)

  module _ (few : length vars ≤ 256) (owner : ℕ) (action : Option ℕ) where
    -- a command of this module and action
    abbrev Of : Act → Type 0
    Of act = (act.module ≡ shown owner) × (act.action ≡ action)

    -- what is known of an assignment
    abbrev SetFits : Name × Expr → Type 0
    SetFits set = (assignment_fits tree (sort_by variables) set ≡ true) × (is_foreign owner (owner_in declared set.0) ≡ false)
        × (is_some action ≡ true → is_global (owner_in declared set.0) ≡ false)

    abbrev IsSet : Name × Expr → ℕ × Typed → Type 0
    IsSet set a = IsNumberOf flat set.0 a.0 × IsTreeOf consts flat set.1 a.1 × ((act : Act) → Of act → IsAssignment vars act a)

    -- what is made of an assignment to a variable that is found
    set-from : (set : Name × Expr) → SetFits set → (f : Found set.0 declared) (s : Sort) (r : Typed) → declared_sort f.var.1 ≡ s → tree set.1 ≡ Some r → r.sort ≡ s
        → f.place < length vars → shown f.place ≡ f.place → (a : ℕ × Typed) × (made_set tree variables set ≡ Some a) × IsSet set a
    set-from set fits f s r sorted right same inside exact = (
      (f.place, r),
      ap (λ o. o >>= λ n. tree set.1 >>= λ right. Some (n, right)) number ∙ ap (λ o. o >>= λ right. Some (f.place, right)) right,
      (
        f.placed,
        right,
        λ act of. record {
          known = inside;
          allowed = λ var at.
              subst (λ (v : Var). may_assign act v ≡ true) (at-place var at)
              (ap (λ (a : Option ℕ). option_map_or (λ w. w == act.module) (option_map shown f.var.0) (option_map_or (λ b. false) a true)) of.1
              ∙ may owner action f.var.0 act.module of.0 (ap (is_foreign owner) (sym f.owner) ∙ fits.1) (λ labelled. ap is_global (sym f.owner) ∙ fits.2 labelled));
          typed = λ var at. tree-sorted consts declared (constant_value consts) few set.1 r var.sort right (same ∙ (sym sorted ∙ ap (λ (v : Var). v.sort) (at-place var at)));
        },
      ),
    )
      where
        number : assigned_number variables set.0 ≡ Some f.place
        number = ap (λ o. o >>= number_of) f.tree ∙ (number-of-variable (declared_sort f.var.1) (shown f.place) ∙ ap Some exact)

        at-place : (var : Var) → slice_get vars f.place ≡ Some var → made_variable (constant_value consts) f.var ≡ var
        at-place var at =
            ap (λ o. unwrap_or o var) (sym (slice_get-map (made_variable (constant_value consts)) declared f.place ∙ ap (option_map (made_variable (constant_value consts))) f.there) ∙ at)

    set-found : (set : Name × Expr) → SetFits set → (f : Found set.0 declared) (s : Sort) (r : Typed) → sort_by variables set.0 ≡ Some s → tree set.1 ≡ Some r → r.sort ≡ s
        → (a : ℕ × Typed) × (made_set tree variables set ≡ Some a) × IsSet set a
    set-found set fits f s r found right same =
        let within : f.place < length declared = slice_get_within declared f.place f.var f.there in
        let inside : f.place < length vars = omega (arith, within, length-map declared (made_variable (constant_value consts))) in
        let exact : shown f.place ≡ f.place = shown-small f.place (omega (arith, inside, few)) in
        set-from set fits f s r (ap (λ o. unwrap_or o s) (sym (ap (option_map (λ t. t.sort)) f.tree) ∙ found)) right same inside exact

    set-made : (set : Name × Expr) → SetFits set → (a : ℕ × Typed) × (made_set tree variables set ≡ Some a) × IsSet set a
    set-made set fits =
        let s = there-passes (λ s. is_tree_of s (tree set.1)) (sort_by variables set.0) fits.0 in
        let t = unmapped-Some (λ t. t.sort) (variables set.0) s.0 s.1 in
        let r = tree-there s.0 (tree set.1) s.2 in
        set-found set fits (found set.0 declared t.0 t.1) s.0 r.0 s.1 r.1 r.2

    -- what is known of a branch
    abbrev BranchFits : Branch → Type 0
    BranchFits b = (branch_fits tree (sort_by variables) b ≡ true) × All (λ s. is_foreign owner (owner_in declared s.0) ≡ false) b.sets
        × All (λ s. is_some action ≡ true → is_global (owner_in declared s.0) ≡ false) b.sets × AreDistinct (assigned_names b)

    abbrev IsArm : Branch → Arm → Type 0
    IsArm b arm = IsBranchOf consts flat b arm × ((act : Act) → Of act → IsBranch vars act arm)

    -- a weight is there, and is a number
    weight-made : (b : Branch) → weight_fits tree (sort_by variables) b ≡ true
        → (w : Typed) × (made_weight tree b ≡ Some w) × MatchOption b.weight (w ≡ literal sort.Int (value.Num one)) (λ x. IsTreeOf consts flat x w) × IsNumber vars Refused w
    weight-made b fits = go b.weight fits
      where
        number : (w : Typed) (s : Sort) → sort_of vars Refused w ≡ Some s → is_number s ≡ true → IsNumber vars Refused w
        number w s is holds = subst (λ (o : Option Sort). IsSomeAnd o (λ t. is_number t ≡ true)) (sym is) holds

        go : (o : Option Expr) → option_map_or (λ x. option_map_or (λ t. is_number t.sort) (tree x) false) o true ≡ true
            → (w : Typed) × (option_map_or tree o (Some (literal sort.Int (value.Num one))) ≡ Some w)
            × MatchOption o (w ≡ literal sort.Int (value.Num one)) (λ x. IsTreeOf consts flat x w) × IsNumber vars Refused w
        go None holds = (
          literal sort.Int (value.Num one),
          refl,
          refl,
          number (literal sort.Int (value.Num one)) sort.Int (literal-IsTyped vars Refused sort.Int (value.Num one) refl) refl,
        )
        go (Some x) holds =
            let t = there-passes (λ t. is_number t.sort) (tree x) holds in
            (t.0, t.1, t.1, number t.0 t.0.sort (tree-typed consts declared (constant_value consts) few x t.0 t.1) t.2)

    branch-made : (b : Branch) → BranchFits b → (arm : Arm) × (made_branch tree variables b ≡ Some arm) × IsArm b arm
    branch-made b fits =
        let two = both (weight_fits tree (sort_by variables) b) (list_all (assignment_fits tree (sort_by variables)) b.sets) fits.0 in
        let w = weight-made b two.0 in
        let all : All SetFits b.sets = λ k d lt. (each-passes (assignment_fits tree (sort_by variables)) b.sets two.1 k d lt, fits.1 k d lt, fits.2 k d lt) in
        let sets = made-each (made_set tree variables) SetFits IsSet set-made b.sets all in (
          record { weight = w.0; sets = sets.0 },
          ap (λ o. o >>= λ weight. all_made (map (made_set tree variables) b.sets) >>= λ ss. Some (record { weight = weight; sets = ss })) w.1
              ∙ ap (λ o. o >>= λ ss. Some (record { weight = w.0; sets = ss })) sets.1,
          (
            record {
              weight = w.2;
              sets = zip-weaker IsSet (λ set a. IsNumberOf flat set.0 a.0 × IsTreeOf consts flat set.1 a.1) (λ set a is. (is.0, is.1)) b.sets sets.0 sets.2;
            },
            λ act of. record {
              weight = w.3;
              assignments = zip-All IsSet (IsAssignment vars act) (λ set a is. is.2 act of) b.sets sets.0 sets.2;
              once = zip-Pairs IsSet (λ a b. a.0 ≡ b.0 → ⊥) (λ a b. a.0 ≡ b.0 → ⊥)
                  (λ x z y w one two differ same. differ (same-number x.0 z.0 w.0 (subst (λ (k : ℕ). IsNumberOf flat x.0 k) same one.0) two.0))
                  b.sets sets.0 sets.2 (unmapped-pairs b.sets fits.3);
            },
          ),
        )
      where
        unmapped-pairs : (sets : List (Name × Expr)) → AreDistinct (map (λ s. s.0) sets) → AllPairs (λ a b. a.0 ≡ b.0 → ⊥) sets
        unmapped-pairs sets distinct = λ i j d lt within same.
            let long = length-map sets (λ (s : Name × Expr). s.0) in
            distinct i j d.0 lt (omega (arith, within, long))
            (get_or-map (λ (s : Name × Expr). s.0) sets i d d.0 (omega (arith, lt, within)) ∙ (same ∙ sym (get_or-map (λ (s : Name × Expr). s.0) sets j d d.0 within)))

-- the number of an action is its place
small-place : (o : Option ℕ) → ((k : ℕ) → o ≡ Some k → k < 4294967295) → option_map shown o ≡ o
small-place None small = refl
small-place (Some k) small = ap Some (shown-small k (small k refl))

place-below : (names : List Name) (name : Name) (k : ℕ) → position (bytes_eq name) names ≡ Some k → k < length names
place-below names name k is = (position-Some (bytes_eq name) names k name is).0

action-exact : (names : List Name) (action : Option Name) → length names ≤ 4096 → action_number names action ≡ option_and_then (λ name. position (bytes_eq name) names) action
action-exact names None few = refl
action-exact names (Some name) few =
    small-place (position (bytes_eq name) names) (λ k is. omega (arith, place-below names name k is, few))

action-below : (names : List Name) (action : Option Name) → length names ≤ 4096 → IfSome (action_number names action) (λ n. n < length names)
action-below names None few = tt
action-below names (Some name) few =
    subst (λ (o : Option ℕ). IfSome o (λ n. n < length names)) (sym (action-exact names (Some name) few)) (go (position (bytes_eq name) names) (place-below names name))
  where
    go : (o : Option ℕ) → ((k : ℕ) → o ≡ Some k → k < length names) → IfSome o (λ n. n < length names)
    go None below = tt
    go (Some k) below = below k refl

-- a command whose action has a number is labelled
labelled : (names : List Name) (action : Option Name) → is_some (action_number names action) ≡ true → is_some action ≡ true
labelled names None is = is
labelled names (Some name) is = refl

-- where no name is repeated the names are distinct
not_none : {X : Type 0} (x : X) → Some x ≡ None → ⊥
not_none x is = let never : ⊥ = cc in never

few-times : (n : ℕ) → nat_lt 1 n ≡ false → n ≤ 1
few-times n h = grind (arith, h)

count_split : (test : Name → Bool) (front rest : List Name) (x : Name)
    → count_by test (front ++ (x ∷ rest)) ≡ count_by test front + (cond (test x) 1 0 + count_by test rest)
count_split test front rest x = grind (arith, common_steps)

cons_more : (test : Name → Bool) (rest : List Name) (x : Name) → count_by test (x ∷ rest) ≡ cond (test x) 1 0 + count_by test rest
cons_more test rest x = grind (arith, common_steps)

none-equal : (n : Name) (rest : List Name) → count_by (λ o. bytes_eq o n) rest ≡ 0 → All (λ o. n ≡ o → ⊥) rest
none-equal n [] none = All-nil (λ o. n ≡ o → ⊥)
none-equal n (x ∷ rest) none =
    let counted : count_by (λ o. bytes_eq o n) (x ∷ rest) ≡ cond (bytes_eq x n) 1 0 + count_by (λ o. bytes_eq o n) rest = cons_more (λ o. bytes_eq o n) rest x in
    All-cons (λ o. n ≡ o → ⊥) x rest
    (λ same. let here : ◌≡◌ {A = ℕ} (cond (bytes_eq x n) 1 0) 1 = ap (λ b. cond b 1 0) (ap (bytes_eq x) same ∙ own_bytes x) in omega (arith, here, counted, none))
    (none-equal n rest (omega (arith, counted, none)))

unrepeated : (front rest all : List Name) → all ≡ front ++ rest → find (λ n. nat_lt 1 (count_by (λ o. bytes_eq o n) all)) rest ≡ None → AreDistinct rest
unrepeated front [] all whole none = λ i j d lt within. absurd (omega (arith, within))
unrepeated front (n ∷ rest) all whole none = elim (cases_Bool (nat_lt 1 (count_by (λ o. bytes_eq o n) all))) [
  | inl more ↦
      absurd (not_none n (sym (ap (λ b. cond b (Some n) (find (λ m. nat_lt 1 (count_by (λ o. bytes_eq o m) all)) rest)) more) ∙ none))
  | inr once ↦
      let most : count_by (λ o. bytes_eq o n) all ≤ 1 = few-times (count_by (λ o. bytes_eq o n) all) once in
      let split : count_by (λ o. bytes_eq o n) all ≡ count_by (λ o. bytes_eq o n) front + (1 + count_by (λ o. bytes_eq o n) rest) =
      ap (count_by (λ o. bytes_eq o n)) whole ∙ (count_split (λ o. bytes_eq o n) front rest n ∙ ap (λ b. count_by (λ o. bytes_eq o n) front + (cond b 1 0 + count_by (λ o. bytes_eq o n) rest)) (own_bytes n)) in
      AllPairs-cons (λ a b. a ≡ b → ⊥) n rest (none-equal n rest (omega (arith, most, split)))
      (unrepeated (front ++ (n ∷ [])) rest all (whole ∙ sym (append_assoc front (n ∷ []) rest))
      (sym (ap (λ b. cond b (Some n) (find (λ m. nat_lt 1 (count_by (λ o. bytes_eq o m) all)) rest)) once) ∙ none))
]

module _ (flat : FlatText) (consts : List (Name × Constant)) (few : length (map (made_variable (constant_value consts)) (declared_variables flat)) ≤ 256)
    (modules : ℕ) (names-few : length (declared_actions flat) ≤ 4096) (modules-few : modules ≤ 64) where
  abbrev owners : Name → Option (Option ℕ)
  owners = owner_in (declared_variables flat)

  -- what is known of a command
  pub record Fits (c : ℕ × Command) : Type 0 where
    pub fit : command_fits (tree flat consts) (sort_by (variables flat consts)) c.1 ≡ true
    pub own : foreign_write owners c ≡ None
    pub free : global_write owners c.1 ≡ None
    pub once : double_write c.1 ≡ None
    pub narrow : nat_lt 64 (length c.1.branches) ≡ false
    pub inside : c.0 < modules

  pub record IsAct (c : ℕ × Command) (act : Act) : Type 0 where
    pub text : IsCommandOf consts flat c act
    pub formed : IsCommand (vars flat consts) (length (declared_actions flat)) modules act
    pub owner : act.module ≡ c.0
    pub action : act.action ≡ action_number (declared_actions flat) c.1.action

  pub command-made : (c : ℕ × Command) → Fits c
      → (act : Act) × (made_command (tree flat consts) (variables flat consts) (declared_actions flat) c ≡ Some act) × IsAct c act
  command-made c fits =
      let one = both (is_tree_of sort.Bool (tree flat consts c.1.guard)) (nat_lt 0 (length c.1.branches) && list_all (branch_fits (tree flat consts) (sort_by (variables flat consts))) c.1.branches) fits.fit in
      let two = both (nat_lt 0 (length c.1.branches)) (list_all (branch_fits (tree flat consts) (sort_by (variables flat consts))) c.1.branches) one.1 in
      let g = tree-there sort.Bool (tree flat consts c.1.guard) one.0 in
      let action : Option ℕ = action_number (declared_actions flat) c.1.action in
      let all : All (BranchFits flat consts few c.0 action) c.1.branches = λ k d lt. (
        each-passes (branch_fits (tree flat consts) (sort_by (variables flat consts))) c.1.branches two.1 k d lt,
        owned c.1.branches fits.own k d lt,
        unowned k d lt,
        unrepeated [] (assigned_names (get_or c.1.branches k d)) (assigned_names (get_or c.1.branches k d)) refl
            (each-none (λ b. first_repeated (assigned_names b) (assigned_names b)) c.1.branches fits.once k d lt),
      ) in
      let arms = made-each (made_branch (tree flat consts) (variables flat consts)) (BranchFits flat consts few c.0 action) (IsArm flat consts few c.0 action)
      (branch-made flat consts few c.0 action) c.1.branches all in
      let long : length c.1.branches ≡ length arms.0 = zip-long (IsArm flat consts few c.0 action) c.1.branches arms.0 arms.2 in
      let exact : shown c.0 ≡ c.0 = shown-small c.0 (omega (arith, fits.inside, modules-few)) in
      let act : Act = record { «module» = shown c.0; action = action; guard = g.0; branches = arms.0 } in (
        act,
        ap (λ o. o >>= λ guard. all_made (map (made_branch (tree flat consts) (variables flat consts)) c.1.branches) >>= λ branches.
            Some (record { «module» = shown c.0; action = action; guard = guard; branches = branches })) g.1
            ∙ ap (λ o. o >>= λ branches. Some (record { «module» = shown c.0; action = action; guard = g.0; branches = branches })) arms.1,
        record {
          text = record {
            owner = exact;
            action = action-exact (declared_actions flat) c.1.action names-few;
            guard = g.1;
            branches = zip-weaker (IsArm flat consts few c.0 action) (IsBranchOf consts flat) (λ b arm is. is.0) c.1.branches arms.0 arms.2;
          };
          formed = record {
            owner = subst (λ (n : ℕ). n < modules) (sym exact) fits.inside;
            action = action-below (declared_actions flat) c.1.action names-few;
            guard = tree-sorted consts (declared_variables flat) (constant_value consts) few c.1.guard g.0 sort.Bool g.1 g.2;
            some = omega (arith, long, some-branch (length c.1.branches) two.0);
            few = omega (arith, long, no-more (length c.1.branches) fits.narrow);
            branches = zip-All (IsArm flat consts few c.0 action) (IsBranch (vars flat consts) act) (λ b arm is. is.1 act (refl, refl)) c.1.branches arms.0 arms.2;
          };
          owner = exact;
          action = refl;
        },
      )
    where
      some-branch : (n : ℕ) → nat_lt 0 n ≡ true → 1 ≤ n
      some-branch n h = grind (arith, h)

      no-more : (n : ℕ) → nat_lt 64 n ≡ false → n ≤ 64
      no-more n h = grind (arith, h)

      untested : (test : Name → Bool) (sets : List (Name × Expr)) → first_some (λ s. if test s.0 then Some s.0 else None) sets ≡ None → All (λ s. test s.0 ≡ false) sets
      untested test sets none =
          All-weaker (λ s. (if test s.0 then Some s.0 else None) ≡ None) (λ s. test s.0 ≡ false) (λ s is. FirstOf.fails (test s.0) s.0 is) sets
          (each-none (λ s. if test s.0 then Some s.0 else None) sets none)

      owned : (branches : List Branch) → first_some (λ b. first_some (λ s. if is_foreign c.0 (owners s.0) then Some s.0 else None) b.sets) branches ≡ None
          → All (λ b. All (λ s. is_foreign c.0 (owners s.0) ≡ false) b.sets) branches
      owned branches none =
          All-weaker (λ b. first_some (λ s. if is_foreign c.0 (owners s.0) then Some s.0 else None) b.sets ≡ None) (λ b. All (λ s. is_foreign c.0 (owners s.0) ≡ false) b.sets)
          (λ b is. untested (λ name. is_foreign c.0 (owners name)) b.sets is) branches
          (each-none (λ b. first_some (λ s. if is_foreign c.0 (owners s.0) then Some s.0 else None) b.sets) branches none)

      free-sets : is_some c.1.action ≡ true → All (λ b. All (λ s. is_global (owners s.0) ≡ false) b.sets) c.1.branches
      free-sets has =
          let none : first_some (λ b. first_some (λ s. if is_global (owners s.0) then Some s.0 else None) b.sets) c.1.branches ≡ None =
          sym (ap (λ b. if b then first_assigned (λ name. is_global (owners name)) c.1 else None) has) ∙ fits.free in
          All-weaker (λ b. first_some (λ s. if is_global (owners s.0) then Some s.0 else None) b.sets ≡ None) (λ b. All (λ s. is_global (owners s.0) ≡ false) b.sets)
          (λ b is. untested (λ name. is_global (owners name)) b.sets is) c.1.branches
          (each-none (λ b. first_some (λ s. if is_global (owners s.0) then Some s.0 else None) b.sets) c.1.branches none)

      unowned : All (λ b. All (λ s. is_some (action_number (declared_actions flat) c.1.action) ≡ true → is_global (owners s.0) ≡ false) b.sets) c.1.branches
      unowned k d lt j e below has = free-sets (labelled (declared_actions flat) c.1.action has) k d lt j e below
