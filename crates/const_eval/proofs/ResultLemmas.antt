-- Constants have one list of results at most.
use Rattle.std.proofs.Common.{◌≡◌, ℕ, zero, suc, ◌+◌, ◌<◌, List, [], ◌∷◌, true, false, Option, map, find, length, get_or, cond, bytes_eq, Contains, All, unwrap_or, option_map, nat_lt, not, arith, refl, sym, ap, ◌∙◌, subst}
use Rattle.std.specs.Prelude.{None, Some, Ok, position, slice_get}
use mathlib.Core.Logic.{inl, inr}
use Rattle.std.specs.Option.{option_map_or}
use Rattle.std.specs.List.{filter_map, cons_option, position_or_len}
use Rattle.std.proofs.lemmas.Bool.{cases_lt, lt-ltb}
use Rattle.std.proofs.lemmas.Option.{none-some, cond_some, slice_get_past, slice_get-get_or}
use Rattle.std.proofs.lemmas.List.{get_or-map, length-map}
use Rattle.std.proofs.lemmas.List.Folds.{find_at}
use Rattle.std.proofs.lemmas.List.Elements.{All-nil, All-cons, All-map, Contains-append_cases, Contains-append_left, Contains-append_right, Contains-push}
use Rattle.std.proofs.lemmas.List.Quantifiers.{position-Some}
use Rattle.prism_syntax.specs.declared.expressions.Expr.{Expr}
use Rattle.prism_syntax.specs.declared.models.ConstText.{ConstText}
use Rattle.prism_syntax.specs.declared.models.SortWord.TheVariants as word
use Rattle.chain_model.specs.Values.{Valued}
use Rattle.prism_names.specs.First.{Name}
use Rattle.prism_names.specs.Names.{names_of}
use Rattle.name_graph.specs.Graph.{Uses, IsGraph, HasNoCycle}
use Rattle.const_eval.specs.declared.consts.Constant.{Constant}
use Rattle.const_eval.specs.Evaluating.{value_in, some_value}
use Rattle.const_eval.specs.Constants.{const_names, definition_names, Results, result_in, result_of, AreResults, uses_of, HaveOneResult}
use Rattle.const_eval.proofs.AgreeLemmas.{AgreeOn, agrees}
use Rattle.const_eval.proofs.GraphLemmas.{by_uses}

-- the place of the first constant of a name
abbrev pub place_of : List ConstText → Name → Option ℕ
place_of consts name = position (λ other. bytes_eq other name) (const_names consts)

-- the first constant of a name
abbrev pub const_of : List ConstText → Name → Option ConstText
const_of consts name = find (λ c. bytes_eq c.name name) consts

-- what is listed for each constant
abbrev pub listed : (ConstText → Valued) → List ConstText → Results
listed h consts = map (λ c. (c.name, h c)) consts

-- what is found of a name in such a list
pub find-listed : (h : ConstText → Valued) (consts : List ConstText) (name : Name)
    → option_map (λ r. r.1) (find (λ r. bytes_eq r.0 name) (listed h consts)) ≡ option_map h (const_of consts name)
find-listed h [] name = refl
find-listed h (c ∷ consts) name =
    elim (bytes_eq c.name name) as (λ b. option_map (λ r. r.1) (cond b (Some (c.name, h c)) (find (λ r. bytes_eq r.0 name) (listed h consts)))
    ≡ option_map h (cond b (Some c) (const_of consts name)))
    [ true ↦ refl | false ↦ find-listed h consts name ]

pub result_in-listed : (h : ConstText → Valued) (consts : List ConstText) (name : Name)
    → result_in (listed h consts) name ≡ unwrap_or (option_map h (const_of consts name)) some_value
result_in-listed h consts name = ap (λ o. unwrap_or o some_value) (find-listed h consts name)

names_place : (consts : List ConstText) (name : Name)
    → position_or_len (λ other. bytes_eq other name) (const_names consts) ≡ position_or_len (λ c. bytes_eq c.name name) consts
names_place [] name = refl
names_place (c ∷ consts) name =
    elim (bytes_eq c.name name) as (λ b. cond (not b) (1 + position_or_len (λ other. bytes_eq other name) (const_names consts)) 0
    ≡ cond (not b) (1 + position_or_len (λ d. bytes_eq d.name name) consts) 0)
    [ true ↦ refl | false ↦ ap (λ n. 1 + n) (names_place consts name) ]

-- a name of which there is no constant
pub none_placed : (consts : List ConstText) (name : Name) → place_of consts name ≡ None → const_of consts name ≡ None
none_placed consts name e = elim (cases_lt (position_or_len (λ other. bytes_eq other name) (const_names consts)) (length (const_names consts))) [
  | inl lt ↦ absurd (none-some _ (sym e ∙ ap (λ b. cond b (Some (position_or_len (λ other. bytes_eq other name) (const_names consts))) None) (lt-ltb _ _ lt)))
  | inr past ↦
      find_at (λ c. bytes_eq c.name name) consts
      ∙ slice_get_past consts (position_or_len (λ c. bytes_eq c.name name) consts) (omega (arith, names_place consts name, past, length-map consts (λ c. c.name)))
]

-- the first constant of a name stands at its place
pub some_placed : (consts : List ConstText) (name : Name) (i : ℕ) (d : ConstText) → place_of consts name ≡ Some i
    → (i < length consts) × (const_of consts name ≡ Some (get_or consts i d))
some_placed consts name i d e =
    let found = cond_some (nat_lt (position_or_len (λ other. bytes_eq other name) (const_names consts)) (length (const_names consts))) _ i e in
    let within : i < length consts = omega (arith, (position-Some (λ other. bytes_eq other name) (const_names consts) i name e).0, length-map consts (λ c. c.name)) in
    let at : position_or_len (λ c. bytes_eq c.name name) consts ≡ i = sym (names_place consts name) ∙ found.1 in
    (within, find_at (λ c. bytes_eq c.name name) consts ∙ (ap (slice_get consts) at ∙ slice_get-get_or consts i d within))

only_one : {X : Type 0} (first x : X) → Contains (first ∷ []) x → first ≡ x
only_one first x (zero, lt, is) = is
only_one first x (suc k, lt, is) = absurd (omega (arith, lt))

below : {Y : Type 0} (o : Option Y) (y : Y) (ys : List Y) → Contains ys y → Contains (cons_option o ys) y
below None y ys c = c
below (Some first) y ys c = Contains-append_right (first ∷ []) ys y c

put : {Y : Type 0} (P : Y → Type 0) (o : Option Y) (ys : List Y) → ((y : Y) → o ≡ Some y → P y) → All P ys → All P (cons_option o ys)
put P None ys here all = all
put P (Some y) ys here all = All-cons P y ys (here y refl) all

-- one of a list, where something is made of it
pub Contains-filter_map : {X Y : Type 0} (h : X → Option Y) (xs : List X) (x : X) (y : Y) → Contains xs x → h x ≡ Some y → Contains (filter_map h xs) y
Contains-filter_map h [] x y c e = absurd (omega (arith, c.1))
Contains-filter_map h (first ∷ xs) x y c e = elim (Contains-append_cases (first ∷ []) xs x c) [
  | inl here ↦
      let same : first ≡ x = only_one first x here in
      subst (λ o. Contains (cons_option o (filter_map h xs)) y) (sym (ap h same ∙ e)) (Contains-append_left (y ∷ []) (filter_map h xs) y (Contains-push [] y))
  | inr there ↦ below (h first) y (filter_map h xs) (Contains-filter_map h xs x y there e)
]

pub All-filter_map : {X Y : Type 0} (P : Y → Type 0) (h : X → Option Y) → ((x : X) (y : Y) → h x ≡ Some y → P y) → (xs : List X) → All P (filter_map h xs)
All-filter_map P h each [] = All-nil P
All-filter_map P h each (x ∷ xs) = put P (h x) (filter_map h xs) (each x) (All-filter_map P h each xs)

-- the places that are used are those of constants
pub uses_within : (consts : List ConstText) → IsGraph (uses_of consts)
uses_within consts =
    All-map (λ uses. All (λ j. j < length (uses_of consts)) uses) (λ c. filter_map (place_of consts) (definition_names c)) consts
    (λ k d lt. All-filter_map (λ j. j < length (uses_of consts)) (place_of consts)
    (λ name j e. omega (arith, (position-Some (λ other. bytes_eq other name) (const_names consts) j name e).0, length-map consts (λ c. c.name), length-map consts (λ c. filter_map (place_of consts) (definition_names c))))
    (definition_names (get_or consts k d)))

-- a name in the definition of the constant at a place is one that the place uses
pub reads_used : (consts : List ConstText) (i j : ℕ) (d : ConstText) (name : Name) → i < length consts
    → Contains (definition_names (get_or consts i d)) name → place_of consts name ≡ Some j → Uses (uses_of consts) i j
reads_used consts i j d name lt c e =
    subst (λ uses. Contains uses j) (sym (get_or-map (λ c. filter_map (place_of consts) (definition_names c)) consts i d [] lt))
    (Contains-filter_map (place_of consts) (definition_names (get_or consts i d)) name j c e)

defined_agree : (f g : Name → Valued) (value : Option Expr) → AgreeOn f g (option_map_or names_of value [])
    → option_map_or (value_in f) value some_value ≡ option_map_or (value_in g) value some_value
defined_agree f g None both = refl
defined_agree f g (Some x) both = agrees f g x both

-- a constant has one result where both tables agree on the names of its definition
pub result_agrees : (given : Name → Option Constant) (f g : Name → Valued) (c : ConstText) → AgreeOn f g (definition_names c) → result_of given f c ≡ result_of given g c
result_agrees given f g c both = ap (option_map_or (λ h. Ok h.value) (given c.name)) (defined_agree f g c.value both)

-- the result of a name in the results of constants
pub result_in-results : (consts : List ConstText) (given : Name → Option Constant) (results : Results) → AreResults consts given results → (name : Name)
    → result_in results name ≡ unwrap_or (option_map (result_of given (result_in results)) (const_of consts name)) some_value
result_in-results consts given results are name = ap (λ rs. result_in rs name) are ∙ result_in-listed (result_of given (result_in results)) consts name

-- results agree on the name of a place
abbrev AgreeAt : List ConstText → (results others : Results) → ℕ → Type 0
AgreeAt consts results others i = (name : Name) → place_of consts name ≡ Some i → result_in results name ≡ result_in others name

module _ (consts : List ConstText) (given : Name → Option Constant) (results others : Results) (are : AreResults consts given results) (so : AreResults consts given others) where
  -- a name that is no constant
  agree_none : (name : Name) → place_of consts name ≡ None → result_in results name ≡ result_in others name
  agree_none name e =
      let none = none_placed consts name e in
      let one = result_in-results consts given results are name ∙ ap (λ o. unwrap_or (option_map (result_of given (result_in results)) o) some_value) none in
      let other = result_in-results consts given others so name ∙ ap (λ o. unwrap_or (option_map (result_of given (result_in others)) o) some_value) none in
      one ∙ sym other

  -- any name, where they agree at its place
  agree_name : (name : Name) (place : Option ℕ) → place_of consts name ≡ place → ((i : ℕ) → place ≡ Some i → AgreeAt consts results others i)
      → result_in results name ≡ result_in others name
  agree_name name None e at = agree_none name e
  agree_name name (Some i) e at = at i refl name e

  -- they agree at a place if they do at all that it uses
  agree_step : (i : ℕ) → ((j : ℕ) → Uses (uses_of consts) i j → AgreeAt consts results others j) → AgreeAt consts results others i
  agree_step i used name e =
      let d : ConstText = record { name = []; sort = word.Int; value = None } in
      let c : ConstText = get_or consts i d in
      let placed = some_placed consts name i d e in
      let one = result_in-results consts given results are name ∙ ap (λ o. unwrap_or (option_map (result_of given (result_in results)) o) some_value) placed.1 in
      let other = result_in-results consts given others so name ∙ ap (λ o. unwrap_or (option_map (result_of given (result_in others)) o) some_value) placed.1 in
      let same = result_agrees given (result_in results) (result_in others) c
      (λ m reads. agree_name m (place_of consts m) refl (λ j at. used j (reads_used consts i j d m placed.0 reads at))) in
      one ∙ (same ∙ sym other)

  agree_all : HasNoCycle (uses_of consts) → (name : Name) → result_in results name ≡ result_in others name
  agree_all none name = agree_name name (place_of consts name) refl
      (λ i e. by_uses (uses_of consts) (uses_within consts) none (AgreeAt consts results others) agree_step i
      (omega (arith, (some_placed consts name i (record { name = []; sort = word.Int; value = None }) e).0, length-map consts (λ c. filter_map (place_of consts) (definition_names c)))))

pub one_result : HaveOneResult
one_result consts given results others none are so =
    let same = agree_all consts given results others are so none in
    are ∙ ((λ i. map (λ c. (c.name, result_of given (λ name. same name i) c)) consts) ∙ sym so)
