-- Tables of the results of some constants: each result is the constant's under this very table, which has all that its definition reads.
use Rattle.std.proofs.Common.{◌≡◌, ℕ, ◌+◌, ◌<◌, List, [], ◌∷◌, ◌++◌, Option, Bool, false, length, get_or, take, cond, bytes_eq, Contains, unwrap_or, option_map, nat_lt, arith, refl, sym, ap, ◌∙◌, subst}
use Rattle.std.specs.Prelude.{None, Some, slice_get}
use mathlib.Core.Logic.{inl, inr}
use Rattle.std.specs.List.{position_or_len, filter_map}
use Rattle.std.proofs.lemmas.Bool.{cases_Bool, lt-ltb}
use Rattle.std.proofs.lemmas.Option.{none-some, same_Some, slice_get-get_or}
use Rattle.std.proofs.lemmas.List.{get_or-map, get_or_default, length-map, take_more}
use Rattle.std.proofs.lemmas.List.Elements.{Contains-push_cases}
use Rattle.std.proofs.lemmas.List.Quantifiers.{position-Some}
use Rattle.std.proofs.lemmas.List.Sums.{position_or_len_is}
use Rattle.prism_syntax.specs.declared.models.ConstText.{ConstText}
use Rattle.prism_syntax.specs.declared.models.SortWord.TheVariants as word
use Rattle.chain_model.specs.Values.{Valued}
use Rattle.prism_names.specs.First.{Name, AreDistinct}
use Rattle.name_graph.specs.Graph.{IsOrder}
use Rattle.const_eval.specs.declared.consts.Constant.{Constant}
use Rattle.const_eval.specs.Evaluating.{by_table, some_value}
use Rattle.const_eval.specs.Constants.{const_names, definition_names, result_of, uses_of}
use Rattle.const_eval.specs.Listing.{IsValuation, FaultsInArithmetic}
use Rattle.const_eval.proofs.AgreeLemmas.{AgreeOn}
use Rattle.const_eval.proofs.ArithmeticLemmas.{result_faults}
use Rattle.const_eval.proofs.ListingLemmas.{same_bytes, own_bytes}
use Rattle.const_eval.proofs.ResultLemmas.{place_of, const_of, none_placed, some_placed, reads_used, result_agrees}

-- no constant in particular
abbrev pub nothing : ConstText
nothing = record { name = []; sort = word.Int; value = None }

-- the constant at a place
abbrev pub const_at : List ConstText → ℕ → ConstText
const_at consts i = get_or consts i nothing

-- the table has a result for a name
abbrev pub Has : (Name → Option Valued) → Name → Type 0
Has table name = table name ≡ None → ⊥

-- the table has a result for each constant among these names
abbrev pub Knows : List ConstText → (Name → Option Valued) → List Name → Type 0
Knows consts table names = (name : Name) (place : ℕ) → Contains names name → place_of consts name ≡ Some place → Has table name

-- a result in the table is that of its constant
pub record IsResult (consts : List ConstText) (given : Name → Option Constant) (table : Name → Option Valued) (name : Name) (result : Valued) : Type 0 where
  pub place : ℕ
  pub placed : place_of consts name ≡ Some place
  pub is : result ≡ result_of given (by_table table) (const_at consts place)
  pub knows : Knows consts table (definition_names (const_at consts place))
  pub arithmetic : FaultsInArithmetic result

-- each result in the table is that of its constant
abbrev pub IsPart : List ConstText → (Name → Option Constant) → (Name → Option Valued) → Type 0
IsPart consts given table = (name : Name) (result : Valued) → table name ≡ Some result → IsResult consts given table name result

-- the table has the constants at these places
abbrev pub HasPlaces : List ConstText → (Name → Option Valued) → List ℕ → Type 0
HasPlaces consts table places = (i : ℕ) → Contains places i → Has table (const_at consts i).name

-- the constant at the place of a name has that name
pub placed_name : (consts : List ConstText) (name : Name) (i : ℕ) → place_of consts name ≡ Some i → (const_at consts i).name ≡ name
placed_name consts name i e =
    let found = position-Some (λ other. bytes_eq other name) (const_names consts) i name e in
    let within : i < length consts = omega (arith, found.0, length-map consts (λ c. c.name)) in
    sym (get_or-map (λ c. c.name) consts i nothing name within) ∙ same_bytes _ name found.1

-- where names are distinct, each constant stands at the place of its name
pub own_place : (consts : List ConstText) (i : ℕ) → AreDistinct (const_names consts) → i < length consts → place_of consts (const_at consts i).name ≡ Some i
own_place consts i distinct lt =
    let name = (const_at consts i).name in
    let test : Name → Bool = λ other. bytes_eq other name in
    let here : get_or (const_names consts) i name ≡ name = get_or-map (λ c. c.name) consts i nothing name lt in
    let within : i < length (const_names consts) = omega (arith, lt, length-map consts (λ c. c.name)) in
    let at : position_or_len test (const_names consts) ≡ i = position_or_len_is test (const_names consts) i name (omega (arith, within))
    (λ k below. other_bytes (get_or (const_names consts) k name) name (λ same. distinct k i name below within (same ∙ sym here)))
    (λ _. ap test here ∙ own_bytes name) in
    (λ j. cond (nat_lt (at j) (length (const_names consts))) (Some (at j)) None) ∙ ap (λ b. cond b (Some i) None) (lt-ltb i (length (const_names consts)) within)
  where
    other_bytes : (m n : Name) → (m ≡ n → ⊥) → bytes_eq m n ≡ false
    other_bytes m n ne = elim (cases_Bool (bytes_eq m n)) [ inl same ↦ absurd (ne (same_bytes m n same)) | inr other ↦ other ]

-- what a table gives faults in arithmetic alone
pub part_arithmetic : (consts : List ConstText) (given : Name → Option Constant) (table : Name → Option Valued) → IsPart consts given table
    → (name : Name) → FaultsInArithmetic (by_table table name)
part_arithmetic consts given table part name = by (table name) refl
  where
    by : (found : Option Valued) → table name ≡ found → FaultsInArithmetic (unwrap_or found some_value)
    by None e = tt
    by (Some result) e = (part name result e).arithmetic

module _ (consts : List ConstText) (given : Name → Option Constant) (distinct : AreDistinct (const_names consts)) (table new : Name → Option Valued) (part : IsPart consts given table)
    (i : ℕ) (lt : i < length consts) (result : Valued) (is : result ≡ result_of given (by_table table) (const_at consts i))
    (knows : Knows consts table (definition_names (const_at consts i))) (put : (name : Name) → new name ≡ cond (bytes_eq (const_at consts i).name name) (Some result) (table name)) where
  -- the new table has a result for the constant, and each that the old one has
  has_new : Has new (const_at consts i).name
  has_new none = none-some result (sym none ∙ (put (const_at consts i).name ∙ ap (λ b. cond b (Some result) (table (const_at consts i).name)) (own_bytes (const_at consts i).name)))

  has_more : (name : Name) → Has table name → Has new name
  has_more name has none = elim (cases_Bool (bytes_eq (const_at consts i).name name)) [
    | inl same ↦ has_new (ap new (same_bytes _ name same) ∙ none)
    | inr other ↦ has (sym (put name ∙ ap (λ b. cond b (Some result) (table name)) other) ∙ none)
  ]

  -- where the constant was there before, nothing changes
  unchanged : (old : Valued) → table (const_at consts i).name ≡ Some old → (name : Name) → new name ≡ table name
  unchanged old was name = elim (cases_Bool (bytes_eq (const_at consts i).name name)) [
    | inl same ↦
        let before = part (const_at consts i).name old was in
        let place : before.place ≡ i = same_Some before.place i (sym before.placed ∙ own_place consts i distinct lt) in
        let equal : old ≡ result = before.is ∙ (ap (λ p. result_of given (by_table table) (const_at consts p)) place ∙ sym is) in
        put name ∙ (ap (λ b. cond b (Some result) (table name)) same ∙ (ap Some (sym equal) ∙ (sym was ∙ ap table (same_bytes _ name same))))
    | inr other ↦ put name ∙ ap (λ b. cond b (Some result) (table name)) other
  ]

  -- where the constant was not there before, the tables agree on all names that are known
  agree_known : table (const_at consts i).name ≡ None → (names : List Name) → Knows consts table names → AgreeOn (by_table table) (by_table new) names
  agree_known absent names known name reads = elim (cases_Bool (bytes_eq (const_at consts i).name name)) [
    | inl same ↦
        let named : (const_at consts i).name ≡ name = same_bytes _ name same in
        absurd (known name i reads (ap (place_of consts) (sym named) ∙ own_place consts i distinct lt) (ap table (sym named) ∙ absent))
    | inr other ↦ ap (λ o. unwrap_or o some_value) (sym (put name ∙ ap (λ b. cond b (Some result) (table name)) other))
  ]

  known_more : (names : List Name) → Knows consts table names → Knows consts new names
  known_more names known name place reads at = has_more name (known name place reads at)

  part_absent : table (const_at consts i).name ≡ None → IsPart consts given new
  part_absent absent name found e = elim (cases_Bool (bytes_eq (const_at consts i).name name)) [
    | inl same ↦
        let named : (const_at consts i).name ≡ name = same_bytes _ name same in
        let equal : found ≡ result = same_Some found result (sym e ∙ (put name ∙ ap (λ b. cond b (Some result) (table name)) same)) in
        record {
          place = i;
          placed = ap (place_of consts) (sym named) ∙ own_place consts i distinct lt;
          is = equal ∙ (is ∙ result_agrees given (by_table table) (by_table new) (const_at consts i) (agree_known absent _ knows));
          knows = known_more _ knows;
          arithmetic = subst FaultsInArithmetic (sym (equal ∙ is)) (result_faults given (by_table table) (part_arithmetic consts given table part) (const_at consts i));
        }
    | inr other ↦
        let before = part name found (sym (put name ∙ ap (λ b. cond b (Some result) (table name)) other) ∙ e) in
        record {
          place = before.place;
          placed = before.placed;
          is = before.is ∙ result_agrees given (by_table table) (by_table new) (const_at consts before.place) (agree_known absent _ before.knows);
          knows = known_more _ before.knows;
          arithmetic = before.arithmetic;
        }
  ]

  -- one result more
  pub part_more : IsPart consts given new
  part_more = by (table (const_at consts i).name) refl
    where
      by : (old : Option Valued) → table (const_at consts i).name ≡ old → IsPart consts given new
      by None absent = part_absent absent
      by (Some old) was = subst (IsPart consts given) (λ j name. sym (unchanged old was name) j) part

  pub places_more : (places : List ℕ) → HasPlaces consts table places → HasPlaces consts new (places ++ (i ∷ []))
  places_more places has q c = elim (Contains-push_cases places i q c) [
    | inl before ↦ has_more _ (has q before)
    | inr same ↦ subst (λ k. Has new (const_at consts k).name) same has_new
  ]

-- what an order's next constant reads is known
pub next_known : (consts : List ConstText) (table : Name → Option Valued) (order : List ℕ) (k i : ℕ) → IsOrder (uses_of consts) order → slice_get order k ≡ Some i → i < length consts
    → HasPlaces consts table (take k order) → Knows consts table (definition_names (const_at consts i))
next_known consts table order k i is at lt has name place reads placed =
    subst (Has table) (placed_name consts name place placed) (has place (is.after k i place at (reads_used consts i place nothing name lt reads placed)))

-- one step of evaluating in an order
pub part_step : (consts : List ConstText) (given : Name → Option Constant) (order : List ℕ) → IsOrder (uses_of consts) order → AreDistinct (const_names consts)
    → (old new : Name → Option Valued) (k : ℕ) (c : ConstText) (key : Name) (result : Valued) → k < length order → c ≡ get_or consts (get_or order k 0) c
    → IsPart consts given old → HasPlaces consts old (take k order) → key ≡ c.name → result ≡ result_of given (by_table old) c
    → ((name : Name) → new name ≡ cond (bytes_eq key name) (Some result) (old name)) → IsPart consts given new × HasPlaces consts new (take (k + 1) order)
part_step consts given order is distinct old new k c key result less at part places named found put =
    let i : ℕ = get_or order k 0 in
    let lt : i < length consts = omega (arith, is.within k 0 less, length-map consts (λ d. filter_map (place_of consts) (definition_names d))) in
    let own : const_at consts i ≡ c = get_or_default consts i nothing c lt ∙ sym at in
    let knows = next_known consts old order k i is (slice_get-get_or order k 0 less) lt places in
    let right : result ≡ result_of given (by_table old) (const_at consts i) = found ∙ ap (result_of given (by_table old)) (sym own) in
    let puts : (name : Name) → new name ≡ cond (bytes_eq (const_at consts i).name name) (Some result) (old name)
    = λ name. put name ∙ ap (λ n. cond (bytes_eq n name) (Some result) (old name)) (named ∙ ap (λ d. d.name) (sym own)) in (
      part_more consts given distinct old new part i lt result right knows puts,
      subst (HasPlaces consts new) (sym (take_more order k 0 less)) (places_more consts given distinct old new part i lt result right knows puts (take k order) places),
    )

-- a table with all constants says what each name stands for
pub whole_part : (consts : List ConstText) (given : Name → Option Constant) (table : Name → Option Valued) (order : List ℕ) → IsOrder (uses_of consts) order
    → IsPart consts given table → HasPlaces consts table order → IsValuation consts given (by_table table)
whole_part consts given table order is part has name = by (table name) refl (place_of consts name) refl
  where
    by : (found : Option Valued) → table name ≡ found → (place : Option ℕ) → place_of consts name ≡ place
        → unwrap_or found some_value ≡ unwrap_or (option_map (result_of given (by_table table)) (const_of consts name)) some_value
    by None e None p = sym (ap (λ o. unwrap_or (option_map (result_of given (by_table table)) o) some_value) (none_placed consts name p))
    by None e (Some i) p =
        absurd (has i (is.all i (omega (arith, (some_placed consts name i nothing p).0, length-map consts (λ c. filter_map (place_of consts) (definition_names c))))) (ap table (placed_name consts name i p) ∙ e))
    by (Some result) e place p =
        let found = part name result e in
        found.is ∙ sym (ap (λ o. unwrap_or (option_map (result_of given (by_table table)) o) some_value) (some_placed consts name found.place nothing found.placed).1)
