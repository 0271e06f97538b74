-- The values of constants are of their sorts, where what is given is of the sort that it is given with.
use Rattle.std.proofs.Common.{◌≡◌, ℕ, zero, suc, ◌<◌, List, [], ◌∷◌, Option, Bool, true, false, find, reverse, length, get_or, cond, not, bytes_eq, Contains, All, unwrap_or, option_map, arith, refl, sym, ap, ◌∙◌, subst}
use Rattle.std.specs.Prelude.{None, Some, Ok, Err, Result, IfOk, OnOk, if◌then◌else◌}
use Rattle.std.specs.Option.{option_or, option_map_or}
use Rattle.std.specs.List.{filter_map}
use Rattle.std.proofs.lemmas.Bool.{false≢true}
use Rattle.std.proofs.lemmas.Option.{none-some, same_Some}
use Rattle.std.proofs.lemmas.List.{length-map}
use Rattle.std.proofs.lemmas.List.Elements.{All-nil, All-cons, All-head, All-tail}
use Rattle.std.proofs.lemmas.List.Sorted.{All-permutation, IsPermutation-reverse}
use Rattle.prism_syntax.specs.declared.expressions.Expr.{Expr}
use Rattle.prism_syntax.specs.declared.models.ConstText.{ConstText}
use Rattle.chain_model.specs.declared.constants.Given.{Given}
use Rattle.chain_model.specs.declared.outcome.TraceFault.{TraceFault}
use Rattle.chain_model.specs.declared.outcome.TraceFault.TheVariants.{OutOfLimit}
use Rattle.chain_model.specs.declared.values.Sort.{Sort}
use Rattle.chain_model.specs.declared.values.Sort.TheVariants as sort
use Rattle.chain_model.specs.Sorts.{◌>>=◌, is_of_sort}
use Rattle.chain_model.specs.Values.{Valued}
use Rattle.prism_names.specs.First.{Name, AreDistinct}
use Rattle.prism_names.specs.Names.{names_of}
use Rattle.name_graph.specs.Graph.{Uses, HasNoCycle}
use Rattle.const_eval.specs.declared.consts.Constant.{Constant}
use Rattle.const_eval.specs.declared.fault.ConstFault.{ConstFault}
use Rattle.const_eval.specs.Tables.{sort_of_word}
use Rattle.const_eval.specs.Sorting.{sort_in}
use Rattle.const_eval.specs.Evaluating.{value_in, some_value}
use Rattle.const_eval.specs.Keeping.{IsOfSort, FitsFound}
use Rattle.const_eval.specs.Constants.{const_names, constant_given, given_to, definition_names, sort_declared, sort_found, result_of, uses_of, AreGivenSorted, AreSorted}
use Rattle.const_eval.specs.Refusals.{fits, is_found_fitting, first_wrong_type, fault_of, first_fault}
use Rattle.const_eval.specs.Listing.{IsValuation, value_or_some, known_of, listed_consts, listed_results}
use Rattle.const_eval.proofs.AgreeLemmas.{agrees}
use Rattle.const_eval.proofs.GraphLemmas.{by_uses}
use Rattle.const_eval.proofs.KeepingLemmas.{widened_result, keeps_sorts}
use Rattle.const_eval.proofs.ResultLemmas.{place_of, none_placed, some_placed, reads_used, uses_within}
use Rattle.const_eval.proofs.PartLemmas.{nothing, const_at, own_place}

-- ---- what is found in lists

none_named : {X Y : Type 0} (name : X → Y) (found : Option X) → option_map name found ≡ None → found ≡ None
none_named name None e = refl
none_named name (Some x) e = absurd (none-some (name x) (sym e))

fails_first : {X : Type 0} (p : X → Bool) (x : X) (b : Bool) (rest : Option X) → p x ≡ b → cond b (Some x) rest ≡ None → (p x ≡ false) × (rest ≡ None)
fails_first p x true rest holds e = absurd (none-some x (sym e))
fails_first p x false rest fails e = (fails, e)

-- where none is found, each fails
each_fails : {X : Type 0} (p : X → Bool) (xs : List X) → find p xs ≡ None → (i : ℕ) (d : X) → i < length xs → p (get_or xs i d) ≡ false
each_fails p [] none i d lt = absurd (omega (arith, lt))
each_fails p (x ∷ xs) none zero d lt = (fails_first p x (p x) (find p xs) refl none).0
each_fails p (x ∷ xs) none (suc i) d lt = each_fails p xs (fails_first p x (p x) (find p xs) refl none).1 i d (omega (arith, lt))

here_or_later : {X : Type 0} (P : X → Type 0) (y x : X) (b : Bool) (rest : Option X) → P y → (rest ≡ Some x → P x) → cond b (Some y) rest ≡ Some x → P x
here_or_later P y x true rest here later e = subst P (same_Some y x e) here
here_or_later P y x false rest here later e = later e

-- what holds of each holds of what is found
found_holds : {X : Type 0} (P : X → Type 0) (p : X → Bool) (xs : List X) (x : X) → All P xs → find p xs ≡ Some x → P x
found_holds P p [] x all e = absurd (none-some x e)
found_holds P p (y ∷ ys) x all e = here_or_later P y x (p y) (find p ys) (All-head P y ys all) (λ later. found_holds P p ys x (All-tail P y ys all) later) e

-- ---- what is given

-- what a name is given is of the sort that it is given with
given_fits : (given : List Given) (name : Name) → AreGivenSorted given → (g : Constant) → given_to given name ≡ Some g → is_of_sort g.sort g.value ≡ true
given_fits given name right g e = by (find test (reverse given)) refl e
  where
    test : Given → Bool
    test h = bytes_eq h.name name

    of_sort : Constant → Type 0
    of_sort k = is_of_sort k.sort k.value ≡ true

    by : (found : Option Given) → find test (reverse given) ≡ found → option_map constant_given found ≡ Some g → is_of_sort g.sort g.value ≡ true
    by None at is = absurd (none-some g is)
    by (Some h) at is =
        let holds = found_holds (λ k. is_of_sort k.sort k.value ≡ true) test (reverse given) h (All-permutation (λ k. is_of_sort k.sort k.value ≡ true) given (reverse given) (IsPermutation-reverse given) right) at in
        subst of_sort (same_Some (constant_given h) g is) holds

-- ---- sorts that fit

fits_declared : (declared found : Sort) (r : Valued) → fits declared found ≡ true → IsOfSort found r → IsOfSort declared r
fits_declared sort.Int sort.Int r fit of = of
fits_declared sort.Int sort.Double r fit of = absurd (false≢true fit)
fits_declared sort.Int sort.Bool r fit of = absurd (false≢true fit)
fits_declared sort.Double sort.Int r fit of = widened_result r of
fits_declared sort.Double sort.Double r fit of = of
fits_declared sort.Double sort.Bool r fit of = absurd (false≢true fit)
fits_declared sort.Bool sort.Int r fit of = absurd (false≢true fit)
fits_declared sort.Bool sort.Double r fit of = absurd (false≢true fit)
fits_declared sort.Bool sort.Bool r fit of = of

found_fits : (declared : Sort) (found : Option Sort) (r : Valued) → is_found_fitting declared found ≡ true → FitsFound found r → IsOfSort declared r
found_fits declared None r fit of = absurd (false≢true fit)
found_fits declared (Some s) r fit of = fits_declared declared s r fit of

-- a result that is of the sort that was found, or else a fault
abbrev kept : Option Sort → Valued → Valued
kept (Some s) (Ok a) = if is_of_sort s a then Ok a else Err OutOfLimit
kept found r = r

kept_fits : (found : Option Sort) (r : Valued) → FitsFound found (kept found r)
kept_fits None r = tt
kept_fits (Some s) (Err fault) = tt
kept_fits (Some s) (Ok a) = by (is_of_sort s a) refl
  where
    by : (b : Bool) → is_of_sort s a ≡ b → IsOfSort s (if b then Ok a else Err OutOfLimit)
    by true e = e
    by false e = tt

kept_same : (found : Option Sort) (r : Valued) → FitsFound found r → r ≡ kept found r
kept_same None r of = refl
kept_same (Some s) (Err fault) of = refl
kept_same (Some s) (Ok a) of = sym (ap (λ b. if b then Ok a else Err OutOfLimit) of)

-- the value of an expression is of its sort, where those of its own names are
value_fits : (sorts : Name → Option Sort) (values : Name → Valued) (x : Expr) → ((name : Name) → Contains (names_of x) name → FitsFound (sorts name) (values name))
    → FitsFound (sort_in sorts x) (value_in values x)
value_fits sorts values x each =
    let same = agrees values (λ name. kept (sorts name) (values name)) x (λ name reads. kept_same (sorts name) (values name) (each name reads)) in
    subst (FitsFound (sort_in sorts x)) (sym same) (keeps_sorts sorts (λ name. kept (sorts name) (values name)) (λ name. kept_fits (sorts name) (values name)) x)

defined_fits : (sorts : Name → Option Sort) (values : Name → Valued) (declared : Sort) (value : Option Expr)
    → ((name : Name) → Contains (option_map_or names_of value []) name → FitsFound (sorts name) (values name))
    → is_found_fitting declared (value >>= sort_in sorts) ≡ true → IsOfSort declared (option_map_or (value_in values) value some_value)
defined_fits sorts values declared None each fit = absurd (false≢true fit)
defined_fits sorts values declared (Some x) each fit = found_fits declared (sort_in sorts x) (value_in values x) fit (value_fits sorts values x each)

given_or_defined : (sorts : Name → Option Sort) (values : Name → Valued) (declared : Sort) (found : Option Constant) (value : Option Expr)
    → ((g : Constant) → found ≡ Some g → is_of_sort g.sort g.value ≡ true)
    → ((name : Name) → Contains (option_map_or names_of value []) name → FitsFound (sorts name) (values name))
    → is_found_fitting declared (option_or (option_map (λ g. g.sort) found) (value >>= sort_in sorts)) ≡ true
    → IsOfSort declared (option_map_or (λ g. Ok g.value) found (option_map_or (value_in values) value some_value))
given_or_defined sorts values declared None value right each fit = defined_fits sorts values declared value each fit
given_or_defined sorts values declared (Some g) value right each fit = fits_declared declared g.sort (Ok g.value) fit (right g refl)

-- ---- the constants

not_false : (b : Bool) → not b ≡ false → b ≡ true
not_false true e = refl
not_false false e = absurd (false≢true (sym e))

module _ (consts : List ConstText) (given : List Given) (values : Name → Valued) (is : IsValuation consts (given_to given) values) (right : AreGivenSorted given)
    (sorted : first_wrong_type (sort_declared consts) (given_to given) consts ≡ None) where
  -- a name stands for a value of its sort
  abbrev NameFits : Name → Type 0
  NameFits name = FitsFound (sort_declared consts name) (values name)

  abbrev PlaceFits : ℕ → Type 0
  PlaceFits i = (name : Name) → place_of consts name ≡ Some i → NameFits name

  fit_at : (i : ℕ) → i < length consts → is_found_fitting (sort_of_word (const_at consts i).sort) (sort_found (sort_declared consts) (given_to given) (const_at consts i)) ≡ true
  fit_at i lt =
      not_false _ (each_fails (λ c. not (is_found_fitting (sort_of_word c.sort) (sort_found (sort_declared consts) (given_to given) c))) consts
      (none_named (λ c. c.name) _ sorted) i nothing lt)

  by_place : (name : Name) (place : Option ℕ) → place_of consts name ≡ place → ((i : ℕ) → place ≡ Some i → PlaceFits i) → NameFits name
  by_place name None e at = subst (λ o. FitsFound (option_map (λ c. sort_of_word c.sort) o) (values name)) (sym (none_placed consts name e)) tt
  by_place name (Some i) e at = at i refl name e

  place_step : (i : ℕ) → ((j : ℕ) → Uses (uses_of consts) i j → PlaceFits j) → PlaceFits i
  place_step i used name e =
      let c : ConstText = const_at consts i in
      let placed = some_placed consts name i nothing e in
      let result : values name ≡ result_of (given_to given) values c = is name ∙ ap (λ o. unwrap_or (option_map (result_of (given_to given) values) o) some_value) placed.1 in
      let each : (m : Name) → Contains (definition_names c) m → NameFits m = λ m reads. by_place m (place_of consts m) refl (λ j at. used j (reads_used consts i j nothing m placed.0 reads at)) in
      let here = given_or_defined (sort_declared consts) values (sort_of_word c.sort) (given_to given c.name) c.value
      (λ g found. given_fits given c.name right g found) each (fit_at i placed.0) in
      subst (λ o. FitsFound (option_map (λ d. sort_of_word d.sort) o) (values name)) (sym placed.1) (subst (IsOfSort (sort_of_word c.sort)) (sym result) here)

  own_fits : HasNoCycle (uses_of consts) → AreDistinct (const_names consts) → (i : ℕ) → i < length consts
      → IsOfSort (sort_of_word (const_at consts i).sort) (values (const_at consts i).name)
  own_fits none distinct i lt =
      let name : Name = (const_at consts i).name in
      let place = own_place consts i distinct lt in
      let fit = by_uses (uses_of consts) (uses_within consts) none PlaceFits place_step i
      (omega (arith, lt, length-map consts (λ c. filter_map (place_of consts) (definition_names c)))) name place in
      subst (λ o. FitsFound (option_map (λ d. sort_of_word d.sort) o) (values name)) (some_placed consts name i nothing place).1 fit

-- ---- the list

abbrev IsSorted : Name × Constant → Type 0
IsSorted k = is_of_sort k.1.sort k.1.value ≡ true

one_sorted : (name : Name) (s : Sort) (r : Valued) (rest : Option (Name × TraceFault)) → option_or (fault_of (name, r)) rest ≡ None → IsOfSort s r
    → (is_of_sort s (value_or_some r) ≡ true) × (rest ≡ None)
one_sorted name s (Ok a) rest e of = (of, e)
one_sorted name s (Err cause) rest e of = absurd (none-some (name, cause) (sym e))

list_sorted : (values : Name → Valued) (cs : List ConstText) → first_fault (listed_results values cs) ≡ None
    → ((k : ℕ) → k < length cs → IsOfSort (sort_of_word (get_or cs k nothing).sort) (values (get_or cs k nothing).name)) → AreSorted (listed_consts values cs)
list_sorted values [] none each = All-nil IsSorted
list_sorted values (c ∷ cs) none each =
    let one = one_sorted c.name (sort_of_word c.sort) (values c.name) (first_fault (listed_results values cs)) none (each 0 (omega arith)) in
    All-cons IsSorted (c.name, known_of values c) (listed_consts values cs) one.0 (list_sorted values cs one.1 (λ k lt. each (suc k) (omega (arith, lt))))

pub listed_sorted : (consts : List ConstText) (given : List Given) (table : Name → Option Constant) (sorts : Name → Option Sort) (is_table : table ≡ given_to given) (is_sorts : sorts ≡ sort_declared consts)
    → AreDistinct (const_names consts) → (values : Name → Valued) → IsValuation consts table values → HasNoCycle (uses_of consts) → first_wrong_type sorts table consts ≡ None
    → (result : Result (List (Name × Constant)) ConstFault) → IfOk result (λ found. found ≡ listed_consts values consts)
    → OnOk result (first_fault (listed_results values consts) ≡ None) → IfOk result (λ found. AreGivenSorted given → AreSorted found)
listed_sorted consts given table sorts is_table is_sorts distinct values valuation acyclic sorted (Err told) listed none = tt
listed_sorted consts given table sorts is_table is_sorts distinct values valuation acyclic sorted (Ok found) listed none = λ right.
    let is = subst (λ t. IsValuation consts t values) is_table valuation in
    let fit = (λ j. first_wrong_type (sym is_sorts j) (sym is_table j) consts) ∙ sorted in
    subst AreSorted (sym listed) (list_sorted values consts none (λ k lt. own_fits consts given values is right fit acyclic distinct k lt))
