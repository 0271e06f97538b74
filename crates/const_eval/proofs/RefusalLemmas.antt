-- Constants are refused or accepted, and refused with one fault at most.
use Rattle.std.proofs.Common.{◌≡◌, ℕ, Bool, suc, ◌+◌, ◌<◌, List, [], ◌∷◌, Option, map, length, take, get_or, unwrap_or, option_map, MatchOption, arith, refl, sym, ap, ◌∙◌, subst}
use Rattle.std.specs.Prelude.{None, Some, Ok, Err, ◌⊎◌, Result, IfErr, IfOk, OnOk}
use Rattle.std.specs.Result.{IsErrAnd}
use Rattle.std.proofs.lemmas.Result.{err_from_is_err_and}
use mathlib.Core.Logic.{inl, inr}
use Rattle.std.specs.Option.{option_or}
use Rattle.std.proofs.lemmas.Option.{none-some, some_pair_parts}
use Rattle.std.proofs.lemmas.Bool.{cases_order}
use Rattle.smc_num.specs.declared.fault.NumFault.{NumFault}
use Rattle.smc_num.specs.declared.fault.NumFault.TheVariants as num
use Rattle.chain_model.specs.declared.constants.Given.{Given}
use Rattle.chain_model.specs.declared.outcome.TraceFault.{TraceFault}
use Rattle.chain_model.specs.declared.values.Sort.{Sort}
use Rattle.chain_model.specs.Values.{Valued, as_fault}
use Rattle.prism_syntax.specs.declared.models.ConstText.{ConstText}
use Rattle.prism_names.specs.First.{Name, AreDistinct, is_among, first_some}
use Rattle.name_graph.specs.Graph.{HasNoCycle, IsFirstCycle}
use Rattle.const_eval.specs.declared.consts.Constant.{Constant}
use Rattle.const_eval.specs.declared.fault.ConstFault.{ConstFault}
use Rattle.const_eval.specs.declared.fault.ConstFault.TheVariants as fault
use Rattle.const_eval.specs.Tables.{sort_of_word}
use Rattle.const_eval.specs.Evaluating.{some_value}
use Rattle.const_eval.specs.Constants.{const_names, given_names, given_to, sort_declared, Results, result_in, result_of, AreResults, uses_of, results_of, AreConsts}
use Rattle.const_eval.specs.Refusals.{first_undefined, first_missing, first_unread, unknown_of, given_twice_of, first_wrong_type, fault_of, first_fault, Tells, TellsFirstCycle, TellsCycle, TellsFault, TellsFirstFault, TellsNum, IsRefused, IsOutOfMemory, IsTold, HasOneRefusal}
use Rattle.const_eval.specs.Listing.{listed, IsValuation, value_or_some, listed_consts, listed_results}
use Rattle.const_eval.proofs.ResultLemmas.{some_placed, result_in-listed, one_result}
use Rattle.const_eval.proofs.FirstLemmas.{told_more, told_here as first_told}
use Rattle.const_eval.proofs.PartLemmas.{nothing, const_at, own_place}

-- memory ran out, or the fault is told
abbrev pub Ends : (ConstFault → Type 0) → ConstFault → Type 0
Ends told_by told = IsOutOfMemory told ⊎ told_by told

-- what is handed on by a `?`
pub handed_on : {T : Type 0} (Is : ConstFault → Type 0) (result : Result T ConstFault) (told : ConstFault) → IsErrAnd result (λ d. d ≡ told) → Is told → IfErr result Is
handed_on {T} Is result told same is =
    let err = err_from_is_err_and result same in
    subst (λ r. IfErr r Is) (sym err.1) (subst Is (sym err.2) is)

-- what is told here
pub told_here : (found : Option Name) (variant : Name → ConstFault) (later : ConstFault → Type 0) (told : ConstFault) → IsTold found variant told → Ends (Tells found variant later) told
told_here found variant later told (inl memory) = inl memory
told_here found variant later told (inr (name, is, tells)) = inr (subst (λ o. MatchOption o (later told) (λ n. told ≡ variant n)) (sym is) tells)

-- what is told later
pub told_later : (found : Option Name) (variant : Name → ConstFault) (later : ConstFault → Type 0) (told : ConstFault) → found ≡ None → Ends later told → Ends (Tells found variant later) told
told_later found variant later told none (inl memory) = inl memory
told_later found variant later told none (inr more) = inr (subst (λ o. MatchOption o (later told) (λ n. told ≡ variant n)) (sym none) more)

pub cycle_here : (consts : List ConstText) (later : ConstFault → Type 0) (told : ConstFault) → Ends (TellsFirstCycle consts) told → Ends (TellsCycle consts later) told
cycle_here consts later told (inl memory) = inl memory
cycle_here consts later told (inr tells) = inr (inl tells)

pub cycle_later : (consts : List ConstText) (later : ConstFault → Type 0) (told : ConstFault) → HasNoCycle (uses_of consts) → Ends later told → Ends (TellsCycle consts later) told
cycle_later consts later told none (inl memory) = inl memory
cycle_later consts later told none (inr more) = inr (inr (none, more))

pub fault_here : (consts : List ConstText) (given : Name → Option Constant) (results : Results) (told : ConstFault) → AreResults consts given results → Ends (TellsFirstFault results) told → Ends (TellsNum consts given) told
fault_here consts given results told are (inl memory) = inl memory
fault_here consts given results told are (inr tells) = inr (results, are, tells)

-- nothing is told here
passed_by : (found : Option Name) (variant : Name → ConstFault) (later : ConstFault → Type 0) (told : ConstFault) → found ≡ None → Tells found variant later told → later told
passed_by found variant later told none tells = subst (λ o. MatchOption o (later told) (λ n. told ≡ variant n)) none tells

cycle_passed_by : (consts : List ConstText) (later : ConstFault → Type 0) (told : ConstFault) → HasNoCycle (uses_of consts) → TellsCycle consts later told → later told
cycle_passed_by consts later told none (inl tells) = absurd (none tells.place tells.first.cycle)
cycle_passed_by consts later told none (inr more) = more.1

-- constants with results of which none is a fault are not refused
pub not_refused : (consts : List ConstText) (given : List Given) (results : Results) → first_undefined (given_to given) consts ≡ None → unknown_of consts given ≡ None → given_twice_of consts given ≡ None
    → HasNoCycle (uses_of consts) → first_wrong_type (sort_declared consts) (given_to given) consts ≡ None → AreResults consts (given_to given) results → first_fault results ≡ None
    → (told : ConstFault) → IsRefused consts given told → ⊥
not_refused consts given results undefined unknown twice acyclic sorted are none told refused =
    let by_num : ConstFault → Type 0 = TellsNum consts (given_to given) in
    let by_sort : ConstFault → Type 0 = Tells (first_wrong_type (sort_declared consts) (given_to given) consts) fault.WrongType by_num in
    let by_cycle : ConstFault → Type 0 = TellsCycle consts by_sort in
    let by_twice : ConstFault → Type 0 = Tells (given_twice_of consts given) fault.GivenTwice by_cycle in
    let by_unknown : ConstFault → Type 0 = Tells (unknown_of consts given) fault.Unknown by_twice in
    let past_undefined : by_unknown told = passed_by (first_undefined (given_to given) consts) fault.Undefined by_unknown told undefined refused in
    let past_unknown : by_twice told = passed_by (unknown_of consts given) fault.Unknown by_twice told unknown past_undefined in
    let past_twice : by_cycle told = passed_by (given_twice_of consts given) fault.GivenTwice by_cycle told twice past_unknown in
    let tells : TellsNum consts (given_to given) told = passed_by (first_wrong_type (sort_declared consts) (given_to given) consts) fault.WrongType by_num told sorted (cycle_passed_by consts by_sort told acyclic past_twice) in
    none-some _ (sym none ∙ (ap first_fault (one_result consts (given_to given) results tells.0 acyclic are tells.1) ∙ tells.2.first))

-- results that are a valuation are the results of the constants
module _ (consts : List ConstText) (given : Name → Option Constant) (values : Name → Valued) (distinct : AreDistinct (const_names consts)) (is : IsValuation consts given values) where
  own_result : (i : ℕ) → i < length consts → values (const_at consts i).name ≡ result_of given values (const_at consts i)
  own_result i lt =
      is (const_at consts i).name
      ∙ ap (λ o. unwrap_or (option_map (result_of given values) o) some_value) (some_placed consts (const_at consts i).name i nothing (own_place consts i distinct lt)).1

  own_results : listed_results values consts ≡ listed (result_of given values) consts
  own_results = same_maps consts (λ k lt. own_result k lt)
    where
      same_maps : (cs : List ConstText) → ((k : ℕ) → k < length cs → values (get_or cs k nothing).name ≡ result_of given values (get_or cs k nothing))
          → listed_results values cs ≡ listed (result_of given values) cs
      same_maps [] each = refl
      same_maps (c ∷ cs) each = λ j. (c.name, each 0 (omega arith) j) ∷ same_maps cs (λ k lt. each (suc k) (omega (arith, lt))) j

  pub results_are : AreResults consts given (listed_results values consts)
  results_are =
      let same : result_in (listed_results values consts) ≡ values = λ j name. (ap (λ rs. result_in rs name) own_results ∙ (result_in-listed (result_of given values) consts name ∙ sym (is name))) j in
      own_results ∙ ap (λ f. listed (result_of given f) consts) (sym same)

-- where no result is a fault, each is its value
ok_first : (name : Name) (result : Valued) (rest : Option (Name × TraceFault)) → option_or (fault_of (name, result)) rest ≡ None → (Ok (value_or_some result) ≡ result) × (rest ≡ None)
ok_first name (Ok value) rest e = (refl, e)
ok_first name (Err cause) rest e = absurd (none-some (name, cause) (sym e))

all_ok : (values : Name → Valued) (consts : List ConstText) → first_fault (listed_results values consts) ≡ None → results_of (listed_consts values consts) ≡ listed_results values consts
all_ok values [] none = refl
all_ok values (c ∷ consts) none =
    let here = ok_first c.name (values c.name) (first_fault (listed_results values consts)) none in
    λ j. (c.name, here.0 j) ∷ all_ok values consts here.1 j

names_known : (values : Name → Valued) (consts : List ConstText) → map (λ k. k.0) (listed_consts values consts) ≡ const_names consts
names_known values [] = refl
names_known values (c ∷ consts) = ap (λ rest. c.name ∷ rest) (names_known values consts)

sorts_known : (values : Name → Valued) (consts : List ConstText) → map (λ k. k.1.sort) (listed_consts values consts) ≡ map (λ c. sort_of_word c.sort) consts
sorts_known values [] = refl
sorts_known values (c ∷ consts) = ap (λ rest. sort_of_word c.sort ∷ rest) (sorts_known values consts)

-- the constants that are listed
pub consts_are : (consts : List ConstText) (given : Name → Option Constant) (values : Name → Valued) (known : List (Name × Constant)) → AreDistinct (const_names consts)
    → IsValuation consts given values → first_fault (listed_results values consts) ≡ None → known ≡ listed_consts values consts → AreConsts consts given known
consts_are consts given values known distinct is none listed = record {
  names = ap (map (λ k. k.0)) listed ∙ names_known values consts;
  sorts = ap (map (λ k. k.1.sort)) listed ∙ sorts_known values consts;
  values = subst (AreResults consts given) (sym (ap results_of listed ∙ all_ok values consts none)) (results_are consts given values distinct is);
}

-- what may be told from each cause on
abbrev pub ByNum : List ConstText → List Given → ConstFault → Type 0
ByNum consts given = TellsNum consts (given_to given)

abbrev pub BySort : List ConstText → List Given → ConstFault → Type 0
BySort consts given = Tells (first_wrong_type (sort_declared consts) (given_to given) consts) fault.WrongType (ByNum consts given)

abbrev pub ByCycle : List ConstText → List Given → ConstFault → Type 0
ByCycle consts given = TellsCycle consts (BySort consts given)

abbrev pub ByTwice : List ConstText → List Given → ConstFault → Type 0
ByTwice consts given = Tells (given_twice_of consts given) fault.GivenTwice (ByCycle consts given)

abbrev pub ByUnknown : List ConstText → List Given → ConstFault → Type 0
ByUnknown consts given = Tells (unknown_of consts given) fault.Unknown (ByTwice consts given)

-- a name that is no constant, by a test of names
abbrev pub unknown_by : (Name → Bool) → List ConstText → List Given → Option Name
unknown_by known consts given = option_or (first_missing known (given_names given)) (first_unread known consts)

module _ (consts : List ConstText) (given : List Given) (table : Name → Option Constant) (sorts : Name → Option Sort) (known : Name → Bool)
    (is_table : table ≡ given_to given) (is_sorts : sorts ≡ sort_declared consts) (is_known : known ≡ is_among (const_names consts)) where
  right_undefined : first_undefined table consts ≡ None → first_undefined (given_to given) consts ≡ None
  right_undefined e = ap (λ t. first_undefined t consts) (sym is_table) ∙ e

  right_unknown : unknown_by known consts given ≡ None → unknown_of consts given ≡ None
  right_unknown e = ap (λ k. unknown_by k consts given) (sym is_known) ∙ e

  right_sorts : first_wrong_type sorts table consts ≡ None → first_wrong_type (sort_declared consts) (given_to given) consts ≡ None
  right_sorts e = (λ j. first_wrong_type (sym is_sorts j) (sym is_table j) consts) ∙ e

  past_undefined : (told : ConstFault) → first_undefined table consts ≡ None → Ends (ByUnknown consts given) told → Ends (IsRefused consts given) told
  past_undefined told e ends = told_later (first_undefined (given_to given) consts) fault.Undefined (ByUnknown consts given) told (right_undefined e) ends

  past_unknown : (told : ConstFault) → unknown_by known consts given ≡ None → Ends (ByTwice consts given) told → Ends (ByUnknown consts given) told
  past_unknown told e ends = told_later (unknown_of consts given) fault.Unknown (ByTwice consts given) told (right_unknown e) ends

past_twice : (consts : List ConstText) (given : List Given) (told : ConstFault) → given_twice_of consts given ≡ None → Ends (ByCycle consts given) told → Ends (ByTwice consts given) told
past_twice consts given told e ends = told_later (given_twice_of consts given) fault.GivenTwice (ByCycle consts given) told e ends

-- each cause, by tables
module _ (consts : List ConstText) (given : List Given) (table : Name → Option Constant) (sorts : Name → Option Sort) (known : Name → Bool)
    (is_table : table ≡ given_to given) (is_sorts : sorts ≡ sort_declared consts) (is_known : known ≡ is_among (const_names consts)) (told : ConstFault) where
  pub undefined_told : IsTold (first_undefined table consts) fault.Undefined told → Ends (IsRefused consts given) told
  undefined_told tells = told_here (first_undefined (given_to given) consts) fault.Undefined (ByUnknown consts given) told
      (subst (λ t. IsTold (first_undefined t consts) fault.Undefined told) is_table tells)

  pub unknown_told : first_undefined table consts ≡ None → IsTold (unknown_by known consts given) fault.Unknown told → Ends (IsRefused consts given) told
  unknown_told undefined tells = past_undefined consts given table sorts known is_table is_sorts is_known told undefined (told_here (unknown_of consts given) fault.Unknown (ByTwice consts given) told
      (subst (λ k. IsTold (unknown_by k consts given) fault.Unknown told) is_known tells))

  pub twice_told : first_undefined table consts ≡ None → unknown_by known consts given ≡ None → IsTold (given_twice_of consts given) fault.GivenTwice told → Ends (IsRefused consts given) told
  twice_told undefined unknown tells = past_undefined consts given table sorts known is_table is_sorts is_known told undefined (past_unknown consts given table sorts known is_table is_sorts is_known told unknown (told_here (given_twice_of consts given) fault.GivenTwice (ByCycle consts given) told tells))

  pub cycle_told : first_undefined table consts ≡ None → unknown_by known consts given ≡ None → given_twice_of consts given ≡ None → Ends (TellsFirstCycle consts) told → Ends (IsRefused consts given) told
  cycle_told undefined unknown twice tells = past_undefined consts given table sorts known is_table is_sorts is_known told undefined (past_unknown consts given table sorts known is_table is_sorts is_known told unknown (past_twice consts given told twice (cycle_here consts (BySort consts given) told tells)))

  pub sort_told : first_undefined table consts ≡ None → unknown_by known consts given ≡ None → given_twice_of consts given ≡ None → HasNoCycle (uses_of consts)
      → IsTold (first_wrong_type sorts table consts) fault.WrongType told → Ends (IsRefused consts given) told
  sort_told undefined unknown twice acyclic tells =
      past_undefined consts given table sorts known is_table is_sorts is_known told undefined (past_unknown consts given table sorts known is_table is_sorts is_known told unknown (past_twice consts given told twice (cycle_later consts (BySort consts given) told acyclic
      (told_here (first_wrong_type (sort_declared consts) (given_to given) consts) fault.WrongType (ByNum consts given) told
      (subst (λ t. IsTold (first_wrong_type (sort_declared consts) t consts) fault.WrongType told) is_table
      (subst (λ s. IsTold (first_wrong_type s table consts) fault.WrongType told) is_sorts tells))))))

  pub num_told : first_undefined table consts ≡ None → unknown_by known consts given ≡ None → given_twice_of consts given ≡ None → HasNoCycle (uses_of consts)
      → first_wrong_type sorts table consts ≡ None → Ends (ByNum consts given) told → Ends (IsRefused consts given) told
  num_told undefined unknown twice acyclic sorted tells =
      past_undefined consts given table sorts known is_table is_sorts is_known told undefined (past_unknown consts given table sorts known is_table is_sorts is_known told unknown (past_twice consts given told twice (cycle_later consts (BySort consts given) told acyclic
      (told_later (first_wrong_type (sort_declared consts) (given_to given) consts) fault.WrongType (ByNum consts given) told (right_sorts consts given table sorts known is_table is_sorts is_known sorted) tells))))

-- what is told of something made of items
first_some-map : {X Y Z : Type 0} (f : Y → Option Z) (g : X → Y) (xs : List X) → first_some f (map g xs) ≡ first_some (λ x. f (g x)) xs
first_some-map f g [] = refl
first_some-map f g (x ∷ xs) = ap (option_or (f (g x))) (first_some-map f g xs)

-- one constant more, where none so far has a fault
module _ (values : Name → Valued) (consts : List ConstText) (i : ℕ) (c : ConstText) (lt : i < length consts) (is : c ≡ get_or consts i c)
    (far : first_fault (listed_results values (take i consts)) ≡ None) where
  so_far : first_some (λ d. fault_of (d.name, values d.name)) (take i consts) ≡ None
  so_far = sym (first_some-map fault_of (λ d. (d.name, values d.name)) (take i consts)) ∙ far

  pub faults_more : first_fault (listed_results values (take (i + 1) consts)) ≡ fault_of (c.name, values c.name)
  faults_more =
      first_some-map fault_of (λ d. (d.name, values d.name)) (take (i + 1) consts)
      ∙ told_more consts i c lt is (λ d. fault_of (d.name, values d.name)) so_far

  pub fault_told : (told : ConstFault) → Ends (TellsFault (fault_of (c.name, values c.name))) told → Ends (TellsFirstFault (listed_results values consts)) told
  fault_told told (inl memory) = inl memory
  fault_told told (inr tells) = inr (record {
    name = tells.name;
    cause = tells.cause;
    first = first_some-map fault_of (λ d. (d.name, values d.name)) consts ∙ first_told consts i c lt is (λ d. fault_of (d.name, values d.name)) so_far (tells.name, as_fault tells.cause) tells.first;
    tells = tells.tells;
  })

-- one fault at most
abbrev HasOne : (ConstFault → Type 0) → Type 0
HasOne told_by = (told other : ConstFault) → told_by told → told_by other → told ≡ other

told_one : (found : Option Name) (variant : Name → ConstFault) (later : ConstFault → Type 0) → HasOne later → HasOne (Tells found variant later)
told_one None variant later one told other p q = one told other p q
told_one (Some name) variant later one told other p q = p ∙ sym q

one_first_cycle : (consts : List ConstText) (i j : ℕ) → IsFirstCycle (uses_of consts) i → IsFirstCycle (uses_of consts) j → i ≡ j
one_first_cycle consts i j p q = elim (cases_order i j) [
  | inl same ↦ same
  | inr (inl before) ↦ absurd (q.first i before p.cycle)
  | inr (inr after) ↦ absurd (p.first j after q.cycle)
]

cycle_one : (consts : List ConstText) (later : ConstFault → Type 0) → (HasNoCycle (uses_of consts) → HasOne later) → HasOne (TellsCycle consts later)
cycle_one consts later one told other (inl p) (inl q) = p.tells ∙ (ap (λ i. fault.Cycle (get_or (const_names consts) i [])) (one_first_cycle consts p.place q.place p.first q.first) ∙ sym q.tells)
cycle_one consts later one told other (inl p) (inr q) = absurd (q.0 p.place p.first.cycle)
cycle_one consts later one told other (inr p) (inl q) = absurd (p.0 q.place q.first.cycle)
cycle_one consts later one told other (inr p) (inr q) = one p.0 told other p.1 q.1

-- faults of arithmetic are different faults of a trace
one_fault : (a b : NumFault) → as_fault a ≡ as_fault b → a ≡ b
one_fault num.ZeroDivisor num.ZeroDivisor e = refl
one_fault num.ZeroDivisor num.OutsideDomain e = cc
one_fault num.ZeroDivisor num.OutOfLimit e = cc
one_fault num.OutsideDomain num.ZeroDivisor e = cc
one_fault num.OutsideDomain num.OutsideDomain e = refl
one_fault num.OutsideDomain num.OutOfLimit e = cc
one_fault num.OutOfLimit num.ZeroDivisor e = cc
one_fault num.OutOfLimit num.OutsideDomain e = cc
one_fault num.OutOfLimit num.OutOfLimit e = refl

num_one : (consts : List ConstText) (given : Name → Option Constant) → HasNoCycle (uses_of consts) → HasOne (TellsNum consts given)
num_one consts given none told other p q =
    let same = one_result consts given p.0 q.0 none p.1 q.1 in
    let parts = some_pair_parts p.2.name q.2.name (as_fault p.2.cause) (as_fault q.2.cause) (sym p.2.first ∙ (ap first_fault same ∙ q.2.first)) in
    p.2.tells ∙ ((λ j. fault.Num (parts.0 j) (one_fault p.2.cause q.2.cause parts.1 j)) ∙ sym q.2.tells)

pub one_refusal : HasOneRefusal
one_refusal consts given =
    told_one (first_undefined (given_to given) consts) fault.Undefined _
    (told_one (unknown_of consts given) fault.Unknown _
    (told_one (given_twice_of consts given) fault.GivenTwice _
    (cycle_one consts _ (λ none. told_one (first_wrong_type (sort_declared consts) (given_to given) consts) fault.WrongType _ (num_one consts (given_to given) none)))))

-- the constants that are listed, or the first fault
module _ (consts : List ConstText) (given : List Given) (table : Name → Option Constant) (sorts : Name → Option Sort) (known : Name → Bool)
    (is_table : table ≡ given_to given) (is_sorts : sorts ≡ sort_declared consts) (is_known : known ≡ is_among (const_names consts))
    (distinct : AreDistinct (const_names consts)) (values : Name → Valued) (is_valuation : IsValuation consts table values) where
  valued : IsValuation consts (given_to given) values
  valued = subst (λ t. IsValuation consts t values) is_table is_valuation

  pub listed_values : (result : Result (List (Name × Constant)) ConstFault) → IfOk result (λ found. found ≡ listed_consts values consts)
      → OnOk result (first_fault (listed_results values consts) ≡ None) → IfOk result (λ found. AreConsts consts (given_to given) found)
  listed_values (Ok found) is none = consts_are consts (given_to given) values found distinct valued none is
  listed_values (Err told) is none = tt

  pub listed_accepted : (result : Result (List (Name × Constant)) ConstFault) → first_undefined table consts ≡ None → unknown_by known consts given ≡ None → given_twice_of consts given ≡ None
      → HasNoCycle (uses_of consts) → first_wrong_type sorts table consts ≡ None → OnOk result (first_fault (listed_results values consts) ≡ None)
      → OnOk result ((told : ConstFault) → IsRefused consts given told → ⊥)
  listed_accepted (Ok found) undefined unknown twice acyclic sorted none =
      not_refused consts given (listed_results values consts) (right_undefined consts given table sorts known is_table is_sorts is_known undefined)
      (right_unknown consts given table sorts known is_table is_sorts is_known unknown) twice acyclic (right_sorts consts given table sorts known is_table is_sorts is_known sorted)
      (results_are consts (given_to given) values distinct valued) none
  listed_accepted (Err told) undefined unknown twice acyclic sorted none = tt

  pub listed_refused : (result : Result (List (Name × Constant)) ConstFault) → first_undefined table consts ≡ None → unknown_by known consts given ≡ None → given_twice_of consts given ≡ None
      → HasNoCycle (uses_of consts) → first_wrong_type sorts table consts ≡ None → IfErr result (Ends (TellsFirstFault (listed_results values consts)))
      → IfErr result (Ends (IsRefused consts given))
  listed_refused (Ok found) undefined unknown twice acyclic sorted tells = tt
  listed_refused (Err told) undefined unknown twice acyclic sorted tells =
      num_told consts given table sorts known is_table is_sorts is_known told undefined unknown twice acyclic sorted
      (fault_here consts (given_to given) (listed_results values consts) told (results_are consts (given_to given) values distinct valued) tells)
