-- Constants that nothing refuses have one list of values at most.
use Rattle.std.proofs.Common.{◌≡◌, ℕ, zero, suc, ◌<◌, List, [], ◌∷◌, Option, map, arith, refl, sym, ◌∙◌}
use Rattle.std.specs.Prelude.{None, Some, Ok}
use Rattle.std.specs.List.{slice_index_or}
use mathlib.Core.Logic.{inl}
use Rattle.chain_model.specs.declared.constants.Given.{Given}
use Rattle.chain_model.specs.Values.{Valued}
use Rattle.prism_syntax.specs.declared.models.ConstText.{ConstText}
use Rattle.prism_names.specs.First.{Name}
use Rattle.name_graph.specs.Graph.{Reaches, HasNoCycle}
use Rattle.name_graph.proofs.GraphLemmas.{reacher_within}
use Rattle.const_eval.specs.declared.consts.Constant.{Constant}
use Rattle.const_eval.specs.declared.fault.ConstFault.{ConstFault}
use Rattle.const_eval.specs.declared.fault.ConstFault.TheVariants as fault
use Rattle.const_eval.specs.Constants.{const_names, given_to, uses_of, results_of, AreConsts}
use Rattle.const_eval.specs.Refusals.{first_undefined, unknown_of, given_twice_of, Tells, TellsCycle, IsRefused}
use Rattle.const_eval.specs.Listing.{value_or_some}
use Rattle.const_eval.proofs.ResultLemmas.{one_result}
use Rattle.const_eval.proofs.RefusalLemmas.{ByUnknown, ByTwice, ByCycle, BySort}

-- no fault is told
abbrev pub TellsNone : (ConstFault → Type 0) → Type 0
TellsNone tells = (told : ConstFault) → tells told → ⊥

-- where none is told of a name, none is told later
none_later : (found : Option Name) (variant : Name → ConstFault) (later : ConstFault → Type 0) → TellsNone (Tells found variant later) → TellsNone later
none_later None variant later none told tells = none told tells
none_later (Some name) variant later none told tells = absurd (none (variant name) refl)

-- where none is told of a cycle, no place below any number reaches itself: the least that did would be told
none_below : (consts : List ConstText) (later : ConstFault → Type 0) → TellsNone (TellsCycle consts later) → (n i : ℕ) → i < n → Reaches (uses_of consts) i i → ⊥
none_below consts later none zero i lt cycle = absurd (omega (arith, lt))
none_below consts later none (suc n) i lt cycle =
    none (fault.Cycle (slice_index_or (const_names consts) i [])) (inl (record {
      place = i;
      first = record {
        within = reacher_within (uses_of consts) i i cycle;
        cycle = cycle;
        first = λ j before. none_below consts later none n j (omega (arith, before, lt));
      };
      tells = refl;
    }))

-- where nothing is refused, no constant reaches itself
accepted_acyclic : (consts : List ConstText) (given : List Given) → TellsNone (IsRefused consts given) → HasNoCycle (uses_of consts)
accepted_acyclic consts given accepted i =
    none_below consts (BySort consts given)
    (none_later (given_twice_of consts given) fault.GivenTwice (ByCycle consts given)
    (none_later (unknown_of consts given) fault.Unknown (ByTwice consts given)
    (none_later (first_undefined (given_to given) consts) fault.Undefined (ByUnknown consts given) accepted)))
    (suc i) i (omega arith)

-- constants of the same sorts and results are the same
same_known : (known others : List (Name × Constant)) → map (λ k. k.1.sort) known ≡ map (λ k. k.1.sort) others → results_of known ≡ results_of others → known ≡ others
same_known [] [] sorts results = refl
same_known [] (d ∷ ds) sorts results = absurd (let never : ⊥ = cc in never)
same_known (c ∷ cs) [] sorts results = absurd (let never : ⊥ = cc in never)
same_known (c ∷ cs) (d ∷ ds) sorts results =
    let shown : Name × Constant → Name × Valued = λ k. (k.0, Ok k.1.value) in
    let sort : c.1.sort ≡ d.1.sort = cc in
    let other_sorts : map (λ (k : Name × Constant). k.1.sort) cs ≡ map (λ (k : Name × Constant). k.1.sort) ds = cc in
    let result : shown c ≡ shown d = cc in
    let other_results : results_of cs ≡ results_of ds = cc in
    λ i. ((result i).0, record { sort = sort i; value = value_or_some (result i).1 }) ∷ same_known cs ds other_sorts other_results i

-- constants that nothing refuses have one list of values at most
pub one_values : (consts : List ConstText) (given : List Given) (known others : List (Name × Constant)) → TellsNone (IsRefused consts given)
    → AreConsts consts (given_to given) known → AreConsts consts (given_to given) others → known ≡ others
one_values consts given known others accepted a b =
    same_known known others (a.sorts ∙ sym b.sorts)
    (one_result consts (given_to given) (results_of known) (results_of others) (accepted_acyclic consts given accepted) a.values b.values)
