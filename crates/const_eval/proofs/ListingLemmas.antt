-- Constants gathered in maps and lists.
use Rattle.std.proofs.Common.{◌≡◌, ℕ, suc, ◌+◌, ◌<◌, List, [], ◌∷◌, ◌++◌, Option, Bool, true, false, length, get_or, take, map, find, reverse, cond, bytes_eq, option_map, arith, refl, sym, ap, ◌∙◌, subst}
use Rattle.std.specs.Prelude.{None, Some}
use mathlib.Core.Logic.{inl, inr}
use Rattle.std.specs.Bool.{Decides}
use Rattle.std.specs.Map.{lookup}
use Rattle.std.proofs.lemmas.Bool.{cases_Bool}
use Rattle.std.proofs.lemmas.List.{map_more, get_or-map, get_or-take, length-take, length-map, reverse-append}
use Rattle.std.proofs.lemmas.Slice.Eq.{bytes_eq-Decides}
use Rattle.indexmap.specs.IndexMap.{IndexMap, get, insert_entry}
use Rattle.indexmap.proofs.CallerLemmas.{insert_entry-new}
use Rattle.prism_syntax.specs.declared.models.ConstText.{ConstText}
use Rattle.chain_model.specs.declared.constants.Given.{Given}
use Rattle.prism_names.specs.First.{Name, AreDistinct}
use Rattle.const_eval.specs.declared.consts.Constant.{Constant}
use Rattle.const_eval.specs.Constants.{const_names, constant_given, given_to}
use Rattle.const_eval.proofs.FirstLemmas.{one_more}

-- names with the same bytes are one
pub same_bytes : (m n : Name) → bytes_eq m n ≡ true → m ≡ n
same_bytes m n e = (subst (λ b. Decides b (m ≡ n)) e (bytes_eq-Decides m n)).0 refl

-- each name has its own bytes
pub own_bytes : (n : Name) → bytes_eq n n ≡ true
own_bytes n = (bytes_eq-Decides n n).1 refl

-- what is given, with one more
pub given_more : (given : List Given) (i : ℕ) (item : Given) → i < length given → item ≡ get_or given i item
    → (old new : Name → Option Constant) (key : Name) → ((name : Name) → old name ≡ given_to (take i given) name) → key ≡ item.name
    → ((name : Name) → new name ≡ cond (bytes_eq key name) (Some (constant_given item)) (old name))
    → (name : Name) → new name ≡ given_to (take (i + 1) given) name
given_more given i item lt is old new key far same put name =
    let more : reverse (take (i + 1) given) ≡ item ∷ reverse (take i given) = ap reverse (one_more given i item lt is) ∙ reverse-append (take i given) (item ∷ []) in
    let there : given_to (take (i + 1) given) name ≡ cond (bytes_eq item.name name) (Some (constant_given item)) (given_to (take i given) name)
    = ap (λ gs. option_map constant_given (find (λ g. bytes_eq g.name name) gs)) more ∙ either (bytes_eq item.name name) (find (λ g. bytes_eq g.name name) (reverse (take i given))) in
    put name ∙ (ap (λ k. cond (bytes_eq k name) (Some (constant_given item)) (old name)) same ∙ (ap (cond (bytes_eq item.name name) (Some (constant_given item))) (far name) ∙ sym there))
  where
    either : (b : Bool) (o : Option Given) → option_map constant_given (cond b (Some item) o) ≡ cond b (Some (constant_given item)) (option_map constant_given o)
    either true o = refl
    either false o = refl

-- a name of none of these constants has no entry
no_entry : {V : Type 0} (h : ConstText → V) (cs : List ConstText) (name : Name) → ((k : ℕ) (d : ConstText) → k < length cs → (get_or cs k d).name ≡ name → ⊥)
    → lookup (bytes_eq name) (map (λ c. (c.name, h c)) cs) ≡ None
no_entry h [] name other = refl
no_entry h (c ∷ cs) name other = elim (cases_Bool (bytes_eq name c.name)) [
  | inl here ↦ absurd (other 0 c (omega arith) (sym (same_bytes name c.name here)))
  | inr past ↦ ap (λ b. cond b (Some (h c)) (lookup (bytes_eq name) (map (λ d. (d.name, h d)) cs))) past ∙ no_entry h cs name (λ k d lt. other (suc k) d (omega arith))
]

-- a constant has no entry among those of the constants before it
absent_entry : {V : Type 0} (h : ConstText → V) (consts : List ConstText) (i : ℕ) (c : ConstText) → AreDistinct (const_names consts) → i < length consts → c ≡ get_or consts i c
    → lookup (bytes_eq c.name) (map (λ d. (d.name, h d)) (take i consts)) ≡ None
absent_entry h consts i c distinct lt is = no_entry h (take i consts) c.name (λ k d before same.
    let below : k < i = omega (arith, length-take i consts, before) in
    distinct k i c.name below (omega (arith, length-map consts (λ e. e.name)))
    (get_or-map (λ e. e.name) consts k d c.name (omega arith) ∙ (ap (λ e. e.name) (sym (get_or-take i consts k d below)) ∙ (same
    ∙ (ap (λ e. e.name) is ∙ sym (get_or-map (λ e. e.name) consts i c c.name lt))))))

-- one constant more in a map of entries in text order
pub entries_more : {V S : Type 0} (h : ConstText → V) (consts : List ConstText) (i : ℕ) (c : ConstText) (table : IndexMap Name V S) (key : Name) (value : V) (new : List (Name × V))
    → AreDistinct (const_names consts) → i < length consts → c ≡ get_or consts i c → table.entries ≡ map (λ d. (d.name, h d)) (take i consts)
    → key ≡ c.name → value ≡ h c → new ≡ insert_entry bytes_eq table.entries key value → new ≡ map (λ d. (d.name, h d)) (take (i + 1) consts)
entries_more {V} h consts i c table key value new distinct lt is far named valued put =
    let entry : ConstText → Name × V = λ d. (d.name, h d) in
    let absent : get bytes_eq table key ≡ None = ap (λ k. lookup (bytes_eq k) table.entries) named ∙ (ap (lookup (bytes_eq c.name)) far ∙ absent_entry h consts i c distinct lt is) in
    put ∙ (insert_entry-new bytes_eq table key value absent ∙ ((λ j. far j ++ ((named j, valued j) ∷ []))
    ∙ sym (map_more entry consts i c lt ∙ ap (λ d. map entry (take i consts) ++ (entry d ∷ [])) (sym is))))
