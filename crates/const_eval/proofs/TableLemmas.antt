-- Maps of constants as what they say of names.
use Rattle.std.proofs.Common.{◌≡◌, ℕ, List, [], ◌∷◌, ◌++◌, Option, Bool, true, false, ◌||◌, map, find, cond, bytes_eq, is_some, option_map, refl, sym, ap, ◌∙◌}
use Rattle.std.specs.Prelude.{None, Some, position}
use mathlib.Core.Logic.{inl, inr}
use Rattle.std.specs.Map.{lookup}
use Rattle.std.specs.List.{filter_map, cons_option}
use Rattle.std.specs.Option.{option_to_list}
use Rattle.std.proofs.lemmas.Bool.{cases_Bool}
use Rattle.std.proofs.lemmas.List.Elements.{filter_map-append}
use Rattle.indexmap.specs.IndexMap.{IndexMap, get, keys}
use Rattle.prism_syntax.specs.declared.models.ConstText.{ConstText}
use Rattle.chain_model.specs.declared.values.Sort.{Sort}
use Rattle.prism_names.specs.First.{Name, is_among}
use Rattle.const_eval.specs.Tables.{sort_of_word}
use Rattle.const_eval.specs.Constants.{const_names, definition_names, sort_declared}
use Rattle.const_eval.specs.Listing.{declared_sorts}
use Rattle.const_eval.proofs.ListingLemmas.{same_bytes, own_bytes}
use Rattle.const_eval.proofs.ResultLemmas.{place_of}

-- it is the same which of two names is compared with the other
pub bytes_sym : (m n : Name) → bytes_eq m n ≡ bytes_eq n m
bytes_sym m n = elim (cases_Bool (bytes_eq m n)) [
  | inl same ↦ same ∙ sym (ap (λ z. bytes_eq n z) (same_bytes m n same) ∙ own_bytes n)
  | inr other ↦ elim (cases_Bool (bytes_eq n m)) [
    | inl same ↦ ap (λ z. bytes_eq m z) (same_bytes n m same) ∙ (own_bytes m ∙ sym same)
    | inr too ↦ other ∙ sym too
  ]
]

-- the declared sort of a name
sort-looked_up : (consts : List ConstText) (name : Name) → lookup (bytes_eq name) (declared_sorts consts) ≡ sort_declared consts name
sort-looked_up [] name = refl
sort-looked_up (c ∷ consts) name =
    (λ j. cond (bytes_sym name c.name j) (Some (sort_of_word c.sort)) (sort-looked_up consts name j))
    ∙ either (bytes_eq c.name name) (find (λ d. bytes_eq d.name name) consts)
  where
    either : (b : Bool) (o : Option ConstText) → cond b (Some (sort_of_word c.sort)) (option_map (λ d. sort_of_word d.sort) o) ≡ option_map (λ d. sort_of_word d.sort) (cond b (Some c) o)
    either true o = refl
    either false o = refl

name-looked_up : (consts : List ConstText) (name : Name) → is_some (lookup (bytes_eq name) (declared_sorts consts)) ≡ is_among (const_names consts) name
name-looked_up [] name = refl
name-looked_up (c ∷ consts) name =
    either (bytes_eq name c.name) (lookup (bytes_eq name) (declared_sorts consts)) ∙ (λ j. bytes_sym name c.name j || name-looked_up consts name j)
  where
    either : (b : Bool) (o : Option Sort) → is_some (cond b (Some (sort_of_word c.sort)) o) ≡ (b || is_some o)
    either true o = refl
    either false o = refl

names_listed : (consts : List ConstText) → map (λ e. e.0) (declared_sorts consts) ≡ const_names consts
names_listed [] = refl
names_listed (c ∷ consts) = ap (λ rest. c.name ∷ rest) (names_listed consts)

module _ {S : Type 0} (consts : List ConstText) (sorts : IndexMap Name Sort S) (is : sorts.entries ≡ declared_sorts consts) where
  pub sorts_are : get bytes_eq sorts ≡ sort_declared consts
  sorts_are = λ j name. (ap (lookup (bytes_eq name)) is ∙ sort-looked_up consts name) j

  pub known_are : (λ name. is_some (get bytes_eq sorts name)) ≡ is_among (const_names consts)
  known_are = λ j name. (ap (λ entries. is_some (lookup (bytes_eq name) entries)) is ∙ name-looked_up consts name) j

  pub keys_are : keys sorts ≡ const_names consts
  keys_are = ap (map (λ e. e.0)) is ∙ names_listed consts

  pub places_are : (λ name. position (bytes_eq name) (keys sorts)) ≡ place_of consts
  places_are = λ j name. position (λ other. bytes_sym name other j) (keys_are j)

-- the places of the names of a definition
pub row_is : {S : Type 0} (consts : List ConstText) (sorts : IndexMap Name Sort S) → sorts.entries ≡ declared_sorts consts → (names shown : List Name) (row : List ℕ) (c : ConstText)
    → row ≡ filter_map (λ name. position (bytes_eq name) (keys sorts)) shown → shown ≡ names → names ≡ definition_names c → row ≡ filter_map (place_of consts) (definition_names c)
row_is consts sorts is names shown row c found same named = found ∙ (λ j. filter_map (places_are consts sorts is j) ((same ∙ named) j))

single : {Y : Type 0} (o : Option Y) → cons_option o [] ≡ option_to_list o
single None = refl
single (Some y) = refl

-- one name more
pub filter_more : {X Y : Type 0} (h : X → Option Y) (front more : List X) (x : X) (before after : List Y) (found : Option Y) → more ≡ front ++ (x ∷ [])
    → before ≡ filter_map h front → found ≡ h x → after ≡ before ++ option_to_list found → after ≡ filter_map h more
filter_more h front more x before after found is far here put =
    put ∙ ((λ j. far j ++ option_to_list (here j)) ∙ (ap (λ rest. filter_map h front ++ rest) (sym (single (h x)))
    ∙ (sym (filter_map-append h front (x ∷ [])) ∙ ap (filter_map h) (sym is))))
