-- The form of words that give options.
use Rattle.std.proofs.Common.{◌≡◌, Bool, true, false, not, List, [], ◌∷◌, ◌++◌, refl, ap, sym, ◌∙◌, subst, ◌↔◌}
use Rattle.std.specs.List.{list_all}
use Rattle.smc_settings.specs.Options.{Text, Gives, nothing, one_word, two_words, is_known, is_value}
use Rattle.smc_settings.specs.Parse.{is_name, IsOptionWord, IsNameWord, HasOptions, GoesOn}
use Rattle.smc_settings.proofs.CutLemmas.{has, has_cut, cut_once}
use Rattle.smc_settings.proofs.NameLemmas.{known_name, not_given}

-- a name has no `=`
plain_of : (name : Text) → is_name name ≡ true → has 61 name ≡ false
plain_of [] e = cc
plain_of (x ∷ name) e = not_given _ e

-- a name of a table has none
pub known_plain : (table : List Text) (name : Text) → list_all is_name table ≡ true → is_known table name ≡ true → has 61 name ≡ false
known_plain table name names is = plain_of name (known_name table name names is)

-- an option that is cut at its first `=` is known and has a value
pub option_parts : (table : List Text) (body name value : Text) → list_all is_name table ≡ true → body ≡ name ++ 61 ∷ value → has 61 name ≡ false
    → IsOptionWord table (45 ∷ 45 ∷ body) → (is_known table name ≡ true) × (is_value value ≡ true)
option_parts table body name value names cut plain is =
    let same : is.name ++ 61 ∷ is.value ≡ name ++ 61 ∷ value = cc (is.cut, cut) in
    let parts = cut_once 61 is.name is.value name value (known_plain table is.name names is.known) plain same in
    (ap (is_known table) (sym parts.0) ∙ is.known, ap is_value (sym parts.1) ∙ is.valid)

-- a text without `=` is no option with its value
pub no_option : (table : List Text) (body : Text) → has 61 body ≡ false → IsOptionWord table (45 ∷ 45 ∷ body) → ⊥
no_option table body plain is =
    let same : body ≡ is.name ++ 61 ∷ is.value = cc is.cut in
    cc (sym plain ∙ (ap (has 61) same ∙ has_cut 61 is.name is.value))

-- a text with `=` is no name
pub no_name : (table : List Text) (body name value : Text) → list_all is_name table ≡ true → body ≡ name ++ 61 ∷ value → IsNameWord table (45 ∷ 45 ∷ body) → ⊥
no_name table body name value names cut is =
    let same : is.name ≡ name ++ 61 ∷ value = cc (is.cut, cut) in
    cc (sym (known_plain table is.name names is.known) ∙ (ap (has 61) same ∙ has_cut 61 name value))

-- a name word's name is known
pub name_part : (table : List Text) (body : Text) → IsNameWord table (45 ∷ 45 ∷ body) → is_known table body ≡ true
name_part table body is = let same : is.name ≡ body = cc is.cut in ap (is_known table) (sym same) ∙ is.known

-- the first word of options, and the rest
data First (table : List Text) (word : Text) (rest : List Text) : Type 0 where
  an_option : IsOptionWord table word → HasOptions table rest → First table word rest
  a_name : IsNameWord table word → GoesOn table true rest → First table word rest

first : (table : List Text) (word : Text) (rest : List Text) → HasOptions table (word ∷ rest) → First table word rest
first table word rest (_, one_word name value words options known valid gives) =
    an_option (record { name = name; value = value; cut = refl; known = known; valid = valid }) (options, gives)
first table word rest (_, two_words name value words options known valid gives) =
    a_name (record { name = name; cut = refl; known = known }) (valid, (options, gives))

-- an option in one word is no name
pub not_both : (table : List Text) (word : Text) → list_all is_name table ≡ true → IsOptionWord table word → IsNameWord table word → ⊥
not_both table word names one two =
    no_name table (one.name ++ 61 ∷ one.value) one.name one.value names refl (record { name = two.name; cut = sym one.cut ∙ two.cut; known = two.known })

-- options go on after an option in one word
pub after_option : (table : List Text) (word : Text) (rest : List Text) → list_all is_name table ≡ true → IsOptionWord table word → HasOptions table (word ∷ rest) ↔ HasOptions table rest
after_option table word rest names is = (
  λ has_options. elim (first table word rest has_options) [ an_option _ more ↦ more | a_name two more ↦ absurd (not_both table word names is two) ],
  λ more. (_, subst (λ w. Gives table (w ∷ rest) ((is.name, is.value) ∷ more.0)) (sym is.cut) (one_word is.name is.value rest more.0 is.known is.valid more.1)),
)

-- a name goes on with its value
pub after_name : (table : List Text) (word : Text) (rest : List Text) → list_all is_name table ≡ true → IsNameWord table word → HasOptions table (word ∷ rest) ↔ GoesOn table true rest
after_name table word rest names is = (
  λ has_options. elim (first table word rest has_options) [ an_option one more ↦ absurd (not_both table word names one is) | a_name _ more ↦ more ],
  two rest,
)
  where
    two : (rest : List Text) → GoesOn table true rest → HasOptions table (word ∷ rest)
    two [] more = absurd more
    two (value ∷ words) more =
        (_, subst (λ w. Gives table (w ∷ value ∷ words) ((is.name, value) ∷ more.1.0)) (sym is.cut) (two_words is.name value words more.1.0 is.known more.0 more.1.1))

-- other words give no options
pub no_options : (table : List Text) (word : Text) (rest : List Text) → (IsOptionWord table word → ⊥) → (IsNameWord table word → ⊥) → HasOptions table (word ∷ rest) → ⊥
no_options table word rest not_option not_name has_options = elim (first table word rest has_options) [ an_option one _ ↦ not_option one | a_name two _ ↦ not_name two ]

-- words that are at their end go on exactly where no value is awaited
ends : (table : List Text) (waits : Bool) → GoesOn table waits [] ↔ (not waits ≡ true)
ends table true = (λ bad. absurd bad, λ e. cc)
ends table false = (λ _. refl, λ _. ([], nothing))

pub at_end : (table : List Text) (waits : Bool) (rest : List Text) → rest ≡ [] → GoesOn table waits rest ↔ (not waits ≡ true)
at_end table waits rest e = subst (λ words. GoesOn table waits words ↔ (not waits ≡ true)) (sym e) (ends table waits)
