-- Words give one list of options, and a value one meaning.
use Rattle.std.proofs.Common.{◌≡◌, Bool, true, false, List, [], ◌∷◌, ◌++◌, Option, Some, None, Ok, refl, ap, ap₂, sym, ◌∙◌, subst, ◌⊎◌, inl, inr, codes}
use Rattle.std.specs.List.{list_all}
use Rattle.std.specs.Str.Parse.{IsNumeral}
use Rattle.smc_num.specs.Fraction.{Fraction}
use Rattle.smc_num.specs.Spelling.{Written, decimal, IsNumber, without_minus, value_of}
use Rattle.smc_num.specs.Taken.{sign_of, unsigned_of}
use Rattle.std.proofs.lemmas.Bool.{cond-false}
use Rattle.smc_num.proofs.SpellingLemmas.{number_found}
use Rattle.chain_model.specs.declared.values.Sort.{Sort}
use Rattle.chain_model.specs.declared.values.Sort.TheVariants as sort
use Rattle.chain_model.specs.declared.values.Value.{Value}
use Rattle.chain_model.specs.declared.values.Value.TheVariants as value
use Rattle.chain_model.specs.declared.constants.Given.{Given}
use Rattle.smc_settings.specs.declared.commands.Settings.{Settings}
use Rattle.smc_settings.specs.declared.commands.TestWords.{TestWords}
use Rattle.smc_settings.specs.Options.{Text, Gives, nothing, one_word, two_words, value_in}
use Rattle.smc_settings.specs.Values.{IsNumberOr, plan_of}
use Rattle.smc_settings.specs.Constants.{IsPair, ArePairs, ArePairsOr, last, more, IsValueOf}
use Rattle.smc_settings.specs.Constants as spelled
use Rattle.smc_settings.specs.Settings.{IsTest, plan, wald, IsCheck, check_settings, IsTrace, trace_settings, IsExpand, expand_settings, IsMake, make_settings, check_table, trace_table, expand_table, make_table, IsSettings, check, trace, expand, make, help}
use Rattle.smc_settings.specs.Parse.{is_name, IsOptionWord, IsNameWord}
use Rattle.smc_settings.proofs.CutLemmas.{cut_once, different}
use Rattle.smc_settings.proofs.FormLemmas.{known_plain, not_both}
use Rattle.smc_settings.proofs.ConstantLemmas.{pair_lacks_comma, pair_parts, word_lacks, first_pair, only_pair, number_of, number_passes, is_number_byte, numeral_unsigned}

-- ---- options

-- options by their first word
data Split (table : List Text) (word : Text) (rest : List Text) (options : List (Text × Text)) : Type 0 where
  an_option : (is : IsOptionWord table word) (others : List (Text × Text)) → Gives table rest others → options ≡ (is.name, is.value) ∷ others → Split table word rest options
  a_name : (is : IsNameWord table word) (value : Text) (words : List Text) (others : List (Text × Text)) → rest ≡ value ∷ words → Gives table words others → options ≡ (is.name, value) ∷ others → Split table word rest options

split : (table : List Text) (word : Text) (rest : List Text) (options : List (Text × Text)) → Gives table (word ∷ rest) options → Split table word rest options
split table word rest _ (one_word name' value' words options known valid gives) =
    an_option (record { name = name'; value = value'; cut = refl; known = known; valid = valid }) options gives refl
split table word rest _ (two_words name' value' words options known valid gives) =
    a_name (record { name = name'; cut = refl; known = known }) value' words options refl gives refl

-- words give at most one list of options
pub one_options : (table words : List Text) (one two : List (Text × Text)) → list_all is_name table ≡ true → Gives table words one → Gives table words two → one ≡ two
one_options table _ _ _ names nothing nothing = refl
one_options table _ _ two names (one_word name' value' words options known valid gives) also =
    let here : IsOptionWord table (45 ∷ 45 ∷ (name' ++ 61 ∷ value')) = record { name = name'; value = value'; cut = refl; known = known; valid = valid } in
    elim (split table (45 ∷ 45 ∷ (name' ++ 61 ∷ value')) words two also) [
      | an_option is others more_gives e ↦
          let same : name' ++ 61 ∷ value' ≡ is.name ++ 61 ∷ is.value = cc is.cut in
          let parts = cut_once 61 name' value' is.name is.value (known_plain table name' names known) (known_plain table is.name names is.known) same in
          ap₂ (λ o os. o ∷ os) (ap₂ (λ n v. (n, v)) parts.0 parts.1) (one_options table words options others names gives more_gives) ∙ sym e
      | a_name is _ _ _ _ _ _ ↦ absurd (not_both table _ names here is)
    ]
one_options table _ _ two names (two_words name' value' words options known valid gives) also =
    let here : IsNameWord table (45 ∷ 45 ∷ name') = record { name = name'; cut = refl; known = known } in
    elim (split table (45 ∷ 45 ∷ name') (value' ∷ words) two also) [
      | an_option is _ _ _ ↦ absurd (not_both table _ names is here)
      | a_name is value'' words'' others rest more_gives e ↦
          let same : name' ≡ is.name = cc is.cut in
          let same_value : value' ≡ value'' = cc rest in
          let same_words : words'' ≡ words = cc rest in
          ap₂ (λ o os. o ∷ os) (ap₂ (λ n v. (n, v)) same same_value)
          (one_options table words options others names gives (subst (λ ws. Gives table ws others) same_words more_gives)) ∙ sym e
    ]

-- ---- values

-- a text is the spelling of at most one number
pub one_number : (text : Text) (a b : Bool) (v w : Written) (one two : Fraction) → IsNumber text a v → IsNumber text b w → value_of a v ≡ Ok one → value_of b w ≡ Ok two → one ≡ two
one_number text a b v w one two is also e f =
    let p = number_found text a v is in
    let q = number_found text b w also in
    let signs : a ≡ b = sym p.0 ∙ q.0 in
    let written : Some v ≡ Some w = sym p.1 ∙ q.1 in
    let same : v ≡ w = cc written in
    cc (sym e ∙ (ap₂ value_of signs same ∙ f))

-- a number's sort says whether it is digits alone
sort_found : (text : Text) (s : Sort) (number : Fraction) → IsValueOf text s (value.Num number)
    → ((s ≡ sort.Int) × IsNumeral 10 (unsigned_of text)) ⊎ ((s ≡ sort.Double) × (IsNumeral 10 (unsigned_of text) → ⊥))
sort_found _ _ _ (spelled.whole true digits number numeral e) = inl (refl, numeral)
sort_found _ _ _ (spelled.whole false digits number numeral e) = inl (refl, subst (λ t. IsNumeral 10 t) (sym (numeral_unsigned digits numeral)) numeral)
sort_found _ _ _ (spelled.real true text digits power number is other e) = inr (refl, other)
sort_found _ _ _ (spelled.real false text digits power number is other e) =
    let found = number_found text false (decimal digits power) (without_minus text _ is) in
    inr (refl, λ numeral. other (subst (λ t. IsNumeral 10 t) (unsigned_plain text found.0) numeral))
  where
    unsigned_plain : (t : Text) → sign_of t ≡ false → unsigned_of t ≡ t
    unsigned_plain [] plain = refl
    unsigned_plain (c ∷ cs) plain = cond-false _ _ _ plain

one_sort : (text : Text) (s t : Sort) (one two : Fraction) → IsValueOf text s (value.Num one) → IsValueOf text t (value.Num two) → s ≡ t
one_sort text s t one two is also =
    elim (sort_found text s one is) [
      | inl a ↦ elim (sort_found text t two also) [ inl b ↦ a.0 ∙ sym b.0 | inr b ↦ absurd (b.1 a.1) ]
      | inr a ↦ elim (sort_found text t two also) [ inl b ↦ absurd (a.1 b.1) | inr b ↦ a.0 ∙ sym b.0 ]
    ]

-- a truth value is spelled by its word
abbrev truth_text : Bool → Text
truth_text true = codes "true"
truth_text false = codes "false"

truth_found : (text : Text) (s : Sort) (b : Bool) → IsValueOf text s (value.Bool b) → (s ≡ sort.Bool) × (text ≡ truth_text b)
truth_found _ _ _ spelled.holds = (refl, refl)
truth_found _ _ _ spelled.fails = (refl, refl)

truth_no_number : (b : Bool) → list_all is_number_byte (truth_text b) ≡ false
truth_no_number true = refl
truth_no_number false = refl

not_both_values : (text : Text) (s t : Sort) (number : Fraction) (b : Bool) → IsValueOf text s (value.Num number) → IsValueOf text t (value.Bool b) → ⊥
not_both_values text s t number b is also =
    cc (sym (number_passes text s number is) ∙ (ap (list_all is_number_byte) (truth_found text t b also).1 ∙ truth_no_number b))

one_truth : (a b : Bool) → truth_text a ≡ truth_text b → a ≡ b
one_truth true true e = refl
one_truth true false e = cc
one_truth false true e = cc
one_truth false false e = refl

-- a text is the spelling of at most one value
pub one_value : (text : Text) (s t : Sort) (v w : Value) → IsValueOf text s v → IsValueOf text t w → (s ≡ t) × (v ≡ w)
one_value text s t (value.Num m) (value.Num n) is also =
    let a = number_of text s m is in
    let b = number_of text t n also in
    (one_sort text s t m n is also, ap value.Num (one_number text _ _ _ _ m n a.is b.is a.value b.value))
one_value text s t (value.Num m) (value.Bool b) is also = absurd (not_both_values text s t m b is also)
one_value text s t (value.Bool b) (value.Num n) is also = absurd (not_both_values text t s n b also is)
one_value text s t (value.Bool a) (value.Bool b) is also =
    let p = truth_found text s a is in
    let q = truth_found text t b also in
    (p.0 ∙ sym q.0, ap value.Bool (one_truth a b (sym p.1 ∙ q.1)))

-- a constant of its name, and its sort and value
abbrev given_of : Text → Sort × Value → Given
given_of name value = record { name = name; sort = value.0; value = value.1 }

-- a text is at most one pair
pub one_pair : (text : Text) (one two : Given) → IsPair text one → IsPair text two → one ≡ two
one_pair text one two is also =
    let parts = pair_parts text one.name is.value two is.cut (word_lacks 61 one.name refl refl is.word) also in
    let same = one_value is.value one.sort two.sort one.value two.value is.is_value (subst (λ t. IsValueOf t two.sort two.value) parts.1 also.is_value) in
    ap₂ given_of (sym parts.0) (ap₂ (λ s v. (s, v)) same.0 same.1)

-- a text is at most one list of pairs
pub one_pairs : (text : Text) (one two : List Given) → ArePairs text one → ArePairs text two → one ≡ two
one_pairs text _ two (last _ given is) also =
    let only = only_pair text two (pair_lacks_comma text given is) also in
    ap (λ g. g ∷ []) (one_pair text given only.one is only.is) ∙ sym only.all
one_pairs _ _ two (more front rest given others is are) also =
    let first = first_pair (front ++ 44 ∷ rest) front rest two refl (pair_lacks_comma front given is) also in
    ap₂ (λ g gs. g ∷ gs) (one_pair front given first.one is first.is) (one_pairs rest others first.others are first.are) ∙ sym first.all

-- ---- settings

one_pairs_or : (text : Option Text) (one two : List Given) → ArePairsOr text one → ArePairsOr text two → one ≡ two
one_pairs_or None one two is also = is ∙ sym also
one_pairs_or (Some text) one two is also = one_pairs text one two is also

one_number_or : (text : Option Text) (one two : Fraction) → IsNumberOr text one → IsNumberOr text two → one ≡ two
one_number_or None one two is also = is ∙ sym also
one_number_or (Some text) one two is also = one_number text _ _ _ _ one two is.spelled also.spelled is.value also.value

some_one : {X : Type 0} (o : Option X) (a b : X) → o ≡ Some a → o ≡ Some b → a ≡ b
some_one o a b e f = cc (sym e ∙ f)

one_test : (p d a b : Option Text) (one two : TestWords) → IsTest p d a b one → IsTest p d a b two → one ≡ two
one_test _ _ _ _ _ two (plan text words e) (plan _ words' f) = some_one (plan_of text) words words' e f
one_test _ _ _ _ _ _ (wald delta alpha beta w f s a b c) (wald _ _ _ w' f' s' a' b' c') =
    let p = one_number_or delta w w' a a' in
    let q = one_number_or alpha f f' b b' in
    let r = one_number_or beta s s' c c' in
    cc

one_check : (v : Text → Option Text) (one two : Settings) → IsCheck v one → IsCheck v two → one ≡ two
one_check v _ _ (check_settings model property given seed test limit workers a b c d e f g) (check_settings model' property' given' seed' test' limit' workers' a' b' c' d' e' f' g') =
    let p1 = some_one _ model model' a a' in
    let p2 = some_one _ property property' b b' in
    let p3 = one_pairs_or _ given given' c c' in
    let p4 = some_one _ seed seed' d d' in
    let p5 = one_test _ _ _ _ test test' e e' in
    let p6 = some_one _ limit limit' f f' in
    let p7 = some_one _ workers workers' g g' in
    cc

one_trace : (v : Text → Option Text) (one two : Settings) → IsTrace v one → IsTrace v two → one ≡ two
one_trace v _ _ (trace_settings model given seed index steps a c d e f) (trace_settings model' given' seed' index' steps' a' c' d' e' f') =
    let p1 = some_one _ model model' a a' in
    let p2 = one_pairs_or _ given given' c c' in
    let p3 = some_one _ seed seed' d d' in
    let p4 = some_one _ index index' e e' in
    let p5 = some_one _ steps steps' f f' in
    cc

one_expand : (v : Text → Option Text) (one two : Settings) → IsExpand v one → IsExpand v two → one ≡ two
one_expand v _ _ (expand_settings model a) (expand_settings model' a') =
    let p1 = some_one _ model model' a a' in
    cc

one_make : (v : Text → Option Text) (one two : Settings) → IsMake v one → IsMake v two → one ≡ two
one_make v _ _ (make_settings stations seed workers a odd b c) (make_settings stations' seed' workers' a' odd' b' c') =
    let p1 = some_one _ stations stations' a a' in
    let p2 = some_one _ seed seed' b b' in
    let p3 = some_one _ workers workers' c c' in
    cc

check_names : list_all is_name check_table ≡ true
check_names = refl

trace_names : list_all is_name trace_table ≡ true
trace_names = refl

expand_names : list_all is_name expand_table ≡ true
expand_names = refl

make_names : list_all is_name make_table ≡ true
make_names = refl

-- words have at most one settings
pub one_settings : (words : List Text) (one two : Settings) → IsSettings words one → IsSettings words two → one ≡ two
one_settings _ _ _ (check name' words one e is) (check _ _ two f also) =
    let same = one_options check_table words is.options also.options check_names is.are_options.gives also.are_options.gives in
    one_check (value_in is.options) one two is.has_settings (subst (λ o. IsCheck (value_in o) two) (sym same) also.has_settings)
one_settings _ _ _ (check name' words one e is) (trace _ _ two f also) = absurd (different (codes "check") (codes "trace") refl (sym e ∙ f))
one_settings _ _ _ (check name' words one e is) (expand _ _ two f also) = absurd (different (codes "check") (codes "expand") refl (sym e ∙ f))
one_settings _ _ _ (check name' words one e is) (make _ _ two f also) = absurd (different (codes "check") (codes "make") refl (sym e ∙ f))
one_settings _ _ _ (check name' words one e is) (help _ f) = absurd (different (codes "check") (codes "help") refl (sym e ∙ f))
one_settings _ _ _ (trace name' words one e is) (check _ _ two f also) = absurd (different (codes "trace") (codes "check") refl (sym e ∙ f))
one_settings _ _ _ (trace name' words one e is) (trace _ _ two f also) =
    let same = one_options trace_table words is.options also.options trace_names is.are_options.gives also.are_options.gives in
    one_trace (value_in is.options) one two is.has_settings (subst (λ o. IsTrace (value_in o) two) (sym same) also.has_settings)
one_settings _ _ _ (trace name' words one e is) (expand _ _ two f also) = absurd (different (codes "trace") (codes "expand") refl (sym e ∙ f))
one_settings _ _ _ (trace name' words one e is) (make _ _ two f also) = absurd (different (codes "trace") (codes "make") refl (sym e ∙ f))
one_settings _ _ _ (trace name' words one e is) (help _ f) = absurd (different (codes "trace") (codes "help") refl (sym e ∙ f))
one_settings _ _ _ (expand name' words one e is) (check _ _ two f also) = absurd (different (codes "expand") (codes "check") refl (sym e ∙ f))
one_settings _ _ _ (expand name' words one e is) (trace _ _ two f also) = absurd (different (codes "expand") (codes "trace") refl (sym e ∙ f))
one_settings _ _ _ (expand name' words one e is) (expand _ _ two f also) =
    let same = one_options expand_table words is.options also.options expand_names is.are_options.gives also.are_options.gives in
    one_expand (value_in is.options) one two is.has_settings (subst (λ o. IsExpand (value_in o) two) (sym same) also.has_settings)
one_settings _ _ _ (expand name' words one e is) (make _ _ two f also) = absurd (different (codes "expand") (codes "make") refl (sym e ∙ f))
one_settings _ _ _ (expand name' words one e is) (help _ f) = absurd (different (codes "expand") (codes "help") refl (sym e ∙ f))
one_settings _ _ _ (make name' words one e is) (check _ _ two f also) = absurd (different (codes "make") (codes "check") refl (sym e ∙ f))
one_settings _ _ _ (make name' words one e is) (trace _ _ two f also) = absurd (different (codes "make") (codes "trace") refl (sym e ∙ f))
one_settings _ _ _ (make name' words one e is) (expand _ _ two f also) = absurd (different (codes "make") (codes "expand") refl (sym e ∙ f))
one_settings _ _ _ (make name' words one e is) (make _ _ two f also) =
    let same = one_options make_table words is.options also.options make_names is.are_options.gives also.are_options.gives in
    one_make (value_in is.options) one two is.has_settings (subst (λ o. IsMake (value_in o) two) (sym same) also.has_settings)
one_settings _ _ _ (make name' words one e is) (help _ f) = absurd (different (codes "make") (codes "help") refl (sym e ∙ f))
one_settings _ _ _ (help name' e) (check _ _ two f also) = absurd (different (codes "help") (codes "check") refl (sym e ∙ f))
one_settings _ _ _ (help name' e) (trace _ _ two f also) = absurd (different (codes "help") (codes "trace") refl (sym e ∙ f))
one_settings _ _ _ (help name' e) (expand _ _ two f also) = absurd (different (codes "help") (codes "expand") refl (sym e ∙ f))
one_settings _ _ _ (help name' e) (make _ _ two f also) = absurd (different (codes "help") (codes "make") refl (sym e ∙ f))
one_settings _ _ _ (help name' e) (help _ f) = refl
