-- Settings depend on the values of the options alone.
use Rattle.std.proofs.Common.{◌≡◌, ◌-◌, ◌^◌, codes, List, ◌∷◌, [], Option, refl, sym, ap, ◌∙◌, subst}
use Rattle.smc_settings.specs.declared.commands.Settings.{Settings}
use Rattle.smc_settings.specs.declared.commands.TestWords.{TestWords}
use Rattle.smc_settings.specs.Options.{Text, AreOptions, value_in}
use Rattle.smc_settings.specs.Values.{whole_or}
use Rattle.smc_settings.specs.Constants.{ArePairsOr}
use Rattle.smc_settings.specs.Settings.{IsTest, IsCheck, check_settings, IsTrace, trace_settings, IsExpand, expand_settings, IsMake, make_settings, AreCheckWords, AreTraceWords, AreExpandWords, AreMakeWords, check_table, trace_table, expand_table, make_table, IsSettings, check, trace, expand, make, help}
use Rattle.smc_settings.specs.Parse.{HasValues, is_name}
use Rattle.std.specs.List.{list_all}
use Rattle.std.proofs.Common.{true}
use Rattle.smc_settings.proofs.UniqueLemmas.{one_options}
use Rattle.smc_settings.proofs.CutLemmas.{different}

-- what is asked of the values that one function gives holds of those of an equal one
same_test : (v w : Text → Option Text) (t : TestWords) → ((name : Text) → v name ≡ w name)
    → IsTest (v (codes "plan")) (v (codes "delta")) (v (codes "alpha")) (v (codes "beta")) t → IsTest (w (codes "plan")) (w (codes "delta")) (w (codes "alpha")) (w (codes "beta")) t
same_test v w t same is = rw (← same (codes "plan"), ← same (codes "delta"), ← same (codes "alpha"), ← same (codes "beta")) is

pub same_check : (v w : Text → Option Text) (s : Settings) → ((name : Text) → v name ≡ w name) → IsCheck v s → IsCheck w s
same_check v w _ same (check_settings model property given seed test limit workers a b c d e f g) =
    check_settings model property given seed test limit workers (sym (same (codes "model")) ∙ a) (sym (same (codes "property")) ∙ b)
    (subst (λ o. ArePairsOr o given) (same (codes "const")) c) (ap (whole_or 1 0 (2 ^ 64 - 1)) (sym (same (codes "seed"))) ∙ d) (same_test v w test same e)
    (ap (whole_or 1000000 1 (2 ^ 28)) (sym (same (codes "limit"))) ∙ f) (ap (whole_or 1 1 64) (sym (same (codes "workers"))) ∙ g)

pub same_trace : (v w : Text → Option Text) (s : Settings) → ((name : Text) → v name ≡ w name) → IsTrace v s → IsTrace w s
same_trace v w _ same (trace_settings model given seed index steps a c d e f) =
    trace_settings model given seed index steps (sym (same (codes "model")) ∙ a) (subst (λ o. ArePairsOr o given) (same (codes "const")) c)
    (ap (whole_or 1 0 (2 ^ 64 - 1)) (sym (same (codes "seed"))) ∙ d) (ap (whole_or 0 0 (2 ^ 64 - 1)) (sym (same (codes "index"))) ∙ e)
    (ap (whole_or 10 0 10000) (sym (same (codes "steps"))) ∙ f)

pub same_expand : (v w : Text → Option Text) (s : Settings) → ((name : Text) → v name ≡ w name) → IsExpand v s → IsExpand w s
same_expand v w _ same (expand_settings model a) = expand_settings model (sym (same (codes "model")) ∙ a)

pub same_make : (v w : Text → Option Text) (s : Settings) → ((name : Text) → v name ≡ w name) → IsMake v s → IsMake w s
same_make v w _ same (make_settings stations seed workers a odd b c) =
    make_settings stations seed workers (ap (whole_or 9 3 63) (sym (same (codes "stations"))) ∙ a) odd
    (ap (whole_or 1 0 (2 ^ 64 - 1)) (sym (same (codes "seed"))) ∙ b) (ap (whole_or 1 1 64) (sym (same (codes "workers"))) ∙ c)

-- ---- words of a command

check_names : list_all is_name check_table ≡ true
check_names = refl

trace_names : list_all is_name trace_table ≡ true
trace_names = refl

expand_names : list_all is_name expand_table ≡ true
expand_names = refl

make_names : list_all is_name make_table ≡ true
make_names = refl

-- settings of the values are settings of the words
pub check_words : (table words : List Text) (v : Text → Option Text) (s : Settings) → table ≡ check_table → HasValues table words v → IsCheck v s → AreCheckWords words s
check_words table words v s same has is = record {
  options = has.options;
  are_options = subst (λ t. AreOptions t words has.options) same has.are_options;
  has_settings = same_check v (value_in has.options) s has.values is;
}

pub trace_words : (table words : List Text) (v : Text → Option Text) (s : Settings) → table ≡ trace_table → HasValues table words v → IsTrace v s → AreTraceWords words s
trace_words table words v s same has is = record {
  options = has.options;
  are_options = subst (λ t. AreOptions t words has.options) same has.are_options;
  has_settings = same_trace v (value_in has.options) s has.values is;
}

pub expand_words : (table words : List Text) (v : Text → Option Text) (s : Settings) → table ≡ expand_table → HasValues table words v → IsExpand v s → AreExpandWords words s
expand_words table words v s same has is = record {
  options = has.options;
  are_options = subst (λ t. AreOptions t words has.options) same has.are_options;
  has_settings = same_expand v (value_in has.options) s has.values is;
}

pub make_words : (table words : List Text) (v : Text → Option Text) (s : Settings) → table ≡ make_table → HasValues table words v → IsMake v s → AreMakeWords words s
make_words table words v s same has is = record {
  options = has.options;
  are_options = subst (λ t. AreOptions t words has.options) same has.are_options;
  has_settings = same_make v (value_in has.options) s has.values is;
}

-- and settings of the words are settings of the values
pub check_values : (table words : List Text) (v : Text → Option Text) (s : Settings) → table ≡ check_table → HasValues table words v → AreCheckWords words s → IsCheck v s
check_values table words v s same has is =
    let gives = subst (λ t. AreOptions t words has.options) same has.are_options in
    let one = one_options check_table words has.options is.options check_names gives.gives is.are_options.gives in
    same_check (value_in is.options) v s (λ name. sym (has.values name ∙ ap (λ o. value_in o name) one)) is.has_settings

pub trace_values : (table words : List Text) (v : Text → Option Text) (s : Settings) → table ≡ trace_table → HasValues table words v → AreTraceWords words s → IsTrace v s
trace_values table words v s same has is =
    let gives = subst (λ t. AreOptions t words has.options) same has.are_options in
    let one = one_options trace_table words has.options is.options trace_names gives.gives is.are_options.gives in
    same_trace (value_in is.options) v s (λ name. sym (has.values name ∙ ap (λ o. value_in o name) one)) is.has_settings

pub expand_values : (table words : List Text) (v : Text → Option Text) (s : Settings) → table ≡ expand_table → HasValues table words v → AreExpandWords words s → IsExpand v s
expand_values table words v s same has is =
    let gives = subst (λ t. AreOptions t words has.options) same has.are_options in
    let one = one_options expand_table words has.options is.options expand_names gives.gives is.are_options.gives in
    same_expand (value_in is.options) v s (λ name. sym (has.values name ∙ ap (λ o. value_in o name) one)) is.has_settings

pub make_values : (table words : List Text) (v : Text → Option Text) (s : Settings) → table ≡ make_table → HasValues table words v → AreMakeWords words s → IsMake v s
make_values table words v s same has is =
    let gives = subst (λ t. AreOptions t words has.options) same has.are_options in
    let one = one_options make_table words has.options is.options make_names gives.gives is.are_options.gives in
    same_make (value_in is.options) v s (λ name. sym (has.values name ∙ ap (λ o. value_in o name) one)) is.has_settings

-- ---- words by their command

pub check_only : (name : Text) (words : List Text) (s : Settings) → name ≡ codes "check" → IsSettings (name ∷ words) s → AreCheckWords words s
check_only name words s e (check _ _ _ _ is) = is
check_only name words s e (trace _ _ _ f _) = absurd (different (codes "check") (codes "trace") refl (sym e ∙ f))
check_only name words s e (expand _ _ _ f _) = absurd (different (codes "check") (codes "expand") refl (sym e ∙ f))
check_only name words s e (make _ _ _ f _) = absurd (different (codes "check") (codes "make") refl (sym e ∙ f))
check_only name _ _ e (help _ f) = absurd (different (codes "check") (codes "help") refl (sym e ∙ f))

pub trace_only : (name : Text) (words : List Text) (s : Settings) → name ≡ codes "trace" → IsSettings (name ∷ words) s → AreTraceWords words s
trace_only name words s e (trace _ _ _ _ is) = is
trace_only name words s e (check _ _ _ f _) = absurd (different (codes "trace") (codes "check") refl (sym e ∙ f))
trace_only name words s e (expand _ _ _ f _) = absurd (different (codes "trace") (codes "expand") refl (sym e ∙ f))
trace_only name words s e (make _ _ _ f _) = absurd (different (codes "trace") (codes "make") refl (sym e ∙ f))
trace_only name _ _ e (help _ f) = absurd (different (codes "trace") (codes "help") refl (sym e ∙ f))

pub expand_only : (name : Text) (words : List Text) (s : Settings) → name ≡ codes "expand" → IsSettings (name ∷ words) s → AreExpandWords words s
expand_only name words s e (expand _ _ _ _ is) = is
expand_only name words s e (check _ _ _ f _) = absurd (different (codes "expand") (codes "check") refl (sym e ∙ f))
expand_only name words s e (trace _ _ _ f _) = absurd (different (codes "expand") (codes "trace") refl (sym e ∙ f))
expand_only name words s e (make _ _ _ f _) = absurd (different (codes "expand") (codes "make") refl (sym e ∙ f))
expand_only name _ _ e (help _ f) = absurd (different (codes "expand") (codes "help") refl (sym e ∙ f))

pub make_only : (name : Text) (words : List Text) (s : Settings) → name ≡ codes "make" → IsSettings (name ∷ words) s → AreMakeWords words s
make_only name words s e (make _ _ _ _ is) = is
make_only name words s e (check _ _ _ f _) = absurd (different (codes "make") (codes "check") refl (sym e ∙ f))
make_only name words s e (trace _ _ _ f _) = absurd (different (codes "make") (codes "trace") refl (sym e ∙ f))
make_only name words s e (expand _ _ _ f _) = absurd (different (codes "make") (codes "expand") refl (sym e ∙ f))
make_only name _ _ e (help _ f) = absurd (different (codes "make") (codes "help") refl (sym e ∙ f))

pub help_only : (name : Text) (words : List Text) (s : Settings) → name ≡ codes "help" → IsSettings (name ∷ words) s → words ≡ []
help_only name words s e (check _ _ _ f _) = absurd (different (codes "help") (codes "check") refl (sym e ∙ f))
help_only name words s e (trace _ _ _ f _) = absurd (different (codes "help") (codes "trace") refl (sym e ∙ f))
help_only name words s e (expand _ _ _ f _) = absurd (different (codes "help") (codes "expand") refl (sym e ∙ f))
help_only name words s e (make _ _ _ f _) = absurd (different (codes "help") (codes "make") refl (sym e ∙ f))
help_only name _ _ e (help _ f) = refl
