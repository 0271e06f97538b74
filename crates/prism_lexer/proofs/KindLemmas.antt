-- A text is a token of one kind at most.
use Rattle.std.proofs.Common.{◌≡◌, ℕ, ◌+◌, ◌-◌, ℤ, pos, Bool, true, false, List, [], ◌∷◌, ◌++◌, length, take, drop, Option, Some, inl, inr, ⊎_elim, refl, sym, ◌∙◌, ap, subst, subst₂, arith, append-nil, length-append}
use Rattle.std.specs.Prelude.{Result}
use Rattle.std.specs.Str.Parse.{IsNumeral}
use Rattle.std.proofs.lemmas.List.{append_cancel_right}
use Rattle.std.proofs.lemmas.Bool.{cases_Bool}
use Rattle.smc_num.specs.declared.fault.ReadNum.{ReadNum}
use Rattle.smc_num.specs.Fraction.{Fraction}
use Rattle.smc_num.specs.Spelling.{Written, decimal, IsSpelled, IsNumber, without_minus, whole, none, value_of}
use Rattle.prism_syntax.specs.declared.tokens.Kind.{Kind}
use Rattle.prism_syntax.specs.declared.tokens.Kind.TheVariants as k
use Rattle.prism_syntax.specs.Spelling.{spelling_of, is_symbol}
use Rattle.prism_syntax.specs.Tokens.{IsWord, IsToken, number_kind}
use Rattle.prism_syntax.specs.Tokens as token
use Rattle.prism_syntax.proofs.ListedLemmas.{one_spelled}
use Rattle.prism_syntax.proofs.NumberLemmas.{one_spelling}
use Rattle.prism_lexer.specs.Lexemes.{IsReal, IsQuoted}
use Rattle.prism_lexer.proofs.RunLemmas.{front_is}
use Rattle.prism_lexer.proofs.FormLemmas.{Head, letter, quote, digit, other, head_of, reserved_word, word_head, number_head, symbol_head}
use Rattle.prism_lexer.proofs.NumberLemmas.{IsNumberText}

-- the head of a token without what follows it
head_alone : (bytes : List ℕ) (h : Head) → head_of (bytes ++ []) ≡ h → head_of bytes ≡ h
head_alone bytes h is = ap head_of (sym (append-nil bytes)) ∙ is

-- the three groups of heads: what is spelled always alike or as a name, what is quoted, and numbers
data Group : Type 0 where
  plain : Group
  quotes : Group
  numbers : Group

group_of : Head → Group
group_of letter = plain
group_of other = plain
group_of quote = quotes
group_of digit = numbers

group : List ℕ → Group
unfolding group_of
group bytes = group_of (head_of bytes)

in_group : (bytes : List ℕ) (h : Head) → head_of (bytes ++ []) ≡ h → group bytes ≡ group_of h
unfolding group
in_group bytes h is = ap group_of (head_alone bytes h is)

word_group : (bytes : List ℕ) → IsWord bytes → group bytes ≡ plain
unfolding group_of
word_group bytes is = in_group bytes letter (word_head bytes [] is)

fixed_group : (bytes : List ℕ) (kind : Kind) → spelling_of kind ≡ Some bytes → group bytes ≡ plain
unfolding group_of
fixed_group bytes kind spelled =
    ⊎_elim
    (λ (is_true : is_symbol kind ≡ true). in_group bytes other (symbol_head kind bytes [] is_true spelled))
    (λ (is_false : is_symbol kind ≡ false). word_group bytes (reserved_word kind bytes is_false spelled))
    (cases_Bool (is_symbol kind))

quoted_group : (text : List ℕ) → group (34 ∷ (text ++ (34 ∷ []))) ≡ quotes
unfolding group group_of
quoted_group text = refl

number_group : (bytes : List ℕ) → IsNumberText bytes → group bytes ≡ numbers
unfolding group_of
number_group bytes is = in_group bytes digit (number_head bytes [] is)

-- texts of two groups are not the same
apart : (a b : List ℕ) (g h : Group) → group a ≡ g → group b ≡ h → a ≡ b → g ≡ h
apart a b g h first second same = sym first ∙ ap group same ∙ second

real_text : (bytes digits : List ℕ) (power : ℤ) → IsSpelled bytes (decimal digits power) → (IsNumeral 10 bytes → ⊥) → IsNumberText bytes
real_text bytes digits power spelled not_whole = inr (record { digits = digits; power = power; spelled = spelled; not_whole = not_whole })

-- the kind of a text that is a token
pub one_kind : (a b : List ℕ) (o p : Option Kind) → IsToken a o → IsToken b p → a ≡ b → o ≡ p
one_kind _ _ _ _ (token.fixed a kind s) (token.fixed b too t) same = ap Some (one_spelled kind too a s (t ∙ ap Some (sym same)))
one_kind _ _ _ _ (token.fixed a kind s) (token.name b w free) same = absurd (free kind (s ∙ ap Some same))
one_kind _ _ _ _ (token.fixed a kind s) (token.quoted b w) same = let e = apart a (34 ∷ (b ++ (34 ∷ []))) plain quotes (fixed_group a kind s) (quoted_group b) same in absurd (cc)
one_kind _ _ _ _ (token.fixed a kind s) (token.whole b n) same = let e = apart a b plain numbers (fixed_group a kind s) (number_group b (inl n)) same in absurd (cc)
one_kind _ _ _ _ (token.fixed a kind s) (token.real b d p r partial) same = let e = apart a b plain numbers (fixed_group a kind s) (number_group b (real_text b d p r partial)) same in absurd (cc)
one_kind _ _ _ _ (token.name a v free) (token.fixed b too t) same = absurd (free too (t ∙ ap Some (sym same)))
one_kind _ _ _ _ (token.name a v free) (token.name b w too) same = ap (λ t. Some (k.Name t)) same
one_kind _ _ _ _ (token.name a v free) (token.quoted b w) same = let e = apart a (34 ∷ (b ++ (34 ∷ []))) plain quotes (word_group a v) (quoted_group b) same in absurd (cc)
one_kind _ _ _ _ (token.name a v free) (token.whole b n) same = let e = apart a b plain numbers (word_group a v) (number_group b (inl n)) same in absurd (cc)
one_kind _ _ _ _ (token.name a v free) (token.real b d p r partial) same = let e = apart a b plain numbers (word_group a v) (number_group b (real_text b d p r partial)) same in absurd (cc)
one_kind _ _ _ _ (token.quoted a v) (token.fixed b too t) same = let e = apart (34 ∷ (a ++ (34 ∷ []))) b quotes plain (quoted_group a) (fixed_group b too t) same in absurd (cc)
one_kind _ _ _ _ (token.quoted a v) (token.name b w free) same = let e = apart (34 ∷ (a ++ (34 ∷ []))) b quotes plain (quoted_group a) (word_group b w) same in absurd (cc)
one_kind _ _ _ _ (token.quoted a v) (token.quoted b w) same = ap (λ t. Some (k.Quoted t)) (append_cancel_right a b (34 ∷ []) (tail_same same))
  where
    tail_same : {x : ℕ} {s t : List ℕ} → x ∷ s ≡ x ∷ t → s ≡ t
    tail_same same = cc
one_kind _ _ _ _ (token.quoted a v) (token.whole b n) same = let e = apart (34 ∷ (a ++ (34 ∷ []))) b quotes numbers (quoted_group a) (number_group b (inl n)) same in absurd (cc)
one_kind _ _ _ _ (token.quoted a v) (token.real b d p r partial) same = let e = apart (34 ∷ (a ++ (34 ∷ []))) b quotes numbers (quoted_group a) (number_group b (real_text b d p r partial)) same in absurd (cc)
one_kind _ _ _ _ (token.whole a m) (token.fixed b too t) same = let e = apart a b numbers plain (number_group a (inl m)) (fixed_group b too t) same in absurd (cc)
one_kind _ _ _ _ (token.whole a m) (token.name b w free) same = let e = apart a b numbers plain (number_group a (inl m)) (word_group b w) same in absurd (cc)
one_kind _ _ _ _ (token.whole a m) (token.quoted b w) same = let e = apart a (34 ∷ (b ++ (34 ∷ []))) numbers quotes (number_group a (inl m)) (quoted_group b) same in absurd (cc)
one_kind _ _ _ _ (token.whole a m) (token.whole b n) same = ap (λ t. number_kind k.Whole (value_of false (decimal t (pos 0)))) same
one_kind _ _ _ _ (token.whole a m) (token.real b d p r partial) same = absurd (partial (subst (IsNumeral 10) same m))
one_kind _ _ _ _ (token.real a c q s partial) (token.fixed b too t) same = let e = apart a b numbers plain (number_group a (real_text a c q s partial)) (fixed_group b too t) same in absurd (cc)
one_kind _ _ _ _ (token.real a c q s partial) (token.name b w free) same = let e = apart a b numbers plain (number_group a (real_text a c q s partial)) (word_group b w) same in absurd (cc)
one_kind _ _ _ _ (token.real a c q s partial) (token.quoted b w) same = let e = apart a (34 ∷ (b ++ (34 ∷ []))) numbers quotes (number_group a (real_text a c q s partial)) (quoted_group b) same in absurd (cc)
one_kind _ _ _ _ (token.real a c q s partial) (token.whole b n) same = absurd (partial (subst (IsNumeral 10) (sym same) n))
one_kind _ _ _ _ (token.real a c q s partial) (token.real b d p r partial_too) same =
    ap (λ w. number_kind k.Real (value_of false w)) (one_spelling a (decimal c q) (decimal d p) s (subst (λ t. IsSpelled t (decimal d p)) (sym same) r))

-- ---- the kind of a token whose form is known

pub whole_token : (bytes : List ℕ) (r : Result Fraction ReadNum) → IsNumeral 10 bytes → ((sign : Bool) (written : Written) → IsNumber bytes sign written → r ≡ value_of sign written) → IsToken bytes (number_kind k.Whole r)
whole_token bytes r numeral reads =
    let spelled : IsSpelled bytes (decimal bytes (pos 0)) = subst (λ t. IsSpelled t (decimal bytes (pos 0))) (append-nil bytes) (whole bytes [] (pos 0) numeral none) in
    subst (λ q. IsToken bytes (number_kind k.Whole q)) (sym (reads false (decimal bytes (pos 0)) (without_minus bytes (decimal bytes (pos 0)) spelled))) (token.whole bytes numeral)

pub real_token : (bytes : List ℕ) (r : Result Fraction ReadNum) → IsReal bytes → ((sign : Bool) (written : Written) → IsNumber bytes sign written → r ≡ value_of sign written) → IsToken bytes (number_kind k.Real r)
real_token bytes r real reads =
    subst (λ q. IsToken bytes (number_kind k.Real q)) (sym (reads false (decimal real.digits real.power) (without_minus bytes (decimal real.digits real.power) real.spelled)))
    (token.real bytes real.digits real.power real.spelled real.not_whole)

-- what stands between the quotation marks
pub quoted_token : (bytes inner : List ℕ) (n : ℕ) → IsQuoted bytes → inner ≡ take n (drop 1 bytes) → n ≡ length bytes - 2 → IsToken bytes (Some (k.Quoted inner))
quoted_token bytes inner n q is size =
    let whole : length bytes ≡ length q.word + 2 = ap length q.cut ∙ omega (arith, length-append q.word (34 ∷ [])) in
    let after : drop 1 bytes ≡ q.word ++ (34 ∷ []) = ap (drop 1) q.cut in
    let word_size : length q.word ≡ n = omega (arith, whole, size) in
    let same : inner ≡ q.word = is ∙ ap (take n) after ∙ front_is (q.word ++ (34 ∷ [])) q.word (34 ∷ []) n refl word_size in
    subst₂ (λ b w. IsToken b (Some (k.Quoted w))) (sym q.cut) (sym same) (token.quoted q.word q.is_word)
