-- Where a token ends: what follows it can't be part of it.
use Rattle.std.proofs.Common.{◌≡◌, ℕ, ◌+◌, ◌≤◌, Bool, true, false, ◌&&◌, ◌||◌, not, ◌==◌, List, [], ◌∷◌, ◌++◌, length, bytes_eq, codes, Option, Some, ◌⊎◌, inl, inr, ⊎_elim, refl, sym, ◌∙◌, ap, subst, arith, eqb-true, length-append, append-nil}
use Rattle.std.specs.List.{list_all}
use Rattle.std.specs.Char.{is_ascii_digit}
use Rattle.std.specs.Str.Parse.{IsNumeral, AllDigits}
use Rattle.std.proofs.lemmas.Bool.{and_from, and_parts, or_cases}
use Rattle.std.proofs.lemmas.Bool.Decides.{nat_tests}
use Rattle.std.proofs.lemmas.Slice.Eq.{bytes_eq-Decides}
use Rattle.smc_num.specs.Spelling.{Written, decimal, IsMark, IsExponent, none, bare, plus, minus, IsSpelled, whole, point, bar}
use Rattle.prism_syntax.specs.declared.tokens.Kind.{Kind}
use Rattle.prism_syntax.specs.Spelling.{spelling_of, is_symbol, begins_word}
use Rattle.prism_syntax.specs.SpellingTables.{one_byte_symbols, two_byte_symbols, three_byte_symbols}
use Rattle.prism_syntax.specs.Tokens.{is_word, IsWord, goes_on_word, IsToken, BeginsNoComment}
use Rattle.prism_syntax.specs.Tokens as token
use Rattle.prism_syntax.proofs.TableLemmas.{all_symbols, each_symbol}
use Rattle.prism_lexer.proofs.FormLemmas.{digit, other, head_of, begins_digit, word, quoted, number, symbol, form_of, word_head, quoted_head, number_head, symbol_head, token_some}
use Rattle.prism_lexer.proofs.NumberLemmas.{IsNumberText, digits_tested}

-- ---- bytes that stand in a token at its front alone

-- a line feed, a blank, or one of `'(),/;]`: where it stands in a token, it is the token's first byte
abbrev pub is_edge : ℕ → Bool
is_edge c = c == 10 || (c == 32 || (c == 39 || (c == 40 || (c == 41 || (c == 44 || (c == 47 || (c == 59 || c == 93)))))))

-- a byte that may follow another one in a token: no edge, and a point only before a digit
abbrev pub goes_inside : ℕ → List ℕ → Bool
goes_inside c cs = not (is_edge c) && (not (c == 46) || begins_digit cs)

-- each byte may follow another one
inside : List ℕ → Bool
inside [] = true
inside (c ∷ cs) = goes_inside c cs && inside cs

-- a text without its first byte
abbrev pub after_first : List ℕ → List ℕ
after_first [] = []
after_first (c ∷ cs) = cs

word_byte : (c : ℕ) (cs : List ℕ) → goes_on_word c ≡ true → goes_inside c cs ≡ true
word_byte c cs goes =
    let no_edge : is_edge c ≡ false = grind (arith, nat_tests) in
    let no_point : (c == 46) ≡ false = grind (arith, nat_tests) in
    and_from _ _ (ap not no_edge) (ap (λ b. not b || begins_digit cs) no_point)

digit_byte : (c : ℕ) → is_ascii_digit c ≡ true → goes_on_word c ≡ true
digit_byte c is = grind (arith, nat_tests)

-- bytes of words, and then others
words_inside : (cs rest : List ℕ) → list_all goes_on_word cs ≡ true → inside rest ≡ true → inside (cs ++ rest) ≡ true
unfolding inside
words_inside [] rest all more = more
words_inside (c ∷ cs) rest all more =
    let parts = and_parts (goes_on_word c) (list_all goes_on_word cs) all in
    and_from _ _ (word_byte c (cs ++ rest) parts.0) (words_inside cs rest parts.1 more)

digits_go_on : (cs : List ℕ) → list_all is_ascii_digit cs ≡ true → list_all goes_on_word cs ≡ true
digits_go_on [] all = refl
digits_go_on (c ∷ cs) all =
    let parts = and_parts (is_ascii_digit c) (list_all is_ascii_digit cs) all in
    and_from _ _ (digit_byte c parts.0) (digits_go_on cs parts.1)

digits_inside : (cs rest : List ℕ) → AllDigits 10 cs → inside rest ≡ true → inside (cs ++ rest) ≡ true
digits_inside cs rest all more = words_inside cs rest (digits_go_on cs (digits_tested cs all)) more

no_byte : inside [] ≡ true
unfolding inside
no_byte = refl

one_byte : (c : ℕ) → goes_inside c [] ≡ true → inside (c ∷ []) ≡ true
unfolding inside
one_byte c goes = and_from _ _ goes refl

-- ---- each token but `..` has such bytes after its first

word_inside : (bytes : List ℕ) → IsWord bytes → (rest : List ℕ) → inside rest ≡ true → inside (bytes ++ rest) ≡ true
word_inside [] is rest more = more
word_inside (c ∷ cs) is rest more =
    let parts = and_parts (begins_word c) (list_all goes_on_word cs) is in
    words_inside (c ∷ cs) rest (and_from _ _ (begins_goes c parts.0) parts.1) more
  where
    begins_goes : (c : ℕ) → begins_word c ≡ true → goes_on_word c ≡ true
    begins_goes c is = grind (arith, nat_tests)

-- where all bytes may follow another one, those after the first may
without_first : (cs : List ℕ) → inside cs ≡ true → inside (after_first cs) ≡ true
unfolding inside
without_first [] all = refl
without_first (c ∷ cs) all = (and_parts (goes_inside c cs) (inside cs) all).1

-- a byte, and then others
first_and : (c : ℕ) (cs : List ℕ) → goes_inside c cs ≡ true → inside cs ≡ true → inside (c ∷ cs) ≡ true
unfolding inside
first_and c cs goes more = and_from _ _ goes more

mark_inside : (m : ℕ) (cs : List ℕ) → IsMark m → goes_inside m cs ≡ true
mark_inside m cs (inl is) = subst (λ c. goes_inside c cs ≡ true) (sym is) refl
mark_inside m cs (inr is) = subst (λ c. goes_inside c cs ≡ true) (sym is) refl

numeral_inside : (cs : List ℕ) → AllDigits 10 cs → inside cs ≡ true
unfolding inside
numeral_inside [] all = refl
numeral_inside (c ∷ cs) all =
    first_and c cs (word_byte c cs (digit_byte c (and_parts _ _ (digits_tested (c ∷ cs) all)).0)) (numeral_inside cs all.1)

exponent_inside : (text : List ℕ) (power : _) → IsExponent text power → inside text ≡ true
exponent_inside _ _ none = no_byte
exponent_inside _ _ (bare mark digits is numeral) = first_and mark digits (mark_inside mark digits is) (numeral_inside digits numeral.1)
exponent_inside _ _ (plus mark digits is numeral) =
    first_and mark (43 ∷ digits) (mark_inside mark (43 ∷ digits) is) (first_and 43 digits refl (numeral_inside digits numeral.1))
exponent_inside _ _ (minus mark digits is numeral) =
    first_and mark (45 ∷ digits) (mark_inside mark (45 ∷ digits) is) (first_and 45 digits refl (numeral_inside digits numeral.1))

point_byte : (part rest : List ℕ) → IsNumeral 10 part → goes_inside 46 (part ++ rest) ≡ true
point_byte [] rest numeral = absurd (omega (arith, numeral.0))
point_byte (c ∷ cs) rest numeral = (and_parts _ _ (digits_tested (c ∷ cs) numeral.1)).0

spelled_inside : (bytes : List ℕ) (written : Written) → IsSpelled bytes written → (digits : List ℕ) (power : _) → written ≡ decimal digits power → inside bytes ≡ true
spelled_inside _ _ (whole digits exponent power numeral is) ds p same =
    digits_inside digits exponent numeral.1 (exponent_inside exponent power is)
spelled_inside _ _ (point front part exponent power all numeral is) ds p same =
    digits_inside front (46 ∷ (part ++ exponent)) all
    (first_and 46 (part ++ exponent) (point_byte part exponent numeral)
    (digits_inside part exponent numeral.1 (exponent_inside exponent power is)))
spelled_inside _ _ (bar top bottom first second some) ds p same = absurd (cc)

number_inside : (bytes : List ℕ) → IsNumberText bytes → inside bytes ≡ true
number_inside bytes (inl numeral) = numeral_inside bytes numeral.1
number_inside bytes (inr real) = spelled_inside bytes (decimal real.digits real.power) real.spelled real.digits real.power refl

-- a symbol is `..`, or has such bytes after its first
symbol_test : List ℕ → Bool
symbol_test bytes = bytes_eq bytes (codes "..") || inside (after_first bytes)

symbols_pass_test : all_symbols (λ row. symbol_test row.0) ≡ true
unfolding symbol_test inside one_byte_symbols two_byte_symbols three_byte_symbols
symbols_pass_test = refl

symbol_inside : (bytes : List ℕ) → symbol_test bytes ≡ true → (bytes ≡ codes "..") ⊎ (inside (after_first bytes) ≡ true)
unfolding symbol_test
symbol_inside bytes passes =
    ⊎_elim
    (λ (is : bytes_eq bytes (codes "..") ≡ true). inl ((bytes_eq-Decides bytes (codes "..")).0 is))
    (λ (is : inside (after_first bytes) ≡ true). inr is)
    (or_cases _ _ passes)

token_inside : (bytes : List ℕ) (kind : Option Kind) → IsToken bytes kind → (bytes ≡ codes "..") ⊎ (inside (after_first bytes) ≡ true)
token_inside bytes kind is = elim (form_of bytes kind is) [
  | word w ↦ inr (without_first bytes (plain bytes w))
  | quoted q ↦ inr (subst (λ b. inside (after_first b) ≡ true) (sym q.cut) (word_inside q.word q.is_word (34 ∷ []) (one_byte 34 refl)))
  | number n ↦ inr (without_first bytes (number_inside bytes n))
  | symbol k is_true spelled ↦ symbol_inside bytes (each_symbol symbol_test symbols_pass_test k bytes is_true spelled)
]
  where
    plain : (bytes : List ℕ) → IsWord bytes → inside bytes ≡ true
    plain [] w = absurd (cc)
    plain (c ∷ cs) w = subst (λ b. inside b ≡ true) (append-nil (c ∷ cs)) (word_inside (c ∷ cs) w [] no_byte)

-- a point alone is no symbol
no_point_alone : List ℕ → Bool
no_point_alone bytes = not (bytes_eq bytes (codes "."))

symbols_no_point : all_symbols (λ row. no_point_alone row.0) ≡ true
unfolding no_point_alone one_byte_symbols two_byte_symbols three_byte_symbols
symbols_no_point = refl

point_no_symbol : no_point_alone (46 ∷ []) ≡ true → ⊥
unfolding no_point_alone
point_no_symbol e = cc

-- and no token
point_is_none : (kind : Option Kind) → IsToken (46 ∷ []) kind → ⊥
point_is_none kind is = elim (form_of (46 ∷ []) kind is) [
  | word w ↦ let e : false ≡ true = w in cc
  | quoted q ↦ let e = q.cut in cc
  | number n ↦ let e = number_head (46 ∷ []) [] n in cc
  | symbol k is_true spelled ↦ point_no_symbol (each_symbol no_point_alone symbols_no_point k (46 ∷ []) is_true spelled)
]

-- ---- two beginnings of one text

-- another beginning of a text goes no further than the first, or goes on after it
data Overlap (bytes rest front after : List ℕ) : Type 0 where
  within : length rest ≤ length after → Overlap bytes rest front after
  beyond : (c : ℕ) (more : List ℕ) → front ≡ bytes ++ (c ∷ more) → rest ≡ c ∷ (more ++ after) → Overlap bytes rest front after

first_same : (x y : ℕ) (s t : List ℕ) → x ∷ s ≡ y ∷ t → x ≡ y
first_same x y s t same = cc

others_same : (x y : ℕ) (s t : List ℕ) → x ∷ s ≡ y ∷ t → s ≡ t
others_same x y s t same = cc

overlap : (bytes rest front after : List ℕ) → bytes ++ rest ≡ front ++ after → Overlap bytes rest front after
overlap [] rest [] after same = within (omega (arith, ap length same))
overlap [] rest (c ∷ cs) after same = beyond c cs refl same
overlap (b ∷ bs) rest [] after same = within (omega (arith, ap length same, length-append bs rest))
overlap (b ∷ bs) rest (c ∷ cs) after same = elim (overlap bs rest cs after (others_same b c (bs ++ rest) (cs ++ after) same)) [
  | within no_more ↦ within no_more
  | beyond d more is follows ↦ beyond d more (λ i. sym (first_same b c (bs ++ rest) (cs ++ after) same) i ∷ is i) follows
]

-- a byte after others may follow another one, where each may
inside_at : (bs : List ℕ) (c : ℕ) (more : List ℕ) → inside (bs ++ (c ∷ more)) ≡ true → goes_inside c more ≡ true
unfolding inside
inside_at [] c more all = (and_parts (goes_inside c more) (inside more) all).0
inside_at (b ∷ bs) c more all = inside_at bs c more (and_parts (goes_inside b (bs ++ (c ∷ more))) (inside (bs ++ (c ∷ more))) all).1

-- ---- what ends each token

-- a text begins with a point
abbrev pub begins_point : List ℕ → Bool
begins_point [] = false
begins_point (c ∷ cs) = c == 46

-- what ends each token: the end of the text, an edge but no `/`, or two points
abbrev pub is_stop : List ℕ → Bool
is_stop [] = true
is_stop (c ∷ cs) = (is_edge c && not (c == 47)) || (c == 46 && begins_point cs)

-- a token stands at the front of a text and ends there: no longer one does, and no comment
pub record Ends (bytes rest : List ℕ) : Type 0 where
  pub no_comment : BeginsNoComment (bytes ++ rest)
  pub longest : (front after : List ℕ) (also : Option Kind) → bytes ++ rest ≡ front ++ after → IsToken front also
      → length rest ≤ length after

-- what stops a token doesn't go on with it
stop_outside : (c : ℕ) (more after : List ℕ) → is_stop (c ∷ (more ++ after)) ≡ true → goes_inside c more ≡ true → ⊥
stop_outside c more after stops goes =
    let parts = and_parts (not (is_edge c)) (not (c == 46) || begins_digit more) goes in
    ⊎_elim
    (λ (edge : (is_edge c && not (c == 47)) ≡ true).
    let clash = sym (ap not (and_parts (is_edge c) (not (c == 47)) edge).0) ∙ parts.0 in absurd (cc))
    (λ (points : (c == 46 && begins_point (more ++ after)) ≡ true).
    let two = and_parts (c == 46) (begins_point (more ++ after)) points in
    two_points more two.1 (subst (λ b. (not b || begins_digit more) ≡ true) two.0 parts.1))
    (or_cases _ _ stops)
  where
    two_points : (more : List ℕ) → begins_point (more ++ after) ≡ true → begins_digit more ≡ true → ⊥
    two_points [] pointed is_digit = let clash : false ≡ true = is_digit in cc
    two_points (d ∷ ds) pointed is_digit =
        let is : d ≡ 46 = eqb-true d 46 pointed in
        let clash : false ≡ true = subst (λ b. is_ascii_digit b ≡ true) is is_digit in
        cc

-- what begins `..` and is shorter is a point
point_alone : (bs : List ℕ) (b c : ℕ) (more : List ℕ) → (b ∷ (bs ++ (c ∷ more))) ≡ 46 ∷ (46 ∷ []) → b ∷ bs ≡ 46 ∷ []
point_alone [] b c more same = let first : b ≡ 46 = cc in ap (λ x. x ∷ []) first
point_alone (d ∷ ds) b c more same = let long = ap length same in absurd (omega (arith, long, length-append ds (c ∷ more)))

-- a token that is longer than another one with which it begins has a byte inside that may follow another one
goes_on : (bytes front more : List ℕ) (c : ℕ) (kind also : Option Kind) → IsToken bytes kind → IsToken front also
    → front ≡ bytes ++ (c ∷ more) → goes_inside c more ≡ true
goes_on [] front more c kind also is longer same = absurd (token_some [] kind is refl)
goes_on (b ∷ bs) front more c kind also is longer same =
    ⊎_elim
    (λ (points : front ≡ codes "..").
    absurd (point_is_none kind (subst (λ t. IsToken t kind) (point_alone bs b c more (sym same ∙ points)) is)))
    (λ (all : inside (after_first front) ≡ true). inside_at bs c more (subst (λ f. inside (after_first f) ≡ true) same all))
    (token_inside front also longer)

-- a token begins no comment, where no `/` follows it
no_comment_at : (bytes rest : List ℕ) (kind : Option Kind) → IsToken bytes kind → ((r : List ℕ) → rest ≡ 47 ∷ r → ⊥) → BeginsNoComment (bytes ++ rest)
no_comment_at [] rest kind is no_slash r same = token_some [] kind is refl
no_comment_at (b ∷ []) rest kind is no_slash r same = no_slash r (others_same b 47 rest (47 ∷ r) same)
no_comment_at (b ∷ (c ∷ cs)) rest kind is no_slash r same =
    let slash : c ≡ 47 = first_same c 47 (cs ++ rest) r (others_same b 47 (c ∷ (cs ++ rest)) (47 ∷ r) same) in
    ⊎_elim
    (λ (points : b ∷ (c ∷ cs) ≡ codes ".."). let e : c ≡ 46 = cc in let f : 47 ≡ 46 = sym slash ∙ e in absurd (omega (arith, f)))
    (λ (all : inside (c ∷ cs) ≡ true).
    let goes = (and_parts (not (is_edge c)) _ (inside_at [] c cs all)).0 in
    let e : false ≡ true = subst (λ x. not (is_edge x) ≡ true) slash goes in
    absurd (cc))
    (token_inside (b ∷ (c ∷ cs)) kind is)

-- each token ends before what stops it
pub stop_ends : (bytes rest : List ℕ) (kind : Option Kind) → IsToken bytes kind → is_stop rest ≡ true → Ends bytes rest
stop_ends bytes rest kind is stops = record {
  no_comment = no_comment_at bytes rest kind is (λ r same. let e : false ≡ true = subst (λ t. is_stop t ≡ true) same stops in cc);
  longest = λ front after also same longer. elim (overlap bytes rest front after same) [
    | within no_more ↦ no_more
    | beyond c more longer_is follows ↦ absurd (stop_outside c more after (subst (λ t. is_stop t ≡ true) follows stops) (goes_on bytes front more c kind also is longer longer_is))
  ];
}

-- ---- what ends a symbol

-- a byte with which a symbol may go on
abbrev pub goes_on_symbol : ℕ → Bool
goes_on_symbol c = c == 61 || c == 62

-- what ends each symbol: it begins with no `=`, `>` or `/`
abbrev pub is_soft : List ℕ → Bool
is_soft [] = true
is_soft (c ∷ cs) = not (goes_on_symbol c) && not (c == 47)

-- the bytes of a symbol after its first are `=` and `>`, but for `..`
symbol_goes : List ℕ → Bool
symbol_goes bytes = bytes_eq bytes (codes "..") || list_all goes_on_symbol (after_first bytes)

symbols_go : all_symbols (λ row. symbol_goes row.0) ≡ true
unfolding symbol_goes one_byte_symbols two_byte_symbols three_byte_symbols
symbols_go = refl

-- so does the byte at which a longer symbol goes on
symbol_at : (bs : List ℕ) (c : ℕ) (more : List ℕ) → list_all goes_on_symbol (bs ++ (c ∷ more)) ≡ true → goes_on_symbol c ≡ true
symbol_at [] c more all = (and_parts (goes_on_symbol c) (list_all goes_on_symbol more) all).0
symbol_at (b ∷ bs) c more all = symbol_at bs c more (and_parts (goes_on_symbol b) (list_all goes_on_symbol (bs ++ (c ∷ more))) all).1

longer_symbol : (bytes front more : List ℕ) (c : ℕ) (kind : Option Kind) → IsToken bytes kind → symbol_goes front ≡ true
    → front ≡ bytes ++ (c ∷ more) → goes_on_symbol c ≡ true
unfolding symbol_goes
longer_symbol [] front more c kind is goes same = absurd (token_some [] kind is refl)
longer_symbol (b ∷ bs) front more c kind is goes same =
    ⊎_elim
    (λ (points : bytes_eq front (codes "..") ≡ true).
    absurd (point_is_none kind (subst (λ t. IsToken t kind) (point_alone bs b c more (sym same ∙ (bytes_eq-Decides front (codes "..")).0 points)) is)))
    (λ (all : list_all goes_on_symbol (after_first front) ≡ true).
    symbol_at bs c more (subst (λ f. list_all goes_on_symbol (after_first f) ≡ true) same all))
    (or_cases _ _ goes)

-- where a text begins with a symbol, symbols alone begin it
symbols_alone : (text front after : List ℕ) (kind : Option Kind) → head_of text ≡ other → text ≡ front ++ after → IsToken front kind
    → (k : Kind) × (is_symbol k ≡ true) × (spelling_of k ≡ Some front)
symbols_alone text front after kind begins same is = elim (form_of front kind is) [
  | word w ↦ let e = sym begins ∙ ap head_of same ∙ word_head front after w in absurd (cc)
  | quoted q ↦ let e = sym begins ∙ ap head_of same ∙ quoted_head front after q in absurd (cc)
  | number n ↦ let e = sym begins ∙ ap head_of same ∙ number_head front after n in absurd (cc)
  | symbol k is_true spelled ↦ (k, is_true, spelled)
]

-- each symbol ends before what it can't go on with
pub soft_ends : (bytes rest : List ℕ) (kind : Kind) → is_symbol kind ≡ true → spelling_of kind ≡ Some bytes → is_soft rest ≡ true → Ends bytes rest
soft_ends bytes rest kind is_true spelled soft = record {
  no_comment = no_comment_at bytes rest (Some kind) is (λ r same. let e : false ≡ true = subst (λ t. is_soft t ≡ true) same soft in cc);
  longest = λ front after also same longer. elim (overlap bytes rest front after same) [
    | within no_more ↦ no_more
    | beyond c more longer_is follows ↦
        let s = symbols_alone (bytes ++ rest) front after also (symbol_head kind bytes rest is_true spelled) same longer in
        let goes = longer_symbol bytes front more c (Some kind) is (each_symbol symbol_goes symbols_go s.0 front s.1 s.2) longer_is in
        let apart = (and_parts (not (goes_on_symbol c)) (not (c == 47)) (subst (λ t. is_soft t ≡ true) follows soft)).0 in
        let e = sym (ap not goes) ∙ apart in
        absurd (cc)
  ];
}
  where
    is : IsToken bytes (Some kind)
    is = token.fixed bytes kind spelled

-- no symbol goes on after `'`
prime_alone : List ℕ → Bool
prime_alone [] = true
prime_alone (c ∷ []) = true
prime_alone (c ∷ (d ∷ ds)) = not (c == 39)

primes_alone : all_symbols (λ row. prime_alone row.0) ≡ true
unfolding prime_alone one_byte_symbols two_byte_symbols three_byte_symbols
primes_alone = refl

-- a prime ends before `=`
pub prime_ends : (rest : List ℕ) → Ends (39 ∷ []) (61 ∷ rest)
unfolding prime_alone spelling_of
prime_ends rest = record {
  no_comment = λ r same. no_slash (first_same 39 47 (61 ∷ rest) (47 ∷ r) same);
  longest = λ front after also same longer.
      let s = symbols_alone (39 ∷ (61 ∷ rest)) front after also refl same longer in
      short front after same (each_symbol prime_alone primes_alone s.0 front s.1 s.2) (token_some front also longer);
}
  where
    no_slash : ◌≡◌ {A = ℕ} 39 47 → ⊥
    no_slash same = absurd (omega (arith, same))

    short : (front after : List ℕ) → 39 ∷ (61 ∷ rest) ≡ front ++ after → prime_alone front ≡ true → (front ≡ [] → ⊥) → length (61 ∷ rest) ≤ length after
    short [] after same alone some = absurd (some refl)
    short (c ∷ []) after same alone some = omega (arith, ap length same)
    short (c ∷ (d ∷ ds)) after same alone some =
        let first : 39 ≡ c = first_same 39 c (61 ∷ rest) (d ∷ (ds ++ after)) same in
        let e : false ≡ true = subst (λ x. not (x == 39) ≡ true) (sym first) alone in
        absurd (cc)

-- ---- what begins softly

-- a text that begins as a word, a number or what is quoted
head_soft : (text : List ℕ) → (head_of text ≡ other → ⊥) → is_soft text ≡ true
head_soft [] is = refl
head_soft (c ∷ cs) is =
    and_from _ _ (ap not (neither (c == 61) (c == 62) (not_true (c == 61) (not_byte 61 refl)) (not_true (c == 62) (not_byte 62 refl))))
    (ap not (not_true (c == 47) (not_byte 47 refl)))
  where
    not_byte : (d : ℕ) → head_of (d ∷ cs) ≡ other → (c == d) ≡ true → ⊥
    not_byte d begins same = is (subst (λ b. head_of (b ∷ cs) ≡ other) (sym (eqb-true c d same)) begins)

    not_true : (b : Bool) → (b ≡ true → ⊥) → b ≡ false
    not_true true never = absurd (never refl)
    not_true false never = refl

    neither : (a b : Bool) → a ≡ false → b ≡ false → (a || b) ≡ false
    neither true b no_a no_b = no_a
    neither false b no_a no_b = no_b

-- a word, a number or what is quoted ends each symbol
pub token_soft : (bytes rest : List ℕ) (kind : Option Kind) → IsToken bytes kind → ((k : Kind) → is_symbol k ≡ true → spelling_of k ≡ Some bytes → ⊥) → is_soft (bytes ++ rest) ≡ true
token_soft bytes rest kind is no_symbol = elim (form_of bytes kind is) [
  | word w ↦ head_soft (bytes ++ rest) (λ e. let f = sym (word_head bytes rest w) ∙ e in cc)
  | quoted q ↦ head_soft (bytes ++ rest) (λ e. let f = sym (quoted_head bytes rest q) ∙ e in cc)
  | number n ↦ head_soft (bytes ++ rest) (λ e. let f = sym (number_head bytes rest n) ∙ e in cc)
  | symbol k is_true spelled ↦ absurd (no_symbol k is_true spelled)
]
