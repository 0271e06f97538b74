-- What is found at the front of a text is its longest token.
use Rattle.std.proofs.Common.{◌≡◌, ℕ, suc, ◌+◌, ◌≤◌, ◌<◌, true, false, ◌&&◌, ◌==◌, nat_lt, cond, List, [], ◌∷◌, ◌++◌, length, get_or, take, drop, Option, Some, None, ⊎_elim, refl, sym, ◌∙◌, ap, subst, subst₂, arith, lt-ltb, eq-eqb, one-add, length-append, take-append-drop, append_assoc}
use lib.Seq.{drop-append_seam, length-take-le}
use Rattle.std.specs.Prelude.{IfSome, IfNone}
use Rattle.std.specs.List.{prefix_len, list_all}
use Rattle.std.specs.Char.{is_ascii_digit}
use Rattle.std.proofs.lemmas.Bool.{cases_Bool, cond-true, cond-false, and_from, and_parts, ltb-true, eqb-true}
use Rattle.std.proofs.lemmas.Bool.Decides.{nat_tests}
use Rattle.std.proofs.lemmas.List.Sums.{prefix_len-le-length}
use Rattle.prism_syntax.specs.declared.tokens.Kind.{Kind}
use Rattle.prism_syntax.specs.Spelling.{spelling_of, is_symbol, begins_word}
use Rattle.prism_syntax.specs.Tokens.{is_word, IsWord, goes_on_word, IsToken, IsLongestSymbol, BeginsNoSymbol}
use Rattle.prism_syntax.specs.Tokens as token
use Rattle.prism_lexer.specs.declared.lexeme.Lexeme.{Lexeme}
use Rattle.prism_lexer.specs.declared.lexeme.Lexeme.TheVariants as lexeme
use Rattle.prism_lexer.specs.Scan.{digits_len, fraction_len, exponent_len, number_of, number_at, word_len, begins_quote, quoted_at, varied_at}
use Rattle.prism_lexer.specs.Outcome.{BeginsNoToken}
use Rattle.prism_lexer.specs.Lexemes.{IsQuoted, HasLexeme, IsLongestLexeme, IsSymbolLexeme}
use Rattle.prism_lexer.proofs.RunLemmas.{Stops, run_passes, run_whole, run_most, front_is}
use Rattle.prism_lexer.proofs.NumberLemmas.{tail_len, after_digits, number_len, number_whole, number_real, number_within, IsNumberText, number_most}
use Rattle.prism_lexer.proofs.FormLemmas.{digit_head, Head, letter, quote, digit, other, head_of, word, quoted, number, symbol, form_of, word_head, quoted_head, number_head, symbol_head, token_some}

-- ---- words

begins_goes_on : (c : ℕ) → begins_word c ≡ true → goes_on_word c ≡ true
begins_goes_on c h = grind (arith, nat_tests)

-- each byte of a word goes on a word
word_goes_on : (bytes : List ℕ) → IsWord bytes → list_all goes_on_word bytes ≡ true
word_goes_on [] is = refl
word_goes_on (c ∷ cs) is = let parts = and_parts (begins_word c) (list_all goes_on_word cs) is in and_from _ _ (begins_goes_on c parts.0) parts.1

-- a word with something else after it is as long as the one that is found
word_whole : (bytes rest : List ℕ) → IsWord bytes → Stops goes_on_word rest → word_len (bytes ++ rest) ≡ length bytes
unfolding word_len
word_whole [] rest is stops = absurd (cc)
word_whole (c ∷ cs) rest is stops = cond-true (begins_word c) _ 0 (and_parts (begins_word c) (list_all goes_on_word cs) is).0 ∙ run_whole goes_on_word (c ∷ cs) rest (word_goes_on (c ∷ cs) is) stops

-- where a text begins as a word does, the word is as long as the run
pub word_run : (text : List ℕ) → 1 ≤ length text → begins_word (get_or text 0 0) ≡ true → prefix_len goes_on_word text ≡ word_len text
unfolding word_len
word_run [] some is = absurd (omega (arith, some))
word_run (c ∷ cs) some is = sym (cond-true _ _ _ is)

word_most : (bytes rest : List ℕ) → IsWord bytes → length bytes ≤ word_len (bytes ++ rest)
unfolding word_len
word_most [] rest is = absurd (cc)
word_most (c ∷ cs) rest is =
    let found : word_len (c ∷ (cs ++ rest)) ≡ prefix_len goes_on_word (c ∷ (cs ++ rest)) = cond-true (begins_word c) _ 0 (and_parts (begins_word c) (list_all goes_on_word cs) is).0 in
    omega (arith, found, run_most goes_on_word (c ∷ cs) rest (word_goes_on (c ∷ cs) is))

-- the word that is found is one
word_found : (text : List ℕ) → 0 < word_len text → IsWord (take (word_len text) text) × (word_len text ≤ length text) × (head_of text ≡ letter)
unfolding word_len
word_found [] some = absurd (omega (arith, some))
word_found (c ∷ cs) some =
    ⊎_elim
    (λ (is_true : begins_word c ≡ true).
    let goes : goes_on_word c ≡ true = begins_goes_on c is_true in
    let run : word_len (c ∷ cs) ≡ suc (prefix_len goes_on_word cs) = cond-true _ _ _ is_true ∙ cond-true _ _ _ goes ∙ one-add _ in (
      subst (λ n. IsWord (take n (c ∷ cs))) (sym run) (and_from _ _ is_true (run_passes goes_on_word cs)),
      omega (arith, run, prefix_len-le-length goes_on_word cs),
      cond-true _ _ _ is_true,
    ))
    (λ (is_false : begins_word c ≡ false). let none_len : word_len (c ∷ cs) ≡ 0 = cond-false _ _ _ is_false in absurd (omega (arith, none_len, some)))
    (cases_Bool (begins_word c))

-- no word is empty
word_some : (bytes : List ℕ) → IsWord bytes → 0 < length bytes
word_some [] is = absurd (cc)
word_some (c ∷ cs) is = omega arith

-- ---- what begins a text

-- the head of a text is that of what it begins with
head_cut : (text front after : List ℕ) (h : Head) → text ≡ front ++ after → head_of (front ++ after) ≡ h → head_of text ≡ h
head_cut text front after h cut is = ap head_of cut ∙ is

-- a token at the front of a text whose head is known
Longest : List ℕ → ℕ → Type 0
Longest text n = (front after : List ℕ) (kind : Option Kind) → text ≡ front ++ after → IsToken front kind → length front ≤ n

letter_longest : (text : List ℕ) (n : ℕ) → head_of text ≡ letter → ((front after : List ℕ) → text ≡ front ++ after → IsWord front → length front ≤ n) → Longest text n
unfolding Longest
letter_longest text n begins words_most front after kind cut is = elim (form_of front kind is) [
  | word w ↦ words_most front after cut w
  | quoted q ↦ let e = sym begins ∙ head_cut text front after quote cut (quoted_head front after q) in absurd (cc)
  | number m ↦ let e = sym begins ∙ head_cut text front after digit cut (number_head front after m) in absurd (cc)
  | symbol s is_true spelled ↦ let e = sym begins ∙ head_cut text front after other cut (symbol_head s front after is_true spelled) in absurd (cc)
]

quote_longest : (text : List ℕ) (n : ℕ) → head_of text ≡ quote → ((front after : List ℕ) → text ≡ front ++ after → IsQuoted front → length front ≤ n) → Longest text n
unfolding Longest
quote_longest text n begins quoted_most front after kind cut is = elim (form_of front kind is) [
  | word w ↦ let e = sym begins ∙ head_cut text front after letter cut (word_head front after w) in absurd (cc)
  | quoted q ↦ quoted_most front after cut q
  | number m ↦ let e = sym begins ∙ head_cut text front after digit cut (number_head front after m) in absurd (cc)
  | symbol s is_true spelled ↦ let e = sym begins ∙ head_cut text front after other cut (symbol_head s front after is_true spelled) in absurd (cc)
]

digit_longest : (text : List ℕ) (n : ℕ) → head_of text ≡ digit → ((front after : List ℕ) → text ≡ front ++ after → IsNumberText front → length front ≤ n) → Longest text n
unfolding Longest
digit_longest text n begins numbers_most front after kind cut is = elim (form_of front kind is) [
  | word w ↦ let e = sym begins ∙ head_cut text front after letter cut (word_head front after w) in absurd (cc)
  | quoted q ↦ let e = sym begins ∙ head_cut text front after quote cut (quoted_head front after q) in absurd (cc)
  | number m ↦ numbers_most front after cut m
  | symbol s is_true spelled ↦ let e = sym begins ∙ head_cut text front after other cut (symbol_head s front after is_true spelled) in absurd (cc)
]

-- a word begins a text
word_front : (text : List ℕ) → 0 < word_len text → IsLongestLexeme text lexeme.Word (word_len text)
unfolding Longest
word_front text some =
    let found = word_found text some in
    record {
      some = some;
      within = found.1;
      form_is = found.0;
      longest = letter_longest text (word_len text) found.2
          (λ front after cut w. subst (λ t. length front ≤ word_len t) (sym cut) (word_most front after w));
    }

-- ---- quoted names

record Closed (text : List ℕ) : Type 0 where
  rest : List ℕ
  is : text ≡ 34 ∷ rest

closed : (text : List ℕ) → begins_quote text ≡ true → Closed text
closed [] is_true = absurd (cc)
closed (c ∷ cs) is_true = record { rest = cs; is = ap (λ b. b ∷ cs) (eqb-true c 34 is_true) }

-- a quoted name at the front of a text gives the word after its first quotation mark
record Inside (text front after : List ℕ) : Type 0 where
  word : List ℕ
  is_word : IsWord word
  size : length front ≡ length word + 2
  cut : text ≡ word ++ (34 ∷ after)

cons_same : (x y : ℕ) (s t : List ℕ) → x ∷ s ≡ y ∷ t → s ≡ t
cons_same x y s t same = cc

inside : (text front after : List ℕ) → 34 ∷ text ≡ front ++ after → IsQuoted front → Inside text front after
inside text front after cut q =
    let whole : 34 ∷ text ≡ 34 ∷ ((q.word ++ (34 ∷ [])) ++ after) = cut ∙ ap (λ f. f ++ after) q.cut in
    record {
      word = q.word;
      is_word = q.is_word;
      size = ap length q.cut ∙ omega (arith, length-append q.word (34 ∷ []));
      cut = cons_same 34 34 text ((q.word ++ (34 ∷ [])) ++ after) whole ∙ append_assoc q.word (34 ∷ []) after;
    }

inside_size : (text front after : List ℕ) → 34 ∷ text ≡ front ++ after → IsQuoted front → length front ≡ word_len text + 2
inside_size text front after cut q =
    let i = inside text front after cut q in
    let same : word_len text ≡ length i.word = ap word_len i.cut ∙ word_whole i.word (34 ∷ after) i.is_word refl in
    omega (arith, same, i.size)

quoted_front : (text : List ℕ) → (nat_lt 0 (word_len text) && begins_quote (drop (word_len text) text)) ≡ true → IsLongestLexeme (34 ∷ text) lexeme.Quoted (word_len text + 2)
unfolding Longest
quoted_front text is_true =
    let parts = and_parts _ _ is_true in
    let n : ℕ = word_len text in
    let found = word_found text (ltb-true _ _ parts.0) in
    let close = closed (drop n text) parts.1 in
    let name : List ℕ = take n text in
    let size : length name ≡ n = length-take-le n text found.1 in
    let split : text ≡ name ++ (34 ∷ close.rest) = sym (take-append-drop n text) ∙ ap (λ t. name ++ t) close.is in
    let cut : 34 ∷ text ≡ (34 ∷ (name ++ (34 ∷ []))) ++ close.rest = ap (λ t. 34 ∷ t) (split ∙ sym (append_assoc name (34 ∷ []) close.rest)) in
    let long : length (34 ∷ (name ++ (34 ∷ []))) ≡ n + 2 = omega (arith, size, length-append name (34 ∷ [])) in
    record {
      some = omega arith;
      within = omega (arith, ap length cut, long, length-append (34 ∷ (name ++ (34 ∷ []))) close.rest);
      form_is = record { word = name; is_word = found.0; cut = front_is (34 ∷ text) (34 ∷ (name ++ (34 ∷ []))) close.rest (n + 2) cut long };
      longest = quote_longest (34 ∷ text) (n + 2) refl (λ front after at q. omega (arith, inside_size text front after at q));
    }

quoted_missing : (text : List ℕ) → (nat_lt 0 (word_len text) && begins_quote (drop (word_len text) text)) ≡ false → (front after : List ℕ) → 34 ∷ text ≡ front ++ after → IsQuoted front → ⊥
quoted_missing text is_false front after cut q =
    let i = inside text front after cut q in
    let same : word_len text ≡ length i.word = ap word_len i.cut ∙ word_whole i.word (34 ∷ after) i.is_word refl in
    let behind : drop (word_len text) text ≡ 34 ∷ after = (λ j. drop (same j) (i.cut j)) ∙ drop-append_seam i.word (34 ∷ after) in
    let some : 0 < word_len text = omega (arith, same, word_some i.word i.is_word) in
    let is_true : (nat_lt 0 (word_len text) && begins_quote (drop (word_len text) text)) ≡ true = and_from _ _ (lt-ltb _ _ some) (ap begins_quote behind) in
    let clash : true ≡ false = sym is_true ∙ is_false in
    cc

-- ---- numbers

number_begins : (text : List ℕ) → 0 < digits_len text + fraction_len (after_digits text) → head_of text ≡ digit
unfolding after_digits fraction_len
number_begins [] some = absurd (omega (arith, some))
number_begins (c ∷ cs) some =
    ⊎_elim
    (λ (is_true : is_ascii_digit c ≡ true). digit_head c cs is_true)
    (λ (is_false : is_ascii_digit c ≡ false).
    let no_digits : digits_len (c ∷ cs) ≡ 0 = cond-false _ _ _ is_false in
    let there : fraction_len (after_digits (c ∷ cs)) ≡ fraction_len (c ∷ cs) = ap (λ n. fraction_len (drop n (c ∷ cs))) no_digits in
    ⊎_elim
    (λ (is_true : (c == 46 && nat_lt 0 (digits_len cs)) ≡ true).
    let parts = and_parts _ _ is_true in
    subst (λ b. head_of (b ∷ cs) ≡ digit) (sym (eqb-true c 46 parts.0)) (pointed cs (ltb-true _ _ parts.1)))
    (λ (not_one : (c == 46 && nat_lt 0 (digits_len cs)) ≡ false).
    let nothing : fraction_len (c ∷ cs) ≡ 0 = cond-false _ _ _ not_one in
    absurd (omega (arith, no_digits, there, nothing, some)))
    (cases_Bool (c == 46 && nat_lt 0 (digits_len cs))))
    (cases_Bool (is_ascii_digit c))
  where
    pointed : (ds : List ℕ) → 0 < digits_len ds → head_of (46 ∷ ds) ≡ digit
    pointed [] none = absurd (omega (arith, none))
    pointed (d ∷ ds) first =
        ⊎_elim
        (λ (is_true : is_ascii_digit d ≡ true). cond-true _ _ _ is_true)
        (λ (is_false : is_ascii_digit d ≡ false). let zero_len : digits_len (d ∷ ds) ≡ 0 = cond-false _ _ _ is_false in absurd (omega (arith, zero_len, first)))
        (cases_Bool (is_ascii_digit d))

-- a number that is found has digits, and its form and size are these
record Numbered (d f e : ℕ) (form : Lexeme) (n : ℕ) : Type 0 where
  some : 0 < d + f
  size : d + f + e ≡ n
  is_form : cond (f + e == 0) lexeme.Whole lexeme.Real ≡ form

sum_some : (a b : ℕ) → (a + b == 0) ≡ false → 0 < a + b
sum_some a b is_false = grind (arith, nat_tests)

same_pair : (l m : Lexeme) (k n : ℕ) → ◌≡◌ {A = Option (Lexeme × ℕ)} (Some (l, k)) (Some (m, n)) → (l ≡ m) × (k ≡ n)
same_pair l m k n same =
    let both : ◌≡◌ {A = Lexeme × ℕ} (l, k) (m, n) = cc in
    (ap (λ (p : Lexeme × ℕ). p.0) both, ap (λ (p : Lexeme × ℕ). p.1) both)

numbered : (d f e : ℕ) (form : Lexeme) (n : ℕ) → number_of d f e ≡ Some (form, n) → Numbered d f e form n
numbered d f e form n found =
    ⊎_elim
    (λ (is_true : (d + f == 0) ≡ true). let clash : ◌≡◌ {A = Option (Lexeme × ℕ)} None (Some (form, n)) = sym (cond-true _ _ _ is_true) ∙ found in absurd (cc))
    (λ (is_false : (d + f == 0) ≡ false).
    let both = same_pair (cond (f + e == 0) lexeme.Whole lexeme.Real) form (d + f + e) n (sym (cond-false _ _ _ is_false) ∙ found) in
    record { some = sum_some d f is_false; size = both.1; is_form = both.0 })
    (cases_Bool (d + f == 0))

not_numbered : (d f e : ℕ) → number_of d f e ≡ None → d + f ≡ 0
not_numbered d f e none =
    ⊎_elim
    (λ (is_true : (d + f == 0) ≡ true). eqb-true (d + f) 0 is_true)
    (λ (is_false : (d + f == 0) ≡ false).
    let clash : ◌≡◌ {A = Option (Lexeme × ℕ)} (Some (cond (f + e == 0) lexeme.Whole lexeme.Real, d + f + e)) None = sym (cond-false _ _ _ is_false) ∙ none in absurd (cc))
    (cases_Bool (d + f == 0))

-- a number begins a text
number_form : (text : List ℕ) (form : Lexeme) → 0 < digits_len text + fraction_len (after_digits text)
    → cond (tail_len (after_digits text) == 0) lexeme.Whole lexeme.Real ≡ form → HasLexeme form (take (number_len text) text)
unfolding tail_len
number_form text form some is_form =
    ⊎_elim
    (λ (is_true : (tail_len (after_digits text) == 0) ≡ true).
    let nothing = eqb-true (tail_len (after_digits text)) 0 is_true in
    subst (λ m. HasLexeme m (take (number_len text) text)) (sym (cond-true _ _ _ is_true) ∙ is_form) (number_whole text (omega (arith, nothing, some)) nothing))
    (λ (is_false : (tail_len (after_digits text) == 0) ≡ false).
    subst (λ m. HasLexeme m (take (number_len text) text)) (sym (cond-false _ _ _ is_false) ∙ is_form) (number_real text some (λ nothing. let clash : true ≡ false = sym (eq-eqb _ 0 nothing) ∙ is_false in cc)))
    (cases_Bool (tail_len (after_digits text) == 0))

number_front : (text : List ℕ) (form : Lexeme) (n : ℕ) → number_at text ≡ Some (form, n) → IsLongestLexeme text form n
unfolding number_at number_len tail_len after_digits Longest
number_front text form n found =
    let after : List ℕ = drop (digits_len text) text in
    let parts = numbered (digits_len text) (fraction_len after) (exponent_len (drop (fraction_len after) after)) form n found in
    let size : number_len text ≡ n = omega (arith, parts.size) in
    record {
      some = omega (arith, parts.some, parts.size);
      within = omega (arith, size, number_within text);
      form_is = subst (λ k. HasLexeme form (take k text)) size (number_form text form parts.some parts.is_form);
      longest = digit_longest text n (number_begins text parts.some)
          (λ front rest cut m.
          let most : length front ≤ number_len text = subst (λ t. length front ≤ number_len t) (sym cut) (number_most front rest m).size in
          omega (arith, most, size));
    }

number_missing : (text : List ℕ) → number_at text ≡ None → (front after : List ℕ) → text ≡ front ++ after → IsNumberText front → ⊥
unfolding number_at after_digits
number_missing text none front rest cut m =
    let after : List ℕ = drop (digits_len text) text in
    let nothing = not_numbered (digits_len text) (fraction_len after) (exponent_len (drop (fraction_len after) after)) none in
    let most = number_most front rest m in
    let begins : 0 < digits_len text + fraction_len after = subst (λ t. 0 < digits_len t + fraction_len (drop (digits_len t) t)) (sym cut) most.begins in
    absurd (omega (arith, begins, nothing))

-- ---- the quoted name, word or number that begins a text

-- the tokens that begin a text are symbols alone
pub record SymbolsAlone (text : List ℕ) : Type 0 where
  pub no_word : (front after : List ℕ) → text ≡ front ++ after → IsWord front → ⊥
  pub no_quoted : (front after : List ℕ) → text ≡ front ++ after → IsQuoted front → ⊥
  pub no_number : (front after : List ℕ) → text ≡ front ++ after → IsNumberText front → ⊥

head_no_word : (text front after : List ℕ) (h : Head) → head_of text ≡ h → (letter ≡ h → ⊥) → text ≡ front ++ after → IsWord front → ⊥
head_no_word text front after h is apart cut w = apart (sym (head_cut text front after letter cut (word_head front after w)) ∙ is)

head_no_quoted : (text front after : List ℕ) (h : Head) → head_of text ≡ h → (quote ≡ h → ⊥) → text ≡ front ++ after → IsQuoted front → ⊥
head_no_quoted text front after h is apart cut q = apart (sym (head_cut text front after quote cut (quoted_head front after q)) ∙ is)

head_no_number : (text front after : List ℕ) (h : Head) → head_of text ≡ h → (digit ≡ h → ⊥) → text ≡ front ++ after → IsNumberText front → ⊥
head_no_number text front after h is apart cut m = apart (sym (head_cut text front after digit cut (number_head front after m)) ∙ is)

-- what is found after the first quotation mark
quoted_is : (cs : List ℕ) (form : Lexeme) (n : ℕ) → quoted_at cs ≡ Some (form, n) → IsLongestLexeme (34 ∷ cs) form n
unfolding quoted_at
quoted_is cs form n found =
    ⊎_elim
    (λ (is_true : (nat_lt 0 (word_len cs) && begins_quote (drop (word_len cs) cs)) ≡ true).
    let both = same_pair lexeme.Quoted form (word_len cs + 2) n (sym (cond-true _ _ _ is_true) ∙ found) in
    subst₂ (λ l k. IsLongestLexeme (34 ∷ cs) l k) both.0 both.1 (quoted_front cs is_true))
    (λ (is_false : (nat_lt 0 (word_len cs) && begins_quote (drop (word_len cs) cs)) ≡ false).
    let clash : ◌≡◌ {A = Option (Lexeme × ℕ)} None (Some (form, n)) = sym (cond-false _ _ _ is_false) ∙ found in absurd (cc))
    (cases_Bool (nat_lt 0 (word_len cs) && begins_quote (drop (word_len cs) cs)))

-- what is found
pub varied_front : (text : List ℕ) (form : Lexeme) (n : ℕ) → varied_at text ≡ Some (form, n) → IsLongestLexeme text form n
unfolding varied_at quoted_at
varied_front [] form n found = absurd (cc)
varied_front (c ∷ cs) form n found =
    ⊎_elim
    (λ (is_true : (c == 34) ≡ true).
    let inner : quoted_at cs ≡ Some (form, n) = sym (cond-true _ _ _ is_true) ∙ found in
    subst (λ b. IsLongestLexeme (b ∷ cs) form n) (sym (eqb-true c 34 is_true)) (quoted_is cs form n inner))
    (λ (is_false : (c == 34) ≡ false).
    ⊎_elim
    (λ (is_true : nat_lt 0 (word_len (c ∷ cs)) ≡ true).
    let both = same_pair lexeme.Word form (word_len (c ∷ cs)) n (sym (cond-false _ _ _ is_false ∙ cond-true _ _ _ is_true) ∙ found) in
    subst₂ (λ l k. IsLongestLexeme (c ∷ cs) l k) both.0 both.1 (word_front (c ∷ cs) (ltb-true _ _ is_true)))
    (λ (none : nat_lt 0 (word_len (c ∷ cs)) ≡ false). number_front (c ∷ cs) form n (sym (cond-false _ _ _ is_false ∙ cond-false _ _ _ none) ∙ found))
    (cases_Bool (nat_lt 0 (word_len (c ∷ cs)))))
    (cases_Bool (c == 34))

-- no quoted name is found after the first quotation mark
not_quoted : (cs : List ℕ) → quoted_at cs ≡ None → (nat_lt 0 (word_len cs) && begins_quote (drop (word_len cs) cs)) ≡ false
unfolding quoted_at
not_quoted cs none =
    ⊎_elim
    (λ (is_true : (nat_lt 0 (word_len cs) && begins_quote (drop (word_len cs) cs)) ≡ true).
    let clash : ◌≡◌ {A = Option (Lexeme × ℕ)} (Some (lexeme.Quoted, word_len cs + 2)) None = sym (cond-true _ _ _ is_true) ∙ none in absurd (cc))
    (λ (is_false : (nat_lt 0 (word_len cs) && begins_quote (drop (word_len cs) cs)) ≡ false). is_false)
    (cases_Bool (nat_lt 0 (word_len cs) && begins_quote (drop (word_len cs) cs)))

-- where nothing is found
pub varied_none : (text : List ℕ) → varied_at text ≡ None → SymbolsAlone text
unfolding varied_at quoted_at
varied_none [] none = record {
  no_word = λ front after cut w. head_no_word [] front after other refl (λ e. cc) cut w;
  no_quoted = λ front after cut q. head_no_quoted [] front after other refl (λ e. cc) cut q;
  no_number = λ front after cut m. head_no_number [] front after other refl (λ e. cc) cut m;
}
varied_none (c ∷ cs) none =
    ⊎_elim
    (λ (is_true : (c == 34) ≡ true).
    let is : c ≡ 34 = eqb-true c 34 is_true in
    let begins : head_of (c ∷ cs) ≡ quote = subst (λ b. head_of (b ∷ cs) ≡ quote) (sym is) refl in
    let inner : quoted_at cs ≡ None = sym (cond-true _ _ _ is_true) ∙ none in
    record {
      no_word = λ front after cut w. head_no_word (c ∷ cs) front after quote begins (λ e. cc) cut w;
      no_quoted = λ front after cut q. quoted_missing cs (not_quoted cs inner) front after (ap (λ b. b ∷ cs) (sym is) ∙ cut) q;
      no_number = λ front after cut m. head_no_number (c ∷ cs) front after quote begins (λ e. cc) cut m;
    })
    (λ (is_false : (c == 34) ≡ false).
    ⊎_elim
    (λ (is_true : nat_lt 0 (word_len (c ∷ cs)) ≡ true).
    let clash : ◌≡◌ {A = Option (Lexeme × ℕ)} (Some (lexeme.Word, word_len (c ∷ cs))) None = sym (cond-false _ _ _ is_false ∙ cond-true _ _ _ is_true) ∙ none in absurd (cc))
    (λ (none_word : nat_lt 0 (word_len (c ∷ cs)) ≡ false).
    let nothing : number_at (c ∷ cs) ≡ None = sym (cond-false _ _ _ is_false ∙ cond-false _ _ _ none_word) ∙ none in
    record {
      no_word = λ front after cut w. no_word_here (c ∷ cs) none_word front after cut w;
      no_quoted = λ front after cut q. let first : c ≡ 34 = first_same c 34 cs ((q.word ++ (34 ∷ [])) ++ after) (cut ∙ ap (λ f. f ++ after) q.cut) in let clash : true ≡ false = sym (eq-eqb c 34 first) ∙ is_false in cc;
      no_number = λ front after cut m. number_missing (c ∷ cs) nothing front after cut m;
    })
    (cases_Bool (nat_lt 0 (word_len (c ∷ cs)))))
    (cases_Bool (c == 34))
  where
    first_same : (x y : ℕ) (s t : List ℕ) → x ∷ s ≡ y ∷ t → x ≡ y
    first_same x y s t same = cc

    no_word_here : (text : List ℕ) → nat_lt 0 (word_len text) ≡ false → (front after : List ℕ) → text ≡ front ++ after → IsWord front → ⊥
    no_word_here text none front after cut w =
        let most : length front ≤ word_len text = subst (λ t. length front ≤ word_len t) (sym cut) (word_most front after w) in
        let is_true : nat_lt 0 (word_len text) ≡ true = lt-ltb _ _ (omega (arith, most, word_some front w)) in
        let clash : true ≡ false = sym is_true ∙ none in
        cc

-- ---- symbols

-- the longest symbol is the longest token where symbols alone begin a text
pub symbol_lexeme_is : (text : List ℕ) (form : Lexeme) (n : ℕ) → SymbolsAlone text → IsSymbolLexeme text form n → IsLongestLexeme text form n
symbol_lexeme_is text form n alone found =
    let s = found.symbol in
    let size : length s.bytes ≡ n = sym found.size in
    let whole = ap length s.cut ∙ length-append s.bytes s.after in
    record {
      some = omega (arith, found.size, symbol_some found.kind s.bytes s.symbol s.spelling);
      within = omega (arith, found.size, whole);
      form_is = subst₂ (λ l t. HasLexeme l t) (sym found.is_form) (sym (front_is text s.bytes s.after n s.cut size)) s.spelling;
      longest = λ front after kind cut is. elim (form_of front kind is) [
        | word w ↦ absurd (alone.no_word front after cut w)
        | quoted q ↦ absurd (alone.no_quoted front after cut q)
        | number m ↦ absurd (alone.no_number front after cut m)
        | symbol k is_true spelled ↦ omega (arith, found.size, s.longest k front after is_true spelled cut)
      ];
    }
  where
    symbol_some : (kind : Kind) (bytes : List ℕ) → is_symbol kind ≡ true → spelling_of kind ≡ Some bytes → 0 < length bytes
    symbol_some kind [] is_true spelled = absurd (token_some [] (Some kind) (token.fixed [] kind spelled) refl)
    symbol_some kind (c ∷ cs) is_true spelled = omega arith

-- where neither symbols nor others begin a text, no token does
pub no_token : (text : List ℕ) → SymbolsAlone text → BeginsNoSymbol text → BeginsNoToken text
no_token text alone none front after kind cut is = elim (form_of front kind is) [
  | word w ↦ alone.no_word front after cut w
  | quoted q ↦ alone.no_quoted front after cut q
  | number m ↦ alone.no_number front after cut m
  | symbol k is_true spelled ↦ none k front after is_true spelled cut
]

-- what is found where symbols alone begin a text
pub symbol_found_front : (text : List ℕ) (found : Option (Lexeme × ℕ)) → SymbolsAlone text → IfSome found (λ front. IsSymbolLexeme text front.0 front.1) → IfSome found (λ front. IsLongestLexeme text front.0 front.1)
symbol_found_front text None alone is = tt
symbol_found_front text (Some front) alone is = symbol_lexeme_is text front.0 front.1 alone is

pub symbol_none_front : (text : List ℕ) (found : Option (Lexeme × ℕ)) → SymbolsAlone text → IfNone found (BeginsNoSymbol text) → IfNone found (BeginsNoToken text)
symbol_none_front text None alone none = no_token text alone none
symbol_none_front text (Some front) alone none = tt

-- a longest symbol is as long as its spelling
pub symbol_spelled : (text : List ℕ) (kind : Kind) (bytes : List ℕ) → IsLongestSymbol text kind → Some bytes ≡ spelling_of kind → IsSymbolLexeme text (lexeme.Symbol kind) (length bytes)
symbol_spelled text kind bytes found spelled =
    let same : Some bytes ≡ Some found.bytes = spelled ∙ found.spelling in
    let bytes_same : bytes ≡ found.bytes = cc in
    record { kind = kind; is_form = refl; symbol = found; size = ap length bytes_same }
