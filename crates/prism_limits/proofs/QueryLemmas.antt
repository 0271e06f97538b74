-- How many `?` stand after the last `;` of a list.
use Rattle.std.proofs.Common.{◌≡◌, ◌≤◌, ◌+◌, ℕ, cond, Bool, true, false, not, List, [], ◌∷◌, ◌++◌, length, min, ◌⊎◌, inl, inr, ⊎_elim, refl, sym, ap, subst, ◌∙◌, arith}
use Rattle.std.specs.Prelude.{count_by, All}
use Rattle.std.specs.List.{prefix_len, take_while}
use mathlib.Core.List.{reverse}
use Rattle.std.proofs.lemmas.List.{append_assoc, append-nil, reverse-reverse, length-reverse, length-take}
use Rattle.std.proofs.lemmas.List.Elements.{All-nil, All-push, All-head, All-tail}
use Rattle.std.proofs.lemmas.List.Sums.{sum_by-cons, sum_by_push, take_while-cons, count_by-le-length}
use Rattle.std.proofs.lemmas.Bool.{cond-true, cond-false}
use Rattle.prism_syntax.specs.declared.tokens.Kind.{Kind}
use Rattle.prism_syntax.specs.declared.tokens.Kind.TheVariants as k
use Rattle.prism_limits.specs.Nesting.{is_query}
use Rattle.prism_limits.specs.NestingCounts.{is_semicolon, queries_at_end}
use Rattle.prism_limits.proofs.RunLemmas.{reverse_push, reverse_cons}

-- one for a token that passes
abbrev pub one_if : (Kind → Bool) → Kind → ℕ
one_if test token = cond (test token) 1 0

-- one more token is counted where it passes
pub count_push : (test : Kind → Bool) (tokens : List Kind) (token : Kind) → count_by test (tokens ++ (token ∷ [])) ≡ count_by test tokens + one_if test token
count_push test tokens token = sum_by_push (one_if test) tokens token

-- the first token is counted where it passes
count_cons : (test : Kind → Bool) (token : Kind) (tokens : List Kind) → count_by test (token ∷ tokens) ≡ one_if test token + count_by test tokens
count_cons test token tokens = sum_by-cons (one_if test) token tokens

abbrev goes_on : Kind → Bool
goes_on token = not (is_semicolon token)

-- after one more token that is no `;`
pub queries_push : (tokens : List Kind) (token : Kind) → is_semicolon token ≡ false → queries_at_end (tokens ++ (token ∷ [])) ≡ one_if is_query token + queries_at_end tokens
queries_push tokens token goes =
    let passes : goes_on token ≡ true = ap not goes in
    ap (λ (ts : List Kind). count_by is_query (take_while goes_on ts)) (reverse_push tokens token)
    ∙ ap (count_by is_query) (take_while-cons goes_on token (reverse tokens) ∙ cond-true (goes_on token) (token ∷ take_while goes_on (reverse tokens)) [] passes)
    ∙ count_cons is_query token (take_while goes_on (reverse tokens))

-- after a `;`
pub queries_ended : (tokens : List Kind) → queries_at_end (tokens ++ (k.Semicolon ∷ [])) ≡ 0
queries_ended tokens = ap (λ (ts : List Kind). count_by is_query (take_while goes_on ts)) (reverse_push tokens k.Semicolon)

-- a token that is no `;`
no_semicolon : (token : Kind) → (token ≡ k.Semicolon → ⊥) → is_semicolon token ≡ false
no_semicolon k.Semicolon other = absurd (other refl)
no_semicolon _ other = refl

abbrev Lasts : List Kind → Type 0
Lasts since = All (λ token. token ≡ k.Semicolon → ⊥) since

-- the `?` of tokens without `;` at the end count
pub queries_count : (since before : List Kind) → Lasts since → queries_at_end (before ++ since) ≡ queries_at_end before + count_by is_query since
queries_count [] before lasts =
    let same : queries_at_end (before ++ []) ≡ queries_at_end before = ap queries_at_end (append-nil before) in
    omega arith
queries_count (t ∷ ts) before lasts =
    let first = no_semicolon t (All-head (λ token. token ≡ k.Semicolon → ⊥) t ts lasts) in
    let one = queries_push before t first in
    let more = queries_count ts (before ++ (t ∷ [])) (All-tail (λ token. token ≡ k.Semicolon → ⊥) t ts lasts) in
    let count = count_cons is_query t ts in
    let same : queries_at_end (before ++ (t ∷ ts)) ≡ queries_at_end ((before ++ (t ∷ [])) ++ ts) = ap queries_at_end (sym (append_assoc before (t ∷ []) ts)) in
    omega arith

-- the tokens without `;` at the end of a list in which so many `?` are counted
pub record Since (tokens : List Kind) (queries : ℕ) : Type 0 where
  pub before : List Kind
  pub since : List Kind
  pub cut : tokens ≡ before ++ since
  pub lasts : Lasts since
  pub count : count_by is_query since ≡ queries

-- a token that is no `;`, or is it
semicolon_or : (token : Kind) → (is_semicolon token ≡ false) × (token ≡ k.Semicolon → ⊥) ⊎ (is_semicolon token ≡ true)
semicolon_or k.Semicolon = inr refl
semicolon_or _ = inl (refl, λ same. absurd (cc))

-- the tokens without `;` at the end of a list that was turned round
since_reversed : (turned : List Kind) → Since (reverse turned) (count_by is_query (take_while goes_on turned))
since_reversed [] = record { before = []; since = []; cut = refl; lasts = All-nil (λ token. token ≡ k.Semicolon → ⊥); count = refl }
since_reversed (t ∷ ts) =
    let rest = since_reversed ts in
    let kept = take_while-cons goes_on t ts in
    ⊎_elim
    (λ (goes : (is_semicolon t ≡ false) × (t ≡ k.Semicolon → ⊥)).
    let passes : goes_on t ≡ true = ap not goes.0 in
    let whole : take_while goes_on (t ∷ ts) ≡ t ∷ take_while goes_on ts = kept ∙ cond-true (goes_on t) (t ∷ take_while goes_on ts) [] passes in
    let all = ap (count_by is_query) whole in
    let first = count_cons is_query t (take_while goes_on ts) in
    let last = count_push is_query rest.since t in
    let count = rest.count in
    record {
      before = rest.before;
      since = rest.since ++ (t ∷ []);
      cut = reverse_cons t ts ∙ ap (λ (xs : List Kind). xs ++ (t ∷ [])) rest.cut ∙ append_assoc rest.before rest.since (t ∷ []);
      lasts = All-push (λ token. token ≡ k.Semicolon → ⊥) rest.since t rest.lasts goes.1;
      count = omega arith;
    })
    (λ (ends : is_semicolon t ≡ true).
    let fails : goes_on t ≡ false = ap not ends in
    let whole : take_while goes_on (t ∷ ts) ≡ [] = kept ∙ cond-false (goes_on t) (t ∷ take_while goes_on ts) [] fails in
    record { before = reverse (t ∷ ts); since = []; cut = sym (append-nil _); lasts = All-nil (λ token. token ≡ k.Semicolon → ⊥); count = sym (ap (count_by is_query) whole) })
    (semicolon_or t)

-- the tokens without `;` at the end of a list have the `?` that are counted
pub since_of : (tokens : List Kind) → Since tokens (queries_at_end tokens)
since_of tokens = subst (λ (ts : List Kind). Since ts (queries_at_end tokens)) (reverse-reverse tokens) (since_reversed (reverse tokens))

-- no more are counted than there are tokens
pub queries_within : (tokens : List Kind) → queries_at_end tokens ≤ length tokens
queries_within tokens =
    let front = take_while goes_on (reverse tokens) in
    let few : count_by is_query front ≤ length front = count_by-le-length is_query front in
    let short : length front ≡ min (prefix_len goes_on (reverse tokens)) (length (reverse tokens)) = length-take (prefix_len goes_on (reverse tokens)) (reverse tokens) in
    let same : length (reverse tokens) ≡ length tokens = length-reverse tokens in
    omega arith
