-- Tokens at which a text is nested too deep.
use Rattle.std.proofs.Common.{◌≡◌, ◌≤◌, ◌<◌, ◌+◌, ◌-◌, ◌^◌, ℕ, Bool, true, false, List, [], ◌∷◌, ◌++◌, length, replicate, ◌↔◌, refl, sym, subst, ◌∙◌, arith}
use Rattle.std.specs.Prelude.{IsTrue, nat_le, count_by}
use Rattle.std.specs.List.{suffix_len}
use Rattle.std.proofs.lemmas.Bool.{leb-true, le-leb, cond-false}
use Rattle.std.proofs.lemmas.List.Sums.{count_by-le-length}
use Rattle.prism_syntax.specs.declared.tokens.Kind.{Kind}
use Rattle.prism_syntax.specs.declared.tokens.Kind.TheVariants as k
use Rattle.prism_limits.specs.declared.nesting.NestingCounts.{NestingCounts}
use Rattle.prism_limits.specs.declared.kinds.TextKind.{TextKind}
use Rattle.prism_limits.specs.declared.kinds.TextKind.TheVariants.{Model, Property, Nested}
use Rattle.prism_limits.specs.Places.{IsFirst}
use Rattle.prism_limits.specs.Nesting.{IsTooMany, parenthesis, sign, query, bracket, IsTooDeep, is_opening, is_closing, is_opening_bracket, is_closing_bracket, is_query, is_sign, nesting_limit, query_limit, bracket_limit}
use Rattle.prism_limits.specs.NestingCounts.{AreCountsOf, HasRoom, is_bang, is_dash, is_semicolon, queries_at_end, are_brackets_full}
use Rattle.prism_limits.proofs.PlaceLemmas.{Walks, cuts_start, cuts_stands, cuts_same, stands_within, walk_next, walk_found, walk_none}
use Rattle.prism_limits.proofs.RunLemmas.{suffix_push_no, suffix_within, row_counts, row_at_end}
use Rattle.prism_limits.proofs.QueryLemmas.{one_if, count_push, queries_push, queries_count, since_of, queries_within}

-- a token is one too many, by the counts of the tokens before it
abbrev pub Exceeds : TextKind → List Kind → Kind → Type 0
Exceeds text before k.Open = nesting_limit + count_by is_closing before ≤ count_by is_opening before
Exceeds text before k.Bang = nesting_limit ≤ suffix_len is_bang before
Exceeds text before k.Dash = nesting_limit ≤ suffix_len is_dash before
Exceeds text before k.Query = query_limit ≤ queries_at_end before
Exceeds text before k.OpenBracket = (text ≡ Nested) × (bracket_limit + count_by is_closing_bracket before ≤ count_by is_opening_bracket before)
Exceeds text before _ = ⊥

-- a row of signs before a sign
exceeds_row : (text : TextKind) (n : ℕ) (before : List Kind) (token : Kind) → is_sign token ≡ true → n ≡ nesting_limit → Exceeds text (before ++ replicate n token) token
exceeds_row text n before k.Bang is limit = let row = row_counts is_bang n before k.Bang refl in omega arith
exceeds_row text n before k.Dash is limit = let row = row_counts is_dash n before k.Dash refl in omega arith
exceeds_row text n before _ is limit = absurd (cc)

-- what is one too many exceeds a count
pub exceeds : (text : TextKind) (before : List Kind) (token : Kind) → IsTooMany text before token → Exceeds text before token
exceeds text _ _ (parenthesis before more) = more
exceeds text _ _ (sign before token is) = exceeds_row text nesting_limit before token is refl
exceeds text _ _ (bracket before nested more) = (nested, more)
exceeds text _ _ (query before since lasts many) = let count = queries_count since before lasts in omega arith

-- only `!` passes
only_bang : (token : Kind) → is_bang token ≡ true → token ≡ k.Bang
only_bang k.Bang is = refl
only_bang _ is = absurd (cc)

-- only `-` passes
only_dash : (token : Kind) → is_dash token ≡ true → token ≡ k.Dash
only_dash k.Dash is = refl
only_dash _ is = absurd (cc)

-- what exceeds a count is one too many
pub too_many : (text : TextKind) (before : List Kind) (token : Kind) → Exceeds text before token → IsTooMany text before token
too_many text before k.Open more = parenthesis before more
too_many text before k.Bang more =
    let row = row_at_end is_bang k.Bang only_bang nesting_limit before more in
    subst (λ (ts : List Kind). IsTooMany text ts k.Bang) (sym row.1) (sign row.0 k.Bang refl)
too_many text before k.Dash more =
    let row = row_at_end is_dash k.Dash only_dash nesting_limit before more in
    subst (λ (ts : List Kind). IsTooMany text ts k.Dash) (sym row.1) (sign row.0 k.Dash refl)
too_many text before k.Query more =
    let found = since_of before in
    let count : count_by is_query found.since ≡ queries_at_end before = found.count in
    subst (λ (ts : List Kind). IsTooMany text ts k.Query) (sym found.cut) (query found.before found.since found.lasts (omega arith))
too_many text before k.OpenBracket more = bracket before more.0 more.1
too_many text before _ more = absurd more

-- a test of a count decides whether a token is one too many
by_test : (text : TextKind) (b : Bool) (before : List Kind) (token : Kind) → (b ≡ true → Exceeds text before token) → (Exceeds text before token → b ≡ true) → IsTrue b ↔ IsTooMany text before token
by_test text b before token sound whole = (λ is. too_many text before token (sound is), λ many. whole (exceeds text before token many))

-- the test at a `(`
pub at_open : (text : TextKind) (counts : NestingCounts) (more : ℕ) (before : List Kind) → more ≡ counts.opened - counts.closed → AreCountsOf counts before → IsTrue (nat_le 64 more) ↔ IsTooMany text before k.Open
at_open text counts more before same sees =
    let opened = sees.opened in
    let closed = sees.closed in
    by_test text _ before k.Open (λ is. let least = leb-true 64 more is in omega arith) (λ exceeded. le-leb 64 more (omega arith))

-- the test at a `!`
pub at_bang : (text : TextKind) (counts : NestingCounts) (before : List Kind) → AreCountsOf counts before → IsTrue (nat_le 64 counts.bangs) ↔ IsTooMany text before k.Bang
at_bang text counts before sees =
    let bangs = sees.bangs in
    by_test text _ before k.Bang (λ is. let least = leb-true 64 counts.bangs is in omega arith) (λ more. le-leb 64 counts.bangs (omega arith))

-- the test at a `-`
pub at_dash : (text : TextKind) (counts : NestingCounts) (before : List Kind) → AreCountsOf counts before → IsTrue (nat_le 64 counts.dashes) ↔ IsTooMany text before k.Dash
at_dash text counts before sees =
    let dashes = sees.dashes in
    by_test text _ before k.Dash (λ is. let least = leb-true 64 counts.dashes is in omega arith) (λ more. le-leb 64 counts.dashes (omega arith))

-- the test at a `?`
pub at_query : (text : TextKind) (counts : NestingCounts) (before : List Kind) → AreCountsOf counts before → IsTrue (nat_le 1024 counts.queries) ↔ IsTooMany text before k.Query
at_query text counts before sees =
    let queries = sees.queries in
    by_test text _ before k.Query (λ is. let least = leb-true 1024 counts.queries is in omega arith) (λ more. le-leb 1024 counts.queries (omega arith))

-- whether the brackets are full decides that they are as many as may be
full : (text : TextKind) (more : ℕ) → are_brackets_full text more ≡ true → (text ≡ Nested) × (bracket_limit ≤ more)
full Nested more is = (refl, leb-true 17 more is)
full Model more is = absurd (cc)
full Property more is = absurd (cc)

-- where they are as many they are full
full_back : (text : TextKind) (more : ℕ) → text ≡ Nested → bracket_limit ≤ more → are_brackets_full text more ≡ true
full_back Nested more is many = le-leb 17 more many
full_back Model more is many = absurd (cc)
full_back Property more is many = absurd (cc)

-- the test at a `[`
pub at_bracket : (text : TextKind) (counts : NestingCounts) (result : Bool) (before : List Kind)
    → result ≡ are_brackets_full text (counts.opened_brackets - counts.closed_brackets) → AreCountsOf counts before → IsTrue result ↔ IsTooMany text before k.OpenBracket
at_bracket text counts result before same sees =
    let opened = sees.opened_brackets in
    let closed = sees.closed_brackets in
    by_test text result before k.OpenBracket
    (λ is. let both = full text (counts.opened_brackets - counts.closed_brackets) (sym same ∙ is) in let many = both.1 in (both.0, omega arith))
    (λ more. let many = more.1 in same ∙ full_back text (counts.opened_brackets - counts.closed_brackets) more.0 (omega arith))

-- no other token is one too many
none_exceeds : (text : TextKind) (before : List Kind) (token : Kind) → (token ≡ k.Open → ⊥) → (token ≡ k.Bang → ⊥) → (token ≡ k.Dash → ⊥) → (token ≡ k.Query → ⊥) → (token ≡ k.OpenBracket → ⊥)
    → Exceeds text before token → ⊥
none_exceeds text before k.Open not_open not_bang not_dash not_query not_bracket more = not_open refl
none_exceeds text before k.Bang not_open not_bang not_dash not_query not_bracket more = not_bang refl
none_exceeds text before k.Dash not_open not_bang not_dash not_query not_bracket more = not_dash refl
none_exceeds text before k.Query not_open not_bang not_dash not_query not_bracket more = not_query refl
none_exceeds text before k.OpenBracket not_open not_bang not_dash not_query not_bracket more = not_bracket refl
none_exceeds text before _ not_open not_bang not_dash not_query not_bracket more = more

pub at_other : (text : TextKind) (before : List Kind) (token : Kind) → (token ≡ k.Open → ⊥) → (token ≡ k.Bang → ⊥) → (token ≡ k.Dash → ⊥) → (token ≡ k.Query → ⊥) → (token ≡ k.OpenBracket → ⊥)
    → IsTrue false ↔ IsTooMany text before token
at_other text before token not_open not_bang not_dash not_query not_bracket =
    by_test text false before token (λ is. absurd (cc)) (λ more. absurd (none_exceeds text before token not_open not_bang not_dash not_query not_bracket more))

-- a token that none of the counts takes
pub record IsPlain (token : Kind) : Type 0 where
  pub opening : is_opening token ≡ false
  pub closing : is_closing token ≡ false
  pub opening_bracket : is_opening_bracket token ≡ false
  pub closing_bracket : is_closing_bracket token ≡ false
  pub bang : is_bang token ≡ false
  pub dash : is_dash token ≡ false
  pub asked : is_query token ≡ false
  pub semicolon : is_semicolon token ≡ false

-- a token that the code counts nowhere is such
pub plain : (token : Kind) → (token ≡ k.Open → ⊥) → (token ≡ k.Close → ⊥) → (token ≡ k.OpenBracket → ⊥) → (token ≡ k.CloseBracket → ⊥) → (token ≡ k.Bang → ⊥) → (token ≡ k.Dash → ⊥) → (token ≡ k.Query → ⊥) → (token ≡ k.Semicolon → ⊥)
    → IsPlain token
plain k.Open a b c d e f g h = absurd (a refl)
plain k.Close a b c d e f g h = absurd (b refl)
plain k.OpenBracket a b c d e f g h = absurd (c refl)
plain k.CloseBracket a b c d e f g h = absurd (d refl)
plain k.Bang a b c d e f g h = absurd (e refl)
plain k.Dash a b c d e f g h = absurd (f refl)
plain k.Query a b c d e f g h = absurd (g refl)
plain k.Semicolon a b c d e f g h = absurd (h refl)
plain _ a b c d e f g h = record { opening = refl; closing = refl; opening_bracket = refl; closing_bracket = refl; bang = refl; dash = refl; asked = refl; semicolon = refl }

-- a token that does not pass is not counted
kept : (test : Kind → Bool) (tokens : List Kind) (token : Kind) → test token ≡ false → count_by test (tokens ++ (token ∷ [])) ≡ count_by test tokens
kept test tokens token fails =
    let more = count_push test tokens token in
    let none : one_if test token ≡ 0 = cond-false (test token) 1 0 fails in
    omega arith

-- after one more token that none of the counts takes, only the rows have ended
pub sees_plain : (counts : NestingCounts) (before : List Kind) (token : Kind) → IsPlain token → AreCountsOf counts before → AreCountsOf (record { opened = counts.opened; closed = counts.closed; opened_brackets = counts.opened_brackets; closed_brackets = counts.closed_brackets; bangs = 0; dashes = 0; queries = counts.queries }) (before ++ (token ∷ []))
sees_plain counts before token is sees = record {
  opened = sees.opened ∙ sym (kept is_opening before token is.opening);
  closed = sees.closed ∙ sym (kept is_closing before token is.closing);
  opened_brackets = sees.opened_brackets ∙ sym (kept is_opening_bracket before token is.opening_bracket);
  closed_brackets = sees.closed_brackets ∙ sym (kept is_closing_bracket before token is.closing_bracket);
  bangs = sym (suffix_push_no is_bang before token is.bang);
  dashes = sym (suffix_push_no is_dash before token is.dash);
  queries = let none : one_if is_query token ≡ 0 = cond-false (is_query token) 1 0 is.asked in let more = queries_push before token is.semicolon in let were = sees.queries in omega arith;
}

-- a walk that looks for a token that is one too many
abbrev pub Counts : TextKind → NestingCounts → List Kind → List Kind → ℕ → Type 0
Counts text counts tokens rest index = Walks (AreCountsOf counts) (IsTooDeep text tokens) tokens rest index

-- where the walk begins
pub count_start : (text : TextKind) (tokens : List Kind) → Counts text (record { opened = 0; closed = 0; opened_brackets = 0; closed_brackets = 0; bangs = 0; dashes = 0; queries = 0 }) tokens tokens 0
count_start text tokens = record {
  before = [];
  cuts = cuts_start tokens;
  known = record { opened = refl; closed = refl; opened_brackets = refl; closed_brackets = refl; bangs = refl; dashes = refl; queries = refl };
  none = λ other below _. absurd (omega arith);
}

-- a token that is nested too deep at the walk's place is one too many after the tokens that were walked over
here : {text : TextKind} {counts : NestingCounts} {tokens rest : List Kind} {token : Kind} {index : ℕ} (walk : Counts text counts tokens (token ∷ rest) index) → IsTooDeep text tokens index → IsTooMany text walk.before token
here {text = text} {token = token} walk has =
    let same = cuts_same walk.cuts has.stands in
    let many : IsTooMany text has.before token = subst (λ (t : Kind). IsTooMany text has.before t) (sym same.token_same) has.too_many in
    subst (λ (ts : List Kind). IsTooMany text ts token) (sym same.before_same) many

-- the walk goes on past a token that is not one too many
pub count_next : {text : TextKind} {counts next : NestingCounts} {many : Bool} {tokens rest : List Kind} {token : Kind} {index : ℕ} → Counts text counts tokens (token ∷ rest) index
    → ((before : List Kind) → AreCountsOf counts before → IsTrue many ↔ IsTooMany text before token) → many ≡ false → ((before : List Kind) → AreCountsOf counts before → AreCountsOf next (before ++ (token ∷ [])))
    → Counts text next tokens rest (index + 1)
count_next walk exact few after = walk_next walk (λ has. let is = (exact walk.before walk.known).1 (here walk has) in cc) (after walk.before walk.known)

-- the walk has come to a token that is one too many
pub count_found : {text : TextKind} {counts : NestingCounts} {many : Bool} {tokens rest : List Kind} {token : Kind} {index : ℕ} → Counts text counts tokens (token ∷ rest) index
    → ((before : List Kind) → AreCountsOf counts before → IsTrue many ↔ IsTooMany text before token) → many ≡ true → IsFirst (IsTooDeep text tokens) index
count_found {rest = rest} {token = token} walk exact is =
    walk_found walk (record { before = walk.before; token = token; after = rest; stands = cuts_stands walk.cuts; too_many = (exact walk.before walk.known).0 is })

-- the walk has come to the end
pub count_none : {text : TextKind} {counts : NestingCounts} {tokens : List Kind} {index : ℕ} → Counts text counts tokens [] index → (other : ℕ) → IsTooDeep text tokens other → ⊥
count_none walk = walk_none walk (λ other has. stands_within has.stands)

-- the counts are not above the index of the place
pub has_room : {text : TextKind} {counts : NestingCounts} {tokens rest : List Kind} {index : ℕ} → Counts text counts tokens rest index → index + 1 < 2 ^ 64 → HasRoom counts
has_room {counts = counts} {index = index} walk room =
    let sees = walk.known in
    let place : length walk.before ≡ index = walk.cuts.count in
    let opened = count_by-le-length is_opening walk.before in
    let closed = count_by-le-length is_closing walk.before in
    let opened_brackets = count_by-le-length is_opening_bracket walk.before in
    let closed_brackets = count_by-le-length is_closing_bracket walk.before in
    let bangs = suffix_within is_bang walk.before in
    let dashes = suffix_within is_dash walk.before in
    let queries = queries_within walk.before in
    let see_opened = sees.opened in
    let see_closed = sees.closed in
    let see_opened_brackets = sees.opened_brackets in
    let see_closed_brackets = sees.closed_brackets in
    let see_bangs = sees.bangs in
    let see_dashes = sees.dashes in
    let see_queries = sees.queries in
    record { opened = omega arith; closed = omega arith; opened_brackets = omega arith; closed_brackets = omega arith; bangs = omega arith; dashes = omega arith; queries = omega arith }
