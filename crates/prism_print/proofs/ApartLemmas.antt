-- Pieces that don't run together are cut into their tokens.
use Rattle.std.proofs.Common.{◌≡◌, ℕ, ◌+◌, Bool, true, false, ◌&&◌, not, ◌==◌, ⊎_elim, List, [], ◌∷◌, ◌++◌, length, Option, Some, None, refl, sym, ◌∙◌, ap, subst, append_assoc, append-nil}
use Rattle.std.specs.Prelude.{All}
use Rattle.std.proofs.lemmas.Bool.{and_parts, or_left, or_cases}
use Rattle.std.proofs.lemmas.Option.{none-some}
use Rattle.std.proofs.lemmas.List.Elements.{All-head, All-tail}
use Rattle.prism_syntax.specs.declared.tokens.Kind.{Kind}
use Rattle.prism_syntax.specs.declared.tokens.Kind.TheVariants as k
use Rattle.prism_syntax.specs.declared.tokens.Token.{Token}
use Rattle.prism_syntax.specs.Spelling.{spelling_of, is_symbol, symbolic}
use Rattle.prism_syntax.specs.Tokens.{Reads, kinds}
use Rattle.prism_syntax.specs.Tokens as read
use Rattle.prism_syntax.specs.WellFormed.{IsFormedKind}
use Rattle.prism_lexer.proofs.KindLemmas.{one_kind}
use Rattle.prism_print.specs.Pieces.{Piece, token, blank, line_end, spelled, text_of, tokens_of}
use Rattle.prism_print.proofs.EndLemmas.{is_edge, is_stop, is_soft, Ends, stop_ends, soft_ends, prime_ends, token_soft}
use Rattle.prism_print.proofs.PieceLemmas.{some_same, spelled_fixed, formed_token}

-- what is spelled so ends each token
abbrev pub ends_each : Option (List ℕ) → Bool
ends_each (Some (c ∷ cs)) = is_stop (c ∷ cs)
ends_each _ = false

-- what is spelled so, or is a name, a number or quoted, ends each symbol
abbrev pub ends_symbols : Option (List ℕ) → Bool
ends_symbols (Some (c ∷ cs)) = is_soft (c ∷ cs)
ends_symbols (Some []) = false
ends_symbols None = true

-- the pieces begin with one that ends each token
abbrev pub stops : List Piece → Bool
stops [] = true
stops (token kind ∷ ps) = ends_each (spelling_of kind)
stops (blank ∷ ps) = true
stops (line_end ∷ ps) = true

-- the pieces begin with one that ends each symbol
abbrev pub softens : List Piece → Bool
softens [] = true
softens (token kind ∷ ps) = ends_symbols (spelling_of kind)
softens (blank ∷ ps) = true
softens (line_end ∷ ps) = true

-- a token does not run together with the pieces after it
pub data Fits : Kind → List Piece → Type 0 where
  stopped : {kind : Kind} {ps : List Piece} → stops ps ≡ true → Fits kind ps
  soft : {kind : Kind} {ps : List Piece} → is_symbol kind ≡ true → softens ps ≡ true → Fits kind ps
  prime : {ps : List Piece} → Fits k.Prime (token k.Equal ∷ ps)

-- no token among the pieces runs together with what follows it, there and in the rest
abbrev pub Apart : List Piece → List Piece → Type 0
Apart [] rest = Unit {0}
Apart (token kind ∷ ps) rest = Fits kind (ps ++ rest) × Apart ps rest
Apart (blank ∷ ps) rest = Apart ps rest
Apart (line_end ∷ ps) rest = Apart ps rest

-- pieces before others
pub apart_append : (a b rest : List Piece) → Apart a (b ++ rest) → Apart b rest → Apart (a ++ b) rest
apart_append [] b rest first more = more
apart_append (token kind ∷ ps) b rest first more =
    (subst (Fits kind) (sym (append_assoc ps b rest)) first.0, apart_append ps b rest first.1 more)
apart_append (blank ∷ ps) b rest first more = apart_append ps b rest first more
apart_append (line_end ∷ ps) b rest first more = apart_append ps b rest first more

-- ---- the text of such pieces

-- the tokens among the pieces are well formed
abbrev pub AreFormed : List Piece → Type 0
AreFormed ps = All IsFormedKind (tokens_of ps)

-- a text that begins with bytes that end each token does so, whatever follows
stop_more : (kind : Kind) (o : Option (List ℕ)) (rest : List ℕ) → spelling_of kind ≡ o → ends_each o ≡ true → is_stop (spelled kind ++ rest) ≡ true
stop_more kind None rest is ends = absurd (cc)
stop_more kind (Some []) rest is ends = absurd (cc)
stop_more kind (Some (c ∷ [])) rest is ends = subst (λ b. is_stop (b ++ rest) ≡ true) (sym (spelled_fixed kind (c ∷ []) is)) (one c rest ends)
  where
    one : (c : ℕ) (rest : List ℕ) → is_stop (c ∷ []) ≡ true → is_stop (c ∷ rest) ≡ true
    one c rest ends =
        ⊎_elim
        (λ (edge : (is_edge c && not (c == 47)) ≡ true). or_left _ _ edge)
        (λ (points : (c == 46 && false) ≡ true). let e : false ≡ true = (and_parts (c == 46) false points).1 in absurd (cc))
        (or_cases _ _ ends)
stop_more kind (Some (c ∷ (d ∷ ds))) rest is ends = subst (λ b. is_stop (b ++ rest) ≡ true) (sym (spelled_fixed kind (c ∷ (d ∷ ds)) is)) ends

soft_more : (kind : Kind) (o : Option (List ℕ)) (rest : List ℕ) → IsFormedKind kind → spelling_of kind ≡ o → ends_symbols o ≡ true → is_soft (spelled kind ++ rest) ≡ true
soft_more kind None rest formed is ends =
    token_soft (spelled kind) rest (Some kind) (formed_token kind formed)
    (λ also symbol spelling.
    let same : Some also ≡ Some kind = one_kind (spelled kind) (spelled kind) (Some also) (Some kind) (read.fixed (spelled kind) also spelling) (formed_token kind formed) refl in
    none-some (spelled kind) (sym is ∙ ap spelling_of (sym (some_same same)) ∙ spelling))
soft_more kind (Some []) rest formed is ends = absurd (cc)
soft_more kind (Some (c ∷ cs)) rest formed is ends = subst (λ b. is_soft (b ++ rest) ≡ true) (sym (spelled_fixed kind (c ∷ cs) is)) ends

text_stops : (ps : List Piece) → stops ps ≡ true → is_stop (text_of ps) ≡ true
text_stops [] is = refl
text_stops (token kind ∷ ps) is = stop_more kind (spelling_of kind) (text_of ps) refl is
text_stops (blank ∷ ps) is = refl
text_stops (line_end ∷ ps) is = refl

text_soft : (ps : List Piece) → AreFormed ps → softens ps ≡ true → is_soft (text_of ps) ≡ true
text_soft [] formed is = refl
text_soft (token kind ∷ ps) formed is = soft_more kind (spelling_of kind) (text_of ps) (All-head IsFormedKind kind (tokens_of ps) formed) refl is
text_soft (blank ∷ ps) formed is = refl
text_soft (line_end ∷ ps) formed is = refl

symbol_spelled : (kind : Kind) (o : Option (List ℕ)) → spelling_of kind ≡ o → is_symbol kind ≡ true → spelling_of kind ≡ Some (spelled kind)
symbol_spelled kind None is symbol = let e : false ≡ true = sym (ap symbolic is) ∙ symbol in absurd (cc)
symbol_spelled kind (Some bytes) is symbol = is ∙ ap Some (sym (spelled_fixed kind bytes is))

-- a token ends where it does not run together with the pieces after it
fits_ends : (kind : Kind) (ps : List Piece) → Fits kind ps → IsFormedKind kind → AreFormed ps → Ends (spelled kind) (text_of ps)
unfolding spelling_of
fits_ends _ _ (stopped {kind} {ps} stop) formed others =
    stop_ends (spelled kind) (text_of ps) (Some kind) (formed_token kind formed) (text_stops ps stop)
fits_ends _ _ (soft {kind} {ps} symbol is) formed others =
    soft_ends (spelled kind) (text_of ps) kind symbol (symbol_spelled kind (spelling_of kind) refl symbol) (text_soft ps others is)
fits_ends _ _ (prime {ps}) formed others = prime_ends (text_of ps)

-- the pieces are cut into their tokens
pub record CutAt (ps : List Piece) (at : ℕ) : Type 0 where
  pub tokens : List Token
  pub end : ℕ
  pub reads : Reads at (text_of ps) tokens end []
  pub same : kinds tokens ≡ tokens_of ps

pub apart_cut : (ps : List Piece) → Apart ps [] → AreFormed ps → (at : ℕ) → CutAt ps at
apart_cut [] is formed at = record { tokens = []; end = at; reads = read.done at []; same = refl }
apart_cut (blank ∷ ps) is formed at =
    let more = apart_cut ps is formed (at + 1) in
    record { tokens = more.tokens; end = more.end; reads = read.blank at 32 (text_of ps) more.tokens more.end [] refl more.reads; same = more.same }
apart_cut (line_end ∷ ps) is formed at =
    let more = apart_cut ps is formed (at + 1) in
    record { tokens = more.tokens; end = more.end; reads = read.blank at 10 (text_of ps) more.tokens more.end [] refl more.reads; same = more.same }
apart_cut (token kind ∷ ps) is formed at =
    let first : IsFormedKind kind = All-head IsFormedKind kind (tokens_of ps) formed in
    let others : AreFormed ps = All-tail IsFormedKind kind (tokens_of ps) formed in
    let more = apart_cut ps is.1 others (at + length (spelled kind)) in
    let ends = fits_ends kind ps (subst (Fits kind) (append-nil ps) is.0) first others in
    record {
      tokens = record { kind = kind; from = at; to = at + length (spelled kind) } ∷ more.tokens;
      end = more.end;
      reads = read.token at (spelled kind ++ text_of ps) (spelled kind) kind (text_of ps) more.tokens more.end [] ends.no_comment
          (record { cut = refl; token = formed_token kind first; longest = ends.longest }) more.reads;
      same = ap (λ ts. kind ∷ ts) more.same;
    }
