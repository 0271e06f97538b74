-- What each step of cutting a text keeps.
use Rattle.std.proofs.Common.{◌≡◌, ◌≢◌, ℕ, ◌+◌, ◌≤◌, ◌<◌, ◌==◌, Bool, false, List, [], ◌∷◌, ◌++◌, length, take, drop, Option, Some, refl, sym, ◌∙◌, ap, subst, arith, length-append, take-append-drop}
use lib.Seq.{length-take-le}
use Rattle.std.specs.Prelude.{Err}
use Rattle.std.proofs.lemmas.Bool.{eqb-true}
use Rattle.std.proofs.lemmas.Bool.Decides.{nat_tests}
use Rattle.prism_syntax.specs.declared.tokens.Kind.{Kind}
use Rattle.prism_syntax.specs.declared.tokens.Token.{Token}
use Rattle.prism_syntax.specs.Tokens.{IsToken, IsFirstToken, Reads}
use Rattle.prism_syntax.specs.Tokens as read
use Rattle.prism_lexer.specs.declared.lexeme.Lexeme.{Lexeme}
use Rattle.prism_lexer.specs.Outcome.{StandsClear, token_limit, IsCutInto, Tells}
use Rattle.prism_lexer.specs.Lexemes.{IsLongestLexeme}
use Rattle.prism_lexer.specs.Blanks.{Passes}
use Rattle.prism_lexer.specs.Steps.{IsNext, IsCutting, Refuses}
use Rattle.prism_lexer.specs.declared.fault.LexFault.{LexFault}
use Rattle.prism_lexer.specs.declared.fault.LexFault.TheVariants.{TooMany, BadByte, NumberTooWide, OutOfMemory}
use Rattle.prism_lexer.proofs.FormLemmas.{token_some}
use Rattle.prism_lexer.proofs.BlankLemmas.{reads_more}

-- what is found at the front of a text and has a kind is the longest token
pub first_token : (text : List ℕ) (form : Lexeme) (n : ℕ) (kind : Option Kind) → IsLongestLexeme text form n → IsToken (take n text) kind → IsFirstToken text (take n text) kind (drop n text)
first_token text form n kind front is =
    let split : take n text ++ drop n text ≡ text = take-append-drop n text in
    let size : length (take n text) ≡ n = length-take-le n text front.within in
    let whole : length text ≡ length (take n text) + length (drop n text) = ap length (sym split) ∙ length-append (take n text) (drop n text) in
    record {
      cut = sym split;
      token = is;
      longest = λ other after any cut token. omega (arith, size, whole, front.longest other after any cut token, ap length cut, length-append other after);
    }

-- tokens that are not as many as there may be are fewer
pub not_full : (n : ℕ) → n ≤ token_limit → (n == token_limit) ≡ false → n < token_limit
not_full n room is_false = grind (arith, nat_tests)

pub cutting_start : (text rest : List ℕ) → Passes text rest → StandsClear rest → IsCutting text [] rest
cutting_start text rest passed clear = record { shorter = passed.shorter; read = λ at same. passed.reads 0 at (omega (arith, same)); room = omega arith; clear = clear }

pub cutting_next : (text : List ℕ) (tokens : List Token) (rest : List ℕ) (at : ℕ) (token : Token) (after more : List ℕ)
    → IsCutting text tokens rest → IsNext rest at token after → at + length rest ≡ length text → length tokens < token_limit → Passes after more → StandsClear more
    → IsCutting text (tokens ++ token ∷ []) more
cutting_next text tokens rest at token after more before next place room passed clear =
    let size : length rest ≡ length next.bytes + length after = ap length next.first.cut ∙ length-append next.bytes after in
    record {
      shorter = omega (arith, passed.shorter, size, before.shorter);
      read = λ end same.
          reads_more 0 at end text rest more tokens (token ∷ []) (before.read at place)
          (subst (λ t. Reads at rest (t ∷ []) end more)
          (λ i. record { kind = token.kind; from = sym next.from i; to = sym next.to i })
          (read.token at rest next.bytes token.kind after [] end more before.clear.no_comment next.first
          (passed.reads (at + length next.bytes) end (omega (arith, size, place, same)))));
      room = omega (arith, length-append tokens (token ∷ []), room);
      clear = clear;
    }

pub cutting_end : (text : List ℕ) (tokens : List Token) → IsCutting text tokens [] → IsCutInto text tokens
cutting_end text tokens before = record { cut = record { end = length text; read = before.read (length text) (omega arith) }; room = before.room }

-- what follows a token is shorter
pub next_shorter : (rest : List ℕ) (at : ℕ) (token : Token) (after : List ℕ) → IsNext rest at token after → length after < length rest
next_shorter rest at token after next = some_shorter rest next.bytes after next.first.cut (token_some next.bytes (Some token.kind) next.first.token)
  where
    some_shorter : (rest bytes after : List ℕ) → rest ≡ bytes ++ after → (bytes ≡ [] → ⊥) → length after < length rest
    some_shorter rest [] after cut some = absurd (some refl)
    some_shorter rest (c ∷ cs) after cut some = omega (arith, ap length cut, length-append cs after)

-- a fault at the rest of a text is a fault of the text
pub cutting_fault : (text : List ℕ) (tokens : List Token) (rest : List ℕ) (at : ℕ) (is_full : Bool) (fault : LexFault)
    → IsCutting text tokens rest → rest ≢ [] → at + length rest ≡ length text → is_full ≡ (length tokens == token_limit) → Refuses rest at is_full fault → Tells text (Err fault)
cutting_fault text tokens rest at is_full TooMany before some place full refused = record {
  tokens = tokens;
  at = at;
  rest = rest;
  read = before.read at place;
  full = eqb-true (length tokens) token_limit (sym full ∙ refused.0);
  clear = before.clear;
  more = refused.1;
}
cutting_fault text tokens rest at is_full (BadByte place_too) before some place full refused = record {
  tokens = tokens;
  rest = rest;
  read = before.read place_too (omega (arith, refused.0, place));
  room = before.room;
  some = some;
  clear = before.clear;
  none = refused.1;
}
cutting_fault text tokens rest at is_full (NumberTooWide place_too) before some place full refused = record {
  tokens = tokens;
  rest = rest;
  bytes = refused.2.bytes;
  after = refused.2.after;
  read = before.read place_too (omega (arith, refused.0, place));
  room = not_full (length tokens) before.room (sym full ∙ refused.1);
  clear = before.clear;
  wide = refused.2.first;
}
cutting_fault text tokens rest at is_full (OutOfMemory fault) before some place full refused = tt
