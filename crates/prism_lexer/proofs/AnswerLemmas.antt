-- A text has one answer.
use Rattle.std.proofs.Common.{◌≡◌, ℕ, ◌+◌, ◌<◌, List, [], length, None, ◌⊎◌, inl, inr, ⊎_elim, refl, sym, ◌∙◌, ap, subst, arith}
use Rattle.std.specs.Prelude.{Result, Ok, Err, IfOk, All}
use Rattle.std.proofs.lemmas.List.Elements.{All-nil, All-cons}
use Rattle.std.specs.declared.vec.Vec.{Vec}
use Rattle.std.specs.declared.alloc.Global.{Global}
use Rattle.prism_syntax.specs.declared.tokens.Token.{Token}
use Rattle.prism_syntax.specs.Tokens.{IsFirstToken, Reads, AreTokensOf}
use Rattle.prism_syntax.specs.Tokens as read
use Rattle.prism_syntax.specs.WellFormed.{IsFormedKind}
use Rattle.prism_lexer.specs.declared.fault.LexFault.{LexFault}
use Rattle.prism_lexer.specs.declared.fault.LexFault.TheVariants.{TooMany, BadByte, NumberTooWide, OutOfMemory}
use Rattle.prism_syntax.specs.Outcome.{ComesWhere, IsFaultOf}
use Rattle.prism_lexer.specs.Outcome.{BeginsNoToken, IsCutInto, HasTooMany, HasBadByte, HasWideNumber, IsOutOfMemory, Gives, Tells}
use Rattle.prism_lexer.specs.Steps.{seen}
use Rattle.prism_lexer.proofs.ReadLemmas.{nil_no_token, stuck_none, stuck_end, stuck_wide, stop_same, further}

-- a text is cut into one list of tokens
pub one_list : (text : List ℕ) (a b : List Token) → AreTokensOf text a → AreTokensOf text b → a ≡ b
one_list text a b x y = (stop_same text a b x.end y.end [] [] x.read stuck_end y.read stuck_end).tokens

-- no two of the answers hold of one text

ok_bad : (text : List ℕ) (a : List Token) (at : ℕ) → IsCutInto text a → HasBadByte text at → ⊥
ok_bad text a at x y = y.some (sym (stop_same text a y.tokens x.cut.end at [] y.rest x.cut.read stuck_end y.read (stuck_none y.rest y.clear y.none)).rests)

ok_wide : (text : List ℕ) (a : List Token) (at : ℕ) → IsCutInto text a → HasWideNumber text at → ⊥
ok_wide text a at x y =
    let same = stop_same text a y.tokens x.cut.end at [] y.rest x.cut.read stuck_end y.read (stuck_wide y.rest y.bytes y.after y.clear y.wide) in
    nil_no_token y.bytes y.after None (same.rests ∙ y.wide.cut) y.wide.token

many_ok : (text : List ℕ) (a : List Token) → HasTooMany text → IsCutInto text a → ⊥
many_ok text a x y =
    ⊎_elim
    (λ (same : ([] ≡ x.rest) × (length a ≡ length x.tokens)). x.more (subst BeginsNoToken same.0 nil_no_token))
    (λ (more : length x.tokens < length a). absurd (omega (arith, more, x.full, y.room)))
    (further text x.tokens a x.at y.cut.end x.rest [] x.read x.clear y.cut.read stuck_end)

many_bad : (text : List ℕ) (at : ℕ) → HasTooMany text → HasBadByte text at → ⊥
many_bad text at x y =
    ⊎_elim
    (λ (same : (y.rest ≡ x.rest) × (length y.tokens ≡ length x.tokens)). x.more (subst BeginsNoToken same.0 y.none))
    (λ (more : length x.tokens < length y.tokens). absurd (omega (arith, more, x.full, y.room)))
    (further text x.tokens y.tokens x.at at x.rest y.rest x.read x.clear y.read (stuck_none y.rest y.clear y.none))

many_wide : (text : List ℕ) (at : ℕ) → HasTooMany text → HasWideNumber text at → ⊥
many_wide text at x y =
    ⊎_elim
    (λ (same : (y.rest ≡ x.rest) × (length y.tokens ≡ length x.tokens)). absurd (omega (arith, same.1, x.full, y.room)))
    (λ (more : length x.tokens < length y.tokens). absurd (omega (arith, more, x.full, y.room)))
    (further text x.tokens y.tokens x.at at x.rest y.rest x.read x.clear y.read (stuck_wide y.rest y.bytes y.after y.clear y.wide))

bad_bad : (text : List ℕ) (at place : ℕ) → HasBadByte text at → HasBadByte text place → at ≡ place
bad_bad text at place x y = (stop_same text x.tokens y.tokens at place x.rest y.rest x.read (stuck_none x.rest x.clear x.none) y.read (stuck_none y.rest y.clear y.none)).places

bad_wide : (text : List ℕ) (at place : ℕ) → HasBadByte text at → HasWideNumber text place → ⊥
bad_wide text at place x y =
    let same = stop_same text x.tokens y.tokens at place x.rest y.rest x.read (stuck_none x.rest x.clear x.none) y.read (stuck_wide y.rest y.bytes y.after y.clear y.wide) in
    x.none y.bytes y.after None (same.rests ∙ y.wide.cut) y.wide.token

wide_wide : (text : List ℕ) (at place : ℕ) → HasWideNumber text at → HasWideNumber text place → at ≡ place
wide_wide text at place x y =
    (stop_same text x.tokens y.tokens at place x.rest y.rest x.read (stuck_wide x.rest x.bytes x.after x.clear x.wide) y.read (stuck_wide y.rest y.bytes y.after y.clear y.wide)).places

-- so one answer is true of the text, unless memory ran out
pub one_outcome : (text : List ℕ) (a b : Result (List Token) LexFault) → Tells text a → Tells text b → (IsFaultOf IsOutOfMemory a → ⊥) → (IsFaultOf IsOutOfMemory b → ⊥) → a ≡ b
one_outcome text (Ok ts) (Ok us) x y some more = ap Ok (one_list text ts us x.cut y.cut)
one_outcome text (Ok ts) (Err TooMany) x y some more = absurd (many_ok text ts y x)
one_outcome text (Ok ts) (Err (BadByte at)) x y some more = absurd (ok_bad text ts at x y)
one_outcome text (Ok ts) (Err (NumberTooWide at)) x y some more = absurd (ok_wide text ts at x y)
one_outcome text (Err TooMany) (Ok ts) x y some more = absurd (many_ok text ts x y)
one_outcome text (Err TooMany) (Err TooMany) x y some more = refl
one_outcome text (Err TooMany) (Err (BadByte at)) x y some more = absurd (many_bad text at x y)
one_outcome text (Err TooMany) (Err (NumberTooWide at)) x y some more = absurd (many_wide text at x y)
one_outcome text (Err (BadByte at)) (Ok ts) x y some more = absurd (ok_bad text ts at y x)
one_outcome text (Err (BadByte at)) (Err TooMany) x y some more = absurd (many_bad text at y x)
one_outcome text (Err (BadByte at)) (Err (BadByte place)) x y some more = ap (λ p. Err (BadByte p)) (bad_bad text at place x y)
one_outcome text (Err (BadByte at)) (Err (NumberTooWide place)) x y some more = absurd (bad_wide text at place x y)
one_outcome text (Err (NumberTooWide at)) (Ok ts) x y some more = absurd (ok_wide text ts at y x)
one_outcome text (Err (NumberTooWide at)) (Err TooMany) x y some more = absurd (many_wide text at y x)
one_outcome text (Err (NumberTooWide at)) (Err (BadByte place)) x y some more = absurd (bad_wide text place at y x)
one_outcome text (Err (NumberTooWide at)) (Err (NumberTooWide place)) x y some more = ap (λ p. Err (NumberTooWide p)) (wide_wide text at place x y)
one_outcome text (Err (OutOfMemory fault)) b x y some more = absurd (some tt)
one_outcome text (Ok ts) (Err (OutOfMemory fault)) x y some more = absurd (more tt)
one_outcome text (Err TooMany) (Err (OutOfMemory fault)) x y some more = absurd (more tt)
one_outcome text (Err (BadByte at)) (Err (OutOfMemory fault)) x y some more = absurd (more tt)
one_outcome text (Err (NumberTooWide at)) (Err (OutOfMemory fault)) x y some more = absurd (more tt)

-- ---- what an answer that is true of the text says

pub says_ok : (text : List ℕ) (r : Result (Vec Token Global) LexFault) → Tells text (seen r) → IfOk r (λ v. IsCutInto text v.items)
says_ok text (Ok v) told = told
says_ok text (Err fault) told = tt

-- tokens that are read are well formed
reads_formed : (at : ℕ) (text : List ℕ) (tokens : List Token) (end : ℕ) (rest : List ℕ) → Reads at text tokens end rest → All (λ t. IsFormedKind t.kind) tokens
reads_formed _ _ _ _ _ (read.done at text) = All-nil (λ (t : Token). IsFormedKind t.kind)
reads_formed _ _ _ _ _ (read.blank at c text tokens end rest is reads) = reads_formed (at + 1) text tokens end rest reads
reads_formed _ _ _ _ _ (read.comment at line text tokens end rest one ends reads) = reads_formed (at + (2 + length line)) text tokens end rest reads
reads_formed _ _ _ _ _ (read.token at text bytes kind after tokens end rest clear first reads) =
    All-cons (λ (t : Token). IsFormedKind t.kind) (record { kind = kind; from = at; to = at + length bytes }) tokens (bytes, first.token)
    (reads_formed (at + length bytes) after tokens end rest reads)

pub says_formed : (text : List ℕ) (r : Result (Vec Token Global) LexFault) → Tells text (seen r) → IfOk r (λ v. All (λ t. IsFormedKind t.kind) v.items)
says_formed text (Ok v) told = reads_formed 0 text v.items told.cut.end [] told.cut.read
says_formed text (Err fault) told = tt

pub says_all : (text : List ℕ) (r : Result (Vec Token Global) LexFault) → Tells text (seen r) → (ts : List Token) → IsCutInto text ts → Gives r ts
says_all text (Ok v) told ts are = one_list text v.items ts told.cut are.cut
says_all text (Err TooMany) told ts are = many_ok text ts told are
says_all text (Err (BadByte at)) told ts are = ok_bad text ts at are told
says_all text (Err (NumberTooWide at)) told ts are = ok_wide text ts at are told
says_all text (Err (OutOfMemory fault)) told ts are = tt

told_at : (text : List ℕ) (r : Result (Vec Token Global) LexFault) (fault : LexFault) → Tells text (seen r) → r ≡ Err fault → Tells text (Err fault)
told_at text r fault told same = subst (λ q. Tells text (seen q)) same told

pub says_too_many : (text : List ℕ) (r : Result (Vec Token Global) LexFault) → Tells text (seen r) → ComesWhere IsOutOfMemory r (Err TooMany) (HasTooMany text)
says_too_many text r told = record { only = told_at text r TooMany told; always = always r told }
  where
    always : (r : Result (Vec Token Global) LexFault) → Tells text (seen r) → HasTooMany text → (r ≡ Err TooMany) ⊎ IsFaultOf IsOutOfMemory r
    always (Ok v) told fact = absurd (many_ok text v.items fact told)
    always (Err TooMany) told fact = inl refl
    always (Err (BadByte at)) told fact = absurd (many_bad text at fact told)
    always (Err (NumberTooWide at)) told fact = absurd (many_wide text at fact told)
    always (Err (OutOfMemory fault)) told fact = inr tt

pub says_bad_byte : (text : List ℕ) (r : Result (Vec Token Global) LexFault) → Tells text (seen r) → (at : ℕ) → ComesWhere IsOutOfMemory r (Err (BadByte at)) (HasBadByte text at)
says_bad_byte text r told at = record { only = told_at text r (BadByte at) told; always = always r told }
  where
    always : (r : Result (Vec Token Global) LexFault) → Tells text (seen r) → HasBadByte text at → (r ≡ Err (BadByte at)) ⊎ IsFaultOf IsOutOfMemory r
    always (Ok v) told fact = absurd (ok_bad text v.items at told fact)
    always (Err TooMany) told fact = absurd (many_bad text at told fact)
    always (Err (BadByte place)) told fact = inl (ap (λ p. Err (BadByte p)) (bad_bad text place at told fact))
    always (Err (NumberTooWide place)) told fact = absurd (bad_wide text at place fact told)
    always (Err (OutOfMemory fault)) told fact = inr tt

pub says_too_wide : (text : List ℕ) (r : Result (Vec Token Global) LexFault) → Tells text (seen r) → (at : ℕ) → ComesWhere IsOutOfMemory r (Err (NumberTooWide at)) (HasWideNumber text at)
says_too_wide text r told at = record { only = told_at text r (NumberTooWide at) told; always = always r told }
  where
    always : (r : Result (Vec Token Global) LexFault) → Tells text (seen r) → HasWideNumber text at → (r ≡ Err (NumberTooWide at)) ⊎ IsFaultOf IsOutOfMemory r
    always (Ok v) told fact = absurd (ok_wide text v.items at told fact)
    always (Err TooMany) told fact = absurd (many_wide text at told fact)
    always (Err (BadByte place)) told fact = absurd (bad_wide text place at told fact)
    always (Err (NumberTooWide place)) told fact = inl (ap (λ p. Err (NumberTooWide p)) (wide_wide text place at told fact))
    always (Err (OutOfMemory fault)) told fact = inr tt
