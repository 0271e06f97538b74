-- A text is read in one way.
use Rattle.std.proofs.Common.{◌≡◌, ℕ, ◌+◌, ◌<◌, Bool, true, not, ◌==◌, List, [], ◌∷◌, ◌++◌, length, take, drop, Option, Some, None, ◌⊎◌, inl, inr, ⊎_elim, refl, sym, ◌∙◌, ap, subst, subst₂, arith, length-append, append-nil}
use lib.Seq.{take-append_seam, drop-append_seam}
use Rattle.std.specs.List.{prefix_len}
use Rattle.prism_syntax.specs.declared.tokens.Kind.{Kind}
use Rattle.prism_syntax.specs.declared.tokens.Token.{Token}
use Rattle.prism_syntax.specs.Tokens.{IsToken, IsFirstToken, is_blank, is_one_line, EndsLine, BeginsNoComment, Reads}
use Rattle.prism_syntax.specs.Tokens as read
use Rattle.prism_lexer.specs.Outcome.{BeginsNoToken, StandsClear}
use Rattle.prism_lexer.proofs.RunLemmas.{Stops, run_whole}
use Rattle.prism_lexer.proofs.FormLemmas.{token_no_blank, token_some}
use Rattle.prism_lexer.proofs.KindLemmas.{one_kind}

-- two readings of one text: one of them goes on where the other ends
pub data Meet (ts us : List Token) (e : ℕ) (r : List ℕ) (f : ℕ) (s : List ℕ) : Type 0 where
  ahead : (more : List Token) → Reads e r more f s → us ≡ ts ++ more → Meet ts us e r f s
  behind : (more : List Token) → Reads f s more e r → ts ≡ us ++ more → Meet ts us e r f s

-- ---- one line

line_stops : (text : List ℕ) → EndsLine text → Stops (λ c. not (c == 10)) text
line_stops [] ends = tt
line_stops (c ∷ cs) ends = ap (λ d. not (d == 10)) ends

record SameLine (line text other rest : List ℕ) : Type 0 where
  lines : line ≡ other
  rests : text ≡ rest

same_line : (line text other rest : List ℕ) → is_one_line line ≡ true → EndsLine text → is_one_line other ≡ true → EndsLine rest → line ++ text ≡ other ++ rest → SameLine line text other rest
same_line line text other rest one ends one_too ends_too same =
    let test : ℕ → Bool = λ c. not (c == 10) in
    let first : prefix_len test (line ++ text) ≡ length line = run_whole test line text one (line_stops text ends) in
    let second : prefix_len test (other ++ rest) ≡ length other = run_whole test other rest one_too (line_stops rest ends_too) in
    let size : length line ≡ length other = sym first ∙ ap (prefix_len test) same ∙ second in
    record {
      lines = sym (take-append_seam line text) ∙ (λ i. take (size i) (same i)) ∙ take-append_seam other rest;
      rests = sym (drop-append_seam line text) ∙ (λ i. drop (size i) (same i)) ∙ drop-append_seam other rest;
    }

-- ---- one token

pub record SameToken (bytes : List ℕ) (kind : Option Kind) (rest other : List ℕ) (kind_too : Option Kind) (rest_too : List ℕ) : Type 0 where
  pub bytes_same : bytes ≡ other
  pub kind_same : kind ≡ kind_too
  pub rest_same : rest ≡ rest_too

pub same_token : (text bytes : List ℕ) (kind : Option Kind) (rest other : List ℕ) (kind_too : Option Kind) (rest_too : List ℕ)
    → IsFirstToken text bytes kind rest → IsFirstToken text other kind_too rest_too → SameToken bytes kind rest other kind_too rest_too
same_token text bytes kind rest other kind_too rest_too first second =
    let low = first.longest other rest_too kind_too second.cut second.token in
    let high = second.longest bytes rest kind first.cut first.token in
    let same : bytes ++ rest ≡ other ++ rest_too = sym first.cut ∙ second.cut in
    let size : length bytes ≡ length other = omega (arith, low, high, ap length same, length-append bytes rest, length-append other rest_too) in
    let bytes_same : bytes ≡ other = sym (take-append_seam bytes rest) ∙ (λ i. take (size i) (same i)) ∙ take-append_seam other rest_too in
    record {
      bytes_same = bytes_same;
      kind_same = one_kind bytes other kind kind_too first.token second.token bytes_same;
      rest_same = sym (drop-append_seam bytes rest) ∙ (λ i. drop (size i) (same i)) ∙ drop-append_seam other rest_too;
    }

token_at : Kind → ℕ → ℕ → Token
token_at kind from to = record { kind = kind; from = from; to = to }

same_tail : (x y : ℕ) (s t : List ℕ) → x ∷ s ≡ y ∷ t → s ≡ t
same_tail x y s t same = cc

same_head : (x y : ℕ) (s t : List ℕ) → x ∷ s ≡ y ∷ t → x ≡ y
same_head x y s t same = cc

-- a blank is no `/`
blank_no_slash : (c : ℕ) → is_blank c ≡ true → c ≡ 47 → ⊥
blank_no_slash c is same = let e : is_blank 47 ≡ true = ap is_blank (sym same) ∙ is in cc

no_blank_first : (c : ℕ) (text other bytes after : List ℕ) (kind : Option Kind) → is_blank c ≡ true → c ∷ text ≡ other → IsFirstToken other bytes kind after → ⊥
no_blank_first c text other bytes after kind is same first = token_no_blank bytes kind c text after first.token (same ∙ first.cut) is

-- the same token before two readings that meet
with_token : (t u : Token) (ts us : List Token) (e : ℕ) (r : List ℕ) (f : ℕ) (s : List ℕ) → t ≡ u → Meet ts us e r f s → Meet (t ∷ ts) (u ∷ us) e r f s
with_token t u ts us e r f s same (ahead more reads whole) = ahead more reads (λ i. sym same i ∷ whole i)
with_token t u ts us e r f s same (behind more reads whole) = behind more reads (λ i. same i ∷ whole i)

pub meet : (a b : ℕ) (t u : List ℕ) (ts us : List Token) (e f : ℕ) (r s : List ℕ) → Reads a t ts e r → Reads b u us f s → a ≡ b → t ≡ u → Meet ts us e r f s
meet _ b _ u _ us _ f _ s (read.done at text) second place same = ahead us (subst₂ (λ p x. Reads p x us f s) (sym place) (sym same) second) refl
meet _ _ _ _ _ _ _ _ _ _ (read.blank a c t ts e r is first) (read.done b u) place same =
    behind ts (subst₂ (λ p x. Reads p x ts e r) place same (read.blank a c t ts e r is first)) refl
meet _ _ _ _ _ _ _ _ _ _ (read.blank a c t ts e r is first) (read.blank b d u us f s is_too second) place same =
    meet (a + 1) (b + 1) t u ts us e f r s first second (ap (λ n. n + 1) place) (same_tail c d t u same)
meet _ _ _ _ _ _ _ _ _ _ (read.blank a c t ts e r is first) (read.comment b line u us f s one ends second) place same =
    absurd (blank_no_slash c is (same_head c 47 t (47 ∷ (line ++ u)) same))
meet _ _ _ _ _ _ _ _ _ _ (read.blank a c t ts e r is first) (read.token b u bytes kind after us f s clear token second) place same =
    absurd (no_blank_first c t u bytes after (Some kind) is same token)
meet _ _ _ _ _ _ _ _ _ _ (read.comment a line t ts e r one ends first) (read.done b u) place same =
    behind ts (subst₂ (λ p x. Reads p x ts e r) place same (read.comment a line t ts e r one ends first)) refl
meet _ _ _ _ _ _ _ _ _ _ (read.comment a line t ts e r one ends first) (read.blank b d u us f s is second) place same =
    absurd (blank_no_slash d is (sym (same_head 47 d (47 ∷ (line ++ t)) u same)))
meet _ _ _ _ _ _ _ _ _ _ (read.comment a line t ts e r one ends first) (read.comment b other u us f s one_too ends_too second) place same =
    let both = same_line line t other u one ends one_too ends_too (same_tail 47 47 (line ++ t) (other ++ u) (same_tail 47 47 (47 ∷ (line ++ t)) (47 ∷ (other ++ u)) same)) in
    meet (a + (2 + length line)) (b + (2 + length other)) t u ts us e f r s first second (λ i. place i + (2 + length (both.lines i))) both.rests
meet _ _ _ _ _ _ _ _ _ _ (read.comment a line t ts e r one ends first) (read.token b u bytes kind after us f s clear token second) place same =
    absurd (clear (line ++ t) (sym same))
meet _ _ _ _ _ _ _ _ _ _ (read.token a t bytes kind after ts e r clear token first) (read.done b u) place same =
    behind (token_of kind a bytes ∷ ts) (subst₂ (λ p x. Reads p x (token_of kind a bytes ∷ ts) e r) place same (read.token a t bytes kind after ts e r clear token first)) refl
  where
    token_of : Kind → ℕ → List ℕ → Token
    token_of kind at bytes = record { kind = kind; from = at; to = at + length bytes }
meet _ _ _ _ _ _ _ _ _ _ (read.token a t bytes kind after ts e r clear token first) (read.blank b d u us f s is second) place same =
    absurd (no_blank_first d u t bytes after (Some kind) is (sym same) token)
meet _ _ _ _ _ _ _ _ _ _ (read.token a t bytes kind after ts e r clear token first) (read.comment b line u us f s one ends second) place same =
    absurd (clear (line ++ u) same)
meet _ _ _ _ _ _ _ _ _ _ (read.token a t bytes kind after ts e r clear token first) (read.token b u other kind_too after_too us f s clear_too token_too second) place same =
    let both = same_token u bytes (Some kind) after other (Some kind_too) after_too (subst (λ x. IsFirstToken x bytes (Some kind) after) same token) token_too in
    let kinds = same_kind kind kind_too both.kind_same in
    with_token (record { kind = kind; from = a; to = a + length bytes }) (record { kind = kind_too; from = b; to = b + length other }) ts us e r f s
    (λ i. record { kind = kinds i; from = place i; to = place i + length (both.bytes_same i) })
    (meet (a + length bytes) (b + length other) after after_too ts us e f r s first second (λ i. place i + length (both.bytes_same i)) both.rest_same)
  where
    same_kind : (k l : Kind) → Some k ≡ Some l → k ≡ l
    same_kind k l same = cc

-- ---- where a reading ends

-- nothing is read from here on
pub record Ended (e : ℕ) (r : List ℕ) (more : List Token) (f : ℕ) (s : List ℕ) : Type 0 where
  pub none : more ≡ []
  pub place : f ≡ e
  pub rest : s ≡ r

pub Stuck : List ℕ → Type 0
Stuck r = (e : ℕ) (more : List Token) (f : ℕ) (s : List ℕ) → Reads e r more f s → Ended e r more f s

no_step : (r : List ℕ) → StandsClear r → ((bytes : List ℕ) (kind : Kind) (after : List ℕ) → IsFirstToken r bytes (Some kind) after → ⊥)
    → (t : List ℕ) (e : ℕ) (more : List Token) (f : ℕ) (s : List ℕ) → Reads e t more f s → t ≡ r → Ended e r more f s
no_step r clear no_token _ _ _ _ _ (read.done at text) same = record { none = refl; place = refl; rest = same }
no_step r clear no_token _ _ _ _ _ (read.blank at c text ts f s is reads) same = absurd (clear.no_blank c text (sym same) is)
no_step r clear no_token _ _ _ _ _ (read.comment at line text ts f s one ends reads) same = absurd (clear.no_comment (line ++ text) (sym same))
no_step r clear no_token _ _ _ _ _ (read.token at text bytes kind after ts f s begins first reads) same = absurd (no_token bytes kind after (subst (λ x. IsFirstToken x bytes (Some kind) after) same first))

nil_clear : StandsClear []
nil_clear = record { no_blank = λ c rest same is. cc; no_comment = λ rest same. cc }

pub nil_no_token : BeginsNoToken []
nil_no_token [] after kind cut is = token_some [] kind is refl
nil_no_token (c ∷ cs) after kind cut is = cc

pub stuck_none : (r : List ℕ) → StandsClear r → BeginsNoToken r → Stuck r
unfolding Stuck
stuck_none r clear none e more f s reads = no_step r clear (λ bytes kind after first. none bytes after (Some kind) first.cut first.token) r e more f s reads refl

pub stuck_end : Stuck []
stuck_end = stuck_none [] nil_clear nil_no_token

pub stuck_wide : (r bytes after : List ℕ) → StandsClear r → IsFirstToken r bytes None after → Stuck r
unfolding Stuck
stuck_wide r bytes after clear wide e more f s reads =
    no_step r clear (λ other kind rest first. let both = same_token r bytes None after other (Some kind) rest wide first in let e = both.kind_same in cc) r e more f s reads refl

-- two readings of one text that go no further are the same
pub record Same (ts us : List Token) (e f : ℕ) (r s : List ℕ) : Type 0 where
  pub tokens : ts ≡ us
  pub places : e ≡ f
  pub rests : r ≡ s

pub stop_same : (text : List ℕ) (ts us : List Token) (e f : ℕ) (r s : List ℕ) → Reads 0 text ts e r → Stuck r → Reads 0 text us f s → Stuck s → Same ts us e f r s
unfolding Stuck
stop_same text ts us e f r s first stuck second stuck_too = elim (meet 0 0 text text ts us e f r s first second refl refl) [
  | ahead more reads whole ↦
      let ended = stuck e more f s reads in
      record { tokens = sym (whole ∙ ap (λ m. ts ++ m) ended.none ∙ append-nil ts); places = sym ended.place; rests = sym ended.rest }
  | behind more reads whole ↦
      let ended = stuck_too f more e r reads in
      record { tokens = whole ∙ ap (λ m. us ++ m) ended.none ∙ append-nil us; places = ended.place; rests = ended.rest }
]

-- after a reading that ends before a token, another goes on by a token or ends there too
clear_step : (r : List ℕ) → StandsClear r → (t : List ℕ) (e : ℕ) (more : List Token) (f : ℕ) (s : List ℕ) → Reads e t more f s → t ≡ r → (s ≡ r) ⊎ (0 < length more)
clear_step r clear _ _ _ _ _ (read.done at text) same = inl same
clear_step r clear _ _ _ _ _ (read.blank at c text ts f s is reads) same = absurd (clear.no_blank c text (sym same) is)
clear_step r clear _ _ _ _ _ (read.comment at line text ts f s one ends reads) same = absurd (clear.no_comment (line ++ text) (sym same))
clear_step r clear _ _ _ _ _ (read.token at text bytes kind after ts f s begins first reads) same = inr (omega arith)

-- a reading of some tokens before another token, against one that goes no further
pub further : (text : List ℕ) (ts us : List Token) (e f : ℕ) (r s : List ℕ) → Reads 0 text ts e r → StandsClear r → Reads 0 text us f s → Stuck s → (s ≡ r) × (length us ≡ length ts) ⊎ (length ts < length us)
unfolding Stuck
further text ts us e f r s first clear second stuck = elim (meet 0 0 text text ts us e f r s first second refl refl) [
  | ahead more reads whole ↦
      let size = ap length whole ∙ length-append ts more in
      ⊎_elim
      (λ (same : s ≡ r). (elim more as (λ m. length us ≡ length ts + length m → ((s ≡ r) × (length us ≡ length ts)) ⊎ (length ts < length us)) [ [] ↦ λ n. inl (same, omega arith) | x ∷ xs ↦ λ n. inr (omega arith) ]) size)
      (λ (some : 0 < length more). inr (omega arith))
      (clear_step r clear r e more f s reads refl)
  | behind more reads whole ↦
      let ended = stuck f more e r reads in
      inl (sym ended.rest, sym (ap length (whole ∙ ap (λ m. us ++ m) ended.none ∙ append-nil us)))
]
