-- Two texts of a level where the one is the longest: what follows the other; and what single tokens stand at the front of some tokens.
use Rattle.std.proofs.Common.{◌≡◌, ℕ, ◌+◌, ◌≤◌, ◌<◌, true, List, [], ◌∷◌, ◌++◌, length, refl, sym, ap, ◌∙◌, subst, ◌⊎◌, inl, inr, ⊎_elim, arith}
use Rattle.prism_syntax.specs.declared.labels.Labels.{Labels}
use Rattle.prism_syntax.specs.declared.tokens.Kind.{Kind}
use Rattle.prism_syntax.specs.declared.tokens.Token.{Token}
use Rattle.prism_syntax.specs.declared.expressions.Expr.{Expr}
use Rattle.prism_syntax.specs.declared.precedence.Precedence.{Precedence}
use Rattle.prism_syntax.specs.Tokens.{kinds}
use Rattle.prism_syntax.specs.Expressions.{Derives}
use Rattle.prism_expression.specs.Follow.{goes_on, GoesOn}
use Rattle.prism_expression.specs.Parts.{BeginsWith, BeginsWithout}
use Rattle.prism_expression.proofs.TwoTextLemmas.{Compared, same, shorter, longer}
use Rattle.prism_expression.proofs.CompareLemmas.{compares}
use Rattle.prism_expression.proofs.FoundLemmas.{Found, Cut}
use Rattle.prism_reading.proofs.ReachLemmas.{heads}

-- another text ends where the longest does, or before it and goes on there
pub other_text : {labels : Labels} {l : Precedence} {ts rest : List Kind} {x : Expr} {n : ℕ} (a u : List Kind) (y : Expr) → Found (Derives labels l) ts x rest n → Derives labels l a y → ts ≡ a ++ u
    → ((rest ≡ u) × (x ≡ y)) ⊎ ((length rest < length u) × GoesOn l u)
other_text {l = l} {rest = rest} {x = x} a u y told text is =
    of l rest u (x ≡ y) (told.longest a u y is text) (compares told.text a rest u y text (sym told.cut ∙ is))
  where
    of : (m : Precedence) (r s : List Kind) (S : Type 0) → length r ≤ length s → Compared m r s S → ((r ≡ s) × S) ⊎ ((length r < length s) × GoesOn m s)
    of m r s S within (same equal one) = inl (equal, one)
    of m r s S within (shorter less goes) = absurd (omega arith)
    of m r s S within (longer less goes) = inr (less, goes)

-- a text that a token follows which does not go on it is the longest
pub stopped_text : {labels : Labels} {l : Precedence} {ts rest : List Kind} {x : Expr} {n : ℕ} (a u : List Kind) (t : Kind) (y : Expr) → Found (Derives labels l) ts x rest n → Derives labels l a y
    → ts ≡ a ++ (t ∷ u) → (goes_on l t ≡ true → ⊥) → (rest ≡ t ∷ u) × (x ≡ y)
stopped_text a u t y told text is stops = ⊎_elim (λ one. one) (λ beyond. absurd (stops beyond.1)) (other_text a (t ∷ u) y told text is)

-- a text that nothing follows, or a token which does not go on it
pub next_text : {labels : Labels} {l : Precedence} {ts rest : List Kind} {x : Expr} {n : ℕ} (a c r : List Kind) (y : Expr) → Found (Derives labels l) ts x rest n → Derives labels l a y
    → ts ≡ a ++ (c ++ r) → ((t : Kind) (d : List Kind) → c ≡ t ∷ d → goes_on l t ≡ true → ⊥) → (length rest ≤ length r) ⊎ (rest ≡ c ++ r)
next_text a [] r y told text is stops = ⊎_elim (λ one. inr one.0) (λ beyond. inl (omega (arith, beyond.0))) (other_text a r y told text is)
next_text a (t ∷ d) r y told text is stops = inr (stopped_text a (d ++ r) t y told text is (stops t d refl)).0

-- ---- single tokens

-- the kinds of the tokens behind the first one
pub with_kinds : {Is : Kind → Type 0} {tokens rest : List Token} (passed : BeginsWith Is tokens rest) → kinds tokens ≡ passed.first.kind ∷ kinds rest
with_kinds passed = ap kinds passed.cut

-- the rest comes last
pub with_cut : {Is : Kind → Type 0} {tokens rest : List Token} → BeginsWith Is tokens rest → Cut tokens rest
with_cut passed = (passed.first ∷ [], passed.cut)

-- one token fewer is left
pub with_shorter : {Is : Kind → Type 0} {tokens rest : List Token} → BeginsWith Is tokens rest → length tokens ≡ length rest + 1
with_shorter {rest = rest} passed = omega (arith, ap length passed.cut)

-- no first kind is of the sort
pub without_kinds : (Is : Kind → Type 0) (tokens : List Token) → BeginsWithout Is tokens → (t : Kind) (r : List Kind) → kinds tokens ≡ t ∷ r → Is t → ⊥
without_kinds Is [] lacks t r is holds = cc
without_kinds Is (u ∷ us) lacks t r is holds = lacks u us refl (subst Is (sym (heads is)) holds)
