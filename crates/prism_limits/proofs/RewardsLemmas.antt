-- Whether tokens end inside a rewards block, one token after the other.
use Rattle.std.proofs.Common.{◌≡◌, Bool, List, [], ◌∷◌, ◌++◌, length, ◌⊎◌, inl, inr, ⊎_elim, ◌↔◌, refl, sym, ap, ◌∙◌, arith}
use Rattle.std.specs.Prelude.{IsTrue, All}
use Rattle.std.proofs.lemmas.List.{append_assoc, length_push}
use Rattle.std.proofs.lemmas.List.Elements.{All-nil, All-push, All-cons, All-head, All-tail}
use Rattle.prism_syntax.specs.declared.tokens.Kind.{Kind}
use Rattle.prism_syntax.specs.declared.tokens.Kind.TheVariants as k
use Rattle.prism_limits.specs.Words.{EndsInRewards}
use Rattle.prism_limits.specs.ChainWalk.{inside_after}
use Rattle.prism_limits.proofs.PlaceLemmas.{same_cut}

-- a list is empty or has a last element
pub data Ended {X : Type 0} : List X → Type 0 where
  empty : Ended []
  push : (front : List X) (last : X) → Ended (front ++ (last ∷ []))

ended_cons : {X : Type 0} (x : X) (xs : List X) → Ended xs → Ended (x ∷ xs)
ended_cons x _ empty = push [] x
ended_cons x _ (push front last) = push (x ∷ front) last

pub ended : {X : Type 0} (xs : List X) → Ended xs
ended [] = empty
ended (x ∷ xs) = ended_cons x xs (ended xs)

-- two lists with a last element are the same where the fronts and the last elements are
pub same_push : {X : Type 0} (xs ys : List X) (x y : X) → xs ++ (x ∷ []) ≡ ys ++ (y ∷ []) → (xs ≡ ys) × (x ≡ y)
same_push xs ys x y same =
    let long : length (xs ++ (x ∷ [])) ≡ length (ys ++ (y ∷ [])) = ap length same in
    let left = length_push xs x in
    let right = length_push ys y in
    let both = same_cut xs ys (x ∷ []) (y ∷ []) same (omega arith) in
    let tails : x ∷ [] ≡ y ∷ [] = both.1 in
    (both.0, cc)

-- what is true of all elements of a list with a last one is true of the last one and of the others
pub all_push : {X : Type 0} (P : X → Type 0) (xs : List X) (x : X) → All P (xs ++ (x ∷ [])) → All P xs × P x
all_push P [] x all = (All-nil P, All-head P x [] all)
all_push P (y ∷ ys) x all =
    let rest = all_push P ys x (All-tail P y (ys ++ (x ∷ [])) all) in
    (All-cons P y ys (All-head P y (ys ++ (x ∷ [])) all) rest.0, rest.1)

abbrev Unended : List Kind → Type 0
Unended inside = All (λ token. token ≡ k.EndRewards → ⊥) inside

-- where a block is open after one more token, this token opens it, or it was open before and this token does not end it
ends_parts : (before : List Kind) (token : Kind) (front inside : List Kind) → Ended inside → before ++ (token ∷ []) ≡ front ++ (k.Rewards ∷ inside) → Unended inside
    → (token ≡ k.Rewards) ⊎ (EndsInRewards before × (token ≡ k.EndRewards → ⊥))
ends_parts before token front _ empty cut unended = inl (same_push before front token k.Rewards cut).1
ends_parts before token front _ (push inner last) cut unended =
    let regrouped : before ++ (token ∷ []) ≡ (front ++ (k.Rewards ∷ inner)) ++ (last ∷ []) = cut ∙ sym (append_assoc front (k.Rewards ∷ inner) (last ∷ [])) in
    let both = same_push before (front ++ (k.Rewards ∷ inner)) token last regrouped in
    let parts = all_push (λ t. t ≡ k.EndRewards → ⊥) inner last unended in
    inr (record { before = front; inside = inner; cut = both.0; unended = parts.0 }, λ ends. parts.1 (sym both.1 ∙ ends))

pub ends_after : (before : List Kind) (token : Kind) → EndsInRewards (before ++ (token ∷ [])) → (token ≡ k.Rewards) ⊎ (EndsInRewards before × (token ≡ k.EndRewards → ⊥))
ends_after before token ends = ends_parts before token ends.before ends.inside (ended ends.inside) ends.cut ends.unended

-- the word `rewards` opens a block
pub opens : (before : List Kind) → EndsInRewards (before ++ (k.Rewards ∷ []))
opens before = record { before = before; inside = []; cut = refl; unended = All-nil _ }

-- an open block stays open after a token that is no `endrewards`
pub stays_open : (before : List Kind) (token : Kind) → (token ≡ k.EndRewards → ⊥) → EndsInRewards before → EndsInRewards (before ++ (token ∷ []))
stays_open before token goes_on ends = record {
  before = ends.before;
  inside = ends.inside ++ (token ∷ []);
  cut = ap (λ (ts : List Kind). ts ++ (token ∷ [])) ends.cut ∙ append_assoc ends.before (k.Rewards ∷ ends.inside) (token ∷ []);
  unended = All-push (λ t. t ≡ k.EndRewards → ⊥) ends.inside token ends.unended goes_on;
}

-- nothing has a argument
starts_parts : (front inside : List Kind) → [] ≡ front ++ (k.Rewards ∷ inside) → ⊥
starts_parts [] inside cut = cc
starts_parts (t ∷ ts) inside cut = cc

-- no block is open before all tokens
pub starts_outside : EndsInRewards [] → ⊥
starts_outside ends = starts_parts ends.before ends.inside ends.cut

-- a token that is neither `rewards` nor `endrewards` changes nothing
pub inside_kept : (inside : Bool) (token : Kind) (before : List Kind) → (token ≡ k.Rewards → ⊥) → (token ≡ k.EndRewards → ⊥) → (IsTrue inside ↔ EndsInRewards before) → (IsTrue inside ↔ EndsInRewards (before ++ (token ∷ [])))
inside_kept inside token before opens_none ends_none known = (
  λ was_open. stays_open before token ends_none (known.0 was_open),
  λ ends. ⊎_elim (λ (opened : token ≡ k.Rewards). absurd (opens_none opened)) (λ (was : EndsInRewards before × (token ≡ k.EndRewards → ⊥)). known.1 was.0) (ends_after before token ends),
)

-- what is known of tokens: whether they end inside a rewards block
abbrev pub Knows : Bool → List Kind → Type 0
Knows inside before = IsTrue inside ↔ EndsInRewards before

-- what is known after one more token
pub inside_next : (inside : Bool) (token : Kind) (before : List Kind) → Knows inside before → Knows (inside_after inside token) (before ++ (token ∷ []))
inside_next inside k.Rewards before known = (λ is_true. opens before, λ ends. refl)
inside_next inside k.EndRewards before known = (
  λ is_true. absurd (cc),
  λ ends. ⊎_elim (λ (opened : k.EndRewards ≡ k.Rewards). absurd (cc)) (λ (was : EndsInRewards before × (k.EndRewards ≡ k.EndRewards → ⊥)). absurd (was.1 refl)) (ends_after before k.EndRewards ends),
)
inside_next inside token before known = inside_kept inside token before (λ is. cc) (λ is. cc) known
