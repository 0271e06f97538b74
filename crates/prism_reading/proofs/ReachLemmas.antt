-- How far tokens go that begin something: nothing of them, one token more, the lesser of two attempts.
use Rattle.std.proofs.Common.{◌≡◌, ℕ, ◌≤◌, min, List, [], ◌∷◌, ◌++◌, length, refl, sym, ap, ◌∙◌, subst, ◌⊎◌, inl, inr, ⊎_elim, arith}
use Rattle.std.proofs.lemmas.List.{append_assoc, append-nil, length-append, length-map}
use Rattle.prism_syntax.specs.declared.tokens.Kind.{Kind}
use Rattle.prism_syntax.specs.declared.tokens.Token.{Token}
use Rattle.prism_syntax.specs.Tokens.{kinds}
use Rattle.prism_reading.specs.Reach.{IsPrefix, IsReach}

-- each token has one kind
pub count_kinds : (tokens : List Token) → length (kinds tokens) ≡ length tokens
count_kinds tokens = length-map tokens (λ t. t.kind)

-- equal lists have equal first elements
pub heads : {t u : Kind} {a b : List Kind} → t ∷ a ≡ u ∷ b → t ≡ u
heads equal = cc

-- and equal rests
pub tails : {t u : Kind} {a b : List Kind} → t ∷ a ≡ u ∷ b → a ≡ b
tails equal = cc

-- a list that is cut in two places: the first part of the one cut lies within that of the other, or goes beyond it
pub cut_twice : (f more a b : List Kind) → f ++ more ≡ a ++ b → ((rest : List Kind) × (a ≡ f ++ rest)) ⊎ ((over : List Kind) × (f ≡ a ++ over) × (b ≡ over ++ more))
cut_twice [] more a b equal = inl (a, refl)
cut_twice (t ∷ f) more [] b equal = inr (t ∷ f, refl, sym equal)
cut_twice (t ∷ f) more (u ∷ a) b equal =
    let first : t ≡ u = heads equal in
    ⊎_elim
    (λ within. inl (within.0, ap (λ v. u ∷ v) within.1 ∙ ap (λ v. v ∷ (f ++ within.0)) (sym first)))
    (λ beyond. inr (beyond.0, ap (λ v. t ∷ v) beyond.1 ∙ ap (λ v. v ∷ (a ++ beyond.0)) first, beyond.2))
    (cut_twice f more a b (tails equal))

-- a whole text is a prefix of a text
pub whole_prefix : {X : Type 0} (Rule : List Kind → X → Type 0) (a : List Kind) (x : X) → Rule a x → IsPrefix Rule a
whole_prefix Rule a x text = record { more = []; tree = x; text = subst (λ v. Rule v x) (sym (append-nil a)) text }

-- so many tokens are left after a prefix that begins something
pub record Begun (Begins : List Kind → Type 0) (tokens : List Kind) (left : ℕ) : Type 0 where
  pub prefix : List Kind
  pub rest : List Kind
  pub cut : tokens ≡ prefix ++ rest
  pub count : length rest ≡ left
  pub begins : Begins prefix

-- the longest such prefix is one
pub begun : {Begins : List Kind → Type 0} {tokens : List Kind} {left : ℕ} → IsReach Begins tokens left → Begun Begins tokens left
begun reach = record { prefix = reach.prefix; rest = reach.rest; cut = reach.cut; count = reach.count; begins = reach.begins }

-- and one that none goes beyond is the longest
pub reach_begun : {Begins : List Kind → Type 0} {tokens : List Kind} {left : ℕ} → Begun Begins tokens left
    → ((other after : List Kind) → tokens ≡ other ++ after → Begins other → left ≤ length after) → IsReach Begins tokens left
reach_begun b furthest = record { prefix = b.prefix; rest = b.rest; cut = b.cut; count = b.count; begins = b.begins; furthest = furthest }

-- of two prefixes one leaves the lesser number of tokens
pub begun_lesser : {Begins : List Kind → Type 0} {tokens : List Kind} (n m : ℕ) → Begun Begins tokens n → Begun Begins tokens m → Begun Begins tokens (min n m)
begun_lesser {Begins = Begins} {tokens = tokens} n m first second =
    ⊎_elim (λ is. subst (Begun Begins tokens) (sym is) first) (λ is. subst (Begun Begins tokens) (sym is) second) (lesser n m)
  where
    lesser : (i j : ℕ) → (min i j ≡ i) ⊎ (min i j ≡ j)
    lesser i j = grind arith

-- what begins something behind some tokens begins the whole together with them
pub begun_behind : {Part Whole : List Kind → Type 0} {tokens after : List Kind} {left : ℕ} (before : List Kind) → tokens ≡ before ++ after
    → ((f : List Kind) → Part f → Whole (before ++ f)) → Begun Part after left → Begun Whole tokens left
begun_behind before is up b = record {
  prefix = before ++ b.prefix;
  rest = b.rest;
  cut = is ∙ ap (λ v. before ++ v) b.cut ∙ sym (append_assoc before b.prefix b.rest);
  count = b.count;
  begins = up b.prefix b.begins;
}

-- what begins the one thing exactly where it begins the other goes as far
pub reach_same : {Part Whole : List Kind → Type 0} {tokens : List Kind} {left : ℕ} → ((f : List Kind) → Part f → Whole f)
    → ((f r : List Kind) → tokens ≡ f ++ r → Whole f → Part f) → IsReach Part tokens left → IsReach Whole tokens left
reach_same up down reach = reach_begun (begun_behind [] refl up (begun reach)) (λ f r is whole. reach.furthest f r is (down f r is whole))

-- a wrong first token leaves all tokens
pub reach_nil : {Begins : List Kind → Type 0} {tokens : List Kind} → Begins []
    → ((f r : List Kind) → tokens ≡ f ++ r → Begins f → f ≡ []) → IsReach Begins tokens (length tokens)
reach_nil {tokens = tokens} nothing none = record {
  prefix = [];
  rest = tokens;
  cut = refl;
  count = refl;
  begins = nothing;
  furthest = λ f r is begins. omega (arith, ap length is, ap length (none f r is begins), length-append f r);
}

-- one token, and what begins something after it
pub reach_cons : {Part Whole : List Kind → Type 0} {tokens after : List Kind} {left : ℕ} (t : Kind) → tokens ≡ t ∷ after
    → ((f : List Kind) → Part f → Whole (t ∷ f))
    → ((f r : List Kind) → tokens ≡ f ++ r → Whole f → (f ≡ []) ⊎ ((g : List Kind) × (after ≡ g ++ r) × Part g))
    → IsReach Part after left → IsReach Whole tokens left
reach_cons t is up cover reach =
    reach_begun (begun_behind (t ∷ []) is up (begun reach))
    (λ f r equal whole. ⊎_elim
    (λ none. omega (arith, ap length equal, ap length none, ap length is, ap length reach.cut, reach.count, length-append f r, length-append reach.prefix reach.rest))
    (λ part. reach.furthest part.0 r part.1 part.2)
    (cover f r equal whole))

-- a first part that goes so far, and a second one behind a whole first part: the whole goes as far as the one that leaves fewer tokens
pub reach_lesser : {First Second Whole : List Kind → Type 0} {tokens after : List Kind} (n m : ℕ) (before : List Kind)
    → Begun First tokens n → IsReach Second after m → tokens ≡ before ++ after
    → ((f : List Kind) → First f → Whole f) → ((f : List Kind) → Second f → Whole (before ++ f))
    → ((f r : List Kind) → tokens ≡ f ++ r → Whole f → (n ≤ length r) ⊎ ((g : List Kind) × (after ≡ g ++ r) × Second g))
    → IsReach Whole tokens (min n m)
reach_lesser n m before first second is up on cover =
    reach_begun (begun_lesser n m (begun_behind [] refl up first) (begun_behind before is on (begun second)))
    (λ f r equal whole. ⊎_elim (λ within. omega (arith, within)) (λ part. omega (arith, second.furthest part.0 r part.1 part.2)) (cover f r equal whole))

-- the longest prefix leaves one number of tokens
pub reach_one : {Begins : List Kind → Type 0} {tokens : List Kind} {n m : ℕ} → IsReach Begins tokens n → IsReach Begins tokens m → n ≡ m
reach_one first second =
    omega (arith, first.furthest second.prefix second.rest second.cut second.begins, second.furthest first.prefix first.rest first.cut first.begins, first.count, second.count)
