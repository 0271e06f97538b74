-- Cuts of a list of tokens, and walks along it that look for the first index with a property.
use Rattle.std.proofs.Common.{◌≡◌, ◌≤◌, ◌<◌, ◌+◌, ◌-◌, ℕ, List, [], ◌∷◌, ◌++◌, length, get_or, take, drop, ◌⊎◌, ⊎_elim, refl, sym, ap, subst, ◌∙◌, arith}
use Rattle.std.proofs.lemmas.List.{append_assoc, append-nil, length-append, length-map, length_push, take_all}
use Rattle.std.proofs.lemmas.Bool.{cases_order}
use Rattle.prism_syntax.specs.declared.tokens.Kind.{Kind}
use Rattle.prism_syntax.specs.declared.tokens.Token.{Token}
use Rattle.prism_syntax.specs.Tokens.{kinds}
use Rattle.prism_limits.specs.Places.{StandsAt, IsFirst}

-- two cuts of one list with fronts of one length are one cut
pub same_cut : {X : Type 0} (a b x y : List X) → a ++ x ≡ b ++ y → length a ≡ length b → (a ≡ b) × (x ≡ y)
same_cut [] [] x y same long = (refl, same)
same_cut [] (v ∷ vs) x y same long = absurd (omega arith)
same_cut (u ∷ us) [] x y same long = absurd (omega arith)
same_cut (u ∷ us) (v ∷ vs) x y same long =
    let first : u ≡ v = cc in
    let others : us ++ x ≡ vs ++ y = cc in
    let rest = same_cut us vs x y others (omega arith) in
    let front : us ≡ vs = rest.0 in
    (cc, rest.1)

-- the tokens before a place and those from it on, and the index of the place
pub record Cuts (tokens before rest : List Kind) (index : ℕ) : Type 0 where
  pub cut : tokens ≡ before ++ rest
  pub count : length before ≡ index

-- the place before all tokens
pub cuts_start : (tokens : List Kind) → Cuts tokens [] tokens 0
cuts_start tokens = record { cut = refl; count = refl }

-- the place after one more token
pub cuts_next : {tokens before rest : List Kind} {token : Kind} {index : ℕ} → Cuts tokens before (token ∷ rest) index → Cuts tokens (before ++ (token ∷ [])) rest (index + 1)
cuts_next {before = before} {rest = rest} {token = token} c = record {
  cut = c.cut ∙ sym (append_assoc before (token ∷ []) rest);
  count = length_push before token ∙ ap (λ n. n + 1) c.count;
}

-- the token after a place stands there
pub cuts_stands : {tokens before rest : List Kind} {token : Kind} {index : ℕ} → Cuts tokens before (token ∷ rest) index → StandsAt tokens index before token rest
cuts_stands c = record { cut = c.cut; count = c.count }

-- one token stands at a index, after the same tokens and before the same tokens
pub record SameStand (before rest : List Kind) (token : Kind) (front after : List Kind) (other : Kind) : Type 0 where
  pub before_same : before ≡ front
  pub token_same : token ≡ other
  pub rest_same : rest ≡ after

pub cuts_same : {tokens before rest front after : List Kind} {token other : Kind} {index : ℕ} → Cuts tokens before (token ∷ rest) index → StandsAt tokens index front other after → SameStand before rest token front after other
cuts_same {before = before} {rest = rest} {front = front} {after = after} {token = token} {other = other} c s =
    let both = same_cut before front (token ∷ rest) (other ∷ after) (sym c.cut ∙ s.cut) (c.count ∙ sym s.count) in
    let tails : token ∷ rest ≡ other ∷ after = both.1 in
    record { before_same = both.0; token_same = cc; rest_same = cc }

-- a token stands before the end
pub stands_within : {tokens front after : List Kind} {other : Kind} {index : ℕ} → StandsAt tokens index front other after → index < length tokens
stands_within {tokens = tokens} {front = front} {after = after} {other = other} {index = index} s =
    let all : length tokens ≡ length (front ++ (other ∷ after)) = ap length s.cut in
    let parts : length (front ++ (other ∷ after)) ≡ length front + length (other ∷ after) = length-append front (other ∷ after) in
    let count : length front ≡ index = s.count in
    omega arith

-- the end of all tokens
pub cuts_end : {tokens before : List Kind} {index : ℕ} → Cuts tokens before [] index → index ≡ length tokens
cuts_end {tokens = tokens} {before = before} {index = index} c =
    let all : length tokens ≡ length (before ++ []) = ap length c.cut in
    let same : length (before ++ []) ≡ length before = ap length (append-nil before) in
    let count : length before ≡ index = c.count in
    omega arith

-- the place is within the tokens
pub cuts_within : {tokens before rest : List Kind} {index : ℕ} → Cuts tokens before rest index → index + length rest ≡ length tokens
cuts_within {tokens = tokens} {before = before} {rest = rest} {index = index} c =
    let all : length tokens ≡ length (before ++ rest) = ap length c.cut in
    let parts : length (before ++ rest) ≡ length before + length rest = length-append before rest in
    let count : length before ≡ index = c.count in
    omega arith

-- a walk that has come to a place: what is known of the tokens before it, and that no index before it has the property
pub record Walks (Known : List Kind → Type 0) (Has : ℕ → Type 0) (tokens rest : List Kind) (index : ℕ) : Type 0 where
  pub before : List Kind
  pub cuts : Cuts tokens before rest index
  pub known : Known before
  pub none : (other : ℕ) → other < index → Has other → ⊥

-- a property has at most one first index
pub same_first : {Has : ℕ → Type 0} (a b : ℕ) → IsFirst Has a → IsFirst Has b → a ≡ b
same_first a b first second =
    ⊎_elim (λ (same : a ≡ b). same)
    (λ (order : (a < b) ⊎ (b < a)). ⊎_elim (λ (below : a < b). absurd (second.least a below first.has)) (λ (above : b < a). absurd (first.least b above second.has)) order)
    (cases_order a b)

-- a index below the next one is below this one, or it is this one
pub below_next : (P : ℕ → Type 0) (index : ℕ) → ((other : ℕ) → other < index → P other) → P index → (other : ℕ) → other < index + 1 → P other
below_next P index below here other less =
    ⊎_elim (λ (same : other ≡ index). subst P (sym same) here)
    (λ (order : (other < index) ⊎ (index < other)). ⊎_elim (λ (before : other < index). below other before) (λ (beyond : index < other). absurd (omega arith)) order)
    (cases_order other index)

-- a walk that has come to a token is within the tokens
pub walk_within : {Known : List Kind → Type 0} {Has : ℕ → Type 0} {tokens rest : List Kind} {token : Kind} {index : ℕ} → Walks Known Has tokens (token ∷ rest) index → index < length tokens
walk_within w = stands_within (cuts_stands w.cuts)

-- tokens with a first one are this one and the others
pub first_and_others : (tokens : List Token) (token : Token) (all : ℕ) → 1 ≤ length tokens → token ≡ get_or tokens 0 token → all ≡ length tokens → kinds tokens ≡ token.kind ∷ kinds (take (all - 1) (drop 1 tokens))
first_and_others [] token all some is count = absurd (omega arith)
first_and_others (t ∷ ts) token all some is count =
    let whole : take (all - 1) ts ≡ ts = take_all (all - 1) ts (omega arith) in
    let same : token ≡ t = is in
    let first : t.kind ≡ token.kind = ap (λ (u : Token). u.kind) (sym same) in
    let rest : kinds ts ≡ kinds (take (all - 1) ts) = ap kinds (sym whole) in
    cc

-- as many kinds as tokens
pub length-kinds : (tokens : List Token) → length (kinds tokens) ≡ length tokens
length-kinds tokens = length-map tokens (λ t. t.kind)

-- a walk over the kinds of tokens that has come to a token is within the tokens
pub walk_below : {Known : List Kind → Type 0} {Has : ℕ → Type 0} {rest : List Kind} {token : Kind} {index : ℕ} (tokens : List Token) → Walks Known Has (kinds tokens) (token ∷ rest) index → index < length tokens
walk_below tokens walk =
    let within = walk_within walk in
    let same = length-kinds tokens in
    omega arith

-- no tokens are left where fewer than one are
pub none_left : (tokens : List Token) → length tokens < 1 → [] ≡ kinds tokens
none_left [] few = refl
none_left (t ∷ ts) few = absurd (omega arith)

-- the walk goes on past a token that does not have the property
pub walk_next : {Known Next : List Kind → Type 0} {Has : ℕ → Type 0} {tokens rest : List Kind} {token : Kind} {index : ℕ} (walk : Walks Known Has tokens (token ∷ rest) index)
    → (Has index → ⊥) → Next (walk.before ++ (token ∷ [])) → Walks Next Has tokens rest (index + 1)
walk_next {Has = Has} {token = token} {index = index} walk not_here known = record {
  before = walk.before ++ (token ∷ []);
  cuts = cuts_next walk.cuts;
  known = known;
  none = below_next (λ i. Has i → ⊥) index walk.none not_here;
}

-- the walk has come to a token that has the property
pub walk_found : {Known : List Kind → Type 0} {Has : ℕ → Type 0} {tokens rest : List Kind} {index : ℕ} → Walks Known Has tokens rest index → Has index → IsFirst Has index
walk_found walk has = record { has = has; least = walk.none }

-- the walk has come to the end, and what has the property stands before it
pub walk_none : {Known : List Kind → Type 0} {Has : ℕ → Type 0} {tokens : List Kind} {index : ℕ} → Walks Known Has tokens [] index
    → ((other : ℕ) → Has other → other < length tokens) → (other : ℕ) → Has other → ⊥
walk_none walk within other has =
    let end = cuts_end walk.cuts in
    let below = within other has in
    walk.none other (omega arith) has
