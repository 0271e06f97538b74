-- Where a rewards block is open, and arrows that stand outside each.
use Rattle.std.proofs.Common.{◌≡◌, true, List, [], ◌∷◌, ◌++◌, refl, sym, ap, ◌∙◌, subst}
use Rattle.std.specs.Prelude.{All}
use Rattle.std.proofs.lemmas.List.{append_assoc}
use Rattle.std.proofs.lemmas.List.Elements.{All-nil, All-cons, All-head, All-tail}
use Rattle.prism_syntax.specs.declared.tokens.Kind.{Kind}
use Rattle.prism_syntax.specs.declared.tokens.Kind.TheVariants as k
use Rattle.prism_syntax.specs.Models.{IsRewards}
use Rattle.prism_syntax.specs.Models as line
use Rattle.prism_expression.proofs.FormedLemmas.{all_rest}
use Rattle.prism_expression.proofs.RankLemmas.{false_true}
use Rattle.prism_expression.proofs.TwoTextLemmas.{heads, tails}
use Rattle.prism_limits.specs.Words.{EndsInRewards}
use Rattle.prism_limits.proofs.ArrowPlaceLemmas.{no_arrow}
use Rattle.prism_limits.proofs.OthersLemmas.{is_other, are_others, first_passes, second_passes}

-- a token that does not end a block
abbrev GoesOn : Kind → Type 0
GoesOn t = t ≡ k.EndRewards → ⊥

-- a rewards block that is open after a token and some more is open after those, where the token does not begin it
ends_later : (t : Kind) (ts before inside : List Kind) → is_other t ≡ true → t ∷ ts ≡ before ++ (k.Rewards ∷ inside) → All GoesOn inside → EndsInRewards ts
ends_later t ts [] inside other cut unended = absurd (false_true (ap is_other (sym (heads cut)) ∙ other))
ends_later t ts (u ∷ before) inside other cut unended = record { before = before; inside = inside; cut = tails cut; unended = unended }

-- a rewards block that is open after tokens without the word and some more is open after those
pub ends_after_others : (a b : List Kind) → are_others a ≡ true → EndsInRewards (a ++ b) → EndsInRewards b
ends_after_others [] b others ends = ends
ends_after_others (t ∷ a) b others ends =
    let later = ends_later t (a ++ b) ends.before ends.inside (first_passes (is_other t) (are_others a) others) ends.cut ends.unended in
    ends_after_others a b (second_passes (is_other t) (are_others a) others) later

-- a rewards block that is open after the word `endrewards` and some more begins in those
ends_after : (a b before inside : List Kind) → a ++ (k.EndRewards ∷ b) ≡ before ++ (k.Rewards ∷ inside) → All GoesOn inside → EndsInRewards b
ends_after [] b before inside cut unended = ends_later k.EndRewards b before inside refl cut unended
ends_after (t ∷ a) b [] inside cut unended =
    let none = all_rest GoesOn a (k.EndRewards ∷ b) (subst (All GoesOn) (sym (tails cut)) unended) in
    absurd (All-head GoesOn k.EndRewards b none refl)
ends_after (t ∷ a) b (u ∷ before) inside cut unended = ends_after a b before inside (tails cut) unended

-- a rewards block that is open after another one and some more is open after those
pub ends_after_block : {a : List Kind} (b : List Kind) → IsRewards a → EndsInRewards (a ++ b) → EndsInRewards b
ends_after_block b (line.rewards a none) ends =
    ends_after (k.Rewards ∷ a) b ends.before ends.inside (sym (ap (λ z. k.Rewards ∷ z) (append_assoc a (k.EndRewards ∷ []) b)) ∙ ends.cut) ends.unended

-- one that is open after tokens is open after these with one more before them
ends_more : (t : Kind) (ts : List Kind) → EndsInRewards ts → EndsInRewards (t ∷ ts)
ends_more t ts ends = record { before = t ∷ ends.before; inside = ends.inside; cut = ap (λ z. t ∷ z) ends.cut; unended = ends.unended }

-- an arrow stands in the tokens, outside each rewards block, and the rest of them after it
pub record HasArrowOutside (tokens rest : List Kind) : Type 0 where
  pub before : List Kind
  pub cut : tokens ≡ before ++ (k.Implies ∷ rest)
  pub outside : EndsInRewards before → ⊥

-- it stands in the tokens after one that is no arrow
pub outside_tail : {t : Kind} {ts rest : List Kind} → (t ≡ k.Implies → ⊥) → HasArrowOutside (t ∷ ts) rest → HasArrowOutside ts rest
outside_tail {t = t} {ts = ts} {rest = rest} other arrow = tail arrow.before arrow.cut arrow.outside
  where
    tail : (before : List Kind) → t ∷ ts ≡ before ++ (k.Implies ∷ rest) → (EndsInRewards before → ⊥) → HasArrowOutside ts rest
    tail [] cut outside = absurd (other (heads cut))
    tail (u ∷ before) cut outside = record { before = before; cut = tails cut; outside = λ ends. outside (ends_more u before ends) }

-- the first of two parts goes on past an arrow, or the arrow stands in the second
data Parted (a b before rest : List Kind) : Type 0 where
  front : (inner : List Kind) → a ≡ before ++ (k.Implies ∷ inner) → rest ≡ inner ++ b → Parted a b before rest
  back : (more : List Kind) → before ≡ a ++ more → b ≡ more ++ (k.Implies ∷ rest) → Parted a b before rest

parted_cons : (t u : Kind) (a b before rest : List Kind) → t ≡ u → Parted a b before rest → Parted (t ∷ a) b (u ∷ before) rest
parted_cons t u a b before rest same (front inner cut is) = front inner (ap (λ v. v ∷ a) same ∙ ap (λ z. u ∷ z) cut) is
parted_cons t u a b before rest same (back more cut is) = back more (ap (λ v. v ∷ before) (sym same) ∙ ap (λ z. t ∷ z) cut) is

parted : (a b before rest : List Kind) → a ++ b ≡ before ++ (k.Implies ∷ rest) → Parted a b before rest
parted [] b before rest cut = back before refl cut
parted (t ∷ a) b [] rest cut = front a (ap (λ u. u ∷ a) (heads cut)) (sym (tails cut))
parted (t ∷ a) b (u ∷ before) rest cut = parted_cons t u a b before rest (heads cut) (parted a b before rest (tails cut))

-- a block that is open after tokens is open after these with others before them
ends_behind : (a b : List Kind) → EndsInRewards b → EndsInRewards (a ++ b)
ends_behind [] b ends = ends
ends_behind (t ∷ a) b ends = ends_more t (a ++ b) (ends_behind a b ends)

-- an arrow of two parts stands outside in the first, or in the second
pub data StandsOutside (a b rest : List Kind) : Type 0 where
  in_front : (inner : List Kind) → HasArrowOutside a inner → rest ≡ inner ++ b → StandsOutside a b rest
  in_back : HasArrowOutside b rest → StandsOutside a b rest

pub outside_parts : (a b : List Kind) {rest : List Kind} → HasArrowOutside (a ++ b) rest → StandsOutside a b rest
outside_parts a b {rest} arrow = stands (parted a b arrow.before rest arrow.cut)
  where
    stands : Parted a b arrow.before rest → StandsOutside a b rest
    stands (front inner cut is) = in_front inner (record { before = arrow.before; cut = cut; outside = arrow.outside }) is
    stands (back more cut is) = in_back (record { before = more; cut = is; outside = λ ends. arrow.outside (subst EndsInRewards (sym cut) (ends_behind a more ends)) })

-- no arrow stands outside in a rewards block
unended_front : (a before rest : List Kind) → a ++ (k.EndRewards ∷ []) ≡ before ++ (k.Implies ∷ rest) → All GoesOn a → All GoesOn before
unended_front a [] rest cut unended = All-nil GoesOn
unended_front [] (u ∷ before) rest cut unended = absurd (no_arrow rest (before, tails cut))
unended_front (t ∷ a) (u ∷ before) rest cut unended =
    All-cons GoesOn u before (subst GoesOn (heads cut) (All-head GoesOn t a unended)) (unended_front a before rest (tails cut) (All-tail GoesOn t a unended))

pub block_covers : {a rest : List Kind} → IsRewards a → HasArrowOutside a rest → ⊥
block_covers {rest = rest} (line.rewards a none) arrow = covers arrow.before arrow.cut arrow.outside
  where
    covers : (before : List Kind) → k.Rewards ∷ (a ++ (k.EndRewards ∷ [])) ≡ before ++ (k.Implies ∷ rest) → (EndsInRewards before → ⊥) → ⊥
    covers [] cut outside = let never : k.Rewards ≡ k.Implies = heads cut in cc
    covers (u ∷ before) cut outside =
        outside (record { before = []; inside = before; cut = ap (λ t. t ∷ before) (sym (heads cut)); unended = unended_front a before rest (tails cut) none })
