-- Tokens up to the first `endrewards`.
use Rattle.std.proofs.Common.{◌≡◌, ◌<◌, List, [], ◌∷◌, ◌++◌, length, All, refl, sym, ◌∙◌, ap, subst, arith, append-nil, append_assoc}
use Rattle.std.proofs.lemmas.List.{map-append}
use Rattle.std.proofs.lemmas.List.Elements.{All-nil, All-cons, All-head, All-tail, All-append}
use Rattle.prism_syntax.specs.declared.tokens.Kind.{Kind}
use Rattle.prism_syntax.specs.declared.tokens.Kind.TheVariants as k
use Rattle.prism_syntax.specs.declared.tokens.Token.{Token}
use Rattle.prism_syntax.specs.Tokens.{kinds}
use Rattle.prism_reading.specs.Reading.{Anything, Parses, Fails}
use Rattle.prism_reading.proofs.DefiniteLemmas.{IsDefinite, HasText, closed, found}
use Rattle.prism_reading.proofs.OverlapLemmas.{tails}
use Rattle.prism_model.specs.Parts.{EndsRewards, ends}

-- a token that ends no block
abbrev pub GoesOn : Kind → Type 0
GoesOn t = t ≡ k.EndRewards → ⊥

ends_agree : (a b r s : List Kind) → All GoesOn a → All GoesOn b
    → (a ++ (k.EndRewards ∷ [])) ++ r ≡ (b ++ (k.EndRewards ∷ [])) ++ s → r ≡ s
ends_agree [] [] r s one two equal = tails equal
ends_agree [] (t ∷ b) r s one two equal = absurd (All-head GoesOn t b two (cc))
ends_agree (t ∷ a) [] r s one two equal = absurd (All-head GoesOn t a one (cc))
ends_agree (t ∷ a) (u ∷ b) r s one two equal = ends_agree a b r s (All-tail GoesOn t a one) (All-tail GoesOn u b two) (tails equal)

both_agree : (a b r s : List Kind) (x y : Unit {0}) → EndsRewards a x → EndsRewards b y → a ++ r ≡ b ++ s → (r ≡ s) × (x ≡ y)
both_agree _ _ r s _ _ (ends a one) (ends b two) equal = (ends_agree a b r s one two equal, refl)

pub ends_definite : IsDefinite EndsRewards Anything
ends_definite = closed (λ a b r s x y first second _ _ equal. both_agree a b r s x y first second equal)

pub ends_has : HasText EndsRewards
ends_has = record { tokens = k.EndRewards ∷ []; tree = tt; text = ends [] (All-nil GoesOn) }

-- tokens that were passed over, none of which ends the block
pub record Passed (ts rest : List Token) : Type 0 where
  pub before : List Token
  pub cut : ts ≡ before ++ rest
  pub none : All GoesOn (kinds before)

pub passed_begun : (ts : List Token) → Passed ts ts
passed_begun ts = record { before = []; cut = refl; none = All-nil GoesOn }

pub passed_more : {ts rest after : List Token} (t : Token) → Passed ts rest → rest ≡ t ∷ after → (t.kind ≡ k.EndRewards → ⊥) → Passed ts after
passed_more {ts} {rest} {after} t passed cut other = record {
  before = passed.before ++ (t ∷ []);
  cut = passed.cut ∙ ap (λ l. passed.before ++ l) cut ∙ sym (append_assoc passed.before (t ∷ []) after);
  none = subst (All GoesOn) (sym (map-append (λ u. u.kind) passed.before (t ∷ [])))
      (All-append GoesOn (kinds passed.before) (t.kind ∷ []) passed.none (All-cons GoesOn t.kind [] other (All-nil GoesOn)));
}

-- the first end is found
pub end_found : {ts rest after : List Token} (t : Token) → Passed ts rest → rest ≡ t ∷ after → t.kind ≡ k.EndRewards → Parses EndsRewards Anything ts tt after (length after)
end_found {ts} {rest} {after} t passed cut is =
    let whole : ts ≡ (passed.before ++ (t ∷ [])) ++ after = passed.cut ∙ ap (λ l. passed.before ++ l) cut ∙ sym (append_assoc passed.before (t ∷ []) after) in
    let all : kinds passed.before ++ (k.EndRewards ∷ []) ≡ kinds (passed.before ++ (t ∷ [])) =
    ap (λ u. kinds passed.before ++ (u ∷ [])) (sym is) ∙ sym (map-append (λ u. u.kind) passed.before (t ∷ [])) in
    found ts (passed.before ++ (t ∷ [])) after tt ends_definite whole (subst (λ l. EndsRewards l tt) all (ends (kinds passed.before) passed.none)) tt

no_ends : (l p rest : List Kind) (x : Unit {0}) → All GoesOn l → l ≡ p ++ rest → EndsRewards p x → ⊥
no_ends [] _ rest _ none equal (ends [] one) = cc
no_ends [] _ rest _ none equal (ends (t ∷ a) one) = cc
no_ends (u ∷ l) _ rest _ none equal (ends [] one) = All-head GoesOn u l none (cc)
no_ends (u ∷ l) _ rest x none equal (ends (t ∷ a) one) = no_ends l (a ++ (k.EndRewards ∷ [])) rest tt (All-tail GoesOn u l none) (tails equal) (ends a (All-tail GoesOn t a one))

-- no `endrewards` is among the tokens: they all begin a block
pub ends_missing : (tokens : List Token) → All GoesOn (kinds tokens) → Fails EndsRewards Anything tokens 0
ends_missing tokens none = record {
  none = λ prefix after tree cut text follows. no_ends (kinds tokens) prefix after tree none cut text;
  reach = record {
    prefix = kinds tokens;
    rest = [];
    cut = sym (append-nil (kinds tokens));
    count = refl;
    begins = record { more = k.EndRewards ∷ []; tree = tt; text = ends (kinds tokens) none };
    furthest = λ other after cut begins. omega arith;
  };
}

-- nothing is left
pub end_missing : {ts rest : List Token} → Passed ts rest → length rest < 1 → Fails EndsRewards Anything ts 0
end_missing {ts} {rest = []} passed short = ends_missing ts (subst (λ l. All GoesOn (kinds l)) (sym (passed.cut ∙ append-nil passed.before)) passed.none)
end_missing {rest = t ∷ rest} passed short = absurd (omega arith)
