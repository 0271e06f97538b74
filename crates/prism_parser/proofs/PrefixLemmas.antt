-- The first later arrow of a prefix is that of all tokens.
use Rattle.std.proofs.Common.{◌≡◌, ℕ, ◌<◌, List, [], ◌∷◌, ◌++◌, length, ⊎_elim, sym, ◌∙◌, ap, arith}
use Rattle.std.proofs.lemmas.List.{append_assoc, append-nil, length-append}
use Rattle.prism_syntax.specs.declared.labels.Labels.{Labels}
use Rattle.prism_syntax.specs.declared.tokens.Kind.{Kind}
use Rattle.prism_syntax.specs.declared.tokens.Kind.TheVariants as k
use Rattle.prism_reading.proofs.ReachLemmas.{cut_twice}
use Rattle.prism_limits.specs.Places.{IsFirst}
use Rattle.prism_limits.specs.Arrows.{IsLaterArrow}

-- a later arrow of a prefix is one of all tokens
pub later_whole : {labels : Labels} {index : ℕ} (prefix rest : List Kind) → IsLaterArrow labels prefix index → IsLaterArrow labels (prefix ++ rest) index
later_whole prefix rest later = record {
  before = later.before;
  operand = later.operand;
  after = later.after ++ rest;
  tree = later.tree;
  cut =
      ap (λ ts. ts ++ rest) later.cut ∙ append_assoc later.before (k.Implies ∷ (later.operand ++ (k.Implies ∷ later.after))) rest
      ∙ ap (λ ts. later.before ++ (k.Implies ∷ ts)) (append_assoc later.operand (k.Implies ∷ later.after) rest);
  count = later.count;
  text = later.text;
  outside = later.outside;
}

-- the tokens up to a later arrow
abbrev up_to : List Kind → List Kind → List Kind
up_to before operand = before ++ (k.Implies ∷ (operand ++ (k.Implies ∷ [])))

-- what nothing is added to stays
nothing_over : (long short over : List Kind) → length over ≡ 0 → long ≡ short ++ over → short ≡ long
nothing_over long short [] none cut = sym (append-nil short) ∙ sym cut
nothing_over long short (t ∷ ts) none cut = absurd (omega arith)

-- where a prefix goes on after the tokens up to a later arrow, the arrow stands in it
within_prefix : {labels : Labels} {index : ℕ} {tokens : List Kind} (prefix after : List Kind) (later : IsLaterArrow labels tokens index) → prefix ≡ up_to later.before later.operand ++ after → IsLaterArrow labels prefix index
within_prefix prefix after later cut = record {
  before = later.before;
  operand = later.operand;
  after = after;
  tree = later.tree;
  cut = cut ∙ append_assoc later.before (k.Implies ∷ (later.operand ++ (k.Implies ∷ []))) after ∙ ap (λ ts. later.before ++ (k.Implies ∷ ts)) (append_assoc later.operand (k.Implies ∷ []) after);
  count = later.count;
  text = later.text;
  outside = later.outside;
}

-- a later arrow of all tokens that stands within a prefix is one of the prefix
pub later_within : {labels : Labels} {index : ℕ} (prefix rest : List Kind) → index < length prefix → IsLaterArrow labels (prefix ++ rest) index → IsLaterArrow labels prefix index
later_within {labels} {index} prefix rest within later =
    let front = up_to later.before later.operand in
    let whole : front ++ later.after ≡ prefix ++ rest =
    append_assoc later.before (k.Implies ∷ (later.operand ++ (k.Implies ∷ []))) later.after
    ∙ ap (λ ts. later.before ++ (k.Implies ∷ ts)) (append_assoc later.operand (k.Implies ∷ []) later.after) ∙ sym later.cut in
    let parts = length-append later.before (k.Implies ∷ (later.operand ++ (k.Implies ∷ []))) in
    let others = length-append later.operand (k.Implies ∷ []) in
    let count = later.count in
    ⊎_elim
    (λ (inside : (after : List Kind) × (prefix ≡ front ++ after)). within_prefix prefix inside.0 later inside.1)
    (λ (beyond : (over : List Kind) × (front ≡ prefix ++ over) × (rest ≡ over ++ later.after)).
    let size : length front ≡ length (prefix ++ beyond.0) = ap length beyond.1 in
    let sum = length-append prefix beyond.0 in
    within_prefix prefix [] later (nothing_over front prefix beyond.0 (omega arith) beyond.1 ∙ sym (append-nil front)))
    (cut_twice front later.after prefix rest whole)

-- a later arrow stands among its tokens
pub among : {labels : Labels} {tokens : List Kind} {index : ℕ} → IsLaterArrow labels tokens index → index < length tokens
among {tokens = tokens} later =
    let all : length tokens ≡ length (later.before ++ (k.Implies ∷ (later.operand ++ (k.Implies ∷ later.after)))) = ap length later.cut in
    let parts = length-append later.before (k.Implies ∷ (later.operand ++ (k.Implies ∷ later.after))) in
    let others = length-append later.operand (k.Implies ∷ later.after) in
    let count = later.count in
    omega arith

-- so the first of a prefix is the first of all
pub first_whole : {labels : Labels} {index : ℕ} (prefix rest : List Kind) → IsFirst (IsLaterArrow labels prefix) index → IsFirst (IsLaterArrow labels (prefix ++ rest)) index
first_whole prefix rest first = record {
  has = later_whole prefix rest first.has;
  least = λ other below later. let within = among first.has in first.least other below (later_within prefix rest (omega arith) later);
}
