-- A text of one rule or of another: what is found, and what is missing.
use Rattle.std.proofs.Common.{◌≡◌, ◌⊎◌, inl, inr, ⊎_elim, ℕ, ◌≤◌, List, [], ◌∷◌, ◌++◌, length, refl, sym, ap, subst, arith, length-append}
use Rattle.std.proofs.lemmas.List.{length-map}
use Rattle.prism_syntax.specs.declared.tokens.Kind.{Kind}
use Rattle.prism_syntax.specs.declared.tokens.Token.{Token}
use Rattle.prism_syntax.specs.Tokens.{kinds}
use Rattle.prism_reading.specs.Reach.{IsPrefix, IsReach}
use Rattle.prism_reading.specs.Reading.{Parses, Fails}
use Rattle.prism_reading.specs.Sequences.{OneOf, first, second}
use Rattle.prism_reading.proofs.DefiniteLemmas.{IsDefinite, HasText, Starts, found, reach_within}

-- tokens that begin one of two rules
either_of : {X Y : Type 0} {A : List Kind → X → Type 0} {B : List Kind → Y → Type 0} (p more l : List Kind) (z : X ⊎ Y)
    → OneOf A B l z → l ≡ p ++ more → IsPrefix A p ⊎ IsPrefix B p
either_of {A} p more _ _ (first {x} text) equal = inl (record { more = more; tree = x; text = subst (λ l. A l x) equal text })
either_of {B} p more _ _ (second {y} text) equal = inr (record { more = more; tree = y; text = subst (λ l. B l y) equal text })

pub either : {X Y : Type 0} {A : List Kind → X → Type 0} {B : List Kind → Y → Type 0} (p : List Kind) → IsPrefix (OneOf A B) p → IsPrefix A p ⊎ IsPrefix B p
either p begins = either_of p begins.more (p ++ begins.more) begins.tree begins.text refl

pub first_begins : {X Y : Type 0} {A : List Kind → X → Type 0} {B : List Kind → Y → Type 0} {p : List Kind} → IsPrefix A p → IsPrefix (OneOf A B) p
first_begins begins = record { more = begins.more; tree = inl begins.tree; text = first begins.text }

pub second_begins : {X Y : Type 0} {A : List Kind → X → Type 0} {B : List Kind → Y → Type 0} {p : List Kind} → IsPrefix B p → IsPrefix (OneOf A B) p
second_begins begins = record { more = begins.more; tree = inr begins.tree; text = second begins.text }

-- no text of the one stands where a text of the other does, nor does a longer prefix begin one
pub record Apart {X Y : Type 0} (A : List Kind → X → Type 0) (B : List Kind → Y → Type 0) (Follows : List Kind → Type 0) : Type 0 where
  pub never : (a b r s : List Kind) (x : X) (y : Y) → A a x → B b y → Follows r → Follows s → a ++ r ≡ b ++ s → ⊥
  pub second_stops : (a r p after : List Kind) (x : X) → A a x → Follows r → a ++ r ≡ p ++ after → IsPrefix B p → length r ≤ length after
  pub first_stops : (b r p after : List Kind) (y : Y) → B b y → Follows r → b ++ r ≡ p ++ after → IsPrefix A p → length r ≤ length after

never_by : {X Y : Type 0} {A : List Kind → X → Type 0} {B : List Kind → Y → Type 0} {P Q : Kind → Type 0} (a b r s : List Kind) (x : X) (y : Y)
    → Starts A P → Starts B Q → ((t : Kind) → P t → Q t → ⊥) → A a x → B b y → a ++ r ≡ b ++ s → ⊥
never_by [] b r s x y one two differ f g equal = one.some x f
never_by (t ∷ a) [] r s x y one two differ f g equal = two.some y g
never_by {Q} (t ∷ a) (u ∷ b) r s x y one two differ f g equal =
    let same : u ≡ t = cc in
    differ t (one.first t a x f) (subst Q same (two.first u b y g))

stops_by : {X Y : Type 0} {A : List Kind → X → Type 0} {B : List Kind → Y → Type 0} {P Q : Kind → Type 0} (a r p after : List Kind) (x : X)
    → Starts A P → Starts B Q → ((t : Kind) → P t → Q t → ⊥) → A a x → a ++ r ≡ p ++ after → IsPrefix B p → length r ≤ length after
stops_by [] r p after x one two differ f equal begins = absurd (one.some x f)
stops_by (t ∷ a) r [] after x one two differ f equal begins = omega (arith, ap length equal, length-append a r)
stops_by {Q} (t ∷ a) r (u ∷ p) after x one two differ f equal begins =
    let same : u ≡ t = cc in
    absurd (differ t (one.first t a x f) (subst Q same (two.first u (p ++ begins.more) begins.tree begins.text)))

-- where the first token tells them apart
pub starts_apart : {X Y : Type 0} {A : List Kind → X → Type 0} {B : List Kind → Y → Type 0} {P Q : Kind → Type 0} {Follows : List Kind → Type 0}
    → Starts A P → Starts B Q → ((t : Kind) → P t → Q t → ⊥) → Apart A B Follows
starts_apart one two differ = record {
  never = λ a b r s x y f g here there equal. never_by a b r s x y one two differ f g equal;
  second_stops = λ a r p after x f follows equal begins. stops_by a r p after x one two differ f equal begins;
  first_stops = λ b r p after y g follows equal begins. stops_by b r p after y two one (λ t q p. differ t p q) g equal begins;
}

one_agree : {X Y : Type 0} {A : List Kind → X → Type 0} {B : List Kind → Y → Type 0} {Follows : List Kind → Type 0} (a b r s : List Kind) (x y : X ⊎ Y)
    → IsDefinite A Follows → IsDefinite B Follows → Apart A B Follows → OneOf A B a x → OneOf A B b y → Follows r → Follows s → a ++ r ≡ b ++ s → (r ≡ s) × (x ≡ y)
one_agree a b r s _ _ one two apart (first {x} f) (first {x = y} g) here there equal =
    let same = one.agrees a b r s x y f g here there equal in
    (same.0, ap (λ z. inl z) same.1)
one_agree a b r s _ _ one two apart (first {x} f) (second {y} g) here there equal = absurd (apart.never a b r s x y f g here there equal)
one_agree a b r s _ _ one two apart (second {y} f) (first {x} g) here there equal = absurd (apart.never b a s r x y g f there here (sym equal))
one_agree a b r s _ _ one two apart (second {y = x} f) (second {y} g) here there equal =
    let same = two.agrees a b r s x y f g here there equal in
    (same.0, ap (λ z. inr z) same.1)

one_stop : {X Y : Type 0} {A : List Kind → X → Type 0} {B : List Kind → Y → Type 0} {Follows : List Kind → Type 0} (a r p after : List Kind) (z : X ⊎ Y)
    → IsDefinite A Follows → IsDefinite B Follows → Apart A B Follows → OneOf A B a z → Follows r → a ++ r ≡ p ++ after → IsPrefix A p ⊎ IsPrefix B p → length r ≤ length after
one_stop a r p after _ one two apart (first {x} f) follows equal (inl begins) = one.stops a r p after x f follows equal begins
one_stop a r p after _ one two apart (first {x} f) follows equal (inr begins) = apart.second_stops a r p after x f follows equal begins
one_stop a r p after _ one two apart (second {y} f) follows equal (inl begins) = apart.first_stops a r p after y f follows equal begins
one_stop a r p after _ one two apart (second {y} f) follows equal (inr begins) = two.stops a r p after y f follows equal begins

pub one_of_definite : {X Y : Type 0} {A : List Kind → X → Type 0} {B : List Kind → Y → Type 0} {Follows : List Kind → Type 0}
    → IsDefinite A Follows → IsDefinite B Follows → Apart A B Follows → IsDefinite (OneOf A B) Follows
one_of_definite one two apart = record {
  agrees = λ a b r s x y f g here there equal. one_agree a b r s x y one two apart f g here there equal;
  stops = λ a r p after z text follows equal begins. one_stop a r p after z one two apart text follows equal (either p begins);
}

pub first_has : {X Y : Type 0} {A : List Kind → X → Type 0} {B : List Kind → Y → Type 0} → HasText A → HasText (OneOf A B)
first_has has = record { tokens = has.tokens; tree = inl has.tree; text = first has.text }

one_some : {X Y : Type 0} {A : List Kind → X → Type 0} {B : List Kind → Y → Type 0} {P Q : Kind → Type 0} (z : X ⊎ Y) → Starts A P → Starts B Q → OneOf A B [] z → ⊥
one_some _ one two (first {x} f) = one.some x f
one_some _ one two (second {y} f) = two.some y f

one_first : {X Y : Type 0} {A : List Kind → X → Type 0} {B : List Kind → Y → Type 0} {P Q : Kind → Type 0} (t : Kind) (a : List Kind) (z : X ⊎ Y)
    → Starts A P → Starts B Q → OneOf A B (t ∷ a) z → P t ⊎ Q t
one_first t a _ one two (first {x} f) = inl (one.first t a x f)
one_first t a _ one two (second {y} f) = inr (two.first t a y f)

pub one_of_starts : {X Y : Type 0} {A : List Kind → X → Type 0} {B : List Kind → Y → Type 0} {P Q : Kind → Type 0}
    → Starts A P → Starts B Q → Starts (OneOf A B) (λ t. P t ⊎ Q t)
one_of_starts one two = record {
  some = λ z text. one_some z one two text;
  first = λ t a z text. one_first t a z one two text;
}

-- a text of the first is found
pub first_found : {X Y : Type 0} {A : List Kind → X → Type 0} {B : List Kind → Y → Type 0} {Follows : List Kind → Type 0} {ts rest : List Token} {x : X} {left : ℕ}
    → IsDefinite (OneOf A B) Follows → Parses A Follows ts x rest left → Parses (OneOf A B) Follows ts (inl x) rest (length rest)
first_found {ts} {rest} {x} definite one = found ts one.prefix rest (inl x) definite one.cut (first one.text) one.follows

pub second_found : {X Y : Type 0} {A : List Kind → X → Type 0} {B : List Kind → Y → Type 0} {Follows : List Kind → Type 0} {ts rest : List Token} {y : Y} {left : ℕ}
    → IsDefinite (OneOf A B) Follows → Parses B Follows ts y rest left → Parses (OneOf A B) Follows ts (inr y) rest (length rest)
second_found {ts} {rest} {y} definite one = found ts one.prefix rest (inr y) definite one.cut (second one.text) one.follows

none_of_both : {X Y : Type 0} {A : List Kind → X → Type 0} {B : List Kind → Y → Type 0} {Follows : List Kind → Type 0} (ts p rest : List Kind) (z : X ⊎ Y)
    → ((p q : List Kind) (x : X) → ts ≡ p ++ q → A p x → Follows q → ⊥) → ((p q : List Kind) (y : Y) → ts ≡ p ++ q → B p y → Follows q → ⊥)
    → ts ≡ p ++ rest → OneOf A B p z → Follows rest → ⊥
none_of_both ts p rest _ one two cut (first {x} f) follows = one p rest x cut f follows
none_of_both ts p rest _ one two cut (second {y} f) follows = two p rest y cut f follows

least_of_both : {X Y : Type 0} {A : List Kind → X → Type 0} {B : List Kind → Y → Type 0} (ts p rest : List Kind) (left other : ℕ)
    → IsReach (IsPrefix A) ts left → IsReach (IsPrefix B) ts other → left ≤ other → ts ≡ p ++ rest → IsPrefix A p ⊎ IsPrefix B p → left ≤ length rest
least_of_both ts p rest left other one two less cut (inl begins) = one.furthest p rest cut begins
least_of_both ts p rest left other one two less cut (inr begins) = let least = two.furthest p rest cut begins in omega (arith, least)

-- where both are missing, one of them is, from the later of their first wrong tokens on
pub first_lacks : {X Y : Type 0} {A : List Kind → X → Type 0} {B : List Kind → Y → Type 0} {Follows : List Kind → Type 0} {ts : List Token} {left other : ℕ}
    → Fails A Follows ts left → Fails B Follows ts other → left ≤ other → Fails (OneOf A B) Follows ts left
first_lacks {ts} {left} {other} one two less = record {
  none = λ p rest z cut text follows. none_of_both (kinds ts) p rest z one.none two.none cut text follows;
  reach = record {
    prefix = one.reach.prefix;
    rest = one.reach.rest;
    cut = one.reach.cut;
    count = one.reach.count;
    begins = first_begins one.reach.begins;
    furthest = λ p rest cut begins. least_of_both (kinds ts) p rest left other one.reach two.reach less cut (either p begins);
  };
}

swap : {S T : Type 0} → S ⊎ T → T ⊎ S
swap (inl s) = inr s
swap (inr t) = inl t

pub second_lacks : {X Y : Type 0} {A : List Kind → X → Type 0} {B : List Kind → Y → Type 0} {Follows : List Kind → Type 0} {ts : List Token} {left other : ℕ}
    → Fails A Follows ts other → Fails B Follows ts left → left ≤ other → Fails (OneOf A B) Follows ts left
second_lacks {ts} {left} {other} one two less = record {
  none = λ p rest z cut text follows. none_of_both (kinds ts) p rest z one.none two.none cut text follows;
  reach = record {
    prefix = two.reach.prefix;
    rest = two.reach.rest;
    cut = two.reach.cut;
    count = two.reach.count;
    begins = second_begins two.reach.begins;
    furthest = λ p rest cut begins. least_of_both (kinds ts) p rest left other two.reach one.reach less cut (swap (either p begins));
  };
}

missing_within : {X : Type 0} {A : List Kind → X → Type 0} {Follows : List Kind → Type 0} {ts : List Token} {left : ℕ} → Fails A Follows ts left → left ≤ length ts
missing_within {ts} fails = omega (arith, reach_within fails.reach, length-map ts (λ t. t.kind))

-- where the first token is wrong for the other rule
pub first_alone : {X Y : Type 0} {A : List Kind → X → Type 0} {B : List Kind → Y → Type 0} {Follows : List Kind → Type 0} {ts : List Token} {left : ℕ}
    → Fails A Follows ts left → Fails B Follows ts (length ts) → Fails (OneOf A B) Follows ts left
first_alone one two = first_lacks one two (missing_within one)

pub second_alone : {X Y : Type 0} {A : List Kind → X → Type 0} {B : List Kind → Y → Type 0} {Follows : List Kind → Type 0} {ts : List Token} {left : ℕ}
    → Fails A Follows ts (length ts) → Fails B Follows ts left → Fails (OneOf A B) Follows ts left
second_alone one two = second_lacks one two (missing_within two)

-- where the tokens that begin the other rule begin the first, and no text of the other is there
pub first_chosen : {X Y : Type 0} {A : List Kind → X → Type 0} {B : List Kind → Y → Type 0} {Follows : List Kind → Type 0} {ts : List Token} {left : ℕ}
    → ((p rest : List Kind) (y : Y) → kinds ts ≡ p ++ rest → B p y → ⊥) → ((p rest : List Kind) → kinds ts ≡ p ++ rest → IsPrefix B p → IsPrefix A p)
    → Fails A Follows ts left → Fails (OneOf A B) Follows ts left
first_chosen {ts} {left} no_text begins fails = record {
  none = λ p rest z cut text follows. none_of_both (kinds ts) p rest z fails.none (λ q after y equal other _. no_text q after y equal other) cut text follows;
  reach = record {
    prefix = fails.reach.prefix;
    rest = fails.reach.rest;
    cut = fails.reach.cut;
    count = fails.reach.count;
    begins = first_begins fails.reach.begins;
    furthest = λ p rest cut whole. fails.reach.furthest p rest cut (⊎_elim (λ one. one) (λ other. begins p rest cut other) (either p whole));
  };
}

pub second_chosen : {X Y : Type 0} {A : List Kind → X → Type 0} {B : List Kind → Y → Type 0} {Follows : List Kind → Type 0} {ts : List Token} {left : ℕ}
    → ((p rest : List Kind) (x : X) → kinds ts ≡ p ++ rest → A p x → ⊥) → ((p rest : List Kind) → kinds ts ≡ p ++ rest → IsPrefix A p → IsPrefix B p)
    → Fails B Follows ts left → Fails (OneOf A B) Follows ts left
second_chosen {ts} {left} no_text begins fails = record {
  none = λ p rest z cut text follows. none_of_both (kinds ts) p rest z (λ q after x equal other _. no_text q after x equal other) fails.none cut text follows;
  reach = record {
    prefix = fails.reach.prefix;
    rest = fails.reach.rest;
    cut = fails.reach.cut;
    count = fails.reach.count;
    begins = second_begins fails.reach.begins;
    furthest = λ p rest cut whole. fails.reach.furthest p rest cut (⊎_elim (λ other. begins p rest cut other) (λ one. one) (either p whole));
  };
}
