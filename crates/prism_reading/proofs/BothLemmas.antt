-- A text of one rule and then one of another: what is found of both, and what is missing where one of them is.
use Rattle.std.proofs.Common.{◌≡◌, ℕ, ◌≤◌, List, [], ◌∷◌, ◌++◌, length, refl, sym, ◌∙◌, ap, subst, arith, length-append, append_assoc, append-nil}
use Rattle.std.proofs.lemmas.List.{map-append}
use Rattle.prism_syntax.specs.declared.tokens.Kind.{Kind}
use Rattle.prism_syntax.specs.declared.tokens.Token.{Token}
use Rattle.prism_syntax.specs.Tokens.{kinds}
use Rattle.prism_reading.specs.Reach.{IsPrefix}
use Rattle.prism_reading.specs.Reading.{Parses, Fails}
use Rattle.prism_reading.specs.Sequences.{Both, both}
use Rattle.prism_reading.proofs.OverlapLemmas.{Overlap, within, beyond, overlap, regroup, cut_first}
use Rattle.prism_reading.proofs.DefiniteLemmas.{IsDefinite, HasText, Starts, Leads, found, kinds_cut, reach_within, text_begins}

-- tokens that begin both end inside the first, or inside the second after the first
pub data Ends {X Y : Type 0} (A : List Kind → X → Type 0) (B : List Kind → Y → Type 0) (p : List Kind) : Type 0 where
  in_first : IsPrefix A p → Ends A B p
  in_second : (a : List Kind) (x : X) (t : Kind) (m : List Kind) → p ≡ a ++ (t ∷ m) → A a x → IsPrefix B (t ∷ m) → Ends A B p

ends_by : {X Y : Type 0} {A : List Kind → X → Type 0} {B : List Kind → Y → Type 0} (p more a b : List Kind) (x : X) (y : Y)
    → A a x → B b y → Overlap p more a b → Ends A B p
ends_by {A} p more a b x y first second (within [] equal rest) =
    let same : a ≡ p = sym (equal ∙ append-nil a) in
    in_first (subst (λ l. IsPrefix A l) same (text_begins x first))
ends_by {B} p more a b x y first second (within (t ∷ m) equal rest) =
    in_second a x t m equal first (record { more = more; tree = y; text = subst (λ l. B l y) rest second })
ends_by {A} p more a b x y first second (beyond t m equal rest) =
    in_first (record { more = t ∷ m; tree = x; text = subst (λ l. A l x) equal first })

ends_of : {X Y : Type 0} {A : List Kind → X → Type 0} {B : List Kind → Y → Type 0} (p more l : List Kind) (z : X × Y) → Both A B l z → l ≡ p ++ more → Ends A B p
ends_of p more _ _ (both {a} {b} {x} {y} first second) equal = ends_by p more a b x y first second (overlap p more a b (sym equal))

pub ends : {X Y : Type 0} {A : List Kind → X → Type 0} {B : List Kind → Y → Type 0} (p : List Kind) → IsPrefix (Both A B) p → Ends A B p
ends p begins = ends_of p begins.more (p ++ begins.more) begins.tree begins.text refl

-- tokens that begin the first begin both
pub inside_both : {X Y : Type 0} {A : List Kind → X → Type 0} {B : List Kind → Y → Type 0} {p : List Kind} → HasText B → IsPrefix A p → IsPrefix (Both A B) p
inside_both {A} {B} {p} has begins = record {
  more = begins.more ++ has.tokens;
  tree = (begins.tree, has.tree);
  text = subst (λ l. Both A B l (begins.tree, has.tree)) (append_assoc p begins.more has.tokens) (both begins.text has.text);
}

-- tokens that begin the second do so after the first
pub after_first : {X Y : Type 0} {A : List Kind → X → Type 0} {B : List Kind → Y → Type 0} {b : List Kind} (a : List Kind) (x : X)
    → A a x → IsPrefix B b → IsPrefix (Both A B) (a ++ b)
after_first {A} {B} {b} a x first begins = record {
  more = begins.more;
  tree = (x, begins.tree);
  text = subst (λ l. Both A B l (x, begins.tree)) (sym (append_assoc a b begins.more)) (both first begins.text);
}

both_agree : {X Y : Type 0} {A : List Kind → X → Type 0} {B : List Kind → Y → Type 0} {Before Follows : List Kind → Type 0}
    → IsDefinite A Before → Leads B Follows Before → IsDefinite B Follows
    → (l m r s : List Kind) (x y : X × Y) → Both A B l x → Both A B m y → Follows r → Follows s → l ++ r ≡ m ++ s → (r ≡ s) × (x ≡ y)
both_agree one leads two _ _ r s _ _ (both {a} {b} {x} {y} f g) (both {a = c} {b = d} {x = z} {y = w} h i) here there equal =
    let front = one.agrees a c (b ++ r) (d ++ s) x z f h (leads.whole b r y g here) (leads.whole d s w i there) (regroup a b r c d s equal) in
    let back = two.agrees b d r s y w g i here there front.0 in
    (back.0, cc (front.1, back.1))

both_stop_by : {X Y : Type 0} {A : List Kind → X → Type 0} {B : List Kind → Y → Type 0} {Before Follows : List Kind → Type 0}
    → IsDefinite A Before → Leads B Follows Before → IsDefinite B Follows
    → (a b r p after : List Kind) (x : X) (y : Y) → A a x → B b y → Follows r → a ++ (b ++ r) ≡ p ++ after → Ends A B p → length r ≤ length after
both_stop_by one leads two a b r p after x y first second follows equal (in_first begins) =
    let least = one.stops a (b ++ r) p after x first (leads.whole b r y second follows) equal begins in
    omega (arith, least, length-append b r)
both_stop_by one leads two a b r p rest x y first second follows equal (in_second c z t m is other begins) =
    let cut : a ++ (b ++ r) ≡ c ++ ((t ∷ m) ++ rest) = equal ∙ ap (λ l. l ++ rest) is ∙ append_assoc c (t ∷ m) rest in
    let same = one.agrees a c (b ++ r) ((t ∷ m) ++ rest) x z first other (leads.whole b r y second follows) (leads.begun t m rest begins) cut in
    two.stops b r (t ∷ m) rest y second follows same.0 begins

both_stop : {X Y : Type 0} {A : List Kind → X → Type 0} {B : List Kind → Y → Type 0} {Before Follows : List Kind → Type 0}
    → IsDefinite A Before → Leads B Follows Before → IsDefinite B Follows
    → (l r p after : List Kind) (z : X × Y) → Both A B l z → Follows r → l ++ r ≡ p ++ after → IsPrefix (Both A B) p → length r ≤ length after
both_stop one leads two _ r p after _ (both {a} {b} {x} {y} first second) follows equal begins =
    both_stop_by one leads two a b r p after x y first second follows (sym (append_assoc a b r) ∙ equal) (ends p begins)

-- where both rules are definite, so are both together
pub both_definite : {X Y : Type 0} {A : List Kind → X → Type 0} {B : List Kind → Y → Type 0} {Before Follows : List Kind → Type 0}
    → IsDefinite A Before → Leads B Follows Before → IsDefinite B Follows → IsDefinite (Both A B) Follows
both_definite one leads two = record {
  agrees = λ a b r s x y first second here there equal. both_agree one leads two a b r s x y first second here there equal;
  stops = λ a r p after x text follows equal begins. both_stop one leads two a r p after x text follows equal begins;
}

pub both_has : {X Y : Type 0} {A : List Kind → X → Type 0} {B : List Kind → Y → Type 0} → HasText A → HasText B → HasText (Both A B)
both_has one two = record { tokens = one.tokens ++ two.tokens; tree = (one.tree, two.tree); text = both one.text two.text }

first_of : {X Y : Type 0} {A : List Kind → X → Type 0} {B : List Kind → Y → Type 0} {First : Kind → Type 0} (t : Kind) (l m : List Kind) (z : X × Y)
    → Starts A First → Both A B l z → l ≡ t ∷ m → First t
first_of {First} t _ m _ starts (both {a = []} {x} first second) equal = absurd (starts.some x first)
first_of {First} t _ m _ starts (both {a = u ∷ a} {x} first second) equal =
    let is : u ≡ t = cc in
    subst First is (starts.first u a x first)

none_of : {X Y : Type 0} {A : List Kind → X → Type 0} {B : List Kind → Y → Type 0} {First : Kind → Type 0} (l : List Kind) (z : X × Y)
    → Starts A First → Both A B l z → l ≡ [] → ⊥
none_of _ _ starts (both {a = []} {x} first second) equal = starts.some x first
none_of _ _ starts (both {a = u ∷ a} {x} first second) equal = cc

-- both begin as the first does
pub both_starts : {X Y : Type 0} {A : List Kind → X → Type 0} {B : List Kind → Y → Type 0} {First : Kind → Type 0} → Starts A First → Starts (Both A B) First
both_starts starts = record {
  some = λ z text. none_of [] z starts text refl;
  first = λ t a z text. first_of t (t ∷ a) a z starts text refl;
}

-- both are found one after the other
pub both_found : {X Y : Type 0} {A : List Kind → X → Type 0} {B : List Kind → Y → Type 0} {Before Follows : List Kind → Type 0} {ts r s : List Token} {x : X} {y : Y} {m n : ℕ}
    → IsDefinite (Both A B) Follows → Parses A Before ts x r m → Parses B Follows r y s n → Parses (Both A B) Follows ts (x, y) s (length s)
both_found {A} {B} {ts} {r} {s} {x} {y} definite one two =
    let cut : ts ≡ (one.prefix ++ two.prefix) ++ s = one.cut ∙ ap (λ l. one.prefix ++ l) two.cut ∙ sym (append_assoc one.prefix two.prefix s) in
    let text : Both A B (kinds one.prefix ++ kinds two.prefix) (x, y) = both one.text two.text in
    found ts (one.prefix ++ two.prefix) s (x, y) definite cut
    (subst (λ l. Both A B l (x, y)) (sym (map-append (λ t. t.kind) one.prefix two.prefix)) text) two.follows

none_both : {X Y : Type 0} {A : List Kind → X → Type 0} {B : List Kind → Y → Type 0} {Before Follows : List Kind → Type 0} (ts l after : List Kind) (z : X × Y)
    → ((p q : List Kind) (x : X) → ts ≡ p ++ q → A p x → Before q → ⊥) → Leads B Follows Before → ts ≡ l ++ after → Both A B l z → Follows after → ⊥
none_both ts _ rest _ none leads cut (both {a} {b} {x} {y} first second) follows =
    none a (b ++ rest) x (cut_first a b rest cut) first (leads.whole b rest y second follows)

first_furthest : {X Y : Type 0} {A : List Kind → X → Type 0} {B : List Kind → Y → Type 0} {Before Follows : List Kind → Type 0} (ts : List Token) (left : ℕ) (p rest : List Kind)
    → Fails A Before ts left → Leads B Follows Before → kinds ts ≡ p ++ rest → Ends A B p → left ≤ length rest
first_furthest ts left p rest fails leads cut (in_first begins) = fails.reach.furthest p rest cut begins
first_furthest ts left p rest fails leads cut (in_second a x t m is first begins) =
    absurd (fails.none a ((t ∷ m) ++ rest) x (cut ∙ ap (λ l. l ++ rest) is ∙ append_assoc a (t ∷ m) rest) first (leads.begun t m rest begins))

-- where the first is missing, both are
pub first_missing : {X Y : Type 0} {A : List Kind → X → Type 0} {B : List Kind → Y → Type 0} {Before Follows : List Kind → Type 0} {ts : List Token} {left : ℕ}
    → HasText B → Leads B Follows Before → Fails A Before ts left → Fails (Both A B) Follows ts left
first_missing {ts} {left} has leads fails = record {
  none = λ prefix after z cut text follows. none_both (kinds ts) prefix after z fails.none leads cut text follows;
  reach = record {
    prefix = fails.reach.prefix;
    rest = fails.reach.rest;
    cut = fails.reach.cut;
    count = fails.reach.count;
    begins = inside_both has fails.reach.begins;
    furthest = λ p rest cut begins. first_furthest ts left p rest fails leads cut (ends p begins);
  };
}

none_after : {X Y : Type 0} {A : List Kind → X → Type 0} {B : List Kind → Y → Type 0} {Before Follows : List Kind → Type 0} {ts r : List Token} {x : X} {m : ℕ} (left : ℕ) (l after : List Kind) (z : X × Y)
    → IsDefinite A Before → Leads B Follows Before → Parses A Before ts x r m → Fails B Follows r left → kinds ts ≡ l ++ after → Both A B l z → Follows after → ⊥
none_after {r} {x} left _ rest _ definite leads one fails cut (both {a} {b} {x = w} {y} first second) follows =
    let same = definite.agrees (kinds one.prefix) a (kinds r) (b ++ rest) x w one.text first one.follows (leads.whole b rest y second follows)
    (sym (kinds_cut one) ∙ cut_first a b rest cut) in
    fails.none b rest y same.0 second follows

second_furthest : {X Y : Type 0} {A : List Kind → X → Type 0} {B : List Kind → Y → Type 0} {Before Follows : List Kind → Type 0} {ts r : List Token} {x : X} {m : ℕ} (left : ℕ) (p rest : List Kind)
    → IsDefinite A Before → Leads B Follows Before → Parses A Before ts x r m → Fails B Follows r left → kinds ts ≡ p ++ rest → Ends A B p → left ≤ length rest
second_furthest {r} {x} left p rest definite leads one fails cut (in_first begins) =
    let least = definite.stops (kinds one.prefix) (kinds r) p rest x one.text one.follows (sym (kinds_cut one) ∙ cut) begins in
    omega (arith, least, reach_within fails.reach)
second_furthest {r} {x} left p rest definite leads one fails cut (in_second a w t m is first begins) =
    let same = definite.agrees (kinds one.prefix) a (kinds r) ((t ∷ m) ++ rest) x w one.text first one.follows (leads.begun t m rest begins)
    (sym (kinds_cut one) ∙ cut ∙ ap (λ l. l ++ rest) is ∙ append_assoc a (t ∷ m) rest) in
    fails.reach.furthest (t ∷ m) rest same.0 begins

-- where the first is found and the second is missing after it, both are missing
pub second_missing : {X Y : Type 0} {A : List Kind → X → Type 0} {B : List Kind → Y → Type 0} {Before Follows : List Kind → Type 0} {ts r : List Token} {x : X} {m left : ℕ}
    → IsDefinite A Before → Leads B Follows Before → Parses A Before ts x r m → Fails B Follows r left → Fails (Both A B) Follows ts left
second_missing {left} definite leads one fails = record {
  none = λ prefix after z cut text follows. none_after left prefix after z definite leads one fails cut text follows;
  reach = record {
    prefix = kinds one.prefix ++ fails.reach.prefix;
    rest = fails.reach.rest;
    cut = kinds_cut one ∙ ap (λ l. kinds one.prefix ++ l) fails.reach.cut ∙ sym (append_assoc (kinds one.prefix) fails.reach.prefix fails.reach.rest);
    count = fails.reach.count;
    begins = after_first (kinds one.prefix) _ one.text fails.reach.begins;
    furthest = λ p rest cut begins. second_furthest left p rest definite leads one fails cut (ends p begins);
  };
}
