-- Texts of one rule, one after another.
use Rattle.std.proofs.Common.{◌≡◌, ◌⊎◌, inl, inr, ℕ, ◌≤◌, ◌<◌, List, [], ◌∷◌, ◌++◌, length, refl, sym, ◌∙◌, ap, subst, arith, length-append, append_assoc, append-nil}
use Rattle.std.proofs.lemmas.List.{map-append}
use Rattle.prism_syntax.specs.declared.tokens.Kind.{Kind}
use Rattle.prism_syntax.specs.declared.tokens.Token.{Token}
use Rattle.prism_syntax.specs.Tokens.{kinds}
use Rattle.prism_syntax.specs.Models.{Each}
use Rattle.prism_syntax.specs.Models as model
use Rattle.prism_reading.specs.Reach.{IsPrefix, IsReach}
use Rattle.prism_reading.specs.Reading.{Parses, Fails}
use Rattle.prism_reading.specs.Sequences.{Both, both}
use Rattle.prism_reading.proofs.OverlapLemmas.{Overlap, within, beyond, overlap, regroup}
use Rattle.prism_reading.proofs.DefiniteLemmas.{IsDefinite, HasText, Starts, Leads, found, reach_within, text_begins}
use Rattle.prism_reading.proofs.BothLemmas.{Ends, in_first, in_second, first_missing, second_missing, inside_both}

-- the first token of a text tells whether there is one more, and what follows each
pub record Repeats {X : Type 0} (Rule : List Kind → X → Type 0) (Before : List Kind → Type 0) (First : Kind → Type 0) (Follows : List Kind → Type 0) : Type 0 where
  pub one : IsDefinite Rule Before
  pub starts : Starts Rule First
  pub next : (t : Kind) (l : List Kind) → First t → Before (t ∷ l)
  pub last : (r : List Kind) → Follows r → Before r
  pub stop : (t : Kind) (l : List Kind) → Follows (t ∷ l) → First t → ⊥

each_first : {X : Type 0} {Rule : List Kind → X → Type 0} {First : Kind → Type 0} (t : Kind) (l m : List Kind) (xs : List X) → Starts Rule First → Each Rule l xs → l ≡ t ∷ m → First t
each_first t _ m _ starts model.Each.end equal = absurd (cc)
each_first t _ m _ starts (model.Each.more {a = []} {x} first others) equal = absurd (starts.some x first)
each_first {First} t _ m _ starts (model.Each.more {a = u ∷ a} {x} first others) equal =
    let is : u ≡ t = cc in
    subst First is (starts.first u a x first)

no_more : {X : Type 0} {Rule : List Kind → X → Type 0} {Before : List Kind → Type 0} {First : Kind → Type 0} {Follows : List Kind → Type 0} (t : Kind) (l r m : List Kind) (xs : List X)
    → Repeats Rule Before First Follows → Follows r → Each Rule (t ∷ l) xs → r ≡ t ∷ m → ⊥
no_more {Follows} t l r m xs repeats follows each equal =
    repeats.stop t m (subst Follows equal follows) (each_first t (t ∷ l) l xs repeats.starts each refl)

pub each_whole : {X : Type 0} {Rule : List Kind → X → Type 0} {Before : List Kind → Type 0} {First : Kind → Type 0} {Follows : List Kind → Type 0} (b r : List Kind) (ys : List X)
    → Repeats Rule Before First Follows → Each Rule b ys → Follows r → Before (b ++ r)
each_whole [] r ys repeats each follows = repeats.last r follows
each_whole (t ∷ b) r ys repeats each follows = repeats.next t (b ++ r) (each_first t (t ∷ b) b ys repeats.starts each refl)

-- texts one after another may follow one
pub each_leads : {X : Type 0} {Rule : List Kind → X → Type 0} {Before : List Kind → Type 0} {First : Kind → Type 0} {Follows : List Kind → Type 0}
    → Repeats Rule Before First Follows → Leads (Each Rule) Follows Before
each_leads repeats = record {
  whole = λ b r ys each follows. each_whole b r ys repeats each follows;
  begun = λ t m after begins. repeats.next t (m ++ after) (each_first t (t ∷ (m ++ begins.more)) (m ++ begins.more) begins.tree repeats.starts begins.text refl);
}

each_agree : {X : Type 0} {Rule : List Kind → X → Type 0} {Before : List Kind → Type 0} {First : Kind → Type 0} {Follows : List Kind → Type 0} (a b r s : List Kind) (xs ys : List X)
    → Repeats Rule Before First Follows → Follows r → Follows s → Each Rule a xs → Each Rule b ys → a ++ r ≡ b ++ s → (r ≡ s) × (xs ≡ ys)
each_agree _ _ r s _ _ repeats here there model.Each.end model.Each.end equal = (equal, refl)
each_agree _ _ r s _ ys repeats here there model.Each.end (model.Each.more {a = []} {x} first others) equal = absurd (repeats.starts.some x first)
each_agree {Follows} _ _ r s _ ys repeats here there model.Each.end (model.Each.more {a = t ∷ c} {b = d} {x} first others) equal =
    absurd (repeats.stop t ((c ++ d) ++ s) (subst Follows equal here) (repeats.starts.first t c x first))
each_agree _ _ r s _ _ repeats here there (model.Each.more {a = []} {x} first others) model.Each.end equal = absurd (repeats.starts.some x first)
each_agree {Follows} _ _ r s _ _ repeats here there (model.Each.more {a = t ∷ c} {b = d} {x} first others) model.Each.end equal =
    absurd (repeats.stop t ((c ++ d) ++ r) (subst Follows (sym equal) there) (repeats.starts.first t c x first))
each_agree _ _ r s _ _ repeats here there (model.Each.more {a} {b} {x} {xs} first others) (model.Each.more {a = c} {b = d} {x = y} {xs = ys} second further) equal =
    let one = repeats.one.agrees a c (b ++ r) (d ++ s) x y first second (each_whole b r xs repeats others here) (each_whole d s ys repeats further there) (regroup a b r c d s equal) in
    let rest = each_agree b d r s xs ys repeats here there others further one.0 in
    (rest.0, cc (one.1, rest.1))

-- tokens that begin texts one after another: none, or tokens that begin the first, or the others after it
pub data EachEnds {X : Type 0} (Rule : List Kind → X → Type 0) (p : List Kind) : Type 0 where
  at_start : p ≡ [] → EachEnds Rule p
  past_start : Ends Rule (Each Rule) p → EachEnds Rule p

each_ends_by : {X : Type 0} {Rule : List Kind → X → Type 0} (p more a b : List Kind) (x : X) (xs : List X) → Rule a x → Each Rule b xs → Overlap p more a b → EachEnds Rule p
each_ends_by {Rule} p more a b x xs first others (within [] equal rest) =
    let same : a ≡ p = sym (equal ∙ append-nil a) in
    past_start (in_first (subst (λ l. IsPrefix Rule l) same (text_begins x first)))
each_ends_by {Rule} p more a b x xs first others (within (t ∷ m) equal rest) =
    past_start (in_second a x t m equal first (record { more = more; tree = xs; text = subst (λ l. Each Rule l xs) rest others }))
each_ends_by {Rule} p more a b x xs first others (beyond t m equal rest) =
    past_start (in_first (record { more = t ∷ m; tree = x; text = subst (λ l. Rule l x) equal first }))

pub each_ends : {X : Type 0} {Rule : List Kind → X → Type 0} (p more l : List Kind) (xs : List X) → Each Rule l xs → l ≡ p ++ more → EachEnds Rule p
each_ends [] more _ _ model.Each.end equal = at_start refl
each_ends (t ∷ p) more _ _ model.Each.end equal = absurd (cc)
each_ends p more _ _ (model.Each.more {a} {b} {x} {xs} first others) equal = each_ends_by p more a b x xs first others (overlap p more a b (sym equal))

-- a prefix as what follows it
pub prefix_ends : {X : Type 0} {Rule : List Kind → X → Type 0} (p : List Kind) → IsPrefix (Each Rule) p → EachEnds Rule p
prefix_ends p begins = each_ends p begins.more (p ++ begins.more) begins.tree begins.text refl

each_stop : {X : Type 0} {Rule : List Kind → X → Type 0} {Before : List Kind → Type 0} {First : Kind → Type 0} {Follows : List Kind → Type 0} (a r p after : List Kind) (xs : List X)
    → Repeats Rule Before First Follows → Follows r → Each Rule a xs → a ++ r ≡ p ++ after → EachEnds Rule p → length r ≤ length after
each_stop a r p after xs repeats follows each equal (at_start none) =
    let all : a ++ r ≡ after = equal ∙ ap (λ l. l ++ after) none in
    omega (arith, ap length all, length-append a r)
each_stop _ r [] after _ repeats follows model.Each.end equal (past_start begins) = omega (arith, ap length equal)
each_stop {Follows} _ r (t ∷ p) after _ repeats follows model.Each.end equal (past_start (in_first begins)) =
    absurd (repeats.stop t (p ++ after) (subst Follows equal follows) (repeats.starts.first t (p ++ begins.more) begins.tree begins.text))
each_stop _ r p after _ repeats follows model.Each.end equal (past_start (in_second [] y t m is first begins)) = absurd (repeats.starts.some y first)
each_stop {Follows} _ r p after _ repeats follows model.Each.end equal (past_start (in_second (u ∷ c) y t m is first begins)) =
    let cut : r ≡ u ∷ ((c ++ (t ∷ m)) ++ after) = equal ∙ ap (λ l. l ++ after) is in
    absurd (repeats.stop u ((c ++ (t ∷ m)) ++ after) (subst Follows cut follows) (repeats.starts.first u c y first))
each_stop _ r p after _ repeats follows (model.Each.more {a} {b} {x} {xs} first others) equal (past_start (in_first begins)) =
    let least = repeats.one.stops a (b ++ r) p after x first (each_whole b r xs repeats others follows) (sym (append_assoc a b r) ∙ equal) begins in
    omega (arith, least, length-append b r)
each_stop _ r p after _ repeats follows (model.Each.more {a} {b} {x} {xs} first others) equal (past_start (in_second c y t m is second begins)) =
    let cut : a ++ (b ++ r) ≡ c ++ ((t ∷ m) ++ after) = sym (append_assoc a b r) ∙ equal ∙ ap (λ l. l ++ after) is ∙ append_assoc c (t ∷ m) after in
    let before = repeats.next t (m ++ after) (each_first t (t ∷ (m ++ begins.more)) (m ++ begins.more) begins.tree repeats.starts begins.text refl) in
    let same = repeats.one.agrees a c (b ++ r) ((t ∷ m) ++ after) x y first second (each_whole b r xs repeats others follows) before cut in
    each_stop b r (t ∷ m) after xs repeats follows others same.0 (prefix_ends (t ∷ m) begins)

pub each_definite : {X : Type 0} {Rule : List Kind → X → Type 0} {Before : List Kind → Type 0} {First : Kind → Type 0} {Follows : List Kind → Type 0}
    → Repeats Rule Before First Follows → IsDefinite (Each Rule) Follows
each_definite repeats = record {
  agrees = λ a b r s xs ys first second here there equal. each_agree a b r s xs ys repeats here there first second equal;
  stops = λ a r p after xs each follows equal begins. each_stop a r p after xs repeats follows each equal (prefix_ends p begins);
}

pub each_has : {X : Type 0} {Rule : List Kind → X → Type 0} → HasText (Each Rule)
each_has = record { tokens = []; tree = []; text = model.Each.end }

-- where no text more begins, the texts end
pub each_ended : {X : Type 0} {Rule : List Kind → X → Type 0} {Before : List Kind → Type 0} {First : Kind → Type 0} {Follows : List Kind → Type 0} (ts : List Token)
    → Repeats Rule Before First Follows → Follows (kinds ts) → Parses (Each Rule) Follows ts [] ts (length ts)
each_ended ts repeats follows = found ts [] ts [] (each_definite repeats) refl model.Each.end follows

-- one text and the others
pub each_found : {X : Type 0} {Rule : List Kind → X → Type 0} {Before : List Kind → Type 0} {First : Kind → Type 0} {Follows : List Kind → Type 0} {ts r s : List Token} {x : X} {xs : List X} {m n : ℕ}
    → Repeats Rule Before First Follows → Parses Rule Before ts x r m → Parses (Each Rule) Follows r xs s n → Parses (Each Rule) Follows ts (x ∷ xs) s (length s)
each_found {Rule} {ts} {r} {s} {x} {xs} repeats one more =
    let cut : ts ≡ (one.prefix ++ more.prefix) ++ s = one.cut ∙ ap (λ l. one.prefix ++ l) more.cut ∙ sym (append_assoc one.prefix more.prefix s) in
    let text : Each Rule (kinds one.prefix ++ kinds more.prefix) (x ∷ xs) = model.Each.more one.text more.text in
    found ts (one.prefix ++ more.prefix) s (x ∷ xs) (each_definite repeats) cut
    (subst (λ l. Each Rule l (x ∷ xs)) (sym (map-append (λ t. t.kind) one.prefix more.prefix)) text) more.follows

none_each : {X : Type 0} {Rule : List Kind → X → Type 0} {Follows : List Kind → Type 0} (ts p rest : List Kind) (xs : List X)
    → ((q after : List Kind) (z : X × List X) → ts ≡ q ++ after → Both Rule (Each Rule) q z → Follows after → ⊥) → (Follows ts → ⊥)
    → ts ≡ p ++ rest → Each Rule p xs → Follows rest → ⊥
none_each {Follows} ts _ rest _ none begins cut model.Each.end follows = begins (subst Follows (sym cut) follows)
none_each ts _ rest _ none begins cut (model.Each.more {a} {b} {x} {xs} first others) follows = none (a ++ b) rest (x, xs) cut (both first others) follows

each_furthest : {X : Type 0} {Rule : List Kind → X → Type 0} (ts p rest : List Kind) (left : ℕ)
    → IsReach (IsPrefix (Both Rule (Each Rule))) ts left → ts ≡ p ++ rest → EachEnds Rule p → left ≤ length rest
each_furthest ts p rest left reach cut (at_start none) =
    let all : ts ≡ rest = cut ∙ ap (λ l. l ++ rest) none in
    omega (arith, reach_within reach, ap length all)
each_furthest ts p rest left reach cut (past_start (in_first begins)) = reach.furthest p rest cut (inside_both each_has begins)
each_furthest {Rule} ts p rest left reach cut (past_start (in_second a x t m is first begins)) =
    let whole : IsPrefix (Both Rule (Each Rule)) (a ++ (t ∷ m)) = record {
      more = begins.more;
      tree = (x, begins.tree);
      text = subst (λ l. Both Rule (Each Rule) l (x, begins.tree)) (sym (append_assoc a (t ∷ m) begins.more)) (both first begins.text);
    } in
    reach.furthest p rest cut (subst (λ l. IsPrefix (Both Rule (Each Rule)) l) (sym is) whole)

join : {X : Type 0} {Rule : List Kind → X → Type 0} (l : List Kind) (z : X × List X) → Both Rule (Each Rule) l z → Each Rule l (z.0 ∷ z.1)
join _ _ (both first others) = model.Each.more first others

-- one text and the others are missing, and one has to stand here
each_lacks : {X : Type 0} {Rule : List Kind → X → Type 0} {Follows : List Kind → Type 0} {ts : List Token} {left : ℕ}
    → (Follows (kinds ts) → ⊥) → Fails (Both Rule (Each Rule)) Follows ts left → Fails (Each Rule) Follows ts left
each_lacks {ts} {left} begins fails = record {
  none = λ p rest xs cut each follows. none_each (kinds ts) p rest xs fails.none begins cut each follows;
  reach = record {
    prefix = fails.reach.prefix;
    rest = fails.reach.rest;
    cut = fails.reach.cut;
    count = fails.reach.count;
    begins = record {
      more = fails.reach.begins.more;
      tree = fails.reach.begins.tree.0 ∷ fails.reach.begins.tree.1;
      text = join (fails.reach.prefix ++ fails.reach.begins.more) fails.reach.begins.tree fails.reach.begins.text;
    };
    furthest = λ p rest cut begins. each_furthest (kinds ts) p rest left fails.reach cut (prefix_ends p begins);
  };
}

-- the text that has to stand here is missing
pub next_missing : {X : Type 0} {Rule : List Kind → X → Type 0} {Before : List Kind → Type 0} {First : Kind → Type 0} {Follows : List Kind → Type 0} {ts : List Token} {left : ℕ}
    → Repeats Rule Before First Follows → (Follows (kinds ts) → ⊥) → Fails Rule Before ts left → Fails (Each Rule) Follows ts left
next_missing repeats begins fails = each_lacks begins (first_missing each_has (each_leads repeats) fails)

-- the others are missing after it
pub others_missing : {X : Type 0} {Rule : List Kind → X → Type 0} {Before : List Kind → Type 0} {First : Kind → Type 0} {Follows : List Kind → Type 0} {ts r : List Token} {x : X} {m left : ℕ}
    → Repeats Rule Before First Follows → (Follows (kinds ts) → ⊥) → Parses Rule Before ts x r m → Fails (Each Rule) Follows r left → Fails (Each Rule) Follows ts left
others_missing repeats begins one fails = each_lacks begins (second_missing repeats.one (each_leads repeats) one fails)

-- what is found, or missing, of the rest is so of the whole: what a loop keeps that has parsed some texts
pub record Onward {X : Type 0} (Rule : List Kind → List X → Type 0) (Follows : List Kind → Type 0) (ts : List Token) (xs : List X) (rest : List Token) : Type 0 where
  pub all : (ys : List X) (r : List Token) → Parses Rule Follows rest ys r (length r) → Parses Rule Follows ts (xs ++ ys) r (length r)
  pub none : (left : ℕ) → Fails Rule Follows rest left → Fails Rule Follows ts left

pub onward_begun : {X : Type 0} (Rule : List Kind → List X → Type 0) (Follows : List Kind → Type 0) (ts : List Token) → Onward Rule Follows ts [] ts
onward_begun Rule Follows ts = record { all = λ ys r found. found; none = λ left fails. fails }

-- one more item, where the same holds of the rest after it
pub onward_more : {X : Type 0} {Rule : List Kind → List X → Type 0} {Follows : List Kind → Type 0} {ts rest next : List Token} {xs : List X} (x : X)
    → Onward Rule Follows ts xs rest
    → ((ys : List X) (r : List Token) → Parses Rule Follows next ys r (length r) → Parses Rule Follows rest (x ∷ ys) r (length r))
    → ((left : ℕ) → Fails Rule Follows next left → Fails Rule Follows rest left)
    → Onward Rule Follows ts (xs ++ (x ∷ [])) next
onward_more {Rule} {Follows} {ts} {xs} x onward found fails = record {
  all = λ ys r rest. subst (λ l. Parses Rule Follows ts l r (length r)) (sym (append_assoc xs (x ∷ []) ys)) (onward.all (x ∷ ys) r (found ys r rest));
  none = λ left rest. onward.none left (fails left rest);
}

-- after one text of several
pub each_onward : {X : Type 0} {Rule : List Kind → X → Type 0} {Before : List Kind → Type 0} {First : Kind → Type 0} {Follows : List Kind → Type 0} {ts rest next : List Token} {xs : List X} {x : X} {m : ℕ}
    → Repeats Rule Before First Follows → (Follows (kinds rest) → ⊥) → Onward (Each Rule) Follows ts xs rest → Parses Rule Before rest x next m → Onward (Each Rule) Follows ts (xs ++ (x ∷ [])) next
each_onward {x} repeats begins onward one = onward_more x onward (λ ys r more. each_found repeats one more) (λ left fails. others_missing repeats begins one fails)

pub onward_ended : {X : Type 0} {Rule : List Kind → X → Type 0} {Before : List Kind → Type 0} {First : Kind → Type 0} {Follows : List Kind → Type 0} {ts rest : List Token} {xs : List X}
    → Repeats Rule Before First Follows → Onward (Each Rule) Follows ts xs rest → Follows (kinds rest) → Parses (Each Rule) Follows ts xs rest (length rest)
onward_ended {Rule} {Follows} {ts} {rest} {xs} repeats onward follows =
    let all = onward.all [] rest (each_ended rest repeats follows) in
    subst (λ l. Parses (Each Rule) Follows ts l rest (length rest)) (append-nil xs) all

longer : {X : Type 0} {Rule : List Kind → X → Type 0} {First : Kind → Type 0} (p : List Token) (x : X) → Starts Rule First → Rule (kinds p) x → 1 ≤ length p
longer [] x starts text = absurd (starts.some x text)
longer (t ∷ p) x starts text = omega arith

-- a text that begins with some token is not empty
pub shorter : {X : Type 0} {Rule : List Kind → X → Type 0} {First : Kind → Type 0} {Before : List Kind → Type 0} {ts rest : List Token} {x : X} {m : ℕ}
    → Starts Rule First → Parses Rule Before ts x rest m → length rest < length ts
shorter {Rule} {ts} {rest} {x} starts one = omega (arith, ap length one.cut, length-append one.prefix rest, longer one.prefix x starts one.text)

each_then_some : {X Y : Type 0} {Rule : List Kind → X → Type 0} {Second : List Kind → Y → Type 0} {First Then : Kind → Type 0} (l : List Kind) (z : List X × Y)
    → Starts Rule First → Starts Second Then → Both (Each Rule) Second l z → l ≡ [] → ⊥
each_then_some {Second} _ _ starts ends (both {y} model.Each.end second) equal = ends.some y (subst (λ m. Second m y) equal second)
each_then_some _ _ starts ends (both (model.Each.more {a = []} {x} first others) second) equal = starts.some x first
each_then_some _ _ starts ends (both (model.Each.more {a = t ∷ a} {x} first others) second) equal = cc

each_then_first : {X Y : Type 0} {Rule : List Kind → X → Type 0} {Second : List Kind → Y → Type 0} {First Then : Kind → Type 0} (t : Kind) (l m : List Kind) (z : List X × Y)
    → Starts Rule First → Starts Second Then → Both (Each Rule) Second l z → l ≡ t ∷ m → First t ⊎ Then t
each_then_first {Second} t _ m _ starts ends (both {y} model.Each.end second) equal = inr (ends.first t m y (subst (λ n. Second n y) equal second))
each_then_first t _ m _ starts ends (both (model.Each.more {a = []} {x} first others) second) equal = absurd (starts.some x first)
each_then_first {First} t _ m _ starts ends (both (model.Each.more {a = u ∷ a} {x} first others) second) equal =
    let is : u ≡ t = cc in
    inl (subst First is (starts.first u a x first))

-- texts one after another and then one of another rule begin as either does
pub each_then_starts : {X Y : Type 0} {Rule : List Kind → X → Type 0} {Second : List Kind → Y → Type 0} {First Then : Kind → Type 0}
    → Starts Rule First → Starts Second Then → Starts (Both (Each Rule) Second) (λ t. First t ⊎ Then t)
each_then_starts starts ends = record {
  some = λ z text. each_then_some [] z starts ends text refl;
  first = λ t a z text. each_then_first t (t ∷ a) a z starts ends text refl;
}
