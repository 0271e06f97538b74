-- Rules of which the tokens begin with at most one text, once it is known what follows: what is found of them, and what is missing.
use Rattle.std.proofs.Common.{◌≡◌, ℕ, ◌≤◌, List, [], ◌∷◌, ◌++◌, length, refl, sym, ◌∙◌, ap, subst, arith, length-append, append_assoc, append-nil}
use Rattle.std.proofs.lemmas.List.{length-map, map-append}
use Rattle.prism_syntax.specs.declared.tokens.Kind.{Kind}
use Rattle.prism_syntax.specs.declared.tokens.Kind.TheVariants as k
use Rattle.prism_syntax.specs.declared.tokens.Token.{Token}
use Rattle.prism_syntax.specs.Tokens.{kinds}
use Rattle.prism_reading.specs.Reach.{IsPrefix, IsReach}
use Rattle.prism_reading.specs.Reading.{Anything, Parses, Fails}
use Rattle.prism_reading.specs.Sequences.{IsTerminal, terminal, IsName, name, IsQuoted, quoted}
use Rattle.prism_reading.proofs.OverlapLemmas.{Overlap, within, beyond, overlap, tails}

-- two texts of the rule at the front of one list, each followed so, are the same with the same tree
abbrev pub Agrees : {X : Type 0} → (List Kind → X → Type 0) → (List Kind → Type 0) → Type 0
Agrees {X} Rule Follows = (a b r s : List Kind) (x y : X) → Rule a x → Rule b y → Follows r → Follows s → a ++ r ≡ b ++ s → (r ≡ s) × (x ≡ y)

-- moreover no longer prefix of the list begins a text of the rule
pub record IsDefinite {X : Type 0} (Rule : List Kind → X → Type 0) (Follows : List Kind → Type 0) : Type 0 where
  pub agrees : Agrees Rule Follows
  pub stops : (a r p after : List Kind) (x : X) → Rule a x → Follows r → a ++ r ≡ p ++ after → IsPrefix Rule p → length r ≤ length after

-- there is a text of the rule
pub record HasText {X : Type 0} (Rule : List Kind → X → Type 0) : Type 0 where
  pub tokens : List Kind
  pub tree : X
  pub text : Rule tokens tree

-- each text of the rule begins with such a token
pub record Starts {X : Type 0} (Rule : List Kind → X → Type 0) (First : Kind → Type 0) : Type 0 where
  pub some : (x : X) → Rule [] x → ⊥
  pub first : (t : Kind) (a : List Kind) (x : X) → Rule (t ∷ a) x → First t

-- what follows one rule may be a text of another, and what begins one
pub record Leads {Y : Type 0} (Second : List Kind → Y → Type 0) (Follows Before : List Kind → Type 0) : Type 0 where
  pub whole : (b r : List Kind) (y : Y) → Second b y → Follows r → Before (b ++ r)
  pub begun : (t : Kind) (m after : List Kind) → IsPrefix Second (t ∷ m) → Before ((t ∷ m) ++ after)

-- anything may follow a closed rule
pub anything_leads : {Y : Type 0} {Second : List Kind → Y → Type 0} {Follows : List Kind → Type 0} → Leads Second Follows Anything
anything_leads = record { whole = λ b r y text follows. tt; begun = λ t m after begins. tt }

whole_leads : {Y : Type 0} {Second : List Kind → Y → Type 0} {First : Kind → Type 0} (Before : List Kind → Type 0)
    → Starts Second First → ((t : Kind) (l : List Kind) → First t → Before (t ∷ l)) → (b r : List Kind) (y : Y) → Second b y → Before (b ++ r)
whole_leads Before starts before [] r y text = absurd (starts.some y text)
whole_leads Before starts before (t ∷ b) r y text = before t (b ++ r) (starts.first t b y text)

-- where the first token tells it
pub starts_lead : {Y : Type 0} {Second : List Kind → Y → Type 0} {First : Kind → Type 0} {Follows Before : List Kind → Type 0}
    → Starts Second First → ((t : Kind) (l : List Kind) → First t → Before (t ∷ l)) → Leads Second Follows Before
starts_lead {Before} starts before = record {
  whole = λ b r y text follows. whole_leads Before starts before b r y text;
  begun = λ t m after begins. before t (m ++ after) (starts.first t (m ++ begins.more) begins.tree begins.text);
}

-- a text of the rule is a prefix of one
pub text_begins : {X : Type 0} {Rule : List Kind → X → Type 0} {a : List Kind} (x : X) → Rule a x → IsPrefix Rule a
text_begins {Rule} {a} x text = record { more = []; tree = x; text = rw append-nil text }

-- so is nothing, where there is one
pub nothing_begins : {X : Type 0} {Rule : List Kind → X → Type 0} → HasText Rule → IsPrefix Rule []
nothing_begins has = record { more = has.tokens; tree = has.tree; text = has.text }

closed_stops : {X : Type 0} {Rule : List Kind → X → Type 0} → Agrees Rule Anything → (a r p after : List Kind) (x : X) → Rule a x → IsPrefix Rule p
    → Overlap a r p after → length r ≤ length after
closed_stops agrees a r p after x text begins (within m first second) = omega (arith, ap length second, length-append m r)
closed_stops agrees a r p after x text begins (beyond t m first second) =
    let equal : a ++ ((t ∷ m) ++ begins.more) ≡ (p ++ begins.more) ++ [] =
    sym (append_assoc a (t ∷ m) begins.more) ∙ ap (λ l. l ++ begins.more) (sym first) ∙ sym (append-nil (p ++ begins.more)) in
    let same = agrees a (p ++ begins.more) ((t ∷ m) ++ begins.more) [] x begins.tree text begins.text tt tt equal in
    let never : t ∷ (m ++ begins.more) ≡ [] = same.0 in
    absurd (cc)

-- a rule of which two texts at the front of one list are the same, whatever follows
pub closed : {X : Type 0} {Rule : List Kind → X → Type 0} → Agrees Rule Anything → IsDefinite Rule Anything
closed agrees = record {
  agrees = agrees;
  stops = λ a r p after x text follows equal begins. closed_stops agrees a r p after x text begins (overlap a r p after equal);
}

-- fewer tokens may follow
pub narrowed : {X : Type 0} {Rule : List Kind → X → Type 0} {Wide Narrow : List Kind → Type 0} → ((r : List Kind) → Narrow r → Wide r) → IsDefinite Rule Wide → IsDefinite Rule Narrow
narrowed narrow definite = record {
  agrees = λ a b r s x y first second f g equal. definite.agrees a b r s x y first second (narrow r f) (narrow s g) equal;
  stops = λ a r p after x text f equal begins. definite.stops a r p after x text (narrow r f) equal begins;
}

-- a text of such a rule is found
pub found : {X : Type 0} {Rule : List Kind → X → Type 0} {Follows : List Kind → Type 0} (ts p rest : List Token) (x : X)
    → IsDefinite Rule Follows → ts ≡ p ++ rest → Rule (kinds p) x → Follows (kinds rest) → Parses Rule Follows ts x rest (length rest)
found {Rule} ts p rest x definite cut text follows = record {
  prefix = p;
  cut = cut;
  text = text;
  follows = follows;
  reach = record {
    prefix = kinds p;
    rest = kinds rest;
    cut = ap kinds cut ∙ map-append (λ t. t.kind) p rest;
    count = length-map rest (λ t. t.kind);
    begins = text_begins x text;
    furthest = λ other after equal begins.
        let least = definite.stops (kinds p) (kinds rest) other after x text follows (sym (map-append (λ t. t.kind) p rest) ∙ sym (ap kinds cut) ∙ equal) begins in
        omega (arith, least, length-map rest (λ t. t.kind));
  };
}

-- what is found, where such tokens follow it
pub followed : {X : Type 0} {Rule : List Kind → X → Type 0} {Wide Follows : List Kind → Type 0} {ts rest : List Token} {x : X} {left : ℕ}
    → Parses Rule Wide ts x rest left → Follows (kinds rest) → Parses Rule Follows ts x rest left
followed one follows = record { prefix = one.prefix; cut = one.cut; text = one.text; follows = follows; reach = one.reach }

-- what was parsed, as kinds
pub kinds_cut : {X : Type 0} {Rule : List Kind → X → Type 0} {Follows : List Kind → Type 0} {ts rest : List Token} {x : X} {left : ℕ}
    → (one : Parses Rule Follows ts x rest left) → kinds ts ≡ kinds one.prefix ++ kinds rest
kinds_cut {rest} one = ap kinds one.cut ∙ map-append (λ t. t.kind) one.prefix rest

-- what is missing, where other tokens follow the only text
pub unfollowed : {X : Type 0} {Rule : List Kind → X → Type 0} {Follows : List Kind → Type 0} {ts rest : List Token} {x : X} {left : ℕ}
    → IsDefinite Rule Anything → Parses Rule Anything ts x rest left → (Follows (kinds rest) → ⊥) → Fails Rule Follows ts left
unfollowed {Follows} {rest} {x} definite one other = record {
  none = λ prefix after tree cut text follows.
      let same = definite.agrees (kinds one.prefix) prefix (kinds rest) after x tree one.text text tt tt (sym (kinds_cut one) ∙ cut) in
      other (subst Follows (sym same.0) follows);
  reach = one.reach;
}

-- no more is left from the first wrong token on than there is
pub reach_within : {Begins : List Kind → Type 0} {ts : List Kind} {left : ℕ} → IsReach Begins ts left → left ≤ length ts
reach_within reach = omega (arith, reach.count, ap length reach.cut, length-append reach.prefix reach.rest)

no_text : {X : Type 0} {Rule : List Kind → X → Type 0} {First : Kind → Type 0} (ts prefix after : List Kind) (tree : X)
    → Starts Rule First → ((t : Kind) (l : List Kind) → ts ≡ t ∷ l → First t → ⊥) → ts ≡ prefix ++ after → Rule prefix tree → ⊥
no_text ts [] after tree starts other cut text = starts.some tree text
no_text ts (t ∷ p) after tree starts other cut text = other t (p ++ after) cut (starts.first t p tree text)

no_token : {X : Type 0} {Rule : List Kind → X → Type 0} {First : Kind → Type 0} (ts prefix after : List Kind)
    → Starts Rule First → ((t : Kind) (l : List Kind) → ts ≡ t ∷ l → First t → ⊥) → ts ≡ prefix ++ after → IsPrefix Rule prefix → length ts ≤ length after
no_token ts [] after starts other cut begins = omega (arith, ap length cut)
no_token ts (t ∷ p) after starts other cut begins = absurd (other t (p ++ after) cut (starts.first t (p ++ begins.more) begins.tree begins.text))

-- tokens that begin with no such token begin no text, and the first one is wrong
pub misses : {X : Type 0} {Rule : List Kind → X → Type 0} {First : Kind → Type 0} {Follows : List Kind → Type 0} (ts : List Token)
    → Starts Rule First → HasText Rule → ((t : Kind) (l : List Kind) → kinds ts ≡ t ∷ l → First t → ⊥) → Fails Rule Follows ts (length ts)
misses ts starts has other = record {
  none = λ prefix after tree cut text follows. no_text (kinds ts) prefix after tree starts other cut text;
  reach = record {
    prefix = [];
    rest = kinds ts;
    cut = refl;
    count = length-map ts (λ t. t.kind);
    begins = nothing_begins has;
    furthest = λ prefix after cut begins.
        let least = no_token (kinds ts) prefix after starts other cut begins in
        omega (arith, least, length-map ts (λ t. t.kind));
  };
}

terminals_agree : (kind : Kind) (a b r s : List Kind) (x y : Unit {0}) → IsTerminal kind a x → IsTerminal kind b y → a ++ r ≡ b ++ s → (r ≡ s) × (x ≡ y)
terminals_agree kind _ _ r s _ _ terminal terminal equal = (tails equal, refl)

-- a single token
pub terminal_definite : (kind : Kind) → IsDefinite (IsTerminal kind) Anything
terminal_definite kind = closed (λ a b r s x y first second _ _ equal. terminals_agree kind a b r s x y first second equal)

pub terminal_has : (kind : Kind) → HasText (IsTerminal kind)
terminal_has kind = record { tokens = kind ∷ []; tree = tt; text = terminal }

first_terminal : (kind : Kind) (l : List Kind) (x : Unit {0}) → IsTerminal kind l x → l ≡ kind ∷ []
first_terminal kind _ _ terminal = refl

pub terminal_starts : (kind : Kind) → Starts (IsTerminal kind) (λ t. t ≡ kind)
terminal_starts kind = record {
  some = λ x text. let is = first_terminal kind [] x text in cc;
  first = λ t a x text. let is = first_terminal kind (t ∷ a) x text in cc;
}

-- a token that is a name
pub data IsNameKind : Kind → Type 0 where
  is_name : {text : List ℕ} → IsNameKind (k.Name text)

-- a name
same_names : (a b r s : List Kind) (x y : List ℕ) → IsName a x → IsName b y → a ++ r ≡ b ++ s → (r ≡ s) × (x ≡ y)
same_names _ _ r s x y name name equal = (tails equal, cc)

pub name_definite : IsDefinite IsName Anything
name_definite = closed (λ a b r s x y first second _ _ equal. same_names a b r s x y first second equal)

pub name_has : HasText IsName
name_has = record { tokens = k.Name [] ∷ []; tree = []; text = name }

first_name : (t : Kind) (l a : List Kind) (x : List ℕ) → IsName l x → l ≡ t ∷ a → IsNameKind t
first_name t _ a x name equal =
    let is : t ≡ k.Name x = cc in
    rw is is_name

no_name : (l : List Kind) (x : List ℕ) → IsName l x → l ≡ [] → ⊥
no_name _ x name equal = cc

pub name_starts : Starts IsName IsNameKind
name_starts = record { some = λ x text. no_name [] x text refl; first = λ t a x text. first_name t (t ∷ a) a x text refl }

-- the name of a label
same_quoted : (a b r s : List Kind) (x y : List ℕ) → IsQuoted a x → IsQuoted b y → a ++ r ≡ b ++ s → (r ≡ s) × (x ≡ y)
same_quoted _ _ r s x y quoted quoted equal = (tails equal, cc)

pub quoted_definite : IsDefinite IsQuoted Anything
quoted_definite = closed (λ a b r s x y first second _ _ equal. same_quoted a b r s x y first second equal)

pub quoted_has : HasText IsQuoted
quoted_has = record { tokens = k.Quoted [] ∷ []; tree = []; text = quoted }
