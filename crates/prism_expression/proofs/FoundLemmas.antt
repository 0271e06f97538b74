-- What is found and what is missing among kinds of tokens, and how it is told of a whole that has a part behind some tokens.
use Rattle.std.proofs.Common.{◌≡◌, ℕ, ◌≤◌, List, ◌++◌, length, sym, ap, ◌∙◌, subst, ◌⊎◌, ⊎_elim, arith}
use Rattle.std.proofs.lemmas.List.{append_assoc, length-append, map-append, append_cancel_right}
use Rattle.prism_syntax.specs.declared.tokens.Kind.{Kind}
use Rattle.prism_syntax.specs.declared.tokens.Token.{Token}
use Rattle.prism_syntax.specs.Tokens.{kinds}
use Rattle.prism_reading.specs.Reach.{IsPrefix, IsReach}
use Rattle.prism_reading.specs.Reading.{Anything, Parses, Fails}
use Rattle.prism_reading.proofs.ReachLemmas.{begun, begun_behind, reach_begun, whole_prefix, count_kinds}
use Rattle.prism_reading.proofs.DefiniteLemmas.{Agrees, closed, found, kinds_cut, reach_within}
use Rattle.prism_expression.specs.Longest.{IsLongest}

-- the longest text of a rule, and how far the tokens begin one
pub record Found {X : Type 0} (Rule : List Kind → X → Type 0) (ts : List Kind) (x : X) (rest : List Kind) (left : ℕ) : Type 0 where
  pub front : List Kind
  pub cut : ts ≡ front ++ rest
  pub text : Rule front x
  pub longest : (f r : List Kind) (y : X) → ts ≡ f ++ r → Rule f y → length rest ≤ length r
  pub reach : IsReach (IsPrefix Rule) ts left

-- no text of a rule, and how far the tokens begin one
pub record Missing {X : Type 0} (Rule : List Kind → X → Type 0) (ts : List Kind) (left : ℕ) : Type 0 where
  pub none : (f r : List Kind) (y : X) → ts ≡ f ++ r → Rule f y → ⊥
  pub reach : IsReach (IsPrefix Rule) ts left

-- some tokens are the last of others
abbrev pub Cut : List Token → List Token → Type 0
Cut tokens rest = (prefix : List Token) × (tokens ≡ prefix ++ rest)

-- what comes last of the last comes last
pub cut_on : {tokens rest after : List Token} → Cut tokens rest → Cut rest after → Cut tokens after
cut_on {after = after} first second = (first.0 ++ second.0, first.1 ∙ ap (λ v. first.0 ++ v) second.1 ∙ sym (append_assoc first.0 second.0 after))

-- no more tokens come last than there are
pub cut_within : {tokens rest : List Token} → Cut tokens rest → length rest ≤ length tokens
cut_within {rest = rest} cut = omega (arith, ap length cut.1, length-append cut.0 rest)

-- what is told of the longest text, in kinds
pub longest_found : {X : Type 0} {Rule : List Kind → X → Type 0} {tokens rest : List Token} {x : X} {left : ℕ} → IsLongest Rule tokens x rest left → Found Rule (kinds tokens) x (kinds rest) left
longest_found {rest = rest} told = record {
  front = kinds told.parses.prefix;
  cut = kinds_cut told.parses;
  text = told.parses.text;
  longest = λ f r y is text. omega (arith, told.longest f r y is text, count_kinds rest);
  reach = told.parses.reach;
}

pub longest_cut : {X : Type 0} {Rule : List Kind → X → Type 0} {tokens rest : List Token} {x : X} {left : ℕ} → IsLongest Rule tokens x rest left → Cut tokens rest
longest_cut told = (told.parses.prefix, told.parses.cut)

-- and back
pub found_longest : {X : Type 0} {Rule : List Kind → X → Type 0} {tokens rest : List Token} {x : X} {left : ℕ} → Cut tokens rest → Found Rule (kinds tokens) x (kinds rest) left → IsLongest Rule tokens x rest left
found_longest {Rule = Rule} {tokens = tokens} {rest = rest} {x = x} cut told =
    let front : told.front ≡ kinds cut.0 = append_cancel_right told.front (kinds cut.0) (kinds rest) (sym told.cut ∙ ap kinds cut.1 ∙ map-append (λ t. t.kind) cut.0 rest) in
    record {
      parses = record { prefix = cut.0; cut = cut.1; text = subst (λ v. Rule v x) front told.text; follows = tt; reach = told.reach };
      longest = λ f r y is text. omega (arith, told.longest f r y is text, count_kinds rest);
    }

-- what is told of no text
pub fails_missing : {X : Type 0} {Rule : List Kind → X → Type 0} {tokens : List Token} {left : ℕ} → Fails Rule Anything tokens left → Missing Rule (kinds tokens) left
fails_missing told = record { none = λ f r y is text. told.none f r y is text tt; reach = told.reach }

pub missing_fails : {X : Type 0} {Rule : List Kind → X → Type 0} {tokens : List Token} {left : ℕ} → Missing Rule (kinds tokens) left → Fails Rule Anything tokens left
missing_fails told = record { none = λ f r y is text anything. told.none f r y is text; reach = told.reach }

-- a text of a closed rule is the longest
pub closed_found : {X : Type 0} {Rule : List Kind → X → Type 0} {tokens rest : List Token} {x : X} → Agrees Rule Anything → Parses Rule Anything tokens x rest (length rest)
    → Found Rule (kinds tokens) x (kinds rest) (length rest)
closed_found {Rule = Rule} {rest = rest} {x = x} agrees told = record {
  front = kinds told.prefix;
  cut = kinds_cut told;
  text = told.text;
  longest = λ f r y is text. omega (arith, ap length (agrees (kinds told.prefix) f (kinds rest) r x y told.text text tt tt (sym (kinds_cut told) ∙ is)).0);
  reach = told.reach;
}

pub parses_cut : {X : Type 0} {Rule : List Kind → X → Type 0} {tokens rest : List Token} {x : X} {left : ℕ} → Parses Rule Anything tokens x rest left → Cut tokens rest
parses_cut told = (told.prefix, told.cut)

-- and back: where the kinds have a text of a closed rule, it is parsed
pub closed_parses : {X : Type 0} {Rule : List Kind → X → Type 0} {tokens rest : List Token} {x : X} (front : List Kind) → Agrees Rule Anything → Cut tokens rest
    → kinds tokens ≡ front ++ kinds rest → Rule front x → Parses Rule Anything tokens x rest (length rest)
closed_parses {Rule = Rule} {tokens = tokens} {rest = rest} {x = x} front agrees cut is text =
    let same : front ≡ kinds cut.0 = append_cancel_right front (kinds cut.0) (kinds rest) (sym is ∙ ap kinds cut.1 ∙ map-append (λ t. t.kind) cut.0 rest) in
    found tokens cut.0 rest x (closed agrees) cut.1 (subst (λ v. Rule v x) same text) tt

-- the first wrong token stands at the rest or after it
pub past_rest : {X : Type 0} {Rule : List Kind → X → Type 0} {ts rest : List Kind} {x : X} {left : ℕ} → Found Rule ts x rest left → left ≤ length rest
past_rest {Rule = Rule} {rest = rest} {x = x} told = told.reach.furthest told.front rest told.cut (whole_prefix Rule told.front x told.text)

-- ---- a whole that has a part behind some tokens

-- behind these tokens, which are no text of the whole beyond themselves, a text of the part makes one of the whole
pub record Behind {X Y : Type 0} (Part : List Kind → X → Type 0) (Whole : List Kind → Y → Type 0) (made : X → Y) (ts us : List Kind) : Type 0 where
  pub before : List Kind
  pub cut : ts ≡ before ++ us
  pub up : (g : List Kind) (x : X) → Part g x → Whole (before ++ g) (made x)
  pub texts : (f r : List Kind) (y : Y) → ts ≡ f ++ r → Whole f y → (length us ≤ length r) ⊎ ((g : List Kind) × (x : X) × (us ≡ g ++ r) × Part g x)
  pub prefixes : (f r : List Kind) → ts ≡ f ++ r → IsPrefix Whole f → (length us ≤ length r) ⊎ ((g : List Kind) × (us ≡ g ++ r) × IsPrefix Part g)

-- the whole goes as far as the part
pub behind_reach : {X Y : Type 0} {Part : List Kind → X → Type 0} {Whole : List Kind → Y → Type 0} {made : X → Y} {ts us : List Kind} {left : ℕ}
    → Behind Part Whole made ts us → IsReach (IsPrefix Part) us left → IsReach (IsPrefix Whole) ts left
behind_reach {Whole = Whole} {made = made} b reach =
    reach_begun
    (begun_behind b.before b.cut (λ f begins. record {
      more = begins.more;
      tree = made begins.tree;
      text = subst (λ v. Whole v (made begins.tree)) (sym (append_assoc b.before f begins.more)) (b.up (f ++ begins.more) begins.tree begins.text);
    }) (begun reach))
    (λ f r is begins. ⊎_elim (λ short. omega (arith, short, reach_within reach)) (λ part. reach.furthest part.0 r part.1 part.2) (b.prefixes f r is begins))

-- where the part is found, so is the whole
pub behind_found : {X Y : Type 0} {Part : List Kind → X → Type 0} {Whole : List Kind → Y → Type 0} {made : X → Y} {ts us rest : List Kind} {x : X} {left : ℕ}
    → Behind Part Whole made ts us → Found Part us x rest left → Found Whole ts (made x) rest left
behind_found {rest = rest} {x = x} b part = record {
  front = b.before ++ part.front;
  cut = b.cut ∙ ap (λ v. b.before ++ v) part.cut ∙ sym (append_assoc b.before part.front rest);
  text = b.up part.front x part.text;
  longest = λ f r y is text. ⊎_elim (λ short. omega (arith, short, ap length part.cut, length-append part.front rest)) (λ p. part.longest p.0 r p.1 p.2 p.3) (b.texts f r y is text);
  reach = behind_reach b part.reach;
}

-- where it is missing and no text ends before it, the whole is missing too
pub behind_missing : {X Y : Type 0} {Part : List Kind → X → Type 0} {Whole : List Kind → Y → Type 0} {made : X → Y} {ts us : List Kind} {left : ℕ}
    → Behind Part Whole made ts us → ((f r : List Kind) (y : Y) → ts ≡ f ++ r → Whole f y → (g : List Kind) × (x : X) × (us ≡ g ++ r) × Part g x)
    → Missing Part us left → Missing Whole ts left
behind_missing b strict part = record { none = λ f r y is text. let p = strict f r y is text in part.none p.0 r p.1 p.2 p.3; reach = behind_reach b part.reach }
