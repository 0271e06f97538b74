-- The items of a model: each begins with a word of its own.
use Rattle.std.proofs.Common.{◌≡◌, ℕ, ◌≤◌, ◌<◌, List, [], ◌∷◌, ◌++◌, length, refl, sym, ◌∙◌, ap, subst, arith}
use Rattle.prism_syntax.specs.declared.tokens.Kind.{Kind}
use Rattle.prism_syntax.specs.declared.tokens.Kind.TheVariants as k
use Rattle.prism_syntax.specs.declared.tokens.Token.{Token}
use Rattle.prism_syntax.specs.declared.models.ConstText.{ConstText}
use Rattle.prism_syntax.specs.declared.models.Variable.{Variable}
use Rattle.prism_syntax.specs.declared.models.Named.{Named}
use Rattle.prism_syntax.specs.declared.models.Module.{Module}
use Rattle.prism_syntax.specs.declared.models.Item.{Item}
use Rattle.prism_syntax.specs.declared.models.Item.TheVariants as item
use Rattle.prism_syntax.specs.Tokens.{kinds}
use Rattle.prism_syntax.specs.Models.{IsConst, IsGlobal, IsFormula, IsModule, IsLabel, IsItem, Each}
use Rattle.prism_syntax.specs.Models as model
use Rattle.prism_reading.specs.Reach.{IsPrefix, IsReach}
use Rattle.prism_reading.specs.Reading.{Anything, Parses, Fails}
use Rattle.prism_reading.proofs.DefiniteLemmas.{IsDefinite, HasText, Starts, closed, found, misses, reach_within}
use Rattle.prism_reading.proofs.EachLemmas.{Repeats}
use Rattle.prism_model.specs.Parts.{IsPassed, IsEnd}
use Rattle.prism_model.proofs.DefiniteLineLemmas.{const_definite, const_starts, const_has, global_definite, global_starts, formula_definite, formula_starts, label_definite, label_starts, rewards_definite, rewards_starts}
use Rattle.prism_model.proofs.ModuleLemmas.{module_definite, module_starts}

-- an item by its first token
pub data ItemBy (t : Kind) (a : List Kind) : Item → Type 0 where
  const : {c : ConstText} → t ≡ k.Const → IsConst (t ∷ a) c → ItemBy t a (item.Const c)
  global : {v : Variable} → t ≡ k.Global → IsGlobal (t ∷ a) v → ItemBy t a (item.Global v)
  formula : {f : Named} → t ≡ k.Formula → IsFormula (t ∷ a) f → ItemBy t a (item.Formula f)
  «module» : {m : Module} → t ≡ k.Module → IsModule (t ∷ a) m → ItemBy t a (item.Module m)
  label : {f : Named} → t ≡ k.Label → IsLabel (t ∷ a) f → ItemBy t a (item.Label f)
  rewards : t ≡ k.Rewards → IsPassed (t ∷ a) tt → ItemBy t a item.Rewards

item_by : (t : Kind) (a : List Kind) (z : Item) → IsItem (t ∷ a) z → ItemBy t a z
item_by t a _ (model.IsItem.const {c} text) = ItemBy.const (const_starts.first t a c text) text
item_by t a _ (model.IsItem.global {v} text) = ItemBy.global (global_starts.first t a v text) text
item_by t a _ (model.IsItem.formula {f} text) = ItemBy.formula (formula_starts.first t a f text) text
item_by t a _ (model.IsItem.«module» {m} text) = ItemBy.«module» (module_starts.first t a m text) text
item_by t a _ (model.IsItem.label {f} text) = ItemBy.label (label_starts.first t a f text) text
item_by t a _ (model.IsItem.rewards text) = ItemBy.rewards (rewards_starts.first t a tt text) text

item_some : (z : Item) → IsItem [] z → ⊥
item_some _ (model.IsItem.const {c} text) = const_starts.some c text
item_some _ (model.IsItem.global {v} text) = global_starts.some v text
item_some _ (model.IsItem.formula {f} text) = formula_starts.some f text
item_some _ (model.IsItem.«module» {m} text) = module_starts.some m text
item_some _ (model.IsItem.label {f} text) = label_starts.some f text
item_some _ (model.IsItem.rewards text) = rewards_starts.some tt text

-- at tokens with this first one the items are the texts of the rule
pub record ItemsBy {P : Type 0} (first : Kind) (Rule : List Kind → P → Type 0) (make : P → Item) : Type 0 where
  pub definite : IsDefinite Rule Anything
  pub starts : Starts Rule (λ t. t ≡ first)
  pub to : (a : List Kind) (p : P) → Rule a p → IsItem a (make p)
  pub back : (a : List Kind) (z : Item) → IsItem (first ∷ a) z → (p : P) × Rule (first ∷ a) p × (z ≡ make p)

const_back : (t : Kind) (a : List Kind) (z : Item) → t ≡ k.Const → ItemBy t a z → (p : ConstText) × IsConst (k.Const ∷ a) p × (z ≡ item.Const p)
const_back t a _ is (ItemBy.const {c} same text) = (c, subst (λ u. IsConst (u ∷ a) c) is text, refl)
const_back t a _ is (ItemBy.global same text) = let never : k.Const ≡ k.Global = sym is ∙ same in absurd (cc)
const_back t a _ is (ItemBy.formula same text) = let never : k.Const ≡ k.Formula = sym is ∙ same in absurd (cc)
const_back t a _ is (ItemBy.«module» same text) = let never : k.Const ≡ k.Module = sym is ∙ same in absurd (cc)
const_back t a _ is (ItemBy.label same text) = let never : k.Const ≡ k.Label = sym is ∙ same in absurd (cc)
const_back t a _ is (ItemBy.rewards same text) = let never : k.Const ≡ k.Rewards = sym is ∙ same in absurd (cc)

pub const_items : ItemsBy k.Const IsConst (λ p. item.Const p)
const_items = record {
  definite = const_definite;
  starts = const_starts;
  to = λ a p text. model.IsItem.const text;
  back = λ a z text. const_back k.Const a z refl (item_by k.Const a z text);
}

global_back : (t : Kind) (a : List Kind) (z : Item) → t ≡ k.Global → ItemBy t a z → (p : Variable) × IsGlobal (k.Global ∷ a) p × (z ≡ item.Global p)
global_back t a _ is (ItemBy.const same text) = let never : k.Global ≡ k.Const = sym is ∙ same in absurd (cc)
global_back t a _ is (ItemBy.global {v} same text) = (v, subst (λ u. IsGlobal (u ∷ a) v) is text, refl)
global_back t a _ is (ItemBy.formula same text) = let never : k.Global ≡ k.Formula = sym is ∙ same in absurd (cc)
global_back t a _ is (ItemBy.«module» same text) = let never : k.Global ≡ k.Module = sym is ∙ same in absurd (cc)
global_back t a _ is (ItemBy.label same text) = let never : k.Global ≡ k.Label = sym is ∙ same in absurd (cc)
global_back t a _ is (ItemBy.rewards same text) = let never : k.Global ≡ k.Rewards = sym is ∙ same in absurd (cc)

pub global_items : ItemsBy k.Global IsGlobal (λ p. item.Global p)
global_items = record {
  definite = global_definite;
  starts = global_starts;
  to = λ a p text. model.IsItem.global text;
  back = λ a z text. global_back k.Global a z refl (item_by k.Global a z text);
}

formula_back : (t : Kind) (a : List Kind) (z : Item) → t ≡ k.Formula → ItemBy t a z → (p : Named) × IsFormula (k.Formula ∷ a) p × (z ≡ item.Formula p)
formula_back t a _ is (ItemBy.const same text) = let never : k.Formula ≡ k.Const = sym is ∙ same in absurd (cc)
formula_back t a _ is (ItemBy.global same text) = let never : k.Formula ≡ k.Global = sym is ∙ same in absurd (cc)
formula_back t a _ is (ItemBy.formula {f} same text) = (f, subst (λ u. IsFormula (u ∷ a) f) is text, refl)
formula_back t a _ is (ItemBy.«module» same text) = let never : k.Formula ≡ k.Module = sym is ∙ same in absurd (cc)
formula_back t a _ is (ItemBy.label same text) = let never : k.Formula ≡ k.Label = sym is ∙ same in absurd (cc)
formula_back t a _ is (ItemBy.rewards same text) = let never : k.Formula ≡ k.Rewards = sym is ∙ same in absurd (cc)

pub formula_items : ItemsBy k.Formula IsFormula (λ p. item.Formula p)
formula_items = record {
  definite = formula_definite;
  starts = formula_starts;
  to = λ a p text. model.IsItem.formula text;
  back = λ a z text. formula_back k.Formula a z refl (item_by k.Formula a z text);
}

module_back : (t : Kind) (a : List Kind) (z : Item) → t ≡ k.Module → ItemBy t a z → (p : Module) × IsModule (k.Module ∷ a) p × (z ≡ item.Module p)
module_back t a _ is (ItemBy.const same text) = let never : k.Module ≡ k.Const = sym is ∙ same in absurd (cc)
module_back t a _ is (ItemBy.global same text) = let never : k.Module ≡ k.Global = sym is ∙ same in absurd (cc)
module_back t a _ is (ItemBy.formula same text) = let never : k.Module ≡ k.Formula = sym is ∙ same in absurd (cc)
module_back t a _ is (ItemBy.«module» {m} same text) = (m, subst (λ u. IsModule (u ∷ a) m) is text, refl)
module_back t a _ is (ItemBy.label same text) = let never : k.Module ≡ k.Label = sym is ∙ same in absurd (cc)
module_back t a _ is (ItemBy.rewards same text) = let never : k.Module ≡ k.Rewards = sym is ∙ same in absurd (cc)

pub module_items : ItemsBy k.Module IsModule (λ p. item.Module p)
module_items = record {
  definite = module_definite;
  starts = module_starts;
  to = λ a p text. model.IsItem.«module» text;
  back = λ a z text. module_back k.Module a z refl (item_by k.Module a z text);
}

label_back : (t : Kind) (a : List Kind) (z : Item) → t ≡ k.Label → ItemBy t a z → (p : Named) × IsLabel (k.Label ∷ a) p × (z ≡ item.Label p)
label_back t a _ is (ItemBy.const same text) = let never : k.Label ≡ k.Const = sym is ∙ same in absurd (cc)
label_back t a _ is (ItemBy.global same text) = let never : k.Label ≡ k.Global = sym is ∙ same in absurd (cc)
label_back t a _ is (ItemBy.formula same text) = let never : k.Label ≡ k.Formula = sym is ∙ same in absurd (cc)
label_back t a _ is (ItemBy.«module» same text) = let never : k.Label ≡ k.Module = sym is ∙ same in absurd (cc)
label_back t a _ is (ItemBy.label {f} same text) = (f, subst (λ u. IsLabel (u ∷ a) f) is text, refl)
label_back t a _ is (ItemBy.rewards same text) = let never : k.Label ≡ k.Rewards = sym is ∙ same in absurd (cc)

pub label_items : ItemsBy k.Label IsLabel (λ p. item.Label p)
label_items = record {
  definite = label_definite;
  starts = label_starts;
  to = λ a p text. model.IsItem.label text;
  back = λ a z text. label_back k.Label a z refl (item_by k.Label a z text);
}

rewards_back : (t : Kind) (a : List Kind) (z : Item) → t ≡ k.Rewards → ItemBy t a z → (p : Unit {0}) × IsPassed (k.Rewards ∷ a) p × (z ≡ item.Rewards)
rewards_back t a _ is (ItemBy.const same text) = let never : k.Rewards ≡ k.Const = sym is ∙ same in absurd (cc)
rewards_back t a _ is (ItemBy.global same text) = let never : k.Rewards ≡ k.Global = sym is ∙ same in absurd (cc)
rewards_back t a _ is (ItemBy.formula same text) = let never : k.Rewards ≡ k.Formula = sym is ∙ same in absurd (cc)
rewards_back t a _ is (ItemBy.«module» same text) = let never : k.Rewards ≡ k.Module = sym is ∙ same in absurd (cc)
rewards_back t a _ is (ItemBy.label same text) = let never : k.Rewards ≡ k.Label = sym is ∙ same in absurd (cc)
rewards_back t a _ is (ItemBy.rewards same text) = (tt, subst (λ u. IsPassed (u ∷ a) tt) is text, refl)

pub rewards_items : ItemsBy k.Rewards IsPassed (λ p. item.Rewards)
rewards_items = record {
  definite = rewards_definite;
  starts = rewards_starts;
  to = λ a p text. model.IsItem.rewards text;
  back = λ a z text. rewards_back k.Rewards a z refl (item_by k.Rewards a z text);
}

-- two items at the front of one list
by_first : {P : Type 0} {first : Kind} {Rule : List Kind → P → Type 0} {make : P → Item} (a b r s : List Kind) (x y : Item)
    → ItemsBy first Rule make → IsItem (first ∷ a) x → IsItem (first ∷ b) y → (first ∷ a) ++ r ≡ (first ∷ b) ++ s → (r ≡ s) × (x ≡ y)
by_first {first} {make} a b r s x y items one two equal =
    let f = items.back a x one in
    let g = items.back b y two in
    let same = items.definite.agrees (first ∷ a) (first ∷ b) r s f.0 g.0 f.1 g.1 tt tt equal in
    (same.0, f.2 ∙ ap make same.1 ∙ sym g.2)

with_first : (t : Kind) (a b r s : List Kind) (x y : Item) → IsItem (t ∷ a) x → IsItem (t ∷ b) y → ItemBy t a x → (t ∷ a) ++ r ≡ (t ∷ b) ++ s → (r ≡ s) × (x ≡ y)
with_first t a b r s x y one two (ItemBy.const is text) equal = subst (λ u. IsItem (u ∷ a) x → IsItem (u ∷ b) y → (u ∷ a) ++ r ≡ (u ∷ b) ++ s → (r ≡ s) × (x ≡ y)) (sym is) (by_first a b r s x y const_items) one two equal
with_first t a b r s x y one two (ItemBy.global is text) equal = subst (λ u. IsItem (u ∷ a) x → IsItem (u ∷ b) y → (u ∷ a) ++ r ≡ (u ∷ b) ++ s → (r ≡ s) × (x ≡ y)) (sym is) (by_first a b r s x y global_items) one two equal
with_first t a b r s x y one two (ItemBy.formula is text) equal = subst (λ u. IsItem (u ∷ a) x → IsItem (u ∷ b) y → (u ∷ a) ++ r ≡ (u ∷ b) ++ s → (r ≡ s) × (x ≡ y)) (sym is) (by_first a b r s x y formula_items) one two equal
with_first t a b r s x y one two (ItemBy.«module» is text) equal = subst (λ u. IsItem (u ∷ a) x → IsItem (u ∷ b) y → (u ∷ a) ++ r ≡ (u ∷ b) ++ s → (r ≡ s) × (x ≡ y)) (sym is) (by_first a b r s x y module_items) one two equal
with_first t a b r s x y one two (ItemBy.label is text) equal = subst (λ u. IsItem (u ∷ a) x → IsItem (u ∷ b) y → (u ∷ a) ++ r ≡ (u ∷ b) ++ s → (r ≡ s) × (x ≡ y)) (sym is) (by_first a b r s x y label_items) one two equal
with_first t a b r s x y one two (ItemBy.rewards is text) equal = subst (λ u. IsItem (u ∷ a) x → IsItem (u ∷ b) y → (u ∷ a) ++ r ≡ (u ∷ b) ++ s → (r ≡ s) × (x ≡ y)) (sym is) (by_first a b r s x y rewards_items) one two equal

items_agree : (a b r s : List Kind) (x y : Item) → IsItem a x → IsItem b y → a ++ r ≡ b ++ s → (r ≡ s) × (x ≡ y)
items_agree [] b r s x y one two equal = absurd (item_some x one)
items_agree (t ∷ a) [] r s x y one two equal = absurd (item_some y two)
items_agree (t ∷ a) (u ∷ b) r s x y one two equal =
    let same : u ≡ t = cc in
    let other : IsItem (t ∷ b) y = subst (λ v. IsItem (v ∷ b) y) same two in
    let whole : (t ∷ a) ++ r ≡ (t ∷ b) ++ s = equal ∙ ap (λ v. v ∷ (b ++ s)) same in
    with_first t a b r s x y one other (item_by t a x one) whole

pub item_definite : IsDefinite IsItem Anything
item_definite = closed (λ a b r s x y one two _ _ equal. items_agree a b r s x y one two equal)

pub item_has : HasText IsItem
item_has = record { tokens = const_has.tokens; tree = item.Const const_has.tree; text = model.IsItem.const const_has.text }

-- a token begins each
pub item_starts : Starts IsItem (λ t. Unit {0})
item_starts = record { some = λ z text. item_some z text; first = λ t a z text. tt }

pub items_repeat : Repeats IsItem Anything (λ t. Unit {0}) IsEnd
items_repeat = record { one = item_definite; starts = item_starts; next = λ t l is. tt; last = λ r follows. tt; stop = λ t l follows is. cc }

-- what is found of the rule is found of the item
pub item_found : {P : Type 0} {first : Kind} {Rule : List Kind → P → Type 0} {make : P → Item} {ts rest : List Token} {p : P} {m : ℕ}
    → ItemsBy first Rule make → Parses Rule Anything ts p rest m → Parses IsItem Anything ts (make p) rest (length rest)
item_found {make} {ts} {rest} {p} items one = found ts one.prefix rest (make p) item_definite one.cut (items.to (kinds one.prefix) p one.text) tt

no_item : {P : Type 0} {first : Kind} {Rule : List Kind → P → Type 0} {make : P → Item} (ts a after l : List Kind) (z : Item)
    → ItemsBy first Rule make → ((p q : List Kind) (x : P) → ts ≡ p ++ q → Rule p x → Anything q → ⊥) → ts ≡ first ∷ l → ts ≡ a ++ after → IsItem a z → ⊥
no_item ts [] after l z items none begins cut text = item_some z text
no_item {first} ts (t ∷ a) after l z items none begins cut text =
    let same : t ≡ first = cc in
    let other = items.back a z (subst (λ u. IsItem (u ∷ a) z) same text) in
    none (first ∷ a) after other.0 (cut ∙ ap (λ u. u ∷ (a ++ after)) same) other.1 tt

item_furthest : {P : Type 0} {first : Kind} {Rule : List Kind → P → Type 0} {make : P → Item} (ts a after l : List Kind) (left : ℕ)
    → ItemsBy first Rule make → IsReach (IsPrefix Rule) ts left → ts ≡ first ∷ l → ts ≡ a ++ after → IsPrefix IsItem a → left ≤ length after
item_furthest ts [] after l left items reach begins cut prefix = omega (arith, reach_within reach, ap length cut)
item_furthest {first} {Rule} ts (t ∷ a) after l left items reach begins cut prefix =
    let same : t ≡ first = cc in
    let other = items.back (a ++ prefix.more) prefix.tree (subst (λ u. IsItem (u ∷ (a ++ prefix.more)) prefix.tree) same prefix.text) in
    reach.furthest (first ∷ a) after (cut ∙ ap (λ u. u ∷ (a ++ after)) same) (record { more = prefix.more; tree = other.0; text = other.1 })

-- what is missing of the rule, where its word begins the tokens, is missing of the item
pub item_missing : {P : Type 0} {first : Kind} {Rule : List Kind → P → Type 0} {make : P → Item} (ts : List Token) (l : List Kind) (left : ℕ)
    → ItemsBy first Rule make → kinds ts ≡ first ∷ l → Fails Rule Anything ts left → Fails IsItem Anything ts left
item_missing {make} ts l left items begins fails = record {
  none = λ a after z cut text follows. no_item (kinds ts) a after l z items fails.none begins cut text;
  reach = record {
    prefix = fails.reach.prefix;
    rest = fails.reach.rest;
    cut = fails.reach.cut;
    count = fails.reach.count;
    begins = record { more = fails.reach.begins.more; tree = make fails.reach.begins.tree; text = items.to (fails.reach.prefix ++ fails.reach.begins.more) fails.reach.begins.tree fails.reach.begins.text };
    furthest = λ a after cut prefix. item_furthest (kinds ts) a after l left items fails.reach begins cut prefix;
  };
}

other_word : (t : Kind) (a : List Kind) (z : Item) → ItemBy t a z → (t ≡ k.Const → ⊥) → (t ≡ k.Global → ⊥) → (t ≡ k.Formula → ⊥) → (t ≡ k.Module → ⊥) → (t ≡ k.Label → ⊥) → (t ≡ k.Rewards → ⊥) → ⊥
other_word t a _ (ItemBy.const is text) w v u s r q = w is
other_word t a _ (ItemBy.global is text) w v u s r q = v is
other_word t a _ (ItemBy.formula is text) w v u s r q = u is
other_word t a _ (ItemBy.«module» is text) w v u s r q = s is
other_word t a _ (ItemBy.label is text) w v u s r q = r is
other_word t a _ (ItemBy.rewards is text) w v u s r q = q is

-- another word begins no item
abbrev pub BeginsItem : Kind → Type 0
BeginsItem t = (a : List Kind) × (z : Item) × ItemBy t a z

words_start : Starts IsItem BeginsItem
words_start = record { some = λ z text. item_some z text; first = λ t a z text. (a, z, item_by t a z text) }

pub no_word : (ts rest : List Token) (first : Token) → ts ≡ first ∷ rest → (first.kind ≡ k.Const → ⊥) → (first.kind ≡ k.Global → ⊥) → (first.kind ≡ k.Formula → ⊥)
    → (first.kind ≡ k.Module → ⊥) → (first.kind ≡ k.Label → ⊥) → (first.kind ≡ k.Rewards → ⊥) → Fails IsItem Anything ts (length ts)
no_word ts rest first cut w v u s r q =
    misses ts words_start item_has (λ t l equal by.
    let whole : kinds ts ≡ first.kind ∷ kinds rest = ap kinds cut in
    let same : t ≡ first.kind = cc in
    let by_first : BeginsItem first.kind = subst BeginsItem same by in
    other_word first.kind by_first.0 by_first.1 by_first.2 w v u s r q)

pub no_item_at_end : (ts : List Token) → length ts < 1 → Fails IsItem Anything ts 0
no_item_at_end [] short = misses [] words_start item_has (λ t l equal by. cc)
no_item_at_end (t ∷ ts) short = absurd (omega arith)
