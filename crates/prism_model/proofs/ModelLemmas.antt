-- Whole models: one of two words, and then items.
use Rattle.std.proofs.Common.{◌≡◌, ℕ, ◌==◌, Bool, true, false, ◌≤◌, ◌<◌, List, [], ◌∷◌, ◌++◌, length, refl, sym, ◌∙◌, ap, subst, arith, append-nil}
use Rattle.std.proofs.lemmas.List.{length-map}
use Rattle.std.proofs.lemmas.Bool.Decides.{nat_tests}
use Rattle.prism_syntax.specs.declared.tokens.Kind.{Kind}
use Rattle.prism_syntax.specs.declared.tokens.Kind.TheVariants as k
use Rattle.prism_syntax.specs.declared.tokens.Token.{Token}
use Rattle.prism_syntax.specs.declared.models.Item.{Item}
use Rattle.prism_syntax.specs.declared.models.Item.TheVariants as item
use Rattle.prism_syntax.specs.declared.models.ModelText.{ModelText}
use Rattle.prism_syntax.specs.Tokens.{kinds}
use Rattle.prism_syntax.specs.Models.{IsItem, IsModel, Each, with_item, model_of}
use Rattle.prism_syntax.specs.Models as model
use Rattle.prism_reading.specs.Reach.{IsPrefix, IsReach}
use Rattle.prism_reading.specs.Reading.{Anything, Parses, Fails}
use Rattle.prism_reading.proofs.OverlapLemmas.{tails}
use Rattle.prism_reading.proofs.DefiniteLemmas.{reach_within}
use Rattle.prism_reading.proofs.EachLemmas.{Onward, onward_begun, each_onward, onward_ended, each_definite, next_missing}
use Rattle.prism_model.specs.Parts.{IsEnd, with_last, AreItems}
use Rattle.prism_model.proofs.ItemLemmas.{items_repeat}

-- an item more in front and one more behind, in either order
commute : (y x : Item) (m : ModelText) → with_item y (with_last m x) ≡ with_last (with_item y m) x
commute (item.Const c) (item.Const d) m = refl
commute (item.Global c) (item.Global d) m = refl
commute (item.Formula c) (item.Formula d) m = refl
commute (item.Module c) (item.Module d) m = refl
commute (item.Label c) (item.Label d) m = refl
commute _ _ m = refl

one_item : (x : Item) → model_of (x ∷ []) ≡ with_last (model_of []) x
one_item (item.Const c) = refl
one_item (item.Global c) = refl
one_item (item.Formula c) = refl
one_item (item.Module c) = refl
one_item (item.Label c) = refl
one_item item.Rewards = refl

-- the model of some items and one more
model_more : (xs : List Item) (x : Item) → model_of (xs ++ (x ∷ [])) ≡ with_last (model_of xs) x
model_more [] x = one_item x
model_more (y ∷ xs) x = ap (with_item y) (model_more xs x) ∙ commute y x (model_of xs)

-- some items are collected
pub record Collected (ts : List Token) (m : ModelText) (rest : List Token) : Type 0 where
  pub seen : List Item
  pub onward : Onward (Each IsItem) IsEnd ts seen rest
  pub is : m ≡ model_of seen

pub collected_begun : (ts : List Token) (m : ModelText) → m ≡ model_of [] → Collected ts m ts
collected_begun ts m is = record { seen = []; onward = onward_begun (Each IsItem) IsEnd ts; is = is }

not_end : (ts : List Token) → (length ts ≡ 0 → ⊥) → IsEnd (kinds ts) → ⊥
not_end ts some none = some (sym (length-map ts (λ t. t.kind)) ∙ ap length none)

-- one item more
pub collected_more : {ts rest next : List Token} {m after : ModelText} {x : Item} {n : ℕ} → Collected ts m rest → (length rest ≡ 0 → ⊥)
    → Parses IsItem Anything rest x next n → after ≡ with_last m x → Collected ts after next
collected_more {rest} {x} before some one is = record {
  seen = before.seen ++ (x ∷ []);
  onward = each_onward items_repeat (not_end rest some) before.onward one;
  is = is ∙ ap (λ m. with_last m x) before.is ∙ sym (model_more before.seen x);
}

no_tokens : (ts : List Token) → length ts ≡ 0 → ts ≡ []
no_tokens [] none = refl
no_tokens (t ∷ ts) none = absurd (omega arith)

-- all are collected
pub collected_all : {ts rest : List Token} {m : ModelText} → Collected ts m rest → length rest ≡ 0 → AreItems ts m
collected_all {ts} {rest} before none =
    let all = onward_ended items_repeat before.onward (ap kinds (no_tokens rest none)) in
    let whole : ts ≡ all.prefix = all.cut ∙ ap (λ l. all.prefix ++ l) (no_tokens rest none) ∙ append-nil all.prefix in
    record { items = before.seen; texts = subst (λ l. Each IsItem (kinds l) before.seen) (sym whole) all.text; is = before.is }

-- an item is missing
pub items_missing : {ts rest : List Token} {m : ModelText} {left : ℕ} → Collected ts m rest → (length rest ≡ 0 → ⊥) → Fails IsItem Anything rest left → Fails (Each IsItem) IsEnd ts left
items_missing {rest} {left} before some fails = before.onward.none left (next_missing items_repeat (not_end rest some) fails)

equal_zero : (n : ℕ) → (n == 0) ≡ true → n ≡ 0
equal_zero n test = grind (arith, nat_tests)

unequal_zero : (n : ℕ) → (n == 0) ≡ false → n ≡ 0 → ⊥
unequal_zero n test none = grind (arith, nat_tests)

-- whether some are left
pub some_left : (n : ℕ) {b : Bool} → b ≡ (n == 0) → b ≡ false → n ≡ 0 → ⊥
some_left n is test none = unequal_zero n (sym is ∙ test) none

pub none_left : (n : ℕ) {b : Bool} → b ≡ (n == 0) → b ≡ true → n ≡ 0
none_left n is test = equal_zero n (sym is ∙ test)

-- a model is one of two words, and items
model_words : (l : List Kind) (m : ModelText) → IsModel l m → (t : Kind) (rest : List Kind) → l ≡ t ∷ rest → (items : List Item) × Each IsItem rest items × (m ≡ model_of items)
model_words _ _ (model.IsModel.dtmc {a} {items} text) t rest equal = (items, subst (λ l. Each IsItem l items) (tails equal) text, refl)
model_words _ _ (model.IsModel.probabilistic {a} {items} text) t rest equal = (items, subst (λ l. Each IsItem l items) (tails equal) text, refl)

not_empty : (l : List Kind) (m : ModelText) → IsModel l m → l ≡ [] → ⊥
not_empty _ _ (model.IsModel.dtmc text) equal = cc
not_empty _ _ (model.IsModel.probabilistic text) equal = cc

-- a word that begins models: items after it are one
pub record Word (word : Kind) : Type 0 where
  pub of : (a : List Kind) (items : List Item) → Each IsItem a items → IsModel (word ∷ a) (model_of items)

pub dtmc : Word k.Dtmc
dtmc = record { of = λ a items text. model.IsModel.dtmc text }

pub probabilistic : Word k.Probabilistic
probabilistic = record { of = λ a items text. model.IsModel.probabilistic text }

-- what is found after the word
word_found : {word : Kind} (ts rest : List Token) {m : ModelText} → Word word → kinds ts ≡ word ∷ kinds rest → AreItems rest m → IsModel (kinds ts) m
word_found {word} ts rest {m} w begins items =
    subst (λ l. IsModel l m) (sym begins) (subst (λ n. IsModel (word ∷ kinds rest) n) (sym items.is) (w.of (kinds rest) items.items items.texts))

no_items : {word : Kind} (ts rest : List Token) {left : ℕ} (m : ModelText) → kinds ts ≡ word ∷ kinds rest → Fails (Each IsItem) IsEnd rest left → IsModel (kinds ts) m → ⊥
no_items {word} ts rest m begins fails text =
    let parts = model_words (kinds ts) m text word (kinds rest) begins in
    fails.none (kinds rest) [] parts.0 (sym (append-nil (kinds rest))) parts.1 refl

word_furthest : {word : Kind} (ts rest : List Token) {left : ℕ} (p after : List Kind) → kinds ts ≡ word ∷ kinds rest → Fails (Each IsItem) IsEnd rest left → kinds ts ≡ p ++ after → IsPrefix IsModel p → left ≤ length after
word_furthest ts rest [] after begins fails cut prefix = omega (arith, reach_within fails.reach, ap length begins, ap length cut)
word_furthest {word} ts rest (t ∷ p) after begins fails cut prefix =
    let parts = model_words (t ∷ (p ++ prefix.more)) prefix.tree prefix.text t (p ++ prefix.more) refl in
    let same : t ∷ (p ++ after) ≡ word ∷ kinds rest = sym cut ∙ begins in
    fails.reach.furthest p after (sym (tails same)) (record { more = prefix.more; tree = parts.0; text = parts.1 })

-- what is missing after the word
word_missing : {word : Kind} (ts rest : List Token) {left : ℕ} → Word word → kinds ts ≡ word ∷ kinds rest → Fails (Each IsItem) IsEnd rest left
    → ((tree : ModelText) → IsModel (kinds ts) tree → ⊥) × IsReach (IsPrefix IsModel) (kinds ts) left
word_missing {word} ts rest w begins fails = (
  λ tree text. no_items ts rest tree begins fails text,
  record {
    prefix = word ∷ fails.reach.prefix;
    rest = fails.reach.rest;
    cut = begins ∙ ap (λ l. word ∷ l) fails.reach.cut;
    count = fails.reach.count;
    begins = record { more = fails.reach.begins.more; tree = model_of fails.reach.begins.tree; text = w.of (fails.reach.prefix ++ fails.reach.begins.more) fails.reach.begins.tree fails.reach.begins.text };
    furthest = λ p after cut prefix. word_furthest ts rest p after begins fails cut prefix;
  },
)

pub dtmc_found : (ts rest : List Token) {m : ModelText} → kinds ts ≡ k.Dtmc ∷ kinds rest → AreItems rest m → IsModel (kinds ts) m
dtmc_found ts rest begins items = word_found ts rest dtmc begins items

pub probabilistic_found : (ts rest : List Token) {m : ModelText} → kinds ts ≡ k.Probabilistic ∷ kinds rest → AreItems rest m → IsModel (kinds ts) m
probabilistic_found ts rest begins items = word_found ts rest probabilistic begins items

pub dtmc_missing : (ts rest : List Token) {left : ℕ} → kinds ts ≡ k.Dtmc ∷ kinds rest → Fails (Each IsItem) IsEnd rest left
    → ((tree : ModelText) → IsModel (kinds ts) tree → ⊥) × IsReach (IsPrefix IsModel) (kinds ts) left
dtmc_missing ts rest begins fails = word_missing ts rest dtmc begins fails

pub probabilistic_missing : (ts rest : List Token) {left : ℕ} → kinds ts ≡ k.Probabilistic ∷ kinds rest → Fails (Each IsItem) IsEnd rest left
    → ((tree : ModelText) → IsModel (kinds ts) tree → ⊥) × IsReach (IsPrefix IsModel) (kinds ts) left
probabilistic_missing ts rest begins fails = word_missing ts rest probabilistic begins fails

-- nothing is a prefix of a model
pub empty_begins : IsPrefix IsModel []
empty_begins = record { more = k.Dtmc ∷ []; tree = model_of []; text = model.IsModel.dtmc model.Each.end }

first_word : (t : Kind) (l : List Kind) (m : ModelText) → IsModel (t ∷ l) m → (t ≡ k.Dtmc → ⊥) → (t ≡ k.Probabilistic → ⊥) → ⊥
first_word t l _ (model.IsModel.dtmc text) one two = one refl
first_word t l _ (model.IsModel.probabilistic text) one two = two refl

other_furthest : (ts p after l : List Kind) (t : Kind) → ts ≡ t ∷ l → (t ≡ k.Dtmc → ⊥) → (t ≡ k.Probabilistic → ⊥) → ts ≡ p ++ after → IsPrefix IsModel p → length ts ≤ length after
other_furthest ts [] after l t begins one two cut prefix = omega (arith, ap length cut)
other_furthest ts (u ∷ p) after l t begins one two cut prefix =
    let same : u ≡ t = cc in
    absurd (first_word u (p ++ prefix.more) prefix.tree prefix.text (λ is. one (sym same ∙ is)) (λ is. two (sym same ∙ is)))

-- another word begins no model
pub no_model : (ts rest : List Token) (first : Token) → ts ≡ first ∷ rest → (first.kind ≡ k.Dtmc → ⊥) → (first.kind ≡ k.Probabilistic → ⊥)
    → ((tree : ModelText) → IsModel (kinds ts) tree → ⊥) × IsReach (IsPrefix IsModel) (kinds ts) (length ts)
no_model ts rest first cut one two = (
  λ tree text. first_word first.kind (kinds rest) tree (subst (λ l. IsModel l tree) (ap kinds cut) text) one two,
  record {
    prefix = [];
    rest = kinds ts;
    cut = refl;
    count = length-map ts (λ t. t.kind);
    begins = empty_begins;
    furthest = λ p after equal prefix. omega (arith, other_furthest (kinds ts) p after (kinds rest) first.kind (ap kinds cut) one two equal prefix, length-map ts (λ t. t.kind));
  },
)

pub no_model_at_end : (ts : List Token) → length ts < 1 → ((tree : ModelText) → IsModel (kinds ts) tree → ⊥) × IsReach (IsPrefix IsModel) (kinds ts) 0
no_model_at_end [] short = (
  λ tree text. not_empty [] tree text refl,
  record { prefix = []; rest = []; cut = refl; count = refl; begins = empty_begins; furthest = λ p after cut prefix. omega arith },
)
no_model_at_end (t ∷ ts) short = absurd (omega arith)

-- two models with the same tokens have one tree
same_items : (l : List Kind) (x y : List Item) → Each IsItem l x → Each IsItem l y → x ≡ y
same_items l x y one two = ((each_definite items_repeat).agrees l l [] [] x y one two refl refl refl).1

pub one_model : {l : List Kind} {x y : ModelText} → IsModel l x → IsModel l y → x ≡ y
one_model {l = []} {x} one two = absurd (not_empty [] x one refl)
one_model {l = t ∷ l} {x} {y} one two =
    let f = model_words (t ∷ l) x one t l refl in
    let g = model_words (t ∷ l) y two t l refl in
    f.2 ∙ ap model_of (same_items l f.0 g.0 f.1 g.1) ∙ sym g.2
