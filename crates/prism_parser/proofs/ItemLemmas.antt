-- What is known of the items of a model, of which a rewards block is passed over.
use Rattle.std.proofs.Common.{ℕ, ◌+◌, ⊎_elim, List, ◌∷◌, ◌++◌, length, refl, sym, ap, ◌∙◌, subst, arith}
use Rattle.std.specs.Prelude.{All}
use Rattle.std.proofs.lemmas.List.{append_assoc, length-append}
use Rattle.prism_syntax.specs.declared.labels.Labels.TheVariants.{Refused}
use Rattle.prism_syntax.specs.declared.tokens.Kind.{Kind}
use Rattle.prism_syntax.specs.declared.tokens.Kind.TheVariants as k
use Rattle.prism_syntax.specs.declared.models.Item.{Item}
use Rattle.prism_syntax.specs.declared.models.Item.TheVariants as item
use Rattle.prism_syntax.specs.Models.{Each, IsRewards, IsItem}
use Rattle.prism_syntax.specs.WellFormed.{IsFormedKind, IsFormedConst, IsFormedFormula, IsFormedLabel, IsFormedVariable, IsFormedModule}
use Rattle.prism_limits.specs.Words.{EndsInRewards}
use Rattle.prism_limits.specs.Arrows.{IsLaterArrow}
use Rattle.prism_limits.proofs.ArrowPlaceLemmas.{AfterArrow, after_raised, no_arrow}
use Rattle.prism_limits.proofs.OthersLemmas.{are_others, others_outside}
use Rattle.prism_parser.specs.Models.{OneHas, in_first, in_later, HasLongConst, HasLongNamed, HasLongVariable, HasLongModule}
use Rattle.prism_parser.proofs.PrefixLemmas.{later_whole}
use Rattle.prism_parser.proofs.KnownLemmas.{Known}
use Rattle.prism_parser.proofs.SequenceLemmas.{first_or_later}
use Rattle.prism_parser.proofs.LineLemmas.{const_known, formula_known, label_known, global_known, module_known}
use Rattle.prism_parser.proofs.RewardsLemmas.{HasArrowOutside, StandsOutside, in_front, in_back, outside_parts, block_covers, ends_after_others, ends_after_block}

-- an item has a chain of two or more arrows
abbrev pub HasLongItem : Item → Type 0
HasLongItem (item.Const c) = HasLongConst c
HasLongItem (item.Global v) = HasLongVariable v
HasLongItem (item.Formula f) = HasLongNamed f
HasLongItem (item.Module m) = HasLongModule m
HasLongItem (item.Label f) = HasLongNamed f
HasLongItem item.Rewards = ⊥

-- an item is well formed
abbrev pub IsFormedItem : Item → Type 0
IsFormedItem (item.Const c) = IsFormedConst c
IsFormedItem (item.Global v) = IsFormedVariable v
IsFormedItem (item.Formula f) = IsFormedFormula f
IsFormedItem (item.Module m) = IsFormedModule m
IsFormedItem (item.Label f) = IsFormedLabel f
IsFormedItem item.Rewards = Unit {0}

-- an item is a rewards block, or a line of which all is known
data SeenItem (a : List Kind) : Item → Type 0 where
  block : IsRewards a → SeenItem a item.Rewards
  line : {x : Item} → Known a (HasLongItem x) (IsFormedItem x) → SeenItem a x

see : {a : List Kind} {x : Item} → IsItem a x → SeenItem a x
see {a = a} (IsItem.const {c = c} text) = line (const_known a c text)
see {a = a} (IsItem.global {v = v} text) = line (global_known a v text)
see {a = a} (IsItem.formula {f = f} text) = line (formula_known a f text)
see {a = a} (IsItem.«module» {m = m} text) = line (module_known a m text)
see {a = a} (IsItem.label {f = f} text) = line (label_known a f text)
see (IsItem.rewards text) = block text

-- what comes after an arrow of an item that stands outside
item_after : {a : List Kind} {x : Item} (more rest : List Kind) → SeenItem a x → HasArrowOutside a rest → AfterArrow Refused (HasLongItem x) (rest ++ more)
item_after more rest (block text) arrow = absurd (block_covers text arrow)
item_after more rest (line known) arrow = known.after more rest (arrow.before, arrow.cut)

-- of an item and others
either_after : {a b : List Kind} {x : Item} {xs : List Item} (more rest : List Kind) → SeenItem a x → (HasArrowOutside b rest → AfterArrow Refused (OneHas HasLongItem xs) (rest ++ more))
    → StandsOutside a b rest → AfterArrow Refused (OneHas HasLongItem (x ∷ xs)) (rest ++ more)
either_after {b = b} {x = x} {xs = xs} more rest seen others (in_front inner here is) =
    subst (AfterArrow Refused (OneHas HasLongItem (x ∷ xs))) (sym (ap (λ z. z ++ more) is ∙ append_assoc inner b more)) (after_raised in_first (item_after (b ++ more) inner seen here))
either_after more rest seen others (in_back there) = after_raised in_later (others there)

-- and of items
pub items_after : {ks : List Kind} {items : List Item} (more rest : List Kind) → Each IsItem ks items → HasArrowOutside ks rest → AfterArrow Refused (OneHas HasLongItem items) (rest ++ more)
items_after more rest Each.end arrow = absurd (no_arrow rest (arrow.before, arrow.cut))
items_after more rest (Each.more {a = a} {b = b} first others) arrow =
    either_after more rest (see first) (λ there. items_after more rest others there) (outside_parts a b arrow)

-- the tokens have a later arrow
abbrev pub HasLaterArrow : List Kind → Type 0
HasLaterArrow tokens = (index : ℕ) × IsLaterArrow Refused tokens index

-- so has a line that is long
line_later : {a : List Kind} {L G : Type 0} → Known a L G → L → HasLaterArrow a
line_later known long =
    let two = known.two long in (
      length two.before + (1 + length two.operand),
      record {
        before = two.before;
        operand = two.operand;
        after = two.after;
        tree = two.tree;
        cut = two.cut;
        count = refl;
        text = two.text;
        outside = others_outside two.before (k.Implies ∷ (two.operand ++ (k.Implies ∷ two.after))) (ap are_others (sym two.cut) ∙ known.others);
      },
    )

item_later : {a : List Kind} {x : Item} → SeenItem a x → HasLongItem x → HasLaterArrow a
item_later (block text) long = absurd long
item_later (line known) long = line_later known long

-- no block that is open at an item's end began in it
item_past : {a : List Kind} {x : Item} (b : List Kind) → SeenItem a x → EndsInRewards (a ++ b) → EndsInRewards b
item_past b (block text) ends = ends_after_block b text ends
item_past {a = a} b (line known) ends = ends_after_others a b known.others ends

-- a later arrow is one behind other tokens, where no block that they begin goes on
pub later_behind : {b : List Kind} (a : List Kind) → ((c : List Kind) → EndsInRewards (a ++ c) → EndsInRewards c) → HasLaterArrow b → HasLaterArrow (a ++ b)
later_behind a past (index, later) = (
  length a + index,
  record {
    before = a ++ later.before;
    operand = later.operand;
    after = later.after;
    tree = later.tree;
    cut = ap (λ z. a ++ z) later.cut ∙ sym (append_assoc a later.before (k.Implies ∷ (later.operand ++ (k.Implies ∷ later.after))));
    count = let sizes = length-append a later.before in let count = later.count in omega arith;
    text = later.text;
    outside = λ ends. later.outside (past later.before ends);
  },
)

-- and so have items of which one is
pub items_later : {ks : List Kind} {items : List Item} → Each IsItem ks items → OneHas HasLongItem items → HasLaterArrow ks
items_later Each.end long = absurd (first_or_later long)
items_later (Each.more {a = a} {b = b} first others) long =
    ⊎_elim
    (λ here. let later = item_later (see first) here in (later.0, later_whole a b later.1))
    (λ there. later_behind a (λ c ends. item_past c (see first) ends) (items_later others there))
    (first_or_later long)

-- an item of well-formed tokens that is not long is well formed
seen_formed : {a : List Kind} {x : Item} → SeenItem a x → All IsFormedKind a → (HasLongItem x → ⊥) → IsFormedItem x
seen_formed (block passed) all short = tt
seen_formed (line known) all short = known.formed all short

pub item_formed : {a : List Kind} {x : Item} → IsItem a x → All IsFormedKind a → (HasLongItem x → ⊥) → IsFormedItem x
item_formed text all short = seen_formed (see text) all short
