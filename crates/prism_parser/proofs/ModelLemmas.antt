-- A model has a long chain exactly where its tokens have a later arrow, and otherwise it is well formed where its tokens are.
use Rattle.std.proofs.Common.{◌≡◌, true, ℕ, ◌⊎◌, inl, inr, ⊎_elim, List, [], ◌∷◌, ◌++◌, refl, sym, ap, ◌∙◌, append-nil}
use Rattle.std.specs.Prelude.{All, Result, Ok, Err, IfOk}
use Rattle.std.proofs.lemmas.List.Elements.{All-nil, All-cons, All-tail, All-map}
use Rattle.prism_syntax.specs.declared.labels.Labels.TheVariants.{Refused}
use Rattle.prism_syntax.specs.declared.tokens.Kind.{Kind}
use Rattle.prism_syntax.specs.declared.tokens.Kind.TheVariants as k
use Rattle.prism_syntax.specs.declared.tokens.Token.{Token}
use Rattle.prism_syntax.specs.declared.models.Item.{Item}
use Rattle.prism_syntax.specs.declared.models.Item.TheVariants as item
use Rattle.prism_syntax.specs.declared.models.ModelText.{ModelText}
use Rattle.prism_syntax.specs.Tokens.{kinds}
use Rattle.prism_syntax.specs.Models.{Each, IsItem, IsModel, with_item, model_of}
use Rattle.prism_syntax.specs.WellFormed.{IsFormedKind, IsFormedConst, IsFormedFormula, IsFormedLabel, IsFormedVariable, IsFormedModule, IsFormedModel}
use Rattle.prism_reading.proofs.ReachLemmas.{reach_one}
use Rattle.prism_expression.proofs.FormedLemmas.{all_front, all_rest}
use Rattle.prism_expression.proofs.CompareLemmas.{agreed}
use Rattle.prism_model.proofs.ModelLemmas.{one_model}
use Rattle.prism_limits.specs.declared.kinds.TextKind.TheVariants.{Model}
use Rattle.prism_limits.specs.Arrows.{IsLaterArrow}
use Rattle.prism_limits.specs.ChainWalk.{begins_arrow}
use Rattle.prism_limits.proofs.ArrowPlaceLemmas.{AfterArrow, after_raised}
use Rattle.prism_limits.proofs.OthersLemmas.{are_others}
use Rattle.prism_parser.specs.declared.fault.ParseFault.{ParseFault}
use Rattle.prism_parser.specs.Models.{OneHas, in_first, in_later, HasLongConst, HasLongNamed, HasLongVariable, HasLongModule, HasLongModel, in_const, in_global, in_formula, in_module, in_label}
use Rattle.prism_parser.specs.Outcome.{IsNoText, Tells}
use Rattle.prism_parser.proofs.OutcomeLemmas.{IsDecided}
use Rattle.prism_parser.proofs.SequenceLemmas.{first_or_later}
use Rattle.prism_parser.proofs.RewardsLemmas.{HasArrowOutside, outside_tail, ends_after_others}
use Rattle.prism_parser.proofs.ItemLemmas.{HasLongItem, IsFormedItem, items_after, HasLaterArrow, later_behind, items_later, item_formed}

-- a model that has what another has is long where that one is
model_raised : {m n : ModelText}
    → (OneHas HasLongConst m.consts → OneHas HasLongConst n.consts) → (OneHas HasLongVariable m.globals → OneHas HasLongVariable n.globals)
    → (OneHas HasLongNamed m.formulas → OneHas HasLongNamed n.formulas) → (OneHas HasLongModule m.modules → OneHas HasLongModule n.modules)
    → (OneHas HasLongNamed m.labels → OneHas HasLongNamed n.labels) → HasLongModel m → HasLongModel n
model_raised consts globals formulas modules labels (in_const one) = in_const (consts one)
model_raised consts globals formulas modules labels (in_global one) = in_global (globals one)
model_raised consts globals formulas modules labels (in_formula one) = in_formula (formulas one)
model_raised consts globals formulas modules labels (in_module one) = in_module (modules one)
model_raised consts globals formulas modules labels (in_label one) = in_label (labels one)

same : {L : Type 0} → L → L
same long = long

-- a model with one item more is long where it was
with_later : (x : Item) (m : ModelText) → HasLongModel m → HasLongModel (with_item x m)
with_later (item.Const c) m long = model_raised in_later same same same same long
with_later (item.Global v) m long = model_raised same in_later same same same long
with_later (item.Formula f) m long = model_raised same same in_later same same long
with_later (item.Module d) m long = model_raised same same same in_later same long
with_later (item.Label f) m long = model_raised same same same same in_later long
with_later item.Rewards m long = long

-- and where the item is
with_first : (x : Item) (m : ModelText) → HasLongItem x → HasLongModel (with_item x m)
with_first (item.Const c) m long = in_const (in_first long)
with_first (item.Global v) m long = in_global (in_first long)
with_first (item.Formula f) m long = in_formula (in_first long)
with_first (item.Module d) m long = in_module (in_first long)
with_first (item.Label f) m long = in_label (in_first long)
with_first item.Rewards m long = absurd long

-- so a model is long where one of its items is
model_long : (items : List Item) → OneHas HasLongItem items → HasLongModel (model_of items)
model_long [] long = absurd (first_or_later long)
model_long (x ∷ items) long = ⊎_elim (λ here. with_first x (model_of items) here) (λ there. with_later x (model_of items) (model_long items there)) (first_or_later long)

-- a model that has something more than another has is long where that is, or where the other is
model_split : {S : Type 0} {m n : ModelText}
    → (OneHas HasLongConst m.consts → S ⊎ OneHas HasLongConst n.consts) → (OneHas HasLongVariable m.globals → S ⊎ OneHas HasLongVariable n.globals)
    → (OneHas HasLongNamed m.formulas → S ⊎ OneHas HasLongNamed n.formulas) → (OneHas HasLongModule m.modules → S ⊎ OneHas HasLongModule n.modules)
    → (OneHas HasLongNamed m.labels → S ⊎ OneHas HasLongNamed n.labels) → HasLongModel m → S ⊎ HasLongModel n
model_split consts globals formulas modules labels (in_const one) = ⊎_elim inl (λ rest. inr (in_const rest)) (consts one)
model_split consts globals formulas modules labels (in_global one) = ⊎_elim inl (λ rest. inr (in_global rest)) (globals one)
model_split consts globals formulas modules labels (in_formula one) = ⊎_elim inl (λ rest. inr (in_formula rest)) (formulas one)
model_split consts globals formulas modules labels (in_module one) = ⊎_elim inl (λ rest. inr (in_module rest)) (modules one)
model_split consts globals formulas modules labels (in_label one) = ⊎_elim inl (λ rest. inr (in_label rest)) (labels one)

-- with one item more it is long where the item is, or where it was before
with_parts : (x : Item) (m : ModelText) → HasLongModel (with_item x m) → HasLongItem x ⊎ HasLongModel m
with_parts (item.Const c) m long = model_split (λ one. first_or_later one) inr inr inr inr long
with_parts (item.Global v) m long = model_split inr (λ one. first_or_later one) inr inr inr long
with_parts (item.Formula f) m long = model_split inr inr (λ one. first_or_later one) inr inr long
with_parts (item.Module d) m long = model_split inr inr inr (λ one. first_or_later one) inr long
with_parts (item.Label f) m long = model_split inr inr inr inr (λ one. first_or_later one) long
with_parts item.Rewards m long = inr long

-- a model without items is not long
none_long : HasLongModel (model_of []) → ⊥
none_long (in_const one) = absurd (first_or_later one)
none_long (in_global one) = absurd (first_or_later one)
none_long (in_formula one) = absurd (first_or_later one)
none_long (in_module one) = absurd (first_or_later one)
none_long (in_label one) = absurd (first_or_later one)

-- so one of its items is long where it is
long_model : (items : List Item) → HasLongModel (model_of items) → OneHas HasLongItem items
long_model [] long = absurd (none_long long)
long_model (x ∷ items) long = ⊎_elim in_first (λ there. in_later (long_model items there)) (with_parts x (model_of items) long)

-- what comes after an arrow of a model that stands outside
model_after : {ks : List Kind} {m : ModelText} (rest : List Kind) → IsModel ks m → HasArrowOutside ks rest → AfterArrow Refused (HasLongModel m) (rest ++ [])
model_after rest (IsModel.dtmc {items = items} texts) arrow = after_raised (λ long. model_long items long) (items_after [] rest texts (outside_tail (λ is. cc) arrow))
model_after rest (IsModel.probabilistic {items = items} texts) arrow = after_raised (λ long. model_long items long) (items_after [] rest texts (outside_tail (λ is. cc) arrow))

-- a later arrow stands in the tokens of a model with a long chain
pub later_model : {ks : List Kind} {m : ModelText} {index : ℕ} → IsModel ks m → IsLaterArrow Refused ks index → HasLongModel m
later_model text arrow =
    let outside : HasArrowOutside _ (arrow.operand ++ (k.Implies ∷ arrow.after)) = record { before = arrow.before; cut = arrow.cut; outside = arrow.outside } in
    let next : AfterArrow _ _ _ = model_after (arrow.operand ++ (k.Implies ∷ arrow.after)) text outside in
    let equal = agreed next.text arrow.text (sym next.cut ∙ append-nil (arrow.operand ++ (k.Implies ∷ arrow.after))) next.ends refl in
    next.long (ap begins_arrow equal.1)

-- and the tokens of a model with a long chain have a later arrow
word_later : {ks : List Kind} (t : Kind) → are_others (t ∷ []) ≡ true → HasLaterArrow ks → HasLaterArrow (t ∷ ks)
word_later t other later = later_behind (t ∷ []) (λ c ends. ends_after_others (t ∷ []) c other ends) later

pub model_later : {ks : List Kind} {m : ModelText} → IsModel ks m → HasLongModel m → HasLaterArrow ks
model_later (IsModel.dtmc {items = items} texts) long = word_later k.Dtmc refl (items_later texts (long_model items long))
model_later (IsModel.probabilistic {items = items} texts) long = word_later k.Probabilistic refl (items_later texts (long_model items long))

-- a model with one item more is well formed where both are
with_formed : (x : Item) (m : ModelText) → IsFormedItem x → IsFormedModel m → IsFormedModel (with_item x m)
with_formed (item.Const c) m one more =
    record { consts = All-cons IsFormedConst c m.consts one more.consts; globals = more.globals; formulas = more.formulas; modules = more.modules; labels = more.labels }
with_formed (item.Global v) m one more =
    record { consts = more.consts; globals = All-cons IsFormedVariable v m.globals one more.globals; formulas = more.formulas; modules = more.modules; labels = more.labels }
with_formed (item.Formula f) m one more =
    record { consts = more.consts; globals = more.globals; formulas = All-cons IsFormedFormula f m.formulas one more.formulas; modules = more.modules; labels = more.labels }
with_formed (item.Module d) m one more =
    record { consts = more.consts; globals = more.globals; formulas = more.formulas; modules = All-cons IsFormedModule d m.modules one more.modules; labels = more.labels }
with_formed (item.Label f) m one more =
    record { consts = more.consts; globals = more.globals; formulas = more.formulas; modules = more.modules; labels = All-cons IsFormedLabel f m.labels one more.labels }
with_formed item.Rewards m one more = more

-- the items of a model
items_formed : {ks : List Kind} {items : List Item} → Each IsItem ks items → All IsFormedKind ks → (OneHas HasLongItem items → ⊥) → IsFormedModel (model_of items)
items_formed Each.end all short = record {
  consts = All-nil IsFormedConst;
  globals = All-nil IsFormedVariable;
  formulas = All-nil IsFormedFormula;
  modules = All-nil IsFormedModule;
  labels = All-nil IsFormedLabel;
}
items_formed (Each.more {a = a} {b = b} {x = x} {xs = xs} first others) all short =
    with_formed x (model_of xs)
    (item_formed first (all_front IsFormedKind a b all) (λ long. short (in_first long)))
    (items_formed others (all_rest IsFormedKind a b all) (λ long. short (in_later long)))

-- a model of well-formed tokens that is not long is well formed
model_formed : {ks : List Kind} {m : ModelText} → IsModel ks m → All IsFormedKind ks → (HasLongModel m → ⊥) → IsFormedModel m
model_formed (IsModel.dtmc {a = a} {items = items} texts) all short = items_formed texts (All-tail IsFormedKind k.Dtmc a all) (λ long. short (model_long items long))
model_formed (IsModel.probabilistic {a = a} {items = items} texts) all short = items_formed texts (All-tail IsFormedKind k.Probabilistic a all) (λ long. short (model_long items long))

-- what is told of well-formed tokens
pub told_model : (tokens : List Token) (answer : Result ModelText ParseFault) → Tells Model (IsModel (kinds tokens)) HasLongModel (IsNoText IsModel (kinds tokens)) tokens 0 answer
    → All (λ token. IsFormedKind token.kind) tokens → IfOk answer IsFormedModel
told_model tokens (Ok tree) accepted formed = model_formed accepted.found (All-map IsFormedKind (λ token. token.kind) tokens formed) accepted.short
told_model tokens (Err fault) told formed = tt

-- tokens are one model, or none
pub model_decided : (ks : List Kind) → IsDecided (IsModel ks) (IsNoText IsModel ks)
model_decided ks = record {
  one = λ x y first second. one_model first second;
  apart = λ x left text none. none.none x text;
  same = λ m n first second. reach_one first.reach second.reach;
}
