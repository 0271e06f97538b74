-- The tokens of a flat text that comes from a model are a model, and its tree is the flat text.
use Rattle.std.proofs.Common.{◌≡◌, List, [], ◌∷◌, ◌++◌, Option, map, find, bytes_eq, codes, true, refl, sym, ap, ◌∙◌, subst, unwrap_or}
use Rattle.std.specs.Prelude.{None, Some, All, flat_map}
use mathlib.Core.Logic.{inl, inr}
use Rattle.std.specs.Option.{option_map}
use Rattle.std.proofs.lemmas.List.{append_assoc, append-nil}
use Rattle.std.proofs.lemmas.List.Elements.{All-nil, All-cons, All-head, All-tail}
use Rattle.prism_syntax.specs.declared.labels.Labels.TheVariants.{Refused}
use Rattle.prism_syntax.specs.declared.tokens.Kind.{Kind}
use Rattle.prism_syntax.specs.declared.tokens.Kind.TheVariants as k
use Rattle.prism_syntax.specs.declared.expressions.Expr.{Expr}
use Rattle.prism_syntax.specs.declared.expressions.Expr.TheVariants as e
use Rattle.prism_syntax.specs.declared.precedence.Precedence.{Precedence}
use Rattle.prism_syntax.specs.declared.precedence.Precedence.TheVariants as rule
use Rattle.prism_syntax.specs.declared.models.ConstText.{ConstText}
use Rattle.prism_syntax.specs.declared.models.Named.{Named}
use Rattle.prism_syntax.specs.declared.models.Variable.{Variable}
use Rattle.prism_syntax.specs.declared.models.Module.{Module}
use Rattle.prism_syntax.specs.declared.models.Module.TheVariants.{Written}
use Rattle.prism_syntax.specs.declared.models.Item.{Item}
use Rattle.prism_syntax.specs.declared.models.Item.TheVariants as item
use Rattle.prism_syntax.specs.declared.models.ModelText.{ModelText}
use Rattle.prism_syntax.specs.declared.models.FlatText.{FlatText}
use Rattle.prism_syntax.specs.Spelling.{spelling_of}
use Rattle.prism_syntax.specs.Tokens as cut
use Rattle.prism_syntax.specs.WellFormed.{IsFormedKind, IsFormedName}
use Rattle.prism_syntax.specs.Precedence.{inner, is_chain}
use Rattle.prism_syntax.specs.Expressions.{Derives, chain, bare, plain, end}
use Rattle.prism_syntax.specs.Models.{Each, Separated, IsConst, IsFormula, IsLabel, IsVariable, IsCommand, IsPair, IsModule, IsGlobal, IsItem, with_item, model_of, IsModel}
use Rattle.prism_syntax.specs.Replaced.{replaced}
use Rattle.prism_names.specs.First.{Name}
use Rattle.module_expand.specs.Expanded.{stands_for, with_body, AreExpanded}
use Rattle.module_expand.specs.Renamed.{no_names, right_of, as_tree, copied_variable, variables_of, commands_of}
use Rattle.module_expand.specs.Flat.{is_written_as, source_of, flat_const, flat_module, IsFlat}
use Rattle.module_expand.proofs.FirstLemmas.{some_same, not_none}
use Rattle.module_expand.proofs.FlatFormedLemmas.{found_holds}
use Rattle.prism_print.specs.Pieces.{Piece, tokens_of}
use Rattle.prism_print.specs.Printed.{const_line, global_line, formula_line, label_line, module_lines, layout}
use Rattle.prism_print.specs.Reading.{as_model}
use Rattle.prism_print.proofs.TokensLemmas.{tree_tokens, tokens-append, tokens-name, tokens-truth}
use Rattle.prism_print.proofs.StandsLemmas.{AreFormedKinds, none, more, first_formed, rest_formed, joined, front_formed, behind_formed, Matches, Stands, AllStand, replaced_stands, leaf_stands, paren_stands}
use Rattle.prism_print.proofs.InductionLemmas.{HasGood, stands_good}
use Rattle.prism_print.proofs.LineLemmas.{HasText, AreFormedNames, const_stands, global_stands, formula_stands, label_stands, variables_stand, commands_stand, copied_stands}

-- each item of a model has a text of well-formed tokens
pub record HaveTexts (m : ModelText) : Type 0 where
  pub consts : All (HasText IsConst) m.consts
  pub globals : All (HasText IsGlobal) m.globals
  pub formulas : All (HasText IsFormula) m.formulas
  pub modules : All (HasText IsModule) m.modules
  pub labels : All (HasText IsLabel) m.labels

with_text : {a : List Kind} {i : Item} (m : ModelText) → IsItem a i → AreFormedKinds a → HaveTexts m → HaveTexts (with_item i m)
with_text m (IsItem.const {a = a} {c = c} text) formed others = record {
  consts = All-cons (HasText IsConst) c m.consts (a, record { text = text; formed = formed }) others.consts;
  globals = others.globals;
  formulas = others.formulas;
  modules = others.modules;
  labels = others.labels;
}
with_text m (IsItem.global {a = a} {v = v} text) formed others = record {
  globals = All-cons (HasText IsGlobal) v m.globals (a, record { text = text; formed = formed }) others.globals;
  consts = others.consts;
  formulas = others.formulas;
  modules = others.modules;
  labels = others.labels;
}
with_text m (IsItem.formula {a = a} {f = f} text) formed others = record {
  formulas = All-cons (HasText IsFormula) f m.formulas (a, record { text = text; formed = formed }) others.formulas;
  consts = others.consts;
  globals = others.globals;
  modules = others.modules;
  labels = others.labels;
}
with_text m (IsItem.«module» {a = a} {m = d} text) formed others = record {
  modules = All-cons (HasText IsModule) d m.modules (a, record { text = text; formed = formed }) others.modules;
  consts = others.consts;
  globals = others.globals;
  formulas = others.formulas;
  labels = others.labels;
}
with_text m (IsItem.label {a = a} {f = f} text) formed others = record {
  labels = All-cons (HasText IsLabel) f m.labels (a, record { text = text; formed = formed }) others.labels;
  consts = others.consts;
  globals = others.globals;
  formulas = others.formulas;
  modules = others.modules;
}
with_text m (IsItem.rewards text) formed others = others

items_texts : {a : List Kind} {items : List Item} → Each IsItem a items → AreFormedKinds a → HaveTexts (model_of items)
items_texts Each.end formed = record {
  consts = All-nil (HasText IsConst);
  globals = All-nil (HasText IsGlobal);
  formulas = All-nil (HasText IsFormula);
  modules = All-nil (HasText IsModule);
  labels = All-nil (HasText IsLabel);
}
items_texts (Each.more {a = a} {b = b} {x = x} {xs = xs} first rest) formed =
    with_text (model_of xs) first (front_formed a b formed) (items_texts rest (behind_formed a b formed))

pub model_texts : {a : List Kind} {m : ModelText} → IsModel a m → AreFormedKinds a → HaveTexts m
model_texts (IsModel.dtmc items) formed = items_texts items (rest_formed formed)
model_texts (IsModel.probabilistic items) formed = items_texts items (rest_formed formed)

-- an expression of a level's operands is one of the level
raised : (p : Precedence) (a : List Kind) (x : Expr) → is_chain p ≡ true → Derives Refused (inner p) a x → Derives Refused p a x
raised p a x is text = subst (λ ks. Derives Refused p ks x) (append-nil a) (chain is text end)

-- a primary expression is an expression
primary : (a : List Kind) (x : Expr) → Derives Refused rule.Primary a x → Derives Refused rule.Conditional a x
primary a x text = plain (raised rule.Implication a x refl (raised rule.Equivalence a x refl (raised rule.Disjunction a x refl
    (raised rule.Conjunction a x refl (bare refl (raised rule.Equality a x refl (raised rule.Relation a x refl
    (raised rule.Sum a x refl (raised rule.Product a x refl (bare refl text))))))))))

true_formed : IsFormedKind k.True
unfolding spelling_of
true_formed = (codes "true", cut.fixed (codes "true") k.True refl)

pub dtmc_formed : IsFormedKind k.Dtmc
unfolding spelling_of
dtmc_formed = (codes "dtmc", cut.fixed (codes "dtmc") k.Dtmc refl)

truth_stands : Stands rule.Conditional (e.Truth true)
truth_stands = let leaf_text = leaf_stands k.True (e.Truth true) refl true_formed (tokens-truth true) in
    record { text = primary (tree_tokens (e.Truth true)) (e.Truth true) leaf_text.text; formed = leaf_text.formed }

-- where each tree stands for itself, each name stands for one that does
all_stand : (trees : List Named) (by : Name → Option Expr) → HasGood (Stands rule.Conditional) trees by → AllStand by
all_stand trees by good n t is = elim (good n) [
  | inl absent ↦ absurd (not_none t (sym is ∙ absent.0))
  | inr tree ↦ subst (Stands rule.Primary) (some_same (e.Paren tree.0) t (sym tree.1 ∙ is)) (paren_stands tree.0 tree.2)
]

body_stands : (by : Name → Option Expr) → AllStand by → (f : Named) → HasText IsFormula f → Stands rule.Conditional (replaced by f.body)
body_stands by trees f text = at text.1.text text.1.formed
  where
    at : {ks : List Kind} {g : Named} → IsFormula ks g → AreFormedKinds ks → Stands rule.Conditional (replaced by g.body)
    at (IsFormula.formula {a = a} body) formed = replaced_stands by trees body (front_formed a (k.Semicolon ∷ []) (rest_formed (rest_formed (rest_formed formed))))

-- each name stands for a tree that stands for itself
formulas_stand : (formulas trees : List Named) → AreExpanded formulas trees → All (HasText IsFormula) formulas → AllStand (stands_for trees)
formulas_stand formulas trees is texts = all_stand trees (stands_for trees) (stands_good (Stands rule.Conditional) (HasText IsFormula) formulas trees is truth_stands
    (λ by good f text. body_stands by (all_stand trees by good) f text) texts)

none_formed : AreFormedNames no_names
none_formed n m is = absurd (not_none m (sym is))

right_formed : {a : List Kind} {p : Name × Name} → IsPair a p → AreFormedKinds a → IsFormedName p.1
right_formed IsPair.pair ks = first_formed (rest_formed (rest_formed ks))

-- the right names of a renaming are well formed
pairs_formed : {a : List Kind} {ps : List (Name × Name)} → Separated k.Comma IsPair a ps → AreFormedKinds a → All (λ p. IsFormedName p.1) ps
pairs_formed (Separated.one {x = p} first) formed = All-cons (λ p. IsFormedName p.1) p [] (right_formed first formed) (All-nil (λ p. IsFormedName p.1))
pairs_formed (Separated.more {a = a} {b = b} {x = p} {xs = ps} first rest) formed =
    All-cons (λ p. IsFormedName p.1) p ps (right_formed first (front_formed a (k.Comma ∷ b) formed)) (pairs_formed rest (rest_formed (behind_formed a (k.Comma ∷ b) formed)))

rights_formed : (pairs : List (Name × Name)) → All (λ p. IsFormedName p.1) pairs → AreFormedNames (right_of pairs)
rights_formed pairs all n m is = at (find (λ p. bytes_eq p.0 n) pairs) (λ p found. found_holds (λ p. IsFormedName p.1) (λ p. bytes_eq p.0 n) pairs p all found) is
  where
    at : (o : Option (Name × Name)) → ((p : Name × Name) → o ≡ Some p → IsFormedName p.1) → option_map (λ p. p.1) o ≡ Some m → IsFormedName m
    at None formed h = absurd (not_none m (sym h))
    at (Some p) formed h = subst IsFormedName (some_same p.1 m h) (formed p refl)

names_stand : (names : Name → Option Name) → AreFormedNames names → AllStand (as_tree names)
names_stand names formed n t is = at (names n) (formed n) is
  where
    at : (o : Option Name) → ((m : Name) → o ≡ Some m → IsFormedName m) → option_map (λ m. e.Name m) o ≡ Some t → Stands rule.Primary t
    at None all h = absurd (not_none t (sym h))
    at (Some m) all h = subst (Stands rule.Primary) (some_same (e.Name m) t h) (leaf_stands (k.Name m) (e.Name m) refl (all m refl) (tokens-name m))

-- the variables and the commands of a module have texts
record HaveParts (d : Module) : Type 0 where
  variables : HasText (Each IsVariable) (variables_of d)
  commands : HasText (Each IsCommand) (commands_of d)

module_parts : {ks : List Kind} {d : Module} → IsModule ks d → AreFormedKinds ks → HaveParts d
module_parts (IsModule.written {a = a} {b = b} {n = n} {vs = vs} {cs = cs} variables commands) formed =
    let after = behind_formed a (b ++ (k.EndModule ∷ [])) (rest_formed (rest_formed formed)) in record {
      variables = (a, record { text = variables; formed = front_formed a (b ++ (k.EndModule ∷ [])) (rest_formed (rest_formed formed)) });
      commands = (b, record { text = commands; formed = front_formed b (k.EndModule ∷ []) after });
    }
module_parts (IsModule.renamed pairs) formed = record {
  variables = ([], record { text = Each.end; formed = none });
  commands = ([], record { text = Each.end; formed = none });
}

source_parts : (modules : List Module) (name : Name) → All (HasText IsModule) modules → HaveParts (source_of modules name)
source_parts modules name all = at (find (is_written_as name) modules) (λ m is. found_holds (HasText IsModule) (is_written_as name) modules m all is)
  where
    at : (o : Option Module) → ((m : Module) → o ≡ Some m → HasText IsModule m) → HaveParts (unwrap_or o (Written name [] []))
    at None texts = record {
      variables = ([], record { text = Each.end; formed = none });
      commands = ([], record { text = Each.end; formed = none });
    }
    at (Some m) texts = let text = texts m refl in module_parts text.1.text text.1.formed

-- a module of the flat text
module_stands : (modules : List Module) (by : Name → Option Expr) → AllStand by → All (HasText IsModule) modules → {a : List Kind} {d : Module} → IsModule a d → AreFormedKinds a
    → Matches IsModule (tokens_of (module_lines (flat_module modules by d))) (flat_module modules by d)
module_stands modules by trees all (IsModule.written {a = a} {b = b} {n = n} {vs = vs} {cs = cs} variables commands) formed =
    let parts = module_parts (IsModule.written variables commands) formed in
    copied_stands no_names by none_formed trees n (first_formed (rest_formed formed)) parts.variables.1 parts.commands.1
module_stands modules by trees all (IsModule.renamed {a = a} {n = n} {m = source} {ps = pairs} renaming) formed =
    let names : AreFormedNames (right_of pairs) = rights_formed pairs (pairs_formed renaming (front_formed a (k.CloseBracket ∷ (k.EndModule ∷ []))
    (rest_formed (rest_formed (rest_formed (rest_formed (rest_formed formed))))))) in
    let parts = source_parts modules source all in
    copied_stands (right_of pairs) (as_tree (right_of pairs)) names (names_stand (right_of pairs) names) n (first_formed (rest_formed formed))
    (variables_stand no_names by none_formed trees parts.variables.1.text parts.variables.1.formed)
    (commands_stand no_names by none_formed trees parts.commands.1.text parts.commands.1.formed)

-- items of one sort, each with its line
items_stand : {X : Type 0} (IsOne : List Kind → X → Type 0) (line : X → List Piece) (change : X → X) (wrap : X → Item)
    → ((a : List Kind) (x : X) → IsOne a x → IsItem a (wrap x))
    → ((a : List Kind) (x : X) → IsOne a x → AreFormedKinds a → Matches IsOne (tokens_of (line (change x))) (change x))
    → (xs : List X) → All (HasText IsOne) xs → Matches (Each IsItem) (tokens_of (flat_map line (map change xs))) (map wrap (map change xs))
items_stand IsOne line change wrap wraps each [] all = record { text = Each.end; formed = none }
items_stand IsOne line change wrap wraps each (x ∷ xs) all =
    let given = All-head (HasText IsOne) x xs all in
    let one = each given.0 x given.1.text given.1.formed in
    let rest = items_stand IsOne line change wrap wraps each xs (All-tail (HasText IsOne) x xs all) in
    subst (λ ks. Matches (Each IsItem) ks (wrap (change x) ∷ map wrap (map change xs))) (sym (tokens-append (line (change x)) (flat_map line (map change xs)))) (record {
      text = Each.more (wraps (tokens_of (line (change x))) (change x) one.text) rest.text;
      formed = joined (tokens_of (line (change x))) one.formed rest.formed;
    })

-- items, and then others
each-append : {X : Type 0} {IsOne : List Kind → X → Type 0} {a b : List Kind} {xs ys : List X} → Each IsOne a xs → Each IsOne b ys → Each IsOne (a ++ b) (xs ++ ys)
each-append Each.end others = others
each-append {X} {IsOne} {b = b} {ys = ys} (Each.more {a = c} {b = d} {x = x} {xs = xs} first rest) others =
    subst (λ ks. Each IsOne ks (x ∷ (xs ++ ys))) (sym (append_assoc c d b)) (Each.more first (each-append rest others))

all-append : (a b : List Piece) {xs ys : List Item} → Matches (Each IsItem) (tokens_of a) xs → Matches (Each IsItem) (tokens_of b) ys
    → Matches (Each IsItem) (tokens_of (a ++ b)) (xs ++ ys)
all-append a b {xs = xs} {ys = ys} first rest = subst (λ ks. Matches (Each IsItem) ks (xs ++ ys)) (sym (tokens-append a b)) (record {
  text = each-append first.text rest.text;
  formed = joined (tokens_of a) first.formed rest.formed;
})

-- a model with more items of one sort
abbrev put_consts : List ConstText → ModelText → ModelText
put_consts cs m = record m { consts = cs ++ m.consts }

abbrev put_globals : List Variable → ModelText → ModelText
put_globals vs m = record m { globals = vs ++ m.globals }

abbrev put_formulas : List Named → ModelText → ModelText
put_formulas fs m = record m { formulas = fs ++ m.formulas }

abbrev put_modules : List Module → ModelText → ModelText
put_modules ds m = record m { modules = ds ++ m.modules }

abbrev put_labels : List Named → ModelText → ModelText
put_labels fs m = record m { labels = fs ++ m.labels }

consts_first : (cs : List ConstText) (rest : List Item) → model_of (map item.Const cs ++ rest) ≡ put_consts cs (model_of rest)
consts_first [] rest = refl
consts_first (c ∷ cs) rest = ap (with_item (item.Const c)) (consts_first cs rest)

globals_first : (vs : List Variable) (rest : List Item) → model_of (map item.Global vs ++ rest) ≡ put_globals vs (model_of rest)
globals_first [] rest = refl
globals_first (v ∷ vs) rest = ap (with_item (item.Global v)) (globals_first vs rest)

formulas_first : (fs : List Named) (rest : List Item) → model_of (map item.Formula fs ++ rest) ≡ put_formulas fs (model_of rest)
formulas_first [] rest = refl
formulas_first (f ∷ fs) rest = ap (with_item (item.Formula f)) (formulas_first fs rest)

modules_first : (ds : List Module) (rest : List Item) → model_of (map item.Module ds ++ rest) ≡ put_modules ds (model_of rest)
modules_first [] rest = refl
modules_first (d ∷ ds) rest = ap (with_item (item.Module d)) (modules_first ds rest)

labels_alone : (fs : List Named) → model_of (map item.Label fs) ≡ put_labels fs (model_of [])
labels_alone [] = refl
labels_alone (f ∷ fs) = ap (with_item (item.Label f)) (labels_alone fs)

-- the items of a flat text, in the order of its lines
abbrev items_of : FlatText → List Item
items_of flat = map item.Const flat.consts ++ (map item.Global flat.globals ++ (map item.Formula flat.formulas
    ++ (map item.Module flat.modules ++ map item.Label flat.labels)))

model_is : (flat : FlatText) → model_of (items_of flat) ≡ as_model flat
model_is flat =
    consts_first flat.consts after_consts
    ∙ (ap (put_consts flat.consts) (globals_first flat.globals after_globals
    ∙ ap (put_globals flat.globals) (formulas_first flat.formulas after_formulas
    ∙ ap (put_formulas flat.formulas) (modules_first flat.modules (map item.Label flat.labels)
    ∙ ap (put_modules flat.modules) (labels_alone flat.labels))))
    ∙ (λ i. record {
      consts = append-nil flat.consts i;
      globals = append-nil flat.globals i;
      formulas = append-nil flat.formulas i;
      modules = append-nil flat.modules i;
      labels = append-nil flat.labels i;
    }))
  where
    after_formulas : List Item
    after_formulas = map item.Module flat.modules ++ map item.Label flat.labels

    after_globals : List Item
    after_globals = map item.Formula flat.formulas ++ after_formulas

    after_consts : List Item
    after_consts = map item.Global flat.globals ++ after_globals

-- the tokens of a flat text are a model, with the flat text as its tree
pub layout_matches : (ks : List Kind) (m : ModelText) (flat : FlatText) → IsModel ks m → AreFormedKinds ks → IsFlat m flat
    → Matches IsModel (tokens_of (layout flat)) (as_model flat)
layout_matches ks m flat tree formed is = subst (Matches IsModel (tokens_of (layout flat))) (model_is flat) (record {
  text = IsModel.dtmc items.text;
  formed = more dtmc_formed items.formed;
})
  where
    by : Name → Option Expr
    by = stands_for flat.formulas

    texts : HaveTexts m
    texts = model_texts tree formed

    trees : AllStand by
    trees = formulas_stand m.formulas flat.formulas is.formulas texts.formulas

    consts : Matches (Each IsItem) (tokens_of (flat_map const_line flat.consts)) (map item.Const flat.consts)
    consts = subst (λ xs. Matches (Each IsItem) (tokens_of (flat_map const_line xs)) (map item.Const xs)) (sym (ap (λ f. f.consts) is.rest))
        (items_stand IsConst const_line (flat_const by) item.Const (λ a x text. IsItem.const text) (λ a x text all. const_stands no_names by none_formed trees text all) m.consts texts.consts)

    globals : Matches (Each IsItem) (tokens_of (flat_map global_line flat.globals)) (map item.Global flat.globals)
    globals = subst (λ xs. Matches (Each IsItem) (tokens_of (flat_map global_line xs)) (map item.Global xs)) (sym (ap (λ f. f.globals) is.rest))
        (items_stand IsGlobal global_line (copied_variable no_names by) item.Global (λ a x text. IsItem.global text) (λ a x text all. global_stands no_names by none_formed trees text all) m.globals texts.globals)

    formulas : Matches (Each IsItem) (tokens_of (flat_map formula_line flat.formulas)) (map item.Formula flat.formulas)
    formulas = subst (λ xs. Matches (Each IsItem) (tokens_of (flat_map formula_line xs)) (map item.Formula xs)) (sym is.formulas)
        (items_stand IsFormula formula_line (with_body (replaced by)) item.Formula (λ a x text. IsItem.formula text) (λ a x text all. formula_stands no_names by none_formed trees text all) m.formulas texts.formulas)

    modules : Matches (Each IsItem) (tokens_of (flat_map module_lines flat.modules)) (map item.Module flat.modules)
    modules = subst (λ xs. Matches (Each IsItem) (tokens_of (flat_map module_lines xs)) (map item.Module xs)) (sym (ap (λ f. f.modules) is.rest))
        (items_stand IsModule module_lines (flat_module m.modules by) item.Module (λ a x text. IsItem.«module» text) (λ a x text all. module_stands m.modules by trees texts.modules text all) m.modules texts.modules)

    labels : Matches (Each IsItem) (tokens_of (flat_map label_line flat.labels)) (map item.Label flat.labels)
    labels = subst (λ xs. Matches (Each IsItem) (tokens_of (flat_map label_line xs)) (map item.Label xs)) (sym (ap (λ f. f.labels) is.rest))
        (items_stand IsLabel label_line (with_body (replaced by)) item.Label (λ a x text. IsItem.label text) (λ a x text all. label_stands no_names by none_formed trees text all) m.labels texts.labels)

    items : Matches (Each IsItem) (tokens_of (flat_map const_line flat.consts ++ (flat_map global_line flat.globals ++ (flat_map formula_line flat.formulas
        ++ (flat_map module_lines flat.modules ++ flat_map label_line flat.labels))))) (items_of flat)
    items =
        let label_lines : List Piece = flat_map label_line flat.labels in
        let from_modules : List Piece = flat_map module_lines flat.modules ++ label_lines in
        let from_formulas : List Piece = flat_map formula_line flat.formulas ++ from_modules in
        let from_globals : List Piece = flat_map global_line flat.globals ++ from_formulas in
        all-append (flat_map const_line flat.consts) from_globals consts
        (all-append (flat_map global_line flat.globals) from_formulas globals
        (all-append (flat_map formula_line flat.formulas) from_modules formulas
        (all-append (flat_map module_lines flat.modules) label_lines modules labels)))
