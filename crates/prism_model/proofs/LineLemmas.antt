-- The lines of a model as texts of their parts, one after another.
use Rattle.std.proofs.Common.{◌≡◌, ◌⊎◌, inl, inr, ℕ, List, [], ◌∷◌, ◌++◌, refl, sym, ◌∙◌, ap, subst, append_assoc, Option, Some, None}
use Rattle.prism_syntax.specs.declared.tokens.Kind.{Kind}
use Rattle.prism_syntax.specs.declared.tokens.Kind.TheVariants as k
use Rattle.prism_syntax.specs.declared.expressions.Expr.{Expr}
use Rattle.prism_syntax.specs.declared.commands.Branch.{Branch}
use Rattle.prism_syntax.specs.declared.commands.Command.{Command}
use Rattle.prism_syntax.specs.declared.models.SortWord.{SortWord}
use Rattle.prism_syntax.specs.declared.models.SortWord.TheVariants as sort
use Rattle.prism_syntax.specs.declared.models.ConstText.{ConstText}
use Rattle.prism_syntax.specs.declared.models.Named.{Named}
use Rattle.prism_syntax.specs.declared.models.Variable.{Variable}
use Rattle.prism_syntax.specs.declared.models.Module.{Module}
use Rattle.prism_syntax.specs.declared.models.Module.TheVariants.{Written, Renamed}
use Rattle.prism_syntax.specs.Models.{IsConst, IsFormula, IsLabel, IsVariable, IsGlobal, IsAssign, IsUpdate, IsWeighted, AreBranches, IsAction, IsCommand, IsPair, IsModule, IsSort, IsOptional, IsRewards, Each, Separated}
use Rattle.prism_syntax.specs.Models as model
use Rattle.prism_reading.specs.Sequences.{IsTerminal, terminal, IsName, name, IsQuoted, quoted, Both, both, OneOf, Made, Ended, ended}
use Rattle.prism_reading.specs.Sequences as sequence
use Rattle.prism_reading.proofs.MadeLemmas.{Parted, IsMade}
use Rattle.prism_model.specs.Parts.{IsExprUntil, IsSorted, word, sort_of, IsOptionalEnded, IsRange, AreBranchesEnded, IsActionEnded, action, IsRenaming, IsBody, EndsRewards, ends, IsPassed}

-- a text, its end and what follows are the text and what begins with the end
regroup : (a : List Kind) (t : Kind) (b : List Kind) → (a ++ (t ∷ [])) ++ b ≡ a ++ (t ∷ b)
regroup a t b = append_assoc a (t ∷ []) b

-- a sort word is a sort
is_sort : (t : Kind) (s : SortWord) → sort_of t ≡ Some s → IsSort (t ∷ []) s
is_sort k.Int s is = let same : sort.Int ≡ s = cc in subst (λ u. IsSort (k.Int ∷ []) u) same model.IsSort.int
is_sort k.Double s is = let same : sort.Double ≡ s = cc in subst (λ u. IsSort (k.Double ∷ []) u) same model.IsSort.double
is_sort k.Bool s is = let same : sort.Bool ≡ s = cc in subst (λ u. IsSort (k.Bool ∷ []) u) same model.IsSort.bool
is_sort _ s is = absurd (cc)

-- a sort is a sort word, or none is written
sorted_text : (a : List Kind) (s : SortWord) (n : List ℕ) → IsSort a s → IsSorted (a ++ (k.Name n ∷ [])) (s, n)
sorted_text _ _ n model.IsSort.int = sequence.made (sequence.first (both (word refl) name))
sorted_text _ _ n model.IsSort.double = sequence.made (sequence.first (both (word refl) name))
sorted_text _ _ n model.IsSort.bool = sequence.made (sequence.first (both (word refl) name))
sorted_text _ _ n model.IsSort.none = sequence.made (sequence.second name)

-- an optional expression, up to the semicolon
abbrev pub OptionalParts : Kind → List Kind → (Unit {0} × Expr) ⊎ Unit {0} → Type 0
OptionalParts lead = OneOf (Both (IsTerminal lead) (IsExprUntil k.Semicolon)) (IsTerminal k.Semicolon)

abbrev pub optional_of : (Unit {0} × Expr) ⊎ Unit {0} → Option Expr
optional_of (inl p) = Some p.1
optional_of (inr nothing) = None

optional_to : (lead : Kind) (a : List Kind) (p : (Unit {0} × Expr) ⊎ Unit {0}) → OptionalParts lead a p → IsOptionalEnded lead a (optional_of p)
optional_to lead _ _ (sequence.first (both terminal (ended text))) = ended (model.IsOptional.present text)
optional_to lead _ _ (sequence.second terminal) = ended model.IsOptional.absent

optional_back : (lead : Kind) (a : List Kind) (z : Option Expr) → IsOptionalEnded lead a z → Parted (OptionalParts lead) optional_of a z
optional_back lead _ _ (ended model.IsOptional.absent) = record { parts = inr tt; text = sequence.second terminal; is = refl }
optional_back lead _ _ (ended (model.IsOptional.present {x} text)) = record { parts = inl (tt, x); text = sequence.first (both terminal (ended text)); is = refl }

pub optional_made : (lead : Kind) → IsMade (OptionalParts lead) optional_of (IsOptionalEnded lead)
optional_made lead = record { to = λ a p text. optional_to lead a p text; back = λ a z text. optional_back lead a z text }

-- a constant
abbrev pub ConstParts : List Kind → Unit {0} × ((SortWord × List ℕ) × Option Expr) → Type 0
ConstParts = Both (IsTerminal k.Const) (Both IsSorted (IsOptionalEnded k.Equal))

abbrev pub const_of : Unit {0} × ((SortWord × List ℕ) × Option Expr) → ConstText
const_of p = record { name = p.1.0.1; sort = p.1.0.0; value = p.1.1 }

const_text : (a b : List Kind) (s : SortWord) (n : List ℕ) (v : Option Expr) → IsSort a s → IsOptional k.Equal b v
    → IsConst (k.Const ∷ ((a ++ (k.Name n ∷ [])) ++ (b ++ (k.Semicolon ∷ [])))) (record { name = n; sort = s; value = v })
const_text a b s n v sort value =
    let whole : IsConst (k.Const ∷ (a ++ (k.Name n ∷ (b ++ (k.Semicolon ∷ []))))) (record { name = n; sort = s; value = v }) = model.IsConst.const sort value in
    rw (regroup a (k.Name n) (b ++ (k.Semicolon ∷ []))) whole

const_to : (a : List Kind) (p : Unit {0} × ((SortWord × List ℕ) × Option Expr)) → ConstParts a p → IsConst a (const_of p)
const_to _ _ (both terminal (both (sequence.made (sequence.first (both (word {t} {s} is) (name {text = n})))) (ended {a = b} {x = v} value))) = const_text (t ∷ []) b s n v (is_sort t s is) value
const_to _ _ (both terminal (both (sequence.made (sequence.second (name {text = n}))) (ended {a = b} {x = v} value))) = const_text [] b sort.Int n v model.IsSort.none value

const_back : (a : List Kind) (z : ConstText) → IsConst a z → Parted ConstParts const_of a z
const_back _ _ (model.IsConst.const {a} {b} {n} {s} {v} sort value) =
    let whole : ConstParts (k.Const ∷ ((a ++ (k.Name n ∷ [])) ++ (b ++ (k.Semicolon ∷ [])))) (tt, ((s, n), v)) = both terminal (both (sorted_text a s n sort) (ended value)) in
    record { parts = (tt, ((s, n), v)); text = rw (regroup a (k.Name n) (b ++ (k.Semicolon ∷ []))) at whole; is = refl }

pub const_made : IsMade ConstParts const_of IsConst
const_made = record { to = const_to; back = const_back }

-- a formula
abbrev pub FormulaParts : List Kind → Unit {0} × (List ℕ × (Unit {0} × Expr)) → Type 0
FormulaParts = Both (IsTerminal k.Formula) (Both IsName (Both (IsTerminal k.Equal) (IsExprUntil k.Semicolon)))

abbrev pub named_of : Unit {0} × (List ℕ × (Unit {0} × Expr)) → Named
named_of p = record { name = p.1.0; body = p.1.1.1 }

formula_to : (a : List Kind) (p : Unit {0} × (List ℕ × (Unit {0} × Expr))) → FormulaParts a p → IsFormula a (named_of p)
formula_to _ _ (both terminal (both name (both terminal (ended text)))) = model.IsFormula.formula text

formula_back : (a : List Kind) (z : Named) → IsFormula a z → Parted FormulaParts named_of a z
formula_back _ _ (model.IsFormula.formula {n} {x} text) = record { parts = (tt, (n, (tt, x))); text = both terminal (both name (both terminal (ended text))); is = refl }

pub formula_made : IsMade FormulaParts named_of IsFormula
formula_made = record { to = formula_to; back = formula_back }

-- a label
abbrev pub LabelParts : List Kind → Unit {0} × (List ℕ × (Unit {0} × Expr)) → Type 0
LabelParts = Both (IsTerminal k.Label) (Both IsQuoted (Both (IsTerminal k.Equal) (IsExprUntil k.Semicolon)))

label_to : (a : List Kind) (p : Unit {0} × (List ℕ × (Unit {0} × Expr))) → LabelParts a p → IsLabel a (named_of p)
label_to _ _ (both terminal (both quoted (both terminal (ended text)))) = model.IsLabel.label text

label_back : (a : List Kind) (z : Named) → IsLabel a z → Parted LabelParts named_of a z
label_back _ _ (model.IsLabel.label {n} {x} text) = record { parts = (tt, (n, (tt, x))); text = both terminal (both quoted (both terminal (ended text))); is = refl }

pub label_made : IsMade LabelParts named_of IsLabel
label_made = record { to = label_to; back = label_back }

-- a variable
abbrev pub VariableParts : List Kind → List ℕ × (Unit {0} × (Option (Expr × Expr) × Option Expr)) → Type 0
VariableParts = Both IsName (Both (IsTerminal k.Colon) (Both IsRange (IsOptionalEnded k.Init)))

abbrev pub variable_of : List ℕ × (Unit {0} × (Option (Expr × Expr) × Option Expr)) → Variable
variable_of p = record { name = p.0; range = p.1.1.0; init = p.1.1.1 }

range_regroup : (a b c : List Kind) → ((a ++ (k.Dots ∷ [])) ++ (b ++ (k.CloseBracket ∷ []))) ++ c ≡ a ++ (k.Dots ∷ (b ++ (k.CloseBracket ∷ c)))
range_regroup a b c =
    append_assoc (a ++ (k.Dots ∷ [])) (b ++ (k.CloseBracket ∷ [])) c ∙ regroup a k.Dots ((b ++ (k.CloseBracket ∷ [])) ++ c)
    ∙ ap (λ l. a ++ (k.Dots ∷ l)) (regroup b k.CloseBracket c)

variable_to : (a : List Kind) (p : List ℕ × (Unit {0} × (Option (Expr × Expr) × Option Expr))) → VariableParts a p → IsVariable a (variable_of p)
variable_to _ _ (both (name {text = n}) (both terminal (both (sequence.made (sequence.first (both terminal (both (ended {a} {x} low) (ended {a = b} {x = y} high))))) (ended {a = c} {x = z} init)))) =
    subst (λ l. IsVariable (k.Name n ∷ (k.Colon ∷ (k.OpenBracket ∷ l))) (record { name = n; range = Some (x, y); init = z }))
    (sym (range_regroup a b (c ++ (k.Semicolon ∷ [])))) (model.IsVariable.ranged low high init)
variable_to _ _ (both name (both terminal (both (sequence.made (sequence.second terminal)) (ended init)))) = model.IsVariable.truth init

variable_back : (a : List Kind) (z : Variable) → IsVariable a z → Parted VariableParts variable_of a z
variable_back _ _ (model.IsVariable.ranged {a} {b} {c} {n} {x} {y} {z} low high init) =
    let parts : List ℕ × (Unit {0} × (Option (Expr × Expr) × Option Expr)) = (n, (tt, (Some (x, y), z))) in
    record {
      parts = parts;
      text = subst (λ l. VariableParts (k.Name n ∷ (k.Colon ∷ (k.OpenBracket ∷ l))) parts) (range_regroup a b (c ++ (k.Semicolon ∷ [])))
          (both name (both terminal (both (sequence.made (sequence.first (both terminal (both (ended low) (ended high))))) (ended init))));
      is = refl;
    }
variable_back _ _ (model.IsVariable.truth {n} {z} init) =
    record { parts = (n, (tt, (None, z))); text = both name (both terminal (both (sequence.made (sequence.second terminal)) (ended init))); is = refl }

pub variable_made : IsMade VariableParts variable_of IsVariable
variable_made = record { to = variable_to; back = variable_back }

-- a global variable
abbrev pub global_of : Unit {0} × Variable → Variable
global_of p = p.1

global_to : (a : List Kind) (p : Unit {0} × Variable) → Both (IsTerminal k.Global) IsVariable a p → IsGlobal a (global_of p)
global_to _ _ (both terminal text) = model.IsGlobal.global text

global_back : (a : List Kind) (z : Variable) → IsGlobal a z → Parted (Both (IsTerminal k.Global) IsVariable) global_of a z
global_back _ _ (model.IsGlobal.global {v} text) = record { parts = (tt, v); text = both terminal text; is = refl }

pub global_made : IsMade (Both (IsTerminal k.Global) IsVariable) global_of IsGlobal
global_made = record { to = global_to; back = global_back }

-- an assignment
abbrev pub AssignParts : List Kind → Unit {0} × (List ℕ × (Unit {0} × (Unit {0} × Expr))) → Type 0
AssignParts = Both (IsTerminal k.Open) (Both IsName (Both (IsTerminal k.Prime) (Both (IsTerminal k.Equal) (IsExprUntil k.Close))))

abbrev pub assign_of : Unit {0} × (List ℕ × (Unit {0} × (Unit {0} × Expr))) → List ℕ × Expr
assign_of p = (p.1.0, p.1.1.1.1)

assign_to : (a : List Kind) (p : Unit {0} × (List ℕ × (Unit {0} × (Unit {0} × Expr)))) → AssignParts a p → IsAssign a (assign_of p)
assign_to _ _ (both terminal (both name (both terminal (both terminal (ended text))))) = model.IsAssign.assign text

assign_back : (a : List Kind) (z : List ℕ × Expr) → IsAssign a z → Parted AssignParts assign_of a z
assign_back _ _ (model.IsAssign.assign {n} {x} text) =
    record { parts = (tt, (n, (tt, (tt, x)))); text = both terminal (both name (both terminal (both terminal (ended text)))); is = refl }

pub assign_made : IsMade AssignParts assign_of IsAssign
assign_made = record { to = assign_to; back = assign_back }

-- an update
abbrev pub UpdateParts : List Kind → Unit {0} ⊎ List (List ℕ × Expr) → Type 0
UpdateParts = OneOf (IsTerminal k.True) (Separated k.Ampersand IsAssign)

abbrev pub update_of : Unit {0} ⊎ List (List ℕ × Expr) → List (List ℕ × Expr)
update_of (inl nothing) = []
update_of (inr sets) = sets

update_to : (a : List Kind) (p : Unit {0} ⊎ List (List ℕ × Expr)) → UpdateParts a p → IsUpdate a (update_of p)
update_to _ _ (sequence.first terminal) = model.IsUpdate.nothing
update_to _ _ (sequence.second text) = model.IsUpdate.assigns text

update_back : (a : List Kind) (z : List (List ℕ × Expr)) → IsUpdate a z → Parted UpdateParts update_of a z
update_back _ _ model.IsUpdate.nothing = record { parts = inl tt; text = sequence.first terminal; is = refl }
update_back _ _ (model.IsUpdate.assigns {s} text) = record { parts = inr s; text = sequence.second text; is = refl }

pub update_made : IsMade UpdateParts update_of IsUpdate
update_made = record { to = update_to; back = update_back }

-- a branch with its weight
abbrev pub WeightedParts : List Kind → Expr × List (List ℕ × Expr) → Type 0
WeightedParts = Both (IsExprUntil k.Colon) IsUpdate

abbrev pub weighted_of : Expr × List (List ℕ × Expr) → Branch
weighted_of p = record { weight = Some p.0; sets = p.1 }

weighted_to : (a : List Kind) (p : Expr × List (List ℕ × Expr)) → WeightedParts a p → IsWeighted a (weighted_of p)
weighted_to _ _ (both {b} {y = s} (ended {a} {x} weight) update) =
    subst (λ l. IsWeighted l (weighted_of (x, s))) (sym (regroup a k.Colon b)) (model.IsWeighted.weighted weight update)

weighted_back : (a : List Kind) (z : Branch) → IsWeighted a z → Parted WeightedParts weighted_of a z
weighted_back _ _ (model.IsWeighted.weighted {a} {b} {x} {s} weight update) =
    record { parts = (x, s); text = subst (λ l. WeightedParts l (x, s)) (regroup a k.Colon b) (both (ended weight) update); is = refl }

pub weighted_made : IsMade WeightedParts weighted_of IsWeighted
weighted_made = record { to = weighted_to; back = weighted_back }

-- branches up to the semicolon: an update alone, or branches with their weights
abbrev pub AloneEnded : List Kind → List (List ℕ × Expr) × Unit {0} → Type 0
AloneEnded = Both IsUpdate (IsTerminal k.Semicolon)

abbrev pub SeveralEnded : List Kind → List Branch × Unit {0} → Type 0
SeveralEnded = Both (Separated k.Plus IsWeighted) (IsTerminal k.Semicolon)

abbrev pub branches_of : (List (List ℕ × Expr) × Unit {0}) ⊎ (List Branch × Unit {0}) → List Branch
branches_of (inl p) = record { weight = None; sets = p.0 } ∷ []
branches_of (inr p) = p.0

branches_to : (a : List Kind) (p : (List (List ℕ × Expr) × Unit {0}) ⊎ (List Branch × Unit {0})) → OneOf AloneEnded SeveralEnded a p → AreBranchesEnded a (branches_of p)
branches_to _ _ (sequence.first (both update terminal)) = ended (model.AreBranches.alone update)
branches_to _ _ (sequence.second (both several terminal)) = ended (model.AreBranches.several several)

branches_back : (a : List Kind) (z : List Branch) → AreBranchesEnded a z → Parted (OneOf AloneEnded SeveralEnded) branches_of a z
branches_back _ _ (ended (model.AreBranches.alone {s} update)) = record { parts = inl (s, tt); text = sequence.first (both update terminal); is = refl }
branches_back _ _ (ended (model.AreBranches.several {bs} several)) = record { parts = inr (bs, tt); text = sequence.second (both several terminal); is = refl }

pub branches_made : IsMade (OneOf AloneEnded SeveralEnded) branches_of AreBranchesEnded
branches_made = record { to = branches_to; back = branches_back }

-- a command
abbrev pub CommandParts : List Kind → Unit {0} × (Option (List ℕ) × (Expr × List Branch)) → Type 0
CommandParts = Both (IsTerminal k.OpenBracket) (Both IsActionEnded (Both (IsExprUntil k.Arrow) AreBranchesEnded))

abbrev pub command_of : Unit {0} × (Option (List ℕ) × (Expr × List Branch)) → Command
command_of p = record { action = p.1.0; guard = p.1.1.0; branches = p.1.1.1 }

command_text : (a g b : List Kind) (n : Option (List ℕ)) (x : Expr) (bs : List Branch) → IsAction a n → IsExprUntil k.Arrow g x → AreBranchesEnded b bs
    → IsCommand (k.OpenBracket ∷ (a ++ (k.CloseBracket ∷ (g ++ b)))) (record { action = n; guard = x; branches = bs })
command_text a _ _ n x bs action (ended {a = g} guard) (ended {a = b} branches) =
    subst (λ l. IsCommand (k.OpenBracket ∷ (a ++ (k.CloseBracket ∷ l))) (record { action = n; guard = x; branches = bs }))
    (sym (regroup g k.Arrow (b ++ (k.Semicolon ∷ [])))) (model.IsCommand.command action guard branches)

command_to : (a : List Kind) (p : Unit {0} × (Option (List ℕ) × (Expr × List Branch))) → CommandParts a p → IsCommand a (command_of p)
command_to _ _ (both terminal (both (sequence.made (sequence.first (both (name {text = n}) terminal))) (both {a = g} {b} {x} {y = bs} guard branches))) =
    command_text (k.Name n ∷ []) g b (Some n) x bs model.IsAction.labelled guard branches
command_to _ _ (both terminal (both (sequence.made (sequence.second terminal)) (both {a = g} {b} {x} {y = bs} guard branches))) =
    command_text [] g b None x bs model.IsAction.unlabelled guard branches

action_text : (a : List Kind) (n : Option (List ℕ)) → IsAction a n → IsActionEnded (a ++ (k.CloseBracket ∷ [])) n
action_text _ _ model.IsAction.unlabelled = sequence.made (sequence.second terminal)
action_text _ _ model.IsAction.labelled = sequence.made (sequence.first (both name terminal))

command_back : (a : List Kind) (z : Command) → IsCommand a z → Parted CommandParts command_of a z
command_back _ _ (model.IsCommand.command {a} {g} {b} {n} {x} {bs} action guard branches) =
    let parts : Unit {0} × (Option (List ℕ) × (Expr × List Branch)) = (tt, (n, (x, bs))) in
    let inner : (g ++ (k.Arrow ∷ [])) ++ (b ++ (k.Semicolon ∷ [])) ≡ g ++ (k.Arrow ∷ (b ++ (k.Semicolon ∷ []))) = regroup g k.Arrow (b ++ (k.Semicolon ∷ [])) in
    let outer = regroup a k.CloseBracket ((g ++ (k.Arrow ∷ [])) ++ (b ++ (k.Semicolon ∷ []))) ∙ ap (λ l. a ++ (k.CloseBracket ∷ l)) inner in
    record {
      parts = parts;
      text = subst (λ l. CommandParts (k.OpenBracket ∷ l) parts) outer (both terminal (both (action_text a n action) (both (ended guard) (ended branches))));
      is = refl;
    }

pub command_made : IsMade CommandParts command_of IsCommand
command_made = record { to = command_to; back = command_back }

-- a pair
abbrev pub PairParts : List Kind → List ℕ × (Unit {0} × List ℕ) → Type 0
PairParts = Both IsName (Both (IsTerminal k.Equal) IsName)

abbrev pub pair_of : List ℕ × (Unit {0} × List ℕ) → List ℕ × List ℕ
pair_of p = (p.0, p.1.1)

pair_to : (a : List Kind) (p : List ℕ × (Unit {0} × List ℕ)) → PairParts a p → IsPair a (pair_of p)
pair_to _ _ (both name (both terminal name)) = model.IsPair.pair

pair_back : (a : List Kind) (z : List ℕ × List ℕ) → IsPair a z → Parted PairParts pair_of a z
pair_back _ _ (model.IsPair.pair {m} {n}) = record { parts = (m, (tt, n)); text = both name (both terminal name); is = refl }

pub pair_made : IsMade PairParts pair_of IsPair
pair_made = record { to = pair_to; back = pair_back }

-- a module
abbrev pub ModuleParts : List Kind → Unit {0} × (List ℕ × ((Unit {0} × (List ℕ × List (List ℕ × List ℕ))) ⊎ (List Variable × List Command))) → Type 0
ModuleParts = Both (IsTerminal k.Module) (Both IsName (OneOf (Both (IsTerminal k.Equal) IsRenaming) IsBody))

abbrev pub module_named : List ℕ → (Unit {0} × (List ℕ × List (List ℕ × List ℕ))) ⊎ (List Variable × List Command) → Module
module_named n (inl p) = Renamed n p.1.0 p.1.1
module_named n (inr p) = Written n p.0 p.1

abbrev pub module_of : Unit {0} × (List ℕ × ((Unit {0} × (List ℕ × List (List ℕ × List ℕ))) ⊎ (List Variable × List Command))) → Module
module_of p = module_named p.1.0 p.1.1

module_to : (a : List Kind) (p : Unit {0} × (List ℕ × ((Unit {0} × (List ℕ × List (List ℕ × List ℕ))) ⊎ (List Variable × List Command)))) → ModuleParts a p → IsModule a (module_of p)
module_to _ _ (both terminal (both name (sequence.first (both terminal (sequence.made (both name (both terminal (both pairs (both terminal terminal))))))))) = model.IsModule.renamed pairs
module_to _ _ (both terminal (both name (sequence.second (sequence.made (both variables (both commands terminal)))))) = model.IsModule.written variables commands

module_back : (a : List Kind) (z : Module) → IsModule a z → Parted ModuleParts module_of a z
module_back _ _ (model.IsModule.written {n} {vs} {cs} variables commands) =
    record { parts = (tt, (n, inr (vs, cs))); text = both terminal (both name (sequence.second (sequence.made (both variables (both commands terminal))))); is = refl }
module_back _ _ (model.IsModule.renamed {n} {m} {ps} pairs) =
    record {
      parts = (tt, (n, inl (tt, (m, ps))));
      text = both terminal (both name (sequence.first (both terminal (sequence.made (both name (both terminal (both pairs (both terminal terminal))))))));
      is = refl;
    }

pub module_made : IsMade ModuleParts module_of IsModule
module_made = record { to = module_to; back = module_back }

-- a rewards block
abbrev pub passed_of : Unit {0} × Unit {0} → Unit {0}
passed_of p = tt

rewards_to : (a : List Kind) (p : Unit {0} × Unit {0}) → Both (IsTerminal k.Rewards) EndsRewards a p → IsPassed a (passed_of p)
rewards_to _ _ (both terminal (ends a none)) = model.IsRewards.rewards a none

rewards_back : (a : List Kind) (z : Unit {0}) → IsPassed a z → Parted (Both (IsTerminal k.Rewards) EndsRewards) passed_of a z
rewards_back _ z (model.IsRewards.rewards a none) = record { parts = (tt, tt); text = both terminal (ends a none); is = refl }

pub rewards_made : IsMade (Both (IsTerminal k.Rewards) EndsRewards) passed_of IsPassed
rewards_made = record { to = rewards_to; back = rewards_back }
