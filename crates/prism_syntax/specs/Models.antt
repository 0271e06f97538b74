-- The grammar of models: one relation for each of its lines.
use Rattle.std.specs.Prelude.{◌≡◌, List, [], ◌∷◌, ◌++◌, All, ℕ, Option, Some, None}
use Rattle.prism_syntax.specs.declared.labels.Labels.TheVariants.{Refused}
use Rattle.prism_syntax.specs.declared.tokens.Kind.{Kind}
use Rattle.prism_syntax.specs.declared.tokens.Kind.TheVariants as k
use Rattle.prism_syntax.specs.declared.expressions.Expr.{Expr}
use Rattle.prism_syntax.specs.declared.commands.Branch.{Branch}
use Rattle.prism_syntax.specs.declared.commands.Command.{Command}
use Rattle.prism_syntax.specs.declared.models.SortWord.{SortWord}
use Rattle.prism_syntax.specs.declared.models.SortWord.TheVariants as sort
use Rattle.prism_syntax.specs.declared.models.ConstText.{ConstText}
use Rattle.prism_syntax.specs.declared.models.Named.{Named}
use Rattle.prism_syntax.specs.declared.models.Variable.{Variable}
use Rattle.prism_syntax.specs.declared.models.Module.{Module}
use Rattle.prism_syntax.specs.declared.models.Module.TheVariants.{Written, Renamed}
use Rattle.prism_syntax.specs.declared.models.Item.{Item}
use Rattle.prism_syntax.specs.declared.models.Item.TheVariants as item
use Rattle.prism_syntax.specs.declared.models.ModelText.{ModelText}
use Rattle.prism_syntax.specs.Expressions.{IsExpr}

-- texts of one rule, one after another, each with its tree
pub data Each {X : Type 0} (IsOne : List Kind → X → Type 0) : List Kind → List X → Type 0 where
  end : Each IsOne [] []
  more : {a b : List Kind} {x : X} {xs : List X} → IsOne a x → Each IsOne b xs → Each IsOne (a ++ b) (x ∷ xs)

-- one text of a rule or more, with a token between each two of them
pub data Separated {X : Type 0} (between : Kind) (IsOne : List Kind → X → Type 0) : List Kind → List X → Type 0 where
  one : {a : List Kind} {x : X} → IsOne a x → Separated between IsOne a (x ∷ [])
  more : {a b : List Kind} {x : X} {xs : List X}
      → IsOne a x → Separated between IsOne b xs → Separated between IsOne (a ++ (between ∷ b)) (x ∷ xs)

-- nothing, or an expression after this token
pub data IsOptional (lead : Kind) : List Kind → Option Expr → Type 0 where
  absent : IsOptional lead [] None
  present : {a : List Kind} {x : Expr} → IsExpr Refused a x → IsOptional lead (lead ∷ a) (Some x)

-- a sort of a constant; where none is written it is `int`
pub data IsSort : List Kind → SortWord → Type 0 where
  int : IsSort (k.Int ∷ []) sort.Int
  double : IsSort (k.Double ∷ []) sort.Double
  bool : IsSort (k.Bool ∷ []) sort.Bool
  none : IsSort [] sort.Int

-- the line of a constant
pub data IsConst : List Kind → ConstText → Type 0 where
  const : {a b : List Kind} {n : List ℕ} {s : SortWord} {v : Option Expr}
      → IsSort a s → IsOptional k.Equal b v
      → IsConst (k.Const ∷ (a ++ (k.Name n ∷ (b ++ (k.Semicolon ∷ []))))) (record { name = n; sort = s; value = v })

-- the line of a formula
pub data IsFormula : List Kind → Named → Type 0 where
  formula : {a : List Kind} {n : List ℕ} {x : Expr}
      → IsExpr Refused a x → IsFormula (k.Formula ∷ (k.Name n ∷ (k.Equal ∷ (a ++ (k.Semicolon ∷ []))))) (record { name = n; body = x })

-- the line of a label
pub data IsLabel : List Kind → Named → Type 0 where
  label : {a : List Kind} {n : List ℕ} {x : Expr}
      → IsExpr Refused a x → IsLabel (k.Label ∷ (k.Quoted n ∷ (k.Equal ∷ (a ++ (k.Semicolon ∷ []))))) (record { name = n; body = x })

-- the line of a variable: with a range, or of sort `bool`
pub data IsVariable : List Kind → Variable → Type 0 where
  ranged : {a b c : List Kind} {n : List ℕ} {x y : Expr} {z : Option Expr}
      → IsExpr Refused a x → IsExpr Refused b y → IsOptional k.Init c z
      → IsVariable (k.Name n ∷ (k.Colon ∷ (k.OpenBracket ∷ (a ++ (k.Dots ∷ (b ++ (k.CloseBracket ∷ (c ++ (k.Semicolon ∷ []))))))))) (record { name = n; range = Some (x, y); init = z })
  truth : {c : List Kind} {n : List ℕ} {z : Option Expr}
      → IsOptional k.Init c z
      → IsVariable (k.Name n ∷ (k.Colon ∷ (k.Bool ∷ (c ++ (k.Semicolon ∷ []))))) (record { name = n; range = None; init = z })

-- an assignment
pub data IsAssign : List Kind → List ℕ × Expr → Type 0 where
  assign : {a : List Kind} {n : List ℕ} {x : Expr}
      → IsExpr Refused a x → IsAssign (k.Open ∷ (k.Name n ∷ (k.Prime ∷ (k.Equal ∷ (a ++ (k.Close ∷ [])))))) (n, x)

-- an update: `true`, which assigns nothing, or assignments joined by `&`
pub data IsUpdate : List Kind → List (List ℕ × Expr) → Type 0 where
  nothing : IsUpdate (k.True ∷ []) []
  assigns : {a : List Kind} {s : List (List ℕ × Expr)} → Separated k.Ampersand IsAssign a s → IsUpdate a s

-- a branch with its weight
pub data IsWeighted : List Kind → Branch → Type 0 where
  weighted : {a b : List Kind} {x : Expr} {s : List (List ℕ × Expr)}
      → IsExpr Refused a x → IsUpdate b s → IsWeighted (a ++ (k.Colon ∷ b)) (record { weight = Some x; sets = s })

-- the branches of a command: one update alone, or weighted branches joined by `+`
pub data AreBranches : List Kind → List Branch → Type 0 where
  alone : {a : List Kind} {s : List (List ℕ × Expr)} → IsUpdate a s → AreBranches a (record { weight = None; sets = s } ∷ [])
  several : {a : List Kind} {bs : List Branch} → Separated k.Plus IsWeighted a bs → AreBranches a bs

-- the action of a command: nothing, or a name
pub data IsAction : List Kind → Option (List ℕ) → Type 0 where
  unlabelled : IsAction [] None
  labelled : {n : List ℕ} → IsAction (k.Name n ∷ []) (Some n)

-- the line of a command
pub data IsCommand : List Kind → Command → Type 0 where
  command : {a g b : List Kind} {n : Option (List ℕ)} {x : Expr} {bs : List Branch}
      → IsAction a n → IsExpr Refused g x → AreBranches b bs
      → IsCommand (k.OpenBracket ∷ (a ++ (k.CloseBracket ∷ (g ++ (k.Arrow ∷ (b ++ (k.Semicolon ∷ []))))))) (record { action = n; guard = x; branches = bs })

-- a name and what replaces it
pub data IsPair : List Kind → List ℕ × List ℕ → Type 0 where
  pair : {m n : List ℕ} → IsPair (k.Name m ∷ (k.Equal ∷ (k.Name n ∷ []))) (m, n)

-- a module: written out, or another module with names replaced
pub data IsModule : List Kind → Module → Type 0 where
  written : {a b : List Kind} {n : List ℕ} {vs : List Variable} {cs : List Command}
      → Each IsVariable a vs → Each IsCommand b cs
      → IsModule (k.Module ∷ (k.Name n ∷ (a ++ (b ++ (k.EndModule ∷ []))))) (Written n vs cs)
  renamed : {a : List Kind} {n m : List ℕ} {ps : List (List ℕ × List ℕ)}
      → Separated k.Comma IsPair a ps
      → IsModule (k.Module ∷ (k.Name n ∷ (k.Equal ∷ (k.Name m ∷ (k.OpenBracket ∷ (a ++ (k.CloseBracket ∷ (k.EndModule ∷ [])))))))) (Renamed n m ps)

-- a rewards block, which is passed over
pub data IsRewards : List Kind → Type 0 where
  rewards : (a : List Kind) → All (λ t. t ≡ k.EndRewards → ⊥) a → IsRewards (k.Rewards ∷ (a ++ (k.EndRewards ∷ [])))

-- the line of a global variable
pub data IsGlobal : List Kind → Variable → Type 0 where
  global : {a : List Kind} {v : Variable} → IsVariable a v → IsGlobal (k.Global ∷ a) v

-- an item of a model
pub data IsItem : List Kind → Item → Type 0 where
  const : {a : List Kind} {c : ConstText} → IsConst a c → IsItem a (item.Const c)
  global : {a : List Kind} {v : Variable} → IsGlobal a v → IsItem a (item.Global v)
  formula : {a : List Kind} {f : Named} → IsFormula a f → IsItem a (item.Formula f)
  «module» : {a : List Kind} {m : Module} → IsModule a m → IsItem a (item.Module m)
  label : {a : List Kind} {f : Named} → IsLabel a f → IsItem a (item.Label f)
  rewards : {a : List Kind} → IsRewards a → IsItem a item.Rewards

-- a model with one more item, which stands before the others of its kind
abbrev pub with_item : Item → ModelText → ModelText
with_item (item.Const c) m = record m { consts = c ∷ m.consts }
with_item (item.Global v) m = record m { globals = v ∷ m.globals }
with_item (item.Formula f) m = record m { formulas = f ∷ m.formulas }
with_item (item.Module d) m = record m { modules = d ∷ m.modules }
with_item (item.Label f) m = record m { labels = f ∷ m.labels }
with_item item.Rewards m = m

-- the model of some items: those of each kind, in text order
abbrev pub model_of : List Item → ModelText
model_of [] = record { consts = []; globals = []; formulas = []; modules = []; labels = [] }
model_of (i ∷ items) = with_item i (model_of items)

-- the tokens are a model, and this is its tree
pub data IsModel : List Kind → ModelText → Type 0 where
  dtmc : {a : List Kind} {items : List Item} → Each IsItem a items → IsModel (k.Dtmc ∷ a) (model_of items)
  probabilistic : {a : List Kind} {items : List Item} → Each IsItem a items → IsModel (k.Probabilistic ∷ a) (model_of items)
