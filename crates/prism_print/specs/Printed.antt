-- The printed form of a flat text: the line `dtmc`, then constants, globals, formulas, modules and labels.
use Rattle.std.specs.Prelude.{ℕ, List, [], ◌∷◌, ◌++◌, Option, Some, None, flat_map, map}
use Rattle.std.specs.Option.{option_map_or}
use Rattle.prism_syntax.specs.declared.tokens.Kind.{Kind}
use Rattle.prism_syntax.specs.declared.tokens.Kind.TheVariants as k
use Rattle.prism_syntax.specs.declared.expressions.Expr.{Expr}
use Rattle.prism_syntax.specs.declared.commands.Branch.{Branch}
use Rattle.prism_syntax.specs.declared.commands.Command.{Command}
use Rattle.prism_syntax.specs.declared.models.SortWord.{SortWord}
use Rattle.prism_syntax.specs.declared.models.SortWord.TheVariants as sort
use Rattle.prism_syntax.specs.declared.models.ConstText.{ConstText}
use Rattle.prism_syntax.specs.declared.models.Named.{Named}
use Rattle.prism_syntax.specs.declared.models.Variable.{Variable}
use Rattle.prism_syntax.specs.declared.models.Module.{Module}
use Rattle.prism_syntax.specs.declared.models.Module.TheVariants.{Written, Renamed}
use Rattle.prism_syntax.specs.declared.models.FlatText.{FlatText}
use Rattle.prism_print.specs.Pieces.{Piece, token, blank, line_end, text_of}
use Rattle.prism_print.specs.Layout.{spaced, separated, expression}

-- a semicolon and the end of the line
abbrev pub ended : List Piece
ended = token k.Semicolon ∷ line_end ∷ []

-- the token of a constant's sort
abbrev pub sort_token : SortWord → Kind
sort_token sort.Int = k.Int
sort_token sort.Double = k.Double
sort_token sort.Bool = k.Bool

-- the line of a constant, with its sort, and with its value where it has one
abbrev pub const_line : ConstText → List Piece
const_line c = token k.Const ∷ blank ∷ token (sort_token c.sort) ∷ blank ∷ token (k.Name c.name)
    ∷ (option_map_or (λ x. spaced k.Equal ++ expression x) c.value [] ++ ended)

-- a range, or `bool`
abbrev pub range : Option (Expr × Expr) → List Piece
range (Some r) = token k.OpenBracket ∷ (expression r.0 ++ (token k.Dots ∷ (expression r.1 ++ (token k.CloseBracket ∷ []))))
range None = token k.Bool ∷ []

-- the line of a variable, with its initial value where it has one
abbrev pub variable_line : Variable → List Piece
variable_line v = token (k.Name v.name)
    ∷ (spaced k.Colon ++ (range v.range ++ (option_map_or (λ x. spaced k.Init ++ expression x) v.init [] ++ ended)))

-- the line of a global variable
abbrev pub global_line : Variable → List Piece
global_line v = token k.Global ∷ blank ∷ variable_line v

-- the line of a formula
abbrev pub formula_line : Named → List Piece
formula_line f = token k.Formula ∷ blank ∷ token (k.Name f.name) ∷ (spaced k.Equal ++ (expression f.body ++ ended))

-- the line of a label
abbrev pub label_line : Named → List Piece
label_line f = token k.Label ∷ blank ∷ token (k.Quoted f.name) ∷ (spaced k.Equal ++ (expression f.body ++ ended))

-- an assignment
abbrev pub assignment : List ℕ × Expr → List Piece
assignment s = token k.Open ∷ token (k.Name s.0) ∷ token k.Prime ∷ token k.Equal ∷ (expression s.1 ++ (token k.Close ∷ []))

-- an update: `true`, or assignments joined by `&`
abbrev pub update : List (List ℕ × Expr) → List Piece
update [] = token k.True ∷ []
update (s ∷ sets) = separated (spaced k.Ampersand) (map assignment (s ∷ sets))

-- a branch, with its weight where it has one
abbrev pub branch : Branch → List Piece
branch b = option_map_or (λ x. expression x ++ spaced k.Colon) b.weight [] ++ update b.sets

-- the line of a command, its branches joined by `+`
abbrev pub command_line : Command → List Piece
command_line c = token k.OpenBracket ∷ (option_map_or (λ name. token (k.Name name) ∷ []) c.action []
    ++ (token k.CloseBracket ∷ blank ∷ (expression c.guard ++ (spaced k.Arrow
    ++ (separated (spaced k.Plus) (map branch c.branches) ++ ended)))))

-- a line after two blanks
abbrev pub indented : List Piece → List Piece
indented line = blank ∷ blank ∷ line

-- the lines of a module: its variables and then its commands; a flat text has no renamed module, and that has no line
abbrev pub module_lines : Module → List Piece
module_lines (Written title vars commands) = token k.Module ∷ blank ∷ token (k.Name title) ∷ line_end
    ∷ (flat_map (λ v. indented (variable_line v)) vars ++ (flat_map (λ c. indented (command_line c)) commands
    ++ (token k.EndModule ∷ line_end ∷ [])))
module_lines (Renamed title source pairs) = []

-- the pieces of a flat text
abbrev pub layout : FlatText → List Piece
layout flat = token k.Dtmc ∷ line_end ∷ (flat_map const_line flat.consts ++ (flat_map global_line flat.globals
    ++ (flat_map formula_line flat.formulas ++ (flat_map module_lines flat.modules ++ flat_map label_line flat.labels))))

-- the printed form of a flat text
abbrev pub printed : FlatText → List ℕ
printed flat = text_of (layout flat)
