-- The pieces that expressions are laid out of.
use Rattle.std.specs.Prelude.{Bool, true, false, List, [], ◌∷◌, ◌++◌}
use Rattle.prism_syntax.specs.declared.tokens.Kind.{Kind}
use Rattle.prism_syntax.specs.declared.tokens.Kind.TheVariants as k
use Rattle.prism_syntax.specs.declared.expressions.Expr.{Expr}
use Rattle.prism_syntax.specs.declared.expressions.Expr.TheOpen.{Expr-F}
use Rattle.prism_syntax.specs.declared.expressions.Expr.TheOpen as top
use Rattle.prism_syntax.specs.declared.expressions.Expr.TheFolds.{fold-Expr}
use Rattle.prism_syntax.specs.declared.expressions.Op.{Op}
use Rattle.prism_syntax.specs.Inverses.{operator_token, function_token}
use Rattle.prism_print.specs.Pieces.{Piece, token, blank}

-- a token with a blank on either side
abbrev pub spaced : Kind → List Piece
spaced kind = blank ∷ token kind ∷ blank ∷ []

-- parts one after another, with something between each two of them
abbrev pub separated : List Piece → List (List Piece) → List Piece
separated between [] = []
separated between (x ∷ []) = x
separated between (x ∷ (y ∷ ys)) = x ++ (between ++ separated between (y ∷ ys))

-- operands one after another, with an operator between each two of them
abbrev pub chained : List (List Piece) → List Op → List Piece
chained [] ops = []
chained (x ∷ xs) [] = x
chained (x ∷ xs) (op ∷ ops) = x ++ (spaced (operator_token op) ++ chained xs ops)

-- the token of a truth value
abbrev pub truth_token : Bool → Kind
truth_token true = k.True
truth_token false = k.False

-- an operator, `?` and `:` have a blank on either side, arguments one after each comma, and all else none
abbrev pub expression_step : Expr-F (List Piece) → List Piece
expression_step (top.Whole value) = token (k.Whole value) ∷ []
expression_step (top.Real value) = token (k.Real value) ∷ []
expression_step (top.Truth value) = token (truth_token value) ∷ []
expression_step (top.Name text) = token (k.Name text) ∷ []
expression_step (top.Quoted text) = token (k.Quoted text) ∷ []
expression_step (top.Paren x) = token k.Open ∷ (x ++ (token k.Close ∷ []))
expression_step (top.Call f xs) =
    token (function_token f) ∷ token k.Open ∷ (separated (token k.Comma ∷ blank ∷ []) xs ++ (token k.Close ∷ []))
expression_step (top.Not x) = token k.Bang ∷ x
expression_step (top.Minus x) = token k.Dash ∷ x
expression_step (top.Level xs ops) = chained xs ops
expression_step (top.If x y z) = x ++ (spaced k.Query ++ (y ++ (spaced k.Colon ++ z)))

-- the pieces of an expression
abbrev pub expression : Expr → List Piece
expression = fold-Expr (List Piece) expression_step
