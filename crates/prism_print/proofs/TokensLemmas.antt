-- The tokens of what an expression is laid out of.
use Rattle.std.proofs.Common.{◌≡◌, ℕ, List, [], ◌∷◌, ◌++◌, Bool, map, length, arith, sym, ap, ◌∙◌}
use Rattle.std.proofs.lemmas.List.{append_assoc, append-nil}
use Rattle.std.proofs.lemmas.List.Elements.{filter_map-append}
use Rattle.smc_num.specs.Fraction.{Fraction}
use Rattle.prism_syntax.specs.declared.tokens.Kind.{Kind}
use Rattle.prism_syntax.specs.declared.tokens.Kind.TheVariants as k
use Rattle.prism_syntax.specs.declared.expressions.Expr.{Expr}
use Rattle.prism_syntax.specs.declared.expressions.Expr.TheVariants as e
use Rattle.prism_syntax.specs.declared.expressions.Expr.TheOpen as top
use Rattle.prism_syntax.specs.declared.expressions.Expr.TheFolds.{fold-roll-Expr}
use Rattle.prism_syntax.specs.declared.expressions.Func.{Func}
use Rattle.prism_syntax.specs.declared.expressions.Op.{Op}
use Rattle.prism_syntax.specs.Inverses.{operator_token, function_token}
use Rattle.prism_print.specs.Pieces.{Piece, token, blank, token_of, tokens_of}
use Rattle.prism_print.specs.Layout.{spaced, separated, chained, truth_token, expression_step, expression}

-- the tokens of an expression
abbrev pub tree_tokens : Expr → List Kind
tree_tokens x = tokens_of (expression x)

-- further arguments, each after a comma
abbrev pub argument_tokens : List Expr → List Kind
argument_tokens [] = []
argument_tokens (y ∷ ys) = k.Comma ∷ (tree_tokens y ++ argument_tokens ys)

-- further operands, each after its operator
abbrev pub operand_tokens : List Expr → List Op → List Kind
operand_tokens [] os = []
operand_tokens (y ∷ ys) [] = []
operand_tokens (y ∷ ys) (o ∷ os) = operator_token o ∷ (tree_tokens y ++ operand_tokens ys os)

pub tokens-append : (a b : List Piece) → tokens_of (a ++ b) ≡ tokens_of a ++ tokens_of b
tokens-append a b = filter_map-append token_of a b

pub tokens-whole : (v : Fraction) → tree_tokens (e.Whole v) ≡ k.Whole v ∷ []
tokens-whole v = ap tree_tokens (sym (e.rolls-Whole v)) ∙ ap tokens_of (fold-roll-Expr (List Piece) expression_step (top.Whole v))

pub tokens-real : (v : Fraction) → tree_tokens (e.Real v) ≡ k.Real v ∷ []
tokens-real v = ap tree_tokens (sym (e.rolls-Real v)) ∙ ap tokens_of (fold-roll-Expr (List Piece) expression_step (top.Real v))

pub tokens-truth : (b : Bool) → tree_tokens (e.Truth b) ≡ truth_token b ∷ []
tokens-truth b = ap tree_tokens (sym (e.rolls-Truth b)) ∙ ap tokens_of (fold-roll-Expr (List Piece) expression_step (top.Truth b))

pub tokens-name : (n : List ℕ) → tree_tokens (e.Name n) ≡ k.Name n ∷ []
tokens-name n = ap tree_tokens (sym (e.rolls-Name n)) ∙ ap tokens_of (fold-roll-Expr (List Piece) expression_step (top.Name n))

pub tokens-paren : (x : Expr) → tree_tokens (e.Paren x) ≡ k.Open ∷ (tree_tokens x ++ (k.Close ∷ []))
tokens-paren x = ap tree_tokens (sym (e.rolls-Paren x))
    ∙ (ap tokens_of (fold-roll-Expr (List Piece) expression_step (top.Paren x))
    ∙ ap (λ z. k.Open ∷ z) (tokens-append (expression x) (token k.Close ∷ [])))

pub tokens-not : (x : Expr) → tree_tokens (e.Not x) ≡ k.Bang ∷ tree_tokens x
tokens-not x = ap tree_tokens (sym (e.rolls-Not x)) ∙ ap tokens_of (fold-roll-Expr (List Piece) expression_step (top.Not x))

pub tokens-minus : (x : Expr) → tree_tokens (e.Minus x) ≡ k.Dash ∷ tree_tokens x
tokens-minus x = ap tree_tokens (sym (e.rolls-Minus x)) ∙ ap tokens_of (fold-roll-Expr (List Piece) expression_step (top.Minus x))

-- the tokens of two parts with a token between them
pub tokens-between : (a b : List Piece) (t : Kind) → tokens_of (a ++ (spaced t ++ b)) ≡ tokens_of a ++ (t ∷ tokens_of b)
tokens-between a b t = tokens-append a (spaced t ++ b)

pub tokens-if : (x y z : Expr) → tree_tokens (e.If x y z) ≡ tree_tokens x ++ (k.Query ∷ (tree_tokens y ++ (k.Colon ∷ tree_tokens z)))
tokens-if x y z = ap tree_tokens (sym (e.rolls-If x y z))
    ∙ (ap tokens_of (fold-roll-Expr (List Piece) expression_step (top.If x y z))
    ∙ (tokens-between (expression x) (expression y ++ (spaced k.Colon ++ expression z)) k.Query
    ∙ ap (λ ks. tree_tokens x ++ (k.Query ∷ ks)) (tokens-between (expression y) (expression z) k.Colon)))

-- the tokens of arguments
tokens-arguments : (x : Expr) (ys : List Expr) → tokens_of (separated (token k.Comma ∷ blank ∷ []) (map expression (x ∷ ys))) ≡ tree_tokens x ++ argument_tokens ys
tokens-arguments x [] = sym (append-nil (tree_tokens x))
tokens-arguments x (y ∷ ys) =
    tokens-append (expression x) (token k.Comma ∷ blank ∷ separated (token k.Comma ∷ blank ∷ []) (map expression (y ∷ ys)))
    ∙ ap (λ ks. tree_tokens x ++ (k.Comma ∷ ks)) (tokens-arguments y ys)

pub tokens-call : (f : Func) (x : Expr) (ys : List Expr) → tree_tokens (e.Call f (x ∷ ys))
    ≡ function_token f ∷ (k.Open ∷ (tree_tokens x ++ (argument_tokens ys ++ (k.Close ∷ []))))
tokens-call f x ys = ap tree_tokens (sym (e.rolls-Call f (x ∷ ys)))
    ∙ (ap tokens_of (fold-roll-Expr (List Piece) expression_step (top.Call f (x ∷ ys)))
    ∙ ap (λ ks. function_token f ∷ (k.Open ∷ ks))
    (tokens-append (separated (token k.Comma ∷ blank ∷ []) (map expression (x ∷ ys))) (token k.Close ∷ [])
    ∙ (ap (λ ks. ks ++ (k.Close ∷ [])) (tokens-arguments x ys) ∙ append_assoc (tree_tokens x) (argument_tokens ys) (k.Close ∷ []))))

-- the tokens of operands
tokens-operands : (x : Expr) (ys : List Expr) (os : List Op) → length os ≡ length ys
    → tokens_of (chained (map expression (x ∷ ys)) os) ≡ tree_tokens x ++ operand_tokens ys os
tokens-operands x [] [] same = sym (append-nil (tree_tokens x))
tokens-operands x [] (o ∷ os) same = absurd (omega (arith, same))
tokens-operands x (y ∷ ys) [] same = absurd (omega (arith, same))
tokens-operands x (y ∷ ys) (o ∷ os) same =
    tokens-between (expression x) (chained (map expression (y ∷ ys)) os) (operator_token o)
    ∙ ap (λ ks. tree_tokens x ++ (operator_token o ∷ ks)) (tokens-operands y ys os (omega (arith, same)))

pub tokens-level : (x : Expr) (ys : List Expr) (os : List Op) → length os ≡ length ys
    → tree_tokens (e.Level (x ∷ ys) os) ≡ tree_tokens x ++ operand_tokens ys os
tokens-level x ys os same = ap tree_tokens (sym (e.rolls-Level (x ∷ ys) os))
    ∙ (ap tokens_of (fold-roll-Expr (List Piece) expression_step (top.Level (x ∷ ys) os)) ∙ tokens-operands x ys os same)
