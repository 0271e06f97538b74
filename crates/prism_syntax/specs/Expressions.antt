-- The grammar of expressions: which tokens match which level of it, and with which tree.
use Rattle.std.specs.Prelude.{◌≡◌, List, [], ◌∷◌, ◌++◌, length, true, Some}
use Rattle.prism_syntax.specs.declared.labels.Labels.{Labels}
use Rattle.prism_syntax.specs.declared.tokens.Kind.{Kind}
use Rattle.prism_syntax.specs.declared.tokens.Kind.TheVariants as k
use Rattle.prism_syntax.specs.declared.expressions.Expr.{Expr}
use Rattle.prism_syntax.specs.declared.expressions.Expr.TheVariants as e
use Rattle.prism_syntax.specs.declared.expressions.Func.{Func}
use Rattle.prism_syntax.specs.declared.expressions.Op.{Op}
use Rattle.prism_syntax.specs.declared.precedence.Precedence.{Precedence}
use Rattle.prism_syntax.specs.declared.precedence.Precedence.TheVariants as rule
use Rattle.prism_syntax.specs.Precedence.{inner, is_chain, is_prefix, operator, is_sign, signed, atom, function, takes}

-- the tree of a chain: one operand stands for itself, and two or more make a level
abbrev pub level : Expr → List Expr → List Op → Expr
level x [] ops = x
level x (y ∷ ys) ops = e.Level (x ∷ (y ∷ ys)) ops

mutual
  -- the tokens match the level, and this is their tree; labels says whether names of labels are allowed
  pub data Derives (labels : Labels) : Precedence → List Kind → Expr → Type 0 where
    chain : {p : Precedence} {a b : List Kind} {x : Expr} {ys : List Expr} {os : List Op}
        → is_chain p ≡ true → Derives labels (inner p) a x → ChainTail labels p b ys os → Derives labels p (a ++ b) (level x ys os)
    bare : {p : Precedence} {a : List Kind} {x : Expr} → is_prefix p ≡ true → Derives labels (inner p) a x → Derives labels p a x
    sign : {p : Precedence} {t : Kind} {a : List Kind} {x : Expr}
        → is_sign p t ≡ true → Derives labels p a x → Derives labels p (t ∷ a) (signed p x)
    plain : {a : List Kind} {x : Expr} → Derives labels rule.Implication a x → Derives labels rule.Conditional a x
    conditional : {a b c : List Kind} {x y z : Expr}
        → Derives labels rule.Implication a x → Derives labels rule.Implication b y → Derives labels rule.Conditional c z
        → Derives labels rule.Conditional (a ++ (k.Query ∷ (b ++ (k.Colon ∷ c)))) (e.If x y z)
    leaf : {t : Kind} {x : Expr} → atom labels t ≡ Some x → Derives labels rule.Primary (t ∷ []) x
    paren : {a : List Kind} {x : Expr}
        → Derives labels rule.Conditional a x → Derives labels rule.Primary (k.Open ∷ (a ++ (k.Close ∷ []))) (e.Paren x)
    call : {t : Kind} {f : Func} {a b : List Kind} {x : Expr} {ys : List Expr}
        → function t ≡ Some f → takes f (length ys) ≡ true → Derives labels rule.Conditional a x → Arguments labels b ys
        → Derives labels rule.Primary (t ∷ (k.Open ∷ (a ++ (b ++ (k.Close ∷ []))))) (e.Call f (x ∷ ys))

  -- the tokens are further operands of a chain, each after its operator
  pub data ChainTail (labels : Labels) : Precedence → List Kind → List Expr → List Op → Type 0 where
    end : {p : Precedence} → ChainTail labels p [] [] []
    link : {p : Precedence} {t : Kind} {o : Op} {a b : List Kind} {y : Expr} {ys : List Expr} {os : List Op}
        → operator p t ≡ Some o → Derives labels (inner p) a y → ChainTail labels p b ys os
        → ChainTail labels p (t ∷ (a ++ b)) (y ∷ ys) (o ∷ os)

  -- the tokens are further arguments of a call, each after a comma
  pub data Arguments (labels : Labels) : List Kind → List Expr → Type 0 where
    last : Arguments labels [] []
    argument : {a b : List Kind} {y : Expr} {ys : List Expr}
        → Derives labels rule.Conditional a y → Arguments labels b ys → Arguments labels (k.Comma ∷ (a ++ b)) (y ∷ ys)

-- the tokens are an expression, and this is its tree
abbrev pub IsExpr : Labels → List Kind → Expr → Type 0
IsExpr labels tokens tree = Derives labels rule.Conditional tokens tree
