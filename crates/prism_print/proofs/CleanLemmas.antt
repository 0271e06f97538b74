-- Expressions in which no name stands for anything, and which replacing leaves as they are.
use Rattle.std.proofs.Common.{◌≡◌, List, [], ◌∷◌, ◌++◌, Option, Bool, map, refl, sym, ap, ◌∙◌, subst, MatchOption, unwrap_or}
use Rattle.std.specs.Prelude.{None, Some, All}
use Rattle.std.proofs.lemmas.List.Elements.{All-nil, All-cons, All-head, All-append, All-contains}
use Rattle.smc_num.specs.Fraction.{Fraction}
use Rattle.prism_syntax.specs.declared.expressions.Expr.{Expr, map-Expr}
use Rattle.prism_syntax.specs.declared.expressions.Expr.TheVariants as e
use Rattle.prism_syntax.specs.declared.expressions.Expr.TheOpen.{Expr-F}
use Rattle.prism_syntax.specs.declared.expressions.Expr.TheOpen as top
use Rattle.prism_syntax.specs.declared.expressions.Expr.TheViews.{roll-Expr}
use Rattle.prism_syntax.specs.declared.expressions.Expr.TheFolds.{fold-roll-Expr, ind-Expr}
use Rattle.prism_syntax.specs.declared.expressions.Func.{Func}
use Rattle.prism_syntax.specs.declared.expressions.Op.{Op}
use Rattle.prism_syntax.specs.Replaced.{replaced}
use Rattle.prism_names.specs.First.{Name}
use Rattle.prism_names.specs.Names.{concatenated, names_step, names_of}
use Rattle.module_expand.proofs.NamesLemmas.{same_on}
use Rattle.module_expand.proofs.TreeLemmas.{replaced-paren, replaced-not, replaced-minus, replaced-if, replaced-name, replaced-call, replaced-level, replaced-whole, replaced-real, replaced-truth, replaced-quoted}
use Rattle.prism_print.proofs.StandsLemmas.{all_front, all_rest}

names-whole : (v : Fraction) → names_of (e.Whole v) ≡ []
names-whole v = ap names_of (sym (e.rolls-Whole v)) ∙ fold-roll-Expr (List Name) names_step (top.Whole v)

names-real : (v : Fraction) → names_of (e.Real v) ≡ []
names-real v = ap names_of (sym (e.rolls-Real v)) ∙ fold-roll-Expr (List Name) names_step (top.Real v)

pub names-truth : (b : Bool) → names_of (e.Truth b) ≡ []
names-truth b = ap names_of (sym (e.rolls-Truth b)) ∙ fold-roll-Expr (List Name) names_step (top.Truth b)

pub names-name : (n : Name) → names_of (e.Name n) ≡ n ∷ []
names-name n = ap names_of (sym (e.rolls-Name n)) ∙ fold-roll-Expr (List Name) names_step (top.Name n)

names-quoted : (n : Name) → names_of (e.Quoted n) ≡ []
names-quoted n = ap names_of (sym (e.rolls-Quoted n)) ∙ fold-roll-Expr (List Name) names_step (top.Quoted n)

pub names-paren : (x : Expr) → names_of (e.Paren x) ≡ names_of x
names-paren x = ap names_of (sym (e.rolls-Paren x)) ∙ fold-roll-Expr (List Name) names_step (top.Paren x)

names-call : (f : Func) (xs : List Expr) → names_of (e.Call f xs) ≡ concatenated (map names_of xs)
names-call f xs = ap names_of (sym (e.rolls-Call f xs)) ∙ fold-roll-Expr (List Name) names_step (top.Call f xs)

names-not : (x : Expr) → names_of (e.Not x) ≡ names_of x
names-not x = ap names_of (sym (e.rolls-Not x)) ∙ fold-roll-Expr (List Name) names_step (top.Not x)

names-minus : (x : Expr) → names_of (e.Minus x) ≡ names_of x
names-minus x = ap names_of (sym (e.rolls-Minus x)) ∙ fold-roll-Expr (List Name) names_step (top.Minus x)

names-level : (xs : List Expr) (os : List Op) → names_of (e.Level xs os) ≡ concatenated (map names_of xs)
names-level xs os = ap names_of (sym (e.rolls-Level xs os)) ∙ fold-roll-Expr (List Name) names_step (top.Level xs os)

names-if : (x y z : Expr) → names_of (e.If x y z) ≡ names_of x ++ (names_of y ++ names_of z)
names-if x y z = ap names_of (sym (e.rolls-If x y z)) ∙ fold-roll-Expr (List Name) names_step (top.If x y z)

-- P is true of the name, or of all names of the tree that replaces it
abbrev pub Passes : (Name → Type 0) → (Name → Option Expr) → Name → Type 0
Passes P by n = MatchOption (by n) (P n) (λ t. All P (names_of t))

module _ (P : Name → Type 0) (by : Name → Option Expr) where
  abbrev On : Expr → Type 0
  On x = All (Passes P by) (names_of x) → All P (names_of (replaced by x))

  through : (x y : Expr) (ns ms : List Name) → names_of x ≡ ns → replaced by x ≡ y → names_of y ≡ ms → (All (Passes P by) ns → All P ms) → On x
  through x y ns ms before is after each all = subst (All P) (sym (ap names_of is ∙ after)) (each (subst (All (Passes P by)) before all))

  name_passes : (n : Name) (o : Option Expr) → MatchOption o (P n) (λ t. All P (names_of t)) → All P (names_of (unwrap_or o (e.Name n)))
  name_passes n None h = subst (All P) (sym (names-name n)) (All-cons P n [] h (All-nil P))
  name_passes n (Some t) h = h

  all_on : (ps : List ((x : Expr) × On x)) → All (Passes P by) (concatenated (map names_of (map (λ p. p.0) ps)))
      → All P (concatenated (map names_of (map (replaced by) (map (λ p. p.0) ps))))
  all_on [] all = All-nil P
  all_on (p ∷ ps) all = All-append P (names_of (replaced by p.0)) (concatenated (map names_of (map (replaced by) (map (λ q. q.0) ps))))
      (p.1 (all_front (Passes P by) (names_of p.0) (concatenated (map names_of (map (λ q. q.0) ps))) all))
      (all_on ps (all_rest (Passes P by) (names_of p.0) (concatenated (map names_of (map (λ q. q.0) ps))) all))

  layer : (y : Expr-F ((x : Expr) × On x)) → On (roll-Expr (map-Expr ((x : Expr) × On x) Expr (λ p. p.0) y))
  layer (top.Whole v) = subst On (sym (e.rolls-Whole v)) (through (e.Whole v) (e.Whole v) [] [] (names-whole v) (replaced-whole by v) (names-whole v) (λ all. All-nil P))
  layer (top.Real v) = subst On (sym (e.rolls-Real v)) (through (e.Real v) (e.Real v) [] [] (names-real v) (replaced-real by v) (names-real v) (λ all. All-nil P))
  layer (top.Truth b) = subst On (sym (e.rolls-Truth b)) (through (e.Truth b) (e.Truth b) [] [] (names-truth b) (replaced-truth by b) (names-truth b) (λ all. All-nil P))
  layer (top.Name n) = subst On (sym (e.rolls-Name n))
      (through (e.Name n) (unwrap_or (by n) (e.Name n)) (n ∷ []) (names_of (unwrap_or (by n) (e.Name n))) (names-name n) (replaced-name by n) refl
      (λ all. name_passes n (by n) (All-head (Passes P by) n [] all)))
  layer (top.Quoted n) = subst On (sym (e.rolls-Quoted n)) (through (e.Quoted n) (e.Quoted n) [] [] (names-quoted n) (replaced-quoted by n) (names-quoted n) (λ all. All-nil P))
  layer (top.Paren p) = subst On (sym (e.rolls-Paren p.0))
      (through (e.Paren p.0) (e.Paren (replaced by p.0)) (names_of p.0) (names_of (replaced by p.0)) (names-paren p.0) (replaced-paren by p.0) (names-paren (replaced by p.0)) p.1)
  layer (top.Call f ps) = subst On (sym (e.rolls-Call f (map (λ p. p.0) ps)))
      (through (e.Call f (map (λ p. p.0) ps)) (e.Call f (map (replaced by) (map (λ p. p.0) ps))) (concatenated (map names_of (map (λ p. p.0) ps)))
      (concatenated (map names_of (map (replaced by) (map (λ p. p.0) ps)))) (names-call f (map (λ p. p.0) ps)) (replaced-call by f (map (λ p. p.0) ps))
      (names-call f (map (replaced by) (map (λ p. p.0) ps))) (all_on ps))
  layer (top.Not p) = subst On (sym (e.rolls-Not p.0))
      (through (e.Not p.0) (e.Not (replaced by p.0)) (names_of p.0) (names_of (replaced by p.0)) (names-not p.0) (replaced-not by p.0) (names-not (replaced by p.0)) p.1)
  layer (top.Minus p) = subst On (sym (e.rolls-Minus p.0))
      (through (e.Minus p.0) (e.Minus (replaced by p.0)) (names_of p.0) (names_of (replaced by p.0)) (names-minus p.0) (replaced-minus by p.0) (names-minus (replaced by p.0)) p.1)
  layer (top.Level ps os) = subst On (sym (e.rolls-Level (map (λ p. p.0) ps) os))
      (through (e.Level (map (λ p. p.0) ps) os) (e.Level (map (replaced by) (map (λ p. p.0) ps)) os) (concatenated (map names_of (map (λ p. p.0) ps)))
      (concatenated (map names_of (map (replaced by) (map (λ p. p.0) ps)))) (names-level (map (λ p. p.0) ps) os) (replaced-level by (map (λ p. p.0) ps) os)
      (names-level (map (replaced by) (map (λ p. p.0) ps)) os) (all_on ps))
  layer (top.If p q r) = subst On (sym (e.rolls-If p.0 q.0 r.0))
      (through (e.If p.0 q.0 r.0) (e.If (replaced by p.0) (replaced by q.0) (replaced by r.0)) (names_of p.0 ++ (names_of q.0 ++ names_of r.0))
      (names_of (replaced by p.0) ++ (names_of (replaced by q.0) ++ names_of (replaced by r.0))) (names-if p.0 q.0 r.0) (replaced-if by p.0 q.0 r.0)
      (names-if (replaced by p.0) (replaced by q.0) (replaced by r.0)) (λ all.
      let after = all_rest (Passes P by) (names_of p.0) (names_of q.0 ++ names_of r.0) all in
      All-append P (names_of (replaced by p.0)) (names_of (replaced by q.0) ++ names_of (replaced by r.0))
      (p.1 (all_front (Passes P by) (names_of p.0) (names_of q.0 ++ names_of r.0) all))
      (All-append P (names_of (replaced by q.0)) (names_of (replaced by r.0))
      (q.1 (all_front (Passes P by) (names_of q.0) (names_of r.0) after)) (r.1 (all_rest (Passes P by) (names_of q.0) (names_of r.0) after)))))

  -- what is true of all names of a tree after replacing
  pub names_replaced : (x : Expr) → All (Passes P by) (names_of x) → All P (names_of (replaced by x))
  names_replaced = ind-Expr On (λ x y is. subst (λ z. On (roll-Expr z)) is (layer y))

-- no name has a tree
abbrev no_trees : Name → Option Expr
no_trees n = None

abbrev Same : Expr → Type 0
Same x = replaced no_trees x ≡ x

all_same : (ps : List ((x : Expr) × Same x)) → map (replaced no_trees) (map (λ p. p.0) ps) ≡ map (λ p. p.0) ps
all_same [] = refl
all_same (p ∷ ps) = let one = p.1 in let rest = all_same ps in λ i. one i ∷ rest i

same_layer : (y : Expr-F ((x : Expr) × Same x)) → Same (roll-Expr (map-Expr ((x : Expr) × Same x) Expr (λ p. p.0) y))
same_layer (top.Whole v) = subst Same (sym (e.rolls-Whole v)) (replaced-whole no_trees v)
same_layer (top.Real v) = subst Same (sym (e.rolls-Real v)) (replaced-real no_trees v)
same_layer (top.Truth b) = subst Same (sym (e.rolls-Truth b)) (replaced-truth no_trees b)
same_layer (top.Name n) = subst Same (sym (e.rolls-Name n)) (replaced-name no_trees n)
same_layer (top.Quoted n) = subst Same (sym (e.rolls-Quoted n)) (replaced-quoted no_trees n)
same_layer (top.Paren p) = subst Same (sym (e.rolls-Paren p.0)) (replaced-paren no_trees p.0 ∙ ap e.Paren p.1)
same_layer (top.Call f ps) = subst Same (sym (e.rolls-Call f (map (λ p. p.0) ps)))
    (replaced-call no_trees f (map (λ p. p.0) ps) ∙ ap (λ xs. e.Call f xs) (all_same ps))
same_layer (top.Not p) = subst Same (sym (e.rolls-Not p.0)) (replaced-not no_trees p.0 ∙ ap e.Not p.1)
same_layer (top.Minus p) = subst Same (sym (e.rolls-Minus p.0)) (replaced-minus no_trees p.0 ∙ ap e.Minus p.1)
same_layer (top.Level ps os) = subst Same (sym (e.rolls-Level (map (λ p. p.0) ps) os))
    (replaced-level no_trees (map (λ p. p.0) ps) os ∙ ap (λ xs. e.Level xs os) (all_same ps))
same_layer (top.If p q r) = subst Same (sym (e.rolls-If p.0 q.0 r.0))
    (replaced-if no_trees p.0 q.0 r.0 ∙ (let one = p.1 in let two = q.1 in let three = r.1 in λ i. e.If (one i) (two i) (three i)))

replaced_none : (x : Expr) → Same x
replaced_none = ind-Expr Same (λ x y is. subst (λ z. Same (roll-Expr z)) is (same_layer y))

-- none of its names has a tree
abbrev pub IsClean : (Name → Option Expr) → Expr → Type 0
IsClean by x = All (λ n. by n ≡ None) (names_of x)

-- such an expression stays as it is
pub unchanged : (by : Name → Option Expr) (x : Expr) → IsClean by x → replaced by x ≡ x
unchanged by x clean = same_on by no_trees x (λ n c. All-contains (λ m. by m ≡ None) (names_of x) n clean c) ∙ replaced_none x
