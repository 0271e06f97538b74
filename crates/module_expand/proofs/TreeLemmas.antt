-- What replacing and counting make of each form of tree.
use Rattle.std.proofs.Common.{◌≡◌, ℕ, ◌+◌, List, Option, Bool, map, sum, max, unwrap_or, sym, ap, ◌∙◌}
use Rattle.smc_num.specs.Fraction.{Fraction}
use Rattle.prism_syntax.specs.declared.expressions.Expr.{Expr}
use Rattle.prism_syntax.specs.declared.expressions.Expr.TheVariants as e
use Rattle.prism_syntax.specs.declared.expressions.Expr.TheOpen.{Expr-F}
use Rattle.prism_syntax.specs.declared.expressions.Expr.TheOpen as top
use Rattle.prism_syntax.specs.declared.expressions.Expr.TheFolds.{fold-roll-Expr}
use Rattle.prism_syntax.specs.declared.expressions.Func.{Func}
use Rattle.prism_syntax.specs.declared.expressions.Op.{Op}
use Rattle.prism_syntax.specs.NodeCount.{nodes_step, node_count}
use Rattle.prism_syntax.specs.ParenDepth.{paren_depth_step, paren_depth, deepest}
use Rattle.prism_syntax.specs.Replaced.{replaced_step, replaced}

pub replaced-paren : (by : List ℕ → Option Expr) (x : Expr) → replaced by (e.Paren x) ≡ e.Paren (replaced by x)
replaced-paren by x = ap (replaced by) (sym (e.rolls-Paren x)) ∙ fold-roll-Expr Expr (replaced_step by) (top.Paren x)

pub replaced-not : (by : List ℕ → Option Expr) (x : Expr) → replaced by (e.Not x) ≡ e.Not (replaced by x)
replaced-not by x = ap (replaced by) (sym (e.rolls-Not x)) ∙ fold-roll-Expr Expr (replaced_step by) (top.Not x)

pub replaced-minus : (by : List ℕ → Option Expr) (x : Expr) → replaced by (e.Minus x) ≡ e.Minus (replaced by x)
replaced-minus by x = ap (replaced by) (sym (e.rolls-Minus x)) ∙ fold-roll-Expr Expr (replaced_step by) (top.Minus x)

pub replaced-if : (by : List ℕ → Option Expr) (x y z : Expr) → replaced by (e.If x y z)
    ≡ e.If (replaced by x) (replaced by y) (replaced by z)
replaced-if by x y z = ap (replaced by) (sym (e.rolls-If x y z)) ∙ fold-roll-Expr Expr (replaced_step by) (top.If x y z)

pub nodes-paren : (x : Expr) → node_count (e.Paren x) ≡ 1 + node_count x
nodes-paren x = ap (node_count) (sym (e.rolls-Paren x)) ∙ fold-roll-Expr ℕ (nodes_step) (top.Paren x)

pub nodes-not : (x : Expr) → node_count (e.Not x) ≡ 1 + node_count x
nodes-not x = ap (node_count) (sym (e.rolls-Not x)) ∙ fold-roll-Expr ℕ (nodes_step) (top.Not x)

pub nodes-minus : (x : Expr) → node_count (e.Minus x) ≡ 1 + node_count x
nodes-minus x = ap (node_count) (sym (e.rolls-Minus x)) ∙ fold-roll-Expr ℕ (nodes_step) (top.Minus x)

pub nodes-if : (x y z : Expr) → node_count (e.If x y z) ≡ 1 + node_count x + node_count y + node_count z
nodes-if x y z = ap (node_count) (sym (e.rolls-If x y z)) ∙ fold-roll-Expr ℕ (nodes_step) (top.If x y z)

pub replaced-name : (by : List ℕ → Option Expr) (n : List ℕ) → replaced by (e.Name n) ≡ unwrap_or (by n) (e.Name n)
replaced-name by n = ap (replaced by) (sym (e.rolls-Name n)) ∙ fold-roll-Expr Expr (replaced_step by) (top.Name n)

pub nodes-call : (f : Func) (xs : List Expr) → node_count (e.Call f xs) ≡ 1 + sum (map node_count xs)
nodes-call f xs = ap (node_count) (sym (e.rolls-Call f xs)) ∙ fold-roll-Expr ℕ nodes_step (top.Call f xs)

pub nodes-level : (xs : List Expr) (os : List Op) → node_count (e.Level xs os) ≡ 1 + sum (map node_count xs)
nodes-level xs os = ap (node_count) (sym (e.rolls-Level xs os)) ∙ fold-roll-Expr ℕ nodes_step (top.Level xs os)

pub nodes-name : (n : List ℕ) → node_count (e.Name n) ≡ 1
nodes-name n = ap node_count (sym (e.rolls-Name n)) ∙ fold-roll-Expr ℕ nodes_step (top.Name n)

pub depth-name : (n : List ℕ) → paren_depth (e.Name n) ≡ 0
depth-name n = ap paren_depth (sym (e.rolls-Name n)) ∙ fold-roll-Expr ℕ paren_depth_step (top.Name n)

pub depth-paren : (x : Expr) → paren_depth (e.Paren x) ≡ 1 + paren_depth x
depth-paren x = ap paren_depth (sym (e.rolls-Paren x)) ∙ fold-roll-Expr ℕ paren_depth_step (top.Paren x)

pub depth-not : (x : Expr) → paren_depth (e.Not x) ≡ paren_depth x
depth-not x = ap paren_depth (sym (e.rolls-Not x)) ∙ fold-roll-Expr ℕ paren_depth_step (top.Not x)

pub depth-minus : (x : Expr) → paren_depth (e.Minus x) ≡ paren_depth x
depth-minus x = ap paren_depth (sym (e.rolls-Minus x)) ∙ fold-roll-Expr ℕ paren_depth_step (top.Minus x)

pub depth-if : (x y z : Expr) → paren_depth (e.If x y z) ≡ max (paren_depth x) (max (paren_depth y) (paren_depth z))
depth-if x y z = ap paren_depth (sym (e.rolls-If x y z)) ∙ fold-roll-Expr ℕ paren_depth_step (top.If x y z)

pub depth-call : (f : Func) (xs : List Expr) → paren_depth (e.Call f xs) ≡ deepest (map paren_depth xs)
depth-call f xs = ap paren_depth (sym (e.rolls-Call f xs)) ∙ fold-roll-Expr ℕ paren_depth_step (top.Call f xs)

pub depth-level : (xs : List Expr) (os : List Op) → paren_depth (e.Level xs os) ≡ deepest (map paren_depth xs)
depth-level xs os = ap paren_depth (sym (e.rolls-Level xs os)) ∙ fold-roll-Expr ℕ paren_depth_step (top.Level xs os)

pub replaced-call : (by : List ℕ → Option Expr) (f : Func) (xs : List Expr) → replaced by (e.Call f xs)
    ≡ e.Call f (map (replaced by) xs)
replaced-call by f xs = ap (replaced by) (sym (e.rolls-Call f xs)) ∙ fold-roll-Expr Expr (replaced_step by)
    (top.Call f xs)

pub replaced-level : (by : List ℕ → Option Expr) (xs : List Expr) (os : List Op) → replaced by (e.Level xs os)
    ≡ e.Level (map (replaced by) xs) os
replaced-level by xs os = ap (replaced by) (sym (e.rolls-Level xs os)) ∙ fold-roll-Expr Expr (replaced_step by)
    (top.Level xs os)

pub replaced-whole : (by : List ℕ → Option Expr) (v : Fraction) → replaced by (e.Whole v) ≡ e.Whole v
replaced-whole by v = ap (replaced by) (sym (e.rolls-Whole v)) ∙ fold-roll-Expr Expr (replaced_step by) (top.Whole v)

pub replaced-real : (by : List ℕ → Option Expr) (v : Fraction) → replaced by (e.Real v) ≡ e.Real v
replaced-real by v = ap (replaced by) (sym (e.rolls-Real v)) ∙ fold-roll-Expr Expr (replaced_step by) (top.Real v)

pub replaced-truth : (by : List ℕ → Option Expr) (b : Bool) → replaced by (e.Truth b) ≡ e.Truth b
replaced-truth by b = ap (replaced by) (sym (e.rolls-Truth b)) ∙ fold-roll-Expr Expr (replaced_step by) (top.Truth b)

pub replaced-quoted : (by : List ℕ → Option Expr) (n : List ℕ) → replaced by (e.Quoted n) ≡ e.Quoted n
replaced-quoted by n = ap (replaced by) (sym (e.rolls-Quoted n)) ∙ fold-roll-Expr Expr (replaced_step by) (top.Quoted n)
