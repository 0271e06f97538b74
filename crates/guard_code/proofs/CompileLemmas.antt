-- Nodes that are compiled one after another.
use Rattle.std.proofs.Common.{◌≡◌, ℕ, ◌+◌, ◌<◌, List, [], ◌∷◌, ◌++◌, map, length, get_or, take, Result, Ok, Err, refl, sym, ap, ap₂, ◌∙◌, append_assoc}
use Rattle.std.specs.Prelude.{if◌then◌else◌, IfOk}
use Rattle.std.proofs.lemmas.List.{map-append, take_more}
use Rattle.chain_model.specs.declared.values.LabelValues.{LabelValues}
use Rattle.chain_model.specs.declared.expressions.Typed.{Typed}
use Rattle.chain_model.specs.declared.expressions.Op.{Op}
use Rattle.chain_model.specs.declared.expressions.Func.{Func}
use Rattle.chain_model.specs.Results.{◌>>=◌}
use Rattle.chain_model.specs.States.{State}
use Rattle.chain_model.specs.Values.{Valued, truth, value_with, level_value, call_value}
use Rattle.guard_code.specs.declared.nodes.Node.{Node}
use Rattle.guard_code.specs.Wholes.{truth_of, choice_value}
use Rattle.guard_code.specs.Nodes.{node_value}
use Rattle.guard_code.specs.Means.{Always, Means, AllMean, Adds, Joins, negation, opposite_value}

-- ---- expressions added one after another

pub adds_more : (a b c : List Node) (xs ys : List Typed) → Adds a b xs → Adds b c ys → Adds a c (xs ++ ys)
adds_more a b c xs ys first second = record {
  same = λ labels state small.
      second.same labels state small
      ∙ ap (λ ls. ls ++ map (value_with labels state) ys) (first.same labels state small)
      ∙ append_assoc (map (node_value labels state) a) (map (value_with labels state) xs) (map (value_with labels state) ys)
      ∙ ap (λ ls. map (node_value labels state) a ++ ls) (sym (map-append (value_with labels state) xs ys));
}

pub adds_one : (before after : List Node) (node : Node) (expr : Typed) → after ≡ before ++ (node ∷ []) → Means node expr → Adds before after (expr ∷ [])
adds_one before after node expr is means = record {
  same = λ labels state small.
      ap (map (node_value labels state)) is
      ∙ map-append (node_value labels state) before (node ∷ [])
      ∙ ap (λ v. map (node_value labels state) before ++ (v ∷ [])) (means.same labels state small);
}

-- expressions compiled one after another
pub all_mean_more : (nodes after : List Node) (exprs : List Typed) (i : ℕ) (expr : Typed) (node : Node) → i < length exprs → expr ≡ get_or exprs i expr
    → Means node expr → after ≡ nodes ++ (node ∷ []) → AllMean nodes (take i exprs) → AllMean after (take (i + 1) exprs)
all_mean_more nodes after exprs i expr node lt is means more all = record {
  same = λ labels state small.
      ap (map (node_value labels state)) more
      ∙ map-append (node_value labels state) nodes (node ∷ [])
      ∙ ap₂ (λ vs x. vs ++ (x ∷ [])) (all.same labels state small) (means.same labels state small)
      ∙ ap (λ (e : Typed). map (value_with labels state) (take i exprs) ++ (value_with labels state e ∷ [])) is
      ∙ sym (map-append (value_with labels state) (take i exprs) (get_or exprs i expr ∷ []))
      ∙ ap (map (value_with labels state)) (sym (take_more exprs i expr lt));
}

pub means_not : (made node : Node) (part expr : Typed)
    → Always (λ labels state. node_value labels state made ≡ negation (node_value labels state node)) → Means node part
    → ((labels : LabelValues) (state : State) → value_with labels state expr ≡ negation (value_with labels state part)) → Means made expr
means_not made node part expr so means is = record {
  same = λ labels state small. so labels state small ∙ ap negation (means.same labels state small) ∙ sym (is labels state);
}

pub means_minus : (made node : Node) (part expr : Typed)
    → Always (λ labels state. node_value labels state made ≡ opposite_value (node_value labels state node)) → Means node part
    → ((labels : LabelValues) (state : State) → value_with labels state expr ≡ opposite_value (value_with labels state part)) → Means made expr
means_minus made node part expr so means is = record {
  same = λ labels state small. so labels state small ∙ ap opposite_value (means.same labels state small) ∙ sym (is labels state);
}

pub means_level : {E : Type 0} (r : Result Node E) (nodes : List Node) (parts : List Typed) (ops : List Op) (expr : Typed)
    → IfOk r (λ made. Joins made nodes ops) → AllMean nodes parts
    → ((labels : LabelValues) (state : State) → value_with labels state expr ≡ level_value (map (value_with labels state) parts) ops) → IfOk r (λ made. Means made expr)
means_level (Err e) nodes parts ops expr made means is = tt
means_level (Ok m) nodes parts ops expr made means is = record {
  same = λ labels state small. made.same labels state small ∙ ap (λ vs. level_value vs ops) (means.same labels state small) ∙ sym (is labels state);
}

pub means_call : (made : Node) (nodes : List Node) (func : Func) (parts : List Typed) (expr : Typed)
    → Always (λ labels state. node_value labels state made ≡ call_value func (map (node_value labels state) nodes)) → AllMean nodes parts
    → ((labels : LabelValues) (state : State) → value_with labels state expr ≡ call_value func (map (value_with labels state) parts)) → Means made expr
means_call made nodes func parts expr so means is = record {
  same = λ labels state small. so labels state small ∙ ap (call_value func) (means.same labels state small) ∙ sym (is labels state);
}

by_truth : (c x y : Valued) → choice_value (truth_of c) x y ≡ (c >>= λ a. if truth a then x else y)
by_truth (Ok a) x y = refl
by_truth (Err f) x y = refl

pub means_if : (made c x y : Node) (condition first second expr : Typed)
    → Always (λ labels state. node_value labels state made ≡ choice_value (truth_of (node_value labels state c)) (node_value labels state x) (node_value labels state y))
    → Means c condition → Means x first → Means y second
    → ((labels : LabelValues) (state : State) → value_with labels state expr
    ≡ (value_with labels state condition >>= λ a. if truth a then value_with labels state first else value_with labels state second))
    → Means made expr
means_if made c x y condition first second expr so p q s is = record {
  same = λ labels state small.
      so labels state small
      ∙ ap (λ (v : Valued). choice_value (truth_of v) (node_value labels state x) (node_value labels state y)) (p.same labels state small)
      ∙ ap₂ (λ (v w : Valued). choice_value (truth_of (value_with labels state condition)) v w) (q.same labels state small) (s.same labels state small)
      ∙ by_truth (value_with labels state condition) (value_with labels state first) (value_with labels state second)
      ∙ sym (is labels state);
}
