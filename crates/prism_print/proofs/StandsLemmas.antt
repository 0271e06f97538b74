-- An expression whose names are replaced stands for itself: its tokens match its level, with it as their tree.
use Rattle.std.proofs.Common.{◌≡◌, ℕ, suc, List, [], ◌∷◌, ◌++◌, true, false, Option, map, length, bytes_eq, codes, cond, arith, refl, sym, ap, ◌∙◌, subst, unwrap_or}
use Rattle.std.specs.Prelude.{None, Some, All}
use mathlib.Core.Logic.{inl, inr}
use Rattle.std.proofs.lemmas.Bool.{cases_Bool}
use Rattle.std.proofs.lemmas.Option.{none-some}
use Rattle.std.proofs.lemmas.List.{append-nil}
use Rattle.std.proofs.lemmas.List.Elements.{All-nil, All-cons, All-head, All-tail}
use Rattle.prism_syntax.specs.declared.labels.Labels.TheVariants.{Refused}
use Rattle.prism_syntax.specs.declared.tokens.Kind.{Kind}
use Rattle.prism_syntax.specs.declared.tokens.Kind.TheVariants as k
use Rattle.prism_syntax.specs.declared.expressions.Expr.{Expr}
use Rattle.prism_syntax.specs.declared.expressions.Expr.TheVariants as e
use Rattle.prism_syntax.specs.declared.expressions.Func.{Func}
use Rattle.prism_syntax.specs.declared.expressions.Func.TheVariants as f
use Rattle.prism_syntax.specs.declared.expressions.Op.{Op}
use Rattle.prism_syntax.specs.declared.expressions.Op.TheVariants as o
use Rattle.prism_syntax.specs.declared.precedence.Precedence.{Precedence}
use Rattle.prism_syntax.specs.declared.precedence.Precedence.TheVariants as rule
use Rattle.prism_syntax.specs.Spelling.{spelling_of}
use Rattle.prism_syntax.specs.Tokens as cut
use Rattle.prism_syntax.specs.WellFormed.{IsFormedKind, IsFormedName}
use Rattle.prism_syntax.specs.Precedence.{inner, is_chain, operator, is_sign, signed, atom, function, named_function, takes}
use Rattle.prism_syntax.specs.Expressions.{Derives, chain, bare, sign, plain, conditional, leaf, paren, call, ChainTail, end, link, Arguments, last, argument, level}
use Rattle.prism_syntax.specs.Inverses.{operator_token, function_token}
use Rattle.prism_syntax.specs.Replaced.{replaced}
use Rattle.prism_names.specs.First.{Name}
use Rattle.module_expand.proofs.FirstLemmas.{same_bytes, not_none, some_same}
use Rattle.module_expand.proofs.TreeLemmas.{replaced-paren, replaced-not, replaced-minus, replaced-if, replaced-name, replaced-call, replaced-level, replaced-whole, replaced-real, replaced-truth}
use Rattle.prism_print.proofs.TokensLemmas.{tree_tokens, argument_tokens, operand_tokens, tokens-whole, tokens-real, tokens-truth, tokens-name, tokens-paren, tokens-not, tokens-minus, tokens-if, tokens-call, tokens-level}

-- each of these tokens is well formed
pub data AreFormedKinds : List Kind → Type 0 where
  none : AreFormedKinds []
  more : {t : Kind} {ks : List Kind} → IsFormedKind t → AreFormedKinds ks → AreFormedKinds (t ∷ ks)

pub formed_kinds : (ks : List Kind) → All IsFormedKind ks → AreFormedKinds ks
formed_kinds [] all = none
formed_kinds (t ∷ ks) all = more (All-head IsFormedKind t ks all) (formed_kinds ks (All-tail IsFormedKind t ks all))

pub all_formed : {ks : List Kind} → AreFormedKinds ks → All IsFormedKind ks
all_formed none = All-nil IsFormedKind
all_formed (more {t = t} {ks = ks} first rest) = All-cons IsFormedKind t ks first (all_formed rest)

pub first_formed : {t : Kind} {ks : List Kind} → AreFormedKinds (t ∷ ks) → IsFormedKind t
first_formed (more first rest) = first

pub rest_formed : {t : Kind} {ks : List Kind} → AreFormedKinds (t ∷ ks) → AreFormedKinds ks
rest_formed (more first rest) = rest

pub joined : (xs : List Kind) {ys : List Kind} → AreFormedKinds xs → AreFormedKinds ys → AreFormedKinds (xs ++ ys)
joined [] front rest = rest
joined (x ∷ xs) (more first front) rest = more first (joined xs front rest)

pub front_formed : (xs ys : List Kind) → AreFormedKinds (xs ++ ys) → AreFormedKinds xs
front_formed [] ys all = none
front_formed (x ∷ xs) ys (more first all) = more first (front_formed xs ys all)

pub behind_formed : (xs ys : List Kind) → AreFormedKinds (xs ++ ys) → AreFormedKinds ys
behind_formed [] ys all = all
behind_formed (x ∷ xs) ys (more first all) = behind_formed xs ys all

-- some well-formed tokens match a rule, with this tree
pub record Matches {X : Type 0} (IsOne : List Kind → X → Type 0) (ks : List Kind) (x : X) : Type 0 where
  pub text : IsOne ks x
  pub formed : AreFormedKinds ks

-- the tokens of an expression match a level, with it as their tree
abbrev pub Stands : Precedence → Expr → Type 0
Stands p x = Matches (Derives Refused p) (tree_tokens x) x

-- each element of a part of a list passes what all of the list pass
pub all_front : {X : Type 0} (P : X → Type 0) (xs ys : List X) → All P (xs ++ ys) → All P xs
all_front P [] ys all = All-nil P
all_front P (x ∷ xs) ys all = All-cons P x xs (All-head P x (xs ++ ys) all) (all_front P xs ys (All-tail P x (xs ++ ys) all))

-- and each element of the rest
pub all_rest : {X : Type 0} (P : X → Type 0) (xs ys : List X) → All P (xs ++ ys) → All P ys
all_rest P [] ys all = all
all_rest P (x ∷ xs) ys all = all_rest P xs ys (All-tail P x (xs ++ ys) all)

-- a symbol or reserved word is a well-formed token
pub open_formed : IsFormedKind k.Open
unfolding spelling_of
open_formed = (codes "(", cut.fixed (codes "(") k.Open refl)

pub close_formed : IsFormedKind k.Close
unfolding spelling_of
close_formed = (codes ")", cut.fixed (codes ")") k.Close refl)

pub comma_formed : IsFormedKind k.Comma
unfolding spelling_of
comma_formed = (codes ",", cut.fixed (codes ",") k.Comma refl)

pub query_formed : IsFormedKind k.Query
unfolding spelling_of
query_formed = (codes "?", cut.fixed (codes "?") k.Query refl)

pub colon_formed : IsFormedKind k.Colon
unfolding spelling_of
colon_formed = (codes ":", cut.fixed (codes ":") k.Colon refl)

false_true : false ≡ true → ⊥
false_true h = cc

-- the token of an operator is its own
pub operator_is : (p : Precedence) (t : Kind) (x : Op) → operator p t ≡ Some x → t ≡ operator_token x
operator_is rule.Conditional _ x found = absurd (none-some x found)
operator_is rule.Implication k.Implies x found = ap operator_token (some_same o.Imp x found)
operator_is rule.Implication _ x found = absurd (none-some x found)
operator_is rule.Equivalence k.Equivalent x found = ap operator_token (some_same o.Iff x found)
operator_is rule.Equivalence _ x found = absurd (none-some x found)
operator_is rule.Disjunction k.Bar x found = ap operator_token (some_same o.Or x found)
operator_is rule.Disjunction _ x found = absurd (none-some x found)
operator_is rule.Conjunction k.Ampersand x found = ap operator_token (some_same o.And x found)
operator_is rule.Conjunction _ x found = absurd (none-some x found)
operator_is rule.Negation _ x found = absurd (none-some x found)
operator_is rule.Equality k.Equal x found = ap operator_token (some_same o.Eq x found)
operator_is rule.Equality k.NotEqual x found = ap operator_token (some_same o.Ne x found)
operator_is rule.Equality _ x found = absurd (none-some x found)
operator_is rule.Relation k.Less x found = ap operator_token (some_same o.Lt x found)
operator_is rule.Relation k.LessEqual x found = ap operator_token (some_same o.Le x found)
operator_is rule.Relation k.Greater x found = ap operator_token (some_same o.Gt x found)
operator_is rule.Relation k.GreaterEqual x found = ap operator_token (some_same o.Ge x found)
operator_is rule.Relation _ x found = absurd (none-some x found)
operator_is rule.Sum k.Plus x found = ap operator_token (some_same o.Add x found)
operator_is rule.Sum k.Dash x found = ap operator_token (some_same o.Sub x found)
operator_is rule.Sum _ x found = absurd (none-some x found)
operator_is rule.Product k.Star x found = ap operator_token (some_same o.Mul x found)
operator_is rule.Product k.Slash x found = ap operator_token (some_same o.Div x found)
operator_is rule.Product _ x found = absurd (none-some x found)
operator_is rule.Unary _ x found = absurd (none-some x found)
operator_is rule.Primary _ x found = absurd (none-some x found)

-- a name that is a function is the name of that function
name_is : (text : List ℕ) (g : Func) → named_function text ≡ Some g → k.Name text ≡ function_token g
name_is text g found = elim (cases_Bool (bytes_eq text (codes "floor"))) [
  | inl same ↦ ap k.Name (same_bytes text (codes "floor") same)
      ∙ ap function_token (some_same f.Floor g (sym (ap (λ b. cond b (Some f.Floor) (after_floor)) same) ∙ found))
  | inr other ↦ elim (cases_Bool (bytes_eq text (codes "ceil"))) [
    | inl same ↦ ap k.Name (same_bytes text (codes "ceil") same)
        ∙ ap function_token (some_same f.Ceil g (sym (ap (λ b. cond b (Some f.Ceil) after_ceil) same)
        ∙ (sym (ap (λ b. cond b (Some f.Floor) after_floor) other) ∙ found)))
    | inr third ↦ elim (cases_Bool (bytes_eq text (codes "pow"))) [
      | inl same ↦ ap k.Name (same_bytes text (codes "pow") same)
          ∙ ap function_token (some_same f.Pow g (sym (ap (λ b. cond b (Some f.Pow) after_pow) same)
          ∙ (sym (ap (λ b. cond b (Some f.Ceil) after_ceil) third)
          ∙ (sym (ap (λ b. cond b (Some f.Floor) after_floor) other) ∙ found))))
      | inr fourth ↦ elim (cases_Bool (bytes_eq text (codes "mod"))) [
        | inl same ↦ ap k.Name (same_bytes text (codes "mod") same)
            ∙ ap function_token (some_same f.Mod g (sym (ap (λ b. cond b (Some f.Mod) None) same)
            ∙ (sym (ap (λ b. cond b (Some f.Pow) after_pow) fourth)
            ∙ (sym (ap (λ b. cond b (Some f.Ceil) after_ceil) third)
            ∙ (sym (ap (λ b. cond b (Some f.Floor) after_floor) other) ∙ found)))))
        | inr fifth ↦ absurd (not_none g (sym found
            ∙ (ap (λ b. cond b (Some f.Floor) after_floor) other
            ∙ (ap (λ b. cond b (Some f.Ceil) after_ceil) third
            ∙ (ap (λ b. cond b (Some f.Pow) after_pow) fourth
            ∙ ap (λ b. cond b (Some f.Mod) None) fifth)))))
      ]
    ]
  ]
]
  where
    after_pow : Option Func
    after_pow = cond (bytes_eq text (codes "mod")) (Some f.Mod) None

    after_ceil : Option Func
    after_ceil = cond (bytes_eq text (codes "pow")) (Some f.Pow) after_pow

    after_floor : Option Func
    after_floor = cond (bytes_eq text (codes "ceil")) (Some f.Ceil) after_ceil

pub function_is : (t : Kind) (g : Func) → function t ≡ Some g → t ≡ function_token g
function_is k.Min g found = ap function_token (some_same f.Min g found)
function_is k.Max g found = ap function_token (some_same f.Max g found)
function_is (k.Name text) g found = name_is text g found
function_is _ g found = absurd (none-some g found)

-- operands that stand for themselves, each after its operator
record StandBehind (p : Precedence) (ys : List Expr) (os : List Op) : Type 0 where
  text : ChainTail Refused p (operand_tokens ys os) ys os
  formed : AreFormedKinds (operand_tokens ys os)
  even : length os ≡ length ys

-- arguments that stand for themselves, each after a comma
record StandAsArguments (ys : List Expr) : Type 0 where
  text : Arguments Refused (argument_tokens ys) ys
  formed : AreFormedKinds (argument_tokens ys)

one_formed : (t : Kind) → IsFormedKind t → AreFormedKinds (t ∷ [])
one_formed t formed = more formed none

-- a token that is an expression by itself
pub leaf_stands : (t : Kind) (x : Expr) → atom Refused t ≡ Some x → IsFormedKind t → tree_tokens x ≡ t ∷ [] → Stands rule.Primary x
leaf_stands t x is formed tokens = subst (λ ks. Matches (Derives Refused rule.Primary) ks x) (sym tokens)
    (record { text = leaf is; formed = one_formed t formed })

pub paren_stands : (x : Expr) → Stands rule.Conditional x → Stands rule.Primary (e.Paren x)
paren_stands x part = subst (λ ks. Matches (Derives Refused rule.Primary) ks (e.Paren x)) (sym (tokens-paren x)) (record {
  text = paren part.text;
  formed = more open_formed
      (joined (tree_tokens x) part.formed (one_formed k.Close close_formed));
})

call_stands : (t : Kind) (g : Func) (x : Expr) (ys : List Expr) → function t ≡ Some g → IsFormedKind t → takes g (length ys) ≡ true
    → Stands rule.Conditional x → StandAsArguments ys → Stands rule.Primary (e.Call g (x ∷ ys))
call_stands t g x ys found formed count part parts =
    subst (λ ks. Matches (Derives Refused rule.Primary) ks (e.Call g (x ∷ ys)))
    (ap (λ u. u ∷ (k.Open ∷ (tree_tokens x ++ (argument_tokens ys ++ (k.Close ∷ []))))) (function_is t g found) ∙ sym (tokens-call g x ys))
    (record {
      text = call found count part.text parts.text;
      formed = more formed
          (more open_formed
          (joined (tree_tokens x) part.formed
          (joined (argument_tokens ys) parts.formed (one_formed k.Close close_formed))));
    })

if_stands : (x y z : Expr) → Stands rule.Implication x → Stands rule.Implication y → Stands rule.Conditional z → Stands rule.Conditional (e.If x y z)
if_stands x y z first second third = subst (λ ks. Matches (Derives Refused rule.Conditional) ks (e.If x y z)) (sym (tokens-if x y z)) (record {
  text = conditional first.text second.text third.text;
  formed = joined (tree_tokens x) first.formed
      (more query_formed
      (joined (tree_tokens y) second.formed
      (more colon_formed third.formed)));
})

-- an operand with others behind it
chain_stands : (p : Precedence) (x : Expr) (ys : List Expr) (os : List Op) → is_chain p ≡ true → Stands (inner p) x → StandBehind p ys os
    → Stands p (level x ys os)
chain_stands p x [] [] is first rest = subst (λ ks. Matches (Derives Refused p) ks x) (append-nil (tree_tokens x)) (record {
  text = chain is first.text rest.text;
  formed = joined (tree_tokens x) first.formed rest.formed;
})
chain_stands p x [] (w ∷ os) is first rest = absurd (omega (arith, rest.even))
chain_stands p x (y ∷ ys) os is first rest =
    subst (λ ks. Matches (Derives Refused p) ks (e.Level (x ∷ (y ∷ ys)) os)) (sym (tokens-level x (y ∷ ys) os rest.even)) (record {
      text = chain is first.text rest.text;
      formed = joined (tree_tokens x) first.formed rest.formed;
    })

link_stands : (p : Precedence) (t : Kind) (w : Op) (y : Expr) (ys : List Expr) (os : List Op) → operator p t ≡ Some w → IsFormedKind t
    → Stands (inner p) y → StandBehind p ys os → StandBehind p (y ∷ ys) (w ∷ os)
link_stands p t w y ys os found formed first rest = record {
  text = subst (λ u. ChainTail Refused p (u ∷ (tree_tokens y ++ operand_tokens ys os)) (y ∷ ys) (w ∷ os)) (operator_is p t w found)
      (link found first.text rest.text);
  formed = more
      (subst IsFormedKind (operator_is p t w found) formed)
      (joined (tree_tokens y) first.formed rest.formed);
  even = ap suc rest.even;
}

argument_stands : (y : Expr) (ys : List Expr) → Stands rule.Conditional y → StandAsArguments ys → StandAsArguments (y ∷ ys)
argument_stands y ys first rest = record {
  text = argument first.text rest.text;
  formed = more comma_formed
      (joined (tree_tokens y) first.formed rest.formed);
}

signed_tokens : (p : Precedence) (t : Kind) (x : Expr) → is_sign p t ≡ true → tree_tokens (signed p x) ≡ t ∷ tree_tokens x
signed_tokens rule.Conditional _ x is = absurd (false_true is)
signed_tokens rule.Implication _ x is = absurd (false_true is)
signed_tokens rule.Equivalence _ x is = absurd (false_true is)
signed_tokens rule.Disjunction _ x is = absurd (false_true is)
signed_tokens rule.Conjunction _ x is = absurd (false_true is)
signed_tokens rule.Negation k.Bang x is = tokens-not x
signed_tokens rule.Negation _ x is = absurd (false_true is)
signed_tokens rule.Equality _ x is = absurd (false_true is)
signed_tokens rule.Relation _ x is = absurd (false_true is)
signed_tokens rule.Sum _ x is = absurd (false_true is)
signed_tokens rule.Product _ x is = absurd (false_true is)
signed_tokens rule.Unary k.Dash x is = tokens-minus x
signed_tokens rule.Unary _ x is = absurd (false_true is)
signed_tokens rule.Primary _ x is = absurd (false_true is)

sign_stands : (p : Precedence) (t : Kind) (x : Expr) → is_sign p t ≡ true → IsFormedKind t → Stands p x → Stands p (signed p x)
sign_stands p t x is formed part = subst (λ ks. Matches (Derives Refused p) ks (signed p x)) (sym (signed_tokens p t x is)) (record {
  text = sign is part.text;
  formed = more formed part.formed;
})

replaced-level_of : (by : Name → Option Expr) (x : Expr) (ys : List Expr) (os : List Op) → replaced by (level x ys os)
    ≡ level (replaced by x) (map (replaced by) ys) os
replaced-level_of by x [] os = refl
replaced-level_of by x (y ∷ ys) os = replaced-level by (x ∷ (y ∷ ys)) os

replaced-signed : (by : Name → Option Expr) (p : Precedence) (x : Expr) → replaced by (signed p x) ≡ signed p (replaced by x)
replaced-signed by rule.Conditional x = replaced-minus by x
replaced-signed by rule.Implication x = replaced-minus by x
replaced-signed by rule.Equivalence x = replaced-minus by x
replaced-signed by rule.Disjunction x = replaced-minus by x
replaced-signed by rule.Conjunction x = replaced-minus by x
replaced-signed by rule.Negation x = replaced-not by x
replaced-signed by rule.Equality x = replaced-minus by x
replaced-signed by rule.Relation x = replaced-minus by x
replaced-signed by rule.Sum x = replaced-minus by x
replaced-signed by rule.Product x = replaced-minus by x
replaced-signed by rule.Unary x = replaced-minus by x
replaced-signed by rule.Primary x = replaced-minus by x

same_length : (by : Name → Option Expr) (ys : List Expr) → length (map (replaced by) ys) ≡ length ys
same_length by [] = refl
same_length by (y ∷ ys) = ap suc (same_length by ys)

-- what a name stands for is a primary expression that stands for itself
abbrev pub AllStand : (Name → Option Expr) → Type 0
AllStand by = (n : Name) (t : Expr) → by n ≡ Some t → Stands rule.Primary t

module _ (by : Name → Option Expr) (trees : AllStand by) where
  name_stands : (n : Name) → IsFormedName n → Stands rule.Primary (replaced by (e.Name n))
  name_stands n formed = subst (Stands rule.Primary) (sym (replaced-name by n)) (at (by n) (trees n))
    where
      at : (o : Option Expr) → ((t : Expr) → o ≡ Some t → Stands rule.Primary t) → Stands rule.Primary (unwrap_or o (e.Name n))
      at None all = leaf_stands (k.Name n) (e.Name n) refl formed (tokens-name n)
      at (Some t) all = all t refl

  atom_stands : (t : Kind) (x : Expr) → atom Refused t ≡ Some x → IsFormedKind t → Stands rule.Primary (replaced by x)
  atom_stands (k.Whole v) x is formed = subst (λ z. Stands rule.Primary (replaced by z)) (some_same (e.Whole v) x is)
      (subst (Stands rule.Primary) (sym (replaced-whole by v)) (leaf_stands (k.Whole v) (e.Whole v) refl formed (tokens-whole v)))
  atom_stands (k.Real v) x is formed = subst (λ z. Stands rule.Primary (replaced by z)) (some_same (e.Real v) x is)
      (subst (Stands rule.Primary) (sym (replaced-real by v)) (leaf_stands (k.Real v) (e.Real v) refl formed (tokens-real v)))
  atom_stands k.True x is formed = subst (λ z. Stands rule.Primary (replaced by z)) (some_same (e.Truth true) x is)
      (subst (Stands rule.Primary) (sym (replaced-truth by true)) (leaf_stands k.True (e.Truth true) refl formed (tokens-truth true)))
  atom_stands k.False x is formed = subst (λ z. Stands rule.Primary (replaced by z)) (some_same (e.Truth false) x is)
      (subst (Stands rule.Primary) (sym (replaced-truth by false)) (leaf_stands k.False (e.Truth false) refl formed (tokens-truth false)))
  atom_stands (k.Name n) x is formed = subst (λ z. Stands rule.Primary (replaced by z)) (some_same (e.Name n) x is) (name_stands n formed)
  atom_stands _ x is formed = absurd (none-some x is)

  mutual
    -- an expression whose names are replaced matches the same level
    pub replaced_stands : {p : Precedence} {a : List Kind} {x : Expr} → Derives Refused p a x → AreFormedKinds a → Stands p (replaced by x)
    replaced_stands {p} (chain {a = a} {b = b} {x = x} {ys = ys} {os = os} is first rest) formed =
        subst (Stands p) (sym (replaced-level_of by x ys os))
        (chain_stands p (replaced by x) (map (replaced by) ys) os is (replaced_stands first (front_formed a _ formed))
        (operands_stand rest (behind_formed a _ formed)))
    replaced_stands (bare is part) formed = let inside = replaced_stands part formed in record { text = bare is inside.text; formed = inside.formed }
    replaced_stands {p} (sign {t = t} {a = a} {x = x} is part) formed = subst (Stands p) (sym (replaced-signed by p x))
        (sign_stands p t (replaced by x) is (first_formed formed) (replaced_stands part (rest_formed formed)))
    replaced_stands (plain part) formed = let inside = replaced_stands part formed in record { text = plain inside.text; formed = inside.formed }
    replaced_stands (conditional {a = a} {b = b} {c = c} {x = x} {y = y} {z = z} first second third) formed =
        let after = rest_formed (behind_formed a _ formed) in
        subst (Stands rule.Conditional) (sym (replaced-if by x y z))
        (if_stands (replaced by x) (replaced by y) (replaced by z)
        (replaced_stands first (front_formed a _ formed))
        (replaced_stands second (front_formed b _ after))
        (replaced_stands third (rest_formed (behind_formed b _ after))))
    replaced_stands (leaf {t = t} {x = x} is) formed = atom_stands t x is (first_formed formed)
    replaced_stands (paren {a = a} {x = x} part) formed = subst (Stands rule.Primary) (sym (replaced-paren by x))
        (paren_stands (replaced by x) (replaced_stands part (front_formed a _ (rest_formed formed))))
    replaced_stands (call {t = t} {f = g} {a = a} {b = b} {x = x} {ys = ys} found count first rest) formed =
        let after = rest_formed (rest_formed formed) in
        subst (Stands rule.Primary) (sym (replaced-call by g (x ∷ ys)))
        (call_stands t g (replaced by x) (map (replaced by) ys) found (first_formed formed)
        (ap (takes g) (same_length by ys) ∙ count)
        (replaced_stands first (front_formed a _ after))
        (arguments_stand rest (front_formed b _ (behind_formed a _ after))))

    operands_stand : {p : Precedence} {b : List Kind} {ys : List Expr} {os : List Op} → ChainTail Refused p b ys os → AreFormedKinds b
        → StandBehind p (map (replaced by) ys) os
    operands_stand end formed = record { text = end; formed = none; even = refl }
    operands_stand {p} (link {t = t} {o = w} {a = a} {b = b} {y = y} {ys = ys} {os = os} found first rest) formed =
        let after = rest_formed formed in
        link_stands p t w (replaced by y) (map (replaced by) ys) os found (first_formed formed)
        (replaced_stands first (front_formed a _ after)) (operands_stand rest (behind_formed a _ after))

    arguments_stand : {b : List Kind} {ys : List Expr} → Arguments Refused b ys → AreFormedKinds b → StandAsArguments (map (replaced by) ys)
    arguments_stand last formed = record { text = last; formed = none }
    arguments_stand (argument {a = a} {b = b} {y = y} {ys = ys} first rest) formed =
        let after = rest_formed formed in
        argument_stands (replaced by y) (map (replaced by) ys)
        (replaced_stands first (front_formed a _ after)) (arguments_stand rest (behind_formed a _ after))
