-- What the tables say of the ranks of levels and tokens.
use Rattle.std.proofs.Common.{◌≡◌, ℕ, ◌≤◌, ◌<◌, nat_le, true, false, List, [], ◌∷◌, Option, Some, None, refl, sym, ap, ◌∙◌, arith}
use Rattle.std.proofs.lemmas.Option.{none-some}
use Rattle.std.proofs.lemmas.Bool.Decides.{nat_tests}
use Rattle.prism_syntax.specs.declared.labels.Labels.{Labels}
use Rattle.prism_syntax.specs.declared.labels.Labels.TheVariants.{Allowed, Refused}
use Rattle.prism_syntax.specs.declared.tokens.Kind.{Kind}
use Rattle.prism_syntax.specs.declared.tokens.Kind.TheVariants as k
use Rattle.prism_syntax.specs.declared.expressions.Expr.{Expr}
use Rattle.prism_syntax.specs.declared.expressions.Op.{Op}
use Rattle.prism_syntax.specs.declared.expressions.Func.{Func}
use Rattle.prism_syntax.specs.declared.precedence.Precedence.{Precedence}
use Rattle.prism_syntax.specs.declared.precedence.Precedence.TheVariants as rule
use Rattle.prism_syntax.specs.Precedence.{inner, is_chain, is_prefix, operator, is_sign, atom, function}
use Rattle.prism_expression.specs.Follow.{rank, rank_of, reaches, goes_on, GoesOn}

-- a level binds no more than its operands
pub inner_binds : (l : Precedence) → rank l ≤ rank (inner l)
inner_binds rule.Conditional = omega arith
inner_binds rule.Implication = omega arith
inner_binds rule.Equivalence = omega arith
inner_binds rule.Disjunction = omega arith
inner_binds rule.Conjunction = omega arith
inner_binds rule.Negation = omega arith
inner_binds rule.Equality = omega arith
inner_binds rule.Relation = omega arith
inner_binds rule.Sum = omega arith
inner_binds rule.Product = omega arith
inner_binds rule.Unary = omega arith
inner_binds rule.Primary = omega arith

-- the operands of a chain bind more than the chain
pub chain_binds : (l : Precedence) → is_chain l ≡ true → rank l < rank (inner l)
chain_binds rule.Conditional is_true = absurd (cc)
chain_binds rule.Implication is_true = omega arith
chain_binds rule.Equivalence is_true = omega arith
chain_binds rule.Disjunction is_true = omega arith
chain_binds rule.Conjunction is_true = omega arith
chain_binds rule.Negation is_true = absurd (cc)
chain_binds rule.Equality is_true = omega arith
chain_binds rule.Relation is_true = omega arith
chain_binds rule.Sum is_true = omega arith
chain_binds rule.Product is_true = omega arith
chain_binds rule.Unary is_true = absurd (cc)
chain_binds rule.Primary is_true = absurd (cc)

-- the operator of a level goes on that level
pub operator_rank : (l : Precedence) (t : Kind) (o : Op) → operator l t ≡ Some o → rank_of t ≡ Some (rank l)
operator_rank rule.Conditional _ o found = absurd (none-some o found)
operator_rank rule.Implication k.Implies o found = refl
operator_rank rule.Implication _ o found = absurd (none-some o found)
operator_rank rule.Equivalence k.Equivalent o found = refl
operator_rank rule.Equivalence _ o found = absurd (none-some o found)
operator_rank rule.Disjunction k.Bar o found = refl
operator_rank rule.Disjunction _ o found = absurd (none-some o found)
operator_rank rule.Conjunction k.Ampersand o found = refl
operator_rank rule.Conjunction _ o found = absurd (none-some o found)
operator_rank rule.Negation _ o found = absurd (none-some o found)
operator_rank rule.Equality k.Equal o found = refl
operator_rank rule.Equality k.NotEqual o found = refl
operator_rank rule.Equality _ o found = absurd (none-some o found)
operator_rank rule.Relation k.Less o found = refl
operator_rank rule.Relation k.LessEqual o found = refl
operator_rank rule.Relation k.Greater o found = refl
operator_rank rule.Relation k.GreaterEqual o found = refl
operator_rank rule.Relation _ o found = absurd (none-some o found)
operator_rank rule.Sum k.Plus o found = refl
operator_rank rule.Sum k.Dash o found = refl
operator_rank rule.Sum _ o found = absurd (none-some o found)
operator_rank rule.Product k.Star o found = refl
operator_rank rule.Product k.Slash o found = refl
operator_rank rule.Product _ o found = absurd (none-some o found)
operator_rank rule.Unary _ o found = absurd (none-some o found)
operator_rank rule.Primary _ o found = absurd (none-some o found)

-- a level with an operator is a chain
pub operator_chain : (l : Precedence) (t : Kind) (o : Op) → operator l t ≡ Some o → is_chain l ≡ true
operator_chain rule.Conditional t o found = absurd (none-some o found)
operator_chain rule.Implication t o found = refl
operator_chain rule.Equivalence t o found = refl
operator_chain rule.Disjunction t o found = refl
operator_chain rule.Conjunction t o found = refl
operator_chain rule.Negation t o found = absurd (none-some o found)
operator_chain rule.Equality t o found = refl
operator_chain rule.Relation t o found = refl
operator_chain rule.Sum t o found = refl
operator_chain rule.Product t o found = refl
operator_chain rule.Unary t o found = absurd (none-some o found)
operator_chain rule.Primary t o found = absurd (none-some o found)

-- the operand of signs binds more than the level of the signs
pub prefix_binds : (l : Precedence) → is_prefix l ≡ true → rank l < rank (inner l)
prefix_binds rule.Conditional is_true = absurd (cc)
prefix_binds rule.Implication is_true = absurd (cc)
prefix_binds rule.Equivalence is_true = absurd (cc)
prefix_binds rule.Disjunction is_true = absurd (cc)
prefix_binds rule.Conjunction is_true = absurd (cc)
prefix_binds rule.Negation is_true = omega arith
prefix_binds rule.Equality is_true = absurd (cc)
prefix_binds rule.Relation is_true = absurd (cc)
prefix_binds rule.Sum is_true = absurd (cc)
prefix_binds rule.Product is_true = absurd (cc)
prefix_binds rule.Unary is_true = omega arith
prefix_binds rule.Primary is_true = absurd (cc)

-- the two levels with signs, each with its sign
pub data SignOf : Precedence → Kind → Type 0 where
  bang : SignOf rule.Negation k.Bang
  dash : SignOf rule.Unary k.Dash

-- no test is both
pub false_true : false ≡ true → ⊥
false_true clash = cc

-- a sign is `!` on the level of negations, or `-` on the level of unary minus
pub sign_of : (l : Precedence) (t : Kind) → is_sign l t ≡ true → SignOf l t
sign_of rule.Conditional _ is_true = absurd (false_true is_true)
sign_of rule.Implication _ is_true = absurd (false_true is_true)
sign_of rule.Equivalence _ is_true = absurd (false_true is_true)
sign_of rule.Disjunction _ is_true = absurd (false_true is_true)
sign_of rule.Conjunction _ is_true = absurd (false_true is_true)
sign_of rule.Negation k.Bang is_true = bang
sign_of rule.Negation _ is_true = absurd (false_true is_true)
sign_of rule.Equality _ is_true = absurd (false_true is_true)
sign_of rule.Relation _ is_true = absurd (false_true is_true)
sign_of rule.Sum _ is_true = absurd (false_true is_true)
sign_of rule.Product _ is_true = absurd (false_true is_true)
sign_of rule.Unary k.Dash is_true = dash
sign_of rule.Unary _ is_true = absurd (false_true is_true)
sign_of rule.Primary _ is_true = absurd (false_true is_true)

-- a level with a sign is a level of signs
pub sign_prefix : (l : Precedence) (t : Kind) → is_sign l t ≡ true → is_prefix l ≡ true
sign_prefix l t is_true = prefix_of l t (sign_of l t is_true)
  where
    prefix_of : (m : Precedence) (u : Kind) → SignOf m u → is_prefix m ≡ true
    prefix_of m u bang = refl
    prefix_of m u dash = refl

-- a level with signs is no chain
pub prefix_no_chain : (l : Precedence) → is_prefix l ≡ true → is_chain l ≡ true → ⊥
prefix_no_chain rule.Conditional is_one is_other = cc
prefix_no_chain rule.Implication is_one is_other = cc
prefix_no_chain rule.Equivalence is_one is_other = cc
prefix_no_chain rule.Disjunction is_one is_other = cc
prefix_no_chain rule.Conjunction is_one is_other = cc
prefix_no_chain rule.Negation is_one is_other = cc
prefix_no_chain rule.Equality is_one is_other = cc
prefix_no_chain rule.Relation is_one is_other = cc
prefix_no_chain rule.Sum is_one is_other = cc
prefix_no_chain rule.Product is_one is_other = cc
prefix_no_chain rule.Unary is_one is_other = cc
prefix_no_chain rule.Primary is_one is_other = cc

-- a sign is no expression
pub sign_no_atom : (labels : Labels) (l : Precedence) (t : Kind) (x : Expr) → is_sign l t ≡ true → atom labels t ≡ Some x → ⊥
sign_no_atom labels l t x is_true found = of_sign labels l t x (sign_of l t is_true) found
  where
    of_sign : (p : Labels) (m : Precedence) (u : Kind) (y : Expr) → SignOf m u → atom p u ≡ Some y → ⊥
    of_sign Allowed m u y bang is = none-some y is
    of_sign Refused m u y bang is = none-some y is
    of_sign Allowed m u y dash is = none-some y is
    of_sign Refused m u y dash is = none-some y is

-- a sign is no function
pub sign_no_function : (l : Precedence) (t : Kind) (f : Func) → is_sign l t ≡ true → function t ≡ Some f → ⊥
sign_no_function l t f is_true found = of_sign l t f (sign_of l t is_true) found
  where
    of_sign : (m : Precedence) (u : Kind) (g : Func) → SignOf m u → function u ≡ Some g → ⊥
    of_sign m u g bang is = none-some g is
    of_sign m u g dash is = none-some g is

-- a sign is no `(`
pub sign_no_open : (l : Precedence) (t : Kind) → is_sign l t ≡ true → t ≡ k.Open → ⊥
sign_no_open l t is_true same = of_sign l t (sign_of l t is_true) same
  where
    of_sign : (m : Precedence) (u : Kind) → SignOf m u → u ≡ k.Open → ⊥
    of_sign m u bang is = cc
    of_sign m u dash is = cc

-- a sign is one of one level only
pub sign_of_one : (l m : Precedence) (t : Kind) → is_sign l t ≡ true → is_sign m t ≡ true → rank l ≡ rank m
sign_of_one l m t first second = of_signs l m t (sign_of l t first) second
  where
    of_dash : (n : Precedence) (u : Kind) → SignOf n u → u ≡ k.Dash → rank n ≡ 10
    of_dash n u bang is = absurd (cc)
    of_dash n u dash is = refl

    of_bang : (n : Precedence) (u : Kind) → SignOf n u → u ≡ k.Bang → rank n ≡ 5
    of_bang n u bang is = refl
    of_bang n u dash is = absurd (cc)

    of_signs : (n p : Precedence) (u : Kind) → SignOf n u → is_sign p u ≡ true → rank n ≡ rank p
    of_signs n p u bang is = sym (of_bang p k.Bang (sign_of p k.Bang is) refl)
    of_signs n p u dash is = sym (of_dash p k.Dash (sign_of p k.Dash is) refl)

-- a test that passes says the order
le_tested : (a b : ℕ) → nat_le a b ≡ true → a ≤ b
le_tested a b holds = grind (arith, nat_tests)

-- and the order passes the test
le_test : (a b : ℕ) → a ≤ b → nat_le a b ≡ true
le_test a b holds = grind (arith, nat_tests)

-- a rank that reaches a greater one reaches a smaller one
reaches_less : (least most : ℕ) (o : Option ℕ) → least ≤ most → reaches most o ≡ true → reaches least o ≡ true
reaches_less least most (Some n) below holds = le_test least n (let within = le_tested most n holds in omega arith)
reaches_less least most None below holds = holds

-- what goes on a level that binds more goes on one that binds less
pub goes_on_less : (l m : Precedence) (ts : List Kind) → rank l ≤ rank m → GoesOn m ts → GoesOn l ts
goes_on_less l m [] below goes = goes
goes_on_less l m (t ∷ ts) below goes = reaches_less (rank l) (rank m) (rank_of t) below goes

-- a token of a smaller rank does not go on a level
pub goes_on_rank : (l : Precedence) (t : Kind) (n : ℕ) → rank_of t ≡ Some n → goes_on l t ≡ true → rank l ≤ n
goes_on_rank l t n found holds = le_tested (rank l) n (ap (reaches (rank l)) (sym found) ∙ holds)

-- a token of the rank of a level goes on it
pub rank_goes_on : (l : Precedence) (t : Kind) → rank_of t ≡ Some (rank l) → goes_on l t ≡ true
rank_goes_on l t found = ap (reaches (rank l)) found ∙ le_test (rank l) (rank l) (omega arith)

-- an operator of a level goes on it
pub operator_goes_on : (l : Precedence) (t : Kind) (o : Op) → operator l t ≡ Some o → goes_on l t ≡ true
operator_goes_on l t o found = rank_goes_on l t (operator_rank l t o found)

-- no operand of a chain goes on with an operator of it
pub operand_stops : (l : Precedence) (t : Kind) (o : Op) → is_chain l ≡ true → operator l t ≡ Some o → goes_on (inner l) t ≡ true → ⊥
operand_stops l t o is_true found goes =
    let within = goes_on_rank (inner l) t (rank l) (operator_rank l t o found) goes in
    let below = chain_binds l is_true in
    omega arith
