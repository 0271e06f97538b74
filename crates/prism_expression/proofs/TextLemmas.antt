-- What the texts of a level look like, by the shape of the level.
use Rattle.std.proofs.Common.{◌≡◌, true, List, [], ◌∷◌, ◌++◌, length, Some}
use Rattle.prism_syntax.specs.declared.labels.Labels.{Labels}
use Rattle.prism_syntax.specs.declared.tokens.Kind.{Kind}
use Rattle.prism_syntax.specs.declared.tokens.Kind.TheVariants as k
use Rattle.prism_syntax.specs.declared.expressions.Expr.{Expr}
use Rattle.prism_syntax.specs.declared.expressions.Expr.TheVariants as e
use Rattle.prism_syntax.specs.declared.expressions.Op.{Op}
use Rattle.prism_syntax.specs.declared.expressions.Func.{Func}
use Rattle.prism_syntax.specs.declared.precedence.Precedence.{Precedence}
use Rattle.prism_syntax.specs.declared.precedence.Precedence.TheVariants as rule
use Rattle.prism_syntax.specs.Precedence.{inner, is_chain, is_prefix, is_sign, signed, atom, function, takes}
use Rattle.prism_syntax.specs.Expressions.{Derives, chain, bare, sign, plain, conditional, leaf, paren, call, ChainTail, Arguments, level}
use Rattle.prism_expression.proofs.RankLemmas.{false_true, prefix_no_chain, sign_prefix}

-- an operand, and links after it
pub data ChainText (labels : Labels) (l : Precedence) : List Kind → Expr → Type 0 where
  chain_text : {a b : List Kind} {x : Expr} {ys : List Expr} {os : List Op}
      → Derives labels (inner l) a x → ChainTail labels l b ys os → ChainText labels l (a ++ b) (level x ys os)

-- an operand, or a sign and a text of the level
pub data PrefixText (labels : Labels) (l : Precedence) : List Kind → Expr → Type 0 where
  bare_text : {a : List Kind} {x : Expr} → Derives labels (inner l) a x → PrefixText labels l a x
  sign_text : {t : Kind} {a : List Kind} {x : Expr} → is_sign l t ≡ true → Derives labels l a x → PrefixText labels l (t ∷ a) (signed l x)

-- an implication, or a conditional
pub data ConditionalText (labels : Labels) : List Kind → Expr → Type 0 where
  plain_text : {a : List Kind} {x : Expr} → Derives labels rule.Implication a x → ConditionalText labels a x
  conditional_text : {a b c : List Kind} {x y z : Expr}
      → Derives labels rule.Implication a x → Derives labels rule.Implication b y → Derives labels rule.Conditional c z
      → ConditionalText labels (a ++ (k.Query ∷ (b ++ (k.Colon ∷ c)))) (e.If x y z)

-- a token, an expression in parentheses, or a call
pub data PrimaryText (labels : Labels) : List Kind → Expr → Type 0 where
  leaf_text : {t : Kind} {x : Expr} → atom labels t ≡ Some x → PrimaryText labels (t ∷ []) x
  paren_text : {a : List Kind} {x : Expr} → Derives labels rule.Conditional a x → PrimaryText labels (k.Open ∷ (a ++ (k.Close ∷ []))) (e.Paren x)
  call_text : {t : Kind} {f : Func} {a b : List Kind} {x : Expr} {ys : List Expr}
      → function t ≡ Some f → takes f (length ys) ≡ true → Derives labels rule.Conditional a x → Arguments labels b ys
      → PrimaryText labels (t ∷ (k.Open ∷ (a ++ (b ++ (k.Close ∷ []))))) (e.Call f (x ∷ ys))

-- a text of a chain is an operand and links
pub chain_texts : {labels : Labels} {l : Precedence} {ks : List Kind} {x : Expr} → is_chain l ≡ true → Derives labels l ks x → ChainText labels l ks x
chain_texts is_true (chain is_one operand links) = chain_text operand links
chain_texts {l = l} is_true (bare is_one operand) = absurd (prefix_no_chain l is_one is_true)
chain_texts {l = l} is_true (sign {t = t} is_one operand) = absurd (prefix_no_chain l (sign_prefix l t is_one) is_true)
chain_texts is_true (plain first) = absurd (false_true is_true)
chain_texts is_true (conditional first second third) = absurd (false_true is_true)
chain_texts is_true (leaf found) = absurd (false_true is_true)
chain_texts is_true (paren inside) = absurd (false_true is_true)
chain_texts is_true (call found fits first parts) = absurd (false_true is_true)

-- a text of a level with signs is an operand, or has a sign first
pub prefix_texts : {labels : Labels} {l : Precedence} {ks : List Kind} {x : Expr} → is_prefix l ≡ true → Derives labels l ks x → PrefixText labels l ks x
prefix_texts {l = l} is_true (chain is_one operand links) = absurd (prefix_no_chain l is_true is_one)
prefix_texts is_true (bare is_one operand) = bare_text operand
prefix_texts is_true (sign is_one operand) = sign_text is_one operand
prefix_texts is_true (plain first) = absurd (false_true is_true)
prefix_texts is_true (conditional first second third) = absurd (false_true is_true)
prefix_texts is_true (leaf found) = absurd (false_true is_true)
prefix_texts is_true (paren inside) = absurd (false_true is_true)
prefix_texts is_true (call found fits first parts) = absurd (false_true is_true)

-- a text of the first level is an implication or a conditional
pub conditional_texts : {labels : Labels} {ks : List Kind} {x : Expr} → Derives labels rule.Conditional ks x → ConditionalText labels ks x
conditional_texts (chain is_one operand links) = absurd (false_true is_one)
conditional_texts (bare is_one operand) = absurd (false_true is_one)
conditional_texts (sign is_one operand) = absurd (false_true is_one)
conditional_texts (plain first) = plain_text first
conditional_texts (conditional first second third) = conditional_text first second third

-- a text of the last level is a token, an expression in parentheses or a call
pub primary_texts : {labels : Labels} {ks : List Kind} {x : Expr} → Derives labels rule.Primary ks x → PrimaryText labels ks x
primary_texts (chain is_one operand links) = absurd (false_true is_one)
primary_texts (bare is_one operand) = absurd (false_true is_one)
primary_texts (sign is_one operand) = absurd (false_true is_one)
primary_texts (leaf found) = leaf_text found
primary_texts (paren inside) = paren_text inside
primary_texts (call found fits first parts) = call_text found fits first parts
