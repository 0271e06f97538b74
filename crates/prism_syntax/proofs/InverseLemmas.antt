-- The tokens of operators and of functions are read as these.
use Rattle.std.proofs.Common.{◌≡◌, ℕ, List, Some, None, refl, codes, sym, ◌∙◌}
use Rattle.std.proofs.lemmas.Option.{none-some}
use Rattle.prism_syntax.specs.declared.tokens.Kind.TheVariants as k
use Rattle.prism_syntax.specs.declared.expressions.Func.{Func}
use Rattle.prism_syntax.specs.declared.expressions.Func.TheVariants as f
use Rattle.prism_syntax.specs.declared.expressions.Op.{Op}
use Rattle.prism_syntax.specs.declared.expressions.Op.TheVariants as o
use Rattle.prism_syntax.specs.Spelling.{spelling_of}
use Rattle.prism_syntax.specs.Tokens.{IsToken, IsFree}
use Rattle.prism_syntax.specs.Tokens as token
use Rattle.prism_syntax.specs.Precedence.{operator}
use Rattle.prism_syntax.specs.Inverses.{operator_token, operator_level, function_token, function_spelling}
use Rattle.prism_syntax.specs.SpellingTables.{short_words, four_letter_words, five_letter_words}
use Rattle.prism_syntax.proofs.ListedLemmas.{kind_spelled, listed}

-- bytes that no table has are no spelling
free_from : (bytes : List ℕ) → kind_spelled bytes ≡ None → IsFree bytes
free_from bytes none kind spelled = none-some kind (sym none ∙ listed kind bytes spelled)

-- the bytes of a function are its token
pub function_is_token : (f : Func) → IsToken (function_spelling f) (Some (function_token f))
unfolding spelling_of short_words four_letter_words five_letter_words
function_is_token f.Min = token.fixed (codes "min") k.Min refl
function_is_token f.Max = token.fixed (codes "max") k.Max refl
function_is_token f.Floor = token.name (codes "floor") refl (free_from (codes "floor") refl)
function_is_token f.Ceil = token.name (codes "ceil") refl (free_from (codes "ceil") refl)
function_is_token f.Pow = token.name (codes "pow") refl (free_from (codes "pow") refl)
function_is_token f.Mod = token.name (codes "mod") refl (free_from (codes "mod") refl)

-- the token of an operator is read as it, at its level
pub token_is_operator : (op : Op) → operator (operator_level op) (operator_token op) ≡ Some op
token_is_operator o.Imp = refl
token_is_operator o.Iff = refl
token_is_operator o.Or = refl
token_is_operator o.And = refl
token_is_operator o.Eq = refl
token_is_operator o.Ne = refl
token_is_operator o.Lt = refl
token_is_operator o.Le = refl
token_is_operator o.Gt = refl
token_is_operator o.Ge = refl
token_is_operator o.Add = refl
token_is_operator o.Sub = refl
token_is_operator o.Mul = refl
token_is_operator o.Div = refl
