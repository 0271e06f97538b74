-- How pieces are spelled: each well-formed token by bytes that are that token.
use Rattle.std.proofs.Common.{◌≡◌, ℕ, pos, true, false, List, [], Option, Some, unwrap_or, is_some, refl, sym, ◌∙◌, ap, subst}
use Rattle.std.specs.Prelude.{Result, Ok, Err}
use Rattle.smc_num.specs.declared.fault.ReadNum.{ReadNum}
use Rattle.smc_num.specs.Fraction.{Fraction}
use Rattle.smc_num.specs.Spelling.{decimal, value_of}
use Rattle.prism_syntax.specs.declared.tokens.Kind.{Kind}
use Rattle.prism_syntax.specs.declared.tokens.Kind.TheVariants as k
use Rattle.prism_syntax.specs.Spelling.{spelling_of}
use Rattle.prism_syntax.specs.Tokens.{IsToken, number_kind}
use Rattle.prism_syntax.specs.Tokens as token
use Rattle.prism_syntax.specs.WellFormed.{IsFormedKind}
use Rattle.prism_print.specs.Pieces.{spelled}
use Rattle.prism_print.proofs.NumberLemmas.{whole_token, real_token}

-- a symbol or a reserved word is spelled as it is listed
unwrapped : (kind : Kind) → is_some (spelling_of kind) ≡ true → spelled kind ≡ unwrap_or (spelling_of kind) []
unfolding spelling_of
unwrapped (k.Name text) some = absurd (cc)
unwrapped (k.Quoted text) some = absurd (cc)
unwrapped (k.Whole value) some = absurd (cc)
unwrapped (k.Real value) some = absurd (cc)
unwrapped kind some = refl

pub spelled_fixed : (kind : Kind) (bytes : List ℕ) → spelling_of kind ≡ Some bytes → spelled kind ≡ bytes
spelled_fixed kind bytes is = unwrapped kind (ap is_some is) ∙ ap (λ o. unwrap_or o []) is

pub some_same : {X : Type 0} {x y : X} → ◌≡◌ {A = Option X} (Some x) (Some y) → x ≡ y
some_same same = cc

-- each well-formed token's spelling is that token
token_spelled : (bytes : List ℕ) (o : Option Kind) → IsToken bytes o → (kind : Kind) → o ≡ Some kind → IsFormedKind kind → IsToken (spelled kind) (Some kind)
token_spelled _ _ (token.fixed bytes fixed is) kind same formed =
    let spelling : spelling_of kind ≡ Some bytes = ap spelling_of (sym (some_same same)) ∙ is in
    token.fixed (spelled kind) kind (spelling ∙ ap Some (sym (spelled_fixed kind bytes spelling)))
token_spelled _ _ (token.name bytes is free) kind same formed =
    subst (λ t. IsToken (spelled t) (Some t)) (some_same same) (token.name bytes is free)
token_spelled _ _ (token.quoted bytes is) kind same formed =
    subst (λ t. IsToken (spelled t) (Some t)) (some_same same) (token.quoted bytes is)
token_spelled _ _ (token.whole digits numeral) kind same formed = of_number (value_of false (decimal digits (pos 0))) same
  where
    of_number : (r : Result Fraction ReadNum) → number_kind k.Whole r ≡ Some kind → IsToken (spelled kind) (Some kind)
    of_number (Ok value) is =
        let number : k.Whole value ≡ kind = some_same is in
        subst (λ t. IsToken (spelled t) (Some t)) number (whole_token value (subst IsFormedKind (sym number) formed))
    of_number (Err fault) is = absurd (cc)
token_spelled _ _ (token.real bytes digits power is not_whole) kind same formed = of_number (value_of false (decimal digits power)) same
  where
    of_number : (r : Result Fraction ReadNum) → number_kind k.Real r ≡ Some kind → IsToken (spelled kind) (Some kind)
    of_number (Ok value) is =
        let number : k.Real value ≡ kind = some_same is in
        subst (λ t. IsToken (spelled t) (Some t)) number (real_token value (subst IsFormedKind (sym number) formed))
    of_number (Err fault) is = absurd (cc)

pub formed_token : (kind : Kind) → IsFormedKind kind → IsToken (spelled kind) (Some kind)
formed_token kind formed = token_spelled formed.0 (Some kind) formed.1 kind refl formed
