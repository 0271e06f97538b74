-- The lines of properties as texts of their parts, one after another.
use Rattle.std.proofs.Common.{◌≡◌, ◌⊎◌, inl, inr, ℕ, Bool, true, false, pos, Option, None, List, [], ◌∷◌, ◌++◌, Some, refl, sym, ◌∙◌, ap, subst, append_assoc}
use Rattle.std.proofs.lemmas.Option.{none-some}
use Rattle.smc_num.specs.Fraction.{Fraction}
use Rattle.prism_syntax.specs.declared.tokens.Kind.{Kind}
use Rattle.prism_syntax.specs.declared.tokens.Kind.TheVariants as k
use Rattle.prism_syntax.specs.declared.expressions.Expr.{Expr}
use Rattle.prism_syntax.specs.declared.expressions.Expr.TheVariants as e
use Rattle.prism_syntax.specs.declared.properties.Cmp.{Cmp}
use Rattle.prism_syntax.specs.declared.properties.Time.{Time}
use Rattle.prism_syntax.specs.declared.properties.Time.TheVariants.{Upto}
use Rattle.prism_syntax.specs.declared.properties.PathText.{PathText}
use Rattle.prism_syntax.specs.declared.properties.PathText.TheVariants as path
use Rattle.prism_syntax.specs.declared.properties.Property.{Property}
use Rattle.prism_syntax.specs.Properties as line
use Rattle.prism_syntax.specs.Properties.{IsCmp, IsTimeSign, IsTime, IsPath, IsProperty}
use Rattle.prism_reading.specs.Sequences.{IsTerminal, terminal, IsName, Both, both, OneOf, Ended, ended}
use Rattle.prism_reading.specs.Sequences as sequence
use Rattle.prism_reading.proofs.MadeLemmas.{Parted, IsMade, made_has}
use Rattle.prism_reading.proofs.DefiniteLemmas.{HasText, terminal_has}
use Rattle.prism_reading.proofs.BothLemmas.{both_has}
use Rattle.prism_reading.proofs.OneOfLemmas.{first_has}
use Rattle.prop_parser.specs.Parts.{IsOne, one, cmp_of, strict_of, IsStateUntil, IsLast, IsTimed, IsPathUntil, IsBoundUntil}
use Rattle.prop_parser.specs.Parts as parts
use Rattle.prop_parser.proofs.OneLemmas.{state_has}

-- the sign of a time and the token that it is
sign_one : {t : Kind} {strict : Bool} → IsTimeSign t strict → strict_of t ≡ Some strict
sign_one line.within = refl
sign_one line.strict = refl

one_sign : (t : Kind) (strict : Bool) → strict_of t ≡ Some strict → IsTimeSign t strict
one_sign k.LessEqual s is = let same : false ≡ s = cc in subst (IsTimeSign k.LessEqual) same line.within
one_sign k.Less s is = let same : true ≡ s = cc in subst (IsTimeSign k.Less) same line.strict
one_sign _ s is = absurd (none-some s is)

-- a comparison and the token that it is
cmp_one : {t : Kind} {c : Cmp} → IsCmp t c → cmp_of t ≡ Some c
cmp_one line.at_least = refl
cmp_one line.above = refl
cmp_one line.at_most = refl
cmp_one line.below = refl

-- what stands in a `Some`
same_some : {X : Type 0} {x y : X} → Some x ≡ Some y → x ≡ y
same_some equal = cc

one_cmp : (t : Kind) (c : Cmp) → cmp_of t ≡ Some c → IsCmp t c
one_cmp k.GreaterEqual c is = subst (IsCmp k.GreaterEqual) (same_some is) line.at_least
one_cmp k.Greater c is = subst (IsCmp k.Greater) (same_some is) line.above
one_cmp k.LessEqual c is = subst (IsCmp k.LessEqual) (same_some is) line.at_most
one_cmp k.Less c is = subst (IsCmp k.Less) (same_some is) line.below
one_cmp _ c is = absurd (none-some c is)

-- the value of a whole number
abbrev pub whole_of : Kind → Option Fraction
whole_of (k.Whole value) = Some value
whole_of _ = None

-- the last step of a time
abbrev pub LastParts : List Kind → Fraction ⊎ (List ℕ ⊎ (Unit {0} × Expr)) → Type 0
LastParts = OneOf (IsOne whole_of) (OneOf IsName (Both (IsTerminal k.Open) (IsStateUntil k.Close)))

abbrev pub last_of : Fraction ⊎ (List ℕ ⊎ (Unit {0} × Expr)) → Expr
last_of (inl value) = e.Whole value
last_of (inr (inl text)) = e.Name text
last_of (inr (inr inside)) = e.Paren inside.1

one_whole : (t : Kind) (v : Fraction) → whole_of t ≡ Some v → IsLast (t ∷ []) (e.Whole v)
one_whole (k.Whole value) v is = subst (λ u. IsLast (k.Whole value ∷ []) (e.Whole u)) (same_some is) parts.whole
one_whole _ v is = absurd (none-some v is)

last_to : (a : List Kind) (p : Fraction ⊎ (List ℕ ⊎ (Unit {0} × Expr))) → LastParts a p → IsLast a (last_of p)
last_to _ _ (sequence.first (one {t = t} {x = v} is)) = one_whole t v is
last_to _ _ (sequence.second (sequence.first sequence.name)) = parts.name
last_to _ _ (sequence.second (sequence.second (both terminal text))) = parts.paren text

last_back : (a : List Kind) (x : Expr) → IsLast a x → Parted LastParts last_of a x
last_back _ _ (parts.whole {value = v}) = record { parts = inl v; text = sequence.first (one refl); is = refl }
last_back _ _ (parts.name {text = n}) = record { parts = inr (inl n); text = sequence.second (sequence.first sequence.name); is = refl }
last_back _ _ (parts.paren {x = x} text) = record { parts = inr (inr (tt, x)); text = sequence.second (sequence.second (both terminal text)); is = refl }

pub last_made : IsMade LastParts last_of IsLast
last_made = record { to = λ a p text. last_to a p text; back = λ a x text. last_back a x text }

-- a time
abbrev pub TimeParts : List Kind → Bool × Expr → Type 0
TimeParts = Both (IsOne strict_of) IsLast

abbrev pub time_of : Bool × Expr → Time
time_of p = Upto p.0 p.1

time_to : (a : List Kind) (p : Bool × Expr) → TimeParts a p → IsTime a (time_of p)
time_to _ _ (both (one {t = t} {x = s} is) parts.whole) = line.whole (one_sign t s is)
time_to _ _ (both (one {t = t} {x = s} is) parts.name) = line.name (one_sign t s is)
time_to _ _ (both (one {t = t} {x = s} is) (parts.paren (ended text))) = line.paren (one_sign t s is) text

time_back : (a : List Kind) (z : Time) → IsTime a z → Parted TimeParts time_of a z
time_back _ _ (line.whole {strict = s} {value = v} sign) = record { parts = (s, e.Whole v); text = both (one (sign_one sign)) parts.whole; is = refl }
time_back _ _ (line.name {strict = s} {n = n} sign) = record { parts = (s, e.Name n); text = both (one (sign_one sign)) parts.name; is = refl }
time_back _ _ (line.paren {strict = s} {x = x} sign text) = record { parts = (s, e.Paren x); text = both (one (sign_one sign)) (parts.paren (ended text)); is = refl }

pub time_made : IsMade TimeParts time_of IsTime
time_made = record { to = λ a p text. time_to a p text; back = λ a z text. time_back a z text }

-- a path formula up to its bracket
abbrev pub NextParts : List Kind → Unit {0} × Expr → Type 0
NextParts = Both (IsTerminal k.X) (IsStateUntil k.CloseBracket)

abbrev pub FinallyParts : List Kind → Unit {0} × (Time × Expr) → Type 0
FinallyParts = Both (IsTerminal k.F) IsTimed

abbrev pub GloballyParts : List Kind → Unit {0} × (Time × Expr) → Type 0
GloballyParts = Both (IsTerminal k.G) IsTimed

abbrev pub UntilParts : List Kind → Expr × (Time × Expr) → Type 0
UntilParts = Both (IsStateUntil k.U) IsTimed

abbrev pub AnyPath : Type 0
AnyPath = (Unit {0} × Expr) ⊎ ((Unit {0} × (Time × Expr)) ⊎ ((Unit {0} × (Time × Expr)) ⊎ (Expr × (Time × Expr))))

abbrev pub PathParts : List Kind → AnyPath → Type 0
PathParts = OneOf NextParts (OneOf FinallyParts (OneOf GloballyParts UntilParts))

abbrev pub path_of : AnyPath → PathText
path_of (inl p) = path.Next p.1
path_of (inr (inl p)) = path.Finally p.1.0 p.1.1
path_of (inr (inr (inl p))) = path.Globally p.1.0 p.1.1
path_of (inr (inr (inr p))) = path.Until p.0 p.1.0 p.1.1

-- the tokens of a time and a state formula, with the bracket
timed_cut : (a b : List Kind) → a ++ (b ++ (k.CloseBracket ∷ [])) ≡ (a ++ b) ++ (k.CloseBracket ∷ [])
timed_cut a b = sym (append_assoc a b (k.CloseBracket ∷ []))

-- the tokens of an until
until_cut : (a b c : List Kind) → (a ++ (k.U ∷ [])) ++ (b ++ (c ++ (k.CloseBracket ∷ []))) ≡ (a ++ (k.U ∷ (b ++ c))) ++ (k.CloseBracket ∷ [])
until_cut a b c =
    append_assoc a (k.U ∷ []) (b ++ (c ++ (k.CloseBracket ∷ []))) ∙ ap (λ l. a ++ (k.U ∷ l)) (timed_cut b c) ∙ sym (append_assoc a (k.U ∷ (b ++ c)) (k.CloseBracket ∷ []))

path_to : (a : List Kind) (p : AnyPath) → PathParts a p → IsPathUntil a (path_of p)
path_to _ _ (sequence.first (both terminal (ended text))) = ended (line.next text)
path_to _ _ (sequence.second (sequence.first (both terminal (both {a = a} {x = t} time (ended {a = b} {x = x} text))))) =
    subst (λ l. IsPathUntil (k.F ∷ l) (path.Finally t x)) (sym (timed_cut a b)) (ended (line.finally time text))
path_to _ _ (sequence.second (sequence.second (sequence.first (both terminal (both {a = a} {x = t} time (ended {a = b} {x = x} text)))))) =
    subst (λ l. IsPathUntil (k.G ∷ l) (path.Globally t x)) (sym (timed_cut a b)) (ended (line.globally time text))
path_to _ _ (sequence.second (sequence.second (sequence.second (both (ended {a = a} {x = x} first) (both {a = b} {x = t} time (ended {a = c} {x = y} text)))))) =
    subst (λ l. IsPathUntil l (path.Until x t y)) (sym (until_cut a b c)) (ended (line.until first time text))

path_back : (a : List Kind) (z : PathText) → IsPathUntil a z → Parted PathParts path_of a z
path_back _ _ (ended (line.next {x = x} text)) = record { parts = inl (tt, x); text = sequence.first (both terminal (ended text)); is = refl }
path_back _ _ (ended (line.finally {a = a} {b = b} {t = t} {x = x} time text)) = record {
  parts = inr (inl (tt, (t, x)));
  text = subst (λ l. PathParts (k.F ∷ l) (inr (inl (tt, (t, x))))) (timed_cut a b) (sequence.second (sequence.first (both terminal (both time (ended text)))));
  is = refl;
}
path_back _ _ (ended (line.globally {a = a} {b = b} {t = t} {x = x} time text)) = record {
  parts = inr (inr (inl (tt, (t, x))));
  text = subst (λ l. PathParts (k.G ∷ l) (inr (inr (inl (tt, (t, x)))))) (timed_cut a b) (sequence.second (sequence.second (sequence.first (both terminal (both time (ended text))))));
  is = refl;
}
path_back _ _ (ended (line.until {a = a} {b = b} {c = c} {t = t} {x = x} {y = y} first time text)) = record {
  parts = inr (inr (inr (x, (t, y))));
  text = subst (λ l. PathParts l (inr (inr (inr (x, (t, y)))))) (until_cut a b c) (sequence.second (sequence.second (sequence.second (both (ended first) (both time (ended text))))));
  is = refl;
}

pub path_made : IsMade PathParts path_of IsPathUntil
path_made = record { to = λ a p text. path_to a p text; back = λ a z text. path_back a z text }

-- a property
abbrev pub PropertyParts : List Kind → Unit {0} × (Cmp × (Expr × PathText)) → Type 0
PropertyParts = Both (IsTerminal k.P) (Both (IsOne cmp_of) (Both IsBoundUntil IsPathUntil))

abbrev pub property_of : Unit {0} × (Cmp × (Expr × PathText)) → Property
property_of p = record { cmp = p.1.0; bound = p.1.1.0; path = p.1.1.1 }

property_to : (a : List Kind) (p : Unit {0} × (Cmp × (Expr × PathText))) → PropertyParts a p → IsProperty a (property_of p)
property_to _ _ (both terminal (both (one {t = t} {x = c} is) (both (ended {a = a} {x = x} bound) (ended {a = b} {x = p} path)))) =
    subst (λ l. IsProperty (k.P ∷ (t ∷ l)) (record { cmp = c; bound = x; path = p })) (sym (append_assoc a (k.OpenBracket ∷ []) (b ++ (k.CloseBracket ∷ [])))) (line.property (one_cmp t c is) bound path)

property_back : (a : List Kind) (z : Property) → IsProperty a z → Parted PropertyParts property_of a z
property_back _ _ (line.property {t = t} {c = c} {a = a} {b = b} {x = x} {p = p} cmp bound path) = record {
  parts = (tt, (c, (x, p)));
  text = subst (λ l. PropertyParts (k.P ∷ (t ∷ l)) (tt, (c, (x, p)))) (append_assoc a (k.OpenBracket ∷ []) (b ++ (k.CloseBracket ∷ []))) (both terminal (both (one (cmp_one cmp)) (both (ended bound) (ended path))));
  is = refl;
}

pub property_made : IsMade PropertyParts property_of IsProperty
property_made = record { to = λ a p text. property_to a p text; back = λ a z text. property_back a z text }

-- each of these lines has a text
pub strict_has : HasText (IsOne strict_of)
strict_has = record { tokens = k.Less ∷ []; tree = true; text = one refl }

pub cmp_has : HasText (IsOne cmp_of)
cmp_has = record { tokens = k.Less ∷ []; tree = _; text = one refl }

pub whole_has : HasText (IsOne whole_of)
whole_has = record { tokens = k.Whole (record { num = pos 0; den = 1 }) ∷ []; tree = record { num = pos 0; den = 1 }; text = one refl }

pub last_has : (value : List ℕ) → HasText IsLast
last_has text = record { tokens = k.Name text ∷ []; tree = e.Name text; text = parts.name }

pub time_has : HasText IsTime
time_has = made_has time_made (both_has strict_has (last_has []))

pub timed_has : HasText IsTimed
timed_has = both_has time_has (state_has k.CloseBracket)

pub path_has : HasText IsPathUntil
path_has = made_has path_made (first_has (both_has (terminal_has k.X) (state_has k.CloseBracket)))
