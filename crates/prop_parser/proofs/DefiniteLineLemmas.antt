-- Each line of properties is definite: tokens begin with at most one text of it.
use Rattle.std.proofs.Common.{◌≡◌, ◌⊎◌, inl, inr, ℕ, List, [], ◌∷◌, length, Some, refl, sym, ◌∙◌, ap, subst}
use Rattle.std.proofs.lemmas.Option.{none-some}
use Rattle.smc_num.specs.Fraction.{Fraction}
use Rattle.prism_syntax.specs.declared.labels.Labels.TheVariants.{Allowed}
use Rattle.prism_syntax.specs.declared.tokens.Kind.{Kind}
use Rattle.prism_syntax.specs.declared.tokens.Kind.TheVariants as k
use Rattle.prism_syntax.specs.declared.tokens.Token.{Token}
use Rattle.prism_syntax.specs.declared.expressions.Expr.{Expr}
use Rattle.prism_syntax.specs.declared.expressions.Expr.TheVariants as e
use Rattle.prism_syntax.specs.declared.precedence.Precedence.TheVariants as rule
use Rattle.prism_syntax.specs.declared.properties.Time.{Time}
use Rattle.prism_syntax.specs.declared.properties.PathText.TheVariants as path
use Rattle.prism_syntax.specs.Tokens.{kinds}
use Rattle.prism_syntax.specs.Properties.{IsTime, IsProperty}
use Rattle.prism_reading.specs.Reading.{Anything, Parses, Fails}
use Rattle.prism_reading.specs.Sequences.{IsTerminal, IsName, Both, OneOf}
use Rattle.prism_reading.proofs.ReachLemmas.{heads}
use Rattle.prism_reading.proofs.TerminalLemmas.{terminal_kinds, terminal_parses}
use Rattle.prism_reading.proofs.MadeLemmas.{made_definite, made_starts, made_found, made_missing}
use Rattle.prism_reading.proofs.DefiniteLemmas.{IsDefinite, Starts, anything_leads, terminal_definite, terminal_has, terminal_starts, name_definite, name_has, name_starts, IsNameKind, is_name, found, misses}
use Rattle.prism_reading.proofs.BothLemmas.{both_definite, both_has, both_starts, both_found, second_missing}
use Rattle.prism_reading.proofs.OneOfLemmas.{starts_apart, one_of_definite, one_of_starts, first_has, first_found, second_found, first_alone, second_alone}
use Rattle.prop_parser.specs.Parts.{IsOne, cmp_of, strict_of, IsStateUntil, IsLast, paren, IsTimed, IsPathUntil, IsBoundUntil}
use Rattle.prop_parser.proofs.OneLemmas.{HasTree, one_definite, one_starts, one_missing, until_definite, state_has, state_starts, IsNoPathWord}
use Rattle.prop_parser.proofs.LineLemmas.{whole_of, whole_has, last_made, time_made, path_made, property_made, NextParts, FinallyParts, GloballyParts, UntilParts, PathParts, TimeParts, PropertyParts, last_has, timed_has}

-- a name is no `(`
name_open : (t : Kind) → IsNameKind t → t ≡ k.Open → ⊥
name_open _ is_name equal = cc

-- a whole number is neither
whole_other : (t : Kind) → HasTree whole_of t → IsNameKind t ⊎ (t ≡ k.Open) → ⊥
whole_other _ tree (inl is_name) = none-some tree.0 tree.1
whole_other t tree (inr open_is) = none-some tree.0 (sym (ap whole_of open_is) ∙ tree.1)

-- the last step of a time
paren_starts : Starts (Both (IsTerminal k.Open) (IsStateUntil k.Close)) (λ t. t ≡ k.Open)
paren_starts = both_starts (terminal_starts k.Open)

paren_definite : IsDefinite (Both (IsTerminal k.Open) (IsStateUntil k.Close)) Anything
paren_definite = both_definite (terminal_definite k.Open) anything_leads (until_definite Allowed rule.Conditional k.Close refl)

name_or_paren_starts : Starts (OneOf IsName (Both (IsTerminal k.Open) (IsStateUntil k.Close))) (λ t. IsNameKind t ⊎ (t ≡ k.Open))
name_or_paren_starts = one_of_starts name_starts paren_starts

pub last_definite : IsDefinite IsLast Anything
last_definite = made_definite last_made
    (one_of_definite (one_definite whole_of) (one_of_definite name_definite paren_definite (starts_apart name_starts paren_starts name_open)) (starts_apart (one_starts whole_of) name_or_paren_starts whole_other))

pub last_starts : Starts IsLast (λ t. HasTree whole_of t ⊎ (IsNameKind t ⊎ (t ≡ k.Open)))
last_starts = made_starts last_made (one_of_starts (one_starts whole_of) name_or_paren_starts)

-- a time
pub time_parts_definite : IsDefinite TimeParts Anything
time_parts_definite = both_definite (one_definite strict_of) anything_leads last_definite

pub time_definite : IsDefinite IsTime Anything
time_definite = made_definite time_made time_parts_definite

-- with the state formula after it
pub timed_definite : IsDefinite IsTimed Anything
timed_definite = both_definite time_definite anything_leads (until_definite Allowed rule.Conditional k.CloseBracket refl)

-- the path formulas
pub next_definite : IsDefinite NextParts Anything
next_definite = both_definite (terminal_definite k.X) anything_leads (until_definite Allowed rule.Conditional k.CloseBracket refl)

pub finally_definite : IsDefinite FinallyParts Anything
finally_definite = both_definite (terminal_definite k.F) anything_leads timed_definite

pub globally_definite : IsDefinite GloballyParts Anything
globally_definite = both_definite (terminal_definite k.G) anything_leads timed_definite

pub until_parts_definite : IsDefinite UntilParts Anything
until_parts_definite = both_definite (until_definite Allowed rule.Conditional k.U refl) anything_leads timed_definite

next_starts : Starts NextParts (λ t. t ≡ k.X)
next_starts = both_starts (terminal_starts k.X)

finally_starts : Starts FinallyParts (λ t. t ≡ k.F)
finally_starts = both_starts (terminal_starts k.F)

globally_starts : Starts GloballyParts (λ t. t ≡ k.G)
globally_starts = both_starts (terminal_starts k.G)

until_starts : Starts UntilParts IsNoPathWord
until_starts = both_starts (state_starts k.U)

-- of the last two, and of the last three
two_starts : Starts (OneOf GloballyParts UntilParts) (λ t. (t ≡ k.G) ⊎ IsNoPathWord t)
two_starts = one_of_starts globally_starts until_starts

three_starts : Starts (OneOf FinallyParts (OneOf GloballyParts UntilParts)) (λ t. (t ≡ k.F) ⊎ ((t ≡ k.G) ⊎ IsNoPathWord t))
three_starts = one_of_starts finally_starts two_starts

globally_apart : (t : Kind) → t ≡ k.G → IsNoPathWord t → ⊥
globally_apart t is other = other.globally is

finally_apart : (t : Kind) → t ≡ k.F → (t ≡ k.G) ⊎ IsNoPathWord t → ⊥
finally_apart t is (inl also) = let never : k.F ≡ k.G = sym is ∙ also in cc
finally_apart t is (inr other) = other.finally is

next_apart : (t : Kind) → t ≡ k.X → (t ≡ k.F) ⊎ ((t ≡ k.G) ⊎ IsNoPathWord t) → ⊥
next_apart t is (inl also) = let never : k.X ≡ k.F = sym is ∙ also in cc
next_apart t is (inr (inl also)) = let never : k.X ≡ k.G = sym is ∙ also in cc
next_apart t is (inr (inr other)) = other.next is

two_definite : IsDefinite (OneOf GloballyParts UntilParts) Anything
two_definite = one_of_definite globally_definite until_parts_definite (starts_apart globally_starts until_starts globally_apart)

three_definite : IsDefinite (OneOf FinallyParts (OneOf GloballyParts UntilParts)) Anything
three_definite = one_of_definite finally_definite two_definite (starts_apart finally_starts two_starts finally_apart)

path_parts_definite : IsDefinite PathParts Anything
path_parts_definite = one_of_definite next_definite three_definite (starts_apart next_starts three_starts next_apart)

pub path_definite : IsDefinite IsPathUntil Anything
path_definite = made_definite path_made path_parts_definite

-- a property, from its bound on, from its comparison on, and whole
pub bound_definite : IsDefinite IsBoundUntil Anything
bound_definite = until_definite Allowed rule.Sum k.OpenBracket refl

pub from_bound_definite : IsDefinite (Both IsBoundUntil IsPathUntil) Anything
from_bound_definite = both_definite bound_definite anything_leads path_definite

pub from_cmp_definite : IsDefinite (Both (IsOne cmp_of) (Both IsBoundUntil IsPathUntil)) Anything
from_cmp_definite = both_definite (one_definite cmp_of) anything_leads from_bound_definite

pub property_parts_definite : IsDefinite PropertyParts Anything
property_parts_definite = both_definite (terminal_definite k.P) anything_leads from_cmp_definite

pub property_definite : IsDefinite IsProperty Anything
property_definite = made_definite property_made property_parts_definite

-- the first token of tokens
first_of : {ts rest : List Token} {t u : Kind} {l : List Kind} (first : Token) → ts ≡ first ∷ rest → first.kind ≡ t → kinds ts ≡ u ∷ l → u ≡ t
first_of first cut is equal = heads (sym equal ∙ ap kinds cut) ∙ is

-- the last step of a time in parentheses
pub paren_found : {ts rest after : List Token} {x : Expr} (first : Token) → ts ≡ first ∷ rest → first.kind ≡ k.Open → Parses (IsStateUntil k.Close) Anything rest x after (length after) → Parses IsLast Anything ts (e.Paren x) after (length after)
paren_found {after = after} {x = x} first cut is inside =
    found _ (first ∷ inside.prefix) after (e.Paren x) last_definite (cut ∙ ap (λ l. first ∷ l) inside.cut) (subst (λ t. IsLast (t ∷ kinds inside.prefix) (e.Paren x)) (sym is) (paren inside.text)) tt

pub paren_missing : {ts rest : List Token} {left : ℕ} (first : Token) → ts ≡ first ∷ rest → first.kind ≡ k.Open → Fails (IsStateUntil k.Close) Anything rest left → Fails IsLast Anything ts left
paren_missing {ts = ts} first cut is none =
    made_missing last_made (second_alone (one_missing whole_of whole_has first cut (ap whole_of is))
    (second_alone (misses ts name_starts name_has (λ t l equal named. name_open t named (first_of first cut is equal)))
    (second_missing (terminal_definite k.Open) anything_leads (terminal_parses first cut is) none)))

-- nothing that begins one
pub last_missing : {ts : List Token} → ((t : Kind) (l : List Kind) → kinds ts ≡ t ∷ l → (HasTree whole_of t ⊎ (IsNameKind t ⊎ (t ≡ k.Open))) → ⊥) → Fails IsLast Anything ts (length ts)
last_missing {ts = ts} none = misses ts last_starts (last_has []) none

-- a path formula by its first token
first_is : {ts rest : List Token} {t u : Kind} {l : List Kind} → Parses (IsTerminal t) Anything ts tt rest (length rest) → kinds ts ≡ u ∷ l → u ≡ t
first_is one equal = heads (sym equal ∙ terminal_kinds one)

pub next_found : {ts rest after : List Token} {x : Expr} → Parses (IsTerminal k.X) Anything ts tt rest (length rest) → Parses (IsStateUntil k.CloseBracket) Anything rest x after (length after)
    → Parses IsPathUntil Anything ts (path.Next x) after (length after)
next_found one two = made_found path_made (first_found path_parts_definite (both_found next_definite one two))

pub next_missing : {ts rest : List Token} {left : ℕ} → Parses (IsTerminal k.X) Anything ts tt rest (length rest) → Fails (IsStateUntil k.CloseBracket) Anything rest left → Fails IsPathUntil Anything ts left
next_missing {ts = ts} one none =
    made_missing path_made (first_alone (second_missing (terminal_definite k.X) anything_leads one none)
    (misses ts three_starts (first_has (both_has (terminal_has k.F) timed_has)) (λ t l equal starts. next_apart t (first_is one equal) starts)))

pub finally_found : {ts rest after : List Token} {z : Time × Expr} → Parses (IsTerminal k.F) Anything ts tt rest (length rest) → Parses IsTimed Anything rest z after (length after)
    → Parses IsPathUntil Anything ts (path.Finally z.0 z.1) after (length after)
finally_found one two = made_found path_made (second_found path_parts_definite (first_found three_definite (both_found finally_definite one two)))

-- no next stands where another path formula begins
no_next : {ts : List Token} → ((t : Kind) (l : List Kind) → kinds ts ≡ t ∷ l → t ≡ k.X → ⊥) → Fails NextParts Anything ts (length ts)
no_next {ts = ts} other = misses ts next_starts (both_has (terminal_has k.X) (state_has k.CloseBracket)) other

pub finally_missing : {ts rest : List Token} {left : ℕ} → Parses (IsTerminal k.F) Anything ts tt rest (length rest) → Fails IsTimed Anything rest left → Fails IsPathUntil Anything ts left
finally_missing {ts = ts} one none =
    made_missing path_made (second_alone (no_next (λ t l equal is. let never : k.X ≡ k.F = sym is ∙ first_is one equal in cc))
    (first_alone (second_missing (terminal_definite k.F) anything_leads one none)
    (misses ts two_starts (first_has (both_has (terminal_has k.G) timed_has)) (λ t l equal starts. finally_apart t (first_is one equal) starts))))

pub globally_found : {ts rest after : List Token} {z : Time × Expr} → Parses (IsTerminal k.G) Anything ts tt rest (length rest) → Parses IsTimed Anything rest z after (length after)
    → Parses IsPathUntil Anything ts (path.Globally z.0 z.1) after (length after)
globally_found one two = made_found path_made (second_found path_parts_definite (second_found three_definite (first_found two_definite (both_found globally_definite one two))))

-- nor does a finally
no_finally : {ts : List Token} → ((t : Kind) (l : List Kind) → kinds ts ≡ t ∷ l → t ≡ k.F → ⊥) → Fails FinallyParts Anything ts (length ts)
no_finally {ts = ts} other = misses ts finally_starts (both_has (terminal_has k.F) timed_has) other

-- nor a globally
no_globally : {ts : List Token} → ((t : Kind) (l : List Kind) → kinds ts ≡ t ∷ l → t ≡ k.G → ⊥) → Fails GloballyParts Anything ts (length ts)
no_globally {ts = ts} other = misses ts globally_starts (both_has (terminal_has k.G) timed_has) other

pub globally_missing : {ts rest : List Token} {left : ℕ} → Parses (IsTerminal k.G) Anything ts tt rest (length rest) → Fails IsTimed Anything rest left → Fails IsPathUntil Anything ts left
globally_missing {ts = ts} one none =
    made_missing path_made (second_alone (no_next (λ t l equal is. let never : k.X ≡ k.G = sym is ∙ first_is one equal in cc))
    (second_alone (no_finally (λ t l equal is. let never : k.F ≡ k.G = sym is ∙ first_is one equal in cc))
    (first_alone (second_missing (terminal_definite k.G) anything_leads one none)
    (misses ts until_starts (both_has (state_has k.U) timed_has) (λ t l equal starts. globally_apart t (first_is one equal) starts)))))

pub until_found : {ts rest after : List Token} {x : Expr} {z : Time × Expr} → Parses (IsStateUntil k.U) Anything ts x rest (length rest) → Parses IsTimed Anything rest z after (length after)
    → Parses IsPathUntil Anything ts (path.Until x z.0 z.1) after (length after)
until_found one two = made_found path_made (second_found path_parts_definite (second_found three_definite (second_found two_definite (both_found until_parts_definite one two))))

-- where the tokens begin with no word of path formulas, an until is missing
pub until_missing : {ts : List Token} {left : ℕ} → ((after : List Kind) → kinds ts ≡ k.X ∷ after → ⊥) → ((after : List Kind) → kinds ts ≡ k.F ∷ after → ⊥) → ((after : List Kind) → kinds ts ≡ k.G ∷ after → ⊥)
    → Fails UntilParts Anything ts left → Fails IsPathUntil Anything ts left
until_missing no_x no_f no_g none =
    made_missing path_made (second_alone (no_next (λ t l equal is. no_x l (equal ∙ ap (λ u. u ∷ l) is)))
    (second_alone (no_finally (λ t l equal is. no_f l (equal ∙ ap (λ u. u ∷ l) is)))
    (second_alone (no_globally (λ t l equal is. no_g l (equal ∙ ap (λ u. u ∷ l) is))) none)))

-- the first token begins no last step
pub no_last : {ts rest : List Token} (first : Token) → ts ≡ first ∷ rest → ((value : Fraction) → first.kind ≡ k.Whole value → ⊥) → ((text : List ℕ) → first.kind ≡ k.Name text → ⊥) → (first.kind ≡ k.Open → ⊥)
    → Fails IsLast Anything ts (length ts)
no_last first cut no_whole no_name no_open = last_missing (λ t l equal starts. none t (heads (sym (ap kinds cut) ∙ equal)) starts)
  where
    whole_is : (t : Kind) (v : Fraction) → whole_of t ≡ Some v → (value : Fraction) × (t ≡ k.Whole value)
    whole_is (k.Whole value) v is = (value, refl)
    whole_is _ v is = absurd (none-some v is)

    name_is : (t : Kind) → IsNameKind t → (text : List ℕ) × (t ≡ k.Name text)
    name_is _ (is_name {text = text}) = (text, refl)

    none : (t : Kind) → first.kind ≡ t → HasTree whole_of t ⊎ (IsNameKind t ⊎ (t ≡ k.Open)) → ⊥
    none t same (inl tree) = let is = whole_is t tree.0 tree.1 in no_whole is.0 (same ∙ is.1)
    none t same (inr (inl named)) = let is = name_is t named in no_name is.0 (same ∙ is.1)
    none t same (inr (inr open_is)) = no_open (same ∙ open_is)
