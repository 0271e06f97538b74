-- Tokens begin each line of a property exactly where they are a prefix of one of its texts.
use Rattle.std.proofs.Common.{◌≡◌, List, [], ◌∷◌, ◌++◌, Option, Some, refl, subst}
use Rattle.smc_num.specs.Fraction.{Fraction}
use Rattle.prism_syntax.specs.declared.labels.Labels.TheVariants.{Allowed}
use Rattle.prism_syntax.specs.declared.precedence.Precedence.{Precedence}
use Rattle.prism_syntax.specs.declared.precedence.Precedence.TheVariants as rule
use Rattle.prism_syntax.specs.declared.tokens.Kind.{Kind}
use Rattle.prism_syntax.specs.declared.tokens.Kind.TheVariants as k
use Rattle.prism_syntax.specs.Expressions.{Derives}
use Rattle.prism_syntax.specs.Properties.{IsTime, IsProperty}
use Rattle.prism_reading.specs.Reach.{IsPrefix}
use Rattle.prism_reading.specs.Sequences.{Ended}
use Rattle.prism_reading.specs.Begins.{BeginsTerminal, BeginsBoth}
use Rattle.prism_reading.proofs.DefiniteLemmas.{HasText, text_begins, nothing_begins, terminal_has}
use Rattle.prism_reading.proofs.BothLemmas.{both_has}
use Rattle.prism_reading.proofs.EndedLemmas.{ended_made}
use Rattle.prism_reading.proofs.BegunLemmas.{BeginsExactly, terminal_begun, name_begun, both_begun, one_of_begun, made_begun, after_begun}
use Rattle.prism_expression.specs.Begins.{Begins}
use Rattle.prism_expression.proofs.BeginLemmas.{begins_prefix, prefix_begins}
use Rattle.prop_parser.specs.Parts.{IsOne, one, cmp_of, strict_of, IsStateUntil, IsLast, IsTimed, IsPathUntil, IsBoundUntil}
use Rattle.prop_parser.specs.Begins.{BeginsOne, BeginsWhole, BeginsStateUntil, BeginsLast, BeginsTime, BeginsTimed, BeginsUntil, BeginsPath, BeginsBound, BeginsProperty}
use Rattle.prop_parser.specs.Begins as begin
use Rattle.prop_parser.proofs.OneLemmas.{state_has, bound_has}
use Rattle.prop_parser.proofs.LineLemmas.{whole_of, last_made, time_made, path_made, property_made, UntilParts, strict_has, cmp_has, whole_has, last_has, timed_has, path_has}

-- one token that has a tree by itself
one_to : {X : Type 0} (tree_of : Kind → Option X) (p more l : List Kind) (x : X) → IsOne tree_of l x → l ≡ p ++ more → BeginsOne tree_of p
one_to tree_of [] more _ x (one is) equal = begin.BeginsOne.nothing
one_to tree_of (t ∷ []) more _ x (one {t = u} is) equal =
    let same : u ≡ t = cc in
    subst (λ v. BeginsOne tree_of (v ∷ [])) same (begin.BeginsOne.whole is)
one_to tree_of (t ∷ (u ∷ p)) more _ x (one is) equal = absurd (cc)

one_back : {X : Type 0} (tree_of : Kind → Option X) (p : List Kind) → HasText (IsOne tree_of) → BeginsOne tree_of p → IsPrefix (IsOne tree_of) p
one_back tree_of _ has begin.BeginsOne.nothing = nothing_begins has
one_back tree_of _ has (begin.BeginsOne.whole {x = x} is) = text_begins x (one is)

one_begun : {X : Type 0} (tree_of : Kind → Option X) → HasText (IsOne tree_of) → BeginsExactly (IsOne tree_of) (BeginsOne tree_of)
one_begun tree_of has = record {
  to = λ p begins. one_to tree_of p begins.more (p ++ begins.more) begins.tree begins.text refl;
  back = λ p begins. one_back tree_of p has begins;
}

-- a whole number
whole_begins : (t : Kind) (value : Fraction) → whole_of t ≡ Some value → BeginsWhole (t ∷ [])
whole_begins (k.Whole v) value is = begin.BeginsWhole.whole
whole_begins _ value is = absurd (cc)

whole_to : (p : List Kind) → BeginsOne whole_of p → BeginsWhole p
whole_to _ begin.BeginsOne.nothing = begin.BeginsWhole.nothing
whole_to _ (begin.BeginsOne.whole {t = t} {x = v} is) = whole_begins t v is

whole_back : (p : List Kind) → BeginsWhole p → BeginsOne whole_of p
whole_back _ begin.BeginsWhole.nothing = begin.BeginsOne.nothing
whole_back _ begin.BeginsWhole.whole = begin.BeginsOne.whole refl

whole_begun : BeginsExactly (IsOne whole_of) BeginsWhole
whole_begun =
    let each = one_begun whole_of whole_has in
    record { to = λ p begins. whole_to p (each.to p begins); back = λ p begins. each.back p (whole_back p begins) }

-- an expression of a level up to the token that ends it
ended_begun : (level : Precedence) (stop : Kind) → BeginsExactly (Ended (Derives Allowed level) stop) (BeginsBoth (Derives Allowed level) (Begins Allowed level) (BeginsTerminal stop))
ended_begun level stop =
    made_begun (ended_made (Derives Allowed level) stop)
    (both_begun (terminal_has stop) (record { to = λ p begins. prefix_begins begins; back = λ p begins. begins_prefix begins }) (terminal_begun stop))

state_begun : (stop : Kind) → BeginsExactly (IsStateUntil stop) (BeginsStateUntil stop)
state_begun stop = ended_begun rule.Conditional stop

-- the last step of a time
last_begun : BeginsExactly IsLast BeginsLast
last_begun = made_begun last_made (one_of_begun whole_begun (one_of_begun name_begun (after_begun k.Open (state_has k.Close) (state_begun k.Close))))

-- a time, and the state formula after it
time_begun : BeginsExactly IsTime BeginsTime
time_begun = made_begun time_made (both_begun (last_has []) (one_begun strict_of strict_has) last_begun)

timed_begun : BeginsExactly IsTimed BeginsTimed
timed_begun = both_begun (state_has k.CloseBracket) time_begun (state_begun k.CloseBracket)

-- a path formula
until_begun : BeginsExactly UntilParts BeginsUntil
until_begun = both_begun timed_has (state_begun k.U) timed_begun

path_begun : BeginsExactly IsPathUntil BeginsPath
path_begun = made_begun path_made
    (one_of_begun (after_begun k.X (state_has k.CloseBracket) (state_begun k.CloseBracket))
    (one_of_begun (after_begun k.F timed_has timed_begun) (one_of_begun (after_begun k.G timed_has timed_begun) until_begun)))

-- a property
bound_begun : BeginsExactly IsBoundUntil BeginsBound
bound_begun = ended_begun rule.Sum k.OpenBracket

pub property_begun : BeginsExactly IsProperty BeginsProperty
property_begun = made_begun property_made
    (after_begun k.P (both_has cmp_has (both_has (bound_has k.OpenBracket) path_has))
    (both_begun (both_has (bound_has k.OpenBracket) path_has) (one_begun cmp_of cmp_has) (both_begun path_has bound_begun path_begun)))
