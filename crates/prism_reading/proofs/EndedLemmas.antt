-- A text of a rule with the one token that ends it.
use Rattle.std.proofs.Common.{List, refl}
use Rattle.prism_syntax.specs.declared.tokens.Kind.{Kind}
use Rattle.prism_reading.specs.Sequences.{Both, both, IsTerminal, terminal, Ended, ended}
use Rattle.prism_reading.proofs.MadeLemmas.{Parted, IsMade}

-- the tree of the text, without that of the token
abbrev pub before_end : {X : Type 0} → X × Unit {0} → X
before_end p = p.0

with_end : {X : Type 0} {Rule : List Kind → X → Type 0} (end : Kind) (a : List Kind) (p : X × Unit {0}) → Both Rule (IsTerminal end) a p → Ended Rule end a p.0
with_end end _ _ (both text terminal) = ended text

cut_end : {X : Type 0} {Rule : List Kind → X → Type 0} (end : Kind) (a : List Kind) (x : X) → Ended Rule end a x → Parted (Both Rule (IsTerminal end)) before_end a x
cut_end end _ x (ended text) = record { parts = (x, tt); text = both text terminal; is = refl }

-- an ended text is a text, and then the token
pub ended_made : {X : Type 0} (Rule : List Kind → X → Type 0) (end : Kind) → IsMade (Both Rule (IsTerminal end)) before_end (Ended Rule end)
ended_made Rule end = record { to = λ a p text. with_end end a p text; back = λ a x text. cut_end end a x text }
