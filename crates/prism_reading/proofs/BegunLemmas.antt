-- Tokens begin a rule that is made of others exactly where they are a prefix of one of its texts.
use Rattle.std.proofs.Common.{◌≡◌, ◌⊎◌, inl, inr, ℕ, List, [], ◌∷◌, ◌++◌, refl, sym, ◌∙◌, ap, subst, append_assoc, append-nil}
use Rattle.prism_syntax.specs.declared.tokens.Kind.{Kind}
use Rattle.prism_syntax.specs.declared.tokens.Kind.TheVariants as k
use Rattle.prism_syntax.specs.Models.{Each, Separated}
use Rattle.prism_syntax.specs.Models as model
use Rattle.prism_reading.specs.Reach.{IsPrefix}
use Rattle.prism_reading.specs.Sequences.{IsTerminal, terminal, IsName, name, IsQuoted, quoted, Both, OneOf}
use Rattle.prism_reading.specs.Begins.{BeginsTerminal, BeginsName, BeginsQuoted, BeginsBoth, BeginsAfter, BeginsOneOf, BeginsEach, BeginsSeparated}
use Rattle.prism_reading.specs.Begins as begin
use Rattle.prism_reading.proofs.OverlapLemmas.{within, beyond, overlap}
use Rattle.prism_reading.proofs.DefiniteLemmas.{HasText, text_begins, nothing_begins, terminal_has, name_has, quoted_has}
use Rattle.prism_reading.proofs.BothLemmas.{Ends, in_first, in_second, ends, inside_both, after_first}
use Rattle.prism_reading.proofs.MadeLemmas.{IsMade, parts_begin, begins_parts}
use Rattle.prism_reading.proofs.OneOfLemmas.{either, first_begins, second_begins}
use Rattle.prism_reading.proofs.EachLemmas.{each_has}

-- tokens begin the rule exactly where they are a prefix of one of its texts
pub record BeginsExactly {X : Type 0} (Rule : List Kind → X → Type 0) (Begins : List Kind → Type 0) : Type 0 where
  pub to : (p : List Kind) → IsPrefix Rule p → Begins p
  pub back : (p : List Kind) → Begins p → IsPrefix Rule p

-- one token
one_prefix : (t : Kind) (p more : List Kind) → t ∷ [] ≡ p ++ more → (p ≡ []) ⊎ (p ≡ t ∷ [])
one_prefix t [] more equal = inl refl
one_prefix t (u ∷ []) more equal = inr (cc)
one_prefix t (u ∷ (v ∷ p)) more equal = absurd (cc)

terminal_to : (kind : Kind) (p more l : List Kind) (x : Unit {0}) → IsTerminal kind l x → l ≡ p ++ more → BeginsTerminal kind p
terminal_to kind p more _ _ terminal equal =
    elim (one_prefix kind p more equal) [
      | inl is ↦ rw is begin.BeginsTerminal.nothing
      | inr is ↦ rw is begin.BeginsTerminal.whole
    ]

terminal_back : (kind : Kind) (p : List Kind) → BeginsTerminal kind p → IsPrefix (IsTerminal kind) p
terminal_back kind _ begin.BeginsTerminal.nothing = nothing_begins (terminal_has kind)
terminal_back kind _ begin.BeginsTerminal.whole = text_begins tt terminal

pub terminal_begun : (kind : Kind) → BeginsExactly (IsTerminal kind) (BeginsTerminal kind)
terminal_begun kind = record {
  to = λ p begins. terminal_to kind p begins.more (p ++ begins.more) begins.tree begins.text refl;
  back = λ p begins. terminal_back kind p begins;
}

-- a name
name_to : (p more l : List Kind) (x : List ℕ) → IsName l x → l ≡ p ++ more → BeginsName p
name_to p more _ x name equal =
    elim (one_prefix (k.Name x) p more equal) [
      | inl is ↦ rw is begin.BeginsName.nothing
      | inr is ↦ rw is begin.BeginsName.whole
    ]

name_back : (p : List Kind) → BeginsName p → IsPrefix IsName p
name_back _ begin.BeginsName.nothing = nothing_begins name_has
name_back _ (begin.BeginsName.whole {text}) = text_begins text name

pub name_begun : BeginsExactly IsName BeginsName
name_begun = record {
  to = λ p begins. name_to p begins.more (p ++ begins.more) begins.tree begins.text refl;
  back = λ p begins. name_back p begins;
}

-- the name of a label
quoted_to : (p more l : List Kind) (x : List ℕ) → IsQuoted l x → l ≡ p ++ more → BeginsQuoted p
quoted_to p more _ x quoted equal =
    elim (one_prefix (k.Quoted x) p more equal) [
      | inl is ↦ rw is begin.BeginsQuoted.nothing
      | inr is ↦ rw is begin.BeginsQuoted.whole
    ]

quoted_back : (p : List Kind) → BeginsQuoted p → IsPrefix IsQuoted p
quoted_back _ begin.BeginsQuoted.nothing = nothing_begins quoted_has
quoted_back _ (begin.BeginsQuoted.whole {text}) = text_begins text quoted

pub quoted_begun : BeginsExactly IsQuoted BeginsQuoted
quoted_begun = record {
  to = λ p begins. quoted_to p begins.more (p ++ begins.more) begins.tree begins.text refl;
  back = λ p begins. quoted_back p begins;
}

-- one rule after another
both_to : {X Y : Type 0} {A : List Kind → X → Type 0} {B : List Kind → Y → Type 0} {BeginsA BeginsB : List Kind → Type 0} (p : List Kind)
    → BeginsExactly A BeginsA → BeginsExactly B BeginsB → Ends A B p → BeginsBoth A BeginsA BeginsB p
both_to p one two (in_first begins) = begin.BeginsBoth.inside (one.to p begins)
both_to {A} {BeginsA} {BeginsB} p one two (in_second a x t m is first begins) =
    subst (λ l. BeginsBoth A BeginsA BeginsB l) (sym is) (begin.BeginsBoth.after first (two.to (t ∷ m) begins))

both_back : {X Y : Type 0} {A : List Kind → X → Type 0} {B : List Kind → Y → Type 0} {BeginsA BeginsB : List Kind → Type 0} (p : List Kind)
    → HasText B → BeginsExactly A BeginsA → BeginsExactly B BeginsB → BeginsBoth A BeginsA BeginsB p → IsPrefix (Both A B) p
both_back _ has one two (begin.BeginsBoth.inside {a} begins) = inside_both has (one.back a begins)
both_back _ has one two (begin.BeginsBoth.after {a} {b} {x} first begins) = after_first a x first (two.back b begins)

pub both_begun : {X Y : Type 0} {A : List Kind → X → Type 0} {B : List Kind → Y → Type 0} {BeginsA BeginsB : List Kind → Type 0}
    → HasText B → BeginsExactly A BeginsA → BeginsExactly B BeginsB → BeginsExactly (Both A B) (BeginsBoth A BeginsA BeginsB)
both_begun has one two = record {
  to = λ p begins. both_to p one two (ends p begins);
  back = λ p begins. both_back p has one two begins;
}

-- one rule or another
one_of_to : {X Y : Type 0} {A : List Kind → X → Type 0} {B : List Kind → Y → Type 0} {BeginsA BeginsB : List Kind → Type 0} (p : List Kind)
    → BeginsExactly A BeginsA → BeginsExactly B BeginsB → IsPrefix A p ⊎ IsPrefix B p → BeginsA p ⊎ BeginsB p
one_of_to p one two (inl begins) = inl (one.to p begins)
one_of_to p one two (inr begins) = inr (two.to p begins)

one_of_back : {X Y : Type 0} {A : List Kind → X → Type 0} {B : List Kind → Y → Type 0} {BeginsA BeginsB : List Kind → Type 0} (p : List Kind)
    → BeginsExactly A BeginsA → BeginsExactly B BeginsB → BeginsA p ⊎ BeginsB p → IsPrefix (OneOf A B) p
one_of_back p one two (inl begins) = first_begins (one.back p begins)
one_of_back p one two (inr begins) = second_begins (two.back p begins)

pub one_of_begun : {X Y : Type 0} {A : List Kind → X → Type 0} {B : List Kind → Y → Type 0} {BeginsA BeginsB : List Kind → Type 0}
    → BeginsExactly A BeginsA → BeginsExactly B BeginsB → BeginsExactly (OneOf A B) (BeginsOneOf BeginsA BeginsB)
one_of_begun one two = record {
  to = λ p begins. one_of_to p one two (either p begins);
  back = λ p begins. one_of_back p one two begins;
}

-- a rule whose texts are those of its parts
pub made_begun : {P Z : Type 0} {Parts : List Kind → P → Type 0} {make : P → Z} {Rule : List Kind → Z → Type 0} {Begins : List Kind → Type 0}
    → IsMade Parts make Rule → BeginsExactly Parts Begins → BeginsExactly Rule Begins
made_begun made begun = record {
  to = λ p begins. begun.to p (begins_parts made begins);
  back = λ p begins. parts_begin made (begun.back p begins);
}

-- texts one after another
each_to : {X : Type 0} {Rule : List Kind → X → Type 0} {Begins : List Kind → Type 0} (p more l : List Kind) (xs : List X)
    → BeginsExactly Rule Begins → Each Rule l xs → l ≡ p ++ more → BeginsEach Rule Begins p
each_to [] more _ _ one model.Each.end equal = begin.BeginsEach.nothing
each_to (t ∷ p) more _ _ one model.Each.end equal = absurd (cc)
each_to {Rule} {Begins} p more _ _ one (model.Each.more {a} {b} {x} {xs} first others) equal =
    elim (overlap p more a b (sym equal)) [
      | within m is rest ↦ subst (λ l. BeginsEach Rule Begins l) (sym is) (begin.BeginsEach.after first (each_to m more b xs one others rest))
      | beyond t m is rest ↦ begin.BeginsEach.inside (one.to p (record { more = t ∷ m; tree = x; text = subst (λ l. Rule l x) is first }))
    ]

each_back : {X : Type 0} {Rule : List Kind → X → Type 0} {Begins : List Kind → Type 0} (p : List Kind)
    → BeginsExactly Rule Begins → BeginsEach Rule Begins p → IsPrefix (Each Rule) p
each_back _ one begin.BeginsEach.nothing = nothing_begins each_has
each_back {Rule} _ one (begin.BeginsEach.inside {a} begins) =
    let prefix = one.back a begins in
    let whole : Each Rule ((a ++ prefix.more) ++ []) (prefix.tree ∷ []) = model.Each.more prefix.text model.Each.end in
    record { more = prefix.more; tree = prefix.tree ∷ []; text = rw append-nil at whole }
each_back {Rule} _ one (begin.BeginsEach.after {a} {b} {x} first begins) =
    let rest = each_back b one begins in
    record { more = rest.more; tree = x ∷ rest.tree; text = subst (λ l. Each Rule l (x ∷ rest.tree)) (sym (append_assoc a b rest.more)) (model.Each.more first rest.text) }

pub each_begun : {X : Type 0} {Rule : List Kind → X → Type 0} {Begins : List Kind → Type 0} → BeginsExactly Rule Begins → BeginsExactly (Each Rule) (BeginsEach Rule Begins)
each_begun one = record {
  to = λ p begins. each_to p begins.more (p ++ begins.more) begins.tree one begins.text refl;
  back = λ p begins. each_back p one begins;
}

-- texts with a token between each two of them
separated_to : {X : Type 0} {Rule : List Kind → X → Type 0} {Begins : List Kind → Type 0} (between : Kind) (p more l : List Kind) (xs : List X)
    → BeginsExactly Rule Begins → Separated between Rule l xs → l ≡ p ++ more → BeginsSeparated between Rule Begins p
separated_to {Rule} between p more _ _ one (model.Separated.one {a} {x} first) equal =
    begin.BeginsSeparated.inside (one.to p (record { more = more; tree = x; text = subst (λ l. Rule l x) equal first }))
separated_to {Rule} {Begins} between p more _ _ one (model.Separated.more {a} {b} {x} {xs} first others) equal =
    elim (overlap p more a (between ∷ b) (sym equal)) [
      | within [] is rest ↦ begin.BeginsSeparated.inside (one.to p (subst (λ l. IsPrefix Rule l) (sym (is ∙ append-nil a)) (text_begins x first)))
      | within (t ∷ m) is rest ↦
          let same : t ≡ between = cc in
          let cut : b ≡ m ++ more = cc in
          let whole : p ≡ a ++ (between ∷ m) = is ∙ ap (λ u. a ++ (u ∷ m)) same in
          subst (λ l. BeginsSeparated between Rule Begins l) (sym whole) (begin.BeginsSeparated.after first (separated_to between m more b xs one others cut))
      | beyond t m is rest ↦ begin.BeginsSeparated.inside (one.to p (record { more = t ∷ m; tree = x; text = subst (λ l. Rule l x) is first }))
    ]

separated_back : {X : Type 0} {Rule : List Kind → X → Type 0} {Begins : List Kind → Type 0} (between : Kind) (p : List Kind)
    → BeginsExactly Rule Begins → BeginsSeparated between Rule Begins p → IsPrefix (Separated between Rule) p
separated_back between _ one (begin.BeginsSeparated.inside {a} begins) =
    let prefix = one.back a begins in
    record { more = prefix.more; tree = prefix.tree ∷ []; text = model.Separated.one prefix.text }
separated_back {Rule} between _ one (begin.BeginsSeparated.after {a} {b} {x} first begins) =
    let rest = separated_back between b one begins in
    record {
      more = rest.more;
      tree = x ∷ rest.tree;
      text = subst (λ l. Separated between Rule l (x ∷ rest.tree)) (sym (append_assoc a (between ∷ b) rest.more)) (model.Separated.more first rest.text);
    }

pub separated_begun : {X : Type 0} {Rule : List Kind → X → Type 0} {Begins : List Kind → Type 0} (between : Kind)
    → BeginsExactly Rule Begins → BeginsExactly (Separated between Rule) (BeginsSeparated between Rule Begins)
separated_begun between one = record {
  to = λ p begins. separated_to between p begins.more (p ++ begins.more) begins.tree one begins.text refl;
  back = λ p begins. separated_back between p one begins;
}

-- a token, and then the rest
pub after_begun : {Y : Type 0} {B : List Kind → Y → Type 0} {Starts : List Kind → Type 0} (t : Kind) → HasText B → BeginsExactly B Starts
    → BeginsExactly (Both (IsTerminal t) B) (BeginsAfter t Starts)
after_begun t has rest = both_begun has (terminal_begun t) rest
