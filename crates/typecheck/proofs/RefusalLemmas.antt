-- Refusals in order, as passes find them.
use Rattle.std.proofs.Common.{◌≡◌, ℕ, Option, true, sym, ap, ◌∙◌, subst}
use Rattle.std.specs.Prelude.{None, Some, ◌⊎◌, MatchOption}
use mathlib.Core.Logic.{inl, inr}
use Rattle.std.specs.Option.{option_or, option_and_then}
use Rattle.chain_model.specs.declared.job.PathKind.{PathKind}
use Rattle.chain_model.specs.declared.expressions.Typed.{Typed}
use Rattle.chain_model.specs.declared.outcome.TraceFault.{TraceFault}
use Rattle.chain_model.specs.Values.{Valued}
use Rattle.prism_syntax.specs.declared.expressions.Expr.{Expr}
use Rattle.prism_syntax.specs.declared.properties.Time.{Time}
use Rattle.prism_syntax.specs.declared.properties.PathText.{PathText}
use Rattle.prism_syntax.specs.declared.properties.PathText.TheVariants as text
use Rattle.prism_syntax.specs.declared.properties.Property.{Property}
use Rattle.prism_names.specs.First.{Name}
use Rattle.typecheck.specs.declared.fault.TypeFault.{TypeFault}
use Rattle.typecheck.specs.declared.fault.TypeFault.TheVariants as fault
use Rattle.typecheck.specs.declared.fault.Item.TheVariants as item
use Rattle.typecheck.specs.Refusals.{Tells, IsTold, failing, IsOutOfMemory}
use Rattle.typecheck.specs.Formulas.{time_of, last_of}
use Rattle.typecheck.specs.Numbers.{fault_of, number_fault}
use Rattle.typecheck.specs.Paths.{HasHorizon, HasKind}
use Rattle.typecheck.specs.PathRefusals.{unknown_in_property, unknown_label_in_path, property_fits, first_fault, time_fault, HasNoHorizon, IsRefusedAs}

-- what is told is told before all that is later
pub told-first : {X : Type 0} (wrong : Option X) (Is : X → TypeFault → Type 0) (later : TypeFault → Type 0) (f : TypeFault) → IsTold wrong Is f → Tells wrong Is later f
told-first None Is later f told = absurd told
told-first (Some x) Is later f told = told

-- where nothing is wrong the later is told, and nothing else
pub tells-later : {X : Type 0} (wrong : Option X) (Is : X → TypeFault → Type 0) (later : TypeFault → Type 0) (f : TypeFault) → wrong ≡ None → later f → Tells wrong Is later f
tells-later {X} wrong Is later f none told = subst (λ (o : Option X). MatchOption o (later f) (λ x. Is x f)) (sym none) told

pub tells-none : {X : Type 0} (wrong : Option X) (Is : X → TypeFault → Type 0) (later : TypeFault → Type 0) (f : TypeFault) → wrong ≡ None → Tells wrong Is later f → later f
tells-none {X} wrong Is later f none told = subst (λ (o : Option X). MatchOption o (later f) (λ x. Is x f)) none told

-- of two the first is told, or else the second
told-of-first : {X : Type 0} (one two : Option X) (Is : X → TypeFault → Type 0) (later : TypeFault → Type 0) (f : TypeFault) → IsTold one Is f → Tells (option_or one two) Is later f
told-of-first None two Is later f told = absurd told
told-of-first (Some x) two Is later f told = told

told-of-second : {X : Type 0} (one two : Option X) (Is : X → TypeFault → Type 0) (later : TypeFault → Type 0) (f : TypeFault) → one ≡ None → Tells two Is later f
    → Tells (option_or one two) Is later f
told-of-second {X} one two Is later f none told =
    subst (λ (o : Option X). MatchOption (option_or o two) (later f) (λ x. Is x f)) (sym none) told

-- a path of some kind has a horizon where it has a time
has-horizon : (values : Expr → Valued) (path : PathText) (k : PathKind) → HasKind values path k → HasNoHorizon values path → ⊥
has-horizon values (text.Next x) k is none = absurd (let no : None ≡ Some none.0 = none.1 in let never : ⊥ = cc in never)
has-horizon values (text.Finally time x) k is none = none.2 is.0 (subst (λ (t : Time). HasHorizon values t is.0) (same time none.0 none.1) is.1)
  where
    same : (t u : Time) → Some t ≡ Some u → t ≡ u
    same t u e = cc
has-horizon values (text.Globally time x) k is none = none.2 is.0 (subst (λ (t : Time). HasHorizon values t is.0) (same time none.0 none.1) is.1)
  where
    same : (t u : Time) → Some t ≡ Some u → t ≡ u
    same t u e = cc
has-horizon values (text.Until x time y) k is none = none.2 is.0 (subst (λ (t : Time). HasHorizon values t is.0) (same time none.0 none.1) is.1)
  where
    same : (t u : Time) → Some t ≡ Some u → t ≡ u
    same t u e = cc

-- a number of a property faults and the fault tells it, or none does and its time allows no state
abbrev pub TellsNumber : (Expr → Valued) → Property → TypeFault → Type 0
TellsNumber values property = Tells (first_fault values property) (λ found g. g ≡ fault.BadNumber item.Property (number_fault found))
    (λ g. (g ≡ fault.BadHorizon) × HasNoHorizon values property.path)

pub bound-told : (values : Expr → Valued) (property : Property) (f : TypeFault)
    → IsOutOfMemory f ⊎ IsTold (fault_of (values property.bound)) (λ found g. g ≡ fault.BadNumber item.Property (number_fault found)) f
    → IsOutOfMemory f ⊎ TellsNumber values property f
bound-told values property f (inl out) = inl out
bound-told values property f (inr told) =
    inr (told-of-first (fault_of (values property.bound)) (time_fault values property.path) (λ found g. g ≡ fault.BadNumber item.Property (number_fault found))
    (λ g. (g ≡ fault.BadHorizon) × HasNoHorizon values property.path) f told)

pub time-told : (values : Expr → Valued) (property : Property) (f : TypeFault) → fault_of (values property.bound) ≡ None
    → IsOutOfMemory f ⊎ Tells (time_fault values property.path) (λ found g. g ≡ fault.BadNumber item.Property (number_fault found))
    (λ g. (g ≡ fault.BadHorizon) × HasNoHorizon values property.path) f
    → IsOutOfMemory f ⊎ TellsNumber values property f
time-told values property f none (inl out) = inl out
time-told values property f none (inr told) =
    inr (told-of-second (fault_of (values property.bound)) (time_fault values property.path) (λ found g. g ≡ fault.BadNumber item.Property (number_fault found))
    (λ g. (g ≡ fault.BadHorizon) × HasNoHorizon values property.path) f none told)

module _ (constant_tree tree : Expr → Option Typed) (constants names labels : Name → Option Typed) (values : Expr → Valued) (property : Property) (f : TypeFault) where
  abbrev Refused : Type 0
  Refused = IsOutOfMemory f ⊎ IsRefusedAs constant_tree tree constants names labels values property f

  abbrev unknown : Option Name
  unknown = unknown_in_property constants names property

  abbrev unlabelled : Option Name
  unlabelled = unknown_label_in_path labels property.path

  abbrev unfit : Option (Unit {0})
  unfit = failing (property_fits constant_tree tree property)

  abbrev HasName : Name → TypeFault → Type 0
  HasName name g = g ≡ fault.UnknownName name

  abbrev HasLabel : Name → TypeFault → Type 0
  HasLabel name g = g ≡ fault.UnknownLabel name

  abbrev HasType : Unit {0} → TypeFault → Type 0
  HasType _ g = g ≡ fault.WrongType item.Property

  abbrev HasNumber : TraceFault → TypeFault → Type 0
  HasNumber found g = g ≡ fault.BadNumber item.Property (number_fault found)

  abbrev AtHorizon : TypeFault → Type 0
  AtHorizon g = (g ≡ fault.BadHorizon) × HasNoHorizon values property.path

  abbrev AtNumber : TypeFault → Type 0
  AtNumber = Tells (first_fault values property) HasNumber AtHorizon

  abbrev AtType : TypeFault → Type 0
  AtType = Tells unfit HasType AtNumber

  abbrev AtLabel : TypeFault → Type 0
  AtLabel = Tells unlabelled HasLabel AtType

  pub at-names : IsOutOfMemory f ⊎ IsTold unknown HasName f → Refused
  at-names (inl out) = inl out
  at-names (inr told) = inr (told-first unknown HasName AtLabel f told)

  pub at-labels : unknown ≡ None → IsOutOfMemory f ⊎ IsTold unlabelled HasLabel f → Refused
  at-labels one (inl out) = inl out
  at-labels one (inr told) = inr (tells-later unknown HasName AtLabel f one (told-first unlabelled HasLabel AtType f told))

  pub at-types : unknown ≡ None → unlabelled ≡ None → IsOutOfMemory f ⊎ IsTold unfit HasType f → Refused
  at-types one two (inl out) = inl out
  at-types one two (inr told) =
      inr (tells-later unknown HasName AtLabel f one (tells-later unlabelled HasLabel AtType f two (told-first unfit HasType AtNumber f told)))

  from-numbers : unknown ≡ None → unlabelled ≡ None → property_fits constant_tree tree property ≡ true → AtNumber f → IsRefusedAs constant_tree tree constants names labels values property f
  from-numbers one two three told =
      tells-later unknown HasName AtLabel f one (tells-later unlabelled HasLabel AtType f two (tells-later unfit HasType AtNumber f (ap failing three) told))

  pub at-numbers : unknown ≡ None → unlabelled ≡ None → property_fits constant_tree tree property ≡ true
      → IsOutOfMemory f ⊎ TellsNumber values property f → Refused
  at-numbers one two three (inl out) = inl out
  at-numbers one two three (inr told) = inr (from-numbers one two three told)

  -- where each pass finds nothing there is no refusal
  pub not-refused : unknown ≡ None → unlabelled ≡ None → property_fits constant_tree tree property ≡ true → fault_of (values property.bound) ≡ None
      → time_fault values property.path ≡ None → (k : PathKind) → HasKind values property.path k → IsRefusedAs constant_tree tree constants names labels values property f → ⊥
  not-refused one two three four five k is told =
      has-horizon values property.path k is
      (tells-none (first_fault values property) HasNumber AtHorizon f (ap (λ o. option_or o (time_fault values property.path)) four ∙ five)
      (tells-none unfit HasType AtNumber f (ap failing three)
      (tells-none unlabelled HasLabel AtType f two (tells-none unknown HasName AtLabel f one told)))).1

-- what a time tells is what its path tells
pub told-at : (values : Expr → Valued) (path : PathText) (time : Time) (f : TypeFault) → time_of path ≡ Some time
    → IsOutOfMemory f ⊎ Tells (fault_of (values (last_of time))) (λ found g. g ≡ fault.BadNumber item.Property (number_fault found))
    (λ g. (g ≡ fault.BadHorizon) × ((last : ℕ) → ¬ HasHorizon values time last)) f
    → IsOutOfMemory f ⊎ Tells (time_fault values path) (λ found g. g ≡ fault.BadNumber item.Property (number_fault found))
    (λ g. (g ≡ fault.BadHorizon) × HasNoHorizon values path) f
told-at values path time f at (inl out) = inl out
told-at values path time f at (inr told) =
    inr (subst (λ (o : Option Time). MatchOption (option_and_then (λ t. fault_of (values (last_of t))) o)
    ((f ≡ fault.BadHorizon) × HasNoHorizon values path) (λ found. f ≡ fault.BadNumber item.Property (number_fault found))) (sym at)
    (lift (fault_of (values (last_of time))) told))
  where
    lift : (o : Option TraceFault)
        → MatchOption o ((f ≡ fault.BadHorizon) × ((last : ℕ) → ¬ HasHorizon values time last)) (λ found. f ≡ fault.BadNumber item.Property (number_fault found))
        → MatchOption o ((f ≡ fault.BadHorizon) × HasNoHorizon values path) (λ found. f ≡ fault.BadNumber item.Property (number_fault found))
    lift None one = (one.0, (time, at, one.1))
    lift (Some found) one = one

-- two faults that are told of the same are one, where that holds of each thing that may be wrong and of what is later
pub tells-one : {X : Type 0} (wrong : Option X) (variant : X → TypeFault) (later : TypeFault → Type 0) (f g : TypeFault) → (later f → later g → f ≡ g)
    → Tells wrong (λ x h. h ≡ variant x) later f → Tells wrong (λ x h. h ≡ variant x) later g → f ≡ g
tells-one None variant later f g one told too = one told too
tells-one (Some x) variant later f g one told too = told ∙ sym too

-- a property is refused with one fault at most
pub refused-once : (constant_tree tree : Expr → Option Typed) (constants names labels : Name → Option Typed) (values : Expr → Valued) (property : Property) (f g : TypeFault)
    → IsRefusedAs constant_tree tree constants names labels values property f → IsRefusedAs constant_tree tree constants names labels values property g → f ≡ g
refused-once constant_tree tree constants names labels values property f g =
    let AtLast : TypeFault → Type 0 = λ h. (h ≡ fault.BadHorizon) × HasNoHorizon values property.path in
    let AtNumbers : TypeFault → Type 0 = Tells (first_fault values property) (λ found h. h ≡ fault.BadNumber item.Property (number_fault found)) AtLast in
    let AtTypes : TypeFault → Type 0 = Tells (failing (property_fits constant_tree tree property)) (λ _ h. h ≡ fault.WrongType item.Property) AtNumbers in
    let AtLabels : TypeFault → Type 0 = Tells (unknown_label_in_path labels property.path) (λ name h. h ≡ fault.UnknownLabel name) AtTypes in
    tells-one (unknown_in_property constants names property) (λ name. fault.UnknownName name) AtLabels f g
    (tells-one (unknown_label_in_path labels property.path) (λ name. fault.UnknownLabel name) AtTypes f g
    (tells-one (failing (property_fits constant_tree tree property)) (λ _. fault.WrongType item.Property) AtNumbers f g
    (tells-one (first_fault values property) (λ found. fault.BadNumber item.Property (number_fault found)) AtLast f g (λ told too. told.0 ∙ sym too.0))))
