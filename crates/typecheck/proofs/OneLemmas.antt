-- A flat model has one chain at most and one refusal at most, and a property one path formula.
use Rattle.std.proofs.Common.{◌≡◌, ℕ, List, Option, sym, ap, ◌∙◌}
use Rattle.std.specs.Prelude.{pos}
use Rattle.chain_model.specs.declared.expressions.Typed.{Typed}
use Rattle.chain_model.specs.declared.job.Path.{Path}
use Rattle.chain_model.specs.declared.job.PathKind.{PathKind}
use Rattle.chain_model.specs.declared.job.PathKind.TheVariants as kind
use Rattle.chain_model.specs.declared.job.Claim.{Claim}
use Rattle.chain_model.specs.Values.{Valued}
use Rattle.prism_syntax.specs.declared.expressions.Expr.{Expr}
use Rattle.prism_syntax.specs.declared.properties.Time.{Time}
use Rattle.prism_syntax.specs.declared.properties.PathText.{PathText}
use Rattle.prism_syntax.specs.declared.properties.PathText.TheVariants as text
use Rattle.prism_syntax.specs.declared.properties.Property.{Property}
use Rattle.prism_syntax.specs.declared.models.FlatText.{FlatText}
use Rattle.prism_names.specs.First.{Name, first_some}
use Rattle.const_eval.specs.declared.consts.Constant.{Constant}
use Rattle.typed_trees.specs.Leaves.{shown}
use Rattle.typed_trees.specs.Numbers.{constant_value}
use Rattle.typecheck.specs.declared.fault.TypeFault.{TypeFault}
use Rattle.typecheck.specs.declared.fault.TypeFault.TheVariants as fault
use Rattle.typecheck.specs.declared.fault.Item.TheVariants as item
use Rattle.typecheck.specs.Numbers.{number_fault}
use Rattle.typecheck.specs.Refusals.{Tells}
use Rattle.typecheck.specs.Ranges.{first_variable_fault, first_empty, first_outside_range}
use Rattle.typecheck.specs.Writes.{foreign_write, global_write, double_write}
use Rattle.typecheck.specs.Paths.{HasHorizon, HasKind, IsTypedAs}
use Rattle.typecheck.specs.ModelRefusals.{IsTooLarge, IsRefused}
use Rattle.typecheck.proofs.MakingLemmas.{same-Some}
use Rattle.typecheck.proofs.RefusalLemmas.{tells-one}
use Rattle.typecheck.proofs.ModelLemmas as model

-- a flat model is refused with one fault at most
pub model-refused-once : (flat : FlatText) (consts : List (Name × Constant)) (f g : TypeFault) → IsRefused flat consts f → IsRefused flat consts g → f ≡ g
model-refused-once flat consts f g =
    let AtDouble : TypeFault → Type 0 = Tells (first_some double_write (model.commands flat consts)) (λ name h. h ≡ fault.WrittenTwice name) (IsTooLarge flat) in
    let AtGlobal : TypeFault → Type 0 = Tells (first_some (global_write (model.owners flat consts)) (model.commands flat consts)) (λ name h. h ≡ fault.GlobalInSync name) AtDouble in
    let AtForeign : TypeFault → Type 0 = model.AtWrites flat consts in
    let AtStart : TypeFault → Type 0 = Tells (first_outside_range (constant_value consts) (model.vars flat consts)) (λ name h. h ≡ fault.InitOutside name) AtForeign in
    let AtRange : TypeFault → Type 0 = Tells (first_empty (constant_value consts) (model.vars flat consts)) (λ name h. h ≡ fault.BadRange name) AtStart in
    let AtNumber : TypeFault → Type 0 = model.AtNumbers flat consts in
    let AtItem : TypeFault → Type 0 = Tells (model.unfit flat consts) (λ i h. h ≡ fault.WrongType i) AtNumber in
    tells-one (model.unknown flat consts) (λ name. fault.UnknownName name) AtItem f g
    (tells-one (model.unfit flat consts) (λ i. fault.WrongType i) AtNumber f g
    (tells-one (first_variable_fault (constant_value consts) (model.vars flat consts)) (λ found. fault.BadNumber (item.Variable (shown found.0)) (number_fault found.1)) AtRange f g
    (tells-one (first_empty (constant_value consts) (model.vars flat consts)) (λ name. fault.BadRange name) AtStart f g
    (tells-one (first_outside_range (constant_value consts) (model.vars flat consts)) (λ name. fault.InitOutside name) AtForeign f g
    (tells-one (first_some (foreign_write (model.owners flat consts)) (model.numbered flat consts)) (λ name. fault.ForeignWrite name) AtGlobal f g
    (tells-one (first_some (global_write (model.owners flat consts)) (model.commands flat consts)) (λ name. fault.GlobalInSync name) AtDouble f g
    (tells-one (first_some double_write (model.commands flat consts)) (λ name. fault.WrittenTwice name) (IsTooLarge flat) f g (λ told too. told.0 ∙ sym too.0))))))))

-- a time allows one last state
one-horizon : (values : Expr → Valued) (time : Time) (a b : ℕ) → HasHorizon values time a → HasHorizon values time b → a ≡ b
one-horizon values time a b one two = let same : pos a ≡ pos b = sym one.0 ∙ two.0 in cc

one-kind : (values : Expr → Valued) (path : PathText) (j k : PathKind) → HasKind values path j → HasKind values path k → j ≡ k
one-kind values (text.Next x) j k one two = one ∙ sym two
one-kind values (text.Finally time x) j k one two = one.2 ∙ (ap (λ n. kind.Finally n) (one-horizon values time one.0 two.0 one.1 two.1) ∙ sym two.2)
one-kind values (text.Globally time x) j k one two = one.2 ∙ (ap (λ n. kind.Globally n) (one-horizon values time one.0 two.0 one.1 two.1) ∙ sym two.2)
one-kind values (text.Until x time y) j k one two = one.2 ∙ (ap (λ n. kind.Until n) (one-horizon values time one.0 two.0 one.1 two.1) ∙ sym two.2)

-- a property has one path formula and one claim at most
pub typed-once : (names labels : Name → Option Typed) (values : Expr → Valued) (property : Property) (path other : Path) (claim more : Claim)
    → IsTypedAs names labels values property path claim → IsTypedAs names labels values property other more → (path ≡ other) × (claim ≡ more)
typed-once names labels values property path other claim more one two =
    let both : (path.first, path.second) ≡ (other.first, other.second) = same-Some (path.first, path.second) (other.first, other.second) (sym one.formulas ∙ two.formulas) in
    let kinds : path.kind ≡ other.kind = one-kind values property.path path.kind other.kind one.kind two.kind in (
      λ i. record { kind = kinds i; first = (both i).0; second = (both i).1 },
      λ i. record { theta = (one.theta ∙ sym two.theta) i; at_most = (one.side ∙ sym two.side) i },
    )
