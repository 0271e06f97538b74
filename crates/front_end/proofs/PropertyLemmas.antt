-- A property without formulas, from what is told of it piece by piece.
use Rattle.std.proofs.Common.{◌≡◌, ℕ, List}
use Rattle.std.specs.Prelude.{Result, Ok, Err, IfOk, OnOk}
use Rattle.prism_syntax.specs.declared.properties.Property.{Property}
use Rattle.chain_model.specs.declared.job.Path.{Path}
use Rattle.chain_model.specs.declared.job.Claim.{Claim}
use Rattle.typecheck.specs.Paths.{IsPathOf}
use Rattle.typecheck.specs.PathRefusals.{IsRefusedProperty}
use Rattle.front_end.specs.Stops.{IsAccepted}
use Rattle.module_expand.specs.Listed.{AreTooLarge}
use Rattle.module_expand.specs.Properties.{property_exprs}
use Rattle.front_end.specs.declared.models.Model.{Model}
use Rattle.front_end.specs.declared.stop.Stop.{Stop}
use Rattle.front_end.specs.Properties.{HasTree, HasFlat, IsQuestion, flat_in}

pub has_flat : (text : List ℕ) (model : Model) (tree : Property) (answer : Result Property Stop) → HasTree text tree
    → IfOk answer (λ flat. flat ≡ flat_in model tree) → IfOk answer (λ flat. ¬ AreTooLarge (property_exprs flat)) → IfOk answer (HasFlat text model)
has_flat text model tree (Ok flat) read is within = record { tree = tree; read = read; written_out = is; within = within }
has_flat text model tree (Err stop) read is within = tt

-- a path formula and a claim, from what is told of them piece by piece
pub is_question : (text : List ℕ) (model : Model) (flat : Property) (answer : Result (Path × Claim) Stop) → HasFlat text model flat
    → IfOk answer (λ question. IsPathOf model.consts model.chain flat question.0 question.1)
    → OnOk answer (IsAccepted (IsRefusedProperty model.consts model.chain flat)) → IfOk answer (IsQuestion text model)
is_question text model flat (Ok question) read path accepted = record { flat = flat; read = read; path = path; accepted = accepted }
is_question text model flat (Err stop) read path accepted = tt
