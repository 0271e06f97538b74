-- The fault of parsing a property.
use Rattle.std.proofs.Common.{refl}
use Rattle.std.specs.Prelude.{Err}
use Rattle.prism_syntax.specs.Tokens.{kinds}
use Rattle.prism_syntax.specs.Properties.{IsProperty}
use Rattle.prism_limits.specs.declared.kinds.TextKind.TheVariants as kind
use Rattle.prism_parser.specs.declared.fault.ParseFault.{ParseFault}
use Rattle.prop_parser.specs.Properties.{HasLongProperty}
use Rattle.prism_parser.specs.Outcome.{IsNoText}
use Rattle.smc_report.specs.declared.reason.Reason.TheVariants.{Parse}
use Rattle.smc_report.specs.declared.reason.Subject.TheVariants as subject
use Rattle.front_end.specs.Stops.{IsReasonOf}
use Rattle.front_end.specs.Stages.{ParsesProperty}
use Rattle.front_end.proofs.StopLemmas.{stop_told}
use Rattle.front_end.proofs.StageLemmas.{parse_told}
use Rattle.front_end.proofs.properties.tree.Goals as goal

pub returns-in-Err-clause-refused : goal.returns-in-Err-clause-refused
returns-in-Err-clause-refused c =
    stop_told (IsReasonOf (Parse subject.Property) (λ (fault : ParseFault). ParsesProperty c.args.tokens.now (Err fault)))
    (Parse subject.Property c.in-Err.fault) c.new.result c.new.ensures
    (λ row. (
      c.in-Err.fault,
      refl,
      parse_told subject.Property kind.Property (IsProperty (kinds c.args.tokens.now)) HasLongProperty
          (IsNoText IsProperty (kinds c.args.tokens.now)) c.args.tokens.now _ c.in-Err.fault refl
          (λ word at. (c.in-Err.ensures.unsupported word at).only) (λ at. (c.in-Err.ensures.too_deep at).only)
          (λ at. (c.in-Err.ensures.not_in_grammar at).only) row,
    ))
