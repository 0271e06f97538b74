use Rattle.std.proofs.Common.{[], sym, append-nil}
use Rattle.prism_syntax.specs.Tokens.{kinds}
use Rattle.prism_syntax.specs.Models.{IsModel}
use Rattle.prism_limits.specs.declared.kinds.TextKind.TheVariants.{Model}
use Rattle.prism_parser.specs.Models.{HasLongModel}
use Rattle.prism_parser.specs.Outcome.{IsNoText}
use Rattle.prism_parser.proofs.StepLemmas.{told_chains}
use Rattle.prism_parser.proofs.ModelLemmas.{later_model, model_later}
use Rattle.prism_parser.proofs.models.parse_allowed.Goals as goal

pub returns-in-Ok-refuse_chains : goal.returns-in-Ok-refuse_chains
returns-in-Ok-refuse_chains c = record {
  allowed = c.requires;
  found = c.in-Ok.ensures;
  short = λ long. let later = model_later c.in-Ok.ensures long in c.in-Ok-refuse_chains.ensures later.0 later.1;
}

pub returns-in-Err : goal.returns-in-Err
returns-in-Err c =
    told_chains Model (IsModel (kinds c.args.tokens.now)) HasLongModel (IsNoText IsModel (kinds c.args.tokens.now)) c.args.tokens.now 0 c.in-Err.fault c.in-Ok.tree (kinds c.args.tokens.now) [] c.requires c.in-Ok.ensures
    (sym (append-nil (kinds c.args.tokens.now))) (λ index later. later_model c.in-Ok.ensures later) c.in-Err.ensures
