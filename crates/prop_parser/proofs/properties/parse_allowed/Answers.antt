use Rattle.prism_syntax.specs.Tokens.{kinds}
use Rattle.prism_syntax.specs.Properties.{IsProperty}
use Rattle.prism_limits.specs.declared.kinds.TextKind.TheVariants.{Property as ForProperty}
use Rattle.prism_parser.specs.Outcome.{IsNoText}
use Rattle.prop_parser.specs.Properties.{HasLongProperty}
use Rattle.std.proofs.Common.{[], sym, append-nil}
use Rattle.prism_parser.proofs.StepLemmas.{told_chains}
use Rattle.prop_parser.proofs.ArrowLineLemmas.{later_property, property_later}
use Rattle.prop_parser.proofs.properties.parse_allowed.Goals as goal

pub returns-in-Ok-refuse_chains : goal.returns-in-Ok-refuse_chains
returns-in-Ok-refuse_chains c = record {
  allowed = c.requires;
  found = c.in-Ok.ensures;
  short = λ long. let later = property_later c.in-Ok.ensures long in c.in-Ok-refuse_chains.ensures later.0 later.1;
}

pub returns-in-Err : goal.returns-in-Err
returns-in-Err c =
    told_chains ForProperty (IsProperty (kinds c.args.tokens.now)) HasLongProperty (IsNoText IsProperty (kinds c.args.tokens.now)) c.args.tokens.now 0 c.in-Err.fault c.in-Ok.tree (kinds c.args.tokens.now) [] c.requires c.in-Ok.ensures (sym (append-nil (kinds c.args.tokens.now))) (λ index later. later_property c.in-Ok.ensures later) c.in-Err.ensures
