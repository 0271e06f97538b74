use Rattle.std.specs.Prelude.{Ok, Err}
use Rattle.prism_lexer.proofs.KindLemmas.{whole_token}
use Rattle.prism_lexer.proofs.kinds.whole_kind.Goals as goal

pub returns-in-Ok : goal.returns-in-Ok
returns-in-Ok c = whole_token c.args.bytes.now (Ok c.in-Ok.value) c.requires c.in-Ok.ensures.value

pub returns-in-Err : goal.returns-in-Err
returns-in-Err c = whole_token c.args.bytes.now (Err c.in-Err.field-0) c.requires c.in-Err.ensures.value
