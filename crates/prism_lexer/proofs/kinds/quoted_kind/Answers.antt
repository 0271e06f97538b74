use Rattle.std.proofs.Common.{◌-◌, length, arith}
use Rattle.prism_lexer.proofs.KindLemmas.{quoted_token}
use Rattle.prism_lexer.proofs.kinds.quoted_kind.Goals as goal

pub returns : goal.returns
returns c =
    quoted_token c.args.bytes.now c.in_ok-from_bytes-in-len2-up.field-0 (length c.args.bytes.now - 1 - 1) c.requires c.in_ok-from_bytes-in-len2-up.ensures (omega arith)
