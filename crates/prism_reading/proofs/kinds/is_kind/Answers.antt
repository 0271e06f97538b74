use Rattle.std.proofs.Common.{◌≡◌, Some, sym, ◌∙◌}
use Rattle.std.specs.Prelude.{bytes_eq}
use Rattle.prism_syntax.specs.Spelling.{spelling_of}
use Rattle.prism_reading.proofs.KindLemmas.{alike, alike_back}
use Rattle.prism_reading.proofs.kinds.is_kind.Goals as goal

pub returns-in-Some-Some : goal.returns-in-Some-Some
returns-in-Some-Some c =
    let first : spelling_of c.args.token.now ≡ Some c.in-Some-Some.bytes.now = sym c.in-Some-Some.ensures in
    let second : spelling_of c.args.kind.now ≡ Some c.in-Some-Some.other.now = sym c.in-Some-Some.ensures' in
    let test : c.eq.result ≡ bytes_eq c.in-Some-Some.bytes.now c.in-Some-Some.other.now = c.eq.ensures in
    (λ is. alike first second (sym test ∙ is), λ is. test ∙ alike_back first second is)
