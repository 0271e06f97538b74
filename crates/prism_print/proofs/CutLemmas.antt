-- A printed form is cut into just the tokens that it is laid out of.
use Rattle.std.proofs.Common.{◌≡◌, List, []}
use Rattle.std.specs.Prelude.{All}
use Rattle.prism_syntax.specs.declared.tokens.Token.{Token}
use Rattle.prism_syntax.specs.declared.models.FlatText.{FlatText}
use Rattle.prism_syntax.specs.Tokens.{AreTokensOf, kinds}
use Rattle.prism_syntax.specs.WellFormed.{IsFormedKind}
use Rattle.prism_print.specs.Pieces.{tokens_of}
use Rattle.prism_print.specs.Printed.{layout, printed}
use Rattle.prism_print.proofs.ApartLemmas.{apart_cut}
use Rattle.prism_print.proofs.NeighbourLemmas.{layout_apart}

-- the tokens into which a printed form is cut
pub record IsCut (flat : FlatText) : Type 0 where
  pub tokens : List Token
  pub cut : AreTokensOf (printed flat) tokens
  pub same : kinds tokens ≡ tokens_of (layout flat)

-- what is laid out of well-formed tokens is cut into just these
pub cut_back : (flat : FlatText) → All IsFormedKind (tokens_of (layout flat)) → IsCut flat
cut_back flat formed =
    let found = apart_cut (layout flat) (layout_apart flat) formed 0 in
    record { tokens = found.tokens; cut = record { end = found.end; read = found.reads }; same = found.same }
