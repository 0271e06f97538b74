-- The printed form of a flat text that comes from a text reads back.
use Rattle.std.proofs.Common.{ℕ, List, sym, subst}
use Rattle.prism_syntax.specs.declared.tokens.Token.{Token}
use Rattle.prism_syntax.specs.Tokens.{Reads, done, blank, comment, token, kinds}
use Rattle.prism_syntax.specs.Models.{IsModel}
use Rattle.prism_print.specs.Pieces.{tokens_of}
use Rattle.prism_print.specs.Printed.{layout, printed}
use Rattle.prism_print.specs.Reading.{as_model, AllReadBack, AllStayShort}
use Rattle.prism_print.proofs.StandsLemmas.{AreFormedKinds, none, more, all_formed, Matches}
use Rattle.prism_print.proofs.ModelLemmas.{layout_matches}
use Rattle.prism_print.proofs.AgainLemmas.{flat_again}
use Rattle.prism_print.proofs.AcceptedLemmas.{flat_accepted}
use Rattle.prism_print.proofs.ShortLemmas.{flat_short}
use Rattle.prism_print.proofs.CutLemmas.{IsCut, cut_back}

-- the tokens of a text are well formed
read_formed : {at end : ℕ} {text rest : List ℕ} {tokens : List Token} → Reads at text tokens end rest → AreFormedKinds (kinds tokens)
read_formed (done at text) = none
read_formed (blank at c text tokens end rest is reads) = read_formed reads
read_formed (comment at line text tokens end rest is ends reads) = read_formed reads
read_formed (token at text bytes kind after tokens end rest no_comment first reads) = more (bytes, first.token) (read_formed reads)

pub all_read_back : AllReadBack
all_read_back text flat from = record {
  tokens = back.tokens;
  cut = back.cut;
  tree = subst (λ ks. IsModel ks (as_model flat)) (sym back.same) matched.text;
  accepted = flat_accepted from.model flat from.same from.accepted;
  same = flat_again from.model flat from.same from.accepted;
}
  where
    matched : Matches IsModel (tokens_of (layout flat)) (as_model flat)
    matched = layout_matches (kinds from.tokens) from.model flat from.tree (read_formed from.cut.read) from.same

    back : IsCut flat
    back = cut_back flat (all_formed matched.formed)

pub all_stay_short : AllStayShort
all_stay_short text flat from short = flat_short from.model flat from.same short
