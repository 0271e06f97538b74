-- Updates: `true`, which no `&` may follow, or assignments.
use Rattle.std.proofs.Common.{ℕ, List, [], length}
use Rattle.prism_syntax.specs.declared.tokens.Kind.TheVariants as k
use Rattle.prism_syntax.specs.declared.tokens.Token.{Token}
use Rattle.prism_syntax.specs.Tokens.{kinds}
use Rattle.prism_syntax.specs.Models.{IsUpdate}
use Rattle.prism_reading.specs.Reading.{Anything, Parses, Fails}
use Rattle.prism_reading.specs.Sequences.{IsTerminal}
use Rattle.prism_reading.proofs.DefiniteLemmas.{followed, unfollowed, terminal_definite}
use Rattle.prism_reading.proofs.MadeLemmas.{made_found, made_missing}
use Rattle.prism_reading.proofs.OneOfLemmas.{first_found, first_alone}
use Rattle.prism_reading.proofs.SeparatedLemmas.{separated_has, separated_starts}
use Rattle.prism_model.specs.Parts.{BeginsNot}
use Rattle.prism_model.proofs.LineLemmas.{update_made}
use Rattle.prism_model.proofs.DefiniteLineLemmas.{update_parts_definite, assign_has, assign_starts}
use Rattle.prism_model.proofs.StepLemmas.{begin_with, otherwise}

-- `true` is an update
pub true_found : {ts rest : List Token} {m : ℕ} → Parses (IsTerminal k.True) Anything ts tt rest m → BeginsNot k.Ampersand (kinds rest)
    → Parses IsUpdate (BeginsNot k.Ampersand) ts [] rest (length rest)
true_found one none = made_found update_made (first_found update_parts_definite (followed one none))

-- no `&` joins it to an assignment
pub joined_true : {ts rest next : List Token} {m n : ℕ} → Parses (IsTerminal k.True) Anything ts tt rest m → Parses (IsTerminal k.Ampersand) Anything rest tt next n
    → Fails IsUpdate (BeginsNot k.Ampersand) ts m
joined_true one token =
    made_missing update_made
    (first_alone (unfollowed (terminal_definite k.True) one (λ none. none _ (begin_with token)))
    (otherwise _ _ (begin_with one) (separated_starts assign_starts) (separated_has assign_has) (λ is. cc)))
