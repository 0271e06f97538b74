use Rattle.std.proofs.Common.{◌∷◌, [], ◌++◌, ◌∙◌, ◌≡◌, ap}
use Rattle.prism_syntax.specs.declared.tokens.Kind.TheVariants as k
use Rattle.std.proofs.Common.{None}
use Rattle.prism_syntax.specs.declared.commands.Branch.{Branch}
use Rattle.prism_reading.proofs.AnswerLemmas.{passed}
use Rattle.prism_model.proofs.BranchLemmas.{alone_definite, alone_missing, branches_parts_definite}
use Rattle.prism_model.proofs.DefiniteLineLemmas.{semicolon_update, update_definite}
use Rattle.prism_model.proofs.LineLemmas.{branches_made}
use Rattle.prism_reading.proofs.BothLemmas.{both_found, first_missing, second_missing}
use Rattle.prism_reading.proofs.DefiniteLemmas.{terminal_has}
use Rattle.prism_reading.proofs.MadeLemmas.{made_found}
use Rattle.prism_reading.proofs.OneOfLemmas.{first_found}
use Rattle.prism_model.proofs.branches.alone.Goals as goal

pub returns-in_err-sets : goal.returns-in_err-sets
returns-in_err-sets c = passed _ _ _ c.in_err-sets.field-0.0 c.from_residual.result c.from_residual.ensures.1 c.in_err-sets.ensures (λ left none. alone_missing c.requires (first_missing (terminal_has k.Semicolon) semicolon_update none))

pub returns-in_err-rest : goal.returns-in_err-rest
returns-in_err-rest c = passed _ _ _ c.in_err-rest.field-0.0 c.from_residual-in_err-rest.result c.from_residual-in_err-rest.ensures.1 c.in_err-rest.ensures (λ left none. alone_missing c.requires (second_missing update_definite semicolon_update c.in_ok-sets.ensures none.0))

pub returns : goal.returns
returns c =
    let branch : Branch = record { weight = None; sets = c.in_ok-sets.sets } in
    let pushed : c.push.new.self ≡ branch ∷ [] = c.in_ok-push.ensures.ok ∙ ap (λ l. l ++ (branch ∷ [])) c.new-branches.ensures in
    rw pushed (made_found branches_made (first_found branches_parts_definite (both_found alone_definite c.in_ok-sets.ensures c.in_ok-rest.ensures)))
