-- Commands, and modules.
use Rattle.std.proofs.Common.{◌≡◌, ◌⊎◌, inl, inr, ℕ, List, ◌∷◌, refl, sym, ◌∙◌, ap, subst}
use Rattle.prism_syntax.specs.declared.tokens.Kind.{Kind}
use Rattle.prism_syntax.specs.declared.tokens.Kind.TheVariants as k
use Rattle.prism_syntax.specs.Models.{IsVariable, IsCommand, IsModule, Each}
use Rattle.prism_reading.specs.Reading.{Anything}
use Rattle.prism_reading.specs.Sequences.{IsTerminal, Both, OneOf}
use Rattle.prism_reading.proofs.DefiniteLemmas.{IsDefinite, HasText, Starts, Leads, starts_lead, terminal_definite, terminal_has, terminal_starts, IsNameKind, is_name, name_definite, name_has}
use Rattle.prism_reading.proofs.BothLemmas.{both_definite, both_has, both_starts}
use Rattle.prism_reading.proofs.MadeLemmas.{is_made, made_definite, made_has, made_starts}
use Rattle.prism_reading.proofs.OneOfLemmas.{one_of_definite, first_has, starts_apart}
use Rattle.prism_reading.proofs.EachLemmas.{Repeats, each_definite, each_has, each_then_starts}
use Rattle.prism_model.specs.Parts.{BeginsNot, BeginsNoName, IsExprUntil, AreBranchesEnded, IsRenaming, IsBody}
use Rattle.prism_model.proofs.ExpressionLemmas.{until_definite, until_has}
use Rattle.prism_model.proofs.LineLemmas.{command_made, module_made}
use Rattle.prism_model.proofs.DefiniteLineLemmas.{both_closed, after_token, action_definite, variable_definite, variable_starts, renaming_definite, renaming_has}
use Rattle.prism_model.proofs.BranchLemmas.{branches_definite, branches_has}

-- the guard and the branches of a command
pub guard_definite : IsDefinite (Both (IsExprUntil k.Arrow) AreBranchesEnded) Anything
guard_definite = both_closed (until_definite k.Arrow refl) branches_definite

pub guard_has : HasText (Both (IsExprUntil k.Arrow) AreBranchesEnded)
guard_has = both_has (until_has k.Arrow) branches_has

pub command_definite : IsDefinite IsCommand Anything
command_definite = made_definite command_made (after_token k.OpenBracket (both_closed action_definite guard_definite))

pub command_starts : Starts IsCommand (λ t. t ≡ k.OpenBracket)
command_starts = made_starts command_made (both_starts (terminal_starts k.OpenBracket))

-- a name begins each variable, and `[` each command
no_name : (t : Kind) (l : List Kind) → BeginsNoName (t ∷ l) → IsNameKind t → ⊥
no_name _ l none (is_name {text}) = none text l refl

pub variables_repeat : Repeats IsVariable Anything IsNameKind BeginsNoName
variables_repeat = record { one = variable_definite; starts = variable_starts; next = λ t l is. tt; last = λ r follows. tt; stop = no_name }

pub commands_repeat : Repeats IsCommand Anything (λ t. t ≡ k.OpenBracket) (BeginsNot k.OpenBracket)
commands_repeat = record {
  one = command_definite;
  starts = command_starts;
  next = λ t l is. tt;
  last = λ r follows. tt;
  stop = λ t l none is. none l (ap (λ u. u ∷ l) is);
}

-- the commands of a module with the token that ends it
pub end_leads : Leads (IsTerminal k.EndModule) Anything (BeginsNot k.OpenBracket)
end_leads = starts_lead (terminal_starts k.EndModule) (λ t l is after equal. let same : t ≡ k.OpenBracket = cc in let never : k.EndModule ≡ k.OpenBracket = sym is ∙ same in cc)

pub commands_definite : IsDefinite (Both (Each IsCommand) (IsTerminal k.EndModule)) Anything
commands_definite = both_definite (each_definite commands_repeat) end_leads (terminal_definite k.EndModule)

pub commands_has : HasText (Both (Each IsCommand) (IsTerminal k.EndModule))
commands_has = both_has each_has (terminal_has k.EndModule)

pub commands_start : Starts (Both (Each IsCommand) (IsTerminal k.EndModule)) (λ t. (t ≡ k.OpenBracket) ⊎ (t ≡ k.EndModule))
commands_start = each_then_starts command_starts (terminal_starts k.EndModule)

bracket_no_name : (text : List ℕ) → (k.Name text ≡ k.OpenBracket) ⊎ (k.Name text ≡ k.EndModule) → ⊥
bracket_no_name text (inl is) = cc
bracket_no_name text (inr is) = cc

pub commands_lead : Leads (Both (Each IsCommand) (IsTerminal k.EndModule)) Anything BeginsNoName
commands_lead = starts_lead commands_start (λ t l is text after equal. let same : t ≡ k.Name text = cc in bracket_no_name text (subst (λ u. (u ≡ k.OpenBracket) ⊎ (u ≡ k.EndModule)) same is))

-- the body of a module
pub body_parts_definite : IsDefinite (Both (Each IsVariable) (Both (Each IsCommand) (IsTerminal k.EndModule))) Anything
body_parts_definite = both_definite (each_definite variables_repeat) commands_lead commands_definite

pub body_definite : IsDefinite IsBody Anything
body_definite = made_definite is_made body_parts_definite

pub body_has : HasText IsBody
body_has = made_has is_made (both_has each_has commands_has)

abbrev pub BeginsBody : Kind → Type 0
BeginsBody t = IsNameKind t ⊎ ((t ≡ k.OpenBracket) ⊎ (t ≡ k.EndModule))

pub body_starts : Starts IsBody BeginsBody
body_starts = made_starts is_made (each_then_starts variable_starts commands_start)

pub no_body_equal : (t : Kind) → t ≡ k.Equal → BeginsBody t → ⊥
no_body_equal _ is (inl is_name) = cc
no_body_equal t is (inr (inl other)) = let never : k.Equal ≡ k.OpenBracket = sym is ∙ other in cc
no_body_equal t is (inr (inr other)) = let never : k.Equal ≡ k.EndModule = sym is ∙ other in cc

-- a module after its name
pub module_rest_definite : IsDefinite (OneOf (Both (IsTerminal k.Equal) IsRenaming) IsBody) Anything
module_rest_definite = one_of_definite (after_token k.Equal renaming_definite) body_definite (starts_apart (both_starts (terminal_starts k.Equal)) body_starts no_body_equal)

pub module_rest_has : HasText (OneOf (Both (IsTerminal k.Equal) IsRenaming) IsBody)
module_rest_has = first_has (both_has (terminal_has k.Equal) renaming_has)

pub module_definite : IsDefinite IsModule Anything
module_definite = made_definite module_made (after_token k.Module (both_closed name_definite module_rest_definite))

pub module_starts : Starts IsModule (λ t. t ≡ k.Module)
module_starts = made_starts module_made (both_starts (terminal_starts k.Module))

pub module_has : HasText IsModule
module_has = made_has module_made (both_has (terminal_has k.Module) (both_has name_has module_rest_has))
