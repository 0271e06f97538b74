-- The command grows by an option at a time.
use Rattle.std.proofs.Common.{◌≡◌, ℕ, ◌+◌, ◌<◌, List, [], ◌∷◌, ◌++◌, map, take, get_or, ap, sym, ◌∙◌, length}
use Rattle.std.proofs.lemmas.List.{map-append, take_more}
use Rattle.std.specs.Borrow.{Bor}
use Rattle.clap.specs.Words.{App, with_rule}
use Rattle.clap.specs.Simple.{on_top}
use Rattle.smc_settings.specs.Options.{Text}
use Rattle.smc_settings.specs.Parse.{option_rule, bare_app, command_app}

-- one name more
pub names_more : (names : List (Bor Text)) (i : ℕ) (d : Bor Text) → i < length names → map (λ n. n.now) (take (i + 1) names) ≡ map (λ n. n.now) (take i names) ++ (get_or names i d).now ∷ []
names_more names i d h = ap (map (λ n. n.now)) (take_more names i d h) ∙ map-append (λ n. n.now) (take i names) (get_or names i d ∷ [])

-- one option more
pub option_more : (app : App) (names : List (Bor Text)) (i : ℕ) (d : Bor Text) → i < length names → app ≡ with_rule (command_app (map (λ n. n.now) (take i names))) (option_rule (get_or names i d).now)
    → app ≡ command_app (map (λ n. n.now) (take (i + 1) names))
option_more app names i d h e =
    e ∙ (ap (λ rs. on_top (λ s. record s { rules = rs }) bare_app) (sym (map-append option_rule (map (λ n. n.now) (take i names)) ((get_or names i d).now ∷ [])))
    ∙ ap command_app (sym (names_more names i d h)))
