-- The test of a run, by its options.
use Rattle.std.proofs.Common.{◌≡◌, ◌∙◌, sym, Option, Some, None, IfSome, IfNone}
use Rattle.smc_settings.specs.declared.commands.TestWords.{TestWords}
use Rattle.smc_settings.specs.Options.{Text}
use Rattle.smc_settings.specs.Values.{plan_of}
use Rattle.smc_settings.specs.Settings.{IsTest, plan}

-- a plan alone is the test
pub plan_found : (text : Text) (r : Option TestWords) → r ≡ plan_of text → IfSome r (λ words. IsTest (Some text) None None None words)
plan_found text None e = tt
plan_found text (Some words) e = plan text words (sym e)

-- and without its numbers there is none
pub plan_missing : (text : Text) (r : Option TestWords) → r ≡ plan_of text → IfNone r ((words : TestWords) → IsTest (Some text) None None None words → ⊥)
plan_missing text None e = λ words is. refused words is
  where
    refused : (words : TestWords) → IsTest (Some text) None None None words → ⊥
    refused words (plan _ _ f) = cc (e ∙ f)
plan_missing text (Some words) e = tt
