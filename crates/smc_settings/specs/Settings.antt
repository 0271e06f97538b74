-- What the words of the command line say: a command and its options.
use Rattle.std.specs.Prelude.{◌≡◌, ◌≤◌, ⊤, ℕ, ◌-◌, ◌%◌, ◌^◌, List, [], ◌∷◌, Option, Some, None, codes}
use Rattle.smc_num.specs.Fraction.{Fraction}
use Rattle.chain_model.specs.declared.constants.Given.{Given}
use Rattle.smc_settings.specs.declared.commands.Settings.{Settings}
use Rattle.smc_settings.specs.declared.commands.Settings.TheVariants as command
use Rattle.smc_settings.specs.declared.commands.TestWords.{TestWords}
use Rattle.smc_settings.specs.declared.commands.TestWords.TheVariants as test
use Rattle.smc_settings.specs.Options.{Text, AreOptions, value_in}
use Rattle.smc_settings.specs.Values.{whole_or, IsNumberOr, plan_of}
use Rattle.smc_settings.specs.Constants.{ArePairsOr}

-- the options of `check`
abbrev pub check_table : List Text
check_table =
    codes "model" ∷ codes "property" ∷ codes "const" ∷ codes "seed" ∷ codes "plan" ∷ codes "delta" ∷ codes "alpha"
    ∷ codes "beta" ∷ codes "limit" ∷ codes "workers" ∷ []

-- the options of `trace`
abbrev pub trace_table : List Text
trace_table = codes "model" ∷ codes "const" ∷ codes "seed" ∷ codes "index" ∷ codes "steps" ∷ []

-- the options of `expand`
abbrev pub expand_table : List Text
expand_table = codes "model" ∷ []

-- the options of `make`
abbrev pub make_table : List Text
make_table = codes "stations" ∷ codes "seed" ∷ codes "workers" ∷ []

-- the test of a run: a plan, with no number of Wald's test beside it, or Wald's test with its three numbers
pub data IsTest : Option Text → Option Text → Option Text → Option Text → TestWords → Type 0 where
  plan : (text : Text) (words : TestWords) → plan_of text ≡ Some words → IsTest (Some text) None None None words
  wald : (delta alpha beta : Option Text) (width first second : Fraction) → IsNumberOr delta width
      → IsNumberOr alpha first → IsNumberOr beta second → IsTest None delta alpha beta (test.Wald width first second)

-- the settings of `check`, a premise for each option
pub data IsCheck (value : Text → Option Text) : Settings → Type 0 where
  check_settings : (model property : Text) (given : List Given) (seed : ℕ) (test : TestWords) (limit workers : ℕ)
      → value (codes "model") ≡ Some model
      → value (codes "property") ≡ Some property
      → ArePairsOr (value (codes "const")) given
      → whole_or 1 0 (2 ^ 64 - 1) (value (codes "seed")) ≡ Some seed
      → IsTest (value (codes "plan")) (value (codes "delta")) (value (codes "alpha")) (value (codes "beta")) test
      → whole_or 1000000 1 (2 ^ 28) (value (codes "limit")) ≡ Some limit
      → whole_or 1 1 64 (value (codes "workers")) ≡ Some workers
      → IsCheck value (command.Check model property given seed test limit workers)

-- the settings of `trace`, a premise for each option
pub data IsTrace (value : Text → Option Text) : Settings → Type 0 where
  trace_settings : (model : Text) (given : List Given) (seed index steps : ℕ)
      → value (codes "model") ≡ Some model
      → ArePairsOr (value (codes "const")) given
      → whole_or 1 0 (2 ^ 64 - 1) (value (codes "seed")) ≡ Some seed
      → whole_or 0 0 (2 ^ 64 - 1) (value (codes "index")) ≡ Some index
      → whole_or 10 0 10000 (value (codes "steps")) ≡ Some steps
      → IsTrace value (command.Trace model given seed index steps)

-- the settings of `expand`
pub data IsExpand (value : Text → Option Text) : Settings → Type 0 where
  expand_settings : (model : Text) → value (codes "model") ≡ Some model → IsExpand value (command.Expand model)

-- the settings of `make`, a premise for each option; the number of stations is odd
pub data IsMake (value : Text → Option Text) : Settings → Type 0 where
  make_settings : (stations seed workers : ℕ)
      → whole_or 9 3 63 (value (codes "stations")) ≡ Some stations
      → stations % 2 ≡ 1
      → whole_or 1 0 (2 ^ 64 - 1) (value (codes "seed")) ≡ Some seed
      → whole_or 1 1 64 (value (codes "workers")) ≡ Some workers
      → IsMake value (command.Make stations seed workers)

-- the words give options of `check`, with these settings
pub record AreCheckWords (words : List Text) (settings : Settings) : Type 0 where
  pub options : List (Text × Text)
  pub are_options : AreOptions check_table words options
  pub has_settings : IsCheck (value_in options) settings

-- the words give options of `trace`, with these settings
pub record AreTraceWords (words : List Text) (settings : Settings) : Type 0 where
  pub options : List (Text × Text)
  pub are_options : AreOptions trace_table words options
  pub has_settings : IsTrace (value_in options) settings

-- the words give options of `expand`, with these settings
pub record AreExpandWords (words : List Text) (settings : Settings) : Type 0 where
  pub options : List (Text × Text)
  pub are_options : AreOptions expand_table words options
  pub has_settings : IsExpand (value_in options) settings

-- the words give options of `make`, with these settings
pub record AreMakeWords (words : List Text) (settings : Settings) : Type 0 where
  pub options : List (Text × Text)
  pub are_options : AreOptions make_table words options
  pub has_settings : IsMake (value_in options) settings

-- the settings that the words give: the first is the command, the others are its options; `help` has none
pub data IsSettings : List Text → Settings → Type 0 where
  check : (name : Text) (words : List Text) (settings : Settings) → name ≡ codes "check" → AreCheckWords words settings
      → IsSettings (name ∷ words) settings
  trace : (name : Text) (words : List Text) (settings : Settings) → name ≡ codes "trace" → AreTraceWords words settings
      → IsSettings (name ∷ words) settings
  expand : (name : Text) (words : List Text) (settings : Settings) → name ≡ codes "expand" → AreExpandWords words settings
      → IsSettings (name ∷ words) settings
  make : (name : Text) (words : List Text) (settings : Settings) → name ≡ codes "make" → AreMakeWords words settings
      → IsSettings (name ∷ words) settings
  help : (name : Text) → name ≡ codes "help" → IsSettings (name ∷ []) command.Help

-- the numbers of a plan are at most 2^28
abbrev pub IsPlanWithin : TestWords → Type 0
IsPlanWithin (test.Plan n c) = (n ≤ 2 ^ 28) × (c ≤ 2 ^ 28)
IsPlanWithin (test.Wald delta alpha beta) = ⊤

-- the numbers of settings are within their ranges
abbrev pub AreWithin : Settings → Type 0
AreWithin (command.Check model property given seed test limit workers) =
    IsPlanWithin test × (1 ≤ limit) × (limit ≤ 2 ^ 28) × (1 ≤ workers) × (workers ≤ 64)
AreWithin (command.Trace model given seed index steps) = steps ≤ 10000
AreWithin (command.Expand model) = ⊤
AreWithin (command.Make stations seed workers) =
    (3 ≤ stations) × (stations ≤ 63) × (stations % 2 ≡ 1) × (1 ≤ workers) × (workers ≤ 64)
AreWithin command.Help = ⊤
