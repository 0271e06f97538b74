-- What `make` asks of its ring, as the settings of a `check`.
use Rattle.std.specs.Prelude.{ℕ, ◌*◌, List, [], ◌++◌, codes, decimal, pos}
use Rattle.smc_num.specs.Fraction.{Fraction}
use Rattle.smc_settings.specs.declared.commands.TestWords.{TestWords}
use Rattle.smc_settings.specs.declared.commands.TestWords.TheVariants as test
use Rattle.smc_settings.specs.declared.commands.Settings.{Settings}
use Rattle.smc_settings.specs.declared.commands.Settings.TheVariants as command
use Rattle.smc_report.specs.Texts.{line}

-- one twentieth
abbrev pub twentieth : Fraction
twentieth = record { num = pos 1; den = 20 }

-- the property of a ring: with a probability of one half at least it has one token left, within as many steps as the square of
-- the number of its stations
abbrev pub ring_property : ℕ → List ℕ
ring_property stations = codes "P>=1/2 [ F<=" ++ (decimal (stations * stations) ++ codes " \"stable\" ]")

-- its test: Wald's, each of whose three numbers is one twentieth
abbrev pub ring_test : TestWords
ring_test = test.Wald twentieth twentieth twentieth

-- how many traces are drawn of a ring at most
abbrev pub most_ring_traces : ℕ
most_ring_traces = 10000

-- the settings of the `check` of a ring, which reads no file and is given no constant
abbrev pub ring_check : ℕ → ℕ → ℕ → Settings
ring_check stations seed workers = command.Check [] (ring_property stations) [] seed ring_test most_ring_traces workers

-- the two lines before the report of that check: how many stations there are, and how long the ring's text is
abbrev pub ring_lines : ℕ → ℕ → List ℕ
ring_lines stations bytes = line (codes "stations: ") (decimal stations) (line (codes "model bytes: ") (decimal bytes) [])
