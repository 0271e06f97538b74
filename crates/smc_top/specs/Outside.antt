-- What the outside can do to a call: a source or a sink that fails, or memory that runs out; and what a call does to it.
use Rattle.std.specs.Prelude.{◌≡◌, ◌⊎◌, ℕ, ◌+◌, List, Option, Some, None}
use Rattle.smc_io.specs.Bytes.{Told}
use Rattle.smc_io.specs.Files.{Named}
use Rattle.smc_settings.specs.declared.commands.Settings.{Settings}
use Rattle.smc_settings.specs.Settings.{IsSettings}
use Rattle.smc_report.specs.declared.reason.Reason.{Reason}
use Rattle.smc_top.specs.declared.status.Status.{Status}
use Rattle.smc_top.specs.declared.status.Status.TheVariants.{Accepted, Rejected, Undecided, Usage, ReadFault, ModelRefused, PropertyRefused, SettingsRefused, TraceFault, WriteFault, OutOfMemory}
use Rattle.smc_top.specs.Asked.{file_of, Refuses}
use Rattle.smc_top.specs.Report.{bytes_of}

-- the source or the sink failed, or memory ran out
abbrev pub IsCutShort : Status → Type 0
IsCutShort ReadFault = Unit {0}
IsCutShort WriteFault = Unit {0}
IsCutShort OutOfMemory = Unit {0}
IsCutShort _ = ⊥

-- files that a source may hold: those that it tells, where it tells them
abbrev pub AreFilesOf : Option Named → Named → Type 0
AreFilesOf told files = Told told (λ known. files ≡ known)

-- the words name this file as the model's
abbrev pub NamesFile : List (List ℕ) → List ℕ → Type 0
NamesFile words name = (settings : Settings) × IsSettings words settings × (file_of settings ≡ Some name)

-- the words name no file: they give no settings, or those of a command that reads none
abbrev pub NamesNoFile : List (List ℕ) → Type 0
NamesNoFile words = (name : List ℕ) → ¬ NamesFile words name

-- the words, or the texts that they ask about, are refused
abbrev pub IsRefusedOver : List (List ℕ) → Named → Type 0
IsRefusedOver words files =
    ((settings : Settings) → ¬ IsSettings words settings)
    ⊎ ((settings : Settings) × (why : Reason) × IsSettings words settings × Refuses settings (bytes_of files (file_of settings)) why)

-- a command is done: a run is accepted, rejected, undecided or ended by a fault, or what was asked is written
abbrev pub IsDone : Status → Type 0
IsDone Accepted = Unit {0}
IsDone Rejected = Unit {0}
IsDone Undecided = Unit {0}
IsDone TraceFault = Unit {0}
IsDone _ = ⊥
