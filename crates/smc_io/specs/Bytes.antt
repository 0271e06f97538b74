-- Bytes that are left to read and bytes that were written, where a source or a sink tells them.
use Rattle.std.specs.Prelude.{◌≡◌, ℕ, ◌<◌, ◌≤◌, List, length, take, Option, Some, IfSome}
use Rattle.std.specs.Io.KnownBytes.{Appends, Consumes}
use Rattle.smc_io.specs.Files.{Named, bytes_at}

-- the fact holds of what is told; where nothing is told it says nothing
abbrev pub Told : {T : Type 0} → Option T → (T → Type 0) → Type 0
Told o P = IfSome o P

-- where the files are told, what is left to read is all of the file of this name
abbrev pub Opens : Option Named → List ℕ → Option (List ℕ) → Type 0
Opens files name rest = Told files (λ named. rest ≡ Some (bytes_at named name))

-- at most n bytes were taken from the front of what was left to read
abbrev pub TakesAtMost : ℕ → Option (List ℕ) → Option (List ℕ) → Type 0
TakesAtMost n old new = (taken : List ℕ) × (length taken ≤ n) × Consumes old new taken

-- only a proper prefix of the bytes was appended to what was written
abbrev pub AppendsPart : Option (List ℕ) → Option (List ℕ) → List ℕ → Type 0
AppendsPart old new bytes = (n : ℕ) × (n < length bytes) × Appends old new (take n bytes)
