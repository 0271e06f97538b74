-- What contracts see of the sources and sinks that live in memory.
use Rattle.std.specs.Prelude.{◌≡◌, ℕ, List, [], drop, Option, None, Some, slice_index_or}
use Rattle.smc_io.specs.Files.{Named, file_of}

-- files, what is left to read of the one that is open, the name last opened, and how many opens there were
pub record Shelved : Type 0 where
  pub files : Named
  pub rest : List ℕ
  pub opened : Option (List ℕ)
  pub opens : ℕ

-- the numbers of the calls that are to fail, and how many calls there were
pub record Planned : Type 0 where
  pub fail : List ℕ
  pub calls : ℕ

-- files in memory of which some calls fail, as `Shelved` and `Planned`, and how many calls failed
pub record FailingFiles : Type 0 where
  pub files : Named
  pub rest : List ℕ
  pub opened : Option (List ℕ)
  pub opens : ℕ
  pub fail : List ℕ
  pub calls : ℕ
  pub faults : ℕ

-- bytes that were written, how many fit in all, how many a call takes at most, which calls are to fail, how many calls there were, and how many failed
pub record FailingSink : Type 0 where
  pub written : List ℕ
  pub room : ℕ
  pub most : ℕ
  pub fail : List ℕ
  pub calls : ℕ
  pub faults : ℕ

-- the bytes from a place on in the file of a number; none where no file is open
abbrev pub left_of : Named → Option ℕ → ℕ → List ℕ
left_of files None place = []
left_of files (Some file) place = drop place (slice_index_or files file ([], [])).1

-- the file of this number holds the bytes of the first file of the name; there is no number where no file has the name
abbrev pub IsNumberOf : Named → List ℕ → Option ℕ → Type 0
IsNumberOf files name None = file_of files name ≡ None
IsNumberOf files name (Some number) = file_of files name ≡ Some (slice_index_or files number ([], [])).1
