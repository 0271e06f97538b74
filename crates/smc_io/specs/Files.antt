-- Files, as their names and bytes.
use Rattle.std.specs.Prelude.{ℕ, List, [], map, bytes_eq, string_bytes, unwrap_or, IsSome, Option, String, Vec}
use Rattle.std.specs.Map.{lookup}
use Rattle.std.specs.declared.alloc.Global.{Global}

-- files in order, each with its name and its bytes
abbrev pub Named : Type 0
Named = List (List ℕ × List ℕ)

-- the bytes of the first file of a name, if there is one
abbrev pub file_of : Named → List ℕ → Option (List ℕ)
file_of files name = lookup (bytes_eq name) files

-- some file has this name
abbrev pub HasFile : Named → List ℕ → Type 0
HasFile files name = IsSome (file_of files name)

-- the bytes of the first file of a name; an absent name counts as an empty file
abbrev pub bytes_at : Named → List ℕ → List ℕ
bytes_at files name = unwrap_or (file_of files name) []

-- the names and bytes of files that a program holds
abbrev pub names_and_bytes : List (String Global × Vec ℕ Global) → Named
names_and_bytes files = map (λ file. (string_bytes file.0, file.1.items)) files
