-- What is found among files that are looked through from the first on.
use Rattle.std.proofs.Common.{◌≡◌, ℕ, ◌+◌, ◌<◌, Bool, true, false, List, [], length, get_or, drop, refl, Some, add-one, ap, bytes_eq, string_bytes, String, Vec}
use Rattle.std.proofs.Math.Seq.{drop-cons}
use Rattle.std.proofs.lemmas.List.{get_or-map, length-map}
use Rattle.std.specs.Map.{lookup}
use Rattle.std.specs.declared.alloc.Global.{Global}
use Rattle.smc_io.specs.Files.{Named, file_of, names_and_bytes}

-- the file at i passes, and none before it was looked at
pub lookup-drop_found : (test : List ℕ → Bool) (files : Named) (i : ℕ) → i < length files → test (get_or files i ([], [])).0 ≡ true → lookup test (drop i files) ≡ Some (get_or files i ([], [])).1
lookup-drop_found test files i inside passes = rw (drop-cons files i ([], []) inside) (rw passes refl)

-- the file at i does not pass, so the search goes on behind it
pub lookup-drop_next : (test : List ℕ → Bool) (files : Named) (i : ℕ) → i < length files → test (get_or files i ([], [])).0 ≡ false → lookup test (drop i files) ≡ lookup test (drop (i + 1) files)
lookup-drop_next test files i inside fails = rw (drop-cons files i ([], []) inside, fails, add-one) refl

module _ (files : List (String Global × Vec ℕ Global)) (i : ℕ) (file : String Global × Vec ℕ Global) (name : List ℕ) (inside : i < length files) (is : file ≡ get_or files i file) where
  -- the file's name, among the names and bytes
  name_at : string_bytes file.0 ≡ (get_or (names_and_bytes files) i ([], [])).0
  name_at = rw (get_or-map {Y = List ℕ × List ℕ} (λ f. (string_bytes f.0, f.1.items)) files i file ([], []) inside) (ap (λ f. string_bytes f.0) is)

  inside_named : i < length (names_and_bytes files)
  inside_named = rw length-map inside

  -- the file at i has the name, and none before it
  pub found_at : file_of (names_and_bytes files) name ≡ file_of (drop i (names_and_bytes files)) name → bytes_eq name (string_bytes file.0) ≡ true → file_of (names_and_bytes files) name ≡ Some (get_or (names_and_bytes files) i ([], [])).1
  found_at before same = rw (before, lookup-drop_found (bytes_eq name) (names_and_bytes files) i inside_named (rw (← name_at) same)) refl

  -- the file at i does not have the name, nor does one before it
  pub none_through : file_of (names_and_bytes files) name ≡ file_of (drop i (names_and_bytes files)) name → bytes_eq name (string_bytes file.0) ≡ false → file_of (names_and_bytes files) name ≡ file_of (drop (i + 1) (names_and_bytes files)) name
  none_through before other = rw (before, lookup-drop_next (bytes_eq name) (names_and_bytes files) i inside_named (rw (← name_at) other)) refl
