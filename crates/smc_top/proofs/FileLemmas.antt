-- Files over which a source gives what was read of it.
use Rattle.std.proofs.Common.{◌≡◌, ℕ, zero, suc, true, ◌+◌, ◌<◌, ◌⊎◌, inl, inr, List, [], ◌∷◌, Option, Some, None, IfSome, refl, sym, ap, subst, arith, length, replicate, unwrap_or, if◌then◌else◌}
use Rattle.std.specs.Str.{bytes_eq}
use Rattle.std.proofs.lemmas.Slice.Eq.{bytes_eq-Decides}
use Rattle.std.specs.Io.KnownBytes.{Keeps}
use Rattle.smc_io.specs.Bytes.{Told, TakesAtMost}
use Rattle.smc_io.specs.Files.{Named, bytes_at, file_of}
use Rattle.smc_settings.specs.declared.commands.Settings.{Settings}
use Rattle.smc_settings.specs.declared.commands.Settings.TheVariants as command
use Rattle.smc_settings.specs.Settings.{IsSettings}
use Rattle.smc_top.specs.Asked.{file_of as file_named}
use Rattle.smc_top.specs.Outside.{AreFilesOf, NamesFile, NamesNoFile}

-- files that a source may hold, of which the file of a name has bytes of this kind
pub record HoldsFile (told : Option Named) (name : List ℕ) (P : List ℕ → Type 0) : Type 0 where
  pub files : Named
  pub are : AreFilesOf told files
  pub bytes : P (bytes_at files name)

-- one file is found by its name
pub one_file : (name text : List ℕ) → bytes_at ((name, text) ∷ []) name ≡ text
one_file name text = let itself : bytes_eq name name ≡ true = (bytes_eq-Decides name name).1 refl in rw itself refl

-- where the source tells its files they are those, and otherwise one file of this name with these bytes
pub holds_text : (told : Option Named) (name text : List ℕ) → Told told (λ files. text ≡ bytes_at files name) → HoldsFile told name (λ bytes. bytes ≡ text)
holds_text None name text whole = record { files = (name, text) ∷ []; are = tt; bytes = one_file name text }
holds_text (Some files) name text whole = record { files = files; are = refl; bytes = sym whole }

-- a list of so many items has that length
length-replicate : (n x : ℕ) → length (replicate n x) ≡ n
length-replicate zero x = refl
length-replicate (suc n) x = ap suc (length-replicate n x)

-- where a text is longer than the limit the source may hold such a text
pub holds_long : (told : Option Named) (name : List ℕ) (limit : ℕ) → Told told (λ files. limit < length (bytes_at files name)) → HoldsFile told name (λ bytes. limit < length bytes)
holds_long None name limit long =
    let text = replicate (suc limit) 0 in
    let many = length-replicate (suc limit) 0 in
    record { files = (name, text) ∷ []; are = tt; bytes = rw (one_file name text) (omega (arith, many)) }
holds_long (Some files) name limit long = record { files = files; are = refl; bytes = long }

-- files that a source may hold
pub some_files : (told : Option Named) → (files : Named) × AreFilesOf told files
some_files None = ([], tt)
some_files (Some files) = (files, refl)

-- what was taken of a file, or the source was left as it was
pub taken_of : (told : Option Named) (bytes name : List ℕ) → bytes ≡ name → (most : ℕ) (before after : Option (List ℕ)) (Fault : Type 0)
    → Told told (λ files. TakesAtMost most (Some (bytes_at files bytes)) after ⊎ (Fault × Keeps before after)) → Told told (λ files. Keeps before after ⊎ TakesAtMost most (Some (bytes_at files name)) after)
taken_of None bytes name same most before after Fault taken = tt
taken_of (Some files) bytes name same most before after Fault (inl takes) = inr (subst (λ (n : List ℕ). TakesAtMost most (Some (bytes_at files n)) after) same takes)
taken_of (Some files) bytes name same most before after Fault (inr fault) = inl fault.1

-- words that name no file give settings without one
pub no_file : (words : List (List ℕ)) (settings : Settings) → IsSettings words settings → NamesNoFile words → file_named settings ≡ None
no_file words (command.Check model property given seed test limit workers) read none = absurd (none model (command.Check model property given seed test limit workers, read, refl))
no_file words (command.Trace model given seed index steps) read none = absurd (none model (command.Trace model given seed index steps, read, refl))
no_file words (command.Expand model) read none = absurd (none model (command.Expand model, read, refl))
no_file words (command.Make stations seed workers) read none = refl
no_file words command.Help read none = refl

-- the file that is opened is the one that the words name
pub opened_by : (words : List (List ℕ)) (settings : Settings) → IsSettings words settings → (Same Once : Type 0) (opened : Option (List ℕ)) → (file_named settings ≡ None → Same)
    → IfSome (file_named settings) (λ name. Same ⊎ (Once × (opened ≡ Some name))) → Same ⊎ (Once × ((name : List ℕ) × NamesFile words name × (opened ≡ Some name)))
opened_by words (command.Check model property given seed test limit workers) read Same Once opened none (inl same) = inl same
opened_by words (command.Check model property given seed test limit workers) read Same Once opened none (inr once) =
    inr (once.0, (model, (command.Check model property given seed test limit workers, read, refl), once.1))
opened_by words (command.Trace model given seed index steps) read Same Once opened none (inl same) = inl same
opened_by words (command.Trace model given seed index steps) read Same Once opened none (inr once) = inr (once.0, (model, (command.Trace model given seed index steps, read, refl), once.1))
opened_by words (command.Expand model) read Same Once opened none (inl same) = inl same
opened_by words (command.Expand model) read Same Once opened none (inr once) = inr (once.0, (model, (command.Expand model, read, refl), once.1))
opened_by words (command.Make stations seed workers) read Same Once opened none h = inl (none refl)
opened_by words command.Help read Same Once opened none h = inl (none refl)

-- so is the file of which something is taken
pub taken_by : (words : List (List ℕ)) (settings : Settings) → IsSettings words settings → (told : Option Named) (most : ℕ) (before after : Option (List ℕ)) → (file_named settings ≡ None → Keeps before after)
    → IfSome (file_named settings) (λ name. Told told (λ files. Keeps before after ⊎ TakesAtMost most (Some (bytes_at files name)) after))
    → Told told (λ files. Keeps before after ⊎ ((name : List ℕ) × NamesFile words name × TakesAtMost most (Some (bytes_at files name)) after))
taken_by words settings read None most before after none taken = tt
taken_by words (command.Check model property given seed test limit workers) read (Some files) most before after none (inl keeps) = inl keeps
taken_by words (command.Check model property given seed test limit workers) read (Some files) most before after none (inr takes) =
    inr (model, (command.Check model property given seed test limit workers, read, refl), takes)
taken_by words (command.Trace model given seed index steps) read (Some files) most before after none (inl keeps) = inl keeps
taken_by words (command.Trace model given seed index steps) read (Some files) most before after none (inr takes) = inr (model, (command.Trace model given seed index steps, read, refl), takes)
taken_by words (command.Expand model) read (Some files) most before after none (inl keeps) = inl keeps
taken_by words (command.Expand model) read (Some files) most before after none (inr takes) = inr (model, (command.Expand model, read, refl), takes)
taken_by words (command.Make stations seed workers) read (Some files) most before after none h = inl (none refl)
taken_by words command.Help read (Some files) most before after none h = inl (none refl)
