-- Options: each is one word `--name=value`, or two words `--name` and `value`.
use Rattle.std.specs.Prelude.{◌≡◌, ◌==◌, ◌&&◌, ℕ, Bool, true, false, not, List, [], ◌∷◌, ◌++◌, Option, Some, None, if◌then◌else◌}
use Rattle.std.specs.List.{list_any}
use Rattle.std.specs.Str.{bytes_eq}

abbrev pub Text : Type 0
Text = List ℕ

-- something is given, and it doesn't begin with `-`
abbrev pub is_value : Text → Bool
is_value [] = false
is_value (byte ∷ rest) = not (byte == 45)

-- the name stands in the command's table
abbrev pub is_known : List Text → Text → Bool
is_known table name = list_any (λ known. bytes_eq known name) table

-- these words give these options of the table, each a name and its value
pub data Gives (table : List Text) : List Text → List (Text × Text) → Type 0 where
  nothing : Gives table [] []
  one_word : (name value : Text) (words : List Text) (options : List (Text × Text))
      → is_known table name ≡ true → is_value value ≡ true → Gives table words options
      → Gives table ((45 ∷ 45 ∷ (name ++ 61 ∷ value)) ∷ words) ((name, value) ∷ options)
  two_words : (name value : Text) (words : List Text) (options : List (Text × Text))
      → is_known table name ≡ true → is_value value ≡ true → Gives table words options
      → Gives table ((45 ∷ 45 ∷ name) ∷ value ∷ words) ((name, value) ∷ options)

-- an option of this name is given
abbrev pub is_given : Text → List (Text × Text) → Bool
is_given name options = list_any (λ option. bytes_eq option.0 name) options

-- none of these has the name of one before it
abbrev pub are_new : List (Text × Text) → List (Text × Text) → Bool
are_new before [] = true
are_new before (option ∷ options) = not (is_given option.0 before) && are_new (before ++ option ∷ []) options

-- no name stands twice
abbrev pub are_distinct : List (Text × Text) → Bool
are_distinct options = are_new [] options

-- the words give these options of the table, and none of them twice
pub record AreOptions (table words : List Text) (options : List (Text × Text)) : Type 0 where
  pub gives : Gives table words options
  pub distinct : are_distinct options ≡ true

-- the value of the option of this name
abbrev pub value_in : List (Text × Text) → Text → Option Text
value_in [] name = None
value_in (option ∷ options) name = if bytes_eq option.0 name then Some option.1 else value_in options name
