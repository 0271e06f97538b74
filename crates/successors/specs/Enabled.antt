-- The enabled commands, by the bits of one lane: bit `lane` of byte n says whether command n is enabled.
use Rattle.std.specs.Prelude.{◌≡◌, ℕ, suc, ◌/◌, ◌%◌, ◌^◌, ◌==◌, List, [], ◌∷◌, length, Bool, Ok, if◌then◌else◌, slice_index}
use Rattle.chain_model.specs.declared.chain.Chain.{Chain}
use Rattle.chain_model.specs.States.{State}
use Rattle.chain_model.specs.Choices.{enabled_from}
use Rattle.successors.specs.declared.found.Found.{Found}
use Rattle.successors.specs.declared.found.Found.TheVariants as f

-- a byte has the bit of a lane
abbrev pub is_set : ℕ → ℕ → Bool
is_set lane byte = (byte / 2 ^ lane % 2) == 1

-- the byte of a number has the bit of a lane
abbrev pub is_enabled : ℕ → List ℕ → ℕ → Bool
is_enabled lane bytes number = is_set lane (slice_index bytes number)

-- the numbers of the bytes that have the bit of a lane, where the first has this number
abbrev pub numbers_with : ℕ → ℕ → List ℕ → List ℕ
numbers_with lane number [] = []
numbers_with lane number (byte ∷ bytes) =
    if is_set lane byte then number ∷ numbers_with lane (suc number) bytes else numbers_with lane (suc number) bytes

-- there is a byte for each command, and the bits of a lane say which commands are enabled in a state
pub record AreGuards (chain : Chain) (state : State) (lane : ℕ) (bytes : List ℕ) : Type 0 where
  pub long : length bytes ≡ length chain.commands
  pub enabled : enabled_from 0 state chain.commands ≡ Ok (numbers_with lane 0 bytes)

-- what is found of enabled commands: there is none, there is this one alone, or nothing more is said
abbrev pub IsFound : Found → List ℕ → Type 0
IsFound f.Nothing numbers = numbers ≡ []
IsFound (f.One number) numbers = numbers ≡ number ∷ []
IsFound f.Several numbers = Unit
