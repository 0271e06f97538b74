-- Guards that have a truth value in every state, and the choices that are read off them.
use Rattle.std.specs.Prelude.{◌≡◌, ℕ, List, [], ◌∷◌, length, All, IsOk, Bool, false, Ok, Err, slice_get, take}
use Rattle.std.specs.List.{list_all, list_any}
use Rattle.std.specs.Option.{option_map_or}
use Rattle.chain_model.specs.declared.chain.Chain.{Chain}
use Rattle.chain_model.specs.States.{State}
use Rattle.chain_model.specs.Choices.{no_labels, choices_of}
use Rattle.guard_code.specs.declared.nodes.Node.{Node}
use Rattle.guard_code.specs.Wholes.{TruthResult, truth_of}
use Rattle.guard_code.specs.Nodes.{node_value}
use Rattle.successors.specs.declared.choosing.Choices.{Choices}
use Rattle.successors.specs.declared.choosing.Choices.TheVariants as c

-- what a guard's node says in a state: a truth value, or a fault
abbrev pub told_by : State → Node → TruthResult
told_by state node = truth_of (node_value no_labels state node)

-- each of some nodes has a truth value in every state
pub record HaveTruth (nodes : List Node) : Type 0 where
  pub told : (state : State) → All (λ node. IsOk (told_by state node)) nodes

-- a truth value is true; a fault is not
abbrev pub is_true : TruthResult → Bool
is_true (Ok holds) = holds
is_true (Err fault) = false

-- the guard of a number is there and holds in a state
abbrev pub holds_at : List Node → State → ℕ → Bool
holds_at nodes state number = option_map_or (λ node. is_true (told_by state node)) (slice_get nodes number) false

-- so many numbers there are, and where there is one alone, it is this
pub record IsCounted (count last : ℕ) (numbers : List ℕ) : Type 0 where
  pub many : count ≡ length numbers
  pub one : count ≡ 1 → numbers ≡ last ∷ []

-- of each of these lists some command is enabled
abbrev pub is_possible : (ℕ → Bool) → List (List ℕ) → Bool
is_possible enabled lists = list_all (list_any enabled) lists

-- what is told of choices, each as its commands, is so: there is none, or one alone, which so many of the chosen commands are
abbrev pub AreTold : List (List ℕ) → Choices → List ℕ → Type 0
AreTold lists c.Nothing chosen = lists ≡ []
AreTold lists (c.One size) chosen = lists ≡ take size chosen ∷ []
AreTold lists c.Several chosen = Unit

-- where one choice is told, the state has a choice
abbrev pub HasChoice : Chain → State → Choices → Type 0
HasChoice chain state c.Nothing = Unit
HasChoice chain state (c.One size) = (choices_of chain state ≡ Ok []) → ⊥
HasChoice chain state c.Several = Unit
