-- The commands of a chain by what they may be part of, and the choices that those of them that are enabled make.
use Rattle.std.specs.Prelude.{◌≡◌, ℕ, List, [], ◌∷◌, ◌++◌, length, map, filter, flat_map, Bool}
use Rattle.std.specs.List.{enumerate_from, range_with_len}
use Rattle.chain_model.specs.declared.chain.Chain.{Chain}
use Rattle.chain_model.specs.Chain.{is_unlabelled}
use Rattle.chain_model.specs.Choices.{combinations, command_is, parts_of}

-- the numbers of all commands
abbrev pub numbers_of : Chain → List ℕ
numbers_of chain = range_with_len 0 (length chain.commands)

-- the commands without an action, and for each action and each module that takes part in it its commands with it
pub record IsPartition (chain : Chain) (alone : List ℕ) (joint : List (List (List ℕ))) : Type 0 where
  pub singles : alone ≡ filter (command_is is_unlabelled chain.commands) (numbers_of chain)
  pub actions : joint ≡ map (λ action. parts_of chain.commands (numbers_of chain) action.0 action.1.takes) (enumerate_from 0 chain.actions)

-- the choices of an action, each as its commands: one enabled command of each of the lists
abbrev pub joint_lists : (ℕ → Bool) → List (List ℕ) → List (List ℕ)
joint_lists enabled lists = combinations (map (filter enabled) lists)

-- the choices, each as its commands: one enabled command without an action, or an action's
abbrev pub choice_lists : (ℕ → Bool) → List ℕ → List (List (List ℕ)) → List (List ℕ)
choice_lists enabled singles actions = map (λ number. number ∷ []) (filter enabled singles) ++ flat_map (joint_lists enabled) actions
