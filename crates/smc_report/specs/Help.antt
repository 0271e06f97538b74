-- The answer to `help`.
use Rattle.std.specs.Prelude.{ℕ, List, [], ◌∷◌, ◌++◌, codes}
use Rattle.std.specs.List.{flat_map}

-- the commands that are known, in the order in which they are listed
abbrev pub known_commands : List (List ℕ)
known_commands = codes "check" ∷ codes "trace" ∷ codes "expand" ∷ codes "make" ∷ codes "help" ∷ []

-- the line that lists the commands, each after a blank
abbrev pub commands_line : List ℕ
commands_line = codes "commands:" ++ (flat_map (λ command. codes " " ++ command) known_commands ++ codes "\n")
