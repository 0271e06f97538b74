-- The limits of models, of properties and of a run.
use Rattle.std.specs.Prelude.{ℕ, ◌^◌}

-- bytes of a model text, and of a property text
abbrev pub most_model_bytes : ℕ
most_model_bytes = 1048576

abbrev pub most_property_bytes : ℕ
most_property_bytes = 65536

-- tokens of a text
abbrev pub most_tokens : ℕ
most_tokens = 262144

-- modules, variables and commands of a model, and branches of a command
abbrev pub most_modules : ℕ
most_modules = 64

abbrev pub most_variables : ℕ
most_variables = 256

abbrev pub most_commands : ℕ
most_commands = 4096

abbrev pub most_branches : ℕ
most_branches = 64

-- nodes of a text's expressions after expansion, and parentheses that are open at a time
abbrev pub most_nodes : ℕ
most_nodes = 65536

abbrev pub most_nesting : ℕ
most_nesting = 64

-- signs `!`, or signs `-`, in an unbroken row, and signs `?` without a `;` between
abbrev pub most_signs : ℕ
most_signs = 64

abbrev pub most_conditionals : ℕ
most_conditionals = 1024

-- the number of the last state that a path formula may speak of
abbrev pub most_horizon : ℕ
most_horizon = 1000000

-- traces of a run, and its workers
abbrev pub most_samples : ℕ
most_samples = 2 ^ 28

abbrev pub most_workers : ℕ
most_workers = 64

-- the least common denominator of a command's weights, and the choices of a state
abbrev pub most_weight_denominator : ℕ
most_weight_denominator = 2 ^ 48

abbrev pub most_choices : ℕ
most_choices = 2 ^ 48

-- blocks of a board, and traces of a block
abbrev pub most_blocks : ℕ
most_blocks = 1024

abbrev pub most_block_traces : ℕ
most_block_traces = 32

-- the denominators of the bound, of the indifference width and of the two errors of a test
abbrev pub most_setting_denominator : ℕ
most_setting_denominator = 2 ^ 31
