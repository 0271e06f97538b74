-- What compiled nodes give in a state.
use Rattle.std.specs.Prelude.{pos, neg_ℤ, ◌+ℤ◌, map, not, Ok, if◌then◌else◌}
use Rattle.std.specs.List.{list_all, list_any, count_by}
use Rattle.smc_num.specs.Fraction.{fraction_of}
use Rattle.chain_model.specs.declared.values.Value.TheVariants as v
use Rattle.chain_model.specs.declared.values.LabelValues.{LabelValues}
use Rattle.chain_model.specs.Results.{◌>>=◌}
use Rattle.chain_model.specs.States.{State}
use Rattle.chain_model.specs.Values.{Valued, as_value, apply_to_number, level_value, call_value, deadlock_value}
use Rattle.guard_code.specs.declared.nodes.Node.{Node}
use Rattle.guard_code.specs.declared.nodes.Node.TheOpen.{Node-F}
use Rattle.guard_code.specs.declared.nodes.Node.TheOpen as n
use Rattle.guard_code.specs.declared.nodes.Node.TheFolds.{fold-Node}
use Rattle.guard_code.specs.Tests.{number_in, test_holds}
use Rattle.guard_code.specs.Wholes.{truth_of, stored_of, as_truth, as_whole, wholes_result, extreme_result, remainder_result, quotient_value, compare_result, junction_result, choice_value}

-- the value of one node by those of its parts: plain tests and whole numbers first, then the forms of the language
abbrev pub node_step : LabelValues → State → Node-F Valued → Valued
node_step labels state (n.Lit a) = Ok a
node_step labels state (n.Number x) = as_whole (Ok (number_in state x))
node_step labels state (n.Shifted x c) = as_whole (Ok (number_in state x +ℤ c))
node_step labels state (n.Plain test) = Ok (v.Bool (test_holds state test))
node_step labels state (n.PlainIf test first second) = as_whole (Ok (if test_holds state test then first else second))
node_step labels state (n.Every tests) = Ok (v.Bool (list_all (test_holds state) tests))
node_step labels state (n.Any tests) = Ok (v.Bool (list_any (test_holds state) tests))
node_step labels state (n.Count tests) = as_whole (Ok (pos (count_by (test_holds state) tests)))
node_step labels state (n.Compare op parts) = as_truth (compare_result op (map stored_of parts))
node_step labels state (n.Arithmetic parts ops) = as_whole (wholes_result (map stored_of parts) ops)
node_step labels state (n.Extreme func parts) = as_whole (extreme_result func (map stored_of parts))
node_step labels state (n.Remainder parts) = as_whole (remainder_result (map stored_of parts))
node_step labels state (n.Quotient parts) = quotient_value (map stored_of parts)
node_step labels state (n.Junction deciding parts) = as_truth (junction_result deciding (map truth_of parts))
node_step labels state (n.Not x) = as_truth (truth_of x >>= λ b. Ok (not b))
node_step labels state (n.If condition first second) = choice_value (truth_of condition) first second
node_step labels state (n.Minus x) = x >>= apply_to_number (λ a. as_value (fraction_of (neg_ℤ a.num) (pos a.den)))
node_step labels state (n.Call func parts) = call_value func parts
node_step labels state (n.Level parts ops) = level_value parts ops
node_step labels state n.IsInit = Ok (v.Bool labels.init)
node_step labels state n.IsDeadlock = deadlock_value labels

-- the value of a node, where the built-in labels say this
abbrev pub node_value : LabelValues → State → Node → Valued
node_value labels state = fold-Node Valued (node_step labels state)
