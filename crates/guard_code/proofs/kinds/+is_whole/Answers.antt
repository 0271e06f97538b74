-- The kinds of nodes that give whole numbers alone.
use Rattle.std.proofs.Common.{◌≡◌, refl, subst, rules}
use Rattle.guard_code.specs.declared.nodes.Node.TheVariants as n
use Rattle.guard_code.specs.Means.{IsWhole}
use Rattle.guard_code.proofs.JoinLemmas.{whole_of_number, whole_of_shifted, whole_of_arithmetic, whole_of_extreme, whole_of_literal, whole_of_remainder, whole_of_plain_if, whole_of_count, whole_of_if}
use Rattle.guard_code.proofs.kinds.+is_whole.Goals as goal

pub returns-in-Number : goal.returns-in-Number
returns-in-Number t c = λ holds.
    let is : c.args.node.now ≡ n.Number c.in-Number._variable = search rules in
    whole_of_number c.args.node.now c.in-Number._variable is

pub returns-in-Shifted : goal.returns-in-Shifted
returns-in-Shifted t c = λ holds.
    let is : c.args.node.now ≡ n.Shifted c.in-Shifted._variable c.in-Shifted._by = search rules in
    whole_of_shifted c.args.node.now c.in-Shifted._variable c.in-Shifted._by is

pub returns-in-Arithmetic : goal.returns-in-Arithmetic
returns-in-Arithmetic t c = λ holds.
    let is : c.args.node.now ≡ n.Arithmetic c.in-Arithmetic._parts c.in-Arithmetic._ops = search rules in
    whole_of_arithmetic c.args.node.now c.in-Arithmetic._parts c.in-Arithmetic._ops is

pub returns-in-Extreme : goal.returns-in-Extreme
returns-in-Extreme t c = λ holds.
    let is : c.args.node.now ≡ n.Extreme c.in-Extreme._func c.in-Extreme._parts = search rules in
    whole_of_extreme c.args.node.now c.in-Extreme._func c.in-Extreme._parts is

pub returns-in-Lit : goal.returns-in-Lit
returns-in-Lit t c = λ holds.
    let is : c.args.node.now ≡ n.Lit c.in-Lit.value = search rules in
    whole_of_literal c.args.node.now c.in-Lit.value is (c.is_whole_literal.ensures holds)

pub returns-in-Remainder : goal.returns-in-Remainder
returns-in-Remainder t c = λ holds.
    let is : c.args.node.now ≡ n.Remainder c.in-Remainder._parts = search rules in
    whole_of_remainder c.args.node.now c.in-Remainder._parts is

pub returns-in-PlainIf : goal.returns-in-PlainIf
returns-in-PlainIf t c = λ holds.
    let is : c.args.node.now ≡ n.PlainIf c.in-PlainIf._test c.in-PlainIf._first c.in-PlainIf._second = search rules in
    whole_of_plain_if c.args.node.now c.in-PlainIf._test c.in-PlainIf._first c.in-PlainIf._second is

pub returns-in-Count : goal.returns-in-Count
returns-in-Count t c = λ holds.
    let is : c.args.node.now ≡ n.Count c.in-Count._tests = search rules in
    whole_of_count c.args.node.now c.in-Count._tests is

pub returns-then-is_whole : goal.returns-then-is_whole
returns-then-is_whole t c = λ holds.
    let is : c.args.node.now ≡ n.If c.in-If._condition c.in-If.first c.in-If.second = search rules in
    whole_of_if c.args.node.now c.in-If._condition c.in-If.first c.in-If.second is
    (subst IsWhole c.get.ensures (c.if-is_whole.ensures refl))
    (subst IsWhole c.get-then-is_whole.ensures (c.is_whole-then-is_whole.ensures holds))
