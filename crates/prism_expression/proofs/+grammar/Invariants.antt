use Rattle.std.proofs.Common.{◌+◌, ◌-◌, ◌*◌, length}
use Rattle.prism_syntax.specs.Tokens.{kinds}
use Rattle.prism_expression.specs.Follow.{rank}
use Rattle.prism_expression.proofs.FoundLemmas.{Cut}
use Rattle.prism_expression.proofs.ChainLemmas.{ChainSoFar}
use Rattle.prism_expression.proofs.CallLemmas.{ArgumentsSoFar}
use Rattle.prism_expression.proofs.+grammar.Given as goal

-- each call parses fewer tokens, or the same at a level that binds more

abbrev pub decreases-parsing::parse_longest : goal.decreases-parsing::parse_longest
decreases-parsing::parse_longest l = 32 * length l.tokens.now + (26 - 2 * rank l.level)

abbrev pub decreases-parsing::expression_until : goal.decreases-parsing::expression_until
decreases-parsing::expression_until l = 32 * length l.tokens.now + 27

abbrev pub decreases-chains::chain : goal.decreases-chains::chain
decreases-chains::chain l = 32 * length l.tokens.now + (25 - 2 * rank l.level)

abbrev pub decreases-signs::signed : goal.decreases-signs::signed
decreases-signs::signed l = 32 * length l.tokens.now + (25 - 2 * rank l.level)

abbrev pub decreases-conditionals::conditional : goal.decreases-conditionals::conditional
decreases-conditionals::conditional l = 32 * length l.tokens.now + 25

abbrev pub decreases-conditionals::branches : goal.decreases-conditionals::branches
decreases-conditionals::branches l = 32 * length l.tokens.now

abbrev pub decreases-primaries::primary : goal.decreases-primaries::primary
decreases-primaries::primary l = 32 * length l.tokens.now + 3

abbrev pub decreases-calls::call : goal.decreases-calls::call
decreases-calls::call l = 32 * length l.tokens.now + 28

abbrev pub decreases-calls::arguments : goal.decreases-calls::arguments
decreases-calls::arguments l = 32 * length l.tokens.now + 27

-- the operands so far
abbrev pub invariant-chains::chain-loop-operator : goal.invariant-chains::chain-loop-operator
invariant-chains::chain-loop-operator l = ChainSoFar l.labels l.level (kinds l.tokens) (kinds l.rest) l.left l.first.tree l.operands l.operators × Cut l.tokens l.rest

abbrev pub decreases-chains::chain-loop-operator : goal.decreases-chains::chain-loop-operator
decreases-chains::chain-loop-operator l = length l.rest

-- the arguments so far
abbrev pub invariant-calls::arguments-loop-after : goal.invariant-calls::arguments-loop-after
invariant-calls::arguments-loop-after l = ArgumentsSoFar l.labels l.function (kinds l.tokens) (kinds l.rest) l.left l.first.tree l.more × Cut l.tokens l.rest

abbrev pub decreases-calls::arguments-loop-after : goal.decreases-calls::arguments-loop-after
decreases-calls::arguments-loop-after l = length l.rest
