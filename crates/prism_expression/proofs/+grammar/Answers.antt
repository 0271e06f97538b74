-- Each answer of a function is put together from those of the functions that it calls.
use Rattle.std.proofs.Common.{sym, ◌∙◌, subst}
use Rattle.prism_syntax.specs.declared.tokens.Kind.TheVariants as k
use Rattle.prism_syntax.specs.declared.precedence.Precedence.TheVariants as rule
use Rattle.prism_syntax.specs.Expressions.{Derives}
use Rattle.prism_reading.specs.Reading.{Anything, Parses, Fails}
use Rattle.prism_reading.specs.Sequences.{Ended}
use Rattle.prism_expression.specs.Longest.{IsLongest}
use Rattle.prism_expression.specs.Parts.{IsBranches, IsArguments, IsCalled}
use Rattle.prism_expression.proofs.SignLemmas.{signed_found, signed_missing}
use Rattle.prism_expression.proofs.AnswerLemmas.{raised, told_left, answers_more, chain_fails, chain_begins, chain_goes_on, chain_ends, chain_stops, until_fails, until_unended, until_ended, branches_unasked, branches_no_first, branches_no_second, branches_whole, conditional_fails, conditional_whole, conditional_alone, arguments_fail, arguments_begin, arguments_go_on, arguments_stop, arguments_unclosed, arguments_close, called_unopened, called_parses, called_fails, paren_fails, paren_whole, primary_nothing, leaf_whole, leaf_fails, call_whole, name_whole, word_fails}
use Rattle.prism_expression.proofs.+grammar.Goals as goal

-- ---- chains

pub chains::chain-returns-in_err-first : goal.chains::chain-returns-in_err-first
chains::chain-returns-in_err-first t c =
    raised (λ r. IsLongest (Derives c.args.labels c.args.level) c.args.tokens.now r.tree r.rest.now r.left) (Fails (Derives c.args.labels c.inner.result) Anything c.args.tokens.now)
    c.from_residual.result c.in_err-first.field-0.0 c.from_residual.ensures.1 (chain_fails c.requires c.inner.ensures) c.in_err-first.ensures

pub chains::chain-loop-operator-init : goal.chains::chain-loop-operator-init
chains::chain-loop-operator-init t c = chain_begins c.requires c.inner.ensures c.new-operands.ensures c.new-operators.ensures c.in_ok-first.ensures

pub chains::chain-loop-operator-preserved : goal.chains::chain-loop-operator-preserved
chains::chain-loop-operator-preserved t c =
    chain_goes_on c.requires c.inner-in-Some.ensures c.in_ok-push-in-Ok.ensures.ok c.in_ok-push-in-Ok-2.ensures.ok c.min-left.ensures c.loop-operator.invariant c.in-Some.ensures c.in-Ok.ensures

pub chains::chain-returns-in-Err-NoText : goal.chains::chain-returns-in-Err-NoText
chains::chain-returns-in-Err-NoText t c =
    chain_stops c.requires c.inner-in-Some.ensures c.in_ok-tree-in-Err-NoText.ensures (cc (c.min-left-in-Err-NoText.ensures, c.in-Err-NoText.wrong-is)) c.loop-operator.invariant c.in-Some.ensures
    (told_left (Fails (Derives c.args.labels c.inner-in-Some.result) Anything c.in-Some.after.now) c.in-Err-NoText.field-0 c.in-Err-NoText.wrong c.in-Err-NoText.field-0-is c.in-Err-NoText.ensures)

pub chains::chain-returns : goal.chains::chain-returns
chains::chain-returns t c = chain_ends c.requires c.in_ok-tree.ensures c.loop-operator.invariant c.in_default.ensures

-- ---- signs

pub signs::signed-returns-in_err-operand : goal.signs::signed-returns-in_err-operand
signs::signed-returns-in_err-operand t c =
    raised (λ r. IsLongest (Derives c.args.labels c.args.level) c.args.tokens.now r.tree r.rest.now r.left) (Fails (Derives c.args.labels c.inner.result) Anything c.accept_signs-signs.result.1.now)
    c.from_residual.result c.in_err-operand.field-0.0 c.from_residual.ensures.1 (signed_missing c.requires c.inner.ensures c.accept_signs-signs.ensures) c.in_err-operand.ensures

pub signs::signed-returns : goal.signs::signed-returns
signs::signed-returns t c = signed_found c.requires c.inner.ensures c.in_ok-tree.ensures c.accept_signs-signs.ensures c.in_ok-operand.ensures

-- ---- conditionals

pub conditionals::branches-returns-in_default : goal.conditionals::branches-returns-in_default
conditionals::branches-returns-in_default t c = branches_unasked c.args.tokens.now c.in_default.ensures

pub conditionals::branches-returns-in_err-then : goal.conditionals::branches-returns-in_err-then
conditionals::branches-returns-in_err-then t c =
    raised (λ r. IsLongest (IsBranches c.args.labels) c.args.tokens.now (r.then, r.other) r.rest.now r.left) (Fails (Ended (Derives c.args.labels rule.Implication) k.Colon) Anything c.in-Some.inside.now)
    c.from_residual.result c.in_err-then.field-0.0 c.from_residual.ensures.1 (branches_no_first c.in-Some.ensures) c.in_err-then.ensures

pub conditionals::branches-returns-in_err-other : goal.conditionals::branches-returns-in_err-other
conditionals::branches-returns-in_err-other t c =
    raised (λ r. IsLongest (IsBranches c.args.labels) c.args.tokens.now (r.then, r.other) r.rest.now r.left) (Fails (Derives c.args.labels rule.Conditional) Anything c.in_ok-then.outside.now)
    c.from_residual-in_err-other.result c.in_err-other.field-0.0 c.from_residual-in_err-other.ensures.1 (branches_no_second c.in-Some.ensures c.in_ok-then.ensures) c.in_err-other.ensures

pub conditionals::branches-returns : goal.conditionals::branches-returns
conditionals::branches-returns t c = branches_whole c.in-Some.ensures c.in_ok-then.ensures c.in_ok-other.ensures

pub conditionals::conditional-returns-in_err-condition : goal.conditionals::conditional-returns-in_err-condition
conditionals::conditional-returns-in_err-condition t c =
    raised (λ r. IsLongest (Derives c.args.labels rule.Conditional) c.args.tokens.now r.tree r.rest.now r.left) (Fails (Derives c.args.labels rule.Implication) Anything c.args.tokens.now)
    c.from_residual.result c.in_err-condition.field-0.0 c.from_residual.ensures.1 conditional_fails c.in_err-condition.ensures

pub conditionals::conditional-returns-in-Ok : goal.conditionals::conditional-returns-in-Ok
conditionals::conditional-returns-in-Ok t c = conditional_whole c.in_ok-chosen-in-Ok.ensures c.min.ensures c.in_ok-condition.ensures c.in-Ok.ensures

pub conditionals::conditional-returns-in-Err-NoText : goal.conditionals::conditional-returns-in-Err-NoText
conditionals::conditional-returns-in-Err-NoText t c =
    conditional_alone (cc (c.min-in-Err-NoText.ensures, c.in-Err-NoText.left-is)) c.in_ok-condition.ensures
    (told_left (Fails (IsBranches c.args.labels) Anything c.in_ok-condition.condition.rest.now) c.in-Err-NoText.field-0 c.in-Err-NoText.left c.in-Err-NoText.field-0-is c.in-Err-NoText.ensures)

-- ---- a text up to a token

pub parsing::expression_until-returns-in_err-longest : goal.parsing::expression_until-returns-in_err-longest
parsing::expression_until-returns-in_err-longest t c =
    raised (λ r. Parses (Ended (Derives c.args.labels c.args.level) c.args.end.now) Anything c.args.tokens.now r.0 r.1.now _) (Fails (Derives c.args.labels c.args.level) Anything c.args.tokens.now)
    c.from_residual.result c.in_err-longest.field-0.0 c.from_residual.ensures.1 until_fails c.in_err-longest.ensures

pub parsing::expression_until-returns-in-Some : goal.parsing::expression_until-returns-in-Some
parsing::expression_until-returns-in-Some t c = until_ended c.requires c.in_ok-longest.ensures c.in-Some.ensures

pub parsing::expression_until-returns : goal.parsing::expression_until-returns
parsing::expression_until-returns t c = until_unended c.requires c.in_ok-longest.ensures c.in-None.ensures

-- ---- calls

pub calls::arguments-returns-in_err-first : goal.calls::arguments-returns-in_err-first
calls::arguments-returns-in_err-first t c =
    raised (λ r. Parses (IsArguments c.args.labels c.args.function) Anything c.args.tokens.now r.0 r.1.now _) (Fails (Derives c.args.labels rule.Conditional) Anything c.args.tokens.now)
    c.from_residual.result c.in_err-first.field-0.0 c.from_residual.ensures.1 arguments_fail c.in_err-first.ensures

pub calls::arguments-loop-after-init : goal.calls::arguments-loop-after-init
calls::arguments-loop-after-init t c = arguments_begin c.args.function c.new-more.ensures c.in_ok-first.ensures

pub calls::arguments-loop-after-preserved : goal.calls::arguments-loop-after-preserved
calls::arguments-loop-after-preserved t c = arguments_go_on c.len.ensures c.in_ok-push-in-Ok.ensures.ok c.min-left.ensures c.loop-after.invariant c.in-Some.ensures c.in-Ok.ensures

pub calls::arguments-returns-in-Err-NoText : goal.calls::arguments-returns-in-Err-NoText
calls::arguments-returns-in-Err-NoText t c =
    arguments_stop c.len.ensures (cc (c.min.ensures, c.in-Err-NoText.wrong-is)) c.loop-after.invariant c.in-Some.ensures
    (told_left (Fails (Derives c.args.labels rule.Conditional) Anything c.in-Some.after.now) c.in-Err-NoText.field-0 c.in-Err-NoText.wrong c.in-Err-NoText.field-0-is c.in-Err-NoText.ensures)

pub calls::arguments-returns-in-Some-accept_close : goal.calls::arguments-returns-in-Some-accept_close
calls::arguments-returns-in-Some-accept_close t c = arguments_close c.args.function c.len-2.ensures c.in_ok-preceded-in-Some-accept_close.ensures c.loop-after.invariant c.in-Some-accept_close.ensures

pub calls::arguments-returns : goal.calls::arguments-returns
calls::arguments-returns t c = arguments_unclosed c.args.function c.loop-after.rest.now c.len.ensures c.len-2.ensures c.loop-after.invariant c.in_default.ensures c.in-None.ensures

pub calls::call-returns-in-Some : goal.calls::call-returns-in-Some
calls::call-returns-in-Some t c = answers_more c.arguments.result (λ value told. called_parses c.in-Some.ensures told) (λ left fails. called_fails c.in-Some.ensures left fails) c.arguments.ensures

pub calls::call-returns-in-None : goal.calls::call-returns-in-None
calls::call-returns-in-None t c = called_unopened c.args.tokens.now c.in-None.ensures

-- ---- primaries

pub primaries::primary-returns-in_err-tree : goal.primaries::primary-returns-in_err-tree
primaries::primary-returns-in_err-tree t c =
    raised (λ r. IsLongest (Derives c.args.labels rule.Primary) c.args.tokens.now r.tree r.rest.now r.left) (Fails (Ended (Derives c.args.labels rule.Conditional) k.Close) Anything c.in-Some.inside.now)
    c.from_residual.result c.in_err-tree.field-0.0 c.from_residual.ensures.1 (paren_fails c.in-Some.ensures) c.in_err-tree.ensures

pub primaries::primary-returns-in-Some : goal.primaries::primary-returns-in-Some
primaries::primary-returns-in-Some t c = paren_whole c.in_ok-new.ensures c.in-Some.ensures c.in_ok-tree.ensures

pub primaries::primary-returns-in_default-split_first : goal.primaries::primary-returns-in_default-split_first
primaries::primary-returns-in_default-split_first t c = primary_nothing c.args.tokens.now c.in_default-split_first.ensures.cases

pub primaries::primary-returns-in-Some-2 : goal.primaries::primary-returns-in-Some-2
primaries::primary-returns-in-Some-2 t c = leaf_whole c.in-Some-split_first.first.now c.in-Some-split_first.ensures.cases.0 (sym c.in_ok-tree-2.ensures ∙ c.in-Some-2.is) (sym c.function.ensures ∙ c.in_default-function.is)

pub primaries::primary-returns-in-None : goal.primaries::primary-returns-in-None
primaries::primary-returns-in-None t c = leaf_fails c.in-Some-split_first.first.now c.in-Some-split_first.ensures.cases.0 c.in_default.ensures (sym c.in_ok-tree-2.ensures ∙ c.in-None.is) (sym c.function.ensures ∙ c.in_default-function.is)

pub primaries::primary-returns-in-Ok : goal.primaries::primary-returns-in-Ok
primaries::primary-returns-in-Ok t c = call_whole c.in-Some-split_first.first.now c.in-Some-split_first.ensures.cases.0 (sym c.in-Some-function.ensures) c.in-Ok.ensures

pub primaries::primary-returns-in-Some-3 : goal.primaries::primary-returns-in-Some-3
primaries::primary-returns-in-Some-3 t c =
    subst (λ n. IsLongest (Derives c.args.labels rule.Primary) c.args.tokens.now c.in-Some-3.tree c.in-Some-split_first.rest.now n) (sym c.in-Err-NoText.left-is)
    (name_whole c.in-Some-split_first.first.now c.in-Some-split_first.ensures.cases.0 (sym c.in-Some-function.ensures) (sym c.in_ok-tree-in-Err-NoText.ensures ∙ c.in-Some-3.is)
    (told_left (Fails (IsCalled c.args.labels c.in-Some-function.function) Anything c.in-Some-split_first.rest.now) c.in-Err-NoText.field-0 c.in-Err-NoText.left c.in-Err-NoText.field-0-is c.in-Err-NoText.ensures))

pub primaries::primary-returns-in-None-2 : goal.primaries::primary-returns-in-None-2
primaries::primary-returns-in-None-2 t c =
    subst (λ n. Fails (Derives c.args.labels rule.Primary) Anything c.args.tokens.now n) (sym c.in-Err-NoText.left-is)
    (word_fails c.in-Some-split_first.first.now c.in-Some-split_first.ensures.cases.0 (sym c.in-Some-function.ensures) (sym c.in_ok-tree-in-Err-NoText.ensures ∙ c.in-None-2.is)
    (told_left (Fails (IsCalled c.args.labels c.in-Some-function.function) Anything c.in-Some-split_first.rest.now) c.in-Err-NoText.field-0 c.in-Err-NoText.left c.in-Err-NoText.field-0-is c.in-Err-NoText.ensures))
