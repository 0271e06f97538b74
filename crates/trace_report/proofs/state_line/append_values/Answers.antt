use Rattle.std.proofs.Common.{w64, get_or, pos, refl, ap, ◌∙◌, ◌++◌, rules, arith}
use Rattle.std.specs.Prelude.{FitsSigned}
use Rattle.std.proofs.lemmas.Int.{to_z-of_z}
use Rattle.trace_report.specs.Lines.{variable_text}
use Rattle.trace_report.proofs.LineLemmas.{one_more_pair, all_pairs}
use Rattle.trace_report.proofs.state_line.append_values.Goals as goal

pub loop-number-preserved : goal.loop-number-preserved
loop-number-preserved c =
    let text = c.loop-number.text.items in
    let var = c.index-vars-number.result in
    let value = get_or c.args.state.now c.loop-number.number (pos 0) in
    let fits : FitsSigned w64 value = search rules in
    let appended = c.in_ok-append_variable.ensures ∙ ap (λ v. text ++ variable_text var v) (to_z-of_z w64 value fits) in
    one_more_pair variable_text c.args.vars.now c.args.state.now c.loop-number.number var value (pos 0) text
    c.append_variable.new.text.items _ (omega (arith, c.min-number-end.ensures)) c.index-vars-number.is refl
    appended c.loop-number.invariant

pub returns : goal.returns
returns c =
    all_pairs variable_text c.args.vars.now c.args.state.now c.loop-number.number c.loop-number.text.items _
    (omega (arith, c.min-number-end.ensures)) c.loop-number.invariant
