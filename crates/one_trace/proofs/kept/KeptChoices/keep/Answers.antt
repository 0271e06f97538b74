-- The choices that are kept are those of the state.
use Rattle.std.proofs.Common.{rules, arith, ◌≡◌, ◌++◌}
use Rattle.one_trace.proofs.KeptLemmas.{choices_kept}
use Rattle.one_trace.proofs.kept.KeptChoices.keep.Goals as goal

pub returns : goal.returns
returns c = λ job states state are at choices.
    let longer : c.extend_from_slice.new.self.items ≡ c.args.self.now.commands.items ++ c.args.chosen.now =
    search (rules, c.extend_from_slice.ensures.items, c.unwrap.ensures, c.extend_from_slice.ensures.succeeds) in
    choices_kept job states c.args.self.now.spans.items c.args.self.now.commands.items c.extend_from_slice.new.self.items c.args.number state
    c.args.chosen.now _ longer (omega (arith, c.len-from.ensures)) at choices are
