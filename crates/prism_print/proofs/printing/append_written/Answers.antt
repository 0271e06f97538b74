use Rattle.std.proofs.Common.{◌∙◌, ap, ◌++◌}
use Rattle.prism_print.proofs.TextLemmas.{module_appended}
use Rattle.prism_print.proofs.printing.append_written.Goals as goal

pub returns : goal.returns
returns c =
    module_appended c.args.name.now c.args.vars.now c.args.commands.now c.args.text.now.items
    c.extend_from_slice.new.self.items c.extend_from_slice-2.new.self.items c.extend_from_slice-3.new.self.items
    c.append_variables.new.text.items c.append_commands.new.text.items c.extend_from_slice-4.new.self.items
    c.extend_from_slice-4.result c.in_ok-extend_from_slice.ensures.items
    (c.in_ok-extend_from_slice-2.ensures.items ∙ ap (λ name. c.extend_from_slice.new.self.items ++ name) c.bytes.ensures)
    c.in_ok-extend_from_slice-3.ensures.items c.in_ok-append_variables.ensures c.in_ok-append_commands.ensures
    c.extend_from_slice-4.ensures.items
