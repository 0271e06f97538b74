use Rattle.prism_print.proofs.TextLemmas.{flat_appended}
use Rattle.prism_print.proofs.printing.append_flat.Goals as goal

pub returns : goal.returns
returns c =
    flat_appended c.args.flat.now c.args.text.now.items c.extend_from_slice.new.self.items c.append_consts.new.text.items
    c.append_globals.new.text.items c.append_formulas.new.text.items c.append_modules.new.text.items
    c.append_labels.new.text.items c.as_slice.result.now c.as_slice-2.result.now c.as_slice-3.result.now
    c.as_slice-4.result.now c.as_slice-5.result.now c.append_labels.result c.in_ok-extend_from_slice.ensures.items
    c.in_ok-append_consts.ensures c.in_ok-append_globals.ensures c.in_ok-append_formulas.ensures
    c.in_ok-append_modules.ensures c.append_labels.ensures c.as_slice.ensures c.as_slice-2.ensures c.as_slice-3.ensures
    c.as_slice-4.ensures c.as_slice-5.ensures
