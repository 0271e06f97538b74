-- A text that is cut at its first `=` is an option exactly where its name is known and its value is one.
use Rattle.std.proofs.Common.{◌∙◌}
use Rattle.smc_settings.proofs.FormLemmas.{option_parts, no_name}
use Rattle.smc_settings.proofs.options.body_form.Goals as goal
use Rattle.smc_settings.proofs.options.body_form.Goals.{else-is_known-via-then-is_known+else-is_value, else-is_known-via-else-is_known}

pub returns-else-is_known : goal.returns-else-is_known
returns-else-is_known c = (
  λ is.
      let parts = option_parts _ c.args.body.now c.in-Some.name.now c.in-Some.value.now c.requires c.in-Some.ensures.0 c.in-Some.ensures.1 is in
      elim c.else-is_known.branch [
        | else-is_known-via-then-is_known+else-is_value w ↦ cc (w.if-is_value.ensures ∙ parts.1)
        | else-is_known-via-else-is_known w ↦ cc (w.if-is_known.ensures ∙ parts.0)
      ],
  λ is. no_name _ c.args.body.now c.in-Some.name.now c.in-Some.value.now c.requires c.in-Some.ensures.0 is,
)
