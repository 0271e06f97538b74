use Rattle.std.proofs.Common.{bytes_eq, ap, sym, ◌∙◌, arith}
use Rattle.std.specs.Option.{option_copied, option_to_list}
use Rattle.indexmap.specs.IndexMap.{get}
use Rattle.module_expand.specs.Duplicates.{values}
use Rattle.module_expand.specs.Times.{first_twice}
use Rattle.module_expand.proofs.TwiceLemmas.{none_copied}
use Rattle.module_expand.proofs.repeated.gives_repeated.Goals as goal

pub returns-then-times-gt0 : goal.returns-then-times-gt0
returns-then-times-gt0 c = λ no there.
    ap (λ o. first_twice (get bytes_eq c.args.counts.now) (values (option_to_list o)))
    (sym (ap option_copied (c.copied.ensures ∙ c.get.ensures.value)))
    ∙ (sym c.repeated_value.ensures ∙ none_copied c.repeated_value.result (sym c.is_some.ensures ∙ no))

pub returns-else-times-gt0 : goal.returns-else-times-gt0
returns-else-times-gt0 c = λ no there. absurd (omega (arith, c.times.ensures, c.if-times-gt0.false, there))
