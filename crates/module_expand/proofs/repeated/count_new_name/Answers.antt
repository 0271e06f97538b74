use Rattle.std.proofs.Common.{ℕ, bytes_eq, ap, ◌∙◌, subst}
use Rattle.std.specs.Option.{option_copied}
use Rattle.std.proofs.lemmas.Result.{on_ok_weaker}
use Rattle.indexmap.specs.IndexMap.{get}
use Rattle.module_expand.specs.declared.declarations.Kind.TheVariants as kind
use Rattle.module_expand.specs.Times.{AddsTimes}
use Rattle.module_expand.proofs.FirstLemmas.{copied_or}
use Rattle.module_expand.proofs.repeated.count_new_name.Goals as goal

pub returns-clause-named : goal.returns-clause-named
returns-clause-named c =
    on_ok_weaker c.put_first.result (λ made n. ap option_copied (made n)
    ∙ copied_or (get bytes_eq c.args.names.now n) (bytes_eq c.args.left.now n) _) c.put_first.ensures

pub returns-clause-counted : goal.returns-clause-counted
returns-clause-counted c =
    on_ok_weaker c.put_first.result (λ made. subst (λ (more : ℕ). AddsTimes (get bytes_eq c.args.counts.now)
    (get bytes_eq c.count.new.counts) (kind.Value, c.args.right.now) more) c.times_unless_named-more.ensures
    c.in_ok-count.ensures) c.put_first.ensures
