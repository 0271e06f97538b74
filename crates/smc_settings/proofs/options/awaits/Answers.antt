-- Options go on after an option, and a name with its value.
use Rattle.smc_settings.proofs.FormLemmas.{after_option, after_name}
use Rattle.smc_settings.proofs.options.awaits.Goals as goal

pub returns-in-Option : goal.returns-in-Option
returns-in-Option c rest = rw c.if-waits.false (after_option _ c.args.word.now rest c.requires c.in-Option.ensures)

pub returns-in-Name : goal.returns-in-Name
returns-in-Name c rest = rw c.if-waits.false (after_name _ c.args.word.now rest c.requires c.in-Name.ensures)
