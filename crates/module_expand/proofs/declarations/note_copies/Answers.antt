use Rattle.module_expand.proofs.GroupLemmas.{stated_more}
use Rattle.module_expand.proofs.declarations.note_copies.Goals as goal

pub returns : goal.returns
returns c = stated_more c.args.all.now.items c.push.new.self.items _ c.in_ok-push.ensures.items
