use Rattle.std.proofs.Common.{sym, ◌∙◌}
use Rattle.engine_inboxes.proofs.Coming.{take_comes}
use Rattle.engine_inboxes.proofs.inbox.Inbox.take.Goals as goal

pub returns-in-Ok-Some-clause-comes : goal.returns-in-Ok-Some-clause-comes
returns-in-Ok-Some-clause-comes c = take_comes c.args.self.now.waiting.items c.args.self.now.next c.args.at c.index.result.now c.args.brought c.in-Ok-Some.note c.remove.new.self.items c.requires c.index.ensures (sym c.in-Ok-Some.ensures ∙ c.in-Ok-Some.field-0-is) c.remove.ensures.items
