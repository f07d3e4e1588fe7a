use Rattle.vm_parts.proofs.Outboxes.{stays_whole, one_more, none_more}
use Rattle.vm_parts.proofs.outbox.Outbox.write.Goals as goal

pub invariant_of-self : goal.invariant_of-self
invariant_of-self c = stays_whole c.self.inside.stream.items c.append.new.stream.items c.args.message.now c.self.invariant c.append.result c.append.ensures.ok c.append.ensures.whole c.append.ensures.err

pub returns-clause-ok : goal.returns-clause-ok
returns-clause-ok c = rw (← c.self.view_is) (one_more c.self.inside.stream.items c.append.new.stream.items c.args.message.now c.self.invariant c.append.result c.append.ensures.ok c.append.ensures.whole)

pub returns-clause-err : goal.returns-clause-err
returns-clause-err c = rw (← c.self.view_is) (none_more c.self.inside.stream.items c.append.new.stream.items c.args.message.now c.self.invariant c.append.result c.append.ensures.err)
