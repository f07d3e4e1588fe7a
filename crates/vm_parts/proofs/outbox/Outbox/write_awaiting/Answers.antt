use Rattle.journal_protocol.specs.Awaiting.{awaiting_id}
use Rattle.journal_protocol.specs.Message.TheVariants as message
use Rattle.vm_parts.proofs.Outboxes.{stays_whole, one_more, none_more}
use Rattle.vm_parts.proofs.outbox.Outbox.write_awaiting.Goals as goal

pub invariant_of-self : goal.invariant_of-self
invariant_of-self c = stays_whole c.self.inside.stream.items c.append_awaiting.new.stream.items (message.AwaitingOn (awaiting_id c.args.id.now c.args.other)) c.self.invariant c.append_awaiting.result c.append_awaiting.ensures.ok c.append_awaiting.ensures.whole c.append_awaiting.ensures.err

pub returns-clause-ok : goal.returns-clause-ok
returns-clause-ok c = rw (← c.self.view_is) (one_more c.self.inside.stream.items c.append_awaiting.new.stream.items (message.AwaitingOn (awaiting_id c.args.id.now c.args.other)) c.self.invariant c.append_awaiting.result c.append_awaiting.ensures.ok c.append_awaiting.ensures.whole)

pub returns-clause-err : goal.returns-clause-err
returns-clause-err c = rw (← c.self.view_is) (none_more c.self.inside.stream.items c.append_awaiting.new.stream.items (message.AwaitingOn (awaiting_id c.args.id.now c.args.other)) c.self.invariant c.append_awaiting.result c.append_awaiting.ensures.err)
