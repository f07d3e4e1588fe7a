use Rattle.world_rounds.specs.declared.types.Event.TheVariants as event
use Rattle.engines.proofs.Beginnings.{arrived_lasts, happens_given}
use Rattle.engines.proofs.Storing.{came_seen, come_lasts}
use Rattle.engines.proofs.member.Member.take.Goals as goal

pub invariant_of-result-in-Ok-arrive : goal.invariant_of-result-in-Ok-arrive
invariant_of-result-in-Ok-arrive g c = arrived_lasts c.self.inside.course.given c.in-Ok-arrive.course.given c.self.inside.course.journal c.in-Ok-arrive.course.journal c.in-Ok-note_bytes.entry c.in-Ok.taken c.in-Some.note c.args.at c.self.inside.inbox.waiting.items c.self.inside.inbox.next c.take.new.self.waiting.items c.take.new.self.next
    (happens_given (g.H.Handler.meaning c.self.inside.course.handler) (event.Arrive c.in-Ok-note_bytes.entry) c.self.inside.course.live c.self.inside.course c.in-Ok-arrive.course c.in-Ok-arrive.ensures.arrived)
    c.in-Ok-arrive.ensures.ok c.in-Ok-note_bytes.ensures c.in-Some.is c.in-Ok.ensures.rest
    (come_lasts c.in-Ok.taken c.in-Some.note c.self.inside.inbox.waiting.items c.take.new.self.waiting.items c.self.inside.inbox.next c.take.new.self.next c.in-Ok-note_bytes.entry c.self.inside.course.journal c.in-Ok-arrive.course.journal c.in-Some.is c.in-Ok.ensures.comes c.in-Ok-note_bytes.ensures c.self.invariant.waits c.in-Ok-arrive.ensures.ok)
    c.self.invariant

pub returns-clause-ok : goal.returns-clause-ok
returns-clause-ok g c = came_seen (λ h. g.H.Handler.meaning h) c.args.self c.self.inside.course c.self.inside.inbox.waiting.items c.self.inside.inbox.next c.args.at c.args.brought c.in-Ok.taken _ c.self.view_is c.in-Ok.ensures.taken c.in-Ok.ensures.rest c.in-Some.note c.in-Ok-note_bytes.entry c.in-Some.is c.in-Ok-note_bytes.ensures c.in-Ok-arrive.ensures.ok c.in-Ok-arrive.ensures.arrived
