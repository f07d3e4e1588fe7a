use Rattle.std.proofs.Common.{ap, ◌∙◌}
use Rattle.world_rounds.specs.Course.{CourseView, live_now}
use Rattle.world_rounds.specs.Inside.{the_now}
use Rattle.world_rounds.proofs.Continuing.{begin_lasts, begins_seen, is_begun}
use Rattle.world_rounds.proofs.course.Course.begin_next.Goals as goal

pub invariant_of-result-2 : goal.invariant_of-result-2
invariant_of-result-2 g c = rw c.in-Ok-new.ensures (begin_lasts (λ h. g.H.Handler.meaning h.now) (g.H.Handler.meaning c.self.inside.handler.now) c.self.inside.setting c.self.inside.given c.args.round.now c.self.inside.alloc c.self.inside.desk c.new_desk-desk.result c.in-Ok-waiting_bytes.waiting.items c.in-Ok.attempt (rw c.as_slice.ensures.value at c.in-Ok-waiting_bytes.ensures.bytes) c.in-Ok.ensures.record c.new_desk-desk.ensures.now c.self.inside.attempt (ap (λ (v : CourseView _). v.live) c.self.view_is ∙ c.requires) c.self.invariant c.in-Ok.ensures.supported (rw c.as_slice.ensures.value at c.in-Ok-waiting_bytes.ensures.whole) (rw c.as_slice.ensures.value at c.in-Ok-waiting_bytes.ensures.texts) (ap g.H.Handler.meaning c.in-Ok.ensures.handler) c.in-Ok.ensures.made_for)

pub returns-clause-ok : goal.returns-clause-ok
returns-clause-ok g c = rw c.in-Ok-new.ensures (begins_seen c.args.round.now c.args.self c.self.inside.handler.now c.self.inside.setting c.self.inside.given c.self.inside.desk.journal c.new_desk-desk.result.journal (live_now c.self.inside.desk c.self.inside.attempt) (the_now c.new_desk-desk.result c.in-Ok.attempt.record_of) c.self.inside.alloc c.self.view_is c.new_desk-desk.ensures.journal
    (is_begun (λ h. g.H.Handler.meaning h.now) (g.H.Handler.meaning c.self.inside.handler.now) c.self.inside.setting c.self.inside.given c.args.round.now c.self.inside.alloc c.self.inside.desk c.new_desk-desk.result c.in-Ok-waiting_bytes.waiting.items c.in-Ok.attempt (rw c.as_slice.ensures.value at c.in-Ok-waiting_bytes.ensures.bytes) c.in-Ok.ensures.record c.new_desk-desk.ensures.now))
