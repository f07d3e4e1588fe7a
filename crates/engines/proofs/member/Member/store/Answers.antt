use Rattle.std.proofs.Common.{length, sym, ap, subst}
use Rattle.world_rounds.specs.Rounds.{ReplaysAndQueues}
use Rattle.engine_inboxes.specs.Faults.{IsMemoryOrFull}
use Rattle.engines.specs.Members.{MemberView}
use Rattle.engines.proofs.Beginnings.{first_replayable, store_lasts, store_memory, store_seen}
use Rattle.engines.proofs.member.Member.store.Goals as goal

pub invariant_of-result : goal.invariant_of-result
invariant_of-result g c = store_lasts (g.H.Handler.meaning c.self.inside.course.handler) c.self.inside.course c.in-Ok.course c.self.inside.inbox.waiting.items c.self.inside.inbox.next (length c.journal-before.result.now) c.in-Ok.ensures.stored c.in-Ok.ensures.ok c.self.invariant (ap length c.journal-before.ensures.value) c.journal.result.now c.journal.ensures.value
    c.stored_at.new.inbox.waiting.items c.stored_at.new.inbox.next c.in-Ok-stored_at.ensures.lasts c.in-Ok-stored_at.ensures.none c.in-Ok-stored_at.ensures.entered

pub returns-in-Err-clause-replaying : goal.returns-in-Err-clause-replaying
returns-in-Err-clause-replaying g c = λ r. c.in-Err.ensures.replayable
    (first_replayable (g.H.Handler.meaning c.self.inside.course.handler) c.self.inside.course c.self.invariant.began
    (subst (λ (v : MemberView _). ReplaysAndQueues v.course.setting.options) (sym c.self.view_is) r))

pub returns-in-Err-stored_at-clause-replaying : goal.returns-in-Err-stored_at-clause-replaying
returns-in-Err-stored_at-clause-replaying g c = λ r. subst IsMemoryOrFull (sym c.inbox_of.ensures.value)
    (store_memory (g.H.Handler.meaning c.self.inside.course.handler) c.self.inside.course c.in-Ok.course c.self.inside.inbox.waiting.items c.self.inside.inbox.next (length c.journal-before.result.now) c.in-Ok.ensures.stored c.in-Ok.ensures.ok c.self.invariant (ap length c.journal-before.ensures.value) c.journal.result.now c.journal.ensures.value
    (g.H.Handler.meaning c.in-Ok.course.handler) c.in-Err-stored_at.fault c.journal.ensures.history c.in-Ok.ensures.runs c.in-Err-stored_at.ensures.faulty c.in-Err-stored_at.ensures.fault
    (subst (λ (v : MemberView _). ReplaysAndQueues v.course.setting.options) (sym c.self.view_is) r))

pub returns-clause-ok : goal.returns-clause-ok
returns-clause-ok g c = store_seen (λ h. g.H.Handler.meaning h) c.args.self c.self.inside.course c.self.inside.inbox.waiting.items c.self.inside.inbox.next _ c.in-Ok-stored_at.effect c.self.view_is c.self.invariant c.in-Ok.ensures.stored c.in-Ok.ensures.ok
    (length c.journal-before.result.now) (ap length c.journal-before.ensures.value) c.journal.result.now c.journal.ensures.value c.in-Ok.ensures.runs c.in-Ok-stored_at.ensures.none c.in-Ok-stored_at.ensures.no_effect c.in-Ok-stored_at.ensures.entered c.in-Ok-stored_at.ensures.apart c.in-Ok-stored_at.ensures.effect
