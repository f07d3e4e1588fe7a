use Rattle.std.proofs.Common.{sym, ◌∙◌}
use Rattle.invocation_vm.proofs.Feeds.{consumed_none, goes_on, goes_on_done, ends}
use Rattle.invocation_vm.proofs.core_vm.CoreVM.take_frame.Goals as goal

pub returns-in_default-clause-ok : goal.returns-in_default-clause-ok
returns-in_default-clause-ok c =
    let t = rw c.in_default.is at c.in-Ok.ensures.next in
    rw t.1 (sym (consumed_none c.args.self.now.decoder c.args.self.now.machine t.0 c.requires))

pub returns-then-has_failed-clause-ok : goal.returns-then-has_failed-clause-ok
returns-then-has_failed-clause-ok c =
    let t = rw c.in-Some.is at c.in-Ok.ensures.next in
    ends c.receive-given.result c.in-Some.raw _ c.next_frame.new.self _ _ _ _ c.requires t c.receive-given.ensures.step c.in-Ok-settle_quietly.ensures (sym c.has_failed.ensures ∙ c.if-has_failed.true) c.clear.ensures

pub returns-clause-ok : goal.returns-clause-ok
returns-clause-ok c =
    let t = rw c.in-Some.is at c.in-Ok.ensures.next in
    goes_on c.receive-given.result c.in-Some.raw _ _ _ _ _ c.requires t c.receive-given.ensures.step c.in-Ok-settle_quietly.ensures c.receive-given.ensures.quiet (sym c.has_failed.ensures ∙ c.if-has_failed.false)

pub returns-in-Ok-given-clause-ok : goal.returns-in-Ok-given-clause-ok
returns-in-Ok-given-clause-ok c =
    let t = rw c.in-Some.is at c.in-Ok.ensures.next in
    goes_on_done c.in-Some.raw _ _ _ _ c.requires t (rw c.in-Ok-given.is at c.receive-given.ensures.step) c.receive-given.ensures.quiet c.receive-given.ensures.failure
