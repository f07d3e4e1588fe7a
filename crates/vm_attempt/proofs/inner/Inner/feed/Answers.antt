use Rattle.std.proofs.Common.{sym, subst}
use Rattle.invocation_vm.specs.Seen.{seen}
use Rattle.vm_attempt.specs.Inside.{the_fields}
use Rattle.vm_attempt.specs.Stepping.{FeedDoes, with_vm}
use Rattle.vm_attempt.proofs.Feeding.{feeds_kept}
use Rattle.vm_attempt.proofs.inner.Inner.feed.Goals as goal

pub returns-clause-does : goal.returns-clause-does
returns-clause-does g c =
    let old = the_fields c.args.self.now in
    let kept = the_fields c.keep.new.self in
    subst (λ starved. FeedDoes starved c.args.piece old c.notify_input.result (with_vm (seen c.notify_input.new.self) kept)) (sym c.if-self.false)
    (feeds_kept c.args.piece old kept (seen c.keep.new.self.vm) (seen c.notify_input.new.self) c.notify_input.result c.in_default.ensures.ok c.keep.ensures.vm c.notify_input.ensures)
