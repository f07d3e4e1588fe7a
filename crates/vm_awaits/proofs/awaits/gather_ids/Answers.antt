use Rattle.std.proofs.Common.{sym}
use Rattle.std.proofs.lemmas.Result.{err_from_is_err_and}
use Rattle.vm_awaits.proofs.Cancelling.{gathered_fails, gathered_fewer, gathered_more, gathered_stays}
use Rattle.vm_awaits.proofs.awaits.gather_ids.Goals as goal

pub returns-in_err-answer : goal.returns-in_err-answer
returns-in_err-answer c =
    let l = c.in-Some.ensures in
    let p = err_from_is_err_and c.from_residual.result c.from_residual.ensures.1 in
    rw (p.1, p.2) (gathered_fails c.args.machine.now c.loop-handle.machine c.loop-handle.invariant c.first_unresolved.new.self c.in-Some.handle l.first l.left
    c.in_err-answer.field-0.0 c.read_id.new.machine c.in_err-answer.ensures)

pub returns-then-not-has_woken : goal.returns-then-not-has_woken
returns-then-not-has_woken c =
    let l = c.in-Some.ensures in
    gathered_stays c.args.machine.now c.loop-handle.machine c.loop-handle.invariant c.first_unresolved.new.self c.in-Some.handle l.first l.left
    c.in_ok-answer.answer c.read_id.new.machine c.in_ok-answer.ensures (sym c.if-not-has_woken.ensures)

pub loop-handle-smaller : goal.loop-handle-smaller
loop-handle-smaller c =
    let l = c.in-Some.ensures in
    gathered_fewer c.args.machine.now c.loop-handle.machine c.loop-handle.invariant c.first_unresolved.new.self c.in-Some.handle l.first l.left
    c.in_ok-answer.answer c.read_id.new.machine c.in_ok-answer.ensures (sym c.if-not-has_woken.ensures)

pub loop-handle-preserved : goal.loop-handle-preserved
loop-handle-preserved c =
    let l = c.in-Some.ensures in
    gathered_more c.args.machine.now c.loop-handle.machine c.loop-handle.invariant c.first_unresolved.new.self c.in-Some.handle l.first l.left
    c.in_ok-answer.answer c.read_id.new.machine c.in_ok-answer.ensures (sym c.if-not-has_woken.ensures)
