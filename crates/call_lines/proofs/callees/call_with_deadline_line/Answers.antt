use Rattle.call_lines.proofs.Calling.{is_deadline_call}
use Rattle.call_lines.proofs.callees.call_with_deadline_line.Goals as goal

pub returns-clause-value : goal.returns-clause-value
returns-clause-value c =
    rw c.in_ok-new.ensures (is_deadline_call c.args.arguments.now c.behind.result.now c.in_ok-callee.callee.service c.in_ok-callee.callee.handler c.in_ok-callee.callee.input c.in_ok-target.target c.in_ok-wake_up_time_since_unix_epoch.wake_up_time_since_unix_epoch c.in_ok-target.name
    c.in_ok-target.options c.in_ok-callee.ensures.callee c.in_ok-target.ensures.service c.in_ok-target.ensures.handler c.in_ok-wake_up_time_since_unix_epoch.ensures.value c.behind.ensures c.in_ok-target.ensures.options)
