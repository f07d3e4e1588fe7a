use Rattle.call_lines.proofs.Calling.{is_call}
use Rattle.call_lines.proofs.callees.call_line.Goals as goal

pub returns-clause-value : goal.returns-clause-value
returns-clause-value c =
    rw c.in_ok-new.ensures (is_call c.args.arguments.now c.in_ok-callee.rest.now c.in_ok-callee.callee.service c.in_ok-callee.callee.handler c.in_ok-callee.callee.input c.in_ok-target.target c.in_ok-target.name c.in_ok-target.options
    c.in_ok-callee.ensures.callee c.in_ok-target.ensures.service c.in_ok-target.ensures.handler c.in_ok-callee.ensures.rest c.in_ok-target.ensures.options)
