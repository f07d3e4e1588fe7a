use Rattle.vm_model.proofs.Erasing.{awakeable_payloads, call_payloads, deadline_payloads, deadlines, first_sleeps, output_payloads, promise_payloads, send_payloads, sends, set_payloads, signal_payloads, sleeps, steps_along, steps_back, steps_same}
use Rattle.vm_model.proofs.families.erased_steps.Goals as goal

pub returns-clause-same : goal.returns-clause-same
returns-clause-same c = steps_same

pub returns-clause-back : goal.returns-clause-back
returns-clause-back c = steps_back

pub returns-clause-sleeps : goal.returns-clause-sleeps
returns-clause-sleeps c = sleeps

pub returns-clause-sends : goal.returns-clause-sends
returns-clause-sends c = sends

pub returns-clause-deadlines : goal.returns-clause-deadlines
returns-clause-deadlines c = deadlines

pub returns-clause-call_payloads : goal.returns-clause-call_payloads
returns-clause-call_payloads c = call_payloads

pub returns-clause-send_payloads : goal.returns-clause-send_payloads
returns-clause-send_payloads c = send_payloads

pub returns-clause-deadline_payloads : goal.returns-clause-deadline_payloads
returns-clause-deadline_payloads c = deadline_payloads

pub returns-clause-output_payloads : goal.returns-clause-output_payloads
returns-clause-output_payloads c = output_payloads

pub returns-clause-awakeable_payloads : goal.returns-clause-awakeable_payloads
returns-clause-awakeable_payloads c = awakeable_payloads

pub returns-clause-promise_payloads : goal.returns-clause-promise_payloads
returns-clause-promise_payloads c = promise_payloads

pub returns-clause-set_payloads : goal.returns-clause-set_payloads
returns-clause-set_payloads c = set_payloads

pub returns-clause-along : goal.returns-clause-along
returns-clause-along c = steps_along

pub returns-clause-first_sleeps : goal.returns-clause-first_sleeps
returns-clause-first_sleeps c = first_sleeps

pub returns-clause-signal_payloads : goal.returns-clause-signal_payloads
returns-clause-signal_payloads c = signal_payloads
