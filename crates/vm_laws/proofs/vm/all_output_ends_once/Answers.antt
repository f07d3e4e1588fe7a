use Rattle.std.proofs.Common.{refl}
use Rattle.vm_asks.specs.Asks.{run_command}
use Rattle.vm_machine.specs.Commands.{knows_next}
use Rattle.invocation_vm.specs.Calls.{run_handle}
use Rattle.vm_laws.proofs.Outputs.{made_ends, taken_ends, untaken_stays, bytes_stay, closing_stays, ephemeral_stays, take_ephemeral_stays, error_stays, await_stays, take_stays, deadlines_stay, input_stays, command_stays, answer_stays, awakeable_stays, read_stays, proposal_stays, signal_stays, end_stays}
use Rattle.vm_laws.proofs.vm.all_output_ends_once.Goals as goal

pub returns-clause-fresh : goal.returns-clause-fresh
returns-clause-fresh c = made_ends

pub returns-clause-taken : goal.returns-clause-taken
returns-clause-taken c = taken_ends

pub returns-clause-untaken : goal.returns-clause-untaken
returns-clause-untaken c = untaken_stays

pub returns-clause-bytes : goal.returns-clause-bytes
returns-clause-bytes c = bytes_stay

pub returns-clause-closings : goal.returns-clause-closings
returns-clause-closings c = closing_stays

pub returns-clause-errors : goal.returns-clause-errors
returns-clause-errors c = error_stays

pub returns-clause-awaits : goal.returns-clause-awaits
returns-clause-awaits c = await_stays

pub returns-clause-takes : goal.returns-clause-takes
returns-clause-takes c = take_stays

pub returns-clause-inputs : goal.returns-clause-inputs
returns-clause-inputs c = input_stays

pub returns-clause-commands : goal.returns-clause-commands
returns-clause-commands c = command_stays

pub returns-clause-unanswered : goal.returns-clause-unanswered
returns-clause-unanswered c = answer_stays _

pub returns-clause-calls : goal.returns-clause-calls
returns-clause-calls c = answer_stays _

pub returns-clause-sends : goal.returns-clause-sends
returns-clause-sends c = answer_stays _

pub returns-clause-runs : goal.returns-clause-runs
returns-clause-runs c = λ name r old new h. answer_stays (run_handle (knows_next old.machine)) (run_command name) r old new h

pub returns-clause-proposals : goal.returns-clause-proposals
returns-clause-proposals c = proposal_stays

pub returns-clause-reads : goal.returns-clause-reads
returns-clause-reads c = read_stays

pub returns-clause-ephemeral_reads : goal.returns-clause-ephemeral_reads
returns-clause-ephemeral_reads c = ephemeral_stays

pub returns-clause-ephemeral_takes : goal.returns-clause-ephemeral_takes
returns-clause-ephemeral_takes c = take_ephemeral_stays

pub returns-clause-awakeables : goal.returns-clause-awakeables
returns-clause-awakeables c = awakeable_stays

pub returns-clause-signals : goal.returns-clause-signals
returns-clause-signals c = signal_stays

pub returns-clause-ends : goal.returns-clause-ends
returns-clause-ends c = end_stays

pub returns-clause-deadlines : goal.returns-clause-deadlines
returns-clause-deadlines c = deadlines_stay
