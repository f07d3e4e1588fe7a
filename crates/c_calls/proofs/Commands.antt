-- The errors of each call that isn't an await or a query have failed the VM.
use Rattle.std.proofs.Common.{◌≡◌, ◌⊎◌, ℕ, Bool, List, [], ◌∷◌, ◌++◌, None, subst}
use Rattle.await_trees.specs.declared.handle.NotificationHandle.{NotificationHandle}
use Rattle.vm_asks.specs.Asks.{attach_invocation_command, call_command, call_handles, cancel_invocation_command, clear_all_state_command, clear_state_command, complete_awakeable_command, complete_promise_command, complete_signal_command, deadline_handles, get_invocation_output_command, get_promise_command, output_command, run_command, send_command, send_handle, set_state_command, sleep_command}
use Rattle.vm_asks.specs.declared.command.Command.{Command}
use Rattle.vm_asks.specs.declared.state_read.StateRead.{StateRead}
use Rattle.vm_asks.specs.declared.state_read.StateRead.TheVariants as reads
use Rattle.vm_machine.specs.Commands.{answered_by, commanded, knows_next}
use Rattle.vm_machine.specs.Ephemerals.{ephemeral_step, take_ephemeral_step}
use Rattle.vm_machine.specs.Inputs.{end_step, input_step}
use Rattle.vm_machine.specs.Proposals.{Proposes}
use Rattle.vm_machine.specs.Reads.{read_step}
use Rattle.vm_machine.specs.Signals.{signal_step}
use Rattle.vm_machine.specs.Takes.{take_step}
use Rattle.vm_machine.specs.Outcomes.{Outcome}
use Rattle.vm_machine.specs.declared.machine.Machine.{Machine}
use Rattle.vm_retries.specs.declared.policy.RetryPolicy.{RetryPolicy}
use Rattle.vm_types.specs.Exits.{exit_of_value}
use Rattle.vm_types.specs.declared.runs.RunExitResult.{RunExitResult}
use Rattle.vm_types.specs.declared.runs.RunExitResult.TheVariants as exit
use Rattle.vm_types.specs.declared.reply.Reply.{Reply}
use Rattle.vm_types.specs.declared.reply.Reply.TheVariants as reply
use Rattle.vm_calls.specs.Called.{Answers, RepliesWith}
use Rattle.invocation_vm.specs.Calls.{CallsAllFor, CallsCommand, CallsFor, CallsProposal, CallsRead, CallsRun, CallsUnit, new_awakeable_step, run_handle}
use Rattle.invocation_vm.specs.Views.{View, after_closing, after_error}
use Rattle.c_calls.specs.declared.callees.GivenTarget.{GivenTarget}
use Rattle.c_calls.specs.declared.invocations.GivenInvocation.{GivenInvocation}
use Rattle.c_calls.specs.declared.policies.GivenPolicy.{GivenPolicy}
use Rattle.c_calls.specs.declared.reports.GivenCommand.{GivenCommand}
use Rattle.c_calls.specs.declared.reports.GivenError.{GivenError}
use Rattle.c_calls.specs.declared.values.GivenValue.{GivenValue}
use Rattle.c_calls.specs.Callees.{given_target, texts_of_call}
use Rattle.c_calls.specs.Calls.{AttachesTo, CallsARun, CallsHandler, CallsSleep, CallsWithDeadline, CancelsInvocation, ClearsAllState, ClearsState, ClosesInput, CompletesAwakeable, CompletesPromise, CompletesSignal, EndsHandler, GetsOutput, GetsPromise, MakesAwakeable, MakesSignal, PeeksPromise, ProposesResult, ProposesRetryable, ReadsEphemerally, ReadsInput, ReadsKeys, ReadsState, ReportsError, SendsTo, SetsState, TakesEphemeral, TakesResult, WritesOutput}
use Rattle.c_calls.specs.Given.{Misfits, lent_texts}
use Rattle.c_calls.specs.Invocations.{invocation_of, texts_of_invocation}
use Rattle.c_calls.specs.Makes.{MadeWith, MakesCall, all_handles, awakeable_reply, call_handles_told, handle, input_told, sent, taken_told_of, unit_told}
use Rattle.c_calls.specs.Policies.{IsNoPolicy}
use Rattle.c_calls.specs.Refusals.{FailsByRefusal}
use Rattle.c_calls.specs.Reports.{NamesNoCommand, behavior_at, texts_of_error}
use Rattle.c_calls.specs.Values.{given_value, texts_of_value}
use Rattle.c_calls.proofs.Failing.{FailsIn, NoError, all_for_fail, answers_fail, calls_by_fail, calls_fail, feeds_fail, replies_fail}
use Rattle.c_calls.proofs.Told.{NeverRefused, fails_by, fails_made, fails_with, fails_with_old, five_is, never_misfit}

-- ---- what values are replied by

no_handle : NoError handle
no_handle a e h = cc

no_unit : NoError unit_told
no_unit a e h = cc

no_taken : NoError taken_told_of
no_taken a e h = cc

-- ---- what a command does

command_fails : (c : Command) → FailsIn (RepliesWith handle (CallsCommand c))
command_fails c = replies_fail handle (CallsCommand c) no_handle (λ e old new d none. calls_fail (commanded c) e old new d.0 none)

for_fails : {A : Type 0} (f : A → Reply) (g : NotificationHandle → A) (c : Command) → NoError f → FailsIn (RepliesWith f (CallsFor g c))
for_fails f g c other = replies_fail f (CallsFor g c) other (λ e old new d none. calls_fail (λ v. answered_by g (commanded c v)) e old new d.0 none)

unit_fails : (c : Command) → FailsIn (RepliesWith unit_told (CallsUnit c))
unit_fails c = for_fails unit_told (λ _. tt {0}) c no_unit

read_fails : (r : StateRead) → FailsIn (RepliesWith handle (CallsRead r))
read_fails r = replies_fail handle (CallsRead r) no_handle (λ e old new d none. calls_fail (read_step r) e old new d.0 none)

-- ---- what is lent for it

-- a call with a command, and with texts
command_call : (texts : List (List ℕ)) (c : Command) → FailsByRefusal (MadeWith texts (RepliesWith handle (CallsCommand c)))
command_call texts c = fails_with texts (RepliesWith handle (CallsCommand c)) (command_fails c)

unit_call : (texts : List (List ℕ)) (c : Command) → FailsByRefusal (MadeWith texts (RepliesWith unit_told (CallsUnit c)))
unit_call texts c = fails_with texts (RepliesWith unit_told (CallsUnit c)) (unit_fails c)

read_call : (texts : List (List ℕ)) (r : StateRead) → FailsByRefusal (MadeWith texts (RepliesWith handle (CallsRead r)))
read_call texts r = fails_with texts (RepliesWith handle (CallsRead r)) (read_fails r)

-- the same, where the VM that there was says which command it is
command_by : (texts : List (List ℕ)) (c : View → Command) → FailsByRefusal (λ outcome old new. MadeWith texts (RepliesWith handle (CallsCommand (c old))) outcome old new)
command_by texts c = fails_with_old texts (λ v. RepliesWith handle (CallsCommand (c v))) (λ v. command_fails (c v))

unit_by : (texts : List (List ℕ)) (c : View → Command) → FailsByRefusal (λ outcome old new. MadeWith texts (RepliesWith unit_told (CallsUnit (c old))) outcome old new)
unit_by texts c = fails_with_old texts (λ v. RepliesWith unit_told (CallsUnit (c v))) (λ v. unit_fails (c v))

for_by : {A : Type 0} (texts : List (List ℕ)) (f : A → Reply) (g : NotificationHandle → A) (c : View → Command) → NoError f
    → FailsByRefusal (λ outcome old new. MadeWith texts (RepliesWith f (CallsFor g (c old))) outcome old new)
for_by texts f g c other = fails_with_old texts (λ v. RepliesWith f (CallsFor g (c v))) (λ v. for_fails f g (c v) other)

step_call : {A : Type 0} (texts : List (List ℕ)) (f : A → Reply) (step : Machine → Outcome A) → NoError f → FailsByRefusal (MadeWith texts (Answers f step))
step_call texts f step other = fails_with texts (Answers f step) (answers_fail f step other)

step_made : {A : Type 0} (f : A → Reply) (step : Machine → Outcome A) → NoError f → FailsByRefusal (MakesCall (Answers f step))
step_made f step other = fails_made (Answers f step) (answers_fail f step other)

proposal_fails : (of : NotificationHandle) (result : RunExitResult) (policy : RetryPolicy) → FailsIn (RepliesWith unit_told (CallsProposal of result policy))
proposal_fails of result policy = replies_fail unit_told (CallsProposal of result policy) no_unit (λ e old new c none. calls_by_fail (Proposes of result policy) e old new c none)

-- ---- commands

pub sleep_fails : (name : List ℕ) (millis : ℕ) → FailsByRefusal (CallsSleep name millis)
sleep_fails name millis = command_call (name ∷ []) (sleep_command millis name)

pub promise_fails : (key : List ℕ) → FailsByRefusal (GetsPromise key)
promise_fails key = command_call (key ∷ []) (get_promise_command key)

pub peek_fails : (key : List ℕ) → FailsByRefusal (PeeksPromise key)
peek_fails key = search command_call

pub promised_fails : (key : List ℕ) (value : GivenValue) (unstable : Bool) → FailsByRefusal (CompletesPromise key value unstable)
promised_fails key value unstable = command_by (key ∷ texts_of_value value)
    (λ v. complete_promise_command key (given_value value) (record { unstable_serialization = unstable }) v.machine.version)

pub awakened_fails : (id : List ℕ) (value : GivenValue) (unstable : Bool) → FailsByRefusal (CompletesAwakeable id value unstable)
awakened_fails id value unstable = unit_by (id ∷ texts_of_value value)
    (λ v. complete_awakeable_command id (given_value value) (record { unstable_serialization = unstable }) v.machine.version)

pub signalled_fails : (target name : List ℕ) (value : GivenValue) → FailsByRefusal (CompletesSignal target name value)
signalled_fails target name value = unit_by (target ∷ name ∷ texts_of_value value)
    (λ v. complete_signal_command target name (given_value value) v.machine.version)

pub cancel_fails : (target : List ℕ) → FailsByRefusal (CancelsInvocation target)
cancel_fails target = unit_call (target ∷ []) (cancel_invocation_command target)

pub write_fails : (value : GivenValue) (unstable : Bool) → FailsByRefusal (WritesOutput value unstable)
write_fails value unstable = unit_by (texts_of_value value)
    (λ v. output_command (given_value value) (record { unstable_serialization = unstable }) v.machine.version)

pub end_fails : FailsByRefusal EndsHandler
end_fails = step_made unit_told end_step no_unit

called_run : (name : List ℕ) → FailsIn (RepliesWith reply.Run (CallsRun name))
called_run name = replies_fail reply.Run (CallsRun name) (λ a e h. cc)
    (λ e old new d none. calls_fail (λ v. answered_by (run_handle (knows_next old.machine)) (commanded (run_command name) v)) e old new d.0 none)

pub run_fails : (name : List ℕ) → FailsByRefusal (CallsARun name)
run_fails name = fails_with (name ∷ []) (RepliesWith reply.Run (CallsRun name)) (called_run name)

-- ---- calls

pub call_fails : (target : GivenTarget) (bytes name : List ℕ) (unstable : Bool) → FailsByRefusal (CallsHandler target bytes name unstable)
call_fails target bytes name unstable = for_by (texts_of_call target name) call_handles_told call_handles
    (λ v. call_command (given_target target) bytes name (record { unstable_serialization = unstable }) v.machine.version) (λ a e h. cc)

with_deadline : (c : Command) (cs : List Command) → FailsIn (RepliesWith all_handles (CallsAllFor deadline_handles c cs))
with_deadline c cs = replies_fail all_handles (CallsAllFor deadline_handles c cs) (λ a e h. cc) (all_for_fail deadline_handles c cs)

pub deadline_fails : (target : GivenTarget) (bytes : List ℕ) (millis : ℕ) (name : List ℕ) (unstable : Bool) → FailsByRefusal (CallsWithDeadline target bytes millis name unstable)
deadline_fails target bytes millis name unstable =
    let c = λ (v : View). call_command (given_target target) bytes name (record { unstable_serialization = unstable }) v.machine.version in
    fails_with_old (texts_of_call target name) (λ v. RepliesWith all_handles (CallsAllFor deadline_handles (c v) (sleep_command millis [] ∷ [])))
    (λ v. with_deadline (c v) (sleep_command millis [] ∷ []))

pub send_fails : (target : GivenTarget) (bytes : List ℕ) (millis : ℕ) (name : List ℕ) (unstable : Bool) → FailsByRefusal (SendsTo target bytes millis name unstable)
send_fails target bytes millis name unstable = for_by (texts_of_call target name) sent send_handle
    (λ v. send_command (given_target target) bytes millis name (record { unstable_serialization = unstable }) v.machine.version) (λ a e h. cc)

never_named : (given : GivenInvocation) → NeverRefused (Misfits (texts_of_invocation given) (invocation_of given ≡ None))
never_named given = never_misfit (texts_of_invocation given) (invocation_of given ≡ None)

pub attach_fails : (given : GivenInvocation) → FailsByRefusal (AttachesTo given)
attach_fails given = fails_by (AttachesTo given)
    (λ s old new m five. never_named given (subst (Misfits (texts_of_invocation given) (invocation_of given ≡ None)) (five_is s five) m.0))
    (λ e old new m none. command_fails (attach_invocation_command m.0 old.machine.version) e old new m.2 none)

pub get_fails : (given : GivenInvocation) → FailsByRefusal (GetsOutput given)
get_fails given = fails_by (GetsOutput given)
    (λ s old new m five. never_named given (subst (Misfits (texts_of_invocation given) (invocation_of given ≡ None)) (five_is s five) m.0))
    (λ e old new m none. command_fails (get_invocation_output_command m.0 old.machine.version) e old new m.2 none)

-- ---- state

pub set_fails : (key value name : List ℕ) (unstable : Bool) → FailsByRefusal (SetsState key value name unstable)
set_fails key value name unstable = unit_call (key ∷ name ∷ []) (set_state_command key value name (record { unstable_serialization = unstable }))

pub clear_fails : (key name : List ℕ) → FailsByRefusal (ClearsState key name)
clear_fails key name = unit_call (key ∷ name ∷ []) (clear_state_command key name)

pub clear_all_fails : (name : List ℕ) → FailsByRefusal (ClearsAllState name)
clear_all_fails name = unit_call (name ∷ []) (clear_all_state_command name)

pub value_fails : (key name : List ℕ) → FailsByRefusal (ReadsState key name)
value_fails key name = read_call (key ∷ name ∷ []) (reads.Value key name)

pub keys_fails : (name : List ℕ) → FailsByRefusal (ReadsKeys name)
keys_fails name = read_call (name ∷ []) (reads.Keys name)

pub ephemeral_fails : (key : List ℕ) → FailsByRefusal (ReadsEphemerally key)
ephemeral_fails key = step_call (key ∷ []) reply.Ephemeral (ephemeral_step key) (λ a e h. cc)

pub taken_fails : (id : ℕ) → FailsByRefusal (TakesEphemeral id)
taken_fails id = step_made taken_told_of (take_ephemeral_step id) no_taken

-- ---- beside commands

pub awakeable_fails : FailsByRefusal MakesAwakeable
awakeable_fails = step_made awakeable_reply new_awakeable_step (λ a e h. cc)

pub signal_fails : (name : List ℕ) → FailsByRefusal (MakesSignal name)
signal_fails name = step_call (name ∷ []) handle (signal_step name) no_handle

pub take_fails : (of : ℕ) → FailsByRefusal (TakesResult of)
take_fails of = step_made taken_told_of (take_step of) no_taken

pub input_fails : FailsByRefusal ReadsInput
input_fails = step_made input_told input_step (λ a e h. cc)

pub close_fails : FailsByRefusal ClosesInput
close_fails = fails_by ClosesInput (λ s old new m five. m) (λ e old new f none. feeds_fail [] (after_closing old) e old new f none)

pub propose_fails : (of : ℕ) (value : GivenValue) (by : GivenPolicy) → FailsByRefusal (ProposesResult of value by)
propose_fails of value by = fails_by (ProposesResult of value by)
    (λ s old new m five. never_misfit (texts_of_value value) (IsNoPolicy by) (subst (Misfits (texts_of_value value) (IsNoPolicy by)) (five_is s five) m.0))
    (λ e old new m none. proposal_fails (record { 0 = of }) (exit_of_value (given_value value)) m.0 e old new m.2 none)

pub retryable_fails : (of millis : ℕ) (given : GivenError) (by : GivenPolicy) → FailsByRefusal (ProposesRetryable of millis given by)
retryable_fails of millis given by =
    let Misnamed = (behavior_at given.behavior ≡ None) ⊎ IsNoPolicy by in
    fails_by (ProposesRetryable of millis given by)
    (λ s old new m five. never_misfit (texts_of_error given) Misnamed (subst (Misfits (texts_of_error given) Misnamed) (five_is s five) m.0))
    (λ e old new m none. proposal_fails (record { 0 = of }) (exit.RetryableFailure m.0 m.1) m.2 e old new m.6 none)

pub report_fails : (given : GivenError) (command : GivenCommand) → FailsByRefusal (ReportsError given command)
report_fails given command =
    let Misnamed = (behavior_at given.behavior ≡ None) ⊎ NamesNoCommand command in
    let texts = texts_of_error given ++ lent_texts command.name in
    fails_by (ReportsError given command)
    (λ s old new m five. never_misfit texts Misnamed (subst (Misfits texts Misnamed) (five_is s five) m.0))
    (λ e old new m none. feeds_fail [] (after_error old m.0 m.1) e old new m.4 none)
