-- What each call from C does to a VM: what it is answered, or why it isn't made; and the VM before
-- and after.
use Rattle.std.specs.Prelude.{◌≡◌, ◌⊎◌, ℕ, Bool, List, [], ◌∷◌, ◌++◌, Option, Some, None, Result}
use Rattle.await_trees.specs.declared.tree.UnresolvedFuture.TheVariants.{Single}
use Rattle.vm_types.specs.declared.steps.Answer.TheVariants as answer
use Rattle.vm_retries.specs.declared.policy.RetryPolicy.{RetryPolicy}
use Rattle.vm_types.specs.declared.runs.RunExitResult.TheVariants as exit
use Rattle.journal_protocol.specs.Error.{Error}
use Rattle.vm_types.specs.declared.command_type.CommandRelationship.{CommandRelationship}
use Rattle.std.specs.declared.time.Duration.{Duration}
use Rattle.journal_protocol.specs.InvocationTarget.{InvocationTarget}
use Rattle.vm_asks.specs.Asks.{attach_invocation_command, call_command, call_handles, cancel_invocation_command, clear_all_state_command, clear_state_command, complete_awakeable_command, complete_promise_command, complete_signal_command, deadline_handles, get_invocation_output_command, get_promise_command, output_command, peek_promise_command, send_command, send_handle, set_state_command, sleep_command}
use Rattle.vm_asks.specs.declared.state_read.StateRead.TheVariants as reads
use Rattle.vm_machine.specs.Ephemerals.{ephemeral_step, take_ephemeral_step}
use Rattle.vm_machine.specs.Inputs.{end_step, input_step}
use Rattle.vm_machine.specs.Queries.{last_index, state_of}
use Rattle.vm_machine.specs.Signals.{signal_step}
use Rattle.vm_machine.specs.Takes.{is_completed, take_step}
use Rattle.invocation_vm.specs.Calls.{CallsAllFor, CallsCommand, CallsFlatAwait, CallsFor, CallsProposal, CallsRead, CallsRun, CallsUnit, new_awakeable_step}
use Rattle.invocation_vm.specs.Views.{View, after_closing, after_error}
use Rattle.vm_types.specs.declared.reply.Reply.{Reply}
use Rattle.vm_types.specs.declared.reply.Reply.TheVariants as reply
use Rattle.vm_types.specs.Exits.{exit_of_value}
use Rattle.vm_calls.specs.Called.{Answers, Drains, FeedsVm, RepliesWith, TellsHead, TellsReady}
use Rattle.c_values.specs.declared.status.Status.{Status}
use Rattle.c_calls.specs.declared.callees.GivenTarget.{GivenTarget}
use Rattle.c_calls.specs.declared.nodes.Node.{Node}
use Rattle.c_calls.specs.declared.values.GivenValue.{GivenValue}
use Rattle.c_calls.specs.declared.invocations.GivenInvocation.{GivenInvocation}
use Rattle.c_calls.specs.declared.policies.GivenPolicy.{GivenPolicy}
use Rattle.c_calls.specs.declared.reports.GivenCommand.{GivenCommand}
use Rattle.c_calls.specs.declared.reports.GivenError.{GivenError}
use Rattle.c_calls.specs.Given.{IsSpan, Misfits, lent_texts}
use Rattle.c_calls.specs.Invocations.{invocation_of, texts_of_invocation}
use Rattle.c_calls.specs.Policies.{IsNoPolicy, IsPolicyOf}
use Rattle.c_calls.specs.Reports.{IsErrorOf, IsRelatedOf, NamesNoCommand, behavior_at, texts_of_error}
use Rattle.c_calls.specs.Callees.{given_target, texts_of_call}
use Rattle.c_calls.specs.Makes.{MakesCall, MadeUnless, MadeWith, all_handles, awakeable_reply, handle, call_handles_told, input_told, unit_told, sent, taken_told_of}
use Rattle.c_calls.specs.Nodes.{AwaitsTree, FailsAsTree}
use Rattle.c_calls.specs.Values.{texts_of_value, given_value}

-- what is said of a call of a VM
abbrev pub Call : Type 1
Call = Result Reply Status → View → View → Type 0

-- a sleep to a time in milliseconds
abbrev pub CallsSleep : List ℕ → ℕ → Call
CallsSleep name millis =
    MadeWith (name ∷ []) (RepliesWith handle (CallsCommand (sleep_command millis name)))

-- an awakeable
abbrev pub MakesAwakeable : Call
MakesAwakeable = MakesCall (Answers awakeable_reply new_awakeable_step)

-- a handle of the signal of a name
abbrev pub MakesSignal : List ℕ → Call
MakesSignal name = MadeWith (name ∷ []) (Answers handle (signal_step name))

-- a promise is awaited
abbrev pub GetsPromise : List ℕ → Call
GetsPromise key = MadeWith (key ∷ []) (RepliesWith handle (CallsCommand (get_promise_command key)))

-- whether a promise is completed
abbrev pub PeeksPromise : List ℕ → Call
PeeksPromise key =
    MadeWith (key ∷ []) (RepliesWith handle (CallsCommand (peek_promise_command key)))

-- a promise is completed
abbrev pub CompletesPromise : List ℕ → GivenValue → Bool → Call
CompletesPromise key value unstable outcome old new =
    MadeWith (key ∷ texts_of_value value)
    (RepliesWith handle (CallsCommand
    (complete_promise_command key (given_value value)
    (record { unstable_serialization = unstable }) old.machine.version))) outcome old new

-- an awakeable is completed
abbrev pub CompletesAwakeable : List ℕ → GivenValue → Bool → Call
CompletesAwakeable id value unstable outcome old new =
    MadeWith (id ∷ texts_of_value value)
    (RepliesWith unit_told (CallsUnit
    (complete_awakeable_command id (given_value value)
    (record { unstable_serialization = unstable }) old.machine.version))) outcome old new

-- a named signal is sent to another invocation
abbrev pub CompletesSignal : List ℕ → List ℕ → GivenValue → Call
CompletesSignal target name value outcome old new =
    MadeWith (target ∷ name ∷ texts_of_value value)
    (RepliesWith unit_told (CallsUnit
    (complete_signal_command target name (given_value value) old.machine.version))) outcome old
    new

-- another invocation is cancelled
abbrev pub CancelsInvocation : List ℕ → Call
CancelsInvocation target =
    MadeWith (target ∷ []) (RepliesWith unit_told (CallsUnit (cancel_invocation_command target)))

-- the handler's result
abbrev pub WritesOutput : GivenValue → Bool → Call
WritesOutput value unstable outcome old new =
    MadeWith (texts_of_value value)
    (RepliesWith unit_told (CallsUnit
    (output_command (given_value value) (record { unstable_serialization = unstable })
    old.machine.version))) outcome old new

-- the handler ends
abbrev pub EndsHandler : Call
EndsHandler = MakesCall (Answers unit_told end_step)

-- a key is given a value
abbrev pub SetsState : List ℕ → List ℕ → List ℕ → Bool → Call
SetsState key value name unstable =
    MadeWith (key ∷ name ∷ [])
    (RepliesWith unit_told (CallsUnit
    (set_state_command key value name (record { unstable_serialization = unstable }))))

-- a key's value is taken away
abbrev pub ClearsState : List ℕ → List ℕ → Call
ClearsState key name =
    MadeWith (key ∷ name ∷ []) (RepliesWith unit_told (CallsUnit (clear_state_command key name)))

-- each key's value is taken away
abbrev pub ClearsAllState : List ℕ → Call
ClearsAllState name =
    MadeWith (name ∷ []) (RepliesWith unit_told (CallsUnit (clear_all_state_command name)))

-- a key's value is read
abbrev pub ReadsState : List ℕ → List ℕ → Call
ReadsState key name =
    MadeWith (key ∷ name ∷ []) (RepliesWith handle (CallsRead (reads.Value key name)))

-- the keys that have a value are read
abbrev pub ReadsKeys : List ℕ → Call
ReadsKeys name = MadeWith (name ∷ []) (RepliesWith handle (CallsRead (reads.Keys name)))

-- a key's value is read, and nothing of it is left in the journal
abbrev pub ReadsEphemerally : List ℕ → Call
ReadsEphemerally key = MadeWith (key ∷ []) (Answers reply.Ephemeral (ephemeral_step key))

-- the value of an ephemeral read is taken
abbrev pub TakesEphemeral : ℕ → Call
TakesEphemeral id = MakesCall (Answers taken_told_of (take_ephemeral_step id))

-- a handle is awaited
abbrev pub AwaitsHandle : ℕ → Call
AwaitsHandle awaited =
    MakesCall (RepliesWith reply.Awaited (CallsFlatAwait (Single (record { 0 = awaited }))))

-- the tree that nodes are is awaited
abbrev pub AwaitsNodes : List Node → Call
AwaitsNodes nodes = MadeUnless (FailsAsTree nodes) (AwaitsTree nodes)

-- the result of a handle is taken
abbrev pub TakesResult : ℕ → Call
TakesResult of = MakesCall (Answers taken_told_of (take_step of))

-- the head of the response
abbrev pub ReadsHead : Call
ReadsHead = MakesCall (λ told old new. TellsHead old.machine.version told × (new ≡ old))

-- no more input comes
abbrev pub ClosesInput : Call
ClosesInput = MakesCall (λ told old new. FeedsVm [] (after_closing old) told old new)

-- the bytes that wait to be sent are taken
abbrev pub TakesOutputOf : Call
TakesOutputOf = MakesCall Drains

-- whether the handler may be run
abbrev pub AsksReady : Call
AsksReady = MakesCall (λ told old new. TellsReady old.machine told × (new ≡ old))

-- whether a handle has a result
abbrev pub AsksCompleted : ℕ → Call
AsksCompleted of =
    MakesCall (λ told old new.
    (told ≡ reply.Answer (answer.Completed (is_completed of old.machine)))
    × (new ≡ old))

-- the state
abbrev pub AsksState : Call
AsksState = MakesCall (λ told old new. (told ≡ reply.State (state_of old.machine)) × (new ≡ old))

-- the index of the last command
abbrev pub AsksIndex : Call
AsksIndex =
    MakesCall (λ told old new. (told ≡ reply.Index (last_index old.machine.counters.command))
    × (new ≡ old))

-- what the handler was called with
abbrev pub ReadsInput : Call
ReadsInput = MakesCall (Answers input_told input_step)

-- a run is called
abbrev pub CallsARun : List ℕ → Call
CallsARun name = MadeWith (name ∷ []) (RepliesWith reply.Run (CallsRun name))

-- the result of a run, under a policy
abbrev pub ProposesResult : ℕ → GivenValue → GivenPolicy → Call
ProposesResult of value given =
    MadeUnless (Misfits (texts_of_value value) (IsNoPolicy given)) (λ told old new.
    (policy : RetryPolicy) × IsPolicyOf given policy
    × RepliesWith unit_told (CallsProposal (record { 0 = of })
    (exit_of_value (given_value value)) policy) told old new)

-- a run's error after `millis` milliseconds, of which its policy says what follows
abbrev pub ProposesRetryable : ℕ → ℕ → GivenError → GivenPolicy → Call
ProposesRetryable of millis given by =
    MadeUnless (Misfits (texts_of_error given) ((behavior_at given.behavior ≡ None)
    ⊎ IsNoPolicy by)) (λ told old new.
    (span : Duration) × (e : Error) × (policy : RetryPolicy)
    × IsSpan millis span × IsErrorOf given e × IsPolicyOf by policy
    × RepliesWith unit_told (CallsProposal (record { 0 = of })
    (exit.RetryableFailure span e) policy) told old new)

-- the handler failed by an error of its own, which relates to a command or to none
abbrev pub ReportsError : GivenError → GivenCommand → Call
ReportsError given command =
    MadeUnless (Misfits (texts_of_error given
    ++ lent_texts command.name) ((behavior_at given.behavior ≡ None) ⊎ NamesNoCommand command))
    (λ told old new.
    (e : Error) × (related : Option CommandRelationship)
    × IsErrorOf given e × IsRelatedOf command related
    × FeedsVm [] (after_error old e related) told old new)

-- the handler attaches to another invocation
abbrev pub AttachesTo : GivenInvocation → Call
AttachesTo given =
    MadeUnless (Misfits (texts_of_invocation given) (invocation_of given ≡ None)) (λ told old new.
    (target : InvocationTarget) × (invocation_of given ≡ Some target)
    × RepliesWith handle (CallsCommand (attach_invocation_command target old.machine.version)) told
    old
    new)

-- another invocation's output is asked for
abbrev pub GetsOutput : GivenInvocation → Call
GetsOutput given =
    MadeUnless (Misfits (texts_of_invocation given) (invocation_of given ≡ None)) (λ told old new.
    (target : InvocationTarget) × (invocation_of given ≡ Some target)
    × RepliesWith handle (CallsCommand (get_invocation_output_command target old.machine.version))
    told
    old new)

-- another handler is called
abbrev pub CallsHandler : GivenTarget → List ℕ → List ℕ → Bool → Call
CallsHandler target bytes name unstable outcome old new =
    MadeWith (texts_of_call target name)
    (RepliesWith call_handles_told
    (CallsFor call_handles
    (call_command (given_target target) bytes name
    (record { unstable_serialization = unstable }) old.machine.version))) outcome old new

-- another handler is called, with a deadline
abbrev pub CallsWithDeadline : GivenTarget → List ℕ → ℕ → List ℕ → Bool → Call
CallsWithDeadline target bytes millis name unstable outcome old new =
    MadeWith (texts_of_call target name)
    (RepliesWith all_handles (CallsAllFor deadline_handles
    (call_command (given_target target) bytes name
    (record { unstable_serialization = unstable }) old.machine.version)
    (sleep_command millis [] ∷ []))) outcome old new

-- another handler is called, at a time in milliseconds, or at once if it is 0, and nobody waits for
-- it
abbrev pub SendsTo : GivenTarget → List ℕ → ℕ → List ℕ → Bool → Call
SendsTo target bytes millis name unstable outcome old new =
    MadeWith (texts_of_call target name)
    (RepliesWith sent (CallsFor send_handle
    (send_command (given_target target) bytes millis name
    (record { unstable_serialization = unstable }) old.machine.version))) outcome old new
