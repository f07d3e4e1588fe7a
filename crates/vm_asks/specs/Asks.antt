-- What each step of a handler asks of the machine: one table over steps. A command is given without
-- its numbers.
use Rattle.std.specs.Prelude.{ℕ, zero, suc, ◌+◌, ◌<◌, ◌≤◌, ◌^◌, ◌/◌, Bool, true, false, ◌&&◌, not, nat_lt, min, if◌then◌else◌, List, [], ◌∷◌, Option, Some, None, refl, length}
use Rattle.std.specs.Duration.{as_nanos}
use Rattle.std.specs.Option.{option_or}
use Rattle.std.specs.declared.time.Duration.{Duration}
use Rattle.vm_state.specs.declared.counters.Counters.{Counters}
use Rattle.vm_state.specs.Counting.{missing_number, missing_indexes}
use Rattle.journal_protocol.specs.CallRequest.{CallRequest}
use Rattle.journal_protocol.specs.NamedFault.{NamedFault}
use Rattle.journal_protocol.specs.NamedFault.TheVariants as fault
use Rattle.journal_protocol.specs.InvocationTarget.{InvocationTarget}
use Rattle.journal_protocol.specs.InvocationTarget.TheVariants as target
use Rattle.journal_protocol.specs.Commands.{IsCommand}
use Rattle.journal_protocol.specs.Message.{Message}
use Rattle.journal_protocol.specs.Message.TheVariants as message
use Rattle.journal_protocol.specs.ValueOrFailure.{ValueOrFailure}
use Rattle.journal_protocol.specs.ValueOrFailure.TheVariants as given
use Rattle.journal_protocol.specs.Signal.TheVariants.{Index, Name}
use Rattle.journal_protocol.specs.SignalResult.{SignalResult}
use Rattle.journal_protocol.specs.SignalResult.TheVariants as sent
use Rattle.journal_protocol.specs.Version.{Version}
use Rattle.vm_types.specs.declared.options.PayloadOptions.{PayloadOptions}
use Rattle.vm_types.specs.declared.steps.Answer.{Answer}
use Rattle.vm_types.specs.declared.steps.Answer.TheVariants as answer
use Rattle.vm_types.specs.declared.steps.Step.{Step}
use Rattle.vm_types.specs.declared.steps.Step.TheVariants as step
use Rattle.vm_types.specs.declared.types.CallHandle.{CallHandle}
use Rattle.vm_types.specs.declared.types.DeadlineCallHandle.{DeadlineCallHandle}
use Rattle.await_trees.specs.declared.handle.NotificationHandle.{NotificationHandle}
use Rattle.vm_types.specs.declared.types.SendHandle.{SendHandle}
use Rattle.vm_types.specs.declared.values.NonEmptyValue.{NonEmptyValue}
use Rattle.vm_types.specs.declared.values.NonEmptyValue.TheVariants.{Success, Failure}
use Rattle.vm_types.specs.declared.values.Target.{Target}
use Rattle.vm_types.specs.Values.{value_message}
use Rattle.vm_asks.specs.declared.asks.AnswerKind.{AnswerKind}
use Rattle.vm_asks.specs.declared.asks.AnswerKind.TheVariants as kind
use Rattle.vm_asks.specs.declared.asks.Ask.{Ask}
use Rattle.vm_asks.specs.declared.asks.Ask.TheVariants as ask
use Rattle.vm_asks.specs.declared.command.Command.{Command}
use Rattle.vm_asks.specs.declared.state_read.StateRead.TheVariants as reads
use Rattle.journal_protocol.specs.Versions.{is_from_v6, is_from_v7}
use Rattle.vm_asks.specs.Requests.{ids_of}

-- ---- checks

-- the list has no items
abbrev pub is_empty : {A : Type 0} → List A → Bool
is_empty [] = true
is_empty (x ∷ xs) = false

-- metadata on a failure
abbrev pub has_metadata : NonEmptyValue → Bool
has_metadata (Success bytes) = false
has_metadata (Failure f) = not (is_empty f.metadata)

-- a value that the version cannot send: metadata on a failure needs V6
abbrev pub value_fault : NonEmptyValue → Version → Option NamedFault
value_fault value version = if has_metadata value && not (is_from_v6 version)
    then Some fault.UnsupportedFeatureForNegotiatedVersion else None

-- a time in whole milliseconds that no u64 holds
abbrev pub time_fault : ℕ → Option NamedFault
time_fault millis =
    if nat_lt millis 18446744073709551616 then None else Some fault.OutOfBoundsDuration

-- a text that is there and empty
abbrev pub empty_fault : NamedFault → Option (List ℕ) → Option NamedFault
empty_fault name None = None
empty_fault name (Some text) = if is_empty text then Some name else None

-- a text that is there before V7
abbrev pub early_fault : Version → Option (List ℕ) → Option NamedFault
early_fault version None = None
early_fault version (Some text) = if is_from_v7 version then None
    else Some fault.UnsupportedFeatureForNegotiatedVersion

-- the first fault that there is
abbrev pub first_fault : List (Option NamedFault) → Option NamedFault
first_fault [] = None
first_fault (f ∷ fs) = option_or f (first_fault fs)

-- a scope that can't be sent: an empty one, and before V7 each
abbrev pub scope_fault : Option (List ℕ) → Version → Option NamedFault
scope_fault scope version =
    first_fault (empty_fault fault.EmptyScope scope ∷ early_fault version scope ∷ [])

-- a target that can't be called: of its texts these may not be empty, and these need V7
abbrev pub target_fault : Target → Version → Option NamedFault
target_fault target version =
    first_fault (empty_fault fault.EmptyIdempotencyKey target.idempotency_key
    ∷ empty_fault fault.EmptyScope target.scope
    ∷ empty_fault fault.EmptyLimitKey target.limit_key
    ∷ early_fault version target.scope
    ∷ early_fault version target.limit_key
    ∷ [])

-- ---- commands

-- a command that no argument refuses
abbrev pub allowed : (m : Message) → Bool → IsCommand m → Command
allowed m unstable is = record { refusal = None; message = m; unstable = unstable; is_command = is }

-- a sleep to a time in whole milliseconds
abbrev pub sleep_command : ℕ → List ℕ → Command
sleep_command millis name = record {
  refusal = time_fault millis;
  message = message.Sleep (record {
    wake_up_time = min millis 18446744073709551615;
    result_completion_id = 0;
    name = name;
  });
  unstable = false;
  is_command = refl;
}

-- the handler's output
abbrev pub output_command : NonEmptyValue → PayloadOptions → Version → Command
output_command value options version = record {
  refusal = value_fault value version;
  message = message.Output (record { result = value_message value });
  unstable = options.unstable_serialization;
  is_command = refl;
}

-- a state key is set
abbrev pub set_state_command : List ℕ → List ℕ → List ℕ → PayloadOptions → Command
set_state_command key value name options = allowed
    (message.SetState (record { name = name; key = key; value = value }))
    options.unstable_serialization refl

-- a state key is cleared
abbrev pub clear_state_command : List ℕ → List ℕ → Command
clear_state_command key name =
    allowed (message.ClearState (record { name = name; key = key })) false refl

-- all state keys are cleared
abbrev pub clear_all_state_command : List ℕ → Command
clear_all_state_command name = allowed (message.ClearAllState (record { name = name })) false refl

-- an awakeable is completed
abbrev pub complete_awakeable_command : List ℕ → NonEmptyValue → PayloadOptions → Version → Command
complete_awakeable_command id value options version = record {
  refusal = value_fault value version;
  message = message.CompleteAwakeable (record { awakeable_id = id; result = value_message value });
  unstable = options.unstable_serialization;
  is_command = refl;
}

-- a result, as a signal's
abbrev pub signal_result : ValueOrFailure → SignalResult
signal_result (given.Value bytes) = sent.Value bytes
signal_result (given.Failure failure) = sent.Failure failure

-- a named signal is sent
abbrev pub complete_signal_command : List ℕ → List ℕ → NonEmptyValue → Version → Command
complete_signal_command target signal value version = record {
  refusal = value_fault value version;
  message = message.SendSignal
      (record {
        target_invocation_id = target;
        signal = Name signal;
        result = signal_result (value_message value);
      });
  unstable = false;
  is_command = refl;
}

-- the cancel signal is sent
abbrev pub cancel_invocation_command : List ℕ → Command
cancel_invocation_command target = allowed
    (message.SendSignal (record {
      target_invocation_id = target;
      signal = Index 1;
      result = sent.Void;
    })) false refl

-- a promise of the workflow is awaited
abbrev pub get_promise_command : List ℕ → Command
get_promise_command key =
    allowed (message.GetPromise (record { key = key; result_completion_id = 0 })) false refl

-- the handler looks whether a promise of the workflow is completed
abbrev pub peek_promise_command : List ℕ → Command
peek_promise_command key =
    allowed (message.PeekPromise (record { key = key; result_completion_id = 0 })) false refl

-- a promise of the workflow is completed
abbrev pub complete_promise_command : List ℕ → NonEmptyValue → PayloadOptions → Version → Command
complete_promise_command key value options version = record {
  refusal = value_fault value version;
  message = message.CompletePromise
      (record { key = key; completion = value_message value; result_completion_id = 0 });
  unstable = options.unstable_serialization;
  is_command = refl;
}

-- an effect is executed outside, and its result is proposed
abbrev pub run_command : List ℕ → Command
run_command name =
    allowed (message.Run (record { name = name; result_completion_id = 0 })) false refl

-- the scope of an invocation that is named by its workflow or its idempotency key
abbrev pub scope_of : InvocationTarget → Option (List ℕ)
scope_of (target.InvocationId id) = None
scope_of (target.WorkflowId workflow) = workflow.scope
scope_of (target.IdempotencyId call) = call.scope

-- the handler attaches to an invocation
abbrev pub attach_invocation_command : InvocationTarget → Version → Command
attach_invocation_command target version = record {
  refusal = scope_fault (scope_of target) version;
  message = message.AttachInvocation (record { target = target; result_completion_id = 0 });
  unstable = false;
  is_command = refl;
}

-- the handler looks whether an invocation has an output
abbrev pub get_invocation_output_command : InvocationTarget → Version → Command
get_invocation_output_command target version = record {
  refusal = scope_fault (scope_of target) version;
  message = message.GetInvocationOutput (record { target = target; result_completion_id = 0 });
  unstable = false;
  is_command = refl;
}

-- an absent name is empty
abbrev pub name_in : Option (List ℕ) → List ℕ
name_in None = []
name_in (Some name) = name

-- what is asked of the handler that is called
abbrev pub request_of : Target → List ℕ → List ℕ → CallRequest
request_of target input name = record {
  service_name = target.service;
  handler_name = target.handler;
  key = name_in target.key;
  idempotency_key = target.idempotency_key;
  scope = target.scope;
  limit_key = target.limit_key;
  headers = target.headers;
  parameter = input;
  invocation_id_notification_idx = 0;
  name = name;
}

-- another handler is called
abbrev pub call_command : Target → List ℕ → List ℕ → PayloadOptions → Version → Command
call_command target input name options version = record {
  refusal = target_fault target version;
  message =
      message.Call (record { request = request_of target input name; result_completion_id = 0 });
  unstable = options.unstable_serialization;
  is_command = refl;
}

-- another handler is called at a time in whole milliseconds, 0 for at once, and its result isn't
-- waited for
abbrev pub send_command : Target → List ℕ → ℕ → List ℕ → PayloadOptions → Version → Command
send_command target input millis name options version = record {
  refusal = option_or (target_fault target version) (time_fault millis);
  message = message.OneWayCall
      (record {
        request = request_of target input name;
        invoke_time = min millis 18446744073709551615;
      });
  unstable = options.unstable_serialization;
  is_command = refl;
}

-- a time in whole milliseconds, 0 if there is none
abbrev pub millis_of : Option Duration → ℕ
millis_of None = 0
millis_of (Some time) = as_nanos time / 1000000

-- ---- the table

-- what a step asks for, in an attempt of this version
abbrev pub ask_of : Version → Step → Ask
ask_of version (step.Sleep name wake_up_time now) = ask.Command
    (sleep_command (as_nanos wake_up_time / 1000000) name)
ask_of version (step.StateSet key value name options) = ask.Command
    (set_state_command key value (name_in name) options)
ask_of version (step.StateClear key name) = ask.Command (clear_state_command key (name_in name))
ask_of version (step.StateClearAll name) = ask.Command (clear_all_state_command (name_in name))
ask_of version (step.StateGet key name options) = ask.Read (reads.Value key (name_in name))
ask_of version (step.StateGetKeys name) = ask.Read (reads.Keys (name_in name))
ask_of version (step.Call target input name options) = ask.Command
    (call_command target input (name_in name) options version)
ask_of version (step.CallWithDeadline target input time name options) = ask.Commands
    kind.CallWithDeadline (call_command target input (name_in name) options version)
    (sleep_command (as_nanos time / 1000000) [])
ask_of version (step.Send target input time name options) = ask.Command
    (send_command target input (millis_of time) (name_in name) options version)
ask_of version step.Awakeable = ask.Awakeable
ask_of version (step.Signal name) = ask.Signal name
ask_of version (step.CompleteAwakeable id value options) = ask.Command
    (complete_awakeable_command id value options version)
ask_of version (step.CompleteSignal target signal value) = ask.Command
    (complete_signal_command target signal value version)
ask_of version (step.CancelInvocation target) = ask.Command (cancel_invocation_command target)
ask_of version (step.GetPromise key) = ask.Command (get_promise_command key)
ask_of version (step.PeekPromise key) = ask.Command (peek_promise_command key)
ask_of version (step.CompletePromise key value options) = ask.Command
    (complete_promise_command key value options version)
ask_of version (step.Run name) = ask.Command (run_command name)
ask_of version (step.AttachInvocation target) = ask.Command
    (attach_invocation_command target version)
ask_of version (step.GetInvocationOutput target) = ask.Command
    (get_invocation_output_command target version)
ask_of version (step.WriteOutput value options) = ask.Command (output_command value options version)
ask_of version (step.Await future) = ask.Await future
ask_of version (step.Take handle) = ask.Take handle
ask_of version (step.Completed handle) = ask.Completed handle
ask_of version step.End = ask.End

-- by its handle, where it has one
abbrev pub kind_by_ids : ℕ → AnswerKind
kind_by_ids zero = kind.Unit
kind_by_ids (suc n) = kind.Handle

-- how a command is answered: a call by two handles, a send by that of the invocation's id, another
-- by its own
abbrev pub answer_kind : Message → AnswerKind
answer_kind (message.Call c) = kind.Call
answer_kind (message.OneWayCall c) = kind.Send
answer_kind m = kind_by_ids (ids_of m)

-- the two handles of a call
abbrev pub call_handles : NotificationHandle → CallHandle
call_handles handle = record {
  invocation_id_notification_handle = handle;
  call_notification_handle = record { 0 = handle.0 + 1 };
}

-- the three handles of a call with a deadline
abbrev pub deadline_handles : NotificationHandle → DeadlineCallHandle
deadline_handles handle = record {
  invocation_id_notification_handle = handle;
  call_notification_handle = record { 0 = handle.0 + 1 };
  deadline_notification_handle = record { 0 = handle.0 + 2 };
}

-- the handle of a send
abbrev pub send_handle : NotificationHandle → SendHandle
send_handle handle = record { invocation_id_notification_handle = handle }

-- the answer of this kind, by the first handle
abbrev pub answer_by : AnswerKind → NotificationHandle → Answer
answer_by kind.Unit handle = answer.Unit
answer_by kind.Handle handle = answer.Handle handle
answer_by kind.Call handle = answer.Call (call_handles handle)
answer_by kind.CallWithDeadline handle = answer.CallWithDeadline (deadline_handles handle)
answer_by kind.Send handle = answer.Send (send_handle handle)

-- the answer of a command, by its first handle
abbrev pub command_answer : Message → NotificationHandle → Answer
command_answer m handle = answer_by (answer_kind m) handle

-- all handles of a call are there
abbrev pub HandlesFit : AnswerKind → NotificationHandle → Type 0
HandlesFit kind.Call handle = handle.0 + 1 < 2 ^ 32
HandlesFit kind.CallWithDeadline handle = handle.0 + 2 < 2 ^ 32
HandlesFit other handle = Unit {0}

-- ---- several commands

-- how many completion ids a command and those after it take, with a handle for each
abbrev pub all_ids : Command → List Command → ℕ
all_ids c [] = ids_of c.message
all_ids c (b ∷ bs) = ids_of c.message + all_ids b bs

-- why arguments refuse a command or one of those after it: the first reason
abbrev pub any_refusal : Command → List Command → Option NamedFault
any_refusal c [] = c.refusal
any_refusal c (b ∷ bs) = option_or c.refusal (any_refusal b bs)

-- this holds of a command and of each of those after it
abbrev pub EachIs : (Command → Type 0) → Command → List Command → Type 0
EachIs P c [] = P c
EachIs P c (b ∷ bs) = P c × EachIs P b bs

-- an answer of this kind has at most this number of handles
abbrev pub AnswerTakes : AnswerKind → ℕ → Type 0
AnswerTakes kind.Call handles = 2 ≤ handles
AnswerTakes kind.CallWithDeadline handles = 3 ≤ handles
AnswerTakes other handles = Unit {0}

-- several commands have the handles that their call is answered by
abbrev pub AnswerFits : Ask → Type 0
AnswerFits (ask.Commands kind first second) = AnswerTakes kind (all_ids first (second ∷ []))
AnswerFits a = Unit {0}

-- the first kind of number of which a command and those after it need more than are left
abbrev pub missing_for : Command → List Command → Counters → Option NamedFault
missing_for c cs k =
    option_or (missing_number (all_ids c cs) 0 (all_ids c cs) k)
    (missing_indexes (suc (length cs)) k)
