-- What a message asks for as a command: how errors show it, its numbers, and what it changes. One
-- table over messages for all calls; a message that isn't named in one takes no part in it.
use Rattle.std.specs.Prelude.{ℕ, ◌+◌, Bool, false, if◌then◌else◌, List, []}
use Rattle.journal_protocol.specs.Message.{Message}
use Rattle.journal_protocol.specs.Message.TheVariants as message
use Rattle.journal_protocol.specs.MessageType.{MessageType}
use Rattle.journal_protocol.specs.MessageType.TheVariants as type
use Rattle.journal_protocol.specs.Frames.{type_of}
use Rattle.vm_state.specs.declared.state_map.StateMap.{StateMap}
use Rattle.vm_types.specs.declared.options.ImplicitCancellationOption.{ImplicitCancellationOption}
use Rattle.vm_state.specs.declared.tracked_call.TrackedCall.{TrackedCall}
use Rattle.vm_types.specs.Options.{cancels_calls, cancels_sends}
use Rattle.vm_state.specs.States.{state_set, state_cleared, all_cleared}
use Rattle.vm_state.specs.TrackedCalls.{with_call}

-- the type that errors show: a state read is shown as its lazy form
abbrev pub shown_type : Message → MessageType
shown_type (message.GetEagerState c) = type.GetLazyStateCommand
shown_type (message.GetEagerStateKeys c) = type.GetLazyStateKeysCommand
shown_type m = type_of m

-- the name that errors show
abbrev pub name_of : Message → List ℕ
name_of (message.Sleep c) = c.name
name_of (message.SetState c) = c.name
name_of (message.ClearState c) = c.name
name_of (message.ClearAllState c) = c.name
name_of (message.GetLazyState c) = c.name
name_of (message.GetLazyStateKeys c) = c.name
name_of (message.GetEagerState c) = c.name
name_of (message.GetEagerStateKeys c) = c.name
name_of (message.Call c) = c.request.name
name_of (message.OneWayCall c) = c.request.name
name_of (message.Run c) = c.name
name_of m = []

-- how many completion ids it takes, with a handle for each
abbrev pub ids_of : Message → ℕ
ids_of (message.Sleep c) = 1
ids_of (message.GetLazyState c) = 1
ids_of (message.GetLazyStateKeys c) = 1
ids_of (message.Call c) = 2
ids_of (message.OneWayCall c) = 1
ids_of (message.GetPromise c) = 1
ids_of (message.PeekPromise c) = 1
ids_of (message.CompletePromise c) = 1
ids_of (message.Run c) = 1
ids_of (message.AttachInvocation c) = 1
ids_of (message.GetInvocationOutput c) = 1
ids_of m = 0

-- the message with its completion ids, of which this is the first
abbrev pub with_ids : ℕ → Message → Message
with_ids id (message.Sleep c) = message.Sleep (record c { result_completion_id = id })
with_ids id (message.GetLazyState c) = message.GetLazyState (record c { result_completion_id = id })
with_ids id (message.GetLazyStateKeys c) = message.GetLazyStateKeys
    (record c { result_completion_id = id })
with_ids id (message.Call c) = message.Call
    (record c {
      request = record c.request { invocation_id_notification_idx = id };
      result_completion_id = id + 1;
    })
with_ids id (message.OneWayCall c) = message.OneWayCall
    (record c { request = record c.request { invocation_id_notification_idx = id } })
with_ids id (message.GetPromise c) = message.GetPromise (record c { result_completion_id = id })
with_ids id (message.PeekPromise c) = message.PeekPromise (record c { result_completion_id = id })
with_ids id (message.CompletePromise c) = message.CompletePromise
    (record c { result_completion_id = id })
with_ids id (message.Run c) = message.Run (record c { result_completion_id = id })
with_ids id (message.AttachInvocation c) = message.AttachInvocation
    (record c { result_completion_id = id })
with_ids id (message.GetInvocationOutput c) = message.GetInvocationOutput
    (record c { result_completion_id = id })
with_ids id m = m

-- the state after it
abbrev pub changed : Message → StateMap → StateMap
changed (message.SetState c) state = state_set c.key c.value state
changed (message.ClearState c) state = state_cleared c.key state
changed (message.ClearAllState c) state = all_cleared state
changed m state = state

-- by these options the invocation that it asks for is cancelled with the handler's
abbrev pub is_cancelled_with : ImplicitCancellationOption → Message → Bool
is_cancelled_with option (message.Call c) = cancels_calls option
is_cancelled_with option (message.OneWayCall c) = cancels_sends option
is_cancelled_with option m = false

-- the tracked calls after it, by its first handle
abbrev pub tracked_after : ImplicitCancellationOption → Message → ℕ → List TrackedCall
    → List TrackedCall
tracked_after option m handle tracked =
    if is_cancelled_with option m then with_call handle tracked else tracked
