-- The bytes of each message to other invocations, to promises and to awakeables.
use Rattle.std.specs.Prelude.{ℕ, List, [], ◌∷◌}
use Rattle.wire.specs.Format.{u32s, u64s, bytes, option, list, fields}
use Rattle.journal_values.specs.declared.notification.NotificationId.TheVariants as id
use Rattle.journal_calls.specs.declared.calls.CallRequest.{CallRequest}
use Rattle.journal_calls.specs.declared.calls.CallCommand.{CallCommand}
use Rattle.journal_calls.specs.declared.calls.OneWayCallCommand.{OneWayCallCommand}
use Rattle.journal_calls.specs.declared.signals.CompleteAwakeableCommand.{CompleteAwakeableCommand}
use Rattle.journal_calls.specs.declared.signals.SendSignalCommand.{SendSignalCommand}
use Rattle.journal_calls.specs.declared.signals.Signal.{Signal}
use Rattle.journal_calls.specs.declared.signals.Signal.TheVariants as by
use Rattle.journal_calls.specs.declared.signals.SignalResult.{SignalResult}
use Rattle.journal_calls.specs.declared.signals.SignalResult.TheVariants as sent
use Rattle.journal_calls.specs.declared.promises.PromiseCommand.{PromiseCommand}
use Rattle.journal_calls.specs.declared.promises.CompletePromiseCommand.{CompletePromiseCommand}
use Rattle.journal_calls.specs.declared.invocations.InvocationTarget.{InvocationTarget}
use Rattle.journal_calls.specs.declared.invocations.InvocationTarget.TheVariants as of
use Rattle.journal_calls.specs.declared.invocations.WorkflowId.{WorkflowId}
use Rattle.journal_calls.specs.declared.invocations.IdempotencyId.{IdempotencyId}
use Rattle.journal_calls.specs.declared.invocations.InvocationCommand.{InvocationCommand}
use Rattle.journal_values.specs.Encoding.{header, failure, value_or_failure}

-- ---- calls

-- what a call asks for: service, handler and key (texts); idempotency key, scope, limit key: each
-- 0, or 1 and a text; headers: a count (u64) and the headers; parameter (bytes), the completion id
-- of the invocation's id (u32), name (text)
unfoldable pub call_request : CallRequest → List ℕ
call_request r = fields (bytes r.service_name ∷ bytes r.handler_name ∷ bytes r.key
    ∷ option bytes r.idempotency_key ∷ option bytes r.scope ∷ option bytes r.limit_key
    ∷ list header r.headers ∷ bytes r.parameter ∷ u32s r.invocation_id_notification_idx
    ∷ bytes r.name ∷ [])

-- a call: its request, the completion id of its result (u32)
unfoldable pub call_body : CallCommand → List ℕ
call_body m = fields (call_request m.request ∷ u32s m.result_completion_id ∷ [])

-- a call without a result: its request, the time in ms at which it starts (u64; 0 is at once)
unfoldable pub one_way_call : OneWayCallCommand → List ℕ
one_way_call m = fields (call_request m.request ∷ u64s m.invoke_time ∷ [])

-- ---- signals

-- an awakeable is completed: its id (text), a value or a failure
unfoldable pub complete_awakeable_body : CompleteAwakeableCommand → List ℕ
complete_awakeable_body m = fields (bytes m.awakeable_id ∷ value_or_failure m.result ∷ [])

-- 0 and a signal's number (u32), or 1 and its name (text)
abbrev pub signal_bytes : Signal → List ℕ
signal_bytes (by.Index n) = 0 ∷ u32s n
signal_bytes (by.Name name) = 1 ∷ bytes name

-- 0 for void, 1 and a value's bytes, or 2 and a failure
abbrev pub signal_result_bytes : SignalResult → List ℕ
signal_result_bytes sent.Void = 0 ∷ []
signal_result_bytes (sent.Value bs) = 1 ∷ bytes bs
signal_result_bytes (sent.Failure f) = 2 ∷ failure f

-- a signal is sent: the id of the invocation that it goes to (text), which signal, and its result
unfoldable pub send_signal : SendSignalCommand → List ℕ
send_signal m =
    fields (bytes m.target_invocation_id ∷ signal_bytes m.signal
    ∷ signal_result_bytes m.result ∷ [])

-- ---- promises

-- a promise is awaited or looked at: key (text), the completion id of its result (u32)
unfoldable pub promise_body : PromiseCommand → List ℕ
promise_body m = fields (bytes m.key ∷ u32s m.result_completion_id ∷ [])

-- a promise is completed: key (text), a value or a failure, the completion id of the command's
-- result (u32)
unfoldable pub complete_promise_body : CompletePromiseCommand → List ℕ
complete_promise_body m =
    fields (bytes m.key ∷ value_or_failure m.completion ∷ u32s m.result_completion_id ∷ [])

-- ---- other invocations

-- a workflow's run: name and key (texts), scope: 0, or 1 and a text
unfoldable pub workflow_id : WorkflowId → List ℕ
workflow_id w = fields (bytes w.name ∷ bytes w.key ∷ option bytes w.scope ∷ [])

-- a call by its idempotency key: service (text), its key: 0, or 1 and a text; handler and
-- idempotency key (texts); scope: 0, or 1 and a text
unfoldable pub idempotency_id : IdempotencyId → List ℕ
idempotency_id w = fields (bytes w.service_name ∷ option bytes w.service_key ∷ bytes w.handler_name
    ∷ bytes w.idempotency_key ∷ option bytes w.scope ∷ [])

-- 0 and an invocation's id (text), 1 and a workflow's run, or 2 and a call by its idempotency key
abbrev pub invocation_target : InvocationTarget → List ℕ
invocation_target (of.InvocationId id) = 0 ∷ bytes id
invocation_target (of.WorkflowId w) = 1 ∷ workflow_id w
invocation_target (of.IdempotencyId w) = 2 ∷ idempotency_id w

-- an invocation is attached to or asked for its output: which one, the completion id of the result
-- (u32)
unfoldable pub invocation : InvocationCommand → List ℕ
invocation m = fields (invocation_target m.target ∷ u32s m.result_completion_id ∷ [])
