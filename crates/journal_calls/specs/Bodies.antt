-- The formats of the bodies of messages to others.
use Rattle.std.specs.Prelude.{◌≡◌, refl}
use Rattle.wire.specs.Format.{Format}
use Rattle.wire.specs.Forms.{u32_format, u64_format, bytes_format, text_format, pair_format, option_format, list_format, via, spelled}
use Rattle.journal_calls.specs.Encoding.{call_request, call_body, one_way_call, complete_awakeable_body, send_signal, promise_body, complete_promise_body, invocation}
use Rattle.journal_values.specs.Parts.{header_format, value_format}
use Rattle.journal_calls.specs.Choices.{signal_format, signal_result_format, target_format}
use Rattle.journal_calls.specs.declared.calls.CallRequest.{CallRequest}
use Rattle.journal_calls.specs.declared.calls.CallCommand.{CallCommand}
use Rattle.journal_calls.specs.declared.calls.OneWayCallCommand.{OneWayCallCommand}
use Rattle.journal_calls.specs.declared.signals.CompleteAwakeableCommand.{CompleteAwakeableCommand}
use Rattle.journal_calls.specs.declared.signals.SendSignalCommand.{SendSignalCommand}
use Rattle.journal_calls.specs.declared.promises.PromiseCommand.{PromiseCommand}
use Rattle.journal_calls.specs.declared.promises.CompletePromiseCommand.{CompletePromiseCommand}
use Rattle.journal_calls.specs.declared.invocations.InvocationCommand.{InvocationCommand}

-- ---- call request

-- a call's request as nested pairs of its ten fields, in the order in which they are encoded
abbrev pub call_request_by_parts : Format CallRequest
call_request_by_parts = via
    (λ r. (
      r.service_name,
      (
        r.handler_name,
        (
          r.key,
          (
            r.idempotency_key,
            (
              r.scope,
              (r.limit_key, (r.headers, (r.parameter, (r.invocation_id_notification_idx, r.name)))),
            ),
          ),
        ),
      ),
    ))
    (λ (
      service_name,
      (
        handler_name,
        (
          key,
          (
            idempotency_key,
            (scope, (limit_key, (headers, (parameter, (invocation_id_notification_idx, name))))),
          ),
        ),
      ),
    ).
    record {
      service_name = service_name;
      handler_name = handler_name;
      key = key;
      idempotency_key = idempotency_key;
      scope = scope;
      limit_key = limit_key;
      headers = headers;
      parameter = parameter;
      invocation_id_notification_idx = invocation_id_notification_idx;
      name = name;
    }) (λ _. refl) (λ _. refl)
    (pair_format text_format
    (pair_format text_format
    (pair_format text_format
    (pair_format (option_format text_format)
    (pair_format (option_format text_format)
    (pair_format (option_format text_format)
    (pair_format (list_format header_format)
    (pair_format bytes_format (pair_format u32_format text_format)))))))))

pub call_request_same : (r : CallRequest) → call_request r ≡ (call_request_by_parts).spelling r
unfolding call_request
call_request_same r = refl

-- the format of a call's request: service, handler and key (texts), idempotency key, scope and
-- limit key (texts or none), headers (a list), parameter (bytes), the completion id of the
-- invocation's id (u32), name (text)
abbrev pub call_request_format : Format CallRequest
call_request_format = spelled call_request call_request_by_parts call_request_same

-- ---- call

-- a call as (request, completion id)
abbrev pub call_by_parts : Format CallCommand
call_by_parts = via (λ m. (m.request, m.result_completion_id))
    (λ p. record { request = p.0; result_completion_id = p.1 }) (λ _. refl) (λ _. refl)
    (pair_format call_request_format u32_format)

pub call_same : (m : CallCommand) → call_body m ≡ (call_by_parts).spelling m
unfolding call_body
call_same m = refl

-- the format of a call's body: its request, completion id (u32)
abbrev pub call_format : Format CallCommand
call_format = spelled call_body call_by_parts call_same

-- ---- one way call

-- a call without a result as (request, invoke time)
abbrev pub one_way_call_by_parts : Format OneWayCallCommand
one_way_call_by_parts = via (λ m. (m.request, m.invoke_time))
    (λ p. record { request = p.0; invoke_time = p.1 }) (λ _. refl) (λ _. refl)
    (pair_format call_request_format u64_format)

pub one_way_call_same : (m : OneWayCallCommand) → one_way_call m
    ≡ (one_way_call_by_parts).spelling m
unfolding one_way_call
one_way_call_same m = refl

-- the format of the body of a call without a result: its request, invoke time (u64)
abbrev pub one_way_call_format : Format OneWayCallCommand
one_way_call_format = spelled one_way_call one_way_call_by_parts one_way_call_same

-- ---- complete awakeable

-- the completion of an awakeable as (awakeable's id, result)
abbrev pub complete_awakeable_by_parts : Format CompleteAwakeableCommand
complete_awakeable_by_parts = via (λ m. (m.awakeable_id, m.result))
    (λ p. record { awakeable_id = p.0; result = p.1 }) (λ _. refl) (λ _. refl)
    (pair_format text_format value_format)

pub complete_awakeable_same : (m : CompleteAwakeableCommand) → complete_awakeable_body m
    ≡ (complete_awakeable_by_parts).spelling m
unfolding complete_awakeable_body
complete_awakeable_same m = refl

-- the format of the body that completes an awakeable: its id (text), a value or a failure
abbrev pub complete_awakeable_format : Format CompleteAwakeableCommand
complete_awakeable_format =
    spelled complete_awakeable_body complete_awakeable_by_parts complete_awakeable_same

-- ---- send signal

-- a signal that is sent as (invocation's id, (signal, result))
abbrev pub send_signal_by_parts : Format SendSignalCommand
send_signal_by_parts = via (λ m. (m.target_invocation_id, (m.signal, m.result)))
    (λ p. record { target_invocation_id = p.0; signal = p.1.0; result = p.1.1 }) (λ _. refl)
    (λ _. refl)
    (pair_format text_format (pair_format signal_format signal_result_format))

pub send_signal_same : (m : SendSignalCommand) → send_signal m ≡ (send_signal_by_parts).spelling m
unfolding send_signal
send_signal_same m = refl

-- the format of the body that sends a signal: the invocation's id (text), a number or a name, and
-- void, a value or a failure
abbrev pub send_signal_format : Format SendSignalCommand
send_signal_format = spelled send_signal send_signal_by_parts send_signal_same

-- ---- promise

-- a get or peek of a promise as (key, completion id)
abbrev pub promise_by_parts : Format PromiseCommand
promise_by_parts = via (λ m. (m.key, m.result_completion_id))
    (λ p. record { key = p.0; result_completion_id = p.1 }) (λ _. refl) (λ _. refl)
    (pair_format text_format u32_format)

pub promise_same : (m : PromiseCommand) → promise_body m ≡ (promise_by_parts).spelling m
unfolding promise_body
promise_same m = refl

-- the format of the body of both a get and a peek of a promise: key (text), completion id (u32)
abbrev pub promise_format : Format PromiseCommand
promise_format = spelled promise_body promise_by_parts promise_same

-- ---- complete promise

-- the completion of a promise as (key, (completion, completion id))
abbrev pub complete_promise_by_parts : Format CompletePromiseCommand
complete_promise_by_parts = via (λ m. (m.key, (m.completion, m.result_completion_id)))
    (λ p. record { key = p.0; completion = p.1.0; result_completion_id = p.1.1 }) (λ _. refl)
    (λ _. refl)
    (pair_format text_format (pair_format value_format u32_format))

pub complete_promise_same : (m : CompletePromiseCommand) → complete_promise_body m
    ≡ (complete_promise_by_parts).spelling m
unfolding complete_promise_body
complete_promise_same m = refl

-- the format of the body that completes a promise: key (text), a value or a failure, completion id
-- (u32)
abbrev pub complete_promise_format : Format CompletePromiseCommand
complete_promise_format =
    spelled complete_promise_body complete_promise_by_parts complete_promise_same

-- ---- invocation

-- a command about an invocation as (target, completion id)
abbrev pub invocation_by_parts : Format InvocationCommand
invocation_by_parts = via (λ m. (m.target, m.result_completion_id))
    (λ p. record { target = p.0; result_completion_id = p.1 }) (λ _. refl) (λ _. refl)
    (pair_format target_format u32_format)

pub invocation_same : (m : InvocationCommand) → invocation m ≡ (invocation_by_parts).spelling m
unfolding invocation
invocation_same m = refl

-- the format of the body that attaches to an invocation or asks for its output: which one,
-- completion id (u32)
abbrev pub invocation_format : Format InvocationCommand
invocation_format = spelled invocation invocation_by_parts invocation_same
