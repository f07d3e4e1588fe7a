-- The formats of the bodies of an attempt's own messages.
use Rattle.std.specs.Prelude.{◌≡◌, refl}
use Rattle.wire.specs.Format.{Format}
use Rattle.wire.specs.Forms.{u32_format, u64_format, flag_format, bytes_format, text_format, pair_format, option_format, list_format, via, spelled}
use Rattle.journal_attempt.specs.Encoding.{start_body, input, sleep_body, output_body, suspension, awaiting_on, run_body, propose_run_completion, propose_run_completion_ack}
use Rattle.journal_values.specs.Parts.{header_format, value_format}
use Rattle.journal_attempt.specs.Futures.{future_format}
use Rattle.journal_attempt.specs.declared.control.Suspension.{Suspension}
use Rattle.journal_attempt.specs.declared.control.AwaitingOn.{AwaitingOn}
use Rattle.journal_attempt.specs.declared.start.Start.{Start}
use Rattle.journal_attempt.specs.declared.commands.InputCommand.{InputCommand}
use Rattle.journal_attempt.specs.declared.commands.SleepCommand.{SleepCommand}
use Rattle.journal_attempt.specs.declared.commands.OutputCommand.{OutputCommand}
use Rattle.journal_attempt.specs.declared.runs.RunCommand.{RunCommand}
use Rattle.journal_attempt.specs.declared.runs.ProposeRunCompletion.{ProposeRunCompletion}
use Rattle.journal_attempt.specs.declared.runs.ProposeRunCompletionAck.{ProposeRunCompletionAck}

-- ---- input

-- an input as (headers, value)
abbrev pub input_by_parts : Format InputCommand
input_by_parts = via (λ m. (m.headers, m.value)) (λ p. record { headers = p.0; value = p.1 })
    (λ _. refl) (λ _. refl)
    (pair_format (list_format header_format) bytes_format)

pub input_same : (m : InputCommand) → input m ≡ (input_by_parts).spelling m
unfolding input
input_same m = refl

-- the format of an input's body: a list of headers, and the value's bytes
abbrev pub input_format : Format InputCommand
input_format = spelled input input_by_parts input_same

-- ---- sleep

-- a sleep as (wake-up time, (completion id, name))
abbrev pub sleep_by_parts : Format SleepCommand
sleep_by_parts = via (λ m. (m.wake_up_time, (m.result_completion_id, m.name)))
    (λ p. record { wake_up_time = p.0; result_completion_id = p.1.0; name = p.1.1 }) (λ _. refl)
    (λ _. refl)
    (pair_format u64_format (pair_format u32_format text_format))

pub sleep_same : (m : SleepCommand) → sleep_body m ≡ (sleep_by_parts).spelling m
unfolding sleep_body
sleep_same m = refl

-- the format of a sleep's body: wake-up time (u64), completion id (u32), name (text)
abbrev pub sleep_format : Format SleepCommand
sleep_format = spelled sleep_body sleep_by_parts sleep_same

-- ---- output

-- an output as its result alone
abbrev pub output_by_parts : Format OutputCommand
output_by_parts = via (λ m. m.result) (λ p. record { result = p }) (λ _. refl) (λ _. refl)
    value_format

pub output_same : (m : OutputCommand) → output_body m ≡ (output_by_parts).spelling m
unfolding output_body
output_same m = refl

-- the format of an output's body: a value or a failure
abbrev pub output_format : Format OutputCommand
output_format = spelled output_body output_by_parts output_same

-- ---- suspension

-- a suspension as its future alone
abbrev pub suspension_by_parts : Format Suspension
suspension_by_parts = via (λ m. m.future) (λ p. record { future = p }) (λ _. refl) (λ _. refl)
    (future_format)

pub suspension_same : (m : Suspension) → suspension m ≡ (suspension_by_parts).spelling m
unfolding suspension
suspension_same m = refl

-- the format of a suspension's body: one whole future
abbrev pub suspension_format : Format Suspension
suspension_format = spelled suspension suspension_by_parts suspension_same

-- ---- start

-- a start as nested pairs of its twelve fields, in the order in which they are encoded
abbrev pub start_by_parts : Format Start
start_by_parts = via (λ s. (
  s.id,
  (
    s.debug_id,
    (
      s.key,
      (
        s.known_entries,
        (
          s.state,
          (
            s.partial,
            (
              s.retry_count,
              (s.duration, (s.random_seed, (s.scope, (s.limit_key, s.idempotency_key)))),
            ),
          ),
        ),
      ),
    ),
  ),
))
    (λ (
      id,
      (
        debug_id,
        (
          key,
          (
            known_entries,
            (
              state,
              (
                partial,
                (
                  retry_count,
                  (
                    duration,
                    (random_seed, (scope, (limit_key, idempotency_key))),
                  ),
                ),
              ),
            ),
          ),
        ),
      ),
    ).
    record {
      id = id;
      debug_id = debug_id;
      key = key;
      known_entries = known_entries;
      state = state;
      partial = partial;
      retry_count = retry_count;
      duration = duration;
      random_seed = random_seed;
      scope = scope;
      limit_key = limit_key;
      idempotency_key = idempotency_key;
    }) (λ _. refl) (λ _. refl)
    (pair_format bytes_format
    (pair_format text_format
    (pair_format text_format
    (pair_format u32_format
    (pair_format (list_format (pair_format bytes_format bytes_format))
    (pair_format flag_format (pair_format u32_format
    (pair_format u64_format (pair_format u64_format
    (pair_format (option_format text_format)
    (pair_format (option_format text_format) (option_format text_format))))))))))))

pub start_same : (m : Start) → start_body m ≡ (start_by_parts).spelling m
unfolding start_body
start_same m = refl

-- the format of a start's body: id (bytes), debug id and key (texts), known entries (u32), state
-- (pairs of bytes), partial (a flag), retry count (u32), duration and random seed (u64), scope,
-- limit key and idempotency key (texts or none)
abbrev pub start_format : Format Start
start_format = spelled start_body start_by_parts start_same

-- ---- awaiting on

-- what is awaited as (future, executing side effects)
abbrev pub awaiting_on_by_parts : Format AwaitingOn
awaiting_on_by_parts = via (λ m. (m.future, m.executing_side_effects))
    (λ p. record { future = p.0; executing_side_effects = p.1 }) (λ _. refl) (λ _. refl)
    (pair_format future_format flag_format)

pub awaiting_on_same : (m : AwaitingOn) → awaiting_on m ≡ (awaiting_on_by_parts).spelling m
unfolding awaiting_on
awaiting_on_same m = refl

-- the format of the body that reports what an attempt awaits: one whole future, and a flag
abbrev pub awaiting_on_format : Format AwaitingOn
awaiting_on_format = spelled awaiting_on awaiting_on_by_parts awaiting_on_same

-- ---- run

-- a run as (name, completion id)
abbrev pub run_by_parts : Format RunCommand
run_by_parts = via (λ m. (m.name, m.result_completion_id))
    (λ p. record { name = p.0; result_completion_id = p.1 }) (λ _. refl) (λ _. refl)
    (pair_format text_format u32_format)

pub run_same : (m : RunCommand) → run_body m ≡ (run_by_parts).spelling m
unfolding run_body
run_same m = refl

-- the format of a run's body: name (text), completion id (u32)
abbrev pub run_format : Format RunCommand
run_format = spelled run_body run_by_parts run_same

-- ---- propose run completion

-- a proposal as (id, result)
abbrev pub propose_run_completion_by_parts : Format ProposeRunCompletion
propose_run_completion_by_parts =
    via (λ m. (m.id, m.result)) (λ p. record { id = p.0; result = p.1 }) (λ _. refl) (λ _. refl)
    (pair_format u32_format value_format)

pub propose_run_completion_same : (m : ProposeRunCompletion) → propose_run_completion m
    ≡ (propose_run_completion_by_parts).spelling m
unfolding propose_run_completion
propose_run_completion_same m = refl

-- the format of the body that proposes a run's result: id (u32), a value or a failure
abbrev pub propose_run_completion_format : Format ProposeRunCompletion
propose_run_completion_format =
    spelled propose_run_completion propose_run_completion_by_parts propose_run_completion_same

-- ---- propose run completion ack

-- an acknowledgement as its id alone
abbrev pub propose_run_completion_ack_by_parts : Format ProposeRunCompletionAck
propose_run_completion_ack_by_parts =
    via (λ m. m.id) (λ p. record { id = p }) (λ _. refl) (λ _. refl)
    (u32_format)

pub propose_run_completion_ack_same : (m : ProposeRunCompletionAck) → propose_run_completion_ack m
    ≡ (propose_run_completion_ack_by_parts).spelling m
unfolding propose_run_completion_ack
propose_run_completion_ack_same m = refl

-- the format of the body that acknowledges a proposed result: id (u32)
abbrev pub propose_run_completion_ack_format : Format ProposeRunCompletionAck
propose_run_completion_ack_format = spelled propose_run_completion_ack
    propose_run_completion_ack_by_parts propose_run_completion_ack_same
