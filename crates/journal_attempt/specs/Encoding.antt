-- The bytes of each message of an attempt's own course.
use Rattle.std.specs.Prelude.{ℕ, List, [], ◌∷◌}
use Rattle.wire.specs.Format.{u32s, u64s, flag, bytes, option, list, fields}
use Rattle.journal_attempt.specs.declared.start.Start.{Start}
use Rattle.journal_attempt.specs.declared.control.Suspension.{Suspension}
use Rattle.journal_attempt.specs.declared.control.AwaitingOn.{AwaitingOn}
use Rattle.journal_attempt.specs.Futures.{future}
use Rattle.journal_attempt.specs.declared.commands.InputCommand.{InputCommand}
use Rattle.journal_attempt.specs.declared.commands.SleepCommand.{SleepCommand}
use Rattle.journal_attempt.specs.declared.commands.OutputCommand.{OutputCommand}
use Rattle.journal_attempt.specs.declared.runs.RunCommand.{RunCommand}
use Rattle.journal_attempt.specs.declared.runs.ProposeRunCompletion.{ProposeRunCompletion}
use Rattle.journal_attempt.specs.declared.runs.ProposeRunCompletionAck.{ProposeRunCompletionAck}
use Rattle.journal_values.specs.Encoding.{pair_of_texts, header, value_or_failure}

-- a start: id (bytes), debug id and key (texts), known entries (u32), state: a count (u64) and so
-- many pairs of bytes, partial (0 or 1), retry count (u32), duration and random seed (u64); scope,
-- limit key, idempotency key: each 0, or 1 and a text
unfoldable pub start_body : Start → List ℕ
start_body s = fields (bytes s.id ∷ bytes s.debug_id ∷ bytes s.key ∷ u32s s.known_entries
    ∷ list pair_of_texts s.state ∷ flag s.partial ∷ u32s s.retry_count
    ∷ u64s s.duration ∷ u64s s.random_seed ∷ option bytes s.scope ∷ option bytes s.limit_key
    ∷ option bytes s.idempotency_key ∷ [])

-- an input: headers: a count (u64) and the headers; value (bytes)
unfoldable pub input : InputCommand → List ℕ
input m = fields (list header m.headers ∷ bytes m.value ∷ [])

-- a sleep: wake-up time in ms (u64), the completion id of its result (u32), name (text)
unfoldable pub sleep_body : SleepCommand → List ℕ
sleep_body m = fields (u64s m.wake_up_time ∷ u32s m.result_completion_id ∷ bytes m.name ∷ [])

-- an output: a value or a failure
unfoldable pub output_body : OutputCommand → List ℕ
output_body m = fields (value_or_failure m.result ∷ [])

-- a suspension: the future until which the attempt stops
unfoldable pub suspension : Suspension → List ℕ
suspension m = fields (future m.future ∷ [])

-- ---- what an attempt reports of itself

-- what the attempt awaits: a future, and whether it is executing side effects (0 or 1)
unfoldable pub awaiting_on : AwaitingOn → List ℕ
awaiting_on m = fields (future m.future ∷ flag m.executing_side_effects ∷ [])

-- ---- runs

-- a run: name (text), the completion id of its result (u32)
unfoldable pub run_body : RunCommand → List ℕ
run_body m = fields (bytes m.name ∷ u32s m.result_completion_id ∷ [])

-- a run's result is proposed: id (u32), a value or a failure
unfoldable pub propose_run_completion : ProposeRunCompletion → List ℕ
propose_run_completion m = fields (u32s m.id ∷ value_or_failure m.result ∷ [])

-- a proposed result is kept: its id (u32)
unfoldable pub propose_run_completion_ack : ProposeRunCompletionAck → List ℕ
propose_run_completion_ack m = fields (u32s m.id ∷ [])
