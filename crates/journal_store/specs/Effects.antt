-- What each stored command asks for.
use Rattle.std.specs.Prelude.{ℕ, List, Option, Some, None}
use Rattle.journal_protocol.specs.CallRequest.{CallRequest}
use Rattle.journal_protocol.specs.SendSignalCommand.{SendSignalCommand}
use Rattle.journal_protocol.specs.SleepCommand.{SleepCommand}
use Rattle.journal_protocol.specs.Signal.TheVariants as signal
use Rattle.journal_protocol.specs.SignalResult.{SignalResult}
use Rattle.journal_protocol.specs.SignalResult.TheVariants as signal_result
use Rattle.journal_protocol.specs.Message.{Message}
use Rattle.journal_protocol.specs.Message.TheVariants as message
use Rattle.journal_protocol.specs.NotificationResult.{NotificationResult}
use Rattle.journal_protocol.specs.NotificationResult.TheVariants as result
use Rattle.journal_protocol.specs.ValueOrFailure.{ValueOrFailure}
use Rattle.journal_protocol.specs.ValueOrFailure.TheVariants as ends
use Rattle.journal_store.specs.declared.effect.Beginning.{Beginning}
use Rattle.journal_store.specs.declared.effect.Effect.{Effect}
use Rattle.journal_store.specs.declared.effect.Effect.TheVariants as effect
use Rattle.journal_store.specs.declared.effect.Sent.{Sent}
use Rattle.journal_store.specs.declared.effect.Timer.{Timer}
use Rattle.journal_store.specs.Awakeables.{awakeable_named}

-- the invocation that a call begins
abbrev pub beginning_of : CallRequest → ℕ → Option ℕ → Beginning
beginning_of r begins result = record {
  service = r.service_name;
  handler = r.handler_name;
  key = r.key;
  idempotency_key = r.idempotency_key;
  parameter = r.parameter;
  begins = begins;
  id_completes = r.invocation_id_notification_idx;
  result_completes = result;
}

-- what a sleep waits for
abbrev pub timer_of : SleepCommand → Timer
timer_of c = record { due = c.wake_up_time; completes = c.result_completion_id }

-- what a signal brings
abbrev pub signal_brings : SignalResult → NotificationResult
signal_brings signal_result.Void = result.Void
signal_brings (signal_result.Value value) = result.Value value
signal_brings (signal_result.Failure failure) = result.Failure failure

-- what completes an id by this result
abbrev pub completing_result : ValueOrFailure → NotificationResult
completing_result (ends.Value value) = result.Value value
completing_result (ends.Failure failure) = result.Failure failure

-- what a signal sends
abbrev pub sent_to : SendSignalCommand → Sent
sent_to c = record {
  to = c.target_invocation_id;
  signal = c.signal;
  brings = signal_brings c.result;
}

-- the signal that completes an awakeable, if its id names one
abbrev pub awoken : Option (List ℕ × ℕ) → ValueOrFailure → Option Effect
awoken None r = None
awoken (Some p) r = Some (effect.Send (record {
  to = p.0;
  signal = signal.Index p.1;
  brings = completing_result r;
}))

-- What a stored command asks for, if it asks for something: a call begins an invocation at once, a
-- one-way call at its time; a sleep waits; a signal and an awakeable's result go to another
-- invocation; an output is the invocation's result.
abbrev pub effect_of : Message → Option Effect
effect_of (message.Sleep c) = Some (effect.Wait (timer_of c))
effect_of (message.Call c) = Some (effect.Begin
    (beginning_of c.request 0 (Some c.result_completion_id)))
effect_of (message.OneWayCall c) = Some (effect.Begin (beginning_of c.request c.invoke_time None))
effect_of (message.SendSignal c) = Some (effect.Send (sent_to c))
effect_of (message.CompleteAwakeable c) = awoken (awakeable_named c.awakeable_id) c.result
effect_of (message.Output c) = Some (effect.Result c.result)
effect_of m = None
