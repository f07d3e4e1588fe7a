-- What is left of the deliveries of a signal, for takes to come.
use Rattle.std.specs.Prelude.{List, ◌++◌}
use Rattle.await_arrivals.specs.Results.{results_of}
use Rattle.journal_protocol.specs.NotificationId.{NotificationId}
use Rattle.journal_protocol.specs.NotificationId.TheVariants.{CompletionId, SignalId, SignalName}
use Rattle.journal_protocol.specs.NotificationResult.{NotificationResult}
use Rattle.vm_parts.specs.Arrived.{Ready}
use Rattle.vm_model.specs.Calls.{Setup, ready_in}
use Rattle.vm_model.specs.Moves.{Point}

-- the id of a signal, which is a number or a name
abbrev pub IsSignal : NotificationId → Type 0
IsSignal (CompletionId n) = ⊥
IsSignal (SignalId n) = Unit {0}
IsSignal (SignalName name) = Unit {0}

-- the values of an id that are ready
abbrev pub values_ready : NotificationId → Ready → List NotificationResult
values_ready id r = results_of id r.delivered ++ results_of id r.eager

-- the values of an id that no take took: those that are ready, and then those that wait
abbrev pub values_left : Setup → NotificationId → Point → List NotificationResult
values_left s id p = values_ready id (ready_in s p.derived) ++ results_of id p.queue
