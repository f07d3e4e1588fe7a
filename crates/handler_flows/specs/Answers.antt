-- What an answer holds for the step that it answers. One of another kind holds nothing, and ends
-- the handler.
use Rattle.std.specs.Prelude.{Bool, List, [], ℕ, Option, Some, None}
use Rattle.vm_types.specs.declared.steps.Answer.{Answer}
use Rattle.vm_types.specs.declared.steps.Answer.TheVariants as answer
use Rattle.vm_types.specs.declared.types.AwakeableHandle.{AwakeableHandle}
use Rattle.vm_types.specs.declared.values.Value.{Value}
use Rattle.vm_types.specs.declared.values.Value.TheVariants as value
use Rattle.await_trees.specs.declared.handle.NotificationHandle.{NotificationHandle}
use Rattle.handler_flows.specs.declared.exit.Fault.TheVariants as fault
use Rattle.handler_flows.specs.Code.{Code, Fail, Give, Over}

-- gives what is there; without it the handler is over
abbrev pub given_or_over : {A : Type 0} → Option A → Code A
given_or_over (Some value) = Give value
given_or_over None = Over

-- the handle of a sleep, a call, a read or a run
abbrev pub handle_in : Answer → Option NotificationHandle
handle_in (answer.Handle handle) = Some handle
handle_in (answer.Call handles) = Some handles.call_notification_handle
handle_in _ = None

-- no more than that it was done
abbrev pub unit_in : Answer → Option (Unit {0})
unit_in answer.Unit = Some tt
unit_in (answer.Send handle) = Some tt
unit_in _ = None

-- what was taken
abbrev pub taken_in : Answer → Option (Option Value)
taken_in (answer.Taken taken) = Some taken
taken_in _ = None

-- an awakeable
abbrev pub awakeable_in : Answer → Option AwakeableHandle
awakeable_in (answer.Awakeable awakeable) = Some awakeable
awakeable_in _ = None

-- whether a result is there
abbrev pub completed_in : Answer → Option Bool
completed_in (answer.Completed is) = Some is
completed_in _ = None

-- after an await: it goes on, or the handler is cancelled
abbrev pub after_await : Answer → Code (Unit {0})
after_await answer.Awake = Give tt
after_await answer.Cancelled = Fail fault.Cancelled
after_await _ = Over

-- the bytes of a result; a failure ends the handler, and a result without bytes gives none
abbrev pub result_bytes : Option Value → Code (List ℕ)
result_bytes (Some (value.Success bytes)) = Give bytes
result_bytes (Some (value.Failure failure)) = Fail (fault.Failed failure)
result_bytes (Some value.Void) = Give []
result_bytes (Some (value.StateKeys keys)) = Give []
result_bytes (Some (value.InvocationId id)) = Give []
result_bytes None = Over

-- the bytes of a state, if it is set
abbrev pub state_bytes : Option Value → Code (Option (List ℕ))
state_bytes (Some (value.Success bytes)) = Give (Some bytes)
state_bytes (Some (value.Failure failure)) = Fail (fault.Failed failure)
state_bytes (Some value.Void) = Give None
state_bytes (Some (value.StateKeys keys)) = Over
state_bytes (Some (value.InvocationId id)) = Over
state_bytes None = Over
