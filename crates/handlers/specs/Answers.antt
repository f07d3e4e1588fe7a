-- What handlers read from their answers, and what they do when they are cancelled.
use Rattle.std.specs.Prelude.{ℕ, Bool, true, false, List, [], codes, Option, Some, None}
use Rattle.vm_types.specs.declared.options.PayloadOptions.{PayloadOptions}
use Rattle.vm_types.specs.declared.steps.Answer.{Answer}
use Rattle.vm_types.specs.declared.steps.Answer.TheVariants as answer
use Rattle.vm_types.specs.declared.steps.Step.{Step}
use Rattle.vm_types.specs.declared.steps.Step.TheVariants as step
use Rattle.await_trees.specs.declared.handle.NotificationHandle.{NotificationHandle}
use Rattle.vm_types.specs.declared.values.NonEmptyValue.{NonEmptyValue}
use Rattle.vm_types.specs.declared.values.NonEmptyValue.TheVariants as non_empty
use Rattle.vm_types.specs.declared.values.Value.{Value}
use Rattle.vm_types.specs.declared.values.Value.TheVariants as value

-- payloads that each attempt writes the same
abbrev pub stable_payload : PayloadOptions
stable_payload = record { unstable_serialization = false }

-- the bytes of an input; none where there isn't one
abbrev pub bytes_of_input : Option Answer → List ℕ
bytes_of_input (Some (answer.Input input)) = input.input
bytes_of_input (Some (answer.Handle handle)) = []
bytes_of_input (Some (answer.Call handles)) = []
bytes_of_input (Some (answer.CallWithDeadline handles)) = []
bytes_of_input (Some (answer.Send handle)) = []
bytes_of_input (Some (answer.Awakeable awakeable)) = []
bytes_of_input (Some answer.Unit) = []
bytes_of_input (Some answer.Awake) = []
bytes_of_input (Some answer.Cancelled) = []
bytes_of_input (Some (answer.Taken taken)) = []
bytes_of_input (Some (answer.Completed is)) = []
bytes_of_input None = []

-- the handle of an answer; none is 0
abbrev pub answered_handle : Option Answer → NotificationHandle
answered_handle (Some (answer.Handle handle)) = handle
answered_handle (Some (answer.Input input)) = record { 0 = 0 }
answered_handle (Some (answer.Call handles)) = record { 0 = 0 }
answered_handle (Some (answer.CallWithDeadline handles)) = record { 0 = 0 }
answered_handle (Some (answer.Send handle)) = record { 0 = 0 }
answered_handle (Some (answer.Awakeable awakeable)) = record { 0 = 0 }
answered_handle (Some answer.Unit) = record { 0 = 0 }
answered_handle (Some answer.Awake) = record { 0 = 0 }
answered_handle (Some answer.Cancelled) = record { 0 = 0 }
answered_handle (Some (answer.Taken taken)) = record { 0 = 0 }
answered_handle (Some (answer.Completed is)) = record { 0 = 0 }
answered_handle None = record { 0 = 0 }

-- the handle of a call's result; none is 0
abbrev pub call_handle_of : Option Answer → NotificationHandle
call_handle_of (Some (answer.Call handles)) = handles.call_notification_handle
call_handle_of (Some (answer.CallWithDeadline handles)) = handles.call_notification_handle
call_handle_of (Some (answer.Input input)) = record { 0 = 0 }
call_handle_of (Some (answer.Handle handle)) = record { 0 = 0 }
call_handle_of (Some (answer.Send handle)) = record { 0 = 0 }
call_handle_of (Some (answer.Awakeable awakeable)) = record { 0 = 0 }
call_handle_of (Some answer.Unit) = record { 0 = 0 }
call_handle_of (Some answer.Awake) = record { 0 = 0 }
call_handle_of (Some answer.Cancelled) = record { 0 = 0 }
call_handle_of (Some (answer.Taken taken)) = record { 0 = 0 }
call_handle_of (Some (answer.Completed is)) = record { 0 = 0 }
call_handle_of None = record { 0 = 0 }

-- the handle of a call's deadline; none is 0
abbrev pub deadline_handle_of : Option Answer → NotificationHandle
deadline_handle_of (Some (answer.CallWithDeadline handles)) = handles.deadline_notification_handle
deadline_handle_of (Some (answer.Call handles)) = record { 0 = 0 }
deadline_handle_of (Some (answer.Input input)) = record { 0 = 0 }
deadline_handle_of (Some (answer.Handle handle)) = record { 0 = 0 }
deadline_handle_of (Some (answer.Send handle)) = record { 0 = 0 }
deadline_handle_of (Some (answer.Awakeable awakeable)) = record { 0 = 0 }
deadline_handle_of (Some answer.Unit) = record { 0 = 0 }
deadline_handle_of (Some answer.Awake) = record { 0 = 0 }
deadline_handle_of (Some answer.Cancelled) = record { 0 = 0 }
deadline_handle_of (Some (answer.Taken taken)) = record { 0 = 0 }
deadline_handle_of (Some (answer.Completed is)) = record { 0 = 0 }
deadline_handle_of None = record { 0 = 0 }

-- the answer says that a result is there
abbrev pub says_completed : Option Answer → Bool
says_completed (Some (answer.Completed is)) = is
says_completed (Some (answer.Input input)) = false
says_completed (Some (answer.Handle handle)) = false
says_completed (Some (answer.Call handles)) = false
says_completed (Some (answer.CallWithDeadline handles)) = false
says_completed (Some (answer.Send handle)) = false
says_completed (Some (answer.Awakeable awakeable)) = false
says_completed (Some answer.Unit) = false
says_completed (Some answer.Awake) = false
says_completed (Some answer.Cancelled) = false
says_completed (Some (answer.Taken taken)) = false
says_completed None = false

-- the output that hands a value on: of a success or a failure the same, of any other an empty
-- success
abbrev pub output_of_value : Value → NonEmptyValue
output_of_value (value.Success bytes) = non_empty.Success bytes
output_of_value (value.Failure failure) = non_empty.Failure failure
output_of_value value.Void = non_empty.Success []
output_of_value (value.StateKeys keys) = non_empty.Success []
output_of_value (value.InvocationId id) = non_empty.Success []

-- the output: what was taken; an empty success if nothing was
abbrev pub output_of : Option Answer → NonEmptyValue
output_of (Some (answer.Taken (Some taken))) = output_of_value taken
output_of (Some (answer.Taken None)) = non_empty.Success []
output_of (Some (answer.Input input)) = non_empty.Success []
output_of (Some (answer.Handle handle)) = non_empty.Success []
output_of (Some (answer.Call handles)) = non_empty.Success []
output_of (Some (answer.CallWithDeadline handles)) = non_empty.Success []
output_of (Some (answer.Send handle)) = non_empty.Success []
output_of (Some (answer.Awakeable awakeable)) = non_empty.Success []
output_of (Some answer.Unit) = non_empty.Success []
output_of (Some answer.Awake) = non_empty.Success []
output_of (Some answer.Cancelled) = non_empty.Success []
output_of (Some (answer.Completed is)) = non_empty.Success []
output_of None = non_empty.Success []

-- the answer says that the invocation was cancelled
abbrev pub says_cancelled : Option Answer → Bool
says_cancelled (Some answer.Cancelled) = true
says_cancelled (Some (answer.Handle handle)) = false
says_cancelled (Some (answer.Input input)) = false
says_cancelled (Some (answer.Call handles)) = false
says_cancelled (Some (answer.CallWithDeadline handles)) = false
says_cancelled (Some (answer.Send handle)) = false
says_cancelled (Some (answer.Awakeable awakeable)) = false
says_cancelled (Some answer.Unit) = false
says_cancelled (Some answer.Awake) = false
says_cancelled (Some (answer.Taken taken)) = false
says_cancelled (Some (answer.Completed is)) = false
says_cancelled None = false

-- the output of a handler that was cancelled
abbrev pub cancelled_output : Step
cancelled_output = step.WriteOutput
    (non_empty.Failure (record { code = 409; message = codes "cancelled"; metadata = [] }))
    stable_payload
