-- Takes of a handle's present result.
use Rattle.std.specs.Prelude.{ℕ, Bool, false, if◌then◌else◌, List, Option, Some, None, is_some}
use Rattle.journal_protocol.specs.NamedFault.TheVariants as fault
use Rattle.journal_protocol.specs.NotificationId.{NotificationId}
use Rattle.journal_protocol.specs.NotificationResult.{NotificationResult}
use Rattle.vm_state.specs.declared.tracked_call.TrackedCall.{TrackedCall}
use Rattle.vm_types.specs.declared.values.Value.{Value}
use Rattle.vm_parts.specs.Deliveries.{id_at, has_result_for, present_result_for, taken_by}
use Rattle.vm_parts.specs.Tracked.{id_noted}
use Rattle.vm_types.specs.Values.{id_of_value, value_of}
use Rattle.vm_machine.specs.declared.machine.Machine.{Machine}
use Rattle.vm_machine.specs.Outcomes.{Outcome, Done, refused}
use Rattle.vm_machine.specs.Phases.{is_running, state_fault}

-- a taken value, by what is then known of the tracked calls
abbrev pub value_noted : Value → Option (List TrackedCall) → Machine → Outcome (Option Value)
value_noted value None v = refused fault.UnexpectedInvocationIdResult v
value_noted value (Some tracked) v = Done (Some value) (record v { tracked = tracked })

-- a taken value: a state key has to be a text, and a tracked call's result its invocation's id
abbrev pub value_taken : ℕ → Option Value → Machine → Outcome (Option Value)
value_taken handle None v = refused fault.StateKeyIsNotUtf8 v
value_taken handle (Some value) v = value_noted value
    (id_noted handle (id_of_value value) v.tracked) v

-- a taken result, as the handler sees it
abbrev pub result_taken : ℕ → Option NotificationResult → Machine → Outcome (Option Value)
result_taken handle None v = Done None v
result_taken handle (Some result) v = value_taken handle (value_of result) v

-- a take of the handle that stands for this id
abbrev pub taken_at : ℕ → Option NotificationId → Machine → Outcome (Option Value)
taken_at handle id v =
    let found = present_result_for v.options.signal_delivery id v.results.ready in
    result_taken handle found
    (record v { results = taken_by v.options.signal_delivery handle id found v.results })

-- a take of a handle's present result
unfoldable pub take_step : ℕ → Machine → Outcome (Option Value)
take_step handle v =
    if is_running v.phase then taken_at handle (id_at handle v.results.handles) v
    else refused (state_fault v.phase) v

-- whether a handle has a ready result, as long as the handler runs
abbrev pub is_completed : ℕ → Machine → Bool
is_completed handle v =
    if is_some v.failure then false
    else if is_running v.phase then has_result_for (id_at handle v.results.handles) v.results.ready
    else false
