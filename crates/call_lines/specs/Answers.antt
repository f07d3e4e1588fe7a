-- How what a handler's calls answered is written.
use Rattle.std.specs.Prelude.{ℕ, List, [], ◌++◌, Option, Some, None, codes}
use Rattle.std.specs.Fmt.{decimal}
use Rattle.lines.specs.Atoms.{quoted}
use Rattle.vm_types.specs.declared.runs.RunHandle.{RunHandle}
use Rattle.vm_types.specs.declared.steps.Answer.{Answer}
use Rattle.vm_types.specs.declared.steps.Answer.TheVariants as answer
use Rattle.vm_types.specs.declared.types.AwakeableHandle.{AwakeableHandle}
use Rattle.vm_types.specs.declared.types.CallHandle.{CallHandle}
use Rattle.vm_types.specs.declared.types.DeadlineCallHandle.{DeadlineCallHandle}
use Rattle.vm_types.specs.declared.values.Value.{Value}
use Rattle.call_lines.specs.Texts.{flag_text, input_text, value_text}

-- the handles of a call: the invocation's id, and the result
abbrev pub handles_text : CallHandle → List ℕ
handles_text handles = decimal handles.invocation_id_notification_handle.0 ++ codes " "
    ++ decimal handles.call_notification_handle.0

-- the handles of a call with a deadline: the invocation's id, the result, and the deadline
abbrev pub deadline_text : DeadlineCallHandle → List ℕ
deadline_text handles = decimal handles.invocation_id_notification_handle.0 ++ codes " "
    ++ decimal handles.call_notification_handle.0 ++ codes " "
    ++ decimal handles.deadline_notification_handle.0

-- the handle of an awakeable, and its id
abbrev pub awakeable_text : AwakeableHandle → List ℕ
awakeable_text made = decimal made.handle.0 ++ codes " " ++ quoted made.id

-- the handle of a run, and whether its result is already there
abbrev pub run_text : RunHandle → List ℕ
run_text run = decimal run.handle.0 ++ codes " " ++ flag_text run.replayed

-- what was taken, if anything was
abbrev pub taken_text : Option Value → List ℕ
taken_text None = codes "none"
taken_text (Some value) = value_text value

-- what a call answered
abbrev pub answer_text : Answer → List ℕ
answer_text (answer.Input input) = input_text input
answer_text (answer.Handle handle) = decimal handle.0
answer_text (answer.Call handles) = handles_text handles
answer_text (answer.CallWithDeadline handles) = deadline_text handles
answer_text (answer.Send handles) = decimal handles.invocation_id_notification_handle.0
answer_text (answer.Awakeable made) = awakeable_text made
answer_text answer.Unit = []
answer_text answer.Awake = codes "any"
answer_text answer.Cancelled = codes "cancelled"
answer_text (answer.Taken taken) = taken_text taken
answer_text (answer.Completed is) = flag_text is
