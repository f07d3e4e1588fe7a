-- How the answer to a line is written.
use Rattle.std.specs.Prelude.{ℕ, ◌+◌, ℤ, pos, negsuc, List, [], ◌++◌, codes}
use Rattle.std.specs.Fmt.{decimal}
use Rattle.lines.specs.Atoms.{hexed, quoted}
use Rattle.journal_protocol.specs.Error.{Error}
use Rattle.journal_protocol.specs.Version.{Version}
use Rattle.journal_protocol.specs.Version.TheVariants as version
use Rattle.vm_types.specs.declared.steps.Answer.TheVariants as answer
use Rattle.vm_types.specs.declared.types.AwaitResponse.{AwaitResponse}
use Rattle.vm_types.specs.declared.types.AwaitResponse.TheVariants as response
use Rattle.vm_types.specs.declared.types.State.{State}
use Rattle.vm_types.specs.declared.types.State.TheVariants as state
use Rattle.vm_types.specs.declared.values.ResponseHead.{ResponseHead}
use Rattle.vm_types.specs.declared.reply.Reply.{Reply}
use Rattle.vm_types.specs.declared.reply.Reply.TheVariants as reply
use Rattle.call_lines.specs.Answers.{answer_text, run_text}
use Rattle.call_lines.specs.Texts.{flag_text, header_text, spaced}

abbrev pub version_text : Version → List ℕ
version_text version.V1 = codes "V1"
version_text version.V2 = codes "V2"
version_text version.V3 = codes "V3"
version_text version.V4 = codes "V4"
version_text version.V5 = codes "V5"
version_text version.V6 = codes "V6"
version_text version.V7 = codes "V7"
version_text version.V8 = codes "V8"

abbrev pub state_text : State → List ℕ
state_text state.WaitingPreFlight = codes "WaitingPreFlight"
state_text state.Replaying = codes "Replaying"
state_text state.Processing = codes "Processing"
state_text state.Closed = codes "Closed"

-- an error: its code and its text
abbrev pub error_text : Error → List ℕ
error_text e = codes "err " ++ decimal e.code ++ codes " " ++ quoted e.message

-- the head of the response: its status, the version, its headers
abbrev pub head_text : ResponseHead → List ℕ
head_text head = decimal head.status_code ++ codes " " ++ version_text head.version
    ++ spaced header_text head.headers

-- what an await answered: which run is to be executed now; which ephemeral read's value is there;
-- whether input, and whether a run's result is waited for
abbrev pub awaited_text : AwaitResponse → List ℕ
awaited_text response.AnyCompleted = codes "any"
awaited_text response.CancelSignalReceived = codes "cancelled"
awaited_text (response.ExecuteRun handle) = codes "run " ++ decimal handle.0
awaited_text (response.EphemeralNotificationReady id) = codes "ephemeral " ++ decimal id.0
awaited_text (response.WaitingExternalProgress input run) = codes "wait " ++ flag_text input
    ++ codes " " ++ flag_text run

-- a number that may be below 0
abbrev pub index_text : ℤ → List ℕ
index_text (pos n) = decimal n
index_text (negsuc n) = codes "-" ++ decimal (n + 1)

-- the value that an answer has after `ok`
abbrev pub value_reply_text : Reply → List ℕ
value_reply_text (reply.Made version) = version_text version
value_reply_text (reply.Head head) = head_text head
value_reply_text (reply.Output bytes) = hexed bytes
value_reply_text (reply.Ready is_ready) = flag_text is_ready
value_reply_text (reply.State state) = state_text state
value_reply_text (reply.Index index) = index_text index
value_reply_text (reply.Awaited response) = awaited_text response
value_reply_text (reply.Run run) = run_text run
value_reply_text (reply.Ephemeral id) = decimal id.0
value_reply_text (reply.Answer answer) = answer_text answer
value_reply_text given = []

-- The one text of each answer to a line.
abbrev pub reply_text : Reply → List ℕ
reply_text reply.Nothing = []
reply_text reply.Bad = codes "bad"
reply_text reply.NoVm = codes "none"
reply_text (reply.Refused e) = error_text e
reply_text reply.Done = codes "ok"
reply_text (reply.Answer answer.Unit) = codes "ok"
reply_text given = codes "ok " ++ value_reply_text given
