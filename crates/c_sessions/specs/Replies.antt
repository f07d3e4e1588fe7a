-- What C is given of a reply: numbers at once, and its parts one by one.
use Rattle.std.specs.Prelude.{◌==◌, ◌&&◌, ◌/◌, ◌%◌, ◌-◌, ℕ, ℤ, pos, negsuc, Bool, true, false, not, if◌then◌else◌, List, length, slice_get, Option, Some, None, is_none}
use Rattle.std.specs.Option.{option_map}
use Rattle.journal_protocol.specs.Types.{type_number}
use Rattle.journal_protocol.specs.Error.{Error}
use Rattle.journal_protocol.specs.RelatedCommand.{RelatedCommand}
use Rattle.journal_protocol.specs.Version.{Version}
use Rattle.journal_protocol.specs.Version.TheVariants as version
use Rattle.journal_protocol.specs.Header.{Header}
use Rattle.vm_types.specs.declared.steps.Answer.{Answer}
use Rattle.vm_types.specs.declared.steps.Answer.TheVariants as answer
use Rattle.vm_types.specs.declared.types.AwaitResponse.{AwaitResponse}
use Rattle.vm_types.specs.declared.types.AwaitResponse.TheVariants as response
use Rattle.vm_types.specs.declared.types.State.{State}
use Rattle.vm_types.specs.declared.types.State.TheVariants as state
use Rattle.vm_types.specs.declared.values.Input.{Input}
use Rattle.vm_types.specs.declared.values.TerminalFailure.{TerminalFailure}
use Rattle.vm_types.specs.declared.values.Value.{Value}
use Rattle.vm_types.specs.declared.values.Value.TheVariants as value
use Rattle.vm_types.specs.declared.reply.Reply.{Reply}
use Rattle.vm_types.specs.declared.reply.Reply.TheVariants as reply
use Rattle.c_sessions.specs.declared.kind.Kind.{Kind}
use Rattle.c_sessions.specs.declared.kind.Kind.TheVariants as kind
use Rattle.c_sessions.specs.declared.replied.Replied.{Replied}
use Rattle.c_values.specs.declared.status.Status.{Status}
use Rattle.c_values.specs.Statuses.{status_number}

-- the number by which C sees what a reply is
abbrev pub kind_code : Kind → ℕ
kind_code kind.Nothing = 0
kind_code kind.Handle = 1
kind_code kind.Awakeable = 2
kind_code kind.Run = 3
kind_code kind.Ephemeral = 4
kind_code kind.Flag = 5
kind_code kind.State = 6
kind_code kind.Index = 7
kind_code kind.Version = 8
kind_code kind.Head = 9
kind_code kind.Output = 10
kind_code kind.Input = 11
kind_code kind.Awake = 12
kind_code kind.Waiting = 13
kind_code kind.ExecuteRun = 14
kind_code kind.Cancelled = 15
kind_code kind.Void = 16
kind_code kind.Value = 17
kind_code kind.Failure = 18
kind_code kind.Keys = 19
kind_code kind.InvocationId = 20
kind_code kind.Error = 21
kind_code kind.Suspended = 22
kind_code kind.OutOfMemory = 23
kind_code kind.Closed = 24

abbrev pub flag_code : Bool → ℕ
flag_code true = 1
flag_code false = 0

abbrev pub state_code : State → ℕ
state_code state.WaitingPreFlight = 0
state_code state.Replaying = 1
state_code state.Processing = 2
state_code state.Closed = 3

abbrev pub version_code : Version → ℕ
version_code version.V1 = 1
version_code version.V2 = 2
version_code version.V3 = 3
version_code version.V4 = 4
version_code version.V5 = 5
version_code version.V6 = 6
version_code version.V7 = 7
version_code version.V8 = 8

-- a reply of this kind, with these three numbers
abbrev pub numbered_reply : Kind → ℕ → ℕ → ℕ → Replied
numbered_reply kind first second third = record {
  status = 0;
  kind = kind_code kind;
  first = first;
  second = second;
  third = third;
  number = 0;
  rows = 0;
  len = 0;
}

-- a reply of this kind, with a large number and a count of keys or pairs
abbrev pub with_rows : Kind → ℕ → ℕ → Replied
with_rows kind number rows = record {
  status = 0;
  kind = kind_code kind;
  first = 0;
  second = 0;
  third = 0;
  number = number;
  rows = rows;
  len = 0;
}

-- a call isn't made
abbrev pub kept_told : Status → Replied
kept_told status = record {
  status = status_number status;
  kind = 0;
  first = 0;
  second = 0;
  third = 0;
  number = 0;
  rows = 0;
  len = 0;
}

-- an error of this code, which relates to a command if the first number is 1
abbrev pub error_numbers : ℕ → ℕ → ℕ → ℕ → Replied
error_numbers code is_related index ty = record {
  status = 5;
  kind = kind_code kind.Error;
  first = is_related;
  second = index;
  third = ty;
  number = code;
  rows = 0;
  len = 0;
}

-- What an error is by which no VM has failed, by its code: an await's, that the invocation is
-- suspended; a query's, that the VM is closed; any other one is of a call that changes nothing, and
-- found no memory.
abbrev pub unfailed_kind : ℕ → ℕ
unfailed_kind code =
    if code == 599 then kind_code kind.Suspended
    else if code == 598 then kind_code kind.Closed
    else kind_code kind.OutOfMemory

-- whether an error reads as out of memory: it has code 500, says nothing, and relates to no
-- command
abbrev pub reads_as_memory : Error → Bool
reads_as_memory e = (e.code == 500) && (length e.message == 0) && is_none e.related_command

-- whether a reply is such an error
abbrev pub tells_memory : Replied → Bool
tells_memory told =
    (told.status == 5) && (told.number == 500) && (told.len == 0) && (told.first == 0)

-- Whether the error of a VM is the caller's, and only reads as out of memory. The VM has failed by
-- it in a call that wasn't refused, for a call that finds no memory is. `was` and `had` are of
-- before the call: whether it was so, and whether the VM had failed.
abbrev pub mimics_by : Bool → Bool → Option Error → Bool → Bool
mimics_by was had None refused = false
mimics_by was true (Some e) refused = was
mimics_by was false (Some e) refused = reads_as_memory e && not refused

-- the numbers of an error that the VM has failed by: out of memory has a status of its own, unless
-- the error only reads so
abbrev pub memory_told : Bool → Replied → Replied
memory_told mimics told =
    if tells_memory told && not mimics then record told { status = 1 } else told

-- The numbers of a reply by whether the VM has failed then, and whether its error only reads as out
-- of memory.
abbrev pub numbers_by : Bool → Bool → Replied → Replied
numbers_by true mimics told = memory_told mimics told
numbers_by false mimics told = if told.status == 5
    then record told { kind = unfailed_kind told.number }
    else told

abbrev pub related_told : ℕ → Option RelatedCommand → Replied
related_told code (Some command) = error_numbers code 1 command.index (type_number command.ty)
related_told code None = error_numbers code 0 0 0

-- an error: the call is refused; its code, and whether it relates to a command, of which index and
-- which type
abbrev pub error_told : Error → Replied
error_told e = related_told e.code e.related_command

-- a result: a failure's code, and how many keys or pairs there are
abbrev pub value_told : Value → Replied
value_told value.Void = numbered_reply kind.Void 0 0 0
value_told (value.Success bytes) = numbered_reply kind.Value 0 0 0
value_told (value.Failure failure) = with_rows kind.Failure failure.code (length failure.metadata)
value_told (value.StateKeys keys) = with_rows kind.Keys 0 (length keys)
value_told (value.InvocationId id) = numbered_reply kind.InvocationId 0 0 0

-- a handle's result, if it has one
abbrev pub taken_told : Option Value → Replied
taken_told (Some value) = value_told value
taken_told None = numbered_reply kind.Nothing 0 0 0

-- what an await answers: which run is to be executed, which ephemeral read's value is there, what
-- is waited for
abbrev pub response_told : AwaitResponse → Replied
response_told response.AnyCompleted = numbered_reply kind.Awake 0 0 0
response_told (response.WaitingExternalProgress input run) = numbered_reply kind.Waiting
    (flag_code input)
    (flag_code run) 0
response_told (response.ExecuteRun handle) = numbered_reply kind.ExecuteRun handle.0 0 0
response_told response.CancelSignalReceived = numbered_reply kind.Cancelled 0 0 0
response_told (response.EphemeralNotificationReady id) = numbered_reply kind.Ephemeral id.0 0 0

-- what a handler's call answers: its handles in the order in which they are handed out
abbrev pub handles_told : Answer → Replied
handles_told (answer.Input input) = with_rows kind.Input input.random_seed (length input.headers)
handles_told (answer.Handle handle) = numbered_reply kind.Handle handle.0 0 0
handles_told (answer.Call call) = numbered_reply kind.Handle
    call.invocation_id_notification_handle.0
    call.call_notification_handle.0 0
handles_told (answer.CallWithDeadline call) =
    numbered_reply kind.Handle call.invocation_id_notification_handle.0
    call.call_notification_handle.0
    call.deadline_notification_handle.0
handles_told (answer.Send send) = numbered_reply kind.Handle
    send.invocation_id_notification_handle.0 0 0
handles_told (answer.Awakeable made) = numbered_reply kind.Awakeable made.handle.0 0 0
handles_told answer.Unit = numbered_reply kind.Nothing 0 0 0
handles_told answer.Awake = numbered_reply kind.Awake 0 0 0
handles_told answer.Cancelled = numbered_reply kind.Cancelled 0 0 0
handles_told (answer.Taken taken) = taken_told taken
handles_told (answer.Completed is) = numbered_reply kind.Flag (flag_code is) 0 0

-- the index of the last command, if there is one
abbrev pub number_told : ℤ → Replied
number_told (pos index) = with_rows kind.Index index 0
number_told (negsuc below) = numbered_reply kind.Nothing 0 0 0

-- the numbers of a reply
abbrev pub told_of : Reply → Replied
told_of (reply.Refused e) = error_told e
told_of (reply.Made version) = numbered_reply kind.Version (version_code version) 0 0
told_of (reply.Head head) = with_rows kind.Head head.status_code (length head.headers)
told_of (reply.Output bytes) = numbered_reply kind.Output 0 0 0
told_of (reply.Ready is_ready) = numbered_reply kind.Flag (flag_code is_ready) 0 0
told_of (reply.State state) = numbered_reply kind.State (state_code state) 0 0
told_of (reply.Index index) = number_told index
told_of (reply.Awaited response) = response_told response
told_of (reply.Run run) = numbered_reply kind.Run run.handle.0 (flag_code run.replayed) 0
told_of (reply.Ephemeral id) = numbered_reply kind.Ephemeral id.0 0 0
told_of (reply.Answer answer) = handles_told answer
told_of reply.Nothing = numbered_reply kind.Nothing 0 0 0
told_of reply.Bad = numbered_reply kind.Nothing 0 0 0
told_of reply.NoVm = numbered_reply kind.Nothing 0 0 0
told_of reply.Done = numbered_reply kind.Nothing 0 0 0

-- ---- parts

-- one part, at 0
abbrev pub one_part : List ℕ → ℕ → Option (List ℕ)
one_part text at = if at == 0 then Some text else None

-- the key of a pair, if the place is even, or its value
abbrev pub side : ℕ → List ℕ × List ℕ → List ℕ
side at pair = if at % 2 == 0 then pair.0 else pair.1

-- the keys and values of pairs in turn
abbrev pub in_pairs : List (List ℕ × List ℕ) → ℕ → Option (List ℕ)
in_pairs pairs at = option_map (side at) (slice_get pairs (at / 2))

-- the key of a header, if the place is even, or its value
abbrev pub header_side : ℕ → Header → List ℕ
header_side at header = if at % 2 == 0 then header.key else header.value

-- the keys and values of headers in turn
abbrev pub in_headers : List Header → ℕ → Option (List ℕ)
in_headers headers at = option_map (header_side at) (slice_get headers (at / 2))

-- of a failure: the message, then the metadata
abbrev pub in_failure : TerminalFailure → ℕ → Option (List ℕ)
in_failure failure at = if at == 0 then Some failure.message else in_pairs failure.metadata (at - 1)

-- of a result: the bytes, the failure, the keys, or the id
abbrev pub in_value : Value → ℕ → Option (List ℕ)
in_value value.Void at = None
in_value (value.Success bytes) at = one_part bytes at
in_value (value.Failure failure) at = in_failure failure at
in_value (value.StateKeys keys) at = slice_get keys at
in_value (value.InvocationId id) at = one_part id at

abbrev pub in_taken : Option Value → ℕ → Option (List ℕ)
in_taken (Some value) at = in_value value at
in_taken None at = None

-- of the handler's input: the bytes, the invocation's id and key, what else the caller gave, then
-- the headers
abbrev pub in_input : Input → ℕ → Option (List ℕ)
in_input input at =
    if at == 0 then Some input.input
    else if at == 1 then Some input.invocation_id
    else if at == 2 then Some input.key
    else if at == 3 then input.scope
    else if at == 4 then input.limit_key
    else if at == 5 then input.idempotency_key
    else in_headers input.headers (at - 6)

abbrev pub in_answer : Answer → ℕ → Option (List ℕ)
in_answer (answer.Input input) at = in_input input at
in_answer (answer.Awakeable made) at = one_part made.id at
in_answer (answer.Taken taken) at = in_taken taken at
in_answer other at = None

-- the name of a command, if there is one
abbrev pub name_of_command : Option RelatedCommand → Option (List ℕ)
name_of_command (Some command) = Some command.name
name_of_command None = None

-- of an error: its text, its stack trace, and the name of the command that it relates to
abbrev pub in_error : Error → ℕ → Option (List ℕ)
in_error e at =
    if at == 0 then Some e.message
    else if at == 1 then Some e.stacktrace
    else if at == 2 then name_of_command e.related_command
    else None

-- the part of a reply at this index, a text or bytes, if it has one there
abbrev pub part_of : Reply → ℕ → Option (List ℕ)
part_of (reply.Refused e) at = in_error e at
part_of (reply.Head head) at = in_headers head.headers at
part_of (reply.Output bytes) at = one_part bytes at
part_of (reply.Answer answer) at = in_answer answer at
part_of other at = None

-- how long a part is, 0 without one
abbrev pub part_len : Option (List ℕ) → ℕ
part_len (Some part) = length part
part_len None = 0

-- what C is given at once of a reply: its numbers, and the length of its first part
abbrev pub summary : Reply → Replied
summary r = record (told_of r) { len = part_len (part_of r 0) }
