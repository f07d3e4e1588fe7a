-- The parts of what a stored row asks for: texts and bytes, by their places. Where the engine has
-- an effect for its command, they are that effect's (`effect_of`), and a call's headers.
use Rattle.std.specs.Prelude.{ℕ, ◌==◌, ◌/◌, if◌then◌else◌, List, Option, Some, None, Result, Ok, Err}
use Rattle.journal_protocol.specs.Frames.{encoding}
use Rattle.journal_protocol.specs.Message.{Message}
use Rattle.journal_protocol.specs.NotificationId.{NotificationId}
use Rattle.journal_protocol.specs.NotificationId.TheVariants.{CompletionId, SignalId, SignalName}
use Rattle.journal_protocol.specs.Signal.{Signal}
use Rattle.journal_protocol.specs.Signal.TheVariants as signal
use Rattle.journal_protocol.specs.ValueOrFailure.{ValueOrFailure}
use Rattle.journal_entries.specs.Proposals.{completion_result}
use Rattle.journal_store.specs.declared.effect.Beginning.{Beginning}
use Rattle.journal_store.specs.declared.effect.Effect.{Effect}
use Rattle.journal_store.specs.declared.effect.Effect.TheVariants as effect
use Rattle.journal_store.specs.declared.effect.Sent.{Sent}
use Rattle.journal_store.specs.Effects.{effect_of}
use Rattle.c_values.specs.Messages.{found_part, message_at, part_behind}
use Rattle.c_values.specs.Results.{notification_message}
use Rattle.c_values.specs.declared.status.Status.{Status}
use Rattle.c_values.specs.declared.status.Status.TheVariants as status
use Rattle.c_journals.specs.Effects.{is_asking}

-- of an invocation that begins: what it is given, and by what it is named
abbrev pub begin_field : Beginning → ℕ → Option (List ℕ)
begin_field b place =
    if place == 0 then Some b.parameter
    else if place == 1 then Some b.service
    else if place == 2 then Some b.handler
    else if place == 3 then Some b.key
    else if place == 4 then b.idempotency_key
    else None

-- the same, and from the eighth place on the headers of the call
abbrev pub begin_part : Beginning → Option Message → ℕ → Result (List ℕ) Status
begin_part b m place =
    if place / 8 == 0 then found_part (begin_field b place) else part_behind m place

-- which signal it is
abbrev pub sent_id : Signal → NotificationId
sent_id (signal.Index index) = SignalId index
sent_id (signal.Name name) = SignalName name

-- the notification that comes to whom a signal is sent
abbrev pub sent_frame : Sent → List ℕ
sent_frame sent = encoding (notification_message (sent_id sent.signal) sent.brings)

-- of a signal that is sent: to whom, and the notification that comes there
abbrev pub send_part : Sent → ℕ → Result (List ℕ) Status
send_part sent place =
    if place == 0 then Ok sent.to
    else if place == 1 then Ok (sent_frame sent)
    else Err status.NoPart

-- a notification that has this result: that of completion 0
abbrev pub result_frame : ValueOrFailure → List ℕ
result_frame ends = encoding (notification_message (CompletionId 0) (completion_result ends))

-- of a result: at the place of a signal's notification one that has it
abbrev pub result_part : ValueOrFailure → ℕ → Result (List ℕ) Status
result_part ends place = if place == 1 then Ok (result_frame ends) else Err status.NoPart

-- of an effect that the engine has
abbrev pub engine_part : Effect → Option Message → ℕ → Result (List ℕ) Status
engine_part (effect.Begin b) m place = begin_part b m place
engine_part (effect.Wait timer) m place = Err status.NoPart
engine_part (effect.Send sent) m place = send_part sent place
engine_part (effect.Result ends) m place = result_part ends place

-- of what a message asks for itself: the message's
abbrev pub own_part : Option Message → ℕ → Result (List ℕ) Status
own_part None place = Err status.NotAFrame
own_part (Some m) place =
    if is_asking m then part_behind (Some m) place else Err status.NoPart

-- the part of what a message asks for: of the effect that the engine has for it, or of its own
abbrev pub asked_part : Option Effect → Message → ℕ → Result (List ℕ) Status
asked_part (Some e) m place = engine_part e (Some m) place
asked_part None m place = own_part (Some m) place

-- the part of what a message asks for, if there is one
abbrev pub asked_part_of : Option Message → ℕ → Result (List ℕ) Status
asked_part_of None place = Err status.NotAFrame
asked_part_of (Some m) place = asked_part (effect_of m) m place

-- the part of what an entry asks for at this place, or why there is none
abbrev pub effect_part : List ℕ → ℕ → Result (List ℕ) Status
effect_part entry place = asked_part_of (message_at entry) place
