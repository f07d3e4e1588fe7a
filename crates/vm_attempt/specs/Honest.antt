-- What an honest runtime feeds to an attempt.
use Rattle.std.specs.Prelude.{◌≡◌, ℕ, ◌<◌, ◌^◌, true, length, List, ◌∷◌, ◌++◌, map, Option, Some}
use Rattle.std.specs.List.{AllByRecursion, flat_map}
use Rattle.journal_protocol.specs.Message.TheVariants as message
use Rattle.journal_protocol.specs.RawMessage.{RawMessage}
use Rattle.journal_protocol.specs.Notification.{Notification}
use Rattle.journal_protocol.specs.Start.{Start}
use Rattle.journal_protocol.specs.Frames.{frame, IsWhole}
use Rattle.vm_state.specs.declared.state_map.StateMap.{StateMap}
use Rattle.vm_types.specs.declared.options.JournalReplay.TheVariants.{Enabled}
use Rattle.journal_protocol.specs.SignalDelivery.TheVariants.{Queued}
use Rattle.vm_machine.specs.Inputs.{coverage_of, entries_in}
use Rattle.vm_model.specs.Carried.{AreOfTheirKind}
use Rattle.vm_model.specs.Deliveries.{HasNoTwo}
use Rattle.vm_model.specs.Histories.{Handed, History, Made}
use Rattle.vm_model.specs.Moves.{Point, start as first_point}
use Rattle.journal_entries.specs.Journal.{Entry, Recorded, Notified, notifications_in, stored_form}
use Rattle.journal_protocol.specs.ProposeRunCompletionAck.{ProposeRunCompletionAck}
use Rattle.journal_protocol.specs.Message.{Message}
use Rattle.vm_attempt.specs.Arrivals.{AllFound, arriving}
use Rattle.vm_attempt.specs.Heard.{Heard}
use Rattle.journal_entries.specs.JournalFrames.{is_command_frame}
use Rattle.vm_attempt.specs.Journals.{setup_for}
use Rattle.vm_attempt.specs.Told.{bytes_fed}
use Rattle.vm_model.specs.Fixed.{Fixed}

-- an entry that can be fed: the frame of a command, or a whole notification
abbrev pub CanBeFed : Entry → Type 0
CanBeFed (Recorded raw) = (is_command_frame raw ≡ true) × (length raw.body < 2 ^ 64)
CanBeFed (Notified n) = IsWhole (message.Notification n)

-- a notification as a frame
abbrev pub notification_frame : Notification → RawMessage
notification_frame n = stored_form (message.Notification n)

-- an entry as a frame
abbrev pub entry_frame : Entry → RawMessage
entry_frame (Recorded raw) = raw
entry_frame (Notified n) = notification_frame n

-- what comes after the journal: a notification, or the acknowledgement of a result that was
-- proposed
pub data Further : Type 0 where
  Notifies : Notification → Further
  Acknowledges : ProposeRunCompletionAck → Further

-- as a message
abbrev pub further_message : Further → Message
further_message (Notifies n) = message.Notification n
further_message (Acknowledges ack) = message.ProposeRunCompletionAck ack

-- and as a frame
abbrev pub further_frame : Further → RawMessage
further_frame f = stored_form (further_message f)

-- a frame as bytes
abbrev pub frame_bytes : RawMessage → List ℕ
frame_bytes raw = frame raw.ty raw.body

-- Start, the journal, and what comes after it, as frames
abbrev pub honest_frames : Start → List Entry → List Further → List RawMessage
honest_frames start journal more =
    stored_form (message.Start start) ∷ (map entry_frame journal ++ map further_frame more)

-- What was fed is a beginning of Start, which has the length of the journal; of the whole
-- journal, which is a history of the handler; and of notifications and acknowledgements that come
-- after it, each of a result that the attempt has proposed, and once. Each of these can be fed.
-- Recorded commands are replayed, signals queue, and with all these arrivals no completion has two
-- results at a point of the handler's run, and each result of an invocation's id is one.
pub record FeedsHonestly (fixed : Fixed) (fed : Heard) : Type 0 where
  pub start : Start
  pub journal : List Entry
  pub more : List Further
  pub unfed : List ℕ
  pub bytes : bytes_fed fed ++ unfed ≡ flat_map frame_bytes (honest_frames start journal more)
  pub start_is_whole : IsWhole (message.Start start)
  pub known : start.known_entries ≡ length journal
  pub state : List (List ℕ × Option (List ℕ))
  pub reads_state : entries_in start.state ≡ Some state
  pub journal_is_whole : AllByRecursion CanBeFed journal
  pub more_is_whole : AllByRecursion (λ f. IsWhole (further_message f)) more
  pub found : AllFound fed.proposed (map further_frame more)
  pub base : StateMap
  pub history : History (setup_for fixed start) fixed.handler base journal
  pub replays : fixed.options.journal_replay ≡ Enabled
  pub queues : fixed.options.signal_delivery ≡ Queued
  pub once : (n : ℕ) (made : List RawMessage) (p : Point)
      → Made (setup_for fixed start) fixed.handler
      (Handed (record { entries = state; coverage = coverage_of start.partial })) n
      (first_point (setup_for fixed start) history.input (notifications_in journal
      ++ arriving fed.proposed (map further_frame more)) history.rest) made p → HasNoTwo p
  pub kinds : (n : ℕ) (made : List RawMessage) (p : Point)
      → Made (setup_for fixed start) fixed.handler
      (Handed (record { entries = state; coverage = coverage_of start.partial })) n
      (first_point (setup_for fixed start) history.input (notifications_in journal
      ++ arriving fed.proposed (map further_frame more)) history.rest) made p
      → AreOfTheirKind (notifications_in journal
      ++ arriving fed.proposed (map further_frame more)) (history.rest ++ made)
