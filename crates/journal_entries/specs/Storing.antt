-- How what an attempt wrote is stored: the commands and proposals among its frames, in order.
use Rattle.std.specs.Prelude.{◌≡◌, ◌⊎◌, ℕ, ◌<◌, ◌^◌, true, cond, if◌then◌else◌, List, [], ◌∷◌, ◌++◌, length, take, map, Option, Some, None}
use Rattle.std.specs.List.{AllByRecursion, flat_map}
use Rattle.std.specs.Option.{option_map}
use Rattle.journal_protocol.specs.ProposeRunCompletion.{ProposeRunCompletion}
use Rattle.journal_protocol.specs.Version.{Version}
use Rattle.journal_protocol.specs.Message.{Message}
use Rattle.journal_protocol.specs.Message.TheVariants as message
use Rattle.journal_protocol.specs.RawMessage.{RawMessage}
use Rattle.journal_protocol.specs.Frames.{IsWhole, encoding}
use Rattle.journal_entries.specs.Frames.{frames_of}
use Rattle.journal_entries.specs.Proposals.{acknowledged_completion}
use Rattle.journal_protocol.specs.Versions.{is_from_v7}
use Rattle.journal_protocol.specs.Bodies.{proposal_in}
use Rattle.journal_entries.specs.JournalFrames.{is_command_frame, is_proposal}
use Rattle.journal_entries.specs.declared.storing.Written.{Written}
use Rattle.journal_entries.specs.declared.storing.Written.TheVariants.{Command, Proposal}
use Rattle.journal_entries.specs.declared.fault.JournalFault.{JournalFault}
use Rattle.journal_entries.specs.Arrivals.{stored_proposal_fault, room_fault}
use Rattle.journal_entries.specs.Entries.{frame_of}

-- ---- what is stored of frames

-- the proposal that a frame is, if it is one and can be read
abbrev pub proposal_of : RawMessage → Option ProposeRunCompletion
proposal_of raw = cond (is_proposal raw) (proposal_in raw.body) None

-- what is stored of a frame: a command, or a run's result
abbrev pub written_as : RawMessage → Option Written
written_as raw =
    cond (is_command_frame raw) (Some (Command raw)) (option_map Proposal (proposal_of raw))

-- with what is stored, if there is something
abbrev pub written_before : Option Written → List Written → List Written
written_before None ws = ws
written_before (Some w) ws = w ∷ ws

-- what is stored of some frames, in order
abbrev pub written_among : List RawMessage → List Written
written_among [] = []
written_among (raw ∷ raws) = written_before (written_as raw) (written_among raws)

-- what is stored of the frames of some bytes
abbrev pub written_from : List ℕ → List Written
written_from bytes = written_among (frames_of bytes).0

-- ---- how it is stored

-- the completion of a run, with the result that is proposed
abbrev pub completion_message : ProposeRunCompletion → Message
completion_message p = message.Notification (acknowledged_completion p.id p)

-- the acknowledgement of a proposal
abbrev pub acknowledgement : ℕ → Message
acknowledgement id = message.ProposeRunCompletionAck (record { id = id })

-- how it is stored: a command as it was written, a proposal as the run's completion
abbrev pub stored_as : Written → List ℕ
stored_as (Command raw) = frame_of raw
stored_as (Proposal p) = encoding (completion_message p)

-- what answers a proposal: from version 7 on its acknowledgement, before it the completion
abbrev pub answer_to : Version → ProposeRunCompletion → List ℕ
answer_to version p = if is_from_v7 version then encoding (acknowledgement p.id)
    else encoding (completion_message p)

-- what waits once it is stored: nothing after a command, after a proposal what answers it
abbrev pub waits_behind : Version → Written → List ℕ
waits_behind version (Command raw) = []
waits_behind version (Proposal p) = answer_to version p

-- the fault of storing it, out of memory aside
abbrev pub storing_fault : Written → List (List ℕ) → Option JournalFault
storing_fault (Command raw) journal = room_fault journal
storing_fault (Proposal p) journal = stored_proposal_fault p.id journal

-- none of these has a fault, where they are stored one after another
abbrev pub NoneFaults : List Written → List (List ℕ) → Type 0
NoneFaults [] journal = Unit {0}
NoneFaults (w ∷ ws) journal = (storing_fault w journal ≡ None)
    × NoneFaults ws (journal ++ stored_as w ∷ [])

-- it can be read back, and so can what answers it
abbrev pub StoredCanBeRead : Version → Written → Type 0
StoredCanBeRead version (Command raw) = length raw.body < 2 ^ 64
StoredCanBeRead version (Proposal p) = IsWhole (completion_message p)
    × (is_from_v7 version ≡ true → IsWhole (acknowledgement p.id))

-- the first of these that has a fault has this one, and those before it can be read back
abbrev pub FirstFault : Version → List Written → List (List ℕ) → JournalFault → Type 0
FirstFault version [] journal f = ⊥
FirstFault version (w ∷ ws) journal f = (storing_fault w journal ≡ Some f)
    ⊎ ((storing_fault w journal ≡ None) × StoredCanBeRead version w
    × FirstFault version ws (journal ++ stored_as w ∷ []) f)

-- The next n commands and proposals among the frames of some bytes are stored, or all where there
-- are fewer: some frames of them were looked at, the journal has grown by what is stored of them,
-- and what answers the proposals waits.
pub record Stores (version : Version) (n : ℕ) (unstored : List ℕ) (journal : List (List ℕ))
    (waiting : List ℕ) (journal' : List (List ℕ)) (waiting' : List ℕ)
    (unstored' : List ℕ) : Type 0 where
  pub seen : List RawMessage
  pub frames : frames_of unstored ≡ (seen ++ (frames_of unstored').0, (frames_of unstored').1)
  pub next : written_among seen ≡ take n (written_from unstored)
  pub stored : journal' ≡ journal ++ map stored_as (written_among seen)
  pub waits : waiting' ≡ waiting ++ flat_map (waits_behind version) (written_among seen)
  pub faultless : NoneFaults (written_among seen) journal
  pub readable : AllByRecursion (StoredCanBeRead version) (written_among seen)
