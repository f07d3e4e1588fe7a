-- What a report says of its attempt.
use Rattle.std.specs.Prelude.{◌==◌, ◌≡◌, Bool, true, false, IsSomeAnd, List, map, None, Option, Some, ℕ}
use Rattle.std.specs.List.{list_any}
use Rattle.journal_protocol.specs.Error.{Error}
use Rattle.journal_protocol.specs.MessageType.{MessageType}
use Rattle.journal_protocol.specs.MessageType.TheVariants as type
use Rattle.journal_protocol.specs.RawMessage.{RawMessage}
use Rattle.journal_protocol.specs.Types.{type_number}
use Rattle.journal_entries.specs.Frames.{frames_of}
use Rattle.journal_entries.specs.JournalFrames.{commands_among}
use Rattle.journal_entries.specs.Entries.{frame_of}
use Rattle.world_rounds.specs.declared.types.Report.{Report}
use Rattle.palqytun.specs.declared.reports.Ending.{Ending}
use Rattle.palqytun.specs.declared.reports.Ending.TheVariants.{Crashed, Ended, Failed, Suspended}

-- the frames that the attempt has sent
abbrev pub frames_sent : Report → List RawMessage
frames_sent report = (frames_of report.output).0

-- the commands among them, as they are stored
abbrev pub commands_sent : Report → List (List ℕ)
commands_sent report = map frame_of (commands_among (frames_sent report))

-- whether a frame of this type is among some frames
abbrev pub is_sent_among : List RawMessage → MessageType → Bool
is_sent_among frames ty = list_any (λ raw. type_number raw.ty == type_number ty) frames

-- how an attempt without an error ended, by whether it has sent an End, and a Suspension
abbrev pub ending_by : Bool → Bool → Ending
ending_by true suspension = Ended
ending_by false true = Suspended
ending_by false false = Crashed

-- how an attempt ended that sent these frames: if an event answered an error, it has failed
abbrev pub ending_among : Option Error → List RawMessage → Ending
ending_among (Some e) frames = Failed
ending_among None frames =
    ending_by (is_sent_among frames type.End) (is_sent_among frames type.Suspension)

-- how a report's attempt ended
abbrev pub ending_of : Report → Ending
ending_of report = ending_among report.error (frames_sent report)

-- it is an error of this code and this text
abbrev pub HasError : ℕ → List ℕ → Option Error → Type 0
HasError code message error = IsSomeAnd error (λ e. (e.code ≡ code) × (e.message ≡ message))
