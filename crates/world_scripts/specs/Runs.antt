-- What a run of the program does: it reads a whole script, plays its rounds, and writes their
-- report.
use Rattle.std.specs.Prelude.{◌≡◌, ◌⊎◌, ℕ, List, [], ◌∷◌, map, Option, Some, None, IfSome}
use Rattle.std.proofs.Common.{Global}
use Rattle.std.specs.Io.KnownBytes.{Appends}
use Rattle.std.specs.declared.io.Error.{Error as IoError}
use Rattle.std.specs.declared.vec.Vec.{Vec}
use Rattle.lines.specs.Places.{IsLineNumbered}
use Rattle.journal_protocol.specs.Frames.{encoding}
use Rattle.journal_protocol.specs.Message.TheVariants as message
use Rattle.journal_protocol.specs.Version.{Version}
use Rattle.vm_model.specs.Calls.{Meaning}
use Rattle.world_rounds.specs.Inside.{report_view}
use Rattle.world_rounds.specs.Places.{RoundsStop}
use Rattle.world_rounds.specs.Rounds.{RoundsDo, RoundsFault}
use Rattle.journal_entries.specs.Given.{AreGiven, FirstGiven}
use Rattle.world_rounds.specs.Worlds.{pairs_given}
use Rattle.world_rounds.specs.declared.types.Report.{Report}
use Rattle.world_rounds.specs.declared.types.Round.{Round}
use Rattle.journal_entries.specs.declared.fault.JournalFault.{JournalFault}
use Rattle.journal_entries.specs.declared.fault.JournalFault.TheVariants as journal_fault
use Rattle.world_rounds.specs.declared.types.Setting.{Setting}
use Rattle.program_runs.specs.Streams.{AppendsSome}
use Rattle.world_scripts.specs.Scripts.{IsScriptRead, StopsAt, no_parts}
use Rattle.world_scripts.specs.declared.given.Given.{Given}
use Rattle.world_scripts.specs.declared.script.Script.{Script}
use Rattle.world_scripts.specs.Printed.{IsPrinted, fault_text}
use Rattle.program_runs.specs.Ends.{Says}
use Rattle.program_runs.specs.declared.run_end.RunEnd.{RunEnd}
use Rattle.program_runs.specs.declared.run_end.RunEnd.TheVariants.{Refused, ReadFailed, NoMemory, WriteFailed, Written}
use Rattle.world_scripts.specs.declared.run_end.Ending.{Ending}
use Rattle.world_scripts.specs.declared.run_end.Refusal.{Refusal}
use Rattle.world_scripts.specs.declared.run_end.Refusal.TheVariants.{UnknownHandler, UnknownContentType, NoMeaning}
use Rattle.world_scripts.specs.declared.stop.Stop.{Stop}
use Rattle.world_scripts.specs.declared.stop.Stop.TheVariants.{Rounds, World}

-- what all attempts of a script's world are made with
abbrev pub setting_of : Version → Given → Setting
setting_of version given = record {
  identity = given.identity;
  options = given.options;
  version = version;
  base = pairs_given given.state.items;
}

-- the journal with which a world begins: the entries that are given, or one Input command, without
-- headers, if there are none
abbrev pub first_journal : List ℕ → List (List ℕ) → List (List ℕ)
first_journal input [] = encoding (message.Input (record { headers = []; value = input })) ∷ []
first_journal input (entry ∷ entries) = entry ∷ entries

-- how the rounds of a world end, and their report: all have run; or a fault has stopped them at
-- this place, and the report is its name
abbrev pub RoundsEnd : Meaning → Setting → List Round → List (List ℕ) → Option Stop → List ℕ
    → Type 0
RoundsEnd meaning setting rounds journal None report =
    (reports : List Report) × (after : List (List ℕ))
    × RoundsDo meaning setting rounds journal (map report_view reports) after
    × IsPrinted reports report
RoundsEnd meaning setting rounds journal (Some (Rounds at)) report =
    RoundsFault meaning setting rounds journal at.fault
    × ((before : List Report)
    × RoundsStop meaning setting rounds journal (map report_view before) at)
    × (report ≡ fault_text at.fault)
RoundsEnd meaning setting rounds journal (Some (World fault)) report = ⊥

-- why no world is made of these entries: the first of them that has a fault has this one; or there
-- is no memory
abbrev pub MakeNoWorld : List (List ℕ) → JournalFault → Type 0
MakeNoWorld entries fault = (fault ≡ journal_fault.Memory) ⊎ FirstGiven [] entries fault

-- No entry of the script has a fault, and its rounds end over its world.
pub record IsPlayed (meaning : Meaning) (version : Version) (script : Script) (stop : Option Stop)
    (report : List ℕ) : Type 0 where
  pub fits : AreGiven [] script.entries.items
  pub ends : RoundsEnd meaning (setting_of version script.given) script.rounds.items
      (first_journal script.given.input script.entries.items) stop report

-- No world is made of the script's entries, and the report is the name of the fault.
pub record HasNoWorld (script : Script) (stop : Option Stop) (report : List ℕ) : Type 0 where
  pub why : JournalFault
  pub is_why : MakeNoWorld script.entries.items why
  pub is_stop : stop ≡ Some (World why)
  pub is_report : report ≡ fault_text why

-- how a script ends, and its report
abbrev pub ScriptEnds : Meaning → Version → Script → Option Stop → List ℕ → Type 0
ScriptEnds meaning version script stop report =
    IsPlayed meaning version script stop report ⊎ HasNoWorld script stop report

-- a text is read as a script, and its rounds are played over its world, if there is one
pub record Plays (meaning : Meaning) (version : Version) (text : List ℕ) (stop : Option Stop)
    (report : List ℕ) : Type 0 where
  pub script : Script
  pub is_read : IsScriptRead text script
  pub ends : ScriptEnds meaning version script stop report

-- The text is all that the reader had left, where this is known, and this holds of its report.
pub record PlaysAll (meaning : Meaning) (version : Version) (left : Option (List ℕ))
    (stop : Option Stop) (written : List ℕ → Type 0) : Type 0 where
  pub text : List ℕ
  pub report : List ℕ
  pub all : IfSome left (λ bytes. text ≡ bytes)
  pub plays : Plays meaning version text stop report
  pub is_written : written report

-- The text is all that the reader had left, where this is known, and its line of this number is the
-- first that has no meaning. The copy, if there is one, is that line.
pub record StopsThere (left : Option (List ℕ)) (number : ℕ) (copy : Option (Vec ℕ Global))
    : Type 0 where
  pub text : List ℕ
  pub all : IfSome left (λ bytes. text ≡ bytes)
  pub stops : StopsAt text no_parts number
  pub is_copy : IfSome copy (λ line. IsLineNumbered text number line.items)

-- what is written of a report into a writer that held and now holds these bytes, where the rounds
-- have ended so
abbrev pub ReportEnds : (IoError → Type 0) → Option (List ℕ) → Option (List ℕ) → Option Stop
    → List ℕ → RunEnd Refusal Ending → Type 0
ReportEnds write_fails held holds stop report (Refused why) = ⊥
ReportEnds write_fails held holds stop report (ReadFailed e) = ⊥
ReportEnds write_fails held holds stop report NoMemory = ⊥
ReportEnds write_fails held holds stop report (WriteFailed ending e) = write_fails e
    × (ending.stopped_by ≡ stop) × AppendsSome held holds report
ReportEnds write_fails held holds stop report (Written ending) = (ending.stopped_by ≡ stop)
    × Appends held holds report

-- Why a run is refused: there is no such handler, it is no content type, or the line of this number
-- has no meaning. `stops` says that it has none, and of which line a copy is; `read` that all was
-- read.
abbrev pub RoundsRefused : (ℕ → Option (Vec ℕ Global) → Type 0) → Type 0 → Refusal → Type 0
RoundsRefused stops read UnknownHandler = Unit {0}
RoundsRefused stops read UnknownContentType = Unit {0}
RoundsRefused stops read (NoMeaning number copy) = stops number copy × read

-- What each end of a run says. `plays` says that a script was played up to such an end, and what is
-- written of its report into a writer that held and now holds these bytes; `stops` that the line of
-- a number has no meaning, and of which line a copy is; `read` that all was read, and `unwritten`
-- that nothing was written.
abbrev pub RoundsSay : (Option Stop → (List ℕ → Type 0) → Type 0)
    → (ℕ → Option (Vec ℕ Global) → Type 0) → Option (List ℕ) → Option (List ℕ)
    → (IoError → Type 0) → (IoError → Type 0) → Type 0 → Type 0 → RunEnd Refusal Ending → Type 0
RoundsSay plays stops held holds read_fails write_fails read unwritten end =
    Says (RoundsRefused stops read) (λ written ending. plays ending.stopped_by written) held holds
    read_fails write_fails read unwritten end
