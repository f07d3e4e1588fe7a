-- What a call from C does to the journal that it is given.
use Rattle.std.specs.Prelude.{◌≡◌, ◌≢◌, ◌++◌, ◌⊎◌, ℕ, Bool, true, false, List, [], length, map, slice_get, Option, Some, None}
use Rattle.journal_protocol.specs.Version.{Version}
use Rattle.journal_entries.specs.Frames.{Rest, frames_of}
use Rattle.journal_entries.specs.declared.fault.JournalFault.{JournalFault}
use Rattle.std.specs.List.{flat_map}
use Rattle.journal_entries.specs.Storing.{NoneFaults, stored_as, waits_behind, written_from}
use Rattle.journal_store.specs.Journals.{Enters, Holds, IsFault, IsSameKept, Kept, JournalView}
use Rattle.journal_store.specs.Stored.{IsStoringFault, StoresNext}
use Rattle.c_journals.specs.declared.row.Stored.{Stored}
use Rattle.c_journals.specs.declared.journal.HeldJournal.{HeldJournal}
use Rattle.c_journals.specs.declared.row.Row.{Row}
use Rattle.c_values.specs.declared.status.Status.{Status}
use Rattle.c_values.specs.declared.status.Status.TheVariants as status
use Rattle.c_values.specs.Written.{BytesWritten, NoneWritten, WrittenOrWhy}
use Rattle.c_journals.specs.declared.effect.EffectRow.{EffectRow}
use Rattle.c_journals.specs.Effects.{effect_row, no_effect}
use Rattle.c_journals.specs.EffectParts.{effect_part}
use Rattle.c_journals.specs.Rows.{row_in, no_row}
use Rattle.c_journals.specs.Statuses.{IsFaultOf, fault_status}

-- ---- what is done to a journal

-- no entries, none to append and nothing to feed
pub record IsEmptyJournal (j : HeldJournal) : Type 0 where
  pub holds : Holds j.journal []
  pub kept : Kept j.journal []
  pub rows : j.rows.items ≡ []
  pub feed : j.feed.items ≡ []

-- what came since the last commit is taken back: the journal as it was then is known
pub record GoesBack (old new : JournalView) : Type 0 where
  pub holds : (journal : List (List ℕ)) → Kept old journal → Holds new journal
  pub kept : (journal : List (List ℕ)) → Kept old journal → Kept new journal

-- the same, and there are no rows to append and nothing to feed
pub record IsUndone (old new : HeldJournal) : Type 0 where
  pub back : GoesBack old.journal new.journal
  pub rows : new.rows.items ≡ []
  pub feed : new.feed.items ≡ []

-- what came since the last commit is committed
pub record KeepsAll (old new : JournalView) : Type 0 where
  pub holds : (journal : List (List ℕ)) → Holds old journal → Holds new journal
  pub kept : (journal : List (List ℕ)) → Holds old journal → Kept new journal

-- what is to be appended and fed stays
pub record SameRows (old new : HeldJournal) : Type 0 where
  pub rows : new.rows ≡ old.rows
  pub feed : new.feed ≡ old.feed

-- ---- an entry

-- the entry is appended, and this is its row
pub record EntryAppended (fault : List (List ℕ) → Option JournalFault) (entry : List ℕ) (row : Row)
    (old new : HeldJournal) : Type 0 where
  pub enters : Enters fault entry old.journal new.journal
  pub kept : IsSameKept old.journal new.journal
  pub same : SameRows old new
  pub answer : row ≡ row_in entry

-- the entry has this fault, and what came since the last commit is taken back
pub record EntryRefused (fault : List (List ℕ) → Option JournalFault) (f : JournalFault) (row : Row)
    (old new : HeldJournal) : Type 0 where
  pub found : IsFault fault old.journal f
  pub undone : IsUndone old new
  pub answer : row ≡ no_row (fault_status f)

-- An entry is appended, if it has no fault of this kind; else what came since the last commit is
-- taken back.
abbrev pub EntryDone : (List (List ℕ) → Option JournalFault) → List ℕ → Status → Row → HeldJournal
    → HeldJournal → Type 0
EntryDone fault entry status.Done row old new = EntryAppended fault entry row old new
EntryDone fault entry named row old new = IsFaultOf named (λ f. EntryRefused fault f row old new)

-- ---- an output

-- some bytes are whole frames: nothing follows the last of them
abbrev pub IsWholeFrames : List ℕ → Type 0
IsWholeFrames bytes = (frames_of bytes).1 ≡ Rest []

-- whether some bytes are whole frames
abbrev pub EndsAs : List ℕ → Bool → Type 0
EndsAs bytes true = IsWholeFrames bytes
EndsAs bytes false = (frames_of bytes).1 ≢ Rest []

-- all that is stored of an output is stored, and this is whether what is left of it is whole frames
pub record StoresAll (version : Version) (output : List ℕ) (whole : Bool) (old : JournalView)
    (rows : List (List ℕ)) (feed : List ℕ) (new : JournalView) (rows' : List (List ℕ))
    (feed' : List ℕ)
    : Type 0 where
  pub rest : List ℕ
  pub stores : StoresNext version (length output) output rest old rows feed new rows' feed'
  pub ends : EndsAs rest whole

-- for a journal: these rows are what is stored of an output, in order, and this answers it; none of
-- it has a fault, and the output is whole frames
pub record AllStored (version : Version) (output : List ℕ) (journal rows : List (List ℕ))
    (feed : List ℕ) : Type 0 where
  pub stored : rows ≡ map stored_as (written_from output)
  pub answers : feed ≡ flat_map (waits_behind version) (written_from output)
  pub faultless : NoneFaults (written_from output) journal
  pub whole : IsWholeFrames output

-- so for each journal that is known, and the journal with the rows is known
pub record StoresWhole (version : Version) (output : List ℕ) (old new : JournalView)
    (rows : List (List ℕ)) (feed : List ℕ) : Type 0 where
  pub each : (journal : List (List ℕ)) → Holds old journal
      → AllStored version output journal rows feed × Holds new (journal ++ rows)

-- the output is stored: its rows are to be appended, and what answers it is to be fed
pub record IsStored (version : Version) (output : List ℕ) (stored : Stored)
    (old new : HeldJournal) : Type 0 where
  pub stores : StoresWhole version output old.journal new.journal new.rows.items new.feed.items
  pub kept : IsSameKept old.journal new.journal
  pub rows : stored.rows ≡ length new.rows.items
  pub feed : stored.feed ≡ length new.feed.items

-- nothing is stored, and what came since the last commit is taken back
pub record IsntStored (stored : Stored) (old new : HeldJournal) : Type 0 where
  pub undone : IsUndone old new
  pub rows : stored.rows ≡ 0
  pub feed : stored.feed ≡ 0

-- the output of an attempt whose journal is known isn't whole frames
abbrev pub LeavesRest : List ℕ → JournalView → Type 0
LeavesRest output old =
    (journal : List (List ℕ)) → Holds old journal → (frames_of output).1 ≢ Rest []

-- All that is stored of an output is stored; or there is a fault, or the output isn't whole frames,
-- and what came since the last commit is taken back.
abbrev pub OutputDone : Version → List ℕ → Status → Stored → HeldJournal → HeldJournal → Type 0
OutputDone version output status.Done stored old new = IsStored version output stored old new
OutputDone version output status.BadOutput stored old new =
    LeavesRest output old.journal × IsntStored stored old new
OutputDone version output named stored old new =
    IsFaultOf named (λ f. IsStoringFault version (length output) output old.journal [] f)
    × IsntStored stored old new

-- ---- what is read

-- the row at a place, if there is one, or it is out of memory
abbrev pub RowFound : Option (List ℕ) → Status → Row → Type 0
RowFound (Some entry) status.Done row = row ≡ row_in entry
RowFound (Some entry) status.NoMemory row = row ≡ no_row status.NoMemory
RowFound None status.NoRow row = row ≡ no_row status.NoRow
RowFound found named row = ⊥

-- the bytes of a row are written, if there is one
abbrev pub RowWritten : Option (List ℕ) → Status → ℕ → List ℕ → List ℕ → Type 0
RowWritten (Some entry) named len before after = BytesWritten entry named len before after
RowWritten None status.NoRow len before after = (len ≡ 0) × (after ≡ before)
RowWritten None named len before after = ⊥

-- what the row at a place asks for, if there is one, or it is out of memory
abbrev pub EffectFound : Option (List ℕ) → EffectRow → Type 0
EffectFound (Some entry) row = (row ≡ effect_row entry) ⊎ (row ≡ no_effect status.NoMemory)
EffectFound None row = row ≡ no_effect status.NoRow

-- a part of what a row asks for is written, if there is a row and it has the part
abbrev pub EffectWritten : Option (List ℕ) → ℕ → Status → ℕ → List ℕ → List ℕ → Type 0
EffectWritten (Some entry) place named len before after =
    WrittenOrWhy named (effect_part entry place) len before after
EffectWritten None place named len before after =
    (named ≡ status.NoRow) × NoneWritten len before after

-- ---- the journal that C holds, if there is one

-- a journal was made, and it is empty; or no memory was found, and there is none
abbrev pub IsNewJournal : Status → Option HeldJournal → Type 0
IsNewJournal status.Done (Some made) = IsEmptyJournal made
IsNewJournal status.NoMemory None = Unit {0}
IsNewJournal named made = ⊥

-- how many entries it has
abbrev pub HasEntries : Status → ℕ → Option HeldJournal → Type 0
HasEntries status.Done count (Some j) = count ≡ j.journal.entries
HasEntries status.NoJournal count None = count ≡ 0
HasEntries named count j = ⊥

-- An entry is appended to the journal that there is.
abbrev pub EntryAnswered : (List (List ℕ) → Option JournalFault) → List ℕ → Status → Row
    → Option HeldJournal → Option HeldJournal → Type 0
EntryAnswered fault entry named row (Some old) (Some new) = EntryDone fault entry named row old new
EntryAnswered fault entry named row None None =
    (named ≡ status.NoJournal) × (row ≡ no_row status.NoJournal)
EntryAnswered fault entry named row old new = ⊥

-- An output is stored in the journal that there is, in the form of a version.
abbrev pub OutputStored : Version → List ℕ → Status → Stored → Option HeldJournal
    → Option HeldJournal → Type 0
OutputStored version output named stored (Some old) (Some new) =
    OutputDone version output named stored old new
OutputStored version output named stored None None =
    (named ≡ status.NoJournal) × (stored.rows ≡ 0) × (stored.feed ≡ 0)
OutputStored version output named stored old new = ⊥

-- the same, if a number names the version; else nothing is done
abbrev pub OutputAnswered : Option Version → List ℕ → Status → Stored → Option HeldJournal
    → Option HeldJournal → Type 0
OutputAnswered (Some version) output named stored old new =
    OutputStored version output named stored old new
OutputAnswered None output named stored old new =
    (named ≡ status.BadNumber) × (new ≡ old) × (stored.rows ≡ 0) × (stored.feed ≡ 0)

-- What came is committed. Without memory the journal is dropped: it has to be loaded again.
abbrev pub CommitAnswered : Status → Option HeldJournal → Option HeldJournal → Type 0
CommitAnswered status.Done (Some old) (Some new) =
    KeepsAll old.journal new.journal × SameRows old new
CommitAnswered status.NoMemory (Some old) None = Unit {0}
CommitAnswered status.NoJournal None None = Unit {0}
CommitAnswered named old new = ⊥

-- What came is taken back.
abbrev pub UndoAnswered : Status → Option HeldJournal → Option HeldJournal → Type 0
UndoAnswered status.Done (Some old) (Some new) = IsUndone old new
UndoAnswered status.NoJournal None None = Unit {0}
UndoAnswered named old new = ⊥

-- A row of the last store is read.
abbrev pub RowAnswered : ℕ → Status → Row → Option HeldJournal → Type 0
RowAnswered at named row (Some j) = RowFound (slice_get j.rows.items at) named row
RowAnswered at named row None = (named ≡ status.NoJournal) × (row ≡ no_row status.NoJournal)

-- What a row of the last store asks for is read.
abbrev pub EffectAnswered : ℕ → EffectRow → Option HeldJournal → Type 0
EffectAnswered at row (Some j) = EffectFound (slice_get j.rows.items at) row
EffectAnswered at row None = row ≡ no_effect status.NoJournal

-- A part of what a row of the last store asks for is read.
abbrev pub PartAnswered : ℕ → ℕ → Status → ℕ → List ℕ → List ℕ → Option HeldJournal → Type 0
PartAnswered at place named len before after (Some j) =
    EffectWritten (slice_get j.rows.items at) place named len before after
PartAnswered at place named len before after None =
    (named ≡ status.NoJournal) × NoneWritten len before after

-- The bytes of a row of the last store are read.
abbrev pub FrameAnswered : ℕ → Status → ℕ → List ℕ → List ℕ → Option HeldJournal → Type 0
FrameAnswered at named len before after (Some j) =
    RowWritten (slice_get j.rows.items at) named len before after
FrameAnswered at named len before after None =
    (named ≡ status.NoJournal) × (len ≡ 0) × (after ≡ before)

-- The bytes are read that answer the last store.
abbrev pub FeedAnswered : Status → ℕ → List ℕ → List ℕ → Option HeldJournal → Type 0
FeedAnswered named len before after (Some j) = BytesWritten j.feed.items named len before after
FeedAnswered named len before after None = (named ≡ status.NoJournal) × (len ≡ 0) × (after ≡ before)
