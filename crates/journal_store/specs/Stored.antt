-- How what an attempt wrote is stored, by what is known of the journal.
use Rattle.std.specs.Prelude.{◌≡◌, ◌⊎◌, ℕ, ◌<◌, ◌^◌, Bool, true, false, List, [], ◌∷◌, ◌++◌, length, take, Option, Some, None}
use Rattle.journal_protocol.specs.Version.{Version}
use Rattle.journal_protocol.specs.RawMessage.{RawMessage}
use Rattle.journal_protocol.specs.Frames.{Whole, Partial, Malformed, next_of}
use Rattle.journal_entries.specs.declared.storing.Written.{Written}
use Rattle.journal_entries.specs.declared.storing.Written.TheVariants.{Command, Proposal}
use Rattle.journal_entries.specs.declared.fault.JournalFault.{JournalFault}
use Rattle.journal_entries.specs.declared.fault.JournalFault.TheVariants as journal_fault
use Rattle.journal_entries.specs.Entries.{note_in, said_at}
use Rattle.journal_entries.specs.NextFrames.{IsWholeItem}
use Rattle.journal_entries.specs.Storing.{FirstFault, Stores, stored_as, waits_behind, written_as, written_from}
use Rattle.journal_store.specs.Journals.{Appends, Holds, JournalView, proposing_fault, room_at}

-- a command's body is not too long
abbrev pub fits_in : Written → Type 0
fits_in (Command raw) = length raw.body < 2 ^ 64
fits_in (Proposal p) = Unit {0}

-- the fault of storing it
abbrev pub storing_by : Written → JournalView → Option JournalFault
storing_by (Command raw) view = room_at view.entries
storing_by (Proposal p) view = proposing_fault p.id view

-- it is the next entry, and what answers it is fed
pub record StoresBy (version : Version) (w : Written) (old : JournalView) (entries : List (List ℕ))
    (feed : List ℕ) (new : JournalView) (entries' : List (List ℕ)) (feed' : List ℕ) : Type 0 where
  pub faultless : storing_by w old ≡ None
  pub stored : entries' ≡ entries ++ stored_as w ∷ []
  pub waits : feed' ≡ feed ++ waits_behind version w
  pub whole : IsWholeItem version w
  pub appends : Appends (said_at (stored_as w)) (note_in (stored_as w)) old new

-- a frame was stored, or there is nothing to be stored of it
abbrev pub StoresRawBy : Version → RawMessage → Bool → JournalView → List (List ℕ) → List ℕ
    → JournalView
    → List (List ℕ) → List ℕ → Type 0
StoresRawBy version raw false old entries feed new entries' feed' =
    (written_as raw ≡ None) × (new ≡ old) × (entries' ≡ entries) × (feed' ≡ feed)
StoresRawBy version raw true old entries feed new entries' feed' = (w : Written)
    × (written_as raw ≡ Some w) × StoresBy version w old entries feed new entries' feed'

-- the next frame was looked at, and stored if it has anything to be stored; or no frame is whole
abbrev pub StoresOneBy : Version → List ℕ → Option Bool → List ℕ → JournalView → List (List ℕ)
    → List ℕ
    → JournalView → List (List ℕ) → List ℕ → Type 0
StoresOneBy version unstored None unstored' old entries feed new entries' feed' =
    ((next_of unstored ≡ Partial) ⊎ (next_of unstored ≡ Malformed)) × (unstored' ≡ unstored)
    × (new ≡ old) × (entries' ≡ entries) × (feed' ≡ feed)
StoresOneBy version unstored (Some b) unstored' old entries feed new entries' feed' =
    (raw : RawMessage) × (next_of unstored ≡ Whole raw unstored') × (length raw.body < 2 ^ 64)
    × StoresRawBy version raw b old entries feed new entries' feed'

-- what is stored of a frame has this fault
pub record FaultsBy (raw : RawMessage) (view : JournalView) (f : JournalFault) : Type 0 where
  pub item : Written
  pub is : written_as raw ≡ Some item
  pub fault : storing_by item view ≡ Some f

-- what is stored of the next frame has this fault
pub record NextFaultsBy (unstored : List ℕ) (view : JournalView) (f : JournalFault) : Type 0 where
  pub raw : RawMessage
  pub rest : List ℕ
  pub next : next_of unstored ≡ Whole raw rest
  pub has : FaultsBy raw view f

-- For each journal that is known and ends with these entries, the next n commands and proposals are
-- stored, or all if there are fewer; and the journal with their entries is known.
abbrev pub StoresNext : Version → ℕ → List ℕ → List ℕ → JournalView → List (List ℕ) → List ℕ
    → JournalView
    → List (List ℕ) → List ℕ → Type 0
StoresNext version n unstored unstored' old entries feed new entries' feed' =
    (before : List (List ℕ)) → Holds old (before ++ entries)
    → Stores version n unstored (before ++ entries) feed (before ++ entries') feed' unstored'
    × Holds new (before ++ entries')

-- it is out of memory, or the fault of the first that has one, after each journal that is known and
-- ends with these entries
abbrev pub IsStoringFault : Version → ℕ → List ℕ → JournalView → List (List ℕ) → JournalFault
    → Type 0
IsStoringFault version n unstored old entries f =
    (f ≡ journal_fault.Memory)
    ⊎ ((before : List (List ℕ)) → Holds old (before ++ entries)
    → FirstFault version (take n (written_from unstored)) (before ++ entries) f)
