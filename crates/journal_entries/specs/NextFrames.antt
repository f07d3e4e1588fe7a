-- How the next frame that an attempt wrote is stored: the steps of what Storing says of all of
-- them.
use Rattle.std.specs.Prelude.{◌≡◌, ◌⊎◌, ℕ, ◌<◌, ◌^◌, Bool, true, false, List, [], ◌∷◌, ◌++◌, length, Option, Some, None}
use Rattle.journal_protocol.specs.Version.{Version}
use Rattle.journal_protocol.specs.RawMessage.{RawMessage}
use Rattle.journal_protocol.specs.Frames.{Whole, Partial, Malformed, next_of}
use Rattle.journal_entries.specs.declared.storing.Written.{Written}
use Rattle.journal_entries.specs.declared.storing.Written.TheVariants.{Command, Proposal}
use Rattle.journal_entries.specs.declared.fault.JournalFault.{JournalFault}
use Rattle.journal_entries.specs.Storing.{StoredCanBeRead, stored_as, storing_fault, waits_behind, written_as}

-- the next frame was taken; or none is whole
abbrev pub NextWritten : List ℕ → Option RawMessage → List ℕ → Type 0
NextWritten old (Some raw) new = (length raw.body < 2 ^ 64) × (next_of old ≡ Whole raw new)
NextWritten old None new = ((next_of old ≡ Partial) ⊎ (next_of old ≡ Malformed)) × (new ≡ old)

-- what can be said of how it is stored besides its bytes
abbrev pub IsWholeItem : Version → Written → Type 0
IsWholeItem version (Command raw) = Unit {0}
IsWholeItem version (Proposal p) = StoredCanBeRead version (Proposal p)

-- it was stored
pub record StoresItem (version : Version) (w : Written) (journal : List (List ℕ)) (waiting : List ℕ)
    (journal' : List (List ℕ)) (waiting' : List ℕ) : Type 0 where
  pub faultless : storing_fault w journal ≡ None
  pub stored : journal' ≡ journal ++ stored_as w ∷ []
  pub waits : waiting' ≡ waiting ++ waits_behind version w
  pub whole : IsWholeItem version w

-- a frame was stored, or there is nothing to be stored of it
abbrev pub StoresRaw : Version → RawMessage → Bool → List (List ℕ) → List ℕ → List (List ℕ) → List ℕ
    → Type 0
StoresRaw version raw false journal waiting journal' waiting' =
    (written_as raw ≡ None) × (journal' ≡ journal) × (waiting' ≡ waiting)
StoresRaw version raw true journal waiting journal' waiting' = (w : Written)
    × (written_as raw ≡ Some w) × StoresItem version w journal waiting journal' waiting'

-- the next frame was taken, and stored if it is a command's or a proposal's; or none is whole
abbrev pub StoresOne : Version → List (List ℕ) → List ℕ → List ℕ → Option Bool → List (List ℕ)
    → List ℕ → List ℕ → Type 0
StoresOne version journal waiting unstored None journal' waiting' unstored' =
    ((next_of unstored ≡ Partial) ⊎ (next_of unstored ≡ Malformed)) × (unstored' ≡ unstored)
    × (journal' ≡ journal) × (waiting' ≡ waiting)
StoresOne version journal waiting unstored (Some b) journal' waiting' unstored' =
    (raw : RawMessage) × (next_of unstored ≡ Whole raw unstored') × (length raw.body < 2 ^ 64)
    × StoresRaw version raw b journal waiting journal' waiting'

-- what is stored of a frame has this fault
pub record HasFault (raw : RawMessage) (journal : List (List ℕ)) (f : JournalFault) : Type 0 where
  pub item : Written
  pub is : written_as raw ≡ Some item
  pub fault : storing_fault item journal ≡ Some f

-- what is stored of the next frame has this fault
pub record NextFaults (unstored : List ℕ) (journal : List (List ℕ))
    (f : JournalFault) : Type 0 where
  pub raw : RawMessage
  pub rest : List ℕ
  pub next : next_of unstored ≡ Whole raw rest
  pub has : HasFault raw journal f
