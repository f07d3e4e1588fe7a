-- While a round goes on its faults come from outside, and what its attempt proposes is of runs.
use Rattle.std.specs.Prelude.{◌≡◌, ◌⊎◌, ℕ, List, [], ◌∷◌, ◌++◌, Option, Some, None}
use Rattle.journal_protocol.specs.Notification.{Notification}
use Rattle.journal_protocol.specs.NotificationId.{NotificationId}
use Rattle.journal_protocol.specs.NotificationId.TheVariants.{CompletionId, SignalId, SignalName}
use Rattle.journal_entries.specs.declared.completions.Completes.TheVariants as completes
use Rattle.journal_entries.specs.declared.fault.JournalFault.{JournalFault}
use Rattle.journal_entries.specs.declared.fault.JournalFault.TheVariants as journal_fault
use Rattle.journal_entries.specs.declared.storing.Written.{Written}
use Rattle.journal_entries.specs.declared.storing.Written.TheVariants.{Command, Proposal}
use Rattle.journal_entries.specs.Arrivals.{completes_among}
use Rattle.journal_entries.specs.Entries.{note_in, said_in}
use Rattle.journal_entries.specs.Storing.{stored_as}
use Rattle.world_rounds.specs.declared.types.Event.{Event}
use Rattle.world_rounds.specs.declared.types.Event.TheVariants as event
use Rattle.world_rounds.specs.Rounds.{Now, OutsideFault}

-- the fault of an event of the round that goes on comes from outside: out of memory, a full journal
-- if it stores, or the arrival's own
abbrev pub OutsideIn : Event → Option Now → JournalFault → Type 0
OutsideIn e None f = ⊥
OutsideIn e (Some now) f = (f ≡ journal_fault.Memory) ⊎ OutsideFault e now f

-- a run's command carries this id
abbrev pub IsRunIn : ℕ → List (List ℕ) → Type 0
IsRunIn id journal = completes_among id (said_in journal) None ≡ Some completes.Proposal

-- where they are stored one after another, each proposal is of a run whose command stands before it
abbrev pub AreOfRuns : List Written → List (List ℕ) → Type 0
AreOfRuns [] journal = Unit {0}
AreOfRuns (Command raw ∷ ws) journal = AreOfRuns ws (journal ++ stored_as (Command raw) ∷ [])
AreOfRuns (Proposal p ∷ ws) journal = IsRunIn p.id journal
    × AreOfRuns ws (journal ++ stored_as (Proposal p) ∷ [])

-- a notification completes a run whose command stands in the journal
abbrev pub IsOfRunId : NotificationId → List (List ℕ) → Type 0
IsOfRunId (CompletionId id) journal = IsRunIn id journal
IsOfRunId (SignalId id) journal = ⊥
IsOfRunId (SignalName name) journal = ⊥

abbrev pub IsOfRun : Option Notification → List (List ℕ) → Type 0
IsOfRun None journal = Unit {0}
IsOfRun (Some n) journal = IsOfRunId n.id journal

-- each entry that a journal has grown by is a command, or completes a run whose command stands
-- before it
abbrev pub AddRunsAlone : List (List ℕ) → List (List ℕ) → Type 0
AddRunsAlone old new = (before : List (List ℕ)) (entry : List ℕ) (after : List (List ℕ))
    → new ≡ old ++ before ++ entry ∷ after → IsOfRun (note_in entry) (old ++ before)

-- what a store adds to a journal is so
abbrev pub StoresRuns : Event → List (List ℕ) → List (List ℕ) → Type 0
StoresRuns (event.Store n) old new = AddRunsAlone old new
StoresRuns e old new = Unit {0}
