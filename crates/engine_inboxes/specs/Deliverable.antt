-- What waits can be delivered: each completion is of an id that a stored command carries, of its
-- kind, not completed, and waits once.
use Rattle.std.specs.Prelude.{◌≡◌, ℕ, ◌≤◌, ◌==◌, Bool, true, false, List, [], ◌∷◌, ◌++◌, Option, Some, None, is_some}
use Rattle.std.specs.List.{AllByRecursion, list_any, remove}
use Rattle.journal_protocol.specs.Message.{Message}
use Rattle.journal_protocol.specs.Notification.{Notification}
use Rattle.journal_protocol.specs.NotificationId.{NotificationId}
use Rattle.journal_protocol.specs.NotificationId.TheVariants.{CompletionId, SignalId, SignalName}
use Rattle.journal_store.specs.declared.effect.Effect.{Effect}
use Rattle.journal_store.specs.declared.effect.Effect.TheVariants as effect
use Rattle.journal_store.specs.Effects.{effect_of}
use Rattle.journal_entries.specs.declared.completions.Completes.{Completes}
use Rattle.journal_entries.specs.declared.completions.Completes.TheVariants as completes
use Rattle.journal_entries.specs.Arrivals.{arrival_fault, completes_among, completes_id, room_fault}
use Rattle.journal_entries.specs.Entries.{note_in, notes_in, said_at, said_in}
use Rattle.engine_inboxes.specs.declared.types.InboxFault.{InboxFault}
use Rattle.engine_inboxes.specs.declared.types.InboxFault.TheVariants as fault
use Rattle.engine_inboxes.specs.declared.types.Waiting.{Waiting}
use Rattle.engine_inboxes.specs.declared.types.Waiting.TheVariants as waiting
use Rattle.engine_inboxes.specs.Ids.{past_new_ids}

-- it waits for this id
abbrev pub waits_for_id : ℕ → Waiting → Bool
waits_for_id id (waiting.Id own) = own == id
waits_for_id id (waiting.Outcome own call) = own == id
waits_for_id id (waiting.Clock timer) = timer.completes == id
waits_for_id id (waiting.Signal s brings) = false

-- something waits for this id
abbrev pub is_waited : ℕ → List Waiting → Bool
is_waited id ws = list_any (waits_for_id id) ws

-- what its id is completed by
abbrev pub kind_of : Waiting → Completes
kind_of (waiting.Id own) = completes.InvocationId
kind_of (waiting.Outcome own call) = completes.AnyResult
kind_of (waiting.Clock timer) = completes.AnyResult
kind_of (waiting.Signal s brings) = completes.AnyResult

-- what a command waits for, by what it asks for
abbrev pub waits_for_outcome : ℕ → Option ℕ → List Waiting
waits_for_outcome call None = []
waits_for_outcome call (Some id) = waiting.Outcome id call ∷ []

abbrev pub waited_by : Option Effect → List Waiting
waited_by (Some (effect.Wait timer)) = waiting.Clock timer ∷ []
waited_by (Some (effect.Begin b)) = waiting.Id b.id_completes
    ∷ waits_for_outcome b.id_completes b.result_completes
waited_by (Some (effect.Send s)) = []
waited_by (Some (effect.Result r)) = []
waited_by None = []

-- ---- what is known of ids

-- what completes each id, and whether it was completed
pub record Known : Type 0 where
  pub kind : ℕ → Option Completes
  pub done : ℕ → Bool

-- what a journal says of ids
abbrev pub known_in : List (List ℕ) → Known
known_in journal = record {
  kind = λ id. completes_among id (said_in journal) None;
  done = λ id. completes_id id (notes_in journal);
}

-- the id is of this kind, and not completed
abbrev pub IsPendingId : Known → Completes → ℕ → Type 0
IsPendingId k kind id = (k.kind id ≡ Some kind) × (k.done id ≡ false)

-- the id that it waits for is of its kind, and not completed
abbrev pub CanCome : Known → Waiting → Type 0
CanCome k w = (id : ℕ) → waits_for_id id w ≡ true → IsPendingId k (kind_of w) id

-- these wait for other ids
abbrev pub WaitForOthers : Waiting → List Waiting → Type 0
WaitForOthers w ws =
    AllByRecursion (λ v. (id : ℕ) → waits_for_id id w ≡ true → waits_for_id id v ≡ false) ws

-- no two wait for one id
abbrev pub WaitOnce : List Waiting → Type 0
WaitOnce [] = Unit {0}
WaitOnce (w ∷ ws) = WaitForOthers w ws × WaitOnce ws

-- no command carries an id from this one on, and none is completed
abbrev pub IsUnknownFrom : Known → ℕ → Type 0
IsUnknownFrom k next = (id : ℕ) → next ≤ id → (k.kind id ≡ None) × (k.done id ≡ false)

-- By what is known of ids, each of these can come, and they wait once; all ids from the next on are
-- new.
pub record CanAllCome (k : Known) (ws : List Waiting) (next : ℕ) : Type 0 where
  pub new : IsUnknownFrom k next
  pub come : AllByRecursion (CanCome k) ws
  pub once : WaitOnce ws

-- what a journal's commands say of ids, whether they are completed or not
abbrev pub kinds_in : List (List ℕ) → Known
kinds_in journal = record {
  kind = λ id. completes_among id (said_in journal) None;
  done = λ id. false;
}

-- the same by a journal
abbrev pub Deliverable : List (List ℕ) → List Waiting → ℕ → Type 0
Deliverable journal ws next = CanAllCome (known_in journal) ws next

-- ---- a command is stored

-- what waits and what is next after a command
pub record Commanded (m : Message) (old : List Waiting) (next : ℕ) (new : List Waiting)
    (next' : ℕ) : Type 0 where
  pub past : past_new_ids next m ≡ Some next'
  pub waits : new ≡ old ++ waited_by (effect_of m)

-- the fault of a command, out of memory aside: one of its ids isn't new
abbrev pub CommandFaults : Message → ℕ → InboxFault → Type 0
CommandFaults m next fault.Memory = Unit {0}
CommandFaults m next fault.IdNotNew = past_new_ids next m ≡ None
CommandFaults m next fault.NotARun = ⊥

-- what an entry asks for, if it is a command
abbrev pub effect_said : Option Message → Option Effect
effect_said None = None
effect_said (Some m) = effect_of m

abbrev pub effect_at : List ℕ → Option Effect
effect_at entry = effect_said (said_at entry)

-- what is next past the ids of what an entry says
abbrev pub past_said : ℕ → Option Message → Option ℕ
past_said next None = Some next
past_said next (Some m) = past_new_ids next m

-- what waits and what is next after an entry that an attempt wrote
pub record Entered (entry : List ℕ) (old : List Waiting) (next : ℕ) (new : List Waiting)
    (next' : ℕ) : Type 0 where
  pub past : past_said next (said_at entry) ≡ Some next'
  pub waits : new ≡ old ++ waited_by (effect_at entry)

-- ---- a completion is proposed

-- the notification completes an id that waits
abbrev pub id_is_waited : NotificationId → List Waiting → Bool
id_is_waited (CompletionId id) ws = is_waited id ws
id_is_waited (SignalId id) ws = false
id_is_waited (SignalName name) ws = false

abbrev pub completes_waited : Option Notification → List Waiting → Bool
completes_waited None ws = false
completes_waited (Some n) ws = id_is_waited n.id ws

-- it completes none that waits
abbrev pub IsUnwaited : Option Notification → List Waiting → Type 0
IsUnwaited note ws = completes_waited note ws ≡ false

-- an entry that is no command completes none that waits
abbrev pub IsProposedApart : List ℕ → List Waiting → Type 0
IsProposedApart entry ws = said_at entry ≡ None → IsUnwaited (note_in entry) ws

-- The fault of an entry that an attempt wrote, out of memory aside: a command carries an id that
-- isn't new, or a completion is of what waits.
abbrev pub EntryFaults : List ℕ → List Waiting → ℕ → InboxFault → Type 0
EntryFaults entry ws next fault.Memory = Unit {0}
EntryFaults entry ws next fault.IdNotNew = past_said next (said_at entry) ≡ None
EntryFaults entry ws next fault.NotARun =
    (said_at entry ≡ None) × (completes_waited (note_in entry) ws ≡ true)

-- a notification that an attempt's proposal became is of an id that a stored command carries
abbrev pub IsCarriedId : NotificationId → Known → Type 0
IsCarriedId (CompletionId id) k = is_some (k.kind id) ≡ true
IsCarriedId (SignalId id) k = Unit {0}
IsCarriedId (SignalName name) k = Unit {0}

abbrev pub IsCarriedNote : Option Notification → Known → Type 0
IsCarriedNote None k = Unit {0}
IsCarriedNote (Some n) k = IsCarriedId n.id k

-- what an attempt's frame is stored as: a command, or a completion of an id that a command carries
abbrev pub MayBeStored : List ℕ → List (List ℕ) → Type 0
MayBeStored entry journal = IsCarriedNote (note_in entry) (known_in journal)

-- ---- what waits comes

-- what comes is taken out, and nothing else
abbrev pub TakesOut : Option Notification → ℕ → List Waiting → ℕ → List Waiting → ℕ → Type 0
TakesOut None at old next new next' = (new ≡ old) × (next' ≡ next)
TakesOut (Some n) at old next new next' = (new ≡ remove old at) × (next' ≡ next)

-- A notification is an entry of each journal on which all that waited could come: it has no fault
-- but that of a full journal, and what still waits can come after it.
abbrev pub ArrivesOn : Notification → List Waiting → ℕ → List Waiting → ℕ → List ℕ → List (List ℕ)
    → Type 0
ArrivesOn n old next new next' entry journal =
    (note_in entry ≡ Some n) → Deliverable journal old next
    → (arrival_fault entry journal ≡ room_fault journal)
    × Deliverable (journal ++ entry ∷ []) new next'

abbrev pub Arrives : Option Notification → List Waiting → ℕ → List Waiting → ℕ → Type 0
Arrives None old next new next' = (new ≡ old) × (next' ≡ next)
Arrives (Some n) old next new next' =
    (entry : List ℕ) (journal : List (List ℕ)) → ArrivesOn n old next new next' entry journal
