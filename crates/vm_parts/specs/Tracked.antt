-- Calls whose invocations are cancelled with the handler's: one a handle of an invocation's id, in
-- the order of these handles, which is that of the calls. The id is known once its result was read.
use Rattle.std.specs.Prelude.{ℕ, ◌≡◌, ◌<◌, ◌≤◌, Bool, true, false, ◌||◌, ◌==◌, if◌then◌else◌, List, [], ◌∷◌, length, take, slice_index_or, Option, Some, None}
use Rattle.std.specs.List.Sorted.{IsPartitionPoint}
use Rattle.std.specs.Option.{option_map}
use Rattle.journal_values.specs.declared.notification.NotificationResult.{NotificationResult}
use Rattle.journal_values.specs.declared.notification.NotificationResult.TheVariants as result
use Rattle.vm_state.specs.declared.tracked_call.TrackedCall.{TrackedCall}

-- the call of this handle is tracked
abbrev pub is_tracked : ℕ → List TrackedCall → Bool
is_tracked handle [] = false
is_tracked handle (t ∷ ts) = (t.handle == handle) || is_tracked handle ts

-- the invocation's id of the call of this handle is known
abbrev pub with_invocation_id : ℕ → List ℕ → List TrackedCall → List TrackedCall
with_invocation_id handle id [] = []
with_invocation_id handle id (t ∷ ts) = if t.handle == handle
    then record { handle = t.handle; invocation_id = Some id } ∷ ts else t
    ∷ with_invocation_id handle id ts

-- A result of this handle was read, which is this invocation's id, or no id. Of a tracked call it
-- has to be one, which is then known.
abbrev pub id_noted : ℕ → Option (List ℕ) → List TrackedCall → Option (List TrackedCall)
id_noted handle id ts =
    if is_tracked handle ts then option_map (λ known. with_invocation_id handle known ts) id
    else Some ts

-- a handle comes first, where its call's id isn't known
abbrev pub if_unresolved : Option (List ℕ) → ℕ → List ℕ → List ℕ
if_unresolved None handle handles = handle ∷ handles
if_unresolved (Some id) handle handles = handles

-- the handles of the calls whose ids aren't known
abbrev pub unresolved_handles : List TrackedCall → List ℕ
unresolved_handles [] = []
unresolved_handles (t ∷ ts) = if_unresolved t.invocation_id t.handle (unresolved_handles ts)

-- the first of two lists, where a call's id isn't known, else the second
abbrev pub by_known_id : Option (List ℕ) → List TrackedCall → List TrackedCall → List TrackedCall
by_known_id None first second = first
by_known_id (Some id) first second = second

-- the first id that isn't known becomes known
abbrev pub with_next_id : List ℕ → List TrackedCall → List TrackedCall
with_next_id id [] = []
with_next_id id (t ∷ ts) = by_known_id t.invocation_id
    (record { handle = t.handle; invocation_id = Some id } ∷ ts) (t ∷ with_next_id id ts)

-- an id comes first, where it is known
abbrev pub if_known : Option (List ℕ) → List (List ℕ) → List (List ℕ)
if_known None ids = ids
if_known (Some id) ids = id ∷ ids

-- the ids that are known
abbrev pub invocation_ids : List TrackedCall → List (List ℕ)
invocation_ids [] = []
invocation_ids (t ∷ ts) = if_known t.invocation_id (invocation_ids ts)

-- the invocation's id that a result is
abbrev pub id_of_result : NotificationResult → Option (List ℕ)
id_of_result (result.InvocationId id) = Some id
id_of_result result.Void = None
id_of_result (result.Value bytes) = None
id_of_result (result.Failure failure) = None
id_of_result (result.StateKeys keys) = None

-- the first of some calls isn't tracked any more
abbrev pub without_first_call : List TrackedCall → List TrackedCall
without_first_call [] = []
without_first_call (t ∷ ts) = ts

-- A result of this handle was read, which is this invocation's id, or no id. Where that may be so,
-- it was noted; else the calls stay.
abbrev pub NotesId : ℕ → Option (List ℕ) → List TrackedCall → List TrackedCall → Bool → Type 0
NotesId handle id old new true = id_noted handle id old ≡ Some new
NotesId handle id old new false = (id_noted handle id old ≡ None) × (new ≡ old)

-- this handle is the first of these
abbrev pub IsFirstHandle : List ℕ → ℕ → Type 0
IsFirstHandle handles handle = (rest : List ℕ) × (handles ≡ handle ∷ rest)

-- each handle is greater than this one
abbrev pub TrackedAbove : ℕ → List TrackedCall → Type 0
TrackedAbove handle [] = Unit {0}
TrackedAbove handle (t ∷ ts) = (handle < t.handle) × TrackedAbove handle ts

-- handles ascend
abbrev pub TrackedAscend : List TrackedCall → Type 0
TrackedAscend [] = Unit {0}
TrackedAscend (t ∷ ts) = TrackedAbove t.handle ts × TrackedAscend ts

-- calls in the order of their handles, and how many of the first ones have ids that are known
pub record IsTracking (ts : List TrackedCall) (resolved : ℕ) : Type 0 where
  pub ascend : TrackedAscend ts
  pub within : resolved ≤ length ts
  pub known : unresolved_handles (take resolved ts) ≡ []

-- the call of a handle stands here
abbrev pub IsTrackedAt : ℕ → List TrackedCall → ℕ → Type 0
IsTrackedAt handle ts place =
    (place < length ts) × ((d : TrackedCall) → (slice_index_or ts place d).handle ≡ handle)

-- no call has the handle, and one would stand here: after those that are less, and before those
-- that are greater
abbrev pub IsBetween : ℕ → List TrackedCall → ℕ → Type 0
IsBetween handle ts place = (place ≤ length ts)
    × IsPartitionPoint (λ t. t.handle < handle) (λ t. handle < t.handle) ts place

-- the first call whose id isn't known stands here, or there is none and this is the end
pub record IsNextUnresolved (ts : List TrackedCall) (place : ℕ) : Type 0 where
  pub within : place ≤ length ts
  pub known : unresolved_handles (take place ts) ≡ []
  pub next : (d : TrackedCall) → place < length ts → (slice_index_or ts place d).invocation_id
      ≡ None
