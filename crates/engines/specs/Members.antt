-- An invocation by itself: its rounds, and what waits for it.
use Rattle.std.specs.Prelude.{◌≡◌, ◌⊎◌, ℕ, ◌<◌, true, List, [], ◌∷◌, ◌++◌, length, slice_index_or, Option, Some, None, is_some}
use Rattle.std.specs.List.{remove}
use Rattle.journal_protocol.specs.Notification.{Notification}
use Rattle.journal_protocol.specs.NotificationResult.{NotificationResult}
use Rattle.journal_protocol.specs.Signal.{Signal}
use Rattle.vm_model.specs.Calls.{Meaning}
use Rattle.journal_store.specs.declared.effect.Effect.{Effect}
use Rattle.journal_entries.specs.Entries.{note_in}
use Rattle.engine_inboxes.specs.declared.types.Brought.{Brought}
use Rattle.engine_inboxes.specs.Notes.{note_by}
use Rattle.world_rounds.specs.Course.{CourseView, HappensTo}
use Rattle.world_rounds.specs.Guarantees.{Case}
use Rattle.world_rounds.specs.Outside.{AddRunsAlone}
use Rattle.world_rounds.specs.Rounds.{ReplaysAndQueues}
use Rattle.world_rounds.specs.declared.types.Event.{Event}
use Rattle.world_rounds.specs.declared.types.Event.TheVariants as event
use Rattle.engine_inboxes.specs.Deliverable.{Entered, IsProposedApart, MayBeStored, effect_at}
use Rattle.engine_inboxes.specs.declared.types.Waiting.{Waiting}
use Rattle.engine_inboxes.specs.declared.types.Waiting.TheVariants as waiting

-- its rounds, what waits, and what is past all completion ids that its stored commands carry
pub record MemberView (H : Type 0) : Type 0 where
  pub course : CourseView H
  pub waiting : List Waiting
  pub next : ℕ

-- what is fixed over all rounds: what the handler calls, and with what its attempts are made
abbrev pub case_in : {H : Type 0} → Meaning → CourseView H → Case
case_in m c = record { handler = m; setting = c.setting }

-- an event of the attempt's own
abbrev pub IsOwn : Event → Type 0
IsOwn (event.Arrive x) = ⊥
IsOwn (event.Store n) = ⊥
IsOwn e = Unit {0}

-- nothing is stored, or one entry, which is a command or completes an id that a command carries
abbrev pub MayStoreOne : List (List ℕ) → List (List ℕ) → Type 0
MayStoreOne old new =
    (new ≡ old) ⊎ ((x : List ℕ) × (new ≡ old ++ x ∷ []) × MayBeStored x old)

-- ---- what an event does to an invocation

-- its rounds go on so, and what waits stays
abbrev pub GoesBy : {H : Type 0} → (CourseView H → CourseView H → Type 0) → MemberView H
    → MemberView H → Type 0
GoesBy Goes old new = (new ≡ record old { course = new.course }) × Goes old.course new.course

-- an event happens to its attempt, if one lives
abbrev pub GoesOnBy : {H : Type 0} → Meaning → Event → MemberView H → MemberView H → Type 0
GoesOnBy m e old new = GoesBy (HappensTo m e old.course.live) old new

-- an event of the attempt's own happens to it; another is nothing
abbrev pub Acts : {H : Type 0} → Meaning → Event → MemberView H → MemberView H → Type 0
Acts m (event.Arrive x) old new = new ≡ old
Acts m (event.Store n) old new = new ≡ old
Acts m e old new = GoesOnBy m e old new

-- no attempt lives then
abbrev pub stopped : {H : Type 0} → MemberView H → MemberView H
stopped old = record old { course = record old.course { live = None } }

-- a signal waits then
abbrev pub with_signal : {H : Type 0} → Signal → NotificationResult → MemberView H → MemberView H
with_signal s brings old = record old { waiting = old.waiting ++ waiting.Signal s brings ∷ [] }

-- One entry more is stored; what it waits for is there after all that waited, and this is what it
-- asks for. If it is no command, it completes nothing that waits.
pub record StoresEntry {H : Type 0} (old new : MemberView H) (asks : Option Effect) : Type 0 where
  pub entry : List ℕ
  pub stored : new.course.journal ≡ old.course.journal ++ entry ∷ []
  pub entered : Entered entry old.waiting old.next new.waiting new.next
  pub effect : asks ≡ effect_at entry
  pub apart : IsProposedApart entry old.waiting

-- nothing is stored, so nothing waits or is asked for
pub record NoEntry {H : Type 0} (old new : MemberView H) (asks : Option Effect) : Type 0 where
  pub stored : new.course.journal ≡ old.course.journal
  pub stays : (new.waiting ≡ old.waiting) × (new.next ≡ old.next)
  pub effect : asks ≡ None

-- The next entry that the attempt wrote is stored, if an attempt lives and wrote one. If recorded
-- commands are replayed and signals queue, it is a command, or the result of a run whose command is
-- stored.
pub record StoresNextEntry {H : Type 0} (m : Meaning) (old new : MemberView H)
    (asks : Option Effect)
    : Type 0 where
  pub course : HappensTo m (event.Store 1) old.course.live old.course new.course
  pub entry : NoEntry old new asks ⊎ StoresEntry old new asks
  pub runs : ReplaysAndQueues old.course.setting.options
      → AddRunsAlone old.course.journal new.course.journal

-- ---- a delivery

-- What stood at a place of the inbox has come as an entry: the notification that it becomes by what
-- was there for it. It waits no longer.
pub record ArrivesFromInbox {H : Type 0} (at : ℕ) (b : Brought) (m : Meaning)
    (old new : MemberView H)
    : Type 0 where
  pub note : Notification
  pub becomes : (w : Waiting) → w ≡ slice_index_or old.waiting at w → Some note ≡ note_by w b
  pub entry : List ℕ
  pub reads : note_in entry ≡ Some note
  pub stored : new.course.journal ≡ old.course.journal ++ entry ∷ []
  pub arrived : HappensTo m (event.Arrive entry) old.course.live old.course new.course
  pub rest : (new.waiting ≡ remove old.waiting at) × (new.next ≡ old.next)

-- nothing stands there that can come by this, or no attempt lives
abbrev pub CantCome : {H : Type 0} → ℕ → Brought → MemberView H → Type 0
CantCome at b old = (is_some old.course.live ≡ true) → at < length old.waiting
    → (w : Waiting) → w ≡ slice_index_or old.waiting at w → None ≡ note_by w b

-- it comes, or can't, and then nothing changes
abbrev pub Delivers : {H : Type 0} → ℕ → Brought → Meaning → MemberView H → MemberView H → Type 0
Delivers at b m old new = (CantCome at b old × (new ≡ old)) ⊎ ArrivesFromInbox at b m old new
