-- Rounds of which the last may go on: its events come one by one.
use Rattle.std.specs.Prelude.{◌≡◌, ◌≤◌, ℕ, List, length, take, Option, Some, None}
use Rattle.std.proofs.Common.{Global}
use Rattle.journal_protocol.specs.Error.{Error}
use Rattle.journal_protocol.specs.Frames.{IsWhole}
use Rattle.vm_model.specs.Calls.{Meaning}
use Rattle.vm_attempt.specs.Record.{AttemptView}
use Rattle.invocation_vm.specs.Making.{IsSupported, supported}
use Rattle.vm_attempt.specs.Fixed.{fixed_of}
use Rattle.world_rounds.specs.declared.types.Event.{Event}
use Rattle.world_rounds.specs.declared.types.Round.{Round}
use Rattle.journal_entries.specs.declared.fault.JournalFault.{JournalFault}
use Rattle.world_rounds.specs.declared.types.Setting.{Setting}
use Rattle.world_rounds.specs.States.{HaveTextKeys, pairs_for}
use Rattle.world_rounds.specs.Worlds.{IsJournal, start_message}
use Rattle.world_rounds.specs.declared.desk.Desk.{Desk}
use Rattle.world_rounds.specs.Inside.{the_now}
use Rattle.world_rounds.specs.Rounds.{EndsTold, Faults, Happen, Happens, IsRefusal, Now, ReportView, RoundsDo, begin}

-- what all its attempts are made with, how many entries there were before the first round, the
-- journal, and the round that goes on
pub record CourseView (H : Type 0) : Type 0 where
  pub handler : H
  pub setting : Setting
  pub given : ℕ
  pub journal : List (List ℕ)
  pub live : Option Now

-- Some rounds lead from one journal to another.
pub record AreRun (m : Meaning) (w : Setting) (old new : List (List ℕ)) : Type 0 where
  pub rounds : List Round
  pub reports : List ReportView
  pub done : RoundsDo m w rounds old reports new

-- A round goes on: so far these events have happened to its attempt.
pub record RoundGoesOn (m : Meaning) (w : Setting) (old : List (List ℕ)) (now : Now) : Type 0 where
  pub round : Round
  pub alloc : Global
  pub speaks : IsSupported w.version
  pub start : IsWhole (start_message w round old)
  pub texts : HaveTextKeys (pairs_for w round old)
  pub happen : Happen m round.events (begin alloc w round old) now

-- Some rounds have ended, and after them one goes on.
pub record AreRunning (m : Meaning) (w : Setting) (first : List (List ℕ)) (now : Now) : Type 0 where
  pub old : List (List ℕ)
  pub journal : IsJournal old
  pub ended : AreRun m w first old
  pub goes : RoundGoesOn m w old now

-- rounds lead from one journal to another, where the last of them may go on
abbrev pub IsCourse : Meaning → Setting → List (List ℕ) → List (List ℕ) → Option Now → Type 0
IsCourse m w first journal None = AreRun m w first journal
IsCourse m w first journal (Some now) = (journal ≡ now.journal) × AreRunning m w first now

-- the round that goes on, if one does
abbrev pub live_now : {H : Type 0} → Desk → Option (AttemptView H) → Option Now
live_now desk None = None
live_now desk (Some a) = Some (the_now desk a.record_of)

-- an attempt of this meaning was made with this setting
abbrev pub IsMadeFor : {H : Type 0} → (H → Meaning) → Meaning → Setting → Option (AttemptView H)
    → Type 0
IsMadeFor meaning m w None = Unit {0}
IsMadeFor meaning m w (Some a) = (meaning a.handler ≡ m) × (a.version ≡ w.version)
    × (a.options ≡ w.options)

-- What lasts over all events.
pub record CourseLasts {H : Type 0} (meaning : H → Meaning) (m : Meaning) (w : Setting) (given : ℕ)
    (desk : Desk) (attempt : Option (AttemptView H)) : Type 0 where
  pub first : IsJournal (take given desk.journal)
  pub journal : IsJournal desk.journal
  pub room : given ≤ length desk.journal
  pub course : IsCourse m w (take given desk.journal) desk.journal (live_now desk attempt)
  pub made : IsMadeFor meaning m w attempt

-- what an attempt tells of its journal wherever its round ends, if it lives
abbrev pub EndsToldBy : {H : Type 0} → (H → Meaning) → Option (AttemptView H) → Type 0
EndsToldBy meaning None = Unit {0}
EndsToldBy meaning (Some a) = EndsTold (fixed_of (meaning a.handler) a) a.record_of

-- ---- events

-- a new attempt is refused, or begins with its Start and the journal
abbrev pub IsRoundBegun : Setting → Round → List (List ℕ) → Option Now → Type 0
IsRoundBegun w round journal None = (e : Error) × IsRefusal (supported w.version) e
IsRoundBegun w round journal (Some now) = (alloc : Global) × (now ≡ begin alloc w round journal)

-- a round begins; nothing else changes
pub record BeginsRound {H : Type 0} (round : Round) (old new : CourseView H) : Type 0 where
  pub same : new ≡ record old { live = new.live }
  pub begun : IsRoundBegun old.setting round old.journal new.live

-- an event happens to the round that goes on; between rounds nothing happens
abbrev pub HappensTo : {H : Type 0} → Meaning → Event → Option Now → CourseView H → CourseView H
    → Type 0
HappensTo m e None old new = new ≡ old
HappensTo m e (Some now) old new = (old.journal ≡ now.journal) × ((next : Now)
    × Happens m e now next × (new ≡ record old { journal = next.journal; live = Some next }))

-- the fault of an event of the round that goes on, over the journal
abbrev pub FaultsIn : Event → Option Now → List (List ℕ) → JournalFault → Type 0
FaultsIn e None journal f = ⊥
FaultsIn e (Some now) journal f = (journal ≡ now.journal) × Faults e now f
