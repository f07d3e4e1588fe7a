-- Where rounds are stopped: the round, the event in it, and what had happened before.
use Rattle.std.specs.Prelude.{◌≡◌, ◌⊎◌, ℕ, List, [], ◌∷◌, ◌++◌, length, Option, Some, None}
use Rattle.std.proofs.Common.{Global, inl, inr}
use Rattle.journal_protocol.specs.Error.{Error}
use Rattle.journal_protocol.specs.Frames.{IsWhole}
use Rattle.invocation_vm.specs.Making.{IsSupported, supported}
use Rattle.vm_model.specs.Calls.{Meaning}
use Rattle.world_rounds.specs.declared.types.Event.{Event}
use Rattle.world_rounds.specs.declared.types.Round.{Round}
use Rattle.journal_entries.specs.declared.fault.JournalFault.{JournalFault}
use Rattle.journal_entries.specs.declared.fault.JournalFault.TheVariants as journal_fault
use Rattle.world_rounds.specs.declared.types.Setting.{Setting}
use Rattle.world_rounds.specs.Worlds.{start_message}
use Rattle.world_rounds.specs.declared.placed.PlacedFault.{PlacedFault}
use Rattle.world_rounds.specs.Rounds.{ArrivalsDo, ArrivalsFault, Faults, Happen, IsRefusal, Now, OutsideFault, ReportView, RoundsDo, begin}

-- The events before this place, counted from 0, have happened, and the event there has this fault.
pub record FaultsAt (m : Meaning) (events : List Event) (begun : Now)
    (place : Option ℕ) (f : JournalFault) : Type 0 where
  pub before : List Event
  pub event : Event
  pub after : List Event
  pub split : events ≡ before ++ event ∷ after
  pub counted : place ≡ Some (length before)
  pub now : Now
  pub happen : Happen m before begun now
  pub faults : Faults event now f

-- The same if no attempt was made: the arrivals before this place are stored, and the arrival there
-- has this fault.
pub record ArrivalFaultsAt (events : List Event) (old : List (List ℕ)) (place : Option ℕ)
    (f : JournalFault) : Type 0 where
  pub before : List Event
  pub event : Event
  pub after : List Event
  pub split : events ≡ before ++ event ∷ after
  pub counted : place ≡ Some (length before)
  pub journal : List (List ℕ)
  pub stored : ArrivalsDo before old journal
  pub faults : ArrivalsFault (event ∷ []) journal f

-- out of memory, before the first event or after the last
abbrev pub IsMemoryAside : Option ℕ → JournalFault → Type 0
IsMemoryAside place f = (place ≡ None) × (f ≡ journal_fault.Memory)

-- a round with its attempt is stopped at this event
pub record AttemptStops (m : Meaning) (w : Setting) (round : Round) (old : List (List ℕ))
    (place : Option ℕ) (f : JournalFault) : Type 0 where
  pub alloc : Global
  pub speaks : IsSupported w.version
  pub start : IsWhole (start_message w round old)
  pub stops : FaultsAt m round.events (begin alloc w round old) place f

-- a round whose attempt was refused is stopped at this event
pub record RefusedStops (w : Setting) (round : Round) (old : List (List ℕ)) (place : Option ℕ)
    (f : JournalFault) : Type 0 where
  pub error : Error
  pub refusal : IsRefusal (supported w.version) error
  pub stops : ArrivalFaultsAt round.events old place f

-- a round is stopped at this event, or aside of its events it is out of memory
abbrev pub RoundStops : Meaning → Setting → Round → List (List ℕ) → Option ℕ → JournalFault → Type 0
RoundStops m w round old place f =
    IsMemoryAside place f ⊎ (AttemptStops m w round old place f ⊎ RefusedStops w round old place f)

-- The rounds before this place have ended, with these reports, and the round there is stopped.
pub record RoundsStop (m : Meaning) (w : Setting) (rounds : List Round) (old : List (List ℕ))
    (reports : List ReportView) (at : PlacedFault) : Type 0 where
  pub before : List Round
  pub round : Round
  pub after : List Round
  pub split : rounds ≡ before ++ round ∷ after
  pub counted : at.round ≡ length before
  pub journal : List (List ℕ)
  pub ended : RoundsDo m w before old reports journal
  pub stops : RoundStops m w round journal at.event at.fault

-- The event at which a round is stopped has its fault from outside. (So has an arrival at which a
-- round without an attempt is stopped: the fault is its own.)
abbrev pub StopsOutside : (m : Meaning) (w : Setting) (round : Round) (old : List (List ℕ))
    (place : Option ℕ) (f : JournalFault) → RoundStops m w round old place f → Type 0
StopsOutside m w round old place f (inl aside) = Unit {0}
StopsOutside m w round old place f (inr (inl d)) = (f ≡ journal_fault.Memory)
    ⊎ OutsideFault d.stops.event d.stops.now f
StopsOutside m w round old place f (inr (inr d)) = Unit {0}
