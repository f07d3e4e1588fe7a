-- Signals in order: those that have come for an invocation, and after them those that wait for it.
use Rattle.std.specs.Prelude.{◌≡◌, ℕ, ◌+◌, List, [], ◌∷◌, ◌++◌, take, Some, slice_get}
use Rattle.journal_protocol.specs.Notification.{Notification}
use Rattle.vm_model.specs.Calls.{Meaning}
use Rattle.engines.specs.declared.engine.Engine.{Engine}
use Rattle.engines.specs.declared.engine.Invocation.{Invocation}
use Rattle.engines.specs.declared.types.Happening.{Happening}
use Rattle.engines.specs.declared.types.Happening.TheVariants as happening
use Rattle.engines.specs.Engines.{HappeningDoes}
use Rattle.engines.specs.Lookups.{place_of}
use Rattle.engines.specs.Members.{MemberView}
use Rattle.engine_inboxes.specs.declared.types.Waiting.{Waiting}
use Rattle.engine_fences.specs.Signals.{SignalTest, passing, signal_waiting, signals_of, signals_to, signals_waiting}

-- it is none, or none stands before it
abbrev pub IsFirstAfter : List Notification → List Notification → Type 0
IsFirstAfter before [] = Unit {0}
IsFirstAfter before (n ∷ ns) = before ≡ []

-- if a signal stands at a place of what waits, it is the first
abbrev pub IsFirstSignal : {H : Type 0} → MemberView H → ℕ → Type 0
IsFirstSignal m at = (w : Waiting) → slice_get m.waiting at ≡ Some w
    → IsFirstAfter (signals_waiting (take at m.waiting)) (signal_waiting w)

-- a delivery takes the signal that has waited longest, if it takes one
abbrev pub IsInTurn : {H : Type 0} → Engine H → Happening → Type 0
IsInTurn {H} e (happening.Deliver place at) = (it : Invocation H) (m : MemberView H)
    → slice_get e.invocations.items place ≡ Some it → it.member ≡ Some m → IsFirstSignal m at
IsInTurn e h = Unit {0}

-- events, one after another, of which each delivery does so
abbrev pub HappenInTurn : {H : Type 0} → (H → Meaning) → List Happening → Engine H → Engine H
    → Type 0
HappenInTurn meaning [] old new = new ≡ old
HappenInTurn {H} meaning (e ∷ es) old new = (mid : Engine H) × HappeningDoes meaning e old mid
    × IsInTurn old e × HappenInTurn meaning es mid new

-- Its signals stay as they are and in order, and others come after them. If it is the one of its
-- id, these are just those that stored commands have sent to it since.
pub record StaysInOrder {H : Type 0} (place : ℕ) (id : List ℕ) (m : MemberView H)
    (old new : Engine H)
    : Type 0 where
  pub later : Invocation H
  pub there : slice_get new.invocations.items place ≡ Some later
  pub rounds : MemberView H
  pub is : later.member ≡ Some rounds
  pub more : List Notification
  pub order : signals_of rounds ≡ signals_of m ++ more
  pub sent : place_of old.invocations.items id ≡ Some place → (test : SignalTest)
      → passing test more + passing test (signals_to id old.invocations.items)
      ≡ passing test (signals_to id new.invocations.items)

-- so it is with each invocation
abbrev pub AllInOrder : {H : Type 0} → Engine H → Engine H → Type 0
AllInOrder {H} old new = (place : ℕ) (it : Invocation H) (m : MemberView H)
    → slice_get old.invocations.items place ≡ Some it → it.member ≡ Some m
    → StaysInOrder place it.id m old new
