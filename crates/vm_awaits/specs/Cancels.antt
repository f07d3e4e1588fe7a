-- A cancelled await: once the ids of the invocations are known, each is sent the cancel signal.
use Rattle.std.specs.Prelude.{◌≡◌, ℕ, Bool, true, false, List, [], ◌∷◌, Result, Ok, Err, OnOk}
use Rattle.await_trees.specs.declared.handle.NotificationHandle.{NotificationHandle}
use Rattle.await_trees.specs.Tree.{Tree}
use Rattle.journal_protocol.specs.Error.{Error}
use Rattle.vm_types.specs.declared.types.AwaitResponse.{AwaitResponse}
use Rattle.vm_types.specs.declared.types.AwaitResponse.TheVariants.{AnyCompleted, CancelSignalReceived, EphemeralNotificationReady, ExecuteRun, WaitingExternalProgress}
use Rattle.vm_parts.specs.Deliveries.{id_at, taken_by}
use Rattle.vm_parts.specs.Tracked.{invocation_ids}
use Rattle.vm_machine.specs.declared.machine.Machine.{Machine}
use Rattle.vm_asks.specs.Asks.{cancel_invocation_command}
use Rattle.vm_awaits.specs.Awaits.{Awaits, result_at}
use Rattle.vm_machine.specs.Commands.{CanBeRead, commanded}
use Rattle.vm_machine.specs.Outcomes.{CalledBy, Does, DoesBy, called}

-- one result of the cancel handle is taken
abbrev pub cancel_taken : Machine → Machine
cancel_taken v = record v {
  results = taken_by v.options.signal_delivery 1 (id_at 1 v.results.handles) (result_at 1 v)
      v.results;
}

-- an invocation is sent the cancel signal; what was written can be read back
abbrev pub SendsCancel : List ℕ → Result NotificationHandle Error → Machine → Machine → Type 0
SendsCancel id sent old new =
    Does (called (commanded (cancel_invocation_command id) old) old) sent old new
    × OnOk sent (CanBeRead (cancel_invocation_command id).message old)

-- `Next` follows a call that was answered; an error stays
abbrev pub Onward : (Result (Result AwaitResponse Error) Error → Machine → Machine → Type 0)
    → Result NotificationHandle Error → Result (Result AwaitResponse Error) Error → Machine
    → Machine → Type 0
Onward Next (Ok handle) r mid new = Next r mid new
Onward Next (Err e) r mid new = (r ≡ Err e) × (new ≡ mid)

-- These invocations are sent the cancel signal, one after another, each by a call of its own; then
-- one result of the cancel handle is taken, and the await is answered.
abbrev pub Cancels : List (List ℕ) → Result (Result AwaitResponse Error) Error → Machine → Machine
    → Type 0
Cancels [] r old new = (r ≡ Ok (Ok CancelSignalReceived)) × (new ≡ cancel_taken old)
Cancels (id ∷ ids) r old new =
    (sent : Result NotificationHandle Error) × (mid : Machine) × SendsCancel id sent old mid
    × Onward (Cancels ids) sent r mid new

-- an await whose ids are known sends its cancel signals next
abbrev pub sends_cancels : Result (Result AwaitResponse Error) Error → Bool
sends_cancels (Ok (Ok CancelSignalReceived)) = true
sends_cancels (Ok (Ok AnyCompleted)) = false
sends_cancels (Ok (Ok (ExecuteRun handle))) = false
sends_cancels (Ok (Ok (WaitingExternalProgress input run))) = false
sends_cancels (Ok (Ok (EphemeralNotificationReady id))) = false
sends_cancels (Ok (Err e)) = false
sends_cancels (Err e) = false

-- It sends them, and no call is tracked any more; each other answer stays.
abbrev pub FinishesIf : Bool → Result (Result AwaitResponse Error) Error
    → Result (Result AwaitResponse Error) Error → Machine → Machine → Type 0
FinishesIf true first r mid new =
    Cancels (invocation_ids mid.tracked) r (record mid { tracked = [] }) new
FinishesIf false first r mid new = (r ≡ first) × (new ≡ mid)

-- what follows the first part of an await
abbrev pub FollowsFirstPart : Result (Result AwaitResponse Error) Error
    → Result (Result AwaitResponse Error) Error → Machine → Machine → Type 0
FollowsFirstPart first r mid new = FinishesIf (sends_cancels first) first r mid new

-- the whole call of an await
abbrev pub AwaitsWhole : Tree → Result (Result AwaitResponse Error) Error → Machine → Machine
    → Type 0
AwaitsWhole t r old new =
    (first : Result (Result AwaitResponse Error) Error) × (mid : Machine)
    × DoesBy (CalledBy (Awaits t old) old) first old mid × FollowsFirstPart first r mid new
