-- Where the values of a run's answers come from.
use Rattle.std.specs.Prelude.{◌≡◌, ℕ, List, ◌∷◌, ◌++◌, Some, None, Ok}
use Rattle.journal_protocol.specs.Notification.{Notification}
use Rattle.journal_protocol.specs.NotificationResult.{NotificationResult}
use Rattle.journal_protocol.specs.RawMessage.{RawMessage}
use Rattle.vm_types.specs.declared.steps.Answer.{Answer}
use Rattle.vm_types.specs.declared.steps.Answer.TheVariants as answer
use Rattle.vm_types.specs.Values.{value_of}
use Rattle.vm_asks.specs.declared.state_read.StateRead.{StateRead}
use Rattle.vm_model.specs.Calls.Demand.{Reads}
use Rattle.vm_model.specs.Moves.{found}

-- the item stands in this list
abbrev pub StandsIn : {A : Type 0} → A → List A → Type 0
StandsIn {A} x xs = (before : List A) × (behind : List A) × (xs ≡ before ++ x ∷ behind)

-- The result is that of one of these notifications; or one of these recorded commands is an eager
-- read that brings it.
pub data ResultCame (ns : List Notification) (cs : List RawMessage)
    (result : NotificationResult) : Type 0 where
  Notified : (n : Notification) → StandsIn n ns → n.result ≡ result → ResultCame ns cs result
  Recorded : (command : RawMessage) (read : StateRead) (id : ℕ) → StandsIn command cs
      → found (Reads read id) command ≡ Ok (Some result) → ResultCame ns cs result

-- the value of an answer, if it has one, is that of a result for which this holds
abbrev pub HasValueBy : (NotificationResult → Type 0) → Answer → Type 0
HasValueBy Came (answer.Taken (Some value)) =
    (result : NotificationResult) × Came result × (value_of result ≡ Some value)
HasValueBy Came (answer.Taken None) = Unit {0}
HasValueBy Came (answer.Input input) = Unit {0}
HasValueBy Came (answer.Handle handle) = Unit {0}
HasValueBy Came (answer.Call handles) = Unit {0}
HasValueBy Came (answer.CallWithDeadline handles) = Unit {0}
HasValueBy Came (answer.Send handle) = Unit {0}
HasValueBy Came (answer.Awakeable handle) = Unit {0}
HasValueBy Came answer.Unit = Unit {0}
HasValueBy Came answer.Awake = Unit {0}
HasValueBy Came answer.Cancelled = Unit {0}
HasValueBy Came (answer.Completed is) = Unit {0}

-- the value of an answer, if it has one, is that of a result that came
abbrev pub ValueCame : List Notification → List RawMessage → Answer → Type 0
ValueCame ns cs a = HasValueBy (ResultCame ns cs) a
