-- What a call with a deadline leaves, as who reads the journal sees it: a call, a sleep after it,
-- and their three handles.
use Rattle.std.specs.Prelude.{◌≡◌, ◌⊎◌, ℕ, ◌+◌, Bool, true, false, List, [], ◌∷◌, ◌++◌, Some, Ok}
use Rattle.journal_protocol.specs.Message.{Message}
use Rattle.journal_protocol.specs.Message.TheVariants as message
use Rattle.journal_protocol.specs.RawMessage.{RawMessage}
use Rattle.journal_protocol.specs.Equality.{header_equal}
use Rattle.journal_protocol.specs.Frames.{encoding}
use Rattle.journal_protocol.specs.Bodies.{message_in}
use Rattle.journal_protocol.specs.NotificationId.TheVariants.{CompletionId}
use Rattle.await_trees.specs.declared.handle.NotificationHandle.{NotificationHandle}
use Rattle.vm_types.specs.declared.types.DeadlineCallHandle.{DeadlineCallHandle}
use Rattle.vm_parts.specs.declared.async_results.Mapping.{Mapping}
use Rattle.vm_asks.specs.declared.command.Command.{Command}
use Rattle.vm_asks.specs.Asks.{deadline_handles, sleep_command}
use Rattle.vm_asks.specs.GivenIds.{IsCallWith}
use Rattle.vm_machine.specs.declared.machine.Machine.{Machine}
use Rattle.invocation_vm.specs.Calls.{CallsAllFor}
use Rattle.invocation_vm.specs.Views.{View}
use Rattle.vm_laws.specs.Replays.{ignores}

-- a sleep that carries this id
abbrev pub IsSleepWith : ℕ → Message → Type 0
IsSleepWith id (message.Sleep c) = c.result_completion_id ≡ id
IsSleepWith id m = ⊥

-- the command was written after all other output
pub record CommandIsWritten (m : Message) (old new : Machine) : Type 0 where
  pub output : new.output ≡ old.output ++ encoding m ∷ []
  pub commands : new.commands ≡ old.commands

-- the next recorded command is header-equal to it; it was popped, and nothing was written
pub record IsPopped (m : Message) (ignore : Bool) (old new : Machine) : Type 0 where
  pub raw : RawMessage
  pub recorded : Message
  pub read : message_in raw.ty raw.body ≡ Some recorded
  pub equal : header_equal recorded m ignore ≡ true
  pub commands : old.commands ≡ raw ∷ new.commands
  pub output : new.output ≡ old.output

-- the command was written, or popped in replay
abbrev pub IsEntered : Message → Bool → Machine → Machine → Type 0
IsEntered m ignore old new = CommandIsWritten m old new ⊎ IsPopped m ignore old new

-- a handle stands for this completion id
abbrev pub stands_for : NotificationHandle → ℕ → Mapping
stands_for handle id = record { handle = handle.0; id = CompletionId id }

-- A call with the next two completion ids was made, and after it a sleep with the third. The
-- handles that were answered stand for the invocation's id, the call's result and the sleep, in
-- this order.
pub record DeadlineCalled (unstable : Bool) (h : DeadlineCallHandle)
    (old new : Machine) : Type 0 where
  pub call : Message
  pub deadline : Message
  pub between : Machine
  pub is_call : IsCallWith old.counters.completion (old.counters.completion + 1) call
  pub is_deadline : IsSleepWith (old.counters.completion + 2) deadline
  pub call_is_entered : IsEntered call (ignores old unstable) old between
  pub deadline_is_entered : IsEntered deadline (ignores old false) between new
  pub handles : new.results.handles ≡ old.results.handles
      ++ stands_for h.invocation_id_notification_handle old.counters.completion
      ∷ stands_for h.call_notification_handle (old.counters.completion + 1)
      ∷ stands_for h.deadline_notification_handle (old.counters.completion + 2) ∷ []

-- an answered call by this command, with a deadline in ms, does so
abbrev pub MakesBoth : Command → ℕ → Type 0
MakesBoth c millis = (h : DeadlineCallHandle) (old new : View)
    → CallsAllFor deadline_handles c (sleep_command millis [] ∷ []) (Ok h) old new
    → DeadlineCalled c.unstable h old.machine new.machine
