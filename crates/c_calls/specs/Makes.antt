-- What a call does that C makes of a VM.
use Rattle.std.specs.Prelude.{◌≡◌, ℕ, List, Result, Ok, Err}
use Rattle.await_trees.specs.declared.handle.NotificationHandle.{NotificationHandle}
use Rattle.vm_types.specs.declared.steps.Answer.TheVariants as answer
use Rattle.vm_types.specs.declared.types.AwakeableHandle.{AwakeableHandle}
use Rattle.vm_types.specs.declared.types.CallHandle.{CallHandle}
use Rattle.vm_types.specs.declared.types.DeadlineCallHandle.{DeadlineCallHandle}
use Rattle.vm_types.specs.declared.types.SendHandle.{SendHandle}
use Rattle.vm_types.specs.declared.values.Input.{Input}
use Rattle.vm_types.specs.declared.values.Value.{Value}
use Rattle.std.specs.Prelude.{Option}
use Rattle.invocation_vm.specs.Views.{View}
use Rattle.vm_types.specs.declared.reply.Reply.{Reply}
use Rattle.vm_types.specs.declared.reply.Reply.TheVariants as reply
use Rattle.c_values.specs.declared.status.Status.{Status}
use Rattle.c_values.specs.declared.status.Status.TheVariants as status
use Rattle.c_calls.specs.Given.{CannotCopy}

-- A call is made; or it isn't, for such a reason, and the VM stays as it was.
abbrev pub MadeUnless : (Status → Type 0) → (Reply → View → View → Type 0) → Result Reply Status
    → View → View → Type 0
MadeUnless Misfits makes (Ok reply) old new = makes reply old new
MadeUnless Misfits makes (Err status) old new = Misfits status × (new ≡ old)

-- A call is made for which these texts are copied.
abbrev pub MadeWith : List (List ℕ) → (Reply → View → View → Type 0) → Result Reply Status → View
    → View → Type 0
MadeWith texts makes outcome old new = MadeUnless (CannotCopy texts) makes outcome old new

-- A call is always made: no value that C can give for it is refused.
abbrev pub MakesCall : (Reply → View → View → Type 0) → Result Reply Status → View → View → Type 0
MakesCall makes (Ok reply) old new = makes reply old new
MakesCall makes (Err status) old new = ⊥

-- the reply of a handler's call: its handle, or what it is answered
abbrev pub handle : NotificationHandle → Reply
handle h = reply.Answer (answer.Handle h)

abbrev pub call_handles_told : CallHandle → Reply
call_handles_told call = reply.Answer (answer.Call call)

abbrev pub all_handles : DeadlineCallHandle → Reply
all_handles call = reply.Answer (answer.CallWithDeadline call)

abbrev pub sent : SendHandle → Reply
sent send = reply.Answer (answer.Send send)

abbrev pub awakeable_reply : AwakeableHandle → Reply
awakeable_reply made = reply.Answer (answer.Awakeable made)

abbrev pub taken_told_of : Option Value → Reply
taken_told_of value = reply.Answer (answer.Taken value)

abbrev pub input_told : Input → Reply
input_told given = reply.Answer (answer.Input given)

abbrev pub unit_told : Unit {0} → Reply
unit_told it = reply.Answer answer.Unit
