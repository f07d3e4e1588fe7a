-- Cancel signals that are sent one after another.
use Rattle.std.proofs.Common.{◌≡◌, ℕ, List, [], ◌∷◌, Option, Some, None, Result, Ok, Err, refl, sym, ap, ◌∙◌, subst, length, arith}
use Rattle.await_trees.specs.declared.handle.NotificationHandle.{NotificationHandle}
use Rattle.journal_protocol.specs.Error.{Error}
use Rattle.vm_state.specs.declared.tracked_call.TrackedCall.{TrackedCall}
use Rattle.vm_types.specs.declared.types.AwaitResponse.{AwaitResponse}
use Rattle.vm_types.specs.declared.types.AwaitResponse.TheVariants.{CancelSignalReceived}
use Rattle.vm_parts.specs.Tracked.{if_known, invocation_ids}
use Rattle.vm_machine.specs.declared.machine.Machine.{Machine}
use Rattle.vm_asks.specs.Asks.{cancel_invocation_command}
use Rattle.vm_awaits.specs.Cancels.{Cancels, SendsCancel, cancel_taken}
use Rattle.invocation_vm.specs.Calls.{CallsCommand}
use Rattle.invocation_vm.specs.Views.{View}

-- The calls before those that are left are done: what the ones left lead to, all lead to.
pub record Sending (calls left : List TrackedCall) (first now : View) : Type 0 where
  pub on : (r : Result (Result AwaitResponse Error) Error) (new : Machine) → Cancels (invocation_ids left) r now.machine new → Cancels (invocation_ids calls) r first.machine new
  pub same : now.undecoded ≡ first.undecoded

-- no call is done yet
pub sending_all : (calls : List TrackedCall) (first : View) → Sending calls calls first first
sending_all calls first = record { on = λ r new h. h; same = refl }

-- an invocation is sent its signal by a call of the VM
sends : (id : List ℕ) (sent : Result NotificationHandle Error) (now mid : View) → CallsCommand (cancel_invocation_command id) sent now mid → SendsCancel id sent now.machine mid.machine
sends id sent now mid calls = (calls.0.0, calls.1)

module _ (calls left rest : List TrackedCall) (t : TrackedCall) (first now : View) (s : Sending calls left first now) (is : left ≡ t ∷ rest) where
  -- what comes of the next call and of the rest comes of all
  next : (o : Option (List ℕ)) → t.invocation_id ≡ o → (r : Result (Result AwaitResponse Error) Error) (new : Machine) → Cancels (if_known o (invocation_ids rest)) r now.machine new → Cancels (invocation_ids calls) r first.machine new
  next o known r new h =
      let both : if_known o (invocation_ids rest) ≡ invocation_ids left = ap (λ x. if_known x (invocation_ids rest)) (sym known) ∙ ap invocation_ids (sym is) in
      s.on r new (subst (λ ids. Cancels ids r now.machine new) both h)

  -- a call whose invocation isn't known is passed
  pub sending_unknown : t.invocation_id ≡ None → Sending calls rest first now
  sending_unknown none = record { on = next None none; same = s.same }

  pub sending_more : (id : List ℕ) (handle : NotificationHandle) (mid : View) → t.invocation_id ≡ Some id → CallsCommand (cancel_invocation_command id) (Ok handle) now mid → Sending calls rest first mid
  sending_more id handle mid known sent = record {
    on = λ r new h. next (Some id) known r new (Ok handle, mid.machine, sends id (Ok handle) now mid sent, h);
    same = sent.0.1 ∙ s.same;
  }

  pub sending_fails : (id : List ℕ) (e : Error) (mid : View) → t.invocation_id ≡ Some id → CallsCommand (cancel_invocation_command id) (Err e) now mid → Cancels (invocation_ids calls) (Err e) first.machine mid.machine
  sending_fails id e mid known sent = next (Some id) known (Err e) mid.machine (Err e, mid.machine, sends id (Err e) now mid sent, (refl, refl))

-- all are done
pub sending_done : (calls left : List TrackedCall) (first now : View) → Sending calls left first now → length left ≡ 0 → Cancels (invocation_ids calls) (Ok (Ok CancelSignalReceived)) first.machine (cancel_taken now.machine)
sending_done calls [] first now s none = s.on (Ok (Ok CancelSignalReceived)) (cancel_taken now.machine) (refl, refl)
sending_done calls (t ∷ ts) first now s none = absurd (omega arith)
