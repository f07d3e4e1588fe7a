-- What is kept and then handed to the VM, and what is noted once it has answered.
use Rattle.std.proofs.Common.{◌≡◌, ◌⊎◌, inl, inr, ℕ, true, false, List, Option, Some, None, is_some, Result, Ok, Err, refl, ap, ◌∙◌}
use Rattle.std.specs.Result.{is_err}
use Rattle.std.specs.declared.alloc.AllocError.{AllocError}
use Rattle.await_trees.specs.declared.handle.NotificationHandle.{NotificationHandle}
use Rattle.journal_protocol.specs.Error.{Error}
use Rattle.invocation_vm.specs.Views.{View, Leaves, after_input, messages_in_bytes}
use Rattle.vm_attempt.specs.Record.{Record}
use Rattle.vm_attempt.specs.Stepping.{with_piece_kept, failed_run_noted, noted_at, with_vm, FeedsPiece}

-- a piece
pub feeds_kept : (piece : List ℕ) (old r : Record) (before w : View) (result : Result Unit AllocError) → r ≡ with_piece_kept piece old → before ≡ old.vm
    → Leaves (messages_in_bytes before piece) (after_input before piece) result before w → FeedsPiece piece old result (with_vm w r)
feeds_kept piece old r before w (Ok t) e v l = ap (λ x. with_vm x r) l.ok ∙ ap (λ x. with_vm (after_input x piece) r) v ∙ ap (with_vm (after_input old.vm piece)) e
feeds_kept piece old r before w (Err x) e v l = inr (w, rw (← v) l.err, ap (with_vm w) e)

-- a run's result that failed a VM which hadn't failed
pub failed_noted : (handle : NotificationHandle) (old : Record) (result : Result Unit Error) → is_err result ≡ true → is_some old.vm.machine.failure ≡ false → failed_run_noted result handle old ≡ record old { failed_by = Some handle }
failed_noted handle old (Ok t) bad live = absurd (let z : false ≡ true = bad in cc)
failed_noted handle old (Err e) bad live = by_failure old.vm.machine.failure live
  where
    by_failure : (o : Option Error) → is_some o ≡ false → noted_at o handle old ≡ record old { failed_by = Some handle }
    by_failure None h = refl
    by_failure (Some f) h = absurd (let z : true ≡ false = h in cc)

-- no run is noted if the report was accepted, or if the VM had failed before
pub none_noted : (handle : NotificationHandle) (old : Record) (result : Result Unit Error) → ((is_err result ≡ true) × (is_some old.vm.machine.failure ≡ true)) ⊎ (is_err result ≡ false) → failed_run_noted result handle old ≡ old
none_noted handle old (Ok t) h = refl
none_noted handle old (Err e) (inr told) = absurd (let z : true ≡ false = told in cc)
none_noted handle old (Err e) (inl failed) = by_failure old.vm.machine.failure failed.1
  where
    by_failure : (o : Option Error) → is_some o ≡ true → noted_at o handle old ≡ old
    by_failure None h = absurd (let z : false ≡ true = h in cc)
    by_failure (Some f) h = refl
