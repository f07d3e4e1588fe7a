-- The calls of an attempt, one after another.
use Rattle.std.specs.Prelude.{◌≡◌, ℕ, zero, suc, List, Some, None, Result, Err}
use Rattle.std.proofs.Common.{Global}
use Rattle.std.specs.declared.alloc.AllocError.{AllocError}
use Rattle.await_trees.specs.declared.handle.NotificationHandle.{NotificationHandle}
use Rattle.journal_protocol.specs.Error.{Error}
use Rattle.vm_retries.specs.declared.policy.RetryPolicy.{RetryPolicy}
use Rattle.vm_types.specs.declared.runs.RunExitResult.{RunExitResult}
use Rattle.invocation_vm.specs.Making.{made}
use Rattle.vm_model.specs.Fixed.{Fixed}
use Rattle.vm_attempt.specs.declared.progress.Progress.{Progress}
use Rattle.vm_attempt.specs.Record.{Record}
use Rattle.vm_attempt.specs.Stepping.{CloseDoes, FeedDoes, FinishDoes, StepFunction, StepDoes, Takes, fresh_record}

-- One call of an attempt did this to its record: any call, with any answer.
pub data OneCall (m : StepFunction) (old new : Record) : Type 0 where
  Feeding : (piece : List ℕ) (result : Result Unit AllocError)
      → FeedDoes old.starved piece old result new → OneCall m old new
  Closing : (result : Result Unit AllocError) → CloseDoes old.starved old result new
      → OneCall m old new
  Stepping : (result : Result Progress Error) → StepDoes m old result new → OneCall m old new
  Telling : (handle : NotificationHandle) (exit : RunExitResult) (policy : RetryPolicy)
      (result : Result Unit Error) → FinishDoes old.starved handle exit policy old result new
      → OneCall m old new
  Taking : (result : Result (List ℕ) AllocError) → Takes old result new → OneCall m old new

-- This number of calls of an attempt, one after another, leads from one record to another.
abbrev pub Leads : StepFunction → ℕ → Record → Record → Type 0
Leads m zero old new = new ≡ old
Leads m (suc n) old new = (mid : Record) × OneCall m old mid × Leads m n mid new

-- The record of an attempt that was made for this, before its first call.
abbrev pub first_record : Global → Fixed → Record
first_record alloc fixed = fresh_record (made alloc fixed.options fixed.version)

-- The calls of an attempt, from the one that made it on, lead to this record.
pub record IsLed (fixed : Fixed) (r : Record) : Type 0 where
  pub alloc : Global
  pub calls : ℕ
  pub leads : Leads fixed.handler calls (first_record alloc fixed) r

-- Of the calls that lead from the first record to the last, one failed the VM by this error: it had
-- no error before this call, and has it after it.
pub record FailedByCall (m : StepFunction) (first last : Record) (e : Error) : Type 0 where
  pub before : ℕ
  pub old : Record
  pub leads : Leads m before first old
  pub live : old.vm.machine.failure ≡ None
  pub new : Record
  pub call : OneCall m old new
  pub fails : new.vm.machine.failure ≡ Some e
  pub after : ℕ
  pub further : Leads m after new last

-- One of the calls between these records reported this run's result, which failed the VM, and the
-- VM's error has been that of the report since then.
pub record FailedByResult (m : StepFunction) (first last : Record)
    (handle : NotificationHandle) : Type 0 where
  pub before : ℕ
  pub old : Record
  pub leads : Leads m before first old
  pub live : old.vm.machine.failure ≡ None
  pub exit : RunExitResult
  pub policy : RetryPolicy
  pub error : Error
  pub new : Record
  pub reports : FinishDoes old.starved handle exit policy old (Err error) new
  pub after : ℕ
  pub further : Leads m after new last
  pub stays : last.vm.machine.failure ≡ Some error
