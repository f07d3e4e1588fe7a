-- Which report of a run's result a proposal comes from.
use Rattle.std.specs.Prelude.{◌≡◌, ℕ, Some, Ok}
use Rattle.await_trees.specs.declared.handle.NotificationHandle.{NotificationHandle}
use Rattle.journal_protocol.specs.ProposeRunCompletion.{ProposeRunCompletion}
use Rattle.vm_retries.specs.declared.policy.RetryPolicy.{RetryPolicy}
use Rattle.vm_types.specs.declared.runs.RunExitResult.{RunExitResult}
use Rattle.vm_runs.specs.Settling.{SettlesRun}
use Rattle.vm_runs.specs.declared.pending.PendingRun.{PendingRun}
use Rattle.vm_runs.specs.declared.settling.Settlement.TheVariants as settlement
use Rattle.vm_machine.specs.Proposals.{earlier_count, earlier_nanos, run_at}
use Rattle.vm_attempt.specs.Record.{Record}
use Rattle.vm_attempt.specs.Stepping.{FinishDoes, StepFunction}
use Rattle.vm_attempt.specs.Courses.{Leads}

-- One of the calls between these records reported the outcome of executing the run of this handle,
-- and was answered. The proposal has the id of the pending run of that handle, and the result that
-- becomes of that outcome: its value, its terminal failure, or the failure that isn't retried.
pub record WasReported (m : StepFunction) (first last : Record) (p : ProposeRunCompletion) : Type 0
  where
    pub before : ℕ
    pub old : Record
    pub leads : Leads m before first old
    pub handle : NotificationHandle
    pub exit : RunExitResult
    pub policy : RetryPolicy
    pub new : Record
    pub reports : FinishDoes old.starved handle exit policy old (Ok tt) new
    pub run : PendingRun
    pub pending : run_at handle.0 old.vm.machine ≡ Some run
    pub id : p.id ≡ run.completion_id
    pub becomes : SettlesRun run exit policy
        (earlier_count old.vm.machine.start old.vm.machine.wrote_command)
        (earlier_nanos old.vm.machine.start old.vm.machine.wrote_command)
        (settlement.Proposed p.result)
    pub after : ℕ
    pub further : Leads m after new last
