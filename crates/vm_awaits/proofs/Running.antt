-- What a run's result finds among the pending runs.
use Rattle.std.proofs.Common.{◌≡◌, ℕ, Option, Some, None, Result, Ok, Err, refl, sym, ap, subst, ◌∙◌}
use Rattle.await_trees.specs.declared.handle.NotificationHandle.{NotificationHandle}
use Rattle.journal_protocol.specs.NamedFault.TheVariants as name
use Rattle.journal_protocol.specs.Errors.{named_error}
use Rattle.vm_retries.specs.declared.policy.RetryPolicy.{RetryPolicy}
use Rattle.vm_runs.specs.declared.settling.Settlement.{Settlement}
use Rattle.vm_types.specs.declared.runs.RunExitResult.{RunExitResult}
use Rattle.vm_runs.specs.Settling.{SettlesRun}
use Rattle.vm_runs.specs.declared.pending.PendingRun.{PendingRun}
use Rattle.vm_machine.specs.declared.fault.Fault.{Fault}
use Rattle.vm_machine.specs.declared.fault.Fault.TheVariants.{Memory, Refused}
use Rattle.vm_machine.specs.declared.machine.Machine.{Machine}
use Rattle.vm_machine.specs.Outcomes.{Done, Failed, GivesBy, lasting}
use Rattle.vm_machine.specs.Proposals.{Settled, SettlesAs, earlier_count, earlier_nanos, run_at, without_run}

pub settled_none : (handle : NotificationHandle) (exit : RunExitResult) (policy : RetryPolicy) (v w : Machine) → None ≡ run_at handle.0 v → w ≡ v
    → GivesBy (Settled handle exit policy (run_at handle.0 v) v) (Err (Refused (named_error name.NoPendingRun None))) v w
settled_none handle exit policy v w none same =
    subst (λ (x : Option PendingRun × Machine). GivesBy (Settled handle exit policy x.0 v) (Err (Refused (named_error name.NoPendingRun None))) v x.1) (λ i. (none i, sym same i)) (refl, refl)

pub settled_some : (handle : NotificationHandle) (exit : RunExitResult) (policy : RetryPolicy) (v mid new : Machine) (run : PendingRun) (count nanos : ℕ) (s : Settlement) (r : Result (Unit {0}) Fault) → Some run ≡ run_at handle.0 v → mid ≡ without_run handle v
    → count ≡ earlier_count mid.start mid.wrote_command → nanos ≡ earlier_nanos mid.start mid.wrote_command → SettlesRun run exit policy count nanos s → GivesBy (SettlesAs run.completion_id s mid) r mid new → GivesBy (Settled handle exit policy (run_at handle.0 v) v) r v new
settled_some handle exit policy v mid new run count nanos s r some is counts lasts becomes gives = subst (λ o. GivesBy (Settled handle exit policy o v) r v new) some (by_result r gives)
  where
    there : SettlesRun run exit policy (earlier_count v.start v.wrote_command) (earlier_nanos v.start v.wrote_command) s
    there = subst (λ (m : Machine). SettlesRun run exit policy (earlier_count m.start m.wrote_command) (earlier_nanos m.start m.wrote_command) s) is
        (subst (λ c. SettlesRun run exit policy c (earlier_nanos mid.start mid.wrote_command) s) counts (subst (λ n. SettlesRun run exit policy count n s) lasts becomes))

    by_result : (r : Result (Unit {0}) Fault) → GivesBy (SettlesAs run.completion_id s mid) r mid new → GivesBy (Settled handle exit policy (Some run) v) r v new
    by_result (Ok t) g = (s, there, subst (λ u. SettlesAs run.completion_id s u (Done t new)) is g)
    by_result (Err (Refused e)) g = ((s, there, subst (λ u. SettlesAs run.completion_id s u (Failed e new)) is g.0), g.1 ∙ ap lasting is)
    by_result (Err Memory) g = g ∙ ap lasting is
