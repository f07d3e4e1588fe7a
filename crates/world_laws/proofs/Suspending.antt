-- A step that suspends the invocation says where its handler's run waits.
use Rattle.std.proofs.Common.{◌≡◌, ◌⊎◌, ◌+◌, [], ◌++◌, Result, Ok, Err, ap, ◌∙◌, append-nil, ⊎_elim}
use Rattle.std.specs.Prelude.{Option}
use Rattle.journal_protocol.specs.Error.{Error}
use Rattle.await_trees.specs.declared.tree.UnresolvedFuture.{UnresolvedFuture}
use Rattle.invocation_vm.specs.Views.{View}
use Rattle.vm_model.specs.Calls.{Setup}
use Rattle.vm_model.specs.Fixed.{Fixed}
use Rattle.vm_model.specs.Histories.{Handed}
use Rattle.vm_model.proofs.Compared.{attempt_is_told}
use Rattle.vm_model.proofs.Runs.{made_add}
use Rattle.vm_attempt.specs.declared.progress.Progress.TheVariants as progress
use Rattle.vm_attempt.specs.declared.progress.Reply.{Reply}
use Rattle.vm_attempt.specs.declared.progress.Reply.TheVariants as reply
use Rattle.vm_attempt.specs.Record.{Record, heard}
use Rattle.vm_attempt.specs.Stepping.{LacksMemory, StepDoes, future_in, progress_of, replied, step_asked}
use Rattle.vm_attempt.specs.Agreement.{IsSuspended}
use Rattle.vm_attempt.specs.Ending.{IsRunning}
use Rattle.vm_attempt.specs.Journals.{setup_for}
use Rattle.vm_attempt.specs.Told.{IsKeptUnder, Premises, arrivals, begun, start_state}
use Rattle.world_laws.specs.Suspensions.{Suspends}
use Rattle.world_laws.proofs.Running.{FollowsBy, RunOf, StepFollows, step_follows}

module _ (fixed : Fixed) (old new : Record) (k : RunOf fixed old) (w : View) where
  abbrev s : Setup
  s = setup_for fixed k.journal.start

  suspends_at : new.vm ≡ w → IsSuspended s fixed.handler (start_state k.journal) k.at old.vm.machine w.machine → Suspends fixed old new
  suspends_at is x =
      let run = made_add s fixed.handler (Handed (start_state k.journal)) k.moves x.waits.moves.moves (begun fixed k.journal) k.written k.at [] x.at k.run x.waits.moves.run in
      let told = attempt_is_told s fixed.handler (start_state k.journal) k.journal.input (k.moves + x.waits.moves.moves) (arrivals k.journal) k.journal.rest (k.written ++ []) x.at run in
      record {
        journal = k.journal;
        written = k.written ++ [];
        at = x.at;
        told = told.0;
        answers = x.waits.moves.answers ∙ append-nil k.at.answers ∙ k.answers;
        no_command = x.waits.no_command;
        left = x.left;
        waits = record { future = x.waits.future; awaits = x.waits.awaits; asks = x.waits.asks; no_arrival = x.waits.no_arrival; is_left = x.is_left };
        output = ap (λ (v : View). v.machine.output) is ∙ x.output;
      }

  replied_suspends : (x : Result Reply Error) (future : Option UnresolvedFuture) → Ok progress.Suspended ≡ progress_of x → new ≡ replied old future x w → FollowsBy fixed old k x w.machine → Suspends fixed old new
  replied_suspends (Ok (reply.Answer a)) future e now f = absurd (cc)
  replied_suspends (Ok (reply.Waiting input run)) future e now f = absurd (cc)
  replied_suspends (Ok (reply.Execute run)) future e now f = absurd (cc)
  replied_suspends (Ok reply.Suspended) future e now f = suspends_at (ap (λ (r : Record). r.vm) now) f
  replied_suspends (Ok reply.Ended) future e now f = absurd (cc)
  replied_suspends (Err why) future e now f = absurd (cc)

pub step_suspends : (fixed : Fixed) (old new : Record) → IsKeptUnder fixed old → Premises fixed (heard fixed.version old) → IsRunning old → StepDoes fixed.handler old (Ok progress.Suspended) new → Suspends fixed old new
step_suspends fixed old new u p is does =
    ⊎_elim
    (λ (x : LacksMemory old (Ok progress.Suspended) new). let e = x.0 in absurd (cc))
    (λ (x : StepFollows fixed old (Ok progress.Suspended) new). replied_suspends fixed old new x.run x.view x.answered (future_in (step_asked fixed.handler old)) x.result_is x.record_is x.follows)
    (step_follows fixed old (Ok progress.Suspended) new u p is does)
