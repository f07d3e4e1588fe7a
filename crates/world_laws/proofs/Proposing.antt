-- Each proposal of an attempt comes from a report of a run's result.
use Rattle.std.proofs.Common.{◌≡◌, ℕ, zero, suc, Bool, true, false, List, [], ◌∷◌, ◌++◌, length, drop, Option, Some, None, Result, Ok, Err, refl, sym, ap, ◌∙◌, subst, append-nil, ⊎_elim, Global}
use Rattle.std.specs.List.{AllByRecursion, concat}
use Rattle.std.specs.declared.alloc.AllocError.{AllocError}
use Rattle.std.proofs.lemmas.List.{drop_at}
use Rattle.await_trees.specs.declared.handle.NotificationHandle.{NotificationHandle}
use Rattle.journal_protocol.specs.Error.{Error}
use Rattle.journal_protocol.specs.Frames.{IsWhole, encoding}
use Rattle.journal_protocol.specs.Message.{Message}
use Rattle.journal_protocol.specs.Message.TheVariants as message
use Rattle.journal_protocol.specs.NamedFault.{NamedFault}
use Rattle.journal_protocol.specs.ProposeRunCompletion.{ProposeRunCompletion}
use Rattle.journal_protocol.specs.ValueOrFailure.{ValueOrFailure}
use Rattle.invocation_vm.specs.Making.{made}
use Rattle.invocation_vm.specs.Views.{StarvesAmong, View, messages_in_bytes}
use Rattle.vm_retries.specs.declared.policy.RetryPolicy.{RetryPolicy}
use Rattle.vm_runs.specs.Settling.{SettlesRun}
use Rattle.vm_runs.specs.declared.pending.PendingRun.{PendingRun}
use Rattle.vm_runs.specs.declared.settling.Settlement.{Settlement}
use Rattle.vm_runs.specs.declared.settling.Settlement.TheVariants as settlement
use Rattle.vm_types.specs.declared.runs.RunExitResult.{RunExitResult}
use Rattle.vm_machine.specs.declared.machine.Machine.{Machine}
use Rattle.vm_machine.specs.declared.phase.Phase.{Phase}
use Rattle.vm_machine.specs.declared.phase.Phase.TheVariants.{WaitingStart, WaitingReplayEntries, Replaying, Processing, Closed}
use Rattle.vm_machine.specs.Outcomes.{CalledAt, CalledBy, Outcome, Done, Failed, settled}
use Rattle.vm_machine.specs.Proposals.{Proposes, Settled, SettledAt, SettledUnless, SettlesAs, earlier_count, earlier_nanos, proposal_fault, proposed, run_at, without_run}
use Rattle.vm_model.specs.Fixed.{Fixed}
use Rattle.journal_protocol.specs.Version.TheVariants.{V7}
use Rattle.vm_attempt.specs.Heard.{Heard, proposals_in}
use Rattle.vm_attempt.specs.Record.{Record}
use Rattle.vm_attempt.specs.Stepping.{CloseDoes, CompletesRun, FeedDoes, FinishDoes, StepDoes, StepFunction, Takes, fresh_record, kept_at, newly_proposed, noted_at, with_piece_kept, with_vm}
use Rattle.vm_attempt.specs.declared.progress.Progress.{Progress}
use Rattle.vm_attempt.specs.Courses.{Leads, OneCall}
use Rattle.vm_attempt.specs.Courses.OneCall.{Feeding, Closing, Stepping, Telling, Taking}
use Rattle.vm_attempt.proofs.Caused.{leads_more}
use Rattle.vm_attempt.proofs.Under.{step_fed}
use Rattle.vm_attempt.proofs.Written.{frames_propose, proposes_one}
use Rattle.world_laws.specs.Reports.{WasReported}

abbrev proposal : ℕ → ValueOrFailure → Message
proposal id result = message.ProposeRunCompletion (record { id = id; result = result })

-- a call that wrote nothing has proposed nothing
pub none_newly : (v : Machine) → newly_proposed v v ≡ []
none_newly v = ap (λ l. proposals_in (concat l)) (ap (drop (length v.output)) (sym (append-nil v.output)) ∙ drop_at v.output [] (length v.output) refl) ∙ frames_propose [] tt

one_newly : (handle : NotificationHandle) (id : ℕ) (result : ValueOrFailure) (v : Machine) → IsWhole (proposal id result) → newly_proposed v (proposed id result (without_run handle v)) ≡ record { id = id; result = result } ∷ []
one_newly handle id result v whole =
    ap (λ l. proposals_in (concat l)) (drop_at v.output (encoding (proposal id result) ∷ []) (length v.output) refl)
    ∙ frames_propose (proposal id result ∷ []) (whole, tt)
    ∙ proposes_one (record { id = id; result = result }) whole

-- ---- one report

-- the pending run of a handle, and what becomes of the outcome of executing it
pub record Becomes (handle : NotificationHandle) (exit : RunExitResult) (policy : RetryPolicy) (v : Machine) (p : ProposeRunCompletion) : Type 0 where
  pub run : PendingRun
  pub pending : run_at handle.0 v ≡ Some run
  pub id : p.id ≡ run.completion_id
  pub becomes : SettlesRun run exit policy (earlier_count v.start v.wrote_command) (earlier_nanos v.start v.wrote_command) (settlement.Proposed p.result)

module _ (handle : NotificationHandle) (exit : RunExitResult) (policy : RetryPolicy) (v : Machine) where
  abbrev pub News : Machine → Type 0
  News w = AllByRecursion (Becomes handle exit policy v) (newly_proposed v w)

  pub done_same : (t : Unit {0}) (w u : Machine) → Done t w ≡ Done tt u → w ≡ u
  done_same t w u h = cc

  same_none : (w : Machine) → w ≡ v → News w
  same_none w is = subst News (sym is) (subst (AllByRecursion (Becomes handle exit policy v)) (sym (none_newly v)) tt)

  settles : (run : PendingRun) (s : Settlement) (t : Unit {0}) (w : Machine) → run_at handle.0 v ≡ Some run → SettlesRun run exit policy (earlier_count v.start v.wrote_command) (earlier_nanos v.start v.wrote_command) s → SettlesAs run.completion_id s (without_run handle v) (Done t w) → News w
  settles run (settlement.Failed e) t w pending becomes is = absurd (cc)
  settles run (settlement.Proposed result) t w pending becomes (whole, is) =
      subst News (sym (done_same t w (proposed run.completion_id result (without_run handle v)) is))
      (subst (AllByRecursion (Becomes handle exit policy v)) (sym (one_newly handle run.completion_id result v whole)) (record { run = run; pending = pending; id = refl; becomes = becomes }, tt))

  settled_run : (run : Option PendingRun) (t : Unit {0}) (w : Machine) → run_at handle.0 v ≡ run → Settled handle exit policy run v (Done t w) → News w
  settled_run None t w is h = absurd (cc)
  settled_run (Some run) t w is (s, becomes, settling) = settles run s t w is becomes settling

  settled_at : (ph : Phase) (t : Unit {0}) (w : Machine) → SettledAt ph handle exit policy v (Done t w) → News w
  settled_at WaitingStart t w is = same_none w (done_same t w v is)
  settled_at WaitingReplayEntries t w is = same_none w (done_same t w v is)
  settled_at Replaying t w is = same_none w (done_same t w v is)
  settled_at Closed t w is = same_none w (done_same t w v is)
  settled_at Processing t w does = settled_run (run_at handle.0 v) t w refl does

  settled_unless : (f : Option NamedFault) (t : Unit {0}) (w : Machine) → SettledUnless f handle exit policy v (Done t w) → News w
  settled_unless (Some name) t w is = absurd (cc)
  settled_unless None t w does = settled_at v.phase t w does

  by_event : (event : Outcome Unit) (t : Unit {0}) (w : Machine) → Proposes handle exit policy v event → Done t w ≡ settled event → News w
  by_event (Done u x) t w does is = settled_unless (proposal_fault exit policy v.version) t w (subst (Proposes handle exit policy v) (sym is) does)
  by_event (Failed e x) t w does is = absurd (cc)

  by_failure : (f : Option Error) (t : Unit {0}) (w : Machine) → CalledAt f (Proposes handle exit policy v) v (Done t w) → News w
  by_failure None t w (event, does, is) = by_event event t w does is
  by_failure (Some e) t w is = absurd (cc)

  pub reported : (t : Unit {0}) (w : Machine) → CalledBy (Proposes handle exit policy v) v (Done t w) → News w
  reported t w does = by_failure v.failure t w does

-- ---- the calls that propose nothing

kept_proposed : (f : Option Error) (ph : Phase) (piece : List ℕ) (r : Record) → (kept_at f ph piece r).proposed ≡ r.proposed
kept_proposed (Some e) ph piece r = refl
kept_proposed None WaitingStart piece r = refl
kept_proposed None WaitingReplayEntries piece r = refl
kept_proposed None Replaying piece r = refl
kept_proposed None Processing piece r = refl
kept_proposed None Closed piece r = refl

of_same : (old new : Record) → new ≡ old → new.proposed ≡ old.proposed
of_same old new is = ap (λ (r : Record). r.proposed) is

feed_proposes : (b : Bool) (piece : List ℕ) (old : Record) (result : Result Unit AllocError) (new : Record) → FeedDoes b piece old result new → new.proposed ≡ old.proposed
feed_proposes true piece old result new d = of_same old new d.1
feed_proposes false piece old (Ok t) new d = ap (λ (r : Record). r.proposed) d ∙ kept_proposed old.vm.machine.failure old.vm.machine.phase piece old
feed_proposes false piece old (Err e) new d =
    ⊎_elim
    (λ (x : new ≡ record old { starved = true }). ap (λ (r : Record). r.proposed) x)
    (λ (x : (w : View) × StarvesAmong (messages_in_bytes old.vm piece) old.vm.machine w.machine × (new ≡ with_vm w (with_piece_kept piece old))). ap (λ (r : Record). r.proposed) x.2 ∙ kept_proposed old.vm.machine.failure old.vm.machine.phase piece old)
    d

close_proposes : (b : Bool) (old : Record) (result : Result Unit AllocError) (new : Record) → CloseDoes b old result new → new.proposed ≡ old.proposed
close_proposes true old result new d = of_same old new d.1
close_proposes false old (Ok t) new d = ap (λ (r : Record). r.proposed) d
close_proposes false old (Err e) new (w, starves, is) = ap (λ (r : Record). r.proposed) is

take_proposes : (old : Record) (result : Result (List ℕ) AllocError) (new : Record) → Takes old result new → new.proposed ≡ old.proposed
take_proposes old (Ok bytes) new d = ap (λ (r : Record). r.proposed) d.1
take_proposes old (Err e) new d = of_same old new d

step_proposes : (m : StepFunction) (old : Record) (result : Result Progress Error) (new : Record) → StepDoes m old result new → new.proposed ≡ old.proposed
step_proposes m old result new d = ap (λ (h : Heard). h.proposed) (step_fed V7 m old result new d)

noted_proposed : (f : Option Error) (handle : NotificationHandle) (r : Record) → (noted_at f handle r).proposed ≡ r.proposed
noted_proposed (Some e) handle r = refl
noted_proposed None handle r = refl

-- ---- one call after another

-- what holds of each element after a step, when more come
pub grown : {A : Type 0} (P Q : A → Type 0) → ((x : A) → P x → Q x) → (xs ys : List A) → AllByRecursion P xs → AllByRecursion Q ys → AllByRecursion Q (xs ++ ys)
grown P Q f [] ys h k = k
grown P Q f (x ∷ xs) ys h k = (f x h.0, grown P Q f xs ys h.1 k)

pub each : {A : Type 0} (P Q : A → Type 0) (f : (x : A) → P x → Q x) (xs : List A) (h : AllByRecursion P xs) → AllByRecursion Q xs
each P Q f xs h = subst (AllByRecursion Q) (append-nil xs) (grown P Q f xs [] h tt)

module _ (m : StepFunction) (first : Record) where
  abbrev Reported : Record → Type 0
  Reported r = AllByRecursion (WasReported m first r) r.proposed

  module _ (n : ℕ) (old new : Record) (led : Leads m n first old) (all : Reported old) (call : OneCall m old new) where
    later : (p : ProposeRunCompletion) → WasReported m first old p → WasReported m first new p
    later p x = record {
      before = x.before;
      old = x.old;
      leads = x.leads;
      handle = x.handle;
      exit = x.exit;
      policy = x.policy;
      new = x.new;
      reports = x.reports;
      run = x.run;
      pending = x.pending;
      id = x.id;
      becomes = x.becomes;
      after = suc x.after;
      further = leads_more m x.after x.new old new x.further call;
    }

    still : AllByRecursion (WasReported m first new) old.proposed
    still = each (WasReported m first old) (WasReported m first new) later old.proposed all

    same : new.proposed ≡ old.proposed → Reported new
    same is = subst (AllByRecursion (WasReported m first new)) (sym is) still

    module _ (handle : NotificationHandle) (exit : RunExitResult) (policy : RetryPolicy) where
      newly : FinishDoes old.starved handle exit policy old (Ok tt) new → (p : ProposeRunCompletion) → Becomes handle exit policy old.vm.machine p → WasReported m first new p
      newly reports p x = record {
        before = n;
        old = old;
        leads = led;
        handle = handle;
        exit = exit;
        policy = policy;
        new = new;
        reports = reports;
        run = x.run;
        pending = x.pending;
        id = x.id;
        becomes = x.becomes;
        after = 0;
        further = refl;
      }

      completes : (result : Result Unit Error) → FinishDoes old.starved handle exit policy old result new → CompletesRun handle exit policy old result new → Reported new
      completes (Err e) reports (w, does, is) = same (ap (λ (r : Record). r.proposed) is ∙ noted_proposed old.vm.machine.failure handle old)
      completes (Ok t) reports (w, does, is) =
          let more = newly_proposed old.vm.machine w.machine in
          subst (AllByRecursion (WasReported m first new)) (sym (ap (λ (r : Record). r.proposed) is))
          (grown (WasReported m first old) (WasReported m first new) later old.proposed more all
          (each (Becomes handle exit policy old.vm.machine) (WasReported m first new) (newly reports) more (reported handle exit policy old.vm.machine t w.machine does.0)))

      tells : (b : Bool) (result : Result Unit Error) → old.starved ≡ b → FinishDoes old.starved handle exit policy old result new → FinishDoes b handle exit policy old result new → Reported new
      tells true result is reports d = same (of_same old new d.1)
      tells false result is reports d = completes result reports d

    one_call : (c : OneCall m old new) → Reported new
    one_call (Feeding piece result does) = same (feed_proposes old.starved piece old result new does)
    one_call (Closing result does) = same (close_proposes old.starved old result new does)
    one_call (Stepping result does) = same (step_proposes m old result new does)
    one_call (Telling handle exit policy result does) = tells handle exit policy old.starved result refl does does
    one_call (Taking result does) = same (take_proposes old result new does)

  all_calls : (k n : ℕ) (mid last : Record) → Leads m k first mid → Reported mid → Leads m n mid last → Reported last
  all_calls k zero mid last led all is = subst Reported (sym is) all
  all_calls k (suc n) mid last led all (next, call, more) = all_calls (suc k) n next last (leads_more m k first mid next led call) (one_call k mid next led all call call) more

pub all_reported : (fixed : Fixed) (alloc : Global) (n : ℕ) (r : Record) → Leads fixed.handler n (fresh_record (made alloc fixed.options fixed.version)) r → AllByRecursion (WasReported fixed.handler (fresh_record (made alloc fixed.options fixed.version)) r) r.proposed
all_reported fixed alloc n r leads =
    let first = fresh_record (made alloc fixed.options fixed.version) in
    all_calls fixed.handler first 0 n first r refl tt leads
