-- The outcome of an executed run is reported: it is ignored, or a result is proposed, or the VM
-- fails.
use Rattle.std.proofs.Common.{◌≡◌, ◌⊎◌, ℕ, Bool, true, false, List, [], ◌∷◌, ◌++◌, map, Option, Some, None, Result, Ok, Err, refl, sym, ap, ◌∙◌, subst, inl, inr, ⊎_elim, append-nil, Global}
use Rattle.std.specs.Prelude.{IfErr, drop, if◌then◌else◌, is_some, length, unwrap_or}
use Rattle.std.specs.List.{concat}
use Rattle.std.proofs.lemmas.List.{drop_at}
use Rattle.std.proofs.lemmas.Option.{same_Some}
use Rattle.await_trees.specs.declared.handle.NotificationHandle.{NotificationHandle}
use Rattle.await_trees.specs.declared.tree.UnresolvedFuture.{UnresolvedFuture}
use Rattle.journal_protocol.specs.Error.{Error}
use Rattle.journal_protocol.specs.NamedFault.{NamedFault}
use Rattle.journal_protocol.specs.Version.{Version}
use Rattle.journal_protocol.specs.Errors.{no_memory}
use Rattle.journal_protocol.specs.Message.{Message}
use Rattle.journal_protocol.specs.Message.TheVariants as message
use Rattle.journal_protocol.specs.RawMessage.{RawMessage}
use Rattle.journal_protocol.specs.Frames.{IsWhole, encoding}
use Rattle.journal_protocol.specs.ValueOrFailure.{ValueOrFailure}
use Rattle.vm_retries.specs.declared.policy.RetryPolicy.{RetryPolicy}
use Rattle.vm_runs.specs.declared.settling.Settlement.{Settlement}
use Rattle.vm_runs.specs.declared.settling.Settlement.TheVariants as settlement
use Rattle.vm_types.specs.declared.runs.RunExitResult.{RunExitResult}
use Rattle.vm_runs.specs.Firsts.{without_first}
use Rattle.vm_runs.specs.Pending.{has_handle}
use Rattle.journal_protocol.specs.ProposeRunCompletion.{ProposeRunCompletion}
use Rattle.vm_runs.specs.declared.pending.PendingRun.{PendingRun}
use Rattle.vm_types.specs.declared.steps.Answer.{Answer}
use Rattle.vm_parts.specs.Outboxes.{WholeFrames}
use Rattle.vm_machine.specs.declared.machine.Machine.{Machine}
use Rattle.vm_machine.specs.declared.phase.Phase.{Phase}
use Rattle.vm_machine.specs.declared.phase.Phase.TheVariants.{WaitingStart, WaitingReplayEntries, Replaying, Processing, Closed}
use Rattle.vm_machine.specs.Making.{fresh}
use Rattle.vm_machine.specs.Inputs.{coverage_of}
use Rattle.vm_machine.specs.Outcomes.{CalledBy, Done, Failed, IsStarved, Outcome, called, called_at, failed, ruled, ruled_by, settled}
use Rattle.vm_machine.specs.Phases.{is_closed, is_running}
use Rattle.journal_protocol.specs.Versions.{is_from_v7}
use Rattle.vm_machine.specs.Proposals.{Proposes, Settled, SettledAt, SettledUnless, SettlesAs, proposal_fault, proposed, run_at, without_run}
use Rattle.vm_machine.proofs.Calling.{called_from}
use Rattle.invocation_vm.specs.Views.{View}
use Rattle.invocation_vm.proofs.Failing.{first_proposed}
use Rattle.vm_model.specs.Calls.{Setup}
use Rattle.vm_model.specs.Histories.{Handed, IsPrefix, Made}
use Rattle.vm_model.specs.Moves.{Point, start}
use Rattle.journal_entries.specs.Journal.{stored_form}
use Rattle.vm_attempt.specs.declared.progress.Progress.{Progress}
use Rattle.vm_attempt.specs.Arrivals.{AllFound, arriving}
use Rattle.vm_attempt.specs.Blames.{BlamedAt, IsBlamed, IsLate, KeptBlame, LateBy}
use Rattle.vm_attempt.specs.Blames.Blame.{Memory, RunResult}
use Rattle.vm_attempt.specs.Heard.{Heard, acknowledged_from, proposals_among, proposals_in, with_pieces}
use Rattle.vm_attempt.specs.Journals.{HasAll, StillWaits, setup_for}
use Rattle.vm_attempt.specs.Record.{Record, Said, all_heard, all_said, heard}
use Rattle.vm_attempt.specs.Stepping.{FinishDoes, CompletesRun, ReportsRunResult, TellsUnless, newly_proposed, failed_run_noted, noted_at, with_vm}
use Rattle.vm_attempt.specs.Told.{BeforeInput, Begun, JournalCame, Comes, HasCome, InReplay, IsKept, IsKeptInReplay, IsKeptUnder, IsLive, Journal, Premises, Quiet, ReplayPremises, HandlerRuns, StillSleeps, Wrote, arrivals, frames_fed, start_state, ProvesHistory}
use Rattle.vm_attempt.proofs.Advanced.{done_of}
use Rattle.vm_attempt.proofs.Ahead.{Fewer, LivesOn, ended_fewer, fewer_same}
use Rattle.vm_attempt.proofs.Blamed.{alive_blamed, none_some, over_blamed}
use Rattle.vm_attempt.proofs.Erring.{error_blamed}
use Rattle.vm_attempt.proofs.Fresh.{on_still}
use Rattle.vm_attempt.proofs.InReplay.{replay_last}
use Rattle.vm_attempt.proofs.Kept.{KeptBy, dead_same}
use Rattle.vm_attempt.proofs.Lasting.{CameBy, came_last, runs_last}
use Rattle.vm_attempt.proofs.Placing.{come_stands}
use Rattle.vm_attempt.proofs.Proposed.{arriving_more, found_more, kept_more}
use Rattle.vm_attempt.proofs.Quiet.{error_quiet, quiet_same, wrote_more}
use Rattle.vm_attempt.proofs.Sleeping.{still_quiet}
use Rattle.vm_attempt.proofs.Steady.{all_proposed, with_proposed, wrote_of}
use Rattle.vm_attempt.proofs.Written.{frames_propose, proposes_more, proposes_one}
use Rattle.vm_model.specs.Fixed.{Fixed}

-- ---- the event

-- what is proposed
abbrev proposal : ℕ → ValueOrFailure → Message
proposal id result = message.ProposeRunCompletion (record { id = id; result = result })

-- the same, as it is kept
abbrev kept_as : ℕ → ValueOrFailure → ProposeRunCompletion
kept_as id result = record { id = id; result = result }

-- a result is proposed, in Processing
record IsProposed (handle : NotificationHandle) (v w : Machine) : Type 0 where
  id : ℕ
  result : ValueOrFailure
  whole : IsWhole (proposal id result)
  phase : v.phase ≡ Processing
  machine : w ≡ proposed id result (without_run handle v)

-- a refused event has written nothing
record IsUnmoved (v w : Machine) : Type 0 where
  output : w.output ≡ v.output
  version : w.version ≡ v.version
  options : w.options ≡ v.options

unmoved : (v w : Machine) → w ≡ v → IsUnmoved v w
unmoved v w is = record { output = ap (λ (x : Machine). x.output) is; version = ap (λ (x : Machine). x.version) is; options = ap (λ (x : Machine). x.options) is }

done_same : {A : Type 0} (a b : A) (v w : Machine) → Done a v ≡ Done b w → v ≡ w
done_same a b v w h = cc

abbrev failing : Error → Machine → Outcome Unit
failing e v = Failed e v

failed_same : (d e : Error) (v w : Machine) → failing d v ≡ failing e w → v ≡ w
failed_same d e v w h = cc

module _ (handle : NotificationHandle) (exit : RunExitResult) (policy : RetryPolicy) (v : Machine) where
  settles_done : (id : ℕ) (s : Settlement) (t : Unit {0}) (w : Machine) → v.phase ≡ Processing → SettlesAs id s (without_run handle v) (Done t w) → IsProposed handle v w
  settles_done id (settlement.Proposed result) t w at (whole, is) = record { id = id; result = result; whole = whole; phase = at; machine = done_same t tt w _ is }
  settles_done id (settlement.Failed e) t w at is = absurd (cc)

  settled_done : (run : Option PendingRun) (t : Unit {0}) (w : Machine) → v.phase ≡ Processing → Settled handle exit policy run v (Done t w) → IsProposed handle v w
  settled_done None t w at is = absurd (cc)
  settled_done (Some run) t w at (s, becomes, settles) = settles_done run.completion_id s t w at settles

  done_at : (ph : Phase) (t : Unit {0}) (w : Machine) → v.phase ≡ ph → SettledAt ph handle exit policy v (Done t w) → (w ≡ v) ⊎ IsProposed handle v w
  done_at WaitingStart t w at is = inl (done_same t tt w v is)
  done_at WaitingReplayEntries t w at is = inl (done_same t tt w v is)
  done_at Replaying t w at is = inl (done_same t tt w v is)
  done_at Closed t w at is = inl (done_same t tt w v is)
  done_at Processing t w at does = inr (settled_done (run_at handle.0 v) t w at does)

  done_unless : (f : Option NamedFault) (t : Unit {0}) (w : Machine) → SettledUnless f handle exit policy v (Done t w) → (w ≡ v) ⊎ IsProposed handle v w
  done_unless (Some name) t w is = absurd (cc)
  done_unless None t w does = done_at v.phase t w refl does

  settles_failed : (id : ℕ) (s : Settlement) (e : Error) (w : Machine) → SettlesAs id s (without_run handle v) (Failed e w) → IsUnmoved v w
  settles_failed id (settlement.Proposed result) e w (whole, is) = absurd (cc)
  settles_failed id (settlement.Failed d) e w is = subst (IsUnmoved v) (sym (failed_same e d w (without_run handle v) is)) (record { output = refl; version = refl; options = refl })

  settled_failed : (run : Option PendingRun) (e : Error) (w : Machine) → Settled handle exit policy run v (Failed e w) → IsUnmoved v w
  settled_failed None e w is = unmoved v w (failed_same e _ w v is)
  settled_failed (Some run) e w (s, becomes, settles) = settles_failed run.completion_id s e w settles

  failed_at : (ph : Phase) (e : Error) (w : Machine) → SettledAt ph handle exit policy v (Failed e w) → IsUnmoved v w
  failed_at WaitingStart e w is = absurd (cc)
  failed_at WaitingReplayEntries e w is = absurd (cc)
  failed_at Replaying e w is = absurd (cc)
  failed_at Closed e w is = absurd (cc)
  failed_at Processing e w does = settled_failed (run_at handle.0 v) e w does

  failed_unless : (f : Option NamedFault) (e : Error) (w : Machine) → SettledUnless f handle exit policy v (Failed e w) → IsUnmoved v w
  failed_unless (Some name) e w is = unmoved v w (failed_same e _ w v is)
  failed_unless None e w does = failed_at v.phase e w does

  -- it was refused, or fails the attempt
  record Refuses (e : Error) : Type 0 where
    why : Error
    left : Machine
    proposes : Proposes handle exit policy v (Failed why left)
    error : e ≡ ruled v why

  -- the VM fails
  record Fails (e : Error) (w : Machine) : Type 0 where
    quiet : Quiet v w
    failure : w.failure ≡ Some e
    why : (e ≡ no_memory) ⊎ Refuses e

  failed_of : (o : Outcome Unit) (e : Error) (w : Machine) → v.failure ≡ None → called o v ≡ Failed e w → (why : Error) × (left : Machine) × (o ≡ Failed why left) × ((e ≡ ruled left why) × (w ≡ failed (ruled left why) left))
  unfolding called
  failed_of o e w live is = by_outcome o (ap (λ f. called_at f o v) (sym live) ∙ is)
    where
      by_outcome : (q : Outcome Unit) → settled q ≡ Failed e w → (why : Error) × (left : Machine) × (q ≡ Failed why left) × ((e ≡ ruled left why) × (w ≡ failed (ruled left why) left))
      by_outcome (Done t x) h = absurd (cc)
      by_outcome (Failed d x) h = (d, x, refl, (same_error, same_machine))
        where
          same_error : e ≡ ruled x d
          same_error = cc

          same_machine : w ≡ failed (ruled x d) x
          same_machine = cc

  tells_ok : (t : Unit {0}) (w : Machine) → v.failure ≡ None → CalledBy (Proposes handle exit policy v) v (Done t w) → (w ≡ v) ⊎ IsProposed handle v w
  tells_ok t w live does =
      let from = called_from (Proposes handle exit policy v) v (Done t w) does in
      done_unless (proposal_fault exit policy v.version) t w (subst (Proposes handle exit policy v) (done_of v from.0 t w live (sym from.2)) (from.1 live))

  tells_err : (e : Error) (w : Machine) → v.failure ≡ None → CalledBy (Proposes handle exit policy v) v (Failed e w) → Fails e w
  tells_err e w live does =
      let from = called_from (Proposes handle exit policy v) v (Failed e w) does in
      let f = failed_of from.0 e w live (sym from.2) in
      let comes : Proposes handle exit policy v (Failed f.0 f.1) = subst (Proposes handle exit policy v) f.2 (from.1 live) in
      let u = failed_unless (proposal_fault exit policy v.version) f.0 f.1 comes in
      record {
        quiet = subst (Quiet v) (sym f.3.1) (error_quiet (ruled f.1 f.0) v f.1 u.output (is_closed f.1.phase) refl);
        failure = ap (λ (x : Machine). x.failure) f.3.1 ∙ ap (λ x. Some x) (sym f.3.0);
        why = inr (record { why = f.0; left = f.1; proposes = comes; error = f.3.0 ∙ λ i. ruled_by (u.version i) (u.options i) f.0 });
      }

  starves : (e : Error) (w : Machine) → v.failure ≡ None → IsStarved v e w → Fails e w
  starves e w live s = record {
    quiet = quiet_same v w s.output;
    failure = s.failure ∙ ap (λ (f : Option Error). Some (unwrap_or f no_memory)) live ∙ ap (λ x. Some x) (sym s.error);
    why = inl s.error;
  }

-- ---- the record

-- the record where the run is noted
abbrev noting : NotificationHandle → Record → Record
noting handle r = record r { failed_by = Some handle }

-- a VM that hadn't failed is failed by the result, so the run is noted
noted_live : (handle : NotificationHandle) (r : Record) → r.vm.machine.failure ≡ None → noted_at r.vm.machine.failure handle r ≡ noting handle r
noted_live handle r live = ap (λ f. noted_at f handle r) live

-- of one that had failed nothing is noted
noted_dead : (handle : NotificationHandle) (r : Record) (e : Error) → r.vm.machine.failure ≡ Some e → noted_at r.vm.machine.failure handle r ≡ r
noted_dead handle r e dead = ap (λ f. noted_at f handle r) dead

-- what the record is once a result was proposed
abbrev proposed_to : NotificationHandle → ℕ → ValueOrFailure → Record → Record
proposed_to handle id result r = record r { proposed = r.proposed ++ kept_as id result ∷ []; vm = record r.vm { machine = proposed id result (without_run handle r.vm.machine) } }

record ProposesOne (handle : NotificationHandle) (old new : Record) : Type 0 where
  live : old.vm.machine.failure ≡ None
  id : ℕ
  result : ValueOrFailure
  whole : IsWhole (proposal id result)
  phase : old.vm.machine.phase ≡ Processing
  is : new ≡ proposed_to handle id result old

record FailsBy (handle : NotificationHandle) (exit : RunExitResult) (policy : RetryPolicy) (old new : Record) : Type 0 where
  live : old.vm.machine.failure ≡ None
  vm : View
  error : Error
  fails : Fails handle exit policy old.vm.machine error vm.machine
  is : new ≡ with_vm vm (noting handle old)

-- nothing changes, a result is proposed, or the VM fails
abbrev Cases : NotificationHandle → RunExitResult → RetryPolicy → Record → Record → Type 0
Cases handle exit policy old new = (new ≡ old) ⊎ (ProposesOne handle old new ⊎ FailsBy handle exit policy old new)

same_view : (v w : View) → w.machine ≡ v.machine → w.undecoded ≡ v.undecoded → w ≡ v
same_view v w machine undecoded = λ i. record { undecoded = undecoded i; machine = machine i }

-- a call that wrote nothing has proposed nothing
none_newly : (v : Machine) → newly_proposed v v ≡ []
none_newly v = ap (λ l. proposals_in (concat l)) (ap (drop (length v.output)) (sym (append-nil v.output)) ∙ drop_at v.output [] (length v.output) refl) ∙ frames_propose [] tt

one_newly : (handle : NotificationHandle) (id : ℕ) (result : ValueOrFailure) (v : Machine) → IsWhole (proposal id result) → newly_proposed v (proposed id result (without_run handle v)) ≡ kept_as id result ∷ []
one_newly handle id result v whole =
    ap (λ l. proposals_in (concat l)) (drop_at v.output (encoding (proposal id result) ∷ []) (length v.output) refl)
    ∙ frames_propose (proposal id result ∷ []) (whole, tt)
    ∙ proposes_one (record { id = id; result = result }) whole

module _ (handle : NotificationHandle) (exit : RunExitResult) (policy : RetryPolicy) (old : Record) where
  -- where it answers
  ends_ok : (w : View) (new : Record) → w.undecoded ≡ old.vm.undecoded → (w.machine ≡ old.vm.machine) ⊎ IsProposed handle old.vm.machine w.machine → old.vm.machine.failure ≡ None
      → new ≡ record old { proposed = old.proposed ++ newly_proposed old.vm.machine w.machine; vm = w } → Cases handle exit policy old new
  ends_ok w new und ends live is =
      ⊎_elim
      (λ (x : w.machine ≡ old.vm.machine).
      inl (is ∙ λ i. record old { proposed = (ap (λ m. old.proposed ++ newly_proposed old.vm.machine m) x ∙ ap (λ l. old.proposed ++ l) (none_newly old.vm.machine) ∙ append-nil old.proposed) i; vm = same_view old.vm w x und i }))
      (λ (x : IsProposed handle old.vm.machine w.machine).
      let there : View = record old.vm { machine = proposed x.id x.result (without_run handle old.vm.machine) } in
      inr (inl (record {
        live = live;
        id = x.id;
        result = x.result;
        whole = x.whole;
        phase = x.phase;
        is = is ∙ λ i. record old { proposed = (ap (λ m. old.proposed ++ newly_proposed old.vm.machine m) x.machine ∙ ap (λ l. old.proposed ++ l) (one_newly handle x.id x.result old.vm.machine x.whole)) i; vm = same_view there w x.machine und i };
      })))
      ends

  by_failure : (f : Option Error) → old.vm.machine.failure ≡ f → (result : Result Unit Error) (new : Record) → CompletesRun handle exit policy old result new → Cases handle exit policy old new
  by_failure (Some e) dead (Ok t) new (w, does, is) =
      let first = first_proposed handle exit policy (Ok t) e old.vm w dead does in
      absurd (⊎_elim (λ (x : Ok t ≡ Err e). let z : ⊥ = cc in z) (λ (x : Ok t ≡ Err no_memory). let z : ⊥ = cc in z) first.0)
  by_failure (Some e) dead (Err d) new (w, does, is) =
      let first = first_proposed handle exit policy (Err d) e old.vm w dead does in
      inl (is ∙ λ i. with_vm (first.1 i) (noted_dead handle old e dead i))
  by_failure None live (Ok t) new (w, does, is) = ends_ok w new does.1 (tells_ok handle exit policy old.vm.machine t w.machine live does.0) live is
  by_failure None live (Err e) new (w, does, is) =
      inr (inr (record {
        live = live;
        vm = w;
        error = e;
        fails = ⊎_elim
            (λ (x : CalledBy (Proposes handle exit policy old.vm.machine) old.vm.machine (Failed e w.machine)). tells_err handle exit policy old.vm.machine e w.machine live x)
            (λ (x : IsStarved old.vm.machine e w.machine). starves handle exit policy old.vm.machine e w.machine live x)
            does.0;
        is = is ∙ ap (with_vm w) (noted_live handle old live);
      }))

  -- The run that is noted and the failure stay; or the VM hadn't failed, the report is answered by an error, which is its failure now,
  -- and this run is noted.
  abbrev pub FailsNow : Result Unit Error → Record → Type 0
  FailsNow result new = (e : Error) × (old.vm.machine.failure ≡ None) × (result ≡ Err e) × (new.failed_by ≡ Some handle) × (new.vm.machine.failure ≡ Some e)

  abbrev pub Stays : Record → Type 0
  Stays new = (new.failed_by ≡ old.failed_by) × ((e : Error) → old.vm.machine.failure ≡ Some e → new.vm.machine.failure ≡ Some e)

  stays_same : (new : Record) → new ≡ old → Stays new
  stays_same new is = (ap (λ (r : Record). r.failed_by) is, λ e some. ap (λ (r : Record). r.vm.machine.failure) is ∙ some)

  fails_by : (f : Option Error) → old.vm.machine.failure ≡ f → (result : Result Unit Error) (new : Record) → CompletesRun handle exit policy old result new → Stays new ⊎ FailsNow result new
  fails_by (Some e) dead (Ok t) new (w, does, is) =
      let first = first_proposed handle exit policy (Ok t) e old.vm w dead does in
      absurd (⊎_elim (λ (x : Ok t ≡ Err e). let z : ⊥ = cc in z) (λ (x : Ok t ≡ Err no_memory). let z : ⊥ = cc in z) first.0)
  fails_by (Some e) dead (Err d) new (w, does, is) =
      let first = first_proposed handle exit policy (Err d) e old.vm w dead does in
      inl (stays_same new (is ∙ λ i. with_vm (first.1 i) (noted_dead handle old e dead i)))
  fails_by None live (Ok t) new (w, does, is) = inl (ap (λ (r : Record). r.failed_by) is, λ e some. none_some e (sym live ∙ some))
  fails_by None live (Err e) new (w, does, is) =
      let fails = ⊎_elim
      (λ (x : CalledBy (Proposes handle exit policy old.vm.machine) old.vm.machine (Failed e w.machine)). tells_err handle exit policy old.vm.machine e w.machine live x)
      (λ (x : IsStarved old.vm.machine e w.machine). starves handle exit policy old.vm.machine e w.machine live x)
      does.0 in
      let same : new ≡ with_vm w (noting handle old) = is ∙ ap (with_vm w) (noted_live handle old live) in
      inr (e, live, refl, ap (λ (r : Record). r.failed_by) same, ap (λ (r : Record). r.vm.machine.failure) same ∙ fails.failure)

  pub finish_fails : (result : Result Unit Error) (new : Record) → FinishDoes old.starved handle exit policy old result new → Stays new ⊎ FailsNow result new
  finish_fails result new does = by_test old.starved does
    where
      by_test : (b : Bool) → FinishDoes b handle exit policy old result new → Stays new ⊎ FailsNow result new
      by_test true d = inl (stays_same new d.1)
      by_test false d = fails_by old.vm.machine.failure refl result new d

  finish_cases : (result : Result Unit Error) (new : Record) → FinishDoes old.starved handle exit policy old result new → Cases handle exit policy old new
  finish_cases result new does = by_test old.starved does
    where
      by_test : (b : Bool) → FinishDoes b handle exit policy old result new → Cases handle exit policy old new
      by_test true d = inl d.1
      by_test false d = by_failure old.vm.machine.failure refl result new d

  -- a statement of the record holds after the call, if it holds in each of these cases
  in_case : (result : Result Unit Error) (new : Record) → FinishDoes old.starved handle exit policy old result new → (K : Record → Type 0) → K old → (ProposesOne handle old new → K new) → (FailsBy handle exit policy old new → K new) → K new
  in_case result new does K same proposes fails =
      ⊎_elim
      (λ (x : new ≡ old). subst K (sym x) same)
      (λ (x : ProposesOne handle old new ⊎ FailsBy handle exit policy old new). ⊎_elim (λ (y : ProposesOne handle old new). proposes y) (λ (y : FailsBy handle exit policy old new). fails y) x)
      (finish_cases result new does)

-- ---- one proposal more

-- what was received, with these proposals added
abbrev pub and_proposed : Heard → List ProposeRunCompletion → Heard
and_proposed fed more = record { pieces = fed.pieces; proposed = fed.proposed ++ more }

pub acknowledged_more : (version : Version) (ps more : List ProposeRunCompletion) → acknowledged_from version (ps ++ more) ≡ acknowledged_from version ps ++ acknowledged_from version more
acknowledged_more version ps more = by_test (is_from_v7 version)
  where
    by_test : (b : Bool) → (if b then ps ++ more else []) ≡ (if b then ps else []) ++ (if b then more else [])
    by_test true = refl
    by_test false = refl

-- the machine once a result was proposed: its run isn't pending any more
abbrev proposed_in : NotificationHandle → List ProposeRunCompletion → Message → Machine → Machine
proposed_in handle more m v = record v { runs = without_first (has_handle handle) v.runs; proposals = v.proposals ++ more; output = v.output ++ encoding m ∷ [] }

proposed_is : (handle : NotificationHandle) (id : ℕ) (result : ValueOrFailure) (v : Machine) → proposed id result (without_run handle v) ≡ proposed_in handle (acknowledged_from v.version (kept_as id result ∷ [])) (proposal id result) v
proposed_is handle id result v = by_test (is_from_v7 v.version)
  where
    u : Machine
    u = without_run handle v

    by_test : (b : Bool) → record (if b then record u { proposals = u.proposals ++ kept_as id result ∷ [] } else u) { output = u.output ++ encoding (proposal id result) ∷ [] }
        ≡ proposed_in handle (if b then kept_as id result ∷ [] else []) (proposal id result) v
    by_test true = refl
    by_test false = λ i. record u { proposals = sym (append-nil u.proposals) i; output = u.output ++ encoding (proposal id result) ∷ [] }

abbrev pub journal_as : (fed : Heard) (more : List ProposeRunCompletion) → Journal fed → Journal (and_proposed fed more)
journal_as fed more j = record {
  first_frame = j.first_frame;
  entries = j.entries;
  others = j.others;
  frames = j.frames;
  start = j.start;
  reads_start = j.reads_start;
  count = j.count;
  none_acknowledge = j.none_acknowledge;
  state = j.state;
  reads_state = j.reads_state;
  first = j.first;
  rest = j.rest;
  commands = j.commands;
  input = j.input;
  reads_input = j.reads_input;
}

same_behind : (first other : RawMessage) (xs ys : List RawMessage) → first ∷ xs ≡ other ∷ ys → xs ≡ ys
same_behind first other xs ys h = cc

wrote_proposal : (taken output : List (List ℕ)) (written : List RawMessage) (id : ℕ) (result : ValueOrFailure) → Wrote taken output written → Wrote taken (output ++ encoding (proposal id result) ∷ []) written
wrote_proposal taken output written id result w = subst (Wrote taken (output ++ encoding (proposal id result) ∷ [])) (append-nil written) (wrote_more taken output (output ++ encoding (proposal id result) ∷ []) (proposal id result ∷ []) written refl w)

module _ (fixed : Fixed) (fed : Heard) (answers : List Answer) (waiting : Option UnresolvedFuture) (taken : List (List ℕ)) (vm : View) (live : IsLive vm.machine) (processing : vm.machine.phase ≡ Processing) (handle : NotificationHandle) (id : ℕ) (result : ValueOrFailure) (more : List ProposeRunCompletion) where
  abbrev after : View
  after = record vm { machine = proposed_in handle more (proposal id result) vm.machine }

  module _ (c : JournalCame fixed fed answers taken vm) where
    -- each acknowledgement found its proposal
    found_all : (j : Journal fed) → AllFound fed.proposed (j.entries ++ j.others)
    found_all j = subst (AllFound fed.proposed) (same_behind c.journal.first_frame j.first_frame (c.journal.entries ++ c.journal.others) (j.entries ++ j.others) (sym c.journal.frames ∙ j.frames)) (c.keeps live).1

    came_proposes : JournalCame fixed (and_proposed fed more) answers taken after
    came_proposes = record {
      journal = journal_as fed more c.journal;
      answered = c.answered;
      written = c.written;
      wrote = wrote_proposal taken vm.machine.output c.written id result c.wrote;
      made_for = λ _. c.made_for live;
      keeps = λ _.
          let k = c.keeps live in
          let frames = c.journal.entries ++ c.journal.others in
          (ap (λ l. l ++ more) k.0 ∙ sym (kept_more fed.proposed more frames k.1), found_more fed.proposed more frames k.1);
      early = λ _. inr processing;
      fresh = λ skips. on_still (c.journal.first ∷ c.journal.rest) c.written vm.machine after.machine (c.fresh skips) (λ _. refl) (λ _. live);
      phase = λ _. inl live.phase;
      tail = λ _. c.tail live;
    }

    -- the run with the same arrivals
    run_with : (s : Setup) (j : Journal fed) (moves : ℕ) (written : List RawMessage) (at : Point) → Made s fixed.handler (Handed (start_state j)) moves (start s j.input (arrivals j) j.rest) written at
        → Made s fixed.handler (Handed (start_state j)) moves (start s j.input (arriving (fed.proposed ++ more) (j.entries ++ j.others)) j.rest) written at
    run_with s j moves written at run = subst (λ ns. Made s fixed.handler (Handed (start_state j)) moves (start s j.input ns j.rest) written at) (sym (arriving_more fed.proposed more (j.entries ++ j.others) (found_all j))) run

    -- what is asked of the journal was so before the proposal
    premises_less : Premises fixed (and_proposed fed more) → Premises fixed fed
    premises_less p = record {
      replays = p.replays;
      queues = p.queues;
      once = λ j n made q run. p.once (journal_as fed more j) n made q (run_with (setup_for fixed j.start) j n made q run);
    }

    -- so were the premises of replay
    replays_less : ReplayPremises fixed (and_proposed fed more) → ReplayPremises fixed fed
    replays_less p = record {
      replays = p.replays;
      queues = p.queues;
      once = λ j n made q run some. p.once (journal_as fed more j) n made q (run_with (setup_for fixed j.start) j n made q run) some;
    }

    runs_proposes : HandlerRuns fixed fed answers waiting taken vm → HandlerRuns fixed (and_proposed fed more) answers waiting taken after
    runs_proposes k = record {
      journal = journal_as fed more k.journal;
      written = k.written;
      wrote = wrote_proposal taken vm.machine.output k.written id result k.wrote;
      at = k.at;
      moves = k.moves;
      run = run_with (setup_for fixed k.journal.start) k.journal k.moves k.written k.at k.run;
      answers = k.answers;
      awaits = k.awaits;
      agrees = λ _.
          let a = k.agrees live in
          record {
            aside = record a.aside { beside = record a.aside.beside { runs = without_first (has_handle handle) a.aside.beside.runs }; proposals = a.aside.proposals ++ more; output = a.aside.output ++ encoding (proposal id result) ∷ [] };
            machine = ap (proposed_in handle more (proposal id result)) a.machine;
            identity = a.identity;
          };
      rests = λ _. k.rests live;
      keeps = λ _.
          let kept = k.keeps live in
          let frames = k.journal.entries ++ k.journal.others in
          (ap (λ l. l ++ more) kept.0 ∙ sym (kept_more fed.proposed more frames kept.1), found_more fed.proposed more frames kept.1);
      phase = λ _. inl live.phase;
      tail = λ _. k.tail live;
    }

-- ---- what each kind of outcome keeps

-- before the input no VM is in Processing
no_processing : {A : Type 0} (fixed : Fixed) (fed : Heard) (v : Machine) → Comes fixed fed v → v.phase ≡ Processing → A
no_processing fixed fed v c at =
    ⊎_elim
    (λ (x : (frames_fed fed ≡ []) × ((alloc : Global) × (v ≡ fresh alloc fixed.version fixed.options))). absurd (let z : WaitingStart ≡ Processing = sym (ap (λ w. w.phase) x.1.1) ∙ at in cc))
    (λ (b : Begun fixed fed v).
    ⊎_elim
    (λ (x : StillWaits (setup_for fixed b.start) (record { entries = b.state; coverage = coverage_of b.start.partial }) b.aside b.start.known_entries [] [] b.others v). absurd (let z : WaitingReplayEntries ≡ Processing = sym (ap (λ w. w.phase) x.machine) ∙ at in cc))
    (λ (x : HasAll (setup_for fixed b.start) (record { entries = b.state; coverage = coverage_of b.start.partial }) b.aside b.start.known_entries [] [] b.others v). absurd (let z : Replaying ≡ Processing = sym (ap (λ w. w.phase) x.machine) ∙ at in cc))
    b.waits)
    c

module _ (fixed : Fixed) (handle : NotificationHandle) (exit : RunExitResult) (policy : RetryPolicy) (old new : Record) (came : HasCome fixed old) where
  abbrev OldCame : Type 0
  OldCame = JournalCame fixed (heard fixed.version old) old.answers old.taken old.vm

  -- where a result is proposed the handler has read its input
  has_come : ProposesOne handle old new → OldCame
  has_come p = ⊎_elim (λ (b : BeforeInput fixed (heard fixed.version old) old.answers old.waiting old.taken old.vm). no_processing fixed (heard fixed.version old) old.vm.machine (b.comes p.live) p.phase) (λ (c : OldCame). c) came

  is_live : ProposesOne handle old new → IsLive old.vm.machine
  is_live p = record { failure = p.live; phase = ap is_running p.phase }

  abbrev further : ProposesOne handle old new → List ProposeRunCompletion
  further p = acknowledged_from fixed.version (kept_as p.id p.result ∷ [])

  -- the machine, for the version of the attempt
  machine_is : (p : ProposesOne handle old new) → proposed p.id p.result (without_run handle old.vm.machine) ≡ proposed_in handle (further p) (proposal p.id p.result) old.vm.machine
  machine_is p = proposed_is handle p.id p.result old.vm.machine ∙ ap (λ v. proposed_in handle (acknowledged_from v (kept_as p.id p.result ∷ [])) (proposal p.id p.result) old.vm.machine) ((has_come p).made_for (is_live p)).0

  heard_is : (p : ProposesOne handle old new) → heard fixed.version (proposed_to handle p.id p.result old) ≡ and_proposed (heard fixed.version old) (further p)
  heard_is p = ap (λ ps. record { pieces = old.fed; proposed = ps }) (acknowledged_more fixed.version old.proposed (kept_as p.id p.result ∷ []))

  -- what holds of the VM in this form, and of what was received, holds of them as the record has
  -- them
  told_of : (T : Heard → View → Type 0) (p : ProposesOne handle old new) → T (and_proposed (heard fixed.version old) (further p)) (record old.vm { machine = proposed_in handle (further p) (proposal p.id p.result) old.vm.machine }) → T (heard fixed.version (proposed_to handle p.id p.result old)) (proposed_to handle p.id p.result old).vm
  told_of T p t = subst (λ (x : Heard × Machine). T x.0 (record old.vm { machine = x.1 })) (λ i. (sym (heard_is p) i, sym (machine_is p) i)) t

  -- ---- what came

  proposes_comes : ProposesOne handle old new → HasCome fixed new
  proposes_comes p =
      subst (HasCome fixed) (sym p.is)
      (inr (told_of (λ h v. JournalCame fixed h old.answers old.taken v) p (came_proposes fixed (heard fixed.version old) old.answers old.waiting old.taken old.vm (is_live p) p.phase handle p.id p.result (further p) (has_come p))))

  some_failed : (f : FailsBy handle exit policy old new) → is_some f.vm.machine.failure ≡ true
  some_failed f = ap is_some f.fails.failure

  fails_comes : FailsBy handle exit policy old new → HasCome fixed new
  fails_comes f = subst (HasCome fixed) (sym f.is) (dead_same (CameBy fixed) (came_last fixed) fixed old f.vm came f.fails.quiet (some_failed f))

  -- ---- the handler's run

  proposes_keeps : IsKept fixed old → ProposesOne handle old new → IsKept fixed new
  proposes_keeps kept p =
      let c = has_come p in
      subst (IsKept fixed) (sym p.is)
      (⊎_elim
      (λ (b : BeforeInput fixed (heard fixed.version old) old.answers old.waiting old.taken old.vm). absurd (c.answered b.answers))
      (λ (k : HandlerRuns fixed (heard fixed.version old) old.answers old.waiting old.taken old.vm).
      inr (told_of (λ h v. HandlerRuns fixed h old.answers old.waiting old.taken v) p (runs_proposes fixed (heard fixed.version old) old.answers old.waiting old.taken old.vm (is_live p) p.phase handle p.id p.result (further p) c k)))
      kept)

  fails_keeps : IsKept fixed old → FailsBy handle exit policy old new → IsKept fixed new
  fails_keeps kept f = subst (IsKept fixed) (sym f.is) (dead_same (HandlerRuns fixed) (runs_last fixed) fixed old f.vm kept f.fails.quiet (some_failed f))

  proposes_under : IsKeptUnder fixed old → ProposesOne handle old new → IsKeptUnder fixed new
  proposes_under u p q =
      let here : Premises fixed (and_proposed (heard fixed.version old) (further p)) = subst (Premises fixed) (ap (heard fixed.version) p.is ∙ heard_is p) q in
      proposes_keeps (u (premises_less fixed (heard fixed.version old) old.answers old.waiting old.taken old.vm (is_live p) p.phase handle p.id p.result (further p) (has_come p) here)) p

  fails_under : IsKeptUnder fixed old → FailsBy handle exit policy old new → IsKeptUnder fixed new
  fails_under u f q = fails_keeps (u (subst (λ r. Premises fixed (heard fixed.version r)) f.is q)) f

  -- ---- replay

  -- what was shown of the journal is so with a proposal more
  proposes_proves : (p : ProposesOne handle old new) → IsKeptInReplay fixed old → ReplayPremises fixed (heard fixed.version new) → ProvesHistory fixed (heard fixed.version new)
  proposes_proves p u q =
      let same : heard fixed.version new ≡ and_proposed (heard fixed.version old) (further p) = ap (heard fixed.version) p.is ∙ heard_is p in
      let here : ReplayPremises fixed (and_proposed (heard fixed.version old) (further p)) = subst (ReplayPremises fixed) same q in
      let before = replays_less fixed (heard fixed.version old) old.answers old.waiting old.taken old.vm (is_live p) p.phase handle p.id p.result (further p) (has_come p) here in
      subst (ProvesHistory fixed) (sym same)
      (⊎_elim
      (λ (b : BeforeInput fixed (heard fixed.version old) old.answers old.waiting old.taken old.vm). absurd ((has_come p).answered b.answers))
      (λ (k : InReplay fixed (heard fixed.version old) old.answers old.waiting old.taken old.vm).
      let h = k.proves p.live p.phase in
      record { journal = journal_as (heard fixed.version old) (further p) h.journal; history = h.history })
      (u before))

  -- a result is proposed only if no recorded command is left
  proposes_in_replay : IsKeptInReplay fixed old → ProposesOne handle old new → IsKeptInReplay fixed new
  proposes_in_replay u p q =
      ⊎_elim
      (λ (b : BeforeInput fixed (heard fixed.version new) new.answers new.waiting new.taken new.vm). inl b)
      (λ (c : JournalCame fixed (heard fixed.version new) new.answers new.taken new.vm).
      inr (record {
        came = c;
        run = λ alive at. absurd (let z : Processing ≡ Replaying = sym p.phase ∙ ap (λ (w : Machine). w.phase) (sym (machine_is p)) ∙ ap (λ (r : Record). r.vm.machine.phase) (sym p.is) ∙ at in cc);
        proves = λ alive at. proposes_proves p u q;
      }))
      (proposes_comes p)

  fails_in_replay : IsKeptInReplay fixed old → FailsBy handle exit policy old new → IsKeptInReplay fixed new
  fails_in_replay u f q =
      subst (KeptBy (InReplay fixed) fixed) (sym f.is)
      (dead_same (InReplay fixed) (replay_last fixed) fixed old f.vm (u (subst (λ r. ReplayPremises fixed (heard fixed.version r)) f.is q)) f.fails.quiet (some_failed f))

  -- ---- why it failed

  -- a result was refused, or memory ran out
  refuses_for : (fed : Heard) (said : Said) (answers : List Answer) → said.failed_by ≡ Some handle → (f : FailsBy handle exit policy old new) → (old.vm.machine.version ≡ fixed.version) → (old.vm.machine.options ≡ fixed.options) → KeptBlame fixed fed said answers f.error
  refuses_for fed said answers told f ver opt =
      ⊎_elim
      (λ (x : f.error ≡ no_memory). Memory x)
      (λ (x : Refuses handle exit policy old.vm.machine f.error).
      RunResult (record { handle = handle; is_told = told; exit = exit; policy = policy; machine = old.vm.machine; left = x.left; why = x.why; proposes = x.proposes; version_is = ver; error = x.error ∙ λ i. ruled_by (ver i) (opt i) x.why }))
      f.fails.why

  proposes_blames : IsBlamed fixed old → ProposesOne handle old new → IsBlamed fixed new
  proposes_blames b p =
      subst (IsBlamed fixed) (sym p.is)
      (alive_blamed fixed old.over (heard fixed.version (proposed_to handle p.id p.result old)) (all_said old) old.answers (proposed_to handle p.id p.result old).vm.machine
      (ap (λ (w : Machine). w.failure) (machine_is p) ∙ p.live)
      (λ closed. absurd (let z : Processing ≡ Closed = sym p.phase ∙ ap (λ (w : Machine). w.phase) (sym (machine_is p)) ∙ closed in cc)))

  fails_blames : IsBlamed fixed old → FailsBy handle exit policy old new → IsBlamed fixed new
  fails_blames b f = subst (IsBlamed fixed) (sym f.is) (by_over old.over refl)
    where
      by_over : (over : Option Progress) → old.over ≡ over → IsBlamed fixed (with_vm f.vm (noting handle old))
      by_over (Some p) is = subst (λ o. BlamedAt fixed o (heard fixed.version old) (all_said (noting handle old)) old.answers f.vm.machine) (sym is) (over_blamed fixed p (heard fixed.version old) (all_said (noting handle old)) old.answers f.vm.machine)
      by_over None is =
          let stands = come_stands fixed old came f.live (b.open_yet is f.live) in
          error_blamed fixed old.over (heard fixed.version old) (all_said (noting handle old)) old.answers f.vm.machine f.error f.fails.failure (refuses_for (heard fixed.version old) (all_said (noting handle old)) old.answers refl f stands.1.0 stands.1.1)

  -- ---- after the end

  proposes_late : IsLate fixed old → ProposesOne handle old new → IsLate fixed new
  proposes_late l p = subst (IsLate fixed) (sym p.is) (by_over old.over l)
    where
      by_over : (over : Option Progress) → LateBy over fixed old → LateBy over fixed (proposed_to handle p.id p.result old)
      by_over None k = k
      by_over (Some made) k = absurd (let z : Processing ≡ Closed = sym p.phase ∙ k.phase p.live in cc)

  fails_late : IsLate fixed old → FailsBy handle exit policy old new → IsLate fixed new
  fails_late l f = subst (IsLate fixed) (sym f.is) (by_over old.over l)
    where
      by_over : (over : Option Progress) → LateBy over fixed old → LateBy over fixed (with_vm f.vm (noting handle old))
      by_over None k = k
      by_over (Some made) k =
          let for = k.made_for f.live in
          record {
            phase = λ none. none_some f.error (sym none ∙ f.fails.failure);
            place = λ none. none_some f.error (sym none ∙ f.fails.failure);
            made_for = λ none. none_some f.error (sym none ∙ f.fails.failure);
            tail = λ none. none_some f.error (sym none ∙ f.fails.failure);
            blame = λ e some. subst (KeptBlame fixed (all_heard fixed.version old) (all_said (noting handle old)) old.answers) (same_Some f.error e (sym f.fails.failure ∙ some)) (refuses_for (all_heard fixed.version old) (all_said (noting handle old)) old.answers refl f for.0 for.1);
          }

  -- ---- a suspension

  proposes_sleeps : IsLate fixed old → StillSleeps fixed old → ProposesOne handle old new → StillSleeps fixed new
  proposes_sleeps l s p =
      subst (StillSleeps fixed) (sym p.is)
      (λ q made over.
      let k = subst (λ o. LateBy o fixed old) over l in
      absurd (let z : Processing ≡ Closed = sym p.phase ∙ k.phase p.live in cc))

  fails_sleeps : StillSleeps fixed old → FailsBy handle exit policy old new → StillSleeps fixed new
  fails_sleeps s f = subst (StillSleeps fixed) (sym f.is) (still_quiet fixed old f.vm f.fails.quiet s)

-- ---- the call

module _ (fixed : Fixed) (handle : NotificationHandle) (exit : RunExitResult) (policy : RetryPolicy) (old : Record) (result : Result Unit Error) (new : Record) (came : HasCome fixed old) (does : FinishDoes old.starved handle exit policy old result new) where
  by_case : (K : Record → Type 0) → K old → (ProposesOne handle old new → K new) → (FailsBy handle exit policy old new → K new) → K new
  by_case K = in_case handle exit policy old result new does K

  pub finish_comes : HasCome fixed new
  finish_comes = by_case (HasCome fixed) came (proposes_comes fixed handle exit policy old new came) (fails_comes fixed handle exit policy old new came)

  -- the handler's run goes on, under any premises
  pub finish_keeps : IsKept fixed old → IsKept fixed new
  finish_keeps kept = by_case (IsKept fixed) kept (proposes_keeps fixed handle exit policy old new came kept) (fails_keeps fixed handle exit policy old new came kept)

  pub finish_under : IsKeptUnder fixed old → IsKeptUnder fixed new
  finish_under u = by_case (IsKeptUnder fixed) u (proposes_under fixed handle exit policy old new came u) (fails_under fixed handle exit policy old new came u)

  pub finish_in_replay : IsKeptInReplay fixed old → IsKeptInReplay fixed new
  finish_in_replay u = by_case (IsKeptInReplay fixed) u (proposes_in_replay fixed handle exit policy old new came u) (fails_in_replay fixed handle exit policy old new came u)

  pub finish_blames : IsBlamed fixed old → IsBlamed fixed new
  finish_blames b = by_case (IsBlamed fixed) b (proposes_blames fixed handle exit policy old new came b) (fails_blames fixed handle exit policy old new came b)

  pub finish_late : IsLate fixed old → IsLate fixed new
  finish_late l = by_case (IsLate fixed) l (proposes_late fixed handle exit policy old new came l) (fails_late fixed handle exit policy old new came l)

  pub finish_sleeps : IsLate fixed old → StillSleeps fixed old → StillSleeps fixed new
  finish_sleeps l s = by_case (StillSleeps fixed) s (proposes_sleeps fixed handle exit policy old new came l s) (fails_sleeps fixed handle exit policy old new came s)

-- ---- runs

-- once a run's result is reported, neither this run nor another can be handed out more often
pub finish_lives : (handle : NotificationHandle) (exit : RunExitResult) (policy : RetryPolicy) (old : Record) (result : Result Unit Error) (new : Record) → FinishDoes old.starved handle exit policy old result new → LivesOn old.vm.machine new.vm.machine × (new.over ≡ old.over)
finish_lives handle exit policy old result new does =
    in_case handle exit policy old result new does K ((λ none. (none, fewer_same old.vm.machine)), refl)
    (λ p. subst K (sym p.is) ((λ none. (p.live, subst (Fewer old.vm.machine) (sym (proposed_is handle p.id p.result old.vm.machine)) (ended_fewer handle old.vm.machine))), refl))
    (λ f. subst K (sym f.is) ((λ none. none_some f.error (sym none ∙ f.fails.failure)), refl))
  where
    K : Record → Type 0
    K r = LivesOn old.vm.machine r.vm.machine × (r.over ≡ old.over)

-- ---- what the call leaves of the record

-- What was fed and taken stays, what was proposed and written begins what is now, and an attempt whose VM is alive is as it was or has
-- proposed a result in Processing.
pub record Finished (old new : Record) : Type 0 where
  pub fed : new.fed ≡ old.fed
  pub taken : new.taken ≡ old.taken
  pub proposed : IsPrefix old.proposed new.proposed
  pub output : IsPrefix old.vm.machine.output new.vm.machine.output
  pub starved : new.starved ≡ old.starved
  pub alive : new.vm.machine.failure ≡ None → (new.vm.machine ≡ old.vm.machine) ⊎ ((old.vm.machine.failure ≡ None) × (old.vm.machine.phase ≡ Processing))

finished_same : (old new : Record) → new ≡ old → Finished old new
finished_same old new e = record {
  fed = ap (λ r. r.fed) e;
  taken = ap (λ r. r.taken) e;
  proposed = ([], ap (λ r. r.proposed) e ∙ sym (append-nil old.proposed));
  output = ([], ap (λ r. r.vm.machine.output) e ∙ sym (append-nil old.vm.machine.output));
  starved = ap (λ r. r.starved) e;
  alive = λ _. inl (ap (λ r. r.vm.machine) e);
}

finished_one : (handle : NotificationHandle) (old new : Record) → ProposesOne handle old new → Finished old new
finished_one handle old new p = record {
  fed = ap (λ r. r.fed) p.is;
  taken = ap (λ r. r.taken) p.is;
  proposed = (kept_as p.id p.result ∷ [], ap (λ r. r.proposed) p.is);
  output = (encoding (proposal p.id p.result) ∷ [], ap (λ r. r.vm.machine.output) p.is ∙ ap (λ (v : Machine). v.output) (proposed_is handle p.id p.result old.vm.machine));
  starved = ap (λ r. r.starved) p.is;
  alive = λ _. inr (p.live, p.phase);
}

finished_dead : (handle : NotificationHandle) (exit : RunExitResult) (policy : RetryPolicy) (old new : Record) → FailsBy handle exit policy old new → Finished old new
finished_dead handle exit policy old new f = record {
  fed = ap (λ r. r.fed) f.is;
  taken = ap (λ r. r.taken) f.is;
  proposed = ([], ap (λ r. r.proposed) f.is ∙ sym (append-nil old.proposed));
  output = (map encoding f.fails.quiet.messages, ap (λ r. r.vm.machine.output) f.is ∙ f.fails.quiet.output);
  starved = ap (λ r. r.starved) f.is;
  alive = λ none. none_some f.error (sym none ∙ ap (λ (r : Record). r.vm.machine.failure) f.is ∙ f.fails.failure);
}

pub finished : (handle : NotificationHandle) (exit : RunExitResult) (policy : RetryPolicy) (old : Record) (result : Result Unit Error) (new : Record) → FinishDoes old.starved handle exit policy old result new → Finished old new
finished handle exit policy old result new does = in_case handle exit policy old result new does (Finished old) (finished_same old old refl) (finished_one handle old new) (finished_dead handle exit policy old new)

-- ---- an error

abbrev an_error : Error → Result Unit Error
an_error e = Err e

same_error : (d e : Error) → an_error d ≡ an_error e → d ≡ e
same_error d e h = cc

-- the error that is answered is out of memory, or the VM's
pub error_is : (handle : NotificationHandle) (exit : RunExitResult) (policy : RetryPolicy) (old : Record) (e : Error) (new : Record) → FinishDoes old.starved handle exit policy old (Err e) new → (e ≡ no_memory) ⊎ (new.vm.machine.failure ≡ Some e)
error_is handle exit policy old e new does = by_test old.starved does
  where
    by_failure : (f : Option Error) → old.vm.machine.failure ≡ f → ReportsRunResult handle exit policy old (Err e) new → (e ≡ no_memory) ⊎ (new.vm.machine.failure ≡ Some e)
    by_failure (Some first) dead (w, does, is) =
        let said = first_proposed handle exit policy (Err e) first old.vm w dead does in
        ⊎_elim
        (λ (x : Err e ≡ Err first). inr (ap (λ (r : Record). r.vm.machine.failure) is ∙ ap (λ (v : View). v.machine.failure) said.1 ∙ dead ∙ ap (λ d. Some d) (sym (same_error e first x))))
        (λ (x : Err e ≡ Err no_memory). inl (same_error e no_memory x))
        said.0
    by_failure None live (w, does, is) =
        ⊎_elim
        (λ (x : CalledBy (Proposes handle exit policy old.vm.machine) old.vm.machine (Failed e w.machine)). inr (ap (λ (r : Record). r.vm.machine.failure) is ∙ (tells_err handle exit policy old.vm.machine e w.machine live x).failure))
        (λ (x : IsStarved old.vm.machine e w.machine). inl x.error)
        does.0

    by_test : (b : Bool) → FinishDoes b handle exit policy old (Err e) new → (e ≡ no_memory) ⊎ (new.vm.machine.failure ≡ Some e)
    by_test true d = inl (same_error e no_memory d.0)
    by_test false d = by_failure old.vm.machine.failure refl d

-- the VM of an attempt has failed for a reason
failed_for : (fixed : Fixed) (r : Record) (e : Error) → IsBlamed fixed r → IsLate fixed r → r.vm.machine.failure ≡ Some e → KeptBlame fixed (all_heard fixed.version r) (all_said r) r.answers e
failed_for fixed r e b l some = by_over r.over refl l
  where
    by_over : (over : Option Progress) → r.over ≡ over → LateBy over fixed r → KeptBlame fixed (all_heard fixed.version r) (all_said r) r.answers e
    by_over None going none = subst (λ fed. KeptBlame fixed fed (all_said r) r.answers e) (ap (λ l. with_pieces l (heard fixed.version r)) (sym (append-nil r.fed) ∙ ap (λ l. r.fed ++ l) (sym none))) (b.blame going e some)
    by_over (Some made) over k = k.blame e some

-- an error has a reason
pub finish_blame : (fixed : Fixed) (handle : NotificationHandle) (exit : RunExitResult) (policy : RetryPolicy) (old : Record) (result : Result Unit Error) (new : Record) → FinishDoes old.starved handle exit policy old result new → IsBlamed fixed new → IsLate fixed new
    → IfErr result (λ e. KeptBlame fixed (all_heard fixed.version new) (all_said new) new.answers e)
finish_blame fixed handle exit policy old (Ok t) new does b l = tt
finish_blame fixed handle exit policy old (Err e) new does b l =
    ⊎_elim
    (λ (x : e ≡ no_memory). Memory x)
    (λ (x : new.vm.machine.failure ≡ Some e). failed_for fixed new e b l x)
    (error_is handle exit policy old e new does)

-- ---- the fields, and the record

noted_with : (ps : List ProposeRunCompletion) (o : Option Error) (handle : NotificationHandle) (r : Record) → with_proposed ps (noted_at o handle r) ≡ noted_at o handle (with_proposed ps r)
noted_with ps (Some e) handle r = refl
noted_with ps None handle r = refl

noted_at_taken : (o : Option Error) (handle : NotificationHandle) (r : Record) → (noted_at o handle r).taken ≡ r.taken
noted_at_taken (Some e) handle r = refl
noted_at_taken None handle r = refl

noted_taken : (result : Result Unit Error) (handle : NotificationHandle) (r : Record) → (failed_run_noted result handle r).taken ≡ r.taken
noted_taken (Ok t) handle r = refl
noted_taken (Err e) handle r = noted_at_taken r.vm.machine.failure handle r

-- what it does to the fields, where what is written is read, is what it does to the record
pub finish_told : (fixed : Fixed) (handle : NotificationHandle) (exit : RunExitResult) (policy : RetryPolicy) (old : Record) (result : Result Unit Error) (new : Record) → HasCome fixed (with_proposed (all_proposed old) old) → WholeFrames old.vm.machine.output → WholeFrames new.vm.machine.output
    → TellsUnless old.starved handle exit policy old result new → FinishDoes old.starved handle exit policy (with_proposed (all_proposed old) old) result (with_proposed (all_proposed new) new)
finish_told fixed handle exit policy old result new came f g does = by_test old.starved does
  where
    -- what was proposed is read from what was taken and from what waits
    told_to : (result : Result Unit Error) (w : View) → new ≡ with_vm w (failed_run_noted result handle old) → all_proposed new ≡ proposals_in (concat old.taken ++ concat w.machine.output)
    told_to result w is = ap all_proposed is ∙ ap (λ t. proposals_in (concat t ++ concat w.machine.output)) (noted_taken result handle old)

    -- the record is noted as the fields are
    noted_err : (w : View) → new ≡ with_vm w (noted_at old.vm.machine.failure handle old) → all_proposed new ≡ all_proposed old → with_proposed (all_proposed new) new ≡ with_vm w (noted_at old.vm.machine.failure handle (with_proposed (all_proposed old) old))
    noted_err w is told = (λ i. with_proposed (told i) (is i)) ∙ ap (with_vm w) (noted_with (all_proposed old) old.vm.machine.failure handle old)

    quiet_told : (result : Result Unit Error) (w : View) → new ≡ with_vm w (failed_run_noted result handle old) → (ms : List Message) → w.machine.output ≡ old.vm.machine.output ++ map encoding ms → all_proposed new ≡ all_proposed old ++ proposals_among (map stored_form ms)
    quiet_told result w is ms output =
        let wrote = wrote_of fixed (with_proposed (all_proposed old) old) came in
        told_to result w is
        ∙ proposes_more old.taken old.vm.machine.output w.machine.output wrote.0 wrote.1 f (subst WholeFrames (ap (λ (r : Record). r.vm.machine.output) is) g) ms output

    same_told : (result : Result Unit Error) (w : View) → new ≡ with_vm w (failed_run_noted result handle old) → w.machine.output ≡ old.vm.machine.output → all_proposed new ≡ all_proposed old
    same_told result w is output = told_to result w is ∙ ap (λ o. proposals_in (concat old.taken ++ concat o)) output

    ok_told : (w : View) → new ≡ with_vm w old → (w.machine ≡ old.vm.machine) ⊎ IsProposed handle old.vm.machine w.machine → all_proposed new ≡ all_proposed old ++ newly_proposed old.vm.machine w.machine
    ok_told w is =
        ⊎_elim
        (λ (x : w.machine ≡ old.vm.machine).
        same_told (Ok tt) w is (ap (λ (v : Machine). v.output) x) ∙ sym (append-nil (all_proposed old)) ∙ ap (λ l. all_proposed old ++ l) (sym (none_newly old.vm.machine)) ∙ ap (λ v. all_proposed old ++ newly_proposed old.vm.machine v) (sym x))
        (λ (x : IsProposed handle old.vm.machine w.machine).
        quiet_told (Ok tt) w is (proposal x.id x.result ∷ []) (ap (λ (v : Machine). v.output) x.machine)
        ∙ ap (λ l. all_proposed old ++ l) (proposes_one (record { id = x.id; result = x.result }) x.whole ∙ sym (one_newly handle x.id x.result old.vm.machine x.whole))
        ∙ ap (λ v. all_proposed old ++ newly_proposed old.vm.machine v) (sym x.machine))

    err_told : (e : Error) (w : View) → new ≡ with_vm w (noted_at old.vm.machine.failure handle old) → Quiet old.vm.machine w.machine → all_proposed new ≡ all_proposed old
    err_told e w is q = quiet_told (Err e) w is q.messages q.output ∙ ap (λ l. all_proposed old ++ l) q.proposals ∙ append-nil (all_proposed old)

    by_failure : (o : Option Error) → old.vm.machine.failure ≡ o → (result : Result Unit Error) → ReportsRunResult handle exit policy old result new → CompletesRun handle exit policy (with_proposed (all_proposed old) old) result (with_proposed (all_proposed new) new)
    by_failure (Some e) dead (Ok t) (w, does, is) =
        let first = first_proposed handle exit policy (Ok t) e old.vm w dead does in
        absurd (⊎_elim (λ (x : Ok t ≡ Err e). let z : ⊥ = cc in z) (λ (x : Ok t ≡ Err no_memory). let z : ⊥ = cc in z) first.0)
    by_failure (Some e) dead (Err d) (w, does, is) =
        let first = first_proposed handle exit policy (Err d) e old.vm w dead does in
        (w, does, noted_err w is (same_told (Err d) w is (ap (λ (v : View). v.machine.output) first.1)))
    by_failure None live (Ok t) (w, does, is) =
        (w, does, λ i. with_proposed (ok_told w is (tells_ok handle exit policy old.vm.machine t w.machine live does.0) i) (is i))
    by_failure None live (Err e) (w, does, is) =
        let fails =
        ⊎_elim
        (λ (x : CalledBy (Proposes handle exit policy old.vm.machine) old.vm.machine (Failed e w.machine)). tells_err handle exit policy old.vm.machine e w.machine live x)
        (λ (x : IsStarved old.vm.machine e w.machine). starves handle exit policy old.vm.machine e w.machine live x)
        does.0
        in
        (w, does, noted_err w is (err_told e w is fails.quiet))

    by_test : (b : Bool) → TellsUnless b handle exit policy old result new → FinishDoes b handle exit policy (with_proposed (all_proposed old) old) result (with_proposed (all_proposed new) new)
    by_test true d = (d.0, ap (λ (r : Record). with_proposed (all_proposed r) r) d.1)
    by_test false d = by_failure old.vm.machine.failure refl result d
