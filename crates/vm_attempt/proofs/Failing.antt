-- The call that failed the VM, and the run that an attempt's record names as that whose result did.
use Rattle.std.proofs.Common.{◌≡◌, ◌≢◌, ◌⊎◌, ◌++◌, [], ℕ, zero, suc, Bool, true, false, List, Option, Some, None, Result, Ok, Err, refl, sym, ap, ◌∙◌, subst, inl, inr, ⊎_elim, Global}
use Rattle.std.specs.Prelude.{is_some, if◌then◌else◌}
use Rattle.std.specs.declared.alloc.AllocError.{AllocError}
use Rattle.await_trees.specs.declared.handle.NotificationHandle.{NotificationHandle}
use Rattle.journal_protocol.specs.Error.{Error}
use Rattle.std.proofs.lemmas.Option.{same_Some}
use Rattle.vm_machine.specs.declared.machine.Machine.{Machine}
use Rattle.vm_machine.specs.declared.phase.Phase.{Phase}
use Rattle.vm_machine.specs.declared.phase.Phase.TheVariants.{WaitingStart, WaitingReplayEntries, Replaying, Processing, Closed}
use Rattle.journal_entries.specs.Frames.{frames_of}
use Rattle.invocation_vm.specs.Views.{StarvesAmong, View, after_input, consumed, messages_in_bytes}
use Rattle.vm_model.specs.Calls.{Meaning}
use Rattle.vm_model.specs.Fixed.{Fixed}
use Rattle.vm_attempt.specs.declared.progress.Progress.{Progress}
use Rattle.vm_attempt.specs.declared.progress.Reply.{Reply}
use Rattle.vm_attempt.specs.declared.progress.Reply.TheVariants as reply
use Rattle.await_trees.specs.declared.tree.UnresolvedFuture.{UnresolvedFuture}
use Rattle.vm_attempt.specs.Record.{Record}
use Rattle.vm_attempt.specs.Stepping.{Advances, CloseDoes, FeedDoes, FeedsPiece, FinishDoes, InputIsClosed, InputIsRead, LacksMemory, MakesStep, StepAt, StepDoes, StepFrom, StepUnless, Takes, future_in, kept_at, replied, step_asked, with_piece_kept, with_vm}
use Rattle.vm_attempt.specs.Courses.{FailedByCall, FailedByResult, Leads, OneCall, first_record}
use Rattle.vm_attempt.specs.Courses.OneCall.{Feeding, Closing, Stepping, Telling, Taking}
use Rattle.vm_attempt.proofs.Blamed.{closing_not, none_some}
use Rattle.vm_attempt.proofs.Finishing.{FailsNow, Stays as StaysTold, finish_fails}

-- the run that is noted stays, and so does the first failure
abbrev pub Stays : Record → Record → Type 0
Stays old new = (new.failed_by ≡ old.failed_by) × ((e : Error) → old.vm.machine.failure ≡ Some e → new.vm.machine.failure ≡ Some e)

stays_same : (old new : Record) → new ≡ old → Stays old new
stays_same old new is = (ap (λ (r : Record). r.failed_by) is, λ e some. ap (λ (r : Record). r.vm.machine.failure) is ∙ some)

-- ---- a piece, and closing

kept_by : (o : Option Error) (ph : Phase) (piece : List ℕ) (r : Record) → (kept_at o ph piece r).failed_by ≡ r.failed_by
kept_by (Some e) ph piece r = refl
kept_by None WaitingStart piece r = refl
kept_by None WaitingReplayEntries piece r = refl
kept_by None Replaying piece r = refl
kept_by None Processing piece r = refl
kept_by None Closed piece r = refl

input_not : (v : View) (bytes : List ℕ) (e : Error) → v.machine.failure ≡ Some e → after_input v bytes ≡ v
input_not v bytes e dead = ap (λ o. if is_some o then v else consumed (frames_of (v.undecoded ++ bytes)) v.machine) dead

feeds_stay : (piece : List ℕ) (old : Record) (result : Result Unit AllocError) (new : Record) → FeedsPiece piece old result new → Stays old new
feeds_stay piece old (Ok t) new does = (
  ap (λ (r : Record). r.failed_by) does ∙ kept_by old.vm.machine.failure old.vm.machine.phase piece old,
  λ e some. ap (λ (r : Record). r.vm.machine.failure) does ∙ ap (λ (v : View). v.machine.failure) (input_not old.vm piece e some) ∙ some,
)
feeds_stay piece old (Err x) new does =
    ⊎_elim
    (λ (x : new ≡ record old { starved = true }). (ap (λ (r : Record). r.failed_by) x, λ e some. ap (λ (r : Record). r.vm.machine.failure) x ∙ some))
    (λ (x : (w : View) × StarvesAmong (messages_in_bytes old.vm piece) old.vm.machine w.machine × (new ≡ with_vm w (with_piece_kept piece old))).
    (ap (λ (r : Record). r.failed_by) x.2 ∙ kept_by old.vm.machine.failure old.vm.machine.phase piece old, λ e some. none_some e (sym x.1.lives ∙ some)))
    does

feed_stays : (piece : List ℕ) (old : Record) (result : Result Unit AllocError) (new : Record) → FeedDoes old.starved piece old result new → Stays old new
feed_stays piece old result new does = by_test old.starved does
  where
    by_test : (b : Bool) → FeedDoes b piece old result new → Stays old new
    by_test true d = stays_same old new d.1
    by_test false d = feeds_stay piece old result new d

closes_stay : (old : Record) (result : Result Unit AllocError) (new : Record) → InputIsClosed old result new → Stays old new
closes_stay old (Ok t) new does = (
  ap (λ (r : Record). r.failed_by) does,
  λ e some. ap (λ (r : Record). r.vm.machine.failure) does ∙ ap (λ (m : Machine). m.failure) (sym (closing_not old.vm e some)) ∙ some,
)
closes_stay old (Err x) new (w, starves, is) = (ap (λ (r : Record). r.failed_by) is, λ e some. none_some e (sym starves.lives ∙ some))

close_stays : (old : Record) (result : Result Unit AllocError) (new : Record) → CloseDoes old.starved old result new → Stays old new
close_stays old result new does = by_test old.starved does
  where
    by_test : (b : Bool) → CloseDoes b old result new → Stays old new
    by_test true d = stays_same old new d.1
    by_test false d = closes_stay old result new d

take_stays : (old : Record) (result : Result (List ℕ) AllocError) (new : Record) → Takes old result new → Stays old new
take_stays old (Ok bytes) new does = (ap (λ (r : Record). r.failed_by) does.1, λ e some. ap (λ (r : Record). r.vm.machine.failure) does.1 ∙ some)
take_stays old (Err x) new does = stays_same old new does

-- ---- a step

replied_by : (r : Record) (future : Option UnresolvedFuture) (x : Result Reply Error) (w : View) → (replied r future x w).failed_by ≡ r.failed_by
replied_by r future (Ok (reply.Answer a)) w = refl
replied_by r future (Ok (reply.Waiting input run)) w = refl
replied_by r future (Ok (reply.Execute run)) w = refl
replied_by r future (Ok reply.Suspended) w = refl
replied_by r future (Ok reply.Ended) w = refl
replied_by r future (Err e) w = refl

reads_by : (old : Record) (result : Result Progress Error) (new : Record) → InputIsRead old result new → new.failed_by ≡ old.failed_by
reads_by old (Ok made) new does = ap (λ (r : Record). r.failed_by) does.1.3
reads_by old (Err e) new does = ap (λ (r : Record). r.failed_by) does.2

advances_by : (m : Meaning) (old : Record) (result : Result Progress Error) (new : Record) → Advances m old result new → new.failed_by ≡ old.failed_by
advances_by m old result new =
    ⊎_elim
    (λ (x : LacksMemory old result new). ap (λ (r : Record). r.failed_by) x.1)
    (λ (o : ((old.answers ≡ []) × InputIsRead old result new) ⊎ ((old.answers ≢ []) × MakesStep m old result new)).
    ⊎_elim
    (λ (x : (old.answers ≡ []) × InputIsRead old result new). reads_by old result new x.1)
    (λ (x : (old.answers ≢ []) × MakesStep m old result new). ap (λ (r : Record). r.failed_by) x.1.3 ∙ replied_by old (future_in (step_asked m old)) x.1.0 x.1.1)
    o)

step_at_by : (ph : Phase) (m : Meaning) (old : Record) (result : Result Progress Error) (new : Record) → StepAt ph m old result new → new.failed_by ≡ old.failed_by
step_at_by WaitingStart m old result new d = ap (λ (r : Record). r.failed_by) d.1
step_at_by WaitingReplayEntries m old result new d = ap (λ (r : Record). r.failed_by) d.1
step_at_by Closed m old result new d = ap (λ (r : Record). r.failed_by) d.1
step_at_by Replaying m old result new d = advances_by m old result new d
step_at_by Processing m old result new d = advances_by m old result new d

step_unless_stays : (f : Option Error) (over : Option Progress) (m : Meaning) (old : Record) (result : Result Progress Error) (new : Record) → old.vm.machine.failure ≡ f → StepUnless f over m old result new → Stays old new
step_unless_stays (Some e) over m old result new is d = stays_same old new d.1
step_unless_stays None (Some made) m old result new is d = stays_same old new d.1
step_unless_stays None None m old result new is d = (step_at_by old.vm.machine.phase m old result new d, λ e some. none_some e (sym is ∙ some))

step_stays : (m : Meaning) (old : Record) (result : Result Progress Error) (new : Record) → StepDoes m old result new → Stays old new
step_stays m old result new does = by_test old.starved does
  where
    by_test : (b : Bool) → StepFrom b m old result new → Stays old new
    by_test true d = stays_same old new d.1
    by_test false d = step_unless_stays old.vm.machine.failure old.over m old result new refl d

-- ---- one call after another

call_fails : (m : Meaning) (old new : Record) → OneCall m old new → (e : Error) → old.vm.machine.failure ≡ Some e → new.vm.machine.failure ≡ Some e
call_fails m old new (Feeding piece result does) = (feed_stays piece old result new does).1
call_fails m old new (Closing result does) = (close_stays old result new does).1
call_fails m old new (Stepping result does) = (step_stays m old result new does).1
call_fails m old new (Taking result does) = (take_stays old result new does).1
call_fails m old new (Telling handle exit policy result does) = λ e some.
    ⊎_elim
    (λ (x : StaysTold handle exit policy old new). x.1 e some)
    (λ (x : FailsNow handle exit policy old result new). none_some e (sym x.1 ∙ some))
    (finish_fails handle exit policy old result new does)

leads_fails : (m : Meaning) (n : ℕ) (old new : Record) (e : Error) → Leads m n old new → old.vm.machine.failure ≡ Some e → new.vm.machine.failure ≡ Some e
leads_fails m zero old new e is some = ap (λ (r : Record). r.vm.machine.failure) is ∙ some
leads_fails m (suc n) old new e (mid, call, more) some = leads_fails m n mid new e more (call_fails m old mid call e some)

-- a run that was noted was noted before, or by one of these calls
abbrev Noted : Meaning → Record → Record → NotificationHandle → Type 0
Noted m old new handle = (old.failed_by ≡ Some handle) ⊎ FailedByResult m old new handle

one_more : (m : Meaning) (old mid new : Record) (handle : NotificationHandle) → OneCall m old mid → FailedByResult m mid new handle → FailedByResult m old new handle
one_more m old mid new handle call x = record {
  before = suc x.before;
  old = x.old;
  leads = (mid, call, x.leads);
  live = x.live;
  exit = x.exit;
  policy = x.policy;
  error = x.error;
  new = x.new;
  reports = x.reports;
  after = x.after;
  further = x.further;
  stays = x.stays;
}

noted_at_call : (m : Meaning) (n : ℕ) (old mid new : Record) (handle : NotificationHandle) → OneCall m old mid → Leads m n mid new → mid.failed_by ≡ Some handle → Noted m old new handle
noted_at_call m n old mid new handle (Feeding piece result does) more is = inl (sym (feed_stays piece old result mid does).0 ∙ is)
noted_at_call m n old mid new handle (Closing result does) more is = inl (sym (close_stays old result mid does).0 ∙ is)
noted_at_call m n old mid new handle (Stepping result does) more is = inl (sym (step_stays m old result mid does).0 ∙ is)
noted_at_call m n old mid new handle (Taking result does) more is = inl (sym (take_stays old result mid does).0 ∙ is)
noted_at_call m n old mid new handle (Telling told exit policy result does) more is =
    ⊎_elim
    (λ (x : StaysTold told exit policy old mid). inl (sym x.0 ∙ is))
    (λ (x : FailsNow told exit policy old result mid).
    let same : told ≡ handle = same_Some told handle (sym x.3 ∙ is) in
    inr (record {
      before = 0;
      old = old;
      leads = refl;
      exit = exit;
      policy = policy;
      error = x.0;
      new = mid;
      live = x.1;
      reports = subst (λ h. FinishDoes old.starved h exit policy old (Err x.0) mid) same (subst (λ r. FinishDoes old.starved told exit policy old r mid) x.2 does);
      after = n;
      further = more;
      stays = leads_fails m n mid new x.0 more x.4;
    }))
    (finish_fails told exit policy old result mid does)

leads_noted : (m : Meaning) (n : ℕ) (old new : Record) (handle : NotificationHandle) → Leads m n old new → new.failed_by ≡ Some handle → Noted m old new handle
leads_noted m zero old new handle is noted = inl (ap (λ (r : Record). r.failed_by) (sym is) ∙ noted)
leads_noted m (suc n) old new handle (mid, call, more) noted =
    ⊎_elim
    (λ (x : mid.failed_by ≡ Some handle). noted_at_call m n old mid new handle call more x)
    (λ (x : FailedByResult m mid new handle). inr (one_more m old mid new handle call x))
    (leads_noted m n mid new handle more noted)

pub failed_by_result : (fixed : Fixed) (alloc : Global) (n : ℕ) (r : Record) (handle : NotificationHandle) → Leads fixed.handler n (first_record alloc fixed) r → r.failed_by ≡ Some handle → FailedByResult fixed.handler (first_record alloc fixed) r handle
failed_by_result fixed alloc n r handle leads noted =
    let first = first_record alloc fixed in
    ⊎_elim
    (λ (x : first.failed_by ≡ Some handle). absurd (let z : None ≡ Some handle = x in cc))
    (λ (x : FailedByResult fixed.handler first r handle). x)
    (leads_noted fixed.handler n first r handle leads noted)

-- ---- the call that failed the VM

one_before : (m : Meaning) (old mid last : Record) (e : Error) → OneCall m old mid → FailedByCall m mid last e → FailedByCall m old last e
one_before m old mid last e call x = record {
  before = suc x.before;
  old = x.old;
  leads = (mid, call, x.leads);
  live = x.live;
  new = x.new;
  call = x.call;
  fails = x.fails;
  after = x.after;
  further = x.further;
}

-- from a VM that hasn't failed, one of the calls leads to its error
failed_among : (m : Meaning) (n : ℕ) (old last : Record) (e : Error) → old.vm.machine.failure ≡ None → Leads m n old last → last.vm.machine.failure ≡ Some e → FailedByCall m old last e
failed_among m zero old last e live is some = none_some e (sym live ∙ ap (λ (r : Record). r.vm.machine.failure) (sym is) ∙ some)
failed_among m (suc n) old last e live (mid, call, more) some = by_failure mid.vm.machine.failure refl (λ still. failed_among m n mid last e still more some)
  where
    by_failure : (f : Option Error) → mid.vm.machine.failure ≡ f → (mid.vm.machine.failure ≡ None → FailedByCall m mid last e) → FailedByCall m old last e
    by_failure None still later = one_before m old mid last e call (later still)
    by_failure (Some d) fails later =
        let is : d ≡ e = same_Some d e (sym (leads_fails m n mid last d more fails) ∙ some) in
        record { before = 0; old = old; leads = refl; live = live; new = mid; call = call; fails = fails ∙ ap Some is; after = n; further = more }

pub failed_by_call : (fixed : Fixed) (alloc : Global) (n : ℕ) (r : Record) (e : Error) → Leads fixed.handler n (first_record alloc fixed) r → r.vm.machine.failure ≡ Some e → FailedByCall fixed.handler (first_record alloc fixed) r e
failed_by_call fixed alloc n r e leads some = failed_among fixed.handler n (first_record alloc fixed) r e refl leads some
