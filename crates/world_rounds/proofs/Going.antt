-- What the events of a round do to what its attempt was fed and what was taken from it.
use Rattle.std.proofs.Common.{◌≡◌, ◌≢◌, ◌⊎◌, inl, inr, ⊎_elim, ℕ, Bool, true, false, List, [], ◌∷◌, ◌++◌, Option, Some, None, Result, Ok, Err, refl, sym, ap, ◌∙◌, subst, append_assoc, append-nil}
use Rattle.std.specs.Prelude.{is_some, IsSome}
use Rattle.std.specs.declared.alloc.AllocError.{AllocError}
use Rattle.journal_protocol.specs.Error.{Error}
use Rattle.await_trees.specs.declared.tree.UnresolvedFuture.{UnresolvedFuture}
use Rattle.await_trees.specs.declared.handle.NotificationHandle.{NotificationHandle}
use Rattle.vm_retries.specs.declared.policy.RetryPolicy.{RetryPolicy}
use Rattle.vm_types.specs.declared.runs.RunExitResult.{RunExitResult}
use Rattle.vm_machine.specs.declared.machine.Machine.{Machine}
use Rattle.vm_machine.specs.declared.phase.Phase.{Phase}
use Rattle.vm_machine.specs.declared.phase.Phase.TheVariants.{WaitingStart, WaitingReplayEntries, Replaying, Processing, Closed}
use Rattle.vm_machine.specs.Inputs.{close_step, closed_at}
use Rattle.vm_machine.specs.Outcomes.{called, called_at, settled}
use Rattle.invocation_vm.specs.Views.{View, after_closing, after_input, left_by}
use Rattle.invocation_vm.proofs.Feeds.{among_failed}
use Rattle.vm_model.specs.Calls.{Meaning}
use Rattle.vm_model.specs.Histories.{IsPrefix}
use Rattle.vm_attempt.specs.declared.progress.Fed.{Fed}
use Rattle.vm_attempt.specs.declared.progress.Progress.{Progress}
use Rattle.vm_attempt.specs.declared.progress.Reply.{Reply}
use Rattle.vm_attempt.specs.declared.progress.Reply.TheVariants as reply
use Rattle.vm_attempt.specs.Record.{Record}
use Rattle.vm_attempt.specs.Stepping.{Advances, CloseDoes, FeedDoes, FeedsPiece, FinishDoes, InputIsRead, StepAt, StepDoes, StepFrom, StepUnless, fed_now, future_in, kept_at, noted_at, replied, step_asked, with_vm}
use Rattle.vm_attempt.specs.Told.{bytes_in}
use Rattle.vm_attempt.proofs.Finishing.{Finished, finished}
use Rattle.vm_attempt.proofs.Kept.{closed_input, piece_dropped}
use Rattle.vm_attempt.proofs.Pieces.{pieces_behind}

-- the attempt takes input: nothing has stopped it
pub record IsOpen (r : Record) : Type 0 where
  pub starved : r.starved ≡ false
  pub failure : r.vm.machine.failure ≡ None
  pub phase : r.vm.machine.phase ≢ Closed

-- the attempt keeps what it is fed, as long as no memory was wanting and its VM hasn't failed
pub record Hears (r : Record) : Type 0 where
  pub starved : r.starved ≡ false
  pub failure : r.vm.machine.failure ≡ None

-- all bytes that it kept, also those that came once its VM was closed
abbrev pub all_fed : Record → List ℕ
all_fed r = bytes_in (r.fed ++ r.late)

-- ---- a step leaves what was fed and taken, and opens nothing

pub record Stepped (r new : Record) : Type 0 where
  pub fed : new.fed ≡ r.fed
  pub late : new.late ≡ r.late
  pub hears : Hears new → Hears r
  pub taken : new.taken ≡ r.taken
  pub proposed : IsPrefix r.proposed new.proposed
  pub opens : IsOpen new → IsOpen r

-- a list that stays the same begins itself
pub same_prefix : {A : Type 0} (old new : List A) → new ≡ old → IsPrefix old new
same_prefix old new e = ([], e ∙ sym (append-nil old))

pub prefix_then : {A : Type 0} (xs ys zs : List A) → IsPrefix xs ys → IsPrefix ys zs → IsPrefix xs zs
prefix_then xs ys zs (a, e) (b, f) = (a ++ b, f ∙ ap (λ l. l ++ b) e ∙ append_assoc xs a b)

same_stepped : (r new : Record) → new ≡ r → Stepped r new
same_stepped r new e = record { fed = ap (λ x. x.fed) e; late = ap (λ x. x.late) e; hears = λ o. subst Hears e o; taken = ap (λ x. x.taken) e; proposed = same_prefix r.proposed new.proposed (ap (λ x. x.proposed) e); opens = λ o. subst IsOpen e o }

replied_fed : (r : Record) (future : Option UnresolvedFuture) (answer : Result Reply Error) (w : View) → ((replied r future answer w).fed ≡ r.fed) × ((replied r future answer w).taken ≡ r.taken) × ((replied r future answer w).proposed ≡ r.proposed) × ((replied r future answer w).late ≡ r.late)
replied_fed r future (Ok (reply.Answer a)) w = (refl, refl, refl, refl)
replied_fed r future (Ok (reply.Waiting input run)) w = (refl, refl, refl, refl)
replied_fed r future (Ok (reply.Execute run)) w = (refl, refl, refl, refl)
replied_fed r future (Ok reply.Suspended) w = (refl, refl, refl, refl)
replied_fed r future (Ok reply.Ended) w = (refl, refl, refl, refl)
replied_fed r future (Err e) w = (refl, refl, refl, refl)

reads_fed : (r : Record) (result : Result Progress Error) (new : Record) → InputIsRead r result new → (new.fed ≡ r.fed) × (new.taken ≡ r.taken) × (new.proposed ≡ r.proposed) × (new.late ≡ r.late)
reads_fed r (Ok g) new h = (ap (λ x. x.fed) h.1.3, ap (λ x. x.taken) h.1.3, ap (λ x. x.proposed) h.1.3, ap (λ x. x.late) h.1.3)
reads_fed r (Err f) new h = (ap (λ x. x.fed) h.2, ap (λ x. x.taken) h.2, ap (λ x. x.proposed) h.2, ap (λ x. x.late) h.2)

advances_fed : (m : Meaning) (r : Record) (result : Result Progress Error) (new : Record) → Advances m r result new → (new.fed ≡ r.fed) × (new.taken ≡ r.taken) × (new.proposed ≡ r.proposed) × (new.late ≡ r.late)
advances_fed m r result new (inl h) = (ap (λ x. x.fed) h.1, ap (λ x. x.taken) h.1, ap (λ x. x.proposed) h.1, ap (λ x. x.late) h.1)
advances_fed m r result new (inr (inl h)) = reads_fed r result new h.1
advances_fed m r result new (inr (inr h)) =
    let s = replied_fed r (future_in (step_asked m r)) h.1.0 h.1.1 in
    (ap (λ x. x.fed) h.1.3 ∙ s.0, ap (λ x. x.taken) h.1.3 ∙ s.1, ap (λ x. x.proposed) h.1.3 ∙ s.2, ap (λ x. x.late) h.1.3 ∙ s.3)

advances_stepped : (m : Meaning) (r : Record) (result : Result Progress Error) (new : Record) → IsOpen r → Advances m r result new → Stepped r new
advances_stepped m r result new o h = let f = advances_fed m r result new h in record { fed = f.0; late = f.3; hears = λ _. record { starved = o.starved; failure = o.failure }; taken = f.1; proposed = same_prefix r.proposed new.proposed f.2; opens = λ _. o }

step_at : (m : Meaning) (r : Record) (result : Result Progress Error) (new : Record) (ph : Phase) → r.vm.machine.phase ≡ ph → r.starved ≡ false → r.vm.machine.failure ≡ None → StepAt ph m r result new → Stepped r new
step_at m r result new WaitingStart e s f h = same_stepped r new h.1
step_at m r result new WaitingReplayEntries e s f h = same_stepped r new h.1
step_at m r result new Closed e s f h = same_stepped r new h.1
step_at m r result new Replaying e s f h = advances_stepped m r result new (record { starved = s; failure = f; phase = λ c. let z : Replaying ≡ Closed = sym e ∙ c in cc }) h
step_at m r result new Processing e s f h = advances_stepped m r result new (record { starved = s; failure = f; phase = λ c. let z : Processing ≡ Closed = sym e ∙ c in cc }) h

step_unless : (m : Meaning) (r : Record) (result : Result Progress Error) (new : Record) (failure : Option Error) (over : Option Progress) → r.vm.machine.failure ≡ failure → r.starved ≡ false → StepUnless failure over m r result new → Stepped r new
step_unless m r result new (Some e) over f s h = same_stepped r new h.1
step_unless m r result new None (Some made) f s h = same_stepped r new h.1
step_unless m r result new None None f s h = step_at m r result new r.vm.machine.phase refl s f h

pub stepped : (m : Meaning) (r : Record) (result : Result Progress Error) (new : Record) → StepDoes m r result new → Stepped r new
stepped m r result new h = by_test r.starved refl h
  where
    by_test : (b : Bool) → r.starved ≡ b → StepFrom b m r result new → Stepped r new
    by_test true e d = same_stepped r new d.1
    by_test false e d = step_unless m r result new r.vm.machine.failure r.over refl e d

-- ---- what feeding does to what was fed

-- the piece was kept, or the attempt is shut
abbrev pub Takes : List ℕ → Record → Record → Type 0
Takes piece r new = ((bytes_in new.fed ≡ bytes_in r.fed) × (IsOpen new → ⊥)) ⊎ (IsOpen r × (bytes_in new.fed ≡ bytes_in r.fed ++ piece))

failed_shut : (r : Record) → IsSome r.vm.machine.failure → IsOpen r → ⊥
failed_shut r dead o = let z : false ≡ true = ap is_some (sym o.failure) ∙ dead in cc

failed_deaf : (r : Record) → IsSome r.vm.machine.failure → Hears r → ⊥
failed_deaf r dead o = let z : false ≡ true = ap is_some (sym o.failure) ∙ dead in cc

fed_kept : (r new : Record) (piece : List ℕ) (f : Fed) → f.piece ≡ piece → IsOpen r → new.fed ≡ r.fed ++ f ∷ [] → Takes piece r new
fed_kept r new piece f is o e = inr (o, ap bytes_in e ∙ pieces_behind r.fed f ∙ ap (λ l. bytes_in r.fed ++ l) is)

open_by : (r : Record) (ph : Phase) → r.starved ≡ false → r.vm.machine.failure ≡ None → r.vm.machine.phase ≡ ph → (ph ≡ Closed → ⊥) → IsOpen r
open_by r ph s f e n = record { starved = s; failure = f; phase = λ c. n (sym e ∙ c) }

-- the VM took the piece, or found no memory
vm_takes : (r : Record) (piece : List ℕ) (w : View) (o : Option Error) (ph : Phase) → r.starved ≡ false → r.vm.machine.failure ≡ o → r.vm.machine.phase ≡ ph → (IsSome w.machine.failure ⊎ (w ≡ after_input r.vm piece)) → Takes piece r (with_vm w (kept_at o ph piece r))
vm_takes r piece w (Some e) ph s f p h = inl (refl, λ n. ⊎_elim (λ (d : IsSome w.machine.failure). failed_shut (with_vm w r) d n) (λ (d : w ≡ after_input r.vm piece). failed_shut (with_vm w r) (ap (λ (v : View). is_some v.machine.failure) (d ∙ piece_dropped r.vm piece e f) ∙ ap is_some f) n) h)
vm_takes r piece w None Closed s f p h = inl (refl, λ n. ⊎_elim (λ (d : IsSome w.machine.failure). failed_shut (with_vm w (kept_at None Closed piece r)) d n) (λ (d : w ≡ after_input r.vm piece). n.phase (ap (λ (v : View). v.machine.phase) d ∙ closed_input r.vm piece p)) h)
vm_takes r piece w None WaitingStart s f p h = fed_kept r _ piece _ refl (open_by r WaitingStart s f p (λ z. cc)) refl
vm_takes r piece w None WaitingReplayEntries s f p h = fed_kept r _ piece _ refl (open_by r WaitingReplayEntries s f p (λ z. cc)) refl
vm_takes r piece w None Replaying s f p h = fed_kept r _ piece _ refl (open_by r Replaying s f p (λ z. cc)) refl
vm_takes r piece w None Processing s f p h = fed_kept r _ piece _ refl (open_by r Processing s f p (λ z. cc)) refl

feeds_taken : (r : Record) (piece : List ℕ) (w : View) (o : Option Error) (ph : Phase) → ((with_vm w (kept_at o ph piece r)).taken ≡ r.taken) × ((with_vm w (kept_at o ph piece r)).proposed ≡ r.proposed)
feeds_taken r piece w (Some e) ph = (refl, refl)
feeds_taken r piece w None Closed = (refl, refl)
feeds_taken r piece w None WaitingStart = (refl, refl)
feeds_taken r piece w None WaitingReplayEntries = (refl, refl)
feeds_taken r piece w None Replaying = (refl, refl)
feeds_taken r piece w None Processing = (refl, refl)

feeds : (piece : List ℕ) (r : Record) (result : Result Unit AllocError) (new : Record) → r.starved ≡ false → FeedsPiece piece r result new → Takes piece r new × (new.taken ≡ r.taken) × (new.proposed ≡ r.proposed)
feeds piece r (Ok t) new s d = (subst (Takes piece r) (sym d) (vm_takes r piece (after_input r.vm piece) r.vm.machine.failure r.vm.machine.phase s refl refl (inr refl)), ap (λ x. x.taken) d ∙ (feeds_taken r piece (after_input r.vm piece) r.vm.machine.failure r.vm.machine.phase).0, ap (λ x. x.proposed) d ∙ (feeds_taken r piece (after_input r.vm piece) r.vm.machine.failure r.vm.machine.phase).1)
feeds piece r (Err e) new s (inl d) = (inl (ap (λ x. bytes_in x.fed) d, λ o. let z : true ≡ false = sym (ap (λ x. x.starved) d) ∙ o.starved in cc), ap (λ x. x.taken) d, ap (λ x. x.proposed) d)
feeds piece r (Err e) new s (inr (w, dead, d)) = (subst (Takes piece r) (sym d) (vm_takes r piece w r.vm.machine.failure r.vm.machine.phase s refl refl (inl (among_failed _ r.vm.machine w.machine dead))), ap (λ x. x.taken) d ∙ (feeds_taken r piece w r.vm.machine.failure r.vm.machine.phase).0, ap (λ x. x.proposed) d ∙ (feeds_taken r piece w r.vm.machine.failure r.vm.machine.phase).1)

pub fed : (piece : List ℕ) (r : Record) (result : Result Unit AllocError) (new : Record) → FeedDoes r.starved piece r result new → Takes piece r new × (new.taken ≡ r.taken) × (new.proposed ≡ r.proposed)
fed piece r result new h = by_test r.starved refl h
  where
    by_test : (b : Bool) → r.starved ≡ b → FeedDoes b piece r result new → Takes piece r new × (new.taken ≡ r.taken) × (new.proposed ≡ r.proposed)
    by_test true e d = (inl (ap (λ x. bytes_in x.fed) d.1, λ o. let z : true ≡ false = sym (ap (λ x. x.starved) d.1 ∙ e) ∙ o.starved in cc), ap (λ x. x.taken) d.1, ap (λ x. x.proposed) d.1)
    by_test false e d = feeds piece r result new e d

-- ---- all that was fed

-- the piece was kept, or the attempt keeps none any more
abbrev pub TakesAll : List ℕ → Record → Record → Type 0
TakesAll piece r new = ((all_fed new ≡ all_fed r) × (Hears new → ⊥)) ⊎ (Hears r × (all_fed new ≡ all_fed r ++ piece))

-- the same, and as long as the attempt takes input nothing came late
abbrev KeepsAll : List ℕ → Record → Record → Type 0
KeepsAll piece r new = TakesAll piece r new × (IsOpen new → new.late ≡ [])

-- a piece is kept before the VM is closed
open_keeps : (r new : Record) (piece : List ℕ) (f : Fed) → f.piece ≡ piece → Hears r → r.late ≡ [] → new.fed ≡ r.fed ++ f ∷ [] → new.late ≡ r.late → KeepsAll piece r new
open_keeps r new piece f is hears none fed late =
    let before : all_fed r ≡ bytes_in r.fed = ap (λ l. bytes_in (r.fed ++ l)) none ∙ ap bytes_in (append-nil r.fed) in
    let behind : all_fed new ≡ bytes_in (r.fed ++ f ∷ []) = (λ i. bytes_in (fed i ++ (late ∙ none) i)) ∙ ap bytes_in (append-nil (r.fed ++ f ∷ [])) in
    (inr (hears, behind ∙ pieces_behind r.fed f ∙ (λ i. sym before i ++ is i)), λ _. late ∙ none)

vm_keeps : (r : Record) (piece : List ℕ) (w : View) (o : Option Error) (ph : Phase) → r.starved ≡ false → r.vm.machine.failure ≡ o → r.vm.machine.phase ≡ ph → (IsOpen r → r.late ≡ []) → (IsSome w.machine.failure ⊎ (w ≡ after_input r.vm piece)) → KeepsAll piece r (with_vm w (kept_at o ph piece r))
vm_keeps r piece w (Some e) ph s f p none h =
    let dead : IsSome w.machine.failure = ⊎_elim (λ (d : IsSome w.machine.failure). d) (λ (d : w ≡ after_input r.vm piece). ap (λ (v : View). is_some v.machine.failure) (d ∙ piece_dropped r.vm piece e f) ∙ ap is_some f) h in
    (inl (refl, failed_deaf (with_vm w r) dead), λ n. absurd (failed_shut (with_vm w r) dead n))
vm_keeps r piece w None Closed s f p none h = (
  inr (record { starved = s; failure = f }, ap bytes_in (sym (append_assoc r.fed r.late (fed_now piece r ∷ []))) ∙ pieces_behind (r.fed ++ r.late) (fed_now piece r)),
  λ n. absurd (⊎_elim (λ (d : IsSome w.machine.failure). failed_shut (with_vm w (kept_at None Closed piece r)) d n) (λ (d : w ≡ after_input r.vm piece). n.phase (ap (λ (v : View). v.machine.phase) d ∙ closed_input r.vm piece p)) h),
)
vm_keeps r piece w None WaitingStart s f p none h = open_keeps r _ piece _ refl (record { starved = s; failure = f }) (none (open_by r WaitingStart s f p (λ z. cc))) refl refl
vm_keeps r piece w None WaitingReplayEntries s f p none h = open_keeps r _ piece _ refl (record { starved = s; failure = f }) (none (open_by r WaitingReplayEntries s f p (λ z. cc))) refl refl
vm_keeps r piece w None Replaying s f p none h = open_keeps r _ piece _ refl (record { starved = s; failure = f }) (none (open_by r Replaying s f p (λ z. cc))) refl refl
vm_keeps r piece w None Processing s f p none h = open_keeps r _ piece _ refl (record { starved = s; failure = f }) (none (open_by r Processing s f p (λ z. cc))) refl refl

feeds_keep : (piece : List ℕ) (r : Record) (result : Result Unit AllocError) (new : Record) → r.starved ≡ false → (IsOpen r → r.late ≡ []) → FeedsPiece piece r result new → KeepsAll piece r new
feeds_keep piece r (Ok t) new s none d = subst (KeepsAll piece r) (sym d) (vm_keeps r piece (after_input r.vm piece) r.vm.machine.failure r.vm.machine.phase s refl refl none (inr refl))
feeds_keep piece r (Err e) new s none (inl d) =
    (inl (ap all_fed d, λ o. let z : true ≡ false = sym (ap (λ x. x.starved) d) ∙ o.starved in cc), λ o. absurd (let z : true ≡ false = sym (ap (λ x. x.starved) d) ∙ o.starved in cc))
feeds_keep piece r (Err e) new s none (inr (w, dead, d)) = subst (KeepsAll piece r) (sym d) (vm_keeps r piece w r.vm.machine.failure r.vm.machine.phase s refl refl none (inl (among_failed _ r.vm.machine w.machine dead)))

pub keeps_all : (piece : List ℕ) (r : Record) (result : Result Unit AllocError) (new : Record) → (IsOpen r → r.late ≡ []) → FeedDoes r.starved piece r result new → KeepsAll piece r new
keeps_all piece r result new none h = by_test r.starved refl h
  where
    by_test : (b : Bool) → r.starved ≡ b → FeedDoes b piece r result new → KeepsAll piece r new
    by_test true e d = (inl (ap all_fed d.1, λ o. let z : true ≡ false = sym (ap (λ x. x.starved) d.1 ∙ e) ∙ o.starved in cc), λ o. absurd (let z : true ≡ false = sym (ap (λ x. x.starved) d.1 ∙ e) ∙ o.starved in cc))
    by_test false e d = feeds_keep piece r result new e none d

-- ---- closing

closing_hears : (r : Record) (new : Record) → new ≡ record r { closed = true; vm = after_closing r.vm } → (o : Option Error) → r.vm.machine.failure ≡ o → Hears new → r.vm.machine.failure ≡ None
unfolding called
closing_hears r new is (Some e) f o =
    let z : Some e ≡ None = sym (ap (λ x. x.vm.machine.failure) is ∙ ap (λ t. (left_by (called_at t (close_step r.vm.machine) r.vm.machine)).failure) f ∙ f) ∙ o.failure in cc
closing_hears r new is None f o = f

closing_opens : (r : Record) (new : Record) → new ≡ record r { closed = true; vm = after_closing r.vm } → (o : Option Error) → r.vm.machine.failure ≡ o → (ph : Phase) → r.vm.machine.phase ≡ ph → IsOpen new → (r.vm.machine.failure ≡ None) × (r.vm.machine.phase ≢ Closed)
unfolding called
closing_opens r new is (Some e) f ph p o =
    let z : Some e ≡ None = sym (ap (λ x. x.vm.machine.failure) is ∙ ap (λ t. (left_by (called_at t (close_step r.vm.machine) r.vm.machine)).failure) f ∙ f) ∙ o.failure in cc
closing_opens r new is None f ph p o = (f, λ c. o.phase (ap (λ x. x.vm.machine.phase) is ∙ ap (λ t. (left_by (called_at t (close_step r.vm.machine) r.vm.machine)).phase) f ∙ ap (λ t. (left_by (settled (closed_at t (record r.vm.machine { input_closed = true })))).phase) c ∙ c))

pub closes : (r : Record) (result : Result Unit AllocError) (new : Record) → CloseDoes r.starved r result new → Stepped r new
closes r result new h = by_test r.starved refl result h
  where
    by_test : (b : Bool) → r.starved ≡ b → (result : Result Unit AllocError) → CloseDoes b r result new → Stepped r new
    by_test true e result d = same_stepped r new d.1
    by_test false e (Ok t) d = record {
      fed = ap (λ x. x.fed) d;
      late = ap (λ x. x.late) d;
      hears = λ o. record { starved = e; failure = closing_hears r new d r.vm.machine.failure refl o };
      taken = ap (λ x. x.taken) d;
      proposed = same_prefix r.proposed new.proposed (ap (λ x. x.proposed) d);
      opens = λ o. let h = closing_opens r new d r.vm.machine.failure refl r.vm.machine.phase refl o in record { starved = e; failure = h.0; phase = h.1 };
    }
    by_test false e (Err f) d = record {
      fed = ap (λ x. x.fed) d.2;
      late = ap (λ x. x.late) d.2;
      hears = λ o. absurd (failed_deaf new (ap (λ x. is_some x.vm.machine.failure) d.2 ∙ among_failed _ r.vm.machine d.0.machine d.1) o);
      taken = ap (λ x. x.taken) d.2;
      proposed = same_prefix r.proposed new.proposed (ap (λ x. x.proposed) d.2);
      opens = λ o. absurd (failed_shut new (ap (λ x. is_some x.vm.machine.failure) d.2 ∙ among_failed _ r.vm.machine d.0.machine d.1) o);
    }

-- ---- the attempt gets a run's result

noted_late : (o : Option Error) (handle : NotificationHandle) (r : Record) → (noted_at o handle r).late ≡ r.late
noted_late (Some e) handle r = refl
noted_late None handle r = refl

finish_late : (handle : NotificationHandle) (exit : RunExitResult) (policy : RetryPolicy) (r : Record) (result : Result Unit Error) (new : Record) → FinishDoes r.starved handle exit policy r result new → new.late ≡ r.late
finish_late handle exit policy r result new h = by_test r.starved result h
  where
    by_test : (b : Bool) (result : Result Unit Error) → FinishDoes b handle exit policy r result new → new.late ≡ r.late
    by_test true result d = ap (λ x. x.late) d.1
    by_test false (Ok t) (w, calls, is) = ap (λ x. x.late) is
    by_test false (Err e) (w, calls, is) = ap (λ x. x.late) is ∙ noted_late r.vm.machine.failure handle r

pub finishes : (handle : NotificationHandle) (exit : RunExitResult) (policy : RetryPolicy) (r : Record) (result : Result Unit Error) (new : Record) → FinishDoes r.starved handle exit policy r result new → Stepped r new
finishes handle exit policy r result new h =
    let f = finished handle exit policy r result new h in
    record { fed = f.fed; late = finish_late handle exit policy r result new h; hears = λ o. hears f o; taken = f.taken; proposed = f.proposed; opens = λ o. opens f o }
  where
    hears : Finished r new → Hears new → Hears r
    hears f o = record {
      starved = sym f.starved ∙ o.starved;
      failure = ⊎_elim
          (λ (same : new.vm.machine ≡ r.vm.machine). sym (ap (λ (v : Machine). v.failure) same) ∙ o.failure)
          (λ (x : (r.vm.machine.failure ≡ None) × (r.vm.machine.phase ≡ Processing)). x.0)
          (f.alive o.failure);
    }

    opens : Finished r new → IsOpen new → IsOpen r
    opens f o =
        ⊎_elim
        (λ (same : new.vm.machine ≡ r.vm.machine). record { starved = sym f.starved ∙ o.starved; failure = sym (ap (λ (v : Machine). v.failure) same) ∙ o.failure; phase = λ c. o.phase (ap (λ (v : Machine). v.phase) same ∙ c) })
        (λ (x : (r.vm.machine.failure ≡ None) × (r.vm.machine.phase ≡ Processing)). open_by r Processing (sym f.starved ∙ o.starved) x.0 x.1 (λ z. cc))
        (f.alive o.failure)
