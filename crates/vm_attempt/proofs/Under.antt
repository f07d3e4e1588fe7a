-- What an attempt keeps under the premises: they hold of a beginning of what was fed where they hold of all.
use Rattle.std.proofs.Common.{◌≡◌, ◌≢◌, ◌⊎◌, ◌≤◌, ◌+◌, length, length-append, arith, ℕ, Bool, true, false, List, [], ◌∷◌, ◌++◌, Option, Some, None, Result, Ok, Err, refl, sym, ap, ◌∙◌, subst, inl, inr, ⊎_elim}
use Rattle.std.specs.declared.alloc.AllocError.{AllocError}
use Rattle.journal_protocol.specs.Error.{Error}
use Rattle.journal_protocol.specs.Notification.{Notification}
use Rattle.await_arrivals.specs.Results.{results_of}
use Rattle.await_arrivals.proofs.Awaited.{results-append}
use Rattle.journal_protocol.specs.NotificationId.TheVariants.{CompletionId}
use Rattle.journal_protocol.specs.NotificationResult.{NotificationResult}
use Rattle.journal_protocol.specs.Version.{Version}
use Rattle.vm_machine.specs.declared.phase.Phase.{Phase}
use Rattle.vm_machine.specs.declared.phase.Phase.TheVariants.{WaitingStart, WaitingReplayEntries, Replaying, Processing, Closed}
use Rattle.journal_entries.specs.Frames.{frames_of}
use Rattle.journal_entries.proofs.Cuts.{frames_of-append}
use Rattle.vm_model.specs.Calls.{Meaning}
use Rattle.vm_model.specs.Deliveries.{HasNoTwo, deliveries}
use Rattle.vm_model.specs.Histories.{Handed}
use Rattle.vm_model.specs.Moves.{Point, later}
use Rattle.vm_attempt.specs.Heard.{Heard, and_piece}
use Rattle.vm_attempt.specs.declared.progress.Fed.{Fed}
use Rattle.vm_attempt.specs.declared.progress.Progress.{Progress}
use Rattle.vm_attempt.specs.Journals.{setup_for}
use Rattle.vm_attempt.specs.Record.{Record, heard}
use Rattle.vm_attempt.specs.Stepping.{Advances, MakesStep, CloseDoes, InputIsClosed, FeedDoes, FeedsPiece, LacksMemory, InputIsRead, StepAt, StepDoes, StepFrom, StepUnless, Takes, with_piece_kept, kept_at, step_asked, future_in, replied, with_vm}
use Rattle.vm_attempt.specs.Told.{IsKeptUnder, Premises, HandlerRuns, bytes_fed, frames_fed, start_state}
use Rattle.vm_attempt.specs.declared.progress.Reply.{Reply}
use Rattle.vm_attempt.specs.declared.progress.Reply.TheVariants as reply
use Rattle.await_trees.specs.declared.tree.UnresolvedFuture.{UnresolvedFuture}
use Rattle.invocation_vm.specs.Views.{StarvesAmong, View, messages_in_bytes}
use Rattle.vm_attempt.proofs.Advanced.{step_keeps}
use Rattle.vm_attempt.proofs.Kept.{close_keeps, feed_keeps, take_keeps}
use Rattle.vm_attempt.proofs.Lasting.{runs_last}
use Rattle.vm_attempt.proofs.Pieces.{bytes_behind, journal_to, more_arrivals, more_frames, run_to}
use Rattle.vm_model.specs.Fixed.{Fixed}

-- ---- a beginning of what was fed

-- if no completion has two results at a point with further arrivals, none has at the point without
-- them
pub fewer_waiting : (p : Point) (ns : List Notification) → HasNoTwo (later ns p) → HasNoTwo p
fewer_waiting p ns two i =
    let long = length-append (results_of (CompletionId i) p.queue) (results_of (CompletionId i) ns) in
    let all = subst (λ (rs : List NotificationResult). length (deliveries (CompletionId i) p.derived.usage) + length rs ≤ 1) (results-append (CompletionId i) p.queue ns) (two i) in
    omega (arith, long, all)

-- the premises hold before a piece comes where they hold with it
pub premises_before : (fixed : Fixed) (fed : Heard) (f : Fed) → Premises fixed (and_piece fed f) → Premises fixed fed
premises_before fixed fed f p =
    let G = more_frames (frames_of (bytes_fed fed)) f.piece in
    let frames : frames_fed (and_piece fed f) ≡ frames_fed fed ++ G.0 = ap (λ l. (frames_of l).0) (bytes_behind fed f) ∙ ap (λ p. p.0) (frames_of-append (bytes_fed fed) f.piece) ∙ G.1 in
    record {
      replays = p.replays;
      queues = p.queues;
      once = λ j n made q run.
          fewer_waiting q (more_arrivals j G.0)
          (p.once (journal_to fed (fed.pieces ++ f ∷ []) G.0 frames j) n made (later (more_arrivals j G.0) q) (run_to (setup_for fixed j.start) fixed.handler (Handed (start_state j)) fed j G.0 n made q run));
    }

-- ---- what was fed

-- what was fed stays, or one piece more was kept
abbrev pub Grows : Heard → Heard → Type 0
Grows old new = (new ≡ old) ⊎ ((f : Fed) × (new ≡ and_piece old f))

pub premises_of : (fixed : Fixed) (old new : Heard) → Grows old new → Premises fixed new → Premises fixed old
premises_of fixed old new g p =
    ⊎_elim
    (λ (x : new ≡ old). subst (Premises fixed) x p)
    (λ (x : (f : Fed) × (new ≡ and_piece old f)). premises_before fixed old x.0 (subst (Premises fixed) x.1 p))
    g

module _ (version : Version) where
  kept_grows : (o : Option Error) (ph : Phase) (piece : List ℕ) (r : Record) → Grows (heard version r) (heard version (kept_at o ph piece r))
  kept_grows (Some e) ph piece r = inl refl
  kept_grows None WaitingStart piece r = inr (_, refl)
  kept_grows None WaitingReplayEntries piece r = inr (_, refl)
  kept_grows None Replaying piece r = inr (_, refl)
  kept_grows None Processing piece r = inr (_, refl)
  kept_grows None Closed piece r = inl refl

  feeds_grow : (piece : List ℕ) (old : Record) (result : Result Unit AllocError) (new : Record) → FeedsPiece piece old result new → Grows (heard version old) (heard version new)
  feeds_grow piece old (Ok t) new does = subst (λ (r : Record). Grows (heard version old) (heard version r)) (sym does) (kept_grows old.vm.machine.failure old.vm.machine.phase piece old)
  feeds_grow piece old (Err e) new does =
      ⊎_elim
      (λ (x : new ≡ record old { starved = true }). inl (ap (heard version) x))
      (λ (x : (w : View) × StarvesAmong (messages_in_bytes old.vm piece) old.vm.machine w.machine × (new ≡ with_vm w (with_piece_kept piece old))). subst (λ (r : Record). Grows (heard version old) (heard version r)) (sym x.2) (kept_grows old.vm.machine.failure old.vm.machine.phase piece old))
      does

  pub feed_grows : (piece : List ℕ) (old : Record) (result : Result Unit AllocError) (new : Record) → FeedDoes old.starved piece old result new → Grows (heard version old) (heard version new)
  feed_grows piece old result new does = by_test old.starved does
    where
      by_test : (b : Bool) → FeedDoes b piece old result new → Grows (heard version old) (heard version new)
      by_test true d = inl (ap (heard version) d.1)
      by_test false d = feeds_grow piece old result new d

  closes_fed : (old : Record) (result : Result Unit AllocError) (new : Record) → InputIsClosed old result new → (heard version new) ≡ (heard version old)
  closes_fed old (Ok t) new does = ap (heard version) does
  closes_fed old (Err e) new does = ap (heard version) does.2

  pub close_fed : (old : Record) (result : Result Unit AllocError) (new : Record) → CloseDoes old.starved old result new → (heard version new) ≡ (heard version old)
  close_fed old result new does = by_test old.starved does
    where
      by_test : (b : Bool) → CloseDoes b old result new → (heard version new) ≡ (heard version old)
      by_test true d = ap (heard version) d.1
      by_test false d = closes_fed old result new d

  pub take_fed : (old : Record) (result : Result (List ℕ) AllocError) (new : Record) → Takes old result new → (heard version new) ≡ (heard version old)
  take_fed old (Ok bytes) new does = ap (heard version) does.1
  take_fed old (Err e) new does = ap (heard version) does

  pub settled_fed : (r : Record) (future : Option UnresolvedFuture) (x : Result Reply Error) (w : View) → heard version (replied r future x w) ≡ (heard version r)
  settled_fed r future (Ok (reply.Answer a)) w = refl
  settled_fed r future (Ok (reply.Waiting input run)) w = refl
  settled_fed r future (Ok (reply.Execute run)) w = refl
  settled_fed r future (Ok reply.Suspended) w = refl
  settled_fed r future (Ok reply.Ended) w = refl
  settled_fed r future (Err e) w = refl

  reads_fed : (old : Record) (result : Result Progress Error) (new : Record) → InputIsRead old result new → (heard version new) ≡ (heard version old)
  reads_fed old (Ok made) new does = ap (heard version) does.1.3
  reads_fed old (Err e) new does = ap (heard version) does.2

  advances_fed : (m : Meaning) (old : Record) (result : Result Progress Error) (new : Record) → Advances m old result new → (heard version new) ≡ (heard version old)
  advances_fed m old result new =
      ⊎_elim
      (λ (x : LacksMemory old result new). ap (heard version) x.1)
      (λ (o : ((old.answers ≡ []) × InputIsRead old result new) ⊎ ((old.answers ≢ []) × MakesStep m old result new)).
      ⊎_elim
      (λ (x : (old.answers ≡ []) × InputIsRead old result new). reads_fed old result new x.1)
      (λ (x : (old.answers ≢ []) × MakesStep m old result new). ap (heard version) x.1.3 ∙ settled_fed old (future_in (step_asked m old)) x.1.0 x.1.1)
      o)

  step_at_fed : (ph : Phase) (m : Meaning) (old : Record) (result : Result Progress Error) (new : Record) → StepAt ph m old result new → (heard version new) ≡ (heard version old)
  step_at_fed WaitingStart m old result new d = ap (heard version) d.1
  step_at_fed WaitingReplayEntries m old result new d = ap (heard version) d.1
  step_at_fed Closed m old result new d = ap (heard version) d.1
  step_at_fed Replaying m old result new d = advances_fed m old result new d
  step_at_fed Processing m old result new d = advances_fed m old result new d

  step_unless_fed : (f : Option Error) (over : Option Progress) (m : Meaning) (old : Record) (result : Result Progress Error) (new : Record) → StepUnless f over m old result new → (heard version new) ≡ (heard version old)
  step_unless_fed (Some e) over m old result new d = ap (heard version) d.1
  step_unless_fed None (Some made) m old result new d = ap (heard version) d.1
  step_unless_fed None None m old result new d = step_at_fed old.vm.machine.phase m old result new d

  pub step_fed : (m : Meaning) (old : Record) (result : Result Progress Error) (new : Record) → StepDoes m old result new → (heard version new) ≡ (heard version old)
  step_fed m old result new does = by_test old.starved does
    where
      by_test : (b : Bool) → StepFrom b m old result new → (heard version new) ≡ (heard version old)
      by_test true d = ap (heard version) d.1
      by_test false d = step_unless_fed old.vm.machine.failure old.over m old result new d

-- ---- each call

pub feed_under : (fixed : Fixed) (piece : List ℕ) (old : Record) (result : Result Unit AllocError) (new : Record) → IsKeptUnder fixed old → FeedDoes old.starved piece old result new → IsKeptUnder fixed new
feed_under fixed piece old result new u does p = feed_keeps (HandlerRuns fixed) (runs_last fixed) fixed piece old result new (u (premises_of fixed (heard fixed.version old) (heard fixed.version new) (feed_grows fixed.version piece old result new does) p)) does

pub close_under : (fixed : Fixed) (old : Record) (result : Result Unit AllocError) (new : Record) → IsKeptUnder fixed old → CloseDoes old.starved old result new → IsKeptUnder fixed new
close_under fixed old result new u does p = close_keeps (HandlerRuns fixed) (runs_last fixed) fixed old result new (u (premises_of fixed (heard fixed.version old) (heard fixed.version new) (inl (close_fed fixed.version old result new does)) p)) does

pub take_under : (fixed : Fixed) (old : Record) (result : Result (List ℕ) AllocError) (new : Record) → IsKeptUnder fixed old → Takes old result new → IsKeptUnder fixed new
take_under fixed old result new u does p = take_keeps (HandlerRuns fixed) (runs_last fixed) fixed old result new (u (premises_of fixed (heard fixed.version old) (heard fixed.version new) (inl (take_fed fixed.version old result new does)) p)) does

pub step_under : (fixed : Fixed) (old : Record) (result : Result Progress Error) (new : Record) → IsKeptUnder fixed old → StepDoes fixed.handler old result new → IsKeptUnder fixed new
step_under fixed old result new u does p =
    let before = premises_of fixed (heard fixed.version old) (heard fixed.version new) (inl (step_fed fixed.version fixed.handler old result new does)) p in
    step_keeps fixed old result new before (u before) does
