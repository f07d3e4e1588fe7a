-- What the calls of an attempt other than its steps keep: feeding, closing the input, taking the output.
use Rattle.std.proofs.Common.{◌≡◌, ◌≢◌, ◌⊎◌, ℕ, Bool, true, false, List, [], ◌∷◌, ◌++◌, Option, Some, None, Result, Ok, Err, refl, sym, ap, ◌∙◌, subst, inl, inr, ⊎_elim, append-nil}
use Rattle.std.specs.Prelude.{if◌then◌else◌, is_some, IsSome}
use Rattle.std.specs.List.{concat}
use Rattle.std.specs.declared.alloc.AllocError.{AllocError}
use Rattle.journal_protocol.specs.Error.{Error}
use Rattle.journal_protocol.specs.RawMessage.{RawMessage}
use Rattle.vm_types.specs.declared.steps.Answer.{Answer}
use Rattle.await_trees.specs.declared.tree.UnresolvedFuture.{UnresolvedFuture}
use Rattle.vm_machine.specs.declared.machine.Machine.{Machine}
use Rattle.vm_machine.specs.declared.phase.Phase.{Phase}
use Rattle.vm_machine.specs.declared.phase.Phase.TheVariants.{WaitingStart, WaitingReplayEntries, Replaying, Processing, Closed}
use Rattle.journal_protocol.specs.Types.{type_number}
use Rattle.std.specs.Prelude.{◌==◌}
use Rattle.std.proofs.Common.{Global}
use Rattle.vm_machine.specs.Inputs.{close_step, closed_at, coverage_of, malformed_step}
use Rattle.vm_parts.specs.Starts.{start_info_of}
use Rattle.vm_machine.specs.Making.{fresh}
use Rattle.vm_machine.specs.Outcomes.{called, called_at, settled}
use Rattle.vm_machine.specs.Phases.{is_running}
use Rattle.journal_entries.specs.Frames.{Tail, Rest, Garbage, frames_of}
use Rattle.invocation_vm.specs.Views.{StarvesAmong, messages_in_bytes, View, after_closing, after_input, all_received, consumed, has_failed, left_by, left_over, received, spoiled}
use Rattle.invocation_vm.proofs.Feeds.{among_failed, among_output}
use Rattle.journal_entries.proofs.Cuts.{frames_of-append}
use Rattle.vm_attempt.specs.Heard.{Heard, and_piece, with_pieces}
use Rattle.vm_attempt.specs.declared.progress.Fed.{Fed}
use Rattle.vm_attempt.specs.Agreement.{Aside}
use Rattle.journal_entries.specs.JournalFrames.{is_command_frame, is_ephemeral, is_notification, is_acknowledgement}
use Rattle.vm_attempt.specs.Journals.{HasAll, StillWaits, setup_for}
use Rattle.vm_attempt.specs.Record.{Record, heard}
use Rattle.vm_attempt.specs.Stepping.{CloseDoes, InputIsClosed, FeedDoes, FeedsPiece, Takes, emptied, with_piece_kept, kept_at, with_vm}
use Rattle.vm_parts.specs.Outboxes.{WholeFrames}
use Rattle.vm_attempt.specs.Told.{BeforeInput, Begun, Comes, IsLive, Quiet, bytes_fed, frames_fed}
use Rattle.vm_attempt.proofs.Arriving.{failed_receives, unknown_step}
use Rattle.vm_attempt.proofs.Entries.{message_by, receives_by}
use Rattle.vm_attempt.proofs.Pieces.{before_fed, bytes_behind, more_frames, not_failed}
use Rattle.vm_attempt.proofs.Written.{takes_wrote}
use Rattle.vm_attempt.proofs.Quiet.{closing_quiet, input_quiet, quiet_same, wrote_quiet}
use Rattle.vm_model.specs.Fixed.{Fixed}

-- ---- a VM that has failed

before_dead : (fixed : Fixed) (fed : Heard) (to : List Fed) (answers : List Answer) (waiting : Option UnresolvedFuture) (taken : List (List ℕ)) (v w : View) → BeforeInput fixed fed answers waiting taken v → Quiet v.machine w.machine → IsSome w.machine.failure → BeforeInput fixed (with_pieces to fed) answers waiting taken w
before_dead fixed fed to answers waiting taken v w b q dead = record {
  answers = b.answers;
  none_proposed = b.none_proposed;
  waits_not = b.waits_not;
  wrote = wrote_quiet taken v.machine w.machine [] q b.wrote;
  comes = λ alive. not_failed w.machine dead alive;
  tail = λ alive. not_failed w.machine dead alive;
}

-- ---- a VM that is closed

closed_by : (raw : RawMessage) (v : Machine) (a b c d : Bool) → (left_by (settled (message_by raw Closed v a b c d))).phase ≡ v.phase
closed_by raw v true b c d = refl
closed_by raw v false true c d = refl
closed_by raw v false false true d = refl
closed_by raw v false false false true = refl
closed_by raw v false false false false = unknown_closed (is_ephemeral raw)
  where
    unknown_closed : (b : Bool) → (left_by (settled (unknown_step b raw Closed v))).phase ≡ v.phase
    unknown_closed true = refl
    unknown_closed false = refl

closed_received : (raw : RawMessage) (v : Machine) → v.phase ≡ Closed → (received raw v).phase ≡ Closed
closed_received raw v closed = by_option v.failure refl
  where
    by_option : (o : Option Error) → v.failure ≡ o → (received raw v).phase ≡ Closed
    by_option (Some e) is = ap (λ w. w.phase) (failed_receives e v raw is) ∙ closed
    by_option None is =
        ap (λ w. w.phase) (receives_by v raw is)
        ∙ ap (λ ph. (left_by (settled (message_by raw ph v (type_number raw.ty == 1) (is_command_frame raw) (is_notification raw) (is_acknowledgement raw)))).phase) closed
        ∙ closed_by raw v (type_number raw.ty == 1) (is_command_frame raw) (is_notification raw) (is_acknowledgement raw)
        ∙ closed

closed_spoiled : (v : Machine) → v.phase ≡ Closed → (spoiled v).phase ≡ Closed
unfolding spoiled called
closed_spoiled v closed = by_option v.failure
  where
    by_option : (o : Option Error) → (left_by (called_at o (malformed_step v) v)).phase ≡ Closed
    by_option (Some e) = closed
    by_option None = closed

pub closed_all : (raws : List RawMessage) (v : Machine) → v.phase ≡ Closed → (all_received raws v).phase ≡ Closed
closed_all [] v closed = closed
closed_all (raw ∷ raws) v closed = closed_all raws (received raw v) (closed_received raw v closed)

closed_left : (t : Tail) (v : Machine) → v.phase ≡ Closed → (left_over t v).machine.phase ≡ Closed
closed_left (Rest bytes) v closed = closed
closed_left Garbage v closed = closed_spoiled v closed

pub closed_input : (v : View) (bytes : List ℕ) → v.machine.phase ≡ Closed → (after_input v bytes).machine.phase ≡ Closed
closed_input v bytes closed = by_test (has_failed v.machine)
  where
    by_test : (b : Bool) → (if b then v else consumed (frames_of (v.undecoded ++ bytes)) v.machine).machine.phase ≡ Closed
    by_test true = closed
    by_test false = let f = frames_of (v.undecoded ++ bytes) in closed_left f.1 (all_received f.0 v.machine) (closed_all f.0 v.machine closed)

-- it doesn't run
pub not_live : {A : Type 0} (v : Machine) → v.phase ≡ Closed → IsLive v → A
not_live v closed live = absurd (let z : false ≡ true = sym (ap is_running closed) ∙ live.phase in cc)

-- before the input no VM is closed
pub open_before : {A : Type 0} (fixed : Fixed) (fed : Heard) (v : Machine) → Comes fixed fed v → v.phase ≡ Closed → A
open_before {A} fixed fed v c closed =
    ⊎_elim
    (λ (x : (frames_fed fed ≡ []) × ((alloc : Global) × (v ≡ fresh alloc fixed.version fixed.options))). absurd (let z : WaitingStart ≡ Closed = sym (ap (λ w. w.phase) x.1.1) ∙ closed in cc))
    (λ (b : Begun fixed fed v).
    ⊎_elim
    (λ (x : StillWaits (setup_for fixed b.start) (record { entries = b.state; coverage = coverage_of b.start.partial }) b.aside b.start.known_entries [] [] b.others v). absurd (let z : WaitingReplayEntries ≡ Closed = sym (ap (λ w. w.phase) x.machine) ∙ closed in cc))
    (λ (x : HasAll (setup_for fixed b.start) (record { entries = b.state; coverage = coverage_of b.start.partial }) b.aside b.start.known_entries [] [] b.others v). absurd (let z : Replaying ≡ Closed = sym (ap (λ w. w.phase) x.machine) ∙ closed in cc))
    b.waits)
    c

-- ---- a piece that is dropped

-- a piece for a VM that has failed
pub piece_dropped : (v : View) (piece : List ℕ) (e : Error) → v.machine.failure ≡ Some e → after_input v piece ≡ v
piece_dropped v piece e is = ap (λ o. if is_some o then v else consumed (frames_of (v.undecoded ++ piece)) v.machine) is

-- ---- the output is taken

-- what came, beside something else
with_aside : (fixed : Fixed) (fed : Heard) (v w : Machine) (b : Begun fixed fed v) (aside : Aside) → aside.start ≡ start_info_of fixed.version fixed.options.fallback_random_seed b.start
    → StillWaits (setup_for fixed b.start) (record { entries = b.state; coverage = coverage_of b.start.partial }) aside b.start.known_entries [] [] b.others w ⊎ HasAll (setup_for fixed b.start) (record { entries = b.state; coverage = coverage_of b.start.partial }) aside b.start.known_entries [] [] b.others w → Begun fixed fed w
with_aside fixed fed v w b aside is waits = record {
  first_frame = b.first_frame;
  others = b.others;
  frames = b.frames;
  start = b.start;
  reads_start = b.reads_start;
  state = b.state;
  reads_state = b.reads_state;
  aside = aside;
  of_start = is;
  waits = waits;
}

comes_emptied : (fixed : Fixed) (fed : Heard) (v : Machine) → Comes fixed fed v → Comes fixed fed (record v { output = [] })
comes_emptied fixed fed v =
    ⊎_elim
    (λ (x : (frames_fed fed ≡ []) × ((alloc : Global) × (v ≡ fresh alloc fixed.version fixed.options))). inl (x.0, (x.1.0, ap (λ (w : Machine). record w { output = [] }) x.1.1)))
    (λ (b : Begun fixed fed v). inr (with_aside fixed fed v (record v { output = [] }) b (record b.aside { output = [] }) b.of_start
    (⊎_elim
    (λ (x : StillWaits (setup_for fixed b.start) (record { entries = b.state; coverage = coverage_of b.start.partial }) b.aside b.start.known_entries [] [] b.others v). inl (record { left = x.left; count = x.count; none_acknowledge = x.none_acknowledge; machine = ap (λ (w : Machine). record w { output = [] }) x.machine }))
    (λ (x : HasAll (setup_for fixed b.start) (record { entries = b.state; coverage = coverage_of b.start.partial }) b.aside b.start.known_entries [] [] b.others v). inr (record { entries = x.entries; others = x.others; split = x.split; none_acknowledge = x.none_acknowledge; count = x.count; machine = ap (λ (w : Machine). record w { output = [] }) x.machine }))
    b.waits)))

comes_closed : (fixed : Fixed) (fed : Heard) (v : Machine) → is_running v.phase ≡ true → Comes fixed fed v → Comes fixed fed (record v { input_closed = true })
comes_closed fixed fed v runs =
    ⊎_elim
    (λ (x : (frames_fed fed ≡ []) × ((alloc : Global) × (v ≡ fresh alloc fixed.version fixed.options))). absurd (let z : false ≡ true = sym (ap (λ w. is_running w.phase) x.1.1) ∙ runs in cc))
    (λ (b : Begun fixed fed v). inr (with_aside fixed fed v (record v { input_closed = true }) b (record b.aside { input_closed = true }) b.of_start
    (⊎_elim
    (λ (x : StillWaits (setup_for fixed b.start) (record { entries = b.state; coverage = coverage_of b.start.partial }) b.aside b.start.known_entries [] [] b.others v). inl (record { left = x.left; count = x.count; none_acknowledge = x.none_acknowledge; machine = ap (λ (w : Machine). record w { input_closed = true }) x.machine }))
    (λ (x : HasAll (setup_for fixed b.start) (record { entries = b.state; coverage = coverage_of b.start.partial }) b.aside b.start.known_entries [] [] b.others v). inr (record { entries = x.entries; others = x.others; split = x.split; none_acknowledge = x.none_acknowledge; count = x.count; machine = ap (λ (w : Machine). record w { input_closed = true }) x.machine }))
    b.waits)))

before_takes : (fixed : Fixed) (fed : Heard) (answers : List Answer) (waiting : Option UnresolvedFuture) (taken : List (List ℕ)) (v : View) → WholeFrames v.machine.output → BeforeInput fixed fed answers waiting taken v → BeforeInput fixed fed answers waiting (taken ++ concat v.machine.output ∷ []) (emptied v)
before_takes fixed fed answers waiting taken v f b = record {
  answers = b.answers;
  none_proposed = b.none_proposed;
  waits_not = b.waits_not;
  wrote = takes_wrote taken v.machine.output [] f b.wrote;
  comes = λ alive. comes_emptied fixed fed v.machine (b.comes alive);
  tail = b.tail;
}

-- ---- the input is closed

before_closes : (fixed : Fixed) (fed : Heard) (answers : List Answer) (waiting : Option UnresolvedFuture) (taken : List (List ℕ)) (v : View) → BeforeInput fixed fed answers waiting taken v → v.machine.failure ≡ None → is_running v.machine.phase ≡ true → BeforeInput fixed fed answers waiting taken (record v { machine = record v.machine { input_closed = true } })
before_closes fixed fed answers waiting taken v b live runs = record {
  answers = b.answers;
  none_proposed = b.none_proposed;
  waits_not = b.waits_not;
  wrote = b.wrote;
  comes = λ alive. comes_closed fixed fed v.machine runs (b.comes live);
  tail = b.tail;
}

closing_dropped : (v : View) (e : Error) → v.machine.failure ≡ Some e → v ≡ after_closing v
unfolding called
closing_dropped v e is = λ i. record v { machine = left_by (called_at (sym is i) (close_step v.machine) v.machine) }

-- closing is noted where the handler runs or the VM is closed, and fails a VM that waits
closing_notes : (v : View) → v.machine.failure ≡ None → (ph : Phase) → v.machine.phase ≡ ph → (left_by (settled (closed_at ph (record v.machine { input_closed = true })))) ≡ (after_closing v).machine
unfolding called
closing_notes v live ph at = λ i. left_by (called_at (sym live i) (closed_at (sym at i) (record v.machine { input_closed = true })) v.machine)

-- ---- what each call keeps

-- a statement of an attempt whose handler has read the input: of what was fed, answered, awaited
-- and taken, and of the VM
abbrev pub Reading : Type 1
Reading = Heard → List Answer → Option UnresolvedFuture → List (List ℕ) → View → Type 0

-- the handler hasn't read its input, or this holds
abbrev pub KeptBy : Reading → Fixed → Record → Type 0
KeptBy R fixed r = BeforeInput fixed (heard fixed.version r) r.answers r.waiting r.taken r.vm ⊎ R (heard fixed.version r) r.answers r.waiting r.taken r.vm

-- It lasts: where the VM has failed or is closed, with further input, where the output is taken, and where the input is closed.
pub record Lasts (R : Reading) : Type 0 where
  pub dead : (fed : Heard) (to : List Fed) (G : List RawMessage) → frames_fed (with_pieces to fed) ≡ frames_fed fed ++ G → (answers : List Answer) (waiting : Option UnresolvedFuture) (taken : List (List ℕ)) (v w : View) → R fed answers waiting taken v → Quiet v.machine w.machine → IsSome w.machine.failure → R (with_pieces to fed) answers waiting taken w
  pub closed : (fed : Heard) (answers : List Answer) (waiting : Option UnresolvedFuture) (taken : List (List ℕ)) (v w : View) → R fed answers waiting taken v → Quiet v.machine w.machine → w.machine.phase ≡ Closed → R fed answers waiting taken w
  pub more : (fed : Heard) (answers : List Answer) (waiting : Option UnresolvedFuture) (taken : List (List ℕ)) (v : View) (f : Fed) → R fed answers waiting taken v → IsLive v.machine → R (and_piece fed f) answers waiting taken (after_input v f.piece)
  pub takes : (fed : Heard) (answers : List Answer) (waiting : Option UnresolvedFuture) (taken : List (List ℕ)) (v : View) → WholeFrames v.machine.output → R fed answers waiting taken v → R fed answers waiting (taken ++ concat v.machine.output ∷ []) (emptied v)
  pub closes : (fed : Heard) (answers : List Answer) (waiting : Option UnresolvedFuture) (taken : List (List ℕ)) (v : View) → R fed answers waiting taken v → R fed answers waiting taken (record v { machine = record v.machine { input_closed = true } })
  pub phase : (fed : Heard) (answers : List Answer) (waiting : Option UnresolvedFuture) (taken : List (List ℕ)) (v : View) → R fed answers waiting taken v → v.machine.failure ≡ None → (is_running v.machine.phase ≡ true) ⊎ (v.machine.phase ≡ Closed)

module _ (R : Reading) (l : Lasts R) (fixed : Fixed) where
  abbrev Kept : Record → Type 0
  Kept = KeptBy R fixed

  pub dead_same : (r : Record) (w : View) → Kept r → Quiet r.vm.machine w.machine → IsSome w.machine.failure → Kept (with_vm w r)
  dead_same r w k q dead =
      ⊎_elim
      (λ (b : BeforeInput fixed (heard fixed.version r) r.answers r.waiting r.taken r.vm). inl (before_dead fixed (heard fixed.version r) r.fed r.answers r.waiting r.taken r.vm w b q dead))
      (λ (b : R (heard fixed.version r) r.answers r.waiting r.taken r.vm). inr (l.dead (heard fixed.version r) r.fed [] (sym (append-nil (frames_fed (heard fixed.version r)))) r.answers r.waiting r.taken r.vm w b q dead))
      k

  dead_more : (r : Record) (f : Fed) (w : View) → Kept r → Quiet r.vm.machine w.machine → IsSome w.machine.failure → Kept (record r { fed = r.fed ++ f ∷ []; vm = w })
  dead_more r f w k q dead =
      let more = more_frames (frames_of (bytes_fed (heard fixed.version r))) f.piece in
      let frames : frames_fed (and_piece (heard fixed.version r) f) ≡ frames_fed (heard fixed.version r) ++ more.0 = ap (λ l. (frames_of l).0) (bytes_behind (heard fixed.version r) f) ∙ ap (λ p. p.0) (frames_of-append (bytes_fed (heard fixed.version r)) f.piece) ∙ more.1 in
      ⊎_elim
      (λ (b : BeforeInput fixed (heard fixed.version r) r.answers r.waiting r.taken r.vm). inl (before_dead fixed (heard fixed.version r) (r.fed ++ f ∷ []) r.answers r.waiting r.taken r.vm w b q dead))
      (λ (b : R (heard fixed.version r) r.answers r.waiting r.taken r.vm). inr (l.dead (heard fixed.version r) (r.fed ++ f ∷ []) more.0 frames r.answers r.waiting r.taken r.vm w b q dead))
      k

  -- a piece that is kept
  piece_kept : (r : Record) (f : Fed) → Kept r → r.vm.machine.failure ≡ None → r.vm.machine.phase ≢ Closed → Kept (record r { fed = r.fed ++ f ∷ []; vm = after_input r.vm f.piece })
  piece_kept r f k live open_yet =
      ⊎_elim
      (λ (b : BeforeInput fixed (heard fixed.version r) r.answers r.waiting r.taken r.vm). inl (before_fed fixed (heard fixed.version r) r.answers r.waiting r.taken r.vm f b live))
      (λ (b : R (heard fixed.version r) r.answers r.waiting r.taken r.vm).
      inr (l.more (heard fixed.version r) r.answers r.waiting r.taken r.vm f b (record { failure = live; phase = ⊎_elim (λ (x : is_running r.vm.machine.phase ≡ true). x) (λ (x : r.vm.machine.phase ≡ Closed). absurd (open_yet x)) (l.phase (heard fixed.version r) r.answers r.waiting r.taken r.vm b live) })))
      k

  -- a piece for a VM that is closed
  piece_closed : (r : Record) (piece : List ℕ) → Kept r → r.vm.machine.failure ≡ None → r.vm.machine.phase ≡ Closed → Kept (with_vm (after_input r.vm piece) r)
  piece_closed r piece k live closed =
      ⊎_elim
      (λ (b : BeforeInput fixed (heard fixed.version r) r.answers r.waiting r.taken r.vm). open_before fixed (heard fixed.version r) r.vm.machine (b.comes live) closed)
      (λ (b : R (heard fixed.version r) r.answers r.waiting r.taken r.vm). inr (l.closed (heard fixed.version r) r.answers r.waiting r.taken r.vm (after_input r.vm piece) b (input_quiet r.vm piece) (closed_input r.vm piece closed)))
      k

  piece_comes : (r : Record) (piece : List ℕ) → Kept r → (o : Option Error) → r.vm.machine.failure ≡ o → (ph : Phase) → r.vm.machine.phase ≡ ph → Kept (with_vm (after_input r.vm piece) (kept_at o ph piece r))
  piece_comes r piece k (Some e) is ph at = subst (λ w. Kept (with_vm w r)) (sym (piece_dropped r.vm piece e is)) k
  piece_comes r piece k None is WaitingStart at = piece_kept r _ k is (λ c. let z : WaitingStart ≡ Closed = sym at ∙ c in cc)
  piece_comes r piece k None is WaitingReplayEntries at = piece_kept r _ k is (λ c. let z : WaitingReplayEntries ≡ Closed = sym at ∙ c in cc)
  piece_comes r piece k None is Replaying at = piece_kept r _ k is (λ c. let z : Replaying ≡ Closed = sym at ∙ c in cc)
  piece_comes r piece k None is Processing at = piece_kept r _ k is (λ c. let z : Processing ≡ Closed = sym at ∙ c in cc)
  piece_comes r piece k None is Closed at = piece_closed r piece k is at

  dead_kept : (r : Record) (piece : List ℕ) (w : View) → Kept r → Quiet r.vm.machine w.machine → IsSome w.machine.failure → (o : Option Error) (ph : Phase) → Kept (with_vm w (kept_at o ph piece r))
  dead_kept r piece w k q dead (Some e) ph = dead_same r w k q dead
  dead_kept r piece w k q dead None WaitingStart = dead_more r _ w k q dead
  dead_kept r piece w k q dead None WaitingReplayEntries = dead_more r _ w k q dead
  dead_kept r piece w k q dead None Replaying = dead_more r _ w k q dead
  dead_kept r piece w k q dead None Processing = dead_more r _ w k q dead
  dead_kept r piece w k q dead None Closed = dead_same r w k q dead

  feeds_keep : (piece : List ℕ) (old : Record) (result : Result Unit AllocError) (new : Record) → Kept old → FeedsPiece piece old result new → Kept new
  feeds_keep piece old (Ok t) new k does = subst Kept (sym does) (piece_comes old piece k old.vm.machine.failure refl old.vm.machine.phase refl)
  feeds_keep piece old (Err e) new k does =
      ⊎_elim
      (λ (x : new ≡ record old { starved = true }). subst Kept (sym x) k)
      (λ (x : (w : View) × StarvesAmong (messages_in_bytes old.vm piece) old.vm.machine w.machine × (new ≡ with_vm w (with_piece_kept piece old))).
      subst Kept (sym x.2) (dead_kept old piece x.0 k (quiet_same old.vm.machine x.0.machine (among_output _ old.vm.machine x.0.machine x.1)) (among_failed _ old.vm.machine x.0.machine x.1) old.vm.machine.failure old.vm.machine.phase))
      does

  pub feed_keeps : (piece : List ℕ) (old : Record) (result : Result Unit AllocError) (new : Record) → Kept old → FeedDoes old.starved piece old result new → Kept new
  feed_keeps piece old result new k does = by_test old.starved does
    where
      by_test : (b : Bool) → FeedDoes b piece old result new → Kept new
      by_test true d = subst Kept (sym d.1) k
      by_test false d = feeds_keep piece old result new k d

  pub take_keeps : (old : Record) (result : Result (List ℕ) AllocError) (new : Record) → Kept old → Takes old result new → Kept new
  take_keeps old (Ok bytes) new k does =
      subst Kept (sym does.1)
      (⊎_elim
      (λ (b : BeforeInput fixed (heard fixed.version old) old.answers old.waiting old.taken old.vm). inl (before_takes fixed (heard fixed.version old) old.answers old.waiting old.taken old.vm does.2 b))
      (λ (b : R (heard fixed.version old) old.answers old.waiting old.taken old.vm). inr (l.takes (heard fixed.version old) old.answers old.waiting old.taken old.vm does.2 b))
      k)
  take_keeps old (Err e) new k does = subst Kept (sym does) k

  closing_runs : (r : Record) → Kept r → r.vm.machine.failure ≡ None → is_running r.vm.machine.phase ≡ true → Kept (with_vm (record r.vm { machine = record r.vm.machine { input_closed = true } }) r)
  closing_runs r k live runs =
      ⊎_elim
      (λ (b : BeforeInput fixed (heard fixed.version r) r.answers r.waiting r.taken r.vm). inl (before_closes fixed (heard fixed.version r) r.answers r.waiting r.taken r.vm b live runs))
      (λ (b : R (heard fixed.version r) r.answers r.waiting r.taken r.vm). inr (l.closes (heard fixed.version r) r.answers r.waiting r.taken r.vm b))
      k

  closing_keeps : (r : Record) → Kept r → (o : Option Error) → r.vm.machine.failure ≡ o → (ph : Phase) → r.vm.machine.phase ≡ ph → Kept (with_vm (after_closing r.vm) r)
  closing_keeps r k (Some e) is ph at = subst (λ w. Kept (with_vm w r)) (closing_dropped r.vm e is) k
  closing_keeps r k None is WaitingStart at = dead_same r (after_closing r.vm) k (closing_quiet r.vm) (ap (λ w. is_some w.failure) (sym (closing_notes r.vm is WaitingStart at)))
  closing_keeps r k None is WaitingReplayEntries at = dead_same r (after_closing r.vm) k (closing_quiet r.vm) (ap (λ w. is_some w.failure) (sym (closing_notes r.vm is WaitingReplayEntries at)))
  closing_keeps r k None is Replaying at = subst (λ w. Kept (with_vm (record r.vm { machine = w }) r)) (closing_notes r.vm is Replaying at) (closing_runs r k is (ap is_running at))
  closing_keeps r k None is Processing at = subst (λ w. Kept (with_vm (record r.vm { machine = w }) r)) (closing_notes r.vm is Processing at) (closing_runs r k is (ap is_running at))
  closing_keeps r k None is Closed at =
      ⊎_elim
      (λ (b : BeforeInput fixed (heard fixed.version r) r.answers r.waiting r.taken r.vm). open_before fixed (heard fixed.version r) r.vm.machine (b.comes is) at)
      (λ (b : R (heard fixed.version r) r.answers r.waiting r.taken r.vm). inr (l.closed (heard fixed.version r) r.answers r.waiting r.taken r.vm (after_closing r.vm) b (closing_quiet r.vm) (ap (λ w. w.phase) (sym (closing_notes r.vm is Closed at)) ∙ at)))
      k

  closes_keep : (old : Record) (result : Result Unit AllocError) (new : Record) → Kept old → InputIsClosed old result new → Kept new
  closes_keep old (Ok t) new k does = subst Kept (sym does) (closing_keeps old k old.vm.machine.failure refl old.vm.machine.phase refl)
  closes_keep old (Err e) new k does =
      subst Kept (sym does.2) (dead_same old does.0 k (quiet_same old.vm.machine does.0.machine (among_output [] old.vm.machine does.0.machine does.1)) (among_failed [] old.vm.machine does.0.machine does.1))

  pub close_keeps : (old : Record) (result : Result Unit AllocError) (new : Record) → Kept old → CloseDoes old.starved old result new → Kept new
  close_keeps old result new k does = by_test old.starved does
    where
      by_test : (b : Bool) → CloseDoes b old result new → Kept new
      by_test true d = subst Kept (sym d.1) k
      by_test false d = closes_keep old result new k d
