-- What each call of an attempt keeps of why it failed.
use Rattle.std.proofs.Common.{◌≡◌, ◌≢◌, ℕ, ◌+◌, ◌<◌, Bool, true, false, List, [], ◌∷◌, ◌++◌, length, Option, Some, None, Result, Ok, Err, refl, sym, ap, ◌∙◌, subst, inl, inr, ⊎_elim, arith, Global}
use Rattle.std.specs.Prelude.{if◌then◌else◌, is_some, unwrap_or}
use Rattle.std.proofs.lemmas.Option.{same_Some}
use Rattle.std.specs.declared.alloc.AllocError.{AllocError}
use Rattle.journal_protocol.specs.Error.{Error}
use Rattle.journal_protocol.specs.NamedFault.TheVariants as fault
use Rattle.journal_protocol.specs.RawMessage.{RawMessage}
use Rattle.journal_protocol.specs.Version.{Version}
use Rattle.journal_protocol.specs.Errors.{named_error, no_memory}
use Rattle.vm_types.specs.declared.options.VMOptions.{VMOptions}
use Rattle.vm_types.specs.declared.steps.Answer.{Answer}
use Rattle.vm_machine.specs.declared.machine.Machine.{Machine}
use Rattle.vm_machine.specs.declared.phase.Phase.{Phase}
use Rattle.vm_machine.specs.declared.phase.Phase.TheVariants.{WaitingStart, WaitingReplayEntries, Replaying, Processing, Closed}
use Rattle.vm_machine.specs.Inputs.{close_step, closed_at, malformed_step}
use Rattle.vm_machine.specs.Outcomes.{IsStarved, called, called_at, ruled, ruled_by, settled}
use Rattle.vm_machine.specs.Making.{fresh}
use Rattle.journal_entries.specs.Frames.{Tail, Rest, Garbage, frames_of}
use Rattle.invocation_vm.specs.Making.{made}
use Rattle.invocation_vm.specs.Views.{StarvesAmong, View, after_closing, after_input, all_received, messages_in_bytes, consumed, left_by, left_over, spoiled}
use Rattle.vm_model.specs.Calls.{Meaning}
use Rattle.vm_attempt.specs.Heard.{Heard, and_piece}
use Rattle.vm_attempt.specs.declared.progress.Fed.{Fed}
use Rattle.vm_attempt.specs.declared.progress.Progress.{Progress}
use Rattle.vm_attempt.specs.Record.{Record, Said, all_said, heard}
use Rattle.vm_attempt.specs.Stepping.{CloseDoes, InputIsClosed, FeedDoes, FeedsPiece, Takes, fresh_record, with_piece_kept, kept_at, with_vm}
use Rattle.vm_attempt.specs.Told.{BeforeInput, JournalCame, HasCome, bytes_fed, frames_fed}
use Rattle.vm_attempt.specs.Blames.{BlamedAt, FailsAt, IsBlamed, KeptBlame, LacksEntries, Place}
use Rattle.vm_attempt.specs.Blames.Blame.{Memory, Frame, NoFrame, ClosedEarly, NoInput, NoSkip, Call, RunResult}
use Rattle.vm_attempt.proofs.Blaming.{frames_fit}
use Rattle.vm_attempt.proofs.Pieces.{fed_frames}
use Rattle.vm_attempt.proofs.Placing.{bad_frame, come_keeps, come_stands, place_all}
use Rattle.vm_model.specs.Fixed.{Fixed, fixed_by}

-- ---- out of memory, and a VM that stays as it is

pub none_some : {A : Type 0} (e : Error) → None ≡ Some e → A
none_some e h = absurd (cc)

pub starved_blamed : (fixed : Fixed) (over : Option Progress) (fed : Heard) (said : Said) (answers : List Answer) (v w : Machine) → v.failure ≡ None → IsStarved v no_memory w → BlamedAt fixed over fed said answers w
starved_blamed fixed over fed said answers v w live s =
    let is : w.failure ≡ Some no_memory = s.failure ∙ ap (λ (f : Option Error). Some (unwrap_or f no_memory)) live in
    record {
      open_yet = λ going none. none_some no_memory (sym none ∙ is);
      blame = λ going e some. Memory (same_Some e no_memory (sym some ∙ is));
    }

-- a VM that is alive, and not closed
pub alive_blamed : (fixed : Fixed) (over : Option Progress) (fed : Heard) (said : Said) (answers : List Answer) (w : Machine) → w.failure ≡ None → w.phase ≢ Closed → BlamedAt fixed over fed said answers w
alive_blamed fixed over fed said answers w live open_yet = record {
  open_yet = λ going none. open_yet;
  blame = λ going e some. none_some e (sym live ∙ some);
}

-- once it is over nothing is said
pub over_blamed : (fixed : Fixed) (p : Progress) (fed : Heard) (said : Said) (answers : List Answer) (w : Machine) → BlamedAt fixed (Some p) fed said answers w
over_blamed fixed p fed said answers w = record {
  open_yet = λ going none. absurd (cc);
  blame = λ going e some. absurd (cc);
}

placed_open : (ph : Phase) (k : ℕ) (F : List RawMessage) → Place ph k F → ph ≢ Closed
placed_open WaitingStart k F p = λ h. absurd (cc)
placed_open WaitingReplayEntries k F p = λ h. absurd (cc)
placed_open Replaying k F p = λ h. absurd (cc)
placed_open Processing k F p = λ h. absurd (cc)
placed_open Closed k F p = absurd p

-- ---- a piece

-- the bytes after the last frame
come_tail : (fixed : Fixed) (r : Record) → HasCome fixed r → (live : r.vm.machine.failure ≡ None) → r.vm.machine.phase ≢ Closed → (frames_of (bytes_fed (heard fixed.version r))).1 ≡ Rest r.vm.undecoded
come_tail fixed r k live open_yet =
    ⊎_elim
    (λ (b : BeforeInput fixed (heard fixed.version r) r.answers r.waiting r.taken r.vm). b.tail live)
    (λ (b : JournalCame fixed (heard fixed.version r) r.answers r.taken r.vm). b.tail (record { failure = live; phase = ⊎_elim (λ x. x) (λ (x : r.vm.machine.phase ≡ Closed). absurd (open_yet x)) (b.phase live) }))
    k

pub spoils : (v : Machine) → v.failure ≡ None → (spoiled v).failure ≡ Some (ruled v (named_error fault.BadMessage None))
unfolding spoiled called
spoils v live = ap (λ f. (left_by (called_at f (malformed_step v) v)).failure) live

pub spoils_not : (v : Machine) (e : Error) → v.failure ≡ Some e → spoiled v ≡ v
unfolding spoiled called
spoils_not v e is = ap (λ f. left_by (called_at f (malformed_step v) v)) is

piece_blamed : (fixed : Fixed) (r : Record) (f : Fed) → HasCome fixed r → r.vm.machine.failure ≡ None → r.vm.machine.phase ≢ Closed → BlamedAt fixed r.over (and_piece (heard fixed.version r) f) (all_said r) r.answers (after_input r.vm f.piece).machine
piece_blamed fixed r f k live open_yet =
    let stands = come_stands fixed r k live open_yet in
    let frames = fed_frames (heard fixed.version r) f r.vm (come_tail fixed r k live open_yet) in
    let came = frames_of (r.vm.undecoded ++ f.piece) in
    subst B (sym (ap (λ (o : Option Error). (if is_some o then r.vm else consumed came r.vm.machine).machine) live))
    (⊎_elim
    (λ (x : ((all_received came.0 r.vm.machine).failure ≡ None) × (((all_received came.0 r.vm.machine).version ≡ r.vm.machine.version) × ((all_received came.0 r.vm.machine).options ≡ r.vm.machine.options))).
    good came.1 (all_received came.0 r.vm.machine) (ap (λ p. p.1) frames) x.0 (placed_open _ _ _ (place_all came.0 (frames_fed (heard fixed.version r)) r.vm.machine live stands.0 x.0)) (x.1.0 ∙ stands.1.0) (x.1.1 ∙ stands.1.1))
    (λ (x : FailsAt came.0 r.vm.machine (all_received came.0 r.vm.machine)).
    bad came.1 (all_received came.0 r.vm.machine) x stands.0 stands.1 (ap (λ p. p.0) frames))
    (frames_fit came.0 r.vm.machine live))
  where
    B : Machine → Type 0
    B w = BlamedAt fixed r.over (and_piece (heard fixed.version r) f) (all_said r) r.answers w

    good : (t : Tail) (w : Machine) → (frames_of (bytes_fed (and_piece (heard fixed.version r) f))).1 ≡ t → w.failure ≡ None → w.phase ≢ Closed → w.version ≡ fixed.version → w.options ≡ fixed.options → B (left_over t w).machine
    good (Rest bytes) w is alive still ver opt = alive_blamed fixed r.over (and_piece (heard fixed.version r) f) (all_said r) r.answers w alive still
    good Garbage w is alive still ver opt = record {
      open_yet = λ going none. none_some _ (sym none ∙ spoils w alive);
      blame = λ going e some. NoFrame is (same_Some e _ (sym some ∙ spoils w alive) ∙ λ i. ruled_by (ver i) (opt i) (named_error fault.BadMessage None));
    }

    failed_frame : (w : Machine) → FailsAt (frames_of (r.vm.undecoded ++ f.piece)).0 r.vm.machine w → Place r.vm.machine.phase r.vm.machine.entries_missing (frames_fed (heard fixed.version r)) → ((r.vm.machine.version ≡ fixed.version) × (r.vm.machine.options ≡ fixed.options)) → frames_fed (and_piece (heard fixed.version r) f) ≡ frames_fed (heard fixed.version r) ++ (frames_of (r.vm.undecoded ++ f.piece)).0 → B w
    failed_frame w x p made frames = record {
      open_yet = λ going none. none_some _ (sym none ∙ x.failure);
      blame = λ going e some. Frame (bad_frame fixed (heard fixed.version r) (r.fed ++ f ∷ []) (frames_of (r.vm.undecoded ++ f.piece)).0 frames r.vm.machine w e made live p (come_keeps fixed r k live open_yet) x some);
    }

    bad : (t : Tail) (w : Machine) → FailsAt (frames_of (r.vm.undecoded ++ f.piece)).0 r.vm.machine w → Place r.vm.machine.phase r.vm.machine.entries_missing (frames_fed (heard fixed.version r)) → ((r.vm.machine.version ≡ fixed.version) × (r.vm.machine.options ≡ fixed.options)) → frames_fed (and_piece (heard fixed.version r) f) ≡ frames_fed (heard fixed.version r) ++ (frames_of (r.vm.undecoded ++ f.piece)).0 → B (left_over t w).machine
    bad (Rest bytes) w x p made frames = failed_frame w x p made frames
    bad Garbage w x p made frames = subst B (sym (spoils_not w _ x.failure)) (failed_frame w x p made frames)

pieces_blamed : (fixed : Fixed) (r : Record) (piece : List ℕ) → HasCome fixed r → IsBlamed fixed r → (over : Option Progress) → r.over ≡ over → (o : Option Error) → r.vm.machine.failure ≡ o → (ph : Phase) → r.vm.machine.phase ≡ ph → IsBlamed fixed (with_vm (after_input r.vm piece) (kept_at o ph piece r))
pieces_blamed fixed r piece k b (Some p) over o is ph at = subst (λ x. BlamedAt fixed x (heard fixed.version (kept_at o ph piece r)) (all_said (kept_at o ph piece r)) (kept_at o ph piece r).answers (after_input r.vm piece).machine) (sym over ∙ sym (same_over o ph)) (over_blamed fixed p _ _ _ _)
  where
    same_over : (o : Option Error) (ph : Phase) → (kept_at o ph piece r).over ≡ r.over
    same_over (Some e) ph = refl
    same_over None WaitingStart = refl
    same_over None WaitingReplayEntries = refl
    same_over None Replaying = refl
    same_over None Processing = refl
    same_over None Closed = refl
pieces_blamed fixed r piece k b None over (Some e) is ph at = subst (BlamedAt fixed r.over (heard fixed.version r) (all_said r) r.answers) (sym (ap (λ (f : Option Error). (if is_some f then r.vm else consumed (frames_of (r.vm.undecoded ++ piece)) r.vm.machine).machine) is)) b
pieces_blamed fixed r piece k b None over None is WaitingStart at = piece_blamed fixed r _ k is (b.open_yet over is)
pieces_blamed fixed r piece k b None over None is WaitingReplayEntries at = piece_blamed fixed r _ k is (b.open_yet over is)
pieces_blamed fixed r piece k b None over None is Replaying at = piece_blamed fixed r _ k is (b.open_yet over is)
pieces_blamed fixed r piece k b None over None is Processing at = piece_blamed fixed r _ k is (b.open_yet over is)
pieces_blamed fixed r piece k b None over None is Closed at = absurd (b.open_yet over is at)

feeds_blamed : (fixed : Fixed) (piece : List ℕ) (old : Record) (result : Result Unit AllocError) (new : Record) → HasCome fixed old → IsBlamed fixed old → FeedsPiece piece old result new → IsBlamed fixed new
feeds_blamed fixed piece old (Ok t) new k b does = subst (IsBlamed fixed) (sym does) (pieces_blamed fixed old piece k b old.over refl old.vm.machine.failure refl old.vm.machine.phase refl)
feeds_blamed fixed piece old (Err e) new k b does =
    ⊎_elim
    (λ (x : new ≡ record old { starved = true }). subst (IsBlamed fixed) (sym x) b)
    (λ (x : (w : View) × StarvesAmong (messages_in_bytes old.vm piece) old.vm.machine w.machine × (new ≡ with_vm w (with_piece_kept piece old))).
    subst (IsBlamed fixed) (sym x.2) (starved_blamed fixed _ _ _ _ x.1.reached x.0.machine x.1.live x.1.starved))
    does

pub feed_blames : (fixed : Fixed) (piece : List ℕ) (old : Record) (result : Result Unit AllocError) (new : Record) → HasCome fixed old → IsBlamed fixed old → FeedDoes old.starved piece old result new → IsBlamed fixed new
feed_blames fixed piece old result new k b does = by_test old.starved does
  where
    by_test : (t : Bool) → FeedDoes t piece old result new → IsBlamed fixed new
    by_test true d = subst (IsBlamed fixed) (sym d.1) b
    by_test false d = feeds_blamed fixed piece old result new k b d

-- ---- closing

-- the caller said that the input is closed
abbrev pub closed_now : Said → Said
closed_now said = record said { closed = true }

-- closing changes no blame but that it says the input is closed
pub closed_blame : (fixed : Fixed) (fed : Heard) (said : Said) (answers : List Answer) (e : Error) → KeptBlame fixed fed said answers e → KeptBlame fixed fed (closed_now said) answers e
closed_blame fixed fed said answers e (Memory x) = Memory x
closed_blame fixed fed said answers e (Frame x) = Frame x
closed_blame fixed fed said answers e (NoFrame x y) = NoFrame x y
closed_blame fixed fed said answers e (ClosedEarly x y z) = ClosedEarly refl y z
closed_blame fixed fed said answers e (NoInput x) = NoInput x
closed_blame fixed fed said answers e (NoSkip x) = NoSkip x
closed_blame fixed fed said answers e (Call fails x) = Call fails x
closed_blame fixed fed said answers e (RunResult x) = RunResult x

pub closing_at : (v : View) → v.machine.failure ≡ None → (ph : Phase) → v.machine.phase ≡ ph → left_by (settled (closed_at ph (record v.machine { input_closed = true }))) ≡ (after_closing v).machine
unfolding called
closing_at v live ph at = λ i. left_by (called_at (sym live i) (closed_at (sym at i) (record v.machine { input_closed = true })) v.machine)

pub closing_not : (v : View) (e : Error) → v.machine.failure ≡ Some e → v.machine ≡ (after_closing v).machine
unfolding called
closing_not v e is = ap (λ f. left_by (called_at f (close_step v.machine) v.machine)) (sym is)

known_missing : (F : List RawMessage) (k : ℕ) → Place WaitingReplayEntries k F → LacksEntries F
known_missing F k b = inr (record { first = b.first; others = b.others; is = b.is; start = b.start; reads = b.reads; counts = fewer (length b.others) b.start.known_entries b.counts.0 b.counts.1 })
  where
    fewer : (n known : ℕ) → n + k ≡ known → 0 < k → n < known
    fewer n known e h = omega (arith, e, h)

close_at : (fixed : Fixed) (r : Record) → HasCome fixed r → IsBlamed fixed r → (over : Option Progress) → r.over ≡ over → (o : Option Error) → r.vm.machine.failure ≡ o → (ph : Phase) → r.vm.machine.phase ≡ ph → BlamedAt fixed r.over (heard fixed.version r) (closed_now (all_said r)) r.answers (after_closing r.vm).machine
close_at fixed r k b (Some p) over o is ph at = subst (λ x. BlamedAt fixed x (heard fixed.version r) (closed_now (all_said r)) r.answers (after_closing r.vm).machine) (sym over) (over_blamed fixed p _ _ _ _)
close_at fixed r k b None over (Some e) is ph at = subst (BlamedAt fixed r.over (heard fixed.version r) (closed_now (all_said r)) r.answers) (closing_not r.vm e is) (record { open_yet = b.open_yet; blame = λ going d some. closed_blame fixed (heard fixed.version r) (all_said r) r.answers d (b.blame going d some) })
close_at fixed r k b None over None is WaitingStart at =
    let stands = come_stands fixed r k is (b.open_yet over is) in
    subst (BlamedAt fixed r.over (heard fixed.version r) (closed_now (all_said r)) r.answers) (closing_at r.vm is WaitingStart at)
    (record {
      open_yet = λ going none. none_some _ (sym none);
      blame = λ going e some. ClosedEarly refl (inl (subst (λ ph. Place ph r.vm.machine.entries_missing (frames_fed (heard fixed.version r))) at stands.0)) (sym (same_Some _ e some) ∙ λ i. ruled_by (stands.1.0 i) (stands.1.1 i) (named_error fault.InputClosedWhileWaitingEntries None));
    })
close_at fixed r k b None over None is WaitingReplayEntries at =
    let stands = come_stands fixed r k is (b.open_yet over is) in
    subst (BlamedAt fixed r.over (heard fixed.version r) (closed_now (all_said r)) r.answers) (closing_at r.vm is WaitingReplayEntries at)
    (record {
      open_yet = λ going none. none_some _ (sym none);
      blame = λ going e some. ClosedEarly refl (known_missing (frames_fed (heard fixed.version r)) r.vm.machine.entries_missing (subst (λ ph. Place ph r.vm.machine.entries_missing (frames_fed (heard fixed.version r))) at stands.0)) (sym (same_Some _ e some) ∙ λ i. ruled_by (stands.1.0 i) (stands.1.1 i) (named_error fault.InputClosedWhileWaitingEntries None));
    })
close_at fixed r k b None over None is Replaying at = subst (BlamedAt fixed r.over (heard fixed.version r) (closed_now (all_said r)) r.answers) (closing_at r.vm is Replaying at) (alive_blamed fixed r.over (heard fixed.version r) (closed_now (all_said r)) r.answers _ is (b.open_yet over is))
close_at fixed r k b None over None is Processing at = subst (BlamedAt fixed r.over (heard fixed.version r) (closed_now (all_said r)) r.answers) (closing_at r.vm is Processing at) (alive_blamed fixed r.over (heard fixed.version r) (closed_now (all_said r)) r.answers _ is (b.open_yet over is))
close_at fixed r k b None over None is Closed at = absurd (b.open_yet over is at)

closes_blamed : (fixed : Fixed) (old : Record) (result : Result Unit AllocError) (new : Record) → HasCome fixed old → IsBlamed fixed old → InputIsClosed old result new → IsBlamed fixed new
closes_blamed fixed old (Ok t) new k b does = subst (IsBlamed fixed) (sym does) (close_at fixed old k b old.over refl old.vm.machine.failure refl old.vm.machine.phase refl)
closes_blamed fixed old (Err e) new k b does = subst (IsBlamed fixed) (sym does.2) (starved_blamed fixed _ _ _ _ does.1.reached does.0.machine does.1.live does.1.starved)

pub close_blames : (fixed : Fixed) (old : Record) (result : Result Unit AllocError) (new : Record) → HasCome fixed old → IsBlamed fixed old → CloseDoes old.starved old result new → IsBlamed fixed new
close_blames fixed old result new k b does = by_test old.starved does
  where
    by_test : (t : Bool) → CloseDoes t old result new → IsBlamed fixed new
    by_test true d = subst (IsBlamed fixed) (sym d.1) b
    by_test false d = closes_blamed fixed old result new k b d

-- ---- making, and the output

pub made_blamed : (fixed : Fixed) (alloc : Global) → IsBlamed fixed (fresh_record (made alloc fixed.options fixed.version))
made_blamed fixed alloc = alive_blamed fixed None (heard fixed.version (fresh_record (made alloc fixed.options fixed.version))) (all_said (fresh_record (made alloc fixed.options fixed.version))) [] (fresh alloc fixed.version fixed.options) refl (λ h. absurd (cc))

pub take_blames : (fixed : Fixed) (old : Record) (result : Result (List ℕ) AllocError) (new : Record) → IsBlamed fixed old → Takes old result new → IsBlamed fixed new
take_blames fixed old (Ok bytes) new b does = subst (IsBlamed fixed) (sym does.1) (record { open_yet = b.open_yet; blame = b.blame })
take_blames fixed old (Err e) new b does = subst (IsBlamed fixed) (sym does) b

pub new_blamed : (m : Meaning) (alloc : Global) (options : VMOptions) (version : Version) (v : View) → v ≡ made alloc options version → IsBlamed (fixed_by m version options) (fresh_record v)
new_blamed m alloc options version v is = subst (λ x. IsBlamed (fixed_by m version options) (fresh_record x)) (sym is) (made_blamed (fixed_by m version options) alloc)
