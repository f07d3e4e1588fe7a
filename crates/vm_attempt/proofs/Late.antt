-- What comes to an attempt that is over: its VM ignores notifications, and fails by any other frame.
use Rattle.journal_protocol.specs.ProposeRunCompletion.{ProposeRunCompletion}
use Rattle.std.proofs.Common.{◌≡◌, ◌≢◌, ℕ, ◌+◌, ◌≤◌, Bool, true, false, List, [], ◌∷◌, ◌++◌, length, Option, Some, None, Result, Ok, Err, refl, sym, ap, ◌∙◌, subst, inr, ⊎_elim, append_assoc, append-nil, length-append, arith}
use Rattle.std.specs.Prelude.{◌⊎◌, ◌==◌, if◌then◌else◌, is_some, unwrap_or}
use Rattle.std.proofs.lemmas.Option.{same_Some}
use Rattle.std.specs.declared.alloc.AllocError.{AllocError}
use Rattle.journal_protocol.specs.Error.{Error}
use Rattle.journal_protocol.specs.NamedFault.{NamedFault}
use Rattle.journal_protocol.specs.NamedFault.TheVariants as fault
use Rattle.journal_protocol.specs.RawMessage.{RawMessage}
use Rattle.journal_protocol.specs.Errors.{named_error, no_memory}
use Rattle.journal_protocol.specs.Types.{type_number}
use Rattle.vm_types.specs.declared.steps.Answer.{Answer}
use Rattle.vm_types.specs.declared.steps.Answer.TheVariants as answer
use Rattle.vm_machine.specs.declared.machine.Machine.{Machine}
use Rattle.vm_machine.specs.declared.phase.Phase.{Phase}
use Rattle.vm_machine.specs.declared.phase.Phase.TheVariants.{WaitingStart, WaitingReplayEntries, Replaying, Processing, Closed}
use Rattle.vm_machine.specs.Outcomes.{IsStarved, ruled_by}
use Rattle.vm_machine.specs.Phases.{is_running}
use Rattle.journal_entries.specs.Frames.{Tail, Rest, Garbage, frames_of}
use Rattle.invocation_vm.specs.Views.{StarvesAmong, View, after_closing, after_input, all_received, messages_in_bytes, consumed, left_over}
use Rattle.vm_attempt.specs.Heard.{Heard, and_piece, with_pieces}
use Rattle.vm_attempt.specs.declared.progress.Fed.{Fed}
use Rattle.vm_attempt.specs.declared.progress.Progress.{Progress}
use Rattle.vm_attempt.specs.declared.progress.Reply.{Reply}
use Rattle.vm_attempt.specs.declared.progress.Reply.TheVariants as reply
use Rattle.vm_attempt.specs.Blames.{BadFrame, Began, BehindEnd, FailsAt, IfError, IsBlamed, IsLate, KeptBlame, LateBy, fault_among, fault_by, unknown_fault}
use Rattle.vm_attempt.specs.Blames.Blame.{Memory, Frame, NoFrame}
use Rattle.journal_entries.specs.JournalFrames.{is_command_frame, is_ephemeral, is_notification, is_acknowledgement}
use Rattle.vm_attempt.specs.Record.{Record, Said, heard, all_heard, all_said}
use Rattle.vm_attempt.specs.Stepping.{Advances, MakesStep, CloseDoes, InputIsClosed, FeedDoes, FeedsPiece, LacksMemory, InputIsRead, StepAt, StepDoes, StepFrom, StepUnless, Takes, fed_now, future_in, with_piece_kept, kept_at, replied, step_asked, output_taken, with_vm}
use Rattle.vm_attempt.specs.Told.{BeforeInput, JournalCame, HasCome, IsKeptUnder, IsLive, bytes_fed, frames_fed}
use Rattle.vm_attempt.proofs.Blamed.{closed_blame, closed_now, closing_at, closing_not, none_some, spoils, spoils_not}
use Rattle.vm_attempt.proofs.Blaming.{frames_fit}
use Rattle.vm_attempt.proofs.Erring.{Errs, step_blames, step_errs}
use Rattle.vm_attempt.proofs.Kept.{closed_all, piece_dropped}
use Rattle.vm_attempt.proofs.Pieces.{fed_frames}
use Rattle.vm_attempt.proofs.Sending.{IsLeft, step_leaves}
use Rattle.vm_model.specs.Fixed.{Fixed}

-- ---- a frame that comes after the end

-- what a closed VM refuses is refused in Processing too
closed_fault : (kept others : List ProposeRunCompletion) (raw : RawMessage) (a b c d : Bool) (why : NamedFault) → fault_by kept Closed raw a b c d ≡ Some why → fault_by others Processing raw a b c d ≡ Some why
closed_fault kept others raw true b c d why is = is
closed_fault kept others raw false true c d why is = is
closed_fault kept others raw false false true d why is = absurd (cc)
closed_fault kept others raw false false false true why is = absurd (cc)
closed_fault kept others raw false false false false why is = unknown_closed (is_ephemeral raw) is
  where
    unknown_closed : (b : Bool) → unknown_fault b Closed raw ≡ Some why → unknown_fault b Processing raw ≡ Some why
    unknown_closed true none = absurd (cc)
    unknown_closed false so = so

began_more : (F G : List RawMessage) → Began F (λ n known. known ≤ n) → Began (F ++ G) (λ n known. known ≤ n)
began_more F G b = record { first = b.first; others = b.others ++ G; is = ap (λ l. l ++ G) b.is; start = b.start; reads = b.reads; counts = more (length b.others) (length G) (length (b.others ++ G)) b.start.known_entries (length-append b.others G) b.counts }
  where
    more : (n k l known : ℕ) → l ≡ n + k → known ≤ n → known ≤ l
    more n k l known e h = omega (arith, e, h)

late_frame : (fixed : Fixed) (fed : Heard) (to : List Fed) (G : List RawMessage) → frames_fed (with_pieces to fed) ≡ frames_fed fed ++ G → (v m : Machine) (e : Error) → (v.version ≡ fixed.version) × (v.options ≡ fixed.options) → v.phase ≡ Closed → Began (frames_fed fed) (λ n known. known ≤ n) → FailsAt G v m → m.failure ≡ Some e → BadFrame fixed (with_pieces to fed) e
late_frame fixed fed to G frames v m e made closed b f is = record {
  before = frames_fed fed ++ f.before;
  raw = f.raw;
  behind = f.behind;
  split = frames ∙ ap (λ l. frames_fed fed ++ l) f.split ∙ sym (append_assoc (frames_fed fed) f.before (f.raw ∷ f.behind));
  phase = Processing;
  missing = 0;
  place = began_more (frames_fed fed) f.before b;
  late = inr refl;
  why = f.why;
  reason = closed_fault (all_received f.before v).proposals _ f.raw (type_number f.raw.ty == 1) (is_command_frame f.raw) (is_notification f.raw) (is_acknowledgement f.raw) f.why (subst (λ ph. fault_among (all_received f.before v).proposals ph f.raw ≡ Some f.why) (closed_all f.before v closed) f.reason);
  error = same_Some e _ (sym is ∙ f.failure) ∙ λ i. ruled_by (made.0 i) (made.1 i) (named_error f.why None);
}

-- ---- a piece that comes after the end

module _ (fixed : Fixed) (all : Heard) (said : Said) (answers : List Answer) (vm : View) (f : Fed) (k : BehindEnd fixed all said answers vm) (live : vm.machine.failure ≡ None) where
  abbrev came : List RawMessage × Tail
  came = frames_of (vm.undecoded ++ f.piece)

  abbrev more : Heard
  more = and_piece all f

  frames : frames_of (bytes_fed more) ≡ (frames_fed all ++ came.0, came.1)
  frames = fed_frames all f vm (k.tail live)

  -- the VM takes the frames in
  taken_in : (w : Machine) → w.failure ≡ None → w.phase ≡ Closed → w.version ≡ fixed.version → w.options ≡ fixed.options → (t : Tail) → (frames_of (bytes_fed more)).1 ≡ t → BehindEnd fixed more said answers (left_over t w)
  taken_in w alive at ver opt (Rest bytes) is = record {
    phase = λ _. at;
    place = λ _. subst (λ l. Began l (λ n known. known ≤ n)) (sym (ap (λ p. p.0) frames)) (began_more (frames_fed all) came.0 (k.place live));
    made_for = λ _. (ver, opt);
    tail = λ _. is ∙ ap Rest (sym (ap (λ (o : Option Error). if is_some o then [] else bytes) alive));
    blame = λ e some. none_some e (sym alive ∙ some);
  }
  taken_in w alive at ver opt Garbage is =
      let said = spoils w alive in
      record {
        phase = λ none. none_some _ (sym none ∙ said);
        place = λ none. none_some _ (sym none ∙ said);
        made_for = λ none. none_some _ (sym none ∙ said);
        tail = λ none. none_some _ (sym none ∙ said);
        blame = λ e some. NoFrame is (same_Some e _ (sym some ∙ said) ∙ λ i. ruled_by (ver i) (opt i) (named_error fault.BadMessage None));
      }

  refuses : (w : View) → FailsAt came.0 vm.machine w.machine → BehindEnd fixed more said answers w
  refuses w x =
      let made = k.made_for live in
      record {
        phase = λ none. none_some _ (sym none ∙ x.failure);
        place = λ none. none_some _ (sym none ∙ x.failure);
        made_for = λ none. none_some _ (sym none ∙ x.failure);
        tail = λ none. none_some _ (sym none ∙ x.failure);
        blame = λ e some. Frame (late_frame fixed all (all.pieces ++ f ∷ []) came.0 (ap (λ p. p.0) frames) vm.machine w.machine e made (k.phase live) (k.place live) x some);
      }

  refuses_by : (w : Machine) → FailsAt came.0 vm.machine w → (t : Tail) → BehindEnd fixed more said answers (left_over t w)
  refuses_by w x (Rest bytes) = refuses (left_over (Rest bytes) w) x
  refuses_by w x Garbage = refuses (left_over Garbage w) (subst (FailsAt came.0 vm.machine) (sym (spoils_not w _ x.failure)) x)

  pub late_piece : BehindEnd fixed more said answers (after_input vm f.piece)
  late_piece =
      let w = all_received came.0 vm.machine in
      subst (BehindEnd fixed more said answers) (sym (ap (λ (o : Option Error). if is_some o then vm else consumed came vm.machine) live))
      (⊎_elim
      (λ (x : (w.failure ≡ None) × ((w.version ≡ vm.machine.version) × (w.options ≡ vm.machine.options))).
      let made = k.made_for live in
      taken_in w x.0 (closed_all came.0 vm.machine (k.phase live)) (x.1.0 ∙ made.0) (x.1.1 ∙ made.1) came.1 (ap (λ p. p.1) frames))
      (λ (x : FailsAt came.0 vm.machine w). refuses_by w x came.1)
      (frames_fit came.0 vm.machine live))

-- ---- feeding

starved_behind : (fixed : Fixed) (all : Heard) (said : Said) (answers : List Answer) (v : Machine) (w : View) → v.failure ≡ None → IsStarved v no_memory w.machine → BehindEnd fixed all said answers w
starved_behind fixed all said answers v w live s =
    let is : w.machine.failure ≡ Some no_memory = s.failure ∙ ap (λ (f : Option Error). Some (unwrap_or f no_memory)) live in
    record {
      phase = λ none. none_some _ (sym none ∙ is);
      place = λ none. none_some _ (sym none ∙ is);
      made_for = λ none. none_some _ (sym none ∙ is);
      tail = λ none. none_some _ (sym none ∙ is);
      blame = λ e some. Memory (same_Some e no_memory (sym some ∙ is));
    }

kept_over : (o : Option Error) (ph : Phase) (piece : List ℕ) (r : Record) → (kept_at o ph piece r).over ≡ r.over
kept_over (Some e) ph piece r = refl
kept_over None WaitingStart piece r = refl
kept_over None WaitingReplayEntries piece r = refl
kept_over None Replaying piece r = refl
kept_over None Processing piece r = refl
kept_over None Closed piece r = refl

-- before the end a VM is open, so that no piece is late
kept_late : (o : Option Error) (ph : Phase) (piece : List ℕ) (r : Record) → (o ≡ None → ph ≢ Closed) → r.late ≡ [] → (kept_at o ph piece r).late ≡ []
kept_late (Some e) ph piece r open_yet none = none
kept_late None WaitingStart piece r open_yet none = none
kept_late None WaitingReplayEntries piece r open_yet none = none
kept_late None Replaying piece r open_yet none = none
kept_late None Processing piece r open_yet none = none
kept_late None Closed piece r open_yet none = absurd (open_yet refl refl)

-- a piece is fed after the end, to a VM that hasn't failed
late_at : (fixed : Fixed) (r : Record) (piece : List ℕ) → BehindEnd fixed (all_heard fixed.version r) (all_said r) r.answers r.vm → (o : Option Error) → r.vm.machine.failure ≡ o → (ph : Phase) → r.vm.machine.phase ≡ ph → (let k = kept_at o ph piece r in BehindEnd fixed (all_heard fixed.version k) (all_said k) k.answers (after_input r.vm piece))
late_at fixed r piece k (Some e) is ph at = subst (BehindEnd fixed (all_heard fixed.version r) (all_said r) r.answers) (sym (piece_dropped r.vm piece e is)) k
late_at fixed r piece k None is WaitingStart at = absurd (let z : WaitingStart ≡ Closed = sym at ∙ k.phase is in cc)
late_at fixed r piece k None is WaitingReplayEntries at = absurd (let z : WaitingReplayEntries ≡ Closed = sym at ∙ k.phase is in cc)
late_at fixed r piece k None is Replaying at = absurd (let z : Replaying ≡ Closed = sym at ∙ k.phase is in cc)
late_at fixed r piece k None is Processing at = absurd (let z : Processing ≡ Closed = sym at ∙ k.phase is in cc)
late_at fixed r piece k None is Closed at =
    subst (λ l. BehindEnd fixed (with_pieces l (heard fixed.version r)) (all_said r) r.answers (after_input r.vm piece)) (append_assoc r.fed r.late (fed_now piece r ∷ [])) (late_piece fixed (all_heard fixed.version r) (all_said r) r.answers r.vm (fed_now piece r) k is)

-- the same if memory ran out
late_starved : (fixed : Fixed) (r : Record) (piece : List ℕ) (w : View) → StarvesAmong (messages_in_bytes r.vm piece) r.vm.machine w.machine → (let k = with_piece_kept piece r in BehindEnd fixed (all_heard fixed.version k) (all_said k) k.answers w)
late_starved fixed r piece w s = starved_behind fixed _ _ _ s.reached w s.live s.starved

feeds_late : (fixed : Fixed) (piece : List ℕ) (old : Record) (result : Result Unit AllocError) (new : Record) → IsBlamed fixed old → (over : Option Progress) → old.over ≡ over → LateBy over fixed old → FeedsPiece piece old result new → LateBy over fixed new
feeds_late fixed piece old (Ok t) new b None going k does = subst (LateBy None fixed) (sym does) (kept_late old.vm.machine.failure old.vm.machine.phase piece old (b.open_yet going) k)
feeds_late fixed piece old (Err e) new b None going k does =
    ⊎_elim
    (λ (x : new ≡ record old { starved = true }). subst (LateBy None fixed) (sym x) k)
    (λ (x : (w : View) × StarvesAmong (messages_in_bytes old.vm piece) old.vm.machine w.machine × (new ≡ with_vm w (with_piece_kept piece old))). subst (LateBy None fixed) (sym x.2) (kept_late old.vm.machine.failure old.vm.machine.phase piece old (b.open_yet going) k))
    does
feeds_late fixed piece old (Ok t) new b (Some p) over k does = subst (LateBy (Some p) fixed) (sym does) (late_at fixed old piece k old.vm.machine.failure refl old.vm.machine.phase refl)
feeds_late fixed piece old (Err e) new b (Some p) over k does =
    ⊎_elim
    (λ (x : new ≡ record old { starved = true }). subst (LateBy (Some p) fixed) (sym x) k)
    (λ (x : (w : View) × StarvesAmong (messages_in_bytes old.vm piece) old.vm.machine w.machine × (new ≡ with_vm w (with_piece_kept piece old))). subst (LateBy (Some p) fixed) (sym x.2) (late_starved fixed old piece x.0 x.1))
    does

pub feeds_over : (piece : List ℕ) (old : Record) (result : Result Unit AllocError) (new : Record) → FeedsPiece piece old result new → new.over ≡ old.over
feeds_over piece old (Ok t) new does = ap (λ (r : Record). r.over) does ∙ kept_over old.vm.machine.failure old.vm.machine.phase piece old
feeds_over piece old (Err e) new does =
    ⊎_elim
    (λ (x : new ≡ record old { starved = true }). ap (λ (r : Record). r.over) x)
    (λ (x : (w : View) × StarvesAmong (messages_in_bytes old.vm piece) old.vm.machine w.machine × (new ≡ with_vm w (with_piece_kept piece old))). ap (λ (r : Record). r.over) x.2 ∙ kept_over old.vm.machine.failure old.vm.machine.phase piece old)
    does

pub feed_late : (fixed : Fixed) (piece : List ℕ) (old : Record) (result : Result Unit AllocError) (new : Record) → IsBlamed fixed old → IsLate fixed old → FeedDoes old.starved piece old result new → IsLate fixed new
feed_late fixed piece old result new b k does = by_test old.starved does
  where
    by_test : (t : Bool) → FeedDoes t piece old result new → IsLate fixed new
    by_test true d = subst (IsLate fixed) (sym d.1) k
    by_test false d = subst (λ o. LateBy o fixed new) (sym (feeds_over piece old result new d)) (feeds_late fixed piece old result new b old.over refl k d)

-- ---- closing

closes_behind : (fixed : Fixed) (r : Record) → BehindEnd fixed (all_heard fixed.version r) (all_said r) r.answers r.vm → (o : Option Error) → r.vm.machine.failure ≡ o → BehindEnd fixed (all_heard fixed.version r) (closed_now (all_said r)) r.answers (after_closing r.vm)
closes_behind fixed r k (Some e) is =
    subst (λ w. BehindEnd fixed (all_heard fixed.version r) (closed_now (all_said r)) r.answers (record r.vm { machine = w })) (closing_not r.vm e is)
    (record { phase = k.phase; place = k.place; made_for = k.made_for; tail = k.tail; blame = λ d some. closed_blame fixed (all_heard fixed.version r) (all_said r) r.answers d (k.blame d some) })
closes_behind fixed r k None is =
    subst (λ w. BehindEnd fixed (all_heard fixed.version r) (closed_now (all_said r)) r.answers (record r.vm { machine = w })) (closing_at r.vm is Closed (k.phase is))
    (record { phase = λ _. k.phase is; place = λ _. k.place is; made_for = λ _. k.made_for is; tail = λ _. k.tail is; blame = λ d some. none_some d (sym is ∙ some) })

closes_late : (fixed : Fixed) (old : Record) (result : Result Unit AllocError) (new : Record) → (over : Option Progress) → LateBy over fixed old → InputIsClosed old result new → LateBy over fixed new
closes_late fixed old (Ok t) new None k does = subst (LateBy None fixed) (sym does) k
closes_late fixed old (Err e) new None k does = subst (LateBy None fixed) (sym does.2) k
closes_late fixed old (Ok t) new (Some p) k does = subst (LateBy (Some p) fixed) (sym does) (closes_behind fixed old k old.vm.machine.failure refl)
closes_late fixed old (Err e) new (Some p) k does = subst (LateBy (Some p) fixed) (sym does.2) (starved_behind fixed _ _ _ does.1.reached does.0 does.1.live does.1.starved)

pub closes_over : (old : Record) (result : Result Unit AllocError) (new : Record) → InputIsClosed old result new → new.over ≡ old.over
closes_over old (Ok t) new does = ap (λ (r : Record). r.over) does
closes_over old (Err e) new does = ap (λ (r : Record). r.over) does.2

pub close_late : (fixed : Fixed) (old : Record) (result : Result Unit AllocError) (new : Record) → IsLate fixed old → CloseDoes old.starved old result new → IsLate fixed new
close_late fixed old result new k does = by_test old.starved does
  where
    by_test : (t : Bool) → CloseDoes t old result new → IsLate fixed new
    by_test true d = subst (IsLate fixed) (sym d.1) k
    by_test false d = subst (λ o. LateBy o fixed new) (sym (closes_over old result new d)) (closes_late fixed old result new old.over k d)

-- ---- the output

takes_late : (fixed : Fixed) (r : Record) → (over : Option Progress) → LateBy over fixed r → LateBy over fixed (output_taken r)
takes_late fixed r None k = k
takes_late fixed r (Some p) k = record { phase = k.phase; place = k.place; made_for = k.made_for; tail = k.tail; blame = k.blame }

pub take_late : (fixed : Fixed) (old : Record) (result : Result (List ℕ) AllocError) (new : Record) → IsLate fixed old → Takes old result new → IsLate fixed new
take_late fixed old (Ok bytes) new k does = subst (IsLate fixed) (sym does.1) (takes_late fixed old old.over k)
take_late fixed old (Err e) new k does = subst (IsLate fixed) (sym does) k

-- ---- a step

-- by this call the attempt is over
ends_behind : (fixed : Fixed) (r : Record) (w : View) → JournalCame fixed (heard fixed.version r) r.answers r.taken r.vm → IsLive r.vm.machine → r.late ≡ [] → w.undecoded ≡ r.vm.undecoded → w.machine.failure ≡ r.vm.machine.failure → w.machine.phase ≡ Closed → w.machine.version ≡ r.vm.machine.version → w.machine.options ≡ r.vm.machine.options → BehindEnd fixed (all_heard fixed.version r) (all_said r) r.answers w
ends_behind fixed r w c live none und failure at ver opt =
    let j = c.journal in
    let made = c.made_for live in
    let all : heard fixed.version r ≡ all_heard fixed.version r = ap (λ l. with_pieces l (heard fixed.version r)) (sym (append-nil r.fed) ∙ ap (λ l. r.fed ++ l) (sym none)) in
    subst (λ l. BehindEnd fixed l (all_said r) r.answers w) all
    (record {
      phase = λ _. at;
      place = λ _. record { first = j.first_frame; others = j.entries ++ j.others; is = j.frames; start = j.start; reads = j.reads_start; counts = enough (length j.entries) (length j.others) (length (j.entries ++ j.others)) j.start.known_entries j.count (length-append j.entries j.others) };
      made_for = λ _. (ver ∙ made.0, opt ∙ made.1);
      tail = λ _. c.tail live ∙ ap Rest (sym und);
      blame = λ e some. none_some e (sym (failure ∙ live.failure) ∙ some);
    })
  where
    enough : (a c n known : ℕ) → a ≡ known → n ≡ a + c → known ≤ n
    enough a c n known e f = omega (arith, e, f)

asks_late : (fixed : Fixed) (old : Record) (result : Result Progress Error) (new : Record) → JournalCame fixed (heard fixed.version old) old.answers old.taken old.vm → IsLive old.vm.machine → old.over ≡ None → old.late ≡ [] → MakesStep fixed.handler old result new → IsLate fixed new
asks_late fixed old result new c live going none (x, w, does, is, made) = subst (IsLate fixed) (sym is) (by_reply x (step_leaves (step_asked fixed.handler old) old.vm.machine live x w.machine does.0.0))
  where
    on : (r : Record) → r.over ≡ old.over → r.late ≡ old.late → IsLate fixed r
    on r over late = subst (λ o. LateBy o fixed r) (sym (over ∙ going)) (late ∙ none)

    by_reply : (x : Result Reply Error) → IsLeft old.vm.machine x w.machine → IsLate fixed (replied old (future_in (step_asked fixed.handler old)) x w)
    by_reply (Ok (reply.Answer a)) h = on (replied old (future_in (step_asked fixed.handler old)) (Ok (reply.Answer a)) w) refl refl
    by_reply (Ok (reply.Waiting input run)) h = on (replied old (future_in (step_asked fixed.handler old)) (Ok (reply.Waiting input run)) w) refl refl
    by_reply (Ok (reply.Execute run)) h = on (replied old (future_in (step_asked fixed.handler old)) (Ok (reply.Execute run)) w) refl refl
    by_reply (Ok reply.Suspended) h = ends_behind fixed old w c live none does.0.1 h.failure h.left h.sends.version h.sends.options
    by_reply (Ok reply.Ended) h = ends_behind fixed old w c live none does.0.1 h.failure h.left h.sends.version h.sends.options
    by_reply (Err e) h = on (replied old (future_in (step_asked fixed.handler old)) (Err e) w) refl refl

reads_late : (fixed : Fixed) (old : Record) (result : Result Progress Error) (new : Record) → old.over ≡ None → old.late ≡ [] → InputIsRead old result new → IsLate fixed new
reads_late fixed old (Ok made) new going none does = subst (IsLate fixed) (sym does.1.3) (subst (λ o. LateBy o fixed (record old { answers = answer.Input does.1.0 ∷ []; vm = does.1.1 })) (sym going) none)
reads_late fixed old (Err e) new going none does = subst (IsLate fixed) (sym does.2) (subst (λ o. LateBy o fixed (record old { vm = does.0 })) (sym going) none)

advances_late : (fixed : Fixed) (old : Record) (result : Result Progress Error) (new : Record) → HasCome fixed old → IsLive old.vm.machine → old.over ≡ None → IsLate fixed old → old.late ≡ [] → Advances fixed.handler old result new → IsLate fixed new
advances_late fixed old result new k live going l none =
    ⊎_elim
    (λ (x : LacksMemory old result new). subst (IsLate fixed) (sym x.1) (subst (λ o. LateBy o fixed (record old { starved = true })) (sym going) none))
    (λ (o : ((old.answers ≡ []) × InputIsRead old result new) ⊎ ((old.answers ≢ []) × MakesStep fixed.handler old result new)).
    ⊎_elim
    (λ (x : (old.answers ≡ []) × InputIsRead old result new). reads_late fixed old result new going none x.1)
    (λ (x : (old.answers ≢ []) × MakesStep fixed.handler old result new).
    ⊎_elim
    (λ (y : BeforeInput fixed (heard fixed.version old) old.answers old.waiting old.taken old.vm). absurd (x.0 y.answers))
    (λ (y : JournalCame fixed (heard fixed.version old) old.answers old.taken old.vm). asks_late fixed old result new y live going none x.1)
    k)
    o)

late_by_phase : (fixed : Fixed) (old : Record) (result : Result Progress Error) (new : Record) → HasCome fixed old → IsLate fixed old → old.over ≡ None → old.late ≡ [] → old.vm.machine.failure ≡ None → (ph : Phase) → old.vm.machine.phase ≡ ph → StepAt ph fixed.handler old result new → IsLate fixed new
late_by_phase fixed old result new k l going none live WaitingStart at d = subst (IsLate fixed) (sym d.1) l
late_by_phase fixed old result new k l going none live WaitingReplayEntries at d = subst (IsLate fixed) (sym d.1) l
late_by_phase fixed old result new k l going none live Closed at d = subst (IsLate fixed) (sym d.1) l
late_by_phase fixed old result new k l going none live Replaying at d = advances_late fixed old result new k (record { failure = live; phase = ap is_running at }) going l none d
late_by_phase fixed old result new k l going none live Processing at d = advances_late fixed old result new k (record { failure = live; phase = ap is_running at }) going l none d

late_unless : (fixed : Fixed) (old : Record) (result : Result Progress Error) (new : Record) → HasCome fixed old → IsLate fixed old → (f : Option Error) → old.vm.machine.failure ≡ f → (over : Option Progress) → old.over ≡ over → LateBy over fixed old → StepUnless f over fixed.handler old result new → IsLate fixed new
late_unless fixed old result new k l (Some e) is over at by d = subst (IsLate fixed) (sym d.1) l
late_unless fixed old result new k l None is (Some made) at by d = subst (IsLate fixed) (sym d.1) l
late_unless fixed old result new k l None is None at by d = late_by_phase fixed old result new k l at by is old.vm.machine.phase refl d

pub step_late : (fixed : Fixed) (old : Record) (result : Result Progress Error) (new : Record) → HasCome fixed old → IsLate fixed old → StepDoes fixed.handler old result new → IsLate fixed new
step_late fixed old result new k l does = by_test old.starved does
  where
    by_test : (t : Bool) → StepFrom t fixed.handler old result new → IsLate fixed new
    by_test true d = subst (IsLate fixed) (sym d.1) l
    by_test false d = late_unless fixed old result new k l old.vm.machine.failure refl old.over refl l d

-- ---- the error of a step

-- an error while the attempt isn't over
open_blame : (fixed : Fixed) (old : Record) (result : Result Progress Error) (new : Record) → old.over ≡ None → IsBlamed fixed new → IsLate fixed new → Errs old result new → IfError result (λ e. KeptBlame fixed (all_heard fixed.version new) (all_said new) new.answers e)
open_blame fixed old (Ok made) new going b l h = tt
open_blame fixed old (Err e) new going b l h =
    ⊎_elim
    (λ (x : e ≡ no_memory). Memory x)
    (λ (x : (new.vm.machine.failure ≡ Some e) × (new.over ≡ old.over)).
    let over : new.over ≡ None = x.1 ∙ going in
    let none : new.late ≡ [] = subst (λ o. LateBy o fixed new) over l in
    subst (λ fed. KeptBlame fixed fed (all_said new) new.answers e) (ap (λ l. with_pieces l (heard fixed.version new)) (sym (append-nil new.fed) ∙ ap (λ l. new.fed ++ l) (sym none))) (b.blame over e x.0))
    h

-- an error once the attempt is over
over_blame : (fixed : Fixed) (made : Progress) (old : Record) (result : Result Progress Error) (new : Record) → LateBy (Some made) fixed old → (f : Option Error) → old.vm.machine.failure ≡ f → StepUnless f (Some made) fixed.handler old result new → IfError result (λ e. KeptBlame fixed (all_heard fixed.version new) (all_said new) new.answers e)
over_blame fixed made old result new l (Some e) is d =
    ⊎_elim
    (λ (x : result ≡ Err e). subst (λ z. IfError z (λ e. KeptBlame fixed (all_heard fixed.version new) (all_said new) new.answers e)) (sym x) (subst (λ (r : Record). KeptBlame fixed (all_heard fixed.version r) (all_said r) r.answers e) (sym d.1) (l.blame e is)))
    (λ (x : result ≡ Err no_memory). subst (λ z. IfError z (λ e. KeptBlame fixed (all_heard fixed.version new) (all_said new) new.answers e)) (sym x) (Memory refl))
    d.0
over_blame fixed made old result new l None is d = subst (λ z. IfError z (λ e. KeptBlame fixed (all_heard fixed.version new) (all_said new) new.answers e)) (sym d.0) tt

-- an error of a step has a reason
pub step_blame : (fixed : Fixed) (old : Record) (result : Result Progress Error) (new : Record) → HasCome fixed old → IsKeptUnder fixed old → IsBlamed fixed old → IsLate fixed old → StepDoes fixed.handler old result new → IfError result (λ e. KeptBlame fixed (all_heard fixed.version new) (all_said new) new.answers e)
step_blame fixed old result new k u b l does = by_over old.over refl l
  where
    by_test : (made : Progress) → LateBy (Some made) fixed old → (t : Bool) → StepFrom t fixed.handler old result new → old.over ≡ Some made → IfError result (λ e. KeptBlame fixed (all_heard fixed.version new) (all_said new) new.answers e)
    by_test made l true d over = subst (λ z. IfError z (λ e. KeptBlame fixed (all_heard fixed.version new) (all_said new) new.answers e)) (sym d.0) (Memory refl)
    by_test made l false d over = over_blame fixed made old result new l old.vm.machine.failure refl (subst (λ o. StepUnless old.vm.machine.failure o fixed.handler old result new) over d)

    by_over : (over : Option Progress) → old.over ≡ over → LateBy over fixed old → IfError result (λ e. KeptBlame fixed (all_heard fixed.version new) (all_said new) new.answers e)
    by_over None going l' = open_blame fixed old result new going (step_blames fixed old result new k u b does) (step_late fixed old result new k l does) (step_errs fixed old result new b going does)
    by_over (Some made) over l' = by_test made l' old.starved does over
