-- A round on its way, and the journal that it leaves.
use Rattle.std.proofs.Common.{◌≡◌, inl, ⊎_elim, ℕ, Bool, true, false, cond, List, [], ◌∷◌, ◌++◌, take, drop, map, Option, Some, None, refl, sym, ap, ◌∙◌, subst, append_assoc, append-nil}
use Rattle.std.specs.Prelude.{◌||◌, is_some}
use Rattle.std.specs.List.{AllByRecursion, concat, flat_map}
use Rattle.std.proofs.lemmas.List.{take-append-drop}
use Rattle.std.proofs.lemmas.List.Folds.{concat-append}
use Rattle.journal_protocol.specs.Error.{Error}
use Rattle.journal_protocol.specs.Version.{Version}
use Rattle.journal_protocol.specs.RawMessage.{RawMessage}
use Rattle.journal_protocol.specs.Notification.{Notification}
use Rattle.journal_protocol.specs.Bodies.{notification_in}
use Rattle.journal_entries.specs.Frames.{Tail, frames_of}
use Rattle.journal_protocol.specs.ProposeRunCompletion.{ProposeRunCompletion}
use Rattle.vm_model.specs.Calls.{Meaning}
use Rattle.vm_model.specs.Histories.{IsPrefix}
use Rattle.vm_attempt.specs.Heard.{proposals_among, proposals_in}
use Rattle.journal_entries.specs.JournalFrames.{commands_among, is_command_frame, is_notification, notified_by}
use Rattle.vm_attempt.specs.Record.{Record, bytes_written}
use Rattle.vm_attempt.specs.Stepping.{output_taken}
use Rattle.vm_attempt.specs.Told.{bytes_in}
use Rattle.vm_attempt.proofs.Pieces.{commands_append}
use Rattle.vm_attempt.proofs.Quiet.{proposals_append}
use Rattle.world_rounds.specs.declared.types.Event.{Event}
use Rattle.world_rounds.specs.declared.types.Event.TheVariants as event
use Rattle.journal_entries.specs.Arrivals.{arrival_fault}
use Rattle.journal_entries.specs.Entries.{AreEntries, frame_in, framed_by, journal_frames, may_stand, note_in, note_of, notes_in, read_from}
use Rattle.world_rounds.specs.Rounds.{ArrivalsDo, Happen, Happens, Now, Pieces, StepHappens}
use Rattle.journal_entries.specs.Storing.{Stores, stored_as, waits_behind, written_among}
use Rattle.world_rounds.specs.Worlds.{IsJournal}
use Rattle.journal_entries.proofs.Framing.{AreFrames, entry_framed, frames_append, front_grows, in_front, join, note_no_command, notes_append}
use Rattle.world_rounds.proofs.Going.{Hears, IsOpen, Stepped, Takes, TakesAll, all_fed, closes, fed, finishes, keeps_all, prefix_then, stepped}
use Rattle.world_rounds.proofs.Once.{has_room, is_new}
use Rattle.world_rounds.proofs.Repeating.{steps_keep}
use Rattle.world_rounds.proofs.Settled.{Brings, IsTaken, answers, answers_taken, are_items, brings_answers, brings_note, commands_are, completion, items_enter, items_keep, note_keeps, proposal_in_item, proposals_answered, proposals_are, taken_append, waits_framed}

-- ---- one entry more

-- the frame of a notification
record NoteFrame (x : List ℕ) (n : Notification) : Type 0 where
  raw : RawMessage
  is : frame_in x ≡ Some raw
  kind : is_notification raw ≡ true
  note : note_of raw ≡ Some n
  reads : notification_in raw.body ≡ Some n

note_frame : (x : List ℕ) (n : Notification) → note_in x ≡ Some n → NoteFrame x n
note_frame x n e = by_frame (frame_in x) refl e
  where
    by_kind : (raw : RawMessage) (b : Bool) → is_notification raw ≡ b → cond b (notification_in raw.body) None ≡ Some n → is_notification raw ≡ true
    by_kind raw true is h = is
    by_kind raw false is h = absurd (cc)

    by_frame : (o : Option RawMessage) → frame_in x ≡ o → read_from note_of o ≡ Some n → NoteFrame x n
    by_frame None is h = absurd (cc)
    by_frame (Some raw) is h = let kind = by_kind raw (is_notification raw) refl h in record { raw = raw; is = is; kind = kind; note = h; reads = sym (ap (λ b. cond b (notification_in raw.body) None) kind) ∙ h }

-- An arrival is an entry without a command.
pub record OneNote (x : List ℕ) : Type 0 where
  pub stands : AreEntries (x ∷ [])
  pub none : commands_among (journal_frames (x ∷ [])) ≡ []

pub one_note : (x : List ℕ) (n : Notification) → note_in x ≡ Some n → OneNote x
one_note x n e =
    let f = note_frame x n e in
    record {
      stands = (ap may_stand f.is ∙ may f.raw f.note, tt);
      none = ap (λ o. commands_among (framed_by o [])) f.is ∙ ap (λ b. cond b (f.raw ∷ []) []) (note_no_command f.raw f.kind);
    }
  where
    by_test : (b : Bool) (o : Option Notification) → o ≡ Some n → (b || is_some o) ≡ true
    by_test true o h = refl
    by_test false o h = ap is_some h

    may : (raw : RawMessage) → note_of raw ≡ Some n → may_stand (Some raw) ≡ true
    may raw h = by_test (is_command_frame raw) (note_of raw) h

-- a journal and an arrival without a fault
pub arrival_keeps : (journal : List (List ℕ)) (x : List ℕ) → arrival_fault x journal ≡ None → IsJournal journal → IsJournal (journal ++ x ∷ [])
arrival_keeps journal x e j =
    let new = is_new x journal e in
    let one = one_note x new.note new.reads in
    note_keeps journal x new (has_room x journal e) one.stands one.none j

-- ---- a round on its way

-- What was delivered and what waits are Start, the journal from before, and what came after it. Some frames of the output were looked
-- at, and the journal has grown by what is stored of them and by what arrived: what came after the first journal brings its
-- notifications.
pub record Going (version : Version) (start : List ℕ) (first : List (List ℕ)) (now : Now) : Type 0 where
  pub made_for : now.version ≡ version
  pub bytes : List ℕ
  pub came : List RawMessage
  pub framed : AreFrames bytes came
  pub delivered : List ℕ
  pub all : delivered ++ now.waiting ≡ start ++ (concat first ++ bytes)
  pub fed_front : IsPrefix (bytes_in now.attempt.fed) delivered
  pub fed_open : IsOpen now.attempt → bytes_in now.attempt.fed ≡ delivered
  pub all_front : IsPrefix (all_fed now.attempt) delivered
  pub all_open : Hears now.attempt → all_fed now.attempt ≡ delivered
  pub none_late : IsOpen now.attempt → now.attempt.late ≡ []
  pub output_is : concat now.attempt.taken ≡ now.output
  pub scanned : List RawMessage
  pub output_frames : frames_of now.output ≡ in_front scanned (frames_of now.unstored)
  pub proposed : IsPrefix (proposals_among scanned) now.attempt.proposed
  pub added : List (List ℕ)
  pub extends : now.journal ≡ first ++ added
  pub commands : commands_among (journal_frames added) ≡ commands_among scanned
  pub brings : Brings version (proposals_among scanned) came (notes_in added)
  pub taken : AllByRecursion IsTaken came
  pub journal : IsJournal now.journal

module _ (m : Meaning) (version : Version) (start : List ℕ) (first : List (List ℕ)) where
  -- the attempt alone has changed, and was fed nothing
  acts : (now : Now) (r : Record) (closed : Bool) (error : Option Error) → Stepped now.attempt r → Going version start first now → Going version start first (record now { attempt = r; closed = closed; error = error })
  acts now r closed error s g = record {
    made_for = g.made_for;
    bytes = g.bytes;
    came = g.came;
    framed = g.framed;
    delivered = g.delivered;
    all = g.all;
    fed_front = subst (λ f. IsPrefix (bytes_in f) g.delivered) (sym s.fed) g.fed_front;
    fed_open = λ o. ap bytes_in s.fed ∙ g.fed_open (s.opens o);
    all_front = subst (λ b. IsPrefix b g.delivered) (λ i. bytes_in (sym s.fed i ++ sym s.late i)) g.all_front;
    all_open = λ o. (λ i. bytes_in (s.fed i ++ s.late i)) ∙ g.all_open (s.hears o);
    none_late = λ o. s.late ∙ g.none_late (s.opens o);
    output_is = ap concat s.taken ∙ g.output_is;
    scanned = g.scanned;
    output_frames = g.output_frames;
    proposed = prefix_then (proposals_among g.scanned) now.attempt.proposed r.proposed g.proposed s.proposed;
    added = g.added;
    extends = g.extends;
    commands = g.commands;
    brings = g.brings;
    taken = g.taken;
    journal = g.journal;
  }

  takes : (now : Now) (piece rest : List ℕ) (r : Record) (error : Option Error) → now.waiting ≡ piece ++ rest → Takes piece now.attempt r → TakesAll piece now.attempt r → (IsOpen r → r.late ≡ []) → r.taken ≡ now.attempt.taken → r.proposed ≡ now.attempt.proposed → Going version start first now → Going version start first (record now { waiting = rest; attempt = r; error = error })
  takes now piece rest r error is t kept early same none g = record {
    made_for = g.made_for;
    bytes = g.bytes;
    came = g.came;
    framed = g.framed;
    delivered = g.delivered ++ piece;
    all = append_assoc g.delivered piece rest ∙ ap (λ l. g.delivered ++ l) (sym is) ∙ g.all;
    fed_front = ⊎_elim
        (λ (x : (bytes_in r.fed ≡ bytes_in now.attempt.fed) × (IsOpen r → ⊥)). front x.0)
        (λ (x : IsOpen now.attempt × (bytes_in r.fed ≡ bytes_in now.attempt.fed ++ piece)). whole x.0 x.1)
        t;
    fed_open = ⊎_elim
        (λ (x : (bytes_in r.fed ≡ bytes_in now.attempt.fed) × (IsOpen r → ⊥)). λ o. absurd (x.1 o))
        (λ (x : IsOpen now.attempt × (bytes_in r.fed ≡ bytes_in now.attempt.fed ++ piece)). λ o. x.1 ∙ ap (λ l. l ++ piece) (g.fed_open x.0))
        t;
    all_front = ⊎_elim
        (λ (x : (all_fed r ≡ all_fed now.attempt) × (Hears r → ⊥)). longer x.0)
        (λ (x : Hears now.attempt × (all_fed r ≡ all_fed now.attempt ++ piece)). ([], ap (λ l. l ++ piece) (sym (g.all_open x.0)) ∙ sym x.1 ∙ sym (append-nil (all_fed r))))
        kept;
    all_open = ⊎_elim
        (λ (x : (all_fed r ≡ all_fed now.attempt) × (Hears r → ⊥)). λ o. absurd (x.1 o))
        (λ (x : Hears now.attempt × (all_fed r ≡ all_fed now.attempt ++ piece)). λ o. x.1 ∙ ap (λ l. l ++ piece) (g.all_open x.0))
        kept;
    none_late = early;
    output_is = ap concat same ∙ g.output_is;
    scanned = g.scanned;
    output_frames = g.output_frames;
    proposed = subst (IsPrefix (proposals_among g.scanned)) (sym none) g.proposed;
    added = g.added;
    extends = g.extends;
    commands = g.commands;
    brings = g.brings;
    taken = g.taken;
    journal = g.journal;
  }
    where
      front : bytes_in r.fed ≡ bytes_in now.attempt.fed → IsPrefix (bytes_in r.fed) (g.delivered ++ piece)
      front e = (g.fed_front.0 ++ piece, ap (λ l. l ++ piece) g.fed_front.1 ∙ append_assoc (bytes_in now.attempt.fed) g.fed_front.0 piece ∙ ap (λ l. l ++ (g.fed_front.0 ++ piece)) (sym e))

      longer : all_fed r ≡ all_fed now.attempt → IsPrefix (all_fed r) (g.delivered ++ piece)
      longer e = (g.all_front.0 ++ piece, ap (λ l. l ++ piece) g.all_front.1 ∙ append_assoc (all_fed now.attempt) g.all_front.0 piece ∙ ap (λ l. l ++ (g.all_front.0 ++ piece)) (sym e))

      whole : IsOpen now.attempt → bytes_in r.fed ≡ bytes_in now.attempt.fed ++ piece → IsPrefix (bytes_in r.fed) (g.delivered ++ piece)
      whole o e = ([], ap (λ l. l ++ piece) (sym (g.fed_open o)) ∙ sym e ∙ sym (append-nil (bytes_in r.fed)))

  pieces : (closed : Bool) (n : ℕ) (now new : Now) → Pieces closed n now new → Going version start first now → Going version start first new
  pieces true n now new d g = subst (Going version start first) (sym d) g
  pieces false n now new (result, r, d, is) g =
      let t = fed (take n now.waiting) now.attempt result r d in
      let k = keeps_all (take n now.waiting) now.attempt result r g.none_late d in
      subst (Going version start first) (sym is) (takes now (take n now.waiting) (drop n now.waiting) r _ (sym (take-append-drop n now.waiting)) t.0 k.0 k.1 t.1 t.2 g)

  -- more bytes wait after all that came
  more_waits : (now : Now) (x : List ℕ) (g : Going version start first now) → g.delivered ++ (now.waiting ++ x) ≡ start ++ (concat first ++ (g.bytes ++ x))
  more_waits now x g = sym (append_assoc g.delivered now.waiting x) ∙ ap (λ l. l ++ x) g.all ∙ append_assoc start (concat first ++ g.bytes) x ∙ ap (λ l. start ++ l) (append_assoc (concat first) g.bytes x)

  arrives : (now : Now) (x : List ℕ) → arrival_fault x now.journal ≡ None → Going version start first now → Going version start first (record now { journal = now.journal ++ x ∷ []; waiting = now.waiting ++ x })
  arrives now x e g =
      let new = is_new x now.journal e in
      let one = one_note x new.note new.reads in
      let f = note_frame x new.note new.reads in
      let notes : notes_in (g.added ++ x ∷ []) ≡ notes_in g.added ++ new.note ∷ [] = notes_append g.added (x ∷ []) ∙ ap (λ o. notes_in g.added ++ notified_by o []) new.reads in
      record {
        made_for = g.made_for;
        bytes = g.bytes ++ x;
        came = g.came ++ f.raw ∷ [];
        framed = join g.bytes x g.came (f.raw ∷ []) g.framed (entry_framed x f.raw f.is);
        delivered = g.delivered;
        all = more_waits now x g;
        fed_front = g.fed_front;
        fed_open = g.fed_open;
        all_front = g.all_front;
        all_open = g.all_open;
        none_late = g.none_late;
        output_is = g.output_is;
        scanned = g.scanned;
        output_frames = g.output_frames;
        proposed = g.proposed;
        added = g.added ++ x ∷ [];
        extends = ap (λ l. l ++ x ∷ []) g.extends ∙ append_assoc first g.added (x ∷ []);
        commands = ap commands_among (frames_append g.added (x ∷ [])) ∙ commands_append (journal_frames g.added) (journal_frames (x ∷ [])) ∙ ap (λ l. commands_among (journal_frames g.added) ++ l) one.none ∙ append-nil (commands_among (journal_frames g.added)) ∙ g.commands;
        brings = subst (Brings version (proposals_among g.scanned) (g.came ++ f.raw ∷ [])) (sym notes) (brings_note version (proposals_among g.scanned) g.came (notes_in g.added) f.raw new.note f.kind f.reads g.brings);
        taken = taken_append g.came (f.raw ∷ []) g.taken (inl (f.kind, ap is_some f.reads), tt);
        journal = arrival_keeps now.journal x e g.journal;
      }

  stores : (n : ℕ) (now : Now) (journal : List (List ℕ)) (waiting unstored : List ℕ) → Stores version n (now.unstored ++ concat now.attempt.vm.machine.output) now.journal now.waiting journal waiting unstored → now.attempt.proposed ≡ proposals_in (bytes_written now.attempt) → Going version start first now
      → Going version start first (record now { journal = journal; waiting = waiting; output = now.output ++ concat now.attempt.vm.machine.output; unstored = unstored; attempt = output_taken now.attempt })
  stores n now journal waiting unstored s proposed g =
      let more = concat now.attempt.vm.machine.output in
      let W = written_among s.seen in
      let items = are_items version s.seen s.readable in
      let enter = items_enter version W items in
      let ps = flat_map proposal_in_item W in
      let stored : proposals_among (g.scanned ++ s.seen) ≡ proposals_among g.scanned ++ ps = proposals_append g.scanned s.seen ∙ ap (λ l. proposals_among g.scanned ++ l) (sym (proposals_are s.seen)) in
      let frames : frames_of (now.output ++ more) ≡ in_front (g.scanned ++ s.seen) (frames_of unstored) = front_grows now.output now.unstored more g.scanned g.output_frames ∙ ap (in_front g.scanned) s.frames ∙ ap (λ l. (l, (frames_of unstored).1)) (sym (append_assoc g.scanned s.seen (frames_of unstored).0)) in
      let notes : notes_in (g.added ++ map stored_as W) ≡ notes_in g.added ++ map completion ps = notes_append g.added (map stored_as W) ∙ ap (λ l. notes_in g.added ++ l) enter.1 in
      record {
        made_for = g.made_for;
        bytes = g.bytes ++ flat_map (waits_behind version) W;
        came = g.came ++ answers version ps;
        framed = join g.bytes (flat_map (waits_behind version) W) g.came (answers version ps) g.framed (waits_framed version W s.readable);
        delivered = g.delivered;
        all = ap (λ l. g.delivered ++ l) s.waits ∙ more_waits now (flat_map (waits_behind version) W) g;
        fed_front = g.fed_front;
        fed_open = λ o. g.fed_open (record { starved = o.starved; failure = o.failure; phase = o.phase });
        all_front = g.all_front;
        all_open = λ o. g.all_open (record { starved = o.starved; failure = o.failure });
        none_late = λ o. g.none_late (record { starved = o.starved; failure = o.failure; phase = o.phase });
        output_is = concat-append now.attempt.taken (more ∷ []) ∙ (λ i. g.output_is i ++ append-nil more i);
        scanned = g.scanned ++ s.seen;
        output_frames = frames;
        proposed = (proposals_among (frames_of unstored).0, proposed ∙ ap (λ b. proposals_in (b ++ more)) g.output_is ∙ ap (λ (p : List RawMessage × Tail). proposals_among p.0) frames ∙ proposals_append (g.scanned ++ s.seen) (frames_of unstored).0);
        added = g.added ++ map stored_as W;
        extends = s.stored ∙ ap (λ l. l ++ map stored_as W) g.extends ∙ append_assoc first g.added (map stored_as W);
        commands = ap commands_among (frames_append g.added (map stored_as W)) ∙ commands_append (journal_frames g.added) (journal_frames (map stored_as W)) ∙ (λ i. g.commands i ++ (enter.0 ∙ commands_are s.seen) i) ∙ sym (commands_append g.scanned s.seen);
        brings = subst (λ (x : List ProposeRunCompletion × List Notification). Brings version x.0 (g.came ++ answers version ps) x.1) (λ i. (sym stored i, sym notes i)) (brings_answers version (proposals_among g.scanned) ps g.came (notes_in g.added) (proposals_answered version W s.readable) g.brings);
        taken = taken_append g.came (answers version ps) g.taken (answers_taken version ps (proposals_answered version W s.readable));
        journal = subst IsJournal (sym s.stored) (items_keep version W now.journal items s.faultless g.journal);
      }

  step_keeps : (now new : Now) → StepHappens m now new → Going version start first now → Going version start first new
  step_keeps now new (result, r, d, is) g = subst (Going version start first) (sym is) (acts now r now.closed _ (stepped m now.attempt result r d) g)

  pub event_keeps : (e : Event) (now new : Now) → Happens m e now new → Going version start first now → Going version start first new
  event_keeps (event.Piece n) now new d g = pieces now.closed n now new d g
  event_keeps event.Close now new (result, r, d, is) g = subst (Going version start first) (sym is) (acts now r true _ (closes now.attempt result r d) g)
  event_keeps event.Step now new d g = step_keeps now new d g
  event_keeps (event.Steps n) now new d g = steps_keep m (Going version start first) step_keeps n now new d g
  event_keeps (event.RunResult handle exit policy) now new (result, r, d, is) g = subst (Going version start first) (sym is) (acts now r now.closed _ (finishes handle exit policy now.attempt result r d) g)
  event_keeps (event.Arrive x) now new (none, is) g = subst (Going version start first) (sym is) (arrives now x none g)
  event_keeps (event.Store n) now new (journal, waiting, unstored, s, is, whole, proposed) g =
      subst (Going version start first) (sym is) (stores n now journal waiting unstored (subst (λ v. Stores v n (now.unstored ++ concat now.attempt.vm.machine.output) now.journal now.waiting journal waiting unstored) g.made_for s) proposed g)

  pub events_keep : (es : List Event) (now new : Now) → Happen m es now new → Going version start first now → Going version start first new
  events_keep [] now new d g = subst (Going version start first) (sym d) g
  events_keep (e ∷ es) now new (mid, d, more) g = events_keep es mid new more (event_keeps e now mid d g)

-- ---- arrivals alone

-- the journal has grown by notifications
pub record Arrived (old new : List (List ℕ)) : Type 0 where
  pub added : List (List ℕ)
  pub extends : new ≡ old ++ added
  pub commands : commands_among (journal_frames added) ≡ []
  pub journal : IsJournal new

pub arrivals_keep : (es : List Event) (old new : List (List ℕ)) → IsJournal old → ArrivalsDo es old new → Arrived old new
arrivals_keep [] old new j d = record { added = []; extends = d ∙ sym (append-nil old); commands = refl; journal = subst IsJournal (sym d) j }
arrivals_keep (event.Arrive x ∷ es) old new j d =
    let h = arrivals_keep es (old ++ x ∷ []) new (arrival_keeps old x d.0 j) d.1 in
    let note = is_new x old d.0 in
    record {
      added = x ∷ h.added;
      extends = h.extends ∙ append_assoc old (x ∷ []) h.added;
      commands = ap commands_among (frames_append (x ∷ []) h.added) ∙ commands_append (journal_frames (x ∷ [])) (journal_frames h.added) ∙ (λ i. (one_note x note.note note.reads).none i ++ h.commands i);
      journal = h.journal;
    }
arrivals_keep (event.Piece n ∷ es) old new j d = arrivals_keep es old new j d
arrivals_keep (event.Close ∷ es) old new j d = arrivals_keep es old new j d
arrivals_keep (event.Step ∷ es) old new j d = arrivals_keep es old new j d
arrivals_keep (event.Steps n ∷ es) old new j d = arrivals_keep es old new j d
arrivals_keep (event.RunResult handle exit policy ∷ es) old new j d = arrivals_keep es old new j d
arrivals_keep (event.Store n ∷ es) old new j d = arrivals_keep es old new j d
