-- At each moment of a round over a history, what its attempt was fed is an honest attempt's.
use Rattle.std.proofs.Common.{◌≡◌, ◌≢◌, ⊎_elim, ℕ, suc, Bool, true, false, ◌||◌, List, [], ◌∷◌, ◌++◌, length, Option, Some, None, refl, sym, ap, ◌∙◌, subst, arith, append_assoc, append-nil}
use Rattle.std.specs.Prelude.{◌==◌, if◌then◌else◌}
use Rattle.std.specs.List.{AllByRecursion, concat}
use Rattle.std.proofs.lemmas.Bool.Decides.{nat_tests}
use Rattle.journal_protocol.specs.Start.{Start}
use Rattle.journal_protocol.specs.Types.{type_number}
use Rattle.journal_protocol.specs.RawMessage.{RawMessage}
use Rattle.journal_protocol.specs.Bodies.{message_in, start_in}
use Rattle.journal_protocol.specs.Notification.{Notification}
use Rattle.journal_entries.specs.Frames.{Garbage, Rest, Tail, frames_of, frames_joined}
use Rattle.journal_entries.proofs.Cuts.{frames_of-append}
use Rattle.vm_asks.specs.Carried.{all_carried}
use Rattle.vm_state.specs.declared.state_map.StateMap.{StateMap}
use Rattle.vm_state.specs.Entries.{entries_of as state_entries}
use Rattle.vm_machine.specs.Inputs.{entries_in}
use Rattle.vm_model.specs.Calls.{Meaning, Setup}
use Rattle.vm_model.specs.Carried.{AreCarried, AreOfTheirKind, is_for_invocation, names_invocation}
use Rattle.vm_model.specs.Deliveries.{HasNoTwo}
use Rattle.vm_model.specs.Histories.{Handed, History, IsPrefix, Made}
use Rattle.journal_entries.specs.Journal.{notifications_in}
use Rattle.vm_model.specs.Moves.{Point, after, later, start as first_point}
use Rattle.vm_model.proofs.Compared.{attempt_is_told}
use Rattle.vm_model.proofs.Once.{made_along, run_once, still_carried}
use Rattle.vm_model.proofs.Runs.{after_later, made_later}
use Rattle.vm_attempt.specs.Arrivals.{AllFound, arriving}
use Rattle.vm_attempt.specs.Blames.{IsHonest}
use Rattle.journal_entries.specs.JournalFrames.{commands_among}
use Rattle.vm_attempt.specs.Journals.{setup_for}
use Rattle.vm_attempt.specs.Told.{BeforeInput, IsKept, HandlerRuns, Wrote, frames_fed}
use Rattle.vm_attempt.proofs.Pieces.{commands_append}
use Rattle.vm_attempt.proofs.Replayed.{commands_same, notes_same}
use Rattle.vm_attempt.specs.Heard.{acknowledged_from, proposals_among}
use Rattle.vm_attempt.specs.Record.{all_heard, heard}
use Rattle.world_rounds.specs.declared.types.Setting.{Setting}
use Rattle.journal_entries.specs.Entries.{AreEntries, journal_entries, frame_in, framed_by, journal_frames, may_stand, notes_in}
use Rattle.world_rounds.specs.States.{HaveTextKeys}
use Rattle.world_rounds.specs.Worlds.{IsJournal, fixed_in}
use Rattle.journal_entries.proofs.Framing.{AreFrames, frames_append, journal_framed, journal_length, join, notes_append, notes_are}
use Rattle.world_rounds.specs.Courses.{start_handed}
use Rattle.world_rounds.specs.Rounds.{Now, ReplaysAndQueues}
use Rattle.world_rounds.proofs.Completing.{carried_behind}
use Rattle.world_rounds.proofs.Fed.{FedFrames, IsEntryFrame, fed_honestly}
use Rattle.world_rounds.proofs.Going.{all_fed}
use Rattle.world_rounds.proofs.Keeping.{Going}
use Rattle.world_rounds.proofs.RightKinds.{each_right, with_input}
use Rattle.world_rounds.proofs.Once.{come_once}
use Rattle.world_rounds.proofs.Rising.{Rises, told_rises}
use Rattle.world_rounds.proofs.Running.{notes_split, stored_written, there}
use Rattle.world_rounds.proofs.Settled.{brings_still}

-- ---- a beginning of frames

-- a beginning of frames brings the first of them, and no garbage
record Begins (F : List RawMessage) (t : Tail) (raws : List RawMessage) : Type 0 where
  clean : t ≢ Garbage
  others : List RawMessage
  all : F ++ others ≡ raws

begins_by : (F : List RawMessage) (t : Tail) (unfed : List ℕ) (raws : List RawMessage) → frames_joined (F, t) unfed ≡ (raws, Rest []) → Begins F t raws
begins_by F (Rest bytes) unfed raws is = record { clean = λ h. absurd (cc); others = (frames_of (bytes ++ unfed)).0; all = ap (λ p. p.0) is }
begins_by F Garbage unfed raws is = absurd (let z : Garbage ≡ Rest [] = ap (λ p. p.1) is in cc)

begins : (bytes unfed : List ℕ) (raws : List RawMessage) → AreFrames (bytes ++ unfed) raws → Begins (frames_of bytes).0 (frames_of bytes).1 raws
begins bytes unfed raws is = begins_by (frames_of bytes).0 (frames_of bytes).1 unfed raws (sym (frames_of-append bytes unfed) ∙ is)

-- the frames of a journal are those of entries
pub entry_frames : (journal : List (List ℕ)) → AreEntries journal → AllByRecursion IsEntryFrame (journal_frames journal)
entry_frames [] all = tt
entry_frames (x ∷ xs) all = by_frame (frame_in x) all.0 (entry_frames xs all.1)
  where
    by_frame : (o : Option RawMessage) → may_stand o ≡ true → AllByRecursion IsEntryFrame (journal_frames xs) → AllByRecursion IsEntryFrame (framed_by o (journal_frames xs))
    by_frame None may more = absurd (cc)
    by_frame (Some raw) may more = (may, more)

-- what is named stays so among more commands
named_more : (id : ℕ) (cs more : List RawMessage) → is_for_invocation id cs ≡ true → is_for_invocation id (cs ++ more) ≡ true
named_more id [] more h = absurd (cc)
named_more id (c ∷ cs) more h = by_test (names_invocation id (message_in c.ty c.body)) h (named_more id cs more)
  where
    by_test : (b : Bool) → (b || is_for_invocation id cs) ≡ true → (is_for_invocation id cs ≡ true → is_for_invocation id (cs ++ more) ≡ true) → (b || is_for_invocation id (cs ++ more)) ≡ true
    by_test true e ih = refl
    by_test false e ih = ih e

pub named_behind : (id : ℕ) (c : RawMessage) (cs : List RawMessage) → is_for_invocation id cs ≡ true → is_for_invocation id (c ∷ cs) ≡ true
named_behind id c cs h = by_test (names_invocation id (message_in c.ty c.body)) h
  where
    by_test : (b : Bool) → is_for_invocation id cs ≡ true → (b || is_for_invocation id cs) ≡ true
    by_test true e = refl
    by_test false e = e

not_none : (n : ℕ) → (suc n == 0) ≡ false
not_none n = grind (arith, nat_tests)

pub some_known : (n : ℕ) (xs : List RawMessage) (c : RawMessage) (cs : List RawMessage) → n ≡ length xs → commands_among xs ≡ c ∷ cs → (n == 0) ≡ false
some_known n [] c cs is h = absurd (cc)
some_known n (x ∷ xs) c cs is h = ap (λ k. k == 0) is ∙ not_none (length xs)

module _ (m : Meaning) (w : Setting) (begin_bytes : List ℕ) (raw : RawMessage) (st : Start) (old : List (List ℕ)) (j : IsJournal old) (framed : AreFrames begin_bytes (raw ∷ [])) (found : start_in raw.body ≡ Some st) (known : st.known_entries ≡ length old) (s : Setup) (same_setup : setup_for (fixed_in m w) st ≡ s) (base : StateMap) (past : History s m base (journal_entries old)) (r : ReplaysAndQueues w.options) where
  abbrev given : StateMap
  given = start_handed st

  -- the first point of the run with all that the journal has got
  abbrev from_all : Now → Point
  from_all now = first_point s past.input (notes_in now.journal) past.rest

  -- ---- the commands

  -- the journal's commands are those from before and the stored ones
  all_commands : (now : Now) (g : Going w.version begin_bytes old now) → commands_among (journal_frames now.journal) ≡ past.first ∷ (past.rest ++ commands_among g.scanned)
  all_commands now g =
      ap (λ l. commands_among (journal_frames l)) g.extends ∙ ap commands_among (frames_append old g.added) ∙ commands_append (journal_frames old) (journal_frames g.added)
      ∙ (λ i. (sym (commands_same (journal_frames old)) ∙ past.begins) i ++ g.commands i)

  carry_all : (now : Now) (g : Going w.version begin_bytes old now) (written : List RawMessage) → Wrote now.attempt.taken now.attempt.vm.machine.output written → AreCarried (notes_in now.journal) (past.rest ++ written)
  carry_all now g written wrote =
      let x = stored_written m w begin_bytes raw st old j framed found known s same_setup base past r now g written wrote in
      let stored = carried_behind (notes_in now.journal) past.first past.input (past.rest ++ commands_among g.scanned) past.reads (subst (AreCarried (notes_in now.journal)) (all_commands now g) g.journal.carried) in
      subst (AreCarried (notes_in now.journal)) (append_assoc past.rest (commands_among g.scanned) x.0 ∙ ap (λ l. past.rest ++ l) (sym x.1)) (still_carried (notes_in now.journal) (past.rest ++ commands_among g.scanned) x.0 stored)

  -- ---- the run, with all that the journal has got

  -- the attempt's own run leads on from the first point so
  record Ran (now : Now) : Type 0 where
    moves : ℕ
    written : List RawMessage
    at : Point
    made : Made s m (Handed given) moves (from_all now) written at
    wrote : Wrote now.attempt.taken now.attempt.vm.machine.output written

  ran : (now : Now) (g : Going w.version begin_bytes old now) → IsKept (fixed_in m w) now.attempt → Ran now
  ran now g =
      let n = notes_split m w begin_bytes raw st old j framed found known s same_setup base past r now g in
      ⊎_elim
      (λ (b : BeforeInput (fixed_in m w) (heard w.version now.attempt) now.attempt.answers now.attempt.waiting now.attempt.taken now.attempt.vm). record { moves = 0; written = []; at = from_all now; made = (refl, refl); wrote = b.wrote })
      (λ (b : HandlerRuns (fixed_in m w) (heard w.version now.attempt) now.attempt.answers now.attempt.waiting now.attempt.taken now.attempt.vm).
      record {
        moves = b.moves;
        written = b.written;
        at = later n.0 b.at;
        made = subst (λ ns. Made s m (Handed given) b.moves (first_point s past.input ns past.rest) b.written (later n.0 b.at)) (sym n.1)
            (made_later s m (Handed given) n.0 b.moves _ b.written b.at (there m w begin_bytes raw st old j framed found known s same_setup base past r now g b.journal b.moves b.written b.at b.run));
        wrote = b.wrote;
      })

  -- the history uses all recorded commands, with all that the journal has got
  used_all : (now : Now) (g : Going w.version begin_bytes old now) → (more : List Notification) × (notes_in now.journal ≡ notifications_in (journal_entries old) ++ more)
  used_all now g = (notes_in g.added, ap notes_in g.extends ∙ notes_append old g.added ∙ ap (λ l. l ++ notes_in g.added) (notes_are old ∙ sym (notes_same (journal_frames old))))

  once_all : (now : Now) (g : Going w.version begin_bytes old now) → Ran now → (n : ℕ) (made : List RawMessage) (p : Point) → Made s m (Handed given) n (from_all now) made p → HasNoTwo p
  once_all now g x n made p run =
      let u = used_all now g in
      let told = after_later s m u.0 past.told.0 (first_point s past.input (notifications_in (journal_entries old)) past.rest) past.at past.told.1 in
      let from = λ (ns : List Notification). first_point s past.input ns past.rest in
      run_once s m given past.input (notes_in now.journal) past.rest past.told.0 (later u.0 past.at) (subst (λ ns. after s m past.told.0 (from ns) ≡ Some (later u.0 past.at)) (sym u.1) told) past.uses_all (come_once (notes_in now.journal) g.journal.once) x.moves x.written x.at x.made (carry_all now g x.written x.wrote) n made p run

  -- ---- kinds

  -- what a run makes after the recorded commands carries ids that rise
  made_rises : (now : Now) (n : ℕ) (made : List RawMessage) (p : Point) → Made s m (Handed given) n (from_all now) made p → Rises 1 (all_carried (past.first ∷ (past.rest ++ made)))
  made_rises now n made p run =
      let t = attempt_is_told s m given past.input n (notes_in now.journal) past.rest made p run in
      with_input past.first past.input (past.rest ++ made) past.reads
      (⊎_elim
      (λ (none : made ≡ []). subst (λ l. Rises 1 (all_carried (past.rest ++ l))) (sym none) (subst (λ l. Rises 1 (all_carried l)) (sym (append-nil past.rest)) (told_rises s m past.told.0 past.input (notifications_in (journal_entries old)) past.rest past.at past.told.1 past.uses_all)))
      (λ (used : p.left ≡ []). told_rises s m t.0.0 past.input (notes_in now.journal) (past.rest ++ made) p t.0.1 used)
      t.1)

  -- where the stored commands are the first that a run makes
  kinds_within : (now : Now) (g : Going w.version begin_bytes old now) (n : ℕ) (made : List RawMessage) (p : Point) → Made s m (Handed given) n (from_all now) made p → IsPrefix (commands_among g.scanned) made → AreOfTheirKind (notes_in now.journal) (past.rest ++ made)
  kinds_within now g n made p run first i is =
      each_right 1 i (past.first ∷ (past.rest ++ made)) (made_rises now n made p run) (named_behind i past.first (past.rest ++ made) is) [] now.journal
      (first.0, ap (λ l. past.first ∷ (past.rest ++ l)) first.1 ∙ ap (λ l. past.first ∷ l) (sym (append_assoc past.rest (commands_among g.scanned) first.0)) ∙ ap (λ l. l ++ first.0) (sym (all_commands now g)))
      g.journal.kinds

  kinds_all : (now : Now) (g : Going w.version begin_bytes old now) → Ran now → (n : ℕ) (made : List RawMessage) (p : Point) → Made s m (Handed given) n (from_all now) made p → AreOfTheirKind (notes_in now.journal) (past.rest ++ made)
  kinds_all now g x n made p run id named =
      let stored = stored_written m w begin_bytes raw st old j framed found known s same_setup base past r now g x.written x.wrote in
      ⊎_elim
      (λ (y : (rest : List RawMessage) × (x.written ≡ made ++ rest)).
      let more : is_for_invocation id (past.rest ++ x.written) ≡ true = subst (λ l. is_for_invocation id l ≡ true) (append_assoc past.rest made y.0 ∙ ap (λ l. past.rest ++ l) (sym y.1)) (named_more id (past.rest ++ made) y.0 named) in
      kinds_within now g x.moves x.written x.at x.made stored id more)
      (λ (y : (rest : List RawMessage) × (made ≡ x.written ++ rest)).
      kinds_within now g n made p run (stored.0 ++ y.0, y.1 ∙ ap (λ l. l ++ y.0) stored.1 ∙ append_assoc (commands_among g.scanned) stored.0 y.0) id named)
      (made_along s m given n x.moves (from_all now) made x.written p x.at run x.made)

  -- ---- what was fed

  all_begins : (now : Now) (g : Going w.version begin_bytes old now) → Begins (frames_fed (all_heard w.version now.attempt)) (frames_of (all_fed now.attempt)).1 (raw ∷ (journal_frames old ++ g.came))
  all_begins now g =
      let F = all_fed now.attempt in
      let unfed = g.all_front.0 ++ now.waiting in
      let bytes : F ++ unfed ≡ begin_bytes ++ (concat old ++ g.bytes) = sym (append_assoc F g.all_front.0 now.waiting) ∙ ap (λ l. l ++ now.waiting) (sym g.all_front.1) ∙ g.all in
      begins F unfed (raw ∷ (journal_frames old ++ g.came))
      (ap frames_of bytes ∙ join begin_bytes (concat old ++ g.bytes) (raw ∷ []) (journal_frames old ++ g.came) framed (join (concat old) g.bytes (journal_frames old) g.came (journal_framed old j.entries) g.framed))

  fed_frames : (type_number raw.ty == 1) ≡ true → entries_in st.state ≡ Some (state_entries st.state) → (now : Now) (g : Going w.version begin_bytes old now) → FedFrames (fixed_in m w) (all_heard w.version now.attempt) st (journal_frames old) g.came s
  fed_frames is_start state now g =
      let b = all_begins now g in
      let stored = proposals_among g.scanned in
      let still = brings_still w.version stored g.proposed.0 g.came (notes_in g.added) g.brings in
      let long : st.known_entries ≡ length (journal_frames old) = known ∙ sym (journal_length old j.entries) in
      record {
        same_setup = same_setup;
        first = raw;
        is_start = is_start;
        reads_start = found;
        state = state_entries st.state;
        reads_state = state;
        some = some_known st.known_entries (journal_frames old) past.first past.rest long (sym (commands_same (journal_frames old)) ∙ past.begins);
        known = long;
        others = b.others;
        all = b.all;
        clean = b.clean;
        entries = entry_frames old j.entries;
        more = g.taken;
        found = subst (λ ps. AllFound (acknowledged_from w.version ps) g.came) (sym g.proposed.1) still.0;
        base = base;
        history = past;
      }

  -- all that is to come to the attempt is what the journal has got
  notes_come : (now : Now) (g : Going w.version begin_bytes old now) → notifications_in (journal_entries old) ++ arriving (acknowledged_from w.version now.attempt.proposed) g.came ≡ notes_in now.journal
  unfolding used_all
  notes_come now g =
      let still = brings_still w.version (proposals_among g.scanned) g.proposed.0 g.came (notes_in g.added) g.brings in
      ap (λ l. notifications_in (journal_entries old) ++ l) (ap (λ ps. arriving (acknowledged_from w.version ps) g.came) g.proposed.1 ∙ still.1) ∙ sym (used_all now g).1

  -- what the attempt was fed is an honest attempt's
  pub honest_now : (type_number raw.ty == 1) ≡ true → HaveTextKeys st.state → (now : Now) → Going w.version begin_bytes old now → IsKept (fixed_in m w) now.attempt → IsHonest (fixed_in m w) (all_heard w.version now.attempt)
  unfolding fed_frames
  honest_now is_start texts now g kept =
      let state : entries_in st.state ≡ Some (state_entries st.state) = ap (λ b. if b then Some (state_entries st.state) else None) texts in
      let x = ran now g kept in
      let came = notes_come now g in
      let here = λ (n : ℕ) (made : List RawMessage) (p : Point) (run : Made s m (Handed given) n (first_point s past.input (notifications_in (journal_entries old) ++ arriving (acknowledged_from w.version now.attempt.proposed) g.came) past.rest) made p). subst (λ ns. Made s m (Handed given) n (first_point s past.input ns past.rest) made p) came run in
      fed_honestly (fixed_in m w) (all_heard w.version now.attempt) st (journal_frames old) g.came s (fed_frames is_start state now g) r
      (λ n made p run. once_all now g x n made p (here n made p run))
      (λ n made p run. subst (λ ns. AreOfTheirKind ns (past.rest ++ made)) (sym came) (kinds_all now g x n made p (here n made p run)))
