-- What an attempt was fed that got Start and a history alone: it is an honest attempt's, and its journal is the history.
use Rattle.std.proofs.Common.{◌≡◌, ⊎_elim, ℕ, List, [], ◌∷◌, ◌++◌, Some, None, refl, sym, ap, ◌∙◌, subst, append-nil}
use Rattle.std.specs.Prelude.{if◌then◌else◌}
use Rattle.std.specs.List.{concat}
use Rattle.journal_protocol.specs.Start.{Start}
use Rattle.journal_protocol.specs.Message.TheVariants as message
use Rattle.journal_protocol.specs.RawMessage.{RawMessage}
use Rattle.journal_protocol.specs.Notification.{Notification}
use Rattle.journal_protocol.specs.Frames.{IsWhole, encoding}
use Rattle.journal_entries.specs.Frames.{Garbage, Rest, Tail}
use Rattle.journal_entries.specs.Journal.{notifications_in, stored_form}
use Rattle.journal_entries.specs.JournalFrames.{commands_among}
use Rattle.journal_entries.specs.Entries.{journal_entries, journal_frames, notes_in}
use Rattle.journal_entries.proofs.Framing.{journal_length, notes_are}
use Rattle.vm_asks.specs.Carried.{all_carried}
use Rattle.vm_state.specs.declared.state_map.StateMap.{StateMap}
use Rattle.vm_state.specs.Entries.{entries_of as state_entries}
use Rattle.vm_model.specs.Calls.{Meaning}
use Rattle.vm_model.specs.Carried.{AreCarried, AreOfTheirKind, ComeOnce}
use Rattle.vm_model.specs.Deliveries.{HasNoTwo}
use Rattle.vm_model.specs.Histories.{Handed, History, Made}
use Rattle.vm_model.specs.Moves.{Point, start as first_point}
use Rattle.vm_model.proofs.Compared.{attempt_is_told}
use Rattle.vm_model.proofs.Once.{run_once}
use Rattle.vm_attempt.specs.Blames.{IsHonest}
use Rattle.vm_attempt.specs.Heard.{Heard}
use Rattle.vm_attempt.specs.Told.{bytes_fed, frames_fed}
use Rattle.vm_attempt.proofs.Replayed.{commands_same, notes_same}
use Rattle.world_rounds.specs.Courses.{start_handed}
use Rattle.world_rounds.specs.declared.types.Round.{Round}
use Rattle.world_rounds.specs.declared.types.Setting.{Setting}
use Rattle.world_rounds.specs.Rounds.{ReplaysAndQueues}
use Rattle.world_rounds.specs.States.{HaveTextKeys, base_of, pairs_for}
use Rattle.world_rounds.specs.Worlds.{IsJournal, fixed_in, setup_of, start_for, start_message}
use Rattle.world_rounds.proofs.Completing.{carried_behind}
use Rattle.world_rounds.proofs.Fed.{FedFrames, fed_honestly}
use Rattle.world_rounds.proofs.Honestly.{entry_frames, named_behind, some_known}
use Rattle.world_rounds.proofs.Once.{come_once}
use Rattle.world_rounds.proofs.Replaying.{all_framed}
use Rattle.world_rounds.proofs.RightKinds.{each_right, with_input}
use Rattle.world_rounds.proofs.Rising.{Rises, told_rises}
use Rattle.world_rounds.proofs.Rounding.{start_reads}

module _ (m : Meaning) (w : Setting) (round : Round) (old : List (List ℕ)) (fed : Heard) (j : IsJournal old) (whole : IsWhole (start_message w round old)) (bytes : bytes_fed fed ≡ encoding (start_message w round old) ++ concat old) where
  abbrev st : Start
  st = start_for w round old

  abbrev raw : RawMessage
  raw = stored_form (message.Start st)

  module _ (texts : HaveTextKeys (pairs_for w round old)) (past : History (setup_of w) m (base_of w) (journal_entries old)) (r : ReplaysAndQueues w.options) where
    abbrev given : StateMap
    given = start_handed st

    abbrev notes : List Notification
    notes = notifications_in (journal_entries old)

    -- the first point of the run
    abbrev from : List Notification → Point
    from ns = first_point (setup_of w) past.input ns past.rest

    all_commands : commands_among (journal_frames old) ≡ past.first ∷ past.rest
    all_commands = sym (commands_same (journal_frames old)) ∙ past.begins

    notes_same_too : notes_in old ≡ notes
    notes_same_too = notes_are old ∙ sym (notes_same (journal_frames old))

    carry : AreCarried notes (past.rest ++ [])
    carry =
        let all : AreCarried notes (past.first ∷ past.rest) = subst (λ (x : List Notification × List RawMessage). AreCarried x.0 x.1) (λ i. (notes_same_too i, all_commands i)) j.carried in
        subst (AreCarried notes) (sym (append-nil past.rest)) (carried_behind notes past.first past.input past.rest past.reads all)

    once_all : (n : ℕ) (made : List RawMessage) (p : Point) → Made (setup_of w) m (Handed given) n (from notes) made p → HasNoTwo p
    once_all n made p run =
        run_once (setup_of w) m given past.input notes past.rest past.told.0 past.at past.told.1 past.uses_all (subst ComeOnce notes_same_too (come_once (notes_in old) j.once)) 0 [] (from notes) (refl, refl) carry n made p run

    made_rises : (n : ℕ) (made : List RawMessage) (p : Point) → Made (setup_of w) m (Handed given) n (from notes) made p → Rises 1 (all_carried (past.first ∷ (past.rest ++ made)))
    made_rises n made p run =
        let t = attempt_is_told (setup_of w) m given past.input n notes past.rest made p run in
        with_input past.first past.input (past.rest ++ made) past.reads
        (⊎_elim
        (λ (none : made ≡ []). subst (λ l. Rises 1 (all_carried (past.rest ++ l))) (sym none) (subst (λ l. Rises 1 (all_carried l)) (sym (append-nil past.rest)) (told_rises (setup_of w) m past.told.0 past.input notes past.rest past.at past.told.1 past.uses_all)))
        (λ (used : p.left ≡ []). told_rises (setup_of w) m t.0.0 past.input notes (past.rest ++ made) p t.0.1 used)
        t.1)

    kinds_all : (n : ℕ) (made : List RawMessage) (p : Point) → Made (setup_of w) m (Handed given) n (from notes) made p → AreOfTheirKind notes (past.rest ++ made)
    kinds_all n made p run =
        subst (λ ns. AreOfTheirKind ns (past.rest ++ made)) notes_same_too
        (λ id named. each_right 1 id (past.first ∷ (past.rest ++ made)) (made_rises n made p run) (named_behind id past.first (past.rest ++ made) named) [] old (made, ap (λ l. l ++ made) (sym all_commands)) j.kinds)

    fed_frames : FedFrames (fixed_in m w) fed st (journal_frames old) [] (setup_of w)
    fed_frames = record {
      same_setup = refl;
      first = raw;
      is_start = refl;
      reads_start = start_reads st whole;
      state = state_entries st.state;
      reads_state = ap (λ b. if b then Some (state_entries st.state) else None) texts;
      some = some_known st.known_entries (journal_frames old) past.first past.rest (sym (journal_length old j.entries)) all_commands;
      known = sym (journal_length old j.entries);
      others = [];
      all = append-nil (frames_fed fed) ∙ ap (λ (p : List RawMessage × Tail). p.0) (all_framed m w round old fed j whole bytes) ∙ ap (λ l. raw ∷ l) (sym (append-nil (journal_frames old)));
      clean = λ h. let z : Rest [] ≡ Garbage = sym (ap (λ (p : List RawMessage × Tail). p.1) (all_framed m w round old fed j whole bytes)) ∙ h in cc;
      entries = entry_frames old j.entries;
      more = tt;
      found = tt;
      base = base_of w;
      history = past;
    }

    -- what was fed is an honest attempt's
    pub alone_honest : IsHonest (fixed_in m w) fed
    unfolding fed_frames
    alone_honest =
        let none : notes ++ [] ≡ notes = append-nil notes in
        let here = λ (n : ℕ) (made : List RawMessage) (p : Point) (run : Made (setup_of w) m (Handed given) n (from (notes ++ [])) made p). subst (λ ns. Made (setup_of w) m (Handed given) n (from ns) made p) none run in
        fed_honestly (fixed_in m w) fed st (journal_frames old) [] (setup_of w) fed_frames r
        (λ n made p run. once_all n made p (here n made p run))
        (λ n made p run. subst (λ ns. AreOfTheirKind ns (past.rest ++ made)) (sym none) (kinds_all n made p (here n made p run)))
