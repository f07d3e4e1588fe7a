-- Storing what an attempt wrote has no fault but out of memory or a full journal: event by event, and round by round.
use Rattle.std.proofs.Common.{◌≡◌, ◌⊎◌, inl, inr, ⊎_elim, ℕ, ◌≤◌, Bool, true, false, List, [], ◌∷◌, ◌++◌, length, map, take, Option, Some, None, Ok, refl, sym, ap, ◌∙◌, subst, append_assoc, append-nil, arith}
use Rattle.std.specs.Prelude.{◌||◌}
use Rattle.std.specs.List.{AllByRecursion, concat, flat_map}
use Rattle.std.proofs.lemmas.Grind.{flat_map-append}
use Rattle.journal_protocol.specs.Start.{Start}
use Rattle.journal_protocol.specs.Message.{Message}
use Rattle.journal_protocol.specs.Message.TheVariants as message
use Rattle.journal_protocol.specs.RawMessage.{RawMessage}
use Rattle.journal_protocol.specs.Frames.{IsWhole, encoding}
use Rattle.journal_protocol.specs.Bodies.{start_in}
use Rattle.journal_protocol.specs.Notification.{Notification}
use Rattle.journal_protocol.specs.NotificationId.TheVariants.{CompletionId}
use Rattle.journal_entries.specs.Frames.{Tail, frames_of}
use Rattle.invocation_vm.specs.Making.{made}
use Rattle.vm_types.specs.declared.options.VMOptions.{VMOptions}
use Rattle.vm_state.specs.declared.state_map.StateMap.{StateMap}
use Rattle.vm_parts.specs.Deliveries.{is_known}
use Rattle.vm_parts.specs.Outboxes.{WholeFrames}
use Rattle.vm_asks.specs.Carried.{all_carried}
use Rattle.vm_machine.specs.declared.machine.Machine.{Machine}
use Rattle.vm_machine.specs.Commands.{knows_next}
use Rattle.vm_model.specs.Calls.{Meaning, Setup, ready_by_usage}
use Rattle.vm_model.specs.Histories.{Handed, History, Made}
use Rattle.journal_entries.specs.Journal.{notifications_in, stored_form}
use Rattle.vm_model.specs.Moves.{Point, after, start as first_point}
use Rattle.vm_model.proofs.Compared.{wrote_left}
use Rattle.vm_model.proofs.Runs.{made_after}
use Rattle.vm_model.proofs.Uses.{commands_used}
use Rattle.vm_attempt.specs.Honest.{frame_bytes}
use Rattle.journal_entries.specs.JournalFrames.{commands_among, notified_by}
use Rattle.vm_attempt.specs.Journals.{setup_for}
use Rattle.vm_attempt.specs.Told.{BeforeInput, HasCome, IsKept, IsLive, HandlerRuns, Wrote}
use Rattle.vm_attempt.proofs.Advanced.{made_new}
use Rattle.vm_attempt.proofs.Coming.{made_comes}
use Rattle.vm_attempt.proofs.Numbers.{carried_append}
use Rattle.vm_attempt.proofs.Pieces.{commands_append}
use Rattle.vm_attempt.proofs.Replayed.{commands_same, notes_same}
use Rattle.vm_attempt.proofs.Written.{Fits, frames_spelled, taken_first, written_is}
use Rattle.vm_attempt.specs.Record.{Record, heard}
use Rattle.vm_attempt.specs.Stepping.{StepDoes, fresh_record, output_taken}
use Rattle.world_rounds.specs.declared.types.Event.{Event}
use Rattle.world_rounds.specs.declared.types.Event.TheVariants as event
use Rattle.world_rounds.specs.declared.types.Round.{Round}
use Rattle.journal_entries.specs.declared.fault.JournalFault.{JournalFault}
use Rattle.journal_entries.specs.declared.fault.JournalFault.TheVariants as journal_fault
use Rattle.world_rounds.specs.declared.types.Setting.{Setting}
use Rattle.journal_entries.specs.Arrivals.{arrival_fault, completes_id}
use Rattle.journal_entries.specs.Entries.{journal_entries, journal_frames, notes_in}
use Rattle.world_rounds.specs.States.{base_of}
use Rattle.journal_entries.specs.Storing.{FirstFault, Stores, written_among}
use Rattle.world_rounds.specs.Worlds.{IsJournal, fixed_in, setup_of, start_for}
use Rattle.journal_entries.proofs.Framing.{AreFrames, frames_append, front_grows, in_front, notes_append, notes_are}
use Rattle.journal_entries.proofs.Scanned.{written_append}
use Rattle.world_rounds.specs.Courses.{delivered, start_handed}
use Rattle.world_rounds.specs.declared.placed.PlacedFault.{PlacedFault}
use Rattle.world_rounds.specs.Places.{RoundStops, RoundsStop, StopsOutside}
use Rattle.world_rounds.specs.Rounds.{AttemptFaults, AttemptFaultsBy, Fault, Faults, Happen, HappenFaults, HappenFaultsBy, Happens, Now, OutsideFault, Pieces, RefusedFaults, ReplaysAndQueues, ReportView, RoundDoes, RoundFaults, RoundFaultsBy, RoundsFault, RoundsFaultBy, StepHappens, StepsHappen, begin}
use Rattle.world_rounds.specs.Executing.{Executes, IsUnfinished}
use Rattle.world_rounds.specs.Sound.{IsSoundFor}
use Rattle.world_rounds.proofs.Unfinished.{FreeRun, events_none, pending_free, steps_none}
use Rattle.await_trees.specs.declared.handle.NotificationHandle.{NotificationHandle}
use Rattle.vm_attempt.specs.declared.progress.Progress.TheVariants as progress
use Rattle.vm_attempt.proofs.Executing.{ExecutesNone, step_hands}
use Rattle.world_rounds.proofs.Completing.{input_carries_none}
use Rattle.world_rounds.proofs.Keeping.{Going, event_keeps, one_note}
use Rattle.world_rounds.proofs.Known.{unknown_open}
use Rattle.world_rounds.proofs.Once.{is_new}
use Rattle.world_rounds.proofs.Pending.{ArePending, ProposeWell, ids_join, propose_behind, proposed_ids}
use Rattle.world_rounds.proofs.Proposing.{Knows, KnowsLive, Proposes, all_sent, close_proposes, feed_proposes, finish_proposes, items, next_of, step_proposes, take_proposes}
use Rattle.world_rounds.proofs.Repeating.{steps_keep}
use Rattle.world_rounds.proofs.Rising.{Rises, rises_front, told_rises}
use Rattle.world_rounds.proofs.Rounding.{begun, round_grows, rounds_grow, start_framed, start_reads, stays_sound}
use Rattle.world_rounds.proofs.Running.{event_runs, there}
use Rattle.world_rounds.proofs.RunsCalled.{run_ids}
use Rattle.world_rounds.proofs.Settled.{are_items, command_in, commands_are}
use Rattle.world_rounds.specs.Course.{RoundGoesOn}
use Rattle.world_rounds.specs.Outside.{AreOfRuns}
use Rattle.world_rounds.proofs.Storable.{IsExplained, Stands, completed_append, explained_arrival, items_of_runs, items_stored, storing_full}

-- ---- frames of messages

forms_fit : (ms : List Message) → AllByRecursion IsWhole ms → AllByRecursion Fits (map stored_form ms)
forms_fit [] all = tt
forms_fit (m ∷ ms) all = (all.0.1, forms_fit ms all.1)

forms_spelled : (ms : List Message) → flat_map frame_bytes (map stored_form ms) ≡ flat_map encoding ms
forms_spelled [] = refl
forms_spelled (m ∷ ms) = ap (λ t. encoding m ++ t) (forms_spelled ms)

messages_spelled : (ms : List Message) → AllByRecursion IsWhole ms → (frames_of (flat_map encoding ms)).0 ≡ map stored_form ms
messages_spelled ms all = ap (λ l. (frames_of l).0) (sym (forms_spelled ms)) ∙ ap (λ p. p.0) (frames_spelled (map stored_form ms) (forms_fit ms all))

same_number : (n : ℕ) → n ≤ n
same_number n = omega arith

front_open : (id : ℕ) (xs ys : List Notification) → completes_id id (xs ++ ys) ≡ false → completes_id id xs ≡ false
front_open id xs ys h = by_test (completes_id id xs) (completes_id id ys) (sym (completed_append id xs ys) ∙ h)
  where
    by_test : (a b : Bool) → (a || b) ≡ false → a ≡ false
    by_test true b e = absurd (cc)
    by_test false b e = refl

some_left : {A : Type 0} (x : A) (xs : List A) → x ∷ xs ≡ [] → ⊥
some_left x xs e = absurd (cc)

-- ---- an attempt over a journal that is a history

module _ (m : Meaning) (w : Setting) (begin_bytes : List ℕ) (raw : RawMessage) (st : Start) (old : List (List ℕ)) (j : IsJournal old) (framed : AreFrames begin_bytes (raw ∷ [])) (found : start_in raw.body ≡ Some st) (known : st.known_entries ≡ length old) (s : Setup) (same_setup : setup_for (fixed_in m w) st ≡ s) (base : StateMap) (past : History s m base (journal_entries old)) (r : ReplaysAndQueues w.options) where
  -- the journal's notifications when the round began
  abbrev ns : List Notification
  ns = notes_in old

  -- all that came to the attempt
  abbrev came : Now → List Notification
  came now = notifications_in (journal_entries old) ++ delivered w.version old now.attempt

  abbrev Kept : Now → Type 0
  Kept now = IsKept (fixed_in m w) now.attempt

  abbrev RunsNow : Now → Type 0
  RunsNow now = HandlerRuns (fixed_in m w) (heard w.version now.attempt) now.attempt.answers now.attempt.waiting now.attempt.taken now.attempt.vm

  abbrev BeforeNow : Now → Type 0
  BeforeNow now = BeforeInput (fixed_in m w) (heard w.version now.attempt) now.attempt.answers now.attempt.waiting now.attempt.taken now.attempt.vm

  -- ---- what is known of a machine that runs

  module _ (now : Now) (g : Going w.version begin_bytes old now) (b : RunsNow now) where
    abbrev at : Point
    at = b.at

    -- the run, from the first point
    run_made : Made s m (Handed (start_handed st)) b.moves (first_point s past.input (came now) past.rest) b.written at
    run_made = there m w begin_bytes raw st old j framed found known s same_setup base past r now g b.journal b.moves b.written at b.run

    run_after : after s m b.moves (first_point s past.input (came now) (past.rest ++ b.written)) ≡ Some at
    run_after = made_after s m (Handed (start_handed st)) b.moves (first_point s past.input (came now) past.rest) b.written at run_made

    -- the recorded commands that are left are the last of the journal's
    run_left : (raw : RawMessage) (rest : List RawMessage) → at.left ≡ raw ∷ rest → (used : List RawMessage) × (past.rest ≡ used ++ raw ∷ rest)
    run_left raw rest left =
        let u = commands_used s m b.moves past.input (came now) (past.rest ++ b.written) at run_after in
        ⊎_elim
        (λ (none : b.written ≡ []). (u.0, sym (append-nil past.rest) ∙ ap (λ l. past.rest ++ l) (sym none) ∙ u.3 ∙ ap (λ l. u.0 ++ l) left))
        (λ (spent : at.left ≡ []). absurd (some_left raw rest (sym left ∙ spent)))
        (wrote_left s m (Handed (start_handed st)) b.moves (first_point s past.input (came now) past.rest) b.written at run_made)

    run_knows : IsLive now.attempt.vm.machine → Knows ns past.rest now.attempt.vm.machine
    run_knows live =
        let a = b.agrees live in
        let v = now.attempt.vm.machine in
        let next : next_of v ≡ at.derived.counters.completion = ap (λ (x : Machine). x.counters.completion) a.machine in
        let options : (setup_for (fixed_in m w) b.journal.start).options ≡ s.options = ap (λ (x : Setup). x.options) same_setup in
        record {
          recorded = λ raw rest is. run_left raw rest (sym (ap (λ (x : Machine). x.commands) a.machine) ∙ is);
          free = λ unknown.
              let here : is_known (CompletionId at.derived.counters.completion) (record { queued = at.queue; ready = ready_by_usage s.options.signal_delivery at.derived.usage; handles = at.derived.handles }) ≡ false =
              ap (λ (o : VMOptions). is_known (CompletionId at.derived.counters.completion) (record { queued = at.queue; ready = ready_by_usage o.signal_delivery at.derived.usage; handles = at.derived.handles })) (sym options) ∙ sym (ap knows_next a.machine) ∙ unknown in
              let open_yet = unknown_open s m b.moves past.input (came now) (past.rest ++ b.written) at run_after at.derived.counters.completion (same_number at.derived.counters.completion) here in
              subst (λ (x : ℕ × List Notification). completes_id x.0 x.1 ≡ false) (λ i. (sym next i, sym (notes_are old ∙ sym (notes_same (journal_frames old))) i)) (front_open at.derived.counters.completion (notifications_in (journal_entries old)) (delivered w.version old now.attempt) open_yet);
        }

  knows_live : (now : Now) → Going w.version begin_bytes old now → Kept now → KnowsLive ns past.rest now.attempt
  knows_live now g kept live answered =
      ⊎_elim
      (λ (b : BeforeNow now). absurd (answered b.answers))
      (λ (b : RunsNow now). run_knows now g b live)
      kept

  -- ---- the ids of all commands rise

  past_rises : Rises 1 (all_carried past.rest)
  past_rises = told_rises s m past.told.0 past.input (notifications_in (journal_entries old)) past.rest past.at past.told.1 past.uses_all

  -- the ids of the journal's commands when the round began, and of those that were written, rise
  none_rises : (written : List RawMessage) → written ≡ [] → Rises 1 (all_carried (past.rest ++ written))
  none_rises written none = subst (λ l. Rises 1 (all_carried l)) (sym (ap (λ l. past.rest ++ l) none ∙ append-nil past.rest)) past_rises

  written_rises : (now : Now) → Going w.version begin_bytes old now → Kept now → (written : List RawMessage) × Wrote now.attempt.taken now.attempt.vm.machine.output written × Rises 1 (all_carried (past.rest ++ written))
  written_rises now g kept =
      ⊎_elim
      (λ (b : BeforeNow now). ([], b.wrote, none_rises [] refl))
      (λ (b : RunsNow now). (
        b.written,
        b.wrote,
        ⊎_elim
            (λ (none : b.written ≡ []). none_rises b.written none)
            (λ (spent : b.at.left ≡ []). told_rises s m b.moves past.input (came now) (past.rest ++ b.written) b.at (run_after now g b) spent)
            (wrote_left s m (Handed (start_handed st)) b.moves (first_point s past.input (came now) past.rest) b.written b.at (run_made now g b)),
      ))
      kept

  -- ---- what was stored

  -- Some frames of the output were looked at, and what is stored of them stands in the journal; its completions are explained.
  record Stored (now : Now) : Type 0 where
    seen : List RawMessage
    frames : frames_of now.output ≡ in_front seen (frames_of now.unstored)
    commands : commands_among (journal_frames now.journal) ≡ past.first ∷ (past.rest ++ flat_map command_in (written_among seen))
    explained : IsExplained ns (past.rest ++ flat_map command_in (written_among seen)) (proposed_ids (written_among seen)) (notes_in now.journal)

  -- the commands that were stored
  abbrev stored_commands : List RawMessage → List RawMessage
  stored_commands seen = past.rest ++ flat_map command_in (written_among seen)

  stored_rises : (now : Now) → Going w.version begin_bytes old now → Kept now → (x : Stored now) → Rises 1 (all_carried (stored_commands x.seen))
  stored_rises now g kept x =
      let c = written_rises now g kept in
      let t = taken_first now.attempt.taken now.attempt.vm.machine.output c.0 c.1 in
      let frames = (frames_of now.unstored).0 in
      let scanned : commands_among (frames_of (concat now.attempt.taken)).0 ≡ commands_among x.seen ++ commands_among frames =
      ap (λ b. commands_among (frames_of b).0) g.output_is ∙ ap (λ (z : List RawMessage × Tail). commands_among z.0) x.frames ∙ commands_append x.seen frames in
      let all : past.rest ++ c.0 ≡ stored_commands x.seen ++ (commands_among frames ++ t.0) =
      ap (λ l. past.rest ++ l) (t.1 ∙ ap (λ l. l ++ t.0) scanned ∙ append_assoc (commands_among x.seen) (commands_among frames) t.0 ∙ ap (λ l. l ++ (commands_among frames ++ t.0)) (sym (commands_are x.seen)))
      ∙ sym (append_assoc past.rest (flat_map command_in (written_among x.seen)) (commands_among frames ++ t.0)) in
      rises_front 1 (all_carried (stored_commands x.seen)) (all_carried (commands_among frames ++ t.0)) (subst (Rises 1) (ap all_carried all ∙ carried_append (stored_commands x.seen) (commands_among frames ++ t.0)) c.2)

  -- the frames that weren't looked at, with all output
  abbrev unseen : Now → List RawMessage
  unseen now = (frames_of (now.unstored ++ concat now.attempt.vm.machine.output)).0

  module _ (now : Now) (g : Going w.version begin_bytes old now) (kept : Kept now) (x : Stored now) (p : Proposes ns past.rest now.attempt) (f : WholeFrames now.attempt.vm.machine.output) where
    -- all frames that were written
    all_frames : (frames_of (concat now.attempt.taken ++ concat now.attempt.vm.machine.output)).0 ≡ x.seen ++ unseen now
    all_frames =
        ap (λ b. (frames_of (b ++ concat now.attempt.vm.machine.output)).0) g.output_is
        ∙ ap (λ (z : List RawMessage × Tail). z.0) (front_grows now.output now.unstored (concat now.attempt.vm.machine.output) x.seen x.frames)

    all_items : items (p.sent ++ p.waiting) ≡ written_among x.seen ++ written_among (unseen now)
    all_items =
        let a = all_sent ns past.rest now.attempt p f in
        a.same ∙ ap written_among (sym (messages_spelled a.messages a.whole) ∙ ap (λ b. (frames_of b).0) (sym a.bytes) ∙ all_frames) ∙ written_append x.seen (unseen now)

    well : ProposeWell ns (stored_commands x.seen) (proposed_ids (written_among x.seen)) (written_among (unseen now))
    well = propose_behind ns past.rest [] (written_among x.seen) (written_among (unseen now)) (subst (ProposeWell ns past.rest []) all_items p.sound.well)

    rises : Rises 1 (all_carried (stored_commands x.seen ++ flat_map command_in (written_among (unseen now))))
    rises =
        let c = written_rises now g kept in
        let all : c.0 ≡ flat_map command_in (written_among x.seen) ++ flat_map command_in (written_among (unseen now)) =
        written_is now.attempt.taken now.attempt.vm.machine.output c.0 c.1 f ∙ ap commands_among all_frames ∙ commands_append x.seen (unseen now) ∙ (λ i. sym (commands_are x.seen) i ++ sym (commands_are (unseen now)) i) in
        subst (λ l. Rises 1 (all_carried l)) (ap (λ l. past.rest ++ l) all ∙ sym (append_assoc past.rest (flat_map command_in (written_among x.seen)) (flat_map command_in (written_among (unseen now))))) c.2

    stands : Stands ns past.first now.journal (stored_commands x.seen) (proposed_ids (written_among x.seen)) (written_among (unseen now))
    stands = record { commands = x.commands; explained = x.explained; rises = rises; well = well }

  -- what is stored stays so
  stores_stored : (n : ℕ) (now : Now) (journal : List (List ℕ)) (waiting unstored : List ℕ) (g : Going w.version begin_bytes old now) (kept : Kept now) (x : Stored now) (p : Proposes ns past.rest now.attempt) (f : WholeFrames now.attempt.vm.machine.output)
      → Stores w.version n (now.unstored ++ concat now.attempt.vm.machine.output) now.journal now.waiting journal waiting unstored
      → Stored (record now { journal = journal; waiting = waiting; output = now.output ++ concat now.attempt.vm.machine.output; unstored = unstored; attempt = output_taken now.attempt })
  stores_stored n now journal waiting unstored g kept x p f d =
      let more = concat now.attempt.vm.machine.output in
      let W = written_among x.seen in
      let N = written_among d.seen in
      let split : written_among (unseen now) ≡ N ++ written_among (frames_of unstored).0 = ap (λ (z : List RawMessage × Tail). written_among z.0) d.frames ∙ written_append d.seen (frames_of unstored).0 in
      let after = items_stored w.version ns past.first N (written_among (frames_of unstored).0) now.journal (stored_commands x.seen) (proposed_ids W) (are_items w.version d.seen d.readable)
      (subst (Stands ns past.first now.journal (stored_commands x.seen) (proposed_ids W)) split (stands now g kept x p f)) in
      let both : written_among (x.seen ++ d.seen) ≡ W ++ N = written_append x.seen d.seen in
      let commands : stored_commands x.seen ++ flat_map command_in N ≡ stored_commands (x.seen ++ d.seen) =
      append_assoc past.rest (flat_map command_in W) (flat_map command_in N) ∙ ap (λ l. past.rest ++ l) (sym (flat_map-append command_in W N) ∙ ap (flat_map command_in) (sym both)) in
      let ids : proposed_ids W ++ proposed_ids N ≡ proposed_ids (written_among (x.seen ++ d.seen)) = sym (ids_join W N) ∙ ap proposed_ids (sym both) in
      record {
        seen = x.seen ++ d.seen;
        frames = front_grows now.output now.unstored more x.seen x.frames ∙ ap (in_front x.seen) d.frames ∙ ap (λ l. (l, (frames_of unstored).1)) (sym (append_assoc x.seen d.seen (frames_of unstored).0));
        commands = ap (λ l. commands_among (journal_frames l)) d.stored ∙ after.commands ∙ ap (λ l. past.first ∷ l) commands;
        explained = subst (λ (z : List RawMessage × List ℕ × List (List ℕ)). IsExplained ns z.0 z.1 (notes_in z.2)) (λ i. (commands i, ids i, sym d.stored i)) after.explained;
      }

  -- an arrival is stored
  arrives_stored : (now : Now) (x : List ℕ) → arrival_fault x now.journal ≡ None → Going w.version begin_bytes old now → Kept now → Stored now → Stored (record now { journal = now.journal ++ x ∷ []; waiting = now.waiting ++ x })
  arrives_stored now x none g kept k =
      let new = is_new x now.journal none in
      let one = one_note x new.note new.reads in
      let cs = stored_commands k.seen in
      let notes : notes_in (now.journal ++ x ∷ []) ≡ notes_in now.journal ++ new.note ∷ [] = notes_append now.journal (x ∷ []) ∙ ap (λ o. notes_in now.journal ++ notified_by o []) new.reads in
      record {
        seen = k.seen;
        frames = k.frames;
        commands = ap commands_among (frames_append now.journal (x ∷ [])) ∙ commands_append (journal_frames now.journal) (journal_frames (x ∷ [])) ∙ ap (λ l. commands_among (journal_frames now.journal) ++ l) one.none ∙ append-nil (commands_among (journal_frames now.journal)) ∙ k.commands;
        explained = subst (IsExplained ns cs (proposed_ids (written_among k.seen))) (sym notes)
            (explained_arrival w.version ns past.first x now.journal cs (proposed_ids (written_among k.seen)) new.note new.reads (input_carries_none past.first past.input past.reads) k.commands (stored_rises now g kept k) none new.carried k.explained);
      }

  -- the attempt alone has changed
  acts_stored : (now new : Now) → new.journal ≡ now.journal → new.output ≡ now.output → new.unstored ≡ now.unstored → Stored now → Stored new
  acts_stored now new journal output unstored k = record {
    seen = k.seen;
    frames = ap frames_of output ∙ k.frames ∙ ap (λ b. in_front k.seen (frames_of b)) (sym unstored);
    commands = ap (λ l. commands_among (journal_frames l)) journal ∙ k.commands;
    explained = subst (λ (l : List (List ℕ)). IsExplained ns (stored_commands k.seen) (proposed_ids (written_among k.seen)) (notes_in l)) (sym journal) k.explained;
  }

  -- ---- events

  -- all that is so of a round on its way
  record IsWell (now : Now) : Type 0 where
    going : Going w.version begin_bytes old now
    kept : Kept now
    came_so : HasCome (fixed_in m w) now.attempt
    proposes : Proposes ns past.rest now.attempt
    stored : Stored now

  step_proposed : (now mid : Now) → StepHappens m now mid → IsWell now → Proposes ns past.rest mid.attempt
  step_proposed now mid (result, a, d, is) well = subst (λ (z : Now). Proposes ns past.rest z.attempt) (sym is) (step_proposes ns past.rest m now.attempt result a well.proposes (knows_live now well.going well.kept) d)

  step_stored : (now mid : Now) → StepHappens m now mid → IsWell now → Stored mid
  step_stored now mid (result, a, d, is) well = subst Stored (sym is) (acts_stored now _ refl refl refl well.stored)

  step_well : (now mid : Now) → StepHappens m now mid → IsWell now → IsWell mid
  step_well now mid d well =
      let goes = event_runs m w begin_bytes raw st old j framed found known s same_setup base past r event.Step now mid d well.going (well.kept, well.came_so) in
      record {
        going = event_keeps m w.version begin_bytes old event.Step now mid d well.going;
        kept = goes.0;
        came_so = goes.1;
        proposes = step_proposed now mid d well;
        stored = step_stored now mid d well;
      }

  steps_well : (n : ℕ) (now mid : Now) → StepsHappen m n now mid → IsWell now → IsWell mid
  steps_well n now mid d well = steps_keep m IsWell step_well n now mid d well

  event_proposes : (e : Event) (now mid : Now) → Happens m e now mid → IsWell now → Proposes ns past.rest mid.attempt
  event_proposes (event.Piece n) now mid d well = by_closed now.closed d
    where
      by_closed : (closed : Bool) → Pieces closed n now mid → Proposes ns past.rest mid.attempt
      by_closed true is = subst (λ (z : Now). Proposes ns past.rest z.attempt) (sym is) well.proposes
      by_closed false (result, a, fed, is) = subst (λ (z : Now). Proposes ns past.rest z.attempt) (sym is) (feed_proposes ns past.rest (take n now.waiting) now.attempt result a well.proposes fed)
  event_proposes event.Close now mid (result, a, d, is) well = subst (λ (z : Now). Proposes ns past.rest z.attempt) (sym is) (close_proposes ns past.rest now.attempt result a well.proposes d)
  event_proposes event.Step now mid d well = step_proposed now mid d well
  event_proposes (event.Steps n) now mid d well = (steps_well n now mid d well).proposes
  event_proposes (event.RunResult handle exit policy) now mid (result, a, d, is) well = subst (λ (z : Now). Proposes ns past.rest z.attempt) (sym is) (finish_proposes ns past.rest handle exit policy now.attempt well.proposes result a d)
  event_proposes (event.Arrive x) now mid (none, is) well = subst (λ (z : Now). Proposes ns past.rest z.attempt) (sym is) well.proposes
  event_proposes (event.Store n) now mid (journal, waiting, unstored, stores, is, whole, proposed) well = subst (λ (z : Now). Proposes ns past.rest z.attempt) (sym is) (take_proposes ns past.rest now.attempt well.proposes whole)

  event_stored : (e : Event) (now mid : Now) → Happens m e now mid → IsWell now → Stored mid
  event_stored (event.Piece n) now mid d well = by_closed now.closed d
    where
      by_closed : (closed : Bool) → Pieces closed n now mid → Stored mid
      by_closed true is = subst Stored (sym is) well.stored
      by_closed false (result, a, fed, is) = subst Stored (sym is) (acts_stored now _ refl refl refl well.stored)
  event_stored event.Close now mid (result, a, d, is) well = subst Stored (sym is) (acts_stored now _ refl refl refl well.stored)
  event_stored event.Step now mid d well = step_stored now mid d well
  event_stored (event.Steps n) now mid d well = (steps_well n now mid d well).stored
  event_stored (event.RunResult handle exit policy) now mid (result, a, d, is) well = subst Stored (sym is) (acts_stored now _ refl refl refl well.stored)
  event_stored (event.Arrive x) now mid (none, is) well = subst Stored (sym is) (arrives_stored now x none well.going well.kept well.stored)
  event_stored (event.Store n) now mid (journal, waiting, unstored, stores, is, whole, proposed) well =
      subst Stored (sym is) (stores_stored n now journal waiting unstored well.going well.kept well.stored well.proposes whole (subst (λ v. Stores v n (now.unstored ++ concat now.attempt.vm.machine.output) now.journal now.waiting journal waiting unstored) well.going.made_for stores))

  event_well : (e : Event) (now mid : Now) → Happens m e now mid → IsWell now → IsWell mid
  event_well e now mid d x =
      let goes = event_runs m w begin_bytes raw st old j framed found known s same_setup base past r e now mid d x.going (x.kept, x.came_so) in
      record {
        going = event_keeps m w.version begin_bytes old e now mid d x.going;
        kept = goes.0;
        came_so = goes.1;
        proposes = event_proposes e now mid d x;
        stored = event_stored e now mid d x;
      }

  -- an event's fault comes from outside
  fault_outside : (e : Event) (now : Now) (f : JournalFault) → IsWell now → Fault e now f → OutsideFault e now f
  fault_outside (event.Piece n) now f x h = h
  fault_outside event.Close now f x h = h
  fault_outside event.Step now f x h = h
  fault_outside (event.Steps n) now f x h = h
  fault_outside (event.RunResult handle exit policy) now f x h = h
  fault_outside (event.Arrive entry) now f x h = h
  fault_outside (event.Store n) now f x h =
      storing_full w.version ns past.first n (unseen now) now.journal (stored_commands x.stored.seen) (proposed_ids (written_among x.stored.seen)) f (stands now x.going x.kept x.stored x.proposes h.1)
      (subst (λ v. FirstFault v (take n (written_among (unseen now))) now.journal f) x.going.made_for h.0)

  faults_outside : (e : Event) (now : Now) (f : JournalFault) → IsWell now → Faults e now f → (f ≡ journal_fault.Memory) ⊎ OutsideFault e now f
  faults_outside e now f x = ⊎_elim (λ (z : f ≡ journal_fault.Memory). inl z) (λ (z : Fault e now f). inr (fault_outside e now f x z))

  events_outside : (es : List Event) (now : Now) (f : JournalFault) → IsWell now → HappenFaults m es now f → HappenFaultsBy OutsideFault m es now f
  events_outside [] now f x h = h
  events_outside (e ∷ es) now f x h =
      ⊎_elim
      (λ (o : Faults e now f). inl (faults_outside e now f x o))
      (λ (o : (mid : Now) × Happens m e now mid × HappenFaults m es mid f). inr (o.0, o.1, events_outside es o.0 f (event_well e now o.0 o.1 x) o.2))
      h

  events_well : (es : List Event) (now end : Now) → Happen m es now end → IsWell now → IsWell end
  events_well [] now end h x = subst IsWell (sym h) x
  events_well (e ∷ es) now end (mid, first, more) x = events_well es mid end more (event_well e now mid first x)

  -- a round begins with nothing written
  begins_well : (now : Now) → Going w.version begin_bytes old now → Kept now → HasCome (fixed_in m w) now.attempt → now.journal ≡ old → now.output ≡ [] → now.unstored ≡ [] → now.attempt.taken ≡ [] → now.attempt.vm.machine.output ≡ [] → now.attempt.vm.machine.runs ≡ [] → IsWell now
  begins_well now g kept came_so journal output unstored taken nothing runs = record {
    going = g;
    kept = kept;
    came_so = came_so;
    proposes = record {
      sent = [];
      bytes = ap concat taken;
      whole = tt;
      waiting = [];
      frames = nothing;
      sound = record {
        well = tt;
        below = λ _. tt;
        pending = λ _. subst (λ l. ArePending (next_of now.attempt.vm.machine) ns (past.rest ++ []) [] (run_ids l)) (sym runs) tt;
        early = λ _ _. (ap run_ids runs, refl);
      };
    };
    stored = record {
      seen = [];
      frames = ap frames_of (output ∙ sym unstored);
      commands = ap (λ l. commands_among (journal_frames l)) journal ∙ sym (commands_same (journal_frames old)) ∙ past.begins ∙ ap (λ l. past.first ∷ l) (sym (append-nil past.rest));
      explained = λ id h. inl (ap (λ l. completes_id id (notes_in l)) (sym journal) ∙ h);
    };
  }

  round_outside : (es : List Event) (now : Now) (f : JournalFault) → Going w.version begin_bytes old now → Kept now → HasCome (fixed_in m w) now.attempt → now.journal ≡ old → now.output ≡ [] → now.unstored ≡ [] → now.attempt.taken ≡ [] → now.attempt.vm.machine.output ≡ [] → now.attempt.vm.machine.runs ≡ [] → HappenFaults m es now f → HappenFaultsBy OutsideFault m es now f
  round_outside es now f g kept came_so journal output unstored taken nothing runs h = events_outside es now f (begins_well now g kept came_so journal output unstored taken nothing runs) h

  place_outside : (es : List Event) (now : Now) (e : Event) (end : Now) (f : JournalFault) → Going w.version begin_bytes old now → Kept now → HasCome (fixed_in m w) now.attempt → now.journal ≡ old → now.output ≡ [] → now.unstored ≡ [] → now.attempt.taken ≡ [] → now.attempt.vm.machine.output ≡ [] → now.attempt.vm.machine.runs ≡ [] → Happen m es now end → Faults e end f → (f ≡ journal_fault.Memory) ⊎ OutsideFault e end f
  place_outside es now e end f g kept came_so journal output unstored taken nothing runs h faults = faults_outside e end f (events_well es now end h (begins_well now g kept came_so journal output unstored taken nothing runs)) faults

  -- a run that is handed out has no result in the journal with which the round began
  executes_free : (es : List Event) (now mid end : Now) (n : ℕ) (new : Record) (handle : NotificationHandle) → Going w.version begin_bytes old now → Kept now → HasCome (fixed_in m w) now.attempt → now.journal ≡ old → now.output ≡ [] → now.unstored ≡ [] → now.attempt.taken ≡ [] → now.attempt.vm.machine.output ≡ [] → now.attempt.vm.machine.runs ≡ [] → ExecutesNone now.attempt.over
      → Happen m es now mid → StepsHappen m n mid end → StepDoes m end.attempt (Ok (progress.ExecuteRun handle)) new → FreeRun handle new.vm.machine.runs ns
  executes_free es now mid end n new handle g kept came_so journal output unstored taken nothing runs none happen further does =
      let well = steps_well n mid end further (events_well es now mid happen (begins_well now g kept came_so journal output unstored taken nothing runs)) in
      let out = (step_hands m end.attempt (Ok (progress.ExecuteRun handle)) new does).out handle refl (steps_none m n mid end further (events_none m es now mid happen none)) in
      let x = step_proposes ns past.rest m end.attempt (Ok (progress.ExecuteRun handle)) new well.proposes (knows_live end well.going well.kept) does in
      pending_free (next_of new.vm.machine) ns (past.rest ++ flat_map command_in (items (x.sent ++ x.waiting))) (proposed_ids (items (x.sent ++ x.waiting))) new.vm.machine.runs handle (x.sound.pending out.3) out.2

  -- the proposals that a store adds are of runs
  store_of_runs : (n : ℕ) (now : Now) (journal : List (List ℕ)) (waiting unstored : List ℕ) → IsWell now → WholeFrames now.attempt.vm.machine.output → (d : Stores now.version n (now.unstored ++ concat now.attempt.vm.machine.output) now.journal now.waiting journal waiting unstored) → AreOfRuns (written_among d.seen) now.journal
  store_of_runs n now journal waiting unstored well f d =
      let x = well.stored in
      let cs = stored_commands x.seen in
      let ps = proposed_ids (written_among x.seen) in
      let left = written_among (frames_of unstored).0 in
      let split : written_among (unseen now) ≡ written_among d.seen ++ left = ap (λ (z : List RawMessage × Tail). written_among z.0) d.frames ∙ written_append d.seen (frames_of unstored).0 in
      items_of_runs now.version ns past.first (written_among d.seen) left now.journal cs ps (are_items now.version d.seen d.readable)
      (subst (Stands ns past.first now.journal cs ps) split (stands now well.going well.kept x well.proposes f))

  place_of_runs : (es : List Event) (now end : Now) (n : ℕ) (journal : List (List ℕ)) (waiting unstored : List ℕ) → Going w.version begin_bytes old now → Kept now → HasCome (fixed_in m w) now.attempt → now.journal ≡ old → now.output ≡ [] → now.unstored ≡ [] → now.attempt.taken ≡ [] → now.attempt.vm.machine.output ≡ [] → now.attempt.vm.machine.runs ≡ [] → Happen m es now end
      → WholeFrames end.attempt.vm.machine.output → (d : Stores end.version n (end.unstored ++ concat end.attempt.vm.machine.output) end.journal end.waiting journal waiting unstored) → AreOfRuns (written_among d.seen) end.journal
  place_of_runs es now end n journal waiting unstored g kept came_so same output unseen taken nothing runs h f d = store_of_runs n end journal waiting unstored (events_well es now end h (begins_well now g kept came_so same output unseen taken nothing runs)) f d

-- ---- rounds

-- the fault of a round with its attempt
attempt_outside : (m : Meaning) (w : Setting) (round : Round) (old : List (List ℕ)) (f : JournalFault) → IsJournal old → IsSoundFor m w old → AttemptFaults m w round old f → AttemptFaultsBy OutsideFault m w round old f
attempt_outside m w round old f j h d =
    let st = start_for w round old in
    let bytes = encoding (message.Start st) in
    let r = fresh_record (made d.alloc w.options w.version) in
    record {
      alloc = d.alloc;
      speaks = d.speaks;
      start = d.start;
      faults = round_outside m w bytes (stored_form (message.Start st)) st old j (start_framed st d.start) (start_reads st d.start) refl (setup_of w) refl (base_of w) h.history.history h.replays round.events (begin d.alloc w round old) f
          (begun w.version bytes old r j refl refl refl refl) (inl (made_new d.alloc (fixed_in m w))) (made_comes d.alloc (fixed_in m w)) refl refl refl refl refl refl d.faults;
    }

-- the event at which a round with its attempt is stopped
pub stops_outside : (m : Meaning) (w : Setting) (round : Round) (old : List (List ℕ)) (place : Option ℕ) (f : JournalFault) → IsJournal old → IsSoundFor m w old → (s : RoundStops m w round old place f) → StopsOutside m w round old place f s
stops_outside m w round old place f j h (inl aside) = tt
stops_outside m w round old place f j h (inr (inl d)) =
    let st = start_for w round old in
    let bytes = encoding (message.Start st) in
    let r = fresh_record (made d.alloc w.options w.version) in
    place_outside m w bytes (stored_form (message.Start st)) st old j (start_framed st d.start) (start_reads st d.start) refl (setup_of w) refl (base_of w) h.history.history h.replays d.stops.before (begin d.alloc w round old) d.stops.event d.stops.now f
    (begun w.version bytes old r j refl refl refl refl) (inl (made_new d.alloc (fixed_in m w))) (made_comes d.alloc (fixed_in m w)) refl refl refl refl refl refl d.stops.happen d.stops.faults
stops_outside m w round old place f j h (inr (inr d)) = tt

round_outside_all : (m : Meaning) (w : Setting) (round : Round) (old : List (List ℕ)) (f : JournalFault) → IsJournal old → IsSoundFor m w old → RoundFaults m w round old f → RoundFaultsBy OutsideFault m w round old f
round_outside_all m w round old f j h =
    ⊎_elim
    (λ (x : f ≡ journal_fault.Memory). inl x)
    (λ (o : AttemptFaults m w round old f ⊎ RefusedFaults w round old f).
    inr (⊎_elim
    (λ (x : AttemptFaults m w round old f). inl (attempt_outside m w round old f j h x))
    (λ (x : RefusedFaults w round old f). inr x)
    o))

-- Of rounds over a journal that can be replayed each fault comes from outside.
pub faults_come_from_outside : (m : Meaning) (w : Setting) (rounds : List Round) (old : List (List ℕ)) (f : JournalFault) → IsJournal old → IsSoundFor m w old → RoundsFault m w rounds old f → RoundsFaultBy OutsideFault m w rounds old f
faults_come_from_outside m w [] old f j h d = d
faults_come_from_outside m w (q ∷ qs) old f j h d =
    ⊎_elim
    (λ (x : RoundFaults m w q old f). inl (round_outside_all m w q old f j h x))
    (λ (x : (mid : List (List ℕ)) × (report : ReportView) × RoundDoes m w q old report mid × RoundsFault m w qs mid f).
    let g = round_grows m w q old x.1 x.0 j x.2 in
    let on = stays_sound m w (q ∷ []) old (x.1 ∷ []) x.0 j (x.0, x.1, [], refl, x.2, (refl, refl)) h in
    inr (x.0, x.1, x.2, faults_come_from_outside m w qs x.0 f g.journal on x.3))
    d

-- So does the fault at the place where they are stopped.
pub stops_come_from_outside : (m : Meaning) (w : Setting) (rounds : List Round) (old : List (List ℕ)) (reports : List ReportView) (at : PlacedFault) → IsJournal old → IsSoundFor m w old → (s : RoundsStop m w rounds old reports at) → StopsOutside m w s.round s.journal at.event at.fault s.stops
stops_come_from_outside m w rounds old reports at j h s =
    let g = rounds_grow m w s.before old reports s.journal j s.ended in
    stops_outside m w s.round s.journal at.event at.fault g.journal (stays_sound m w s.before old reports s.journal j s.ended h) s.stops

-- ---- a round that goes on

module _ (m : Meaning) (w : Setting) (old : List (List ℕ)) (now : Now) (j : IsJournal old) (h : IsSoundFor m w old) (goes : RoundGoesOn m w old now) where
  abbrev start_of_it : Start
  start_of_it = start_for w goes.round old

  abbrev its_bytes : List ℕ
  its_bytes = encoding (message.Start start_of_it)

  -- its event's fault comes from outside
  pub goes_outside : (e : Event) (f : JournalFault) → Faults e now f → (f ≡ journal_fault.Memory) ⊎ OutsideFault e now f
  goes_outside e f faults =
      place_outside m w its_bytes (stored_form (message.Start start_of_it)) start_of_it old j (start_framed start_of_it goes.start) (start_reads start_of_it goes.start) refl (setup_of w) refl (base_of w) h.history.history h.replays goes.round.events (begin goes.alloc w goes.round old) e now f
      (begun w.version its_bytes old (fresh_record (made goes.alloc w.options w.version)) j refl refl refl refl) (inl (made_new goes.alloc (fixed_in m w))) (made_comes goes.alloc (fixed_in m w)) refl refl refl refl refl refl goes.happen faults

  -- what it proposes and stores is of runs
  pub goes_of_runs : (n : ℕ) (journal : List (List ℕ)) (waiting unstored : List ℕ) → WholeFrames now.attempt.vm.machine.output → (d : Stores now.version n (now.unstored ++ concat now.attempt.vm.machine.output) now.journal now.waiting journal waiting unstored) → AreOfRuns (written_among d.seen) now.journal
  goes_of_runs n journal waiting unstored f d =
      place_of_runs m w its_bytes (stored_form (message.Start start_of_it)) start_of_it old j (start_framed start_of_it goes.start) (start_reads start_of_it goes.start) refl (setup_of w) refl (base_of w) h.history.history h.replays goes.round.events (begin goes.alloc w goes.round old) now n journal waiting unstored
      (begun w.version its_bytes old (fresh_record (made goes.alloc w.options w.version)) j refl refl refl refl) (inl (made_new goes.alloc (fixed_in m w))) (made_comes goes.alloc (fixed_in m w)) refl refl refl refl refl refl goes.happen f d

-- ---- what is executed

-- A run that rounds execute has no result in the journal with which its round began.
pub executes_unfinished : (m : Meaning) (w : Setting) (round : Round) (old : List (List ℕ)) (handle : NotificationHandle) → IsJournal old → IsSoundFor m w old → (x : Executes m w round old handle) → IsUnfinished handle x.new.vm.machine.runs old
executes_unfinished m w round old handle j h d =
    let st = start_for w round old in
    let bytes = encoding (message.Start st) in
    let r = fresh_record (made d.alloc w.options w.version) in
    let x = executes_free m w bytes (stored_form (message.Start st)) st old j (start_framed st d.start) (start_reads st d.start) refl (setup_of w) refl (base_of w) h.history.history h.replays d.before (begin d.alloc w round old) d.mid d.now d.steps d.new handle
    (begun w.version bytes old r j refl refl refl refl) (inl (made_new d.alloc (fixed_in m w))) (made_comes d.alloc (fixed_in m w)) refl refl refl refl refl refl tt d.happen d.further d.hands in
    record { before = x.0; run = x.1; behind = x.2; split = x.3; named = x.4; free = x.5 }
