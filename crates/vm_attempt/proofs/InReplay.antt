-- What an attempt keeps as long as recorded commands are left, if no completion has two results
-- until then.
use Rattle.std.proofs.Common.{◌≡◌, ℕ, true, false, List, [], ◌∷◌, ◌++◌, Some, None, Result, Ok, Err, refl, sym, ap, ◌∙◌, subst, inl, inr, ⊎_elim, Global}
use Rattle.std.specs.declared.alloc.AllocError.{AllocError}
use Rattle.journal_protocol.specs.Error.{Error}
use Rattle.journal_protocol.specs.RawMessage.{RawMessage}
use Rattle.vm_parts.specs.Outboxes.{WholeFrames}
use Rattle.vm_types.specs.declared.steps.Answer.{Answer}
use Rattle.vm_types.specs.declared.steps.Answer.TheVariants as answer
use Rattle.vm_machine.specs.declared.machine.Machine.{Machine}
use Rattle.vm_machine.specs.declared.phase.Phase.{Phase}
use Rattle.vm_machine.specs.declared.phase.Phase.TheVariants.{WaitingStart, WaitingReplayEntries, Replaying, Processing, Closed}
use Rattle.vm_machine.specs.Commands.{phase_after}
use Rattle.vm_machine.specs.Inputs.{coverage_of}
use Rattle.vm_machine.specs.Making.{fresh}
use Rattle.vm_machine.specs.Phases.{is_running}
use Rattle.journal_entries.specs.Frames.{Rest, frames_of}
use Rattle.invocation_vm.specs.Views.{View, after_input}
use Rattle.journal_entries.proofs.Cuts.{frames_of-append}
use Rattle.vm_model.specs.Calls.{Meaning}
use Rattle.vm_model.specs.Deliveries.{HasNoTwo}
use Rattle.vm_model.specs.Histories.{Handed}
use Rattle.vm_model.specs.Moves.{later}
use Rattle.vm_attempt.specs.Heard.{Heard, and_piece}
use Rattle.vm_attempt.specs.declared.progress.Fed.{Fed}
use Rattle.vm_attempt.specs.declared.progress.Progress.{Progress}
use Rattle.vm_attempt.specs.declared.progress.Reply.{Reply}
use Rattle.vm_attempt.specs.declared.progress.Reply.TheVariants as reply
use Rattle.vm_attempt.specs.Record.{Record, heard}
use Rattle.vm_attempt.specs.Stepping.{MakesStep, CloseDoes, FeedDoes, IsReplaying, StepDoes, Takes, future_in, replied, step_asked}
use Rattle.vm_attempt.specs.Journals.{HasAll, StillWaits, setup_for}
use Rattle.vm_attempt.specs.Told.{AnswersAreTold, BeforeInput, Begun, JournalCame, ProvesHistory, InReplay, IsKeptInReplay, IsLive, ReplayPremises, AnswersInReplay, HandlerRuns, bytes_fed, frames_fed, start_state}
use Rattle.vm_attempt.proofs.Advanced.{kept_told, reads_done, runs_of, step_replays, steps_keep}
use Rattle.vm_attempt.proofs.Coming.{asks_come, reads_come}
use Rattle.vm_attempt.proofs.Kept.{KeptBy, Lasts, close_keeps, feed_keeps, take_keeps}
use Rattle.vm_attempt.proofs.Lasting.{came_last, runs_last}
use Rattle.vm_attempt.proofs.Pieces.{bytes_behind, journal_to, more_arrivals, more_frames, not_failed, run_to, took_in}
use Rattle.vm_attempt.proofs.Proving.{processing_proves}
use Rattle.vm_attempt.proofs.Sending.{IsLeft, step_leaves}
use Rattle.vm_attempt.proofs.Staying.{all_stay}
use Rattle.vm_attempt.proofs.Stepped.{asks_keep}
use Rattle.vm_attempt.proofs.Under.{Grows, close_fed, feed_grows, fewer_waiting, settled_fed, step_fed, take_fed}
use Rattle.vm_model.specs.Fixed.{Fixed}

-- ---- it lasts

-- a piece changes no phase in which the handler runs, unless it fails the VM
same_phase : (fed : Heard) (v : View) (f : Fed) (fixed : Fixed) (answers : List Answer) (taken : List (List ℕ)) → JournalCame fixed fed answers taken v → (live : IsLive v.machine) → (after_input v f.piece).machine.failure ≡ None → (after_input v f.piece).machine.phase ≡ v.machine.phase
same_phase fed v f fixed answers taken k live alive =
    let G = (frames_of (v.undecoded ++ f.piece)).0 in
    let is = (took_in fed f v live.failure (k.tail live) alive).0.machine in
    ap (λ (u : Machine). u.phase) is ∙ all_stay G v.machine live.failure live.phase (ap (λ (u : Machine). u.failure) (sym is) ∙ alive)

-- what is shown of the journal is so with a further piece: more frames come after it, or none
proves_to : (fixed : Fixed) (fed : Heard) (v : View) (f : Fed) → (frames_of (bytes_fed fed)).1 ≡ Rest v.undecoded → (after_input v f.piece).machine.failure ≡ None → IsLive v.machine → ProvesHistory fixed fed → ProvesHistory fixed (and_piece fed f)
proves_to fixed fed v f tail alive live h =
    let G = (frames_of (v.undecoded ++ f.piece)).0 in
    let frames : frames_fed (and_piece fed f) ≡ frames_fed fed ++ G = (took_in fed f v live.failure tail alive).0.frames in
    record {
      journal = journal_to fed (fed.pieces ++ f ∷ []) G frames h.journal;
      history = λ none. h.history (front_none h.journal.others G none);
    }
  where
    front_none : (xs ys : List RawMessage) → xs ++ ys ≡ [] → xs ≡ []
    front_none [] ys e = refl
    front_none (x ∷ xs) ys e = absurd (cc)

pub replay_last : (fixed : Fixed) → Lasts (InReplay fixed)
replay_last fixed =
    let l = came_last fixed in
    let r = runs_last fixed in
    record {
      dead = λ fed to G frames answers waiting taken v w k q dead. record {
        came = l.dead fed to G frames answers waiting taken v w k.came q dead;
        run = λ alive at. not_failed w.machine dead alive;
        proves = λ alive at. not_failed w.machine dead alive;
      };
      closed = λ fed answers waiting taken v w k q closed. record { came = l.closed fed answers waiting taken v w k.came q closed; run = λ alive at. absurd (let z : Replaying ≡ Closed = sym at ∙ closed in cc); proves = λ alive at. absurd (let z : Processing ≡ Closed = sym at ∙ closed in cc) };
      more = λ fed answers waiting taken v f k live. record {
        came = l.more fed answers waiting taken v f k.came live;
        run = λ alive at. r.more fed answers waiting taken v f (k.run live.failure (sym (same_phase fed v f fixed answers taken k.came live alive) ∙ at)) live;
        proves = λ alive at. proves_to fixed fed v f (k.came.tail live) alive live (k.proves live.failure (sym (same_phase fed v f fixed answers taken k.came live alive) ∙ at));
      };
      takes = λ fed answers waiting taken v f k. record { came = l.takes fed answers waiting taken v f k.came; run = λ alive at. r.takes fed answers waiting taken v f (k.run alive at); proves = k.proves };
      closes = λ fed answers waiting taken v k. record { came = l.closes fed answers waiting taken v k.came; run = λ alive at. r.closes fed answers waiting taken v (k.run alive at); proves = k.proves };
      phase = λ fed answers waiting taken v k. l.phase fed answers waiting taken v k.came;
    }

-- ---- a step

-- a step of a handler that has no recorded command left leaves none
abbrev StaysOut : Record → Type 0
StaysOut r = r.vm.machine.failure ≡ None → is_running r.vm.machine.phase ≡ true → r.vm.machine.phase ≡ Processing

asks_stay : (m : Meaning) (old : Record) (result : Result Progress Error) (new : Record) → IsLive old.vm.machine → old.vm.machine.phase ≡ Processing → MakesStep m old result new → StaysOut new
asks_stay m old result new live at (x, w, does, is, made) = subst StaysOut (sym is) (by_reply x (step_leaves (step_asked m old) old.vm.machine live x w.machine does.0.0))
  where
    by_reply : (x : Result Reply Error) → IsLeft old.vm.machine x w.machine → StaysOut (replied old (future_in (step_asked m old)) x w)
    by_reply (Ok (reply.Answer a)) h = λ alive. h.goes at
    by_reply (Ok (reply.Waiting input run)) h = λ alive. h.goes at
    by_reply (Ok (reply.Execute run)) h = λ alive. h.goes at
    by_reply (Ok reply.Suspended) h = λ alive. h.goes at
    by_reply (Ok reply.Ended) h = λ alive. h.goes at
    by_reply (Err e) h = λ alive. absurd (let z : None ≡ Some e = sym alive ∙ h.1 in cc)

module _ (fixed : Fixed) where
  -- while recorded commands are left no completion has two results
  none_two : (r : Record) → ReplayPremises fixed (heard fixed.version r) → (k : HandlerRuns fixed (heard fixed.version r) r.answers r.waiting r.taken r.vm) → IsLive r.vm.machine → r.vm.machine.phase ≡ Replaying → HasNoTwo k.at
  none_two r p k live at =
      p.once k.journal k.moves k.written k.at k.run
      (λ none. absurd (let z : Replaying ≡ Processing = sym at ∙ ap (λ (v : Machine). v.phase) (k.agrees live).machine ∙ ap phase_after none in cc))

  asks_in_replay : (old : Record) (result : Result Progress Error) (new : Record) → ReplayPremises fixed (heard fixed.version old) → InReplay fixed (heard fixed.version old) old.answers old.waiting old.taken old.vm → IsLive old.vm.machine → MakesStep fixed.handler old result new → KeptBy (InReplay fixed) fixed new
  asks_in_replay old result new p k live a =
      ⊎_elim
      (λ (b : BeforeInput fixed (heard fixed.version new) new.answers new.waiting new.taken new.vm). inl b)
      (λ (c : JournalCame fixed (heard fixed.version new) new.answers new.taken new.vm). inr (record { came = c; run = λ alive at. by_phase old.vm.machine.phase refl c alive at; proves = λ alive at. proves_by old.vm.machine.phase refl c alive at }))
      (asks_come fixed old result new k.came live a)
    where
      by_phase : (ph : Phase) → old.vm.machine.phase ≡ ph → JournalCame fixed (heard fixed.version new) new.answers new.taken new.vm → new.vm.machine.failure ≡ None → new.vm.machine.phase ≡ Replaying → HandlerRuns fixed (heard fixed.version new) new.answers new.waiting new.taken new.vm
      by_phase Replaying is c alive at =
          let run = k.run live.failure is in
          runs_of fixed new (asks_keep fixed old result new p.queues run (none_two old p run live is) live a) c.answered
      by_phase Processing is c alive at = absurd (let z : Replaying ≡ Processing = sym at ∙ asks_stay fixed.handler old result new live is a alive (ap is_running at) in cc)
      by_phase WaitingStart is c alive at = absurd (let z : false ≡ true = sym (ap is_running is) ∙ live.phase in cc)
      by_phase WaitingReplayEntries is c alive at = absurd (let z : false ≡ true = sym (ap is_running is) ∙ live.phase in cc)
      by_phase Closed is c alive at = absurd (let z : false ≡ true = sym (ap is_running is) ∙ live.phase in cc)

      proves_by : (ph : Phase) → old.vm.machine.phase ≡ ph → JournalCame fixed (heard fixed.version new) new.answers new.taken new.vm → new.vm.machine.failure ≡ None → new.vm.machine.phase ≡ Processing → ProvesHistory fixed (heard fixed.version new)
      proves_by Replaying is c alive at =
          let run = k.run live.failure is in
          processing_proves fixed (heard fixed.version new) new.answers new.waiting new.taken new.vm (runs_of fixed new (asks_keep fixed old result new p.queues run (none_two old p run live is) live a) c.answered) alive at
      proves_by Processing is c alive at = subst (ProvesHistory fixed) (sym (ap (heard fixed.version) a.3 ∙ settled_fed fixed.version old (future_in (step_asked fixed.handler old)) a.0 a.1)) (k.proves live.failure is)
      proves_by WaitingStart is c alive at = absurd (let z : false ≡ true = sym (ap is_running is) ∙ live.phase in cc)
      proves_by WaitingReplayEntries is c alive at = absurd (let z : false ≡ true = sym (ap is_running is) ∙ live.phase in cc)
      proves_by Closed is c alive at = absurd (let z : false ≡ true = sym (ap is_running is) ∙ live.phase in cc)

  pub step_in_replay : (old : Record) (result : Result Progress Error) (new : Record) → IsKeptInReplay fixed old → StepDoes fixed.handler old result new → IsKeptInReplay fixed new
  step_in_replay old result new u does p =
      let before = subst (ReplayPremises fixed) (step_fed fixed.version fixed.handler old result new does) p in
      steps_keep (InReplay fixed) (ReplayPremises fixed) (replay_last fixed) fixed
      (λ fed waiting taken v w i q none comes is none_waits wrote tail. record {
        came = reads_come fixed fed none taken v w i comes is wrote tail;
        run = λ alive at. (reads_done fixed fed q.replays none waiting taken v w i comes is none_waits wrote tail).0;
        proves = λ alive at. processing_proves fixed fed (answer.Input i ∷ []) waiting taken w (reads_done fixed fed q.replays none waiting taken v w i comes is none_waits wrote tail).0 alive at;
      })
      (λ fed answers waiting taken v k. k.came.answered) asks_in_replay old result new before (u before) does

  -- ---- the other calls

  -- the premises of replay hold before a piece comes where they hold with it
  premises_before : (fed : Heard) (f : Fed) → ReplayPremises fixed (and_piece fed f) → ReplayPremises fixed fed
  premises_before fed f p =
      let G = more_frames (frames_of (bytes_fed fed)) f.piece in
      let frames : frames_fed (and_piece fed f) ≡ frames_fed fed ++ G.0 = ap (λ l. (frames_of l).0) (bytes_behind fed f) ∙ ap (λ p. p.0) (frames_of-append (bytes_fed fed) f.piece) ∙ G.1 in
      record {
        replays = p.replays;
        queues = p.queues;
        once = λ j n made q run some.
            fewer_waiting q (more_arrivals j G.0)
            (p.once (journal_to fed (fed.pieces ++ f ∷ []) G.0 frames j) n made (later (more_arrivals j G.0) q) (run_to (setup_for fixed j.start) fixed.handler (Handed (start_state j)) fed j G.0 n made q run) some);
      }

  premises_of : (old new : Heard) → Grows old new → ReplayPremises fixed new → ReplayPremises fixed old
  premises_of old new g p =
      ⊎_elim
      (λ (x : new ≡ old). subst (ReplayPremises fixed) x p)
      (λ (x : (f : Fed) × (new ≡ and_piece old f)). premises_before old x.0 (subst (ReplayPremises fixed) x.1 p))
      g

  pub feed_in_replay : (piece : List ℕ) (old : Record) (result : Result Unit AllocError) (new : Record) → IsKeptInReplay fixed old → FeedDoes old.starved piece old result new → IsKeptInReplay fixed new
  feed_in_replay piece old result new u does p = feed_keeps (InReplay fixed) (replay_last fixed) fixed piece old result new (u (premises_of (heard fixed.version old) (heard fixed.version new) (feed_grows fixed.version piece old result new does) p)) does

  pub close_in_replay : (old : Record) (result : Result Unit AllocError) (new : Record) → IsKeptInReplay fixed old → CloseDoes old.starved old result new → IsKeptInReplay fixed new
  close_in_replay old result new u does p = close_keeps (InReplay fixed) (replay_last fixed) fixed old result new (u (premises_of (heard fixed.version old) (heard fixed.version new) (inl (close_fed fixed.version old result new does)) p)) does

  pub take_in_replay : (old : Record) (result : Result (List ℕ) AllocError) (new : Record) → IsKeptInReplay fixed old → Takes old result new → IsKeptInReplay fixed new
  take_in_replay old result new u does p = take_keeps (InReplay fixed) (replay_last fixed) fixed old result new (u (premises_of (heard fixed.version old) (heard fixed.version new) (inl (take_fed fixed.version old result new does)) p)) does

  -- ---- what is said of a handler that is replaying

  runs_in_replay : (r : Record) → IsKeptInReplay fixed r → ReplayPremises fixed (heard fixed.version r) → IsReplaying r → HandlerRuns fixed (heard fixed.version r) r.answers r.waiting r.taken r.vm
  runs_in_replay r u p is =
      ⊎_elim
      (λ (b : BeforeInput fixed (heard fixed.version r) r.answers r.waiting r.taken r.vm). absurd (is.runs b.answers))
      (λ (k : InReplay fixed (heard fixed.version r) r.answers r.waiting r.taken r.vm). k.run is.failure is.phase)
      (u p)

  pub replays_in_replay : (old : Record) (result : Result Progress Error) (new : Record) → IsKeptInReplay fixed old → IsReplaying old → ReplayPremises fixed (heard fixed.version old) → StepDoes fixed.handler old result new → AnswersInReplay fixed old result new
  replays_in_replay old result new u is p does =
      let run = runs_in_replay old u p is in
      step_replays fixed old result new p.queues run (none_two old p run (record { failure = is.failure; phase = ap is_running is.phase }) is.phase) is does

  pub told_in_replay : (r : Record) → WholeFrames r.vm.machine.output → IsKeptInReplay fixed r → IsReplaying r → ReplayPremises fixed (heard fixed.version r) → AnswersAreTold fixed r
  told_in_replay r f u is p =
      ⊎_elim
      (λ (none : r.answers ≡ []). absurd (is.runs none))
      (λ (t : AnswersAreTold fixed r). t)
      (kept_told fixed r f (inr (runs_in_replay r u p is)))

  -- what a handler that has used all recorded commands shows of its journal
  pub proves_in_replay : (r : Record) → IsKeptInReplay fixed r → r.vm.machine.failure ≡ None → r.vm.machine.phase ≡ Processing → ReplayPremises fixed (heard fixed.version r) → ProvesHistory fixed (heard fixed.version r)
  proves_in_replay r u alive at p =
      ⊎_elim
      (λ (b : BeforeInput fixed (heard fixed.version r) r.answers r.waiting r.taken r.vm). not_begun b)
      (λ (k : InReplay fixed (heard fixed.version r) r.answers r.waiting r.taken r.vm). k.proves alive at)
      (u p)
    where
      not_begun : BeforeInput fixed (heard fixed.version r) r.answers r.waiting r.taken r.vm → ProvesHistory fixed (heard fixed.version r)
      not_begun b =
          ⊎_elim
          (λ (x : (frames_fed (heard fixed.version r) ≡ []) × ((alloc : Global) × (r.vm.machine ≡ fresh alloc fixed.version fixed.options))). absurd (let z : WaitingStart ≡ Processing = sym (ap (λ (w : Machine). w.phase) x.1.1) ∙ at in cc))
          (λ (g : Begun fixed (heard fixed.version r) r.vm.machine).
          ⊎_elim
          (λ (x : StillWaits (setup_for fixed g.start) (record { entries = g.state; coverage = coverage_of g.start.partial }) g.aside g.start.known_entries [] [] g.others r.vm.machine). absurd (let z : WaitingReplayEntries ≡ Processing = sym (ap (λ (w : Machine). w.phase) x.machine) ∙ at in cc))
          (λ (x : HasAll (setup_for fixed g.start) (record { entries = g.state; coverage = coverage_of g.start.partial }) g.aside g.start.known_entries [] [] g.others r.vm.machine). absurd (let z : Replaying ≡ Processing = sym (ap (λ (w : Machine). w.phase) x.machine) ∙ at in cc))
          g.waits)
          (b.comes alive)
