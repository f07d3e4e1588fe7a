-- What lasts of a handler that runs: the moves of its run, and what came and was written.
use Rattle.vm_model.specs.Histories.{Handed}
use Rattle.std.proofs.Common.{◌≡◌, ℕ, true, List, [], ◌∷◌, ◌++◌, Option, None, refl, sym, ap, ◌∙◌, inl, inr, ⊎_elim}
use Rattle.std.specs.Prelude.{IsSome}
use Rattle.std.specs.List.{concat}
use Rattle.journal_protocol.specs.RawMessage.{RawMessage}
use Rattle.vm_types.specs.declared.steps.Answer.{Answer}
use Rattle.await_trees.specs.declared.tree.UnresolvedFuture.{UnresolvedFuture}
use Rattle.vm_machine.specs.declared.machine.Machine.{Machine}
use Rattle.vm_machine.specs.declared.phase.Phase.TheVariants.{Processing, Closed}
use Rattle.vm_model.specs.Moves.{Point, later}
use Rattle.vm_machine.specs.Phases.{is_running}
use Rattle.journal_entries.specs.Frames.{frames_of}
use Rattle.invocation_vm.specs.Views.{View, after_input, all_received}
use Rattle.vm_model.specs.Calls.{Setup}
use Rattle.vm_attempt.specs.Heard.{Heard, and_piece, with_pieces}
use Rattle.vm_attempt.specs.declared.progress.Fed.{Fed}
use Rattle.vm_state.specs.declared.state_map.StateMap.{StateMap}
use Rattle.vm_attempt.specs.Agreement.{Agrees}
use Rattle.vm_attempt.specs.Journals.{setup_for}
use Rattle.vm_attempt.specs.Stepping.{emptied}
use Rattle.vm_parts.specs.Outboxes.{WholeFrames}
use Rattle.vm_attempt.specs.Told.{IsLive, Quiet, HandlerRuns, frames_fed, start_state, JournalCame}
use Rattle.vm_attempt.proofs.Pieces.{fed_frames, journal_to, keeps_more, more_arrivals, not_failed, run_to, running_fed, still_awaits, took_in}
use Rattle.vm_attempt.proofs.Quiet.{input_quiet, wrote_quiet}
use Rattle.vm_attempt.specs.Blames.{FailsAt}
use Rattle.vm_attempt.proofs.Blaming.{frames_fit}
use Rattle.vm_attempt.proofs.Staying.{all_stay, no_failure}
use Rattle.vm_attempt.proofs.Fresh.{all_same, on_over, on_still}
use Rattle.vm_attempt.proofs.Kept.{Lasts, Reading, not_live}
use Rattle.vm_attempt.proofs.Written.{takes_wrote}
use Rattle.vm_model.specs.Fixed.{Fixed}

-- ---- the moves of its run

runs_dead : (fixed : Fixed) (fed : Heard) (to : List Fed) (G : List RawMessage) → frames_fed (with_pieces to fed) ≡ frames_fed fed ++ G → (answers : List Answer) (waiting : Option UnresolvedFuture) (taken : List (List ℕ)) (v w : View) → HandlerRuns fixed fed answers waiting taken v → Quiet v.machine w.machine → IsSome w.machine.failure → HandlerRuns fixed (with_pieces to fed) answers waiting taken w
runs_dead fixed fed to G frames answers waiting taken v w k q dead = record {
  journal = journal_to fed to G frames k.journal;
  written = k.written;
  wrote = wrote_quiet taken v.machine w.machine k.written q k.wrote;
  at = later (more_arrivals k.journal G) k.at;
  moves = k.moves;
  run = run_to (setup_for fixed k.journal.start) fixed.handler (Handed (start_state k.journal)) fed k.journal G k.moves k.written k.at k.run;
  answers = k.answers;
  awaits = still_awaits fixed.handler k.at (more_arrivals k.journal G) waiting k.awaits;
  agrees = λ alive. not_failed w.machine dead alive.failure;
  rests = λ alive. not_failed w.machine dead alive.failure;
  keeps = λ alive. not_failed w.machine dead alive.failure;
  phase = λ alive. not_failed w.machine dead alive;
  tail = λ alive. not_failed w.machine dead alive.failure;
}

-- a run whose VM is closed, and stays so
pub runs_closed : (fixed : Fixed) (fed : Heard) (answers : List Answer) (waiting : Option UnresolvedFuture) (taken : List (List ℕ)) (v w : View) → HandlerRuns fixed fed answers waiting taken v → Quiet v.machine w.machine → w.machine.phase ≡ Closed → HandlerRuns fixed fed answers waiting taken w
runs_closed fixed fed answers waiting taken v w k q closed = record {
  journal = k.journal;
  written = k.written;
  wrote = wrote_quiet taken v.machine w.machine k.written q k.wrote;
  at = k.at;
  moves = k.moves;
  run = k.run;
  answers = k.answers;
  awaits = k.awaits;
  agrees = λ live. not_live w.machine closed live;
  rests = λ live. not_live w.machine closed live;
  keeps = λ live. not_live w.machine closed live;
  phase = λ alive. inr closed;
  tail = λ live. not_live w.machine closed live;
}

agrees_emptied : (s : Setup) (given : StateMap) (written : List RawMessage) (v : Machine) (p : Point) → Agrees s given written v p → Agrees s given written (record v { output = [] }) p
agrees_emptied s given written v p a = record { aside = record a.aside { output = [] }; machine = ap (λ (w : Machine). record w { output = [] }) a.machine; identity = a.identity }

agrees_closed : (s : Setup) (given : StateMap) (written : List RawMessage) (v : Machine) (p : Point) → Agrees s given written v p → Agrees s given written (record v { input_closed = true }) p
agrees_closed s given written v p a = record { aside = record a.aside { input_closed = true }; machine = ap (λ (w : Machine). record w { input_closed = true }) a.machine; identity = a.identity }

runs_takes : (fixed : Fixed) (fed : Heard) (answers : List Answer) (waiting : Option UnresolvedFuture) (taken : List (List ℕ)) (v : View) → WholeFrames v.machine.output → HandlerRuns fixed fed answers waiting taken v → HandlerRuns fixed fed answers waiting (taken ++ concat v.machine.output ∷ []) (emptied v)
runs_takes fixed fed answers waiting taken v f k = record {
  journal = k.journal;
  written = k.written;
  wrote = takes_wrote taken v.machine.output k.written f k.wrote;
  at = k.at;
  moves = k.moves;
  run = k.run;
  answers = k.answers;
  awaits = k.awaits;
  agrees = λ live. agrees_emptied (setup_for fixed k.journal.start) (start_state k.journal) k.written v.machine k.at (k.agrees (record { failure = live.failure; phase = live.phase }));
  rests = λ live. k.rests (record { failure = live.failure; phase = live.phase });
  keeps = λ live. k.keeps (record { failure = live.failure; phase = live.phase });
  phase = k.phase;
  tail = λ live. k.tail (record { failure = live.failure; phase = live.phase });
}

runs_closes : (fixed : Fixed) (fed : Heard) (answers : List Answer) (waiting : Option UnresolvedFuture) (taken : List (List ℕ)) (v : View) → HandlerRuns fixed fed answers waiting taken v → HandlerRuns fixed fed answers waiting taken (record v { machine = record v.machine { input_closed = true } })
runs_closes fixed fed answers waiting taken v k = record {
  journal = k.journal;
  written = k.written;
  wrote = k.wrote;
  at = k.at;
  moves = k.moves;
  run = k.run;
  answers = k.answers;
  awaits = k.awaits;
  agrees = λ live. agrees_closed (setup_for fixed k.journal.start) (start_state k.journal) k.written v.machine k.at (k.agrees (record { failure = live.failure; phase = live.phase }));
  rests = λ live. k.rests (record { failure = live.failure; phase = live.phase });
  keeps = λ live. k.keeps (record { failure = live.failure; phase = live.phase });
  phase = k.phase;
  tail = λ live. k.tail (record { failure = live.failure; phase = live.phase });
}

-- the run of a handler lasts
pub runs_last : (fixed : Fixed) → Lasts (HandlerRuns fixed)
runs_last fixed = record {
  dead = runs_dead fixed;
  closed = runs_closed fixed;
  more = running_fed fixed;
  takes = runs_takes fixed;
  closes = runs_closes fixed;
  phase = λ fed answers waiting taken v k. k.phase;
}

-- ---- what came and what was written

-- what came, as a reading of an attempt
abbrev pub CameBy : Fixed → Reading
CameBy fixed fed answers waiting taken vm = JournalCame fixed fed answers taken vm

came_dead : (fixed : Fixed) (fed : Heard) (to : List Fed) (G : List RawMessage) → frames_fed (with_pieces to fed) ≡ frames_fed fed ++ G → (answers : List Answer) (waiting : Option UnresolvedFuture) (taken : List (List ℕ)) (v w : View) → CameBy fixed fed answers waiting taken v → Quiet v.machine w.machine → IsSome w.machine.failure → CameBy fixed (with_pieces to fed) answers waiting taken w
came_dead fixed fed to G frames answers waiting taken v w k q dead = record {
  journal = journal_to fed to G frames k.journal;
  answered = k.answered;
  written = k.written;
  wrote = wrote_quiet taken v.machine w.machine k.written q k.wrote;
  made_for = λ alive. not_failed w.machine dead alive.failure;
  keeps = λ alive. not_failed w.machine dead alive.failure;
  early = λ alive. not_failed w.machine dead alive.failure;
  fresh = λ skips. on_over (k.journal.first ∷ k.journal.rest) k.written v.machine w.machine (k.fresh skips) (λ alive. not_failed w.machine dead alive.failure);
  phase = λ alive. not_failed w.machine dead alive;
  tail = λ alive. not_failed w.machine dead alive.failure;
}

came_closed : (fixed : Fixed) (fed : Heard) (answers : List Answer) (waiting : Option UnresolvedFuture) (taken : List (List ℕ)) (v w : View) → CameBy fixed fed answers waiting taken v → Quiet v.machine w.machine → w.machine.phase ≡ Closed → CameBy fixed fed answers waiting taken w
came_closed fixed fed answers waiting taken v w k q closed = record {
  journal = k.journal;
  answered = k.answered;
  written = k.written;
  wrote = wrote_quiet taken v.machine w.machine k.written q k.wrote;
  made_for = λ live. not_live w.machine closed live;
  keeps = λ live. not_live w.machine closed live;
  early = λ live. not_live w.machine closed live;
  fresh = λ skips. on_over (k.journal.first ∷ k.journal.rest) k.written v.machine w.machine (k.fresh skips) (λ live. not_live w.machine closed live);
  phase = λ alive. inr closed;
  tail = λ live. not_live w.machine closed live;
}

-- ---- frames that come to a VM whose handler runs

-- it still runs, and was made for the same
kept_running : (G : List RawMessage) (v w : Machine) → IsLive v → w ≡ all_received G v → w.failure ≡ None → (is_running w.phase ≡ true) × ((w.version ≡ v.version) × (w.options ≡ v.options))
kept_running G v w live is alive =
    let u = all_received G v in
    let live_there : u.failure ≡ None = ap (λ (x : Machine). x.failure) (sym is) ∙ alive in
    let phase : w.phase ≡ v.phase = ap (λ (x : Machine). x.phase) is ∙ all_stay G v live.failure live.phase live_there in
    let same : (u.version ≡ v.version) × (u.options ≡ v.options) =
    ⊎_elim
    (λ (x : (u.failure ≡ None) × ((u.version ≡ v.version) × (u.options ≡ v.options))). x.1)
    (λ (x : FailsAt G v u). no_failure _ (sym x.failure ∙ live_there))
    (frames_fit G v live.failure)
    in
    (ap is_running phase ∙ live.phase, (ap (λ (x : Machine). x.version) is ∙ same.0, ap (λ (x : Machine). x.options) is ∙ same.1))

came_fed : (fixed : Fixed) (fed : Heard) (answers : List Answer) (waiting : Option UnresolvedFuture) (taken : List (List ℕ)) (v : View) (f : Fed) → CameBy fixed fed answers waiting taken v → IsLive v.machine → CameBy fixed (and_piece fed f) answers waiting taken (after_input v f.piece)
came_fed fixed fed answers waiting taken v f k live =
    let w = after_input v f.piece in
    let G = (frames_of (v.undecoded ++ f.piece)).0 in
    let frames : frames_fed (and_piece fed f) ≡ frames_fed fed ++ G = ap (λ p. p.0) (fed_frames fed f v (k.tail live)) in
    let took = took_in fed f v live.failure (k.tail live) in
    let made = k.made_for live in
    record {
      journal = journal_to fed (fed.pieces ++ f ∷ []) G frames k.journal;
      answered = k.answered;
      written = k.written;
      wrote = wrote_quiet taken v.machine w.machine k.written (input_quiet v f.piece) k.wrote;
      made_for = λ alive. let s = kept_running G v.machine w.machine live (took alive.failure).0.machine alive.failure in (s.1.0 ∙ made.0, s.1.1 ∙ made.1);
      keeps = λ alive. keeps_more fed (fed.pieces ++ f ∷ []) G frames k.journal v.machine w.machine live (took alive.failure).0.machine alive.failure (k.keeps live);
      early = λ alive.
          let is = (took alive.failure).0.machine in
          ⊎_elim
          (λ (none : fed.proposed ≡ []). inl none)
          (λ (at : v.machine.phase ≡ Processing). inr (ap (λ (u : Machine). u.phase) is ∙ all_stay G v.machine live.failure live.phase (ap (λ (u : Machine). u.failure) (sym is) ∙ alive.failure) ∙ at))
          (k.early live);
      fresh = λ skips. on_still (k.journal.first ∷ k.journal.rest) k.written v.machine w.machine (k.fresh skips) (λ alive. ap (λ (u : Machine). u.counters) (took alive.failure).0.machine ∙ all_same G v.machine) (λ alive. live);
      phase = λ alive. inl (kept_running G v.machine w.machine live (took alive).0.machine alive).0;
      tail = λ alive. (took alive.failure).1;
    }

came_takes : (fixed : Fixed) (fed : Heard) (answers : List Answer) (waiting : Option UnresolvedFuture) (taken : List (List ℕ)) (v : View) → WholeFrames v.machine.output → CameBy fixed fed answers waiting taken v → CameBy fixed fed answers waiting (taken ++ concat v.machine.output ∷ []) (emptied v)
came_takes fixed fed answers waiting taken v f k = record {
  journal = k.journal;
  answered = k.answered;
  written = k.written;
  wrote = takes_wrote taken v.machine.output k.written f k.wrote;
  made_for = λ live. k.made_for (record { failure = live.failure; phase = live.phase });
  keeps = λ live. k.keeps (record { failure = live.failure; phase = live.phase });
  early = λ live. k.early (record { failure = live.failure; phase = live.phase });
  fresh = λ skips. on_still (k.journal.first ∷ k.journal.rest) k.written v.machine _ (k.fresh skips) (λ live. refl) (λ live. record { failure = live.failure; phase = live.phase });
  phase = k.phase;
  tail = λ live. k.tail (record { failure = live.failure; phase = live.phase });
}

came_closes : (fixed : Fixed) (fed : Heard) (answers : List Answer) (waiting : Option UnresolvedFuture) (taken : List (List ℕ)) (v : View) → CameBy fixed fed answers waiting taken v → CameBy fixed fed answers waiting taken (record v { machine = record v.machine { input_closed = true } })
came_closes fixed fed answers waiting taken v k = record {
  journal = k.journal;
  answered = k.answered;
  written = k.written;
  wrote = k.wrote;
  made_for = λ live. k.made_for (record { failure = live.failure; phase = live.phase });
  keeps = λ live. k.keeps (record { failure = live.failure; phase = live.phase });
  early = λ live. k.early (record { failure = live.failure; phase = live.phase });
  fresh = λ skips. on_still (k.journal.first ∷ k.journal.rest) k.written v.machine _ (k.fresh skips) (λ live. refl) (λ live. record { failure = live.failure; phase = live.phase });
  phase = k.phase;
  tail = λ live. k.tail (record { failure = live.failure; phase = live.phase });
}

-- what came and was written lasts
pub came_last : (fixed : Fixed) → Lasts (CameBy fixed)
came_last fixed = record {
  dead = came_dead fixed;
  closed = came_closed fixed;
  more = came_fed fixed;
  takes = came_takes fixed;
  closes = came_closes fixed;
  phase = λ fed answers waiting taken v k. k.phase;
}
