-- What an attempt has written proposes well, and so will each run that is pending: call by call.
use Rattle.std.proofs.Common.{◌≡◌, ◌≢◌, ◌⊎◌, inl, inr, ⊎_elim, ℕ, ◌+◌, ◌<◌, ◌≤◌, ◌&&◌, Bool, true, false, length, drop, List, [], ◌∷◌, ◌++◌, map, Option, Some, None, Result, Ok, Err, refl, sym, ap, ◌∙◌, subst, append_assoc, append-nil, arith}
use Rattle.std.specs.Prelude.{◌==◌, ◌||◌, find, if◌then◌else◌, is_some}
use Rattle.std.specs.List.{AllByRecursion, concat, flat_map}
use Rattle.std.specs.Option.{option_map}
use Rattle.std.specs.declared.alloc.AllocError.{AllocError}
use Rattle.std.proofs.lemmas.Bool.{eq-eqb}
use Rattle.std.proofs.lemmas.Grind.{flat_map-append}
use Rattle.std.proofs.lemmas.List.{map-append}
use Rattle.std.proofs.lemmas.List.Folds.{concat-append}
use Rattle.journal_protocol.specs.InputCommand.{InputCommand}
use Rattle.journal_protocol.specs.ProposeRunCompletion.{ProposeRunCompletion}
use Rattle.journal_protocol.specs.Error.{Error}
use Rattle.journal_protocol.specs.NamedFault.{NamedFault}
use Rattle.journal_protocol.specs.NamedFault.TheVariants as fault
use Rattle.journal_protocol.specs.MessageType.TheVariants as type
use Rattle.journal_protocol.specs.Types.{type_number}
use Rattle.journal_protocol.specs.Versions.{is_from_v7}
use Rattle.journal_protocol.specs.Equality.{header_equal}
use Rattle.journal_protocol.specs.Message.{Message}
use Rattle.journal_protocol.specs.Message.TheVariants as message
use Rattle.journal_protocol.specs.RawMessage.{RawMessage}
use Rattle.journal_protocol.specs.Frames.{IsWhole, encoding}
use Rattle.journal_protocol.specs.Bodies.{input_in, message_in, proposal_in}
use Rattle.journal_protocol.proofs.Facts.{read_back}
use Rattle.journal_protocol.specs.Notification.{Notification}
use Rattle.journal_protocol.specs.ValueOrFailure.{ValueOrFailure}
use Rattle.await_trees.specs.declared.handle.NotificationHandle.{NotificationHandle}
use Rattle.vm_retries.specs.declared.policy.RetryPolicy.{RetryPolicy}
use Rattle.vm_runs.specs.declared.settling.Settlement.{Settlement}
use Rattle.vm_runs.specs.declared.settling.Settlement.TheVariants as settlement
use Rattle.vm_types.specs.declared.runs.RunExitResult.{RunExitResult}
use Rattle.vm_runs.specs.Firsts.{without_first}
use Rattle.vm_runs.specs.Pending.{has_handle}
use Rattle.vm_types.specs.declared.steps.Answer.{Answer}
use Rattle.vm_types.specs.declared.steps.Answer.TheVariants as answer
use Rattle.vm_types.specs.declared.values.Input.{Input}
use Rattle.vm_state.specs.declared.counters.Counters.{Counters}
use Rattle.vm_runs.specs.declared.pending.PendingRun.{PendingRun}
use Rattle.vm_state.specs.Counting.{missing_number}
use Rattle.vm_parts.specs.Deliveries.{id_at}
use Rattle.vm_parts.specs.Outboxes.{WholeFrames}
use Rattle.vm_parts.proofs.Outboxes.{all_whole, bytes_of}
use Rattle.vm_asks.specs.Carried.{AreBelow, past_all}
use Rattle.vm_machine.specs.declared.machine.Machine.{Machine}
use Rattle.vm_machine.specs.declared.phase.Phase.{Phase}
use Rattle.vm_machine.specs.declared.phase.Phase.TheVariants.{WaitingStart, WaitingReplayEntries, Replaying, Processing, Closed}
use Rattle.vm_machine.specs.Commands.{entered, knows_next, phase_after, popped, popped_from}
use Rattle.vm_machine.specs.Inputs.{input_at, input_by, input_counted, input_numbered, input_past, input_read, input_step}
use Rattle.vm_machine.specs.Outcomes.{CalledBy, IsStarved, Outcome, Done, Failed, ◌>>>◌, about_last, called}
use Rattle.vm_machine.specs.Phases.{is_running}
use Rattle.vm_machine.specs.Proposals.{Proposes as MayCome, Settled, SettledAt, SettledUnless, SettlesAs, proposal_fault, proposed, run_at, without_run}
use Rattle.vm_machine.specs.Skips.{counters_past, skipped}
use Rattle.vm_types.specs.Options.{skips_replay}
use Rattle.vm_machine.proofs.Calling.{answers_first, called_from}
use Rattle.invocation_vm.specs.Views.{StarvesAmong, View, after_closing, after_input, messages_in_bytes}
use Rattle.invocation_vm.proofs.Feeds.{among_output}
use Rattle.vm_model.specs.Calls.{Meaning}
use Rattle.vm_model.specs.Carried.{is_id_among}
use Rattle.journal_entries.specs.Journal.{stored_form}
use Rattle.journal_entries.specs.declared.storing.Written.{Written}
use Rattle.journal_entries.specs.declared.storing.Written.TheVariants.{Proposal}
use Rattle.journal_entries.specs.Arrivals.{completes_id}
use Rattle.journal_entries.specs.Storing.{written_among, written_before}
use Rattle.journal_entries.proofs.Scanned.{written_append}
use Rattle.vm_attempt.specs.declared.progress.Progress.{Progress}
use Rattle.vm_attempt.specs.declared.progress.Reply.{Reply}
use Rattle.vm_attempt.specs.declared.progress.Reply.TheVariants as reply
use Rattle.vm_attempt.specs.Heard.{proposals_among, proposed_by}
use Rattle.vm_attempt.specs.Record.{Record}
use Rattle.vm_attempt.specs.Stepping.{Advances, MakesStep, CloseDoes, InputIsClosed, FeedDoes, FeedsPiece, FinishDoes, CompletesRun, LacksMemory, InputIsRead, StepAt, StepDoes, StepFrom, StepUnless, future_in, with_piece_kept, kept_at, newly_proposed, failed_run_noted, noted_at, replied, step_asked, output_taken, with_vm}
use Rattle.vm_attempt.specs.Steps.{StepMade}
use Rattle.vm_attempt.specs.Told.{IsLive, Quiet}
use Rattle.vm_attempt.proofs.Advanced.{done_of, failed_quiet, input_silent}
use Rattle.vm_attempt.proofs.Blamed.{none_some}
use Rattle.vm_attempt.proofs.Erring.{called_failed}
use Rattle.vm_attempt.proofs.Living as still
use Rattle.vm_attempt.proofs.Numbers.{step_numbers}
use Rattle.vm_attempt.proofs.Quiet.{Silent, closing_quiet, forms_append, input_quiet, map_append, proposes_nothing}
use Rattle.vm_attempt.proofs.Sending.{IsLeft, Leaves, Sends, StandsBy, step_leaves}
use Rattle.vm_attempt.proofs.Written.{proposes_one, same_forms}
use Rattle.world_rounds.proofs.Pending.{ArePending, MayPropose, ProposeWell, below_append, below_later, below_none, has_run, kept_id, pending_below, pending_later, pending_more, propose_join, propose_none, proposed_ids, read_runs, run_behind, run_front, told_at}
use Rattle.world_rounds.proofs.RunsCalled.{CallsRuns, IsCalled, IsCarriedOut, SameRuns, run_command, run_id, run_ids, step_runs}
use Rattle.world_rounds.proofs.Settled.{command_in, commands_are, proposal_in_item, proposals_are}

-- ---- what is written, as items

-- the items of some messages
abbrev pub items : List Message → List Written
items ms = written_among (map stored_form ms)

items_join : (ms ns : List Message) → items (ms ++ ns) ≡ items ms ++ items ns
items_join ms ns = ap written_among (forms_append ms ns) ∙ written_append (map stored_form ms) (map stored_form ns)

-- messages of which none proposes a result have no item of a proposal
items_propose : (ms : List Message) → proposals_among (map stored_form ms) ≡ [] → flat_map proposal_in_item (items ms) ≡ []
items_propose ms none = proposals_are (map stored_form ms) ∙ none

same_ids : (us ws : List Written) → flat_map proposal_in_item ws ≡ [] → proposed_ids (us ++ ws) ≡ proposed_ids us
same_ids us ws none = ap (map kept_id) (flat_map-append proposal_in_item us ws ∙ ap (λ l. flat_map proposal_in_item us ++ l) none ∙ append-nil (flat_map proposal_in_item us))

-- ---- what was written and what is pending

-- the next completion id
abbrev pub next_of : Machine → ℕ
next_of v = v.counters.completion

-- The proposals among what was written may be made after these commands of the journal. As long as the machine is alive each pending run's id
-- may be proposed, the ids that were proposed were given, and before the input is read there are none.
pub record Sound (ns : List Notification) (cs : List RawMessage) (ws : List Written) (answers : List Answer) (v : Machine) : Type 0 where
  pub well : ProposeWell ns cs [] ws
  pub below : v.failure ≡ None → AreBelow (next_of v) (proposed_ids ws)
  pub pending : v.failure ≡ None → ArePending (next_of v) ns (cs ++ flat_map command_in ws) (proposed_ids ws) (run_ids v.runs)
  pub early : v.failure ≡ None → answers ≡ [] → (run_ids v.runs ≡ []) × (proposed_ids ws ≡ [])

-- the pending runs are the same, and the next id hasn't fallen
abbrev RunsStand : Machine → Machine → Type 0
RunsStand v w = (SameRuns v w) × (next_of v ≤ next_of w)

-- a machine that is alive was alive before, with the same pending runs, and the next id hasn't fallen
abbrev pub LivesOn : Machine → Machine → Type 0
LivesOn v w = w.failure ≡ None → (v.failure ≡ None) × (SameRuns v w) × (next_of v ≤ next_of w)

module _ (ns : List Notification) (cs : List RawMessage) (ws more : List Written) (none : flat_map proposal_in_item more ≡ []) where
  commands_more : cs ++ flat_map command_in (ws ++ more) ≡ (cs ++ flat_map command_in ws) ++ flat_map command_in more
  commands_more = ap (λ l. cs ++ l) (flat_map-append command_in ws more) ∙ sym (append_assoc cs (flat_map command_in ws) (flat_map command_in more))

  well_more : ProposeWell ns cs [] ws → ProposeWell ns cs [] (ws ++ more)
  well_more well = propose_join ns cs [] ws more well (propose_none ns (cs ++ flat_map command_in ws) (proposed_ids ws) more none)

  pending_after : (next later : ℕ) (ids : List ℕ) → next ≤ later → ArePending next ns (cs ++ flat_map command_in ws) (proposed_ids ws) ids → ArePending later ns (cs ++ flat_map command_in (ws ++ more)) (proposed_ids (ws ++ more)) ids
  pending_after next later ids l h =
      subst (λ (x : List RawMessage × List ℕ). ArePending later ns x.0 x.1 ids) (λ i. (sym commands_more i, sym (same_ids ws more none) i))
      (pending_later next later ns (cs ++ flat_map command_in ws) (flat_map command_in more) (proposed_ids ws) ids l h)

  -- more was written without a proposal, and the runs stay
  sound_more : (answers answers' : List Answer) (v w : Machine) → LivesOn v w → (w.failure ≡ None → answers' ≡ [] → answers ≡ []) → Sound ns cs ws answers v → Sound ns cs (ws ++ more) answers' w
  sound_more answers answers' v w lives early s = record {
    well = well_more s.well;
    below = λ alive. let l = lives alive in subst (AreBelow (next_of w)) (sym (same_ids ws more none)) (below_later (next_of v) (next_of w) (proposed_ids ws) l.2 (s.below l.0));
    pending = λ alive. let l = lives alive in subst (ArePending (next_of w) ns (cs ++ flat_map command_in (ws ++ more)) (proposed_ids (ws ++ more))) (sym l.1) (pending_after (next_of v) (next_of w) (run_ids v.runs) l.2 (s.pending l.0));
    early = λ alive is. let l = lives alive in let e = s.early l.0 (early alive is) in (l.1 ∙ e.0, same_ids ws more none ∙ e.1);
  }

  -- more was written without a proposal, and one more run is pending
  sound_called : (answers answers' : List Answer) (v w : Machine) → v.failure ≡ None → IsCalled v w → has_run (next_of v) (cs ++ flat_map command_in (ws ++ more)) ≡ true → completes_id (next_of v) ns ≡ false → (answers' ≡ [] → ⊥) → Sound ns cs ws answers v → Sound ns cs (ws ++ more) answers' w
  sound_called answers answers' v w alive c run free late s =
      let below = s.below alive in
      let pending = s.pending alive in
      let new : MayPropose ns (cs ++ flat_map command_in (ws ++ more)) (proposed_ids (ws ++ more)) (next_of v) =
      record { run = run; free = free; new = ap (λ l. is_id_among (next_of v) l) (same_ids ws more none) ∙ below_none (next_of v) (proposed_ids ws) below } in
      record {
        well = well_more s.well;
        below = λ _. subst (AreBelow (next_of w)) (sym (same_ids ws more none)) (below_later (next_of v) (next_of w) (proposed_ids ws) (grown (next_of v) (next_of w) c.next) below);
        pending = λ _. subst (ArePending (next_of w) ns (cs ++ flat_map command_in (ws ++ more)) (proposed_ids (ws ++ more))) (sym c.runs)
            (pending_more (next_of v) (next_of w) ns (cs ++ flat_map command_in (ws ++ more)) (proposed_ids (ws ++ more)) (run_ids v.runs) (greater (next_of v) (next_of w) c.next) new (pending_below (next_of v) ns (cs ++ flat_map command_in ws) (proposed_ids ws) (run_ids v.runs) pending)
            (pending_after (next_of v) (next_of w) (run_ids v.runs) (grown (next_of v) (next_of w) c.next) pending));
        early = λ _ is. absurd (late is);
      }
    where
      grown : (a b : ℕ) → b ≡ a + 1 → a ≤ b
      grown a b e = omega (arith, e)

      greater : (a b : ℕ) → b ≡ a + 1 → a < b
      greater a b e = omega (arith, e)

no_runs : (told : NotificationHandle) (runs : List PendingRun) (run : PendingRun) → run_ids runs ≡ [] → find (has_handle told) runs ≡ Some run → ⊥
no_runs told [] run none found = absurd (cc)
no_runs told (x ∷ runs) run none found = absurd (cc)

-- the result of a pending run is proposed
sound_proposed : (ns : List Notification) (cs : List RawMessage) (ws : List Written) (answers : List Answer) (v w : Machine) (told : NotificationHandle) (run : PendingRun) (p : ProposeRunCompletion) → v.failure ≡ None → find (has_handle told) v.runs ≡ Some run → p.id ≡ run_id run
    → w.runs ≡ without_first (has_handle told) v.runs → next_of w ≡ next_of v → Sound ns cs ws answers v → Sound ns cs (ws ++ Proposal p ∷ []) answers w
sound_proposed ns cs ws answers v w told run p alive found id runs next s =
    let t = told_at (next_of v) ns (cs ++ flat_map command_in ws) (proposed_ids ws) told v.runs run found (s.pending alive) in
    let ids : proposed_ids (ws ++ Proposal p ∷ []) ≡ proposed_ids ws ++ run_id run ∷ [] = ap (map kept_id) (flat_map-append proposal_in_item ws (Proposal p ∷ [])) ∙ map-append kept_id (flat_map proposal_in_item ws) (p ∷ []) ∙ ap (λ i. proposed_ids ws ++ i ∷ []) id in
    let commands : flat_map command_in (ws ++ Proposal p ∷ []) ≡ flat_map command_in ws = flat_map-append command_in ws (Proposal p ∷ []) ∙ append-nil (flat_map command_in ws) in
    record {
      well = propose_join ns cs [] ws (Proposal p ∷ []) s.well (subst (MayPropose ns (cs ++ flat_map command_in ws) (proposed_ids ws)) (sym id) t.may, tt);
      below = λ _. subst (λ (x : ℕ × List ℕ). AreBelow x.0 x.1) (λ i. (sym next i, sym ids i)) (below_append (next_of v) (proposed_ids ws) (run_id run ∷ []) (s.below alive) (t.below, tt));
      pending = λ _. subst (λ (x : ℕ × List RawMessage × List ℕ × List ℕ). ArePending x.0 ns (cs ++ x.1) x.2 x.3) (λ i. (sym next i, sym commands i, sym ids i, sym (ap run_ids runs) i)) t.others;
      early = λ _ is. absurd (no_runs told v.runs run (s.early alive is).0 found);
    }

-- ---- an attempt

-- What an attempt has written are frames of messages, and it is sound so.
pub record Proposes (ns : List Notification) (cs : List RawMessage) (r : Record) : Type 0 where
  pub sent : List Message
  pub bytes : concat r.taken ≡ flat_map encoding sent
  pub whole : AllByRecursion IsWhole sent
  pub waiting : List Message
  pub frames : r.vm.machine.output ≡ map encoding waiting
  pub sound : Sound ns cs (items (sent ++ waiting)) r.answers r.vm.machine

module _ (ns : List Notification) (cs : List RawMessage) (old : Record) (p : Proposes ns cs old) where
  -- all that was written
  abbrev before : List Written
  before = items (p.sent ++ p.waiting)

  -- messages more were written
  grows : (new : Record) (messages : List Message) → new.taken ≡ old.taken → new.vm.machine.output ≡ old.vm.machine.output ++ map encoding messages → Sound ns cs (before ++ items messages) new.answers new.vm.machine → Proposes ns cs new
  grows new messages taken output sound = record {
    sent = p.sent;
    bytes = ap concat taken ∙ p.bytes;
    whole = p.whole;
    waiting = p.waiting ++ messages;
    frames = output ∙ ap (λ l. l ++ map encoding messages) p.frames ∙ sym (map_append p.waiting messages);
    sound = subst (λ (ws : List Written). Sound ns cs ws new.answers new.vm.machine) (sym (items_join (p.sent ++ p.waiting) messages) ∙ ap items (append_assoc p.sent p.waiting messages)) sound;
  }

  -- none of them proposes a result
  goes_on : (new : Record) (messages : List Message) → new.taken ≡ old.taken → new.vm.machine.output ≡ old.vm.machine.output ++ map encoding messages → proposals_among (map stored_form messages) ≡ []
      → LivesOn old.vm.machine new.vm.machine → (new.vm.machine.failure ≡ None → new.answers ≡ [] → old.answers ≡ []) → Proposes ns cs new
  goes_on new messages taken output none lives early = grows new messages taken output (sound_more ns cs before (items messages) (items_propose messages none) old.answers new.answers old.vm.machine new.vm.machine lives early p.sound)

  -- nothing was written
  goes_quietly : (new : Record) → new.taken ≡ old.taken → new.vm.machine.output ≡ old.vm.machine.output → LivesOn old.vm.machine new.vm.machine → new.answers ≡ old.answers → Proposes ns cs new
  goes_quietly new taken output lives answers = goes_on new [] taken (output ∙ sym (append-nil old.vm.machine.output)) refl lives (λ _ is. sym answers ∙ is)

  -- the VM has failed
  dies : (new : Record) (messages : List Message) (e : Error) → new.taken ≡ old.taken → new.vm.machine.output ≡ old.vm.machine.output ++ map encoding messages → proposals_among (map stored_form messages) ≡ [] → new.vm.machine.failure ≡ Some e → Proposes ns cs new
  dies new messages e taken output none dead = goes_on new messages taken output none (λ alive. none_some e (sym alive ∙ dead)) (λ alive _. none_some e (sym alive ∙ dead))

  -- where what waits are whole frames, all output is the frames of these messages
  pub record AllSent : Type 0 where
    pub messages : List Message
    pub bytes : concat old.taken ++ concat old.vm.machine.output ≡ flat_map encoding messages
    pub whole : AllByRecursion IsWhole messages
    pub same : items (p.sent ++ p.waiting) ≡ items messages

  pub all_sent : WholeFrames old.vm.machine.output → AllSent
  all_sent f = record {
    messages = p.sent ++ f.messages;
    bytes = ap (λ l. concat old.taken ++ l) (ap concat f.are ∙ bytes_of f.messages) ∙ ap (λ l. l ++ flat_map encoding f.messages) p.bytes ∙ sym (flat_map-append encoding p.sent f.messages);
    whole = all_whole p.sent f.messages p.whole f.each;
    same = ap written_among (forms_append p.sent p.waiting ∙ ap (λ l. map stored_form p.sent ++ l) (same_forms p.waiting f.messages (sym p.frames ∙ f.are) f.each) ∙ sym (forms_append p.sent f.messages));
  }

  -- the output is taken
  pub take_proposes : WholeFrames old.vm.machine.output → Proposes ns cs (output_taken old)
  take_proposes f =
      let a = all_sent f in
      record {
        sent = a.messages;
        bytes = concat-append old.taken (concat old.vm.machine.output ∷ []) ∙ ap (λ l. concat old.taken ++ l) (append-nil (concat old.vm.machine.output)) ∙ a.bytes;
        whole = a.whole;
        waiting = [];
        frames = refl;
        sound = subst (λ (ws : List Written). Sound ns cs ws old.answers (record old.vm.machine { output = [] })) (a.same ∙ ap items (sym (append-nil a.messages)))
            (record { well = p.sound.well; below = p.sound.below; pending = p.sound.pending; early = p.sound.early });
      }

-- ---- what comes to a machine

same_number : (n : ℕ) → n ≤ n
same_number n = omega arith

more_than : (a b c : ℕ) → a ≤ b → b ≤ c → a ≤ c
more_than a b c h k = omega (arith, h, k)

stand_same : (v : Machine) → RunsStand v v
stand_same v = (refl, same_number (next_of v))

stand_then : (u v w : Machine) → RunsStand u v → RunsStand v w → RunsStand u w
stand_then u v w first last = (last.0 ∙ first.0, more_than (next_of u) (next_of v) (next_of w) first.1 last.1)

-- the runs and the counters are the same
stand_alike : (v w : Machine) → w.runs ≡ v.runs → w.counters ≡ v.counters → RunsStand v w
stand_alike v w runs counters = (ap run_ids runs, subst (λ n. next_of v ≤ n) (ap (λ c. c.completion) (sym counters)) (same_number (next_of v)))

-- a pair in a pair is no triple
lives_by : (v w : Machine) → (w.failure ≡ None → (v.failure ≡ None) × RunsStand v w) → LivesOn v w
lives_by v w stands none = let is = stands none in (is.0, is.1.0, is.1.1)

lives_same : (v : Machine) → LivesOn v v
lives_same v = lives_by v v (still.lives_same RunsStand stand_same stand_then stand_alike v)

failed_lives : (e : Error) (v w : Machine) → w.failure ≡ Some e → LivesOn v w
failed_lives e v w is = still.failed_lives e w is

input_lives : (v : View) (bytes : List ℕ) → LivesOn v.machine (after_input v bytes).machine
input_lives v bytes = lives_by v.machine (after_input v bytes).machine (still.input_lives RunsStand stand_same stand_then stand_alike v bytes)

closing_lives : (v : View) → LivesOn v.machine (after_closing v).machine
closing_lives v = lives_by v.machine (after_closing v).machine (still.closing_lives RunsStand stand_same stand_then stand_alike v)

among_lives : (raws : List RawMessage) (v w : Machine) → StarvesAmong raws v w → LivesOn v w
among_lives raws v w s = failed_lives _ v w s.starved.failure

kept_same : (o : Option Error) (ph : Phase) (piece : List ℕ) (r : Record) → ((kept_at o ph piece r).taken ≡ r.taken) × ((kept_at o ph piece r).answers ≡ r.answers)
kept_same (Some e) ph piece r = (refl, refl)
kept_same None WaitingStart piece r = (refl, refl)
kept_same None WaitingReplayEntries piece r = (refl, refl)
kept_same None Replaying piece r = (refl, refl)
kept_same None Processing piece r = (refl, refl)
kept_same None Closed piece r = (refl, refl)

-- a piece is fed
feeds_propose : (ns : List Notification) (cs : List RawMessage) (piece : List ℕ) (old : Record) (result : Result Unit AllocError) (new : Record) → Proposes ns cs old → FeedsPiece piece old result new → Proposes ns cs new
feeds_propose ns cs piece old (Ok t) new p does =
    let k = kept_same old.vm.machine.failure old.vm.machine.phase piece old in
    let q = input_quiet old.vm piece in
    subst (Proposes ns cs) (sym does) (goes_on ns cs old p (with_vm (after_input old.vm piece) (with_piece_kept piece old)) q.messages k.0 q.output q.proposals (input_lives old.vm piece) (λ _ is. sym k.1 ∙ is))
feeds_propose ns cs piece old (Err e) new p does =
    ⊎_elim
    (λ (x : new ≡ record old { starved = true }). subst (Proposes ns cs) (sym x) (goes_quietly ns cs old p (record old { starved = true }) refl refl (lives_same old.vm.machine) refl))
    (λ (x : (w : View) × StarvesAmong (messages_in_bytes old.vm piece) old.vm.machine w.machine × (new ≡ with_vm w (with_piece_kept piece old))).
    let k = kept_same old.vm.machine.failure old.vm.machine.phase piece old in
    subst (Proposes ns cs) (sym x.2) (goes_quietly ns cs old p (with_vm x.0 (with_piece_kept piece old)) k.0 (among_output _ old.vm.machine x.0.machine x.1) (among_lives _ old.vm.machine x.0.machine x.1) k.1))
    does

pub feed_proposes : (ns : List Notification) (cs : List RawMessage) (piece : List ℕ) (old : Record) (result : Result Unit AllocError) (new : Record) → Proposes ns cs old → FeedDoes old.starved piece old result new → Proposes ns cs new
feed_proposes ns cs piece old result new p does = by_test old.starved does
  where
    by_test : (b : Bool) → FeedDoes b piece old result new → Proposes ns cs new
    by_test true d = subst (Proposes ns cs) (sym d.1) p
    by_test false d = feeds_propose ns cs piece old result new p d

-- the input is closed
closes_propose : (ns : List Notification) (cs : List RawMessage) (old : Record) (result : Result Unit AllocError) (new : Record) → Proposes ns cs old → InputIsClosed old result new → Proposes ns cs new
closes_propose ns cs old (Ok t) new p does =
    let q = closing_quiet old.vm in
    subst (Proposes ns cs) (sym does) (goes_on ns cs old p (record old { closed = true; vm = after_closing old.vm }) q.messages refl q.output q.proposals (closing_lives old.vm) (λ _ is. is))
closes_propose ns cs old (Err e) new p (w, starves, is) =
    subst (Proposes ns cs) (sym is) (goes_quietly ns cs old p (record old { closed = true; vm = w }) refl (among_output _ old.vm.machine w.machine starves) (among_lives _ old.vm.machine w.machine starves) refl)

pub close_proposes : (ns : List Notification) (cs : List RawMessage) (old : Record) (result : Result Unit AllocError) (new : Record) → Proposes ns cs old → CloseDoes old.starved old result new → Proposes ns cs new
close_proposes ns cs old result new p does = by_test old.starved does
  where
    by_test : (b : Bool) → CloseDoes b old result new → Proposes ns cs new
    by_test true d = subst (Proposes ns cs) (sym d.1) p
    by_test false d = closes_propose ns cs old result new p d

-- ---- the input is read

-- an event that is done leaves the runs
abbrev RunsStay : {A : Type 0} → Machine → Outcome A → Type 0
RunsStay v (Done a w) = w.runs ≡ v.runs
RunsStay v (Failed e w) = Unit {0}

read_stays : (o : Option InputCommand) (v w : Machine) → w.runs ≡ v.runs → RunsStay v (input_read o w)
read_stays None v w same = tt
read_stays (Some c) v w same = same

popped_stays : (commands : List RawMessage) (v w : Machine) → w.runs ≡ v.runs → RunsStay v (popped_from commands type.InputCommand w >>> λ raw u. input_read (input_in raw.body) u)
popped_stays [] v w same = tt
popped_stays (raw ∷ rest) v w same = by_test (type_number raw.ty == type_number type.InputCommand)
  where
    u : Machine
    u = record w { commands = rest; phase = phase_after rest }

    by_test : (b : Bool) → RunsStay v ((if b then Done raw u else Failed (about_last fault.CommandTypeMismatch u) u) >>> λ raw u. input_read (input_in raw.body) u)
    by_test true = read_stays (input_in raw.body) v u same
    by_test false = tt

counted_stays : (o : Option NamedFault) (v : Machine) → RunsStay v (input_counted o v)
unfolding popped
counted_stays (Some name) v = tt
counted_stays None v = popped_stays v.commands v (entered type.InputCommand [] v) refl

skipped_stays : (counters : Counters) (v : Machine) (o : Outcome Input) → RunsStay v o → RunsStay v (o >>> λ input w. Done input (skipped counters w))
skipped_stays counters v (Failed e w) h = tt
skipped_stays counters v (Done input w) h = h

numbered_stays : (r : Result Counters NamedFault) (v : Machine) → RunsStay v (input_numbered r v)
numbered_stays (Err name) v = tt
numbered_stays (Ok counters) v = skipped_stays counters v (input_counted None v) (counted_stays None v)

past_stays : (o : Option ℕ) (v : Machine) → RunsStay v (input_past o v)
past_stays None v = tt
past_stays (Some id) v = numbered_stays (counters_past (length (drop 1 v.commands)) id v.counters) v

by_stays : (b : Bool) (v : Machine) → RunsStay v (input_by b v)
by_stays false v = counted_stays (missing_number 0 0 0 v.counters) v
by_stays true v = past_stays (past_all v.counters.completion (drop 1 v.commands)) v

input_stays : (v : Machine) → RunsStay v (input_step v)
unfolding input_step
input_stays v = by_phase v.phase
  where
    by_phase : (ph : Phase) → RunsStay v (input_at ph v)
    by_phase WaitingStart = tt
    by_phase WaitingReplayEntries = tt
    by_phase Replaying = by_stays (skips_replay v.options.journal_replay) v
    by_phase Processing = tt
    by_phase Closed = tt

silent_done : {A : Type 0} (v : Machine) (a : A) (w : Machine) → Silent v (Done a w) → w.output ≡ v.output
silent_done v a w h = h

stay_done : {A : Type 0} (v : Machine) (a : A) (w : Machine) → RunsStay v (Done a w) → w.runs ≡ v.runs
stay_done v a w h = h

-- before the input nothing is pending or proposed
sound_read : (ns : List Notification) (cs : List RawMessage) (ws : List Written) (answers answers' : List Answer) (v w : Machine) → v.failure ≡ None → answers ≡ [] → (answers' ≡ [] → ⊥) → w.runs ≡ v.runs → Sound ns cs ws answers v → Sound ns cs (ws ++ []) answers' w
sound_read ns cs ws answers answers' v w live none late runs s =
    let e = s.early live none in
    let ids : run_ids w.runs ≡ [] = ap run_ids runs ∙ e.0 in
    let proposed : proposed_ids ws ≡ [] = e.1 in
    subst (λ (x : List Written). Sound ns cs x answers' w) (sym (append-nil ws))
    (record {
      well = s.well;
      below = λ _. subst (AreBelow (next_of w)) (sym proposed) tt;
      pending = λ _. subst (ArePending (next_of w) ns (cs ++ flat_map command_in ws) (proposed_ids ws)) (sym ids) tt;
      early = λ _ is. absurd (late is);
    })

reads_propose : (ns : List Notification) (cs : List RawMessage) (old : Record) (result : Result Progress Error) (new : Record) → old.vm.machine.failure ≡ None → old.answers ≡ [] → Proposes ns cs old → InputIsRead old result new → Proposes ns cs new
reads_propose ns cs old (Ok made) new live none p (stepped, (input, w, does, is)) =
    let done = done_of old.vm.machine (input_step old.vm.machine) input w.machine live does.0 in
    let runs = stay_done old.vm.machine input w.machine (subst (RunsStay old.vm.machine) done (input_stays old.vm.machine)) in
    let output = silent_done old.vm.machine input w.machine (subst (Silent old.vm.machine) done (input_silent old.vm.machine)) in
    subst (Proposes ns cs) (sym is)
    (grows ns cs old p (record old { answers = answer.Input input ∷ []; vm = w }) [] refl (output ∙ sym (append-nil old.vm.machine.output))
    (sound_read ns cs (items (p.sent ++ p.waiting)) old.answers (answer.Input input ∷ []) old.vm.machine w.machine live none (λ h. absurd (cc)) runs p.sound))
reads_propose ns cs old (Err e) new live none p (w, does, is) =
    subst (Proposes ns cs) (sym is)
    (⊎_elim
    (λ (x : called (input_step old.vm.machine) old.vm.machine ≡ Failed e w.machine).
    let q = (failed_quiet old.vm.machine (input_step old.vm.machine) e w.machine (input_silent old.vm.machine) x).0 in
    dies ns cs old p (with_vm w old) q.messages e refl q.output q.proposals (called_failed old.vm.machine (input_step old.vm.machine) e w.machine live x).0)
    (λ (x : IsStarved old.vm.machine e w.machine). dies ns cs old p (with_vm w old) [] _ refl (x.output ∙ sym (append-nil old.vm.machine.output)) refl x.failure)
    does.0)

-- ---- a step

-- what is known of a machine that runs: its recorded commands are the last ones of the journal, and a result of the next id that has come is known
pub record Knows (ns : List Notification) (cs : List RawMessage) (v : Machine) : Type 0 where
  pub recorded : (raw : RawMessage) (rest : List RawMessage) → v.commands ≡ raw ∷ rest → (used : List RawMessage) × (cs ≡ used ++ raw ∷ rest)
  pub free : knows_next v ≡ false → completes_id (next_of v) ns ≡ false

both_tests : (a b : Bool) → (a && b) ≡ true → b ≡ true
both_tests true b h = h
both_tests false b h = absurd (cc)

-- what is header-equal to a run's command is a run's, with its id
equal_runs : (id : ℕ) (name : List ℕ) (ignore : Bool) (n : Message) → header_equal n (run_command id name) ignore ≡ true → read_runs id (Some n) ≡ true
unfolding header_equal
equal_runs id name ignore (message.Run a) e = both_tests _ (a.result_completion_id == id) e
equal_runs id name ignore n e = absurd (cc)

run_first : (id : ℕ) (raw : RawMessage) (rest : List RawMessage) → read_runs id (message_in raw.ty raw.body) ≡ true → has_run id (raw ∷ rest) ≡ true
run_first id raw rest h = ap (λ b. b || has_run id rest) h

-- the command that was written
run_written : (id : ℕ) (name : List ℕ) → IsWhole (run_command id name) → has_run id (flat_map command_in (items (run_command id name ∷ []))) ≡ true
run_written id name whole =
    let m = run_command id name in
    ap (has_run id) (commands_are (stored_form m ∷ [])) ∙ run_first id (stored_form m) [] (ap (read_runs id) (read_back m whole) ∙ eq-eqb id id refl)

front_nothing : {A : Type 0} (xs ys : List A) → xs ++ ys ≡ [] → xs ≡ []
front_nothing [] ys e = refl
front_nothing (x ∷ xs) ys e = absurd (cc)

module _ (ns : List Notification) (cs : List RawMessage) (old : Record) (p : Proposes ns cs old) (live : old.vm.machine.failure ≡ None) (knows : Knows ns cs old.vm.machine) where
  abbrev ws : List Written
  ws = items (p.sent ++ p.waiting)

  called_proposes : (new : Record) (messages : List Message) → new.taken ≡ old.taken → new.vm.machine.output ≡ old.vm.machine.output ++ map encoding messages → proposals_among (map stored_form messages) ≡ [] → IsCalled old.vm.machine new.vm.machine
      → has_run (next_of old.vm.machine) (cs ++ flat_map command_in (ws ++ items messages)) ≡ true → (new.answers ≡ [] → ⊥) → Proposes ns cs new
  called_proposes new messages taken output none c run late =
      grows ns cs old p new messages taken output (sound_called ns cs ws (items messages) (items_propose messages none) old.answers new.answers old.vm.machine new.vm.machine live c run (knows.free c.unknown) late p.sound)

  -- a call that is answered
  answered_proposes : (new : Record) → new.taken ≡ old.taken → (new.answers ≡ [] → ⊥) → Sends old.vm.machine new.vm.machine → next_of old.vm.machine ≤ next_of new.vm.machine → CallsRuns old.vm.machine new.vm.machine → Proposes ns cs new
  answered_proposes new taken late sends counter calls =
      ⊎_elim
      (λ (same : SameRuns old.vm.machine new.vm.machine). goes_on ns cs old p new sends.messages taken sends.output sends.proposals (λ _. (live, same, counter)) (λ _ is. absurd (late is)))
      (λ (c : IsCalled old.vm.machine new.vm.machine). by_call c c.carried)
      calls
    where
      id : ℕ
      id = next_of old.vm.machine

      by_call : (c : IsCalled old.vm.machine new.vm.machine) → IsCarriedOut (run_command id c.name) old.vm.machine new.vm.machine → Proposes ns cs new
      by_call c (inl (processing, output)) =
          let m = run_command id c.name in
          called_proposes new (m ∷ []) taken output (proposes_nothing (stored_form m) refl) c
          (subst (λ (x : List RawMessage). has_run id x ≡ true) (sym (commands_more ns cs ws (items (m ∷ [])) (items_propose (m ∷ []) (proposes_nothing (stored_form m) refl))))
          (run_behind id (cs ++ flat_map command_in ws) (flat_map command_in (items (m ∷ []))) (run_written id c.name (c.whole processing)))) late
      by_call c (inr (raw, rest, recorded, ignore, commands, reads, type, equal)) =
          let k = knows.recorded raw rest commands in
          let first = run_first id raw rest (ap (read_runs id) reads ∙ equal_runs id c.name ignore recorded equal) in
          let there : has_run id cs ≡ true = subst (λ (x : List RawMessage). has_run id x ≡ true) (sym k.1) (run_behind id k.0 (raw ∷ rest) first) in
          called_proposes new sends.messages taken sends.output sends.proposals c (run_front id cs (flat_map command_in (ws ++ items sends.messages)) there) late

  asks_propose : (m : Meaning) (result : Result Progress Error) (new : Record) → IsLive old.vm.machine → old.answers ≢ [] → MakesStep m old result new → Proposes ns cs new
  asks_propose m result new is_live answered (x, w, does, is, made) = subst (Proposes ns cs) (sym is) (by_reply x (step_leaves (step_asked m old) old.vm.machine is_live x w.machine does.0.0) does)
    where
      more : (a : Answer) → old.answers ++ a ∷ [] ≡ [] → ⊥
      more a e = answered (front_nothing old.answers (a ∷ []) e)

      by_answer : (a : Reply) (new : Record) → new.taken ≡ old.taken → (new.answers ≡ [] → ⊥) → new.vm.machine ≡ w.machine → Leaves StandsBy old.vm.machine a w.machine → StepMade (step_asked m old) (Ok a) old.vm w → Proposes ns cs new
      by_answer a new taken late same h does =
          let st = step_asked m old in
          let v = old.vm.machine in
          answered_proposes new taken late (subst (Sends v) (sym same) h.sends) (subst (λ (u : Machine). next_of v ≤ next_of u) (sym same) (step_numbers st v (Ok a) w.machine does.0.0 does.1).counter) (subst (CallsRuns v) (sym same) (step_runs st v a w.machine does.1 does.0.0))

      by_reply : (x : Result Reply Error) → IsLeft old.vm.machine x w.machine → StepMade (step_asked m old) x old.vm w → Proposes ns cs (replied old (future_in (step_asked m old)) x w)
      by_reply (Ok (reply.Answer a)) h does = by_answer (reply.Answer a) _ refl (more a) refl h does
      by_reply (Ok (reply.Waiting input run)) h does = by_answer (reply.Waiting input run) _ refl answered refl h does
      by_reply (Ok (reply.Execute run)) h does = by_answer (reply.Execute run) _ refl answered refl h does
      by_reply (Ok reply.Suspended) h does = by_answer reply.Suspended _ refl answered refl h does
      by_reply (Ok reply.Ended) h does = by_answer reply.Ended _ refl answered refl h does
      by_reply (Err e) h does = dies ns cs old p _ h.0.messages e refl h.0.output h.0.proposals h.1

-- what is known of a machine whose handler runs
abbrev pub KnowsLive : List Notification → List RawMessage → Record → Type 0
KnowsLive ns cs r = IsLive r.vm.machine → r.answers ≢ [] → Knows ns cs r.vm.machine

module _ (ns : List Notification) (cs : List RawMessage) (m : Meaning) (old : Record) (result : Result Progress Error) (new : Record) (p : Proposes ns cs old) (knows : KnowsLive ns cs old) where
  same_proposes : new ≡ old → Proposes ns cs new
  same_proposes is = subst (Proposes ns cs) (sym is) p

  advances_propose : IsLive old.vm.machine → Advances m old result new → Proposes ns cs new
  advances_propose live =
      ⊎_elim
      (λ (x : LacksMemory old result new). subst (Proposes ns cs) (sym x.1) (goes_quietly ns cs old p (record old { starved = true }) refl refl (lives_same old.vm.machine) refl))
      (λ (o : ((old.answers ≡ []) × InputIsRead old result new) ⊎ ((old.answers ≢ []) × MakesStep m old result new)).
      ⊎_elim
      (λ (x : (old.answers ≡ []) × InputIsRead old result new). reads_propose ns cs old result new live.failure x.0 p x.1)
      (λ (x : (old.answers ≢ []) × MakesStep m old result new). asks_propose ns cs old p live.failure (knows live x.0) m result new live x.0 x.1)
      o)

  step_at_proposes : (ph : Phase) → old.vm.machine.failure ≡ None → old.vm.machine.phase ≡ ph → StepAt ph m old result new → Proposes ns cs new
  step_at_proposes WaitingStart live at d = same_proposes d.1
  step_at_proposes WaitingReplayEntries live at d = same_proposes d.1
  step_at_proposes Closed live at d = same_proposes d.1
  step_at_proposes Replaying live at d = advances_propose (record { failure = live; phase = ap is_running at }) d
  step_at_proposes Processing live at d = advances_propose (record { failure = live; phase = ap is_running at }) d

  step_unless_proposes : (f : Option Error) (over : Option Progress) → old.vm.machine.failure ≡ f → StepUnless f over m old result new → Proposes ns cs new
  step_unless_proposes (Some e) over is d = same_proposes d.1
  step_unless_proposes None (Some made) is d = same_proposes d.1
  step_unless_proposes None None is d = step_at_proposes old.vm.machine.phase is refl d

  pub step_proposes : StepDoes m old result new → Proposes ns cs new
  step_proposes does = by_test old.starved does
    where
      by_test : (b : Bool) → StepFrom b m old result new → Proposes ns cs new
      by_test true d = same_proposes d.1
      by_test false d = step_unless_proposes old.vm.machine.failure old.over refl d

-- ---- the attempt gets a run's result

-- what is proposed
abbrev proposal : ℕ → ValueOrFailure → Message
proposal id result = message.ProposeRunCompletion (record { id = id; result = result })

abbrev kept_as : ℕ → ValueOrFailure → ProposeRunCompletion
kept_as id result = record { id = id; result = result }

one_item : (o : Option ProposeRunCompletion) (kept : ProposeRunCompletion) → proposed_by o [] ≡ kept ∷ [] → written_before (option_map Proposal o) [] ≡ Proposal kept ∷ []
one_item None kept e = absurd (cc)
one_item (Some q) kept e = let same : q ≡ kept = cc in ap (λ k. Proposal k ∷ []) same

-- the item of a proposal that can be read back
proposal_item : (id : ℕ) (result : ValueOrFailure) → IsWhole (proposal id result) → items (proposal id result ∷ []) ≡ Proposal (kept_as id result) ∷ []
proposal_item id result whole = one_item (proposal_in (stored_form (proposal id result)).body) (kept_as id result) (proposes_one (record { id = id; result = result }) whole)

record IsSaid (id : ℕ) (result : ValueOrFailure) (v w : Machine) : Type 0 where
  failure : w.failure ≡ v.failure
  runs : w.runs ≡ v.runs
  counters : w.counters ≡ v.counters
  output : w.output ≡ v.output ++ encoding (proposal id result) ∷ []

said : (id : ℕ) (result : ValueOrFailure) (v : Machine) → IsSaid id result v (proposed id result v)
said id result v = by_test (is_from_v7 v.version)
  where
    by_test : (b : Bool) → IsSaid id result v (record (if b then record v { proposals = v.proposals ++ kept_as id result ∷ [] } else v) { output = v.output ++ encoding (proposal id result) ∷ [] })
    by_test true = record { failure = refl; runs = refl; counters = refl; output = refl }
    by_test false = record { failure = refl; runs = refl; counters = refl; output = refl }

done_same : {A : Type 0} (a b : A) (v w : Machine) → Done a v ≡ Done b w → v ≡ w
done_same a b v w h = cc

abbrev failing : Error → Machine → Outcome Unit
failing e v = Failed e v

failed_same : (d e : Error) (v w : Machine) → failing d v ≡ failing e w → v ≡ w
failed_same d e v w h = cc

module _ (handle : NotificationHandle) (exit : RunExitResult) (policy : RetryPolicy) (v : Machine) where
  -- the result of the handle's pending run is proposed
  record IsTold (w : Machine) : Type 0 where
    run : PendingRun
    found : find (has_handle handle) v.runs ≡ Some run
    result : ValueOrFailure
    whole : IsWhole (proposal run.completion_id result)
    machine : w ≡ proposed run.completion_id result (without_run handle v)

  run_found : (run : PendingRun) → run_at handle.0 v ≡ Some run → find (has_handle handle) v.runs ≡ Some run
  run_found run = by_test (is_some (id_at handle.0 v.results.handles))
    where
      by_test : (b : Bool) → (if b then find (has_handle (record { 0 = handle.0 })) v.runs else None) ≡ Some run → find (has_handle handle) v.runs ≡ Some run
      by_test true h = h
      by_test false h = absurd (cc)

  settles_done : (run : PendingRun) (s : Settlement) (t : Unit {0}) (w : Machine) → find (has_handle handle) v.runs ≡ Some run → SettlesAs run.completion_id s (without_run handle v) (Done t w) → IsTold w
  settles_done run (settlement.Proposed result) t w found (whole, is) = record { run = run; found = found; result = result; whole = whole; machine = done_same t tt w _ is }
  settles_done run (settlement.Failed e) t w found is = absurd (cc)

  settled_done : (run : Option PendingRun) (t : Unit {0}) (w : Machine) → run_at handle.0 v ≡ run → Settled handle exit policy run v (Done t w) → IsTold w
  settled_done None t w at is = absurd (cc)
  settled_done (Some run) t w at (s, becomes, settles) = settles_done run s t w (run_found run at) settles

  done_at : (ph : Phase) (t : Unit {0}) (w : Machine) → SettledAt ph handle exit policy v (Done t w) → (w ≡ v) ⊎ IsTold w
  done_at WaitingStart t w is = inl (done_same t tt w v is)
  done_at WaitingReplayEntries t w is = inl (done_same t tt w v is)
  done_at Replaying t w is = inl (done_same t tt w v is)
  done_at Closed t w is = inl (done_same t tt w v is)
  done_at Processing t w does = inr (settled_done (run_at handle.0 v) t w refl does)

  done_unless : (f : Option NamedFault) (t : Unit {0}) (w : Machine) → SettledUnless f handle exit policy v (Done t w) → (w ≡ v) ⊎ IsTold w
  done_unless (Some name) t w is = absurd (cc)
  done_unless None t w does = done_at v.phase t w does

  -- a refused event has written nothing
  settles_failed : (id : ℕ) (s : Settlement) (e : Error) (w : Machine) → SettlesAs id s (without_run handle v) (Failed e w) → w.output ≡ v.output
  settles_failed id (settlement.Proposed result) e w (whole, is) = absurd (cc)
  settles_failed id (settlement.Failed d) e w is = ap (λ (x : Machine). x.output) (failed_same e d w (without_run handle v) is)

  settled_failed : (run : Option PendingRun) (e : Error) (w : Machine) → Settled handle exit policy run v (Failed e w) → w.output ≡ v.output
  settled_failed None e w is = ap (λ (x : Machine). x.output) (failed_same e _ w v is)
  settled_failed (Some run) e w (s, becomes, settles) = settles_failed run.completion_id s e w settles

  failed_at : (ph : Phase) (e : Error) (w : Machine) → SettledAt ph handle exit policy v (Failed e w) → w.output ≡ v.output
  failed_at WaitingStart e w is = absurd (cc)
  failed_at WaitingReplayEntries e w is = absurd (cc)
  failed_at Replaying e w is = absurd (cc)
  failed_at Closed e w is = absurd (cc)
  failed_at Processing e w does = settled_failed (run_at handle.0 v) e w does

  failed_unless : (f : Option NamedFault) (e : Error) (w : Machine) → SettledUnless f handle exit policy v (Failed e w) → w.output ≡ v.output
  failed_unless (Some name) e w is = ap (λ (x : Machine). x.output) (failed_same e _ w v is)
  failed_unless None e w does = failed_at v.phase e w does

  tells_done : (t : Unit {0}) (w : Machine) → v.failure ≡ None → CalledBy (MayCome handle exit policy v) v (Done t w) → (w ≡ v) ⊎ IsTold w
  tells_done t w live does =
      let from = called_from (MayCome handle exit policy v) v (Done t w) does in
      done_unless (proposal_fault exit policy v.version) t w (subst (MayCome handle exit policy v) (done_of v from.0 t w live (sym from.2)) (from.1 live))

  -- the VM fails
  tells_failed : (e : Error) (w : Machine) → v.failure ≡ None → CalledBy (MayCome handle exit policy v) v (Failed e w) → Quiet v w × (w.failure ≡ Some e)
  tells_failed e w live does =
      let from = called_from (MayCome handle exit policy v) v (Failed e w) does in
      let f = called_failed v from.0 e w live (sym from.2) in
      let comes : MayCome handle exit policy v (failing f.1.0 f.1.1) = subst (MayCome handle exit policy v) f.1.2 (from.1 live) in
      ((failed_quiet v (failing f.1.0 f.1.1) e w (failed_unless (proposal_fault exit policy v.version) f.1.0 f.1.1 comes) (ap (λ o. called o v) (sym f.1.2) ∙ sym from.2)).0, f.0)

-- a VM that had failed answers its first error
first_answered : (e : Error) (o : Outcome Unit) (event : Outcome Unit) (v : Machine) → v.failure ≡ Some e → o ≡ called event v → o ≡ failing e v
first_answered e o event v dead is = is ∙ answers_first event e v dead

no_answer : {A : Type 0} (e : Error) (t : Unit {0}) (v w : Machine) → Done t w ≡ failing e v → A
no_answer e t v w h = absurd (cc)

module _ (ns : List Notification) (cs : List RawMessage) (handle : NotificationHandle) (exit : RunExitResult) (policy : RetryPolicy) (old : Record) (p : Proposes ns cs old) where
  abbrev machine : Machine
  machine = old.vm.machine

  -- a result is proposed
  told_proposes : (w : Machine) (new : Record) → machine.failure ≡ None → IsTold handle exit policy machine w → new.taken ≡ old.taken → new.answers ≡ old.answers → new.vm.machine ≡ w → Proposes ns cs new
  told_proposes w new live t taken answers is =
      let id = t.run.completion_id in
      let at : new.vm.machine ≡ proposed id t.result (without_run handle machine) = is ∙ t.machine in
      let s = said id t.result (without_run handle machine) in
      let ws = items (p.sent ++ p.waiting) in
      grows ns cs old p new (proposal id t.result ∷ []) taken (ap (λ (x : Machine). x.output) at ∙ s.output)
      (subst (λ (x : List Written × List Answer). Sound ns cs (ws ++ x.0) x.1 new.vm.machine) (λ i. (sym (proposal_item id t.result t.whole) i, sym answers i))
      (sound_proposed ns cs ws old.answers machine new.vm.machine handle t.run (kept_as id t.result) live t.found refl (ap (λ (x : Machine). x.runs) at ∙ s.runs) (ap (λ (x : Machine). x.counters.completion) at ∙ ap (λ c. c.completion) s.counters) p.sound))

  -- nothing has changed but what the record says
  same_told : (new : Record) → new.taken ≡ old.taken → new.answers ≡ old.answers → new.vm.machine ≡ machine → Proposes ns cs new
  same_told new taken answers is = goes_quietly ns cs old p new taken (ap (λ (x : Machine). x.output) is) (subst (LivesOn machine) (sym is) (lives_same machine)) answers

  done_proposes : (f : Option Error) → machine.failure ≡ f → (t : Unit {0}) (w : Machine) (new : Record) → CalledBy (MayCome handle exit policy machine) machine (Done t w) → new.taken ≡ old.taken → new.answers ≡ old.answers → new.vm.machine ≡ w → Proposes ns cs new
  done_proposes None live t w new does taken answers is =
      ⊎_elim
      (λ (x : w ≡ machine). same_told new taken answers (is ∙ x))
      (λ (x : IsTold handle exit policy machine w). told_proposes w new live x taken answers is)
      (tells_done handle exit policy machine t w live does)
  done_proposes (Some e) dead t w new does taken answers is =
      let from = called_from (MayCome handle exit policy machine) machine (Done t w) does in
      no_answer e t machine w (first_answered e (Done t w) from.0 machine dead from.2)

  failed_proposes : (f : Option Error) → machine.failure ≡ f → (e : Error) (w : Machine) (new : Record) → CalledBy (MayCome handle exit policy machine) machine (Failed e w) ⊎ IsStarved machine e w → new.taken ≡ old.taken → new.answers ≡ old.answers → new.vm.machine ≡ w → Proposes ns cs new
  failed_proposes None live e w new does taken answers is =
      ⊎_elim
      (λ (x : CalledBy (MayCome handle exit policy machine) machine (Failed e w)).
      let f = tells_failed handle exit policy machine e w live x in
      dies ns cs old p new f.0.messages e taken (ap (λ (y : Machine). y.output) is ∙ f.0.output) f.0.proposals (ap (λ (y : Machine). y.failure) is ∙ f.1))
      (λ (x : IsStarved machine e w). dies ns cs old p new [] _ taken (ap (λ (y : Machine). y.output) is ∙ x.output ∙ sym (append-nil machine.output)) refl (ap (λ (y : Machine). y.failure) is ∙ x.failure))
      does
  failed_proposes (Some d) dead e w new does taken answers is =
      ⊎_elim
      (λ (x : CalledBy (MayCome handle exit policy machine) machine (Failed e w)).
      let from = called_from (MayCome handle exit policy machine) machine (Failed e w) x in
      same_told new taken answers (is ∙ failed_same e d w machine (first_answered d (Failed e w) from.0 machine dead from.2)))
      (λ (x : IsStarved machine e w). dies ns cs old p new [] _ taken (ap (λ (y : Machine). y.output) is ∙ x.output ∙ sym (append-nil machine.output)) refl (ap (λ (y : Machine). y.failure) is ∙ x.failure))
      does

  noted_at_same : (o : Option Error) → ((noted_at o handle old).taken ≡ old.taken) × ((noted_at o handle old).answers ≡ old.answers)
  noted_at_same (Some e) = (refl, refl)
  noted_at_same None = (refl, refl)

  finishes_propose : (result : Result Unit Error) (new : Record) → CompletesRun handle exit policy old result new → Proposes ns cs new
  finishes_propose (Ok t) new (w, does, is) = subst (Proposes ns cs) (sym is) (done_proposes machine.failure refl t w.machine (record old { proposed = old.proposed ++ newly_proposed old.vm.machine w.machine; vm = w }) does.0 refl refl refl)
  finishes_propose (Err e) new (w, does, is) = let n = noted_at_same machine.failure in subst (Proposes ns cs) (sym is) (failed_proposes machine.failure refl e w.machine (with_vm w (failed_run_noted (Err e) handle old)) does.0 n.0 n.1 refl)

  pub finish_proposes : (result : Result Unit Error) (new : Record) → FinishDoes old.starved handle exit policy old result new → Proposes ns cs new
  finish_proposes result new does = by_test old.starved does
    where
      by_test : (b : Bool) → FinishDoes b handle exit policy old result new → Proposes ns cs new
      by_test true d = subst (Proposes ns cs) (sym d.1) p
      by_test false d = finishes_propose result new d
