-- Each call of an attempt keeps what is kept of it: the input, and all that a step does.
use Rattle.vm_model.specs.Histories.{Handed}
use Rattle.std.proofs.Common.{◌≡◌, ◌≢◌, ◌⊎◌, ℕ, Bool, true, false, List, [], ◌∷◌, ◌++◌, Option, Some, None, Result, Ok, Err, refl, sym, ap, ◌∙◌, subst, inl, inr, ⊎_elim, Global}
use Rattle.std.specs.Prelude.{◌==◌, if◌then◌else◌, drop, length, is_some, IsSome}
use Rattle.journal_protocol.specs.InputCommand.{InputCommand}
use Rattle.journal_protocol.specs.Error.{Error}
use Rattle.journal_protocol.specs.NamedFault.{NamedFault}
use Rattle.journal_protocol.specs.NamedFault.TheVariants as fault
use Rattle.journal_protocol.specs.RawMessage.{RawMessage}
use Rattle.journal_protocol.specs.Notification.{Notification}
use Rattle.journal_protocol.specs.MessageType.TheVariants as type
use Rattle.journal_protocol.specs.Version.{Version}
use Rattle.journal_protocol.specs.Errors.{no_memory}
use Rattle.journal_protocol.specs.Bodies.{input_in}
use Rattle.journal_protocol.specs.Types.{type_number}
use Rattle.vm_state.specs.declared.state_map.StateMap.{StateMap}
use Rattle.vm_types.specs.declared.options.VMOptions.{VMOptions}
use Rattle.vm_types.specs.declared.steps.Answer.{Answer}
use Rattle.vm_types.specs.declared.steps.Answer.TheVariants as answer
use Rattle.await_trees.specs.declared.tree.UnresolvedFuture.{UnresolvedFuture}
use Rattle.vm_types.specs.declared.values.Input.{Input}
use Rattle.vm_state.specs.Counting.{missing_number as lacking}
use Rattle.vm_machine.specs.declared.machine.Machine.{Machine}
use Rattle.vm_machine.specs.declared.phase.Phase.{Phase}
use Rattle.vm_machine.specs.declared.phase.Phase.TheVariants.{WaitingStart, WaitingReplayEntries, Replaying, Processing, Closed}
use Rattle.vm_machine.specs.Commands.{entered, phase_after, popped, popped_from}
use Rattle.vm_machine.specs.Inputs.{coverage_of, input_at, input_by, input_counted, input_numbered, input_past, input_read, input_step}
use Rattle.vm_machine.specs.Skips.{counters_past, skipped}
use Rattle.vm_types.specs.Options.{skips_replay}
use Rattle.vm_machine.proofs.Skipping.{input_is}
use Rattle.vm_asks.specs.Carried.{past_all}
use Rattle.vm_state.specs.declared.counters.Counters.{Counters}
use Rattle.vm_types.specs.declared.options.JournalReplay.TheVariants.{Enabled}
use Rattle.journal_protocol.specs.SignalDelivery.TheVariants.{Queued}
use Rattle.vm_model.specs.Deliveries.{HasNoTwo}
use Rattle.vm_machine.specs.Making.{fresh}
use Rattle.vm_machine.specs.Outcomes.{IsStarved, Outcome, Done, Failed, ◌>>>◌, about_last, called, called_at, settled, ruled, failed}
use Rattle.vm_machine.specs.Phases.{is_closed, is_running}
use Rattle.journal_entries.specs.Frames.{Rest, frames_of}
use Rattle.invocation_vm.specs.Making.{made}
use Rattle.invocation_vm.specs.Views.{View, left_by}
use Rattle.vm_model.specs.Calls.{Meaning, Setup, identity_of}
use Rattle.journal_entries.specs.Journal.{input_read_from}
use Rattle.vm_model.specs.Moves.{longer, start, told_input}
use Rattle.vm_model.proofs.Compared.{after_answers, attempt_is_told}
use Rattle.vm_model.proofs.Runs.{made_after}
use Rattle.std.specs.List.{AllByRecursion}
use Rattle.journal_protocol.specs.ProposeRunCompletion.{ProposeRunCompletion}
use Rattle.journal_protocol.specs.Versions.{is_from_v7}
use Rattle.vm_attempt.specs.Arrivals.{arriving, kept_after}
use Rattle.vm_attempt.specs.Heard.{acknowledged_from}
use Rattle.vm_attempt.proofs.Arriving.{arriving_alone, kept_none}
use Rattle.vm_attempt.proofs.Proposed.{none_found, none_front}
use Rattle.vm_attempt.specs.Heard.{Heard}
use Rattle.vm_attempt.specs.declared.progress.Progress.{Progress}
use Rattle.vm_attempt.specs.declared.progress.Progress.TheVariants as progress
use Rattle.vm_attempt.specs.Agreement.{Agrees, Aside}
use Rattle.journal_entries.specs.JournalFrames.{commands_among, notifications_among, AcknowledgesNothing}
use Rattle.vm_attempt.specs.Journals.{BeginsOrFails, HasAll, StillWaits, machine_fed, with_missing, setup_for}
use Rattle.vm_attempt.specs.Record.{Record, heard}
use Rattle.vm_attempt.specs.Stepping.{Advances, MakesStep, IfWaits, IsReplaying, LacksMemory, InputIsRead, StepAt, StepDoes, StepFrom, StepUnless, fresh_record}
use Rattle.vm_parts.specs.Outboxes.{WholeFrames}
use Rattle.vm_attempt.specs.Told.{AnswersAreTold, BeforeInput, Begun, Comes, IsAsleep, IsKept, IsLive, NothingWakes, Premises, Quiet, AnswersInReplay, HandlerRuns, AwaitWaits, StillAwaits, ToldBy, Wrote, arrivals, bytes_fed, frames_fed, start_state}
use Rattle.vm_attempt.proofs.Beginning.{input_begins}
use Rattle.vm_attempt.proofs.Kept.{KeptBy, Lasts, Reading, dead_same}
use Rattle.vm_attempt.proofs.Lasting.{runs_last}
use Rattle.vm_attempt.proofs.Pieces.{agrees_running}
use Rattle.vm_attempt.proofs.Quiet.{Silent, error_quiet, quiet_same, wrote_quiet}
use Rattle.vm_attempt.proofs.Written.{written_is}
use Rattle.vm_attempt.proofs.Stepped.{asks_keep, asks_replay, asks_wait}
use Rattle.vm_model.specs.Fixed.{Fixed, fixed_by}

-- ---- an event that failed

pub failed_quiet : {A : Type 0} (v : Machine) (o : Outcome A) (e : Error) (w : Machine) → Silent v o → called o v ≡ Failed e w → Quiet v w × IsSome w.failure
unfolding called
failed_quiet {A} v o e w silent is = by_option v.failure refl is
  where
    by_outcome : (q : Outcome A) → Silent v q → settled q ≡ Failed e w → Quiet v w × IsSome w.failure
    by_outcome (Done a x) s h = absurd (cc)
    by_outcome (Failed f x) s h =
        let at : failed (ruled x f) x ≡ w = ap left_by h in
        (subst (Quiet v) at (error_quiet (ruled x f) v x s (is_closed x.phase) refl), ap (λ (z : Machine). is_some z.failure) (sym at))

    by_option : (f : Option Error) → v.failure ≡ f → called_at f o v ≡ Failed e w → Quiet v w × IsSome w.failure
    by_option None live h = by_outcome o silent h
    by_option (Some f) dead h =
        let at : v ≡ w = ap left_by h in
        (quiet_same v w (ap (λ (z : Machine). z.output) (sym at)), ap (λ (z : Machine). is_some z.failure) (sym at) ∙ ap is_some dead)

read_silent : (o : Option InputCommand) (v w : Machine) → w.output ≡ v.output → Silent v (input_read o w)
read_silent None v w is = is
read_silent (Some c) v w is = is

popped_silent : (commands : List RawMessage) (v w : Machine) → w.output ≡ v.output → Silent v (popped_from commands type.InputCommand w >>> λ raw u. input_read (input_in raw.body) u)
popped_silent [] v w is = is
popped_silent (raw ∷ rest) v w is = by_test (type_number raw.ty == type_number type.InputCommand)
  where
    u : Machine
    u = record w { commands = rest; phase = phase_after rest }

    by_test : (b : Bool) → Silent v ((if b then Done raw u else Failed (about_last fault.CommandTypeMismatch u) u) >>> λ raw u. input_read (input_in raw.body) u)
    by_test true = read_silent (input_in raw.body) v u is
    by_test false = is

counted_silent : (o : Option NamedFault) (v : Machine) → Silent v (input_counted o v)
unfolding popped
counted_silent (Some name) v = refl
counted_silent None v = popped_silent v.commands v (entered type.InputCommand [] v) refl

skipped_silent : (counters : Counters) (v : Machine) (o : Outcome Input) → Silent v o → Silent v (o >>> λ input w. Done input (skipped counters w))
skipped_silent counters v (Done input w) is = is
skipped_silent counters v (Failed e w) is = is

numbered_silent : (r : Result Counters NamedFault) (v : Machine) → Silent v (input_numbered r v)
numbered_silent (Err name) v = refl
numbered_silent (Ok counters) v = skipped_silent counters v (input_counted None v) (counted_silent None v)

past_silent : (o : Option ℕ) (v : Machine) → Silent v (input_past o v)
past_silent None v = refl
past_silent (Some id) v = numbered_silent (counters_past (length (drop 1 v.commands)) id v.counters) v

by_silent : (b : Bool) (v : Machine) → Silent v (input_by b v)
by_silent false v = counted_silent (lacking 0 0 0 v.counters) v
by_silent true v = past_silent (past_all v.counters.completion (drop 1 v.commands)) v

pub input_silent : (v : Machine) → Silent v (input_step v)
unfolding input_step
input_silent v = by_phase v.phase
  where
    by_phase : (ph : Phase) → Silent v (input_at ph v)
    by_phase WaitingStart = refl
    by_phase WaitingReplayEntries = refl
    by_phase Replaying = by_silent (skips_replay v.options.journal_replay) v
    by_phase Processing = refl
    by_phase Closed = refl

-- ---- the input is read

pub done_of : {A : Type 0} (v : Machine) (o : Outcome A) (a : A) (w : Machine) → v.failure ≡ None → called o v ≡ Done a w → o ≡ Done a w
unfolding called
done_of {A} v o a w live is = by_outcome o (ap (λ f. called_at f o v) (sym live) ∙ is)
  where
    by_outcome : (q : Outcome A) → settled q ≡ Done a w → q ≡ Done a w
    by_outcome (Done b x) h = h
    by_outcome (Failed e x) h = absurd (cc)

-- a machine that waits reads no input
waits_reads : {A : Type 0} (v : Machine) (i : Input) (w : Machine) → is_running v.phase ≡ false → input_step v ≡ Done i w → A
unfolding input_step
waits_reads {A} v i w asleep is = by_phase v.phase asleep is
  where
    by_phase : (ph : Phase) → is_running ph ≡ false → input_at ph v ≡ Done i w → A
    by_phase WaitingStart a h = absurd (cc)
    by_phase WaitingReplayEntries a h = absurd (cc)
    by_phase Closed a h = absurd (cc)
    by_phase Replaying a h = absurd (cc)
    by_phase Processing a h = absurd (cc)

no_command_reads : {A : Type 0} (s : Setup) (given : StateMap) (aside : Aside) (ns : List Notification) (i : Input) (w : Machine) → input_step (machine_fed s given aside [] ns Replaying) ≡ Done i w → A
no_command_reads s given aside ns i w is =
    let r = input_is (machine_fed s given aside [] ns Replaying) i w is in
    absurd (let z : [] ≡ r.first ∷ r.rest = r.commands in cc)

-- the handler runs, and nothing was written
abbrev pub Begins : Fixed → Heard → List Answer → Option UnresolvedFuture → List (List ℕ) → View → Type 0
Begins fixed fed answers waiting taken v = (k : HandlerRuns fixed fed answers waiting taken v) × (k.written ≡ []) × (fed.proposed ≡ [])

read_begins : (fixed : Fixed) (fed : Heard) (replays : fixed.options.journal_replay ≡ Enabled) (nothing : fed.proposed ≡ []) (before : Option UnresolvedFuture) (taken : List (List ℕ)) (v w : View) (b : Begun fixed fed v.machine) (h : HasAll (setup_for fixed b.start) (record { entries = b.state; coverage = coverage_of b.start.partial }) b.aside b.start.known_entries [] [] b.others v.machine)
    → (i : Input) → input_step v.machine ≡ Done i w.machine → before ≡ None → Wrote taken v.machine.output [] → (frames_of (bytes_fed fed)).1 ≡ Rest w.undecoded
    → (cs : List RawMessage) → commands_among h.entries ≡ cs → Begins fixed fed (answer.Input i ∷ []) before taken w
read_begins fixed fed replays nothing before taken v w b h i is none wrote tail [] e =
    let s = setup_for fixed b.start in
    let given : StateMap = record { entries = b.state; coverage = coverage_of b.start.partial } in
    no_command_reads s given (with_missing 0 b.aside) (notifications_among b.others) i w.machine (sym (ap input_step (h.machine ∙ λ j. machine_fed s given (with_missing 0 b.aside) (e j) (notifications_among b.others) Replaying)) ∙ is)
read_begins fixed fed replays nothing before taken v w b h i is none wrote tail (first ∷ rest) e =
    let s = setup_for fixed b.start in
    let given : StateMap = record { entries = b.state; coverage = coverage_of b.start.partial } in
    let ns = notifications_among b.others in
    let at : v.machine ≡ machine_fed s given (with_missing 0 b.aside) (first ∷ rest) ns Replaying = h.machine ∙ λ j. machine_fed s given (with_missing 0 b.aside) (e j) ns Replaying in
    by_input (input_read_from first) refl (subst (BeginsOrFails s given (with_missing 0 b.aside) rest ns (input_read_from first)) (sym (ap input_step at) ∙ is) (input_begins s given (with_missing 0 b.aside) first rest ns replays (ap identity_of (sym b.of_start))))
  where
    by_input : (o : Option InputCommand) → input_read_from first ≡ o → BeginsOrFails (setup_for fixed b.start) (record { entries = b.state; coverage = coverage_of b.start.partial }) (with_missing 0 b.aside) rest (notifications_among b.others) o (Done i w.machine) → Begins fixed fed (answer.Input i ∷ []) before taken w
    by_input None reads g = absurd g
    by_input (Some c) reads g =
        let s = setup_for fixed b.start in
        let all = h.entries ++ h.others in
        let brings : notifications_among b.others ≡ arriving fed.proposed all = ap notifications_among h.split ∙ sym (arriving_alone all) ∙ ap (λ kept. arriving kept all) (sym nothing) in
        let agrees = subst (λ ns. Agrees s (record { entries = b.state; coverage = coverage_of b.start.partial }) [] w.machine (start s c ns rest)) brings g.1.0 in (
          record {
            journal = record {
              first_frame = b.first_frame;
              entries = h.entries;
              others = h.others;
              frames = b.frames ∙ ap (λ l. b.first_frame ∷ l) h.split;
              start = b.start;
              reads_start = b.reads_start;
              count = h.count;
              none_acknowledge = none_front h.entries h.others (subst (AllByRecursion AcknowledgesNothing) h.split h.none_acknowledge);
              state = b.state;
              reads_state = b.reads_state;
              first = first;
              rest = rest;
              commands = e;
              input = c;
              reads_input = reads;
            };
            written = [];
            wrote = wrote_quiet taken v.machine w.machine [] (quiet_same v.machine w.machine (g.1.1.0 ∙ sym (ap (λ (z : Machine). z.output) h.machine))) wrote;
            at = start s c (arriving fed.proposed all) rest;
            moves = 0;
            run = (refl, refl);
            answers = ap (λ x. answer.Input x ∷ []) (sym g.0);
            awaits = subst (StillAwaits fixed.handler (start s c (arriving fed.proposed all) rest)) (sym none) tt;
            agrees = λ _. agrees;
            rests = λ _. refl;
            keeps = λ _. (g.1.1.1 ∙ sym (ap (λ kept. kept_after kept all) nothing ∙ kept_none all), none_found fed.proposed all (subst (AllByRecursion AcknowledgesNothing) h.split h.none_acknowledge));
            phase = λ _. inl (agrees_running s (record { entries = b.state; coverage = coverage_of b.start.partial }) [] w.machine (start s c (arriving fed.proposed all) rest) agrees);
            tail = λ _. tail;
          },
          refl,
          nothing,
        )

pub reads_done : (fixed : Fixed) (fed : Heard) (replays : fixed.options.journal_replay ≡ Enabled) (nothing : fed.proposed ≡ []) (before : Option UnresolvedFuture) (taken : List (List ℕ)) (v w : View) (i : Input) → Comes fixed fed v.machine → input_step v.machine ≡ Done i w.machine → before ≡ None → Wrote taken v.machine.output [] → (frames_of (bytes_fed fed)).1 ≡ Rest w.undecoded → Begins fixed fed (answer.Input i ∷ []) before taken w
reads_done fixed fed replays nothing before taken v w i comes is none wrote tail =
    ⊎_elim
    (λ (x : (frames_fed fed ≡ []) × ((alloc : Global) × (v.machine ≡ fresh alloc fixed.version fixed.options))). waits_reads v.machine i w.machine (ap (λ (z : Machine). is_running z.phase) x.1.1) is)
    (λ (b : Begun fixed fed v.machine).
    ⊎_elim
    (λ (x : StillWaits (setup_for fixed b.start) (record { entries = b.state; coverage = coverage_of b.start.partial }) b.aside b.start.known_entries [] [] b.others v.machine). waits_reads v.machine i w.machine (ap (λ (z : Machine). is_running z.phase) x.machine) is)
    (λ (x : HasAll (setup_for fixed b.start) (record { entries = b.state; coverage = coverage_of b.start.partial }) b.aside b.start.known_entries [] [] b.others v.machine). read_begins fixed fed replays nothing before taken v w b x i is none wrote tail (commands_among x.entries) refl)
    b.waits)
    comes

-- ---- a step

-- once the handler runs there is an answer
pub runs_answered : (fixed : Fixed) (fed : Heard) (answers : List Answer) (before : Option UnresolvedFuture) (taken : List (List ℕ)) (v : View) → HandlerRuns fixed fed answers before taken v → answers ≢ []
runs_answered fixed fed answers before taken v k none =
    let s = setup_for fixed k.journal.start in
    let p = start s k.journal.input (arrivals k.journal) k.journal.rest in
    let a = after_answers s fixed.handler k.moves (longer k.written p) k.at (made_after s fixed.handler (Handed (start_state k.journal)) k.moves p k.written k.at k.run) in
    let z : [] ≡ answer.Input (told_input s.identity k.journal.input) ∷ a.0 = sym none ∙ sym k.answers ∙ a.1 in
    cc

-- For a statement R of an attempt whose handler has read the input: each step and each call keeps
-- it, if reading the input establishes it and a step with an answer keeps it, while P holds of what
-- was fed.
module _ (R : Reading) (P : Heard → Type 0) (l : Lasts R) (fixed : Fixed) (reads : (fed : Heard) (waiting : Option UnresolvedFuture) (taken : List (List ℕ)) (v w : View) (i : Input) → P fed → fed.proposed ≡ [] → Comes fixed fed v.machine → input_step v.machine ≡ Done i w.machine → waiting ≡ None → Wrote taken v.machine.output [] → (frames_of (bytes_fed fed)).1 ≡ Rest w.undecoded → R fed (answer.Input i ∷ []) waiting taken w)
    (answered : (fed : Heard) (answers : List Answer) (waiting : Option UnresolvedFuture) (taken : List (List ℕ)) (v : View) → R fed answers waiting taken v → answers ≢ [])
    (asks : (old : Record) (result : Result Progress Error) (new : Record) → P (heard fixed.version old) → R (heard fixed.version old) old.answers old.waiting old.taken old.vm → IsLive old.vm.machine → MakesStep fixed.handler old result new → KeptBy R fixed new) where
  abbrev Kept : Record → Type 0
  Kept = KeptBy R fixed

  reads_keep : (old : Record) (result : Result Progress Error) (new : Record) → P (heard fixed.version old) → BeforeInput fixed (heard fixed.version old) old.answers old.waiting old.taken old.vm → old.vm.machine.failure ≡ None → InputIsRead old result new → Kept new
  reads_keep old (Ok progress) new under b live (stepped, (i, w, does, is)) =
      subst Kept (sym is) (inr (reads (heard fixed.version old) old.waiting old.taken old.vm w i under b.none_proposed (b.comes live) (done_of old.vm.machine (input_step old.vm.machine) i w.machine live does.0) b.waits_not b.wrote (b.tail live ∙ ap Rest (sym does.1))))
  reads_keep old (Err e) new under b live (w, does, is) =
      subst Kept (sym is)
      (⊎_elim
      (λ (x : called (input_step old.vm.machine) old.vm.machine ≡ Failed e w.machine).
      let q = failed_quiet old.vm.machine (input_step old.vm.machine) e w.machine (input_silent old.vm.machine) x in
      dead_same R l fixed old w (inl b) q.0 q.1)
      (λ (x : IsStarved old.vm.machine e w.machine). dead_same R l fixed old w (inl b) (quiet_same old.vm.machine w.machine x.output) (rw x.failure refl))
      does.0)

  advances_keep : (old : Record) (result : Result Progress Error) (new : Record) → P (heard fixed.version old) → Kept old → IsLive old.vm.machine → Advances fixed.handler old result new → Kept new
  advances_keep old result new under k live =
      ⊎_elim
      (λ (x : LacksMemory old result new). subst Kept (sym x.1) k)
      (λ (o : ((old.answers ≡ []) × InputIsRead old result new) ⊎ ((old.answers ≢ []) × MakesStep fixed.handler old result new)).
      ⊎_elim
      (λ (x : (old.answers ≡ []) × InputIsRead old result new).
      ⊎_elim
      (λ (b : BeforeInput fixed (heard fixed.version old) old.answers old.waiting old.taken old.vm). reads_keep old result new under b live.failure x.1)
      (λ (b : R (heard fixed.version old) old.answers old.waiting old.taken old.vm). absurd (answered (heard fixed.version old) old.answers old.waiting old.taken old.vm b x.0))
      k)
      (λ (x : (old.answers ≢ []) × MakesStep fixed.handler old result new).
      ⊎_elim
      (λ (b : BeforeInput fixed (heard fixed.version old) old.answers old.waiting old.taken old.vm). absurd (x.0 b.answers))
      (λ (b : R (heard fixed.version old) old.answers old.waiting old.taken old.vm). asks old result new under b live x.1)
      k)
      o)

  step_at : (old : Record) (result : Result Progress Error) (new : Record) → P (heard fixed.version old) → Kept old → old.vm.machine.failure ≡ None → (ph : Phase) → old.vm.machine.phase ≡ ph → StepAt ph fixed.handler old result new → Kept new
  step_at old result new under k live WaitingStart at d = subst Kept (sym d.1) k
  step_at old result new under k live WaitingReplayEntries at d = subst Kept (sym d.1) k
  step_at old result new under k live Closed at d = subst Kept (sym d.1) k
  step_at old result new under k live Replaying at d = advances_keep old result new under k (record { failure = live; phase = ap is_running at }) d
  step_at old result new under k live Processing at d = advances_keep old result new under k (record { failure = live; phase = ap is_running at }) d

  step_unless : (old : Record) (result : Result Progress Error) (new : Record) → P (heard fixed.version old) → Kept old → (f : Option Error) → old.vm.machine.failure ≡ f → (over : Option Progress) → StepUnless f over fixed.handler old result new → Kept new
  step_unless old result new under k (Some e) is over d = subst Kept (sym d.1) k
  step_unless old result new under k None is (Some made) d = subst Kept (sym d.1) k
  step_unless old result new under k None is None d = step_at old result new under k is old.vm.machine.phase refl d

  pub steps_keep : (old : Record) (result : Result Progress Error) (new : Record) → P (heard fixed.version old) → Kept old → StepDoes fixed.handler old result new → Kept new
  steps_keep old result new under k does = by_test old.starved does
    where
      by_test : (b : Bool) → StepFrom b fixed.handler old result new → Kept new
      by_test true d = subst Kept (sym d.1) k
      by_test false d = step_unless old result new under k old.vm.machine.failure refl old.over d

-- the run of a handler is kept by each step
pub step_keeps : (fixed : Fixed) (old : Record) (result : Result Progress Error) (new : Record) → Premises fixed (heard fixed.version old) → IsKept fixed old → StepDoes fixed.handler old result new → IsKept fixed new
step_keeps fixed = steps_keep (HandlerRuns fixed) (Premises fixed) (runs_last fixed) fixed (λ fed waiting taken v w i p none comes is none_waits wrote tail. (reads_done fixed fed p.replays none waiting taken v w i comes is none_waits wrote tail).0) (runs_answered fixed) (λ old result new p k. asks_keep fixed old result new p.queues k (p.once k.journal k.moves k.written k.at k.run))

-- ---- a step that waits

reads_wait : (P : Type 0) (old : Record) (result : Result Progress Error) (new : Record) → InputIsRead old result new → IfWaits result P
reads_wait P old (Ok progress) new (stepped, further) = subst (λ z. IfWaits (Ok z) P) (sym stepped) tt
reads_wait P old (Err e) new d = tt

error_waits : (P : Type 0) (result : Result Progress Error) (e : Error) → result ≡ Err e → IfWaits result P
error_waits P result e is = subst (λ z. IfWaits z P) (sym is) tt

-- the handler runs, as it was answered
pub runs_of : (fixed : Fixed) (r : Record) → IsKept fixed r → r.answers ≢ [] → HandlerRuns fixed (heard fixed.version r) r.answers r.waiting r.taken r.vm
runs_of fixed r k some =
    ⊎_elim
    (λ (b : BeforeInput fixed (heard fixed.version r) r.answers r.waiting r.taken r.vm). absurd (some b.answers))
    (λ (b : HandlerRuns fixed (heard fixed.version r) r.answers r.waiting r.taken r.vm). b)
    k

advances_wait : (fixed : Fixed) (old : Record) (result : Result Progress Error) (new : Record) → Premises fixed (heard fixed.version old) → IsKept fixed old → IsLive old.vm.machine → Advances fixed.handler old result new → IfWaits result (AwaitWaits fixed (heard fixed.version new) new.answers new.taken new.vm)
advances_wait fixed old result new under k live =
    let P = AwaitWaits fixed (heard fixed.version new) new.answers new.taken new.vm in
    ⊎_elim
    (λ (x : LacksMemory old result new). error_waits P result _ x.0)
    (λ (o : ((old.answers ≡ []) × InputIsRead old result new) ⊎ ((old.answers ≢ []) × MakesStep fixed.handler old result new)).
    ⊎_elim
    (λ (x : (old.answers ≡ []) × InputIsRead old result new). reads_wait P old result new x.1)
    (λ (x : (old.answers ≢ []) × MakesStep fixed.handler old result new).
    let run = runs_of fixed old k x.0 in
    asks_wait fixed old result new under.queues run (under.once run.journal run.moves run.written run.at run.run) live x.1)
    o)

wait_at : (fixed : Fixed) (old : Record) (result : Result Progress Error) (new : Record) → Premises fixed (heard fixed.version old) → IsKept fixed old → old.vm.machine.failure ≡ None → (ph : Phase) → old.vm.machine.phase ≡ ph → StepAt ph fixed.handler old result new → IfWaits result (AwaitWaits fixed (heard fixed.version new) new.answers new.taken new.vm)
wait_at fixed old result new under k live WaitingStart at d = subst (λ z. IfWaits z (AwaitWaits fixed (heard fixed.version new) new.answers new.taken new.vm)) (sym d.0) tt
wait_at fixed old result new under k live WaitingReplayEntries at d = subst (λ z. IfWaits z (AwaitWaits fixed (heard fixed.version new) new.answers new.taken new.vm)) (sym d.0) tt
wait_at fixed old result new under k live Closed at d = error_waits _ result _ d.0
wait_at fixed old result new under k live Replaying at d = advances_wait fixed old result new under k (record { failure = live; phase = ap is_running at }) d
wait_at fixed old result new under k live Processing at d = advances_wait fixed old result new under k (record { failure = live; phase = ap is_running at }) d

wait_unless : (fixed : Fixed) (old : Record) (result : Result Progress Error) (new : Record) → Premises fixed (heard fixed.version old) → IsKept fixed old → (f : Option Error) → old.vm.machine.failure ≡ f → StepUnless f None fixed.handler old result new → IfWaits result (AwaitWaits fixed (heard fixed.version new) new.answers new.taken new.vm)
wait_unless fixed old result new under k (Some e) is d = ⊎_elim (λ (x : result ≡ Err e). error_waits _ result e x) (λ (x : result ≡ Err no_memory). error_waits _ result no_memory x) d.0
wait_unless fixed old result new under k None is d = wait_at fixed old result new under k is old.vm.machine.phase refl d

-- if a step waits, nothing that came wakes its future
pub step_waits : (fixed : Fixed) (old : Record) (result : Result Progress Error) (new : Record) → Premises fixed (heard fixed.version old) → IsKept fixed old → old.over ≡ None → StepDoes fixed.handler old result new → IfWaits result (AwaitWaits fixed (heard fixed.version new) new.answers new.taken new.vm)
step_waits fixed old result new under k going does = by_test old.starved does
  where
    by_test : (b : Bool) → StepFrom b fixed.handler old result new → IfWaits result (AwaitWaits fixed (heard fixed.version new) new.answers new.taken new.vm)
    by_test true d = error_waits _ result no_memory d.0
    by_test false d = wait_unless fixed old result new under k old.vm.machine.failure refl (subst (λ over. StepUnless old.vm.machine.failure over fixed.handler old result new) going d)

-- ---- a step while recorded commands are left

lacks_replay : (fixed : Fixed) (old : Record) (result : Result Progress Error) (new : Record) → LacksMemory old result new → AnswersInReplay fixed old result new
lacks_replay fixed old result new (is, left) = subst (λ z. AnswersInReplay fixed old z new) (sym is) (inl (ap (λ (r : Record). r.starved) left))

-- a step of a handler that is replaying, as the step is at this phase
replays_advance : (m : Meaning) (old : Record) (result : Result Progress Error) (new : Record) → IsReplaying old → StepDoes m old result new → Advances m old result new
replays_advance m old result new is d =
    subst (λ ph. StepAt ph m old result new) is.phase
    (subst (λ f. StepUnless f None m old result new) is.failure
    (subst (λ over. StepUnless old.vm.machine.failure over m old result new) is.over (subst (λ b. StepFrom b m old result new) is.starved d)))

pub step_replays : (fixed : Fixed) (old : Record) (result : Result Progress Error) (new : Record) → fixed.options.signal_delivery ≡ Queued → (k : HandlerRuns fixed (heard fixed.version old) old.answers old.waiting old.taken old.vm) → HasNoTwo k.at → IsReplaying old → StepDoes fixed.handler old result new → AnswersInReplay fixed old result new
step_replays fixed old result new queues k two is does =
    ⊎_elim
    (λ (x : LacksMemory old result new). lacks_replay fixed old result new x)
    (λ (o : ((old.answers ≡ []) × InputIsRead old result new) ⊎ ((old.answers ≢ []) × MakesStep fixed.handler old result new)).
    ⊎_elim
    (λ (x : (old.answers ≡ []) × InputIsRead old result new). absurd (is.runs x.0))
    (λ (x : (old.answers ≢ []) × MakesStep fixed.handler old result new). asks_replay fixed old result new queues k two (record { failure = is.failure; phase = ap is_running is.phase }) is.phase x.1)
    o)
    (replays_advance fixed.handler old result new is does)

-- ---- a new attempt, and what its output says

-- nothing was answered or written yet
abbrev pub IsNew : Fixed → Record → Type 0
IsNew fixed r = BeforeInput fixed (heard fixed.version r) r.answers r.waiting r.taken r.vm

pub nothing_acknowledged : (version : Version) → acknowledged_from version [] ≡ []
nothing_acknowledged version = by_test (is_from_v7 version)
  where
    nothing : List ProposeRunCompletion
    nothing = []

    by_test : (b : Bool) → (if b then nothing else []) ≡ nothing
    by_test true = refl
    by_test false = refl

pub made_new : (alloc : Global) (fixed : Fixed) → IsNew fixed (fresh_record (made alloc fixed.options fixed.version))
unfolding frames_of
made_new alloc fixed = record {
  answers = refl;
  none_proposed = nothing_acknowledged fixed.version;
  waits_not = refl;
  wrote = record { sent = []; bytes = refl; whole = tt; waiting = []; frames = refl; commands = refl };
  comes = λ _. inl (refl, (alloc, refl));
  tail = λ _. refl;
}

pub made_kept : (fixed : Fixed) (alloc : Global) → IsKept fixed (fresh_record (made alloc fixed.options fixed.version))
made_kept fixed alloc = inl (made_new alloc fixed)

-- the attempt that is made
pub new_is_new : (m : Meaning) (alloc : Global) (options : VMOptions) (version : Version) (v : View) → v ≡ made alloc options version → IsNew (fixed_by m version options) (fresh_record v)
new_is_new m alloc options version v is = subst (λ x. IsNew (fixed_by m version options) (fresh_record x)) (sym is) (made_new alloc (fixed_by m version options))

-- it has written nothing
pub new_whole : (alloc : Global) (options : VMOptions) (version : Version) (v : View) → v ≡ made alloc options version → WholeFrames v.machine.output
new_whole alloc options version v is = subst (λ (x : View). WholeFrames x.machine.output) (sym is) (record { messages = []; are = refl; each = tt })

-- the answers of an attempt follow from what is read of its output
pub kept_told : (fixed : Fixed) (r : Record) → WholeFrames r.vm.machine.output → IsKept fixed r → (r.answers ≡ []) ⊎ AnswersAreTold fixed r
kept_told fixed r f =
    ⊎_elim
    (λ (b : BeforeInput fixed (heard fixed.version r) r.answers r.waiting r.taken r.vm). inl b.answers)
    (λ (k : HandlerRuns fixed (heard fixed.version r) r.answers r.waiting r.taken r.vm).
    let told = attempt_is_told (setup_for fixed k.journal.start) fixed.handler (start_state k.journal) k.journal.input k.moves (arrivals k.journal) k.journal.rest k.written k.at k.run in
    inr (subst (ToldBy fixed (heard fixed.version r) r.answers) (written_is r.taken r.vm.machine.output k.written k.wrote f) (record { journal = k.journal; at = k.at; told = told.0; answers = k.answers; moves = k.moves; made = k.run; in_order = told.1 })))

-- an await sleeps by what is read from its output
sleeps_on : (fixed : Fixed) (r : Record) → WholeFrames r.vm.machine.output → AwaitWaits fixed (heard fixed.version r) r.answers r.taken r.vm → NothingWakes fixed r
sleeps_on fixed r f (written, wrote, asleep) = subst (IsAsleep fixed (heard fixed.version r) r.answers) (written_is r.taken r.vm.machine.output written wrote f) asleep

pub asleep_waits : (fixed : Fixed) (r : Record) (result : Result Progress Error) → WholeFrames r.vm.machine.output → IfWaits result (AwaitWaits fixed (heard fixed.version r) r.answers r.taken r.vm) → IfWaits result (NothingWakes fixed r)
asleep_waits fixed r (Ok (progress.Waiting input run)) f h = sleeps_on fixed r f h
asleep_waits fixed r (Ok (progress.ExecuteRun run)) f h = sleeps_on fixed r f h
asleep_waits fixed r (Ok progress.Suspended) f h = sleeps_on fixed r f h
asleep_waits fixed r (Ok progress.NotReady) f h = tt
asleep_waits fixed r (Ok progress.Stepped) f h = tt
asleep_waits fixed r (Ok progress.Ended) f h = tt
asleep_waits fixed r (Err e) f h = tt
