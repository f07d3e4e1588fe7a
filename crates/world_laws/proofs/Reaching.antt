-- An attempt that is fed Start and a history alone uses all recorded commands, with as many answers as the history tells and one more.
use Rattle.std.proofs.Common.{◌≡◌, ◌≢◌, ◌⊎◌, ◌+◌, ◌<◌, ◌≤◌, ℕ, zero, suc, Bool, true, false, cond, List, [], ◌∷◌, ◌++◌, Option, Some, None, Result, Ok, Err, length, refl, sym, ap, ◌∙◌, subst, inl, inr, ⊎_elim, append-nil, length-append, arith, Global}
use Rattle.std.specs.Prelude.{is_some, if◌then◌else◌}
use Rattle.std.proofs.lemmas.Option.{same_Some}
use Rattle.std.specs.List.{concat}
use Rattle.journal_protocol.specs.Error.{Error}
use Rattle.journal_protocol.specs.Errors.{named_error, no_memory}
use Rattle.journal_protocol.specs.Frames.{IsWhole, encoding}
use Rattle.journal_protocol.specs.InputCommand.{InputCommand}
use Rattle.journal_protocol.specs.NamedFault.{NamedFault}
use Rattle.journal_protocol.specs.NamedFault.TheVariants as fault
use Rattle.journal_protocol.specs.Notification.{Notification}
use Rattle.journal_protocol.specs.ProposeRunCompletionAck.{ProposeRunCompletionAck}
use Rattle.journal_protocol.specs.RawMessage.{RawMessage}
use Rattle.journal_protocol.specs.Start.{Start}
use Rattle.journal_protocol.specs.Bodies.{acknowledgement_in, start_in}
use Rattle.journal_entries.specs.Arrivals.{most_entries}
use Rattle.journal_entries.specs.Entries.{journal_entries, journal_frames}
use Rattle.journal_entries.specs.Frames.{Rest, Tail, frames_of}
use Rattle.journal_entries.specs.Journal.{commands_in, input_read_from, notifications_in, stored_form}
use Rattle.journal_entries.specs.JournalFrames.{as_entries, commands_among, is_acknowledgement, is_command_frame, notifications_among}
use Rattle.journal_entries.proofs.Framing.{journal_length, none_framed}
use Rattle.vm_types.specs.declared.types.State.{State}
use Rattle.vm_types.specs.declared.types.State.TheVariants as state
use Rattle.vm_types.specs.declared.steps.Answer.{Answer}
use Rattle.vm_state.specs.declared.state_map.StateMap.{StateMap}
use Rattle.vm_machine.specs.declared.machine.Machine.{Machine}
use Rattle.vm_machine.specs.declared.phase.Phase.{Phase}
use Rattle.vm_machine.specs.declared.phase.Phase.TheVariants.{WaitingStart, WaitingReplayEntries, Replaying, Processing, Closed}
use Rattle.vm_machine.specs.Inputs.{coverage_of, input_step}
use Rattle.vm_machine.specs.Making.{fresh}
use Rattle.vm_machine.specs.Outcomes.{Failed, IsStarved, Outcome, called, ruled}
use Rattle.vm_machine.specs.Phases.{is_running, shown_state}
use Rattle.vm_machine.specs.Queries.{state_of}
use Rattle.vm_machine.proofs.Skipping.{input_is, left_alike}
use Rattle.vm_types.specs.declared.values.Input.{Input}
use Rattle.vm_types.specs.Options.{skips_replay}
use Rattle.invocation_vm.specs.Making.{made}
use Rattle.invocation_vm.specs.Views.{View, all_received, left_over}
use Rattle.vm_model.specs.Calls.{Meaning, Setup, identity_of}
use Rattle.vm_model.specs.Deliveries.{HasNoTwo}
use Rattle.vm_model.specs.Fixed.{Fixed}
use Rattle.vm_model.specs.Histories.{IsPrefix, after_head}
use Rattle.vm_model.specs.Moves.{Point, after, start}
use Rattle.vm_attempt.specs.declared.progress.Fed.{Fed}
use Rattle.vm_attempt.specs.declared.progress.Progress.{Progress}
use Rattle.vm_attempt.specs.Blames.{BadFrame, FailsAt, IsHonest, acknowledgement_body_fault, kept_fault}
use Rattle.vm_attempt.specs.Arrivals.{kept_after}
use Rattle.vm_attempt.specs.Heard.{Heard, with_pieces}
use Rattle.vm_attempt.specs.Record.{Record, heard}
use Rattle.vm_attempt.specs.Stepping.{Advances, FeedDoes, InputIsRead, LacksMemory, MakesStep, StepAt, StepDoes, StepFrom, StepUnless, fresh_record}
use Rattle.vm_attempt.specs.Journals.{BeginsOrFails, HasAll, StillWaits, machine_fed, setup_for, with_missing}
use Rattle.vm_attempt.specs.Told.{BeforeInput, Begun, HandlerRuns, HasCome, InReplay, IsKeptInReplay, IsLive, Journal, JournalCame, ReplayPremises, arrivals, bytes_fed, frames_fed}
use Rattle.vm_attempt.proofs.Advanced.{done_of, made_new, nothing_acknowledged}
use Rattle.vm_attempt.proofs.Arriving.{kept_none}
use Rattle.vm_attempt.proofs.Beginning.{input_begins}
use Rattle.vm_attempt.proofs.Blaming.{frames_fit, none_kept}
use Rattle.vm_attempt.proofs.Coming.{feed_comes, made_comes}
use Rattle.vm_attempt.proofs.Erring.{called_failed}
use Rattle.vm_attempt.proofs.InReplay.{feed_in_replay, step_in_replay}
use Rattle.vm_attempt.proofs.Placing.{bad_frame, come_keeps, come_stands}
use Rattle.vm_attempt.proofs.Proving.{alone_arrivals}
use Rattle.vm_attempt.proofs.Replayed.{commands_same, head_same, tail_same}
use Rattle.vm_attempt.proofs.Under.{step_fed}
use Rattle.world_rounds.specs.Guarantees.{Case, IsHistory}
use Rattle.world_rounds.specs.Rounds.{CompletesOnce, ReplaysAndQueues}
use Rattle.world_rounds.specs.States.{HaveTextKeys, base_of, pairs_for}
use Rattle.world_rounds.specs.Worlds.{IsJournal, fixed_in, setup_of, start_for, start_message}
use Rattle.world_rounds.specs.declared.types.Round.{Round}
use Rattle.world_rounds.specs.declared.types.Setting.{Setting}
use Rattle.world_rounds.proofs.Completing.{completes_once}
use Rattle.world_rounds.proofs.Replaying.{all_framed, is_alone, of_fed, replay_premises}
use Rattle.world_rounds.proofs.Rounding.{start_reads}
use Rattle.world_laws.specs.declared.outcome.ReplayOutcome.{ReplayOutcome}
use Rattle.world_laws.specs.declared.outcome.ReplayOutcome.TheVariants as outcome
use Rattle.world_laws.specs.Replays.{AttemptShows, HasRoom, StepsMade, StepsShow}
use Rattle.world_laws.proofs.FedAlone.{alone_honest}
use Rattle.world_laws.proofs.GoingOn.{GoesOn, HasGoneOn, asks_go, left_before, moved_here, some_left}
use Rattle.world_laws.proofs.Parting.{shows_replaying}
use Rattle.world_laws.proofs.Weighing.{twice}

-- ---- frames

-- an acknowledgement is refused if nothing was proposed
none_proposed : (ack : Option ProposeRunCompletionAck) → acknowledgement_body_fault [] ack ≡ None → ⊥
none_proposed None h = let z : Some fault.BadMessage ≡ None = h in cc
none_proposed (Some ack) h = let z : Some fault.BadProposeRunCompletionAck ≡ None = h in cc

-- no frame of what is fed honestly is refused, if nothing was proposed
frame_stands : (fixed : Fixed) (fed : Heard) (e : Error) → IsHonest fixed fed → fed.proposed ≡ [] → (x : BadFrame fixed fed e) → (b : Bool) → is_acknowledgement x.raw ≡ b → ⊥
frame_stands fixed fed e honest none x false is =
    let z : None ≡ Some x.why = sym (honest.frames x.before x.raw x.behind x.phase x.missing x.split x.place is) ∙ none_kept (kept_after fed.proposed (after_head x.before)) x.phase x.raw x.why x.reason in cc
frame_stands fixed fed e honest none x true is =
    none_proposed (acknowledgement_in x.raw.body)
    (ap (λ ps. acknowledgement_body_fault ps (acknowledgement_in x.raw.body)) (sym (ap (λ ps. kept_after ps (after_head x.before)) none ∙ kept_none (after_head x.before))) ∙ honest.acknowledgements x.before x.raw x.behind x.split is)

-- commands are no more than the frames among which they are
commands_fewer : (xs : List RawMessage) → length (commands_among xs) ≤ length xs
commands_fewer [] = omega arith
commands_fewer (x ∷ xs) = by_test (is_command_frame x) (commands_fewer xs)
  where
    by_test : (b : Bool) → length (commands_among xs) ≤ length xs → length (cond b (x ∷ commands_among xs) (commands_among xs)) ≤ suc (length xs)
    by_test true h = omega (arith, h)
    by_test false h = omega (arith, h)

-- a machine that runs is shown so
shown_running : (v : Machine) → IsLive v → (state_of v ≡ state.Replaying) ⊎ (state_of v ≡ state.Processing)
shown_running v x = by_phase v.phase x.phase refl
  where
    shows : (ph : Phase) → v.phase ≡ ph → state_of v ≡ shown_state ph
    shows ph at = (λ i. if is_some (x.failure i) then state.Closed else shown_state (at i))

    by_phase : (ph : Phase) → is_running ph ≡ true → v.phase ≡ ph → (state_of v ≡ state.Replaying) ⊎ (state_of v ≡ state.Processing)
    by_phase WaitingStart runs at = absurd (cc)
    by_phase WaitingReplayEntries runs at = absurd (cc)
    by_phase Closed runs at = absurd (cc)
    by_phase Replaying runs at = inl (shows Replaying at)
    by_phase Processing runs at = inr (shows Processing at)

shorter : (xs ys : List Answer) → IsPrefix xs ys → length xs ≤ length ys
shorter xs ys (rest, e) = let n = ap length e ∙ length-append xs rest in omega (arith, n)

-- ---- an attempt

module _ (c : Case) (round : Round) (journal : List (List ℕ)) (j : IsJournal journal) (whole : IsWhole (start_message c.setting round journal)) (texts : HaveTextKeys (pairs_for c.setting round journal)) (r : ReplaysAndQueues c.setting.options) (h : IsHistory c journal) (room : HasRoom journal) where
  abbrev w : Setting
  w = c.setting

  abbrev fixed : Fixed
  fixed = fixed_in c.handler w

  abbrev piece : List ℕ
  piece = encoding (start_message w round journal) ++ concat journal

  honest : (fed : Heard) → bytes_fed fed ≡ piece → IsHonest fixed fed
  honest fed bytes = alone_honest c.handler w round journal fed j whole bytes texts h r

  once : CompletesOnce (setup_of w) c.handler (journal_entries journal)
  once = completes_once (setup_of w) c.handler (base_of w) journal j h

  premises : (fed : Heard) → bytes_fed fed ≡ piece → ReplayPremises fixed fed
  premises fed bytes = replay_premises c.handler w round journal fed j whole bytes r once

  -- an attempt that was fed this alone, and has made steps only
  record Stands (a : Record) : Type 0 where
    bytes : bytes_fed (heard w.version a) ≡ piece
    kept : IsKeptInReplay fixed a
    starved : a.starved ≡ false
    over : a.over ≡ None

  -- ---- a step of its handler

  module _ (a : Record) (x : Stands a) (at : (a.vm.machine.failure ≡ None) × (a.vm.machine.phase ≡ Replaying)) where
    abbrev fed : Heard
    fed = heard w.version a

    live : IsLive a.vm.machine
    live = record { failure = at.0; phase = ap is_running at.1 }

    run : a.answers ≢ [] → HandlerRuns fixed fed a.answers a.waiting a.taken a.vm
    run some =
        ⊎_elim
        (λ (b : BeforeInput fixed fed a.answers a.waiting a.taken a.vm). absurd (some b.answers))
        (λ (k : InReplay fixed fed a.answers a.waiting a.taken a.vm). k.run at.0 at.1)
        (x.kept (premises fed x.bytes))

    fits : (J : Journal fed) → twice J.rest ≤ most_entries
    fits J =
        let alone = is_alone c.handler w round journal fed j whole x.bytes J in
        let commands : suc (length J.rest) ≡ length (commands_among J.entries) = ap length (sym J.commands) in
        let few = commands_fewer J.entries in
        let long : length J.entries ≡ length journal = ap length alone.entries ∙ journal_length journal j.entries in
        omega (arith, commands, few, long, room)

    step_goes : (some : a.answers ≢ []) (result : Result Progress Error) (b : Record) → MakesStep fixed.handler a result b → GoesOn a result b
    step_goes some result b makes =
        let k = run some in
        let J = k.journal in
        let past = (honest fed x.bytes).history J.first_frame J.entries J.others J.start J.frames J.reads_start J.count in
        asks_go fixed a k live at.1 past.0 past.1 (fits J) r.queues ((premises fed x.bytes).once J k.moves k.written k.at k.run (some_left fixed a k live at.1)) result b makes

    -- as long as recorded commands are left, its answers are no more than those of the history
    answers_fewer : a.answers ≢ [] → length a.answers ≤ length h.at.answers
    answers_fewer some =
        let k = run some in
        let J = k.journal in
        let alone = is_alone c.handler w round journal fed j whole x.bytes J in
        subst (λ l. length l ≤ length h.at.answers) k.answers
        (of_fed c.handler w round journal fed j whole x.bytes Within J within J.first J.input J.rest k.at k.moves (commands_same J.entries ∙ J.commands) J.reads_input
        (subst (λ ns. after (setup_for fixed J.start) c.handler k.moves (start (setup_for fixed J.start) J.input ns J.rest) ≡ Some k.at) (alone_arrivals fed J alone.others) (moved_here fixed a k live at.1))
        (some_left fixed a k live at.1))
      where
        Within : Setup → List RawMessage → Type 0
        Within z raws = (first : RawMessage) (input : InputCommand) (rest : List RawMessage) (p : Point) (n : ℕ) → commands_in (as_entries raws) ≡ first ∷ rest → input_read_from first ≡ Some input
            → after z c.handler n (start z input (notifications_in (as_entries raws)) rest) ≡ Some p → p.left ≢ [] → length p.answers ≤ length h.at.answers

        within : Within (setup_of w) (journal_frames journal)
        within first input rest p n begins reads moves some_here =
            let head = head_same first h.first rest h.rest (sym begins ∙ h.begins) in
            let tail = tail_same first h.first rest h.rest (sym begins ∙ h.begins) in
            let one : input ≡ h.input = same_input input h.input (sym reads ∙ ap input_read_from head ∙ h.reads) in
            shorter p.answers h.at.answers
            (left_before (setup_of w) c.handler n h.told.0 (start (setup_of w) h.input (notifications_in (journal_entries journal)) h.rest) p h.at
            (subst (λ (z : InputCommand × List RawMessage). after (setup_of w) c.handler n (start (setup_of w) z.0 (notifications_in (journal_entries journal)) z.1) ≡ Some p) (λ i. (one i, tail i)) moves)
            some_here h.told.1 h.uses_all)
          where
            same_input : (y z : InputCommand) → Some y ≡ Some z → y ≡ z
            same_input y z e = cc

    -- the input of a history is read
    input_stands : (b : BeforeInput fixed fed a.answers a.waiting a.taken a.vm) (e : Error) (v : Machine) → called (input_step a.vm.machine) a.vm.machine ≡ Failed e v → ⊥
    input_stands b e v is =
        ⊎_elim
        (λ (y : (frames_fed fed ≡ []) × ((alloc : Global) × (a.vm.machine ≡ fresh alloc fixed.version fixed.options))). let z : WaitingStart ≡ Replaying = sym (ap (λ (m : Machine). m.phase) y.1.1) ∙ at.1 in cc)
        begun_reads
        (b.comes at.0)
      where
        failed : (d : Error) × (u : Machine) × (input_step a.vm.machine ≡ Failed d u) × (e ≡ ruled u d)
        failed = (called_failed a.vm.machine (input_step a.vm.machine) e v at.0 is).1

        begun_reads : Begun fixed fed a.vm.machine → ⊥
        begun_reads g =
            ⊎_elim
            (λ (y : StillWaits (setup_for fixed g.start) (record { entries = g.state; coverage = coverage_of g.start.partial }) g.aside g.start.known_entries [] [] g.others a.vm.machine). let z : WaitingReplayEntries ≡ Replaying = sym (ap (λ (m : Machine). m.phase) y.machine) ∙ at.1 in cc)
            (λ (y : HasAll (setup_for fixed g.start) (record { entries = g.state; coverage = coverage_of g.start.partial }) g.aside g.start.known_entries [] [] g.others a.vm.machine).
            let s = setup_for fixed g.start in
            let given : StateMap = record { entries = g.state; coverage = coverage_of g.start.partial } in
            let past = (honest fed x.bytes).history g.first_frame y.entries y.others g.start (g.frames ∙ ap (λ l. g.first_frame ∷ l) y.split) g.reads_start y.count in
            let H = past.1 in
            let ns = notifications_among g.others in
            let commands : commands_among y.entries ≡ H.first ∷ H.rest = sym (commands_same y.entries) ∙ H.begins in
            let machine : a.vm.machine ≡ machine_fed s given (with_missing 0 g.aside) (H.first ∷ H.rest) ns Replaying = y.machine ∙ λ i. machine_fed s given (with_missing 0 g.aside) (commands i) ns Replaying in
            let begins = input_begins s given (with_missing 0 g.aside) H.first H.rest ns r.replays (ap identity_of (sym g.of_start)) in
            let here : BeginsOrFails s given (with_missing 0 g.aside) H.rest ns (Some H.input) (Failed failed.0 failed.1) = subst (λ (z : Option InputCommand × Outcome Input). BeginsOrFails s given (with_missing 0 g.aside) H.rest ns z.0 z.1) (λ i. (H.reads i, (sym (ap input_step machine) ∙ failed.2) i)) begins in
            here)
            g.waits

    -- the input is read, or memory ran out
    reads_go : a.answers ≡ [] → (result : Result Progress Error) (b : Record) → InputIsRead a result b → GoesOn a result b
    reads_go none (Ok made) b (stepped, (i, v, does, is)) =
        let read = input_is a.vm.machine i v.machine (done_of a.vm.machine (input_step a.vm.machine) i v.machine at.0 does.0) in
        let alike = left_alike (skips_replay a.vm.machine.options.journal_replay) read.rest a.vm.machine v.machine read.left in
        record {
          one = ap (λ (z : Record). length z.answers) is ∙ ap (λ (l : List Answer). suc (length l)) (sym none);
          starved = ap (λ (z : Record). z.starved) is;
          over = ap (λ (z : Record). z.over) is;
          live = subst (λ (z : Record). IsLive z.vm.machine) (sym is) (record { failure = alike.failure ∙ at.0; phase = alike.runs });
        }
    reads_go none (Err e) b (v, does, is) =
        ⊎_elim
        (λ (y : called (input_step a.vm.machine) a.vm.machine ≡ Failed e v.machine). absurd (input_stands (before none) e v.machine y))
        (λ (y : IsStarved a.vm.machine e v.machine). y.error)
        does.0
      where
        before : a.answers ≡ [] → BeforeInput fixed fed a.answers a.waiting a.taken a.vm
        before none =
            ⊎_elim
            (λ (b : BeforeInput fixed fed a.answers a.waiting a.taken a.vm). b)
            (λ (k : InReplay fixed fed a.answers a.waiting a.taken a.vm). absurd (k.came.answered none))
            (x.kept (premises fed x.bytes))

    advances_go : (result : Result Progress Error) (b : Record) → Advances fixed.handler a result b → GoesOn a result b
    advances_go result b =
        ⊎_elim
        (λ (y : LacksMemory a result b). subst (λ z. GoesOn a z b) (sym y.0) refl)
        (λ (o : ((a.answers ≡ []) × InputIsRead a result b) ⊎ ((a.answers ≢ []) × MakesStep fixed.handler a result b)).
        ⊎_elim
        (λ (y : (a.answers ≡ []) × InputIsRead a result b). reads_go y.0 result b y.1)
        (λ (y : (a.answers ≢ []) × MakesStep fixed.handler a result b). step_goes y.0 result b y.1)
        o)

    goes_on : (result : Result Progress Error) (b : Record) → StepDoes fixed.handler a result b → GoesOn a result b
    goes_on result b d =
        advances_go result b
        (subst (λ ph. StepAt ph fixed.handler a result b) at.1
        (subst (λ f. StepUnless f None fixed.handler a result b) at.0
        (subst (λ over. StepUnless a.vm.machine.failure over fixed.handler a result b) x.over (subst (λ t. StepFrom t fixed.handler a result b) x.starved d))))

  -- ---- several steps

  -- after this number of steps there are as many answers
  record Reaches (n : ℕ) (a : Record) : Type 0 where
    stands : Stands a
    count : length a.answers ≡ n

  one_more : (n : ℕ) (a b : Record) (progress : Progress) → Reaches n a → StepDoes fixed.handler a (Ok progress) b → HasGoneOn a b → Reaches (suc n) b
  one_more n a b progress x does g = record {
    stands = record {
      bytes = ap bytes_fed (step_fed w.version fixed.handler a (Ok progress) b does) ∙ x.stands.bytes;
      kept = step_in_replay fixed a (Ok progress) b x.stands.kept does;
      starved = g.starved ∙ x.stands.starved;
      over = g.over ∙ x.stands.over;
    };
    count = g.one ∙ ap (λ k. suc k) x.count;
  }

  -- where steps lead: to the same attempt, or to one whose handler runs
  record Led (n k : ℕ) (a b : Record) : Type 0 where
    reaches : Reaches (n + k) b
    lives : ((k ≡ 0) × (b ≡ a)) ⊎ IsLive b.vm.machine

  led : (k n : ℕ) (a b : Record) → Reaches n a → StepsMade fixed.handler k a b → Led n k a b
  led zero n a b x is = subst (Led n zero a) (sym is) (record { reaches = subst (λ i. Reaches i a) (let z : n ≡ n + zero = omega arith in z) x; lives = inl (refl, refl) })
  led (suc k) n a b x (at, mid, progress, does, more) =
      let shown = shows_replaying a.vm.machine at in
      let g = goes_on a x.stands shown (Ok progress) mid does in
      let rest = led k (suc n) mid b (one_more n a mid progress x does g) more in
      record {
        reaches = subst (λ i. Reaches i b) (let z : suc n + k ≡ n + suc k = omega arith in z) rest.reaches;
        lives = inr (⊎_elim (λ (y : (k ≡ 0) × (b ≡ mid)). subst (λ (z : Record). IsLive z.vm.machine) (sym y.1) g.live) (λ (y : IsLive b.vm.machine). y) rest.lives);
      }

  -- ---- the first record

  module _ (alloc : Global) (a : Record) (does : FeedDoes false piece (fresh_record (made alloc w.options w.version)) (Ok tt) a) where
    abbrev new_one : Record
    new_one = fresh_record (made alloc w.options w.version)

    fed_bytes : bytes_fed (heard w.version a) ≡ piece
    fed_bytes = ap (λ (z : Record). bytes_fed (heard w.version z)) does ∙ append-nil piece

    fed_stands : Reaches 0 a
    fed_stands = record {
      stands = record {
        bytes = fed_bytes;
        kept = feed_in_replay fixed piece new_one (Ok tt) a (λ p. inl (made_new alloc fixed)) does;
        starved = ap (λ (z : Record). z.starved) does;
        over = ap (λ (z : Record). z.over) does;
      };
      count = ap (λ (z : Record). length z.answers) does;
    }

    none_answered : a.answers ≡ []
    none_answered = ap (λ (z : Record). z.answers) does

    before : BeforeInput fixed (heard w.version a) a.answers a.waiting a.taken a.vm
    before =
        ⊎_elim
        (λ (b : BeforeInput fixed (heard w.version a) a.answers a.waiting a.taken a.vm). b)
        (λ (k : JournalCame fixed (heard w.version a) a.answers a.taken a.vm). absurd (k.answered none_answered))
        (feed_comes fixed piece new_one (Ok tt) a (made_comes alloc fixed) does)

    abbrev frames : List RawMessage
    frames = (frames_of piece).0

    machine_is : a.vm.machine ≡ all_received frames new_one.vm.machine
    machine_is =
        ap (λ (z : Record). z.vm.machine) does
        ∙ ap (λ (t : Tail). (left_over t (all_received frames new_one.vm.machine)).machine) (ap (λ (p : List RawMessage × Tail). p.1) (ap frames_of (sym fed_bytes) ∙ all_framed c.handler w round journal (heard w.version a) j whole fed_bytes))

    abbrev given_frames : List RawMessage
    given_frames = stored_form (start_message w round journal) ∷ journal_frames journal

    came : frames_fed (heard w.version a) ≡ given_frames
    came = ap (λ (p : List RawMessage × Tail). p.0) (all_framed c.handler w round journal (heard w.version a) j whole fed_bytes)

    -- what was fed doesn't fail it
    stays_live : a.vm.machine.failure ≡ None
    stays_live =
        let v = new_one.vm.machine in
        let empty = heard w.version new_one in
        let all = with_pieces (heard w.version a).pieces empty in
        let fresh_comes = made_comes alloc fixed in
        let split : frames_fed all ≡ frames_fed empty ++ frames = ap (λ b. (frames_of b).0) fed_bytes ∙ ap (λ (p : List RawMessage × Tail). p.0 ++ frames) (sym none_framed) in
        let stands = come_stands fixed new_one fresh_comes refl (λ e. absurd (cc)) in
        let keeps = come_keeps fixed new_one fresh_comes refl (λ e. absurd (cc)) in
        ⊎_elim
        (λ (y : ((all_received frames v).failure ≡ None) × (((all_received frames v).version ≡ v.version) × ((all_received frames v).options ≡ v.options))). ap (λ (z : Machine). z.failure) machine_is ∙ y.0)
        (λ (y : FailsAt frames v (all_received frames v)).
        let e = ruled v (named_error y.why None) in
        let bad = bad_frame fixed empty (heard w.version a).pieces frames split v (all_received frames v) e (refl, refl) refl stands.0 keeps y y.failure in
        absurd (frame_stands fixed all e (honest all fed_bytes) (nothing_acknowledged w.version) bad (is_acknowledgement bad.raw) refl))
        (frames_fit frames v refl)

    -- the whole journal came
    has_journal : a.vm.machine.phase ≡ Replaying
    has_journal =
        ⊎_elim
        (λ (y : (frames_fed (heard w.version a) ≡ []) × ((alloc : Global) × (a.vm.machine ≡ fresh alloc fixed.version fixed.options))). absurd (let z : [] ≡ given_frames = sym y.0 ∙ came in cc))
        (λ (g : Begun fixed (heard w.version a) a.vm.machine).
        ⊎_elim
        (λ (y : StillWaits (setup_for fixed g.start) (record { entries = g.state; coverage = coverage_of g.start.partial }) g.aside g.start.known_entries [] [] g.others a.vm.machine).
        let same : stored_form (start_message w round journal) ∷ journal_frames journal ≡ g.first_frame ∷ g.others = sym came ∙ g.frames in
        let head = head_same (stored_form (start_message w round journal)) g.first_frame (journal_frames journal) g.others same in
        let tail : length (journal_frames journal) ≡ length g.others = ap length (tail_same (stored_form (start_message w round journal)) g.first_frame (journal_frames journal) g.others same) in
        let start : g.start ≡ start_for w round journal = same_Some g.start (start_for w round journal) (sym g.reads_start ∙ ap (λ (x : RawMessage). start_in x.body) (sym head) ∙ start_reads (start_for w round journal) whole) in
        let known : g.start.known_entries ≡ length journal = ap (λ (x : Start). x.known_entries) start in
        let long = journal_length journal j.entries in
        let count = y.count in
        absurd (omega (arith, tail, known, long, count)))
        (λ (y : HasAll (setup_for fixed g.start) (record { entries = g.state; coverage = coverage_of g.start.partial }) g.aside g.start.known_entries [] [] g.others a.vm.machine). ap (λ (m : Machine). m.phase) y.machine)
        g.waits)
        (before.comes stays_live)

    -- ---- what its steps show

    shows : (b : Record) (limit : ℕ) (o : ReplayOutcome) → StepsShow c.handler limit a b o → (o ≡ outcome.GoesOn) ⊎ ((o ≡ outcome.TooFewSteps) × (limit ≤ length h.at.answers))
    shows b limit outcome.GoesOn x = inl refl
    shows b limit (outcome.Differs e) (n, within, mid, steps, at, does, some) =
        let x = led n 0 a mid fed_stands steps in
        absurd (some (goes_on mid x.reaches.stands (shows_replaying mid.vm.machine at) (Err e) b does))
    shows b limit (outcome.UnsupportedVersion e) x = absurd x
    shows b zero outcome.TooFewSteps x = inr (refl, omega arith)
    shows b (suc limit) outcome.TooFewSteps (steps, at) =
        let x = led (suc limit) 0 a b fed_stands steps in
        let count = x.reaches.count in
        let some : b.answers ≢ [] = λ none. let z : 0 ≡ 0 + suc limit = ap length (sym none) ∙ count in absurd (omega (arith, z)) in
        let few = answers_fewer b x.reaches.stands (shows_replaying b.vm.machine at) some in
        inr (refl, omega (arith, count, few))
    shows b limit outcome.NotReplayed (n, within, steps, replays, processes) =
        let x = led n 0 a b fed_stands steps in
        let first_live : IsLive a.vm.machine = record { failure = stays_live; phase = ap is_running has_journal } in
        let live = ⊎_elim (λ (y : (n ≡ 0) × (b ≡ a)). subst (λ (z : Record). IsLive z.vm.machine) (sym y.1) first_live) (λ (y : IsLive b.vm.machine). y) x.lives in
        absurd (⊎_elim (λ (y : state_of b.vm.machine ≡ state.Replaying). replays y) (λ (y : state_of b.vm.machine ≡ state.Processing). processes y) (shown_running b.vm.machine live))

-- A history goes on, or the steps were too few: no more than the answers that it tells.
pub attempt_goes_on : (c : Case) (journal : List (List ℕ)) (limit : ℕ) (o : ReplayOutcome) → AttemptShows c journal limit o → ReplaysAndQueues c.setting.options → HasRoom journal → (h : IsHistory c journal) → (o ≡ outcome.GoesOn) ⊎ ((o ≡ outcome.TooFewSteps) × (limit ≤ length h.at.answers))
attempt_goes_on c journal limit o x r room h = shows c x.round journal x.is_journal x.start x.texts r h room x.alloc x.fed x.feeds x.left limit o x.steps
