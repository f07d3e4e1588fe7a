-- A step keeps what is kept of an attempt.
use Rattle.vm_runs.specs.Pending.{is_executing}
use Rattle.std.specs.List.{list_any}
use Rattle.vm_asks.specs.declared.state_read.StateRead.{StateRead}
use Rattle.vm_state.specs.declared.state_map.StateMap.{StateMap}
use Rattle.std.proofs.Common.{◌≡◌, ◌⊎◌, ℕ, zero, suc, ◌+◌, Bool, true, false, cond, List, [], ◌∷◌, ◌++◌, map, Option, Some, None, Result, Ok, Err, refl, sym, ap, ◌∙◌, subst, inl, inr, ⊎_elim, append-nil}
use Rattle.std.specs.Prelude.{if◌then◌else◌, OnOk}
use Rattle.journal_protocol.specs.Error.{Error}
use Rattle.journal_protocol.specs.NamedFault.{NamedFault}
use Rattle.journal_protocol.specs.Message.{Message}
use Rattle.journal_protocol.specs.Message.TheVariants as message
use Rattle.journal_protocol.specs.RawMessage.{RawMessage}
use Rattle.journal_protocol.specs.NotificationId.{NotificationId}
use Rattle.journal_protocol.specs.NotificationResult.{NotificationResult}
use Rattle.journal_protocol.specs.Errors.{error_message}
use Rattle.journal_protocol.specs.Frames.{encoding, frame}
use Rattle.vm_types.specs.declared.steps.Answer.{Answer}
use Rattle.vm_types.specs.declared.steps.Step.{Step}
use Rattle.vm_types.specs.declared.steps.Step.TheVariants as step
use Rattle.await_trees.specs.declared.handle.NotificationHandle.{NotificationHandle}
use Rattle.await_trees.specs.declared.tree.UnresolvedFuture.{UnresolvedFuture}
use Rattle.await_trees.specs.Tree.{Tree}
use Rattle.await_trees.specs.Wires.{sent}
use Rattle.vm_types.specs.declared.values.Value.{Value}
use Rattle.vm_state.specs.Counting.{missing_number, missing_signals}
use Rattle.vm_parts.specs.Deliveries.{id_at, present_result_for}
use Rattle.journal_protocol.specs.SignalDelivery.TheVariants.{Queued}
use Rattle.vm_model.specs.Deliveries.{HasNoTwo}
use Rattle.vm_parts.specs.Tracked.{id_of_result, invocation_ids, id_noted, unresolved_handles}
use Rattle.vm_types.specs.Values.{id_of_value, value_of}
use Rattle.vm_state.specs.declared.tracked_call.TrackedCall.{TrackedCall}
use Rattle.vm_machine.specs.declared.machine.Machine.{Machine}
use Rattle.vm_machine.specs.declared.phase.Phase.TheVariants.{Closed, Processing, Replaying}
use Rattle.vm_asks.specs.declared.asks.Ask.{Ask}
use Rattle.vm_asks.specs.declared.asks.Ask.TheVariants as ask
use Rattle.vm_asks.specs.declared.asks.AnswerKind.{AnswerKind}
use Rattle.vm_asks.specs.declared.command.Command.{Command}
use Rattle.vm_asks.specs.Asks.{ask_of, cancel_invocation_command}
use Rattle.journal_protocol.specs.Commands.{IsCommand}
use Rattle.vm_attempt.proofs.Own.{AsksCommand, asks_command, numbered_is, own_is}
use Rattle.vm_awaits.specs.Awaits.{says_so}
use Rattle.vm_machine.specs.Commands.{phase_after}
use Rattle.vm_machine.specs.Outcomes.{DoesBy, IsStarved, Outcome, Done, Failed}
use Rattle.vm_machine.specs.Phases.{is_running}
use Rattle.vm_asks.specs.Requests.{ids_of}
use Rattle.vm_types.specs.Options.{skips_replay}
use Rattle.journal_entries.specs.Frames.{Rest}
use Rattle.invocation_vm.specs.Views.{View}
use Rattle.vm_model.specs.Calls.{Setup, Meaning, Derived, Move, Turn, asked as asked_move, awakeable_made, awaiting, call_of, commanding, is_awake, awaited, cancel_sent, cancelled, cancelling, id_awaited, id_read, is_cancelled_in, making_awakeable, numbered, part, part_unless, reading, refused_before, signal_made, ready_in, take_of_result, turn_after, take_noting_id, take_of_value}
use Rattle.vm_model.specs.Calls.Move.{Answers, Needs, Awaits, Ends, Refuses}
use Rattle.journal_entries.specs.Journal.{stored_form}
use Rattle.vm_model.specs.Moves.{Point, after, and_then, move_at, moved, next, own, start, supplied, supply, uses_arrival}
use Rattle.vm_model.specs.Histories.{IsPrefix, Made, Handed, Knowledge}
use Rattle.vm_model.proofs.Compared.{after_answers, attempt_is_told}
use Rattle.std.proofs.lemmas.Option.{same_Some}
use Rattle.vm_model.proofs.Runs.{and_then_some, made_add, none_some}
use Rattle.vm_attempt.specs.Heard.{Heard}
use Rattle.vm_attempt.specs.declared.progress.Progress.{Progress}
use Rattle.vm_attempt.specs.declared.progress.Reply.{Reply}
use Rattle.vm_attempt.specs.declared.progress.Reply.TheVariants as reply
use Rattle.vm_attempt.specs.Agreement.{Agrees, Answered, CallFollows, HasEnded, IsCutShort, CallRefused, IsSuspended, MovesOn, StillAgrees, Waits, command_frames, suspended_on, waiting_on}
use Rattle.journal_entries.specs.JournalFrames.{is_command_frame}
use Rattle.vm_attempt.specs.Journals.{setup_for}
use Rattle.vm_attempt.specs.Record.{Record, heard}
use Rattle.vm_attempt.specs.Stepping.{MakesStep, IfWaits, step_asked, asked_from, future_in, progress_of, replied, with_vm}
use Rattle.vm_attempt.specs.Steps.{IfDone, Performs, ReadsBack, StepMade}
use Rattle.vm_attempt.specs.Told.{IsKept, IsLive, RefusesReplay, AnswersInReplay, HandlerRuns, AwaitWaits, StarvesReplay, StillAwaits, Wrote, arrivals, commands_of, start_state}
use Rattle.vm_model.proofs.Parts.{IsOfOne, turn_is}
use Rattle.vm_model.proofs.Rests.{made_keeps}
use Rattle.vm_attempt.proofs.Following.{agreeing_follows}
use Rattle.vm_attempt.proofs.Kept.{dead_same, not_live}
use Rattle.vm_attempt.proofs.Lasting.{runs_last}
use Rattle.vm_attempt.proofs.Leading.{no_move}
use Rattle.vm_attempt.proofs.Pieces.{agrees_running}
use Rattle.vm_attempt.proofs.Quiet.{commands_append, map_append, quiet_same, wrote_more}
use Rattle.vm_model.specs.Fixed.{Fixed}

-- ---- what a call needs is a command

abbrev NeedsCommand : Move → Type 0
NeedsCommand (Needs demand gives d) = (state : StateMap) → is_command_frame (stored_form (own state demand)) ≡ true
NeedsCommand (Answers gives d) = Unit {0}
NeedsCommand Awaits = Unit {0}
NeedsCommand Ends = Unit {0}
NeedsCommand (Refuses name) = Unit {0}

numbered_needs : (s : Setup) (c : Command) (o : Option NamedFault) (d : Derived) → IsCommand c.message → NeedsCommand (numbered s c o d)
numbered_needs s c (Some fault) d is = tt
numbered_needs s c None d is = λ state. numbered_is c.message d.counters.completion is

commanding_needs : (s : Setup) (c : Command) (o : Option NamedFault) (d : Derived) → IsCommand c.message → NeedsCommand (commanding s c o d)
commanding_needs s c (Some fault) d is = tt
commanding_needs s c None d is = numbered_needs s c (missing_number (ids_of c.message) 0 (ids_of c.message) d.counters) d is

part_needs : (s : Setup) (kind : AnswerKind) (c : Command) (cs : List Command) (before d : Derived) → IsCommand c.message → NeedsCommand (part s kind c cs before d)
part_needs s kind c [] before d is = λ state. numbered_is c.message before.counters.completion is
part_needs s kind c (b ∷ bs) before d is = λ state. numbered_is c.message before.counters.completion is

turn_needs : (s : Setup) (kind : AnswerKind) (o : Option NamedFault) (t : Turn) (d : Derived) → IsCommand t.command.message → NeedsCommand (part_unless o s kind t d)
turn_needs s kind (Some fault) t d is = tt
turn_needs s kind None t d is = part_needs s kind t.command t.behind t.before d is

awakeable_needs : (s : Setup) (o : Option NamedFault) (d : Derived) → NeedsCommand (awakeable_made s o d)
awakeable_needs s (Some fault) d = tt
awakeable_needs s None d = tt

making_needs : (s : Setup) (b : Bool) (d : Derived) → NeedsCommand (making_awakeable s b d)
making_needs s true d = tt
making_needs s false d = awakeable_needs s (missing_signals 1 1 d.counters) d

reading_needs : (r : StateRead) (o : Option NamedFault) (d : Derived) → NeedsCommand (reading r o d)
reading_needs r (Some fault) d = tt
reading_needs r None d = own_is r d.counters.completion

signal_needs : (name : List ℕ) (o : Option NamedFault) (d : Derived) → NeedsCommand (signal_made name o d)
signal_needs name (Some fault) d = tt
signal_needs name None d = tt

awaiting_needs : (b : Bool) (d : Derived) → NeedsCommand (awaiting b d)
awaiting_needs true d = tt
awaiting_needs false d = tt

cancel_needs : (s : Setup) (id : List ℕ) (o : Option NamedFault) (d : Derived) → NeedsCommand (cancel_sent s id o d)
cancel_needs s id (Some fault) d = tt
cancel_needs s id None d = λ state. numbered_is (cancel_invocation_command id).message d.counters.completion refl

cancelling_needs : (s : Setup) (ids : List (List ℕ)) (d : Derived) → NeedsCommand (cancelling s ids d)
cancelling_needs s [] d = tt
cancelling_needs s (id ∷ ids) d = cancel_needs s id (missing_number 0 0 0 d.counters) d

id_needs : (id : Option (List ℕ)) (d : Derived) → NeedsCommand (id_read id d)
id_needs None d = tt
id_needs (Some id) d = tt

id_awaited_needs : (o : Option NotificationResult) (d : Derived) → NeedsCommand (id_awaited o d)
id_awaited_needs None d = tt
id_awaited_needs (Some result) d = id_needs (id_of_result result) d

cancelled_needs : (s : Setup) (handles : List ℕ) (d : Derived) → NeedsCommand (cancelled s handles d)
cancelled_needs s [] d = cancelling_needs s (invocation_ids d.tracked) d
cancelled_needs s (handle ∷ handles) d = id_awaited_needs (present_result_for s.options.signal_delivery (id_at handle d.handles) (ready_in s d)) d

awaited_needs : (s : Setup) (b : Bool) (future : UnresolvedFuture) (d : Derived) → NeedsCommand (awaited s b future d)
awaited_needs s true future d = cancelled_needs s (unresolved_handles d.tracked) d
awaited_needs s false future d = awaiting_needs (is_awake s future d) d

noted_needs : (h : NotificationHandle) (id : NotificationId) (value : Value) (o : Option (List TrackedCall)) (d : Derived) → NeedsCommand (take_noting_id h id value o d)
noted_needs h id value None d = tt
noted_needs h id value (Some tracked) d = tt

value_needs : (h : NotificationHandle) (id : NotificationId) (o : Option Value) (d : Derived) → NeedsCommand (take_of_value h id o d)
value_needs h id None d = tt
value_needs h id (Some value) d = noted_needs h id value (id_noted h.0 (id_of_value value) d.tracked) d

result_needs : (h : NotificationHandle) (id : Option NotificationId) (o : Option NotificationResult) (d : Derived) → NeedsCommand (take_of_result h id o d)
result_needs h (Some id) (Some result) d = value_needs h id (value_of result) d
result_needs h (Some id) None d = tt
result_needs h None o d = tt

asked_needs : (s : Setup) (a : Ask) (d : Derived) → AsksCommand a → NeedsCommand (asked_move s a d)
asked_needs s (ask.Command c) d is = commanding_needs s c c.refusal d is
asked_needs s (ask.Commands kind first second) d is =
    let t = turn_after s d.parts first (second ∷ []) d in
    turn_needs s kind (refused_before t.command t.behind t.before.counters) t d (turn_is (λ c. IsCommand c.message) s d.parts first (second ∷ []) d is)
asked_needs s ask.Awakeable d is = making_needs s (skips_replay s.options.journal_replay) d
asked_needs s (ask.Read r) d is = reading_needs r (missing_number 1 0 1 d.counters) d
asked_needs s (ask.Signal name) d is = signal_needs name (missing_signals 0 1 d.counters) d
asked_needs s (ask.Await future) d is = awaited_needs s (is_cancelled_in s d) future d
asked_needs s (ask.Take handle) d is = result_needs handle (id_at handle.0 d.handles) (present_result_for s.options.signal_delivery (id_at handle.0 d.handles) (ready_in s d)) d
asked_needs s (ask.Completed handle) d is = tt
asked_needs s ask.End d is = tt

call_needs : (s : Setup) (st : Step) (d : Derived) → NeedsCommand (call_of s st d)
call_needs s st d = asked_needs s (ask_of s.version st) d (asks_command s.version st)

-- ---- what is made are commands

-- these messages are the commands that were made
record AreMade (ms : List Message) (made : List RawMessage) : Type 0 where
  commands : commands_of ms ≡ made
  frames : map encoding ms ≡ command_frames made

supply_made : (state : StateMap) (mv : Move) (left : List RawMessage) → NeedsCommand mv → (ms : List Message) × AreMade ms (supply state mv left)
supply_made state (Needs demand gives d) [] needs = (own state demand ∷ [], record { commands = ap (λ b. cond b (stored_form (own state demand) ∷ []) []) (needs state); frames = refl })
supply_made state (Needs demand gives d) (c ∷ left) needs = ([], record { commands = refl; frames = refl })
supply_made state (Answers gives d) left needs = ([], record { commands = refl; frames = refl })
supply_made state Awaits left needs = ([], record { commands = refl; frames = refl })
supply_made state Ends left needs = ([], record { commands = refl; frames = refl })
supply_made state (Refuses name) left needs = ([], record { commands = refl; frames = refl })

frames_append : (cs ds : List RawMessage) → command_frames (cs ++ ds) ≡ command_frames cs ++ command_frames ds
frames_append [] ds = refl
frames_append (c ∷ cs) ds = ap (λ l. frame c.ty c.body ∷ l) (frames_append cs ds)

made_made : (s : Setup) (m : Meaning) (K : Knowledge) (n : ℕ) (p : Point) (made : List RawMessage) (q : Point) → Made s m K n p made q → (ms : List Message) × AreMade ms made
made_made s m K zero p made q h = ([], record { commands = sym h.0; frames = ap command_frames (sym h.0) })
made_made s m K (suc n) p made q (state, r, rest, knows, is, moves, further) =
    let a = supply_made state (move_at s m p) p.left (call_needs s (m p.answers) p.derived) in
    let b = made_made s m K n r rest q further in (
      a.0 ++ b.0,
      record {
        commands = commands_append a.0 b.0 ∙ ap (λ l. l ++ commands_of b.0) a.1.commands ∙ ap (λ l. supplied s m state p ++ l) b.1.commands ∙ sym is;
        frames = map_append a.0 b.0 ∙ ap (λ l. l ++ map encoding b.0) a.1.frames ∙ ap (λ l. command_frames (supplied s m state p) ++ l) b.1.frames ∙ sym (frames_append (supplied s m state p) rest) ∙ ap command_frames (sym is);
      },
    )

-- ---- a run that goes on

runs_on : (fixed : Fixed) (fed : Heard) (answers : List Answer) (waiting to_wait : Option UnresolvedFuture) (taken : List (List ℕ)) (v w : View) (k : HandlerRuns fixed fed answers waiting taken v) → IsLive v.machine → w.undecoded ≡ v.undecoded
    → (to : Point) (gives : List Answer) (made : List RawMessage) → MovesOn (setup_for fixed k.journal.start) fixed.handler (start_state k.journal) k.at gives made to → (ms : List Message) → commands_of ms ≡ made → w.machine.output ≡ v.machine.output ++ map encoding ms
    → StillAwaits fixed.handler to to_wait → (IsLive w.machine → Agrees (setup_for fixed k.journal.start) (start_state k.journal) (k.written ++ made) w.machine to) → (IsLive w.machine → to.derived.parts ≡ 0) → (IsLive w.machine → w.machine.proposals ≡ v.machine.proposals) → (w.machine.failure ≡ None → (is_running w.machine.phase ≡ true) ⊎ (w.machine.phase ≡ Closed))
    → HandlerRuns fixed fed (answers ++ gives) to_wait taken w
runs_on fixed fed answers waiting to_wait taken v w k live und to gives made mo ms commands output awaits agrees rests kept phase = record {
  journal = k.journal;
  written = k.written ++ made;
  wrote = subst (Wrote taken w.machine.output) (ap (λ l. k.written ++ l) commands) (wrote_more taken v.machine.output w.machine.output ms k.written output k.wrote);
  at = to;
  moves = k.moves + mo.moves;
  run = made_add (setup_for fixed k.journal.start) fixed.handler (Handed (start_state k.journal)) k.moves mo.moves (start (setup_for fixed k.journal.start) k.journal.input (arrivals k.journal) k.journal.rest) k.written k.at made to k.run mo.run;
  answers = mo.answers ∙ ap (λ l. l ++ gives) k.answers;
  awaits = awaits;
  agrees = agrees;
  rests = rests;
  keeps = λ alive. let before = k.keeps live in (kept alive ∙ before.0, before.1);
  phase = phase;
  tail = λ alive. k.tail live ∙ ap Rest (sym und);
}

-- an await that asks for one more arrival stays at its point, if no arrival is left
waits_still : (s : Setup) (m : Meaning) (q : Point) → move_at s m q ≡ Awaits → q.queue ≡ [] → next s m q ≡ None
waits_still s m q asks none = ap (λ mv. moved mv q) asks ∙ ap (λ l. uses_arrival l q) none

-- after a point from which no move leads on, no answer comes
stuck_last : (s : Setup) (m : Meaning) (n k : ℕ) (first p q : Point) → after s m n first ≡ Some p → after s m k first ≡ Some q → next s m q ≡ None → IsPrefix p.answers q.answers
stuck_last s m zero k first p q h j stuck = subst (λ (x : Point). IsPrefix x.answers q.answers) (same_Some first p h) (after_answers s m k first q j)
stuck_last s m (suc n) zero first p q h j stuck =
    let none : next s m first ≡ None = ap (next s m) (same_Some first q j) ∙ stuck in
    none_some (sym (ap (λ o. and_then o (after s m n)) none) ∙ h)
stuck_last s m (suc n) (suc k) first p q h j stuck =
    let a = and_then_some (next s m first) (after s m n) p h in
    let b = and_then_some (next s m first) (after s m k) q j in
    let same : b.0 ≡ a.0 = same_Some b.0 a.0 (sym b.1 ∙ a.1) in
    stuck_last s m n k a.0 p q a.2 (subst (λ x. after s m k x ≡ Some q) same b.2) stuck

-- the step that is asked is the handler's
pub asks_next : (m : Meaning) (p : Point) (answers : List Answer) (waiting : Option UnresolvedFuture) → p.answers ≡ answers → StillAwaits m p waiting → asked_from waiting (m answers) ≡ m p.answers
asks_next m p answers None is awaits = ap m (sym is)
asks_next m p answers (Some future) is awaits = sym awaits

-- the await that waits is the handler's
future_awaits : (m : Meaning) (p q : Point) (st : Step) → m p.answers ≡ st → q.answers ≡ p.answers ++ [] → StillAwaits m q (future_in st)
future_awaits m p q (step.Await future) is same = ap m (same ∙ append-nil p.answers) ∙ is
future_awaits m p q st is same = tt

same_awaits : (m : Meaning) (p q : Point) (waiting : Option UnresolvedFuture) → q.answers ≡ p.answers ++ [] → StillAwaits m p waiting → StillAwaits m q waiting
same_awaits m p q None same a = tt
same_awaits m p q (Some future) same a = ap m (same ∙ append-nil p.answers) ∙ a

-- what an await that waits says is no command
no_command_said : (input : Bool) (s : Setup) (executing : Bool) (left : Tree) (d : Derived) → commands_of (waiting_on input s executing left d) ≡ []
no_command_said false s executing left d = refl
no_command_said true s executing left d = by_test (says_so s.version s.options.awaiting_on_policy executing left)
  where
    by_test : (b : Bool) → commands_of (if b then message.AwaitingOn (record { future = sent (λ handle. id_at handle d.handles) left; executing_side_effects = false }) ∷ [] else []) ≡ []
    by_test true = refl
    by_test false = refl

-- ---- what the VM replies

module _ (fixed : Fixed) (r : Record) (k : HandlerRuns fixed (heard fixed.version r) r.answers r.waiting r.taken r.vm) (live : IsLive r.vm.machine) (w : View) (und : w.undecoded ≡ r.vm.undecoded) where
  abbrev s : Setup
  s = setup_for fixed k.journal.start

  answered_keeps : (a : Answer) → Answered s fixed.handler (start_state k.journal) k.written k.at r.vm.machine a w.machine → HandlerRuns fixed (heard fixed.version r) (r.answers ++ a ∷ []) None r.taken w
  answered_keeps a f =
      let made = made_made s fixed.handler (Handed (start_state k.journal)) f.moves.moves k.at f.made f.at f.moves.run in
      runs_on fixed (heard fixed.version r) r.answers r.waiting None r.taken r.vm w k live und f.at (a ∷ []) f.made f.moves made.0 made.1.commands (f.output ∙ ap (λ l. r.vm.machine.output ++ l) (sym made.1.frames)) tt (λ _. f.agrees) (λ _. f.rests (k.rests live)) (λ _. f.kept) (λ _. inl (agrees_running s (start_state k.journal) (k.written ++ f.made) w.machine f.at f.agrees))

  -- an await that waits has made no part of a call
  waits_rest : (q : Point) → Waits s fixed.handler (start_state k.journal) k.at q → q.derived.parts ≡ 0
  waits_rest q ws =
      let same : q.answers ≡ k.at.answers = ws.moves.answers ∙ append-nil k.at.answers in
      let is : fixed.handler k.at.answers ≡ step.Await ws.future = ap fixed.handler (sym same) ∙ ws.awaits in
      made_keeps s fixed.handler (Handed (start_state k.journal)) ws.moves.moves k.at [] q (subst (λ st. IsOfOne (ask_of s.version st)) (sym is) tt) same ws.moves.run ∙ k.rests live

  no_answer : (waiting : Option UnresolvedFuture) → HandlerRuns fixed (heard fixed.version r) (r.answers ++ []) waiting r.taken w → HandlerRuns fixed (heard fixed.version r) r.answers waiting r.taken w
  no_answer waiting = subst (λ l. HandlerRuns fixed (heard fixed.version r) l waiting r.taken w) (append-nil r.answers)

  waits_keeps : (input : Bool) (st : Step) → fixed.handler k.at.answers ≡ st → StillAgrees input s fixed.handler (start_state k.journal) k.written k.at r.vm.machine w.machine → HandlerRuns fixed (heard fixed.version r) r.answers (future_in st) r.taken w
  waits_keeps input st is f =
      no_answer (future_in st)
      (runs_on fixed (heard fixed.version r) r.answers r.waiting (future_in st) r.taken r.vm w k live und f.at [] [] f.waits.moves (waiting_on input s (list_any is_executing w.machine.runs) f.left f.at.derived) (no_command_said input s (list_any is_executing w.machine.runs) f.left f.at.derived) f.output (future_awaits fixed.handler k.at f.at st is f.waits.moves.answers)
      (λ _. subst (λ l. Agrees s (start_state k.journal) l w.machine f.at) (sym (append-nil k.written)) f.agrees)
      (λ _. waits_rest f.at f.waits)
      (λ _. f.kept)
      (λ _. inl (agrees_running s (start_state k.journal) k.written w.machine f.at f.agrees)))

  suspended_keeps : IsSuspended s fixed.handler (start_state k.journal) k.at r.vm.machine w.machine → HandlerRuns fixed (heard fixed.version r) r.answers r.waiting r.taken w
  suspended_keeps f =
      no_answer r.waiting
      (runs_on fixed (heard fixed.version r) r.answers r.waiting r.waiting r.taken r.vm w k live und f.at [] [] f.waits.moves (message.Suspension (suspended_on f.left f.at.derived) ∷ []) refl f.output (same_awaits fixed.handler k.at f.at r.waiting f.waits.moves.answers k.awaits)
      (λ alive. not_live w.machine f.closed alive) (λ alive. not_live w.machine f.closed alive) (λ alive. not_live w.machine f.closed alive) (λ _. inr f.closed))

  ended_keeps : HasEnded fixed.handler k.at r.vm.machine w.machine → HandlerRuns fixed (heard fixed.version r) r.answers r.waiting r.taken w
  ended_keeps f =
      no_answer r.waiting
      (runs_on fixed (heard fixed.version r) r.answers r.waiting r.waiting r.taken r.vm w k live und k.at [] [] (no_move s fixed.handler (start_state k.journal) k.at) (message.End ∷ []) refl f.output k.awaits (λ alive. not_live w.machine f.closed alive) (λ alive. not_live w.machine f.closed alive) (λ alive. not_live w.machine f.closed alive) (λ _. inr f.closed))

  -- what a call that failed has made is kept
  failed_keeps : (e : Error) (at : Point) (made : List RawMessage) → MovesOn s fixed.handler (start_state k.journal) k.at [] made at → (behind : List Message) → commands_of behind ≡ [] → w.machine.output ≡ r.vm.machine.output ++ (command_frames made ++ map encoding behind) → w.machine.failure ≡ Some e → IsKept fixed (with_vm w r)
  failed_keeps e at made mo behind quiet output failure =
      let ms = made_made s fixed.handler (Handed (start_state k.journal)) mo.moves k.at made at mo.run in
      let commands : commands_of (ms.0 ++ behind) ≡ made = commands_append ms.0 behind ∙ (λ i. ms.1.commands i ++ quiet i) ∙ append-nil made in
      let frames : w.machine.output ≡ r.vm.machine.output ++ map encoding (ms.0 ++ behind) = output ∙ ap (λ l. r.vm.machine.output ++ l) (ap (λ l. l ++ map encoding behind) (sym ms.1.frames) ∙ sym (map_append ms.0 behind)) in
      inr
      (no_answer r.waiting
      (runs_on fixed (heard fixed.version r) r.answers r.waiting r.waiting r.taken r.vm w k live und at [] made mo (ms.0 ++ behind) commands frames (same_awaits fixed.handler k.at at r.waiting mo.answers k.awaits)
      (λ alive. absurd (let z : None ≡ Some e = sym alive.failure ∙ failure in cc))
      (λ alive. absurd (let z : None ≡ Some e = sym alive.failure ∙ failure in cc))
      (λ alive. absurd (let z : None ≡ Some e = sym alive.failure ∙ failure in cc))
      (λ none. absurd (let z : None ≡ Some e = sym none ∙ failure in cc))))

  refused_keeps : (e : Error) → CallRefused s fixed.handler (start_state k.journal) k.at r.vm.machine e w.machine → IsKept fixed (with_vm w r)
  refused_keeps e f = failed_keeps e f.at f.made f.moves (message.Error (error_message e) ∷ []) refl f.output f.failure

  cut_keeps : (e : Error) → IsCutShort s fixed.handler (start_state k.journal) k.at r.vm.machine e w.machine → IsKept fixed (with_vm w r)
  cut_keeps e f = failed_keeps e f.at f.made f.moves [] refl (f.output ∙ ap (λ l. r.vm.machine.output ++ l) (sym (append-nil (command_frames f.made)))) f.failure

  abbrev Following : Outcome Reply → Type 0
  Following = CallFollows s fixed.handler (start_state k.journal) k.written k.at r.vm.machine

  -- every outcome of the call that this statement allows is that of the moves
  abbrev AllFollow : Type 0 → (Outcome Reply → Type 0) → Type 0
  AllFollow P R = (o : Outcome Reply) → R o → IfDone o P → Following o

  replied_keeps : (P : Type 0) (st : Step) → fixed.handler k.at.answers ≡ st → (x : Result Reply Error) → (R : Outcome Reply → Type 0) → AllFollow P R → DoesBy R x r.vm.machine w.machine → OnOk x P → IsKept fixed (replied r (future_in st) x w)
  replied_keeps P st is (Ok (reply.Answer a)) R f does h = inr (answered_keeps a (f (Done (reply.Answer a) w.machine) does h))
  replied_keeps P st is (Ok (reply.Waiting input run)) R f does h = inr (waits_keeps input st is (f (Done (reply.Waiting input run) w.machine) does h))
  replied_keeps P st is (Ok (reply.Execute run)) R f does h = inr (waits_keeps false st is (f (Done (reply.Execute run) w.machine) does h))
  replied_keeps P st is (Ok reply.Suspended) R f does h = inr (suspended_keeps (f (Done reply.Suspended w.machine) does h))
  replied_keeps P st is (Ok reply.Ended) R f does h = inr (ended_keeps (f (Done reply.Ended w.machine) does h))
  replied_keeps P st is (Err e) R f does h =
      ⊎_elim
      (λ (x : R (Failed e w.machine)).
      let g : CallRefused s fixed.handler (start_state k.journal) k.at r.vm.machine e w.machine ⊎ IsCutShort s fixed.handler (start_state k.journal) k.at r.vm.machine e w.machine = f (Failed e w.machine) x (tt {0}) in
      ⊎_elim (λ (y : CallRefused s fixed.handler (start_state k.journal) k.at r.vm.machine e w.machine). refused_keeps e y) (λ (y : IsCutShort s fixed.handler (start_state k.journal) k.at r.vm.machine e w.machine). cut_keeps e y) g)
      (λ (x : IsStarved r.vm.machine e w.machine). dead_same (HandlerRuns fixed) (runs_last fixed) fixed r w (inr k) (quiet_same r.vm.machine w.machine x.output) (rw x.failure refl))
      does

  -- ---- what waits

  waits_so : (q : Point) → Waits s fixed.handler (start_state k.journal) k.at q → (ms : List Message) → commands_of ms ≡ [] → w.machine.output ≡ r.vm.machine.output ++ map encoding ms → AwaitWaits fixed (heard fixed.version r) r.answers r.taken w
  waits_so q ws ms commands output =
      let written = k.written ++ [] in
      let run = made_add s fixed.handler (Handed (start_state k.journal)) k.moves ws.moves.moves (start s k.journal.input (arrivals k.journal) k.journal.rest) k.written k.at [] q k.run ws.moves.run in
      let told = attempt_is_told s fixed.handler (start_state k.journal) k.journal.input (k.moves + ws.moves.moves) (arrivals k.journal) k.journal.rest written q run in
      let same : q.answers ≡ r.answers = ws.moves.answers ∙ append-nil k.at.answers ∙ k.answers in
      let wrote : Wrote r.taken w.machine.output written = subst (Wrote r.taken w.machine.output) (ap (λ l. k.written ++ l) commands) (wrote_more r.taken r.vm.machine.output w.machine.output ms k.written output k.wrote) in (
        written,
        wrote,
        record {
          journal = k.journal;
          future = ws.future;
          awaits = ap fixed.handler (sym same) ∙ ws.awaits;
          asleep = λ p tell. subst (IsPrefix p.answers) same (stuck_last s fixed.handler tell.0 told.0.0 (start s k.journal.input (arrivals k.journal) (k.journal.rest ++ written)) p q tell.1 told.0.1 (waits_still s fixed.handler q ws.asks ws.no_arrival));
          at = q;
          told = told.0;
          answers = same;
          no_arrival = ws.no_arrival;
          no_command = ws.no_command;
          asks = ws.asks;
        },
      )

  replied_waits : (P : Type 0) (x : Result Reply Error) → (R : Outcome Reply → Type 0) → AllFollow P R → DoesBy R x r.vm.machine w.machine → OnOk x P → IfWaits (progress_of x) (AwaitWaits fixed (heard fixed.version r) r.answers r.taken w)
  replied_waits P (Ok (reply.Answer a)) R f does h = tt
  replied_waits P (Ok (reply.Waiting input run)) R f does h =
      let g : StillAgrees input s fixed.handler (start_state k.journal) k.written k.at r.vm.machine w.machine = f (Done (reply.Waiting input run) w.machine) does h in
      let executing = list_any is_executing w.machine.runs in
      waits_so g.at g.waits (waiting_on input s executing g.left g.at.derived) (no_command_said input s executing g.left g.at.derived) g.output
  replied_waits P (Ok (reply.Execute run)) R f does h =
      let g : StillAgrees false s fixed.handler (start_state k.journal) k.written k.at r.vm.machine w.machine = f (Done (reply.Execute run) w.machine) does h in
      waits_so g.at g.waits [] refl g.output
  replied_waits P (Ok reply.Suspended) R f does h =
      let g : IsSuspended s fixed.handler (start_state k.journal) k.at r.vm.machine w.machine = f (Done reply.Suspended w.machine) does h in
      waits_so g.at g.waits (message.Suspension (suspended_on g.left g.at.derived) ∷ []) refl g.output
  replied_waits P (Ok reply.Ended) R f does h = tt
  replied_waits P (Err e) R f does h = tt

  -- ---- what is replayed

  nothing_made : (a : Answer) → Answered s fixed.handler (start_state k.journal) k.written k.at r.vm.machine a w.machine → (w.machine.output ≡ r.vm.machine.output) ⊎ (w.machine.phase ≡ Processing)
  nothing_made a g =
      ⊎_elim
      (λ (none : g.made ≡ []). inl (g.output ∙ ap (λ l. r.vm.machine.output ++ command_frames l) none ∙ append-nil r.vm.machine.output))
      (λ (none : g.at.left ≡ []). inr (ap (λ (v : Machine). v.phase) g.agrees.machine ∙ ap phase_after none))
      g.none_before

  -- no command was written before
  none_written : (c : RawMessage) (further : List RawMessage) → k.at.left ≡ c ∷ further → k.written ≡ []
  none_written c further some = ⊎_elim
      (λ (x : k.written ≡ []). x)
      (λ (x : k.at.left ≡ []). absurd (let z : [] ≡ c ∷ further = sym x ∙ some in cc))
      (attempt_is_told s fixed.handler (start_state k.journal) k.journal.input k.moves (arrivals k.journal) k.journal.rest k.written k.at k.run).1

  -- the run to where a call failed
  run_there : (c : RawMessage) (further : List RawMessage) → k.at.left ≡ c ∷ further → (at : Point) (made : List RawMessage) (mo : MovesOn s fixed.handler (start_state k.journal) k.at [] made at) → Made s fixed.handler (Handed (start_state k.journal)) (k.moves + mo.moves) (start s k.journal.input (arrivals k.journal) k.journal.rest) made at
  run_there c further some at made mo =
      let first = start s k.journal.input (arrivals k.journal) k.journal.rest in
      subst (λ l. Made s fixed.handler (Handed (start_state k.journal)) (k.moves + mo.moves) first (l ++ made) at) (none_written c further some) (made_add s fixed.handler (Handed (start_state k.journal)) k.moves mo.moves first k.written k.at made at k.run mo.run)

  -- a refusal, at the point that the run reaches
  refuses_there : (e : Error) (c : RawMessage) (further : List RawMessage) → k.at.left ≡ c ∷ further → CallRefused s fixed.handler (start_state k.journal) k.at r.vm.machine e w.machine → RefusesReplay fixed (heard fixed.version r) r.answers e r.vm.machine w.machine
  refuses_there e c further some g = record {
    journal = k.journal;
    at = g.at;
    moves = k.moves + g.moves.moves;
    written = g.made;
    none_before = g.none_before;
    made = run_there c further some g.at g.made g.moves;
    answers = g.moves.answers ∙ append-nil k.at.answers ∙ k.answers;
    why = g.why;
    reason = g.reason;
    related = g.related;
    error = g.error;
    output = g.output;
    failure = g.failure;
  }

  -- out of memory, at that point
  starves_there : (e : Error) (c : RawMessage) (further : List RawMessage) → k.at.left ≡ c ∷ further → IsCutShort s fixed.handler (start_state k.journal) k.at r.vm.machine e w.machine → StarvesReplay fixed (heard fixed.version r) r.answers e r.vm.machine w.machine
  starves_there e c further some g = record {
    journal = k.journal;
    at = g.at;
    moves = k.moves + g.moves.moves;
    written = g.made;
    none_before = g.none_before;
    made = run_there c further some g.at g.made g.moves;
    answers = g.moves.answers ∙ append-nil k.at.answers ∙ k.answers;
    many = g.many;
    error = g.error;
    output = g.output;
    failure = g.failure;
  }

  replied_replays : (P : Type 0) (future : Option UnresolvedFuture) (c : RawMessage) (further : List RawMessage) → k.at.left ≡ c ∷ further → (x : Result Reply Error) → (R : Outcome Reply → Type 0) → AllFollow P R → DoesBy R x r.vm.machine w.machine → OnOk x P → AnswersInReplay fixed r (progress_of x) (replied r future x w)
  replied_replays P future c further some (Ok (reply.Answer a)) R f does h = nothing_made a (f (Done (reply.Answer a) w.machine) does h)
  replied_replays P future c further some (Ok (reply.Waiting input run)) R f does h =
      let g : StillAgrees input s fixed.handler (start_state k.journal) k.written k.at r.vm.machine w.machine = f (Done (reply.Waiting input run) w.machine) does h in
      let z : [] ≡ c ∷ further = sym g.waits.none_recorded ∙ some in
      cc
  replied_replays P future c further some (Ok (reply.Execute run)) R f does h =
      let g : StillAgrees false s fixed.handler (start_state k.journal) k.written k.at r.vm.machine w.machine = f (Done (reply.Execute run) w.machine) does h in
      let z : [] ≡ c ∷ further = sym g.waits.none_recorded ∙ some in
      cc
  replied_replays P future c further some (Ok reply.Suspended) R f does h =
      let g : IsSuspended s fixed.handler (start_state k.journal) k.at r.vm.machine w.machine = f (Done reply.Suspended w.machine) does h in
      let z : [] ≡ c ∷ further = sym g.waits.none_recorded ∙ some in
      cc
  replied_replays P future c further some (Ok reply.Ended) R f does h =
      let g : HasEnded fixed.handler k.at r.vm.machine w.machine = f (Done reply.Ended w.machine) does h in
      let z : [] ≡ c ∷ further = sym g.no_command ∙ some in
      cc
  replied_replays P future c further some (Err e) R f does h =
      ⊎_elim
      (λ (x : R (Failed e w.machine)).
      let g : CallRefused s fixed.handler (start_state k.journal) k.at r.vm.machine e w.machine ⊎ IsCutShort s fixed.handler (start_state k.journal) k.at r.vm.machine e w.machine = f (Failed e w.machine) x (tt {0}) in
      inr
      (inr
      (⊎_elim
      (λ (y : CallRefused s fixed.handler (start_state k.journal) k.at r.vm.machine e w.machine). inr (refuses_there e c further some y))
      (λ (y : IsCutShort s fixed.handler (start_state k.journal) k.at r.vm.machine e w.machine). inl (starves_there e c further some y))
      g)))
      (λ (x : IsStarved r.vm.machine e w.machine). inr (inl x))
      does

-- a step of a handler that runs
pub asks_keep : (fixed : Fixed) (old : Record) (result : Result Progress Error) (new : Record) → fixed.options.signal_delivery ≡ Queued → (k : HandlerRuns fixed (heard fixed.version old) old.answers old.waiting old.taken old.vm) → HasNoTwo k.at → IsLive old.vm.machine → MakesStep fixed.handler old result new → IsKept fixed new
asks_keep fixed old result new queues k two live (x, w, does, is, progress) =
    let s = setup_for fixed k.journal.start in
    let st = fixed.handler k.at.answers in
    let same : step_asked fixed.handler old ≡ st = asks_next fixed.handler k.at old.answers old.waiting k.answers k.awaits in
    let made : StepMade st x old.vm w = subst (λ q. StepMade q x old.vm w) same does in
    subst (IsKept fixed) (sym is)
    (subst (λ q. IsKept fixed (replied old (future_in q) x w)) (sym same)
    (replied_keeps fixed old k live w made.0.1 (ReadsBack st old.vm.machine) st refl x (Performs st old.vm.machine) (λ o. agreeing_follows s fixed.handler (start_state k.journal) k.written old.vm.machine k.at o (λ future _. (queues, two)) (k.rests live) (k.agrees live)) made.0.0 made.1))

-- what a step that waits leaves of the record
settled_waits : (fixed : Fixed) (old : Record) (future : Option UnresolvedFuture) (w : View) (x : Result Reply Error) → IfWaits (progress_of x) (AwaitWaits fixed (heard fixed.version old) old.answers old.taken w)
    → IfWaits (progress_of x) (AwaitWaits fixed (heard fixed.version (replied old future x w)) (replied old future x w).answers (replied old future x w).taken (replied old future x w).vm)
settled_waits fixed old future w (Ok (reply.Answer a)) h = tt
settled_waits fixed old future w (Ok (reply.Waiting input run)) h = h
settled_waits fixed old future w (Ok (reply.Execute run)) h = h
settled_waits fixed old future w (Ok reply.Suspended) h = h
settled_waits fixed old future w (Ok reply.Ended) h = tt
settled_waits fixed old future w (Err e) h = tt

module _ (fixed : Fixed) (old : Record) (result : Result Progress Error) (new : Record) (queues : fixed.options.signal_delivery ≡ Queued) (k : HandlerRuns fixed (heard fixed.version old) old.answers old.waiting old.taken old.vm) (two : HasNoTwo k.at) (live : IsLive old.vm.machine) where
  abbrev made_here : Setup
  made_here = setup_for fixed k.journal.start

  -- the step that is made is the handler's
  is_next : step_asked fixed.handler old ≡ fixed.handler k.at.answers
  is_next = asks_next fixed.handler k.at old.answers old.waiting k.answers k.awaits

  follows_here : (o : Outcome Reply) → Performs (fixed.handler k.at.answers) old.vm.machine o → IfDone o (ReadsBack (fixed.handler k.at.answers) old.vm.machine) → CallFollows made_here fixed.handler (start_state k.journal) k.written k.at old.vm.machine o
  follows_here o = agreeing_follows made_here fixed.handler (start_state k.journal) k.written old.vm.machine k.at o (λ future _. (queues, two)) (k.rests live) (k.agrees live)

  -- if a step waits, nothing that came wakes its future
  pub asks_wait : MakesStep fixed.handler old result new → IfWaits result (AwaitWaits fixed (heard fixed.version new) new.answers new.taken new.vm)
  asks_wait (x, w, does, is, progress) =
      let made : StepMade (fixed.handler k.at.answers) x old.vm w = subst (λ q. StepMade q x old.vm w) is_next does in
      subst (λ z. IfWaits z (AwaitWaits fixed (heard fixed.version new) new.answers new.taken new.vm)) (sym progress)
      (subst (λ (n : Record). IfWaits (progress_of x) (AwaitWaits fixed (heard fixed.version n) n.answers n.taken n.vm)) (sym is)
      (settled_waits fixed old (future_in (step_asked fixed.handler old)) w x
      (replied_waits fixed old k live w made.0.1 (ReadsBack (fixed.handler k.at.answers) old.vm.machine) x (Performs (fixed.handler k.at.answers) old.vm.machine) follows_here made.0.0 made.1)))

  -- recorded commands are left at the point
  some_left : old.vm.machine.phase ≡ Replaying → (left : List RawMessage) → k.at.left ≡ left → (c : RawMessage) × (further : List RawMessage) × (k.at.left ≡ c ∷ further)
  some_left replaying (c ∷ further) is = (c, further, is)
  some_left replaying [] is =
      let z : Replaying ≡ Processing = sym replaying ∙ ap (λ (v : Machine). v.phase) (k.agrees live).machine ∙ ap phase_after is in
      absurd (cc)

  -- a step while recorded commands are left
  pub asks_replay : old.vm.machine.phase ≡ Replaying → MakesStep fixed.handler old result new → AnswersInReplay fixed old result new
  asks_replay replaying (x, w, does, is, progress) =
      let made : StepMade (fixed.handler k.at.answers) x old.vm w = subst (λ q. StepMade q x old.vm w) is_next does in
      let some = some_left replaying k.at.left refl in
      subst (λ z. AnswersInReplay fixed old z new) (sym progress)
      (subst (AnswersInReplay fixed old (progress_of x)) (sym is)
      (replied_replays fixed old k live w made.0.1 (ReadsBack (fixed.handler k.at.answers) old.vm.machine) (future_in (step_asked fixed.handler old)) some.0 some.1 some.2 x (Performs (fixed.handler k.at.answers) old.vm.machine) follows_here made.0.0 made.1))
