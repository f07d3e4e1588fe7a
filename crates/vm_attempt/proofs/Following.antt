-- Each call of a handler, in a machine that agrees with a point, does what the moves from there lead to.
use Rattle.std.proofs.Common.{◌≡◌, ℕ, ◌+◌, Bool, true, false, cond, List, [], ◌∷◌, ◌++◌, Option, Some, None, refl, sym, ap, subst, inl}
use Rattle.std.specs.Prelude.{if◌then◌else◌, ◌==◌}
use Rattle.journal_protocol.specs.NamedFault.{NamedFault}
use Rattle.journal_protocol.specs.NamedFault.TheVariants as fault
use Rattle.journal_protocol.specs.RawMessage.{RawMessage}
use Rattle.journal_protocol.specs.NotificationId.{NotificationId}
use Rattle.journal_protocol.specs.NotificationResult.{NotificationResult}
use Rattle.journal_protocol.specs.Errors.{named_error}
use Rattle.vm_state.specs.declared.state_map.StateMap.{StateMap}
use Rattle.vm_types.specs.declared.steps.Answer.TheVariants as answer
use Rattle.vm_types.specs.declared.steps.Step.{Step}
use Rattle.vm_types.specs.declared.steps.Step.TheVariants as step
use Rattle.await_trees.specs.declared.handle.NotificationHandle.{NotificationHandle}
use Rattle.vm_types.specs.declared.values.Value.{Value}
use Rattle.vm_state.specs.Counting.{missing_signals}
use Rattle.vm_parts.specs.Deliveries.{id_at, present_result_for, taken_by, unmapped}
use Rattle.journal_protocol.specs.NotificationId.TheVariants.{SignalId, SignalName}
use Rattle.vm_parts.specs.Tracked.{id_noted}
use Rattle.vm_types.specs.Values.{id_of_value, value_of}
use Rattle.vm_state.specs.declared.tracked_call.TrackedCall.{TrackedCall}
use Rattle.vm_machine.specs.declared.machine.Machine.{Machine}
use Rattle.journal_protocol.specs.Version.{Version}
use Rattle.await_trees.specs.declared.tree.UnresolvedFuture.{UnresolvedFuture}
use Rattle.vm_asks.specs.declared.asks.Ask.{Ask}
use Rattle.vm_asks.specs.declared.asks.Ask.TheVariants as ask
use Rattle.vm_asks.specs.Asks.{ask_of, command_answer}
use Rattle.vm_machine.specs.Takes.{take_step}
use Rattle.vm_machine.specs.Takes as takes
use Rattle.vm_machine.specs.Commands.{phase_after}
use Rattle.vm_machine.specs.Inputs.{end_at}
use Rattle.vm_machine.specs.Outcomes.{Outcome, Done, called, refused, ruled}
use Rattle.vm_machine.specs.Phases.{state_fault}
use Rattle.vm_machine.specs.Signals.{awakeable_counted, awakeable_step, signal_counted, signal_step}
use Rattle.vm_asks.specs.Awakeables.{awakeable_id}
use Rattle.vm_types.specs.Options.{skips_replay}
use Rattle.vm_model.specs.Calls.{Setup, Meaning, Derived, Move, asked, awakeable_made, call_of, making_awakeable, has_result_in, identity_of, ready_in, take_of_result, signal_made, taking, take_noting_id, take_of_value}
use Rattle.vm_model.specs.Calls.Usage.{Taken}
use Rattle.vm_model.specs.Calls.Move.{Ends}
use Rattle.vm_model.specs.Refusals.{IsRefusedFor}
use Rattle.vm_model.specs.Deliveries.{HasNoTwo}
use Rattle.journal_protocol.specs.SignalDelivery.TheVariants.{Queued}
use Rattle.vm_model.specs.Histories.{IsAwaiting}
use Rattle.vm_model.specs.Moves.{Point, move_at}
use Rattle.vm_attempt.specs.declared.progress.Reply.{Reply}
use Rattle.vm_attempt.specs.declared.progress.Reply.TheVariants as reply
use Rattle.vm_attempt.specs.Agreement.{Agrees, Aside, CallFollows, machine_at}
use Rattle.vm_attempt.specs.Steps.{IfDone, IsReadable, Performs, PerformsBy, ReadsBack, awakeable_reply_step as made_awakeable, commanded_reply, completed_reply, end_reply, mapped, read_made, signalled, taken}
use Rattle.vm_attempt.proofs.Leading.{error_written, follows_from, no_move, open_after}
use Rattle.vm_attempt.proofs.Own.{AsksCommand, asks_command}
use Rattle.vm_attempt.proofs.Reading.{reads_follow}
use Rattle.vm_attempt.proofs.Requesting.{runs_at}
use Rattle.vm_model.proofs.Parts.{IsOfOne}
use Rattle.vm_attempt.proofs.Cancelling.{awaits_follow}
use Rattle.vm_attempt.proofs.Several.{several_follow}
use Rattle.vm_attempt.proofs.Commanding.{LeadsOn, answers, commands_follow, event_done, refuses, refuses_here}

-- ---- takes

-- the machine once a result was taken
abbrev taken_machine : Setup → StateMap → List RawMessage → Aside → Point → NotificationHandle → NotificationId → NotificationResult → Machine
taken_machine s given written aside p h id result = record (machine_at s given written aside p) { results = taken_by s.options.signal_delivery h.0 (Some id) (Some result) (machine_at s given written aside p).results }

takes_noted : (s : Setup) (given : StateMap) (written : List RawMessage) (aside : Aside) (p : Point) (h : NotificationHandle) (id : NotificationId) (result : NotificationResult) (value : Value) (o : Option (List TrackedCall))
    → LeadsOn s given written aside p answer.Taken (take_noting_id h id value o p.derived) (takes.value_noted value o (taken_machine s given written aside p h id result))
takes_noted s given written aside p h id result value None = refuses s given written aside p answer.Taken fault.UnexpectedInvocationIdResult (taken_machine s given written aside p h id result) refl refl refl refl
takes_noted s given written aside p h id result value (Some tracked) = answers s given written aside p answer.Taken (Some value) (record p.derived { handles = cond (h.0 == 1) p.derived.handles (unmapped h.0 p.derived.handles); usage = Taken id ∷ p.derived.usage; tracked = tracked })

takes_value : (s : Setup) (given : StateMap) (written : List RawMessage) (aside : Aside) (p : Point) (h : NotificationHandle) (id : NotificationId) (result : NotificationResult) (o : Option Value)
    → LeadsOn s given written aside p answer.Taken (take_of_value h id o p.derived) (takes.value_taken h.0 o (taken_machine s given written aside p h id result))
takes_value s given written aside p h id result None = refuses s given written aside p answer.Taken fault.StateKeyIsNotUtf8 (taken_machine s given written aside p h id result) refl refl refl refl
takes_value s given written aside p h id result (Some value) = takes_noted s given written aside p h id result value (id_noted h.0 (id_of_value value) p.derived.tracked)

takes_result : (s : Setup) (given : StateMap) (written : List RawMessage) (aside : Aside) (p : Point) (h : NotificationHandle) (id : Option NotificationId) (o : Option NotificationResult) → (id ≡ None → o ≡ None)
    → LeadsOn s given written aside p answer.Taken (take_of_result h id o p.derived) (takes.result_taken h.0 o (record (machine_at s given written aside p) { results = taken_by s.options.signal_delivery h.0 id o (machine_at s given written aside p).results }))
takes_result s given written aside p h (Some id) (Some result) none = takes_value s given written aside p h id result (value_of result)
takes_result s given written aside p h (Some id) None none = answers s given written aside p answer.Taken None p.derived
takes_result s given written aside p h None None none = answers s given written aside p answer.Taken None p.derived
takes_result s given written aside p h None (Some result) none = absurd (let z : Some result ≡ None = none refl in cc)

none_for : (s : Setup) (id : Option NotificationId) (d : Derived) → id ≡ None → present_result_for s.options.signal_delivery id (ready_in s d) ≡ None
none_for s id d e = ap (λ x. present_result_for s.options.signal_delivery x (ready_in s d)) e

takes_follow : (s : Setup) (given : StateMap) (written : List RawMessage) (aside : Aside) (p : Point) (h : NotificationHandle) → LeadsOn s given written aside p answer.Taken (taking s h (id_at h.0 p.derived.handles) p.derived) (take_step h.0 (machine_at s given written aside p))
unfolding take_step
takes_follow s given written aside p h =
    let id = id_at h.0 p.derived.handles in
    rw (runs_at p.left) (takes_result s given written aside p h id (present_result_for s.options.signal_delivery id (ready_in s p.derived)) (none_for s id p.derived))

-- ---- awakeables

awakeables_follow : (s : Setup) (given : StateMap) (written : List RawMessage) (aside : Aside) (p : Point) → s.identity ≡ identity_of aside.start → (o : Option NamedFault) → LeadsOn s given written aside p answer.Awakeable (awakeable_made s o p.derived) (awakeable_counted o (machine_at s given written aside p))
awakeables_follow s given written aside p identity (Some name) = refuses_here s given written aside p answer.Awakeable name
awakeables_follow s given written aside p identity None = rw identity (answers s given written aside p answer.Awakeable (record { id = awakeable_id aside.start.id p.derived.counters.signal; handle = record { 0 = p.derived.counters.handle } }) (record p.derived {
  handles = p.derived.handles ++ record { handle = p.derived.counters.handle; id = SignalId p.derived.counters.signal } ∷ [];
  counters = record p.derived.counters { signal = p.derived.counters.signal + 1; handle = p.derived.counters.handle + 1 };
}))

counts_awakeable : (s : Setup) (given : StateMap) (written : List RawMessage) (aside : Aside) (p : Point) → s.identity ≡ identity_of aside.start → LeadsOn s given written aside p answer.Awakeable (awakeable_made s (missing_signals 1 1 p.derived.counters) p.derived) (awakeable_step (machine_at s given written aside p))
unfolding awakeable_step
counts_awakeable s given written aside p identity = rw (runs_at p.left) (awakeables_follow s given written aside p identity (missing_signals 1 1 p.derived.counters))

makes_awakeable : (s : Setup) (given : StateMap) (written : List RawMessage) (aside : Aside) (p : Point) → s.identity ≡ identity_of aside.start → (b : Bool) → LeadsOn s given written aside p answer.Awakeable (making_awakeable s b p.derived) (if b then refused fault.UnsupportedFeature (machine_at s given written aside p) else awakeable_step (machine_at s given written aside p))
makes_awakeable s given written aside p identity true = refuses_here s given written aside p answer.Awakeable fault.UnsupportedFeature
makes_awakeable s given written aside p identity false = counts_awakeable s given written aside p identity

-- ---- named signals

signals_follow : (s : Setup) (given : StateMap) (written : List RawMessage) (aside : Aside) (p : Point) (name : List ℕ) (o : Option NamedFault) → LeadsOn s given written aside p answer.Handle (signal_made name o p.derived) (signal_counted o name (machine_at s given written aside p))
signals_follow s given written aside p name (Some fault) = refuses_here s given written aside p answer.Handle fault
signals_follow s given written aside p name None = answers s given written aside p answer.Handle (record { 0 = p.derived.counters.handle }) (record p.derived {
  handles = p.derived.handles ++ record { handle = p.derived.counters.handle; id = SignalName name } ∷ [];
  counters = record p.derived.counters { handle = p.derived.counters.handle + 1 };
})

makes_signal : (s : Setup) (given : StateMap) (written : List RawMessage) (aside : Aside) (p : Point) (name : List ℕ) → LeadsOn s given written aside p answer.Handle (signal_made name (missing_signals 0 1 p.derived.counters) p.derived) (signal_step name (machine_at s given written aside p))
unfolding signal_step
makes_signal s given written aside p name = rw (runs_at p.left) (signals_follow s given written aside p name (missing_signals 0 1 p.derived.counters))

-- ---- the end

ends : (s : Setup) (m : Meaning) (given : StateMap) (written : List RawMessage) (aside : Aside) (p : Point) → m p.answers ≡ step.End → (left : List RawMessage) → p.left ≡ left → CallFollows s m given written p (machine_at s given written aside p) (mapped (λ _. reply.Ended) (called (end_at (phase_after left) (machine_at s given written aside p)) (machine_at s given written aside p)))
unfolding called
ends s m given written aside p is [] e = record { step = is; no_command = e; output = refl; closed = refl }
ends s m given written aside p is (c ∷ left) e =
    let v = machine_at s given written aside p in
    let ends_here : move_at s m p ≡ Ends = ap (λ st. call_of s st p.derived) is in
    inl (record {
      at = p;
      moves = no_move s m given p;
      why = fault.UnexpectedState;
      reason = subst (λ (x : Move × List RawMessage). IsRefusedFor x.0 x.1 p.queue fault.UnexpectedState) (λ i. (sym ends_here i, sym e i)) refl;
      related = None;
      error = refl;
      made = [];
      none_before = inl refl;
      output = error_written (ruled v (named_error (state_fault (phase_after (c ∷ left))) None)) v aside.output refl (open_after p.left);
      failure = refl;
    })

-- ---- all calls

completes : (s : Setup) (m : Meaning) (given : StateMap) (written : List RawMessage) (aside : Aside) (p : Point) (h : NotificationHandle) → s.identity ≡ identity_of aside.start → IsOfOne (ask_of s.version (m p.answers)) → move_at s m p ≡ asked s (ask.Completed h) p.derived → CallFollows s m given written p (machine_at s given written aside p) (completed_reply h (machine_at s given written aside p))
unfolding called
completes s m given written aside p h identity one is =
    rw (runs_at p.left) (follows_from s m given written aside p answer.Completed (asked s (ask.Completed h) p.derived) (Done (has_result_in s h p.derived) (machine_at s given written aside p)) identity one is (answers s given written aside p answer.Completed (has_result_in s h p.derived) p.derived))

-- the steps that ask for an await, or for the end
awaits_asked : (version : Version) (st : Step) (future : UnresolvedFuture) → ask_of version st ≡ ask.Await future → st ≡ step.Await future
awaits_asked version (step.Await x) future is = cc
awaits_asked version st future is = absurd cc

end_asked : (version : Version) (st : Step) → ask_of version st ≡ ask.End → st ≡ step.End
end_asked version step.End is = refl
end_asked version st is = absurd cc

-- an outcome is this one, by which a call does what its moves lead to
comes_so : (s : Setup) (m : Meaning) (given : StateMap) (written : List RawMessage) (aside : Aside) (p : Point) (P : Type 0) (o q : Outcome Reply) → o ≡ q → (IfDone q P → CallFollows s m given written p (machine_at s given written aside p) q) → IfDone o P → CallFollows s m given written p (machine_at s given written aside p) o
comes_so s m given written aside p P o q is follows whole = subst (CallFollows s m given written p (machine_at s given written aside p)) (sym is) (follows (subst (λ x. IfDone x P) is whole))

-- where the handler awaits, signals queue and no completion has two results
abbrev pub IfAwaiting : Setup → Meaning → Point → Type 0
IfAwaiting s m p = (future : UnresolvedFuture) → IsAwaiting m p future → (s.options.signal_delivery ≡ Queued) × HasNoTwo p

-- what is asked for, in a machine that agrees with a point
asked_follows : (s : Setup) (m : Meaning) (given : StateMap) (written : List RawMessage) (aside : Aside) (p : Point) → s.identity ≡ identity_of aside.start → IfAwaiting s m p → p.derived.parts ≡ 0 → (a : Ask) → ask_of s.version (m p.answers) ≡ a → AsksCommand a → (o : Outcome Reply) → PerformsBy a (machine_at s given written aside p) o → IfDone o (IsReadable a (machine_at s given written aside p)) → CallFollows s m given written p (machine_at s given written aside p) o
asked_follows s m given written aside p identity awaits rests (ask.Command c) is command o does whole =
    let v = machine_at s given written aside p in
    comes_so s m given written aside p (IsReadable (ask.Command c) v) o (commanded_reply c v) does
    (λ (here : IfDone (commanded_reply c v) (IsReadable (ask.Command c) v)). follows_from s m given written aside p (command_answer c.message) _ _ identity (subst IsOfOne (sym is) tt) (ap (λ a. asked s a p.derived) is) (commands_follow s given written aside p c command c.refusal (event_done _ _ s given written aside p _ here))) whole
asked_follows s m given written aside p identity awaits rests (ask.Commands kind first second) is command o does whole = several_follow s m given written aside p kind first second identity rests is command o does
asked_follows s m given written aside p identity awaits rests ask.Awakeable is command o does whole =
    let v = machine_at s given written aside p in
    comes_so s m given written aside p (IsReadable ask.Awakeable v) o (made_awakeable v) does
    (λ _. follows_from s m given written aside p answer.Awakeable _ _ identity (subst IsOfOne (sym is) tt) (ap (λ a. asked s a p.derived) is) (makes_awakeable s given written aside p identity (skips_replay s.options.journal_replay))) whole
asked_follows s m given written aside p identity awaits rests (ask.Read r) is command o does whole =
    let v = machine_at s given written aside p in
    comes_so s m given written aside p (IsReadable (ask.Read r) v) o (read_made r v) does
    (λ (here : IfDone (read_made r v) (IsReadable (ask.Read r) v)). follows_from s m given written aside p answer.Handle _ _ identity (subst IsOfOne (sym is) tt) (ap (λ a. asked s a p.derived) is) (reads_follow s given written aside r p (event_done _ _ s given written aside p _ here))) whole
asked_follows s m given written aside p identity awaits rests (ask.Signal name) is command o does whole =
    let v = machine_at s given written aside p in
    comes_so s m given written aside p (IsReadable (ask.Signal name) v) o (signalled name v) does
    (λ _. follows_from s m given written aside p answer.Handle _ _ identity (subst IsOfOne (sym is) tt) (ap (λ a. asked s a p.derived) is) (makes_signal s given written aside p name)) whole
asked_follows s m given written aside p identity awaits rests (ask.Await future) is command o does whole =
    let here = awaits_asked s.version (m p.answers) future is in
    let so = awaits future here in
    awaits_follow s m given written aside p future identity here so.0 so.1 o does
asked_follows s m given written aside p identity awaits rests (ask.Take h) is command o does whole =
    let v = machine_at s given written aside p in
    comes_so s m given written aside p (IsReadable (ask.Take h) v) o (taken h v) does
    (λ _. follows_from s m given written aside p answer.Taken _ _ identity (subst IsOfOne (sym is) tt) (ap (λ a. asked s a p.derived) is) (takes_follow s given written aside p h)) whole
asked_follows s m given written aside p identity awaits rests (ask.Completed h) is command o does whole =
    let v = machine_at s given written aside p in
    comes_so s m given written aside p (IsReadable (ask.Completed h) v) o (completed_reply h v) does
    (λ _. completes s m given written aside p h identity (subst IsOfOne (sym is) tt) (ap (λ a. asked s a p.derived) is)) whole
asked_follows s m given written aside p identity awaits rests ask.End is command o does whole =
    let v = machine_at s given written aside p in
    comes_so s m given written aside p (IsReadable ask.End v) o (end_reply v) does
    (λ _. ends s m given written aside p (end_asked s.version (m p.answers) is) p.left refl) whole

-- In a machine that agrees with a point, the handler's call does what the moves from there lead to.
call_follows : (s : Setup) (m : Meaning) (given : StateMap) (written : List RawMessage) (aside : Aside) (p : Point) → s.identity ≡ identity_of aside.start → IfAwaiting s m p → p.derived.parts ≡ 0 → (o : Outcome Reply) → Performs (m p.answers) (machine_at s given written aside p) o → IfDone o (ReadsBack (m p.answers) (machine_at s given written aside p)) → CallFollows s m given written p (machine_at s given written aside p) o
call_follows s m given written aside p identity awaits rests = asked_follows s m given written aside p identity awaits rests (ask_of s.version (m p.answers)) refl (asks_command s.version (m p.answers))

pub agreeing_follows : (s : Setup) (m : Meaning) (given : StateMap) (written : List RawMessage) (v : Machine) (p : Point) (o : Outcome Reply) → IfAwaiting s m p → p.derived.parts ≡ 0 → Agrees s given written v p → Performs (m p.answers) v o → IfDone o (ReadsBack (m p.answers) v) → CallFollows s m given written p v o
agreeing_follows s m given written v p o awaits rests a does whole =
    rw a.machine (call_follows s m given written a.aside p a.identity awaits rests o (subst (λ (x : Machine). Performs (m p.answers) x o) a.machine does) (subst (λ (x : Machine). IfDone o (ReadsBack (m p.answers) x)) a.machine whole))
