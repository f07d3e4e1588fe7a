-- What a call does in an execution is the move of the model's table; so one execution of a handler is one run of it, and the other way round.
use Rattle.std.proofs.Common.{◌≡◌, ◌⊎◌, ℕ, zero, suc, ◌+◌, Bool, true, false, ◌||◌, cond, List, [], ◌∷◌, ◌++◌, Option, Some, None, refl, sym, ap, ◌∙◌, subst, inl, inr}
use Rattle.std.specs.Prelude.{◌==◌, if◌then◌else◌, filter, filter_map, is_some, option_map}
use Rattle.std.specs.List.{AllByRecursion, cons_option}
use Rattle.std.specs.Option.{option_or}
use Rattle.std.proofs.lemmas.Bool.{eq-eqb, eqb-true}
use Rattle.std.proofs.lemmas.Option.{same_Some}
use Rattle.await_arrivals.proofs.Tracking.{has_is}
use Rattle.await_arrivals.specs.Results.{first, has_result_among, newest, newest_after, results_of}
use Rattle.await_trees.specs.declared.handle.NotificationHandle.{NotificationHandle}
use Rattle.await_trees.specs.declared.tree.UnresolvedFuture.{UnresolvedFuture}
use Rattle.journal_protocol.specs.InputCommand.{InputCommand}
use Rattle.journal_protocol.specs.NamedFault.{NamedFault}
use Rattle.journal_protocol.specs.Message.{Message}
use Rattle.journal_protocol.specs.Message.TheVariants as message
use Rattle.journal_protocol.specs.MessageType.TheVariants as type
use Rattle.journal_protocol.specs.RawMessage.{RawMessage}
use Rattle.journal_protocol.specs.Notification.{Notification}
use Rattle.journal_protocol.specs.NotificationId.{NotificationId}
use Rattle.journal_protocol.specs.NotificationResult.{NotificationResult}
use Rattle.journal_protocol.specs.NotificationResult.TheVariants as found
use Rattle.journal_protocol.specs.SignalDelivery.{SignalDelivery}
use Rattle.journal_protocol.specs.Version.{Version}
use Rattle.journal_protocol.specs.Bodies.{input_in, notification_in}
use Rattle.journal_protocol.specs.Commands.{is_command}
use Rattle.journal_protocol.specs.Types.{type_number}
use Rattle.journal_entries.specs.Entries.{frame_in, framed_by, journal_entries, journal_frames}
use Rattle.journal_entries.specs.Journal.{commands_in, notifications_in}
use Rattle.journal_entries.specs.JournalFrames.{commands_among, notifications_among, notified_by}
use Rattle.vm_state.specs.declared.tracked_call.TrackedCall.{TrackedCall}
use Rattle.vm_state.specs.Counting.{missing_indexes, missing_number, missing_signals}
use Rattle.vm_parts.specs.Arrived.{Ready}
use Rattle.vm_parts.specs.Deliveries.{has_result_for, id_at, is_listed, present_among, present_result_for}
use Rattle.vm_parts.specs.Tracked.{by_known_id, id_noted, id_of_result, if_known, if_unresolved, invocation_ids, is_tracked, unresolved_handles, with_invocation_id, with_next_id, without_first_call}
use Rattle.vm_types.specs.declared.options.JournalReplay.{JournalReplay}
use Rattle.vm_types.specs.declared.options.JournalReplay.TheVariants.{Disabled, Enabled}
use Rattle.vm_types.specs.declared.steps.Answer.{Answer}
use Rattle.vm_types.specs.declared.steps.Answer.TheVariants as answer
use Rattle.vm_types.specs.declared.steps.Step.{Step}
use Rattle.vm_types.specs.declared.steps.Step.TheVariants as step
use Rattle.vm_types.specs.declared.values.Value.{Value}
use Rattle.vm_types.specs.declared.values.Value.TheVariants as values
use Rattle.vm_types.specs.Options.{skips_replay}
use Rattle.vm_types.specs.Values.{id_of_value, value_of}
use Rattle.vm_asks.specs.declared.asks.AnswerKind.TheVariants as kinds
use Rattle.vm_asks.specs.declared.asks.Ask.{Ask}
use Rattle.vm_asks.specs.declared.asks.Ask.TheVariants as ask
use Rattle.vm_asks.specs.declared.command.Command.{Command}
use Rattle.vm_asks.specs.Asks.{any_refusal, ask_of, cancel_invocation_command, command_answer, missing_for}
use Rattle.vm_asks.specs.Requests.{ids_of}
use Rattle.vm_model.specs.Calls.{Derived, Meaning, Move, Setup, Turn, asked, awaited, awaiting, awakeable_made, behind_command, calling, cancel_sent, cancelled, cancelling, commanding, counted, id_awaited, id_read, is_awake, is_cancelled_in, making_awakeable, numbered, part_unless, reading, ready_in, refused_before, signal_made, take_noting_id, take_of_result, take_of_value, turn_after, turn_taken}
use Rattle.vm_model.specs.Histories.{Honest, Made}
use Rattle.vm_model.specs.HonestRounds.{IsOneRun}
use Rattle.vm_model.specs.Moves.{start}
use Rattle.vm_model.proofs.Runs.{none_some}
use Rattle.vm_attempt.proofs.Replayed.{commands_same, notes_same}
use Rattle.world_rounds.specs.declared.types.Setting.{Setting}
use Rattle.world_rounds.specs.Executions.{AwaitLeads, CallLeads, CancelLeads, IdLeads, GetsAnswer, IsOneExecution, MakesCommand, MovesLead, PartLeads, Stage, TakeLeads, own_answer}
use Rattle.world_rounds.specs.States.{base_of}
use Rattle.world_rounds.specs.Worlds.{setup_of}
use Rattle.world_rounds.proofs.Handing.{base_in_order}
use Rattle.world_rounds.proofs.Moving.{MoveLeads, TableLeads, executes, stage_of, runs}

-- ---- a call that may be refused

-- a move that is refused leads nowhere
opened : (f : Option NamedFault → Move) (o : Option NamedFault) (p : Stage) (made : List RawMessage) (q : Stage) → ((name : NamedFault) → MoveLeads (f (Some name)) p made q → ⊥) → MoveLeads (f o) p made q → (o ≡ None) × MoveLeads (f None) p made q
opened f (Some name) p made q refuses h = absurd (refuses name h)
opened f None p made q refuses h = (refl, h)

closed : (f : Option NamedFault → Move) (o : Option NamedFault) (p : Stage) (made : List RawMessage) (q : Stage) → o ≡ None → MoveLeads (f None) p made q → MoveLeads (f o) p made q
closed f o p made q none h = subst (λ x. MoveLeads (f x) p made q) (sym none) h

-- of two reasons there is none
neither : (a b : Option NamedFault) → option_or a b ≡ None → (a ≡ None) × (b ≡ None)
neither (Some name) b h = absurd (cc)
neither None b h = (refl, h)

none_of : (a b : Option NamedFault) → a ≡ None → b ≡ None → option_or a b ≡ None
none_of a b none others = ap (λ x. option_or x b) none ∙ others

-- ---- tracked calls

known_is : (o : Option (List ℕ)) → is_some o ≡ true → (id : List ℕ) × (o ≡ Some id)
known_is None h = absurd (cc)
known_is (Some id) h = (id, refl)

-- the ids of all of them are known
abbrev AreKnown : List TrackedCall → Type 0
AreKnown ts = AllByRecursion (λ u. is_some u.invocation_id ≡ true) ts

-- the first whose id isn't known has this handle
abbrev Splits : List TrackedCall → ℕ → Type 0
Splits ts handle = (front : List TrackedCall) × (t : TrackedCall) × (back : List TrackedCall) × (ts ≡ front ++ t ∷ back) × AreKnown front × (t.invocation_id ≡ None) × (t.handle ≡ handle)

split_by : (t : TrackedCall) (ts : List TrackedCall) (handle : ℕ) (hs : List ℕ) → (unresolved_handles ts ≡ handle ∷ hs → Splits ts handle) → (o : Option (List ℕ)) → t.invocation_id ≡ o → if_unresolved o t.handle (unresolved_handles ts) ≡ handle ∷ hs → Splits (t ∷ ts) handle
split_by t ts handle hs rest None is e = ([], t, ts, refl, tt, is, cc)
split_by t ts handle hs rest (Some id) is e =
    let r = rest e in
    (t ∷ r.0, r.1, r.2, ap (λ l. t ∷ l) r.3, (ap is_some is, r.4), r.5, r.6)

split : (ts : List TrackedCall) (handle : ℕ) (hs : List ℕ) → unresolved_handles ts ≡ handle ∷ hs → Splits ts handle
split [] handle hs e = absurd (cc)
split (t ∷ ts) handle hs e = split_by t ts handle hs (split ts handle hs) t.invocation_id refl e

unresolved_at : (front : List TrackedCall) (t : TrackedCall) (back : List TrackedCall) → AreKnown front → t.invocation_id ≡ None → unresolved_handles (front ++ t ∷ back) ≡ t.handle ∷ unresolved_handles back
unresolved_at [] t back known none = ap (λ o. if_unresolved o t.handle (unresolved_handles back)) none
unresolved_at (f ∷ front) t back known none =
    let x = known_is f.invocation_id known.0 in
    ap (λ o. if_unresolved o f.handle (unresolved_handles (front ++ t ∷ back))) x.1 ∙ unresolved_at front t back known.1 none

-- with this id
abbrev told : List ℕ → TrackedCall → TrackedCall
told id t = record { handle = t.handle; invocation_id = Some id }

next_at : (id : List ℕ) (front : List TrackedCall) (t : TrackedCall) (back : List TrackedCall) → AreKnown front → t.invocation_id ≡ None → with_next_id id (front ++ t ∷ back) ≡ front ++ told id t ∷ back
next_at id [] t back known none = ap (λ o. by_known_id o (told id t ∷ back) (t ∷ with_next_id id back)) none
next_at id (f ∷ front) t back known none =
    let x = known_is f.invocation_id known.0 in
    ap (λ o. by_known_id o (told id f ∷ (front ++ t ∷ back)) (f ∷ with_next_id id (front ++ t ∷ back))) x.1 ∙ ap (λ l. f ∷ l) (next_at id front t back known.1 none)

all_known_by : (t : TrackedCall) (ts : List TrackedCall) → (unresolved_handles ts ≡ [] → AreKnown ts) → (o : Option (List ℕ)) → t.invocation_id ≡ o → if_unresolved o t.handle (unresolved_handles ts) ≡ [] → AreKnown (t ∷ ts)
all_known_by t ts rest None is e = absurd (cc)
all_known_by t ts rest (Some id) is e = (ap is_some is, rest e)

all_known : (ts : List TrackedCall) → unresolved_handles ts ≡ [] → AreKnown ts
all_known [] e = tt
all_known (t ∷ ts) e = all_known_by t ts (all_known ts) t.invocation_id refl e

none_unresolved : (ts : List TrackedCall) → AreKnown ts → unresolved_handles ts ≡ []
none_unresolved [] known = refl
none_unresolved (t ∷ ts) known =
    let x = known_is t.invocation_id known.0 in
    ap (λ o. if_unresolved o t.handle (unresolved_handles ts)) x.1 ∙ none_unresolved ts known.1

-- ---- calls with commands

answers_same : (m : Message) (handle : ℕ) → command_answer m (record { 0 = handle }) ≡ own_answer m handle
answers_same (message.Call c) handle = refl
answers_same (message.OneWayCall c) handle = refl
answers_same m handle = refl

-- what a command's numbers lack
abbrev lack : Command → Derived → Option NamedFault
lack c d = missing_number (ids_of c.message) 0 (ids_of c.message) d.counters

module _ (s : Setup) (p : Stage) (made : List RawMessage) (q : Stage) (one two : Command) where
  abbrev before : Derived
  before = behind_command s one p.derived

  abbrev turn : Command → List Command → Derived → Turn
  turn c behind d = record { command = c; behind = behind; before = d }

  abbrev at_turn : Turn → Move
  at_turn t = turn_taken s kinds.CallWithDeadline t p.derived

  -- what both commands' numbers lack
  abbrev both_lack : Option NamedFault
  both_lack = missing_number (ids_of one.message + ids_of two.message) 0 (ids_of one.message + ids_of two.message) p.derived.counters

  first_from : MoveLeads (at_turn (turn one (two ∷ []) p.derived)) p made q → PartLeads s one two zero p made q
  first_from h =
      let a = opened (λ o. part_unless o s kinds.CallWithDeadline (turn one (two ∷ []) p.derived) p.derived) (refused_before one (two ∷ []) p.derived.counters) p made q (λ name x. x) h in
      let each = neither (option_or (any_refusal one (two ∷ [])) (missing_for one (two ∷ []) p.derived.counters)) (option_or one.refusal (lack one p.derived)) a.0 in
      let all = neither (any_refusal one (two ∷ [])) (missing_for one (two ∷ []) p.derived.counters) each.0 in
      let allowed = neither one.refusal two.refusal all.0 in
      let fits = neither both_lack (missing_indexes 2 p.derived.counters) all.1 in
      let own = neither one.refusal (lack one p.derived) each.1 in
      (allowed.0, allowed.1, fits.0, fits.1, own.1, a.1)

  first_to : PartLeads s one two zero p made q → MoveLeads (at_turn (turn one (two ∷ []) p.derived)) p made q
  first_to (allowed, also, sum, indexes, own, makes) =
      let refusals = none_of one.refusal two.refusal allowed also in
      let numbers = none_of both_lack (missing_indexes 2 p.derived.counters) sum indexes in
      let all = none_of (any_refusal one (two ∷ [])) (missing_for one (two ∷ []) p.derived.counters) refusals numbers in
      let none = none_of (option_or (any_refusal one (two ∷ [])) (missing_for one (two ∷ []) p.derived.counters)) (option_or one.refusal (lack one p.derived)) all (none_of one.refusal (lack one p.derived) allowed own) in
      closed (λ o. part_unless o s kinds.CallWithDeadline (turn one (two ∷ []) p.derived) p.derived) (refused_before one (two ∷ []) p.derived.counters) p made q none makes

  second_from : MoveLeads (at_turn (turn two [] before)) p made q → PartLeads s one two (suc zero) p made q
  second_from h =
      let a = opened (λ o. part_unless o s kinds.CallWithDeadline (turn two [] before) p.derived) (refused_before two [] before.counters) p made q (λ name x. x) h in
      let b = neither two.refusal (lack two before) a.0 in
      (b.0, b.1, a.1)

  second_to : PartLeads s one two (suc zero) p made q → MoveLeads (at_turn (turn two [] before)) p made q
  second_to (allowed, fits, makes) = closed (λ o. part_unless o s kinds.CallWithDeadline (turn two [] before) p.derived) (refused_before two [] before.counters) p made q (none_of two.refusal (lack two before) allowed fits) makes

  part_from : (n : ℕ) → MoveLeads (at_turn (turn_after s n one (two ∷ []) p.derived)) p made q → PartLeads s one two n p made q
  part_from zero h = first_from h
  part_from (suc zero) h = second_from h
  part_from (suc (suc n)) h = second_from h

  part_to : (n : ℕ) → PartLeads s one two n p made q → MoveLeads (at_turn (turn_after s n one (two ∷ []) p.derived)) p made q
  part_to zero h = first_to h
  part_to (suc zero) h = second_to h
  part_to (suc (suc n)) h = second_to h

module _ (s : Setup) (p : Stage) (made : List RawMessage) (q : Stage) where
  -- the command is made, with this answer
  abbrev Answered : Command → Answer → Type 0
  Answered c a = MakesCommand s c p.derived (a ∷ []) (behind_command s c p.derived) p made q

  command_from : (c : Command) → MoveLeads (commanding s c c.refusal p.derived) p made q → CallLeads s (ask.Command c) p made q
  command_from c h =
      let a = opened (λ o. commanding s c o p.derived) c.refusal p made q (λ name x. x) h in
      let b = opened (λ o. numbered s c o p.derived) (lack c p.derived) p made q (λ name x. x) a.1 in
      (a.0, b.0, subst (Answered c) (answers_same c.message p.derived.counters.handle) b.1)

  command_to : (c : Command) → CallLeads s (ask.Command c) p made q → MoveLeads (commanding s c c.refusal p.derived) p made q
  command_to c (allowed, fits, makes) = closed (λ o. commanding s c o p.derived) c.refusal p made q allowed (closed (λ o. numbered s c o p.derived) (lack c p.derived) p made q fits (subst (Answered c) (sym (answers_same c.message p.derived.counters.handle)) makes))

  -- ---- awakeables

  replay_on : (r : JournalReplay) → skips_replay r ≡ false → r ≡ Enabled
  replay_on Enabled h = refl
  replay_on Disabled h = absurd (cc)

  awakeable_from : (b : Bool) → skips_replay s.options.journal_replay ≡ b → MoveLeads (making_awakeable s b p.derived) p made q → CallLeads s ask.Awakeable p made q
  awakeable_from true e h = absurd h
  awakeable_from false e h =
      let a = opened (λ o. awakeable_made s o p.derived) (missing_signals 1 1 p.derived.counters) p made q (λ name x. x) h in
      (replay_on s.options.journal_replay e, a.0, a.1)

  awakeable_to : CallLeads s ask.Awakeable p made q → MoveLeads (making_awakeable s (skips_replay s.options.journal_replay) p.derived) p made q
  awakeable_to (enabled, fits, is) = subst (λ b. MoveLeads (making_awakeable s b p.derived) p made q) (sym (ap skips_replay enabled)) (closed (λ o. awakeable_made s o p.derived) (missing_signals 1 1 p.derived.counters) p made q fits is)

  -- ---- awaits

  id_is : (result : NotificationResult) (id : List ℕ) → id_of_result result ≡ Some id → result ≡ found.InvocationId id
  id_is (found.InvocationId known) id e = ap found.InvocationId (same_Some _ _ e)
  id_is found.Void id e = absurd (cc)
  id_is (found.Value bytes) id e = absurd (cc)
  id_is (found.Failure failure) id e = absurd (cc)
  id_is (found.StateKeys keys) id e = absurd (cc)

  awaiting_from : (b : Bool) → MoveLeads (awaiting b p.derived) p made q → AwaitLeads s false b p made q
  awaiting_from true h = h
  awaiting_from false h = h

  awaiting_to : (b : Bool) → AwaitLeads s false b p made q → MoveLeads (awaiting b p.derived) p made q
  awaiting_to true h = h
  awaiting_to false h = h

  -- the result that a handle has
  abbrev present : ℕ → Option NotificationResult
  present handle = present_result_for s.options.signal_delivery (id_at handle p.derived.handles) (ready_in s p.derived)

  -- the id of this call, between these, is known
  abbrev Knows : List TrackedCall → Type 0
  Knows ts = GetsAnswer [] (record p.derived { tracked = ts }) p made q

  module _ (front : List TrackedCall) (t : TrackedCall) (back : List TrackedCall) (same : p.derived.tracked ≡ front ++ t ∷ back) (known : AreKnown front) (none : t.invocation_id ≡ None) where
    next_is : (id : List ℕ) → with_next_id id p.derived.tracked ≡ front ++ told id t ∷ back
    next_is id = ap (with_next_id id) same ∙ next_at id front t back known none

    read_from : (result : NotificationResult) (o : Option (List ℕ)) → id_of_result result ≡ o → MoveLeads (id_read o p.derived) p made q → IdLeads (Some result) front t.handle back p made q
    read_from result None e h = absurd h
    read_from result (Some id) e h = (id, id_is result id e, subst Knows (next_is id) h)

    ids_from : (o : Option NotificationResult) → MoveLeads (id_awaited o p.derived) p made q → IdLeads o front t.handle back p made q
    ids_from None h = h
    ids_from (Some result) h = read_from result (id_of_result result) refl h

    ids_to : (o : Option NotificationResult) → IdLeads o front t.handle back p made q → MoveLeads (id_awaited o p.derived) p made q
    ids_to None h = h
    ids_to (Some result) (id, is, h) = subst (λ o. MoveLeads (id_read o p.derived) p made q) (sym (ap id_of_result is)) (subst Knows (sym (next_is id)) h)

  -- the cancel signal is sent to this invocation, and these calls stay tracked
  abbrev Sends : List ℕ → List TrackedCall → Type 0
  Sends id ts = MakesCommand s (cancel_invocation_command id) p.derived [] (record (counted 0 p.derived) { tracked = ts }) p made q

  sent_from : (t : TrackedCall) (ts : List TrackedCall) → p.derived.tracked ≡ t ∷ ts → AreKnown (t ∷ ts) → (o : Option (List ℕ)) → t.invocation_id ≡ o → MoveLeads (cancelling s (if_known o (invocation_ids ts)) p.derived) p made q → CancelLeads s p made q
  sent_from t ts same known None e h =
      let x = known_is t.invocation_id known.0 in
      absurd (let no : Some x.0 ≡ None = sym x.1 ∙ e in cc)
  sent_from t ts same known (Some id) e h =
      let a = opened (λ o. cancel_sent s id o p.derived) (missing_number 0 0 0 p.derived.counters) p made q (λ name x. x) h in
      inr (inl (t, ts, id, same, e, known.1, a.0, subst (Sends id) (ap without_first_call same) a.1))

  tracked_from : (ts : List TrackedCall) → p.derived.tracked ≡ ts → unresolved_handles ts ≡ [] → MoveLeads (cancelling s (invocation_ids ts) p.derived) p made q → CancelLeads s p made q
  tracked_from [] same none h = inr (inr (same, h))
  tracked_from (t ∷ ts) same none h = sent_from t ts same (all_known (t ∷ ts) none) t.invocation_id refl h

  cancel_from : (hs : List ℕ) → unresolved_handles p.derived.tracked ≡ hs → MoveLeads (cancelled s hs p.derived) p made q → CancelLeads s p made q
  cancel_from [] none h = tracked_from p.derived.tracked refl none h
  cancel_from (handle ∷ hs) is h =
      let x = split p.derived.tracked handle hs is in
      inl (x.0, x.1, x.2, x.3, x.4, x.5, ids_from x.0 x.1 x.2 x.3 x.4 x.5 (present x.1.handle) (subst (λ n. MoveLeads (id_awaited (present n) p.derived) p made q) (sym x.6) h))

  -- an await of a cancelled handler, by these handles and ids
  abbrev Cancels : List ℕ → Type 0
  Cancels hs = MoveLeads (cancelled s hs p.derived) p made q

  abbrev CancelsAll : List (List ℕ) → Type 0
  CancelsAll ids = MoveLeads (cancelling s ids p.derived) p made q

  cancel_to : CancelLeads s p made q → Cancels (unresolved_handles p.derived.tracked)
  cancel_to (inl (front, t, back, same, known, none, h)) = subst Cancels (sym (ap unresolved_handles same ∙ unresolved_at front t back known none)) (ids_to front t back same known none (present t.handle) h)
  cancel_to (inr (inl (t, ts, id, same, known, others, fits, makes))) =
      let sent = closed (λ o. cancel_sent s id o p.derived) (missing_number 0 0 0 p.derived.counters) p made q fits (subst (Sends id) (sym (ap without_first_call same)) makes) in
      let ids : invocation_ids p.derived.tracked ≡ id ∷ invocation_ids ts = ap invocation_ids same ∙ ap (λ o. if_known o (invocation_ids ts)) known in
      let none : unresolved_handles p.derived.tracked ≡ [] = ap unresolved_handles same ∙ none_unresolved (t ∷ ts) (ap is_some known, others) in
      subst Cancels (sym none) (subst CancelsAll (sym ids) sent)
  cancel_to (inr (inr (same, h))) = subst Cancels (sym (ap unresolved_handles same)) (subst CancelsAll (sym (ap invocation_ids same)) h)

  await_from : (b : Bool) (future : UnresolvedFuture) → MoveLeads (awaited s b future p.derived) p made q → AwaitLeads s b (is_awake s future p.derived) p made q
  await_from true future h = cancel_from (unresolved_handles p.derived.tracked) refl h
  await_from false future h = awaiting_from (is_awake s future p.derived) h

  await_to : (b : Bool) (future : UnresolvedFuture) → AwaitLeads s b (is_awake s future p.derived) p made q → MoveLeads (awaited s b future p.derived) p made q
  await_to true future h = cancel_to h
  await_to false future h = awaiting_to (is_awake s future p.derived) h

  -- ---- takes

  -- the calls that are tracked once this value was taken
  abbrev Notes : NotificationHandle → Value → List TrackedCall → Type 0
  Notes handle v tracked =
      ((is_tracked handle.0 p.derived.tracked ≡ false) × (tracked ≡ p.derived.tracked)) ⊎ ((known : List ℕ) × (is_tracked handle.0 p.derived.tracked ≡ true) × (v ≡ values.InvocationId known) × (tracked ≡ with_invocation_id handle.0 known p.derived.tracked))

  value_is : (v : Value) (id : List ℕ) → id_of_value v ≡ Some id → v ≡ values.InvocationId id
  value_is (values.InvocationId known) id e = ap values.InvocationId (same_Some _ _ e)
  value_is values.Void id e = absurd (cc)
  value_is (values.Success bytes) id e = absurd (cc)
  value_is (values.Failure failure) id e = absurd (cc)
  value_is (values.StateKeys keys) id e = absurd (cc)

  -- by whether the call is tracked, and the id that the value is
  abbrev noted : NotificationHandle → Bool → Option (List ℕ) → Option (List TrackedCall)
  noted handle b o = if b then option_map (λ known. with_invocation_id handle.0 known p.derived.tracked) o else Some p.derived.tracked

  notes_from : (handle : NotificationHandle) (v : Value) (tracked : List TrackedCall) (b : Bool) → is_tracked handle.0 p.derived.tracked ≡ b → (o : Option (List ℕ)) → id_of_value v ≡ o → noted handle b o ≡ Some tracked → Notes handle v tracked
  notes_from handle v tracked false e o is h = inl (e, sym (same_Some _ _ h))
  notes_from handle v tracked true e None is h = none_some h
  notes_from handle v tracked true e (Some id) is h = inr (id, e, value_is v id is, sym (same_Some _ _ h))

  notes_to : (handle : NotificationHandle) (v : Value) (tracked : List TrackedCall) → Notes handle v tracked → id_noted handle.0 (id_of_value v) p.derived.tracked ≡ Some tracked
  notes_to handle v tracked (inl (e, same)) = ap (λ b. noted handle b (id_of_value v)) e ∙ ap Some (sym same)
  notes_to handle v tracked (inr (id, e, is, same)) = (λ i. noted handle (e i) (id_of_value (is i))) ∙ ap Some (sym same)

  noted_from : (handle : NotificationHandle) (id : NotificationId) (result : NotificationResult) (value : Value) → value_of result ≡ Some value → (o : Option (List TrackedCall)) → id_noted handle.0 (id_of_value value) p.derived.tracked ≡ o → MoveLeads (take_noting_id handle id value o p.derived) p made q → TakeLeads handle.0 (Some id) (Some result) p made q
  noted_from handle id result value v None e h = absurd h
  noted_from handle id result value v (Some tracked) e h = (value, tracked, v, notes_from handle value tracked (is_tracked handle.0 p.derived.tracked) refl (id_of_value value) refl e, h)

  value_from : (handle : NotificationHandle) (id : NotificationId) (result : NotificationResult) (o : Option Value) → value_of result ≡ o → MoveLeads (take_of_value handle id o p.derived) p made q → TakeLeads handle.0 (Some id) (Some result) p made q
  value_from handle id result None v h = absurd h
  value_from handle id result (Some value) v h = noted_from handle id result value v (id_noted handle.0 (id_of_value value) p.derived.tracked) refl h

  take_from : (handle : NotificationHandle) (id : Option NotificationId) (o : Option NotificationResult) → MoveLeads (take_of_result handle id o p.derived) p made q → TakeLeads handle.0 id o p made q
  take_from handle (Some id) (Some result) h = value_from handle id result (value_of result) refl h
  take_from handle (Some id) None h = h
  take_from handle None o h = h

  take_to : (handle : NotificationHandle) (id : Option NotificationId) (o : Option NotificationResult) → TakeLeads handle.0 id o p made q → MoveLeads (take_of_result handle id o p.derived) p made q
  take_to handle (Some id) (Some result) (value, tracked, v, notes, h) =
      subst (λ o. MoveLeads (take_of_value handle id o p.derived) p made q) (sym v) (subst (λ o. MoveLeads (take_noting_id handle id value o p.derived) p made q) (sym (notes_to handle value tracked notes)) h)
  take_to handle (Some id) None h = h
  take_to handle None o h = h

-- ---- whether a handle has a result

found_newest : (x : NotificationResult) (xs : List NotificationResult) → true ≡ is_some (newest_after (Some x) xs)
found_newest x [] = refl
found_newest x (y ∷ ys) = found_newest y ys

picked : (b : Bool) (xs : List NotificationResult) → is_some (first xs) ≡ is_some (cond b (first xs) (newest xs))
picked true xs = refl
picked false [] = refl
picked false (x ∷ xs) = found_newest x xs

some_of : (a b : Option NotificationResult) → (is_some a || is_some b) ≡ is_some (option_or a b)
some_of None b = refl
some_of (Some x) b = refl

among : (delivery : SignalDelivery) (id : NotificationId) (ns : List Notification) → has_result_among id ns ≡ is_some (present_among delivery id ns)
among delivery id ns = has_is id ns (first (results_of id ns)) refl ∙ picked (is_listed delivery id) (results_of id ns)

has_present : (delivery : SignalDelivery) (o : Option NotificationId) (r : Ready) → has_result_for o r ≡ is_some (present_result_for delivery o r)
has_present delivery None r = refl
has_present delivery (Some id) r = (λ i. among delivery id r.delivered i || among delivery id r.eager i) ∙ some_of (present_among delivery id r.delivered) (present_among delivery id r.eager)

-- ---- all calls

completed_same : (s : Setup) (handle : NotificationHandle) (p : Stage) → has_result_for (id_at handle.0 p.derived.handles) (ready_in s p.derived) ≡ is_some (present_result_for s.options.signal_delivery (id_at handle.0 p.derived.handles) (ready_in s p.derived))
completed_same s handle p = has_present s.options.signal_delivery (id_at handle.0 p.derived.handles) (ready_in s p.derived)

-- only a call with a deadline has two commands
abbrev IsDeadline : Ask → Type 0
IsDeadline (ask.Commands kind one two) = kind ≡ kinds.CallWithDeadline
IsDeadline a = Unit {0}

asks_deadline : (v : Version) (st : Step) → IsDeadline (ask_of v st)
asks_deadline v (step.CallWithDeadline target input time name options) = refl
asks_deadline v st = tt

call_from : (s : Setup) (a : Ask) (p : Stage) (made : List RawMessage) (q : Stage) → IsDeadline a → MoveLeads (asked s a p.derived) p made q → CallLeads s a p made q
call_from s (ask.Command c) p made q d h = command_from s p made q c h
call_from s (ask.Commands kind one two) p made q d h = part_from s p made q one two p.derived.parts (subst (λ k. MoveLeads (calling s k one (two ∷ []) p.derived) p made q) d h)
call_from s (ask.Read r) p made q d h = opened (λ o. reading r o p.derived) (missing_number 1 0 1 p.derived.counters) p made q (λ name x. x) h
call_from s ask.Awakeable p made q d h = awakeable_from s p made q (skips_replay s.options.journal_replay) refl h
call_from s (ask.Signal name) p made q d h = opened (λ o. signal_made name o p.derived) (missing_signals 0 1 p.derived.counters) p made q (λ fault x. x) h
call_from s (ask.Await future) p made q d h = await_from s p made q (is_cancelled_in s p.derived) future h
call_from s (ask.Take handle) p made q d h = take_from s p made q handle (id_at handle.0 p.derived.handles) (present_result_for s.options.signal_delivery (id_at handle.0 p.derived.handles) (ready_in s p.derived)) h
call_from s (ask.Completed handle) p made q d h = subst (λ b. GetsAnswer (answer.Completed b ∷ []) p.derived p made q) (completed_same s handle p) h
call_from s ask.End p made q d h = h

call_to : (s : Setup) (a : Ask) (p : Stage) (made : List RawMessage) (q : Stage) → IsDeadline a → CallLeads s a p made q → MoveLeads (asked s a p.derived) p made q
call_to s (ask.Command c) p made q d h = command_to s p made q c h
call_to s (ask.Commands kind one two) p made q d h = subst (λ k. MoveLeads (calling s k one (two ∷ []) p.derived) p made q) (sym d) (part_to s p made q one two p.derived.parts h)
call_to s (ask.Read r) p made q d (fits, makes) = closed (λ o. reading r o p.derived) (missing_number 1 0 1 p.derived.counters) p made q fits makes
call_to s ask.Awakeable p made q d h = awakeable_to s p made q h
call_to s (ask.Signal name) p made q d (fits, is) = closed (λ o. signal_made name o p.derived) (missing_signals 0 1 p.derived.counters) p made q fits is
call_to s (ask.Await future) p made q d h = await_to s p made q (is_cancelled_in s p.derived) future h
call_to s (ask.Take handle) p made q d h = take_to s p made q handle (id_at handle.0 p.derived.handles) (present_result_for s.options.signal_delivery (id_at handle.0 p.derived.handles) (ready_in s p.derived)) h
call_to s (ask.Completed handle) p made q d h = subst (λ b. GetsAnswer (answer.Completed b ∷ []) p.derived p made q) (sym (completed_same s handle p)) h
call_to s ask.End p made q d h = h

calls_from : (s : Setup) (m : Meaning) (n : ℕ) (p : Stage) (made : List RawMessage) (q : Stage) → TableLeads s m n p made q → MovesLead s m n p made q
calls_from s m zero p made q h = h
calls_from s m (suc n) p made q (one, r, rest, is, leads, further) = (one, r, rest, is, call_from s (ask_of s.version (m p.answers)) p one r (asks_deadline s.version (m p.answers)) leads, calls_from s m n r rest q further)

calls_to : (s : Setup) (m : Meaning) (n : ℕ) (p : Stage) (made : List RawMessage) (q : Stage) → MovesLead s m n p made q → TableLeads s m n p made q
calls_to s m zero p made q h = h
calls_to s m (suc n) p made q (one, r, rest, is, leads, further) = (one, r, rest, is, call_to s (ask_of s.version (m p.answers)) p one r (asks_deadline s.version (m p.answers)) leads, calls_to s m n r rest q further)

-- ---- journals

framed : (o : Option RawMessage) (rs fs : List RawMessage) → rs ≡ fs → framed_by o rs ≡ cons_option o fs
framed None rs fs is = is
framed (Some raw) rs fs is = ap (λ l. raw ∷ l) is

frames_same : (journal : List (List ℕ)) → journal_frames journal ≡ filter_map frame_in journal
frames_same [] = refl
frames_same (bytes ∷ journal) = framed (frame_in bytes) (journal_frames journal) (filter_map frame_in journal) (frames_same journal)

filtered : (raws : List RawMessage) → commands_among raws ≡ filter (λ raw. is_command raw.ty) raws
filtered [] = refl
filtered (raw ∷ raws) = ap (λ l. cond (is_command raw.ty) (raw ∷ l) l) (filtered raws)

-- the notification that a frame is
abbrev note : RawMessage → Option Notification
note raw = cond (type_number raw.ty == 30) (notification_in raw.body) None

noted_by : (b : Bool) (o : Option Notification) (ns fs : List Notification) → ns ≡ fs → cond b (notified_by o ns) ns ≡ cons_option (cond b o None) fs
noted_by true None ns fs is = is
noted_by true (Some n) ns fs is = ap (λ l. n ∷ l) is
noted_by false o ns fs is = is

notes_filtered : (raws : List RawMessage) → notifications_among raws ≡ filter_map note raws
notes_filtered [] = refl
notes_filtered (raw ∷ raws) = noted_by (type_number raw.ty == 30) (notification_in raw.body) (notifications_among raws) (filter_map note raws) (notes_filtered raws)

commands_are : (journal : List (List ℕ)) → commands_in (journal_entries journal) ≡ filter (λ raw. is_command raw.ty) (filter_map frame_in journal)
commands_are journal = commands_same (journal_frames journal) ∙ filtered (journal_frames journal) ∙ ap (filter (λ (raw : RawMessage). is_command raw.ty)) (frames_same journal)

notes_are_so : (journal : List (List ℕ)) → notifications_in (journal_entries journal) ≡ filter_map note (filter_map frame_in journal)
notes_are_so journal = notes_same (journal_frames journal) ∙ notes_filtered (journal_frames journal) ∙ ap (filter_map note) (frames_same journal)

input_by : (raw : RawMessage) (input : InputCommand) (b : Bool) → (type_number raw.ty == type_number type.InputCommand) ≡ b → (if b then input_in raw.body else None) ≡ Some input → (type_number raw.ty ≡ type_number type.InputCommand) × (input_in raw.body ≡ Some input)
input_by raw input true e h = (eqb-true (type_number raw.ty) (type_number type.InputCommand) e, h)
input_by raw input false e h = none_some h

pub run_of : (m : Meaning) (w : Setting) (journal : List (List ℕ)) → IsOneExecution m w journal → IsOneRun (setup_of w) m (Honest (base_of w)) (journal_entries journal)
run_of m w journal h =
    let s = setup_of w in
    let p = start s h.input (filter_map note (filter_map frame_in journal)) [] in
    let on = runs s m (base_of w) (base_in_order w) h.moves p.answers p.derived [] p.queue h.rest h.at (calls_to s m h.moves (stage_of (base_of w) p) h.rest h.at h.made) in
    record {
      first = h.first;
      input = h.input;
      reads = ap (λ b. if b then input_in h.first.body else None) (eq-eqb (type_number h.first.ty) (type_number type.InputCommand) h.is_input) ∙ h.reads;
      rest = h.rest;
      begins = commands_are journal ∙ h.begins;
      moves = h.moves;
      at = on.0;
      made = subst (λ ns. Made s m (Honest (base_of w)) h.moves (start s h.input ns []) h.rest on.0) (sym (notes_are_so journal)) on.1;
    }

pub execution_of : (m : Meaning) (w : Setting) (journal : List (List ℕ)) → IsOneRun (setup_of w) m (Honest (base_of w)) (journal_entries journal) → IsOneExecution m w journal
execution_of m w journal h =
    let s = setup_of w in
    let p = start s h.input (filter_map note (filter_map frame_in journal)) [] in
    let input = input_by h.first h.input (type_number h.first.ty == type_number type.InputCommand) refl h.reads in
    record {
      first = h.first;
      input = h.input;
      is_input = input.0;
      reads = input.1;
      rest = h.rest;
      begins = sym (commands_are journal) ∙ h.begins;
      moves = h.moves;
      at = stage_of (base_of w) h.at;
      made = calls_from s m h.moves (stage_of (base_of w) p) h.rest (stage_of (base_of w) h.at)
          (executes s m (base_of w) h.moves p.answers p.derived [] p.queue h.rest h.at (subst (λ ns. Made s m (Honest (base_of w)) h.moves (start s h.input ns []) h.rest h.at) (notes_are_so journal) h.made));
    }
