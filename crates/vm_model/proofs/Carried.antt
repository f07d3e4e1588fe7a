-- No completion id has two results where each came once, for an id that a used command carries: an eager read has an id of its own.
use Rattle.std.proofs.Common.{◌≡◌, ◌⊎◌, ◌<◌, ◌≤◌, ℕ, zero, suc, ◌+◌, Bool, true, false, cond, ◌||◌, ◌&&◌, List, [], ◌∷◌, ◌++◌, length, Option, Some, None, refl, sym, ap, ◌∙◌, subst, inl, inr, ⊎_elim, append_assoc, append-nil, length-append, arith}
use native.Mathlib.Nat.{add-zero}
use Rattle.std.specs.Prelude.{◌==◌, nat_eq, if◌then◌else◌, Result, Ok, Err}
use Rattle.std.specs.Cmp.Lexicographic.{pointwise}
use Rattle.std.proofs.lemmas.Bool.{eqb-true}
use Rattle.std.proofs.lemmas.List.{append_cancel_right}
use Rattle.std.proofs.lemmas.Option.{same_Some}
use Rattle.await_arrivals.specs.Results.{results_of}
use Rattle.await_arrivals.proofs.Awaited.{results-append}
use Rattle.journal_protocol.specs.InputCommand.{InputCommand}
use Rattle.journal_protocol.specs.CallRequest.{CallRequest}
use Rattle.journal_protocol.specs.NamedFault.{NamedFault}
use Rattle.journal_protocol.specs.NamedFault.TheVariants as fault
use Rattle.journal_protocol.specs.MessageType.{MessageType}
use Rattle.journal_protocol.specs.MessageType.TheVariants as type
use Rattle.journal_protocol.specs.Types.{type_number}
use Rattle.journal_protocol.specs.Equality.{header_equal, request_equal}
use Rattle.journal_protocol.specs.Message.{Message}
use Rattle.journal_protocol.specs.Message.TheVariants as message
use Rattle.journal_protocol.specs.RawMessage.{RawMessage}
use Rattle.journal_protocol.specs.Frames.{type_of}
use Rattle.journal_protocol.specs.Bodies.{message_in}
use Rattle.journal_protocol.proofs.Facts.{type_read, one_number}
use Rattle.journal_protocol.specs.Notification.{Notification}
use Rattle.journal_protocol.specs.NotificationId.{NotificationId}
use Rattle.journal_protocol.specs.NotificationId.TheVariants.{CompletionId}
use Rattle.journal_protocol.specs.NotificationResult.{NotificationResult}
use Rattle.vm_types.specs.declared.steps.Answer.{Answer}
use Rattle.vm_types.specs.declared.steps.Step.{Step}
use Rattle.vm_types.specs.declared.steps.Step.TheVariants as step
use Rattle.journal_protocol.specs.Version.{Version}
use Rattle.await_trees.specs.declared.handle.NotificationHandle.{NotificationHandle}
use Rattle.await_trees.specs.declared.tree.UnresolvedFuture.{UnresolvedFuture}
use Rattle.vm_state.specs.declared.tracked_call.TrackedCall.{TrackedCall}
use Rattle.vm_types.specs.declared.values.Value.{Value}
use Rattle.vm_state.specs.Counting.{missing_number, missing_signals}
use Rattle.vm_parts.specs.Deliveries.{id_at, present_result_for, same_id}
use Rattle.vm_parts.specs.Tracked.{id_of_result, invocation_ids, id_noted, unresolved_handles}
use Rattle.vm_types.specs.Values.{id_of_value, value_of}
use Rattle.vm_asks.specs.declared.asks.Ask.{Ask}
use Rattle.vm_asks.specs.declared.asks.Ask.TheVariants as ask
use Rattle.vm_asks.specs.declared.asks.AnswerKind.{AnswerKind}
use Rattle.vm_asks.specs.declared.command.Command.{Command}
use Rattle.vm_asks.specs.declared.state_read.StateRead.{StateRead}
use Rattle.vm_asks.specs.declared.state_read.StateRead.TheVariants as reads
use Rattle.vm_asks.specs.Asks.{answer_by, ask_of, cancel_invocation_command}
use Rattle.vm_asks.specs.StateReads.{eager_form, eager_type, lazy_form, lazy_type, read_in_form, read_by, recorded_as, result_in}
use Rattle.vm_asks.specs.Requests.{ids_of, with_ids}
use Rattle.vm_model.specs.Calls.{Derived, Demand, Meaning, Move, Setup, Usage, asked, awaited, awakeable_made, awaiting, cancel_sent, with_cancel_taken, cancelled, cancelling, commanding, id_awaited, id_read, is_awake, is_cancelled_in, making_awakeable, numbered, reading, ready_in, take_of_result, signal_made, take_noting_id, take_of_value, Turn, behind_command, refused_before, turn_after}
use Rattle.vm_types.specs.Options.{ignores_payloads, skips_replay}
use Rattle.vm_model.specs.Calls.Demand.{Exactly, Reads}
use Rattle.vm_model.specs.Calls.Move.{Answers, Needs, Awaits, Ends, Refuses}
use Rattle.vm_model.specs.Calls.Usage.{Used, Read, Taken}
use Rattle.vm_asks.specs.Carried.{carried}
use Rattle.vm_model.specs.Carried.{AreCarried, ComeOnce, is_id_among, is_carried, read_carries}
use Rattle.vm_model.specs.Deliveries.{HasNoTwo, deliveries, was_read}
use Rattle.vm_model.specs.Moves.{Point, after, and_then, with_read_result, command_used, found, move_at, moved, next, reads_as, start, uses_arrival, uses_command}
use Rattle.vm_model.specs.Uses.{arrivals_in, needed_for}
use Rattle.vm_model.proofs.Parts.{IsOfOne, next_keeps, next_turn, turn_splits}
use Rattle.vm_model.proofs.Parted.{PartMove, WasUsed, part_moves}
use Rattle.vm_model.proofs.Parted.PartMove.{More, Last}
use Rattle.vm_model.proofs.Results.{results_behind}
use Rattle.vm_model.proofs.Runs.{and_then_some, none_some}
use Rattle.vm_model.proofs.Uses.{arrivals_used}

-- ---- tests

pub both : (a b : Bool) → (a && b) ≡ true → (a ≡ true) × (b ≡ true)
both true b e = (refl, e)
both false b e = absurd (cc)

neither : (a b : Bool) → a ≡ false → b ≡ false → (a || b) ≡ false
neither true b x y = absurd (cc)
neither false b x y = y

one_of : (a b : Bool) → (a || b) ≡ true → (a ≡ true) ⊎ (b ≡ true)
one_of true b e = inl refl
one_of false b e = inr e

-- ---- header-equal commands carry the same ids

-- commands of this type carry ids
carries_ids : MessageType → Bool
carries_ids type.SleepCommand = true
carries_ids type.GetLazyStateCommand = true
carries_ids type.GetLazyStateKeysCommand = true
carries_ids type.CallCommand = true
carries_ids type.OneWayCallCommand = true
carries_ids type.GetPromiseCommand = true
carries_ids type.PeekPromiseCommand = true
carries_ids type.CompletePromiseCommand = true
carries_ids type.RunCommand = true
carries_ids type.AttachInvocationCommand = true
carries_ids type.GetInvocationOutputCommand = true
carries_ids ty = false

carries_none : (m : Message) → carries_ids (type_of m) ≡ false → carried m ≡ []
unfolding carries_ids
carries_none (message.Sleep c) e = absurd (cc)
carries_none (message.GetLazyState c) e = absurd (cc)
carries_none (message.GetLazyStateKeys c) e = absurd (cc)
carries_none (message.Call c) e = absurd (cc)
carries_none (message.OneWayCall c) e = absurd (cc)
carries_none (message.GetPromise c) e = absurd (cc)
carries_none (message.PeekPromise c) e = absurd (cc)
carries_none (message.CompletePromise c) e = absurd (cc)
carries_none (message.Run c) e = absurd (cc)
carries_none (message.AttachInvocation c) e = absurd (cc)
carries_none (message.GetInvocationOutput c) e = absurd (cc)
carries_none m e = refl

-- an input carries none
pub input_carries : (m : Message) → type_of m ≡ type.InputCommand → carried m ≡ []
unfolding carries_ids
input_carries m e = carries_none m (ap carries_ids e)

one_id : (a b : ℕ) → (a == b) ≡ true → a ∷ [] ≡ b ∷ []
one_id a b e = ap (λ id. id ∷ []) (eqb-true a b e)

pub same_request : (ignore : Bool) (a b : CallRequest) → request_equal ignore a b ≡ true → a.invocation_id_notification_idx ≡ b.invocation_id_notification_idx
same_request ignore a b e = eqb-true a.invocation_id_notification_idx b.invocation_id_notification_idx (both _ (a.invocation_id_notification_idx == b.invocation_id_notification_idx) (both _ (pointwise nat_eq a.name b.name) e).0).1

same_carried : (m n : Message) (ignore : Bool) → type_of n ≡ type_of m → header_equal n m ignore ≡ true → carried n ≡ carried m
unfolding header_equal carries_ids
same_carried (message.Sleep b) (message.Sleep a) ignore is e = one_id a.result_completion_id b.result_completion_id (both _ _ e).0
same_carried (message.GetLazyState b) (message.GetLazyState a) ignore is e = one_id a.result_completion_id b.result_completion_id (both _ _ e).1
same_carried (message.GetLazyStateKeys b) (message.GetLazyStateKeys a) ignore is e = one_id a.result_completion_id b.result_completion_id (both _ _ e).0
same_carried (message.Call b) (message.Call a) ignore is e =
    let t = both (request_equal ignore a.request b.request) (a.result_completion_id == b.result_completion_id) e in
    (λ i. same_request ignore a.request b.request t.0 i ∷ eqb-true a.result_completion_id b.result_completion_id t.1 i ∷ [])
same_carried (message.OneWayCall b) (message.OneWayCall a) ignore is e = ap (λ id. id ∷ []) (same_request ignore a.request b.request e)
same_carried (message.GetPromise b) (message.GetPromise a) ignore is e = one_id a.result_completion_id b.result_completion_id (both _ _ e).1
same_carried (message.PeekPromise b) (message.PeekPromise a) ignore is e = one_id a.result_completion_id b.result_completion_id (both _ _ e).1
same_carried (message.CompletePromise b) (message.CompletePromise a) ignore is e = one_id a.result_completion_id b.result_completion_id (both _ _ e).1
same_carried (message.Run b) (message.Run a) ignore is e = one_id a.result_completion_id b.result_completion_id (both _ _ e).1
same_carried (message.AttachInvocation b) (message.AttachInvocation a) ignore is e = one_id a.result_completion_id b.result_completion_id (both _ _ e).1
same_carried (message.GetInvocationOutput b) (message.GetInvocationOutput a) ignore is e = one_id a.result_completion_id b.result_completion_id (both _ _ e).1
same_carried (message.Sleep b) n ignore is e = absurd (cc)
same_carried (message.GetLazyState b) n ignore is e = absurd (cc)
same_carried (message.GetLazyStateKeys b) n ignore is e = absurd (cc)
same_carried (message.Call b) n ignore is e = absurd (cc)
same_carried (message.OneWayCall b) n ignore is e = absurd (cc)
same_carried (message.GetPromise b) n ignore is e = absurd (cc)
same_carried (message.PeekPromise b) n ignore is e = absurd (cc)
same_carried (message.CompletePromise b) n ignore is e = absurd (cc)
same_carried (message.Run b) n ignore is e = absurd (cc)
same_carried (message.AttachInvocation b) n ignore is e = absurd (cc)
same_carried (message.GetInvocationOutput b) n ignore is e = absurd (cc)
same_carried m n ignore is e = carries_none n (ap carries_ids is)

-- ---- a command carries the ids that it was given

given_one : (id i : ℕ) → ((id == i) || false) ≡ true → (id ≤ i) × (i < id + 1)
given_one id i e = ⊎_elim
    (λ (t : (id == i) ≡ true). let is = eqb-true id i t in (omega (arith, is), omega (arith, is)))
    (λ (t : false ≡ true). absurd (cc))
    (one_of (id == i) false e)

given_two : (id i : ℕ) → ((id == i) || ((id + 1 == i) || false)) ≡ true → (id ≤ i) × (i < id + 2)
given_two id i e = ⊎_elim
    (λ (t : (id == i) ≡ true). let is = eqb-true id i t in (omega (arith, is), omega (arith, is)))
    (λ (t : ((id + 1 == i) || false) ≡ true). let h = given_one (id + 1) i t in (omega (arith, h.0), omega (arith, h.1)))
    (one_of (id == i) ((id + 1 == i) || false) e)

carried_given : (id : ℕ) (m : Message) (i : ℕ) → is_id_among i (carried (with_ids id m)) ≡ true → (id ≤ i) × (i < id + ids_of m)
carried_given id (message.Sleep c) i e = given_one id i e
carried_given id (message.GetLazyState c) i e = given_one id i e
carried_given id (message.GetLazyStateKeys c) i e = given_one id i e
carried_given id (message.Call c) i e = given_two id i e
carried_given id (message.OneWayCall c) i e = given_one id i e
carried_given id (message.GetPromise c) i e = given_one id i e
carried_given id (message.PeekPromise c) i e = given_one id i e
carried_given id (message.CompletePromise c) i e = given_one id i e
carried_given id (message.Run c) i e = given_one id i e
carried_given id (message.AttachInvocation c) i e = given_one id i e
carried_given id (message.GetInvocationOutput c) i e = given_one id i e
carried_given id m i e = absurd (cc)

-- ---- what was read of a completion id

-- how many eager reads gave the id a result
unfoldable pub reads_at : ℕ → List Usage → ℕ
reads_at i [] = 0
reads_at i (Used n ∷ us) = reads_at i us
reads_at i (Read id result ∷ us) = cond (id == i) (suc (reads_at i us)) (reads_at i us)
reads_at i (Taken id ∷ us) = reads_at i us

none_was_read : (i : ℕ) (us : List Usage) → was_read i us ≡ false → reads_at i us ≡ 0
unfolding reads_at
none_was_read i [] e = refl
none_was_read i (Used n ∷ us) e = none_was_read i us e
none_was_read i (Read id result ∷ us) e = by_test (id == i) e (none_was_read i us)
  where
    by_test : (b : Bool) → (b || was_read i us) ≡ false → (was_read i us ≡ false → reads_at i us ≡ 0) → cond b (suc (reads_at i us)) (reads_at i us) ≡ 0
    by_test true h ih = absurd (let z : true ≡ false = h in cc)
    by_test false h ih = ih h
none_was_read i (Taken id ∷ us) e = none_was_read i us e

-- what came for a completion id was read or delivered
came : (i : ℕ) (us : List Usage) → length (deliveries (CompletionId i) us) ≡ reads_at i us + length (results_of (CompletionId i) (arrivals_in us))
unfolding reads_at
came i [] = refl
came i (Used n ∷ us) = rw (results_behind (CompletionId i) (arrivals_in us) n) (by_test (same_id n.id (CompletionId i)) (came i us))
  where
    by_test : (b : Bool) → length (deliveries (CompletionId i) us) ≡ reads_at i us + length (results_of (CompletionId i) (arrivals_in us))
        → length (cond b (deliveries (CompletionId i) us ++ n.result ∷ []) (deliveries (CompletionId i) us)) ≡ reads_at i us + length (cond b (results_of (CompletionId i) (arrivals_in us) ++ n.result ∷ []) (results_of (CompletionId i) (arrivals_in us)))
    by_test true ih = rw (length-append (deliveries (CompletionId i) us) (n.result ∷ []), length-append (results_of (CompletionId i) (arrivals_in us)) (n.result ∷ [])) (omega (arith, ih))
    by_test false ih = ih
came i (Read id result ∷ us) = by_test (id == i) (came i us)
  where
    by_test : (b : Bool) → length (deliveries (CompletionId i) us) ≡ reads_at i us + length (results_of (CompletionId i) (arrivals_in us))
        → length (cond b (deliveries (CompletionId i) us ++ result ∷ []) (deliveries (CompletionId i) us)) ≡ cond b (suc (reads_at i us)) (reads_at i us) + length (results_of (CompletionId i) (arrivals_in us))
    by_test true ih = rw (length-append (deliveries (CompletionId i) us) (result ∷ [])) (omega (arith, ih))
    by_test false ih = ih
came i (Taken id ∷ us) = came i us

-- ---- how many ids a recorded command stands for

-- the type is that of an eager read
abbrev pub is_eager : MessageType → Bool
is_eager type.GetEagerStateCommand = true
is_eager type.GetEagerStateKeysCommand = true
is_eager ty = false

-- how many completion ids a call takes whose command is of this type
abbrev pub ids_by : MessageType → ℕ
ids_by type.SleepCommand = 1
ids_by type.GetLazyStateCommand = 1
ids_by type.GetLazyStateKeysCommand = 1
ids_by type.GetEagerStateCommand = 1
ids_by type.GetEagerStateKeysCommand = 1
ids_by type.CallCommand = 2
ids_by type.OneWayCallCommand = 1
ids_by type.GetPromiseCommand = 1
ids_by type.PeekPromiseCommand = 1
ids_by type.CompletePromiseCommand = 1
ids_by type.RunCommand = 1
ids_by type.AttachInvocationCommand = 1
ids_by type.GetInvocationOutputCommand = 1
ids_by ty = 0

-- and of several
abbrev pub ids_given : List RawMessage → ℕ
ids_given [] = 0
ids_given (c ∷ cs) = ids_by c.ty + ids_given cs

-- a command that is no eager read
abbrev IsPlain : Command → Type 0
IsPlain c = is_eager (type_of c.message) ≡ false

abbrev AsksPlain : Ask → Type 0
AsksPlain (ask.Command c) = IsPlain c
AsksPlain (ask.Commands kind first second) = IsPlain first × IsPlain second
AsksPlain a = Unit {0}

asks_plain : (version : Version) (st : Step) → AsksPlain (ask_of version st)
asks_plain version (step.Sleep name wake_up_time now) = refl
asks_plain version (step.StateSet key value name options) = refl
asks_plain version (step.StateClear key name) = refl
asks_plain version (step.StateClearAll name) = refl
asks_plain version (step.StateGet key name options) = tt
asks_plain version (step.StateGetKeys name) = tt
asks_plain version (step.Call target input name options) = refl
asks_plain version (step.CallWithDeadline target input time name options) = (refl, refl)
asks_plain version (step.Send target input time name options) = refl
asks_plain version step.Awakeable = tt
asks_plain version (step.Signal name) = tt
asks_plain version (step.CompleteAwakeable id value options) = refl
asks_plain version (step.CompleteSignal target signal value) = refl
asks_plain version (step.CancelInvocation target) = refl
asks_plain version (step.GetPromise key) = refl
asks_plain version (step.PeekPromise key) = refl
asks_plain version (step.CompletePromise key value options) = refl
asks_plain version (step.Run name) = refl
asks_plain version (step.AttachInvocation target) = refl
asks_plain version (step.GetInvocationOutput target) = refl
asks_plain version (step.WriteOutput value options) = refl
asks_plain version (step.Await future) = tt
asks_plain version (step.Take handle) = tt
asks_plain version (step.Completed handle) = tt
asks_plain version step.End = tt

-- its call's ids by its type
ids_typed : (m : Message) → is_eager (type_of m) ≡ false → ids_of m ≡ ids_by (type_of m)
ids_typed (message.Sleep c) e = refl
ids_typed (message.GetLazyState c) e = refl
ids_typed (message.GetLazyStateKeys c) e = refl
ids_typed (message.Call c) e = refl
ids_typed (message.OneWayCall c) e = refl
ids_typed (message.GetPromise c) e = refl
ids_typed (message.PeekPromise c) e = refl
ids_typed (message.CompletePromise c) e = refl
ids_typed (message.Run c) e = refl
ids_typed (message.AttachInvocation c) e = refl
ids_typed (message.GetInvocationOutput c) e = refl
ids_typed (message.GetEagerState c) e = absurd (let z : true ≡ false = e in cc)
ids_typed (message.GetEagerStateKeys c) e = absurd (let z : true ≡ false = e in cc)
ids_typed m e = refl

typed_ids : (id : ℕ) (m : Message) → type_of (with_ids id m) ≡ type_of m
typed_ids id (message.Sleep c) = refl
typed_ids id (message.GetLazyState c) = refl
typed_ids id (message.GetLazyStateKeys c) = refl
typed_ids id (message.Call c) = refl
typed_ids id (message.OneWayCall c) = refl
typed_ids id (message.GetPromise c) = refl
typed_ids id (message.PeekPromise c) = refl
typed_ids id (message.CompletePromise c) = refl
typed_ids id (message.Run c) = refl
typed_ids id (message.AttachInvocation c) = refl
typed_ids id (message.GetInvocationOutput c) = refl
typed_ids id m = refl

given_append : (us vs : List RawMessage) → ids_given (us ++ vs) ≡ ids_given us + ids_given vs
given_append [] vs = omega arith
given_append (u ∷ us) vs = let x = given_append us vs in omega (arith, x)

-- ---- which of its ids a run has given to what

-- Between two points whose next ids are these: no used command carries the id, and nothing was read for it; or the id was given
-- between them, and a used command carries it or one result was read for it, not both.
abbrev Claim : ℕ → ℕ → ℕ → ℕ → ℕ → List RawMessage → Type 0
Claim i first past old new used =
    ((new ≡ old) × (is_carried i used ≡ false))
    ⊎ ((first ≤ i) × (i < past) × ((new ≡ old) ⊎ ((new ≡ suc old) × (is_carried i used ≡ false))))

record Between (i : ℕ) (p q : Point) (first past : ℕ) : Type 0 where
  used : List RawMessage
  left : p.left ≡ used ++ q.left
  ordered : first ≤ past
  counted : past ≡ first + ids_given used
  claim : Claim i first past (reads_at i p.derived.usage) (reads_at i q.derived.usage) used

none_carried : (i : ℕ) (us vs : List RawMessage) → is_carried i us ≡ false → is_carried i vs ≡ false → is_carried i (us ++ vs) ≡ false
none_carried i [] vs x y = y
none_carried i (u ∷ us) vs x y = by_test (read_carries i (message_in u.ty u.body)) x (none_carried i us vs)
  where
    by_test : (b : Bool) → (b || is_carried i us) ≡ false → (is_carried i us ≡ false → is_carried i vs ≡ false → is_carried i (us ++ vs) ≡ false) → (b || is_carried i (us ++ vs)) ≡ false
    by_test true h ih = absurd (cc)
    by_test false h ih = ih h y

claims_join : (i a b c old mid new : ℕ) (us vs : List RawMessage) → a ≤ b → b ≤ c → Claim i a b old mid us → Claim i b c mid new vs → Claim i a c old new (us ++ vs)
claims_join i a b c old mid new us vs x y (inl h) (inl k) = inl (k.0 ∙ h.0, none_carried i us vs h.1 k.1)
claims_join i a b c old mid new us vs x y (inl h) (inr k) = inr (omega (arith, x, k.0), k.1, within k.2)
  where
    within : (new ≡ mid) ⊎ ((new ≡ suc mid) × (is_carried i vs ≡ false)) → (new ≡ old) ⊎ ((new ≡ suc old) × (is_carried i (us ++ vs) ≡ false))
    within (inl z) = inl (z ∙ h.0)
    within (inr z) = inr (z.0 ∙ ap suc h.0, none_carried i us vs h.1 z.1)
claims_join i a b c old mid new us vs x y (inr h) (inl k) = inr (h.0, omega (arith, y, h.1), within h.2)
  where
    within : (mid ≡ old) ⊎ ((mid ≡ suc old) × (is_carried i us ≡ false)) → (new ≡ old) ⊎ ((new ≡ suc old) × (is_carried i (us ++ vs) ≡ false))
    within (inl z) = inl (k.0 ∙ z)
    within (inr z) = inr (k.0 ∙ z.0, none_carried i us vs z.1 k.1)
claims_join i a b c old mid new us vs x y (inr h) (inr k) = absurd (omega (arith, h.1, k.0))

-- ---- one call

-- what is needed carries just the ids that are given here
abbrev IsOwn : ℕ → ℕ → Demand → Type 0
IsOwn first past (Exactly command ignore) = (m : Message) × (command ≡ with_ids first m) × (past ≡ first + ids_of m) × (is_eager (type_of m) ≡ false)
IsOwn first past (Reads r id) = (id ≡ first) × (past ≡ first + 1)

-- a call reads nothing by itself
abbrev ReadsNone : ℕ → Derived → Move → Type 0
ReadsNone i d (Answers gives e) = (reads_at i e.usage ≡ reads_at i d.usage) × (e.counters.completion ≡ d.counters.completion)
ReadsNone i d (Needs demand gives e) = (reads_at i e.usage ≡ reads_at i d.usage) × IsOwn d.counters.completion e.counters.completion demand
ReadsNone i d Awaits = Unit {0}
ReadsNone i d Ends = Unit {0}
ReadsNone i d (Refuses name) = Unit {0}

module _ (i : ℕ) where
  numbered_none : (s : Setup) (c : Command) (o : Option NamedFault) (d : Derived) → IsPlain c → ReadsNone i d (numbered s c o d)
  numbered_none s c (Some name) d plain = tt
  numbered_none s c None d plain = (refl, (c.message, refl, refl, plain))

  commanding_none : (s : Setup) (c : Command) (o : Option NamedFault) (d : Derived) → IsPlain c → ReadsNone i d (commanding s c o d)
  commanding_none s c (Some name) d plain = tt
  commanding_none s c None d plain = numbered_none s c (missing_number (ids_of c.message) 0 (ids_of c.message) d.counters) d plain

  reading_none : (r : StateRead) (o : Option NamedFault) (d : Derived) → ReadsNone i d (reading r o d)
  reading_none r (Some name) d = tt
  reading_none r None d = (refl, (refl, refl))

  awakeable_none : (s : Setup) (o : Option NamedFault) (d : Derived) → ReadsNone i d (awakeable_made s o d)
  awakeable_none s (Some name) d = tt
  awakeable_none s None d = (refl, refl)

  making_none : (s : Setup) (b : Bool) (d : Derived) → ReadsNone i d (making_awakeable s b d)
  making_none s true d = tt
  making_none s false d = awakeable_none s (missing_signals 1 1 d.counters) d

  signal_none : (name : List ℕ) (o : Option NamedFault) (d : Derived) → ReadsNone i d (signal_made name o d)
  signal_none name (Some fault) d = tt
  signal_none name None d = (refl, refl)

  awaiting_none : (b : Bool) (d : Derived) → ReadsNone i d (awaiting b d)
  awaiting_none true d = (refl, refl)
  awaiting_none false d = tt

  taken_none : (o : Option NotificationId) (d e : Derived) → reads_at i e.usage ≡ reads_at i d.usage → e.counters.completion ≡ d.counters.completion → (reads_at i (with_cancel_taken o e).usage ≡ reads_at i d.usage) × ((with_cancel_taken o e).counters.completion ≡ d.counters.completion)
  unfolding reads_at
  taken_none None d e same more = (same, more)
  taken_none (Some id) d e same more = (same, more)

  read_none : (o : Option (List ℕ)) (d : Derived) → ReadsNone i d (id_read o d)
  read_none None d = tt
  read_none (Some id) d = (refl, refl)

  id_none : (o : Option NotificationResult) (d : Derived) → ReadsNone i d (id_awaited o d)
  id_none None d = tt
  id_none (Some result) d = read_none (id_of_result result) d

  sent_none : (s : Setup) (id : List ℕ) (o : Option NamedFault) (d : Derived) → ReadsNone i d (cancel_sent s id o d)
  sent_none s id (Some name) d = tt
  sent_none s id None d = (refl, ((cancel_invocation_command id).message, refl, refl, refl))

  cancelling_none : (s : Setup) (ids : List (List ℕ)) (d : Derived) → ReadsNone i d (cancelling s ids d)
  cancelling_none s [] d = taken_none (id_at 1 d.handles) d (record d { tracked = [] }) refl refl
  cancelling_none s (id ∷ ids) d = sent_none s id (missing_number 0 0 0 d.counters) d

  cancelled_none : (s : Setup) (handles : List ℕ) (d : Derived) → ReadsNone i d (cancelled s handles d)
  cancelled_none s [] d = cancelling_none s (invocation_ids d.tracked) d
  cancelled_none s (handle ∷ handles) d = id_none (present_result_for s.options.signal_delivery (id_at handle d.handles) (ready_in s d)) d

  awaited_none : (s : Setup) (b : Bool) (future : UnresolvedFuture) (d : Derived) → ReadsNone i d (awaited s b future d)
  awaited_none s true future d = cancelled_none s (unresolved_handles d.tracked) d
  awaited_none s false future d = awaiting_none (is_awake s future d) d

  noted_none : (handle : NotificationHandle) (id : NotificationId) (value : Value) (o : Option (List TrackedCall)) (d : Derived) → ReadsNone i d (take_noting_id handle id value o d)
  unfolding reads_at
  noted_none handle id value None d = tt
  noted_none handle id value (Some tracked) d = (refl, refl)

  value_none : (handle : NotificationHandle) (id : NotificationId) (o : Option Value) (d : Derived) → ReadsNone i d (take_of_value handle id o d)
  value_none handle id None d = tt
  value_none handle id (Some value) d = noted_none handle id value (id_noted handle.0 (id_of_value value) d.tracked) d

  result_none : (handle : NotificationHandle) (id : Option NotificationId) (o : Option NotificationResult) (d : Derived) → ReadsNone i d (take_of_result handle id o d)
  result_none handle (Some id) (Some result) d = value_none handle id (value_of result) d
  result_none handle (Some id) None d = (refl, refl)
  result_none handle None o d = (refl, refl)

  asked_none : (s : Setup) (a : Ask) (d : Derived) → IsOfOne a → AsksPlain a → ReadsNone i d (asked s a d)
  asked_none s (ask.Command c) d one plain = commanding_none s c c.refusal d plain
  asked_none s (ask.Commands kind first second) d one plain = absurd one
  asked_none s (ask.Read r) d one plain = reading_none r (missing_number 1 0 1 d.counters) d
  asked_none s ask.Awakeable d one plain = making_none s (skips_replay s.options.journal_replay) d
  asked_none s (ask.Signal name) d one plain = signal_none name (missing_signals 0 1 d.counters) d
  asked_none s (ask.Await future) d one plain = awaited_none s (is_cancelled_in s d) future d
  asked_none s (ask.Take handle) d one plain = result_none handle (id_at handle.0 d.handles) (present_result_for s.options.signal_delivery (id_at handle.0 d.handles) (ready_in s d)) d
  asked_none s (ask.Completed handle) d one plain = (refl, refl)
  asked_none s ask.End d one plain = tt

-- ---- a recorded command

-- What a recorded command brings: no result, and it carries the needed one's ids; or it carries none.
record Exact (command : Message) (o : Option Message) (result : Option NotificationResult) : Type 0 where
  none : result ≡ None
  same : (i : ℕ) → read_carries i o ≡ is_id_among i (carried command)

pub typed : (a b : MessageType) → (type_number a == type_number b) ≡ true → a ≡ b
typed a b e = one_number a b (eqb-true (type_number a) (type_number b) e)

exact_by : (command : Message) (ignore : Bool) (raw : RawMessage) (o : Option Message) (result : Option NotificationResult) → raw.ty ≡ type_of command → message_in raw.ty raw.body ≡ o → reads_as ignore command o ≡ Ok result → Exact command o result
exact_by command ignore raw None result is read e = absurd (cc)
exact_by command ignore raw (Some n) result is read e = by_test (header_equal n command ignore) refl e
  where
    by_test : (b : Bool) → header_equal n command ignore ≡ b → (if b then Ok None else Err fault.CommandMismatch) ≡ Ok result → Exact command (Some n) result
    by_test true t h = record { none = (let x : None ≡ result = cc in sym x); same = λ i. ap (is_id_among i) (same_carried command n ignore (type_read raw.ty raw.body n read ∙ is) t) }
    by_test false t h = absurd (cc)

exact : (command : Message) (ignore : Bool) (raw : RawMessage) (result : Option NotificationResult) → found (Exactly command ignore) raw ≡ Ok result → Exact command (message_in raw.ty raw.body) result
exact command ignore raw result e = by_test (type_number raw.ty == type_number (type_of command)) refl e
  where
    by_test : (b : Bool) → (type_number raw.ty == type_number (type_of command)) ≡ b → (if b then reads_as ignore command (message_in raw.ty raw.body) else Err fault.CommandTypeMismatch) ≡ Ok result → Exact command (message_in raw.ty raw.body) result
    by_test true t h = exact_by command ignore raw (message_in raw.ty raw.body) result (typed raw.ty (type_of command) t) refl h
    by_test false t h = absurd (cc)

-- the type of a command that is used
found_typed : (command : Message) (ignore : Bool) (raw : RawMessage) (result : Option NotificationResult) → found (Exactly command ignore) raw ≡ Ok result → raw.ty ≡ type_of command
found_typed command ignore raw result e = by_test (type_number raw.ty == type_number (type_of command)) refl e
  where
    by_test : (b : Bool) → (type_number raw.ty == type_number (type_of command)) ≡ b → (if b then reads_as ignore command (message_in raw.ty raw.body) else Err fault.CommandTypeMismatch) ≡ Ok result → raw.ty ≡ type_of command
    by_test true t h = typed raw.ty (type_of command) t
    by_test false t h = absurd (cc)

lazy_ids : (r : StateRead) → ids_by (lazy_type r) ≡ 1
lazy_ids (reads.Value key name) = refl
lazy_ids (reads.Keys name) = refl

eager_ids : (r : StateRead) → ids_by (eager_type r) ≡ 1
eager_ids (reads.Value key name) = refl
eager_ids (reads.Keys name) = refl

read_typed : (r : StateRead) (id : ℕ) (raw : RawMessage) (result : Option NotificationResult) → recorded_as r id raw ≡ Ok result → ids_by raw.ty ≡ 1
read_typed r id raw result e = by_type (type_number raw.ty == type_number (lazy_type r)) refl (type_number raw.ty == type_number (eager_type r)) refl e
  where
    by_type : (lazy : Bool) → (type_number raw.ty == type_number (lazy_type r)) ≡ lazy → (eager : Bool) → (type_number raw.ty == type_number (eager_type r)) ≡ eager
        → read_in_form (if lazy then Some (lazy_form r id) else if eager then Some (eager_form r) else None) (message_in raw.ty raw.body) ≡ Ok result → ids_by raw.ty ≡ 1
    by_type true l eager g h = ap ids_by (typed raw.ty (lazy_type r) l) ∙ lazy_ids r
    by_type false l true g h = ap ids_by (typed raw.ty (eager_type r) g) ∙ eager_ids r
    by_type false l false g h = absurd (cc)

-- a lazy form brings no result and carries the read's id
lazy_read : (r : StateRead) (id : ℕ) (n : Message) (result : Option NotificationResult) → header_equal n (lazy_form r id) true ≡ true → result_in n ≡ Ok result → (result ≡ None) × (carried n ≡ id ∷ [])
unfolding header_equal
lazy_read (reads.Value key name) id (message.GetLazyState a) result e h = ((let x : None ≡ result = cc in sym x), one_id a.result_completion_id id (both _ _ e).1)
lazy_read (reads.Keys name) id (message.GetLazyStateKeys a) result e h = ((let x : None ≡ result = cc in sym x), one_id a.result_completion_id id (both _ _ e).0)
lazy_read (reads.Value key name) id n result e h = absurd (cc)
lazy_read (reads.Keys name) id n result e h = absurd (cc)

-- an eager form carries none
eager_read : (r : StateRead) (n : Message) → header_equal n (eager_form r) true ≡ true → carried n ≡ []
unfolding header_equal
eager_read (reads.Value key name) (message.GetEagerState a) e = refl
eager_read (reads.Keys name) (message.GetEagerStateKeys a) e = refl
eager_read (reads.Value key name) n e = absurd (cc)
eager_read (reads.Keys name) n e = absurd (cc)

-- what a read's record brings: no result, and it carries the id; or it carries none
abbrev ReadBrings : ℕ → Option Message → Option NotificationResult → Type 0
ReadBrings id o result = ((result ≡ None) × ((i : ℕ) → read_carries i o ≡ is_id_among i (id ∷ []))) ⊎ ((i : ℕ) → read_carries i o ≡ false)

read_form : (form : Message) (n : Message) (result : Option NotificationResult) → read_by form (Some n) ≡ Ok result → (header_equal n form true ≡ true) × (result_in n ≡ Ok result)
read_form form n result e = by_test (header_equal n form true) e
  where
    by_test : (b : Bool) → (if b then result_in n else Err fault.CommandMismatch) ≡ Ok result → (b ≡ true) × (result_in n ≡ Ok result)
    by_test true h = (refl, h)
    by_test false h = absurd (cc)

read_brings : (r : StateRead) (id : ℕ) (raw : RawMessage) (result : Option NotificationResult) → recorded_as r id raw ≡ Ok result → ReadBrings id (message_in raw.ty raw.body) result
read_brings r id raw result e = by_type (type_number raw.ty == type_number (lazy_type r)) (type_number raw.ty == type_number (eager_type r)) (message_in raw.ty raw.body) e
  where
    by_type : (lazy eager : Bool) (o : Option Message) → read_in_form (if lazy then Some (lazy_form r id) else if eager then Some (eager_form r) else None) o ≡ Ok result → ReadBrings id o result
    by_type true eager None h = absurd (cc)
    by_type true eager (Some n) h =
        let t = read_form (lazy_form r id) n result h in
        let x = lazy_read r id n result t.0 t.1 in
        inl (x.0, λ i. ap (is_id_among i) x.1)
    by_type false true None h = absurd (cc)
    by_type false true (Some n) h = inr (λ i. ap (is_id_among i) (eager_read r n (read_form (eager_form r) n result h).0))
    by_type false false o h = absurd (cc)

-- ---- one move

not_other : (id i : ℕ) (b : Bool) → (id == i) ≡ b → (new old : ℕ) → new ≡ cond b (suc old) old → (us : List RawMessage) → is_carried i us ≡ false → Claim i id (id + 1) old new us
not_other id i true t new old is us none = let same = eqb-true id i t in inr (omega (arith, same), omega (arith, same), inr (is, none))
not_other id i false t new old is us none = inl (is, none)

module _ (i : ℕ) (p : Point) (raw : RawMessage) where
  abbrev id : ℕ
  id = p.derived.counters.completion

  abbrev old : ℕ
  old = reads_at i p.derived.usage

  alone : (b : Bool) → read_carries i (message_in raw.ty raw.body) ≡ b → is_carried i (raw ∷ []) ≡ (b || false)
  alone b e = ap (λ t. t || false) e

  -- what a recorded command claims that carries the ids from this one on
  exact_claimed : (first past at : ℕ) (command : Message) (ignore : Bool) (result : Option NotificationResult) (e : Derived) → found (Exactly command ignore) raw ≡ Ok result → reads_at i e.usage ≡ old → IsOwn first past (Exactly command ignore) → Claim i first past old (reads_at i (with_read_result at result e).usage) (raw ∷ [])
  unfolding reads_at
  exact_claimed first past at command ignore result e is none own =
      let x = exact command ignore raw result is in
      let quiet : reads_at i (with_read_result at result e).usage ≡ old = ap (λ o. reads_at i (with_read_result at o e).usage) x.none ∙ none in
      by_test (is_id_among i (carried command)) refl (x.same i) quiet
    where
      by_test : (b : Bool) → is_id_among i (carried command) ≡ b → read_carries i (message_in raw.ty raw.body) ≡ is_id_among i (carried command) → reads_at i (with_read_result at result e).usage ≡ old → Claim i first past old (reads_at i (with_read_result at result e).usage) (raw ∷ [])
      by_test true t same quiet =
          let h = carried_given first own.0 i (ap (λ c. is_id_among i (carried c)) (sym own.1) ∙ t) in
          let n = own.2 in
          inr (h.0, omega (arith, h.1, n), inl quiet)
      by_test false t same quiet = inl (quiet, alone false (same ∙ t))

  -- what a recorded command and its result claim
  claimed : (demand : Demand) (result : Option NotificationResult) (e : Derived) → found demand raw ≡ Ok result → reads_at i e.usage ≡ old → IsOwn id e.counters.completion demand → Claim i id e.counters.completion old (reads_at i (with_read_result id result e).usage) (raw ∷ [])
  unfolding reads_at
  claimed (Exactly command ignore) result e is none own = exact_claimed id e.counters.completion id command ignore result e is none own
  claimed (Reads r number) result e is none own = subst (λ n. Claim i id n old (reads_at i (with_read_result id result e).usage) (raw ∷ [])) (sym own.1) (by_form (read_brings r number raw result is))
    where
      here : (result ≡ None) → (b : Bool) → (id == i) ≡ b → read_carries i (message_in raw.ty raw.body) ≡ (b || false) → Claim i id (id + 1) old (reads_at i (with_read_result id result e).usage) (raw ∷ [])
      here nothing true t same = let at = eqb-true id i t in inr (omega (arith, at), omega (arith, at), inl (ap (λ o. reads_at i (with_read_result id o e).usage) nothing ∙ none))
      here nothing false t same = inl (ap (λ o. reads_at i (with_read_result id o e).usage) nothing ∙ none, alone false same)

      by_result : (o : Option NotificationResult) → read_carries i (message_in raw.ty raw.body) ≡ false → Claim i id (id + 1) old (reads_at i (with_read_result id o e).usage) (raw ∷ [])
      by_result None free = inl (none, alone false free)
      by_result (Some x) free = not_other id i (id == i) refl (cond (id == i) (suc (reads_at i e.usage)) (reads_at i e.usage)) old (ap (λ n. cond (id == i) (suc n) n) none) (raw ∷ []) (alone false free)

      by_form : ReadBrings number (message_in raw.ty raw.body) result → Claim i id (id + 1) old (reads_at i (with_read_result id result e).usage) (raw ∷ [])
      by_form (inl h) = here h.0 (id == i) refl (h.1 i ∙ ap (λ n. (n == i) || false) own.0)
      by_form (inr h) = by_result result (h i)

  -- the ids that it stands for
  counts : (demand : Demand) (result : Option NotificationResult) (e : Derived) → found demand raw ≡ Ok result → IsOwn id e.counters.completion demand → e.counters.completion ≡ id + ids_given (raw ∷ [])
  counts (Exactly command ignore) result e is own = own.2 ∙ ap (λ n. id + n) (ids_typed own.0 own.3 ∙ ap ids_by (sym (found_typed command ignore raw result is ∙ ap type_of own.1 ∙ typed_ids id own.0)) ∙ sym (add-zero (ids_by raw.ty)))
  counts (Reads r number) result e is own = own.1 ∙ ap (λ n. id + n) (sym (read_typed r number raw result is) ∙ sym (add-zero (ids_by raw.ty)))

  grows : (demand : Demand) (e : Derived) → IsOwn id e.counters.completion demand → id ≤ e.counters.completion
  grows (Exactly command ignore) e own = let n = own.2 in omega (arith, n)
  grows (Reads r number) e own = let n = own.1 in omega (arith, n)

same_counter : (at : ℕ) (result : Option NotificationResult) (d : Derived) → (with_read_result at result d).counters ≡ d.counters
same_counter at None d = refl
same_counter at (Some x) d = refl

module _ (i : ℕ) (p q : Point) where
  command_between : (demand : Demand) (gives : List Answer) (e : Derived) (c : RawMessage) (left : List RawMessage) (o : Result (Option NotificationResult) NamedFault) → found demand c ≡ o → p.left ≡ c ∷ left → reads_at i e.usage ≡ reads_at i p.derived.usage → IsOwn p.derived.counters.completion e.counters.completion demand → command_used o demand gives e left p ≡ Some q → Between i p q p.derived.counters.completion q.derived.counters.completion
  command_between demand gives e c left (Err name) is at none own m = none_some m
  command_between demand gives e c left (Ok result) is at none own m =
      let same = same_counter p.derived.counters.completion result e in
      let more = grows i p c demand e own in
      let gives_ids = counts i p c demand result e is own in
      subst (λ z. Between i p z p.derived.counters.completion z.derived.counters.completion) (same_Some _ q m) (record {
        used = c ∷ [];
        left = at;
        ordered = rw same more;
        counted = rw same gives_ids;
        claim = rw same (claimed i p c demand result e is none own);
      })

  uses_between : (demand : Demand) (gives : List Answer) (e : Derived) (left : List RawMessage) → p.left ≡ left → reads_at i e.usage ≡ reads_at i p.derived.usage → IsOwn p.derived.counters.completion e.counters.completion demand → uses_command demand gives e left p ≡ Some q → Between i p q p.derived.counters.completion q.derived.counters.completion
  uses_between demand gives e [] at none own m = none_some m
  uses_between demand gives e (c ∷ left) at none own m = command_between demand gives e c left (found demand c) refl at none own m

  arrival_between : (queue : List Notification) → uses_arrival queue p ≡ Some q → Between i p q p.derived.counters.completion q.derived.counters.completion
  unfolding reads_at
  arrival_between [] m = none_some m
  arrival_between (n ∷ queue) m = subst (λ z. Between i p z p.derived.counters.completion z.derived.counters.completion) (same_Some _ q m) (record { used = []; left = refl; ordered = omega arith; counted = sym (add-zero p.derived.counters.completion); claim = inl (refl, refl) })

  moved_between : (mv : Move) → ReadsNone i p.derived mv → moved mv p ≡ Some q → Between i p q p.derived.counters.completion q.derived.counters.completion
  moved_between (Answers gives e) h m = subst (λ z. Between i p z p.derived.counters.completion z.derived.counters.completion) (same_Some _ q m) (record { used = []; left = refl; ordered = (let x = h.1 in omega (arith, x)); counted = h.1 ∙ sym (add-zero p.derived.counters.completion); claim = inl (h.0, refl) })
  moved_between (Needs demand gives e) h m = uses_between demand gives e p.left refl h.0 h.1 m
  moved_between Awaits h m = arrival_between p.queue m
  moved_between Ends h m = none_some m
  moved_between (Refuses name) h m = none_some m

-- ---- a call with several commands

-- how many completion ids the first n of some commands take
ids_made : ℕ → Command → List Command → ℕ
ids_made zero c cs = 0
ids_made (suc n) c [] = 0
ids_made (suc n) c (b ∷ bs) = ids_of c.message + ids_made n b bs

-- and those of what is asked for
made_ids : ℕ → Ask → ℕ
made_ids n (ask.Commands kind first second) = ids_made n first (second ∷ [])
made_ids n a = 0

no_ids : (a : Ask) → made_ids 0 a ≡ 0
unfolding made_ids ids_made
no_ids (ask.Commands kind first second) = refl
no_ids a = refl

none_of_one : (n : ℕ) (a : Ask) → IsOfOne a → made_ids n a ≡ 0
unfolding made_ids
none_of_one n (ask.Commands kind first second) one = absurd one
none_of_one n a one = refl

-- the completion id that comes next, once n of them are made
turn_id : (s : Setup) (n : ℕ) (c : Command) (cs : List Command) (d : Derived) → (turn_after s n c cs d).before.counters.completion ≡ d.counters.completion + ids_made n c cs
unfolding ids_made
turn_id s zero c cs d = sym (add-zero d.counters.completion)
turn_id s (suc n) c [] d = sym (add-zero d.counters.completion)
turn_id s (suc n) c (b ∷ bs) d = let x = turn_id s n b bs (behind_command s c d) in omega (arith, x)

-- the command whose turn it is is one of both
turn_one : (s : Setup) (n : ℕ) (c : Command) (d : Derived) → (turn_after s n c [] d).command ≡ c
turn_one s zero c d = refl
turn_one s (suc n) c d = refl

turn_two : (s : Setup) (n : ℕ) (first second : Command) (d : Derived) → IsPlain first → IsPlain second → IsPlain (turn_after s n first (second ∷ []) d).command
turn_two s zero first second d fp sp = fp
turn_two s (suc n) first second d fp sp = subst IsPlain (sym (turn_one s n second (behind_command s first d))) sp

-- The completion id that comes next, after those of the commands that were made of a call with
-- several.
next_id : Setup → Meaning → Point → ℕ
next_id s m p = p.derived.counters.completion + made_ids p.derived.parts (ask_of s.version (m p.answers))

-- none of them are made but of a call that asks for several
abbrev pub RestsAt : Ask → ℕ → Type 0
RestsAt (ask.Commands kind first second) n = Unit {0}
RestsAt a n = n ≡ 0

pub rests_none : (a : Ask) (n : ℕ) → n ≡ 0 → RestsAt a n
rests_none (ask.Commands kind first second) n none = tt
rests_none a n none = none

pub rests_one : (a : Ask) (n : ℕ) → IsOfOne a → RestsAt a n → n ≡ 0
rests_one (ask.Commands kind first second) n one h = absurd one
rests_one (ask.Command c) n one h = h
rests_one (ask.Read r) n one h = h
rests_one ask.Awakeable n one h = h
rests_one (ask.Signal name) n one h = h
rests_one (ask.Await future) n one h = h
rests_one (ask.Take handle) n one h = h
rests_one (ask.Completed handle) n one h = h
rests_one ask.End n one h = h

module _ (i : ℕ) (s : Setup) (m : Meaning) (p q : Point) where
  abbrev Rests : Point → Type 0
  Rests z = RestsAt (ask_of s.version (m z.answers)) z.derived.parts

  -- a move, and whether parts of a call are made after it
  abbrev Goes : Type 0
  Goes = Between i p q (next_id s m p) (next_id s m q) × Rests q

  plain_goes : IsOfOne (ask_of s.version (m p.answers)) → Rests p → next s m p ≡ Some q → Goes
  unfolding next_id
  plain_goes one rests e =
      let none : q.derived.parts ≡ 0 = next_keeps s m p q one e ∙ rests_one (ask_of s.version (m p.answers)) p.derived.parts one rests in
      let here : next_id s m p ≡ p.derived.counters.completion = ap (λ n. p.derived.counters.completion + n) (none_of_one p.derived.parts (ask_of s.version (m p.answers)) one) ∙ add-zero p.derived.counters.completion in
      let there : next_id s m q ≡ q.derived.counters.completion = ap (λ n. q.derived.counters.completion + n) (ap (λ n. made_ids n (ask_of s.version (m q.answers))) none ∙ no_ids (ask_of s.version (m q.answers))) ∙ add-zero q.derived.counters.completion in (
        subst (λ (x : ℕ × ℕ). Between i p q x.0 x.1) (λ j. (sym here j, sym there j)) (moved_between i p q (move_at s m p) (asked_none i s (ask_of s.version (m p.answers)) p.derived one (asks_plain s.version (m p.answers))) e),
        rests_none (ask_of s.version (m q.answers)) q.derived.parts none,
      )

  used_between : (first past : ℕ) (c : Command) (gives : List Answer) (e : Derived) → WasUsed (needed_for s first c) gives e p q → past ≡ first + ids_of c.message → IsPlain c → reads_at i e.usage ≡ reads_at i p.derived.usage → Between i p q first past
  used_between first past c gives e u is plain same =
      record {
        used = u.used ∷ [];
        left = u.left;
        ordered = omega (arith, is);
        counted = is ∙ ap (λ n. first + n) (ids_typed c.message plain ∙ ap ids_by (sym (found_typed (with_ids first c.message) (ignores_payloads s.options.non_determinism_checks c.unstable) u.used None u.stands ∙ typed_ids first c.message)) ∙ sym (add-zero (ids_by u.used.ty)));
        claim = subst (λ (z : Derived). Claim i first past (reads_at i p.derived.usage) (reads_at i z.usage) (u.used ∷ [])) (sym u.derived) (exact_claimed i p u.used first past 0 (with_ids first c.message) (ignores_payloads s.options.non_determinism_checks c.unstable) None e u.stands same (c.message, refl, is, plain));
      }

  part_goes : (kind : AnswerKind) (first second : Command) → IsPlain first → IsPlain second → ask_of s.version (m p.answers) ≡ ask.Commands kind first second → PartMove s kind (turn_after s p.derived.parts first (second ∷ []) p.derived) p q → Goes
  unfolding next_id made_ids reads_at
  part_goes kind first second fp sp is (More b bs more u) =
      let n = p.derived.parts in
      let t = turn_after s n first (second ∷ []) p.derived in
      let asks : ask_of s.version (m q.answers) ≡ ask.Commands kind first second = ap (λ l. ask_of s.version (m l)) (u.answers ∙ append-nil p.answers) ∙ is in
      let parts : q.derived.parts ≡ suc n = ap (λ e. e.parts) u.derived in
      let next = next_turn s n first (second ∷ []) p.derived b bs more in
      let here : next_id s m p ≡ t.before.counters.completion = ap (λ a. p.derived.counters.completion + made_ids n a) is ∙ sym (turn_id s n first (second ∷ []) p.derived) in
      let there : next_id s m q ≡ t.before.counters.completion + ids_of t.command.message =
      (λ j. (u.derived j).counters.completion + made_ids (parts j) (asks j)) ∙ sym (turn_id s (suc n) first (second ∷ []) p.derived) ∙ ap (λ (x : Turn). x.before.counters.completion) next in (
        subst (λ (x : ℕ × ℕ). Between i p q x.0 x.1) (λ j. (sym here j, sym there j)) (used_between t.before.counters.completion (t.before.counters.completion + ids_of t.command.message) t.command [] (record p.derived { parts = suc n }) u refl (turn_two s n first second p.derived fp sp) refl),
        subst (λ a. RestsAt a q.derived.parts) (sym asks) tt,
      )
  part_goes kind first second fp sp is (Last none u) =
      let n = p.derived.parts in
      let t = turn_after s n first (second ∷ []) p.derived in
      let a = answer_by kind (record { 0 = p.derived.counters.handle }) in
      let parts : q.derived.parts ≡ 0 = ap (λ e. e.parts) u.derived in
      let here : next_id s m p ≡ t.before.counters.completion = ap (λ a. p.derived.counters.completion + made_ids n a) is ∙ sym (turn_id s n first (second ∷ []) p.derived) in
      let there : next_id s m q ≡ t.before.counters.completion + ids_of t.command.message =
      ap (λ n. q.derived.counters.completion + n) (ap (λ n. made_ids n (ask_of s.version (m q.answers))) parts ∙ no_ids (ask_of s.version (m q.answers))) ∙ add-zero q.derived.counters.completion ∙ ap (λ e. e.counters.completion) u.derived in (
        subst (λ (x : ℕ × ℕ). Between i p q x.0 x.1) (λ j. (sym here j, sym there j)) (used_between t.before.counters.completion (t.before.counters.completion + ids_of t.command.message) t.command (a ∷ []) (record (behind_command s t.command t.before) { parts = 0 }) u refl (turn_two s n first second p.derived fp sp) (ap (reads_at i) (turn_splits s n first (second ∷ []) p.derived).usage)),
        rests_none (ask_of s.version (m q.answers)) q.derived.parts parts,
      )

  next_goes : (a : Ask) → ask_of s.version (m p.answers) ≡ a → Rests p → next s m p ≡ Some q → Goes
  next_goes (ask.Commands kind first second) is rests e =
      let t = turn_after s p.derived.parts first (second ∷ []) p.derived in
      let plain : AsksPlain (ask.Commands kind first second) = subst AsksPlain is (asks_plain s.version (m p.answers)) in
      part_goes kind first second plain.0 plain.1 is (part_moves s kind (refused_before t.command t.behind t.before.counters) t p q (subst (λ a. moved (asked s a p.derived) p ≡ Some q) is e))
  next_goes a is rests e = plain_goes (subst IsOfOne (sym is) tt) rests e

-- none are made but of a call that asks for several, one move later
pub next_rests : (s : Setup) (m : Meaning) (p q : Point) → RestsAt (ask_of s.version (m p.answers)) p.derived.parts → next s m p ≡ Some q → RestsAt (ask_of s.version (m q.answers)) q.derived.parts
next_rests s m p q rests e = (next_goes 0 s m p q (ask_of s.version (m p.answers)) refl rests e).1

-- ---- several moves

between_here : (i : ℕ) (p : Point) (first : ℕ) → Between i p p first first
between_here i p first = record { used = []; left = refl; ordered = omega arith; counted = sym (add-zero first); claim = inl (refl, refl) }

between_join : (i : ℕ) (p r q : Point) (first mid past : ℕ) → Between i p r first mid → Between i r q mid past → Between i p q first past
between_join i p r q first mid past a b =
    let x = a.ordered in
    let y = b.ordered in
    record {
      used = a.used ++ b.used;
      left = a.left ∙ ap (λ l. a.used ++ l) b.left ∙ sym (append_assoc a.used b.used q.left);
      ordered = omega (arith, x, y);
      counted = (let u = a.counted in let v = b.counted in let w = given_append a.used b.used in omega (arith, u, v, w));
      claim = claims_join i _ _ _ _ _ _ a.used b.used x y a.claim b.claim;
    }

after_between : (i : ℕ) (s : Setup) (m : Meaning) (n : ℕ) (p q : Point) → RestsAt (ask_of s.version (m p.answers)) p.derived.parts → after s m n p ≡ Some q → Between i p q (next_id s m p) (next_id s m q) × RestsAt (ask_of s.version (m q.answers)) q.derived.parts
after_between i s m zero p q rests e = subst (λ z. Between i p z (next_id s m p) (next_id s m z) × RestsAt (ask_of s.version (m z.answers)) z.derived.parts) (same_Some _ q e) (between_here i p (next_id s m p), rests)
after_between i s m (suc n) p q rests e =
    let x = and_then_some (next s m p) (after s m n) q e in
    let one = next_goes i s m p x.0 (ask_of s.version (m p.answers)) refl rests x.1 in
    let more = after_between i s m n x.0 q one.1 x.2 in
    (between_join i p x.0 q (next_id s m p) (next_id s m x.0) (next_id s m q) one.0 more.0, more.1)

-- of two points of a run one comes first
meets : (s : Setup) (m : Meaning) (n k : ℕ) (z p q : Point) → after s m n z ≡ Some p → after s m k z ≡ Some q → ((j : ℕ) × (after s m j p ≡ Some q)) ⊎ ((j : ℕ) × (after s m j q ≡ Some p))
meets s m zero k z p q e f = inl (k, subst (λ x. after s m k x ≡ Some q) (same_Some z p e) f)
meets s m (suc n) zero z p q e f = inr (suc n, subst (λ x. after s m (suc n) x ≡ Some p) (same_Some z q f) e)
meets s m (suc n) (suc k) z p q e f =
    let x = and_then_some (next s m z) (after s m n) p e in
    let y = and_then_some (next s m z) (after s m k) q f in
    meets s m n k y.0 p q (subst (λ r. after s m n r ≡ Some p) (same_Some x.0 y.0 (sym x.1 ∙ y.1)) x.2) y.2

-- ---- the law

nothing_behind : (us vs : List RawMessage) → [] ≡ us ++ vs → vs ≡ []
nothing_behind [] vs e = sym e
nothing_behind (u ∷ us) vs e = absurd (cc)

module _ (s : Setup) (m : Meaning) (input : InputCommand) (ns : List Notification) (cs : List RawMessage) where
  abbrev begun : Point
  begun = start s input ns cs

  first_rests : RestsAt (ask_of s.version (m begun.answers)) begun.derived.parts
  first_rests = rests_none (ask_of s.version (m begun.answers)) 0 refl

  pub rests_there : (n : ℕ) (p : Point) → after s m n begun ≡ Some p → RestsAt (ask_of s.version (m p.answers)) p.derived.parts
  rests_there n p e = (after_between 0 s m n begun p first_rests e).1

  -- nothing was read for an id that a used command carries
  pub none_read : (n : ℕ) (q : Point) → after s m n begun ≡ Some q → (us : List RawMessage) → cs ≡ us ++ q.left → (i : ℕ) → is_carried i us ≡ true → reads_at i q.derived.usage ≡ 0
  unfolding reads_at
  none_read n q e us is i carry =
      let b = (after_between i s m n begun q first_rests e).0 in
      let same : b.used ≡ us = append_cancel_right b.used us q.left (sym b.left ∙ is) in
      by_claim b.used _ _ b.claim (ap (is_carried i) same ∙ carry)
    where
      by_claim : (used : List RawMessage) (first past : ℕ) → Claim i first past 0 (reads_at i q.derived.usage) used → is_carried i used ≡ true → reads_at i q.derived.usage ≡ 0
      by_claim used first past (inl c) h = c.0
      by_claim used first past (inr (a, b, inl c)) h = c
      by_claim used first past (inr (a, b, inr c)) h = absurd (let z : true ≡ false = sym h ∙ c.1 in cc)

  -- all that came for an id
  total : (n : ℕ) (p : Point) → after s m n begun ≡ Some p → (i : ℕ) → length (deliveries (CompletionId i) p.derived.usage) + length (results_of (CompletionId i) p.queue) ≡ reads_at i p.derived.usage + length (results_of (CompletionId i) ns)
  total n p e i =
      let all : length (results_of (CompletionId i) ns) ≡ length (results_of (CompletionId i) (arrivals_in p.derived.usage)) + length (results_of (CompletionId i) p.queue) =
      ap (λ l. length (results_of (CompletionId i) l)) (arrivals_used s m n input ns cs p e) ∙ ap length (results-append (CompletionId i) (arrivals_in p.derived.usage) p.queue) ∙ length-append (results_of (CompletionId i) (arrivals_in p.derived.usage)) (results_of (CompletionId i) p.queue) in
      let some = came i p.derived.usage in
      omega (arith, all, some)

  -- if no result came for what was read, and one at most for each other id
  pub replays_once : ComeOnce ns → (n : ℕ) (p : Point) → after s m n begun ≡ Some p → ((i : ℕ) → was_read i p.derived.usage ≡ true → results_of (CompletionId i) ns ≡ []) → HasNoTwo p
  unfolding reads_at
  replays_once once n p e none i =
      let b = (after_between i s m n begun p first_rests e).0 in
      let sum = total n p e i in
      by_read (was_read i p.derived.usage) refl (read_at_most b.used _ _ b.claim) sum (once i)
    where
      bound : ℕ
      bound = length (deliveries (CompletionId i) p.derived.usage) + length (results_of (CompletionId i) p.queue)

      read_at_most : (used : List RawMessage) (first past : ℕ) → Claim i first past 0 (reads_at i p.derived.usage) used → reads_at i p.derived.usage ≤ 1
      read_at_most used first past (inl c) = let x = c.0 in omega (arith, x)
      read_at_most used first past (inr (a, b, inl c)) = omega (arith, c)
      read_at_most used first past (inr (a, b, inr c)) = let x = c.0 in omega (arith, x)

      by_read : (b : Bool) → was_read i p.derived.usage ≡ b → reads_at i p.derived.usage ≤ 1 → bound ≡ reads_at i p.derived.usage + length (results_of (CompletionId i) ns) → length (results_of (CompletionId i) ns) ≤ 1 → bound ≤ 1
      by_read true is most sum one = let nothing : length (results_of (CompletionId i) ns) ≡ 0 = ap length (none i is) in omega (arith, most, sum, nothing)
      by_read false is most sum one = let unread = none_was_read i p.derived.usage is in omega (arith, unread, sum, one)

  module _ (once : ComeOnce ns) (carry : AreCarried ns cs) where
    at_end : (n : ℕ) (p : Point) → after s m n begun ≡ Some p → p.left ≡ [] → HasNoTwo p
    unfolding reads_at
    at_end n p e spent i =
        let b = (after_between i s m n begun p first_rests e).0 in
        let sum = total n p e i in
        let all : b.used ≡ cs = sym (append-nil b.used) ∙ ap (λ l. b.used ++ l) (sym spent) ∙ sym b.left in
        by_claim b.used _ _ b.claim sum (once i) (λ (none : is_carried i b.used ≡ false). ap length (carry i (ap (is_carried i) (sym all) ∙ none)))
      where
        bound : ℕ
        bound = length (deliveries (CompletionId i) p.derived.usage) + length (results_of (CompletionId i) p.queue)

        by_claim : (used : List RawMessage) (first past : ℕ) → Claim i first past 0 (reads_at i p.derived.usage) used → bound ≡ reads_at i p.derived.usage + length (results_of (CompletionId i) ns) → length (results_of (CompletionId i) ns) ≤ 1 → (is_carried i used ≡ false → length (results_of (CompletionId i) ns) ≡ 0) → bound ≤ 1
        by_claim used first past (inl c) sum one none = let x = c.0 in omega (arith, x, sum, one)
        by_claim used first past (inr (a, b, inl c)) sum one none = omega (arith, c, sum, one)
        by_claim used first past (inr (a, b, inr c)) sum one none = let x = c.0 in let y = none c.1 in omega (arith, x, y, sum)

    -- fewer came before
    before_end : (n k : ℕ) (p q : Point) → after s m n begun ≡ Some p → after s m k begun ≡ Some q → (i first past : ℕ) → Between i p q first past → length (deliveries (CompletionId i) q.derived.usage) + length (results_of (CompletionId i) q.queue) ≤ 1 → length (deliveries (CompletionId i) p.derived.usage) + length (results_of (CompletionId i) p.queue) ≤ 1
    before_end n k p q e f i first past b two =
        let x = total n p e i in
        let y = total k q f i in
        let z = fewer b.used _ _ (reads_at i p.derived.usage) (reads_at i q.derived.usage) b.claim in
        omega (arith, x, y, z, two)
      where
        fewer : (used : List RawMessage) (first past old new : ℕ) → Claim i first past old new used → old ≤ new
        fewer used first past old new (inl c) = let x = c.0 in omega (arith, x)
        fewer used first past old new (inr (a, b, inl c)) = omega (arith, c)
        fewer used first past old new (inr (a, b, inr c)) = let x = c.0 in omega (arith, x)

    come_once : (n k : ℕ) (p q : Point) → after s m n begun ≡ Some p → after s m k begun ≡ Some q → q.left ≡ [] → HasNoTwo p
    come_once n k p q e f spent = ⊎_elim
        (λ (x : (j : ℕ) × (after s m j p ≡ Some q)). λ i. before_end n k p q e f i (next_id s m p) (next_id s m q) (after_between i s m x.0 p q (rests_there n p e) x.1).0 (at_end k q f spent i))
        (λ (x : (j : ℕ) × (after s m j q ≡ Some p)). let b = (after_between 0 s m x.0 q p (rests_there k q f) x.1).0 in at_end n p e (nothing_behind b.used p.left (sym spent ∙ b.left)))
        (meets s m n k begun p q e f)

-- Where some point of a run uses all recorded commands, each completion came once, and its id is one that they carry, no
-- completion id has two results at any point.
pub completions_once : (s : Setup) (m : Meaning) (n k : ℕ) (input : InputCommand) (ns : List Notification) (cs : List RawMessage) (p q : Point) → after s m n (start s input ns cs) ≡ Some p → after s m k (start s input ns cs) ≡ Some q → q.left ≡ [] → ComeOnce ns → AreCarried ns cs → HasNoTwo p
completions_once s m n k input ns cs p q e f spent once carry = come_once s m input ns cs once carry n k p q e f spent

-- ---- another handler on the same journal

read_some : (i : ℕ) (us : List Usage) → was_read i us ≡ true → reads_at i us ≡ 0 → ⊥
unfolding reads_at
read_some i [] w e = absurd (cc)
read_some i (Used n ∷ us) w e = read_some i us w e
read_some i (Taken id ∷ us) w e = read_some i us w e
read_some i (Read id result ∷ us) w e = by_test (id == i) w e (read_some i us)
  where
    by_test : (b : Bool) → (b || was_read i us) ≡ true → cond b (suc (reads_at i us)) (reads_at i us) ≡ 0 → (was_read i us ≡ true → reads_at i us ≡ 0 → ⊥) → ⊥
    by_test true w e more = absurd (omega (arith, e))
    by_test false w e more = more w e

-- a move uses one recorded command at most
one_left : (mv : Move) (p r : Point) → moved mv p ≡ Some r → (r.left ≡ p.left) ⊎ ((c : RawMessage) × (p.left ≡ c ∷ r.left))
one_left (Answers gives e) p r m = inl (ap (λ z. z.left) (sym (same_Some _ r m)))
one_left (Needs demand gives e) p r m = by_left p.left refl m
  where
    by_found : (o : Result (Option NotificationResult) NamedFault) (c : RawMessage) (left : List RawMessage) → p.left ≡ c ∷ left → command_used o demand gives e left p ≡ Some r → (r.left ≡ p.left) ⊎ ((c : RawMessage) × (p.left ≡ c ∷ r.left))
    by_found (Err name) c left at m = none_some m
    by_found (Ok result) c left at m = inr (c, at ∙ ap (λ z. c ∷ z.left) (same_Some _ r m))

    by_left : (left : List RawMessage) → p.left ≡ left → uses_command demand gives e left p ≡ Some r → (r.left ≡ p.left) ⊎ ((c : RawMessage) × (p.left ≡ c ∷ r.left))
    by_left [] at m = none_some m
    by_left (c ∷ left) at m = by_found (found demand c) c left at m
one_left Awaits p r m = by_queue p.queue m
  where
    by_queue : (queue : List Notification) → uses_arrival queue p ≡ Some r → (r.left ≡ p.left) ⊎ ((c : RawMessage) × (p.left ≡ c ∷ r.left))
    by_queue [] m = none_some m
    by_queue (n ∷ queue) m = inl (ap (λ z. z.left) (sym (same_Some _ r m)))
one_left Ends p r m = none_some m
one_left (Refuses name) p r m = none_some m

-- a run that uses all recorded commands stops where these are left
abbrev StopsAt : Setup → Meaning → Point → Point → List RawMessage → Type 0
StopsAt s m p q vs = (j : ℕ) × (x : Point) × (l : ℕ) × (after s m j p ≡ Some x) × (x.left ≡ vs) × (after s m l x ≡ Some q)

stops_at : (s : Setup) (m : Meaning) (k : ℕ) (p q : Point) (us vs : List RawMessage) → after s m k p ≡ Some q → q.left ≡ [] → p.left ≡ us ++ vs → StopsAt s m p q vs
stops_at s m k p q [] vs e spent is = (0, p, k, refl, is, e)
stops_at s m zero p q (u ∷ us) vs e spent is = absurd (let z : [] ≡ u ∷ (us ++ vs) = sym spent ∙ ap (λ z. z.left) (sym (same_Some p q e)) ∙ is in cc)
stops_at s m (suc k) p q (u ∷ us) vs e spent is =
    let x = and_then_some (next s m p) (after s m k) q e in
    ⊎_elim
    (λ (same : x.0.left ≡ p.left). one_more x.0 x.1 (stops_at s m k x.0 q (u ∷ us) vs x.2 spent (same ∙ is)))
    (λ (used : (c : RawMessage) × (p.left ≡ c ∷ x.0.left)). one_more x.0 x.1 (stops_at s m k x.0 q us vs x.2 spent (rest_same used.0 u x.0.left (us ++ vs) (sym used.1 ∙ is))))
    (one_left (move_at s m p) p x.0 x.1)
  where
    one_more : (r : Point) → next s m p ≡ Some r → StopsAt s m r q vs → StopsAt s m p q vs
    one_more r on (j, x, l, a, left, b) = (suc j, x, l, ap (λ o. and_then o (after s m j)) on ∙ a, left, b)

    rest_same : (c d : RawMessage) (xs ys : List RawMessage) → c ∷ xs ≡ d ∷ ys → xs ≡ ys
    rest_same c d xs ys h = cc

module _ (s : Setup) (m other : Meaning) (input : InputCommand) (ns : List Notification) (cs : List RawMessage) (n k : ℕ) (p q : Point) (e : after s other n (start s input ns cs) ≡ Some p) (f : after s m k (start s input ns cs) ≡ Some q) (spent : q.left ≡ []) where
  abbrev at_first : Point
  at_first = start s input ns cs

  -- both begin with the same id
  first_id : (h : Meaning) → next_id s h at_first ≡ at_first.derived.counters.completion
  unfolding next_id
  first_id h = ap (λ n. at_first.derived.counters.completion + n) (no_ids (ask_of s.version (h at_first.answers))) ∙ add-zero at_first.derived.counters.completion

  -- an id of which the other handler has read is carried by no recorded command
  other_reads : (i : ℕ) → was_read i p.derived.usage ≡ true → is_carried i cs ≡ false
  unfolding reads_at
  other_reads i read =
      let b = (after_between i s other n at_first p (first_rests s other input ns cs) e).0 in
      let t = stops_at s m k at_first q b.used p.left f spent b.left in
      let u = (after_between i s m t.0 at_first t.1 (first_rests s m input ns cs) t.3).0 in
      let v = (after_between i s m t.2 t.1 q (rests_there s m input ns cs t.0 t.1 t.3) t.5).0 in
      let used : u.used ≡ b.used = append_cancel_right u.used b.used p.left (ap (λ l. u.used ++ l) (sym t.4) ∙ sym u.left ∙ b.left) in
      let left : v.used ≡ p.left = sym (append-nil v.used) ∙ ap (λ l. v.used ++ l) (sym spent) ∙ sym v.left ∙ t.4 in
      let same : next_id s m t.1 ≡ next_id s other p = u.counted ∙ (λ j. (first_id m ∙ sym (first_id other)) j + ids_given (used j)) ∙ sym b.counted in
      ap (is_carried i) b.left ∙ by_claim b.used _ _ b.claim v.used _ _ _ _ v.claim left same
    where
      by_claim : (us : List RawMessage) (first past : ℕ) → Claim i first past 0 (reads_at i p.derived.usage) us → (vs : List RawMessage) (low high old new : ℕ) → Claim i low high old new vs → vs ≡ p.left → low ≡ past → is_carried i (us ++ p.left) ≡ false
      by_claim us first past (inl c) vs low high old new d left same = absurd (read_some i p.derived.usage read c.0)
      by_claim us first past (inr (a, b, inl c)) vs low high old new d left same = absurd (read_some i p.derived.usage read c)
      by_claim us first past (inr (a, b, inr c)) vs low high old new (inl d) left same = none_carried i us p.left c.1 (ap (is_carried i) (sym left) ∙ d.1)
      by_claim us first past (inr (a, b, inr c)) vs low high old new (inr d) left same = let x = d.0 in absurd (omega (arith, b, x, same))

  -- so no completion id has two results at its point
  pub other_once : ComeOnce ns → AreCarried ns cs → HasNoTwo p
  other_once once carry = replays_once s other input ns cs once n p e (λ i read. carry i (other_reads i read))
