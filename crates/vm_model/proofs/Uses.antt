-- What a run used of its journal, and what its handles stand for.
use Rattle.std.proofs.Common.{◌≡◌, ◌⊎◌, ◌<◌, ◌≤◌, ℕ, zero, suc, ◌+◌, Bool, true, false, cond, List, [], ◌∷◌, ◌++◌, length, Option, Some, None, refl, sym, ap, ◌∙◌, subst, inl, inr, ⊎_elim, append_assoc, append-nil, length-append, arith}
use native.Mathlib.Nat.{add-zero}
use Rattle.std.specs.Prelude.{◌==◌, if◌then◌else◌, take, Result, Ok, Err}
use Rattle.std.specs.List.{AllByRecursion}
use Rattle.std.proofs.lemmas.Bool.{eq-eqb, eqb-true}
use Rattle.std.proofs.lemmas.Option.{same_Some}
use Rattle.journal_protocol.specs.InputCommand.{InputCommand}
use Rattle.journal_protocol.specs.NamedFault.{NamedFault}
use Rattle.journal_protocol.specs.NamedFault.TheVariants as fault
use Rattle.journal_protocol.specs.Message.{Message}
use Rattle.journal_protocol.specs.RawMessage.{RawMessage}
use Rattle.journal_protocol.specs.Notification.{Notification}
use Rattle.journal_protocol.specs.NotificationId.{NotificationId}
use Rattle.journal_protocol.specs.NotificationId.TheVariants.{CompletionId, SignalId, SignalName}
use Rattle.journal_protocol.specs.NotificationResult.{NotificationResult}
use Rattle.journal_protocol.specs.Version.{Version}
use Rattle.journal_protocol.specs.Equality.{header_equal}
use Rattle.journal_protocol.specs.Frames.{type_of}
use Rattle.journal_protocol.specs.Bodies.{message_in}
use Rattle.journal_protocol.specs.Types.{type_number}
use Rattle.vm_parts.specs.declared.async_results.Mapping.{Mapping}
use Rattle.vm_types.specs.declared.steps.Answer.{Answer}
use Rattle.vm_types.specs.declared.steps.Answer.TheVariants as answer
use Rattle.vm_types.specs.declared.steps.Step.{Step}
use Rattle.vm_types.specs.declared.steps.Step.TheVariants as step
use Rattle.await_trees.specs.declared.handle.NotificationHandle.{NotificationHandle}
use Rattle.await_trees.specs.declared.tree.UnresolvedFuture.{UnresolvedFuture}
use Rattle.vm_state.specs.declared.tracked_call.TrackedCall.{TrackedCall}
use Rattle.vm_types.specs.declared.values.Value.{Value}
use Rattle.vm_state.specs.Counting.{missing_number, missing_signals}
use Rattle.vm_parts.specs.Deliveries.{id_at, present_result_for, unmapped}
use Rattle.vm_parts.specs.Tracked.{id_noted}
use Rattle.vm_types.specs.Values.{id_of_value, value_of}
use Rattle.vm_asks.specs.declared.asks.Ask.{Ask}
use Rattle.vm_asks.specs.declared.asks.Ask.TheVariants as ask
use Rattle.vm_asks.specs.declared.asks.AnswerKind.{AnswerKind}
use Rattle.vm_asks.specs.declared.command.Command.{Command}
use Rattle.vm_asks.specs.declared.state_read.StateRead.{StateRead}
use Rattle.vm_asks.specs.Asks.{all_ids, answer_by, ask_of}
use Rattle.vm_parts.specs.Mappings.{mapped_from}
use Rattle.vm_asks.specs.Requests.{ids_of}
use Rattle.vm_types.specs.Options.{skips_replay}
use Rattle.vm_model.specs.Calls.{Setup, Meaning, Derived, Demand, Move, asked, awaited, awakeable_made, awaiting, with_cancel_taken, commanding, is_awake, is_cancelled_in, making_awakeable, numbered, reading, ready_in, take_of_result, signal_made, take_noting_id, take_of_value, Turn, behind_command, refused_before, turn_after}
use Rattle.vm_model.specs.Calls.Demand.{Exactly, Reads}
use Rattle.vm_model.specs.Calls.Move.{Answers, Needs, Awaits, Ends, Refuses}
use Rattle.vm_model.specs.Moves.{Point, after, with_read_result, command_used, found, move_at, moved, next, reads_as, start, uses_arrival, uses_command}
use Rattle.vm_model.specs.Histories.{IsAwaiting, after_head}
use Rattle.vm_model.specs.Sums.{calls_after, calls_for, completion_ids, completion_ids_in, handles, handles_in, signal_ids, signal_ids_in}
use Rattle.vm_model.specs.Uses.{AreSentBy, IsGiven, IsSentBy, IsSentFor, StandFor, Stands, WasTaken, all_needed, arrivals_in, cancels_needed, given_for, ids_from, ids_of_steps, item, needed, needed_by, needed_for}
use Rattle.vm_model.proofs.Cancelling.{CancelMove, Sent, cancel_demand, cancel_move}
use Rattle.vm_model.proofs.Cancelling.CancelMove.{Arrives, Learns, Sends, Finishes}
use Rattle.vm_model.proofs.Cancels.{cancelled_ends}
use Rattle.vm_model.proofs.Parts.{IsOfOne, next_keeps, next_turn, turn_apart, turn_splits}
use Rattle.vm_model.proofs.Parted.{PartMove, WasUsed, part_moves}
use Rattle.vm_model.proofs.Parted.PartMove.{More, Last}
use Rattle.vm_model.proofs.Runs.{and_then_some, none_some}
use Rattle.vm_model.proofs.Sums.{Given, GivenAfter, GivenBy, brought_given, call_given, nothing_given, taken_counters}

-- ---- ids that were given

item_more : {A : Type 0} (k : ℕ) (xs ys : List A) (x : A) → item k xs ≡ Some x → item k (xs ++ ys) ≡ Some x
item_more k [] ys x e = absurd (cc)
item_more zero (z ∷ xs) ys x e = e
item_more (suc k) (z ∷ xs) ys x e = item_more k xs ys x e

item_behind : {A : Type 0} (xs : List A) (x : A) (ys : List A) → item (length xs) (xs ++ x ∷ ys) ≡ Some x
item_behind [] x ys = refl
item_behind (z ∷ xs) x ys = item_behind xs x ys

-- each of these handles stands for what it was given
abbrev AllGiven : List NotificationId → List Mapping → Type 0
AllGiven given ms = AllByRecursion (λ x. IsGiven given x.handle x.id) ms

given_more : (given more : List NotificationId) (handle : ℕ) (id : NotificationId) → IsGiven given handle id → IsGiven (given ++ more) handle id
given_more given more handle id (inl h) = inl h
given_more given more handle id (inr (k, at, is)) = inr (k, at, item_more k given more id is)

all_more : (given more : List NotificationId) (ms : List Mapping) → AllGiven given ms → AllGiven (given ++ more) ms
all_more given more [] h = tt
all_more given more (x ∷ ms) h = (given_more given more x.handle x.id h.0, all_more given more ms h.1)

all_both : (given : List NotificationId) (ms ns : List Mapping) → AllGiven given ms → AllGiven given ns → AllGiven given (ms ++ ns)
all_both given [] ns h k = k
all_both given (x ∷ ms) ns h k = (h.0, all_both given ms ns h.1 k)

all_unmapped : (given : List NotificationId) (handle : ℕ) (ms : List Mapping) → AllGiven given ms → AllGiven given (unmapped handle ms)
all_unmapped given handle [] h = tt
all_unmapped given handle (x ∷ ms) h = by_test (x.handle == handle) (all_unmapped given handle ms h.1)
  where
    by_test : (b : Bool) → AllGiven given (unmapped handle ms) → AllGiven given (cond b ms (x ∷ unmapped handle ms))
    by_test true ih = h.1
    by_test false ih = (h.0, ih)

all_left : (given : List NotificationId) (handle : ℕ) (b : Bool) (ms : List Mapping) → AllGiven given ms → AllGiven given (cond b ms (unmapped handle ms))
all_left given handle true ms h = h
all_left given handle false ms h = all_unmapped given handle ms h

next_given : (given : List NotificationId) (handle : ℕ) (id : NotificationId) (more : List NotificationId) → handle ≡ 17 + length given → IsGiven (given ++ id ∷ more) handle id
next_given given handle id more at = inr (length given, at, item_behind given id more)

-- handles from this one on, one for each id
mapped : ℕ → List NotificationId → List Mapping
mapped handle [] = []
mapped handle (id ∷ ids) = record { handle = handle; id = id } ∷ mapped (handle + 1) ids

mapped_ids : (n handle id : ℕ) → mapped_from n handle id ≡ mapped handle (ids_from n id)
unfolding mapped
mapped_ids zero handle id = refl
mapped_ids (suc n) handle id = ap (λ l. record { handle = handle; id = CompletionId id } ∷ l) (mapped_ids n (handle + 1) (id + 1))

mapped_given : (handle : ℕ) (ids : List NotificationId) (given : List NotificationId) → handle ≡ 17 + length given → AllGiven (given ++ ids) (mapped handle ids)
unfolding mapped
mapped_given handle [] given at = tt
mapped_given handle (id ∷ ids) given at =
    let longer : length (given ++ id ∷ []) ≡ length given + 1 = length-append given (id ∷ []) in (
      next_given given handle id ids at,
      subst (λ l. AllGiven l (mapped (handle + 1) ids)) (append_assoc given (id ∷ []) ids) (mapped_given (handle + 1) ids (given ++ id ∷ []) (omega (arith, at, longer))),
    )

ids_count : (n id : ℕ) → length (ids_from n id) ≡ n
ids_count zero id = refl
ids_count (suc n) id = ap suc (ids_count n (id + 1))

-- as many ids are given as handles
given_count : (completion signal : ℕ) (a : Ask) → length (given_for completion signal a) ≡ handles_in a
given_count completion signal (ask.Command c) = ids_count (ids_of c.message) completion
given_count completion signal (ask.Commands kind first second) = ids_count (all_ids first (second ∷ [])) completion
given_count completion signal (ask.Read r) = refl
given_count completion signal ask.Awakeable = refl
given_count completion signal (ask.Signal name) = refl
given_count completion signal (ask.Await future) = refl
given_count completion signal (ask.Take handle) = refl
given_count completion signal (ask.Completed handle) = refl
given_count completion signal ask.End = refl

-- ---- one call

-- A call gives the next handles to its ids; or it is a take that was answered with a value, whose handle is forgotten, except the
-- cancel handle.
abbrev Change : Ask → List NotificationId → List Answer → Derived → List Mapping → Type 0
Change a ids gives d held =
    (held ≡ d.handles ++ mapped d.counters.handle ids)
    ⊎ ((handle : NotificationHandle) × (value : Value) × (a ≡ ask.Take handle) × (ids ≡ []) × (gives ≡ answer.Taken (Some value) ∷ []) × (held ≡ cond (handle.0 == 1) d.handles (unmapped handle.0 d.handles)))

-- each handle stands for what it was given
all_changed : (a : Ask) (ids : List NotificationId) (gives : List Answer) (d : Derived) (held : List Mapping) (given : List NotificationId) → Change a ids gives d held → AllGiven given d.handles → d.counters.handle ≡ 17 + length given → AllGiven (given ++ ids) held
all_changed a ids gives d held given (inl is) h at =
    subst (AllGiven (given ++ ids)) (sym is) (all_both (given ++ ids) d.handles (mapped d.counters.handle ids) (all_more given ids d.handles h) (mapped_given d.counters.handle ids given at))
all_changed a ids gives d held given (inr (handle, value, is_take, none, answered, is)) h at =
    subst (λ (x : List NotificationId × List Mapping). AllGiven (given ++ x.0) x.1) (λ i. (sym none i, sym is i)) (subst (λ l. AllGiven l (cond (handle.0 == 1) d.handles (unmapped handle.0 d.handles))) (sym (append-nil given)) (all_left given handle.0 (handle.0 == 1) d.handles h))

-- ---- handles that stay

found_in_front : (handle : ℕ) (ms ns : List Mapping) (id : NotificationId) → id_at handle ms ≡ Some id → id_at handle (ms ++ ns) ≡ Some id
found_in_front handle [] ns id e = absurd (cc)
found_in_front handle (x ∷ ms) ns id e = by_test (x.handle == handle) e (found_in_front handle ms ns id)
  where
    by_test : (b : Bool) → cond b (Some x.id) (id_at handle ms) ≡ Some id → (id_at handle ms ≡ Some id → id_at handle (ms ++ ns) ≡ Some id) → cond b (Some x.id) (id_at handle (ms ++ ns)) ≡ Some id
    by_test true k ih = k
    by_test false k ih = ih k

-- no handle from the next one on was given before
none_in_front : (handle : ℕ) (ms ns : List Mapping) (given : List NotificationId) → AllGiven given ms → 17 + length given ≤ handle → id_at handle (ms ++ ns) ≡ id_at handle ns
none_in_front handle [] ns given h at = refl
none_in_front handle (x ∷ ms) ns given h at = by_test (x.handle == handle) refl (none_in_front handle ms ns given h.1 at)
  where
    within : {A : Type 0} (k : ℕ) (xs : List A) (y : A) → item k xs ≡ Some y → k < length xs
    within k [] y e = absurd (cc)
    within zero (z ∷ xs) y e = omega arith
    within (suc k) (z ∷ xs) y e = let w = within k xs y e in omega (arith, w)

    other : x.handle ≡ handle → IsGiven given x.handle x.id → ⊥
    other same (inl (one, id)) = omega (arith, same, one, at)
    other same (inr (k, is, there)) = let w = within k given x.id there in omega (arith, same, is, w, at)

    by_test : (b : Bool) → (x.handle == handle) ≡ b → id_at handle (ms ++ ns) ≡ id_at handle ns → cond b (Some x.id) (id_at handle (ms ++ ns)) ≡ id_at handle ns
    by_test true is ih = absurd (other (eqb-true x.handle handle is) h.0)
    by_test false is ih = ih

found_next : (k handle : ℕ) (ids : List NotificationId) (id : NotificationId) → item k ids ≡ Some id → id_at (handle + k) (mapped handle ids) ≡ Some id
unfolding mapped
found_next k handle [] id e = absurd (cc)
found_next zero handle (x ∷ ids) id e = rw (add-zero handle, eq-eqb handle handle refl) e
found_next (suc k) handle (x ∷ ids) id e = by_test (handle == handle + suc k) refl (let z : (handle + 1) + k ≡ handle + suc k = omega arith in ap (λ n. id_at n (mapped (handle + 1) ids)) (sym z) ∙ found_next k (handle + 1) ids id e)
  where
    by_test : (b : Bool) → (handle == handle + suc k) ≡ b → id_at (handle + suc k) (mapped (handle + 1) ids) ≡ Some id → cond b (Some x) (id_at (handle + suc k) (mapped (handle + 1) ids)) ≡ Some id
    by_test true is ih = absurd (let z = eqb-true handle (handle + suc k) is in omega (arith, z))
    by_test false is ih = ih

-- another handle's take leaves it
found_besides : (handle other : ℕ) (ms : List Mapping) (id : NotificationId) → (other == handle) ≡ false → id_at handle ms ≡ Some id → id_at handle (unmapped other ms) ≡ Some id
found_besides handle other [] id differs e = absurd (cc)
found_besides handle other (x ∷ ms) id differs e = by_tests (x.handle == other) refl (x.handle == handle) refl e (found_besides handle other ms id differs)
  where
    by_tests : (a : Bool) → (x.handle == other) ≡ a → (b : Bool) → (x.handle == handle) ≡ b → cond b (Some x.id) (id_at handle ms) ≡ Some id → (id_at handle ms ≡ Some id → id_at handle (unmapped other ms) ≡ Some id) → id_at handle (cond a ms (x ∷ unmapped other ms)) ≡ Some id
    by_tests true is true at k ih = absurd (let z : true ≡ false = sym (ap (λ n. n == handle) (sym (eqb-true x.handle other is)) ∙ at) ∙ differs in cc)
    by_tests true is false at k ih = k
    by_tests false is true at k ih = rw at k
    by_tests false is false at k ih = rw at (ih k)

item_split : {A : Type 0} (k : ℕ) (xs ys : List A) (x : A) → item k (xs ++ ys) ≡ Some x → (item k xs ≡ Some x) ⊎ ((j : ℕ) × (k ≡ length xs + j) × (item j ys ≡ Some x))
item_split k [] ys x e = inr (k, omega arith, e)
item_split zero (z ∷ xs) ys x e = inl e
item_split (suc k) (z ∷ xs) ys x e =
    ⊎_elim
    (λ (h : item k xs ≡ Some x). inl h)
    (λ (h : (j : ℕ) × (k ≡ length xs + j) × (item j ys ≡ Some x)). let i = h.1 in inr (h.0, omega (arith, i), h.2))
    (item_split k xs ys x e)

-- each id that was given stands, or its handle was taken
abbrev Held : Meaning → List NotificationId → List Answer → List Mapping → Type 0
Held m given answers held = (k : ℕ) (id : NotificationId) → item k given ≡ Some id → (id_at (17 + k) held ≡ Some id) ⊎ WasTaken m (17 + k) answers

taken_before : (m : Meaning) (handle : ℕ) (answers more : List Answer) → WasTaken m handle answers → WasTaken m handle (answers ++ more)
taken_before m handle answers more (before, value, behind, is, takes) = (before, value, behind ++ more, ap (λ l. l ++ more) is ∙ append_assoc before (answer.Taken (Some value) ∷ behind) more, takes)

take_asked : (version : Version) (st : Step) (handle : NotificationHandle) → ask_of version st ≡ ask.Take handle → st ≡ step.Take handle
take_asked version (step.Take h) handle e = let z : h ≡ handle = cc in ap step.Take z
take_asked version st handle e = absurd (cc)

held_changed : (version : Version) (m : Meaning) (answers : List Answer) (ids : List NotificationId) (gives : List Answer) (d : Derived) (held : List Mapping) (given : List NotificationId) → Change (ask_of version (m answers)) ids gives d held → AllGiven given d.handles → d.counters.handle ≡ 17 + length given → Held m given answers d.handles → Held m (given ++ ids) (answers ++ gives) held
held_changed version m answers ids gives d held given (inl is) all at h k id e =
    ⊎_elim
    (λ (there : item k given ≡ Some id).
    ⊎_elim
    (λ (stands : id_at (17 + k) d.handles ≡ Some id). inl (ap (id_at (17 + k)) is ∙ found_in_front (17 + k) d.handles (mapped d.counters.handle ids) id stands))
    (λ (taken : WasTaken m (17 + k) answers). inr (taken_before m (17 + k) answers gives taken))
    (h k id there))
    (λ (new : (j : ℕ) × (k ≡ length given + j) × (item j ids ≡ Some id)).
    let j = new.0 in
    let place = new.1 in
    let number : 17 + k ≡ d.counters.handle + j = omega (arith, at, place) in
    inl (ap (id_at (17 + k)) is ∙ none_in_front (17 + k) d.handles (mapped d.counters.handle ids) given all (omega (arith, place)) ∙ ap (λ n. id_at n (mapped d.counters.handle ids)) number ∙ found_next j d.counters.handle ids id new.2))
    (item_split k given ids id e)
held_changed version m answers ids gives d held given (inr (handle, value, is_take, none, answered, is)) all at h k id e =
    ⊎_elim
    (λ (stands : id_at (17 + k) d.handles ≡ Some id). by_test (handle.0 == (17 + k)) refl (handle.0 == 1) stands)
    (λ (taken : WasTaken m (17 + k) answers). inr (taken_before m (17 + k) answers gives taken))
    (h k id (ap (item k) (sym (append-nil given) ∙ ap (λ l. given ++ l) (sym none)) ∙ e))
  where
    forgotten : (b : Bool) → (handle.0 == (17 + k)) ≡ false → id_at (17 + k) d.handles ≡ Some id → id_at (17 + k) (cond b d.handles (unmapped handle.0 d.handles)) ≡ Some id
    forgotten true differs stands = stands
    forgotten false differs stands = found_besides (17 + k) handle.0 d.handles id differs stands

    by_test : (b : Bool) → (handle.0 == (17 + k)) ≡ b → (c : Bool) → id_at (17 + k) d.handles ≡ Some id → (id_at (17 + k) held ≡ Some id) ⊎ WasTaken m (17 + k) (answers ++ gives)
    by_test true same c stands =
        inr (answers, value, [], ap (λ l. answers ++ l) answered, take_asked version (m answers) handle is_take ∙ ap (λ n. step.Take (record { 0 = n })) (eqb-true handle.0 (17 + k) same))
    by_test false differs c stands = inl (ap (id_at (17 + k)) is ∙ forgotten (handle.0 == 1) differs stands)

-- ---- what a call needs and uses

-- what a call needs, gives and uses
record Uses (s : Setup) (a : Ask) (gives : List Answer) (d e : Derived) (demands : List Demand) : Type 0 where
  one : (given : Answer) × (gives ≡ given ∷ [])
  needs : needed_by s d.counters.completion a ≡ demands
  change : Change a (given_for d.counters.completion d.counters.signal a) gives d e.handles
  usage : arrivals_in e.usage ≡ arrivals_in d.usage

abbrev UsesAfter : Setup → Ask → Derived → Move → Type 0
UsesAfter s a d (Answers gives e) = Uses s a gives d e []
UsesAfter s a d (Needs demand gives e) = Uses s a gives d e (demand ∷ [])
UsesAfter s a d Awaits = Unit {0}
UsesAfter s a d Ends = Unit {0}
UsesAfter s a d (Refuses name) = Unit {0}

-- nothing is given
no_change : (a : Ask) (gives : List Answer) (d : Derived) → Change a [] gives d d.handles
unfolding mapped
no_change a gives d = inl (sym (append-nil d.handles))

one_change : (a : Ask) (id : NotificationId) (gives : List Answer) (d : Derived) → Change a (id ∷ []) gives d (d.handles ++ record { handle = d.counters.handle; id = id } ∷ [])
unfolding mapped
one_change a id gives d = inl refl

counted_change : (a : Ask) (n : ℕ) (gives : List Answer) (d : Derived) → Change a (ids_from n d.counters.completion) gives d (d.handles ++ mapped_from n d.counters.handle d.counters.completion)
counted_change a n gives d = inl (ap (λ l. d.handles ++ l) (mapped_ids n d.counters.handle d.counters.completion))

numbered_uses : (s : Setup) (c : Command) (o : Option NamedFault) (d : Derived) → UsesAfter s (ask.Command c) d (numbered s c o d)
numbered_uses s c (Some name) d = tt
numbered_uses s c None d = record { one = (_, refl); needs = refl; change = counted_change (ask.Command c) (ids_of c.message) _ d; usage = refl }

commanding_uses : (s : Setup) (c : Command) (o : Option NamedFault) (d : Derived) → UsesAfter s (ask.Command c) d (commanding s c o d)
commanding_uses s c (Some name) d = tt
commanding_uses s c None d = numbered_uses s c (missing_number (ids_of c.message) 0 (ids_of c.message) d.counters) d

reading_uses : (s : Setup) (r : StateRead) (o : Option NamedFault) (d : Derived) → UsesAfter s (ask.Read r) d (reading r o d)
reading_uses s r (Some name) d = tt
reading_uses s r None d = record { one = (_, refl); needs = refl; change = counted_change (ask.Read r) 1 _ d; usage = refl }

awakeable_uses : (s : Setup) (o : Option NamedFault) (d : Derived) → UsesAfter s ask.Awakeable d (awakeable_made s o d)
awakeable_uses s (Some name) d = tt
awakeable_uses s None d = record { one = (_, refl); needs = refl; change = one_change ask.Awakeable (SignalId d.counters.signal) _ d; usage = refl }

making_uses : (s : Setup) (b : Bool) (d : Derived) → UsesAfter s ask.Awakeable d (making_awakeable s b d)
making_uses s true d = tt
making_uses s false d = awakeable_uses s (missing_signals 1 1 d.counters) d

signal_uses : (s : Setup) (name : List ℕ) (o : Option NamedFault) (d : Derived) → UsesAfter s (ask.Signal name) d (signal_made name o d)
signal_uses s name (Some why) d = tt
signal_uses s name None d = record { one = (_, refl); needs = refl; change = one_change (ask.Signal name) (SignalName name) _ d; usage = refl }

awaiting_uses : (s : Setup) (a : Ask) (b : Bool) (d : Derived) → needed_by s d.counters.completion a ≡ [] → given_for d.counters.completion d.counters.signal a ≡ [] → UsesAfter s a d (awaiting b d)
awaiting_uses s a false d needs gives = tt
awaiting_uses s a true d needs gives = record { one = (_, refl); needs = needs; change = subst (λ l. Change a l (answer.Awake ∷ []) d d.handles) (sym gives) (no_change a (answer.Awake ∷ []) d); usage = refl }

noted_uses : (s : Setup) (handle : NotificationHandle) (id : NotificationId) (value : Value) (o : Option (List TrackedCall)) (d : Derived) → UsesAfter s (ask.Take handle) d (take_noting_id handle id value o d)
noted_uses s handle id value None d = tt
noted_uses s handle id value (Some tracked) d = record { one = (_, refl); needs = refl; change = inr (handle, value, refl, refl, refl, refl); usage = refl }

value_uses : (s : Setup) (handle : NotificationHandle) (id : NotificationId) (o : Option Value) (d : Derived) → UsesAfter s (ask.Take handle) d (take_of_value handle id o d)
value_uses s handle id None d = tt
value_uses s handle id (Some value) d = noted_uses s handle id value (id_noted handle.0 (id_of_value value) d.tracked) d

result_uses : (s : Setup) (handle : NotificationHandle) (id : Option NotificationId) (o : Option NotificationResult) (d : Derived) → UsesAfter s (ask.Take handle) d (take_of_result handle id o d)
result_uses s handle (Some id) (Some result) d = value_uses s handle id (value_of result) d
result_uses s handle (Some id) None d = record { one = (_, refl); needs = refl; change = no_change (ask.Take handle) (answer.Taken None ∷ []) d; usage = refl }
result_uses s handle None o d = record { one = (_, refl); needs = refl; change = no_change (ask.Take handle) (answer.Taken None ∷ []) d; usage = refl }

-- neither an await of a cancelled handler nor several commands are asked for
abbrev IsUncancelled : Setup → Ask → Derived → Type 0
IsUncancelled s (ask.Await future) d = is_cancelled_in s d ≡ false
IsUncancelled s (ask.Commands kind first second) d = ⊥
IsUncancelled s a d = Unit {0}

asked_uses : (s : Setup) (a : Ask) (d : Derived) → IsUncancelled s a d → UsesAfter s a d (asked s a d)
asked_uses s (ask.Command c) d h = commanding_uses s c c.refusal d
asked_uses s (ask.Commands kind first second) d h = absurd h
asked_uses s (ask.Read r) d h = reading_uses s r (missing_number 1 0 1 d.counters) d
asked_uses s ask.Awakeable d h = making_uses s (skips_replay s.options.journal_replay) d
asked_uses s (ask.Signal name) d h = signal_uses s name (missing_signals 0 1 d.counters) d
asked_uses s (ask.Await future) d h = subst (λ b. UsesAfter s (ask.Await future) d (awaited s b future d)) (sym h) (awaiting_uses s (ask.Await future) (is_awake s future d) d refl refl)
asked_uses s (ask.Take handle) d h = result_uses s handle (id_at handle.0 d.handles) (present_result_for s.options.signal_delivery (id_at handle.0 d.handles) (ready_in s d)) d
asked_uses s (ask.Completed handle) d h = record { one = (_, refl); needs = refl; change = no_change (ask.Completed handle) _ d; usage = refl }
asked_uses s ask.End d h = tt

-- what is asked for is several commands
abbrev AsksSeveral : Ask → Type 0
AsksSeveral a = (kind : AnswerKind) × (first : Command) × (second : Command) × (a ≡ ask.Commands kind first second)

-- a step is an await of a cancelled handler, or asks for several commands, or neither
await_or_other : (s : Setup) (d : Derived) (st : Step) → IsUncancelled s (ask_of s.version st) d ⊎ (((future : UnresolvedFuture) × (st ≡ step.Await future) × (is_cancelled_in s d ≡ true)) ⊎ AsksSeveral (ask_of s.version st))
await_or_other s d (step.Await future) = by_test (is_cancelled_in s d) refl
  where
    by_test : (b : Bool) → is_cancelled_in s d ≡ b → (is_cancelled_in s d ≡ false) ⊎ (((other : UnresolvedFuture) × (step.Await future ≡ step.Await other) × (is_cancelled_in s d ≡ true)) ⊎ AsksSeveral (ask.Await future))
    by_test true is = inr (inl (future, refl, is))
    by_test false is = inl is
await_or_other s d (step.CallWithDeadline target input time name options) = inr (inr (_, _, _, refl))
await_or_other s d st = inl tt

-- what asks for several commands doesn't ask for one or none
uncancelled_one : (s : Setup) (a : Ask) (d : Derived) → IsUncancelled s a d → IsOfOne a
uncancelled_one s (ask.Commands kind first second) d h = h
uncancelled_one s a d h = tt

-- ---- recorded commands

reads_stands : (command recorded : Message) (ignore : Bool) (result : Option NotificationResult) (b : Bool) → header_equal recorded command ignore ≡ b → (if b then Ok None else Err fault.CommandMismatch) ≡ Ok result → header_equal recorded command ignore ≡ true
reads_stands command recorded ignore result true is e = is
reads_stands command recorded ignore result false is e = absurd (cc)

message_stands : (command : Message) (ignore : Bool) (o : Option Message) (result : Option NotificationResult) → reads_as ignore command o ≡ Ok result → (recorded : Message) × (o ≡ Some recorded) × (header_equal recorded command ignore ≡ true)
message_stands command ignore None result e = absurd (cc)
message_stands command ignore (Some recorded) result e = (recorded, refl, reads_stands command recorded ignore result (header_equal recorded command ignore) refl e)

found_stands : (demand : Demand) (raw : RawMessage) (result : Option NotificationResult) → found demand raw ≡ Ok result → Stands demand raw
found_stands (Exactly command ignore) raw result e = by_type (type_number raw.ty == type_number (type_of command)) refl e
  where
    by_type : (b : Bool) → (type_number raw.ty == type_number (type_of command)) ≡ b → (if b then reads_as ignore command (message_in raw.ty raw.body) else Err fault.CommandTypeMismatch) ≡ Ok result → Stands (Exactly command ignore) raw
    by_type true is h = (eqb-true (type_number raw.ty) (type_number (type_of command)) is, message_stands command ignore (message_in raw.ty raw.body) result h)
    by_type false is h = absurd (cc)
found_stands (Reads r id) raw result e = (result, e)

stand_both : (ds es : List Demand) (us vs : List RawMessage) → StandFor ds us → StandFor es vs → StandFor (ds ++ es) (us ++ vs)
stand_both [] es [] vs h k = k
stand_both [] es (u ∷ us) vs h k = absurd h
stand_both (d ∷ ds) es [] vs h k = absurd h
stand_both (d ∷ ds) es (u ∷ us) vs h k = (h.0, stand_both ds es us vs h.1 k)

-- ---- one move

-- a call was answered
record OneCall (s : Setup) (m : Meaning) (p r : Point) : Type 0 where
  given : Answer
  answers : r.answers ≡ p.answers ++ given ∷ []
  used : List RawMessage
  left : p.left ≡ used ++ r.left
  stand : StandFor (needed_by s p.derived.counters.completion (ask_of s.version (m p.answers))) used
  queue : r.queue ≡ p.queue
  usage : arrivals_in r.derived.usage ≡ arrivals_in p.derived.usage
  change : Change (ask_of s.version (m p.answers)) (given_for p.derived.counters.completion p.derived.counters.signal (ask_of s.version (m p.answers))) (given ∷ []) p.derived r.derived.handles
  numbers : Given (completion_ids s.version (m p.answers)) (signal_ids s.version (m p.answers)) (handles s.version (m p.answers)) p.derived r.derived

-- no call was answered: some arrivals were used, or none
record Unanswered (p r : Point) : Type 0 where
  answers : r.answers ≡ p.answers
  left : r.left ≡ p.left
  came : List Notification
  queue : p.queue ≡ came ++ r.queue
  usage : arrivals_in r.derived.usage ≡ arrivals_in p.derived.usage ++ came
  numbers : Given 0 0 0 p.derived r.derived
  handles : r.derived.handles ≡ p.derived.handles

-- A call was answered; or none was; or an await of a cancelled handler used a cancel command; or a call with several commands used one.
data Moves (s : Setup) (m : Meaning) (p r : Point) : Type 0 where
  Calls : OneCall s m p r → r.derived.parts ≡ p.derived.parts → Moves s m p r
  Waits : Unanswered p r → r.derived.parts ≡ p.derived.parts → Moves s m p r
  Cancels : (future : UnresolvedFuture) (id : List ℕ) → IsAwaiting m p future → is_cancelled_in s p.derived ≡ true → Sent s id p r → r.derived.parts ≡ p.derived.parts → Moves s m p r
  Parts : (kind : AnswerKind) (first second : Command) → ask_of s.version (m p.answers) ≡ ask.Commands kind first second → PartMove s kind (turn_after s p.derived.parts first (second ∷ []) p.derived) p r → Moves s m p r

brought_same : (id : ℕ) (result : Option NotificationResult) (d : Derived) → (arrivals_in (with_read_result id result d).usage ≡ arrivals_in d.usage) × ((with_read_result id result d).handles ≡ d.handles)
brought_same id None d = (refl, refl)
brought_same id (Some result) d = (refl, refl)

-- a call with one answer gives these counts of numbers
one_given : (ids signals numbers : ℕ) (d : Derived) (gives : List Answer) (e : Derived) → (a : Answer) × (gives ≡ a ∷ []) → GivenBy ids signals numbers d gives e → (a : Answer) × (gives ≡ a ∷ []) × Given ids signals numbers d e
one_given ids signals numbers d gives e one (inl g) = g
one_given ids signals numbers d gives e (a, is) (inr (none, g)) = absurd (cc)

-- a take of the cancel signal leaves the handles
taken_handles : (o : Option NotificationId) (d : Derived) → (with_cancel_taken o d).handles ≡ d.handles
taken_handles None d = refl
taken_handles (Some id) d = refl

-- and the arrivals that were used
taken_arrivals : (o : Option NotificationId) (d : Derived) → arrivals_in (with_cancel_taken o d).usage ≡ arrivals_in d.usage
taken_arrivals None d = refl
taken_arrivals (Some id) d = refl

module _ (s : Setup) (m : Meaning) (p r : Point) where
  abbrev A : Ask
  A = ask_of s.version (m p.answers)

  abbrev Numbers : Derived → Type 0
  Numbers e = Given (completion_ids s.version (m p.answers)) (signal_ids s.version (m p.answers)) (handles s.version (m p.answers)) p.derived e

  command_moves : (o : Result (Option NotificationResult) NamedFault) (demand : Demand) (c : RawMessage) (gives : List Answer) (e : Derived) (left : List RawMessage) → found demand c ≡ o → p.left ≡ c ∷ left → (a : Answer) × (gives ≡ a ∷ []) × Numbers e → Uses s A gives p.derived e (demand ∷ []) → command_used o demand gives e left p ≡ Some r → OneCall s m p r
  command_moves (Err name) demand c gives e left is at g u moves = none_some moves
  command_moves (Ok result) demand c gives e left is at g u moves =
      let id = p.derived.counters.completion in
      let now = same_Some _ r moves in
      let same = brought_same id result e in
      record {
        given = g.0;
        answers = ap (λ z. z.answers) (sym now) ∙ ap (λ l. p.answers ++ l) g.1;
        used = c ∷ [];
        left = at ∙ ap (λ z. c ∷ z.left) now;
        stand = subst (λ l. StandFor l (c ∷ [])) (sym u.needs) (found_stands demand c result is, tt);
        queue = ap (λ z. z.queue) (sym now);
        usage = ap (λ z. arrivals_in z.derived.usage) (sym now) ∙ same.0 ∙ u.usage;
        change = subst (λ (x : List Answer × List Mapping). Change A (given_for p.derived.counters.completion p.derived.counters.signal A) x.0 p.derived x.1) (λ i. (g.1 i, (sym same.1 ∙ ap (λ z. z.derived.handles) now) i)) u.change;
        numbers = subst (λ z. Numbers z.derived) now (brought_given _ _ _ id result p.derived e g.2);
      }

  uses_moves : (demand : Demand) (gives : List Answer) (e : Derived) (left : List RawMessage) → p.left ≡ left → (a : Answer) × (gives ≡ a ∷ []) × Numbers e → Uses s A gives p.derived e (demand ∷ []) → uses_command demand gives e left p ≡ Some r → OneCall s m p r
  uses_moves demand gives e [] at g u moves = none_some moves
  uses_moves demand gives e (c ∷ left) at g u moves = command_moves (found demand c) demand c gives e left refl at g u moves

  arrival_moves : (queue : List Notification) → p.queue ≡ queue → uses_arrival queue p ≡ Some r → Unanswered p r
  arrival_moves [] at moves = none_some moves
  arrival_moves (n ∷ queue) at moves =
      let now = same_Some _ r moves in
      record {
        answers = ap (λ z. z.answers) (sym now);
        left = ap (λ z. z.left) (sym now);
        came = n ∷ [];
        queue = at ∙ ap (λ z. n ∷ z.queue) now;
        usage = ap (λ z. arrivals_in z.derived.usage) (sym now);
        numbers = nothing_given p.derived r.derived (ap (λ z. z.derived.counters) (sym now));
        handles = ap (λ z. z.derived.handles) (sym now);
      }

  moves_are : (mv : Move) → r.derived.parts ≡ p.derived.parts → GivenAfter (completion_ids s.version (m p.answers)) (signal_ids s.version (m p.answers)) (handles s.version (m p.answers)) p.derived mv → UsesAfter s A p.derived mv → moved mv p ≡ Some r → Moves s m p r
  moves_are (Answers gives e) keeps g u moves =
      let now = same_Some _ r moves in
      let one = one_given _ _ _ p.derived gives e u.one g in
      Calls (record {
        given = one.0;
        answers = ap (λ z. z.answers) (sym now) ∙ ap (λ l. p.answers ++ l) one.1;
        used = [];
        left = ap (λ z. z.left) now;
        stand = subst (λ l. StandFor l []) (sym u.needs) tt;
        queue = ap (λ z. z.queue) (sym now);
        usage = ap (λ z. arrivals_in z.derived.usage) (sym now) ∙ u.usage;
        change = subst (λ (x : List Answer × List Mapping). Change A (given_for p.derived.counters.completion p.derived.counters.signal A) x.0 p.derived x.1) (λ i. (one.1 i, ap (λ z. z.derived.handles) now i)) u.change;
        numbers = subst (λ z. Numbers z.derived) now one.2;
      }) keeps
  moves_are (Needs demand gives e) keeps g u moves = Calls (uses_moves demand gives e p.left refl (one_given _ _ _ p.derived gives e u.one g) u moves) keeps
  moves_are Awaits keeps g u moves = Waits (arrival_moves p.queue refl moves) keeps
  moves_are Ends keeps g u moves = none_some moves
  moves_are (Refuses name) keeps g u moves = none_some moves

  cancel_moves : (future : UnresolvedFuture) → IsAwaiting m p future → is_cancelled_in s p.derived ≡ true → r.derived.parts ≡ p.derived.parts → CancelMove s p r → Moves s m p r
  cancel_moves future at cancelled keeps (Arrives handle handles n queue first none is now) = Waits (record {
    answers = ap (λ z. z.answers) (sym now);
    left = ap (λ z. z.left) (sym now);
    came = n ∷ [];
    queue = is ∙ ap (λ z. n ∷ z.queue) now;
    usage = ap (λ z. arrivals_in z.derived.usage) (sym now);
    numbers = nothing_given p.derived r.derived (ap (λ z. z.derived.counters) (sym now));
    handles = ap (λ z. z.derived.handles) (sym now);
  }) keeps
  cancel_moves future at cancelled keeps (Learns handle handles id first is now) = Waits (record {
    answers = ap (λ z. z.answers) (sym now);
    left = ap (λ z. z.left) (sym now);
    came = [];
    queue = ap (λ z. z.queue) now;
    usage = ap (λ z. arrivals_in z.derived.usage) (sym now) ∙ sym (append-nil (arrivals_in p.derived.usage));
    numbers = nothing_given p.derived r.derived (ap (λ z. z.derived.counters) (sym now));
    handles = ap (λ z. z.derived.handles) (sym now);
  }) keeps
  cancel_moves future at cancelled keeps (Sends id ids known is sent) = Cancels future id at cancelled sent keeps
  cancel_moves future at cancelled keeps (Finishes known is now) =
      let o = id_at 1 p.derived.handles in
      let e : Derived = record p.derived { tracked = [] } in
      let gives = answer.Cancelled ∷ [] in
      let held : r.derived.handles ≡ p.derived.handles = ap (λ z. z.derived.handles) (sym now) ∙ taken_handles o e in
      let counters : r.derived.counters ≡ p.derived.counters = ap (λ z. z.derived.counters) (sym now) ∙ taken_counters o e in
      let ids = λ (st : Step). given_for p.derived.counters.completion p.derived.counters.signal (ask_of s.version st) in
      Calls (record {
        given = answer.Cancelled;
        answers = ap (λ z. z.answers) (sym now);
        used = [];
        left = ap (λ z. z.left) now;
        stand = subst (λ st. StandFor (needed_by s p.derived.counters.completion (ask_of s.version st)) []) (sym at) tt;
        queue = ap (λ z. z.queue) (sym now);
        usage = ap (λ z. arrivals_in z.derived.usage) (sym now) ∙ taken_arrivals o e;
        change = subst (λ st. Change (ask_of s.version st) (ids st) gives p.derived r.derived.handles) (sym at) (subst (Change (ask.Await future) [] gives p.derived) (sym held) (no_change (ask.Await future) gives p.derived));
        numbers = subst (λ st. Given (completion_ids s.version st) (signal_ids s.version st) (handles s.version st) p.derived r.derived) (sym at) (nothing_given p.derived r.derived counters);
      }) keeps

  next_moves : next s m p ≡ Some r → Moves s m p r
  next_moves e =
      ⊎_elim
      (λ (h : IsUncancelled s A p.derived). moves_are (move_at s m p) (next_keeps s m p r (uncancelled_one s A p.derived h) e) (call_given s (m p.answers) p.derived) (asked_uses s A p.derived h) e)
      (λ (x : ((future : UnresolvedFuture) × IsAwaiting m p future × (is_cancelled_in s p.derived ≡ true)) ⊎ AsksSeveral A).
      ⊎_elim
      (λ (h : (future : UnresolvedFuture) × IsAwaiting m p future × (is_cancelled_in s p.derived ≡ true)).
      let one : IsOfOne A = subst (λ st. IsOfOne (ask_of s.version st)) (sym h.1) tt in
      cancel_moves h.0 h.1 h.2 (next_keeps s m p r one e) (cancel_move s m p r h.0 h.1 h.2 e))
      (λ (h : AsksSeveral A).
      let t = turn_after s p.derived.parts h.1 (h.2 ∷ []) p.derived in
      Parts h.0 h.1 h.2 h.3 (part_moves s h.0 (refused_before t.command t.behind t.before.counters) t p r (subst (λ a. moved (asked s a p.derived) p ≡ Some r) h.3 e)))
      x)
      (await_or_other s p.derived (m p.answers))

-- ---- several moves

-- the next numbers come after these counts of earlier ones, and each handle stands for what it was
-- given
record Stood (m : Meaning) (completions signals : ℕ) (given : List NotificationId) (answers : List Answer) (d : Derived) : Type 0 where
  completion : d.counters.completion ≡ 1 + completions
  signal : d.counters.signal ≡ 17 + signals
  handle : d.counters.handle ≡ 17 + length given
  all : AllGiven given d.handles
  held : Held m given answers d.handles

-- These commands stand for what the calls with these answers need, for the cancel commands of the call that comes next, and for what it
-- needs of these.
abbrev Accounts : Setup → Meaning → ℕ → List Answer → List Answer → Step → List Demand → List RawMessage → Type 0
Accounts s m completions before gained st next used =
    (cancels : List (List (List ℕ))) × (sent : List (List ℕ)) × AreSentBy gained cancels × IsSentFor st sent × StandFor (needed s completions (calls_after m before gained) cancels ++ (cancels_needed s sent ++ next)) used

-- a call may send the cancel signal to none
none_by : (a : Answer) → IsSentBy a []
none_by answer.Cancelled = tt
none_by a = refl

-- so may the call that comes next
none_for : (st : Step) → IsSentFor st []
none_for (step.Await future) = tt
none_for st = refl

-- a call that sends no cancel signal is answered
call_accounts : (s : Setup) (m : Meaning) (completions : ℕ) (before : List Answer) (a : Answer) (gained : List Answer) (st : Step) (next : List Demand) (us vs : List RawMessage) → StandFor (needed_by s (1 + completions) (ask_of s.version (m before))) us → Accounts s m (completions + completion_ids s.version (m before)) (before ++ a ∷ []) gained st next vs
    → Accounts s m completions before (a ∷ gained) st next (us ++ vs)
call_accounts s m completions before a gained st next us vs own (cancels, sent, by, for, stand) =
    let first = needed_by s (1 + completions) (ask_of s.version (m before)) in
    let others = needed s (completions + completion_ids s.version (m before)) (calls_after m (before ++ a ∷ []) gained) cancels in
    ([] ∷ cancels, sent, (none_by a, by), for, subst (λ l. StandFor l (us ++ vs)) (sym (append_assoc first others (cancels_needed s sent ++ next))) (stand_both first (others ++ (cancels_needed s sent ++ next)) us vs own stand))

-- an await sends the cancel signal once more before
cancel_accounts : (s : Setup) (m : Meaning) (completions : ℕ) (before gained : List Answer) (future : UnresolvedFuture) (st : Step) (next : List Demand) (id : List ℕ) (c : RawMessage) (used : List RawMessage) → m before ≡ step.Await future → (gained ≡ [] → st ≡ step.Await future) → ((a : Answer) (more : List Answer) → gained ≡ a ∷ more → a ≡ answer.Cancelled) → Stands (cancel_demand s id) c
    → Accounts s m completions before gained st next used → Accounts s m completions before gained st next (c ∷ used)
cancel_accounts s m completions before [] future st demands id c used at next cancelled stands (cancels, sent, by, for, stand) = (cancels, id ∷ sent, by, subst (λ x. IsSentFor x (id ∷ sent)) (sym (next refl)) tt, (stands, stand))
cancel_accounts s m completions before (a ∷ gained) future st demands id c used at next cancelled stands ([], sent, by, for, stand) = absurd by
cancel_accounts s m completions before (a ∷ gained) future st demands id c used at next cancelled stands (others ∷ cancels, sent, (one, by), for, stand) =
    let more = needed s (completions + completion_ids s.version (m before)) (calls_after m (before ++ a ∷ []) gained) cancels in
    let own = λ (x : Step). needed_by s (1 + completions) (ask_of s.version x) in
    let stand' : StandFor ((cancels_needed s others ++ more) ++ (cancels_needed s sent ++ demands)) used = subst (λ x. StandFor ((own x ++ (cancels_needed s others ++ more)) ++ (cancels_needed s sent ++ demands)) used) at stand in (
      (id ∷ others) ∷ cancels,
      sent,
      (subst (λ x. IsSentBy x (id ∷ others)) (sym (cancelled a gained refl)) tt, by),
      for,
      subst (λ x. StandFor ((own x ++ (cancels_needed s (id ∷ others) ++ more)) ++ (cancels_needed s sent ++ demands)) (c ∷ used)) (sym at) (stands, stand'),
    )

-- what is needed of the call that comes next for as many of its commands as are made
abbrev next_needed : Setup → Meaning → Point → List Demand
next_needed s m q = take q.derived.parts (needed_by s q.derived.counters.completion (ask_of s.version (m q.answers)))

-- what was used between two points, and what the handles stand for
record Used (s : Setup) (m : Meaning) (completions signals : ℕ) (given : List NotificationId) (p q : Point) : Type 0 where
  gained : List Answer
  answers : q.answers ≡ p.answers ++ gained
  used : List RawMessage
  left : p.left ≡ used ++ q.left
  accounts : Accounts s m completions p.answers gained (m q.answers) (next_needed s m q) used
  came : List Notification
  queue : p.queue ≡ came ++ q.queue
  usage : arrivals_in q.derived.usage ≡ arrivals_in p.derived.usage ++ came
  all : AllGiven (given ++ ids_of_steps s.version completions signals (calls_after m p.answers gained)) q.derived.handles
  held : Held m (given ++ ids_of_steps s.version completions signals (calls_after m p.answers gained)) q.answers q.derived.handles

used_none : (s : Setup) (m : Meaning) (completions signals : ℕ) (given : List NotificationId) (p : Point) → p.derived.parts ≡ 0 → Stood m completions signals given p.answers p.derived → Used s m completions signals given p p
used_none s m completions signals given p rests h = record {
  gained = [];
  answers = sym (append-nil p.answers);
  used = [];
  left = refl;
  accounts = ([], [], refl, none_for (m p.answers), subst (λ n. StandFor (take n (needed_by s p.derived.counters.completion (ask_of s.version (m p.answers)))) []) (sym rests) tt);
  came = [];
  queue = refl;
  usage = sym (append-nil (arrivals_in p.derived.usage));
  all = subst (λ l. AllGiven l p.derived.handles) (sym (append-nil given)) h.all;
  held = subst (λ l. Held m l p.answers p.derived.handles) (sym (append-nil given)) h.held;
}

module _ (s : Setup) (m : Meaning) (completions signals : ℕ) (given : List NotificationId) (p r : Point) (h : Stood m completions signals given p.answers p.derived) where
  abbrev call : Ask
  call = ask_of s.version (m p.answers)

  abbrev more : List NotificationId
  more = given_for (1 + completions) (17 + signals) call

  -- the numbers after a call
  stood_on : OneCall s m p r → Stood m (completions + completion_ids s.version (m p.answers)) (signals + signal_ids s.version (m p.answers)) (given ++ more) r.answers r.derived
  stood_on o =
      let n = o.numbers in
      let c0 = h.completion in
      let c1 = n.completion in
      let s0 = h.signal in
      let s1 = n.signal in
      let h0 = h.handle in
      let h1 = n.handle in
      let change : Change call more (o.given ∷ []) p.derived r.derived.handles = subst (λ l. Change call l (o.given ∷ []) p.derived r.derived.handles) (λ i. given_for (h.completion i) (h.signal i) call) o.change in
      let l0 : length (given ++ more) ≡ length given + handles s.version (m p.answers) = length-append given more ∙ ap (λ k. length given + k) (given_count (1 + completions) (17 + signals) call) in
      record {
        completion = omega (arith, c0, c1);
        signal = omega (arith, s0, s1);
        handle = omega (arith, h0, h1, l0);
        all = all_changed call more (o.given ∷ []) p.derived r.derived.handles given change h.all h.handle;
        held = subst (λ l. Held m (given ++ more) l r.derived.handles) (sym o.answers) (held_changed s.version m p.answers more (o.given ∷ []) p.derived r.derived.handles given change h.all h.handle h.held);
      }

  used_call : (q : Point) → (o : OneCall s m p r) → Used s m (completions + completion_ids s.version (m p.answers)) (signals + signal_ids s.version (m p.answers)) (given ++ more) r q → Used s m completions signals given p q
  used_call q o t =
      let steps = calls_after m r.answers t.gained in
      let same : steps ≡ calls_after m (p.answers ++ o.given ∷ []) t.gained = ap (λ l. calls_after m l t.gained) o.answers in
      let accounts = subst (λ l. Accounts s m (completions + completion_ids s.version (m p.answers)) l t.gained (m q.answers) (next_needed s m q) t.used) o.answers t.accounts in
      let all = subst (λ l. AllGiven l q.derived.handles) (append_assoc given more (ids_of_steps s.version (completions + completion_ids s.version (m p.answers)) (signals + signal_ids s.version (m p.answers)) steps)) t.all in
      let held = subst (λ l. Held m l q.answers q.derived.handles) (append_assoc given more (ids_of_steps s.version (completions + completion_ids s.version (m p.answers)) (signals + signal_ids s.version (m p.answers)) steps)) t.held in
      record {
        gained = o.given ∷ t.gained;
        answers = t.answers ∙ ap (λ l. l ++ t.gained) o.answers ∙ append_assoc p.answers (o.given ∷ []) t.gained;
        used = o.used ++ t.used;
        left = o.left ∙ ap (λ l. o.used ++ l) t.left ∙ sym (append_assoc o.used t.used q.left);
        accounts = call_accounts s m completions p.answers o.given t.gained (m q.answers) (next_needed s m q) o.used t.used (subst (λ k. StandFor (needed_by s k call) o.used) h.completion o.stand) accounts;
        came = t.came;
        queue = sym o.queue ∙ t.queue;
        usage = t.usage ∙ ap (λ l. l ++ t.came) o.usage;
        all = subst (λ l. AllGiven (given ++ (more ++ ids_of_steps s.version (completions + completion_ids s.version (m p.answers)) (signals + signal_ids s.version (m p.answers)) l)) q.derived.handles) same all;
        held = subst (λ l. Held m (given ++ (more ++ ids_of_steps s.version (completions + completion_ids s.version (m p.answers)) (signals + signal_ids s.version (m p.answers)) l)) q.answers q.derived.handles) same held;
      }

  -- the numbers and handles stay
  stood_still : r.answers ≡ p.answers → Given 0 0 0 p.derived r.derived → r.derived.handles ≡ p.derived.handles → Stood m completions signals given r.answers r.derived
  stood_still answers n held =
      let c0 = h.completion in
      let c1 = n.completion in
      let s0 = h.signal in
      let s1 = n.signal in
      let h0 = h.handle in
      let h1 = n.handle in
      record {
        completion = omega (arith, c0, c1);
        signal = omega (arith, s0, s1);
        handle = omega (arith, h0, h1);
        all = subst (AllGiven given) (sym held) h.all;
        held = subst (λ (x : List Answer × List Mapping). Held m given x.0 x.1) (λ i. (sym answers i, sym held i)) h.held;
      }

  used_unanswered : (q : Point) → (o : Unanswered p r) → Used s m completions signals given r q → Used s m completions signals given p q
  used_unanswered q o t =
      let same : calls_after m r.answers t.gained ≡ calls_after m p.answers t.gained = ap (λ l. calls_after m l t.gained) o.answers in
      record {
        gained = t.gained;
        answers = t.answers ∙ ap (λ l. l ++ t.gained) o.answers;
        used = t.used;
        left = sym o.left ∙ t.left;
        accounts = subst (λ l. Accounts s m completions l t.gained (m q.answers) (next_needed s m q) t.used) o.answers t.accounts;
        came = o.came ++ t.came;
        queue = o.queue ∙ ap (λ l. o.came ++ l) t.queue ∙ sym (append_assoc o.came t.came q.queue);
        usage = t.usage ∙ ap (λ l. l ++ t.came) o.usage ∙ append_assoc (arrivals_in p.derived.usage) o.came t.came;
        all = subst (λ l. AllGiven (given ++ ids_of_steps s.version completions signals l) q.derived.handles) same t.all;
        held = subst (λ l. Held m (given ++ ids_of_steps s.version completions signals l) q.answers q.derived.handles) same t.held;
      }

  used_cancel : (q : Point) (future : UnresolvedFuture) (id : List ℕ) → IsAwaiting m p future → (o : Sent s id p r) → ((a : Answer) (more : List Answer) → q.answers ≡ p.answers ++ a ∷ more → a ≡ answer.Cancelled) → Used s m completions signals given r q → Used s m completions signals given p q
  used_cancel q future id at o cancelled t =
      let same : calls_after m r.answers t.gained ≡ calls_after m p.answers t.gained = ap (λ l. calls_after m l t.gained) o.answers in
      let answers : q.answers ≡ p.answers ++ t.gained = t.answers ∙ ap (λ l. l ++ t.gained) o.answers in
      record {
        gained = t.gained;
        answers = answers;
        used = o.used ∷ t.used;
        left = o.left ∙ ap (λ l. o.used ∷ l) t.left;
        accounts = cancel_accounts s m completions p.answers t.gained future (m q.answers) (next_needed s m q) id o.used t.used at
            (λ none. ap m (answers ∙ ap (λ l. p.answers ++ l) none ∙ append-nil p.answers) ∙ at)
            (λ a more is. cancelled a more (answers ∙ ap (λ l. p.answers ++ l) is))
            (found_stands (cancel_demand s id) o.used None o.stands)
            (subst (λ l. Accounts s m completions l t.gained (m q.answers) (next_needed s m q) t.used) o.answers t.accounts);
        came = t.came;
        queue = sym o.queue ∙ t.queue;
        usage = t.usage ∙ ap (λ us. arrivals_in us ++ t.came) o.usage;
        all = subst (λ l. AllGiven (given ++ ids_of_steps s.version completions signals l) q.derived.handles) same t.all;
        held = subst (λ l. Held m (given ++ ids_of_steps s.version completions signals l) q.answers q.derived.handles) same t.held;
      }

-- ---- a call with several commands

-- From a point at which a call with several commands begins, some number of them is made.
record HasMade (s : Setup) (m : Meaning) (first second : Command) (p r : Point) : Type 0 where
  answers : r.answers ≡ p.answers
  used : List RawMessage
  left : p.left ≡ used ++ r.left
  queue : r.queue ≡ p.queue
  derived : r.derived ≡ record p.derived { parts = r.derived.parts }
  demands : List Demand
  stand : StandFor demands used
  count : length demands ≡ r.derived.parts
  all : demands ++ (let t = turn_after s r.derived.parts first (second ∷ []) p.derived in all_needed s t.before.counters.completion t.command t.behind) ≡ all_needed s p.derived.counters.completion first (second ∷ [])

made_none : (s : Setup) (m : Meaning) (first second : Command) (p : Point) → p.derived.parts ≡ 0 → HasMade s m first second p p
made_none s m first second p rests = record {
  answers = refl;
  used = [];
  left = refl;
  queue = refl;
  derived = refl;
  demands = [];
  stand = tt;
  count = sym rests;
  all = ap (λ n. let t = turn_after s n first (second ∷ []) p.derived in all_needed s t.before.counters.completion t.command t.behind) rests;
}

-- the turn by the point that the call begins at
turn_from : (s : Setup) (m : Meaning) (first second : Command) (p r : Point) → HasMade s m first second p r → turn_after s r.derived.parts first (second ∷ []) r.derived ≡ (let t = turn_after s r.derived.parts first (second ∷ []) p.derived in record { command = t.command; behind = t.behind; before = record t.before { parts = r.derived.parts } })
turn_from s m first second p r h = ap (turn_after s r.derived.parts first (second ∷ [])) h.derived ∙ turn_apart s r.derived.parts first (second ∷ []) p.derived r.derived.parts

take_front : {A : Type 0} (xs ys : List A) → take (length xs) (xs ++ ys) ≡ xs
take_front [] ys = refl
take_front (x ∷ xs) ys = ap (λ l. x ∷ l) (take_front xs ys)

module _ (s : Setup) (m : Meaning) (kind : AnswerKind) (first second : Command) (p : Point) (is : ask_of s.version (m p.answers) ≡ ask.Commands kind first second) where
  abbrev turn : ℕ → Turn
  turn n = turn_after s n first (second ∷ []) p.derived

  -- one more
  made_more : (r q : Point) (h : HasMade s m first second p r) (b : Command) (bs : List Command) → (turn r.derived.parts).behind ≡ b ∷ bs
      → WasUsed (needed_for s (turn r.derived.parts).before.counters.completion (turn r.derived.parts).command) [] (record r.derived { parts = suc r.derived.parts }) r q → HasMade s m first second p q
  made_more r q h b bs more u =
      let n = r.derived.parts in
      let t = turn n in
      let d = needed_for s t.before.counters.completion t.command in
      let parts : q.derived.parts ≡ suc n = ap (λ e. e.parts) u.derived in
      let next : turn (suc n) ≡ record { command = b; behind = bs; before = behind_command s t.command t.before } = next_turn s n first (second ∷ []) p.derived b bs more in
      let rest : all_needed s t.before.counters.completion t.command t.behind ≡ d ∷ (let x = turn q.derived.parts in all_needed s x.before.counters.completion x.command x.behind) =
      ap (all_needed s t.before.counters.completion t.command) more ∙ ap (λ (x : Turn). d ∷ all_needed s x.before.counters.completion x.command x.behind) (sym (ap turn parts ∙ next)) in
      let counts = h.count in
      let longer : length (h.demands ++ d ∷ []) ≡ length h.demands + 1 = length-append h.demands (d ∷ []) in
      record {
        answers = u.answers ∙ append-nil r.answers ∙ h.answers;
        used = h.used ++ u.used ∷ [];
        left = h.left ∙ ap (λ l. h.used ++ l) u.left ∙ sym (append_assoc h.used (u.used ∷ []) q.left);
        queue = u.queue ∙ h.queue;
        derived = u.derived ∙ (λ i. record (h.derived i) { parts = sym parts i });
        demands = h.demands ++ d ∷ [];
        stand = stand_both h.demands (d ∷ []) h.used (u.used ∷ []) h.stand (found_stands d u.used None u.stands, tt);
        count = omega (arith, counts, longer, parts);
        all = append_assoc h.demands (d ∷ []) _ ∙ ap (λ l. h.demands ++ l) (sym rest) ∙ h.all;
      }

  -- with the last the call is answered
  made_last : (r q : Point) (h : HasMade s m first second p r) → (turn r.derived.parts).behind ≡ []
      → WasUsed (needed_for s (turn r.derived.parts).before.counters.completion (turn r.derived.parts).command) (answer_by kind (record { 0 = r.derived.counters.handle }) ∷ []) (record (behind_command s (turn r.derived.parts).command (turn r.derived.parts).before) { parts = 0 }) r q → OneCall s m p q
  made_last r q h none u =
      let t = turn r.derived.parts in
      let d = needed_for s t.before.counters.completion t.command in
      let a = answer_by kind (record { 0 = r.derived.counters.handle }) in
      let g = turn_splits s r.derived.parts first (second ∷ []) p.derived in
      let ids = all_ids first (second ∷ []) in
      let own : all_needed s t.before.counters.completion t.command t.behind ≡ d ∷ [] = ap (all_needed s t.before.counters.completion t.command) none in
      let own_ids : all_ids t.command t.behind ≡ ids_of t.command.message = ap (all_ids t.command) none in
      let gc = g.completion in
      let gh = g.handle in
      let last : q.derived.handles ≡ p.derived.handles ++ mapped_from ids p.derived.counters.handle p.derived.counters.completion =
      ap (λ e. e.handles) u.derived ∙ ap (λ n. t.before.handles ++ mapped_from n t.before.counters.handle t.before.counters.completion) (sym own_ids) ∙ g.handles in
      let c1 : q.derived.counters.completion ≡ t.before.counters.completion + ids_of t.command.message = ap (λ e. e.counters.completion) u.derived in
      let h1 : q.derived.counters.handle ≡ t.before.counters.handle + ids_of t.command.message = ap (λ e. e.counters.handle) u.derived in
      record {
        given = a;
        answers = u.answers ∙ ap (λ l. l ++ a ∷ []) h.answers;
        used = h.used ++ u.used ∷ [];
        left = h.left ∙ ap (λ l. h.used ++ l) u.left ∙ sym (append_assoc h.used (u.used ∷ []) q.left);
        stand = subst (λ x. StandFor (needed_by s p.derived.counters.completion x) (h.used ++ u.used ∷ [])) (sym is)
            (subst (λ l. StandFor l (h.used ++ u.used ∷ [])) (ap (λ l. h.demands ++ l) (sym own) ∙ h.all) (stand_both h.demands (d ∷ []) h.used (u.used ∷ []) h.stand (found_stands d u.used None u.stands, tt)));
        queue = u.queue ∙ h.queue;
        usage = ap (λ e. arrivals_in e.usage) u.derived ∙ ap arrivals_in g.usage;
        change = subst (λ x. Change x (given_for p.derived.counters.completion p.derived.counters.signal x) (a ∷ []) p.derived q.derived.handles) (sym is) (inl (last ∙ ap (λ l. p.derived.handles ++ l) (mapped_ids ids p.derived.counters.handle p.derived.counters.completion)));
        numbers = subst (λ x. Given (completion_ids_in x) (signal_ids_in x) (handles_in x) p.derived q.derived) (sym is) (record {
          completion = omega (arith, c1, own_ids, gc);
          signal = ap (λ e. e.counters.signal) u.derived ∙ g.signal ∙ sym (add-zero p.derived.counters.signal);
          handle = omega (arith, h1, own_ids, gh);
        });
      }

  -- here it stands
  used_within : (completions signals : ℕ) (given : List NotificationId) (q : Point) → Stood m completions signals given p.answers p.derived → HasMade s m first second p q → Used s m completions signals given p q
  used_within completions signals given q h b =
      let counters : q.derived.counters ≡ p.derived.counters = ap (λ e. e.counters) b.derived in
      let asks : ask_of s.version (m q.answers) ≡ ask.Commands kind first second = ap (λ l. ask_of s.version (m l)) b.answers ∙ is in
      let made : next_needed s m q ≡ b.demands =
      (λ i. take (sym b.count i) (needed_by s (counters i).completion (asks i))) ∙ ap (take (length b.demands)) (sym b.all) ∙ take_front b.demands _ in
      let held : q.derived.handles ≡ p.derived.handles = ap (λ e. e.handles) b.derived in
      record {
        gained = [];
        answers = b.answers ∙ sym (append-nil p.answers);
        used = b.used;
        left = b.left;
        accounts = ([], [], refl, none_for (m q.answers), subst (λ l. StandFor l b.used) (sym made) b.stand);
        came = [];
        queue = sym b.queue;
        usage = ap (λ e. arrivals_in e.usage) b.derived ∙ sym (append-nil (arrivals_in p.derived.usage));
        all = subst (λ (x : List NotificationId × List Mapping). AllGiven x.0 x.1) (λ i. (sym (append-nil given) i, sym held i)) h.all;
        held = subst (λ (x : List NotificationId × List Answer × List Mapping). Held m x.0 x.1 x.2) (λ i. (sym (append-nil given) i, sym b.answers i, sym held i)) h.held;
      }

-- A run stands at a point, or a call with several commands that begins there has made some of them.
data StandsAt (s : Setup) (m : Meaning) (p r : Point) : Type 0 where
  Here : p ≡ r → StandsAt s m p r
  Within : (kind : AnswerKind) (first second : Command) → ask_of s.version (m p.answers) ≡ ask.Commands kind first second → HasMade s m first second p r → StandsAt s m p r

after_used : (s : Setup) (m : Meaning) (n completions signals : ℕ) (given : List NotificationId) (p r q : Point) → p.derived.parts ≡ 0 → Stood m completions signals given p.answers p.derived → StandsAt s m p r → after s m n r ≡ Some q → Used s m completions signals given p q
after_used s m zero completions signals given p r q rests h (Here same) e = subst (λ z. Used s m completions signals given p z) (same ∙ same_Some _ q e) (used_none s m completions signals given p rests h)
after_used s m zero completions signals given p r q rests h (Within kind first second is made) e = subst (λ z. Used s m completions signals given p z) (same_Some _ q e) (used_within s m kind first second p is completions signals given r h made)
after_used s m (suc n) completions signals given p r q rests h (Here same) e =
    let x = and_then_some (next s m p) (after s m n) q (ap (λ z. after s m (suc n) z) same ∙ e) in
    by_move x.0 (next_moves s m p x.0 x.1) (λ c g l to rests k at. after_used s m n c g l to x.0 q rests k at x.2)
  where
    by_part : (kind : AnswerKind) (first second : Command) (z : Point) → ask_of s.version (m p.answers) ≡ ask.Commands kind first second → PartMove s kind (turn_after s p.derived.parts first (second ∷ []) p.derived) p z
        → ((c g : ℕ) (l : List NotificationId) (to : Point) → to.derived.parts ≡ 0 → Stood m c g l to.answers to.derived → StandsAt s m to z → Used s m c g l to q) → Used s m completions signals given p q
    by_part kind first second z is (More b bs more u) ih = ih completions signals given p rests h (Within kind first second is (made_more s m kind first second p is p z (made_none s m first second p rests) b bs more u))
    by_part kind first second z is (Last none u) ih =
        let o = made_last s m kind first second p is p z (made_none s m first second p rests) none u in
        used_call s m completions signals given p z h q o (ih _ _ _ z (ap (λ e. e.parts) u.derived) (stood_on s m completions signals given p z h o) (Here refl))

    by_move : (z : Point) → Moves s m p z → ((c g : ℕ) (l : List NotificationId) (to : Point) → to.derived.parts ≡ 0 → Stood m c g l to.answers to.derived → StandsAt s m to z → Used s m c g l to q) → Used s m completions signals given p q
    by_move z (Calls o keeps) ih = used_call s m completions signals given p z h q o (ih _ _ _ z (keeps ∙ rests) (stood_on s m completions signals given p z h o) (Here refl))
    by_move z (Waits o keeps) ih = used_unanswered s m completions signals given p z h q o (ih completions signals given z (keeps ∙ rests) (stood_still s m completions signals given p z h o.answers o.numbers o.handles) (Here refl))
    by_move z (Cancels future id at cancelled o keeps) ih =
        used_cancel s m completions signals given p z h q future id at o (λ a more is. (cancelled_ends s m future (suc n) p q a more at cancelled (ap (λ z. after s m (suc n) z) same ∙ e) is).answered)
        (ih completions signals given z (keeps ∙ rests) (stood_still s m completions signals given p z h o.answers o.numbers o.handles) (Here refl))
    by_move z (Parts kind first second is moves) ih = by_part kind first second z is moves ih
after_used s m (suc n) completions signals given p r q rests h (Within kind first second is made) e =
    let x = and_then_some (next s m r) (after s m n) q e in
    let asks : ask_of s.version (m r.answers) ≡ ask.Commands kind first second = ap (λ l. ask_of s.version (m l)) made.answers ∙ is in
    let t = turn_after s r.derived.parts first (second ∷ []) r.derived in
    by_part x.0 (subst (λ y. PartMove s kind y r x.0) (turn_from s m first second p r made) (part_moves s kind (refused_before t.command t.behind t.before.counters) t r x.0 (subst (λ a. moved (asked s a r.derived) r ≡ Some x.0) asks x.1)))
    (λ c g l to rests k at. after_used s m n c g l to x.0 q rests k at x.2)
  where
    by_part : (z : Point) → PartMove s kind (let t = turn_after s r.derived.parts first (second ∷ []) p.derived in record { command = t.command; behind = t.behind; before = record t.before { parts = r.derived.parts } }) r z
        → ((c g : ℕ) (l : List NotificationId) (to : Point) → to.derived.parts ≡ 0 → Stood m c g l to.answers to.derived → StandsAt s m to z → Used s m c g l to q) → Used s m completions signals given p q
    by_part z (More b bs more u) ih = ih completions signals given p rests h (Within kind first second is (made_more s m kind first second p is r z made b bs more u))
    by_part z (Last none u) ih =
        let o = made_last s m kind first second p is r z made none u in
        used_call s m completions signals given p z h q o (ih _ _ _ z (ap (λ e. e.parts) u.derived) (stood_on s m completions signals given p z h o) (Here refl))

-- ---- the laws

first_stood : (s : Setup) (m : Meaning) (input : InputCommand) (ns : List Notification) (cs : List RawMessage) → Stood m 0 0 [] (start s input ns cs).answers (start s input ns cs).derived
first_stood s m input ns cs = record { completion = refl; signal = refl; handle = refl; all = (inl (refl, refl), tt); held = λ k id e. absurd (cc) }

pub commands_used : (s : Setup) (m : Meaning) (n : ℕ) (input : InputCommand) (ns : List Notification) (cs : List RawMessage) (q : Point) → after s m n (start s input ns cs) ≡ Some q
    → (used : List RawMessage) × (cancels : List (List (List ℕ))) × (sent : List (List ℕ)) × (cs ≡ used ++ q.left) × AreSentBy (after_head q.answers) cancels × IsSentFor (m q.answers) sent × StandFor (needed s 0 (calls_for m q.answers) cancels ++ (cancels_needed s sent ++ next_needed s m q)) used
commands_used s m n input ns cs q e =
    let u = after_used s m n 0 0 [] (start s input ns cs) (start s input ns cs) q refl (first_stood s m input ns cs) (Here refl) e in
    let a = u.accounts in
    (u.used, a.0, a.1, u.left, subst (λ l. AreSentBy (after_head l) a.0) (sym u.answers) a.2, a.3, subst (λ l. StandFor (needed s 0 (calls_for m l) a.0 ++ (cancels_needed s a.1 ++ next_needed s m q)) u.used) (sym u.answers) a.4)

pub arrivals_used : (s : Setup) (m : Meaning) (n : ℕ) (input : InputCommand) (ns : List Notification) (cs : List RawMessage) (q : Point) → after s m n (start s input ns cs) ≡ Some q → ns ≡ arrivals_in q.derived.usage ++ q.queue
arrivals_used s m n input ns cs q e =
    let u = after_used s m n 0 0 [] (start s input ns cs) (start s input ns cs) q refl (first_stood s m input ns cs) (Here refl) e in
    u.queue ∙ ap (λ l. l ++ q.queue) (sym u.usage)

given_at : (given : List NotificationId) (ms : List Mapping) (handle : ℕ) (id : NotificationId) → AllGiven given ms → id_at handle ms ≡ Some id → IsGiven given handle id
given_at given [] handle id h e = absurd (cc)
given_at given (x ∷ ms) handle id h e = by_test (x.handle == handle) refl e (given_at given ms handle id h.1)
  where
    by_test : (b : Bool) → (x.handle == handle) ≡ b → cond b (Some x.id) (id_at handle ms) ≡ Some id → (id_at handle ms ≡ Some id → IsGiven given handle id) → IsGiven given handle id
    by_test true is k ih = subst (λ (y : ℕ × NotificationId). IsGiven given y.0 y.1) (λ i. (eqb-true x.handle handle is i, same_Some x.id id k i)) h.0
    by_test false is k ih = ih k

pub handles_stand : (s : Setup) (m : Meaning) (n : ℕ) (input : InputCommand) (ns : List Notification) (cs : List RawMessage) (q : Point) → after s m n (start s input ns cs) ≡ Some q → (handle : ℕ) (id : NotificationId) → id_at handle q.derived.handles ≡ Some id → IsGiven (ids_of_steps s.version 0 0 (calls_for m q.answers)) handle id
handles_stand s m n input ns cs q e handle id is =
    let u = after_used s m n 0 0 [] (start s input ns cs) (start s input ns cs) q refl (first_stood s m input ns cs) (Here refl) e in
    given_at (ids_of_steps s.version 0 0 (calls_for m q.answers)) q.derived.handles handle id (subst (λ l. AllGiven (ids_of_steps s.version 0 0 (calls_for m l)) q.derived.handles) (sym u.answers) u.all) is

pub handles_stay : (s : Setup) (m : Meaning) (n : ℕ) (input : InputCommand) (ns : List Notification) (cs : List RawMessage) (q : Point) → after s m n (start s input ns cs) ≡ Some q → (k : ℕ) (id : NotificationId) → item k (ids_of_steps s.version 0 0 (calls_for m q.answers)) ≡ Some id → (id_at (17 + k) q.derived.handles ≡ Some id) ⊎ WasTaken m (17 + k) q.answers
handles_stay s m n input ns cs q e k id is =
    let u = after_used s m n 0 0 [] (start s input ns cs) (start s input ns cs) q refl (first_stood s m input ns cs) (Here refl) e in
    u.held k id (ap (λ l. item k (ids_of_steps s.version 0 0 (calls_for m l))) (sym u.answers) ∙ is)
