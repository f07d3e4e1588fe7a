-- Handles ascend and are less than the next one, tracked calls ascend, and handle 1 stands for signal 1: so it is at each point of a run.
use Rattle.std.proofs.Common.{◌≡◌, ◌<◌, ◌≤◌, ℕ, zero, suc, ◌+◌, Bool, true, false, cond, List, [], ◌∷◌, ◌++◌, Option, Some, None, refl, sym, ap, ◌∙◌, subst, arith}
use Rattle.std.specs.Prelude.{◌==◌, nat_lt, if◌then◌else◌, Result, Ok, Err, option_map}
use Rattle.std.proofs.lemmas.Bool.{eq-eqb, eqb-true}
use Rattle.std.proofs.lemmas.Option.{same_Some}
use Rattle.journal_protocol.specs.InputCommand.{InputCommand}
use Rattle.journal_protocol.specs.NamedFault.{NamedFault}
use Rattle.journal_protocol.specs.Message.{Message}
use Rattle.journal_protocol.specs.RawMessage.{RawMessage}
use Rattle.journal_protocol.specs.Notification.{Notification}
use Rattle.journal_protocol.specs.NotificationId.{NotificationId}
use Rattle.journal_protocol.specs.NotificationId.TheVariants.{SignalId, SignalName}
use Rattle.journal_protocol.specs.NotificationResult.{NotificationResult}
use Rattle.vm_types.specs.declared.options.ImplicitCancellationOption.{ImplicitCancellationOption}
use Rattle.vm_types.specs.declared.steps.Answer.{Answer}
use Rattle.vm_types.specs.declared.values.Value.{Value}
use Rattle.await_trees.specs.declared.handle.NotificationHandle.{NotificationHandle}
use Rattle.await_trees.specs.declared.tree.UnresolvedFuture.{UnresolvedFuture}
use Rattle.vm_parts.specs.declared.async_results.Mapping.{Mapping}
use Rattle.vm_state.specs.declared.tracked_call.TrackedCall.{TrackedCall}
use Rattle.vm_state.specs.Counting.{missing_number, missing_signals}
use Rattle.vm_parts.specs.Deliveries.{id_at, present_result_for, unmapped}
use Rattle.vm_state.specs.TrackedCalls.{unresolved_call, with_call}
use Rattle.vm_parts.specs.Tracked.{TrackedAbove, TrackedAscend, by_known_id, id_of_result, invocation_ids, is_tracked, id_noted, unresolved_handles, with_invocation_id, with_next_id, without_first_call}
use Rattle.vm_types.specs.Values.{id_of_value, value_of}
use Rattle.vm_asks.specs.declared.asks.Ask.{Ask}
use Rattle.vm_asks.specs.declared.asks.Ask.TheVariants as ask
use Rattle.vm_asks.specs.declared.asks.AnswerKind.{AnswerKind}
use Rattle.vm_asks.specs.declared.command.Command.{Command}
use Rattle.vm_asks.specs.declared.state_read.StateRead.{StateRead}
use Rattle.vm_asks.specs.Asks.{ask_of}
use Rattle.vm_asks.specs.Requests.{ids_of, is_cancelled_with, tracked_after}
use Rattle.vm_parts.specs.Mappings.{mapped_from}
use Rattle.vm_types.specs.Options.{skips_replay}
use Rattle.vm_model.specs.Calls.{Setup, Meaning, Derived, Demand, Move, Turn, asked, awaited, awakeable_made, awaiting, behind_command, cancel_sent, with_cancel_taken, cancelled, cancelling, commanding, counted, id_awaited, id_read, is_awake, is_cancelled_in, making_awakeable, numbered, part, part_unless, reading, ready_in, refused_before, take_of_result, signal_made, turn_after, take_noting_id, take_of_value}
use Rattle.vm_model.specs.Calls.Move.{Answers, Needs, Awaits, Ends, Refuses}
use Rattle.vm_model.specs.Moves.{Point, after, with_read_result, command_used, found, move_at, moved, next, start, uses_arrival, uses_command}
use Rattle.vm_model.proofs.Runs.{and_then_some, none_some}

-- ---- handles

-- they ascend, from this one on, and each is less than that one
abbrev pub Span : ℕ → List Mapping → ℕ → Type 0
Span low [] high = low ≤ high
Span low (m ∷ ms) high = (low ≤ m.handle) × Span (suc m.handle) ms high

pub span_from_less : (low lower : ℕ) (ms : List Mapping) (high : ℕ) → lower ≤ low → Span low ms high → Span lower ms high
span_from_less low lower [] high l h = omega (arith, l, h)
span_from_less low lower (m ∷ ms) high l h = (let a = h.0 in omega (arith, l, a), h.1)

pub span_both : (low middle high : ℕ) (ms ns : List Mapping) → Span low ms middle → Span middle ns high → Span low (ms ++ ns) high
span_both low middle high [] ns h k = span_from_less middle low ns high h k
span_both low middle high (m ∷ ms) ns h k = (h.0, span_both (suc m.handle) middle high ms ns h.1 k)

-- handles that are given in order
pub span_given : (n handle id : ℕ) → Span handle (mapped_from n handle id) (handle + n)
span_given zero handle id = omega arith
span_given (suc n) handle id =
    let more : handle + 1 + n ≡ handle + suc n = omega arith in
    let first : handle + 1 ≡ suc handle = omega arith in
    (omega arith, subst (λ x. Span x (mapped_from n (handle + 1) (id + 1)) (handle + suc n)) first (subst (Span (handle + 1) (mapped_from n (handle + 1) (id + 1))) more (span_given n (handle + 1) (id + 1))))

-- one more handle is given
pub span_more : (low high : ℕ) (ms : List Mapping) (id : NotificationId) → Span low ms high → Span low (ms ++ record { handle = high; id = id } ∷ []) (high + 1)
span_more low high ms id h = span_both low high (high + 1) ms (record { handle = high; id = id } ∷ []) h (omega arith, omega arith)

pub span_without : (handle low high : ℕ) (ms : List Mapping) → Span low ms high → Span low (unmapped handle ms) high
span_without handle low high [] h = h
span_without handle low high (m ∷ ms) h = by_test (m.handle == handle) (span_without handle (suc m.handle) high ms h.1)
  where
    by_test : (b : Bool) → Span (suc m.handle) (unmapped handle ms) high → Span low (cond b ms (m ∷ unmapped handle ms)) high
    by_test true more = let l = h.0 in span_from_less (suc m.handle) low ms high (omega (arith, l)) h.1
    by_test false more = (h.0, more)

is_other : (a b : ℕ) → a < b → (b == a) ≡ false
is_other a b l = by_test (b == a) refl
  where
    by_test : (c : Bool) → (b == a) ≡ c → c ≡ false
    by_test true e = let same = eqb-true b a e in absurd (omega (arith, l, same))
    by_test false e = refl

-- a handle in front of all stands for nothing
pub none_in_front : (handle low high : ℕ) (ms : List Mapping) → handle < low → Span low ms high → id_at handle ms ≡ None
none_in_front handle low high [] l h = refl
none_in_front handle low high (m ∷ ms) l h =
    let a = h.0 in
    rw (is_other handle m.handle (omega (arith, l, a))) (none_in_front handle (suc m.handle) high ms (omega (arith, l, a)) h.1)

-- a handle that is forgotten stands for nothing
pub none_once_gone : (handle low high : ℕ) (ms : List Mapping) → Span low ms high → id_at handle (unmapped handle ms) ≡ None
none_once_gone handle low high [] h = refl
none_once_gone handle low high (m ∷ ms) h = by_test (m.handle == handle) refl (none_once_gone handle (suc m.handle) high ms h.1)
  where
    by_test : (b : Bool) → (m.handle == handle) ≡ b → id_at handle (unmapped handle ms) ≡ None → id_at handle (cond b ms (m ∷ unmapped handle ms)) ≡ None
    by_test true e gone = let same = eqb-true m.handle handle e in none_in_front handle (suc m.handle) high ms (omega (arith, same)) h.1
    by_test false e gone = rw e gone

-- what a handle stands for stays where more are given
pub id_with_more : (handle : ℕ) (ms ns : List Mapping) (id : NotificationId) → id_at handle ms ≡ Some id → id_at handle (ms ++ ns) ≡ Some id
id_with_more handle [] ns id e = none_some e
id_with_more handle (m ∷ ms) ns id e = by_test (m.handle == handle) e (id_with_more handle ms ns id)
  where
    by_test : (b : Bool) → cond b (Some m.id) (id_at handle ms) ≡ Some id → (id_at handle ms ≡ Some id → id_at handle (ms ++ ns) ≡ Some id) → cond b (Some m.id) (id_at handle (ms ++ ns)) ≡ Some id
    by_test true e more = e
    by_test false e more = more e

-- what another handle stands for stays
pub id_of_other : (handle other : ℕ) (ms : List Mapping) → (other == handle) ≡ false → id_at other (unmapped handle ms) ≡ id_at other ms
id_of_other handle other [] e = refl
id_of_other handle other (m ∷ ms) e = by_test (m.handle == handle) refl (id_of_other handle other ms e)
  where
    not_both : (b : Bool) → (m.handle == other) ≡ b → m.handle ≡ handle → b ≡ false
    not_both true is same = absurd (let u = sym (eq-eqb other handle (sym (eqb-true m.handle other is) ∙ same)) ∙ e in cc)
    not_both false is same = refl

    by_test : (b : Bool) → (m.handle == handle) ≡ b → id_at other (unmapped handle ms) ≡ id_at other ms → id_at other (cond b ms (m ∷ unmapped handle ms)) ≡ id_at other (m ∷ ms)
    by_test true is more = sym (ap (λ b. cond b (Some m.id) (id_at other ms)) (not_both (m.handle == other) refl (eqb-true m.handle handle is)))
    by_test false is more = ap (λ o. cond (m.handle == other) (Some m.id) o) more

-- ---- tracked calls

above_less : (a b : ℕ) (ts : List TrackedCall) → a ≤ b → TrackedAbove b ts → TrackedAbove a ts
above_less a b [] l h = tt
above_less a b (t ∷ ts) l h = (let x = h.0 in omega (arith, l, x), above_less a b ts l h.1)

above_with_call : (low handle : ℕ) (ts : List TrackedCall) → low < handle → TrackedAbove low ts → TrackedAbove low (with_call handle ts)
above_with_call low handle [] l h = (l, tt)
above_with_call low handle (t ∷ ts) l h = by_less (nat_lt handle t.handle) (handle == t.handle) (above_with_call low handle ts l h.1)
  where
    by_less : (b c : Bool) → TrackedAbove low (with_call handle ts) → TrackedAbove low (if b then unresolved_call handle ∷ t ∷ ts else if c then unresolved_call handle ∷ ts else t ∷ with_call handle ts)
    by_less true c more = (l, h)
    by_less false true more = (l, h.1)
    by_less false false more = (h.0, more)

ascend_with_call : (handle : ℕ) (ts : List TrackedCall) → TrackedAscend ts → TrackedAscend (with_call handle ts)
ascend_with_call handle [] h = (tt, tt)
ascend_with_call handle (t ∷ ts) h = by_less (nat_lt handle t.handle) (handle == t.handle) refl refl (ascend_with_call handle ts h.1)
  where
    by_less : (b c : Bool) → nat_lt handle t.handle ≡ b → (handle == t.handle) ≡ c → TrackedAscend (with_call handle ts) → TrackedAscend (if b then unresolved_call handle ∷ t ∷ ts else if c then unresolved_call handle ∷ ts else t ∷ with_call handle ts)
    by_less true c less same more = ((grind (arith, less), above_less handle t.handle ts (grind (arith, less)) h.0), h)
    by_less false true less same more = (subst (λ x. TrackedAbove x ts) (sym (eqb-true handle t.handle same)) h.0, h.1)
    by_less false false less same more = (above_with_call t.handle handle ts (grind (arith, less, same)) h.0, more)

above_with_id : (low handle : ℕ) (id : List ℕ) (ts : List TrackedCall) → TrackedAbove low ts → TrackedAbove low (with_invocation_id handle id ts)
above_with_id low handle id [] h = tt
above_with_id low handle id (t ∷ ts) h = by_test (t.handle == handle) (above_with_id low handle id ts h.1)
  where
    by_test : (b : Bool) → TrackedAbove low (with_invocation_id handle id ts) → TrackedAbove low (if b then record { handle = t.handle; invocation_id = Some id } ∷ ts else t ∷ with_invocation_id handle id ts)
    by_test true more = (h.0, h.1)
    by_test false more = (h.0, more)

ascend_with_id : (handle : ℕ) (id : List ℕ) (ts : List TrackedCall) → TrackedAscend ts → TrackedAscend (with_invocation_id handle id ts)
ascend_with_id handle id [] h = tt
ascend_with_id handle id (t ∷ ts) h = by_test (t.handle == handle) (ascend_with_id handle id ts h.1)
  where
    by_test : (b : Bool) → TrackedAscend (with_invocation_id handle id ts) → TrackedAscend (if b then record { handle = t.handle; invocation_id = Some id } ∷ ts else t ∷ with_invocation_id handle id ts)
    by_test true more = (h.0, h.1)
    by_test false more = (above_with_id t.handle handle id ts h.0, more)

above_with_next : (low : ℕ) (id : List ℕ) (ts : List TrackedCall) → TrackedAbove low ts → TrackedAbove low (with_next_id id ts)
above_with_next low id [] h = tt
above_with_next low id (t ∷ ts) h = by_known t.invocation_id (above_with_next low id ts h.1)
  where
    by_known : (o : Option (List ℕ)) → TrackedAbove low (with_next_id id ts) → TrackedAbove low (by_known_id o (record { handle = t.handle; invocation_id = Some id } ∷ ts) (t ∷ with_next_id id ts))
    by_known None more = (h.0, h.1)
    by_known (Some other) more = (h.0, more)

ascend_with_next : (id : List ℕ) (ts : List TrackedCall) → TrackedAscend ts → TrackedAscend (with_next_id id ts)
ascend_with_next id [] h = tt
ascend_with_next id (t ∷ ts) h = by_known t.invocation_id (ascend_with_next id ts h.1)
  where
    by_known : (o : Option (List ℕ)) → TrackedAscend (with_next_id id ts) → TrackedAscend (by_known_id o (record { handle = t.handle; invocation_id = Some id } ∷ ts) (t ∷ with_next_id id ts))
    by_known None more = (h.0, h.1)
    by_known (Some other) more = (above_with_next t.handle id ts h.0, more)

ascend_noted : (handle : ℕ) (id : Option (List ℕ)) (ts now : List TrackedCall) → TrackedAscend ts → id_noted handle id ts ≡ Some now → TrackedAscend now
ascend_noted handle id ts now h e = by_test (is_tracked handle ts) id e
  where
    by_test : (b : Bool) (o : Option (List ℕ)) → (if b then option_map (λ known. with_invocation_id handle known ts) o else Some ts) ≡ Some now → TrackedAscend now
    by_test true None e = none_some e
    by_test true (Some known) e = subst TrackedAscend (same_Some _ now e) (ascend_with_id handle known ts h)
    by_test false o e = subst TrackedAscend (same_Some ts now e) h

ascend_behind_first : (ts : List TrackedCall) → TrackedAscend ts → TrackedAscend (without_first_call ts)
ascend_behind_first [] h = tt
ascend_behind_first (t ∷ ts) h = h.1

ascend_after : (option : ImplicitCancellationOption) (m : Message) (handle : ℕ) (ts : List TrackedCall) → TrackedAscend ts → TrackedAscend (tracked_after option m handle ts)
ascend_after option m handle ts h = by_test (is_cancelled_with option m)
  where
    by_test : (b : Bool) → TrackedAscend (if b then with_call handle ts else ts)
    by_test true = ascend_with_call handle ts h
    by_test false = h

-- ---- at each point

pub record InOrder (d : Derived) : Type 0 where
  pub handles : Span 0 d.handles d.counters.handle
  pub cancel : id_at 1 d.handles ≡ Some (SignalId 1)
  pub tracked : TrackedAscend d.tracked

abbrev After : Move → Type 0
After (Answers gives d) = InOrder d
After (Needs demand gives d) = InOrder d
After Awaits = Unit {0}
After Ends = Unit {0}
After (Refuses name) = Unit {0}

counted_in_order : (n : ℕ) (d : Derived) → InOrder d → InOrder (counted n d)
counted_in_order n d h = record {
  handles = span_both 0 d.counters.handle (d.counters.handle + n) d.handles (mapped_from n d.counters.handle d.counters.completion) h.handles (span_given n d.counters.handle d.counters.completion);
  cancel = id_with_more 1 d.handles (mapped_from n d.counters.handle d.counters.completion) (SignalId 1) h.cancel;
  tracked = h.tracked;
}

pub command_in_order : (s : Setup) (c : Command) (d : Derived) → InOrder d → InOrder (behind_command s c d)
command_in_order s c d h =
    let k = counted_in_order (ids_of c.message) d h in
    record { handles = k.handles; cancel = k.cancel; tracked = ascend_after s.options.implicit_cancellation c.message d.counters.handle d.tracked h.tracked }

numbered_in_order : (s : Setup) (c : Command) (o : Option NamedFault) (d : Derived) → InOrder d → After (numbered s c o d)
numbered_in_order s c (Some name) d h = tt
numbered_in_order s c None d h = command_in_order s c d h

commanding_in_order : (s : Setup) (c : Command) (o : Option NamedFault) (d : Derived) → InOrder d → After (commanding s c o d)
commanding_in_order s c (Some name) d h = tt
commanding_in_order s c None d h = numbered_in_order s c (missing_number (ids_of c.message) 0 (ids_of c.message) d.counters) d h

pub turn_in_order : (s : Setup) (n : ℕ) (c : Command) (cs : List Command) (d : Derived) → InOrder d → InOrder (turn_after s n c cs d).before
turn_in_order s zero c cs d h = h
turn_in_order s (suc n) c [] d h = h
turn_in_order s (suc n) c (b ∷ bs) d h = turn_in_order s n b bs (behind_command s c d) (command_in_order s c d h)

part_in_order : (s : Setup) (kind : AnswerKind) (c : Command) (cs : List Command) (before d : Derived) → InOrder before → InOrder d → After (part s kind c cs before d)
part_in_order s kind c [] before d h k = let x = command_in_order s c before h in record { handles = x.handles; cancel = x.cancel; tracked = x.tracked }
part_in_order s kind c (b ∷ bs) before d h k = record { handles = k.handles; cancel = k.cancel; tracked = k.tracked }

part_unless_in_order : (o : Option NamedFault) (s : Setup) (kind : AnswerKind) (t : Turn) (d : Derived) → InOrder t.before → InOrder d → After (part_unless o s kind t d)
part_unless_in_order (Some name) s kind t d h k = tt
part_unless_in_order None s kind t d h k = part_in_order s kind t.command t.behind t.before d h k

reading_in_order : (r : StateRead) (o : Option NamedFault) (d : Derived) → InOrder d → After (reading r o d)
reading_in_order r (Some name) d h = tt
reading_in_order r None d h = counted_in_order 1 d h

awakeable_in_order : (s : Setup) (o : Option NamedFault) (d : Derived) → InOrder d → After (awakeable_made s o d)
awakeable_in_order s (Some name) d h = tt
awakeable_in_order s None d h = record {
  handles = span_more 0 d.counters.handle d.handles (SignalId d.counters.signal) h.handles;
  cancel = id_with_more 1 d.handles (record { handle = d.counters.handle; id = SignalId d.counters.signal } ∷ []) (SignalId 1) h.cancel;
  tracked = h.tracked;
}

making_in_order : (s : Setup) (b : Bool) (d : Derived) → InOrder d → After (making_awakeable s b d)
making_in_order s true d h = tt
making_in_order s false d h = awakeable_in_order s (missing_signals 1 1 d.counters) d h

signal_in_order : (name : List ℕ) (o : Option NamedFault) (d : Derived) → InOrder d → After (signal_made name o d)
signal_in_order name (Some fault) d h = tt
signal_in_order name None d h = record {
  handles = span_more 0 d.counters.handle d.handles (SignalName name) h.handles;
  cancel = id_with_more 1 d.handles (record { handle = d.counters.handle; id = SignalName name } ∷ []) (SignalId 1) h.cancel;
  tracked = h.tracked;
}

awaiting_in_order : (b : Bool) (d : Derived) → InOrder d → After (awaiting b d)
awaiting_in_order true d h = h
awaiting_in_order false d h = tt

read_in_order : (o : Option (List ℕ)) (d : Derived) → InOrder d → After (id_read o d)
read_in_order None d h = tt
read_in_order (Some id) d h = record { handles = h.handles; cancel = h.cancel; tracked = ascend_with_next id d.tracked h.tracked }

id_in_order : (o : Option NotificationResult) (d : Derived) → InOrder d → After (id_awaited o d)
id_in_order None d h = tt
id_in_order (Some result) d h = read_in_order (id_of_result result) d h

sent_in_order : (s : Setup) (id : List ℕ) (o : Option NamedFault) (d : Derived) → InOrder d → After (cancel_sent s id o d)
sent_in_order s id (Some name) d h = tt
sent_in_order s id None d h = let k = counted_in_order 0 d h in record { handles = k.handles; cancel = k.cancel; tracked = ascend_behind_first d.tracked h.tracked }

taken_in_order : (o : Option NotificationId) (d : Derived) → InOrder d → InOrder (with_cancel_taken o d)
taken_in_order None d h = h
taken_in_order (Some id) d h = record { handles = h.handles; cancel = h.cancel; tracked = h.tracked }

cancelling_in_order : (s : Setup) (ids : List (List ℕ)) (d : Derived) → InOrder d → After (cancelling s ids d)
cancelling_in_order s [] d h = taken_in_order (id_at 1 d.handles) (record d { tracked = [] }) (record { handles = h.handles; cancel = h.cancel; tracked = tt })
cancelling_in_order s (id ∷ ids) d h = sent_in_order s id (missing_number 0 0 0 d.counters) d h

cancelled_in_order : (s : Setup) (handles : List ℕ) (d : Derived) → InOrder d → After (cancelled s handles d)
cancelled_in_order s [] d h = cancelling_in_order s (invocation_ids d.tracked) d h
cancelled_in_order s (handle ∷ handles) d h = id_in_order (present_result_for s.options.signal_delivery (id_at handle d.handles) (ready_in s d)) d h

awaited_in_order : (s : Setup) (b : Bool) (future : UnresolvedFuture) (d : Derived) → InOrder d → After (awaited s b future d)
awaited_in_order s true future d h = cancelled_in_order s (unresolved_handles d.tracked) d h
awaited_in_order s false future d h = awaiting_in_order (is_awake s future d) d h

-- the handles that a take leaves
left_handles : ℕ → List Mapping → List Mapping
left_handles handle ms = cond (handle == 1) ms (unmapped handle ms)

left_in_order : (handle : ℕ) (ms : List Mapping) (high : ℕ) → Span 0 ms high → Span 0 (left_handles handle ms) high
unfolding left_handles
left_in_order handle ms high h = by_test (handle == 1)
  where
    by_test : (b : Bool) → Span 0 (cond b ms (unmapped handle ms)) high
    by_test true = h
    by_test false = span_without handle 0 high ms h

left_cancel : (handle : ℕ) (ms : List Mapping) → id_at 1 ms ≡ Some (SignalId 1) → id_at 1 (left_handles handle ms) ≡ Some (SignalId 1)
unfolding left_handles
left_cancel handle ms h = by_test (handle == 1) refl
  where
    by_test : (b : Bool) → (handle == 1) ≡ b → id_at 1 (cond b ms (unmapped handle ms)) ≡ Some (SignalId 1)
    by_test true e = h
    by_test false e = id_of_other handle 1 ms (by_other (1 == handle) refl) ∙ h
      where
        by_other : (c : Bool) → (1 == handle) ≡ c → (1 == handle) ≡ false
        by_other true t = absurd (let u = sym (eq-eqb handle 1 (sym (eqb-true 1 handle t))) ∙ e in cc)
        by_other false t = t

noted_in_order : (handle : NotificationHandle) (id : NotificationId) (value : Value) (o : Option (List TrackedCall)) (d : Derived) → InOrder d → ((now : List TrackedCall) → o ≡ Some now → TrackedAscend now) → After (take_noting_id handle id value o d)
unfolding left_handles
noted_in_order handle id value None d h k = tt
noted_in_order handle id value (Some now) d h k = record { handles = left_in_order handle.0 d.handles d.counters.handle h.handles; cancel = left_cancel handle.0 d.handles h.cancel; tracked = k now refl }

value_in_order : (handle : NotificationHandle) (id : NotificationId) (o : Option Value) (d : Derived) → InOrder d → After (take_of_value handle id o d)
value_in_order handle id None d h = tt
value_in_order handle id (Some value) d h = noted_in_order handle id value (id_noted handle.0 (id_of_value value) d.tracked) d h (λ now e. ascend_noted handle.0 (id_of_value value) d.tracked now h.tracked e)

result_in_order : (handle : NotificationHandle) (id : Option NotificationId) (o : Option NotificationResult) (d : Derived) → InOrder d → After (take_of_result handle id o d)
result_in_order handle (Some id) (Some result) d h = value_in_order handle id (value_of result) d h
result_in_order handle (Some id) None d h = h
result_in_order handle None o d h = h

asked_in_order : (s : Setup) (a : Ask) (d : Derived) → InOrder d → After (asked s a d)
asked_in_order s (ask.Command c) d h = commanding_in_order s c c.refusal d h
asked_in_order s (ask.Commands kind first second) d h =
    let t = turn_after s d.parts first (second ∷ []) d in
    part_unless_in_order (refused_before t.command t.behind t.before.counters) s kind t d (turn_in_order s d.parts first (second ∷ []) d h) h
asked_in_order s (ask.Read r) d h = reading_in_order r (missing_number 1 0 1 d.counters) d h
asked_in_order s ask.Awakeable d h = making_in_order s (skips_replay s.options.journal_replay) d h
asked_in_order s (ask.Signal name) d h = signal_in_order name (missing_signals 0 1 d.counters) d h
asked_in_order s (ask.Await future) d h = awaited_in_order s (is_cancelled_in s d) future d h
asked_in_order s (ask.Take handle) d h = result_in_order handle (id_at handle.0 d.handles) (present_result_for s.options.signal_delivery (id_at handle.0 d.handles) (ready_in s d)) d h
asked_in_order s (ask.Completed handle) d h = h
asked_in_order s ask.End d h = tt

brought_in_order : (id : ℕ) (result : Option NotificationResult) (d : Derived) → InOrder d → InOrder (with_read_result id result d)
brought_in_order id None d h = h
brought_in_order id (Some result) d h = record { handles = h.handles; cancel = h.cancel; tracked = h.tracked }

used_in_order : (o : Result (Option NotificationResult) NamedFault) (e : Demand) (gives : List Answer) (d : Derived) (left : List RawMessage) (p q : Point) → InOrder d → command_used o e gives d left p ≡ Some q → InOrder q.derived
used_in_order (Err name) e gives d left p q h m = none_some m
used_in_order (Ok result) e gives d left p q h m = subst (λ z. InOrder z.derived) (same_Some _ q m) (brought_in_order p.derived.counters.completion result d h)

uses_in_order : (e : Demand) (gives : List Answer) (d : Derived) (left : List RawMessage) (p q : Point) → InOrder d → uses_command e gives d left p ≡ Some q → InOrder q.derived
uses_in_order e gives d [] p q h m = none_some m
uses_in_order e gives d (c ∷ left) p q h m = used_in_order (found e c) e gives d left p q h m

arrival_in_order : (queue : List Notification) (p q : Point) → InOrder p.derived → uses_arrival queue p ≡ Some q → InOrder q.derived
arrival_in_order [] p q h m = none_some m
arrival_in_order (n ∷ queue) p q h m = subst (λ z. InOrder z.derived) (same_Some _ q m) (record { handles = h.handles; cancel = h.cancel; tracked = h.tracked })

moved_in_order : (mv : Move) (p q : Point) → InOrder p.derived → After mv → moved mv p ≡ Some q → InOrder q.derived
moved_in_order (Answers gives d) p q h t m = subst (λ z. InOrder z.derived) (same_Some _ q m) t
moved_in_order (Needs e gives d) p q h t m = uses_in_order e gives d p.left p q t m
moved_in_order Awaits p q h t m = arrival_in_order p.queue p q h m
moved_in_order Ends p q h t m = none_some m
moved_in_order (Refuses name) p q h t m = none_some m

after_in_order : (s : Setup) (m : Meaning) (n : ℕ) (p q : Point) → InOrder p.derived → after s m n p ≡ Some q → InOrder q.derived
after_in_order s m zero p q h e = subst (λ z. InOrder z.derived) (same_Some _ q e) h
after_in_order s m (suc n) p q h e =
    let x = and_then_some (next s m p) (after s m n) q e in
    after_in_order s m n x.0 q (moved_in_order (move_at s m p) p x.0 h (asked_in_order s (ask_of s.version (m p.answers)) p.derived h) x.1) x.2

pub told_in_order : (s : Setup) (m : Meaning) (n : ℕ) (input : InputCommand) (ns : List Notification) (cs : List RawMessage) (q : Point) → after s m n (start s input ns cs) ≡ Some q → InOrder q.derived
told_in_order s m n input ns cs q e = after_in_order s m n (start s input ns cs) q (record { handles = (omega arith, omega arith); cancel = refl; tracked = tt }) e

-- in a run over a journal handle 1 stands for signal 1
pub told_cancel : (s : Setup) (m : Meaning) (n : ℕ) (input : InputCommand) (ns : List Notification) (cs : List RawMessage) (q : Point) → after s m n (start s input ns cs) ≡ Some q → id_at 1 q.derived.handles ≡ Some (SignalId 1)
told_cancel s m n input ns cs q e = (told_in_order s m n input ns cs q e).cancel
