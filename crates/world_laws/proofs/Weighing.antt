-- How many command indexes a run has given, and how many cancel signals it may still have to send: at most two for each command that it used.
use Rattle.std.proofs.Common.{◌≡◌, ◌+◌, ◌≤◌, ℕ, zero, suc, Bool, true, false, List, [], ◌∷◌, ◌++◌, Option, Some, None, Result, Ok, Err, length, refl, sym, ap, ◌∙◌, subst, arith}
use Rattle.std.specs.Prelude.{◌==◌, nat_lt, if◌then◌else◌, unwrap_or}
use Rattle.std.specs.Option.{option_map}
use Rattle.std.proofs.lemmas.Option.{same_Some}
use Rattle.journal_protocol.specs.InputCommand.{InputCommand}
use Rattle.journal_protocol.specs.NamedFault.{NamedFault}
use Rattle.journal_protocol.specs.Notification.{Notification}
use Rattle.journal_protocol.specs.NotificationId.{NotificationId}
use Rattle.journal_protocol.specs.NotificationResult.{NotificationResult}
use Rattle.journal_protocol.specs.RawMessage.{RawMessage}
use Rattle.await_trees.specs.declared.handle.NotificationHandle.{NotificationHandle}
use Rattle.await_trees.specs.declared.tree.UnresolvedFuture.{UnresolvedFuture}
use Rattle.vm_types.specs.declared.steps.Answer.{Answer}
use Rattle.vm_types.specs.declared.values.Value.{Value}
use Rattle.vm_types.specs.Options.{skips_replay}
use Rattle.vm_types.specs.Values.{id_of_value, value_of}
use Rattle.vm_state.specs.declared.tracked_call.TrackedCall.{TrackedCall}
use Rattle.vm_state.specs.Counting.{missing_number, missing_signals, most, next_index}
use Rattle.vm_state.specs.TrackedCalls.{unresolved_call, with_call}
use Rattle.vm_parts.specs.Deliveries.{id_at, present_result_for}
use Rattle.vm_parts.specs.Tracked.{by_known_id, id_noted, id_of_result, invocation_ids, is_tracked, unresolved_handles, with_invocation_id, with_next_id, without_first_call}
use Rattle.vm_asks.specs.declared.asks.Ask.{Ask}
use Rattle.vm_asks.specs.declared.asks.Ask.TheVariants as ask
use Rattle.vm_asks.specs.declared.asks.AnswerKind.{AnswerKind}
use Rattle.vm_asks.specs.declared.command.Command.{Command}
use Rattle.vm_asks.specs.declared.state_read.StateRead.{StateRead}
use Rattle.vm_asks.specs.Asks.{ask_of, cancel_invocation_command}
use Rattle.vm_asks.specs.Requests.{ids_of, is_cancelled_with}
use Rattle.vm_model.specs.Calls.{Demand, Derived, Meaning, Move, Setup, Turn, asked, awaited, awakeable_made, awaiting, behind_command, calling, cancel_sent, cancelled, cancelling, commanding, counted, demand_of, id_awaited, id_read, is_awake, is_cancelled_in, making_awakeable, numbered, part, part_unless, reading, ready_in, refused_before, signal_made, take_noting_id, take_of_result, take_of_value, turn_after, with_cancel_taken}
use Rattle.vm_model.specs.Calls.Move.{Answers, Needs, Awaits, Ends, Refuses}
use Rattle.vm_model.specs.Moves.{Point, after, command_used, found, moved, move_at, next, start, uses_arrival, uses_command, with_read_result}
use Rattle.vm_model.proofs.Runs.{and_then_some, none_some}

-- ---- the weight of what a run knows

-- the last command index, and the calls that are cancelled with the handler
abbrev pub weight : Derived → ℕ
weight d = unwrap_or d.counters.command 0 + length d.tracked

-- with two for each command that was made of a call which has several
abbrev pub total : Derived → ℕ
total d = weight d + (d.parts + d.parts)

-- a list twice
abbrev pub twice : {A : Type 0} → List A → ℕ
twice xs = length xs + length xs

index_more : (o : Option ℕ) → next_index o ≤ unwrap_or o 0 + 1
index_more None = omega arith
index_more (Some i) = by_test (i == most)
  where
    by_test : (b : Bool) → (if b then i else i + 1) ≤ i + 1
    by_test true = omega arith
    by_test false = omega arith

call_more : (handle : ℕ) (ts : List TrackedCall) → length (with_call handle ts) ≤ length ts + 1
call_more handle [] = omega arith
call_more handle (t ∷ ts) = by_tests (nat_lt handle t.handle) (handle == t.handle) (call_more handle ts)
  where
    by_tests : (a b : Bool) → length (with_call handle ts) ≤ length ts + 1 → length (if a then unresolved_call handle ∷ t ∷ ts else if b then unresolved_call handle ∷ ts else t ∷ with_call handle ts) ≤ suc (length ts) + 1
    by_tests true b h = omega arith
    by_tests false true h = omega arith
    by_tests false false h = omega (arith, h)

tracked_more : (b : Bool) (handle : ℕ) (ts : List TrackedCall) → length (if b then with_call handle ts else ts) ≤ length ts + 1
tracked_more true handle ts = call_more handle ts
tracked_more false handle ts = omega arith

behind_more : (s : Setup) (c : Command) (d : Derived) → weight (behind_command s c d) ≤ weight d + 2
behind_more s c d =
    let index = index_more d.counters.command in
    let calls = tracked_more (is_cancelled_with s.options.implicit_cancellation c.message) d.counters.handle d.tracked in
    omega (arith, index, calls)

turn_more : (s : Setup) (n : ℕ) (c : Command) (cs : List Command) (d : Derived) → weight (turn_after s n c cs d).before ≤ weight d + (n + n)
turn_more s zero c cs d = omega arith
turn_more s (suc n) c [] d = omega arith
turn_more s (suc n) c (b ∷ bs) d =
    let more = turn_more s n b bs (behind_command s c d) in
    let one = behind_more s c d in
    omega (arith, more, one)

known_same : (handle : ℕ) (id : List ℕ) (ts : List TrackedCall) → length (with_invocation_id handle id ts) ≡ length ts
known_same handle id [] = refl
known_same handle id (t ∷ ts) = by_test (t.handle == handle) (known_same handle id ts)
  where
    by_test : (b : Bool) → length (with_invocation_id handle id ts) ≡ length ts → length (if b then record { handle = t.handle; invocation_id = Some id } ∷ ts else t ∷ with_invocation_id handle id ts) ≡ suc (length ts)
    by_test true h = refl
    by_test false h = ap (λ n. suc n) h

noted_same : (handle : ℕ) (id : Option (List ℕ)) (ts us : List TrackedCall) → id_noted handle id ts ≡ Some us → length us ≡ length ts
noted_same handle id ts us = by_test (is_tracked handle ts) id
  where
    by_test : (b : Bool) (o : Option (List ℕ)) → (if b then option_map (λ known. with_invocation_id handle known ts) o else Some ts) ≡ Some us → length us ≡ length ts
    by_test true None e = none_some e
    by_test true (Some known) e = ap length (sym (same_Some (with_invocation_id handle known ts) us e)) ∙ known_same handle known ts
    by_test false o e = ap length (sym (same_Some ts us e))

next_same : (id : List ℕ) (ts : List TrackedCall) → length (with_next_id id ts) ≡ length ts
next_same id [] = refl
next_same id (t ∷ ts) = by_id t.invocation_id (next_same id ts)
  where
    by_id : (o : Option (List ℕ)) → length (with_next_id id ts) ≡ length ts → length (by_known_id o (record { handle = t.handle; invocation_id = Some id } ∷ ts) (t ∷ with_next_id id ts)) ≡ suc (length ts)
    by_id None h = refl
    by_id (Some known) h = ap (λ n. suc n) h

one_fewer : (ts : List TrackedCall) → length (without_first_call ts) ≤ length ts
one_fewer [] = omega arith
one_fewer (t ∷ ts) = omega arith

-- ---- the table

-- what a move adds: nothing, or two where it uses a command
abbrev Adds : Derived → Move → Type 0
Adds d (Answers gives e) = total e ≤ total d
Adds d (Needs demand gives e) = total e ≤ total d + 2
Adds d Awaits = Unit {0}
Adds d Ends = Unit {0}
Adds d (Refuses name) = Unit {0}

numbered_adds : (s : Setup) (c : Command) (o : Option NamedFault) (d : Derived) → Adds d (numbered s c o d)
numbered_adds s c (Some name) d = tt
numbered_adds s c None d = let more = behind_more s c d in omega (arith, more)

commanding_adds : (s : Setup) (c : Command) (o : Option NamedFault) (d : Derived) → Adds d (commanding s c o d)
commanding_adds s c (Some name) d = tt
commanding_adds s c None d = numbered_adds s c (missing_number (ids_of c.message) 0 (ids_of c.message) d.counters) d

part_adds : (s : Setup) (kind : AnswerKind) (c : Command) (cs : List Command) (before d : Derived) → weight before ≤ total d → Adds d (part s kind c cs before d)
part_adds s kind c [] before d h = let more = behind_more s c before in omega (arith, more, h)
part_adds s kind c (b ∷ bs) before d h = omega arith

turn_adds : (s : Setup) (kind : AnswerKind) (o : Option NamedFault) (t : Turn) (d : Derived) → weight t.before ≤ total d → Adds d (part_unless o s kind t d)
turn_adds s kind (Some name) t d h = tt
turn_adds s kind None t d h = part_adds s kind t.command t.behind t.before d h

reading_adds : (r : StateRead) (o : Option NamedFault) (d : Derived) → Adds d (reading r o d)
reading_adds r (Some name) d = tt
reading_adds r None d = let index = index_more d.counters.command in omega (arith, index)

awakeable_adds : (s : Setup) (o : Option NamedFault) (d : Derived) → Adds d (awakeable_made s o d)
awakeable_adds s (Some name) d = tt
awakeable_adds s None d = omega arith

making_adds : (s : Setup) (b : Bool) (d : Derived) → Adds d (making_awakeable s b d)
making_adds s true d = tt
making_adds s false d = awakeable_adds s (missing_signals 1 1 d.counters) d

signal_adds : (name : List ℕ) (o : Option NamedFault) (d : Derived) → Adds d (signal_made name o d)
signal_adds name (Some fault) d = tt
signal_adds name None d = omega arith

awaiting_adds : (b : Bool) (d : Derived) → Adds d (awaiting b d)
awaiting_adds true d = omega arith
awaiting_adds false d = tt

read_adds : (o : Option (List ℕ)) (d : Derived) → Adds d (id_read o d)
read_adds None d = tt
read_adds (Some id) d = let same = next_same id d.tracked in omega (arith, same)

id_adds : (o : Option NotificationResult) (d : Derived) → Adds d (id_awaited o d)
id_adds None d = tt
id_adds (Some result) d = read_adds (id_of_result result) d

sent_adds : (s : Setup) (id : List ℕ) (o : Option NamedFault) (d : Derived) → Adds d (cancel_sent s id o d)
sent_adds s id (Some name) d = tt
sent_adds s id None d =
    let index = index_more d.counters.command in
    let fewer = one_fewer d.tracked in
    omega (arith, index, fewer)

taken_total : (o : Option NotificationId) (d : Derived) → total (with_cancel_taken o d) ≡ total d
taken_total None d = refl
taken_total (Some id) d = refl

cancelling_adds : (s : Setup) (ids : List (List ℕ)) (d : Derived) → Adds d (cancelling s ids d)
cancelling_adds s [] d = let same = taken_total (id_at 1 d.handles) (record d { tracked = [] }) in omega (arith, same)
cancelling_adds s (id ∷ ids) d = sent_adds s id (missing_number 0 0 0 d.counters) d

cancelled_adds : (s : Setup) (handles : List ℕ) (d : Derived) → Adds d (cancelled s handles d)
cancelled_adds s [] d = cancelling_adds s (invocation_ids d.tracked) d
cancelled_adds s (handle ∷ handles) d = id_adds (present_result_for s.options.signal_delivery (id_at handle d.handles) (ready_in s d)) d

awaited_adds : (s : Setup) (b : Bool) (future : UnresolvedFuture) (d : Derived) → Adds d (awaited s b future d)
awaited_adds s true future d = cancelled_adds s (unresolved_handles d.tracked) d
awaited_adds s false future d = awaiting_adds (is_awake s future d) d

noted_adds : (handle : NotificationHandle) (id : NotificationId) (value : Value) (o : Option (List TrackedCall)) (d : Derived) → ((us : List TrackedCall) → o ≡ Some us → length us ≡ length d.tracked) → Adds d (take_noting_id handle id value o d)
noted_adds handle id value None d h = tt
noted_adds handle id value (Some us) d h = let same = h us refl in omega (arith, same)

value_adds : (handle : NotificationHandle) (id : NotificationId) (o : Option Value) (d : Derived) → Adds d (take_of_value handle id o d)
value_adds handle id None d = tt
value_adds handle id (Some value) d = noted_adds handle id value (id_noted handle.0 (id_of_value value) d.tracked) d (λ us e. noted_same handle.0 (id_of_value value) d.tracked us e)

result_adds : (handle : NotificationHandle) (id : Option NotificationId) (o : Option NotificationResult) (d : Derived) → Adds d (take_of_result handle id o d)
result_adds handle (Some id) (Some result) d = value_adds handle id (value_of result) d
result_adds handle (Some id) None d = omega arith
result_adds handle None o d = omega arith

asked_adds : (s : Setup) (a : Ask) (d : Derived) → Adds d (asked s a d)
asked_adds s (ask.Command c) d = commanding_adds s c c.refusal d
asked_adds s (ask.Commands kind first second) d =
    let t = turn_after s d.parts first (second ∷ []) d in
    turn_adds s kind (refused_before t.command t.behind t.before.counters) t d (turn_more s d.parts first (second ∷ []) d)
asked_adds s (ask.Read r) d = reading_adds r (missing_number 1 0 1 d.counters) d
asked_adds s ask.Awakeable d = making_adds s (skips_replay s.options.journal_replay) d
asked_adds s (ask.Signal name) d = signal_adds name (missing_signals 0 1 d.counters) d
asked_adds s (ask.Await future) d = awaited_adds s (is_cancelled_in s d) future d
asked_adds s (ask.Take handle) d = result_adds handle (id_at handle.0 d.handles) (present_result_for s.options.signal_delivery (id_at handle.0 d.handles) (ready_in s d)) d
asked_adds s (ask.Completed handle) d = omega arith
asked_adds s ask.End d = tt

-- ---- moves

read_total : (id : ℕ) (result : Option NotificationResult) (d : Derived) → total (with_read_result id result d) ≡ total d
read_total id None d = refl
read_total id (Some result) d = refl

-- the command is used, and what the move leaves weighs as much as it says
record UsesOne (e : Derived) (p r : Point) : Type 0 where
  left : length p.left ≡ suc (length r.left)
  same : total r.derived ≡ total e

command_one : (o : Result (Option NotificationResult) NamedFault) (demand : Demand) (gives : List Answer) (e : Derived) (c : RawMessage) (left : List RawMessage) (p r : Point) → p.left ≡ c ∷ left → command_used o demand gives e left p ≡ Some r → UsesOne e p r
command_one (Err name) demand gives e c left p r at m = none_some m
command_one (Ok result) demand gives e c left p r at m =
    record { left = ap length at ∙ ap (λ z. suc (length z.left)) (same_Some _ r m); same = ap (λ z. total z.derived) (sym (same_Some _ r m)) ∙ read_total p.derived.counters.completion result e }

uses_one : (demand : Demand) (gives : List Answer) (e : Derived) (left : List RawMessage) (p r : Point) → p.left ≡ left → uses_command demand gives e left p ≡ Some r → UsesOne e p r
uses_one demand gives e [] p r at m = none_some m
uses_one demand gives e (c ∷ left) p r at m = command_one (found demand c) demand gives e c left p r at m

-- what a run weighs, with two for each command that is left
abbrev pub all : Point → ℕ
all p = total p.derived + twice p.left

arrival_weighs : (queue : List Notification) (p r : Point) → uses_arrival queue p ≡ Some r → all r ≤ all p
arrival_weighs [] p r m = none_some m
arrival_weighs (n ∷ queue) p r m = subst (λ z. all z ≤ all p) (same_Some _ r m) (omega arith)

moved_weighs : (mv : Move) (p r : Point) → Adds p.derived mv → moved mv p ≡ Some r → all r ≤ all p
moved_weighs (Answers gives e) p r h m = subst (λ z. all z ≤ all p) (same_Some _ r m) (omega (arith, h))
moved_weighs (Needs demand gives e) p r h m =
    let u = uses_one demand gives e p.left p r refl m in
    let left = u.left in
    let same = u.same in
    omega (arith, h, left, same)
moved_weighs Awaits p r h m = arrival_weighs p.queue p r m
moved_weighs Ends p r h m = none_some m
moved_weighs (Refuses name) p r h m = none_some m

-- a move adds no more than the commands that it uses
pub next_weighs : (s : Setup) (m : Meaning) (p r : Point) → next s m p ≡ Some r → all r ≤ all p
next_weighs s m p r e = moved_weighs (move_at s m p) p r (asked_adds s (ask_of s.version (m p.answers)) p.derived) e

after_weighs : (s : Setup) (m : Meaning) (n : ℕ) (p q : Point) → after s m n p ≡ Some q → all q ≤ all p
after_weighs s m zero p q h = subst (λ z. all z ≤ all p) (same_Some p q h) (omega arith)
after_weighs s m (suc n) p q h =
    let x = and_then_some (next s m p) (after s m n) q h in
    let one = next_weighs s m p x.0 x.1 in
    let more = after_weighs s m n x.0 q x.2 in
    omega (arith, one, more)

pub told_weighs : (s : Setup) (m : Meaning) (n : ℕ) (input : InputCommand) (ns : List Notification) (cs : List RawMessage) (q : Point) → after s m n (start s input ns cs) ≡ Some q → all q ≤ twice cs
told_weighs s m n input ns cs q h = let x = after_weighs s m n (start s input ns cs) q h in omega (arith, x)

-- a cancel signal to a tracked call takes as much as it gives
pub sent_weighs : (s : Setup) (id : List ℕ) (o : Option NamedFault) (p r : Point) (t : TrackedCall) (ts : List TrackedCall) → p.derived.tracked ≡ t ∷ ts → moved (cancel_sent s id o p.derived) p ≡ Some r → total r.derived ≤ total p.derived
sent_weighs s id (Some name) p r t ts at m = none_some m
sent_weighs s id None p r t ts at m =
    let u = uses_one (demand_of s (cancel_invocation_command id) p.derived) [] (record (counted 0 p.derived) { tracked = without_first_call p.derived.tracked }) p.left p r refl m in
    let same = u.same in
    let index = index_more p.derived.counters.command in
    let fewer : length (without_first_call p.derived.tracked) ≡ length ts = ap (λ l. length (without_first_call l)) at in
    let before : length p.derived.tracked ≡ suc (length ts) = ap length at in
    omega (arith, same, index, fewer, before)
