-- A call with several commands: how many of them are made, and where it stands then.
use Rattle.std.proofs.Common.{◌≡◌, ℕ, zero, suc, ◌+◌, Bool, true, false, List, [], ◌∷◌, ◌++◌, Option, Some, None, refl, sym, ap, ◌∙◌, append_assoc, arith}
use native.Mathlib.Nat.{add-zero}
use Rattle.std.specs.Prelude.{Result, Ok, Err}
use Rattle.std.proofs.lemmas.Option.{same_Some}
use Rattle.journal_protocol.specs.NamedFault.{NamedFault}
use Rattle.journal_protocol.specs.RawMessage.{RawMessage}
use Rattle.journal_protocol.specs.Notification.{Notification}
use Rattle.journal_protocol.specs.NotificationId.{NotificationId}
use Rattle.journal_protocol.specs.NotificationId.TheVariants.{CompletionId}
use Rattle.journal_protocol.specs.NotificationResult.{NotificationResult}
use Rattle.await_trees.specs.declared.handle.NotificationHandle.{NotificationHandle}
use Rattle.await_trees.specs.declared.tree.UnresolvedFuture.{UnresolvedFuture}
use Rattle.vm_parts.specs.declared.async_results.Mapping.{Mapping}
use Rattle.vm_state.specs.declared.tracked_call.TrackedCall.{TrackedCall}
use Rattle.vm_state.specs.Counting.{missing_number, missing_signals}
use Rattle.vm_parts.specs.Deliveries.{id_at, present_result_for}
use Rattle.vm_parts.specs.Tracked.{id_of_result, invocation_ids, id_noted, unresolved_handles}
use Rattle.vm_types.specs.Values.{id_of_value, value_of}
use Rattle.vm_types.specs.declared.steps.Answer.{Answer}
use Rattle.vm_types.specs.declared.values.Value.{Value}
use Rattle.vm_asks.specs.declared.asks.Ask.{Ask}
use Rattle.vm_asks.specs.declared.asks.Ask.TheVariants as ask
use Rattle.vm_asks.specs.declared.command.Command.{Command}
use Rattle.vm_asks.specs.declared.state_read.StateRead.{StateRead}
use Rattle.vm_asks.specs.Asks.{EachIs, all_ids, ask_of}
use Rattle.vm_asks.specs.Requests.{ids_of}
use Rattle.vm_parts.specs.Mappings.{mapped_from}
use Rattle.vm_types.specs.Options.{skips_replay}
use Rattle.vm_model.specs.Calls.{Demand, Derived, Meaning, Move, Setup, Turn, asked, awaited, awakeable_made, awaiting, behind_command, cancel_sent, with_cancel_taken, cancelled, cancelling, commanding, id_awaited, id_read, is_awake, is_cancelled_in, making_awakeable, numbered, reading, ready_in, take_of_result, signal_made, turn_after, take_noting_id, take_of_value}
use Rattle.vm_model.specs.Calls.Move.{Answers, Needs, Awaits, Ends, Refuses}
use Rattle.vm_model.specs.Moves.{Point, with_read_result, command_used, found, move_at, moved, next, uses_arrival, uses_command}
use Rattle.vm_model.proofs.Runs.{none_some}

-- ---- how many parts are made

-- it asks for one command or none
abbrev pub IsOfOne : Ask → Type 0
IsOfOne (ask.Commands kind first second) = ⊥
IsOfOne a = Unit {0}

-- it has made as many parts as before
abbrev KeepsParts : Derived → Move → Type 0
KeepsParts d (Answers gives e) = e.parts ≡ d.parts
KeepsParts d (Needs demand gives e) = e.parts ≡ d.parts
KeepsParts d Awaits = Unit {0}
KeepsParts d Ends = Unit {0}
KeepsParts d (Refuses name) = Unit {0}

numbered_keeps : (s : Setup) (c : Command) (o : Option NamedFault) (d : Derived) → KeepsParts d (numbered s c o d)
numbered_keeps s c (Some name) d = tt
numbered_keeps s c None d = refl

commanding_keeps : (s : Setup) (c : Command) (o : Option NamedFault) (d : Derived) → KeepsParts d (commanding s c o d)
commanding_keeps s c (Some name) d = tt
commanding_keeps s c None d = numbered_keeps s c (missing_number (ids_of c.message) 0 (ids_of c.message) d.counters) d

reading_keeps : (r : StateRead) (o : Option NamedFault) (d : Derived) → KeepsParts d (reading r o d)
reading_keeps r (Some name) d = tt
reading_keeps r None d = refl

awakeable_keeps : (s : Setup) (o : Option NamedFault) (d : Derived) → KeepsParts d (awakeable_made s o d)
awakeable_keeps s (Some name) d = tt
awakeable_keeps s None d = refl

making_keeps : (s : Setup) (b : Bool) (d : Derived) → KeepsParts d (making_awakeable s b d)
making_keeps s true d = tt
making_keeps s false d = awakeable_keeps s (missing_signals 1 1 d.counters) d

signal_keeps : (name : List ℕ) (o : Option NamedFault) (d : Derived) → KeepsParts d (signal_made name o d)
signal_keeps name (Some fault) d = tt
signal_keeps name None d = refl

awaiting_keeps : (b : Bool) (d : Derived) → KeepsParts d (awaiting b d)
awaiting_keeps true d = refl
awaiting_keeps false d = tt

pub taken_keeps : (o : Option NotificationId) (d : Derived) → (with_cancel_taken o d).parts ≡ d.parts
taken_keeps None d = refl
taken_keeps (Some id) d = refl

read_keeps : (o : Option (List ℕ)) (d : Derived) → KeepsParts d (id_read o d)
read_keeps None d = tt
read_keeps (Some id) d = refl

id_keeps : (o : Option NotificationResult) (d : Derived) → KeepsParts d (id_awaited o d)
id_keeps None d = tt
id_keeps (Some result) d = read_keeps (id_of_result result) d

sent_keeps : (s : Setup) (id : List ℕ) (o : Option NamedFault) (d : Derived) → KeepsParts d (cancel_sent s id o d)
sent_keeps s id (Some name) d = tt
sent_keeps s id None d = refl

cancelling_keeps : (s : Setup) (ids : List (List ℕ)) (d : Derived) → KeepsParts d (cancelling s ids d)
cancelling_keeps s [] d = taken_keeps (id_at 1 d.handles) (record d { tracked = [] })
cancelling_keeps s (id ∷ ids) d = sent_keeps s id (missing_number 0 0 0 d.counters) d

cancelled_keeps : (s : Setup) (handles : List ℕ) (d : Derived) → KeepsParts d (cancelled s handles d)
cancelled_keeps s [] d = cancelling_keeps s (invocation_ids d.tracked) d
cancelled_keeps s (handle ∷ handles) d = id_keeps (present_result_for s.options.signal_delivery (id_at handle d.handles) (ready_in s d)) d

awaited_keeps : (s : Setup) (b : Bool) (future : UnresolvedFuture) (d : Derived) → KeepsParts d (awaited s b future d)
awaited_keeps s true future d = cancelled_keeps s (unresolved_handles d.tracked) d
awaited_keeps s false future d = awaiting_keeps (is_awake s future d) d

noted_keeps : (handle : NotificationHandle) (id : NotificationId) (value : Value) (o : Option (List TrackedCall)) (d : Derived) → KeepsParts d (take_noting_id handle id value o d)
noted_keeps handle id value None d = tt
noted_keeps handle id value (Some tracked) d = refl

value_keeps : (handle : NotificationHandle) (id : NotificationId) (o : Option Value) (d : Derived) → KeepsParts d (take_of_value handle id o d)
value_keeps handle id None d = tt
value_keeps handle id (Some value) d = noted_keeps handle id value (id_noted handle.0 (id_of_value value) d.tracked) d

result_keeps : (handle : NotificationHandle) (id : Option NotificationId) (o : Option NotificationResult) (d : Derived) → KeepsParts d (take_of_result handle id o d)
result_keeps handle (Some id) (Some result) d = value_keeps handle id (value_of result) d
result_keeps handle (Some id) None d = refl
result_keeps handle None o d = refl

asked_keeps : (s : Setup) (a : Ask) (d : Derived) → IsOfOne a → KeepsParts d (asked s a d)
asked_keeps s (ask.Command c) d one = commanding_keeps s c c.refusal d
asked_keeps s (ask.Commands kind first second) d one = absurd one
asked_keeps s (ask.Read r) d one = reading_keeps r (missing_number 1 0 1 d.counters) d
asked_keeps s ask.Awakeable d one = making_keeps s (skips_replay s.options.journal_replay) d
asked_keeps s (ask.Signal name) d one = signal_keeps name (missing_signals 0 1 d.counters) d
asked_keeps s (ask.Await future) d one = awaited_keeps s (is_cancelled_in s d) future d
asked_keeps s (ask.Take handle) d one = result_keeps handle (id_at handle.0 d.handles) (present_result_for s.options.signal_delivery (id_at handle.0 d.handles) (ready_in s d)) d
asked_keeps s (ask.Completed handle) d one = refl
asked_keeps s ask.End d one = tt

brought_keeps : (id : ℕ) (result : Option NotificationResult) (d : Derived) → (with_read_result id result d).parts ≡ d.parts
brought_keeps id None d = refl
brought_keeps id (Some result) d = refl

command_keeps : (o : Result (Option NotificationResult) NamedFault) (e : Demand) (gives : List Answer) (d : Derived) (left : List RawMessage) (p q : Point) → command_used o e gives d left p ≡ Some q → q.derived.parts ≡ d.parts
command_keeps (Err name) e gives d left p q m = none_some m
command_keeps (Ok result) e gives d left p q m = ap (λ z. z.derived.parts) (sym (same_Some _ q m)) ∙ brought_keeps p.derived.counters.completion result d

uses_keeps : (e : Demand) (gives : List Answer) (d : Derived) (left : List RawMessage) (p q : Point) → uses_command e gives d left p ≡ Some q → q.derived.parts ≡ d.parts
uses_keeps e gives d [] p q m = none_some m
uses_keeps e gives d (c ∷ left) p q m = command_keeps (found e c) e gives d left p q m

arrival_keeps : (queue : List Notification) (p q : Point) → uses_arrival queue p ≡ Some q → q.derived.parts ≡ p.derived.parts
arrival_keeps [] p q m = none_some m
arrival_keeps (n ∷ queue) p q m = ap (λ z. z.derived.parts) (sym (same_Some _ q m))

moved_keeps : (mv : Move) (p q : Point) → KeepsParts p.derived mv → moved mv p ≡ Some q → q.derived.parts ≡ p.derived.parts
moved_keeps (Answers gives d) p q h m = ap (λ z. z.derived.parts) (sym (same_Some _ q m)) ∙ h
moved_keeps (Needs e gives d) p q h m = uses_keeps e gives d p.left p q m ∙ h
moved_keeps Awaits p q h m = arrival_keeps p.queue p q m
moved_keeps Ends p q h m = none_some m
moved_keeps (Refuses name) p q h m = none_some m

-- a move of a call that asks for one command or none
pub next_keeps : (s : Setup) (m : Meaning) (p q : Point) → IsOfOne (ask_of s.version (m p.answers)) → next s m p ≡ Some q → q.derived.parts ≡ p.derived.parts
next_keeps s m p q one e = moved_keeps (move_at s m p) p q (asked_keeps s (ask_of s.version (m p.answers)) p.derived one) e

-- ---- where a call stands

-- one command more is made
pub next_turn : (s : Setup) (n : ℕ) (c : Command) (cs : List Command) (d : Derived) (b : Command) (bs : List Command) → (turn_after s n c cs d).behind ≡ b ∷ bs
    → turn_after s (suc n) c cs d ≡ record { command = b; behind = bs; before = behind_command s (turn_after s n c cs d).command (turn_after s n c cs d).before }
next_turn s zero c [] d b bs is = absurd (cc)
next_turn s zero c (x ∷ xs) d b bs is = let t = is in (λ i. record { command = head x (t i); behind = tail (t i); before = behind_command s c d })
  where
    head : Command → List Command → Command
    head y [] = y
    head y (z ∷ zs) = z

    tail : List Command → List Command
    tail [] = []
    tail (z ∷ zs) = zs
next_turn s (suc n) c [] d b bs is = absurd (cc)
next_turn s (suc n) c (x ∷ xs) d b bs is = next_turn s n x xs (behind_command s c d) b bs is

-- how many parts are made changes nothing else of it
pub turn_apart : (s : Setup) (n : ℕ) (c : Command) (cs : List Command) (d : Derived) (k : ℕ) → turn_after s n c cs (record d { parts = k }) ≡ (let t = turn_after s n c cs d in record { command = t.command; behind = t.behind; before = record t.before { parts = k } })
turn_apart s zero c cs d k = refl
turn_apart s (suc n) c [] d k = refl
turn_apart s (suc n) c (b ∷ bs) d k = turn_apart s n b bs (behind_command s c d) k

-- what is given up to here and what is given from here on is all that is given
pub record Splits (s : Setup) (d : Derived) (c : Command) (cs : List Command) (t : Turn) : Type 0 where
  pub completion : t.before.counters.completion + all_ids t.command t.behind ≡ d.counters.completion + all_ids c cs
  pub handle : t.before.counters.handle + all_ids t.command t.behind ≡ d.counters.handle + all_ids c cs
  pub signal : t.before.counters.signal ≡ d.counters.signal
  pub usage : t.before.usage ≡ d.usage
  pub handles : t.before.handles ++ mapped_from (all_ids t.command t.behind) t.before.counters.handle t.before.counters.completion ≡ d.handles ++ mapped_from (all_ids c cs) d.counters.handle d.counters.completion

mapped_both : (a b handle id : ℕ) → mapped_from (a + b) handle id ≡ mapped_from a handle id ++ mapped_from b (handle + a) (id + a)
mapped_both zero b handle id =
    let e : 0 + b ≡ b = omega arith in
    ap (λ n. mapped_from n handle id) e ∙ (λ i. mapped_from b (sym (add-zero handle) i) (sym (add-zero id) i))
mapped_both (suc a) b handle id =
    let e : suc a + b ≡ suc (a + b) = omega arith in
    let h : (handle + 1) + a ≡ handle + suc a = omega arith in
    let k : (id + 1) + a ≡ id + suc a = omega arith in
    ap (λ n. mapped_from n handle id) e
    ∙ ap (λ (l : List Mapping). record { handle = handle; id = CompletionId id } ∷ l) (mapped_both a b (handle + 1) (id + 1) ∙ (λ i. mapped_from a (handle + 1) (id + 1) ++ mapped_from b (h i) (k i)))

splits_here : (s : Setup) (d : Derived) (c : Command) (cs : List Command) → Splits s d c cs (record { command = c; behind = cs; before = d })
splits_here s d c cs = record { completion = refl; handle = refl; signal = refl; usage = refl; handles = refl }

pub turn_splits : (s : Setup) (n : ℕ) (c : Command) (cs : List Command) (d : Derived) → Splits s d c cs (turn_after s n c cs d)
turn_splits s zero c cs d = splits_here s d c cs
turn_splits s (suc n) c [] d = splits_here s d c []
turn_splits s (suc n) c (b ∷ bs) d =
    let t = turn_splits s n b bs (behind_command s c d) in
    let x = t.completion in
    let y = t.handle in
    let ids = ids_of c.message in
    let more = all_ids b bs in
    record {
      completion = omega (arith, x);
      handle = omega (arith, y);
      signal = t.signal;
      usage = t.usage;
      handles = t.handles ∙ append_assoc d.handles (mapped_from ids d.counters.handle d.counters.completion) (mapped_from more (d.counters.handle + ids) (d.counters.completion + ids)) ∙ ap (λ l. d.handles ++ l) (sym (mapped_both ids more d.counters.handle d.counters.completion));
    }

-- ---- what is so of each of them

each_first : (P : Command → Type 0) (c : Command) (cs : List Command) → EachIs P c cs → P c
each_first P c [] h = h
each_first P c (b ∷ bs) h = h.0

-- it also holds of the one that comes next
pub turn_is : (P : Command → Type 0) (s : Setup) (n : ℕ) (c : Command) (cs : List Command) (d : Derived) → EachIs P c cs → P (turn_after s n c cs d).command
turn_is P s zero c cs d h = each_first P c cs h
turn_is P s (suc n) c [] d h = h
turn_is P s (suc n) c (b ∷ bs) d h = turn_is P s n b bs (behind_command s c d) h.1
