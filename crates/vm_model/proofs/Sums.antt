-- The numbers that a run has given are the sums over the calls that brought its answers.
use Rattle.std.proofs.Common.{◌≡◌, ◌⊎◌, ℕ, zero, suc, ◌+◌, Bool, true, false, List, [], ◌∷◌, ◌++◌, Option, Some, None, refl, sym, ap, ◌∙◌, subst, inl, inr, ⊎_elim, append_assoc, append-nil, arith}
use native.Mathlib.Nat.{add-zero}
use Rattle.std.specs.Prelude.{Result, Ok, Err}
use Rattle.std.proofs.lemmas.Option.{same_Some}
use Rattle.journal_protocol.specs.InputCommand.{InputCommand}
use Rattle.journal_protocol.specs.NamedFault.{NamedFault}
use Rattle.journal_protocol.specs.RawMessage.{RawMessage}
use Rattle.journal_protocol.specs.Notification.{Notification}
use Rattle.journal_protocol.specs.NotificationId.{NotificationId}
use Rattle.journal_protocol.specs.NotificationResult.{NotificationResult}
use Rattle.vm_types.specs.declared.steps.Answer.{Answer}
use Rattle.vm_types.specs.declared.steps.Step.{Step}
use Rattle.await_trees.specs.declared.handle.NotificationHandle.{NotificationHandle}
use Rattle.await_trees.specs.declared.tree.UnresolvedFuture.{UnresolvedFuture}
use Rattle.vm_state.specs.declared.tracked_call.TrackedCall.{TrackedCall}
use Rattle.vm_types.specs.declared.values.Value.{Value}
use Rattle.vm_state.specs.Counting.{missing_number, missing_signals}
use Rattle.vm_parts.specs.Deliveries.{id_at, present_result_for}
use Rattle.vm_parts.specs.Tracked.{id_of_result, invocation_ids, id_noted, unresolved_handles}
use Rattle.vm_types.specs.Values.{id_of_value, value_of}
use Rattle.vm_asks.specs.declared.asks.Ask.{Ask}
use Rattle.vm_asks.specs.declared.asks.Ask.TheVariants as ask
use Rattle.vm_asks.specs.declared.asks.AnswerKind.{AnswerKind}
use Rattle.vm_asks.specs.declared.command.Command.{Command}
use Rattle.vm_asks.specs.declared.state_read.StateRead.{StateRead}
use Rattle.vm_asks.specs.Asks.{all_ids, ask_of}
use Rattle.vm_asks.specs.Requests.{ids_of}
use Rattle.vm_types.specs.Options.{skips_replay}
use Rattle.vm_model.specs.Calls.{Setup, Meaning, Derived, Demand, Move, asked, awaited, awakeable_made, awaiting, call_of, cancel_sent, with_cancel_taken, cancelled, cancelling, commanding, counted, id_awaited, id_read, is_awake, is_cancelled_in, making_awakeable, numbered, reading, ready_in, take_of_result, signal_made, take_noting_id, take_of_value, Turn, part, part_unless, refused_before, turn_after}
use Rattle.vm_model.specs.Calls.Move.{Answers, Needs, Awaits, Ends, Refuses}
use Rattle.vm_model.specs.Moves.{Point, after, with_read_result, command_used, move_at, moved, next, found, start, uses_arrival, uses_command}
use Rattle.vm_model.specs.Sums.{calls_after, calls_for, completion_ids, completion_ids_in, handles, signal_ids, signal_ids_in, handles_in, total}
use Rattle.vm_model.proofs.Parts.{Splits, turn_splits}
use Rattle.vm_model.proofs.Runs.{and_then_some, none_some}

-- these counts of ids, signals and handles were given
pub record Given (ids signals numbers : ℕ) (d e : Derived) : Type 0 where
  pub completion : e.counters.completion ≡ d.counters.completion + ids
  pub signal : e.counters.signal ≡ d.counters.signal + signals
  pub handle : e.counters.handle ≡ d.counters.handle + numbers

-- one answer comes and these counts of numbers are given, or none
abbrev pub GivenBy : ℕ → ℕ → ℕ → Derived → List Answer → Derived → Type 0
GivenBy ids signals numbers d gives e = ((a : Answer) × (gives ≡ a ∷ []) × Given ids signals numbers d e) ⊎ ((gives ≡ []) × Given 0 0 0 d e)

-- a move gives one answer and these counts of numbers, or none
abbrev pub GivenAfter : ℕ → ℕ → ℕ → Derived → Move → Type 0
GivenAfter ids signals numbers d (Answers gives e) = GivenBy ids signals numbers d gives e
GivenAfter ids signals numbers d (Needs demand gives e) = GivenBy ids signals numbers d gives e
GivenAfter ids signals numbers d Awaits = Unit {0}
GivenAfter ids signals numbers d Ends = Unit {0}
GivenAfter ids signals numbers d (Refuses name) = Unit {0}

pub nothing_given : (d e : Derived) → e.counters ≡ d.counters → Given 0 0 0 d e
nothing_given d e is = record { completion = ap (λ c. c.completion) is ∙ sym (add-zero d.counters.completion); signal = ap (λ c. c.signal) is ∙ sym (add-zero d.counters.signal); handle = ap (λ c. c.handle) is ∙ sym (add-zero d.counters.handle) }

counted_given : (ids : ℕ) (d : Derived) (tracked : List TrackedCall) → Given ids 0 ids d (record (counted ids d) { tracked = tracked })
counted_given ids d tracked = record { completion = refl; signal = sym (add-zero d.counters.signal); handle = refl }

numbered_given : (s : Setup) (c : Command) (o : Option NamedFault) (d : Derived) → GivenAfter (ids_of c.message) 0 (ids_of c.message) d (numbered s c o d)
numbered_given s c (Some fault) d = tt
numbered_given s c None d = inl (_, refl, counted_given (ids_of c.message) d _)

commanding_given : (s : Setup) (c : Command) (o : Option NamedFault) (d : Derived) → GivenAfter (ids_of c.message) 0 (ids_of c.message) d (commanding s c o d)
commanding_given s c (Some fault) d = tt
commanding_given s c None d = numbered_given s c (missing_number (ids_of c.message) 0 (ids_of c.message) d.counters) d

-- with the last command of several the numbers of all are given
part_given : (s : Setup) (kind : AnswerKind) (c : Command) (cs : List Command) (d : Derived) (b : Command) (bs : List Command) (before : Derived) → Splits s d c cs (record { command = b; behind = bs; before = before }) → GivenAfter (all_ids c cs) 0 (all_ids c cs) d (part s kind b bs before d)
part_given s kind c cs d b [] before g = inl (_, refl, record { completion = g.completion; signal = g.signal ∙ sym (add-zero d.counters.signal); handle = g.handle })
part_given s kind c cs d b (x ∷ xs) before g = inr (refl, nothing_given d (record d { parts = suc d.parts }) refl)

turn_given : (s : Setup) (kind : AnswerKind) (o : Option NamedFault) (c : Command) (cs : List Command) (d : Derived) (t : Turn) → Splits s d c cs t → GivenAfter (all_ids c cs) 0 (all_ids c cs) d (part_unless o s kind t d)
turn_given s kind (Some fault) c cs d t g = tt
turn_given s kind None c cs d t g = part_given s kind c cs d t.command t.behind t.before g

reading_given : (r : StateRead) (o : Option NamedFault) (d : Derived) → GivenAfter 1 0 1 d (reading r o d)
reading_given r (Some fault) d = tt
reading_given r None d = inl (_, refl, counted_given 1 d d.tracked)

awakeable_given : (s : Setup) (o : Option NamedFault) (d : Derived) → GivenAfter 0 1 1 d (awakeable_made s o d)
awakeable_given s (Some fault) d = tt
awakeable_given s None d = inl (_, refl, record { completion = sym (add-zero d.counters.completion); signal = refl; handle = refl })

making_given : (s : Setup) (b : Bool) (d : Derived) → GivenAfter 0 1 1 d (making_awakeable s b d)
making_given s true d = tt
making_given s false d = awakeable_given s (missing_signals 1 1 d.counters) d

signal_given : (name : List ℕ) (o : Option NamedFault) (d : Derived) → GivenAfter 0 0 1 d (signal_made name o d)
signal_given name (Some fault) d = tt
signal_given name None d = inl (_, refl, record { completion = sym (add-zero d.counters.completion); signal = sym (add-zero d.counters.signal); handle = refl })

awaiting_given : (b : Bool) (d : Derived) → GivenAfter 0 0 0 d (awaiting b d)
awaiting_given true d = inl (_, refl, nothing_given d d refl)
awaiting_given false d = tt

-- a take of the cancel signal leaves the numbers
pub taken_counters : (o : Option NotificationId) (d : Derived) → (with_cancel_taken o d).counters ≡ d.counters
taken_counters None d = refl
taken_counters (Some id) d = refl

read_given : (o : Option (List ℕ)) (d : Derived) → GivenAfter 0 0 0 d (id_read o d)
read_given None d = tt
read_given (Some id) d = inr (refl, nothing_given d _ refl)

id_given : (o : Option NotificationResult) (d : Derived) → GivenAfter 0 0 0 d (id_awaited o d)
id_given None d = tt
id_given (Some result) d = read_given (id_of_result result) d

sent_given : (s : Setup) (id : List ℕ) (o : Option NamedFault) (d : Derived) → GivenAfter 0 0 0 d (cancel_sent s id o d)
sent_given s id (Some fault) d = tt
sent_given s id None d = inr (refl, counted_given 0 d _)

cancelling_given : (s : Setup) (ids : List (List ℕ)) (d : Derived) → GivenAfter 0 0 0 d (cancelling s ids d)
cancelling_given s [] d = inl (_, refl, nothing_given d _ (taken_counters (id_at 1 d.handles) _))
cancelling_given s (id ∷ ids) d = sent_given s id (missing_number 0 0 0 d.counters) d

cancelled_given : (s : Setup) (handles : List ℕ) (d : Derived) → GivenAfter 0 0 0 d (cancelled s handles d)
cancelled_given s [] d = cancelling_given s (invocation_ids d.tracked) d
cancelled_given s (handle ∷ handles) d = id_given (present_result_for s.options.signal_delivery (id_at handle d.handles) (ready_in s d)) d

awaited_given : (s : Setup) (b : Bool) (future : UnresolvedFuture) (d : Derived) → GivenAfter 0 0 0 d (awaited s b future d)
awaited_given s true future d = cancelled_given s (unresolved_handles d.tracked) d
awaited_given s false future d = awaiting_given (is_awake s future d) d

noted_given : (handle : NotificationHandle) (id : NotificationId) (value : Value) (o : Option (List TrackedCall)) (d : Derived) → GivenAfter 0 0 0 d (take_noting_id handle id value o d)
noted_given handle id value None d = tt
noted_given handle id value (Some tracked) d = inl (_, refl, nothing_given d _ refl)

value_given : (handle : NotificationHandle) (id : NotificationId) (o : Option Value) (d : Derived) → GivenAfter 0 0 0 d (take_of_value handle id o d)
value_given handle id None d = tt
value_given handle id (Some value) d = noted_given handle id value (id_noted handle.0 (id_of_value value) d.tracked) d

result_given : (handle : NotificationHandle) (id : Option NotificationId) (o : Option NotificationResult) (d : Derived) → GivenAfter 0 0 0 d (take_of_result handle id o d)
result_given handle (Some id) (Some result) d = value_given handle id (value_of result) d
result_given handle (Some id) None d = inl (_, refl, nothing_given d d refl)
result_given handle None o d = inl (_, refl, nothing_given d d refl)

asked_given : (s : Setup) (a : Ask) (d : Derived) → GivenAfter (completion_ids_in a) (signal_ids_in a) (handles_in a) d (asked s a d)
asked_given s (ask.Command c) d = commanding_given s c c.refusal d
asked_given s (ask.Commands kind first second) d =
    let t = turn_after s d.parts first (second ∷ []) d in
    turn_given s kind (refused_before t.command t.behind t.before.counters) first (second ∷ []) d t (turn_splits s d.parts first (second ∷ []) d)
asked_given s (ask.Read r) d = reading_given r (missing_number 1 0 1 d.counters) d
asked_given s ask.Awakeable d = making_given s (skips_replay s.options.journal_replay) d
asked_given s (ask.Signal name) d = signal_given name (missing_signals 0 1 d.counters) d
asked_given s (ask.Await future) d = awaited_given s (is_cancelled_in s d) future d
asked_given s (ask.Take handle) d = result_given handle (id_at handle.0 d.handles) (present_result_for s.options.signal_delivery (id_at handle.0 d.handles) (ready_in s d)) d
asked_given s (ask.Completed handle) d = inl (_, refl, nothing_given d d refl)
asked_given s ask.End d = tt

pub call_given : (s : Setup) (st : Step) (d : Derived) → GivenAfter (completion_ids s.version st) (signal_ids s.version st) (handles s.version st) d (call_of s st d)
call_given s st d = asked_given s (ask_of s.version st) d

-- ---- one move

-- one answer came and these counts of numbers were given, or none
Moves : ℕ → ℕ → ℕ → Point → Point → Type 0
Moves ids signals numbers p q = ((a : Answer) × (q.answers ≡ p.answers ++ a ∷ []) × Given ids signals numbers p.derived q.derived) ⊎ ((q.answers ≡ p.answers) × Given 0 0 0 p.derived q.derived)

-- a move by what it gives
given_moves : (ids signals numbers : ℕ) (gives : List Answer) (e : Derived) (p q : Point) → GivenBy ids signals numbers p.derived gives e → q.answers ≡ p.answers ++ gives → e ≡ q.derived → Moves ids signals numbers p q
unfolding Moves
given_moves ids signals numbers gives e p q (inl (a, one, g)) answers now = inl (a, answers ∙ ap (λ l. p.answers ++ l) one, subst (Given ids signals numbers p.derived) now g)
given_moves ids signals numbers gives e p q (inr (none, g)) answers now = inr (answers ∙ ap (λ l. p.answers ++ l) none ∙ append-nil p.answers, subst (Given 0 0 0 p.derived) now g)

pub brought_given : (ids signals numbers id : ℕ) (result : Option NotificationResult) (d e : Derived) → Given ids signals numbers d e → Given ids signals numbers d (with_read_result id result e)
brought_given ids signals numbers id None d e g = g
brought_given ids signals numbers id (Some result) d e g = record { completion = g.completion; signal = g.signal; handle = g.handle }

-- a result that a command brings leaves the numbers
brought_by : (ids signals numbers id : ℕ) (result : Option NotificationResult) (d : Derived) (gives : List Answer) (e : Derived) → GivenBy ids signals numbers d gives e → GivenBy ids signals numbers d gives (with_read_result id result e)
brought_by ids signals numbers id result d gives e (inl (a, one, g)) = inl (a, one, brought_given ids signals numbers id result d e g)
brought_by ids signals numbers id result d gives e (inr (none, g)) = inr (none, brought_given 0 0 0 id result d e g)

command_moves : (ids signals numbers : ℕ) (o : Result (Option NotificationResult) NamedFault) (e : Demand) (gives : List Answer) (d : Derived) (left : List RawMessage) (p q : Point) → GivenBy ids signals numbers p.derived gives d → command_used o e gives d left p ≡ Some q → Moves ids signals numbers p q
command_moves ids signals numbers (Err name) e gives d left p q g m = none_some m
command_moves ids signals numbers (Ok result) e gives d left p q g m =
    let is = same_Some _ q m in
    let id = p.derived.counters.completion in
    given_moves ids signals numbers gives (with_read_result id result d) p q (brought_by ids signals numbers id result p.derived gives d g) (ap (λ z. z.answers) (sym is)) (ap (λ z. z.derived) is)

uses_moves : (ids signals numbers : ℕ) (e : Demand) (gives : List Answer) (d : Derived) (left : List RawMessage) (p q : Point) → GivenBy ids signals numbers p.derived gives d → uses_command e gives d left p ≡ Some q → Moves ids signals numbers p q
uses_moves ids signals numbers e gives d [] p q g m = none_some m
uses_moves ids signals numbers e gives d (c ∷ left) p q g m = command_moves ids signals numbers (found e c) e gives d left p q g m

arrival_moves : (ids signals numbers : ℕ) (queue : List Notification) (p q : Point) → uses_arrival queue p ≡ Some q → Moves ids signals numbers p q
unfolding Moves
arrival_moves ids signals numbers [] p q m = none_some m
arrival_moves ids signals numbers (n ∷ queue) p q m = let is = same_Some _ q m in inr (ap (λ z. z.answers) (sym is), nothing_given p.derived q.derived (ap (λ z. z.derived.counters) (sym is)))

moved_moves : (ids signals numbers : ℕ) (mv : Move) (p q : Point) → GivenAfter ids signals numbers p.derived mv → moved mv p ≡ Some q → Moves ids signals numbers p q
moved_moves ids signals numbers (Answers gives d) p q g m =
    let is = same_Some _ q m in
    given_moves ids signals numbers gives d p q g (ap (λ z. z.answers) (sym is)) (ap (λ z. z.derived) is)
moved_moves ids signals numbers (Needs e gives d) p q g m = uses_moves ids signals numbers e gives d p.left p q g m
moved_moves ids signals numbers Awaits p q g m = arrival_moves ids signals numbers p.queue p q m
moved_moves ids signals numbers Ends p q g m = none_some m
moved_moves ids signals numbers (Refuses name) p q g m = none_some m

-- ---- several moves

-- the numbers given between two points are the sums over the calls between them
record Sums (s : Setup) (m : Meaning) (p q : Point) : Type 0 where
  gained : List Answer
  answers : q.answers ≡ p.answers ++ gained
  numbers : Given (total (completion_ids s.version) (calls_after m p.answers gained)) (total (signal_ids s.version) (calls_after m p.answers gained)) (total (handles s.version) (calls_after m p.answers gained)) p.derived q.derived

sums_none : (s : Setup) (m : Meaning) (p : Point) → Sums s m p p
sums_none s m p = record { gained = []; answers = sym (append-nil p.answers); numbers = nothing_given p.derived p.derived refl }

sums_answer : (s : Setup) (m : Meaning) (p r q : Point) (a : Answer) → r.answers ≡ p.answers ++ a ∷ [] → Given (completion_ids s.version (m p.answers)) (signal_ids s.version (m p.answers)) (handles s.version (m p.answers)) p.derived r.derived → Sums s m r q → Sums s m p q
sums_answer s m p r q a is g t =
    let n = subst (λ l. Given (total (completion_ids s.version) (calls_after m l t.gained)) (total (signal_ids s.version) (calls_after m l t.gained)) (total (handles s.version) (calls_after m l t.gained)) r.derived q.derived) is t.numbers in
    let c1 = n.completion in
    let c2 = g.completion in
    let s1 = n.signal in
    let s2 = g.signal in
    let h1 = n.handle in
    let h2 = g.handle in
    record {
      gained = a ∷ t.gained;
      answers = t.answers ∙ ap (λ l. l ++ t.gained) is ∙ append_assoc p.answers (a ∷ []) t.gained;
      numbers = record { completion = omega (arith, c1, c2); signal = omega (arith, s1, s2); handle = omega (arith, h1, h2) };
    }

sums_still : (s : Setup) (m : Meaning) (p r q : Point) → r.answers ≡ p.answers → Given 0 0 0 p.derived r.derived → Sums s m r q → Sums s m p q
sums_still s m p r q is g t =
    let n = subst (λ l. Given (total (completion_ids s.version) (calls_after m l t.gained)) (total (signal_ids s.version) (calls_after m l t.gained)) (total (handles s.version) (calls_after m l t.gained)) r.derived q.derived) is t.numbers in
    let c1 = n.completion in
    let c2 = g.completion in
    let s1 = n.signal in
    let s2 = g.signal in
    let h1 = n.handle in
    let h2 = g.handle in
    record {
      gained = t.gained;
      answers = t.answers ∙ ap (λ l. l ++ t.gained) is;
      numbers = record { completion = omega (arith, c1, c2); signal = omega (arith, s1, s2); handle = omega (arith, h1, h2) };
    }

after_sums : (s : Setup) (m : Meaning) (n : ℕ) (p q : Point) → after s m n p ≡ Some q → Sums s m p q
unfolding Moves
after_sums s m zero p q e = subst (λ z. Sums s m p z) (same_Some _ q e) (sums_none s m p)
after_sums s m (suc n) p q e =
    let x = and_then_some (next s m p) (after s m n) q e in
    ⊎_elim
    (λ (y : (a : Answer) × (x.0.answers ≡ p.answers ++ a ∷ []) × Given (completion_ids s.version (m p.answers)) (signal_ids s.version (m p.answers)) (handles s.version (m p.answers)) p.derived x.0.derived). sums_answer s m p x.0 q y.0 y.1 y.2 (after_sums s m n x.0 q x.2))
    (λ (y : (x.0.answers ≡ p.answers) × Given 0 0 0 p.derived x.0.derived). sums_still s m p x.0 q y.0 y.1 (after_sums s m n x.0 q x.2))
    (moved_moves (completion_ids s.version (m p.answers)) (signal_ids s.version (m p.answers)) (handles s.version (m p.answers)) (move_at s m p) p x.0 (call_given s (m p.answers) p.derived) x.1)

-- in a run over a journal: completion ids from 1, signal ids and handles from 17
pub told_sums : (s : Setup) (m : Meaning) (n : ℕ) (input : InputCommand) (ns : List Notification) (cs : List RawMessage) (q : Point) → after s m n (start s input ns cs) ≡ Some q
    → (q.derived.counters.completion ≡ 1 + total (completion_ids s.version) (calls_for m q.answers)) × (q.derived.counters.signal ≡ 17 + total (signal_ids s.version) (calls_for m q.answers)) × (q.derived.counters.handle ≡ 17 + total (handles s.version) (calls_for m q.answers))
told_sums s m n input ns cs q e =
    let t = after_sums s m n (start s input ns cs) q e in
    rw t.answers (t.numbers.completion, t.numbers.signal, t.numbers.handle)
