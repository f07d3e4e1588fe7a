-- Each take of a run took a result that was present.
use Rattle.std.proofs.Common.{◌≡◌, inl, inr, ℕ, zero, suc, Bool, true, false, is_some, List, [], ◌∷◌, Option, Some, None, refl, sym, ap, ◌∙◌, subst}
use Rattle.std.specs.Prelude.{Result, Ok, Err}
use Rattle.std.proofs.lemmas.Option.{same_Some}
use Rattle.journal_protocol.specs.InputCommand.{InputCommand}
use Rattle.journal_protocol.specs.NamedFault.{NamedFault}
use Rattle.journal_protocol.specs.RawMessage.{RawMessage}
use Rattle.journal_protocol.specs.Notification.{Notification}
use Rattle.journal_protocol.specs.NotificationId.{NotificationId}
use Rattle.journal_protocol.specs.NotificationResult.{NotificationResult}
use Rattle.vm_types.specs.declared.steps.Answer.{Answer}
use Rattle.vm_types.specs.declared.steps.Answer.TheVariants as answer
use Rattle.vm_types.specs.declared.steps.Step.TheVariants as step
use Rattle.await_trees.specs.declared.handle.NotificationHandle.{NotificationHandle}
use Rattle.await_trees.specs.declared.tree.UnresolvedFuture.{UnresolvedFuture}
use Rattle.vm_state.specs.declared.tracked_call.TrackedCall.{TrackedCall}
use Rattle.vm_types.specs.declared.values.Value.{Value}
use Rattle.vm_state.specs.Counting.{missing_number, missing_signals}
use Rattle.vm_parts.specs.Deliveries.{id_at, present_result, present_result_for}
use Rattle.vm_types.specs.Options.{ends_awaits, skips_replay}
use Rattle.vm_parts.specs.Tracked.{id_of_result, invocation_ids, id_noted, unresolved_handles}
use Rattle.vm_types.specs.Values.{id_of_value, value_of}
use Rattle.vm_asks.specs.declared.asks.Ask.{Ask}
use Rattle.vm_asks.specs.declared.asks.Ask.TheVariants as ask
use Rattle.vm_asks.specs.declared.asks.AnswerKind.{AnswerKind}
use Rattle.vm_asks.specs.declared.command.Command.{Command}
use Rattle.vm_asks.specs.declared.state_read.StateRead.{StateRead}
use Rattle.vm_asks.specs.Asks.{ask_of}
use Rattle.vm_asks.specs.Requests.{ids_of}
use Rattle.vm_model.specs.Calls.{Setup, Meaning, Derived, Demand, Move, asked, awaited, awakeable_made, awaiting, call_of, cancel_sent, with_cancel_taken, cancelled, cancelling, commanding, id_awaited, id_read, is_awake, is_cancelled_in, making_awakeable, numbered, reading, ready_in, take_of_result, signal_made, take_noting_id, take_of_value, Turn, part, part_unless, refused_before, turn_after}
use Rattle.vm_model.specs.Calls.Move.{Answers, Needs, Awaits, Ends, Refuses}
use Rattle.vm_model.specs.Moves.{Point, after, with_read_result, command_used, move_at, moved, next, found, start, uses_arrival, uses_command}
use Rattle.vm_model.specs.Deliveries.{EachTookAResult, TakeIsAnswered, next_taken}
use Rattle.vm_model.proofs.Cancelling.{both_parts}
use Rattle.vm_model.proofs.Parts.{turn_splits}
use Rattle.vm_model.proofs.Results.{present_next}
use Rattle.vm_model.proofs.Runs.{and_then_some, none_some}

-- what each take of a run took was present
abbrev Took : Setup → Derived → Type 0
Took s d = EachTookAResult s.options.signal_delivery d.usage

abbrev TookAfter : Setup → Move → Type 0
TookAfter s (Answers gives d) = Took s d
TookAfter s (Needs demand gives d) = Took s d
TookAfter s Awaits = Unit {0}
TookAfter s Ends = Unit {0}
TookAfter s (Refuses name) = Unit {0}

numbered_took : (s : Setup) (c : Command) (o : Option NamedFault) (d : Derived) → Took s d → TookAfter s (numbered s c o d)
numbered_took s c (Some fault) d h = tt
numbered_took s c None d h = h

commanding_took : (s : Setup) (c : Command) (o : Option NamedFault) (d : Derived) → Took s d → TookAfter s (commanding s c o d)
commanding_took s c (Some fault) d h = tt
commanding_took s c None d h = numbered_took s c (missing_number (ids_of c.message) 0 (ids_of c.message) d.counters) d h

part_took : (s : Setup) (kind : AnswerKind) (c : Command) (cs : List Command) (before d : Derived) → Took s before → Took s d → TookAfter s (part s kind c cs before d)
part_took s kind c [] before d h k = h
part_took s kind c (b ∷ bs) before d h k = k

turn_took : (s : Setup) (kind : AnswerKind) (o : Option NamedFault) (t : Turn) (d : Derived) → t.before.usage ≡ d.usage → Took s d → TookAfter s (part_unless o s kind t d)
turn_took s kind (Some fault) t d same h = tt
turn_took s kind None t d same h = part_took s kind t.command t.behind t.before d (subst (EachTookAResult s.options.signal_delivery) (sym same) h) h

reading_took : (s : Setup) (r : StateRead) (o : Option NamedFault) (d : Derived) → Took s d → TookAfter s (reading r o d)
reading_took s r (Some fault) d h = tt
reading_took s r None d h = h

awakeable_took : (s : Setup) (o : Option NamedFault) (d : Derived) → Took s d → TookAfter s (awakeable_made s o d)
awakeable_took s (Some fault) d h = tt
awakeable_took s None d h = h

making_took : (s : Setup) (b : Bool) (d : Derived) → Took s d → TookAfter s (making_awakeable s b d)
making_took s true d h = tt
making_took s false d h = awakeable_took s (missing_signals 1 1 d.counters) d h

signal_took : (s : Setup) (name : List ℕ) (o : Option NamedFault) (d : Derived) → Took s d → TookAfter s (signal_made name o d)
signal_took s name (Some fault) d h = tt
signal_took s name None d h = h

awaiting_took : (s : Setup) (b : Bool) (d : Derived) → Took s d → TookAfter s (awaiting b d)
awaiting_took s true d h = h
awaiting_took s false d h = tt

-- a cancelled handler's cancel signal is there to be taken
cancel_took : (s : Setup) (o : Option NotificationId) (d : Derived) → is_some (present_result_for s.options.signal_delivery o (ready_in s d)) ≡ true → Took s d → Took s (with_cancel_taken o (record d { tracked = [] }))
cancel_took s None d there h = h
cancel_took s (Some id) d there h = (there, h)

read_took : (s : Setup) (o : Option (List ℕ)) (d : Derived) → Took s d → TookAfter s (id_read o d)
read_took s None d h = tt
read_took s (Some id) d h = h

id_took : (s : Setup) (o : Option NotificationResult) (d : Derived) → Took s d → TookAfter s (id_awaited o d)
id_took s None d h = tt
id_took s (Some result) d h = read_took s (id_of_result result) d h

sent_took : (s : Setup) (id : List ℕ) (o : Option NamedFault) (d : Derived) → Took s d → TookAfter s (cancel_sent s id o d)
sent_took s id (Some fault) d h = tt
sent_took s id None d h = h

cancelling_took : (s : Setup) (ids : List (List ℕ)) (d : Derived) → is_cancelled_in s d ≡ true → Took s d → TookAfter s (cancelling s ids d)
cancelling_took s [] d c h = cancel_took s (id_at 1 d.handles) d (both_parts (ends_awaits s.options.implicit_cancellation) _ c).1 h
cancelling_took s (id ∷ ids) d c h = sent_took s id (missing_number 0 0 0 d.counters) d h

cancelled_took : (s : Setup) (handles : List ℕ) (d : Derived) → is_cancelled_in s d ≡ true → Took s d → TookAfter s (cancelled s handles d)
cancelled_took s [] d c h = cancelling_took s (invocation_ids d.tracked) d c h
cancelled_took s (handle ∷ handles) d c h = id_took s (present_result_for s.options.signal_delivery (id_at handle d.handles) (ready_in s d)) d h

awaited_took : (s : Setup) (b : Bool) (future : UnresolvedFuture) (d : Derived) → is_cancelled_in s d ≡ b → Took s d → TookAfter s (awaited s b future d)
awaited_took s true future d c h = cancelled_took s (unresolved_handles d.tracked) d c h
awaited_took s false future d c h = awaiting_took s (is_awake s future d) d h

noted_took : (s : Setup) (handle : NotificationHandle) (id : NotificationId) (value : Value) (o : Option (List TrackedCall)) (d : Derived) → is_some (present_result s.options.signal_delivery id (ready_in s d)) ≡ true → Took s d → TookAfter s (take_noting_id handle id value o d)
noted_took s handle id value None d there h = tt
noted_took s handle id value (Some tracked) d there h = (there, h)

value_took : (s : Setup) (handle : NotificationHandle) (id : NotificationId) (o : Option Value) (d : Derived) → is_some (present_result s.options.signal_delivery id (ready_in s d)) ≡ true → Took s d → TookAfter s (take_of_value handle id o d)
value_took s handle id None d there h = tt
value_took s handle id (Some value) d there h = noted_took s handle id value (id_noted handle.0 (id_of_value value) d.tracked) d there h

result_took : (s : Setup) (handle : NotificationHandle) (id : Option NotificationId) (o : Option NotificationResult) (d : Derived) → present_result_for s.options.signal_delivery id (ready_in s d) ≡ o → Took s d → TookAfter s (take_of_result handle id o d)
result_took s handle (Some id) (Some result) d is h = value_took s handle id (value_of result) d (ap is_some is) h
result_took s handle (Some id) None d is h = h
result_took s handle None o d is h = h

asked_took : (s : Setup) (a : Ask) (d : Derived) → Took s d → TookAfter s (asked s a d)
asked_took s (ask.Command c) d h = commanding_took s c c.refusal d h
asked_took s (ask.Commands kind first second) d h =
    let t = turn_after s d.parts first (second ∷ []) d in
    turn_took s kind (refused_before t.command t.behind t.before.counters) t d (turn_splits s d.parts first (second ∷ []) d).usage h
asked_took s (ask.Read r) d h = reading_took s r (missing_number 1 0 1 d.counters) d h
asked_took s ask.Awakeable d h = making_took s (skips_replay s.options.journal_replay) d h
asked_took s (ask.Signal name) d h = signal_took s name (missing_signals 0 1 d.counters) d h
asked_took s (ask.Await future) d h = awaited_took s (is_cancelled_in s d) future d refl h
asked_took s (ask.Take handle) d h = result_took s handle (id_at handle.0 d.handles) (present_result_for s.options.signal_delivery (id_at handle.0 d.handles) (ready_in s d)) d refl h
asked_took s (ask.Completed handle) d h = h
asked_took s ask.End d h = tt

brought_took : (s : Setup) (id : ℕ) (result : Option NotificationResult) (d : Derived) → Took s d → Took s (with_read_result id result d)
brought_took s id None d h = h
brought_took s id (Some result) d h = h

command_took : (s : Setup) (o : Result (Option NotificationResult) NamedFault) (e : Demand) (gives : List Answer) (d : Derived) (left : List RawMessage) (p q : Point) → Took s d → command_used o e gives d left p ≡ Some q → Took s q.derived
command_took s (Err name) e gives d left p q h m = none_some m
command_took s (Ok result) e gives d left p q h m = subst (λ z. Took s z.derived) (same_Some _ q m) (brought_took s p.derived.counters.completion result d h)

uses_took : (s : Setup) (e : Demand) (gives : List Answer) (d : Derived) (left : List RawMessage) (p q : Point) → Took s d → uses_command e gives d left p ≡ Some q → Took s q.derived
uses_took s e gives d [] p q h m = none_some m
uses_took s e gives d (c ∷ left) p q h m = command_took s (found e c) e gives d left p q h m

arrival_took : (s : Setup) (queue : List Notification) (p q : Point) → Took s p.derived → uses_arrival queue p ≡ Some q → Took s q.derived
arrival_took s [] p q h m = none_some m
arrival_took s (n ∷ queue) p q h m = subst (λ z. Took s z.derived) (same_Some _ q m) h

moved_took : (s : Setup) (mv : Move) (p q : Point) → Took s p.derived → TookAfter s mv → moved mv p ≡ Some q → Took s q.derived
moved_took s (Answers gives d) p q h t m = subst (λ z. Took s z.derived) (same_Some _ q m) t
moved_took s (Needs e gives d) p q h t m = uses_took s e gives d p.left p q t m
moved_took s Awaits p q h t m = arrival_took s p.queue p q h m
moved_took s Ends p q h t m = none_some m
moved_took s (Refuses name) p q h t m = none_some m

after_took : (s : Setup) (m : Meaning) (n : ℕ) (p q : Point) → Took s p.derived → after s m n p ≡ Some q → Took s q.derived
after_took s m zero p q h e = subst (λ z. Took s z.derived) (same_Some _ q e) h
after_took s m (suc n) p q h e =
    let x = and_then_some (next s m p) (after s m n) q e in
    after_took s m n x.0 q (moved_took s (move_at s m p) p x.0 h (asked_took s (ask_of s.version (m p.answers)) p.derived h) x.1) x.2

-- in a run over a journal each take took what was present
pub told_took : (s : Setup) (m : Meaning) (n : ℕ) (input : InputCommand) (ns : List Notification) (cs : List RawMessage) (q : Point) → after s m n (start s input ns cs) ≡ Some q → EachTookAResult s.options.signal_delivery q.derived.usage
told_took s m n input ns cs q e = after_took s m n (start s input ns cs) q tt e

-- ---- what a take is answered

noted_answers : (s : Setup) (handle : NotificationHandle) (id : NotificationId) (result : NotificationResult) (value : Value) (o : Option (List TrackedCall)) (p q : Point) → value_of result ≡ Some value → id_at handle.0 p.derived.handles ≡ Some id → next_taken s.options.signal_delivery id p.derived.usage ≡ Some result → moved (take_noting_id handle id value o p.derived) p ≡ Some q → TakeIsAnswered s handle p q
noted_answers s handle id result value None p q is at taken m = none_some m
noted_answers s handle id result value (Some tracked) p q is at taken m =
    let now = same_Some _ q m in
    inr (id, result, value, at, taken, is, ap (λ z. z.answers) (sym now), ap (λ z. z.derived.usage) (sym now))

value_answers : (s : Setup) (handle : NotificationHandle) (id : NotificationId) (result : NotificationResult) (o : Option Value) (p q : Point) → value_of result ≡ o → id_at handle.0 p.derived.handles ≡ Some id → next_taken s.options.signal_delivery id p.derived.usage ≡ Some result → moved (take_of_value handle id o p.derived) p ≡ Some q → TakeIsAnswered s handle p q
value_answers s handle id result None p q is at taken m = none_some m
value_answers s handle id result (Some value) p q is at taken m = noted_answers s handle id result value (id_noted handle.0 (id_of_value value) p.derived.tracked) p q is at taken m

-- nothing is taken
nothing_answers : (s : Setup) (handle : NotificationHandle) (p q : Point) → ((id : NotificationId) → id_at handle.0 p.derived.handles ≡ Some id → next_taken s.options.signal_delivery id p.derived.usage ≡ None) → moved (Answers (answer.Taken None ∷ []) p.derived) p ≡ Some q → TakeIsAnswered s handle p q
nothing_answers s handle p q none m = inl (ap (λ z. z.answers) (sym (same_Some _ q m)), none)

result_answers : (s : Setup) (handle : NotificationHandle) (id : Option NotificationId) (o : Option NotificationResult) (p q : Point) → Took s p.derived → id_at handle.0 p.derived.handles ≡ id → present_result_for s.options.signal_delivery id (ready_in s p.derived) ≡ o → moved (take_of_result handle id o p.derived) p ≡ Some q → TakeIsAnswered s handle p q
result_answers s handle (Some id) (Some result) p q h at is m = value_answers s handle id result (value_of result) p q refl at (sym (present_next s.options.signal_delivery id p.derived.usage h) ∙ is) m
result_answers s handle (Some id) None p q h at is m =
    nothing_answers s handle p q (λ j there. ap (λ x. next_taken s.options.signal_delivery x p.derived.usage) (same_Some j id (sym there ∙ at)) ∙ sym (present_next s.options.signal_delivery id p.derived.usage h) ∙ is) m
result_answers s handle None o p q h at is m = nothing_answers s handle p q (λ j there. none_some (sym at ∙ there)) m

-- a take of a run is answered with what is taken next
pub take_answers : (s : Setup) (m : Meaning) (n : ℕ) (input : InputCommand) (ns : List Notification) (cs : List RawMessage) (p q : Point) (handle : NotificationHandle) → after s m n (start s input ns cs) ≡ Some p → m p.answers ≡ step.Take handle → next s m p ≡ Some q → TakeIsAnswered s handle p q
take_answers s m n input ns cs p q handle e asks moves =
    result_answers s handle (id_at handle.0 p.derived.handles) (present_result_for s.options.signal_delivery (id_at handle.0 p.derived.handles) (ready_in s p.derived)) p q (told_took s m n input ns cs p e) refl refl (ap (λ st. moved (call_of s st p.derived) p) (sym asks) ∙ moves)
