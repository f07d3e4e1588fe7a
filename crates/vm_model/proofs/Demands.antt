-- What the moves of a step need: what its own commands ask for, a read, or a cancel command. What is so of these is so of each move.
use Rattle.std.proofs.Common.{ℕ, Bool, true, false, List, [], ◌∷◌, Option, Some, None}
use Rattle.journal_protocol.specs.NamedFault.{NamedFault}
use Rattle.journal_protocol.specs.NotificationId.{NotificationId}
use Rattle.journal_protocol.specs.NotificationResult.{NotificationResult}
use Rattle.vm_types.specs.declared.steps.Answer.{Answer}
use Rattle.await_trees.specs.declared.handle.NotificationHandle.{NotificationHandle}
use Rattle.await_trees.specs.declared.tree.UnresolvedFuture.{UnresolvedFuture}
use Rattle.vm_state.specs.declared.tracked_call.TrackedCall.{TrackedCall}
use Rattle.vm_types.specs.declared.values.Value.{Value}
use Rattle.vm_state.specs.Counting.{missing_number, missing_signals}
use Rattle.vm_parts.specs.Deliveries.{id_at, present_result_for}
use Rattle.vm_parts.specs.Tracked.{id_of_result, invocation_ids, id_noted, unresolved_handles}
use Rattle.vm_types.specs.Values.{id_of_value, value_of}
use Rattle.vm_asks.specs.declared.asks.Ask.{Ask}
use Rattle.vm_asks.specs.declared.asks.Ask.TheVariants as ask
use Rattle.vm_asks.specs.declared.asks.AnswerKind.{AnswerKind}
use Rattle.vm_asks.specs.declared.command.Command.{Command}
use Rattle.vm_asks.specs.declared.state_read.StateRead.{StateRead}
use Rattle.vm_asks.specs.Asks.{EachIs, cancel_invocation_command}
use Rattle.vm_asks.specs.Requests.{ids_of}
use Rattle.vm_types.specs.Options.{skips_replay}
use Rattle.vm_model.specs.Calls.{Setup, Derived, Demand, Move, asked, awaited, awakeable_made, awaiting, cancel_sent, cancelled, cancelling, commanding, demand_of, id_awaited, id_read, is_awake, is_cancelled_in, making_awakeable, numbered, reading, ready_in, take_of_result, signal_made, take_noting_id, take_of_value, Turn, part, part_unless, refused_before, turn_after}
use Rattle.vm_model.specs.Calls.Demand.{Reads}
use Rattle.vm_model.specs.Calls.Move.{Answers, Needs, Awaits, Ends, Refuses}
use Rattle.vm_model.proofs.Parts.{turn_is}

-- this holds of what a move needs, and of the answers that it gives
abbrev pub OfMove : (Demand → List Answer → Type 0) → Move → Type 0
OfMove P (Needs e gives d) = P e gives
OfMove P (Answers gives d) = Unit {0}
OfMove P Awaits = Unit {0}
OfMove P Ends = Unit {0}
OfMove P (Refuses name) = Unit {0}

-- this holds of a command, for all answers that its move may give
abbrev OfCommand : Setup → (Demand → List Answer → Type 0) → Command → Type 0
OfCommand s P c = (d : Derived) (gives : List Answer) → P (demand_of s c d) gives

-- this holds of what a step asks for: a lone command is answered by one answer
abbrev pub OfAsk : Setup → (Demand → List Answer → Type 0) → Ask → Type 0
OfAsk s P (ask.Command c) = (d : Derived) (a : Answer) → P (demand_of s c d) (a ∷ [])
OfAsk s P (ask.Commands kind first second) = EachIs (OfCommand s P) first (second ∷ [])
OfAsk s P a = Unit {0}

module _ (s : Setup) (P : Demand → List Answer → Type 0) (of_read : (r : StateRead) (id : ℕ) (gives : List Answer) → P (Reads r id) gives) (of_cancel : (id : List ℕ) (d : Derived) → P (demand_of s (cancel_invocation_command id) d) []) where
  numbered_is : (c : Command) (o : Option NamedFault) (d : Derived) → ((a : Answer) → P (demand_of s c d) (a ∷ [])) → OfMove P (numbered s c o d)
  numbered_is c (Some fault) d h = tt
  numbered_is c None d h = h _

  commanding_is : (c : Command) (o : Option NamedFault) (d : Derived) → ((a : Answer) → P (demand_of s c d) (a ∷ [])) → OfMove P (commanding s c o d)
  commanding_is c (Some fault) d h = tt
  commanding_is c None d h = numbered_is c (missing_number (ids_of c.message) 0 (ids_of c.message) d.counters) d h

  part_is : (kind : AnswerKind) (c : Command) (cs : List Command) (before d : Derived) → OfCommand s P c → OfMove P (part s kind c cs before d)
  part_is kind c [] before d h = h before _
  part_is kind c (b ∷ bs) before d h = h before _

  turn_is_so : (kind : AnswerKind) (o : Option NamedFault) (t : Turn) (d : Derived) → OfCommand s P t.command → OfMove P (part_unless o s kind t d)
  turn_is_so kind (Some fault) t d h = tt
  turn_is_so kind None t d h = part_is kind t.command t.behind t.before d h

  reading_is : (r : StateRead) (o : Option NamedFault) (d : Derived) → OfMove P (reading r o d)
  reading_is r (Some fault) d = tt
  reading_is r None d = of_read r d.counters.completion _

  awakeable_is : (o : Option NamedFault) (d : Derived) → OfMove P (awakeable_made s o d)
  awakeable_is (Some fault) d = tt
  awakeable_is None d = tt

  making_is : (b : Bool) (d : Derived) → OfMove P (making_awakeable s b d)
  making_is true d = tt
  making_is false d = awakeable_is (missing_signals 1 1 d.counters) d

  signal_is : (name : List ℕ) (o : Option NamedFault) (d : Derived) → OfMove P (signal_made name o d)
  signal_is name (Some fault) d = tt
  signal_is name None d = tt

  awaiting_is : (b : Bool) (d : Derived) → OfMove P (awaiting b d)
  awaiting_is true d = tt
  awaiting_is false d = tt

  read_is : (o : Option (List ℕ)) (d : Derived) → OfMove P (id_read o d)
  read_is None d = tt
  read_is (Some id) d = tt

  id_is : (o : Option NotificationResult) (d : Derived) → OfMove P (id_awaited o d)
  id_is None d = tt
  id_is (Some result) d = read_is (id_of_result result) d

  sent_is : (id : List ℕ) (o : Option NamedFault) (d : Derived) → OfMove P (cancel_sent s id o d)
  sent_is id (Some fault) d = tt
  sent_is id None d = of_cancel id d

  cancelling_is : (ids : List (List ℕ)) (d : Derived) → OfMove P (cancelling s ids d)
  cancelling_is [] d = tt
  cancelling_is (id ∷ ids) d = sent_is id (missing_number 0 0 0 d.counters) d

  cancelled_is : (handles : List ℕ) (d : Derived) → OfMove P (cancelled s handles d)
  cancelled_is [] d = cancelling_is (invocation_ids d.tracked) d
  cancelled_is (handle ∷ handles) d = id_is (present_result_for s.options.signal_delivery (id_at handle d.handles) (ready_in s d)) d

  awaited_is : (b : Bool) (future : UnresolvedFuture) (d : Derived) → OfMove P (awaited s b future d)
  awaited_is true future d = cancelled_is (unresolved_handles d.tracked) d
  awaited_is false future d = awaiting_is (is_awake s future d) d

  noted_is : (handle : NotificationHandle) (id : NotificationId) (value : Value) (o : Option (List TrackedCall)) (d : Derived) → OfMove P (take_noting_id handle id value o d)
  noted_is handle id value None d = tt
  noted_is handle id value (Some tracked) d = tt

  value_is : (handle : NotificationHandle) (id : NotificationId) (o : Option Value) (d : Derived) → OfMove P (take_of_value handle id o d)
  value_is handle id None d = tt
  value_is handle id (Some value) d = noted_is handle id value (id_noted handle.0 (id_of_value value) d.tracked) d

  result_is : (handle : NotificationHandle) (id : Option NotificationId) (o : Option NotificationResult) (d : Derived) → OfMove P (take_of_result handle id o d)
  result_is handle (Some id) (Some result) d = value_is handle id (value_of result) d
  result_is handle (Some id) None d = tt
  result_is handle None o d = tt

  pub asked_is : (a : Ask) (d : Derived) → OfAsk s P a → OfMove P (asked s a d)
  asked_is (ask.Command c) d h = commanding_is c c.refusal d (h d)
  asked_is (ask.Commands kind first second) d h =
      let t = turn_after s d.parts first (second ∷ []) d in
      turn_is_so kind (refused_before t.command t.behind t.before.counters) t d (turn_is (OfCommand s P) s d.parts first (second ∷ []) d h)
  asked_is (ask.Read r) d h = reading_is r (missing_number 1 0 1 d.counters) d
  asked_is ask.Awakeable d h = making_is (skips_replay s.options.journal_replay) d
  asked_is (ask.Signal name) d h = signal_is name (missing_signals 0 1 d.counters) d
  asked_is (ask.Await future) d h = awaited_is (is_cancelled_in s d) future d
  asked_is (ask.Take handle) d h = result_is handle (id_at handle.0 d.handles) (present_result_for s.options.signal_delivery (id_at handle.0 d.handles) (ready_in s d)) d
  asked_is (ask.Completed handle) d h = tt
  asked_is ask.End d h = tt
