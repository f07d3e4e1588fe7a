-- A run of a handler that ends after a number of answers has no more answers than that.
use Rattle.std.proofs.Common.{◌≡◌, ◌⊎◌, ◌+◌, ◌≤◌, ℕ, zero, suc, true, false, Bool, List, [], ◌∷◌, ◌++◌, length, Option, Some, None, Result, Ok, Err, refl, sym, ap, ◌∙◌, subst, inl, inr, arith, length-append}
use Rattle.std.proofs.lemmas.Bool.{cases_eq}
use Rattle.std.proofs.lemmas.Bool.Decides.{nat_tests}
use Rattle.std.proofs.lemmas.Option.{same_Some}
use Rattle.journal_protocol.specs.NamedFault.{NamedFault}
use Rattle.journal_protocol.specs.Notification.{Notification}
use Rattle.journal_protocol.specs.NotificationId.{NotificationId}
use Rattle.journal_protocol.specs.NotificationResult.{NotificationResult}
use Rattle.journal_protocol.specs.RawMessage.{RawMessage}
use Rattle.await_trees.specs.declared.handle.NotificationHandle.{NotificationHandle}
use Rattle.await_trees.specs.declared.tree.UnresolvedFuture.{UnresolvedFuture}
use Rattle.vm_state.specs.declared.tracked_call.TrackedCall.{TrackedCall}
use Rattle.vm_types.specs.declared.steps.Answer.{Answer}
use Rattle.vm_types.specs.declared.steps.Step.TheVariants as step
use Rattle.vm_types.specs.declared.values.Value.{Value}
use Rattle.vm_asks.specs.declared.asks.Ask.{Ask}
use Rattle.vm_asks.specs.declared.asks.Ask.TheVariants as ask
use Rattle.vm_asks.specs.declared.asks.AnswerKind.{AnswerKind}
use Rattle.vm_asks.specs.declared.command.Command.{Command}
use Rattle.vm_asks.specs.declared.state_read.StateRead.{StateRead}
use Rattle.vm_model.specs.Calls.{Demand, Derived, Meaning, Move, Setup, Turn, asked, awaited, awaiting, awakeable_made, call_of, cancel_sent, cancelled, cancelling, commanding, id_awaited, id_read, making_awakeable, numbered, part, part_unless, reading, signal_made, take_noting_id, take_of_result, take_of_value, turn_after}
use Rattle.vm_model.specs.Calls.Move.{Answers, Needs, Awaits, Ends, Refuses}
use Rattle.vm_model.specs.Fixed.{Fixed}
use Rattle.vm_model.specs.Histories.{Handed, Knowledge, Made}
use Rattle.vm_model.specs.Moves.{Point, command_used, found, longer, moved, next, supplied, uses_arrival, uses_command}
use Rattle.vm_model.proofs.Runs.{none_some}
use Rattle.vm_attempt.specs.Heard.{Heard}
use Rattle.vm_attempt.specs.Journals.{setup_for}
use Rattle.vm_attempt.specs.Told.{begun, start_state}
use Rattle.world_laws.specs.Limits.{AnswersAtMost, EndsAfter}

-- a move gives one answer at most
abbrev Few : Move → Type 0
Few (Answers gives d) = length gives ≤ 1
Few (Needs demand gives d) = length gives ≤ 1
Few Awaits = Unit {0}
Few Ends = Unit {0}
Few (Refuses name) = Unit {0}

few_numbered : (s : Setup) (c : Command) (o : Option NamedFault) (d : Derived) → Few (numbered s c o d)
few_numbered s c (Some name) d = tt
few_numbered s c None d = omega arith

few_commanding : (s : Setup) (c : Command) (o : Option NamedFault) (d : Derived) → Few (commanding s c o d)
few_commanding s c (Some name) d = tt
few_commanding s c None d = few_numbered s c _ d

few_part : (s : Setup) (kind : AnswerKind) (c : Command) (cs : List Command) (before d : Derived) → Few (part s kind c cs before d)
few_part s kind c [] before d = omega arith
few_part s kind c (b ∷ bs) before d = omega arith

few_unless : (o : Option NamedFault) (s : Setup) (kind : AnswerKind) (t : Turn) (d : Derived) → Few (part_unless o s kind t d)
few_unless (Some name) s kind t d = tt
few_unless None s kind t d = few_part s kind t.command t.behind t.before d

few_reading : (r : StateRead) (o : Option NamedFault) (d : Derived) → Few (reading r o d)
few_reading r (Some name) d = tt
few_reading r None d = omega arith

few_made : (s : Setup) (o : Option NamedFault) (d : Derived) → Few (awakeable_made s o d)
few_made s (Some name) d = tt
few_made s None d = omega arith

few_making : (s : Setup) (b : Bool) (d : Derived) → Few (making_awakeable s b d)
few_making s true d = tt
few_making s false d = few_made s _ d

few_signal : (name : List ℕ) (o : Option NamedFault) (d : Derived) → Few (signal_made name o d)
few_signal name (Some fault) d = tt
few_signal name None d = omega arith

few_awaiting : (b : Bool) (d : Derived) → Few (awaiting b d)
few_awaiting true d = omega arith
few_awaiting false d = tt

few_sent : (s : Setup) (id : List ℕ) (o : Option NamedFault) (d : Derived) → Few (cancel_sent s id o d)
few_sent s id (Some name) d = tt
few_sent s id None d = omega arith

few_cancelling : (s : Setup) (ids : List (List ℕ)) (d : Derived) → Few (cancelling s ids d)
few_cancelling s [] d = omega arith
few_cancelling s (id ∷ ids) d = few_sent s id _ d

few_read : (o : Option (List ℕ)) (d : Derived) → Few (id_read o d)
few_read None d = tt
few_read (Some id) d = omega arith

few_id : (o : Option NotificationResult) (d : Derived) → Few (id_awaited o d)
few_id None d = tt
few_id (Some result) d = few_read _ d

few_cancelled : (s : Setup) (hs : List ℕ) (d : Derived) → Few (cancelled s hs d)
few_cancelled s [] d = few_cancelling s _ d
few_cancelled s (h ∷ hs) d = few_id _ d

few_awaited : (s : Setup) (b : Bool) (future : UnresolvedFuture) (d : Derived) → Few (awaited s b future d)
few_awaited s true future d = few_cancelled s _ d
few_awaited s false future d = few_awaiting _ d

few_noting : (handle : NotificationHandle) (id : NotificationId) (value : Value) (o : Option (List TrackedCall)) (d : Derived) → Few (take_noting_id handle id value o d)
few_noting handle id value None d = tt
few_noting handle id value (Some tracked) d = omega arith

few_value : (handle : NotificationHandle) (id : NotificationId) (o : Option Value) (d : Derived) → Few (take_of_value handle id o d)
few_value handle id None d = tt
few_value handle id (Some value) d = few_noting handle id value _ d

few_taken : (handle : NotificationHandle) (id : Option NotificationId) (o : Option NotificationResult) (d : Derived) → Few (take_of_result handle id o d)
few_taken handle (Some id) (Some result) d = few_value handle id _ d
few_taken handle (Some id) None d = omega arith
few_taken handle None result d = omega arith

few_asked : (s : Setup) (a : Ask) (d : Derived) → Few (asked s a d)
few_asked s (ask.Command c) d = few_commanding s c c.refusal d
few_asked s (ask.Commands kind first second) d = few_unless _ s kind (turn_after s d.parts first (second ∷ []) d) d
few_asked s (ask.Read r) d = few_reading r _ d
few_asked s ask.Awakeable d = few_making s _ d
few_asked s (ask.Signal name) d = few_signal name _ d
few_asked s (ask.Await future) d = few_awaited s _ future d
few_asked s (ask.Take handle) d = few_taken handle _ _ d
few_asked s (ask.Completed handle) d = omega arith
few_asked s ask.End d = tt

-- ---- a move

-- at most one answer more
abbrev OneMore : Point → Point → Type 0
OneMore p q = length q.answers ≤ length p.answers + 1

more_answers : (xs gives : List Answer) → length gives ≤ 1 → length (xs ++ gives) ≤ length xs + 1
more_answers xs gives few = let n = length-append xs gives in omega (arith, n, few)

by_command : (demand : Demand) (gives : List Answer) (d : Derived) (left : List RawMessage) (p q : Point) (r : Result (Option NotificationResult) NamedFault) → length gives ≤ 1 → command_used r demand gives d left p ≡ Some q → OneMore p q
by_command demand gives d left p q (Err name) few e = none_some e
by_command demand gives d left p q (Ok result) few e = subst (λ (z : Point). OneMore p z) (same_Some _ q e) (more_answers p.answers gives few)

by_commands : (demand : Demand) (gives : List Answer) (d : Derived) (left : List RawMessage) (p q : Point) → length gives ≤ 1 → uses_command demand gives d left p ≡ Some q → OneMore p q
by_commands demand gives d [] p q few e = none_some e
by_commands demand gives d (c ∷ left) p q few e = by_command demand gives d left p q (found demand c) few e

by_arrival : (ns : List Notification) (p q : Point) → uses_arrival ns p ≡ Some q → OneMore p q
by_arrival [] p q e = none_some e
by_arrival (n ∷ ns) p q e = subst (λ (z : Point). OneMore p z) (same_Some _ q e) (omega arith)

one_more : (mv : Move) (p q : Point) → Few mv → moved mv p ≡ Some q → OneMore p q
one_more (Answers gives d) p q few e = subst (λ (z : Point). OneMore p z) (same_Some _ q e) (more_answers p.answers gives few)
one_more (Needs demand gives d) p q few e = by_commands demand gives d p.left p q few e
one_more Awaits p q few e = by_arrival p.queue p q e
one_more Ends p q few e = none_some e
one_more (Refuses name) p q few e = none_some e

-- ---- a run

module _ (s : Setup) (m : Meaning) (limit : ℕ) (ends : EndsAfter m limit) where
  within : (p r : Point) → length p.answers ≤ limit → next s m p ≡ Some r → length r.answers ≤ limit
  within p r le e = elim (cases_eq (length p.answers) limit) as (λ _. length r.answers ≤ limit) [
    | inl same ↦ none_some (sym (ap (λ st. moved (call_of s st p.derived) p) (ends p.answers same)) ∙ e)
    | inr other ↦ let one = one_more (call_of s (m p.answers) p.derived) p r (few_asked s _ p.derived) e in less (length p.answers) (length r.answers) limit le other one
  ]
    where
      less : (a b l : ℕ) → a ≤ l → (a ≡ l → ⊥) → b ≤ a + 1 → b ≤ l
      less a b l le ne one = grind (arith, nat_tests)

  pub run_within : (K : Knowledge) (n : ℕ) (p : Point) (made : List RawMessage) (q : Point) → length p.answers ≤ limit → Made s m K n p made q → length q.answers ≤ limit
  run_within K zero p made q le run = subst (λ (z : Point). length z.answers ≤ limit) run.1 le
  run_within K (suc n) p made q le (state, r, rest, known, is, moves, more) =
      run_within K n r rest q (within (longer (supplied s m state p) p) r le moves) more

pub handler_bounds : (fixed : Fixed) (fed : Heard) (limit : ℕ) → 1 ≤ limit → EndsAfter fixed.handler limit → AnswersAtMost fixed fed limit
handler_bounds fixed fed limit some ends j n made p run = run_within (setup_for fixed j.start) fixed.handler limit ends (Handed (start_state j)) n (begun fixed j) made p some run
