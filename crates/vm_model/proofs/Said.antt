-- What moves say: what was said grows, and a run with nothing recorded left says what it makes.
use Rattle.std.proofs.Common.{◌≡◌, ℕ, zero, suc, List, [], ◌∷◌, ◌++◌, Option, Some, refl, sym, ap, ◌∙◌, subst, append_assoc, append-nil}
use Rattle.std.specs.Prelude.{Result, Ok, Err}
use Rattle.std.proofs.lemmas.Option.{same_Some}
use Rattle.journal_protocol.specs.NamedFault.{NamedFault}
use Rattle.journal_protocol.specs.Message.{Message}
use Rattle.journal_protocol.specs.RawMessage.{RawMessage}
use Rattle.journal_protocol.specs.Notification.{Notification}
use Rattle.journal_protocol.specs.NotificationResult.{NotificationResult}
use Rattle.vm_state.specs.declared.state_map.StateMap.{StateMap}
use Rattle.vm_types.specs.declared.steps.Answer.{Answer}
use Rattle.vm_model.specs.Calls.{Setup, Meaning, Derived, Demand, Move}
use Rattle.vm_model.specs.Calls.Move.{Answers, Needs, Awaits, Ends, Refuses}
use Rattle.journal_entries.specs.Journal.{stored_form}
use Rattle.vm_model.specs.Moves.{Point, command_used, found, longer, move_at, moved, next, own, said_of, supplied, supply, uses_arrival, uses_command}
use Rattle.vm_model.specs.Histories.{IsPrefix, Knowledge, Made}
use Rattle.vm_model.proofs.Runs.{moved_alone, none_some}

command_used_said : (o : Result (Option NotificationResult) NamedFault) (e : Demand) (gives : List Answer) (d : Derived) (left : List RawMessage) (p q : Point) → command_used o e gives d left p ≡ Some q → IsPrefix p.said q.said
command_used_said (Err name) e gives d left p q h = none_some h
command_used_said (Ok result) e gives d left p q h = (said_of e ∷ [], ap (λ z. z.said) (sym (same_Some _ _ h)))

uses_command_said : (e : Demand) (gives : List Answer) (d : Derived) (left : List RawMessage) (p q : Point) → uses_command e gives d left p ≡ Some q → IsPrefix p.said q.said
uses_command_said e gives d [] p q h = none_some h
uses_command_said e gives d (c ∷ left) p q h = command_used_said (found e c) e gives d left p q h

uses_arrival_said : (queue : List Notification) (p q : Point) → uses_arrival queue p ≡ Some q → q.said ≡ p.said
uses_arrival_said [] p q h = none_some h
uses_arrival_said (n ∷ queue) p q h = ap (λ z. z.said) (sym (same_Some _ _ h))

moved_said : (mv : Move) (p q : Point) → moved mv p ≡ Some q → IsPrefix p.said q.said
moved_said (Answers gives d) p q h = ([], ap (λ z. z.said) (sym (same_Some _ _ h)) ∙ sym (append-nil p.said))
moved_said (Needs e gives d) p q h = uses_command_said e gives d p.left p q h
moved_said Awaits p q h = ([], uses_arrival_said p.queue p q h ∙ sym (append-nil p.said))
moved_said Ends p q h = none_some h
moved_said (Refuses name) p q h = none_some h

-- what may be known in one way may be known in another, from what was said on
pub made_weaken : (s : Setup) (m : Meaning) (K A : Knowledge) (told : List Message) → ((state : StateMap) (x : List Message) → A state (told ++ x) → K state (told ++ x))
    → (n : ℕ) (p : Point) (made : List RawMessage) (q : Point) (x : List Message) → p.said ≡ told ++ x → Made s m A n p made q → Made s m K n p made q
made_weaken s m K A told f zero p made q x e h = h
made_weaken s m K A told f (suc n) p made q x e (state, r, rest, knows, is, moves, further) =
    let y = moved_said (move_at s m p) (longer (supplied s m state p) p) r moves in (
      state,
      r,
      rest,
      subst (K state) (sym e) (f state x (subst (A state) e knows)),
      is,
      moves,
      made_weaken s m K A told f n r rest q (x ++ y.0) (y.1 ∙ ap (λ l. l ++ y.0) e ∙ append_assoc told x y.0) further,
    )

-- ---- if no recorded command is left

-- what a move says then: its own command stands for itself, and is said
abbrev pub Says : StateMap → Move → Point → Point → Type 0
Says state (Needs e gives d) p q = (result : Option NotificationResult) × (found e (stored_form (own state e)) ≡ Ok result) × (q.said ≡ p.said ++ said_of e ∷ [])
Says state (Answers gives d) p q = q.said ≡ p.said
Says state Awaits p q = q.said ≡ p.said
Says state Ends p q = q.said ≡ p.said
Says state (Refuses name) p q = q.said ≡ p.said

used_alone : (o : Result (Option NotificationResult) NamedFault) (e : Demand) (gives : List Answer) (d : Derived) (p q : Point) → command_used o e gives d [] p ≡ Some q → (result : Option NotificationResult) × (o ≡ Ok result) × (q.said ≡ p.said ++ said_of e ∷ [])
used_alone (Err name) e gives d p q h = none_some h
used_alone (Ok result) e gives d p q h = (result, refl, ap (λ z. z.said) (sym (same_Some _ _ h)))

alone_says : (state : StateMap) (mv : Move) (p q : Point) → moved mv (record p { left = supply state mv [] }) ≡ Some q → Says state mv p q
alone_says state (Answers gives d) p q h = ap (λ z. z.said) (sym (same_Some _ _ h))
alone_says state (Needs e gives d) p q h = used_alone (found e (stored_form (own state e))) e gives d (record p { left = stored_form (own state e) ∷ [] }) q h
alone_says state Awaits p q h = uses_arrival_said p.queue (record p { left = [] }) q h
alone_says state Ends p q h = none_some h
alone_says state (Refuses name) p q h = none_some h

pub next_says : (s : Setup) (m : Meaning) (state : StateMap) (p q : Point) → p.left ≡ [] → next s m (longer (supplied s m state p) p) ≡ Some q → Says state (move_at s m p) p q
next_says s m state p q e h = alone_says state (move_at s m p) p q (moved_alone s m state p q e h)
