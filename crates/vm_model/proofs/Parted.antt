-- One move of a call with several commands.
use Rattle.std.proofs.Common.{◌≡◌, suc, Bool, List, [], ◌∷◌, ◌++◌, Option, Some, None, refl, sym, ap, ◌∙◌, subst}
use Rattle.std.specs.Prelude.{Result, Ok, Err}
use Rattle.std.proofs.lemmas.Option.{same_Some}
use Rattle.journal_protocol.specs.NamedFault.{NamedFault}
use Rattle.journal_protocol.specs.Message.{Message}
use Rattle.journal_protocol.specs.RawMessage.{RawMessage}
use Rattle.journal_protocol.specs.NotificationResult.{NotificationResult}
use Rattle.vm_types.specs.declared.steps.Answer.{Answer}
use Rattle.vm_asks.specs.declared.asks.AnswerKind.{AnswerKind}
use Rattle.vm_asks.specs.declared.command.Command.{Command}
use Rattle.vm_asks.specs.Asks.{answer_by}
use Rattle.vm_asks.specs.Requests.{with_ids}
use Rattle.vm_types.specs.Options.{ignores_payloads}
use Rattle.vm_model.specs.Calls.{Demand, Derived, Setup, Turn, behind_command, part, part_unless}
use Rattle.vm_model.specs.Calls.Demand.{Exactly}
use Rattle.vm_model.specs.Moves.{Point, command_used, found, moved, uses_command}
use Rattle.vm_model.specs.Uses.{needed_for}
use Rattle.vm_model.proofs.Cancelling.{exactly_none}
use Rattle.vm_model.proofs.Runs.{none_some}

-- a recorded command that stands for one that is needed was used
pub record WasUsed (demand : Demand) (gives : List Answer) (e : Derived) (p r : Point) : Type 0 where
  pub used : RawMessage
  pub left : p.left ≡ used ∷ r.left
  pub stands : found demand used ≡ Ok None
  pub answers : r.answers ≡ p.answers ++ gives
  pub queue : r.queue ≡ p.queue
  pub derived : r.derived ≡ e

module _ (command : Message) (ignore : Bool) (gives : List Answer) (e : Derived) (p r : Point) where
  by_found : (c : RawMessage) (left : List RawMessage) (o : Result (Option NotificationResult) NamedFault) → found (Exactly command ignore) c ≡ o → p.left ≡ c ∷ left → command_used o (Exactly command ignore) gives e left p ≡ Some r → WasUsed (Exactly command ignore) gives e p r
  by_found c left (Err name) is at moves = none_some moves
  by_found c left (Ok result) is at moves =
      let none = exactly_none command ignore c result is in
      let now = same_Some _ r (subst (λ o. command_used (Ok o) (Exactly command ignore) gives e left p ≡ Some r) (sym none) moves) in
      record {
        used = c;
        left = at ∙ ap (λ z. c ∷ z.left) now;
        stands = is ∙ ap Ok (sym none);
        answers = ap (λ z. z.answers) (sym now);
        queue = ap (λ z. z.queue) (sym now);
        derived = ap (λ z. z.derived) (sym now);
      }

  by_next : (left : List RawMessage) → p.left ≡ left → uses_command (Exactly command ignore) gives e left p ≡ Some r → WasUsed (Exactly command ignore) gives e p r
  by_next [] at moves = none_some moves
  by_next (c ∷ left) at moves = by_found c left (found (Exactly command ignore) c) refl at moves

-- One more is made; or with the last the call is answered.
pub data PartMove (s : Setup) (kind : AnswerKind) (t : Turn) (p r : Point) : Type 0 where
  More : (b : Command) (bs : List Command) → t.behind ≡ b ∷ bs → WasUsed (needed_for s t.before.counters.completion t.command) [] (record p.derived { parts = suc p.derived.parts }) p r → PartMove s kind t p r
  Last : t.behind ≡ [] → WasUsed (needed_for s t.before.counters.completion t.command) (answer_by kind (record { 0 = p.derived.counters.handle }) ∷ []) (record (behind_command s t.command t.before) { parts = 0 }) p r → PartMove s kind t p r

by_behind : (s : Setup) (kind : AnswerKind) (c : Command) (behind : List Command) (before : Derived) (p r : Point) → moved (part s kind c behind before p.derived) p ≡ Some r → PartMove s kind (record { command = c; behind = behind; before = before }) p r
by_behind s kind c [] before p r moves = Last refl (by_next (with_ids before.counters.completion c.message) (ignores_payloads s.options.non_determinism_checks c.unstable) (answer_by kind (record { 0 = p.derived.counters.handle }) ∷ []) (record (behind_command s c before) { parts = 0 }) p r p.left refl moves)
by_behind s kind c (b ∷ bs) before p r moves = More b bs refl (by_next (with_ids before.counters.completion c.message) (ignores_payloads s.options.non_determinism_checks c.unstable) [] (record p.derived { parts = suc p.derived.parts }) p r p.left refl moves)

pub part_moves : (s : Setup) (kind : AnswerKind) (o : Option NamedFault) (t : Turn) (p r : Point) → moved (part_unless o s kind t p.derived) p ≡ Some r → PartMove s kind t p r
part_moves s kind (Some name) t p r moves = none_some moves
part_moves s kind None t p r moves = by_behind s kind t.command t.behind t.before p r moves
