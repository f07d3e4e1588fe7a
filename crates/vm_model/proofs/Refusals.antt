-- Where a call is refused no move leads on.
use Rattle.std.proofs.Common.{◌≡◌, List, [], ◌∷◌, None, refl, sym, ap, ◌∙◌, append-nil}
use Rattle.journal_protocol.specs.NamedFault.{NamedFault}
use Rattle.journal_protocol.specs.RawMessage.{RawMessage}
use Rattle.journal_protocol.specs.Notification.{Notification}
use Rattle.vm_state.specs.declared.state_map.StateMap.{StateMap}
use Rattle.vm_model.specs.Calls.{Setup, Meaning, Move}
use Rattle.vm_model.specs.Calls.Move.{Answers, Needs, Awaits, Ends, Refuses}
use Rattle.vm_model.specs.Histories.{IsStuck}
use Rattle.vm_model.specs.Moves.{Point, command_used, longer, move_at, moved, supply, uses_arrival, uses_command}
use Rattle.vm_model.specs.Refusals.{IsRefusedFor}

-- a refusal leads nowhere
leads_nowhere : (state : StateMap) (mv : Move) (left : List RawMessage) (p : Point) (name : NamedFault) → p.left ≡ left → IsRefusedFor mv left p.queue name → moved mv (longer (supply state mv left) p) ≡ None
leads_nowhere state (Answers gives d) left p name is r = absurd r
leads_nowhere state (Needs demand gives d) [] p name is r = absurd r
leads_nowhere state (Needs demand gives d) (c ∷ left) p name is r =
    ap (λ l. uses_command demand gives d l (longer [] p)) (append-nil p.left ∙ is) ∙ ap (λ o. command_used o demand gives d left (longer [] p)) r
leads_nowhere state Awaits [] p name is r = absurd r
leads_nowhere state Awaits (c ∷ left) p name is r = ap (λ l. uses_arrival l (longer [] p)) r.0
leads_nowhere state Ends left p name is r = refl
leads_nowhere state (Refuses why) left p name is r = refl

pub refused_stuck : (s : Setup) (m : Meaning) (state : StateMap) (p : Point) (name : NamedFault) → IsRefusedFor (move_at s m p) p.left p.queue name → IsStuck s m state p
refused_stuck s m state p name r = leads_nowhere state (move_at s m p) p.left p name refl r

-- if no recorded command is left, a call is refused for its own reason alone
pub own_reason : (mv : Move) (queue : List Notification) (name : NamedFault) → IsRefusedFor mv [] queue name → mv ≡ Refuses name
own_reason (Answers gives d) queue name r = absurd r
own_reason (Needs demand gives d) queue name r = absurd r
own_reason Awaits queue name r = absurd r
own_reason Ends queue name r = absurd r
own_reason (Refuses why) queue name r = ap (λ n. Refuses n) (sym r)
