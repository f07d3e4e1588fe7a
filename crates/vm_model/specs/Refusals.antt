-- Why a call is refused, by what it asks for and what is left of both lists, and the fault that
-- says so.
use Rattle.std.specs.Prelude.{◌≡◌, List, [], ◌∷◌, Err}
use Rattle.journal_protocol.specs.NamedFault.{NamedFault}
use Rattle.journal_protocol.specs.NamedFault.TheVariants as fault
use Rattle.journal_protocol.specs.RawMessage.{RawMessage}
use Rattle.journal_protocol.specs.Notification.{Notification}
use Rattle.vm_model.specs.Calls.{Move}
use Rattle.vm_model.specs.Calls.Move.{Answers, Needs, Awaits, Ends, Refuses}
use Rattle.vm_model.specs.Moves.{found}

-- While recorded commands are left: the next doesn't stand for the call's, or the await is pending
-- with all arrivals used, or the handler ends. At any time: the call is refused for a reason of its
-- own. If no recorded command is left, nothing else is a reason: a call's own command stands for
-- itself, an await waits, and the handler may end.
abbrev pub IsRefusedFor : Move → List RawMessage → List Notification → NamedFault → Type 0
IsRefusedFor (Answers gives d) left queue name = ⊥
IsRefusedFor (Needs demand gives d) [] queue name = ⊥
IsRefusedFor (Needs demand gives d) (c ∷ left) queue name = found demand c ≡ Err name
IsRefusedFor Awaits [] queue name = ⊥
IsRefusedFor Awaits (c ∷ left) queue name = (queue ≡ [])
    × (name ≡ fault.UncompletedDoProgressDuringReplay)
IsRefusedFor Ends [] queue name = ⊥
IsRefusedFor Ends (c ∷ left) queue name = name ≡ fault.UnexpectedState
IsRefusedFor (Refuses why) left queue name = name ≡ why
