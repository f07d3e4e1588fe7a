-- Two versions of a handler, and a journal on which they make the same calls.
use Rattle.std.specs.Prelude.{◌≡◌, List, ◌∷◌, Some}
use Rattle.journal_protocol.specs.InputCommand.{InputCommand}
use Rattle.journal_protocol.specs.RawMessage.{RawMessage}
use Rattle.vm_model.specs.Calls.{Setup, Meaning}
use Rattle.journal_entries.specs.Journal.{Entry, commands_in, input_read_from, notifications_in}
use Rattle.vm_model.specs.Moves.{Point}
use Rattle.vm_model.specs.Histories.{Told}

-- After all answers that the journal tells the one version the other makes the same call.
abbrev pub AgreeOn : Setup → Meaning → Meaning → List Entry → Type 0
AgreeOn s m other journal =
    (first : RawMessage) (input : InputCommand) (rest : List RawMessage) (p : Point)
    → commands_in journal ≡ first ∷ rest → input_read_from first ≡ Some input
    → Told s m input (notifications_in journal) rest p → other p.answers ≡ m p.answers
