-- Whether replay compares the values that the calls set which a journal tells.
use Rattle.std.specs.Prelude.{◌≡◌, List, ◌∷◌, Some}
use Rattle.journal_protocol.specs.InputCommand.{InputCommand}
use Rattle.journal_protocol.specs.RawMessage.{RawMessage}
use Rattle.journal_entries.specs.Journal.{Entry, commands_in, input_read_from, notifications_in}
use Rattle.vm_model.specs.Calls.{Meaning, Setup}
use Rattle.vm_model.specs.ComparedSets.{SetsAreCompared}
use Rattle.vm_model.specs.Histories.{Told}
use Rattle.vm_model.specs.Moves.{Point}
use Rattle.vm_model.specs.Sums.{calls_for}

-- Each value that the calls set is compared, of the calls that brought all answers which the
-- journal tells. Calls that the handler would make on another journal don't matter.
abbrev pub ToldSetsAreCompared : Setup → Meaning → List Entry → Type 0
ToldSetsAreCompared s m journal =
    (first : RawMessage) (input : InputCommand) (rest : List RawMessage) (p : Point)
    → commands_in journal ≡ first ∷ rest → input_read_from first ≡ Some input
    → Told s m input (notifications_in journal) rest p → SetsAreCompared s (calls_for m p.answers)
