-- A journal on which the handler has come to its end.
use Rattle.std.specs.Prelude.{◌≡◌, List, [], ◌∷◌, Some}
use Rattle.journal_protocol.specs.InputCommand.{InputCommand}
use Rattle.journal_protocol.specs.RawMessage.{RawMessage}
use Rattle.vm_model.specs.Calls.{Setup, Meaning}
use Rattle.vm_model.specs.Calls.Move.{Ends}
use Rattle.journal_entries.specs.Journal.{Entry, commands_in, input_read_from, notifications_in}
use Rattle.vm_model.specs.Moves.{Point, move_at}
use Rattle.vm_model.specs.Histories.{Told}

-- The handler's run over the journal uses all its commands, and there the handler ends.
pub record HasFinished (s : Setup) (m : Meaning) (journal : List Entry) : Type 0 where
  pub first : RawMessage
  pub input : InputCommand
  pub reads : input_read_from first ≡ Some input
  pub rest : List RawMessage
  pub begins : commands_in journal ≡ first ∷ rest
  pub at : Point
  pub told : Told s m input (notifications_in journal) rest at
  pub uses_all : at.left ≡ []
  pub ends : move_at s m at ≡ Ends
