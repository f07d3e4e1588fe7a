-- What rounds ask of a journal that is there before them, whoever made it.
use Rattle.std.specs.Prelude.{ℕ, List}
use Rattle.vm_model.specs.Calls.{Meaning}
use Rattle.vm_model.specs.SoundHistories.{SoundHistory}
use Rattle.world_rounds.specs.declared.types.Setting.{Setting}
use Rattle.journal_entries.specs.Entries.{journal_entries}
use Rattle.world_rounds.specs.States.{base_of}
use Rattle.world_rounds.specs.Worlds.{setup_of}
use Rattle.world_rounds.specs.Rounds.{ReplaysAndQueues}

-- In this setting recorded commands are replayed and signals queue, and the journal is a sound
-- history of the handler, from the state before any command.
pub record IsSoundFor (m : Meaning) (w : Setting) (journal : List (List ℕ)) : Type 0 where
  pub replays : ReplaysAndQueues w.options
  pub history : SoundHistory (setup_of w) m (base_of w) (journal_entries journal)
