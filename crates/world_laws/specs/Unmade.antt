-- A journal that a handler can replay and that no run of it made.
use Rattle.std.specs.Prelude.{ℕ, List, [], ◌∷◌, None}
use Rattle.journal_protocol.specs.InputCommand.{InputCommand}
use Rattle.journal_protocol.specs.Frames.{encoding}
use Rattle.journal_protocol.specs.Message.{Message}
use Rattle.journal_protocol.specs.Message.TheVariants as message
use Rattle.vm_types.specs.declared.steps.Step.TheVariants as step
use Rattle.vm_model.specs.Calls.{Meaning}
use Rattle.world_rounds.specs.declared.types.Setting.{Setting}
use Rattle.world_rounds.specs.Guarantees.{Case}

-- a handler that sleeps until one second after the epoch, and ends
abbrev pub sleeps_once : Meaning
sleeps_once (input ∷ []) = step.Sleep [] (record { secs = 1; nanos = 0 }) None
sleeps_once answers = step.End

-- this handler in a setting
abbrev pub sleeping_in : Setting → Case
sleeping_in w = record { handler = sleeps_once; setting = w }

-- a sleep until this many ms after the epoch, as the first command after the input
abbrev pub sleep_until : ℕ → Message
sleep_until time =
    message.Sleep (record { wake_up_time = time; result_completion_id = 1; name = [] })

-- the journal of an input and such a sleep
abbrev pub slept_until : InputCommand → ℕ → List (List ℕ)
slept_until input time = encoding (message.Input input) ∷ encoding (sleep_until time) ∷ []
