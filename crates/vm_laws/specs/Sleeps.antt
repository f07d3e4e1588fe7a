-- What a sleep does past the recorded commands.
use Rattle.std.specs.Prelude.{◌≡◌, ℕ, ◌+◌, true, List, [], ◌∷◌, ◌++◌, Some, None}
use Rattle.journal_protocol.specs.Message.TheVariants as message
use Rattle.journal_protocol.specs.NotificationId.TheVariants.{CompletionId}
use Rattle.journal_protocol.specs.MessageType.TheVariants as type
use Rattle.journal_protocol.specs.Frames.{encoding}
use Rattle.vm_state.specs.Counting.{missing_number, next_index}
use Rattle.vm_machine.specs.declared.machine.Machine.{Machine}
use Rattle.vm_machine.specs.declared.phase.Phase.TheVariants.{Processing}

-- the machine hasn't failed, is in Processing, and has a completion id, a handle and a command
-- index left
pub record MaySleep (v : Machine) : Type 0 where
  pub live : v.failure ≡ None
  pub phase : v.phase ≡ Processing
  pub numbers : missing_number 1 0 1 v.counters ≡ None

-- The next handle stands for the next completion id, and one frame is written, that of a Sleep with
-- this id. Nothing else is changed but the numbers, the last command, and that a command was
-- written.
abbrev pub sleeping : ℕ → List ℕ → Machine → Machine
sleeping millis name v =
    record v {
      output = v.output ++ encoding
          (message.Sleep (record {
            wake_up_time = millis;
            result_completion_id = v.counters.completion;
            name = name;
          })) ∷ [];
      wrote_command = true;
      last_command = record { ty = type.SleepCommand; name = name };
      results = record v.results {
        handles = v.results.handles
            ++ record { handle = v.counters.handle; id = CompletionId v.counters.completion } ∷ [];
      };
      counters = record v.counters {
        command = Some (next_index v.counters.command);
        completion = v.counters.completion + 1;
        handle = v.counters.handle + 1;
      };
    }
