-- What ephemeral reads leave alone.
use Rattle.std.specs.Prelude.{◌≡◌}
use Rattle.vm_machine.specs.declared.machine.Machine.{Machine}

-- Nothing changes but the ephemeral reads, the count of their ids, and the output: the commands,
-- their numbers and the last of them, whether one was written, the state and the results are as
-- they were.
abbrev pub LeavesJournal : Machine → Machine → Type 0
LeavesJournal old new =
    new ≡ record old {
      counters = record old.counters { ephemeral = new.counters.ephemeral };
      ephemeral = new.ephemeral;
      output = new.output;
    }
