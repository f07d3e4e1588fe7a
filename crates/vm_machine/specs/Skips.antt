-- Recorded commands that are dropped: if they aren't replayed, those after the input are dropped,
-- and new commands get indexes and completion ids past theirs.
use Rattle.std.specs.Prelude.{ℕ, ◌+◌, ◌==◌, if◌then◌else◌, nat_lt, [], Some, unwrap_or, Result, Ok, Err}
use Rattle.journal_protocol.specs.NamedFault.{NamedFault}
use Rattle.journal_protocol.specs.NamedFault.TheVariants.{ExhaustedCompletionIds, ExhaustedCommandIndexes}
use Rattle.vm_state.specs.declared.counters.Counters.{Counters}
use Rattle.vm_state.specs.Counting.{most, next_index}
use Rattle.vm_machine.specs.declared.machine.Machine.{Machine}
use Rattle.vm_machine.specs.declared.phase.Phase.TheVariants.{Processing}

-- The counters once the input is read and this number of commands after it is dropped, if this
-- completion id is next; or the kind of number that runs out by that.
abbrev pub counters_past : ℕ → ℕ → Counters → Result Counters NamedFault
counters_past dropped id c =
    if nat_lt most id then Err ExhaustedCompletionIds
    else if nat_lt most (next_index c.command + dropped) then Err ExhaustedCommandIndexes
    else if unwrap_or c.command 0 == most then Err ExhaustedCommandIndexes
    else Ok (record c { command = Some (next_index c.command + dropped); completion = id })

-- the recorded commands that are left are dropped, and new ones are written next, by these counters
abbrev pub skipped : Counters → Machine → Machine
skipped counters v = record v { commands = []; phase = Processing; counters = counters }
