-- Signals that the handler waits for: awakeables, which are signals of the invocation's own, and
-- signals by name.
use Rattle.std.specs.Prelude.{ℕ, ◌+◌, if◌then◌else◌, List, [], ◌∷◌, ◌++◌, Option, Some, None}
use Rattle.vm_asks.specs.Awakeables.{awakeable_id}
use Rattle.journal_protocol.specs.NamedFault.{NamedFault}
use Rattle.journal_protocol.specs.NotificationId.TheVariants.{SignalId, SignalName}
use Rattle.vm_types.specs.declared.types.AwakeableHandle.{AwakeableHandle}
use Rattle.await_trees.specs.declared.handle.NotificationHandle.{NotificationHandle}
use Rattle.vm_state.specs.Counting.{missing_signals}
use Rattle.vm_machine.specs.declared.machine.Machine.{Machine}
use Rattle.vm_machine.specs.Outcomes.{Outcome, Done, refused}
use Rattle.vm_machine.specs.Phases.{is_running, state_fault}

-- the next handle stands for the next signal id
abbrev pub signal_handed_out : Machine → Machine
signal_handed_out v =
    record v {
      results = record v.results {
        handles = v.results.handles
            ++ record { handle = v.counters.handle; id = SignalId v.counters.signal } ∷ [];
      };
      counters =
          record v.counters { signal = v.counters.signal + 1; handle = v.counters.handle + 1 };
    }

-- an awakeable, where its numbers are left
abbrev pub awakeable_counted : Option NamedFault → Machine → Outcome AwakeableHandle
awakeable_counted (Some name) v = refused name v
awakeable_counted None v =
    Done (record {
      id = awakeable_id v.start.id v.counters.signal;
      handle = record { 0 = v.counters.handle };
    }) (signal_handed_out v)

-- An awakeable is made, in replay too; it has no command.
unfoldable pub awakeable_step : Machine → Outcome AwakeableHandle
awakeable_step v =
    if is_running v.phase then awakeable_counted (missing_signals 1 1 v.counters) v
    else refused (state_fault v.phase) v

-- the next handle stands for a signal's name
abbrev pub name_handed_out : List ℕ → Machine → Machine
name_handed_out name v =
    record v {
      results = record v.results {
        handles = v.results.handles
            ++ record { handle = v.counters.handle; id = SignalName name } ∷ [];
      };
      counters = record v.counters { handle = v.counters.handle + 1 };
    }

-- the handle of a named signal, where one is left
abbrev pub signal_counted : Option NamedFault → List ℕ → Machine → Outcome NotificationHandle
signal_counted (Some fault) name v = refused fault v
signal_counted None name v = Done (record { 0 = v.counters.handle }) (name_handed_out name v)

-- The handler gets a handle for a named signal, in replay too; it has no command.
unfoldable pub signal_step : List ℕ → Machine → Outcome NotificationHandle
signal_step name v =
    if is_running v.phase then signal_counted (missing_signals 0 1 v.counters) name v
    else refused (state_fault v.phase) v
