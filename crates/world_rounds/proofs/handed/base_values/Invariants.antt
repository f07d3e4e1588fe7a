use Rattle.std.proofs.Common.{◌≡◌, take}
use Rattle.vm_state.specs.declared.state_map.StateCoverage.TheVariants.{Complete}
use Rattle.vm_state.specs.Entries.{entries_of as state_entries}
use Rattle.world_rounds.proofs.handed.base_values.Given as goal

abbrev pub invariant-loop-key : goal.invariant-loop-key
invariant-loop-key l = record { so_far : l.values ≡ record { entries = state_entries (take l.key-index l.base); coverage = Complete } }
