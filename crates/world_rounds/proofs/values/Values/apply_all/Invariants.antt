use Rattle.std.proofs.Common.{◌≡◌, drop}
use Rattle.vm_model.specs.Moves.{changed_by}
use Rattle.journal_entries.specs.Entries.{said_in}
use Rattle.world_rounds.proofs.values.Values.apply_all.Given as goal

abbrev pub invariant-loop-entry : goal.invariant-loop-entry
invariant-loop-entry l = record { left : changed_by (said_in (drop l.entry-index l.journal)) l.self ≡ changed_by (said_in l.journal) l.initial.self }
