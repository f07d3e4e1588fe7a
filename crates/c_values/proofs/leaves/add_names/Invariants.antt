use Rattle.std.proofs.Common.{◌≡◌, ◌++◌, map, take}
use Rattle.journal_protocol.specs.NotificationId.TheVariants.{SignalName}
use Rattle.c_values.specs.Waking.{outcome_in}
use Rattle.c_values.proofs.leaves.add_names.Given as goal

abbrev pub invariant-loop-name : goal.invariant-loop-name
invariant-loop-name l = l.outcomes.items ≡ l.initial.outcomes.items ++ map (λ i. outcome_in l.came (SignalName i)) (take l.name-index l.names)
