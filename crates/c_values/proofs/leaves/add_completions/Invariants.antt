use Rattle.std.proofs.Common.{◌≡◌, ◌++◌, map, take}
use Rattle.journal_protocol.specs.NotificationId.TheVariants.{CompletionId}
use Rattle.c_values.specs.Waking.{outcome_in}
use Rattle.c_values.proofs.leaves.add_completions.Given as goal

abbrev pub invariant-loop-id : goal.invariant-loop-id
invariant-loop-id l = l.outcomes.items ≡ l.initial.outcomes.items ++ map (λ i. outcome_in l.came (CompletionId i)) (take l.id-index l.ids)
