use Rattle.std.proofs.Common.{◌≡◌, take, false}
use Rattle.std.specs.List.{list_any}
use Rattle.engine_inboxes.specs.Deliverable.{waits_for_id}
use Rattle.engine_inboxes.proofs.inbox.is_waited.Given as goal

abbrev pub invariant-loop-it : goal.invariant-loop-it
invariant-loop-it l = list_any (waits_for_id l.id) (take l.it-index l.waiting) ≡ false
