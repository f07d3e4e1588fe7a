use Rattle.std.specs.Prelude.{is_some}
use Rattle.std.proofs.Common.{ap}
use Rattle.invocation_vm.proofs.Feeds.{has_no_room}
use Rattle.vm_layers.proofs.feeding.feed.Goals as goal

pub returns : goal.returns
returns c = has_no_room _ _ _ _ _ (ap is_some c.requires) c.starve.ensures
