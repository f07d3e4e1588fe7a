use Rattle.invocation_vm.proofs.Feeds.{ends_in_garbage}
use Rattle.invocation_vm.proofs.core_vm.CoreVM.take_garbage.Goals as goal

pub returns-clause-ok : goal.returns-clause-ok
returns-clause-ok c =
    ends_in_garbage c.receive_malformed-given.result c.args.self.now.decoder c.clear.new.self c.args.self.now.machine _ _ c.requires.live c.requires.garbage c.receive_malformed-given.ensures c.in-Ok.ensures c.clear.ensures
