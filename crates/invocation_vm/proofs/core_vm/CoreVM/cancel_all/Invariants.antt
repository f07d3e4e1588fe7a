use Rattle.std.proofs.Common.{◌≡◌, length}
use Rattle.std.specs.Vec.Iter.{into_iter_items, into_iter_len}
use Rattle.invocation_vm.specs.Seen.{seen}
use Rattle.invocation_vm.proofs.Cancelling.{Sending}
use Rattle.invocation_vm.proofs.core_vm.CoreVM.cancel_all.Given as goal

abbrev pub invariant-loop-call : goal.invariant-loop-call
invariant-loop-call l =
    Sending (into_iter_items l.initial.call-iterator) (into_iter_items l.call-iterator) (seen l.initial.self) (seen l.self)
    × (into_iter_len l.call-iterator ≡ length (into_iter_items l.call-iterator))
