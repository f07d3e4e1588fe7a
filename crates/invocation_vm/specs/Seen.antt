-- The view of the VM that this crate has.
use Rattle.invocation_vm.specs.declared.core_vm.CoreVM.{CoreVM}
use Rattle.invocation_vm.specs.Views.{View}

-- the view of a `CoreVM`
abbrev pub seen : CoreVM → View
seen vm = record { undecoded = vm.decoder; machine = vm.machine }
