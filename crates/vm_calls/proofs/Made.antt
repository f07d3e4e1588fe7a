-- A VM that was made as a request asks for it.
use Rattle.std.proofs.Common.{◌≡◌, Some, Result, Ok, Err, Global, ap, ◌∙◌}
use Rattle.journal_protocol.specs.Error.{Error}
use Rattle.journal_protocol.specs.Version.{Version}
use Rattle.vm_types.specs.declared.options.VMOptions.{VMOptions}
use Rattle.invocation_vm.specs.declared.core_vm.CoreVM.{CoreVM}
use Rattle.invocation_vm.specs.Making.{Makes}
use Rattle.invocation_vm.specs.Seen.{seen}
use Rattle.invocation_vm.specs.Views.{View}
use Rattle.vm_types.specs.declared.reply.Reply.TheVariants as reply
use Rattle.vm_calls.specs.Making.{VmIsMade}

pub made_as_asked : (alloc : Global) (options : VMOptions) (wanted : Result Version Error) (vm : CoreVM) (named : Version) → Makes alloc options wanted seen (Ok vm) → named ≡ (seen vm).machine.version → VmIsMade alloc options wanted (reply.Made named) (Some vm)
made_as_asked alloc options (Ok version) vm named is at = (at ∙ ap (λ (v : View). v.machine.version) is, is)
made_as_asked alloc options (Err refusal) vm named is at = absurd is
