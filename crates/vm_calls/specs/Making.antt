-- A VM that is made for a request.
use Rattle.std.specs.Prelude.{◌≡◌, Option, Some, None, Result, Ok, Err}
use Rattle.std.proofs.Common.{Global}
use Rattle.journal_protocol.specs.Error.{Error}
use Rattle.journal_protocol.specs.Version.{Version}
use Rattle.journal_protocol.specs.Errors.{no_memory}
use Rattle.vm_types.specs.declared.options.VMOptions.{VMOptions}
use Rattle.invocation_vm.specs.declared.core_vm.CoreVM.{CoreVM}
use Rattle.invocation_vm.specs.Making.{made}
use Rattle.invocation_vm.specs.Seen.{seen}
use Rattle.vm_types.specs.declared.reply.Reply.{Reply}
use Rattle.vm_types.specs.declared.reply.Reply.TheVariants as reply

-- A VM that was to be made, for the version that is asked for: it is new and has these options, and
-- the answer names its version; or there is none, and the error says why, or that no memory was
-- found.
abbrev pub VmIsMade : Global → VMOptions → Result Version Error → Reply → Option CoreVM → Type 0
VmIsMade alloc options (Ok version) (reply.Made named) (Some vm) = (named ≡ version)
    × (seen vm ≡ made alloc options version)
VmIsMade alloc options (Ok version) (reply.Refused e) None = e ≡ no_memory
VmIsMade alloc options (Err refusal) (reply.Refused e) None = e ≡ refusal
VmIsMade alloc options wanted answer new = ⊥
