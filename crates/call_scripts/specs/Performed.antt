-- What a line of the script does to the VM, and what it is answered.
use Rattle.std.specs.Prelude.{◌≡◌, codes, Option, Some, None}
use Rattle.std.proofs.Common.{Global}
use Rattle.invocation_vm.specs.declared.core_vm.CoreVM.{CoreVM}
use Rattle.invocation_vm.specs.Making.{version_in}
use Rattle.invocation_vm.specs.Seen.{seen}
use Rattle.call_lines.specs.declared.request.Request.{Request}
use Rattle.call_lines.specs.declared.request.Request.TheVariants as request
use Rattle.vm_types.specs.declared.reply.Reply.{Reply}
use Rattle.vm_types.specs.declared.reply.Reply.TheVariants as reply
use Rattle.vm_calls.specs.Called.{Called}
use Rattle.vm_types.specs.ContentTypes.{header_under}
use Rattle.vm_calls.specs.Making.{VmIsMade}

-- A line without a call leaves the VM as it is, but a bad `vm` line drops it. No call makes a VM,
-- or drops it.
abbrev pub Performed : Global → Request → Option CoreVM → Reply → Option CoreVM → Type 0
Performed alloc request.Nothing old answer new = (answer ≡ reply.Nothing) × (new ≡ old)
Performed alloc request.Bad old answer new = (answer ≡ reply.Bad) × (new ≡ old)
Performed alloc request.BadMake old answer new = (answer ≡ reply.Bad) × (new ≡ None)
Performed alloc (request.Make content_type options) old answer new = VmIsMade alloc options
    (version_in (header_under content_type (codes "content-type"))) answer new
Performed alloc (request.Call call) None answer new = (answer ≡ reply.NoVm) × (new ≡ None)
Performed alloc (request.Call call) (Some vm) answer None = ⊥
Performed alloc (request.Call call) (Some vm) answer (Some after) = Called call answer (seen vm)
    (seen after)
