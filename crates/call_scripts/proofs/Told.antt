-- A line is answered as it asks.
use Rattle.std.proofs.Common.{◌≡◌, inr, List, ℕ, Option, Global}
use Rattle.invocation_vm.specs.declared.core_vm.CoreVM.{CoreVM}
use Rattle.call_lines.specs.declared.request.Request.{Request}
use Rattle.call_lines.specs.Lines.{IsRequestLine}
use Rattle.call_lines.specs.Replies.{reply_text}
use Rattle.vm_types.specs.declared.reply.Reply.{Reply}
use Rattle.call_scripts.specs.Performed.{Performed}
use Rattle.call_scripts.specs.Transcripts.{IsUnanswered, Transcribes}

pub transcribes : (alloc : Global) (old new : Option CoreVM) (line answer : List ℕ) (request : Request) (reply : Reply) → IsRequestLine line request → Performed alloc request old reply new → answer ≡ reply_text reply → Transcribes alloc old new line answer
transcribes alloc old new line answer request reply reads performed printed = record { request = request; reply = reply; reads = reads; performed = performed; printed = printed }

-- what the line asks for was done, and its answer found no memory
pub unanswered : (alloc : Global) (old new : Option CoreVM) (line : List ℕ) (request : Request) (reply : Reply) → IsRequestLine line request → Performed alloc request old reply new → IsUnanswered alloc old new line
unanswered alloc old new line request reply reads performed = inr (request, reply, reads, performed)
