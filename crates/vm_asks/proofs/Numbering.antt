-- A command keeps its type where it gets its numbers.
use Rattle.std.proofs.Common.{◌≡◌, ℕ, refl}
use Rattle.vm_asks.specs.Requests.{with_ids}
use Rattle.journal_protocol.specs.Message.{Message}
use Rattle.journal_protocol.specs.Message.TheVariants as message
use Rattle.journal_protocol.specs.Frames.{type_of}

pub same_type : (id : ℕ) (m : Message) → type_of (with_ids id m) ≡ type_of m
same_type id (message.GetLazyState c) = refl
same_type id (message.GetLazyStateKeys c) = refl
same_type id (message.Sleep c) = refl
same_type id (message.Call c) = refl
same_type id (message.OneWayCall c) = refl
same_type id (message.GetPromise c) = refl
same_type id (message.PeekPromise c) = refl
same_type id (message.CompletePromise c) = refl
same_type id (message.Run c) = refl
same_type id (message.AttachInvocation c) = refl
same_type id (message.GetInvocationOutput c) = refl
same_type id m = refl
