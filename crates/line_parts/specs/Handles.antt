-- Words that are a handle, or the id of an ephemeral read.
use Rattle.std.specs.Prelude.{◌≡◌, ℕ, List, length}
use Rattle.std.specs.Borrow.{Bor}
use Rattle.await_trees.specs.declared.handle.NotificationHandle.{NotificationHandle}
use Rattle.vm_types.specs.declared.types.EphemeralCompletionId.{EphemeralCompletionId}
use Rattle.lines.specs.Words.{IsNumberOf, text_at}

-- the digits of this handle, and no other word
abbrev pub IsHandle : List (Bor (List ℕ)) → NotificationHandle → Type 0
IsHandle words handle = (length words ≡ 1) × IsNumberOf 32 (text_at 0 words) handle.0

-- the digits of this id of an ephemeral read, and no other word
abbrev pub IsEphemeralId : List (Bor (List ℕ)) → EphemeralCompletionId → Type 0
IsEphemeralId words id = (length words ≡ 1) × IsNumberOf 32 (text_at 0 words) id.0
