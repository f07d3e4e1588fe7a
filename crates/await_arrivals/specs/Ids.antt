-- Notification ids, the slot of each, and what is held to find it.
use Rattle.std.specs.Prelude.{ℕ, ◌+◌, ◌==◌, Bool, false, nat_eq, Option}
use Rattle.std.specs.Cmp.Lexicographic.{pointwise, slice_cmp}
use Rattle.std.specs.Ordering.{nat_cmp}
use Rattle.std.specs.BTreeMap.{get, btree_map_len}
use Rattle.journal_values.specs.declared.notification.NotificationId.{NotificationId}
use Rattle.journal_values.specs.declared.notification.NotificationId.TheVariants.{CompletionId, SignalId, SignalName}
use Rattle.await_arrivals.specs.declared.index.Index.{Index}
use Rattle.await_arrivals.specs.Numbers.{slot_of_number, held_for_numbers}

-- whether two ids are one
abbrev pub same_id : NotificationId → NotificationId → Bool
same_id (CompletionId a) (CompletionId b) = a == b
same_id (SignalId a) (SignalId b) = a == b
same_id (SignalName a) (SignalName b) = pointwise nat_eq a b
same_id _ _ = false

-- the slot of an id
abbrev pub slot_of : Index → NotificationId → Option ℕ
slot_of index (CompletionId i) = slot_of_number index.completions i
slot_of index (SignalId i) = get nat_cmp index.signals i
slot_of index (SignalName name) = get (slice_cmp nat_cmp) index.names name

-- how many places and keys an index has
abbrev pub held_for_ids : Index → ℕ
held_for_ids index = held_for_numbers index.completions
    + (btree_map_len index.signals + btree_map_len index.names)
