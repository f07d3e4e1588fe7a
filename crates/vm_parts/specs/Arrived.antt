-- What contracts see of the notifications of an attempt, each list in order of arrival.
use Rattle.std.specs.Prelude.{List}
use Rattle.journal_values.specs.declared.notification.Notification.{Notification}
use Rattle.vm_parts.specs.declared.async_results.Mapping.{Mapping}

-- The results that are ready, and not taken: those that an await used, and those that eager reads
-- gave, which were never delivered.
pub record Ready : Type 0 where
  pub delivered : List Notification
  pub eager : List Notification

-- the notifications that came, the results that are ready, and the ids that handles stand for
pub record Arrived : Type 0 where
  -- no await has used it yet
  pub queued : List Notification
  -- what can be taken
  pub ready : Ready
  -- the handles that can still be answered
  pub handles : List Mapping
