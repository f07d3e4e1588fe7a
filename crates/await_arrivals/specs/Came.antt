-- What contracts see of the arrivals of an attempt.
use Rattle.std.specs.Prelude.{ℕ, nat_le, Bool, true, false, List, [], ◌∷◌, ◌++◌, Option, Some, None}
use Rattle.journal_values.specs.declared.notification.Notification.{Notification}

-- the notifications that came, each list in order of arrival
pub record Came : Type 0 where
  -- no await has used it yet
  pub queued : List Notification
  -- used by an await, and not taken
  pub delivered : List Notification

-- nothing came
abbrev pub nothing_came : Came
nothing_came = record { queued = []; delivered = [] }

-- whether one waits
abbrev pub is_queued : List Notification → Bool
is_queued [] = false
is_queued (n ∷ ns) = true

abbrev pub used_from : List Notification → List Notification → Came
used_from delivered [] = record { queued = []; delivered = delivered }
used_from delivered (n ∷ ns) = record { queued = ns; delivered = delivered ++ n ∷ [] }

-- the oldest that waits is used
abbrev pub one_used : Came → Came
one_used c = used_from c.delivered c.queued

-- whether n are enough, by the least number that is
abbrev pub enough : Option ℕ → ℕ → Bool
enough None n = false
enough (Some least) n = nat_le least n
