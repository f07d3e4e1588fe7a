-- Which result a handle has: notifications are used in order of arrival, and each id has a present
-- result among the used ones that were not taken.
use Rattle.std.specs.Prelude.{ℕ, ◌≡◌, ◌==◌, Bool, true, false, ◌||◌, cond, List, [], ◌∷◌, ◌++◌, take, Option, Some, None}
use Rattle.std.specs.Option.{option_or}
use Rattle.journal_values.specs.declared.notification.Notification.{Notification}
use Rattle.journal_values.specs.declared.notification.NotificationId.{NotificationId}
use Rattle.journal_values.specs.declared.notification.NotificationId.TheVariants.{CompletionId, SignalId, SignalName}
use Rattle.journal_values.specs.declared.notification.NotificationResult.{NotificationResult}
use Rattle.await_arrivals.specs.Came.{one_used}
pub use Rattle.await_arrivals.specs.Ids.{same_id}
pub use Rattle.await_arrivals.specs.Results.{results_of, has_result_among, first, newest_after, newest, without_oldest, without_all}
use Rattle.vm_parts.specs.declared.async_results.Mapping.{Mapping}
use Rattle.journal_values.specs.declared.delivery.SignalDelivery.{SignalDelivery}
use Rattle.journal_values.specs.declared.delivery.SignalDelivery.TheVariants.{Queued, Overwrite}
use Rattle.vm_parts.specs.Arrived.{Arrived, Ready}

-- no result is ready
abbrev pub none_ready : Ready
none_ready = record { delivered = []; eager = [] }

-- before any notification: the cancel handle stands for signal 1
abbrev pub no_results : Arrived
no_results = record {
  queued = [];
  ready = none_ready;
  handles = record { handle = 1; id = SignalId 1 } ∷ [];
}

-- the id that a handle stands for
abbrev pub id_at : ℕ → List Mapping → Option NotificationId
id_at handle [] = None
id_at handle (m ∷ ms) = cond (m.handle == handle) (Some m.id) (id_at handle ms)

-- a handle is forgotten
abbrev pub unmapped : ℕ → List Mapping → List Mapping
unmapped handle [] = []
unmapped handle (m ∷ ms) = cond (m.handle == handle) ms (m ∷ unmapped handle ms)

-- whether an id has a result, delivered or of its eager read
abbrev pub has_result : NotificationId → Ready → Bool
has_result id r = has_result_among id r.delivered || has_result_among id r.eager

-- whether a result of an id is there that was not taken: it is ready, or waits
abbrev pub is_known : NotificationId → Arrived → Bool
is_known id v = has_result id v.ready || has_result_among id v.queued

-- a handle that stands for no id never has a result
abbrev pub has_result_for : Option NotificationId → Ready → Bool
has_result_for None r = false
has_result_for (Some id) r = has_result id r

-- the deliveries of a signal are taken one by one, unless the newest is to replace the others; of a
-- completion the newest stands
abbrev pub is_listed : SignalDelivery → NotificationId → Bool
is_listed Overwrite id = false
is_listed Queued (CompletionId _) = false
is_listed Queued (SignalId _) = true
is_listed Queued (SignalName _) = true

-- the present result of an id among these
abbrev pub present_among : SignalDelivery → NotificationId → List Notification
    → Option NotificationResult
present_among delivery id ns =
    cond (is_listed delivery id) (first (results_of id ns)) (newest (results_of id ns))

-- the present result of an id: what was delivered, else what its eager read gave
abbrev pub present_result : SignalDelivery → NotificationId → Ready → Option NotificationResult
present_result delivery id r =
    option_or (present_among delivery id r.delivered) (present_among delivery id r.eager)

-- what stays among these when the present result of an id is taken
abbrev pub left_among : SignalDelivery → NotificationId → List Notification → List Notification
left_among delivery id ns = cond (is_listed delivery id) (without_oldest id ns) (without_all id ns)

-- what stays ready when the present result of an id is taken
abbrev pub left_ready : SignalDelivery → NotificationId → Ready → Ready
left_ready delivery id r = record {
  delivered = left_among delivery id r.delivered;
  eager = left_among delivery id r.eager;
}

-- one more is delivered
abbrev pub with_delivered : Notification → Ready → Ready
with_delivered n r = record r { delivered = r.delivered ++ n ∷ [] }

-- An eager read gave the result of a completion id: it takes the place of what was delivered
-- before.
abbrev pub with_eager : ℕ → NotificationResult → Ready → Ready
with_eager id result r = record {
  delivered = without_all (CompletionId id) r.delivered;
  eager = r.eager ++ record { id = CompletionId id; result = result } ∷ [];
}

-- the oldest notification that waits is used
abbrev pub next_used : Arrived → Arrived
next_used v =
    let came = one_used (record { queued = v.queued; delivered = v.ready.delivered }) in
    record v { queued = came.queued; ready = record v.ready { delivered = came.delivered } }

-- a take: the present result leaves, and the handle with it, except the cancel handle
abbrev pub after_take : SignalDelivery → ℕ → NotificationId → Arrived → Arrived
after_take delivery handle id v =
    record v {
      ready = left_ready delivery id v.ready;
      handles = cond (handle == 1) v.handles (unmapped handle v.handles);
    }

-- the result that a handle has
abbrev pub present_result_for : SignalDelivery → Option NotificationId → Ready
    → Option NotificationResult
present_result_for delivery None r = None
present_result_for delivery (Some id) r = present_result delivery id r

-- what a take leaves, if there was a result
abbrev pub taken_by : SignalDelivery → ℕ → Option NotificationId → Option NotificationResult
    → Arrived → Arrived
taken_by delivery handle (Some id) (Some result) v = after_take delivery handle id v
taken_by delivery handle _ _ v = v

-- what a take of a handle answers and leaves
pub record IsTakeOf (delivery : SignalDelivery) (handle : ℕ) (old : Arrived)
    (answer : Option NotificationResult) (new : Arrived) : Type 0 where
  pub result : answer ≡ present_result_for delivery (id_at handle old.handles) old.ready
  pub left : new ≡ taken_by delivery handle (id_at handle old.handles)
      (present_result_for delivery (id_at handle old.handles) old.ready) old

-- what is ready once the first n that wait are used
abbrev pub ready_after : ℕ → Arrived → Ready
ready_after n v = record v.ready { delivered = v.ready.delivered ++ take n v.queued }

-- the present result of a handle, or else the first that waits of its id
abbrev pub first_result_for : SignalDelivery → Option NotificationId → Arrived
    → Option NotificationResult
first_result_for delivery None v = None
first_result_for delivery (Some id) v = option_or (present_result delivery id v.ready)
    (first (results_of id v.queued))
