-- The results of an id among notifications.
use Rattle.std.specs.Prelude.{Bool, false, ◌||◌, cond, List, [], ◌∷◌, Option, Some, None}
use Rattle.journal_values.specs.declared.notification.Notification.{Notification}
use Rattle.journal_values.specs.declared.notification.NotificationId.{NotificationId}
use Rattle.journal_values.specs.declared.notification.NotificationResult.{NotificationResult}
use Rattle.await_arrivals.specs.Ids.{same_id}

-- the results of an id, oldest first
abbrev pub results_of : NotificationId → List Notification → List NotificationResult
results_of id [] = []
results_of id (n ∷ ns) = cond (same_id n.id id) (n.result ∷ results_of id ns) (results_of id ns)

-- whether there is a result of an id among these
abbrev pub has_result_among : NotificationId → List Notification → Bool
has_result_among id [] = false
has_result_among id (n ∷ ns) = same_id n.id id || has_result_among id ns

-- the first item, if there is one
abbrev pub first : {X : Type 0} → List X → Option X
first [] = None
first (x ∷ xs) = Some x

-- the last item, or what was found before
abbrev pub newest_after : {X : Type 0} → Option X → List X → Option X
newest_after found [] = found
newest_after found (x ∷ xs) = newest_after (Some x) xs

-- the last item, if there is one
abbrev pub newest : {X : Type 0} → List X → Option X
newest = newest_after None

-- without the oldest of an id
abbrev pub without_oldest : NotificationId → List Notification → List Notification
without_oldest id [] = []
without_oldest id (n ∷ ns) = cond (same_id n.id id) ns (n ∷ without_oldest id ns)

-- without any of an id
abbrev pub without_all : NotificationId → List Notification → List Notification
without_all id [] = []
without_all id (n ∷ ns) = cond (same_id n.id id) (without_all id ns) (n ∷ without_all id ns)
