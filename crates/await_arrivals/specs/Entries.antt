-- The log: notifications in order of arrival, without the results that were taken.
use Rattle.std.specs.Prelude.{ℕ, suc, ◌≡◌, ◌<◌, nat_lt, Bool, true, cond, ◌&&◌, List, [], ◌∷◌, length, map, get_or, Option, Some, None}
use Rattle.std.specs.List.{filter}
use Rattle.std.specs.Option.{is_some}
use Rattle.journal_values.specs.declared.notification.Notification.{Notification}
use Rattle.journal_values.specs.declared.notification.NotificationId.{NotificationId}
use Rattle.journal_values.specs.declared.notification.NotificationResult.{NotificationResult}
use Rattle.await_arrivals.specs.declared.index.Index.{Index}
use Rattle.await_arrivals.specs.declared.log.Entry.{Entry}
use Rattle.await_arrivals.specs.Ids.{same_id, slot_of}
use Rattle.await_arrivals.specs.Proportion.{InProportion}

-- an entry whose result was taken is left out
abbrev pub given_by : NotificationId → Option NotificationResult → List Notification
    → List Notification
given_by id None ns = ns
given_by id (Some r) ns = record { id = id; result = r } ∷ ns

-- the notifications whose results were not taken
abbrev pub not_taken : List Entry → List Notification
not_taken [] = []
not_taken (e ∷ es) = given_by e.id e.result (not_taken es)

-- whether an entry still has its result
abbrev pub has_its_result : Entry → Bool
has_its_result e = is_some e.result

-- the entries whose results were not taken
abbrev pub with_results : List Entry → List Entry
with_results = filter has_its_result

-- no result was taken
abbrev pub all_given : List Entry → Bool
all_given [] = true
all_given (e ∷ es) = is_some e.result && all_given es

-- whether an entry still has a result of this id
abbrev pub has_waiting_result : NotificationId → Entry → Bool
has_waiting_result id e = is_some e.result && same_id e.id id

-- the places of the results of an id
abbrev pub places : NotificationId → List Entry → List ℕ
places id [] = []
places id (e ∷ es) = cond (has_waiting_result id e) (0
    ∷ map suc (places id es)) (map suc (places id es))

-- an id without a slot has no place, and a slot has the places of its id
abbrev pub Located : List (List ℕ) → List ℕ → Option ℕ → Type 0
Located slots ps None = ps ≡ []
Located slots ps (Some k) = (k < length slots) × (get_or slots k [] ≡ ps)

-- the slots tell where the results of each id lie, in proportion to the log
pub record Tracked (log : List Entry) (index : Index) (slots : List (List ℕ)) : Type 0 where
  pub located : (id : NotificationId) → Located slots (places id log) (slot_of index id)
  pub apart : (a b : NotificationId) (k : ℕ) → slot_of index a ≡ Some k → slot_of index b ≡ Some k
      → same_id a b ≡ true
  pub room : InProportion (length log) index (length slots)

-- the numbers that are less than this one
abbrev pub under : ℕ → List ℕ → List ℕ
under n [] = []
under n (p ∷ ps) = cond (nat_lt p n) (p ∷ under n ps) (under n ps)
