-- What came of an id, used or not.
use Rattle.std.proofs.Common.{◌≡◌, ℕ, Bool, true, false, List, [], ◌∷◌, ◌++◌, length, take, drop, refl, ap, sym, ◌∙◌}
use Rattle.std.specs.Prelude.{◌||◌}
use Rattle.std.proofs.Math.Seq.{take-length}
use Rattle.std.proofs.lemmas.List.{take-append-drop}
use Rattle.journal_values.specs.declared.notification.Notification.{Notification}
use Rattle.journal_values.specs.declared.notification.NotificationId.{NotificationId}
use Rattle.await_arrivals.specs.declared.log.Entry.{Entry}
use Rattle.await_arrivals.specs.Entries.{not_taken, given_by}
use Rattle.await_arrivals.specs.Ids.{same_id}
use Rattle.await_arrivals.specs.Results.{has_result_among}
use Rattle.await_arrivals.proofs.Moves.{by_append}

pub given_append : (xs ys : List Entry) → not_taken (xs ++ ys) ≡ not_taken xs ++ not_taken ys
given_append [] ys = refl
given_append (x ∷ xs) ys = ap (given_by x.id x.result) (given_append xs ys) ∙ by_append x.id x.result (not_taken xs) (not_taken ys)

or_or : (a b c : Bool) → (a || (b || c)) ≡ ((a || b) || c)
or_or true b c = refl
or_or false b c = refl

pub has_append : (id : NotificationId) (ns ms : List Notification) → has_result_among id (ns ++ ms) ≡ (has_result_among id ns || has_result_among id ms)
has_append id [] ms = refl
has_append id (n ∷ ns) ms = ap (λ b. same_id n.id id || b) (has_append id ns ms) ∙ or_or (same_id n.id id) (has_result_among id ns) (has_result_among id ms)

-- the results among all entries: those of the used ones, and those that wait
pub has_in_all : (id : NotificationId) (s : ℕ) (log : List Entry) → has_result_among id (not_taken (take (length log) log)) ≡ (has_result_among id (not_taken (take s log)) || has_result_among id (not_taken (drop s log)))
has_in_all id s log =
    ap (λ es. has_result_among id (not_taken es)) (take-length log ∙ sym (take-append-drop s log))
    ∙ (ap (has_result_among id) (given_append (take s log) (drop s log)) ∙ has_append id (not_taken (take s log)) (not_taken (drop s log)))
