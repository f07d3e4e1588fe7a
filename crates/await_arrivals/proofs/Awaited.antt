-- What waits of an id, in order of arrival.
use Rattle.std.proofs.Common.{◌≡◌, ℕ, zero, suc, ◌+◌, ◌-◌, ◌<◌, ◌≤◌, Bool, true, false, cond, List, [], ◌∷◌, ◌++◌, length, take, drop, Option, Some, None, refl, sym, ap, ◌∙◌, arith}
use Rattle.std.specs.Prelude.{nat_le, nat_lt, ◌&&◌}
use Rattle.std.specs.Option.{is_some, option_or}
use Rattle.std.proofs.Math.Seq.{take-add, take-length}
use Rattle.std.proofs.lemmas.List.{take-append-drop}
use Rattle.std.proofs.lemmas.Bool.Decides.{nat_tests}
use Rattle.journal_values.specs.declared.notification.Notification.{Notification}
use Rattle.journal_values.specs.declared.notification.NotificationId.{NotificationId}
use Rattle.journal_values.specs.declared.notification.NotificationResult.{NotificationResult}
use Rattle.await_arrivals.specs.declared.log.Entry.{Entry}
use Rattle.await_arrivals.specs.Came.{enough}
use Rattle.await_arrivals.specs.Ids.{same_id}
use Rattle.await_arrivals.specs.Entries.{not_taken, given_by, all_given, places}
use Rattle.await_arrivals.specs.Results.{first, results_of, has_result_among}
use Rattle.await_arrivals.proofs.Knowing.{given_append}
use Rattle.await_arrivals.proofs.Tracking.{has_none, has_some}

-- of entries that all have their results, the first ones
given_take : (xs : List Entry) (n : ℕ) → all_given xs ≡ true → not_taken (take n xs) ≡ take n (not_taken xs)
given_take xs zero a = refl
given_take [] (suc n) a = refl
given_take (x ∷ xs) (suc n) a = go x.result (given_take xs n) a
  where
    go : (o : Option NotificationResult) → (all_given xs ≡ true → not_taken (take n xs) ≡ take n (not_taken xs)) → (is_some o && all_given xs) ≡ true
        → given_by x.id o (not_taken (take n xs)) ≡ take (suc n) (given_by x.id o (not_taken xs))
    go None h b = cc
    go (Some r) h b = ap (λ ns. record { id = x.id; result = r } ∷ ns) (h b)

-- the used ones, and the first n that wait
pub given_used : (log : List Entry) (s n : ℕ) → all_given (drop s log) ≡ true → not_taken (take (s + n) log) ≡ not_taken (take s log) ++ take n (not_taken (drop s log))
given_used log s n a =
    ap not_taken (take-add s n log) ∙ given_append (take s log) (take n (drop s log)) ∙ ap (λ ns. not_taken (take s log) ++ ns) (given_take (drop s log) n a)

module _ (id : NotificationId) (log : List Entry) (s n : ℕ) (all : all_given (drop s log) ≡ true) where
  pub never_enough : None ≡ first (places id log) → enough None n ≡ has_result_among id (not_taken (take s log) ++ take n (not_taken (drop s log)))
  never_enough e = has_none id log (s + n) e ∙ ap (has_result_among id) (given_used log s n all)

  pub at_once : (p : ℕ) → Some p ≡ first (places id log) → p < s → enough (Some 0) n ≡ has_result_among id (not_taken (take s log) ++ take n (not_taken (drop s log)))
  at_once p e l =
      let same : nat_le 0 n ≡ nat_lt p (s + n) = grind (arith, nat_tests) in
      same ∙ has_some id log (s + n) p e ∙ ap (has_result_among id) (given_used log s n all)

  pub after_some : (p : ℕ) → Some p ≡ first (places id log) → s ≤ p → enough (Some (p - s + 1)) n ≡ has_result_among id (not_taken (take s log) ++ take n (not_taken (drop s log)))
  after_some p e l =
      let same : nat_le (p - s + 1) n ≡ nat_lt p (s + n) = grind (arith, nat_tests) in
      same ∙ has_some id log (s + n) p e ∙ ap (has_result_among id) (given_used log s n all)

-- the first of all, used or not
first_of_two : (xs ys : List NotificationResult) → first (xs ++ ys) ≡ option_or (first xs) (first ys)
first_of_two [] ys = refl
first_of_two (x ∷ xs) ys = refl

pub results-append : (id : NotificationId) (xs ys : List Notification) → results_of id (xs ++ ys) ≡ results_of id xs ++ results_of id ys
results-append id [] ys = refl
results-append id (x ∷ xs) ys = rw (results-append id xs ys) (go (same_id x.id id))
  where
    go : (b : Bool) → cond b (x.result ∷ (results_of id xs ++ results_of id ys)) (results_of id xs ++ results_of id ys) ≡ cond b (x.result ∷ results_of id xs) (results_of id xs) ++ results_of id ys
    go true = refl
    go false = refl

pub first_of_all : (id : NotificationId) (log : List Entry) (s : ℕ)
    → first (results_of id (not_taken (take (length log) log))) ≡ option_or (first (results_of id (not_taken (take s log)))) (first (results_of id (not_taken (drop s log))))
first_of_all id log s =
    ap (λ es. first (results_of id (not_taken es))) (take-length log ∙ sym (take-append-drop s log))
    ∙ ap (λ ns. first (results_of id ns)) (given_append (take s log) (drop s log))
    ∙ ap first (results-append id (not_taken (take s log)) (not_taken (drop s log)))
    ∙ first_of_two (results_of id (not_taken (take s log))) (results_of id (not_taken (drop s log)))
