-- Notifications that are used one by one.
use Rattle.std.proofs.Common.{◌≡◌, ℕ, zero, suc, ◌+◌, ◌-◌, ◌<◌, true, false, List, [], ◌∷◌, ◌++◌, length, take, drop, refl, sym, ◌∙◌, ap, arith, add-one, append_assoc, append-nil, length-drop}
use Rattle.journal_values.specs.declared.notification.Notification.{Notification}
use Rattle.await_arrivals.specs.Came.{Came, is_queued, used_from}
use Rattle.vm_parts.specs.Arrived.{Arrived}
use Rattle.vm_parts.specs.Deliveries.{next_used}
use Rattle.await_tries.specs.Used.{used}

pub take_suc : {X : Type 0} (xs : List X) (n : ℕ) → take (suc n) xs ≡ take n xs ++ take 1 (drop n xs)
take_suc [] zero = refl
take_suc [] (suc n) = refl
take_suc (x ∷ xs) zero = refl
take_suc (x ∷ xs) (suc n) = ap (λ ys. x ∷ ys) (take_suc xs n)

take_next : {X : Type 0} (xs : List X) (n : ℕ) → take (n + 1) xs ≡ take n xs ++ take 1 (drop n xs)
take_next xs n = rw add-one (take_suc xs n)

drop_next : {X : Type 0} (xs : List X) (n : ℕ) → drop (n + 1) xs ≡ drop 1 (drop n xs)
drop_next xs n = rw add-one (go xs n)
  where
    go : {X : Type 0} (xs : List X) (n : ℕ) → drop (suc n) xs ≡ drop 1 (drop n xs)
    go [] zero = refl
    go [] (suc n) = refl
    go (x ∷ xs) zero = refl
    go (x ∷ xs) (suc n) = go xs n

-- what waits, what is ready and the handles make an `Arrived`
pub same_arrived : (v w : Arrived) → v.queued ≡ w.queued → v.ready.delivered ≡ w.ready.delivered → v.ready.eager ≡ w.ready.eager → v.handles ≡ w.handles → v ≡ w
same_arrived v w q d e h = λ i. record { queued = q i; ready = record { delivered = d i; eager = e i }; handles = h i }

pub used_none : (v : Arrived) → v ≡ used v 0
used_none v = same_arrived v (used v 0) refl (sym (append-nil v.ready.delivered)) refl refl

pub used_more : (v : Arrived) (n : ℕ) → used (used v n) 1 ≡ used v (n + 1)
used_more v n =
    let ds = v.ready.delivered in
    let regroup : (ds ++ take n v.queued) ++ take 1 (drop n v.queued) ≡ ds ++ take (n + 1) v.queued =
    append_assoc ds (take n v.queued) (take 1 (drop n v.queued)) ∙ ap (λ z. ds ++ z) (sym (take_next v.queued n)) in
    same_arrived (used (used v n) 1) (used v (n + 1)) (sym (drop_next v.queued n)) regroup refl refl

-- how many are left
pub left_over : (v w : Arrived) (n : ℕ) → w ≡ used v n → length w.queued ≡ length v.queued - n
left_over v w n e = rw e (length-drop n v.queued)

pub used_suc : (v : Arrived) (n : ℕ) → used (used v n) 1 ≡ used v (suc n)
used_suc v n = let e : n + 1 ≡ suc n = omega arith in used_more v n ∙ ap (used v) e

-- ---- one more is used

one_more : (v : Arrived) (ns : List Notification) → v.queued ≡ ns → next_used v ≡ used v 1
one_more v [] e = same_arrived (next_used v) (used v 1) (rw e refl) (rw e (sym (append-nil v.ready.delivered))) refl refl
one_more v (n ∷ ns) e = rw e refl

pub next_is : (v : Arrived) → next_used v ≡ used v 1
next_is v = one_more v v.queued refl

pub none_queued : (ns : List Notification) → false ≡ is_queued ns → length ns ≡ 0
none_queued [] q = refl
none_queued (n ∷ ns) q = cc

pub some_queued : (ns : List Notification) → true ≡ is_queued ns → 0 < length ns
some_queued [] q = cc
some_queued (n ∷ ns) q = omega arith

nothing_from : (ds ns : List Notification) → false ≡ is_queued ns → used_from ds ns ≡ record { queued = ns; delivered = ds }
nothing_from ds [] q = refl
nothing_from ds (n ∷ ns) q = cc

pub none_next : (v : Arrived) → false ≡ is_queued v.queued → next_used v ≡ v
none_next v q =
    let same = nothing_from v.ready.delivered v.queued q in
    same_arrived (next_used v) v (ap (λ (c : Came). c.queued) same) (ap (λ (c : Came). c.delivered) same) refl refl
