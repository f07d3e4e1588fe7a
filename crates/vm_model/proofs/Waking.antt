-- An await uses the least prefix of the arrivals by which it ends.
use Rattle.std.proofs.Common.{◌≡◌, ◌<◌, ℕ, zero, suc, Bool, true, false, ◌||◌, ⊎_elim, List, [], ◌∷◌, ◌++◌, take, drop, None, Some, refl, sym, ap, ◌∙◌, append_assoc, arith}
use Rattle.std.proofs.lemmas.Option.{same_Some}
use Rattle.journal_protocol.specs.Notification.{Notification}
use Rattle.vm_types.specs.declared.steps.Answer.{Answer}
use Rattle.vm_types.specs.declared.steps.Answer.TheVariants as answer
use Rattle.await_trees.specs.declared.tree.UnresolvedFuture.{UnresolvedFuture}
use Rattle.vm_model.specs.Calls.{Setup, Meaning, Derived, awaited, awaiting, call_of, is_awake, is_cancelled_in}
use Rattle.vm_model.specs.Moves.{Point, after, and_then, arrival_used, move_at, moved, next, uses_arrival}
use Rattle.vm_model.specs.Histories.{IsAwaiting, IsLeast, IsPrefix, arrivals_used, ends_await}
use Rattle.vm_model.proofs.Cancelling.{cancelled_stays, longer_list, same_item}
use Rattle.vm_model.proofs.Compared.{after_answers, after_compare}
use Rattle.vm_model.proofs.Runs.{and_then_some, none_some}

-- neither of two tests holds
neither : (a b : Bool) → (a || b) ≡ false → (a ≡ false) × (b ≡ false)
neither true b h = absurd (cc)
neither false b h = (refl, h)

-- the move of an await whose handler isn't cancelled
await_moves : (s : Setup) (m : Meaning) (p : Point) (future : UnresolvedFuture) (awake : Bool) → IsAwaiting m p future → is_cancelled_in s p.derived ≡ false → is_awake s future p.derived ≡ awake → move_at s m p ≡ awaiting awake p.derived
await_moves s m p future awake at c t = ap (λ st. call_of s st p.derived) at ∙ ap (λ b. awaited s b future p.derived) c ∙ ap (λ b. awaiting b p.derived) t

-- none is used where the test holds at once
pub least_now : (test : Derived → Bool) (d : Derived) (queue : List Notification) → test d ≡ true → IsLeast test d queue 0
least_now test d queue t = record { there = omega arith; holds = t; least = λ i l. absurd (omega arith) }

-- one more is used where it doesn't
pub least_next : (test : Derived → Bool) (d : Derived) (x : Notification) (xs : List Notification) (j : ℕ) → test d ≡ false → IsLeast test (arrival_used x d) xs j → IsLeast test d (x ∷ xs) (suc j)
least_next test d x xs j t h = record { there = omega (arith, h.there); holds = h.holds; least = below }
  where
    below : (i : ℕ) → i < suc j → test (arrivals_used (take i (x ∷ xs)) d) ≡ false
    below zero l = t
    below (suc i) l = h.least i (omega arith)

-- where an await doesn't end, the next arrival is used
pub waits_next : (s : Setup) (m : Meaning) (future : UnresolvedFuture) (p : Point) → IsAwaiting m p future → ends_await s future p.derived ≡ false → next s m p ≡ uses_arrival p.queue p
waits_next s m future p at t = let n = neither (is_cancelled_in s p.derived) (is_awake s future p.derived) t in ap (λ mv. moved mv p) (await_moves s m p future false at n.0 n.1)

step_least : (s : Setup) (m : Meaning) (future : UnresolvedFuture) (p q : Point) (a : Answer) (more : List Answer) (n : ℕ) (r : Point) → IsAwaiting m p future → ends_await s future p.derived ≡ false → (queue : List Notification) → p.queue ≡ queue → uses_arrival queue p ≡ Some r → after s m n r ≡ Some q → q.answers ≡ p.answers ++ a ∷ more → ((p' : Point) → IsAwaiting m p' future → after s m n p' ≡ Some q → q.answers ≡ p'.answers ++ a ∷ more → (j : ℕ) × IsLeast (ends_await s future) p'.derived p'.queue j) → (j : ℕ) × IsLeast (ends_await s future) p.derived p.queue j
step_least s m future p q a more n r at t [] is moves h e ih = none_some moves
step_least s m future p q a more n r at t (x ∷ xs) is moves h e ih =
    let p' : Point = record p { derived = arrival_used x p.derived; queue = xs } in
    let h' : after s m n p' ≡ Some q = rw (same_Some p' r moves) h in
    let on : (j : ℕ) × IsLeast (ends_await s future) (arrival_used x p.derived) xs j = ih p' at h' e in
    (suc on.0, rw is (least_next (ends_await s future) p.derived x xs on.0 t on.1))

-- the run from an await to its answer has the least prefix among its arrivals
pub await_least : (s : Setup) (m : Meaning) (future : UnresolvedFuture) (n : ℕ) (p q : Point) (a : Answer) (more : List Answer) → IsAwaiting m p future → after s m n p ≡ Some q → q.answers ≡ p.answers ++ a ∷ more → (j : ℕ) × IsLeast (ends_await s future) p.derived p.queue j
await_least s m future zero p q a more at h e = absurd (longer_list p.answers a more (ap (λ z. z.answers) (same_Some _ _ h) ∙ e))
await_least s m future (suc n) p q a more at h e =
    let x = and_then_some (next s m p) (after s m n) q h in
    by_test (ends_await s future p.derived) (λ t. (0, least_now (ends_await s future) p.derived p.queue t)) (λ t. step_least s m future p q a more n x.0 at t p.queue refl (sym (waits_next s m future p at t) ∙ x.1) x.2 e (λ p' at' h' e'. await_least s m future n p' q a more at' h' e'))
  where
    by_test : {A : Type 0} (b : Bool) → (b ≡ true → A) → (b ≡ false → A) → A
    by_test true f g = f refl
    by_test false f g = g refl

least_behind : (test : Derived → Bool) (d : Derived) (x : Notification) (xs : List Notification) (j : ℕ) → IsLeast test d (x ∷ xs) (suc j) → (test d ≡ false) × IsLeast test (arrival_used x d) xs j
least_behind test d x xs j h = (
  h.least 0 (omega arith),
  record {
    there = omega (arith, h.there);
    holds = h.holds;
    least = λ i l. h.least (suc i) (omega arith);
  },
)

-- the point at which j more arrivals are used
abbrev with_used : ℕ → List Notification → Point → Point
with_used j queue p = record p { derived = arrivals_used (take j queue) p.derived; queue = drop j queue }

-- and the run from there: it ends after j arrivals
pub await_runs : (s : Setup) (m : Meaning) (future : UnresolvedFuture) (j : ℕ) (p : Point) (queue : List Notification) → p.queue ≡ queue → IsAwaiting m p future → IsLeast (ends_await s future) p.derived queue j → after s m j p ≡ Some (with_used j queue p)
await_runs s m future zero p queue is at h = ap Some (λ i. record p { queue = is i })
await_runs s m future (suc j) p [] is at h = absurd (omega (arith, h.there))
await_runs s m future (suc j) p (x ∷ xs) is at h =
    let b = least_behind (ends_await s future) p.derived x xs j h in
    let p' : Point = record p { derived = arrival_used x p.derived; queue = xs } in
    let first : next s m p ≡ Some p' = waits_next s m future p at b.0 ∙ ap (λ q. uses_arrival q p) is in
    rw first (await_runs s m future j p' xs refl at b.1)

-- ---- an await that is answered Awake

-- where the handler isn't cancelled, an await that is awake is answered
pub wakes_next : (s : Setup) (m : Meaning) (future : UnresolvedFuture) (p : Point) → IsAwaiting m p future → is_cancelled_in s p.derived ≡ false → is_awake s future p.derived ≡ true → next s m p ≡ Some (record p { answers = p.answers ++ answer.Awake ∷ [] })
wakes_next s m future p at c t = ap (λ mv. moved mv p) (await_moves s m p future true at c t)

-- one more move
one_more : (s : Setup) (m : Meaning) (j : ℕ) (p q r : Point) → after s m j p ≡ Some q → next s m q ≡ Some r → after s m (suc j) p ≡ Some r
one_more s m zero p q r h t = ap (λ z. and_then (next s m z) (after s m 0)) (same_Some p q h) ∙ ap (λ o. and_then o (after s m 0)) t
one_more s m (suc j) p q r h t =
    let x = and_then_some (next s m p) (after s m j) q h in
    ap (λ o. and_then o (after s m (suc j))) x.1 ∙ one_more s m j x.0 q r x.2 t

-- what ends it is that the future is awake
ends_awake : (c a : Bool) → (c || a) ≡ true → c ≡ false → a ≡ true
ends_awake true a h e = absurd (cc)
ends_awake false a h e = h

-- where the handler isn't cancelled at the number of arrivals by which the await ends, the answer is Awake
pub answers_awake : (s : Setup) (m : Meaning) (future : UnresolvedFuture) (n j : ℕ) (p q : Point) (a : Answer) (more : List Answer) → IsAwaiting m p future → after s m n p ≡ Some q → q.answers ≡ p.answers ++ a ∷ more → IsLeast (ends_await s future) p.derived p.queue j → is_cancelled_in s (arrivals_used (take j p.queue) p.derived) ≡ false → a ≡ answer.Awake
answers_awake s m future n j p q a more at h e least c =
    let to = with_used j p.queue p in
    let there : Point = record to { answers = p.answers ++ answer.Awake ∷ [] } in
    let wakes : next s m to ≡ Some there = wakes_next s m future to at c (ends_awake (is_cancelled_in s to.derived) (is_awake s future to.derived) least.holds c) in
    ⊎_elim
    (λ (x : IsPrefix q.answers there.answers). same_item p.answers a answer.Awake (more ++ x.0) [] (sym (append_assoc p.answers (a ∷ more) x.0) ∙ ap (λ l. l ++ x.0) (sym e) ∙ sym x.1))
    (λ (x : IsPrefix there.answers q.answers). same_item p.answers a answer.Awake more x.0 (sym e ∙ x.1 ∙ append_assoc p.answers (answer.Awake ∷ []) x.0))
    (after_compare s m n (suc j) p q there h (one_more s m j p to there (await_runs s m future j p p.queue refl at least) wakes))

-- ---- an await that no arrival ends

-- a point from which moves lead on without an answer to one where the await doesn't end doesn't end it either
open_before : (s : Setup) (m : Meaning) (future : UnresolvedFuture) (k : ℕ) (p q : Point) → after s m k p ≡ Some q → q.answers ≡ p.answers → IsAwaiting m p future → ends_await s future q.derived ≡ false → ends_await s future p.derived ≡ false
open_before s m future k p q h same at open_there = by_tests (is_cancelled_in s p.derived) refl (is_awake s future p.derived) refl
  where
    by_tests : (c : Bool) → is_cancelled_in s p.derived ≡ c → (a : Bool) → is_awake s future p.derived ≡ a → (c || a) ≡ false
    by_tests false c false t = refl
    by_tests true c a t = absurd (let there = cancelled_stays s m future k p q at c h same in let z : true ≡ false = sym there ∙ (neither (is_cancelled_in s q.derived) (is_awake s future q.derived) open_there).0 in cc)
    by_tests false c true t = woken k h
      where
        woken : (k : ℕ) → after s m k p ≡ Some q → true ≡ false
        woken zero h = sym t ∙ ap (λ z. is_awake s future z.derived) (same_Some p q h) ∙ (neither (is_cancelled_in s q.derived) (is_awake s future q.derived) open_there).1
        woken (suc k) h =
            let to : Point = record p { answers = p.answers ++ answer.Awake ∷ [] } in
            let moves : after s m k to ≡ Some q = sym (ap (λ o. and_then o (after s m k)) (wakes_next s m future p at c t)) ∙ h in
            let more = after_answers s m k to q moves in
            absurd (longer_list p.answers answer.Awake more.0 (sym same ∙ more.1 ∙ append_assoc p.answers (answer.Awake ∷ []) more.0))

-- where all arrivals are used and the await doesn't end, it ends at no point of the run with these answers
pub none_ends : (s : Setup) (m : Meaning) (future : UnresolvedFuture) (n k : ℕ) (first p q : Point) → after s m n first ≡ Some p → after s m k first ≡ Some q → q.answers ≡ p.answers → IsAwaiting m q future → ends_await s future q.derived ≡ false → q.queue ≡ [] → ends_await s future p.derived ≡ false
none_ends s m future zero k first p q a b same at asleep spent =
    let is = same_Some first p a in
    open_before s m future k p q (ap (after s m k) (sym is) ∙ b) same (sym (ap m same) ∙ at) asleep
none_ends s m future (suc n) zero first p q a b same at asleep spent =
    let is = same_Some first q b in
    let stuck : next s m first ≡ None = ap (next s m) is ∙ waits_next s m future q at asleep ∙ ap (λ l. uses_arrival l q) spent in
    none_some (sym (ap (λ o. and_then o (after s m n)) stuck) ∙ a)
none_ends s m future (suc n) (suc k) first p q a b same at asleep spent =
    let x = and_then_some (next s m first) (after s m n) p a in
    let y = and_then_some (next s m first) (after s m k) q b in
    let one : x.0 ≡ y.0 = same_Some x.0 y.0 (sym x.1 ∙ y.1) in
    none_ends s m future n k x.0 p q x.2 (ap (after s m k) one ∙ y.2) same at asleep spent
