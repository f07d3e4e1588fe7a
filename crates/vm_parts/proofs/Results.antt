-- Takes that find nothing.
use Rattle.std.proofs.Common.{◌≡◌, ℕ, Bool, true, false, cond, List, [], ◌∷◌, Option, Some, None, refl, sym, ap, ◌∙◌}
use Rattle.journal_values.specs.declared.notification.Notification.{Notification}
use Rattle.journal_values.specs.declared.notification.NotificationId.{NotificationId}
use Rattle.journal_values.specs.declared.notification.NotificationResult.{NotificationResult}
use Rattle.std.specs.Prelude.{◌||◌}
use Rattle.vm_parts.specs.Arrived.{Arrived, Ready}
use Rattle.std.specs.Option.{option_or}
use Rattle.vm_parts.specs.Deliveries.{same_id, results_of, first, newest, newest_after, without_oldest, without_all, left_among, left_ready, present_result, present_among, present_result_for, first_result_for, id_at, is_listed, IsTakeOf}
use Rattle.journal_values.specs.declared.delivery.SignalDelivery.{SignalDelivery}

-- ---- an id without a result

none_first_at : (id : NotificationId) (n : Notification) (ns : List Notification) (b : Bool) → same_id n.id id ≡ b
    → (first (results_of id ns) ≡ None → without_oldest id ns ≡ ns) → first (cond b (n.result ∷ results_of id ns) (results_of id ns)) ≡ None → cond b ns (n ∷ without_oldest id ns) ≡ n ∷ ns
none_first_at id n ns true k h e = cc
none_first_at id n ns false k h e = ap (λ t. n ∷ t) (h e)

pub none_first : (id : NotificationId) (ns : List Notification) → first (results_of id ns) ≡ None → without_oldest id ns ≡ ns
none_first id [] e = refl
none_first id (n ∷ ns) e = none_first_at id n ns (same_id n.id id) refl (none_first id ns) e

-- the newest of some is one of them
newest_some : {X : Type 0} (x : X) (xs : List X) → newest_after (Some x) xs ≡ None → ⊥
newest_some x [] e = cc
newest_some x (y ∷ ys) e = newest_some y ys e

none_newest_at : (id : NotificationId) (n : Notification) (ns : List Notification) (b : Bool) → same_id n.id id ≡ b
    → (newest (results_of id ns) ≡ None → without_all id ns ≡ ns) → newest (cond b (n.result ∷ results_of id ns) (results_of id ns)) ≡ None → cond b (without_all id ns) (n ∷ without_all id ns) ≡ n ∷ ns
none_newest_at id n ns true k h e = absurd (newest_some n.result (results_of id ns) e)
none_newest_at id n ns false k h e = ap (λ t. n ∷ t) (h e)

pub none_newest : (id : NotificationId) (ns : List Notification) → newest (results_of id ns) ≡ None → without_all id ns ≡ ns
none_newest id [] e = refl
none_newest id (n ∷ ns) e = none_newest_at id n ns (same_id n.id id) refl (none_newest id ns) e

none_left_at : (b : Bool) (id : NotificationId) (ns : List Notification) → cond b (first (results_of id ns)) (newest (results_of id ns)) ≡ None → cond b (without_oldest id ns) (without_all id ns) ≡ ns
none_left_at true id ns e = none_first id ns e
none_left_at false id ns e = none_newest id ns e

none_left : (delivery : SignalDelivery) (id : NotificationId) (ns : List Notification) → present_among delivery id ns ≡ None → left_among delivery id ns ≡ ns
none_left delivery id ns e = none_left_at (is_listed delivery id) id ns e

-- of two that may be there, none is
first_none : {X : Type 0} (a b : Option X) → option_or a b ≡ None → a ≡ None
first_none None b e = refl
first_none (Some x) b e = cc

second_none : {X : Type 0} (a b : Option X) → option_or a b ≡ None → b ≡ None
second_none None b e = e
second_none (Some x) b e = cc

-- where an id has no result nothing is taken
nothing_left : (delivery : SignalDelivery) (id : NotificationId) (r : Ready) → present_result delivery id r ≡ None → left_ready delivery id r ≡ r
nothing_left delivery id r e = λ i. record {
  delivered = none_left delivery id r.delivered (first_none (present_among delivery id r.delivered) (present_among delivery id r.eager) e) i;
  eager = none_left delivery id r.eager (second_none (present_among delivery id r.delivered) (present_among delivery id r.eager) e) i;
}

pub none_taken : (delivery : SignalDelivery) (handle : ℕ) (v : Arrived) (id : NotificationId) (answer : Option NotificationResult) (ready : Ready)
    → Some id ≡ id_at handle v.handles → None ≡ present_result delivery id v.ready → ready ≡ left_ready delivery id v.ready → answer ≡ None → IsTakeOf delivery handle v answer (record v { ready = ready })
none_taken delivery handle v id answer ready i p r a =
    record { result = rw (← i, sym p) a; left = rw (← i, sym p) (ap (λ t. record v { ready = t }) (r ∙ nothing_left delivery id v.ready (sym p))) }

-- ---- the first result of an id that comes

none_at_first : (b : Bool) (rs : List NotificationResult) → cond b (first rs) (newest rs) ≡ None → first rs ≡ None
none_at_first true rs e = e
none_at_first false [] e = refl
none_at_first false (r ∷ rs) e = absurd (newest_some r rs e)

pub first_comes : (delivery : SignalDelivery) (v : Arrived) (id : NotificationId) (o : Option NotificationId) (answer : Option NotificationResult) → Some id ≡ o → None ≡ present_result_for delivery o v.ready
    → answer ≡ option_or (first (results_of id v.ready.delivered)) (first (results_of id v.queued)) → answer ≡ first_result_for delivery o v
first_comes delivery v id o answer i p a =
    let none : None ≡ present_result delivery id v.ready = rw (← i) at p in
    let here : present_among delivery id v.ready.delivered ≡ None = first_none (present_among delivery id v.ready.delivered) (present_among delivery id v.ready.eager) (sym none) in
    rw (← i, ← none) (a ∙ ap (λ z. option_or z (first (results_of id v.queued))) (none_at_first (is_listed delivery id) (results_of id v.ready.delivered) here))

-- ---- what is known of an id

-- used or waiting, or given by an eager read: in any order
pub known_is : (used waits eager : Bool) → ((used || eager) || waits) ≡ ((used || waits) || eager)
known_is true waits eager = refl
known_is false true true = refl
known_is false true false = refl
known_is false false true = refl
known_is false false false = refl
