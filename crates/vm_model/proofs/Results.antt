-- What is ready for an id: of a completion its deliveries, of a signal those from the number of its takes on.
use Rattle.std.proofs.Common.{◌≡◌, ◌≤◌, ℕ, zero, suc, Bool, true, false, cond, List, [], ◌∷◌, ◌++◌, length, drop, is_some, Option, Some, None, refl, sym, ap, ◌∙◌, subst, arith}
use Rattle.std.specs.Option.{option_or}
use Rattle.std.proofs.lemmas.Bool.{eqb-true}
use Rattle.std.specs.Cmp.Lexicographic.{bytes_decides}
use Rattle.journal_protocol.specs.Notification.{Notification}
use Rattle.journal_protocol.specs.NotificationId.{NotificationId}
use Rattle.journal_protocol.specs.NotificationId.TheVariants.{CompletionId, SignalId, SignalName}
use Rattle.journal_protocol.specs.SignalDelivery.{SignalDelivery}
use Rattle.journal_protocol.specs.SignalDelivery.TheVariants.{Queued, Overwrite}
use Rattle.journal_protocol.specs.NotificationResult.{NotificationResult}
use Rattle.vm_parts.specs.Arrived.{Ready}
use Rattle.vm_parts.specs.Deliveries.{first, is_listed, left_among, left_ready, newest, newest_after, with_delivered, with_eager, present_result, results_of, same_id, without_all, without_oldest}
use Rattle.vm_model.specs.Calls.{Usage, ready_by_usage}
use Rattle.vm_model.specs.Calls.Usage.{Used, Read, Taken}
use Rattle.vm_model.specs.Deliveries.{EachTookAResult, deliveries, next_taken, since_taken, takes}

rest_of : {A : Type 0} → List A → List A
rest_of [] = []
rest_of (x ∷ xs) = xs

-- ---- ids

pub same_is : (i j : NotificationId) → same_id i j ≡ true → i ≡ j
same_is (CompletionId a) (CompletionId b) e = ap CompletionId (eqb-true a b e)
same_is (SignalId a) (SignalId b) e = ap SignalId (eqb-true a b e)
same_is (SignalName a) (SignalName b) e = ap SignalName ((bytes_decides a b).0 e)
same_is (CompletionId a) (SignalId b) e = absurd (cc)
same_is (CompletionId a) (SignalName b) e = absurd (cc)
same_is (SignalId a) (CompletionId b) e = absurd (cc)
same_is (SignalId a) (SignalName b) e = absurd (cc)
same_is (SignalName a) (CompletionId b) e = absurd (cc)
same_is (SignalName a) (SignalId b) e = absurd (cc)

-- ---- lists of results

pub results_behind : (id : NotificationId) (ns : List Notification) (n : Notification) → results_of id (ns ++ n ∷ []) ≡ cond (same_id n.id id) (results_of id ns ++ n.result ∷ []) (results_of id ns)
results_behind id [] n = refl
results_behind id (x ∷ ns) n = by_tests (same_id x.id id) (same_id n.id id) (results_behind id ns n)
  where
    by_tests : (a b : Bool) → results_of id (ns ++ n ∷ []) ≡ cond b (results_of id ns ++ n.result ∷ []) (results_of id ns) → cond a (x.result ∷ results_of id (ns ++ n ∷ [])) (results_of id (ns ++ n ∷ [])) ≡ cond b (cond a (x.result ∷ results_of id ns) (results_of id ns) ++ n.result ∷ []) (cond a (x.result ∷ results_of id ns) (results_of id ns))
    by_tests true true ih = ap (λ l. x.result ∷ l) ih
    by_tests true false ih = ap (λ l. x.result ∷ l) ih
    by_tests false true ih = ih
    by_tests false false ih = ih

-- the oldest of this id is gone
first_gone : (id i : NotificationId) (ns : List Notification) → same_id i id ≡ true → results_of id (without_oldest i ns) ≡ rest_of (results_of id ns)
unfolding rest_of
first_gone id i [] e = refl
first_gone id i (n ∷ ns) e = by_test (same_id n.id i) refl (first_gone id i ns e)
  where
    by_test : (b : Bool) → same_id n.id i ≡ b → results_of id (without_oldest i ns) ≡ rest_of (results_of id ns) → results_of id (cond b ns (n ∷ without_oldest i ns)) ≡ rest_of (cond (same_id n.id id) (n.result ∷ results_of id ns) (results_of id ns))
    by_test true t ih = rw (ap (λ j. same_id n.id j) (sym (same_is i id e)) ∙ t) refl
    by_test false t ih = rw (ap (λ j. same_id n.id j) (sym (same_is i id e)) ∙ t) ih

-- another id's results stay
first_kept : (id i : NotificationId) (ns : List Notification) → same_id i id ≡ false → results_of id (without_oldest i ns) ≡ results_of id ns
first_kept id i [] e = refl
first_kept id i (n ∷ ns) e = by_test (same_id n.id i) refl (first_kept id i ns e)
  where
    by_test : (b : Bool) → same_id n.id i ≡ b → results_of id (without_oldest i ns) ≡ results_of id ns → results_of id (cond b ns (n ∷ without_oldest i ns)) ≡ cond (same_id n.id id) (n.result ∷ results_of id ns) (results_of id ns)
    by_test true t ih = rw (ap (λ j. same_id j id) (same_is n.id i t) ∙ e) refl
    by_test false t ih = ap (λ l. cond (same_id n.id id) (n.result ∷ l) l) ih

pub all_kept : (id i : NotificationId) (ns : List Notification) → same_id i id ≡ false → results_of id (without_all i ns) ≡ results_of id ns
all_kept id i [] e = refl
all_kept id i (n ∷ ns) e = by_test (same_id n.id i) refl (all_kept id i ns e)
  where
    by_test : (b : Bool) → same_id n.id i ≡ b → results_of id (without_all i ns) ≡ results_of id ns → results_of id (cond b (without_all i ns) (n ∷ without_all i ns)) ≡ cond (same_id n.id id) (n.result ∷ results_of id ns) (results_of id ns)
    by_test true t ih = rw (ap (λ j. same_id j id) (same_is n.id i t) ∙ e) ih
    by_test false t ih = ap (λ l. cond (same_id n.id id) (n.result ∷ l) l) ih

pub left_kept : (delivery : SignalDelivery) (id i : NotificationId) (ns : List Notification) → same_id i id ≡ false → results_of id (left_among delivery i ns) ≡ results_of id ns
left_kept delivery id i ns e = by_test (is_listed delivery i)
  where
    by_test : (b : Bool) → results_of id (cond b (without_oldest i ns) (without_all i ns)) ≡ results_of id ns
    by_test true = first_kept id i ns e
    by_test false = all_kept id i ns e

-- none of this id's results stays
pub all_gone : (id : NotificationId) (ns : List Notification) → results_of id (without_all id ns) ≡ []
all_gone id [] = refl
all_gone id (n ∷ ns) = by_test (same_id n.id id) refl (all_gone id ns)
  where
    by_test : (b : Bool) → same_id n.id id ≡ b → results_of id (without_all id ns) ≡ [] → results_of id (cond b (without_all id ns) (n ∷ without_all id ns)) ≡ []
    by_test true t ih = ih
    by_test false t ih = rw t ih

pub newest_behind : {A : Type 0} (found : Option A) (xs : List A) (x : A) → newest_after found (xs ++ x ∷ []) ≡ Some x
newest_behind found [] x = refl
newest_behind found (y ∷ ys) x = newest_behind (Some y) ys x

-- ---- an id that was not taken

-- the newest that is ready: of what was delivered, else of what eager reads gave
newest_in : NotificationId → Ready → Option NotificationResult
newest_in id r = option_or (newest (results_of id r.delivered)) (newest (results_of id r.eager))

newest_used : (id : NotificationId) (n : Notification) (r : Ready) (came : List NotificationResult) → newest_in id r ≡ newest came → newest_in id (with_delivered n r) ≡ newest (cond (same_id n.id id) (came ++ n.result ∷ []) came)
unfolding newest_in
newest_used id n r came h = ap (λ l. option_or (newest l) (newest (results_of id r.eager))) (results_behind id r.delivered n) ∙ by_test (same_id n.id id)
  where
    by_test : (b : Bool) → option_or (newest (cond b (results_of id r.delivered ++ n.result ∷ []) (results_of id r.delivered))) (newest (results_of id r.eager)) ≡ newest (cond b (came ++ n.result ∷ []) came)
    by_test true = ap (λ x. option_or x (newest (results_of id r.eager))) (newest_behind None (results_of id r.delivered) n.result) ∙ sym (newest_behind None came n.result)
    by_test false = h

newest_read : (id : NotificationId) (i : ℕ) (result : NotificationResult) (r : Ready) (came : List NotificationResult) → newest_in id r ≡ newest came → newest_in id (with_eager i result r) ≡ newest (cond (same_id (CompletionId i) id) (came ++ result ∷ []) came)
unfolding newest_in
newest_read id i result r came h = ap (λ l. option_or (newest (results_of id (without_all (CompletionId i) r.delivered))) (newest l)) (results_behind id r.eager (record { id = CompletionId i; result = result })) ∙ by_test (same_id (CompletionId i) id) refl
  where
    by_test : (b : Bool) → same_id (CompletionId i) id ≡ b → option_or (newest (results_of id (without_all (CompletionId i) r.delivered))) (newest (cond b (results_of id r.eager ++ result ∷ []) (results_of id r.eager))) ≡ newest (cond b (came ++ result ∷ []) came)
    by_test true t =
        ap (λ l. option_or (newest l) (newest (results_of id r.eager ++ result ∷ []))) (ap (λ x. results_of id (without_all x r.delivered)) (same_is (CompletionId i) id t) ∙ all_gone id r.delivered)
        ∙ newest_behind None (results_of id r.eager) result ∙ sym (newest_behind None came result)
    by_test false t = ap (λ l. option_or (newest l) (newest (results_of id r.eager))) (all_kept id (CompletionId i) r.delivered t) ∙ h

newest_taken : (delivery : SignalDelivery) (id i : NotificationId) (r : Ready) → same_id i id ≡ false → newest_in id (left_ready delivery i r) ≡ newest_in id r
unfolding newest_in
newest_taken delivery id i r t = λ k. option_or (newest (left_kept delivery id i r.delivered t k)) (newest (left_kept delivery id i r.eager t k))

newest_ready : (delivery : SignalDelivery) (id : NotificationId) (us : List Usage) → takes id us ≡ 0 → newest_in id (ready_by_usage delivery us) ≡ newest (deliveries id us)
unfolding newest_in
newest_ready delivery id [] e = refl
newest_ready delivery id (Used n ∷ us) e = newest_used id n (ready_by_usage delivery us) (deliveries id us) (newest_ready delivery id us e)
newest_ready delivery id (Read i result ∷ us) e = newest_read id i result (ready_by_usage delivery us) (deliveries id us) (newest_ready delivery id us e)
newest_ready delivery id (Taken i ∷ us) e = by_test (same_id i id) refl e (newest_ready delivery id us)
  where
    by_test : (b : Bool) → same_id i id ≡ b → cond b (suc (takes id us)) (takes id us) ≡ 0 → (takes id us ≡ 0 → newest_in id (ready_by_usage delivery us) ≡ newest (deliveries id us)) → newest_in id (left_ready delivery i (ready_by_usage delivery us)) ≡ newest (deliveries id us)
    by_test true t e ih = absurd (omega (arith, e))
    by_test false t e ih = newest_taken delivery id i (ready_by_usage delivery us) t ∙ ih e

-- of a completion the newest delivery is present
pub newest_present : (delivery : SignalDelivery) (n : ℕ) (us : List Usage) → takes (CompletionId n) us ≡ 0 → present_result delivery (CompletionId n) (ready_by_usage delivery us) ≡ newest (deliveries (CompletionId n) us)
unfolding newest_in
newest_present Queued n us e = newest_ready Queued (CompletionId n) us e
newest_present Overwrite n us e = newest_ready Overwrite (CompletionId n) us e

-- ---- an id whose deliveries queue up

-- what is left after the first k
dropped : {A : Type 0} (xs ys : List A) (k : ℕ) (r : A) → drop k xs ≡ ys → k ≤ length xs → drop k (xs ++ r ∷ []) ≡ ys ++ r ∷ []
dropped xs ys zero r e h = ap (λ l. l ++ r ∷ []) e
dropped [] ys (suc k) r e h = absurd (omega (arith, h))
dropped (x ∷ xs) ys (suc k) r e h = dropped xs ys k r e (omega (arith, h))

dropped_more : {A : Type 0} (xs : List A) (k : ℕ) → drop (suc k) xs ≡ rest_of (drop k xs)
unfolding rest_of
dropped_more [] zero = refl
dropped_more [] (suc k) = refl
dropped_more (x ∷ xs) zero = refl
dropped_more (x ∷ xs) (suc k) = dropped_more xs k

some_within : {A : Type 0} (xs : List A) (k : ℕ) → is_some (first (drop k xs)) ≡ true → suc k ≤ length xs
some_within [] zero e = absurd (cc)
some_within [] (suc k) e = absurd (cc)
some_within (x ∷ xs) zero e = omega arith
some_within (x ∷ xs) (suc k) e = let i = some_within xs k e in omega (arith, i)

-- no eager read gives a signal its result
pub not_a_completion : (id : NotificationId) (i : ℕ) → is_listed Queued id ≡ true → same_id (CompletionId i) id ≡ false
not_a_completion (CompletionId n) i e = absurd (cc)
not_a_completion (SignalId n) i e = refl
not_a_completion (SignalName name) i e = refl

pub none_read : (id : NotificationId) → is_listed Queued id ≡ true → (us : List Usage) → results_of id (ready_by_usage Queued us).eager ≡ []
unfolding rest_of
none_read id listed [] = refl
none_read id listed (Used n ∷ us) = none_read id listed us
none_read id listed (Read i result ∷ us) = results_behind id (ready_by_usage Queued us).eager (record { id = CompletionId i; result = result }) ∙ rw (not_a_completion id i listed) (none_read id listed us)
none_read id listed (Taken i ∷ us) = by_test (same_id i id) refl (none_read id listed us)
  where
    by_test : (b : Bool) → same_id i id ≡ b → results_of id (ready_by_usage Queued us).eager ≡ [] → results_of id (left_among Queued i (ready_by_usage Queued us).eager) ≡ []
    by_test true t ih =
        ap (λ b. results_of id (cond b (without_oldest i (ready_by_usage Queued us).eager) (without_all i (ready_by_usage Queued us).eager))) (subst (λ j. is_listed Queued j ≡ true) (sym (same_is i id t)) listed)
        ∙ first_gone id i (ready_by_usage Queued us).eager t ∙ ap rest_of ih
    by_test false t ih = left_kept Queued id i (ready_by_usage Queued us).eager t ∙ ih

-- its results are its deliveries from the number of its takes on
pub record Rest (id : NotificationId) (us : List Usage) : Type 0 where
  pub within : takes id us ≤ length (deliveries id us)
  pub ready : results_of id (ready_by_usage Queued us).delivered ≡ drop (takes id us) (deliveries id us)

length_behind : {A : Type 0} (xs : List A) (x : A) → length (xs ++ x ∷ []) ≡ suc (length xs)
length_behind [] x = refl
length_behind (y ∷ ys) x = ap suc (length_behind ys x)

rest_used : (id : NotificationId) (us : List Usage) (n : Notification) → Rest id us → Rest id (Used n ∷ us)
rest_used id us n h = by_test (same_id n.id id) refl
  where
    by_test : (b : Bool) → same_id n.id id ≡ b → Rest id (Used n ∷ us)
    by_test true t =
        let l = length_behind (deliveries id us) n.result in
        let w = h.within in
        record {
          within = rw (t, l) (omega (arith, w));
          ready = results_behind id (ready_by_usage Queued us).delivered n ∙ rw t (ap (λ x. x ++ n.result ∷ []) h.ready ∙ sym (dropped (deliveries id us) (drop (takes id us) (deliveries id us)) (takes id us) n.result refl h.within));
        }
    by_test false t = record { within = rw t h.within; ready = results_behind id (ready_by_usage Queued us).delivered n ∙ rw t h.ready }

rest_read : (id : NotificationId) (us : List Usage) (i : ℕ) (result : NotificationResult) → is_listed Queued id ≡ true → Rest id us → Rest id (Read i result ∷ us)
rest_read id us i result listed h =
    let t = not_a_completion id i listed in
    record { within = rw t h.within; ready = all_kept id (CompletionId i) (ready_by_usage Queued us).delivered t ∙ rw t h.ready }

-- of a signal the first that was delivered and not taken is present
first_present : (id : NotificationId) → is_listed Queued id ≡ true → (us : List Usage) → present_result Queued id (ready_by_usage Queued us) ≡ first (results_of id (ready_by_usage Queued us).delivered)
first_present id listed us =
    let R = ready_by_usage Queued us in
    ap (λ b. option_or (cond b (first (results_of id R.delivered)) (newest (results_of id R.delivered))) (cond b (first (results_of id R.eager)) (newest (results_of id R.eager)))) listed
    ∙ ap (λ l. option_or (first (results_of id R.delivered)) (first l)) (none_read id listed us)
    ∙ or_none (first (results_of id R.delivered))
  where
    or_none : {A : Type 0} (x : Option A) → option_or x None ≡ x
    or_none None = refl
    or_none (Some x) = refl

rest_taken : (id i : NotificationId) (us : List Usage) → is_listed Queued id ≡ true → is_some (present_result Queued i (ready_by_usage Queued us)) ≡ true → Rest id us → Rest id (Taken i ∷ us)
rest_taken id i us listed there h = by_test (same_id i id) refl
  where
    by_test : (b : Bool) → same_id i id ≡ b → Rest id (Taken i ∷ us)
    by_test true t =
        let is = same_is i id t in
        let R = (ready_by_usage Queued us).delivered in
        let at_id : is_some (present_result Queued id (ready_by_usage Queued us)) ≡ true = subst (λ j. is_some (present_result Queued j (ready_by_usage Queued us)) ≡ true) is there in
        let some : is_some (first (results_of id R)) ≡ true = ap is_some (sym (first_present id listed us)) ∙ at_id in
        let here : is_listed Queued i ≡ true = subst (λ j. is_listed Queued j ≡ true) (sym is) listed in
        record {
          within = rw t (some_within (deliveries id us) (takes id us) (ap (λ l. is_some (first l)) (sym h.ready) ∙ some));
          ready = rw t (ap (λ b. results_of id (cond b (without_oldest i R) (without_all i R))) here ∙ first_gone id i R t ∙ ap rest_of h.ready ∙ sym (dropped_more (deliveries id us) (takes id us)));
        }
    by_test false t = record { within = rw t h.within; ready = rw t (left_kept Queued id i (ready_by_usage Queued us).delivered t ∙ h.ready) }

pub rest_ready : (id : NotificationId) → is_listed Queued id ≡ true → (us : List Usage) → EachTookAResult Queued us → Rest id us
rest_ready id listed [] all = record { within = omega arith; ready = refl }
rest_ready id listed (Used n ∷ us) all = rest_used id us n (rest_ready id listed us all)
rest_ready id listed (Read i result ∷ us) all = rest_read id us i result listed (rest_ready id listed us all)
rest_ready id listed (Taken i ∷ us) all = rest_taken id i us listed all.0 (rest_ready id listed us all.1)

-- the index of a signal's present delivery, from 0, is the number of takes so far
pub next_present : (id : NotificationId) → is_listed Queued id ≡ true → (us : List Usage) → EachTookAResult Queued us → present_result Queued id (ready_by_usage Queued us) ≡ first (drop (takes id us) (deliveries id us))
next_present id listed us all = first_present id listed us ∙ ap first (rest_ready id listed us all).ready

-- ---- an id whose newest delivery stands

-- none of its results stays where one is taken
none_left : (delivery : SignalDelivery) (id i : NotificationId) (ns : List Notification) → is_listed delivery id ≡ false → same_id i id ≡ true → results_of id (left_among delivery i ns) ≡ []
none_left delivery id i ns listed t =
    let is = same_is i id t in
    ap (λ b. results_of id (cond b (without_oldest i ns) (without_all i ns))) (subst (λ j. is_listed delivery j ≡ false) (sym is) listed) ∙ ap (λ j. results_of id (without_all j ns)) is ∙ all_gone id ns

since_ready : (delivery : SignalDelivery) (id : NotificationId) → is_listed delivery id ≡ false → (us : List Usage) → newest_in id (ready_by_usage delivery us) ≡ newest (since_taken id us)
unfolding newest_in
since_ready delivery id listed [] = refl
since_ready delivery id listed (Used n ∷ us) = newest_used id n (ready_by_usage delivery us) (since_taken id us) (since_ready delivery id listed us)
since_ready delivery id listed (Read i result ∷ us) = newest_read id i result (ready_by_usage delivery us) (since_taken id us) (since_ready delivery id listed us)
since_ready delivery id listed (Taken i ∷ us) = by_test (same_id i id) refl (since_ready delivery id listed us)
  where
    by_test : (b : Bool) → same_id i id ≡ b → newest_in id (ready_by_usage delivery us) ≡ newest (since_taken id us) → newest_in id (left_ready delivery i (ready_by_usage delivery us)) ≡ newest (cond b [] (since_taken id us))
    by_test true t ih = λ k. option_or (newest (none_left delivery id i (ready_by_usage delivery us).delivered listed t k)) (newest (none_left delivery id i (ready_by_usage delivery us).eager listed t k))
    by_test false t ih = newest_taken delivery id i (ready_by_usage delivery us) t ∙ ih

-- where deliveries don't queue up the newest is present
newest_stands : (delivery : SignalDelivery) (id : NotificationId) (r : Ready) → is_listed delivery id ≡ false → present_result delivery id r ≡ newest_in id r
unfolding newest_in
newest_stands delivery id r listed = ap (λ b. option_or (cond b (first (results_of id r.delivered)) (newest (results_of id r.delivered))) (cond b (first (results_of id r.eager)) (newest (results_of id r.eager)))) listed

-- deliveries queue up only where signals do
listed_queued : (delivery : SignalDelivery) (id : NotificationId) → is_listed delivery id ≡ true → delivery ≡ Queued
listed_queued Queued id h = refl
listed_queued Overwrite id h = absurd (cc)

-- the present result is the one that is taken next
pub present_next : (delivery : SignalDelivery) (id : NotificationId) (us : List Usage) → EachTookAResult delivery us → present_result delivery id (ready_by_usage delivery us) ≡ next_taken delivery id us
present_next delivery id us all = by_test (is_listed delivery id) refl
  where
    by_test : (b : Bool) → is_listed delivery id ≡ b → present_result delivery id (ready_by_usage delivery us) ≡ cond b (first (drop (takes id us) (deliveries id us))) (newest (since_taken id us))
    by_test true listed =
        let q = listed_queued delivery id listed in
        subst (λ d. present_result d id (ready_by_usage d us) ≡ first (drop (takes id us) (deliveries id us))) (sym q) (next_present id (subst (λ d. is_listed d id ≡ true) q listed) us (subst (λ d. EachTookAResult d us) q all))
    by_test false listed = newest_stands delivery id (ready_by_usage delivery us) listed ∙ since_ready delivery id listed us
