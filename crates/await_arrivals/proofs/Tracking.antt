-- Slots that tell where the results of each id lie, while entries come and results are taken.
use Rattle.std.proofs.Common.{◌≡◌, ◌≢◌, ℕ, ◌<◌, ◌≤◌, Bool, true, false, cond, List, [], ◌∷◌, ◌++◌, length, take, drop, get_or, Option, Some, None, refl, sym, ap, ◌∙◌, arith, append-nil}
use Rattle.std.proofs.Math.ListN.{set}
use Rattle.std.proofs.lemmas.List.{get_or-take, get_or-set_same, get_or-set_other, length-set, length_push, get_or_append_left}
use Rattle.std.proofs.Math.Seq.{get_or-append_seam}
use Rattle.await_arrivals.specs.declared.index.Index.{Index}
use Rattle.journal_values.specs.declared.notification.Notification.{Notification}
use Rattle.journal_values.specs.declared.notification.NotificationId.{NotificationId}
use Rattle.journal_values.specs.declared.notification.NotificationResult.{NotificationResult}
use Rattle.await_arrivals.specs.declared.log.Entry.{Entry}
use Rattle.await_arrivals.specs.Ids.{same_id, slot_of, held_for_ids}
use Rattle.await_arrivals.specs.Numbers.{most_for_one}
use Rattle.std.specs.Option.{is_some}
use Rattle.std.specs.Prelude.{nat_lt, ◌+◌, IsSome}
use Rattle.std.proofs.lemmas.Bool.Decides.{nat_tests}
use Rattle.await_arrivals.specs.Results.{first, results_of, has_result_among, without_oldest, without_all}
use Rattle.await_arrivals.specs.Entries.{not_taken, places, Tracked, Located}
use Rattle.await_arrivals.proofs.Ids.{Test, yes, no, test, same_is}
use Rattle.await_arrivals.proofs.Entries.{places_push, cleared, cleared_length, Front, front_at, front_used, none_used, late_used, take_cleared, drop_cleared}

same_slot : {a b : ℕ} → Some a ≡ Some b → a ≡ b
same_slot e = cc

-- where the results of an id with a slot lie
pub at_slot : (log : List Entry) (index : Index) (slots : List (List ℕ)) (id : NotificationId) (k : ℕ) → Tracked log index slots → slot_of index id ≡ Some k → (k < length slots) × (get_or slots k [] ≡ places id log)
at_slot log index slots id k t e = rw e at (t.located id)

-- ---- one more entry

one_more : (id : NotificationId) (e : Entry) (r : NotificationResult) (log : List Entry) → e.result ≡ Some r → (b : Bool) → same_id e.id id ≡ b → places id (log ++ e ∷ []) ≡ places id log ++ cond b (length log ∷ []) []
one_more id e r log s b h = places_push id log e ∙ rw (s, h) refl

module _ (log : List Entry) (index : Index) (slots : List (List ℕ)) (k : ℕ) (e : Entry) (r : NotificationResult) (t : Tracked log index slots) (at : slot_of index e.id ≡ Some k) (s : e.result ≡ Some r) where
  abbrev grown : List (List ℕ)
  grown = set slots k (get_or slots k [] ++ length log ∷ [])

  longer : length grown ≡ length slots
  longer = length-set slots k (get_or slots k [] ++ length log ∷ [])

  found_in : (id : NotificationId) (o : Option ℕ) → slot_of index id ≡ o → Located slots (places id log) o → Test (same_id e.id id) → Located grown (places id (log ++ e ∷ [])) o
  found_in id None n l (yes h) =
      let i : e.id ≡ id = same_is e.id id h in
      let j : slot_of index e.id ≡ None = rw i n in
      cc
  found_in id None n l (no h) = one_more id e r log s false h ∙ rw l refl
  found_in id (Some j) n l (yes h) =
      let i : e.id ≡ id = same_is e.id id h in
      let m : slot_of index id ≡ Some k = rw (← i) at in
      let jk : j ≡ k = same_slot (sym n ∙ m) in
      let here : get_or grown k [] ≡ get_or slots k [] ++ length log ∷ [] = get_or-set_same slots k (get_or slots k [] ++ length log ∷ []) [] (at_slot log index slots e.id k t at).0 in
      let old : get_or slots k [] ≡ places id log = ap (λ z. get_or slots z []) (sym jk) ∙ l.1 in
      (rw longer l.0, ap (λ z. get_or grown z []) jk ∙ here ∙ ap (λ z. z ++ length log ∷ []) old ∙ sym (one_more id e r log s true h))
  found_in id (Some j) n l (no h) =
      let apart : j ≢ k = λ q. let m : slot_of index id ≡ Some k = rw (← q) n in let x = t.apart e.id id k at m in cc in
      (rw longer l.0, get_or-set_other slots k j (get_or slots k [] ++ length log ∷ []) [] apart ∙ l.1 ∙ sym (append-nil (places id log)) ∙ sym (one_more id e r log s false h))

  pub tracked_push : Tracked (log ++ e ∷ []) index grown
  tracked_push = record {
    located = λ id. found_in id (slot_of index id) refl (t.located id) (test (same_id e.id id));
    apart = t.apart;
    room = record { few_slots = omega (arith, longer, length_push log e, t.room.few_slots); few_held = omega (arith, length_push log e, t.room.few_held) };
  }

some_is : {X : Type 0} (o : Option X) → IsSome o → (x : X) × (o ≡ Some x)
some_is None h = cc
some_is (Some x) h = (x, refl)

-- one more entry of an id that has a slot
pub tracked_known : (log : List Entry) (index : Index) (slots : List (List ℕ)) (k place : ℕ) (e : Entry) (more : List ℕ) → Tracked log index slots → slot_of index e.id ≡ Some k → IsSome e.result → length log ≡ place → more ≡ get_or slots k [] ++ place ∷ []
    → Tracked (log ++ e ∷ []) index (set slots k more)
tracked_known log index slots k place e more t at s n m =
    let r = some_is e.result s in
    let is : more ≡ get_or slots k [] ++ length log ∷ [] = m ∙ ap (λ z. get_or slots k [] ++ z ∷ []) (sym n) in
    rw is (tracked_push log index slots k e r.0 t at r.1)

-- the first entry of an id
module _ (log : List Entry) (index after : Index) (slots : List (List ℕ)) (e : Entry) (r : NotificationResult) (t : Tracked log index slots) (none : slot_of index e.id ≡ None) (s : e.result ≡ Some r)
    (put : (other : NotificationId) → slot_of after other ≡ cond (same_id e.id other) (Some (length slots)) (slot_of index other)) (held : held_for_ids after ≤ held_for_ids index + most_for_one) where
  abbrev wider : List (List ℕ)
  wider = slots ++ (length log ∷ []) ∷ []

  wider_length : length wider ≡ length slots + 1
  wider_length = length_push slots (length log ∷ [])

  slot_in : (id : NotificationId) (o : Option ℕ) → slot_of index id ≡ o → Located slots (places id log) o → Test (same_id e.id id) → Located wider (places id (log ++ e ∷ [])) (slot_of after id)
  slot_in id (Some k) n l (yes h) =
      let i : e.id ≡ id = same_is e.id id h in
      let j : slot_of index e.id ≡ Some k = rw i n in
      cc
  slot_in id None n l (yes h) = rw (put id, h) (omega (arith, wider_length), get_or-append_seam slots (length log ∷ []) [] [] ∙ sym (one_more id e r log s true h ∙ rw l refl))
  slot_in id None n l (no h) = rw (put id, h, n) (one_more id e r log s false h ∙ rw l refl)
  slot_in id (Some k) n l (no h) = rw (put id, h, n) (omega (arith, wider_length, l.0), get_or_append_left slots ((length log ∷ []) ∷ []) [] k l.0 ∙ l.1 ∙ sym (append-nil (places id log)) ∙ sym (one_more id e r log s false h))

  new_apart : (id : NotificationId) (k : ℕ) → length slots ≡ k → slot_of index id ≡ Some k → ⊥
  new_apart id k n p = let within = at_slot log index slots id k t p in omega (arith, within.0)

  apart_in : (a b : NotificationId) (k : ℕ) → Test (same_id e.id a) → Test (same_id e.id b) → slot_of after a ≡ Some k → slot_of after b ≡ Some k → same_id a b ≡ true
  apart_in a b k (yes g) (yes h) p q = let i : e.id ≡ a = same_is e.id a g in rw (← i) h
  apart_in a b k (yes g) (no h) p q = absurd (new_apart b k (same_slot (rw (put a, g) at p)) (rw (put b, h) at q))
  apart_in a b k (no g) (yes h) p q = absurd (new_apart a k (same_slot (rw (put b, h) at q)) (rw (put a, g) at p))
  apart_in a b k (no g) (no h) p q = t.apart a b k (rw (put a, g) at p) (rw (put b, h) at q)

  pub tracked_new : Tracked (log ++ e ∷ []) after wider
  tracked_new = record {
    located = λ id. slot_in id (slot_of index id) refl (t.located id) (test (same_id e.id id));
    apart = λ a b k. apart_in a b k (test (same_id e.id a)) (test (same_id e.id b));
    room = record { few_slots = omega (arith, wider_length, length_push log e, t.room.few_slots); few_held = omega (arith, held, length_push log e, t.room.few_held) };
  }

pub tracked_first : (log : List Entry) (index after : Index) (slots more : List (List ℕ)) (place slot : ℕ) (e : Entry) → Tracked log index slots → slot_of index e.id ≡ None → IsSome e.result → length log ≡ place → more ≡ slots ++ (place ∷ []) ∷ []
    → slot ≡ length slots → ((other : NotificationId) → slot_of after other ≡ cond (same_id e.id other) (Some slot) (slot_of index other)) → held_for_ids after ≤ held_for_ids index + most_for_one
    → Tracked (log ++ e ∷ []) after more
tracked_first log index after slots more place slot e t none s n m l put held =
    let r = some_is e.result s in
    let is : more ≡ slots ++ (length log ∷ []) ∷ [] = m ∙ ap (λ (z : ℕ). slots ++ (z ∷ []) ∷ []) (sym n) in
    rw is (tracked_new log index after slots e r.0 t none r.1 (λ other. rw (← l) (put other)) held)

-- ---- the oldest result of an id is taken

first_is : (qs : List ℕ) (p : ℕ) → first qs ≡ Some p → qs ≡ p ∷ drop 1 qs
first_is [] p e = cc
first_is (q ∷ qs) p e = ap (λ z. z ∷ qs) (same_slot e)

pub none_is : {X : Type 0} (qs : List X) → first qs ≡ None → qs ≡ []
none_is [] e = refl
none_is (q ∷ qs) e = cc

module _ (log : List Entry) (index : Index) (slots : List (List ℕ)) (id : NotificationId) (k p : ℕ) (t : Tracked log index slots) (at : slot_of index id ≡ Some k) (f : first (get_or slots k []) ≡ Some p) where
  here : places id log ≡ p ∷ drop 1 (get_or slots k [])
  here = sym (at_slot log index slots id k t at).1 ∙ first_is (get_or slots k []) p f

  front : (r : NotificationResult) × Front id log p (drop 1 (get_or slots k [])) r
  front = front_at id log p (drop 1 (get_or slots k [])) here

  pub within : p < length log
  within = front.1.within

  abbrev advanced : List (List ℕ)
  advanced = set slots k (drop 1 (get_or slots k []))

  as_long : length advanced ≡ length slots
  as_long = length-set slots k (drop 1 (get_or slots k []))

  left_in : (other : NotificationId) (o : Option ℕ) → slot_of index other ≡ o → Located slots (places other log) o → Test (same_id id other) → Located advanced (places other (cleared p log)) o
  left_in other None n l (yes h) =
      let i : id ≡ other = same_is id other h in
      let j : slot_of index id ≡ None = rw i n in
      cc
  left_in other None n l (no h) = front.1.others other h ∙ l
  left_in other (Some j) n l (yes h) =
      let i : id ≡ other = same_is id other h in
      let m : slot_of index other ≡ Some k = rw (← i) at in
      let jk : j ≡ k = same_slot (sym n ∙ m) in
      let now : get_or advanced k [] ≡ drop 1 (get_or slots k []) = get_or-set_same slots k (drop 1 (get_or slots k [])) [] (at_slot log index slots id k t at).0 in
      (rw as_long l.0, ap (λ z. get_or advanced z []) jk ∙ now ∙ sym front.1.left ∙ ap (λ z. places z (cleared p log)) i)
  left_in other (Some j) n l (no h) =
      let apart : j ≢ k = λ q. let m : slot_of index other ≡ Some k = rw (← q) n in let x = t.apart id other k at m in cc in
      (rw as_long l.0, get_or-set_other slots k j (drop 1 (get_or slots k [])) [] apart ∙ l.1 ∙ sym (front.1.others other h))

  pub tracked_taken : Tracked (cleared p log) index advanced
  tracked_taken = record {
    located = λ other. left_in other (slot_of index other) refl (t.located other) (test (same_id id other));
    apart = t.apart;
    room = record { few_slots = omega (arith, as_long, cleared_length p log, t.room.few_slots); few_held = omega (arith, cleared_length p log, t.room.few_held) };
  }

  -- what leaves, where the first s entries are looked at
  pub record Taken (s : ℕ) : Type 0 where
    pub result : (d : Entry) → (get_or log p d).result ≡ first (results_of id (not_taken (take s log)))
    pub left : not_taken (take s (cleared p log)) ≡ without_oldest id (not_taken (take s log))
    pub rest : drop s (cleared p log) ≡ drop s log

  pub taken : (s : ℕ) → p < s → Taken s
  taken s b =
      let u = front_used id log s p (drop 1 (get_or slots k [])) here b in
      let g = front_at id (take s log) p u.0 u.1 in
      let inner : p < length (take s log) = g.1.within in
      let same : (d : Entry) → get_or (take s log) p d ≡ get_or log p d = λ d. get_or-take s log p d b in
      record {
        result = λ d. ap (λ (e : Entry). e.result) (sym (same d)) ∙ g.1.result d ∙ sym (ap first g.1.results);
        left = ap not_taken (take_cleared s p log b) ∙ g.1.removed;
        rest = drop_cleared s p log b;
      }

-- ---- an id without results among the first entries

module _ (log : List Entry) (index : Index) (slots : List (List ℕ)) (id : NotificationId) (s : ℕ) (t : Tracked log index slots) where
  pub no_slot : slot_of index id ≡ None → results_of id (not_taken (take s log)) ≡ []
  no_slot e = none_used id log s (rw e at (t.located id))

  pub no_front : (k : ℕ) → slot_of index id ≡ Some k → first (get_or slots k []) ≡ None → results_of id (not_taken (take s log)) ≡ []
  no_front k e f = none_used id log s (sym (at_slot log index slots id k t e).1 ∙ none_is (get_or slots k []) f)

  pub no_early : (k p : ℕ) → slot_of index id ≡ Some k → first (get_or slots k []) ≡ Some p → s ≤ p → results_of id (not_taken (take s log)) ≡ []
  no_early k p e f l = late_used id log s p (drop 1 (get_or slots k [])) (here log index slots id k p t e f) l

no_first_at : (id : NotificationId) (n : Notification) (ns : List Notification) (b : Bool) → (results_of id ns ≡ [] → without_oldest id ns ≡ ns)
    → cond b (n.result ∷ results_of id ns) (results_of id ns) ≡ [] → cond b ns (n ∷ without_oldest id ns) ≡ n ∷ ns
no_first_at id n ns true h e = cc
no_first_at id n ns false h e = ap (λ t. n ∷ t) (h e)

pub no_first : (id : NotificationId) (ns : List Notification) → results_of id ns ≡ [] → without_oldest id ns ≡ ns
no_first id [] e = refl
no_first id (n ∷ ns) e = no_first_at id n ns (same_id n.id id) (no_first id ns) e

no_all_at : (id : NotificationId) (n : Notification) (ns : List Notification) (b : Bool) → (results_of id ns ≡ [] → without_all id ns ≡ ns)
    → cond b (n.result ∷ results_of id ns) (results_of id ns) ≡ [] → cond b (without_all id ns) (n ∷ without_all id ns) ≡ n ∷ ns
no_all_at id n ns true h e = cc
no_all_at id n ns false h e = ap (λ t. n ∷ t) (h e)

pub no_all : (id : NotificationId) (ns : List Notification) → results_of id ns ≡ [] → without_all id ns ≡ ns
no_all id [] e = refl
no_all id (n ∷ ns) e = no_all_at id n ns (same_id n.id id) (no_all id ns) e

-- whether there is a result
pub has_is : (id : NotificationId) (ns : List Notification) (o : Option NotificationResult) → first (results_of id ns) ≡ o → has_result_among id ns ≡ is_some o
has_is id [] o e = ap is_some e
has_is id (n ∷ ns) o e = go (test (same_id n.id id)) (has_is id ns)
  where
    go : Test (same_id n.id id) → ((o : Option NotificationResult) → first (results_of id ns) ≡ o → has_result_among id ns ≡ is_some o) → has_result_among id (n ∷ ns) ≡ is_some o
    go (yes b) f = rw b (ap is_some (rw b at e))
    go (no b) f = rw b (f o (rw b at e))

pub has_none : (id : NotificationId) (log : List Entry) (s : ℕ) → None ≡ first (places id log) → false ≡ has_result_among id (not_taken (take s log))
has_none id log s e = sym (has_is id (not_taken (take s log)) None (ap first (none_used id log s (none_is (places id log) (sym e)))))

pub has_some : (id : NotificationId) (log : List Entry) (s p : ℕ) → Some p ≡ first (places id log) → nat_lt p s ≡ has_result_among id (not_taken (take s log))
has_some id log s p e = go (test (nat_lt p s))
  where
    go : Test (nat_lt p s) → nat_lt p s ≡ has_result_among id (not_taken (take s log))
    go (yes b) =
        let below : p < s = grind (arith, nat_tests) in
        let u = front_used id log s p (drop 1 (places id log)) (first_is (places id log) p (sym e)) below in
        let g = front_at id (take s log) p u.0 u.1 in
        b ∙ sym (has_is id (not_taken (take s log)) (Some g.0) (ap first g.1.results))
    go (no b) =
        let late : s ≤ p = grind (arith, nat_tests) in
        let none = late_used id log s p (drop 1 (places id log)) (first_is (places id log) p (sym e)) late in
        b ∙ sym (has_is id (not_taken (take s log)) None (ap first none))

-- ---- one after another

next_at : (id : NotificationId) (n : Notification) (ns : List Notification) (b : Bool) → same_id n.id id ≡ b → results_of id (without_oldest id ns) ≡ drop 1 (results_of id ns)
    → results_of id (cond b ns (n ∷ without_oldest id ns)) ≡ drop 1 (cond b (n.result ∷ results_of id ns) (results_of id ns))
next_at id n ns true e h = refl
next_at id n ns false e h = rw e h

pub next : (id : NotificationId) (ns : List Notification) → results_of id (without_oldest id ns) ≡ drop 1 (results_of id ns)
next id [] = refl
next id (n ∷ ns) = next_at id n ns (same_id n.id id) refl (next id ns)

all_at : (id : NotificationId) (n : Notification) (ns : List Notification) (b : Bool) → same_id n.id id ≡ b → without_all id (without_oldest id ns) ≡ without_all id ns
    → without_all id (cond b ns (n ∷ without_oldest id ns)) ≡ cond b (without_all id ns) (n ∷ without_all id ns)
all_at id n ns true e h = refl
all_at id n ns false e h = rw e (ap (λ z. n ∷ z) h)

pub all_next : (id : NotificationId) (ns : List Notification) → without_all id (without_oldest id ns) ≡ without_all id ns
all_next id [] = refl
all_next id (n ∷ ns) = all_at id n ns (same_id n.id id) refl (all_next id ns)

-- a result taken from some, and those after it
pub one_taken : (id : NotificationId) (before after : List Notification) (r : NotificationResult) → Some r ≡ first (results_of id before) → after ≡ without_oldest id before → results_of id before ≡ r ∷ results_of id after
one_taken id before after r e f = go (results_of id before) refl e ∙ ap (λ z. r ∷ z) (sym (ap (results_of id) f ∙ next id before))
  where
    go : (rs : List NotificationResult) → results_of id before ≡ rs → Some r ≡ first rs → results_of id before ≡ r ∷ drop 1 (results_of id before)
    go [] h k = cc
    go (x ∷ rs) h k = let y : r ≡ x = cc in h ∙ rw (h, y) refl
