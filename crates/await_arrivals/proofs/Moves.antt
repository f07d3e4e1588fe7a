-- Notifications that come, and are used one by one.
use Rattle.std.proofs.Common.{◌≡◌, ℕ, zero, suc, ◌<◌, ◌≤◌, Bool, true, false, List, [], ◌∷◌, ◌++◌, length, take, drop, Option, Some, None, Result, Ok, Err, refl, ap, ◌∙◌, arith}
use Rattle.std.specs.Prelude.{◌&&◌, OnOk, OnErr}
use Rattle.std.specs.Option.{is_some}
use Rattle.std.proofs.lemmas.List.{take-append-le, drop-append-le, length_push}
use Rattle.journal_values.specs.declared.notification.Notification.{Notification}
use Rattle.journal_values.specs.declared.notification.NotificationId.{NotificationId}
use Rattle.journal_values.specs.declared.notification.NotificationResult.{NotificationResult}
use Rattle.await_arrivals.specs.declared.log.Entry.{Entry}
use Rattle.await_arrivals.specs.Came.{Came}
use Rattle.await_arrivals.specs.Entries.{not_taken, given_by, all_given}

pub by_append : (i : NotificationId) (o : Option NotificationResult) (ns ms : List Notification) → given_by i o (ns ++ ms) ≡ given_by i o ns ++ ms
by_append i None ns ms = refl
by_append i (Some r) ns ms = refl

-- one more entry
pub given_push : (xs : List Entry) (e : Entry) → not_taken (xs ++ e ∷ []) ≡ not_taken xs ++ given_by e.id e.result []
given_push [] e = refl
given_push (x ∷ xs) e = ap (given_by x.id x.result) (given_push xs e) ∙ by_append x.id x.result (not_taken xs) (given_by e.id e.result [])

all_step : (a b c : Bool) → (b ≡ true → c ≡ true) → (a && b) ≡ true → (a && c) ≡ true
all_step true b c f h = f h
all_step false b c f h = h

all_push : (xs : List Entry) (e : Entry) → is_some e.result ≡ true → all_given xs ≡ true → all_given (xs ++ e ∷ []) ≡ true
all_push [] e s a = rw s refl
all_push (x ∷ xs) e s a = all_step (is_some x.result) (all_given xs) (all_given (xs ++ e ∷ [])) (all_push xs e s) a

-- ---- one notification more

-- the entry of a notification
abbrev pub entered : Notification → Entry
entered n = record { id = n.id; result = Some n.result }

pub record Grown (s : ℕ) (xs ys : List Entry) (n : Notification) : Type 0 where
  pub within : s ≤ length ys
  pub all : all_given (drop s ys) ≡ true
  pub queued : not_taken (drop s ys) ≡ not_taken (drop s xs) ++ n ∷ []
  pub delivered : not_taken (take s ys) ≡ not_taken (take s xs)

pub grown : (s : ℕ) (xs : List Entry) (n : Notification) → s ≤ length xs → all_given (drop s xs) ≡ true → Grown s xs (xs ++ entered n ∷ []) n
grown s xs n l a =
    let rest : drop s (xs ++ entered n ∷ []) ≡ drop s xs ++ entered n ∷ [] = drop-append-le s xs (entered n ∷ []) l in
    record {
      within = omega (arith, length_push xs (entered n));
      all = rw rest (all_push (drop s xs) (entered n) refl a);
      queued = rw rest (given_push (drop s xs) (entered n));
      delivered = ap not_taken (take-append-le s xs (entered n ∷ []) l);
    }

-- where a growth may be refused
pub grown_or_not : {E : Type 0} (s : ℕ) (xs ys : List Entry) (n : Notification) (answer : Result (Unit {0}) E) → s ≤ length xs → all_given (drop s xs) ≡ true
    → OnOk answer (ys ≡ xs ++ entered n ∷ []) → OnErr answer (ys ≡ xs) → (s ≤ length ys) × (all_given (drop s ys) ≡ true)
grown_or_not s xs ys n (Ok u) l a ok err = let g = grown s xs n l a in rw ok (g.within, g.all)
grown_or_not s xs ys n (Err u) l a ok err = rw err (l, a)

pub same_came : (v w : Came) → v.queued ≡ w.queued → v.delivered ≡ w.delivered → v ≡ w
same_came v w q d = λ i. record { queued = q i; delivered = d i }

-- what follows if there was memory
pub where_ok : {T E P Q : Type 0} (answer : Result T E) → (P → Q) → OnOk answer P → OnOk answer Q
where_ok (Ok v) f p = f p
where_ok (Err e) f p = tt

-- ---- one notification used

pub record Used (s : ℕ) (xs : List Entry) : Type 0 where
  pub arrival : Notification
  pub all : all_given (drop (suc s) xs) ≡ true
  pub queued : not_taken (drop s xs) ≡ arrival ∷ not_taken (drop (suc s) xs)
  pub delivered : not_taken (take (suc s) xs) ≡ not_taken (take s xs) ++ arrival ∷ []

use_first : (i : NotificationId) (o : Option NotificationResult) (xs : List Entry) → (is_some o && all_given xs) ≡ true → Used 0 ((let e : Entry = record { id = i; result = o } in e) ∷ xs)
use_first i None xs a = cc
use_first i (Some r) xs a = record { arrival = record { id = i; result = r }; all = a; queued = refl; delivered = refl }

use_later : (i : NotificationId) (o : Option NotificationResult) (s : ℕ) (xs : List Entry) → Used s xs → Used (suc s) ((let e : Entry = record { id = i; result = o } in e) ∷ xs)
use_later i o s xs u = record {
  arrival = u.arrival;
  all = u.all;
  queued = u.queued;
  delivered = ap (given_by i o) u.delivered ∙ by_append i o (not_taken (take s xs)) (u.arrival ∷ []);
}

pub used : (s : ℕ) (xs : List Entry) → s < length xs → all_given (drop s xs) ≡ true → Used s xs
used s [] l a = absurd (omega arith)
used zero (x ∷ xs) l a = use_first x.id x.result xs a
used (suc s) (x ∷ xs) l a = use_later x.id x.result s xs (used s xs (omega arith) a)
