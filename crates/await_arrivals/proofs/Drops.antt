-- Entries whose results were taken are dropped.
use Rattle.std.proofs.Common.{◌≡◌, ℕ, ◌+◌, ◌-◌, ◌<◌, ◌≤◌, Bool, true, false, cond, List, [], ◌∷◌, ◌++◌, length, take, drop, get_or, Option, Some, None, Result, Ok, Err, refl, sym, ap, ◌∙◌, arith, append-nil}
use Rattle.std.specs.Prelude.{◌&&◌, IsSome, OnOk, OnErr}
use Rattle.std.specs.Option.{is_some}
use Rattle.std.proofs.Math.Seq.{take-length, drop-append_seam, take-append_seam}
use Rattle.std.proofs.lemmas.List.{take-append-drop, length-append, length-drop, take_more}
use Rattle.journal_values.specs.declared.notification.NotificationId.{NotificationId}
use Rattle.journal_values.specs.declared.notification.NotificationResult.{NotificationResult}
use Rattle.await_arrivals.specs.declared.log.Entry.{Entry}
use Rattle.await_arrivals.specs.Entries.{not_taken, given_by, all_given, with_results}

-- ---- nothing that was not taken is lost

given_at : (i : NotificationId) (o : Option NotificationResult) (xs : List Entry) → not_taken (with_results xs) ≡ not_taken xs
    → not_taken (cond (is_some o) ((let e : Entry = record { id = i; result = o } in e) ∷ with_results xs) (with_results xs)) ≡ given_by i o (not_taken xs)
given_at i None xs h = h
given_at i (Some r) xs h = ap (λ ns. record { id = i; result = r } ∷ ns) h

pub given_kept : (xs : List Entry) → not_taken (with_results xs) ≡ not_taken xs
given_kept [] = refl
given_kept (x ∷ xs) = given_at x.id x.result xs (given_kept xs)

all_at : (i : NotificationId) (o : Option NotificationResult) (xs : List Entry) → (all_given xs ≡ true → with_results xs ≡ xs) → (is_some o && all_given xs) ≡ true
    → cond (is_some o) ((let e : Entry = record { id = i; result = o } in e) ∷ with_results xs) (with_results xs) ≡ (let e : Entry = record { id = i; result = o } in e) ∷ xs
all_at i None xs h a = cc
all_at i (Some r) xs h a = ap (λ ys. (let e : Entry = record { id = i; result = Some r } in e) ∷ ys) (h a)

-- if memory for it may be refused
pub kept_or_not : {T E : Type 0} (answer : Result T E) (xs ys : List Entry) → OnOk answer (ys ≡ with_results xs) → OnErr answer (ys ≡ xs) → not_taken ys ≡ not_taken xs
kept_or_not (Ok u) xs ys ok err = ap not_taken ok ∙ given_kept xs
kept_or_not (Err u) xs ys ok err = ap not_taken err

-- if none was taken, none is dropped
all_kept : (xs : List Entry) → all_given xs ≡ true → with_results xs ≡ xs
all_kept [] a = refl
all_kept (x ∷ xs) a = all_at x.id x.result xs (all_kept xs) a

append_at : (b : Bool) (x : Entry) (us vs ws : List Entry) → us ≡ vs ++ ws → cond b (x ∷ us) us ≡ cond b (x ∷ vs) vs ++ ws
append_at true x us vs ws e = ap (λ zs. x ∷ zs) e
append_at false x us vs ws e = e

kept_append : (xs ys : List Entry) → with_results (xs ++ ys) ≡ with_results xs ++ with_results ys
kept_append [] ys = refl
kept_append (x ∷ xs) ys = append_at (is_some x.result) x (with_results (xs ++ ys)) (with_results xs) (with_results ys) (kept_append xs ys)

-- ---- one entry after another

is_read : (xs : List Entry) (i : ℕ) (x : Entry) → i < length xs → x ≡ get_or xs i x → take (i + 1) xs ≡ take i xs ++ x ∷ []
is_read xs i x l e = take_more xs i x l ∙ ap (λ (y : Entry). take i xs ++ y ∷ []) (sym e)

pub kept_more : (xs : List Entry) (i : ℕ) (x : Entry) → i < length xs → x ≡ get_or xs i x → is_some x.result ≡ true → with_results (take (i + 1) xs) ≡ with_results (take i xs) ++ x ∷ []
kept_more xs i x l e s =
    ap with_results (is_read xs i x l e) ∙ kept_append (take i xs) (x ∷ []) ∙ ap (λ (b : Bool). with_results (take i xs) ++ cond b (x ∷ []) []) s

pub kept_same : (xs : List Entry) (i : ℕ) (x : Entry) → i < length xs → x ≡ get_or xs i x → is_some x.result ≡ false → with_results (take (i + 1) xs) ≡ with_results (take i xs)
kept_same xs i x l e s =
    ap with_results (is_read xs i x l e) ∙ kept_append (take i xs) (x ∷ []) ∙ ap (λ (b : Bool). with_results (take i xs) ++ cond b (x ∷ []) []) s ∙ append-nil (with_results (take i xs))

pub kept_whole : (xs : List Entry) (n : ℕ) → n ≡ length xs → with_results (take n xs) ≡ with_results xs
kept_whole xs n e = ap (λ k. with_results (take k xs)) e ∙ ap with_results (take-length xs)

pub some_if : (e : Entry) → is_some e.result ≡ true → IsSome e.result
some_if e h = go e.result h
  where
    go : (o : Option NotificationResult) → is_some o ≡ true → IsSome o
    go None h = cc
    go (Some r) h = refl

-- ---- the used ones, and those that wait

pub record Dropped (s : ℕ) (xs ys : List Entry) (n : ℕ) : Type 0 where
  pub enough : length xs - s ≤ length ys
  pub within : n ≤ length ys
  pub all : all_given (drop n ys) ≡ true
  pub queued : not_taken (drop n ys) ≡ not_taken (drop s xs)
  pub delivered : not_taken (take n ys) ≡ not_taken (take s xs)

module _ (s : ℕ) (xs ys : List Entry) (l : s ≤ length xs) (a : all_given (drop s xs) ≡ true) (is : ys ≡ with_results xs) where
  parts : ys ≡ with_results (take s xs) ++ drop s xs
  parts =
      is ∙ ap with_results (sym (take-append-drop s xs)) ∙ kept_append (take s xs) (drop s xs)
      ∙ ap (λ zs. with_results (take s xs) ++ zs) (all_kept (drop s xs) a)

  long : length ys ≡ length (with_results (take s xs)) + (length xs - s)
  long = ap length parts ∙ length-append (with_results (take s xs)) (drop s xs) ∙ ap (λ k. length (with_results (take s xs)) + k) (length-drop s xs)

  pub dropped : (n : ℕ) → n ≡ length ys - (length xs - s) → Dropped s xs ys n
  dropped n e =
      let seen : n ≡ length (with_results (take s xs)) = omega (arith, long) in
      let rest : drop n ys ≡ drop s xs = ap (λ k. drop k ys) seen ∙ ap (drop (length (with_results (take s xs)))) parts ∙ drop-append_seam (with_results (take s xs)) (drop s xs) in
      let front : take n ys ≡ with_results (take s xs) = ap (λ k. take k ys) seen ∙ ap (take (length (with_results (take s xs)))) parts ∙ take-append_seam (with_results (take s xs)) (drop s xs) in
      record {
        enough = omega (arith, long);
        within = omega (arith, long);
        all = ap all_given rest ∙ a;
        queued = ap not_taken rest;
        delivered = ap not_taken front ∙ given_kept (take s xs);
      }
