-- A writer that takes some bytes after others.
use Rattle.std.proofs.Common.{ℕ, ◌+◌, ◌≤◌, List, ◌++◌, length, take, drop, Option, Some, None, sym, ap, ◌∙◌, subst}
use Rattle.std.proofs.Math.Seq.{take-add, take-length}
use Rattle.std.proofs.lemmas.List.{append-nil, append_assoc, take_all}
use Rattle.std.specs.Prelude.{Result, Ok, Err, OnErr}
use Rattle.std.specs.Io.KnownBytes.{Appends, Keeps}
use Rattle.program_runs.specs.Streams.{AppendsSome}

-- nothing yet
pub none_taken : (held : Option (List ℕ)) (bs : List ℕ) → Appends held held (take 0 bs)
none_taken None bs = tt
none_taken (Some xs) bs = sym (append-nil xs)

-- n more of them
pub some_more : (held now then : Option (List ℕ)) (bs : List ℕ) (at n : ℕ) → Appends held now (take at bs) → Appends now then (take n (drop at bs)) → Appends held then (take (at + n) bs)
some_more None now then bs at n h k = tt
some_more (Some xs) None then bs at n h k = absurd h
some_more (Some xs) (Some ys) None bs at n h k = absurd k
some_more (Some xs) (Some ys) (Some zs) bs at n h k =
    k ∙ ap (λ l. l ++ take n (drop at bs)) h ∙ append_assoc xs (take at bs) (take n (drop at bs)) ∙ ap (λ l. xs ++ l) (sym (take-add at n bs))

-- and no more
pub still_taken : (held now then : Option (List ℕ)) (bs : List ℕ) → Appends held now bs → Keeps now then → Appends held then bs
still_taken None now then bs h k = tt
still_taken (Some xs) None then bs h k = absurd h
still_taken (Some xs) (Some ys) None bs h k = absurd k
still_taken (Some xs) (Some ys) (Some zs) bs h k = k ∙ h

-- all of them
pub all_taken : (held now : Option (List ℕ)) (bs : List ℕ) (at : ℕ) → Appends held now (take at bs) → length bs ≤ at → Appends held now bs
all_taken held now bs at h k = subst (Appends held now) (take_all at bs k) h

-- a beginning
pub part_taken : (held now then : Option (List ℕ)) (bs : List ℕ) (at : ℕ) → Appends held now (take at bs) → Keeps now then → AppendsSome held then bs
part_taken held now then bs at h k = (at, still_taken held now then (take at bs) h k)

pub part_more : (held now then : Option (List ℕ)) (bs : List ℕ) (at n : ℕ) → Appends held now (take at bs) → Appends now then (take n (drop at bs)) → AppendsSome held then bs
part_more held now then bs at n h k = (at + n, some_more held now then bs at n h k)

part_of_all : (held now then : Option (List ℕ)) (bs : List ℕ) → Appends held now bs → Keeps now then → AppendsSome held then bs
part_of_all held now then bs h k = (length bs, subst (Appends held then) (sym (take-length bs)) (still_taken held now then bs h k))

-- a write that took nothing
pub kept_none : (held now : Option (List ℕ)) (bs : List ℕ) → Appends held now (take 0 bs) → Keeps held now
kept_none None now bs h = tt
kept_none (Some xs) None bs h = absurd h
kept_none (Some xs) (Some ys) bs h = h ∙ append-nil xs

pub none_kept : (held now : Option (List ℕ)) (bs : List ℕ) → Keeps held now → Appends held now (take 0 bs)
none_kept None now bs h = tt
none_kept (Some xs) None bs h = absurd h
none_kept (Some xs) (Some ys) bs h = h ∙ sym (append-nil xs)

-- all is written, and then a flush may fail
pub flushed : {A E : Type 0} (r : Result A E) (held now then : Option (List ℕ)) (bs : List ℕ) → Appends held now bs → Keeps now then → OnErr r (AppendsSome held then bs)
flushed (Ok x) held now then bs h k = tt
flushed (Err e) held now then bs h k = part_of_all held now then bs h k
