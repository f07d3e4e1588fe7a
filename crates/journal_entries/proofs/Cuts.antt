-- The frames of some bytes, the first of them, and the frames of two pieces.
use Rattle.std.proofs.Common.{◌≡◌, ℕ, zero, suc, ◌≤◌, List, [], ◌∷◌, ◌++◌, length, sym, ap, refl, ◌∙◌, arith}
use Rattle.journal_entries.specs.Frames.{Tail, Rest, Garbage, frames_by, frames_from, frames_of, frames_joined}
use Rattle.journal_protocol.specs.RawMessage.{RawMessage}
use Rattle.journal_protocol.specs.Frames.{NextFrame, Whole, Partial, Malformed, next_of}
use Rattle.journal_protocol.proofs.Facts.{malformed_more, nothing_is_partial, whole_more, whole_shorter}

no_bytes : (a : List ℕ) → length a ≤ 0 → a ≡ []
no_bytes [] h = refl
no_bytes (x ∷ xs) h = absurd (omega arith)

no_frame : (m : ℕ) → frames_by m [] ≡ ([], Rest [])
no_frame zero = refl
no_frame (suc m) = rw nothing_is_partial refl

from_enough : (n m : ℕ) (a : List ℕ) (o : NextFrame) → next_of a ≡ o → length a ≤ suc n → length a ≤ suc m → ((b : List ℕ) → length b ≤ n → length b ≤ m → frames_by n b ≡ frames_by m b)
    → frames_from o (λ rest. frames_by n rest) a ≡ frames_from o (λ rest. frames_by m rest) a
from_enough n m a (Whole raw rest) e h k more =
    let s = whole_shorter a raw rest e in
    ap (λ (r : List RawMessage × Tail). (raw ∷ r.0, r.1)) (more rest (omega arith) (omega arith))
from_enough n m a Partial e h k more = refl
from_enough n m a Malformed e h k more = refl

by_enough : (n m : ℕ) (a : List ℕ) → length a ≤ n → length a ≤ m → frames_by n a ≡ frames_by m a
by_enough zero m a h k = rw (no_bytes a h) (sym (no_frame m))
by_enough (suc n) zero a h k = rw (no_bytes a k) (no_frame (suc n))
by_enough (suc n) (suc m) a h k = from_enough n m a (next_of a) refl h k (λ b i j. by_enough n m b i j)

of_enough : (n : ℕ) (a : List ℕ) (o : NextFrame) → next_of a ≡ o → length a ≤ suc n → frames_from o (λ rest. frames_by n rest) a ≡ frames_from o (λ rest. frames_of rest) a
unfolding frames_of
of_enough n a (Whole raw rest) e h =
    let s = whole_shorter a raw rest e in
    ap (λ (r : List RawMessage × Tail). (raw ∷ r.0, r.1)) (by_enough n (length rest) rest (omega arith) (omega arith))
of_enough n a Partial e h = refl
of_enough n a Malformed e h = refl

-- the frames, by the first one
pub frames_of-next : (a : List ℕ) → frames_of a ≡ frames_from (next_of a) (λ rest. frames_of rest) a
unfolding frames_of
frames_of-next [] = rw nothing_is_partial refl
frames_of-next (x ∷ xs) = of_enough (length xs) (x ∷ xs) (next_of (x ∷ xs)) refl (omega arith)

frames_of_none : frames_of [] ≡ ([], Rest [])
unfolding frames_of
frames_of_none = refl

joined_behind : (raw : RawMessage) (p : List RawMessage × Tail) (b : List ℕ) → frames_joined (raw ∷ p.0, p.1) b ≡ (raw ∷ (frames_joined p b).0, (frames_joined p b).1)
joined_behind raw (frames, Rest bytes) b = refl
joined_behind raw (frames, Garbage) b = refl

cut_at : (n : ℕ) (a b : List ℕ) (o : NextFrame) → next_of a ≡ o → length a ≤ suc n → ((c : List ℕ) → length c ≤ n → frames_of (c ++ b) ≡ frames_joined (frames_of c) b)
    → frames_of (a ++ b) ≡ frames_joined (frames_of a) b
cut_at n a b (Whole raw rest) e h more =
    let s = whole_shorter a raw rest e in
    rw (frames_of-next a, e, frames_of-next (a ++ b), whole_more a b raw rest e)
    (ap (λ (r : List RawMessage × Tail). (raw ∷ r.0, r.1)) (more rest (omega arith)) ∙ sym (joined_behind raw (frames_of rest) b))
cut_at n a b Partial e h more = rw (frames_of-next a, e) refl
cut_at n a b Malformed e h more = rw (frames_of-next a, e, frames_of-next (a ++ b), malformed_more a b e) refl

cut_by : (n : ℕ) (a b : List ℕ) → length a ≤ n → frames_of (a ++ b) ≡ frames_joined (frames_of a) b
cut_by zero a b h = rw (no_bytes a h, frames_of_none) refl
cut_by (suc n) a b h = cut_at n a b (next_of a) refl h (λ c k. cut_by n c b k)

pub frames_of-append : (a b : List ℕ) → frames_of (a ++ b) ≡ frames_joined (frames_of a) b
frames_of-append a b = cut_by (length a) a b (omega arith)
