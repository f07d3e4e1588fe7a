-- The bytes of an outbox are cut into its frames by the lengths in them; one more frame is put
-- after the others.
use Rattle.std.proofs.Common.{◌≡◌, ℕ, zero, suc, ◌<◌, ◌≤◌, ◌^◌, List, [], ◌∷◌, ◌++◌, length, map, take, drop, refl, sym, ap, subst, ◌∙◌, append_assoc, length-append, arith, Result, Ok, Err}
use Rattle.std.proofs.lemmas.List.{append-nil, drop_at}
use Rattle.std.proofs.Math.Seq.{take-append_seam}
use Rattle.std.specs.Prelude.{IfOk, OnErr, OnOk}
use Rattle.std.specs.declared.alloc.AllocError.{AllocError}
use Rattle.std.specs.List.{concat, flat_map, AllByRecursion}
use Rattle.journal_protocol.specs.Message.{Message}
use Rattle.journal_protocol.specs.Frames.{IsWhole, body, encoding, frame_size, type_of}
use Rattle.journal_protocol.proofs.Facts.{frame_sized, frame_there}
use Rattle.vm_parts.specs.Outboxes.{WholeFrames, WholeStream, len_of, first_frames, frames_in}

pub all_whole : (ms ns : List Message) → AllByRecursion IsWhole ms → AllByRecursion IsWhole ns → AllByRecursion IsWhole (ms ++ ns)
all_whole [] ns a b = b
all_whole (m ∷ ms) ns a b = (a.0, all_whole ms ns a.1 b)

frames_of_both : (ms ns : List Message) → map encoding (ms ++ ns) ≡ map encoding ms ++ map encoding ns
frames_of_both [] ns = refl
frames_of_both (m ∷ ms) ns = ap (λ t. encoding m ∷ t) (frames_of_both ms ns)

bytes_of_both : (ms : List Message) (m : Message) → flat_map encoding (ms ++ m ∷ []) ≡ flat_map encoding ms ++ encoding m
bytes_of_both [] m = append-nil (encoding m)
bytes_of_both (x ∷ xs) m = rw (bytes_of_both xs m) (sym (append_assoc (encoding x) (flat_map encoding xs) (encoding m)))

-- frames, one after another
pub bytes_of : (ms : List Message) → concat (map encoding ms) ≡ flat_map encoding ms
bytes_of [] = refl
bytes_of (m ∷ ms) = ap (λ t. encoding m ++ t) (bytes_of ms)

-- ---- where a frame ends

front_is : (m : Message) (rest : List ℕ) → IsWhole m → frame_size (encoding m ++ rest) ≡ length (encoding m)
front_is m rest w = frame_sized (type_of m) (body m) rest w.1

some : (m : Message) → 0 < length (encoding m)
some m = frame_there (type_of m) (body m)

one_apart : (n : ℕ) (bytes front rest : List ℕ) → bytes ≡ front ++ rest → 0 < length front → frame_size bytes ≡ length front → first_frames (suc n) bytes ≡ front ∷ first_frames n rest
one_apart n [] front rest e p l = absurd (omega (arith, ap length e, length-append front rest))
one_apart n (b ∷ bs) front rest e p l =
    rw (l) (
    ap (λ t. t ∷ first_frames n (drop (length front) (b ∷ bs))) (ap (take (length front)) e ∙ take-append_seam front rest)
    ∙ ap (λ t. front ∷ first_frames n t) (ap (drop (length front)) e ∙ drop_at front rest (length front) refl))

apart : (n : ℕ) (ms : List Message) → AllByRecursion IsWhole ms → length (flat_map encoding ms) ≤ n → first_frames n (flat_map encoding ms) ≡ map encoding ms
apart zero [] w l = refl
apart (suc n) [] w l = refl
apart zero (m ∷ ms) w l = absurd (omega (arith, length-append (encoding m) (flat_map encoding ms), some m))
apart (suc n) (m ∷ ms) w l =
    one_apart n (encoding m ++ flat_map encoding ms) (encoding m) (flat_map encoding ms) refl (omega (arith, some m)) (front_is m (flat_map encoding ms) w.0)
    ∙ ap (λ t. encoding m ∷ t) (apart n ms w.1 (omega (arith, length-append (encoding m) (flat_map encoding ms), some m)))

-- ---- the frames of a stream

frames_are : (stream : List ℕ) (w : WholeStream stream) → frames_in stream ≡ map encoding w.messages
unfolding frames_in
frames_are stream w = ap (λ s. first_frames (length s) s) w.are ∙ apart (length (flat_map encoding w.messages)) w.messages w.each (omega arith)

pub whole_frames : (stream : List ℕ) → WholeStream stream → WholeFrames (frames_in stream)
whole_frames stream w = record { messages = w.messages; are = frames_are stream w; each = w.each }

-- the bytes are those of the frames
pub joined : (stream : List ℕ) → WholeStream stream → stream ≡ concat (frames_in stream)
joined stream w = w.are ∙ sym (bytes_of w.messages) ∙ sym (ap concat (frames_are stream w))

-- their length, which a usize holds
pub len_is : (stream : List ℕ) → WholeStream stream → length stream < 2 ^ 64 → length stream ≡ len_of (frames_in stream)
len_is stream w l = omega (arith, ap length (joined stream w))

-- no bytes are no frames
pub no_frames : (stream : List ℕ) → stream ≡ [] → frames_in stream ≡ []
unfolding frames_in
no_frames stream e = ap frames_in e

-- the frames' bytes, where these were copied
pub copied : (stream : List ℕ) (r : Result (List ℕ) AllocError) → WholeStream stream → IfOk r (λ b. b ≡ stream) → IfOk r (λ b. b ≡ concat (frames_in stream))
copied stream (Ok b) w is = is ∙ joined stream w
copied stream (Err e) w is = tt

stream_more : (stream : List ℕ) (m : Message) → WholeStream stream → IsWhole m → WholeStream (stream ++ encoding m)
stream_more stream m w whole = record {
  messages = w.messages ++ m ∷ [];
  are = ap (λ t. t ++ encoding m) w.are ∙ sym (bytes_of_both w.messages m);
  each = all_whole w.messages (m ∷ []) w.each (whole, tt);
}

frames_more : (stream : List ℕ) (m : Message) → WholeStream stream → IsWhole m → frames_in (stream ++ encoding m) ≡ frames_in stream ++ encoding m ∷ []
unfolding stream_more
frames_more stream m w whole =
    frames_are (stream ++ encoding m) (stream_more stream m w whole)
    ∙ frames_of_both w.messages (m ∷ [])
    ∙ ap (λ t. t ++ encoding m ∷ []) (sym (frames_are stream w))

-- one frame more, or none after an error
module _ (old new : List ℕ) (m : Message) (w : WholeStream old) where
  pub stays_whole : (r : Result Unit AllocError) → OnOk r (new ≡ old ++ encoding m) → OnOk r (IsWhole m) → OnErr r (new ≡ old) → WholeStream new
  stays_whole (Ok u) is whole kept = subst WholeStream (sym is) (stream_more old m w whole)
  stays_whole (Err x) is whole kept = subst WholeStream (sym kept) w

  pub one_more : (r : Result Unit AllocError) → OnOk r (new ≡ old ++ encoding m) → OnOk r (IsWhole m) → OnOk r (frames_in new ≡ frames_in old ++ encoding m ∷ [])
  one_more (Ok u) is whole = ap frames_in is ∙ frames_more old m w whole
  one_more (Err x) is whole = tt

  pub none_more : (r : Result Unit AllocError) → OnErr r (new ≡ old) → OnErr r (frames_in new ≡ frames_in old)
  none_more (Ok u) kept = tt
  none_more (Err x) kept = ap frames_in kept
