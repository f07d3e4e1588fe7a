-- A frame whose length is written after its body, and how long a frame is.
use Rattle.std.proofs.Common.{◌≡◌, ◌≤◌, ◌<◌, ◌+◌, ◌-◌, ◌^◌, ℕ, List, ◌++◌, length, take, drop, ap, sym, ◌∙◌, append_assoc, length-append, arith}
use Rattle.std.proofs.lemmas.Nat.{from_be_bytes-to_be_bytes_8}
use Rattle.std.proofs.Math.Seq.{take-append_seam}
use Rattle.std.specs.Int.{w64, from_be_bytes}
use Rattle.wire.specs.Format.{u16s, u64s, bytes}
use Rattle.journal_errors.specs.Types.{type_number}
use Rattle.journal_errors.specs.declared.types.MessageType.{MessageType}
use Rattle.journal_messages.specs.Message.{frame, frame_size}

-- a number and a length stand before the body
pub has_head : (n len : ℕ) (body : List ℕ) → 10 ≤ length ((u16s n ++ u64s len) ++ body)
unfolding u16s u64s
has_head n len body = omega arith

pub framed : (n len : ℕ) (body : List ℕ) → let all : List ℕ = (u16s n ++ u64s len) ++ body in take 2 all ++ (u64s (length all - 10) ++ drop 10 all) ≡ u16s n ++ (u64s (length body) ++ body)
unfolding u16s u64s
framed n len body =
    let rest : length ((u16s n ++ u64s len) ++ body) - 10 ≡ length body = omega arith in
    ap (λ k. u16s n ++ (u64s k ++ body)) rest

-- ---- how long a frame is

pub frame_length : (ty : MessageType) (b : List ℕ) → length (frame ty b) ≡ 10 + length b
unfolding u16s u64s bytes
frame_length ty b = omega (arith, length-append (u64s (length b)) b)

pub frame_there : (ty : MessageType) (b : List ℕ) → 0 < length (frame ty b)
frame_there ty b = omega (arith, frame_length ty b)

-- a number in two bytes, a length in eight, and what follows
size_of_parts : (n len : ℕ) (rest : List ℕ) → len < 2 ^ 64 → frame_size (u16s n ++ (u64s len ++ rest)) ≡ 10 + len
unfolding u16s u64s frame_size
size_of_parts n len rest l = ap (λ k. 10 + k) (ap (from_be_bytes w64) (take-append_seam (u64s len) rest) ∙ from_be_bytes-to_be_bytes_8 len l)

parts : (n : ℕ) (b rest : List ℕ) → (u16s n ++ bytes b) ++ rest ≡ u16s n ++ (u64s (length b) ++ (b ++ rest))
unfolding bytes
parts n b rest = append_assoc (u16s n) (u64s (length b) ++ b) rest ∙ ap (λ t. u16s n ++ t) (append_assoc (u64s (length b)) b rest)

pub frame_sized : (ty : MessageType) (b rest : List ℕ) → length b < 2 ^ 64 → frame_size (frame ty b ++ rest) ≡ length (frame ty b)
frame_sized ty b rest l =
    ap frame_size (parts (type_number ty) b rest)
    ∙ size_of_parts (type_number ty) (length b) (b ++ rest) l
    ∙ sym (frame_length ty b)
