-- What a stream's first frame is doesn't change when more bytes come.
use Rattle.std.proofs.Common.{◌≡◌, ℕ, ◌<◌, ◌≤◌, ◌^◌, Bool, true, false, List, [], ◌++◌, length, take, drop, Option, Some, None, refl, sym, ap, ◌∙◌, arith}
use Rattle.std.specs.Prelude.{nat_lt, if◌then◌else◌}
use Rattle.std.specs.Int.{w16, w64, from_be_bytes}
use Rattle.std.proofs.lemmas.List.{length-append, length-drop, take-append-le, drop-append-le}
use Rattle.std.proofs.lemmas.Bool.Decides.{nat_tests}
use Rattle.std.proofs.Math.Seq.{drop-append_seam, take-append_seam}
use Rattle.wire.specs.Format.{u64s}
use Rattle.journal_errors.specs.Types.{type_at, type_number}
use Rattle.journal_messages.specs.Message.{frame}
use Rattle.journal_errors.specs.declared.types.MessageType.{MessageType}
use Rattle.journal_messages.specs.declared.message.RawMessage.{RawMessage}
use Rattle.journal_messages.specs.Frames.{NextFrame, Whole, Partial, Malformed, number_in, size_in, framed, framed_by_type, next_of}
use Rattle.journal_messages.proofs.Numbers.{small_number, type_found}
use Rattle.journal_messages.proofs.Frames.{frame_parts, next_typed, typed_long, framed_long, next_framed}

abbrev and_more : NextFrame → List ℕ → NextFrame
and_more (Whole raw rest) ys = Whole raw (rest ++ ys)
and_more Partial ys = Partial
and_more Malformed ys = Malformed

abbrev rest_in : NextFrame → List ℕ
rest_in (Whole raw rest) = rest
rest_in Partial = []
rest_in Malformed = []

is_whole : (b : Bool) (x : NextFrame) (raw : RawMessage) (rest : List ℕ) → (if b then Partial else x) ≡ Whole raw rest → (b ≡ false) × (x ≡ Whole raw rest)
is_whole true x raw rest e = absurd cc
is_whole false x raw rest e = (refl, e)

is_malformed : (b : Bool) (x : NextFrame) → (if b then Partial else x) ≡ Malformed → (b ≡ false) × (x ≡ Malformed)
is_malformed true x e = absurd cc
is_malformed false x e = (refl, e)

whole_known : (raw : RawMessage) (rest : List ℕ) → Whole raw rest ≡ Malformed → ⊥
whole_known raw rest e = cc

next_is : (bs : List ℕ) → next_of bs ≡ (if nat_lt (length bs) 2 then Partial else framed_by_type (type_at (number_in bs)) bs)
unfolding next_of
next_is bs = refl

not_less : (m n : ℕ) → nat_lt m n ≡ false → n ≤ m
not_less m n e = grind (arith, nat_tests)

framed_more : (ty : MessageType) (n : ℕ) (bs ys : List ℕ) (raw : RawMessage) (rest : List ℕ) → framed ty n bs ≡ Whole raw rest → framed ty n (bs ++ ys) ≡ Whole raw (rest ++ ys)
framed_more ty n bs ys raw rest e =
    let h = is_whole (nat_lt (length bs) n) (Whole (record { ty = ty; body = take n bs }) (drop n bs)) raw rest e in
    let l = not_less (length bs) n h.0 in
    framed_long ty n (bs ++ ys) (omega (arith, length-append bs ys, l))
    ∙ ap (λ t. Whole (record { ty = ty; body = t }) (drop n (bs ++ ys))) (take-append-le n bs ys l)
    ∙ ap (Whole (record { ty = ty; body = take n bs })) (drop-append-le n bs ys l)
    ∙ ap (λ t. and_more t ys) h.1

number_more : (bs ys : List ℕ) → 2 ≤ length bs → number_in (bs ++ ys) ≡ number_in bs
number_more bs ys l = ap (from_be_bytes w16) (take-append-le 2 bs ys l)

size_more : (bs ys : List ℕ) → 10 ≤ length bs → size_in (bs ++ ys) ≡ size_in bs
size_more bs ys l =
    ap (λ t. from_be_bytes w64 (take 8 t)) (drop-append-le 2 bs ys (omega (arith, l)))
    ∙ ap (from_be_bytes w64) (take-append-le 8 (drop 2 bs) ys (omega (arith, length-drop 2 bs, l)))

typed_more : (o : Option MessageType) (bs ys : List ℕ) (raw : RawMessage) (rest : List ℕ) → framed_by_type o bs ≡ Whole raw rest → framed_by_type o (bs ++ ys) ≡ Whole raw (rest ++ ys)
typed_more None bs ys raw rest e = absurd cc
typed_more (Some ty) bs ys raw rest e =
    let h = is_whole (nat_lt (length bs) 10) (framed ty (size_in bs) (drop 10 bs)) raw rest e in
    let l = not_less (length bs) 10 h.0 in
    typed_long ty (bs ++ ys) (omega (arith, length-append bs ys, l))
    ∙ ap (λ n. framed ty n (drop 10 (bs ++ ys))) (size_more bs ys l)
    ∙ ap (framed ty (size_in bs)) (drop-append-le 10 bs ys l)
    ∙ framed_more ty (size_in bs) (drop 10 bs) ys raw rest h.1

typed_unknown : (o : Option MessageType) (bs ys : List ℕ) → framed_by_type o bs ≡ Malformed → framed_by_type o (bs ++ ys) ≡ Malformed
typed_unknown None bs ys e = refl
typed_unknown (Some ty) bs ys e =
    let h = is_malformed (nat_lt (length bs) 10) (framed ty (size_in bs) (drop 10 bs)) e in
    let k = is_malformed (nat_lt (length (drop 10 bs)) (size_in bs)) (Whole (record { ty = ty; body = take (size_in bs) (drop 10 bs) }) (drop (size_in bs) (drop 10 bs))) h.1 in
    absurd (whole_known (record { ty = ty; body = take (size_in bs) (drop 10 bs) }) (drop (size_in bs) (drop 10 bs)) k.1)

-- a whole frame stays the first one
pub whole_more : (bs ys : List ℕ) (raw : RawMessage) (rest : List ℕ) → next_of bs ≡ Whole raw rest → next_of (bs ++ ys) ≡ Whole raw (rest ++ ys)
whole_more bs ys raw rest e =
    let h = is_whole (nat_lt (length bs) 2) (framed_by_type (type_at (number_in bs)) bs) raw rest (sym (next_is bs) ∙ e) in
    let l = not_less (length bs) 2 h.0 in
    next_typed (bs ++ ys) (type_at (number_in bs)) (omega (arith, length-append bs ys, l)) (ap type_at (number_more bs ys l))
    ∙ typed_more (type_at (number_in bs)) bs ys raw rest h.1

-- a number that is no type's stays
pub malformed_more : (bs ys : List ℕ) → next_of bs ≡ Malformed → next_of (bs ++ ys) ≡ Malformed
malformed_more bs ys e =
    let h = is_malformed (nat_lt (length bs) 2) (framed_by_type (type_at (number_in bs)) bs) (sym (next_is bs) ∙ e) in
    let l = not_less (length bs) 2 h.0 in
    next_typed (bs ++ ys) (type_at (number_in bs)) (omega (arith, length-append bs ys, l)) (ap type_at (number_more bs ys l))
    ∙ typed_unknown (type_at (number_in bs)) bs ys h.1

framed_shorter : (ty : MessageType) (n : ℕ) (bs : List ℕ) (raw : RawMessage) (rest : List ℕ) → framed ty n bs ≡ Whole raw rest → length rest ≤ length bs
framed_shorter ty n bs raw rest e =
    let h = is_whole (nat_lt (length bs) n) (Whole (record { ty = ty; body = take n bs }) (drop n bs)) raw rest e in
    omega (arith, ap (λ t. length (rest_in t)) h.1, length-drop n bs)

typed_shorter : (o : Option MessageType) (bs : List ℕ) (raw : RawMessage) (rest : List ℕ) → framed_by_type o bs ≡ Whole raw rest → length rest < length bs
typed_shorter None bs raw rest e = absurd cc
typed_shorter (Some ty) bs raw rest e =
    let h = is_whole (nat_lt (length bs) 10) (framed ty (size_in bs) (drop 10 bs)) raw rest e in
    omega (arith, not_less (length bs) 10 h.0, framed_shorter ty (size_in bs) (drop 10 bs) raw rest h.1, length-drop 10 bs)

-- what comes after a frame is shorter
pub whole_shorter : (bs : List ℕ) (raw : RawMessage) (rest : List ℕ) → next_of bs ≡ Whole raw rest → length rest < length bs
whole_shorter bs raw rest e =
    typed_shorter (type_at (number_in bs)) bs raw rest (is_whole (nat_lt (length bs) 2) (framed_by_type (type_at (number_in bs)) bs) raw rest (sym (next_is bs) ∙ e)).1

-- a frame is the first one of bytes that begin with it
pub whole_spelled : (ty : MessageType) (b rest : List ℕ) → length b < 2 ^ 64 → next_of (frame ty b ++ rest) ≡ Whole (record { ty = ty; body = b }) rest
whole_spelled ty b rest l =
    let n = type_number ty in
    next_framed (frame ty b ++ rest) (u64s (length b) ++ (b ++ rest)) (b ++ rest) n ty (length b) (small_number ty) (sym (type_found ty)) (frame_parts n b rest) l refl
    ∙ framed_long ty (length b) (b ++ rest) (omega (arith, length-append b rest))
    ∙ ap (λ t. Whole (record { ty = ty; body = t }) (drop (length b) (b ++ rest))) (take-append_seam b rest)
    ∙ ap (Whole (record { ty = ty; body = b })) (drop-append_seam b rest)
