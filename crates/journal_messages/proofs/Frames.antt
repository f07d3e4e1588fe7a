-- When a frame is whole, and when it isn't.
use Rattle.std.proofs.Common.{◌≡◌, ℕ, ◌<◌, ◌≤◌, ◌+◌, ◌^◌, List, ◌++◌, length, take, drop, Option, Some, None, refl, sym, ap, ◌∙◌, append_assoc, arith}
use Rattle.std.specs.Int.{w16, w64, from_be_bytes}
use Rattle.std.proofs.lemmas.List.{length-append, length-take, take-append-drop, drop-take, drop_at}
use Rattle.std.proofs.lemmas.Nat.{from_be_bytes-to_be_bytes_2, from_be_bytes-to_be_bytes_8}
use Rattle.std.proofs.lemmas.Bool.Decides.{nat_tests}
use Rattle.std.proofs.Math.Seq.{take-append_seam}
use Rattle.wire.specs.Format.{u16s, u64s, bytes}
use Rattle.wire.specs.Forms.{u16_format, u64_format}
use Rattle.wire.proofs.Read.{one_form}
use Rattle.journal_errors.specs.Types.{type_number, type_at}
use Rattle.journal_errors.specs.declared.types.MessageType.{MessageType}
use Rattle.journal_messages.specs.Stream.{IsPart, IsMalformed, IsFirstFrame}
use Rattle.journal_messages.specs.Frames.{Whole, Partial, Malformed, number_in, size_in, framed, framed_by_type, next_of}
use Rattle.journal_messages.proofs.Numbers.{small_number}

two : (n : ℕ) → length (u16s n) ≡ 2
unfolding u16s
two n = refl

eight : (n : ℕ) → length (u64s n) ≡ 8
unfolding u64s
eight n = refl

bytes_is : (b : List ℕ) → bytes b ≡ u64s (length b) ++ b
unfolding bytes
bytes_is b = refl

pub frame_parts : (n : ℕ) (b rest : List ℕ) → (u16s n ++ bytes b) ++ rest ≡ u16s n ++ (u64s (length b) ++ (b ++ rest))
frame_parts n b rest = ap (λ t. (u16s n ++ t) ++ rest) (bytes_is b) ∙ append_assoc (u16s n) (u64s (length b) ++ b) rest ∙ ap (λ t. u16s n ++ t) (append_assoc (u64s (length b)) b rest)

number_long : (bs rest : List ℕ) (n : ℕ) → bs ≡ u16s n ++ rest → length bs ≡ 2 + length rest
number_long bs rest n e = omega (arith, ap length e, length-append (u16s n) rest, two n)

size_long : (rest after : List ℕ) (len : ℕ) → rest ≡ u64s len ++ after → length rest ≡ 8 + length after
size_long rest after len e = omega (arith, ap length e, length-append (u64s len) after, eight len)

front_number : (n : ℕ) (rest : List ℕ) → n < 2 ^ 16 → number_in (u16s n ++ rest) ≡ n
unfolding u16s
front_number n rest l = ap (from_be_bytes w16) (take-append_seam (u16s n) rest) ∙ from_be_bytes-to_be_bytes_2 n l

number_read : (bs rest : List ℕ) (n : ℕ) → n < 2 ^ 16 → bs ≡ u16s n ++ rest → number_in bs ≡ n
number_read bs rest n l e = ap number_in e ∙ front_number n rest l

behind_number : (n : ℕ) (rest : List ℕ) → drop 2 (u16s n ++ rest) ≡ rest
behind_number n rest = drop_at (u16s n) rest 2 (two n)

front_size : (n : ℕ) (rest : List ℕ) → n < 2 ^ 64 → from_be_bytes w64 (take 8 (u64s n ++ rest)) ≡ n
unfolding u64s
front_size n rest l = ap (from_be_bytes w64) (take-append_seam (u64s n) rest) ∙ from_be_bytes-to_be_bytes_8 n l

size_read : (bs rest after : List ℕ) (n len : ℕ) → len < 2 ^ 64 → bs ≡ u16s n ++ rest → rest ≡ u64s len ++ after → size_in bs ≡ len
size_read bs rest after n len l e f =
    ap size_in e ∙ ap (λ t. from_be_bytes w64 (take 8 t)) (behind_number n rest ∙ f) ∙ front_size len after l

body_read : (bs rest after : List ℕ) (n len : ℕ) → bs ≡ u16s n ++ rest → rest ≡ u64s len ++ after → drop 10 bs ≡ after
body_read bs rest after n len e f =
    let g : bs ≡ (u16s n ++ u64s len) ++ after = e ∙ ap (λ t. u16s n ++ t) f ∙ sym (append_assoc (u16s n) (u64s len) after) in
    ap (drop 10) g ∙ drop_at (u16s n ++ u64s len) after 10 (omega (arith, length-append (u16s n) (u64s len), two n, eight len))

-- ---- next_of, step by step

pub next_short : (bs : List ℕ) → length bs < 2 → next_of bs ≡ Partial
unfolding next_of
next_short bs l = grind (arith, nat_tests)

pub next_typed : (bs : List ℕ) (o : Option MessageType) → 2 ≤ length bs → type_at (number_in bs) ≡ o → next_of bs ≡ framed_by_type o bs
unfolding next_of
next_typed bs o l e = rw e (grind (arith, nat_tests))

typed_short : (ty : MessageType) (bs : List ℕ) → length bs < 10 → framed_by_type (Some ty) bs ≡ Partial
typed_short ty bs l = grind (arith, nat_tests)

pub typed_long : (ty : MessageType) (bs : List ℕ) → 10 ≤ length bs → framed_by_type (Some ty) bs ≡ framed ty (size_in bs) (drop 10 bs)
typed_long ty bs l = grind (arith, nat_tests)

framed_short : (ty : MessageType) (n : ℕ) (bs : List ℕ) → length bs < n → framed ty n bs ≡ Partial
framed_short ty n bs l = grind (arith, nat_tests)

pub framed_long : (ty : MessageType) (n : ℕ) (bs : List ℕ) → n ≤ length bs → framed ty n bs ≡ Whole (record { ty = ty; body = take n bs }) (drop n bs)
framed_long ty n bs l = grind (arith, nat_tests)

-- ---- what is not there yet

pub no_type : (bs : List ℕ) → length bs < 2 → IsPart bs × (next_of bs ≡ Partial)
no_type bs l = (
  record {
    no_frame = λ ty b rest f e. omega (arith, ap length (e ∙ frame_parts (type_number ty) b rest), length-append (u16s (type_number ty)) (u64s (length b) ++ (b ++ rest)), two (type_number ty));
    well_formed = λ m. omega (arith, ap length m.4, length-append (u16s m.0) m.1, two m.0);
  },
  next_short bs l,
)

pub wrong_type : (bs rest : List ℕ) (n : ℕ) → n < 2 ^ 16 → None ≡ type_at n → bs ≡ u16s n ++ rest → IsMalformed bs × (next_of bs ≡ Malformed)
wrong_type bs rest n l k e =
    ((n, rest, l, sym k, e), next_typed bs None (omega (arith, number_long bs rest n e)) (ap type_at (number_read bs rest n l e) ∙ sym k))

none_some : (ty : MessageType) → None ≡ Some ty → ⊥
none_some ty e = cc

right_type : (bs rest : List ℕ) (n : ℕ) (ty : MessageType) → n < 2 ^ 16 → Some ty ≡ type_at n → bs ≡ u16s n ++ rest → IsMalformed bs → ⊥
right_type bs rest n ty l k e m = none_some ty (sym m.3 ∙ ap type_at (one_form u16_format m.0 n m.1 rest m.2 l (sym m.4 ∙ e)).0 ∙ sym k)

pub no_length : (bs rest : List ℕ) (n : ℕ) (ty : MessageType) → n < 2 ^ 16 → Some ty ≡ type_at n → bs ≡ u16s n ++ rest → length rest < 8 → IsPart bs × (next_of bs ≡ Partial)
no_length bs rest n ty l k e s = (
  record {
    no_frame = λ ty' b more f e'.
        let h = one_form u16_format n (type_number ty') rest (u64s (length b) ++ (b ++ more)) l (small_number ty') (sym e ∙ e' ∙ frame_parts (type_number ty') b more) in
        omega (arith, ap length h.1, length-append (u64s (length b)) (b ++ more), eight (length b));
    well_formed = right_type bs rest n ty l k e;
  },
  next_typed bs (Some ty) (omega (arith, number_long bs rest n e)) (ap type_at (number_read bs rest n l e) ∙ sym k) ∙ typed_short ty bs (omega (arith, number_long bs rest n e)),
)

-- a type's number and a length
pub next_framed : (bs rest after : List ℕ) (n : ℕ) (ty : MessageType) (len : ℕ) → n < 2 ^ 16 → Some ty ≡ type_at n → bs ≡ u16s n ++ rest → len < 2 ^ 64 → rest ≡ u64s len ++ after → next_of bs ≡ framed ty len after
next_framed bs rest after n ty len l k e l' e2 =
    next_typed bs (Some ty) (omega (arith, number_long bs rest n e)) (ap type_at (number_read bs rest n l e) ∙ sym k)
    ∙ typed_long ty bs (omega (arith, number_long bs rest n e, size_long rest after len e2))
    ∙ ap (λ m. framed ty m (drop 10 bs)) (size_read bs rest after n len l' e e2)
    ∙ ap (framed ty len) (body_read bs rest after n len e e2)

pub no_body : (bs rest after : List ℕ) (n : ℕ) (ty : MessageType) (len : ℕ) → n < 2 ^ 16 → Some ty ≡ type_at n → bs ≡ u16s n ++ rest → len < 2 ^ 64 → rest ≡ u64s len ++ after → length after < len → IsPart bs × (next_of bs ≡ Partial)
no_body bs rest after n ty len l k e l' e2 s = (
  record {
    no_frame = λ ty' b more f e'.
        let h = one_form u16_format n (type_number ty') rest (u64s (length b) ++ (b ++ more)) l (small_number ty') (sym e ∙ e' ∙ frame_parts (type_number ty') b more) in
        let g = one_form u64_format len (length b) after (b ++ more) l' f (sym e2 ∙ h.1) in
        omega (arith, g.0, ap length g.1, length-append b more);
    well_formed = right_type bs rest n ty l k e;
  },
  next_framed bs rest after n ty len l k e l' e2 ∙ framed_short ty len after s,
)

pub whole_frame : (bs rest after : List ℕ) (n : ℕ) (ty : MessageType) (len : ℕ) → n < 2 ^ 16 → Some ty ≡ type_at n → type_number ty ≡ n → bs ≡ u16s n ++ rest → len < 2 ^ 64 → rest ≡ u64s len ++ after → len ≤ length after → IsFirstFrame ty (10 + len) bs
whole_frame bs rest after n ty len l k r e l' e2 s =
    let b = drop 10 (take (10 + len) bs) in
    let t : b ≡ take len after = drop-take 10 len bs ∙ ap (take len) (body_read bs rest after n len e e2) in
    let lb : length b ≡ len = ap length t ∙ (omega (arith, length-take len after)) in
    let parts : bs ≡ (u16s n ++ bytes b) ++ drop len after = e ∙ ap (λ r. u16s n ++ r) (e2 ∙ ap (λ n. u64s n ++ after) (sym lb) ∙ ap (λ r. u64s (length b) ++ r) (sym (take-append-drop len after) ∙ ap (λ r. r ++ drop len after) (sym t))) ∙ sym (frame_parts n b (drop len after)) in
    let flen : length (u16s n ++ bytes b) ≡ 10 + len = omega (arith, length-append (u16s n) (bytes b), two n, ap length (bytes_is b), length-append (u64s (length b)) b, eight (length b), lb) in
    let rest_is : drop (10 + len) bs ≡ drop len after = ap (λ x. drop (10 + len) x) parts ∙ drop_at (u16s n ++ bytes b) (drop len after) (10 + len) flen in
    let spelled : bs ≡ (u16s n ++ bytes b) ++ drop (10 + len) bs = parts ∙ ap (λ r. (u16s n ++ bytes b) ++ r) (sym rest_is) in record {
      head = omega arith;
      fits = omega (arith, ap length parts, length-append (u16s n ++ bytes b) (drop len after), flen);
      small = omega (arith, lb, l');
      spelled = spelled ∙ ap (λ m. (u16s m ++ bytes b) ++ drop (10 + len) bs) (sym r);
      first = next_framed bs rest after n ty len l k e l' e2 ∙ framed_long ty len after s ∙ ap (λ x. Whole (record { ty = ty; body = x }) (drop len after)) (sym t) ∙ ap (Whole (record { ty = ty; body = b })) (sym rest_is);
    }
