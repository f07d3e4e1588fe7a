-- The laws of messages in other bytes.
use Rattle.std.proofs.Common.{◌≡◌, ℕ, ◌+◌, ◌<◌, ◌≤◌, ◌^◌, List, ◌∷◌, ◌++◌, length, take, drop, Bool, true, false, Option, Some, None, refl, sym, ap, subst, ◌∙◌, append_assoc, inl, inr, arith}
use Rattle.std.specs.Prelude.{nat_lt, if◌then◌else◌}
use Rattle.std.specs.Int.{w16, w32, to_be_bytes, from_be_bytes}
use Rattle.std.proofs.lemmas.List.{drop-drop, length-append, length-drop, take-append-le, drop-append-le, drop_at}
use Rattle.std.proofs.lemmas.Nat.{from_be_bytes-to_be_bytes_2, from_be_bytes-to_be_bytes_4}
use Rattle.std.proofs.lemmas.Bool.Decides.{nat_tests}
use Rattle.std.proofs.Math.Seq.{take-append_seam}
use Rattle.journal_protocol.specs.Types.{type_number}
use Rattle.journal_protocol.specs.MessageType.{MessageType}
use Rattle.journal_protocol.specs.Frames.{body, type_of}
use Rattle.journal_protocol.specs.Bodies.{message_in}
use Rattle.journal_protocol.specs.Message.{Message}
use Rattle.journal_protocol.specs.Message.TheVariants as message
use Rattle.journal_protocol.specs.Suspension.{Suspension}
use Rattle.journal_protocol.specs.Version.{Version}
use Rattle.journal_protocol.specs.Versions.{is_from_v7}
use Rattle.journal_protocol.proofs.Facts as alone
use Rattle.journal_protocol.proofs.Facts.{small_number, type_found}
use Rattle.vm_layers.specs.Kept.{Keeps, without_tree}
use Rattle.vm_layers.specs.Layers.{Front, Whole, Partial, Malformed}
use Rattle.vm_layers.specs.Own.{front_if, malformed_if, rest_if, whole_if}
use Rattle.vm_layers.specs.declared.short.Short.{Short}
use Rattle.vm_layers.specs.Short.{IsShort, body_in, knows_type, type_if_known, mark_of, short, short_frame, short_front, short_front_in, sized, suspension_of, type_in, sent_form, sent_if}

some_is : {a s : Suspension} → Some a ≡ Some s → a ≡ s
some_is e = cc

not_less : (m n : ℕ) → nat_lt m n ≡ false → n ≤ m
not_less m n e = grind (arith, nat_tests)

less_not : (m n : ℕ) → n ≤ m → nat_lt m n ≡ false
less_not m n e = grind (arith, nat_tests)

less_is : (m n : ℕ) → m < n → nat_lt m n ≡ true
less_is m n e = grind (arith, nat_tests)

swapped : (m n : ℕ) → m + n ≡ n + m
swapped m n = omega arith

drops : (m n : ℕ) (bs : List ℕ) → drop m (drop n bs) ≡ drop (m + n) bs
drops m n bs = drop-drop m n bs ∙ ap (λ z. drop z bs) (swapped n m)

whole_if_long : (b : Bool) (x : Front) (m : Message) (rest : List ℕ)
    → (if b then Partial else x) ≡ Whole m rest → (b ≡ false) × (x ≡ Whole m rest)
whole_if_long true x m rest e = absurd cc
whole_if_long false x m rest e = (refl, e)

malformed_if_long : (b : Bool) (x : Front)
    → (if b then Partial else x) ≡ Malformed → (b ≡ false) × (x ≡ Malformed)
malformed_if_long true x e = absurd cc
malformed_if_long false x e = (refl, e)

front_is : (v : Version) (bs : List ℕ) → short_front v bs ≡ (if nat_lt (length bs) 4 then Partial
    else sized v (from_be_bytes w32 (take 4 bs)) (drop 4 bs))
unfolding short_front
front_is v bs = refl

long_enough : (v : Version) (bs : List ℕ) → 4 ≤ length bs
    → short_front v bs ≡ sized v (from_be_bytes w32 (take 4 bs)) (drop 4 bs)
long_enough v bs l = front_is v bs ∙ ap (λ b. if b then Partial
    else sized v (from_be_bytes w32 (take 4 bs)) (drop 4 bs)) (less_not (length bs) 4 l)

sized_long : (v : Version) (n : ℕ) (bs : List ℕ) → n + 2 ≤ length bs → sized v n bs
    ≡ short_front_in (type_in v (from_be_bytes w16 (take 2 (drop n bs)))) (body_in (take n bs))
    (drop (n + 2) bs)
sized_long v n bs l = ap (λ b. if b then Partial
    else short_front_in (type_in v (from_be_bytes w16 (take 2 (drop n bs)))) (body_in (take n bs))
    (drop (n + 2) bs)) (less_not (length bs) (n + 2) l)

-- ---- what is at the front, by its parts

pub part_of_length : (v : Version) (bs : List ℕ) → length bs < 4 → short_front v bs ≡ Partial
unfolding short_front
part_of_length v bs l = rw (less_is (length bs) 4 l) refl

pub part_of_frame : (v : Version) (bs : List ℕ) → 4 ≤ length bs
    → length bs < from_be_bytes w32 (take 4 bs) + 6 → short_front v bs ≡ Partial
part_of_frame v bs l k = long_enough v bs l
    ∙ rw (less_is (length (drop 4 bs)) (from_be_bytes w32 (take 4 bs) + 2)
    (omega (arith, l, k, length-drop 4 bs))) refl

six : (n : ℕ) → n + 2 + 4 ≡ n + 6
six n = omega arith

pub whole_frame : (v : Version) (bs : List ℕ) (n : ℕ) → n + 6 ≤ length bs
    → n ≡ from_be_bytes w32 (take 4 bs)
    → short_front v bs ≡ short_front_in (type_in v (from_be_bytes w16 (take 2 (drop (n + 4) bs))))
    (body_in (take n (drop 4 bs))) (drop (n + 6) bs)
whole_frame v bs n l e = long_enough v bs (omega (arith, l))
    ∙ ap (λ z. sized v z (drop 4 bs)) (sym e)
    ∙ sized_long v n (drop 4 bs) (omega (arith, l, length-drop 4 bs))
    ∙ ap (λ z. short_front_in (type_in v (from_be_bytes w16 (take 2 z)))
    (body_in (take n (drop 4 bs)))
    (drop (n + 2) (drop 4 bs))) (drops n 4 bs)
    ∙ ap (short_front_in (type_in v (from_be_bytes w16 (take 2 (drop (n + 4) bs))))
    (body_in (take n (drop 4 bs)))) (drops (n + 2) 4 bs ∙ ap (λ z. drop z bs) (six n))

-- ---- a message is read back

four : (n : ℕ) → length (to_be_bytes w32 n) ≡ 4
four n = refl

two : (n : ℕ) → length (to_be_bytes w16 n) ≡ 2
two n = refl

marked : (b : Bool) (bs : List ℕ) → body_in (mark_of b ∷ bs) ≡ Some bs
marked true bs = refl
marked false bs = refl

frame_parts : (ty : MessageType) (p rest : List ℕ) → short_frame ty p ++ rest
    ≡ to_be_bytes w32 (length p) ++ (p ++ (to_be_bytes w16 (type_number ty) ++ rest))
frame_parts ty p rest =
    append_assoc (to_be_bytes w32 (length p)) (p ++ to_be_bytes w16 (type_number ty)) rest
    ∙ ap (λ z. to_be_bytes w32 (length p)
    ++ z) (append_assoc p (to_be_bytes w16 (type_number ty)) rest)

size_read : (n : ℕ) (rest : List ℕ) → n < 2 ^ 32
    → from_be_bytes w32 (take 4 (to_be_bytes w32 n ++ rest)) ≡ n
size_read n rest l = ap (from_be_bytes w32) (take-append_seam (to_be_bytes w32 n) rest)
    ∙ from_be_bytes-to_be_bytes_4 n l

number_read : (v : Version) (ty : MessageType) (rest : List ℕ) → knows_type v ty ≡ true
    → type_in v (from_be_bytes w16 (take 2 (to_be_bytes w16 (type_number ty) ++ rest))) ≡ Some ty
number_read v ty rest h = ap (λ z. type_in v (from_be_bytes w16 z))
    (take-append_seam (to_be_bytes w16 (type_number ty)) rest)
    ∙ ap (type_in v) (from_be_bytes-to_be_bytes_2 (type_number ty) (small_number ty))
    ∙ ap (type_if_known v) (type_found ty) ∙ ap (λ b. if b then Some ty else None) h

after_payload : (ty : MessageType) (p rest : List ℕ)
    → drop (length p + 2) (p ++ (to_be_bytes w16 (type_number ty) ++ rest)) ≡ rest
after_payload ty p rest =
    ap (drop (length p + 2)) (sym (append_assoc p (to_be_bytes w16 (type_number ty)) rest))
    ∙ drop_at (p ++ to_be_bytes w16 (type_number ty)) rest (length p + 2)
    (omega (arith, length-append p (to_be_bytes w16 (type_number ty)), two (type_number ty)))

payload_read : (v : Version) (ty : MessageType) (p rest : List ℕ) → knows_type v ty ≡ true
    → sized v (length p) (p ++ (to_be_bytes w16 (type_number ty) ++ rest))
    ≡ short_front_in (Some ty) (body_in p) rest
payload_read v ty p rest h =
    let tail = to_be_bytes w16 (type_number ty) ++ rest in
    sized_long v (length p) (p ++ tail) (omega (
      arith,
      length-append p tail,
      length-append (to_be_bytes w16 (type_number ty)) rest,
      two (type_number ty),
    ))
    ∙ ap (λ z. short_front_in (type_in v (from_be_bytes w16 (take 2 z)))
    (body_in (take (length p) (p ++ tail)))
    (drop (length p + 2) (p ++ tail))) (drop_at p tail (length p) refl)
    ∙ ap (λ z. short_front_in z (body_in (take (length p) (p ++ tail)))
    (drop (length p + 2) (p ++ tail)))
    (number_read v ty rest h)
    ∙ ap (λ z. short_front_in (Some ty) (body_in z) (drop (length p + 2) (p ++ tail)))
    (take-append_seam p tail)
    ∙ ap (short_front_in (Some ty) (body_in p)) (after_payload ty p rest)

frame_read : (v : Version) (ty : MessageType) (p rest : List ℕ) → knows_type v ty ≡ true
    → length p < 2 ^ 32
    → short_front v (short_frame ty p ++ rest) ≡ short_front_in (Some ty) (body_in p) rest
frame_read v ty p rest h l =
    let tail = p ++ (to_be_bytes w16 (type_number ty) ++ rest) in
    let head = to_be_bytes w32 (length p) in
    ap (short_front v) (frame_parts ty p rest)
    ∙ long_enough v (head ++ tail) (omega (arith, length-append head tail, four (length p)))
    ∙ ap (λ z. sized v z (drop 4 (head ++ tail))) (size_read (length p) tail l)
    ∙ ap (sized v (length p)) (drop_at head tail 4 (four (length p)))
    ∙ payload_read v ty p rest h

-- ---- what is written of a message

is_suspension : (m : Message) (s : Suspension) → suspension_of m ≡ Some s
    → m ≡ message.Suspension s
is_suspension (message.Suspension a) s e = ap message.Suspension (some_is e)
is_suspension m s e = absurd cc

kept_written : (o : Option Suspension) (m : Message) → suspension_of m ≡ o
    → Keeps m (sent_if o m)
kept_written None m e = inl refl
kept_written (Some s) m e = inr (sym (ap without_tree (is_suspension m s e)))

kept_if : (b : Bool) (m : Message)
    → Keeps m (sent_if (if b then None else suspension_of m) m)
kept_if true m = inl refl
kept_if false m = kept_written (suspension_of m) m refl

pub short_keeps : (layer : Short) (m : Message) → IsShort layer m → Keeps m (sent_form layer m)
short_keeps layer m w = kept_if (is_from_v7 layer.version) m

-- ---- a message is read back

pub short_read_back : (layer : Short) (m : Message) (rest : List ℕ) → IsShort layer m
    → short_front layer.version (short layer m ++ rest) ≡ Whole (sent_form layer m) rest
short_read_back layer m rest w =
    let m' = sent_form layer m in
    frame_read layer.version (type_of m') (mark_of layer.mark ∷ body m') rest
    w.0 (omega (arith, w.2))
    ∙ ap (λ b. short_front_in (Some (type_of m')) b rest) (marked layer.mark (body m'))
    ∙ ap (λ x. front_if x rest) (alone.read_back m' w.1)

-- ---- bytes that follow change nothing

whole_spelled : (ty : Option MessageType) (b : Option (List ℕ)) (rest : List ℕ) (m : Message)
    (next more : List ℕ) → short_front_in ty b rest ≡ Whole m next
    → short_front_in ty b (rest ++ more) ≡ Whole m (next ++ more)
whole_spelled None b rest m next more e = absurd cc
whole_spelled (Some ty) None rest m next more e = absurd cc
whole_spelled (Some ty) (Some b) rest m next more e =
    whole_if (message_in ty b) rest m next more e

malformed_spelled : (ty : Option MessageType) (b : Option (List ℕ)) (rest next : List ℕ)
    → short_front_in ty b rest ≡ Malformed → short_front_in ty b next ≡ Malformed
malformed_spelled None b rest next e = refl
malformed_spelled (Some ty) None rest next e = refl
malformed_spelled (Some ty) (Some b) rest next e = malformed_if (message_in ty b) rest next e

rest_spelled : (ty : Option MessageType) (b : Option (List ℕ)) (rest : List ℕ) (m : Message)
    (next : List ℕ) → short_front_in ty b rest ≡ Whole m next → rest ≡ next
rest_spelled None b rest m next e = absurd cc
rest_spelled (Some ty) None rest m next e = absurd cc
rest_spelled (Some ty) (Some b) rest m next e = rest_if (message_in ty b) rest m next e

-- more bytes after a payload and a number
sized_more : (v : Version) (n : ℕ) (bs more : List ℕ) → n + 2 ≤ length bs → sized v n (bs ++ more)
    ≡ short_front_in (type_in v (from_be_bytes w16 (take 2 (drop n bs)))) (body_in (take n bs))
    (drop (n + 2) bs ++ more)
sized_more v n bs more l =
    sized_long v n (bs ++ more) (omega (arith, length-append bs more, l))
    ∙ ap (λ z. short_front_in (type_in v (from_be_bytes w16 (take 2 z)))
    (body_in (take n (bs ++ more)))
    (drop (n + 2) (bs ++ more))) (drop-append-le n bs more (omega (arith, l)))
    ∙ ap (λ z. short_front_in (type_in v (from_be_bytes w16 z)) (body_in (take n (bs ++ more)))
    (drop (n + 2) (bs ++ more)))
    (take-append-le 2 (drop n bs) more (omega (arith, length-drop n bs, l)))
    ∙ ap (λ z. short_front_in (type_in v (from_be_bytes w16 (take 2 (drop n bs)))) (body_in z)
    (drop (n + 2) (bs ++ more))) (take-append-le n bs more (omega (arith, l)))
    ∙ ap (short_front_in (type_in v (from_be_bytes w16 (take 2 (drop n bs)))) (body_in (take n bs)))
    (drop-append-le (n + 2) bs more l)

more_after_four : (v : Version) (bs more : List ℕ) → 4 ≤ length bs → short_front v (bs ++ more)
    ≡ sized v (from_be_bytes w32 (take 4 bs)) (drop 4 bs ++ more)
more_after_four v bs more l = long_enough v (bs ++ more) (omega (arith, length-append bs more, l))
    ∙ ap (λ z. sized v (from_be_bytes w32 z) (drop 4 (bs ++ more))) (take-append-le 4 bs more l)
    ∙ ap (sized v (from_be_bytes w32 (take 4 bs))) (drop-append-le 4 bs more l)

pub short_whole_stays : (v : Version) (bs more : List ℕ) (m : Message) (rest : List ℕ)
    → short_front v bs ≡ Whole m rest → short_front v (bs ++ more) ≡ Whole m (rest ++ more)
short_whole_stays v bs more m rest e =
    let h = whole_if_long _ _ m rest (sym (front_is v bs) ∙ e) in
    let l = not_less (length bs) 4 h.0 in
    let n = from_be_bytes w32 (take 4 bs) in
    let k = whole_if_long _ _ m rest h.1 in
    let j = not_less (length (drop 4 bs)) (n + 2) k.0 in
    more_after_four v bs more l ∙ sized_more v n (drop 4 bs) more j
    ∙ whole_spelled _ _ (drop (n + 2) (drop 4 bs)) m rest more k.1

pub short_malformed_stays : (v : Version) (bs more : List ℕ)
    → short_front v bs ≡ Malformed → short_front v (bs ++ more) ≡ Malformed
short_malformed_stays v bs more e =
    let h = malformed_if_long _ _ (sym (front_is v bs) ∙ e) in
    let l = not_less (length bs) 4 h.0 in
    let n = from_be_bytes w32 (take 4 bs) in
    let k = malformed_if_long _ _ h.1 in
    let j = not_less (length (drop 4 bs)) (n + 2) k.0 in
    more_after_four v bs more l ∙ sized_more v n (drop 4 bs) more j
    ∙ malformed_spelled _ _ (drop (n + 2) (drop 4 bs)) (drop (n + 2) (drop 4 bs) ++ more) k.1

pub short_rest_is_shorter : (v : Version) (bs : List ℕ) (m : Message) (rest : List ℕ)
    → short_front v bs ≡ Whole m rest → length rest < length bs
short_rest_is_shorter v bs m rest e =
    let h = whole_if_long _ _ m rest (sym (front_is v bs) ∙ e) in
    let l = not_less (length bs) 4 h.0 in
    let n = from_be_bytes w32 (take 4 bs) in
    let k = whole_if_long _ _ m rest h.1 in
    let r = rest_spelled _ _ (drop (n + 2) (drop 4 bs)) m rest k.1 in
    let less : length (drop (n + 2) (drop 4 bs)) < length bs =
    omega (arith, l, length-drop (n + 2) (drop 4 bs), length-drop 4 bs) in
    subst (λ z. length z < length bs) r less
