-- The layer that the VM speaks: a frame by its type's number, its body's length and its body.
use Rattle.std.proofs.Common.{◌≡◌, ℕ, ◌<◌, List, ◌++◌, length, Option, Some, None, refl, subst}
use Rattle.journal_protocol.specs.Frames.{IsWhole, body, encoding, type_of, NextFrame, next_of}
use Rattle.journal_protocol.specs.Bodies.{message_in}
use Rattle.journal_protocol.specs.Message.{Message}
use Rattle.journal_protocol.specs.Frames as frame
use Rattle.journal_protocol.proofs.Facts as law
use Rattle.vm_layers.specs.Layers.{Front, Whole, Partial, Malformed}

-- the message at the front, if a frame's body encodes one; else the front is malformed
abbrev pub front_if : Option Message → List ℕ → Front
front_if (Some m) rest = Whole m rest
front_if None rest = Malformed

abbrev pub front_of : NextFrame → Front
front_of (frame.Whole raw rest) = front_if (message_in raw.ty raw.body) rest
front_of frame.Partial = Partial
front_of frame.Malformed = Malformed

-- the message at the front of a stream
abbrev pub own_front : List ℕ → Front
own_front bs = front_of (next_of bs)

-- ---- its laws

pub own_read_back : (m : Message) (rest : List ℕ) → IsWhole m
    → own_front (encoding m ++ rest) ≡ Whole m rest
own_read_back m rest w = rw (law.framed m rest w, law.read_back m w) refl

pub whole_if : (o : Option Message) (rest : List ℕ) (m : Message) (next more : List ℕ)
    → front_if o rest ≡ Whole m next → front_if o (rest ++ more) ≡ Whole m (next ++ more)
whole_if (Some m') rest m next more e = cc
whole_if None rest m next more e = absurd cc

pub malformed_if : (o : Option Message) (rest next : List ℕ)
    → front_if o rest ≡ Malformed → front_if o next ≡ Malformed
malformed_if (Some m) rest next e = absurd cc
malformed_if None rest next e = refl

whole_of : (x : NextFrame) (bs more : List ℕ) (m : Message) (rest : List ℕ) → next_of bs ≡ x
    → front_of x ≡ Whole m rest → own_front (bs ++ more) ≡ Whole m (rest ++ more)
whole_of (frame.Whole raw next) bs more m rest h e =
    rw (law.whole_more bs more raw next h)
    (whole_if (message_in raw.ty raw.body) next m rest more e)
whole_of frame.Partial bs more m rest h e = absurd cc
whole_of frame.Malformed bs more m rest h e = absurd cc

pub own_whole_stays : (bs more : List ℕ) (m : Message) (rest : List ℕ)
    → own_front bs ≡ Whole m rest → own_front (bs ++ more) ≡ Whole m (rest ++ more)
own_whole_stays bs more m rest e = whole_of (next_of bs) bs more m rest refl e

malformed_of : (x : NextFrame) (bs more : List ℕ) → next_of bs ≡ x
    → front_of x ≡ Malformed → own_front (bs ++ more) ≡ Malformed
malformed_of (frame.Whole raw next) bs more h e =
    rw (law.whole_more bs more raw next h)
    (malformed_if (message_in raw.ty raw.body) next (next ++ more) e)
malformed_of frame.Partial bs more h e = absurd cc
malformed_of frame.Malformed bs more h e = rw (law.malformed_more bs more h) refl

pub own_malformed_stays : (bs more : List ℕ)
    → own_front bs ≡ Malformed → own_front (bs ++ more) ≡ Malformed
own_malformed_stays bs more e = malformed_of (next_of bs) bs more refl e

pub rest_if : (o : Option Message) (rest : List ℕ) (m : Message) (next : List ℕ)
    → front_if o rest ≡ Whole m next → rest ≡ next
rest_if (Some m') rest m next e = cc
rest_if None rest m next e = absurd cc

shorter_of : (x : NextFrame) (bs : List ℕ) (m : Message) (rest : List ℕ) → next_of bs ≡ x
    → front_of x ≡ Whole m rest → length rest < length bs
shorter_of (frame.Whole raw next) bs m rest h e =
    subst (λ z. length z < length bs) (rest_if (message_in raw.ty raw.body) next m rest e)
    (law.whole_shorter bs raw next h)
shorter_of frame.Partial bs m rest h e = absurd cc
shorter_of frame.Malformed bs m rest h e = absurd cc

pub own_rest_is_shorter : (bs : List ℕ) (m : Message) (rest : List ℕ)
    → own_front bs ≡ Whole m rest → length rest < length bs
own_rest_is_shorter bs m rest e = shorter_of (next_of bs) bs m rest refl e
