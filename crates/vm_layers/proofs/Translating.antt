-- Messages that stand at the front of a stream, one after another.
use Rattle.std.proofs.Common.{◌≡◌, ℕ, List, [], ◌∷◌, ◌++◌, map, refl, sym, ap, subst, ◌∙◌, append_assoc, append-nil}
use Rattle.std.specs.List.{flat_map, AllByRecursion}
use Rattle.std.proofs.lemmas.Grind.{flat_map-append}
use Rattle.journal_protocol.specs.Message.{Message}
use Rattle.vm_layers.specs.Layers.{Front, Whole, HoldsMessages, Moves}

-- ---- one message, and then others

-- no message is taken off yet
pub none_moved : (front : List ℕ → Front) (Fits : Message → Type 0) (frame : Message → List ℕ) (stream old : List ℕ) → Moves front Fits frame stream stream old old
none_moved front Fits frame stream old = record { messages = []; held = refl; fit = tt; written = sym (append-nil old) }

-- some messages, and then others
pub and_then : (front : List ℕ → Front) (bs : List ℕ) (ms : List Message) (mid : List ℕ) (others : List Message) (rest : List ℕ)
    → HoldsMessages front bs ms mid → HoldsMessages front mid others rest → HoldsMessages front bs (ms ++ others) rest
and_then front bs [] mid others rest h t = subst (λ z. HoldsMessages front z others rest) (sym h) t
and_then front bs (m ∷ ms) mid others rest h t = (h.0, h.1, and_then front h.0 ms mid others rest h.2 t)

pub both_fit : (Fits : Message → Type 0) (ms others : List Message) → AllByRecursion Fits ms → AllByRecursion Fits others → AllByRecursion Fits (ms ++ others)
both_fit Fits [] others f g = g
both_fit Fits (m ∷ ms) others f g = (f.0, both_fit Fits ms others f.1 g)

both_written : (frame : Message → List ℕ) (ms others : List Message) (old mid new : List ℕ) → mid ≡ old ++ flat_map frame ms → new ≡ mid ++ flat_map frame others
    → new ≡ old ++ flat_map frame (ms ++ others)
both_written frame ms others old mid new e d = d ∙ ap (λ z. z ++ flat_map frame others) e ∙ append_assoc old (flat_map frame ms) (flat_map frame others)
    ∙ ap (λ z. old ++ z) (sym (flat_map-append frame ms others))

pub moved_on : (front : List ℕ → Front) (Fits : Message → Type 0) (frame : Message → List ℕ) (stream mid rest old out new : List ℕ)
    → Moves front Fits frame stream mid old out → Moves front Fits frame mid rest out new → Moves front Fits frame stream rest old new
moved_on front Fits frame stream mid rest old out new a b = record {
  messages = a.messages ++ b.messages;
  held = and_then front stream a.messages mid b.messages rest a.held b.held;
  fit = both_fit Fits a.messages b.messages a.fit b.fit;
  written = both_written frame a.messages b.messages old out new a.written b.written;
}

-- one message is taken off
pub one_moved : (front : List ℕ → Front) (Fits : Message → Type 0) (frame : Message → List ℕ) (rest out : List ℕ) (m : Message) (next : List ℕ)
    → front rest ≡ Whole m next → Fits m → Moves front Fits frame rest next out (out ++ frame m)
one_moved front Fits frame rest out m next e f = record {
  messages = m ∷ [];
  held = (next, e, refl);
  fit = (f, tt);
  written = ap (λ z. out ++ z) (sym (append-nil (frame m)));
}

pub one_more : (front : List ℕ → Front) (Fits : Message → Type 0) (frame : Message → List ℕ) (stream rest old out new : List ℕ) (m : Message) (next : List ℕ)
    → Moves front Fits frame stream rest old out → front rest ≡ Whole m next → Fits m → new ≡ out ++ frame m → Moves front Fits frame stream next old new
one_more front Fits frame stream rest old out new m next d e f w =
    subst (Moves front Fits frame stream next old) (sym w) (moved_on front Fits frame stream rest next old out (out ++ frame m) d (one_moved front Fits frame rest out m next e f))

-- ---- bytes that follow

abbrev pub WholeStays : (List ℕ → Front) → Type 0
WholeStays front = (bs more : List ℕ) (m : Message) (rest : List ℕ) → front bs ≡ Whole m rest → front (bs ++ more) ≡ Whole m (rest ++ more)

-- the same messages, and then the bytes that follow
pub and_more : (front : List ℕ → Front) → WholeStays front → (bs more : List ℕ) (ms : List Message) (rest : List ℕ)
    → HoldsMessages front bs ms rest → HoldsMessages front (bs ++ more) ms (rest ++ more)
and_more front stays bs more [] rest h = ap (λ z. z ++ more) h
and_more front stays bs more (m ∷ ms) rest h = (h.0 ++ more, stays bs more m h.0 h.1, and_more front stays h.0 more ms rest h.2)

pub moved_before : (front : List ℕ → Front) (Fits : Message → Type 0) (frame : Message → List ℕ) → WholeStays front → (stream more rest old new : List ℕ)
    → Moves front Fits frame stream rest old new → Moves front Fits frame (stream ++ more) (rest ++ more) old new
moved_before front Fits frame stays stream more rest old new d = record {
  messages = d.messages;
  held = and_more front stays stream more d.messages rest d.held;
  fit = d.fit;
  written = d.written;
}

-- ---- what is read of a translation

abbrev pub ReadBack : (List ℕ → Front) → (Message → Type 0) → (Message → List ℕ) → (Message → Message) → Type 0
ReadBack front Fits frame as_read = (m : Message) (rest : List ℕ) → Fits m → front (frame m ++ rest) ≡ Whole (as_read m) rest

pub frames_read : (front : List ℕ → Front) (Fits : Message → Type 0) (frame : Message → List ℕ) (as_read : Message → Message) → ReadBack front Fits frame as_read
    → (ms : List Message) (more : List ℕ) → AllByRecursion Fits ms → HoldsMessages front (flat_map frame ms ++ more) (map as_read ms) more
frames_read front Fits frame as_read back [] more f = refl
frames_read front Fits frame as_read back (m ∷ ms) more f = (
  flat_map frame ms ++ more,
  ap front (append_assoc (frame m) (flat_map frame ms) more) ∙ back m (flat_map frame ms ++ more) f.0,
  frames_read front Fits frame as_read back ms more f.1,
)
