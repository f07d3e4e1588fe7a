-- A line shows the bytes of one frame at most.
use Rattle.std.proofs.Common.{◌≡◌, ℕ, List, [], ◌∷◌, inl, inr, ap, sym, refl, subst, ◌∙◌}
use Rattle.std.specs.Prelude.{codes}
use Rattle.std.specs.Borrow.{Bor}
use Rattle.std.specs.Str.Parse.{digits_value}
use Rattle.lines.proofs.Blaming.{atom_once}
use Rattle.lines.proofs.Once.{Same, words_once}
use Rattle.lines.specs.Atoms.{IsAtom}
use Rattle.journal_protocol.specs.Frames.{encoding, numbered_frame}
use Rattle.journal_protocol.specs.Message.{Message}
use Rattle.frame_lines.specs.FrameLines.{AreRaw, IsNamed, IsRaw, IsRest, LineShows, Shows}
use Rattle.frame_lines.proofs.Naming.{no_raw, no_rest, one_type}
use Rattle.frame_values.proofs.Bracketing.{unequal}
use Rattle.frame_lines.proofs.Typing.{same_fields_of}
use Rattle.frame_runs.proofs.OneMessage.{message_once}

-- ---- frames as they are

one_raw : (number body a b : List ℕ) → IsRaw number body a → IsRaw number body b → a ≡ b
one_raw number body a b p q = p.is ∙ ap (λ bytes. numbered_frame (digits_value 10 number) bytes) (atom_once body p.bytes_of q.bytes_of p.is_body q.is_body) ∙ sym q.is

raw_once : (ws vs : List (Bor (List ℕ))) (a b : List ℕ) → Same ws vs → AreRaw ws a → AreRaw vs b → a ≡ b
raw_once [] vs a b same p q = absurd p
raw_once (n ∷ []) vs a b same p q = absurd p
raw_once (n ∷ d ∷ x ∷ ws) vs a b same p q = absurd p
raw_once (n ∷ d ∷ []) [] a b same p q = absurd q
raw_once (n ∷ d ∷ []) (m ∷ []) a b same p q = absurd q
raw_once (n ∷ d ∷ []) (m ∷ e ∷ y ∷ vs) a b same p q = absurd q
raw_once (n ∷ d ∷ []) (m ∷ e ∷ []) a b same p q =
    one_raw m.now e.now a b (subst (λ t. IsRaw t e.now a) same.0 (subst (λ t. IsRaw n.now t a) same.1.0 p)) q

rest_once : (ws vs : List (Bor (List ℕ))) (a b : List ℕ) → Same ws vs → IsRest ws a → IsRest vs b → a ≡ b
rest_once [] vs a b same p q = absurd p
rest_once (n ∷ d ∷ ws) vs a b same p q = absurd p
rest_once (n ∷ []) [] a b same p q = absurd q
rest_once (n ∷ []) (m ∷ e ∷ vs) a b same p q = absurd q
rest_once (n ∷ []) (m ∷ []) a b same p q = atom_once m.now a b (subst (λ t. IsAtom t a) same.0 p) q

-- ---- messages

named_once : (ws vs : List (Bor (List ℕ))) (w v a b : List ℕ) → Same ws vs → w ≡ v → IsNamed w ws a → IsNamed v vs b → a ≡ b
named_once ws vs w v a b same is p q =
    let types = one_type p.ty q.ty (sym p.named ∙ is ∙ q.named) in
    let m : Message = p.encodes.message in
    let n : Message = q.encodes.message in
    let typed = p.encodes.typed ∙ types ∙ sym q.encodes.typed in
    let one = message_once vs m n typed (same_fields_of ws vs same m p.encodes.fields) q.encodes.fields in
    p.encodes.is ∙ ap encoding one ∙ sym q.encodes.is

-- ---- lines

shown_once : (ws vs : List (Bor (List ℕ))) (a b : List ℕ) → Same ws vs → Shows ws a → Shows vs b → a ≡ b
shown_once [] vs a b same p q = absurd p
shown_once (w ∷ ws) [] a b same p q = absurd q
shown_once (w ∷ ws) (v ∷ vs) a b same (inl (inl (raw, p))) (inl (inl (also, q))) = raw_once ws vs a b same.1 p q
shown_once (w ∷ ws) (v ∷ vs) a b same (inl (inl (raw, p))) (inl (inr (rest, q))) = absurd (unequal (codes "raw") (codes "rest") refl (sym raw ∙ same.0 ∙ rest))
shown_once (w ∷ ws) (v ∷ vs) a b same (inl (inl (raw, p))) (inr q) = absurd (no_raw q.ty (sym q.named ∙ sym same.0 ∙ raw))
shown_once (w ∷ ws) (v ∷ vs) a b same (inl (inr (rest, p))) (inl (inl (raw, q))) = absurd (unequal (codes "raw") (codes "rest") refl (sym raw ∙ sym same.0 ∙ rest))
shown_once (w ∷ ws) (v ∷ vs) a b same (inl (inr (rest, p))) (inl (inr (also, q))) = rest_once ws vs a b same.1 p q
shown_once (w ∷ ws) (v ∷ vs) a b same (inl (inr (rest, p))) (inr q) = absurd (no_rest q.ty (sym q.named ∙ sym same.0 ∙ rest))
shown_once (w ∷ ws) (v ∷ vs) a b same (inr p) (inl (inl (raw, q))) = absurd (no_raw p.ty (sym p.named ∙ same.0 ∙ raw))
shown_once (w ∷ ws) (v ∷ vs) a b same (inr p) (inl (inr (rest, q))) = absurd (no_rest p.ty (sym p.named ∙ same.0 ∙ rest))
shown_once (w ∷ ws) (v ∷ vs) a b same (inr p) (inr q) = named_once ws vs w.now v.now a b same.1 same.0 p q

pub line_once : (line a b : List ℕ) → LineShows line a → LineShows line b → a ≡ b
line_once line a b (ws, are, p) (vs, be, q) = shown_once ws vs a b (words_once line ws vs are be) p q
