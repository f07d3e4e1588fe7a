-- What is handed out of what a VM wrote.
use Rattle.std.proofs.Common.{◌≡◌, ℕ, List, [], ◌∷◌, ◌++◌, Result, Ok, Err, refl, sym, ap, subst, arith, ◌∙◌}
use Rattle.std.specs.List.{flat_map, AllByRecursion}
use Rattle.journal_protocol.specs.Frames.{IsWhole, encoding}
use Rattle.journal_protocol.specs.Message.{Message}
use Rattle.journal_protocol.proofs.Facts.{nothing_is_partial}
use Rattle.vm_layers.specs.Layers.{Whole, Malformed, HoldsMessages, Moves, Stops}
use Rattle.vm_layers.specs.Own.{front_of, own_front, own_read_back, own_rest_is_shorter}
use Rattle.vm_layers.specs.Transcoding.{EndsBefore, HandsOut}
use Rattle.vm_layers.specs.declared.layer.LayerFault.{LayerFault}
use Rattle.vm_layers.specs.declared.layer.LayerFault.TheVariants.{Memory, Malformed as BadBytes, NoSuchMessage, TooLong}
use Rattle.vm_layers.proofs.Cutting.{malformed_is_no_whole, partial_is_no_whole, partial_is_well_formed, same_message, same_next}

-- these messages are the first of those that were written
record IsFirst (written ms : List Message) (rest : List ℕ) : Type 0 where
  left : List Message
  split : written ≡ ms ++ left
  each : AllByRecursion IsWhole left
  stays : rest ≡ flat_map encoding left

nothing_held : (m : Message) (rest : List ℕ) → own_front [] ≡ Whole m rest → ⊥
nothing_held m rest e = let less = own_rest_is_shorter [] m rest e in omega (arith, less)

one_more : (m n : Message) (ms later left : List Message) → m ≡ n → later ≡ ms ++ left → n ∷ later ≡ m ∷ (ms ++ left)
one_more m n ms later left e d = ap (λ z. z ∷ later) (sym e) ∙ ap (λ z. m ∷ z) d

first_of : (written ms : List Message) (rest : List ℕ) → AllByRecursion IsWhole written → HoldsMessages own_front (flat_map encoding written) ms rest → IsFirst written ms rest
first_of written [] rest w h = record { left = written; split = refl; each = w; stays = sym h }
first_of [] (m ∷ ms) rest w h = absurd (nothing_held m h.0 h.1)
first_of (n ∷ later) (m ∷ ms) rest w h =
    let back = own_read_back n (flat_map encoding later) w.0 in
    let e = same_message (own_front (flat_map encoding (n ∷ later))) m n h.0 (flat_map encoding later) h.1 back in
    let d = same_next (own_front (flat_map encoding (n ∷ later))) m n h.0 (flat_map encoding later) h.1 back in
    let f = first_of later ms rest w.1 (subst (λ z. HoldsMessages own_front z ms rest) d h.2) in
    record { left = f.left; split = one_more m n ms later f.left e f.split; each = f.each; stays = f.stays }

front_left : (m : Message) (later : List Message) (rest : List ℕ) → AllByRecursion IsWhole (m ∷ later) → rest ≡ flat_map encoding (m ∷ later) → own_front rest ≡ Whole m (flat_map encoding later)
front_left m later rest w is = ap own_front is ∙ own_read_back m (flat_map encoding later) w.0

no_bytes_are_well_formed : own_front [] ≡ Malformed → ⊥
no_bytes_are_well_formed e = partial_is_well_formed (sym (ap front_of nothing_is_partial) ∙ e)

ends_before : (Has Fits : Message → Type 0) (left : List Message) (rest : List ℕ) (result : Result (Unit {0}) LayerFault) → AllByRecursion IsWhole left → rest ≡ flat_map encoding left
    → Stops own_front Has Fits rest result → EndsBefore Has Fits left result
ends_before Has Fits [] rest (Ok u) w is s = refl
ends_before Has Fits (m ∷ later) rest (Ok u) w is s = absurd (partial_is_no_whole m (flat_map encoding later) (sym s ∙ front_left m later rest w is))
ends_before Has Fits left rest (Err Memory) w is s = tt
ends_before Has Fits [] rest (Err BadBytes) w is s = no_bytes_are_well_formed (sym (ap own_front is) ∙ s)
ends_before Has Fits (m ∷ later) rest (Err BadBytes) w is s = malformed_is_no_whole m (flat_map encoding later) (sym s ∙ front_left m later rest w is)
ends_before Has Fits [] rest (Err NoSuchMessage) w is s = absurd (nothing_held s.0 s.1 (sym (ap own_front is) ∙ s.2))
ends_before Has Fits (m ∷ later) rest (Err NoSuchMessage) w is s =
    let e = same_message (own_front rest) s.0 m s.1 (flat_map encoding later) s.2 (front_left m later rest w is) in
    (m, later, refl, subst (λ z. Has z → ⊥) e s.3)
ends_before Has Fits [] rest (Err TooLong) w is s = absurd (nothing_held s.0 s.1 (sym (ap own_front is) ∙ s.2))
ends_before Has Fits (m ∷ later) rest (Err TooLong) w is s =
    let e = same_message (own_front rest) s.0 m s.1 (flat_map encoding later) s.2 (front_left m later rest w is) in
    (m, later, refl, subst Has e s.3, subst (λ z. Fits z → ⊥) e s.4)

pub handed_out : (Has Fits : Message → Type 0) (frame : Message → List ℕ) (written : List Message) (rest old new : List ℕ) (result : Result (Unit {0}) LayerFault) → AllByRecursion IsWhole written
    → Moves own_front Fits frame (flat_map encoding written) rest old new → Stops own_front Has Fits rest result → HandsOut Has Fits frame written rest old new result
handed_out Has Fits frame written rest old new result w moves stops =
    let f = first_of written moves.messages rest w moves.held in
    record {
      sent = moves.messages;
      left = f.left;
      split = f.split;
      fit = moves.fit;
      out = moves.written;
      stays = f.stays;
      ends = ends_before Has Fits f.left rest result f.each f.stays stops;
    }
