-- A stream is translated in one way, however it is cut.
use Rattle.std.proofs.Common.{◌≡◌, ℕ, List, [], ◌∷◌, ◌++◌, Option, Some, None, Result, Ok, Err, refl, sym, ap, subst, ◌∙◌, append_assoc, append-nil}
use Rattle.std.specs.List.{flat_map, AllByRecursion}
use Rattle.journal_protocol.specs.Message.{Message}
use Rattle.vm_layers.specs.Layers.{Front, Whole, Partial, Malformed, HoldsMessages, Moves, Stops}
use Rattle.vm_layers.specs.Steps.{IsSettled, Runs, pushed}
use Rattle.vm_layers.specs.declared.layer.LayerFault.{LayerFault}
use Rattle.vm_layers.specs.declared.layer.LayerFault.TheVariants.{Memory, Malformed as BadBytes, NoSuchMessage, TooLong}
use Rattle.vm_layers.proofs.Translating.{WholeStays, moved_before, moved_on, none_moved}

-- ---- all steps together

pub steps_move : (front : List ℕ → Front) (Fits : Message → Type 0) (frame : Message → List ℕ) → WholeStays front
    → (steps : List (Option (List ℕ))) (stream waited waits old out new : List ℕ)
    → Moves front Fits frame stream waited old out → Runs front Fits frame steps waited waits out new
    → Moves front Fits frame (stream ++ pushed steps) waits old new
steps_move front Fits frame stays [] stream waited waits old out new d r =
    subst (λ z. Moves front Fits frame z waits old new) (sym (append-nil stream))
    (subst (λ z. Moves front Fits frame stream z old new) (sym r.0) (subst (Moves front Fits frame stream waited old) (sym r.1) d))
steps_move front Fits frame stays (Some piece ∷ steps) stream waited waits old out new d r =
    subst (λ z. Moves front Fits frame z waits old new) (append_assoc stream piece (pushed steps))
    (steps_move front Fits frame stays steps (stream ++ piece) (waited ++ piece) waits old out new (moved_before front Fits frame stays stream piece waited old out d) r)
steps_move front Fits frame stays (None ∷ steps) stream waited waits old out new d r =
    steps_move front Fits frame stays steps stream r.0 waits old r.1 new (moved_on front Fits frame stream waited r.0 old out r.1 d r.2) r.3

pub all_steps : (front : List ℕ → Front) (Fits : Message → Type 0) (frame : Message → List ℕ) → WholeStays front
    → (steps : List (Option (List ℕ))) (rest out : List ℕ) → Runs front Fits frame steps [] rest [] out → Moves front Fits frame (pushed steps) rest [] out
all_steps front Fits frame stays steps rest out r = steps_move front Fits frame stays steps [] [] rest [] [] out (none_moved front Fits frame [] []) r

-- ---- there is one way

-- no message is let through
abbrev pub IsStop : (List ℕ → Front) → (Message → Type 0) → List ℕ → Type 0
IsStop front Fits rest = (m : Message) (next : List ℕ) → front rest ≡ Whole m next → Fits m → ⊥

abbrev message_or : Message → Front → Message
message_or other (Whole m next) = m
message_or other Partial = other
message_or other Malformed = other

abbrev rest_or : List ℕ → Front → List ℕ
rest_or other (Whole m next) = next
rest_or other Partial = other
rest_or other Malformed = other

pub same_message : (x : Front) (m n : Message) (r s : List ℕ) → x ≡ Whole m r → x ≡ Whole n s → m ≡ n
same_message x m n r s e d = ap (message_or m) (sym e ∙ d)

pub same_next : (x : Front) (m n : Message) (r s : List ℕ) → x ≡ Whole m r → x ≡ Whole n s → r ≡ s
same_next x m n r s e d = ap (rest_or r) (sym e ∙ d)

pair_of : (m n : Message) (ms ns : List Message) → m ≡ n → ms ≡ ns → m ∷ ms ≡ n ∷ ns
pair_of m n ms ns e d = ap (λ z. z ∷ ms) e ∙ ap (λ z. n ∷ z) d

pub one_way : (front : List ℕ → Front) (Fits : Message → Type 0) (bs : List ℕ) (ms ns : List Message) (r s : List ℕ)
    → HoldsMessages front bs ms r → AllByRecursion Fits ms → IsStop front Fits r
    → HoldsMessages front bs ns s → AllByRecursion Fits ns → IsStop front Fits s → (ms ≡ ns) × (r ≡ s)
one_way front Fits bs [] [] r s h f stop h' f' stop' = (refl, sym h ∙ h')
one_way front Fits bs [] (n ∷ ns) r s h f stop h' f' stop' = absurd (stop n h'.0 (ap front (sym h) ∙ h'.1) f'.0)
one_way front Fits bs (m ∷ ms) [] r s h f stop h' f' stop' = absurd (stop' m h.0 (ap front (sym h') ∙ h.1) f.0)
one_way front Fits bs (m ∷ ms) (n ∷ ns) r s h f stop h' f' stop' =
    let e = same_next (front bs) m n h.0 h'.0 h.1 h'.1 in
    let t = one_way front Fits h.0 ms ns r s h.2 f.1 stop (subst (λ z. HoldsMessages front z ns s) (sym e) h'.2) f'.1 stop' in
    (pair_of m n ms ns (same_message (front bs) m n h.0 h'.0 h.1 h'.1) t.0, t.1)

pub one_output : (front : List ℕ → Front) (Fits : Message → Type 0) (frame : Message → List ℕ) (stream rest rest' old out out' : List ℕ)
    → Moves front Fits frame stream rest old out → IsStop front Fits rest → Moves front Fits frame stream rest' old out' → IsStop front Fits rest'
    → (rest ≡ rest') × (out ≡ out')
one_output front Fits frame stream rest rest' old out out' a s b t =
    let w = one_way front Fits stream a.messages b.messages rest rest' a.held a.fit s b.held b.fit t in
    (w.1, a.written ∙ ap (λ z. old ++ flat_map frame z) w.0 ∙ sym b.written)

-- ---- why it stops

stop_at : (x : Front) (Fits : Message → Type 0) (m : Message) (next : List ℕ) → x ≡ Whole m next → (Fits m → ⊥)
    → (n : Message) (other : List ℕ) → x ≡ Whole n other → Fits n → ⊥
stop_at x Fits m next e not_fit n other d f = not_fit (subst Fits (sym (same_message x m n next other e d)) f)

pub partial_is_no_whole : (m : Message) (next : List ℕ) → Partial ≡ Whole m next → ⊥
partial_is_no_whole m next e = cc

pub malformed_is_no_whole : (m : Message) (next : List ℕ) → Malformed ≡ Whole m next → ⊥
malformed_is_no_whole m next e = cc

pub partial_is_well_formed : Partial ≡ Malformed → ⊥
partial_is_well_formed e = cc

abbrev pub FitsHas : (Message → Type 0) → (Message → Type 0) → Type 0
FitsHas Has Fits = (m : Message) → Fits m → Has m

pub is_stop : (front : List ℕ → Front) (Has Fits : Message → Type 0) → FitsHas Has Fits → (rest : List ℕ) (x : Result (Unit {0}) LayerFault)
    → Stops front Has Fits rest x → IsSettled x → IsStop front Fits rest
is_stop front Has Fits has rest (Ok u) s w = λ m next e f. partial_is_no_whole m next (sym s ∙ e)
is_stop front Has Fits has rest (Err Memory) s w = absurd w
is_stop front Has Fits has rest (Err BadBytes) s w = λ m next e f. malformed_is_no_whole m next (sym s ∙ e)
is_stop front Has Fits has rest (Err NoSuchMessage) s w = stop_at (front rest) Fits s.0 s.1 s.2 (λ f. s.3 (has s.0 f))
is_stop front Has Fits has rest (Err TooLong) s w = stop_at (front rest) Fits s.0 s.1 s.2 s.4

has_none : (front : List ℕ → Front) (Has : Message → Type 0) (rest : List ℕ) (m n : Message) (r s : List ℕ)
    → front rest ≡ Whole m r → (Has m → ⊥) → front rest ≡ Whole n s → Has n → ⊥
has_none front Has rest m n r s e lacks d h = lacks (subst Has (sym (same_message (front rest) m n r s e d)) h)

pub one_fault : (front : List ℕ → Front) (Has Fits : Message → Type 0) (rest : List ℕ) (x y : Result (Unit {0}) LayerFault)
    → Stops front Has Fits rest x → IsSettled x → Stops front Has Fits rest y → IsSettled y → x ≡ y
one_fault front Has Fits rest (Ok u) (Ok v) s w t z = refl
one_fault front Has Fits rest (Ok u) (Err Memory) s w t z = absurd z
one_fault front Has Fits rest (Ok u) (Err BadBytes) s w t z = absurd (partial_is_well_formed (sym s ∙ t))
one_fault front Has Fits rest (Ok u) (Err NoSuchMessage) s w t z = absurd (partial_is_no_whole t.0 t.1 (sym s ∙ t.2))
one_fault front Has Fits rest (Ok u) (Err TooLong) s w t z = absurd (partial_is_no_whole t.0 t.1 (sym s ∙ t.2))
one_fault front Has Fits rest (Err Memory) y s w t z = absurd w
one_fault front Has Fits rest (Err BadBytes) (Ok v) s w t z = absurd (partial_is_well_formed (sym t ∙ s))
one_fault front Has Fits rest (Err BadBytes) (Err Memory) s w t z = absurd z
one_fault front Has Fits rest (Err BadBytes) (Err BadBytes) s w t z = refl
one_fault front Has Fits rest (Err BadBytes) (Err NoSuchMessage) s w t z = absurd (malformed_is_no_whole t.0 t.1 (sym s ∙ t.2))
one_fault front Has Fits rest (Err BadBytes) (Err TooLong) s w t z = absurd (malformed_is_no_whole t.0 t.1 (sym s ∙ t.2))
one_fault front Has Fits rest (Err NoSuchMessage) (Ok v) s w t z = absurd (partial_is_no_whole s.0 s.1 (sym t ∙ s.2))
one_fault front Has Fits rest (Err NoSuchMessage) (Err Memory) s w t z = absurd z
one_fault front Has Fits rest (Err NoSuchMessage) (Err BadBytes) s w t z = absurd (malformed_is_no_whole s.0 s.1 (sym t ∙ s.2))
one_fault front Has Fits rest (Err NoSuchMessage) (Err NoSuchMessage) s w t z = refl
one_fault front Has Fits rest (Err NoSuchMessage) (Err TooLong) s w t z = absurd (has_none front Has rest s.0 t.0 s.1 t.1 s.2 s.3 t.2 t.3)
one_fault front Has Fits rest (Err TooLong) (Ok v) s w t z = absurd (partial_is_no_whole s.0 s.1 (sym t ∙ s.2))
one_fault front Has Fits rest (Err TooLong) (Err Memory) s w t z = absurd z
one_fault front Has Fits rest (Err TooLong) (Err BadBytes) s w t z = absurd (malformed_is_no_whole s.0 s.1 (sym t ∙ s.2))
one_fault front Has Fits rest (Err TooLong) (Err NoSuchMessage) s w t z = absurd (has_none front Has rest t.0 s.0 t.1 s.1 t.2 t.3 s.2 s.3)
one_fault front Has Fits rest (Err TooLong) (Err TooLong) s w t z = refl

-- ---- the law

pub cut_anywhere : (front : List ℕ → Front) (Has Fits : Message → Type 0) (frame : Message → List ℕ) → WholeStays front → FitsHas Has Fits
    → (steps others : List (Option (List ℕ))) (rest out rest' out' : List ℕ) (x y : Result (Unit {0}) LayerFault)
    → Runs front Fits frame steps [] rest [] out → Stops front Has Fits rest x → IsSettled x
    → Runs front Fits frame others [] rest' [] out' → Stops front Has Fits rest' y → IsSettled y
    → pushed steps ≡ pushed others → (rest ≡ rest') × (out ≡ out') × (x ≡ y)
cut_anywhere front Has Fits frame stays has steps others rest out rest' out' x y r s w r' s' w' e =
    let a = all_steps front Fits frame stays steps rest out r in
    let b = all_steps front Fits frame stays others rest' out' r' in
    let a' = subst (λ z. Moves front Fits frame z rest [] out) e a in
    let o = one_output front Fits frame (pushed others) rest rest' [] out out' a' (is_stop front Has Fits has rest x s w) b (is_stop front Has Fits has rest' y s' w') in
    (o.0, o.1, one_fault front Has Fits rest x y s w (subst (λ z. Stops front Has Fits z y) (sym o.0) s') w')
