-- No completion has two results at any point of an attempt's run, where it made what carries the ids of its arrivals.
use Rattle.std.proofs.Common.{◌≡◌, ◌⊎◌, inl, inr, ⊎_elim, ℕ, zero, suc, Bool, true, false, List, [], ◌++◌, Some, refl, sym, ap, ◌∙◌, subst, append_assoc, append-nil}
use Rattle.std.specs.Prelude.{◌||◌, ◌∷◌}
use Rattle.std.proofs.lemmas.Option.{same_Some}
use Rattle.journal_protocol.specs.InputCommand.{InputCommand}
use Rattle.journal_protocol.specs.RawMessage.{RawMessage}
use Rattle.journal_protocol.specs.Bodies.{message_in}
use Rattle.journal_protocol.specs.Notification.{Notification}
use Rattle.vm_state.specs.declared.state_map.StateMap.{StateMap}
use Rattle.vm_model.specs.Calls.{Meaning, Setup}
use Rattle.vm_model.specs.Carried.{AreCarried, ComeOnce, is_carried, read_carries}
use Rattle.vm_model.specs.Deliveries.{HasNoTwo}
use Rattle.vm_model.specs.Histories.{Handed, Made}
use Rattle.vm_model.specs.Moves.{Point, after, longer, next, start, supplied}
use Rattle.vm_model.proofs.Carried.{completions_once}
use Rattle.vm_model.proofs.Compared.{attempt_is_told}
use Rattle.vm_model.proofs.Runs.{after_longer}

-- ---- the ids that commands carry

carried_front : (id : ℕ) (us vs : List RawMessage) → is_carried id (us ++ vs) ≡ false → is_carried id us ≡ false
carried_front id [] vs e = refl
carried_front id (u ∷ us) vs e = by_test (read_carries id (message_in u.ty u.body)) e (carried_front id us vs)
  where
    by_test : (b : Bool) → (b || is_carried id (us ++ vs)) ≡ false → (is_carried id (us ++ vs) ≡ false → is_carried id us ≡ false) → (b || is_carried id us) ≡ false
    by_test true h ih = absurd (cc)
    by_test false h ih = ih h

-- what some commands carry, more of them carry
pub still_carried : (ns : List Notification) (cs more : List RawMessage) → AreCarried ns cs → AreCarried ns (cs ++ more)
still_carried ns cs more h id none = h id (carried_front id cs more none)

-- ---- two runs of an attempt from one point: one goes along the other

module _ (s : Setup) (m : Meaning) (given : StateMap) where
  along_first : (made written rest rest' : List RawMessage) (p r r' : Point) (state state' : StateMap) → state ≡ state' → made ≡ supplied s m state p ++ rest → written ≡ supplied s m state' p ++ rest'
      → next s m (longer (supplied s m state p) p) ≡ Some r → next s m (longer (supplied s m state' p) p) ≡ Some r' → (written ≡ supplied s m state p ++ rest') × (r' ≡ r)
  along_first made written rest rest' p r r' state state' same is is' goes goes' =
      (is' ∙ ap (λ x. supplied s m x p ++ rest') (sym same), same_Some r' r (sym goes' ∙ ap (λ x. next s m (longer (supplied s m x p) p)) (sym same) ∙ goes))

  -- what the shorter made, the longer made first
  pub made_along : (n k : ℕ) (p : Point) (made written : List RawMessage) (q at : Point) → Made s m (Handed given) n p made q → Made s m (Handed given) k p written at
      → ((rest : List RawMessage) × (written ≡ made ++ rest)) ⊎ ((rest : List RawMessage) × (made ≡ written ++ rest))
  made_along zero k p made written q at h w = inl (written, ap (λ l. l ++ written) (sym h.0))
  made_along (suc n) zero p made written q at h w = inr (made, ap (λ l. l ++ made) (sym w.0))
  made_along (suc n) (suc k) p made written q at (state, r, rest, knows, is, goes, on) (state', r', rest', knows', is', goes', on') =
      let first = along_first made written rest rest' p r r' state state' (knows ∙ sym knows') is is' goes goes' in
      let front = supplied s m state p in
      ⊎_elim
      (λ (x : (more : List RawMessage) × (rest' ≡ rest ++ more)). inl (x.0, first.0 ∙ ap (λ l. front ++ l) x.1 ∙ sym (append_assoc front rest x.0) ∙ ap (λ l. l ++ x.0) (sym is)))
      (λ (x : (more : List RawMessage) × (rest ≡ rest' ++ more)). inr (x.0, is ∙ ap (λ l. front ++ l) x.1 ∙ sym (append_assoc front rest' x.0) ∙ ap (λ l. l ++ x.0) (sym first.0)))
      (made_along n k r rest rest' q at on (subst (λ z. Made s m (Handed given) k z rest' at) first.1 on'))

-- ---- no completion has two results

module _ (s : Setup) (m : Meaning) (given : StateMap) (input : InputCommand) (ns : List Notification) (cs : List RawMessage) (k : ℕ) (all : Point) (told : after s m k (start s input ns cs) ≡ Some all) (spent : all.left ≡ []) (once : ComeOnce ns) where
  abbrev begun : Point
  begun = start s input ns cs

  -- at a point to which the recorded commands and those made lead, where these carry the ids
  made_once : (n : ℕ) (made : List RawMessage) (p : Point) → Made s m (Handed given) n begun made p → AreCarried ns (cs ++ made) → HasNoTwo p
  made_once n made p h carry =
      let there = attempt_is_told s m given input n ns cs made p h in
      ⊎_elim
      (λ (none : made ≡ []).
      let same : cs ++ made ≡ cs = ap (λ l. cs ++ l) none ∙ append-nil cs in
      completions_once s m there.0.0 k input ns cs p all (subst (λ l. after s m there.0.0 (start s input ns l) ≡ Some p) same there.0.1) told spent once (subst (AreCarried ns) same carry))
      (λ (used : p.left ≡ []). completions_once s m there.0.0 there.0.0 input ns (cs ++ made) p p there.0.1 there.0.1 used once carry)
      there.1

  -- where an attempt wrote commands that carry the ids, no completion has two results at any point of its run
  pub run_once : (l : ℕ) (written : List RawMessage) (at : Point) → Made s m (Handed given) l begun written at → AreCarried ns (cs ++ written) → (n : ℕ) (made : List RawMessage) (p : Point) → Made s m (Handed given) n begun made p → HasNoTwo p
  run_once l written at w carry n made p h =
      ⊎_elim
      (λ (x : (rest : List RawMessage) × (written ≡ made ++ rest)).
      let there = attempt_is_told s m given input n ns cs made p h in
      let end = attempt_is_told s m given input l ns cs written at w in
      let longer_told : after s m there.0.0 (start s input ns (cs ++ written)) ≡ Some (longer x.0 p) =
      ap (λ y. after s m there.0.0 (start s input ns y)) (ap (λ y. cs ++ y) x.1 ∙ sym (append_assoc cs made x.0)) ∙ after_longer s m x.0 there.0.0 (start s input ns (cs ++ made)) p there.0.1
      in
      ⊎_elim
      (λ (none : written ≡ []).
      let empty : made ≡ [] = front_nothing made x.0 (sym x.1 ∙ none) in
      made_once n made p h (subst (λ y. AreCarried ns (cs ++ y)) (none ∙ sym empty) carry))
      (λ (used : at.left ≡ []). completions_once s m there.0.0 end.0.0 input ns (cs ++ written) (longer x.0 p) at longer_told end.0.1 used once carry)
      end.1)
      (λ (x : (rest : List RawMessage) × (made ≡ written ++ rest)).
      made_once n made p h (subst (AreCarried ns) (append_assoc cs written x.0 ∙ ap (λ y. cs ++ y) (sym x.1)) (still_carried ns (cs ++ written) x.0 carry)))
      (made_along s m given n l begun made written p at h w)
    where
      front_nothing : (xs ys : List RawMessage) → xs ++ ys ≡ [] → xs ≡ []
      front_nothing [] ys e = refl
      front_nothing (x ∷ xs) ys e = absurd (cc)
