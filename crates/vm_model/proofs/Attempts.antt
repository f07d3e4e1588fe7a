-- An attempt goes on with the run that its journal records.
use Rattle.std.proofs.Common.{◌≡◌, ℕ, zero, suc, List, [], ◌++◌, Some, sym, ap, ◌∙◌, subst, append_assoc, append-nil}
use Rattle.std.proofs.lemmas.Option.{same_Some}
use Rattle.journal_protocol.specs.Message.{Message}
use Rattle.journal_protocol.specs.RawMessage.{RawMessage}
use Rattle.vm_state.specs.declared.state_map.StateMap.{StateMap}
use Rattle.vm_model.specs.Calls.{Setup, Meaning}
use Rattle.vm_model.specs.Moves.{Point, longer, move_at, next, supplied}
use Rattle.vm_model.specs.Histories.{Knowledge, Made}
use Rattle.vm_model.proofs.Runs.{longer_twice, longer_nothing, next_longer, next_spent, no_supply}
use Rattle.vm_model.proofs.Said.{made_weaken}

-- The first moves of a run that made these commands and of an attempt that has them recorded.
first_same : (s : Setup) (m : Meaning) (p : Point) (made rest written rest' : List RawMessage) (state state' : StateMap) (r r' : Point) → p.left ≡ [] → made ≡ supplied s m state p ++ rest → next s m (longer (supplied s m state p) p) ≡ Some r → written ≡ supplied s m state' (longer made p) ++ rest' → next s m (longer (supplied s m state' (longer made p)) (longer made p)) ≡ Some r' → (r' ≡ longer rest r) × (written ≡ rest')
first_same s m p made rest written rest' state state' r r' spent is moves is' moves' =
    let S = supplied s m state p in
    let quiet : supplied s m state' (longer made p) ≡ [] = rw (spent, is, spent) (no_supply state state' (move_at s m p) rest) in
    let told : next s m (longer made p) ≡ Some (longer rest r) = ap (λ l. next s m (longer l p)) is ∙ sym (ap (next s m) (longer_twice S rest p)) ∙ next_longer s m rest (longer S p) r moves in
    let does : next s m (longer made p) ≡ Some r' = sym (ap (next s m) (ap (λ l. longer l (longer made p)) quiet ∙ longer_nothing (longer made p))) ∙ moves' in
    (same_Some _ _ (sym does ∙ told), is' ∙ ap (λ l. l ++ rest') quiet)

-- A run made these commands, and an attempt replays them and goes on: the run could have made both, if what the attempt knows
-- from there on the run may know.
pub continues : (s : Setup) (m : Meaning) (K A : Knowledge) (n : ℕ) (p : Point) (made : List RawMessage) (t : Point) → ((state : StateMap) (x : List Message) → A state (t.said ++ x) → K state (t.said ++ x))
    → (k : ℕ) (written : List RawMessage) (q : Point) → p.left ≡ [] → Made s m K n p made t → Made s m A k (longer made p) written q → (j : ℕ) × (r : Point) × Made s m K j p (made ++ written) r
continues s m K A zero p made t f k written q spent h w =
    (k, q, rw h.0 (made_weaken s m K A t.said f k p written q [] (ap (λ z. z.said) h.1 ∙ sym (append-nil t.said)) (rw (h.0, longer_nothing p) at w)))
continues s m K A (suc n) p made t f zero written q spent h w = (suc n, t, rw (w.0, append-nil made) h)
continues s m K A (suc n) p made t f (suc k) written q spent (state, r, rest, knows, is, moves, further) (state', r', rest', knows', is', moves', further') =
    let same = first_same s m p made rest written rest' state state' r r' spent is moves is' moves' in
    let on = continues s m K A n r rest t f k rest' q (next_spent s m state p r spent moves) further (subst (λ z. Made s m A k z rest' q) same.0 further') in
    (suc on.0, on.1, (state, r, rest ++ written, knows, ap (λ l. l ++ written) is ∙ append_assoc (supplied s m state p) rest written, moves, subst (λ l. Made s m K on.0 r (rest ++ l) on.1) (sym same.1) on.2))
