-- Once the handler has ended, attempts write nothing, and no run makes more.
use Rattle.std.proofs.Common.{◌≡◌, ◌⊎◌, ℕ, zero, suc, take, List, [], ◌∷◌, ◌++◌, Some, ⊎_elim, refl, sym, ap, ◌∙◌, subst, append_assoc, append-nil, inl, inr}
use Rattle.std.proofs.lemmas.Option.{same_Some}
use Rattle.journal_protocol.specs.RawMessage.{RawMessage}
use Rattle.journal_protocol.specs.Notification.{Notification}
use Rattle.vm_state.specs.declared.state_map.StateMap.{StateMap}
use Rattle.vm_types.specs.declared.steps.Answer.{Answer}
use Rattle.vm_model.specs.Calls.{Setup, Meaning, Move}
use Rattle.vm_model.specs.Calls.Move.{Answers, Needs, Awaits, Ends, Refuses}
use Rattle.journal_entries.specs.Journal.{Entry, commands_in, input_read_from, notifications_in}
use Rattle.vm_model.specs.Moves.{Point, after, later, longer, move_at, moved, next, start, supplied, supply, uses_command}
use Rattle.vm_model.specs.Histories.{Handed, IsPrefix, IsStuck, Knowledge, Made, Told, Undisturbed, Whole}
use Rattle.vm_model.specs.HonestRounds.{Attempted, HonestRound, HonestRounds, IsOneRun, IsToldOn}
use Rattle.vm_model.specs.Finished.{HasFinished}
use Rattle.vm_model.proofs.Compared.{after_answers, append_none, moved_left, undisturbed_compare}
use Rattle.vm_model.proofs.Lasting.{commands-append, notifications-append}
use Rattle.vm_model.proofs.Runs.{after_later, after_longer, and_then_some, longer_nothing, made_after, made_spent, none_some}

-- a move over recorded commands needs none of its own
recorded_needs : (state : StateMap) (mv : Move) (left : List RawMessage) (p x : Point) → p.left ≡ left → moved mv p ≡ Some x → supply state mv left ≡ []
recorded_needs state (Answers gives d) left p x e h = refl
recorded_needs state (Needs demand gives d) [] p x e h = none_some (sym (ap (λ l. uses_command demand gives d l p) e) ∙ h)
recorded_needs state (Needs demand gives d) (c ∷ left) p x e h = refl
recorded_needs state Awaits left p x e h = refl
recorded_needs state Ends left p x e h = refl
recorded_needs state (Refuses name) left p x e h = refl

-- from a point where the handler ends no move leads on
ends_there : (s : Setup) (m : Meaning) (p r : Point) (cs : List RawMessage) → move_at s m p ≡ Ends → next s m (longer cs p) ≡ Some r → {P : Type 0} → P
ends_there s m p r cs ends h {P} = none_some (sym (ap (λ mv. moved mv (longer cs p)) ends) ∙ h)

-- A run over recorded commands comes to a point where the handler ends: nothing is made from its beginning on.
pub ended_makes_nothing : (s : Setup) (m : Meaning) (K : Knowledge) (n k : ℕ) (p a : Point) (made : List RawMessage) (q : Point) → after s m n p ≡ Some a → move_at s m a ≡ Ends → Made s m K k p made q → (made ≡ []) × IsPrefix q.answers a.answers
ended_makes_nothing s m K n zero p a made q run ends h = (h.0, subst (λ z. IsPrefix z.answers a.answers) h.1 (after_answers s m n p a run))
ended_makes_nothing s m K zero (suc k) p a made q run ends (state, r, rest, knows, is, moves, further) =
    ends_there s m p r (supplied s m state p) (ap (move_at s m) (same_Some _ _ run) ∙ ends) moves
ended_makes_nothing s m K (suc n) (suc k) p a made q run ends (state, r, rest, knows, is, moves, further) =
    let x = and_then_some (next s m p) (after s m n) a run in
    let S : supplied s m state p ≡ [] = recorded_needs state (move_at s m p) p.left p x.0 refl x.1 in
    let at : x.0 ≡ r = same_Some _ _ (sym x.1 ∙ ap (next s m) (sym (longer_nothing p)) ∙ ap (λ l. next s m (longer l p)) (sym S) ∙ moves) in
    let on = ended_makes_nothing s m K n k x.0 a rest q x.2 ends (subst (λ z. Made s m K k z rest q) (sym at) further) in
    (is ∙ ap (λ l. l ++ rest) S ∙ on.0, on.1)

-- Each point of such a run is the one where the handler ends, or a move leads on.
pub ends_or_goes_on : (s : Setup) (m : Meaning) (K : Knowledge) (n k : ℕ) (p a : Point) (made : List RawMessage) (q : Point) → after s m n p ≡ Some a → move_at s m a ≡ Ends → Made s m K k p made q → (q ≡ a) ⊎ ((r : Point) × (next s m q ≡ Some r))
ends_or_goes_on s m K zero zero p a made q run ends h = inl (sym h.1 ∙ same_Some _ _ run)
ends_or_goes_on s m K (suc n) zero p a made q run ends h =
    let x = and_then_some (next s m p) (after s m n) a run in
    inr (x.0, ap (next s m) (sym h.1) ∙ x.1)
ends_or_goes_on s m K zero (suc k) p a made q run ends (state, r, rest, knows, is, moves, further) =
    ends_there s m p r (supplied s m state p) (ap (move_at s m) (same_Some _ _ run) ∙ ends) moves
ends_or_goes_on s m K (suc n) (suc k) p a made q run ends (state, r, rest, knows, is, moves, further) =
    let x = and_then_some (next s m p) (after s m n) a run in
    let S : supplied s m state p ≡ [] = recorded_needs state (move_at s m p) p.left p x.0 refl x.1 in
    let at : x.0 ≡ r = same_Some _ _ (sym x.1 ∙ ap (next s m) (sym (longer_nothing p)) ∙ ap (λ l. next s m (longer l p)) (sym S) ∙ moves) in
    ends_or_goes_on s m K n k x.0 a rest q x.2 ends (subst (λ z. Made s m K k z rest q) (sym at) further)

-- where a move over what is recorded leads on nothing is stuck
pub goes_on_unstuck : (s : Setup) (m : Meaning) (state : StateMap) (q r : Point) → next s m q ≡ Some r → IsStuck s m state q → {P : Type 0} → P
goes_on_unstuck s m state q r on stuck {P} =
    let S : supplied s m state q ≡ [] = recorded_needs state (move_at s m q) q.left q r refl on in
    none_some (sym stuck ∙ ap (λ l. next s m (longer l q)) S ∙ ap (next s m) (longer_nothing q) ∙ on)

-- ---- of a journal

pub finished_first : {A : Type 0} {a b : A} {xs ys : List A} → a ∷ xs ≡ b ∷ ys → (a ≡ b) × (xs ≡ ys)
finished_first e = (cc, cc)

-- an attempt's answers are none, or those of its point
begins_with : (xs ys zs : List Answer) → (xs ≡ []) ⊎ (xs ≡ ys) → IsPrefix ys zs → IsPrefix xs zs
begins_with xs ys zs o front =
    ⊎_elim
    (λ (e : xs ≡ []). (zs, ap (λ l. l ++ zs) (sym e)))
    (λ (e : xs ≡ ys). subst (λ l. IsPrefix l zs) (sym e) front)
    o

pub attempt_is_quiet : (s : Setup) (m : Meaning) (journal : List Entry) (h : HasFinished s m journal) (a : Attempted) → IsToldOn s m journal a → (commands_in a.course ≡ []) × IsPrefix a.answers h.at.answers
attempt_is_quiet s m journal h a t =
    let same = finished_first (sym t.begins ∙ h.begins) in
    let input : t.input ≡ h.input = same_Some _ _ (sym t.reads ∙ ap input_read_from same.0 ∙ h.reads) in
    let more = notifications_in a.course in
    let run = after_later s m more h.told.0 (start s h.input (notifications_in journal) h.rest) h.at h.told.1 in
    let made : Made s m (Handed a.given) t.moves (start s h.input (notifications_in journal ++ more) h.rest) (commands_in a.course) t.at = subst (λ p. Made s m (Handed a.given) t.moves p (commands_in a.course) t.at) (λ i. start s (input i) (notifications_in journal ++ more) (same.1 i)) t.made in
    let on = ended_makes_nothing s m (Handed a.given) h.told.0 t.moves (start s h.input (notifications_in journal ++ more) h.rest) (later more h.at) (commands_in a.course) t.at run h.ends made in
    (on.0, begins_with a.answers t.at.answers h.at.answers t.answered on.1)

-- ---- of rounds

take_none : (n : ℕ) (xs : List RawMessage) → xs ≡ [] → take n xs ≡ []
take_none zero xs e = refl
take_none (suc n) xs e = ap (take (suc n)) e

pub round_is_quiet : (s : Setup) (m : Meaning) (before : List Entry) (a : Attempted) (after : List Entry) → HasFinished s m before → IsToldOn s m before a → HonestRound before a.course after → HasFinished s m after × (commands_in after ≡ commands_in before)
round_is_quiet s m before a after h t r =
    let none : commands_in r.added ≡ [] = r.commands ∙ take_none r.stored (commands_in a.course) (attempt_is_quiet s m before h a t).0 in
    let same : commands_in after ≡ commands_in before = ap commands_in r.extends ∙ commands-append before r.added ∙ ap (λ l. commands_in before ++ l) none ∙ append-nil (commands_in before) in
    let notes : notifications_in before ++ notifications_in r.added ≡ notifications_in after = sym (notifications-append before r.added) ∙ ap notifications_in (sym r.extends) in (
      record {
        first = h.first;
        input = h.input;
        reads = h.reads;
        rest = h.rest;
        begins = same ∙ h.begins;
        at = later (notifications_in r.added) h.at;
        told = subst (λ l. Told s m h.input l h.rest (later (notifications_in r.added) h.at)) notes (h.told.0, after_later s m (notifications_in r.added) h.told.0 (start s h.input (notifications_in before) h.rest) h.at h.told.1);
        uses_all = h.uses_all;
        ends = h.ends;
      },
      same,
    )

pub rounds_are_quiet : (s : Setup) (m : Meaning) (K : Knowledge) (before : List Entry) (attempts : List Attempted) (after : List Entry) → HasFinished s m before → HonestRounds s m K before attempts after → HasFinished s m after × (commands_in after ≡ commands_in before)
rounds_are_quiet s m K before [] after h d = (subst (HasFinished s m) (sym d) h, ap commands_in d)
rounds_are_quiet s m K before (a ∷ more) after h (mid, handed, told, round, others) =
    let one = round_is_quiet s m before a mid h told round in
    let all = rounds_are_quiet s m K mid more after one.0 others in
    (all.0, all.1 ∙ one.1)

-- ---- of a run that nothing interrupts

after_left : (s : Setup) (m : Meaning) (n : ℕ) (p q : Point) → after s m n p ≡ Some q → (x : List RawMessage) × (p.left ≡ x ++ q.left)
after_left s m zero p q h = ([], ap (λ z. z.left) (same_Some _ _ h))
after_left s m (suc n) p q h =
    let x = and_then_some (next s m p) (after s m n) q h in
    let a = moved_left (move_at s m p) p x.0 x.1 in
    let b = after_left s m n x.0 q x.2 in
    (a.0 ++ b.0, a.1 ∙ ap (λ l. a.0 ++ l) b.1 ∙ sym (append_assoc a.0 b.0 q.left))

-- where a run ends there are no more recorded commands left than at any of its points
ended_left : (s : Setup) (m : Meaning) (n k : ℕ) (p a q : Point) → after s m n p ≡ Some a → move_at s m a ≡ Ends → after s m k p ≡ Some q → (x : List RawMessage) × (q.left ≡ x ++ a.left)
ended_left s m n zero p a q run ends h = subst (λ (z : Point). (x : List RawMessage) × (z.left ≡ x ++ a.left)) (same_Some _ _ h) (after_left s m n p a run)
ended_left s m zero (suc k) p a q run ends h =
    let y = and_then_some (next s m p) (after s m k) q h in
    ends_there s m p y.0 [] (ap (move_at s m) (same_Some _ _ run) ∙ ends) (ap (next s m) (longer_nothing p) ∙ y.1)
ended_left s m (suc n) (suc k) p a q run ends h =
    let x = and_then_some (next s m p) (after s m n) a run in
    let y = and_then_some (next s m p) (after s m k) q h in
    ended_left s m n k x.0 a q x.2 ends (rw (same_Some _ _ (sym y.1 ∙ x.1)) at y.2)

pub run_makes_no_more : (s : Setup) (m : Meaning) (base : StateMap) (journal : List Entry) (one : IsOneRun s m (Whole base) journal) → HasFinished s m journal → (more : List Notification) (cs : List RawMessage) → Undisturbed s m base one.input (notifications_in journal ++ more) cs → IsPrefix cs one.rest
run_makes_no_more s m base journal one h more cs u =
    let same = finished_first (sym one.begins ∙ h.begins) in
    let input : one.input ≡ h.input = same_Some _ _ (sym one.reads ∙ ap input_read_from same.0 ∙ h.reads) in
    let from = start s one.input (notifications_in journal ++ more) [] in
    let compared = undisturbed_compare s m base one.input (notifications_in journal) more one.rest cs (one.moves, one.at, one.made) u in
    ⊎_elim
    (λ (x : IsPrefix one.rest cs).
    let run : after s m h.told.0 (start s one.input (notifications_in journal) one.rest) ≡ Some h.at = subst (λ p. after s m h.told.0 p ≡ Some h.at) (λ i. start s (sym input i) (notifications_in journal) (sym same.1 i)) h.told.1 in
    let ended : after s m h.told.0 (longer cs from) ≡ Some (longer x.0 (later more h.at)) = subst (λ l. after s m h.told.0 (start s one.input (notifications_in journal ++ more) l) ≡ Some (longer x.0 (later more h.at))) (sym x.1)
    (after_longer s m x.0 h.told.0 (start s one.input (notifications_in journal ++ more) one.rest) (later more h.at) (after_later s m more h.told.0 (start s one.input (notifications_in journal) one.rest) h.at run)) in
    let left = ended_left s m h.told.0 u.0 (longer cs from) (longer x.0 (later more h.at)) u.1 ended h.ends (made_after s m (Whole base) u.0 from cs u.1 u.2) in
    let spent : u.1.left ≡ [] = made_spent s m (Whole base) u.0 from cs u.1 refl u.2 in
    let none : x.0 ≡ [] = append_none h.at.left x.0 (sym (append_none left.0 (h.at.left ++ x.0) (sym spent ∙ left.1))) in
    ([], sym (append-nil cs ∙ x.1 ∙ ap (λ l. one.rest ++ l) none ∙ append-nil one.rest)))
    (λ (x : IsPrefix cs one.rest). x)
    compared
