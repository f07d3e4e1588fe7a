-- Of two runs from one point, one goes on where the other stood.
use Rattle.std.proofs.Common.{◌≡◌, ◌⊎◌, ℕ, zero, suc, List, [], ◌∷◌, ◌++◌, Some, None, refl, sym, ap, ◌∙◌, subst, inl, inr, ⊎_elim, append_assoc, append-nil}
use Rattle.std.specs.Prelude.{Option, Result, Ok, Err}
use Rattle.std.proofs.lemmas.Option.{same_Some}
use Rattle.journal_protocol.specs.InputCommand.{InputCommand}
use Rattle.journal_protocol.specs.NamedFault.{NamedFault}
use Rattle.journal_protocol.specs.Message.{Message}
use Rattle.journal_protocol.specs.RawMessage.{RawMessage}
use Rattle.journal_protocol.specs.Notification.{Notification}
use Rattle.journal_protocol.specs.NotificationResult.{NotificationResult}
use Rattle.vm_state.specs.declared.state_map.StateMap.{StateMap}
use Rattle.vm_types.specs.declared.steps.Answer.{Answer}
use Rattle.vm_asks.specs.declared.state_read.StateRead.TheVariants as reads
use Rattle.vm_asks.specs.StateReads.{keys_form, value_form}
use Rattle.vm_model.specs.Calls.{Setup, Meaning, Derived, Demand, Move}
use Rattle.vm_model.specs.Calls.Demand.{Exactly, Reads}
use Rattle.vm_model.specs.Calls.Move.{Answers, Needs, Awaits, Ends, Refuses}
use Rattle.journal_entries.specs.Journal.{Entry, notifications_in, stored_form}
use Rattle.vm_model.specs.Moves.{Point, after, changed_by, command_used, later, longer, move_at, moved, next, found, own, start, supplied, supply, uses_arrival, uses_command}
use Rattle.vm_model.specs.Histories.{Handed, History, IsAllOf, IsPrefix, IsStuck, Knowledge, Made, OneBegins, Told, Undisturbed, Whole}
use Rattle.vm_model.proofs.Runs.{after_later, after_longer, and_then_some, longer_nothing, made_after, made_later, made_spent, next_spent, none_some}

-- ---- answers grow

command_used_answers : (o : Result (Option NotificationResult) NamedFault) (e : Demand) (gives : List Answer) (d : Derived) (left : List RawMessage) (p q : Point) → command_used o e gives d left p ≡ Some q → IsPrefix p.answers q.answers
command_used_answers (Err name) e gives d left p q h = none_some h
command_used_answers (Ok result) e gives d left p q h = (gives, ap (λ z. z.answers) (sym (same_Some _ _ h)))

uses_command_answers : (e : Demand) (gives : List Answer) (d : Derived) (left : List RawMessage) (p q : Point) → uses_command e gives d left p ≡ Some q → IsPrefix p.answers q.answers
uses_command_answers e gives d [] p q h = none_some h
uses_command_answers e gives d (c ∷ left) p q h = command_used_answers (found e c) e gives d left p q h

uses_arrival_answers : (queue : List Notification) (p q : Point) → uses_arrival queue p ≡ Some q → IsPrefix p.answers q.answers
uses_arrival_answers [] p q h = none_some h
uses_arrival_answers (n ∷ queue) p q h = ([], ap (λ z. z.answers) (sym (same_Some _ _ h)) ∙ sym (append-nil p.answers))

moved_answers : (mv : Move) (p q : Point) → moved mv p ≡ Some q → IsPrefix p.answers q.answers
moved_answers (Answers gives d) p q h = (gives, ap (λ z. z.answers) (sym (same_Some _ _ h)))
moved_answers (Needs e gives d) p q h = uses_command_answers e gives d p.left p q h
moved_answers Awaits p q h = uses_arrival_answers p.queue p q h
moved_answers Ends p q h = none_some h
moved_answers (Refuses name) p q h = none_some h

prefix_trans : {A : Type 0} (a b c : List A) → IsPrefix a b → IsPrefix b c → IsPrefix a c
prefix_trans a b c x y = (x.0 ++ y.0, y.1 ∙ ap (λ l. l ++ y.0) x.1 ∙ append_assoc a x.0 y.0)

pub after_answers : (s : Setup) (m : Meaning) (n : ℕ) (p q : Point) → after s m n p ≡ Some q → IsPrefix p.answers q.answers
after_answers s m zero p q h = ([], ap (λ z. z.answers) (sym (same_Some _ _ h)) ∙ sym (append-nil p.answers))
after_answers s m (suc n) p q h =
    let x = and_then_some (next s m p) (after s m n) q h in
    prefix_trans p.answers x.0.answers q.answers (moved_answers (move_at s m p) p x.0 x.1) (after_answers s m n x.0 q x.2)

pub after_compare : (s : Setup) (m : Meaning) (n k : ℕ) (p a b : Point) → after s m n p ≡ Some a → after s m k p ≡ Some b → OneBegins a.answers b.answers
after_compare s m zero k p a b h e = inl (subst (λ z. IsPrefix z.answers b.answers) (same_Some _ _ h) (after_answers s m k p b e))
after_compare s m (suc n) zero p a b h e = inr (subst (λ z. IsPrefix z.answers a.answers) (same_Some _ _ e) (after_answers s m (suc n) p a h))
after_compare s m (suc n) (suc k) p a b h e =
    let x = and_then_some (next s m p) (after s m n) a h in
    let y = and_then_some (next s m p) (after s m k) b e in
    after_compare s m n k x.0 a b x.2 (rw (same_Some _ _ (sym y.1 ∙ x.1)) at y.2)

pub told_compare : (s : Setup) (m : Meaning) (input : InputCommand) (ns more_notes : List Notification) (cs more : List RawMessage) (p q : Point) → Told s m input ns cs p → Told s m input (ns ++ more_notes) (cs ++ more) q → OneBegins p.answers q.answers
told_compare s m input ns more_notes cs more p q a b =
    after_compare s m a.0 b.0 (start s input (ns ++ more_notes) (cs ++ more)) (longer more (later more_notes p)) q
    (after_longer s m more a.0 (start s input (ns ++ more_notes) cs) (later more_notes p) (after_later s m more_notes a.0 (start s input ns cs) p a.1))
    b.1

-- ---- undisturbed runs

-- a call's own command depends alone on what is known
own_same : (now state other : StateMap) (e : Demand) → IsAllOf now state → IsAllOf now other → own state e ≡ own other e
own_same now state other (Exactly command ignore) a b = refl
own_same now state other (Reads (reads.Value key name) id) a b = ap (value_form key name id) (a.at key ∙ sym (b.at key))
own_same now state other (Reads (reads.Keys name) id) a b = ap (keys_form name id) (a.keys ∙ sym b.keys)

supply_same : (now state other : StateMap) (mv : Move) (left : List RawMessage) → IsAllOf now state → IsAllOf now other → supply state mv left ≡ supply other mv left
supply_same now state other (Needs e gives d) [] a b = ap (λ (c : Message). stored_form c ∷ []) (own_same now state other e a b)
supply_same now state other (Needs e gives d) (c ∷ left) a b = refl
supply_same now state other (Answers gives d) left a b = refl
supply_same now state other Awaits left a b = refl
supply_same now state other Ends left a b = refl
supply_same now state other (Refuses name) left a b = refl

made_compare : (s : Setup) (m : Meaning) (base : StateMap) (n k : ℕ) (p : Point) (cs ds : List RawMessage) (a b : Point) → Made s m (Whole base) n p cs a → Made s m (Whole base) k p ds b → OneBegins cs ds
made_compare s m base zero k p cs ds a b h e = inl (ds, ap (λ l. l ++ ds) (sym h.0))
made_compare s m base (suc n) zero p cs ds a b h e = inr (cs, ap (λ l. l ++ cs) (sym e.0))
made_compare s m base (suc n) (suc k) p cs ds a b (state, r, rest, knows, is, moves, further) (state', r', rest', knows', is', moves', further') =
    let S = supplied s m state p in
    let same : S ≡ supplied s m state' p = supply_same (changed_by p.said base) state state' (move_at s m p) p.left knows knows' in
    let is'' : ds ≡ S ++ rest' = is' ∙ ap (λ l. l ++ rest') (sym same) in
    let at : r ≡ r' = same_Some _ _ (sym moves ∙ ap (λ l. next s m (longer l p)) same ∙ moves') in
    ⊎_elim
    (λ (x : IsPrefix rest rest'). inl (x.0, is'' ∙ ap (λ l. S ++ l) x.1 ∙ sym (append_assoc S rest x.0) ∙ ap (λ l. l ++ x.0) (sym is)))
    (λ (x : IsPrefix rest' rest). inr (x.0, is ∙ ap (λ l. S ++ l) x.1 ∙ sym (append_assoc S rest' x.0) ∙ ap (λ l. l ++ x.0) (sym is'')))
    (made_compare s m base n k r rest rest' a b further (rw (← at) at further'))

pub undisturbed_compare : (s : Setup) (m : Meaning) (base : StateMap) (input : InputCommand) (ns more : List Notification) (cs ds : List RawMessage) → Undisturbed s m base input ns cs → Undisturbed s m base input (ns ++ more) ds → OneBegins cs ds
undisturbed_compare s m base input ns more cs ds a b = made_compare s m base a.0 b.0 (start s input (ns ++ more) []) cs ds (later more a.1) b.1 (made_later s m (Whole base) more a.0 (start s input ns []) cs a.1 a.2) b.2

-- ---- what was written was written once no recorded command was left

supply_left : (state : StateMap) (mv : Move) (left : List RawMessage) → (supply state mv left ≡ []) ⊎ (left ≡ [])
supply_left state (Needs e gives d) [] = inr refl
supply_left state (Needs e gives d) (c ∷ left) = inl refl
supply_left state (Answers gives d) left = inl refl
supply_left state Awaits left = inl refl
supply_left state Ends left = inl refl
supply_left state (Refuses name) left = inl refl

pub wrote_left : (s : Setup) (m : Meaning) (K : Knowledge) (n : ℕ) (p : Point) (made : List RawMessage) (q : Point) → Made s m K n p made q → (made ≡ []) ⊎ (q.left ≡ [])
wrote_left s m K zero p made q h = inl h.0
wrote_left s m K (suc n) p made q (state, r, rest, knows, is, moves, further) =
    ⊎_elim
    (λ (e : supplied s m state p ≡ []). ⊎_elim (λ (f : rest ≡ []). inl (is ∙ ap (λ l. l ++ rest) e ∙ f)) (λ (f : q.left ≡ []). inr f) (wrote_left s m K n r rest q further))
    (λ (e : p.left ≡ []). inr (made_spent s m K n r rest q (next_spent s m state p r e moves) further))
    (supply_left state (move_at s m p) p.left)

pub attempt_is_told : (s : Setup) (m : Meaning) (given : StateMap) (input : InputCommand) (n : ℕ) (ns : List Notification) (cs written : List RawMessage) (q : Point) → Made s m (Handed given) n (start s input ns cs) written q → Told s m input ns (cs ++ written) q × ((written ≡ []) ⊎ (q.left ≡ []))
attempt_is_told s m given input n ns cs written q h = ((n, made_after s m (Handed given) n (start s input ns cs) written q h), wrote_left s m (Handed given) n (start s input ns cs) written q h)

-- ---- recorded commands are used from the front

command_used_left : (o : Result (Option NotificationResult) NamedFault) (e : Demand) (gives : List Answer) (d : Derived) (left : List RawMessage) (p q : Point) → command_used o e gives d left p ≡ Some q → q.left ≡ left
command_used_left (Err name) e gives d left p q h = none_some h
command_used_left (Ok result) e gives d left p q h = ap (λ z. z.left) (sym (same_Some _ _ h))

uses_command_left : (e : Demand) (gives : List Answer) (d : Derived) (left : List RawMessage) (p q : Point) → uses_command e gives d left p ≡ Some q → (x : List RawMessage) × (left ≡ x ++ q.left)
uses_command_left e gives d [] p q h = none_some h
uses_command_left e gives d (c ∷ left) p q h = (c ∷ [], ap (λ l. c ∷ l) (sym (command_used_left (found e c) e gives d left p q h)))

uses_arrival_left : (queue : List Notification) (p q : Point) → uses_arrival queue p ≡ Some q → (x : List RawMessage) × (p.left ≡ x ++ q.left)
uses_arrival_left [] p q h = none_some h
uses_arrival_left (n ∷ queue) p q h = ([], ap (λ z. z.left) (same_Some _ _ h))

pub moved_left : (mv : Move) (p q : Point) → moved mv p ≡ Some q → (x : List RawMessage) × (p.left ≡ x ++ q.left)
moved_left (Answers gives d) p q h = ([], ap (λ z. z.left) (same_Some _ _ h))
moved_left (Needs e gives d) p q h = uses_command_left e gives d p.left p q h
moved_left Awaits p q h = uses_arrival_left p.queue p q h
moved_left Ends p q h = none_some h
moved_left (Refuses name) p q h = none_some h

pub append_none : {A : Type 0} (xs ys : List A) → [] ≡ xs ++ ys → ys ≡ []
append_none [] ys e = sym e
append_none (x ∷ xs) ys e = absurd (cc)

after_spent : (s : Setup) (m : Meaning) (n : ℕ) (p q : Point) → p.left ≡ [] → after s m n p ≡ Some q → q.left ≡ []
after_spent s m zero p q e h = ap (λ z. z.left) (sym (same_Some _ _ h)) ∙ e
after_spent s m (suc n) p q e h =
    let x = and_then_some (next s m p) (after s m n) q h in
    let y = moved_left (move_at s m p) p x.0 x.1 in
    after_spent s m n x.0 q (append_none y.0 x.0.left (sym e ∙ y.1)) x.2

-- A run that uses all commands goes on wherever some are left.
told_goes_on : (s : Setup) (m : Meaning) (n k : ℕ) (p a q : Point) (c : RawMessage) (left : List RawMessage) → after s m n p ≡ Some a → a.left ≡ [] → after s m k p ≡ Some q → q.left ≡ c ∷ left → (r : Point) × (next s m q ≡ Some r)
told_goes_on s m zero k p a q c left h all e some = absurd (let none : q.left ≡ [] = after_spent s m k p q (ap (λ z. z.left) (same_Some _ _ h) ∙ all) e in cc)
told_goes_on s m (suc n) zero p a q c left h all e some =
    let x = and_then_some (next s m p) (after s m n) a h in
    (x.0, ap (next s m) (sym (same_Some _ _ e)) ∙ x.1)
told_goes_on s m (suc n) (suc k) p a q c left h all e some =
    let x = and_then_some (next s m p) (after s m n) a h in
    let y = and_then_some (next s m p) (after s m k) q e in
    told_goes_on s m n k x.0 a q c left x.2 all (rw (same_Some _ _ (sym y.1 ∙ x.1)) at y.2) some

pub history_goes_on : (s : Setup) (m : Meaning) (base given : StateMap) (journal : List Entry) (delivered : List Notification) (k : ℕ) (written left : List RawMessage) (c : RawMessage) (q : Point) (h : History s m base journal) → Made s m (Handed given) k (start s h.input (notifications_in journal ++ delivered) h.rest) written q → q.left ≡ c ∷ left → (r : Point) × (next s m q ≡ Some r)
history_goes_on s m base given journal delivered k written left c q h w some =
    let p = start s h.input (notifications_in journal ++ delivered) h.rest in
    let none : written ≡ [] = ⊎_elim (λ (e : written ≡ []). e) (λ (e : q.left ≡ []). absurd (cc)) (wrote_left s m (Handed given) k p written q w) in
    let run : after s m k p ≡ Some q = ap (after s m k) (sym (longer_nothing p) ∙ ap (λ l. longer l p) (sym none)) ∙ made_after s m (Handed given) k p written q w in
    told_goes_on s m h.told.0 k p (later delivered h.at) q c left (after_later s m delivered h.told.0 (start s h.input (notifications_in journal) h.rest) h.at h.told.1) h.uses_all run some

pub nothing_supplied : (state : StateMap) (mv : Move) (c : RawMessage) (left : List RawMessage) → supply state mv (c ∷ left) ≡ []
nothing_supplied state (Answers gives d) c left = refl
nothing_supplied state (Needs e gives d) c left = refl
nothing_supplied state Awaits c left = refl
nothing_supplied state Ends c left = refl
nothing_supplied state (Refuses name) c left = refl

-- While recorded commands of a history are left, no call is refused.
pub none_refused : (s : Setup) (m : Meaning) (base given state : StateMap) (journal : List Entry) (delivered : List Notification) (k : ℕ) (written left : List RawMessage) (c : RawMessage) (q : Point) (h : History s m base journal) → Made s m (Handed given) k (start s h.input (notifications_in journal ++ delivered) h.rest) written q → q.left ≡ c ∷ left → IsStuck s m state q → ⊥
none_refused s m base given state journal delivered k written left c q h made is stuck =
    let on = history_goes_on s m base given journal delivered k written left c q h made is in
    let S : supplied s m state q ≡ [] = ap (supply state (move_at s m q)) is ∙ nothing_supplied state (move_at s m q) c left in
    let z : None ≡ Some on.0 = sym stuck ∙ ap (λ l. next s m (longer l q)) S ∙ ap (next s m) (longer_nothing q) ∙ on.1 in
    absurd (cc)
