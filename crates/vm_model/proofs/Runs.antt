-- Moves of a run: what later arrivals and further recorded commands leave as it is.
use Rattle.std.proofs.Common.{◌≡◌, ◌⊎◌, ℕ, zero, suc, ◌+◌, List, [], ◌∷◌, ◌++◌, Option, Some, None, refl, sym, ap, ◌∙◌, subst, inl, inr, ⊎_elim, append_assoc, append-nil}
use Rattle.std.specs.Prelude.{Result, Ok, Err}
use Rattle.std.proofs.lemmas.Option.{same_Some}
use native.Mathlib.Nat.{zero-add, suc-add}
use Rattle.journal_protocol.specs.NamedFault.{NamedFault}
use Rattle.journal_protocol.specs.RawMessage.{RawMessage}
use Rattle.journal_protocol.specs.Notification.{Notification}
use Rattle.journal_protocol.specs.NotificationResult.{NotificationResult}
use Rattle.vm_state.specs.declared.state_map.StateMap.{StateMap}
use Rattle.vm_types.specs.declared.steps.Answer.{Answer}
use Rattle.vm_model.specs.Calls.{Setup, Meaning, Derived, Demand, Move}
use Rattle.vm_model.specs.Calls.Move.{Answers, Needs, Awaits, Ends, Refuses}
use Rattle.vm_model.specs.Moves.{Point, and_then, after, command_used, longer, later, move_at, moved, next, found, own, supplied, supply, uses_arrival, uses_command}
use Rattle.vm_model.specs.Histories.{Knowledge, Made}
use Rattle.journal_entries.specs.Journal.{stored_form}

pub none_some : {A P : Type 0} {x : A} → None ≡ Some x → P
none_some h = absurd (cc)

pub and_then_some : {A B : Type 0} (o : Option A) (f : A → Option B) (y : B) → and_then o f ≡ Some y → (x : A) × (o ≡ Some x) × (f x ≡ Some y)
and_then_some None f y h = none_some h
and_then_some (Some x) f y h = (x, refl, h)

-- map on options, for what each move leaves
mapped : {A B : Type 0} → (A → B) → Option A → Option B
mapped f None = None
mapped f (Some x) = Some (f x)

-- ---- further commands

command_used_longer : (cs : List RawMessage) (o : Result (Option NotificationResult) NamedFault) (e : Demand) (gives : List Answer) (d : Derived) (left : List RawMessage) (p q : Point) → command_used o e gives d left p ≡ Some q → command_used o e gives d (left ++ cs) (longer cs p) ≡ Some (longer cs q)
unfolding mapped
command_used_longer cs (Err name) e gives d left p q h = none_some h
command_used_longer cs (Ok result) e gives d left p q h = ap (mapped (longer cs)) h

uses_command_longer : (cs : List RawMessage) (e : Demand) (gives : List Answer) (d : Derived) (left : List RawMessage) (p q : Point) → uses_command e gives d left p ≡ Some q → uses_command e gives d (left ++ cs) (longer cs p) ≡ Some (longer cs q)
uses_command_longer cs e gives d [] p q h = none_some h
uses_command_longer cs e gives d (c ∷ left) p q h = command_used_longer cs (found e c) e gives d left p q h

uses_arrival_longer : (cs : List RawMessage) (queue : List Notification) (p q : Point) → uses_arrival queue p ≡ Some q → uses_arrival queue (longer cs p) ≡ Some (longer cs q)
unfolding mapped
uses_arrival_longer cs [] p q h = none_some h
uses_arrival_longer cs (n ∷ ns) p q h = ap (mapped (longer cs)) h

moved_longer : (cs : List RawMessage) (mv : Move) (p q : Point) → moved mv p ≡ Some q → moved mv (longer cs p) ≡ Some (longer cs q)
unfolding mapped
moved_longer cs (Answers gives d) p q h = ap (mapped (longer cs)) h
moved_longer cs (Needs e gives d) p q h = uses_command_longer cs e gives d p.left p q h
moved_longer cs Awaits p q h = uses_arrival_longer cs p.queue p q h
moved_longer cs Ends p q h = none_some h
moved_longer cs (Refuses name) p q h = none_some h

-- further commands change nothing
pub next_longer : (s : Setup) (m : Meaning) (cs : List RawMessage) (p q : Point) → next s m p ≡ Some q → next s m (longer cs p) ≡ Some (longer cs q)
next_longer s m cs p q h = moved_longer cs (move_at s m p) p q h

-- ---- later arrivals

command_used_later : (ns : List Notification) (o : Result (Option NotificationResult) NamedFault) (e : Demand) (gives : List Answer) (d : Derived) (left : List RawMessage) (p q : Point) → command_used o e gives d left p ≡ Some q → command_used o e gives d left (later ns p) ≡ Some (later ns q)
unfolding mapped
command_used_later ns (Err name) e gives d left p q h = none_some h
command_used_later ns (Ok result) e gives d left p q h = ap (mapped (later ns)) h

uses_command_later : (ns : List Notification) (e : Demand) (gives : List Answer) (d : Derived) (left : List RawMessage) (p q : Point) → uses_command e gives d left p ≡ Some q → uses_command e gives d left (later ns p) ≡ Some (later ns q)
uses_command_later ns e gives d [] p q h = none_some h
uses_command_later ns e gives d (c ∷ left) p q h = command_used_later ns (found e c) e gives d left p q h

uses_arrival_later : (ns queue : List Notification) (p q : Point) → uses_arrival queue p ≡ Some q → uses_arrival (queue ++ ns) (later ns p) ≡ Some (later ns q)
unfolding mapped
uses_arrival_later ns [] p q h = none_some h
uses_arrival_later ns (n ∷ queue) p q h = ap (mapped (later ns)) h

moved_later : (ns : List Notification) (mv : Move) (p q : Point) → moved mv p ≡ Some q → moved mv (later ns p) ≡ Some (later ns q)
unfolding mapped
moved_later ns (Answers gives d) p q h = ap (mapped (later ns)) h
moved_later ns (Needs e gives d) p q h = uses_command_later ns e gives d p.left p q h
moved_later ns Awaits p q h = uses_arrival_later ns p.queue p q h
moved_later ns Ends p q h = none_some h
moved_later ns (Refuses name) p q h = none_some h

-- later arrivals change nothing
pub next_later : (s : Setup) (m : Meaning) (ns : List Notification) (p q : Point) → next s m p ≡ Some q → next s m (later ns p) ≡ Some (later ns q)
next_later s m ns p q h = moved_later ns (move_at s m p) p q h

-- ---- runs of several moves

pub after_longer : (s : Setup) (m : Meaning) (cs : List RawMessage) (n : ℕ) (p q : Point) → after s m n p ≡ Some q → after s m n (longer cs p) ≡ Some (longer cs q)
unfolding mapped
after_longer s m cs zero p q h = ap (mapped (longer cs)) h
after_longer s m cs (suc n) p q h =
    let x = and_then_some (next s m p) (after s m n) q h in
    rw (next_longer s m cs p x.0 x.1) (after_longer s m cs n x.0 q x.2)

pub after_later : (s : Setup) (m : Meaning) (ns : List Notification) (n : ℕ) (p q : Point) → after s m n p ≡ Some q → after s m n (later ns p) ≡ Some (later ns q)
unfolding mapped
after_later s m ns zero p q h = ap (mapped (later ns)) h
after_later s m ns (suc n) p q h =
    let x = and_then_some (next s m p) (after s m n) q h in
    rw (next_later s m ns p x.0 x.1) (after_later s m ns n x.0 q x.2)

-- further commands and later arrivals change nothing
pub after_more : (s : Setup) (m : Meaning) (n : ℕ) (cs : List RawMessage) (ns : List Notification) (p q : Point) → after s m n p ≡ Some q → after s m n (longer cs (later ns p)) ≡ Some (longer cs (later ns q))
after_more s m n cs ns p q h = after_longer s m cs n (later ns p) (later ns q) (after_later s m ns n p q h)

pub longer_twice : (cs ds : List RawMessage) (p : Point) → longer ds (longer cs p) ≡ longer (cs ++ ds) p
longer_twice cs ds p = λ i. record p { left = append_assoc p.left cs ds i }

pub longer_nothing : (p : Point) → longer [] p ≡ p
longer_nothing p = λ i. record p { left = append-nil p.left i }

-- what is made is then as recorded
pub made_after : (s : Setup) (m : Meaning) (K : Knowledge) (n : ℕ) (p : Point) (made : List RawMessage) (q : Point) → Made s m K n p made q → after s m n (longer made p) ≡ Some q
made_after s m K zero p made q h = rw h.0 (ap Some (longer_nothing p ∙ h.1))
made_after s m K (suc n) p made q (state, r, rest, knows, is, moves, further) =
    rw (is, ← longer_twice (supplied s m state p) rest p, next_longer s m rest (longer (supplied s m state p) p) r moves) (made_after s m K n r rest q further)

-- later arrivals leave what is made
pub made_later : (s : Setup) (m : Meaning) (K : Knowledge) (ns : List Notification) (n : ℕ) (p : Point) (made : List RawMessage) (q : Point) → Made s m K n p made q → Made s m K n (later ns p) made (later ns q)
made_later s m K ns zero p made q h = (h.0, ap (later ns) h.1)
made_later s m K ns (suc n) p made q (state, r, rest, knows, is, moves, further) =
    (state, later ns r, rest, knows, is, next_later s m ns (longer (supplied s m state p) p) r moves, made_later s m K ns n r rest q further)

-- one run after another
pub made_add : (s : Setup) (m : Meaning) (K : Knowledge) (n k : ℕ) (p : Point) (made : List RawMessage) (q : Point) (more : List RawMessage) (r : Point) → Made s m K n p made q → Made s m K k q more r → Made s m K (n + k) p (made ++ more) r
made_add s m K zero k p made q more r h t = rw (zero-add, h.0, h.1) t
made_add s m K (suc n) k p made q more r (state, x, rest, knows, is, moves, further) t =
    rw suc-add (state, x, rest ++ more, knows, ap (λ l. l ++ more) is ∙ append_assoc (supplied s m state p) rest more, moves, made_add s m K n k x rest q more r further t)

-- ---- a beginning of what is made is made by a beginning of the run

split_supply : (state : StateMap) (mv : Move) (left rest front back : List RawMessage) → front ++ back ≡ supply state mv left ++ rest → (front ≡ []) ⊎ ((x : List RawMessage) × (front ≡ supply state mv left ++ x) × (x ++ back ≡ rest))
split_supply state (Answers gives d) left rest front back e = inr (front, refl, e)
split_supply state Awaits left rest front back e = inr (front, refl, e)
split_supply state Ends left rest front back e = inr (front, refl, e)
split_supply state (Refuses name) left rest front back e = inr (front, refl, e)
split_supply state (Needs demand gives d) (c ∷ left) rest front back e = inr (front, refl, e)
split_supply state (Needs demand gives d) [] rest [] back e = inl refl
split_supply state (Needs demand gives d) [] rest (c ∷ front) back e = inr (front, (cc), (cc))

pub made_front : (s : Setup) (m : Meaning) (K : Knowledge) (n : ℕ) (p : Point) (front back : List RawMessage) (q : Point) → Made s m K n p (front ++ back) q → (k : ℕ) × (r : Point) × Made s m K k p front r
made_front s m K zero p [] back q h = (0, p, (refl, refl))
made_front s m K zero p (c ∷ front) back q h = absurd (cc)
made_front s m K (suc n) p front back q (state, x, rest, knows, is, moves, further) =
    ⊎_elim
    (λ (e : front ≡ []). (0, p, (e, refl)))
    (λ (y : (y : List RawMessage) × (front ≡ supplied s m state p ++ y) × (y ++ back ≡ rest)).
    let h = made_front s m K n x y.0 back q (subst (λ l. Made s m K n x l q) (sym y.2) further) in
    (suc h.0, h.1, (state, x, y.0, knows, y.1, moves, h.2)))
    (split_supply state (move_at s m p) p.left rest front back is)

-- ---- if no recorded command is left, none is left after further moves

command_used_spent : (o : Result (Option NotificationResult) NamedFault) (e : Demand) (gives : List Answer) (d : Derived) (p q : Point) → command_used o e gives d [] p ≡ Some q → q.left ≡ []
command_used_spent (Err name) e gives d p q h = none_some h
command_used_spent (Ok result) e gives d p q h = ap (λ z. z.left) (sym (same_Some _ _ h))

uses_arrival_spent : (queue : List Notification) (p q : Point) → p.left ≡ [] → uses_arrival queue p ≡ Some q → q.left ≡ []
uses_arrival_spent [] p q e h = none_some h
uses_arrival_spent (n ∷ queue) p q e h = ap (λ z. z.left) (sym (same_Some _ _ h)) ∙ e

moved_spent : (state : StateMap) (mv : Move) (p q : Point) → moved mv (record p { left = supply state mv [] }) ≡ Some q → q.left ≡ []
moved_spent state (Answers gives d) p q h = ap (λ z. z.left) (sym (same_Some _ _ h))
moved_spent state (Needs e gives d) p q h = command_used_spent (found e (stored_form (own state e))) e gives d (record p { left = stored_form (own state e) ∷ [] }) q h
moved_spent state Awaits p q h = uses_arrival_spent p.queue (record p { left = [] }) q refl h
moved_spent state Ends p q h = none_some h
moved_spent state (Refuses name) p q h = none_some h

-- the move of a point with nothing recorded left
pub moved_alone : (s : Setup) (m : Meaning) (state : StateMap) (p q : Point) → p.left ≡ [] → next s m (longer (supplied s m state p) p) ≡ Some q → moved (move_at s m p) (record p { left = supply state (move_at s m p) [] }) ≡ Some q
moved_alone s m state p q e h = let mv = move_at s m p in subst (λ (l : List RawMessage). moved mv (record p { left = l ++ supply state mv l }) ≡ Some q) e h

pub next_spent : (s : Setup) (m : Meaning) (state : StateMap) (p q : Point) → p.left ≡ [] → next s m (longer (supplied s m state p) p) ≡ Some q → q.left ≡ []
next_spent s m state p q e h = moved_spent state (move_at s m p) p q (moved_alone s m state p q e h)

pub no_supply : (state other : StateMap) (mv : Move) (rest : List RawMessage) → supply other mv (supply state mv [] ++ rest) ≡ []
no_supply state other (Answers gives d) rest = refl
no_supply state other (Needs e gives d) rest = refl
no_supply state other Awaits rest = refl
no_supply state other Ends rest = refl
no_supply state other (Refuses name) rest = refl

pub made_spent : (s : Setup) (m : Meaning) (K : Knowledge) (n : ℕ) (p : Point) (made : List RawMessage) (q : Point) → p.left ≡ [] → Made s m K n p made q → q.left ≡ []
made_spent s m K zero p made q spent h = ap (λ z. z.left) (sym h.1) ∙ spent
made_spent s m K (suc n) p made q spent (state, r, rest, knows, is, moves, further) = made_spent s m K n r rest q (next_spent s m state p r spent moves) further
