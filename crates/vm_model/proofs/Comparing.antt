-- Where payloads are compared, the recorded commands that a run used change the state as its calls say.
use Rattle.std.proofs.Common.{◌≡◌, ◌⊎◌, ℕ, zero, suc, Bool, true, false, ◌&&◌, ◌||◌, List, [], ◌∷◌, ◌++◌, Option, Some, None, refl, sym, ap, ◌∙◌, subst, append_assoc, append-nil, inl, inr, ⊎_elim}
use Rattle.std.specs.Prelude.{nat_eq, ◌==◌, if◌then◌else◌, Result, Ok, Err}
use Rattle.std.specs.Cmp.Lexicographic.{pointwise}
use Rattle.std.specs.List.{AllByRecursion}
use Rattle.std.proofs.lemmas.Option.{same_Some}
use Rattle.journal_protocol.specs.NamedFault.{NamedFault}
use Rattle.journal_protocol.specs.NamedFault.TheVariants as fault
use Rattle.journal_protocol.specs.Version.{Version}
use Rattle.journal_protocol.specs.Types.{type_number}
use Rattle.journal_protocol.specs.Equality.{header_equal}
use Rattle.journal_protocol.specs.Message.{Message}
use Rattle.journal_protocol.specs.Message.TheVariants as message
use Rattle.journal_protocol.specs.RawMessage.{RawMessage}
use Rattle.journal_protocol.specs.Frames.{type_of}
use Rattle.journal_protocol.specs.Bodies.{message_in}
use Rattle.journal_protocol.proofs.Facts.{type_read}
use Rattle.journal_protocol.specs.Notification.{Notification}
use Rattle.journal_protocol.specs.NotificationResult.{NotificationResult}
use Rattle.vm_state.specs.declared.state_map.StateMap.{StateMap}
use Rattle.vm_state.specs.States.{state_set}
use Rattle.vm_types.specs.declared.options.NonDeterministicChecksOption.TheVariants as checks
use Rattle.vm_types.specs.declared.steps.Answer.{Answer}
use Rattle.vm_types.specs.declared.steps.Step.{Step}
use Rattle.vm_types.specs.declared.steps.Step.TheVariants as step
use Rattle.vm_asks.specs.declared.asks.Ask.{Ask}
use Rattle.vm_asks.specs.declared.asks.Ask.TheVariants as ask
use Rattle.vm_asks.specs.declared.state_read.StateRead.{StateRead}
use Rattle.vm_asks.specs.declared.state_read.StateRead.TheVariants as reads
use Rattle.vm_asks.specs.Asks.{EachIs, ask_of}
use Rattle.vm_asks.specs.Requests.{changed}
use Rattle.vm_asks.specs.StateReads.{eager_form, eager_type, lazy_form, lazy_type, read_in_form, recorded_as}
use Rattle.vm_types.specs.Options.{checks_are_off}
use Rattle.vm_asks.proofs.Numbering.{same_type}
use Rattle.vm_model.specs.Calls.{Setup, Meaning, Demand, Derived, Move}
use Rattle.vm_model.specs.Calls.Demand.{Exactly, Reads}
use Rattle.vm_model.specs.Calls.Move.{Answers, Needs, Awaits, Ends, Refuses}
use Rattle.vm_model.specs.ComparedSets.{IsNoUnstableSet, SetsAreCompared}
use Rattle.vm_model.specs.Histories.{History}
use Rattle.journal_entries.specs.Journal.{Entry, messages_in, notifications_in, read_before}
use Rattle.vm_model.specs.Moves.{Point, after, changed_by, command_used, found, move_at, moved, next, reads_as, said_of, start, uses_arrival, uses_command}
use Rattle.vm_model.specs.SoundHistories.{SoundHistory}
use Rattle.vm_model.specs.Sums.{calls_after, calls_for}
use Rattle.vm_model.proofs.Carried.{typed}
use Rattle.vm_model.proofs.Demands.{OfAsk, OfMove, asked_is}
use Rattle.vm_model.proofs.Eager.{messages-append}
use Rattle.vm_model.proofs.Runs.{and_then_some, none_some}
use Rattle.vm_model.proofs.States.{changed_by-append}
use Rattle.vm_model.proofs.Stored.{both, changes_state, read_says, text_is, unchanged, unread}

-- ---- a recorded command

-- where what is needed changes the state, its payload is compared
abbrev ComparesState : Demand → Type 0
ComparesState (Exactly command ignore) = changes_state (type_of command) ≡ true → ignore ≡ false
ComparesState (Reads r id) = Unit {0}

-- a header-equal command of the same type changes the state in the same way
same_payload : (command recorded : Message) (ignore : Bool) → ComparesState (Exactly command ignore) → type_of recorded ≡ type_of command → header_equal recorded command ignore ≡ true → (g : StateMap) → changed recorded g ≡ changed command g
unfolding header_equal
same_payload (message.SetState b) (message.SetState a) ignore compares one e g =
    let e' : (pointwise nat_eq a.name b.name && pointwise nat_eq a.key b.key && (false || pointwise nat_eq a.value b.value)) ≡ true = sym (ap (λ i. pointwise nat_eq a.name b.name && pointwise nat_eq a.key b.key && (i || pointwise nat_eq a.value b.value)) (compares refl)) ∙ e in
    let halves = both (pointwise nat_eq a.name b.name && pointwise nat_eq a.key b.key) (false || pointwise nat_eq a.value b.value) e' in
    let key = text_is a.key b.key (both (pointwise nat_eq a.name b.name) (pointwise nat_eq a.key b.key) halves.0).1 in
    let value = text_is a.value b.value halves.1 in
    (λ i. state_set (key i) (value i) g)
same_payload (message.ClearState b) (message.ClearState a) ignore compares one e g = ap (λ key. changed (message.ClearState (record { name = []; key = key })) g) (text_is a.key b.key (both (pointwise nat_eq a.name b.name) (pointwise nat_eq a.key b.key) e).1)
same_payload (message.ClearAllState b) (message.ClearAllState a) ignore compares one e g = refl
same_payload (message.SetState b) n ignore compares one e g = absurd (cc)
same_payload (message.ClearState b) n ignore compares one e g = absurd (cc)
same_payload (message.ClearAllState b) n ignore compares one e g = absurd (cc)
same_payload m n ignore compares one e g = unchanged n (ap changes_state one) g

-- a recorded command of another type than those that change the state
quiet_says : (raw : RawMessage) → changes_state raw.ty ≡ false → (g : StateMap) → changed_by (messages_in (raw ∷ [])) g ≡ g
quiet_says raw quiet g = by_message (message_in raw.ty raw.body) refl
  where
    by_message : (o : Option Message) → message_in raw.ty raw.body ≡ o → changed_by (read_before o []) g ≡ g
    by_message None is = refl
    by_message (Some n) is = unchanged n (ap changes_state (type_read raw.ty raw.body n is) ∙ quiet) g

lazy_quiet : (r : StateRead) → changes_state (lazy_type r) ≡ false
lazy_quiet (reads.Value key name) = refl
lazy_quiet (reads.Keys name) = refl

eager_quiet : (r : StateRead) → changes_state (eager_type r) ≡ false
eager_quiet (reads.Value key name) = refl
eager_quiet (reads.Keys name) = refl

-- a recorded read has the type of one
read_quiet : (r : StateRead) (id : ℕ) (raw : RawMessage) (result : Option NotificationResult) → recorded_as r id raw ≡ Ok result → changes_state raw.ty ≡ false
read_quiet r id raw result f = by_tests (type_number raw.ty == type_number (lazy_type r)) refl (type_number raw.ty == type_number (eager_type r)) refl f
  where
    by_tests : (a : Bool) → (type_number raw.ty == type_number (lazy_type r)) ≡ a → (b : Bool) → (type_number raw.ty == type_number (eager_type r)) ≡ b → read_in_form (if a then Some (lazy_form r id) else if b then Some (eager_form r) else None) (message_in raw.ty raw.body) ≡ Ok result → changes_state raw.ty ≡ false
    by_tests true l b e h = ap changes_state (typed raw.ty (lazy_type r) l) ∙ lazy_quiet r
    by_tests false l true e h = ap changes_state (typed raw.ty (eager_type r) e) ∙ eager_quiet r
    by_tests false l false e h = absurd (cc)

-- a recorded command that stands for what is needed changes the state as the call says
recorded_changes : (e : Demand) (raw : RawMessage) (result : Option NotificationResult) → found e raw ≡ Ok result → ComparesState e → (g : StateMap) → changed_by (messages_in (raw ∷ [])) g ≡ changed (said_of e) g
recorded_changes (Exactly command ignore) raw result f compares g = by_type (type_number raw.ty == type_number (type_of command)) refl f
  where
    by_type : (b : Bool) → (type_number raw.ty == type_number (type_of command)) ≡ b → (if b then reads_as ignore command (message_in raw.ty raw.body) else Err fault.CommandTypeMismatch) ≡ Ok result → changed_by (messages_in (raw ∷ [])) g ≡ changed command g
    by_type true is h =
        let x = unread command ignore true (message_in raw.ty raw.body) result h in
        ap (λ o. changed_by (read_before o []) g) x.1 ∙ same_payload command x.0 ignore compares (type_read raw.ty raw.body x.0 x.1 ∙ typed raw.ty (type_of command) is) x.2 g
    by_type false is h = absurd (cc)
recorded_changes (Reads r id) raw result f compares g = quiet_says raw (read_quiet r id raw result f) g ∙ sym (read_says r id g)

-- ---- what calls need

-- the command of a call that sets no key with a value that may differ: where it changes the state, its payload is looked at
abbrev StableAsk : Step → Ask → Type 0
StableAsk st (ask.Command c) = IsNoUnstableSet st → changes_state (type_of c.message) ≡ true → c.unstable ≡ false
StableAsk st (ask.Commands kind first second) = EachIs (λ c. changes_state (type_of c.message) ≡ false) first (second ∷ [])
StableAsk st a = Unit {0}

steps_stable : (version : Version) (st : Step) → StableAsk st (ask_of version st)
steps_stable version (step.StateSet key value name options) = λ stable changes. stable
steps_stable version (step.StateClear key name) = λ stable changes. refl
steps_stable version (step.StateClearAll name) = λ stable changes. refl
steps_stable version (step.StateGet key name options) = tt
steps_stable version (step.StateGetKeys name) = tt
steps_stable version (step.CallWithDeadline target input time name options) = (refl, refl)
steps_stable version step.Awakeable = tt
steps_stable version (step.Signal name) = tt
steps_stable version (step.Await future) = tt
steps_stable version (step.Take handle) = tt
steps_stable version (step.Completed handle) = tt
steps_stable version step.End = tt
steps_stable version st = λ stable (changes : false ≡ true). absurd (cc)

-- What a move of the step needs is compared where it changes the state; or the move answers the step, and it is so where the step is no
-- set with a value that may differ.
abbrev StepCompares : Step → Demand → List Answer → Type 0
StepCompares st e gives = ComparesState e ⊎ ((a : Answer) × (gives ≡ a ∷ []) × (IsNoUnstableSet st → ComparesState e))

stable_ask : (s : Setup) → s.options.non_determinism_checks ≡ checks.Enabled → (st : Step) (a : Ask) → StableAsk st a → OfAsk s (StepCompares st) a
stable_ask s on st (ask.Command c) h = λ d a. inr (a, refl, λ stable changes. ap (λ o. checks_are_off o || c.unstable) on ∙ h stable (sym (ap changes_state (same_type d.counters.completion c.message)) ∙ changes))
stable_ask s on st (ask.Commands kind first second) h = (
  λ d gives. inl (λ changes. absurd (let z : false ≡ true = sym (ap changes_state (same_type d.counters.completion first.message) ∙ h.0) ∙ changes in cc)),
  λ d gives. inl (λ changes. absurd (let z : false ≡ true = sym (ap changes_state (same_type d.counters.completion second.message) ∙ h.1) ∙ changes in cc)),
)
stable_ask s on st a h = tt

stable_move : (s : Setup) → s.options.non_determinism_checks ≡ checks.Enabled → (m : Meaning) (p : Point) → OfMove (StepCompares (m p.answers)) (move_at s m p)
stable_move s on m p =
    let st = m p.answers in
    asked_is s (StepCompares st) (λ r id gives. inl tt) (λ id d. inl (λ (changes : false ≡ true). absurd (cc))) (ask_of s.version st) p.derived (stable_ask s on st (ask_of s.version st) (steps_stable s.version st))

-- ---- moves

-- What was said between two points, and the recorded commands that were used: they change the state alike, where this is so of the answers
-- that came.
record Alike (P : List Answer → Type 0) (p q : Point) : Type 0 where
  used : List RawMessage
  left : p.left ≡ used ++ q.left
  gained : List Answer
  answers : q.answers ≡ p.answers ++ gained
  alike : P gained → (g : StateMap) → changed_by q.said g ≡ changed_by (messages_in used) (changed_by p.said g)

-- the step is no set with a value that may differ, where an answer came
abbrev StableFor : Step → List Answer → Type 0
StableFor st gained = (a : Answer) (more : List Answer) → gained ≡ a ∷ more → IsNoUnstableSet st

arrival_alike : (P : List Answer → Type 0) (queue : List Notification) (p q : Point) → uses_arrival queue p ≡ Some q → Alike P p q
arrival_alike P [] p q h = none_some h
arrival_alike P (n ∷ queue) p q h =
    let is = same_Some _ q h in
    record { used = []; left = ap (λ z. z.left) is; gained = []; answers = ap (λ z. z.answers) (sym is) ∙ sym (append-nil p.answers); alike = λ so g. ap (λ z. changed_by z.said g) (sym is) }

command_alike : (st : Step) (e : Demand) (gives : List Answer) (d : Derived) (c : RawMessage) (left : List RawMessage) (p q : Point) (o : Result (Option NotificationResult) NamedFault) → p.left ≡ c ∷ left → found e c ≡ o → StepCompares st e gives → command_used o e gives d left p ≡ Some q → Alike (StableFor st) p q
command_alike st e gives d c left p q (Err name) front is compares h = none_some h
command_alike st e gives d c left p q (Ok result) front is compares h =
    let to = same_Some _ q h in
    record {
      used = c ∷ [];
      left = front ∙ ap (λ z. c ∷ z.left) to;
      gained = gives;
      answers = ap (λ z. z.answers) (sym to);
      alike = λ stable g.
          let so : ComparesState e = ⊎_elim (λ (x : ComparesState e). x) (λ (x : (a : Answer) × (gives ≡ a ∷ []) × (IsNoUnstableSet st → ComparesState e)). x.2 (stable x.0 [] x.1)) compares in
          ap (λ z. changed_by z.said g) (sym to) ∙ changed_by-append p.said (said_of e ∷ []) g ∙ sym (recorded_changes e c result is so (changed_by p.said g));
    }

moved_alike : (st : Step) (mv : Move) (p q : Point) → OfMove (StepCompares st) mv → moved mv p ≡ Some q → Alike (StableFor st) p q
moved_alike st (Answers gives d) p q compares h =
    let is = same_Some _ q h in
    record { used = []; left = ap (λ z. z.left) is; gained = gives; answers = ap (λ z. z.answers) (sym is); alike = λ so g. ap (λ z. changed_by z.said g) (sym is) }
moved_alike st (Needs e gives d) p q compares h = by_left p.left refl h
  where
    by_left : (left : List RawMessage) → p.left ≡ left → uses_command e gives d left p ≡ Some q → Alike (StableFor st) p q
    by_left [] front t = none_some t
    by_left (c ∷ left) front t = command_alike st e gives d c left p q (found e c) front refl compares t
moved_alike st Awaits p q compares h = arrival_alike (StableFor st) p.queue p q h
moved_alike st Ends p q compares h = none_some h
moved_alike st (Refuses name) p q compares h = none_some h

-- ---- several moves

-- no call between these answers is a set with a value that may differ
abbrev StableBehind : Meaning → List Answer → List Answer → Type 0
StableBehind m before gained = AllByRecursion IsNoUnstableSet (calls_after m before gained)

stable_first : (m : Meaning) (before xs ys : List Answer) → StableBehind m before (xs ++ ys) → StableFor (m before) xs
stable_first m before [] ys h a more e = absurd (cc)
stable_first m before (x ∷ xs) ys h a more e = h.0

stable_rest : (m : Meaning) (before xs ys : List Answer) → StableBehind m before (xs ++ ys) → StableBehind m (before ++ xs) ys
stable_rest m before [] ys h = subst (λ l. StableBehind m l ys) (sym (append-nil before)) h
stable_rest m before (x ∷ xs) ys h = subst (λ l. StableBehind m l ys) (append_assoc before (x ∷ []) xs) (stable_rest m (before ++ x ∷ []) xs ys h.1)

alike_none : (m : Meaning) (p : Point) → Alike (StableBehind m p.answers) p p
alike_none m p = record { used = []; left = refl; gained = []; answers = sym (append-nil p.answers); alike = λ so g. refl }

alike_then : (m : Meaning) (p r q : Point) → Alike (StableFor (m p.answers)) p r → Alike (StableBehind m r.answers) r q → Alike (StableBehind m p.answers) p q
alike_then m p r q a b = record {
  used = a.used ++ b.used;
  left = a.left ∙ ap (λ l. a.used ++ l) b.left ∙ sym (append_assoc a.used b.used q.left);
  gained = a.gained ++ b.gained;
  answers = b.answers ∙ ap (λ l. l ++ b.gained) a.answers ∙ append_assoc p.answers a.gained b.gained;
  alike = λ stable g.
      b.alike (subst (λ l. StableBehind m l b.gained) (sym a.answers) (stable_rest m p.answers a.gained b.gained stable)) g
      ∙ ap (changed_by (messages_in b.used)) (a.alike (stable_first m p.answers a.gained b.gained stable) g)
      ∙ sym (changed_by-append (messages_in a.used) (messages_in b.used) (changed_by p.said g))
      ∙ ap (λ l. changed_by l (changed_by p.said g)) (sym (messages-append a.used b.used));
}

after_alike : (s : Setup) → s.options.non_determinism_checks ≡ checks.Enabled → (m : Meaning) (n : ℕ) (p q : Point) → after s m n p ≡ Some q → Alike (StableBehind m p.answers) p q
after_alike s on m zero p q h = subst (Alike (StableBehind m p.answers) p) (same_Some p q h) (alike_none m p)
after_alike s on m (suc n) p q h =
    let x = and_then_some (next s m p) (after s m n) q h in
    alike_then m p x.0 q (moved_alike (m p.answers) (move_at s m p) p x.0 (stable_move s on m p) x.1) (after_alike s on m n x.0 q x.2)

-- ---- histories

pub compared_is_sound : (s : Setup) (m : Meaning) (base : StateMap) (journal : List Entry) (h : History s m base journal) → SetsAreCompared s (calls_for m h.at.answers) → SoundHistory s m base journal
compared_is_sound s m base journal h compared =
    let x = after_alike s compared.compared m h.told.0 (start s h.input (notifications_in journal) h.rest) h.at h.told.1 in
    let all : h.rest ≡ x.used = x.left ∙ ap (λ l. x.used ++ l) h.uses_all ∙ append-nil x.used in
    let stable = subst (λ l. AllByRecursion IsNoUnstableSet (calls_for m l)) x.answers compared.stable in
    record {
      history = h;
      leaves = ap (λ l. changed_by (messages_in l) base) all ∙ sym (x.alike stable base);
    }
