-- What frames bring to a machine: arrivals, where they are notifications or acknowledge what it has proposed; else it fails.
use Rattle.std.specs.List.{find}
use Rattle.std.specs.Option.{option_map}
use Rattle.vm_runs.specs.Firsts.{without_first}
use Rattle.vm_runs.specs.Kept.{is_for}
use Rattle.journal_protocol.specs.ProposeRunCompletion.{ProposeRunCompletion}
use Rattle.journal_protocol.specs.ProposeRunCompletionAck.{ProposeRunCompletionAck}
use Rattle.std.proofs.Common.{◌≡◌, ◌⊎◌, ℕ, Bool, true, false, cond, List, [], ◌∷◌, ◌++◌, Option, Some, None, refl, sym, ap, ◌∙◌, subst, inl, inr, ⊎_elim, append_assoc, append-nil}
use Rattle.std.specs.Prelude.{◌==◌, ◌&&◌, if◌then◌else◌, is_some, nat_le, nat_lt, IsSome}
use Rattle.std.proofs.lemmas.Bool.{eqb-true}
use Rattle.journal_protocol.specs.Error.{Error}
use Rattle.journal_protocol.specs.NamedFault.TheVariants as fault
use Rattle.journal_protocol.specs.RawMessage.{RawMessage}
use Rattle.journal_protocol.specs.GetStateEphemeralNotification.{GetStateEphemeralNotification}
use Rattle.journal_protocol.specs.VoidOrValue.{VoidOrValue}
use Rattle.journal_protocol.specs.Bodies.{ephemeral_notification_in, notification_in, acknowledgement_in}
use Rattle.vm_machine.specs.Ephemerals.{completed_by, ephemeral_notification_step, result_comes}
use Rattle.journal_protocol.specs.Notification.{Notification}
use Rattle.journal_protocol.specs.Types.{type_number}
use Rattle.vm_state.specs.declared.state_map.StateMap.{StateMap}
use Rattle.vm_machine.specs.declared.machine.Machine.{Machine}
use Rattle.vm_machine.specs.declared.phase.Phase.{Phase}
use Rattle.vm_machine.specs.declared.phase.Phase.TheVariants.{WaitingStart, WaitingReplayEntries, Replaying, Processing, Closed}
use Rattle.vm_machine.specs.Inputs.{entry_step, message_step, notification_step, queued, start_step, acknowledged, acknowledged_by, acknowledgement_step}
use Rattle.journal_entries.specs.Proposals.{acknowledged_completion}
use Rattle.vm_machine.specs.Outcomes.{Outcome, called, called_at, refused, settled}
use Rattle.vm_machine.specs.Phases.{is_closed, is_processing, is_running}
use Rattle.invocation_vm.specs.Views.{all_received, left_by, received}
use Rattle.vm_model.specs.Calls.{Setup, identity_of}
use Rattle.vm_model.specs.Moves.{Point, later}
use Rattle.vm_attempt.specs.Agreement.{Agrees, Aside, machine_at}
use Rattle.vm_attempt.specs.Arrivals.{arriving, arrival_of, kept_after, kept_behind, acknowledged_as, unacknowledged}
use Rattle.journal_entries.specs.JournalFrames.{is_acknowledgement, is_ephemeral, is_notification, notifications_among, notified_by}
use Rattle.vm_attempt.proofs.Requesting.{runs_at}

-- a machine that has failed stays as it is
pub failed_receives : (e : Error) (v : Machine) (raw : RawMessage) → v.failure ≡ Some e → received raw v ≡ v
unfolding received called
failed_receives e v raw is = ap (λ f. left_by (called_at f (message_step raw v) v)) is

pub failed_stays : (e : Error) (v : Machine) (raws : List RawMessage) → v.failure ≡ Some e → all_received raws v ≡ v
failed_stays e v [] is = refl
failed_stays e v (raw ∷ raws) is = ap (all_received raws) (failed_receives e v raw is) ∙ failed_stays e v raws is

-- a machine that hasn't failed does what the message does, by the error rule
pub live_receives : (v : Machine) (raw : RawMessage) → v.failure ≡ None → received raw v ≡ left_by (settled (message_step raw v))
unfolding received called
live_receives v raw is = ap (λ f. left_by (called_at f (message_step raw v) v)) is

-- ---- a frame of no other kind

-- by whether it brings the result of an ephemeral read
abbrev pub unknown_step : Bool → RawMessage → Phase → Machine → Outcome Unit
unknown_step ephemeral raw phase v = if ephemeral then ephemeral_notification_step raw phase v else refused fault.UnexpectedInputMessage v

-- it is refused while the handler waits or replays
pub unknown_fails : (b : Bool) (raw : RawMessage) (phase : Phase) (v : Machine) → is_processing phase ≡ false → is_closed phase ≡ false → IsSome (left_by (settled (unknown_step b raw phase v))).failure
unknown_fails true raw WaitingStart v past open_yet = refl
unknown_fails true raw WaitingReplayEntries v past open_yet = refl
unknown_fails true raw Replaying v past open_yet = refl
unknown_fails true raw Processing v past open_yet = absurd (cc)
unknown_fails true raw Closed v past open_yet = absurd (cc)
unknown_fails false raw phase v past open_yet = refl

pub unknown_dead : {A : Type 0} (b : Bool) (raw : RawMessage) (phase : Phase) (v : Machine) → is_processing phase ≡ false → is_closed phase ≡ false → (left_by (settled (unknown_step b raw phase v))).failure ≡ None → A
unknown_dead b raw phase v past open_yet none = absurd (let z : true ≡ false = sym (unknown_fails b raw phase v past open_yet) ∙ ap is_some none in cc)

-- ---- by the number of the type

abbrev by_number : RawMessage → ℕ → Machine → Outcome Unit
by_number raw n v =
    if n == 1 then start_step raw v.phase v
    else if nat_le 10 n && nat_lt n 30 then entry_step raw v.phase v
    else if n == 30 then notification_step raw v.phase v
    else if n == 6 then acknowledgement_step raw v.phase v
    else unknown_step (n == 9) raw v.phase v

notification_is : (v : Machine) (raw : RawMessage) → is_notification raw ≡ true → message_step raw v ≡ notification_step raw v.phase v
unfolding message_step
notification_is v raw e = ap (λ n. by_number raw n v) (eqb-true (type_number raw.ty) 30 e)

other_is : (v : Machine) (raw : RawMessage) → is_notification raw ≡ false
    → message_step raw v ≡ (if type_number raw.ty == 1 then start_step raw v.phase v else if nat_le 10 (type_number raw.ty) && nat_lt (type_number raw.ty) 30 then entry_step raw v.phase v else if type_number raw.ty == 6 then acknowledgement_step raw v.phase v else unknown_step (is_ephemeral raw) raw v.phase v)
unfolding message_step
other_is v raw e = ap (λ b. if type_number raw.ty == 1 then start_step raw v.phase v else if nat_le 10 (type_number raw.ty) && nat_lt (type_number raw.ty) 30 then entry_step raw v.phase v else if b then notification_step raw v.phase v else if type_number raw.ty == 6 then acknowledgement_step raw v.phase v else unknown_step (is_ephemeral raw) raw v.phase v) e

-- a frame isn't both
not_both : (raw : RawMessage) → is_notification raw ≡ true → is_acknowledgement raw ≡ false
not_both raw e = ap (λ n. n == 6) (eqb-true (type_number raw.ty) 30 e)

-- a notification comes to a machine whose handler runs
notified_step : (raw : RawMessage) (phase : Phase) (v : Machine) → is_running phase ≡ true → notification_step raw phase v ≡ queued (notification_in raw.body) (λ w. w) v
notified_step raw WaitingStart v e = absurd (cc)
notified_step raw WaitingReplayEntries v e = absurd (cc)
notified_step raw Closed v e = absurd (cc)
notified_step raw Replaying v e = refl
notified_step raw Processing v e = refl

-- ---- frames that come to a machine that agrees with a point

-- these arrivals more, with these proposals kept, or a machine that has failed
abbrev Comes : Setup → StateMap → List RawMessage → Machine → List Notification → List ProposeRunCompletion → Point → Type 0
Comes s given written v ns kept p = (Agrees s given written v (later ns p) × (v.proposals ≡ kept)) ⊎ IsSome v.failure

module _ (s : Setup) (given : StateMap) (written : List RawMessage) (aside : Aside) (p : Point) (identity : s.identity ≡ identity_of aside.start) where
  abbrev here : Machine
  here = machine_at s given written aside p

  queued_comes : (o : Option Notification) → Comes s given written (left_by (settled (queued o (λ w. w) here))) (notified_by o []) aside.proposals p
  queued_comes None = inr refl
  queued_comes (Some n) = inl (record { aside = aside; machine = refl; identity = identity }, refl)

  -- what was proposed is one more arrival
  kept_comes : (id : ℕ) (o : Option ProposeRunCompletion) → Comes s given written (left_by (settled (acknowledged id o here))) (notified_by (option_map (acknowledged_completion id) o) []) (without_first (is_for id) aside.proposals) p
  kept_comes id None = inr refl
  kept_comes id (Some kept) = inl (record { aside = record aside { proposals = without_first (is_for id) aside.proposals }; machine = refl; identity = identity }, refl)

  acknowledged_comes : (ack : Option ProposeRunCompletionAck) → Comes s given written (left_by (settled (acknowledged_by ack here))) (notified_by (acknowledged_as aside.proposals ack) []) (unacknowledged aside.proposals ack) p
  acknowledged_comes None = inr refl
  acknowledged_comes (Some ack) = kept_comes ack.id (find (is_for ack.id) aside.proposals)

  -- the result of an ephemeral read changes nothing, as none is held
  found_comes : (id : ℕ) (found : Option VoidOrValue) → Comes s given written (left_by (settled (result_comes id found here))) [] aside.proposals p
  found_comes id None = inr refl
  found_comes id (Some found) = inl (subst (Agrees s given written here) (λ i. record p { queue = sym (append-nil p.queue) i }) (record { aside = aside; machine = refl; identity = identity }), refl)

  completed_comes : (n : Option GetStateEphemeralNotification) → Comes s given written (left_by (settled (completed_by n here))) [] aside.proposals p
  completed_comes None = inr refl
  completed_comes (Some n) = found_comes n.id n.result

  unknown_comes : (b : Bool) (raw : RawMessage) → Comes s given written (left_by (settled (unknown_step b raw Processing here))) [] aside.proposals p
  unknown_comes true raw = completed_comes (ephemeral_notification_in raw.body)
  unknown_comes false raw = inr refl

  -- another message than a notification is refused, except an acknowledgement and the result of an ephemeral read in Processing
  other_comes : (raw : RawMessage) (phase : Phase) → is_running phase ≡ true → (a b d : Bool)
      → Comes s given written (left_by (settled (if a then start_step raw phase here else if b then entry_step raw phase here else if d then acknowledgement_step raw phase here else unknown_step (is_ephemeral raw) raw phase here)))
      (notified_by (if d then acknowledged_as aside.proposals (acknowledgement_in raw.body) else None) []) (if d then unacknowledged aside.proposals (acknowledgement_in raw.body) else aside.proposals) p
  other_comes raw WaitingStart e a b d = absurd (cc)
  other_comes raw WaitingReplayEntries e a b d = absurd (cc)
  other_comes raw Closed e a b d = absurd (cc)
  other_comes raw Replaying e true b d = inr refl
  other_comes raw Replaying e false true d = inr refl
  other_comes raw Replaying e false false true = inr refl
  other_comes raw Replaying e false false false = inr (unknown_fails (is_ephemeral raw) raw Replaying here refl refl)
  other_comes raw Processing e true b d = inr refl
  other_comes raw Processing e false true d = inr refl
  other_comes raw Processing e false false true = acknowledged_comes (acknowledgement_in raw.body)
  other_comes raw Processing e false false false = unknown_comes (is_ephemeral raw) raw

  one_comes : (raw : RawMessage) → Comes s given written (received raw here) (notified_by (arrival_of aside.proposals raw) []) (kept_behind aside.proposals raw) p
  one_comes raw = by_kind (is_notification raw) refl
    where
      by_kind : (b : Bool) → is_notification raw ≡ b → Comes s given written (received raw here) (notified_by (arrival_of aside.proposals raw) []) (kept_behind aside.proposals raw) p
      by_kind true e =
          let is : received raw here ≡ left_by (settled (queued (notification_in raw.body) (λ w. w) here)) = live_receives here raw refl ∙ ap (λ o. left_by (settled o)) (notification_is here raw e ∙ notified_step raw here.phase here (runs_at p.left)) in
          let brings : arrival_of aside.proposals raw ≡ notification_in raw.body = ap (λ b. if b then notification_in raw.body else if is_acknowledgement raw then acknowledged_as aside.proposals (acknowledgement_in raw.body) else None) e in
          let keeps : kept_behind aside.proposals raw ≡ aside.proposals = ap (λ b. if b then unacknowledged aside.proposals (acknowledgement_in raw.body) else aside.proposals) (not_both raw e) in
          subst (λ (x : Machine × List Notification × List ProposeRunCompletion). Comes s given written x.0 x.1 x.2 p) (λ i. (sym is i, notified_by (sym brings i) [], sym keeps i)) (queued_comes (notification_in raw.body))
      by_kind false e =
          let is = live_receives here raw refl ∙ ap (λ o. left_by (settled o)) (other_is here raw e) in
          let brings : arrival_of aside.proposals raw ≡ (if is_acknowledgement raw then acknowledged_as aside.proposals (acknowledgement_in raw.body) else None) = ap (λ b. if b then notification_in raw.body else if is_acknowledgement raw then acknowledged_as aside.proposals (acknowledgement_in raw.body) else None) e in
          subst (λ (x : Machine × List Notification). Comes s given written x.0 x.1 (kept_behind aside.proposals raw) p) (λ i. (sym is i, notified_by (sym brings i) []))
          (other_comes raw here.phase (runs_at p.left) (type_number raw.ty == 1) (nat_le 10 (type_number raw.ty) && nat_lt (type_number raw.ty) 30) (is_acknowledgement raw))

pub behind_one : (b : Bool) (o : Option Notification) (ns : List Notification) → cond b (notified_by o []) [] ++ ns ≡ cond b (notified_by o ns) ns
behind_one false o ns = refl
behind_one true None ns = refl
behind_one true (Some n) ns = refl

later_twice : (ms ns : List Notification) (p : Point) → later ns (later ms p) ≡ later (ms ++ ns) p
later_twice ms ns p = λ i. record p { queue = append_assoc p.queue ms ns i }

pub some_failure : (v : Machine) → IsSome v.failure → (e : Error) × (v.failure ≡ Some e)
some_failure v h = by_option v.failure h
  where
    by_option : (o : Option Error) → IsSome o → (e : Error) × (o ≡ Some e)
    by_option None h = absurd (cc)
    by_option (Some e) h = (e, refl)

behind_brought : (o : Option Notification) (ns : List Notification) → notified_by o [] ++ ns ≡ notified_by o ns
behind_brought None ns = refl
behind_brought (Some n) ns = refl

-- frames that come are more arrivals, or one of them fails the machine
pub frames_come : (s : Setup) (given : StateMap) (written : List RawMessage) (v : Machine) (p : Point) (raws : List RawMessage) → Agrees s given written v p → Comes s given written (all_received raws v) (arriving v.proposals raws) (kept_after v.proposals raws) p
frames_come s given written v p [] a = inl (subst (Agrees s given written v) (λ i. record p { queue = sym (append-nil p.queue) i }) a, refl)
frames_come s given written v p (raw ∷ raws) a =
    let one : Comes s given written (received raw v) (notified_by (arrival_of v.proposals raw) []) (kept_behind v.proposals raw) p = rw a.machine (one_comes s given written a.aside p a.identity raw) in
    ⊎_elim
    (λ (b : Agrees s given written (received raw v) (later (notified_by (arrival_of v.proposals raw) []) p) × ((received raw v).proposals ≡ kept_behind v.proposals raw)).
    let on = frames_come s given written (received raw v) (later (notified_by (arrival_of v.proposals raw) []) p) raws b.0 in
    let there : Comes s given written (all_received raws (received raw v)) (arriving (kept_behind v.proposals raw) raws) (kept_after (kept_behind v.proposals raw) raws) (later (notified_by (arrival_of v.proposals raw) []) p) =
    subst (λ kept. Comes s given written (all_received raws (received raw v)) (arriving kept raws) (kept_after kept raws) (later (notified_by (arrival_of v.proposals raw) []) p)) b.1 on
    in
    subst (λ q. (Agrees s given written (all_received raws (received raw v)) q × ((all_received raws (received raw v)).proposals ≡ kept_after (kept_behind v.proposals raw) raws)) ⊎ IsSome (all_received raws (received raw v)).failure)
    (later_twice (notified_by (arrival_of v.proposals raw) []) (arriving (kept_behind v.proposals raw) raws) p ∙ ap (λ ns. later ns p) (behind_brought (arrival_of v.proposals raw) (arriving (kept_behind v.proposals raw) raws)))
    there)
    (λ (f : IsSome (received raw v).failure).
    let e = some_failure (received raw v) f in
    inr (ap (λ w. is_some w.failure) (failed_stays e.0 (received raw v) raws e.1) ∙ f))
    one

-- ---- if no result was proposed

brings_none : (raw : RawMessage) (ns : List Notification) → notified_by (arrival_of [] raw) ns ≡ cond (is_notification raw) (notified_by (notification_in raw.body) ns) ns
brings_none raw ns = by_kind (is_notification raw) (is_acknowledgement raw) (acknowledgement_in raw.body)
  where
    by_kind : (a d : Bool) (ack : Option ProposeRunCompletionAck) → notified_by (if a then notification_in raw.body else if d then acknowledged_as [] ack else None) ns ≡ cond a (notified_by (notification_in raw.body) ns) ns
    by_kind true d ack = refl
    by_kind false true None = refl
    by_kind false true (Some ack) = refl
    by_kind false false ack = refl

keeps_none : (raw : RawMessage) → kept_behind [] raw ≡ []
keeps_none raw = by_kind (is_acknowledgement raw) (acknowledgement_in raw.body)
  where
    by_kind : (d : Bool) (ack : Option ProposeRunCompletionAck) → (if d then unacknowledged [] ack else []) ≡ []
    by_kind true None = refl
    by_kind true (Some ack) = refl
    by_kind false ack = refl

-- the arrivals are the notifications
pub arriving_alone : (raws : List RawMessage) → arriving [] raws ≡ notifications_among raws
arriving_alone [] = refl
arriving_alone (raw ∷ raws) = brings_none raw (arriving (kept_behind [] raw) raws) ∙ ap (λ ns. cond (is_notification raw) (notified_by (notification_in raw.body) ns) ns) (ap (λ kept. arriving kept raws) (keeps_none raw) ∙ arriving_alone raws)

pub kept_none : (raws : List RawMessage) → kept_after [] raws ≡ []
kept_none [] = refl
kept_none (raw ∷ raws) = ap (λ kept. kept_after kept raws) (keeps_none raw) ∙ kept_none raws
