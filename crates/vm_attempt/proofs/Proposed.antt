-- Proposals that are kept, and the acknowledgements that find them.
use Rattle.std.proofs.Common.{◌≡◌, ℕ, Bool, true, false, List, [], ◌∷◌, ◌++◌, Option, Some, None, refl, sym, ap, ◌∙◌, subst, ⊎_elim}
use Rattle.std.specs.Prelude.{◌==◌, ◌&&◌, if◌then◌else◌, cond, nat_le, nat_lt, IsSome}
use Rattle.std.specs.List.{AllByRecursion, find}
use Rattle.std.specs.Option.{option_map}
use Rattle.std.proofs.lemmas.Bool.{eqb-true}
use Rattle.journal_protocol.specs.Error.{Error}
use Rattle.journal_protocol.specs.NamedFault.TheVariants as fault
use Rattle.journal_protocol.specs.NamedFault.{NamedFault}
use Rattle.journal_protocol.specs.Errors.{named_error}
use Rattle.journal_protocol.specs.Types.{type_number}
use Rattle.journal_protocol.specs.Start.{Start}
use Rattle.journal_protocol.specs.ProposeRunCompletionAck.{ProposeRunCompletionAck}
use Rattle.journal_protocol.specs.RawMessage.{RawMessage}
use Rattle.journal_protocol.specs.GetStateEphemeralNotification.{GetStateEphemeralNotification}
use Rattle.journal_protocol.specs.VoidOrValue.{VoidOrValue}
use Rattle.journal_protocol.specs.Bodies.{ephemeral_notification_in, acknowledgement_in, notification_in, start_in}
use Rattle.vm_machine.specs.Ephemerals.{completed_by, result_comes}
use Rattle.journal_protocol.specs.Notification.{Notification}
use Rattle.vm_runs.specs.Firsts.{without_first}
use Rattle.vm_runs.specs.Kept.{is_for}
use Rattle.journal_protocol.specs.ProposeRunCompletion.{ProposeRunCompletion}
use Rattle.vm_machine.specs.declared.machine.Machine.{Machine}
use Rattle.vm_machine.specs.declared.phase.Phase.{Phase}
use Rattle.vm_machine.specs.declared.phase.Phase.TheVariants.{WaitingStart, WaitingReplayEntries, Replaying, Processing, Closed}
use Rattle.vm_machine.specs.Inputs.{acknowledged, acknowledged_by, acknowledgement_step, counted_entry, coverage_of, entries_in, entry_step, start_received, started_with, message_step, notification_step, queued, start_step}
use Rattle.journal_entries.specs.Proposals.{acknowledged_completion}
use Rattle.vm_parts.specs.Starts.{start_info_of}
use Rattle.vm_machine.specs.Outcomes.{Done, Failed, Outcome, refused, ruled, settled}
use Rattle.vm_machine.specs.Phases.{is_running}
use Rattle.invocation_vm.specs.Views.{all_received, left_by, received}
use Rattle.vm_attempt.specs.Arrivals.{AllFound, FindsProposal, IsOfKept, arriving, arrival_of, kept_after, kept_behind, acknowledged_as, unacknowledged}
use Rattle.vm_attempt.specs.Blames.{fault_among}
use Rattle.journal_entries.specs.JournalFrames.{AcknowledgesNothing, is_acknowledgement, is_command_frame, is_ephemeral, is_notification, notifications_among, notified_by}
use Rattle.vm_attempt.proofs.Arriving.{failed_receives, failed_stays, live_receives, unknown_dead, unknown_step}
use Rattle.vm_attempt.proofs.Blaming.{one_comes as one_fits}
use Rattle.vm_attempt.proofs.Entries.{message_by, receives_by}
use Rattle.vm_attempt.proofs.Staying.{no_failure, one_stays}

-- ---- frames after frames

notified_append : (o : Option Notification) (ms ns : List Notification) → notified_by o (ms ++ ns) ≡ notified_by o ms ++ ns
notified_append None ms ns = refl
notified_append (Some n) ms ns = refl

pub arriving_append : (kept : List ProposeRunCompletion) (raws more : List RawMessage) → arriving kept (raws ++ more) ≡ arriving kept raws ++ arriving (kept_after kept raws) more
arriving_append kept [] more = refl
arriving_append kept (raw ∷ raws) more =
    ap (notified_by (arrival_of kept raw)) (arriving_append (kept_behind kept raw) raws more)
    ∙ notified_append (arrival_of kept raw) (arriving (kept_behind kept raw) raws) (arriving (kept_after (kept_behind kept raw) raws) more)

pub kept_append : (kept : List ProposeRunCompletion) (raws more : List RawMessage) → kept_after kept (raws ++ more) ≡ kept_after (kept_after kept raws) more
kept_append kept [] more = refl
kept_append kept (raw ∷ raws) more = kept_append (kept_behind kept raw) raws more

pub found_append : (kept : List ProposeRunCompletion) (raws more : List RawMessage) → AllFound kept raws → AllFound (kept_after kept raws) more → AllFound kept (raws ++ more)
found_append kept [] more a b = b
found_append kept (raw ∷ raws) more a b = (a.0, found_append (kept_behind kept raw) raws more a.1 b)

-- if nothing is acknowledged
pub none_found : (kept : List ProposeRunCompletion) (raws : List RawMessage) → AllByRecursion AcknowledgesNothing raws → AllFound kept raws
none_found kept [] all = tt
none_found kept (raw ∷ raws) all = ((λ is. absurd (let z : false ≡ true = sym all.0 ∙ is in cc)), none_found (kept_behind kept raw) raws all.1)

-- of frames that acknowledge nothing the first ones don't either
pub none_front : (raws more : List RawMessage) → AllByRecursion AcknowledgesNothing (raws ++ more) → AllByRecursion AcknowledgesNothing raws
none_front [] more all = tt
none_front (raw ∷ raws) more all = (all.0, none_front raws more all.1)

brings_notified : (kept : List ProposeRunCompletion) (raw : RawMessage) (ns : List Notification) → AcknowledgesNothing raw → notified_by (arrival_of kept raw) ns ≡ cond (is_notification raw) (notified_by (notification_in raw.body) ns) ns
brings_notified kept raw ns none = ap (λ d. notified_by (if is_notification raw then notification_in raw.body else if d then acknowledged_as kept (acknowledgement_in raw.body) else None) ns) none ∙ by_test (is_notification raw)
  where
    by_test : (b : Bool) → notified_by (if b then notification_in raw.body else None) ns ≡ cond b (notified_by (notification_in raw.body) ns) ns
    by_test true = refl
    by_test false = refl

keeps_all : (kept : List ProposeRunCompletion) (raw : RawMessage) → AcknowledgesNothing raw → kept_behind kept raw ≡ kept
keeps_all kept raw none = ap (λ d. if d then unacknowledged kept (acknowledgement_in raw.body) else kept) none

-- they bring the notifications among them, and all proposals are kept
pub arriving_notified : (kept : List ProposeRunCompletion) (raws : List RawMessage) → AllByRecursion AcknowledgesNothing raws → arriving kept raws ≡ notifications_among raws
arriving_notified kept [] all = refl
arriving_notified kept (raw ∷ raws) all =
    brings_notified kept raw (arriving (kept_behind kept raw) raws) all.0
    ∙ ap (λ ns. cond (is_notification raw) (notified_by (notification_in raw.body) ns) ns) (ap (λ l. arriving l raws) (keeps_all kept raw all.0) ∙ arriving_notified kept raws all.1)

pub kept_all : (kept : List ProposeRunCompletion) (raws : List RawMessage) → AllByRecursion AcknowledgesNothing raws → kept_after kept raws ≡ kept
kept_all kept [] all = refl
kept_all kept (raw ∷ raws) all = ap (λ l. kept_after l raws) (keeps_all kept raw all.0) ∙ kept_all kept raws all.1

-- ---- a further proposal

find_more : (p : ProposeRunCompletion → Bool) (kept more : List ProposeRunCompletion) → IsSome (find p kept) → find p (kept ++ more) ≡ find p kept
find_more p [] more some = absurd (cc)
find_more p (x ∷ xs) more some = by_test (p x) (find_more p xs more) some
  where
    by_test : (b : Bool) → (IsSome (find p xs) → find p (xs ++ more) ≡ find p xs) → IsSome (cond b (Some x) (find p xs)) → cond b (Some x) (find p (xs ++ more)) ≡ cond b (Some x) (find p xs)
    by_test true on h = refl
    by_test false on h = on h

without_more : (p : ProposeRunCompletion → Bool) (kept more : List ProposeRunCompletion) → IsSome (find p kept) → without_first p (kept ++ more) ≡ without_first p kept ++ more
without_more p [] more some = absurd (cc)
without_more p (x ∷ xs) more some = by_test (p x) (without_more p xs more) some
  where
    by_test : (b : Bool) → (IsSome (find p xs) → without_first p (xs ++ more) ≡ without_first p xs ++ more) → IsSome (cond b (Some x) (find p xs))
        → (if b then xs ++ more else x ∷ without_first p (xs ++ more)) ≡ (if b then xs else x ∷ without_first p xs) ++ more
    by_test true on h = refl
    by_test false on h = ap (λ l. x ∷ l) (on h)

module _ (kept more : List ProposeRunCompletion) where
  stands_more : (ack : Option ProposeRunCompletionAck) → IsOfKept kept ack → acknowledged_as (kept ++ more) ack ≡ acknowledged_as kept ack
  stands_more None found = refl
  stands_more (Some ack) found = ap (option_map (acknowledged_completion ack.id)) (find_more (is_for ack.id) kept more found)

  unacknowledged_more : (ack : Option ProposeRunCompletionAck) → IsOfKept kept ack → unacknowledged (kept ++ more) ack ≡ unacknowledged kept ack ++ more
  unacknowledged_more None found = refl
  unacknowledged_more (Some ack) found = without_more (is_for ack.id) kept more found

  found_so : (ack : Option ProposeRunCompletionAck) → IsOfKept kept ack → IsOfKept (kept ++ more) ack
  found_so None found = tt
  found_so (Some ack) found = subst IsSome (sym (find_more (is_for ack.id) kept more found)) found

  brought_more : (raw : RawMessage) → FindsProposal kept raw → arrival_of (kept ++ more) raw ≡ arrival_of kept raw
  brought_more raw found = by_tests (is_notification raw) (is_acknowledgement raw) found
    where
      by_tests : (a b : Bool) → (b ≡ true → IsOfKept kept (acknowledgement_in raw.body))
          → (if a then notification_in raw.body else if b then acknowledged_as (kept ++ more) (acknowledgement_in raw.body) else None) ≡ (if a then notification_in raw.body else if b then acknowledged_as kept (acknowledgement_in raw.body) else None)
      by_tests true b f = refl
      by_tests false true f = stands_more (acknowledgement_in raw.body) (f refl)
      by_tests false false f = refl

  behind_more : (raw : RawMessage) → FindsProposal kept raw → kept_behind (kept ++ more) raw ≡ kept_behind kept raw ++ more
  behind_more raw found = by_test (is_acknowledgement raw) found
    where
      by_test : (b : Bool) → (b ≡ true → IsOfKept kept (acknowledgement_in raw.body)) → (if b then unacknowledged (kept ++ more) (acknowledgement_in raw.body) else kept ++ more) ≡ (if b then unacknowledged kept (acknowledgement_in raw.body) else kept) ++ more
      by_test true f = unacknowledged_more (acknowledgement_in raw.body) (f refl)
      by_test false f = refl

-- If each acknowledgement found its proposal, one proposal more changes no arrival and is kept
-- after the others.
pub arriving_more : (kept more : List ProposeRunCompletion) (raws : List RawMessage) → AllFound kept raws → arriving (kept ++ more) raws ≡ arriving kept raws
arriving_more kept more [] found = refl
arriving_more kept more (raw ∷ raws) found =
    (λ i. notified_by (brought_more kept more raw found.0 i) (arriving (behind_more kept more raw found.0 i) raws))
    ∙ ap (notified_by (arrival_of kept raw)) (arriving_more (kept_behind kept raw) more raws found.1)

pub kept_more : (kept more : List ProposeRunCompletion) (raws : List RawMessage) → AllFound kept raws → kept_after (kept ++ more) raws ≡ kept_after kept raws ++ more
kept_more kept more [] found = refl
kept_more kept more (raw ∷ raws) found = ap (λ l. kept_after l raws) (behind_more kept more raw found.0) ∙ kept_more (kept_behind kept raw) more raws found.1

pub found_more : (kept more : List ProposeRunCompletion) (raws : List RawMessage) → AllFound kept raws → AllFound (kept ++ more) raws
found_more kept more [] found = tt
found_more kept more (raw ∷ raws) found =
    ((λ is. found_so kept more (acknowledgement_in raw.body) (found.0 is)), subst (λ l. AllFound l raws) (sym (behind_more kept more raw found.0)) (found_more (kept_behind kept raw) more raws found.1))

-- ---- what a machine keeps

-- what a machine that is alive keeps after a frame
abbrev Keeps : RawMessage → Machine → Machine → Type 0
Keeps raw v w = w.failure ≡ None → (w.proposals ≡ kept_behind v.proposals raw) × FindsProposal v.proposals raw

kept_found : (id : ℕ) (v : Machine) (o : Option ProposeRunCompletion) → (left_by (settled (acknowledged id o v))).failure ≡ None → ((left_by (settled (acknowledged id o v))).proposals ≡ without_first (is_for id) v.proposals) × IsSome o
kept_found id v None h = no_failure _ h
kept_found id v (Some kept) h = (refl, refl)

acknowledged_found : (ack : Option ProposeRunCompletionAck) (v : Machine) → (left_by (settled (acknowledged_by ack v))).failure ≡ None → ((left_by (settled (acknowledged_by ack v))).proposals ≡ unacknowledged v.proposals ack) × IsOfKept v.proposals ack
acknowledged_found None v h = no_failure _ h
acknowledged_found (Some ack) v h = kept_found ack.id v (find (is_for ack.id) v.proposals) h

acknowledges : (raw : RawMessage) (ph : Phase) (v : Machine) → is_running ph ≡ true → (left_by (settled (acknowledgement_step raw ph v))).failure ≡ None
    → ((left_by (settled (acknowledgement_step raw ph v))).proposals ≡ unacknowledged v.proposals (acknowledgement_in raw.body)) × IsOfKept v.proposals (acknowledgement_in raw.body)
acknowledges raw WaitingStart v runs h = absurd (cc)
acknowledges raw WaitingReplayEntries v runs h = absurd (cc)
acknowledges raw Closed v runs h = absurd (cc)
acknowledges raw Replaying v runs h = no_failure _ h
acknowledges raw Processing v runs h = acknowledged_found (acknowledgement_in raw.body) v h

by_number : RawMessage → ℕ → Machine → Outcome Unit
by_number raw n v =
    if n == 1 then start_step raw v.phase v
    else if nat_le 10 n && nat_lt n 30 then entry_step raw v.phase v
    else if n == 30 then notification_step raw v.phase v
    else if n == 6 then acknowledgement_step raw v.phase v
    else unknown_step (n == 9) raw v.phase v

acknowledgement_is : (v : Machine) (raw : RawMessage) → is_acknowledgement raw ≡ true → message_step raw v ≡ acknowledgement_step raw v.phase v
unfolding message_step by_number
acknowledgement_is v raw e = ap (λ n. by_number raw n v) (eqb-true (type_number raw.ty) 6 e)

queued_keeps : (o : Option Notification) (v : Machine) → (left_by (settled (queued o (λ w. w) v))).failure ≡ None → (left_by (settled (queued o (λ w. w) v))).proposals ≡ v.proposals
queued_keeps None v h = no_failure _ h
queued_keeps (Some n) v h = refl

found_keeps : (id : ℕ) (found : Option VoidOrValue) (v : Machine) → (left_by (settled (result_comes id found v))).failure ≡ None → (left_by (settled (result_comes id found v))).proposals ≡ v.proposals
found_keeps id None v h = no_failure _ h
found_keeps id (Some found) v h = refl

completed_keeps : (n : Option GetStateEphemeralNotification) (v : Machine) → (left_by (settled (completed_by n v))).failure ≡ None → (left_by (settled (completed_by n v))).proposals ≡ v.proposals
completed_keeps None v h = no_failure _ h
completed_keeps (Some n) v h = found_keeps n.id n.result v h

unknown_keeps : (b : Bool) (raw : RawMessage) (v : Machine) → (left_by (settled (unknown_step b raw Processing v))).failure ≡ None → (left_by (settled (unknown_step b raw Processing v))).proposals ≡ v.proposals
unknown_keeps true raw v h = completed_keeps (ephemeral_notification_in raw.body) v h
unknown_keeps false raw v h = no_failure _ h

others_keep : (raw : RawMessage) (ph : Phase) (v : Machine) (a b c : Bool) → is_running ph ≡ true → (left_by (settled (message_by raw ph v a b c false))).failure ≡ None → (left_by (settled (message_by raw ph v a b c false))).proposals ≡ v.proposals
others_keep raw WaitingStart v a b c runs h = absurd (cc)
others_keep raw WaitingReplayEntries v a b c runs h = absurd (cc)
others_keep raw Closed v a b c runs h = absurd (cc)
others_keep raw Replaying v true b c runs h = no_failure _ h
others_keep raw Processing v true b c runs h = no_failure _ h
others_keep raw Replaying v false true c runs h = no_failure _ h
others_keep raw Processing v false true c runs h = no_failure _ h
others_keep raw Replaying v false false true runs h = queued_keeps (notification_in raw.body) v h
others_keep raw Processing v false false true runs h = queued_keeps (notification_in raw.body) v h
others_keep raw Replaying v false false false runs h = unknown_dead (is_ephemeral raw) raw Replaying v refl refl h
others_keep raw Processing v false false false runs h = unknown_keeps (is_ephemeral raw) raw v h

pub one_keeps : (raw : RawMessage) (v : Machine) → v.failure ≡ None → is_running v.phase ≡ true → Keeps raw v (received raw v)
one_keeps raw v live runs = by_test (is_acknowledgement raw) refl
  where
    by_test : (b : Bool) → is_acknowledgement raw ≡ b → Keeps raw v (received raw v)
    by_test true e h =
        let is : received raw v ≡ left_by (settled (acknowledgement_step raw v.phase v)) = live_receives v raw live ∙ ap (λ o. left_by (settled o)) (acknowledgement_is v raw e) in
        let found = acknowledges raw v.phase v runs (ap (λ (w : Machine). w.failure) (sym is) ∙ h) in
        (ap (λ (w : Machine). w.proposals) is ∙ found.0 ∙ sym (ap (λ b. if b then unacknowledged v.proposals (acknowledgement_in raw.body) else v.proposals) e), λ _. found.1)
    by_test false e h =
        let is : received raw v ≡ left_by (settled (message_by raw v.phase v (type_number raw.ty == 1) (is_command_frame raw) (is_notification raw) false)) =
        receives_by v raw live ∙ ap (λ d. left_by (settled (message_by raw v.phase v (type_number raw.ty == 1) (is_command_frame raw) (is_notification raw) d))) e
        in (
          ap (λ (w : Machine). w.proposals) is ∙ others_keep raw v.phase v (type_number raw.ty == 1) (is_command_frame raw) (is_notification raw) runs (ap (λ (w : Machine). w.failure) (sym is) ∙ h)
              ∙ sym (ap (λ b. if b then unacknowledged v.proposals (acknowledgement_in raw.body) else v.proposals) e),
          λ t. absurd (let z : false ≡ true = sym e ∙ t in cc),
        )

-- A machine whose handler runs, and that stays alive, keeps the proposals that weren't acknowledged; each acknowledgement found its own.
pub all_keep : (raws : List RawMessage) (v : Machine) → v.failure ≡ None → is_running v.phase ≡ true → (all_received raws v).failure ≡ None → ((all_received raws v).proposals ≡ kept_after v.proposals raws) × AllFound v.proposals raws
all_keep [] v live runs h = (refl, tt)
all_keep (raw ∷ raws) v live runs h =
    let w = received raw v in
    ⊎_elim
    (λ (x : (w.failure ≡ None) × ((w.version ≡ v.version) × (w.options ≡ v.options))).
    let one = one_keeps raw v live runs x.0 in
    let rest = all_keep raws w x.0 (ap is_running (one_stays raw v live runs x.0) ∙ runs) h in
    (rest.0 ∙ ap (λ l. kept_after l raws) one.0, (one.1, subst (λ l. AllFound l raws) one.0 rest.1)))
    (λ (x : (why : NamedFault) × (fault_among v.proposals v.phase raw ≡ Some why) × (w.failure ≡ Some (ruled v (named_error why None)))).
    no_failure (ruled v (named_error x.0 None)) (sym x.2 ∙ ap (λ (u : Machine). u.failure) (sym (failed_stays (ruled v (named_error x.0 None)) w raws x.2)) ∙ h))
    (one_fits raw v live)

-- ---- if no result was proposed

-- an event leaves no proposal
abbrev NoneKept : Outcome Unit → Type 0
NoneKept (Done t w) = w.proposals ≡ []
NoneKept (Failed e w) = w.proposals ≡ []

settled_none : (o : Outcome Unit) → NoneKept o → (left_by (settled o)).proposals ≡ []
settled_none (Done t w) none = none
settled_none (Failed e w) none = none

started_none : (o : Option Start) (v : Machine) → v.proposals ≡ [] → NoneKept (start_received o v)
started_none None v none = none
started_none (Some st) v none = by_entries (entries_in st.state)
  where
    by_test : (entries : List (List ℕ × Option (List ℕ))) (b : Bool)
        → NoneKept (if b then refused fault.KnownEntriesIsZero v else Done (tt {0}) (record v { start = start_info_of v.version v.options.fallback_random_seed st; state = record { entries = entries; coverage = coverage_of st.partial }; entries_missing = st.known_entries; phase = WaitingReplayEntries }))
    by_test entries true = none
    by_test entries false = none

    by_entries : (o : Option (List (List ℕ × Option (List ℕ)))) → NoneKept (started_with st o v)
    by_entries None = none
    by_entries (Some entries) = by_test entries (st.known_entries == 0)

queued_none : (o : Option Notification) (v : Machine) → v.proposals ≡ [] → NoneKept (queued o counted_entry v) × NoneKept (queued o (λ w. w) v)
queued_none None v none = (none, none)
queued_none (Some n) v none = (none, none)

kept_none_by : (id : ℕ) (o : Option ProposeRunCompletion) (v : Machine) → v.proposals ≡ [] → NoneKept (acknowledged id o v)
kept_none_by id None v none = none
kept_none_by id (Some kept) v none = ap (without_first (is_for id)) none

acknowledged_none : (ack : Option ProposeRunCompletionAck) (v : Machine) → v.proposals ≡ [] → NoneKept (acknowledged_by ack v)
acknowledged_none None v none = none
acknowledged_none (Some ack) v none = kept_none_by ack.id (find (is_for ack.id) v.proposals) v none

found_none : (id : ℕ) (found : Option VoidOrValue) (v : Machine) → v.proposals ≡ [] → NoneKept (result_comes id found v)
found_none id None v none = none
found_none id (Some found) v none = none

completed_none : (n : Option GetStateEphemeralNotification) (v : Machine) → v.proposals ≡ [] → NoneKept (completed_by n v)
completed_none None v none = none
completed_none (Some n) v none = found_none n.id n.result v none

unknown_none : (b : Bool) (raw : RawMessage) (ph : Phase) (v : Machine) → v.proposals ≡ [] → NoneKept (unknown_step b raw ph v)
unknown_none true raw WaitingStart v none = none
unknown_none true raw WaitingReplayEntries v none = none
unknown_none true raw Replaying v none = none
unknown_none true raw Processing v none = completed_none (ephemeral_notification_in raw.body) v none
unknown_none true raw Closed v none = none
unknown_none false raw ph v none = none

message_none : (raw : RawMessage) (ph : Phase) (v : Machine) → v.proposals ≡ [] → (a b c d : Bool) → NoneKept (message_by raw ph v a b c d)
message_none raw WaitingStart v none true b c d = started_none (start_in raw.body) v none
message_none raw WaitingReplayEntries v none true b c d = none
message_none raw Replaying v none true b c d = none
message_none raw Processing v none true b c d = none
message_none raw Closed v none true b c d = none
message_none raw WaitingStart v none false true c d = none
message_none raw WaitingReplayEntries v none false true c d = none
message_none raw Replaying v none false true c d = none
message_none raw Processing v none false true c d = none
message_none raw Closed v none false true c d = none
message_none raw WaitingStart v none false false true d = none
message_none raw WaitingReplayEntries v none false false true d = (queued_none (notification_in raw.body) v none).0
message_none raw Replaying v none false false true d = (queued_none (notification_in raw.body) v none).1
message_none raw Processing v none false false true d = (queued_none (notification_in raw.body) v none).1
message_none raw Closed v none false false true d = none
message_none raw WaitingStart v none false false false true = none
message_none raw WaitingReplayEntries v none false false false true = none
message_none raw Replaying v none false false false true = none
message_none raw Processing v none false false false true = acknowledged_none (acknowledgement_in raw.body) v none
message_none raw Closed v none false false false true = none
message_none raw ph v none false false false false = unknown_none (is_ephemeral raw) raw ph v none

received_none : (raw : RawMessage) (v : Machine) → v.proposals ≡ [] → (received raw v).proposals ≡ []
received_none raw v none = by_failure v.failure refl
  where
    by_failure : (f : Option Error) → v.failure ≡ f → (received raw v).proposals ≡ []
    by_failure (Some e) dead = ap (λ (w : Machine). w.proposals) (failed_receives e v raw dead) ∙ none
    by_failure None live =
        ap (λ (w : Machine). w.proposals) (receives_by v raw live)
        ∙ settled_none (message_by raw v.phase v (type_number raw.ty == 1) (is_command_frame raw) (is_notification raw) (is_acknowledgement raw)) (message_none raw v.phase v none (type_number raw.ty == 1) (is_command_frame raw) (is_notification raw) (is_acknowledgement raw))

-- a machine that keeps no proposal keeps none after any frames
pub all_none : (raws : List RawMessage) (v : Machine) → v.proposals ≡ [] → (all_received raws v).proposals ≡ []
all_none [] v none = none
all_none (raw ∷ raws) v none = all_none raws (received raw v) (received_none raw v none)
