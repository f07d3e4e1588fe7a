-- What ephemeral reads do to a machine: they write one command at most, and leave the journal's side of it.
use Rattle.std.proofs.Common.{◌≡◌, ℕ, ◌+◌, Bool, true, false, List, [], ◌∷◌, Option, Some, None, refl, sym, ap, subst, ◌∙◌}
use Rattle.std.specs.Prelude.{if◌then◌else◌}
use Rattle.std.specs.Option.{option_map, option_or}
use Rattle.journal_protocol.specs.NamedFault.{NamedFault}
use Rattle.journal_protocol.specs.NamedFault.TheVariants as fault
use Rattle.journal_protocol.specs.Message.TheVariants as message
use Rattle.journal_protocol.specs.RawMessage.{RawMessage}
use Rattle.journal_protocol.specs.GetStateEphemeralNotification.{GetStateEphemeralNotification}
use Rattle.journal_protocol.specs.VoidOrValue.{VoidOrValue}
use Rattle.vm_types.specs.declared.types.EphemeralCompletionId.{EphemeralCompletionId}
use Rattle.vm_types.specs.declared.values.Value.{Value}
use Rattle.vm_state.specs.Counting.{missing_ephemeral}
use Rattle.vm_parts.specs.Ephemerals.{value_at, without_ready}
use Rattle.vm_state.specs.States.{value_known}
use Rattle.vm_state.specs.declared.state_map.Known.{Known}
use Rattle.vm_state.specs.declared.state_map.Known.TheVariants as known_as
use Rattle.vm_machine.specs.declared.machine.Machine.{Machine}
use Rattle.vm_machine.specs.declared.phase.Phase.{Phase}
use Rattle.vm_machine.specs.declared.phase.Phase.TheVariants.{WaitingStart, WaitingReplayEntries, Replaying, Processing, Closed}
use Rattle.journal_protocol.specs.Bodies.{ephemeral_notification_in}
use Rattle.vm_machine.specs.Ephemerals.{asked_for, asking_fault, completed_by, ephemeral_notification_step, ephemeral_step, read_in, ephemeral_read_numbered, read_of, ready_at_once, result_comes, take_ephemeral_step, value_found}
use Rattle.vm_machine.specs.Outcomes.{Outcome, Done, Failed, called, refused}
use Rattle.vm_machine.specs.Phases.{is_from_v8, is_processing, is_running, state_fault}
use Rattle.vm_laws.specs.Endings.{EventWrites, Writes, is_over}
use Rattle.vm_laws.specs.Ephemerals.{LeavesJournal}
use Rattle.vm_laws.proofs.Endings.{Event, Quiet, called_writes, goes_on, none_last, quiet_event, same, writes_nothing}

-- ---- what is written

asked_writes : (key : List ℕ) (v : Machine) → is_over v ≡ false → Writes v (asked_for key v)
asked_writes key v goes =
    let m = message.GetStateEphemeralCommand (record { id = v.counters.ephemeral; key = key }) in
    record {
      messages = m ∷ [];
      output = refl;
      ends_once = none_last (is_over v) true m (is_over (asked_for key v)) goes refl;
    }

known_writes : (key : List ℕ) (k : Known) (v : Machine) → is_over v ≡ false → Writes v (read_of key k v)
known_writes key known_as.Unknown v goes = asked_writes key v goes
known_writes key known_as.Empty v goes = writes_nothing v (ready_at_once None v) (record { output = refl; closed = refl; failure = refl })
known_writes key (known_as.Value bytes) v goes = writes_nothing v (ready_at_once (Some bytes) v) (record { output = refl; closed = refl; failure = refl })

numbered_so : (found : Option NamedFault) (key : List ℕ) (k : Known) (v : Machine) → is_over v ≡ false → Event v (ephemeral_read_numbered found key k v)
numbered_so (Some name) key k v goes = same v
numbered_so None key k v goes = known_writes key k v goes

read_so : (p : Phase) (key : List ℕ) (v : Machine) → v.phase ≡ p → v.failure ≡ None → Event v (read_in p key v)
read_so WaitingStart key v e live = same v
read_so WaitingReplayEntries key v e live = same v
read_so Replaying key v e live = same v
read_so Processing key v e live =
    let k = value_known key v.state in
    numbered_so (option_or (asking_fault v.input_closed k) (missing_ephemeral v.counters)) key k v (goes_on v live (ap is_running e))
read_so Closed key v e live = same v

by_version : (b : Bool) (key : List ℕ) (v : Machine) → v.failure ≡ None → Event v (if b then read_in v.phase key v else refused fault.UnsupportedFeatureForNegotiatedVersion v)
by_version true key v live = read_so v.phase key v refl live
by_version false key v live = same v

pub ephemeral_writes : (key : List ℕ) (v : Machine) → EventWrites v (called (ephemeral_step key v) v)
unfolding ephemeral_step
ephemeral_writes key v = called_writes v (ephemeral_step key v) (λ live. by_version (is_from_v8 v.version) key v live)

by_phase : (b : Bool) (id : ℕ) (v : Machine)
    → Quiet v (if b then Done (option_map value_found (value_at id v.ephemeral)) (record v { ephemeral = without_ready id v.ephemeral }) else refused (state_fault v.phase) v)
by_phase true id v = record { output = refl; closed = refl; failure = refl }
by_phase false id v = same v

take_quiet : (id : ℕ) (v : Machine) → Quiet v (take_ephemeral_step id v)
unfolding take_ephemeral_step
take_quiet id v = by_phase (is_processing v.phase) id v

pub take_ephemeral_writes : (id : ℕ) (v : Machine) → EventWrites v (called (take_ephemeral_step id v) v)
take_ephemeral_writes id v = called_writes v (take_ephemeral_step id v) (λ live. quiet_event v (take_ephemeral_step id v) (take_quiet id v))

-- ---- what is left alone

-- a read that was done, by what is known of the key
abbrev IsRead : List ℕ → EphemeralCompletionId → Machine → Machine → Type 0
IsRead key id v w = (k : Known) × (id ≡ record { 0 = v.counters.ephemeral }) × (w ≡ read_of key k v)

numbered_done : (found : Option NamedFault) (key : List ℕ) (k : Known) (id : EphemeralCompletionId) (v w : Machine) → ephemeral_read_numbered found key k v ≡ Done id w → IsRead key id v w
numbered_done (Some name) key k id v w h = absurd cc
numbered_done None key k id v w h = (k, cc, cc)

read_done : (p : Phase) (key : List ℕ) (id : EphemeralCompletionId) (v w : Machine) → read_in p key v ≡ Done id w → IsRead key id v w
read_done WaitingStart key id v w h = absurd cc
read_done WaitingReplayEntries key id v w h = absurd cc
read_done Replaying key id v w h = absurd cc
read_done Processing key id v w h =
    let k = value_known key v.state in
    numbered_done (option_or (asking_fault v.input_closed k) (missing_ephemeral v.counters)) key k id v w h
read_done Closed key id v w h = absurd cc

version_done : (b : Bool) (key : List ℕ) (id : EphemeralCompletionId) (v w : Machine)
    → (if b then read_in v.phase key v else refused fault.UnsupportedFeatureForNegotiatedVersion v) ≡ Done id w → IsRead key id v w
version_done true key id v w h = read_done v.phase key id v w h
version_done false key id v w h = absurd cc

step_done : (key : List ℕ) (id : EphemeralCompletionId) (v w : Machine) → ephemeral_step key v ≡ Done id w → IsRead key id v w
unfolding ephemeral_step
step_done key id v w h = version_done (is_from_v8 v.version) key id v w h

known_leaves : (key : List ℕ) (k : Known) (v : Machine) → LeavesJournal v (read_of key k v)
known_leaves key known_as.Unknown v = refl
known_leaves key known_as.Empty v = refl
known_leaves key (known_as.Value bytes) v = refl

pub read_leaves : (key : List ℕ) (id : EphemeralCompletionId) (v w : Machine) → ephemeral_step key v ≡ Done id w → LeavesJournal v w
read_leaves key id v w h = let read = step_done key id v w h in subst (LeavesJournal v) (sym read.2) (known_leaves key read.0 v)

known_counts : (key : List ℕ) (k : Known) (v : Machine) → (read_of key k v).counters.ephemeral ≡ v.counters.ephemeral + 1
known_counts key known_as.Unknown v = refl
known_counts key known_as.Empty v = refl
known_counts key (known_as.Value bytes) v = refl

pub read_counts : (key : List ℕ) (id : EphemeralCompletionId) (v w : Machine) → ephemeral_step key v ≡ Done id w → (w.counters.ephemeral ≡ v.counters.ephemeral + 1) × (id.0 ≡ v.counters.ephemeral)
read_counts key id v w h =
    let read = step_done key id v w h in
    (ap (λ (x : Machine). x.counters.ephemeral) read.2 ∙ known_counts key read.0 v, ap (λ (i : EphemeralCompletionId). i.0) read.1)

taken_done : (b : Bool) (id : ℕ) (r : Option Value) (v w : Machine)
    → (if b then Done (option_map value_found (value_at id v.ephemeral)) (record v { ephemeral = without_ready id v.ephemeral }) else refused (state_fault v.phase) v) ≡ Done r w
    → w ≡ record v { ephemeral = without_ready id v.ephemeral }
taken_done true id r v w h = cc
taken_done false id r v w h = absurd cc

pub take_leaves : (id : ℕ) (r : Option Value) (v w : Machine) → take_ephemeral_step id v ≡ Done r w → LeavesJournal v w
unfolding take_ephemeral_step
take_leaves id r v w h = subst (LeavesJournal v) (sym (taken_done (is_processing v.phase) id r v w h)) refl

done_so : (v w x : Machine) → Done (tt {0}) v ≡ Done (tt {0}) w → LeavesJournal x v → LeavesJournal x w
done_so v w x h leaves = let is : w ≡ v = cc in subst (LeavesJournal x) (sym is) leaves

result_leaves : (id : ℕ) (found : Option VoidOrValue) (v w : Machine) → result_comes id found v ≡ Done tt w → LeavesJournal v w
result_leaves id None v w h = absurd cc
result_leaves id (Some found) v w h = done_so _ w v h refl

completed_leaves : (n : Option GetStateEphemeralNotification) (v w : Machine) → completed_by n v ≡ Done tt w → LeavesJournal v w
completed_leaves None v w h = absurd cc
completed_leaves (Some n) v w h = result_leaves n.id n.result v w h

pub notification_leaves : (raw : RawMessage) (p : Phase) (v w : Machine) → ephemeral_notification_step raw p v ≡ Done tt w → LeavesJournal v w
notification_leaves raw WaitingStart v w h = absurd cc
notification_leaves raw WaitingReplayEntries v w h = absurd cc
notification_leaves raw Replaying v w h = absurd cc
notification_leaves raw Processing v w h = completed_leaves (ephemeral_notification_in raw.body) v w h
notification_leaves raw Closed v w h = done_so v w v h refl
