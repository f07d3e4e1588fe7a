-- An ephemeral read answers what is known of its key, or is refused for the first reason that there is.
use Rattle.std.proofs.Common.{◌≡◌, ℕ, Bool, true, false, List, [], ◌∷◌, Option, Some, None, refl, sym, ap, ◌∙◌}
use Rattle.std.specs.Prelude.{if◌then◌else◌, ◌==◌, ◌||◌, ◌&&◌, not}
use Rattle.std.specs.declared.cmp.Ordering.{Ordering}
use Rattle.std.specs.declared.cmp.Ordering.TheVariants.{Less, Equal, Greater}
use Rattle.std.specs.BTreeMap.{insert_entry, is_at}
use Rattle.std.specs.BTreeSet.{insert_key}
use Rattle.std.specs.Cmp.{nat_cmp_is}
use Rattle.std.specs.List.{list_any}
use Rattle.std.specs.Map.{lookup}
use Rattle.std.specs.Option.{option_map, option_or}
use Rattle.std.specs.Set.{remove_key}
use Rattle.std.specs.Ordering.{is_eq, match_ordering, nat_cmp}
use Rattle.std.proofs.lemmas.Bool.{cond-false, cond-true}
use Rattle.std.proofs.lemmas.Option.{same_Some}
use Rattle.journal_protocol.specs.NamedFault.{NamedFault}
use Rattle.journal_protocol.specs.NamedFault.TheVariants as fault
use Rattle.journal_protocol.specs.RawMessage.{RawMessage}
use Rattle.journal_protocol.specs.VoidOrValue.{VoidOrValue}
use Rattle.journal_protocol.specs.VoidOrValue.TheVariants as stored
use Rattle.vm_types.specs.declared.types.EphemeralCompletionId.{EphemeralCompletionId}
use Rattle.vm_types.specs.declared.values.Value.{Value}
use Rattle.vm_types.specs.declared.values.Value.TheVariants as value
use Rattle.vm_state.specs.Counting.{most}
use Rattle.vm_parts.specs.Ephemerals.{with_read_completed, is_in_flight, is_ready, value_at, without_ready}
use Rattle.vm_state.specs.States.{value_known}
use Rattle.vm_state.specs.declared.state_map.Known.{Known}
use Rattle.vm_state.specs.declared.state_map.Known.TheVariants.{Unknown, Empty, Value as Holds}
use Rattle.vm_machine.specs.declared.machine.Machine.{Machine}
use Rattle.vm_machine.specs.declared.phase.Phase.{Phase}
use Rattle.vm_machine.specs.declared.phase.Phase.TheVariants.{WaitingStart, WaitingReplayEntries, Replaying, Processing, Closed}
use Rattle.vm_machine.specs.Ephemerals.{asked_for, asking_fault, completed_by, ephemeral_notification_step, ephemeral_step, found_of, read_in, ephemeral_read_numbered, read_of, ready_at_once, take_ephemeral_step, value_found}
use Rattle.vm_machine.specs.Outcomes.{Outcome, Done, refused}
use Rattle.vm_machine.specs.Phases.{is_closed, is_from_v8, is_processing, is_replaying, is_waiting, state_fault}
use Rattle.vm_laws.specs.EphemeralReads.{Brings, IsAnswered, TakeGives, first_reason, is_unknown, reasons, value_of_result}

-- ---- ids among the reads

at_itself : (id : ℕ) → is_at (nat_cmp id) id ≡ true
at_itself id = ap is_eq (sym (nat_cmp_is id id Equal refl))

its_own : {A : Type 0} (id : ℕ) (x : A) (es : List (ℕ × A)) → lookup (is_at (nat_cmp id)) (insert_entry nat_cmp es id x) ≡ Some x
its_own id x [] = cond-true _ _ _ (at_itself id)
its_own {A} id x (e ∷ es) = by_place (nat_cmp id e.0) refl (its_own id x es)
  where
    by_place : (r : Ordering) → nat_cmp id e.0 ≡ r → lookup (is_at (nat_cmp id)) (insert_entry nat_cmp es id x) ≡ Some x
        → lookup (is_at (nat_cmp id)) (match_ordering r ((id, x) ∷ e ∷ es) ((e.0, x) ∷ es) (e ∷ insert_entry nat_cmp es id x)) ≡ Some x
    by_place Less is ih = cond-true _ _ _ (at_itself id)
    by_place Equal is ih = cond-true _ _ _ (ap is_eq is)
    by_place Greater is ih = cond-false _ _ _ (ap is_eq is) ∙ ih

among : (id : ℕ) (ids : List ℕ) → list_any (is_at (nat_cmp id)) (insert_key nat_cmp ids id) ≡ true
among id [] = ap (λ b. b || false) (at_itself id)
among id (x ∷ xs) = by_place (nat_cmp id x) refl (among id xs)
  where
    or_true : (b : Bool) → (b || true) ≡ true
    or_true true = refl
    or_true false = refl

    by_place : (r : Ordering) → nat_cmp id x ≡ r → list_any (is_at (nat_cmp id)) (insert_key nat_cmp xs id) ≡ true
        → list_any (is_at (nat_cmp id)) (match_ordering r (id ∷ x ∷ xs) (x ∷ xs) (x ∷ insert_key nat_cmp xs id)) ≡ true
    by_place Less is ih = ap (λ b. b || list_any (is_at (nat_cmp id)) (x ∷ xs)) (at_itself id)
    by_place Equal is ih = ap (λ r. is_eq r || list_any (is_at (nat_cmp id)) xs) is
    by_place Greater is ih = ap (λ b. is_at (nat_cmp id) x || b) ih ∙ or_true (is_at (nat_cmp id) x)

-- ---- refusals

by_numbers : (closed : Bool) (k : Known) (full : Bool) (key : List ℕ) (name : NamedFault) (v : Machine)
    → first_reason ((closed && is_unknown k, fault.EphemeralStateGetWithClosedInput) ∷ (full, fault.ExhaustedEphemeralIds) ∷ []) ≡ Some name
    → ephemeral_read_numbered (option_or (asking_fault closed k) (if full then Some fault.ExhaustedEphemeralIds else None)) key k v ≡ refused name v
by_numbers true Unknown full key name v e = ap (λ n. refused n v) (same_Some _ name e)
by_numbers true Empty true key name v e = ap (λ n. refused n v) (same_Some _ name e)
by_numbers true Empty false key name v e = absurd (cc)
by_numbers true (Holds bytes) true key name v e = ap (λ n. refused n v) (same_Some _ name e)
by_numbers true (Holds bytes) false key name v e = absurd (cc)
by_numbers false k true key name v e = ap (λ n. refused n v) (same_Some _ name e)
by_numbers false k false key name v e = absurd (cc)

rest : List ℕ → Machine → List (Bool × NamedFault)
rest key v = (v.input_closed && is_unknown (value_known key v.state), fault.EphemeralStateGetWithClosedInput) ∷ (v.counters.ephemeral == most, fault.ExhaustedEphemeralIds) ∷ []

by_phase : (p : Phase) (key : List ℕ) (name : NamedFault) (v : Machine)
    → first_reason ((is_replaying p, fault.EphemeralCommandDuringReplay) ∷ (is_waiting p, fault.UnexpectedState) ∷ (is_closed p, fault.Closed) ∷ rest key v) ≡ Some name → read_in p key v ≡ refused name v
unfolding rest
by_phase WaitingStart key name v e = ap (λ n. refused n v) (same_Some _ name e)
by_phase WaitingReplayEntries key name v e = ap (λ n. refused n v) (same_Some _ name e)
by_phase Replaying key name v e = ap (λ n. refused n v) (same_Some _ name e)
by_phase Closed key name v e = ap (λ n. refused n v) (same_Some _ name e)
by_phase Processing key name v e = by_numbers v.input_closed (value_known key v.state) (v.counters.ephemeral == most) key name v e

by_version : (b : Bool) (key : List ℕ) (name : NamedFault) (v : Machine)
    → first_reason ((not b, fault.UnsupportedFeatureForNegotiatedVersion) ∷ (is_replaying v.phase, fault.EphemeralCommandDuringReplay) ∷ (is_waiting v.phase, fault.UnexpectedState) ∷ (is_closed v.phase, fault.Closed) ∷ rest key v) ≡ Some name
    → (if b then read_in v.phase key v else refused fault.UnsupportedFeatureForNegotiatedVersion v) ≡ refused name v
unfolding rest
by_version true key name v e = by_phase v.phase key name v e
by_version false key name v e = ap (λ n. refused n v) (same_Some _ name e)

pub read_refused : (key : List ℕ) (name : NamedFault) (v : Machine) → first_reason (reasons key v) ≡ Some name → ephemeral_step key v ≡ refused name v
unfolding ephemeral_step rest
read_refused key name v e = by_version (is_from_v8 v.version) key name v e

-- ---- answers

-- a read whose value is there is taken in Processing
takes : (id : ℕ) (found : Option (List ℕ)) (x : Value) (w : Machine) → is_processing w.phase ≡ true → value_at id w.ephemeral ≡ Some found → value_found found ≡ x → TakeGives id x w
unfolding take_ephemeral_step
takes id found x w runs there is = (
  record w { ephemeral = without_ready id w.ephemeral },
  ap (λ b. if b then Done (option_map value_found (value_at id w.ephemeral)) (record w { ephemeral = without_ready id w.ephemeral }) else refused (state_fault w.phase) w) runs
      ∙ ap (λ o. Done (option_map value_found o) (record w { ephemeral = without_ready id w.ephemeral })) there
      ∙ ap (λ y. Done (Some y) (record w { ephemeral = without_ready id w.ephemeral })) is,
)

found_value : (found : VoidOrValue) → value_found (found_of found) ≡ value_of_result found
found_value stored.Void = refl
found_value (stored.Value bytes) = refl

-- the result of a read in flight comes
comes : (raw : RawMessage) (found : VoidOrValue) (id : ℕ) (p : Phase) (w : Machine) → p ≡ Processing → is_processing w.phase ≡ true → is_in_flight id w.ephemeral ≡ true → Brings id found raw
    → (u : Machine) × (ephemeral_notification_step raw p w ≡ Done tt u) × TakeGives id (value_of_result found) u
comes raw found id p w at runs flies brings =
    let u : Machine = record w { ephemeral = with_read_completed id (found_of found) w.ephemeral } in
    let there : value_at id u.ephemeral ≡ Some (found_of found) =
    ap (λ b. value_at id (if b || is_ready id w.ephemeral then record { in_flight = remove_key (is_at (nat_cmp id)) w.ephemeral.in_flight; ready = insert_entry nat_cmp w.ephemeral.ready id (found_of found) } else w.ephemeral)) flies ∙ its_own id (found_of found) w.ephemeral.ready in
    (u, ap (λ x. ephemeral_notification_step raw x w) at ∙ ap (λ o. completed_by o w) brings, takes id (found_of found) (value_of_result found) u runs there (found_value found))

Answers : List ℕ → Machine → Outcome EphemeralCompletionId → Type 0
Answers key v o = (id : EphemeralCompletionId) × (w : Machine) × (o ≡ Done id w) × (id.0 ≡ v.counters.ephemeral) × IsAnswered key (value_known key v.state) id.0 v w

known_answered : (key : List ℕ) (k : Known) (v : Machine) → v.phase ≡ Processing → IsAnswered key k v.counters.ephemeral v (read_of key k v)
known_answered key Unknown v runs = (refl, λ raw found brings. comes raw found v.counters.ephemeral v.phase (asked_for key v) runs (ap is_processing runs) (among v.counters.ephemeral v.ephemeral.in_flight) brings)
known_answered key Empty v runs = (takes v.counters.ephemeral None value.Void (ready_at_once None v) (ap is_processing runs) (its_own v.counters.ephemeral None v.ephemeral.ready) refl, refl)
known_answered key (Holds bytes) v runs = (takes v.counters.ephemeral (Some bytes) (value.Success bytes) (ready_at_once (Some bytes) v) (ap is_processing runs) (its_own v.counters.ephemeral (Some bytes) v.ephemeral.ready) refl, refl)

none_missing : (closed : Bool) (k : Known) (full : Bool) → first_reason ((closed && is_unknown k, fault.EphemeralStateGetWithClosedInput) ∷ (full, fault.ExhaustedEphemeralIds) ∷ []) ≡ None → option_or (asking_fault closed k) (if full then Some fault.ExhaustedEphemeralIds else None) ≡ None
none_missing true Unknown full e = absurd (cc)
none_missing true Empty true e = absurd (cc)
none_missing true Empty false e = refl
none_missing true (Holds bytes) true e = absurd (cc)
none_missing true (Holds bytes) false e = refl
none_missing false k true e = absurd (cc)
none_missing false k false e = refl

phase_answered : (p : Phase) (key : List ℕ) (v : Machine) → v.phase ≡ p → first_reason ((is_replaying p, fault.EphemeralCommandDuringReplay) ∷ (is_waiting p, fault.UnexpectedState) ∷ (is_closed p, fault.Closed) ∷ rest key v) ≡ None → Answers key v (read_in p key v)
unfolding rest Answers
phase_answered WaitingStart key v at e = absurd (cc)
phase_answered WaitingReplayEntries key v at e = absurd (cc)
phase_answered Replaying key v at e = absurd (cc)
phase_answered Closed key v at e = absurd (cc)
phase_answered Processing key v at e =
    let k = value_known key v.state in (
      record { 0 = v.counters.ephemeral },
      read_of key k v,
      ap (λ o. ephemeral_read_numbered o key k v) (none_missing v.input_closed k (v.counters.ephemeral == most) e),
      refl,
      known_answered key k v at,
    )

version_answered : (b : Bool) (key : List ℕ) (v : Machine)
    → first_reason ((not b, fault.UnsupportedFeatureForNegotiatedVersion) ∷ (is_replaying v.phase, fault.EphemeralCommandDuringReplay) ∷ (is_waiting v.phase, fault.UnexpectedState) ∷ (is_closed v.phase, fault.Closed) ∷ rest key v) ≡ None
    → Answers key v (if b then read_in v.phase key v else refused fault.UnsupportedFeatureForNegotiatedVersion v)
unfolding rest
version_answered true key v e = phase_answered v.phase key v refl e
version_answered false key v e = absurd (cc)

pub read_answered : (key : List ℕ) (v : Machine) → first_reason (reasons key v) ≡ None → (id : EphemeralCompletionId) × (w : Machine) × (ephemeral_step key v ≡ Done id w) × (id.0 ≡ v.counters.ephemeral) × IsAnswered key (value_known key v.state) id.0 v w
unfolding ephemeral_step rest Answers
read_answered key v e = version_answered (is_from_v8 v.version) key v e
