-- The state of a key, as its exclusive invocations leave it, one after another; and what of it
-- a new attempt of the next one is handed.
use Rattle.std.specs.Prelude.{ℕ, ◌&&◌, nat_le, Bool, true, false, List, [], ◌∷◌, length, take, Option, Some, None, slice_get}
use Rattle.vm_state.specs.declared.state_map.StateCoverage.TheVariants.{Complete}
use Rattle.vm_state.specs.declared.state_map.StateMap.{StateMap}
use Rattle.vm_model.specs.Moves.{changed_by}
use Rattle.journal_entries.specs.Entries.{said_in}
use Rattle.world_rounds.specs.declared.types.Round.{Round}
use Rattle.world_rounds.specs.Course.{BeginsRound, CourseView}
use Rattle.world_rounds.specs.States.{values_in}
use Rattle.engines.specs.declared.engine.Engine.{Engine}
use Rattle.engines.specs.declared.engine.Invocation.{Invocation}
use Rattle.engine_inboxes.specs.declared.target.Target.{Target}
use Rattle.engine_inboxes.specs.Targets.{is_text, share}
use Rattle.engines.specs.Members.{MemberView}

-- both are of exclusive handlers of one service, and of one key
abbrev pub shares_key : {H : Type 0} → List (Target H) → Invocation H → Invocation H → Bool
shares_key targets own it = is_text it.key own.key && share targets it.target own.target

-- what an invocation has stored
abbrev pub stored_of : {H : Type 0} → Option (MemberView H) → List (List ℕ)
stored_of None = []
stored_of (Some m) = m.course.journal

-- the state that an invocation leaves, by its stored commands, from the one that it was handed
abbrev pub state_left : {H : Type 0} → Bool → Invocation H → StateMap → StateMap
state_left false it state = state
state_left true it state = changed_by (said_in (stored_of it.member)) state

-- the state that these leave, one after another, if they are of the same key
abbrev pub left_along : {H : Type 0} → List (Target H) → Invocation H → List (Invocation H)
    → StateMap → StateMap
left_along targets own [] state = state
left_along targets own (it ∷ its) state =
    left_along targets own its (state_left (shares_key targets own it) it state)

-- before any invocation a key has no values
abbrev pub no_values : StateMap
no_values = record { entries = []; coverage = Complete }

-- the state that all invocations of its key that were made before it leave to an invocation
abbrev pub handed_on : {H : Type 0} → Engine H → ℕ → Invocation H → StateMap
handed_on e place own = left_along e.targets.now own (take place e.invocations.items) no_values

abbrev pub base_in : {H : Type 0} → Engine H → ℕ → Option (Invocation H) → List (List ℕ × List ℕ)
base_in e place None = []
base_in e place (Some own) = values_in (handed_on e place own)

-- the values that are handed on to the invocation at a place
abbrev pub base_at : {H : Type 0} → Engine H → ℕ → List (List ℕ × List ℕ)
base_at e place = base_in e place (slice_get e.invocations.items place)

-- ---- a round begins

-- no more than its input is stored
abbrev pub has_input_alone : {H : Type 0} → CourseView H → Bool
has_input_alone c = nat_le (length c.journal) 1

-- all its attempts are made with this state before any command
abbrev pub with_base : {H : Type 0} → List (List ℕ × List ℕ) → CourseView H → CourseView H
with_base base c = record c { setting = record c.setting { base = base } }

abbrev pub handed_if : {H : Type 0} → Bool → List (List ℕ × List ℕ) → CourseView H → CourseView H
handed_if false base c = c
handed_if true base c = with_base base c

-- It is handed this state, and a round begins. Once more than its input is stored, it keeps the
-- state that it was handed.
abbrev pub BeginsHanded : {H : Type 0} → Round → List (List ℕ × List ℕ) → CourseView H
    → CourseView H → Type 0
BeginsHanded round base old new =
    BeginsRound round (handed_if (has_input_alone old) base old) new
