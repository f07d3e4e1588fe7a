-- The state reads, in a machine that agrees with a point.
use Rattle.std.proofs.Common.{◌≡◌, true, List, [], ◌∷◌, ◌++◌, Option, Some, None, refl, sym, ap, ◌∙◌, subst, append-nil}
use Rattle.std.specs.Prelude.{if◌then◌else◌, ℕ, Result, Ok, Err}
use Rattle.journal_protocol.specs.NamedFault.{NamedFault}
use Rattle.journal_protocol.specs.Message.{Message}
use Rattle.journal_protocol.specs.RawMessage.{RawMessage}
use Rattle.journal_protocol.specs.NotificationResult.{NotificationResult}
use Rattle.journal_protocol.specs.Frames.{type_of}
use Rattle.vm_state.specs.declared.state_map.StateMap.{StateMap}
use Rattle.vm_types.specs.declared.steps.Answer.{Answer}
use Rattle.vm_types.specs.declared.steps.Answer.TheVariants as answer
use Rattle.await_trees.specs.declared.handle.NotificationHandle.{NotificationHandle}
use Rattle.vm_state.specs.Counting.{missing_number}
use Rattle.vm_machine.specs.declared.machine.Machine.{Machine}
use Rattle.vm_asks.specs.declared.state_read.StateRead.{StateRead}
use Rattle.vm_asks.specs.declared.state_read.StateRead.TheVariants as reads
use Rattle.vm_machine.specs.Commands.{about_next, entered, handed_out, phase_after, written as wrote}
use Rattle.vm_machine.specs.Outcomes.{Done, Failed, last_related}
use Rattle.vm_machine.specs.Phases.{is_processing, state_fault}
use Rattle.vm_machine.specs.Reads.{ReadCanBeRead, read_back, read_counted, read_numbered, read_popped, read_step, read_written, with_read_ready}
use Rattle.vm_asks.specs.StateReads.{eager_type, lazy_form, lazy_type, name_read, own_form, recorded_as, recorded_type, result_in, own_result}
use Rattle.vm_asks.specs.Requests.{changed}
use Rattle.vm_model.specs.Calls.{Setup, Demand, Move, counted, reading}
use Rattle.vm_model.specs.Calls.Demand.{Reads}
use Rattle.vm_model.specs.Calls.Move.{Needs}
use Rattle.journal_entries.specs.Journal.{stored_form}
use Rattle.vm_model.specs.Moves.{Point, with_read_result, changed_by, command_used, found, longer, moved, supply}
use Rattle.vm_model.proofs.Standing.{read_stands}
use Rattle.vm_attempt.specs.Agreement.{Aside, Beside, machine_at}
use Rattle.vm_attempt.specs.Steps.{IfDone}
use Rattle.vm_attempt.proofs.Leading.{Leads, open_after, state_at, with_beside, with_frames}
use Rattle.vm_attempt.proofs.Requesting.{changed_behind, runs_at, some_behind, uses_next, uses_own}

-- what a read needs, and what it is answered
abbrev needed : StateRead → Point → Demand
needed r p = Reads r p.derived.counters.completion

abbrev gives : NotificationHandle → List Answer
gives handle = answer.Handle handle ∷ []

abbrev handle_at : Point → NotificationHandle
handle_at p = record { 0 = p.derived.counters.handle }

-- its own command
abbrev own_at : StateMap → StateRead → Point → Message
own_at given r p = own_form r p.derived.counters.completion (state_at given p)

abbrev needing : StateRead → Point → Move
needing r p = Needs (needed r p) (gives (handle_at p)) (counted 1 p.derived)

-- a read changes no state
unchanged : (r : StateRead) (id : ℕ) (state : StateMap) → changed (lazy_form r id) state ≡ state
unchanged (reads.Value key name) id state = refl
unchanged (reads.Keys name) id state = refl

same_state : (given : StateMap) (r : StateRead) (p : Point) → changed_by (p.said ++ lazy_form r p.derived.counters.completion ∷ []) given ≡ changed_by p.said given
same_state given r p = changed_behind p.said (lazy_form r p.derived.counters.completion) given ∙ unchanged r p.derived.counters.completion (changed_by p.said given)

-- the point after a read
abbrev past : StateRead → Option NotificationResult → List RawMessage → Point → Point
past r o left p = record { answers = p.answers ++ gives (handle_at p); derived = with_read_result p.derived.counters.completion o (counted 1 p.derived); said = p.said ++ lazy_form r p.derived.counters.completion ∷ []; queue = p.queue; left = left }

-- ---- no recorded command is left: the read's own is written

shown : StateMap → Aside → StateRead → Point → Beside
shown given aside r p = record { last = record { ty = type_of (own_at given r p); name = name_read r }; runs = aside.beside.runs }

writes : (s : Setup) (given : StateMap) (written : List RawMessage) (aside : Aside) (r : StateRead) (p : Point) → p.left ≡ [] → (o : Option NotificationResult)
    → Leads s given written aside p (needing r p) [] (stored_form (own_at given r p) ∷ []) gives (command_used (Ok o) (needed r p) (gives (handle_at p)) (counted 1 p.derived) [] p)
    (Done (handle_at p) (with_read_ready p.derived.counters.completion o (wrote (own_at given r p) (handed_out 1 (entered (type_of (own_at given r p)) (name_read r) (machine_at s given written aside p))))))
unfolding shown
writes s given written aside r p spent None =
    let m = own_at given r p in (
      refl,
      (
        shown given aside r p,
        λ i. record (machine_at s given written (with_beside (shown given aside r p) (with_frames (stored_form m ∷ []) aside)) (past r None [] p)) { commands = spent i; phase = phase_after (spent i); wrote_command = sym (some_behind written (stored_form m)) i; state = sym (same_state given r p) i },
      ),
    )
writes s given written aside r p spent (Some result) =
    let m = own_at given r p in (
      refl,
      (
        shown given aside r p,
        λ i. record (machine_at s given written (with_beside (shown given aside r p) (with_frames (stored_form m ∷ []) aside)) (past r (Some result) [] p)) { commands = spent i; phase = phase_after (spent i); wrote_command = sym (some_behind written (stored_form m)) i; state = sym (same_state given r p) i },
      ),
    )

-- ---- the next recorded command is popped

-- the machine that has popped it
abbrev popped : Setup → StateMap → List RawMessage → Aside → StateRead → RawMessage → List RawMessage → Point → Machine
popped s given written aside r c left p = record (handed_out 1 (entered (eager_type r) [] (machine_at s given written aside p))) { commands = left; phase = phase_after left; last_command = record { ty = recorded_type r c; name = [] } }

pops : (s : Setup) (given : StateMap) (written : List RawMessage) (aside : Aside) (r : StateRead) (p : Point) (c : RawMessage) (left : List RawMessage) (o : Result (Option NotificationResult) NamedFault) → found (needed r p) c ≡ o
    → Leads s given written aside p (needing r p) (c ∷ left) [] gives (command_used o (needed r p) (gives (handle_at p)) (counted 1 p.derived) left p) (read_back p.derived.counters.handle p.derived.counters.completion o (popped s given written aside r c left p))
pops s given written aside r p c left (Err name) is =
    let w = popped s given written aside r c left p in
    record { why = name; related = Some (last_related w); reason = is; error = refl; output = refl; open_yet = open_after left; version = refl; options = refl }
pops s given written aside r p c left (Ok None) is =
    let last : Beside = record { last = record { ty = recorded_type r c; name = [] }; runs = aside.beside.runs } in
    (refl, (last, λ i. record (machine_at s given (sym (append-nil written) i) (record (with_beside last aside) { output = sym (append-nil aside.output) i }) (past r None left p)) { state = sym (same_state given r p) i }))
pops s given written aside r p c left (Ok (Some result)) is =
    let last : Beside = record { last = record { ty = recorded_type r c; name = [] }; runs = aside.beside.runs } in
    (refl, (last, λ i. record (machine_at s given (sym (append-nil written) i) (record (with_beside last aside) { output = sym (append-nil aside.output) i }) (past r (Some result) left p)) { state = sym (same_state given r p) i }))

-- ---- the whole event

numbers : (s : Setup) (given : StateMap) (written : List RawMessage) (aside : Aside) (r : StateRead) (p : Point) → IfDone (read_numbered r (machine_at s given written aside p)) (ReadCanBeRead r (machine_at s given written aside p)) → (left : List RawMessage) → p.left ≡ left
    → Leads s given written aside p (needing r p) left (supply (state_at given p) (needing r p) left) gives (moved (needing r p) (longer (supply (state_at given p) (needing r p) left) p)) (read_numbered r (machine_at s given written aside p))
numbers s given written aside r p whole [] is =
    let v = machine_at s given written aside p in
    let m = own_at given r p in
    let id = p.derived.counters.completion in
    let spent : is_processing v.phase ≡ true = ap (λ l. is_processing (phase_after l)) is in
    let event : read_numbered r v ≡ Done (handle_at p) (read_written r id m v) = ap (λ b. if b then Done (handle_at p) (read_written r id m v) else read_popped r p.derived.counters.handle id p.left (handed_out 1 (entered (eager_type r) [] v))) spent in
    let stands : found (needed r p) (stored_form m) ≡ Ok (own_result (result_in m)) = read_stands r id (state_at given p) (subst (λ o. IfDone o (ReadCanBeRead r v)) event whole spent) in
    let next : moved (needing r p) (longer (stored_form m ∷ []) p) ≡ command_used (Ok (own_result (result_in m))) (needed r p) (gives (handle_at p)) (counted 1 p.derived) [] p =
    uses_own (needed r p) (gives (handle_at p)) (counted 1 p.derived) (stored_form m) p is ∙ ap (λ o. command_used o (needed r p) (gives (handle_at p)) (counted 1 p.derived) [] p) stands
    in
    rw (next, event) (writes s given written aside r p is (own_result (result_in m)))
numbers s given written aside r p whole (c ∷ left) is =
    let v = machine_at s given written aside p in
    let m = own_at given r p in
    let id = p.derived.counters.completion in
    let u = handed_out 1 (entered (eager_type r) [] v) in
    let event : read_numbered r v ≡ read_popped r p.derived.counters.handle id (c ∷ left) u = ap (λ l. if is_processing (phase_after l) then Done (handle_at p) (read_written r id m v) else read_popped r p.derived.counters.handle id l u) is in
    let next : moved (needing r p) (longer [] p) ≡ command_used (found (needed r p) c) (needed r p) (gives (handle_at p)) (counted 1 p.derived) left p = uses_next (needed r p) (gives (handle_at p)) (counted 1 p.derived) c left p is in
    rw (next, event) (pops s given written aside r p c left (recorded_as r id c) refl)

counts : (s : Setup) (given : StateMap) (written : List RawMessage) (aside : Aside) (r : StateRead) (p : Point) (o : Option NamedFault) → IfDone (read_counted o r (machine_at s given written aside p)) (ReadCanBeRead r (machine_at s given written aside p))
    → Leads s given written aside p (reading r o p.derived) p.left (supply (state_at given p) (reading r o p.derived) p.left) gives (moved (reading r o p.derived) (longer (supply (state_at given p) (reading r o p.derived) p.left) p)) (read_counted o r (machine_at s given written aside p))
counts s given written aside r p (Some name) whole = record { why = name; related = Some _; reason = refl; error = refl; output = refl; open_yet = open_after p.left; version = refl; options = refl }
counts s given written aside r p None whole = numbers s given written aside r p whole p.left refl

-- a state read does what its move leads to
pub reads_follow : (s : Setup) (given : StateMap) (written : List RawMessage) (aside : Aside) (r : StateRead) (p : Point) → IfDone (read_step r (machine_at s given written aside p)) (ReadCanBeRead r (machine_at s given written aside p))
    → Leads s given written aside p (reading r (missing_number 1 0 1 p.derived.counters) p.derived) p.left (supply (state_at given p) (reading r (missing_number 1 0 1 p.derived.counters) p.derived) p.left) gives (moved (reading r (missing_number 1 0 1 p.derived.counters) p.derived) (longer (supply (state_at given p) (reading r (missing_number 1 0 1 p.derived.counters) p.derived) p.left) p)) (read_step r (machine_at s given written aside p))
unfolding read_step
reads_follow s given written aside r p whole =
    let v = machine_at s given written aside p in
    let lacks = missing_number 1 0 1 p.derived.counters in
    let runs = runs_at p.left in
    rw runs (counts s given written aside r p lacks (subst (λ b. IfDone (if b then read_counted lacks r v else Failed (about_next (state_fault v.phase) (lazy_type r) [] v) v) (ReadCanBeRead r v)) runs whole))
