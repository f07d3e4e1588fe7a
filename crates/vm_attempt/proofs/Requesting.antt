-- The calls with a command, in a machine that agrees with a point.
use Rattle.journal_protocol.specs.NotificationId.TheVariants.{CompletionId}
use Rattle.std.proofs.Common.{◌≡◌, Bool, true, false, List, [], ◌∷◌, ◌++◌, Option, Some, None, refl, sym, ap, ◌∙◌, subst, append-nil}
use Rattle.std.specs.Prelude.{◌==◌, if◌then◌else◌, Result, Ok, Err}
use Rattle.journal_protocol.specs.NamedFault.{NamedFault}
use Rattle.journal_protocol.specs.NamedFault.TheVariants as fault
use Rattle.journal_protocol.specs.Message.{Message}
use Rattle.journal_protocol.specs.RawMessage.{RawMessage}
use Rattle.journal_protocol.specs.Equality.{header_equal}
use Rattle.journal_protocol.specs.Frames.{type_of}
use Rattle.journal_protocol.specs.Bodies.{message_in}
use Rattle.journal_protocol.specs.Types.{type_number}
use Rattle.journal_protocol.specs.NotificationResult.{NotificationResult}
use Rattle.vm_state.specs.declared.state_map.StateMap.{StateMap}
use Rattle.vm_types.specs.declared.steps.Answer.{Answer}
use Rattle.await_trees.specs.declared.handle.NotificationHandle.{NotificationHandle}
use Rattle.vm_state.specs.Counting.{missing_number, next_index}
use Rattle.vm_parts.specs.Deliveries.{is_known}
use Rattle.vm_machine.specs.declared.machine.Machine.{Machine}
use Rattle.vm_asks.specs.declared.command.Command.{Command}
use Rattle.vm_machine.specs.declared.phase.Phase.TheVariants.{Replaying, Processing}
use Rattle.vm_machine.specs.Commands.{carried_out, compared, command_if_counted as counted_event, entered, issued, phase_after, popped, popped_from, prepared, replayed, runs_after, of_type, written as wrote}
use Rattle.vm_types.specs.Options.{ignores_payloads}
use Rattle.vm_machine.specs.Phases.{is_processing, is_running, state_fault}
use Rattle.vm_machine.specs.Outcomes.{Outcome, Done, Failed, ◌>>>◌, about_last, last_related}
use Rattle.vm_asks.specs.Requests.{changed, ids_of, name_of, shown_type, tracked_after, with_ids}
use Rattle.vm_model.specs.Calls.{Setup, Demand, Derived, Move, answer_of, counted, demand_of, numbered, requested, ready_in}
use Rattle.vm_model.specs.Calls.Demand.{Exactly}
use Rattle.vm_model.specs.Calls.Move.{Needs}
use Rattle.journal_entries.specs.Journal.{stored_form}
use Rattle.vm_model.specs.Moves.{Point, changed_by, command_used, found, longer, moved, reads_as, supply, uses_command}
use Rattle.vm_model.proofs.Runs.{longer_nothing}
use Rattle.vm_attempt.specs.Agreement.{Aside, Beside, is_some_command, machine_at}
use Rattle.vm_attempt.specs.Steps.{IfDone}
use Rattle.vm_attempt.proofs.Leading.{Leads, Refusing, open_after, state_at, with_beside, with_frames}

-- ---- the event, by what is left

carries_spent : (m : Message) (ignore : Bool) (w : Machine) → w.phase ≡ Processing → carried_out m ignore w ≡ Done tt (wrote m w)
unfolding carried_out
carries_spent m ignore w e = ap (λ phase. if is_processing phase then Done tt (wrote m w) else replayed m ignore w) e

carries_recorded : (m : Message) (ignore : Bool) (w : Machine) → w.phase ≡ Replaying → carried_out m ignore w ≡ replayed m ignore w
unfolding carried_out
carries_recorded m ignore w e = ap (λ phase. if is_processing phase then Done tt (wrote m w) else replayed m ignore w) e

replays_next : (m : Message) (ignore : Bool) (c : RawMessage) (left : List RawMessage) (w : Machine) → w.commands ≡ c ∷ left → replayed m ignore w ≡ (of_type c (type_of m) (record w { commands = left; phase = phase_after left }) >>> λ raw z. compared m ignore (message_in raw.ty raw.body) z)
unfolding replayed popped
replays_next m ignore c left w e = ap (λ l. popped_from l (type_of m) w >>> λ raw z. compared m ignore (message_in raw.ty raw.body) z) e

pub changed_behind : (cs : List Message) (c : Message) (state : StateMap) → changed_by (cs ++ c ∷ []) state ≡ changed c (changed_by cs state)
changed_behind [] c state = refl
changed_behind (x ∷ cs) c state = changed_behind cs c (changed x state)

pub some_behind : (cs : List RawMessage) (c : RawMessage) → is_some_command (cs ++ c ∷ []) ≡ true
some_behind [] c = refl
some_behind (x ∷ cs) c = refl

-- whether the next completion id has a result already
abbrev knows_at : Setup → Point → Bool
knows_at s p = is_known (CompletionId p.derived.counters.completion) (record { queued = p.queue; ready = ready_in s p.derived; handles = p.derived.handles })

-- how errors show a call's command, and the runs that are pending after it
abbrev shown : Setup → Aside → Command → Point → Beside
shown s aside r p = record {
  last = record { ty = shown_type r.message; name = name_of r.message };
  runs = runs_after r.message (record { 0 = p.derived.counters.handle }) p.derived.counters.completion (next_index p.derived.counters.command) (knows_at s p) aside.beside.runs;
}

-- what stands aside once the command is shown
abbrev noted : Setup → Command → Point → Aside → Aside
noted s r p aside = with_beside (shown s aside r p) aside

-- what follows after a command: it is counted, and tracked if its invocation is cancelled with the
-- handler's
abbrev after : Setup → Command → Point → Derived
after s r p = record (counted (ids_of r.message) p.derived) { tracked = tracked_after s.options.implicit_cancellation r.message p.derived.counters.handle p.derived.tracked }

-- the point of a call whose command is counted and said, but neither used nor answered
abbrev said_by : Setup → Command → Point → Point
said_by s r p = record p { derived = after s r p; said = p.said ++ with_ids p.derived.counters.completion r.message ∷ [] }

-- and the point after it
abbrev past : Setup → Command → List Answer → List RawMessage → Point → Point
past s r gives left p = record { answers = p.answers ++ gives; derived = after s r p; said = p.said ++ with_ids p.derived.counters.completion r.message ∷ []; queue = p.queue; left = left }

abbrev state_said : Setup → StateMap → List RawMessage → Aside → Command → Point → StateMap → Machine
state_said s given written aside r p state = record (machine_at s given written (noted s r p aside) (said_by s r p)) { state = state }

-- what a call changes before its command
prepares : (s : Setup) (given : StateMap) (written : List RawMessage) (aside : Aside) (r : Command) (p : Point) → prepared r.message (machine_at s given written aside p) ≡ machine_at s given written (noted s r p aside) (said_by s r p)
prepares s given written aside r p = ap (state_said s given written aside r p) (sym (changed_behind p.said (with_ids p.derived.counters.completion r.message) given))

-- the outcome of a call whose command was carried out
abbrev handed : Point → Outcome Unit → Outcome NotificationHandle
handed p o = o >>> λ _ w. Done (record { 0 = p.derived.counters.handle }) w

-- the move of a call with a command
abbrev needing : Setup → Command → Point → Move
needing s r p = Needs (demand_of s r p.derived) (answer_of r p.derived ∷ []) (after s r p)

-- whether payloads are left out
abbrev ignores : Setup → Command → Bool
ignores s r = ignores_payloads s.options.non_determinism_checks r.unstable

-- ---- no recorded command is left: the call's own is written

writes : (s : Setup) (given : StateMap) (written : List RawMessage) (aside : Aside) (r : Command) (p : Point) (gives : NotificationHandle → List Answer) → gives (record { 0 = p.derived.counters.handle }) ≡ answer_of r p.derived ∷ [] → p.left ≡ []
    → (o : Result (Option NotificationResult) NamedFault) → o ≡ Ok None
    → Leads s given written aside p (needing s r p) [] (stored_form (with_ids p.derived.counters.completion r.message) ∷ []) gives (command_used o (demand_of s r p.derived) (answer_of r p.derived ∷ []) (after s r p) [] p) (handed p (Done tt (wrote (with_ids p.derived.counters.completion r.message) (machine_at s given written (noted s r p aside) (said_by s r p)))))
writes s given written aside r p gives answer spent (Err name) e = absurd (cc)
writes s given written aside r p gives answer spent (Ok (Some x)) e = absurd (cc)
writes s given written aside r p gives answer spent (Ok None) e =
    let m = with_ids p.derived.counters.completion r.message in (
      ap (λ l. p.answers ++ l) (sym answer),
      (
        shown s aside r p,
        λ i. record (machine_at s given written (with_frames (stored_form m ∷ []) (noted s r p aside)) (past s r (answer_of r p.derived ∷ []) [] p)) { commands = spent i; phase = phase_after (spent i); wrote_command = sym (some_behind written (stored_form m)) i },
      ),
    )

-- ---- the next recorded command is popped

-- what the machine is once it has popped a command
abbrev popped_to : Setup → StateMap → List RawMessage → Aside → Command → List RawMessage → Point → Machine
popped_to s given written aside r left p = record (machine_at s given written (noted s r p aside) (said_by s r p)) { commands = left; phase = phase_after left }

-- the next recorded command doesn't stand for the call's
unlike : (s : Setup) (given : StateMap) (written : List RawMessage) (aside : Aside) (r : Command) (p : Point) (c : RawMessage) (left : List RawMessage) (name : NamedFault) → found (demand_of s r p.derived) c ≡ Err name
    → Refusing s aside.output p.queue (needing s r p) (c ∷ left) (about_last name (popped_to s given written aside r left p)) (popped_to s given written aside r left p)
unlike s given written aside r p c left name reason = record { why = name; related = Some (last_related (popped_to s given written aside r left p)); reason = reason; error = refl; output = refl; open_yet = open_after left; version = refl; options = refl }

-- a recorded command of the call's type is compared
found_same : (command : Message) (ignore : Bool) (c : RawMessage) → (type_number c.ty == type_number (type_of command)) ≡ true → found (Exactly command ignore) c ≡ reads_as ignore command (message_in c.ty c.body)
found_same command ignore c same = ap (λ b. if b then reads_as ignore command (message_in c.ty c.body) else Err fault.CommandTypeMismatch) same

reads : (s : Setup) (given : StateMap) (written : List RawMessage) (aside : Aside) (r : Command) (p : Point) (c : RawMessage) (left : List RawMessage) (gives : NotificationHandle → List Answer) → gives (record { 0 = p.derived.counters.handle }) ≡ answer_of r p.derived ∷ []
    → (type_number c.ty == type_number (type_of (with_ids p.derived.counters.completion r.message))) ≡ true
    → (o : Option Message) → message_in c.ty c.body ≡ o → Leads s given written aside p (needing s r p) (c ∷ left) [] gives (command_used (reads_as (ignores s r) (with_ids p.derived.counters.completion r.message) o) (demand_of s r p.derived) (answer_of r p.derived ∷ []) (after s r p) left p) (handed p (compared (with_ids p.derived.counters.completion r.message) (ignores s r) o (popped_to s given written aside r left p)))
reads s given written aside r p c left gives answer same None is =
    let m = with_ids p.derived.counters.completion r.message in
    unlike s given written aside r p c left fault.BadMessage (found_same m (ignores s r) c same ∙ ap (reads_as (ignores s r) m) is)
reads s given written aside r p c left gives answer same (Some recorded) is = by_test (header_equal recorded m (ignores s r)) refl
  where
    m : Message
    m = with_ids p.derived.counters.completion r.message

    by_test : (b : Bool) → header_equal recorded m (ignores s r) ≡ b → Leads s given written aside p (needing s r p) (c ∷ left) [] gives (command_used (if b then Ok None else Err fault.CommandMismatch) (demand_of s r p.derived) (answer_of r p.derived ∷ []) (after s r p) left p) (handed p (if b then Done tt (popped_to s given written aside r left p) else Failed (about_last fault.CommandMismatch (popped_to s given written aside r left p)) (popped_to s given written aside r left p)))
    by_test false other =
        unlike s given written aside r p c left fault.CommandMismatch
        (found_same m (ignores s r) c same ∙ ap (reads_as (ignores s r) m) is ∙ ap (λ b. if b then Ok None else Err fault.CommandMismatch) other)
    by_test true equal = (ap (λ l. p.answers ++ l) (sym answer), (shown s aside r p, λ i. machine_at s given (sym (append-nil written) i) (record (noted s r p aside) { output = sym (append-nil aside.output) i }) (past s r (answer_of r p.derived ∷ []) left p)))

replays : (s : Setup) (given : StateMap) (written : List RawMessage) (aside : Aside) (r : Command) (p : Point) (c : RawMessage) (left : List RawMessage) (gives : NotificationHandle → List Answer) → gives (record { 0 = p.derived.counters.handle }) ≡ answer_of r p.derived ∷ []
    → Leads s given written aside p (needing s r p) (c ∷ left) [] gives (command_used (found (demand_of s r p.derived) c) (demand_of s r p.derived) (answer_of r p.derived ∷ []) (after s r p) left p)
    (handed p (of_type c (type_of (with_ids p.derived.counters.completion r.message)) (popped_to s given written aside r left p) >>> λ raw z. compared (with_ids p.derived.counters.completion r.message) (ignores s r) (message_in raw.ty raw.body) z))
replays s given written aside r p c left gives answer = by_test (type_number c.ty == type_number (type_of m)) refl
  where
    m : Message
    m = with_ids p.derived.counters.completion r.message

    e : Demand
    e = demand_of s r p.derived

    w : Machine
    w = popped_to s given written aside r left p

    by_test : (b : Bool) → (type_number c.ty == type_number (type_of m)) ≡ b → Leads s given written aside p (needing s r p) (c ∷ left) [] gives (command_used (if b then reads_as (ignores s r) m (message_in c.ty c.body) else Err fault.CommandTypeMismatch) e (answer_of r p.derived ∷ []) (after s r p) left p) (handed p ((if b then Done c w else Failed (about_last fault.CommandTypeMismatch w) w) >>> λ raw z. compared m (ignores s r) (message_in raw.ty raw.body) z))
    by_test true same = reads s given written aside r p c left gives answer same (message_in c.ty c.body) refl
    by_test false other = unlike s given written aside r p c left fault.CommandTypeMismatch (ap (λ b. if b then reads_as (ignores s r) m (message_in c.ty c.body) else Err fault.CommandTypeMismatch) other)

-- ---- the whole event

-- what is left of the recorded commands is not looked at
pub used_anyhow : (o : Result (Option NotificationResult) NamedFault) (e : Demand) (gives : List Answer) (d : Derived) (left rest : List RawMessage) (p : Point) → command_used o e gives d left (record p { left = rest }) ≡ command_used o e gives d left p
used_anyhow (Err name) e gives d left rest p = refl
used_anyhow (Ok result) e gives d left rest p = refl

-- a call's own command, if none is recorded
pub uses_own : (e : Demand) (gives : List Answer) (d : Derived) (c : RawMessage) (p : Point) → p.left ≡ [] → moved (Needs e gives d) (longer (c ∷ []) p) ≡ command_used (found e c) e gives d [] p
uses_own e gives d c p is = ap (λ l. uses_command e gives d (l ++ c ∷ []) (record p { left = l ++ c ∷ [] })) is ∙ used_anyhow (found e c) e gives d [] (c ∷ []) p

-- the next recorded command
pub uses_next : (e : Demand) (gives : List Answer) (d : Derived) (c : RawMessage) (left : List RawMessage) (p : Point) → p.left ≡ c ∷ left → moved (Needs e gives d) (longer [] p) ≡ command_used (found e c) e gives d left p
uses_next e gives d c left p is = ap (moved (Needs e gives d)) (longer_nothing p) ∙ ap (λ l. uses_command e gives d l p) is

-- the counters suffice: the command is written or popped
carries : (s : Setup) (given : StateMap) (written : List RawMessage) (aside : Aside) (r : Command) (p : Point) (gives : NotificationHandle → List Answer) → gives (record { 0 = p.derived.counters.handle }) ≡ answer_of r p.derived ∷ []
    → (P : Type 0) → (P → p.left ≡ [] → found (demand_of s r p.derived) (stored_form (with_ids p.derived.counters.completion r.message)) ≡ Ok None)
    → IfDone (handed p (carried_out (with_ids p.derived.counters.completion r.message) (ignores s r) (machine_at s given written (noted s r p aside) (said_by s r p)))) P
    → (left : List RawMessage) → p.left ≡ left
    → Leads s given written aside p (needing s r p) left (supply (state_at given p) (needing s r p) left) gives (moved (needing s r p) (longer (supply (state_at given p) (needing s r p) left) p))
    (handed p (carried_out (with_ids p.derived.counters.completion r.message) (ignores s r) (machine_at s given written (noted s r p aside) (said_by s r p))))
carries s given written aside r p gives answer P own whole [] is =
    let m = with_ids p.derived.counters.completion r.message in
    let e = demand_of s r p.derived in
    let w = machine_at s given written (noted s r p aside) (said_by s r p) in
    let next : moved (needing s r p) (longer (stored_form m ∷ []) p) ≡ command_used (found e (stored_form m)) e (answer_of r p.derived ∷ []) (after s r p) [] p = uses_own e (answer_of r p.derived ∷ []) (after s r p) (stored_form m) p is in
    let spent = carries_spent m (ignores s r) w (ap phase_after is) in
    rw (next, spent) (writes s given written aside r p gives answer is (found e (stored_form m)) (own (subst (λ o. IfDone (handed p o) P) spent whole) is))
carries s given written aside r p gives answer P own whole (c ∷ left) is =
    let m = with_ids p.derived.counters.completion r.message in
    let e = demand_of s r p.derived in
    let w = machine_at s given written (noted s r p aside) (said_by s r p) in
    let next : moved (needing s r p) (longer [] p) ≡ command_used (found e c) e (answer_of r p.derived ∷ []) (after s r p) left p = uses_next e (answer_of r p.derived ∷ []) (after s r p) c left p is in
    rw (next, carries_recorded m (ignores s r) w (ap phase_after is), replays_next m (ignores s r) c left w is) (replays s given written aside r p c left gives answer)

counts : (s : Setup) (given : StateMap) (written : List RawMessage) (aside : Aside) (r : Command) (p : Point) (gives : NotificationHandle → List Answer) → gives (record { 0 = p.derived.counters.handle }) ≡ answer_of r p.derived ∷ []
    → (P : Type 0) → (P → p.left ≡ [] → found (demand_of s r p.derived) (stored_form (with_ids p.derived.counters.completion r.message)) ≡ Ok None)
    → (o : Option NamedFault) → IfDone (counted_event o r.message r.unstable (machine_at s given written aside p)) P
    → Leads s given written aside p (numbered s r o p.derived) p.left (supply (state_at given p) (numbered s r o p.derived) p.left) gives (moved (numbered s r o p.derived) (longer (supply (state_at given p) (numbered s r o p.derived) p.left) p)) (counted_event o r.message r.unstable (machine_at s given written aside p))
counts s given written aside r p gives answer P own (Some name) whole = record { why = name; related = Some _; reason = refl; error = refl; output = refl; open_yet = open_after p.left; version = refl; options = refl }
counts s given written aside r p gives answer P own None whole =
    let m = with_ids p.derived.counters.completion r.message in
    let ready = prepares s given written aside r p in
    rw ready (carries s given written aside r p gives answer P own (subst (λ w. IfDone (handed p (carried_out m (ignores s r) w)) P) ready whole) p.left refl)

pub runs_at : (left : List RawMessage) → is_running (phase_after left) ≡ true
runs_at [] = refl
runs_at (c ∷ left) = refl

-- a call with a command does what its move leads to
pub issues : (s : Setup) (given : StateMap) (written : List RawMessage) (aside : Aside) (r : Command) (p : Point) (gives : NotificationHandle → List Answer) → gives (record { 0 = p.derived.counters.handle }) ≡ answer_of r p.derived ∷ []
    → (P : Type 0) → (P → p.left ≡ [] → found (demand_of s r p.derived) (stored_form (with_ids p.derived.counters.completion r.message)) ≡ Ok None)
    → IfDone (issued r.message r.unstable (machine_at s given written aside p)) P
    → Leads s given written aside p (requested s r p.derived) p.left (supply (state_at given p) (requested s r p.derived) p.left) gives (moved (requested s r p.derived) (longer (supply (state_at given p) (requested s r p.derived) p.left) p)) (issued r.message r.unstable (machine_at s given written aside p))
unfolding issued
issues s given written aside r p gives answer P own whole =
    let v = machine_at s given written aside p in
    let lacks = missing_number (ids_of r.message) 0 (ids_of r.message) p.derived.counters in
    let runs = runs_at p.left in
    rw runs (counts s given written aside r p gives answer P own lacks (subst (λ b. IfDone (if b then counted_event lacks r.message r.unstable v else (let w = entered (shown_type r.message) (name_of r.message) v in Failed (about_last (state_fault v.phase) w) w)) P) runs whole))
