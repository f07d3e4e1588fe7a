-- What leads where a move leads: an answer, a refusal, and a call with a command.
use Rattle.std.proofs.Common.{◌≡◌, List, [], ◌∷◌, Option, Some, None, refl, sym, ap, ◌∙◌, append-nil}
use Rattle.journal_protocol.specs.NamedFault.{NamedFault}
use Rattle.journal_protocol.specs.RawMessage.{RawMessage}
use Rattle.vm_state.specs.declared.state_map.StateMap.{StateMap}
use Rattle.vm_types.specs.declared.steps.Answer.{Answer}
use Rattle.vm_machine.specs.declared.machine.Machine.{Machine}
use Rattle.vm_asks.specs.declared.command.Command.{Command}
use Rattle.vm_asks.specs.Asks.{command_answer}
use Rattle.vm_machine.specs.Commands.{CanBeRead, commanded_unless, phase_after}
use Rattle.vm_machine.specs.Outcomes.{Outcome, Done, Failed, called, refused}
use Rattle.vm_machine.specs.Phases.{is_closed, is_processing}
use Rattle.vm_model.specs.Calls.{Setup, Derived, Move, commanding}
use Rattle.vm_model.specs.Calls.Move.{Answers, Refuses}
use Rattle.vm_model.specs.Moves.{Point, longer, moved, supply}
use Rattle.vm_attempt.specs.Agreement.{Aside, machine_at}
use Rattle.vm_attempt.specs.Steps.{IfDone, mapped}
use Rattle.vm_attempt.proofs.Leading.{Leads, open_after, state_at}
use Rattle.journal_protocol.specs.Commands.{IsCommand}
use Rattle.vm_attempt.proofs.Own.{stands_for_itself}
use Rattle.vm_attempt.proofs.Requesting.{issues}

-- a move that brings no command of its own leads where it leads
abbrev pub LeadsOn : {A : Type 0} → Setup → StateMap → List RawMessage → Aside → Point → (A → Answer) → Move → Outcome A → Type 0
LeadsOn s given written aside p gives mv o = Leads s given written aside p mv p.left (supply (state_at given p) mv p.left) (λ a. gives a ∷ []) (moved mv (longer (supply (state_at given p) mv p.left) p)) o

-- an answer with nothing used
pub answers : {A : Type 0} (s : Setup) (given : StateMap) (written : List RawMessage) (aside : Aside) (p : Point) (gives : A → Answer) (a : A) (d : Derived) → LeadsOn s given written aside p gives (Answers (gives a ∷ []) d) (Done a (machine_at s given written aside (record p { derived = d })))
answers s given written aside p gives a d = (refl, (aside.beside, λ i. record (machine_at s given (sym (append-nil written) i) (record aside { output = sym (append-nil aside.output) i }) (record p { derived = d })) { commands = sym (append-nil p.left) i; phase = phase_after (sym (append-nil p.left) i) }))

-- a refusal for the call's own reason
pub refuses : {A : Type 0} (s : Setup) (given : StateMap) (written : List RawMessage) (aside : Aside) (p : Point) (gives : A → Answer) (name : NamedFault) (w : Machine) → w.output ≡ aside.output → w.phase ≡ phase_after p.left → w.version ≡ s.version → w.options ≡ s.options → LeadsOn s given written aside p gives (Refuses name) (refused name w)
refuses s given written aside p gives name w output phase version options = record { why = name; related = None; reason = refl; error = refl; output = output; open_yet = ap is_closed phase ∙ open_after p.left; version = version; options = options }

-- it is refused at once
pub refuses_here : {A : Type 0} (s : Setup) (given : StateMap) (written : List RawMessage) (aside : Aside) (p : Point) (gives : A → Answer) (name : NamedFault) → LeadsOn s given written aside p gives (Refuses name) (refused name (machine_at s given written aside p))
refuses_here s given written aside p gives name = refuses s given written aside p gives name (machine_at s given written aside p) refl refl refl refl

-- ---- calls with a command

-- what holds where an event is done, holds where its call is
pub event_done : {A B : Type 0} (P : Type 0) (f : A → B) (s : Setup) (given : StateMap) (written : List RawMessage) (aside : Aside) (p : Point) (o : Outcome A) → IfDone (mapped f (called o (machine_at s given written aside p))) P → IfDone o P
unfolding called
event_done P f s given written aside p (Done a w) h = h
event_done P f s given written aside p (Failed e w) h = tt

-- a command, where what it writes can be read back
abbrev pub Reads : Setup → StateMap → List RawMessage → Aside → Command → Point → Type 0
Reads s given written aside c p = CanBeRead c.message (machine_at s given written aside p)

-- a call with a command, by why its arguments refuse it
pub commands_follow : (s : Setup) (given : StateMap) (written : List RawMessage) (aside : Aside) (p : Point) (c : Command) → IsCommand c.message → (o : Option NamedFault) → IfDone (commanded_unless o c.message c.unstable (machine_at s given written aside p)) (Reads s given written aside c p)
    → LeadsOn s given written aside p (command_answer c.message) (commanding s c o p.derived) (commanded_unless o c.message c.unstable (machine_at s given written aside p))
commands_follow s given written aside p c command (Some name) own = refuses_here s given written aside p (command_answer c.message) name
commands_follow s given written aside p c command None own =
    issues s given written aside c p (λ h. command_answer c.message h ∷ []) refl (Reads s given written aside c p) (λ (whole : Reads s given written aside c p) spent. stands_for_itself s c p.derived (whole (ap (λ l. is_processing (phase_after l)) spent))) own
