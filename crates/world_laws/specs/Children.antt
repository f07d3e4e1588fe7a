-- The children of a handler, which are the calls that are cancelled with it; and to which of them a
-- run sends the cancel signal.
use Rattle.std.specs.Prelude.{◌≡◌, ℕ, zero, suc, ◌≤◌, Bool, true, false, List, [], ◌∷◌, ◌++◌, drop, length, Option, Some, None, Ok}
use Rattle.journal_protocol.specs.RawMessage.{RawMessage}
use Rattle.vm_state.specs.declared.tracked_call.TrackedCall.{TrackedCall}
use Rattle.vm_parts.specs.Tracked.{unresolved_handles}
use Rattle.vm_types.specs.Options.{ignores_payloads}
use Rattle.vm_asks.specs.declared.asks.Ask.{Ask}
use Rattle.vm_asks.specs.declared.asks.Ask.TheVariants as ask
use Rattle.vm_asks.specs.Asks.{ask_of, cancel_invocation_command}
use Rattle.vm_model.specs.Calls.{Demand, Derived, Meaning, Move, Setup, asked, is_cancelled_in}
use Rattle.vm_model.specs.Calls.Demand.{Exactly}
use Rattle.vm_model.specs.Calls.Move.{Answers, Needs, Awaits, Ends, Refuses}
use Rattle.vm_model.specs.Moves.{Point, found, next}

-- ---- one move

-- the first child, once all ids are known
abbrev pub first_known : List ℕ → List TrackedCall → List TrackedCall
first_known [] [] = []
first_known [] (t ∷ ts) = t ∷ []
first_known (handle ∷ handles) ts = []

-- the child to which an await sends the cancel signal next, if the handler is cancelled
abbrev pub child_next : Bool → Derived → List TrackedCall
child_next true d = first_known (unresolved_handles d.tracked) d.tracked
child_next false d = []

-- the first of an await, and the second of all else that a step asks for
abbrev pub of_await : {A : Type 0} → Ask → A → A → A
of_await (ask.Await future) awaits other = awaits
of_await (ask.Command c) awaits other = other
of_await (ask.Commands kind first second) awaits other = other
of_await (ask.Read r) awaits other = other
of_await ask.Awakeable awaits other = other
of_await (ask.Signal name) awaits other = other
of_await (ask.Take handle) awaits other = other
of_await (ask.Completed handle) awaits other = other
of_await ask.End awaits other = other

-- the child to which the cancel signal is sent by a move of what a step asks for, if it is one
abbrev pub child_of : Setup → Ask → Derived → List TrackedCall
child_of s a d = of_await a (child_next (is_cancelled_in s d) d) []

-- the recorded command that a move uses, if it is one
abbrev pub command_of : Move → List RawMessage → List RawMessage
command_of (Needs demand gives d) (c ∷ left) = c ∷ []
command_of (Needs demand gives d) [] = []
command_of (Answers gives d) left = []
command_of Awaits left = []
command_of Ends left = []
command_of (Refuses name) left = []

-- the recorded command that a move of an await uses, if it is one
abbrev pub await_command : Setup → Ask → Point → List RawMessage
await_command s a p = of_await a (command_of (asked s a p.derived) p.left) []

-- the children that there are after a move and weren't before it; an await makes none
abbrev pub children_new : Ask → List TrackedCall → List TrackedCall → List TrackedCall
children_new a old new = of_await a [] (drop (length old) new)

-- ---- a run

-- the items of a run from this point on, if there is one
abbrev pub from_there : {A : Type 0} → Option Point → (Point → List A) → List A
from_there None f = []
from_there (Some p) f = f p

-- the children that this number of moves from a point sends the cancel signal to, in order
abbrev pub children_cancelled : Setup → Meaning → ℕ → Point → List TrackedCall
children_cancelled s m zero p = []
children_cancelled s m (suc n) p = child_of s (ask_of s.version (m p.answers)) p.derived
    ++ from_there (next s m p) (children_cancelled s m n)

-- the recorded commands that awaits use in this number of moves, in order
abbrev pub await_commands : Setup → Meaning → ℕ → Point → List RawMessage
await_commands s m zero p = []
await_commands s m (suc n) p = await_command s (ask_of s.version (m p.answers)) p
    ++ from_there (next s m p) (await_commands s m n)

-- the children that this number of moves makes, in order
abbrev pub children_made : Setup → Meaning → ℕ → Point → List TrackedCall
children_made s m zero p = []
children_made s m (suc n) p = from_there (next s m p)
    (λ q. children_new (ask_of s.version (m p.answers)) p.derived.tracked q.derived.tracked)
    ++ from_there (next s m p) (children_made s m n)

-- ---- what is so of them

-- the handles of some children
abbrev pub child_handles : List TrackedCall → List ℕ
child_handles [] = []
child_handles (t ∷ ts) = t.handle ∷ child_handles ts

-- what is needed where the cancel signal is sent to an invocation
abbrev pub cancel_demand : Setup → List ℕ → Demand
cancel_demand s id = Exactly (cancel_invocation_command id).message
    (ignores_payloads s.options.non_determinism_checks (cancel_invocation_command id).unstable)

-- the command stands for the cancel signal to this invocation
abbrev pub IsCancelOf : Setup → Option (List ℕ) → RawMessage → Type 0
IsCancelOf s None command = ⊥
IsCancelOf s (Some id) command = found (cancel_demand s id) command ≡ Ok None

-- these commands are the cancel signals to these children's invocations, one for one
abbrev pub AreCancelsOf : Setup → List TrackedCall → List RawMessage → Type 0
AreCancelsOf s [] commands = commands ≡ []
AreCancelsOf s (t ∷ ts) [] = ⊥
AreCancelsOf s (t ∷ ts) (c ∷ cs) = IsCancelOf s t.invocation_id c × AreCancelsOf s ts cs

-- each of these numbers is greater than those before it, and than what comes first
abbrev pub Ascend : ℕ → List ℕ → Type 0
Ascend least [] = Unit {0}
Ascend least (n ∷ ns) = (least ≤ n) × Ascend (suc n) ns

-- Each child that this number of moves to a point made is sent the cancel signal once, or is one
-- still: these are all that were made, in order, and none twice. The commands that awaits use are
-- these signals, in order.
pub record EachChildOnce (s : Setup) (m : Meaning) (n : ℕ) (p q : Point) : Type 0 where
  pub all : child_handles (children_made s m n p)
      ≡ child_handles (children_cancelled s m n p) ++ child_handles q.derived.tracked
  pub once : Ascend 0 (child_handles (children_cancelled s m n p)
      ++ child_handles q.derived.tracked)
  pub commands : AreCancelsOf s (children_cancelled s m n p) (await_commands s m n p)
