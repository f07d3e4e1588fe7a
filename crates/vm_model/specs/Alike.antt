-- Handlers whose calls replay can't tell apart: they may differ in what it doesn't compare, as in
-- the time at which a sleep wakes, in that of a delayed call, and in payloads where these aren't
-- compared.
use Rattle.std.specs.Prelude.{◌≡◌, ◌⊎◌, ℕ, zero, suc, List, [], ◌∷◌, ◌++◌, Some}
use Rattle.journal_protocol.specs.InputCommand.{InputCommand}
use Rattle.journal_protocol.specs.Message.{Message}
use Rattle.journal_protocol.specs.RawMessage.{RawMessage}
use Rattle.vm_state.specs.declared.state_map.StateMap.{StateMap}
use Rattle.vm_types.specs.declared.steps.Answer.{Answer}
use Rattle.vm_types.specs.declared.steps.Step.{Step}
use Rattle.vm_asks.specs.Requests.{changed}
use Rattle.vm_model.specs.Calls.{Setup, Meaning, Derived, Demand, Move, call_of}
use Rattle.vm_model.specs.Calls.Move.{Answers, Needs, Awaits, Ends, Refuses}
use Rattle.journal_entries.specs.Journal.{Entry, commands_in, input_read_from, notifications_in}
use Rattle.vm_model.specs.Moves.{Point, found, longer, move_at, next, said_of, start, supplied}
use Rattle.vm_model.specs.Histories.{Knowledge, Told}

-- Replay can't tell what two calls need apart: each recorded command does the same for both, or
-- stands for neither, for the same reason.
abbrev pub FoundAlike : Demand → Demand → Type 0
FoundAlike one other = (raw : RawMessage) → found one raw ≡ found other raw

-- two calls need commands that replay can't tell apart, and are the same in all else
abbrev pub NeedAlike : Move → Move → Type 0
NeedAlike a b = (one : Demand) × (other : Demand) × (gives : List Answer) × (behind : Derived)
    × (a ≡ Needs one gives behind) × (b ≡ Needs other gives behind) × FoundAlike one other

-- replay can't tell two calls apart
abbrev pub Alike : Move → Move → Type 0
Alike a b = (a ≡ b) ⊎ NeedAlike a b

-- what a call leaves of a state
abbrev pub leaves_of : Move → StateMap → StateMap
leaves_of (Answers gives d) state = state
leaves_of (Needs demand gives d) state = changed (said_of demand) state
leaves_of Awaits state = state
leaves_of Ends state = state
leaves_of (Refuses name) state = state

-- Two calls leave the same of each state. Two that set a key to different values don't, though
-- replay can't tell them apart if payloads aren't compared.
abbrev pub LeaveAlike : Move → Move → Type 0
LeaveAlike a b = (state : StateMap) → leaves_of a state ≡ leaves_of b state

-- ---- on what a journal tells

-- this holds of the calls after all answers that the journal tells the first handler
abbrev pub CallsOn : (Move → Move → Type 0) → Setup → Meaning → Meaning → List Entry → Type 0
CallsOn Are s m other journal =
    (first : RawMessage) (input : InputCommand) (rest : List RawMessage) (p : Point)
    → commands_in journal ≡ first ∷ rest → input_read_from first ≡ Some input
    → Told s m input (notifications_in journal) rest p → Are (move_at s m p) (move_at s other p)

-- after all answers that the journal tells the one, replay can't tell the other's call apart
abbrev pub AlikeOn : Setup → Meaning → Meaning → List Entry → Type 0
AlikeOn s m other journal = CallsOn Alike s m other journal

-- and these calls leave the same of each state
abbrev pub LeaveAlikeOn : Setup → Meaning → Meaning → List Entry → Type 0
LeaveAlikeOn s m other journal = CallsOn LeaveAlike s m other journal

-- ---- on all answers

-- Two steps are alike: at each point replay can't tell their calls apart, and they leave the same
-- of each state.
abbrev pub AlikeSteps : Setup → Step → Step → Type 0
AlikeSteps s one other = (d : Derived) → Alike (call_of s one d) (call_of s other d)
    × LeaveAlike (call_of s one d) (call_of s other d)

-- two handlers are alike: after all answers their steps are
abbrev pub AlikeHandlers : Setup → Meaning → Meaning → Type 0
AlikeHandlers s m other = (answers : List Answer) → AlikeSteps s (m answers) (other answers)

-- the point, if the calls before it said this
abbrev pub saying : List Message → Point → Point
saying said p = record p { said = said }

-- ---- what several handlers make

-- A run in which each call may be that of another handler, of those that are alike this one: as
-- `Made` is of one handler.
abbrev pub MadeAlike : Setup → Meaning → Knowledge → ℕ → Point → List RawMessage → Point → Type 0
MadeAlike s m Knows zero p made q = (made ≡ []) × (p ≡ q)
MadeAlike s m Knows (suc n) p made q =
    (one : Meaning) × (state : StateMap) × (r : Point) × (rest : List RawMessage)
    × AlikeHandlers s m one × Knows state p.said
    × (made ≡ supplied s one state p ++ rest)
    × (next s one (longer (supplied s one state p) p) ≡ Some r)
    × MadeAlike s m Knows n r rest q

-- One such run made the journal: it begins with an input, and the commands after it are the very
-- ones of its calls, each once and in order, by the journal's notifications and with nothing
-- recorded.
pub record IsOneRunAlike (s : Setup) (m : Meaning) (Knows : Knowledge)
    (journal : List Entry) : Type 0 where
  pub first : RawMessage
  pub input : InputCommand
  pub reads : input_read_from first ≡ Some input
  pub rest : List RawMessage
  pub begins : commands_in journal ≡ first ∷ rest
  pub moves : ℕ
  pub at : Point
  pub made : MadeAlike s m Knows moves (start s input (notifications_in journal) []) rest at
