-- What an honest round leaves of a journal, whoever runs its attempt; no program is named here.
use Rattle.std.specs.Prelude.{◌≡◌, ◌⊎◌, ◌<◌, ℕ, zero, suc, List, [], ◌∷◌, ◌++◌, length, take, Some}
use Rattle.journal_protocol.specs.InputCommand.{InputCommand}
use Rattle.journal_protocol.specs.RawMessage.{RawMessage}
use Rattle.journal_protocol.specs.Notification.{Notification}
use Rattle.vm_state.specs.declared.state_map.StateMap.{StateMap}
use Rattle.vm_types.specs.declared.steps.Answer.{Answer}
use Rattle.vm_model.specs.Calls.{Setup, Meaning}
use Rattle.journal_entries.specs.Journal.{Entry, Recorded, Notified, commands_in, notifications_in, input_read_from, messages_in}
use Rattle.vm_model.specs.Moves.{Point, start}
use Rattle.vm_model.specs.Histories.{Handed, IsPrefix, Knowledge, Made, after_head}

-- One run made the journal, and its calls went by states that `Knows` allows: it begins with an
-- input, and the commands after it are the very ones that the handler's calls define, by the
-- journal's notifications and with nothing recorded.
pub record IsOneRun (s : Setup) (m : Meaning) (Knows : Knowledge)
    (journal : List Entry) : Type 0 where
  pub first : RawMessage
  pub input : InputCommand
  pub reads : input_read_from first ≡ Some input
  pub rest : List RawMessage
  pub begins : commands_in journal ≡ first ∷ rest
  pub moves : ℕ
  pub at : Point
  pub made : Made s m Knows moves (start s input (notifications_in journal) []) rest at

-- An attempt on a journal: the state that it was handed; its course, which is the notifications
-- that were delivered to it after the journal's and the commands that it wrote, in the order in
-- which this happened; and its answers.
pub record Attempted : Type 0 where
  pub given : StateMap
  pub course : List Entry
  pub answers : List Answer

-- The attempt is the handler's run over the journal and what it was handed. With the journal's
-- notifications and the delivered ones, some number of moves made what it wrote; and its answers
-- are those of the point that they lead to, or it hasn't read its input.
pub record IsToldOn (s : Setup) (m : Meaning) (journal : List Entry) (a : Attempted) : Type 0 where
  pub first : RawMessage
  pub input : InputCommand
  pub reads : input_read_from first ≡ Some input
  pub rest : List RawMessage
  pub begins : commands_in journal ≡ first ∷ rest
  pub moves : ℕ
  pub at : Point
  pub made : Made s m (Handed a.given) moves
      (start s input (notifications_in journal ++ notifications_in a.course) rest)
      (commands_in a.course) at
  pub answered : (a.answers ≡ []) ⊎ (a.answers ≡ at.answers)

-- the notifications in front of the command with this index, from 0
abbrev pub ahead_of : ℕ → List Entry → List Notification
ahead_of n [] = []
ahead_of n (Notified x ∷ es) = x ∷ ahead_of n es
ahead_of zero (Recorded c ∷ es) = []
ahead_of (suc n) (Recorded c ∷ es) = ahead_of n es

-- An honest round, by what was delivered and written: the new journal begins with the old one; its
-- new notifications are the delivered ones, and after them some that weren't delivered; its new
-- commands are a beginning of the written ones; and each of them stands after all notifications
-- that were delivered before it was written.
pub record HonestRound (before : List Entry) (course : List Entry)
    (after : List Entry) : Type 0 where
  pub added : List Entry
  pub extends : after ≡ before ++ added
  pub undelivered : List Notification
  pub notifications : notifications_in added ≡ notifications_in course ++ undelivered
  pub stored : ℕ
  pub commands : commands_in added ≡ take stored (commands_in course)
  pub order : (n : ℕ) → n < length (commands_in added)
      → IsPrefix (ahead_of n course) (ahead_of n added)

-- the state that the attempt was handed is one that `Knows` allows after the journal's commands
abbrev pub IsHanded : Knowledge → List Entry → Attempted → Type 0
IsHanded Knows journal a = Knows a.given (messages_in (after_head (commands_in journal)))

-- Honest rounds, one after another, each of an attempt that is the handler's run over the journal
-- and was handed a state that `Knows` allows.
abbrev pub HonestRounds : Setup → Meaning → Knowledge → List Entry → List Attempted → List Entry
    → Type 0
HonestRounds s m Knows before [] after = after ≡ before
HonestRounds s m Knows before (a ∷ more) after =
    (mid : List Entry) × IsHanded Knows before a × IsToldOn s m before a
    × HonestRound before a.course mid × HonestRounds s m Knows mid more after
