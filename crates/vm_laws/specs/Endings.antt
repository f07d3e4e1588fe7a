-- What is written has at most one terminal message, and nothing after it.
use Rattle.std.specs.Prelude.{◌≡◌, Bool, true, false, ◌||◌, ◌&&◌, nat_le, List, [], ◌∷◌, ◌++◌, map, is_some}
use Rattle.journal_protocol.specs.Message.{Message}
use Rattle.journal_protocol.specs.Frames.{encoding, type_of}
use Rattle.journal_protocol.specs.Types.{type_number}
use Rattle.vm_machine.specs.declared.machine.Machine.{Machine}
use Rattle.vm_machine.specs.Outcomes.{Outcome, Done, Failed}
use Rattle.vm_machine.specs.Phases.{is_closed}

-- Suspension, Error and End are terminal.
abbrev pub is_terminal : Message → Bool
is_terminal m = nat_le 2 (type_number (type_of m)) && nat_le (type_number (type_of m)) 4

-- a machine that has failed, has ended or is suspended
abbrev pub is_over : Machine → Bool
is_over v = is_some v.failure || is_closed v.phase

-- after a terminal message nothing comes, and it is over; after another one, what the others may do
abbrev pub EndsIf : Bool → List Message → Bool → Type 0 → Type 0
EndsIf true messages after others = (messages ≡ []) × (after ≡ true)
EndsIf false messages after others = others

-- Nothing is written once it is over, and it is over once a terminal message is written.
abbrev pub EndsOnce : Bool → List Message → Bool → Type 0
EndsOnce true messages after = (messages ≡ []) × (after ≡ true)
EndsOnce false [] after = Unit {0}
EndsOnce false (m ∷ messages) after = EndsIf (is_terminal m) messages after
    (EndsOnce false messages after)

-- messages are written after the output, at most the last of them terminal
pub record Writes (old new : Machine) : Type 0 where
  pub messages : List Message
  pub output : new.output ≡ old.output ++ map encoding messages
  pub ends_once : EndsOnce (is_over old) messages (is_over new)

-- an event writes so, whether it is done or fails
abbrev pub EventWrites : {A : Type 0} → Machine → Outcome A → Type 0
EventWrites v (Done a w) = Writes v w
EventWrites v (Failed e w) = Writes v w
