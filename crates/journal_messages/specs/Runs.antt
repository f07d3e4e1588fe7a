-- A stream as messages.
use Rattle.std.specs.Prelude.{◌≡◌, ℕ, List, ◌++◌}
use Rattle.std.specs.List.{flat_map, AllByRecursion}
use Rattle.wire.specs.Fault.{Fault}
use Rattle.wire.specs.Fault.TheVariants.{Memory, Malformed}
use Rattle.journal_messages.specs.declared.message.Message.{Message}
use Rattle.journal_messages.specs.Message.{encoding, IsWhole}
use Rattle.journal_messages.specs.Stream.{IsPart}

-- the stream is the frames of these messages, each whole, and after them a rest that is no whole
-- frame
pub record Splits (stream : List ℕ) (messages : List Message) (rest : List ℕ) : Type 0 where
  pub whole : stream ≡ flat_map encoding messages ++ rest
  pub each : AllByRecursion IsWhole messages
  pub partial : IsPart rest

-- Why a stream was not read: it is malformed, so it is no messages up to such a rest. Out of memory
-- says nothing of the stream.
abbrev pub IsRefused : List ℕ → Fault → Type 0
IsRefused stream Memory = Unit {0}
IsRefused stream Malformed =
    (messages : List Message) (rest : List ℕ) → Splits stream messages rest → ⊥
