use Rattle.std.proofs.Common.{◌≡◌, ◌≢◌, ◌<◌, ℕ, Some}
use Rattle.journal_protocol.specs.MessageType.{MessageType}
use Rattle.journal_protocol.specs.Types.{type_at}
use Rattle.frame_lines.specs.Names.{type_word}
use Rattle.frame_lines.proofs.type_names.type_named.Given as goal

-- no type of a lower number has the name
abbrev pub invariant-loop-number : goal.invariant-loop-number
invariant-loop-number l = (n : ℕ) (ty : MessageType) → n < l.number → type_at n ≡ Some ty → l.name ≢ type_word ty
