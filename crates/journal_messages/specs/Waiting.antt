-- The bytes that wait in a decoder.
use Rattle.std.specs.Prelude.{ℕ, List}
use Rattle.journal_messages.specs.declared.waiting.Waiting.{Waiting}
use Rattle.journal_messages.specs.declared.waiting.Waiting.TheVariants.{Piece, Joined}

-- those of the rest of a piece, or of pieces that were put together
abbrev pub waiting_bytes : Waiting → List ℕ
waiting_bytes (Piece rest) = rest
waiting_bytes (Joined joined) = joined.items
