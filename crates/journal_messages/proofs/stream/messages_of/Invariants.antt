use Rattle.std.proofs.Common.{◌+◌, length, take}
use Rattle.std.specs.List.{flat_map}
use Rattle.journal_messages.specs.Stream.{IsPart}
use Rattle.journal_messages.proofs.Streams.{Read}
use Rattle.journal_messages.proofs.stream.messages_of.Given as goal

abbrev pub invariant-loop-piece : goal.invariant-loop-piece
invariant-loop-piece l = record {
  read : Read (flat_map (λ piece. piece) (take l.piece-index l.pieces)) l.out.items l.decoder;
  part : IsPart l.decoder;
}

abbrev pub invariant-loop-out : goal.invariant-loop-out
invariant-loop-out l = Read (flat_map (λ piece. piece) (take (l.piece-index + 1) l.pieces)) l.out.items l.decoder

abbrev pub decreases-loop-out : goal.decreases-loop-out
decreases-loop-out l = length l.decoder
