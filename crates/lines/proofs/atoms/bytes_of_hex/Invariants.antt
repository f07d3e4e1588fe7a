use Rattle.std.proofs.Common.{ℕ, List, ◌++◌, length}
use Rattle.lines.specs.Atoms.{Spells, first_hex}
use Rattle.lines.proofs.Blaming.{GoesOn}
use Rattle.lines.proofs.atoms.bytes_of_hex.Given as goal

abbrev pub decreases-loop-rest : goal.decreases-loop-rest
decreases-loop-rest l = length l.rest

abbrev pub invariant-loop-rest : goal.invariant-loop-rest
invariant-loop-rest l =
    ((tail : List ℕ) → Spells first_hex l.rest tail → Spells first_hex l.digits (l.bytes.items ++ tail)) × GoesOn first_hex l.digits l.rest l.bytes.items
