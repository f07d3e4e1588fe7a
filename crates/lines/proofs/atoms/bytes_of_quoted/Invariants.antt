use Rattle.std.proofs.Common.{ℕ, List, ◌++◌, length}
use Rattle.lines.specs.Atoms.{Spells, first_char}
use Rattle.lines.proofs.Blaming.{GoesOn}
use Rattle.lines.proofs.atoms.bytes_of_quoted.Given as goal

abbrev pub decreases-loop-rest : goal.decreases-loop-rest
decreases-loop-rest l = length l.rest

abbrev pub invariant-loop-rest : goal.invariant-loop-rest
invariant-loop-rest l =
    ((tail : List ℕ) → Spells first_char l.rest tail → Spells first_char l.text (l.bytes.items ++ tail)) × GoesOn first_char l.text l.rest l.bytes.items
