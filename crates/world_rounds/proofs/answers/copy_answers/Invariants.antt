use Rattle.std.proofs.Common.{◌≡◌, take}
use Rattle.world_rounds.proofs.answers.copy_answers.Given as goal

abbrev pub invariant-loop-answer : goal.invariant-loop-answer
invariant-loop-answer l = record { copied : l.copies.items ≡ take l.answer-index l.answers }
