use Rattle.engine_lines.proofs.script.is_there.Given as goal

abbrev pub invariant-loop-planned : goal.invariant-loop-planned
invariant-loop-planned l = Unit {0}
