use Rattle.std.proofs.Common.{◌≡◌, ◌++◌}
use Rattle.world_rounds.specs.States.{HaveTextKeys, is_asked, pairs_in}
use Rattle.world_rounds.proofs.values.Values.pairs.Given as goal

abbrev pub invariant-loop-key : goal.invariant-loop-key
invariant-loop-key l = record {
  so_far : l.pairs ++ pairs_in (is_asked l.partial l.keys) l.key-iterator ≡ pairs_in (is_asked l.partial l.keys) l.self.entries;
  texts : HaveTextKeys l.pairs;
}
