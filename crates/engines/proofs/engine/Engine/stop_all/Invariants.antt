use Rattle.std.proofs.Common.{◌≡◌, ◌++◌, drop, map, take}
use Rattle.engines.specs.Engines.{stopped_in}
use Rattle.engines.proofs.engine.Engine.stop_all.Given as goal

abbrev pub invariant-loop-place : goal.invariant-loop-place
invariant-loop-place g l = record {
  engine : l.self ≡ record l.initial.self { invocations = l.self.invocations };
  all : l.self.invocations.items ≡ map stopped_in (take l.place l.initial.self.invocations.items) ++ drop l.place l.initial.self.invocations.items;
}
