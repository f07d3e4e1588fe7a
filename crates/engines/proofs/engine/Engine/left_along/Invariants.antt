use Rattle.std.proofs.Common.{◌≡◌, drop}
use Rattle.engines.specs.HandedOn.{left_along, no_values}
use Rattle.engines.proofs.engine.Engine.left_along.Given as goal

abbrev pub invariant-loop-it : goal.invariant-loop-it
invariant-loop-it g l = record { left : left_along l.self.targets.now l.own (drop l.it-index l.its) l.values ≡ left_along l.self.targets.now l.own l.its no_values }
