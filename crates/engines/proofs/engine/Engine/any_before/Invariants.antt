use Rattle.std.proofs.Common.{◌≡◌, take, false}
use Rattle.std.specs.List.{list_any}
use Rattle.engines.specs.Lookups.{is_before}
use Rattle.engines.proofs.engine.Engine.any_before.Given as goal

abbrev pub invariant-loop-it : goal.invariant-loop-it
invariant-loop-it g l = list_any (is_before l.self.targets.now l.own) (take l.it-index l.its) ≡ false
