-- An engine whose attempts replay recorded commands and queue signals.
use Rattle.std.specs.Prelude.{Option, Some, None}
use Rattle.std.specs.List.{AllByRecursion}
use Rattle.world_rounds.specs.Rounds.{ReplaysAndQueues}
use Rattle.engines.specs.declared.engine.Engine.{Engine}
use Rattle.engines.specs.declared.engine.Invocation.{Invocation}
use Rattle.engines.specs.Members.{MemberView}

-- the attempts of these rounds do, if they are there
abbrev pub ReplaysIn : {H : Type 0} → Option (MemberView H) → Type 0
ReplaysIn None = Unit {0}
ReplaysIn (Some m) = ReplaysAndQueues m.course.setting.options

-- the attempts of this invocation do
abbrev pub Replays : {H : Type 0} → Invocation H → Type 0
Replays it = ReplaysIn it.member

-- Those of each invocation do, and of each that is made later.
pub record AllReplay {H : Type 0} (e : Engine H) : Type 0 where
  pub later : ReplaysAndQueues e.options
  pub each : AllByRecursion Replays e.invocations.items
