-- What the events of a script do: those of an engine, one after another.
use Rattle.std.specs.Prelude.{◌≡◌, ◌≤◌, ◌-◌, ◌^◌, ℕ, zero, suc, List, length}
use Rattle.std.specs.List.{AllByRecursion}
use Rattle.vm_model.specs.Calls.{Meaning}
use Rattle.call_lines.specs.Plans.{plan_step}
use Rattle.call_lines.specs.declared.plan.Plan.{Plan}
use Rattle.world_rounds.specs.declared.types.Event.TheVariants as attempt
use Rattle.engines.specs.Deliveries.{AllDelivered}
use Rattle.engines.specs.Engines.{AllHappen, HappeningDoes}
use Rattle.engines.specs.declared.engine.Engine.{Engine}
use Rattle.engines.specs.declared.types.Happening.{Happening}
use Rattle.engines.specs.declared.types.Happening.TheVariants as happening
use Rattle.engine_lines.specs.Orders.{submitted_order}
use Rattle.engine_lines.specs.declared.said.Deed.{Deed}
use Rattle.engine_lines.specs.declared.said.Deed.TheVariants as deed
use Rattle.engine_lines.specs.declared.said.Event.{Event}
use Rattle.engine_lines.specs.declared.said.Event.TheVariants as event

-- what a plan means
abbrev pub plan_meaning : Plan → Meaning
plan_meaning plan = plan_step plan.steps.items

-- Such events of an engine happen, one after another.
pub record HappenOf (Such : Happening → Type 0) (old new : Engine Plan) : Type 0 where
  pub events : List Happening
  pub happen : AllHappen plan_meaning events old new
  pub such : AllByRecursion Such events

-- this one event happens
pub record HappensOnce (it : Happening) (old new : Engine Plan) : Type 0 where
  pub does : HappeningDoes plan_meaning it old new

-- ---- invocations settle

-- An attempt begins, is fed all that waits for it, and makes steps; what it wrote is stored, and
-- then all that waits in the inbox is delivered.
pub record SettlesOne (place : ℕ) (old new : Engine Plan) : Type 0 where
  pub begun : Engine Plan
  pub begins : HappensOnce (happening.Begin place) old begun
  pub fed : Engine Plan
  pub feeds : HappensOnce (happening.Act place (attempt.Piece (2 ^ 64 - 1))) begun fed
  pub stepped : Engine Plan
  pub count : ℕ
  pub steps : HappensOnce (happening.Act place (attempt.Steps count)) fed stepped
  pub stored : Engine Plan
  pub stores : HappenOf (λ it. it ≡ happening.Store place) stepped stored
  pub delivers : AllDelivered plan_meaning place stored new

-- this number of invocations do, one after another, from a place on
abbrev pub SettlesFrom : ℕ → ℕ → Engine Plan → Engine Plan → Type 0
SettlesFrom place zero old new = new ≡ old
SettlesFrom place (suc count) old new =
    (mid : Engine Plan) × SettlesOne place old mid × SettlesFrom (suc place) count mid new

-- all invocations that were there do
abbrev pub SettlesOnce : Engine Plan → Engine Plan → Type 0
SettlesOnce old new = SettlesFrom 0 (length old.invocations.items) old new

-- this number of times, one after another
abbrev pub SettlesTimes : ℕ → Engine Plan → Engine Plan → Type 0
SettlesTimes zero old new = new ≡ old
SettlesTimes (suc count) old new = (mid : Engine Plan) × SettlesTimes count old mid
    × SettlesOnce mid new

-- This number of times at most.
pub record SettlesAtMost (most : ℕ) (old new : Engine Plan) : Type 0 where
  pub count : ℕ
  pub few : count ≤ most
  pub settles : SettlesTimes count old new

-- ---- lines

-- what a line does to the invocation at a place
abbrev pub DeedDoes : ℕ → Deed → Engine Plan → Engine Plan → Type 0
DeedDoes place deed.Begin old new = HappensOnce (happening.Begin place) old new
DeedDoes place (deed.Piece n) old new =
    HappensOnce (happening.Act place (attempt.Piece n)) old new
DeedDoes place deed.Close old new = HappensOnce (happening.Act place attempt.Close) old new
DeedDoes place (deed.Steps n) old new =
    HappensOnce (happening.Act place (attempt.Steps n)) old new
DeedDoes place (deed.RunResult p) old new =
    HappensOnce (happening.Act place (attempt.RunResult p.handle p.result p.policy)) old new
DeedDoes place (deed.Deliver at) old new = HappensOnce (happening.Deliver place at) old new
DeedDoes place deed.DeliverAll old new = AllDelivered plan_meaning place old new
DeedDoes place (deed.Store n) old new = HappenOf (λ it. it ≡ happening.Store place) old new
DeedDoes place deed.Stop old new = HappensOnce (happening.Stop place) old new

-- What a line does.
abbrev pub EventDoes : Event → Engine Plan → Engine Plan → Type 0
EventDoes (event.Submit asked) old new = HappensOnce (happening.Submit (submitted_order asked)) old
    new
EventDoes (event.To number does) old new = DeedDoes number does old new
EventDoes event.Crash old new = HappensOnce happening.StopAll old new
EventDoes (event.Clock time) old new = HappensOnce (happening.Clock time) old new
EventDoes (event.Settle times) old new = SettlesAtMost times old new
