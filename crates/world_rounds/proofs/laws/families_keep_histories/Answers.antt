use Rattle.world_rounds.proofs.Families.{each_is_own, each_replays, family_agrees, family_completes, family_finished, family_keeps, family_one_run, family_undisturbed, of_one, played_on}
use Rattle.world_rounds.proofs.laws.families_keep_histories.Goals as goal

pub returns-clause-replayable : goal.returns-clause-replayable
returns-clause-replayable c = family_keeps

pub returns-clause-each : goal.returns-clause-each
returns-clause-each c = each_replays

pub returns-clause-agree : goal.returns-clause-agree
returns-clause-agree c = family_agrees

pub returns-clause-once : goal.returns-clause-once
returns-clause-once c = family_completes

pub returns-clause-of_one : goal.returns-clause-of_one
returns-clause-of_one c = of_one

pub returns-clause-joined : goal.returns-clause-joined
returns-clause-joined c = played_on

pub returns-clause-finished : goal.returns-clause-finished
returns-clause-finished c = family_finished

pub returns-clause-one_run : goal.returns-clause-one_run
returns-clause-one_run c = family_one_run

pub returns-clause-undisturbed : goal.returns-clause-undisturbed
returns-clause-undisturbed c = family_undisturbed

pub returns-clause-errors : goal.returns-clause-errors
returns-clause-errors c = each_is_own
