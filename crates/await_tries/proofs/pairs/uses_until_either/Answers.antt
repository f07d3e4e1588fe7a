use Rattle.await_tries.proofs.TwoLeaves.{least_of_either, left_of_both}
use Rattle.await_tries.proofs.pairs.uses_until_either.Goals as goal

pub returns-clause-least : goal.returns-clause-least
returns-clause-least c = least_of_either c.args.results.now c.args.one c.args.other c.uses_until.result c.uses_until-2.result c.uses_until.ensures c.uses_until-2.ensures c.sooner.result c.sooner.ensures

pub returns-clause-left : goal.returns-clause-left
returns-clause-left c = left_of_both c.args.results.now c.args.one c.args.other c.uses_until.result c.uses_until-2.result c.uses_until.ensures c.uses_until-2.ensures c.sooner.result c.sooner.ensures
