use Rattle.world_laws.proofs.Checking.{calls_history, calls_take_over}
use Rattle.world_laws.proofs.Parting.{calls_part}
use Rattle.world_laws.proofs.Replaying.{calls_prove}
use Rattle.world_laws.proofs.replays.calls_prove_histories.Goals as goal

pub returns-clause-proves : goal.returns-clause-proves
returns-clause-proves c = calls_prove

pub returns-clause-history : goal.returns-clause-history
returns-clause-history c = calls_history

pub returns-clause-takes_over : goal.returns-clause-takes_over
returns-clause-takes_over c = calls_take_over

pub returns-clause-parts : goal.returns-clause-parts
returns-clause-parts c = calls_part
