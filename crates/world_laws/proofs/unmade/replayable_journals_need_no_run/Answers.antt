use Rattle.world_laws.proofs.OtherTimes.{replayed_unmade}
use Rattle.world_laws.proofs.unmade.replayable_journals_need_no_run.Goals as goal

pub returns : goal.returns
returns c = replayed_unmade
