use Rattle.engine_fences.proofs.Turning.{turns_go_on}
use Rattle.engine_fences.proofs.states.key_turns_go_on.Goals as goal

pub returns : goal.returns
returns g c = record { turns = turns_go_on c.args.engine.now }
