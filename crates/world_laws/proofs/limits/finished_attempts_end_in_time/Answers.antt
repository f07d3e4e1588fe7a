use Rattle.world_laws.proofs.Stepping.{last_step, most_steps}
use Rattle.world_laws.proofs.limits.finished_attempts_end_in_time.Goals as goal

pub returns-clause-most : goal.returns-clause-most
returns-clause-most c = λ fixed old mid n limit. most_steps fixed limit old mid n

pub returns-clause-last : goal.returns-clause-last
returns-clause-last c = λ fixed old mid n limit result new. last_step fixed limit old mid new n result
