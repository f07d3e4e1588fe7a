use Rattle.world_laws.proofs.Bounded.{handler_bounds}
use Rattle.world_laws.proofs.Rested.{most_answers, next_rests}
use Rattle.world_laws.proofs.limits.running_attempts_come_to_rest.Goals as goal

pub returns-clause-most : goal.returns-clause-most
returns-clause-most c = λ fixed old mid n limit holds honest is most steps. most_answers fixed limit old mid n holds.2 honest is most steps

pub returns-clause-rests : goal.returns-clause-rests
returns-clause-rests c = λ fixed old mid n limit result new holds honest is most enough steps does.
    next_rests fixed limit old mid new n result holds.0 holds.1 holds.2 honest is most enough steps does

pub returns-clause-ends : goal.returns-clause-ends
returns-clause-ends c = handler_bounds
