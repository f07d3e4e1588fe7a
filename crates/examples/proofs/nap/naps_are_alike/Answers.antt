use Rattle.vm_model.proofs.Erasing.{first_sleeps}
use Rattle.std.proofs.Common.{[]}
use Rattle.handlers.specs.Sleeper.{sleeper_step}
use Rattle.examples.proofs.nap.naps_are_alike.Goals as goal

pub returns : goal.returns
returns c = λ s t u fit. first_sleeps s sleeper_step [] t u fit
