use Rattle.vm_machine.proofs.Replaying.{replays_misfit}
use Rattle.vm_machine.proofs.machine.Machine.replay.Goals as goal

pub returns : goal.returns
returns c = (
  replays_misfit c.args.message.now c.args.ignore_payloads c.args.self.now c.pop.new.self c.in_ok-raw.raw c.in-Some.fault c.in_ok-about_last-in-Some.field-0 (rw c.ty.ensures at c.in_ok-raw.ensures.step) (rw c.in-Some.is at c.in_ok-misfit.ensures) c.in_ok-about_last-in-Some.ensures,
  c.in_ok-raw.ensures.quiet,
)
