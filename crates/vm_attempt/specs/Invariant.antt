-- What holds of an attempt at all times.
use Rattle.vm_parts.specs.Outboxes.{WholeFrames}
use Rattle.vm_attempt.specs.Record.{Record}
use Rattle.vm_model.specs.Fixed.{Fixed}
use Rattle.vm_attempt.specs.Blames.{IsBlamed, IsLate}
use Rattle.vm_attempt.specs.Courses.{IsLed}
use Rattle.vm_attempt.specs.Told.{HasCome, IsKeptInReplay, IsKeptUnder, StillSleeps}

-- What came and what was written, why its VM failed, the handler's run under the premises and in
-- replay, its await once it was suspended; what waits are whole frames; and its calls lead to it.
abbrev pub AlwaysHolds : Fixed → Record → Type 0
AlwaysHolds fixed r =
    HasCome fixed r
    × IsBlamed fixed r
    × IsKeptUnder fixed r
    × IsLate fixed r
    × StillSleeps fixed r
    × WholeFrames r.vm.machine.output
    × IsKeptInReplay fixed r
    × IsLed fixed r
