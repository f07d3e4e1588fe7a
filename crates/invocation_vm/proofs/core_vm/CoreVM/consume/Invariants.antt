use Rattle.std.proofs.Common.{◌≡◌, None, length}
use Rattle.journal_entries.specs.Frames.{frames_of}
use Rattle.invocation_vm.specs.Views.{HaveCome, consumed}
use Rattle.invocation_vm.proofs.core_vm.CoreVM.consume.Given as goal

abbrev pub invariant-frames : goal.invariant-frames
invariant-frames l =
    record {
      live : l.self.machine.failure ≡ None;
      quiet : l.self.machine.output ≡ l.initial.self.machine.output;
      came : HaveCome (frames_of l.initial.self.decoder).0 (frames_of l.self.decoder).0 l.initial.self.machine l.self.machine;
      same : consumed (frames_of l.self.decoder) l.self.machine ≡ consumed (frames_of l.initial.self.decoder) l.initial.self.machine;
    }

abbrev pub decreases-frames : goal.decreases-frames
decreases-frames l = length l.self.decoder
