use Rattle.vm_attempt.proofs.Lengths.{piece_counted}
use Rattle.vm_attempt.proofs.taken.Taken.push.Goals as goal

pub invariant_of-self-2 : goal.invariant_of-self-2
invariant_of-self-2 c =
    rw (c.in_ok-push.ensures.items, c.saturating_add-len.ensures, c.len.ensures.value) (piece_counted c.self.inside.pieces.items c.args.piece c.self.inside.len c.self.invariant)
