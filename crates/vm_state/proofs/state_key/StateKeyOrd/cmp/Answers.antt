use Rattle.vm_state.proofs.StateKeys.{front_above, front_below}
use Rattle.vm_state.proofs.state_key.StateKeyOrd.cmp.Goals as goal

pub returns-then-self-other : goal.returns-then-self-other
returns-then-self-other c = rw (← c.self.view_is, ← c.other.view_is) (front_below _ _ _ _ c.self.invariant c.other.invariant c.if-self-other.true)

pub returns-then-self-other-2 : goal.returns-then-self-other-2
returns-then-self-other-2 c = rw (← c.self.view_is, ← c.other.view_is) (front_above _ _ _ _ c.self.invariant c.other.invariant c.if-self-other-2.true)
