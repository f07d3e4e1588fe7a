use Rattle.std.proofs.Common.{◌∙◌, subst}
use Rattle.vm_state.specs.StateKeys.{IsKeyNumber}
use Rattle.vm_state.proofs.state_key.StateKey.new.Goals as goal

pub invariant_of-result : goal.invariant_of-result
invariant_of-result c = subst (IsKeyNumber c.front_of-front.result) (c.as_bytes.ensures.value ∙ c.as_str.ensures) c.front_of-front.ensures
