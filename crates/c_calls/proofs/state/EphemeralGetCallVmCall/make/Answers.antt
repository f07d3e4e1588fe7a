use Rattle.std.proofs.Common.{◌∙◌}
use Rattle.c_calls.proofs.state.EphemeralGetCallVmCall.make.Goals as goal

pub returns : goal.returns
returns c = (
  record {
    given = c.ephemeral_state_get.result;
    calls = rw c.in_ok-key.ensures.ok at c.ephemeral_state_get.ensures;
    told = c.keep.ensures.kept ∙ c.ephemeral.ensures;
  },
  c.keep.ensures.told,
)
