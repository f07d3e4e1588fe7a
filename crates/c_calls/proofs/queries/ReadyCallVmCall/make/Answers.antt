use Rattle.std.proofs.Common.{◌∙◌, refl}
use Rattle.c_calls.proofs.queries.ReadyCallVmCall.make.Goals as goal

pub returns : goal.returns
returns c = (
  (record { given = c.is_ready_to_execute.result; ready = c.is_ready_to_execute.ensures; told = c.keep.ensures.kept ∙ c.ready.ensures }, refl),
  c.keep.ensures.told,
)
