use Rattle.std.proofs.Common.{◌∙◌}
use Rattle.c_calls.proofs.queries.CloseCallVmCall.make.Goals as goal

pub returns : goal.returns
returns c = (
  record { given = c.notify_input_closed.result; leaves = c.notify_input_closed.ensures.does; told = c.keep.ensures.kept ∙ c.fed.ensures },
  c.keep.ensures.told,
)
