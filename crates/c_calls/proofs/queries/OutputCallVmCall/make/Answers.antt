use Rattle.std.proofs.Common.{◌∙◌}
use Rattle.c_calls.proofs.queries.OutputCallVmCall.make.Goals as goal

pub returns : goal.returns
returns c = (
  record { given = c.take_output.result; takes = c.take_output.ensures; told = c.keep.ensures.kept ∙ c.output.ensures },
  c.keep.ensures.told,
)
