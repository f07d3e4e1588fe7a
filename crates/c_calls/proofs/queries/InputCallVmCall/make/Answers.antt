use Rattle.std.proofs.Common.{◌∙◌}
use Rattle.c_calls.proofs.queries.InputCallVmCall.make.Goals as goal

pub returns : goal.returns
returns c = (
  record {
    given = c.sys_input.result;
    calls = c.sys_input.ensures.does;
    told = c.keep.ensures.kept ∙ c.input.ensures;
  },
  c.keep.ensures.told,
)
