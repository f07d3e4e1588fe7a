use Rattle.std.proofs.Common.{◌∙◌}
use Rattle.c_calls.proofs.callees.CallCallVmCall.make.Goals as goal

pub returns : goal.returns
returns c = (
  record {
    given = c.sys_call.result;
    calls = rw (c.in_ok-target.ensures.target, c.in_ok-target.ensures.input, c.in_ok-target.ensures.name, c.payload-options.ensures) at c.sys_call.ensures;
    told = c.keep.ensures.kept ∙ c.called.ensures;
  },
  c.keep.ensures.told,
)
