use Rattle.std.proofs.Common.{◌∙◌}
use Rattle.c_calls.proofs.callees.SendCallVmCall.make.Goals as goal

pub returns : goal.returns
returns c = (
  record {
    given = c.sys_send.result;
    calls = rw (c.in_ok-target.ensures.target, c.in_ok-target.ensures.input, c.in_ok-target.ensures.name, c.payload-options.ensures, c.time_of.ensures) at c.sys_send.ensures;
    told = c.keep.ensures.kept ∙ c.sent.ensures;
  },
  c.keep.ensures.told,
)
