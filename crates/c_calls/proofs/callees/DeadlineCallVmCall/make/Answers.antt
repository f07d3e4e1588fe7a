use Rattle.std.proofs.Common.{◌∙◌}
use Rattle.c_calls.proofs.callees.DeadlineCallVmCall.make.Goals as goal

pub returns : goal.returns
returns c = (
  record {
    given = c.sys_call_with_deadline-given.result;
    calls = rw (c.in_ok-target.ensures.target, c.in_ok-target.ensures.input, c.in_ok-target.ensures.name, c.payload-options.ensures, c.time_of-deadline.ensures) at c.sys_call_with_deadline-given.ensures;
    told = c.keep.ensures.kept ∙ c.called_with_deadline.ensures;
  },
  c.keep.ensures.told,
)
