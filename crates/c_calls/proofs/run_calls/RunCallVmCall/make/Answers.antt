use Rattle.std.proofs.Common.{◌∙◌}
use Rattle.c_calls.proofs.run_calls.RunCallVmCall.make.Goals as goal

pub returns : goal.returns
returns c = (
  record {
    given = c.sys_run.result;
    calls = rw c.in_ok-name.ensures.ok at c.sys_run.ensures;
    told = c.keep.ensures.kept ∙ c.ran.ensures;
  },
  c.keep.ensures.told,
)
