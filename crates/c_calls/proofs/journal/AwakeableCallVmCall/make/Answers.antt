use Rattle.std.proofs.Common.{◌∙◌}
use Rattle.c_calls.proofs.journal.AwakeableCallVmCall.make.Goals as goal

pub returns : goal.returns
returns c = (
  record {
    given = c.sys_awakeable.result;
    calls = c.sys_awakeable.ensures;
    told = c.keep.ensures.kept ∙ c.awakeable.ensures;
  },
  c.keep.ensures.told,
)
