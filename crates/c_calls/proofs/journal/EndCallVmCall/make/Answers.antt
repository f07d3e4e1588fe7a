use Rattle.c_calls.proofs.journal.EndCallVmCall.make.Goals as goal

pub returns : goal.returns
returns c = (
  record {
    given = c.sys_end.result;
    calls = c.sys_end.ensures.does;
    told = c.keep_ended.ensures.kept;
  },
  c.keep_ended.ensures.told,
)
