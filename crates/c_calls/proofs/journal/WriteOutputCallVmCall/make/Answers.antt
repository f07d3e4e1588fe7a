use Rattle.c_calls.proofs.journal.WriteOutputCallVmCall.make.Goals as goal

pub returns : goal.returns
returns c = (
  record {
    given = c.sys_write_output.result;
    calls = rw (c.in_ok-value.ensures.ok, c.payload.ensures) at c.sys_write_output.ensures;
    told = c.keep_ended.ensures.kept;
  },
  c.keep_ended.ensures.told,
)
