use Rattle.c_calls.proofs.journal.SleepCallVmCall.make.Goals as goal

pub returns : goal.returns
returns c = (
  record {
    given = c.sys_sleep.result;
    calls = rw (c.time_of.ensures, c.in_ok-name.ensures.ok) at c.sys_sleep.ensures;
    told = c.keep_handle.ensures.kept;
  },
  c.keep_handle.ensures.told,
)
