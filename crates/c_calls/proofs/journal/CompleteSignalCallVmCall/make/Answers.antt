use Rattle.c_calls.proofs.journal.CompleteSignalCallVmCall.make.Goals as goal

pub returns-in-Ok : goal.returns-in-Ok
returns-in-Ok c = (
  record {
    given = c.sys_complete_signal.result;
    calls = rw (c.in_ok-target.ensures.first, c.in_ok-target.ensures.second, c.in-Ok.ensures.ok) at c.sys_complete_signal.ensures;
    told = c.keep_ended.ensures.kept;
  },
  c.keep_ended.ensures.told,
)
