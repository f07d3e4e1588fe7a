use Rattle.c_calls.proofs.journal.CompletePromiseCallVmCall.make.Goals as goal

pub returns-in-Ok : goal.returns-in-Ok
returns-in-Ok c = (
  record {
    given = c.sys_complete_promise.result;
    calls = rw (c.in_ok-key.ensures.ok, c.in-Ok.ensures.ok, c.payload.ensures) at c.sys_complete_promise.ensures;
    told = c.keep_handle.ensures.kept;
  },
  c.keep_handle.ensures.told,
)
