use Rattle.c_calls.proofs.journal.GetPromiseCallVmCall.make.Goals as goal

pub returns : goal.returns
returns c = (
  record {
    given = c.sys_get_promise.result;
    calls = rw c.in_ok-key.ensures.ok at c.sys_get_promise.ensures;
    told = c.keep_handle.ensures.kept;
  },
  c.keep_handle.ensures.told,
)
