use Rattle.c_calls.proofs.awaits.AwaitCallVmCall.make.Goals as goal

pub returns : goal.returns
returns c = (
  record {
    given = c.await_handle.result;
    calls = c.await_handle.ensures;
    told = c.keep_awaited.ensures.kept;
  },
  c.keep_awaited.ensures.told,
)
