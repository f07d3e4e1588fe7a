use Rattle.c_calls.proofs.state.GetCallVmCall.make.Goals as goal

pub returns : goal.returns
returns c = (
  record {
    given = c.sys_state_get.result;
    calls = rw (c.in_ok-key.ensures.first, c.in_ok-key.ensures.second) at c.sys_state_get.ensures;
    told = c.keep_handle.ensures.kept;
  },
  c.keep_handle.ensures.told,
)
