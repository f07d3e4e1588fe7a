use Rattle.c_calls.proofs.state.ClearCallVmCall.make.Goals as goal

pub returns : goal.returns
returns c = (
  record {
    given = c.sys_state_clear.result;
    calls = rw (c.in_ok-key.ensures.first, c.in_ok-key.ensures.second) at c.sys_state_clear.ensures;
    told = c.keep_ended.ensures.kept;
  },
  c.keep_ended.ensures.told,
)
