use Rattle.c_calls.proofs.state.SetCallVmCall.make.Goals as goal

pub returns-in-Ok : goal.returns-in-Ok
returns-in-Ok c = (
  record {
    given = c.sys_state_set.result;
    calls = rw (c.in_ok-key.ensures.first, c.in_ok-key.ensures.second, c.in-Ok.ensures.ok, c.payload-options.ensures) at c.sys_state_set.ensures;
    told = c.keep_ended.ensures.kept;
  },
  c.keep_ended.ensures.told,
)
