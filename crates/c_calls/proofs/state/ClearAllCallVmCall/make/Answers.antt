use Rattle.c_calls.proofs.state.ClearAllCallVmCall.make.Goals as goal

pub returns : goal.returns
returns c = (
  record {
    given = c.sys_state_clear_all.result;
    calls = rw c.in_ok-name.ensures.ok at c.sys_state_clear_all.ensures;
    told = c.keep_ended.ensures.kept;
  },
  c.keep_ended.ensures.told,
)
