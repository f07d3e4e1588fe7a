use Rattle.c_calls.proofs.state.GetKeysCallVmCall.make.Goals as goal

pub returns : goal.returns
returns c = (
  record {
    given = c.sys_state_get_keys.result;
    calls = rw c.in_ok-name.ensures.ok at c.sys_state_get_keys.ensures;
    told = c.keep_handle.ensures.kept;
  },
  c.keep_handle.ensures.told,
)
