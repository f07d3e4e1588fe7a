use Rattle.c_calls.proofs.invocations.GetOutputCallVmCall.make.Goals as goal

pub returns : goal.returns
returns c = (
  (
    c.in_ok-target.target,
    c.in_ok-target.ensures.ok,
    record {
      given = c.sys_get_invocation_output.result;
      calls = c.sys_get_invocation_output.ensures;
      told = c.keep_handle.ensures.kept;
    },
  ),
  c.keep_handle.ensures.told,
)
