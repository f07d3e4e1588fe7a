use Rattle.c_calls.proofs.invocations.AttachCallVmCall.make.Goals as goal

pub returns : goal.returns
returns c = (
  (
    c.in_ok-target.target,
    c.in_ok-target.ensures.ok,
    record {
      given = c.sys_attach_invocation.result;
      calls = c.sys_attach_invocation.ensures;
      told = c.keep_handle.ensures.kept;
    },
  ),
  c.keep_handle.ensures.told,
)
