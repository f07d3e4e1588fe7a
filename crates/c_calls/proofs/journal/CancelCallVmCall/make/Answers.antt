use Rattle.c_calls.proofs.journal.CancelCallVmCall.make.Goals as goal

pub returns : goal.returns
returns c = (
  record {
    given = c.sys_cancel_invocation.result;
    calls = rw c.in_ok-target.ensures.ok at c.sys_cancel_invocation.ensures;
    told = c.keep_ended.ensures.kept;
  },
  c.keep_ended.ensures.told,
)
