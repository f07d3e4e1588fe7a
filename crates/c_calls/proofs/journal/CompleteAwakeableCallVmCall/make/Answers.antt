use Rattle.c_calls.proofs.journal.CompleteAwakeableCallVmCall.make.Goals as goal

pub returns-in-Ok : goal.returns-in-Ok
returns-in-Ok c = (
  record {
    given = c.sys_complete_awakeable.result;
    calls = rw (c.in_ok-id.ensures.ok, c.in-Ok.ensures.ok, c.payload.ensures) at c.sys_complete_awakeable.ensures;
    told = c.keep_ended.ensures.kept;
  },
  c.keep_ended.ensures.told,
)
