use Rattle.c_calls.proofs.run_calls.ProposeCallVmCall.make.Goals as goal

pub returns-in-Ok : goal.returns-in-Ok
returns-in-Ok c = (
  (
    c.in-Some.policy,
    c.in-Some.ensures,
    record {
      given = c.propose_run_completion.result;
      calls = rw (c.of_value.ensures, c.in-Ok.ensures.ok) at c.propose_run_completion.ensures;
      told = c.keep_ended.ensures.kept;
    },
  ),
  c.keep_ended.ensures.told,
)
