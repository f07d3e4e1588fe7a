use Rattle.c_calls.proofs.awaits.AwaitTreeCallVmCall.make.Goals as goal

pub returns : goal.returns
returns c = (
  (
    c.in_ok-future.future,
    c.in_ok-future.ensures.ok,
    record {
      given = c.do_await.result;
      calls = c.do_await.ensures;
      told = c.keep_awaited.ensures.kept;
    },
  ),
  c.keep_awaited.ensures.told,
)
