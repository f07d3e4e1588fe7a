use Rattle.c_calls.proofs.state.TakeEphemeralCallVmCall.make.Goals as goal

pub returns : goal.returns
returns c = (
  record {
    given = c.take_ephemeral_notification.result;
    calls = c.take_ephemeral_notification.ensures;
    told = c.keep_taken.ensures.kept;
  },
  c.keep_taken.ensures.told,
)
