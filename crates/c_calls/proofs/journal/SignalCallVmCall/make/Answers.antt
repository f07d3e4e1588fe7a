use Rattle.c_calls.proofs.journal.SignalCallVmCall.make.Goals as goal

pub returns : goal.returns
returns c = (
  record {
    given = c.create_signal_handle.result;
    calls = rw c.in_ok-name.ensures.ok at c.create_signal_handle.ensures;
    told = c.keep_handle.ensures.kept;
  },
  c.keep_handle.ensures.told,
)
