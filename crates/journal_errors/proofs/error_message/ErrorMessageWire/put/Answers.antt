use Rattle.std.proofs.Common.{append_assoc}
use Rattle.std.proofs.lemmas.Result.{IfOk-equal}
use Rattle.journal_errors.specs.Encoding.{error}
use Rattle.journal_errors.proofs.error_message.ErrorMessageWire.put.Goals as goal

pub returns-clause-written : goal.returns-clause-written
unfolding error
returns-clause-written c = IfOk-equal _ _ _ _ c.put-8.ensures.written (rw (c.in_ok-put-7.ensures.written, c.in_ok-put-6.ensures.written, c.in_ok-put-5.ensures.written, c.in_ok-put-4.ensures.written, c.in_ok-put-3.ensures.written, c.in_ok-put-2.ensures.written, c.in_ok-put.ensures.written) (simp append_assoc))
