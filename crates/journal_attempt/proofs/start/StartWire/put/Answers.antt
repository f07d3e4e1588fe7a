use Rattle.std.proofs.Common.{append_assoc}
use Rattle.std.proofs.lemmas.Result.{IfOk-equal}
use Rattle.journal_attempt.specs.Encoding.{start_body}
use Rattle.journal_attempt.proofs.start.StartWire.put.Goals as goal

pub returns-clause-written : goal.returns-clause-written
unfolding start_body
returns-clause-written c = IfOk-equal _ _ _ _ c.put-12.ensures.written (rw (c.in_ok-put-11.ensures.written, c.in_ok-put-10.ensures.written, c.in_ok-put-9.ensures.written, c.in_ok-put-8.ensures.written, c.in_ok-put-7.ensures.written, c.in_ok-put-6.ensures.written, c.in_ok-put-5.ensures.written, c.in_ok-put-4.ensures.written, c.in_ok-put-3.ensures.written, c.in_ok-put-2.ensures.written, c.in_ok-put.ensures.written) (simp append_assoc))
