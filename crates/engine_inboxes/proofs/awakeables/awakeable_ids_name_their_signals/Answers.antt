use Rattle.std.proofs.Common.{ap, arith}
use Rattle.journal_store.specs.Effects.{awoken}
use Rattle.engine_inboxes.proofs.Naming.{names_signal}
use Rattle.engine_inboxes.proofs.awakeables.awakeable_ids_name_their_signals.Goals as goal

pub returns-clause-names : goal.returns-clause-names
returns-clause-names c = names_signal c.args._invocation.now c.args._signal (λ k. omega (arith, c.type_inv._invocation k)) c.ranges._signal.fits

pub returns-clause-sends : goal.returns-clause-sends
returns-clause-sends c = λ ends. ap (λ o. awoken o ends) (names_signal c.args._invocation.now c.args._signal (λ k. omega (arith, c.type_inv._invocation k)) c.ranges._signal.fits)
