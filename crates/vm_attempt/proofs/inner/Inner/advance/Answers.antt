use Rattle.std.proofs.Common.{ap, ◌∙◌, sym, length}
use Rattle.std.proofs.lemmas.Bool.{false≢true}
use Rattle.std.specs.Prelude.{◌==◌}
use Rattle.invocation_vm.specs.Seen.{seen}
use Rattle.vm_attempt.specs.Inside.{the_fields}
use Rattle.vm_attempt.specs.Stepping.{asked_from}
use Rattle.vm_attempt.proofs.Asking.{asks_made}
use Rattle.vm_attempt.proofs.inner.Inner.advance.Goals as goal

pub returns-clause-does : goal.returns-clause-does
returns-clause-does g c =
    let old = the_fields c.args.self.now in
    let meaning = g.H.Handler.meaning c.args.self.now.handler in
    asks_made meaning old c.reserve.new.self.items (seen c.perform-reply.new.vm) (seen c.perform-reply.new.vm) c.in-Ok-next_step.step c.in-Ok-kept_future.future c.perform-reply.result c.settle.result (the_fields c.settle.new.self)
    c.reserve.ensures.items
    (c.in-Ok-next_step.ensures ∙ ap (λ xs. asked_from old.waiting (meaning xs)) c.as_slice-2.ensures.value)
    c.in-Ok-kept_future.ensures c.perform-reply.ensures c.settle.ensures.record (λ none. false≢true (sym c.if-is_empty.false ∙ c.is_empty.ensures ∙ ap (λ xs. length xs == 0) (c.as_slice.ensures.value ∙ none))) c.settle.ensures.progress
