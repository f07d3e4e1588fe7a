use Rattle.std.proofs.Common.{◌∙◌, Some, ap, subst, sym}
use Rattle.invocation_vm.specs.Seen.{seen}
use Rattle.vm_attempt.specs.Inside.{the_fields}
use Rattle.vm_attempt.specs.Stepping.{TellsUnless, with_vm}
use Rattle.vm_attempt.proofs.Feeding.{failed_noted, none_noted}
use Rattle.vm_attempt.proofs.inner.Inner.run_result.Goals as goal

pub returns-then-not-had_failed-clause-does : goal.returns-then-not-had_failed-clause-does
returns-then-not-had_failed-clause-does g c =
    let old = the_fields c.args.self.now in
    let result = c.propose_run_completion-told.result in
    let w = seen c.propose_run_completion-told.new.self in
    subst (λ starved. TellsUnless starved c.args.handle c.args.exit c.args.policy old result (record (with_vm w old) { failed_by = Some c.args.handle })) (sym c.if-self.false)
    (w, c.propose_run_completion-told.ensures, ap (with_vm w) (sym (failed_noted c.args.handle old result (sym c.is_err.ensures.value ∙ c.if-is_err.true) (sym c.has_failed-had_failed.ensures ∙ c.if-not-had_failed.true))))

pub returns-else-is_err-clause-does : goal.returns-else-is_err-clause-does
returns-else-is_err-clause-does g c =
    let old = the_fields c.args.self.now in
    let result = c.propose_run_completion-told.result in
    let w = seen c.propose_run_completion-told.new.self in
    subst (λ starved. TellsUnless starved c.args.handle c.args.exit c.args.policy old result (with_vm w old)) (sym c.if-self.false)
    (w, c.propose_run_completion-told.ensures, ap (with_vm w) (sym (none_noted c.args.handle old result (rw (← c.is_err.ensures.value, ← c.has_failed-had_failed.ensures) c.else-is_err.either))))
