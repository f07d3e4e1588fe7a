use Rattle.std.proofs.Common.{sym, ◌∙◌}
use Rattle.vm_attempt.specs.Inside.{the_record}
use Rattle.vm_model.specs.Fixed.{fixed_by}
use Rattle.vm_attempt.proofs.InReplay.{proves_in_replay}
use Rattle.vm_attempt.proofs.Proving.{shows_processing}
use Rattle.vm_attempt.proofs.attempt.Attempt.state.Goals as goal

pub returns-clause-proves : goal.returns-clause-proves
returns-clause-proves g c =
    let a = c.self.inside in
    let fixed = fixed_by (g.H.Handler.meaning a.inner.handler) a.version a.options in
    rw (← c.self.view_is)
    (λ is p.
    let at = shows_processing (the_record a.inner).vm.machine (sym c.state.ensures ∙ is) in
    proves_in_replay fixed (the_record a.inner) c.self.invariant.6 at.0 at.1 p)
