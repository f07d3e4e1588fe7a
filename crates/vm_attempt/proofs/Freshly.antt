-- The completion ids of what an attempt wrote, where recorded commands are skipped.
use Rattle.std.proofs.Common.{[], ◌∷◌, sym, subst, inl, inr, ⊎_elim}
use Rattle.vm_asks.specs.Carried.{AreGreater, all_carried}
use Rattle.vm_parts.specs.Outboxes.{WholeFrames}
use Rattle.vm_attempt.specs.Record.{Record, heard}
use Rattle.vm_attempt.specs.Told.{BeforeInput, JournalCame, HasCome, NumbersFreshly}
use Rattle.vm_attempt.proofs.Fresh.{on_greater}
use Rattle.vm_attempt.proofs.Written.{written_is}
use Rattle.vm_model.specs.Fixed.{Fixed}

-- they are greater than those of the recorded commands
pub come_fresh : (fixed : Fixed) (r : Record) → HasCome fixed r → WholeFrames r.vm.machine.output → NumbersFreshly fixed r
come_fresh fixed r k f skips =
    ⊎_elim
    (λ (b : BeforeInput fixed (heard fixed.version r) r.answers r.waiting r.taken r.vm). inl (sym (written_is r.taken r.vm.machine.output [] b.wrote f)))
    (λ (c : JournalCame fixed (heard fixed.version r) r.answers r.taken r.vm).
    let recorded = c.journal.first ∷ c.journal.rest in
    inr (record {
      journal = c.journal;
      greater = subst (λ ws. AreGreater (all_carried recorded) (all_carried ws)) (written_is r.taken r.vm.machine.output c.written c.wrote f) (on_greater recorded c.written r.vm.machine (c.fresh skips));
    }))
    k
