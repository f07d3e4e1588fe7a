use Rattle.std.proofs.Common.{◌≡◌, ◌++◌, List, sym, subst}
use Rattle.journal_protocol.specs.RawMessage.{RawMessage}
use Rattle.journal_protocol.specs.Notification.{Notification}
use Rattle.vm_model.specs.Fixed.{Fixed}
use Rattle.vm_model.specs.Histories.{IsPrefix, Told}
use Rattle.vm_model.specs.Moves.{Point}
use Rattle.vm_attempt.specs.Heard.{Heard}
use Rattle.vm_attempt.specs.Journals.{setup_for}
use Rattle.vm_attempt.specs.Told.{Journal, IsToldPoint, arrivals}
use Rattle.world_laws.proofs.Resting.{answers_wait, rests_past, run_passes, run_waits}
use Rattle.world_laws.proofs.Suspending.{step_suspends}
use Rattle.world_laws.proofs.waking.no_lost_wake_up.Goals as goal

-- a point that a later attempt reaches is reached by what came until then and since, and by the commands that stood there and others
told_so : (fixed : Fixed) (fed : Heard) (j : Journal fed) (written cs ds : List RawMessage) (ns more : List Notification) → arrivals j ≡ ns ++ more → j.rest ++ written ≡ cs ++ ds → (q : Point) → IsToldPoint fixed j written q → Told (setup_for fixed j.start) fixed.handler j.input (ns ++ more) (cs ++ ds) q
told_so fixed fed j written cs ds ns more came stood q told =
    subst (λ (l : List Notification). Told (setup_for fixed j.start) fixed.handler j.input l (cs ++ ds) q) came
    (subst (λ (l : List RawMessage). Told (setup_for fixed j.start) fixed.handler j.input (arrivals j) l q) stood told)

-- and the other way round
so_told : (fixed : Fixed) (fed : Heard) (j : Journal fed) (written cs ds : List RawMessage) (ns more : List Notification) → arrivals j ≡ ns ++ more → j.rest ++ written ≡ cs ++ ds → (q : Point) → Told (setup_for fixed j.start) fixed.handler j.input (ns ++ more) (cs ++ ds) q → IsToldPoint fixed j written q
so_told fixed fed j written cs ds ns more came stood q told =
    subst (λ (l : List RawMessage). Told (setup_for fixed j.start) fixed.handler j.input (arrivals j) l q) (sym stood)
    (subst (λ (l : List Notification). Told (setup_for fixed j.start) fixed.handler j.input l (cs ++ ds) q) (sym came) told)

pub returns-clause-suspends : goal.returns-clause-suspends
returns-clause-suspends c = step_suspends

pub returns-clause-wakes : goal.returns-clause-wakes
returns-clause-wakes c = λ s m p left more w queued two mapped. run_passes s m p left w queued more two mapped

pub returns-clause-waits : goal.returns-clause-waits
returns-clause-waits c = λ s m p left more w queued two mapped. run_waits s m p left w queued more two mapped

pub returns-clause-past : goal.returns-clause-past
returns-clause-past c = λ fixed fed answers written cs ds ns more p left w came stood told waits queued two mapped wakes.
    rests_past (setup_for fixed w.journal.start) fixed.handler w.journal.input ns more cs ds p told left waits queued two mapped wakes answers w.future w.at w.awaits (told_so fixed fed w.journal written cs ds ns more came stood w.at w.told) w.answers w.no_arrival w.asks
    (λ q other. w.asleep q (so_told fixed fed w.journal written cs ds ns more came stood q other))

pub returns-clause-not_past : goal.returns-clause-not_past
returns-clause-not_past c = λ fixed fed answers written cs ds ns more p left t came stood told waits queued two mapped never.
    subst (λ l. IsPrefix l p.answers) t.answers
    (answers_wait (setup_for fixed t.journal.start) fixed.handler t.journal.input ns more cs ds p told left waits queued two mapped never t.at (told_so fixed fed t.journal written cs ds ns more came stood t.at t.told))
