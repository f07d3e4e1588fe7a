use Rattle.std.proofs.Common.{◌∙◌, sym, subst}
use Rattle.world_rounds.specs.Worlds.{IsJournal}
use Rattle.world_rounds.proofs.Given.{given_is}
use Rattle.world_laws.specs.Replays.{AttemptShows, case_with}
use Rattle.world_laws.proofs.Checking.{history_over, supported_goes_on, told_replayable}
use Rattle.world_laws.proofs.Reaching.{attempt_goes_on}
use Rattle.world_laws.proofs.check.check_replay.Goals as goal

pub replay_of-requires-clause-entries : goal.replay_of-requires-clause-entries
replay_of-requires-clause-entries g c = subst IsJournal (sym (c.as_slice.ensures.value ∙ c.in-Ok.ensures.journal)) (given_is c.args.entries.items c.in-Ok.ensures.given)

pub returns-in-Ok-replay_of-clause-history : goal.returns-in-Ok-replay_of-clause-history
returns-in-Ok-replay_of-clause-history g c =
    let it = case_with (g.H.Handler.meaning c.args.handler.now) c.args.setting.now in
    supported_goes_on it c.args.entries.items c.args.steps c.in-Ok-replay_of.shown
    (subst (λ journal. AttemptShows it journal c.args.steps c.in-Ok-replay_of.shown) (c.as_slice.ensures.value ∙ c.in-Ok.ensures.journal) c.in-Ok-replay_of.ensures.shown)

pub returns-in-Ok-replay_of-clause-takes_over : goal.returns-in-Ok-replay_of-clause-takes_over
returns-in-Ok-replay_of-clause-takes_over g c = λ goes r older h.
    let it = case_with (g.H.Handler.meaning c.args.handler.now) c.args.setting.now in
    history_over it older c.args.entries.items (given_is c.args.entries.items c.in-Ok.ensures.given) (returns-in-Ok-replay_of-clause-history g c goes r) h

pub returns-in-Ok-replay_of-clause-replayable : goal.returns-in-Ok-replay_of-clause-replayable
returns-in-Ok-replay_of-clause-replayable g c = λ goes r once reads compared.
    let it = case_with (g.H.Handler.meaning c.args.handler.now) c.args.setting.now in
    told_replayable it c.args.entries.items r (returns-in-Ok-replay_of-clause-history g c goes r once reads) compared

pub returns-in-Ok-replay_of-clause-goes_on : goal.returns-in-Ok-replay_of-clause-goes_on
returns-in-Ok-replay_of-clause-goes_on g c = λ speaks r room h.
    let it = case_with (g.H.Handler.meaning c.args.handler.now) c.args.setting.now in
    attempt_goes_on it c.args.entries.items c.args.steps c.in-Ok-replay_of.shown
    (subst (λ journal. AttemptShows it journal c.args.steps c.in-Ok-replay_of.shown) (c.as_slice.ensures.value ∙ c.in-Ok.ensures.journal) c.in-Ok-replay_of.ensures.shown) r room h

pub returns-in-Err-clause-goes_on : goal.returns-in-Err-clause-goes_on
returns-in-Err-clause-goes_on g c = λ speaks. absurd (cc)
