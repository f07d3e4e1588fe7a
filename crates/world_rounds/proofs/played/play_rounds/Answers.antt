use Rattle.std.proofs.Common.{arith, map, take, ap, subst, inl, refl}
use Rattle.std.proofs.lemmas.List.{take_all}
use Rattle.world_rounds.specs.Rounds.{RoundDoes, RoundsDo}
use Rattle.world_rounds.specs.Places.{RoundStops}
use Rattle.world_rounds.specs.Inside.{report_view}
use Rattle.world_rounds.specs.Worlds.{IsJournal, WorldView}
use Rattle.world_rounds.specs.Sound.{IsSoundFor}
use Rattle.world_rounds.proofs.Agreeing.{sound_rounds_agree}
use Rattle.world_rounds.proofs.Completing.{completes_once}
use Rattle.world_rounds.proofs.Executions.{execution_of, run_of}
use Rattle.world_rounds.proofs.Faultless.{faults_come_from_outside, stops_come_from_outside}
use Rattle.world_rounds.proofs.Freshness.{rounds_fresh}
use Rattle.world_rounds.proofs.RightKinds.{history_kinds}
use Rattle.world_rounds.proofs.Lists.{split_at}
use Rattle.world_rounds.proofs.Owning.{rounds_own}
use Rattle.world_rounds.proofs.Stopping.{rounds_fault_so, rounds_stop}
use Rattle.world_rounds.proofs.Rounding.{Grows, are_honest, rounds_grow, rounds_then, stays_one_run, stays_sound, stays_undisturbed}
use Rattle.world_rounds.proofs.played.play_rounds.Given as given
use Rattle.world_rounds.proofs.played.play_rounds.Goals as goal

-- the next round is stopped
pub returns-in-Err-clause-stopped : goal.returns-in-Err-clause-stopped
returns-in-Err-clause-stopped g c =
    rw c.stopped.ensures
    (rounds_stop (g.H.Handler.meaning c.args.handler.now) c.args.world.setting c.args.rounds.now c.args.world.journal c.loop-round.reports.items c.loop-round.journal c.loop-round.round-index c.round-item.result _ c.loop-round-test.true c.round-item.is c.loop-round.invariant.so_far refl
    (subst (λ x. RoundStops (g.H.Handler.meaning c.args.handler.now) x c.round-item.result c.loop-round.journal c.in-Err.stop.event c.in-Err.stop.fault) (ap (λ (w : WorldView). w.setting) c.world.view_is) c.in-Err.ensures.err))

pub returns-in-Err-clause-err : goal.returns-in-Err-clause-err
returns-in-Err-clause-err g c = rounds_fault_so (g.H.Handler.meaning c.args.handler.now) c.args.world.setting c.args.rounds.now c.args.world.journal _ _ (returns-in-Err-clause-stopped g c)

-- where the journal can be replayed, a fault comes from outside
pub returns-in-Err-clause-outside : goal.returns-in-Err-clause-outside
returns-in-Err-clause-outside g c h = faults_come_from_outside (g.H.Handler.meaning c.args.handler.now) c.args.world.setting c.args.rounds.now c.args.world.journal _ (subst (λ (w : WorldView). IsJournal w.journal) c.world.view_is c.world.invariant) h (returns-in-Err-clause-err g c)

-- so does that of the event at which they are stopped
pub returns-in-Err-clause-outside_there : goal.returns-in-Err-clause-outside_there
returns-in-Err-clause-outside_there g c h s = stops_come_from_outside (g.H.Handler.meaning c.args.handler.now) c.args.world.setting c.args.rounds.now c.args.world.journal _ _ (subst (λ (w : WorldView). IsJournal w.journal) c.world.view_is c.world.invariant) h s

pub loop-round-preserved : goal.loop-round-preserved
loop-round-preserved g c = record {
  entries = c.in-Ok.ensures.entries;
  so_far = rw (c.if-not-keep_report.ensures, split_at c.args.rounds.now c.loop-round.round-index c.round-item.result c.loop-round-test.true c.round-item.is)
      (rounds_then (g.H.Handler.meaning c.args.handler.now) c.args.world.setting (take c.loop-round.round-index c.args.rounds.now) c.round-item.result c.args.world.journal (map report_view c.loop-round.reports.items) c.loop-round.journal (report_view c.in-Ok.report) c.in-Ok.next c.loop-round.invariant.so_far (subst (λ x. RoundDoes (g.H.Handler.meaning c.args.handler.now) x c.round-item.result c.loop-round.journal (report_view c.in-Ok.report) c.in-Ok.next) (ap (λ (w : WorldView). w.setting) c.world.view_is) c.in-Ok.ensures.ok));
}

-- all rounds were run
all : (g : given.Over) (c : goal.After-loop-round g) → RoundsDo (g.H.Handler.meaning c.args.handler.now) c.args.world.setting c.args.rounds.now c.args.world.journal (map report_view c.loop-round.reports.items) c.loop-round.journal
all g c = rw (take_all c.loop-round.round-index c.args.rounds.now (omega (arith, c.loop-round-test.false))) at c.loop-round.invariant.so_far

-- the journal before
before : (g : given.Over) (c : goal.After-loop-round g) → IsJournal c.args.world.journal
before g c = subst (λ (w : WorldView). IsJournal w.journal) c.world.view_is c.world.invariant

grows : (g : given.Over) (c : goal.After-loop-round g) → Grows c.args.world.journal c.loop-round.journal
grows g c = rounds_grow (g.H.Handler.meaning c.args.handler.now) c.args.world.setting c.args.rounds.now c.args.world.journal (map report_view c.loop-round.reports.items) c.loop-round.journal (before g c) (all g c)

pub returns-clause-extends : goal.returns-clause-extends
returns-clause-extends g c = ((grows g c).added, (grows g c).extends)

-- what rounds guarantee where the journal is sound for the handler, and where one run made it
pub returns-clause-honest : goal.returns-clause-honest
returns-clause-honest g c h d = are_honest (g.H.Handler.meaning c.args.handler.now) c.args.world.setting c.args.rounds.now c.args.world.journal (map report_view c.loop-round.reports.items) c.loop-round.journal (before g c) d h

pub returns-clause-errors : goal.returns-clause-errors
returns-clause-errors g c h d = rounds_own (g.H.Handler.meaning c.args.handler.now) c.args.world.setting c.args.rounds.now c.args.world.journal (map report_view c.loop-round.reports.items) c.loop-round.journal (before g c) h d

stays : (g : given.Over) (c : goal.After-loop-round g) → IsSoundFor (g.H.Handler.meaning c.args.handler.now) c.args.world.setting c.args.world.journal → IsSoundFor (g.H.Handler.meaning c.args.handler.now) c.args.world.setting c.loop-round.journal
stays g c h = stays_sound (g.H.Handler.meaning c.args.handler.now) c.args.world.setting c.args.rounds.now c.args.world.journal (map report_view c.loop-round.reports.items) c.loop-round.journal (before g c) (all g c) h

pub returns-clause-history : goal.returns-clause-history
returns-clause-history g c h = stays g c h

pub returns-clause-once : goal.returns-clause-once
returns-clause-once g c h = completes_once _ (g.H.Handler.meaning c.args.handler.now) _ c.loop-round.journal (grows g c).journal (stays g c h).history.history

pub returns-clause-kinds : goal.returns-clause-kinds
returns-clause-kinds g c h = history_kinds _ (g.H.Handler.meaning c.args.handler.now) _ c.loop-round.journal (grows g c).journal (stays g c h).history.history

pub returns-clause-agree : goal.returns-clause-agree
returns-clause-agree g c h = sound_rounds_agree (g.H.Handler.meaning c.args.handler.now) c.args.world.setting c.args.rounds.now c.args.world.journal (map report_view c.loop-round.reports.items) c.loop-round.journal h (before g c) (all g c)

pub returns-clause-one_run : goal.returns-clause-one_run
returns-clause-one_run g c r h =
    let m = g.H.Handler.meaning c.args.handler.now in
    let w = c.args.world.setting in
    execution_of m w c.loop-round.journal (stays_one_run m w c.args.rounds.now c.args.world.journal (map report_view c.loop-round.reports.items) c.loop-round.journal (before g c) (all g c) r (run_of m w c.args.world.journal h))

pub returns-clause-undisturbed : goal.returns-clause-undisturbed
returns-clause-undisturbed g c r whole h = stays_undisturbed (g.H.Handler.meaning c.args.handler.now) c.args.world.setting c.args.rounds.now c.args.world.journal (map report_view c.loop-round.reports.items) c.loop-round.journal (before g c) (all g c) r whole h

pub returns-clause-fresh : goal.returns-clause-fresh
returns-clause-fresh g c skips = rounds_fresh (g.H.Handler.meaning c.args.handler.now) c.args.world.setting c.args.rounds.now c.args.world.journal (map report_view c.loop-round.reports.items) c.loop-round.journal skips (before g c) (all g c)

-- there is no memory for the report
pub returns-then-not-keep_report-clause-stopped : goal.returns-then-not-keep_report-clause-stopped
returns-then-not-keep_report-clause-stopped g c =
    rw c.stopped-then-not-keep_report.ensures
    (rounds_stop (g.H.Handler.meaning c.args.handler.now) c.args.world.setting c.args.rounds.now c.args.world.journal c.keep_report.new.reports.items c.loop-round.journal c.loop-round.round-index c.round-item.result _ c.loop-round-test.true c.round-item.is (rw c.if-not-keep_report.ensures c.loop-round.invariant.so_far) refl (inl c.out_of_memory.ensures))

pub returns-then-not-keep_report-clause-err : goal.returns-then-not-keep_report-clause-err
returns-then-not-keep_report-clause-err g c = rounds_fault_so (g.H.Handler.meaning c.args.handler.now) c.args.world.setting c.args.rounds.now c.args.world.journal _ _ (returns-then-not-keep_report-clause-stopped g c)

pub returns-then-not-keep_report-clause-outside : goal.returns-then-not-keep_report-clause-outside
returns-then-not-keep_report-clause-outside g c h = faults_come_from_outside (g.H.Handler.meaning c.args.handler.now) c.args.world.setting c.args.rounds.now c.args.world.journal _ (subst (λ (w : WorldView). IsJournal w.journal) c.world.view_is c.world.invariant) h (returns-then-not-keep_report-clause-err g c)

pub returns-then-not-keep_report-clause-outside_there : goal.returns-then-not-keep_report-clause-outside_there
returns-then-not-keep_report-clause-outside_there g c h s = stops_come_from_outside (g.H.Handler.meaning c.args.handler.now) c.args.world.setting c.args.rounds.now c.args.world.journal _ _ (subst (λ (w : WorldView). IsJournal w.journal) c.world.view_is c.world.invariant) h s
