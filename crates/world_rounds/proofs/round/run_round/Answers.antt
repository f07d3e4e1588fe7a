use Rattle.std.proofs.Common.{◌⊎◌, inr, subst}
use Rattle.world_rounds.specs.Inside.{report_view}
use Rattle.world_rounds.specs.Rounds.{Ran, RefusedDoes, RoundDoes, new_now}
use Rattle.world_rounds.specs.Places.{FaultsAt, IsMemoryAside, RoundStops}
use Rattle.world_rounds.specs.Worlds.{IsJournal}
use Rattle.world_rounds.proofs.Beginning.{if_err_then, if_ok_then, round_does, round_short, round_stops}
use Rattle.world_rounds.proofs.Rounding.{round_grows}
use Rattle.world_rounds.proofs.round.run_round.Goals as goal
use Rattle.vm_attempt.specs.Fixed.{fixed_of}

pub made_round-requires : goal.made_round-requires
made_round-requires g c = record {
  short = rw c.as_slice-in-Ok.ensures (round_short (g.H.Handler.meaning c.in-Ok.attempt.handler.now) c.args.setting.now c.args.round.now c.args.journal c.args.alloc c.in-Ok-waiting_bytes.waiting.items c.in-Ok.attempt.record_of c.requires.entries (rw c.as_slice.ensures.value at c.in-Ok-waiting_bytes.ensures.bytes) c.in-Ok.ensures.record);
}

pub returns-in-Err-clause-entries : goal.returns-in-Err-clause-entries
returns-in-Err-clause-entries g c =
    if_ok_then c.refused_round.result (λ a. RefusedDoes c.args.setting.now c.args.round.now c.args.journal (report_view a.1) a.0) (λ a. IsJournal a.0)
    (λ a d. (round_grows (g.H.Handler.meaning c.args.handler.now) c.args.setting.now c.args.round.now c.args.journal (report_view a.1) a.0 c.requires.entries (inr d)).journal)
    c.refused_round.ensures.ok

pub returns-in-Ok-waiting_bytes-clause-ok : goal.returns-in-Ok-waiting_bytes-clause-ok
returns-in-Ok-waiting_bytes-clause-ok g c =
    if_ok_then c.made_round.result (λ a. Ran (fixed_of (g.H.Handler.meaning c.in-Ok.attempt.handler.now) c.in-Ok.attempt) c.as_slice-in-Ok.result.now (new_now c.args.setting.now.version c.args.journal c.in-Ok-waiting_bytes.waiting.items c.in-Ok.attempt.record_of) (report_view a.1) a.0)
    (λ a. RoundDoes (g.H.Handler.meaning c.args.handler.now) c.args.setting.now c.args.round.now c.args.journal (report_view a.1) a.0)
    (λ a ran. subst (λ h. RoundDoes (g.H.Handler.meaning h) c.args.setting.now c.args.round.now c.args.journal (report_view a.1) a.0) c.in-Ok.ensures.handler
    (round_does (g.H.Handler.meaning c.in-Ok.attempt.handler.now) c.args.setting.now c.args.round.now c.args.journal c.args.alloc c.in-Ok-waiting_bytes.waiting.items c.in-Ok.attempt.record_of c.in-Ok.attempt.version c.in-Ok.attempt.options (report_view a.1) a.0
    c.in-Ok.ensures.supported (rw c.as_slice.ensures.value at c.in-Ok-waiting_bytes.ensures.whole) (rw c.as_slice.ensures.value at c.in-Ok-waiting_bytes.ensures.texts) (rw c.as_slice.ensures.value at c.in-Ok-waiting_bytes.ensures.bytes) c.in-Ok.ensures.record c.in-Ok.ensures.made_for.0 c.in-Ok.ensures.made_for.1
    (subst (λ es. Ran (fixed_of (g.H.Handler.meaning c.in-Ok.attempt.handler.now) c.in-Ok.attempt) es (new_now c.args.setting.now.version c.args.journal c.in-Ok-waiting_bytes.waiting.items c.in-Ok.attempt.record_of) (report_view a.1) a.0) c.as_slice-in-Ok.ensures ran)))
    c.made_round.ensures.ok

pub returns-in-Ok-waiting_bytes-clause-entries : goal.returns-in-Ok-waiting_bytes-clause-entries
returns-in-Ok-waiting_bytes-clause-entries g c =
    if_ok_then c.made_round.result (λ a. RoundDoes (g.H.Handler.meaning c.args.handler.now) c.args.setting.now c.args.round.now c.args.journal (report_view a.1) a.0) (λ a. IsJournal a.0)
    (λ a d. (round_grows (g.H.Handler.meaning c.args.handler.now) c.args.setting.now c.args.round.now c.args.journal (report_view a.1) a.0 c.requires.entries d).journal)
    (returns-in-Ok-waiting_bytes-clause-ok g c)

pub returns-in-Ok-waiting_bytes-clause-err : goal.returns-in-Ok-waiting_bytes-clause-err
returns-in-Ok-waiting_bytes-clause-err g c =
    if_err_then c.made_round.result (λ x. IsMemoryAside x.event x.fault ⊎ FaultsAt (g.H.Handler.meaning c.in-Ok.attempt.handler.now) c.as_slice-in-Ok.result.now (new_now c.args.setting.now.version c.args.journal c.in-Ok-waiting_bytes.waiting.items c.in-Ok.attempt.record_of) x.event x.fault)
    (λ x. RoundStops (g.H.Handler.meaning c.args.handler.now) c.args.setting.now c.args.round.now c.args.journal x.event x.fault)
    (λ x h. subst (λ k. RoundStops (g.H.Handler.meaning k) c.args.setting.now c.args.round.now c.args.journal x.event x.fault) c.in-Ok.ensures.handler
    (round_stops (g.H.Handler.meaning c.in-Ok.attempt.handler.now) c.args.setting.now c.args.round.now c.args.journal c.args.alloc c.in-Ok-waiting_bytes.waiting.items c.in-Ok.attempt.record_of x.event x.fault c.in-Ok.ensures.supported
    (rw c.as_slice.ensures.value at c.in-Ok-waiting_bytes.ensures.whole) (rw c.as_slice.ensures.value at c.in-Ok-waiting_bytes.ensures.bytes) c.in-Ok.ensures.record
    (subst (λ es. IsMemoryAside x.event x.fault ⊎ FaultsAt (g.H.Handler.meaning c.in-Ok.attempt.handler.now) es (new_now c.args.setting.now.version c.args.journal c.in-Ok-waiting_bytes.waiting.items c.in-Ok.attempt.record_of) x.event x.fault) c.as_slice-in-Ok.ensures h)))
    c.made_round.ensures.err
