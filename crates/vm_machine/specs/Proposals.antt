-- The result of an executed run is reported: it is proposed, or the attempt fails.
use Rattle.std.specs.Prelude.{◌≡◌, ◌++◌, [], ◌∷◌, Bool, not, ◌&&◌, ◌||◌, if◌then◌else◌, ℕ, ◌*◌, ◌==◌, Option, Some, None, find, is_some}
use Rattle.await_trees.specs.declared.handle.NotificationHandle.{NotificationHandle}
use Rattle.journal_protocol.specs.NamedFault.{NamedFault}
use Rattle.journal_protocol.specs.NamedFault.TheVariants as fault
use Rattle.journal_protocol.specs.Version.{Version}
use Rattle.journal_protocol.specs.Message.TheVariants as message
use Rattle.journal_protocol.specs.RawMessage.{RawMessage}
use Rattle.journal_protocol.specs.ProposeRunCompletionAck.{ProposeRunCompletionAck}
use Rattle.journal_protocol.specs.Types.{type_number}
use Rattle.journal_protocol.specs.Frames.{IsWhole, encoding}
use Rattle.journal_protocol.specs.Bodies.{acknowledgement_in}
use Rattle.journal_protocol.specs.ValueOrFailure.{ValueOrFailure}
use Rattle.vm_retries.specs.declared.policy.RetryPolicy.{RetryPolicy}
use Rattle.vm_retries.specs.Policies.{pauses_on_max}
use Rattle.vm_runs.specs.declared.settling.Settlement.{Settlement}
use Rattle.vm_runs.specs.declared.settling.Settlement.TheVariants as settlement
use Rattle.vm_types.specs.declared.runs.RunExitResult.{RunExitResult}
use Rattle.vm_runs.specs.Firsts.{without_first}
use Rattle.vm_runs.specs.Pending.{has_handle}
use Rattle.vm_runs.specs.Settling.{SettlesRun}
use Rattle.vm_types.specs.Exits.{exit_has_metadata}
use Rattle.vm_parts.specs.declared.context.StartInfo.{StartInfo}
use Rattle.vm_parts.specs.Deliveries.{id_at}
use Rattle.vm_runs.specs.declared.pending.PendingRun.{PendingRun}
use Rattle.vm_machine.specs.declared.machine.Machine.{Machine}
use Rattle.vm_machine.specs.declared.phase.Phase.{Phase}
use Rattle.vm_machine.specs.declared.phase.Phase.TheVariants.{Processing}
use Rattle.vm_machine.specs.Outcomes.{Outcome, Done, Failed, refused}
use Rattle.journal_protocol.specs.Versions.{is_from_v6, is_from_v7}

-- the pending run of a handle that wasn't taken
abbrev pub run_at : ℕ → Machine → Option PendingRun
run_at handle v = if is_some (id_at handle v.results.handles)
    then find (has_handle (record { 0 = handle })) v.runs else None

-- why a version can't take a result: metadata on a failure needs V6, and a policy that may pause
-- V7, for any result
abbrev pub proposal_fault : RunExitResult → RetryPolicy → Version → Option NamedFault
proposal_fault exit policy version =
    if (exit_has_metadata exit && not (is_from_v6 version))
    || (pauses_on_max policy && not (is_from_v7 version))
    then Some fault.UnsupportedFeatureForNegotiatedVersion
    else None

-- From V7 on a proposed result is kept until it is acknowledged.
abbrev pub proposal_kept : ℕ → ValueOrFailure → Machine → Machine
proposal_kept id result v = if is_from_v7 v.version
    then record v { proposals = v.proposals ++ record { id = id; result = result } ∷ [] }
    else v

-- a result is proposed under the run's completion id
abbrev pub proposed : ℕ → ValueOrFailure → Machine → Machine
proposed id result v = record (proposal_kept id result v) {
  output = v.output
      ++ encoding (message.ProposeRunCompletion (record { id = id; result = result })) ∷ [];
}

-- what becomes of a run is done: a result is proposed, by a frame from which it can be read back
abbrev pub SettlesAs : ℕ → Settlement → Machine → Outcome Unit → Type 0
SettlesAs id (settlement.Proposed result) v o = IsWhole
    (message.ProposeRunCompletion (record { id = id; result = result }))
    × (o ≡ Done tt (proposed id result v))
SettlesAs id (settlement.Failed e) v o = o ≡ Failed e v

-- the run of this handle isn't pending any more
abbrev pub without_run : NotificationHandle → Machine → Machine
without_run handle v = record v { runs = without_first (has_handle handle) v.runs }

-- how often the run failed in earlier attempts. Start says it of the first command after the
-- recorded ones, so it counts only if none was written
abbrev pub earlier_count : StartInfo → Bool → ℕ
earlier_count start wrote = if wrote then 0 else start.retry_count

-- and for how long, in nanoseconds; where it never failed, the duration that Start tells is none of
-- its attempts
abbrev pub earlier_nanos : StartInfo → Bool → ℕ
earlier_nanos start wrote =
    if wrote || (start.retry_count == 0) then 0 else start.duration * 1000000

-- the outcome of a report for a handle, by its pending run; refused if it has none
abbrev pub Settled : NotificationHandle → RunExitResult → RetryPolicy → Option PendingRun → Machine
    → Outcome Unit → Type 0
Settled handle exit policy None v o = o ≡ refused fault.NoPendingRun v
Settled handle exit policy (Some run) v o =
    (s : Settlement)
    × SettlesRun run exit policy (earlier_count v.start v.wrote_command)
    (earlier_nanos v.start v.wrote_command) s
    × SettlesAs run.completion_id s (without_run handle v) o

-- Outside Processing a run's result is ignored.
abbrev pub SettledAt : Phase → NotificationHandle → RunExitResult → RetryPolicy → Machine
    → Outcome Unit → Type 0
SettledAt Processing handle exit policy v o = Settled handle exit policy (run_at handle.0 v) v o
SettledAt phase handle exit policy v o = o ≡ Done tt v

-- unless the version can't take it
abbrev pub SettledUnless : Option NamedFault → NotificationHandle → RunExitResult → RetryPolicy
    → Machine → Outcome Unit → Type 0
SettledUnless (Some name) handle exit policy v o = o ≡ refused name v
SettledUnless None handle exit policy v o = SettledAt v.phase handle exit policy v o

-- the possible outcomes of a report of a run's result
abbrev pub Proposes : NotificationHandle → RunExitResult → RetryPolicy → Machine → Outcome Unit
    → Type 0
Proposes handle exit policy v o =
    SettledUnless (proposal_fault exit policy v.version) handle exit policy v o

-- ---- acknowledgements

-- a frame acknowledges the proposal of this id, in Processing
pub record Acknowledges (raw : RawMessage) (id : ℕ) (v : Machine) : Type 0 where
  pub ack : ProposeRunCompletionAck
  pub ty : type_number raw.ty ≡ 6
  pub reads : acknowledgement_in raw.body ≡ Some ack
  pub is : ack.id ≡ id
  pub phase : v.phase ≡ Processing
