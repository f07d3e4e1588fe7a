-- What the fields of a round on its way say, and which answers of a step are followed by another.
use Rattle.std.specs.Prelude.{Bool, true, false, Result, Ok, Err}
use Rattle.journal_protocol.specs.Error.{Error}
use Rattle.vm_attempt.specs.declared.progress.Progress.{Progress}
use Rattle.vm_attempt.specs.declared.progress.Progress.TheVariants as progress
use Rattle.vm_attempt.specs.Record.{Record}
use Rattle.world_rounds.specs.declared.desk.Desk.{Desk}
use Rattle.world_rounds.specs.declared.types.Report.{Report}
use Rattle.world_rounds.specs.Rounds.{Now, ReportView}

-- a round on its way
abbrev pub the_now : Desk → Record → Now
the_now d r = record {
  version = d.version;
  journal = d.journal;
  waiting = d.waiting.items;
  attempt = r;
  output = d.output.items;
  unstored = d.unstored;
  closed = d.closed;
  error = d.error;
}

-- a report
abbrev pub report_view : Report → ReportView
report_view r =
    record { answers = r.answers.items; output = r.output; error = r.error; entries = r.entries }

-- after this answer a step may do something: the handler was answered, or its await waits and is
-- asked again
abbrev pub may_go_on : Result Progress Error → Bool
may_go_on (Ok progress.Stepped) = true
may_go_on (Ok (progress.ExecuteRun run)) = true
may_go_on (Ok (progress.Waiting input run)) = true
may_go_on (Ok progress.NotReady) = false
may_go_on (Ok progress.Suspended) = false
may_go_on (Ok progress.Ended) = false
may_go_on (Err e) = false
