-- An error that the handler's runner reports.
use Rattle.std.specs.Prelude.{Bool, true, false, not, ◌&&◌, if◌then◌else◌, [], Option, Some, None, unwrap_or}
use Rattle.journal_protocol.specs.Error.{Error}
use Rattle.journal_protocol.specs.ErrorBehavior.{ErrorBehavior}
use Rattle.journal_protocol.specs.ErrorBehavior.TheVariants.{Retry, Pause, Fail}
use Rattle.journal_protocol.specs.RelatedCommand.{RelatedCommand}
use Rattle.journal_protocol.specs.NamedFault.TheVariants as fault
use Rattle.vm_types.specs.declared.command_type.CommandRelationship.{CommandRelationship}
use Rattle.vm_types.specs.declared.command_type.CommandRelationship.TheVariants.{Last, Next, Specific}
use Rattle.vm_types.specs.CommandTypes.{message_type}
use Rattle.vm_state.specs.Counting.{next_index}
use Rattle.vm_machine.specs.declared.machine.Machine.{Machine}
use Rattle.vm_machine.specs.Outcomes.{Outcome, Failed, refused, last_related}
use Rattle.journal_protocol.specs.Versions.{is_from_v7}

-- the command that the error relates to; an absent name is empty
abbrev pub related_by : CommandRelationship → Machine → RelatedCommand
related_by Last v = last_related v
related_by (Next ty name) v = record {
  index = next_index v.counters.command;
  ty = message_type ty;
  name = unwrap_or name [];
}
related_by (Specific index ty name) v = record {
  index = index;
  ty = message_type ty;
  name = unwrap_or name [];
}

-- the command that a reported error relates to
abbrev pub related_to : Option CommandRelationship → Error → Machine → Error
related_to None e v = e
related_to (Some relationship) e v = record e { related_command = Some (related_by relationship v) }

-- the error is one to be retried
abbrev pub is_retry : ErrorBehavior → Bool
is_retry Retry = true
is_retry Pause = false
is_retry Fail = false

-- An error is reported; before V7 it can only be retried.
abbrev pub report_step : Error → Option CommandRelationship → Machine → Outcome Unit
report_step e relationship v =
    if not (is_retry e.behavior) && not (is_from_v7 v.version)
    then refused fault.UnsupportedFeatureForNegotiatedVersion v
    else Failed (related_to relationship e v) v
