-- What is done after an error, as C gets it.
use Rattle.std.specs.Prelude.{◌/◌, ◌^◌, ◌-◌, ℕ, min, false, Option, Some, None, is_some}
use Rattle.std.specs.Duration.{as_nanos}
use Rattle.std.specs.declared.time.Duration.{Duration}
use Rattle.journal_protocol.specs.Error.{Error}
use Rattle.vm_types.specs.declared.reply.Reply.{Reply}
use Rattle.vm_types.specs.declared.reply.Reply.TheVariants as reply
use Rattle.c_values.specs.Numbers.{behavior_code}
use Rattle.c_sessions.specs.declared.retry.Retry.{Retry}
use Rattle.c_sessions.specs.declared.session.Session.{Session}
use Rattle.c_values.specs.declared.status.Status.{Status}
use Rattle.c_values.specs.declared.status.Status.TheVariants as status
use Rattle.c_values.specs.Statuses.{status_number}

-- whole milliseconds, as far as a u64 goes
abbrev pub whole_millis : Duration → ℕ
whole_millis delay = min (as_nanos delay / 1_000_000) (2 ^ 64 - 1)

-- the milliseconds of a delay, 0 without one
abbrev pub delay_code : Option Duration → ℕ
delay_code (Some delay) = whole_millis delay
delay_code None = 0

-- what is done after an error
abbrev pub retry_of : Error → Retry
retry_of e = record {
  status = 0;
  behavior = behavior_code e.behavior;
  has_delay = is_some e.next_retry_delay;
  delay_millis = delay_code e.next_retry_delay;
}

-- nothing is known, for this reason
abbrev pub no_retry : Status → Retry
no_retry status = record {
  status = status_number status;
  behavior = 0;
  has_delay = false;
  delay_millis = 0;
}

-- what is done after the error that a reply is
abbrev pub retry_told : Reply → Retry
retry_told (reply.Refused e) = retry_of e
retry_told other = no_retry status.NoPart

-- the same of the last reply of the session that there is
abbrev pub retry_in : Option Session → Retry
retry_in (Some s) = retry_told s.reply
retry_in None = no_retry status.NoSession
