-- What an event does to a machine, and what the error rule makes of it. These words are said once,
-- for all events.
use Rattle.std.specs.Prelude.{◌≡◌, ◌⊎◌, ℕ, true, ◌&&◌, ◌==◌, if◌then◌else◌, List, [], ◌∷◌, ◌++◌, Option, Some, None, unwrap_or, Result, Ok, Err}
use Rattle.journal_protocol.specs.Error.{Error}
use Rattle.journal_protocol.specs.ErrorBehavior.{ErrorBehavior}
use Rattle.journal_protocol.specs.ErrorBehavior.TheVariants.{Retry, Pause, Fail}
use Rattle.journal_protocol.specs.RelatedCommand.{RelatedCommand}
use Rattle.journal_protocol.specs.NamedFault.{NamedFault}
use Rattle.journal_protocol.specs.Message.TheVariants as message
use Rattle.journal_protocol.specs.Errors.{named_error, no_memory, error_message}
use Rattle.journal_protocol.specs.Frames.{encoding}
use Rattle.journal_protocol.specs.Version.{Version}
use Rattle.vm_state.specs.declared.counters.Counters.{Counters}
use Rattle.vm_parts.specs.declared.context.StartInfo.{StartInfo}
use Rattle.vm_types.specs.declared.options.JournalMismatchRetryBehavior.{JournalMismatchRetryBehavior}
use Rattle.vm_types.specs.declared.options.JournalMismatchRetryBehavior.TheVariants as mismatch
use Rattle.vm_types.specs.declared.options.VMOptions.{VMOptions}
use Rattle.vm_machine.specs.declared.fault.Fault.{Fault}
use Rattle.vm_machine.specs.declared.fault.Fault.TheVariants as fault
use Rattle.vm_machine.specs.declared.machine.Machine.{Machine}
use Rattle.vm_machine.specs.Phases.{is_closed}
use Rattle.journal_protocol.specs.Versions.{is_from_v7}

-- An event is done with an answer, or fails with an error; either leaves a machine.
pub data Outcome (A : Type 0) : Type 0 where
  Done : A → Machine → Outcome A
  Failed : Error → Machine → Outcome A

-- one event after another
infixl 10 ◌>>>◌
abbrev pub ◌>>>◌ : {A B : Type 0} → Outcome A → (A → Machine → Outcome B) → Outcome B
(Done a v) >>> f = f a v
(Failed e v) >>> f = Failed e v

-- what a refused event leaves as it is before the error rule, and one that finds no memory
pub record Lasting : Type 0 where
  pub version : Version
  pub options : VMOptions
  pub start : StartInfo
  pub failure : Option Error
  pub output : List (List ℕ)

-- these parts of a machine
abbrev pub lasting : Machine → Lasting
lasting v = record {
  version = v.version;
  options = v.options;
  start = v.start;
  failure = v.failure;
  output = v.output;
}

-- What an inner function answers and leaves: the event's outcome, or out of memory. If it isn't
-- done, the lasting parts of the machine are as they were.
abbrev pub Gives : {A : Type 0} → Outcome A → Result A Fault → Machine → Machine → Type 0
Gives o (Ok a) old new = o ≡ Done a new
Gives o (Err (fault.Refused e)) old new = (o ≡ Failed e new) × (lasting new ≡ lasting old)
Gives o (Err fault.Memory) old new = lasting new ≡ lasting old

-- The same of an event with several possible outcomes.
abbrev pub GivesBy : {A : Type 0} → (Outcome A → Type 0) → Result A Fault → Machine → Machine
    → Type 0
GivesBy R (Ok a) old new = R (Done a new)
GivesBy R (Err (fault.Refused e)) old new = R (Failed e new) × (lasting new ≡ lasting old)
GivesBy R (Err fault.Memory) old new = lasting new ≡ lasting old

-- a refusal that relates to no command
abbrev pub refused : {A : Type 0} → NamedFault → Machine → Outcome A
refused name v = Failed (named_error name None) v

-- the last command, as an error that relates to it shows it: index 0 and Start before any
abbrev pub last_related : Machine → RelatedCommand
last_related v = record {
  index = unwrap_or v.counters.command 0;
  ty = v.last_command.ty;
  name = v.last_command.name;
}

-- a refusal that relates to the last command
abbrev pub about_last : NamedFault → Machine → Error
about_last name v = named_error name (Some (last_related v))

-- what the option makes of a mismatch
abbrev pub mismatch_behavior : JournalMismatchRetryBehavior → ErrorBehavior
mismatch_behavior mismatch.Pause = Pause
mismatch_behavior mismatch.FailTerminally = Fail
mismatch_behavior mismatch.FollowRetryPolicy = Retry

-- From V7 on, the options say what becomes of an invocation whose journal doesn't fit.
abbrev pub ruled_by : Version → VMOptions → Error → Error
ruled_by version options e =
    if (e.code == 570) && is_from_v7 version
    then record e { behavior = mismatch_behavior options.journal_mismatch_retry_behavior }
    else e

-- the error as the machine's version and options have it
abbrev pub ruled : Machine → Error → Error
ruled v e = ruled_by v.version v.options e

-- A machine that failed keeps its first error, and has written it unless it was closed.
abbrev pub failed : Error → Machine → Machine
failed e v =
    record v {
      failure = Some e;
      output = if is_closed v.phase then v.output else v.output
          ++ encoding (message.Error (error_message e)) ∷ [];
      output_ended = true;
    }

-- a machine that found no memory: its counters are those that it had before
abbrev pub starved : Counters → Machine → Machine
starved before v = record v { failure = Some no_memory; output_ended = true; counters = before }

-- an outcome after the error rule
abbrev pub settled : {A : Type 0} → Outcome A → Outcome A
settled (Done a v) = Done a v
settled (Failed e v) = Failed (ruled v e) (failed (ruled v e) v)

-- by whether the machine has failed before
abbrev pub called_at : {A : Type 0} → Option Error → Outcome A → Machine → Outcome A
called_at None o v = settled o
called_at (Some e) o v = Failed e v

-- A call: a failed machine answers its first error and stays as it is; else comes the event, and
-- the error rule.
unfoldable pub called : {A : Type 0} → Outcome A → Machine → Outcome A
called o v = called_at v.failure o v

-- Out of memory was answered, once this state was reached. The first error is what it was, or else
-- out of memory; no frame was written after those of that state; version, options, Start and
-- counters are as they were. A machine that had failed before stays as it was.
pub record IsStarved (reached : Machine) (e : Error) (new : Machine) : Type 0 where
  pub error : e ≡ no_memory
  pub failure : new.failure ≡ Some (unwrap_or reached.failure no_memory)
  pub output : new.output ≡ reached.output
  pub version : new.version ≡ reached.version
  pub options : new.options ≡ reached.options
  pub start : new.start ≡ reached.start
  pub counters : new.counters ≡ reached.counters
  pub stays : (first : Error) → reached.failure ≡ Some first → new ≡ reached

-- A call does what the outcome says, or finds no memory.
abbrev pub Does : {A : Type 0} → Outcome A → Result A Error → Machine → Machine → Type 0
Does o (Ok a) old new = o ≡ Done a new
Does o (Err e) old new = (o ≡ Failed e new) ⊎ IsStarved old e new

-- a call whose event has several possible outcomes, by whether the machine has failed before
abbrev pub CalledAt : {A : Type 0} → Option Error → (Outcome A → Type 0) → Machine → Outcome A
    → Type 0
CalledAt {A} None R v o = (event : Outcome A) × R event × (o ≡ settled event)
CalledAt (Some e) R v o = o ≡ Failed e v

-- The same of a call whose event has several possible outcomes.
abbrev pub CalledBy : {A : Type 0} → (Outcome A → Type 0) → Machine → Outcome A → Type 0
CalledBy R v o = CalledAt v.failure R v o

-- A call has one of its possible outcomes, or finds no memory.
abbrev pub DoesBy : {A : Type 0} → (Outcome A → Type 0) → Result A Error → Machine → Machine
    → Type 0
DoesBy R (Ok a) old new = R (Done a new)
DoesBy R (Err e) old new = R (Failed e new) ⊎ IsStarved old e new

-- whether a machine may act: a failed one answers its first error
abbrev pub Lives : Option Error → Result Unit Error → Type 0
Lives None r = r ≡ Ok tt
Lives (Some e) r = (r ≡ Err e) ⊎ (r ≡ Err no_memory)

-- what the error rule answers and leaves where an event wasn't carried out, in a call that began
-- with these counters
abbrev pub Rules : Counters → Fault → Error → Machine → Machine → Type 0
Rules before fault.Memory e old new = (e ≡ no_memory) × (new ≡ starved before old)
Rules before (fault.Refused said) e old new =
    ((e ≡ ruled old said) × (new ≡ failed (ruled old said) old))
    ⊎ ((e ≡ no_memory) × (new ≡ starved before old))

-- what the error rule leaves of an inner function's answer, in a call that began with these
-- counters
abbrev pub Settles : {A : Type 0} → Counters → Result A Fault → Result A Error → Machine → Machine
    → Type 0
Settles before (Ok a) r old new = (r ≡ Ok a) × (new ≡ old)
Settles before (Err fault.Memory) r old new = (r ≡ Err no_memory) × (new ≡ starved before old)
Settles before (Err (fault.Refused e)) r old new =
    ((r ≡ Err (ruled old e)) × (new ≡ failed (ruled old e) old))
    ⊎ ((r ≡ Err no_memory) × (new ≡ starved before old))

-- an answer that is an error, as an error
abbrev pub flattened : {A : Type 0} → Result (Result A Error) Error → Result A Error
flattened (Ok r) = r
flattened (Err e) = Err e
