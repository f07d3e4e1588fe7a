-- Errors, and what is written of them.
use Rattle.std.specs.Prelude.{ℕ, ◌/◌, ◌^◌, ◌-◌, min, List, [], ◌∷◌, Option, Some, None}
use Rattle.std.specs.Option.{option_map}
use Rattle.std.specs.Duration.{as_nanos}
use Rattle.std.specs.declared.time.Duration.{Duration}
use Rattle.wire.specs.Fault.{Fault}
use Rattle.wire.specs.Fault.TheVariants.{Memory, Malformed}
use Rattle.journal_errors.specs.declared.error.Error.{Error}
use Rattle.journal_errors.specs.declared.error.RelatedCommand.{RelatedCommand}
use Rattle.journal_errors.specs.declared.error.ErrorBehavior.TheVariants.{Retry}
use Rattle.journal_errors.specs.declared.faults.NamedFault.{NamedFault}
use Rattle.journal_errors.specs.declared.faults.NamedFault.TheVariants as fault
use Rattle.journal_errors.specs.declared.error_message.ErrorMessage.{ErrorMessage}
use Rattle.journal_errors.specs.Faults.{code_of, text_of}
use Rattle.journal_errors.specs.Types.{type_number}

-- an error that is retried and has nothing else set
abbrev pub plain_error : ℕ → List ℕ → Option RelatedCommand → Error
plain_error code message related = record {
  code = code;
  message = message;
  stacktrace = [];
  behavior = Retry;
  next_retry_delay = None;
  related_command = related;
}

-- the error of a fault that has a name: its code and its text, to be retried
abbrev pub named_error : NamedFault → Option RelatedCommand → Error
named_error f related = plain_error (code_of f) (text_of f) related

-- out of memory: code 500 and no text, about no command
abbrev pub no_memory : Error
no_memory = named_error fault.Memory None

-- the error for bytes that were not read: out of memory; or, if they are malformed, BadMessage
abbrev pub fault_error : Fault → Error
fault_error Memory = no_memory
fault_error Malformed = named_error fault.BadMessage None

-- an empty name is no name
abbrev pub name_if_any : List ℕ → Option (List ℕ)
name_if_any [] = None
name_if_any (c ∷ cs) = Some (c ∷ cs)

-- whole milliseconds, as far as a u64 goes
abbrev pub capped_millis : Duration → ℕ
capped_millis d = min (as_nanos d / 1_000_000) (2 ^ 64 - 1)

-- the name of the command that an error is about; none if it is about none or the name is empty
abbrev pub related_name : Option RelatedCommand → Option (List ℕ)
related_name None = None
related_name (Some r) = name_if_any r.name

-- what is written of an error
abbrev pub error_message : Error → ErrorMessage
error_message e = record {
  code = e.code;
  message = e.message;
  stacktrace = e.stacktrace;
  behavior = e.behavior;
  index = option_map (λ r. r.index) e.related_command;
  ty = option_map (λ r. type_number r.ty) e.related_command;
  name = related_name e.related_command;
  delay = option_map capped_millis e.next_retry_delay;
}
