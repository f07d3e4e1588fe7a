-- Which error C reports, and which command it relates to.
use Rattle.std.specs.Prelude.{◌≡◌, ◌⊎◌, ◌==◌, ℕ, Bool, true, false, if◌then◌else◌, List, [], ◌∷◌, Option, Some, None}
use Rattle.journal_protocol.specs.Error.{Error}
use Rattle.journal_protocol.specs.ErrorBehavior.{ErrorBehavior}
use Rattle.journal_protocol.specs.ErrorBehavior.TheVariants as behavior
use Rattle.vm_types.specs.declared.command_type.CommandType.{CommandType}
use Rattle.vm_types.specs.declared.command_type.CommandType.TheVariants as command
use Rattle.vm_types.specs.declared.command_type.CommandRelationship.{CommandRelationship}
use Rattle.vm_types.specs.declared.command_type.CommandRelationship.TheVariants as relationship
use Rattle.c_calls.specs.declared.reports.GivenCommand.{GivenCommand}
use Rattle.c_calls.specs.declared.reports.GivenError.{GivenError}
use Rattle.c_calls.specs.Given.{IsSpanIf, optional_of}

-- what is to be done after an error, by its number
abbrev pub behavior_at : ℕ → Option ErrorBehavior
behavior_at n =
    if n == 0 then Some behavior.Retry
    else if n == 1 then Some behavior.Pause
    else if n == 2 then Some behavior.Fail
    else None

-- the error of these numbers and texts, which relates to no command
pub record IsErrorOf (given : GivenError) (e : Error) : Type 0 where
  pub code : e.code ≡ given.code
  pub message : e.message ≡ given.message.bytes.now
  pub stacktrace : e.stacktrace ≡ given.stacktrace.bytes.now
  pub behavior : behavior_at given.behavior ≡ Some e.behavior
  pub delay : IsSpanIf given.has_delay given.delay_millis e.next_retry_delay
  pub alone : e.related_command ≡ None

-- the texts of an error
abbrev pub texts_of_error : GivenError → List (List ℕ)
texts_of_error given = given.message.bytes.now ∷ given.stacktrace.bytes.now ∷ []

-- the type of a command, by its number
unfoldable pub command_type_at : ℕ → Option CommandType
command_type_at n =
    if n == 0 then Some command.Input
    else if n == 1 then Some command.Output
    else if n == 2 then Some command.GetState
    else if n == 3 then Some command.GetStateKeys
    else if n == 4 then Some command.SetState
    else if n == 5 then Some command.ClearState
    else if n == 6 then Some command.ClearAllState
    else if n == 7 then Some command.GetPromise
    else if n == 8 then Some command.PeekPromise
    else if n == 9 then Some command.CompletePromise
    else if n == 10 then Some command.Sleep
    else if n == 11 then Some command.Call
    else if n == 12 then Some command.OneWayCall
    else if n == 13 then Some command.SendSignal
    else if n == 14 then Some command.Run
    else if n == 15 then Some command.AttachInvocation
    else if n == 16 then Some command.GetInvocationOutput
    else if n == 17 then Some command.CompleteAwakeable
    else if n == 18 then Some command.CancelInvocation
    else None

-- whether a number names no command, the last, the next or that of an index
abbrev pub is_relation : ℕ → Bool
is_relation n = if n == 0 then true else if n == 1 then true else if n == 2 then true else if n == 3
    then true else false

-- whether a command that is named so has a type
abbrev pub has_type : ℕ → Bool
has_type n = if n == 2 then true else if n == 3 then true else false

-- no command, the last, the next, or that of an index
abbrev pub IsRelatedOf : GivenCommand → Option CommandRelationship → Type 0
IsRelatedOf given None = given.kind ≡ 0
IsRelatedOf given (Some relationship.Last) = given.kind ≡ 1
IsRelatedOf given (Some (relationship.Next ty name)) =
    (given.kind ≡ 2) × (command_type_at given.ty ≡ Some ty) × (name ≡ optional_of given.name)
IsRelatedOf given (Some (relationship.Specific index ty name)) =
    (given.kind ≡ 3) × (index ≡ given.index) × (command_type_at given.ty ≡ Some ty)
    × (name ≡ optional_of given.name)

-- a number that names no command, or no type of one
abbrev pub NamesNoCommand : GivenCommand → Type 0
NamesNoCommand given =
    (is_relation given.kind ≡ false)
    ⊎ ((has_type given.kind ≡ true) × (command_type_at given.ty ≡ None))
