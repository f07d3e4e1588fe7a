-- The names by which a script's line says what the handler's runner reports, and the error that it
-- reports.
use Rattle.std.specs.Prelude.{◌≡◌, ℕ, true, List, [], ◌∷◌, drop, length, codes, Option, Some, None, string_bytes}
use Rattle.std.proofs.Common.{Global}
use Rattle.std.specs.declared.string.String.{String}
use Rattle.std.specs.declared.time.Duration.{Duration}
use Rattle.journal_protocol.specs.Error.{Error}
use Rattle.journal_protocol.specs.ErrorBehavior.{ErrorBehavior}
use Rattle.journal_protocol.specs.ErrorBehavior.TheVariants as behavior
use Rattle.vm_types.specs.declared.command_type.CommandType.{CommandType}
use Rattle.vm_types.specs.declared.command_type.CommandType.TheVariants as command
use Rattle.vm_types.specs.declared.command_type.CommandRelationship.{CommandRelationship}
use Rattle.vm_types.specs.declared.command_type.CommandRelationship.TheVariants as relationship
use Rattle.std.specs.Borrow.{Bor}
use Rattle.lines.specs.Atoms.{IsText}
use Rattle.lines.specs.Pieces.{AreWordsWithin}
use Rattle.line_parts.specs.declared.report.Details.{Details}
use Rattle.lines.specs.Fields.{IsOptional, IsSet, are_named, text_behind, texts_named}
use Rattle.line_parts.specs.Values.{HasCodeAndText}
use Rattle.lines.specs.Durations.{IsTime}
use Rattle.lines.specs.Words.{IsNumberOf, text_at}

-- what is to be done after an error
abbrev pub behavior_name : ErrorBehavior → List ℕ
behavior_name behavior.Retry = codes "retry"
behavior_name behavior.Pause = codes "pause"
behavior_name behavior.Fail = codes "fail"

-- the word for what is to be done
abbrev pub IsBehavior : List ℕ → ErrorBehavior → Type 0
IsBehavior text it = text ≡ behavior_name it

-- the types of commands
unfoldable pub command_type_name : CommandType → List ℕ
command_type_name command.Input = codes "Input"
command_type_name command.Output = codes "Output"
command_type_name command.GetState = codes "GetState"
command_type_name command.GetStateKeys = codes "GetStateKeys"
command_type_name command.SetState = codes "SetState"
command_type_name command.ClearState = codes "ClearState"
command_type_name command.ClearAllState = codes "ClearAllState"
command_type_name command.GetPromise = codes "GetPromise"
command_type_name command.PeekPromise = codes "PeekPromise"
command_type_name command.CompletePromise = codes "CompletePromise"
command_type_name command.Sleep = codes "Sleep"
command_type_name command.Call = codes "Call"
command_type_name command.OneWayCall = codes "OneWayCall"
command_type_name command.SendSignal = codes "SendSignal"
command_type_name command.Run = codes "Run"
command_type_name command.AttachInvocation = codes "AttachInvocation"
command_type_name command.GetInvocationOutput = codes "GetInvocationOutput"
command_type_name command.CompleteAwakeable = codes "CompleteAwakeable"
command_type_name command.CancelInvocation = codes "CancelInvocation"

-- the word for a type of command
abbrev pub IsType : List ℕ → CommandType → Type 0
IsType text ty = text ≡ command_type_name ty

-- the stack trace that is given, or the one before
abbrev pub stack_or : Option (String Global) → List ℕ → List ℕ
stack_or None before = before
stack_or (Some stack) before = string_bytes stack

-- the delay that is given, or the one before
abbrev pub delay_or : Option Duration → Option Duration → Option Duration
delay_or None before = before
delay_or (Some delay) before = Some delay

-- an error with its options, which relates to no command by itself
abbrev pub reported : ℕ → List ℕ → Details → Error
reported code message details = record {
  code = code;
  message = message;
  stacktrace = stack_or details.stack [];
  behavior = details.behavior;
  next_retry_delay = delay_or details.delay None;
  related_command = None;
}

-- the name of a command: a text, or `-` for none
unfoldable pub IsCommandName : List ℕ → Option (List ℕ) → Type 0
IsCommandName text None = text ≡ codes "-"
IsCommandName text (Some name) = IsText text name

-- the words are a type and a name, and nothing else
abbrev pub AreTypeAndName : List (Bor (List ℕ)) → CommandType × Option (List ℕ) → Type 0
AreTypeAndName words command = (length words ≡ 2) × IsType (text_at 0 words) command.0
    × IsCommandName (text_at 1 words) command.1

-- the words in the brackets name this type and this name
pub record IsCommandText (text : List ℕ) (command : CommandType × Option (List ℕ)) : Type 0 where
  pub words : List (Bor (List ℕ))
  pub are_words : AreWordsWithin 40 41 text words
  pub two : length words ≡ 2
  pub is_type : IsType (text_at 0 words) command.0
  pub is_name : IsCommandName (text_at 1 words) command.1

-- the words in the brackets name this index, this type and this name
pub record IsCommandAt (text : List ℕ) (command : ℕ × CommandType × Option (List ℕ)) : Type 0 where
  pub words : List (Bor (List ℕ))
  pub are_words : AreWordsWithin 40 41 text words
  pub three : length words ≡ 3
  pub is_index : IsNumberOf 32 (text_at 0 words) command.0
  pub is_type : IsType (text_at 1 words) command.1
  pub is_name : IsCommandName (text_at 2 words) command.2

-- the command that an error relates to: `last`, `next(TYPE NAME)` or `at(N TYPE NAME)`
abbrev pub IsRelated : List ℕ → CommandRelationship → Type 0
IsRelated text relationship.Last = text ≡ codes "last"
IsRelated text (relationship.Next ty name) = (command : List ℕ)
    × (text_behind (codes "next") text ≡ Some command) × IsCommandText command (ty, name)
IsRelated text (relationship.Specific index ty name) = (command : List ℕ)
    × (text_behind (codes "at") text ≡ Some command) × IsCommandAt command (index, ty, name)

-- the names of an error's options
abbrev pub error_names : List (List ℕ)
error_names = codes "stack=" ∷ codes "behaviour=" ∷ codes "delay=" ∷ codes "rel=" ∷ []

-- the command that an error relates to, among options that are no others than an error's
abbrev pub IsRelatedAlone : List (Bor (List ℕ)) → Option CommandRelationship → Type 0
IsRelatedAlone options related = IsOptional IsRelated (texts_named (codes "rel=") options) related
    × (are_named error_names options ≡ true)

-- what the options of an error say of it
pub record AreDetails (words : List (Bor (List ℕ))) (error : Error) : Type 0 where
  pub stack : IsSet IsText [] (texts_named (codes "stack=") words) error.stacktrace
  pub behavior : IsSet IsBehavior behavior.Retry (texts_named (codes "behaviour=") words)
      error.behavior
  pub delay : IsOptional IsTime (texts_named (codes "delay=") words) error.next_retry_delay

-- the words begin with an error's code and text, and the options after them say the rest of it
pub record IsError (words : List (Bor (List ℕ))) (error : Error) : Type 0 where
  pub first : HasCodeAndText error.code error.message words
  pub details : AreDetails (drop 2 words) error
  pub by_itself : error.related_command ≡ None

-- the error that is reported, and the command that it relates to
pub record IsReport (words : List (Bor (List ℕ)))
    (report : Error × Option CommandRelationship) : Type 0 where
  pub error : IsError words report.0
  pub related : IsOptional IsRelated (texts_named (codes "rel=") (drop 2 words)) report.1
  pub only : are_named error_names (drop 2 words) ≡ true
