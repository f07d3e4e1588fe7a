-- What is fixed of the text of a report's parts.
use Rattle.std.specs.Prelude.{ℕ, zero, suc, Bool, true, false, List, [], ◌∷◌, ◌++◌, codes, Option, Some, None}
use Rattle.std.specs.Fmt.{decimal}
use Rattle.lines.specs.Atoms.{quoted}
use Rattle.journal_protocol.specs.NotificationResult.{NotificationResult}
use Rattle.journal_protocol.specs.Signal.{Signal}
use Rattle.journal_protocol.specs.ValueOrFailure.{ValueOrFailure}
use Rattle.frame_values.specs.Choices.{notification_result_notation, signal_notation, value_or_failure_notation}
use Rattle.call_lines.specs.declared.plan.Plan.{Plan}
use Rattle.engine_inboxes.specs.declared.order.Begun.{Begun}
use Rattle.engine_inboxes.specs.declared.order.Callee.{Callee}
use Rattle.engine_inboxes.specs.declared.target.Target.{Target}
use Rattle.engine_inboxes.specs.declared.types.Waiting.{Waiting}
use Rattle.engine_inboxes.specs.declared.types.Waiting.TheVariants as waiting
use Rattle.engine_lines.specs.declared.did.Did.{Did}
use Rattle.engine_lines.specs.declared.did.Did.TheVariants as did

-- a word and a number
abbrev pub word_and_count : List ℕ → ℕ → List ℕ
word_and_count word count = word ++ decimal count

-- a word and a text in quotes
abbrev pub named_text : List ℕ → List ℕ → List ℕ
named_text word text = word ++ quoted text

-- ---- events

-- the line of an event, if it did nothing or asked for an invocation
abbrev pub did_text : ℕ → Did → List ℕ
did_text line did.Something = []
did_text line did.Nothing = word_and_count (codes "line ") line ++ codes " nothing\n"
did_text line (did.Asked place) =
    word_and_count (codes "line ") line ++ word_and_count (codes " invocation ") place ++ codes "\n"

-- ---- an invocation

-- its handler's names
abbrev pub target_names : Option (Target Plan) → List ℕ
target_names None = []
target_names (Some target) =
    named_text (codes " ") target.service ++ named_text (codes " ") target.handler

-- its idempotency key, if it has one
abbrev pub asked_text : Option (List ℕ) → List ℕ
asked_text None = []
asked_text (Some key) = named_text (codes " idem=") key

-- its key, if it has one
abbrev pub key_text : List ℕ → List ℕ
key_text [] = []
key_text (k ∷ key) = named_text (codes " key=") (k ∷ key)

-- when it begins, if it has a time
abbrev pub time_text : ℕ → List ℕ
time_text zero = []
time_text (suc t) = word_and_count (codes " at=") (suc t)

-- by which command it was begun, if one did
abbrev pub begun_text : Option Begun → List ℕ
begun_text None = []
begun_text (Some begun) = word_and_count (codes "  begun ") begun.by
    ++ word_and_count (codes " ") begun.call ++ codes "\n"

abbrev pub place_text : Option ℕ → List ℕ
place_text None = codes " -"
place_text (Some place) = word_and_count (codes " ") place

-- which invocation a call has begun
abbrev pub callee_text : Callee → List ℕ
callee_text callee =
    word_and_count (codes "  calls ") callee.call ++ place_text callee.place ++ codes "\n"

-- a completion that waits for the clock, and when it is due
abbrev pub due_text : ℕ → ℕ → List ℕ
due_text completes due =
    word_and_count (codes "  waits clock ") completes ++ word_and_count (codes " at ") due

-- a signal that has come, and what it brings
abbrev pub brought_text : Signal → NotificationResult → List ℕ
brought_text signal brings =
    codes "  waits signal " ++ signal_notation.text signal ++ codes " "
    ++ notification_result_notation.text brings

-- what waits, without the end of its line
abbrev pub wait_text : Waiting → List ℕ
wait_text (waiting.Id id) = word_and_count (codes "  waits id ") id
wait_text (waiting.Outcome completes call) =
    word_and_count (codes "  waits result ") completes ++ word_and_count (codes " of ") call
wait_text (waiting.Clock timer) = due_text timer.completes timer.due
wait_text (waiting.Signal signal brings) = brought_text signal brings

-- what waits
abbrev pub waiting_text : Waiting → List ℕ
waiting_text it = wait_text it ++ codes "\n"

-- that an attempt lives
abbrev pub live_text : Bool → List ℕ
live_text true = codes "  live\n"
live_text false = []

-- its result, once it has ended
abbrev pub result_text : Option ValueOrFailure → List ℕ
result_text None = []
result_text (Some ends) =
    codes "  result " ++ value_or_failure_notation.text ends ++ codes "\n"
