-- The line of a frame.
use Rattle.std.specs.Prelude.{◌≡◌, ◌⊎◌, ℕ, List, ◌++◌, Option, Some, None, codes}
use Rattle.std.specs.Fmt.{decimal}
use Rattle.journal_protocol.specs.Frames.{Malformed, Partial, next_of}
use Rattle.journal_protocol.specs.Types.{type_number}
use Rattle.journal_protocol.specs.Bodies.{message_in}
use Rattle.journal_protocol.specs.Message.{Message}
use Rattle.journal_protocol.specs.RawMessage.{RawMessage}
use Rattle.lines.specs.Atoms.{hexed}
use Rattle.frame_lines.specs.Messages.{message_text}

-- a frame as it is: `raw`, the number of its type and its body
abbrev pub raw_text : RawMessage → List ℕ
raw_text raw = codes "raw " ++ decimal (type_number raw.ty) ++ codes " " ++ hexed raw.body

-- the message of a frame; the frame as it is where its body is no message's
abbrev pub text_as : RawMessage → Option Message → List ℕ
text_as raw (Some message) = message_text message
text_as raw None = raw_text raw

abbrev pub frame_text : RawMessage → List ℕ
frame_text raw = text_as raw (message_in raw.ty raw.body)

-- bytes that are no whole frame
abbrev pub rest_text : List ℕ → List ℕ
rest_text rest = codes "rest " ++ hexed rest

-- no whole frame of a known type stands at the front
abbrev pub HasNoFrame : List ℕ → Type 0
HasNoFrame stream = (next_of stream ≡ Partial) ⊎ (next_of stream ≡ Malformed)
