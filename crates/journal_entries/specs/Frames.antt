-- The frames of a run of bytes.
use Rattle.std.specs.Prelude.{ℕ, zero, suc, List, [], ◌∷◌, ◌++◌, length}
use Rattle.journal_protocol.specs.RawMessage.{RawMessage}
use Rattle.journal_protocol.specs.Frames.{NextFrame, Whole, Partial, Malformed, next_of}

-- what follows the last whole frame: the beginning of one, or bytes that no frame begins with
pub data Tail : Type 0 where
  Rest : List ℕ → Tail
  Garbage : Tail

-- a first frame and those after it
abbrev pub frames_from : NextFrame → (List ℕ → List RawMessage × Tail) → List ℕ → List RawMessage
    × Tail
frames_from (Whole raw rest) others bytes = (raw ∷ (others rest).0, (others rest).1)
frames_from Partial others bytes = ([], Rest bytes)
frames_from Malformed others bytes = ([], Garbage)

-- at most n frames, and what follows them
abbrev pub frames_by : ℕ → List ℕ → List RawMessage × Tail
frames_by zero bytes = ([], Rest bytes)
frames_by (suc n) bytes = frames_from (next_of bytes) (λ rest. frames_by n rest) bytes

-- the whole frames, and what follows them
unfoldable pub frames_of : List ℕ → List RawMessage × Tail
frames_of bytes = frames_by (length bytes) bytes

-- frames of bytes, and of the bytes that follow
abbrev pub frames_joined : List RawMessage × Tail → List ℕ → List RawMessage × Tail
frames_joined (frames, Rest bytes) more = (
  frames
      ++ (frames_of (bytes ++ more)).0,
  (frames_of (bytes ++ more)).1,
)
frames_joined (frames, Garbage) more = (frames, Garbage)
