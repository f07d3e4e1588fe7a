-- Frames that are written.
use Rattle.std.specs.Prelude.{◌≡◌, ℕ, zero, suc, ◌-◌, ◌^◌, List, [], ◌∷◌, length, map, min, take, drop}
use Rattle.std.specs.List.{concat, flat_map, AllByRecursion}
use Rattle.journal_protocol.specs.Message.{Message}
use Rattle.journal_protocol.specs.Frames.{encoding, frame_size, IsWhole}

-- these are the frames of messages, each of which can be read back
pub record WholeFrames (frames : List (List ℕ)) : Type 0 where
  pub messages : List Message
  pub are : frames ≡ map encoding messages
  pub each : AllByRecursion IsWhole messages

-- these bytes are such frames, one after another
pub record WholeStream (bytes : List ℕ) : Type 0 where
  pub messages : List Message
  pub are : bytes ≡ flat_map encoding messages
  pub each : AllByRecursion IsWhole messages

-- how many bytes some pieces have, as far as a usize goes
abbrev pub len_of : List (List ℕ) → ℕ
len_of pieces = min (length (concat pieces)) (2 ^ 64 - 1)

-- the first n frames of some bytes, or all if there are fewer
abbrev pub first_frames : ℕ → List ℕ → List (List ℕ)
first_frames zero bytes = []
first_frames (suc n) [] = []
first_frames (suc n) (b ∷ bs) = let bytes = b ∷ bs in take (frame_size bytes) bytes
    ∷ first_frames n (drop (frame_size bytes) bytes)

-- the frames that some bytes are, one after another
unfoldable pub frames_in : List ℕ → List (List ℕ)
frames_in bytes = first_frames (length bytes) bytes
