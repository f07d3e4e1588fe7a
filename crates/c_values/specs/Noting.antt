-- How far a stream is read, and which notifications came.
use Rattle.std.specs.Prelude.{◌≡◌, ◌⊎◌, ℕ, List, ◌++◌}
use Rattle.await_arrivals.specs.Came.{Came}
use Rattle.journal_protocol.specs.Frames.{Malformed, Partial, next_of}
use Rattle.journal_protocol.specs.RawMessage.{RawMessage}
use Rattle.journal_entries.specs.Frames.{frames_of}
use Rattle.c_values.specs.Waking.{only_came}
use Rattle.c_values.specs.Reading.{notes_among}

-- the first frames of a stream were read up to this rest, and their notifications came
pub record NotedUpTo (stream : List ℕ) (came : Came) (rest : List ℕ) : Type 0 where
  pub seen : List RawMessage
  pub noted : came ≡ only_came (notes_among seen)
  pub frames : frames_of stream ≡ (seen ++ (frames_of rest).0, (frames_of rest).1)

-- no more of a stream can be read: no whole frame of a known type stands at its front
abbrev pub HasNoMore : List ℕ → Type 0
HasNoMore rest = (next_of rest ≡ Partial) ⊎ (next_of rest ≡ Malformed)

-- all whole frames of a stream were read
pub record AllRead (stream : List ℕ) (came : Came) (rest : List ℕ) : Type 0 where
  pub read : NotedUpTo stream came rest
  pub ended : HasNoMore rest
