-- What an attempt has received: the pieces of its input, and the results of runs that were reported
-- to it and that it has proposed.
use Rattle.std.specs.Prelude.{◌++◌, cond, if◌then◌else◌, List, [], ◌∷◌, ℕ, Option, Some, None}
use Rattle.journal_protocol.specs.ProposeRunCompletion.{ProposeRunCompletion}
use Rattle.journal_protocol.specs.Version.{Version}
use Rattle.journal_protocol.specs.RawMessage.{RawMessage}
use Rattle.journal_protocol.specs.Bodies.{proposal_in}
use Rattle.journal_protocol.specs.Versions.{is_from_v7}
use Rattle.journal_entries.specs.Frames.{frames_of}
use Rattle.journal_entries.specs.JournalFrames.{is_proposal}
use Rattle.vm_attempt.specs.declared.progress.Fed.{Fed}

-- ---- proposals

-- with the proposal that was read, as it is kept, if there was one
abbrev pub proposed_by : Option ProposeRunCompletion → List ProposeRunCompletion
    → List ProposeRunCompletion
proposed_by None kept = kept
proposed_by (Some p) kept = p ∷ kept

-- the proposals among some frames, in order
abbrev pub proposals_among : List RawMessage → List ProposeRunCompletion
proposals_among [] = []
proposals_among (raw ∷ raws) = cond (is_proposal raw)
    (proposed_by (proposal_in raw.body) (proposals_among raws)) (proposals_among raws)

-- the proposals among the frames that bytes are
abbrev pub proposals_in : List ℕ → List ProposeRunCompletion
proposals_in bytes = proposals_among (frames_of bytes).0

-- ---- what was received

pub record Heard : Type 0 where
  -- the pieces, in the order in which they came
  pub pieces : List Fed
  -- the proposals that can be acknowledged, in order
  pub proposed : List ProposeRunCompletion

-- these pieces, and the same proposals
abbrev pub with_pieces : List Fed → Heard → Heard
with_pieces pieces heard = record { pieces = pieces; proposed = heard.proposed }

-- one piece more
abbrev pub and_piece : Heard → Fed → Heard
and_piece heard f = with_pieces (heard.pieces ++ f ∷ []) heard

-- from version 7 on proposals are acknowledged
abbrev pub acknowledged_from : Version → List ProposeRunCompletion → List ProposeRunCompletion
acknowledged_from version proposed = if is_from_v7 version then proposed else []
