-- What a line of a script of rounds says: its first word names it, and its numbers are in their
-- places.
use Rattle.std.specs.Prelude.{◌≡◌, ◌≢◌, ◌⊎◌, ◌-◌, ◌^◌, ◌==◌, ◌&&◌, ℕ, Bool, true, false, List, [], length, nat_eq, codes}
use Rattle.std.specs.Borrow.{Bor}
use Rattle.std.specs.Cmp.Lexicographic.{pointwise}
use Rattle.std.specs.List.{starts_with}
use Rattle.std.specs.Str.{IsTrimAscii, IsUtf8}
use Rattle.lines.specs.Atoms.{IsAtom}
use Rattle.lines.specs.Pieces.{AreWords, outside, place}
use Rattle.frame_lines.specs.FrameLines.{Shows}
use Rattle.lines.specs.Text.{says_nothing}
use Rattle.line_parts.specs.Results.{IsProposal}
use Rattle.lines.specs.Words.{IsNumberOf, words_after_first, text_at}
use Rattle.world_rounds.specs.declared.types.Event.{Event}
use Rattle.world_rounds.specs.declared.types.Event.TheVariants as event
use Rattle.world_scripts.specs.declared.script_line.ScriptLine.{ScriptLine}
use Rattle.world_scripts.specs.declared.script_line.ScriptLine.TheVariants as line
use Rattle.world_scripts.specs.Rounds.{SaysRound}
use Rattle.world_scripts.specs.Worlds.{SaysWorld}

-- a number, or the greatest one where it is `all`
abbrev pub IsCount : List ℕ → ℕ → Type 0
IsCount text count = ((text ≡ codes "all") × (count ≡ 2 ^ 64 - 1)) ⊎ IsNumberOf 64 text count

-- one count, and no other word
abbrev pub IsOneCount : List (Bor (List ℕ)) → ℕ → Type 0
IsOneCount words count = (length words ≡ 1) × IsCount (text_at 0 words) count

-- how many steps: the number that is the only word, or 1 if there is no word
abbrev pub AreSteps : List (Bor (List ℕ)) → ℕ → Type 0
AreSteps words steps =
    ((words ≡ []) × (steps ≡ 1)) ⊎ ((length words ≡ 1) × IsNumberOf 64 (text_at 0 words) steps)

-- whether the words after `arrive` or `entry` are the rest of a stream, which is no frame
abbrev pub are_rest : List (Bor (List ℕ)) → Bool
are_rest words = pointwise nat_eq (text_at 0 words) (codes "rest")

-- whether they are bytes as they are: one word alone, which begins with `0x`
abbrev pub are_bytes : List (Bor (List ℕ)) → Bool
are_bytes words = length words == 1 && starts_with nat_eq (text_at 0 words) (codes "0x")

-- what arrives, or what an entry is: bytes as they are, or a frame, as the words show it
abbrev pub ShowsBytes : List (Bor (List ℕ)) → List ℕ → Type 0
ShowsBytes words bytes =
    (are_rest words ≡ false) × (are_bytes words ≡ true → IsAtom (text_at 0 words) bytes)
    × (are_bytes words ≡ false → Shows words bytes)

-- a line's first word and those after it say that this event happens
abbrev pub SaysEvent : List ℕ → List (Bor (List ℕ)) → Event → Type 0
SaysEvent word others (event.Piece n) = (word ≡ codes "piece") × IsOneCount others n
SaysEvent word others event.Close = (word ≡ codes "close") × (others ≡ [])
SaysEvent word others event.Step = ⊥
SaysEvent word others (event.Steps n) = (word ≡ codes "step") × AreSteps others n
SaysEvent word others (event.Arrive bytes) = (word ≡ codes "arrive") × ShowsBytes others bytes
SaysEvent word others (event.Store n) = (word ≡ codes "store") × IsOneCount others n
SaysEvent word others (event.RunResult handle result policy) = (word ≡ codes "run_result")
    × IsProposal others (record { handle = handle; result = result; policy = policy })

-- a line's first word and those after it say this
abbrev pub SaysBehind : List ℕ → List (Bor (List ℕ)) → ScriptLine → Type 0
SaysBehind word others line.Nothing = ⊥
SaysBehind word others (line.World given) = (word ≡ codes "world") × SaysWorld others given
SaysBehind word others (line.Entry bytes) = (word ≡ codes "entry") × ShowsBytes others bytes
SaysBehind word others (line.Round round) = (word ≡ codes "round") × SaysRound others round
SaysBehind word others (line.Event e) = SaysEvent word others e

-- the words of a line say this
abbrev pub SaysWords : List (Bor (List ℕ)) → ScriptLine → Type 0
SaysWords words said = SaysBehind (text_at 0 words) (words_after_first words) said

-- what a line without blanks at its ends says
abbrev pub IsScriptLine : List ℕ → ScriptLine → Type 0
IsScriptLine text line.Nothing = says_nothing text ≡ true
IsScriptLine text said = (says_nothing text ≡ false)
    × ((words : List (Bor (List ℕ))) × AreWords text words × SaysWords words said)

-- what a line says, which is UTF-8; blanks at its ends don't count
abbrev pub SaysLine : List ℕ → ScriptLine → Type 0
SaysLine text said =
    (trimmed : List ℕ) × IsTrimAscii text trimmed × IsUtf8 trimmed × IsScriptLine trimmed said

-- ---- lines without a meaning

-- words that say nothing
pub record SayNothing (words : List (Bor (List ℕ))) : Type 0 where
  pub nothing : (said : ScriptLine) → SaysWords words said → ⊥

-- why a line that isn't empty says nothing: it isn't UTF-8, its quotes or brackets aren't closed,
-- or its words say nothing
abbrev pub SaysNothing : List ℕ → Type 0
SaysNothing text = (IsUtf8 text → ⊥) ⊎ (place text ≢ outside)
    ⊎ ((words : List (Bor (List ℕ))) × AreWords text words × SayNothing words)

-- a line that says nothing; blanks at its ends don't count
abbrev pub IsUnread : List ℕ → Type 0
IsUnread text = (trimmed : List ℕ) × IsTrimAscii text trimmed × SaysNothing trimmed
