-- Words and lines that say nothing.
use Rattle.std.proofs.Common.{◌≡◌, ◌≢◌, ◌<◌, ◌∙◌, inl, inr, ℕ, true, false, List, [], ◌∷◌, length, get_or, ap, refl, subst, sym, arith, codes}
use Rattle.std.specs.Borrow.{Bor}
use Rattle.plain.specs.declared.fault.Fault.{Fault}
use Rattle.plain.specs.declared.fault.Fault.TheVariants.{Malformed}
use Rattle.lines.specs.Atoms.{IsAtom}
use Rattle.lines.specs.Pieces.{AreWords, outside, place}
use Rattle.lines.specs.Readings.{Blames}
use Rattle.frame_lines.specs.FrameLines.{Shows}
use Rattle.line_parts.specs.Results.{IsProposal}
use Rattle.lines.specs.Words.{IsNumberOf, words_after_first, text_at}
use Rattle.lines.proofs.Places.{word_at}
use Rattle.world_rounds.specs.declared.types.Event.{Event}
use Rattle.world_rounds.specs.declared.types.Event.TheVariants as event
use Rattle.world_scripts.specs.Rounds.{SaysRound}
use Rattle.world_scripts.specs.Said.{AreSteps, IsCount, IsOneCount, SayNothing, SaysBehind, SaysEvent, SaysNothing, SaysWords, ShowsBytes, are_bytes, are_rest}
use Rattle.world_scripts.specs.Worlds.{SaysWorld}
use Rattle.world_scripts.specs.declared.script_line.ScriptLine.{ScriptLine}
use Rattle.world_scripts.specs.declared.script_line.ScriptLine.TheVariants as line

-- ---- counts and steps

pub count_blamed : (text : List ℕ) (fault : Fault) → text ≢ codes "all" → Blames (IsNumberOf 64 text) fault → Blames (IsCount text) fault
count_blamed text fault other blames = record { nothing = λ bad count is. go bad count is }
  where
    go : fault ≡ Malformed → (count : ℕ) → IsCount text count → ⊥
    go bad count (inl (all, is)) = other all
    go bad count (inr is) = blames.nothing bad count is

pub one_count_blamed : (words : List (Bor (List ℕ))) (d : Bor (List ℕ)) (fault : Fault) → length words ≡ 1 → Blames (IsCount (get_or words 0 d).now) fault → Blames (IsOneCount words) fault
one_count_blamed words d fault one blames = record {
  nothing = λ bad count is. blames.nothing bad count (subst (λ t. IsCount t count) (sym (word_at words 0 d (omega arith))) is.1);
}

pub steps_blamed : (words : List (Bor (List ℕ))) (d : Bor (List ℕ)) (fault : Fault) → length words ≡ 1 → Blames (IsNumberOf 64 (get_or words 0 d).now) fault → Blames (AreSteps words) fault
steps_blamed words d fault one blames = record { nothing = λ bad steps is. go bad steps is }
  where
    go : fault ≡ Malformed → (steps : ℕ) → AreSteps words steps → ⊥
    go bad steps (inl (none, is)) = let long = ap length none in absurd (omega arith)
    go bad steps (inr (one', is)) = blames.nothing bad steps (subst (λ t. IsNumberOf 64 t steps) (sym (word_at words 0 d (omega arith))) is)

pub many_steps_blamed : (words : List (Bor (List ℕ))) (fault : Fault) → length words ≢ 0 → length words ≢ 1 → Blames (AreSteps words) fault
many_steps_blamed words fault some more = record { nothing = λ bad steps is. go steps is }
  where
    go : (steps : ℕ) → AreSteps words steps → ⊥
    go steps (inl (none, is)) = some (ap length none)
    go steps (inr (one, is)) = more one

-- ---- arrivals and entries

pub rest_blamed : (words : List (Bor (List ℕ))) (fault : Fault) → are_rest words ≡ true → Blames (ShowsBytes words) fault
rest_blamed words fault rest = record { nothing = λ bad bytes is. absurd (cc (sym rest ∙ is.0)) }

pub bytes_blamed : (words : List (Bor (List ℕ))) (fault : Fault) → are_bytes words ≡ true → Blames (IsAtom (text_at 0 words)) fault → Blames (ShowsBytes words) fault
bytes_blamed words fault are blames = record { nothing = λ bad bytes is. blames.nothing bad bytes (is.1 are) }

pub frame_blamed : (words : List (Bor (List ℕ))) (fault : Fault) → are_bytes words ≡ false → Blames (Shows words) fault → Blames (ShowsBytes words) fault
frame_blamed words fault other blames = record { nothing = λ bad bytes is. blames.nothing bad bytes (is.2 other) }

-- ---- what happens

-- a word is one word
apart : (i : ℕ) (word first second : List ℕ) → get_or first i 0 ≢ get_or second i 0 → word ≡ first → word ≡ second → ⊥
apart i word first second other e f = other (ap (λ t. get_or t i 0) (sym e ∙ f))

pub piece_row : (word : List ℕ) (others : List (Bor (List ℕ))) (fault : Fault) → word ≡ codes "piece" → Blames (IsOneCount others) fault → Blames (SaysEvent word others) fault
piece_row word others fault e blames = record { nothing = λ bad happens is. go bad happens is }
  where
    go : fault ≡ Malformed → (happens : Event) → SaysEvent word others happens → ⊥
    go bad (event.Piece n) is = blames.nothing bad n is.1
    go bad event.Close is = apart 0 word (codes "piece") (codes "close") (omega arith) e is.0
    go bad event.Step is = is
    go bad (event.Steps n) is = apart 0 word (codes "piece") (codes "step") (omega arith) e is.0
    go bad (event.Arrive bytes) is = apart 0 word (codes "piece") (codes "arrive") (omega arith) e is.0
    go bad (event.Store n) is = apart 0 word (codes "piece") (codes "store") (omega arith) e is.0
    go bad (event.RunResult handle result policy) is = apart 0 word (codes "piece") (codes "run_result") (omega arith) e is.0

pub step_row : (word : List ℕ) (others : List (Bor (List ℕ))) (fault : Fault) → word ≡ codes "step" → Blames (AreSteps others) fault → Blames (SaysEvent word others) fault
step_row word others fault e blames = record { nothing = λ bad happens is. go bad happens is }
  where
    go : fault ≡ Malformed → (happens : Event) → SaysEvent word others happens → ⊥
    go bad (event.Piece n) is = apart 0 word (codes "step") (codes "piece") (omega arith) e is.0
    go bad event.Close is = apart 0 word (codes "step") (codes "close") (omega arith) e is.0
    go bad event.Step is = is
    go bad (event.Steps n) is = blames.nothing bad n is.1
    go bad (event.Arrive bytes) is = apart 0 word (codes "step") (codes "arrive") (omega arith) e is.0
    go bad (event.Store n) is = apart 2 word (codes "step") (codes "store") (omega arith) e is.0
    go bad (event.RunResult handle result policy) is = apart 0 word (codes "step") (codes "run_result") (omega arith) e is.0

pub store_row : (word : List ℕ) (others : List (Bor (List ℕ))) (fault : Fault) → word ≡ codes "store" → Blames (IsOneCount others) fault → Blames (SaysEvent word others) fault
store_row word others fault e blames = record { nothing = λ bad happens is. go bad happens is }
  where
    go : fault ≡ Malformed → (happens : Event) → SaysEvent word others happens → ⊥
    go bad (event.Piece n) is = apart 0 word (codes "store") (codes "piece") (omega arith) e is.0
    go bad event.Close is = apart 0 word (codes "store") (codes "close") (omega arith) e is.0
    go bad event.Step is = is
    go bad (event.Steps n) is = apart 2 word (codes "store") (codes "step") (omega arith) e is.0
    go bad (event.Arrive bytes) is = apart 0 word (codes "store") (codes "arrive") (omega arith) e is.0
    go bad (event.Store n) is = blames.nothing bad n is.1
    go bad (event.RunResult handle result policy) is = apart 0 word (codes "store") (codes "run_result") (omega arith) e is.0

pub arrive_row : (word : List ℕ) (others : List (Bor (List ℕ))) (fault : Fault) → word ≡ codes "arrive" → Blames (ShowsBytes others) fault → Blames (SaysEvent word others) fault
arrive_row word others fault e blames = record { nothing = λ bad happens is. go bad happens is }
  where
    go : fault ≡ Malformed → (happens : Event) → SaysEvent word others happens → ⊥
    go bad (event.Piece n) is = apart 0 word (codes "arrive") (codes "piece") (omega arith) e is.0
    go bad event.Close is = apart 0 word (codes "arrive") (codes "close") (omega arith) e is.0
    go bad event.Step is = is
    go bad (event.Steps n) is = apart 0 word (codes "arrive") (codes "step") (omega arith) e is.0
    go bad (event.Arrive bytes) is = blames.nothing bad bytes is.1
    go bad (event.Store n) is = apart 0 word (codes "arrive") (codes "store") (omega arith) e is.0
    go bad (event.RunResult handle result policy) is = apart 0 word (codes "arrive") (codes "run_result") (omega arith) e is.0

-- the words after `close` and `run_result`
pub close_row : (word : List ℕ) (others : List (Bor (List ℕ))) (fault : Fault) → word ≡ codes "close" → Blames (SaysEvent (codes "close") others) fault → Blames (SaysEvent word others) fault
close_row word others fault e blames = subst (λ w. Blames (SaysEvent w others) fault) (sym e) blames

pub run_result_row : (word : List ℕ) (others : List (Bor (List ℕ))) (fault : Fault) → word ≡ codes "run_result" → Blames (SaysEvent (codes "run_result") others) fault → Blames (SaysEvent word others) fault
run_result_row word others fault e blames = subst (λ w. Blames (SaysEvent w others) fault) (sym e) blames

pub close_blamed : (words : List (Bor (List ℕ))) (fault : Fault) → length words ≢ 0 → Blames (SaysEvent (codes "close") words) fault
close_blamed words fault some = record { nothing = λ bad happens is. go bad happens is }
  where
    go : fault ≡ Malformed → (happens : Event) → SaysEvent (codes "close") words happens → ⊥
    go bad (event.Piece n) is = apart 0 (codes "close") (codes "close") (codes "piece") (omega arith) refl is.0
    go bad event.Close is = some (ap length is.1)
    go bad event.Step is = is
    go bad (event.Steps n) is = apart 0 (codes "close") (codes "close") (codes "step") (omega arith) refl is.0
    go bad (event.Arrive bytes) is = apart 0 (codes "close") (codes "close") (codes "arrive") (omega arith) refl is.0
    go bad (event.Store n) is = apart 0 (codes "close") (codes "close") (codes "store") (omega arith) refl is.0
    go bad (event.RunResult handle result policy) is = apart 0 (codes "close") (codes "close") (codes "run_result") (omega arith) refl is.0

pub proposal_blamed : (words : List (Bor (List ℕ))) (fault : Fault) → Blames (IsProposal words) fault → Blames (SaysEvent (codes "run_result") words) fault
proposal_blamed words fault blames = record { nothing = λ bad happens is. go bad happens is }
  where
    go : fault ≡ Malformed → (happens : Event) → SaysEvent (codes "run_result") words happens → ⊥
    go bad (event.Piece n) is = apart 0 (codes "run_result") (codes "run_result") (codes "piece") (omega arith) refl is.0
    go bad event.Close is = apart 0 (codes "run_result") (codes "run_result") (codes "close") (omega arith) refl is.0
    go bad event.Step is = is
    go bad (event.Steps n) is = apart 0 (codes "run_result") (codes "run_result") (codes "step") (omega arith) refl is.0
    go bad (event.Arrive bytes) is = apart 0 (codes "run_result") (codes "run_result") (codes "arrive") (omega arith) refl is.0
    go bad (event.Store n) is = apart 0 (codes "run_result") (codes "run_result") (codes "store") (omega arith) refl is.0
    go bad (event.RunResult handle result policy) is = blames.nothing bad (record { handle = handle; result = result; policy = policy }) is.1

-- a word that names no event
pub no_row : (word : List ℕ) (others : List (Bor (List ℕ))) (fault : Fault) → word ≢ codes "piece" → word ≢ codes "close" → word ≢ codes "step" → word ≢ codes "arrive" → word ≢ codes "store" → word ≢ codes "run_result" → Blames (SaysEvent word others) fault
no_row word others fault piece close step arrive store told = record { nothing = λ bad happens is. go happens is }
  where
    go : (happens : Event) → SaysEvent word others happens → ⊥
    go (event.Piece n) is = piece is.0
    go event.Close is = close is.0
    go event.Step is = is
    go (event.Steps n) is = step is.0
    go (event.Arrive bytes) is = arrive is.0
    go (event.Store n) is = store is.0
    go (event.RunResult handle result policy) is = told is.0

-- ---- rows

pub event_row : (word : List ℕ) (others : List (Bor (List ℕ))) (fault : Fault) → word ≢ codes "world" → word ≢ codes "entry" → word ≢ codes "round" → Blames (SaysEvent word others) fault → Blames (SaysBehind word others) fault
event_row word others fault world entry round blames = record { nothing = λ bad said is. go bad said is }
  where
    go : fault ≡ Malformed → (said : ScriptLine) → SaysBehind word others said → ⊥
    go bad line.Nothing is = is
    go bad (line.World given) is = world is.0
    go bad (line.Entry bytes) is = entry is.0
    go bad (line.Round opened) is = round is.0
    go bad (line.Event happens) is = blames.nothing bad happens is

pub world_row : (word : List ℕ) (others : List (Bor (List ℕ))) (fault : Fault) → word ≡ codes "world" → Blames (SaysWorld others) fault → Blames (SaysBehind word others) fault
world_row word others fault e blames = record { nothing = λ bad said is. go bad said is }
  where
    go : fault ≡ Malformed → (said : ScriptLine) → SaysBehind word others said → ⊥
    go bad line.Nothing is = is
    go bad (line.World given) is = blames.nothing bad given is.1
    go bad (line.Entry bytes) is = apart 0 word (codes "world") (codes "entry") (omega arith) e is.0
    go bad (line.Round opened) is = apart 0 word (codes "world") (codes "round") (omega arith) e is.0
    go bad (line.Event happens) is = (no_row word others Malformed (apart 0 word (codes "world") (codes "piece") (omega arith) e) (apart 0 word (codes "world") (codes "close") (omega arith) e) (apart 0 word (codes "world") (codes "step") (omega arith) e) (apart 0 word (codes "world") (codes "arrive") (omega arith) e) (apart 0 word (codes "world") (codes "store") (omega arith) e) (apart 0 word (codes "world") (codes "run_result") (omega arith) e)).nothing refl happens is

pub entry_row : (word : List ℕ) (others : List (Bor (List ℕ))) (fault : Fault) → word ≡ codes "entry" → Blames (ShowsBytes others) fault → Blames (SaysBehind word others) fault
entry_row word others fault e blames = record { nothing = λ bad said is. go bad said is }
  where
    go : fault ≡ Malformed → (said : ScriptLine) → SaysBehind word others said → ⊥
    go bad line.Nothing is = is
    go bad (line.World given) is = apart 0 word (codes "entry") (codes "world") (omega arith) e is.0
    go bad (line.Entry bytes) is = blames.nothing bad bytes is.1
    go bad (line.Round opened) is = apart 0 word (codes "entry") (codes "round") (omega arith) e is.0
    go bad (line.Event happens) is = (no_row word others Malformed (apart 0 word (codes "entry") (codes "piece") (omega arith) e) (apart 0 word (codes "entry") (codes "close") (omega arith) e) (apart 0 word (codes "entry") (codes "step") (omega arith) e) (apart 0 word (codes "entry") (codes "arrive") (omega arith) e) (apart 0 word (codes "entry") (codes "store") (omega arith) e) (apart 0 word (codes "entry") (codes "run_result") (omega arith) e)).nothing refl happens is

pub round_row : (word : List ℕ) (others : List (Bor (List ℕ))) (fault : Fault) → word ≡ codes "round" → Blames (SaysRound others) fault → Blames (SaysBehind word others) fault
round_row word others fault e blames = record { nothing = λ bad said is. go bad said is }
  where
    go : fault ≡ Malformed → (said : ScriptLine) → SaysBehind word others said → ⊥
    go bad line.Nothing is = is
    go bad (line.World given) is = apart 0 word (codes "round") (codes "world") (omega arith) e is.0
    go bad (line.Entry bytes) is = apart 0 word (codes "round") (codes "entry") (omega arith) e is.0
    go bad (line.Round opened) is = blames.nothing bad opened is.1
    go bad (line.Event happens) is = (no_row word others Malformed (apart 0 word (codes "round") (codes "piece") (omega arith) e) (apart 0 word (codes "round") (codes "close") (omega arith) e) (apart 0 word (codes "round") (codes "step") (omega arith) e) (apart 0 word (codes "round") (codes "arrive") (omega arith) e) (apart 0 word (codes "round") (codes "store") (omega arith) e) (apart 1 word (codes "round") (codes "run_result") (omega arith) e)).nothing refl happens is

-- ---- lines

-- no word
pub no_words : (words : List (Bor (List ℕ))) → length words < 1 → SayNothing words
no_words [] h = record { nothing = go }
  where
    differs : (name : List ℕ) → get_or name 0 0 ≢ 0 → [] ≡ name → ⊥
    differs name some e = some (ap (λ t. get_or t 0 0) (sym e))

    go : (said : ScriptLine) → SaysWords [] said → ⊥
    go line.Nothing is = is
    go (line.World given) is = differs (codes "world") (omega arith) is.0
    go (line.Entry bytes) is = differs (codes "entry") (omega arith) is.0
    go (line.Round opened) is = differs (codes "round") (omega arith) is.0
    go (line.Event happens) is = (no_row [] [] Malformed (differs (codes "piece") (omega arith)) (differs (codes "close") (omega arith)) (differs (codes "step") (omega arith)) (differs (codes "arrive") (omega arith)) (differs (codes "store") (omega arith)) (differs (codes "run_result") (omega arith))).nothing refl happens is
no_words (w ∷ words) h = absurd (omega arith)

pub words_say_nothing : (words others : List (Bor (List ℕ))) (d : Bor (List ℕ)) (fault : Fault) → 0 < length words → others ≡ words_after_first words → Blames (SaysBehind (get_or words 0 d).now others) fault → fault ≡ Malformed
    → SayNothing words
words_say_nothing words others d fault some e blames bad = record { nothing = go }
  where
    same : (get_or words 0 d).now ≡ text_at 0 words
    same = word_at words 0 d some

    go : (said : ScriptLine) → SaysWords words said → ⊥
    go said is =
        blames.nothing bad said (subst (λ w. SaysBehind w others said) (sym same) (subst (λ ws. SaysBehind (text_at 0 words) ws said) (sym e) is))

pub unclosed_says_nothing : (text : List ℕ) → place text ≢ outside → SaysNothing text
unclosed_says_nothing text unclosed = inr (inl unclosed)

pub line_says_nothing : (text : List ℕ) (words : List (Bor (List ℕ))) → AreWords text words → SayNothing words → SaysNothing text
line_says_nothing text words are none = inr (inr (words, are, none))
