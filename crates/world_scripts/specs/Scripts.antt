-- What a whole script says: its lines, read one after another, make a world and rounds.
use Rattle.std.specs.Prelude.{◌≡◌, ◌⊎◌, ◌+◌, ℕ, List, [], ◌∷◌, ◌++◌, Option, Some, None, length}
use Rattle.lines.specs.Text.{AreFirstLines, IsFirstLine}
use Rattle.world_rounds.specs.declared.types.Event.{Event}
use Rattle.world_rounds.specs.declared.types.Round.{Round}
use Rattle.world_scripts.specs.declared.given.Given.{Given}
use Rattle.world_scripts.specs.declared.script.Script.{Script}
use Rattle.world_scripts.specs.declared.script.Unread.{Unread}
use Rattle.world_scripts.specs.declared.script.Unread.TheVariants as unread
use Rattle.world_scripts.specs.declared.script.SoFar.{SoFar}
use Rattle.world_scripts.specs.declared.script_line.ScriptLine.{ScriptLine}
use Rattle.world_scripts.specs.declared.script_line.ScriptLine.TheVariants as line
use Rattle.world_scripts.specs.Said.{IsUnread, SaysLine}
use Rattle.world_scripts.specs.Worlds.{IsDefault}

-- what lines have said so far: what the world is made of, if one did, the entries of its journal,
-- the rounds but the last, and the last
pub record Parts : Type 0 where
  pub given : Option Given
  pub entries : List (List ℕ)
  pub rounds : List Round
  pub last : Option Round

-- what the fields say
abbrev pub said_parts : SoFar → Parts
said_parts so_far = record {
  given = so_far.given;
  entries = so_far.entries.items;
  rounds = so_far.rounds.items;
  last = so_far.round;
}

-- nothing yet
abbrev pub no_parts : Parts
no_parts = record { given = None; entries = []; rounds = []; last = None }

-- the rounds, the last one too
abbrev pub with_last : List Round → Option Round → List Round
with_last rounds None = rounds
with_last rounds (Some round) = rounds ++ round ∷ []

-- this happens next in a round
abbrev pub then_happens : Event → Round → Round
then_happens e round = record {
  partial = round.partial;
  keys = round.keys;
  retry_count = round.retry_count;
  duration = round.duration;
  events = round.events ++ e ∷ [];
}

-- this happens next in the last round, if there is one
abbrev pub HappensIn : Option Round → Event → Option Round → Type 0
HappensIn None e after = ⊥
HappensIn (Some round) e after = after ≡ Some (then_happens e round)

-- there is a last round, and this happens next in it
pub record AddsEvent (e : Event) (before after : Parts) : Type 0 where
  pub given : after.given ≡ before.given
  pub entries : after.entries ≡ before.entries
  pub rounds : after.rounds ≡ before.rounds
  pub last : HappensIn before.last e after.last

-- A line more. The world stands before the entries and the rounds, once, and each entry before the
-- rounds.
abbrev pub Adds : ScriptLine → Parts → Parts → Type 0
Adds line.Nothing before after = after ≡ before
Adds (line.World given) before after = (before.given ≡ None) × (before.entries ≡ [])
    × (before.last ≡ None)
    × (after ≡ record { given = Some given; entries = []; rounds = before.rounds; last = None })
Adds (line.Entry bytes) before after = (before.last ≡ None)
    × (after ≡ record {
      given = before.given;
      entries = before.entries ++ bytes ∷ [];
      rounds = before.rounds;
      last = None;
    })
Adds (line.Round round) before after = after
    ≡ record {
      given = before.given;
      entries = before.entries;
      rounds = with_last before.rounds before.last;
      last = Some round;
    }
Adds (line.Event e) before after = AddsEvent e before after

-- what a line says more
abbrev pub AddsLine : List ℕ → Parts → Parts → Type 0
AddsLine text before after = (said : ScriptLine) × SaysLine text said × Adds said before after

-- these lines more
abbrev pub AreAdded : List (List ℕ) → Parts → Parts → Type 0
AreAdded [] before after = after ≡ before
AreAdded (text ∷ texts) before after = (next : Parts) × AddsLine text before next
    × AreAdded texts next after

-- the lines of this text more
pub record AreLinesAdded (text : List ℕ) (before after : Parts) : Type 0 where
  pub lines : List (List ℕ)
  pub are_lines : AreFirstLines lines text []
  pub are_added : AreAdded lines before after

-- what the world is made of: as it is said, or by default
abbrev pub IsWorldGiven : Option Given → Given → Type 0
IsWorldGiven None given = IsDefault given
IsWorldGiven (Some said) given = given ≡ said

-- the script has what the lines have said
pub record Has (parts : Parts) (script : Script) : Type 0 where
  pub given : IsWorldGiven parts.given script.given
  pub entries : script.entries.items ≡ parts.entries
  pub rounds : script.rounds.items ≡ with_last parts.rounds parts.last

-- what a whole text says
pub record IsScriptRead (text : List ℕ) (script : Script) : Type 0 where
  pub parts : Parts
  pub added : AreLinesAdded text no_parts parts
  pub has : Has parts script

-- ---- scripts that aren't read

-- what a line says has no place after what the lines before it have said
pub record HasNoPlace (said : ScriptLine) (before : Parts) : Type 0 where
  pub nothing : (after : Parts) → Adds said before after → ⊥

-- a line without a meaning: it says nothing, or what it says has no place after what the lines
-- before it have said
abbrev pub AddsNothing : List ℕ → Parts → Type 0
AddsNothing text before =
    IsUnread text ⊎ ((said : ScriptLine) × SaysLine text said × HasNoPlace said before)

-- The line of this number, counted from 1, is the first without a meaning: each line before it has
-- one.
pub record StopsAt (text : List ℕ) (before : Parts) (number : ℕ) : Type 0 where
  pub lines : List (List ℕ)
  pub rest : List ℕ
  pub begins : AreFirstLines lines text rest
  pub so_far : Parts
  pub are_added : AreAdded lines before so_far
  pub counted : number ≡ length lines + 1
  pub line : List ℕ
  pub others : List ℕ
  pub first : IsFirstLine rest line others
  pub nothing : AddsNothing line so_far

-- why a text isn't read: a line has no meaning, or there is no memory
abbrev pub IsUnreadFor : List ℕ → Parts → Unread → Type 0
IsUnreadFor text before unread.Memory = Unit {0}
IsUnreadFor text before (unread.Line number) = StopsAt text before number
