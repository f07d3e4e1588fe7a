-- The note on a line, from its hint.
use Rattle.std.proofs.Common.{◌≡◌, ℕ, List, Some}
use Rattle.std.specs.Borrow.{Bor}
use Rattle.lines.specs.declared.hint.Hint.{Hint}
use Rattle.lines.specs.Hints.{IsHint}
use Rattle.lines.specs.Notes.{IsNote, note_text}

pub noted : (Holds : List (Bor (List ℕ)) → Hint → Type 0) (number : ℕ) (line note : List ℕ) (hint : Hint) → IsHint Holds line (Some hint) → note ≡ note_text number hint → IsNote Holds number line note
noted Holds number line note hint is_hint is = record { hint = hint; is_hint = is_hint; is = is }
