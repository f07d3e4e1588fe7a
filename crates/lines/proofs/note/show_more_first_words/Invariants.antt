use Rattle.std.proofs.Common.{◌≡◌, ◌++◌, take}
use Rattle.lines.specs.Notes.{more_first_words}
use Rattle.lines.proofs.note.show_more_first_words.Given as goal

abbrev pub invariant-loop-form : goal.invariant-loop-form
invariant-loop-form l = l.line ≡ l.initial.line ++ more_first_words (take l.form-index l.forms)
