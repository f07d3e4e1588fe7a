use Rattle.std.proofs.Common.{◌≡◌, drop}
use Rattle.lines.specs.Hints.{unknown_name}
use Rattle.lines.proofs.hint.unknown_name.Given as goal

abbrev pub invariant-loop-word : goal.invariant-loop-word
invariant-loop-word l = unknown_name l.form_words (drop l.word-index l.words) ≡ unknown_name l.form_words l.words
