use Rattle.std.proofs.Common.{◌≡◌, ◌++◌, drop, take}
use Rattle.frame_values.specs.declared.words.Within.TheVariants.{Nothing}
use Rattle.frame_values.specs.FutureWords.{after_word, first_word}
use Rattle.frame_values.proofs.words.first_word.Given as goal

abbrev pub invariant-loop-i : goal.invariant-loop-i
invariant-loop-i l = record {
  word : first_word Nothing l.text ≡ take l.i l.text ++ first_word l.within (drop l.i l.text);
  rest : after_word Nothing l.text ≡ after_word l.within (drop l.i l.text);
}
