use Rattle.std.proofs.Common.{codes, take}
use Rattle.lines.specs.Fields.{texts_named}
use Rattle.world_scripts.specs.Rounds.{AreKeys}
use Rattle.world_scripts.proofs.opening.keys_in.Given as goal

abbrev pub invariant-loop-word : goal.invariant-loop-word
invariant-loop-word l = AreKeys (texts_named (codes "key=") (take l.word-index l.words)) l.keys
