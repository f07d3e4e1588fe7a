use Rattle.std.proofs.Common.{codes, take}
use Rattle.lines.specs.Fields.{texts_named}
use Rattle.world_scripts.specs.Worlds.{AreStateTexts}
use Rattle.world_scripts.proofs.given.state_in.Given as goal

abbrev pub invariant-loop-word : goal.invariant-loop-word
invariant-loop-word l = AreStateTexts (texts_named (codes "state=") (take l.word-index l.words)) l.state.items
