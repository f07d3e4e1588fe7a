use Rattle.std.proofs.Common.{◌≡◌, ◌++◌, flat_map, take}
use Rattle.engine_lines.specs.Parts.{waiting_text}
use Rattle.engine_lines.proofs.parts.print_inbox.Given as goal

abbrev pub invariant-loop-waiting : goal.invariant-loop-waiting
invariant-loop-waiting l = l.report ≡ l.initial.report ++ flat_map waiting_text (take l.waiting-index l.inbox)
