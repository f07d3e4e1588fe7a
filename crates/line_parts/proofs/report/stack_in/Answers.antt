use Rattle.std.proofs.Common.{◌≡◌, [], ◌∷◌, codes, rules}
use Rattle.lines.specs.Atoms.{IsText}
use Rattle.lines.specs.Fields.{texts_named}
use Rattle.lines.proofs.Missing.{set_blamed}
use Rattle.line_parts.proofs.report.stack_in.Goals as goal

pub returns-in-Err-string_of-clause-none : goal.returns-in-Err-string_of-clause-none
returns-in-Err-string_of-clause-none c =
    let only : texts_named (codes "stack=") c.args.words.now ≡ c.in-Ok-Some.text.now ∷ [] = search rules in
    set_blamed IsText [] (texts_named (codes "stack=") c.args.words.now) c.in-Ok-Some.text.now c.in-Err-string_of.fault only c.in-Err-string_of.ensures.none
