use Rattle.std.proofs.Common.{◌≡◌, [], ◌∷◌, rules}
use Rattle.lines.specs.Atoms.{IsText}
use Rattle.lines.specs.Fields.{texts_named}
use Rattle.lines.proofs.Missing.{optional_blamed}
use Rattle.line_parts.proofs.arguments.optional_text.Goals as goal

pub returns-in-Err-text_of-clause-none : goal.returns-in-Err-text_of-clause-none
returns-in-Err-text_of-clause-none c =
    let only : texts_named c.args.name.now c.args.words.now ≡ c.in-Ok-Some.text.now ∷ [] = search rules in
    optional_blamed IsText (texts_named c.args.name.now c.args.words.now) c.in-Ok-Some.text.now c.in-Err-text_of.fault only c.in-Err-text_of.ensures.none
