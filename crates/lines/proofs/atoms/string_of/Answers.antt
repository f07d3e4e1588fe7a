use Rattle.std.proofs.Common.{rules}
use Rattle.std.proofs.lemmas.Str.{IsUtf8-string_bytes}
use Rattle.lines.proofs.Blaming.{not_text}
use Rattle.lines.proofs.atoms.string_of.Goals as goal

pub returns-in-Ok-clause-value : goal.returns-in-Ok-clause-value
returns-in-Ok-clause-value c = (search rules, IsUtf8-string_bytes c.in-Ok.text)

pub returns-clause-none : goal.returns-clause-none
returns-clause-none c = not_text c.args.text.now c.in_ok-bytes_of.field-0.items _ c.in_ok-bytes_of.ensures.bytes (search rules)
