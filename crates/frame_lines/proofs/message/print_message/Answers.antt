use Rattle.std.specs.Prelude.{◌≡◌, ◌++◌, false}
use Rattle.std.proofs.Common.{ap, ◌∙◌}
use Rattle.journal_protocol.specs.Frames.{type_of}
use Rattle.frame_lines.specs.Messages.{fields_of}
use Rattle.frame_lines.specs.Names.{type_word}
use Rattle.frame_values.proofs.Putting.{printed_behind}
use Rattle.frame_lines.proofs.message.print_message.Goals as goal

pub returns : goal.returns
returns c =
    let name : c.name_of.result.now ≡ type_word (type_of c.args.message.now) = c.name_of.ensures ∙ ap type_word c.ty.ensures in
    printed_behind c.args.line.now (type_word (type_of c.args.message.now)) c.word.new.self c.print_fields.new.line false c.in_ok-print_fields.field-0 (fields_of c.args.message.now) (c.in_ok-word.ensures ∙ ap (λ t. c.args.line.now ++ t) name) c.in_ok-print_fields.ensures
