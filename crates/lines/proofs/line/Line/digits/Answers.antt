use Rattle.std.proofs.Common.{◌++◌, ap, ◌∙◌, string_bytes, arith}
use Rattle.std.specs.List.{flat_map}
use Rattle.lines.specs.Atoms.{in_hex}
use Rattle.lines.proofs.Hexing.{digits_are}
use Rattle.lines.proofs.line.Line.digits.Goals as goal

pub returns : goal.returns
returns c =
    let printed = digits_are c.args.bytes.now (λ k. omega (arith, c.type_inv.bytes k)) in
    c.in_ok-push_str.ensures.bytes
    ∙ ap (λ t. string_bytes c.self.inside.text ++ t) (c.as_str.ensures.value ∙ c.in_ok-digits.ensures ∙ printed)
    ∙ ap (λ t. t ++ flat_map in_hex c.args.bytes.now) c.self.view_is
