use Rattle.frame_lines.proofs.forms.calls.OneWayCallCommandForm.print.Goals as goal

pub returns : goal.returns
returns c = rw c.in_ok-is_first.ensures c.print_field.ensures
