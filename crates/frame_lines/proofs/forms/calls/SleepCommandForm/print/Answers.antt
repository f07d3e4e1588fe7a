use Rattle.frame_lines.proofs.forms.calls.SleepCommandForm.print.Goals as goal

pub returns : goal.returns
returns c = rw (c.in_ok-is_first.ensures, c.in_ok-is_first-2.ensures) c.print_field-3.ensures
