use Rattle.frame_lines.proofs.forms.calls.CallRequestForm.print.Goals as goal

pub returns : goal.returns
returns c = rw (c.in_ok-is_first.ensures, c.in_ok-is_first-2.ensures, c.in_ok-is_first-3.ensures, c.in_ok-is_first-4.ensures, c.in_ok-is_first-5.ensures, c.in_ok-is_first-6.ensures, c.in_ok-is_first-7.ensures, c.in_ok-is_first-8.ensures, c.in_ok-is_first-9.ensures) c.print_field-10.ensures
