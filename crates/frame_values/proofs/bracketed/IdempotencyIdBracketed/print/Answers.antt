use Rattle.frame_values.proofs.bracketed.IdempotencyIdBracketed.print.Goals as goal

pub returns : goal.returns
returns c = rw (c.in_ok-is_first.ensures, c.in_ok-is_first-2.ensures, c.in_ok-is_first-3.ensures, c.in_ok-is_first-4.ensures) c.print_field-5.ensures
