-- What C holds of a journal says the same to every thread.
use Rattle.std.proofs.Common.{Option, Some, None}
use base.Fraction.{full_share}
use base.Shift.{Keyless}
use denote.Memory.{lone}
use denote.Param.Send.{IsSend, part_keyless, recorded_send}
use denote.RawPtr.{Ptr, block_ptr, null_ptr}
use mir.Raw.{raw as bare}
use Rattle.std.proofs.Crossing.{frees}
use Rattle.c_values.specs.Held.{held}
use Rattle.c_journals.specs.contracts.held.Journal.{the_row}
use Rattle.c_journals.specs.declared.journal.HeldJournal.{HeldJournal}
use Rattle.c_journals.specs.contracts.journal.HeldJournal.{the_row as journal_row, the_field, the_type}
use Rattle.c_journals.proofs.journal.HeldJournal.TheSendSync as journal

journal_send : IsSend journal_row
journal_send = recorded_send the_field.row _ _ the_type.to_one journal.the_field_send

held_keyless : (p : Ptr) (x : Option HeldJournal) → Keyless (held journal_row p x)
held_keyless p None = λ _. tt
held_keyless null_ptr (Some x) = (tt, frees.frees (record { memory = record { seal = tt } }) (bare (lone journal_row.mir)) null_ptr)
held_keyless (block_ptr b o) (Some x) = (part_keyless journal_row journal_send full_share x b o, frees.frees (record { memory = record { seal = tt } }) (bare (lone journal_row.mir)) (block_ptr b o))

pub send : IsSend the_row
send = record { owned = λ d vs. ((λ vss. (tt, (tt, tt))), held_keyless d.at d.value); leaving = λ k d w. tt }
