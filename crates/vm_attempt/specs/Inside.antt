-- The record that the fields of an attempt are.
use Rattle.std.specs.Prelude.{List, [], ◌++◌}
use Rattle.std.specs.List.{concat}
use Rattle.journal_protocol.specs.ProposeRunCompletion.{ProposeRunCompletion}
use Rattle.invocation_vm.specs.Seen.{seen}
use Rattle.vm_attempt.specs.declared.inner.Inner.{Inner}
use Rattle.vm_attempt.specs.Heard.{proposals_in}
use Rattle.vm_attempt.specs.Record.{Record}

-- the fields as a record, with these proposals
abbrev pub record_with : {H : Type 0} → List ProposeRunCompletion → Inner H → Record
record_with proposed a = record {
  fed = a.fed.items;
  late = a.late.items;
  closed = a.closed;
  failed_by = a.failed_by;
  answers = a.answers.items;
  taken = a.taken;
  proposed = proposed;
  waiting = a.waiting;
  starved = a.starved;
  over = a.over;
  vm = seen a.vm;
}

-- the fields themselves, which don't say what was proposed
abbrev pub the_fields : {H : Type 0} → Inner H → Record
the_fields a = record_with [] a

-- the record of an attempt: what it proposed is read from its output
abbrev pub the_record : {H : Type 0} → Inner H → Record
the_record a = record_with (proposals_in (concat a.taken ++ concat (seen a.vm).machine.output)) a
