-- What is fixed for an attempt, read off the attempt.
use Rattle.vm_model.specs.Calls.{Meaning}
use Rattle.vm_model.specs.Fixed.{Fixed, fixed_by}
use Rattle.vm_attempt.specs.Record.{AttemptView}

-- for an attempt, by what its handler calls
abbrev pub fixed_of : {H : Type 0} → Meaning → AttemptView H → Fixed
fixed_of handler a = fixed_by handler a.version a.options
