-- What an await answers by which the machine doesn't fail.
use Rattle.std.specs.Prelude.{Result, Ok, Err, None}
use Rattle.journal_protocol.specs.Error.{Error}
use Rattle.journal_protocol.specs.NamedFault.TheVariants.{Suspended}
use Rattle.journal_protocol.specs.Errors.{named_error}
use Rattle.vm_types.specs.declared.types.AwaitResponse.{AwaitResponse}
use Rattle.vm_awaits.specs.declared.awaited.End.{End}
use Rattle.vm_awaits.specs.declared.awaited.End.TheVariants.{Responds, Suspends}

-- the response, or the error that says that the invocation is suspended
abbrev pub answered : End → Result AwaitResponse Error
answered (Responds response) = Ok response
answered Suspends = Err (named_error Suspended None)
