-- A status and its number.
use Rattle.std.proofs.Common.{◌≡◌, refl}
use Rattle.c_values.specs.declared.status.Status.{Status}
use Rattle.c_values.specs.declared.status.Status.TheVariants as status
use Rattle.c_values.specs.Statuses.{status_number, status_by}

-- the number of a status names it
pub named_again : (s : Status) → status_by (status_number s) ≡ s
named_again status.Done = refl
named_again status.NoMemory = refl
named_again status.NoSession = refl
named_again status.NoVm = refl
named_again status.NoRoom = refl
named_again status.Refused = refl
named_again status.BadText = refl
named_again status.BadTree = refl
named_again status.BadNumber = refl
named_again status.NoPart = refl
named_again status.BadOutput = refl
named_again status.NotANotification = refl
named_again status.NoSuchId = refl
named_again status.SecondCompletion = refl
named_again status.WrongKind = refl
named_again status.RunIsProposed = refl
named_again status.JournalFull = refl
named_again status.BadJournal = refl
named_again status.NotAFrame = refl
named_again status.BadLine = refl
named_again status.NoResult = refl
named_again status.NotASuspension = refl
named_again status.NoJournal = refl
named_again status.NoRow = refl
named_again status.NotFrames = refl
named_again status.NoFrame = refl
named_again status.Layered = refl
