-- The numbers by which C sees how a call ended.
use Rattle.std.specs.Prelude.{◌≡◌, ℕ, ◌==◌, if◌then◌else◌}
use Rattle.c_values.specs.declared.status.Status.{Status}
use Rattle.c_values.specs.declared.status.Status.TheVariants as status

-- the number of a status: no two have the same
abbrev pub status_number : Status → ℕ
status_number status.Done = 0
status_number status.NoMemory = 1
status_number status.NoSession = 2
status_number status.NoVm = 3
status_number status.NoRoom = 4
status_number status.Refused = 5
status_number status.BadText = 6
status_number status.BadTree = 7
status_number status.BadNumber = 8
status_number status.NoPart = 9
status_number status.BadOutput = 10
status_number status.NotANotification = 11
status_number status.NoSuchId = 12
status_number status.SecondCompletion = 13
status_number status.WrongKind = 14
status_number status.RunIsProposed = 15
status_number status.JournalFull = 16
status_number status.BadJournal = 17
status_number status.NotAFrame = 18
status_number status.BadLine = 19
status_number status.NoResult = 20
status_number status.NotASuspension = 21
status_number status.NoJournal = 22
status_number status.NoRow = 23
status_number status.NotFrames = 24
status_number status.NoFrame = 28
status_number status.Layered = 29

-- what a number says; those of no status are as the last
abbrev pub status_by : ℕ → Status
status_by n =
    if n == 0 then status.Done
    else if n == 1 then status.NoMemory
    else if n == 2 then status.NoSession
    else if n == 3 then status.NoVm
    else if n == 4 then status.NoRoom
    else if n == 5 then status.Refused
    else if n == 6 then status.BadText
    else if n == 7 then status.BadTree
    else if n == 8 then status.BadNumber
    else if n == 9 then status.NoPart
    else if n == 10 then status.BadOutput
    else if n == 11 then status.NotANotification
    else if n == 12 then status.NoSuchId
    else if n == 13 then status.SecondCompletion
    else if n == 14 then status.WrongKind
    else if n == 15 then status.RunIsProposed
    else if n == 16 then status.JournalFull
    else if n == 17 then status.BadJournal
    else if n == 18 then status.NotAFrame
    else if n == 19 then status.BadLine
    else if n == 20 then status.NoResult
    else if n == 21 then status.NotASuspension
    else if n == 22 then status.NoJournal
    else if n == 23 then status.NoRow
    else if n == 24 then status.NotFrames
    else if n == 28 then status.NoFrame
    else status.Layered

-- the number is one of a status
abbrev pub IsStatus : ℕ → Type 0
IsStatus n = status_number (status_by n) ≡ n
