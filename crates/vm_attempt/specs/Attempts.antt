-- What is asked of an attempt's input, and what its calls promise then. Read this file first.
use Rattle.std.specs.Prelude.{Result}
use Rattle.journal_protocol.specs.Error.{Error}
use Rattle.vm_attempt.specs.declared.progress.Progress.{Progress}
use Rattle.vm_attempt.specs.Record.{Record, all_heard, heard}
use Rattle.vm_model.specs.Fixed.{Fixed}
use Rattle.vm_attempt.specs.Blames.{Blame, ComesByCall, IsHonest, IsOwnError, RefusedResult}
use Rattle.vm_attempt.specs.Told.{AnswersAreTold, NothingWakes, NumbersFreshly, Premises, ProvesHistory, ReplayPremises, AnswersInReplay}

-- ---- what is asked

-- Recorded commands are replayed, signals queue, and no completion has two results.
abbrev pub IsWellFed : Fixed → Record → Type 0
IsWellFed fixed r = Premises fixed (heard fixed.version r)

-- It is so as long as recorded commands are left, which a journal that doesn't fit the handler can
-- have too.
abbrev pub IsWellFedInReplay : Fixed → Record → Type 0
IsWellFedInReplay fixed r = ReplayPremises fixed (heard fixed.version r)

-- What it was fed are the bytes of an honest attempt over a history of the handler.
abbrev pub IsHonestlyFed : Fixed → Record → Type 0
IsHonestlyFed fixed r = IsHonest fixed (all_heard fixed.version r)

-- ---- what is promised

-- The answers are those of a point that is reached on the journal that was fed, followed by the
-- commands that were written.
abbrev pub AnswersAsTold : Fixed → Record → Type 0
AnswersAsTold fixed r = AnswersAreTold fixed r

-- No number of the notifications that came wakes the handler's await.
abbrev pub WaitsRightly : Fixed → Record → Type 0
WaitsRightly fixed r = NothingWakes fixed r

-- The handler's next call is answered from the journal, or it is refused if no move over the
-- journal leads on.
abbrev pub StepReplays : Fixed → Record → Result Progress Error → Record → Type 0
StepReplays fixed old result new = AnswersInReplay fixed old result new

-- What was fed proves that its journal is a history of the handler, if nothing was fed after it.
abbrev pub ProvesItsJournal : Fixed → Record → Type 0
ProvesItsJournal fixed r = ProvesHistory fixed (heard fixed.version r)

-- The error has one of the causes that an attempt's error can have; and it is out of memory, or one
-- of the attempt's calls brought it.
abbrev pub HasCause : Fixed → Record → Error → Type 0
HasCause fixed r e =
    Blame fixed (all_heard fixed.version r) r.closed r.answers (RefusedResult fixed r) e
    × ComesByCall fixed r e

-- The error is the attempt's own: none that an honest attempt never has, as a mismatch; and it is
-- out of memory, or one of the attempt's calls brought it.
abbrev pub IsItsOwn : Fixed → Record → Error → Type 0
IsItsOwn fixed r e =
    IsOwnError fixed (all_heard fixed.version r) r.closed r.answers (RefusedResult fixed r) e
    × ComesByCall fixed r e

-- If recorded commands are skipped, the commands that it wrote carry completion ids greater than
-- all that its journal's commands carry.
abbrev pub CarriesNewIds : Fixed → Record → Type 0
CarriesNewIds fixed r = NumbersFreshly fixed r
