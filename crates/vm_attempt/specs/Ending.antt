-- When an attempt comes to its handler's end.
use Rattle.std.specs.Prelude.{◌≡◌, ◌≢◌, false, [], None, Result, Ok, Err}
use Rattle.journal_protocol.specs.Error.{Error}
use Rattle.journal_protocol.specs.Errors.{no_memory}
use Rattle.vm_model.specs.Finished.{HasFinished}
use Rattle.vm_model.specs.Fixed.{Fixed}
use Rattle.journal_entries.specs.JournalFrames.{as_entries}
use Rattle.vm_attempt.specs.declared.progress.Progress.{Progress}
use Rattle.vm_attempt.specs.declared.progress.Progress.TheVariants as progress
use Rattle.vm_attempt.specs.Heard.{Heard}
use Rattle.vm_attempt.specs.Record.{Record}
use Rattle.vm_attempt.specs.Journals.{setup_for}
use Rattle.vm_attempt.specs.Told.{IsLive, Journal}

-- The handler comes to its end on the journal that was fed.
abbrev pub FinishesOn : Fixed → Heard → Type 0
FinishesOn fixed fed =
    (j : Journal fed) → HasFinished (setup_for fixed j.start) fixed.handler (as_entries j.entries)

-- The handler has read its input, and its attempt can go on.
pub record IsRunning (r : Record) : Type 0 where
  pub runs : r.answers ≢ []
  pub starved : r.starved ≡ false
  pub over : r.over ≡ None
  pub live : IsLive r.vm.machine

-- A step is answered, or the handler ends; or out of memory. It doesn't wait, and isn't refused.
abbrev pub GoesToEnd : Result Progress Error → Type 0
GoesToEnd (Ok progress.NotReady) = ⊥
GoesToEnd (Ok progress.Stepped) = Unit {0}
GoesToEnd (Ok (progress.Waiting input run)) = ⊥
GoesToEnd (Ok (progress.ExecuteRun run)) = ⊥
GoesToEnd (Ok progress.Suspended) = ⊥
GoesToEnd (Ok progress.Ended) = Unit {0}
GoesToEnd (Err e) = e ≡ no_memory
