-- What a run of the program does: it reads its input, drives an attempt to its end, and writes the
-- attempt's output.
use Rattle.std.specs.Prelude.{◌≡◌, ◌⊎◌, ℕ, zero, suc, ◌-◌, ◌^◌, List, [], Option, Some, None, IfSome, Result, Ok, Err}
use Rattle.std.proofs.Common.{Global}
use Rattle.std.specs.List.{concat}
use Rattle.std.specs.declared.alloc.AllocError.{AllocError}
use Rattle.std.specs.declared.io.Error.{Error as IoError}
use Rattle.journal_protocol.specs.Error.{Error}
use Rattle.journal_protocol.specs.Version.{Version}
use Rattle.vm_types.specs.Options.{default_options}
use Rattle.vm_parts.specs.Outboxes.{WholeFrames}
use Rattle.invocation_vm.specs.Making.{made}
use Rattle.vm_attempt.specs.Record.{Record, heard}
use Rattle.vm_attempt.specs.Stepping.{StepFunction, fresh_record, FeedDoes, CloseDoes, StepDoes}
use Rattle.vm_attempt.specs.Told.{AnswersAreTold, NoneHasTwo}
use Rattle.vm_attempt.specs.declared.progress.Progress.{Progress}
use Rattle.vm_attempt.specs.declared.progress.Progress.TheVariants as progress
use Rattle.program_vmrun.specs.declared.run_end.AttemptEnd.{AttemptEnd}
use Rattle.program_vmrun.specs.declared.run_end.AttemptEnd.TheVariants as attempt_end
use Rattle.program_vmrun.specs.declared.run_end.Refusal.{Refusal}
use Rattle.program_vmrun.specs.declared.run_end.Refusal.TheVariants as refusal
use Rattle.program_runs.specs.declared.run_end.RunEnd.{RunEnd}
use Rattle.program_runs.specs.Ends.{Says}
use Rattle.vm_model.specs.Fixed.{fixed_by}

-- this number of steps, each of which gave the handler one answer
abbrev pub Stepped : StepFunction → ℕ → Record → Record → Type 0
Stepped meaning zero first now = now ≡ first
Stepped meaning (suc n) first now = (before : Record) × Stepped meaning n first before
    × StepDoes meaning before (Ok progress.Stepped) now

-- how the attempt ends by this step, if it is the last one
abbrev pub end_after : Result Progress Error → Option AttemptEnd
end_after (Ok progress.Stepped) = None
end_after (Ok progress.Ended) = Some attempt_end.Ended
end_after (Ok progress.Suspended) = Some attempt_end.Suspended
end_after (Ok progress.NotReady) = Some attempt_end.Stalled
end_after (Ok (progress.Waiting input run)) = Some attempt_end.Stalled
end_after (Ok (progress.ExecuteRun run)) = Some attempt_end.Stalled
end_after (Err e) = Some (attempt_end.Failed e)

-- Steps are made until one gives the handler no answer. An attempt that gave 2 ^ 64 - 1 answers is
-- stalled.
abbrev pub Drives : StepFunction → Record → AttemptEnd → Record → Type 0
Drives meaning first ending now =
    ((n : ℕ) × (before : Record) × (last : Result Progress Error) × Stepped meaning n first before
    × StepDoes meaning before last now × (end_after last ≡ Some ending))
    ⊎ (Stepped meaning (2 ^ 64 - 1) first now × (ending ≡ attempt_end.Stalled))

-- the attempt is fed the bytes, and then its input is closed
abbrev pub IsFed : List ℕ → Record → Record → Type 0
IsFed input first now =
    (between : Record) × ((fits : Result Unit AllocError)
    × FeedDoes first.starved input first fits between)
    × ((fits : Result Unit AllocError) × CloseDoes between.starved between fits now)

-- The attempt is fed the bytes, it is driven, this is all its output, and this holds of it then.
abbrev pub IsDriven : (Record → Type 0) → StepFunction → Record → List ℕ → AttemptEnd → List ℕ
    → Type 0
IsDriven holds_then meaning fresh input ending output =
    (fed : Record) × (driven : Record) × IsFed input fresh fed × Drives meaning fed ending driven
    × (output ≡ concat driven.vm.machine.output) × holds_then driven

-- what waits is whole frames
abbrev pub SendsWhole : Record → Type 0
SendsWhole r = WholeFrames r.vm.machine.output

-- The input is all that the reader had left, if this is known, and this holds of the output.
abbrev pub Serves : (Record → Type 0) → StepFunction → Record → Option (List ℕ) → (List ℕ → Type 0)
    → AttemptEnd → Type 0
Serves holds_then meaning fresh left written ending =
    (input : List ℕ) × (output : List ℕ) × IfSome left (λ bytes. input ≡ bytes)
    × IsDriven holds_then meaning fresh input ending output × written output

-- If no completion has two results, the answers of an attempt with the options by default follow
-- from the journal that it was fed and from what it wrote.
abbrev pub IsTold : StepFunction → Version → Record → Type 0
IsTold meaning version r = NoneHasTwo (fixed_by meaning version default_options) (heard version r)
    → (r.answers ≡ []) ⊎ AnswersAreTold (fixed_by meaning version default_options) r

-- the same of a new attempt with the options by default, for the version that was asked for
abbrev pub ServesAnew : Global → Result Version Error → StepFunction → Option (List ℕ)
    → (List ℕ → Type 0) → AttemptEnd → Type 0
ServesAnew alloc (Ok version) meaning left written ending = Serves (IsTold meaning version) meaning
    (fresh_record (made alloc default_options version)) left written ending
ServesAnew alloc (Err refusal) meaning left written ending = ⊥

-- why a run is refused: there is no such handler, or the content type is refused
abbrev pub AttemptRefused : Result Version Error → Refusal → Type 0
AttemptRefused version refusal.UnknownHandler = Unit {0}
AttemptRefused version (refusal.ContentType why) = version ≡ Err why

-- What each end of a run says. `serves` says that an attempt was served to that end, and what is
-- written of its output into a writer that held and now holds these bytes; `read` that all was
-- read, and `unwritten` that nothing was written.
abbrev pub AttemptSays : Result Version Error → ((List ℕ → Type 0) → AttemptEnd → Type 0)
    → Option (List ℕ) → Option (List ℕ) → (IoError → Type 0) → (IoError → Type 0) → Type 0 → Type 0
    → RunEnd Refusal AttemptEnd → Type 0
AttemptSays version serves held holds read_fails write_fails read unwritten end =
    Says (AttemptRefused version) serves held holds read_fails write_fails read unwritten end
