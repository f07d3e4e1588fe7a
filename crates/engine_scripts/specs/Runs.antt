-- What a run of the program does: it reads a whole script, whose events happen over an engine
-- without invocations, and writes their report.
use Rattle.std.specs.Prelude.{◌≡◌, ◌++◌, ℕ, List, [], ◌∷◌, Option, Some, None, IfSome}
use Rattle.std.proofs.Common.{Global}
use Rattle.std.specs.List.{AllZip}
use Rattle.std.specs.Io.KnownBytes.{Appends}
use Rattle.std.specs.declared.io.Error.{Error as IoError}
use Rattle.std.specs.declared.vec.Vec.{Vec}
use Rattle.lines.specs.Places.{IsLineNumbered}
use Rattle.journal_protocol.specs.Version.{Version}
use Rattle.vm_types.specs.Options.{default_options}
use Rattle.program_runs.specs.Ends.{Says}
use Rattle.program_runs.specs.Streams.{AppendsSome}
use Rattle.program_runs.specs.declared.run_end.RunEnd.{RunEnd}
use Rattle.program_runs.specs.declared.run_end.RunEnd.TheVariants.{Refused, ReadFailed, NoMemory, WriteFailed, Written}
use Rattle.call_lines.specs.declared.plan.Plan.{Plan}
use Rattle.engines.specs.Between.{AllKept}
use Rattle.engine_inboxes.specs.Faults.{IsNoArrival}
use Rattle.engines.specs.declared.engine.Engine.{Engine}
use Rattle.engine_inboxes.specs.declared.fault.EngineFault.{EngineFault}
use Rattle.engine_inboxes.specs.declared.target.Target.{Target}
use Rattle.engine_lines.specs.Scripts.{IsEngineScript}
use Rattle.engine_lines.specs.declared.script.Numbered.{Numbered}
use Rattle.engine_lines.specs.declared.script.Script.{Script}
use Rattle.engine_scripts.specs.Events.{EventDoes}
use Rattle.engine_lines.specs.Parts.{did_text}
use Rattle.engine_lines.specs.Targets.{IsTarget}
use Rattle.engine_scripts.specs.Printed.{PrintsEngine}
use Rattle.engine_lines.specs.declared.did.Did.{Did}
use Rattle.engine_lines.specs.declared.run_end.Ending.{Ending}
use Rattle.engine_lines.specs.declared.run_end.Refusal.{Refusal}
use Rattle.engine_lines.specs.declared.run_end.Refusal.TheVariants.{OtherArguments, UnknownContentType, NoMeaning}

-- an engine of these handlers, at the epoch, without an invocation
pub record IsNew (version : Version) (targets : List (Target Plan)) (e : Engine Plan) : Type 0 where
  pub targets_are : e.targets.now ≡ targets
  pub version_is : e.version ≡ version
  pub options : e.options ≡ default_options
  pub clock : e.clock ≡ 0
  pub none : e.invocations.items ≡ []

-- an event happens; it has a line if it did nothing or asked for an invocation
pub record TellsEvent (n : Numbered) (old : Engine Plan) (told : List ℕ) (new : Engine Plan)
    (report : List ℕ)
    : Type 0 where
  pub did : Did
  pub does : EventDoes n.event old new
  pub is : report ≡ told ++ did_text n.line did

-- events do, one after another
abbrev pub AllDo : List Numbered → Engine Plan → List ℕ → Engine Plan → List ℕ → Type 0
AllDo [] old told new report = (new ≡ old) × (report ≡ told)
AllDo (n ∷ ns) old told new report = (mid : Engine Plan) × (next : List ℕ)
    × TellsEvent n old told mid next × AllDo ns mid next new report

-- All events have happened: their lines stand before the invocations that they leave. Each
-- stored call of these has one callee, whose id and result it gets, no sleep has ended before its
-- time, and the invocations of a key go one after another.
pub record AllHappened (version : Version) (targets : List (Target Plan)) (events : List Numbered)
    (report : List ℕ)
    : Type 0 where
  pub first : Engine Plan
  pub new : IsNew version targets first
  pub last : Engine Plan
  pub told : List ℕ
  pub happen : AllDo events first [] last told
  pub kept : AllKept last
  pub prints : PrintsEngine last told report

-- how the events of a script end, and their report; there is none if a fault has stopped them,
-- which is never that of an arrival
abbrev pub EventsEnd : Version → List (Target Plan) → List Numbered → Option EngineFault → List ℕ
    → Type 0
EventsEnd version targets events None report = AllHappened version targets events report
EventsEnd version targets events (Some fault) report = IsNoArrival fault × (report ≡ [])

-- how a script ends, and its report
pub record EngineScriptEnds (version : Version) (script : Script) (stop : Option EngineFault)
    (report : List ℕ)
    : Type 0 where
  pub targets : List (Target Plan)
  pub are_targets : AllZip IsTarget script.handlers.items targets
  pub ends : EventsEnd version targets script.events.items stop report

-- a text is read as a script, and its events happen
pub record PlaysEvents (version : Version) (text : List ℕ) (stop : Option EngineFault)
    (report : List ℕ)
    : Type 0 where
  pub script : Script
  pub is_read : IsEngineScript text script
  pub ends : EngineScriptEnds version script stop report

-- The text is all that the reader had left, where this is known, and this holds of its report.
pub record PlaysWholeScript (version : Version) (left : Option (List ℕ)) (stop : Option EngineFault)
    (written : List ℕ → Type 0)
    : Type 0 where
  pub text : List ℕ
  pub report : List ℕ
  pub all : IfSome left (λ bytes. text ≡ bytes)
  pub plays : PlaysEvents version text stop report
  pub is_written : written report

-- The text is all that the reader had left, where this is known. The copy, if there is one, is its
-- line of this number.
pub record IsLineRefused (left : Option (List ℕ)) (number : ℕ) (copy : Option (Vec ℕ Global))
    : Type 0 where
  pub text : List ℕ
  pub all : IfSome left (λ bytes. text ≡ bytes)
  pub is_copy : IfSome copy (λ line. IsLineNumbered text number line.items)

-- what is written of a report into a writer that held and now holds these bytes, where the events
-- have ended so
abbrev pub EngineReportEnds : (IoError → Type 0) → Option (List ℕ) → Option (List ℕ)
    → Option EngineFault → List ℕ → RunEnd Refusal Ending → Type 0
EngineReportEnds write_fails held holds stop report (Refused why) = ⊥
EngineReportEnds write_fails held holds stop report (ReadFailed e) = ⊥
EngineReportEnds write_fails held holds stop report NoMemory = ⊥
EngineReportEnds write_fails held holds stop report (WriteFailed ending e) = write_fails e
    × (ending.stopped_by ≡ stop) × AppendsSome held holds report
EngineReportEnds write_fails held holds stop report (Written ending) = (ending.stopped_by ≡ stop)
    × Appends held holds report

-- Why a run is refused: it is no content type, or the line of this number has no meaning. `refused`
-- says of which line a copy is; `read` that all was read.
abbrev pub IsScriptRefused : (ℕ → Option (Vec ℕ Global) → Type 0) → Type 0 → Refusal → Type 0
IsScriptRefused refused read OtherArguments = ⊥
IsScriptRefused refused read UnknownContentType = Unit {0}
IsScriptRefused refused read (NoMeaning number copy) = refused number copy × read

-- What each end of a run says. `plays` says that a script was played up to such an end, and what is
-- written of its report into a writer that held and now holds these bytes; `refused` of which line
-- a copy is; `read` that all was read, and `unwritten` that nothing was written.
abbrev pub RunSays : (Option EngineFault → (List ℕ → Type 0) → Type 0)
    → (ℕ → Option (Vec ℕ Global) → Type 0) → Option (List ℕ) → Option (List ℕ)
    → (IoError → Type 0) → (IoError → Type 0) → Type 0 → Type 0 → RunEnd Refusal Ending → Type 0
RunSays plays refused held holds read_fails write_fails read unwritten end =
    Says (IsScriptRefused refused read) (λ written ending. plays ending.stopped_by written) held
    holds
    read_fails write_fails read unwritten end
