-- The call that a line asks for: its first word names it, and its arguments are in their places.
use Rattle.std.specs.Prelude.{◌≡◌, ℕ, List, [], ◌∷◌, length, drop, codes, Option, Some, find, nat_eq}
use Rattle.std.specs.Cmp.Lexicographic.{pointwise}
use Rattle.std.specs.Borrow.{Bor}
use Rattle.std.specs.declared.time.Duration.{Duration}
use Rattle.lines.specs.Atoms.{IsAtom, IsText}
use Rattle.lines.specs.Readings.{One, Two, Three}
use Rattle.vm_types.specs.declared.options.PayloadOptions.{PayloadOptions}
use Rattle.vm_types.specs.declared.values.Target.{Target}
use Rattle.vm_types.specs.declared.steps.Step.TheVariants as step
use Rattle.await_trees.specs.declared.tree.UnresolvedFuture.{UnresolvedFuture}
use Rattle.vm_types.specs.declared.call.Call.{Call}
use Rattle.vm_types.specs.declared.call.Call.TheVariants as call
use Rattle.call_lines.specs.declared.verb.Verb.{Verb}
use Rattle.call_lines.specs.declared.verb.Verb.TheVariants as verb
use Rattle.line_parts.specs.Reports.{IsReport}
use Rattle.line_parts.specs.Results.{IsProposal}
use Rattle.line_parts.specs.Targets.{AreCallOptions, AreSendOptions, NamesInvocation}
use Rattle.line_parts.specs.Trees.{SpellsFuture}
use Rattle.line_parts.specs.Values.{HasExtras, HasName, HasNow, HasValue, IsValue}
use Rattle.lines.specs.Durations.{IsTime}
use Rattle.line_parts.specs.Handles.{IsEphemeralId, IsHandle}
use Rattle.lines.specs.Words.{IsOneAtom, IsOneText, words_after_first, text_at}

-- the word that names a call
unfoldable pub verb_name : Verb → List ℕ
verb_name verb.Head = codes "head"
verb_name verb.Input = codes "input"
verb_name verb.Close = codes "close"
verb_name verb.Output = codes "output"
verb_name verb.Ready = codes "ready"
verb_name verb.State = codes "state"
verb_name verb.Index = codes "index"
verb_name verb.Error = codes "error"
verb_name verb.Await = codes "await"
verb_name verb.Completed = codes "completed"
verb_name verb.Take = codes "take"
verb_name verb.SysInput = codes "sys_input"
verb_name verb.Get = codes "get"
verb_name verb.Keys = codes "keys"
verb_name verb.Set = codes "set"
verb_name verb.Clear = codes "clear"
verb_name verb.ClearAll = codes "clear_all"
verb_name verb.Sleep = codes "sleep"
verb_name verb.Call = codes "call"
verb_name verb.CallWithDeadline = codes "call_with_deadline"
verb_name verb.Send = codes "send"
verb_name verb.Awakeable = codes "awakeable"
verb_name verb.Signal = codes "signal"
verb_name verb.CompleteAwakeable = codes "complete_awakeable"
verb_name verb.CompleteSignal = codes "complete_signal"
verb_name verb.Cancel = codes "cancel"
verb_name verb.GetPromise = codes "get_promise"
verb_name verb.PeekPromise = codes "peek_promise"
verb_name verb.CompletePromise = codes "complete_promise"
verb_name verb.Run = codes "run"
verb_name verb.Propose = codes "propose"
verb_name verb.Attach = codes "attach"
verb_name verb.GetOutput = codes "get_output"
verb_name verb.WriteOutput = codes "write_output"
verb_name verb.End = codes "end"
verb_name verb.EphemeralGet = codes "ephemeral_get"
verb_name verb.TakeEphemeral = codes "take_ephemeral"

-- the verbs, those that most lines have first
abbrev pub verbs : List Verb
verbs =
    verb.Take ∷ verb.Await ∷ verb.Input ∷ verb.Sleep ∷ verb.Get ∷ verb.Set ∷ verb.Call ∷ verb.Run
    ∷ verb.Propose ∷ verb.Signal ∷ verb.Completed ∷ verb.Send ∷ verb.Output ∷ verb.Head
    ∷ verb.Close ∷ verb.Ready ∷ verb.State ∷ verb.Index ∷ verb.Error ∷ verb.SysInput ∷ verb.Keys
    ∷ verb.Clear ∷ verb.ClearAll ∷ verb.CallWithDeadline ∷ verb.Awakeable
    ∷ verb.CompleteAwakeable ∷ verb.CompleteSignal ∷ verb.Cancel ∷ verb.GetPromise
    ∷ verb.PeekPromise ∷ verb.CompletePromise ∷ verb.Attach ∷ verb.GetOutput ∷ verb.WriteOutput
    ∷ verb.End ∷ verb.EphemeralGet ∷ verb.TakeEphemeral ∷ []

-- the verb whose name this is
unfoldable pub verb_named : List ℕ → Option Verb
verb_named word = find (λ verb. pointwise nat_eq word (verb_name verb)) verbs

-- one word that encodes the tree that is awaited, and no other word
abbrev pub IsAwaited : List (Bor (List ℕ)) → UnresolvedFuture → Type 0
IsAwaited words future = (length words ≡ 1) × SpellsFuture (text_at 0 words) future

-- the words begin with this service, this handler and this input
abbrev pub HasCallee : List (Bor (List ℕ)) → List ℕ × List ℕ × List ℕ → Type 0
HasCallee words callee = IsText (text_at 0 words) callee.0 × IsText (text_at 1 words) callee.1
    × IsAtom (text_at 2 words) callee.2

-- the words name this target's options, this name and these options of a call
abbrev pub NamesTarget : List (Bor (List ℕ)) → Target × Option (List ℕ) × PayloadOptions → Type 0
NamesTarget words named = AreCallOptions words named.0 named.1 named.2

-- what is called, with which input, name and options
pub record IsCall (words : List (Bor (List ℕ)))
    (call : Target × List ℕ × Option (List ℕ) × PayloadOptions) : Type 0 where
  pub callee : HasCallee words (call.0.service, call.0.handler, call.1)
  pub options : AreCallOptions (drop 3 words) call.0 call.2 call.3

-- what is called, with which input, until when, and with which name and options
pub record IsDeadlineCall (words : List (Bor (List ℕ)))
    (call : Target × List ℕ × Duration × Option (List ℕ) × PayloadOptions) : Type 0 where
  pub callee : HasCallee words (call.0.service, call.0.handler, call.1)
  pub until : IsTime (text_at 3 words) call.2
  pub options : AreCallOptions (drop 4 words) call.0 call.3 call.4

-- what is sent to, with which input, when, and with which name and options
pub record IsSend (words : List (Bor (List ℕ)))
    (send : Target × List ℕ × Option Duration × Option (List ℕ) × PayloadOptions) : Type 0 where
  pub callee : HasCallee words (send.0.service, send.0.handler, send.1)
  pub options : AreSendOptions (drop 3 words) send.0 send.2 send.3 send.4

-- nothing stands after the name
abbrev pub IsBare : List (Bor (List ℕ)) → Call → Call → Type 0
IsBare words bare call = (length words ≡ 0) × (call ≡ bare)

-- what the words after a call's name ask for: its arguments, in their places
abbrev pub IsLine : Verb → List (Bor (List ℕ)) → Call → Type 0
IsLine verb.Head words = IsBare words call.Head
IsLine verb.Input words = One (IsOneAtom words) call.Input
IsLine verb.Close words = IsBare words call.Close
IsLine verb.Output words = IsBare words call.Output
IsLine verb.Ready words = IsBare words call.Ready
IsLine verb.State words = IsBare words call.State
IsLine verb.Index words = IsBare words call.Index
IsLine verb.Error words = One (IsReport words) (λ report. call.Error report.0 report.1)
IsLine verb.Await words = One (IsAwaited words) (λ future. call.Step (step.Await future))
IsLine verb.Completed words = One (IsHandle words) (λ handle. call.Step (step.Completed handle))
IsLine verb.Take words = One (IsHandle words) (λ handle. call.Step (step.Take handle))
IsLine verb.SysInput words = IsBare words call.SysInput
IsLine verb.Get words = Two (IsText (text_at 0 words)) (HasExtras (drop 1 words))
    (λ key extras. call.Step (step.StateGet key extras.name extras.payload))
IsLine verb.Keys words = One (HasName words) (λ name. call.Step (step.StateGetKeys name))
IsLine verb.Set words = Three (IsText (text_at 0 words)) (IsAtom (text_at 1 words))
    (HasExtras (drop 2 words))
    (λ key value extras. call.Step (step.StateSet key value extras.name extras.payload))
IsLine verb.Clear words = Two (IsText (text_at 0 words)) (HasName (drop 1 words))
    (λ key name. call.Step (step.StateClear key name))
IsLine verb.ClearAll words = One (HasName words) (λ name. call.Step (step.StateClearAll name))
IsLine verb.Sleep words = Three (IsText (text_at 0 words)) (IsTime (text_at 1 words))
    (HasNow (drop 2 words)) (λ name until now. call.Step (step.Sleep name until now))
IsLine verb.Call words = One (IsCall words) (λ c. call.Step (step.Call c.0 c.1 c.2 c.3))
IsLine verb.CallWithDeadline words =
    One (IsDeadlineCall words) (λ c. call.Step (step.CallWithDeadline c.0 c.1 c.2 c.3 c.4))
IsLine verb.Send words = One (IsSend words) (λ c. call.Step (step.Send c.0 c.1 c.2 c.3 c.4))
IsLine verb.Awakeable words = IsBare words (call.Step step.Awakeable)
IsLine verb.Signal words = One (IsOneText words) (λ name. call.Step (step.Signal name))
IsLine verb.CompleteAwakeable words = Two (IsText (text_at 0 words)) (HasValue (drop 1 words))
    (λ id value. call.Step (step.CompleteAwakeable id value.0 value.1))
IsLine verb.CompleteSignal words = Three (IsText (text_at 0 words)) (IsText (text_at 1 words))
    (IsValue (drop 2 words))
    (λ target name value. call.Step (step.CompleteSignal target name value))
IsLine verb.Cancel words =
    One (IsOneText words) (λ target. call.Step (step.CancelInvocation target))
IsLine verb.GetPromise words = One (IsOneText words) (λ key. call.Step (step.GetPromise key))
IsLine verb.PeekPromise words = One (IsOneText words) (λ key. call.Step (step.PeekPromise key))
IsLine verb.CompletePromise words = Two (IsText (text_at 0 words)) (HasValue (drop 1 words))
    (λ key value. call.Step (step.CompletePromise key value.0 value.1))
IsLine verb.Run words = One (IsOneText words) call.Run
IsLine verb.Propose words =
    One (IsProposal words) (λ it. call.Propose it.handle it.result it.policy)
IsLine verb.Attach words =
    One (NamesInvocation words) (λ target. call.Step (step.AttachInvocation target))
IsLine verb.GetOutput words =
    One (NamesInvocation words) (λ target. call.Step (step.GetInvocationOutput target))
IsLine verb.WriteOutput words =
    One (HasValue words) (λ value. call.Step (step.WriteOutput value.0 value.1))
IsLine verb.End words = IsBare words (call.Step step.End)
IsLine verb.EphemeralGet words = One (IsOneText words) call.EphemeralGet
IsLine verb.TakeEphemeral words = One (IsEphemeralId words) call.TakeEphemeral

-- the call that the words of a line ask for
pub record IsAsked (words : List (Bor (List ℕ))) (call : Call) : Type 0 where
  pub named : Verb
  pub names : verb_named (text_at 0 words) ≡ Some named
  pub line : IsLine named (words_after_first words) call
