-- What an attempt wrote stays: each of its calls writes after it.
use Rattle.std.proofs.Common.{◌≡◌, inl, inr, ℕ, Bool, true, false, List, [], ◌∷◌, ◌++◌, map, Option, Some, None, Result, Ok, Err, refl, sym, ap, ◌∙◌, subst, append_assoc, append-nil}
use Rattle.std.specs.Prelude.{if◌then◌else◌}
use Rattle.std.specs.List.{concat}
use Rattle.std.proofs.lemmas.List.Folds.{concat-append}
use Rattle.std.specs.declared.alloc.AllocError.{AllocError}
use Rattle.journal_protocol.specs.Error.{Error}
use Rattle.journal_protocol.specs.NamedFault.TheVariants as fault
use Rattle.journal_protocol.specs.Frames.{encoding}
use Rattle.vm_types.specs.declared.steps.Step.{Step}
use Rattle.vm_types.specs.declared.types.AwakeableHandle.{AwakeableHandle}
use Rattle.await_trees.specs.declared.handle.NotificationHandle.{NotificationHandle}
use Rattle.await_trees.specs.declared.tree.UnresolvedFuture.{UnresolvedFuture}
use Rattle.vm_retries.specs.declared.policy.RetryPolicy.{RetryPolicy}
use Rattle.vm_types.specs.declared.runs.RunExitResult.{RunExitResult}
use Rattle.await_trees.specs.Tree.{tree_of}
use Rattle.vm_asks.specs.declared.asks.Ask.{Ask}
use Rattle.vm_asks.specs.declared.asks.Ask.TheVariants as ask
use Rattle.vm_machine.specs.declared.machine.Machine.{Machine}
use Rattle.vm_machine.specs.declared.phase.Phase.{Phase}
use Rattle.vm_machine.specs.declared.phase.Phase.TheVariants.{WaitingStart, WaitingReplayEntries, Replaying, Processing, Closed}
use Rattle.vm_asks.specs.declared.asks.AnswerKind.{AnswerKind}
use Rattle.vm_asks.specs.declared.command.Command.{Command}
use Rattle.vm_asks.specs.Asks.{ask_of}
use Rattle.vm_machine.specs.Commands.{commanded}
use Rattle.vm_laws.specs.Endings.{EventWrites, Writes}
use Rattle.vm_machine.specs.Inputs.{close_step, input_step}
use Rattle.vm_machine.specs.Outcomes.{Does, DoesBy, Done, Failed, Outcome, called, refused}
use Rattle.vm_machine.specs.Signals.{awakeable_step}
use Rattle.vm_laws.proofs.Endings.{awakeable_writes, called_writes, close_writes, commanded_event, end_writes, ends_nothing, input_writes, read_writes, same, signal_writes, take_writes, writes_nothing}
use Rattle.vm_types.specs.Options.{skips_replay}
use Rattle.invocation_vm.specs.Views.{View, after_closing, after_input, left_by}
use Rattle.invocation_vm.proofs.Feeds.{among_output}
use Rattle.vm_model.specs.Calls.{Meaning}
use Rattle.vm_model.specs.Histories.{IsPrefix}
use Rattle.vm_attempt.specs.declared.progress.Progress.{Progress}
use Rattle.vm_attempt.specs.declared.progress.Reply.{Reply}
use Rattle.vm_attempt.specs.declared.progress.Reply.TheVariants as reply
use Rattle.vm_attempt.specs.Record.{Record, bytes_written}
use Rattle.vm_attempt.specs.Stepping.{Advances, MakesStep, CloseDoes, InputIsClosed, FeedDoes, FeedsPiece, FinishDoes, InputIsRead, StepAt, StepDoes, StepFrom, StepUnless, future_in, kept_at, replied, step_asked, with_vm}
use Rattle.vm_attempt.specs.Steps.{AllCarried, Awaited, Performs, PerformsBy, mapped}
use Rattle.vm_laws.proofs.Outputs.{all_writes, whole_writes}
use Rattle.vm_attempt.proofs.Finishing.{finished}
use Rattle.vm_attempt.proofs.Quiet.{input_quiet}

-- ---- one event of the machine

mapped_writes : {A B : Type 0} (f : A → B) (v : Machine) (o : Outcome A) → EventWrites v o → EventWrites v (mapped f o)
mapped_writes f v (Done a w) h = h
mapped_writes f v (Failed e w) h = h

new_awakeable_writes : (b : Bool) (v : Machine) → EventWrites v (called (if b then refused fault.UnsupportedFeature v else awakeable_step v) v)
new_awakeable_writes true v = called_writes v (refused {A = AwakeableHandle} fault.UnsupportedFeature v) (λ live. same v)
new_awakeable_writes false v = awakeable_writes v

-- an await writes after the output
await_event : (future : UnresolvedFuture) (v : Machine) (o : Outcome Reply) → Awaited future v o → EventWrites v o
await_event future v (Done given w) (answered, whole, replied) = whole_writes (tree_of future) (Ok answered) v w whole
await_event future v (Failed e w) whole = whole_writes (tree_of future) (Err e) v w whole

-- several commands write after the output
several_event : (kind : AnswerKind) (c : Command) (cs : List Command) (v : Machine) (o : Outcome Reply) → AllCarried kind c cs v o → EventWrites v o
several_event kind c cs v (Done given w) (handle, made, replied) = all_writes c cs (Ok handle) v w made
several_event kind c cs v (Failed e w) made = all_writes c cs (Err e) v w made

-- what is asked for writes after the output
asked_writes : (a : Ask) (v : Machine) (o : Outcome Reply) → PerformsBy a v o → EventWrites v o
asked_writes (ask.Command c) v o does = subst (EventWrites v) (sym does) (mapped_writes _ v (called (commanded c v) v) (called_writes v (commanded c v) (commanded_event c v (ends_nothing c))))
asked_writes (ask.Commands kind first second) v o does = several_event kind first (second ∷ []) v o does
asked_writes ask.Awakeable v o does = subst (EventWrites v) (sym does) (mapped_writes _ v _ (new_awakeable_writes (skips_replay v.options.journal_replay) v))
asked_writes (ask.Read r) v o does = subst (EventWrites v) (sym does) (mapped_writes _ v _ (read_writes r v))
asked_writes (ask.Signal name) v o does = subst (EventWrites v) (sym does) (mapped_writes _ v _ (signal_writes name v))
asked_writes (ask.Await future) v o does = await_event future v o does
asked_writes (ask.Take handle) v o does = subst (EventWrites v) (sym does) (mapped_writes _ v _ (take_writes handle.0 v))
asked_writes (ask.Completed handle) v o does = subst (EventWrites v) (sym does) (writes_nothing v v (same v))
asked_writes ask.End v o does = subst (EventWrites v) (sym does) (mapped_writes _ v _ (end_writes v))

-- one output is a prefix of the other
abbrev Extends : Machine → Machine → Type 0
Extends old new = IsPrefix old.output new.output

extends_same : (old new : Machine) → new.output ≡ old.output → Extends old new
extends_same old new e = ([], e ∙ sym (append-nil old.output))

does_extend : {A : Type 0} (o : Outcome A) (r : Result A Error) (v w : Machine) → EventWrites v o → Does o r v w → Extends v w
does_extend o (Ok a) v w h d = let x : Writes v w = subst (EventWrites v) d h in (map encoding x.messages, x.output)
does_extend o (Err e) v w h (inl d) = let x : Writes v w = subst (EventWrites v) d h in (map encoding x.messages, x.output)
does_extend o (Err e) v w h (inr d) = extends_same v w d.output

-- the call of a step writes after the output
step_extends : (st : Step) (v : Machine) (x : Result Reply Error) (w : Machine) → DoesBy (Performs st v) x v w → Extends v w
step_extends st v x w = by_reply x (asked_writes (ask_of v.version st) v)
  where
    by_reply : (x : Result Reply Error) → ((o : Outcome Reply) → Performs st v o → EventWrites v o) → DoesBy (Performs st v) x v w → Extends v w
    by_reply (Ok a) writes d = let x : Writes v w = writes (Done a w) d in (map encoding x.messages, x.output)
    by_reply (Err e) writes (inl d) = let x : Writes v w = writes (Failed e w) d in (map encoding x.messages, x.output)
    by_reply (Err e) writes (inr d) = extends_same v w d.output

-- ---- one call of an attempt

-- what an attempt wrote stays
abbrev pub Wrote : Record → Record → Type 0
Wrote r new = (new.taken ≡ r.taken) × Extends r.vm.machine new.vm.machine

wrote_same : (r new : Record) → new ≡ r → Wrote r new
wrote_same r new e = (ap (λ x. x.taken) e, extends_same r.vm.machine new.vm.machine (ap (λ x. x.vm.machine.output) e))

wrote_vm : (r new : Record) (w : View) → new.taken ≡ r.taken → new.vm ≡ w → Extends r.vm.machine w.machine → Wrote r new
wrote_vm r new w taken is h = (taken, subst (λ (x : View). Extends r.vm.machine x.machine) (sym is) h)

replied_vm : (r : Record) (future : Option UnresolvedFuture) (answer : Result Reply Error) (w : View) → ((replied r future answer w).taken ≡ r.taken) × ((replied r future answer w).vm ≡ w)
replied_vm r future (Ok (reply.Answer a)) w = (refl, refl)
replied_vm r future (Ok (reply.Waiting input run)) w = (refl, refl)
replied_vm r future (Ok (reply.Execute run)) w = (refl, refl)
replied_vm r future (Ok reply.Suspended) w = (refl, refl)
replied_vm r future (Ok reply.Ended) w = (refl, refl)
replied_vm r future (Err e) w = (refl, refl)

reads_wrote : (r : Record) (result : Result Progress Error) (new : Record) → InputIsRead r result new → Wrote r new
reads_wrote r (Ok g) new h =
    let w = h.1.1 in
    wrote_vm r new w (ap (λ x. x.taken) h.1.3) (ap (λ x. x.vm) h.1.3) (does_extend (called (input_step r.vm.machine) r.vm.machine) (Ok h.1.0) r.vm.machine w.machine (input_writes r.vm.machine) h.1.2.0)
reads_wrote r (Err e) new (w, calls, is) = wrote_vm r new w (ap (λ x. x.taken) is) (ap (λ x. x.vm) is) (does_extend (called (input_step r.vm.machine) r.vm.machine) (Err e) r.vm.machine w.machine (input_writes r.vm.machine) calls.0)

asks_wrote : (m : Meaning) (r : Record) (result : Result Progress Error) (new : Record) → MakesStep m r result new → Wrote r new
asks_wrote m r result new (answer, w, made, is, told) =
    let st = step_asked m r in
    let f = replied_vm r (future_in st) answer w in
    let v = r.vm.machine in
    wrote_vm r new w (ap (λ x. x.taken) is ∙ f.0) (ap (λ x. x.vm) is ∙ f.1) (step_extends st v answer w.machine made.0.0)

advances_wrote : (m : Meaning) (r : Record) (result : Result Progress Error) (new : Record) → Advances m r result new → Wrote r new
advances_wrote m r result new (inl h) = (ap (λ x. x.taken) h.1, extends_same r.vm.machine new.vm.machine (ap (λ x. x.vm.machine.output) h.1))
advances_wrote m r result new (inr (inl h)) = reads_wrote r result new h.1
advances_wrote m r result new (inr (inr h)) = asks_wrote m r result new h.1

step_at : (m : Meaning) (r : Record) (result : Result Progress Error) (new : Record) (ph : Phase) → StepAt ph m r result new → Wrote r new
step_at m r result new WaitingStart h = wrote_same r new h.1
step_at m r result new WaitingReplayEntries h = wrote_same r new h.1
step_at m r result new Closed h = wrote_same r new h.1
step_at m r result new Replaying h = advances_wrote m r result new h
step_at m r result new Processing h = advances_wrote m r result new h

step_unless : (m : Meaning) (r : Record) (result : Result Progress Error) (new : Record) (failure : Option Error) (over : Option Progress) → StepUnless failure over m r result new → Wrote r new
step_unless m r result new (Some e) over h = wrote_same r new h.1
step_unless m r result new None (Some made) h = wrote_same r new h.1
step_unless m r result new None None h = step_at m r result new r.vm.machine.phase h

pub step_wrote : (m : Meaning) (r : Record) (result : Result Progress Error) (new : Record) → StepDoes m r result new → Wrote r new
step_wrote m r result new h = by_test r.starved h
  where
    by_test : (b : Bool) → StepFrom b m r result new → Wrote r new
    by_test true d = wrote_same r new d.1
    by_test false d = step_unless m r result new r.vm.machine.failure r.over d

-- ---- input

kept_vm : (r : Record) (piece : List ℕ) (w : View) (o : Option Error) (ph : Phase) → (with_vm w (kept_at o ph piece r)).taken ≡ r.taken
kept_vm r piece w (Some e) ph = refl
kept_vm r piece w None Closed = refl
kept_vm r piece w None WaitingStart = refl
kept_vm r piece w None WaitingReplayEntries = refl
kept_vm r piece w None Replaying = refl
kept_vm r piece w None Processing = refl

feeds_wrote : (piece : List ℕ) (r : Record) (result : Result Unit AllocError) (new : Record) → FeedsPiece piece r result new → Wrote r new
feeds_wrote piece r (Ok t) new d =
    let q = input_quiet r.vm piece in
    wrote_vm r new (after_input r.vm piece) (ap (λ x. x.taken) d ∙ kept_vm r piece (after_input r.vm piece) r.vm.machine.failure r.vm.machine.phase) (ap (λ x. x.vm) d) (map encoding q.messages, q.output)
feeds_wrote piece r (Err e) new (inl d) = (ap (λ x. x.taken) d, extends_same r.vm.machine new.vm.machine (ap (λ x. x.vm.machine.output) d))
feeds_wrote piece r (Err e) new (inr (w, dead, d)) =
    wrote_vm r new w (ap (λ x. x.taken) d ∙ kept_vm r piece w r.vm.machine.failure r.vm.machine.phase) (ap (λ x. x.vm) d) (extends_same r.vm.machine w.machine (among_output _ r.vm.machine w.machine dead))

pub feed_wrote : (piece : List ℕ) (r : Record) (result : Result Unit AllocError) (new : Record) → FeedDoes r.starved piece r result new → Wrote r new
feed_wrote piece r result new h = by_test r.starved h
  where
    by_test : (b : Bool) → FeedDoes b piece r result new → Wrote r new
    by_test true d = wrote_same r new d.1
    by_test false d = feeds_wrote piece r result new d

left_extends : {A : Type 0} (o : Outcome A) (v : Machine) → EventWrites v o → Extends v (left_by o)
left_extends (Done a w) v h = (map encoding h.messages, h.output)
left_extends (Failed e w) v h = (map encoding h.messages, h.output)

closes_wrote : (r : Record) (result : Result Unit AllocError) (new : Record) → InputIsClosed r result new → Wrote r new
closes_wrote r (Ok t) new d = wrote_vm r new (after_closing r.vm) (ap (λ x. x.taken) d) (ap (λ x. x.vm) d) (left_extends (called (close_step r.vm.machine) r.vm.machine) r.vm.machine (close_writes r.vm.machine))
closes_wrote r (Err e) new (w, dead, d) = wrote_vm r new w (ap (λ x. x.taken) d) (ap (λ x. x.vm) d) (extends_same r.vm.machine w.machine (among_output _ r.vm.machine w.machine dead))

pub close_wrote : (r : Record) (result : Result Unit AllocError) (new : Record) → CloseDoes r.starved r result new → Wrote r new
close_wrote r result new h = by_test r.starved result h
  where
    by_test : (b : Bool) (result : Result Unit AllocError) → CloseDoes b r result new → Wrote r new
    by_test true result d = wrote_same r new d.1
    by_test false result d = closes_wrote r result new d

pub finish_wrote : (handle : NotificationHandle) (exit : RunExitResult) (policy : RetryPolicy) (r : Record) (result : Result Unit Error) (new : Record) → FinishDoes r.starved handle exit policy r result new → Wrote r new
finish_wrote handle exit policy r result new h = let f = finished handle exit policy r result new h in (f.taken, f.output)

-- the bytes that were written begin those that are written now
pub bytes_grow : (r new : Record) → Wrote r new → IsPrefix (bytes_written r) (bytes_written new)
bytes_grow r new (taken, (more, is)) = (
  concat more,
  (λ i. concat (taken i) ++ concat (is i)) ∙ ap (λ l. concat r.taken ++ l) (concat-append r.vm.machine.output more) ∙ sym (append_assoc (concat r.taken) (concat r.vm.machine.output) (concat more)),
)
