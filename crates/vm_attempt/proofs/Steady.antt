-- What the calls of an attempt write, except the results of runs, proposes nothing; so what they do to its record is what they do to
-- its fields.
use Rattle.std.proofs.Common.{◌≡◌, ◌≢◌, ◌⊎◌, ℕ, true, false, Bool, List, [], ◌∷◌, ◌++◌, map, Option, Some, None, Result, Ok, Err, refl, sym, ap, ◌∙◌, subst, inl, inr, ⊎_elim, append-nil, Global}
use Rattle.std.specs.List.{concat}
use Rattle.std.proofs.lemmas.List.Folds.{concat-append}
use Rattle.std.specs.declared.alloc.AllocError.{AllocError}
use Rattle.journal_protocol.specs.Error.{Error}
use Rattle.journal_protocol.specs.Version.{Version}
use Rattle.journal_protocol.specs.Message.{Message}
use Rattle.journal_protocol.specs.RawMessage.{RawMessage}
use Rattle.journal_protocol.specs.Frames.{encoding}
use Rattle.vm_types.specs.declared.options.VMOptions.{VMOptions}
use Rattle.journal_protocol.specs.ProposeRunCompletion.{ProposeRunCompletion}
use Rattle.vm_types.specs.declared.steps.Answer.TheVariants as answer
use Rattle.vm_parts.specs.Outboxes.{WholeFrames}
use Rattle.await_trees.specs.declared.tree.UnresolvedFuture.{UnresolvedFuture}
use Rattle.vm_machine.specs.declared.machine.Machine.{Machine}
use Rattle.vm_machine.specs.declared.phase.Phase.{Phase}
use Rattle.vm_machine.specs.declared.phase.Phase.TheVariants.{WaitingStart, WaitingReplayEntries, Replaying, Processing, Closed}
use Rattle.vm_machine.specs.Inputs.{input_step}
use Rattle.vm_machine.specs.Outcomes.{Done, Failed, IsStarved, called}
use Rattle.vm_machine.specs.Phases.{is_running}
use Rattle.invocation_vm.specs.Making.{made}
use Rattle.invocation_vm.specs.Views.{StarvesAmong, View, after_closing, after_input, messages_in_bytes}
use Rattle.invocation_vm.proofs.Feeds.{among_output}
use Rattle.vm_model.specs.Calls.{Meaning}
use Rattle.journal_entries.specs.Journal.{stored_form}
use Rattle.vm_attempt.specs.declared.progress.Progress.{Progress}
use Rattle.vm_attempt.specs.declared.progress.Reply.{Reply}
use Rattle.vm_attempt.specs.declared.progress.Reply.TheVariants as reply
use Rattle.vm_attempt.specs.Heard.{proposals_among, proposals_in}
use Rattle.vm_attempt.specs.Record.{Record, bytes_written, heard}
use Rattle.vm_attempt.specs.Stepping.{Advances, MakesStep, CloseDoes, InputIsClosed, FeedDoes, FeedsPiece, LacksMemory, MakesAttempt, InputIsRead, StepAt, StepDoes, StepFrom, StepUnless, Takes, fresh_record, future_in, with_piece_kept, kept_at, replied, step_asked, output_taken, with_vm}
use Rattle.vm_attempt.specs.Told.{BeforeInput, JournalCame, HasCome, IsLive, Quiet, Wrote}
use Rattle.vm_attempt.proofs.Advanced.{done_of, failed_quiet, input_silent}
use Rattle.vm_attempt.proofs.Quiet.{Silent, closing_quiet, input_quiet}
use Rattle.vm_attempt.proofs.Sending.{IsLeft, Sends, step_leaves}
use Rattle.vm_attempt.proofs.Written.{frames_propose, proposes_more}
use Rattle.vm_model.specs.Fixed.{Fixed}

-- ---- what is written

-- messages were written, none of which proposes a result
record Writes (old new : Record) : Type 0 where
  taken : new.taken ≡ old.taken
  messages : List Message
  output : new.vm.machine.output ≡ old.vm.machine.output ++ map encoding messages
  proposals : proposals_among (map stored_form messages) ≡ []

writes_none : (old new : Record) → new.taken ≡ old.taken → new.vm.machine.output ≡ old.vm.machine.output → Writes old new
writes_none old new taken output = record { taken = taken; messages = []; output = output ∙ sym (append-nil old.vm.machine.output); proposals = refl }

writes_quiet : (old new : Record) → new.taken ≡ old.taken → Quiet old.vm.machine new.vm.machine → Writes old new
writes_quiet old new taken q = record { taken = taken; messages = q.messages; output = q.output; proposals = q.proposals }

writes_sent : (old new : Record) → new.taken ≡ old.taken → Sends old.vm.machine new.vm.machine → Writes old new
writes_sent old new taken s = record { taken = taken; messages = s.messages; output = s.output; proposals = s.proposals }

-- ---- input

kept_taken : (o : Option Error) (ph : Phase) (piece : List ℕ) (r : Record) → (kept_at o ph piece r).taken ≡ r.taken
kept_taken (Some e) ph piece r = refl
kept_taken None WaitingStart piece r = refl
kept_taken None WaitingReplayEntries piece r = refl
kept_taken None Replaying piece r = refl
kept_taken None Processing piece r = refl
kept_taken None Closed piece r = refl

feeds_writes : (piece : List ℕ) (old : Record) (result : Result Unit AllocError) (new : Record) → FeedsPiece piece old result new → Writes old new
feeds_writes piece old (Ok t) new does =
    subst (Writes old) (sym does) (writes_quiet old (with_vm (after_input old.vm piece) (with_piece_kept piece old)) (kept_taken old.vm.machine.failure old.vm.machine.phase piece old) (input_quiet old.vm piece))
feeds_writes piece old (Err e) new does =
    ⊎_elim
    (λ (x : new ≡ record old { starved = true }). subst (Writes old) (sym x) (writes_none old (record old { starved = true }) refl refl))
    (λ (x : (w : View) × StarvesAmong (messages_in_bytes old.vm piece) old.vm.machine w.machine × (new ≡ with_vm w (with_piece_kept piece old))).
    subst (Writes old) (sym x.2) (writes_none old (with_vm x.0 (with_piece_kept piece old)) (kept_taken old.vm.machine.failure old.vm.machine.phase piece old) (among_output _ old.vm.machine x.0.machine x.1)))
    does

feed_writes : (piece : List ℕ) (old : Record) (result : Result Unit AllocError) (new : Record) → FeedDoes old.starved piece old result new → Writes old new
feed_writes piece old result new does = by_test old.starved does
  where
    by_test : (b : Bool) → FeedDoes b piece old result new → Writes old new
    by_test true d = subst (Writes old) (sym d.1) (writes_none old old refl refl)
    by_test false d = feeds_writes piece old result new d

closes_writes : (old : Record) (result : Result Unit AllocError) (new : Record) → InputIsClosed old result new → Writes old new
closes_writes old (Ok t) new does = subst (Writes old) (sym does) (writes_quiet old (record old { closed = true; vm = after_closing old.vm }) refl (closing_quiet old.vm))
closes_writes old (Err e) new does = subst (Writes old) (sym does.2) (writes_none old (record old { closed = true; vm = does.0 }) refl (among_output _ old.vm.machine does.0.machine does.1))

close_writes : (old : Record) (result : Result Unit AllocError) (new : Record) → CloseDoes old.starved old result new → Writes old new
close_writes old result new does = by_test old.starved does
  where
    by_test : (b : Bool) → CloseDoes b old result new → Writes old new
    by_test true d = subst (Writes old) (sym d.1) (writes_none old old refl refl)
    by_test false d = closes_writes old result new d

-- ---- a step

silent_done : {A : Type 0} (v : Machine) (a : A) (w : Machine) → Silent v (Done a w) → w.output ≡ v.output
silent_done v a w h = h

reads_writes : (old : Record) (result : Result Progress Error) (new : Record) → old.vm.machine.failure ≡ None → InputIsRead old result new → Writes old new
reads_writes old (Ok made) new live (stepped, (input, w, does, is)) =
    subst (Writes old) (sym is)
    (writes_none old (record old { answers = answer.Input input ∷ []; vm = w }) refl
    (silent_done old.vm.machine input w.machine (subst (Silent old.vm.machine) (done_of old.vm.machine (input_step old.vm.machine) input w.machine live does.0) (input_silent old.vm.machine))))
reads_writes old (Err e) new live (w, does, is) =
    subst (Writes old) (sym is)
    (⊎_elim
    (λ (x : called (input_step old.vm.machine) old.vm.machine ≡ Failed e w.machine). writes_quiet old (with_vm w old) refl (failed_quiet old.vm.machine (input_step old.vm.machine) e w.machine (input_silent old.vm.machine) x).0)
    (λ (x : IsStarved old.vm.machine e w.machine). writes_none old (with_vm w old) refl x.output)
    does.0)

asks_writes : (m : Meaning) (old : Record) (result : Result Progress Error) (new : Record) → IsLive old.vm.machine → MakesStep m old result new → Writes old new
asks_writes m old result new live (x, w, does, is, made) = subst (Writes old) (sym is) (by_reply x (step_leaves (step_asked m old) old.vm.machine live x w.machine does.0.0))
  where
    by_reply : (x : Result Reply Error) → IsLeft old.vm.machine x w.machine → Writes old (replied old (future_in (step_asked m old)) x w)
    by_reply (Ok (reply.Answer a)) h = writes_sent old _ refl h.sends
    by_reply (Ok (reply.Waiting input run)) h = writes_sent old _ refl h.sends
    by_reply (Ok (reply.Execute run)) h = writes_sent old _ refl h.sends
    by_reply (Ok reply.Suspended) h = writes_sent old _ refl h.sends
    by_reply (Ok reply.Ended) h = writes_sent old _ refl h.sends
    by_reply (Err e) h = writes_sent old _ refl h.0

advances_writes : (m : Meaning) (old : Record) (result : Result Progress Error) (new : Record) → IsLive old.vm.machine → Advances m old result new → Writes old new
advances_writes m old result new live =
    ⊎_elim
    (λ (x : LacksMemory old result new). subst (Writes old) (sym x.1) (writes_none old (record old { starved = true }) refl refl))
    (λ (o : ((old.answers ≡ []) × InputIsRead old result new) ⊎ ((old.answers ≢ []) × MakesStep m old result new)).
    ⊎_elim
    (λ (x : (old.answers ≡ []) × InputIsRead old result new). reads_writes old result new live.failure x.1)
    (λ (x : (old.answers ≢ []) × MakesStep m old result new). asks_writes m old result new live x.1)
    o)

step_at_writes : (ph : Phase) (m : Meaning) (old : Record) (result : Result Progress Error) (new : Record) → old.vm.machine.failure ≡ None → old.vm.machine.phase ≡ ph → StepAt ph m old result new → Writes old new
step_at_writes WaitingStart m old result new live at d = subst (Writes old) (sym d.1) (writes_none old old refl refl)
step_at_writes WaitingReplayEntries m old result new live at d = subst (Writes old) (sym d.1) (writes_none old old refl refl)
step_at_writes Closed m old result new live at d = subst (Writes old) (sym d.1) (writes_none old old refl refl)
step_at_writes Replaying m old result new live at d = advances_writes m old result new (record { failure = live; phase = ap is_running at }) d
step_at_writes Processing m old result new live at d = advances_writes m old result new (record { failure = live; phase = ap is_running at }) d

step_unless_writes : (f : Option Error) (over : Option Progress) (m : Meaning) (old : Record) (result : Result Progress Error) (new : Record) → old.vm.machine.failure ≡ f → StepUnless f over m old result new → Writes old new
step_unless_writes (Some e) over m old result new is d = subst (Writes old) (sym d.1) (writes_none old old refl refl)
step_unless_writes None (Some made) m old result new is d = subst (Writes old) (sym d.1) (writes_none old old refl refl)
step_unless_writes None None m old result new is d = step_at_writes old.vm.machine.phase m old result new is refl d

step_writes : (m : Meaning) (old : Record) (result : Result Progress Error) (new : Record) → StepDoes m old result new → Writes old new
step_writes m old result new does = by_test old.starved does
  where
    by_test : (b : Bool) → StepFrom b m old result new → Writes old new
    by_test true d = subst (Writes old) (sym d.1) (writes_none old old refl refl)
    by_test false d = step_unless_writes old.vm.machine.failure old.over m old result new refl d

-- ---- what was proposed

-- the proposals among all frames of the output
abbrev pub all_proposed : Record → List ProposeRunCompletion
all_proposed r = proposals_in (bytes_written r)

pub wrote_of : (fixed : Fixed) (r : Record) → HasCome fixed r → (written : List RawMessage) × Wrote r.taken r.vm.machine.output written
wrote_of fixed r =
    ⊎_elim
    (λ (b : BeforeInput fixed (heard fixed.version r) r.answers r.waiting r.taken r.vm). ([], b.wrote))
    (λ (c : JournalCame fixed (heard fixed.version r) r.answers r.taken r.vm). (c.written, c.wrote))

steady : (old new : Record) (written : List RawMessage) → Wrote old.taken old.vm.machine.output written → WholeFrames old.vm.machine.output → WholeFrames new.vm.machine.output → Writes old new → all_proposed new ≡ all_proposed old
steady old new written w f g x =
    ap (λ (t : List (List ℕ)). proposals_in (concat t ++ concat new.vm.machine.output)) x.taken
    ∙ proposes_more old.taken old.vm.machine.output new.vm.machine.output written w f g x.messages x.output
    ∙ ap (λ l. all_proposed old ++ l) x.proposals ∙ append-nil (all_proposed old)

-- ---- the fields, and the record

-- the same record, in which this was proposed
abbrev pub with_proposed : List ProposeRunCompletion → Record → Record
with_proposed ps r = record r { proposed = ps }

both_steady : (fixed : Fixed) (old new : Record) → HasCome fixed (with_proposed (all_proposed old) old) → WholeFrames old.vm.machine.output → WholeFrames new.vm.machine.output → Writes old new → all_proposed new ≡ all_proposed old
both_steady fixed old new came f g x =
    let w = wrote_of fixed (with_proposed (all_proposed old) old) came in
    steady old new w.0 w.1 f g x

kept_with : (ps : List ProposeRunCompletion) (o : Option Error) (ph : Phase) (piece : List ℕ) (r : Record) → with_proposed ps (kept_at o ph piece r) ≡ kept_at o ph piece (with_proposed ps r)
kept_with ps (Some e) ph piece r = refl
kept_with ps None WaitingStart piece r = refl
kept_with ps None WaitingReplayEntries piece r = refl
kept_with ps None Replaying piece r = refl
kept_with ps None Processing piece r = refl
kept_with ps None Closed piece r = refl

feeds_with : (ps : List ProposeRunCompletion) (piece : List ℕ) (old : Record) (result : Result Unit AllocError) (new : Record) → FeedsPiece piece old result new → FeedsPiece piece (with_proposed ps old) result (with_proposed ps new)
feeds_with ps piece old (Ok t) new does = ap (with_proposed ps) does ∙ ap (with_vm (after_input old.vm piece)) (kept_with ps old.vm.machine.failure old.vm.machine.phase piece old)
feeds_with ps piece old (Err e) new does =
    ⊎_elim
    (λ (x : new ≡ record old { starved = true }). inl (ap (with_proposed ps) x))
    (λ (x : (w : View) × StarvesAmong (messages_in_bytes old.vm piece) old.vm.machine w.machine × (new ≡ with_vm w (with_piece_kept piece old))).
    inr (x.0, x.1, ap (with_proposed ps) x.2 ∙ ap (with_vm x.0) (kept_with ps old.vm.machine.failure old.vm.machine.phase piece old)))
    does

pub feed_told : (fixed : Fixed) (piece : List ℕ) (old : Record) (result : Result Unit AllocError) (new : Record) → HasCome fixed (with_proposed (all_proposed old) old) → WholeFrames old.vm.machine.output → WholeFrames new.vm.machine.output
    → FeedDoes old.starved piece old result new → FeedDoes old.starved piece (with_proposed (all_proposed old) old) result (with_proposed (all_proposed new) new)
feed_told fixed piece old result new came f g does =
    subst (λ ps. FeedDoes old.starved piece (with_proposed (all_proposed old) old) result (with_proposed ps new)) (sym (both_steady fixed old new came f g (feed_writes piece old result new does))) (by_test old.starved does)
  where
    by_test : (b : Bool) → FeedDoes b piece old result new → FeedDoes b piece (with_proposed (all_proposed old) old) result (with_proposed (all_proposed old) new)
    by_test true d = (d.0, ap (with_proposed (all_proposed old)) d.1)
    by_test false d = feeds_with (all_proposed old) piece old result new d

closes_with : (ps : List ProposeRunCompletion) (old : Record) (result : Result Unit AllocError) (new : Record) → InputIsClosed old result new → InputIsClosed (with_proposed ps old) result (with_proposed ps new)
closes_with ps old (Ok t) new does = ap (with_proposed ps) does
closes_with ps old (Err e) new (w, starves, is) = (w, starves, ap (with_proposed ps) is)

pub close_told : (fixed : Fixed) (old : Record) (result : Result Unit AllocError) (new : Record) → HasCome fixed (with_proposed (all_proposed old) old) → WholeFrames old.vm.machine.output → WholeFrames new.vm.machine.output
    → CloseDoes old.starved old result new → CloseDoes old.starved (with_proposed (all_proposed old) old) result (with_proposed (all_proposed new) new)
close_told fixed old result new came f g does =
    subst (λ ps. CloseDoes old.starved (with_proposed (all_proposed old) old) result (with_proposed ps new)) (sym (both_steady fixed old new came f g (close_writes old result new does))) (by_test old.starved does)
  where
    by_test : (b : Bool) → CloseDoes b old result new → CloseDoes b (with_proposed (all_proposed old) old) result (with_proposed (all_proposed old) new)
    by_test true d = (d.0, ap (with_proposed (all_proposed old)) d.1)
    by_test false d = closes_with (all_proposed old) old result new d

-- what was taken is written as before
taken_proposes : (r : Record) → all_proposed (output_taken r) ≡ all_proposed r
taken_proposes r = ap proposals_in (append-nil (concat (r.taken ++ concat r.vm.machine.output ∷ [])) ∙ concat-append r.taken (concat r.vm.machine.output ∷ []) ∙ ap (λ l. concat r.taken ++ l) (append-nil (concat r.vm.machine.output)))

pub take_told : (old : Record) (result : Result (List ℕ) AllocError) (new : Record) → Takes old result new → Takes (with_proposed (all_proposed old) old) result (with_proposed (all_proposed new) new)
take_told old (Ok bytes) new (is, left, whole) =
    (is, ap (λ (r : Record). with_proposed (all_proposed r) r) left ∙ ap (λ ps. with_proposed ps (output_taken old)) (taken_proposes old), whole)
take_told old (Err e) new is = ap (λ (r : Record). with_proposed (all_proposed r) r) is

replied_with : (ps : List ProposeRunCompletion) (r : Record) (future : Option UnresolvedFuture) (x : Result Reply Error) (w : View) → with_proposed ps (replied r future x w) ≡ replied (with_proposed ps r) future x w
replied_with ps r future (Ok (reply.Answer a)) w = refl
replied_with ps r future (Ok (reply.Waiting input run)) w = refl
replied_with ps r future (Ok (reply.Execute run)) w = refl
replied_with ps r future (Ok reply.Suspended) w = refl
replied_with ps r future (Ok reply.Ended) w = refl
replied_with ps r future (Err e) w = refl

reads_with : (ps : List ProposeRunCompletion) (old : Record) (result : Result Progress Error) (new : Record) → InputIsRead old result new → InputIsRead (with_proposed ps old) result (with_proposed ps new)
reads_with ps old (Ok made) new (stepped, (input, w, does, is)) = (stepped, (input, w, does, ap (with_proposed ps) is))
reads_with ps old (Err e) new (w, does, is) = (w, does, ap (with_proposed ps) is)

asks_with : (ps : List ProposeRunCompletion) (m : Meaning) (old : Record) (result : Result Progress Error) (new : Record) → MakesStep m old result new → MakesStep m (with_proposed ps old) result (with_proposed ps new)
asks_with ps m old result new (x, w, does, is, made) = (x, w, does, ap (with_proposed ps) is ∙ replied_with ps old (future_in (step_asked m old)) x w, made)

advances_with : (ps : List ProposeRunCompletion) (m : Meaning) (old : Record) (result : Result Progress Error) (new : Record) → Advances m old result new → Advances m (with_proposed ps old) result (with_proposed ps new)
advances_with ps m old result new =
    ⊎_elim
    (λ (x : LacksMemory old result new). inl (x.0, ap (with_proposed ps) x.1))
    (λ (o : ((old.answers ≡ []) × InputIsRead old result new) ⊎ ((old.answers ≢ []) × MakesStep m old result new)).
    ⊎_elim
    (λ (x : (old.answers ≡ []) × InputIsRead old result new). inr (inl (x.0, reads_with ps old result new x.1)))
    (λ (x : (old.answers ≢ []) × MakesStep m old result new). inr (inr (x.0, asks_with ps m old result new x.1)))
    o)

step_at_with : (ps : List ProposeRunCompletion) (ph : Phase) (m : Meaning) (old : Record) (result : Result Progress Error) (new : Record) → StepAt ph m old result new → StepAt ph m (with_proposed ps old) result (with_proposed ps new)
step_at_with ps WaitingStart m old result new d = (d.0, ap (with_proposed ps) d.1)
step_at_with ps WaitingReplayEntries m old result new d = (d.0, ap (with_proposed ps) d.1)
step_at_with ps Closed m old result new d = (d.0, ap (with_proposed ps) d.1)
step_at_with ps Replaying m old result new d = advances_with ps m old result new d
step_at_with ps Processing m old result new d = advances_with ps m old result new d

step_unless_with : (ps : List ProposeRunCompletion) (f : Option Error) (over : Option Progress) (m : Meaning) (old : Record) (result : Result Progress Error) (new : Record) → StepUnless f over m old result new → StepUnless f over m (with_proposed ps old) result (with_proposed ps new)
step_unless_with ps (Some e) over m old result new d = (d.0, ap (with_proposed ps) d.1)
step_unless_with ps None (Some made) m old result new d = (d.0, ap (with_proposed ps) d.1)
step_unless_with ps None None m old result new d = step_at_with ps old.vm.machine.phase m old result new d

pub step_told : (fixed : Fixed) (old : Record) (result : Result Progress Error) (new : Record) → HasCome fixed (with_proposed (all_proposed old) old) → WholeFrames old.vm.machine.output → WholeFrames new.vm.machine.output
    → StepDoes fixed.handler old result new → StepDoes fixed.handler (with_proposed (all_proposed old) old) result (with_proposed (all_proposed new) new)
step_told fixed old result new came f g does =
    subst (λ ps. StepDoes fixed.handler (with_proposed (all_proposed old) old) result (with_proposed ps new)) (sym (both_steady fixed old new came f g (step_writes fixed.handler old result new does))) (by_test old.starved does)
  where
    by_test : (b : Bool) → StepFrom b fixed.handler old result new → StepFrom b fixed.handler (with_proposed (all_proposed old) old) result (with_proposed (all_proposed old) new)
    by_test true d = (d.0, ap (with_proposed (all_proposed old)) d.1)
    by_test false d = step_unless_with (all_proposed old) old.vm.machine.failure old.over fixed.handler old result new d

-- ---- making

new_proposes : (alloc : Global) (options : VMOptions) (version : Version) (v : View) → v ≡ made alloc options version → all_proposed (fresh_record v) ≡ []
new_proposes alloc options version v is = subst (λ x. all_proposed (fresh_record x) ≡ []) (sym is) (frames_propose [] tt)

-- the record of an attempt that is made
pub new_told : (alloc : Global) (options : VMOptions) (version : Version) (v : View) (fields : Record) → v ≡ made alloc options version → fields ≡ fresh_record v → with_proposed (all_proposed fields) fields ≡ fresh_record v
new_told alloc options version v fields makes is = ap (λ (r : Record). with_proposed (all_proposed r) r) is ∙ ap (λ ps. with_proposed ps (fresh_record v)) (new_proposes alloc options version v makes)

-- and the attempt
pub made_told : {H : Type 0} (alloc : Global) (options : VMOptions) (handler kept : H) (version : Version) (v : View) (fields : Record) → v ≡ made alloc options version → fields ≡ fresh_record v → kept ≡ handler
    → MakesAttempt alloc options handler (Ok version) (Ok (record { handler = kept; version = version; options = options; record_of = with_proposed (all_proposed fields) fields }))
made_told alloc options handler kept version v fields is fresh same =
    let told = new_told alloc options version v fields is fresh ∙ ap fresh_record is in
    λ i. record { handler = same i; version = version; options = options; record_of = told i }
