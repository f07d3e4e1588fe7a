-- No run of an attempt is handed out twice to be executed.
use Rattle.std.proofs.Common.{◌≡◌, ◌≢◌, ◌⊎◌, ℕ, zero, suc, ◌+◌, ◌≤◌, Bool, true, false, cond, List, [], Option, Some, None, Result, Ok, Err, refl, sym, ap, ◌∙◌, subst, ⊎_elim, arith, Global}
use Rattle.std.specs.Prelude.{nat_le, unwrap_or}
use Rattle.std.specs.declared.alloc.AllocError.{AllocError}
use Rattle.await_trees.specs.declared.handle.NotificationHandle.{NotificationHandle}
use Rattle.journal_protocol.specs.Error.{Error}
use Rattle.journal_protocol.specs.Version.{Version}
use Rattle.journal_protocol.specs.Errors.{no_memory}
use Rattle.vm_types.specs.declared.options.VMOptions.{VMOptions}
use Rattle.vm_machine.specs.declared.machine.Machine.{Machine}
use Rattle.vm_machine.specs.declared.phase.Phase.{Phase}
use Rattle.vm_machine.specs.declared.phase.Phase.TheVariants.{WaitingStart, WaitingReplayEntries, Replaying, Processing, Closed}
use Rattle.vm_machine.specs.Inputs.{input_step}
use Rattle.vm_machine.specs.Making.{fresh}
use Rattle.vm_machine.specs.Outcomes.{Failed, IsStarved, called}
use Rattle.vm_machine.specs.Phases.{is_running}
use Rattle.invocation_vm.specs.Making.{made}
use Rattle.invocation_vm.specs.Views.{StarvesAmong, View, after_closing, after_input, messages_in_bytes}
use Rattle.vm_model.specs.Calls.{Meaning}
use Rattle.vm_model.specs.Fixed.{Fixed}
use Rattle.vm_attempt.specs.Courses.{OneCall, Leads}
use Rattle.vm_attempt.specs.Courses.OneCall.{Closing, Feeding, Stepping, Taking, Telling}
use Rattle.vm_attempt.specs.declared.progress.Progress.{Progress}
use Rattle.vm_attempt.specs.declared.progress.Progress.TheVariants as progress
use Rattle.vm_attempt.specs.declared.progress.Reply.{Reply}
use Rattle.vm_attempt.specs.declared.progress.Reply.TheVariants as reply
use Rattle.vm_attempt.specs.Record.{Record}
use Rattle.vm_attempt.specs.Stepping.{Advances, MakesStep, CloseDoes, InputIsClosed, FeedDoes, FeedsPiece, LacksMemory, InputIsRead, StepAt, StepDoes, StepFrom, StepUnless, Takes, fresh_record, future_in, with_piece_kept, progress_of, replied, step_asked, output_taken, with_vm}
use Rattle.vm_attempt.specs.Told.{IsLive}
use Rattle.vm_attempt.proofs.Advanced.{done_of}
use Rattle.vm_attempt.proofs.Ahead.{Fewer, HandsOut, HasRunOf, LivesOn, ahead, fewer_equal, fewer_same, fewer_then}
use Rattle.vm_attempt.proofs.Erring.{Opens, called_failed, input_opens}
use Rattle.vm_attempt.proofs.Finishing.{finish_lives}
use Rattle.vm_attempt.proofs.Late.{closes_over, feeds_over}
use Rattle.vm_attempt.proofs.Living as still
use Rattle.vm_attempt.proofs.Sending.{IsLeft, step_leaves}

-- ---- what comes to a machine

lives_same : (v : Machine) → LivesOn v v
lives_same = still.lives_same Fewer fewer_same fewer_then fewer_equal

lives_then : (u v w : Machine) → LivesOn u v → LivesOn v w → LivesOn u w
lives_then = still.lives_then Fewer fewer_same fewer_then fewer_equal

-- a machine that has failed doesn't live on
failed_lives : (e : Error) (v w : Machine) → w.failure ≡ Some e → LivesOn v w
failed_lives e v w is = still.failed_lives e w is

starved_lives : (e : Error) (reached v w : Machine) → IsStarved reached e w → LivesOn v w
starved_lives e reached v w s = failed_lives (unwrap_or reached.failure no_memory) v w s.failure

-- a piece comes
input_lives : (v : View) (bytes : List ℕ) → LivesOn v.machine (after_input v bytes).machine
input_lives = still.input_lives Fewer fewer_same fewer_then fewer_equal

-- the input is closed
closing_lives : (v : View) → LivesOn v.machine (after_closing v).machine
closing_lives = still.closing_lives Fewer fewer_same fewer_then fewer_equal

-- ---- the calls of an attempt

-- what is answered once the attempt is over executes no run
abbrev pub ExecutesNone : Option Progress → Type 0
ExecutesNone None = Unit {0}
ExecutesNone (Some progress.NotReady) = Unit {0}
ExecutesNone (Some progress.Stepped) = Unit {0}
ExecutesNone (Some (progress.Waiting input run)) = Unit {0}
ExecutesNone (Some (progress.ExecuteRun run)) = ⊥
ExecutesNone (Some progress.Suspended) = Unit {0}
ExecutesNone (Some progress.Ended) = Unit {0}

-- what each call keeps
pub record Keeps (old new : Record) : Type 0 where
  pub over : ExecutesNone old.over → ExecutesNone new.over
  pub lives : LivesOn old.vm.machine new.vm.machine

keeps_same : (r : Record) → Keeps r r
keeps_same r = record { over = λ o. o; lives = lives_same r.vm.machine }

keeps_then : (a b c : Record) → Keeps a b → Keeps b c → Keeps a c
keeps_then a b c k l = record { over = λ o. l.over (k.over o); lives = lives_then a.vm.machine b.vm.machine c.vm.machine k.lives l.lives }

-- a call that leaves how the attempt is over as it was
keeps_going : (old new : Record) → new.over ≡ old.over → LivesOn old.vm.machine new.vm.machine → Keeps old new
keeps_going old new over lives = record { over = λ o. subst ExecutesNone (sym over) o; lives = lives }

feeds_keep : (piece : List ℕ) (old : Record) (result : Result Unit AllocError) (new : Record) → FeedsPiece piece old result new → LivesOn old.vm.machine new.vm.machine
feeds_keep piece old (Ok t) new does = subst (λ (r : Record). LivesOn old.vm.machine r.vm.machine) (sym does) (input_lives old.vm piece)
feeds_keep piece old (Err e) new does =
    ⊎_elim
    (λ (x : new ≡ record old { starved = true }). subst (λ (r : Record). LivesOn old.vm.machine r.vm.machine) (sym x) (lives_same old.vm.machine))
    (λ (x : (w : View) × StarvesAmong (messages_in_bytes old.vm piece) old.vm.machine w.machine × (new ≡ with_vm w (with_piece_kept piece old))).
    subst (λ (r : Record). LivesOn old.vm.machine r.vm.machine) (sym x.2) (starved_lives no_memory x.1.reached old.vm.machine x.0.machine x.1.starved))
    does

feed_keeps : (piece : List ℕ) (old : Record) (result : Result Unit AllocError) (new : Record) → FeedDoes old.starved piece old result new → Keeps old new
feed_keeps piece old result new does = by_test old.starved does
  where
    by_test : (b : Bool) → FeedDoes b piece old result new → Keeps old new
    by_test true d = subst (Keeps old) (sym d.1) (keeps_same old)
    by_test false d = keeps_going old new (feeds_over piece old result new d) (feeds_keep piece old result new d)

closes_keep : (old : Record) (result : Result Unit AllocError) (new : Record) → InputIsClosed old result new → LivesOn old.vm.machine new.vm.machine
closes_keep old (Ok t) new does = subst (λ (r : Record). LivesOn old.vm.machine r.vm.machine) (sym does) (closing_lives old.vm)
closes_keep old (Err e) new (w, starves, is) = subst (λ (r : Record). LivesOn old.vm.machine r.vm.machine) (sym is) (starved_lives no_memory starves.reached old.vm.machine w.machine starves.starved)

close_keeps : (old : Record) (result : Result Unit AllocError) (new : Record) → CloseDoes old.starved old result new → Keeps old new
close_keeps old result new does = by_test old.starved does
  where
    by_test : (b : Bool) → CloseDoes b old result new → Keeps old new
    by_test true d = subst (Keeps old) (sym d.1) (keeps_same old)
    by_test false d = keeps_going old new (closes_over old result new d) (closes_keep old result new d)

take_keeps : (old : Record) (result : Result (List ℕ) AllocError) (new : Record) → Takes old result new → Keeps old new
take_keeps old (Ok bytes) new does = subst (Keeps old) (sym does.1) (keeps_going old (output_taken old) refl (λ none. (none, fewer_same old.vm.machine)))
take_keeps old (Err e) new does = subst (Keeps old) (sym does) (keeps_same old)

-- ---- a step

reads_keep : (old : Record) (result : Result Progress Error) (new : Record) → old.vm.machine.failure ≡ None → InputIsRead old result new → Keeps old new
reads_keep old (Ok made) new live (stepped, (input, w, does, is)) =
    let o = subst (Opens old.vm.machine) (done_of old.vm.machine (input_step old.vm.machine) input w.machine live does.0) (input_opens old.vm.machine) in
    keeps_going old new (ap (λ (r : Record). r.over) is) (subst (λ (r : Record). LivesOn old.vm.machine r.vm.machine) (sym is) (λ none. (live, o.2)))
reads_keep old (Err e) new live (w, does, is) =
    keeps_going old new (ap (λ (r : Record). r.over) is)
    (subst (λ (r : Record). LivesOn old.vm.machine r.vm.machine) (sym is)
    (⊎_elim
    (λ (x : called (input_step old.vm.machine) old.vm.machine ≡ Failed e w.machine). failed_lives e old.vm.machine w.machine (called_failed old.vm.machine (input_step old.vm.machine) e w.machine live x).0)
    (λ (x : IsStarved old.vm.machine e w.machine). starved_lives e old.vm.machine old.vm.machine w.machine x)
    does.0))

asks_keep : (m : Meaning) (old : Record) (result : Result Progress Error) (new : Record) → IsLive old.vm.machine → MakesStep m old result new → Keeps old new
asks_keep m old result new live (x, w, does, is, made) = subst (Keeps old) (sym is) (by_reply x (step_leaves (step_asked m old) old.vm.machine live x w.machine does.0.0))
  where
    by_reply : (x : Result Reply Error) → IsLeft old.vm.machine x w.machine → Keeps old (replied old (future_in (step_asked m old)) x w)
    by_reply (Ok (reply.Answer a)) h = keeps_going old _ refl (λ none. (live.failure, h.fewer))
    by_reply (Ok (reply.Waiting input run)) h = keeps_going old _ refl (λ none. (live.failure, h.fewer))
    by_reply (Ok (reply.Execute run)) h = keeps_going old _ refl (λ none. (live.failure, h.fewer))
    by_reply (Ok reply.Suspended) h = record { over = λ o. tt; lives = λ none. (live.failure, h.fewer) }
    by_reply (Ok reply.Ended) h = record { over = λ o. tt; lives = λ none. (live.failure, h.fewer) }
    by_reply (Err e) h = keeps_going old _ refl (failed_lives e old.vm.machine w.machine h.1)

-- what a step did, and that it handed out the run that it answers
pub record Hands (old : Record) (result : Result Progress Error) (new : Record) : Type 0 where
  pub keeps : Keeps old new
  pub out : (handle : NotificationHandle) → result ≡ Ok (progress.ExecuteRun handle) → ExecutesNone old.over → (old.vm.machine.failure ≡ None) × HandsOut handle old.vm.machine new.vm.machine × HasRunOf handle new.vm.machine.runs × (new.vm.machine.failure ≡ None)

-- an answer by which no run is executed
hands_none : (old : Record) (made : Result Progress Error) (result : Result Progress Error) (new : Record) → ((handle : NotificationHandle) → made ≢ Ok (progress.ExecuteRun handle)) → result ≡ made → Keeps old new → Hands old result new
hands_none old made result new none is k = record { keeps = k; out = λ handle executes _. absurd (none handle (sym is ∙ executes)) }

abbrev an_error : Error → Result Progress Error
an_error e = Err e

abbrev an_answer : Progress → Result Progress Error
an_answer made = Ok made

no_error : (e : Error) (handle : NotificationHandle) → an_error e ≢ an_answer (progress.ExecuteRun handle)
no_error e handle h = absurd (cc)

not_ready : (handle : NotificationHandle) → an_answer progress.NotReady ≢ an_answer (progress.ExecuteRun handle)
not_ready handle h = absurd (cc)

same_answer : (p q : Progress) → an_answer p ≡ an_answer q → p ≡ q
same_answer p q h = cc

reads_hand : (old : Record) (result : Result Progress Error) (new : Record) → old.vm.machine.failure ≡ None → InputIsRead old result new → Hands old result new
reads_hand old (Ok made) new live does = record { keeps = reads_keep old (Ok made) new live does; out = λ handle executes _. absurd (let stepped : made ≡ progress.Stepped = does.0 in cc) }
reads_hand old (Err e) new live does = record { keeps = reads_keep old (Err e) new live does; out = λ handle executes _. absurd (no_error e handle executes) }

asks_hand : (m : Meaning) (old : Record) (result : Result Progress Error) (new : Record) → IsLive old.vm.machine → MakesStep m old result new → Hands old result new
asks_hand m old result new live (x, w, does, is, made) = record {
  keeps = asks_keep m old result new live (x, w, does, is, made);
  out = λ handle executes _.
      let h = subst (λ (r : Record). HandsOut handle old.vm.machine r.vm.machine × HasRunOf handle r.vm.machine.runs × (r.vm.machine.failure ≡ None)) (sym is) (by_reply x handle (sym made ∙ executes) (step_leaves (step_asked m old) old.vm.machine live x w.machine does.0.0)) in
      (live.failure, h.0, h.1, h.2);
}
  where
    by_reply : (x : Result Reply Error) (handle : NotificationHandle) → progress_of x ≡ Ok (progress.ExecuteRun handle) → IsLeft old.vm.machine x w.machine
        → HandsOut handle old.vm.machine (replied old (future_in (step_asked m old)) x w).vm.machine × HasRunOf handle (replied old (future_in (step_asked m old)) x w).vm.machine.runs × ((replied old (future_in (step_asked m old)) x w).vm.machine.failure ≡ None)
    by_reply (Ok (reply.Answer a)) handle e h = absurd (cc)
    by_reply (Ok (reply.Waiting input run)) handle e h = absurd (cc)
    by_reply (Ok (reply.Execute run)) handle e h = subst (λ n. HandsOut n old.vm.machine w.machine × HasRunOf n w.machine.runs × (w.machine.failure ≡ None)) (let same : run ≡ handle = cc in same) (h.left.1, h.left.2, h.failure ∙ live.failure)
    by_reply (Ok reply.Suspended) handle e h = absurd (cc)
    by_reply (Ok reply.Ended) handle e h = absurd (cc)
    by_reply (Err d) handle e h = absurd (cc)

advances_hand : (m : Meaning) (old : Record) (result : Result Progress Error) (new : Record) → IsLive old.vm.machine → Advances m old result new → Hands old result new
advances_hand m old result new live =
    ⊎_elim
    (λ (x : LacksMemory old result new). hands_none old (Err no_memory) result new (no_error no_memory) x.0 (subst (Keeps old) (sym x.1) (keeps_going old (record old { starved = true }) refl (lives_same old.vm.machine))))
    (λ (o : ((old.answers ≡ []) × InputIsRead old result new) ⊎ ((old.answers ≢ []) × MakesStep m old result new)).
    ⊎_elim
    (λ (x : (old.answers ≡ []) × InputIsRead old result new). reads_hand old result new live.failure x.1)
    (λ (x : (old.answers ≢ []) × MakesStep m old result new). asks_hand m old result new live x.1)
    o)

-- an answer that changes nothing
hands_same : (old : Record) (made : Result Progress Error) (result : Result Progress Error) (new : Record) → ((handle : NotificationHandle) → made ≢ Ok (progress.ExecuteRun handle)) → result ≡ made → new ≡ old → Hands old result new
hands_same old made result new none is same = hands_none old made result new none is (subst (Keeps old) (sym same) (keeps_same old))

hands_at : (ph : Phase) (m : Meaning) (old : Record) (result : Result Progress Error) (new : Record) → old.vm.machine.failure ≡ None → old.vm.machine.phase ≡ ph → StepAt ph m old result new → Hands old result new
hands_at WaitingStart m old result new live at d = hands_same old (Ok progress.NotReady) result new not_ready d.0 d.1
hands_at WaitingReplayEntries m old result new live at d = hands_same old (Ok progress.NotReady) result new not_ready d.0 d.1
hands_at Closed m old result new live at d = hands_same old _ result new (no_error _) d.0 d.1
hands_at Replaying m old result new live at d = advances_hand m old result new (record { failure = live; phase = ap is_running at }) d
hands_at Processing m old result new live at d = advances_hand m old result new (record { failure = live; phase = ap is_running at }) d

hands_unless : (f : Option Error) (over : Option Progress) (m : Meaning) (old : Record) (result : Result Progress Error) (new : Record) → old.vm.machine.failure ≡ f → old.over ≡ over → StepUnless f over m old result new → Hands old result new
hands_unless (Some e) over m old result new is at d =
    ⊎_elim
    (λ (x : result ≡ Err e). hands_same old (Err e) result new (no_error e) x d.1)
    (λ (x : result ≡ Err no_memory). hands_same old (Err no_memory) result new (no_error no_memory) x d.1)
    d.0
hands_unless None (Some made) m old result new is at d = record {
  keeps = subst (Keeps old) (sym d.1) (keeps_same old);
  out = λ handle executes none. absurd (subst ExecutesNone (at ∙ λ i. Some (same_answer made (progress.ExecuteRun handle) (sym d.0 ∙ executes) i)) none);
}
hands_unless None None m old result new is at d = hands_at old.vm.machine.phase m old result new is refl d

pub step_hands : (m : Meaning) (old : Record) (result : Result Progress Error) (new : Record) → StepDoes m old result new → Hands old result new
step_hands m old result new does = by_test old.starved does
  where
    by_test : (b : Bool) → StepFrom b m old result new → Hands old result new
    by_test true d = hands_same old (Err no_memory) result new (no_error no_memory) d.0 d.1
    by_test false d = hands_unless old.vm.machine.failure old.over m old result new refl refl d

-- ---- one call after another

pub call_keeps : (m : Meaning) (old new : Record) → OneCall m old new → Keeps old new
call_keeps m old new (Feeding piece result does) = feed_keeps piece old result new does
call_keeps m old new (Closing result does) = close_keeps old result new does
call_keeps m old new (Stepping result does) = (step_hands m old result new does).keeps
call_keeps m old new (Telling handle exit policy result does) = let k = finish_lives handle exit policy old result new does in keeps_going old new k.1 k.0
call_keeps m old new (Taking result does) = take_keeps old result new does

leads_keep : (m : Meaning) (n : ℕ) (old new : Record) → Leads m n old new → Keeps old new
leads_keep m zero old new is = subst (Keeps old) (sym is) (keeps_same old)
leads_keep m (suc n) old new (mid, does, leads) = keeps_then old mid new (call_keeps m old mid does) (leads_keep m n mid new leads)

-- of a new machine each run can be handed out once at most
once_at_most : (handle : NotificationHandle) (alloc : Global) (version : Version) (options : VMOptions) → ahead handle (fresh alloc version options) ≤ 1
once_at_most handle alloc version options = by_test (nat_le 17 handle.0)
  where
    by_test : (b : Bool) → 0 + cond b 1 0 ≤ 1
    by_test true = omega arith
    by_test false = omega arith

none_left : (a b c d : ℕ) → a ≤ 1 → suc b ≤ a → c ≤ b → suc d ≤ c → ⊥
none_left a b c d h k l n = absurd (omega (arith, h, k, l, n))

pub executed_once : (fixed : Fixed) (alloc : Global) (handle : NotificationHandle) (before between : ℕ) (a b c d : Record)
    → Leads fixed.handler before (fresh_record (made alloc fixed.options fixed.version)) a → StepDoes fixed.handler a (Ok (progress.ExecuteRun handle)) b → Leads fixed.handler between b c → StepDoes fixed.handler c (Ok (progress.ExecuteRun handle)) d → ⊥
executed_once fixed alloc handle before between a b c d comes first goes second =
    let k = leads_keep fixed.handler before (fresh_record (made alloc fixed.options fixed.version)) a comes in
    let l = leads_keep fixed.handler between b c goes in
    let h = step_hands fixed.handler a (Ok (progress.ExecuteRun handle)) b first in
    let out = h.out handle refl (k.over tt) in
    let again = (step_hands fixed.handler c (Ok (progress.ExecuteRun handle)) d second).out handle refl (l.over (h.keeps.over (k.over tt))) in
    none_left (ahead handle a.vm.machine) (ahead handle b.vm.machine) (ahead handle c.vm.machine) (ahead handle d.vm.machine)
    (less (ahead handle a.vm.machine) (ahead handle (fresh alloc fixed.version fixed.options)) ((k.lives out.0).1 handle) (once_at_most handle alloc fixed.version fixed.options))
    out.1 ((l.lives again.0).1 handle) again.1
  where
    less : (n k : ℕ) → n ≤ k → k ≤ 1 → n ≤ 1
    less n k h l = omega (arith, h, l)
