-- An attempt that was rightly suspended in an await stays so, with any input after it.
use Rattle.std.proofs.Common.{◌≡◌, ◌≢◌, ℕ, Bool, true, false, List, [], Option, Some, None, Result, Ok, Err, refl, sym, ap, ◌∙◌, subst, inl, inr, ⊎_elim}
use Rattle.std.specs.Prelude.{◌⊎◌}
use Rattle.std.proofs.lemmas.Option.{same_Some}
use Rattle.std.specs.declared.alloc.AllocError.{AllocError}
use Rattle.journal_protocol.specs.Error.{Error}
use Rattle.journal_protocol.specs.Errors.{no_memory}
use Rattle.vm_types.specs.declared.steps.Answer.{Answer}
use Rattle.vm_parts.specs.Outboxes.{WholeFrames}
use Rattle.vm_machine.specs.declared.phase.Phase.{Phase}
use Rattle.vm_machine.specs.declared.phase.Phase.TheVariants.{WaitingStart, WaitingReplayEntries, Replaying, Processing, Closed}
use Rattle.invocation_vm.specs.Views.{StarvesAmong, View, after_closing, after_input, messages_in_bytes}
use Rattle.vm_model.specs.Calls.{Meaning}
use Rattle.vm_attempt.specs.Heard.{Heard}
use Rattle.vm_attempt.specs.declared.progress.Progress.{Progress}
use Rattle.vm_attempt.specs.declared.progress.Progress.TheVariants as progress
use Rattle.vm_attempt.specs.declared.progress.Reply.{Reply}
use Rattle.vm_attempt.specs.declared.progress.Reply.TheVariants as reply
use Rattle.vm_attempt.specs.Blames.{IsLate, LateBy}
use Rattle.vm_attempt.specs.Record.{Record, heard}
use Rattle.vm_attempt.specs.Stepping.{Advances, MakesStep, CloseDoes, InputIsClosed, FeedDoes, FeedsPiece, IfWaits, LacksMemory, InputIsRead, StepAt, StepDoes, StepFrom, StepUnless, Takes, future_in, with_piece_kept, kept_at, progress_of, replied, step_asked, output_taken, with_vm}
use Rattle.vm_attempt.specs.Told.{IsKeptUnder, NothingWakes, Premises, Quiet, AwaitWaits, StillSleeps}
use Rattle.vm_attempt.proofs.Advanced.{asleep_waits, step_waits}
use Rattle.invocation_vm.proofs.Feeds.{among_output}
use Rattle.vm_attempt.proofs.Quiet.{closing_quiet, input_quiet, quiet_same, wrote_quiet}
use Rattle.vm_attempt.proofs.Under.{step_fed}
use Rattle.vm_attempt.proofs.Written.{takes_wrote}
use Rattle.vm_model.specs.Fixed.{Fixed}

-- ---- what is said of a step that waits

waits_map : (P Q : Type 0) → (P → Q) → (result : Result Progress Error) → IfWaits result P → IfWaits result Q
waits_map P Q f (Ok (progress.Waiting input run)) h = f h
waits_map P Q f (Ok (progress.ExecuteRun run)) h = f h
waits_map P Q f (Ok progress.Suspended) h = f h
waits_map P Q f (Ok progress.NotReady) h = tt
waits_map P Q f (Ok progress.Stepped) h = tt
waits_map P Q f (Ok progress.Ended) h = tt
waits_map P Q f (Err e) h = tt

-- what an attempt is asleep by, with another view of its VM that has written no command more
sleeps_quiet : (fixed : Fixed) (fed : Heard) (answers : List Answer) (taken : List (List ℕ)) (v w : View) → Quiet v.machine w.machine → AwaitWaits fixed fed answers taken v → AwaitWaits fixed fed answers taken w
sleeps_quiet fixed fed answers taken v w q (written, wrote, asleep) = (written, wrote_quiet taken v.machine w.machine written q wrote, asleep)

pub still_quiet : (fixed : Fixed) (r : Record) (w : View) → Quiet r.vm.machine w.machine → StillSleeps fixed r → StillSleeps fixed (with_vm w r)
still_quiet fixed r w q s p made over = waits_map _ _ (sleeps_quiet fixed (heard fixed.version r) r.answers r.taken r.vm w q) (Ok made) (s p made over)

-- before the end nothing is said
still_open : (fixed : Fixed) (r : Record) → r.over ≡ None → StillSleeps fixed r
still_open fixed r going p made over = absurd (let z : None ≡ Some made = sym going ∙ over in cc)

-- ---- feeding

-- a piece that comes to a closed VM, or to one that failed
kept_sleeps : (fixed : Fixed) (r : Record) (piece : List ℕ) → IsLate fixed r → StillSleeps fixed r → (over : Option Progress) → r.over ≡ over → (o : Option Error) → r.vm.machine.failure ≡ o → (ph : Phase) → r.vm.machine.phase ≡ ph → StillSleeps fixed (kept_at o ph piece r)
kept_sleeps fixed r piece l s over at (Some e) is ph by = s
kept_sleeps fixed r piece l s over at None is Closed by = s
kept_sleeps fixed r piece l s None at None is WaitingStart by = still_open fixed (kept_at None WaitingStart piece r) at
kept_sleeps fixed r piece l s None at None is WaitingReplayEntries by = still_open fixed (kept_at None WaitingReplayEntries piece r) at
kept_sleeps fixed r piece l s None at None is Replaying by = still_open fixed (kept_at None Replaying piece r) at
kept_sleeps fixed r piece l s None at None is Processing by = still_open fixed (kept_at None Processing piece r) at
kept_sleeps fixed r piece l s (Some p) at None is WaitingStart by = absurd (let z : WaitingStart ≡ Closed = sym by ∙ (subst (λ o. LateBy o fixed r) at l).phase is in cc)
kept_sleeps fixed r piece l s (Some p) at None is WaitingReplayEntries by = absurd (let z : WaitingReplayEntries ≡ Closed = sym by ∙ (subst (λ o. LateBy o fixed r) at l).phase is in cc)
kept_sleeps fixed r piece l s (Some p) at None is Replaying by = absurd (let z : Replaying ≡ Closed = sym by ∙ (subst (λ o. LateBy o fixed r) at l).phase is in cc)
kept_sleeps fixed r piece l s (Some p) at None is Processing by = absurd (let z : Processing ≡ Closed = sym by ∙ (subst (λ o. LateBy o fixed r) at l).phase is in cc)

-- keeping a piece leaves the VM as it is
kept_vm : (o : Option Error) (ph : Phase) (piece : List ℕ) (r : Record) → (kept_at o ph piece r).vm ≡ r.vm
kept_vm (Some e) ph piece r = refl
kept_vm None WaitingStart piece r = refl
kept_vm None WaitingReplayEntries piece r = refl
kept_vm None Replaying piece r = refl
kept_vm None Processing piece r = refl
kept_vm None Closed piece r = refl

feeds_sleeps : (fixed : Fixed) (piece : List ℕ) (old : Record) (result : Result Unit AllocError) (new : Record) → IsLate fixed old → StillSleeps fixed old → FeedsPiece piece old result new → StillSleeps fixed new
feeds_sleeps fixed piece old (Ok t) new l s does =
    let held = kept_sleeps fixed old piece l s old.over refl old.vm.machine.failure refl old.vm.machine.phase refl in
    let same = kept_vm old.vm.machine.failure old.vm.machine.phase piece old in
    subst (StillSleeps fixed) (sym does) (still_quiet fixed (with_piece_kept piece old) (after_input old.vm piece) (subst (λ (v : View). Quiet v.machine (after_input old.vm piece).machine) (sym same) (input_quiet old.vm piece)) held)
feeds_sleeps fixed piece old (Err e) new l s does =
    ⊎_elim
    (λ (x : new ≡ record old { starved = true }). subst (StillSleeps fixed) (sym x) s)
    (λ (x : (w : View) × StarvesAmong (messages_in_bytes old.vm piece) old.vm.machine w.machine × (new ≡ with_vm w (with_piece_kept piece old))).
    let held = kept_sleeps fixed old piece l s old.over refl old.vm.machine.failure refl old.vm.machine.phase refl in
    let same = kept_vm old.vm.machine.failure old.vm.machine.phase piece old in
    subst (StillSleeps fixed) (sym x.2) (still_quiet fixed (with_piece_kept piece old) x.0 (subst (λ (v : View). Quiet v.machine x.0.machine) (sym same) (quiet_same old.vm.machine x.0.machine (among_output _ old.vm.machine x.0.machine x.1))) held))
    does

pub feed_sleeps : (fixed : Fixed) (piece : List ℕ) (old : Record) (result : Result Unit AllocError) (new : Record) → IsLate fixed old → StillSleeps fixed old → FeedDoes old.starved piece old result new → StillSleeps fixed new
feed_sleeps fixed piece old result new l s does = by_test old.starved does
  where
    by_test : (t : Bool) → FeedDoes t piece old result new → StillSleeps fixed new
    by_test true d = subst (StillSleeps fixed) (sym d.1) s
    by_test false d = feeds_sleeps fixed piece old result new l s d

-- ---- closing, and the output

closes_sleeps : (fixed : Fixed) (old : Record) (result : Result Unit AllocError) (new : Record) → StillSleeps fixed old → InputIsClosed old result new → StillSleeps fixed new
closes_sleeps fixed old (Ok t) new s does = subst (StillSleeps fixed) (sym does) (still_quiet fixed old (after_closing old.vm) (closing_quiet old.vm) s)
closes_sleeps fixed old (Err e) new s does = subst (StillSleeps fixed) (sym does.2) (still_quiet fixed old does.0 (quiet_same old.vm.machine does.0.machine (among_output _ old.vm.machine does.0.machine does.1)) s)

pub close_sleeps : (fixed : Fixed) (old : Record) (result : Result Unit AllocError) (new : Record) → StillSleeps fixed old → CloseDoes old.starved old result new → StillSleeps fixed new
close_sleeps fixed old result new s does = by_test old.starved does
  where
    by_test : (t : Bool) → CloseDoes t old result new → StillSleeps fixed new
    by_test true d = subst (StillSleeps fixed) (sym d.1) s
    by_test false d = closes_sleeps fixed old result new s d

sleeps_taken : (fixed : Fixed) (r : Record) → WholeFrames r.vm.machine.output → AwaitWaits fixed (heard fixed.version r) r.answers r.taken r.vm → (let n = output_taken r in AwaitWaits fixed (heard fixed.version n) n.answers n.taken n.vm)
sleeps_taken fixed r f (written, wrote, asleep) = (written, takes_wrote r.taken r.vm.machine.output written f wrote, asleep)

pub take_sleeps : (fixed : Fixed) (old : Record) (result : Result (List ℕ) AllocError) (new : Record) → StillSleeps fixed old → Takes old result new → StillSleeps fixed new
take_sleeps fixed old (Ok bytes) new s does = subst (StillSleeps fixed) (sym does.1) (λ p made over. waits_map _ _ (sleeps_taken fixed old does.2) (Ok made) (s p made over))
take_sleeps fixed old (Err e) new s does = subst (StillSleeps fixed) (sym does) s

-- ---- a step

-- a step leaves the attempt as far as it is, or says how it is over
abbrev Ends : Record → Result Progress Error → Record → Type 0
Ends old result new = (new.over ≡ old.over) ⊎ ((made : Progress) × (result ≡ Ok made) × (new.over ≡ Some made))

reads_ends : (old : Record) (result : Result Progress Error) (new : Record) → InputIsRead old result new → Ends old result new
reads_ends old (Ok made) new does = inl (ap (λ (r : Record). r.over) does.1.3)
reads_ends old (Err e) new does = inl (ap (λ (r : Record). r.over) does.2)

asks_ends : (m : Meaning) (old : Record) (result : Result Progress Error) (new : Record) → MakesStep m old result new → Ends old result new
asks_ends m old result new (x, w, does, is, made) = by_reply x is made
  where
    by_reply : (x : Result Reply Error) → new ≡ replied old (future_in (step_asked m old)) x w → result ≡ progress_of x → Ends old result new
    by_reply (Ok (reply.Answer a)) at made = inl (ap (λ (r : Record). r.over) at)
    by_reply (Ok (reply.Waiting input run)) at made = inl (ap (λ (r : Record). r.over) at)
    by_reply (Ok (reply.Execute run)) at made = inl (ap (λ (r : Record). r.over) at)
    by_reply (Ok reply.Suspended) at made = inr (progress.Suspended, made, ap (λ (r : Record). r.over) at)
    by_reply (Ok reply.Ended) at made = inr (progress.Ended, made, ap (λ (r : Record). r.over) at)
    by_reply (Err e) at made = inl (ap (λ (r : Record). r.over) at)

advances_ends : (m : Meaning) (old : Record) (result : Result Progress Error) (new : Record) → Advances m old result new → Ends old result new
advances_ends m old result new =
    ⊎_elim
    (λ (x : LacksMemory old result new). inl (ap (λ (r : Record). r.over) x.1))
    (λ (o : ((old.answers ≡ []) × InputIsRead old result new) ⊎ ((old.answers ≢ []) × MakesStep m old result new)).
    ⊎_elim
    (λ (x : (old.answers ≡ []) × InputIsRead old result new). reads_ends old result new x.1)
    (λ (x : (old.answers ≢ []) × MakesStep m old result new). asks_ends m old result new x.1)
    o)

ends_at : (m : Meaning) (old : Record) (result : Result Progress Error) (new : Record) → (ph : Phase) → StepAt ph m old result new → Ends old result new
ends_at m old result new WaitingStart d = inl (ap (λ (r : Record). r.over) d.1)
ends_at m old result new WaitingReplayEntries d = inl (ap (λ (r : Record). r.over) d.1)
ends_at m old result new Closed d = inl (ap (λ (r : Record). r.over) d.1)
ends_at m old result new Replaying d = advances_ends m old result new d
ends_at m old result new Processing d = advances_ends m old result new d

ends_unless : (m : Meaning) (old : Record) (result : Result Progress Error) (new : Record) → (f : Option Error) → StepUnless f None m old result new → Ends old result new
ends_unless m old result new (Some e) d = inl (ap (λ (r : Record). r.over) d.1)
ends_unless m old result new None d = ends_at m old result new old.vm.machine.phase d

-- a step of an attempt that isn't over
open_ends : (m : Meaning) (old : Record) (result : Result Progress Error) (new : Record) → old.over ≡ None → StepDoes m old result new → Ends old result new
open_ends m old result new going does = by_test old.starved does
  where
    by_test : (t : Bool) → StepFrom t m old result new → Ends old result new
    by_test true d = inl (ap (λ (r : Record). r.over) d.1)
    by_test false d = ends_unless m old result new old.vm.machine.failure (subst (λ o. StepUnless old.vm.machine.failure o m old result new) going d)

-- a step of an attempt that is over changes nothing, and answers as it did or an error
abbrev Repeats : Progress → Record → Result Progress Error → Record → Type 0
Repeats made old result new = (new ≡ old) × ((result ≡ Ok made) ⊎ ((e : Error) × (result ≡ Err e)))

repeats_unless : (m : Meaning) (made : Progress) (old : Record) (result : Result Progress Error) (new : Record) → (f : Option Error) → StepUnless f (Some made) m old result new → Repeats made old result new
repeats_unless m made old result new (Some e) d = (d.1, ⊎_elim (λ (x : result ≡ Err e). inr (e, x)) (λ (x : result ≡ Err no_memory). inr (no_memory, x)) d.0)
repeats_unless m made old result new None d = (d.1, inl d.0)

over_repeats : (m : Meaning) (made : Progress) (old : Record) (result : Result Progress Error) (new : Record) → old.over ≡ Some made → StepDoes m old result new → Repeats made old result new
over_repeats m made old result new over does = by_test old.starved does
  where
    by_test : (t : Bool) → StepFrom t m old result new → Repeats made old result new
    by_test true d = (d.1, inr (no_memory, d.0))
    by_test false d = repeats_unless m made old result new old.vm.machine.failure (subst (λ o. StepUnless old.vm.machine.failure o m old result new) over d)

-- where a step waits, the attempt sleeps
step_asleep : (fixed : Fixed) (old : Record) (result : Result Progress Error) (new : Record) → IsKeptUnder fixed old → StillSleeps fixed old → StepDoes fixed.handler old result new → Premises fixed (heard fixed.version old) → IfWaits result (AwaitWaits fixed (heard fixed.version new) new.answers new.taken new.vm)
step_asleep fixed old result new u s does p = by_over old.over refl
  where
    by_over : (over : Option Progress) → old.over ≡ over → IfWaits result (AwaitWaits fixed (heard fixed.version new) new.answers new.taken new.vm)
    by_over None going = step_waits fixed old result new p (u p) going does
    by_over (Some made) over =
        let r = over_repeats fixed.handler made old result new over does in
        ⊎_elim
        (λ (x : result ≡ Ok made). subst (λ z. IfWaits z (AwaitWaits fixed (heard fixed.version new) new.answers new.taken new.vm)) (sym x) (subst (λ (n : Record). IfWaits (Ok made) (AwaitWaits fixed (heard fixed.version n) n.answers n.taken n.vm)) (sym r.0) (s p made over)))
        (λ (x : (e : Error) × (result ≡ Err e)). subst (λ z. IfWaits z (AwaitWaits fixed (heard fixed.version new) new.answers new.taken new.vm)) (sym x.1) tt)
        r.1

pub step_sleeps : (fixed : Fixed) (old : Record) (result : Result Progress Error) (new : Record) → IsKeptUnder fixed old → StillSleeps fixed old → StepDoes fixed.handler old result new → StillSleeps fixed new
step_sleeps fixed old result new u s does = by_over old.over refl
  where
    by_over : (over : Option Progress) → old.over ≡ over → StillSleeps fixed new
    by_over None going = λ p made over.
        ⊎_elim
        (λ (x : new.over ≡ old.over). absurd (let z : None ≡ Some made = sym going ∙ sym x ∙ over in cc))
        (λ (x : (q : Progress) × (result ≡ Ok q) × (new.over ≡ Some q)).
        let same : x.0 ≡ made = same_Some x.0 made (sym x.2 ∙ over) in
        subst (λ z. IfWaits z (AwaitWaits fixed (heard fixed.version new) new.answers new.taken new.vm)) (x.1 ∙ ap (λ q. Ok q) same)
        (step_asleep fixed old result new u s does (subst (λ fed. Premises fixed fed) (step_fed fixed.version fixed.handler old result new does) p)))
        (open_ends fixed.handler old result new going does)
    by_over (Some made) over = subst (StillSleeps fixed) (sym (over_repeats fixed.handler made old result new over does).0) s

-- if a step waits, nothing that came wakes its future
pub waits_rightly : (fixed : Fixed) (old : Record) (result : Result Progress Error) (new : Record) → IsKeptUnder fixed old → StillSleeps fixed old → StepDoes fixed.handler old result new → WholeFrames new.vm.machine.output → Premises fixed (heard fixed.version old) → IfWaits result (NothingWakes fixed new)
waits_rightly fixed old result new u s does f p = asleep_waits fixed new result f (step_asleep fixed old result new u s does p)
