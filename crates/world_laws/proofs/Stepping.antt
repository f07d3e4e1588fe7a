-- Each answered step of an attempt adds one answer, and the attempt still runs.
use Rattle.std.proofs.Common.{◌≡◌, ◌≢◌, ◌⊎◌, ◌+◌, ◌≤◌, ℕ, zero, suc, true, List, [], ◌∷◌, ◌++◌, length, Result, Ok, Err, refl, sym, ap, ◌∙◌, subst, inl, inr, ⊎_elim, arith, length-append}
use Rattle.std.specs.Prelude.{Option}
use Rattle.journal_protocol.specs.Error.{Error}
use Rattle.journal_protocol.specs.Errors.{no_memory}
use Rattle.journal_protocol.specs.RawMessage.{RawMessage}
use Rattle.await_trees.specs.declared.tree.UnresolvedFuture.{UnresolvedFuture}
use Rattle.vm_types.specs.declared.steps.Answer.{Answer}
use Rattle.vm_state.specs.declared.state_map.StateMap.{StateMap}
use Rattle.vm_machine.specs.declared.machine.Machine.{Machine}
use Rattle.vm_machine.specs.Commands.{phase_after}
use Rattle.vm_machine.specs.Phases.{is_running}
use Rattle.invocation_vm.specs.Views.{View}
use Rattle.vm_model.specs.Calls.{Setup}
use Rattle.vm_model.specs.Fixed.{Fixed}
use Rattle.vm_model.specs.Histories.{IsPrefix}
use Rattle.vm_model.specs.Moves.{Point}
use Rattle.vm_attempt.specs.declared.progress.Progress.{Progress}
use Rattle.vm_attempt.specs.declared.progress.Progress.TheVariants as progress
use Rattle.vm_attempt.specs.declared.progress.Reply.{Reply}
use Rattle.vm_attempt.specs.declared.progress.Reply.TheVariants as reply
use Rattle.vm_attempt.specs.Heard.{Heard}
use Rattle.vm_attempt.specs.Record.{Record, heard}
use Rattle.vm_attempt.specs.Stepping.{LacksMemory, StepDoes, future_in, progress_of, replied, step_asked}
use Rattle.vm_attempt.specs.Agreement.{Agrees, Answered}
use Rattle.vm_attempt.specs.Ending.{FinishesOn, GoesToEnd, IsRunning}
use Rattle.vm_attempt.specs.Journals.{setup_for}
use Rattle.vm_attempt.specs.Told.{IsKeptUnder, IsLive, Premises, start_state}
use Rattle.vm_attempt.proofs.Advanced.{runs_of}
use Rattle.vm_attempt.proofs.Ending.{answers_begin, step_ends}
use Rattle.vm_attempt.proofs.Under.{step_fed, step_under}
use Rattle.world_laws.specs.Limits.{EndsWithin, StepsAnswered}
use Rattle.world_laws.proofs.Running.{FollowsBy, RunOf, StepFollows, step_follows}

-- an answer came, and the attempt still runs
pub record StepsOn (old new : Record) : Type 0 where
  pub answer : Answer
  pub answers : new.answers ≡ old.answers ++ answer ∷ []
  pub running : IsRunning new

some_behind : (xs : List Answer) (a : Answer) → xs ++ a ∷ [] ≢ []
some_behind [] a e = absurd (cc)
some_behind (x ∷ xs) a e = absurd (cc)

runs_after : (left : List RawMessage) → is_running (phase_after left) ≡ true
runs_after [] = refl
runs_after (c ∷ left) = refl

pub lives_at : (s : Setup) (given : StateMap) (written : List RawMessage) (v : Machine) (p : Point) → Agrees s given written v p → IsLive v
lives_at s given written v p a = record {
  failure = ap (λ (w : Machine). w.failure) a.machine;
  phase = ap (λ (w : Machine). is_running w.phase) a.machine ∙ runs_after p.left;
}

module _ (fixed : Fixed) (old new : Record) (is : IsRunning old) (k : RunOf fixed old) (w : View) (future : Option UnresolvedFuture) where
  replied_steps : (x : Result Reply Error) → Ok progress.Stepped ≡ progress_of x → new ≡ replied old future x w → FollowsBy fixed old k x w.machine → StepsOn old new
  replied_steps (Ok (reply.Answer a)) e now f =
      let y : Answered (setup_for fixed k.journal.start) fixed.handler (start_state k.journal) k.written k.at old.vm.machine a w.machine = f in
      let live : IsLive w.machine = lives_at (setup_for fixed k.journal.start) (start_state k.journal) (k.written ++ y.made) w.machine y.at y.agrees in
      subst (StepsOn old) (sym now) (record { answer = a; answers = refl; running = record { runs = some_behind old.answers a; starved = is.starved; over = is.over; live = live } })
  replied_steps (Ok (reply.Waiting input run)) e now f = absurd (cc)
  replied_steps (Ok (reply.Execute run)) e now f = absurd (cc)
  replied_steps (Ok reply.Suspended) e now f = absurd (cc)
  replied_steps (Ok reply.Ended) e now f = absurd (cc)
  replied_steps (Err why) e now f = absurd (cc)

pub step_on : (fixed : Fixed) (old new : Record) → IsKeptUnder fixed old → Premises fixed (heard fixed.version old) → IsRunning old → StepDoes fixed.handler old (Ok progress.Stepped) new → StepsOn old new
step_on fixed old new u p is does =
    ⊎_elim
    (λ (x : LacksMemory old (Ok progress.Stepped) new). let e = x.0 in absurd (cc))
    (λ (x : StepFollows fixed old (Ok progress.Stepped) new). replied_steps fixed old new is x.run x.view (future_in (step_asked fixed.handler old)) x.answered x.result_is x.record_is x.follows)
    (step_follows fixed old (Ok progress.Stepped) new u p is does)

-- ---- several steps

-- what lasts over answered steps, and how many answers there are
pub record Lasts (fixed : Fixed) (n : ℕ) (old new : Record) : Type 0 where
  pub kept : IsKeptUnder fixed new
  pub fed : heard fixed.version new ≡ heard fixed.version old
  pub running : IsRunning new
  pub count : length new.answers ≡ length old.answers + n

pub one_longer : (old new : Record) → StepsOn old new → length new.answers ≡ length old.answers + 1
one_longer old new x = ap length x.answers ∙ length-append old.answers (x.answer ∷ [])

pub steps_last : (fixed : Fixed) (n : ℕ) (old new : Record) → IsKeptUnder fixed old → Premises fixed (heard fixed.version old) → IsRunning old → StepsAnswered fixed.handler n old new → Lasts fixed n old new
steps_last fixed zero old new u p is same = subst (Lasts fixed 0 old) (sym same) (record { kept = u; fed = refl; running = is; count = omega arith })
steps_last fixed (suc n) old new u p is (mid, does, more) =
    let x = step_on fixed old mid u p is does in
    let fed : heard fixed.version mid ≡ heard fixed.version old = step_fed fixed.version fixed.handler old (Ok progress.Stepped) mid does in
    let on = steps_last fixed n mid new (step_under fixed old (Ok progress.Stepped) mid u does) (subst (Premises fixed) (sym fed) p) x.running more in
    let one = one_longer old mid x in
    let others = on.count in
    record { kept = on.kept; fed = on.fed ∙ fed; running = on.running; count = omega (arith, one, others) }

prefix_length : (xs ys : List Answer) → IsPrefix xs ys → length xs ≤ length ys
prefix_length xs ys (rest, e) = let n = ap length e ∙ length-append xs rest in omega (arith, n)

-- the answers of an attempt that runs are no more than those of the end
module _ (fixed : Fixed) (limit : ℕ) where
  answers_within : (r : Record) → IsKeptUnder fixed r → Premises fixed (heard fixed.version r) → IsRunning r → EndsWithin fixed (heard fixed.version r) limit → length r.answers ≤ limit
  answers_within r u p is (f, bound) =
      let k = runs_of fixed r (u p) is.runs in
      let begins = prefix_length r.answers (f k.journal).at.answers (answers_begin fixed r k (f k.journal)) in
      let most = bound k.journal in
      omega (arith, begins, most)

  pub most_steps : (old new : Record) (n : ℕ) → IsKeptUnder fixed old → Premises fixed (heard fixed.version old) → IsRunning old → EndsWithin fixed (heard fixed.version old) limit → StepsAnswered fixed.handler n old new → length old.answers + n ≤ limit
  most_steps old new n u p is ends steps =
      let x = steps_last fixed n old new u p is steps in
      let within = answers_within new x.kept (subst (Premises fixed) (sym x.fed) p) x.running (subst (λ (fed : Heard). EndsWithin fixed fed limit) (sym x.fed) ends) in
      let count = x.count in
      omega (arith, within, count)

  last_ends : (old mid new : Record) (n : ℕ) (result : Result Progress Error) → IsKeptUnder fixed old → Premises fixed (heard fixed.version old) → IsRunning old → EndsWithin fixed (heard fixed.version old) limit → limit ≤ length old.answers + n → Lasts fixed n old mid → StepDoes fixed.handler mid result new → GoesToEnd result → (result ≡ Ok progress.Ended) ⊎ (result ≡ Err no_memory)
  last_ends old mid new n (Ok progress.NotReady) u p is ends enough x does g = absurd g
  last_ends old mid new n (Ok (progress.Waiting input run)) u p is ends enough x does g = absurd g
  last_ends old mid new n (Ok (progress.ExecuteRun run)) u p is ends enough x does g = absurd g
  last_ends old mid new n (Ok progress.Suspended) u p is ends enough x does g = absurd g
  last_ends old mid new n (Ok progress.Ended) u p is ends enough x does g = inl refl
  last_ends old mid new n (Err e) u p is ends enough x does g = inr (ap Err g)
  last_ends old mid new n (Ok progress.Stepped) u p is ends enough x does g =
      let under = subst (Premises fixed) (sym x.fed) p in
      let y = step_on fixed mid new x.kept under x.running does in
      let fed : heard fixed.version new ≡ heard fixed.version mid = step_fed fixed.version fixed.handler mid (Ok progress.Stepped) new does in
      let ends_there = subst (λ (z : Heard). EndsWithin fixed z limit) (sym (fed ∙ x.fed)) ends in
      let within = answers_within new (step_under fixed mid (Ok progress.Stepped) new x.kept does) (subst (Premises fixed) (sym fed) under) y.running ends_there in
      let one = one_longer mid new y in
      let count = x.count in
      absurd (omega (arith, within, one, count, enough))

  pub last_step : (old mid new : Record) (n : ℕ) (result : Result Progress Error) → IsKeptUnder fixed old → Premises fixed (heard fixed.version old) → IsRunning old → EndsWithin fixed (heard fixed.version old) limit → limit ≤ length old.answers + n → StepsAnswered fixed.handler n old mid → StepDoes fixed.handler mid result new → (result ≡ Ok progress.Ended) ⊎ (result ≡ Err no_memory)
  last_step old mid new n result u p is ends enough steps does =
      let x = steps_last fixed n old mid u p is steps in
      last_ends old mid new n result u p is ends enough x does
      (step_ends fixed mid result new x.kept (subst (Premises fixed) (sym x.fed) p) x.running (subst (FinishesOn fixed) (sym x.fed) ends.0) does)
