-- Steps of a run, one after the other.
use Rattle.std.proofs.Common.{Global, ◌≡◌, ℕ, zero, suc, ◌+◌, ◌-◌, ◌^◌, List, [], ◌++◌, Option, Some, None, refl, sym, ap, ◌∙◌, subst, inl, inr, ⊎_elim, arith}
use Rattle.std.specs.Prelude.{Result, Ok, Err, IfOk, IfSome}
use Rattle.std.specs.declared.alloc.AllocError.{AllocError}
use Rattle.journal_protocol.specs.Error.{Error}
use Rattle.journal_protocol.specs.Version.{Version}
use Rattle.vm_types.specs.Options.{default_options}
use Rattle.vm_types.specs.declared.options.VMOptions.{VMOptions}
use Rattle.invocation_vm.specs.Making.{made}
use Rattle.vm_attempt.specs.Record.{AttemptView, Record}
use Rattle.vm_attempt.specs.Stepping.{StepFunction, MakesAttempt, StepDoes, fresh_record}
use Rattle.vm_attempt.specs.declared.progress.Progress.{Progress}
use Rattle.vm_attempt.specs.declared.progress.Progress.TheVariants as progress
use Rattle.vm_attempt.specs.Told.{IsKeptUnder}
use Rattle.vm_attempt.proofs.Advanced.{kept_told, made_kept}
use Rattle.vm_attempt.proofs.Under.{close_under, feed_under, step_under}
use Rattle.program_vmrun.specs.Runs.{SendsWhole, Stepped, Drives, IsFed, IsTold, IsDriven, ServesAnew, end_after}
use Rattle.program_vmrun.specs.declared.run_end.AttemptEnd.{AttemptEnd}
use Rattle.program_vmrun.specs.declared.run_end.AttemptEnd.TheVariants as attempt_end
use Rattle.vm_model.specs.Fixed.{Fixed, fixed_by}

-- only a step that gives an answer is not the last one
goes_on : (last : Result Progress Error) → None ≡ end_after last → last ≡ Ok progress.Stepped
goes_on (Ok progress.Stepped) e = refl
goes_on (Ok progress.Ended) e = absurd cc
goes_on (Ok progress.Suspended) e = absurd cc
goes_on (Ok progress.NotReady) e = absurd cc
goes_on (Ok (progress.Waiting input run)) e = absurd cc
goes_on (Ok (progress.ExecuteRun run)) e = absurd cc
goes_on (Err x) e = absurd cc

pub stepped_more : (meaning : StepFunction) (n : ℕ) (first before now : Record) (last : Result Progress Error) → Stepped meaning n first before → StepDoes meaning before last now → None ≡ end_after last → Stepped meaning (n + 1) first now
stepped_more meaning n first before now last h s e =
    let k : suc n ≡ n + 1 = omega arith in
    subst (λ m. Stepped meaning m first now) k (before, h, subst (λ l. StepDoes meaning before l now) (goes_on last e) s)

pub drives_to : (meaning : StepFunction) (n : ℕ) (first before now : Record) (last : Result Progress Error) (ending : AttemptEnd) → Stepped meaning n first before → StepDoes meaning before last now → end_after last ≡ Some ending → Drives meaning first ending now
drives_to meaning n first before now last ending h s e = inl (n, before, last, h, s, e)

pub drives_out : (meaning : StepFunction) (n : ℕ) (first now : Record) → n ≡ 2 ^ 64 - 1 → Stepped meaning n first now → Drives meaning first attempt_end.Stalled now
drives_out meaning n first now e h = inr (subst (λ m. Stepped meaning m first now) e h, refl)

-- all that was left to be read is the input
pub all_left : (left : Option (List ℕ)) (old new input : List ℕ) → old ≡ [] → input ≡ new → IfSome left (λ xs. new ≡ old ++ xs) → IfSome left (λ bytes. input ≡ bytes)
all_left None old new input e k h = tt
all_left (Some xs) old new input e k h = k ∙ h ∙ ap (λ t. t ++ xs) e

-- ---- what a run keeps

steps_keep : (fixed : Fixed) (n : ℕ) (first now : Record) → IsKeptUnder fixed first → Stepped fixed.handler n first now → IsKeptUnder fixed now
steps_keep fixed zero first now k is = subst (IsKeptUnder fixed) (sym is) k
steps_keep fixed (suc n) first now k (before, steps, does) = step_under fixed before (Ok progress.Stepped) now (steps_keep fixed n first before k steps) does

drive_keeps : (fixed : Fixed) (first now : Record) (ending : AttemptEnd) → IsKeptUnder fixed first → Drives fixed.handler first ending now → IsKeptUnder fixed now
drive_keeps fixed first now ending k =
    ⊎_elim
    (λ (d : (n : ℕ) × (before : Record) × (last : Result Progress Error) × Stepped fixed.handler n first before × StepDoes fixed.handler before last now × (end_after last ≡ Some ending)). step_under fixed d.1 d.2 now (steps_keep fixed d.0 first d.1 k d.3) d.4)
    (λ (d : Stepped fixed.handler (2 ^ 64 - 1) first now × (ending ≡ attempt_end.Stalled)). steps_keep fixed (2 ^ 64 - 1) first now k d.0)

run_keeps : (fixed : Fixed) (input : List ℕ) (first fed now : Record) (ending : AttemptEnd) → IsKeptUnder fixed first → IsFed input first fed → Drives fixed.handler fed ending now → IsKeptUnder fixed now
run_keeps fixed input first fed now ending k (between, a, b) d =
    drive_keeps fixed fed now ending (close_under fixed between b.0 fed (feed_under fixed input first a.0 between k a.1) b.1) d

-- a run of the attempt that was made
pub run_served : {H : Type 0} (mean : H → StepFunction) (alloc : Global) (options : VMOptions) (handler : H) (v : Version) (a : AttemptView H) (input output : List ℕ) (ending : AttemptEnd) → options ≡ default_options → MakesAttempt alloc options handler (Ok v) (Ok a) → IsDriven SendsWhole (mean a.handler) a.record_of input ending output
    → ServesAnew alloc (Ok v) (mean handler) (Some input) (λ written. written ≡ output) ending
run_served {H} mean alloc options handler v a input output ending o m s =
    let meaning = mean handler in
    let fresh = fresh_record (made alloc default_options v) in
    let t = subst (λ h. IsDriven SendsWhole (mean h) a.record_of input ending output) (ap (λ (x : AttemptView H). x.handler) m) s in
    let u = subst (λ r. IsDriven SendsWhole meaning r input ending output) (ap (λ (x : AttemptView H). x.record_of) m ∙ ap (λ x. fresh_record (made alloc x v)) o) t in
    let kept = run_keeps (fixed_by meaning v default_options) input fresh u.0 u.1 ending (λ premises. made_kept (fixed_by meaning v default_options) alloc) u.2 u.3 in
    let told : IsTold meaning v u.1 = λ once. kept_told (fixed_by meaning v default_options) u.1 u.5 (kept (record { replays = refl; queues = refl; once = once })) in
    (input, output, refl, (u.0, u.1, u.2, u.3, u.4, told), refl)

-- the same of what a call answers
pub served_anew : {H : Type 0} (mean : H → StepFunction) (alloc : Global) (options : VMOptions) (handler : H) (version : Version) (a : AttemptView H) (items input : List ℕ) (r : Result (AttemptEnd × List ℕ) AllocError) → input ≡ items → options ≡ default_options → MakesAttempt alloc options handler (Ok version) (Ok a) → IfOk r (λ served. IsDriven SendsWhole (mean a.handler) a.record_of input served.0 served.1)
    → IfOk r (λ served. ServesAnew alloc (Ok version) (mean handler) (Some items) (λ written. written ≡ served.1) served.0)
served_anew mean alloc options handler version a items input (Err e) is o m s = tt
served_anew mean alloc options handler version a items input (Ok served) is o m s =
    subst (λ bytes. ServesAnew alloc (Ok version) (mean handler) (Some bytes) (λ written. written ≡ served.1) served.0) is (run_served mean alloc options handler version a input served.1 served.0 o m s)

-- the same of all that a reader had left, and of what was written of the output
pub served_of : (alloc : Global) (asked : Result Version Error) (version : Version) (meaning : StepFunction) (left : Option (List ℕ)) (written : List ℕ → Type 0) (input output : List ℕ) (ending : AttemptEnd) → Ok version ≡ asked → IfSome left (λ bytes. input ≡ bytes) → written output → ServesAnew alloc (Ok version) meaning (Some input) (λ bytes. bytes ≡ output) ending
    → ServesAnew alloc asked meaning left written ending
served_of alloc asked version meaning left written input output ending named l w (i, o, same, runs, is) =
    subst (λ v. ServesAnew alloc v meaning left written ending) named (i, o, subst (λ bytes. IfSome left (λ xs. bytes ≡ xs)) (sym same) l, runs, subst written (sym is) w)
