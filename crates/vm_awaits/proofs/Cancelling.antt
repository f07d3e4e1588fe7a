-- An await that has woken, and what follows it.
use Rattle.std.proofs.Common.{◌≡◌, ◌<◌, ℕ, Bool, true, false, List, ◌∷◌, Option, Some, None, refl, sym, ap, ◌∙◌, subst, ⊎_elim, length, arith}
use Rattle.std.specs.Prelude.{if◌then◌else◌, MatchBool, Result, Ok, Err}
use Rattle.std.specs.Option.{option_and_then}
use Rattle.std.specs.List.{find, list_any}
use Rattle.await_trees.specs.Handles.{handles_of}
use Rattle.await_trees.specs.Tree.{Tree, leaf}
use Rattle.journal_protocol.specs.Error.{Error}
use Rattle.journal_protocol.specs.NamedFault.TheVariants as fault
use Rattle.vm_runs.specs.Pending.{is_executing_in, may_execute}
use Rattle.vm_parts.specs.Ephemerals.{any_in_flight}
use Rattle.vm_runs.specs.declared.pending.PendingRun.{PendingRun}
use Rattle.vm_types.specs.declared.types.AwaitResponse.{AwaitResponse}
use Rattle.vm_types.specs.declared.types.AwaitResponse.TheVariants.{AnyCompleted, CancelSignalReceived, EphemeralNotificationReady, ExecuteRun, WaitingExternalProgress}
use Rattle.vm_state.specs.declared.tracked_call.TrackedCall.{TrackedCall}
use Rattle.vm_parts.specs.Tracked.{IsFirstHandle, id_of_result, unresolved_handles, with_next_id}
use Rattle.vm_parts.proofs.Tracking.{unresolved-with_next_id}
use Rattle.vm_machine.specs.declared.fault.Fault.{Fault}
use Rattle.vm_machine.specs.declared.fault.Fault.TheVariants as why
use Rattle.vm_machine.specs.declared.machine.Machine.{Machine}
use Rattle.vm_machine.specs.Outcomes.{Outcome, Done, Failed, GivesBy, lasting, refused}
use Rattle.vm_machine.specs.Phases.{is_replaying}
use Rattle.vm_awaits.specs.Awaits.{Behind, AwaitCompletes, Gathers, ReadsId, StaysPending, Tries, has_woken, next_id_known, pending_in_replay, result_at, waits_by, waits_on, with_used}

-- what lasts is as it was, and the phase
abbrev pub Keeps : Machine → Machine → Type 0
Keeps v w = (lasting w ≡ lasting v) × (w.phase ≡ v.phase)

-- an await has woken, and leaves this machine
abbrev woken : Machine → Outcome (Result AwaitResponse Error)
woken w = Done (Ok AnyCompleted) w

-- the same answer, and the same machine
done_so : {A : Type 0} (a b : A) (v w : Machine) → Done a v ≡ Done b w → w ≡ v
done_so a b v w h = cc

-- an await that stays pending hasn't woken
waits_sleeps : (closed in_flight executing : Bool) (left : Tree) (u w : Machine) → woken w ≡ waits_by closed in_flight executing left u → ⊥
waits_sleeps false in_flight executing left u w h = cc
waits_sleeps true true executing left u w h = cc
waits_sleeps true false true left u w h = cc
waits_sleeps true false false left u w h = cc

runs_sleep : (run : Option PendingRun) (executing : Bool) (left : Tree) (u w : Machine) → woken w ≡ waits_on run executing left u → ⊥
runs_sleep (Some run) executing left u w h = cc
runs_sleep None executing left u w h = waits_sleeps u.input_closed (any_in_flight u.ephemeral) executing left u w h

pending_sleeps : (replaying : Bool) (run : Option PendingRun) (executing : Bool) (left : Tree) (u w : Machine)
    → woken w ≡ (if replaying then pending_in_replay (handles_of left) u else waits_on run executing left u) → ⊥
pending_sleeps true run executing left u w h = cc
pending_sleeps false run executing left u w h = runs_sleep run executing left u w h

-- an await that has woken has used some number of notifications, and changed nothing else
pub woken_used : (t : Tree) (v w : Machine) → Tries t v (Done (Ok AnyCompleted) w) → (n : ℕ) × (w ≡ with_used n v)
woken_used t v w tries = ⊎_elim
    (λ (x : AwaitCompletes t v (Done (Ok AnyCompleted) w)). (x.0, sym (done_so (Ok AnyCompleted) (Ok AnyCompleted) w (with_used x.0 v) x.2)))
    (λ (x : StaysPending t v (Done (Ok AnyCompleted) w)).
    let u = with_used (length v.results.queued) v in
    absurd (pending_sleeps (is_replaying u.phase) (find (may_execute (handles_of x.0)) u.runs) (list_any (is_executing_in (handles_of x.0)) u.runs) x.0 u w x.2))
    tries

pub woken_keeps : (t : Tree) (v w : Machine) → Tries t v (Done (Ok AnyCompleted) w) → Keeps v w
woken_keeps t v w tries =
    let used = woken_used t v w tries in
    (ap lasting used.1, ap (λ (x : Machine). x.phase) used.1)

-- ---- an id that is read

-- a read that was done
read_done : (id : Option (List ℕ)) (v w : Machine) → woken w ≡ next_id_known id v → (known : List ℕ) × (w ≡ record v { tracked = with_next_id known v.tracked })
read_done None v w h = absurd (never h)
  where
    never : woken w ≡ refused fault.UnexpectedInvocationIdResult v → ⊥
    never x = cc
read_done (Some id) v w h = (id, sym (done_so (Ok AnyCompleted) (Ok AnyCompleted) w (record v { tracked = with_next_id id v.tracked }) h))

-- by the outcome of the await before it
read_behind : (handle : ℕ) (v w : Machine) (first : Outcome (Result AwaitResponse Error)) → Tries (leaf handle) v first → Behind (λ x p. p ≡ next_id_known (option_and_then id_of_result (result_at handle x)) x) first (Done (Ok AnyCompleted) w)
    → (known : List ℕ) × (n : ℕ) × (w ≡ record (with_used n v) { tracked = with_next_id known v.tracked })
read_behind handle v w (Done (Ok AnyCompleted) x) tries on =
    let used = woken_used (leaf handle) v x tries in
    let read = read_done (option_and_then id_of_result (result_at handle x)) x w on in
    (read.0, used.0, read.1 ∙ ap (λ (y : Machine). record y { tracked = with_next_id read.0 y.tracked }) used.1)
read_behind handle v w (Done (Ok CancelSignalReceived) x) tries on = absurd cc
read_behind handle v w (Done (Ok (ExecuteRun run)) x) tries on = absurd cc
read_behind handle v w (Done (Ok (WaitingExternalProgress input run)) x) tries on = absurd cc
read_behind handle v w (Done (Ok (EphemeralNotificationReady id)) x) tries on = absurd cc
read_behind handle v w (Done (Err e) x) tries on = absurd cc
read_behind handle v w (Failed e x) tries on = absurd cc

-- an id that was read is the next that wasn't known
pub read_known : (handle : ℕ) (v w : Machine) → ReadsId handle v (Done (Ok AnyCompleted) w) → (known : List ℕ) × (n : ℕ) × (w ≡ record (with_used n v) { tracked = with_next_id known v.tracked })
read_known handle v w (first, tries, on) = read_behind handle v w first tries on

pub read_keeps : (handle : ℕ) (v w : Machine) → ReadsId handle v (Done (Ok AnyCompleted) w) → Keeps v w
read_keeps handle v w reads =
    let known = read_known handle v w reads in
    (ap lasting known.2, ap (λ (x : Machine). x.phase) known.2)

-- ---- what follows

module _ (R : Outcome (Result AwaitResponse Error) → Type 0) (Next : Machine → Outcome (Result AwaitResponse Error) → Type 0) (v : Machine) where
  -- an outcome of the first part, and what follows it
  abbrev pub Both : Outcome (Result AwaitResponse Error) → Type 0
  Both o = (first : Outcome (Result AwaitResponse Error)) × R first × Behind Next first o

  -- the first part failed
  pub gives_failed : (f : Fault) (new : Machine) → GivesBy R (Err f) v new → GivesBy Both (Err f) v new
  gives_failed (why.Refused e) new g = ((Failed e new, g.0, refl), g.1)
  gives_failed why.Memory new g = g

  -- it hasn't woken
  pub gives_other : (answer : Result AwaitResponse Error) (new : Machine) → GivesBy R (Ok answer) v new → has_woken answer ≡ false → GivesBy Both (Ok answer) v new
  gives_other answer new g asleep = (Done answer new, g, subst (λ b. MatchBool b (Next new (Done answer new)) (Done answer new ≡ Done answer new)) (sym asleep) refl)

  -- it has woken
  woken_both : (answer : Result AwaitResponse Error) (mid : Machine) (o : Outcome (Result AwaitResponse Error)) → R (Done answer mid) → has_woken answer ≡ true → Next mid o → Both o
  woken_both answer mid o holds so next = (Done answer mid, holds, subst (λ b. MatchBool b (Next mid o) (o ≡ Done answer mid)) (sym so) next)

  pub gives_behind : (answer : Result AwaitResponse Error) (mid : Machine) (r : Result (Result AwaitResponse Error) Fault) (new : Machine) → GivesBy R (Ok answer) v mid → has_woken answer ≡ true → lasting mid ≡ lasting v → GivesBy (Next mid) r mid new → GivesBy Both r v new
  gives_behind answer mid (Ok a) new g so kept h = woken_both answer mid (Done a new) g so h
  gives_behind answer mid (Err (why.Refused e)) new g so kept h = (woken_both answer mid (Failed e new) g so h.0, h.1 ∙ kept)
  gives_behind answer mid (Err why.Memory) new g so kept h = h ∙ kept

-- Some ids were read: an outcome of reading the others is one of reading all, and nothing else has
-- changed.
pub record Gathered (first now : Machine) : Type 0 where
  pub on : (o : Outcome (Result AwaitResponse Error)) → Gathers (unresolved_handles now.tracked) now o → Gathers (unresolved_handles first.tracked) first o
  pub keeps : lasting now ≡ lasting first

-- an answer that has woken
pub woken_is : (answer : Result AwaitResponse Error) → has_woken answer ≡ true → answer ≡ Ok AnyCompleted
woken_is (Ok AnyCompleted) so = refl
woken_is (Ok CancelSignalReceived) so = absurd cc
woken_is (Ok (ExecuteRun run)) so = absurd cc
woken_is (Ok (WaitingExternalProgress input run)) so = absurd cc
woken_is (Ok (EphemeralNotificationReady id)) so = absurd cc
woken_is (Err e) so = absurd cc

-- none was read yet
pub gathered_none : (v : Machine) → Gathered v v
gathered_none v = record { on = λ o g. g; keeps = refl }

module _ (first now : Machine) (g : Gathered first now) (handle : ℕ) (one : IsFirstHandle (unresolved_handles now.tracked) handle) where
  -- what comes of the others comes of all
  gives_on : (r : Result (Result AwaitResponse Error) Fault) (new : Machine) → GivesBy (Gathers (handle ∷ one.0) now) r now new → GivesBy (Gathers (unresolved_handles first.tracked) first) r first new
  gives_on (Ok a) new h = g.on (Done a new) (subst (λ hs. Gathers hs now (Done a new)) (sym one.1) h)
  gives_on (Err (why.Refused e)) new h = (g.on (Failed e new) (subst (λ hs. Gathers hs now (Failed e new)) (sym one.1) h.0), h.1 ∙ g.keeps)
  gives_on (Err why.Memory) new h = h ∙ g.keeps

  -- a read that fails ends it
  fails : (f : Fault) (new : Machine) → GivesBy (ReadsId handle now) (Err f) now new → GivesBy (Gathers (unresolved_handles first.tracked) first) (Err f) first new
  fails (why.Refused e) new h = gives_on (Err (why.Refused e)) new (gives_failed (ReadsId handle now) (Gathers one.0) now (why.Refused e) new h)
  fails why.Memory new h = gives_on (Err why.Memory) new h

  -- so does one that hasn't woken
  stays : (answer : Result AwaitResponse Error) (new : Machine) → ReadsId handle now (Done answer new) → has_woken answer ≡ false → Gathers (unresolved_handles first.tracked) first (Done answer new)
  stays answer new h asleep = gives_on (Ok answer) new (gives_other (ReadsId handle now) (Gathers one.0) now answer new h asleep)

  -- once an id was read, the others are left
  left : (mid : Machine) → ReadsId handle now (Done (Ok AnyCompleted) mid) → unresolved_handles mid.tracked ≡ one.0
  left mid reads =
      let known = read_known handle now mid reads in
      ap (λ (v : Machine). unresolved_handles v.tracked) known.2 ∙ unresolved-with_next_id known.0 now.tracked handle one.0 one.1

  more : (mid : Machine) → ReadsId handle now (Done (Ok AnyCompleted) mid) → Gathered first mid
  more mid reads = record {
    on = λ o rest. g.on o (subst (λ hs. Gathers hs now o) (sym one.1) (Done (Ok AnyCompleted) mid, reads, subst (λ hs. Gathers hs mid o) (left mid reads) rest));
    keeps = (read_keeps handle now mid reads).0 ∙ g.keeps;
  }

  fewer : (mid : Machine) → ReadsId handle now (Done (Ok AnyCompleted) mid) → length (unresolved_handles mid.tracked) < length (unresolved_handles now.tracked)
  fewer mid reads = let is = ap length (left mid reads) in let was = ap length one.1 in omega arith

-- ---- as the loop meets it: the calls that are tracked were looked at before

module _ (first now : Machine) (g : Gathered first now) (ts : List TrackedCall) (handle : ℕ) (one : IsFirstHandle (unresolved_handles now.tracked) handle) (same : ts ≡ now.tracked) where
  looked : record now { tracked = ts } ≡ now
  looked = ap (λ us. record now { tracked = us }) same

  pub gathered_fails : (f : Fault) (new : Machine) → GivesBy (ReadsId handle (record now { tracked = ts })) (Err f) (record now { tracked = ts }) new → GivesBy (Gathers (unresolved_handles first.tracked) first) (Err f) first new
  gathered_fails f new h = fails first now g handle one f new (subst (λ (v : Machine). GivesBy (ReadsId handle v) (Err f) v new) looked h)

  reads_there : (answer : Result AwaitResponse Error) (new : Machine) → ReadsId handle (record now { tracked = ts }) (Done answer new) → ReadsId handle now (Done answer new)
  reads_there answer new h = subst (λ (v : Machine). ReadsId handle v (Done answer new)) looked h

  pub gathered_stays : (answer : Result AwaitResponse Error) (new : Machine) → ReadsId handle (record now { tracked = ts }) (Done answer new) → has_woken answer ≡ false → Gathers (unresolved_handles first.tracked) first (Done answer new)
  gathered_stays answer new h = stays first now g handle one answer new (reads_there answer new h)

  known_there : (answer : Result AwaitResponse Error) (mid : Machine) → ReadsId handle (record now { tracked = ts }) (Done answer mid) → has_woken answer ≡ true → ReadsId handle now (Done (Ok AnyCompleted) mid)
  known_there answer mid h so = subst (λ a. ReadsId handle now (Done a mid)) (woken_is answer so) (reads_there answer mid h)

  pub gathered_more : (answer : Result AwaitResponse Error) (mid : Machine) → ReadsId handle (record now { tracked = ts }) (Done answer mid) → has_woken answer ≡ true → Gathered first mid
  gathered_more answer mid h so = more first now g handle one mid (known_there answer mid h so)

  pub gathered_fewer : (answer : Result AwaitResponse Error) (mid : Machine) → ReadsId handle (record now { tracked = ts }) (Done answer mid) → has_woken answer ≡ true → length (unresolved_handles mid.tracked) < length (unresolved_handles now.tracked)
  gathered_fewer answer mid h so = fewer first now g handle one mid (known_there answer mid h so)
