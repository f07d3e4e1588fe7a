-- What an await waits for: the last run of its handles, and the first that is to be executed.
use Rattle.std.proofs.Common.{◌≡◌, ℕ, Bool, true, false, cond, List, [], ◌∷◌, ◌++◌, Option, Some, None, Result, Ok, refl, sym, ap, subst, ◌∙◌}
use Rattle.std.specs.Prelude.{if◌then◌else◌}
use Rattle.std.specs.List.{find, list_any}
use Rattle.std.specs.Option.{option_map, option_or}
use Rattle.await_trees.specs.declared.handle.NotificationHandle.{NotificationHandle}
use Rattle.vm_runs.specs.Firsts.{with_first}
use Rattle.vm_runs.specs.Pending.{handle_of, is_executing_in, may_execute, run_started}
use Rattle.vm_runs.specs.Settling.{run_as_related}
use Rattle.vm_parts.specs.Ephemerals.{any_in_flight}
use Rattle.vm_runs.specs.declared.pending.PendingRun.{PendingRun}
use Rattle.vm_machine.specs.declared.fault.Fault.{Fault}
use Rattle.vm_machine.specs.declared.machine.Machine.{Machine}
use Rattle.await_trees.specs.Handles.{handles_of}
use Rattle.await_trees.specs.Tree.{Tree}
use Rattle.journal_protocol.specs.Error.{Error}
use Rattle.vm_types.specs.declared.types.AwaitResponse.{AwaitResponse}
use Rattle.vm_types.specs.declared.types.AwaitResponse.TheVariants.{ExecuteRun}
use Rattle.vm_machine.specs.Phases.{is_replaying}
use Rattle.vm_awaits.specs.Awaits.{executed, last_run, pending_in_replay, pending_on, waits_by, waits_on}
use Rattle.vm_machine.specs.Proposals.{run_at}
use Rattle.vm_machine.specs.Outcomes.{Done, Gives}
use Rattle.vm_runs.proofs.Finding.{mapped_none, mapped_some}

not_changed : {A : Type 0} (p : A → Bool) (f : A → A) (xs : List A) → find p xs ≡ None → with_first p f xs ≡ xs
not_changed p f [] e = refl
not_changed p f (x ∷ xs) e = by_test (p x) (not_changed p f xs) e
  where
    by_test : (b : Bool) → (find p xs ≡ None → with_first p f xs ≡ xs) → cond b (Some x) (find p xs) ≡ None → cond b (f x ∷ xs) (x ∷ with_first p f xs) ≡ x ∷ xs
    by_test true more h = absurd cc
    by_test false more h = ap (λ l. x ∷ l) (more h)

-- ---- the last run that is waited for

or_none : {A : Type 0} (o : Option A) → option_or None o ≡ option_or o None
or_none None = refl
or_none (Some x) = refl

or_or : {A : Type 0} (a b c : Option A) → option_or (option_or a b) c ≡ option_or a (option_or b c)
or_or None b c = refl
or_or (Some x) b c = refl

pub last_run_behind : (handles : List ℕ) (handle : ℕ) (v : Machine) → last_run (handles ++ handle ∷ []) v ≡ option_or (run_at handle v) (last_run handles v)
last_run_behind [] handle v = or_none (run_at handle v)
last_run_behind (h ∷ handles) handle v = ap (λ o. option_or o (run_at h v)) (last_run_behind handles handle v) ∙ or_or (run_at handle v) (last_run handles v) (run_at h v)

mapped_or : {A B : Type 0} (f : A → B) (a b : Option A) → option_map f (option_or a b) ≡ option_or (option_map f a) (option_map f b)
mapped_or f None b = refl
mapped_or f (Some x) b = refl

-- one handle more
pub last_related_behind : (handles : List ℕ) (handle : ℕ) (v : Machine) → option_map run_as_related (last_run (handles ++ handle ∷ []) v) ≡ option_or (option_map run_as_related (run_at handle v)) (option_map run_as_related (last_run handles v))
last_related_behind handles handle v = ap (option_map run_as_related) (last_run_behind handles handle v) ∙ mapped_or run_as_related (run_at handle v) (last_run handles v)

-- ---- what an await waits for

-- if none of these runs waits to be executed, none is changed
pub none_executed : (handles : List ℕ) (runs left : List PendingRun) → None ≡ option_map handle_of (find (may_execute handles) runs) → left ≡ with_first (may_execute handles) run_started runs → left ≡ runs
none_executed handles runs left none is = is ∙ not_changed (may_execute handles) run_started runs (mapped_none handle_of (find (may_execute handles) runs) none)

-- it waits for input, or for the result of a run that is executing
pub waits_so : (left : Tree) (v : Machine) (handles : List ℕ) (executing : Bool) → handles ≡ handles_of left → is_replaying v.phase ≡ false → None ≡ option_map handle_of (find (may_execute handles) v.runs) → executing ≡ list_any (is_executing_in handles) v.runs
    → pending_on left v ≡ waits_by v.input_closed (any_in_flight v.ephemeral) executing left v
waits_so left v handles executing are past none is =
    let none_waits : find (may_execute (handles_of left)) v.runs ≡ None = ap (λ hs. find (may_execute hs) v.runs) (sym are) ∙ mapped_none handle_of (find (may_execute handles) v.runs) none in
    ap (λ b. if b then pending_in_replay (handles_of left) v else waits_on (find (may_execute (handles_of left)) v.runs) (list_any (is_executing_in (handles_of left)) v.runs) left v) past
    ∙ λ i. waits_on (none_waits i) ((ap (λ hs. list_any (is_executing_in hs) v.runs) (sym are) ∙ sym is) i) left v

-- a run is executed first
pub executes_so : (left : Tree) (v new : Machine) (handles : List ℕ) (run : NotificationHandle) → handles ≡ handles_of left → is_replaying v.phase ≡ false → Some run ≡ option_map handle_of (find (may_execute handles) v.runs) → new ≡ executed handles v
    → pending_on left v ≡ Done (Ok (ExecuteRun run)) new
executes_so left v new handles run are past some is =
    let found = mapped_some handle_of (find (may_execute handles) v.runs) run some in
    let waits : find (may_execute (handles_of left)) v.runs ≡ Some found.0 = ap (λ hs. find (may_execute hs) v.runs) (sym are) ∙ found.1 in
    ap (λ b. if b then pending_in_replay (handles_of left) v else waits_on (find (may_execute (handles_of left)) v.runs) (list_any (is_executing_in (handles_of left)) v.runs) left v) past
    ∙ ap (λ o. waits_on o (list_any (is_executing_in (handles_of left)) v.runs) left v) waits
    ∙ λ i. Done (Ok (ExecuteRun (sym found.2 i))) ((ap (λ hs. executed hs v) (sym are) ∙ sym is) i)

-- it waits if no run is to be executed
pub pends_so : (left : Tree) (v w new : Machine) (handles : List ℕ) (executing : Bool) (r : Result (Result AwaitResponse Error) Fault) → handles ≡ handles_of left → is_replaying v.phase ≡ false → None ≡ option_map handle_of (find (may_execute handles) v.runs) → w ≡ v
    → executing ≡ list_any (is_executing_in handles) w.runs → Gives (waits_by w.input_closed (any_in_flight w.ephemeral) executing left w) r w new → Gives (pending_on left v) r v new
pends_so left v w new handles executing r are past none same is gives =
    let at : executing ≡ list_any (is_executing_in handles) v.runs = is ∙ ap (λ (x : Machine). list_any (is_executing_in handles) x.runs) same in
    subst (λ o. Gives o r v new) (sym (waits_so left v handles executing are past none at)) (subst (λ (x : Machine). Gives (waits_by x.input_closed (any_in_flight x.ephemeral) executing left x) r x new) same gives)
