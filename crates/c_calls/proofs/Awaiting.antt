-- The error of an await by which a VM hasn't failed is that of a suspension.
use Rattle.std.proofs.Common.{◌≡◌, ℕ, Bool, true, false, inl, inr, List, [], ◌∷◌, Option, Some, None, Result, Ok, Err, refl, sym, ap, subst, ◌∙◌}
use Rattle.std.specs.Prelude.{if◌then◌else◌, MatchBool, find, length}
use Rattle.std.specs.List.{list_any}
use Rattle.std.specs.Option.{option_and_then}
use Rattle.await_trees.specs.Handles.{handles_of}
use Rattle.await_trees.specs.Tree.{Tree, tree_of, leaf}
use Rattle.await_trees.specs.declared.tree.UnresolvedFuture.{UnresolvedFuture}
use Rattle.await_trees.specs.declared.tree.UnresolvedFuture.TheVariants.{Single}
use Rattle.await_trees.specs.declared.handle.NotificationHandle.{NotificationHandle}
use Rattle.journal_protocol.specs.Error.{Error}
use Rattle.vm_machine.specs.Ephemerals.{answers_ready}
use Rattle.vm_machine.specs.Outcomes.{CalledAt, CalledBy, Done, DoesBy, Failed, Outcome, flattened, settled}
use Rattle.vm_machine.specs.Commands.{commanded}
use Rattle.vm_machine.specs.declared.machine.Machine.{Machine}
use Rattle.vm_types.specs.declared.types.AwaitResponse.{AwaitResponse}
use Rattle.vm_asks.specs.Asks.{cancel_invocation_command}
use Rattle.vm_awaits.specs.Awaits.{Awaits, AwaitsAt, AwaitsBy, Behind, EndsBy, Gathers, ReadsId, Tries, has_woken, is_cancelled, next_id_known, or_cancelled, pending_in_replay, pending_on, result_at, waits_by, waits_on, with_used}
use Rattle.vm_runs.specs.Pending.{is_executing_in, may_execute}
use Rattle.vm_runs.specs.declared.pending.PendingRun.{PendingRun}
use Rattle.vm_types.specs.Options.{ends_awaits}
use Rattle.vm_parts.specs.Ephemerals.{any_in_flight}
use Rattle.vm_parts.specs.Tracked.{id_of_result, invocation_ids, unresolved_handles}
use Rattle.vm_machine.specs.Phases.{is_replaying, is_running}
use Rattle.vm_awaits.specs.Cancels.{AwaitsWhole, Cancels, FinishesIf, Onward, SendsCancel, sends_cancels}
use Rattle.vm_types.specs.declared.reply.Reply.TheVariants as reply
use Rattle.vm_calls.specs.Called.{RepliesWith}
use Rattle.invocation_vm.specs.Calls.{CallsAwaitBy, CallsFlatAwait}
use Rattle.invocation_vm.specs.Views.{View}
use Rattle.c_sessions.specs.declared.kind.Kind.TheVariants as kind
use Rattle.c_values.specs.declared.status.Status.TheVariants as status
use Rattle.c_calls.specs.declared.nodes.Node.{Node}
use Rattle.c_calls.specs.Calls.{AwaitsHandle, AwaitsNodes}
use Rattle.c_calls.specs.Nodes.{AwaitsTree, FailsAsTree}
use Rattle.c_calls.specs.Refusals.{RefusesAs}
use Rattle.c_calls.proofs.Failing.{does_by_fails, does_fails, given_err}
use Rattle.c_calls.proofs.Told.{code_if, refuses_as, unmade_unless}

-- ---- the answers of a try

-- an answer that is an error is that of a suspension
abbrev pub IsCoded : Outcome (Result AwaitResponse Error) → Type 0
IsCoded (Done (Ok a) w) = Unit {0}
IsCoded (Done (Err e) w) = e.code ≡ 599
IsCoded (Failed e w) = Unit {0}

coded_if : (b : Bool) (x y : Outcome (Result AwaitResponse Error)) → IsCoded x → IsCoded y → IsCoded (if b then x else y)
coded_if true x y cx cy = cx
coded_if false x y cx cy = cy

coded_wait : (closed in_flight executing : Bool) (left : Tree) (v : Machine) → IsCoded (waits_by closed in_flight executing left v)
coded_wait false in_flight executing left v = tt
coded_wait true true executing left v = tt
coded_wait true false true left v = tt
coded_wait true false false left v = refl

coded_on : (run : Option PendingRun) (executing : Bool) (left : Tree) (v : Machine) → IsCoded (waits_on run executing left v)
coded_on (Some run) executing left v = tt
coded_on None executing left v = coded_wait v.input_closed (any_in_flight v.ephemeral) executing left v

coded_pending : (left : Tree) (v : Machine) → IsCoded (pending_on left v)
coded_pending left v =
    let run = find (may_execute (handles_of left)) v.runs in
    let executing = list_any (is_executing_in (handles_of left)) v.runs in
    coded_if (is_replaying v.phase) (pending_in_replay (handles_of left) v) (waits_on run executing left v) tt (coded_on run executing left v)

coded_tries : (t : Tree) (v : Machine) (o : Outcome (Result AwaitResponse Error)) → Tries t v o → IsCoded o
coded_tries t v o tries = elim tries [ inl x ↦ subst IsCoded (sym x.2) tt | inr x ↦ subst IsCoded (sym x.2) (coded_pending x.0 (with_used (length v.results.queued) v)) ]

coded_woken : (b : Bool) (Next : Type 0) (o x : Outcome (Result AwaitResponse Error)) → (Next → IsCoded o) → IsCoded x → MatchBool b Next (o ≡ x) → IsCoded o
coded_woken true Next o x next coded m = next m
coded_woken false Next o x next coded m = subst IsCoded (sym m) coded

coded_behind : (Next : Machine → Outcome (Result AwaitResponse Error) → Type 0) → ((w : Machine) (p : Outcome (Result AwaitResponse Error)) → Next w p → IsCoded p)
    → (first o : Outcome (Result AwaitResponse Error)) → IsCoded first → Behind Next first o → IsCoded o
coded_behind Next next (Done answer w) o coded b = coded_woken (has_woken answer) (Next w o) o (Done answer w) (next w o) coded b
coded_behind Next next (Failed e w) o coded b = subst IsCoded (sym b) tt

coded_id : (id : Option (List ℕ)) (w : Machine) → IsCoded (next_id_known id w)
coded_id None w = tt
coded_id (Some id) w = tt

coded_read : (handle : ℕ) (v : Machine) (o : Outcome (Result AwaitResponse Error)) → ReadsId handle v o → IsCoded o
coded_read handle v o r =
    let id = λ (w : Machine). option_and_then id_of_result (result_at handle w) in
    coded_behind (λ w p. p ≡ next_id_known (id w) w) (λ w p known. subst IsCoded (sym known) (coded_id (id w) w)) r.0 o (coded_tries (leaf handle) v r.0 r.1) r.2

coded_gather : (handles : List ℕ) (v : Machine) (o : Outcome (Result AwaitResponse Error)) → Gathers handles v o → IsCoded o
coded_gather [] v o g = subst IsCoded (sym g) tt
coded_gather (handle ∷ handles) v o g = coded_behind (Gathers handles) (λ w p more. coded_gather handles w p more) g.0 o (coded_read handle v g.0 g.1) g.2

coded_end : (cancelled : Bool) (v : Machine) (o : Outcome (Result AwaitResponse Error)) → EndsBy cancelled v o → IsCoded o
coded_end true v o ends = coded_gather (unresolved_handles v.tracked) v o ends
coded_end false v o ends = subst IsCoded (sym ends) tt

coded_by : (ends : Bool) (t : Tree) (v : Machine) (o : Outcome (Result AwaitResponse Error)) → AwaitsBy ends t v o → IsCoded o
coded_by true t v o a = coded_behind (λ w p. EndsBy (is_cancelled w) w p) (λ w p ends. coded_end (is_cancelled w) w p ends) a.0 o (coded_tries (or_cancelled t) v a.0 a.1) a.2
coded_by false t v o a = coded_tries t v o a

coded_at : (running : Bool) (t : Tree) (v : Machine) (o : Outcome (Result AwaitResponse Error)) → AwaitsAt running t v o → IsCoded o
coded_at true t v o a = coded_by (ends_awaits v.options.implicit_cancellation) t v o a
coded_at false t v o a = subst IsCoded (sym a) tt

coded : (t : Tree) (v : Machine) (o : Outcome (Result AwaitResponse Error)) → Awaits t v o → IsCoded o
coded t v o a = coded_at (is_running v.phase) t v o a

settled_done : (event : Outcome (Result AwaitResponse Error)) (e : Error) (w : Machine) → Done (Err e) w ≡ settled event → IsCoded event → e.code ≡ 599
settled_done (Done answer v) e w h c = subst IsCoded (sym h) c
settled_done (Failed x v) e w h c = absurd cc

first_coded : (f : Option Error) (t : Tree) (v : Machine) (e : Error) (w : Machine) → CalledAt f (Awaits t v) v (Done (Err e) w) → e.code ≡ 599
first_coded (Some x) t v e w c = absurd cc
first_coded None t v e w c = settled_done c.0 e w c.2 (coded t v c.0 c.1)

-- ---- the cancel signals

onward_fails : (Next : Result (Result AwaitResponse Error) Error → Machine → Machine → Type 0) (id : List ℕ) (e : Error) (old mid new : Machine)
    → ((m w : Machine) → Next (Err e) m w → w.failure ≡ None → ⊥) → (sent : Result NotificationHandle Error) → SendsCancel id sent old mid → Onward Next sent (Err e) mid new → new.failure ≡ None → ⊥
onward_fails Next id e old mid new next (Ok handle) sends on none = next mid new on none
onward_fails Next id e old mid new next (Err x) sends on none =
    does_fails (commanded (cancel_invocation_command id) old) old x mid sends.0 (ap (λ (m : Machine). m.failure) (sym on.1) ∙ none)

cancels_fail : (ids : List (List ℕ)) (e : Error) (old new : Machine) → Cancels ids (Err e) old new → new.failure ≡ None → ⊥
cancels_fail [] e old new c none = let h = c.0 in cc
cancels_fail (id ∷ ids) e old new c none = onward_fails (Cancels ids) id e old c.1 new (λ m w more. cancels_fail ids e m w more) c.0 c.2 c.3 none

onward_answers : (Next : Result (Result AwaitResponse Error) Error → Machine → Machine → Type 0) (e : Error) (mid new : Machine)
    → ((m w : Machine) → Next (Ok (Err e)) m w → ⊥) → (sent : Result NotificationHandle Error) → Onward Next sent (Ok (Err e)) mid new → ⊥
onward_answers Next e mid new next (Ok handle) on = next mid new on
onward_answers Next e mid new next (Err x) on = let h = on.0 in cc

cancels_answer : (ids : List (List ℕ)) (e : Error) (old new : Machine) → Cancels ids (Ok (Err e)) old new → ⊥
cancels_answer [] e old new c = let h = c.0 in cc
cancels_answer (id ∷ ids) e old new c = onward_answers (Cancels ids) e c.1 new (λ m w more. cancels_answer ids e m w more) c.0 c.3

-- ---- the whole call

finished_failed : (b : Bool) (t : Tree) (first : Result (Result AwaitResponse Error) Error) (e : Error) (old mid new : Machine) → DoesBy (CalledBy (Awaits t old) old) first old mid
    → FinishesIf b first (Err e) mid new → new.failure ≡ None → ⊥
finished_failed true t first e old mid new does f none = cancels_fail (invocation_ids mid.tracked) e (record mid { tracked = [] }) new f none
finished_failed false t first e old mid new does f none =
    does_by_fails (Awaits t old) old e mid (subst (λ r. DoesBy (CalledBy (Awaits t old) old) r old mid) (sym f.0) does)
    (ap (λ (m : Machine). m.failure) (sym f.1) ∙ none)

finished_coded : (b : Bool) (t : Tree) (first : Result (Result AwaitResponse Error) Error) (e : Error) (old mid new : Machine) → DoesBy (CalledBy (Awaits t old) old) first old mid
    → FinishesIf b first (Ok (Err e)) mid new → e.code ≡ 599
finished_coded true t first e old mid new does f = absurd (cancels_answer (invocation_ids mid.tracked) e (record mid { tracked = [] }) new f)
finished_coded false t first e old mid new does f =
    first_coded old.failure t old e mid (subst (λ r. DoesBy (CalledBy (Awaits t old) old) r old mid) (sym f.0) does)

whole_coded : (t : Tree) (answered : Result (Result AwaitResponse Error) Error) (e : Error) (old new : Machine) → Err e ≡ flattened answered → AwaitsWhole t answered old new
    → new.failure ≡ None → e.code ≡ 599
whole_coded t (Ok (Ok a)) e old new h w none = absurd cc
whole_coded t (Ok (Err x)) e old new h w none = ap code_if h ∙ finished_coded (sends_cancels w.0) t w.0 x old w.1 new w.2 w.3
whole_coded t (Err x) e old new h w none = absurd (finished_failed (sends_cancels w.0) t w.0 x old w.1 new w.2 w.3 none)

by_coded : (b : Bool) (future : UnresolvedFuture) (e : Error) (old new : View) → CallsAwaitBy b future (Err e) old new → new.machine.failure ≡ None → e.code ≡ 599
by_coded true future e old new c none = let h = c.2 in absurd cc
by_coded false future e old new c none = whole_coded (tree_of future) c.0 e old.machine new.machine c.2 c.1.0 none

await_has : (future : UnresolvedFuture) (e : Error) (old new : View) → RepliesWith reply.Awaited (CallsFlatAwait future) (reply.Refused e) old new → new.machine.failure ≡ None → e.code ≡ 599
await_has future e old new r none =
    let x = given_err reply.Awaited (λ a f h. cc) r.given e r.told in
    ap (λ (z : Error). z.code) x.2
    ∙ by_coded (answers_ready old.machine) future x.0 old new (subst (λ g. CallsFlatAwait future g old new) x.1 r.calls) none

-- ---- from C

pub handle_refuses : (handle : ℕ) → RefusesAs kind.Suspended 599 (AwaitsHandle handle)
handle_refuses handle = refuses_as (AwaitsHandle handle) kind.Suspended 599 refl (λ s old new m five. m)
    (λ e old new r none. await_has (Single (record { 0 = handle })) e old new r none)

never_tree : (nodes : List Node) → (FailsAsTree nodes status.Refused → ⊥)
never_tree nodes why = why

pub nodes_refuse : (nodes : List Node) → RefusesAs kind.Suspended 599 (AwaitsNodes nodes)
nodes_refuse nodes = refuses_as (AwaitsNodes nodes) kind.Suspended 599 refl
    (unmade_unless (FailsAsTree nodes) (AwaitsTree nodes) (never_tree nodes))
    (λ e old new r none. await_has r.0 e old new r.2 none)
