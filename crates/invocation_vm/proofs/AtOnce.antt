-- An await of a handle or the cancel signal that wakes by the handle alone.
use Rattle.std.proofs.Common.{◌≡◌, ◌||◌, ℕ, Bool, true, false, cond, List, [], ◌∷◌, Option, Some, None, Result, Ok, inl, sym, ap, ◌∙◌, subst, refl}
use Rattle.std.specs.Prelude.{is_some}
use Rattle.std.proofs.lemmas.Bool.{false≢true}
use Rattle.await_arrivals.specs.Came.{enough}
use Rattle.await_arrivals.specs.Ids.{same_id}
use Rattle.await_trees.specs.Tree.{Tree, leaf, tree_of}
use Rattle.await_trees.specs.declared.handle.NotificationHandle.{NotificationHandle}
use Rattle.await_trees.specs.declared.tree.UnresolvedFuture.{UnresolvedFuture}
use Rattle.await_trees.specs.declared.tree.UnresolvedFuture.TheVariants.{Single}
use Rattle.await_trees.proofs.TreeOf.{tree_of-Single}
use Rattle.await_tries.specs.Used.{used}
use Rattle.await_tries.proofs.TwoLeaves.{least_of_either}
use Rattle.journal_protocol.specs.Error.{Error}
use Rattle.journal_protocol.specs.Notification.{Notification}
use Rattle.journal_protocol.specs.NotificationId.{NotificationId}
use Rattle.journal_protocol.specs.SignalDelivery.{SignalDelivery}
use Rattle.vm_parts.specs.Arrived.{Arrived, Ready}
use Rattle.vm_parts.specs.Deliveries.{first, has_result, has_result_among, has_result_for, id_at, is_listed, newest, present_among, present_result, present_result_for, ready_after, results_of}
use Rattle.vm_types.specs.declared.types.AwaitResponse.{AwaitResponse}
use Rattle.vm_types.specs.declared.types.AwaitResponse.TheVariants.{AnyCompleted}
use Rattle.vm_types.specs.Options.{ends_awaits}
use Rattle.vm_machine.specs.declared.machine.Machine.{Machine}
use Rattle.vm_machine.specs.Ephemerals.{answers_ready}
use Rattle.vm_machine.specs.Outcomes.{CalledAt, CalledBy, Done}
use Rattle.vm_machine.specs.Phases.{is_running}
use Rattle.vm_awaits.specs.Awaits.{Awaits, AwaitsAt, AwaitsBy, EndsBy, TriesOrCancels, is_cancelled, with_used}
use Rattle.invocation_vm.specs.Calls.{CallsAwaitBy, CallsFlatAwait, WakesAtOnce}
use Rattle.invocation_vm.specs.Views.{View}
use Rattle.invocation_vm.proofs.Calls.{finishes_so, flattens_call}

true≢false : true ≡ false → ⊥
true≢false h = false≢true (sym h)

-- ---- no result is present for an id that has none

none_of : (b : Bool) (id : NotificationId) (n : Notification) (ns : List Notification) → (has_result_among id ns ≡ false → results_of id ns ≡ []) → (b || has_result_among id ns) ≡ false → cond b (n.result ∷ results_of id ns) (results_of id ns) ≡ []
none_of true id n ns rest h = absurd (true≢false h)
none_of false id n ns rest h = rest h

no_results : (id : NotificationId) (ns : List Notification) → has_result_among id ns ≡ false → results_of id ns ≡ []
no_results id [] h = refl
no_results id (n ∷ ns) h = none_of (same_id n.id id) id n ns (no_results id ns) h

by_list : (listed : Bool) (id : NotificationId) (ns : List Notification) → results_of id ns ≡ [] → cond listed (first (results_of id ns)) (newest (results_of id ns)) ≡ None
by_list true id ns e = rw e refl
by_list false id ns e = rw e refl

none_among : (delivery : SignalDelivery) (id : NotificationId) (ns : List Notification) → has_result_among id ns ≡ false → present_among delivery id ns ≡ None
none_among delivery id ns h = by_list (is_listed delivery id) id ns (no_results id ns h)

front_false : (a b : Bool) → (a || b) ≡ false → a ≡ false
front_false true b h = absurd (true≢false h)
front_false false b h = refl

behind_false : (a b : Bool) → (a || b) ≡ false → b ≡ false
behind_false true b h = absurd (true≢false h)
behind_false false b h = h

none_present : (delivery : SignalDelivery) (id : NotificationId) (r : Ready) → has_result id r ≡ false → present_result delivery id r ≡ None
none_present delivery id r h =
    rw (none_among delivery id r.delivered (front_false (has_result_among id r.delivered) (has_result_among id r.eager) h), none_among delivery id r.eager (behind_false (has_result_among id r.delivered) (has_result_among id r.eager) h)) refl

none_for : (delivery : SignalDelivery) (id : Option NotificationId) (r : Ready) → has_result_for id r ≡ false → is_some (present_result_for delivery id r) ≡ false
none_for delivery None r h = refl
none_for delivery (Some id) r h = rw (none_present delivery id r h) refl

-- ---- the await

or_never : (a : Bool) → a ≡ (a || false)
or_never true = refl
or_never false = refl

abbrev Uses : Machine → ℕ → Option ℕ → Type 0
Uses v h by = (n : ℕ) → enough by n ≡ has_result_for (id_at h v.results.handles) (ready_after n v.results)

failure_of : (f : Option Error) → is_some f ≡ false → f ≡ None
failure_of None h = refl
failure_of (Some e) h = absurd (true≢false h)

nothing_of : (by : Option ℕ) → is_some by ≡ false → by ≡ None
nothing_of None h = refl
nothing_of (Some n) h = absurd (true≢false h)

module _ (h n : ℕ) (v : Machine) (own : Uses v h (Some n)) (cancel : Uses v 1 None) where
  uncancelled : is_cancelled (with_used n v) ≡ false
  uncancelled = none_for v.options.signal_delivery (id_at 1 v.results.handles) (ready_after n v.results) (sym (cancel n))

  tried : TriesOrCancels (leaf h) v (Done (Ok AnyCompleted) (with_used n v))
  tried = (
    Done (Ok AnyCompleted) (with_used n v),
    inl (n, least_of_either v.results h 1 (Some n) None own cancel (Some n) (λ m. or_never (enough (Some n) m)) v.options.signal_delivery, refl),
    subst (λ b. EndsBy b (with_used n v) (Done (Ok AnyCompleted) (with_used n v))) (sym uncancelled) refl,
  )

  called : is_some v.failure ≡ false → is_running v.phase ≡ true → ends_awaits v.options.implicit_cancellation ≡ true → CalledBy (Awaits (leaf h) v) v (Done (Ok AnyCompleted) (with_used n v))
  called live runs ends =
      let awaited : AwaitsAt (is_running v.phase) (leaf h) v (Done (Ok AnyCompleted) (with_used n v)) =
      subst (λ b. AwaitsAt b (leaf h) v (Done (Ok AnyCompleted) (with_used n v))) (sym runs) (subst (λ b. AwaitsBy b (leaf h) v (Done (Ok AnyCompleted) (with_used n v))) (sym ends) tried) in
      subst (λ f. CalledAt f (Awaits (leaf h) v) v (Done (Ok AnyCompleted) (with_used n v))) (sym (failure_of v.failure live)) (Done (Ok AnyCompleted) (with_used n v), awaited, refl)

pub wakes : (h n : ℕ) (own by : Option ℕ) (v : Machine) (rs : Arrived) → is_some v.failure ≡ false → is_running v.phase ≡ true → ends_awaits v.options.implicit_cancellation ≡ true → Uses v h own → own ≡ Some n → Uses v 1 by → is_some by ≡ false → rs ≡ used v.results n → CalledBy (Awaits (leaf h) v) v (Done (Ok AnyCompleted) (record v { results = rs }))
wakes h n own by v rs live runs ends uses some cancel none is =
    rw is (called h n v (subst (λ (o : Option ℕ). Uses v h o) some uses) (subst (λ (o : Option ℕ). Uses v 1 o) (nothing_of by none) cancel) live runs ends)

-- what such an await returns
pub awakes : (handle : NotificationHandle) (future : UnresolvedFuture) (bytes : List ℕ) (old new : Machine) → future ≡ Single handle → answers_ready old ≡ false → WakesAtOnce true handle.0 old new → CallsFlatAwait future (Ok AnyCompleted) (record { undecoded = bytes; machine = old }) (record { undecoded = bytes; machine = new })
awakes handle future bytes old new is none woken =
    let before : View = record { undecoded = bytes; machine = old } in
    let after : View = record { undecoded = bytes; machine = new } in
    let tree : tree_of future ≡ leaf handle.0 = ap tree_of is ∙ tree_of-Single handle in
    let calls : CalledBy (Awaits (tree_of future) old) old (Done (Ok AnyCompleted) new) = subst (λ (t : Tree). CalledBy (Awaits t old) old (Done (Ok AnyCompleted) new)) (sym tree) woken in
    flattens_call future (Ok (Ok AnyCompleted)) (Ok AnyCompleted) before after none (finishes_so future (Ok (Ok AnyCompleted)) before after (calls, refl) refl) refl

-- an await that returns no ready ephemeral id
pub awaits_any : (future : UnresolvedFuture) (r : Result AwaitResponse Error) (old new : View) → answers_ready old.machine ≡ false → CallsAwaitBy false future r old new → CallsFlatAwait future r old new
awaits_any future r old new none calls = subst (λ b. CallsAwaitBy b future r old new) (sym none) calls

-- one that changed nothing before it is made as any other
pub stays : (future : UnresolvedFuture) (r : Result AwaitResponse Error) (handle : ℕ) (bytes : List ℕ) (old mid : Machine) (new : View) → answers_ready old ≡ false → WakesAtOnce false handle old mid → CallsAwaitBy false future r (record { undecoded = bytes; machine = mid }) new → CallsFlatAwait future r (record { undecoded = bytes; machine = old }) new
stays future r handle bytes old mid new none same calls =
    awaits_any future r (record { undecoded = bytes; machine = old }) new none (subst (λ (m : Machine). CallsAwaitBy false future r (record { undecoded = bytes; machine = m }) new) same calls)
