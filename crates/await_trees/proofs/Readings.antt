-- A wire future is one whole future, and wakes as the tree that was sent.
use Rattle.std.proofs.Common.{◌≡◌, ℕ, suc, ◌+◌, Bool, true, false, ◌||◌, List, [], ◌∷◌, ◌++◌, refl, sym, ap, ◌∙◌, arith, append_assoc, append-nil, Option, Some, None}
use Rattle.journal_attempt.specs.declared.future.FutureKind.{FutureKind}
use Rattle.journal_attempt.specs.declared.future.FutureKind.TheVariants.{FirstCompleted}
use Rattle.journal_attempt.specs.declared.future.FutureNode.{FutureNode}
use Rattle.journal_values.specs.declared.notification.NotificationId.{NotificationId}
use Rattle.journal_values.specs.declared.notification.NotificationId.TheVariants.{CompletionId, SignalId, SignalName}
use Rattle.journal_attempt.specs.Futures.{are_whole}
use Rattle.await_trees.specs.declared.outcome.Outcome.{Outcome}
use Rattle.await_trees.specs.Outcomes.{is_done, all_wait, any_fires, awake}
use Rattle.await_trees.specs.Residual.{Added, here, later}
use Rattle.await_trees.specs.Tree.{TreeOver, ForestOver, Tree, Forest, leaf, node, none, more}
use Rattle.await_trees.specs.Wires.{with_completion_id, signal_of, with_signal_name, inner, completions, signals, names, nested, sent, first_trees, other_trees, leaves, readings, tree_of_nodes, outcome_of_leaf, has_id, Mapped, AllMapped}
use Rattle.await_trees.proofs.Prune.{wait_added, fires_added}

joined : {L : Type 0} → ForestOver L → ForestOver L → ForestOver L
joined none rs = rs
joined (more t ts) rs = more t (joined ts rs)

joined_none : {L : Type 0} (ts : ForestOver L) → joined ts none ≡ ts
unfolding joined
joined_none none = refl
joined_none (more t ts) = ap (more t) (joined_none ts)

module _ (id : ℕ → Option NotificationId) where
  -- ---- one whole future

  abbrev part : Forest → ℕ → List FutureNode → Type 0
  part ts a ns = are_whole (a + inner ts) (nested id ts ++ ns) ≡ are_whole a ns

  whole_behind : (ts : Forest) (a : ℕ) (ns : List FutureNode) → part ts a ns
  whole_behind none a ns = let e : a + 0 ≡ a = omega arith in rw e refl
  whole_behind (more (leaf h) ts) a ns = whole_behind ts a ns
  whole_behind (more (node k us) ts) a ns =
      let e : a + suc (inner ts) ≡ suc (a + inner ts) = omega arith in
      rw (e, append_assoc (nested id us) (nested id ts) ns, whole_behind us (a + inner ts) (nested id ts ++ ns)) (whole_behind ts a ns)

  pub sent_whole : (t : Tree) → are_whole 1 (sent id t) ≡ true
  sent_whole (leaf h) = refl
  sent_whole (node k ts) =
      let w : are_whole (0 + inner ts) (nested id ts ++ []) ≡ true = whole_behind ts 0 [] in
      rw (append-nil (nested id ts)) at w

  -- ---- as it reads

  abbrev rows : Forest → ForestOver NotificationId → ForestOver NotificationId
  rows ts us = leaves CompletionId (completions id ts) (leaves SignalId (signals id ts) (leaves SignalName (names id ts) us))

  -- those that nest, as they read
  inners : Forest → ForestOver NotificationId
  inners none = none
  inners (more (leaf h) ts) = inners ts
  inners (more (node k us) ts) = more (node k (rows us (inners us))) (inners ts)

  first_inner : (ts : Forest) (rs : ForestOver NotificationId) → first_trees (inner ts) (joined (inners ts) rs) ≡ inners ts
  unfolding joined inners
  first_inner none rs = refl
  first_inner (more (leaf h) ts) rs = first_inner ts rs
  first_inner (more (node k us) ts) rs = ap (more (node k (rows us (inners us)))) (first_inner ts rs)

  other_inner : (ts : Forest) (rs : ForestOver NotificationId) → other_trees (inner ts) (joined (inners ts) rs) ≡ rs
  unfolding joined inners
  other_inner none rs = refl
  other_inner (more (leaf h) ts) rs = other_inner ts rs
  other_inner (more (node k us) ts) rs = other_inner ts rs

  nested_reads : (ts : Forest) (ns : List FutureNode) → readings (nested id ts ++ ns) ≡ joined (inners ts) (readings ns)
  unfolding joined inners
  nested_reads none ns = refl
  nested_reads (more (leaf h) ts) ns = nested_reads ts ns
  nested_reads (more (node k us) ts) ns =
      rw (append_assoc (nested id us) (nested id ts) ns, nested_reads us (nested id ts ++ ns), first_inner us (readings (nested id ts ++ ns)), other_inner us (readings (nested id ts ++ ns)), nested_reads ts ns) refl

  reads_node : (k : FutureKind) (ts : Forest) → tree_of_nodes (sent id (node k ts)) ≡ node k (rows ts (inners ts))
  reads_node k ts =
      let e : readings (nested id ts) ≡ inners ts = ap readings (sym (append-nil (nested id ts))) ∙ nested_reads ts [] ∙ joined_none (inners ts) in
      let f : first_trees (inner ts) (inners ts) ≡ inners ts = ap (first_trees (inner ts)) (sym (joined_none (inners ts))) ∙ first_inner ts none in
      rw (e, f) refl

added_behind : {X L : Type 0} (f : X → L) (is : List X) (t : TreeOver L) (ts us : ForestOver L) → Added t ts us → Added t (leaves f is ts) (leaves f is us)
added_behind f [] t ts us a = a
added_behind f (i ∷ is) t ts us a = later (added_behind f is t ts us a)

abbrev lists : List ℕ → List ℕ → List (List ℕ) → ForestOver NotificationId → ForestOver NotificationId
lists cs ss ns ws = leaves CompletionId cs (leaves SignalId ss (leaves SignalName ns ws))

leaf_added : (o : Option NotificationId) → has_id o → (cs ss : List ℕ) (ns : List (List ℕ)) (ws : ForestOver NotificationId)
    → (i : NotificationId) × (o ≡ Some i) × Added (leaf i) (lists cs ss ns ws) (lists (with_completion_id o cs) (signal_of o ss) (with_signal_name o ns) ws)
leaf_added None h cs ss ns ws = absurd h
leaf_added (Some (CompletionId i)) h cs ss ns ws = (CompletionId i, refl, here)
leaf_added (Some (SignalId i)) h cs ss ns ws = (SignalId i, refl, added_behind CompletionId cs (leaf (SignalId i)) _ _ (here {ts = leaves SignalId ss (leaves SignalName ns ws)}))
leaf_added (Some (SignalName i)) h cs ss ns ws = (SignalName i, refl, added_behind CompletionId cs (leaf (SignalName i)) _ _ (added_behind SignalId ss _ _ _ (here {ts = leaves SignalName ns ws})))

node_added : (t : TreeOver NotificationId) (cs ss : List ℕ) (ns : List (List ℕ)) (ws : ForestOver NotificationId) → Added t (lists cs ss ns ws) (lists cs ss ns (more t ws))
node_added t cs ss ns ws = added_behind CompletionId cs _ _ _ (added_behind SignalId ss _ _ _ (added_behind SignalName ns _ _ _ (here {ts = ws})))

module _ (id : ℕ → Option NotificationId) (at : NotificationId → Outcome) where
  abbrev bt : ℕ → Outcome
  bt h = outcome_of_leaf at (id h)

  rows_wait : (k : FutureKind) (ts : Forest) → AllMapped id ts → all_wait at k (rows id ts (inners id ts)) ≡ all_wait bt k ts
  unfolding inners
  rows_wait k none m = refl
  rows_wait k (more (leaf h) ts) m =
      let (i, e, a) = leaf_added (id h) m.0 (completions id ts) (signals id ts) (names id ts) (inners id ts) in
      let same : at i ≡ outcome_of_leaf at (id h) = ap (outcome_of_leaf at) (sym e) in
      rw (wait_added at k a, same, rows_wait k ts m.1) refl
  rows_wait k (more (node j us) ts) m =
      let a = node_added (node j (rows id us (inners id us))) (completions id ts) (signals id ts) (names id ts) (inners id ts) in
      rw (wait_added at k a, rows_wait j us m.0, rows_wait k ts m.1) refl

  rows_fire : (k : FutureKind) (ts : Forest) → AllMapped id ts → any_fires at k (rows id ts (inners id ts)) ≡ any_fires bt k ts
  unfolding inners
  rows_fire k none m = refl
  rows_fire k (more (leaf h) ts) m =
      let (i, e, a) = leaf_added (id h) m.0 (completions id ts) (signals id ts) (names id ts) (inners id ts) in
      let same : at i ≡ outcome_of_leaf at (id h) = ap (outcome_of_leaf at) (sym e) in
      rw (fires_added at k a, same, rows_fire k ts m.1) refl
  rows_fire k (more (node j us) ts) m =
      let a = node_added (node j (rows id us (inners id us))) (completions id ts) (signals id ts) (names id ts) (inners id ts) in
      rw (fires_added at k a, rows_wait j us m.0, rows_fire j us m.0, rows_fire k ts m.1) refl

  or_falses : (b : Bool) → ((b || false) || false) ≡ (b || false)
  or_falses true = refl
  or_falses false = refl

  one_leaf : (o : Option NotificationId) → has_id o → awake at (node FirstCompleted (lists (with_completion_id o []) (signal_of o []) (with_signal_name o []) none)) ≡ (is_done (outcome_of_leaf at o) || false)
  one_leaf None h = absurd h
  one_leaf (Some (CompletionId i)) h = or_falses (is_done (at (CompletionId i)))
  one_leaf (Some (SignalName i)) h = or_falses (is_done (at (SignalName i)))
  one_leaf (Some (SignalId i)) h = or_falses (is_done (at (SignalId i)))

  pub sent_awake : (t : Tree) → Mapped id t → awake at (tree_of_nodes (sent id t)) ≡ awake bt t
  sent_awake (leaf h) m = one_leaf (id h) m
  sent_awake (node k ts) m =
      let as_sent : awake at (node k (rows id ts (inners id ts))) ≡ awake bt (node k ts) = rw (rows_wait k ts m, rows_fire k ts m) refl in
      ap (awake at) (reads_node id k ts) ∙ as_sent
