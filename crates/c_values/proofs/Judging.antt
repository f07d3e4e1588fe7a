-- A node judged by its children is the outcome of its tree, and how the trees of a row lie on a stack.
use Rattle.std.proofs.Common.{◌≡◌, ℕ, zero, suc, ◌+◌, ◌-◌, ◌<◌, ◌≤◌, Bool, true, false, cond, ◌&&◌, ◌||◌, List, [], ◌∷◌, ◌++◌, map, length, take, drop, get_or, refl, sym, ap, ◌∙◌, arith, append_assoc, append-nil}
use Rattle.std.specs.List.{list_all, list_any}
use Rattle.std.proofs.lemmas.List.{length-append, length-drop}
use Rattle.std.proofs.lemmas.List.Folds.{list_all-append, list_any-append}
use Rattle.std.proofs.Math.Seq.{take-append_seam, drop-append_seam, take-length, drop-cons}
use Rattle.journal_protocol.specs.FutureKind.{FutureKind}
use Rattle.journal_protocol.specs.FutureNode.{FutureNode}
use Rattle.journal_protocol.specs.NotificationId.{NotificationId}
use Rattle.journal_protocol.specs.NotificationId.TheVariants.{CompletionId, SignalId, SignalName}
use Rattle.await_trees.specs.declared.outcome.Outcome.{Outcome}
use Rattle.await_trees.specs.declared.outcome.Outcome.TheVariants.{Pending}
use Rattle.await_trees.specs.Outcomes.{all_wait, any_fires, fires_on, outcome_of, waits_for}
use Rattle.await_trees.specs.Tree.{ForestOver, none, more}
use Rattle.await_trees.specs.Wires.{first_trees, other_trees, leaves, read_node, readings}
use Rattle.c_values.specs.declared.judged.JudgedTree.{JudgedTree}
use Rattle.c_values.specs.Children.{judged, judged_by, listed_outcomes, stacked, wakes}

and_assoc : (a b c : Bool) → (a && b) && c ≡ (a && (b && c))
and_assoc true b c = refl
and_assoc false b c = refl

or_assoc : (a b c : Bool) → (a || b) || c ≡ (a || (b || c))
or_assoc true b c = refl
or_assoc false b c = refl

and_back : (a b : Bool) → (a && (b && true)) ≡ (b && a)
and_back true true = refl
and_back true false = refl
and_back false true = refl
and_back false false = refl

or_back : (a b : Bool) → (a || (b || false)) ≡ (b || a)
or_back true true = refl
or_back true false = refl
or_back false true = refl
or_back false false = refl

or_false : (a : Bool) → (a || false) ≡ a
or_false true = refl
or_false false = refl

module _ (at : NotificationId → Outcome) where
  -- ---- the leaves of a node

  leaves_wait : {X : Type 0} (k : FutureKind) (f : X → NotificationId) (is : List X) (ts : ForestOver NotificationId)
      → all_wait at k (leaves f is ts) ≡ (list_all (waits_for k) (map (λ i. at (f i)) is) && all_wait at k ts)
  leaves_wait k f [] ts = refl
  leaves_wait k f (i ∷ is) ts = ap (λ b. waits_for k (at (f i)) && b) (leaves_wait k f is ts) ∙ sym (and_assoc (waits_for k (at (f i))) (list_all (waits_for k) (map (λ j. at (f j)) is)) (all_wait at k ts))

  leaves_fire : {X : Type 0} (k : FutureKind) (f : X → NotificationId) (is : List X) (ts : ForestOver NotificationId)
      → any_fires at k (leaves f is ts) ≡ (list_any (fires_on k) (map (λ i. at (f i)) is) || any_fires at k ts)
  leaves_fire k f [] ts = refl
  leaves_fire k f (i ∷ is) ts =
      (λ j. or_false (fires_on k (at (f i))) j || leaves_fire k f is ts j)
      ∙ sym (or_assoc (fires_on k (at (f i))) (list_any (fires_on k) (map (λ j. at (f j)) is)) (any_fires at k ts))

  -- ---- the trees on a stack

  trees_wait : (k : FutureKind) (ts : ForestOver NotificationId) → list_all (λ (child : JudgedTree). waits_for k child.outcome) (stacked at ts) ≡ all_wait at k ts
  trees_wait k none = refl
  trees_wait k (more t ts) =
      list_all-append (λ (child : JudgedTree). waits_for k child.outcome) (stacked at ts) (judged at t ∷ [])
      ∙ and_back (list_all (λ (child : JudgedTree). waits_for k child.outcome) (stacked at ts)) (waits_for k (judged at t).outcome)
      ∙ ap (λ b. waits_for k (judged at t).outcome && b) (trees_wait k ts)

  trees_fire : (k : FutureKind) (ts : ForestOver NotificationId) → list_any (wakes k) (stacked at ts) ≡ any_fires at k ts
  trees_fire k none = refl
  trees_fire k (more t ts) =
      list_any-append (wakes k) (stacked at ts) (judged at t ∷ [])
      ∙ or_back (list_any (wakes k) (stacked at ts)) (wakes k (judged at t))
      ∙ ap (λ b. wakes k (judged at t) || b) (trees_fire k ts)

  -- ---- a node

  module _ (k : FutureKind) (cs ss : List ℕ) (ns : List (List ℕ)) (ts : ForestOver NotificationId) where
    abbrev row : ForestOver NotificationId
    row = leaves CompletionId cs (leaves SignalId ss (leaves SignalName ns ts))

    abbrev by_c : List Outcome
    by_c = map (λ i. at (CompletionId i)) cs

    abbrev by_s : List Outcome
    by_s = map (λ i. at (SignalId i)) ss

    abbrev by_n : List Outcome
    by_n = map (λ i. at (SignalName i)) ns

    node_waits : all_wait at k row ≡ (list_all (waits_for k) (by_c ++ (by_s ++ by_n)) && list_all (λ (child : JudgedTree). waits_for k child.outcome) (stacked at ts))
    node_waits =
        rw (
          leaves_wait k CompletionId cs (leaves SignalId ss (leaves SignalName ns ts)),
          leaves_wait k SignalId ss (leaves SignalName ns ts),
          leaves_wait k SignalName ns ts,
          list_all-append (waits_for k) by_c (by_s ++ by_n),
          list_all-append (waits_for k) by_s by_n,
          trees_wait k ts,
          and_assoc (list_all (waits_for k) by_c) (list_all (waits_for k) by_s && list_all (waits_for k) by_n) (all_wait at k ts),
          and_assoc (list_all (waits_for k) by_s) (list_all (waits_for k) by_n) (all_wait at k ts),
        ) refl

    node_fires : any_fires at k row ≡ (list_any (fires_on k) (by_c ++ (by_s ++ by_n)) || list_any (wakes k) (stacked at ts))
    node_fires =
        rw (
          leaves_fire k CompletionId cs (leaves SignalId ss (leaves SignalName ns ts)),
          leaves_fire k SignalId ss (leaves SignalName ns ts),
          leaves_fire k SignalName ns ts,
          list_any-append (fires_on k) by_c (by_s ++ by_n),
          list_any-append (fires_on k) by_s by_n,
          trees_fire k ts,
          or_assoc (list_any (fires_on k) by_c) (list_any (fires_on k) by_s || list_any (fires_on k) by_n) (any_fires at k ts),
          or_assoc (list_any (fires_on k) by_s) (list_any (fires_on k) by_n) (any_fires at k ts),
        ) refl

  -- a node judged by its children
  pub node_judged : (n : FutureNode) (ts : ForestOver NotificationId) (trees : List JudgedTree) → trees ≡ stacked at ts
      → judged_by n.kind (listed_outcomes at n) trees ≡ judged at (read_node n ts)
  node_judged n ts trees e =
      ap (judged_by n.kind (listed_outcomes at n)) e
      ∙ (λ i. record {
        outcome = (sym (ap (λ b. cond b (outcome_of n.kind) Pending) (node_waits n.kind n.waiting_completions n.waiting_signals n.waiting_named_signals ts))) i;
        fires = (sym (node_fires n.kind n.waiting_completions n.waiting_signals n.waiting_named_signals ts)) i;
      })

  -- ---- trees on a stack

  -- the first trees of a row lie on the others
  stacked_first : (n : ℕ) (ts : ForestOver NotificationId) → stacked at ts ≡ stacked at (other_trees n ts) ++ stacked at (first_trees n ts)
  stacked_first zero ts = sym (append-nil (stacked at ts))
  stacked_first (suc n) none = refl
  stacked_first (suc n) (more t ts) =
      ap (λ l. l ++ judged at t ∷ []) (stacked_first n ts) ∙ append_assoc (stacked at (other_trees n ts)) (stacked at (first_trees n ts)) (judged at t ∷ [])

  -- and the others are as many as are left
  others_left : (n : ℕ) (ts : ForestOver NotificationId) → length (stacked at (other_trees n ts)) ≡ length (stacked at ts) - n
  others_left zero ts = omega arith
  others_left (suc n) none = omega arith
  others_left (suc n) (more t ts) =
      let e : length (stacked at ts ++ judged at t ∷ []) ≡ length (stacked at ts) + 1 = length-append (stacked at ts) (judged at t ∷ []) in
      let l : length (stacked at (other_trees n ts)) ≡ length (stacked at ts) - n = others_left n ts in
      omega (arith, e, l)

  module _ (n : ℕ) (ts : ForestOver NotificationId) (from : ℕ) (stack : List JudgedTree) (is : stack ≡ stacked at ts) (at_from : from ≡ length stack - n) where
    from_is : from ≡ length (stacked at (other_trees n ts))
    from_is = at_from ∙ ap (λ (l : List JudgedTree). length l - n) is ∙ sym (others_left n ts)

    stack_is : stack ≡ stacked at (other_trees n ts) ++ stacked at (first_trees n ts)
    stack_is = is ∙ stacked_first n ts

    pub below : take from stack ≡ stacked at (other_trees n ts)
    below = (λ i. take (from_is i) (stack_is i)) ∙ take-append_seam (stacked at (other_trees n ts)) (stacked at (first_trees n ts))

    pub above : drop from stack ≡ stacked at (first_trees n ts)
    above = (λ i. drop (from_is i) (stack_is i)) ∙ drop-append_seam (stacked at (other_trees n ts)) (stacked at (first_trees n ts))

  -- a node takes the place of the trees that nest in it
  pub stepped : (n : FutureNode) (ts : ForestOver NotificationId) (from : ℕ) (stack lent : List JudgedTree) (found : JudgedTree) → stack ≡ stacked at ts → from ≡ length stack - n.nested → lent ≡ stack
      → ((us : ForestOver NotificationId) → take (length lent - from) (drop from lent) ≡ stacked at us → found ≡ judged at (read_node n us))
      → take from stack ++ found ∷ [] ≡ stacked at (more (read_node n (first_trees n.nested ts)) (other_trees n.nested ts))
  stepped n ts from stack lent found is at_from same by =
      let whole : take (length lent - from) (drop from lent) ≡ drop from lent = ap (λ m. take m (drop from lent)) (sym (length-drop from lent)) ∙ take-length (drop from lent) in
      let f : found ≡ judged at (read_node n (first_trees n.nested ts)) = by (first_trees n.nested ts) (whole ∙ ap (drop from) same ∙ above n.nested ts from stack is at_from) in
      (λ i. below n.nested ts from stack is at_from i ++ f i ∷ [])

-- the row that begins at the node before: that node, over the first trees of the row
pub next_reads : (nodes : List FutureNode) (i : ℕ) (n : FutureNode) → 0 < i → i ≤ length nodes → n ≡ get_or nodes (i - 1) n
    → readings (drop (i - 1) nodes) ≡ more (read_node n (first_trees n.nested (readings (drop i nodes)))) (other_trees n.nested (readings (drop i nodes)))
next_reads nodes i n positive within is =
    let least : i - 1 < length nodes = omega (arith, positive, within) in
    let next : suc (i - 1) ≡ i = omega (arith, positive) in
    let d : drop (i - 1) nodes ≡ n ∷ drop i nodes = drop-cons nodes (i - 1) n least ∙ (λ j. sym is j ∷ drop (next j) nodes) in
    ap readings d
