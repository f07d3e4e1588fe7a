-- A node of a wire future is filled child by child.
use Rattle.std.proofs.Common.{◌≡◌, ℕ, zero, suc, ◌+◌, ◌<◌, List, [], ◌++◌, length, map, drop, get_or, Option, Some, None, refl, sym, ap, ◌∙◌, arith, append_assoc, append-nil, drop-cons}
use Rattle.journal_attempt.specs.declared.future.FutureKind.{FutureKind}
use Rattle.journal_attempt.specs.declared.future.FutureNode.{FutureNode}
use Rattle.journal_values.specs.declared.notification.NotificationId.{NotificationId}
use Rattle.journal_values.specs.declared.notification.NotificationId.TheVariants.{CompletionId, SignalId, SignalName}
use Rattle.await_trees.specs.declared.nodes.Node.{Node}
use Rattle.await_trees.specs.declared.nodes.Label.TheVariants.{Leaf, Inner}
use Rattle.await_trees.specs.Tree.{Forest, leaf, node, none, more, forest}
use Rattle.await_trees.specs.Wires.{with_completion_id, signal_of, with_signal_name, completions, signals, names, head_of}
use Rattle.await_tries.specs.Heads.{bare, with_leaf_id, with_children}
use Rattle.await_tries.specs.Left.{read}
use Rattle.await_tries.specs.Spells.{node_at, children}
use Rattle.await_tries.specs.Walks.{reads}

same_node : (a b : FutureNode) → a.kind ≡ b.kind → a.waiting_completions ≡ b.waiting_completions → a.waiting_signals ≡ b.waiting_signals → a.waiting_named_signals ≡ b.waiting_named_signals → a.nested ≡ b.nested → a ≡ b
same_node a b k c s n m = λ i. record { kind = k i; waiting_completions = c i; waiting_signals = s i; waiting_named_signals = n i; nested = m i }

completion_first : (o : Option NotificationId) (is : List ℕ) → with_completion_id o is ≡ with_completion_id o [] ++ is
completion_first None is = refl
completion_first (Some (CompletionId i)) is = refl
completion_first (Some (SignalId i)) is = refl
completion_first (Some (SignalName i)) is = refl

signal_first : (o : Option NotificationId) (is : List ℕ) → signal_of o is ≡ signal_of o [] ++ is
signal_first None is = refl
signal_first (Some (CompletionId i)) is = refl
signal_first (Some (SignalId i)) is = refl
signal_first (Some (SignalName i)) is = refl

name_first : (o : Option NotificationId) (is : List (List ℕ)) → with_signal_name o is ≡ with_signal_name o [] ++ is
name_first None is = refl
name_first (Some (CompletionId i)) is = refl
name_first (Some (SignalId i)) is = refl
name_first (Some (SignalName i)) is = refl

one_behind : {X : Type 0} (xs ys zs ws : List X) → ws ≡ ys ++ zs → (xs ++ ys) ++ zs ≡ xs ++ ws
one_behind xs ys zs ws e = append_assoc xs ys zs ∙ ap (λ z. xs ++ z) (sym e)

module _ (id : ℕ → Option NotificationId) where
  with_leaf : (n : FutureNode) (h : ℕ) (ts : Forest) → with_children id (with_leaf_id (id h) n) ts ≡ with_children id n (more (leaf h) ts)
  with_leaf n h ts = same_node (with_children id (with_leaf_id (id h) n) ts) (with_children id n (more (leaf h) ts)) refl
      (one_behind n.waiting_completions (with_completion_id (id h) []) (completions id ts) (with_completion_id (id h) (completions id ts)) (completion_first (id h) (completions id ts)))
      (one_behind n.waiting_signals (signal_of (id h) []) (signals id ts) (signal_of (id h) (signals id ts)) (signal_first (id h) (signals id ts)))
      (one_behind n.waiting_named_signals (with_signal_name (id h) []) (names id ts) (with_signal_name (id h) (names id ts)) (name_first (id h) (names id ts)))
      refl

  with_inner : (n : FutureNode) (k : FutureKind) (us ts : Forest) → with_children id (record n { nested = n.nested + 1 }) ts ≡ with_children id n (more (node k us) ts)
  with_inner n k us ts = same_node (with_children id (record n { nested = n.nested + 1 }) ts) (with_children id n (more (node k us) ts)) refl refl refl refl (omega arith)

  with_none : (n : FutureNode) → with_children id n none ≡ n
  with_none n = same_node (with_children id n none) n refl (append-nil n.waiting_completions) (append-nil n.waiting_signals) (append-nil n.waiting_named_signals) (omega arith)

  bare_filled : (k : FutureKind) (ts : Forest) → with_children id (bare k) ts ≡ head_of id k ts
  bare_filled k ts = same_node (with_children id (bare k) ts) (head_of id k ts) refl refl refl refl (omega arith)

  pub whole_head : (k : FutureKind) (n : FutureNode) (ts us : Forest) → with_children id n us ≡ with_children id (bare k) ts → us ≡ none → n ≡ head_of id k ts
  whole_head k n ts us e o = sym (ap (with_children id n) o ∙ with_none n) ∙ e ∙ bare_filled k ts

  -- two leaves
  pub two_put : (k : FutureKind) (one other : ℕ) → with_leaf_id (id other) (with_leaf_id (id one) (bare k)) ≡ head_of id k (more (leaf one) (more (leaf other) none))
  two_put k one other =
      sym (with_none (with_leaf_id (id other) (with_leaf_id (id one) (bare k)))) ∙ with_leaf (with_leaf_id (id one) (bare k)) other none ∙ with_leaf (bare k) one (more (leaf other) none)
      ∙ bare_filled k (more (leaf one) (more (leaf other) none))

  module _ (ns : List Node) (kids cs : List ℕ) (i : ℕ) (whole head after : FutureNode) (l : i < length cs) (some : 0 < length ns) where
    abbrev c : ℕ
    c = get_or cs i 0

    next_is : reads ns kids (drop i cs) ≡ more (read ns kids (length ns) c) (reads ns kids (drop (i + 1) cs))
    next_is = let e : i + 1 ≡ suc i = omega arith in ap (reads ns kids) (drop-cons cs i 0 l) ∙ ap (λ z. more (read ns kids (length ns) c) (reads ns kids (drop z cs))) (sym e)

    read_leaf : (f h : ℕ) → 0 < f → (node_at ns c).label ≡ Leaf h → read ns kids f c ≡ leaf h
    read_leaf zero h p e = absurd (omega arith)
    read_leaf (suc f) h p e = rw e refl

    read_inner : (f : ℕ) (k : FutureKind) → 0 < f → (node_at ns c).label ≡ Inner k → (us : Forest) × (read ns kids f c ≡ node k us)
    read_inner zero k p e = absurd (omega arith)
    read_inner (suc f) k p e = (forest (map (read ns kids f) (children ns kids c)), rw e refl)

    pub leaf_turn : (h : ℕ) → (node_at ns c).label ≡ Leaf h → after ≡ with_leaf_id (id h) head → with_children id head (reads ns kids (drop i cs)) ≡ whole → with_children id after (reads ns kids (drop (i + 1) cs)) ≡ whole
    leaf_turn h label put e =
        let rest = reads ns kids (drop (i + 1) cs) in
        let is : reads ns kids (drop i cs) ≡ more (leaf h) rest = next_is ∙ ap (λ z. more z rest) (read_leaf (length ns) h some label) in
        ap (λ z. with_children id z rest) put ∙ with_leaf head h rest ∙ sym (ap (with_children id head) is) ∙ e

    pub inner_turn : (k : FutureKind) → (node_at ns c).label ≡ Inner k → after ≡ record head { nested = head.nested + 1 } → with_children id head (reads ns kids (drop i cs)) ≡ whole → with_children id after (reads ns kids (drop (i + 1) cs)) ≡ whole
    inner_turn k label put e =
        let rest = reads ns kids (drop (i + 1) cs) in
        let (us, r) = read_inner (length ns) k some label in
        let is : reads ns kids (drop i cs) ≡ more (node k us) rest = next_is ∙ ap (λ z. more z rest) r in
        ap (λ z. with_children id z rest) put ∙ with_inner head k us rest ∙ sym (ap (with_children id head) is) ∙ e
