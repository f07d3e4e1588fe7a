-- The tree that pruned nodes represent is what is left of the tree.
use Rattle.std.proofs.Common.{◌≡◌, ℕ, ◌<◌, Bool, false, ◌||◌, List, [], ◌∷◌, length, sym, ◌∙◌}
use Rattle.journal_attempt.specs.declared.future.FutureKind.{FutureKind}
use Rattle.await_trees.specs.declared.outcome.Outcome.{Outcome}
use Rattle.await_trees.specs.declared.nodes.Node.{Node}
use Rattle.await_trees.specs.Tree.{Tree, Forest, leaf, node, none, more}
use Rattle.await_trees.specs.Outcomes.{outcome, fires, any_fires, is_done, fires_on}
use Rattle.await_trees.specs.Residual.{Residual, same_leaf, same_kind, Residuals, nothing, gone, kept, Added, here, later}
use Rattle.await_trees.proofs.Bools.{or_neither}
use Rattle.await_tries.specs.Spells.{children, AllAbove, Spells, a_leaf, a_node, SpellAll, no_more, one_more}
use Rattle.await_tries.specs.Pruned as sweeps
use Rattle.await_tries.specs.Pruned.{Put, Swept, Pruned}

above_put : (n : ℕ) {c : ℕ} {rs ss : List ℕ} → Put c rs ss → n < c → AllAbove n rs → AllAbove n ss
above_put n sweeps.here l a = (l, a)
above_put n (sweeps.later p) l a = (a.0, above_put n p l a.1)

above_swept : (ended : ℕ → Bool) (n : ℕ) {cs rs : List ℕ} → Swept ended cs rs → AllAbove n cs → AllAbove n rs
above_swept ended n sweeps.none_left a = tt
above_swept ended n (sweeps.gone d s) a = above_swept ended n s a.1
above_swept ended n (sweeps.kept d s p) a = above_put n p a.0 (above_swept ended n s a.1)

module _ (at : ℕ → Outcome) (ended : ℕ → Bool) (ns ms : List Node) (kids lids : List ℕ) (len : length ms ≡ length ns) (pruned : Pruned ended ns kids ms lids)
    (known : (m : ℕ) (u : Tree) → Spells ns kids m u → ended m ≡ is_done (outcome at u)) where
  -- what a node represents now
  abbrev pub Now : Tree → ℕ → Type 0
  Now t n = (r : Tree) × Spells ms lids n r × Residual at t r

  abbrev Nows : Forest → List ℕ → Type 0
  Nows ts rs = (us : Forest) × SpellAll ms lids rs us × Residuals at ts us

  -- so of each of these children
  abbrev AllNow : List ℕ → Forest → Type 0
  AllNow [] none = Unit {0}
  AllNow [] (more t ts) = ⊥
  AllNow (c ∷ cs) none = ⊥
  AllNow (c ∷ cs) (more t ts) = (ended c ≡ is_done (outcome at t)) × Now t c × AllNow cs ts

  put_spelled : {c : ℕ} {rs ss : List ℕ} (r : Tree) (us : Forest) → Put c rs ss → Spells ms lids c r → SpellAll ms lids rs us → (ws : Forest) × SpellAll ms lids ss ws × Added r us ws
  put_spelled r us sweeps.here s a = (more r us, one_more s a, here)
  put_spelled r none (sweeps.later p) s a = elim a [ ]
  put_spelled r (more u us) (sweeps.later p) s (one_more q a) = let (ws, b, d) = put_spelled r us p s a in (more u ws, one_more q b, later d)

  swept_left : {cs rs : List ℕ} (ts : Forest) → Swept ended cs rs → AllNow cs ts → Nows ts rs
  swept_left none sweeps.none_left a = (none, no_more, nothing)
  swept_left (more t ts) sweeps.none_left a = absurd a
  swept_left none (sweeps.gone d s) a = absurd a
  swept_left (more t ts) (sweeps.gone d s) a = let (us, b, e) = swept_left ts s a.2 in (us, b, gone (sym a.0 ∙ d) e)
  swept_left none (sweeps.kept d s p) a = absurd a
  swept_left (more t ts) (sweeps.kept d s p) a =
      let (us, b, e) = swept_left ts s a.2 in
      let (r, spelled, residual) = a.1 in
      let (ws, f, g) = put_spelled r us p spelled b in
      (ws, f, kept (sym a.0 ∙ d) residual e g)

  mutual
    pub left : (n : ℕ) (t : Tree) → Spells ns kids n t → fires at t ≡ false → Now t n
    left n t (a_leaf {h = h} b e) q = (leaf h, a_leaf (rw len b) ((pruned n b).0 ∙ e), same_leaf)
    left n t (a_node {k = k} {ts = ts} b e a s) q =
        let p = pruned n b in
        let (us, all, rest) = swept_left ts p.1 (all_left k (children ns kids n) ts s q) in
        (node k us, a_node (rw len b) (p.0 ∙ e) (above_swept ended n p.1 a) all, same_kind rest)

    all_left : (k : FutureKind) (cs : List ℕ) (ts : Forest) → SpellAll ns kids cs ts → any_fires at k ts ≡ false → AllNow cs ts
    all_left k cs ts no_more q = tt
    all_left k cs ts (one_more {c = c} {cs = ds} {t = t} {ts = us} s r) q =
        let far = or_neither (fires_on k (outcome at t) || fires at t) (any_fires at k us) q in
        let near = or_neither (fires_on k (outcome at t)) (fires at t) far.0 in
        (known c t s, left c t s near.1, all_left k ds us r far.1)
