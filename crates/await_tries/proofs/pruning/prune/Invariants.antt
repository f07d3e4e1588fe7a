use Rattle.std.proofs.Common.{◌≡◌, ◌<◌, ◌≤◌, ℕ, length}
use Rattle.await_tries.specs.Courses.{ends_at}
use Rattle.await_tries.specs.Pruned.{Swept}
use Rattle.await_tries.specs.Ranges.{Ranged}
use Rattle.await_tries.specs.Spells.{node_at, children}
use Rattle.await_tries.proofs.pruning.prune.Given as goal

abbrev pub invariant-loop-i : goal.invariant-loop-i
invariant-loop-i l = record {
  size : length l.nodes.items ≡ length l.initial.nodes.items;
  ranged : Ranged l.nodes.items l.kids.items;
  pruned : (m : ℕ) → m < l.i → ((node_at l.nodes.items m).label ≡ (node_at l.initial.nodes.items m).label)
      × Swept (ends_at l.courses) (children l.initial.nodes.items l.initial.kids.items m) (children l.nodes.items l.kids.items m);
  same : (m : ℕ) → l.i ≤ m → m < length l.nodes.items → (node_at l.nodes.items m ≡ node_at l.initial.nodes.items m) × (children l.nodes.items l.kids.items m ≡ children l.initial.nodes.items l.initial.kids.items m);
}
