-- The tree that a node represents, read as a function.
use Rattle.std.proofs.Common.{◌≡◌, ℕ, zero, suc, ◌+◌, ◌<◌, ◌≤◌, List, length, map, refl, sym, ap, ◌∙◌, arith}
use Rattle.await_trees.specs.declared.nodes.Node.{Node}
use Rattle.await_trees.specs.Tree.{Tree, Forest, node, forest}
use Rattle.await_tries.specs.Left.{Left, read, IsTreeLeft}
use Rattle.await_tries.specs.Ranges.{Ranged}
use Rattle.await_tries.specs.Walks.{reads}
use Rattle.await_tries.specs.Spells.{children, AllAbove, Spells, a_leaf, a_node, SpellAll, no_more, one_more}

module _ (ns : List Node) (kids : List ℕ) where
  mutual
    read_is : (f n : ℕ) (t : Tree) → length ns ≤ n + f → Spells ns kids n t → read ns kids f n ≡ t
    read_is zero n t l (a_leaf b e) = absurd (omega arith)
    read_is (suc f) n t l (a_leaf b e) = rw e refl
    read_is zero n t l (a_node b e a s) = absurd (omega arith)
    read_is (suc f) n t l (a_node {k = k} {ts = ts} b e a s) = rw e (ap (node k) (reads_is f n (children ns kids n) ts (omega arith) a s))

    reads_is : (f n : ℕ) (cs : List ℕ) (ts : Forest) → length ns ≤ suc n + f → AllAbove n cs → SpellAll ns kids cs ts → forest (map (read ns kids f) cs) ≡ ts
    reads_is f n cs ts l a no_more = refl
    reads_is f n cs ts l a (one_more {c = c} {cs = ds} {t = t} {ts = us} s r) =
        let above = a.0 in
        rw (read_is f c t (omega arith) s, reads_is f n ds us l a.1 r) refl

  pub spelled_at : (n : ℕ) (t : Tree) → Spells ns kids n t → read ns kids (length ns) n ≡ t
  spelled_at n t s = read_is (length ns) n t (omega arith) s

  pub spelled_once : (n : ℕ) (t u : Tree) → Spells ns kids n t → Spells ns kids n u → u ≡ t
  spelled_once n t u s r = sym (spelled_at n u r) ∙ spelled_at n t s

  pub reads_are : (cs : List ℕ) (ts : Forest) → SpellAll ns kids cs ts → reads ns kids cs ≡ ts
  reads_are cs ts no_more = refl
  reads_are cs ts (one_more {c = c} {cs = ds} {t = t} {ts = us} s r) = rw (spelled_at c t s, reads_are ds us r) refl

pub whole : (l : Left) (t : Tree) → Ranged l.nodes l.kids → Spells l.nodes l.kids 0 t → IsTreeLeft l
whole l t r s = record { ranged = r; spelled = rw (spelled_at l.nodes l.kids 0 t s) s }

pub spells_within : (ns : List Node) (kids : List ℕ) (n : ℕ) (t : Tree) → Spells ns kids n t → n < length ns
spells_within ns kids n t (a_leaf b e) = b
spells_within ns kids n t (a_node b e a s) = b
