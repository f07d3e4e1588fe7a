-- The trees that are still to come in a walk over nodes, in preorder.
use Rattle.std.specs.Prelude.{ℕ, ◌≡◌, ◌-◌, ◌≤◌, List, [], ◌∷◌, length, take, drop, map, Option, Some, None}
use Rattle.await_trees.specs.declared.nodes.Node.{Node}
use Rattle.await_trees.specs.Preorder.{forests_joined, forest_after_root}
use Rattle.await_trees.specs.Tree.{Forest, none, more, forest}
use Rattle.await_tries.specs.declared.walk.Row.{Row}
use Rattle.await_tries.specs.Left.{read}
use Rattle.await_tries.specs.Spells.{Spells, SpellAll}

-- the trees of these numbers
abbrev pub reads : List Node → List ℕ → List ℕ → Forest
reads ns kids cs = forest (map (read ns kids (length ns)) cs)

-- the numbers in a row that are still to be read
abbrev pub row_rest : List ℕ → Row → List ℕ
row_rest kids r = take (r.end - r.place) (drop r.place kids)

-- the trees of rows, of which the first is read first
abbrev pub coming : List Node → List ℕ → List Row → Forest
coming ns kids [] = none
coming ns kids (r ∷ rs) = forests_joined (reads ns kids (row_rest kids r)) (coming ns kids rs)

-- rows lie within the list, and their numbers represent their trees
abbrev pub Sound : List Node → List ℕ → List Row → Type 0
Sound ns kids [] = Unit {0}
Sound ns kids (r ∷ rs) = (r.end ≤ length kids)
    × SpellAll ns kids (row_rest kids r) (reads ns kids (row_rest kids r)) × Sound ns kids rs

-- the next node is the root of the first tree, and its children come next; None, if no tree is left
abbrev pub Steps : List Node → List ℕ → List Row → Option ℕ → List Row → Type 0
Steps ns kids rows None after = coming ns kids rows ≡ none
Steps ns kids rows (Some n) after =
    (rs : Forest) × (coming ns kids rows ≡ more (read ns kids (length ns) n) rs)
    × Spells ns kids n (read ns kids (length ns) n)
    × (coming ns kids after ≡ forest_after_root (coming ns kids rows)) × Sound ns kids after
