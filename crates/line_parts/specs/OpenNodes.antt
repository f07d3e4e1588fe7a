-- How far a reader is in the text of a tree: after the beginnings of the nodes that are open.
use Rattle.std.specs.Prelude.{◌≡◌, ◌==◌, ◌||◌, ℕ, zero, suc, Bool, if◌then◌else◌, List, [], ◌∷◌, ◌++◌, Option, Some, None}
use Rattle.await_trees.specs.Tree.{Tree, Forest, none, more, tree_of}
use Rattle.await_trees.specs.declared.tree.UnresolvedFuture.{UnresolvedFuture}
use Rattle.line_parts.specs.Trees.{SpellsTree, SpellsForest, kind_name, opening, closing, comma}
use Rattle.line_parts.specs.declared.trees.OpenNode.{OpenNode}

-- these trees, with a comma after each
abbrev pub AreFollowed : List ℕ → List UnresolvedFuture → Type 0
AreFollowed text [] = text ≡ []
AreFollowed text (future ∷ futures) = (own behind : List ℕ) × (text ≡ own ++ comma ∷ behind)
    × SpellsTree own (tree_of future) × AreFollowed behind futures

-- the beginning of a node, up to the place of its next child
abbrev pub Begins : List ℕ → OpenNode → Type 0
Begins text first = (inside : List ℕ) × (text ≡ kind_name first.kind ++ opening ∷ inside)
    × AreFollowed inside first.children

-- the beginnings of these nodes, the outermost first
abbrev pub Begin : List ℕ → List OpenNode → Type 0
Begin text [] = text ≡ []
Begin text (first ∷ others) = (own behind : List ℕ) × (text ≡ own ++ behind) × Begins own first
    × Begin behind others

-- a tree that was read whole, if there is one
abbrev pub IsReadLast : List ℕ → Option UnresolvedFuture → Type 0
IsReadLast text None = text ≡ []
IsReadLast text (Some future) = SpellsTree text (tree_of future)

-- the text is the beginnings of the open nodes, what was read whole after them, and the rest
abbrev pub StandsAt : List ℕ → List OpenNode → Option UnresolvedFuture → List ℕ → Type 0
StandsAt text nodes last rest = (before own : List ℕ) × (text ≡ before ++ (own ++ rest))
    × Begin before nodes × IsReadLast own last

-- ---- what may follow

-- trees after a child, with a comma in front of each
abbrev pub AreOthers : List ℕ → Forest → Type 0
AreOthers text none = text ≡ []
AreOthers text (more t ts) = (inside : List ℕ) × (text ≡ comma ∷ inside)
    × SpellsForest inside (more t ts)

-- what follows a tree within `nodes` open nodes: for each, the innermost first, further trees and
-- its bracket
abbrev pub ClosesNodes : ℕ → List ℕ → Type 0
ClosesNodes zero text = text ≡ []
ClosesNodes (suc nodes) text = (others behind : List ℕ) × (forest : Forest)
    × (text ≡ others ++ closing ∷ behind) × AreOthers others forest × ClosesNodes nodes behind

-- what follows within `nodes` open nodes, after a tree that was read whole; if none was read, a
-- tree comes first
abbrev pub GoesOn : ℕ → Option UnresolvedFuture → List ℕ → Type 0
GoesOn nodes None text = (own behind : List ℕ) × (t : Tree) × (text ≡ own ++ behind)
    × SpellsTree own t × ClosesNodes nodes behind
GoesOn nodes (Some future) text = ClosesNodes nodes text

-- ---- pieces of a text

-- brackets and commas
abbrev pub is_break : ℕ → Bool
is_break b = b == opening || b == closing || b == comma

-- the text up to its first bracket or comma
abbrev pub word_of : List ℕ → List ℕ
word_of [] = []
word_of (c ∷ cs) = if is_break c then [] else c ∷ word_of cs

-- and the rest from there
abbrev pub behind_word : List ℕ → List ℕ
behind_word [] = []
behind_word (c ∷ cs) = if is_break c then c ∷ cs else behind_word cs
