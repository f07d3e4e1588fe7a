-- How a tree of awaits is written, in one word: a handle by its digits, and a node by its kind's
-- name and its children in round brackets, with a comma between each two. Blanks after a comma say
-- nothing.
use Rattle.std.specs.Prelude.{◌≡◌, ◌==◌, ◌&&◌, ℕ, Bool, true, false, if◌then◌else◌, List, [], ◌∷◌, ◌++◌, codes}
use Rattle.journal_protocol.specs.FutureKind.{FutureKind}
use Rattle.journal_protocol.specs.FutureKind.TheVariants.{FirstCompleted, AllCompleted, FirstSucceededOrAllFailed, AllSucceededOrFirstFailed, Unknown}
use Rattle.await_trees.specs.Tree.{Tree, Forest, leaf, node, none, more, tree_of}
use Rattle.await_trees.specs.declared.tree.UnresolvedFuture.{UnresolvedFuture}
use Rattle.lines.specs.Words.{IsNumberOf}

-- ( and ) and a comma
abbrev pub opening : ℕ
opening = 40

abbrev pub closing : ℕ
closing = 41

abbrev pub comma : ℕ
comma = 44

-- the word for a kind
unfoldable pub kind_name : FutureKind → List ℕ
kind_name FirstCompleted = codes "fc"
kind_name AllCompleted = codes "ac"
kind_name FirstSucceededOrAllFailed = codes "fsaf"
kind_name AllSucceededOrFirstFailed = codes "asff"
kind_name Unknown = codes "un"

abbrev mutual
  -- the text encodes this tree
  pub SpellsTree : List ℕ → Tree → Type 0
  SpellsTree text (leaf handle) = IsNumberOf 32 text handle
  SpellsTree text (node kind children) = (inside : List ℕ)
      × (text ≡ kind_name kind ++ opening ∷ (inside ++ closing ∷ [])) × SpellsForest inside children

  -- the text encodes these trees, with a comma between each two
  pub SpellsForest : List ℕ → Forest → Type 0
  SpellsForest text none = text ≡ []
  SpellsForest text (more t none) = SpellsTree text t
  SpellsForest text (more t (more u others)) = (first behind : List ℕ)
      × (text ≡ first ++ comma ∷ behind) × SpellsTree first t × SpellsForest behind (more u others)

-- the word is a kind's
abbrev pub IsKind : List ℕ → FutureKind → Type 0
IsKind word kind = word ≡ kind_name kind

-- the text without blanks after its commas; the flag says whether a comma stands before the text,
-- with only blanks between
abbrev pub without_blanks : Bool → List ℕ → List ℕ
without_blanks after_comma [] = []
without_blanks after_comma (c ∷ cs) =
    if after_comma && c == 32 then without_blanks true cs else c ∷ without_blanks (c == comma) cs

-- the text encodes the tree that is awaited, without a blank
abbrev pub SpellsClosely : List ℕ → UnresolvedFuture → Type 0
SpellsClosely text future = SpellsTree text (tree_of future)

-- the text, without blanks after its commas, encodes the tree that is awaited
abbrev pub SpellsFuture : List ℕ → UnresolvedFuture → Type 0
SpellsFuture text future = SpellsClosely (without_blanks false text) future
