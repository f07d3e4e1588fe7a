-- Where a reader stands in the text of a future: within futures whose closing bracket it hasn't
-- read.
use Rattle.std.specs.Prelude.{◌≡◌, ◌≢◌, ◌<◌, ◌+◌, ℕ, Bool, true, false, List, [], ◌∷◌, ◌++◌, codes, length, set}
use Rattle.lines.specs.Pieces.{piece_texts}
use Rattle.plain.specs.declared.fault.Fault.{Fault}
use Rattle.plain.specs.declared.fault.Fault.TheVariants.{Malformed}
use Rattle.journal_protocol.specs.FutureNode.{FutureNode}
use Rattle.frame_values.specs.declared.nested.Next.{Next}
use Rattle.frame_values.specs.declared.nested.Next.TheVariants.{Part, Nested, More}
use Rattle.frame_values.specs.declared.nested.OpenFuture.{OpenFuture}
use Rattle.frame_values.specs.declared.words.Within.TheVariants.{Nothing}
use Rattle.frame_values.specs.FutureWords.{after_word, ends_part, first_word}
use Rattle.frame_values.specs.Futures.{SayWords}

-- The text goes on with what is left of a future of this node, after these words, and after as many
-- nested futures as counted, whose list was begun if it is listed; `inner` are the nodes that still
-- nest in it, and `rest` stands after it.
pub data RestOf : Next → FutureNode → List (List ℕ) → ℕ → Bool → List ℕ → List FutureNode → List ℕ
    → Type 0 where
  blank : {next : Next} {node : FutureNode} {words : List (List ℕ)} {count : ℕ} {listed : Bool}
      {text : List ℕ} {inner : List FutureNode} {rest : List ℕ}
      → RestOf next node words count listed text inner rest
      → RestOf next node words count listed (32 ∷ text) inner rest
  close : {node : FutureNode} {words : List (List ℕ)} {count : ℕ} {listed : Bool} {rest : List ℕ}
      → SayWords words node → node.nested ≡ count
      → RestOf Part node words count listed (41 ∷ rest) [] rest
  word : {node : FutureNode} {words : List (List ℕ)} {count : ℕ} {listed : Bool} {text : List ℕ}
      {inner : List FutureNode} {rest : List ℕ}
      → ((list : List ℕ) → text ≢ codes "nested=[" ++ list) → 0 < length (first_word Nothing text)
      → ends_part (after_word Nothing text) ≡ true
      → RestOf Part node (words ++ first_word Nothing text ∷ []) count listed
      (after_word Nothing text) inner rest
      → RestOf Part node words count listed text inner rest
  list : {node : FutureNode} {words : List (List ℕ)} {count : ℕ} {text : List ℕ}
      {inner : List FutureNode} {rest : List ℕ}
      → RestOf Nested node words count true text inner rest
      → RestOf Part node words count false (codes "nested=[" ++ text) inner rest
  empty : {node : FutureNode} {words : List (List ℕ)} {count : ℕ} {listed : Bool} {text : List ℕ}
      {inner : List FutureNode} {rest : List ℕ} → count ≡ 0 → ends_part text ≡ true
      → RestOf Part node words count listed text inner rest
      → RestOf Nested node words count listed (93 ∷ text) inner rest
  nested : {node : FutureNode} {words : List (List ℕ)} {count : ℕ} {listed : Bool} {text : List ℕ}
      {inner others : List FutureNode} {rest : List ℕ} (first : FutureNode) (after : List ℕ)
      → RestOf Part first [] 0 false text inner after
      → RestOf More node words (count + 1) listed after others rest
      → RestOf Nested node words count listed (40 ∷ text) (first ∷ (inner ++ others)) rest
  comma : {node : FutureNode} {words : List (List ℕ)} {count : ℕ} {listed : Bool} {text : List ℕ}
      {inner : List FutureNode} {rest : List ℕ}
      → RestOf Nested node words count listed text inner rest
      → RestOf More node words count listed (44 ∷ text) inner rest
  end : {node : FutureNode} {words : List (List ℕ)} {count : ℕ} {listed : Bool} {text : List ℕ}
      {inner : List FutureNode} {rest : List ℕ} → ends_part text ≡ true
      → RestOf Part node words count listed text inner rest
      → RestOf More node words count listed (93 ∷ text) inner rest

-- the same of an open future
abbrev pub IsRestOf : OpenFuture → Next → FutureNode → List ℕ → List FutureNode → List ℕ → Type 0
IsRestOf o next node text inner rest =
    RestOf next node (piece_texts o.words.items) o.nested o.has_list text inner rest

-- The text goes on with the rest of these open futures, the innermost first; with their nodes at
-- their places, and after them those that still nest, the nodes are `all`.
unfoldable pub Completes : Next → List OpenFuture → List FutureNode → List ℕ → List FutureNode
    → Type 0
Completes next [] nodes text all = (text ≡ []) × (all ≡ nodes)
Completes next (o ∷ outer) nodes text all = (node : FutureNode) × (inner : List FutureNode)
    × (rest : List ℕ) × IsRestOf o next node text inner rest
    × Completes More outer (set nodes o.place node ++ inner) rest all

-- the text goes on with the rest of these open futures
unfoldable pub EndsRest : Next → List OpenFuture → List ℕ → Type 0
EndsRest next [] text = text ≡ []
EndsRest next (o ∷ outer) text = (node : FutureNode) × (inner : List FutureNode) × (rest : List ℕ)
    × IsRestOf o next node text inner rest × EndsRest More outer rest

-- each open future has a place among as many nodes as counted
unfoldable pub ArePlaced : List OpenFuture → ℕ → Type 0
ArePlaced [] count = Unit {0}
ArePlaced (o ∷ outer) count = (o.place < count) × ArePlaced outer count

-- A step of the reader, from one text to the next: what that says of the rest, this says; and this
-- goes on with the rest only if that does.
pub record ReadsOn (next : Next) (opens : List OpenFuture) (nodes : List FutureNode) (text : List ℕ)
    (then : Next) (opens_then : List OpenFuture) (nodes_then : List FutureNode)
    (rest : List ℕ) : Type 0 where
  pub placed : ArePlaced opens_then (length nodes_then)
  pub said : (all : List FutureNode) → Completes then opens_then nodes_then rest all
      → Completes next opens nodes text all
  pub goes_on : EndsRest next opens text → EndsRest then opens_then rest
  pub shorter : length rest < length text

-- a fault that blames the text is right: this isn't so
pub record Denies (Holds : Type 0) (fault : Fault) : Type 0 where
  pub never : fault ≡ Malformed → Holds → ⊥
