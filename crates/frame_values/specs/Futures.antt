-- How a future is printed, and which future a text says.
use Rattle.std.specs.Prelude.{◌≡◌, ◌<◌, ◌==◌, ◌+◌, ◌-◌, ℕ, Bool, nat_lt, if◌then◌else◌, List, [], ◌∷◌, ◌++◌, codes, false, length, true}
use Rattle.std.specs.Borrow.{Bor}
use Rattle.lines.specs.Pieces.{piece_texts}
use Rattle.lines.specs.Fields.{is_named}
use Rattle.journal_protocol.specs.FutureNode.{FutureNode}
use Rattle.frame_values.specs.declared.words.Within.{Within}
use Rattle.frame_values.specs.declared.words.Within.TheVariants.{Nothing}
use Rattle.frame_values.specs.Choices.{kind_notation}
use Rattle.frame_values.specs.FutureWords.{ends_word, within_after}
use Rattle.frame_values.specs.Notation.{AreFields, Fields, Notation, field, list_notation, nothing, number, put_all, string}

-- what a future waits for itself
abbrev pub node_fields : Fields FutureNode
node_fields =
    field (codes "kind") (λ n. n.kind) kind_notation (
    field (codes "completions") (λ n. n.waiting_completions) (list_notation (number 32)) (
    field (codes "signals") (λ n. n.waiting_signals) (list_notation (number 32)) (
    field (codes "named") (λ n. n.waiting_named_signals) (list_notation string) nothing)))

-- a future up to its first nested future; the whole future if none nests in it
unfoldable pub node_head_text : FutureNode → List ℕ
node_head_text n = (put_all (codes "(", true) (node_fields.printed n)).0
    ++ (if n.nested == 0 then codes ")" else codes " nested=[")

-- What follows a future when it is whole. `left` counts, for each open future, its nested ones that
-- haven't ended, with this one; the innermost is first. An open future ends with its last nested
-- one. If another nested one comes, a comma follows.
abbrev pub ends_text : List ℕ → List ℕ
ends_text [] = []
ends_text (left ∷ outer) = if nat_lt 1 left then codes ", " else codes "])" ++ ends_text outer

-- and the counts after that
abbrev pub left_then : List ℕ → List ℕ
left_then [] = []
left_then (left ∷ outer) = if nat_lt 1 left then (left - 1) ∷ outer else left_then outer

-- Futures in preorder, each with its nested ones in brackets. `left` counts, for each open future,
-- its nested ones that haven't ended; the innermost is first.
unfoldable pub nodes_text : List ℕ → List FutureNode → List ℕ
nodes_text left [] = []
nodes_text left (n ∷ nodes) =
    node_head_text n ++ (if n.nested == 0 then ends_text left ++ nodes_text (left_then left) nodes
    else nodes_text (n.nested ∷ left) nodes)

-- a future, by its nodes
abbrev pub future_text : List FutureNode → List ℕ
future_text nodes = nodes_text [] nodes

-- ---- which future a text says

-- each blank and closing bracket in the word stands in a list, and lists and quotes are closed
abbrev pub IsUnbroken : Within → List ℕ → Type 0
IsUnbroken within [] = within ≡ Nothing
IsUnbroken within (b ∷ word) = (ends_word within b ≡ false)
    × IsUnbroken (within_after within b) word

-- a word of a future, which isn't the list of those that nest in it
pub record IsWord (word : List ℕ) : Type 0 where
  pub some : 0 < length word
  pub unbroken : IsUnbroken Nothing word
  pub no_list : is_named (codes "nested=[") word ≡ false

-- words of these texts are the fields of the node
abbrev pub SayWords : List (List ℕ) → FutureNode → Type 0
SayWords texts node = (words : List (Bor (List ℕ))) × (piece_texts words ≡ texts)
    × AreFields node_fields words node

-- nothing follows a part but what begins with a blank
abbrev pub EndsPart : List ℕ → Type 0
EndsPart [] = Unit {0}
EndsPart (b ∷ text) = b ≡ 32

abbrev pub AreBlanks : List ℕ → Type 0
AreBlanks [] = Unit {0}
AreBlanks (b ∷ text) = (b ≡ 32) × AreBlanks text

mutual
  -- A future: in round brackets its words, which are the fields of its node, and the list of those
  -- that nest in it. Nodes are in preorder.
  pub data SaysFuture : List ℕ → List FutureNode → Type 0 where
    future : {inside : List ℕ} {words : List (List ℕ)} {listed : Bool} {node : FutureNode}
        {nested : List FutureNode} → SayParts inside words listed node.nested nested
        → SayWords words node → SaysFuture (40 ∷ (inside ++ 41 ∷ [])) (node ∷ nested)

  -- words, and one list at most, of as many futures as counted, with blanks between them
  pub data SayParts : List ℕ → List (List ℕ) → Bool → ℕ → List FutureNode → Type 0 where
    no_part : SayParts [] [] false 0 []
    a_blank : {text : List ℕ} {words : List (List ℕ)} {listed : Bool} {count : ℕ}
        {nested : List FutureNode} → SayParts text words listed count nested
        → SayParts (32 ∷ text) words listed count nested
    a_word : {word text : List ℕ} {words : List (List ℕ)} {listed : Bool} {count : ℕ}
        {nested : List FutureNode} → IsWord word → EndsPart text
        → SayParts text words listed count nested
        → SayParts (word ++ text) (word ∷ words) listed count nested
    a_list : {futures text : List ℕ} {words : List (List ℕ)} {count : ℕ}
        {nested : List FutureNode} → SaysList futures count nested → EndsPart text
        → SayParts text words false 0 []
        → SayParts (codes "nested=[" ++ (futures ++ 93 ∷ text)) words true count nested

  -- no future, or some
  pub data SaysList : List ℕ → ℕ → List FutureNode → Type 0 where
    no_futures : {text : List ℕ} → AreBlanks text → SaysList text 0 []
    some_futures : {text : List ℕ} {count : ℕ} {nodes : List FutureNode}
        → SayFutures text count nodes → SaysList text count nodes

  -- futures with a comma between each two; blanks stand around each
  pub data SayFutures : List ℕ → ℕ → List FutureNode → Type 0 where
    one_future : (before behind : List ℕ) {text : List ℕ} {nodes : List FutureNode}
        → AreBlanks before → SaysFuture text nodes → AreBlanks behind
        → SayFutures (before ++ (text ++ behind)) 1 nodes
    more_futures : (before behind : List ℕ) {text others : List ℕ} {count : ℕ}
        {nodes further : List FutureNode} → AreBlanks before → SaysFuture text nodes
        → AreBlanks behind → SayFutures others count further
        → SayFutures (before ++ (text ++ (behind ++ 44 ∷ others))) (count + 1) (nodes ++ further)

-- a node of a future
abbrev pub Node : Type 0
Node = FutureNode

-- it has no default
abbrev pub future_notation : Notation (List FutureNode)
future_notation = record {
  text = future_text;
  is_left_out = λ _. false;
  Says = SaysFuture;
  IsExact = Unit {0};
}
