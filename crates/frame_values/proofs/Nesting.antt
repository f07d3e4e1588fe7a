-- Futures that are written one after another. For each open future its nested ones that haven't ended are counted.
use Rattle.std.proofs.Common.{◌≡◌, ◌≢◌, ◌++◌, ◌<◌, ◌≤◌, ◌-◌, ◌+◌, ℕ, true, false, List, [], ◌∷◌, drop, get_or, length, reverse, refl, sym, ap, ◌∙◌, append_assoc}
use Rattle.std.specs.Prelude.{codes, nat_lt}
use Rattle.std.proofs.lemmas.Bool.{eq-eqb, le-ltb, lt-ltb, ne_eqb}
use Rattle.std.proofs.lemmas.List.{append-nil, drop_all, drop_more, reverse-append}
use Rattle.journal_protocol.specs.FutureNode.{FutureNode}
use Rattle.frame_values.specs.Futures.{ends_text, node_head_text, left_then, nodes_text}

-- what is left to be written there is what is left here
pub record EndsOn (line_first : List ℕ) (left_first : List ℕ) (line left : List ℕ) : Type 0 where
  pub text : line ++ ends_text (reverse left) ≡ line_first ++ ends_text (reverse left_first)
  pub after : left_then (reverse left) ≡ left_then (reverse left_first)

pub ends_begun : (line left : List ℕ) → EndsOn line left line left
ends_begun line left = record { text = refl; after = refl }

popped : (left before : List ℕ) (count : ℕ) → left ≡ before ++ count ∷ [] → reverse left ≡ count ∷ reverse before
popped left before count is = ap reverse is ∙ reverse-append before (count ∷ [])

-- the innermost ends
pub ends_more : (line_first left_first line left before next : List ℕ) (count : ℕ) → EndsOn line_first left_first line left → left ≡ before ++ count ∷ [] → count ≤ 1 → next ≡ line ++ codes "])" → EndsOn line_first left_first next before
ends_more line_first left_first line left before next count so_far is last written =
    let p = popped left before count is in
    let no : nat_lt 1 count ≡ false = le-ltb 1 count last in
    let text : ends_text (reverse left) ≡ codes "])" ++ ends_text (reverse before) = ap ends_text p ∙ rw no refl in
    let after : left_then (reverse left) ≡ left_then (reverse before) = ap left_then p ∙ rw no refl in record {
      text = ap (λ t. t ++ ends_text (reverse before)) written ∙ append_assoc line (codes "])") (ends_text (reverse before)) ∙ ap (λ t. line ++ t) (sym text) ∙ so_far.text;
      after = sym after ∙ so_far.after;
    }

-- another comes in the innermost
pub another_comes : (line_first left_first line left before next : List ℕ) (count : ℕ) → EndsOn line_first left_first line left → left ≡ before ++ count ∷ [] → 1 < count → next ≡ line ++ codes ", " → next ≡ line_first ++ ends_text (reverse left_first)
another_comes line_first left_first line left before next count so_far is more written =
    let yes : nat_lt 1 count ≡ true = lt-ltb 1 count more in
    let text : ends_text (reverse left) ≡ codes ", " = ap ends_text (popped left before count is) ∙ rw yes refl in
    written ∙ ap (λ t. line ++ t) (sym text) ∙ so_far.text

pub one_less_left : (line_first left_first line left before new : List ℕ) (count : ℕ) → EndsOn line_first left_first line left → left ≡ before ++ count ∷ [] → 1 < count → new ≡ before ++ (count - 1) ∷ [] → reverse new ≡ left_then (reverse left_first)
one_less_left line_first left_first line left before new count so_far is more now =
    let yes : nat_lt 1 count ≡ true = lt-ltb 1 count more in
    let left_now : left_then (reverse left) ≡ (count - 1) ∷ reverse before = ap left_then (popped left before count is) ∙ rw yes refl in
    popped new before (count - 1) now ∙ sym left_now ∙ so_far.after

-- all have ended
pub all_ended : (line_first left_first line left : List ℕ) → EndsOn line_first left_first line left → left ≡ [] → line ≡ line_first ++ ends_text (reverse left_first)
all_ended line_first left_first line left so_far none = sym (append-nil line) ∙ ap (λ l. line ++ ends_text (reverse l)) (sym none) ∙ so_far.text

pub none_left : (line_first left_first line left : List ℕ) → EndsOn line_first left_first line left → left ≡ [] → reverse left ≡ left_then (reverse left_first)
none_left line_first left_first line left so_far none = ap reverse none ∙ ap (λ l. left_then (reverse l)) (sym none) ∙ so_far.after

-- a future in which none nests
pub node_whole : (left : List ℕ) (n : FutureNode) (nodes : List FutureNode) → n.nested ≡ 0 → nodes_text left (n ∷ nodes) ≡ node_head_text n ++ (ends_text left ++ nodes_text (left_then left) nodes)
unfolding nodes_text
node_whole left n nodes none = rw (eq-eqb n.nested 0 none) refl

-- a future in which others nest
pub node_open : (left : List ℕ) (n : FutureNode) (nodes : List FutureNode) → n.nested ≢ 0 → nodes_text left (n ∷ nodes) ≡ node_head_text n ++ nodes_text (n.nested ∷ left) nodes
unfolding nodes_text
node_open left n nodes some = rw (ne_eqb n.nested 0 some) refl

-- a future in which none nests is written, and those end that are whole by it
pub whole_written : (line0 line1 line2 left0 left1 : List ℕ) (n : FutureNode) → n.nested ≡ 0 → line1 ≡ line0 ++ node_head_text n → line2 ≡ line1 ++ ends_text (reverse left0) → reverse left1 ≡ left_then (reverse left0)
    → (others : List FutureNode) → line2 ++ nodes_text (reverse left1) others ≡ line0 ++ nodes_text (reverse left0) (n ∷ others)
whole_written line0 line1 line2 left0 left1 n none head ends left others =
    let r = reverse left0 in
    let behind = nodes_text (left_then r) others in
    ap (λ l. line2 ++ nodes_text l others) left ∙ ap (λ t. t ++ behind) (ends ∙ ap (λ t. t ++ ends_text r) head) ∙ append_assoc (line0 ++ node_head_text n) (ends_text r) behind
    ∙ append_assoc line0 (node_head_text n) (ends_text r ++ behind) ∙ ap (λ t. line0 ++ t) (sym (node_whole r n others none))

-- a future in which others nest is written up to the first of them
pub open_written : (line0 line1 left0 left1 : List ℕ) (n : FutureNode) → n.nested ≢ 0 → line1 ≡ line0 ++ node_head_text n → left1 ≡ left0 ++ n.nested ∷ []
    → (others : List FutureNode) → line1 ++ nodes_text (reverse left1) others ≡ line0 ++ nodes_text (reverse left0) (n ∷ others)
open_written line0 line1 left0 left1 n some head left others =
    let r = reverse left0 in
    let behind = nodes_text (n.nested ∷ r) others in
    ap (λ l. line1 ++ nodes_text l others) (popped left1 left0 n.nested left) ∙ ap (λ t. t ++ behind) head ∙ append_assoc line0 (node_head_text n) behind ∙ ap (λ t. line0 ++ t) (sym (node_open r n others some))

-- ---- the nodes of a future, one after another

-- a node more
pub nodes_more : (before line next left left_next : List ℕ) (nodes : List FutureNode) (i : ℕ) (n : FutureNode) → i < length nodes → n ≡ get_or nodes i n → ((others : List FutureNode) → next ++ nodes_text (reverse left_next) others ≡ line ++ nodes_text (reverse left) (n ∷ others))
    → line ++ nodes_text (reverse left) (drop i nodes) ≡ before → next ++ nodes_text (reverse left_next) (drop (i + 1) nodes) ≡ before
nodes_more before line next left left_next nodes i n h is written so_far =
    written (drop (i + 1) nodes) ∙ ap (λ m. line ++ nodes_text (reverse left) (m ∷ drop (i + 1) nodes)) is ∙ ap (λ xs. line ++ nodes_text (reverse left) xs) (sym (drop_more nodes i n h)) ∙ so_far

-- all nodes are written
pub nodes_done : (before line left : List ℕ) (nodes : List FutureNode) (i : ℕ) → length nodes ≤ i → line ++ nodes_text (reverse left) (drop i nodes) ≡ before → line ≡ before
unfolding nodes_text
nodes_done before line left nodes i h so_far = sym (append-nil line) ∙ ap (λ xs. line ++ nodes_text (reverse left) xs) (sym (drop_all i nodes h)) ∙ so_far
