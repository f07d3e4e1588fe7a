-- The nodes of trees in pre-order.
use Rattle.std.proofs.Common.{◌≡◌, ℕ, zero, suc, ◌+◌, ◌*◌, ◌<◌, List, [], ◌∷◌, ◌++◌, map, length, refl, sym, ap, ◌∙◌, arith, append_assoc, append-nil, drop, add-one}
use Rattle.std.proofs.lemmas.List.{map_push, length_push, drop-drop}
use Rattle.journal_attempt.specs.declared.future.FutureKind.{FutureKind}
use Rattle.await_trees.specs.declared.tree.UnresolvedFuture.{UnresolvedFuture}
use Rattle.await_trees.specs.declared.nodes.Node.{Node}
use Rattle.await_trees.specs.declared.nodes.Label.TheVariants.{Inner}
use Rattle.await_trees.specs.Tree.{Forest, leaf, node, none, more, tree_of, forest_of}
use Rattle.await_trees.specs.Preorder.{preorder, preorders, preorders_on, size, forests_joined, forest_after_root, from}

size-forest : (us : List UnresolvedFuture) → size (forest_of us) ≡ length us
size-forest [] = refl
size-forest (u ∷ us) = ap suc (size-forest us)

-- a node whose children are a row
pub row_code : (k : FutureKind) (u : UnresolvedFuture) (items row : List UnresolvedFuture) (count : ℕ) (n : Node) → tree_of u ≡ node k (forest_of items) → count ≡ length items
    → n ≡ record { label = Inner k; first = 0; count = count } → row ≡ items → preorder (tree_of u) ≡ n ∷ preorders (forest_of row)
row_code k u items row count n t c is same =
    let s : size (forest_of items) ≡ count = size-forest items ∙ sym c in
    rw (t, is, same, s) refl

pub codes_push : (rows : List (List UnresolvedFuture)) (row : List UnresolvedFuture) → preorders_on (rows ++ row ∷ []) ≡ preorders (forest_of row) ++ preorders_on rows
codes_push [] row = sym (append-nil (preorders (forest_of row)))
codes_push (r ∷ rows) row = ap (λ z. z ++ preorders (forest_of r)) (codes_push rows row) ∙ append_assoc (preorders (forest_of row)) (preorders_on rows) (preorders (forest_of r))

-- one row more
pub codes_two : (rows : List (List UnresolvedFuture)) (a b : List UnresolvedFuture) → preorders_on ((rows ++ a ∷ []) ++ b ∷ []) ≡ preorders (forest_of b) ++ (preorders (forest_of a) ++ preorders_on rows)
codes_two rows a b = codes_push (rows ++ a ∷ []) b ∙ ap (λ z. preorders (forest_of b) ++ z) (codes_push rows a)

-- a child is read
pub codes_read : (rows : List (List UnresolvedFuture)) (child : UnresolvedFuture) (others children : List UnresolvedFuture) (n : Node) → preorder (tree_of child) ≡ n ∷ preorders (forest_of children)
    → preorders_on (rows ++ (child ∷ others) ∷ []) ≡ n ∷ preorders_on ((rows ++ others ∷ []) ++ children ∷ [])
codes_read rows child others children n e =
    codes_push rows (child ∷ others)
    ∙ ap (λ z. (z ++ preorders (forest_of others)) ++ preorders_on rows) e
    ∙ ap (λ z. n ∷ z) (append_assoc (preorders (forest_of children)) (preorders (forest_of others)) (preorders_on rows) ∙ sym (codes_two rows others children))

-- ---- rows on a stack

module _ {R : Type 0} (now : R → List UnresolvedFuture) where
  on_top : (rows rest : List R) (row : R) → rows ≡ rest ++ row ∷ [] → map now rows ≡ map now rest ++ now row ∷ []
  on_top rows rest row e = ap (map now) e ∙ map_push now rest row

  pub row_read : (rows rest after : List R) (row others children : R) (child : UnresolvedFuture) (n : Node) → rows ≡ rest ++ row ∷ [] → now row ≡ child ∷ now others
      → preorder (tree_of child) ≡ n ∷ preorders (forest_of (now children)) → after ≡ (rest ++ others ∷ []) ++ children ∷ [] → preorders_on (map now rows) ≡ n ∷ preorders_on (map now after)
  row_read rows rest after row others children child n top split opened pushed =
      let a : map now rows ≡ map now rest ++ (child ∷ now others) ∷ [] = on_top rows rest row top ∙ ap (λ z. map now rest ++ z ∷ []) split in
      let b : map now after ≡ (map now rest ++ now others ∷ []) ++ now children ∷ [] = on_top after (rest ++ others ∷ []) children pushed ∙ ap (λ z. z ++ now children ∷ []) (map_push now rest others) in
      ap preorders_on a ∙ codes_read (map now rest) child (now others) (now children) n opened ∙ ap (λ z. n ∷ preorders_on z) (sym b)

  pub row_done : (rows rest : List R) (row : R) → rows ≡ rest ++ row ∷ [] → now row ≡ [] → preorders_on (map now rows) ≡ preorders_on (map now rest)
  row_done rows rest row top over =
      ap preorders_on (on_top rows rest row top ∙ ap (λ z. map now rest ++ z ∷ []) over) ∙ codes_push (map now rest) []

  pub read_smaller : (rows rest after : List R) (row others children : R) (n : Node) → rows ≡ rest ++ row ∷ [] → after ≡ (rest ++ others ∷ []) ++ children ∷ []
      → preorders_on (map now rows) ≡ n ∷ preorders_on (map now after) → 2 * length (preorders_on (map now after)) + length after < 2 * length (preorders_on (map now rows)) + length rows
  read_smaller rows rest after row others children n top pushed preorders =
      omega (arith, ap length preorders, ap length top, ap length pushed, length_push rest row, length_push rest others, length_push (rest ++ others ∷ []) children)

  pub done_smaller : (rows rest : List R) (row : R) → rows ≡ rest ++ row ∷ [] → preorders_on (map now rows) ≡ preorders_on (map now rest)
      → 2 * length (preorders_on (map now rest)) + length rest < 2 * length (preorders_on (map now rows)) + length rows
  done_smaller rows rest row top preorders = omega (arith, ap length preorders, ap length top, length_push rest row)

pub node_written : (ns xs ys whole : List Node) (n : Node) → ns ++ xs ≡ whole → xs ≡ n ∷ ys → (ns ++ n ∷ []) ++ ys ≡ whole
node_written ns xs ys whole n h e = append_assoc ns (n ∷ []) ys ∙ ap (λ z. ns ++ z) (sym e) ∙ h

-- ---- the trees that begin at a node of a preorder

pub codes_joined : (us rs : Forest) → preorders (forests_joined us rs) ≡ preorders us ++ preorders rs
codes_joined none rs = refl
codes_joined (more t ts) rs = ap (λ z. preorder t ++ z) (codes_joined ts rs) ∙ sym (append_assoc (preorder t) (preorders ts) (preorders rs))

pub codes_next : (ts : Forest) → preorders (forest_after_root ts) ≡ drop 1 (preorders ts)
codes_next none = refl
codes_next (more (leaf h) rs) = refl
codes_next (more (node k us) rs) = codes_joined us rs

pub codes_from : (i : ℕ) (ts : Forest) → preorders (from i ts) ≡ drop i (preorders ts)
codes_from zero ts = refl
codes_from (suc i) ts = codes_next (from i ts) ∙ ap (drop 1) (codes_from i ts) ∙ drop-drop 1 i (preorders ts) ∙ rw add-one refl

pub none_from : (ts : Forest) → preorders ts ≡ [] → ts ≡ none
none_from none e = refl
none_from (more (leaf h) rs) e = cc
none_from (more (node k us) rs) e = cc
