-- Trees are copied from their nodes, the last one first.
use Rattle.std.proofs.Common.{◌≡◌, ℕ, suc, ◌<◌, ◌≤◌, List, [], ◌∷◌, ◌++◌, length, take, drop, get_or, refl, sym, ap, ◌∙◌, arith, append-nil, drop-cons}
use Rattle.std.proofs.lemmas.List.{drop_all}
use Rattle.journal_attempt.specs.declared.future.FutureKind.{FutureKind}
use Rattle.await_trees.specs.declared.nodes.Node.{Node}
use Rattle.await_trees.specs.declared.nodes.Label.{Label}
use Rattle.await_trees.specs.declared.nodes.Label.TheVariants.{Leaf, Inner}
use Rattle.await_trees.specs.declared.tree.UnresolvedFuture.{UnresolvedFuture}
use Rattle.await_trees.specs.declared.tree.UnresolvedFuture.TheVariants.{Single}
use Rattle.await_trees.specs.Copies.{future_node, future_at, futures_at}
use Rattle.await_trees.specs.Preorder.{preorder, preorders, size, forests_joined, forest_after_root, from}
use Rattle.await_trees.specs.Tree.{Tree, Forest, leaf, node, none, more}
use Rattle.await_trees.proofs.Preorders.{codes_from, none_from}

abbrev blank : Node
blank = record { label = Leaf 0; first = 0; count = 0 }

futures_joined : (us rs : Forest) → futures_at (forests_joined us rs) ≡ futures_at us ++ futures_at rs
futures_joined none rs = refl
futures_joined (more t ts) rs = ap (λ z. future_at t ∷ z) (futures_joined ts rs)

futures_size : (us : Forest) → length (futures_at us) ≡ size us
futures_size none = refl
futures_size (more t ts) = ap suc (futures_size ts)

take_front : {X : Type 0} (xs ys : List X) → take (length xs) (xs ++ ys) ≡ xs
take_front [] ys = refl
take_front (x ∷ xs) ys = ap (λ z. x ∷ z) (take_front xs ys)

drop_front : {X : Type 0} (xs ys : List X) → drop (length xs) (xs ++ ys) ≡ ys
drop_front [] ys = refl
drop_front (x ∷ xs) ys = drop_front xs ys

front_within : {X : Type 0} (xs ys : List X) → length xs ≤ length (xs ++ ys)
front_within [] ys = omega arith
front_within (x ∷ xs) ys = let e = front_within xs ys in omega arith

-- the stack that holds the trees after a node, and what they and the node make
pub record Behind (n : Node) (stack : List UnresolvedFuture) (whole : Forest) : Type 0 where
  pub a_leaf : (h : ℕ) → n.label ≡ Leaf h → Single (record { 0 = h }) ∷ stack ≡ futures_at whole
  pub enough : (k : FutureKind) → n.label ≡ Inner k → n.count ≤ length stack
  pub a_node : (k : FutureKind) → n.label ≡ Inner k → future_node k (take n.count stack) ∷ drop n.count stack ≡ futures_at whole

same_kind : {k j : FutureKind} (l : Label) → l ≡ Inner k → l ≡ Inner j → k ≡ j
same_kind l a b = cc

same_handle : {g h : ℕ} (l : Label) → l ≡ Leaf g → l ≡ Leaf h → g ≡ h
same_handle l a b = cc

behind : (n : Node) (rest : List Node) (stack : List UnresolvedFuture) (f : Forest) → preorders f ≡ n ∷ rest → stack ≡ futures_at (forest_after_root f) → Behind n stack f
behind n rest stack none e s = record { a_leaf = λ h l. absurd cc; enough = λ k l. absurd cc; a_node = λ k l. absurd cc }
behind n rest stack (more (leaf x) rs) e s =
    let label : n.label ≡ Leaf x = sym (ap (λ (z : Node). z.label) (first_of e)) in
    record {
      a_leaf = λ h l. let same : h ≡ x = same_handle n.label l label in ap (λ z. Single (record { 0 = z }) ∷ stack) same ∙ ap (λ z. Single (record { 0 = x }) ∷ z) s;
      enough = λ k l. cc;
      a_node = λ k l. cc;
    }
  where
    first_of : {a b : Node} {xs ys : List Node} → a ∷ xs ≡ b ∷ ys → a ≡ b
    first_of e = cc
behind n rest stack (more (node j us) rs) e s =
    let is : record { label = Inner j; first = 0; count = size us } ≡ n = first_of e in
    let label : n.label ≡ Inner j = sym (ap (λ (z : Node). z.label) is) in
    let count : n.count ≡ length (futures_at us) = sym (ap (λ (z : Node). z.count) is) ∙ sym (futures_size us) in
    let all : stack ≡ futures_at us ++ futures_at rs = s ∙ futures_joined us rs in
    record {
      a_leaf = λ h l. cc;
      enough = λ k l. rw (count, all) (front_within (futures_at us) (futures_at rs));
      a_node = λ k l.
          let same : k ≡ j = same_kind n.label l label in
          rw (count, all, take_front (futures_at us) (futures_at rs), drop_front (futures_at us) (futures_at rs), same) refl;
    }
  where
    first_of : {a b : Node} {xs ys : List Node} → a ∷ xs ≡ b ∷ ys → a ≡ b
    first_of e = cc

pub behind_at : (ns : List Node) (t : Tree) (h : ℕ) (stack : List UnresolvedFuture) → ns ≡ preorder t → h < length ns → stack ≡ futures_at (from (suc h) (more t none)) → Behind (get_or ns h blank) stack (from h (more t none))
behind_at ns t h stack e l s =
    let all : preorders (more t none) ≡ ns = append-nil (preorder t) ∙ sym e in
    let head : preorders (from h (more t none)) ≡ get_or ns h blank ∷ drop (suc h) ns = codes_from h (more t none) ∙ ap (drop h) all ∙ drop-cons ns h blank l in
    behind (get_or ns h blank) (drop (suc h) ns) stack (from h (more t none)) head s

pub nothing_behind : (ns : List Node) (t : Tree) → ns ≡ preorder t → futures_at (from (length ns) (more t none)) ≡ []
nothing_behind ns t e =
    let all : preorders (more t none) ≡ ns = append-nil (preorder t) ∙ sym e in
    let over : preorders (from (length ns) (more t none)) ≡ [] = codes_from (length ns) (more t none) ∙ ap (drop (length ns)) all ∙ drop_all (length ns) ns (omega arith) in
    ap futures_at (none_from (from (length ns) (more t none)) over)
