-- A walk over nodes, with a stack of the rows of children that are still to come.
use Rattle.std.proofs.Common.{◌≡◌, ℕ, suc, ◌+◌, ◌-◌, ◌<◌, ◌≤◌, List, [], ◌∷◌, ◌++◌, length, take, drop, get_or, reverse, Option, Some, refl, sym, ap, subst, ◌∙◌, arith, append_assoc, drop-cons}
use Rattle.std.proofs.lemmas.List.{reverse-append, length-drop}
use Rattle.journal_attempt.specs.declared.future.FutureKind.{FutureKind}
use Rattle.journal_attempt.specs.declared.future.FutureNode.{FutureNode}
use Rattle.journal_values.specs.declared.notification.NotificationId.{NotificationId}
use Rattle.await_trees.specs.declared.nodes.Node.{Node}
use Rattle.await_trees.specs.declared.nodes.Label.{Label}
use Rattle.await_trees.specs.declared.nodes.Label.TheVariants.{Leaf, Inner}
use Rattle.await_trees.specs.Handles.{handles_of, handles_in}
use Rattle.await_trees.specs.Preorder.{preorders, forests_joined, forest_after_root}
use Rattle.await_trees.specs.Wires.{head_of, nested}
use Rattle.await_trees.specs.Tree.{Tree, Forest, leaf, node, none, more}
use Rattle.await_tries.specs.declared.walk.Row.{Row}
use Rattle.await_tries.specs.Left.{Left, read, tree_left, IsTreeLeft}
use Rattle.await_tries.specs.Ranges.{Ranged}
use Rattle.await_tries.specs.Spells.{node_at, children, Spells, SpellAll, one_more}
use Rattle.await_tries.specs.Walks.{reads, row_rest, coming, Sound, Steps}
use Rattle.await_trees.proofs.Preorders.{codes_next}
use Rattle.await_tries.proofs.Nodes.{opened, leaf_is}
use Rattle.await_tries.proofs.Spelled.{reads_are, spells_within}

-- the part of a list that is still to come
abbrev pub to_come : ℕ → ℕ → List ℕ → List ℕ
to_come i count xs = take (count - i) (drop i xs)

pub come_next : (xs : List ℕ) (i count : ℕ) → i < count → count ≤ length xs → to_come i count xs ≡ get_or xs i 0 ∷ to_come (suc i) count xs
come_next xs i count l b =
    let m : count - i ≡ suc (count - suc i) = omega arith in
    let inside : i < length xs = omega arith in
    rw (m, drop-cons xs i 0 inside) refl

pub on_top : (rs rest : List Row) (r : Row) → rs ≡ rest ++ r ∷ [] → reverse rs ≡ r ∷ reverse rest
on_top rs rest r e = ap reverse e ∙ reverse-append rest (r ∷ [])

-- the next number of the row on top is a node's
pub next_within : (ns : List Node) (kids : List ℕ) (rows rest : List Row) (r : Row) → Ranged ns kids → Sound ns kids (reverse rows) → rows ≡ rest ++ r ∷ [] → r.place < r.end → get_or kids r.place 0 < length ns
next_within ns kids rows rest r ranged sound e l =
    let top : Sound ns kids (r ∷ reverse rest) = subst (Sound ns kids) (on_top rows rest r e) sound in
    let fits = top.0 in
    ranged.numbers r.place (omega arith)

pub same_sum : (a b : ℕ) → a + b - a ≡ b
same_sum a b = omega arith

pub is_inner : (l : Label) → ((h : ℕ) → l ≡ Leaf h → ⊥) → (k : FutureKind) × (l ≡ Inner k)
is_inner (Leaf h) n = absurd (n h refl)
is_inner (Inner k) n = (k, refl)

pub is_leaf : (l : Label) → ((k : FutureKind) → l ≡ Inner k → ⊥) → (h : ℕ) × (l ≡ Leaf h)
is_leaf (Leaf h) n = (h, refl)
is_leaf (Inner k) n = absurd (n k refl)

joined_on : (ts us vs : Forest) → forests_joined (forests_joined ts us) vs ≡ forests_joined ts (forests_joined us vs)
joined_on none us vs = refl
joined_on (more t ts) us vs = ap (more t) (joined_on ts us vs)

pub joined_none : (ts : Forest) → forests_joined ts none ≡ ts
joined_none none = refl
joined_none (more t ts) = ap (more t) (joined_none ts)

module _ (ns : List Node) (kids : List ℕ) where
  -- a row that is over
  pub row_over : (r : Row) (rs : List Row) → r.end ≤ r.place → coming ns kids (r ∷ rs) ≡ coming ns kids rs
  row_over r rs l = let e : r.end - r.place ≡ 0 = omega arith in rw e refl

  -- a row of a node's children
  pub row_of : (n : ℕ) (r : Row) → r.place ≡ (node_at ns n).first → r.end ≡ (node_at ns n).first + (node_at ns n).count → row_rest kids r ≡ children ns kids n
  row_of n r p e = rw (p, e, same_sum (node_at ns n).first (node_at ns n).count) refl

  split : (c : ℕ) (cs : List ℕ) → SpellAll ns kids (c ∷ cs) (reads ns kids (c ∷ cs)) → Spells ns kids c (read ns kids (length ns) c) × SpellAll ns kids cs (reads ns kids cs)
  split c cs s = go (reads ns kids (c ∷ cs)) refl s
    where
      head : (t u : Tree) (ts us : Forest) → more t ts ≡ more u us → (t ≡ u) × (ts ≡ us)
      head t u ts us e = (cc, cc)

      go : (ts : Forest) → ts ≡ reads ns kids (c ∷ cs) → SpellAll ns kids (c ∷ cs) ts → Spells ns kids c (read ns kids (length ns) c) × SpellAll ns kids cs (reads ns kids cs)
      go ts e (one_more {t = t} {ts = us} p q) = let h = head t (read ns kids (length ns) c) us (reads ns kids cs) e in (rw (← h.0) p, rw (← h.1) q)

  module _ (r after : Row) (rs : List Row) (sound : Sound ns kids (r ∷ rs)) (l : r.place < r.end) (place : after.place ≡ r.place + 1) (end : after.end ≡ r.end) where
    abbrev c : ℕ
    c = get_or kids r.place 0

    after_rest : row_rest kids r ≡ c ∷ row_rest kids after
    after_rest = let e : suc r.place ≡ r.place + 1 = omega arith in come_next kids r.place r.end l sound.0 ∙ ap (λ z. c ∷ take (r.end - z) (drop z kids)) e ∙ rw (place, end) refl

    parts : Spells ns kids c (read ns kids (length ns) c) × SpellAll ns kids (row_rest kids after) (reads ns kids (row_rest kids after))
    parts = split c (row_rest kids after) (rw after_rest at sound.1)

    pub child_within : c < length ns
    child_within = spells_within ns kids c (read ns kids (length ns) c) parts.0

    behind : Forest
    behind = forests_joined (reads ns kids (row_rest kids after)) (coming ns kids rs)

    comes : coming ns kids (r ∷ rs) ≡ more (read ns kids (length ns) c) (forests_joined (reads ns kids (row_rest kids after)) (coming ns kids rs))
    comes = ap (λ z. forests_joined (reads ns kids z) (coming ns kids rs)) after_rest

    pub step_leaf : (h : ℕ) → (node_at ns c).label ≡ Leaf h → Steps ns kids (r ∷ rs) (Some c) (after ∷ rs)
    step_leaf h label =
        let is : read ns kids (length ns) c ≡ leaf h = leaf_is ns kids c h (read ns kids (length ns) c) label parts.0 in
        let all : coming ns kids (r ∷ rs) ≡ more (leaf h) (coming ns kids (after ∷ rs)) = comes ∙ ap (λ z. more z (coming ns kids (after ∷ rs))) is in
        (coming ns kids (after ∷ rs), comes, parts.0, sym (ap forest_after_root all), (rw end sound.0, parts.1, sound.2))

    pub step_inner : (g : Row) (k : FutureKind) → Ranged ns kids → (node_at ns c).label ≡ Inner k → g.place ≡ (node_at ns c).first → g.end ≡ (node_at ns c).first + (node_at ns c).count
        → Steps ns kids (r ∷ rs) (Some c) (g ∷ after ∷ rs)
    step_inner g k ranged label first last =
        let o = opened ns kids c k (read ns kids (length ns) c) label parts.0 in
        let rest = row_of c g first last in
        let us_are : reads ns kids (row_rest kids g) ≡ o.forest = ap (reads ns kids) rest ∙ reads_are ns kids (children ns kids c) o.forest o.spelled in
        let all : coming ns kids (r ∷ rs) ≡ more (node k o.forest) (coming ns kids (after ∷ rs)) = comes ∙ ap (λ z. more z (coming ns kids (after ∷ rs))) o.is in
        let fits = ranged.fits c child_within in (
          coming ns kids (after ∷ rs),
          comes,
          parts.0,
          ap (λ z. forests_joined z (coming ns kids (after ∷ rs))) us_are ∙ sym (ap forest_after_root all),
          (rw last fits, rw (us_are, rest) o.spelled, (rw end sound.0, parts.1, sound.2)),
        )

-- fewer nodes are to come
pub fewer : (ts us : Forest) (t : Tree) (rs : Forest) → ts ≡ more t rs → us ≡ forest_after_root ts → length (preorders us) < length (preorders ts)
fewer ts us t rs e f =
    let some : 0 < length (preorders ts) = rw e (long t rs) in
    let less : length (preorders us) ≡ length (preorders ts) - 1 = ap (λ z. length (preorders z)) f ∙ ap length (codes_next ts) ∙ length-drop 1 (preorders ts) in
    omega arith
  where
    long : (t : Tree) (rs : Forest) → 0 < length (preorders (more t rs))
    long (leaf h) rs = omega arith
    long (node k us) rs = omega arith

-- the same, from rows that hold the same trees
pub steps_from : (ns : List Node) (kids : List ℕ) (start rows after left : List Row) (n : ℕ) → coming ns kids rows ≡ coming ns kids start → Steps ns kids rows (Some n) after → left ≡ after
    → Steps ns kids start (Some n) left
steps_from ns kids start rows after left n e s b = (s.0, sym e ∙ s.1, s.2, ap (coming ns kids) b ∙ s.3 ∙ ap forest_after_root e, subst (Sound ns kids) (sym b) s.4)

-- ---- where a walk starts: the root's children

pub record Started (l : Left) (k : FutureKind) (rows : List Row) : Type 0 where
  pub trees : Forest
  pub is : tree_left l ≡ node k trees
  pub read_so : reads l.nodes l.kids (children l.nodes l.kids 0) ≡ trees
  pub comes : coming l.nodes l.kids rows ≡ trees
  pub sound : Sound l.nodes l.kids rows

pub started : (l : Left) (k : FutureKind) (r : Row) → IsTreeLeft l → (node_at l.nodes 0).label ≡ Inner k → r.place ≡ (node_at l.nodes 0).first → r.end ≡ (node_at l.nodes 0).first + (node_at l.nodes 0).count → Started l k (r ∷ [])
started l k r w label first last =
    let ns = l.nodes in
    let kids = l.kids in
    let o = opened ns kids 0 k (tree_left l) label w.spelled in
    let rest = row_of ns kids 0 r first last in
    let us = reads_are ns kids (children ns kids 0) o.forest o.spelled in
    let us_are : reads ns kids (row_rest kids r) ≡ o.forest = ap (reads ns kids) rest ∙ us in
    let fits = w.ranged.fits 0 (spells_within ns kids 0 (tree_left l) w.spelled) in
    record {
      trees = o.forest;
      is = o.is;
      read_so = us;
      comes = ap (λ z. forests_joined z none) us_are ∙ joined_none o.forest;
      sound = (rw last fits, rw (us_are, rest) o.spelled, tt);
    }

-- ---- handles

pub handles_joined : (us rs : Forest) → handles_in (forests_joined us rs) ≡ handles_in us ++ handles_in rs
handles_joined none rs = refl
handles_joined (more t ts) rs = ap (λ z. handles_of t ++ z) (handles_joined ts rs) ∙ sym (append_assoc (handles_of t) (handles_in ts) (handles_in rs))

pub handle_next : (ns : List Node) (kids : List ℕ) (rows after : List Row) (n h : ℕ) (hs : List ℕ) → (node_at ns n).label ≡ Leaf h → Steps ns kids rows (Some n) after
    → (hs ++ h ∷ []) ++ handles_in (coming ns kids after) ≡ hs ++ handles_in (coming ns kids rows)
handle_next ns kids rows after n h hs label (rs, is_next, s, later, sound) =
    let is = leaf_is ns kids n h (read ns kids (length ns) n) label s in
    let all : coming ns kids rows ≡ more (leaf h) rs = is_next ∙ ap (λ z. more z rs) is in
    append_assoc hs (h ∷ []) (handles_in (coming ns kids after)) ∙ ap (λ z. hs ++ h ∷ handles_in z) (later ∙ ap forest_after_root all) ∙ sym (ap (λ z. hs ++ handles_in z) all)

pub inner_next : (ns : List Node) (kids : List ℕ) (rows after : List Row) (n : ℕ) (k : FutureKind) (hs : List ℕ) → (node_at ns n).label ≡ Inner k → Steps ns kids rows (Some n) after
    → hs ++ handles_in (coming ns kids after) ≡ hs ++ handles_in (coming ns kids rows)
inner_next ns kids rows after n k hs label (rs, is_next, s, later, sound) =
    let o = opened ns kids n k (read ns kids (length ns) n) label s in
    let all : coming ns kids rows ≡ more (node k o.forest) rs = is_next ∙ ap (λ z. more z rs) o.is in
    ap (λ z. hs ++ handles_in z) (later ∙ ap forest_after_root all) ∙ ap (λ z. hs ++ z) (handles_joined o.forest rs) ∙ sym (ap (λ z. hs ++ handles_in z) all)

pub steps_fewer : (ns : List Node) (kids : List ℕ) (rows after : List Row) (n : ℕ) → Steps ns kids rows (Some n) after → length (preorders (coming ns kids after)) < length (preorders (coming ns kids rows))
steps_fewer ns kids rows after n (rs, is_next, s, later, sound) = fewer (coming ns kids rows) (coming ns kids after) (read ns kids (length ns) n) rs is_next later

pub steps_within : (ns : List Node) (kids : List ℕ) (rows after : List Row) (n : ℕ) → Steps ns kids rows (Some n) after → n < length ns
steps_within ns kids rows after n (rs, is_next, s, later, sound) = spells_within ns kids n (read ns kids (length ns) n) s

-- ---- what is sent

nested_joined : (id : ℕ → Option NotificationId) (us rs : Forest) → nested id (forests_joined us rs) ≡ nested id us ++ nested id rs
nested_joined id none rs = refl
nested_joined id (more (leaf h) ts) rs = nested_joined id ts rs
nested_joined id (more (node k us) ts) rs = ap (λ z. head_of id k us ∷ z) (ap (λ z. nested id us ++ z) (nested_joined id ts rs) ∙ sym (append_assoc (nested id us) (nested id ts) (nested id rs)))

pub leaf_passed : (id : ℕ → Option NotificationId) (ns : List Node) (kids : List ℕ) (rows after : List Row) (n h : ℕ) (sent : List FutureNode) → (node_at ns n).label ≡ Leaf h → Steps ns kids rows (Some n) after
    → sent ++ nested id (coming ns kids after) ≡ sent ++ nested id (coming ns kids rows)
leaf_passed id ns kids rows after n h sent label (rs, is_next, s, later, sound) =
    let is = leaf_is ns kids n h (read ns kids (length ns) n) label s in
    let all : coming ns kids rows ≡ more (leaf h) rs = is_next ∙ ap (λ z. more z rs) is in
    ap (λ z. sent ++ nested id z) (later ∙ ap forest_after_root all) ∙ sym (ap (λ z. sent ++ nested id z) all)

pub head_next : (id : ℕ → Option NotificationId) (ns : List Node) (kids : List ℕ) (rows after : List Row) (n : ℕ) (k : FutureKind) (head : FutureNode) (sent_so_far sent_now : List FutureNode) → (node_at ns n).label ≡ Inner k
    → Steps ns kids rows (Some n) after → head ≡ head_of id k (reads ns kids (children ns kids n)) → sent_now ≡ sent_so_far ++ head ∷ []
    → sent_now ++ nested id (coming ns kids after) ≡ sent_so_far ++ nested id (coming ns kids rows)
head_next id ns kids rows after n k head sent_so_far sent_now label (rs, is_next, s, later, sound) filled pushed =
    let o = opened ns kids n k (read ns kids (length ns) n) label s in
    let us = reads_are ns kids (children ns kids n) o.forest o.spelled in
    let is : head ≡ head_of id k o.forest = filled ∙ ap (head_of id k) us in
    let all : coming ns kids rows ≡ more (node k o.forest) rs = is_next ∙ ap (λ z. more z rs) o.is in
    let rest : nested id (coming ns kids after) ≡ nested id o.forest ++ nested id rs = ap (nested id) (later ∙ ap forest_after_root all) ∙ nested_joined id o.forest rs in
    ap (λ z. z ++ nested id (coming ns kids after)) pushed ∙ append_assoc sent_so_far (head ∷ []) (nested id (coming ns kids after))
    ∙ ap (λ z. sent_so_far ++ head ∷ z) rest ∙ ap (λ z. sent_so_far ++ z ∷ (nested id o.forest ++ nested id rs)) is ∙ sym (ap (λ z. sent_so_far ++ nested id z) all)
