-- Nodes in pre-order, read from the last to the first.
use Rattle.std.proofs.Common.{◌≡◌, ◌≢◌, ℕ, zero, suc, ◌+◌, ◌<◌, ◌≤◌, List, [], ◌∷◌, ◌++◌, length, take, drop, get_or, refl, sym, ap, ◌∙◌, arith, ⊎_elim, append-nil, length-append, drop-cons}
use Rattle.std.proofs.Math.ListN.{set}
use Rattle.std.proofs.lemmas.List.{get_or-set_same, get_or-set_other, length-set, length-drop, drop-append-le, take-append-le, drop_at, take_all, drop_all, length-take-le}
use Rattle.std.proofs.lemmas.Bool.{cases_lt}
use Rattle.await_trees.specs.declared.nodes.Node.{Node}
use Rattle.await_trees.specs.declared.nodes.Label.TheVariants.{Leaf, Inner}
use Rattle.await_trees.specs.Tree.{Tree, Forest, leaf, node, none, more}
use Rattle.await_trees.specs.Preorder.{preorder, preorders, size, forests_joined, forest_after_root, from}
use Rattle.await_trees.proofs.Preorders.{codes_from, none_from}
use Rattle.await_tries.specs.Link.{Linked}
use Rattle.await_tries.specs.Spells.{blank, node_at, children, AllAbove, Spells, a_leaf, a_node, SpellAll, no_more, one_more}
use Rattle.await_tries.proofs.Nodes.{stable}

-- each is less
abbrev AllUnder : List ℕ → ℕ → Type 0
AllUnder [] n = Unit {0}
AllUnder (c ∷ cs) n = (c < n) × AllUnder cs n

-- ---- rows of roots

row_split : (ns : List Node) (kids : List ℕ) (us rs : Forest) (cs : List ℕ) → SpellAll ns kids cs (forests_joined us rs) → SpellAll ns kids (take (size us) cs) us × SpellAll ns kids (drop (size us) cs) rs
row_split ns kids none rs cs s = (no_more, s)
row_split ns kids (more u us) rs cs (one_more {cs = ds} p s) = let q = row_split ns kids us rs ds s in (one_more p q.0, q.1)

row_enough : (ns : List Node) (kids : List ℕ) (us rs : Forest) (cs : List ℕ) → SpellAll ns kids cs (forests_joined us rs) → size us ≤ length cs
row_enough ns kids none rs cs s = omega arith
row_enough ns kids (more u us) rs cs (one_more {cs = ds} p s) = let q = row_enough ns kids us rs ds s in omega arith

above_take : (i n : ℕ) (cs : List ℕ) → AllAbove i cs → AllAbove i (take n cs)
above_take i zero cs a = tt
above_take i (suc n) [] a = tt
above_take i (suc n) (c ∷ cs) a = (a.0, above_take i n cs a.1)

above_drop : (i n : ℕ) (cs : List ℕ) → AllAbove i cs → AllAbove i (drop n cs)
above_drop i zero cs a = a
above_drop i (suc n) [] a = a
above_drop i (suc n) (c ∷ cs) a = above_drop i n cs a.1

above_less : (i : ℕ) (cs : List ℕ) → AllAbove (suc i) cs → AllAbove i cs
above_less i [] a = tt
above_less i (c ∷ cs) a = (let b = a.0 in omega arith, above_less i cs a.1)

under_take : (i n : ℕ) (cs : List ℕ) → AllUnder cs i → AllUnder (take n cs) i
under_take i zero cs a = tt
under_take i (suc n) [] a = tt
under_take i (suc n) (c ∷ cs) a = (a.0, under_take i n cs a.1)

under_drop : (i n : ℕ) (cs : List ℕ) → AllUnder cs i → AllUnder (drop n cs) i
under_drop i zero cs a = a
under_drop i (suc n) [] a = a
under_drop i (suc n) (c ∷ cs) a = under_drop i n cs a.1

under_at : (n : ℕ) (cs : List ℕ) → AllUnder cs n → (k : ℕ) → k < length cs → get_or cs k 0 < n
under_at n [] a k l = absurd (omega arith)
under_at n (c ∷ cs) a zero l = a.0
under_at n (c ∷ cs) a (suc k) l = under_at n cs a.1 k (omega arith)

numbers_append : (n : ℕ) (xs ys : List ℕ) → ((k : ℕ) → k < length xs → get_or xs k 0 < n) → AllUnder ys n → (k : ℕ) → k < length (xs ++ ys) → get_or (xs ++ ys) k 0 < n
numbers_append n [] ys h a k l = under_at n ys a k l
numbers_append n (x ∷ xs) ys h a zero l = h 0 (omega arith)
numbers_append n (x ∷ xs) ys h a (suc k) l = numbers_append n xs ys (λ j b. h (suc j) (omega arith)) a k (omega arith)

row_stable : (ns ms : List Node) (kids lids : List ℕ) (i : ℕ) → length ms ≡ length ns
    → ((m : ℕ) → m < length ns → i < m → (node_at ms m ≡ node_at ns m) × (children ms lids m ≡ children ns kids m))
    → (cs : List ℕ) (ts : Forest) → AllAbove i cs → SpellAll ns kids cs ts → SpellAll ms lids cs ts
row_stable ns ms kids lids i len same cs ts a no_more = no_more
row_stable ns ms kids lids i len same cs ts a (one_more {c = c} {cs = ds} {t = t} {ts = us} s r) = one_more (stable ns ms kids lids i len same c t a.0 s) (row_stable ns ms kids lids i len same ds us a.1 r)

part_append : (a n : ℕ) (xs ys : List ℕ) → a + n ≤ length xs → take n (drop a (xs ++ ys)) ≡ take n (drop a xs)
part_append a n xs ys h =
    let d : drop a (xs ++ ys) ≡ drop a xs ++ ys = drop-append-le a xs ys (omega arith) in
    rw d (take-append-le n (drop a xs) ys (omega (arith, length-drop a xs)))

-- ---- nodes from i on have their ranges

pub record Linking (start ns : List Node) (kids roots : List ℕ) (i : ℕ) (t : Tree) : Type 0 where
  pub same : (m : ℕ) → m < i → node_at ns m ≡ node_at start m
  pub fits : (m : ℕ) → i ≤ m → m < length ns → (node_at ns m).first + (node_at ns m).count ≤ length kids
  pub apart : (m n : ℕ) → i ≤ m → m < n → n < length ns → (node_at ns n).first + (node_at ns n).count ≤ (node_at ns m).first
  pub numbers : (k : ℕ) → k < length kids → get_or kids k 0 < length ns
  pub under : AllUnder roots (length ns)
  pub above : (h : ℕ) → i ≡ suc h → AllAbove h roots
  pub on_top : i < length ns → (cs : List ℕ) × (roots ≡ i ∷ cs)
  pub spelled : SpellAll ns kids roots (from i (more t none))

code_all : (t : Tree) → preorders (more t none) ≡ preorder t
code_all t = append-nil (preorder t)

pub linking_start : (start : List Node) (t : Tree) → start ≡ preorder t → Linking start start [] [] (length start) t
linking_start start t e =
    let whole : preorders (from (length start) (more t none)) ≡ [] = codes_from (length start) (more t none) ∙ ap (drop (length start)) (code_all t ∙ sym e) ∙ drop_all (length start) start (omega arith) in
    record {
      same = λ m l. refl;
      fits = λ m l b. absurd (omega arith);
      apart = λ m n l b d. absurd (omega arith);
      numbers = λ k l. absurd (omega arith);
      under = tt;
      above = λ h q. tt;
      on_top = λ l. absurd (omega arith);
      spelled = rw (none_from (from (length start) (more t none)) whole) no_more;
    }

code_some : (t : Tree) → 0 < length (preorder t)
code_some (leaf h) = omega arith
code_some (node k ts) = omega arith

first_spelled : (ns : List Node) (kids cs : List ℕ) (t : Tree) → SpellAll ns kids (0 ∷ cs) (more t none) → Spells ns kids 0 t
first_spelled ns kids cs t (one_more s r) = s

pub linking_end : (start ns : List Node) (kids roots : List ℕ) (t : Tree) → length ns ≡ length start → start ≡ preorder t → Linking start ns kids roots 0 t → Linked ns kids t
linking_end start ns kids roots t len e p =
    let some : 0 < length ns = rw (len, e) (code_some t) in
    let top = p.on_top some in
    record {
      some = some;
      ranged = record { fits = λ n l. p.fits n (omega arith) l; apart = λ m n l b. p.apart m n (omega arith) l b; numbers = p.numbers };
      spelled = first_spelled ns kids top.0 t (rw top.1 at p.spelled);
    }

-- ---- one node more

head_node : {d e : Node} {xs ys : List Node} → d ∷ xs ≡ e ∷ ys → e ≡ d
head_node q = cc

module _ (ns : List Node) (kids lids roots after : List ℕ) (h : ℕ) (within : h < length ns)
    (fits : (m : ℕ) → suc h ≤ m → m < length ns → (node_at ns m).first + (node_at ns m).count ≤ length kids)
    (above : AllAbove h roots)
    (grown : (node_at ns h).count ≤ length roots → lids ≡ kids ++ take (node_at ns h).count roots)
    (left : (node_at ns h).count ≤ length roots → after ≡ drop (node_at ns h).count roots) where
  abbrev written : Node
  written = record (node_at ns h) { first = length kids }

  abbrev now : List Node
  now = set ns h written

  size_now : length now ≡ length ns
  size_now = length-set ns h written

  here : node_at now h ≡ written
  here = get_or-set_same ns h written blank within

  other : (m : ℕ) → m ≢ h → node_at now m ≡ node_at ns m
  other m d = get_or-set_other ns h m written blank d

  behind : (node_at ns h).count ≤ length roots → (m : ℕ) → m < length ns → h < m → (node_at now m ≡ node_at ns m) × (children now lids m ≡ children ns kids m)
  behind enough m b l =
      let n = other m (λ q. absurd (omega arith)) in
      (n, rw (n, grown enough) (part_append (node_at ns m).first (node_at ns m).count kids (take (node_at ns h).count roots) (fits m (omega arith) b)))

  range : (node_at ns h).count ≤ length roots → children now lids h ≡ take (node_at ns h).count roots
  range enough =
      let d : drop (length kids) (kids ++ take (node_at ns h).count roots) ≡ take (node_at ns h).count roots = drop_at kids (take (node_at ns h).count roots) (length kids) refl in
      rw (here, grown enough, d) (take_all (node_at ns h).count (take (node_at ns h).count roots) (omega (arith, length-take-le (node_at ns h).count roots enough)))

  pub record Stepped (f : Forest) : Type 0 where
    pub enough : (node_at ns h).count ≤ length roots
    pub spelled : SpellAll now lids (h ∷ after) f

  pub stepped : (f : Forest) (rest : List Node) → preorders f ≡ node_at ns h ∷ rest → SpellAll ns kids roots (forest_after_root f) → Stepped f
  stepped none rest e s = cc
  stepped (more (leaf x) rs) rest e s =
      let d : node_at ns h ≡ record { label = Leaf x; first = 0; count = 0 } = head_node e in
      let count : (node_at ns h).count ≡ 0 = ap (λ (z : Node). z.count) d in
      let enough : (node_at ns h).count ≤ length roots = omega arith in
      let label : (node_at now h).label ≡ Leaf x = ap (λ (z : Node). z.label) (here) ∙ ap (λ (z : Node). z.label) d in
      let inside : h < length now = rw size_now within in
      let all : after ≡ roots = left enough ∙ rw count refl in
      record {
        enough = enough;
        spelled = one_more (a_leaf inside label) (rw all (row_stable ns now kids lids h size_now (behind enough) roots rs above s));
      }
  stepped (more (node k us) rs) rest e s =
      let d : node_at ns h ≡ record { label = Inner k; first = 0; count = size us } = head_node e in
      let count : (node_at ns h).count ≡ size us = ap (λ (z : Node). z.count) d in
      let room : size us ≤ length roots = row_enough ns kids us rs roots s in
      let enough : (node_at ns h).count ≤ length roots = omega arith in
      let label : (node_at now h).label ≡ Inner k = ap (λ (z : Node). z.label) (here) ∙ ap (λ (z : Node). z.label) d in
      let inside : h < length now = rw size_now within in
      let parts = row_split ns kids us rs roots s in
      let kept : children now lids h ≡ take (size us) roots = range enough ∙ ap (λ z. take z roots) count in
      let rest_is : after ≡ drop (size us) roots = left enough ∙ ap (λ z. drop z roots) count in
      let mine : SpellAll now lids (take (size us) roots) us = row_stable ns now kids lids h size_now (behind enough) (take (size us) roots) us (above_take h (size us) roots above) parts.0 in
      let others : SpellAll now lids (drop (size us) roots) rs = row_stable ns now kids lids h size_now (behind enough) (drop (size us) roots) rs (above_drop h (size us) roots above) parts.1 in
      record {
        enough = enough;
        spelled = one_more (a_node inside label (rw kept (above_take h (size us) roots above)) (rw kept mine)) (rw rest_is others);
      }

  pub linking_step : (start : List Node) (t : Tree) → length ns ≡ length start → start ≡ preorder t → Linking start ns kids roots (suc h) t → Linking start now lids (h ∷ after) h t
  linking_step start t len e p =
      let f = from h (more t none) in
      let inside : h < length start = omega arith in
      let size : length now ≡ length ns = size_now in
      let tail : preorders f ≡ node_at start h ∷ drop (suc h) start = codes_from h (more t none) ∙ ap (drop h) (code_all t ∙ sym e) ∙ drop-cons start h blank inside in
      let head : preorders f ≡ node_at ns h ∷ drop (suc h) start = tail ∙ ap (λ z. z ∷ drop (suc h) start) (sym (p.same h (omega arith))) in
      let s = stepped f (drop (suc h) start) head p.spelled in
      let taken : length (take (node_at ns h).count roots) ≡ (node_at ns h).count = length-take-le (node_at ns h).count roots s.enough in
      let longer : length lids ≡ length kids + (node_at ns h).count = ap length (grown s.enough) ∙ length-append kids (take (node_at ns h).count roots) ∙ ap (λ z. length kids + z) taken in
      record {
        same = λ m l. other m (λ q. absurd (omega arith)) ∙ p.same m (omega arith);
        fits = λ m l b.
            ⊎_elim (λ (lt : h < m). let a = p.fits m (omega arith) (omega arith) in rw (other m (λ q. absurd (omega arith))) (omega arith))
            (λ (ge : m ≤ h). let q : m ≡ h = omega arith in rw (q, here) (omega arith)) (cases_lt h m);
        apart = λ m n l b d.
            let bn : n < length ns = omega arith in
            let at_n : node_at now n ≡ node_at ns n = other n (λ q. absurd (omega arith)) in
            ⊎_elim (λ (lt : h < m). let a = p.apart m n (omega arith) b bn in rw (at_n, other m (λ q. absurd (omega arith))) a)
            (λ (ge : m ≤ h). let q : m ≡ h = omega arith in let a = p.fits n (omega arith) bn in rw (at_n, q, here) a) (cases_lt h m);
        numbers = rw (size_now, grown s.enough) (numbers_append (length ns) kids (take (node_at ns h).count roots) p.numbers (under_take (length ns) (node_at ns h).count roots p.under));
        under = rw size_now (within, rw (left s.enough) (under_drop (length ns) (node_at ns h).count roots p.under));
        above = λ g q. (omega arith, rw (left s.enough) (above_drop g (node_at ns h).count roots (less g q)));
        on_top = λ l. (after, refl);
        spelled = s.spelled;
      }
    where
      less : (g : ℕ) → h ≡ suc g → AllAbove g roots
      less g q = above_less g roots (rw (← q) above)
