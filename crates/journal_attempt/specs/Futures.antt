-- What an attempt waits for, in preorder, and its format.
use Rattle.std.specs.Prelude.{◌≡◌, ℕ, zero, suc, ◌+◌, ◌<◌, ◌≤◌, Bool, true, false, List, [], ◌∷◌, ◌++◌, length, Some, None, IsTrue, ◌↔◌, refl}
use Rattle.std.specs.List.{flat_map, AllByRecursion}
use Rattle.std.proofs.Common.{ap, sym, ◌∙◌, subst, append_assoc, arith}
use Rattle.std.proofs.lemmas.Bool.{false≢true}
use Rattle.std.proofs.lemmas.List.{length-append}
use Rattle.std.proofs.lemmas.Grind.{flat_map-append}
use Rattle.std.proofs.lemmas.List.Concat.{flat_map-cons}
use Rattle.wire.specs.Format.{Format, Reading, IsReadBack, IsSpelled, read_as, read_then, read_nothing, read_byte, read_if_number, read_no_case, read_case, u32s, u64s, bytes, list, fields}
use Rattle.wire.specs.Forms.{then_some, same_some, case_is, cases_are, no_case_is, nothing_format, u32_format, u64_format, text_format, pair_format, list_format, via, spelled}
use Rattle.journal_attempt.specs.declared.future.FutureKind.{FutureKind}
use Rattle.journal_attempt.specs.declared.future.FutureKind.TheVariants.{FirstCompleted, AllCompleted, FirstSucceededOrAllFailed, AllSucceededOrFirstFailed, Unknown}
use Rattle.journal_attempt.specs.declared.future.FutureNode.{FutureNode}

-- one byte: 0 first completed, 1 all completed, 2 first succeeded or all failed, 3 all succeeded or
-- first failed, 4 unknown
abbrev pub kind : FutureKind → List ℕ
kind FirstCompleted = 0 ∷ []
kind AllCompleted = 1 ∷ []
kind FirstSucceededOrAllFailed = 2 ∷ []
kind AllSucceededOrFirstFailed = 3 ∷ []
kind Unknown = 4 ∷ []

-- the kind whose number, 0 to 4, is the first byte; none if it is another byte or none is left
unfoldable pub read_kind : Reading FutureKind
read_kind = read_case (
    read_if_number 0 (read_as (λ _. FirstCompleted) read_nothing) (
    read_if_number 1 (read_as (λ _. AllCompleted) read_nothing) (
    read_if_number 2 (read_as (λ _. FirstSucceededOrAllFailed) read_nothing) (
    read_if_number 3 (read_as (λ _. AllSucceededOrFirstFailed) read_nothing) (
    read_if_number 4 (read_as (λ _. Unknown) read_nothing) (
    read_no_case))))))

pub kind_reads : IsReadBack kind (λ _. Unit {0}) read_kind
unfolding read_kind read_byte
kind_reads FirstCompleted rest v = refl
kind_reads AllCompleted rest v = refl
kind_reads FirstSucceededOrAllFailed rest v = refl
kind_reads AllSucceededOrFirstFailed rest v = refl
kind_reads Unknown rest v = refl

pub kind_is : IsSpelled kind (λ _. Unit {0}) read_kind
unfolding read_kind
kind_is = cases_are kind (λ _. Unit {0}) _ (
    case_is kind (λ _. Unit {0}) 0 (λ _. FirstCompleted) nothing_format _ (λ _ v. v) (λ _. refl) (
    case_is kind (λ _. Unit {0}) 1 (λ _. AllCompleted) nothing_format _ (λ _ v. v) (λ _. refl) (
    case_is kind (λ _. Unit {0}) 2 (λ _. FirstSucceededOrAllFailed) nothing_format _ (λ _ v. v)
    (λ _. refl) (
    case_is kind (λ _. Unit {0}) 3 (λ _. AllSucceededOrFirstFailed) nothing_format _ (λ _ v. v)
    (λ _. refl) (
    case_is kind (λ _. Unit {0}) 4 (λ _. Unknown) nothing_format _ (λ _ v. v) (λ _. refl) (
    no_case_is kind (λ _. Unit {0})))))))

-- a kind in one byte, 0 to 4
abbrev pub kind_format : Format FutureKind
kind_format = record {
  spelling = kind;
  valid = (λ _. Unit {0});
  read = read_kind;
  reads = kind_reads;
  read_is = kind_is;
}

-- ---- a node: one future without those that nest in it

-- what a future waits for itself
abbrev pub head : FutureNode → List ℕ
head n = fields (kind n.kind ∷ list u32s n.waiting_completions ∷ list u32s n.waiting_signals
    ∷ list bytes n.waiting_named_signals ∷ [])

-- a node's bytes: what it waits for itself, and how many futures nest directly in it
abbrev pub node : FutureNode → List ℕ
node n = head n ++ u64s n.nested

-- a node's parts: what it waits for itself, and how many nest in it
abbrev pub NodeParts : Type 0
NodeParts = (FutureKind × (List ℕ × (List ℕ × List (List ℕ)))) × ℕ

-- a node as pairs: ((kind, (completions, (signals, named signals))), how many nest in it)
abbrev pub parts_of : FutureNode → NodeParts
parts_of n =
    ((n.kind, (n.waiting_completions, (n.waiting_signals, n.waiting_named_signals))), n.nested)

-- the node that these pairs are the parts of
abbrev pub of_parts : NodeParts → FutureNode
of_parts p = record {
  kind = p.0.0;
  waiting_completions = p.0.1.0;
  waiting_signals = p.0.1.1.0;
  waiting_named_signals = p.0.1.1.1;
  nested = p.1;
}

-- kind, completions (u32) and signals (u32) and named signals (texts) as three lists, and how many
-- nest in it (u64)
abbrev pub parts_format : Format NodeParts
parts_format = pair_format
    (pair_format kind_format
    (pair_format (list_format u32_format)
    (pair_format (list_format u32_format) (list_format text_format)))) u64_format

-- the format of a node: encoded as its parts, one after the other, and read back into a node
abbrev pub node_format : Format FutureNode
node_format = spelled node (via parts_of of_parts (λ _. refl) (λ _. refl) parts_format) (λ _. refl)

-- ---- a future: its nodes in preorder

-- Whether these nodes are this number of whole futures: before each node at least one future is
-- still awaited, and after the last node none is. A node is one of those awaited, and the futures
-- that nest directly in it are awaited next.
abbrev pub are_whole : ℕ → List FutureNode → Bool
are_whole zero [] = true
are_whole zero (n ∷ nodes) = false
are_whole (suc awaited) [] = false
are_whole (suc awaited) (n ∷ nodes) = are_whole (awaited + n.nested) nodes

-- one whole future
abbrev pub IsFuture : List FutureNode → Type 0
IsFuture nodes = IsTrue (are_whole 1 nodes)

-- the bytes of a future: those of its nodes
unfoldable pub future : List FutureNode → List ℕ
future nodes = flat_map node nodes

-- These nodes are a future of its parts: a head, and after it the nodes of each of its children;
-- and the bytes are what the head waits for, and the list of the children's bytes.
pub record Layout (nodes : List FutureNode) : Type 0 where
  pub top : FutureNode
  pub children : List (List FutureNode)
  pub counted : top.nested ≡ length children
  pub each : AllByRecursion IsFuture children
  pub placed : nodes ≡ top ∷ flat_map (λ child. child) children
  pub spelled_so : future nodes ≡ head top ++ list future children

-- the numbers, counts and texts of each node fit, and the nodes are one whole future
unfoldable pub future_valid : List FutureNode → Type 0
future_valid nodes = AllByRecursion node_format.valid nodes × IsFuture nodes

-- ---- reading a future

-- reads this number of whole futures, of at most n nodes in all
unfoldable pub read_nodes : ℕ → ℕ → Reading (List FutureNode)
read_nodes n zero bs = Some ([], bs)
read_nodes zero (suc awaited) bs = None
read_nodes (suc n) (suc awaited) bs = read_then (node_format.read bs)
    (λ x mid. read_then (read_nodes n (awaited + x.nested) mid) (λ xs rest. Some (x ∷ xs, rest)))

-- Each node takes a byte at least.
unfoldable pub read_future : Reading (List FutureNode)
read_future bs = read_nodes (length bs) 1 bs

kind_long : (k : FutureKind) → 0 < length (kind k)
kind_long FirstCompleted = omega arith
kind_long AllCompleted = omega arith
kind_long FirstSucceededOrAllFailed = omega arith
kind_long AllSucceededOrFirstFailed = omega arith
kind_long Unknown = omega arith

pub node_long : (n : FutureNode) → 0 < length (node n)
node_long n =
    let others = list u32s n.waiting_completions
    ++ (list u32s n.waiting_signals ++ list bytes n.waiting_named_signals) in
    omega (
      arith,
      kind_long n.kind,
      length-append (kind n.kind) others,
      length-append (head n)
          (u64s n.nested),
    )

pub nodes_are : (n awaited : ℕ) (bs : List ℕ) (xs : List FutureNode) (rest : List ℕ)
    → read_nodes n awaited bs ≡ Some (xs, rest) → IsTrue (are_whole awaited xs)
    × AllByRecursion node_format.valid xs × (bs ≡ flat_map node xs ++ rest)
unfolding read_nodes
nodes_are zero zero bs xs rest e =
    let s = same_some [] xs bs rest e in
    (rw (← s.0) refl, rw (← s.0) tt, (λ i. flat_map node (s.0 i) ++ s.1 i))
nodes_are (suc n) zero bs xs rest e =
    let s = same_some [] xs bs rest e in
    (rw (← s.0) refl, rw (← s.0) tt, (λ i. flat_map node (s.0 i) ++ s.1 i))
nodes_are zero (suc awaited) bs xs rest e = absurd cc
nodes_are (suc n) (suc awaited) bs xs rest e =
    let more = λ (x : FutureNode) (mid : List ℕ). read_then (read_nodes n (awaited + x.nested) mid)
    (λ xs rest. Some (x ∷ xs, rest)) in
    let k = then_some (node_format.read bs) more xs rest e in
    let q = then_some (read_nodes n (awaited + k.0.nested) k.1) (λ xs rest. Some (k.0 ∷ xs, rest))
    xs rest k.3 in
    let s = same_some (k.0 ∷ q.0) xs q.1 rest q.3 in
    let a = node_format.read_is bs k.0 k.1 k.2 in
    let b = nodes_are n (awaited + k.0.nested) k.1 q.0 q.1 q.2 in (
      rw (← s.0) b.0,
      rw (← s.0) (a.0, b.1),
      a.1 ∙ ap (λ t. node k.0 ++ t) b.2 ∙ sym (append_assoc (node k.0) (flat_map node q.0) q.1)
          ∙ ap (λ t. t ++ q.1) (sym (flat_map-cons node k.0 q.0))
          ∙ (λ i. flat_map node (s.0 i) ++ s.1 i),
    )

pub future_is : IsSpelled future future_valid read_future
unfolding read_future future future_valid
future_is bs nodes rest e = let h = nodes_are (length bs) 1 bs nodes rest e in ((h.1, h.0), h.2)

nodes_read : (n awaited : ℕ) (xs : List FutureNode) (rest : List ℕ) → IsTrue (are_whole awaited xs)
    → AllByRecursion node_format.valid xs → length (flat_map node xs ++ rest) ≤ n
    → read_nodes n awaited (flat_map node xs ++ rest) ≡ Some (xs, rest)
unfolding read_nodes
nodes_read zero zero [] rest w v l = refl
nodes_read (suc n) zero [] rest w v l = refl
nodes_read n zero (x ∷ xs) rest w v l = absurd cc
nodes_read n (suc awaited) [] rest w v l = absurd cc
nodes_read zero (suc awaited) (x ∷ xs) rest w v l =
    absurd (omega (
      arith,
      node_long x,
      ap length (flat_map-cons node x xs),
      length-append (node x)
          (flat_map node xs),
      length-append (flat_map node (x ∷ xs)) rest,
    ))
nodes_read (suc n) (suc awaited) (x ∷ xs) rest w v l =
    let split = ap (λ t. t ++ rest) (flat_map-cons node x xs)
    ∙ append_assoc (node x) (flat_map node xs) rest in
    let m : length (node x ++ (flat_map node xs ++ rest)) ≤ suc n = rw (← split) l in
    rw (
      split,
      node_format.reads x (flat_map node xs
          ++ rest) v.0,
      nodes_read n (awaited + x.nested) xs rest w v.1
          (omega (arith, m, node_long x, length-append (node x) (flat_map node xs ++ rest))),
    ) refl

pub future_reads : IsReadBack future future_valid read_future
unfolding read_future future future_valid
future_reads nodes rest v =
    nodes_read (length (flat_map node nodes ++ rest)) 1 nodes rest v.1 v.0 (omega arith)

-- the format of a future: its nodes one after the other, with no count in front, since the nodes
-- say where it ends
abbrev pub future_format : Format (List FutureNode)
future_format = record {
  spelling = future;
  valid = future_valid;
  read = read_future;
  reads = future_reads;
  read_is = future_is;
}

-- ---- a future of its parts

-- the first of several whole futures, and the others
first_of_whole : (a b : ℕ) (xs : List FutureNode) → IsTrue (are_whole (a + b) xs)
    → (p : List FutureNode) × (q : List FutureNode) × (xs ≡ p ++ q) × IsTrue (are_whole a p)
    × IsTrue (are_whole b q)
first_of_whole zero b xs w = let e : 0 + b ≡ b = omega arith in ([], xs, refl, refl, rw e at w)
first_of_whole (suc a) b [] w = let e : suc a + b ≡ suc (a + b) = omega arith in
    let h = rw e at w in absurd (false≢true h)
first_of_whole (suc a) b (x ∷ xs) w =
    let e : suc a + b ≡ suc (a + b) = omega arith in
    let d : (a + b) + x.nested ≡ (a + x.nested) + b = omega arith in
    let h = first_of_whole (a + x.nested) b xs (rw (← d) (rw e at w)) in
    (x ∷ h.0, h.1, ap (λ t. x ∷ t) h.2, h.3, h.4)

-- the nodes of n whole futures, cut into the nodes of each
each_whole : (n : ℕ) (xs : List FutureNode) → IsTrue (are_whole n xs)
    → (children : List (List FutureNode)) × (n ≡ length children)
    × (xs ≡ flat_map (λ c. c) children) × AllByRecursion IsFuture children
each_whole zero [] w = ([], refl, refl, tt)
each_whole zero (x ∷ xs) w = absurd (false≢true w)
each_whole (suc n) xs w =
    let e : suc n ≡ 1 + n = omega arith in
    let k = first_of_whole 1 n xs (rw (← e) w) in
    let h = each_whole n k.1 k.4 in (
      k.0 ∷ h.0,
      ap suc h.1,
      k.2 ∙ ap (λ t. k.0 ++ t) h.2
          ∙ sym (flat_map-cons (λ c. c) k.0 h.0),
      (k.3, h.3),
    )

bytes_joined : (cs : List (List FutureNode)) → flat_map node (flat_map (λ c. c) cs)
    ≡ flat_map future cs
unfolding future
bytes_joined [] = refl
bytes_joined (c ∷ cs) = ap (flat_map node) (flat_map-cons (λ c. c) c cs)
    ∙ flat_map-append node c (flat_map (λ c. c) cs)
    ∙ ap (λ t. flat_map node c ++ t) (bytes_joined cs) ∙ sym (flat_map-cons future c cs)

laid_out : (nodes : List FutureNode) → IsFuture nodes → Layout nodes
unfolding future list
laid_out [] w = absurd (false≢true w)
laid_out (x ∷ xs) w =
    let e : 0 + x.nested ≡ x.nested = omega arith in
    let h = each_whole x.nested xs (subst (λ n. IsTrue (are_whole n xs)) e w) in
    record {
      top = x;
      children = h.0;
      counted = h.1;
      each = h.3;
      placed = ap (λ t. x ∷ t) h.2;
      spelled_so = flat_map-cons node x xs
          ∙ append_assoc (head x) (u64s x.nested) (flat_map node xs)
          ∙ (λ i. head x ++ (u64s (h.1 i) ++ flat_map node (h.2 i)))
          ∙ ap (λ t. head x ++ (u64s (length h.0) ++ t)) (bytes_joined h.0);
    }

whole_joined : (a b : ℕ) (p q : List FutureNode) → IsTrue (are_whole a p) → IsTrue (are_whole b q)
    → IsTrue (are_whole (a + b) (p ++ q))
whole_joined zero b [] q v w = let e : 0 + b ≡ b = omega arith in rw e w
whole_joined zero b (x ∷ p) q v w = absurd (false≢true v)
whole_joined (suc a) b [] q v w = absurd (false≢true v)
whole_joined (suc a) b (x ∷ p) q v w =
    let e : suc a + b ≡ suc (a + b) = omega arith in
    let d : (a + b) + x.nested ≡ (a + x.nested) + b = omega arith in
    subst (λ n. IsTrue (are_whole n (x ∷ (p ++ q)))) (sym e)
    (subst (λ n. IsTrue (are_whole n (p ++ q))) (sym d) (whole_joined (a + x.nested) b p q v w))

children_whole : (children : List (List FutureNode)) → AllByRecursion IsFuture children
    → IsTrue (are_whole (length children) (flat_map (λ c. c) children))
children_whole [] h = refl
children_whole (c ∷ cs) h =
    let e : 1 + length cs ≡ suc (length cs) = omega arith in
    rw (flat_map-cons (λ (d : List FutureNode). d) c cs)
    (subst (λ n. IsTrue (are_whole n (c ++ flat_map (λ d. d) cs))) e
    (whole_joined 1 (length cs) c (flat_map (λ d. d) cs) h.0 (children_whole cs h.1)))

of_parts_whole : (nodes : List FutureNode) → Layout nodes → IsFuture nodes
of_parts_whole nodes l =
    let e : length l.children ≡ 0 + l.top.nested = omega (arith, l.counted) in
    rw l.placed (subst (λ n. IsTrue (are_whole n (flat_map (λ c. c) l.children))) e
    (children_whole l.children l.each))

-- The layout is recursive: nodes are a future exactly if they are a future of its parts.
pub layout : (nodes : List FutureNode) → IsFuture nodes ↔ Layout nodes
layout nodes = (laid_out nodes, of_parts_whole nodes)
