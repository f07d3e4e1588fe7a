-- Reading and counting the nodes of a future one by one.
use Rattle.std.proofs.Common.{◌≡◌, ℕ, zero, suc, add-one, ◌+◌, ◌-◌, ◌<◌, ◌≤◌, List, [], ◌∷◌, ◌++◌, length, drop, get_or, Option, Some, None, false, refl, sym, ap, ◌∙◌, arith, ◌⊎◌, inl, inr}
use Rattle.std.specs.Prelude.{Err}
use Rattle.std.proofs.lemmas.List.{append-nil, length-append, length-drop}
use Rattle.std.proofs.Math.Seq.{drop-cons}
use Rattle.wire.specs.Format.{read_then}
use Rattle.wire.specs.Reads.{Reads}
use Rattle.wire.specs.Fault.{Fault}
use Rattle.wire.specs.Fault.TheVariants.{Memory, Malformed}
use Rattle.wire.proofs.Read.{read_on, push_on, items_begin}
use Rattle.journal_attempt.specs.declared.future.FutureNode.{FutureNode}
use Rattle.journal_attempt.specs.Futures.{node, node_long, node_format, are_whole, read_nodes, read_future, future_valid, future_format, IsFuture}

-- ---- reading

nodes_end : (xs : List FutureNode) (n awaited : ℕ) (bs : List ℕ) → awaited ≡ 0 → read_on xs (read_nodes n awaited bs) ≡ Some (xs ++ [], bs)
unfolding read_nodes
nodes_end xs zero zero bs e = refl
nodes_end xs (suc n) zero bs e = refl
nodes_end xs n (suc a) bs e = absurd (omega arith)

nodes_more : (xs : List FutureNode) (x : FutureNode) (n m awaited behind : ℕ) (bs next : List ℕ) → m + 1 ≡ n → 0 < awaited → behind + 1 ≡ awaited + x.nested → node_format.read bs ≡ Some (x, next)
    → read_on xs (read_nodes n awaited bs) ≡ read_on (xs ++ x ∷ []) (read_nodes m behind next)
unfolding read_nodes
nodes_more xs x n m zero behind bs next e l b h = absurd (omega arith)
nodes_more xs x zero m (suc a) behind bs next e l b h = absurd (omega arith)
nodes_more xs x (suc n) m (suc a) behind bs next e l b h =
    let p : m ≡ n = omega arith in
    let q : behind ≡ a + x.nested = omega arith in
    rw (h, ← p, ← q) (push_on xs x (read_nodes m behind next))

nodes_none : (xs : List FutureNode) (n awaited : ℕ) (bs : List ℕ) → 0 < awaited → node_format.read bs ≡ None → read_on xs (read_nodes n awaited bs) ≡ None
unfolding read_nodes
nodes_none xs n zero bs l h = absurd (omega arith)
nodes_none xs zero (suc a) bs l h = refl
nodes_none xs (suc n) (suc a) bs l h = rw h refl

pub node_shorter : (bs next : List ℕ) (x : FutureNode) → node_format.read bs ≡ Some (x, next) → length next < length bs
node_shorter bs next x e =
    let a = node_format.read_is bs x next e in
    omega (arith, node_long x, ap length a.1, length-append (node x) next)

-- no more futures are read than there are bytes
first_of_many : (o : Option (FutureNode × List ℕ)) (n a : ℕ) → ((x : FutureNode) (mid : List ℕ) → o ≡ Some (x, mid) → read_nodes n (a + x.nested) mid ≡ None)
    → read_then o (λ x mid. read_then (read_nodes n (a + x.nested) mid) (λ xs rest. Some (x ∷ xs, rest))) ≡ None
first_of_many None n a h = refl
first_of_many (Some p) n a h = rw (h p.0 p.1 refl) refl

too_many : (n awaited : ℕ) (bs : List ℕ) → length bs < awaited → read_nodes n awaited bs ≡ None
unfolding read_nodes
too_many n zero bs l = absurd (omega arith)
too_many zero (suc a) bs l = refl
too_many (suc n) (suc a) bs l =
    first_of_many (node_format.read bs) n a (λ x mid e. too_many n (a + x.nested) mid (omega (arith, node_shorter bs mid x e)))

-- what was read of a future
pub record Begun (old : List ℕ) (awaited : ℕ) (nodes : List FutureNode) (mid : List ℕ) : Type 0 where
  pub so_far : read_future old ≡ read_on nodes (read_nodes (length old - length nodes) awaited mid)
  pub shorter : length mid + length nodes ≤ length old

pub begun : (old : List ℕ) → Begun old 1 [] old
unfolding read_future
begun old =
    let e : length old ≡ length old - 0 = omega arith in
    record { so_far = ap (λ n. read_nodes n 1 old) e ∙ sym (items_begin (read_nodes (length old - 0) 1 old)); shorter = omega arith }

pub begun_more : (old mid next : List ℕ) (awaited behind : ℕ) (nodes : List FutureNode) (x : FutureNode) → 0 < awaited → behind + 1 ≡ awaited + x.nested → Begun old awaited nodes mid → node_format.read mid ≡ Some (x, next)
    → Begun old behind (nodes ++ x ∷ []) next
begun_more old mid next awaited behind nodes x l k b e =
    let s = node_shorter mid next x e in
    let m = length-append nodes (x ∷ []) in
    record {
      so_far = b.so_far ∙ nodes_more nodes x (length old - length nodes) (length old - length (nodes ++ x ∷ [])) awaited behind mid next (omega (arith, b.shorter)) l k e;
      shorter = omega (arith, b.shorter);
    }

pub begun_end : (old mid : List ℕ) (awaited : ℕ) (nodes : List FutureNode) → awaited ≡ 0 → Begun old awaited nodes mid → read_future old ≡ Some (nodes, mid)
begun_end old mid awaited nodes l b = b.so_far ∙ nodes_end nodes (length old - length nodes) awaited mid l ∙ ap (λ t. Some (t, mid)) (append-nil nodes)

pub node_refused : (old mid last next : List ℕ) (awaited : ℕ) (nodes : List FutureNode) (e : Fault) → 0 < awaited → Begun old awaited nodes mid → Reads node_format mid (Err e) last → Reads future_format old (Err e) next
node_refused old mid last next awaited nodes Memory l b n = tt
node_refused old mid last next awaited nodes Malformed l b n = b.so_far ∙ nodes_none nodes (length old - length nodes) awaited mid l n

-- a node in which more futures nest than bytes follow
crowded : (old mid next : List ℕ) (awaited : ℕ) (nodes : List FutureNode) (x : FutureNode) → 0 < awaited → length next + 1 < awaited + x.nested → Begun old awaited nodes mid → node_format.read mid ≡ Some (x, next) → read_future old ≡ None
crowded old mid next awaited nodes x l k b e =
    let c = begun_more old mid next awaited (awaited + x.nested - 1) nodes x l (omega arith) b e in
    c.so_far ∙ ap (read_on (nodes ++ x ∷ [])) (too_many (length old - length (nodes ++ x ∷ [])) (awaited + x.nested - 1) next (omega arith))

-- no future is awaited, or too many are
pub refused : (old mid next : List ℕ) (awaited : ℕ) (nodes : List FutureNode) (x : FutureNode) → 0 < awaited → (awaited ≡ 0) ⊎ (length next + 1 < awaited + x.nested) → Begun old awaited nodes mid → node_format.read mid ≡ Some (x, next) → read_future old ≡ None
refused old mid next awaited nodes x l (inl z) b e = absurd (omega arith)
refused old mid next awaited nodes x l (inr k) b e = crowded old mid next awaited nodes x l k b e

pub whole_read : (old mid : List ℕ) (nodes : List FutureNode) → read_future old ≡ Some (nodes, mid) → IsFuture nodes
unfolding future_valid
whole_read old mid nodes e = (future_format.read_is old nodes mid e).0.1

-- ---- counting

whole_more : (x : FutureNode) (xs : List FutureNode) (awaited behind : ℕ) → 0 < awaited → behind + 1 ≡ awaited + x.nested → are_whole awaited (x ∷ xs) ≡ are_whole behind xs
whole_more x xs zero behind l e = absurd (omega arith)
whole_more x xs (suc a) behind l e = let q : behind ≡ a + x.nested = omega arith in rw q refl

-- no more futures than nodes
not_so_many : (awaited : ℕ) (xs : List FutureNode) → length xs < awaited → are_whole awaited xs ≡ false
not_so_many zero xs l = absurd (omega arith)
not_so_many (suc a) [] l = refl
not_so_many (suc a) (x ∷ xs) l = not_so_many (a + x.nested) xs (omega arith)

not_whole : (x : FutureNode) (xs : List FutureNode) (awaited : ℕ) → (awaited ≡ 0) ⊎ (length xs + 1 < awaited + x.nested) → are_whole awaited (x ∷ xs) ≡ false
not_whole x xs zero k = refl
not_whole x xs (suc a) (inl z) = absurd (omega arith)
not_whole x xs (suc a) (inr k) = not_so_many (a + x.nested) xs (omega arith)

node_at : (xs : List FutureNode) (i : ℕ) (x : FutureNode) → i < length xs → x ≡ get_or xs i x → drop i xs ≡ x ∷ drop (i + 1) xs
node_at xs i x l e = rw (add-one, drop-cons xs i x l) (ap (λ t. t ∷ drop (suc i) xs) (sym e))

pub counted_more : (xs : List FutureNode) (i : ℕ) (x : FutureNode) (awaited behind : ℕ) → i < length xs → x ≡ get_or xs i x → 0 < awaited → behind + 1 ≡ awaited + x.nested → are_whole awaited (drop i xs) ≡ are_whole behind (drop (i + 1) xs)
counted_more xs i x awaited behind l e z k = ap (are_whole awaited) (node_at xs i x l e) ∙ whole_more x (drop (i + 1) xs) awaited behind z k

pub counted_out : (xs : List FutureNode) (i : ℕ) (x : FutureNode) (awaited : ℕ) → i < length xs → x ≡ get_or xs i x → (awaited ≡ 0) ⊎ (length xs + 1 < awaited + x.nested) → are_whole awaited (drop i xs) ≡ false
counted_out xs i x awaited l e (inl z) = ap (are_whole awaited) (node_at xs i x l e) ∙ not_whole x (drop (i + 1) xs) awaited (inl z)
counted_out xs i x awaited l e (inr k) = ap (are_whole awaited) (node_at xs i x l e) ∙ not_whole x (drop (i + 1) xs) awaited (inr (omega (arith, length-drop (i + 1) xs)))
