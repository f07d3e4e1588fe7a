-- Rows of nodes.
use Rattle.std.proofs.Common.{◌≡◌, ◌+◌, ◌<◌, inl, ℕ, zero, suc, get_or, le_of_suc-le-suc, not-suc-le-zero, List, [], ◌∷◌, ◌++◌, length, take, drop, refl, sym, ◌∙◌, ap, append_assoc, append-nil, length-drop, take-append-drop, arith}
use Rattle.journal_protocol.specs.FutureKind.{FutureKind}
use Rattle.journal_protocol.specs.FutureKind.TheVariants.{FirstCompleted, AllCompleted, FirstSucceededOrAllFailed, AllSucceededOrFirstFailed, Unknown}
use Rattle.await_trees.specs.Copies.{future_node}
use Rattle.await_trees.specs.Tree.{node, forest_of, tree_of}
use Rattle.await_trees.specs.declared.handle.NotificationHandle.{NotificationHandle}
use Rattle.await_trees.specs.declared.tree.UnresolvedFuture.{UnresolvedFuture}
use Rattle.await_trees.specs.declared.tree.UnresolvedFuture.TheVariants.{Single}
use Rattle.await_trees.proofs.TreeOf.{tree_of-Single, tree_of-FirstCompleted, tree_of-AllCompleted, tree_of-FirstSucceededOrAllFailed, tree_of-AllSucceededOrFirstFailed, tree_of-Unknown}
use Rattle.c_calls.specs.declared.nodes.Node.{Node}
use Rattle.c_values.specs.declared.status.Status.{Status}
use Rattle.c_values.specs.declared.status.Status.TheVariants as status
use Rattle.c_calls.specs.Nodes.{CantStand, FailsAsTree, StopsAtNode, node_code, nodes_of, rows_of, trees_in, row_of}

tree_of_node : (kind : FutureKind) (us : List UnresolvedFuture) → tree_of (future_node kind us) ≡ node kind (forest_of us)
tree_of_node FirstCompleted us = tree_of-FirstCompleted us
tree_of_node AllCompleted us = tree_of-AllCompleted us
tree_of_node FirstSucceededOrAllFailed us = tree_of-FirstSucceededOrAllFailed us
tree_of_node AllSucceededOrFirstFailed us = tree_of-AllSucceededOrFirstFailed us
tree_of_node Unknown us = tree_of-Unknown us

rows_written : (us : List UnresolvedFuture) → rows_of (forest_of us) ≡ row_of us
rows_written [] = refl
rows_written (u ∷ us) = ap (λ row. nodes_of (tree_of u) ++ row) (rows_written us)

size_of_row : (us : List UnresolvedFuture) → trees_in (forest_of us) ≡ length us
size_of_row [] = refl
size_of_row (u ∷ us) = let rest = size_of_row us in omega (arith, rest)

written_both : (us vs : List UnresolvedFuture) → row_of (us ++ vs) ≡ row_of us ++ row_of vs
written_both [] vs = refl
written_both (u ∷ us) vs = ap (λ row. nodes_of (tree_of u) ++ row) (written_both us vs) ∙ sym (append_assoc (nodes_of (tree_of u)) (row_of us) (row_of vs))

-- the nodes of a node over children
pub nodes_of_node : (kind : FutureKind) (us : List UnresolvedFuture) → nodes_of (tree_of (future_node kind us)) ≡ row_of us ++ record { kind = node_code kind; number = length us } ∷ []
nodes_of_node kind us =
    ap nodes_of (tree_of_node kind us)
    ∙ ap (λ row. row ++ record { kind = node_code kind; number = trees_in (forest_of us) } ∷ []) (rows_written us)
    ∙ ap (λ n. row_of us ++ record { kind = node_code kind; number = n } ∷ []) (size_of_row us)

-- a node over the last of the trees in front of it
pub over : (kind : FutureKind) (us : List UnresolvedFuture) (at : ℕ) (n : Node) → node_code kind ≡ n.kind → at + n.number ≡ length us → row_of (take at us) ++ nodes_of (tree_of (future_node kind (drop at us))) ≡ row_of us ++ n ∷ []
over kind us at n same fits =
    let count : length (drop at us) ≡ n.number = let long = length-drop at us in omega (arith, long) in
    ap (λ row. row_of (take at us) ++ row) (nodes_of_node kind (drop at us))
    ∙ ap (λ m. row_of (take at us) ++ (row_of (drop at us) ++ record { kind = node_code kind; number = m } ∷ [])) count
    ∙ ap (λ k. row_of (take at us) ++ (row_of (drop at us) ++ record { kind = k; number = n.number } ∷ [])) same
    ∙ sym (append_assoc (row_of (take at us)) (row_of (drop at us)) (n ∷ []))
    ∙ ap (λ row. row ++ n ∷ []) (sym (written_both (take at us) (drop at us)) ∙ ap row_of (take-append-drop at us))

-- a tree is put after others
pub put : (us : List UnresolvedFuture) (u : UnresolvedFuture) (nodes : List Node) → row_of us ++ nodes_of (tree_of u) ≡ nodes → row_of (us ++ u ∷ []) ≡ nodes
put us u nodes same =
    written_both us (u ∷ [])
    ∙ ap (λ row. row_of us ++ row) (append-nil (nodes_of (tree_of u)))
    ∙ same

-- a handle is one node
pub one : (us : List UnresolvedFuture) (h : NotificationHandle) (n : Node) → n.kind ≡ 0 → h.0 ≡ n.number → row_of us ++ nodes_of (tree_of (Single h)) ≡ row_of us ++ n ∷ []
one us h n kind number =
    ap (λ row. row_of us ++ row) (ap nodes_of (tree_of-Single h) ∙ ap (λ m. record { kind = 0; number = m } ∷ []) number ∙ ap (λ k. record { kind = k; number = n.number } ∷ []) (sym kind))

-- one tree alone
pub alone : (u : UnresolvedFuture) (us rest : List UnresolvedFuture) (nodes : List Node) → row_of us ≡ nodes → us ≡ rest ++ u ∷ [] → rest ≡ [] → nodes_of (tree_of u) ≡ nodes
alone u us rest nodes same split none =
    sym (append-nil (nodes_of (tree_of u))) ∙ ap (λ front. row_of (front ++ u ∷ [])) (sym none) ∙ ap row_of (sym split) ∙ same

-- a row of nodes, parted at one of them
split_at : (nodes : List Node) (k : ℕ) (d : Node) → k < length nodes → take k nodes ++ get_or nodes k d ∷ drop (suc k) nodes ≡ nodes
split_at [] k d below = absurd (not-suc-le-zero below)
split_at (n ∷ ns) zero d below = refl
split_at (n ∷ ns) (suc k) d below = ap (λ row. n ∷ row) (split_at ns k d (le_of_suc-le-suc below))

stopped : (nodes : List Node) (us : List UnresolvedFuture) (k : ℕ) (d : Node) (s : Status) → k < length nodes → row_of us ≡ take k nodes → CantStand (get_or nodes k d) (length us) s → StopsAtNode nodes s
stopped nodes us k d s below same cant = record {
  front = us;
  at = get_or nodes k d;
  rest = drop (suc k) nodes;
  split = ap (λ row. row ++ get_or nodes k d ∷ drop (suc k) nodes) same ∙ split_at nodes k d below;
  cant = cant;
}

-- nodes stop being trees at the first that can't stand after those in front of it
pub stops : (nodes : List Node) (us : List UnresolvedFuture) (k : ℕ) (d : Node) (s : Status) → k < length nodes → row_of us ≡ take k nodes → CantStand (get_or nodes k d) (length us) s → FailsAsTree nodes s
stops nodes us k d status.NoMemory below same cant = tt
stops nodes us k d status.BadNumber below same cant = stopped nodes us k d status.BadNumber below same cant
stops nodes us k d status.BadTree below same cant = inl (stopped nodes us k d status.BadTree below same cant)
stops nodes us k d status.Done below same cant = absurd cant
stops nodes us k d status.NoSession below same cant = absurd cant
stops nodes us k d status.NoVm below same cant = absurd cant
stops nodes us k d status.NoRoom below same cant = absurd cant
stops nodes us k d status.Refused below same cant = absurd cant
stops nodes us k d status.BadText below same cant = absurd cant
stops nodes us k d status.NoPart below same cant = absurd cant
stops nodes us k d status.BadOutput below same cant = absurd cant
stops nodes us k d status.NotANotification below same cant = absurd cant
stops nodes us k d status.NoSuchId below same cant = absurd cant
stops nodes us k d status.SecondCompletion below same cant = absurd cant
stops nodes us k d status.WrongKind below same cant = absurd cant
stops nodes us k d status.RunIsProposed below same cant = absurd cant
stops nodes us k d status.JournalFull below same cant = absurd cant
stops nodes us k d status.BadJournal below same cant = absurd cant
stops nodes us k d status.NotAFrame below same cant = absurd cant
stops nodes us k d status.BadLine below same cant = absurd cant
stops nodes us k d status.NoResult below same cant = absurd cant
stops nodes us k d status.NotASuspension below same cant = absurd cant
stops nodes us k d status.NoJournal below same cant = absurd cant
stops nodes us k d status.NoRow below same cant = absurd cant
stops nodes us k d status.NotFrames below same cant = absurd cant
stops nodes us k d status.NoFrame below same cant = absurd cant
stops nodes us k d status.Layered below same cant = absurd cant
