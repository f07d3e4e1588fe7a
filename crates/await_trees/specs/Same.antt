-- Trees that are the same but for the order and the repetition of children.
use Rattle.journal_attempt.specs.declared.future.FutureKind.{FutureKind}
use Rattle.await_trees.specs.Tree.{TreeOver, ForestOver, leaf, node, none, more}

mutual
  -- at each node the kind is the same, and each child of the one is the same as some child of the
  -- other
  pub data Same {L : Type 0} : TreeOver L → TreeOver L → Type 0 where
    same_leaf : {l : L} → Same (leaf l) (leaf l)
    same_node : {k : FutureKind} {ts us : ForestOver L} → EachIn ts us → EachIn us ts
        → Same (node k ts) (node k us)

  pub data EachIn {L : Type 0} : ForestOver L → ForestOver L → Type 0 where
    no_child : {us : ForestOver L} → EachIn none us
    one_child : {t : TreeOver L} {ts us : ForestOver L} → SomeIn t us → EachIn ts us
        → EachIn (more t ts) us

  pub data SomeIn {L : Type 0} : TreeOver L → ForestOver L → Type 0 where
    here : {t u : TreeOver L} {us : ForestOver L} → Same t u → SomeIn t (more u us)
    later : {t u : TreeOver L} {us : ForestOver L} → SomeIn t us → SomeIn t (more u us)
