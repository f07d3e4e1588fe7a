-- A tree is read from its text: what each piece that is read adds to what was read before.
use Rattle.std.proofs.Common.{◌≡◌, ℕ, List, [], ◌∷◌, ◌++◌, Some, None, refl, sym, ap, ◌∙◌, subst, append_assoc}
use Rattle.std.proofs.lemmas.List.{append-nil}
use Rattle.journal_protocol.specs.FutureKind.{FutureKind}
use Rattle.journal_protocol.specs.FutureKind.TheVariants.{FirstCompleted as OfFirst, AllCompleted as OfAll, FirstSucceededOrAllFailed as OfAny, AllSucceededOrFirstFailed as OfEvery, Unknown as OfUnknown}
use Rattle.await_trees.specs.Tree.{node, tree_of, forest_of}
use Rattle.await_trees.specs.Copies.{future_node}
use Rattle.await_trees.proofs.TreeOf.{tree_of-Single, tree_of-FirstCompleted, tree_of-AllCompleted, tree_of-FirstSucceededOrAllFailed, tree_of-AllSucceededOrFirstFailed, tree_of-Unknown}
use Rattle.await_trees.specs.declared.handle.NotificationHandle.{NotificationHandle}
use Rattle.await_trees.specs.declared.tree.UnresolvedFuture.{UnresolvedFuture}
use Rattle.await_trees.specs.declared.tree.UnresolvedFuture.TheVariants.{Single}
use Rattle.line_parts.specs.Trees.{SpellsTree, SpellsForest, kind_name}
use Rattle.line_parts.specs.OpenNodes.{AreFollowed, Begins, Begin, StandsAt}
use Rattle.lines.specs.Words.{IsNumberOf}
use Rattle.line_parts.specs.declared.trees.OpenNode.{OpenNode}

-- the tree of a node over children
tree_of_node : (kind : FutureKind) (futures : List UnresolvedFuture) → tree_of (future_node kind futures) ≡ node kind (forest_of futures)
tree_of_node OfFirst futures = tree_of-FirstCompleted futures
tree_of_node OfAll futures = tree_of-AllCompleted futures
tree_of_node OfAny futures = tree_of-FirstSucceededOrAllFailed futures
tree_of_node OfEvery futures = tree_of-AllSucceededOrFirstFailed futures
tree_of_node OfUnknown futures = tree_of-Unknown futures

spells_node : (text inside : List ℕ) (kind : FutureKind) (futures : List UnresolvedFuture) → text ≡ kind_name kind ++ 40 ∷ (inside ++ 41 ∷ []) → SpellsForest inside (forest_of futures) → SpellsTree text (tree_of (future_node kind futures))
spells_node text inside kind futures e s = subst (λ t. SpellsTree text t) (sym (tree_of_node kind futures)) (inside, e, s)

followed_more : (xs ys : List ℕ) (us vs : List UnresolvedFuture) → AreFollowed xs us → AreFollowed ys vs → AreFollowed (xs ++ ys) (us ++ vs)
followed_more xs ys [] vs e f = subst (λ z. AreFollowed (z ++ ys) vs) (sym e) f
followed_more xs ys (u ∷ us) vs h f =
    let (own, behind, e, s, r) = h in
    (own, behind ++ ys, ap (λ z. z ++ ys) e ∙ append_assoc own (44 ∷ behind) ys, s, followed_more behind ys us vs r f)

begin_more : (xs ys : List ℕ) (ms ns : List OpenNode) → Begin xs ms → Begin ys ns → Begin (xs ++ ys) (ms ++ ns)
begin_more xs ys [] ns e f = subst (λ z. Begin (z ++ ys) ns) (sym e) f
begin_more xs ys (m ∷ ms) ns h f =
    let (own, behind, e, b, r) = h in
    (own, behind ++ ys, ap (λ z. z ++ ys) e ∙ append_assoc own behind ys, b, begin_more behind ys ms ns r f)

begin_one_more : (xs ys : List ℕ) (ms : List OpenNode) (m : OpenNode) → Begin xs ms → Begins ys m → Begin (xs ++ ys) (ms ++ m ∷ [])
begin_one_more xs ys ms m h b = begin_more xs ys ms (m ∷ []) h (ys, [], sym (append-nil ys), b, refl)

-- the innermost open node, and those around it
begin_last : (text : List ℕ) (others : List OpenNode) (m : OpenNode) → Begin text (others ++ m ∷ []) → (xs ys : List ℕ) × (text ≡ xs ++ ys) × Begin xs others × Begins ys m
begin_last text [] m h =
    let (own, behind, e, b, r) = h in
    ([], own, e ∙ ap (λ z. own ++ z) r ∙ append-nil own, refl, b)
begin_last text (n ∷ others) m h =
    let (own, behind, e, b, r) = h in
    let (xs, ys, f, o, l) = begin_last behind others m r in
    (own ++ xs, ys, e ∙ ap (λ z. own ++ z) f ∙ sym (append_assoc own xs ys), (own, xs, refl, b, o), l)

put_first : (own rest : List ℕ) (u : UnresolvedFuture) (us : List UnresolvedFuture) (t : UnresolvedFuture) → SpellsTree own (tree_of u) → SpellsForest rest (forest_of (us ++ t ∷ [])) → SpellsForest (own ++ 44 ∷ rest) (forest_of ((u ∷ us) ++ t ∷ []))
put_first own rest u [] t s r = (own, rest, refl, s, r)
put_first own rest u (v ∷ us) t s r = (own, rest, refl, s, r)

-- trees with a comma after each, and one more
spells_all : (inside own : List ℕ) (us : List UnresolvedFuture) (t : UnresolvedFuture) → AreFollowed inside us → SpellsTree own (tree_of t) → SpellsForest (inside ++ own) (forest_of (us ++ t ∷ []))
spells_all inside own [] t e s = subst (λ z. SpellsForest (z ++ own) (forest_of (t ∷ []))) (sym e) s
spells_all inside own (u ∷ us) t h s =
    let (first, behind, e, o, r) = h in
    subst (λ z. SpellsForest z (forest_of ((u ∷ us) ++ t ∷ []))) (sym (ap (λ z. z ++ own) e ∙ append_assoc first (44 ∷ behind) own))
    (put_first first (behind ++ own) u us t o (spells_all behind own us t r s))

pub reads_handle : (text word behind rest : List ℕ) (nodes : List OpenNode) (handle : NotificationHandle) → rest ≡ word ++ behind → IsNumberOf 32 word handle.0
    → StandsAt text nodes None rest → StandsAt text nodes (Some (Single handle)) behind
reads_handle text word behind rest nodes handle cut number stands =
    let (before, own, e, b, nil) = stands in
    (before, word, e ∙ ap (λ z. before ++ (z ++ rest)) nil ∙ ap (λ z. before ++ z) cut, b, subst (λ t. SpellsTree word t) (sym (tree_of-Single handle)) number)

pub reads_empty : (text word behind rest : List ℕ) (nodes : List OpenNode) (kind : FutureKind) (future : UnresolvedFuture) → rest ≡ word ++ 40 ∷ 41 ∷ behind → word ≡ kind_name kind → future ≡ future_node kind []
    → StandsAt text nodes None rest → StandsAt text nodes (Some future) behind
reads_empty text word behind rest nodes kind future cut name made stands =
    let (before, own, e, b, nil) = stands in
    let spelled : SpellsTree (word ++ 40 ∷ 41 ∷ []) (tree_of future) =
    subst (λ f. SpellsTree (word ++ 40 ∷ 41 ∷ []) (tree_of f)) (sym made) (spells_node (word ++ 40 ∷ 41 ∷ []) [] kind [] (ap (λ z. z ++ 40 ∷ 41 ∷ []) name) refl) in
    (before, word ++ 40 ∷ 41 ∷ [], e ∙ ap (λ z. before ++ (z ++ rest)) nil ∙ ap (λ z. before ++ z) (cut ∙ sym (append_assoc word (40 ∷ 41 ∷ []) behind)), b, spelled)

pub reads_opening : (text word behind rest : List ℕ) (nodes longer : List OpenNode) (kind : FutureKind) (children : List UnresolvedFuture) → rest ≡ word ++ 40 ∷ behind → word ≡ kind_name kind → children ≡ []
    → longer ≡ nodes ++ record { kind = kind; children = children } ∷ [] → StandsAt text nodes None rest → StandsAt text longer None behind
reads_opening text word behind rest nodes longer kind children cut name empty more_is stands =
    let (before, own, e, b, nil) = stands in
    let m : OpenNode = record { kind = kind; children = children } in
    let begun : Begins (word ++ 40 ∷ []) m = ([], ap (λ z. z ++ 40 ∷ []) name, subst (λ us. AreFollowed [] us) (sym empty) refl) in (
      before ++ (word ++ 40 ∷ []),
      [],
      e ∙ ap (λ z. before ++ (z ++ rest)) nil ∙ ap (λ z. before ++ z) (cut ∙ sym (append_assoc word (40 ∷ []) behind)) ∙ sym (append_assoc before (word ++ 40 ∷ []) behind),
      subst (λ ms. Begin (before ++ (word ++ 40 ∷ [])) ms) (sym more_is) (begin_one_more before (word ++ 40 ∷ []) nodes m b begun),
      refl,
    )

comma_text : (xs name inside own behind : List ℕ) → (xs ++ (name ++ 40 ∷ inside)) ++ (own ++ 44 ∷ behind) ≡ (xs ++ (name ++ 40 ∷ (inside ++ (own ++ 44 ∷ [])))) ++ behind
comma_text xs name inside own behind = simp append_assoc refl

closing_text : (xs name inside own behind : List ℕ) → (xs ++ (name ++ 40 ∷ inside)) ++ (own ++ 41 ∷ behind) ≡ xs ++ ((name ++ 40 ∷ ((inside ++ own) ++ 41 ∷ [])) ++ behind)
closing_text xs name inside own behind = simp append_assoc refl

pub reads_comma : (text behind rest : List ℕ) (nodes others longer : List OpenNode) (kind : FutureKind) (children grown : List UnresolvedFuture) (tree : UnresolvedFuture) → nodes ≡ others ++ record { kind = kind; children = children } ∷ [] → rest ≡ 44 ∷ behind
    → grown ≡ children ++ tree ∷ [] → longer ≡ others ++ record { kind = kind; children = grown } ∷ [] → StandsAt text nodes (Some tree) rest → StandsAt text longer None behind
reads_comma text behind rest nodes others longer kind children grown tree popped cut pushed more_is stands =
    let (before, own, e, b, s) = stands in
    let m : OpenNode = record { kind = kind; children = children } in
    let n : OpenNode = record { kind = kind; children = grown } in
    let (xs, ys, f, o, l) = begin_last before others m (subst (λ ms. Begin before ms) popped b) in
    let (inside, g, followed) = l in
    let last : AreFollowed (own ++ 44 ∷ []) (tree ∷ []) = (own, [], refl, s, refl) in
    let begun : Begins (kind_name kind ++ 40 ∷ (inside ++ (own ++ 44 ∷ []))) n =
    (inside ++ (own ++ 44 ∷ []), refl, subst (λ us. AreFollowed (inside ++ (own ++ 44 ∷ [])) us) (sym pushed) (followed_more inside (own ++ 44 ∷ []) children (tree ∷ []) followed last)) in (
      xs ++ (kind_name kind ++ 40 ∷ (inside ++ (own ++ 44 ∷ []))),
      [],
      e ∙ ap (λ z. z ++ (own ++ rest)) (f ∙ ap (λ z. xs ++ z) g) ∙ ap (λ z. (xs ++ (kind_name kind ++ 40 ∷ inside)) ++ (own ++ z)) cut ∙ comma_text xs (kind_name kind) inside own behind,
      subst (λ ms. Begin (xs ++ (kind_name kind ++ 40 ∷ (inside ++ (own ++ 44 ∷ [])))) ms) (sym more_is) (begin_one_more xs (kind_name kind ++ 40 ∷ (inside ++ (own ++ 44 ∷ []))) others n o begun),
      refl,
    )

pub reads_closing : (text behind rest : List ℕ) (nodes others : List OpenNode) (kind : FutureKind) (children grown : List UnresolvedFuture) (tree future : UnresolvedFuture) → nodes ≡ others ++ record { kind = kind; children = children } ∷ [] → rest ≡ 41 ∷ behind
    → grown ≡ children ++ tree ∷ [] → future ≡ future_node kind grown → StandsAt text nodes (Some tree) rest → StandsAt text others (Some future) behind
reads_closing text behind rest nodes others kind children grown tree future popped cut pushed made stands =
    let (before, own, e, b, s) = stands in
    let m : OpenNode = record { kind = kind; children = children } in
    let (xs, ys, f, o, l) = begin_last before others m (subst (λ ms. Begin before ms) popped b) in
    let (inside, g, followed) = l in
    let whole : List ℕ = kind_name kind ++ 40 ∷ ((inside ++ own) ++ 41 ∷ []) in
    let spelled : SpellsTree whole (tree_of (future_node kind (children ++ tree ∷ []))) =
    spells_node whole (inside ++ own) kind (children ++ tree ∷ []) refl (spells_all inside own children tree followed s) in (
      xs,
      whole,
      e ∙ ap (λ z. z ++ (own ++ rest)) (f ∙ ap (λ z. xs ++ z) g) ∙ ap (λ z. (xs ++ (kind_name kind ++ 40 ∷ inside)) ++ (own ++ z)) cut ∙ closing_text xs (kind_name kind) inside own behind,
      o,
      subst (λ u. SpellsTree whole (tree_of u)) (sym (made ∙ ap (λ us. future_node kind us) pushed)) spelled,
    )

pub stands_first : (text : List ℕ) (nodes : List OpenNode) → nodes ≡ [] → StandsAt text nodes None text
stands_first text nodes e = ([], [], refl, subst (λ ms. Begin [] ms) (sym e) refl, refl)

pub stands_last : (text rest : List ℕ) (nodes : List OpenNode) (future : UnresolvedFuture) → rest ≡ [] → nodes ≡ [] → StandsAt text nodes (Some future) rest → SpellsTree text (tree_of future)
stands_last text rest nodes future over nil stands =
    let (before, own, e, b, s) = stands in
    let nothing : before ≡ [] = subst (λ ms. Begin before ms) nil b in
    let same : text ≡ own = e ∙ ap (λ z. z ++ (own ++ rest)) nothing ∙ ap (λ z. own ++ z) over ∙ append-nil own in
    subst (λ z. SpellsTree z (tree_of future)) (sym same) s
