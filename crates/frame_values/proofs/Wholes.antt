-- The nodes of a future that a text says are one whole future.
use Rattle.std.proofs.Common.{◌≡◌, ◌+◌, ◌++◌, ℕ, suc, Bool, true, false, List, [], ◌∷◌, ap, sym, refl, subst, ◌∙◌, arith, append_assoc}
use Rattle.std.proofs.lemmas.List.{append-nil}
use Rattle.journal_protocol.specs.FutureNode.{FutureNode}
use Rattle.journal_protocol.specs.Futures.{are_whole}
use Rattle.frame_values.specs.Futures.{SayFutures, SayParts, SaysFuture, SaysList, a_blank, a_list, a_word, future, more_futures, no_futures, no_part, one_future, some_futures}

-- after them as many are awaited as before them, without those that they are
abbrev Are : ℕ → List FutureNode → Type 0
Are count nodes = (k : ℕ) (more : List FutureNode) → are_whole (k + count) (nodes ++ more) ≡ are_whole k more

none_are : Are 0 []
none_are k more = let same : k + 0 ≡ k = omega arith in ap (λ n. are_whole n more) same

one_is : (node : FutureNode) (nested : List FutureNode) → Are node.nested nested → Are 1 (node ∷ nested)
one_is node nested are k more = let one : k + 1 ≡ suc k = omega arith in ap (λ n. are_whole n (node ∷ (nested ++ more))) one ∙ are k more

more_are : (count : ℕ) (nodes further : List FutureNode) → Are 1 nodes → Are count further → Are (count + 1) (nodes ++ further)
more_are count nodes further first others k more =
    let same : k + (count + 1) ≡ (k + count) + 1 = omega arith in
    ap (λ n. are_whole n ((nodes ++ further) ++ more)) same ∙ ap (are_whole ((k + count) + 1)) (append_assoc nodes further more) ∙ first (k + count) (further ++ more) ∙ others k more

mutual
  future_is : {text : List ℕ} {nodes : List FutureNode} → SaysFuture text nodes → Are 1 nodes
  future_is (future {node = node} {nested = nested} parts said) = one_is node nested (parts_are parts)

  parts_are : {text : List ℕ} {words : List (List ℕ)} {listed : Bool} {count : ℕ} {nodes : List FutureNode} → SayParts text words listed count nodes → Are count nodes
  parts_are no_part = none_are
  parts_are (a_blank parts) = parts_are parts
  parts_are (a_word is ends parts) = parts_are parts
  parts_are (a_list futures ends parts) = list_are futures

  list_are : {text : List ℕ} {count : ℕ} {nodes : List FutureNode} → SaysList text count nodes → Are count nodes
  list_are (no_futures blanks) = none_are
  list_are (some_futures futures) = futures_are futures

  futures_are : {text : List ℕ} {count : ℕ} {nodes : List FutureNode} → SayFutures text count nodes → Are count nodes
  futures_are (one_future fronts ends before said behind) = future_is said
  futures_are (more_futures fronts ends {count = count} {nodes = nodes} {further = further} before said behind others) = more_are count nodes further (future_is said) (futures_are others)

pub says_whole : (text : List ℕ) (nodes : List FutureNode) → SaysFuture text nodes → are_whole 1 nodes ≡ true
says_whole text nodes said = ap (are_whole 1) (sym (append-nil nodes)) ∙ future_is said 0 []
