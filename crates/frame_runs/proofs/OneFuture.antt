-- A text says one future at most.
use Rattle.std.proofs.Common.{◌≡◌, ◌<◌, ◌++◌, ℕ, Bool, true, List, [], ◌∷◌, drop, get_or, length, ap, sym, refl, subst, ◌∙◌, arith}
use Rattle.std.specs.Borrow.{Bor}
use Rattle.lines.specs.Fields.{texts_named}
use Rattle.lines.proofs.Once.{Same}
use Rattle.lines.specs.Pieces.{piece_texts}
use Rattle.journal_protocol.specs.FutureNode.{FutureNode}
use Rattle.frame_values.specs.FutureWords.{ends_word, first_word}
use Rattle.frame_values.specs.Futures.{SayWords, SaysFuture, future_notation, node_fields}
use Rattle.frame_values.specs.OpenFutures.{RestOf, blank, close, comma, empty, end, list, nested, word}
use Rattle.frame_values.proofs.Opening.{at_blank, at_comma, at_empty, at_end, at_list, at_nested, at_word}
use Rattle.frame_values.proofs.Parting.{IsRead, says_read}
use Rattle.frame_values.proofs.Refusing.{same_fields}
use Rattle.frame_runs.proofs.Closed.{type_taken}
use Rattle.frame_runs.proofs.FutureParts.{node_row}
use Rattle.frame_runs.proofs.Once.{SaysOnce, SaysSomething}

-- ---- the node of a future

-- a node, by its fields and the number of those that nest in it
abbrev node_of : (node_fields).Parts × ℕ → FutureNode
node_of p = record { kind = p.0.0; waiting_completions = p.0.1.0; waiting_signals = p.0.1.1.0; waiting_named_signals = p.0.1.1.1.0; nested = p.1 }

same_texts : (ws vs : List (Bor (List ℕ))) → piece_texts ws ≡ piece_texts vs → Same ws vs
same_texts [] [] e = tt
same_texts [] (v ∷ vs) e = absurd (omega (arith, ap length e))
same_texts (w ∷ ws) [] e = absurd (omega (arith, ap length e))
same_texts (w ∷ ws) (v ∷ vs) e = (ap (λ ts. get_or ts 0 []) e, same_texts ws vs (ap (drop 1) e))

node_once : (words : List (List ℕ)) (n m : FutureNode) → SayWords words n → SayWords words m → n.nested ≡ m.nested → n ≡ m
node_once words n m (ws, is, says) (vs, also, tells) count =
    let own = same_fields node_fields ws vs n (same_texts ws vs (is ∙ sym also)) says in
    let parts : node_fields.parts n ≡ node_fields.parts m = (node_row).once (λ name. texts_named name vs) (node_fields.parts n) (node_fields.parts m) own.1 tells.1 in
    ap (λ p. node_of (p, n.nested)) parts ∙ ap (λ k. node_of (node_fields.parts m, k)) count

-- ---- from left to right

-- `frame_lines` has these two types, and names them for itself alone
abbrev type_first : {A : Type 0} {B : Type 1} → (A → B) → Type 0
type_first {A = A} taking = A

abbrev Next : Type 0
Next = type_first RestOf

abbrev Within : Type 0
Within = type_taken ends_word

-- the bracket that closes a future comes next
record Closes (n : FutureNode) (words : List (List ℕ)) (count : ℕ) (behind : List ℕ) (inner : List FutureNode) (rest : List ℕ) : Type 0 where
  over : behind ≡ rest
  said : SayWords words n
  counted : n.nested ≡ count
  no_more : inner ≡ []

no_word : (w : Within) (b : ℕ) (text behind : List ℕ) → ends_word w b ≡ true → text ≡ b ∷ behind → 0 < length (first_word w text) → ⊥
no_word w b text behind ends e some =
    let nothing : first_word w text ≡ [] = ap (first_word w) e ∙ rw ends refl in
    let none : length (first_word w text) ≡ 0 = ap length nothing in
    absurd (omega arith)

at_text : {next : Next} {n : FutureNode} {words : List (List ℕ)} {count : ℕ} {listed : Bool} {text other : List ℕ} {inner : List FutureNode} {rest : List ℕ} → text ≡ other → RestOf next n words count listed text inner rest → RestOf next n words count listed other inner rest
at_text {next = next} {n = n} {words = words} {count = count} {listed = listed} {inner = inner} {rest = rest} e r = subst (λ t. RestOf next n words count listed t inner rest) e r

closes : {next : Next} {n : FutureNode} {words : List (List ℕ)} {count : ℕ} {listed : Bool} {text : List ℕ} {inner : List FutureNode} {rest : List ℕ} (behind : List ℕ) → text ≡ 41 ∷ behind → RestOf next n words count listed text inner rest → Closes n words count behind inner rest
closes behind e (blank {text = text} r) = absurd (omega (arith, ap (λ t. get_or t 0 0) e))
closes behind e (close {rest = text} said counted) = record { over = sym (ap (drop 1) e); said = said; counted = counted; no_more = refl }
closes behind e (word {text = text} no_list some ends r) = absurd (no_word _ 41 text behind refl e some)
closes behind e (list {text = text} r) = absurd (omega (arith, ap (λ t. get_or t 0 0) e))
closes behind e (empty {text = text} none ends r) = absurd (omega (arith, ap (λ t. get_or t 0 0) e))
closes behind e (nested {text = text} first after r more) = absurd (omega (arith, ap (λ t. get_or t 0 0) e))
closes behind e (comma {text = text} r) = absurd (omega (arith, ap (λ t. get_or t 0 0) e))
closes behind e (end {text = text} ends r) = absurd (omega (arith, ap (λ t. get_or t 0 0) e))

-- what was read is the same
record Agree (n m : FutureNode) (inner others : List FutureNode) (rest after : List ℕ) : Type 0 where
  node : n ≡ m
  nodes : inner ≡ others
  behind : rest ≡ after

read_once : {next : Next} {n : FutureNode} {words : List (List ℕ)} {count : ℕ} {listed : Bool} {text : List ℕ} {inner : List FutureNode} {rest : List ℕ} → RestOf next n words count listed text inner rest
    → (m : FutureNode) (others : List FutureNode) (after : List ℕ) → RestOf next m words count listed text others after → Agree n m inner others rest after
read_once (blank {text = text} r) m others after s = read_once r m others after (at_blank text refl s)
read_once {n = n} (close {words = words} {rest = rest} said counted) m others after s =
    let also = closes rest refl s in
    record { node = node_once words n m said also.said (counted ∙ sym also.counted); nodes = sym also.no_more; behind = also.over }
read_once (word {text = text} no_list some ends r) m others after s =
    read_once r m others after (at_word (λ t e. no_word _ 32 text t refl e some) (λ t e. no_word _ 41 text t refl e some) (λ t e. no_list t e) s).2
read_once (list {text = text} r) m others after s = read_once r m others after (at_list text refl s).1
read_once (empty {text = text} none ends r) m others after s = read_once r m others after (at_empty text refl s).1
read_once {n = n} {words = words} {count = count} {listed = listed} (nested {text = text} {inner = inner} {others = later} {rest = rest} first behind r more) m others after s =
    let (also, own, further, next, is, q, last) = at_nested text refl s in
    let one = read_once r also own next q in
    let on = read_once more m further after (at_text (sym one.behind) last) in
    record {
      node = on.node;
      nodes = ap (λ n. n ∷ (inner ++ later)) one.node ∙ ap (λ ns. also ∷ (ns ++ later)) one.nodes ∙ ap (λ ns. also ∷ (own ++ ns)) on.nodes ∙ sym is;
      behind = on.behind;
    }
read_once (comma {text = text} r) m others after s = read_once r m others after (at_comma text refl s)
read_once (end {text = text} ends r) m others after s = read_once r m others after (at_end text refl s).1

pub future_once : SaysOnce SaysFuture
future_once text a b p q =
    let x : IsRead text a = says_read text a p in
    let y : IsRead text b = says_read text b q in
    let inside : x.2 ≡ y.2 = ap (drop 1) (sym x.3 ∙ y.3) in
    let same = read_once x.5 y.0 y.1 [] (at_text (sym inside) y.5) in
    x.4 ∙ ap (λ n. n ∷ x.1) same.node ∙ ap (λ ns. y.0 ∷ ns) same.nodes ∙ sym y.4

pub future_something : SaysSomething future_notation
future_something nodes says = let read : IsRead [] nodes = says_read [] nodes says in absurd (omega (arith, ap length read.3))
