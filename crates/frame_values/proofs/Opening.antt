-- A reader of futures goes on by a part: the rest of what is open is said by the text from there exactly if it is from here.
use Rattle.std.proofs.Common.{◌≡◌, ◌≢◌, ◌<◌, ◌≤◌, ◌+◌, ◌-◌, ◌++◌, ℕ, zero, suc, Bool, true, false, List, [], ◌∷◌, length, take, drop, get_or, set, reverse, ap, sym, refl, subst, ◌∙◌, arith, append_assoc, length-append}
use Rattle.std.specs.Prelude.{codes}
use Rattle.std.proofs.lemmas.List.{append_cancel_left}
use Rattle.journal_protocol.specs.FutureNode.{FutureNode}
use Rattle.frame_values.specs.declared.nested.Next.{Next}
use Rattle.frame_values.specs.declared.nested.Next.TheVariants.{Part, Nested, More}
use Rattle.frame_values.specs.declared.words.Within.TheVariants.{Nothing}
use Rattle.frame_values.specs.FutureWords.{after_word, ends_part, ends_word, first_word}
use Rattle.frame_values.specs.Futures.{SayWords}
use Rattle.frame_values.specs.OpenFutures.{RestOf, blank, close, word, list, empty, nested, comma, end}

-- ---- the first byte of a text

same_first : (a b : ℕ) (xs ys : List ℕ) → a ∷ xs ≡ b ∷ ys → a ≡ b
same_first a b xs ys e = ap (λ t. get_or t 0 0) e

same_rest : (a b : ℕ) (xs ys : List ℕ) → a ∷ xs ≡ b ∷ ys → xs ≡ ys
same_rest a b xs ys e = ap (drop 1) e

-- a word begins with no blank and no closing bracket
word_first : (b : ℕ) (text behind : List ℕ) → ends_word Nothing b ≡ true → text ≡ b ∷ behind → 0 < length (first_word Nothing text) → ⊥
word_first b text behind ends e some =
    let none : first_word Nothing text ≡ [] = ap (first_word Nothing) e ∙ rw ends refl in
    let long : length (first_word Nothing text) ≡ 0 = ap length none in
    absurd (omega arith)

-- ---- what comes next

at_text : {next : Next} {n : FutureNode} {ws : List (List ℕ)} {c : ℕ} {l : Bool} {t u : List ℕ} {inner : List FutureNode} {rest : List ℕ} → t ≡ u → RestOf next n ws c l t inner rest → RestOf next n ws c l u inner rest
at_text {next = next} {n = n} {ws = ws} {c = c} {l = l} {inner = inner} {rest = rest} e r = subst (λ x. RestOf next n ws c l x inner rest) e r

pub at_blank : {next : Next} {n : FutureNode} {ws : List (List ℕ)} {c : ℕ} {l : Bool} {inner : List FutureNode} {rest : List ℕ} {text : List ℕ} (behind : List ℕ) → text ≡ 32 ∷ behind → RestOf next n ws c l text inner rest → RestOf next n ws c l behind inner rest
at_blank behind e (blank {text = t} r) = at_text (same_rest 32 32 t behind e) r
at_blank behind e (close {rest = t} said count) = absurd (omega (arith, same_first 41 32 t behind e))
at_blank behind e (word {text = t} no_list some ends r) = absurd (word_first 32 t behind refl e some)
at_blank behind e (list {text = t} r) = absurd (omega (arith, ap (λ u. get_or u 0 0) e))
at_blank behind e (empty {text = t} none ends r) = absurd (omega (arith, same_first 93 32 t behind e))
at_blank behind e (nested {text = t} first after r s) = absurd (omega (arith, same_first 40 32 t behind e))
at_blank behind e (comma {text = t} r) = absurd (omega (arith, same_first 44 32 t behind e))
at_blank behind e (end {text = t} ends r) = absurd (omega (arith, same_first 93 32 t behind e))

pub at_close : {n : FutureNode} {ws : List (List ℕ)} {c : ℕ} {l : Bool} {inner : List FutureNode} {rest : List ℕ} {text : List ℕ} (behind : List ℕ) → text ≡ 41 ∷ behind → RestOf Part n ws c l text inner rest → (behind ≡ rest) × SayWords ws n
at_close behind e (blank {text = t} r) = absurd (omega (arith, same_first 32 41 t behind e))
at_close behind e (close {rest = t} said count) = (sym (same_rest 41 41 t behind e), said)
at_close behind e (word {text = t} no_list some ends r) = absurd (word_first 41 t behind refl e some)
at_close behind e (list {text = t} r) = absurd (omega (arith, ap (λ u. get_or u 0 0) e))

pub at_list : {n : FutureNode} {ws : List (List ℕ)} {c : ℕ} {l : Bool} {inner : List FutureNode} {rest : List ℕ} {text : List ℕ} (behind : List ℕ) → text ≡ codes "nested=[" ++ behind → RestOf Part n ws c l text inner rest → (l ≡ false) × RestOf Nested n ws c true behind inner rest
at_list behind e (blank {text = t} r) = absurd (omega (arith, ap (λ u. get_or u 0 0) e))
at_list behind e (close {rest = t} said count) = absurd (omega (arith, ap (λ u. get_or u 0 0) e))
at_list behind e (word {text = t} no_list some ends r) = absurd (no_list behind e)
at_list behind e (list {text = t} r) = (refl, at_text (append_cancel_left (codes "nested=[") t behind e) r)

-- a word comes next
pub at_word : {n : FutureNode} {ws : List (List ℕ)} {c : ℕ} {l : Bool} {inner : List FutureNode} {rest : List ℕ} {text : List ℕ} → ((t : List ℕ) → text ≢ 32 ∷ t) → ((t : List ℕ) → text ≢ 41 ∷ t) → ((t : List ℕ) → text ≢ codes "nested=[" ++ t) → RestOf Part n ws c l text inner rest
    → (0 < length (first_word Nothing text)) × (ends_part (after_word Nothing text) ≡ true) × RestOf Part n (ws ++ first_word Nothing text ∷ []) c l (after_word Nothing text) inner rest
at_word no_blank no_close no_list (blank {text = t} r) = absurd (no_blank t refl)
at_word no_blank no_close no_list (close {rest = t} said count) = absurd (no_close t refl)
at_word no_blank no_close no_list (word {text = t} without some ends r) = (some, ends, r)
at_word no_blank no_close no_list (list {text = t} r) = absurd (no_list t refl)

pub at_empty : {n : FutureNode} {ws : List (List ℕ)} {c : ℕ} {l : Bool} {inner : List FutureNode} {rest : List ℕ} {text : List ℕ} (behind : List ℕ) → text ≡ 93 ∷ behind → RestOf Nested n ws c l text inner rest → (ends_part behind ≡ true) × RestOf Part n ws c l behind inner rest
at_empty behind e (blank {text = t} r) = absurd (omega (arith, same_first 32 93 t behind e))
at_empty behind e (empty {text = t} none ends r) = let same = same_rest 93 93 t behind e in (subst (λ u. ends_part u ≡ true) same ends, at_text same r)
at_empty behind e (nested {text = t} first after r s) = absurd (omega (arith, same_first 40 93 t behind e))

pub at_nested : {n : FutureNode} {ws : List (List ℕ)} {c : ℕ} {l : Bool} {inner : List FutureNode} {rest : List ℕ} {text : List ℕ} (behind : List ℕ) → text ≡ 40 ∷ behind → RestOf Nested n ws c l text inner rest
    → (first : FutureNode) × (own others : List FutureNode) × (after : List ℕ) × (inner ≡ first ∷ (own ++ others)) × RestOf Part first [] 0 false behind own after × RestOf More n ws (c + 1) l after others rest
at_nested behind e (blank {text = t} r) = absurd (omega (arith, same_first 32 40 t behind e))
at_nested behind e (empty {text = t} none ends r) = absurd (omega (arith, same_first 93 40 t behind e))
at_nested behind e (nested {text = t} {inner = own} {others = others} first after r s) =
    (first, own, others, after, refl, at_text (same_rest 40 40 t behind e) r, s)

-- neither comes
pub no_nested : {n : FutureNode} {ws : List (List ℕ)} {c : ℕ} {l : Bool} {inner : List FutureNode} {rest : List ℕ} {text : List ℕ} → ((t : List ℕ) → text ≢ 32 ∷ t) → ((t : List ℕ) → text ≢ 40 ∷ t) → (c ≡ 0 → (t : List ℕ) → text ≢ 93 ∷ t) → RestOf Nested n ws c l text inner rest → ⊥
no_nested no_blank no_open no_end (blank {text = t} r) = no_blank t refl
no_nested no_blank no_open no_end (empty {text = t} none ends r) = no_end none t refl
no_nested no_blank no_open no_end (nested {text = t} first after r s) = no_open t refl

pub at_comma : {n : FutureNode} {ws : List (List ℕ)} {c : ℕ} {l : Bool} {inner : List FutureNode} {rest : List ℕ} {text : List ℕ} (behind : List ℕ) → text ≡ 44 ∷ behind → RestOf More n ws c l text inner rest → RestOf Nested n ws c l behind inner rest
at_comma behind e (blank {text = t} r) = absurd (omega (arith, same_first 32 44 t behind e))
at_comma behind e (comma {text = t} r) = at_text (same_rest 44 44 t behind e) r
at_comma behind e (end {text = t} ends r) = absurd (omega (arith, same_first 93 44 t behind e))

pub at_end : {n : FutureNode} {ws : List (List ℕ)} {c : ℕ} {l : Bool} {inner : List FutureNode} {rest : List ℕ} {text : List ℕ} (behind : List ℕ) → text ≡ 93 ∷ behind → RestOf More n ws c l text inner rest → (ends_part behind ≡ true) × RestOf Part n ws c l behind inner rest
at_end behind e (blank {text = t} r) = absurd (omega (arith, same_first 32 93 t behind e))
at_end behind e (comma {text = t} r) = absurd (omega (arith, same_first 44 93 t behind e))
at_end behind e (end {text = t} ends r) = let same = same_rest 93 93 t behind e in (subst (λ u. ends_part u ≡ true) same ends, at_text same r)

pub no_more : {n : FutureNode} {ws : List (List ℕ)} {c : ℕ} {l : Bool} {inner : List FutureNode} {rest : List ℕ} {text : List ℕ} → ((t : List ℕ) → text ≢ 32 ∷ t) → ((t : List ℕ) → text ≢ 44 ∷ t) → ((t : List ℕ) → text ≢ 93 ∷ t) → RestOf More n ws c l text inner rest → ⊥
no_more no_blank no_comma no_end (blank {text = t} r) = no_blank t refl
no_more no_blank no_comma no_end (comma {text = t} r) = no_comma t refl
no_more no_blank no_comma no_end (end {text = t} ends r) = no_end t refl
