-- The notifications of a stream, frame by frame.
use Rattle.std.proofs.Common.{◌≡◌, ⊎_elim, ℕ, ◌<◌, ◌==◌, Bool, true, List, [], ◌∷◌, ◌++◌, length, refl, sym, ap, ◌∙◌, append_assoc, append-nil, Ok, Err, Result, Option, Some, None, arith}
use Rattle.std.proofs.lemmas.Bool.Decides.{nat_tests}
use Rattle.await_arrivals.specs.Came.{Came}
use Rattle.journal_protocol.specs.FutureNode.{FutureNode}
use Rattle.journal_protocol.specs.Notification.{Notification}
use Rattle.journal_protocol.specs.RawMessage.{RawMessage}
use Rattle.journal_protocol.specs.Frames.{Whole, Partial, Malformed, next_of}
use Rattle.journal_entries.specs.Frames.{Tail, Rest, Garbage, frames_from, frames_of}
use Rattle.journal_entries.proofs.Cuts.{frames_of-next}
use Rattle.await_trees.specs.Outcomes.{awake}
use Rattle.await_trees.specs.Wires.{tree_of_nodes}
use Rattle.journal_entries.specs.JournalFrames.{notified_by}
use Rattle.journal_entries.specs.Entries.{note_of}
use Rattle.c_values.specs.Waking.{is_awake_by, only_came, outcome_in}
use Rattle.c_values.specs.declared.status.Status.{Status}
use Rattle.c_values.specs.declared.status.Status.TheVariants as status
use Rattle.c_values.specs.Reading.{if_found, awake_by, came_by, notes_among, notes_at, notes_before}
use Rattle.c_values.specs.Noting.{AllRead, HasNoMore, NotedUpTo}

-- nothing was read yet
pub none_read : (stream rest : List ℕ) (came : Came) → came ≡ only_came [] → rest ≡ stream → NotedUpTo stream came rest
none_read stream rest came none same = record { seen = []; noted = none; frames = ap frames_of (sym same) }

-- a notification before those of a row, and before one more
noted_then : (n : Option Notification) (xs ys : List Notification) → notified_by n (xs ++ ys) ≡ notified_by n xs ++ ys
noted_then None xs ys = refl
noted_then (Some n) xs ys = refl

noted_append : (xs : List RawMessage) (y : RawMessage) → notes_among (xs ++ y ∷ []) ≡ notes_among xs ++ notes_among (y ∷ [])
noted_append [] y = refl
noted_append (x ∷ xs) y = ap (notified_by (note_of x)) (noted_append xs y) ∙ noted_then (note_of x) (notes_among xs) (notes_among (y ∷ []))

next_frames : (a rest : List ℕ) (raw : RawMessage) → next_of a ≡ Whole raw rest → frames_of a ≡ (raw ∷ (frames_of rest).0, (frames_of rest).1)
next_frames a rest raw e = frames_of-next a ∙ ap (λ o. frames_from o (λ r. frames_of r) a) e

-- one frame more was read, and noted
pub one_read : (stream rest behind : List ℕ) (came next : Came) (raw : RawMessage) → NotedUpTo stream came rest → next_of rest ≡ Whole raw behind
    → next ≡ record { queued = came.queued ++ notes_among (raw ∷ []); delivered = came.delivered } → NotedUpTo stream next behind
one_read stream rest behind came next raw r whole is = record {
  seen = r.seen ++ raw ∷ [];
  noted = is ∙ ap (λ (c : Came). record { queued = c.queued ++ notes_among (raw ∷ []); delivered = c.delivered }) r.noted ∙ ap only_came (sym (noted_append r.seen raw));
  frames =
      r.frames ∙ ap (λ (p : List RawMessage × Tail). (r.seen ++ p.0, p.1)) (next_frames rest behind raw whole)
      ∙ ap (λ l. (l, (frames_of behind).1)) (sym (append_assoc r.seen (raw ∷ []) (frames_of behind).0));
}

-- all was read, and nothing is left
pub all_read : (stream rest : List ℕ) (came : Came) → NotedUpTo stream came rest → HasNoMore rest → AllRead stream came rest
all_read stream rest came r none = record { read = r; ended = none }

no_frames : (a : List ℕ) → next_of a ≡ Partial → frames_of a ≡ ([], Rest a)
no_frames a e = frames_of-next a ∙ ap (λ o. frames_from o (λ r. frames_of r) a) e

no_type : (a : List ℕ) → next_of a ≡ Malformed → frames_of a ≡ ([], Garbage)
no_type a e = frames_of-next a ∙ ap (λ o. frames_from o (λ r. frames_of r) a) e

frames_none : frames_of [] ≡ ([], Rest [])
unfolding frames_of
frames_none = refl

-- a number that passes the test for 0
pub zero_of : (n : ℕ) → (n == 0) ≡ true → n ≡ 0
zero_of n e = grind (arith, nat_tests)

no_bytes : (a : List ℕ) → length a ≡ 0 → a ≡ []
no_bytes [] h = refl
no_bytes (x ∷ xs) h = absurd (omega (arith, h))

before_left : (seen : List RawMessage) (rest : List ℕ) → 0 < length rest → notes_before (seen, Rest rest) ≡ Err status.NotFrames
before_left seen [] some = absurd (omega (arith, some))
before_left seen (b ∷ rest) some = refl

left : (stream rest : List ℕ) (came : Came) (r : NotedUpTo stream came rest) (tail : Tail) → frames_of rest ≡ ([], tail) → notes_at stream ≡ notes_before (r.seen, tail)
left stream rest came r tail e = ap notes_before (r.frames ∙ ap (λ (p : List RawMessage × Tail). (r.seen ++ p.0, p.1)) e ∙ ap (λ l. (l, tail)) (append-nil r.seen))

-- the notifications of whole frames came
pub whole_read : (stream rest : List ℕ) (came : Came) → AllRead stream came rest → length rest ≡ 0 → came_by (notes_at stream) ≡ Ok came
whole_read stream rest came r none =
    ap came_by (left stream rest came r.read (Rest []) (ap frames_of (no_bytes rest none) ∙ frames_none)) ∙ ap (λ (c : Came). Ok c) (sym r.read.noted)

-- something is left that is no whole frame
pub rest_left : (stream rest : List ℕ) (came : Came) → AllRead stream came rest → 0 < length rest → came_by (notes_at stream) ≡ Err status.NotFrames
rest_left stream rest came r some =
    ⊎_elim
    (λ (e : next_of rest ≡ Partial). ap came_by (left stream rest came r.read (Rest rest) (no_frames rest e) ∙ before_left r.read.seen rest some))
    (λ (e : next_of rest ≡ Malformed). ap came_by (left stream rest came r.read Garbage (no_type rest e)))
    r.ended

same_came : (a b : Came) (x : Result Came Status) → x ≡ Ok a → x ≡ Ok b → b ≡ a
same_came a b x e f = cc

same_why : (a b : Status) (x : Result Came Status) → x ≡ Err a → x ≡ Err b → b ≡ a
same_why a b x e f = cc

by_notes : (nodes : List FutureNode) (came : Came) (notes : Result (List Notification) Status) → Ok came ≡ came_by notes
    → if_found (λ notes. Ok (is_awake_by nodes notes)) notes ≡ Ok (awake (outcome_in came) (tree_of_nodes nodes))
by_notes nodes came (Err why) e = absurd (cc)
by_notes nodes came (Ok notes) e = ap (λ (b : Bool). Ok b) (ap (λ (c : Came). awake (outcome_in c) (tree_of_nodes nodes)) (same_came came (only_came notes) (Ok came) refl e))

by_none : (nodes : List FutureNode) (why : Status) (notes : Result (List Notification) Status) → Err why ≡ came_by notes
    → if_found (λ notes. Ok (is_awake_by nodes notes)) notes ≡ Err why
by_none nodes why (Err other) e = ap (λ (s : Status). Err s) (same_why why other (Err why) refl e)
by_none nodes why (Ok notes) e = absurd (cc)

-- a future by the notifications that came, and without any
pub awake_if_read : (nodes : List FutureNode) (stream : List ℕ) (came : Came) → Ok came ≡ came_by (notes_at stream) → awake_by nodes stream ≡ Ok (awake (outcome_in came) (tree_of_nodes nodes))
awake_if_read nodes stream came e = by_notes nodes came (notes_at stream) e

pub unread_awake : (nodes : List FutureNode) (stream : List ℕ) (why : Status) → Err why ≡ came_by (notes_at stream) → awake_by nodes stream ≡ Err why
unread_awake nodes stream why e = by_none nodes why (notes_at stream) e
