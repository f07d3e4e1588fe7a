-- What waits for an invocation is all that its stored commands ever waited for, except what has come.
use Rattle.std.proofs.Common.{◌≡◌, ◌⊎◌, inl, inr, ℕ, ◌<◌, slice_index_or, Bool, true, false, List, [], ◌∷◌, ◌++◌, length, Option, Some, None, refl, sym, ap, ◌∙◌, subst, append-nil, arith}
use Rattle.std.specs.Prelude.{◌==◌, ◌||◌, if◌then◌else◌, flat_map, nat_le}
use Rattle.std.proofs.lemmas.Bool.Decides.{nat_tests}
use Rattle.std.specs.List.{remove}
use Rattle.std.proofs.lemmas.List.{flat_map_more}
use Rattle.journal_protocol.specs.Message.{Message}
use Rattle.journal_protocol.specs.Notification.{Notification}
use Rattle.journal_protocol.specs.NotificationId.TheVariants.{CompletionId}
use Rattle.journal_protocol.specs.NotificationResult.{NotificationResult}
use Rattle.journal_protocol.specs.NotificationResult.TheVariants as result
use Rattle.journal_protocol.specs.Signal.{Signal}
use Rattle.journal_entries.specs.Arrivals.{completes_id, is_of}
use Rattle.journal_entries.specs.Entries.{note_in, notes_in, said_at}
use Rattle.journal_store.specs.Effects.{effect_of}
use Rattle.engine_inboxes.specs.declared.types.Brought.{Brought}
use Rattle.engine_inboxes.specs.declared.types.Brought.TheVariants as brought
use Rattle.engine_inboxes.specs.declared.types.Waiting.{Waiting}
use Rattle.engine_inboxes.specs.declared.types.Waiting.TheVariants as waiting
use Rattle.engine_inboxes.specs.Notes.{completion, note_by}
use Rattle.engine_inboxes.specs.Deliverable.{CanAllCome, Deliverable, Entered, IsUnwaited, MayBeStored, effect_at, effect_said, kinds_in, past_said, waited_by, waits_for_id}
use Rattle.engine_inboxes.proofs.Coming.{command_adds, command_stays, done_after, done_with, entry_stays, none_some, note_said, other_adds, same_id, signal_stays, some_same, take_comes}
use Rattle.engines.specs.Between.{IsOneOf, called_by, called_in, results_by, waited_in}
use Rattle.engines.proofs.Among.{among_either, among_kept, among_left, among_rest, among_right}

-- What is known of an invocation by itself: what waits can be delivered; each that it ever waited for
-- waits once, and waits or has come; nothing else waits for an id.
pub record Book (journal : List (List ℕ)) (ws : List Waiting) (next : ℕ) : Type 0 where
  pub deliverable : Deliverable journal ws next
  pub ever : CanAllCome (kinds_in journal) (waited_in journal) next
  pub from : (w : Waiting) (id : ℕ) → IsOneOf w ws → waits_for_id id w ≡ true → IsOneOf w (waited_in journal)
  pub pending : (w : Waiting) (id : ℕ) → IsOneOf w (waited_in journal) → waits_for_id id w ≡ true → IsOneOf w ws ⊎ (completes_id id (notes_in journal) ≡ true)

-- ---- one entry more

pub waited_more : (journal : List (List ℕ)) (x : List ℕ) → waited_in (journal ++ x ∷ []) ≡ waited_in journal ++ waited_by (effect_at x)
waited_more journal x = sym (flat_map_more (λ entry. waited_by (effect_at entry)) [] journal x)

pub called_more : (journal : List (List ℕ)) (x : List ℕ) → called_in (journal ++ x ∷ []) ≡ called_in journal ++ called_by (effect_at x)
called_more journal x = sym (flat_map_more (λ entry. called_by (effect_at entry)) [] journal x)

pub results_more : (journal : List (List ℕ)) (x : List ℕ) → flat_map (λ entry. results_by (effect_at entry)) (journal ++ x ∷ []) ≡ flat_map (λ entry. results_by (effect_at entry)) journal ++ results_by (effect_at x)
results_more journal x = sym (flat_map_more (λ entry. results_by (effect_at entry)) [] journal x)

-- what is no command asks for nothing
pub nothing_asked : (x : List ℕ) → said_at x ≡ None → effect_at x ≡ None
nothing_asked x e = ap effect_said e

pub waited_same : (journal : List (List ℕ)) (x : List ℕ) → effect_at x ≡ None → waited_in (journal ++ x ∷ []) ≡ waited_in journal
waited_same journal x e = waited_more journal x ∙ ap (λ o. waited_in journal ++ waited_by o) e ∙ append-nil (waited_in journal)

pub called_same : (journal : List (List ℕ)) (x : List ℕ) → effect_at x ≡ None → called_in (journal ++ x ∷ []) ≡ called_in journal
called_same journal x e = called_more journal x ∙ ap (λ o. called_in journal ++ called_by o) e ∙ append-nil (called_in journal)

-- ---- the notification that something becomes

true_or : (b c : Bool) → b ≡ true → (b || c) ≡ true
true_or b c e = ap (λ z. z || c) e

or_is : (b c : Bool) → c ≡ true → (b || c) ≡ true
or_is true c e = refl
or_is false c e = e

-- what becomes a notification for an id completes this id
note_id : (w : Waiting) (b : Brought) (n : Notification) (id : ℕ) → note_by w b ≡ Some n → waits_for_id id w ≡ true → n.id ≡ CompletionId id
note_id (waiting.Id own) (brought.Id text) n id e h = sym (ap (λ (x : Notification). x.id) (some_same _ n e)) ∙ ap (λ q. CompletionId q) (same_id own id h)
note_id (waiting.Id own) (brought.Outcome r) n id e h = absurd (none_some n e)
note_id (waiting.Id own) (brought.Time t) n id e h = absurd (none_some n e)
note_id (waiting.Outcome own call) (brought.Id text) n id e h = absurd (none_some n e)
note_id (waiting.Outcome own call) (brought.Outcome r) n id e h = sym (ap (λ (x : Notification). x.id) (some_same _ n e)) ∙ ap (λ q. CompletionId q) (same_id own id h)
note_id (waiting.Outcome own call) (brought.Time t) n id e h = absurd (none_some n e)
note_id (waiting.Clock timer) (brought.Id text) n id e h = absurd (none_some n e)
note_id (waiting.Clock timer) (brought.Outcome r) n id e h = absurd (none_some n e)
note_id (waiting.Clock timer) (brought.Time t) n id e h = by (nat_le timer.due t) e
  where
    by : (z : Bool) → (if z then Some (completion timer.completes result.Void) else None) ≡ Some n → n.id ≡ CompletionId id
    by true g = sym (ap (λ (x : Notification). x.id) (some_same _ n g)) ∙ ap (λ q. CompletionId q) (same_id timer.completes id h)
    by false g = absurd (none_some n g)
note_id (waiting.Signal s r) b n id e h = let x : false ≡ true = h in absurd (cc)

same_is : (id : ℕ) → (id == id) ≡ true
same_is id = grind (arith, nat_tests)

-- a notification that completes an id completes it among all
pub done_true : (ns : List Notification) (n : Notification) (id : ℕ) → IsOneOf n ns → n.id ≡ CompletionId id → completes_id id ns ≡ true
done_true [] n id h e = absurd h
done_true (x ∷ xs) n id (inl a) e = true_or (is_of id x.id) (completes_id id xs) (ap (λ (y : Notification). is_of id y.id) (sym a) ∙ ap (is_of id) e ∙ same_is id)
done_true (x ∷ xs) n id (inr a) e = or_is (is_of id x.id) (completes_id id xs) (done_true xs n id a e)

-- what was completed stays so
done_stays : (journal : List (List ℕ)) (x : List ℕ) (id : ℕ) → completes_id id (notes_in journal) ≡ true → completes_id id (notes_in (journal ++ x ∷ [])) ≡ true
done_stays journal x id e = done_after journal x id ∙ by (note_in x)
  where
    by : (o : Option Notification) → done_with o id (completes_id id (notes_in journal)) ≡ true
    by None = e
    by (Some n) = true_or (completes_id id (notes_in journal)) (is_of id n.id) e

-- ---- steps

is_signal : (w : Waiting) (id : ℕ) (s : Signal) (r : NotificationResult) → IsOneOf w (waiting.Signal s r ∷ []) → waits_for_id id w ≡ true → ⊥
is_signal w id s r (inl e) f = let x : false ≡ true = sym (ap (waits_for_id id) e) ∙ f in cc
is_signal w id s r (inr h) f = h

-- a signal waits
pub book_signal : (journal : List (List ℕ)) (ws : List Waiting) (next : ℕ) (s : Signal) (r : NotificationResult) → Book journal ws next → Book journal (ws ++ waiting.Signal s r ∷ []) next
book_signal journal ws next s r b = record {
  deliverable = signal_stays journal ws next s r (ws ++ waiting.Signal s r ∷ []) next refl refl b.deliverable;
  ever = b.ever;
  from = λ w id h f. elim (among_either ws (waiting.Signal s r ∷ []) w h) as (λ _. IsOneOf w (waited_in journal)) [ inl a ↦ b.from w id a f | inr a ↦ absurd (is_signal w id s r a f) ];
  pending = λ w id h f. elim (b.pending w id h f) as (λ _. IsOneOf w (ws ++ waiting.Signal s r ∷ []) ⊎ (completes_id id (notes_in journal) ≡ true)) [ inl a ↦ inl (among_left ws (waiting.Signal s r ∷ []) w a) | inr a ↦ inr a ];
}

-- what stood at a place has come
pub book_came : (journal : List (List ℕ)) (entry : List ℕ) (ws : List Waiting) (next i : ℕ) (w : Waiting) (b : Brought) (n : Notification) → i < length ws → w ≡ slice_index_or ws i w → note_by w b ≡ Some n → note_in entry ≡ Some n → Book journal ws next → Book (journal ++ entry ∷ []) (remove ws i) next
book_came journal entry ws next i w b n lt at becomes noted book =
    let quiet : said_at entry ≡ None = note_said entry n noted in
    let same : waited_in (journal ++ entry ∷ []) ≡ waited_in journal = waited_same journal entry (nothing_asked entry quiet) in
    record {
      deliverable = (take_comes ws next i w b n (remove ws i) lt at becomes refl entry journal noted book.deliverable).1;
      ever = subst (λ l. CanAllCome (kinds_in (journal ++ entry ∷ [])) l next) (sym same) (other_adds journal entry (waited_in journal) next quiet book.ever);
      from = λ v id h f. subst (IsOneOf v) (sym same) (book.from v id (among_rest ws i v h) f);
      pending = λ v id h f. elim (book.pending v id (subst (IsOneOf v) same h) f) as (λ _. IsOneOf v (remove ws i) ⊎ (completes_id id (notes_in (journal ++ entry ∷ [])) ≡ true)) [
        | inl a ↦ elim (among_kept ws i w v lt at a) as (λ _. IsOneOf v (remove ws i) ⊎ (completes_id id (notes_in (journal ++ entry ∷ [])) ≡ true)) [
          | inl e ↦ inr (done_after journal entry id ∙ ap (λ o. done_with o id (completes_id id (notes_in journal))) noted
              ∙ or_is (completes_id id (notes_in journal)) (is_of id n.id) (ap (is_of id) (note_id w b n id becomes (sym (ap (waits_for_id id) e) ∙ f)) ∙ same_is id))
          | inr r ↦ inl r
        ]
        | inr d ↦ inr (done_stays journal entry id d)
      ];
    }

-- a command is stored
pub book_command : (journal : List (List ℕ)) (entry : List ℕ) (m : Message) (ws : List Waiting) (next : ℕ) (new : List Waiting) (next' : ℕ) → said_at entry ≡ Some m → Entered entry ws next new next' → Book journal ws next → Book (journal ++ entry ∷ []) new next'
book_command journal entry m ws next new next' said h book =
    let asks : effect_at entry ≡ effect_of m = ap effect_said said in
    let waits : new ≡ ws ++ waited_by (effect_of m) = h.waits ∙ ap (λ o. ws ++ waited_by o) asks in
    let more : waited_in (journal ++ entry ∷ []) ≡ waited_in journal ++ waited_by (effect_of m) = waited_more journal entry ∙ ap (λ o. waited_in journal ++ waited_by o) asks in
    let done : (id : ℕ) → completes_id id (notes_in journal) ≡ true → completes_id id (notes_in (journal ++ entry ∷ [])) ≡ true = done_stays journal entry in
    record {
      deliverable = command_stays journal entry m ws next new next' said (record { past = sym (ap (past_said next) said) ∙ h.past; waits = waits }) book.deliverable;
      ever = subst (λ l. CanAllCome (kinds_in (journal ++ entry ∷ [])) l next') (sym more) (command_adds journal entry m (waited_in journal) next next' said h.past book.ever).0;
      from = λ v id a f. subst (IsOneOf v) (sym more) (elim (among_either ws (waited_by (effect_of m)) v (subst (IsOneOf v) waits a)) as (λ _. IsOneOf v (waited_in journal ++ waited_by (effect_of m))) [
        | inl b ↦ among_left (waited_in journal) (waited_by (effect_of m)) v (book.from v id b f)
        | inr b ↦ among_right (waited_in journal) (waited_by (effect_of m)) v b
      ]);
      pending = λ v id a f. elim (among_either (waited_in journal) (waited_by (effect_of m)) v (subst (IsOneOf v) more a)) as (λ _. IsOneOf v new ⊎ (completes_id id (notes_in (journal ++ entry ∷ [])) ≡ true)) [
        | inl b ↦ elim (book.pending v id b f) as (λ _. IsOneOf v new ⊎ (completes_id id (notes_in (journal ++ entry ∷ [])) ≡ true)) [
          | inl c ↦ inl (subst (IsOneOf v) (sym waits) (among_left ws (waited_by (effect_of m)) v c))
          | inr d ↦ inr (done id d)
        ]
        | inr b ↦ inl (subst (IsOneOf v) (sym waits) (among_right ws (waited_by (effect_of m)) v b))
      ];
    }

-- a proposal is stored
pub book_proposal : (journal : List (List ℕ)) (entry : List ℕ) (ws : List Waiting) (next : ℕ) → said_at entry ≡ None → IsUnwaited (note_in entry) ws → MayBeStored entry journal → Book journal ws next → Book (journal ++ entry ∷ []) ws next
book_proposal journal entry ws next quiet free may book =
    let same : waited_in (journal ++ entry ∷ []) ≡ waited_in journal = waited_same journal entry (nothing_asked entry quiet) in
    record {
      deliverable = entry_stays journal entry ws next quiet free may book.deliverable;
      ever = subst (λ l. CanAllCome (kinds_in (journal ++ entry ∷ [])) l next) (sym same) (other_adds journal entry (waited_in journal) next quiet book.ever);
      from = λ v id h f. subst (IsOneOf v) (sym same) (book.from v id h f);
      pending = λ v id h f. elim (book.pending v id (subst (IsOneOf v) same h) f) as (λ _. IsOneOf v ws ⊎ (completes_id id (notes_in (journal ++ entry ∷ [])) ≡ true)) [
        | inl a ↦ inl a
        | inr d ↦ inr (done_stays journal entry id d)
      ];
    }
