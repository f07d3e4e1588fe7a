-- What honest rounds make of a sound history: the recorded commands stay, and the very commands of
-- the calls come after them.
use Rattle.std.proofs.Common.{◌≡◌, ◌⊎◌, ℕ, zero, suc, ◌+◌, List, [], ◌∷◌, ◌++◌, take, drop, Some, refl, sym, ap, ◌∙◌, subst, append_assoc, append-nil, inl, inr, ⊎_elim}
use native.Mathlib.Nat.{zero-add, suc-add}
use Rattle.std.proofs.lemmas.Option.{same_Some}
use Rattle.std.proofs.lemmas.List.{take-append-drop}
use Rattle.journal_protocol.specs.InputCommand.{InputCommand}
use Rattle.journal_protocol.specs.RawMessage.{RawMessage}
use Rattle.journal_protocol.specs.Notification.{Notification}
use Rattle.vm_state.specs.declared.state_map.StateMap.{StateMap}
use Rattle.vm_state.specs.Entries.{IsInOrder}
use Rattle.vm_model.specs.Calls.{Setup, Meaning, Move}
use Rattle.vm_model.specs.Calls.Move.{Answers, Needs, Awaits, Ends, Refuses}
use Rattle.journal_entries.specs.Journal.{Entry, commands_in, notifications_in, input_read_from, messages_in}
use Rattle.vm_model.specs.Moves.{Point, after, changed_by, later, longer, move_at, moved, next, start, supplied, supply}
use Rattle.vm_model.specs.Histories.{EagerFrom, Handed, Honest, Knowledge, Made, Whole, after_head}
use Rattle.vm_model.specs.HonestRounds.{Attempted, HonestRound, HonestRounds, IsHanded, IsOneRun, IsToldOn}
use Rattle.vm_model.specs.SoundHistories.{SoundHistory}
use Rattle.vm_model.proofs.Eager.{eager_made, messages-append, said_made}
use Rattle.vm_model.proofs.Honesty.{head_same, tail_same}
use Rattle.vm_model.proofs.Lasting.{Lasting, commands-append, honest_lasts, notifications-append}
use Rattle.vm_model.proofs.Runs.{after_later, after_longer, and_then_some, longer_nothing, made_after, made_front, made_later, made_spent, none_some}
use Rattle.vm_model.proofs.Said.{made_weaken}
use Rattle.vm_model.proofs.States.{changed_by-append}

-- ---- an attempt passes a point that is reached on its journal

-- a move over what is recorded needs no command of its own
told_supply : (state : StateMap) (mv : Move) (p q : Point) → moved mv p ≡ Some q → supply state mv p.left ≡ []
told_supply state (Answers gives d) p q h = refl
told_supply state (Needs demand gives d) p q h = by_left p.left refl
  where
    by_left : (left : List RawMessage) → p.left ≡ left → supply state (Needs demand gives d) left ≡ []
    by_left [] e = none_some (sym (ap (λ l. moved (Needs demand gives d) (record p { left = l })) e) ∙ h)
    by_left (c ∷ left) e = refl
told_supply state Awaits p q h = refl
told_supply state Ends p q h = refl
told_supply state (Refuses name) p q h = refl

-- if some moves lead to a point, an attempt that has written a command has passed it
passes : (s : Setup) (m : Meaning) (A : Knowledge) (n : ℕ) (p q : Point) → after s m n p ≡ Some q → (k : ℕ) (written : List RawMessage) (r : Point) → Made s m A k p written r → (written ≡ []) ⊎ ((j : ℕ) × Made s m A j q written r)
passes s m A zero p q told k written r made = inr (k, subst (λ z. Made s m A k z written r) (same_Some p q told) made)
passes s m A (suc n) p q told zero written r made = inl made.0
passes s m A (suc n) p q told (suc k) written r (state, x, rest, knows, is, moves, further) =
    let t = and_then_some (next s m p) (after s m n) q told in
    let quiet : supplied s m state p ≡ [] = told_supply state (move_at s m p) p t.0 t.1 in
    let does : next s m p ≡ Some x = sym (ap (next s m) (ap (λ l. longer l p) quiet ∙ longer_nothing p)) ∙ moves in
    let same : x ≡ t.0 = same_Some x t.0 (sym does ∙ t.1) in
    let wrote : written ≡ rest = is ∙ ap (λ l. l ++ rest) quiet in
    subst (λ w. (w ≡ []) ⊎ ((j : ℕ) × Made s m A j q w r)) (sym wrote) (passes s m A n t.0 q t.2 k rest r (subst (λ z. Made s m A k z rest r) same further))

-- ---- one after another

eager_append : (state : StateMap) (cs ds : List RawMessage) → EagerFrom state cs → EagerFrom (changed_by (messages_in cs) state) ds → EagerFrom state (cs ++ ds)
eager_append state [] ds h k = k
eager_append state (c ∷ cs) ds h k = (
  h.0,
  eager_append (changed_by (messages_in (c ∷ [])) state) cs ds h.1 (subst (λ g. EagerFrom g ds) (ap (λ l. changed_by l state) (messages-append (c ∷ []) cs) ∙ changed_by-append (messages_in (c ∷ [])) (messages_in cs) state) k),
)

after_add : (s : Setup) (m : Meaning) (n k : ℕ) (p q r : Point) → after s m n p ≡ Some q → after s m k q ≡ Some r → after s m (n + k) p ≡ Some r
after_add s m zero k p q r h t = rw zero-add (subst (λ z. after s m k z ≡ Some r) (sym (same_Some p q h)) t)
after_add s m (suc n) k p q r h t =
    let x = and_then_some (next s m p) (after s m n) q h in
    rw (suc-add, x.1) (after_add s m n k x.0 q r x.2 t)

-- ---- one honest round

module _ (s : Setup) (m : Meaning) (base : StateMap) (before : List Entry) (a : Attempted) (after_round : List Entry) (h : SoundHistory s m base before) (lasts : Lasting (Honest base) a.given h.history.at.said) (t : IsToldOn s m before a) (r : HonestRound before a.course after_round) where
  abbrev at : Point
  at = h.history.at

  abbrev rest : List RawMessage
  rest = h.history.rest

  abbrev input : InputCommand
  input = h.history.input

  abbrev known : List Notification
  known = notifications_in before

  abbrev delivered : List Notification
  delivered = notifications_in a.course

  abbrev written : List RawMessage
  written = commands_in a.course

  -- what was stored of it
  abbrev pub stored : List RawMessage
  stored = take r.stored written

  heads : t.first ∷ t.rest ≡ h.history.first ∷ rest
  heads = sym t.begins ∙ h.history.begins

  same_input : t.input ≡ input
  same_input = same_Some t.input input (sym t.reads ∙ ap input_read_from (head_same t.first h.history.first t.rest rest heads) ∙ h.history.reads)

  -- the attempt, from the first point on
  told : Made s m (Handed a.given) t.moves (start s input (known ++ delivered) rest) written t.at
  told = subst (λ p. Made s m (Handed a.given) t.moves p written t.at) (λ i. start s (same_input i) (known ++ delivered) (tail_same t.first h.history.first t.rest rest heads i)) t.made

  -- the point at which the recorded commands are used, with what was delivered
  there : after s m h.history.told.0 (start s input (known ++ delivered) rest) ≡ Some (later delivered at)
  there = after_later s m delivered h.history.told.0 (start s input known rest) at h.history.told.1

  -- from there on a run makes what the attempt wrote, by what lasts
  goes : (K : Knowledge) → Lasting K a.given at.said → (j : ℕ) × (q : Point) × Made s m K j (later delivered at) written q
  goes K last =
      ⊎_elim
      (λ (none : written ≡ []). (0, later delivered at, (none, refl)))
      (λ (x : (j : ℕ) × Made s m (Handed a.given) j (later delivered at) written t.at).
      (x.0, t.at, made_weaken s m K (Handed a.given) at.said last x.0 (later delivered at) written t.at [] (sym (append-nil at.said)) x.1))
      (passes s m (Handed a.given) h.history.told.0 (start s input (known ++ delivered) rest) (later delivered at) there t.moves written t.at told)

  -- and what was stored of it, with all notifications
  abbrev pub from : Point
  from = later r.undelivered (later delivered at)

  pub front_by : (K : Knowledge) → Lasting K a.given at.said → (j : ℕ) × (q : Point) × Made s m K j from stored q
  front_by K last =
      let on = goes K last in
      let parted : written ≡ stored ++ drop r.stored written = sym (take-append-drop r.stored written) in
      let x = made_front s m K on.0 (later delivered at) stored (drop r.stored written) on.1 (subst (λ l. Made s m K on.0 (later delivered at) l on.1) parted on.2) in
      (x.0, later r.undelivered x.1, made_later s m K r.undelivered x.0 (later delivered at) stored x.1 x.2)

  front : (j : ℕ) × (q : Point) × Made s m (Honest base) j from stored q
  front = front_by (Honest base) lasts

  all_notes : (known ++ delivered) ++ r.undelivered ≡ notifications_in after_round
  all_notes = append_assoc known delivered r.undelivered ∙ ap (λ l. known ++ l) (sym r.notifications) ∙ sym (notifications-append before r.added) ∙ ap notifications_in (sym r.extends)

  abbrev first_point : Point
  first_point = start s input (notifications_in after_round) rest

  told_from : after s m h.history.told.0 first_point ≡ Some from
  told_from = subst (λ l. after s m h.history.told.0 (start s input l rest) ≡ Some from) all_notes (after_later s m r.undelivered h.history.told.0 (start s input (known ++ delivered) rest) (later delivered at) there)

  pub stays_sound : SoundHistory s m base after_round
  stays_sound =
      let f = front in
      record {
        history = record {
          first = h.history.first;
          input = input;
          reads = h.history.reads;
          rest = rest ++ stored;
          begins = ap commands_in r.extends ∙ commands-append before r.added ∙ (λ i. h.history.begins i ++ r.commands i);
          at = f.1;
          told = (h.history.told.0 + f.0, after_add s m h.history.told.0 f.0 (longer stored first_point) (longer stored from) f.1 (after_longer s m stored h.history.told.0 first_point from told_from) (made_after s m (Honest base) f.0 from stored f.1 f.2));
          uses_all = made_spent s m (Honest base) f.0 from stored f.1 h.history.uses_all f.2;
          eager = eager_append base rest stored h.history.eager (subst (λ g. EagerFrom g stored) (sym h.leaves) (eager_made s m base f.0 from stored f.1 h.history.uses_all f.2));
        };
        leaves =
            ap (λ l. changed_by l base) (messages-append rest stored) ∙ changed_by-append (messages_in rest) (messages_in stored) base ∙ ap (changed_by (messages_in stored)) h.leaves
            ∙ sym (said_made s m (Honest base) f.0 from stored f.1 h.history.uses_all f.2 base);
      }

-- ---- honest rounds

pub sound_round : (s : Setup) (m : Meaning) (base : StateMap) (before : List Entry) (a : Attempted) (after : List Entry) → IsInOrder base.entries → SoundHistory s m base before → IsHanded (Honest base) before a → IsToldOn s m before a → HonestRound before a.course after → SoundHistory s m base after
sound_round s m base before a after ordered h handed t r =
    let leaves : changed_by (messages_in (after_head (commands_in before))) base ≡ changed_by h.history.at.said base = ap (λ l. changed_by (messages_in (after_head l)) base) h.history.begins ∙ h.leaves in
    stays_sound s m base before a after h (honest_lasts base a.given h.history.at.said (messages_in (after_head (commands_in before))) ordered leaves handed) t r

pub sound_rounds : (s : Setup) (m : Meaning) (base : StateMap) (before : List Entry) (rounds : List Attempted) (after : List Entry) → IsInOrder base.entries → SoundHistory s m base before → HonestRounds s m (Honest base) before rounds after → SoundHistory s m base after
sound_rounds s m base before [] after ordered h d = subst (SoundHistory s m base) (sym d) h
sound_rounds s m base before (a ∷ more) after ordered h (mid, handed, told, round, others) = sound_rounds s m base mid more after ordered (sound_round s m base before a mid ordered h handed told round) others

-- a journal that one run made is a sound history
pub run_is_sound : (s : Setup) (m : Meaning) (base : StateMap) (journal : List Entry) → IsOneRun s m (Honest base) journal → SoundHistory s m base journal
run_is_sound s m base journal h =
    let from = start s h.input (notifications_in journal) [] in
    record {
      history = record {
        first = h.first;
        input = h.input;
        reads = h.reads;
        rest = h.rest;
        begins = h.begins;
        at = h.at;
        told = (h.moves, made_after s m (Honest base) h.moves from h.rest h.at h.made);
        uses_all = made_spent s m (Honest base) h.moves from h.rest h.at refl h.made;
        eager = eager_made s m base h.moves from h.rest h.at refl h.made;
      };
      leaves = sym (said_made s m (Honest base) h.moves from h.rest h.at refl h.made base);
    }

-- what is known wholly is known honestly
pub whole_is_honest : (s : Setup) (m : Meaning) (base : StateMap) (journal : List Entry) → IsOneRun s m (Whole base) journal → IsOneRun s m (Honest base) journal
whole_is_honest s m base journal h =
    let from = start s h.input (notifications_in journal) [] in
    record {
      first = h.first;
      input = h.input;
      reads = h.reads;
      rest = h.rest;
      begins = h.begins;
      moves = h.moves;
      at = h.at;
      made = made_weaken s m (Honest base) (Whole base) [] (λ state said k. record { in_order = k.in_order; at = λ key. inr (k.at key); keys = inr k.keys }) h.moves from h.rest h.at [] refl h.made;
    }
