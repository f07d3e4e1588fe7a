-- A journal that one run made whose calls are each those of one of several handlers that are alike.
use Rattle.std.proofs.Common.{◌≡◌, ℕ, zero, suc, ◌+◌, List, [], ◌∷◌, ◌++◌, take, Some, refl, sym, ap, ◌∙◌, subst, append_assoc, inl, inr}
use native.Mathlib.Nat.{zero-add, suc-add}
use Rattle.journal_protocol.specs.Message.{Message}
use Rattle.journal_protocol.specs.RawMessage.{RawMessage}
use Rattle.journal_protocol.specs.Notification.{Notification}
use Rattle.vm_state.specs.declared.state_map.StateMap.{StateMap}
use Rattle.vm_state.specs.Entries.{IsInOrder}
use Rattle.vm_model.specs.Alike.{AlikeHandlers, IsOneRunAlike, MadeAlike, saying}
use Rattle.vm_model.specs.Calls.{Setup, Meaning}
use Rattle.journal_entries.specs.Journal.{Entry, commands_in, messages_in, notifications_in}
use Rattle.vm_model.specs.Moves.{Point, after, and_then, changed_by, later, longer, move_at, next, start, supplied}
use Rattle.vm_model.specs.Histories.{EagerFrom, Honest, IsAllOf, IsTrueOf, Knowledge, Made, Whole, after_head}
use Rattle.vm_model.specs.HonestRounds.{Attempted, HonestRound, IsHanded, IsOneRun, IsToldOn}
use Rattle.vm_model.specs.SoundHistories.{SoundHistory}
use Rattle.vm_model.proofs.Eager.{messages-append, move_changes, move_fits, next_changes, plain_move}
use Rattle.vm_model.proofs.Lasting.{Lasting, commands-append, honest_lasts, notifications-append, whole_lasts}
use Rattle.vm_model.proofs.Likeness.{Same, handlers_along, handlers_back, moved_alike, moved_same, moved_says, said_on, same_on}
use Rattle.vm_model.proofs.Runs.{longer_nothing, longer_twice, next_later, next_longer, next_spent}
use Rattle.vm_model.proofs.Said.{next_says}
use Rattle.vm_model.proofs.SoundHistories.{front_by}
use Rattle.vm_model.proofs.States.{changed_by-append}

itself : (s : Setup) (m : Meaning) → AlikeHandlers s m m
itself s m answers d = (inl refl, λ state. refl)

-- ---- what a run makes

mixed_of : (s : Setup) (m : Meaning) (K : Knowledge) (n : ℕ) (p : Point) (made : List RawMessage) (q : Point) → Made s m K n p made q → MadeAlike s m K n p made q
mixed_of s m K zero p made q h = h
mixed_of s m K (suc n) p made q (state, r, rest, knows, is, moves, further) = (m, state, r, rest, itself s m, knows, is, moves, mixed_of s m K n r rest q further)

-- later arrivals leave what is made
mixed_later : (s : Setup) (m : Meaning) (K : Knowledge) (ns : List Notification) (n : ℕ) (p : Point) (made : List RawMessage) (q : Point) → MadeAlike s m K n p made q → MadeAlike s m K n (later ns p) made (later ns q)
mixed_later s m K ns zero p made q h = (h.0, ap (later ns) h.1)
mixed_later s m K ns (suc n) p made q (one, state, r, rest, are, knows, is, moves, further) =
    (one, state, later ns r, rest, are, knows, is, next_later s one ns (longer (supplied s one state p) p) r moves, mixed_later s m K ns n r rest q further)

-- one run after another
mixed_add : (s : Setup) (m : Meaning) (K : Knowledge) (n k : ℕ) (p : Point) (made : List RawMessage) (q : Point) (more : List RawMessage) (r : Point) → MadeAlike s m K n p made q → MadeAlike s m K k q more r → MadeAlike s m K (n + k) p (made ++ more) r
mixed_add s m K zero k p made q more r h t = rw (zero-add, h.0, h.1) t
mixed_add s m K (suc n) k p made q more r (one, state, x, rest, are, knows, is, moves, further) t =
    rw suc-add (one, state, x, rest ++ more, are, knows, ap (λ l. l ++ more) is ∙ append_assoc (supplied s one state p) rest more, moves, mixed_add s m K n k x rest q more r further t)

mixed_spent : (s : Setup) (m : Meaning) (K : Knowledge) (n : ℕ) (p : Point) (made : List RawMessage) (q : Point) → p.left ≡ [] → MadeAlike s m K n p made q → q.left ≡ []
mixed_spent s m K zero p made q spent h = ap (λ (z : Point). z.left) (sym h.1) ∙ spent
mixed_spent s m K (suc n) p made q spent (one, state, r, rest, are, knows, is, moves, further) = mixed_spent s m K n r rest q (next_spent s one state p r spent moves) further

-- what was said changes the state as what was made
mixed_said : (s : Setup) (m : Meaning) (K : Knowledge) (n : ℕ) (p : Point) (made : List RawMessage) (q : Point) → p.left ≡ [] → MadeAlike s m K n p made q → (g : StateMap) → changed_by q.said g ≡ changed_by (messages_in made) (changed_by p.said g)
mixed_said s m K zero p made q spent h g = ap (λ (z : Point). changed_by z.said g) (sym h.1) ∙ ap (λ l. changed_by (messages_in l) (changed_by p.said g)) (sym h.0)
mixed_said s m K (suc n) p made q spent (one, state, r, rest, are, knows, is, moves, further) g =
    let S = supplied s one state p in
    mixed_said s m K n r rest q (next_spent s one state p r spent moves) further g
    ∙ ap (changed_by (messages_in rest)) (next_changes s one state p r spent moves g)
    ∙ sym (changed_by-append (messages_in S) (messages_in rest) (changed_by p.said g))
    ∙ ap (λ l. changed_by l (changed_by p.said g)) (sym (messages-append S rest) ∙ ap messages_in (sym is))

-- what was made is as the state is there
mixed_eager : (s : Setup) (m : Meaning) (base : StateMap) (n : ℕ) (p : Point) (made : List RawMessage) (q : Point) → p.left ≡ [] → MadeAlike s m (Honest base) n p made q → EagerFrom (changed_by p.said base) made
mixed_eager s m base zero p made q spent h = rw h.0 tt
mixed_eager s m base (suc n) p made q spent (one, state, r, rest, are, knows, is, moves, further) =
    let mv = move_at s one p in
    let more : EagerFrom (changed_by r.said base) rest = mixed_eager s m base n r rest q (next_spent s one state p r spent moves) further in
    let says = next_says s one state p r spent moves in
    rw (is, spent) (move_fits (changed_by p.said base) state mv p r rest says knows (plain_move s one p) (rw (move_changes state mv p r says base) at more))

-- what a call may know, by the state that the commands so far leave
abbrev pub By : (StateMap → StateMap → Type 0) → StateMap → Knowledge
By R base = λ state said. R (changed_by said base) state

-- a run of a handler that is alike, where other calls before it said what leaves the same
resaid : (s : Setup) (m o : Meaning) (base : StateMap) (R : StateMap → StateMap → Type 0) (n : ℕ) (p : Point) (made : List RawMessage) (q : Point) (said : List Message) → AlikeHandlers s m o → Same p.said said → Made s o (By R base) n p made q
    → (x : List Message) × MadeAlike s m (By R base) n (saying said p) made (saying x q)
resaid s m o base R zero p made q said also same h = (said, (h.0, ap (saying said) h.1))
resaid s m o base R (suc n) p made q said also same (state, r, rest, knows, is, moves, further) =
    let S = supplied s o state p in
    let mv = move_at s o p in
    let on = moved_same said mv (longer S p) r moves in
    let then_same : Same r.said (said_on mv said) = λ g. ap (λ l. changed_by l g) (moved_says mv (longer S p) r moves) ∙ same_on mv mv p.said said (λ state. refl) same g in
    let y = resaid s m o base R n r rest q (said_on mv said) also then_same further in
    (y.0, (o, state, saying (said_on mv said) r, rest, also, subst (λ g. R g state) (same base) knows, is, on, y.1))

-- what is known well enough is known honestly
weaker : (s : Setup) (m : Meaning) (base : StateMap) (R : StateMap → StateMap → Type 0) → ((now state : StateMap) → R now state → IsTrueOf now state) → (n : ℕ) (p : Point) (made : List RawMessage) (q : Point) → MadeAlike s m (By R base) n p made q → MadeAlike s m (Honest base) n p made q
weaker s m base R lift zero p made q h = h
weaker s m base R lift (suc n) p made q (one, state, r, rest, are, knows, is, moves, further) = (one, state, r, rest, are, lift (changed_by p.said base) state knows, is, moves, weaker s m base R lift n r rest q further)

-- each handler that is alike reaches the same point on what was made, except for what its calls said
told_mixed : (s : Setup) (m o : Meaning) (K : Knowledge) (n : ℕ) (p : Point) (made : List RawMessage) (q : Point) (said : List Message) → AlikeHandlers s m o → Same p.said said → MadeAlike s m K n p made q
    → (x : List Message) × (after s o n (longer made (saying said p)) ≡ Some (saying x q)) × Same q.said x
told_mixed s m o K zero p made q said also same h = (said, (λ i. Some (longer (h.0 i) (saying said (h.1 i)))) ∙ ap Some (longer_nothing (saying said q)), λ g. ap (λ (z : Point). changed_by z.said g) (sym h.1) ∙ same g)
told_mixed s m o K (suc n) p made q said also same (one, state, r, rest, are, knows, is, moves, further) =
    let S = supplied s one state p in
    let a = move_at s one p in
    let b = move_at s o p in
    let alike = handlers_along s one m o (handlers_back s m one are) also p.answers p.derived in
    let there : next s o (longer S (saying said p)) ≡ Some (saying (said_on b said) r) = moved_alike said a b (longer S p) r alike.0 moves in
    let on : next s o (longer made (saying said p)) ≡ Some (longer rest (saying (said_on b said) r)) = ap (λ l. next s o (longer l (saying said p))) is ∙ sym (ap (next s o) (longer_twice S rest (saying said p))) ∙ next_longer s o rest (longer S (saying said p)) (saying (said_on b said) r) there in
    let then_same : Same r.said (said_on b said) = λ g. ap (λ l. changed_by l g) (moved_says a (longer S p) r moves) ∙ same_on a b p.said said alike.1 same g in
    let y = told_mixed s m o K n r rest q (said_on b said) also then_same further in
    (y.0, ap (λ z. and_then z (after s o n)) on ∙ y.1, y.2)

-- ---- journals

pub one_run_alike : (s : Setup) (m : Meaning) (K : Knowledge) (journal : List Entry) → IsOneRun s m K journal → IsOneRunAlike s m K journal
one_run_alike s m K journal h = record {
  first = h.first;
  input = h.input;
  reads = h.reads;
  rest = h.rest;
  begins = h.begins;
  moves = h.moves;
  at = h.at;
  made = mixed_of s m K h.moves (start s h.input (notifications_in journal) []) h.rest h.at h.made;
}

-- such a journal is a sound history of each handler that is alike
pub mixed_sound : (s : Setup) (m o : Meaning) (base : StateMap) (journal : List Entry) → AlikeHandlers s m o → (h : IsOneRunAlike s m (Honest base) journal) → SoundHistory s o base journal
mixed_sound s m o base journal also h =
    let from = start s h.input (notifications_in journal) [] in
    let y = told_mixed s m o (Honest base) h.moves from h.rest h.at [] also (λ g. refl) h.made in
    record {
      history = record {
        first = h.first;
        input = h.input;
        reads = h.reads;
        rest = h.rest;
        begins = h.begins;
        at = saying y.0 h.at;
        told = (h.moves, y.1);
        uses_all = mixed_spent s m (Honest base) h.moves from h.rest h.at refl h.made;
        eager = mixed_eager s m base h.moves from h.rest h.at refl h.made;
      };
      leaves = sym (mixed_said s m (Honest base) h.moves from h.rest h.at refl h.made base) ∙ y.2 base;
    }

pub honest_enough : (s : Setup) (m : Meaning) (base : StateMap) (R : StateMap → StateMap → Type 0) → ((now state : StateMap) → R now state → IsTrueOf now state) → (journal : List Entry) → IsOneRunAlike s m (By R base) journal → IsOneRunAlike s m (Honest base) journal
honest_enough s m base R lift journal h = record {
  first = h.first;
  input = h.input;
  reads = h.reads;
  rest = h.rest;
  begins = h.begins;
  moves = h.moves;
  at = h.at;
  made = weaker s m base R lift h.moves (start s h.input (notifications_in journal) []) h.rest h.at h.made;
}

mixed_round_by : (s : Setup) (m o : Meaning) (base : StateMap) (R : StateMap → StateMap → Type 0) → ((now state : StateMap) → R now state → IsTrueOf now state) → (before : List Entry) (a : Attempted) (behind : List Entry) → AlikeHandlers s m o → IsInOrder base.entries → IsOneRunAlike s m (By R base) before
    → ((said : List Message) → changed_by (messages_in (after_head (commands_in before))) base ≡ changed_by said base → Lasting (By R base) a.given said) → IsHanded (Honest base) before a → IsToldOn s o before a → HonestRound before a.course behind → IsOneRunAlike s m (By R base) behind
unfolding mixed_sound honest_enough
mixed_round_by s m o base R lift before a behind also ordered h last handed t r =
    let known = notifications_in before in
    let delivered = notifications_in a.course in
    let stored = take r.stored (commands_in a.course) in
    let from = start s h.input known [] in
    let k = honest_enough s m base R lift before h in
    let y = told_mixed s m o (Honest base) h.moves from h.rest h.at [] also (λ g. refl) k.made in
    let sound = mixed_sound s m o base before also k in
    let leaves : changed_by (messages_in (after_head (commands_in before))) base ≡ changed_by y.0 base = ap (λ l. changed_by (messages_in (after_head l)) base) h.begins ∙ sound.leaves in
    let f = front_by s o base before a behind sound (honest_lasts base a.given y.0 (messages_in (after_head (commands_in before))) ordered leaves handed) t r (By R base) (last y.0 leaves) in
    let z = resaid s m o base R f.0 (saying y.0 (later r.undelivered (later delivered h.at))) stored f.1 h.at.said also (λ g. sym (y.2 g)) f.2 in
    let first_part = mixed_later s m (By R base) r.undelivered h.moves (later delivered from) h.rest (later delivered h.at) (mixed_later s m (By R base) delivered h.moves from h.rest h.at h.made) in
    let notes : (known ++ delivered) ++ r.undelivered ≡ notifications_in behind = append_assoc known delivered r.undelivered ∙ ap (λ l. known ++ l) (sym r.notifications) ∙ sym (notifications-append before r.added) ∙ ap notifications_in (sym r.extends) in
    record {
      first = h.first;
      input = h.input;
      reads = h.reads;
      rest = h.rest ++ stored;
      begins = ap commands_in r.extends ∙ commands-append before r.added ∙ (λ i. h.begins i ++ r.commands i);
      moves = h.moves + f.0;
      at = saying z.0 f.1;
      made = subst (λ l. MadeAlike s m (By R base) (h.moves + f.0) (start s h.input l []) (h.rest ++ stored) (saying z.0 f.1)) notes (mixed_add s m (By R base) h.moves f.0 (later r.undelivered (later delivered from)) h.rest (later r.undelivered (later delivered h.at)) stored (saying z.0 f.1) first_part z.1);
    }

pub mixed_round : (s : Setup) (m o : Meaning) (base : StateMap) (before : List Entry) (a : Attempted) (behind : List Entry) → AlikeHandlers s m o → IsInOrder base.entries → IsOneRunAlike s m (Honest base) before → IsHanded (Honest base) before a → IsToldOn s o before a → HonestRound before a.course behind
    → IsOneRunAlike s m (Honest base) behind
mixed_round s m o base before a behind also ordered h handed t r =
    mixed_round_by s m o base IsTrueOf (λ now state k. k) before a behind also ordered h (λ said e. honest_lasts base a.given said (messages_in (after_head (commands_in before))) ordered e handed) handed t r

pub all_is_true : (now state : StateMap) → IsAllOf now state → IsTrueOf now state
all_is_true now state k = record { in_order = k.in_order; at = λ key. inr (k.at key); keys = inr k.keys }

pub mixed_whole_round : (s : Setup) (m o : Meaning) (base : StateMap) (before : List Entry) (a : Attempted) (behind : List Entry) → AlikeHandlers s m o → IsInOrder base.entries → IsOneRunAlike s m (Whole base) before → IsHanded (Whole base) before a → IsToldOn s o before a → HonestRound before a.course behind
    → IsOneRunAlike s m (Whole base) behind
mixed_whole_round s m o base before a behind also ordered h handed t r =
    mixed_round_by s m o base IsAllOf all_is_true before a behind also ordered h (λ said e. whole_lasts base a.given said (messages_in (after_head (commands_in before))) ordered e handed) (all_is_true (changed_by (messages_in (after_head (commands_in before))) base) a.given handed) t r
