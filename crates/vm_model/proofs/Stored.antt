-- What a call's own command says once it is stored: it changes the state as the call does, and an eager read is as the state is.
use Rattle.std.proofs.Common.{◌≡◌, ◌⊎◌, ℕ, Bool, true, false, ◌&&◌, ◌||◌, List, [], ◌∷◌, Option, Some, None, refl, sym, ap, ◌∙◌, ⊎_elim}
use Rattle.std.specs.Prelude.{nat_eq, ◌==◌, if◌then◌else◌, Ok, Err}
use Rattle.std.proofs.lemmas.Option.{same_Some}
use Rattle.std.specs.Cmp.Lexicographic.{bytes_decides, pointwise}
use Rattle.journal_protocol.specs.NamedFault.TheVariants as fault
use Rattle.journal_protocol.specs.Message.{Message}
use Rattle.journal_protocol.specs.Message.TheVariants as message
use Rattle.journal_protocol.specs.RawMessage.{RawMessage}
use Rattle.journal_protocol.specs.NotificationResult.{NotificationResult}
use Rattle.journal_protocol.specs.GetEagerStateCommand.{GetEagerStateCommand}
use Rattle.journal_protocol.specs.GetEagerStateKeysCommand.{GetEagerStateKeysCommand}
use Rattle.journal_protocol.specs.VoidOrValue.TheVariants as stands
use Rattle.journal_protocol.specs.MessageType.{MessageType}
use Rattle.journal_protocol.specs.MessageType.TheVariants as type
use Rattle.journal_protocol.specs.Equality.{header_equal}
use Rattle.journal_protocol.specs.Frames.{body, type_of, IsWhole}
use Rattle.journal_protocol.specs.Bodies.{message_in}
use Rattle.journal_protocol.specs.Types.{type_number}
use Rattle.journal_protocol.proofs.Facts.{read_back, result_said, type_read, value_said}
use Rattle.vm_state.specs.declared.state_map.Known.{Known}
use Rattle.vm_state.specs.declared.state_map.Known.TheVariants.{Unknown, Empty, Value}
use Rattle.vm_state.specs.declared.state_map.StateMap.{StateMap}
use Rattle.vm_state.specs.States.{value_known, known_keys, state_set}
use Rattle.vm_asks.specs.declared.state_read.StateRead.{StateRead}
use Rattle.vm_asks.specs.declared.state_read.StateRead.TheVariants as reads
use Rattle.vm_asks.specs.StateReads.{eager_form, keys_form, own_form, read_by, result_in, value_form}
use Rattle.vm_asks.specs.Requests.{changed}
use Rattle.vm_model.specs.Calls.{Demand}
use Rattle.vm_model.specs.Calls.Demand.{Exactly, Reads}
use Rattle.vm_model.specs.Histories.{EagerReadMatches, IsTrueOf, recorded_value}
use Rattle.journal_entries.specs.Journal.{messages_in, read_before, stored_form}
use Rattle.vm_model.specs.Moves.{changed_by, found, own, reads_as, said_of}

-- ---- types

-- whether commands of a type change the state
abbrev pub changes_state : MessageType → Bool
changes_state type.SetStateCommand = true
changes_state type.ClearStateCommand = true
changes_state type.ClearAllStateCommand = true
changes_state ty = false

pub unchanged : (m : Message) → changes_state (type_of m) ≡ false → (g : StateMap) → changed m g ≡ g
unchanged (message.SetState c) e g = absurd (cc)
unchanged (message.ClearState c) e g = absurd (cc)
unchanged (message.ClearAllState c) e g = absurd (cc)
unchanged m e g = refl

-- whether commands of a type are eager reads
abbrev pub is_eager : MessageType → Bool
is_eager type.GetEagerStateCommand = true
is_eager type.GetEagerStateKeysCommand = true
is_eager ty = false

plain_fits : (now : StateMap) (raw : RawMessage) (m : Message) → is_eager (type_of m) ≡ false → EagerReadMatches now raw (Some m)
plain_fits now raw (message.GetEagerState c) e = absurd (cc)
plain_fits now raw (message.GetEagerStateKeys c) e = absurd (cc)
plain_fits now raw m e = tt

-- a stored command, as it is read
plain_stored : (now : StateMap) (m : Message) (o : Option Message) → message_in (type_of m) (body m) ≡ o → is_eager (type_of m) ≡ false → EagerReadMatches now (stored_form m) o
plain_stored now m None is e = tt
plain_stored now m (Some n) is e = plain_fits now (stored_form m) n (ap is_eager (type_read (type_of m) (body m) n is) ∙ e)

-- ---- texts and bytes

pub text_is : (a b : List ℕ) → pointwise nat_eq a b ≡ true → a ≡ b
text_is a b = (bytes_decides a b).0

pub both : (a b : Bool) → (a && b) ≡ true → (a ≡ true) × (b ≡ true)
both true b e = (refl, e)
both false b e = absurd (cc)

-- ---- what commands say of the state

-- a command that is read from a stored one and is header-equal to it changes the state in the same way
same_change : (m n : Message) (ignore : Bool) → message_in (type_of m) (body m) ≡ Some n → header_equal n m ignore ≡ true → (g : StateMap) → changed n g ≡ changed m g
unfolding header_equal
same_change (message.SetState b) (message.SetState a) ignore is e g =
    let front = both (pointwise nat_eq a.name b.name && pointwise nat_eq a.key b.key) (ignore || pointwise nat_eq a.value b.value) e in
    let texts = both (pointwise nat_eq a.name b.name) (pointwise nat_eq a.key b.key) front.0 in
    let name = text_is a.name b.name texts.0 in
    let key = text_is a.key b.key texts.1 in
    let value = value_said a b name key is in
    (λ i. state_set (key i) (value i) g)
same_change (message.ClearState b) (message.ClearState a) ignore is e g = ap (λ key. changed (message.ClearState (record { name = []; key = key })) g) (text_is a.key b.key (both (pointwise nat_eq a.name b.name) (pointwise nat_eq a.key b.key) e).1)
same_change (message.ClearAllState b) (message.ClearAllState a) ignore is e g = refl
same_change (message.SetState b) n ignore is e g = absurd (cc)
same_change (message.ClearState b) n ignore is e g = absurd (cc)
same_change (message.ClearAllState b) n ignore is e g = absurd (cc)
same_change m n ignore is e g = unchanged n (ap changes_state (type_read (type_of m) (body m) n is)) g

-- ---- a call's own command

-- what a stored command says
says_stored : (m : Message) (g h : StateMap) → (message_in (type_of m) (body m) ≡ None → g ≡ h) → ((n : Message) → message_in (type_of m) (body m) ≡ Some n → changed n g ≡ h) → changed_by (messages_in (stored_form m ∷ [])) g ≡ h
says_stored m g h none some = go (message_in (type_of m) (body m)) refl
  where
    go : (o : Option Message) → message_in (type_of m) (body m) ≡ o → changed_by (read_before o []) g ≡ h
    go None is = none is
    go (Some n) is = some n is

pub unread : (command : Message) (ignore b : Bool) (o : Option Message) (result : Option NotificationResult) → (if b then reads_as ignore command o else Err fault.CommandTypeMismatch) ≡ Ok result → (n : Message) × (o ≡ Some n) × (header_equal n command ignore ≡ true)
unread command ignore false o result e = absurd (cc)
unread command ignore true None result e = absurd (cc)
unread command ignore true (Some n) result e = (n, refl, by_test (header_equal n command ignore) e)
  where
    by_test : (t : Bool) → (if t then Ok None else Err fault.CommandMismatch) ≡ Ok result → t ≡ true
    by_test true e = refl
    by_test false e = absurd (cc)

-- a state read changes no state
read_type : (r : StateRead) (id : ℕ) (state : StateMap) → changes_state (type_of (own_form r id state)) ≡ false
read_type (reads.Value key name) id state = by_known (value_known key state)
  where
    by_known : (k : Known) → changes_state (type_of (value_form key name id k)) ≡ false
    by_known Unknown = refl
    by_known Empty = refl
    by_known (Value value) = refl
read_type (reads.Keys name) id state = by_keys (known_keys state)
  where
    by_keys : (o : Option (List (List ℕ))) → changes_state (type_of (keys_form name id o)) ≡ false
    by_keys None = refl
    by_keys (Some keys) = refl

pub read_says : (r : StateRead) (id : ℕ) (g : StateMap) → changed (said_of (Reads r id)) g ≡ g
read_says (reads.Value key name) id g = refl
read_says (reads.Keys name) id g = refl

-- a call's own command that stands for itself changes the state as the call says
pub own_changes : (state : StateMap) (e : Demand) (result : Option NotificationResult) → found e (stored_form (own state e)) ≡ Ok result → (g : StateMap) → changed_by (messages_in (stored_form (own state e) ∷ [])) g ≡ changed (said_of e) g
own_changes state (Exactly command ignore) result f g =
    let x = unread command ignore (type_number (type_of command) == type_number (type_of command)) (message_in (type_of command) (body command)) result f in
    says_stored command g (changed command g) (λ none. absurd (let one : Some x.0 ≡ None = sym x.1 ∙ none in cc)) (λ n is. ap (λ z. changed z g) (same_Some _ _ (sym is ∙ x.1)) ∙ same_change command x.0 ignore x.1 x.2 g)
own_changes state (Reads r id) result f g =
    let own = own_form r id state in
    says_stored own g (changed (said_of (Reads r id)) g) (λ none. sym (read_says r id g)) (λ n is. unchanged n (ap changes_state (type_read (type_of own) (body own) n is) ∙ read_type r id state) g ∙ sym (read_says r id g))

-- ---- an eager read is as the state is

-- a recorded read that is read as its eager form
eager_read : (form : Message) (o : Option Message) (result : Option NotificationResult) → read_by form o ≡ Ok result → (n : Message) × (o ≡ Some n) × (header_equal n form true ≡ true)
eager_read form None result e = absurd (cc)
eager_read form (Some n) result e = (n, refl, by_test (header_equal n form true) e)
  where
    by_test : (t : Bool) → (if t then result_in n else Err fault.CommandMismatch) ≡ Ok result → t ≡ true
    by_test true e = refl
    by_test false e = absurd (cc)

-- the key of an eager read that is read as one of this key, and its name
same_read : (key name : List ℕ) (n : Message) → header_equal n (eager_form (reads.Value key name)) true ≡ true → (now : StateMap) (raw : RawMessage) → ((id : ℕ) → raw ≡ stored_form (own_form (reads.Value key name) id now)) → EagerReadMatches now raw (Some n)
unfolding header_equal
same_read key name (message.GetEagerState c) e now raw h =
    let texts = both (pointwise nat_eq c.name name) (pointwise nat_eq c.key key) (both (pointwise nat_eq c.name name && pointwise nat_eq c.key key) true e).0 in
    let same : reads.Value c.key c.name ≡ reads.Value key name = λ i. reads.Value (text_is c.key key texts.1 i) (text_is c.name name texts.0 i) in
    λ id. h id ∙ sym (ap (λ r. stored_form (own_form r id now)) same)
same_read key name n e now raw h = absurd (cc)

same_keys_read : (name : List ℕ) (n : Message) → header_equal n (eager_form (reads.Keys name)) true ≡ true → (now : StateMap) (raw : RawMessage) → ((id : ℕ) → raw ≡ stored_form (own_form (reads.Keys name) id now)) → EagerReadMatches now raw (Some n)
unfolding header_equal
same_keys_read name (message.GetEagerStateKeys c) e now raw h = λ id. h id ∙ sym (ap (λ n. stored_form (own_form (reads.Keys n) id now)) (text_is c.name name e))
same_keys_read name n e now raw h = absurd (cc)

-- a value that is known there is so in this one
value_fits : (now : StateMap) (key name : List ℕ) (id : ℕ) (k : Known) (result : Option NotificationResult) → (k ≡ Unknown) ⊎ (k ≡ value_known key now) → found (Reads (reads.Value key name) id) (stored_form (value_form key name id k)) ≡ Ok result → EagerReadMatches now (stored_form (value_form key name id k)) (message_in (type_of (value_form key name id k)) (body (value_form key name id k)))
value_fits now key name id Unknown result so f = plain_stored now (value_form key name id Unknown) (message_in (type_of (value_form key name id Unknown)) (body (value_form key name id Unknown))) refl refl
value_fits now key name id Empty result so f =
    let own = value_form key name id Empty in
    let x = eager_read (eager_form (reads.Value key name)) (message_in (type_of own) (body own)) result f in
    let is : Empty ≡ value_known key now = ⊎_elim (λ (u : Empty ≡ Unknown). absurd (cc)) (λ (u : Empty ≡ value_known key now). u) so in
    rw x.1 (same_read key name x.0 x.2 now (stored_form own) (λ other. ap (λ k. stored_form (value_form key name other k)) is))
value_fits now key name id (Value value) result so f =
    let own = value_form key name id (Value value) in
    let x = eager_read (eager_form (reads.Value key name)) (message_in (type_of own) (body own)) result f in
    let is : Value value ≡ value_known key now = ⊎_elim (λ (u : Value value ≡ Unknown). absurd (cc)) (λ (u : Value value ≡ value_known key now). u) so in
    rw x.1 (same_read key name x.0 x.2 now (stored_form own) (λ other. ap (λ k. stored_form (value_form key name other k)) is))

keys_fit : (now : StateMap) (name : List ℕ) (id : ℕ) (keys : Option (List (List ℕ))) (result : Option NotificationResult) → (keys ≡ None) ⊎ (keys ≡ known_keys now) → found (Reads (reads.Keys name) id) (stored_form (keys_form name id keys)) ≡ Ok result → EagerReadMatches now (stored_form (keys_form name id keys)) (message_in (type_of (keys_form name id keys)) (body (keys_form name id keys)))
keys_fit now name id None result so f = plain_stored now (keys_form name id None) (message_in (type_of (keys_form name id None)) (body (keys_form name id None))) refl refl
keys_fit now name id (Some keys) result so f =
    let own = keys_form name id (Some keys) in
    let x = eager_read (eager_form (reads.Keys name)) (message_in (type_of own) (body own)) result f in
    let is : Some keys ≡ known_keys now = ⊎_elim (λ (u : Some keys ≡ None). absurd (cc)) (λ (u : Some keys ≡ known_keys now). u) so in
    rw x.1 (same_keys_read name x.0 x.2 now (stored_form own) (λ other. ap (λ k. stored_form (keys_form name other k)) is))

-- what a call needs is no eager read of its own
abbrev pub IsPlain : Demand → Type 0
IsPlain (Exactly command ignore) = is_eager (type_of command) ≡ false
IsPlain (Reads r id) = Unit {0}

pub own_fits : (now state : StateMap) (e : Demand) (result : Option NotificationResult) → IsTrueOf now state → IsPlain e → found e (stored_form (own state e)) ≡ Ok result → EagerReadMatches now (stored_form (own state e)) (message_in (type_of (own state e)) (body (own state e)))
own_fits now state (Exactly command ignore) result h plain f = plain_stored now command (message_in (type_of command) (body command)) refl plain
own_fits now state (Reads (reads.Value key name) id) result h plain f = value_fits now key name id (value_known key state) result (h.at key) f
own_fits now state (Reads (reads.Keys name) id) result h plain f = keys_fit now name id (known_keys state) result h.keys f

-- ---- what a recorded eager read brings

-- where a state gives a recorded eager read, it brings what the state has
pub value_brought : (g : StateMap) (raw : RawMessage) (c : GetEagerStateCommand) → message_in raw.ty raw.body ≡ Some (message.GetEagerState c) → EagerReadMatches g raw (Some (message.GetEagerState c)) → (value_known c.key g ≡ Unknown → ⊥) × (c.result ≡ recorded_value (value_known c.key g))
value_brought g raw c is fits = by_known (value_known c.key g) (fits 0)
  where
    -- what is read of the stored form that the entry is
    reads_own : (k : Known) → raw ≡ stored_form (value_form c.key c.name 0 k) → message_in (type_of (value_form c.key c.name 0 k)) (body (value_form c.key c.name 0 k)) ≡ Some (message.GetEagerState c)
    reads_own k e = sym (ap (λ (z : RawMessage). message_in z.ty z.body) e) ∙ is

    by_known : (k : Known) → raw ≡ stored_form (value_form c.key c.name 0 k) → (k ≡ Unknown → ⊥) × (c.result ≡ recorded_value k)
    by_known Unknown e = absurd (let t : type.GetEagerStateCommand ≡ type.GetLazyStateCommand = type_read raw.ty raw.body (message.GetEagerState c) is ∙ ap (λ (z : RawMessage). z.ty) e in cc)
    by_known Empty e = (λ u. absurd (cc), result_said c (record { name = c.name; key = c.key; result = Some stands.Void }) refl refl (reads_own Empty e))
    by_known (Value value) e = (λ u. absurd (cc), result_said c (record { name = c.name; key = c.key; result = Some (stands.Value value) }) refl refl (reads_own (Value value) e))

abbrev keys_or : Message → Option (List (List ℕ))
keys_or (message.GetEagerStateKeys c) = c.value
keys_or m = None

pub keys_brought : (g : StateMap) (raw : RawMessage) (c : GetEagerStateKeysCommand) → message_in raw.ty raw.body ≡ Some (message.GetEagerStateKeys c) → EagerReadMatches g raw (Some (message.GetEagerStateKeys c)) → IsWhole (own_form (reads.Keys c.name) 0 g) → (known_keys g ≡ None → ⊥) × (c.value ≡ known_keys g)
keys_brought g raw c is fits whole = by_keys (known_keys g) (fits 0) whole
  where
    by_keys : (o : Option (List (List ℕ))) → raw ≡ stored_form (keys_form c.name 0 o) → IsWhole (keys_form c.name 0 o) → (o ≡ None → ⊥) × (c.value ≡ o)
    by_keys None e w = absurd (let t : type.GetEagerStateKeysCommand ≡ type.GetLazyStateKeysCommand = type_read raw.ty raw.body (message.GetEagerStateKeys c) is ∙ ap (λ (z : RawMessage). z.ty) e in cc)
    by_keys (Some keys) e w =
        let own = keys_form c.name 0 (Some keys) in
        let one : message.GetEagerStateKeys c ≡ own = same_Some _ _ (sym is ∙ ap (λ (z : RawMessage). message_in z.ty z.body) e ∙ read_back own w) in
        (λ u. absurd (cc), ap keys_or one)
