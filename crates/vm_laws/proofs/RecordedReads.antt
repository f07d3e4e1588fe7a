-- A recorded command that stands for a read is a read of the same key and name.
use Rattle.std.proofs.Common.{◌≡◌, ℕ, Bool, true, false, ◌&&◌, List, Option, Some, None, refl, sym, subst}
use Rattle.std.specs.Prelude.{nat_eq, ◌==◌, if◌then◌else◌, Ok, Err}
use Rattle.std.proofs.lemmas.Bool.{eqb-true}
use Rattle.std.specs.Cmp.Lexicographic.{bytes_decides, pointwise}
use Rattle.journal_protocol.specs.Equality.{header_equal}
use Rattle.journal_protocol.specs.Types.{type_number}
use Rattle.journal_protocol.specs.NamedFault.{NamedFault}
use Rattle.journal_protocol.specs.NamedFault.TheVariants as fault
use Rattle.journal_protocol.specs.Bodies.{message_in}
use Rattle.journal_protocol.specs.Message.{Message}
use Rattle.journal_protocol.specs.Message.TheVariants as message
use Rattle.journal_protocol.specs.RawMessage.{RawMessage}
use Rattle.journal_protocol.specs.VoidOrValue.{VoidOrValue}
use Rattle.journal_protocol.specs.VoidOrValue.TheVariants as stored
use Rattle.journal_protocol.specs.NotificationResult.{NotificationResult}
use Rattle.journal_protocol.specs.NotificationResult.TheVariants as gives
use Rattle.vm_laws.specs.RecordedReads.{IsFound, IsKeysRead, IsRead, IsValueRead, Records}
use Rattle.vm_asks.specs.StateReads.{eager_form, eager_type, lazy_form, lazy_type, read_in_form, recorded_as, result_in, result_or, value_result}
use Rattle.vm_asks.specs.declared.state_read.StateRead.{StateRead}
use Rattle.vm_asks.specs.declared.state_read.StateRead.TheVariants as reads

text_is : (a b : List ℕ) → pointwise nat_eq a b ≡ true → a ≡ b
text_is a b = (bytes_decides a b).0

both : (a b : Bool) → (a && b) ≡ true → (a ≡ true) × (b ≡ true)
both true b e = (refl, e)
both false b e = absurd (cc)

found : (o : Option VoidOrValue) (result : NotificationResult) → result_or fault.EmptyGetEagerState value_result o ≡ Ok (Some result) → Records o result
found None result e = absurd (cc)
found (Some stored.Void) result e = let same : gives.Void ≡ result = cc in subst (IsFound stored.Void) same tt
found (Some (stored.Value value)) result e = let same : gives.Value value ≡ result = cc in subst (IsFound (stored.Value value)) same refl

never_none : {A : Type 0} (name : NamedFault) (f : A → NotificationResult) (o : Option A) {P : Type 0} → result_or name f o ≡ Ok None → P
never_none name f None e = absurd (cc)
never_none name f (Some x) e = absurd (cc)

listed : (o : Option (List (List ℕ))) (result : NotificationResult) → result_or fault.EmptyGetEagerStateKeys gives.StateKeys o ≡ Ok (Some result) → (keys : List (List ℕ)) × (o ≡ Some keys) × (result ≡ gives.StateKeys keys)
listed None result e = absurd (cc)
listed (Some keys) result e = let same : gives.StateKeys keys ≡ result = cc in (keys, refl, sym same)

-- ---- header-equal to a form

lazy_value : (key name : List ℕ) (id : ℕ) (m : Message) (result : Option NotificationResult) → header_equal m (lazy_form (reads.Value key name) id) true ≡ true → result_in m ≡ Ok result → IsValueRead key name id result m
unfolding header_equal
lazy_value key name id (message.GetLazyState c) None e r =
    let h = both (pointwise nat_eq c.name name && pointwise nat_eq c.key key) (c.result_completion_id == id) e in
    let texts = both (pointwise nat_eq c.name name) (pointwise nat_eq c.key key) h.0 in
    (text_is c.key key texts.1, text_is c.name name texts.0, eqb-true c.result_completion_id id h.1)
lazy_value key name id (message.GetLazyState c) (Some result) e r = absurd (cc)
lazy_value key name id m result e r = absurd (cc)

eager_value : (key name : List ℕ) (id : ℕ) (m : Message) (result : Option NotificationResult) → header_equal m (eager_form (reads.Value key name)) true ≡ true → result_in m ≡ Ok result → IsValueRead key name id result m
unfolding header_equal
eager_value key name id (message.GetEagerState c) None e r = never_none fault.EmptyGetEagerState value_result c.result r
eager_value key name id (message.GetEagerState c) (Some result) e r =
    let h = both (pointwise nat_eq c.name name && pointwise nat_eq c.key key) true e in
    let texts = both (pointwise nat_eq c.name name) (pointwise nat_eq c.key key) h.0 in
    (text_is c.key key texts.1, text_is c.name name texts.0, found c.result result r)
eager_value key name id m result e r = absurd (cc)

lazy_keys : (name : List ℕ) (id : ℕ) (m : Message) (result : Option NotificationResult) → header_equal m (lazy_form (reads.Keys name) id) true ≡ true → result_in m ≡ Ok result → IsKeysRead name id result m
unfolding header_equal
lazy_keys name id (message.GetLazyStateKeys c) None e r =
    let h = both (c.result_completion_id == id) (pointwise nat_eq c.name name) e in
    (text_is c.name name h.1, eqb-true c.result_completion_id id h.0)
lazy_keys name id (message.GetLazyStateKeys c) (Some result) e r = absurd (cc)
lazy_keys name id m result e r = absurd (cc)

eager_keys : (name : List ℕ) (id : ℕ) (m : Message) (result : Option NotificationResult) → header_equal m (eager_form (reads.Keys name)) true ≡ true → result_in m ≡ Ok result → IsKeysRead name id result m
unfolding header_equal
eager_keys name id (message.GetEagerStateKeys c) None e r = never_none fault.EmptyGetEagerStateKeys gives.StateKeys c.value r
eager_keys name id (message.GetEagerStateKeys c) (Some result) e r = (text_is c.name name e, listed c.value result r)
eager_keys name id m result e r = absurd (cc)

lazy_read : (read : StateRead) (id : ℕ) (m : Message) (result : Option NotificationResult) → header_equal m (lazy_form read id) true ≡ true → result_in m ≡ Ok result → IsRead read id result m
lazy_read (reads.Value key name) id m result e r = lazy_value key name id m result e r
lazy_read (reads.Keys name) id m result e r = lazy_keys name id m result e r

eager_read : (read : StateRead) (id : ℕ) (m : Message) (result : Option NotificationResult) → header_equal m (eager_form read) true ≡ true → result_in m ≡ Ok result → IsRead read id result m
eager_read (reads.Value key name) id m result e r = eager_value key name id m result e r
eager_read (reads.Keys name) id m result e r = eager_keys name id m result e r

-- ---- the recorded command

abbrev StandsFor : StateRead → ℕ → Option NotificationResult → Option Message → Type 0
StandsFor read id result o = (m : Message) × (o ≡ Some m) × IsRead read id result m

by_form : (read : StateRead) (id : ℕ) (form : Message) (o : Option Message) (result : Option NotificationResult) → ((m : Message) → header_equal m form true ≡ true → result_in m ≡ Ok result → IsRead read id result m) → read_in_form (Some form) o ≡ Ok result → StandsFor read id result o
by_form read id form None result h e = absurd (cc)
by_form read id form (Some m) result h e = by_test (header_equal m form true) refl e
  where
    by_test : (b : Bool) → header_equal m form true ≡ b → (if b then result_in m else Err fault.CommandMismatch) ≡ Ok result → StandsFor read id result (Some m)
    by_test true t e = (m, refl, h m t e)
    by_test false t e = absurd (cc)

pub recorded_stands : (read : StateRead) (id : ℕ) (raw : RawMessage) (result : Option NotificationResult) → recorded_as read id raw ≡ Ok result → (m : Message) × (message_in raw.ty raw.body ≡ Some m) × IsRead read id result m
recorded_stands read id raw result e = by_types (type_number raw.ty == type_number (lazy_type read)) (type_number raw.ty == type_number (eager_type read)) e
  where
    by_types : (a b : Bool) → read_in_form (if a then Some (lazy_form read id) else if b then Some (eager_form read) else None) (message_in raw.ty raw.body) ≡ Ok result → StandsFor read id result (message_in raw.ty raw.body)
    by_types true b e = by_form read id (lazy_form read id) (message_in raw.ty raw.body) result (λ m. lazy_read read id m result) e
    by_types false true e = by_form read id (eager_form read) (message_in raw.ty raw.body) result (λ m. eager_read read id m result) e
    by_types false false e = absurd (cc)
