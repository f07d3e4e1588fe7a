-- The completion ids that a run's commands carry rise: each is given once, in the order of the calls.
use Rattle.std.proofs.Common.{◌≡◌, ◌⊎◌, ◌≤◌, ℕ, zero, suc, ◌+◌, Bool, true, false, ◌||◌, List, [], ◌∷◌, ◌++◌, take, Option, Some, None, refl, sym, ap, ◌∙◌, subst, inl, inr, ⊎_elim, append-nil, arith}
use Rattle.std.specs.Prelude.{◌==◌, if◌then◌else◌, Ok, Err}
use Rattle.std.proofs.lemmas.Bool.{eq-eqb, eqb-true}
use Rattle.journal_protocol.specs.InputCommand.{InputCommand}
use Rattle.journal_protocol.specs.NamedFault.TheVariants as fault
use Rattle.journal_protocol.specs.Types.{type_number}
use Rattle.journal_protocol.specs.Equality.{header_equal, request_equal}
use Rattle.journal_protocol.specs.Message.{Message}
use Rattle.journal_protocol.specs.Message.TheVariants as message
use Rattle.journal_protocol.specs.RawMessage.{RawMessage}
use Rattle.journal_protocol.specs.Frames.{type_of}
use Rattle.journal_protocol.specs.Bodies.{message_in}
use Rattle.journal_protocol.proofs.Facts.{type_read}
use Rattle.journal_protocol.specs.Notification.{Notification}
use Rattle.journal_protocol.specs.NotificationResult.{NotificationResult}
use Rattle.vm_types.specs.declared.steps.Step.{Step}
use Rattle.vm_asks.specs.declared.asks.Ask.{Ask}
use Rattle.vm_asks.specs.declared.asks.Ask.TheVariants as ask
use Rattle.vm_asks.specs.declared.command.Command.{Command}
use Rattle.vm_asks.specs.declared.state_read.StateRead.{StateRead}
use Rattle.vm_asks.specs.declared.state_read.StateRead.TheVariants as reads
use Rattle.vm_asks.specs.Asks.{all_ids, ask_of}
use Rattle.vm_asks.specs.Carried.{all_carried, carried, carried_by, read_carried}
use Rattle.vm_asks.specs.Requests.{ids_of, with_ids}
use Rattle.vm_asks.specs.StateReads.{eager_form, eager_type, lazy_form, lazy_type, read_in_form, read_by, recorded_as, result_in}
use Rattle.vm_model.specs.Calls.{Demand, Meaning, Setup}
use Rattle.vm_model.specs.Calls.Demand.{Exactly, Reads}
use Rattle.vm_model.specs.Carried.{is_id_among, is_carried, read_carries}
use Rattle.vm_model.specs.Moves.{Point, after, start}
use Rattle.vm_model.specs.Sums.{calls_for, completion_ids, completion_ids_in, total}
use Rattle.vm_model.specs.Uses.{StandFor, Stands, all_needed, cancels_needed, needed, needed_by}
use Rattle.vm_model.proofs.Carried.{both, same_request, typed}
use Rattle.vm_model.proofs.Sums.{told_sums}
use Rattle.vm_model.proofs.Uses.{commands_used}

-- ---- ids that rise

-- these ids rise: the first is this number at least, and each later one is greater than the one before it
abbrev pub Rises : ℕ → List ℕ → Type 0
Rises low [] = Unit {0}
Rises low (id ∷ ids) = (low ≤ id) × Rises (id + 1) ids

-- they rise, and all are less than the second number
abbrev Spans : ℕ → List ℕ → ℕ → Type 0
Spans low [] high = low ≤ high
Spans low (id ∷ ids) high = (low ≤ id) × Spans (id + 1) ids high

spans_rise : (low : ℕ) (ids : List ℕ) (high : ℕ) → Spans low ids high → Rises low ids
spans_rise low [] high h = tt
spans_rise low (id ∷ ids) high h = (h.0, spans_rise (id + 1) ids high h.1)

spans_less : (low less : ℕ) (ids : List ℕ) (high : ℕ) → less ≤ low → Spans low ids high → Spans less ids high
spans_less low less [] high l h = omega (arith, l, h)
spans_less low less (id ∷ ids) high l h = let x = h.0 in (omega (arith, l, x), h.1)

spans_le : (low : ℕ) (ids : List ℕ) (high : ℕ) → Spans low ids high → low ≤ high
spans_le low [] high h = h
spans_le low (id ∷ ids) high h = let x = h.0 in let y = spans_le (id + 1) ids high h.1 in omega (arith, x, y)

spans_append : (low mid high : ℕ) (xs ys : List ℕ) → Spans low xs mid → Spans mid ys high → Spans low (xs ++ ys) high
spans_append low mid high [] ys a b = spans_less mid low ys high a b
spans_append low mid high (x ∷ xs) ys a b = (a.0, spans_append (x + 1) mid high xs ys a.1 b)

pub rises_front : (low : ℕ) (xs ys : List ℕ) → Rises low (xs ++ ys) → Rises low xs
rises_front low [] ys h = tt
rises_front low (x ∷ xs) ys h = (h.0, rises_front (x + 1) xs ys h.1)

rises_less : (low less : ℕ) (ids : List ℕ) → less ≤ low → Rises low ids → Rises less ids
rises_less low less [] l h = tt
rises_less low less (id ∷ ids) l h = let x = h.0 in (omega (arith, l, x), h.1)

pub rises_behind : (low : ℕ) (xs ys : List ℕ) → Rises low (xs ++ ys) → Rises low ys
rises_behind low [] ys h = h
rises_behind low (x ∷ xs) ys h = let l = h.0 in rises_less (x + 1) low ys (omega (arith, l)) (rises_behind (x + 1) xs ys h.1)

-- an id among those that rise from a number on isn't less
among_from : (low id : ℕ) (ids : List ℕ) → Rises low ids → is_id_among id ids ≡ true → low ≤ id
among_from low id [] h among = absurd (cc)
among_from low id (x ∷ xs) h among = by_test (x == id) refl among (among_from (x + 1) id xs h.1)
  where
    by_test : (b : Bool) → (x == id) ≡ b → (b || is_id_among id xs) ≡ true → (is_id_among id xs ≡ true → x + 1 ≤ id) → low ≤ id
    by_test true same e ih = let is = eqb-true x id same in let l = h.0 in omega (arith, is, l)
    by_test false same e ih = let l = h.0 in let k = ih e in omega (arith, l, k)

not_again : (x id : ℕ) (ids : List ℕ) → (x == id) ≡ true → Rises (x + 1) ids → is_id_among id ids ≡ false
not_again x id ids same h = by_test (is_id_among id ids) refl
  where
    by_test : (b : Bool) → is_id_among id ids ≡ b → b ≡ false
    by_test false e = refl
    by_test true e = let l = among_from (x + 1) id ids h e in let is = eqb-true x id same in absurd (omega (arith, l, is))

-- what is among the first of them isn't among the later ones
pub only_once : (low id : ℕ) (xs ys : List ℕ) → Rises low (xs ++ ys) → is_id_among id xs ≡ true → is_id_among id ys ≡ false
only_once low id [] ys h among = absurd (cc)
only_once low id (x ∷ xs) ys h among = by_test (x == id) refl among (only_once (x + 1) id xs ys h.1)
  where
    by_test : (b : Bool) → (x == id) ≡ b → (b || is_id_among id xs) ≡ true → (is_id_among id xs ≡ true → is_id_among id ys ≡ false) → is_id_among id ys ≡ false
    by_test true same e ih = not_again x id ys same (rises_behind (x + 1) xs ys h.1)
    by_test false same e ih = ih e

-- ---- the ids that commands carry

among_append : (id : ℕ) (xs ys : List ℕ) → is_id_among id (xs ++ ys) ≡ (is_id_among id xs || is_id_among id ys)
among_append id [] ys = refl
among_append id (x ∷ xs) ys = by_test (x == id) (among_append id xs ys)
  where
    by_test : (b : Bool) → is_id_among id (xs ++ ys) ≡ (is_id_among id xs || is_id_among id ys) → (b || is_id_among id (xs ++ ys)) ≡ ((b || is_id_among id xs) || is_id_among id ys)
    by_test true ih = refl
    by_test false ih = ih

pub carried_is : (id : ℕ) (cs : List RawMessage) → is_carried id cs ≡ is_id_among id (all_carried cs)
carried_is id [] = refl
carried_is id (c ∷ cs) = by_read (message_in c.ty c.body) (carried_is id cs)
  where
    by_read : (o : Option Message) → is_carried id cs ≡ is_id_among id (all_carried cs) → (read_carries id o || is_carried id cs) ≡ is_id_among id (read_carried o ++ all_carried cs)
    by_read None ih = ih
    by_read (Some m) ih = ap (λ b. is_id_among id (carried m) || b) ih ∙ sym (among_append id (carried m) (all_carried cs))

-- ---- what a recorded command carries that stands for what is needed

one_id : (a b : ℕ) → (a == b) ≡ true → a ∷ [] ≡ b ∷ []
one_id a b e = ap (λ id. id ∷ []) (eqb-true a b e)

-- a header-equal command that carries ids carries the same
same_ids : (m n : Message) (ignore : Bool) → type_of n ≡ type_of m → header_equal n m ignore ≡ true → (carried n ≡ carried m) ⊎ (carried n ≡ [])
unfolding header_equal
same_ids (message.Sleep b) (message.Sleep a) ignore is e = inl (one_id a.result_completion_id b.result_completion_id (both _ _ e).0)
same_ids (message.GetLazyState b) (message.GetLazyState a) ignore is e = inl (one_id a.result_completion_id b.result_completion_id (both _ _ e).1)
same_ids (message.GetLazyStateKeys b) (message.GetLazyStateKeys a) ignore is e = inl (one_id a.result_completion_id b.result_completion_id (both _ _ e).0)
same_ids (message.Call b) (message.Call a) ignore is e =
    let t = both (request_equal ignore a.request b.request) (a.result_completion_id == b.result_completion_id) e in
    inl (λ i. same_request ignore a.request b.request t.0 i ∷ eqb-true a.result_completion_id b.result_completion_id t.1 i ∷ [])
same_ids (message.OneWayCall b) (message.OneWayCall a) ignore is e = inl (ap (λ id. id ∷ []) (same_request ignore a.request b.request e))
same_ids (message.GetPromise b) (message.GetPromise a) ignore is e = inl (one_id a.result_completion_id b.result_completion_id (both _ _ e).1)
same_ids (message.PeekPromise b) (message.PeekPromise a) ignore is e = inl (one_id a.result_completion_id b.result_completion_id (both _ _ e).1)
same_ids (message.CompletePromise b) (message.CompletePromise a) ignore is e = inl (one_id a.result_completion_id b.result_completion_id (both _ _ e).1)
same_ids (message.Run b) (message.Run a) ignore is e = inl (one_id a.result_completion_id b.result_completion_id (both _ _ e).1)
same_ids (message.AttachInvocation b) (message.AttachInvocation a) ignore is e = inl (one_id a.result_completion_id b.result_completion_id (both _ _ e).1)
same_ids (message.GetInvocationOutput b) (message.GetInvocationOutput a) ignore is e = inl (one_id a.result_completion_id b.result_completion_id (both _ _ e).1)
same_ids m (message.Sleep a) ignore is e = absurd (cc)
same_ids m (message.GetLazyState a) ignore is e = absurd (cc)
same_ids m (message.GetLazyStateKeys a) ignore is e = absurd (cc)
same_ids m (message.Call a) ignore is e = absurd (cc)
same_ids m (message.OneWayCall a) ignore is e = absurd (cc)
same_ids m (message.GetPromise a) ignore is e = absurd (cc)
same_ids m (message.PeekPromise a) ignore is e = absurd (cc)
same_ids m (message.CompletePromise a) ignore is e = absurd (cc)
same_ids m (message.Run a) ignore is e = absurd (cc)
same_ids m (message.AttachInvocation a) ignore is e = absurd (cc)
same_ids m (message.GetInvocationOutput a) ignore is e = absurd (cc)
same_ids m n ignore is e = inr refl

-- the ids of what is needed
abbrev ids_needed : Demand → List ℕ
ids_needed (Exactly command ignore) = carried command
ids_needed (Reads r id) = id ∷ []

-- a recorded form of a read carries the read's id, or none
lazy_carries : (r : StateRead) (id : ℕ) (n : Message) → header_equal n (lazy_form r id) true ≡ true → carried n ≡ id ∷ []
unfolding header_equal
lazy_carries (reads.Value key name) id (message.GetLazyState a) e = one_id a.result_completion_id id (both _ _ e).1
lazy_carries (reads.Keys name) id (message.GetLazyStateKeys a) e = one_id a.result_completion_id id (both _ _ e).0
lazy_carries (reads.Value key name) id n e = absurd (cc)
lazy_carries (reads.Keys name) id n e = absurd (cc)

eager_carries : (r : StateRead) (n : Message) → header_equal n (eager_form r) true ≡ true → carried n ≡ []
unfolding header_equal
eager_carries (reads.Value key name) (message.GetEagerState a) e = refl
eager_carries (reads.Keys name) (message.GetEagerStateKeys a) e = refl
eager_carries (reads.Value key name) n e = absurd (cc)
eager_carries (reads.Keys name) n e = absurd (cc)

form_equal : (form n : Message) (result : Option NotificationResult) → read_by form (Some n) ≡ Ok result → header_equal n form true ≡ true
form_equal form n result e = by_test (header_equal n form true) e
  where
    by_test : (b : Bool) → (if b then result_in n else Err fault.CommandMismatch) ≡ Ok result → b ≡ true
    by_test true h = refl
    by_test false h = absurd (cc)

read_carries_its : (r : StateRead) (id : ℕ) (raw : RawMessage) (result : Option NotificationResult) → recorded_as r id raw ≡ Ok result → (carried_by raw ≡ id ∷ []) ⊎ (carried_by raw ≡ [])
read_carries_its r id raw result e = by_type (type_number raw.ty == type_number (lazy_type r)) (type_number raw.ty == type_number (eager_type r)) (message_in raw.ty raw.body) e
  where
    by_type : (lazy eager : Bool) (o : Option Message) → read_in_form (if lazy then Some (lazy_form r id) else if eager then Some (eager_form r) else None) o ≡ Ok result → (read_carried o ≡ id ∷ []) ⊎ (read_carried o ≡ [])
    by_type true eager None h = absurd (cc)
    by_type true eager (Some n) h = inl (lazy_carries r id n (form_equal (lazy_form r id) n result h))
    by_type false true None h = absurd (cc)
    by_type false true (Some n) h = inr (eager_carries r n (form_equal (eager_form r) n result h))
    by_type false false o h = absurd (cc)

stands_carry : (d : Demand) (raw : RawMessage) → Stands d raw → (carried_by raw ≡ ids_needed d) ⊎ (carried_by raw ≡ [])
stands_carry (Exactly command ignore) raw (ty, (recorded, reads, equal)) =
    let is : type_of recorded ≡ type_of command = type_read raw.ty raw.body recorded reads ∙ typed raw.ty (type_of command) (eq-eqb (type_number raw.ty) (type_number (type_of command)) ty) in
    ⊎_elim
    (λ (x : carried recorded ≡ carried command). inl (ap read_carried reads ∙ x))
    (λ (x : carried recorded ≡ []). inr (ap read_carried reads ∙ x))
    (same_ids command recorded ignore is equal)
stands_carry (Reads r id) raw (result, is) = read_carries_its r id raw result is

-- ---- what calls need

-- what is needed carries ids that rise from the first number to the second
abbrev Asks : ℕ → List Demand → ℕ → Type 0
Asks low [] high = low ≤ high
Asks low (d ∷ ds) high = (mid : ℕ) × Spans low (ids_needed d) mid × Asks mid ds high

asks_less : (low less high : ℕ) (ds : List Demand) → less ≤ low → Asks low ds high → Asks less ds high
asks_less low less high [] l h = omega (arith, l, h)
asks_less low less high (d ∷ ds) l h = (h.0, spans_less low less (ids_needed d) h.0 l h.1, h.2)

asks_append : (low mid high : ℕ) (xs ys : List Demand) → Asks low xs mid → Asks mid ys high → Asks low (xs ++ ys) high
asks_append low mid high [] ys a b = asks_less mid low high ys a b
asks_append low mid high (x ∷ xs) ys a b = (a.0, a.1, asks_append a.0 mid high xs ys a.2 b)

asks_le : (low high : ℕ) (ds : List Demand) → Asks low ds high → low ≤ high
asks_le low high [] h = h
asks_le low high (d ∷ ds) h = let x = spans_le low (ids_needed d) h.0 h.1 in let y = asks_le h.0 high ds h.2 in omega (arith, x, y)

asks_front : (n low high : ℕ) (ds : List Demand) → Asks low ds high → Asks low (take n ds) high
asks_front zero low high ds h = asks_le low high ds h
asks_front (suc n) low high [] h = h
asks_front (suc n) low high (d ∷ ds) h = (h.0, h.1, asks_front n h.0 high ds h.2)

-- recorded commands that stand for what is needed carry ids that rise so
used_spans : (low high : ℕ) (ds : List Demand) (cs : List RawMessage) → Asks low ds high → StandFor ds cs → Spans low (all_carried cs) high
used_spans low high [] [] a s = a
used_spans low high [] (c ∷ cs) a s = absurd s
used_spans low high (d ∷ ds) [] a s = absurd s
used_spans low high (d ∷ ds) (c ∷ cs) a s =
    let more = used_spans a.0 high ds cs a.2 s.1 in
    ⊎_elim
    (λ (x : carried_by c ≡ ids_needed d). spans_append low a.0 high (carried_by c) (all_carried cs) (subst (λ l. Spans low l a.0) (sym x) a.1) more)
    (λ (x : carried_by c ≡ []). spans_append low a.0 high (carried_by c) (all_carried cs) (subst (λ l. Spans low l a.0) (sym x) (spans_le low (ids_needed d) a.0 a.1)) more)
    (stands_carry d c s.0)

one_span : (id : ℕ) → Spans id (id ∷ []) (id + 1)
one_span id = (omega arith, omega arith)

two_span : (id : ℕ) → Spans id (id ∷ (id + 1) ∷ []) (id + 2)
two_span id = (omega arith, (omega arith, omega arith))

given_span : (id : ℕ) (m : Message) → Spans id (carried (with_ids id m)) (id + ids_of m)
given_span id (message.Sleep c) = one_span id
given_span id (message.GetLazyState c) = one_span id
given_span id (message.GetLazyStateKeys c) = one_span id
given_span id (message.Call c) = two_span id
given_span id (message.OneWayCall c) = one_span id
given_span id (message.GetPromise c) = one_span id
given_span id (message.PeekPromise c) = one_span id
given_span id (message.CompletePromise c) = one_span id
given_span id (message.Run c) = one_span id
given_span id (message.AttachInvocation c) = one_span id
given_span id (message.GetInvocationOutput c) = one_span id
given_span id m = omega arith

number_same : (n : ℕ) → n ≤ n
number_same n = omega arith

all_ask : (s : Setup) (id : ℕ) (c : Command) (cs : List Command) → Asks id (all_needed s id c cs) (id + all_ids c cs)
all_ask s id c [] = (id + ids_of c.message, given_span id c.message, number_same (id + ids_of c.message))
all_ask s id c (b ∷ bs) = (id + ids_of c.message, given_span id c.message, subst (Asks (id + ids_of c.message) (all_needed s (id + ids_of c.message) b bs)) (plus id (ids_of c.message) (all_ids b bs)) (all_ask s (id + ids_of c.message) b bs))
  where
    plus : (a b c : ℕ) → (a + b) + c ≡ a + (b + c)
    plus a b c = omega arith

call_asks : (s : Setup) (id : ℕ) (a : Ask) → Asks id (needed_by s id a) (id + completion_ids_in a)
call_asks s id (ask.Command c) = (id + ids_of c.message, given_span id c.message, number_same (id + ids_of c.message))
call_asks s id (ask.Commands kind first second) = all_ask s id first (second ∷ [])
call_asks s id (ask.Read r) = (id + 1, one_span id, number_same (id + 1))
call_asks s id a = omega arith

cancels_ask : (s : Setup) (id : ℕ) (sent : List (List ℕ)) → Asks id (cancels_needed s sent) id
cancels_ask s id [] = number_same id
cancels_ask s id (x ∷ sent) = (id, number_same id, cancels_ask s id sent)

calls_ask : (s : Setup) (before : ℕ) (steps : List Step) (cancels : List (List (List ℕ))) → Asks (1 + before) (needed s before steps cancels) (1 + before + total (completion_ids s.version) steps)
calls_ask s before [] cancels = omega arith
calls_ask s before (st ∷ steps) [] =
    let n = completion_ids s.version st in
    asks_append (1 + before) (1 + before + n) (1 + before + (n + total (completion_ids s.version) steps)) (needed_by s (1 + before) (ask_of s.version st)) (needed s (before + n) steps [])
    (call_asks s (1 + before) (ask_of s.version st))
    (subst (λ (x : ℕ × ℕ). Asks x.0 (needed s (before + n) steps []) x.1) (λ i. (plus before n i, plus_more before n (total (completion_ids s.version) steps) i)) (calls_ask s (before + n) steps []))
  where
    plus : (a b : ℕ) → 1 + (a + b) ≡ 1 + a + b
    plus a b = omega arith

    plus_more : (a b c : ℕ) → 1 + (a + b) + c ≡ 1 + a + (b + c)
    plus_more a b c = omega arith
calls_ask s before (st ∷ steps) (sent ∷ cancels) =
    let n = completion_ids s.version st in
    asks_append (1 + before) (1 + before + n) (1 + before + (n + total (completion_ids s.version) steps)) (needed_by s (1 + before) (ask_of s.version st)) (cancels_needed s sent ++ needed s (before + n) steps cancels)
    (call_asks s (1 + before) (ask_of s.version st))
    (asks_append (1 + before + n) (1 + before + n) (1 + before + (n + total (completion_ids s.version) steps)) (cancels_needed s sent) (needed s (before + n) steps cancels)
    (cancels_ask s (1 + before + n) sent)
    (subst (λ (x : ℕ × ℕ). Asks x.0 (needed s (before + n) steps cancels) x.1) (λ i. (plus before n i, plus_more before n (total (completion_ids s.version) steps) i)) (calls_ask s (before + n) steps cancels)))
  where
    plus : (a b : ℕ) → 1 + (a + b) ≡ 1 + a + b
    plus a b = omega arith

    plus_more : (a b c : ℕ) → 1 + (a + b) + c ≡ 1 + a + (b + c)
    plus_more a b c = omega arith

-- ---- the law

-- the ids that the used commands of a run carry rise
pub told_rises : (s : Setup) (m : Meaning) (n : ℕ) (input : InputCommand) (ns : List Notification) (cs : List RawMessage) (q : Point) → after s m n (start s input ns cs) ≡ Some q → q.left ≡ [] → Rises 1 (all_carried cs)
told_rises s m n input ns cs q e spent =
    let u = commands_used s m n input ns cs q e in
    let sums = told_sums s m n input ns cs q e in
    let used = u.0 in
    let steps = calls_for m q.answers in
    let here = q.derived.counters.completion in
    let a = ask_of s.version (m q.answers) in
    let is : 1 + 0 + total (completion_ids s.version) steps ≡ here = sym sums.0 in
    let all : Spans 1 (all_carried used) (here + completion_ids_in a) =
    used_spans 1 (here + completion_ids_in a) _ used
    (asks_append 1 here (here + completion_ids_in a) (needed s 0 steps u.1) (cancels_needed s u.2 ++ take q.derived.parts (needed_by s here a))
    (subst (Asks 1 (needed s 0 steps u.1)) is (calls_ask s 0 steps u.1))
    (asks_append here here (here + completion_ids_in a) (cancels_needed s u.2) (take q.derived.parts (needed_by s here a)) (cancels_ask s here u.2)
    (asks_front q.derived.parts here (here + completion_ids_in a) (needed_by s here a) (call_asks s here a))))
    u.6
    in
    let same : used ≡ cs = sym (u.3 ∙ ap (λ l. used ++ l) spent ∙ append-nil used) in
    subst (λ l. Rises 1 (all_carried l)) same (spans_rise 1 (all_carried used) (here + completion_ids_in a) all)
