-- That what waits can be delivered lasts: over a command, over a proposal, and as it comes.
use Rattle.std.proofs.Common.{◌≡◌, zero, suc, slice_index_or, ℕ, ◌+◌, ◌<◌, ◌≤◌, Bool, true, false, List, [], ◌∷◌, ◌++◌, length, Option, Some, None, refl, sym, ap, ◌∙◌, subst, arith, append-nil}
use Rattle.std.specs.Prelude.{IfErr, OnOk, Result, Ok, Err, ◌==◌, ◌||◌, if◌then◌else◌, cond, is_some, nat_le, nat_lt}
use Rattle.std.specs.List.{AllByRecursion, remove}
use Rattle.std.specs.Option.{option_and_then}
use Rattle.std.proofs.lemmas.Bool.Decides.{nat_tests}
use Rattle.journal_protocol.specs.Message.{Message}
use Rattle.journal_protocol.specs.Message.TheVariants as message
use Rattle.journal_protocol.specs.Notification.{Notification}
use Rattle.journal_protocol.specs.NotificationId.{NotificationId}
use Rattle.journal_protocol.specs.NotificationId.TheVariants.{CompletionId, SignalId, SignalName}
use Rattle.journal_protocol.specs.NotificationResult.{NotificationResult}
use Rattle.journal_protocol.specs.NotificationResult.TheVariants as result
use Rattle.journal_protocol.specs.RawMessage.{RawMessage}
use Rattle.journal_protocol.specs.CallCommand.{CallCommand}
use Rattle.journal_protocol.specs.ValueOrFailure.{ValueOrFailure}
use Rattle.journal_store.specs.Awakeables.{awakeable_named}
use Rattle.journal_store.specs.Effects.{awoken, effect_of, timer_of}
use Rattle.journal_protocol.specs.Signal.{Signal}
use Rattle.journal_protocol.specs.Signal.TheVariants as signal
use Rattle.journal_protocol.specs.Bodies.{message_in, notification_in}
use Rattle.vm_asks.specs.Carried.{carried}
use Rattle.journal_entries.specs.Journal.{read_before}
use Rattle.journal_entries.specs.JournalFrames.{is_command_frame, is_notification, notified_by}
use Rattle.journal_entries.specs.declared.completions.Completes.{Completes}
use Rattle.journal_entries.specs.declared.completions.Completes.TheVariants as completes
use Rattle.journal_entries.specs.declared.fault.JournalFault.{JournalFault}
use Rattle.journal_entries.specs.declared.fault.JournalFault.TheVariants as journal_fault
use Rattle.journal_entries.specs.Arrivals.{arrival_fault, completes_among, completes_by, completes_id, completion_fault, if_same, is_invocation_id, is_of, read_fault, room_fault}
use Rattle.journal_entries.specs.Entries.{frame_in, note_in, note_of, notes_in, read_from, said_at, said_by, said_in}
use Rattle.journal_entries.proofs.Framing.{command_no_note, note_no_command, notes_append}
use Rattle.engine_inboxes.specs.declared.types.InboxFault.{InboxFault}
use Rattle.engine_inboxes.specs.declared.types.InboxFault.TheVariants as fault
use Rattle.engine_inboxes.specs.declared.types.Waiting.{Waiting}
use Rattle.engine_inboxes.specs.declared.types.Waiting.TheVariants as waiting
use Rattle.engine_inboxes.specs.declared.types.Brought.{Brought}
use Rattle.engine_inboxes.specs.declared.types.Brought.TheVariants as brought
use Rattle.engine_inboxes.specs.Notes.{completion, note_by, signal_id}
use Rattle.engine_inboxes.specs.Ids.{carried_pair, past_new}
use Rattle.engine_inboxes.specs.Deliverable.{WaitForOthers, CanAllCome, CanCome, CommandFaults, Commanded, Deliverable, Entered, EntryFaults, IsPendingId, IsCarriedId, IsCarriedNote, IsUnknownFrom, IsProposedApart, IsUnwaited, Known, MayBeStored, WaitOnce, completes_waited, effect_said, id_is_waited, waits_for_id, is_waited, kind_of, kinds_in, known_in, past_said, waited_by}

-- ---- one entry more

pub said_append : (xs ys : List (List ℕ)) → said_in (xs ++ ys) ≡ said_in xs ++ said_in ys
said_append [] ys = refl
said_append (x ∷ xs) ys = ap (read_before (said_at x)) (said_append xs ys) ∙ by_said (said_at x)
  where
    by_said : (o : Option Message) → read_before o (said_in xs ++ said_in ys) ≡ read_before o (said_in xs) ++ said_in ys
    by_said None = refl
    by_said (Some m) = refl

-- what completes an id, after an entry that may be a command
abbrev pub kind_with : Option Message → ℕ → Option Completes → Option Completes
kind_with None id before = before
kind_with (Some m) id before = completes_by id m before

-- whether it is completed, after an entry that may be a notification
abbrev pub done_with : Option Notification → ℕ → Bool → Bool
done_with None id before = before
done_with (Some n) id before = before || is_of id n.id

among_more : (id : ℕ) (ms : List Message) (m : Message) (before : Option Completes) → completes_among id (ms ++ m ∷ []) before ≡ completes_by id m (completes_among id ms before)
among_more id [] m before = refl
among_more id (x ∷ xs) m before = among_more id xs m (completes_by id x before)

among_read : (id : ℕ) (ms : List Message) (o : Option Message) (before : Option Completes) → completes_among id (ms ++ read_before o []) before ≡ kind_with o id (completes_among id ms before)
among_read id ms None before = ap (λ l. completes_among id l before) (append-nil ms)
among_read id ms (Some m) before = among_more id ms m before

or_nothing : (b : Bool) → (b || false) ≡ b
or_nothing true = refl
or_nothing false = refl

or_more : (b c d e : Bool) → c ≡ (d || e) → (b || c) ≡ ((b || d) || e)
or_more true c d e h = refl
or_more false c d e h = h

completed_more : (id : ℕ) (ns : List Notification) (n : Notification) → completes_id id (ns ++ n ∷ []) ≡ (completes_id id ns || is_of id n.id)
completed_more id [] n = or_nothing (is_of id n.id)
completed_more id (x ∷ xs) n = or_more (is_of id x.id) (completes_id id (xs ++ n ∷ [])) (completes_id id xs) (is_of id n.id) (completed_more id xs n)

completed_read : (id : ℕ) (ns : List Notification) (o : Option Notification) → completes_id id (ns ++ notified_by o []) ≡ done_with o id (completes_id id ns)
completed_read id ns None = ap (completes_id id) (append-nil ns)
completed_read id ns (Some n) = completed_more id ns n

pub kind_after : (journal : List (List ℕ)) (x : List ℕ) (id : ℕ) → (known_in (journal ++ x ∷ [])).kind id ≡ kind_with (said_at x) id ((known_in journal).kind id)
kind_after journal x id = ap (λ l. completes_among id l None) (said_append journal (x ∷ [])) ∙ among_read id (said_in journal) (said_at x) None

pub done_after : (journal : List (List ℕ)) (x : List ℕ) (id : ℕ) → (known_in (journal ++ x ∷ [])).done id ≡ done_with (note_in x) id ((known_in journal).done id)
done_after journal x id = ap (completes_id id) (notes_append journal (x ∷ [])) ∙ completed_read id (notes_in journal) (note_in x)

-- ---- lists of what waits

-- of these the one at a place is an other one than the rest
all_join : {A : Type 0} (P : A → Type 0) (xs ys : List A) → AllByRecursion P xs → AllByRecursion P ys → AllByRecursion P (xs ++ ys)
all_join P [] ys a b = b
all_join P (x ∷ xs) ys a b = (a.0, all_join P xs ys a.1 b)

all_map : {A : Type 0} (P Q : A → Type 0) (xs : List A) → ((x : A) → P x → Q x) → AllByRecursion P xs → AllByRecursion Q xs
all_map P Q [] f a = tt
all_map P Q (x ∷ xs) f a = (f x a.0, all_map P Q xs f a.1)

-- they wait for different ids
abbrev IsOther : Waiting → Waiting → Type 0
IsOther w v = (id : ℕ) → waits_for_id id w ≡ true → waits_for_id id v ≡ false

other_back : (w v : Waiting) → IsOther w v → IsOther v w
other_back w v h id f = by (waits_for_id id w) refl
  where
    by : (b : Bool) → waits_for_id id w ≡ b → b ≡ false
    by false e = refl
    by true e = sym f ∙ h id e

once_join : (xs ys : List Waiting) → WaitOnce xs → WaitOnce ys → AllByRecursion (λ x. WaitForOthers x ys) xs → WaitOnce (xs ++ ys)
once_join [] ys a b c = b
once_join (x ∷ xs) ys a b c = (all_join (IsOther x) xs ys a.0 c.0, once_join xs ys a.1 b c.1)

all_at : {A : Type 0} (P : A → Type 0) (xs : List A) (i : ℕ) (x : A) → i < length xs → x ≡ slice_index_or xs i x → AllByRecursion P xs → P x
all_at P [] i x lt is a = absurd (omega (arith, lt))
all_at P (y ∷ ys) zero x lt is a = subst P (sym is) a.0
all_at P (y ∷ ys) (suc i) x lt is a = all_at P ys i x (omega (arith, lt)) is a.1

all_removed : {A : Type 0} (P : A → Type 0) (xs : List A) (i : ℕ) → AllByRecursion P xs → AllByRecursion P (remove xs i)
all_removed P [] zero a = tt
all_removed P [] (suc i) a = tt
all_removed P (x ∷ xs) zero a = a.1
all_removed P (x ∷ xs) (suc i) a = (a.0, all_removed P xs i a.1)

once_removed : (xs : List Waiting) (i : ℕ) → WaitOnce xs → WaitOnce (remove xs i)
once_removed [] zero a = tt
once_removed [] (suc i) a = tt
once_removed (x ∷ xs) zero a = a.1
once_removed (x ∷ xs) (suc i) a = (all_removed (IsOther x) xs i a.0, once_removed xs i a.1)

-- what is taken waits for another id than what is left
others_removed : (xs : List Waiting) (i : ℕ) (w : Waiting) → i < length xs → w ≡ slice_index_or xs i w → WaitOnce xs → WaitForOthers w (remove xs i)
others_removed [] i w lt is o = absurd (omega (arith, lt))
others_removed (x ∷ xs) zero w lt is o = subst (λ v. WaitForOthers v xs) (sym is) o.0
others_removed (x ∷ xs) (suc i) w lt is o = (other_back x w (all_at (IsOther x) xs i w (omega (arith, lt)) is o.0), others_removed xs i w (omega (arith, lt)) is o.1)

pub none_some : {A : Type 0} (b : A) → None ≡ Some b → ⊥
none_some b e = cc

-- ---- ids

is_less : (id q : ℕ) → id < q → (id == q) ≡ false
is_less id q lt = grind (arith, nat_tests)

is_more : (id q : ℕ) → q < id → (id == q) ≡ false
is_more id q lt = grind (arith, nat_tests)

pub same_id : (id q : ℕ) → (id == q) ≡ true → id ≡ q
same_id id q e = grind (arith, nat_tests)

-- ---- an id is completed

module _ (k k' : Known) (ws : List Waiting) (next : ℕ) (kinds : (q : ℕ) → k'.kind q ≡ k.kind q) where
  -- nothing has changed
  pub same_come : ((q : ℕ) → k'.done q ≡ k.done q) → CanAllCome k ws next → CanAllCome k' ws next
  same_come dones c = record {
    new = λ q le. (kinds q ∙ (c.new q le).0, dones q ∙ (c.new q le).1);
    come = all_map (CanCome k) (CanCome k') ws (λ w h q f. (kinds q ∙ (h q f).0, dones q ∙ (h q f).1)) c.come;
    once = c.once;
  }

  module _ (id : ℕ) (dones : (q : ℕ) → k'.done q ≡ (k.done q || (id == q))) (below : id < next) where
    done_is : (q : ℕ) → k.done q ≡ false → (id == q) ≡ false → k'.done q ≡ false
    done_is q a b = dones q ∙ (λ i. a i || b i)

    other_id : (w : Waiting) (q : ℕ) → waits_for_id id w ≡ false → waits_for_id q w ≡ true → (id == q) ≡ false
    other_id w q a b = by (id == q) refl
      where
        by : (t : Bool) → (id == q) ≡ t → t ≡ false
        by false e = refl
        by true e = let s : id ≡ q = same_id id q e in sym (sym a ∙ ap (λ z. waits_for_id z w) s ∙ b)

    -- an id that nobody waits for is completed
    pub done_come : AllByRecursion (λ w. waits_for_id id w ≡ false) ws → CanAllCome k ws next → CanAllCome k' ws next
    done_come others c = record {
      new = λ q le. (kinds q ∙ (c.new q le).0, done_is q (c.new q le).1 (is_less id q (omega (arith, below, le))));
      come = all_both ws others c.come;
      once = c.once;
    }
      where
        all_both : (vs : List Waiting) → AllByRecursion (λ w. waits_for_id id w ≡ false) vs → AllByRecursion (CanCome k) vs → AllByRecursion (CanCome k') vs
        all_both [] a b = tt
        all_both (v ∷ vs) a b = ((λ q f. (kinds q ∙ (b.0 q f).0, done_is q (b.0 q f).1 (other_id v q a.0 f))), all_both vs a.1 b.1)

-- an id that something waits for, or that a command carries, is below the next
known_below : (k : Known) (next id : ℕ) (kind : Completes) → IsUnknownFrom k next → k.kind id ≡ Some kind → id < next
known_below k next id kind new e = by (nat_lt id next) refl
  where
    by : (b : Bool) → nat_lt id next ≡ b → id < next
    by true t = grind (arith, nat_tests)
    by false t =
        let le : next ≤ id = grind (arith, nat_tests) in
        let none : None ≡ Some kind = sym (new id le).0 ∙ e in
        cc

-- ---- what waits is taken

module _ (k k' : Known) (ws : List Waiting) (next i id : ℕ) (w : Waiting) (lt : i < length ws) (at : w ≡ slice_index_or ws i w) (own : waits_for_id id w ≡ true) (kinds : (q : ℕ) → k'.kind q ≡ k.kind q) (dones : (q : ℕ) → k'.done q ≡ (k.done q || (id == q))) (c : CanAllCome k ws next) where
  pub taken_awaited : IsPendingId k (kind_of w) id
  taken_awaited = all_at (CanCome k) ws i w lt at c.come id own

  -- the rest can come after it
  pub taken_come : CanAllCome k' (remove ws i) next
  taken_come = done_come k k' (remove ws i) next kinds id dones (known_below k next id (kind_of w) c.new taken_awaited.0)
      (all_map (IsOther w) (λ v. waits_for_id id v ≡ false) (remove ws i) (λ v o. o id own) (others_removed ws i w lt at c.once))
      (record { new = c.new; come = all_removed (CanCome k) ws i c.come; once = once_removed ws i c.once })

-- ---- a command is stored

-- this is not the id
abbrev pub IsNot : ℕ → Option ℕ → Type 0
IsNot q None = Unit {0}
IsNot q (Some id) = (id == q) ≡ false

untouched : (q : ℕ) (m : Message) (b : Option Completes) → IsNot q (carried_pair m).0 → IsNot q (carried_pair m).1 → completes_by q m b ≡ b
untouched q (message.Start c) b x y = refl
untouched q (message.Suspension c) b x y = refl
untouched q (message.Error c) b x y = refl
untouched q message.End b x y = refl
untouched q (message.ProposeRunCompletion c) b x y = refl
untouched q (message.ProposeRunCompletionAck c) b x y = refl
untouched q (message.AwaitingOn c) b x y = refl
untouched q (message.GetStateEphemeralCommand c) b x y = refl
untouched q (message.GetStateEphemeralNotification c) b x y = refl
untouched q (message.Input c) b x y = refl
untouched q (message.GetEagerState c) b x y = refl
untouched q (message.GetLazyState c) b x y = ap (λ t. if_same t completes.AnyResult b) x
untouched q (message.GetEagerStateKeys c) b x y = refl
untouched q (message.GetLazyStateKeys c) b x y = ap (λ t. if_same t completes.AnyResult b) x
untouched q (message.SetState c) b x y = refl
untouched q (message.ClearState c) b x y = refl
untouched q (message.ClearAllState c) b x y = refl
untouched q (message.Sleep c) b x y = ap (λ t. if_same t completes.AnyResult b) x
untouched q (message.Call c) b x y = λ i. if_same (y i) completes.AnyResult (if_same (x i) completes.InvocationId b)
untouched q (message.OneWayCall c) b x y = ap (λ t. if_same t completes.InvocationId b) x
untouched q (message.CompleteAwakeable c) b x y = refl
untouched q (message.SendSignal c) b x y = refl
untouched q (message.GetPromise c) b x y = ap (λ t. if_same t completes.AnyResult b) x
untouched q (message.PeekPromise c) b x y = ap (λ t. if_same t completes.AnyResult b) x
untouched q (message.CompletePromise c) b x y = ap (λ t. if_same t completes.AnyResult b) x
untouched q (message.Run c) b x y = ap (λ t. if_same t completes.Proposal b) x
untouched q (message.AttachInvocation c) b x y = ap (λ t. if_same t completes.AnyResult b) x
untouched q (message.GetInvocationOutput c) b x y = ap (λ t. if_same t completes.AnyResult b) x
untouched q (message.Output c) b x y = refl
untouched q (message.Notification c) b x y = refl

-- an id is from one number on and below the next
record Between (next next' : ℕ) (o : Option ℕ) : Type 0 where
  pub grows : next ≤ next'
  pub below : (q : ℕ) → q < next → IsNot q o
  pub above : (q : ℕ) → next' ≤ q → IsNot q o

-- the number is this one, if there is one
abbrev IsIt : ℕ → ℕ → Option ℕ → Type 0
IsIt next next' None = Unit {0}
IsIt next next' (Some id) = (next ≤ id) × (id < next')

one_past : (next next' : ℕ) (o : Option ℕ) → past_new next o ≡ Some next' → Between next next' o × IsIt next next' o
one_past next next' None e =
    let s : next ≡ next' = cc in
    (record { grows = omega (arith, s); below = λ q lt. tt; above = λ q le. tt }, tt)
one_past next next' (Some id) e = by (nat_lt id next) refl e
  where
    by : (b : Bool) → nat_lt id next ≡ b → (if b then None else Some (id + 1)) ≡ Some next' → Between next next' (Some id) × IsIt next next' (Some id)
    by true t h = absurd (cc)
    by false t h =
        let s : id + 1 ≡ next' = cc in
        let le : next ≤ id = grind (arith, nat_tests) in
        let lt : id < next' = omega (arith, s) in
        (record { grows = omega (arith, le, lt); below = λ q l. is_more id q (omega (arith, l, le)); above = λ q l. is_less id q (omega (arith, l, lt)) }, (le, lt))

-- what a notification is that something has become
abbrev pub Brings : Completes → NotificationResult → Type 0
Brings completes.AnyResult r = Unit {0}
Brings completes.InvocationId r = is_invocation_id r ≡ true
Brings completes.Proposal r = ⊥

abbrev pub FitsId : Waiting → NotificationId → NotificationResult → Type 0
FitsId w (CompletionId id) r = (waits_for_id id w ≡ true) × Brings (kind_of w) r
FitsId w (SignalId s) r = Unit {0}
FitsId w (SignalName s) r = Unit {0}

itself : (n : ℕ) → (n == n) ≡ true
itself n = grind (arith, nat_tests)

pub some_same : {A : Type 0} (a b : A) → Some a ≡ Some b → a ≡ b
some_same a b e = cc

signal_fits : (w : Waiting) (s : Signal) (r : NotificationResult) → FitsId w (signal_id s) r
signal_fits w (signal.Index i) r = tt
signal_fits w (signal.Name n) r = tt

pub fits : (w : Waiting) (b : Brought) (n : Notification) → note_by w b ≡ Some n → FitsId w n.id n.result
fits (waiting.Id id) (brought.Id text) n e = subst (λ (x : Notification). FitsId (waiting.Id id) x.id x.result) (some_same _ n e) (itself id, refl)
fits (waiting.Id id) (brought.Outcome r) n e = absurd (none_some n e)
fits (waiting.Id id) (brought.Time t) n e = absurd (none_some n e)
fits (waiting.Outcome id call) (brought.Id text) n e = absurd (none_some n e)
fits (waiting.Outcome id call) (brought.Outcome r) n e = subst (λ (x : Notification). FitsId (waiting.Outcome id call) x.id x.result) (some_same _ n e) (itself id, tt)
fits (waiting.Outcome id call) (brought.Time t) n e = absurd (none_some n e)
fits (waiting.Clock timer) (brought.Id text) n e = absurd (none_some n e)
fits (waiting.Clock timer) (brought.Outcome r) n e = absurd (none_some n e)
fits (waiting.Clock timer) (brought.Time t) n e = by (nat_le timer.due t) e
  where
    by : (b : Bool) → (if b then Some (completion timer.completes result.Void) else None) ≡ Some n → FitsId (waiting.Clock timer) n.id n.result
    by true h = subst (λ (x : Notification). FitsId (waiting.Clock timer) x.id x.result) (some_same _ n h) (itself timer.completes, tt)
    by false h = absurd (none_some n h)
fits (waiting.Signal s r) (brought.Id text) n e = absurd (none_some n e)
fits (waiting.Signal s r) (brought.Outcome o) n e = absurd (none_some n e)
fits (waiting.Signal s r) (brought.Time t) n e = subst (λ (x : Notification). FitsId (waiting.Signal s r) x.id x.result) (some_same _ n e) (signal_fits (waiting.Signal s r) s r)

-- a notification is no command
pub note_said : (x : List ℕ) (n : Notification) → note_in x ≡ Some n → said_at x ≡ None
note_said x n e = by (frame_in x) e
  where
    by_raw : (raw : RawMessage) → note_of raw ≡ Some n → said_by raw ≡ None
    by_raw raw h = of (is_notification raw) refl h
      where
        of : (b : Bool) → is_notification raw ≡ b → cond b (notification_in raw.body) None ≡ Some n → said_by raw ≡ None
        of true t g = ap (λ z. cond z (message_in raw.ty raw.body) None) (note_no_command raw t)
        of false t g = absurd (none_some n g)

    by : (o : Option RawMessage) → read_from note_of o ≡ Some n → read_from said_by o ≡ None
    by None h = absurd (none_some n h)
    by (Some raw) h = by_raw raw h

brings_room : (kind : Completes) (r : NotificationResult) (room : Option JournalFault) → Brings kind r → completion_fault (Some kind) false r room ≡ room
brings_room completes.AnyResult r room h = refl
brings_room completes.InvocationId r room h = ap (λ t. if t then room else Some journal_fault.WrongKind) h
brings_room completes.Proposal r room h = absurd h

module _ (ws : List Waiting) (next i : ℕ) (w : Waiting) (lt : i < length ws) (at : w ≡ slice_index_or ws i w) (entry : List ℕ) (journal : List (List ℕ)) (d : Deliverable journal ws next) where
  kinds_same : (n : Notification) → note_in entry ≡ Some n → (q : ℕ) → (known_in (journal ++ entry ∷ [])).kind q ≡ (known_in journal).kind q
  kinds_same n e q = kind_after journal entry q ∙ ap (λ o. kind_with o q ((known_in journal).kind q)) (note_said entry n e)

  dones_are : (n : Notification) → note_in entry ≡ Some n → (q : ℕ) → (known_in (journal ++ entry ∷ [])).done q ≡ ((known_in journal).done q || is_of q n.id)
  dones_are n e q = done_after journal entry q ∙ ap (λ o. done_with o q ((known_in journal).done q)) e

  rest : CanAllCome (known_in journal) (remove ws i) next
  rest = record { new = d.new; come = all_removed (CanCome (known_in journal)) ws i d.come; once = once_removed ws i d.once }

  by_id : (id : NotificationId) (r : NotificationResult) → FitsId w id r → note_in entry ≡ Some (record { id = id; result = r }) → (arrival_fault entry journal ≡ room_fault journal) × Deliverable (journal ++ entry ∷ []) (remove ws i) next
  by_id (CompletionId id) r f e =
      let a = taken_awaited (known_in journal) (known_in (journal ++ entry ∷ [])) ws next i id w lt at f.0 (kinds_same _ e) (dones_are _ e) d in (
        ap (λ o. read_fault o journal) e ∙ (λ j. completion_fault (a.0 j) (a.1 j) r (room_fault journal)) ∙ brings_room (kind_of w) r (room_fault journal) f.1,
        taken_come (known_in journal) (known_in (journal ++ entry ∷ [])) ws next i id w lt at f.0 (kinds_same _ e) (dones_are _ e) d,
      )
  by_id (SignalId s) r f e =
      (ap (λ o. read_fault o journal) e, same_come (known_in journal) (known_in (journal ++ entry ∷ [])) (remove ws i) next (kinds_same _ e) (λ q. dones_are _ e q ∙ or_nothing ((known_in journal).done q)) rest)
  by_id (SignalName s) r f e =
      (ap (λ o. read_fault o journal) e, same_come (known_in journal) (known_in (journal ++ entry ∷ [])) (remove ws i) next (kinds_same _ e) (λ q. dones_are _ e q ∙ or_nothing ((known_in journal).done q)) rest)

-- what is taken has no fault, and the rest can come after it
pub take_comes : (ws : List Waiting) (next i : ℕ) (w : Waiting) (b : Brought) (n : Notification) (new : List Waiting) → i < length ws → w ≡ slice_index_or ws i w → note_by w b ≡ Some n → new ≡ remove ws i → (entry : List ℕ) (journal : List (List ℕ)) → note_in entry ≡ Some n → Deliverable journal ws next → (arrival_fault entry journal ≡ room_fault journal) × Deliverable (journal ++ entry ∷ []) new next
take_comes ws next i w b n new lt at e is entry journal noted d =
    subst (λ vs. (arrival_fault entry journal ≡ room_fault journal) × Deliverable (journal ++ entry ∷ []) vs next) (sym is)
    (by_id ws next i w lt at entry journal d n.id n.result (fits w b n e) noted)

-- ---- a command is stored

-- a command is no notification
pub said_note : (x : List ℕ) (m : Message) → said_at x ≡ Some m → note_in x ≡ None
said_note x m e = by (frame_in x) e
  where
    by_raw : (raw : RawMessage) → said_by raw ≡ Some m → note_of raw ≡ None
    by_raw raw h = of (is_command_frame raw) refl h
      where
        of : (b : Bool) → is_command_frame raw ≡ b → cond b (message_in raw.ty raw.body) None ≡ Some m → note_of raw ≡ None
        of true t g = ap (λ z. cond z (notification_in raw.body) None) (command_no_note raw t)
        of false t g = absurd (none_some m g)

    by : (o : Option RawMessage) → read_from said_by o ≡ Some m → read_from note_of o ≡ None
    by None h = absurd (none_some m h)
    by (Some raw) h = by_raw raw h

-- the first and the second id of a command are new ones in order
record InOrder (next next' : ℕ) (p : Option ℕ × Option ℕ) : Type 0 where
  pub mid : ℕ
  pub first : Between next mid p.0 × IsIt next mid p.0
  pub second : Between mid next' p.1 × IsIt mid next' p.1

in_order : (next next' : ℕ) (p : Option ℕ × Option ℕ) → option_and_then (λ mid. past_new mid p.1) (past_new next p.0) ≡ Some next' → InOrder next next' p
in_order next next' p e = by (past_new next p.0) refl e
  where
    by : (o : Option ℕ) → past_new next p.0 ≡ o → option_and_then (λ mid. past_new mid p.1) o ≡ Some next' → InOrder next next' p
    by None t h = absurd (none_some next' h)
    by (Some mid) t h = record { mid = mid; first = one_past next mid p.0 t; second = one_past mid next' p.1 h }

none_other : (w : Waiting) (ws : List Waiting) (next : ℕ) → ((q : ℕ) → waits_for_id q w ≡ true → q < next) → AllByRecursion (λ v. (q : ℕ) → waits_for_id q v ≡ true → next ≤ q) ws → WaitForOthers w ws
none_other w [] next below a = tt
none_other w (v ∷ vs) next below a = ((λ q f. by q f (waits_for_id q v) refl), none_other w vs next below a.1)
  where
    by : (q : ℕ) → waits_for_id q w ≡ true → (b : Bool) → waits_for_id q v ≡ b → b ≡ false
    by q f false e = refl
    by q f true e = let l : q < next = below q f in let g : next ≤ q = a.0 q e in absurd (omega (arith, l, g))

module _ (k k' : Known) (m : Message) (ws : List Waiting) (next next' : ℕ) (kinds : (q : ℕ) → k'.kind q ≡ completes_by q m (k.kind q)) (dones : (q : ℕ) → k'.done q ≡ k.done q) (o : InOrder next next' (carried_pair m)) (c : CanAllCome k ws next) where
  grows : next ≤ next'
  grows = omega (arith, o.first.0.grows, o.second.0.grows)

  stays_below : (q : ℕ) → q < next → k'.kind q ≡ k.kind q
  stays_below q lt = kinds q ∙ untouched q m (k.kind q) (o.first.0.below q lt) (o.second.0.below q (omega (arith, lt, o.first.0.grows)))

  stays_above : (q : ℕ) → next' ≤ q → k'.kind q ≡ k.kind q
  stays_above q le = kinds q ∙ untouched q m (k.kind q) (o.first.0.above q (omega (arith, le, o.second.0.grows))) (o.second.0.above q le)

  new_after : IsUnknownFrom k' next'
  new_after q le = (stays_above q le ∙ (c.new q (omega (arith, le, grows))).0, dones q ∙ (c.new q (omega (arith, le, grows))).1)

  come_after : AllByRecursion (CanCome k') ws
  come_after = all_map (CanCome k) (CanCome k') ws (λ w h q f. (stays_below q (known_below k next q (kind_of w) c.new (h q f).0) ∙ (h q f).0, dones q ∙ (h q f).1)) c.come

  below_all : (vs : List Waiting) → AllByRecursion (CanCome k) vs → (new : List Waiting) → AllByRecursion (λ v. (q : ℕ) → waits_for_id q v ≡ true → next ≤ q) new → AllByRecursion (λ v. WaitForOthers v new) vs
  below_all [] a new b = tt
  below_all (v ∷ vs) a new b = (none_other v new next (λ q f. known_below k next q (kind_of v) c.new (a.0 q f).0) b, below_all vs a.1 new b)

  -- what the command waits for can come after it, waits once, and is of new ids
  record NewCome (new : List Waiting) : Type 0 where
    pub come : AllByRecursion (CanCome k') new
    pub once : WaitOnce new
    pub ids : AllByRecursion (λ v. (q : ℕ) → waits_for_id q v ≡ true → next ≤ q) new

  with_new : (new : List Waiting) → NewCome new → CanAllCome k' (ws ++ new) next'
  with_new new n = record {
    new = new_after;
    come = all_join (CanCome k') ws new come_after n.come;
    once = once_join ws new c.once n.once (below_all ws c.come new n.ids);
  }

  none_new : NewCome []
  none_new = record { come = tt; once = tt; ids = tt }

  -- an id from the next on that is of this kind after the command
  new_id : (id q : ℕ) (kind : Completes) → next ≤ id → ((b : Option Completes) → completes_by id m b ≡ Some kind) → (id == q) ≡ true → IsPendingId k' kind q
  new_id id q kind le e f =
      let s : id ≡ q = same_id id q f in
      subst (IsPendingId k' kind) s (kinds id ∙ e (k.kind id), dones id ∙ (c.new id le).1)

  from_next : (id q : ℕ) → next ≤ id → (id == q) ≡ true → next ≤ q
  from_next id q le f = let s : id ≡ q = same_id id q f in omega (arith, le, s)

  one_new : (w : Waiting) (id : ℕ) (kind : Completes) → next ≤ id → ((b : Option Completes) → completes_by id m b ≡ Some kind) → ((q : ℕ) → waits_for_id q w ≡ (id == q)) → kind_of w ≡ kind → NewCome (w ∷ [])
  one_new w id kind le e is same = record {
    come = ((λ q f. subst (λ x. IsPendingId k' x q) (sym same) (new_id id q kind le e (sym (is q) ∙ f))), tt);
    once = (tt, tt);
    ids = ((λ q f. from_next id q le (sym (is q) ∙ f)), tt);
  }

awoken_waits : (p : Option (List ℕ × ℕ)) (r : ValueOrFailure) → waited_by (awoken p r) ≡ []
awoken_waits None r = refl
awoken_waits (Some p) r = refl

-- what a call waits for
call_new : (k k' : Known) (x : CallCommand) (ws : List Waiting) (next next' : ℕ) (kinds : (q : ℕ) → k'.kind q ≡ completes_by q (message.Call x) (k.kind q)) (dones : (q : ℕ) → k'.done q ≡ k.done q) (o : InOrder next next' (carried_pair (message.Call x))) (c : CanAllCome k ws next) → NewCome k k' (message.Call x) ws next next' kinds dones o c (waited_by (effect_of (message.Call x)))
call_new k k' x ws next next' kinds dones o c =
    let first = x.request.invocation_id_notification_idx in
    let second = x.result_completion_id in
    let ne : (second == first) ≡ false = is_more second first (omega (arith, o.first.1.1, o.second.1.0)) in
    let le : next ≤ second = omega (arith, o.second.1.0, o.first.0.grows) in
    record {
      come = (
        (λ q f. new_id k k' (message.Call x) ws next next' kinds dones o c first q completes.InvocationId o.first.1.0 (λ b i. if_same (ne i) completes.AnyResult (if_same (itself first i) completes.InvocationId b)) f),
        ((λ q f. new_id k k' (message.Call x) ws next next' kinds dones o c second q completes.AnyResult le (λ b. ap (λ t. if_same t completes.AnyResult (if_same (first == second) completes.InvocationId b)) (itself second)) f), tt),
      );
      once = (((λ q f. let e : first ≡ q = same_id first q f in subst (λ z. (second == z) ≡ false) e ne), tt), (tt, tt));
      ids = (
        (λ q f. from_next k k' (message.Call x) ws next next' kinds dones o c first q o.first.1.0 f),
        ((λ q f. from_next k k' (message.Call x) ws next next' kinds dones o c second q le f), tt),
      );
    }

waited_new : (k k' : Known) (m : Message) (ws : List Waiting) (next next' : ℕ) (kinds : (q : ℕ) → k'.kind q ≡ completes_by q m (k.kind q)) (dones : (q : ℕ) → k'.done q ≡ k.done q) (o : InOrder next next' (carried_pair m)) (c : CanAllCome k ws next) → NewCome k k' m ws next next' kinds dones o c (waited_by (effect_of m))
waited_new k k' (message.Start x) ws next next' kinds dones o c = none_new k k' (message.Start x) ws next next' kinds dones o c
waited_new k k' (message.Suspension x) ws next next' kinds dones o c = none_new k k' (message.Suspension x) ws next next' kinds dones o c
waited_new k k' (message.Error x) ws next next' kinds dones o c = none_new k k' (message.Error x) ws next next' kinds dones o c
waited_new k k' message.End ws next next' kinds dones o c = none_new k k' message.End ws next next' kinds dones o c
waited_new k k' (message.ProposeRunCompletion x) ws next next' kinds dones o c = none_new k k' (message.ProposeRunCompletion x) ws next next' kinds dones o c
waited_new k k' (message.ProposeRunCompletionAck x) ws next next' kinds dones o c = none_new k k' (message.ProposeRunCompletionAck x) ws next next' kinds dones o c
waited_new k k' (message.AwaitingOn x) ws next next' kinds dones o c = none_new k k' (message.AwaitingOn x) ws next next' kinds dones o c
waited_new k k' (message.GetStateEphemeralCommand x) ws next next' kinds dones o c = none_new k k' (message.GetStateEphemeralCommand x) ws next next' kinds dones o c
waited_new k k' (message.GetStateEphemeralNotification x) ws next next' kinds dones o c = none_new k k' (message.GetStateEphemeralNotification x) ws next next' kinds dones o c
waited_new k k' (message.Input x) ws next next' kinds dones o c = none_new k k' (message.Input x) ws next next' kinds dones o c
waited_new k k' (message.GetEagerState x) ws next next' kinds dones o c = none_new k k' (message.GetEagerState x) ws next next' kinds dones o c
waited_new k k' (message.GetLazyState x) ws next next' kinds dones o c = none_new k k' (message.GetLazyState x) ws next next' kinds dones o c
waited_new k k' (message.GetEagerStateKeys x) ws next next' kinds dones o c = none_new k k' (message.GetEagerStateKeys x) ws next next' kinds dones o c
waited_new k k' (message.GetLazyStateKeys x) ws next next' kinds dones o c = none_new k k' (message.GetLazyStateKeys x) ws next next' kinds dones o c
waited_new k k' (message.SetState x) ws next next' kinds dones o c = none_new k k' (message.SetState x) ws next next' kinds dones o c
waited_new k k' (message.ClearState x) ws next next' kinds dones o c = none_new k k' (message.ClearState x) ws next next' kinds dones o c
waited_new k k' (message.ClearAllState x) ws next next' kinds dones o c = none_new k k' (message.ClearAllState x) ws next next' kinds dones o c
waited_new k k' (message.SendSignal x) ws next next' kinds dones o c = none_new k k' (message.SendSignal x) ws next next' kinds dones o c
waited_new k k' (message.GetPromise x) ws next next' kinds dones o c = none_new k k' (message.GetPromise x) ws next next' kinds dones o c
waited_new k k' (message.PeekPromise x) ws next next' kinds dones o c = none_new k k' (message.PeekPromise x) ws next next' kinds dones o c
waited_new k k' (message.CompletePromise x) ws next next' kinds dones o c = none_new k k' (message.CompletePromise x) ws next next' kinds dones o c
waited_new k k' (message.Run x) ws next next' kinds dones o c = none_new k k' (message.Run x) ws next next' kinds dones o c
waited_new k k' (message.AttachInvocation x) ws next next' kinds dones o c = none_new k k' (message.AttachInvocation x) ws next next' kinds dones o c
waited_new k k' (message.GetInvocationOutput x) ws next next' kinds dones o c = none_new k k' (message.GetInvocationOutput x) ws next next' kinds dones o c
waited_new k k' (message.Output x) ws next next' kinds dones o c = none_new k k' (message.Output x) ws next next' kinds dones o c
waited_new k k' (message.Notification x) ws next next' kinds dones o c = none_new k k' (message.Notification x) ws next next' kinds dones o c
waited_new k k' (message.CompleteAwakeable x) ws next next' kinds dones o c = subst (NewCome k k' (message.CompleteAwakeable x) ws next next' kinds dones o c) (sym (awoken_waits (awakeable_named x.awakeable_id) x.result)) (none_new k k' (message.CompleteAwakeable x) ws next next' kinds dones o c)
waited_new k k' (message.Sleep x) ws next next' kinds dones o c = one_new k k' (message.Sleep x) ws next next' kinds dones o c (waiting.Clock (timer_of x)) x.result_completion_id completes.AnyResult o.first.1.0 (λ b. ap (λ t. if_same t completes.AnyResult b) (itself x.result_completion_id)) (λ q. refl) refl
waited_new k k' (message.OneWayCall x) ws next next' kinds dones o c = one_new k k' (message.OneWayCall x) ws next next' kinds dones o c (waiting.Id x.request.invocation_id_notification_idx) x.request.invocation_id_notification_idx completes.InvocationId o.first.1.0 (λ b. ap (λ t. if_same t completes.InvocationId b) (itself x.request.invocation_id_notification_idx)) (λ q. refl) refl
waited_new k k' (message.Call x) ws next next' kinds dones o c = call_new k k' x ws next next' kinds dones o c

-- a stored command leaves what waits so that it can come
pub command_stays : (journal : List (List ℕ)) (entry : List ℕ) (m : Message) (ws : List Waiting) (next : ℕ) (new : List Waiting) (next' : ℕ) → said_at entry ≡ Some m → Commanded m ws next new next' → Deliverable journal ws next → Deliverable (journal ++ entry ∷ []) new next'
command_stays journal entry m ws next new next' said h d =
    let k = known_in journal in
    let k' = known_in (journal ++ entry ∷ []) in
    let kinds : (q : ℕ) → k'.kind q ≡ completes_by q m (k.kind q) = λ q. kind_after journal entry q ∙ ap (λ o. kind_with o q (k.kind q)) said in
    let dones : (q : ℕ) → k'.done q ≡ k.done q = λ q. done_after journal entry q ∙ ap (λ o. done_with o q (k.done q)) (said_note entry m said) in
    let o : InOrder next next' (carried_pair m) = in_order next next' (carried_pair m) h.past in
    subst (λ vs. CanAllCome k' vs next') (sym h.waits) (with_new k k' m ws next next' kinds dones o d (waited_by (effect_of m)) (waited_new k k' m ws next next' kinds dones o d))

-- ---- a proposal is stored

none_waited : (id : ℕ) (ws : List Waiting) → is_waited id ws ≡ false → AllByRecursion (λ w. waits_for_id id w ≡ false) ws
none_waited id [] e = tt
none_waited id (w ∷ ws) e = by (waits_for_id id w) refl e (none_waited id ws)
  where
    by : (b : Bool) → waits_for_id id w ≡ b → (b || is_waited id ws) ≡ false → (is_waited id ws ≡ false → AllByRecursion (λ v. waits_for_id id v ≡ false) ws) → (waits_for_id id w ≡ false) × AllByRecursion (λ v. waits_for_id id v ≡ false) ws
    by true t h go = let x : true ≡ false = h in cc
    by false t h go = (t, go h)

is_known : (k : Known) (next id : ℕ) → IsUnknownFrom k next → is_some (k.kind id) ≡ true → id < next
is_known k next id new e = by (k.kind id) refl e
  where
    by : (o : Option Completes) → k.kind id ≡ o → is_some o ≡ true → id < next
    by None t h = let x : false ≡ true = h in cc
    by (Some kind) t h = known_below k next id kind new t

pub entry_stays : (journal : List (List ℕ)) (entry : List ℕ) (ws : List Waiting) (next : ℕ) → said_at entry ≡ None → IsUnwaited (note_in entry) ws → MayBeStored entry journal → Deliverable journal ws next → Deliverable (journal ++ entry ∷ []) ws next
entry_stays journal entry ws next said free may d = by (note_in entry) refl free may
  where
    kinds : (q : ℕ) → (known_in (journal ++ entry ∷ [])).kind q ≡ (known_in journal).kind q
    kinds q = kind_after journal entry q ∙ ap (λ o. kind_with o q ((known_in journal).kind q)) said

    of : (id : NotificationId) (r : NotificationResult) → note_in entry ≡ Some (record { id = id; result = r }) → id_is_waited id ws ≡ false → IsCarriedId id (known_in journal) → Deliverable (journal ++ entry ∷ []) ws next
    of (CompletionId id) r e f c = done_come (known_in journal) (known_in (journal ++ entry ∷ [])) ws next kinds id (λ q. done_after journal entry q ∙ ap (λ o. done_with o q ((known_in journal).done q)) e) (is_known (known_in journal) next id d.new c) (none_waited id ws f) d
    of (SignalId s) r e f c = same_come (known_in journal) (known_in (journal ++ entry ∷ [])) ws next kinds (λ q. done_after journal entry q ∙ ap (λ o. done_with o q ((known_in journal).done q)) e ∙ or_nothing ((known_in journal).done q)) d
    of (SignalName s) r e f c = same_come (known_in journal) (known_in (journal ++ entry ∷ [])) ws next kinds (λ q. done_after journal entry q ∙ ap (λ o. done_with o q ((known_in journal).done q)) e ∙ or_nothing ((known_in journal).done q)) d

    by : (o : Option Notification) → note_in entry ≡ o → IsUnwaited o ws → IsCarriedNote o (known_in journal) → Deliverable (journal ++ entry ∷ []) ws next
    by None e f c = same_come (known_in journal) (known_in (journal ++ entry ∷ [])) ws next kinds (λ q. done_after journal entry q ∙ ap (λ o. done_with o q ((known_in journal).done q)) e) d
    by (Some n) e f c = of n.id n.result e f c

-- what waits and what is next after an entry
pub command_entered : (entry : List ℕ) (m : Message) (ws : List Waiting) (next : ℕ) (new : List Waiting) (next' : ℕ) → said_at entry ≡ Some m → Commanded m ws next new next' → Entered entry ws next new next'
command_entered entry m ws next new next' e h = record { past = ap (past_said next) e ∙ h.past; waits = h.waits ∙ ap (λ o. ws ++ waited_by (effect_said o)) (sym e) }

pub other_entered : (entry : List ℕ) (ws : List Waiting) (next : ℕ) → said_at entry ≡ None → Entered entry ws next ws next
other_entered entry ws next e = record { past = ap (past_said next) e; waits = sym (append-nil ws) ∙ ap (λ o. ws ++ waited_by (effect_said o)) (sym e) }

-- a command is no proposal
pub command_apart : {A E : Type 0} (r : Result A E) (entry : List ℕ) (m : Message) (ws : List Waiting) → said_at entry ≡ Some m → OnOk r (IsProposedApart entry ws)
command_apart (Ok a) entry m ws e = λ h. absurd (none_some m (sym h ∙ e))
command_apart (Err f) entry m ws e = tt

-- ---- all that was ever waited for

-- a command's ids are new ones, so what it waits for is of other ids than all that was waited for
pub command_adds : (journal : List (List ℕ)) (entry : List ℕ) (m : Message) (ws : List Waiting) (next next' : ℕ) → said_at entry ≡ Some m → past_said next (said_at entry) ≡ Some next' → CanAllCome (kinds_in journal) ws next → CanAllCome (kinds_in (journal ++ entry ∷ [])) (ws ++ waited_by (effect_of m)) next' × AllByRecursion (λ v. (q : ℕ) → waits_for_id q v ≡ true → next ≤ q) (waited_by (effect_of m))
command_adds journal entry m ws next next' said past c =
    let k = kinds_in journal in
    let k' = kinds_in (journal ++ entry ∷ []) in
    let kinds : (q : ℕ) → k'.kind q ≡ completes_by q m (k.kind q) = λ q. kind_after journal entry q ∙ ap (λ o. kind_with o q (k.kind q)) said in
    let dones : (q : ℕ) → k'.done q ≡ k.done q = λ q. refl in
    let o : InOrder next next' (carried_pair m) = in_order next next' (carried_pair m) (sym (ap (past_said next) said) ∙ past) in
    let n = waited_new k k' m ws next next' kinds dones o c in (
      with_new k k' m ws next next' kinds dones o c (waited_by (effect_of m)) n,
      n.ids,
    )

pub other_adds : (journal : List (List ℕ)) (entry : List ℕ) (ws : List Waiting) (next : ℕ) → said_at entry ≡ None → CanAllCome (kinds_in journal) ws next → CanAllCome (kinds_in (journal ++ entry ∷ [])) ws next
other_adds journal entry ws next said c =
    same_come (kinds_in journal) (kinds_in (journal ++ entry ∷ [])) ws next (λ q. kind_after journal entry q ∙ ap (λ o. kind_with o q ((kinds_in journal).kind q)) said) (λ q. refl) c

pub on_ok_then : {A E : Type 0} (r : Result A E) (P Q : Type 0) → (P → Q) → OnOk r P → OnOk r Q
on_ok_then (Ok a) P Q f h = f h
on_ok_then (Err e) P Q f h = tt

-- ---- the ids that a command carries

-- the ids of a command, as a list
abbrev pub id_listed : Option ℕ → List ℕ
id_listed None = []
id_listed (Some id) = id ∷ []

abbrev pub both_listed : Option ℕ × Option ℕ → List ℕ
both_listed p = id_listed p.0 ++ id_listed p.1

pub listed : (m : Message) → carried m ≡ both_listed (carried_pair m)
listed (message.Sleep c) = refl
listed (message.GetLazyState c) = refl
listed (message.GetLazyStateKeys c) = refl
listed (message.Call c) = refl
listed (message.OneWayCall c) = refl
listed (message.GetPromise c) = refl
listed (message.PeekPromise c) = refl
listed (message.CompletePromise c) = refl
listed (message.Run c) = refl
listed (message.AttachInvocation c) = refl
listed (message.GetInvocationOutput c) = refl
listed m = refl

-- ---- faults

pub if_err_then : {A E : Type 0} (r : Result A E) (P Q : E → Type 0) → ((e : E) → P e → Q e) → IfErr r P → IfErr r Q
if_err_then (Ok a) P Q f h = tt
if_err_then (Err e) P Q f h = f e h

-- the fault of a command is that of its entry
pub command_faults : (entry : List ℕ) (m : Message) (ws : List Waiting) (next : ℕ) → said_at entry ≡ Some m → (f : InboxFault) → CommandFaults m next f → EntryFaults entry ws next f
command_faults entry m ws next said fault.Memory h = tt
command_faults entry m ws next said fault.IdNotNew h = ap (past_said next) said ∙ h
command_faults entry m ws next said fault.NotARun h = absurd h

-- and that of a proposal
pub proposal_faults : (entry : List ℕ) (ws : List Waiting) (next : ℕ) → said_at entry ≡ None → completes_waited (note_in entry) ws ≡ true → (f : InboxFault) → f ≡ fault.NotARun → EntryFaults entry ws next f
proposal_faults entry ws next said waited f is = subst (EntryFaults entry ws next) (sym is) (said, waited)

-- ---- a signal waits

all_of : {A : Type 0} (P : A → Type 0) (xs : List A) → ((x : A) → P x) → AllByRecursion P xs
all_of P [] f = tt
all_of P (x ∷ xs) f = (f x, all_of P xs f)

no_id : (s : Signal) (r : NotificationResult) (k : Known) → CanCome k (waiting.Signal s r)
no_id s r k q f = let x : false ≡ true = f in cc

pub signal_stays : (journal : List (List ℕ)) (ws : List Waiting) (next : ℕ) (s : Signal) (r : NotificationResult) (new : List Waiting) (next' : ℕ) → new ≡ ws ++ waiting.Signal s r ∷ [] → next' ≡ next → Deliverable journal ws next → Deliverable journal new next'
signal_stays journal ws next s r new next' e f d =
    subst (λ n. Deliverable journal new n) (sym f) (subst (λ vs. Deliverable journal vs next) (sym e)
    (record {
      new = d.new;
      come = all_join (CanCome (known_in journal)) ws (waiting.Signal s r ∷ []) d.come (no_id s r (known_in journal), tt);
      once = once_join ws (waiting.Signal s r ∷ []) d.once (tt, tt) (all_of (λ w. WaitForOthers w (waiting.Signal s r ∷ [])) ws (λ w. ((λ q g. refl), tt)));
    }))
