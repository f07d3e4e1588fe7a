-- How many signals pass a test, counted entry by entry.
use Rattle.std.proofs.Common.{◌≡◌, ℕ, ◌+◌, Bool, true, false, List, [], ◌∷◌, ◌++◌, Option, Some, None, refl, sym, ◌∙◌, arith}
use Rattle.std.specs.Prelude.{◌&&◌, if◌then◌else◌, flat_map}
use Rattle.std.specs.List.{sum_by}
use Rattle.std.proofs.lemmas.List.Sums.{sum_by-append, sum_by-cons}
use Rattle.journal_protocol.specs.Notification.{Notification}
use Rattle.journal_protocol.specs.NotificationId.{NotificationId}
use Rattle.journal_protocol.specs.NotificationId.TheVariants.{CompletionId, SignalId, SignalName}
use Rattle.journal_entries.specs.Entries.{note_in}
use Rattle.journal_store.specs.declared.effect.Effect.{Effect}
use Rattle.journal_store.specs.declared.effect.Effect.TheVariants as effect
use Rattle.engine_inboxes.specs.declared.types.Waiting.{Waiting}
use Rattle.engine_inboxes.specs.declared.types.Waiting.TheVariants as waiting
use Rattle.engine_inboxes.specs.Deliverable.{effect_at}
use Rattle.engine_inboxes.specs.Notes.{signal_note}
use Rattle.engines.specs.declared.engine.Invocation.{Invocation}
use Rattle.engine_inboxes.specs.Targets.{is_text}
use Rattle.engines.specs.Members.{MemberView}
use Rattle.engine_fences.specs.Signals.{SignalTest, passing, signal_by, signal_read, signal_sent, signal_waiting, signals_came, signals_from, signals_of, signals_to, signals_waiting}

-- ---- what is counted

abbrev pub passes : SignalTest → Notification → ℕ
passes test n = if test n then 1 else 0

abbrev pub passes_by : SignalTest → NotificationId → Notification → ℕ
passes_by test (CompletionId id) n = 0
passes_by test (SignalId index) n = passes test n
passes_by test (SignalName name) n = passes test n

-- an entry is a signal that passes
abbrev pub comes_by : SignalTest → Option Notification → ℕ
comes_by test None = 0
comes_by test (Some n) = passes_by test n.id n

abbrev pub come_in : SignalTest → List (List ℕ) → ℕ
come_in test journal = sum_by (λ entry. comes_by test (note_in entry)) journal

abbrev pub signal_waits : SignalTest → Waiting → ℕ
signal_waits test (waiting.Id call) = 0
signal_waits test (waiting.Outcome id call) = 0
signal_waits test (waiting.Clock timer) = 0
signal_waits test (waiting.Signal s brings) = passes test (signal_note s brings)

abbrev pub wait_in : SignalTest → List Waiting → ℕ
wait_in test ws = sum_by (signal_waits test) ws

-- how many have come for an invocation or wait for it
abbrev pub signals_for : {H : Type 0} → SignalTest → MemberView H → ℕ
signals_for test m = come_in test m.course.journal + wait_in test m.waiting

-- what a stored command asks for is a signal that passes, to the invocation of this id
abbrev pub sends_by : SignalTest → List ℕ → Option Effect → ℕ
sends_by test id None = 0
sends_by test id (Some (effect.Begin b)) = 0
sends_by test id (Some (effect.Wait timer)) = 0
sends_by test id (Some (effect.Result r)) = 0
sends_by test id (Some (effect.Send s)) = if is_text id s.to && test (signal_note s.signal s.brings) then 1 else 0

abbrev pub sent_in : SignalTest → List ℕ → List (List ℕ) → ℕ
sent_in test id journal = sum_by (λ entry. sends_by test id (effect_at entry)) journal

abbrev pub sent_from : {H : Type 0} → SignalTest → List ℕ → Option (MemberView H) → ℕ
sent_from test id None = 0
sent_from test id (Some m) = sent_in test id m.course.journal

-- how many the stored commands of all invocations have sent to the one of this id
abbrev pub sent_to_id : {H : Type 0} → SignalTest → List ℕ → List (Invocation H) → ℕ
sent_to_id test id its = sum_by (λ it. sent_from test id it.member) its

-- ---- it is the number of those in the list

both_same : (a b c d : ℕ) → a ≡ b → c ≡ d → a + c ≡ b + d
both_same a b c d e f = omega (arith, e, f)

just_one : (a b : ℕ) → a ≡ b + 0 → a ≡ b
just_one a b e = omega (arith, e)

passing_one : (test : SignalTest) (n : Notification) → passing test (n ∷ []) ≡ passes test n
passing_one test n = just_one (passing test (n ∷ [])) (passes test n) (sum_by-cons (passes test) n [])

pub passing_both : (test : SignalTest) (xs ys : List Notification) → passing test (xs ++ ys) ≡ passing test xs + passing test ys
passing_both test xs ys = sum_by-append (passes test) xs ys

passing_all : {X : Type 0} (test : SignalTest) (g : X → List Notification) (f : X → ℕ) → ((x : X) → passing test (g x) ≡ f x) → (xs : List X) → passing test (flat_map g xs) ≡ sum_by f xs
passing_all test g f each [] = refl
passing_all test g f each (x ∷ xs) =
    passing_both test (g x) (flat_map g xs) ∙ both_same (passing test (g x)) (f x) (passing test (flat_map g xs)) (sum_by f xs) (each x) (passing_all test g f each xs) ∙ sym (sum_by-cons f x xs)

read_so : (test : SignalTest) (o : Option Notification) → passing test (signal_read o) ≡ comes_by test o
read_so test None = refl
read_so test (Some n) = by n.id
  where
    by : (id : NotificationId) → passing test (signal_by id n) ≡ passes_by test id n
    by (CompletionId id) = refl
    by (SignalId index) = passing_one test n
    by (SignalName name) = passing_one test n

waits_so : (test : SignalTest) (w : Waiting) → passing test (signal_waiting w) ≡ signal_waits test w
waits_so test (waiting.Id call) = refl
waits_so test (waiting.Outcome id call) = refl
waits_so test (waiting.Clock timer) = refl
waits_so test (waiting.Signal s brings) = passing_one test (signal_note s brings)

sent_so_many : (test : SignalTest) (id : List ℕ) (o : Option Effect) → passing test (signal_sent id o) ≡ sends_by test id o
sent_so_many test id None = refl
sent_so_many test id (Some (effect.Begin b)) = refl
sent_so_many test id (Some (effect.Wait timer)) = refl
sent_so_many test id (Some (effect.Result r)) = refl
sent_so_many test id (Some (effect.Send s)) = by (is_text id s.to)
  where
    by : (b : Bool) → passing test (if b then signal_note s.signal s.brings ∷ [] else []) ≡ (if b && test (signal_note s.signal s.brings) then 1 else 0)
    by true = passing_one test (signal_note s.signal s.brings)
    by false = refl

from_so : {H : Type 0} (test : SignalTest) (id : List ℕ) (o : Option (MemberView H)) → passing test (signals_from id o) ≡ sent_from test id o
from_so test id None = refl
from_so test id (Some m) = passing_all test (λ entry. signal_sent id (effect_at entry)) (λ entry. sends_by test id (effect_at entry)) (λ entry. sent_so_many test id (effect_at entry)) m.course.journal

pub count_of : {H : Type 0} (test : SignalTest) (m : MemberView H) → passing test (signals_of m) ≡ signals_for test m
count_of test m =
    passing_both test (signals_came m.course.journal) (signals_waiting m.waiting)
    ∙ both_same (passing test (signals_came m.course.journal)) (come_in test m.course.journal) (passing test (signals_waiting m.waiting)) (wait_in test m.waiting)
    (passing_all test (λ entry. signal_read (note_in entry)) (λ entry. comes_by test (note_in entry)) (λ entry. read_so test (note_in entry)) m.course.journal)
    (passing_all test signal_waiting (signal_waits test) (waits_so test) m.waiting)

pub count_to : {H : Type 0} (test : SignalTest) (id : List ℕ) (its : List (Invocation H)) → passing test (signals_to id its) ≡ sent_to_id test id its
count_to {H} test id its = passing_all test (λ (it : Invocation H). signals_from id it.member) (λ (it : Invocation H). sent_from test id it.member) (λ (it : Invocation H). from_so test id it.member) its
