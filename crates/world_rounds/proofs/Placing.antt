-- A fault at its place among the events of a round, and the fault alone.
use Rattle.std.proofs.Common.{◌≡◌, ◌⊎◌, inl, inr, ⊎_elim, ℕ, ◌+◌, ◌<◌, ◌≤◌, List, [], ◌∷◌, ◌++◌, length, take, drop, slice_index_or, Option, Some, None, refl, sym, ap, subst, arith}
use Rattle.std.proofs.lemmas.List.{length-take-le, take_all}
use Rattle.vm_model.specs.Calls.{Meaning}
use Rattle.world_rounds.specs.declared.types.Event.{Event}
use Rattle.world_rounds.specs.declared.types.Event.TheVariants as event
use Rattle.world_rounds.specs.declared.types.Round.{Round}
use Rattle.journal_entries.specs.declared.fault.JournalFault.{JournalFault}
use Rattle.journal_entries.specs.declared.fault.JournalFault.TheVariants as journal_fault
use Rattle.world_rounds.specs.declared.types.Setting.{Setting}
use Rattle.journal_entries.specs.Arrivals.{arrival_fault}
use Rattle.world_rounds.specs.Places.{ArrivalFaultsAt, AttemptStops, FaultsAt, IsMemoryAside, RefusedStops, RoundStops}
use Rattle.world_rounds.specs.Rounds.{ArrivalsDo, ArrivalsFault, Faults, Happen, HappenFaults, Happens, Now, RoundFaults, begin}
use Rattle.world_rounds.proofs.Lists.{split_at, whole_at}

-- as many items stand before a place of a list
counted_at : {A : Type 0} (xs : List A) (i : ℕ) → i < length xs → i ≡ length (take i xs)
counted_at xs i lt = sym (length-take-le i xs (omega (arith, lt)))

-- ---- a round with its attempt

pub happen_then : (m : Meaning) (es : List Event) (e : Event) (a b c : Now) → Happen m es a b → Happens m e b c → Happen m (es ++ e ∷ []) a c
happen_then m [] e a b c h d = (c, subst (λ x. Happens m e x c) h d, refl)
happen_then m (x ∷ es) e a b c (mid, first, more) d = (mid, first, happen_then m es e mid b c more d)

pub faults_at : (m : Meaning) (events : List Event) (begun now : Now) (i : ℕ) (e : Event) (f : JournalFault) → i < length events → e ≡ slice_index_or events i e → Happen m (take i events) begun now → Faults e now f → FaultsAt m events begun (Some i) f
faults_at m events begun now i e f lt is happen faults = record {
  before = take i events;
  event = e;
  after = drop (i + 1) events;
  split = whole_at events i e lt is;
  counted = ap Some (counted_at events i lt);
  now = now;
  happen = happen;
  faults = faults;
}

pub happen_more : (m : Meaning) (events : List Event) (begun now next : Now) (i : ℕ) (e : Event) → i < length events → e ≡ slice_index_or events i e → Happen m (take i events) begun now → Happens m e now next → Happen m (take (i + 1) events) begun next
happen_more m events begun now next i e lt is happen happens = subst (λ es. Happen m es begun next) (sym (split_at events i e lt is)) (happen_then m (take i events) e begun now next happen happens)

pub happen_whole : (m : Meaning) (events : List Event) (begun now : Now) (i : ℕ) → length events ≤ i → Happen m (take i events) begun now → Happen m events begun now
happen_whole m events begun now i le happen = subst (λ es. Happen m es begun now) (take_all i events le) happen

happen_faults : (m : Meaning) (before : List Event) (e : Event) (after : List Event) (begun now : Now) (f : JournalFault) → Happen m before begun now → Faults e now f → HappenFaults m (before ++ e ∷ after) begun f
happen_faults m [] e after begun now f same h = inl (subst (λ x. Faults e x f) same h)
happen_faults m (x ∷ xs) e after begun now f (mid, first, more) h = inr (mid, first, happen_faults m xs e after mid now f more h)

-- ---- a round whose attempt was refused

arrivals_then : (before : List Event) (e : Event) (old mid new : List (List ℕ)) → ArrivalsDo before old mid → ArrivalsDo (e ∷ []) mid new → ArrivalsDo (before ++ e ∷ []) old new
arrivals_then [] e old mid new same d = subst (λ x. ArrivalsDo (e ∷ []) x new) same d
arrivals_then (event.Piece n ∷ xs) e old mid new h d = arrivals_then xs e old mid new h d
arrivals_then (event.Close ∷ xs) e old mid new h d = arrivals_then xs e old mid new h d
arrivals_then (event.Step ∷ xs) e old mid new h d = arrivals_then xs e old mid new h d
arrivals_then (event.Steps n ∷ xs) e old mid new h d = arrivals_then xs e old mid new h d
arrivals_then (event.RunResult handle exit policy ∷ xs) e old mid new h d = arrivals_then xs e old mid new h d
arrivals_then (event.Arrive x ∷ xs) e old mid new (none, more) d = (none, arrivals_then xs e (old ++ x ∷ []) mid new more d)
arrivals_then (event.Store n ∷ xs) e old mid new h d = arrivals_then xs e old mid new h d

pub arrivals_more : (events : List Event) (old journal next : List (List ℕ)) (i : ℕ) (e : Event) → i < length events → e ≡ slice_index_or events i e → ArrivalsDo (take i events) old journal → ArrivalsDo (e ∷ []) journal next → ArrivalsDo (take (i + 1) events) old next
arrivals_more events old journal next i e lt is stored more = subst (λ es. ArrivalsDo es old next) (sym (split_at events i e lt is)) (arrivals_then (take i events) e old journal next stored more)

pub arrivals_whole : (events : List Event) (old journal : List (List ℕ)) (i : ℕ) → length events ≤ i → ArrivalsDo (take i events) old journal → ArrivalsDo events old journal
arrivals_whole events old journal i le stored = subst (λ es. ArrivalsDo es old journal) (take_all i events le) stored

pub arrival_faults_at : (events : List Event) (old journal : List (List ℕ)) (i : ℕ) (e : Event) (f : JournalFault) → i < length events → e ≡ slice_index_or events i e → ArrivalsDo (take i events) old journal → ArrivalsFault (e ∷ []) journal f → ArrivalFaultsAt events old (Some i) f
arrival_faults_at events old journal i e f lt is stored faults = record {
  before = take i events;
  event = e;
  after = drop (i + 1) events;
  split = whole_at events i e lt is;
  counted = ap Some (counted_at events i lt);
  journal = journal;
  stored = stored;
  faults = faults;
}

-- an arrival's fault is that of all that begin with it
first_arrival : (e : Event) (after : List Event) (journal : List (List ℕ)) (f : JournalFault) → ArrivalsFault (e ∷ []) journal f → ArrivalsFault (e ∷ after) journal f
first_arrival (event.Piece n) after journal f h = absurd h
first_arrival event.Close after journal f h = absurd h
first_arrival event.Step after journal f h = absurd h
first_arrival (event.Steps n) after journal f h = absurd h
first_arrival (event.RunResult handle exit policy) after journal f h = absurd h
first_arrival (event.Arrive x) after journal f h =
    ⊎_elim
    (λ (z : (f ≡ journal_fault.Memory) ⊎ (arrival_fault x journal ≡ Some f)). inl z)
    (λ (z : (arrival_fault x journal ≡ None) × ArrivalsFault [] (journal ++ x ∷ []) f). absurd (z.1))
    h
first_arrival (event.Store n) after journal f h = absurd h

arrivals_fault : (before : List Event) (e : Event) (after : List Event) (old journal : List (List ℕ)) (f : JournalFault) → ArrivalsDo before old journal → ArrivalsFault (e ∷ []) journal f → ArrivalsFault (before ++ e ∷ after) old f
arrivals_fault [] e after old journal f same h = subst (λ x. ArrivalsFault (e ∷ after) x f) same (first_arrival e after journal f h)
arrivals_fault (event.Piece n ∷ xs) e after old journal f d h = arrivals_fault xs e after old journal f d h
arrivals_fault (event.Close ∷ xs) e after old journal f d h = arrivals_fault xs e after old journal f d h
arrivals_fault (event.Step ∷ xs) e after old journal f d h = arrivals_fault xs e after old journal f d h
arrivals_fault (event.Steps n ∷ xs) e after old journal f d h = arrivals_fault xs e after old journal f d h
arrivals_fault (event.RunResult handle exit policy ∷ xs) e after old journal f d h = arrivals_fault xs e after old journal f d h
arrivals_fault (event.Arrive x ∷ xs) e after old journal f (none, more) h = inr (none, arrivals_fault xs e after (old ++ x ∷ []) journal f more h)
arrivals_fault (event.Store n ∷ xs) e after old journal f d h = arrivals_fault xs e after old journal f d h

-- ---- a round

-- the fault alone
pub round_faults_so : (m : Meaning) (w : Setting) (round : Round) (old : List (List ℕ)) (place : Option ℕ) (f : JournalFault) → RoundStops m w round old place f → RoundFaults m w round old f
round_faults_so m w round old place f =
    ⊎_elim
    (λ (x : IsMemoryAside place f). inl x.1)
    (λ (o : AttemptStops m w round old place f ⊎ RefusedStops w round old place f). inr (⊎_elim
    (λ (x : AttemptStops m w round old place f). inl (record {
      alloc = x.alloc;
      speaks = x.speaks;
      start = x.start;
      faults = subst (λ es. HappenFaults m es (begin x.alloc w round old) f) (sym x.stops.split) (happen_faults m x.stops.before x.stops.event x.stops.after (begin x.alloc w round old) x.stops.now f x.stops.happen x.stops.faults);
    }))
    (λ (x : RefusedStops w round old place f). inr (record {
      error = x.error;
      refusal = x.refusal;
      faults = subst (λ es. ArrivalsFault es old f) (sym x.stops.split) (arrivals_fault x.stops.before x.stops.event x.stops.after old x.stops.journal f x.stops.stored x.stops.faults);
    }))
    o))
