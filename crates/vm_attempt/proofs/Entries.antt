-- How a machine that waits for the known entries comes to have the whole journal.
use Rattle.std.proofs.Common.{◌≡◌, ◌⊎◌, ℕ, zero, suc, ◌-◌, Bool, true, false, cond, List, [], ◌∷◌, ◌++◌, length, Option, Some, None, refl, sym, ap, ◌∙◌, subst, inl, inr, ⊎_elim, append_assoc, append-nil, arith}
use Rattle.std.specs.Prelude.{◌==◌, ◌&&◌, if◌then◌else◌, is_some, nat_le, nat_lt, IsSome}
use native.Mathlib.Nat.{zero-add, suc-add}
use Rattle.std.specs.List.{AllByRecursion}
use Rattle.std.proofs.lemmas.Bool.{eqb-true}
use Rattle.std.proofs.lemmas.Bool.Decides.{nat_tests}
use Rattle.journal_protocol.specs.NamedFault.TheVariants as fault
use Rattle.journal_protocol.specs.RawMessage.{RawMessage}
use Rattle.journal_protocol.specs.Notification.{Notification}
use Rattle.journal_protocol.specs.Bodies.{notification_in, start_in}
use Rattle.journal_protocol.specs.Types.{type_number}
use Rattle.vm_state.specs.declared.state_map.StateMap.{StateMap}
use Rattle.vm_machine.specs.declared.machine.Machine.{Machine}
use Rattle.vm_machine.specs.declared.phase.Phase.{Phase}
use Rattle.vm_machine.specs.declared.phase.Phase.TheVariants.{WaitingStart, WaitingReplayEntries, Replaying}
use Rattle.vm_machine.specs.Inputs.{acknowledgement_step, counted_entry, coverage_of, entries_in, entry_step, message_step, notification_step, queued, start_step, start_received, started_with}
use Rattle.vm_parts.specs.Starts.{start_info_of}
use Rattle.vm_machine.specs.Making.{fresh}
use Rattle.journal_protocol.specs.Start.{Start}
use Rattle.journal_protocol.specs.Version.{Version}
use Rattle.vm_types.specs.declared.options.VMOptions.{VMOptions}
use Rattle.std.proofs.Common.{Global}
use Rattle.vm_machine.specs.Outcomes.{Outcome, Done, refused, settled}
use Rattle.invocation_vm.specs.Views.{all_received, left_by, received}
use Rattle.vm_model.specs.Calls.{Setup}
use Rattle.vm_attempt.specs.Agreement.{Aside}
use Rattle.journal_entries.specs.JournalFrames.{AcknowledgesNothing, commands_among, is_acknowledgement, is_command_frame, is_ephemeral, is_notification, notifications_among, notified_by}
use Rattle.vm_model.specs.Setups.{setup_with}
use Rattle.vm_attempt.specs.Journals.{HasAll, HasStarted, StartCame, Started, StillWaits, TakenIn, aside_for, machine_fed, with_missing, phase_missing, waiting_machine}
use Rattle.vm_attempt.proofs.Arriving.{behind_one, failed_stays, live_receives, some_failure, unknown_fails, unknown_step}

-- one entry less is missing
abbrev counted_to : Setup → StateMap → Aside → ℕ → List RawMessage → List Notification → Machine
counted_to s given aside k cs ns = counted_entry (machine_fed s given (with_missing (suc k) aside) cs ns WaitingReplayEntries)

one_less : (k : ℕ) → suc k - 1 ≡ k
one_less k = omega arith

more_missing : (k : ℕ) → nat_le (suc (suc k)) 1 ≡ false
more_missing k = grind (arith, nat_tests)

phase_less : (k : ℕ) → (if nat_le (suc k) 1 then Replaying else WaitingReplayEntries) ≡ phase_missing k
phase_less zero = refl
phase_less (suc k) = ap (λ b. if b then Replaying else WaitingReplayEntries) (more_missing k)

counts_to : (s : Setup) (given : StateMap) (aside : Aside) (k : ℕ) (cs : List RawMessage) (ns : List Notification) → counted_to s given aside k cs ns ≡ waiting_machine s given aside k cs ns
counts_to s given aside k cs ns = λ i. machine_fed s given (with_missing (one_less k i) aside) cs ns (phase_less k i)

-- ---- one frame

abbrev pub message_by : RawMessage → Phase → Machine → Bool → Bool → Bool → Bool → Outcome Unit
message_by raw phase v a b c d =
    if a then start_step raw phase v
    else if b then entry_step raw phase v
    else if c then notification_step raw phase v
    else if d then acknowledgement_step raw phase v
    else unknown_step (is_ephemeral raw) raw phase v

pub receives_by : (v : Machine) (raw : RawMessage) → v.failure ≡ None → received raw v ≡ left_by (settled (message_by raw v.phase v (type_number raw.ty == 1) (is_command_frame raw) (is_notification raw) (is_acknowledgement raw)))
unfolding message_step
receives_by v raw is = live_receives v raw is

-- a frame is a command, a notification or an acknowledgement, and no two of them
record Alone (b c d : Bool) : Type 0 where
  no_note : b ≡ true → c ≡ false
  no_acknowledgement : b ≡ true → d ≡ false
  note_acknowledges_nothing : c ≡ true → d ≡ false

pub not_both : (n m : ℕ) → (nat_le 10 m && nat_lt m 30) ≡ false → nat_le 10 n && nat_lt n 30 ≡ true → (n == m) ≡ false
not_both n m outside e = by_test (n == m) refl
  where
    by_test : (b : Bool) → (n == m) ≡ b → b ≡ false
    by_test false is = refl
    by_test true is = absurd (let z : false ≡ true = sym outside ∙ subst (λ k. nat_le 10 k && nat_lt k 30 ≡ true) (eqb-true n m is) e in cc)

alone : (n : ℕ) → Alone (nat_le 10 n && nat_lt n 30) (n == 30) (n == 6)
alone n = record {
  no_note = not_both n 30 refl;
  no_acknowledgement = not_both n 6 refl;
  note_acknowledges_nothing = λ e. ap (λ k. k == 6) (eqb-true n 30 e);
}

-- one more entry came, of which this is so, or the machine has failed
abbrev Counts : Setup → StateMap → Aside → ℕ → List RawMessage → List Notification → Type 0 → Machine → Type 0
Counts s given aside k cs ns N m = IsSome m.failure ⊎ ((m ≡ waiting_machine s given aside k cs ns) × N)

queued_counts : (s : Setup) (given : StateMap) (aside : Aside) (k : ℕ) (cs : List RawMessage) (ns : List Notification) (N : Type 0) → N → (o : Option Notification)
    → Counts s given aside k (cs ++ []) (ns ++ notified_by o []) N (left_by (settled (queued o counted_entry (machine_fed s given (with_missing (suc k) aside) cs ns WaitingReplayEntries))))
queued_counts s given aside k cs ns N is None = inl refl
queued_counts s given aside k cs ns N is (Some n) = inr ((counts_to s given aside k cs (ns ++ n ∷ []) ∙ λ i. waiting_machine s given aside k (sym (append-nil cs) i) (ns ++ n ∷ [])), is)

entry_counts : (s : Setup) (given : StateMap) (aside : Aside) (k : ℕ) (cs : List RawMessage) (ns : List Notification) (raw : RawMessage) (a b c d : Bool) → Alone b c d
    → Counts s given aside k (cs ++ cond b (raw ∷ []) []) (ns ++ cond c (notified_by (notification_in raw.body) []) []) (d ≡ false) (left_by (settled (message_by raw WaitingReplayEntries (machine_fed s given (with_missing (suc k) aside) cs ns WaitingReplayEntries) a b c d)))
entry_counts s given aside k cs ns raw true b c d one = inl refl
entry_counts s given aside k cs ns raw false true true d one = absurd (let z : true ≡ false = one.no_note refl in cc)
entry_counts s given aside k cs ns raw false true false d one = inr ((counts_to s given aside k (cs ++ raw ∷ []) ns ∙ λ i. waiting_machine s given aside k (cs ++ raw ∷ []) (sym (append-nil ns) i)), one.no_acknowledgement refl)
entry_counts s given aside k cs ns raw false false true d one = queued_counts s given aside k cs ns (d ≡ false) (one.note_acknowledges_nothing refl) (notification_in raw.body)
entry_counts s given aside k cs ns raw false false false true one = inl refl
entry_counts s given aside k cs ns raw false false false false one = inl (unknown_fails (is_ephemeral raw) raw WaitingReplayEntries (machine_fed s given (with_missing (suc k) aside) cs ns WaitingReplayEntries) refl refl)

entry_comes : (s : Setup) (given : StateMap) (aside : Aside) (k : ℕ) (cs : List RawMessage) (ns : List Notification) (raw : RawMessage) → Counts s given aside k (cs ++ commands_among (raw ∷ [])) (ns ++ notifications_among (raw ∷ [])) (AcknowledgesNothing raw) (received raw (waiting_machine s given aside (suc k) cs ns))
entry_comes s given aside k cs ns raw =
    let v = waiting_machine s given aside (suc k) cs ns in
    subst (Counts s given aside k (cs ++ commands_among (raw ∷ [])) (ns ++ notifications_among (raw ∷ [])) (AcknowledgesNothing raw)) (sym (receives_by v raw refl)) (entry_counts s given aside k cs ns raw (type_number raw.ty == 1) (is_command_frame raw) (is_notification raw) (is_acknowledgement raw) (alone (type_number raw.ty)))

-- once all entries have come, a further notification is queued
queued_stays : (s : Setup) (given : StateMap) (aside : Aside) (cs : List RawMessage) (ns : List Notification) (N : Type 0) → N → (o : Option Notification)
    → Counts s given aside 0 cs (ns ++ notified_by o []) N (left_by (settled (queued o (λ w. w) (waiting_machine s given aside 0 cs ns))))
queued_stays s given aside cs ns N is None = inl refl
queued_stays s given aside cs ns N is (Some n) = inr (refl, is)

more_counts : (s : Setup) (given : StateMap) (aside : Aside) (cs : List RawMessage) (ns : List Notification) (raw : RawMessage) (a b c d : Bool) → Alone b c d
    → Counts s given aside 0 cs (ns ++ cond c (notified_by (notification_in raw.body) []) []) (d ≡ false) (left_by (settled (message_by raw Replaying (waiting_machine s given aside 0 cs ns) a b c d)))
more_counts s given aside cs ns raw true b c d one = inl refl
more_counts s given aside cs ns raw false true c d one = inl refl
more_counts s given aside cs ns raw false false true d one = queued_stays s given aside cs ns (d ≡ false) (one.note_acknowledges_nothing refl) (notification_in raw.body)
more_counts s given aside cs ns raw false false false true one = inl refl
more_counts s given aside cs ns raw false false false false one = inl (unknown_fails (is_ephemeral raw) raw Replaying (waiting_machine s given aside 0 cs ns) refl refl)

more_comes : (s : Setup) (given : StateMap) (aside : Aside) (cs : List RawMessage) (ns : List Notification) (raw : RawMessage) → Counts s given aside 0 cs (ns ++ notifications_among (raw ∷ [])) (AcknowledgesNothing raw) (received raw (waiting_machine s given aside 0 cs ns))
more_comes s given aside cs ns raw =
    let v = waiting_machine s given aside 0 cs ns in
    subst (Counts s given aside 0 cs (ns ++ notifications_among (raw ∷ [])) (AcknowledgesNothing raw)) (sym (receives_by v raw refl)) (more_counts s given aside cs ns raw (type_number raw.ty == 1) (is_command_frame raw) (is_notification raw) (is_acknowledgement raw) (alone (type_number raw.ty)))

-- ---- all frames

pub commands_behind : (raw : RawMessage) (raws : List RawMessage) → commands_among (raw ∷ []) ++ commands_among raws ≡ commands_among (raw ∷ raws)
commands_behind raw raws = by_test (is_command_frame raw)
  where
    by_test : (b : Bool) → cond b (raw ∷ []) [] ++ commands_among raws ≡ cond b (raw ∷ commands_among raws) (commands_among raws)
    by_test true = refl
    by_test false = refl

pub notifications_behind : (raw : RawMessage) (raws : List RawMessage) → notifications_among (raw ∷ []) ++ notifications_among raws ≡ notifications_among (raw ∷ raws)
notifications_behind raw raws = behind_one (is_notification raw) (notification_in raw.body) (notifications_among raws)

-- a failure stays
fails_on : (v : Machine) (raws : List RawMessage) → IsSome v.failure → IsSome (all_received raws v).failure
fails_on v raws f = let e = some_failure v f in ap (λ w. is_some w.failure) (failed_stays e.0 v raws e.1) ∙ f

-- all frames after the known entries are later arrivals
pub more_come : (s : Setup) (given : StateMap) (aside : Aside) (cs : List RawMessage) (ns : List Notification) (raws : List RawMessage) → Counts s given aside 0 cs (ns ++ notifications_among raws) (AllByRecursion AcknowledgesNothing raws) (all_received raws (waiting_machine s given aside 0 cs ns))
more_come s given aside cs ns [] = inr ((λ i. waiting_machine s given aside 0 cs (sym (append-nil ns) i)), tt)
more_come s given aside cs ns (raw ∷ raws) =
    ⊎_elim
    (λ (f : IsSome (received raw (waiting_machine s given aside 0 cs ns)).failure). inl (fails_on (received raw (waiting_machine s given aside 0 cs ns)) raws f))
    (λ (e : (received raw (waiting_machine s given aside 0 cs ns) ≡ waiting_machine s given aside 0 cs (ns ++ notifications_among (raw ∷ []))) × AcknowledgesNothing raw).
    subst (λ l. Counts s given aside 0 cs l (AcknowledgesNothing raw × AllByRecursion AcknowledgesNothing raws) (all_received raws (received raw (waiting_machine s given aside 0 cs ns)))) (append_assoc ns (notifications_among (raw ∷ [])) (notifications_among raws) ∙ ap (λ l. ns ++ l) (notifications_behind raw raws))
    (rw e.0 (also (all_received raws (waiting_machine s given aside 0 cs (ns ++ notifications_among (raw ∷ [])))) e.1 (more_come s given aside cs (ns ++ notifications_among (raw ∷ [])) raws))))
    (more_comes s given aside cs ns raw)
  where
    also : (m : Machine) → AcknowledgesNothing raw → Counts s given aside 0 cs ((ns ++ notifications_among (raw ∷ [])) ++ notifications_among raws) (AllByRecursion AcknowledgesNothing raws) m
        → Counts s given aside 0 cs ((ns ++ notifications_among (raw ∷ [])) ++ notifications_among raws) (AcknowledgesNothing raw × AllByRecursion AcknowledgesNothing raws) m
    also m none = ⊎_elim
        (λ (f : IsSome m.failure). inl f)
        (λ (x : (m ≡ waiting_machine s given aside 0 cs ((ns ++ notifications_among (raw ∷ [])) ++ notifications_among raws)) × AllByRecursion AcknowledgesNothing raws). inr (x.0, (none, x.1)))

pub entries_come : (s : Setup) (given : StateMap) (aside : Aside) (k : ℕ) (cs : List RawMessage) (ns : List Notification) (raws : List RawMessage) → TakenIn s given aside k cs ns raws (all_received raws (waiting_machine s given aside k cs ns))
entries_come s given aside zero cs ns raws =
    ⊎_elim
    (λ (f : IsSome (all_received raws (waiting_machine s given aside 0 cs ns)).failure). inl f)
    (λ (e : (all_received raws (waiting_machine s given aside 0 cs ns) ≡ waiting_machine s given aside 0 cs (ns ++ notifications_among raws)) × AllByRecursion AcknowledgesNothing raws).
    inr (inr (record { entries = []; others = raws; split = refl; none_acknowledge = e.1; count = refl; machine = e.0 ∙ λ i. waiting_machine s given aside 0 (sym (append-nil cs) i) (ns ++ notifications_among raws) })))
    (more_come s given aside cs ns raws)
entries_come s given aside (suc k) cs ns [] = inr (inl (record { left = k; none_acknowledge = tt; count = sym (zero-add (suc k)); machine = λ i. waiting_machine s given aside (suc k) (sym (append-nil cs) i) (sym (append-nil ns) i) }))
entries_come s given aside (suc k) cs ns (raw ∷ raws) =
    ⊎_elim
    (λ (f : IsSome (received raw (waiting_machine s given aside (suc k) cs ns)).failure). inl (fails_on (received raw (waiting_machine s given aside (suc k) cs ns)) raws f))
    (λ (e : (received raw (waiting_machine s given aside (suc k) cs ns) ≡ waiting_machine s given aside k (cs ++ commands_among (raw ∷ [])) (ns ++ notifications_among (raw ∷ []))) × AcknowledgesNothing raw).
    subst (λ w. TakenIn s given aside (suc k) cs ns (raw ∷ raws) (all_received raws w)) (sym e.0) (goes_on e.1 (all_received raws (waiting_machine s given aside k (cs ++ commands_among (raw ∷ [])) (ns ++ notifications_among (raw ∷ [])))) (entries_come s given aside k (cs ++ commands_among (raw ∷ [])) (ns ++ notifications_among (raw ∷ [])) raws)))
    (entry_comes s given aside k cs ns raw)
  where
    commands_are : (es : List RawMessage) → (cs ++ commands_among (raw ∷ [])) ++ commands_among es ≡ cs ++ commands_among (raw ∷ es)
    commands_are es = append_assoc cs (commands_among (raw ∷ [])) (commands_among es) ∙ ap (λ l. cs ++ l) (commands_behind raw es)

    notifications_are : (ns ++ notifications_among (raw ∷ [])) ++ notifications_among raws ≡ ns ++ notifications_among (raw ∷ raws)
    notifications_are = append_assoc ns (notifications_among (raw ∷ [])) (notifications_among raws) ∙ ap (λ l. ns ++ l) (notifications_behind raw raws)

    goes_on : AcknowledgesNothing raw → (m : Machine) → TakenIn s given aside k (cs ++ commands_among (raw ∷ [])) (ns ++ notifications_among (raw ∷ [])) raws m → TakenIn s given aside (suc k) cs ns (raw ∷ raws) m
    goes_on none m =
        ⊎_elim
        (λ (f : IsSome m.failure). inl f)
        (λ (o : StillWaits s given aside k (cs ++ commands_among (raw ∷ [])) (ns ++ notifications_among (raw ∷ [])) raws m ⊎ HasAll s given aside k (cs ++ commands_among (raw ∷ [])) (ns ++ notifications_among (raw ∷ [])) raws m).
        inr (⊎_elim
        (λ (w : StillWaits s given aside k (cs ++ commands_among (raw ∷ [])) (ns ++ notifications_among (raw ∷ [])) raws m).
        inl (record { left = w.left; none_acknowledge = (none, w.none_acknowledge); count = ap suc w.count ∙ sym (suc-add (length raws) (suc w.left)); machine = w.machine ∙ λ i. waiting_machine s given aside (suc w.left) (commands_are raws i) (notifications_are i) }))
        (λ (h : HasAll s given aside k (cs ++ commands_among (raw ∷ [])) (ns ++ notifications_among (raw ∷ [])) raws m).
        inr (record { entries = raw ∷ h.entries; others = h.others; split = ap (λ l. raw ∷ l) h.split; none_acknowledge = (none, h.none_acknowledge); count = ap suc h.count; machine = h.machine ∙ λ i. waiting_machine s given aside 0 (commands_are h.entries i) (notifications_are i) }))
        o))

-- ---- from the first frame on

-- what Start leaves
abbrev told_of : Global → Version → VMOptions → Start → List (List ℕ × Option (List ℕ)) → Machine
told_of alloc version options st entries = record (fresh alloc version options) {
  start = start_info_of version options.fallback_random_seed st;
  state = record { entries = entries; coverage = coverage_of st.partial };
  entries_missing = st.known_entries;
  phase = WaitingReplayEntries;
}

some_missing : (k : ℕ) → (k == 0) ≡ false → phase_missing k ≡ WaitingReplayEntries
some_missing zero e = absurd (cc)
some_missing (suc k) e = refl

-- the first frame is a Start that can be read, and the machine waits for the known entries; or it has failed
starts_with : (alloc : Global) (version : Version) (options : VMOptions) (raw : RawMessage) (o : Option Start) → start_in raw.body ≡ o → StartCame alloc version options raw (left_by (settled (start_received o (fresh alloc version options))))
starts_with alloc version options raw None is = inl refl
starts_with alloc version options raw (Some st) is = by_entries (entries_in st.state) refl
  where
    by_test : (entries : List (List ℕ × Option (List ℕ))) → entries_in st.state ≡ Some entries → (b : Bool) → (st.known_entries == 0) ≡ b
        → StartCame alloc version options raw (left_by (settled (if b then refused fault.KnownEntriesIsZero (fresh alloc version options) else Done (tt {0}) (told_of alloc version options st entries))))
    by_test entries e true z = inl refl
    by_test entries e false z = inr (record { start = st; entries = entries; reads = is; keys = e; machine = λ i. record (told_of alloc version options st entries) { phase = sym (some_missing st.known_entries z) i } })

    by_entries : (e : Option (List (List ℕ × Option (List ℕ)))) → entries_in st.state ≡ e → StartCame alloc version options raw (left_by (settled (started_with st e (fresh alloc version options))))
    by_entries None e = inl refl
    by_entries (Some entries) e = by_test entries e (st.known_entries == 0) refl

first_by : (alloc : Global) (version : Version) (options : VMOptions) (raw : RawMessage) (a b c d : Bool) → StartCame alloc version options raw (left_by (settled (message_by raw WaitingStart (fresh alloc version options) a b c d)))
first_by alloc version options raw true b c d = starts_with alloc version options raw (start_in raw.body) refl
first_by alloc version options raw false true c d = inl refl
first_by alloc version options raw false false true d = inl refl
first_by alloc version options raw false false false true = inl refl
first_by alloc version options raw false false false false = inl (unknown_fails (is_ephemeral raw) raw WaitingStart (fresh alloc version options) refl refl)

first_comes : (alloc : Global) (version : Version) (options : VMOptions) (raw : RawMessage) → StartCame alloc version options raw (received raw (fresh alloc version options))
first_comes alloc version options raw = subst (StartCame alloc version options raw) (sym (receives_by (fresh alloc version options) raw refl)) (first_by alloc version options raw (type_number raw.ty == 1) (is_command_frame raw) (is_notification raw) (is_acknowledgement raw))

-- frames that come to a new machine
pub journals_come : (alloc : Global) (version : Version) (options : VMOptions) (first : RawMessage) (raws : List RawMessage) → Started alloc version options first raws (all_received (first ∷ raws) (fresh alloc version options))
journals_come alloc version options first raws =
    ⊎_elim
    (λ (f : IsSome (received first (fresh alloc version options)).failure). inl (fails_on (received first (fresh alloc version options)) raws f))
    (λ (c : HasStarted alloc version options first (received first (fresh alloc version options))).
    inr (record {
      start = c.start;
      entries = c.entries;
      reads = c.reads;
      keys = c.keys;
      fed = subst (λ w. TakenIn (setup_with version options c.start) (record { entries = c.entries; coverage = coverage_of c.start.partial }) (aside_for alloc version options c.start) c.start.known_entries [] [] raws (all_received raws w)) (sym c.machine) (entries_come (setup_with version options c.start) (record { entries = c.entries; coverage = coverage_of c.start.partial }) (aside_for alloc version options c.start) c.start.known_entries [] [] raws);
    }))
    (first_comes alloc version options first)
