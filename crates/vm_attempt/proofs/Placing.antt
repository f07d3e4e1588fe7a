-- In which phase each frame of an attempt comes.
use Rattle.std.specs.List.{find}
use Rattle.vm_runs.specs.Kept.{is_for}
use Rattle.journal_protocol.specs.ProposeRunCompletion.{ProposeRunCompletion}
use Rattle.journal_protocol.specs.ProposeRunCompletionAck.{ProposeRunCompletionAck}
use Rattle.std.proofs.Common.{inl, inr, ◌≡◌, ◌≢◌, ℕ, zero, suc, ◌+◌, ◌-◌, ◌<◌, ◌≤◌, Bool, true, false, List, [], ◌∷◌, ◌++◌, length, Option, Some, None, refl, sym, ap, ◌∙◌, subst, ⊎_elim, append_assoc, append-nil, arith, length-append, Global}
use Rattle.std.specs.Prelude.{◌==◌, if◌then◌else◌, nat_le}
use Rattle.std.proofs.lemmas.Bool.Decides.{nat_tests}
use Rattle.std.proofs.lemmas.Option.{same_Some}
use Rattle.journal_protocol.specs.Error.{Error}
use Rattle.journal_protocol.specs.NamedFault.TheVariants as fault
use Rattle.journal_protocol.specs.RawMessage.{RawMessage}
use Rattle.journal_protocol.specs.GetStateEphemeralNotification.{GetStateEphemeralNotification}
use Rattle.journal_protocol.specs.VoidOrValue.{VoidOrValue}
use Rattle.journal_protocol.specs.Bodies.{ephemeral_notification_in, notification_in, start_in, acknowledgement_in}
use Rattle.vm_machine.specs.Ephemerals.{completed_by, result_comes}
use Rattle.journal_protocol.specs.Notification.{Notification}
use Rattle.journal_protocol.specs.Start.{Start}
use Rattle.journal_protocol.specs.Version.{Version}
use Rattle.journal_protocol.specs.Errors.{named_error}
use Rattle.journal_protocol.specs.Types.{type_number}
use Rattle.vm_types.specs.declared.options.VMOptions.{VMOptions}
use Rattle.vm_machine.specs.declared.machine.Machine.{Machine}
use Rattle.vm_machine.specs.declared.phase.Phase.{Phase}
use Rattle.vm_machine.specs.declared.phase.Phase.TheVariants.{WaitingStart, WaitingReplayEntries, Replaying, Processing, Closed}
use Rattle.vm_machine.specs.Inputs.{counted_entry, coverage_of, entries_in, queued, start_received, started_with, acknowledged, acknowledged_by}
use Rattle.vm_parts.specs.Starts.{start_info_of}
use Rattle.vm_machine.specs.Making.{fresh}
use Rattle.vm_machine.specs.Outcomes.{Done, refused, ruled, ruled_by, settled}
use Rattle.vm_machine.specs.Phases.{is_running}
use Rattle.invocation_vm.specs.Views.{all_received, left_by, received}
use Rattle.vm_attempt.specs.Heard.{Heard, with_pieces}
use Rattle.journal_entries.specs.JournalFrames.{is_command_frame, is_ephemeral, is_notification, is_acknowledgement}
use Rattle.vm_attempt.specs.Journals.{HasAll, StillWaits, setup_for}
use Rattle.vm_attempt.specs.Record.{Record, heard}
use Rattle.vm_attempt.specs.declared.progress.Fed.{Fed}
use Rattle.vm_model.specs.Histories.{after_head}
use Rattle.vm_attempt.specs.Arrivals.{kept_after}
use Rattle.vm_attempt.specs.Told.{BeforeInput, Begun, JournalCame, Comes, HasCome, IsLive, ProposesLate, frames_fed}
use Rattle.vm_attempt.specs.Blames.{BadFrame, Began, FailsAt, Place, fault_among}
use Rattle.vm_attempt.proofs.Arriving.{failed_stays, kept_none, unknown_dead, unknown_step}
use Rattle.vm_attempt.proofs.Blaming.{one_comes}
use Rattle.vm_attempt.proofs.Entries.{message_by, receives_by}
use Rattle.vm_attempt.proofs.Proposed.{all_keep, all_none, kept_append}
use Rattle.vm_attempt.proofs.Staying.{all_stay}
use Rattle.vm_model.specs.Fixed.{Fixed}

one_longer : (others : List RawMessage) (raw : RawMessage) → length (others ++ raw ∷ []) ≡ length others + 1
one_longer others raw = length-append others (raw ∷ [])

-- one frame more, after the known entries
still_behind : (F : List RawMessage) (raw : RawMessage) → Began F (λ n known. known ≤ n) → Began (F ++ raw ∷ []) (λ n known. known ≤ n)
still_behind F raw b = record { first = b.first; others = b.others ++ raw ∷ []; is = ap (λ l. l ++ raw ∷ []) b.is; start = b.start; reads = b.reads; counts = more (length b.others) (length (b.others ++ raw ∷ [])) b.start.known_entries (one_longer b.others raw) b.counts }
  where
    more : (n k known : ℕ) → k ≡ n + 1 → known ≤ n → known ≤ k
    more n k known e h = omega (arith, e, h)

-- one known entry more
counted_place : (F : List RawMessage) (raw : RawMessage) (k : ℕ) → Place WaitingReplayEntries k F → Place (if nat_le k 1 then Replaying else WaitingReplayEntries) (k - 1) (F ++ raw ∷ [])
counted_place F raw k b = by_test (nat_le k 1) refl
  where
    last : (n l known : ℕ) → l ≡ n + 1 → n + k ≡ known → nat_le k 1 ≡ true → known ≤ l
    last n l known e c t = let small : k ≤ 1 = grind (arith, nat_tests, t) in omega (arith, e, c, small)

    less : (n l known : ℕ) → l ≡ n + 1 → n + k ≡ known → nat_le k 1 ≡ false → (l + (k - 1) ≡ known) × (0 < k - 1)
    less n l known e c t = let big : 1 < k = grind (arith, nat_tests, t) in (omega (arith, e, c, big), omega (arith, big))

    by_test : (t : Bool) → nat_le k 1 ≡ t → Place (if t then Replaying else WaitingReplayEntries) (k - 1) (F ++ raw ∷ [])
    by_test true t = record { first = b.first; others = b.others ++ raw ∷ []; is = ap (λ l. l ++ raw ∷ []) b.is; start = b.start; reads = b.reads; counts = last (length b.others) (length (b.others ++ raw ∷ [])) b.start.known_entries (one_longer b.others raw) b.counts.0 t }
    by_test false t = record { first = b.first; others = b.others ++ raw ∷ []; is = ap (λ l. l ++ raw ∷ []) b.is; start = b.start; reads = b.reads; counts = less (length b.others) (length (b.others ++ raw ∷ [])) b.start.known_entries (one_longer b.others raw) b.counts.0 t }

-- the phase of a machine that is alive, after these frames
abbrev Stands : List RawMessage → Machine → Type 0
Stands F w = w.failure ≡ None → Place w.phase w.entries_missing F

no_failure : {A : Type 0} (e : Error) → Some e ≡ None → A
no_failure e h = absurd (cc)

some_known : (k : ℕ) → (k == 0) ≡ false → 0 < k
some_known zero e = absurd (cc)
some_known (suc k) e = omega arith

starts : (F : List RawMessage) (raw : RawMessage) (v : Machine) → F ≡ [] → (o : Option Start) → start_in raw.body ≡ o → Stands (F ++ raw ∷ []) (left_by (settled (start_received o v)))
starts F raw v none None reads = λ h. no_failure _ h
starts F raw v none (Some st) reads = by_entries (entries_in st.state)
  where
    by_known : (entries : List (List ℕ × Option (List ℕ))) (b : Bool) → (st.known_entries == 0) ≡ b
        → Stands (F ++ raw ∷ []) (left_by (settled (if b then refused fault.KnownEntriesIsZero v else Done (tt {0}) (record v { start = start_info_of v.version v.options.fallback_random_seed st; state = record { entries = entries; coverage = coverage_of st.partial }; entries_missing = st.known_entries; phase = WaitingReplayEntries }))))
    by_known entries true e h = no_failure _ h
    by_known entries false e h = record { first = raw; others = []; is = ap (λ l. l ++ raw ∷ []) none; start = st; reads = reads; counts = (omega arith, some_known st.known_entries e) }

    by_entries : (es : Option (List (List ℕ × Option (List ℕ)))) → Stands (F ++ raw ∷ []) (left_by (settled (started_with st es v)))
    by_entries None = λ h. no_failure _ h
    by_entries (Some entries) = by_known entries (st.known_entries == 0) refl

queued_counts : (F : List RawMessage) (raw : RawMessage) (v : Machine) → Place WaitingReplayEntries v.entries_missing F → (o : Option Notification) → Stands (F ++ raw ∷ []) (left_by (settled (queued o counted_entry v)))
queued_counts F raw v p None h = no_failure _ h
queued_counts F raw v p (Some n) h = counted_place F raw v.entries_missing p

queued_behind : (F : List RawMessage) (raw : RawMessage) (v : Machine) → Place v.phase v.entries_missing (F ++ raw ∷ []) → (o : Option Notification) → Stands (F ++ raw ∷ []) (left_by (settled (queued o (λ w. w) v)))
queued_behind F raw v p None h = no_failure _ h
queued_behind F raw v p (Some n) h = p

kept_behind : (F : List RawMessage) (raw : RawMessage) (v : Machine) → Place v.phase v.entries_missing (F ++ raw ∷ []) → (id : ℕ) (kept : Option ProposeRunCompletion) → Stands (F ++ raw ∷ []) (left_by (settled (acknowledged id kept v)))
kept_behind F raw v p id None h = no_failure _ h
kept_behind F raw v p id (Some kept) h = p

acknowledged_behind : (F : List RawMessage) (raw : RawMessage) (v : Machine) → Place v.phase v.entries_missing (F ++ raw ∷ []) → (ack : Option ProposeRunCompletionAck) → Stands (F ++ raw ∷ []) (left_by (settled (acknowledged_by ack v)))
acknowledged_behind F raw v p None h = no_failure _ h
acknowledged_behind F raw v p (Some ack) h = kept_behind F raw v p ack.id (find (is_for ack.id) v.proposals) h

found_behind : (F : List RawMessage) (raw : RawMessage) (v : Machine) → Place v.phase v.entries_missing (F ++ raw ∷ []) → (id : ℕ) (found : Option VoidOrValue) → Stands (F ++ raw ∷ []) (left_by (settled (result_comes id found v)))
found_behind F raw v p id None h = no_failure _ h
found_behind F raw v p id (Some found) h = p

completed_behind : (F : List RawMessage) (raw : RawMessage) (v : Machine) → Place v.phase v.entries_missing (F ++ raw ∷ []) → (n : Option GetStateEphemeralNotification) → Stands (F ++ raw ∷ []) (left_by (settled (completed_by n v)))
completed_behind F raw v p None h = no_failure _ h
completed_behind F raw v p (Some n) h = found_behind F raw v p n.id n.result h

unknown_behind : (b : Bool) (F : List RawMessage) (raw : RawMessage) (v : Machine) → Place v.phase v.entries_missing (F ++ raw ∷ []) → Stands (F ++ raw ∷ []) (left_by (settled (unknown_step b raw Processing v)))
unknown_behind true F raw v p h = completed_behind F raw v p (ephemeral_notification_in raw.body) h
unknown_behind false F raw v p h = no_failure _ h

next_by : (F : List RawMessage) (raw : RawMessage) (phase : Phase) (v : Machine) → v.phase ≡ phase → Place phase v.entries_missing F → (a b c d : Bool) → Stands (F ++ raw ∷ []) (left_by (settled (message_by raw phase v a b c d)))
next_by F raw WaitingStart v at p true b c d = starts F raw v p (start_in raw.body) refl
next_by F raw WaitingReplayEntries v at p true b c d = λ h. no_failure _ h
next_by F raw Replaying v at p true b c d = λ h. no_failure _ h
next_by F raw Processing v at p true b c d = λ h. no_failure _ h
next_by F raw Closed v at p a b c d = absurd p
next_by F raw WaitingStart v at p false true c d = λ h. no_failure _ h
next_by F raw WaitingReplayEntries v at p false true c d = λ h. counted_place F raw v.entries_missing p
next_by F raw Replaying v at p false true c d = λ h. no_failure _ h
next_by F raw Processing v at p false true c d = λ h. no_failure _ h
next_by F raw WaitingStart v at p false false true d = λ h. no_failure _ h
next_by F raw WaitingReplayEntries v at p false false true d = queued_counts F raw v p (notification_in raw.body)
next_by F raw Replaying v at p false false true d = queued_behind F raw v (subst (λ ph. Place ph v.entries_missing (F ++ raw ∷ [])) (sym at) (still_behind F raw p)) (notification_in raw.body)
next_by F raw Processing v at p false false true d = queued_behind F raw v (subst (λ ph. Place ph v.entries_missing (F ++ raw ∷ [])) (sym at) (still_behind F raw p)) (notification_in raw.body)
next_by F raw WaitingStart v at p false false false true = λ h. no_failure _ h
next_by F raw WaitingStart v at p false false false false = λ h. unknown_dead (is_ephemeral raw) raw WaitingStart v refl refl h
next_by F raw WaitingReplayEntries v at p false false false true = λ h. no_failure _ h
next_by F raw WaitingReplayEntries v at p false false false false = λ h. unknown_dead (is_ephemeral raw) raw WaitingReplayEntries v refl refl h
next_by F raw Replaying v at p false false false true = λ h. no_failure _ h
next_by F raw Replaying v at p false false false false = λ h. unknown_dead (is_ephemeral raw) raw Replaying v refl refl h
next_by F raw Processing v at p false false false true = acknowledged_behind F raw v (subst (λ ph. Place ph v.entries_missing (F ++ raw ∷ [])) (sym at) (still_behind F raw p)) (acknowledgement_in raw.body)
next_by F raw Processing v at p false false false false = unknown_behind (is_ephemeral raw) F raw v (subst (λ ph. Place ph v.entries_missing (F ++ raw ∷ [])) (sym at) (still_behind F raw p))

place_next : (F : List RawMessage) (raw : RawMessage) (v : Machine) → v.failure ≡ None → Place v.phase v.entries_missing F → Stands (F ++ raw ∷ []) (received raw v)
place_next F raw v live p = subst (Stands (F ++ raw ∷ [])) (sym (receives_by v raw live)) (next_by F raw v.phase v refl p (type_number raw.ty == 1) (is_command_frame raw) (is_notification raw) (is_acknowledgement raw))

-- where a machine stands once further frames have come
pub place_all : (raws F : List RawMessage) (v : Machine) → v.failure ≡ None → Place v.phase v.entries_missing F → Stands (F ++ raws) (all_received raws v)
place_all [] F v live p h = subst (Place v.phase v.entries_missing) (sym (append-nil F)) p
place_all (raw ∷ raws) F v live p h =
    let w = received raw v in
    ⊎_elim
    (λ (x : (w.failure ≡ None) × ((w.version ≡ v.version) × (w.options ≡ v.options))).
    subst (Place (all_received raws w).phase (all_received raws w).entries_missing) (append_assoc F (raw ∷ []) raws) (place_all raws (F ++ raw ∷ []) w x.0 (place_next F raw v live p x.0) h))
    (λ (x : (why : _) × (fault_among v.proposals v.phase raw ≡ Some why) × (w.failure ≡ Some (ruled v (named_error why None)))).
    no_failure (ruled v (named_error x.0 None)) (sym x.2 ∙ ap (λ (u : Machine). u.failure) (sym (failed_stays (ruled v (named_error x.0 None)) w raws x.2)) ∙ h))
    (one_comes raw v live)

-- What a machine that stays alive keeps once further frames have come: the proposals that weren't acknowledged; and it comes to have
-- proposed any only in Processing.
abbrev pub KeepsOn : Heard → Machine → Type 0
KeepsOn fed v = (before : List RawMessage) → (all_received before v).failure ≡ None → ((all_received before v).proposals ≡ kept_after fed.proposed (after_head (frames_fed fed ++ before))) × ProposesLate fed (all_received before v).phase

-- a frame that is refused, among all that were fed
pub bad_frame : (fixed : Fixed) (fed : Heard) (to : List Fed) (G : List RawMessage) → frames_fed (with_pieces to fed) ≡ frames_fed fed ++ G → (v m : Machine) (e : Error) → (v.version ≡ fixed.version) × (v.options ≡ fixed.options) → v.failure ≡ None → Place v.phase v.entries_missing (frames_fed fed) → KeepsOn fed v → FailsAt G v m → m.failure ≡ Some e → BadFrame fixed (with_pieces to fed) e
bad_frame fixed fed to G frames v m e made live p keeps f is =
    let F = frames_fed fed in
    let kept = keeps f.before f.live in
    record {
      before = F ++ f.before;
      raw = f.raw;
      behind = f.behind;
      split = frames ∙ ap (λ l. F ++ l) f.split ∙ sym (append_assoc F f.before (f.raw ∷ f.behind));
      phase = (all_received f.before v).phase;
      missing = (all_received f.before v).entries_missing;
      place = place_all f.before F v live p f.live;
      late = kept.1;
      why = f.why;
      reason = ap (λ ps. fault_among ps (all_received f.before v).phase f.raw) (sym kept.0) ∙ f.reason;
      error = same_Some e _ (sym is ∙ f.failure) ∙ λ i. ruled_by (made.0 i) (made.1 i) (named_error f.why None);
    }

-- ---- where the VM of an attempt stands

-- the phase of the VM after what was fed; it was made for this version and these options
abbrev pub StandsIn : Version → VMOptions → List RawMessage → Machine → Type 0
StandsIn version options F v = Place v.phase v.entries_missing F × ((v.version ≡ version) × (v.options ≡ options))

begun_stands : (fixed : Fixed) (fed : Heard) (v : Machine) → Begun fixed fed v → StandsIn fixed.version fixed.options (frames_fed fed) v
begun_stands fixed fed v b =
    ⊎_elim
    (λ (x : StillWaits (setup_for fixed b.start) (record { entries = b.state; coverage = coverage_of b.start.partial }) b.aside b.start.known_entries [] [] b.others v).
    subst (StandsIn fixed.version fixed.options (frames_fed fed)) (sym x.machine) (record { first = b.first_frame; others = b.others; is = b.frames; start = b.start; reads = b.reads_start; counts = (sym x.count, omega arith) }, (refl, refl)))
    (λ (x : HasAll (setup_for fixed b.start) (record { entries = b.state; coverage = coverage_of b.start.partial }) b.aside b.start.known_entries [] [] b.others v).
    subst (StandsIn fixed.version fixed.options (frames_fed fed)) (sym x.machine) (record { first = b.first_frame; others = b.others; is = b.frames; start = b.start; reads = b.reads_start; counts = enough (length x.entries) (length x.others) (length b.others) b.start.known_entries x.count (ap length x.split ∙ length-append x.entries x.others) }, (refl, refl)))
    b.waits
  where
    enough : (a c n known : ℕ) → a ≡ known → n ≡ a + c → known ≤ n
    enough a c n known e f = omega (arith, e, f)

comes_stands : (fixed : Fixed) (fed : Heard) (v : Machine) → Comes fixed fed v → StandsIn fixed.version fixed.options (frames_fed fed) v
comes_stands fixed fed v =
    ⊎_elim
    (λ (x : (frames_fed fed ≡ []) × ((alloc : Global) × (v ≡ fresh alloc fixed.version fixed.options))). subst (StandsIn fixed.version fixed.options (frames_fed fed)) (sym x.1.1) (x.0, (refl, refl)))
    (λ (b : Begun fixed fed v). begun_stands fixed fed v b)

running_place : (ph : Phase) (k : ℕ) (F : List RawMessage) → is_running ph ≡ true → Began F (λ n known. known ≤ n) → Place ph k F
running_place WaitingStart k F runs b = absurd (cc)
running_place WaitingReplayEntries k F runs b = absurd (cc)
running_place Replaying k F runs b = b
running_place Processing k F runs b = b
running_place Closed k F runs b = absurd (cc)

-- where the VM of an attempt stands, as long as it is alive and open
pub come_stands : (fixed : Fixed) (r : Record) → HasCome fixed r → r.vm.machine.failure ≡ None → r.vm.machine.phase ≢ Closed → StandsIn fixed.version fixed.options (frames_fed (heard fixed.version r)) r.vm.machine
come_stands fixed r k live open_yet =
    ⊎_elim
    (λ (b : BeforeInput fixed (heard fixed.version r) r.answers r.waiting r.taken r.vm). comes_stands fixed (heard fixed.version r) r.vm.machine (b.comes live))
    (λ (b : JournalCame fixed (heard fixed.version r) r.answers r.taken r.vm).
    let runs : is_running r.vm.machine.phase ≡ true = ⊎_elim (λ (x : is_running r.vm.machine.phase ≡ true). x) (λ (x : r.vm.machine.phase ≡ Closed). absurd (open_yet x)) (b.phase live) in
    let j = b.journal in
    (running_place r.vm.machine.phase r.vm.machine.entries_missing (frames_fed (heard fixed.version r)) runs (record { first = j.first_frame; others = j.entries ++ j.others; is = j.frames; start = j.start; reads = j.reads_start; counts = enough (length j.entries) (length j.others) (length (j.entries ++ j.others)) j.start.known_entries j.count (length-append j.entries j.others) }), b.made_for (record { failure = live; phase = runs })))
    k
  where
    enough : (a c n known : ℕ) → a ≡ known → n ≡ a + c → known ≤ n
    enough a c n known e f = omega (arith, e, f)

-- ---- what it keeps

comes_none : (fixed : Fixed) (fed : Heard) (v : Machine) → Comes fixed fed v → v.proposals ≡ []
comes_none fixed fed v =
    ⊎_elim
    (λ (x : (frames_fed fed ≡ []) × ((alloc : Global) × (v ≡ fresh alloc fixed.version fixed.options))). ap (λ (w : Machine). w.proposals) x.1.1)
    (λ (b : Begun fixed fed v).
    ⊎_elim
    (λ (x : StillWaits (setup_for fixed b.start) (record { entries = b.state; coverage = coverage_of b.start.partial }) b.aside b.start.known_entries [] [] b.others v). ap (λ (w : Machine). w.proposals) x.machine)
    (λ (x : HasAll (setup_for fixed b.start) (record { entries = b.state; coverage = coverage_of b.start.partial }) b.aside b.start.known_entries [] [] b.others v). ap (λ (w : Machine). w.proposals) x.machine)
    b.waits)

-- what the VM of an attempt keeps, as long as it is alive and open
pub come_keeps : (fixed : Fixed) (r : Record) → HasCome fixed r → r.vm.machine.failure ≡ None → r.vm.machine.phase ≢ Closed → KeepsOn (heard fixed.version r) r.vm.machine
come_keeps fixed r k live open_yet before alive =
    ⊎_elim
    (λ (b : BeforeInput fixed (heard fixed.version r) r.answers r.waiting r.taken r.vm).
    let frames = after_head (frames_fed (heard fixed.version r) ++ before) in
    (all_none before r.vm.machine (comes_none fixed (heard fixed.version r) r.vm.machine (b.comes live)) ∙ sym (ap (λ ps. kept_after ps frames) b.none_proposed ∙ kept_none frames), inl b.none_proposed))
    (λ (c : JournalCame fixed (heard fixed.version r) r.answers r.taken r.vm).
    let runs : is_running r.vm.machine.phase ≡ true = ⊎_elim (λ (x : is_running r.vm.machine.phase ≡ true). x) (λ (x : r.vm.machine.phase ≡ Closed). absurd (open_yet x)) (c.phase live) in
    let is_live : IsLive r.vm.machine = record { failure = live; phase = runs } in
    let fed = heard fixed.version r in
    let frames = c.journal.entries ++ c.journal.others in (
      (all_keep before r.vm.machine live runs alive).0 ∙ ap (λ ps. kept_after ps before) (c.keeps is_live).0 ∙ sym (kept_append fed.proposed frames before) ∙ ap (λ l. kept_after fed.proposed (after_head (l ++ before))) (sym c.journal.frames),
      ⊎_elim
          (λ (none : fed.proposed ≡ []). inl none)
          (λ (at : r.vm.machine.phase ≡ Processing). inr (all_stay before r.vm.machine live runs alive ∙ at))
          (c.early is_live),
    ))
    k
