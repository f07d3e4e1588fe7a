-- What an honest runtime feeds has its place, frame by frame, and its journal is the history.
use Rattle.vm_state.specs.declared.state_map.StateMap.{StateMap}
use Rattle.std.proofs.Common.{◌≡◌, ◌≢◌, ℕ, suc, ◌+◌, ◌<◌, ◌≤◌, Bool, true, false, cond, length, List, [], ◌∷◌, ◌++◌, map, Some, None, Option, refl, sym, ap, ◌∙◌, subst, append_assoc, arith}
use Rattle.std.specs.Prelude.{◌==◌, ◌&&◌, if◌then◌else◌, nat_le, nat_lt}
use Rattle.std.specs.List.{AllByRecursion, flat_map}
use Rattle.std.proofs.lemmas.Bool.Decides.{nat_tests}
use Rattle.std.proofs.lemmas.Option.{same_Some}
use Rattle.journal_protocol.specs.NamedFault.TheVariants as fault
use Rattle.journal_protocol.specs.Message.TheVariants as message
use Rattle.journal_protocol.specs.RawMessage.{RawMessage}
use Rattle.journal_protocol.specs.Notification.{Notification}
use Rattle.journal_protocol.specs.Start.{Start}
use Rattle.journal_protocol.specs.Bodies.{notification_in, start_in, acknowledgement_in}
use Rattle.journal_protocol.proofs.Facts.{acknowledgement_back, notification_back, start_back}
use Rattle.journal_protocol.specs.Frames.{IsWhole}
use Rattle.journal_protocol.specs.Types.{type_number}
use Rattle.vm_machine.specs.declared.phase.Phase.{Phase}
use Rattle.vm_machine.specs.declared.phase.Phase.TheVariants.{WaitingStart, WaitingReplayEntries, Replaying, Processing, Closed}
use Rattle.journal_entries.specs.Frames.{Tail, Rest, Garbage, frames_of, frames_joined}
use Rattle.journal_entries.proofs.Cuts.{frames_of-append}
use Rattle.vm_machine.specs.Inputs.{coverage_of, entries_in}
use Rattle.vm_model.specs.Histories.{Handed, History, Made}
use Rattle.vm_model.specs.Moves.{Point, later, start as first_point}
use Rattle.vm_model.specs.Carried.{AreOfTheirKind}
use Rattle.vm_model.proofs.RightKinds.{fewer_kinds}
use Rattle.vm_model.proofs.Runs.{made_later}
use Rattle.journal_protocol.specs.InputCommand.{InputCommand}
use Rattle.journal_entries.specs.Journal.{Entry, Recorded, Notified, commands_in, input_read_from, notifications_in, stored_form}
use Rattle.vm_attempt.specs.Heard.{Heard}
use Rattle.vm_attempt.specs.Blames.{Began, IsHonest, Place, fault_by, phase_fault, notification_fault, refused_start, start_fault}
use Rattle.vm_attempt.specs.Honest.{FeedsHonestly, CanBeFed, entry_frame, frame_bytes, notification_frame}
use Rattle.journal_entries.specs.JournalFrames.{AcknowledgesNothing, is_acknowledgement, as_entries, is_notification, recorded_by, told_by}
use Rattle.vm_attempt.specs.Journals.{setup_for}
use Rattle.vm_attempt.specs.Told.{AreRightlyKinded, Journal, NoneHasTwo, arrivals, begun, bytes_fed, frames_fed, start_state}
use Rattle.std.specs.Prelude.{IsSome}
use Rattle.std.specs.List.{find}
use Rattle.journal_protocol.specs.ProposeRunCompletionAck.{ProposeRunCompletionAck}
use Rattle.vm_runs.specs.Kept.{is_for}
use Rattle.vm_model.specs.Histories.{after_head}
use Rattle.journal_protocol.specs.ProposeRunCompletion.{ProposeRunCompletion}
use Rattle.vm_attempt.specs.Arrivals.{AllFound, FindsProposal, IsOfKept, arriving, kept_after, kept_behind}
use Rattle.vm_attempt.specs.Blames.{kept_fault, acknowledgement_body_fault}
use Rattle.vm_attempt.specs.Honest.{Further, further_frame, further_message}
use Rattle.vm_attempt.specs.Honest.Further.{Acknowledges, Notifies}
use Rattle.vm_attempt.proofs.Entries.{not_both}
use Rattle.vm_attempt.proofs.Proposed.{arriving_append, arriving_notified, found_append, kept_all, none_found}
use Rattle.vm_attempt.proofs.Replayed.{commands_same, head_same, notes_same, tail_same}
use Rattle.vm_attempt.proofs.Under.{fewer_waiting}
use Rattle.vm_attempt.proofs.Written.{Fits, frames_spelled}
use Rattle.vm_model.specs.Fixed.{Fixed}

-- ---- frames of bytes

-- a beginning of frames brings the first of them, and no garbage
record Begins (F : List RawMessage) (t : Tail) (raws : List RawMessage) : Type 0 where
  clean : t ≢ Garbage
  others : List RawMessage
  all : F ++ others ≡ raws

begins_by : (F : List RawMessage) (t : Tail) (unfed : List ℕ) (raws : List RawMessage) → frames_joined (F, t) unfed ≡ (raws, Rest []) → Begins F t raws
begins_by F (Rest bytes) unfed raws is = record { clean = λ h. absurd (cc); others = (frames_of (bytes ++ unfed)).0; all = ap (λ p. p.0) is }
begins_by F Garbage unfed raws is = absurd (let z : Garbage ≡ Rest [] = ap (λ p. p.1) is in cc)

fed_begins : (bytes unfed : List ℕ) (raws : List RawMessage) → AllByRecursion Fits raws → bytes ++ unfed ≡ flat_map frame_bytes raws → Begins (frames_of bytes).0 (frames_of bytes).1 raws
fed_begins bytes unfed raws fit is = begins_by (frames_of bytes).0 (frames_of bytes).1 unfed raws (sym (frames_of-append bytes unfed) ∙ ap frames_of is ∙ frames_spelled raws fit)

all_append : (P : RawMessage → Type 0) (xs ys : List RawMessage) → AllByRecursion P xs → AllByRecursion P ys → AllByRecursion P (xs ++ ys)
all_append P [] ys a b = b
all_append P (x ∷ xs) ys a b = (a.0, all_append P xs ys a.1 b)

entries_fit : (journal : List Entry) → AllByRecursion CanBeFed journal → AllByRecursion Fits (map entry_frame journal)
entries_fit [] all = tt
entries_fit (Recorded raw ∷ journal) all = (all.0.1, entries_fit journal all.1)
entries_fit (Notified n ∷ journal) all = (all.0.1, entries_fit journal all.1)

abbrev Wholes : List Further → Type 0
Wholes = AllByRecursion (λ f. IsWhole (further_message f))

further_fit : (more : List Further) → Wholes more → AllByRecursion Fits (map further_frame more)
further_fit [] all = tt
further_fit (f ∷ more) all = (all.0.1, further_fit more all.1)

-- ---- what a frame is

-- a command is neither a Start nor a notification
other_number : (n : ℕ) → (nat_le 10 n && nat_lt n 30) ≡ true → (n == 1) ≡ false
other_number n is = by_test (n == 1) refl
  where
    by_test : (b : Bool) → (n == 1) ≡ b → b ≡ false
    by_test false e = refl
    by_test true e = let one : n ≡ 1 = grind (arith, nat_tests, e) in absurd (let z : (nat_le 10 1 && nat_lt 1 30) ≡ true = subst (λ k. (nat_le 10 k && nat_lt k 30) ≡ true) one is in cc)

not_thirty : (n : ℕ) → (nat_le 10 n && nat_lt n 30) ≡ true → (n == 30) ≡ false
not_thirty n is = by_test (n == 30) refl
  where
    by_test : (b : Bool) → (n == 30) ≡ b → b ≡ false
    by_test false e = refl
    by_test true e = let is_thirty : n ≡ 30 = grind (arith, nat_tests, e) in absurd (let z : (nat_le 10 30 && nat_lt 30 30) ≡ true = subst (λ k. (nat_le 10 k && nat_lt k 30) ≡ true) is_thirty is in cc)

reads_note : (n : Notification) → IsWhole (message.Notification n) → notification_in (notification_frame n).body ≡ Some n
reads_note n whole = notification_back n whole

-- the journal is what its frames are read as
journal_read : (journal : List Entry) → AllByRecursion CanBeFed journal → as_entries (map entry_frame journal) ≡ journal
journal_read [] all = refl
journal_read (Recorded raw ∷ journal) all =
    (λ i. recorded_by (all.0.0 i) raw (cond (not_thirty (type_number raw.ty) all.0.0 i) (told_by (notification_in raw.body) (as_entries (map entry_frame journal))) (as_entries (map entry_frame journal))))
    ∙ ap (λ l. Recorded raw ∷ l) (journal_read journal all.1)
journal_read (Notified n ∷ journal) all =
    ap (λ o. told_by o (as_entries (map entry_frame journal))) (reads_note n all.0) ∙ ap (λ l. Notified n ∷ l) (journal_read journal all.1)

-- no frame of them is an acknowledgement
entries_acknowledge : (journal : List Entry) → AllByRecursion CanBeFed journal → AllByRecursion AcknowledgesNothing (map entry_frame journal)
entries_acknowledge [] all = tt
entries_acknowledge (Recorded raw ∷ journal) all = (not_both (type_number raw.ty) 6 refl all.0.0, entries_acknowledge journal all.1)
entries_acknowledge (Notified n ∷ journal) all = (refl, entries_acknowledge journal all.1)

-- ---- each frame has its place

-- a frame that is taken while known entries are missing, and one that is taken after them
abbrev TakenAsEntry : RawMessage → Type 0
TakenAsEntry raw = phase_fault WaitingReplayEntries raw ≡ None

record TakenBehind (raw : RawMessage) : Type 0 where
  replaying : is_acknowledgement raw ≡ false → phase_fault Replaying raw ≡ None
  processing : is_acknowledgement raw ≡ false → phase_fault Processing raw ≡ None

entries_taken : (journal : List Entry) → AllByRecursion CanBeFed journal → AllByRecursion TakenAsEntry (map entry_frame journal)
entries_taken [] all = tt
entries_taken (Recorded raw ∷ journal) all =
    ((λ i. fault_by [] WaitingReplayEntries raw (other_number (type_number raw.ty) all.0.0 i) (all.0.0 i) (is_notification raw) (is_acknowledgement raw)), entries_taken journal all.1)
entries_taken (Notified n ∷ journal) all = (ap notification_fault (reads_note n all.0), entries_taken journal all.1)

further_taken : (more : List Further) → Wholes more → AllByRecursion TakenBehind (map further_frame more)
further_taken [] all = tt
further_taken (Notifies n ∷ more) all =
    (record { replaying = λ _. ap notification_fault (reads_note n all.0); processing = λ _. ap notification_fault (reads_note n all.0) }, further_taken more all.1)
further_taken (Acknowledges a ∷ more) all =
    (record { replaying = λ is. absurd (cc); processing = λ is. absurd (cc) }, further_taken more all.1)

-- an acknowledgement among these frames can be read
abbrev IsReadable : RawMessage → Type 0
IsReadable raw = is_acknowledgement raw ≡ true → IsSome (acknowledgement_in raw.body)

further_readable : (more : List Further) → Wholes more → AllByRecursion IsReadable (map further_frame more)
further_readable [] all = tt
further_readable (Notifies n ∷ more) all = ((λ is. absurd (cc)), further_readable more all.1)
further_readable (Acknowledges a ∷ more) all = ((λ _. subst IsSome (sym (acknowledgement_back a all.0)) refl), further_readable more all.1)

entries_readable : (journal : List Entry) → AllByRecursion CanBeFed journal → AllByRecursion IsReadable (map entry_frame journal)
entries_readable [] all = tt
entries_readable (Recorded raw ∷ journal) all = ((λ is. absurd (let z : false ≡ true = sym (not_both (type_number raw.ty) 6 refl all.0.0) ∙ is in cc)), entries_readable journal all.1)
entries_readable (Notified n ∷ journal) all = ((λ is. absurd (cc)), entries_readable journal all.1)

at_place : (before : List RawMessage) (raw : RawMessage) (rest : List RawMessage) → AllByRecursion IsReadable (before ++ raw ∷ rest) → IsReadable raw
at_place [] raw rest all = all.0
at_place (b ∷ before) raw rest all = at_place before raw rest all.1

-- an acknowledgement among frames that find theirs
found_at : (kept : List ProposeRunCompletion) (before : List RawMessage) (raw : RawMessage) (rest : List RawMessage) → AllFound kept (before ++ raw ∷ rest) → FindsProposal (kept_after kept before) raw
found_at kept [] raw rest all = all.0
found_at kept (b ∷ before) raw rest all = found_at (kept_behind kept b) before raw rest all.1

taken_fault : (kept : List ProposeRunCompletion) (ack : Option ProposeRunCompletionAck) → IsSome ack → IsOfKept kept ack → acknowledgement_body_fault kept ack ≡ None
taken_fault kept None readable found = absurd (cc)
taken_fault kept (Some ack) readable found = by_kept (find (is_for ack.id) kept) found
  where
    by_kept : (o : Option ProposeRunCompletion) → IsSome o → kept_fault o ≡ None
    by_kept None h = absurd (cc)
    by_kept (Some k) h = refl

-- what stands at a place among the first of two lists, or among the second
among_first : (P : RawMessage → Type 0) (xs ys before : List RawMessage) (raw : RawMessage) (rest : List RawMessage) → xs ++ ys ≡ before ++ raw ∷ rest → length before < length xs → AllByRecursion P xs → P raw
among_first P [] ys before raw rest is fewer all = absurd (omega arith)
among_first P (x ∷ xs) ys [] raw rest is fewer all = subst P (head_same x raw (xs ++ ys) rest is) all.0
among_first P (x ∷ xs) ys (b ∷ before) raw rest is fewer all = among_first P xs ys before raw rest (tail_same x b (xs ++ ys) (before ++ raw ∷ rest) is) (omega arith) all.1

among_second : (P : RawMessage → Type 0) (xs ys before : List RawMessage) (raw : RawMessage) (rest : List RawMessage) → xs ++ ys ≡ before ++ raw ∷ rest → length xs ≤ length before → AllByRecursion P ys → P raw
among_second P [] (y ∷ ys) [] raw rest is enough all = subst P (head_same y raw ys rest is) all.0
among_second P [] (y ∷ ys) (b ∷ before) raw rest is enough all = among_second P [] ys before raw rest (tail_same y b ys (before ++ raw ∷ rest) is) (omega arith) all.1
among_second P [] [] [] raw rest is enough all = absurd (cc)
among_second P [] [] (b ∷ before) raw rest is enough all = absurd (cc)
among_second P (x ∷ xs) ys [] raw rest is enough all = absurd (omega arith)
among_second P (x ∷ xs) ys (b ∷ before) raw rest is enough all = among_second P xs ys before raw rest (tail_same x b (xs ++ ys) (before ++ raw ∷ rest) is) (omega arith) all

-- of two lists that begin a third, as long ones are the same
same_front : (xs ys us vs : List RawMessage) → xs ++ ys ≡ us ++ vs → length xs ≡ length us → xs ≡ us
same_front [] ys [] vs is same = refl
same_front [] ys (u ∷ us) vs is same = absurd (omega arith)
same_front (x ∷ xs) ys [] vs is same = absurd (omega arith)
same_front (x ∷ xs) ys (u ∷ us) vs is same = λ i. head_same x u (xs ++ ys) (us ++ vs) is i ∷ same_front xs ys us vs (tail_same x u (xs ++ ys) (us ++ vs) is) (omega arith) i

length_entries : (journal : List Entry) → length (map entry_frame journal) ≡ length journal
length_entries [] = refl
length_entries (e ∷ journal) = ap (λ n. suc n) (length_entries journal)

no_frames : {A : Type 0} (x : RawMessage) (xs : List RawMessage) → [] ≡ x ∷ xs → A
no_frames x xs h = absurd (cc)

not_none : (n : ℕ) → (suc n == 0) ≡ false
not_none n = grind (arith, nat_tests)

-- a journal that begins with a command has an entry
some_entries : (journal : List Entry) (first : RawMessage) (rest : List RawMessage) → commands_in journal ≡ first ∷ rest → (length journal == 0) ≡ false
some_entries [] first rest is = absurd (cc)
some_entries (e ∷ journal) first rest is = not_none (length journal)

module _ (fixed : Fixed) (fed : Heard) (h : FeedsHonestly fixed fed) where
  abbrev J : List RawMessage
  J = map entry_frame h.journal

  abbrev N : List RawMessage
  N = map further_frame h.more

  abbrev S : RawMessage
  S = stored_form (message.Start h.start)

  begins : Begins (frames_fed fed) (frames_of (bytes_fed fed)).1 (S ∷ (J ++ N))
  begins = fed_begins (bytes_fed fed) h.unfed (S ∷ (J ++ N)) (h.start_is_whole.1, all_append Fits J N (entries_fit h.journal h.journal_is_whole) (further_fit h.more h.more_is_whole)) h.bytes

  reads_start : start_in S.body ≡ Some h.start
  reads_start = start_back h.start h.start_is_whole

  -- the Start that was read is this one
  same_start : (first : RawMessage) (st : Start) → first ≡ S → start_in first.body ≡ Some st → st ≡ h.start
  same_start first st is reads = same_Some st h.start (sym reads ∙ ap (λ (raw : RawMessage). start_in raw.body) is ∙ reads_start)

  start_taken : phase_fault WaitingStart S ≡ None
  start_taken =
      ap start_fault reads_start ∙ ap (refused_start h.start) h.reads_state
      ∙ (λ i. if (ap (λ n. n == 0) h.known ∙ some_entries h.journal h.history.first h.history.rest h.history.begins) i then Some fault.KnownEntriesIsZero else None)

  -- at least as many frames as there are known entries
  enough : (others : List RawMessage) → Began (S ∷ others) (λ n known. known ≤ n) → length J ≤ length others
  enough others p =
      no_more (length p.others) (length others) (length J) (length h.journal) p.start.known_entries (ap length (sym (tail_same S p.first others p.others p.is))) (length_entries h.journal) (ap (λ (st : Start). st.known_entries) (same_start p.first p.start (sym (head_same S p.first others p.others p.is)) p.reads) ∙ h.known) p.counts
    where
      no_more : (n l j e known : ℕ) → n ≡ l → j ≡ e → known ≡ e → known ≤ n → j ≤ l
      no_more n l j e known a b c d = omega (arith, a, b, c, d)

  -- a frame after these, of which Start is the first
  behind_start : (others : List RawMessage) (raw : RawMessage) (rest : List RawMessage) → J ++ N ≡ others ++ raw ∷ rest → (phase : Phase) (k : ℕ) → Place phase k (S ∷ others) → is_acknowledgement raw ≡ false → phase_fault phase raw ≡ None
  behind_start others raw rest is WaitingStart k p other = absurd (cc)
  behind_start others raw rest is WaitingReplayEntries k p other =
      among_first TakenAsEntry J N others raw rest is
      (fewer (length p.others) (length others) (length J) (length h.journal) p.start.known_entries (ap length (sym (tail_same S p.first others p.others p.is))) (length_entries h.journal) (ap (λ (st : Start). st.known_entries) (same_start p.first p.start (sym (head_same S p.first others p.others p.is)) p.reads) ∙ h.known) p.counts.0 p.counts.1)
      (entries_taken h.journal h.journal_is_whole)
    where
      fewer : (n l j e known : ℕ) → n ≡ l → j ≡ e → known ≡ e → n + k ≡ known → 0 < k → l < j
      fewer n l j e known a b c d f = omega (arith, a, b, c, d, f)
  behind_start others raw rest is Replaying k p other = (among_second TakenBehind J N others raw rest is (enough others p) (further_taken h.more h.more_is_whole)).replaying other
  behind_start others raw rest is Processing k p other = (among_second TakenBehind J N others raw rest is (enough others p) (further_taken h.more h.more_is_whole)).processing other
  behind_start others raw rest is Closed k p other = absurd p

  -- each frame that was fed is taken in its place
  placed : (before : List RawMessage) (raw : RawMessage) (rest : List RawMessage) → S ∷ (J ++ N) ≡ before ++ raw ∷ rest → (phase : Phase) (k : ℕ) → Place phase k before → is_acknowledgement raw ≡ false → phase_fault phase raw ≡ None
  placed [] raw rest is WaitingStart k p other = subst (λ r. phase_fault WaitingStart r ≡ None) (head_same S raw (J ++ N) rest is) start_taken
  placed [] raw rest is WaitingReplayEntries k p other = no_frames p.first p.others p.is
  placed [] raw rest is Replaying k p other = no_frames p.first p.others p.is
  placed [] raw rest is Processing k p other = no_frames p.first p.others p.is
  placed [] raw rest is Closed k p other = absurd p
  placed (b ∷ before) raw rest is phase k p other =
      behind_start before raw rest (tail_same S b (J ++ N) (before ++ raw ∷ rest) is) phase k
      (subst (λ (f : RawMessage). Place phase k (f ∷ before)) (sym (head_same S b (J ++ N) (before ++ raw ∷ rest) is)) p) other

  -- each acknowledgement can be read
  readable : (before : List RawMessage) (raw : RawMessage) (rest : List RawMessage) → J ++ N ≡ before ++ raw ∷ rest → is_acknowledgement raw ≡ true → IsSome (acknowledgement_in raw.body)
  readable before raw rest is acknowledges =
      at_place before raw rest (subst (AllByRecursion IsReadable) is (all_append IsReadable J N (entries_readable h.journal h.journal_is_whole) (further_readable h.more h.more_is_whole))) acknowledges

  -- each acknowledgement finds its proposal
  all_found : AllFound fed.proposed (J ++ N)
  all_found =
      let quiet = entries_acknowledge h.journal h.journal_is_whole in
      found_append fed.proposed J N (none_found fed.proposed J quiet) (subst (λ ps. AllFound ps N) (sym (kept_all fed.proposed J quiet)) h.found)

  finds : (before : List RawMessage) (raw : RawMessage) (rest : List RawMessage) → S ∷ (J ++ N) ≡ before ++ raw ∷ rest → is_acknowledgement raw ≡ true → acknowledgement_body_fault (kept_after fed.proposed (after_head before)) (acknowledgement_in raw.body) ≡ None
  finds [] raw rest is acknowledges = absurd (let z : false ≡ true = ap is_acknowledgement (head_same S raw (J ++ N) rest is) ∙ acknowledges in cc)
  finds (b ∷ before) raw rest is acknowledges =
      let tail = tail_same S b (J ++ N) (before ++ raw ∷ rest) is in
      taken_fault (kept_after fed.proposed before) (acknowledgement_in raw.body) (readable before raw rest tail acknowledges) (found_at fed.proposed before raw rest (subst (AllFound fed.proposed) tail all_found) acknowledges)

  -- the known entries are the journal
  known_are : (first : RawMessage) (entries others : List RawMessage) (st : Start) → frames_fed fed ≡ first ∷ (entries ++ others) → start_in first.body ≡ Some st → length entries ≡ st.known_entries → (base : StateMap) × History (setup_for fixed st) fixed.handler base (as_entries entries)
  known_are first entries others st is reads count =
      let all : first ∷ (entries ++ (others ++ begins.others)) ≡ S ∷ (J ++ N) = sym (ap (λ l. first ∷ l) (append_assoc entries others begins.others)) ∙ ap (λ l. l ++ begins.others) (sym is) ∙ begins.all in
      let same : st ≡ h.start = same_start first st (head_same first S (entries ++ (others ++ begins.others)) (J ++ N) all) reads in
      let long : length entries ≡ length J = count ∙ ap (λ (x : Start). x.known_entries) same ∙ h.known ∙ sym (length_entries h.journal) in
      let front : entries ≡ J = same_front entries (others ++ begins.others) J N (tail_same first S (entries ++ (others ++ begins.others)) (J ++ N) all) long in
      let read : as_entries entries ≡ h.journal = ap as_entries front ∙ journal_read h.journal h.journal_is_whole in
      (h.base, subst (λ (x : Start × List Entry). History (setup_for fixed x.0) fixed.handler h.base x.1) (λ i. (sym same i, sym read i)) h.history)

  abbrev given : StateMap
  given = record { entries = h.state; coverage = coverage_of h.start.partial }

  abbrev all_notes : List Notification
  all_notes = notifications_in h.journal ++ arriving fed.proposed N

  -- What was fed is a beginning of the history and of all notifications: some arrivals are still to
  -- come, and the handler's run over what was fed is a beginning of the run over all.
  abbrev Along : Journal fed → Type 0
  Along j = (more : List Notification) × (arrivals j ++ more ≡ all_notes) × (j.rest ≡ h.history.rest)
      × ((n : ℕ) (made : List RawMessage) (p : Point) → Made (setup_for fixed j.start) fixed.handler (Handed (start_state j)) n (begun fixed j) made p → Made (setup_for fixed h.start) fixed.handler (Handed given) n (first_point (setup_for fixed h.start) h.history.input all_notes h.history.rest) made (later more p))

  along : (j : Journal fed) → Along j
  along j =
      let all : j.first_frame ∷ (j.entries ++ (j.others ++ begins.others)) ≡ S ∷ (J ++ N) = sym (ap (λ l. j.first_frame ∷ l) (append_assoc j.entries j.others begins.others)) ∙ ap (λ l. l ++ begins.others) (sym j.frames) ∙ begins.all in
      let tail = tail_same j.first_frame S (j.entries ++ (j.others ++ begins.others)) (J ++ N) all in
      let same : j.start ≡ h.start = same_start j.first_frame j.start (head_same j.first_frame S (j.entries ++ (j.others ++ begins.others)) (J ++ N) all) j.reads_start in
      let long : length j.entries ≡ length J = j.count ∙ ap (λ (x : Start). x.known_entries) same ∙ h.known ∙ sym (length_entries h.journal) in
      let read : as_entries j.entries ≡ h.journal = ap as_entries (same_front j.entries (j.others ++ begins.others) J N tail long) ∙ journal_read h.journal h.journal_is_whole in
      let commands : j.first ∷ j.rest ≡ h.history.first ∷ h.history.rest = sym j.commands ∙ sym (commands_same j.entries) ∙ ap commands_in read ∙ h.history.begins in
      let first = head_same j.first h.history.first j.rest h.history.rest commands in
      let rest = tail_same j.first h.history.first j.rest h.history.rest commands in
      let input : j.input ≡ h.history.input = same_Some j.input h.history.input (sym j.reads_input ∙ ap input_read_from first ∙ h.history.reads) in
      let came = j.entries ++ j.others in
      let more = arriving (kept_after fed.proposed came) begins.others in
      let quiet = entries_acknowledge h.journal h.journal_is_whole in
      let notes : arrivals j ++ more ≡ all_notes =
      sym (arriving_append fed.proposed came begins.others) ∙ ap (arriving fed.proposed) (append_assoc j.entries j.others begins.others ∙ tail) ∙ arriving_append fed.proposed J N
      ∙ (λ i. (arriving_notified fed.proposed J quiet ∙ sym (notes_same J) ∙ ap notifications_in (journal_read h.journal h.journal_is_whole)) i ++ arriving (kept_all fed.proposed J quiet i) N)
      in
      let state : j.state ≡ h.state = same_Some j.state h.state (sym j.reads_state ∙ ap (λ (x : Start). entries_in x.state) same ∙ h.reads_state) in (
        more,
        notes,
        rest,
        λ n made p run.
            subst
            (λ (x : Start × List (List ℕ × Option (List ℕ)) × InputCommand × List Notification × List RawMessage). Made (setup_for fixed x.0) fixed.handler (Handed (record { entries = x.1; coverage = coverage_of x.0.partial })) n (first_point (setup_for fixed x.0) x.2 x.3 x.4) made (later more p))
            (λ i. (same i, state i, input i, notes i, rest i))
            (made_later (setup_for fixed j.start) fixed.handler (Handed (start_state j)) more n (begun fixed j) made p run),
      )

  none_two : NoneHasTwo fixed fed
  none_two j n made p run = let a = along j in fewer_waiting p a.0 (h.once n made (later a.0 p) (a.3 n made p run))

  rightly_kinded : AreRightlyKinded fixed fed
  rightly_kinded j n made p run =
      let a = along j in
      fewer_kinds (arrivals j) a.0 (j.rest ++ made)
      (subst (λ (x : List Notification × List RawMessage). AreOfTheirKind x.0 (x.1 ++ made)) (λ i. (sym a.1 i, sym a.2 i)) (h.kinds n made (later a.0 p) (a.3 n made p run)))

  pub honestly_fed : IsHonest fixed fed
  honestly_fed = record {
    premises = record { replays = h.replays; queues = h.queues; once = none_two };
    kinds = rightly_kinded;
    frames = λ before raw rest phase k is p other. placed before raw (rest ++ begins.others) (sym begins.all ∙ ap (λ l. l ++ begins.others) is ∙ append_assoc before (raw ∷ rest) begins.others) phase k p other;
    acknowledgements = λ before raw rest is acknowledges. finds before raw (rest ++ begins.others) (sym begins.all ∙ ap (λ l. l ++ begins.others) is ∙ append_assoc before (raw ∷ rest) begins.others) acknowledges;
    whole = begins.clean;
    history = known_are;
  }
