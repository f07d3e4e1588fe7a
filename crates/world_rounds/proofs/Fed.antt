-- What is fed as Start, a history, and readable notifications and acknowledgements after it is an honest attempt's, in any form in which its
-- frames encode what they say.
use Rattle.std.proofs.Common.{◌≡◌, ◌≢◌, ◌⊎◌, ⊎_elim, inl, inr, ℕ, ◌+◌, ◌<◌, ◌≤◌, Bool, true, false, cond, length, List, [], ◌∷◌, ◌++◌, Some, None, Option, refl, sym, ap, ◌∙◌, subst, append_assoc, arith}
use Rattle.std.specs.Prelude.{◌==◌, ◌||◌, if◌then◌else◌, is_some, IsSome}
use Rattle.std.specs.List.{AllByRecursion, find}
use Rattle.std.proofs.lemmas.Bool.{eqb-true}
use Rattle.std.proofs.lemmas.Option.{same_Some}
use Rattle.journal_protocol.specs.InputCommand.{InputCommand}
use Rattle.journal_protocol.specs.ProposeRunCompletionAck.{ProposeRunCompletionAck}
use Rattle.journal_protocol.specs.Start.{Start}
use Rattle.journal_protocol.specs.NamedFault.TheVariants as fault
use Rattle.journal_protocol.specs.Types.{type_number}
use Rattle.journal_protocol.specs.RawMessage.{RawMessage}
use Rattle.journal_protocol.specs.Bodies.{acknowledgement_in, notification_in, start_in}
use Rattle.journal_protocol.specs.Notification.{Notification}
use Rattle.vm_runs.specs.Kept.{is_for}
use Rattle.journal_entries.specs.Frames.{Garbage, frames_of}
use Rattle.vm_state.specs.declared.state_map.StateMap.{StateMap}
use Rattle.journal_protocol.specs.ProposeRunCompletion.{ProposeRunCompletion}
use Rattle.vm_machine.specs.declared.phase.Phase.{Phase}
use Rattle.vm_machine.specs.declared.phase.Phase.TheVariants.{WaitingStart, WaitingReplayEntries, Replaying, Processing, Closed}
use Rattle.vm_machine.specs.Inputs.{coverage_of, entries_in}
use Rattle.vm_model.specs.Calls.{Setup}
use Rattle.vm_model.specs.Carried.{AreOfTheirKind}
use Rattle.vm_model.specs.Deliveries.{HasNoTwo}
use Rattle.vm_model.specs.Histories.{Handed, History, Made, after_head}
use Rattle.journal_entries.specs.Journal.{input_read_from, notifications_in}
use Rattle.vm_model.specs.Moves.{Point, later, start as first_point}
use Rattle.vm_model.proofs.RightKinds.{fewer_kinds}
use Rattle.vm_model.proofs.Runs.{made_later}
use Rattle.vm_attempt.specs.Arrivals.{AllFound, FindsProposal, IsOfKept, arriving, kept_after, kept_behind}
use Rattle.vm_attempt.specs.Blames.{IsHonest, Place, fault_by, phase_fault, kept_fault, notification_fault, acknowledgement_body_fault, refused_start, start_fault}
use Rattle.vm_model.specs.Fixed.{Fixed}
use Rattle.journal_entries.specs.JournalFrames.{AcknowledgesNothing, as_entries, commands_among, is_acknowledgement, is_command_frame, is_notification}
use Rattle.vm_attempt.specs.Journals.{setup_for}
use Rattle.vm_attempt.specs.Told.{Journal, arrivals, begun, bytes_fed, frames_fed, start_state}
use Rattle.vm_attempt.proofs.Entries.{not_both}
use Rattle.vm_attempt.proofs.Proposed.{arriving_append, arriving_notified, found_append, kept_all, none_found}
use Rattle.vm_attempt.proofs.Replayed.{commands_same, head_same, notes_same, tail_same}
use Rattle.vm_attempt.proofs.Under.{fewer_waiting}
use Rattle.vm_attempt.specs.Heard.{Heard}
use Rattle.journal_entries.specs.Entries.{may_stand}
use Rattle.journal_entries.proofs.Framing.{note_acknowledges_nothing, note_no_command, same_front}
use Rattle.world_rounds.specs.Rounds.{ReplaysAndQueues}
use Rattle.world_rounds.proofs.Settled.{IsTaken}

-- ---- what a frame is

-- a frame of an entry: a command, or a notification that can be read
abbrev pub IsEntryFrame : RawMessage → Type 0
IsEntryFrame raw = may_stand (Some raw) ≡ true

note_no_start : (raw : RawMessage) → is_notification raw ≡ true → (type_number raw.ty == 1) ≡ false
note_no_start raw is = ap (λ n. n == 1) (eqb-true (type_number raw.ty) 30 is)

command_no_start : (raw : RawMessage) → is_command_frame raw ≡ true → (type_number raw.ty == 1) ≡ false
command_no_start raw is = not_both (type_number raw.ty) 1 refl is

-- a notification that can be read has no fault
note_faultless : (raw : RawMessage) → IsSome (notification_in raw.body) → notification_fault (notification_in raw.body) ≡ None
note_faultless raw some = by_read (notification_in raw.body) some
  where
    by_read : (o : Option Notification) → IsSome o → notification_fault o ≡ None
    by_read None h = absurd (cc)
    by_read (Some n) h = refl

-- an entry is a command, or a notification that can be read
entry_is : (raw : RawMessage) → IsEntryFrame raw → (is_command_frame raw ≡ true) ⊎ ((is_notification raw ≡ true) × IsSome (notification_in raw.body))
entry_is raw may = by_tests (is_command_frame raw) (is_notification raw) refl refl may
  where
    by_tests : (a b : Bool) → is_command_frame raw ≡ a → is_notification raw ≡ b → (a || is_some (cond b (notification_in raw.body) None)) ≡ true → (is_command_frame raw ≡ true) ⊎ ((is_notification raw ≡ true) × IsSome (notification_in raw.body))
    by_tests true b x y h = inl x
    by_tests false true x y h = inr (y, h)
    by_tests false false x y h = absurd (cc)

-- it is taken while known entries are missing, and acknowledges nothing
entry_taken : (raw : RawMessage) → IsEntryFrame raw → phase_fault WaitingReplayEntries raw ≡ None
entry_taken raw may =
    ⊎_elim
    (λ (c : is_command_frame raw ≡ true). (λ i. fault_by [] WaitingReplayEntries raw (command_no_start raw c i) (c i) (is_notification raw) (is_acknowledgement raw)))
    (λ (n : (is_notification raw ≡ true) × IsSome (notification_in raw.body)).
    (λ i. fault_by [] WaitingReplayEntries raw (note_no_start raw n.0 i) (note_no_command raw n.0 i) (n.0 i) (is_acknowledgement raw)) ∙ note_faultless raw n.1)
    (entry_is raw may)

entry_quiet : (raw : RawMessage) → IsEntryFrame raw → is_acknowledgement raw ≡ false
entry_quiet raw may =
    ⊎_elim
    (λ (c : is_command_frame raw ≡ true). not_both (type_number raw.ty) 6 refl c)
    (λ (n : (is_notification raw ≡ true) × IsSome (notification_in raw.body)). note_acknowledges_nothing raw n.0)
    (entry_is raw may)

all_quiet : (raws : List RawMessage) → AllByRecursion IsEntryFrame raws → AllByRecursion AcknowledgesNothing raws
all_quiet [] all = tt
all_quiet (raw ∷ raws) all = (entry_quiet raw all.0, all_quiet raws all.1)

-- ---- a frame at its place

-- what stands at a place among the first of two lists, or among the second
among_first : (P : RawMessage → Type 0) (xs ys before : List RawMessage) (raw : RawMessage) (rest : List RawMessage) → xs ++ ys ≡ before ++ raw ∷ rest → length before < length xs → AllByRecursion P xs → P raw
among_first P [] ys before raw rest is fewer all = absurd (omega (arith, fewer))
among_first P (x ∷ xs) ys [] raw rest is fewer all = subst P (head_same x raw (xs ++ ys) rest is) all.0
among_first P (x ∷ xs) ys (b ∷ before) raw rest is fewer all = among_first P xs ys before raw rest (tail_same x b (xs ++ ys) (before ++ raw ∷ rest) is) (omega (arith, fewer)) all.1

among_second : (P : RawMessage → Type 0) (xs ys before : List RawMessage) (raw : RawMessage) (rest : List RawMessage) → xs ++ ys ≡ before ++ raw ∷ rest → length xs ≤ length before → AllByRecursion P ys → P raw
among_second P [] (y ∷ ys) [] raw rest is enough all = subst P (head_same y raw ys rest is) all.0
among_second P [] (y ∷ ys) (b ∷ before) raw rest is enough all = among_second P [] ys before raw rest (tail_same y b ys (before ++ raw ∷ rest) is) (omega arith) all.1
among_second P [] [] [] raw rest is enough all = absurd (cc)
among_second P [] [] (b ∷ before) raw rest is enough all = absurd (cc)
among_second P (x ∷ xs) ys [] raw rest is enough all = absurd (omega (arith, enough))
among_second P (x ∷ xs) ys (b ∷ before) raw rest is enough all = among_second P xs ys before raw rest (tail_same x b (xs ++ ys) (before ++ raw ∷ rest) is) (omega (arith, enough)) all

-- an acknowledgement among frames that find theirs
found_at : (kept : List ProposeRunCompletion) (before : List RawMessage) (raw : RawMessage) (rest : List RawMessage) → AllFound kept (before ++ raw ∷ rest) → FindsProposal (kept_after kept before) raw
found_at kept [] raw rest all = all.0
found_at kept (b ∷ before) raw rest all = found_at (kept_behind kept b) before raw rest all.1

found_fault : (kept : List ProposeRunCompletion) (ack : Option ProposeRunCompletionAck) → IsSome ack → IsOfKept kept ack → acknowledgement_body_fault kept ack ≡ None
found_fault kept None readable found = absurd (cc)
found_fault kept (Some ack) readable found = by_kept (find (is_for ack.id) kept) found
  where
    by_kept : (o : Option ProposeRunCompletion) → IsSome o → kept_fault o ≡ None
    by_kept None h = absurd (cc)
    by_kept (Some k) h = refl

-- an acknowledgement among the later frames can be read
abbrev IsReadable : RawMessage → Type 0
IsReadable raw = is_acknowledgement raw ≡ true → IsSome (acknowledgement_in raw.body)

entries_readable : (raws : List RawMessage) → AllByRecursion IsEntryFrame raws → AllByRecursion IsReadable raws
entries_readable [] all = tt
entries_readable (raw ∷ raws) all = ((λ is. absurd (let z : false ≡ true = sym (entry_quiet raw all.0) ∙ is in cc)), entries_readable raws all.1)

one_readable : (raw : RawMessage) → IsTaken raw → IsReadable raw
one_readable raw t is =
    ⊎_elim
    (λ (n : (is_notification raw ≡ true) × IsSome (notification_in raw.body)). absurd (let z : false ≡ true = sym (note_acknowledges_nothing raw n.0) ∙ is in cc))
    (λ (a : (is_acknowledgement raw ≡ true) × IsSome (acknowledgement_in raw.body)). a.1)
    t

more_readable : (raws : List RawMessage) → AllByRecursion IsTaken raws → AllByRecursion IsReadable raws
more_readable [] all = tt
more_readable (raw ∷ raws) all = (one_readable raw all.0, more_readable raws all.1)

readable_append : (xs ys : List RawMessage) → AllByRecursion IsReadable xs → AllByRecursion IsReadable ys → AllByRecursion IsReadable (xs ++ ys)
readable_append [] ys a b = b
readable_append (x ∷ xs) ys a b = (a.0, readable_append xs ys a.1 b)

at_place : (before : List RawMessage) (raw : RawMessage) (rest : List RawMessage) → AllByRecursion IsReadable (before ++ raw ∷ rest) → IsReadable raw
at_place [] raw rest all = all.0
at_place (b ∷ before) raw rest all = at_place before raw rest all.1

all_entries : (raws : List RawMessage) → AllByRecursion IsEntryFrame raws → AllByRecursion (λ raw. phase_fault WaitingReplayEntries raw ≡ None) raws
all_entries [] all = tt
all_entries (raw ∷ raws) all = (entry_taken raw all.0, all_entries raws all.1)

-- a frame that comes after the journal, and acknowledges nothing, is taken in these phases
taken_replaying : (raw : RawMessage) → IsTaken raw → is_acknowledgement raw ≡ false → phase_fault Replaying raw ≡ None
taken_replaying raw t other =
    ⊎_elim
    (λ (n : (is_notification raw ≡ true) × IsSome (notification_in raw.body)).
    (λ i. fault_by [] Replaying raw (note_no_start raw n.0 i) (note_no_command raw n.0 i) (n.0 i) (is_acknowledgement raw)) ∙ note_faultless raw n.1)
    (λ (a : (is_acknowledgement raw ≡ true) × IsSome (acknowledgement_in raw.body)). absurd (let z : false ≡ true = sym other ∙ a.0 in cc))
    t

taken_processing : (raw : RawMessage) → IsTaken raw → is_acknowledgement raw ≡ false → phase_fault Processing raw ≡ None
taken_processing raw t other =
    ⊎_elim
    (λ (n : (is_notification raw ≡ true) × IsSome (notification_in raw.body)).
    (λ i. fault_by [] Processing raw (note_no_start raw n.0 i) (note_no_command raw n.0 i) (n.0 i) (is_acknowledgement raw)) ∙ note_faultless raw n.1)
    (λ (a : (is_acknowledgement raw ≡ true) × IsSome (acknowledgement_in raw.body)). absurd (let z : false ≡ true = sym other ∙ a.0 in cc))
    t

no_frames : {A : Type 0} (x : RawMessage) (xs : List RawMessage) → [] ≡ x ∷ xs → A
no_frames x xs h = absurd (cc)

no_more : (n l j known : ℕ) → n ≡ l → known ≡ j → known ≤ n → j ≤ l
no_more n l j known a b c = omega (arith, a, b, c)

fewer : (n l j known k : ℕ) → n ≡ l → known ≡ j → n + k ≡ known → 0 < k → l < j
fewer n l j known k a b c d = omega (arith, a, b, c, d)

-- ---- what is fed

-- What was fed is a beginning of Start, of a history that has as many frames as Start says, and of readable notifications and
-- acknowledgements after it, each of a result that was proposed, and once.
pub record FedFrames (fixed : Fixed) (fed : Heard) (st : Start) (J N : List RawMessage) (s : Setup) : Type 0 where
  pub same_setup : setup_for fixed st ≡ s
  pub first : RawMessage
  pub is_start : (type_number first.ty == 1) ≡ true
  pub reads_start : start_in first.body ≡ Some st
  pub state : List (List ℕ × Option (List ℕ))
  pub reads_state : entries_in st.state ≡ Some state
  pub some : (st.known_entries == 0) ≡ false
  pub known : st.known_entries ≡ length J
  pub others : List RawMessage
  pub all : frames_fed fed ++ others ≡ first ∷ (J ++ N)
  pub clean : (frames_of (bytes_fed fed)).1 ≢ Garbage
  pub entries : AllByRecursion IsEntryFrame J
  pub more : AllByRecursion IsTaken N
  pub found : AllFound fed.proposed N
  pub base : StateMap
  pub history : History s fixed.handler base (as_entries J)

module _ (fixed : Fixed) (fed : Heard) (st : Start) (J N : List RawMessage) (s : Setup) (h : FedFrames fixed fed st J N s) (r : ReplaysAndQueues fixed.options) where
  abbrev S : RawMessage
  S = h.first

  same_start : (first : RawMessage) (x : Start) → first ≡ S → start_in first.body ≡ Some x → x ≡ st
  same_start first x is reads = same_Some x st (sym reads ∙ ap (λ (raw : RawMessage). start_in raw.body) is ∙ h.reads_start)

  start_taken : phase_fault WaitingStart S ≡ None
  start_taken =
      (λ i. fault_by [] WaitingStart S (h.is_start i) (is_command_frame S) (is_notification S) (is_acknowledgement S))
      ∙ ap start_fault h.reads_start ∙ ap (refused_start st) h.reads_state
      ∙ (λ i. if h.some i then Some fault.KnownEntriesIsZero else None)

  start_quiet : is_acknowledgement S ≡ false
  start_quiet = ap (λ n. n == 6) (eqb-true (type_number S.ty) 1 h.is_start)

  counts_known : (others : List RawMessage) (first : RawMessage) (behind_it : List RawMessage) (x : Start) → S ∷ others ≡ first ∷ behind_it → start_in first.body ≡ Some x → x.known_entries ≡ length J
  counts_known others first behind_it x is reads = ap (λ (z : Start). z.known_entries) (same_start first x (sym (head_same S first others behind_it is)) reads) ∙ h.known

  -- the frame after these, if Start is the first
  behind_start : (others : List RawMessage) (raw : RawMessage) (rest : List RawMessage) → J ++ N ≡ others ++ raw ∷ rest → (phase : Phase) (k : ℕ) → Place phase k (S ∷ others) → is_acknowledgement raw ≡ false → phase_fault phase raw ≡ None
  behind_start others raw rest is WaitingStart k p other = absurd (cc)
  behind_start others raw rest is WaitingReplayEntries k p other =
      among_first (λ x. phase_fault WaitingReplayEntries x ≡ None) J N others raw rest is
      (fewer (length p.others) (length others) (length J) p.start.known_entries k (ap length (sym (tail_same S p.first others p.others p.is))) (counts_known others p.first p.others p.start p.is p.reads) p.counts.0 p.counts.1)
      (all_entries J h.entries)
  behind_start others raw rest is Replaying k p other =
      taken_replaying raw (among_second IsTaken J N others raw rest is (no_more (length p.others) (length others) (length J) p.start.known_entries (ap length (sym (tail_same S p.first others p.others p.is))) (counts_known others p.first p.others p.start p.is p.reads) p.counts) h.more) other
  behind_start others raw rest is Processing k p other =
      taken_processing raw (among_second IsTaken J N others raw rest is (no_more (length p.others) (length others) (length J) p.start.known_entries (ap length (sym (tail_same S p.first others p.others p.is))) (counts_known others p.first p.others p.start p.is p.reads) p.counts) h.more) other
  behind_start others raw rest is Closed k p other = absurd p

  placed : (before : List RawMessage) (raw : RawMessage) (rest : List RawMessage) → S ∷ (J ++ N) ≡ before ++ raw ∷ rest → (phase : Phase) (k : ℕ) → Place phase k before → is_acknowledgement raw ≡ false → phase_fault phase raw ≡ None
  placed [] raw rest is WaitingStart k p other = subst (λ x. phase_fault WaitingStart x ≡ None) (head_same S raw (J ++ N) rest is) start_taken
  placed [] raw rest is WaitingReplayEntries k p other = no_frames p.first p.others p.is
  placed [] raw rest is Replaying k p other = no_frames p.first p.others p.is
  placed [] raw rest is Processing k p other = no_frames p.first p.others p.is
  placed [] raw rest is Closed k p other = absurd p
  placed (b ∷ before) raw rest is phase k p other =
      behind_start before raw rest (tail_same S b (J ++ N) (before ++ raw ∷ rest) is) phase k
      (subst (λ (f : RawMessage). Place phase k (f ∷ before)) (sym (head_same S b (J ++ N) (before ++ raw ∷ rest) is)) p) other

  readable : (before : List RawMessage) (raw : RawMessage) (rest : List RawMessage) → J ++ N ≡ before ++ raw ∷ rest → is_acknowledgement raw ≡ true → IsSome (acknowledgement_in raw.body)
  readable before raw rest is = at_place before raw rest (subst (AllByRecursion IsReadable) is (readable_append J N (entries_readable J h.entries) (more_readable N h.more)))

  all_found : AllFound fed.proposed (J ++ N)
  all_found =
      let quiet = all_quiet J h.entries in
      found_append fed.proposed J N (none_found fed.proposed J quiet) (subst (λ ps. AllFound ps N) (sym (kept_all fed.proposed J quiet)) h.found)

  finds : (before : List RawMessage) (raw : RawMessage) (rest : List RawMessage) → S ∷ (J ++ N) ≡ before ++ raw ∷ rest → is_acknowledgement raw ≡ true → acknowledgement_body_fault (kept_after fed.proposed (after_head before)) (acknowledgement_in raw.body) ≡ None
  finds [] raw rest is acknowledges = absurd (let z : false ≡ true = sym start_quiet ∙ ap is_acknowledgement (head_same S raw (J ++ N) rest is) ∙ acknowledges in cc)
  finds (b ∷ before) raw rest is acknowledges =
      let tail = tail_same S b (J ++ N) (before ++ raw ∷ rest) is in
      found_fault (kept_after fed.proposed before) (acknowledgement_in raw.body) (readable before raw rest tail acknowledges) (found_at fed.proposed before raw rest (subst (AllFound fed.proposed) tail all_found) acknowledges)

  -- this number of frames after Start is the history
  entries_are : (first : RawMessage) (entries others : List RawMessage) (x : Start) → frames_fed fed ≡ first ∷ (entries ++ others) → start_in first.body ≡ Some x → length entries ≡ x.known_entries → (x ≡ st) × (entries ≡ J) × (others ++ h.others ≡ N)
  entries_are first entries others x is reads count =
      let all : first ∷ (entries ++ (others ++ h.others)) ≡ S ∷ (J ++ N) = sym (ap (λ l. first ∷ l) (append_assoc entries others h.others)) ∙ ap (λ l. l ++ h.others) (sym is) ∙ h.all in
      let same : x ≡ st = same_start first x (head_same first S (entries ++ (others ++ h.others)) (J ++ N) all) reads in
      let long : length entries ≡ length J = count ∙ ap (λ (z : Start). z.known_entries) same ∙ h.known in
      let front = same_front entries J (others ++ h.others) N long (tail_same first S (entries ++ (others ++ h.others)) (J ++ N) all) in
      (same, front.0, front.1)

  known_are : (first : RawMessage) (entries others : List RawMessage) (x : Start) → frames_fed fed ≡ first ∷ (entries ++ others) → start_in first.body ≡ Some x → length entries ≡ x.known_entries → (base : StateMap) × History (setup_for fixed x) fixed.handler base (as_entries entries)
  known_are first entries others x is reads count =
      let e = entries_are first entries others x is reads count in
      (h.base, subst (λ (z : Start × List RawMessage). History (setup_for fixed z.0) fixed.handler h.base (as_entries z.1)) (λ i. (sym e.0 i, sym e.1 i)) (subst (λ z. History z fixed.handler h.base (as_entries J)) (sym h.same_setup) h.history))

  -- ---- the run

  abbrev given : StateMap
  given = record { entries = h.state; coverage = coverage_of st.partial }

  -- all that is to come
  abbrev pub all_notes : List Notification
  all_notes = notifications_in (as_entries J) ++ arriving fed.proposed N

  -- a run from the first point, with all that is to come
  abbrev pub RunsWhole : ℕ → List RawMessage → Point → Type 0
  RunsWhole n made p = Made s fixed.handler (Handed given) n (first_point s h.history.input all_notes h.history.rest) made p

  abbrev Along : Journal fed → Type 0
  Along j = (more : List Notification) × (arrivals j ++ more ≡ all_notes) × (j.rest ≡ h.history.rest)
      × ((n : ℕ) (made : List RawMessage) (p : Point) → Made (setup_for fixed j.start) fixed.handler (Handed (start_state j)) n (begun fixed j) made p → RunsWhole n made (later more p))

  along : (j : Journal fed) → Along j
  along j =
      let e = entries_are j.first_frame j.entries j.others j.start j.frames j.reads_start j.count in
      let commands : j.first ∷ j.rest ≡ h.history.first ∷ h.history.rest = sym j.commands ∙ ap commands_among e.1 ∙ sym (commands_same J) ∙ h.history.begins in
      let first = head_same j.first h.history.first j.rest h.history.rest commands in
      let rest = tail_same j.first h.history.first j.rest h.history.rest commands in
      let input : j.input ≡ h.history.input = same_Some j.input h.history.input (sym j.reads_input ∙ ap input_read_from first ∙ h.history.reads) in
      let more = arriving (kept_after fed.proposed (j.entries ++ j.others)) h.others in
      let quiet = all_quiet J h.entries in
      let notes : arrivals j ++ more ≡ all_notes =
      sym (arriving_append fed.proposed (j.entries ++ j.others) h.others) ∙ ap (arriving fed.proposed) (append_assoc j.entries j.others h.others ∙ (λ i. e.1 i ++ e.2 i)) ∙ arriving_append fed.proposed J N
      ∙ (λ i. (arriving_notified fed.proposed J quiet ∙ sym (notes_same J)) i ++ arriving (kept_all fed.proposed J quiet i) N)
      in
      let state : j.state ≡ h.state = same_Some j.state h.state (sym j.reads_state ∙ ap (λ (x : Start). entries_in x.state) e.0 ∙ h.reads_state) in (
        more,
        notes,
        rest,
        λ n made p run.
            subst (λ z. Made z fixed.handler (Handed given) n (first_point z h.history.input all_notes h.history.rest) made (later more p)) h.same_setup
            (subst
            (λ (x : Start × List (List ℕ × Option (List ℕ)) × InputCommand × List Notification × List RawMessage). Made (setup_for fixed x.0) fixed.handler (Handed (record { entries = x.1; coverage = coverage_of x.0.partial })) n (first_point (setup_for fixed x.0) x.2 x.3 x.4) made (later more p))
            (λ i. (e.0 i, state i, input i, notes i, rest i))
            (made_later (setup_for fixed j.start) fixed.handler (Handed (start_state j)) more n (begun fixed j) made p run)),
      )

  -- An honest attempt's, where at no point of the run with all that is to come a completion has two results, and each result of an
  -- invocation's id is one.
  pub fed_honestly : ((n : ℕ) (made : List RawMessage) (p : Point) → RunsWhole n made p → HasNoTwo p) → ((n : ℕ) (made : List RawMessage) (p : Point) → RunsWhole n made p → AreOfTheirKind all_notes (h.history.rest ++ made)) → IsHonest fixed fed
  fed_honestly once kinds = record {
    premises = record { replays = r.replays; queues = r.queues; once = λ j n made p run. let a = along j in fewer_waiting p a.0 (once n made (later a.0 p) (a.3 n made p run)) };
    kinds = λ j n made p run.
        let a = along j in
        fewer_kinds (arrivals j) a.0 (j.rest ++ made)
        (subst (λ (x : List Notification × List RawMessage). AreOfTheirKind x.0 (x.1 ++ made)) (λ i. (sym a.1 i, sym a.2 i)) (kinds n made (later a.0 p) (a.3 n made p run)));
    frames = λ before raw rest phase k is p other. placed before raw (rest ++ h.others) (sym h.all ∙ ap (λ l. l ++ h.others) is ∙ append_assoc before (raw ∷ rest) h.others) phase k p other;
    acknowledgements = λ before raw rest is acknowledges. finds before raw (rest ++ h.others) (sym h.all ∙ ap (λ l. l ++ h.others) is ∙ append_assoc before (raw ∷ rest) h.others) acknowledges;
    whole = h.clean;
    history = known_are;
  }
