-- Rounds, one after another: the journal grows by entries, and each round is an honest one.
use Rattle.std.proofs.Common.{◌≡◌, inl, inr, ℕ, zero, suc, List, [], ◌∷◌, ◌++◌, length, drop, Option, Some, None, refl, sym, ap, ◌∙◌, subst, arith, append_assoc, append-nil}
use Rattle.std.specs.Prelude.{option_map}
use Rattle.std.specs.List.{AllByRecursion, concat}
use Rattle.journal_protocol.specs.Message.TheVariants as message
use Rattle.journal_protocol.specs.Notification.{Notification}
use Rattle.journal_protocol.specs.Start.{Start}
use Rattle.journal_protocol.specs.MessageType.TheVariants as type
use Rattle.journal_protocol.specs.Frames.{encoding, IsWhole}
use Rattle.journal_protocol.specs.Bodies.{message_in, start_in}
use Rattle.journal_protocol.proofs.Facts.{read_back}
use Rattle.journal_protocol.specs.RawMessage.{RawMessage}
use Rattle.journal_entries.specs.Frames.{Tail, frames_of}
use Rattle.invocation_vm.specs.Making.{made}
use Rattle.vm_types.specs.declared.steps.Answer.{Answer}
use Rattle.vm_model.specs.Calls.{Meaning}
use Rattle.journal_entries.specs.Journal.{Entry, commands_in, messages_in, notifications_in, stored_form}
use Rattle.vm_model.specs.Moves.{changed_by, start as first_point}
use Rattle.vm_model.specs.Histories.{History, Honest, IsAllOf, IsTrueOf, Knowledge, Whole, after_head}
use Rattle.vm_model.specs.HonestRounds.{Attempted, HonestRound, IsHanded, IsOneRun, IsToldOn}
use Rattle.vm_model.specs.SoundHistories.{SoundHistory}
use Rattle.vm_model.proofs.Honesty.{honest_rounds, whole_round, whole_rounds}
use Rattle.vm_model.proofs.SoundHistories.{run_is_sound, sound_round, sound_rounds, whole_is_honest}
use Rattle.journal_protocol.specs.Version.{Version}
use Rattle.vm_attempt.specs.Arrivals.{arriving}
use Rattle.vm_attempt.specs.Heard.{acknowledged_from}
use Rattle.journal_entries.specs.JournalFrames.{commands_among}
use Rattle.vm_attempt.specs.Record.{Record}
use Rattle.vm_attempt.specs.Stepping.{fresh_record}
use Rattle.vm_attempt.specs.Told.{bytes_in}
use Rattle.vm_attempt.proofs.Advanced.{made_new}
use Rattle.vm_attempt.proofs.Coming.{made_comes}
use Rattle.vm_attempt.proofs.Replayed.{commands_same}
use Rattle.world_rounds.specs.declared.types.Event.{Event}
use Rattle.world_rounds.specs.declared.types.Round.{Round}
use Rattle.journal_entries.specs.declared.fault.JournalFault.{JournalFault}
use Rattle.world_rounds.specs.declared.types.Setting.{Setting}
use Rattle.world_rounds.specs.Courses.{AreHonest, attempt_of, attempts_of, course_of, start_handed}
use Rattle.journal_entries.specs.Entries.{journal_entries, journal_frames, notes_in}
use Rattle.world_rounds.specs.Rounds.{AreWhole, AttemptDoes, StaysShort, RefusedDoes, ReplaysAndQueues, ReportView, RoundDoes, RoundFaults, RoundsDo, RoundsFault, begin, new_now}
use Rattle.world_rounds.specs.Sound.{IsSoundFor}
use Rattle.world_rounds.specs.States.{base_of, state_after}
use Rattle.world_rounds.specs.Worlds.{IsJournal, fixed_in, setup_of, start_for, start_message}
use Rattle.world_rounds.proofs.Coursing.{Along, events_go_along}
use Rattle.journal_entries.proofs.Framing.{AreFrames, entries_append, one_framed, said_are, none_framed}
use Rattle.world_rounds.proofs.Handing.{base_in_order, round_all, round_true}
use Rattle.world_rounds.proofs.Headline.{IsHonest, is_honest}
use Rattle.world_rounds.proofs.Inputs.{Begins, history_begins, input_says}
use Rattle.world_rounds.proofs.Keeping.{Going, arrivals_keep, events_keep}
use Rattle.world_rounds.proofs.Running.{events_run}
use Rattle.world_rounds.proofs.Settled.{brings_nothing}

-- ---- one round

-- a round begins with the whole journal
pub begun : (version : Version) (start : List ℕ) (old : List (List ℕ)) (r : Record) → IsJournal old → r.fed ≡ [] → r.late ≡ [] → r.taken ≡ [] → r.proposed ≡ [] → Going version start old (new_now version old (start ++ concat old) r)
begun version start old r j fed late taken nothing = record {
  made_for = refl;
  bytes = [];
  came = [];
  framed = none_framed;
  delivered = [];
  all = ap (λ l. start ++ l) (sym (append-nil (concat old)));
  fed_front = ([], ap (λ l. bytes_in l ++ []) (sym fed));
  fed_open = λ o. ap bytes_in fed;
  all_front = ([], (λ i. bytes_in (sym fed i ++ sym late i) ++ []));
  all_open = λ o. (λ i. bytes_in (fed i ++ late i));
  none_late = λ o. late;
  output_is = ap concat taken;
  scanned = [];
  output_frames = refl;
  proposed = (r.proposed, refl);
  added = [];
  extends = sym (append-nil old);
  commands = refl;
  brings = brings_nothing version;
  taken = tt;
  journal = j;
}

-- the journal has grown by entries
pub record Grows (old new : List (List ℕ)) : Type 0 where
  pub added : List (List ℕ)
  pub extends : new ≡ old ++ added
  pub journal : IsJournal new

pub short_all : (m : Meaning) (version : Version) (events : List Event) (start : List ℕ) (old : List (List ℕ)) (r : Record) → IsJournal old → r.fed ≡ [] → r.late ≡ [] → r.taken ≡ [] → r.proposed ≡ [] → StaysShort m events (new_now version old (start ++ concat old) r)
short_all m version events start old r j fed late taken nothing end h = (events_keep m version start old events (new_now version old (start ++ concat old) r) end h (begun version start old r j fed late taken nothing)).journal.short

pub attempt_goes : (m : Meaning) (w : Setting) (round : Round) (old : List (List ℕ)) (report : ReportView) (new : List (List ℕ)) → IsJournal old → (d : AttemptDoes m w round old report new) → Going w.version (encoding (start_message w round old)) old d.ran.now
attempt_goes m w round old report new j d = events_keep m w.version (encoding (start_message w round old)) old round.events (begin d.alloc w round old) d.ran.now d.ran.happen (begun w.version (encoding (start_message w round old)) old (fresh_record (made d.alloc w.options w.version)) j refl refl refl refl)

pub round_grows : (m : Meaning) (w : Setting) (round : Round) (old : List (List ℕ)) (report : ReportView) (new : List (List ℕ)) → IsJournal old → RoundDoes m w round old report new → Grows old new
round_grows m w round old report new j (inl d) =
    let g = attempt_goes m w round old report new j d in
    subst (Grows old) (sym d.ran.left) (record { added = g.added; extends = g.extends; journal = g.journal })
round_grows m w round old report new j (inr d) = let a = arrivals_keep round.events old new j d.arrivals in record { added = a.added; extends = a.extends; journal = a.journal }

start_by : (st : Start) (o : Option Start) → option_map message.Start o ≡ Some (message.Start st) → o ≡ Some st
start_by st None h = cc
start_by st (Some s) h = let e : s ≡ st = cc in ap Some e

start_found : (b : List ℕ) (st : Start) → message_in type.Start b ≡ Some (message.Start st) → start_in b ≡ Some st
unfolding message_in
start_found b st h = start_by st (start_in b) h

pub start_reads : (st : Start) → IsWhole (message.Start st) → start_in (stored_form (message.Start st)).body ≡ Some st
start_reads st whole = start_found (stored_form (message.Start st)).body st (read_back (message.Start st) whole)

pub start_framed : (st : Start) → IsWhole (message.Start st) → AreFrames (encoding (message.Start st)) (stored_form (message.Start st) ∷ [])
start_framed st whole = one_framed (stored_form (message.Start st)) whole.1

-- the course of a round's attempt, from its beginning on
attempt_along : (m : Meaning) (w : Setting) (round : Round) (old : List (List ℕ)) (report : ReportView) (new : List (List ℕ)) (j : IsJournal old) (d : AttemptDoes m w round old report new) → Along m w.version (encoding (start_message w round old)) (stored_form (start_message w round old)) old j (start_framed (start_for w round old) d.start) (course_of m old round.events (begin d.alloc w round old) d.ran.now d.ran.happen) d.ran.now
unfolding begun
attempt_along m w round old report new j d =
    let none : (frames_of []).0 ≡ [] = ap (λ (p : List RawMessage × Tail). p.0) none_framed in
    let bytes = encoding (start_message w round old) in
    let framed = start_framed (start_for w round old) d.start in
    let first : Along m w.version bytes (stored_form (start_message w round old)) old j framed [] (begin d.alloc w round old) = record {
      going = begun w.version bytes old (fresh_record (made d.alloc w.options w.version)) j refl refl refl refl;
      written = sym (ap commands_among none);
      came = sym (drop_nil (length (notes_in old)) _ (ap (λ l. arriving (acknowledged_from w.version []) (after_head l)) none));
      order = λ n h. absurd (omega (arith, h));
    } in
    events_go_along m w.version bytes (stored_form (start_message w round old)) old j framed round.events (begin d.alloc w round old) d.ran.now [] d.ran.happen first
  where
    drop_nil : (k : ℕ) (ns : List Notification) → ns ≡ [] → drop k ns ≡ []
    drop_nil zero ns e = e
    drop_nil (suc k) ns e = ap (drop (suc k)) e

-- a round with its attempt is an honest one
attempt_honest : (m : Meaning) (w : Setting) (round : Round) (old : List (List ℕ)) (report : ReportView) (new : List (List ℕ)) → ReplaysAndQueues w.options → IsJournal old → History (setup_of w) m (base_of w) (journal_entries old) → (d : AttemptDoes m w round old report new) → IsHonest (setup_of w) m (journal_entries old) (attempt_of m w round old report new (inl d)) (journal_entries new)
attempt_honest m w round old report new r j past d =
    let st = start_for w round old in
    let bytes = encoding (message.Start st) in
    let raw = stored_form (message.Start st) in
    let framed = start_framed st d.start in
    let found = start_reads st d.start in
    let first = begin d.alloc w round old in
    let course = course_of m old round.events first d.ran.now d.ran.happen in
    let kept = events_run m w bytes raw st old j framed found refl (setup_of w) refl (base_of w) past r round.events first d.ran.now d.ran.happen (begun w.version bytes old (fresh_record (made d.alloc w.options w.version)) j refl refl refl refl) (inl (made_new d.alloc (fixed_in m w)), made_comes d.alloc (fixed_in m w)) in
    let honest = is_honest m w bytes raw st old j framed found refl (setup_of w) refl (base_of w) past r d.ran.now course (attempt_along m w round old report new j d) kept.0 d.ran.ends in
    subst (λ (x : List Answer × List (List ℕ)). IsHonest (setup_of w) m (journal_entries old) (record { given = start_handed st; course = course; answers = x.0 }) (journal_entries x.1)) (λ i. (sym (ap (λ (v : ReportView). v.answers) d.ran.told) i, sym d.ran.left i)) honest

-- a round whose attempt was refused too: nothing was delivered or written
refused_honest : (m : Meaning) (w : Setting) (round : Round) (old : List (List ℕ)) (report : ReportView) (new : List (List ℕ)) → IsJournal old → Begins (journal_entries old) → (d : RefusedDoes w round old report new) → IsHonest (setup_of w) m (journal_entries old) (attempt_of m w round old report new (inr d)) (journal_entries new)
refused_honest m w round old report new j b d =
    let g = arrivals_keep round.events old new j d.arrivals in
    let added = journal_entries g.added in
    let none : commands_in added ≡ [] = commands_same (journal_frames g.added) ∙ g.commands in
    record {
      told = record { first = b.first; input = b.input; reads = b.reads; rest = b.rest; begins = b.commands; moves = 0; at = first_point (setup_of w) b.input (notifications_in (journal_entries old) ++ []) b.rest; made = (refl, refl); answered = inl (ap (λ (v : ReportView). v.answers) d.told) };
      honest = record {
        added = added;
        extends = ap journal_entries g.extends ∙ entries_append old g.added;
        undelivered = notifications_in added;
        notifications = refl;
        stored = 0;
        commands = none;
        order = λ n h. absurd (let k = ap length none in omega (arith, h, k));
      };
    }

pub round_honest : (m : Meaning) (w : Setting) (round : Round) (old : List (List ℕ)) (report : ReportView) (new : List (List ℕ)) → ReplaysAndQueues w.options → IsJournal old → History (setup_of w) m (base_of w) (journal_entries old) → (d : RoundDoes m w round old report new) → IsHonest (setup_of w) m (journal_entries old) (attempt_of m w round old report new d) (journal_entries new)
round_honest m w round old report new r j past (inl d) = attempt_honest m w round old report new r j past d
round_honest m w round old report new r j past (inr d) = refused_honest m w round old report new j (history_begins (setup_of w) m (base_of w) (journal_entries old) past) d

-- what a round's attempt is handed and what it answers, whether it was refused or not
pub round_gives : (m : Meaning) (w : Setting) (round : Round) (old : List (List ℕ)) (report : ReportView) (new : List (List ℕ)) (d : RoundDoes m w round old report new) → ((attempt_of m w round old report new d).given ≡ start_handed (start_for w round old)) × ((attempt_of m w round old report new d).answers ≡ report.answers)
round_gives m w round old report new (inl d) = (refl, refl)
round_gives m w round old report new (inr d) = (refl, refl)

-- ---- rounds

pub rounds_grow : (m : Meaning) (w : Setting) (rounds : List Round) (old : List (List ℕ)) (reports : List ReportView) (new : List (List ℕ)) → IsJournal old → RoundsDo m w rounds old reports new → Grows old new
rounds_grow m w [] old reports new j d = subst (Grows old) (sym d.1) (record { added = []; extends = sym (append-nil old); journal = j })
rounds_grow m w (r ∷ rs) old reports new j (mid, report, more, is, one, others) =
    let a = round_grows m w r old report mid j one in
    let b = rounds_grow m w rs mid more new a.journal others in
    record { added = a.added ++ b.added; extends = b.extends ∙ ap (λ l. l ++ b.added) a.extends ∙ append_assoc old a.added b.added; journal = b.journal }

pub entries_grow : (old new added : List (List ℕ)) → new ≡ old ++ added → journal_entries new ≡ journal_entries old ++ journal_entries added
entries_grow old new added e = ap journal_entries e ∙ entries_append old added

-- each of the rounds hands out this much, over any journal
abbrev pub HandsOut : Knowledge → Setting → List Round → Type 0
HandsOut K w rounds = AllByRecursion (λ r. (journal : List (List ℕ)) → Begins (journal_entries journal) → K (start_handed (start_for w r journal)) (messages_in (after_head (commands_in (journal_entries journal))))) rounds

-- What is so of journals lasts over rounds, where so much of the state is handed out: such a journal is a history, and an honest round leaves
-- one of which it is so.
pub record Lasts (K : Knowledge) (P : List Entry → Type 0) (m : Meaning) (w : Setting) : Type 0 where
  pub history : (journal : List Entry) → P journal → History (setup_of w) m (base_of w) journal
  pub lasts : (before : List Entry) (a : Attempted) (after : List Entry) → P before → IsHanded K before a → IsToldOn (setup_of w) m before a → HonestRound before a.course after → P after

-- what a round hands out, as its attempt has it
pub round_handed : (K : Knowledge) (m : Meaning) (w : Setting) (q : Round) (qs : List Round) (old : List (List ℕ)) (report : ReportView) (mid : List (List ℕ)) → HandsOut K w (q ∷ qs) → History (setup_of w) m (base_of w) (journal_entries old) → (d : RoundDoes m w q old report mid) → IsHanded K (journal_entries old) (attempt_of m w q old report mid d)
round_handed K m w q qs old report mid hands past d = subst (λ x. K x (messages_in (after_head (commands_in (journal_entries old))))) (sym (round_gives m w q old report mid d).0) (hands.0 old (history_begins (setup_of w) m (base_of w) (journal_entries old) past))

-- it also holds of the journal after a round
pub round_lasts : (K : Knowledge) (P : List Entry → Type 0) (m : Meaning) (w : Setting) (q : Round) (qs : List Round) (old : List (List ℕ)) (report : ReportView) (mid : List (List ℕ)) → ReplaysAndQueues w.options → Lasts K P m w → HandsOut K w (q ∷ qs) → IsJournal old → P (journal_entries old) → RoundDoes m w q old report mid → P (journal_entries mid)
round_lasts K P m w q qs old report mid r l hands j h d =
    let past = l.history (journal_entries old) h in
    let honest = round_honest m w q old report mid r j past d in
    l.lasts (journal_entries old) (attempt_of m w q old report mid d) (journal_entries mid) h (round_handed K m w q qs old report mid hands past d) honest.told honest.honest

rounds_honest : (K : Knowledge) (P : List Entry → Type 0) (m : Meaning) (w : Setting) (rounds : List Round) (old : List (List ℕ)) (reports : List ReportView) (new : List (List ℕ)) → ReplaysAndQueues w.options → Lasts K P m w → HandsOut K w rounds → IsJournal old → P (journal_entries old) → (d : RoundsDo m w rounds old reports new) → AreHonest K m w rounds old reports new d
rounds_honest K P m w [] old reports new r l hands j h d = ap journal_entries d.1
rounds_honest K P m w (q ∷ qs) old reports new r l hands j h (mid, report, more, is, one, others) =
    let g = round_grows m w q old report mid j one in
    let past = l.history (journal_entries old) h in
    let honest = round_honest m w q old report mid r j past one in
    let on = round_lasts K P m w q qs old report mid r l hands j h one in
    (journal_entries mid, round_handed K m w q qs old report mid hands past one, honest.told, honest.honest, rounds_honest K P m w qs mid more new r l hands.1 g.journal on others)

-- a sound history lasts, where honest states are handed out
pub sound_lasts : (m : Meaning) (w : Setting) → Lasts (Honest (base_of w)) (SoundHistory (setup_of w) m (base_of w)) m w
sound_lasts m w = record {
  history = λ journal h. h.history;
  lasts = λ before a after. sound_round (setup_of w) m (base_of w) before a after (base_in_order w);
}

-- what one run made lasts, where whole states are handed out
whole_lasts : (m : Meaning) (w : Setting) → Lasts (Whole (base_of w)) (IsOneRun (setup_of w) m (Whole (base_of w))) m w
whole_lasts m w = record {
  history = λ journal h. (run_is_sound (setup_of w) m (base_of w) journal (whole_is_honest (setup_of w) m (base_of w) journal h)).history;
  lasts = λ before a after. whole_round (setup_of w) m (base_of w) before a after (base_in_order w);
}

-- ---- what is handed out

-- what a journal's commands say changes the base as those after the input
said_behind : (w : Setting) (journal : List (List ℕ)) → Begins (journal_entries journal) → state_after w journal ≡ changed_by (messages_in (after_head (commands_in (journal_entries journal)))) (base_of w)
said_behind w journal b = ap (λ l. changed_by l (base_of w)) (said_are journal ∙ ap messages_in (sym (commands_same (journal_frames journal)))) ∙ input_says (journal_entries journal) b (base_of w)

pub hands_honest : (w : Setting) (rounds : List Round) → HandsOut (Honest (base_of w)) w rounds
hands_honest w [] = tt
hands_honest w (r ∷ rs) = (λ journal b. subst (λ now. IsTrueOf now (start_handed (start_for w r journal))) (said_behind w journal b) (round_true w r journal), hands_honest w rs)

pub hands_whole : (w : Setting) (rounds : List Round) → AreWhole rounds → HandsOut (Whole (base_of w)) w rounds
hands_whole w [] h = tt
hands_whole w (r ∷ rs) h = (λ journal b. subst (λ now. IsAllOf now (start_handed (start_for w r journal))) (said_behind w journal b) (round_all w r journal h.0), hands_whole w rs h.1)

-- ---- the headline

module _ (m : Meaning) (w : Setting) (rounds : List Round) (old : List (List ℕ)) (reports : List ReportView) (new : List (List ℕ)) (j : IsJournal old) (d : RoundsDo m w rounds old reports new) where
  pub are_honest : IsSoundFor m w old → AreHonest (Honest (base_of w)) m w rounds old reports new d
  are_honest h = rounds_honest (Honest (base_of w)) (SoundHistory (setup_of w) m (base_of w)) m w rounds old reports new h.replays (sound_lasts m w) (hands_honest w rounds) j h.history d

  pub stays_sound : IsSoundFor m w old → IsSoundFor m w new
  stays_sound h = record {
    replays = h.replays;
    history = sound_rounds (setup_of w) m (base_of w) (journal_entries old) (attempts_of m w rounds old reports new d) (journal_entries new) (base_in_order w) h.history (are_honest h);
  }

  pub stays_one_run : ReplaysAndQueues w.options → IsOneRun (setup_of w) m (Honest (base_of w)) (journal_entries old) → IsOneRun (setup_of w) m (Honest (base_of w)) (journal_entries new)
  stays_one_run r h =
      let a = are_honest (record { replays = r; history = run_is_sound (setup_of w) m (base_of w) (journal_entries old) h }) in
      honest_rounds (setup_of w) m (base_of w) (journal_entries old) (attempts_of m w rounds old reports new d) (journal_entries new) (base_in_order w) h a

  pub stays_undisturbed : ReplaysAndQueues w.options → AreWhole rounds → IsOneRun (setup_of w) m (Whole (base_of w)) (journal_entries old) → IsOneRun (setup_of w) m (Whole (base_of w)) (journal_entries new)
  stays_undisturbed r whole h =
      let a = rounds_honest (Whole (base_of w)) (IsOneRun (setup_of w) m (Whole (base_of w))) m w rounds old reports new r (whole_lasts m w) (hands_whole w rounds whole) j h d in
      whole_rounds (setup_of w) m (base_of w) (journal_entries old) (attempts_of m w rounds old reports new d) (journal_entries new) (base_in_order w) h a

-- ---- one round more

pub rounds_then : (m : Meaning) (w : Setting) (rs : List Round) (r : Round) (old : List (List ℕ)) (reports : List ReportView) (mid : List (List ℕ)) (report : ReportView) (new : List (List ℕ)) → RoundsDo m w rs old reports mid → RoundDoes m w r mid report new → RoundsDo m w (rs ++ r ∷ []) old (reports ++ report ∷ []) new
rounds_then m w [] r old reports mid report new d one = (new, report, [], ap (λ l. l ++ report ∷ []) d.0, subst (λ x. RoundDoes m w r x report new) d.1 one, (refl, refl))
rounds_then m w (q ∷ qs) r old reports mid report new (mid', report', more, is, first, rest) one =
    (mid', report', more ++ report ∷ [], ap (λ l. l ++ report ∷ []) is, first, rounds_then m w qs r mid' more mid report new rest one)

pub rounds_fail : (m : Meaning) (w : Setting) (rs : List Round) (r : Round) (others : List Round) (old : List (List ℕ)) (reports : List ReportView) (mid : List (List ℕ)) (f : JournalFault) → RoundsDo m w rs old reports mid → RoundFaults m w r mid f → RoundsFault m w (rs ++ r ∷ others) old f
rounds_fail m w [] r others old reports mid f d h = inl (subst (λ x. RoundFaults m w r x f) d.1 h)
rounds_fail m w (q ∷ qs) r others old reports mid f (mid', report', more, is, first, rest) h = inr (mid', report', first, rounds_fail m w qs r others mid' more mid f rest h)
