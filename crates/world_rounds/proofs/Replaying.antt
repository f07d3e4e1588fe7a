-- What a replay of a world's journal shows: it is a history of the handler.
use Rattle.std.proofs.Common.{◌≡◌, ◌≢◌, ⊎_elim, ℕ, List, [], ◌∷◌, ◌++◌, length, sym, ap, ◌∙◌, subst, append-nil}
use Rattle.std.proofs.lemmas.Option.{same_Some}
use Rattle.std.specs.List.{concat}
use Rattle.journal_protocol.specs.Start.{Start}
use Rattle.journal_protocol.specs.RawMessage.{RawMessage}
use Rattle.journal_protocol.specs.Notification.{Notification}
use Rattle.journal_protocol.specs.Message.TheVariants as message
use Rattle.journal_protocol.specs.Frames.{IsWhole, encoding}
use Rattle.journal_protocol.specs.Bodies.{start_in}
use Rattle.journal_entries.specs.Frames.{Tail, frames_of}
use Rattle.vm_model.specs.Calls.{Meaning, Setup}
use Rattle.vm_model.specs.Deliveries.{HasNoTwo}
use Rattle.vm_model.specs.Histories.{EagerFrom, History, Told, after_head}
use Rattle.journal_entries.specs.Journal.{commands_in, notifications_in, stored_form}
use Rattle.journal_entries.specs.JournalFrames.{as_entries}
use Rattle.vm_model.specs.Moves.{Point}
use Rattle.vm_model.proofs.Compared.{attempt_is_told}
use Rattle.vm_attempt.specs.Journals.{setup_for}
use Rattle.vm_attempt.specs.Told.{Journal, MovesTo, ProvesHistory, ReplayPremises, arrivals, bytes_fed, start_state}
use Rattle.vm_attempt.proofs.Proving.{alone_arrivals}
use Rattle.vm_attempt.proofs.Replayed.{commands_same, head_same, tail_same}
use Rattle.invocation_vm.specs.Making.{made}
use Rattle.vm_attempt.specs.Heard.{Heard}
use Rattle.world_rounds.specs.declared.types.Round.{Round}
use Rattle.world_rounds.specs.declared.types.Setting.{Setting}
use Rattle.journal_entries.specs.Entries.{journal_entries, journal_frames}
use Rattle.world_rounds.specs.States.{base_of}
use Rattle.world_rounds.specs.Worlds.{IsJournal, fixed_in, setup_of, start_for, start_message}
use Rattle.journal_entries.proofs.Framing.{AreFrames, join, journal_framed, journal_length, same_front}
use Rattle.world_rounds.specs.Rounds.{CompletesOnce, ReplaysAndQueues}
use Rattle.world_rounds.proofs.Rounding.{start_framed, start_reads}

module _ (m : Meaning) (w : Setting) (round : Round) (old : List (List ℕ)) (fed : Heard) (j : IsJournal old) (whole : IsWhole (start_message w round old)) (bytes : bytes_fed fed ≡ encoding (start_message w round old) ++ concat old) where
  abbrev st : Start
  st = start_for w round old

  abbrev raw : RawMessage
  raw = stored_form (message.Start st)

  pub all_framed : AreFrames (bytes_fed fed) (raw ∷ journal_frames old)
  all_framed = ap frames_of bytes ∙ join (encoding (message.Start st)) (concat old) (raw ∷ []) (journal_frames old) (start_framed st whole) (journal_framed old j.entries)

  -- what was fed is the world's journal, and nothing more
  pub record IsAlone (J : Journal fed) : Type 0 where
    pub start : J.start ≡ st
    pub entries : J.entries ≡ journal_frames old
    pub others : J.others ≡ []

  pub is_alone : (J : Journal fed) → IsAlone J
  is_alone J =
      let same : raw ∷ journal_frames old ≡ J.first_frame ∷ (J.entries ++ J.others) = ap (λ (p : List RawMessage × Tail). p.0) (sym all_framed) ∙ J.frames in
      let head : raw ≡ J.first_frame = head_same raw J.first_frame (journal_frames old) (J.entries ++ J.others) same in
      let tail : journal_frames old ≡ J.entries ++ J.others = tail_same raw J.first_frame (journal_frames old) (J.entries ++ J.others) same in
      let is_st : J.start ≡ st = same_Some J.start st (sym J.reads_start ∙ ap (λ (x : RawMessage). start_in x.body) (sym head) ∙ start_reads st whole) in
      let count : length (journal_frames old) ≡ length J.entries = journal_length old j.entries ∙ sym (J.count ∙ ap (λ (x : Start). x.known_entries) is_st) in
      let both = same_front (journal_frames old) J.entries [] J.others count (append-nil (journal_frames old) ∙ tail) in
      record { start = is_st; entries = sym both.0; others = sym both.1 }

  -- what is so of the world's journal is so of what was fed
  pub of_fed : (T : Setup → List RawMessage → Type 0) (J : Journal fed) → T (setup_of w) (journal_frames old) → T (setup_for (fixed_in m w) J.start) J.entries
  of_fed T J t = let x = is_alone J in subst (λ (z : Start × List RawMessage). T (setup_for (fixed_in m w) z.0) z.1) (λ i. (sym x.start i, sym x.entries i)) t

  -- and the other way round
  of_world : (T : Setup → List RawMessage → Type 0) (J : Journal fed) → T (setup_for (fixed_in m w) J.start) J.entries → T (setup_of w) (journal_frames old)
  of_world T J t = let x = is_alone J in subst (λ (z : Start × List RawMessage). T (setup_for (fixed_in m w) z.0) z.1) (λ i. (x.start i, x.entries i)) t

  -- the premises of replay
  pub replay_premises : ReplaysAndQueues w.options → CompletesOnce (setup_of w) m (journal_entries old) → ReplayPremises (fixed_in m w) fed
  replay_premises r once = record {
    replays = r.replays;
    queues = r.queues;
    once = λ J n made p run some. one_each J n made p run some;
  }
    where
      one_each : (J : Journal fed) (n : ℕ) (made : List RawMessage) (p : Point) → MovesTo (fixed_in m w) J n made p → p.left ≢ [] → HasNoTwo p
      one_each J n made p run some =
          let s = setup_for (fixed_in m w) J.start in
          let t = attempt_is_told s m (start_state J) J.input n (arrivals J) J.rest made p run in
          let none : made ≡ [] = ⊎_elim (λ (e : made ≡ []). e) (λ (e : p.left ≡ []). absurd (some e)) t.1 in
          let told : Told s m J.input (notifications_in (as_entries J.entries)) J.rest p = subst (λ (z : List Notification × List RawMessage). Told s m J.input z.0 z.1 p) (λ i. (alone_arrivals fed J (is_alone J).others i, (ap (λ l. J.rest ++ l) none ∙ append-nil J.rest) i)) t.0 in
          of_fed (λ z raws. CompletesOnce z m (as_entries raws)) J once J.first J.input J.rest p (commands_same J.entries ∙ J.commands) J.reads_input told

  -- what is shown of what was fed
  pub world_history : ProvesHistory (fixed_in m w) fed → EagerFrom (base_of w) (after_head (commands_in (journal_entries old))) → History (setup_of w) m (base_of w) (journal_entries old)
  world_history h eager =
      let J = h.journal in
      let reads : EagerFrom (base_of w) J.rest = subst (λ l. EagerFrom (base_of w) (after_head l)) (commands_same J.entries ∙ J.commands) (of_fed (λ z raws. EagerFrom (base_of w) (after_head (commands_in (as_entries raws)))) J eager) in
      of_world (λ z raws. History z m (base_of w) (as_entries raws)) J (h.history (is_alone J).others (base_of w) reads)
