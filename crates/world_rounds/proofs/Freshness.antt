-- New commands carry new completion ids, if recorded commands are skipped: over each round, after any rounds before it.
use Rattle.std.proofs.Common.{◌≡◌, ◌⊎◌, inl, inr, ⊎_elim, ℕ, List, [], ◌∷◌, ◌++◌, length, take, drop, Some, refl, sym, ap, ◌∙◌, subst, append_assoc}
use Rattle.std.specs.List.{concat}
use Rattle.std.proofs.lemmas.Option.{same_Some}
use Rattle.journal_protocol.specs.Start.{Start}
use Rattle.journal_protocol.specs.Message.TheVariants as message
use Rattle.journal_protocol.specs.RawMessage.{RawMessage}
use Rattle.journal_protocol.specs.Frames.{encoding}
use Rattle.journal_protocol.specs.Bodies.{start_in}
use Rattle.vm_asks.specs.Carried.{AreGreater, all_carried}
use Rattle.journal_entries.specs.Frames.{frames_of}
use Rattle.vm_model.specs.Calls.{Meaning}
use Rattle.journal_entries.specs.Journal.{stored_form}
use Rattle.vm_attempt.specs.Record.{heard}
use Rattle.journal_entries.specs.JournalFrames.{commands_among}
use Rattle.vm_attempt.specs.Told.{HasFreshIds, Journal, written_by}
use Rattle.vm_attempt.proofs.Numbers.{carried_append}
use Rattle.vm_attempt.proofs.Replayed.{head_same, tail_same}
use Rattle.world_rounds.specs.declared.types.Round.{Round}
use Rattle.world_rounds.specs.declared.types.Setting.{Setting}
use Rattle.journal_entries.specs.Entries.{journal_frames}
use Rattle.world_rounds.specs.Worlds.{IsJournal, start_for}
use Rattle.journal_entries.proofs.Framing.{AreFrames, journal_length, same_front}
use Rattle.world_rounds.specs.Fresh.{AreFresh, IsFresh, Skips, ids_in, ids_written}
use Rattle.world_rounds.specs.Rounds.{AttemptDoes, Now, RefusedDoes, ReportView, RoundDoes, RoundsDo, report_of}
use Rattle.world_rounds.proofs.Agreeing.{round_counts, then_stood}
use Rattle.world_rounds.proofs.Coursing.{fed_frames, new_behind, stored_among}
use Rattle.world_rounds.proofs.Keeping.{Going, arrivals_keep}
use Rattle.world_rounds.proofs.Rounding.{attempt_goes, round_grows, rounds_grow, start_framed, start_reads}

-- ---- greater ids

greater_front : (old xs ys : List ℕ) → AreGreater old (xs ++ ys) → AreGreater old xs
greater_front old [] ys h = tt
greater_front old (x ∷ xs) ys h = (h.0, greater_front old xs ys h.1)

none_greater : (old : List ℕ) (cs : List RawMessage) → cs ≡ [] → AreGreater old (all_carried cs)
none_greater old cs none = subst (λ l. AreGreater old (all_carried l)) (sym none) tt

-- ---- an attempt whose journal is the world's

module _ (m : Meaning) (w : Setting) (begin_bytes : List ℕ) (raw : RawMessage) (st : Start) (old : List (List ℕ)) (j : IsJournal old) (framed : AreFrames begin_bytes (raw ∷ [])) (found : start_in raw.body ≡ Some st) (known : st.known_entries ≡ length old) (now : Now) (g : Going w.version begin_bytes old now) where
  -- the commands that it was fed are those of the journal
  commands_fed : (J : Journal (heard w.version now.attempt)) → J.first ∷ J.rest ≡ commands_among (journal_frames old)
  commands_fed J =
      let F = fed_frames m w.version begin_bytes raw old j framed now g in
      let G = F.0 in
      let same : raw ∷ (journal_frames old ++ g.came) ≡ J.first_frame ∷ ((J.entries ++ J.others) ++ G) = F.1 ∙ ap (λ l. l ++ G) J.frames in
      let head : raw ≡ J.first_frame = head_same raw J.first_frame (journal_frames old ++ g.came) ((J.entries ++ J.others) ++ G) same in
      let tail : journal_frames old ++ g.came ≡ J.entries ++ (J.others ++ G) = tail_same raw J.first_frame (journal_frames old ++ g.came) ((J.entries ++ J.others) ++ G) same ∙ append_assoc J.entries J.others G in
      let is_st : J.start ≡ st = same_Some J.start st (sym J.reads_start ∙ ap (λ (x : RawMessage). start_in x.body) (sym head) ∙ found) in
      let count : length (journal_frames old) ≡ length J.entries = journal_length old j.entries ∙ sym (J.count ∙ ap (λ (x : Start). x.known_entries) is_st ∙ known) in
      sym J.commands ∙ ap commands_among (sym (same_front (journal_frames old) J.entries g.came (J.others ++ G) count tail).0)

  greater : (written_by now.attempt ≡ []) ⊎ HasFreshIds (heard w.version now.attempt) (written_by now.attempt) → AreGreater (ids_in old) (all_carried (written_by now.attempt))
  greater = ⊎_elim
      (λ (none : written_by now.attempt ≡ []). none_greater (ids_in old) (written_by now.attempt) none)
      (λ (x : HasFreshIds (heard w.version now.attempt) (written_by now.attempt)). subst (λ cs. AreGreater (all_carried cs) (all_carried (written_by now.attempt))) (commands_fed x.journal) x.greater)

  -- what was stored was written
  stored_greater : AreGreater (ids_in old) (all_carried (written_by now.attempt)) → AreGreater (ids_in old) (ids_in g.added)
  stored_greater h =
      let s = stored_among w.version begin_bytes old now g in
      subst (λ cs. AreGreater (ids_in old) (all_carried cs)) (sym g.commands)
      (greater_front (ids_in old) (all_carried (commands_among g.scanned)) (all_carried s.0) (subst (AreGreater (ids_in old)) (ap all_carried s.1 ∙ carried_append (commands_among g.scanned) s.0) h))

  -- what is reported as output was written
  reported : ids_written (report_of now).output ≡ all_carried (written_by now.attempt)
  reported = ap (λ b. ids_written (b ++ concat now.attempt.vm.machine.output)) (sym g.output_is)

-- ---- one round

-- what a round has added
record Adds (old : List (List ℕ)) (report : ReportView) (new : List (List ℕ)) : Type 0 where
  added : List (List ℕ)
  extends : new ≡ old ++ added
  fresh : IsFresh old added report.output

attempt_fresh : (m : Meaning) (w : Setting) (round : Round) (old : List (List ℕ)) (report : ReportView) (new : List (List ℕ)) → Skips w.options → IsJournal old → AttemptDoes m w round old report new → Adds old report new
attempt_fresh m w round old report new skips j d =
    let st = start_for w round old in
    let bytes = encoding (message.Start st) in
    let raw = stored_form (message.Start st) in
    let framed = start_framed st d.start in
    let found = start_reads st d.start in
    let now = d.ran.now in
    let g = attempt_goes m w round old report new j d in
    let h = greater m w bytes raw st old j framed found refl now g (d.ran.ends.fresh skips) in
    record {
      added = g.added;
      extends = d.ran.left ∙ g.extends;
      fresh = record {
        written = subst (λ (r : ReportView). AreGreater (ids_in old) (ids_written r.output)) (sym d.ran.told) (subst (AreGreater (ids_in old)) (sym (reported m w bytes raw st old j framed found refl now g)) h);
        stored = stored_greater m w bytes raw st old j framed found refl now g h;
      };
    }

refused_fresh : (m : Meaning) (w : Setting) (round : Round) (old : List (List ℕ)) (report : ReportView) (new : List (List ℕ)) → IsJournal old → RefusedDoes w round old report new → Adds old report new
unfolding frames_of
refused_fresh m w round old report new j d =
    let g = arrivals_keep round.events old new j d.arrivals in
    record {
      added = g.added;
      extends = g.extends;
      fresh = record {
        written = subst (λ (r : ReportView). AreGreater (ids_in old) (ids_written r.output)) (sym d.told) tt;
        stored = none_greater (ids_in old) (commands_among (journal_frames g.added)) g.commands;
      };
    }

round_fresh : (m : Meaning) (w : Setting) (round : Round) (old : List (List ℕ)) (report : ReportView) (new : List (List ℕ)) → Skips w.options → IsJournal old → RoundDoes m w round old report new → Adds old report new
round_fresh m w round old report new skips j (inl d) = attempt_fresh m w round old report new skips j d
round_fresh m w round old report new skips j (inr d) = refused_fresh m w round old report new j d

-- ---- rounds

pub rounds_fresh : (m : Meaning) (w : Setting) (rounds : List Round) (old : List (List ℕ)) (reports : List ReportView) (new : List (List ℕ)) → Skips w.options → IsJournal old → RoundsDo m w rounds old reports new → AreFresh (length old) new reports
rounds_fresh m w [] old reports new skips j d = subst (AreFresh (length old) new) (sym d.0) tt
rounds_fresh m w (q ∷ qs) old reports new skips j (mid, report, more, is, one, others) =
    let g = round_grows m w q old report mid j one in
    let a = round_fresh m w q old report mid skips j one in
    let rest = rounds_grow m w qs mid more new g.journal others in
    let counts = round_counts m w q old report mid one in
    let stood : take report.entries new ≡ mid = then_stood report.entries mid rest.added new counts rest.extends in
    let before : take (length old) new ≡ old = then_stood (length old) old (a.added ++ rest.added) new refl (rest.extends ∙ ap (λ l. l ++ rest.added) a.extends ∙ append_assoc old a.added rest.added) in
    let added : drop (length old) (take report.entries new) ≡ a.added = ap (drop (length old)) (stood ∙ a.extends) ∙ new_behind old a.added in
    let here : IsFresh (take (length old) new) (drop (length old) (take report.entries new)) report.output = subst (λ (x : List (List ℕ) × List (List ℕ)). IsFresh x.0 x.1 report.output) (λ i. (sym before i, sym added i)) a.fresh in
    let there : AreFresh report.entries new more = subst (λ n. AreFresh n new more) (sym counts) (rounds_fresh m w qs mid more new skips g.journal others) in
    subst (AreFresh (length old) new) (sym is) (here, there)
