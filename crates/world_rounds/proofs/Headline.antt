-- What a round leaves is what an honest round leaves, of an attempt that its journal tells.
use Rattle.std.proofs.Common.{◌≡◌, ◌⊎◌, inl, inr, ⊎_elim, ℕ, List, [], ◌∷◌, ◌++◌, length, take, Some, refl, sym, ap, ◌∙◌, subst}
use Rattle.std.proofs.Math.Seq.{take-append_seam}
use Rattle.journal_protocol.specs.RawMessage.{RawMessage}
use Rattle.journal_protocol.specs.Notification.{Notification}
use Rattle.journal_protocol.specs.Start.{Start}
use Rattle.journal_protocol.specs.Bodies.{start_in}
use Rattle.vm_model.specs.Calls.{Meaning, Setup}
use Rattle.journal_entries.specs.Journal.{Entry, notifications_in}
use Rattle.vm_model.specs.Moves.{Point, start as first_point}
use Rattle.vm_model.specs.Histories.{Handed, History, IsPrefix, Made}
use Rattle.vm_model.specs.HonestRounds.{Attempted, HonestRound, IsToldOn}
use Rattle.journal_entries.specs.JournalFrames.{commands_among}
use Rattle.vm_attempt.specs.Journals.{setup_for}
use Rattle.vm_state.specs.declared.state_map.StateMap.{StateMap}
use Rattle.vm_attempt.specs.Told.{AnswersAreTold, IsKept, written_by}
use Rattle.world_rounds.specs.declared.types.Setting.{Setting}
use Rattle.world_rounds.specs.Courses.{delivered, start_handed}
use Rattle.journal_entries.specs.Entries.{journal_entries}
use Rattle.world_rounds.specs.Rounds.{EndsTold, Now, ReplaysAndQueues}
use Rattle.world_rounds.specs.Worlds.{IsJournal, fixed_in}
use Rattle.world_rounds.proofs.Coursing.{Along, behind_commands, behind_first, delivered_arrived, stored_among}
use Rattle.journal_entries.proofs.Framing.{AreFrames, entries_append}
use Rattle.world_rounds.proofs.Keeping.{Going}
use Rattle.world_rounds.proofs.Running.{none_two, there}

-- ---- lists

front_taken : (xs ys zs : List RawMessage) → ys ≡ xs ++ zs → xs ≡ take (length xs) ys
front_taken xs ys zs e = sym (ap (take (length xs)) e ∙ take-append_seam xs zs)

-- ---- a round with its attempt

-- a round is an honest one, of an attempt that its journal tells
pub record IsHonest (s : Setup) (m : Meaning) (before : List Entry) (a : Attempted) (after : List Entry) : Type 0 where
  pub told : IsToldOn s m before a
  pub honest : HonestRound before a.course after

module _ (m : Meaning) (w : Setting) (begin_bytes : List ℕ) (raw : RawMessage) (st : Start) (old : List (List ℕ)) (j : IsJournal old) (framed : AreFrames begin_bytes (raw ∷ [])) (found : start_in raw.body ≡ Some st) (known : st.known_entries ≡ length old) (s : Setup) (same_setup : setup_for (fixed_in m w) st ≡ s) (base : StateMap) (past : History s m base (journal_entries old)) (r : ReplaysAndQueues w.options) (now : Now) (course : List Entry) (a : Along m w.version begin_bytes raw old j framed course now) (kept : IsKept (fixed_in m w) now.attempt) where
  abbrev E : List Entry
  E = journal_entries old

  abbrev g : Going w.version begin_bytes old now
  g = a.going

  -- all that was delivered has arrived
  arrived : IsPrefix (notifications_in course) (notifications_in (behind_first g))
  arrived = subst (λ l. IsPrefix l (notifications_in (behind_first g))) (sym a.came) (delivered_arrived m w.version begin_bytes raw old j framed now g)

  honest : HonestRound E course (journal_entries now.journal)
  honest =
      let s = stored_among w.version begin_bytes old now g in
      record {
        added = behind_first g;
        extends = ap journal_entries g.extends ∙ entries_append old g.added;
        undelivered = arrived.0;
        notifications = arrived.1;
        stored = length (commands_among g.scanned);
        commands = behind_commands w.version begin_bytes old now g ∙ front_taken (commands_among g.scanned) (written_by now.attempt) s.0 s.1 ∙ ap (take (length (commands_among g.scanned))) (sym a.written);
        order = a.order;
      }

  -- the attempt, with its answers
  abbrev attempted : Attempted
  attempted = record { given = start_handed st; course = course; answers = now.attempt.answers }

  -- the first point of its run, where so much was delivered
  abbrev from : List Notification → Point
  from ns = first_point s past.input (notifications_in E ++ ns) past.rest

  -- the point that this number of moves of the run over the journal leads to
  told_by_moves : (moves : ℕ) (at : Point) → Made s m (Handed (start_handed st)) moves (from (delivered w.version old now.attempt)) (written_by now.attempt) at → (now.attempt.answers ≡ []) ⊎ (now.attempt.answers ≡ at.answers) → IsHonest s m E attempted (journal_entries now.journal)
  told_by_moves moves at made answered =
      record {
        told = record {
          first = past.first;
          input = past.input;
          reads = past.reads;
          rest = past.rest;
          begins = past.begins;
          moves = moves;
          at = at;
          made = subst (λ (x : List Notification × List RawMessage). Made s m (Handed (start_handed st)) moves (from x.0) x.1 at) (λ i. (sym a.came i, sym a.written i)) made;
          answered = answered;
        };
        honest = honest;
      }

  pub is_honest : EndsTold (fixed_in m w) now.attempt → IsHonest s m E attempted (journal_entries now.journal)
  is_honest end =
      ⊎_elim
      (λ (none : now.attempt.answers ≡ []). told_by_moves 0 (from (delivered w.version old now.attempt)) (end.begins none, refl) (inl none))
      (λ (k : AnswersAreTold (fixed_in m w) now.attempt). told_by_moves k.moves k.at (there m w begin_bytes raw st old j framed found known s same_setup base past r now g k.journal k.moves (written_by now.attempt) k.at k.made) (inr (sym k.answers)))
      (end.told (record { replays = r.replays; queues = r.queues; once = none_two m w begin_bytes raw st old j framed found known s same_setup base past r now g kept }))
