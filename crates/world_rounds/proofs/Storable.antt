-- What is written well can be stored: a proposal's id is carried by a run's command alone, and was not completed.
use Rattle.std.proofs.Common.{◌≡◌, ◌⊎◌, inl, inr, ⊎_elim, ℕ, zero, suc, Bool, true, false, cond, List, [], ◌∷◌, ◌++◌, length, map, take, Option, Some, None, refl, sym, ap, ◌∙◌, subst, append_assoc, append-nil}
use Rattle.std.specs.Prelude.{◌==◌, ◌||◌, if◌then◌else◌}
use Rattle.std.specs.List.{AllByRecursion, flat_map}
use Rattle.std.specs.Option.{option_map}
use Rattle.std.proofs.lemmas.Bool.{eq-eqb, eqb-true}
use Rattle.journal_protocol.specs.Version.{Version}
use Rattle.journal_protocol.specs.Message.{Message}
use Rattle.journal_protocol.specs.Message.TheVariants as message
use Rattle.journal_protocol.specs.RawMessage.{RawMessage}
use Rattle.journal_protocol.specs.Bodies.{message_in}
use Rattle.journal_protocol.specs.Notification.{Notification}
use Rattle.journal_protocol.specs.NotificationId.{NotificationId}
use Rattle.journal_protocol.specs.NotificationId.TheVariants.{CompletionId, SignalId, SignalName}
use Rattle.journal_protocol.specs.NotificationResult.{NotificationResult}
use Rattle.vm_asks.specs.Carried.{all_carried, carried, carried_by, read_carried}
use Rattle.journal_protocol.specs.ProposeRunCompletion.{ProposeRunCompletion}
use Rattle.vm_model.specs.Carried.{is_id_among, is_carried, read_carries}
use Rattle.journal_entries.specs.Journal.{messages_in, read_before}
use Rattle.journal_entries.specs.JournalFrames.{commands_among, is_command_frame}
use Rattle.vm_attempt.proofs.Numbers.{carried_append}
use Rattle.vm_attempt.proofs.Pieces.{commands_append}
use Rattle.journal_entries.specs.declared.completions.Completes.{Completes}
use Rattle.journal_entries.specs.declared.completions.Completes.TheVariants as completes
use Rattle.journal_entries.specs.declared.storing.Written.{Written}
use Rattle.journal_entries.specs.declared.storing.Written.TheVariants.{Command, Proposal}
use Rattle.journal_entries.specs.declared.fault.JournalFault.{JournalFault}
use Rattle.journal_entries.specs.declared.fault.JournalFault.TheVariants as journal_fault
use Rattle.journal_entries.specs.Arrivals.{arrival_fault, completes_among, completes_by, completion_fault, if_same, completes_id, is_of, most_entries, note_fault, stored_proposal_fault, proposed_fault, read_fault, room_fault}
use Rattle.journal_entries.specs.Entries.{journal_frames, note_in, notes_in, said_in}
use Rattle.journal_entries.specs.Storing.{StoredCanBeRead, FirstFault, proposal_of, stored_as, written_among, written_before}
use Rattle.journal_entries.proofs.Framing.{frames_append, notes_append, said_are}
use Rattle.world_rounds.specs.Outside.{AreOfRuns}
use Rattle.world_rounds.proofs.Once.{completes_none}
use Rattle.world_rounds.proofs.Pending.{MayPropose, ProposeWell, among_append, has_run, proposed_ids, read_runs}
use Rattle.world_rounds.proofs.Rising.{Rises, carried_is, only_once, rises_behind, rises_front}
use Rattle.world_rounds.proofs.Settled.{IsItem, command_in, completion, items_enter}

-- ---- the one command that carries a run's id

either : (a b : Bool) → a ≡ true → (a || b) ≡ true
either true b h = refl
either false b h = absurd (cc)

or_else : (a b : Bool) → b ≡ true → (a || b) ≡ true
or_else true b h = refl
or_else false b h = h

runs_complete : (id : ℕ) (m : Message) (before : Option Completes) → read_runs id (Some m) ≡ true → completes_by id m before ≡ Some completes.Proposal
runs_complete id (message.Run c) before h = ap (λ b. if_same b completes.Proposal before) h
runs_complete id m before h = absurd (let z : false ≡ true = h in cc)

runs_carry : (id : ℕ) (o : Option Message) → read_runs id o ≡ true → read_carries id o ≡ true
runs_carry id (Some (message.Run c)) h = either (c.result_completion_id == id) false h
runs_carry id o h = absurd (let z : false ≡ true = h in cc)

run_carried : (id : ℕ) (cs : List RawMessage) → has_run id cs ≡ true → is_carried id cs ≡ true
run_carried id [] h = absurd (cc)
run_carried id (c ∷ cs) h = by_test (read_runs id (message_in c.ty c.body)) refl h (run_carried id cs)
  where
    by_test : (b : Bool) → read_runs id (message_in c.ty c.body) ≡ b → (b || has_run id cs) ≡ true → (has_run id cs ≡ true → is_carried id cs ≡ true) → (read_carries id (message_in c.ty c.body) || is_carried id cs) ≡ true
    by_test true is e ih = either (read_carries id (message_in c.ty c.body)) (is_carried id cs) (runs_carry id (message_in c.ty c.body) is)
    by_test false is e ih = or_else (read_carries id (message_in c.ty c.body)) (is_carried id cs) (ih e)

not_run : (id : ℕ) (cs : List RawMessage) → is_carried id cs ≡ false → has_run id cs ≡ false
not_run id cs none = by_test (has_run id cs) refl
  where
    by_test : (b : Bool) → has_run id cs ≡ b → b ≡ false
    by_test true e = absurd (let z : true ≡ false = sym (run_carried id cs e) ∙ none in cc)
    by_test false e = refl

-- Of commands whose ids rise, what is a run's id is completed by a proposal.
run_completes : (low id : ℕ) (cs : List RawMessage) (before : Option Completes) → Rises low (all_carried cs) → has_run id cs ≡ true → completes_among id (messages_in cs) before ≡ Some completes.Proposal
run_completes low id [] before rises h = absurd (cc)
run_completes low id (c ∷ cs) before rises h = by_read (message_in c.ty c.body) refl rises h (λ b. run_completes low id cs b (rises_behind low (carried_by c) (all_carried cs) rises))
  where
    by_read : (o : Option Message) → message_in c.ty c.body ≡ o → Rises low (carried_by c ++ all_carried cs) → (read_runs id o || has_run id cs) ≡ true → ((b : Option Completes) → has_run id cs ≡ true → completes_among id (messages_in cs) b ≡ Some completes.Proposal)
        → completes_among id (read_before o (messages_in cs)) before ≡ Some completes.Proposal
    by_read None is rises h ih = ih before h
    by_read (Some m) is rises h ih = by_test (read_runs id (Some m)) refl h
      where
        here : read_runs id (Some m) ≡ true → is_id_among id (carried_by c) ≡ true
        here runs = ap (λ o. is_id_among id (read_carried o)) is ∙ runs_carry id (Some m) runs

        by_test : (b : Bool) → read_runs id (Some m) ≡ b → (b || has_run id cs) ≡ true → completes_among id (messages_in cs) (completes_by id m before) ≡ Some completes.Proposal
        by_test true runs e =
            let apart : is_carried id cs ≡ false = carried_is id cs ∙ only_once low id (carried_by c) (all_carried cs) rises (here runs) in
            ap (completes_among id (messages_in cs)) (runs_complete id m before runs) ∙ completes_none id cs (Some completes.Proposal) apart
        by_test false runs e = ih (completes_by id m before) e

-- ---- why ids are completed

-- Each id that these notifications complete was completed by those from the beginning, or by a proposal, or a command that isn't a run's carries it.
abbrev pub IsExplained : List Notification → List RawMessage → List ℕ → List Notification → Type 0
IsExplained ns cs ps notes = (id : ℕ) → completes_id id notes ≡ true → (completes_id id ns ≡ true) ⊎ ((is_id_among id ps ≡ true) ⊎ ((is_carried id cs ≡ true) × (has_run id cs ≡ false)))

pub completed_append : (id : ℕ) (xs ys : List Notification) → completes_id id (xs ++ ys) ≡ (completes_id id xs || completes_id id ys)
completed_append id [] ys = refl
completed_append id (x ∷ xs) ys = by_test (is_of id x.id) (completed_append id xs ys)
  where
    by_test : (b : Bool) → completes_id id (xs ++ ys) ≡ (completes_id id xs || completes_id id ys) → (b || completes_id id (xs ++ ys)) ≡ ((b || completes_id id xs) || completes_id id ys)
    by_test true ih = refl
    by_test false ih = ih

carried_join : (id : ℕ) (xs ys : List RawMessage) → is_carried id (xs ++ ys) ≡ (is_carried id xs || is_carried id ys)
carried_join id xs ys = carried_is id (xs ++ ys) ∙ ap (is_id_among id) (carried_append xs ys) ∙ among_append id (all_carried xs) (all_carried ys) ∙ (λ i. sym (carried_is id xs) i || sym (carried_is id ys) i)

run_join : (id : ℕ) (xs ys : List RawMessage) → has_run id (xs ++ ys) ≡ (has_run id xs || has_run id ys)
run_join id [] ys = refl
run_join id (x ∷ xs) ys = by_test (read_runs id (message_in x.ty x.body)) (run_join id xs ys)
  where
    by_test : (b : Bool) → has_run id (xs ++ ys) ≡ (has_run id xs || has_run id ys) → (b || has_run id (xs ++ ys)) ≡ ((b || has_run id xs) || has_run id ys)
    by_test true ih = refl
    by_test false ih = ih

-- so an id that may be proposed isn't completed
may_be_stored : (ns : List Notification) (cs : List RawMessage) (ps : List ℕ) (notes : List Notification) (id : ℕ) → MayPropose ns cs ps id → IsExplained ns cs ps notes → completes_id id notes ≡ false
may_be_stored ns cs ps notes id may all = by_test (completes_id id notes) refl
  where
    by_test : (b : Bool) → completes_id id notes ≡ b → b ≡ false
    by_test false e = refl
    by_test true e =
        ⊎_elim
        (λ (x : completes_id id ns ≡ true). absurd (let z : true ≡ false = sym x ∙ may.free in cc))
        (λ (y : (is_id_among id ps ≡ true) ⊎ ((is_carried id cs ≡ true) × (has_run id cs ≡ false))).
        ⊎_elim
        (λ (x : is_id_among id ps ≡ true). absurd (let z : true ≡ false = sym x ∙ may.new in cc))
        (λ (x : (is_carried id cs ≡ true) × (has_run id cs ≡ false)). absurd (let z : true ≡ false = sym may.run ∙ x.1 in cc))
        y)
        (all id e)

-- more commands, whose ids are greater
explained_commands : (ns : List Notification) (cs more : List RawMessage) (ps : List ℕ) (notes : List Notification) → Rises 1 (all_carried (cs ++ more)) → IsExplained ns cs ps notes → IsExplained ns (cs ++ more) ps notes
explained_commands ns cs more ps notes rises all id e =
    ⊎_elim
    (λ (x : completes_id id ns ≡ true). inl x)
    (λ (y : (is_id_among id ps ≡ true) ⊎ ((is_carried id cs ≡ true) × (has_run id cs ≡ false))).
    ⊎_elim
    (λ (x : is_id_among id ps ≡ true). inr (inl x))
    (λ (x : (is_carried id cs ≡ true) × (has_run id cs ≡ false)).
    let apart : is_carried id more ≡ false = carried_is id more ∙ only_once 1 id (all_carried cs) (all_carried more) (subst (Rises 1) (carried_append cs more) rises) (sym (carried_is id cs) ∙ x.0) in
    inr (inr (carried_join id cs more ∙ either (is_carried id cs) (is_carried id more) x.0, run_join id cs more ∙ (λ i. x.1 i || not_run id more apart i))))
    y)
    (all id e)

-- one notification more
explained_note : (ns : List Notification) (cs : List RawMessage) (ps qs : List ℕ) (notes : List Notification) (n : Notification) → ((id : ℕ) → is_id_among id ps ≡ true → is_id_among id qs ≡ true)
    → ((id : ℕ) → n.id ≡ CompletionId id → (is_id_among id qs ≡ true) ⊎ ((is_carried id cs ≡ true) × (has_run id cs ≡ false))) → IsExplained ns cs ps notes → IsExplained ns cs qs (notes ++ n ∷ [])
explained_note ns cs ps qs notes n more new all id e = by_test (completes_id id notes) refl (sym (completed_append id notes (n ∷ [])) ∙ e)
  where
    of_id : (x : NotificationId) → is_of id x ≡ true → x ≡ CompletionId id
    of_id (CompletionId other) h = ap CompletionId (eqb-true other id h)
    of_id (SignalId other) h = absurd (cc)
    of_id (SignalName name) h = absurd (cc)

    only : (a : Bool) → (a || false) ≡ true → a ≡ true
    only true h = refl
    only false h = h

    by_test : (b : Bool) → completes_id id notes ≡ b → (b || (is_of id n.id || false)) ≡ true → (completes_id id ns ≡ true) ⊎ ((is_id_among id qs ≡ true) ⊎ ((is_carried id cs ≡ true) × (has_run id cs ≡ false)))
    by_test true there h =
        ⊎_elim
        (λ (x : completes_id id ns ≡ true). inl x)
        (λ (y : (is_id_among id ps ≡ true) ⊎ ((is_carried id cs ≡ true) × (has_run id cs ≡ false))).
        ⊎_elim
        (λ (x : is_id_among id ps ≡ true). inr (inl (more id x)))
        (λ (x : (is_carried id cs ≡ true) × (has_run id cs ≡ false)). inr (inr x))
        y)
        (all id there)
    by_test false there h = inr (new id (of_id n.id (only (is_of id n.id) h)))

-- ---- a journal on which items are stored

-- The journal's commands are these after its first; its completions are explained; the ids of its commands and of those that come rise; and the
-- proposals that come may be made.
pub record Stands (ns : List Notification) (first : RawMessage) (journal : List (List ℕ)) (cs : List RawMessage) (ps : List ℕ) (ws : List Written) : Type 0 where
  pub commands : commands_among (journal_frames journal) ≡ first ∷ cs
  pub explained : IsExplained ns cs ps (notes_in journal)
  pub rises : Rises 1 (all_carried (cs ++ flat_map command_in ws))
  pub well : ProposeWell ns cs ps ws

journal_commands : (journal : List (List ℕ)) (x : List ℕ) (first : RawMessage) (cs more : List RawMessage) → commands_among (journal_frames journal) ≡ first ∷ cs → commands_among (journal_frames (x ∷ [])) ≡ more → commands_among (journal_frames (journal ++ x ∷ [])) ≡ first ∷ (cs ++ more)
journal_commands journal x first cs more commands one = ap commands_among (frames_append journal (x ∷ [])) ∙ commands_append (journal_frames journal) (journal_frames (x ∷ [])) ∙ (λ i. commands i ++ one i)

module _ (version : Version) (ns : List Notification) (first : RawMessage) where
  -- a command is stored
  command_stored : (raw : RawMessage) (ws : List Written) (journal : List (List ℕ)) (cs : List RawMessage) (ps : List ℕ) → IsItem version (Command raw) → Stands ns first journal cs ps (Command raw ∷ ws) → Stands ns first (journal ++ stored_as (Command raw) ∷ []) (cs ++ raw ∷ []) ps ws
  command_stored raw ws journal cs ps item s =
      let x = stored_as (Command raw) in
      let enter = items_enter version (Command raw ∷ []) (item, tt) in
      let rises : Rises 1 (all_carried ((cs ++ raw ∷ []) ++ flat_map command_in ws)) = subst (λ l. Rises 1 (all_carried l)) (sym (append_assoc cs (raw ∷ []) (flat_map command_in ws))) s.rises in
      let front : Rises 1 (all_carried (cs ++ raw ∷ [])) = rises_front 1 (all_carried (cs ++ raw ∷ [])) (all_carried (flat_map command_in ws)) (subst (Rises 1) (carried_append (cs ++ raw ∷ []) (flat_map command_in ws)) rises) in
      let notes : notes_in (journal ++ x ∷ []) ≡ notes_in journal = notes_append journal (x ∷ []) ∙ ap (λ l. notes_in journal ++ l) enter.1 ∙ append-nil (notes_in journal) in
      record {
        commands = journal_commands journal x first cs (raw ∷ []) s.commands enter.0;
        explained = subst (IsExplained ns (cs ++ raw ∷ []) ps) (sym notes) (explained_commands ns cs (raw ∷ []) ps (notes_in journal) front s.explained);
        rises = rises;
        well = s.well;
      }

  -- a proposal is stored
  proposal_stored : (p : ProposeRunCompletion) (ws : List Written) (journal : List (List ℕ)) (cs : List RawMessage) (ps : List ℕ) → IsItem version (Proposal p) → Stands ns first journal cs ps (Proposal p ∷ ws) → Stands ns first (journal ++ stored_as (Proposal p) ∷ []) cs (ps ++ p.id ∷ []) ws
  proposal_stored p ws journal cs ps item s =
      let x = stored_as (Proposal p) in
      let enter = items_enter version (Proposal p ∷ []) (item, tt) in
      let notes : notes_in (journal ++ x ∷ []) ≡ notes_in journal ++ completion p ∷ [] = notes_append journal (x ∷ []) ∙ ap (λ l. notes_in journal ++ l) enter.1 in
      record {
        commands = journal_commands journal x first cs [] s.commands enter.0 ∙ ap (λ l. first ∷ l) (append-nil cs);
        explained = subst (IsExplained ns cs (ps ++ p.id ∷ [])) (sym notes)
            (explained_note ns cs ps (ps ++ p.id ∷ []) (notes_in journal) (completion p) (λ id h. among_append id ps (p.id ∷ []) ∙ either (is_id_among id ps) (is_id_among id (p.id ∷ [])) h) (λ id is. inl (newest id is)) s.explained);
        rises = s.rises;
        well = s.well.1;
      }
    where
      newest : (id : ℕ) → (completion p).id ≡ CompletionId id → is_id_among id (ps ++ p.id ∷ []) ≡ true
      newest id is =
          let same : p.id ≡ id = cc in
          among_append id ps (p.id ∷ []) ∙ or_else (is_id_among id ps) (is_id_among id (p.id ∷ [])) (either (p.id == id) false (eq-eqb p.id id same))

  -- items are stored
  pub items_stored : (us ws : List Written) (journal : List (List ℕ)) (cs : List RawMessage) (ps : List ℕ) → AllByRecursion (IsItem version) us → Stands ns first journal cs ps (us ++ ws) → Stands ns first (journal ++ map stored_as us) (cs ++ flat_map command_in us) (ps ++ proposed_ids us) ws
  items_stored [] ws journal cs ps all s = subst (λ (x : List (List ℕ) × List RawMessage × List ℕ). Stands ns first x.0 x.1 x.2 ws) (λ i. (sym (append-nil journal) i, sym (append-nil cs) i, sym (append-nil ps) i)) s
  items_stored (Command raw ∷ us) ws journal cs ps all s =
      let x = stored_as (Command raw) in
      subst (λ (z : List (List ℕ) × List RawMessage). Stands ns first z.0 z.1 (ps ++ proposed_ids us) ws) (λ i. (append_assoc journal (x ∷ []) (map stored_as us) i, append_assoc cs (raw ∷ []) (flat_map command_in us) i))
      (items_stored us ws (journal ++ x ∷ []) (cs ++ raw ∷ []) ps all.1 (command_stored raw (us ++ ws) journal cs ps all.0 s))
  items_stored (Proposal p ∷ us) ws journal cs ps all s =
      let x = stored_as (Proposal p) in
      subst (λ (z : List (List ℕ) × List ℕ). Stands ns first z.0 (cs ++ flat_map command_in us) z.1 ws) (λ i. (append_assoc journal (x ∷ []) (map stored_as us) i, append_assoc ps (p.id ∷ []) (proposed_ids us) i))
      (items_stored us ws (journal ++ x ∷ []) cs (ps ++ p.id ∷ []) all.1 (proposal_stored p (us ++ ws) journal cs ps all.0 s))

  -- ---- faults

  room_full : (journal : List (List ℕ)) (f : JournalFault) → room_fault journal ≡ Some f → f ≡ journal_fault.JournalFull
  room_full journal f = by_test (length journal == most_entries)
    where
      by_test : (b : Bool) → (if b then Some journal_fault.JournalFull else None) ≡ Some f → f ≡ journal_fault.JournalFull
      by_test true h = cc
      by_test false h = absurd (cc)

  completed_as : (id : ℕ) (journal : List (List ℕ)) (cs : List RawMessage) → commands_among (journal_frames journal) ≡ first ∷ cs → Rises 1 (all_carried cs) → has_run id cs ≡ true → completes_among id (said_in journal) None ≡ Some completes.Proposal
  completed_as id journal cs commands rises run = ap (λ ms. completes_among id ms None) (said_are journal ∙ ap messages_in commands) ∙ by_read (message_in first.ty first.body)
    where
      by_read : (o : Option Message) → completes_among id (read_before o (messages_in cs)) None ≡ Some completes.Proposal
      by_read None = run_completes 1 id cs None rises run
      by_read (Some m) = run_completes 1 id cs (completes_by id m None) rises run

  proposal_full : (p : ProposeRunCompletion) (ws : List Written) (journal : List (List ℕ)) (cs : List RawMessage) (ps : List ℕ) (f : JournalFault) → Stands ns first journal cs ps (Proposal p ∷ ws) → stored_proposal_fault p.id journal ≡ Some f → f ≡ journal_fault.JournalFull
  proposal_full p ws journal cs ps f s e =
      let id = p.id in
      let may = s.well.0 in
      let rises : Rises 1 (all_carried cs) = rises_front 1 (all_carried cs) (all_carried (flat_map command_in ws)) (subst (Rises 1) (carried_append cs (flat_map command_in ws)) s.rises) in
      let kind = completed_as id journal cs s.commands rises may.run in
      let free = may_be_stored ns cs ps (notes_in journal) id may s.explained in
      room_full journal f ((λ i. proposed_fault (sym kind i) (sym free i) (room_fault journal)) ∙ e)

  -- the proposals among items are of runs whose commands stand before them
  pub items_of_runs : (us ws : List Written) (journal : List (List ℕ)) (cs : List RawMessage) (ps : List ℕ) → AllByRecursion (IsItem version) us → Stands ns first journal cs ps (us ++ ws) → AreOfRuns us journal
  items_of_runs [] ws journal cs ps all s = tt
  items_of_runs (Command raw ∷ us) ws journal cs ps all s = items_of_runs us ws (journal ++ stored_as (Command raw) ∷ []) (cs ++ raw ∷ []) ps all.1 (command_stored raw (us ++ ws) journal cs ps all.0 s)
  items_of_runs (Proposal p ∷ us) ws journal cs ps all s =
      let rises : Rises 1 (all_carried cs) = rises_front 1 (all_carried cs) (all_carried (flat_map command_in (us ++ ws))) (subst (Rises 1) (carried_append cs (flat_map command_in (us ++ ws))) s.rises) in (
        completed_as p.id journal cs s.commands rises s.well.0.run,
        items_of_runs us ws (journal ++ stored_as (Proposal p) ∷ []) cs (ps ++ p.id ∷ []) all.1 (proposal_stored p (us ++ ws) journal cs ps all.0 s),
      )

  -- each command among items is one
  abbrev IsSo : Written → Type 0
  IsSo (Command raw) = is_command_frame raw ≡ true
  IsSo (Proposal p) = Unit {0}

  so_by : (b : Bool) (raw : RawMessage) (o : Option ProposeRunCompletion) (ws : List Written) → is_command_frame raw ≡ b → AllByRecursion IsSo ws → AllByRecursion IsSo (written_before (cond b (Some (Command raw)) (option_map Proposal o)) ws)
  so_by true raw o ws is h = (is, h)
  so_by false raw None ws is h = h
  so_by false raw (Some p) ws is h = (tt, h)

  all_so : (raws : List RawMessage) → AllByRecursion IsSo (written_among raws)
  all_so [] = tt
  all_so (raw ∷ raws) = so_by (is_command_frame raw) raw (proposal_of raw) (written_among raws) refl (all_so raws)

  first_full : (n : ℕ) (ws : List Written) (journal : List (List ℕ)) (cs : List RawMessage) (ps : List ℕ) (f : JournalFault) → AllByRecursion IsSo ws → Stands ns first journal cs ps ws → FirstFault version (take n ws) journal f → f ≡ journal_fault.JournalFull
  first_full zero ws journal cs ps f so s h = absurd h
  first_full (suc n) [] journal cs ps f so s h = absurd h
  first_full (suc n) (Command raw ∷ ws) journal cs ps f so s h =
      ⊎_elim
      (λ (x : room_fault journal ≡ Some f). room_full journal f x)
      (λ (x : (room_fault journal ≡ None) × StoredCanBeRead version (Command raw) × FirstFault version (take n ws) (journal ++ stored_as (Command raw) ∷ []) f).
      first_full n ws (journal ++ stored_as (Command raw) ∷ []) (cs ++ raw ∷ []) ps f so.1 (command_stored raw ws journal cs ps (so.0, x.1) s) x.2)
      h
  first_full (suc n) (Proposal p ∷ ws) journal cs ps f so s h =
      ⊎_elim
      (λ (x : stored_proposal_fault p.id journal ≡ Some f). proposal_full p ws journal cs ps f s x)
      (λ (x : (stored_proposal_fault p.id journal ≡ None) × StoredCanBeRead version (Proposal p) × FirstFault version (take n ws) (journal ++ stored_as (Proposal p) ∷ []) f).
      first_full n ws (journal ++ stored_as (Proposal p) ∷ []) cs (ps ++ p.id ∷ []) f so.1 (proposal_stored p ws journal cs ps x.1 s) x.2)
      h

  -- the first fault of what is stored is that of a full journal
  pub storing_full : (n : ℕ) (raws : List RawMessage) (journal : List (List ℕ)) (cs : List RawMessage) (ps : List ℕ) (f : JournalFault) → Stands ns first journal cs ps (written_among raws) → FirstFault version (take n (written_among raws)) journal f → f ≡ journal_fault.JournalFull
  storing_full n raws journal cs ps f s h = first_full n (written_among raws) journal cs ps f (all_so raws) s h

  -- ---- arrivals

  not_proposed : (kind : Option Completes) (done : Bool) (brings : NotificationResult) (room : Option JournalFault) → completion_fault kind done brings room ≡ None → kind ≡ Some completes.Proposal → ⊥
  not_proposed None done brings room e is = absurd (cc)
  not_proposed (Some kind) true brings room e is = absurd (cc)
  not_proposed (Some completes.InvocationId) false brings room e is = absurd (cc)
  not_proposed (Some completes.Proposal) false brings room e is = absurd (cc)
  not_proposed (Some completes.AnyResult) false brings room e is = absurd (cc)

  note_apart : (x : NotificationId) (brings : NotificationResult) (journal : List (List ℕ)) (cs : List RawMessage) → commands_among (journal_frames journal) ≡ first ∷ cs → Rises 1 (all_carried cs) → note_fault x brings journal ≡ None → (id : ℕ) → x ≡ CompletionId id → has_run id cs ≡ false
  note_apart (SignalId other) brings journal cs commands rises e id is = absurd (cc)
  note_apart (SignalName name) brings journal cs commands rises e id is = absurd (cc)
  note_apart (CompletionId other) brings journal cs commands rises e id is =
      let same : other ≡ id = cc in
      subst (λ k. has_run k cs ≡ false) same (by_test (has_run other cs) refl)
    where
      by_test : (b : Bool) → has_run other cs ≡ b → b ≡ false
      by_test false h = refl
      by_test true h = absurd (not_proposed (completes_among other (said_in journal) None) (completes_id other (notes_in journal)) brings (room_fault journal) e (completed_as other journal cs commands rises h))

  -- what arrives without a fault is no result of a run
  arrival_apart : (x : List ℕ) (journal : List (List ℕ)) (cs : List RawMessage) (n : Notification) → note_in x ≡ Some n → commands_among (journal_frames journal) ≡ first ∷ cs → Rises 1 (all_carried cs) → arrival_fault x journal ≡ None → (id : ℕ) → n.id ≡ CompletionId id → has_run id cs ≡ false
  arrival_apart x journal cs n reads commands rises e = note_apart n.id n.result journal cs commands rises (ap (λ o. read_fault o journal) (sym reads) ∙ e)

  -- and the completions are explained still
  pub explained_arrival : (x : List ℕ) (journal : List (List ℕ)) (cs : List RawMessage) (ps : List ℕ) (n : Notification) → note_in x ≡ Some n → carried_by first ≡ [] → commands_among (journal_frames journal) ≡ first ∷ cs → Rises 1 (all_carried cs) → arrival_fault x journal ≡ None → ((id : ℕ) → n.id ≡ CompletionId id → is_carried id (commands_among (journal_frames journal)) ≡ true)
      → IsExplained ns cs ps (notes_in journal) → IsExplained ns cs ps (notes_in journal ++ n ∷ [])
  explained_arrival x journal cs ps n reads none commands rises e carried all =
      explained_note ns cs ps ps (notes_in journal) n (λ id h. h) (λ id is. inr (behind_first id (carried id is), arrival_apart x journal cs n reads commands rises e id is)) all
    where
      behind_first : (id : ℕ) → is_carried id (commands_among (journal_frames journal)) ≡ true → is_carried id cs ≡ true
      behind_first id h = carried_is id cs ∙ ap (is_id_among id) (ap (λ l. l ++ all_carried cs) (sym none)) ∙ sym (carried_is id (first ∷ cs)) ∙ ap (is_carried id) (sym commands) ∙ h
