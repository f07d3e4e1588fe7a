-- What a store adds to a journal is a command, or the result of a run whose command stands before it; and an event's fault comes from outside.
use Rattle.std.proofs.Common.{◌≡◌, ℕ, List, [], ◌∷◌, ◌++◌, map, take, Option, Some, sym, ap, ◌∙◌, subst, append-nil, append_assoc}
use Rattle.std.specs.List.{AllByRecursion}
use Rattle.std.proofs.lemmas.List.{append_cancel_left}
use Rattle.journal_protocol.specs.Version.{Version}
use Rattle.journal_entries.specs.Entries.{note_in}
use Rattle.journal_entries.specs.declared.storing.Written.{Written}
use Rattle.journal_entries.specs.declared.storing.Written.TheVariants.{Command, Proposal}
use Rattle.journal_entries.specs.Storing.{stored_as, written_among}
use Rattle.journal_entries.specs.declared.fault.JournalFault.{JournalFault}
use Rattle.vm_model.specs.Calls.{Meaning}
use Rattle.vm_attempt.specs.Record.{AttemptView, Record}
use Rattle.world_rounds.specs.declared.desk.Desk.{Desk}
use Rattle.world_rounds.specs.declared.types.Event.{Event}
use Rattle.world_rounds.specs.declared.types.Event.TheVariants as event
use Rattle.world_rounds.specs.declared.types.Setting.{Setting}
use Rattle.world_rounds.specs.Course.{AreRunning, CourseLasts, CourseView, live_now}
use Rattle.world_rounds.specs.Guarantees.{IsReplayable}
use Rattle.world_rounds.specs.Inside.{the_now}
use Rattle.world_rounds.specs.Outside.{AddRunsAlone, AreOfRuns, IsOfRun, OutsideIn, StoresRuns}
use Rattle.world_rounds.specs.Rounds.{Faults, Happens, Now}
use Rattle.world_rounds.specs.Sound.{IsSoundFor}
use Rattle.world_rounds.specs.Worlds.{IsJournal}
use Rattle.world_rounds.proofs.Continuing.{course_sound, course_view}
use Rattle.world_rounds.proofs.Faultless.{goes_of_runs, goes_outside}
use Rattle.world_rounds.proofs.Settled.{IsItem, are_items, command_unread, completion_read}

-- ---- items

first_of : (w : Written) (ws : List Written) (journal : List (List ℕ)) → AreOfRuns (w ∷ ws) journal → AreOfRuns (w ∷ []) journal
first_of (Command raw) ws journal h = tt
first_of (Proposal p) ws journal h = (h.0, tt)

rest_of : (w : Written) (ws : List Written) (journal : List (List ℕ)) → AreOfRuns (w ∷ ws) journal → AreOfRuns ws (journal ++ stored_as w ∷ [])
rest_of (Command raw) ws journal h = h
rest_of (Proposal p) ws journal h = h.1

item_of_run : (version : Version) (w : Written) (journal : List (List ℕ)) → IsItem version w → AreOfRuns (w ∷ []) journal → IsOfRun (note_in (stored_as w)) journal
item_of_run version (Command raw) journal item h = subst (λ o. IsOfRun o journal) (sym (command_unread raw item.0 item.1)) tt
item_of_run version (Proposal p) journal item h = subst (λ o. IsOfRun o journal) (sym (completion_read p item.0)) h.0

items_add : (version : Version) (ws : List Written) (old before : List (List ℕ)) (entry : List ℕ) (after : List (List ℕ)) → AllByRecursion (IsItem version) ws → AreOfRuns ws old → map stored_as ws ≡ before ++ entry ∷ after → IsOfRun (note_in entry) (old ++ before)
items_add version [] old [] entry after all h e = absurd (cc)
items_add version [] old (b ∷ bs) entry after all h e = absurd (cc)
items_add version (w ∷ ws) old [] entry after all h e =
    let is : stored_as w ≡ entry = cc in
    subst (λ x. IsOfRun (note_in x) (old ++ [])) is (subst (IsOfRun (note_in (stored_as w))) (sym (append-nil old)) (item_of_run version w old all.0 (first_of w ws old h)))
items_add version (w ∷ ws) old (b ∷ bs) entry after all h e =
    let is : stored_as w ≡ b = cc in
    let more : map stored_as ws ≡ bs ++ entry ∷ after = cc in
    subst (λ x. IsOfRun (note_in entry) x) (append_assoc old (stored_as w ∷ []) bs ∙ ap (λ x. old ++ x ∷ bs) is) (items_add version ws (old ++ stored_as w ∷ []) bs entry after all.1 (rest_of w ws old h) more)

-- ---- nothing is added

none_left : (before : List (List ℕ)) (entry : List ℕ) (after : List (List ℕ)) → [] ≡ before ++ entry ∷ after → ⊥
none_left [] entry after e = absurd (cc)
none_left (b ∷ bs) entry after e = absurd (cc)

adds_none : (journal : List (List ℕ)) → AddRunsAlone journal journal
adds_none journal before entry after e = absurd (none_left before entry after (append_cancel_left journal [] (before ++ entry ∷ after) (append-nil journal ∙ e ∙ append_assoc journal before (entry ∷ after))))

-- between rounds nothing is stored
pub none_stored : (e : Event) (old new : List (List ℕ)) → new ≡ old → StoresRuns e old new
none_stored (event.Piece n) old new same = tt
none_stored event.Close old new same = tt
none_stored event.Step old new same = tt
none_stored (event.Steps n) old new same = tt
none_stored (event.RunResult handle exit policy) old new same = tt
none_stored (event.Arrive x) old new same = tt
none_stored (event.Store n) old new same = subst (AddRunsAlone old) (sym same) (adds_none old)

-- ---- a round that goes on

module _ (m : Meaning) (w : Setting) (first : List (List ℕ)) (now : Now) (j : IsJournal first) (r : AreRunning m w first now) (h : IsSoundFor m w first) where
  -- an event's fault comes from outside
  running_outside : (e : Event) (f : JournalFault) → Faults e now f → OutsideIn e (Some now) f
  running_outside e f faults = goes_outside m w r.old now r.journal (course_sound m w first r.old j r.ended h) r.goes e f faults

  -- what a store adds is a command, or the result of a run
  running_adds : (n : ℕ) (new : Now) → Happens m (event.Store n) now new → AddRunsAlone now.journal new.journal
  running_adds n new (journal, waiting, unstored, stores, becomes, whole, proposed) before entry after e =
      items_add now.version (written_among stores.seen) now.journal before entry after (are_items now.version stores.seen stores.readable)
      (goes_of_runs m w r.old now r.journal (course_sound m w first r.old j r.ended h) r.goes n journal waiting unstored whole stores)
      (append_cancel_left now.journal (map stored_as (written_among stores.seen)) (before ++ entry ∷ after) (sym stores.stored ∙ ap (λ (x : Now). x.journal) (sym becomes) ∙ e ∙ append_assoc now.journal before (entry ∷ after)))

  running_stores : (e : Event) (new : Now) → Happens m e now new → StoresRuns e now.journal new.journal
  running_stores (event.Piece n) new d = tt
  running_stores event.Close new d = tt
  running_stores event.Step new d = tt
  running_stores (event.Steps n) new d = tt
  running_stores (event.RunResult handle exit policy) new d = tt
  running_stores (event.Arrive x) new d = tt
  running_stores (event.Store n) new d = running_adds n new d

-- ---- as callers see it

module _ {R H : Type 0} (meaning : R → Meaning) (means : H → Meaning) (handler : H) (w : Setting) (given : ℕ) (desk : Desk) (o : Option (AttemptView R)) (a : AttemptView R) (v : CourseView H) (is : course_view handler w given desk.journal (live_now desk o) ≡ v) (some : o ≡ Some a) (l : CourseLasts meaning (means handler) w given desk o) where
  lasts : CourseLasts meaning (means handler) w given desk (Some a)
  lasts = subst (CourseLasts meaning (means handler) w given desk) some l

  abbrev now_of : Now
  now_of = the_now desk a.record_of

  live_view : course_view handler w given desk.journal (Some now_of) ≡ v
  live_view = ap (λ x. course_view handler w given desk.journal (live_now desk x)) (sym some) ∙ is

  abbrev CanReplay : CourseView H → Type 0
  CanReplay c = IsReplayable (record { handler = means c.handler; setting = c.setting }) (take c.given c.journal)

  pub outside_seen : (e : Event) (f : JournalFault) → Faults e now_of f → CanReplay v → OutsideIn e v.live f
  outside_seen e f faults = subst (λ (c : CourseView H). CanReplay c → OutsideIn e c.live f) live_view
      (λ h. running_outside (means handler) w (take given desk.journal) now_of lasts.first lasts.course.1 h e f faults)

  pub runs_seen : (e : Event) (desk' : Desk) (r : Record) → Happens (meaning a.handler) e now_of (the_now desk' r) → CanReplay v → StoresRuns e v.journal desk'.journal
  runs_seen e desk' r d = subst (λ (c : CourseView H). CanReplay c → StoresRuns e c.journal desk'.journal) live_view
      (λ h. running_stores (means handler) w (take given desk.journal) now_of lasts.first lasts.course.1 h e (the_now desk' r) (subst (λ m. Happens m e now_of (the_now desk' r)) lasts.made.0 d))
