-- What lasts over the events of a course.
use Rattle.std.proofs.Common.{◌≡◌, inl, ℕ, ◌≤◌, List, [], ◌∷◌, ◌++◌, length, take, Option, Some, None, refl, sym, ap, ◌∙◌, subst, arith, append_assoc, Global}
use Rattle.std.proofs.lemmas.List.{length-take-le, length-append}
use Rattle.std.proofs.Math.Seq.{take-append_seam, take-length}
use Rattle.std.specs.List.{concat}
use Rattle.journal_protocol.specs.Frames.{encoding, IsWhole}
use Rattle.invocation_vm.specs.Making.{IsSupported, made}
use Rattle.vm_model.specs.Calls.{Meaning}
use Rattle.vm_model.specs.HonestRounds.{IsOneRun}
use Rattle.vm_model.specs.Histories.{Honest}
use Rattle.vm_model.specs.Fixed.{Fixed, fixed_by}
use Rattle.vm_attempt.specs.Record.{AttemptView, Record}
use Rattle.vm_attempt.specs.Stepping.{fresh_record}
use Rattle.world_rounds.specs.declared.types.Event.{Event}
use Rattle.world_rounds.specs.declared.types.Round.{Round}
use Rattle.world_rounds.specs.declared.types.Setting.{Setting}
use Rattle.journal_entries.specs.Entries.{journal_entries}
use Rattle.world_rounds.specs.States.{HaveTextKeys, base_of, pairs_for}
use Rattle.world_rounds.specs.Worlds.{IsJournal, WorldView, fixed_in, setup_of, start_message}
use Rattle.world_rounds.specs.Rounds.{EndsTold, Happens, Now, ReplaysAndQueues, begin, new_now, report_of}
use Rattle.world_rounds.specs.declared.desk.Desk.{Desk}
use Rattle.world_rounds.specs.Course.{AreRun, AreRunning, BeginsRound, CourseLasts, CourseView, EndsToldBy, RoundGoesOn, live_now}
use Rattle.world_rounds.specs.Guarantees.{HasOneResultEach, HasRightKinds}
use Rattle.world_rounds.specs.Inside.{the_now}
use Rattle.world_rounds.specs.Sound.{IsSoundFor}
use Rattle.world_rounds.proofs.Beginning.{begun_is}
use Rattle.world_rounds.proofs.Keeping.{Going, events_keep}
use Rattle.world_rounds.proofs.Placing.{happen_then}
use Rattle.world_rounds.proofs.Rounding.{Grows, begun, rounds_grow, rounds_then, stays_one_run, stays_sound}
use Rattle.world_rounds.proofs.Completing.{completes_once}
use Rattle.world_rounds.proofs.RightKinds.{history_kinds}

-- ---- a course

-- before the first round
pub none_run : (m : Meaning) (w : Setting) (journal : List (List ℕ)) → AreRun m w (take (length journal) journal) journal
none_run m w journal = record { rounds = []; reports = []; done = (refl, sym (take-length journal)) }

-- the round goes on by an event
pub goes_further : (m : Meaning) (w : Setting) (old : List (List ℕ)) (now new : Now) (e : Event) → RoundGoesOn m w old now → Happens m e now new → RoundGoesOn m w old new
goes_further m w old now new e g h = record {
  round = record g.round { events = g.round.events ++ e ∷ [] };
  alloc = g.alloc;
  speaks = g.speaks;
  start = g.start;
  texts = g.texts;
  happen = happen_then m g.round.events e (begin g.alloc w g.round old) now new g.happen h;
}

going : (m : Meaning) (w : Setting) (old : List (List ℕ)) (now : Now) → IsJournal old → (g : RoundGoesOn m w old now) → Going w.version (encoding (start_message w g.round old)) old now
going m w old now j g = events_keep m w.version (encoding (start_message w g.round old)) old g.round.events (begin g.alloc w g.round old) now g.happen (begun w.version (encoding (start_message w g.round old)) old (fresh_record (made g.alloc w.options w.version)) j refl refl refl refl)

-- the journal before the first round begins that of a round that goes on, which is a journal
pub running_grows : (m : Meaning) (w : Setting) (first : List (List ℕ)) (now : Now) → IsJournal first → AreRunning m w first now → Grows first now.journal
running_grows m w first now j r =
    let a = rounds_grow m w r.ended.rounds first r.ended.reports r.old j r.ended.done in
    let g = going m w r.old now r.journal r.goes in
    record { added = a.added ++ g.added; extends = g.extends ∙ ap (λ l. l ++ g.added) a.extends ∙ append_assoc first a.added g.added; journal = g.journal }

pub runs_further : (m : Meaning) (w : Setting) (first : List (List ℕ)) (now new : Now) (e : Event) → AreRunning m w first now → Happens m e now new → AreRunning m w first new
runs_further m w first now new e r h = record { old = r.old; journal = r.journal; ended = r.ended; goes = goes_further m w r.old now new e r.goes h }

-- where the round ends, all rounds have run
pub all_run : (m : Meaning) (w : Setting) (first : List (List ℕ)) (now : Now) → AreRunning m w first now → EndsTold (fixed_in m w) now.attempt → AreRun m w first now.journal
all_run m w first now r ends = record {
  rounds = r.ended.rounds ++ r.goes.round ∷ [];
  reports = r.ended.reports ++ report_of now ∷ [];
  done = rounds_then m w r.ended.rounds r.goes.round first r.ended.reports r.old (report_of now) now.journal r.ended.done
      (inl (record {
        alloc = r.goes.alloc;
        speaks = r.goes.speaks;
        start = r.goes.start;
        texts = r.goes.texts;
        ran = record { now = now; happen = r.goes.happen; ends = ends; told = refl; left = refl };
      }));
}

-- a round begins
pub runs_next : (m : Meaning) (w : Setting) (first journal : List (List ℕ)) (round : Round) (alloc : Global) → IsJournal journal → AreRun m w first journal → IsSupported w.version → IsWhole (start_message w round journal) → HaveTextKeys (pairs_for w round journal) → AreRunning m w first (begin alloc w round journal)
runs_next m w first journal round alloc j d speaks start texts = record {
  old = journal;
  journal = j;
  ended = d;
  goes = record {
    round = record round { events = [] };
    alloc = alloc;
    speaks = speaks;
    start = start;
    texts = texts;
    happen = refl;
  };
}

-- ---- what a course keeps

module _ (m : Meaning) (w : Setting) (old new : List (List ℕ)) (j : IsJournal old) (d : AreRun m w old new) where
  pub course_sound : IsSoundFor m w old → IsSoundFor m w new
  course_sound = stays_sound m w d.rounds old d.reports new j d.done

  pub course_one_run : ReplaysAndQueues w.options → IsOneRun (setup_of w) m (Honest (base_of w)) (journal_entries old) → IsOneRun (setup_of w) m (Honest (base_of w)) (journal_entries new)
  course_one_run = stays_one_run m w d.rounds old d.reports new j d.done

  pub course_grows : Grows old new
  course_grows = rounds_grow m w d.rounds old d.reports new j d.done

-- ---- what lasts

-- the front of a journal stays, as it grows
front_stays : (n : ℕ) (old new : List (List ℕ)) → n ≤ length old → (g : Grows (take n old) new) → (take n new ≡ take n old) × (n ≤ length new)
front_stays n old new le g =
    let len : length (take n old) ≡ n = length-take-le n old le in (
      ap (take n) g.extends ∙ subst (λ k. take k (take n old ++ g.added) ≡ take n old) len (take-append_seam (take n old) g.added),
      omega (arith, len, ap length g.extends, length-append (take n old) g.added),
    )

module _ {H : Type 0} (meaning : H → Meaning) (m : Meaning) (w : Setting) (given : ℕ) where
  -- an event happens to a round that goes on
  pub happens_lasts : (desk : Desk) (a : AttemptView H) (e : Event) (desk' : Desk) (a' : AttemptView H) → CourseLasts meaning m w given desk (Some a) → Happens (meaning a.handler) e (the_now desk a.record_of) (the_now desk' a'.record_of) → meaning a'.handler ≡ meaning a.handler → (a'.version ≡ a.version) × (a'.options ≡ a.options) → CourseLasts meaning m w given desk' (Some a')
  happens_lasts desk a e desk' a' l h same made =
      let r = runs_further m w (take given desk.journal) (the_now desk a.record_of) (the_now desk' a'.record_of) e l.course.1 (subst (λ x. Happens x e (the_now desk a.record_of) (the_now desk' a'.record_of)) l.made.0 h) in
      let g = running_grows m w (take given desk.journal) (the_now desk' a'.record_of) l.first r in
      let s = front_stays given desk.journal desk'.journal l.room g in
      record {
        first = subst IsJournal (sym s.0) l.first;
        journal = g.journal;
        room = s.1;
        course = (refl, subst (λ f. AreRunning m w f (the_now desk' a'.record_of)) (sym s.0) r);
        made = (same ∙ l.made.0, made.0 ∙ l.made.1, made.1 ∙ l.made.2);
      }

  pub happens_lasts_in : (desk : Desk) (o : Option (AttemptView H)) (a : AttemptView H) (e : Event) (desk' : Desk) (a' : AttemptView H) → o ≡ Some a → CourseLasts meaning m w given desk o → Happens (meaning a.handler) e (the_now desk a.record_of) (the_now desk' a'.record_of) → meaning a'.handler ≡ meaning a.handler → (a'.version ≡ a.version) × (a'.options ≡ a.options) → CourseLasts meaning m w given desk' (Some a')
  happens_lasts_in desk o a e desk' a' is l h same made = happens_lasts desk a e desk' a' (subst (CourseLasts meaning m w given desk) is l) h same made

  -- rounds lead to the journal, also while one goes on
  pub course_run : (desk : Desk) (o : Option (AttemptView H)) → CourseLasts meaning m w given desk o → EndsToldBy meaning o → AreRun m w (take given desk.journal) desk.journal
  course_run desk None l ends = l.course
  course_run desk (Some a) l ends = all_run m w (take given desk.journal) (the_now desk a.record_of) l.course.1
      (subst (λ (x : Fixed). EndsTold x a.record_of) (λ i. fixed_by (l.made.0 i) (l.made.1 i) (l.made.2 i)) ends)

  -- the attempt is lost
  pub stop_lasts : (desk : Desk) (o : Option (AttemptView H)) → CourseLasts meaning m w given desk o → EndsToldBy meaning o → CourseLasts meaning m w given desk None
  stop_lasts desk o l ends = record { first = l.first; journal = l.journal; room = l.room; course = course_run desk o l ends; made = tt }

  -- no round goes on
  none_lives : (desk : Desk) (o : Option (AttemptView H)) → live_now desk o ≡ None → CourseLasts meaning m w given desk o → AreRun m w (take given desk.journal) desk.journal
  none_lives desk None none l = l.course
  none_lives desk (Some a) none l = cc

  module _ (round : Round) (alloc : Global) (desk desk' : Desk) (waiting : List ℕ) (a : AttemptView H) (e : waiting ≡ encoding (start_message w round desk.journal) ++ concat desk.journal) (f : a.record_of ≡ fresh_record (made alloc w.options w.version)) (put : (r : Record) → the_now desk' r ≡ new_now w.version desk.journal waiting r) where
    -- the round that begins
    pub is_begun : the_now desk' a.record_of ≡ begin alloc w round desk.journal
    is_begun = put a.record_of ∙ begun_is w round desk.journal alloc waiting a.record_of e f

    pub same_journal : desk'.journal ≡ desk.journal
    same_journal = ap (λ (n : Now). n.journal) (put a.record_of)

    pub begin_lasts : (o : Option (AttemptView H)) → live_now desk o ≡ None → CourseLasts meaning m w given desk o → IsSupported w.version → IsWhole (start_message w round desk.journal) → HaveTextKeys (pairs_for w round desk.journal) → meaning a.handler ≡ m → (a.version ≡ w.version) × (a.options ≡ w.options) → CourseLasts meaning m w given desk' (Some a)
    begin_lasts o none l speaks whole texts same for_it = record {
      first = subst (λ j. IsJournal (take given j)) (sym same_journal) l.first;
      journal = subst IsJournal (sym same_journal) l.journal;
      room = subst (λ j. given ≤ length j) (sym same_journal) l.room;
      course = (
        refl,
        subst (λ j. AreRunning m w (take given j) (the_now desk' a.record_of)) (sym same_journal)
            (subst (AreRunning m w (take given desk.journal)) (sym is_begun)
            (runs_next m w (take given desk.journal) desk.journal round alloc l.journal (none_lives desk o none l) speaks whole texts)),
      );
      made = (same, for_it.0, for_it.1);
    }

-- a new course
pub new_lasts : {H : Type 0} (meaning : H → Meaning) (m : Meaning) (w : Setting) (journal : List (List ℕ)) (n : ℕ) (desk : Desk) → IsJournal journal → n ≡ length journal → desk.journal ≡ journal → CourseLasts meaning m w n desk None
new_lasts meaning m w journal n desk j count is =
    subst (λ k. CourseLasts meaning m w k desk None) (sym (count ∙ ap length (sym is)))
    (record {
      first = subst IsJournal (sym (take-length desk.journal)) (subst IsJournal (sym is) j);
      journal = subst IsJournal (sym is) j;
      room = omega arith;
      course = none_run m w desk.journal;
      made = tt;
    })

-- nothing was stored, so all attempts may be made with another setting
pub hand_lasts : {H : Type 0} (meaning : H → Meaning) (m : Meaning) (w w' : Setting) (given : ℕ) (desk desk' : Desk) (o : Option (AttemptView H)) → length desk.journal ≤ given → desk'.journal ≡ desk.journal → CourseLasts meaning m w given desk o → CourseLasts meaning m w' given desk' None
hand_lasts meaning m w w' given desk desk' o le same l =
    let all : given ≡ length desk.journal = omega (arith, le, l.room) in
    new_lasts meaning m w' desk.journal given desk' l.journal all same

-- rounds that have run keep what rounds keep
module _ (m : Meaning) (w : Setting) (old new : List (List ℕ)) (j : IsJournal old) (d : AreRun m w old new) where
  pub course_once : IsSoundFor m w old → HasOneResultEach (record { handler = m; setting = w }) new
  course_once h = completes_once _ m _ new (course_grows m w old new j d).journal (course_sound m w old new j d h).history.history

  pub course_kinds : IsSoundFor m w old → HasRightKinds new
  course_kinds h = history_kinds _ m _ new (course_grows m w old new j d).journal (course_sound m w old new j d h).history.history

-- ---- as callers see it

abbrev pub course_view : {H : Type 0} → H → Setting → ℕ → List (List ℕ) → Option Now → CourseView H
course_view h w given journal live = record { handler = h; setting = w; given = given; journal = journal; live = live }

pub new_seen : {H : Type 0} (h : H) (w inside : WorldView) (n : ℕ) (journal : List (List ℕ)) → inside ≡ w → n ≡ length inside.journal → journal ≡ inside.journal → course_view h inside.setting n journal None ≡ course_view h w.setting (length w.journal) w.journal None
new_seen h w inside n journal is count same = subst (λ (v : WorldView). course_view h inside.setting n journal None ≡ course_view h v.setting (length v.journal) v.journal None) is (λ i. course_view h inside.setting (count i) (same i) None)

pub begins_seen : {H : Type 0} (round : Round) (v : CourseView H) (h : H) (w : Setting) (given : ℕ) (journal journal' : List (List ℕ)) (live : Option Now) (now : Now) (alloc : Global) → course_view h w given journal live ≡ v → journal' ≡ journal → now ≡ begin alloc w round journal → BeginsRound round v (course_view h w given journal' (Some now))
begins_seen round v h w given journal journal' live now alloc is same begun =
    subst (λ (x : CourseView _). BeginsRound round x (course_view h w given journal' (Some now))) is
    (record { same = λ i. course_view h w given (same i) (Some now); begun = (alloc, begun) })

pub hand_seen : {H : Type 0} (v : CourseView H) (h : H) (w w' : Setting) (given : ℕ) (journal : List (List ℕ)) (live : Option Now) (base : List (List ℕ × List ℕ)) → course_view h w given journal live ≡ v → live ≡ None → w' ≡ record w { base = base } → course_view h w' given journal None ≡ record v { setting = record v.setting { base = base } }
hand_seen v h w w' given journal live base is none handed =
    subst (λ (x : CourseView _). course_view h w' given journal None ≡ record x { setting = record x.setting { base = base } }) is (λ i. course_view h (handed i) given journal (sym none i))
