-- Rounds of a family of handlers over a world's journal.
use Rattle.std.proofs.Common.{◌≡◌, ℕ, List, [], ◌∷◌, ◌++◌, refl, sym, ap, ◌∙◌, subst, take, append_assoc, append-nil}
use Rattle.std.specs.Prelude.{map}
use Rattle.std.specs.List.{AllByRecursion}
use Rattle.vm_model.specs.Alike.{AlikeHandlers, AlikeOn, IsOneRunAlike, LeaveAlikeOn, saying}
use Rattle.vm_model.specs.Calls.{Meaning, Setup}
use Rattle.vm_model.specs.Finished.{HasFinished}
use Rattle.vm_model.specs.Histories.{History, Honest, IsAllOf, OneBegins, Whole}
use Rattle.vm_model.specs.HonestRounds.{Attempted, HonestRounds}
use Rattle.journal_entries.specs.Journal.{Entry, commands_in}
use Rattle.vm_model.proofs.Likeness.{alike_everywhere, finished_alike, handlers_along, handlers_back, history_alike, sound_alike, told_alike}
use Rattle.vm_model.proofs.Mixed.{all_is_true, honest_enough, mixed_round, mixed_sound, mixed_whole_round}
use Rattle.vm_state.specs.declared.state_map.StateMap.{StateMap}
use Rattle.vm_state.specs.Entries.{IsInOrder}
use Rattle.journal_entries.specs.Entries.{journal_entries}
use Rattle.world_rounds.specs.States.{base_of}
use Rattle.world_rounds.specs.Worlds.{IsJournal, setup_of}
use Rattle.world_rounds.specs.declared.types.Round.{Round}
use Rattle.world_rounds.specs.declared.types.Setting.{Setting}
use Rattle.world_rounds.specs.Courses.{attempt_of}
use Rattle.world_rounds.specs.Families.{AreAlikeTo, EachCanReplay, EachIsOwn, NoneIsPartial, Played, PlayedDo, played_by}
use Rattle.world_rounds.specs.Rounds.{Agree, CompletesOnce, ReplaysAndQueues, ReportView, RoundDoes, RoundsDo, TellsAlong}
use Rattle.world_rounds.specs.Sound.{IsSoundFor}
use Rattle.world_rounds.proofs.Agreeing.{attempt_along, round_counts, then_stood}
use Rattle.world_rounds.proofs.Handing.{base_in_order}
use Rattle.world_rounds.proofs.Completing.{completes_once_too}
use Rattle.world_rounds.proofs.Owning.{rounds_own}
use Rattle.world_rounds.proofs.Rounding.{Grows, are_honest, entries_grow, hands_whole, round_gives, round_grows, round_handed, round_honest, rounds_grow, stays_sound}
use Rattle.world_rounds.proofs.Takeover.{stays_finished}

-- what a journal is for one of two handlers that are alike it is for the other
pub sound_for : (w : Setting) (m other : Meaning) (journal : List (List ℕ)) → AlikeHandlers (setup_of w) m other → IsSoundFor m w journal → IsSoundFor other w journal
sound_for w m other journal alike h =
    let a = alike_everywhere (setup_of w) m other (journal_entries journal) alike in
    record { replays = h.replays; history = sound_alike (setup_of w) m other (base_of w) (journal_entries journal) a.0 a.1 h.history }

one_stays : (w : Setting) (p : Played) (old : List (List ℕ)) (report : ReportView) (mid : List (List ℕ)) → IsJournal old → RoundDoes p.handler w p.round old report mid → IsSoundFor p.handler w old → IsSoundFor p.handler w mid
one_stays w p old report mid j one h = stays_sound p.handler w (p.round ∷ []) old (report ∷ []) mid j (mid, report, [], refl, one, (refl, refl)) h

-- after a round of a handler that is alike the first can replay the journal too
one_keeps : (w : Setting) (m : Meaning) (p : Played) (old : List (List ℕ)) (report : ReportView) (mid : List (List ℕ)) → AlikeHandlers (setup_of w) m p.handler → IsJournal old → RoundDoes p.handler w p.round old report mid → IsSoundFor m w old → IsSoundFor m w mid
one_keeps w m p old report mid alike j one h = sound_for w p.handler m mid (handlers_back (setup_of w) m p.handler alike) (one_stays w p old report mid j one (sound_for w m p.handler old alike h))

pub first_keeps : (w : Setting) (m : Meaning) (played : List Played) (old new : List (List ℕ)) (reports : List ReportView) → AreAlikeTo w m played → IsJournal old → IsSoundFor m w old → PlayedDo w played old reports new → IsSoundFor m w new
first_keeps w m [] old new reports are j h d = subst (IsSoundFor m w) (sym d.1) h
first_keeps w m (p ∷ ps) old new reports are j h (mid, report, more, shown, one, others) =
    first_keeps w m ps mid new more are.1 (round_grows p.handler w p.round old report mid j one).journal (one_keeps w m p old report mid are.0 j one h) others

pub family_keeps : (w : Setting) (m : Meaning) (played : List Played) (old new : List (List ℕ)) (reports : List ReportView) → AreAlikeTo w m played → IsJournal old → IsSoundFor m w old → PlayedDo w played old reports new
    → (other : Meaning) → AlikeHandlers (setup_of w) m other → IsSoundFor other w new
family_keeps w m played old new reports are j h d other also = sound_for w m other new also (first_keeps w m played old new reports are j h d)

pub each_replays : (w : Setting) (m : Meaning) (played : List Played) (old new : List (List ℕ)) (reports : List ReportView) → AreAlikeTo w m played → IsJournal old → IsSoundFor m w old → (d : PlayedDo w played old reports new)
    → EachCanReplay w played old reports new d
each_replays w m [] old new reports are j h d = tt
each_replays w m (p ∷ ps) old new reports are j h (mid, report, more, shown, one, others) = (
  sound_for w m p.handler old are.0 h,
  each_replays w m ps mid new more are.1 (round_grows p.handler w p.round old report mid j one).journal (one_keeps w m p old report mid are.0 j one h) others,
)

pub each_is_own : (w : Setting) (m : Meaning) (played : List Played) (old new : List (List ℕ)) (reports : List ReportView) → AreAlikeTo w m played → IsJournal old → IsSoundFor m w old → (d : PlayedDo w played old reports new) → EachIsOwn w played old reports new d
each_is_own w m [] old new reports are j h d = tt
each_is_own w m (p ∷ ps) old new reports are j h (mid, report, more, shown, one, others) = (
  (rounds_own p.handler w (p.round ∷ []) old (report ∷ []) mid j (sound_for w m p.handler old are.0 h) (mid, report, [], refl, one, (refl, refl))).0,
  each_is_own w m ps mid new more are.1 (round_grows p.handler w p.round old report mid j one).journal (one_keeps w m p old report mid are.0 j one h) others,
)

played_grow : (w : Setting) (played : List Played) (old : List (List ℕ)) (reports : List ReportView) (new : List (List ℕ)) → IsJournal old → PlayedDo w played old reports new → Grows old new
played_grow w [] old reports new j d = record { added = []; extends = d.1 ∙ sym (append-nil old); journal = subst IsJournal (sym d.1) j }
played_grow w (p ∷ ps) old reports new j (mid, report, more, shown, one, others) =
    let g = round_grows p.handler w p.round old report mid j one in
    let rest = played_grow w ps mid more new g.journal others in
    record { added = g.added ++ rest.added; extends = rest.extends ∙ ap (λ l. l ++ rest.added) g.extends ∙ append_assoc old g.added rest.added; journal = rest.journal }

-- ---- the attempts agree

-- the rounds that follow, over a journal that has grown
played_along : (w : Setting) (m : Meaning) (played : List Played) (then_old added old : List (List ℕ)) (reports : List ReportView) (new : List (List ℕ)) → AreAlikeTo w m played → IsJournal old → IsSoundFor m w old → old ≡ then_old ++ added
    → PlayedDo w played old reports new → TellsAlong (setup_of w) m (journal_entries then_old) reports
played_along w m [] then_old added old reports new are j h grown d first input rest p begins reads told = subst (AllByRecursion (λ v. OneBegins p.answers v.answers)) (sym d.0) tt
played_along w m (q ∷ qs) then_old added old reports new are j h grown (mid, report, more, shown, one, others) first input rest p begins reads told =
    let s = setup_of w in
    let o = q.handler in
    let g = round_grows o w q.round old report mid j one in
    let here = sound_for w m o old are.0 h in
    let honest = round_honest o w q.round old report mid here.replays j here.history.history one in
    let y = told_alike s m o (journal_entries then_old) first input rest p (alike_everywhere s m o (journal_entries then_old) are.0).0 begins reads told in
    let along : OneBegins p.answers report.answers = subst (OneBegins p.answers) (round_gives o w q.round old report mid one).1 (attempt_along s o (journal_entries then_old) (journal_entries added) (journal_entries old) (attempt_of o w q.round old report mid one) (entries_grow then_old old added grown) honest.told first input rest (saying y.0 p) begins reads y.1) in
    let behind = played_along w m qs then_old (added ++ g.added) mid more new are.1 g.journal (one_keeps w m q old report mid are.0 j one h) (g.extends ∙ ap (λ l. l ++ g.added) grown ∙ append_assoc then_old added g.added) others first input rest p begins reads told in
    subst (AllByRecursion (λ v. OneBegins p.answers v.answers)) (sym shown) (along, behind)

played_agree : (w : Setting) (m : Meaning) (played : List Played) (old new : List (List ℕ)) (reports : List ReportView) → AreAlikeTo w m played → IsJournal old → IsSoundFor m w old → PlayedDo w played old reports new → Agree (setup_of w) m new reports
played_agree w m [] old new reports are j h d = subst (Agree (setup_of w) m new) (sym d.0) tt
played_agree w m (q ∷ qs) old new reports are j h (mid, report, more, shown, one, others) =
    let s = setup_of w in
    let o = q.handler in
    let g = round_grows o w q.round old report mid j one in
    let on = one_keeps w m q old report mid are.0 j one h in
    let rest = played_grow w qs mid more new g.journal others in
    let stood : take report.entries new ≡ mid = then_stood report.entries mid rest.added new (round_counts o w q.round old report mid one) rest.extends in
    let along = played_along w m qs mid [] mid more new are.1 g.journal on (sym (append-nil mid)) others in
    subst (Agree s m new) (sym shown) (subst (λ l. TellsAlong s m (journal_entries l) more) (sym stood) along, played_agree w m qs mid new more are.1 g.journal on others)

-- the handlers of the rounds are alike another one, if that is alike the first
alike_to_other : (w : Setting) (m other : Meaning) (played : List Played) → AlikeHandlers (setup_of w) m other → AreAlikeTo w m played → AreAlikeTo w other played
alike_to_other w m other [] also are = tt
alike_to_other w m other (p ∷ ps) also are = (handlers_along (setup_of w) other m p.handler (handlers_back (setup_of w) m other also) are.0, alike_to_other w m other ps also are.1)

pub family_agrees : (w : Setting) (m : Meaning) (played : List Played) (old new : List (List ℕ)) (reports : List ReportView) → AreAlikeTo w m played → IsJournal old → IsSoundFor m w old → PlayedDo w played old reports new
    → (other : Meaning) → AlikeHandlers (setup_of w) m other → Agree (setup_of w) other new reports
family_agrees w m played old new reports are j h d other also = played_agree w other played old new reports (alike_to_other w m other played also are) j (sound_for w m other old also h) d

pub family_completes : (w : Setting) (m : Meaning) (played : List Played) (old new : List (List ℕ)) (reports : List ReportView) → AreAlikeTo w m played → IsJournal old → IsSoundFor m w old → PlayedDo w played old reports new
    → (other : Meaning) → AlikeHandlers (setup_of w) m other → CompletesOnce (setup_of w) other (journal_entries new)
family_completes w m played old new reports are j h d other also =
    let kept = first_keeps w m played old new reports are j h d in
    completes_once_too (setup_of w) m other (base_of w) new (played_grow w played old reports new j d).journal kept.history.history

-- ---- the very commands

-- what one honest round leaves
one_honest : (s : Setup) (m o : Meaning) (base : StateMap) (before : List Entry) (a : Attempted) (behind : List Entry) → AlikeHandlers s m o → IsInOrder base.entries → IsOneRunAlike s m (Honest base) before → HonestRounds s o (Honest base) before (a ∷ []) behind → IsOneRunAlike s m (Honest base) behind
one_honest s m o base before a behind also ordered h (mid, handed, told, round, last) = subst (IsOneRunAlike s m (Honest base)) (sym last) (mixed_round s m o base before a mid also ordered h handed told round)

pub family_one_run : (w : Setting) (m : Meaning) (played : List Played) (old new : List (List ℕ)) (reports : List ReportView) → ReplaysAndQueues w.options → AreAlikeTo w m played → IsJournal old → IsOneRunAlike (setup_of w) m (Honest (base_of w)) (journal_entries old) → PlayedDo w played old reports new
    → IsOneRunAlike (setup_of w) m (Honest (base_of w)) (journal_entries new)
family_one_run w m [] old new reports r are j h d = subst (λ l. IsOneRunAlike (setup_of w) m (Honest (base_of w)) (journal_entries l)) (sym d.1) h
family_one_run w m (p ∷ ps) old new reports r are j h (mid, report, more, shown, one, others) =
    let s = setup_of w in
    let o = p.handler in
    let sound : IsSoundFor o w old = record { replays = r; history = mixed_sound s m o (base_of w) (journal_entries old) are.0 h } in
    let honest = are_honest o w (p.round ∷ []) old (report ∷ []) mid j (mid, report, [], refl, one, (refl, refl)) sound in
    let on = one_honest s m o (base_of w) (journal_entries old) (attempt_of o w p.round old report mid one) (journal_entries mid) are.0 (base_in_order w) h honest in
    family_one_run w m ps mid new more r are.1 (round_grows o w p.round old report mid j one).journal on others

-- and if no round is partial, those of a run that nothing interrupts
pub family_undisturbed : (w : Setting) (m : Meaning) (played : List Played) (old new : List (List ℕ)) (reports : List ReportView) → ReplaysAndQueues w.options → NoneIsPartial played → AreAlikeTo w m played → IsJournal old → IsOneRunAlike (setup_of w) m (Whole (base_of w)) (journal_entries old) → PlayedDo w played old reports new
    → IsOneRunAlike (setup_of w) m (Whole (base_of w)) (journal_entries new)
family_undisturbed w m [] old new reports r whole are j h d = subst (λ l. IsOneRunAlike (setup_of w) m (Whole (base_of w)) (journal_entries l)) (sym d.1) h
family_undisturbed w m (p ∷ ps) old new reports r whole are j h (mid, report, more, shown, one, others) =
    let s = setup_of w in
    let o = p.handler in
    let b = base_of w in
    let past = (mixed_sound s m o b (journal_entries old) are.0 (honest_enough s m b IsAllOf all_is_true (journal_entries old) h)).history in
    let honest = round_honest o w p.round old report mid r j past one in
    let handed = round_handed (Whole b) o w p.round [] old report mid (hands_whole w (p.round ∷ []) (whole.0, tt)) past one in
    let on = mixed_whole_round s m o b (journal_entries old) (attempt_of o w p.round old report mid one) (journal_entries mid) are.0 (base_in_order w) h handed honest.told honest.honest in
    family_undisturbed w m ps mid new more r whole.1 are.1 (round_grows o w p.round old report mid j one).journal on others

-- ---- once it has ended

played_finished : (w : Setting) (m : Meaning) (played : List Played) (old new : List (List ℕ)) (reports : List ReportView) → AreAlikeTo w m played → IsJournal old → IsSoundFor m w old → HasFinished (setup_of w) m (journal_entries old) → PlayedDo w played old reports new
    → HasFinished (setup_of w) m (journal_entries new) × (commands_in (journal_entries new) ≡ commands_in (journal_entries old))
played_finished w m [] old new reports are j h ended d = (subst (λ l. HasFinished (setup_of w) m (journal_entries l)) (sym d.1) ended, ap (λ l. commands_in (journal_entries l)) d.1)
played_finished w m (p ∷ ps) old new reports are j h ended (mid, report, more, shown, one, others) =
    let s = setup_of w in
    let o = p.handler in
    let back = handlers_back s m o are.0 in
    let x = stays_finished o w (p.round ∷ []) old mid (report ∷ []) j (sound_for w m o old are.0 h) (finished_alike s m o (journal_entries old) (alike_everywhere s m o (journal_entries old) are.0).0 ended) (mid, report, [], refl, one, (refl, refl)) in
    let y = played_finished w m ps mid new more are.1 (round_grows o w p.round old report mid j one).journal (one_keeps w m p old report mid are.0 j one h) (finished_alike s o m (journal_entries mid) (alike_everywhere s o m (journal_entries mid) back).0 x.0) others in
    (y.0, y.1 ∙ x.1)

pub family_finished : (w : Setting) (m : Meaning) (played : List Played) (old new : List (List ℕ)) (reports : List ReportView) → AreAlikeTo w m played → IsJournal old → IsSoundFor m w old → HasFinished (setup_of w) m (journal_entries old) → PlayedDo w played old reports new
    → ((other : Meaning) → AlikeHandlers (setup_of w) m other → HasFinished (setup_of w) other (journal_entries new)) × (commands_in (journal_entries new) ≡ commands_in (journal_entries old))
family_finished w m played old new reports are j h ended d =
    let x = played_finished w m played old new reports are j h ended d in
    (λ other also. finished_alike (setup_of w) m other (journal_entries new) (alike_everywhere (setup_of w) m other (journal_entries new) also).0 x.0, x.1)

-- ---- a handler that is alike on what the journal tells

pub alike_replayable : (w : Setting) (m other : Meaning) (journal : List (List ℕ)) → AlikeOn (setup_of w) m other (journal_entries journal) → LeaveAlikeOn (setup_of w) m other (journal_entries journal) → IsSoundFor m w journal → IsSoundFor other w journal
alike_replayable w m other journal alike leave h = record { replays = h.replays; history = sound_alike (setup_of w) m other (base_of w) (journal_entries journal) alike leave h.history }

pub alike_history : (w : Setting) (m other : Meaning) (journal : List (List ℕ)) → AlikeOn (setup_of w) m other (journal_entries journal) → History (setup_of w) m (base_of w) (journal_entries journal) → History (setup_of w) other (base_of w) (journal_entries journal)
alike_history w m other journal alike h = history_alike (setup_of w) m other (base_of w) (journal_entries journal) alike h

pub alike_rounds : (w : Setting) (m other : Meaning) (old mid new : List (List ℕ)) (earlier later : List Round) (told more : List ReportView) → IsJournal old → IsSoundFor m w old → RoundsDo m w earlier old told mid → AlikeOn (setup_of w) m other (journal_entries mid)
    → LeaveAlikeOn (setup_of w) m other (journal_entries mid) → RoundsDo other w later mid more new → IsSoundFor other w new
alike_rounds w m other old mid new earlier later told more j h first alike leave second =
    let g = rounds_grow m w earlier old told mid j first in
    stays_sound other w later mid more new g.journal second (alike_replayable w m other mid alike leave (stays_sound m w earlier old told mid j first h))

-- ---- rounds of one handler, and rounds one after another

pub of_one : (m : Meaning) (w : Setting) (rounds : List Round) (old : List (List ℕ)) (reports : List ReportView) (new : List (List ℕ)) → RoundsDo m w rounds old reports new → PlayedDo w (map (played_by m) rounds) old reports new
of_one m w [] old reports new d = d
of_one m w (r ∷ rs) old reports new (mid, report, more, shown, one, others) = (mid, report, more, shown, one, of_one m w rs mid more new others)

pub played_on : (w : Setting) (earlier later : List Played) (old mid new : List (List ℕ)) (reports more : List ReportView) → PlayedDo w earlier old reports mid → PlayedDo w later mid more new → PlayedDo w (earlier ++ later) old (reports ++ more) new
played_on w [] later old mid new reports more d e = subst (λ (x : List ReportView × List (List ℕ)). PlayedDo w later x.1 x.0 new) (λ i. (ap (λ l. l ++ more) (sym d.0) i, d.1 i)) e
played_on w (p ∷ ps) later old mid new reports more (next, report, rest, shown, one, others) e = (next, report, rest ++ more, ap (λ l. l ++ more) shown, one, played_on w ps later next mid new rest more others e)
