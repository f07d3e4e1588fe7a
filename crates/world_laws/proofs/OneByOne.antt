-- Each round of a family by itself is a round of one handler.
use Rattle.std.proofs.Common.{◌≡◌, ◌⊎◌, ℕ, List, [], ◌∷◌, refl, sym, subst, inl, inr, ⊎_elim}
use Rattle.journal_entries.specs.declared.fault.JournalFault.{JournalFault}
use Rattle.journal_entries.specs.declared.fault.JournalFault.TheVariants as journal_fault
use Rattle.vm_model.specs.Alike.{AlikeHandlers}
use Rattle.vm_model.specs.Calls.{Meaning}
use Rattle.vm_model.proofs.Likeness.{handlers_back}
use Rattle.world_rounds.specs.declared.types.Setting.{Setting}
use Rattle.world_rounds.specs.Families.{AreAlikeTo, Played, PlayedDo}
use Rattle.world_rounds.specs.Fresh.{Skips}
use Rattle.world_rounds.specs.Guarantees.{HasRightKinds}
use Rattle.world_rounds.specs.Rounds.{Fault, OutsideFault, ReportView, RoundDoes, RoundFaultsBy, RoundsDo}
use Rattle.world_rounds.specs.Sound.{IsSoundFor}
use Rattle.world_rounds.specs.States.{base_of}
use Rattle.world_rounds.specs.Worlds.{IsJournal, setup_of}
use Rattle.world_rounds.proofs.Families.{first_keeps, sound_for}
use Rattle.world_rounds.proofs.Faultless.{faults_come_from_outside}
use Rattle.world_rounds.proofs.Freshness.{rounds_fresh}
use Rattle.world_rounds.proofs.RightKinds.{history_kinds}
use Rattle.world_rounds.proofs.Rounding.{are_honest, round_grows, stays_sound}
use Rattle.world_laws.specs.PlayedRounds.{EachIsFresh, EachIsHonest, PlayedFaultBy}

-- ---- one round

module _ (w : Setting) (p : Played) (old : List (List ℕ)) (report : ReportView) (mid : List (List ℕ)) (j : IsJournal old) (one : RoundDoes p.handler w p.round old report mid) where
  -- the round by itself
  abbrev alone : RoundsDo p.handler w (p.round ∷ []) old (report ∷ []) mid
  alone = (mid, report, [], refl, one, (refl, refl))

  pub journal_after : IsJournal mid
  journal_after = (round_grows p.handler w p.round old report mid j one).journal

  -- it keeps the journal for a handler that is alike
  kept_for : (m : Meaning) → AlikeHandlers (setup_of w) m p.handler → IsSoundFor m w old → IsSoundFor m w mid
  kept_for m alike h =
      sound_for w p.handler m mid (handlers_back (setup_of w) m p.handler alike)
      (stays_sound p.handler w (p.round ∷ []) old (report ∷ []) mid j alone (sound_for w m p.handler old alike h))

-- ---- all rounds

pub each_honest : (w : Setting) (m : Meaning) (played : List Played) (old new : List (List ℕ)) (reports : List ReportView) → AreAlikeTo w m played → IsJournal old → IsSoundFor m w old → (d : PlayedDo w played old reports new) → EachIsHonest w played old reports new d
each_honest w m [] old new reports are j h d = tt
each_honest w m (p ∷ ps) old new reports are j h (mid, report, more, is, one, others) = (
  are_honest p.handler w (p.round ∷ []) old (report ∷ []) mid j (alone w p old report mid j one) (sound_for w m p.handler old are.0 h),
  each_honest w m ps mid new more are.1 (journal_after w p old report mid j one) (kept_for w p old report mid j one m are.0 h) others,
)

pub each_fresh : (w : Setting) (played : List Played) (old new : List (List ℕ)) (reports : List ReportView) → Skips w.options → IsJournal old → (d : PlayedDo w played old reports new) → EachIsFresh w played old reports new d
each_fresh w [] old new reports skips j d = tt
each_fresh w (p ∷ ps) old new reports skips j (mid, report, more, is, one, others) = (
  rounds_fresh p.handler w (p.round ∷ []) old (report ∷ []) mid skips j (alone w p old report mid j one),
  each_fresh w ps mid new more skips (journal_after w p old report mid j one) others,
)

journal_stays : (w : Setting) (played : List Played) (old new : List (List ℕ)) (reports : List ReportView) → IsJournal old → PlayedDo w played old reports new → IsJournal new
journal_stays w [] old new reports j d = subst IsJournal (sym d.1) j
journal_stays w (p ∷ ps) old new reports j (mid, report, more, is, one, others) = journal_stays w ps mid new more (journal_after w p old report mid j one) others

pub played_kinds : (w : Setting) (m : Meaning) (played : List Played) (old new : List (List ℕ)) (reports : List ReportView) → AreAlikeTo w m played → IsJournal old → IsSoundFor m w old → PlayedDo w played old reports new → HasRightKinds new
played_kinds w m played old new reports are j h d =
    history_kinds (setup_of w) m (base_of w) new (journal_stays w played old new reports j d) (first_keeps w m played old new reports are j h d).history.history

-- ---- faults

-- the fault of one round comes from outside
round_outside : (w : Setting) (p : Played) (old : List (List ℕ)) (f : JournalFault) → IsJournal old → IsSoundFor p.handler w old → RoundFaultsBy Fault p.handler w p.round old f → RoundFaultsBy OutsideFault p.handler w p.round old f
round_outside w p old f j h x =
    ⊎_elim
    (λ (y : RoundFaultsBy OutsideFault p.handler w p.round old f). y)
    (λ (y : (mid : List (List ℕ)) × (report : ReportView) × RoundDoes p.handler w p.round old report mid × (f ≡ journal_fault.Memory)). inl y.3)
    (faults_come_from_outside p.handler w (p.round ∷ []) old f j h (inl x))

pub played_outside : (w : Setting) (m : Meaning) (played : List Played) (old : List (List ℕ)) (f : JournalFault) → AreAlikeTo w m played → IsJournal old → IsSoundFor m w old → PlayedFaultBy Fault w played old f → PlayedFaultBy OutsideFault w played old f
played_outside w m [] old f are j h x = x
played_outside w m (p ∷ ps) old f are j h (inl x) = inl (round_outside w p old f j (sound_for w m p.handler old are.0 h) x)
played_outside w m (p ∷ ps) old f are j h (inr (mid, report, one, x)) = inr (mid, report, one, played_outside w m ps mid f are.1 (journal_after w p old report mid j one) (kept_for w p old report mid j one m are.0 h) x)
