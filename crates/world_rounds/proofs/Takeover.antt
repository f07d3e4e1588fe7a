-- A new version of a handler over a world's journal, and a handler that has ended.
use Rattle.std.proofs.Common.{◌≡◌, ℕ, List, [], ◌∷◌, ◌++◌, sym, subst}
use Rattle.std.specs.List.{AllByRecursion}
use Rattle.vm_types.specs.declared.options.NonDeterministicChecksOption.TheVariants as checks
use Rattle.vm_types.specs.declared.steps.Answer.{Answer}
use Rattle.vm_model.specs.ComparedSets.{IsNoUnstableSet}
use Rattle.vm_model.specs.Sums.{calls_after, calls_for}
use Rattle.vm_model.proofs.Comparing.{compared_is_sound}
use Rattle.vm_model.specs.Calls.{Meaning}
use Rattle.vm_model.specs.Finished.{HasFinished}
use Rattle.vm_model.specs.Histories.{EagerFrom, History, Honest, Whole, after_head}
use Rattle.vm_model.specs.HonestRounds.{IsOneRun}
use Rattle.journal_entries.specs.Journal.{commands_in}
use Rattle.vm_model.specs.Versions.{AgreeOn}
use Rattle.vm_model.proofs.Agreeing.{one_run_same, sound_same}
use Rattle.vm_model.proofs.Ended.{rounds_are_quiet}
use Rattle.journal_entries.specs.Entries.{journal_entries}
use Rattle.world_rounds.specs.States.{base_of}
use Rattle.world_rounds.specs.Worlds.{IsJournal, setup_of}
use Rattle.world_rounds.specs.declared.types.Round.{Round}
use Rattle.world_rounds.specs.declared.types.Setting.{Setting}
use Rattle.world_rounds.specs.Courses.{attempts_of}
use Rattle.world_rounds.specs.Rounds.{ReplaysAndQueues, ReportView, RoundsDo}
use Rattle.world_rounds.specs.Sound.{IsSoundFor}
use Rattle.world_rounds.proofs.Rounding.{are_honest, rounds_grow, stays_sound}

pub replayable_over : (w : Setting) (m other : Meaning) (journal : List (List ℕ)) → AgreeOn (setup_of w) m other (journal_entries journal) → IsSoundFor m w journal → IsSoundFor other w journal
replayable_over w m other journal agree h = record { replays = h.replays; history = sound_same (setup_of w) m other (base_of w) (journal_entries journal) agree h.history }

pub one_run_over : (w : Setting) (m other : Meaning) (journal : List (List ℕ)) → AgreeOn (setup_of w) m other (journal_entries journal) → IsOneRun (setup_of w) m (Honest (base_of w)) (journal_entries journal) → IsOneRun (setup_of w) other (Honest (base_of w)) (journal_entries journal)
one_run_over w m other journal agree h = one_run_same (setup_of w) m other (Honest (base_of w)) (journal_entries journal) agree h

pub undisturbed_over : (w : Setting) (m other : Meaning) (journal : List (List ℕ)) → AgreeOn (setup_of w) m other (journal_entries journal) → IsOneRun (setup_of w) m (Whole (base_of w)) (journal_entries journal) → IsOneRun (setup_of w) other (Whole (base_of w)) (journal_entries journal)
undisturbed_over w m other journal agree h = one_run_same (setup_of w) m other (Whole (base_of w)) (journal_entries journal) agree h

-- the eager reads of a history are right, for each version of the handler
pub reads_over : (w : Setting) (m other : Meaning) (journal : List (List ℕ)) → History (setup_of w) m (base_of w) (journal_entries journal) → EagerFrom (base_of w) (after_head (commands_in (journal_entries journal)))
reads_over w m other journal h = subst (λ l. EagerFrom (base_of w) (after_head l)) (sym h.begins) h.eager

pub rounds_over : (w : Setting) (m other : Meaning) (old mid new : List (List ℕ)) (earlier later : List Round) (told more : List ReportView) → IsJournal old → IsSoundFor m w old → RoundsDo m w earlier old told mid → AgreeOn (setup_of w) m other (journal_entries mid) → RoundsDo other w later mid more new
    → IsSoundFor other w new
rounds_over w m other old mid new earlier later told more j h first agree second =
    let g = rounds_grow m w earlier old told mid j first in
    stays_sound other w later mid more new g.journal second (replayable_over w m other mid agree (stays_sound m w earlier old told mid j first h))

pub stays_finished : (m : Meaning) (w : Setting) (rounds : List Round) (old new : List (List ℕ)) (reports : List ReportView) → IsJournal old → IsSoundFor m w old → HasFinished (setup_of w) m (journal_entries old) → RoundsDo m w rounds old reports new
    → HasFinished (setup_of w) m (journal_entries new) × (commands_in (journal_entries new) ≡ commands_in (journal_entries old))
stays_finished m w rounds old new reports j h ended d =
    rounds_are_quiet (setup_of w) m (Honest (base_of w)) (journal_entries old) (attempts_of m w rounds old reports new d) (journal_entries new) ended (are_honest m w rounds old reports new j d h)

-- ---- a history that is replayed by default options

-- no call of the handler leaves a value out of the comparison
none_after : (m : Meaning) → ((answers : List Answer) → IsNoUnstableSet (m answers)) → (seen answers : List Answer) → AllByRecursion IsNoUnstableSet (calls_after m seen answers)
none_after m none seen [] = tt
none_after m none seen (a ∷ answers) = (none seen, none_after m none (seen ++ a ∷ []) answers)

none_unstable : (m : Meaning) → ((answers : List Answer) → IsNoUnstableSet (m answers)) → (answers : List Answer) → AllByRecursion IsNoUnstableSet (calls_for m answers)
none_unstable m none [] = tt
none_unstable m none (input ∷ answers) = none_after m none (input ∷ []) answers

pub compared_replayable : (m : Meaning) (w : Setting) (journal : List (List ℕ)) → ReplaysAndQueues w.options → w.options.non_determinism_checks ≡ checks.Enabled → ((answers : List Answer) → IsNoUnstableSet (m answers)) → History (setup_of w) m (base_of w) (journal_entries journal) → IsSoundFor m w journal
compared_replayable m w journal r compared none h = record {
  replays = r;
  history = compared_is_sound (setup_of w) m (base_of w) (journal_entries journal) h (record { compared = compared; stable = none_unstable m none h.at.answers });
}
