-- What stays of a machine as bytes come to it: it hasn't failed before, if it hasn't failed, and keeps what two machines have in common with the
-- same pending runs and the same numbers.
use Rattle.std.proofs.Common.{◌≡◌, ℕ, ◌++◌, Bool, true, false, List, [], ◌∷◌, Option, Some, None, refl, sym, ◌∙◌, subst}
use Rattle.std.specs.Prelude.{◌==◌, if◌then◌else◌}
use Rattle.journal_protocol.specs.Error.{Error}
use Rattle.journal_protocol.specs.NamedFault.{NamedFault}
use Rattle.journal_protocol.specs.RawMessage.{RawMessage}
use Rattle.journal_protocol.specs.Types.{type_number}
use Rattle.journal_entries.specs.Frames.{Garbage, Rest, Tail, frames_of}
use Rattle.journal_entries.specs.JournalFrames.{is_acknowledgement, is_command_frame, is_notification}
use Rattle.vm_machine.specs.declared.machine.Machine.{Machine}
use Rattle.vm_machine.specs.declared.phase.Phase.{Phase}
use Rattle.vm_machine.specs.declared.phase.Phase.TheVariants.{WaitingStart, WaitingReplayEntries, Replaying, Processing, Closed}
use Rattle.vm_machine.specs.Outcomes.{Outcome, settled}
use Rattle.invocation_vm.specs.Views.{View, after_closing, after_input, all_received, consumed, has_failed, left_by, left_over, received, spoiled}
use Rattle.vm_attempt.specs.Blames.{fault_among}
use Rattle.vm_attempt.proofs.Arriving.{failed_receives}
use Rattle.vm_attempt.proofs.Blamed.{closing_at, closing_not, none_some, spoils, spoils_not}
use Rattle.vm_attempt.proofs.Blaming.{Fits, message_fits}
use Rattle.vm_attempt.proofs.Entries.{message_by, receives_by}

-- a machine that has failed doesn't live on
pub failed_lives : {P : Type 0} (e : Error) (w : Machine) → w.failure ≡ Some e → w.failure ≡ None → P
failed_lives e w is none = none_some e (sym none ∙ is)

module _ (Keeps : Machine → Machine → Type 0) (same : (v : Machine) → Keeps v v) (both : (u v w : Machine) → Keeps u v → Keeps v w → Keeps u w) (alike : (v w : Machine) → w.runs ≡ v.runs → w.counters ≡ v.counters → Keeps v w) where
  abbrev Lives : Machine → Machine → Type 0
  Lives v w = w.failure ≡ None → (v.failure ≡ None) × Keeps v w

  pub lives_same : (v : Machine) → Lives v v
  lives_same v none = (none, same v)

  pub lives_then : (u v w : Machine) → Lives u v → Lives v w → Lives u w
  lives_then u v w a b none =
      let last = b none in
      let first = a last.0 in
      (first.0, both u v w first.1 last.1)

  -- a frame comes
  one_lives : (raw : RawMessage) (v : Machine) → Lives v (received raw v)
  one_lives raw v = by_failure v.failure refl
    where
      o : Outcome Unit
      o = message_by raw v.phase v (type_number raw.ty == 1) (is_command_frame raw) (is_notification raw) (is_acknowledgement raw)

      by_fault : (f : Option NamedFault) → v.failure ≡ None → Fits f v o → Lives v (left_by (settled o))
      by_fault None live (w, done, kept, runs) = subst (λ (x : Outcome Unit). Lives v (left_by (settled x))) (sym done) (λ none. (live, alike v w runs.0 runs.1))
      by_fault (Some why) live refuses = subst (λ (x : Outcome Unit). Lives v (left_by (settled x))) (sym refuses) (λ none. none_some _ (sym none))

      by_failure : (f : Option Error) → v.failure ≡ f → Lives v (received raw v)
      by_failure (Some e) is = subst (Lives v) (sym (failed_receives e v raw is)) (lives_same v)
      by_failure None live = subst (Lives v) (sym (receives_by v raw live)) (by_fault (fault_among v.proposals v.phase raw) live (message_fits raw v.phase v (type_number raw.ty == 1) (is_command_frame raw) (is_notification raw) (is_acknowledgement raw)))

  all_live : (raws : List RawMessage) (v : Machine) → Lives v (all_received raws v)
  all_live [] v = lives_same v
  all_live (raw ∷ raws) v = lives_then v (received raw v) (all_received raws (received raw v)) (one_lives raw v) (all_live raws (received raw v))

  spoiled_lives : (v : Machine) → Lives v (spoiled v)
  spoiled_lives v = by_failure v.failure refl
    where
      by_failure : (f : Option Error) → v.failure ≡ f → Lives v (spoiled v)
      by_failure (Some e) is = subst (Lives v) (sym (spoils_not v e is)) (lives_same v)
      by_failure None live = failed_lives _ (spoiled v) (spoils v live)

  left_lives : (t : Tail) (v : Machine) → Lives v (left_over t v).machine
  left_lives (Rest bytes) v = lives_same v
  left_lives Garbage v = spoiled_lives v

  -- a piece comes
  pub input_lives : (v : View) (bytes : List ℕ) → Lives v.machine (after_input v bytes).machine
  input_lives v bytes = by_test (has_failed v.machine)
    where
      by_test : (b : Bool) → Lives v.machine (if b then v else consumed (frames_of (v.undecoded ++ bytes)) v.machine).machine
      by_test true = lives_same v.machine
      by_test false =
          let f = frames_of (v.undecoded ++ bytes) in
          let w = all_received f.0 v.machine in
          lives_then v.machine w (left_over f.1 w).machine (all_live f.0 v.machine) (left_lives f.1 w)

  -- the input is closed
  pub closing_lives : (v : View) → Lives v.machine (after_closing v).machine
  closing_lives v = by_failure v.machine.failure refl v.machine.phase refl
    where
      by_failure : (f : Option Error) → v.machine.failure ≡ f → (ph : Phase) → v.machine.phase ≡ ph → Lives v.machine (after_closing v).machine
      by_failure (Some e) is ph at = subst (Lives v.machine) (closing_not v e is) (lives_same v.machine)
      by_failure None live WaitingStart at = subst (Lives v.machine) (closing_at v live WaitingStart at) (λ none. none_some _ (sym none))
      by_failure None live WaitingReplayEntries at = subst (Lives v.machine) (closing_at v live WaitingReplayEntries at) (λ none. none_some _ (sym none))
      by_failure None live Replaying at = subst (Lives v.machine) (closing_at v live Replaying at) (λ none. (live, alike v.machine _ refl refl))
      by_failure None live Processing at = subst (Lives v.machine) (closing_at v live Processing at) (λ none. (live, alike v.machine _ refl refl))
      by_failure None live Closed at = subst (Lives v.machine) (closing_at v live Closed at) (λ none. (live, alike v.machine _ refl refl))
