-- The world with which a script's rounds begin.
use Rattle.std.proofs.Common.{◌≡◌, ◌≢◌, ◌⊎◌, inl, inr, ℕ, List, [], ◌∷◌, Option, Some, length, ap, refl, arith}
use Rattle.journal_protocol.specs.Version.{Version}
use Rattle.journal_protocol.specs.Frames.{encoding}
use Rattle.journal_protocol.specs.Message.TheVariants as message
use Rattle.vm_model.specs.Calls.{Meaning}
use Rattle.journal_entries.specs.Given.{AreGiven, GivenFaults}
use Rattle.journal_entries.specs.declared.fault.JournalFault.{JournalFault}
use Rattle.journal_entries.specs.declared.fault.JournalFault.TheVariants as journal_fault
use Rattle.world_scripts.specs.declared.script.Script.{Script}
use Rattle.world_scripts.specs.Printed.{fault_text}
use Rattle.world_scripts.specs.declared.stop.Stop.{Stop}
use Rattle.world_scripts.specs.declared.stop.Stop.TheVariants.{World}
use Rattle.world_scripts.specs.Runs.{IsPlayed, MakeNoWorld, RoundsEnd, ScriptEnds, first_journal, setting_of}

-- no entry is given
pub begins_with_input : (input : List ℕ) (entries : List (List ℕ)) (journal : List (List ℕ)) → length entries ≡ 0 → journal ≡ encoding (message.Input (record { headers = []; value = input })) ∷ [] → journal ≡ first_journal input entries
begins_with_input input [] journal none is = is
begins_with_input input (entry ∷ entries) journal none is = absurd (omega arith)

pub none_has_a_fault : (entries : List (List ℕ)) → length entries ≡ 0 → AreGiven [] entries
none_has_a_fault [] none = tt
none_has_a_fault (entry ∷ entries) none = absurd (omega arith)

pub input_makes_no_world : (entries : List (List ℕ)) (fault : JournalFault) → fault ≡ journal_fault.Memory → MakeNoWorld entries fault
input_makes_no_world entries fault memory = inl memory

-- entries are given
pub begins_with_entries : (input : List ℕ) (entries journal : List (List ℕ)) → length entries ≢ 0 → journal ≡ entries → journal ≡ first_journal input entries
begins_with_entries input [] journal some is = absurd (some refl)
begins_with_entries input (entry ∷ entries) journal some is = is

pub entries_make_no_world : (entries : List (List ℕ)) (fault : JournalFault) → length entries ≢ 0 → (fault ≡ journal_fault.Memory) ⊎ GivenFaults entries fault → MakeNoWorld entries fault
entries_make_no_world entries fault some (inl memory) = inl memory
entries_make_no_world entries fault some (inr (inl (none, is))) = absurd (some (ap length none))
entries_make_no_world entries fault some (inr (inr first)) = inr first

pub is_played : (meaning : Meaning) (version : Version) (script : Script) (stop : Option Stop) (report : List ℕ) → AreGiven [] script.entries.items
    → RoundsEnd meaning (setting_of version script.given) script.rounds.items (first_journal script.given.input script.entries.items) stop report → ScriptEnds meaning version script stop report
is_played meaning version script stop report fits ends = inl (record { fits = fits; ends = ends })

pub has_no_world : (meaning : Meaning) (version : Version) (script : Script) (stop : Option Stop) (report : List ℕ) (why : JournalFault) → MakeNoWorld script.entries.items why → stop ≡ Some (World why) → report ≡ fault_text why
    → ScriptEnds meaning version script stop report
has_no_world meaning version script stop report why is_why is_stop is_report = inr (record { why = why; is_why = is_why; is_stop = is_stop; is_report = is_report })
