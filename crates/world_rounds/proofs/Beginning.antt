-- What a round does, from what its parts did.
use Rattle.std.proofs.Common.{◌≡◌, ◌⊎◌, inl, inr, ⊎_elim, ℕ, List, ◌++◌, Option, refl, sym, subst, Global, Result, Ok, Err, IfOk}
use Rattle.std.specs.Prelude.{IfErr}
use Rattle.std.specs.List.{concat}
use Rattle.journal_protocol.specs.Version.{Version}
use Rattle.journal_protocol.specs.Frames.{encoding, IsWhole}
use Rattle.invocation_vm.specs.Making.{IsSupported, made}
use Rattle.vm_types.specs.declared.options.VMOptions.{VMOptions}
use Rattle.vm_model.specs.Calls.{Meaning}
use Rattle.vm_attempt.specs.Record.{Record}
use Rattle.vm_attempt.specs.Stepping.{fresh_record}
use Rattle.world_rounds.specs.declared.types.Round.{Round}
use Rattle.journal_entries.specs.declared.fault.JournalFault.{JournalFault}
use Rattle.world_rounds.specs.declared.types.Setting.{Setting}
use Rattle.world_rounds.specs.Rounds.{StaysShort, Ran, ReportView, RoundDoes, begin, new_now}
use Rattle.world_rounds.specs.Places.{FaultsAt, IsMemoryAside, RoundStops}
use Rattle.world_rounds.specs.States.{HaveTextKeys, pairs_for}
use Rattle.world_rounds.specs.Worlds.{IsJournal, fixed_in, start_message}
use Rattle.world_rounds.proofs.Rounding.{short_all}
use Rattle.vm_model.specs.Fixed.{Fixed, fixed_by}

pub begun_is : (w : Setting) (round : Round) (old : List (List ℕ)) (alloc : Global) (waiting : List ℕ) (r : Record) → waiting ≡ encoding (start_message w round old) ++ concat old → r ≡ fresh_record (made alloc w.options w.version) → new_now w.version old waiting r ≡ begin alloc w round old
begun_is w round old alloc waiting r e f = λ i. new_now w.version old (e i) (f i)

pub round_does : (m : Meaning) (w : Setting) (round : Round) (old : List (List ℕ)) (alloc : Global) (waiting : List ℕ) (r : Record) (version : Version) (options : VMOptions) (report : ReportView) (new : List (List ℕ)) → IsSupported w.version → IsWhole (start_message w round old) → HaveTextKeys (pairs_for w round old) → waiting ≡ encoding (start_message w round old) ++ concat old → r ≡ fresh_record (made alloc w.options w.version) → version ≡ w.version → options ≡ w.options → Ran (fixed_by m version options) round.events (new_now w.version old waiting r) report new → RoundDoes m w round old report new
round_does m w round old alloc waiting r version options report new speaks whole texts e f v o ran = inl (record {
  alloc = alloc;
  speaks = speaks;
  start = whole;
  texts = texts;
  ran = subst (λ x. Ran (fixed_in m w) round.events x report new) (begun_is w round old alloc waiting r e f) (subst (λ (x : Fixed). Ran x round.events (new_now w.version old waiting r) report new) (λ i. fixed_by m (v i) (o i)) ran);
})

pub round_stops : (m : Meaning) (w : Setting) (round : Round) (old : List (List ℕ)) (alloc : Global) (waiting : List ℕ) (r : Record) (place : Option ℕ) (x : JournalFault) → IsSupported w.version → IsWhole (start_message w round old) → waiting ≡ encoding (start_message w round old) ++ concat old → r ≡ fresh_record (made alloc w.options w.version) → IsMemoryAside place x ⊎ FaultsAt m round.events (new_now w.version old waiting r) place x → RoundStops m w round old place x
round_stops m w round old alloc waiting r place x speaks start e f h =
    ⊎_elim
    (λ (z : IsMemoryAside place x). inl z)
    (λ (z : FaultsAt m round.events (new_now w.version old waiting r) place x). inr (inl (record { alloc = alloc; speaks = speaks; start = start; stops = subst (λ n. FaultsAt m round.events n place x) (begun_is w round old alloc waiting r e f) z })))
    h

pub round_short : (m : Meaning) (w : Setting) (round : Round) (old : List (List ℕ)) (alloc : Global) (waiting : List ℕ) (r : Record) → IsJournal old → waiting ≡ encoding (start_message w round old) ++ concat old → r ≡ fresh_record (made alloc w.options w.version) → StaysShort m round.events (new_now w.version old waiting r)
round_short m w round old alloc waiting r j e f = subst (StaysShort m round.events) (sym (begun_is w round old alloc waiting r e f)) (short_all m w.version round.events (encoding (start_message w round old)) old (fresh_record (made alloc w.options w.version)) j refl refl refl refl)

-- what follows from what an answer ensures
pub if_ok_then : {A E : Type 0} (r : Result A E) (P Q : A → Type 0) → ((a : A) → P a → Q a) → IfOk r P → IfOk r Q
if_ok_then (Ok a) P Q f h = f a h
if_ok_then (Err e) P Q f h = tt

-- the same of an error
pub if_err_then : {A E : Type 0} (r : Result A E) (P Q : E → Type 0) → ((e : E) → P e → Q e) → IfErr r P → IfErr r Q
if_err_then (Ok a) P Q f h = tt
if_err_then (Err e) P Q f h = f e h
