-- The fault of what is stored after the one journal that is known.
use Rattle.std.proofs.Common.{◌≡◌, ◌⊎◌, inl, inr, ⊎_elim, ℕ, List, ◌++◌, [], take, Result, Ok, Err}
use Rattle.std.specs.Prelude.{IfErr}
use Rattle.journal_protocol.specs.Version.{Version}
use Rattle.journal_entries.specs.declared.fault.JournalFault.{JournalFault}
use Rattle.journal_entries.specs.declared.fault.JournalFault.TheVariants as journal_fault
use Rattle.journal_entries.specs.Storing.{FirstFault, written_from}
use Rattle.journal_store.specs.Journals.{Holds, JournalView}
use Rattle.journal_store.specs.Stored.{IsStoringFault}

pub fault_here : (version : Version) (n : ℕ) (unstored : List ℕ) (view : JournalView) (entries : List (List ℕ)) (result : Result Unit JournalFault) → Holds view entries → IfErr result (λ f. IsStoringFault version n unstored view entries f)
    → IfErr result (λ f. (f ≡ journal_fault.Memory) ⊎ FirstFault version (take n (written_from unstored)) entries f)
fault_here version n unstored view entries (Ok u) h e = tt
fault_here version n unstored view entries (Err f) h e =
    ⊎_elim
    (λ (z : f ≡ journal_fault.Memory). inl z)
    (λ (z : (before : List (List ℕ)) → Holds view (before ++ entries) → FirstFault version (take n (written_from unstored)) (before ++ entries) f). inr (z [] h))
    e
