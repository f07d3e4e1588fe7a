-- What a journal says of a completion id: what completes it, if a command carries it, and whether
-- it was completed.
use Rattle.std.specs.Prelude.{◌≡◌, ℕ, ◌==◌, Bool, true, false, List, Option, Some, None}
use Rattle.journal_entries.specs.declared.completions.Completes.{Completes}
use Rattle.journal_entries.specs.declared.completions.Completes.TheVariants as completes
use Rattle.journal_entries.specs.Arrivals.{completes_among, if_same, completes_id}
use Rattle.journal_entries.specs.Entries.{notes_in, said_in}
use Rattle.journal_store.specs.declared.known.Known.{Known}

-- this is what completes an id, and whether it was completed
pub record IsKnownAs (what : Option Completes) (whether : Bool) (known : Known) : Type 0 where
  pub kind : known.kind ≡ what
  pub done : known.done ≡ whether

-- this is what a journal says of an id
abbrev pub IsKnown : List (List ℕ) → ℕ → Known → Type 0
IsKnown journal id known =
    IsKnownAs (completes_among id (said_in journal) None) (completes_id id (notes_in journal)) known

-- no command carries the id, and nothing completed it
abbrev pub nothing_known : Known
nothing_known = record { kind = None; done = false }

-- from now on this completes the id
abbrev pub carried_as : Completes → Known → Known
carried_as kind known = record { kind = Some kind; done = known.done }

-- the id is completed
abbrev pub as_completed : Known → Known
as_completed known = record { kind = known.kind; done = true }

-- ---- what a command carries

-- the id of a call's invocation, if there is one, is carried
abbrev pub with_called : ℕ → Option ℕ → Option Completes → Option Completes
with_called id None before = before
with_called id (Some called) before = if_same (called == id) completes.InvocationId before

-- the id of a result, if there is one, is carried
abbrev pub with_result_id : ℕ → Option (ℕ × Completes) → Option Completes → Option Completes
with_result_id id None before = before
with_result_id id (Some p) before = if_same (p.0 == id) p.1 before
