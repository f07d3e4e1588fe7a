-- The ids of a journal, each with what is known of it: at the last commit, and since.
use Rattle.std.specs.Prelude.{◌≡◌, ℕ, ◌==◌, Bool, if◌then◌else◌, List, Option}
use Rattle.std.specs.Option.{unwrap_or}
use Rattle.std.specs.Ordering.{nat_cmp}
use Rattle.std.specs.Map.{lookup}
use Rattle.std.specs.BTreeMap.{is_at}
use Rattle.journal_entries.specs.declared.completions.Completes.{Completes}
use Rattle.journal_store.specs.declared.known.Known.{Known}
use Rattle.journal_store.specs.Known.{IsKnownAs, nothing_known}

-- Both in the order of the ids; what is known since replaces what was known.
pub record Seen : Type 0 where
  pub kept : List (ℕ × Known)
  pub since : List (ℕ × Known)

-- what was known of an id at the last commit
abbrev pub known_kept : Seen → ℕ → Known
known_kept ids id = unwrap_or (lookup (is_at (nat_cmp id)) ids.kept) nothing_known

-- what is known of an id
abbrev pub known_now : Seen → ℕ → Known
known_now ids id = unwrap_or (lookup (is_at (nat_cmp id)) ids.since) (known_kept ids id)

-- this is known of one id from now on, and of the others what was
abbrev pub Changes : ℕ → (Known → Known) → Seen → Seen → Type 0
Changes id change old new =
    (q : ℕ) → known_now new q ≡ (if id == q then change (known_now old q) else known_now old q)

-- what is said of each id, changed by these: what completes it, and whether it was completed
abbrev pub SaysWith : (ℕ → Option Completes → Option Completes) → (ℕ → Bool → Bool) → Seen → Seen
    → Type 0
SaysWith kinds dones old new =
    (id : ℕ) (before : Option Completes) (done : Bool) → IsKnownAs before done (known_now old id)
    → IsKnownAs (kinds id before) (dones id done) (known_now new id)
