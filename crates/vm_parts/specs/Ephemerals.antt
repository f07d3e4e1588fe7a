-- Ephemeral reads of the state, by their ids: those whose result hasn't come, and those whose value
-- is there and wasn't taken.
use Rattle.std.specs.Prelude.{ℕ, Bool, ◌||◌, if◌then◌else◌, nat_lt, List, [], length, Option, is_some}
use Rattle.std.specs.List.{list_any}
use Rattle.std.specs.Ordering.{nat_cmp}
use Rattle.std.specs.Map.{lookup, remove_entry}
use Rattle.std.specs.Set.{remove_key}
use Rattle.std.specs.BTreeMap.{insert_entry, is_at}
use Rattle.std.specs.BTreeSet.{insert_key}

-- Both in the order of the ids. A value that is there is none where its key has no value.
pub record Ephemerals : Type 0 where
  pub in_flight : List ℕ
  pub ready : List (ℕ × Option (List ℕ))

-- none was asked for
abbrev pub no_ephemerals : Ephemerals
no_ephemerals = record { in_flight = []; ready = [] }

-- a read's result hasn't come
abbrev pub is_in_flight : ℕ → Ephemerals → Bool
is_in_flight id e = list_any (is_at (nat_cmp id)) e.in_flight

-- the value of a read, where it is there
abbrev pub value_at : ℕ → Ephemerals → Option (Option (List ℕ))
value_at id e = lookup (is_at (nat_cmp id)) e.ready

-- a read's value is there
abbrev pub is_ready : ℕ → Ephemerals → Bool
is_ready id e = is_some (value_at id e)

-- some read's result hasn't come
abbrev pub any_in_flight : Ephemerals → Bool
any_in_flight e = nat_lt 0 (length e.in_flight)

-- some read's value is there
abbrev pub any_ready : Ephemerals → Bool
any_ready e = nat_lt 0 (length e.ready)

-- a read is in flight
abbrev pub with_in_flight : ℕ → Ephemerals → Ephemerals
with_in_flight id e = record e { in_flight = insert_key nat_cmp e.in_flight id }

-- a read's value is there
abbrev pub with_ready : ℕ → Option (List ℕ) → Ephemerals → Ephemerals
with_ready id value e = record e { ready = insert_entry nat_cmp e.ready id value }

-- The result of a read comes: it is ready with this value, which replaces the one that it had. If
-- no such read is held, nothing is done.
abbrev pub with_read_completed : ℕ → Option (List ℕ) → Ephemerals → Ephemerals
with_read_completed id value e =
    if is_in_flight id e || is_ready id e
    then record {
      in_flight = remove_key (is_at (nat_cmp id)) e.in_flight;
      ready = insert_entry nat_cmp e.ready id value;
    }
    else e

-- the value of a read is taken
abbrev pub without_ready : ℕ → Ephemerals → Ephemerals
without_ready id e = record e { ready = remove_entry (is_at (nat_cmp id)) e.ready }
