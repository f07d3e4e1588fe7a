-- The numbers that calls are given.
use Rattle.std.specs.Prelude.{ℕ, ◌+◌, ◌-◌, ◌==◌, if◌then◌else◌, nat_lt, Option, Some, None, unwrap_or}
use Rattle.journal_errors.specs.declared.faults.NamedFault.{NamedFault}
use Rattle.journal_errors.specs.declared.faults.NamedFault.TheVariants.{ExhaustedCompletionIds, ExhaustedSignalIds, ExhaustedHandles, ExhaustedCommandIndexes, ExhaustedEphemeralIds}
use Rattle.vm_state.specs.declared.counters.Counters.{Counters}

-- Command indexes count from 0, completion and ephemeral ids from 1, signal ids and handles from
-- 17.
abbrev pub fresh_counters : Counters
fresh_counters = record { command = None; completion = 1; signal = 17; handle = 17; ephemeral = 1 }

-- the place at which a counter hands nothing more out
abbrev pub most : ℕ
most = 4294967295

-- the index after the last command; it stays at the most
abbrev pub next_index : Option ℕ → ℕ
next_index None = 0
next_index (Some index) = if index == most then index else index + 1

-- The first kind of number of which a call with a command would need more than are left.
abbrev pub missing_number : ℕ → ℕ → ℕ → Counters → Option NamedFault
missing_number ids signals handles c =
    if nat_lt (most - c.completion) ids then Some ExhaustedCompletionIds
    else if nat_lt (most - c.signal) signals then Some ExhaustedSignalIds
    else if nat_lt (most - c.handle) handles then Some ExhaustedHandles
    else if unwrap_or c.command 0 == most then Some ExhaustedCommandIndexes
    else None

-- The first kind of number of which a call without a command would need more than are left.
abbrev pub missing_signals : ℕ → ℕ → Counters → Option NamedFault
missing_signals signals handles c =
    if nat_lt (most - c.signal) signals then Some ExhaustedSignalIds
    else if nat_lt (most - c.handle) handles then Some ExhaustedHandles
    else None

-- An ephemeral read needs an id.
abbrev pub missing_ephemeral : Counters → Option NamedFault
missing_ephemeral c = if c.ephemeral == most then Some ExhaustedEphemeralIds else None

-- this number of completion ids is given, with a handle for each
abbrev pub given_on : ℕ → Counters → Counters
given_on n c = record c { completion = c.completion + n; handle = c.handle + n }

-- fewer than n command indexes are left
abbrev pub missing_indexes : ℕ → Counters → Option NamedFault
missing_indexes n k =
    if nat_lt (most - unwrap_or k.command 0) n then Some ExhaustedCommandIndexes else None
