-- How many numbers were given.
use Rattle.std.specs.Prelude.{◌≡◌, ℕ, ◌+◌}
use Rattle.vm_state.specs.declared.counters.Counters.{Counters}

-- these counts of completion ids, signal ids and handles were given
pub record Counted (ids signal_ids given : ℕ) (old new : Counters) : Type 0 where
  pub completions : new.completion ≡ old.completion + ids
  pub signals : new.signal ≡ old.signal + signal_ids
  pub handles : new.handle ≡ old.handle + given
