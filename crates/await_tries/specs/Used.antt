-- Notifications that wait are used in order of arrival.
use Rattle.std.specs.Prelude.{ℕ, ◌++◌, take, drop}
use Rattle.vm_parts.specs.Arrived.{Arrived}

-- the first n that wait are used
abbrev pub used : Arrived → ℕ → Arrived
used v n = record v {
  queued = drop n v.queued;
  ready = record v.ready { delivered = v.ready.delivered ++ take n v.queued };
}
