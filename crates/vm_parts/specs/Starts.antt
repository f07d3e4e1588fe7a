-- What an attempt keeps of its Start message.
use Rattle.std.specs.Prelude.{ℕ, Bool, true, false, if◌then◌else◌, Option, None}
use Rattle.vm_parts.specs.declared.context.StartInfo.{StartInfo}
use Rattle.journal_attempt.specs.declared.start.Start.{Start}
use Rattle.journal_errors.specs.declared.version.Version.{Version}
use Rattle.journal_errors.specs.Versions.{is_from_v6, is_from_v7}

-- from this version on
abbrev pub from_version : {A : Type 0} → Bool → Option A → Option A
from_version true x = x
from_version false x = None

-- What is kept of Start: before V6 the options' seed takes the place of the one handed out, and
-- before V7 there is no scope, limit key or idempotency key.
abbrev pub start_info_of : Version → ℕ → Start → StartInfo
start_info_of version seed s = record {
  id = s.id;
  debug_id = s.debug_id;
  key = s.key;
  known_entries = s.known_entries;
  retry_count = s.retry_count;
  duration = s.duration;
  random_seed = if is_from_v6 version then s.random_seed else seed;
  scope = from_version (is_from_v7 version) s.scope;
  limit_key = from_version (is_from_v7 version) s.limit_key;
  idempotency_key = from_version (is_from_v7 version) s.idempotency_key;
}
