-- A world: whose invocation it is, and its journal; and the Start of each round.
use Rattle.std.specs.Prelude.{◌≤◌, ℕ, List, [], length, map, if◌then◌else◌, string_bytes}
use Rattle.std.proofs.Common.{Global}
use Rattle.std.specs.declared.string.String.{String}
use Rattle.journal_protocol.specs.Message.{Message}
use Rattle.journal_protocol.specs.Message.TheVariants as message
use Rattle.journal_protocol.specs.Start.{Start}
use Rattle.journal_protocol.specs.Versions.{is_from_v6, is_from_v7}
use Rattle.vm_parts.specs.Starts.{from_version}
use Rattle.vm_model.specs.Calls.{Meaning, Setup}
use Rattle.vm_model.specs.Carried.{AreCarried}
use Rattle.vm_model.specs.Fixed.{Fixed, fixed_by}
use Rattle.journal_entries.specs.JournalFrames.{commands_among}
use Rattle.journal_entries.specs.Completions.{CompleteOnce, EachOfItsKind}
use Rattle.world_rounds.specs.declared.types.Identity.{Identity}
use Rattle.world_rounds.specs.declared.types.Round.{Round}
use Rattle.world_rounds.specs.declared.types.Setting.{Setting}
use Rattle.journal_entries.specs.Arrivals.{most_entries}
use Rattle.journal_entries.specs.Entries.{AreEntries, journal_frames, notes_in}
use Rattle.world_rounds.specs.States.{pairs_for}

-- a world: what all its attempts are made with, and the journal, one frame an entry
pub record WorldView : Type 0 where
  pub setting : Setting
  pub journal : List (List ℕ)

-- Each of the bytes is an entry, they are no more than may be, no completion has two results, each
-- is of an id that a command carries, and was of the kind of its id where it was stored.
pub record IsJournal (journal : List (List ℕ)) : Type 0 where
  pub entries : AreEntries journal
  pub short : length journal ≤ most_entries
  pub once : CompleteOnce (notes_in journal)
  pub carried : AreCarried (notes_in journal) (commands_among (journal_frames journal))
  pub kinds : EachOfItsKind [] journal

-- keys and values, the keys as their bytes
abbrev pub pairs_given : List (String Global × List ℕ) → List (List ℕ × List ℕ)
pairs_given state = map (λ p. (string_bytes p.0, p.1)) state

-- the Start of an attempt
abbrev pub start_of : Identity → List (List ℕ × List ℕ) → Round → ℕ → Start
start_of i state round known = record {
  id = i.id;
  debug_id = i.debug_id;
  key = i.key;
  known_entries = known;
  state = state;
  partial = round.partial;
  retry_count = round.retry_count;
  duration = round.duration;
  random_seed = i.random_seed;
  scope = i.scope;
  limit_key = i.limit_key;
  idempotency_key = i.idempotency_key;
}

-- the Start of a round over a journal
abbrev pub start_for : Setting → Round → List (List ℕ) → Start
start_for w round journal = start_of w.identity (pairs_for w round journal) round (length journal)

-- the same as a message
abbrev pub start_message : Setting → Round → List (List ℕ) → Message
start_message w round journal = message.Start (start_for w round journal)

-- what is fixed for a handler's attempts in a world
abbrev pub fixed_in : Meaning → Setting → Fixed
fixed_in handler w = fixed_by handler w.version w.options

-- The setup of all attempts of a world, by which the handler's run goes. Before V6 the options'
-- seed is the handler's, and before V7 it is given no scope, limit key or idempotency key.
abbrev pub setup_of : Setting → Setup
setup_of w = record {
  version = w.version;
  options = w.options;
  identity = record {
    id = w.identity.id;
    debug_id = w.identity.debug_id;
    key = w.identity.key;
    random_seed =
        if is_from_v6 w.version then w.identity.random_seed else w.options.fallback_random_seed;
    scope = from_version (is_from_v7 w.version) w.identity.scope;
    limit_key = from_version (is_from_v7 w.version) w.identity.limit_key;
    idempotency_key = from_version (is_from_v7 w.version) w.identity.idempotency_key;
  };
}
