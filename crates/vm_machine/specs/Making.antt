-- A machine before any input.
use Rattle.std.specs.Prelude.{false, [], None}
use Rattle.std.proofs.Common.{Global}
use Rattle.journal_protocol.specs.MessageType.TheVariants.{Start}
use Rattle.journal_protocol.specs.Version.{Version}
use Rattle.vm_parts.specs.declared.context.StartInfo.{StartInfo}
use Rattle.vm_state.specs.declared.state_map.StateCoverage.TheVariants.{Partial}
use Rattle.vm_types.specs.declared.options.VMOptions.{VMOptions}
use Rattle.vm_state.specs.Counting.{fresh_counters}
use Rattle.vm_parts.specs.Deliveries.{no_results}
use Rattle.vm_parts.specs.Ephemerals.{no_ephemerals}
use Rattle.vm_machine.specs.declared.machine.Machine.{Machine}
use Rattle.vm_machine.specs.declared.phase.Phase.TheVariants.{WaitingStart}

-- before Start nothing is known of the invocation
abbrev pub nothing_started : StartInfo
nothing_started = record {
  id = [];
  debug_id = [];
  key = [];
  known_entries = 0;
  retry_count = 0;
  duration = 0;
  random_seed = 0;
  scope = None;
  limit_key = None;
  idempotency_key = None;
}

-- it waits for Start, and has neither journal nor state nor output
abbrev pub fresh : Global → Version → VMOptions → Machine
fresh alloc version options = record {
  alloc = alloc;
  version = version;
  options = options;
  phase = WaitingStart;
  failure = None;
  input_closed = false;
  start = nothing_started;
  entries_missing = 0;
  commands = [];
  counters = fresh_counters;
  last_command = record { ty = Start; name = [] };
  wrote_command = false;
  results = no_results;
  state = record { entries = []; coverage = Partial };
  runs = [];
  proposals = [];
  tracked = [];
  ephemeral = no_ephemerals;
  output = [];
  output_ended = false;
}
