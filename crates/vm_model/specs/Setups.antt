-- The setup of an attempt, by its Start.
use Rattle.journal_protocol.specs.Start.{Start}
use Rattle.journal_protocol.specs.Version.{Version}
use Rattle.vm_types.specs.declared.options.VMOptions.{VMOptions}
use Rattle.vm_parts.specs.Starts.{start_info_of}
use Rattle.vm_model.specs.Calls.{Setup, identity_of}

-- the setup of an attempt of this version, with these options and this Start
abbrev pub setup_with : Version → VMOptions → Start → Setup
setup_with version options st = record {
  version = version;
  options = options;
  identity = identity_of (start_info_of version options.fallback_random_seed st);
}
