-- What is fixed for an attempt from its beginning.
use Rattle.journal_protocol.specs.Version.{Version}
use Rattle.vm_types.specs.declared.options.VMOptions.{VMOptions}
use Rattle.vm_model.specs.Calls.{Meaning}

-- what the handler calls next after the answers that it saw, and what the attempt was made for
pub record Fixed : Type 0 where
  pub handler : Meaning
  pub version : Version
  pub options : VMOptions

-- for an attempt of this handler, of this version and with these options
abbrev pub fixed_by : Meaning → Version → VMOptions → Fixed
fixed_by handler version options =
    record { handler = handler; version = version; options = options }
