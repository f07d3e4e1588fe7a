-- The worlds of crash tests.
use Rattle.std.specs.Prelude.{List, [], ◌∷◌, codes, None, ℕ}
use Rattle.journal_protocol.specs.Frames.{encoding}
use Rattle.journal_protocol.specs.Message.TheVariants as message
use Rattle.journal_protocol.specs.Version.TheVariants as version
use Rattle.vm_types.specs.Options.{default_options}
use Rattle.world_rounds.specs.Worlds.{WorldView}
use Rattle.world_rounds.specs.declared.types.Identity.{Identity}
use Rattle.world_rounds.specs.declared.types.Setting.{Setting}

-- whose invocation a test's is, if the test doesn't say
abbrev pub test_identity : Identity
test_identity = record {
  id = codes "test";
  debug_id = codes "test";
  key = [];
  random_seed = 0;
  scope = None;
  limit_key = None;
  idempotency_key = None;
}

-- what a test's attempts are made with, if the test doesn't say
abbrev pub test_setting : Setting
test_setting =
    record { identity = test_identity; options = default_options; version = version.V7; base = [] }

-- the journal's entry of an input of these bytes
abbrev pub input_entry : List ℕ → List ℕ
input_entry bytes = encoding (message.Input (record { headers = []; value = bytes }))

-- the world of a test that says no more than this input
abbrev pub test_world : List ℕ → WorldView
test_world input = record { setting = test_setting; journal = input_entry input ∷ [] }
