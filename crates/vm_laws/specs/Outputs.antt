-- All that a VM writes, over any list of calls, has at most one terminal message, and nothing after
-- it.
use Rattle.std.specs.Prelude.{◌≡◌, ℕ, false, List, ◌++◌}
use Rattle.std.specs.List.{concat, flat_map}
use Rattle.journal_protocol.specs.Message.{Message}
use Rattle.journal_protocol.specs.Frames.{encoding}
use Rattle.vm_laws.specs.Endings.{EndsOnce, is_over}
use Rattle.invocation_vm.specs.Views.{View}

-- What was taken of the output and what waits are whole messages, at most the last of them
-- terminal; once one is, the VM is over.
pub record EndsOnceAfter (taken : List ℕ) (v : View) : Type 0 where
  pub messages : List Message
  pub bytes : taken ++ concat v.machine.output ≡ flat_map encoding messages
  pub once : EndsOnce false messages (is_over v.machine)

-- a call leaves that so
abbrev pub StaysSo : View → View → Type 0
StaysSo old new = (taken : List ℕ) → EndsOnceAfter taken old → EndsOnceAfter taken new
