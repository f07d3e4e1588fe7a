-- A VM in a line for a log.
use Rattle.std.specs.Prelude.{ℕ, ℤ, pos, negsuc, List, [], ◌∷◌, ◌++◌, codes, Option, Some, None, Result, Ok, Err}
use Rattle.std.specs.Fmt.{decimal}
use Rattle.call_lines.specs.Replies.{state_text, version_text}
use Rattle.invocation_vm.specs.Seen.{seen}
use Rattle.invocation_vm.specs.declared.core_vm.CoreVM.{CoreVM}
use Rattle.vm_machine.specs.Queries.{last_index, state_of}
use Rattle.vm_machine.specs.declared.machine.Machine.{Machine}
use Rattle.c_sessions.specs.declared.session.Session.{Session}
use Rattle.c_values.specs.declared.status.Status.{Status}
use Rattle.c_values.specs.declared.status.Status.TheVariants as status

-- an invocation's id; there is none before Start
abbrev pub id_text : List ℕ → List ℕ
id_text [] = []
id_text (byte ∷ bytes) = codes " " ++ byte ∷ bytes

-- the index of the last command, if there is one
abbrev pub last_text : ℤ → List ℕ
last_text (pos index) = codes ", last command " ++ decimal index
last_text (negsuc under) = codes ", no command"

-- its version, the invocation's id, its state, and its last command
abbrev pub vm_text : Machine → List ℕ
vm_text m = version_text m.version ++ id_text m.start.debug_id ++ codes " "
    ++ state_text (state_of m) ++ last_text (last_index m.counters.command)

-- the line of the VM that there is
abbrev pub line_of_vm : Option CoreVM → Result (List ℕ) Status
line_of_vm (Some vm) = Ok (vm_text (seen vm).machine)
line_of_vm None = Err status.NoVm

-- the line of the VM of the session that there is
abbrev pub described_in : Option Session → Result (List ℕ) Status
described_in (Some s) = line_of_vm s.vm
described_in None = Err status.NoSession
