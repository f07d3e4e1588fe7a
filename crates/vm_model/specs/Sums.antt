-- The numbers of calls, as sums over the calls before them.
use Rattle.std.specs.Prelude.{ℕ, ◌+◌, List, [], ◌∷◌, ◌++◌}
use Rattle.vm_types.specs.declared.steps.Answer.{Answer}
use Rattle.vm_types.specs.declared.steps.Step.{Step}
use Rattle.vm_asks.specs.declared.asks.Ask.{Ask}
use Rattle.vm_asks.specs.declared.asks.Ask.TheVariants as ask
use Rattle.vm_asks.specs.Asks.{all_ids, ask_of}
use Rattle.vm_asks.specs.Requests.{ids_of}
use Rattle.journal_protocol.specs.Version.{Version}
use Rattle.vm_model.specs.Calls.{Meaning}

-- how many completion ids are asked for
abbrev pub completion_ids_in : Ask → ℕ
completion_ids_in (ask.Command c) = ids_of c.message
completion_ids_in (ask.Commands kind first second) = all_ids first (second ∷ [])
completion_ids_in (ask.Read r) = 1
completion_ids_in a = 0

-- how many signal ids are asked for
abbrev pub signal_ids_in : Ask → ℕ
signal_ids_in ask.Awakeable = 1
signal_ids_in a = 0

-- how many handles are asked for
abbrev pub handles_in : Ask → ℕ
handles_in (ask.Command c) = ids_of c.message
handles_in (ask.Commands kind first second) = all_ids first (second ∷ [])
handles_in (ask.Read r) = 1
handles_in ask.Awakeable = 1
handles_in (ask.Signal name) = 1
handles_in a = 0

-- how many completion ids a call takes, in a run of this version
abbrev pub completion_ids : Version → Step → ℕ
completion_ids version s = completion_ids_in (ask_of version s)

-- how many signal ids
abbrev pub signal_ids : Version → Step → ℕ
signal_ids version s = signal_ids_in (ask_of version s)

-- how many handles: one for each of both, and one for a named signal
abbrev pub handles : Version → Step → ℕ
handles version s = handles_in (ask_of version s)

-- the calls that brought the second answers, after the first ones
abbrev pub calls_after : Meaning → List Answer → List Answer → List Step
calls_after m before [] = []
calls_after m before (a ∷ answers) = m before ∷ calls_after m (before ++ a ∷ []) answers

-- the calls that brought a handler its answers; the first answer is its input, which no call
-- brought
abbrev pub calls_for : Meaning → List Answer → List Step
calls_for m [] = []
calls_for m (input ∷ answers) = calls_after m (input ∷ []) answers

-- the sum over some calls
abbrev pub total : (Step → ℕ) → List Step → ℕ
total f [] = 0
total f (s ∷ steps) = f s + total f steps
