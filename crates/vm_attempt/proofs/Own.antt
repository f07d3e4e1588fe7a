-- A command that can be encoded stands for itself once it is stored.
use Rattle.std.proofs.Common.{◌≡◌, ℕ, true, ◌&&◌, refl, ap, ◌∙◌}
use Rattle.std.specs.Prelude.{◌==◌, nat_le, nat_lt}
use Rattle.std.proofs.lemmas.Bool.{eq-eqb}
use Rattle.journal_protocol.specs.Commands.{IsCommand}
use Rattle.journal_protocol.specs.Frames.{IsWhole}
use Rattle.journal_protocol.specs.Types.{type_number}
use Rattle.journal_protocol.specs.Message.{Message}
use Rattle.journal_protocol.specs.Version.{Version}
use Rattle.vm_types.specs.declared.steps.Step.{Step}
use Rattle.vm_types.specs.declared.steps.Step.TheVariants as step
use Rattle.vm_asks.specs.declared.asks.Ask.{Ask}
use Rattle.vm_asks.specs.declared.asks.Ask.TheVariants as ask
use Rattle.vm_asks.specs.declared.command.Command.{Command}
use Rattle.vm_asks.specs.Asks.{EachIs, ask_of}
use Rattle.vm_asks.specs.Requests.{with_ids}
use Rattle.vm_asks.proofs.Numbering.{same_type}
use Rattle.vm_model.specs.Calls.{Setup, Derived, demand_of}
use Rattle.journal_entries.specs.Journal.{stored_form}
use Rattle.vm_model.specs.Moves.{found}
use Rattle.vm_model.proofs.Standing.{command_stands}
use Rattle.std.specs.Prelude.{List, [], ◌∷◌, Option, Some, None, Ok}
use Rattle.vm_types.specs.Options.{ignores_payloads}
use Rattle.vm_asks.specs.declared.state_read.StateRead.{StateRead}
use Rattle.vm_asks.specs.declared.state_read.StateRead.TheVariants as reads
use Rattle.vm_asks.specs.StateReads.{keys_form, own_form, value_form}
use Rattle.vm_state.specs.declared.state_map.Known.{Known}
use Rattle.vm_state.specs.declared.state_map.Known.TheVariants.{Unknown, Empty, Value}
use Rattle.vm_state.specs.declared.state_map.StateMap.{StateMap}
use Rattle.vm_state.specs.States.{value_known, known_keys}

number_same : (n : ℕ) → (n == n) ≡ true
number_same n = eq-eqb n n refl

-- what a step asks for is a command
abbrev pub AsksCommand : Ask → Type 0
AsksCommand (ask.Command c) = IsCommand c.message
AsksCommand (ask.Commands kind first second) = EachIs (λ c. IsCommand c.message) first (second ∷ [])
AsksCommand a = Unit {0}

pub asks_command : (version : Version) (s : Step) → AsksCommand (ask_of version s)
asks_command version (step.StateGet key name options) = tt
asks_command version (step.StateGetKeys name) = tt
asks_command version (step.CallWithDeadline target input time name options) = (refl, refl)
asks_command version step.Awakeable = tt
asks_command version (step.Signal name) = tt
asks_command version (step.Await future) = tt
asks_command version (step.Take handle) = tt
asks_command version (step.Completed handle) = tt
asks_command version step.End = tt
asks_command version s = refl

-- with its numbers, too
pub numbered_is : (m : Message) (id : ℕ) → IsCommand m → IsCommand (with_ids id m)
numbered_is m id is = ap (λ ty. nat_le 10 (type_number ty) && nat_lt (type_number ty) 30) (same_type id m) ∙ is

pub stands_for_itself : (s : Setup) (c : Command) (d : Derived) → IsWhole (with_ids d.counters.completion c.message) → found (demand_of s c d) (stored_form (with_ids d.counters.completion c.message)) ≡ Ok None
stands_for_itself s c d whole = command_stands (with_ids d.counters.completion c.message) (ignores_payloads s.options.non_determinism_checks c.unstable) whole

-- ---- state reads

value_is : (key name : List ℕ) (id : ℕ) (k : Known) → IsCommand (value_form key name id k)
value_is key name id Unknown = refl
value_is key name id Empty = refl
value_is key name id (Value value) = refl

keys_are : (name : List ℕ) (id : ℕ) (keys : Option (List (List ℕ))) → IsCommand (keys_form name id keys)
keys_are name id None = refl
keys_are name id (Some keys) = refl

-- what a read writes is a command
pub own_is : (r : StateRead) (id : ℕ) (state : StateMap) → IsCommand (own_form r id state)
own_is (reads.Value key name) id state = value_is key name id (value_known key state)
own_is (reads.Keys name) id state = keys_are name id (known_keys state)
