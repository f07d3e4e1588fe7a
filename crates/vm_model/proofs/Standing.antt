-- A call's own command that can be encoded stands for itself once it is stored.
use Rattle.std.proofs.Common.{◌≡◌, ℕ, Bool, true, List, Option, Some, None, refl, ap, ◌∙◌}
use Rattle.std.specs.Prelude.{nat_eq, if◌then◌else◌, Ok, Err}
use Rattle.std.specs.Cmp.Lexicographic.{bytes_decides, pointwise}
use Rattle.std.proofs.lemmas.Bool.{eq-eqb}
use Rattle.journal_protocol.specs.NamedFault.TheVariants as fault
use Rattle.journal_protocol.specs.Message.{Message}
use Rattle.journal_protocol.specs.Equality.{header_equal}
use Rattle.journal_protocol.specs.Frames.{body, type_of, IsWhole}
use Rattle.journal_protocol.specs.Bodies.{message_in}
use Rattle.journal_protocol.specs.Types.{type_number}
use Rattle.journal_protocol.proofs.Facts.{read_back, same_header}
use Rattle.vm_state.specs.declared.state_map.Known.{Known}
use Rattle.vm_state.specs.declared.state_map.Known.TheVariants.{Unknown, Empty, Value}
use Rattle.vm_state.specs.declared.state_map.StateMap.{StateMap}
use Rattle.vm_state.specs.States.{value_known, known_keys}
use Rattle.vm_asks.specs.declared.state_read.StateRead.{StateRead}
use Rattle.vm_asks.specs.declared.state_read.StateRead.TheVariants as reads
use Rattle.vm_asks.specs.StateReads.{eager_form, keys_form, own_form, read_by, result_in, value_form, own_result}
use Rattle.vm_model.specs.Calls.Demand.{Exactly, Reads}
use Rattle.journal_entries.specs.Journal.{stored_form}
use Rattle.vm_model.specs.Moves.{found, reads_as}

pub command_stands : (command : Message) (ignore : Bool) → IsWhole command → found (Exactly command ignore) (stored_form command) ≡ Ok None
command_stands command ignore whole =
    ap (λ b. if b then reads_as ignore command (message_in (type_of command) (body command)) else Err fault.CommandTypeMismatch) (eq-eqb (type_number (type_of command)) (type_number (type_of command)) refl)
    ∙ ap (reads_as ignore command) (read_back command whole)
    ∙ ap (λ b. if b then Ok None else Err fault.CommandMismatch) (same_header command ignore)

-- a read that is header-equal to its form
form_stands : (form own : Message) → IsWhole own → header_equal own form true ≡ true → read_by form (message_in (type_of own) (body own)) ≡ result_in own
form_stands form own whole same = ap (read_by form) (read_back own whole) ∙ ap (λ b. if b then result_in own else Err fault.CommandMismatch) same

text_same : (xs : List ℕ) → pointwise nat_eq xs xs ≡ true
text_same xs = (bytes_decides xs xs).1 refl

value_stands : (key name : List ℕ) (id : ℕ) (k : Known) → IsWhole (value_form key name id k) → found (Reads (reads.Value key name) id) (stored_form (value_form key name id k)) ≡ Ok (own_result (result_in (value_form key name id k)))
unfolding header_equal
value_stands key name id Unknown whole = let own = value_form key name id Unknown in form_stands own own whole (same_header own true)
value_stands key name id Empty whole = form_stands (eager_form (reads.Value key name)) (value_form key name id Empty) whole (rw (text_same name, text_same key) refl)
value_stands key name id (Value value) whole = form_stands (eager_form (reads.Value key name)) (value_form key name id (Value value)) whole (rw (text_same name, text_same key) refl)

keys_stand : (name : List ℕ) (id : ℕ) (keys : Option (List (List ℕ))) → IsWhole (keys_form name id keys) → found (Reads (reads.Keys name) id) (stored_form (keys_form name id keys)) ≡ Ok (own_result (result_in (keys_form name id keys)))
unfolding header_equal
keys_stand name id None whole = let own = keys_form name id None in form_stands own own whole (same_header own true)
keys_stand name id (Some keys) whole = form_stands (eager_form (reads.Keys name)) (keys_form name id (Some keys)) whole (text_same name)

pub read_stands : (r : StateRead) (id : ℕ) (state : StateMap) → IsWhole (own_form r id state) → found (Reads r id) (stored_form (own_form r id state)) ≡ Ok (own_result (result_in (own_form r id state)))
read_stands (reads.Value key name) id state whole = value_stands key name id (value_known key state) whole
read_stands (reads.Keys name) id state whole = keys_stand name id (known_keys state) whole
