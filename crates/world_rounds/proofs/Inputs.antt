-- Journals that begin with an input, which changes no state.
use Rattle.std.proofs.Common.{◌≡◌, Bool, true, false, List, ◌∷◌, Option, Some, None, refl, sym, ap, ◌∙◌}
use Rattle.std.specs.Prelude.{◌==◌, if◌then◌else◌}
use Rattle.journal_protocol.specs.InputCommand.{InputCommand}
use Rattle.journal_protocol.specs.Message.{Message}
use Rattle.journal_protocol.specs.RawMessage.{RawMessage}
use Rattle.journal_protocol.specs.MessageType.{MessageType}
use Rattle.journal_protocol.specs.MessageType.TheVariants as type
use Rattle.journal_protocol.specs.Bodies.{input_in, message_in}
use Rattle.journal_protocol.specs.Types.{type_number}
use Rattle.journal_protocol.proofs.Facts.{type_read}
use Rattle.vm_state.specs.declared.state_map.StateMap.{StateMap}
use Rattle.vm_model.specs.Calls.{Meaning, Setup}
use Rattle.journal_entries.specs.Journal.{Entry, commands_in, input_read_from, messages_in, read_before}
use Rattle.vm_model.specs.Moves.{changed_by}
use Rattle.vm_model.specs.Histories.{History, after_head}
use Rattle.vm_model.proofs.Stored.{changes_state, unchanged}

-- a journal begins with an input
pub record Begins (journal : List Entry) : Type 0 where
  pub first : RawMessage
  pub input : InputCommand
  pub reads : input_read_from first ≡ Some input
  pub rest : List RawMessage
  pub commands : commands_in journal ≡ first ∷ rest

-- what can be read as an input has its type
pub input_type : (raw : RawMessage) (input : InputCommand) → input_read_from raw ≡ Some input → (type_number raw.ty == type_number type.InputCommand) ≡ true
input_type raw input h = by_test (type_number raw.ty == type_number type.InputCommand) h
  where
    by_test : (b : Bool) → (if b then input_in raw.body else None) ≡ Some input → b ≡ true
    by_test true e = refl
    by_test false e = absurd (cc)

changes_nothing : (ty : MessageType) → (type_number ty == type_number type.InputCommand) ≡ true → changes_state ty ≡ false
changes_nothing type.SetStateCommand e = absurd (let z : false ≡ true = e in cc)
changes_nothing type.ClearStateCommand e = absurd (let z : false ≡ true = e in cc)
changes_nothing type.ClearAllStateCommand e = absurd (let z : false ≡ true = e in cc)
changes_nothing ty e = refl

-- the input changes no state
pub input_says : (journal : List Entry) (b : Begins journal) (g : StateMap) → changed_by (messages_in (commands_in journal)) g ≡ changed_by (messages_in (after_head (commands_in journal))) g
input_says journal b g = ap (λ l. changed_by (messages_in l) g) b.commands ∙ by_message (message_in b.first.ty b.first.body) refl ∙ ap (λ l. changed_by (messages_in (after_head l)) g) (sym b.commands)
  where
    by_message : (o : Option Message) → message_in b.first.ty b.first.body ≡ o → changed_by (read_before o (messages_in b.rest)) g ≡ changed_by (messages_in b.rest) g
    by_message None is = refl
    by_message (Some n) is = ap (changed_by (messages_in b.rest)) (unchanged n (ap changes_state (type_read b.first.ty b.first.body n is) ∙ changes_nothing b.first.ty (input_type b.first b.input b.reads)) g)

-- a history begins with its input
pub history_begins : (s : Setup) (m : Meaning) (base : StateMap) (journal : List Entry) → History s m base journal → Begins journal
history_begins s m base journal h = record { first = h.first; input = h.input; reads = h.reads; rest = h.rest; commands = h.begins }
