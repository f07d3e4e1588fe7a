-- Histories by whose recorded commands the state is known as the handler knows it.
use Rattle.std.specs.Prelude.{◌≡◌, List}
use Rattle.vm_state.specs.declared.state_map.StateMap.{StateMap}
use Rattle.vm_model.specs.Calls.{Setup, Meaning}
use Rattle.journal_entries.specs.Journal.{Entry, messages_in}
use Rattle.vm_model.specs.Moves.{changed_by}
use Rattle.vm_model.specs.Histories.{History}

-- A history whose recorded state commands leave of the base what the handler's own calls leave of
-- it. The state that an attempt knows follows its calls; the state that the next attempt is handed
-- follows the recorded commands. If payloads aren't compared, a recorded value may be another than
-- the call's.
pub record SoundHistory (s : Setup) (m : Meaning) (base : StateMap)
    (journal : List Entry) : Type 0 where
  pub history : History s m base journal
  pub leaves : changed_by (messages_in history.rest) base ≡ changed_by history.at.said base
