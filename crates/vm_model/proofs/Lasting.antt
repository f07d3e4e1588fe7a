-- What was handed out honestly, or whole, lasts: as it was then, a call may know it later.
use Rattle.std.proofs.Common.{◌≡◌, List, [], ◌∷◌, ◌++◌, refl, ap}
use Rattle.journal_protocol.specs.Message.{Message}
use Rattle.vm_state.specs.declared.state_map.StateMap.{StateMap}
use Rattle.vm_state.specs.Entries.{IsInOrder}
use Rattle.journal_entries.specs.Journal.{Entry, Recorded, Notified, commands_in, notifications_in}
use Rattle.vm_model.specs.Moves.{changed_by}
use Rattle.vm_model.specs.Histories.{Handed, Honest, Knowledge, Whole}
use Rattle.vm_model.proofs.States.{all_again, true_again}

pub commands-append : (a b : List Entry) → commands_in (a ++ b) ≡ commands_in a ++ commands_in b
commands-append [] b = refl
commands-append (Recorded c ∷ es) b = ap (λ l. c ∷ l) (commands-append es b)
commands-append (Notified n ∷ es) b = commands-append es b

pub notifications-append : (a b : List Entry) → notifications_in (a ++ b) ≡ notifications_in a ++ notifications_in b
notifications-append [] b = refl
notifications-append (Recorded c ∷ es) b = notifications-append es b
notifications-append (Notified n ∷ es) b = ap (λ l. n ∷ l) (notifications-append es b)

-- what was handed out, and what the run of the journal said: as it was then, a call may know it later
abbrev pub Lasting : Knowledge → StateMap → List Message → Type 0
Lasting K given said = (state : StateMap) (x : List Message) → Handed given state (said ++ x) → K state (said ++ x)

pub honest_lasts : (base given : StateMap) (said told : List Message) → IsInOrder base.entries → changed_by told base ≡ changed_by said base → Honest base given told → Lasting (Honest base) given said
honest_lasts base given said told ordered same h state x handed = rw handed (true_again base given said x ordered (rw same at h))

pub whole_lasts : (base given : StateMap) (said told : List Message) → IsInOrder base.entries → changed_by told base ≡ changed_by said base → Whole base given told → Lasting (Whole base) given said
whole_lasts base given said told ordered same h state x handed = rw handed (all_again base given said x ordered (rw same at h))
