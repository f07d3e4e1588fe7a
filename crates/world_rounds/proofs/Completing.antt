-- At no point that a world's journal tells has a completion id two results.
use Rattle.std.proofs.Common.{◌≡◌, ℕ, false, ◌||◌, List, [], ◌∷◌, Option, Some, None, refl, sym, ap, ◌∙◌, subst}
use Rattle.std.proofs.lemmas.Option.{same_Some}
use Rattle.journal_protocol.specs.InputCommand.{InputCommand}
use Rattle.journal_protocol.specs.Message.{Message}
use Rattle.journal_protocol.specs.RawMessage.{RawMessage}
use Rattle.journal_protocol.specs.MessageType.TheVariants as type
use Rattle.journal_protocol.specs.Bodies.{message_in}
use Rattle.journal_protocol.proofs.Facts.{type_read}
use Rattle.journal_protocol.specs.Notification.{Notification}
use Rattle.vm_state.specs.declared.state_map.StateMap.{StateMap}
use Rattle.vm_asks.specs.Carried.{carried_by, read_carried}
use Rattle.vm_model.specs.Calls.{Meaning, Setup}
use Rattle.vm_model.specs.Carried.{AreCarried, ComeOnce, is_id_among, is_carried, read_carries}
use Rattle.journal_entries.specs.Journal.{input_read_from, notifications_in}
use Rattle.vm_model.specs.Histories.{History, Told}
use Rattle.vm_model.proofs.Carried.{completions_once, input_carries, typed, other_once}
use Rattle.vm_attempt.proofs.Replayed.{commands_same, head_same, notes_same, tail_same}
use Rattle.journal_entries.specs.Entries.{journal_entries, journal_frames, notes_in}
use Rattle.world_rounds.specs.Rounds.{CompletesOnce}
use Rattle.world_rounds.specs.Worlds.{IsJournal}
use Rattle.journal_entries.proofs.Framing.{notes_are}
use Rattle.world_rounds.proofs.Inputs.{input_type}
use Rattle.world_rounds.proofs.Once.{come_once}

-- a stored input carries no id
stored_input : (raw : RawMessage) (input : InputCommand) → input_read_from raw ≡ Some input → (id : ℕ) → read_carries id (message_in raw.ty raw.body) ≡ false
stored_input raw input reads id = by_read (message_in raw.ty raw.body) refl
  where
    by_read : (o : Option Message) → message_in raw.ty raw.body ≡ o → read_carries id o ≡ false
    by_read None is = refl
    by_read (Some m) is = ap (is_id_among id) (input_carries m (type_read raw.ty raw.body m is ∙ typed raw.ty type.InputCommand (input_type raw input reads)))

-- it carries none at all
pub input_carries_none : (raw : RawMessage) (input : InputCommand) → input_read_from raw ≡ Some input → carried_by raw ≡ []
input_carries_none raw input reads = by_read (message_in raw.ty raw.body) refl
  where
    by_read : (o : Option Message) → message_in raw.ty raw.body ≡ o → read_carried o ≡ []
    by_read None is = refl
    by_read (Some m) is = input_carries m (type_read raw.ty raw.body m is ∙ typed raw.ty type.InputCommand (input_type raw input reads))

-- after the input the commands carry the same ids
pub carried_behind : (ns : List Notification) (raw : RawMessage) (input : InputCommand) (rest : List RawMessage) → input_read_from raw ≡ Some input → AreCarried ns (raw ∷ rest) → AreCarried ns rest
carried_behind ns raw input rest reads h id none = h id (ap (λ b. b || is_carried id rest) (stored_input raw input reads id) ∙ none)

pub completes_once : (s : Setup) (m : Meaning) (base : StateMap) (journal : List (List ℕ)) → IsJournal journal → History s m base (journal_entries journal) → CompletesOnce s m (journal_entries journal)
completes_once s m base journal j h first input rest p begins reads told =
    let ns = notifications_in (journal_entries journal) in
    let notes : notes_in journal ≡ ns = notes_are journal ∙ sym (notes_same (journal_frames journal)) in
    let head : first ≡ h.first = head_same first h.first rest h.rest (sym begins ∙ h.begins) in
    let tail : rest ≡ h.rest = tail_same first h.first rest h.rest (sym begins ∙ h.begins) in
    let one : input ≡ h.input = same_Some input h.input (sym reads ∙ ap input_read_from head ∙ h.reads) in
    let here : Told s m h.input ns h.rest p = subst (λ (x : InputCommand × List RawMessage). Told s m x.0 ns x.1 p) (λ i. (one i, tail i)) told in
    let carry : AreCarried ns (h.first ∷ h.rest) = subst (λ (x : List Notification × List RawMessage). AreCarried x.0 x.1) (λ i. (notes i, (sym (commands_same (journal_frames journal)) ∙ h.begins) i)) j.carried in
    completions_once s m here.0 h.told.0 h.input ns h.rest p h.at here.1 h.told.1 h.uses_all (subst ComeOnce notes (come_once (notes_in journal) j.once)) (carried_behind ns h.first h.input h.rest h.reads carry)

-- so it is at the points of another handler's run, if the journal is a history of some handler
pub completes_once_too : (s : Setup) (m other : Meaning) (base : StateMap) (journal : List (List ℕ)) → IsJournal journal → History s m base (journal_entries journal) → CompletesOnce s other (journal_entries journal)
completes_once_too s m other base journal j h first input rest p begins reads told =
    let ns = notifications_in (journal_entries journal) in
    let notes : notes_in journal ≡ ns = notes_are journal ∙ sym (notes_same (journal_frames journal)) in
    let head : first ≡ h.first = head_same first h.first rest h.rest (sym begins ∙ h.begins) in
    let tail : rest ≡ h.rest = tail_same first h.first rest h.rest (sym begins ∙ h.begins) in
    let one : input ≡ h.input = same_Some input h.input (sym reads ∙ ap input_read_from head ∙ h.reads) in
    let here : Told s other h.input ns h.rest p = subst (λ (x : InputCommand × List RawMessage). Told s other x.0 ns x.1 p) (λ i. (one i, tail i)) told in
    let carry : AreCarried ns (h.first ∷ h.rest) = subst (λ (x : List Notification × List RawMessage). AreCarried x.0 x.1) (λ i. (notes i, (sym (commands_same (journal_frames journal)) ∙ h.begins) i)) j.carried in
    other_once s m other h.input ns h.rest here.0 h.told.0 p h.at here.1 h.told.1 h.uses_all (subst ComeOnce notes (come_once (notes_in journal) j.once)) (carried_behind ns h.first h.input h.rest h.reads carry)
