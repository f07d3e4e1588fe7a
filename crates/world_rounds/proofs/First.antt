-- The journal of a new world.
use Rattle.std.proofs.Common.{◌≡◌, ℕ, List, [], ◌∷◌, Option, Some, None, refl, sym, ap, ◌∙◌, subst, arith}
use Rattle.std.specs.List.{AllByRecursion}
use Rattle.std.specs.Prelude.{option_map}
use Rattle.await_arrivals.specs.Results.{results_of}
use Rattle.journal_protocol.specs.InputCommand.{InputCommand}
use Rattle.journal_protocol.specs.Message.TheVariants as message
use Rattle.journal_protocol.specs.MessageType.TheVariants as type
use Rattle.journal_protocol.specs.Frames.{encoding, IsWhole}
use Rattle.journal_protocol.specs.Bodies.{input_in, message_in}
use Rattle.journal_protocol.proofs.Facts.{read_back}
use Rattle.journal_protocol.specs.NotificationId.TheVariants.{CompletionId}
use Rattle.vm_model.specs.Calls.{Meaning, Setup}
use Rattle.vm_model.specs.Carried.{AreOfTheirKind, IsInvocationId}
use Rattle.journal_entries.specs.Journal.{stored_form}
use Rattle.vm_model.specs.Moves.{start}
use Rattle.vm_model.specs.Histories.{Knowledge}
use Rattle.vm_model.specs.HonestRounds.{IsOneRun}
use Rattle.journal_entries.specs.JournalFrames.{as_entries, commands_among, notified_by}
use Rattle.journal_entries.specs.Completions.{CompleteOnce, NoteIsOfItsKind}
use Rattle.journal_entries.specs.Entries.{journal_entries, frame_in, framed_by, journal_frames, may_stand, note_of, notes_in, read_from}
use Rattle.world_rounds.specs.Worlds.{IsJournal}
use Rattle.journal_entries.proofs.Framing.{frame_back}

first_frame : (i : InputCommand) → IsWhole (message.Input i) → frame_in (encoding (message.Input i)) ≡ Some (stored_form (message.Input i))
first_frame i whole = frame_back (stored_form (message.Input i)) whole.1

first_is : (i : InputCommand) → IsWhole (message.Input i) → IsJournal (encoding (message.Input i) ∷ [])
first_is i whole = record {
  entries = (ap may_stand (first_frame i whole), tt);
  short = omega arith;
  once = subst (λ o. CompleteOnce (notified_by (read_from note_of o) [])) (sym (first_frame i whole)) tt;
  carried = λ id none. subst (λ o. results_of (CompletionId id) (notified_by (read_from note_of o) []) ≡ []) (sym (first_frame i whole)) refl;
  kinds = (subst (λ o. NoteIsOfItsKind (read_from note_of o) []) (sym (first_frame i whole)) tt, tt);
}

input_by : (i : InputCommand) (o : Option InputCommand) → option_map message.Input o ≡ Some (message.Input i) → o ≡ Some i
input_by i None h = cc
input_by i (Some s) h = let e : s ≡ i = cc in ap Some e

input_found : (b : List ℕ) (i : InputCommand) → message_in type.InputCommand b ≡ Some (message.Input i) → input_in b ≡ Some i
unfolding message_in
input_found b i h = input_by i (input_in b) h

first_run : (s : Setup) (m : Meaning) (K : Knowledge) (i : InputCommand) → IsWhole (message.Input i) → IsOneRun s m K (journal_entries (encoding (message.Input i) ∷ []))
first_run s m K i whole =
    let raw = stored_form (message.Input i) in
    subst (λ o. IsOneRun s m K (as_entries (framed_by o []))) (sym (first_frame i whole)) (record {
      first = raw;
      input = i;
      reads = input_found raw.body i (read_back (message.Input i) whole);
      rest = [];
      begins = refl;
      moves = 0;
      at = start s i [] [];
      made = (refl, refl);
    })

pub first_ok : (journal : List (List ℕ)) (i : InputCommand) → journal ≡ encoding (message.Input i) ∷ [] → IsWhole (message.Input i) → IsJournal journal
first_ok journal i is whole = subst IsJournal (sym is) (first_is i whole)

pub first_made : (s : Setup) (m : Meaning) (K : Knowledge) (journal : List (List ℕ)) (i : InputCommand) → journal ≡ encoding (message.Input i) ∷ [] → IsWhole (message.Input i) → IsOneRun s m K (journal_entries journal)
first_made s m K journal i is whole = subst (λ j. IsOneRun s m K (journal_entries j)) (sym is) (first_run s m K i whole)

-- it holds no result
pub first_kinds : (journal : List (List ℕ)) (i : InputCommand) → journal ≡ encoding (message.Input i) ∷ [] → IsWhole (message.Input i) → AreOfTheirKind (notes_in journal) (commands_among (journal_frames journal))
first_kinds journal i is whole id named = subst (λ ns. AllByRecursion IsInvocationId (results_of (CompletionId id) ns)) (sym (ap notes_in is ∙ ap (λ o. notified_by (read_from note_of o) []) (first_frame i whole))) tt
