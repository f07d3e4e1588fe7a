-- What an attempt wrote, read from the bytes of its output.
use Rattle.std.proofs.Common.{◌≡◌, ℕ, ◌<◌, ◌^◌, cond, List, [], ◌∷◌, ◌++◌, length, map, append_assoc, refl, sym, ap, ◌∙◌, ⊎_elim, append-nil}
use Rattle.std.specs.List.{AllByRecursion, concat, flat_map}
use Rattle.std.proofs.lemmas.Grind.{flat_map-append}
use Rattle.std.proofs.lemmas.List.Folds.{concat-append}
use Rattle.journal_protocol.specs.Message.{Message}
use Rattle.journal_protocol.specs.RawMessage.{RawMessage}
use Rattle.journal_protocol.specs.Frames.{encoding, IsWhole}
use Rattle.journal_protocol.proofs.Facts.{one_body, one_type, proposal_back, whole_spelled}
use Rattle.vm_parts.specs.Outboxes.{WholeFrames, WholeStream}
use Rattle.vm_parts.proofs.Outboxes.{all_whole, bytes_of}
use Rattle.journal_entries.specs.Frames.{Rest, frames_from, frames_of}
use Rattle.journal_entries.proofs.Cuts.{frames_of-next}
use Rattle.journal_entries.specs.Journal.{stored_form}
use Rattle.vm_attempt.specs.Honest.{frame_bytes}
use Rattle.journal_entries.specs.JournalFrames.{commands_among, is_command_frame}
use Rattle.vm_attempt.specs.Record.{Record, bytes_written, heard}
use Rattle.vm_attempt.specs.Told.{BeforeInput, JournalCame, HasCome, Wrote, commands_of, written_by}
use Rattle.journal_protocol.specs.ProposeRunCompletion.{ProposeRunCompletion}
use Rattle.journal_protocol.specs.Message.TheVariants as message
use Rattle.vm_attempt.specs.Heard.{proposals_among, proposals_in, proposed_by}
use Rattle.vm_attempt.proofs.Quiet.{commands_append, forms_append, map_append, proposals_append}
use Rattle.vm_model.specs.Fixed.{Fixed}

-- ---- frames of bytes

-- the body is no longer than its length can say
abbrev pub Fits : RawMessage → Type 0
Fits raw = length raw.body < 2 ^ 64

-- whole frames are read back
pub frames_spelled : (raws : List RawMessage) → AllByRecursion Fits raws → frames_of (flat_map frame_bytes raws) ≡ (raws, Rest [])
unfolding frames_of
frames_spelled [] fit = refl
frames_spelled (raw ∷ raws) fit =
    let rest = flat_map frame_bytes raws in
    frames_of-next (frame_bytes raw ++ rest)
    ∙ ap (λ o. frames_from o (λ bytes. frames_of bytes) (frame_bytes raw ++ rest)) (whole_spelled raw.ty raw.body rest fit.0)
    ∙ ap (λ p. (raw ∷ p.0, p.1)) (frames_spelled raws fit.1)

forms_fit : (ms : List Message) → AllByRecursion IsWhole ms → AllByRecursion Fits (map stored_form ms)
forms_fit [] all = tt
forms_fit (m ∷ ms) all = (all.0.1, forms_fit ms all.1)

forms_spelled : (ms : List Message) → flat_map frame_bytes (map stored_form ms) ≡ flat_map encoding ms
forms_spelled [] = refl
forms_spelled (m ∷ ms) = ap (λ t. encoding m ++ t) (forms_spelled ms)

-- the frames of whole messages are the messages as they are stored
messages_spelled : (ms : List Message) → AllByRecursion IsWhole ms → (frames_of (flat_map encoding ms)).0 ≡ map stored_form ms
messages_spelled ms all = ap (λ l. (frames_of l).0) (sym (forms_spelled ms)) ∙ ap (λ p. p.0) (frames_spelled (map stored_form ms) (forms_fit ms all))

-- ---- a frame is of one message only

-- a message with the frame of a whole one is stored as that one is
same_form : (m n : Message) → encoding m ≡ encoding n → IsWhole n → stored_form m ≡ stored_form n
same_form m n e whole = λ i. record { ty = one_type m n e whole i; body = one_body m n e whole i }

abbrev first_of : List (List ℕ) → List ℕ
first_of [] = []
first_of (x ∷ xs) = x

abbrev others_of : List (List ℕ) → List (List ℕ)
others_of [] = []
others_of (x ∷ xs) = xs

-- the same frames have the same commands among them
pub same_commands : (ms ns : List Message) → map encoding ms ≡ map encoding ns → AllByRecursion IsWhole ns → commands_of ms ≡ commands_of ns
same_commands [] [] e all = refl
same_commands [] (n ∷ ns) e all = absurd (cc)
same_commands (m ∷ ms) [] e all = absurd (cc)
same_commands (m ∷ ms) (n ∷ ns) e all =
    ap (λ c. cond (is_command_frame c) (c ∷ commands_of ms) (commands_of ms)) (same_form m n (ap first_of e) all.0)
    ∙ ap (λ l. cond (is_command_frame (stored_form n)) (stored_form n ∷ l) l) (same_commands ms ns (ap others_of e) all.1)

commands_stored : (ms : List Message) → commands_of ms ≡ commands_among (map stored_form ms)
commands_stored [] = refl
commands_stored (m ∷ ms) = ap (λ l. cond (is_command_frame (stored_form m)) (stored_form m ∷ l) l) (commands_stored ms)

-- ---- all output

-- what is taken is written as before
pub takes_wrote : (taken output : List (List ℕ)) (written : List RawMessage) → WholeFrames output → Wrote taken output written → Wrote (taken ++ concat output ∷ []) [] written
takes_wrote taken output written f w = record {
  sent = w.sent ++ f.messages;
  bytes = concat-append taken (concat output ∷ [])
      ∙ ap (λ l. concat taken ++ l) (append-nil (concat output) ∙ ap concat f.are ∙ bytes_of f.messages)
      ∙ ap (λ l. l ++ flat_map encoding f.messages) w.bytes
      ∙ sym (flat_map-append encoding w.sent f.messages);
  whole = all_whole w.sent f.messages w.whole f.each;
  waiting = [];
  frames = refl;
  commands = ap commands_of (append-nil (w.sent ++ f.messages))
      ∙ commands_append w.sent f.messages
      ∙ ap (λ l. commands_of w.sent ++ l) (sym (same_commands w.waiting f.messages (sym w.frames ∙ f.are) f.each))
      ∙ sym (commands_append w.sent w.waiting)
      ∙ w.commands;
}

-- all that was written is the frames of the messages that were sent and of those that wait
bytes_are : (taken waits : List (List ℕ)) (written : List RawMessage) (w : Wrote taken waits written) (f : WholeFrames waits) → concat taken ++ concat waits ≡ flat_map encoding (w.sent ++ f.messages)
bytes_are taken waits written w f =
    ap (λ l. l ++ concat waits) w.bytes
    ∙ ap (λ l. flat_map encoding w.sent ++ l) (ap concat f.are ∙ bytes_of f.messages)
    ∙ sym (flat_map-append encoding w.sent f.messages)

stream_of : (taken waits : List (List ℕ)) (written : List RawMessage) → Wrote taken waits written → WholeFrames waits → WholeStream (concat taken ++ concat waits)
stream_of taken waits written w f = record {
  messages = w.sent ++ f.messages;
  are = bytes_are taken waits written w f;
  each = all_whole w.sent f.messages w.whole f.each;
}

-- the commands that were written are those among the frames of the output
pub written_is : (taken waits : List (List ℕ)) (written : List RawMessage) → Wrote taken waits written → WholeFrames waits → written ≡ commands_among (frames_of (concat taken ++ concat waits)).0
written_is taken waits written w f =
    sym w.commands
    ∙ commands_append w.sent w.waiting
    ∙ ap (λ l. commands_of w.sent ++ l) (same_commands w.waiting f.messages (sym w.frames ∙ f.are) f.each)
    ∙ sym (commands_append w.sent f.messages)
    ∙ commands_stored (w.sent ++ f.messages)
    ∙ ap commands_among (sym (ap (λ l. (frames_of l).0) (bytes_are taken waits written w f) ∙ messages_spelled (w.sent ++ f.messages) (all_whole w.sent f.messages w.whole f.each)))

-- the same frames are of messages that are stored alike
pub same_forms : (ms ns : List Message) → map encoding ms ≡ map encoding ns → AllByRecursion IsWhole ns → map stored_form ms ≡ map stored_form ns
same_forms [] [] e all = refl
same_forms [] (n ∷ ns) e all = absurd (cc)
same_forms (m ∷ ms) [] e all = absurd (cc)
same_forms (m ∷ ms) (n ∷ ns) e all = λ i. same_form m n (ap first_of e) all.0 i ∷ same_forms ms ns (ap others_of e) all.1 i

-- the frames of the output
output_forms : (taken waits : List (List ℕ)) (sent : List Message) → concat taken ≡ flat_map encoding sent → AllByRecursion IsWhole sent → (f : WholeFrames waits) → (frames_of (concat taken ++ concat waits)).0 ≡ map stored_form sent ++ map stored_form f.messages
output_forms taken waits sent bytes whole f =
    ap (λ l. (frames_of l).0) (ap (λ l. l ++ concat waits) bytes ∙ ap (λ l. flat_map encoding sent ++ l) (ap concat f.are ∙ bytes_of f.messages) ∙ sym (flat_map-append encoding sent f.messages))
    ∙ messages_spelled (sent ++ f.messages) (all_whole sent f.messages whole f.each)
    ∙ forms_append sent f.messages

-- further messages propose what is among them
pub proposes_more : (taken output new : List (List ℕ)) (written : List RawMessage) → Wrote taken output written → WholeFrames output → WholeFrames new → (ms : List Message) → new ≡ output ++ map encoding ms
    → proposals_in (concat taken ++ concat new) ≡ proposals_in (concat taken ++ concat output) ++ proposals_among (map stored_form ms)
proposes_more taken output new written w f g ms is =
    let sent = map stored_form w.sent in
    let behind : map stored_form g.messages ≡ map stored_form f.messages ++ map stored_form ms =
    sym (same_forms (f.messages ++ ms) g.messages (map_append f.messages ms ∙ ap (λ l. l ++ map encoding ms) (sym f.are) ∙ sym is ∙ g.are) g.each) ∙ forms_append f.messages ms
    in
    ap proposals_among (output_forms taken new w.sent w.bytes w.whole g ∙ ap (λ l. sent ++ l) behind ∙ sym (append_assoc sent (map stored_form f.messages) (map stored_form ms)))
    ∙ proposals_append (sent ++ map stored_form f.messages) (map stored_form ms)
    ∙ ap (λ l. l ++ proposals_among (map stored_form ms)) (ap proposals_among (sym (output_forms taken output w.sent w.bytes w.whole f)))

-- what a message proposes that can be read back
pub proposes_one : (p : ProposeRunCompletion) → IsWhole (message.ProposeRunCompletion p) → proposals_among (stored_form (message.ProposeRunCompletion p) ∷ []) ≡ p ∷ []
proposes_one p whole = ap (λ o. proposed_by o []) (proposal_back p whole)

-- the frames of messages propose what is among the messages
pub frames_propose : (ms : List Message) → AllByRecursion IsWhole ms → proposals_in (concat (map encoding ms)) ≡ proposals_among (map stored_form ms)
frames_propose ms whole = ap proposals_in (bytes_of ms) ∙ ap proposals_among (messages_spelled ms whole)

-- what was taken are the first of the commands that were written
pub taken_first : (taken waits : List (List ℕ)) (written : List RawMessage) → Wrote taken waits written → (rest : List RawMessage) × (written ≡ commands_among (frames_of (concat taken)).0 ++ rest)
taken_first taken waits written w = (
  commands_of w.waiting,
  sym w.commands ∙ commands_append w.sent w.waiting
      ∙ ap (λ l. l ++ commands_of w.waiting) (commands_stored w.sent ∙ ap commands_among (sym (ap (λ l. (frames_of l).0) w.bytes ∙ messages_spelled w.sent w.whole))),
)

-- ---- an attempt

pub writes_whole : (fixed : Fixed) (r : Record) → HasCome fixed r → WholeFrames r.vm.machine.output → WholeStream (bytes_written r)
writes_whole fixed r k f =
    ⊎_elim
    (λ (b : BeforeInput fixed (heard fixed.version r) r.answers r.waiting r.taken r.vm). stream_of r.taken r.vm.machine.output [] b.wrote f)
    (λ (c : JournalCame fixed (heard fixed.version r) r.answers r.taken r.vm). stream_of r.taken r.vm.machine.output c.written c.wrote f)
    k

-- before the input no command is written
pub none_before_input : (fixed : Fixed) (r : Record) → HasCome fixed r → WholeFrames r.vm.machine.output → r.answers ≡ [] → written_by r ≡ []
none_before_input fixed r k f none =
    ⊎_elim
    (λ (b : BeforeInput fixed (heard fixed.version r) r.answers r.waiting r.taken r.vm). sym (written_is r.taken r.vm.machine.output [] b.wrote f))
    (λ (c : JournalCame fixed (heard fixed.version r) r.answers r.taken r.vm). absurd (c.answered none))
    k
