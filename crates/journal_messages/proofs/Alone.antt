-- No encoding begins another's.
use Rattle.std.proofs.Common.{◌≡◌, ℕ, ◌+◌, ◌<◌, ◌^◌, List, [], ◌++◌, length, Some, refl, sym, ap, ◌∙◌, subst, arith}
use Rattle.std.proofs.lemmas.List.{append-nil}
use Rattle.journal_attempt.specs.declared.commands.InputCommand.{InputCommand}
use Rattle.journal_attempt.specs.declared.runs.ProposeRunCompletion.{ProposeRunCompletion}
use Rattle.journal_attempt.specs.declared.runs.ProposeRunCompletionAck.{ProposeRunCompletionAck}
use Rattle.journal_attempt.specs.declared.start.Start.{Start}
use Rattle.journal_values.specs.declared.notification.Notification.{Notification}
use Rattle.journal_messages.specs.declared.message.Message.{Message}
use Rattle.journal_messages.specs.declared.message.Message.TheVariants as message
use Rattle.journal_messages.specs.declared.message.RawMessage.{RawMessage}
use Rattle.journal_messages.specs.Frames.{NextFrame, Whole, Partial, Malformed, next_of}
use Rattle.journal_messages.specs.Message.{body, encoding, type_of, IsWhole}
use Rattle.journal_messages.specs.Reading.{acknowledgement_in, input_in, message_in, notification_in, proposal_in, start_in}
use Rattle.journal_messages.proofs.Cuts.{whole_spelled}
use Rattle.journal_messages.proofs.Framing.{frame_length}
use Rattle.journal_messages.proofs.Reading.{acknowledgement_read, input_read, message_read, notification_read, one_message, proposal_read, start_read}

abbrev raw_of : Message → RawMessage
raw_of m = record { ty = type_of m; body = body m }

-- the frame that is whole, or another
abbrev raw_or : RawMessage → NextFrame → RawMessage
raw_or other (Whole raw rest) = raw
raw_or other Partial = other
raw_or other Malformed = other

pub framed : (m : Message) (rest : List ℕ) → IsWhole m → next_of (encoding m ++ rest) ≡ Whole (raw_of m) rest
framed m rest w = whole_spelled (type_of m) (body m) rest w.1

pub read_back : (m : Message) → IsWhole m → message_in (type_of m) (body m) ≡ Some m
read_back m w = message_read m w.0

pub no_beginning : (a b : Message) (rest : List ℕ) → IsWhole a → IsWhole b → encoding a ++ rest ≡ encoding b → a ≡ b
no_beginning a b rest v w e =
    let h = sym (framed a rest v) ∙ ap next_of (e ∙ sym (append-nil (encoding b))) ∙ framed b [] w in
    let r : raw_of a ≡ raw_of b = ap (raw_or (raw_of a)) h in
    one_message a b (ap (λ (raw : RawMessage). raw.ty) r) v.0 w.0 (ap (λ (raw : RawMessage). raw.body) r)

pub start_back : (a : Start) → IsWhole (message.Start a) → start_in (body (message.Start a)) ≡ Some a
start_back a w = start_read a w.0

pub input_back : (a : InputCommand) → IsWhole (message.Input a) → input_in (body (message.Input a)) ≡ Some a
input_back a w = input_read a w.0

pub notification_back : (a : Notification) → IsWhole (message.Notification a) → notification_in (body (message.Notification a)) ≡ Some a
notification_back a w = notification_read a w.0

pub acknowledgement_back : (a : ProposeRunCompletionAck) → IsWhole (message.ProposeRunCompletionAck a) → acknowledgement_in (body (message.ProposeRunCompletionAck a)) ≡ Some a
acknowledgement_back a w = acknowledgement_read a w.0

pub proposal_back : (a : ProposeRunCompletion) → IsWhole (message.ProposeRunCompletion a) → proposal_in (body (message.ProposeRunCompletion a)) ≡ Some a
proposal_back a w = proposal_read a w.0

-- no bytes are a part of a frame
pub nothing_is_partial : next_of [] ≡ Partial
unfolding next_of
nothing_is_partial = refl

framed_only : (m : Message) → length (body m) < 2 ^ 64 → next_of (encoding m) ≡ Whole (raw_of m) []
framed_only m fits = ap next_of (sym (append-nil (encoding m))) ∙ whole_spelled (type_of m) (body m) [] fits

-- a message with the encoding of a whole one has the type and the body of that one
one_form : (m n : Message) → encoding m ≡ encoding n → IsWhole n → raw_of m ≡ raw_of n
one_form m n e whole =
    let long : length (body m) ≡ length (body n) = omega (arith, sym (frame_length (type_of m) (body m)) ∙ ap length e ∙ frame_length (type_of n) (body n)) in
    let fits : length (body m) < 2 ^ 64 = subst (λ k. k < 2 ^ 64) (sym long) whole.1 in
    ap (raw_or (raw_of n)) (sym (framed_only m fits) ∙ ap next_of e ∙ framed_only n whole.1)

pub one_type : (m n : Message) → encoding m ≡ encoding n → IsWhole n → type_of m ≡ type_of n
one_type m n e whole = ap (λ (raw : RawMessage). raw.ty) (one_form m n e whole)

pub one_body : (m n : Message) → encoding m ≡ encoding n → IsWhole n → body m ≡ body n
one_body m n e whole = ap (λ (raw : RawMessage). raw.body) (one_form m n e whole)
