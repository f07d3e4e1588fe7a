use Rattle.journal_messages.proofs.Frames.{no_type, wrong_type, no_length, no_body, whole_frame}
use Rattle.journal_messages.proofs.decoder.frame_at.Goals as goal

pub returns-in_default : goal.returns-in_default
returns-in_default c = no_type _ c.in_default.ensures

pub returns-in_default-from_number : goal.returns-in_default-from_number
returns-in_default-from_number c =
    wrong_type _ c.in-Some.rest.now c.in-Some.number c.in-Some.ensures.0 c.in_default-from_number.ensures.found c.in-Some.ensures.1

pub returns-in_default-length_at : goal.returns-in_default-length_at
returns-in_default-length_at c =
    no_length _ c.in-Some.rest.now c.in-Some.number c.in-Some-from_number.ty c.in-Some.ensures.0 c.in-Some-from_number.ensures.found c.in-Some.ensures.1 c.in_default-length_at.ensures

pub returns-then-rest-len : goal.returns-then-rest-len
returns-then-rest-len c =
    no_body _ c.in-Some.rest.now c.in-Some-length_at.rest.now c.in-Some.number c.in-Some-from_number.ty c.in-Some-length_at.len c.in-Some.ensures.0 c.in-Some-from_number.ensures.found c.in-Some.ensures.1
    c.in-Some-length_at.ensures.0 c.in-Some-length_at.ensures.1 c.if-rest-len.true

pub returns : goal.returns
returns c =
    whole_frame _ c.in-Some.rest.now c.in-Some-length_at.rest.now c.in-Some.number c.in-Some-from_number.ty c.in-Some-length_at.len c.in-Some.ensures.0 c.in-Some-from_number.ensures.found c.in-Some-from_number.ensures.numbered c.in-Some.ensures.1
    c.in-Some-length_at.ensures.0 c.in-Some-length_at.ensures.1 c.if-rest-len.false
