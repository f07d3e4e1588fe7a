use Rattle.std.proofs.Common.{◌≡◌, ℕ, List, [], refl, ◌+◌, take, drop, sym, ap, ◌∙◌, arith}
use Rattle.std.specs.List.{flat_map}
use Rattle.std.proofs.lemmas.List.{take_all}
use Rattle.std.proofs.lemmas.Result.{err_from_is_err_and}
use Rattle.journal_messages.proofs.Frames.{no_type}
use Rattle.journal_messages.proofs.Streams.{one_stream, frame_long, refused_frame, refused_body, all_pieces}
use Rattle.journal_messages.proofs.stream.messages_of.Goals as goal

pub loop-piece-init : goal.loop-piece-init
loop-piece-init c = rw (c.new-out.ensures.items, c.new-decoder.ensures) (record { read = record { whole = refl; each = tt }; part = (no_type [] (omega arith)).0 })

pub loop-out-smaller-in_ok-push-2 : goal.loop-out-smaller-in_ok-push-2
loop-out-smaller-in_ok-push-2 c = let h = rw c.in-Some.is at c.in_ok-raw.ensures.spelled in frame_long c.in-Some.raw.ty c.in-Some.raw.body c.next_frame.new.self c.loop-out.decoder h.1

pub loop-out-smaller : goal.loop-out-smaller
loop-out-smaller c = let h = rw c.in-Some.is at c.in_ok-raw.ensures.spelled in frame_long c.in-Some.raw.ty c.in-Some.raw.body c.next_frame.new.self c.loop-out.decoder h.1

pub returns-clause-only : goal.returns-clause-only
returns-clause-only c = λ others rest s.
    let all : flat_map (λ (piece : List ℕ). piece) (take c.loop-piece.piece-index c.args.pieces.now) ≡ flat_map (λ (piece : List ℕ). piece) c.args.pieces.now = ap (flat_map (λ (piece : List ℕ). piece)) (take_all c.loop-piece.piece-index c.args.pieces.now c.loop-piece-test.false) in
    one_stream c.loop-piece.out.items others c.loop-piece.decoder rest c.loop-piece.invariant.read.each s.each c.loop-piece.invariant.part s.partial (sym c.loop-piece.invariant.read.whole ∙ all ∙ s.whole)

pub returns-in_err-raw-clause-refused : goal.returns-in_err-raw-clause-refused
returns-in_err-raw-clause-refused c =
    let p = err_from_is_err_and c.from_residual-in_err-raw.result c.from_residual-in_err-raw.ensures.1 in
    rw (p.1, p.2) (refused_frame (flat_map (λ (piece : List ℕ). piece) (take (c.loop-piece.piece-index + 1) c.args.pieces.now)) (flat_map (λ (piece : List ℕ). piece) (drop (c.loop-piece.piece-index + 1) c.args.pieces.now)) (flat_map (λ (piece : List ℕ). piece) c.args.pieces.now)
    c.loop-out.out.items c.loop-out.decoder c.next_frame.new.self _ c.loop-out.invariant (all_pieces (c.loop-piece.piece-index + 1) c.args.pieces.now) c.in_err-raw.ensures.spelled)

pub returns-in_err-read-clause-refused : goal.returns-in_err-read-clause-refused
returns-in_err-read-clause-refused c =
    let p = err_from_is_err_and c.from_residual-in_err-read.result c.from_residual-in_err-read.ensures.1 in
    let h = rw c.in-Some.is at c.in_ok-raw.ensures.spelled in
    rw (p.1, p.2) (refused_body (flat_map (λ (piece : List ℕ). piece) (take (c.loop-piece.piece-index + 1) c.args.pieces.now)) (flat_map (λ (piece : List ℕ). piece) (drop (c.loop-piece.piece-index + 1) c.args.pieces.now)) (flat_map (λ (piece : List ℕ). piece) c.args.pieces.now)
    c.loop-out.out.items c.loop-out.decoder c.next_frame.new.self c.in-Some.raw.ty c.in-Some.raw.body _ c.loop-out.invariant (all_pieces (c.loop-piece.piece-index + 1) c.args.pieces.now) h.0 h.1 c.in_err-read.ensures.decodes)
