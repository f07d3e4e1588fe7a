use Rattle.std.proofs.Common.{◌≡◌, ap, ◌++◌, ◌∙◌, rules}
use Rattle.journal_protocol.proofs.Facts.{whole_shorter}
use Rattle.palqytun.proofs.Sending.{first_seen, one_seen}
use Rattle.palqytun.proofs.reports.frames_sent.Goals as goal

pub loop-decoder-init : goal.loop-decoder-init
loop-decoder-init c =
    let same : c.in_ok-clone.field-0 ≡ c.args.report.now.output = search rules in
    first_seen _ _ _ c.new-frames.ensures.items (c.in_ok-push.ensures.ok ∙ ap (λ b. b ++ c.in_ok-clone.field-0) c.new-decoder.ensures ∙ same)

pub loop-decoder-preserved : goal.loop-decoder-preserved
loop-decoder-preserved c = let h = rw c.in-Some.is at c.in_ok-raw.ensures.some in one_seen _ _ _ _ _ c.in-Some.raw c.loop-decoder.invariant h c.in_ok-push-2.ensures.items

pub loop-decoder-smaller : goal.loop-decoder-smaller
loop-decoder-smaller c = let h = rw c.in-Some.is at c.in_ok-raw.ensures.some in whole_shorter c.loop-decoder.decoder c.in-Some.raw c.next_whole.new.decoder h
