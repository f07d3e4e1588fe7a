use Rattle.std.proofs.Common.{◌≡◌, ◌+◌, true, false, take, sym, ap, ◌∙◌, arith}
use Rattle.std.specs.Option.{is_some}
use Rattle.std.proofs.lemmas.List.{length_push}
use Rattle.await_arrivals.specs.Entries.{with_results}
use Rattle.await_arrivals.proofs.Drops.{kept_more, kept_same, some_if}
use Rattle.await_arrivals.proofs.log.track.Goals as goal
use Rattle.await_arrivals.proofs.log.track.Goals.{then-is_some+in_ok-add_place, else-is_some}

pub loop-entry-preserved : goal.loop-entry-preserved
loop-entry-preserved c =
    let i = c.loop-entry.invariant in
    let entries = c.args.entries.now in
    let n = c.loop-entry.entry-index in
    let e = c.entry-item.result in
    elim c.if-is_some.branch [
      | then-is_some+in_ok-add_place w ↦
          let some : is_some e.result ≡ true = sym c.is_some.ensures ∙ w.if-is_some.true in
          let more = kept_more entries n e c.loop-entry-test.true c.entry-item.is some in
          rw (w.index-is, w.slots-is, w.place-is, more) (record {
            tracked = w.in_ok-add_place.ensures.ok (with_results (take n entries)) i.place (some_if e some) i.tracked;
            place = length_push (with_results (take n entries)) e ∙ ap (λ k. k + 1) i.place;
            few = omega (arith, i.few);
          })
      | else-is_some w ↦
          let none : is_some e.result ≡ false = sym c.is_some.ensures ∙ w.if-is_some.false in
          let same = kept_same entries n e c.loop-entry-test.true c.entry-item.is none in
          rw (w.index-is, w.slots-is, w.place-is, same) (record {
            tracked = i.tracked;
            place = i.place;
            few = omega (arith, i.few);
          })
    ]
