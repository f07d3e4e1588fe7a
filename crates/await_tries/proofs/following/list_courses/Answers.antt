use Rattle.std.proofs.Common.{◌<◌, length, ◌-◌, ◌∙◌, arith}
use Rattle.std.proofs.lemmas.List.{length-set}
use Rattle.await_tries.specs.Await.{outcomes}
use Rattle.await_tries.proofs.Courses.{known_before}
use Rattle.await_tries.proofs.following.list_courses.Goals as goal

pub loop-i-preserved : goal.loop-i-preserved
loop-i-preserved c =
    let h = c.loop-i.invariant in
    let i = c.loop-i.i - 1 in
    let course = c.node_course-course.result in
    let within : i < length c.loop-i.courses.items = omega arith in
    let here = c.node_course-course.ensures (λ m u l s. rw c.deref.ensures.value (h.known m u (omega arith) s)) in
    record {
      within = omega arith;
      each = length-set c.loop-i.courses.items i course ∙ h.each;
      known = known_before (outcomes c.args.delivery c.args.results.now) c.args.nodes.now c.args.kids.now c.loop-i.courses.items i course within (λ m t b s. h.known m t (omega arith) s) here;
    }
