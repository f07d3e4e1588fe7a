use Rattle.await_tries.specs.Await.{outcomes}
use Rattle.await_tries.specs.Courses.{course_at}
use Rattle.await_tries.specs.Spells.{node_at}
use Rattle.await_tries.proofs.Courses.{node_follows, leaf_follows}
use Rattle.await_tries.proofs.Walking.{same_sum}
use Rattle.await_tries.proofs.following.node_course.Goals as goal

pub returns-in-Leaf : goal.returns-in-Leaf
returns-in-Leaf c = λ known t s.
    leaf_follows (outcomes c.args.delivery c.args.results.now) c.args.nodes.now c.args.kids.now c.args.i c.in-Leaf.handle t c.leaf_course.result c.in-Leaf.is s c.leaf_course.ensures

pub returns-in-Inner : goal.returns-in-Inner
returns-in-Inner c = λ known t s.
    let n = node_at c.args.nodes.now c.args.i in
    let e = rw (same_sum n.first n.count) at c.course_of.ensures in
    node_follows (outcomes c.args.delivery c.args.results.now) c.args.nodes.now c.args.kids.now (course_at c.args.courses.now) c.args.i known c.in-Inner.kind t c.course_of.result c.in-Inner.is s e.outcome e.done e.fired
