use Rattle.std.proofs.Common.{◌≡◌, ◌-◌, suc, take, rules, sym, ap, ◌∙◌, arith, None}
use Rattle.std.specs.Prelude.{nat_lt}
use Rattle.std.proofs.lemmas.List.Sorted.{IsPartitionPoint-from_clause}
use Rattle.await_arrivals.specs.Results.{newest}
use Rattle.await_arrivals.proofs.Presents.{under_split, newest_take, partitioned}
use Rattle.await_arrivals.proofs.queue.newest_under.Goals as goal

pub returns-then-count-eq0 : goal.returns-then-count-eq0
returns-then-count-eq0 c =
    let ps = c.args.places.now in
    let s = c.args.seen in
    let at = IsPartitionPoint-from_clause (λ y. nat_lt y s) ps c.partition_point-count.result c.partition_point-count.ensures.partitioned (partitioned s ps c.requires) (λ a r f k. search rules) in
    let none : c.partition_point-count.result ≡ 0 = c.if-count-eq0.true in
    let split = under_split s ps c.partition_point-count.result c.partition_point-count.ensures.bound (λ k b. at.0 k 0 (omega arith) b) (λ k b l. at.1 k 0 b l) in
    sym (ap newest (rw none at split))

pub returns-else-count-eq0 : goal.returns-else-count-eq0
returns-else-count-eq0 c =
    let ps = c.args.places.now in
    let s = c.args.seen in
    let n = c.partition_point-count.result in
    let at = IsPartitionPoint-from_clause (λ y. nat_lt y s) ps n c.partition_point-count.ensures.partitioned (partitioned s ps c.requires) (λ a r f k. search rules) in
    let split = under_split s ps n c.partition_point-count.ensures.bound (λ k b. at.0 k 0 (omega arith) b) (λ k b l. at.1 k 0 b l) in
    let bound = c.partition_point-count.ensures.bound in
    let one : n ≡ suc (n - 1) = omega arith in
    sym (ap newest (split ∙ ap (λ z. take z ps) one) ∙ newest_take None ps (n - 1) (omega arith))
