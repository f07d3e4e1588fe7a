use Rattle.std.proofs.Common.{◌≡◌, ◌≢◌, ◌-◌, ◌<◌, ◌≤◌, suc, length, take, get_or, Some, refl, sym, ap, arith}
use Rattle.std.specs.BinaryHeap.{heap_items}
use Rattle.std.specs.Option.{is_some}
use Rattle.std.proofs.lemmas.List.{length-set}
use Rattle.await_tries.specs.Courses.{course_at, end_of, ends_at}
use Rattle.await_tries.proofs.Listing.{listed_pop, listed_moved, listed_stays, none_go}
use Rattle.await_tries.proofs.Sweeping.{goes, all_stay, under_set}
use Rattle.await_tries.proofs.pruning.sweep.Goals.{else-place-count-via-then-place-count+else-ends_by, else-place-count-via-else-place-count}
use Rattle.await_tries.proofs.pruning.sweep.Goals as goal

pub loop-by-preserved-in_ok-push : goal.loop-by-preserved-in_ok-push
loop-by-preserved-in_ok-push c =
    let xs = c.loop-by.children in
    let m = c.loop-by.count - 1 in
    let x = c.in-Some.field-0 in
    let h = c.loop-by.invariant in
    let v = ends_at c.args.courses.now in
    let count : c.loop-by.count ≡ suc m = omega arith in
    let here : x.0.1 ≤ m = omega arith in
    let inside : m < length xs = omega (arith, h.within) in
    let ended = c.ends_by.ensures.yes c.if-ends_by.true in
    record {
      within = omega (arith, length-set xs x.0.1 (get_or xs m 0), inside);
      numbers = under_set xs x.0.1 (get_or xs m 0) (length c.args.courses.now) h.numbers (h.numbers m inside);
      listed = listed_moved (λ it. it.0) (λ child. end_of (course_at c.args.courses.now child)) (heap_items c.loop-by.due) (heap_items c.pop.new.self) xs m x.0.0 x.0.1 x refl here inside
          c.in-Some.ensures.permutation (rw count at h.listed) (heap_items c.push.new.self) c.in-Some-end.by _ refl (sym c.in-Some-end.ensures) c.in_ok-push.ensures.permutation;
      so_far = λ rs s. h.so_far rs (rw count (goes v xs x.0.1 m here inside (ap is_some ended) rs s));
    }

pub loop-by-preserved-in_default-end : goal.loop-by-preserved-in_default-end
loop-by-preserved-in_default-end c =
    let xs = c.loop-by.children in
    let m = c.loop-by.count - 1 in
    let x = c.in-Some.field-0 in
    let h = c.loop-by.invariant in
    let v = ends_at c.args.courses.now in
    let count : c.loop-by.count ≡ suc m = omega arith in
    let here : x.0.1 ≤ m = omega arith in
    let inside : m < length xs = omega (arith, h.within) in
    let ended = c.ends_by.ensures.yes c.if-ends_by.true in
    record {
      within = omega (arith, length-set xs x.0.1 (get_or xs m 0), inside);
      numbers = under_set xs x.0.1 (get_or xs m 0) (length c.args.courses.now) h.numbers (h.numbers m inside);
      listed = listed_stays (λ it. it.0) (λ child. end_of (course_at c.args.courses.now child)) (heap_items c.loop-by.due) (heap_items c.pop.new.self) xs m x.0.0 x.0.1 x refl here inside
          c.in-Some.ensures.permutation (rw count at h.listed) (sym c.in_default-end.ensures);
      so_far = λ rs s. h.so_far rs (rw count (goes v xs x.0.1 m here inside (ap is_some ended) rs s));
    }

pub loop-by-preserved : goal.loop-by-preserved
loop-by-preserved c =
    let h = c.loop-by.invariant in
    let x = c.in-Some.field-0 in
    record {
      within = h.within;
      numbers = h.numbers;
      listed = listed_pop (λ it. it.0) (λ child. end_of (course_at c.args.courses.now child)) (heap_items c.loop-by.due) (heap_items c.pop.new.self) c.loop-by.children c.loop-by.count x.0.0 x.0.1 x refl
          c.in-Some.ensures.permutation other h.listed;
      so_far = h.so_far;
    }
  where
    other : c.in-Some.field-0.0.1 < c.loop-by.count → end_of (course_at c.args.courses.now (get_or c.loop-by.children c.in-Some.field-0.0.1 0)) ≢ Some c.in-Some.field-0.0.0
    other l = elim c.else-place-count.branch [
      | else-place-count-via-then-place-count+else-ends_by w ↦ w.ends_by.ensures.no w.if-ends_by.false
      | else-place-count-via-else-place-count w ↦ λ e. absurd (omega (arith, w.if-place-count.false))
    ]

pub returns : goal.returns
returns c =
    let h = c.loop-by.invariant in
    let xs = c.loop-by.children in
    let n = c.loop-by.count in
    let none : length (heap_items c.loop-by.due) ≡ 0 = omega (arith, c.in_default.ensures.none, c.loop-by.due.data.ok) in
    let stay = none_go (λ it. it.0) (λ child. end_of (course_at c.args.courses.now child)) (heap_items c.loop-by.due) xs n none h.within h.listed in
    (h.within, h.so_far (take n xs) (all_stay (ends_at c.args.courses.now) (take n xs) stay), h.numbers)
