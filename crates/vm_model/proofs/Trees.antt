-- An await of a tree in a machine is the model's: the least prefix of the arrivals at a point.
use Rattle.std.proofs.Common.{◌≡◌, ℕ, ◌+◌, ◌≤◌, Bool, true, false, cond, List, [], ◌∷◌, ◌++◌, drop, length, take, refl, sym, ap, ◌∙◌, subst, arith, append_assoc, append-nil, length-append}
use Rattle.await_arrivals.specs.Results.{results_of}
use Rattle.await_trees.specs.Outcomes.{awake}
use Rattle.await_trees.specs.Tree.{Tree}
use Rattle.await_tries.specs.Await.{LeastAwake, NeverAwake, outcomes}
use Rattle.await_tries.specs.Later.{EachOnce, Stays}
use Rattle.await_tries.specs.Leaves.{leaf_outcome, result_outcome}
use Rattle.await_tries.specs.Used.{used}
use Rattle.await_arrivals.proofs.Awaited.{results-append}
use Rattle.await_tries.proofs.LaterArrivals.{first_is_now, once_stays, plainly_least}
use Rattle.journal_protocol.specs.Notification.{Notification}
use Rattle.journal_protocol.specs.NotificationId.{NotificationId}
use Rattle.journal_protocol.specs.NotificationId.TheVariants.{CompletionId}
use Rattle.journal_protocol.specs.SignalDelivery.TheVariants.{Queued}
use Rattle.vm_parts.specs.Arrived.{Arrived}
use Rattle.vm_parts.specs.Deliveries.{id_at, left_among, present_result_for, same_id, without_all}
use Rattle.vm_model.specs.Calls.{Derived, Setup, Usage, leaf_in, ready_by_usage, ready_in, tree_wakes}
use Rattle.vm_model.specs.Calls.Usage.{Used, Read, Taken}
use Rattle.vm_model.specs.Deliveries.{HasNoTwo, arrived_at, deliveries}
use Rattle.vm_model.specs.Histories.{IsLeast, arrivals_used}
use Rattle.vm_model.specs.Moves.{Point, arrival_used}
use Rattle.vm_model.proofs.Results.{all_gone, all_kept, left_kept, none_read, results_behind, same_is}

-- ---- no completion id has two results

fewer_all : (id i : NotificationId) (ns : List Notification) → length (results_of id (without_all i ns)) ≤ length (results_of id ns)
fewer_all id i ns = by_test (same_id i id) refl
  where
    by_test : (b : Bool) → same_id i id ≡ b → length (results_of id (without_all i ns)) ≤ length (results_of id ns)
    by_test true t = rw (same_is i id t, all_gone id ns) (omega arith)
    by_test false t = rw (all_kept id i ns t) (omega arith)

-- a take leaves no more results of a completion than there were
fewer_left : (i : ℕ) (id : NotificationId) (ns : List Notification) → length (results_of (CompletionId i) (left_among Queued id ns)) ≤ length (results_of (CompletionId i) ns)
fewer_left i id ns = by_test (same_id id (CompletionId i)) refl
  where
    by_test : (b : Bool) → same_id id (CompletionId i) ≡ b → length (results_of (CompletionId i) (left_among Queued id ns)) ≤ length (results_of (CompletionId i) ns)
    by_test true t = rw (same_is id (CompletionId i) t, all_gone (CompletionId i) ns) (omega arith)
    by_test false t = rw (left_kept Queued (CompletionId i) id ns t) (omega arith)

-- what is ready of a completion is among what came for it
ready_came : (us : List Usage) (i : ℕ) → length (results_of (CompletionId i) (ready_by_usage Queued us).delivered) + length (results_of (CompletionId i) (ready_by_usage Queued us).eager) ≤ length (deliveries (CompletionId i) us)
ready_came [] i = omega arith
ready_came (Used n ∷ us) i = rw (results_behind (CompletionId i) (ready_by_usage Queued us).delivered n) (by_test (same_id n.id (CompletionId i)) (ready_came us i))
  where
    by_test : (b : Bool) → length (results_of (CompletionId i) (ready_by_usage Queued us).delivered) + length (results_of (CompletionId i) (ready_by_usage Queued us).eager) ≤ length (deliveries (CompletionId i) us)
        → length (cond b (results_of (CompletionId i) (ready_by_usage Queued us).delivered ++ n.result ∷ []) (results_of (CompletionId i) (ready_by_usage Queued us).delivered)) + length (results_of (CompletionId i) (ready_by_usage Queued us).eager)
        ≤ length (cond b (deliveries (CompletionId i) us ++ n.result ∷ []) (deliveries (CompletionId i) us))
    by_test true ih = rw (length-append (results_of (CompletionId i) (ready_by_usage Queued us).delivered) (n.result ∷ []), length-append (deliveries (CompletionId i) us) (n.result ∷ [])) (omega (arith, ih))
    by_test false ih = ih
ready_came (Read j result ∷ us) i = rw (results_behind (CompletionId i) (ready_by_usage Queued us).eager (record { id = CompletionId j; result = result })) (by_test (same_id (CompletionId j) (CompletionId i)) (ready_came us i) (fewer_all (CompletionId i) (CompletionId j) (ready_by_usage Queued us).delivered))
  where
    by_test : (b : Bool) → length (results_of (CompletionId i) (ready_by_usage Queued us).delivered) + length (results_of (CompletionId i) (ready_by_usage Queued us).eager) ≤ length (deliveries (CompletionId i) us)
        → length (results_of (CompletionId i) (without_all (CompletionId j) (ready_by_usage Queued us).delivered)) ≤ length (results_of (CompletionId i) (ready_by_usage Queued us).delivered)
        → length (results_of (CompletionId i) (without_all (CompletionId j) (ready_by_usage Queued us).delivered)) + length (cond b (results_of (CompletionId i) (ready_by_usage Queued us).eager ++ result ∷ []) (results_of (CompletionId i) (ready_by_usage Queued us).eager))
        ≤ length (cond b (deliveries (CompletionId i) us ++ result ∷ []) (deliveries (CompletionId i) us))
    by_test true ih fewer = rw (length-append (results_of (CompletionId i) (ready_by_usage Queued us).eager) (result ∷ []), length-append (deliveries (CompletionId i) us) (result ∷ [])) (omega (arith, ih, fewer))
    by_test false ih fewer = omega (arith, ih, fewer)
ready_came (Taken id ∷ us) i = omega (arith, ready_came us i, fewer_left i id (ready_by_usage Queued us).delivered, fewer_left i id (ready_by_usage Queued us).eager)

-- the results at a point come once each
pub come_once : (s : Setup) (p : Point) → s.options.signal_delivery ≡ Queued → HasNoTwo p → EachOnce s.options.signal_delivery (arrived_at s p)
come_once s p queued two = record {
  queued = queued;
  once = λ i. rw (queued, results-append) (once i);
  completions = λ id listed. rw queued (none_read id listed p.derived.usage);
}
  where
    once : (i : ℕ) → length (results_of (CompletionId i) (ready_by_usage Queued p.derived.usage).delivered ++ results_of (CompletionId i) p.queue) + length (results_of (CompletionId i) (ready_by_usage Queued p.derived.usage).eager) ≤ 1
    once i = rw (length-append (results_of (CompletionId i) (ready_by_usage Queued p.derived.usage).delivered) (results_of (CompletionId i) p.queue)) (omega (arith, ready_came p.derived.usage i, two i))

-- ---- arrivals are used

pub ready_more : (s : Setup) (ns : List Notification) (d : Derived) → ready_in s (arrivals_used ns d) ≡ record (ready_in s d) { delivered = (ready_in s d).delivered ++ ns }
ready_more s [] d = λ i. record (ready_in s d) { delivered = sym (append-nil (ready_in s d).delivered) i }
ready_more s (n ∷ ns) d = ready_more s ns (arrival_used n d) ∙ (λ i. record (ready_in s d) { delivered = append_assoc (ready_in s d).delivered (n ∷ []) ns i })

pub handles_more : (ns : List Notification) (d : Derived) → (arrivals_used ns d).handles ≡ d.handles
handles_more [] d = refl
handles_more (n ∷ ns) d = handles_more ns (arrival_used n d)

pub counters_more : (ns : List Notification) (d : Derived) → (arrivals_used ns d).counters ≡ d.counters
counters_more [] d = refl
counters_more (n ∷ ns) d = counters_more ns (arrival_used n d)

-- a machine that has used n arrivals finds what the point finds that has used as many
pub used_at : (s : Setup) (p : Point) (n : ℕ) → used (arrived_at s p) n ≡ arrived_at s (record p { derived = arrivals_used (take n p.queue) p.derived; queue = drop n p.queue })
used_at s p n = λ i. record { queued = drop n p.queue; ready = sym (ready_more s (take n p.queue) p.derived) i; handles = sym (handles_more (take n p.queue) p.derived) i }

pub all_used : (ns : List Notification) → drop (length ns) ns ≡ []
all_used [] = refl
all_used (n ∷ ns) = all_used ns

-- a leaf has the same outcome in the model
leaf_more : (s : Setup) (p : Point) (n : ℕ) → leaf_outcome s.options.signal_delivery (used (arrived_at s p) n) ≡ leaf_in s (arrivals_used (take n p.queue) p.derived)
leaf_more s p n = λ i h. result_outcome (present_result_for s.options.signal_delivery (id_at h (sym (handles_more (take n p.queue) p.derived) i)) (sym (ready_more s (take n p.queue) p.derived) i))

module _ (s : Setup) (t : Tree) (p : Point) (queued : s.options.signal_delivery ≡ Queued) (two : HasNoTwo p) where
  stays : Stays s.options.signal_delivery (arrived_at s p)
  stays = once_stays s.options.signal_delivery (arrived_at s p) (come_once s p queued two)

  pub tree_least : (n : ℕ) → LeastAwake s.options.signal_delivery (arrived_at s p) t n → IsLeast (tree_wakes s t) p.derived p.queue n
  tree_least n h =
      let plain = plainly_least s.options.signal_delivery (arrived_at s p) stays t n h in
      record {
        there = h.known;
        holds = sym (ap (λ at. awake at t) (leaf_more s p n)) ∙ plain.wakes;
        least = λ i below. sym (ap (λ at. awake at t) (leaf_more s p i)) ∙ plain.least i below;
      }

  abbrev arrived : Arrived
  arrived = arrived_at s p

  stays_so : Stays s.options.signal_delivery (record arrived { queued = p.queue ++ [] })
  stays_so = subst (λ q. Stays s.options.signal_delivery (record arrived { queued = q })) (sym (append-nil p.queue)) stays

  pub tree_never : NeverAwake s.options.signal_delivery (arrived_at s p) t → (n : ℕ) → n ≤ length p.queue → tree_wakes s t (arrivals_used (take n p.queue) p.derived) ≡ false
  tree_never never n there =
      sym (ap (λ at. awake at t) (leaf_more s p n))
      ∙ sym (ap (λ at. awake at t) (λ i h. first_is_now s.options.signal_delivery arrived [] stays_so n h there i))
      ∙ never n there

  -- once all arrivals are used, the leaves' outcomes are those at the point
  pub left_at : outcomes s.options.signal_delivery (arrived_at s p) (length p.queue) ≡ leaf_in s (arrivals_used (take (length p.queue) p.queue) p.derived)
  left_at = (λ i h. first_is_now s.options.signal_delivery arrived [] stays_so (length p.queue) h (omega arith) i) ∙ leaf_more s p (length p.queue)
