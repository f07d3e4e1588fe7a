-- A slot for one more name.
use Rattle.std.proofs.Common.{◌≡◌, ℕ, cond, List, Some, sym, ap, ◌∙◌}
use Rattle.std.specs.Cmp.Lexicographic.{slice_cmp, texts_ties}
use Rattle.std.specs.Ordering.{nat_cmp}
use Rattle.std.specs.BTreeMap.{get, is_at}
use Rattle.await_arrivals.specs.declared.index.Index.{Index}
use Rattle.journal_values.specs.declared.notification.NotificationId.{NotificationId}
use Rattle.journal_values.specs.declared.notification.NotificationId.TheVariants.{CompletionId, SignalId, SignalName}
use Rattle.await_arrivals.specs.Ids.{same_id, slot_of}
use Rattle.await_arrivals.specs.Numbers.{slot_of_number}

pub named : (name key : List ℕ) (slot : ℕ) (old new : Index) → key ≡ name → new.completions ≡ old.completions → new.signals ≡ old.signals
    → ((q : List ℕ) → get (slice_cmp nat_cmp) new.names q ≡ cond (is_at (slice_cmp nat_cmp key) q) (Some slot) (get (slice_cmp nat_cmp) old.names q))
    → (other : NotificationId) → slot_of new other ≡ cond (same_id (SignalName name) other) (Some slot) (slot_of old other)
named name key slot old new k c s h (CompletionId i) = ap (λ m. slot_of_number m i) c
named name key slot old new k c s h (SignalId i) = ap (λ m. get nat_cmp m i) s
named name key slot old new k c s h (SignalName q) =
    let e : cond (is_at (slice_cmp nat_cmp key) q) (Some slot) (get (slice_cmp nat_cmp) old.names q) ≡ cond (is_at (slice_cmp nat_cmp name) q) (Some slot) (get (slice_cmp nat_cmp) old.names q) = ap (λ (t : List ℕ). cond (is_at (slice_cmp nat_cmp t) q) (Some slot) (get (slice_cmp nat_cmp) old.names q)) k in
    h q ∙ e ∙ ap (λ b. cond b (Some slot) (get (slice_cmp nat_cmp) old.names q)) (sym (texts_ties name q))
