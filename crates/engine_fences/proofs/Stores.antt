-- What is so of all that attempts write is so of the entry that a store adds.
use Rattle.std.proofs.Common.{◌≡◌, List, [], ◌∷◌, ◌++◌, map, ℕ, Option, Some, None, sym, ap, ◌∙◌, subst, append-nil}
use Rattle.std.specs.List.{AllByRecursion}
use Rattle.std.proofs.lemmas.List.{append_cancel_left}
use Rattle.journal_protocol.specs.Notification.{Notification}
use Rattle.journal_protocol.specs.Version.{Version}
use Rattle.journal_entries.specs.Entries.{note_in}
use Rattle.journal_entries.specs.declared.storing.Written.{Written}
use Rattle.journal_entries.specs.Storing.{stored_as, written_among}
use Rattle.vm_model.specs.Calls.{Meaning}
use Rattle.world_rounds.specs.declared.types.Event.TheVariants as event
use Rattle.world_rounds.specs.Course.{CourseView, HappensTo}
use Rattle.world_rounds.specs.Rounds.{Now}
use Rattle.world_rounds.proofs.Settled.{IsItem, are_items}

-- of each item, as the notification that its entry is, if it is one
module _ (P : Option Notification → Type 0) (so : (version : Version) (w : Written) → IsItem version w → P (note_in (stored_as w))) where
  one_so : (version : Version) (ws : List Written) (x : List ℕ) → AllByRecursion (IsItem version) ws → map stored_as ws ≡ x ∷ [] → P (note_in x)
  one_so version [] x all e = absurd (cc)
  one_so version (w ∷ ws) x all e =
      let is : stored_as w ≡ x = cc in
      subst (λ y. P (note_in y)) is (so version w all.0)

  pub store_so : {H : Type 0} (m : Meaning) (live : Option Now) (old new : CourseView H) (x : List ℕ) → HappensTo m (event.Store 1) live old new → new.journal ≡ old.journal ++ x ∷ [] → P (note_in x)
  store_so m None old new x same more =
      let none : [] ≡ x ∷ [] = append_cancel_left old.journal [] (x ∷ []) (append-nil old.journal ∙ sym (ap (λ (v : CourseView _). v.journal) same) ∙ more) in
      absurd (cc)
  store_so m (Some now) old new x (is, (next, (journal, waiting, unstored, stores, becomes, whole, proposed), seen)) more =
      one_so now.version (written_among stores.seen) x (are_items now.version stores.seen stores.readable)
      (append_cancel_left now.journal (map stored_as (written_among stores.seen)) (x ∷ [])
      (sym stores.stored ∙ sym (ap (λ (v : CourseView _). v.journal) seen ∙ ap (λ (n : Now). n.journal) becomes) ∙ more ∙ ap (λ j. j ++ x ∷ []) is))
