-- Where the commands of an honest round stand among what was delivered.
use Rattle.std.proofs.Common.{◌≡◌, ◌+◌, ℕ, zero, suc, List, [], ◌∷◌, ◌++◌, length, take, Option, Some, None, refl, sym, ap, ◌∙◌, subst, arith, length-append}
use Rattle.std.proofs.lemmas.Option.{same_Some}
use Rattle.journal_protocol.specs.RawMessage.{RawMessage}
use Rattle.journal_protocol.specs.Notification.{Notification}
use Rattle.journal_entries.specs.Journal.{Entry, Recorded, Notified, commands_in, notifications_in}
use Rattle.vm_model.specs.Histories.{IsPrefix}
use Rattle.vm_model.specs.HonestRounds.{HonestRound, ahead_of}
use Rattle.vm_model.proofs.Lasting.{commands-append}

-- the notifications in front of a command are those in front of the entries' cut
pub ahead_at : (xs : List Entry) (c : RawMessage) (ys : List Entry) → ahead_of (length (commands_in xs)) (xs ++ Recorded c ∷ ys) ≡ notifications_in xs
ahead_at [] c ys = refl
ahead_at (Notified n ∷ xs) c ys = ap (λ l. n ∷ l) (ahead_at xs c ys)
ahead_at (Recorded x ∷ xs) c ys = ahead_at xs c ys

after_front : {A : Type 0} (xs ys zs : List A) → xs ++ ys ≡ xs ++ zs → ys ≡ zs
after_front [] ys zs e = e
after_front (x ∷ xs) ys zs e = after_front xs ys zs (let t : xs ++ ys ≡ xs ++ zs = cc in t)

-- the item with this index
item_at : {A : Type 0} → ℕ → List A → Option A
item_at n [] = None
item_at zero (x ∷ xs) = Some x
item_at (suc n) (x ∷ xs) = item_at n xs

item_behind : {A : Type 0} (xs : List A) (y : A) (ys : List A) → item_at (length xs) (xs ++ y ∷ ys) ≡ Some y
unfolding item_at
item_behind [] y ys = refl
item_behind (x ∷ xs) y ys = item_behind xs y ys

-- a beginning has the same items, as far as it goes
item_taken : {A : Type 0} (n k : ℕ) (xs : List A) (y : A) → item_at n (take k xs) ≡ Some y → item_at n xs ≡ Some y
unfolding item_at
item_taken n zero xs y e = absurd (cc)
item_taken n (suc k) [] y e = absurd (cc)
item_taken zero (suc k) (x ∷ xs) y e = e
item_taken (suc n) (suc k) (x ∷ xs) y e = item_taken n k xs y e

pub stand_behind : (before course after : List Entry) → HonestRound before course after → (ahead behind earlier later : List Entry) (command written : RawMessage) → after ≡ before ++ (ahead ++ Recorded command ∷ behind) → course ≡ earlier ++ Recorded written ∷ later → length (commands_in ahead) ≡ length (commands_in earlier)
    → (command ≡ written) × IsPrefix (notifications_in earlier) (notifications_in ahead)
stand_behind before course after r ahead behind earlier later command written is was same =
    let added : r.added ≡ ahead ++ Recorded command ∷ behind = after_front before r.added (ahead ++ Recorded command ∷ behind) (sym r.extends ∙ is) in
    let n = length (commands_in ahead) in
    let stored : commands_in r.added ≡ commands_in ahead ++ command ∷ commands_in behind = ap commands_in added ∙ commands-append ahead (Recorded command ∷ behind) in
    let made : commands_in course ≡ commands_in earlier ++ written ∷ commands_in later = ap commands_in was ∙ commands-append earlier (Recorded written ∷ later) in
    let here : item_at n (commands_in course) ≡ Some command = item_taken n r.stored (commands_in course) command (ap (item_at n) (sym r.commands ∙ stored) ∙ item_behind (commands_in ahead) command (commands_in behind)) in
    let there : item_at n (commands_in course) ≡ Some written = (λ i. item_at (same i) (made i)) ∙ item_behind (commands_in earlier) written (commands_in later) in
    let many : length (commands_in r.added) ≡ n + length (command ∷ commands_in behind) = ap length stored ∙ length-append (commands_in ahead) (command ∷ commands_in behind) in
    let order = r.order n (omega (arith, many)) in (
      same_Some command written (sym here ∙ there),
      subst (λ (x : List Notification × List Notification). IsPrefix x.0 x.1) (λ i. (((λ j. ahead_of (same j) (was j)) ∙ ahead_at earlier written later) i, (ap (ahead_of n) added ∙ ahead_at ahead command behind) i)) order,
    )
