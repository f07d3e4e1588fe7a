-- One id and another.
use Rattle.std.proofs.Common.{◌≡◌, Bool, true, false, refl, ap}
use Rattle.std.specs.Cmp.Lexicographic.{bytes_decides}
use Rattle.std.proofs.lemmas.Bool.{eqb-true}
use Rattle.journal_values.specs.declared.notification.NotificationId.{NotificationId}
use Rattle.journal_values.specs.declared.notification.NotificationId.TheVariants.{CompletionId, SignalId, SignalName}
use Rattle.await_arrivals.specs.Ids.{same_id}

pub same_is : (a b : NotificationId) → same_id a b ≡ true → a ≡ b
same_is (CompletionId a) (CompletionId b) e = ap CompletionId (eqb-true a b e)
same_is (CompletionId a) (SignalId b) e = cc
same_is (CompletionId a) (SignalName b) e = cc
same_is (SignalId a) (CompletionId b) e = cc
same_is (SignalId a) (SignalId b) e = ap SignalId (eqb-true a b e)
same_is (SignalId a) (SignalName b) e = cc
same_is (SignalName a) (CompletionId b) e = cc
same_is (SignalName a) (SignalId b) e = cc
same_is (SignalName a) (SignalName b) e = ap SignalName ((bytes_decides a b).0 e)

-- a test, whichever it is
pub data Test (b : Bool) : Type 0 where
  yes : b ≡ true → Test b
  no : b ≡ false → Test b

pub test : (b : Bool) → Test b
test true = yes refl
test false = no refl
