-- Why texts can't be copied, of some of them and of all.
use Rattle.std.proofs.Common.{◌≡◌, ◌⊎◌, ◌<◌, inl, inr, true, ℕ, None, zero, suc, List, [], ◌∷◌, ◌++◌, get_or, length, le_of_suc-le-suc, not-suc-le-zero}
use Rattle.std.specs.List.{flat_map}
use Rattle.std.specs.Str.{IsUtf8}
use Rattle.c_values.specs.declared.status.Status.{Status}
use Rattle.c_values.specs.declared.status.Status.TheVariants as status
use Rattle.c_calls.specs.declared.given.Pair.{Pair}
use Rattle.c_calls.specs.declared.reports.GivenCommand.{GivenCommand}
use Rattle.c_calls.specs.Given.{IsWhy, Misfits, CannotCopy, SomeIsNoText, lent_texts, texts_of_pair}
use Rattle.c_calls.specs.Reports.{NamesNoCommand, has_type, command_type_at}

pub no_memory : (texts : List (List ℕ)) → CannotCopy texts status.NoMemory
no_memory texts = record { why = tt }

pub no_text : (text : List ℕ) → ¬ IsUtf8 text → CannotCopy (text ∷ []) status.BadText
no_text text bad = record { why = inl bad }

-- what keeps texts from being copied keeps the call from being made
pub misfit : (texts : List (List ℕ)) (NamesNone : Type 0) (s : Status) → CannotCopy texts s → Misfits texts NamesNone s
misfit texts NamesNone status.NoMemory refuses = tt
misfit texts NamesNone status.BadText refuses = refuses.why
misfit texts NamesNone status.Done refuses = absurd refuses.why
misfit texts NamesNone status.NoSession refuses = absurd refuses.why
misfit texts NamesNone status.NoVm refuses = absurd refuses.why
misfit texts NamesNone status.NoRoom refuses = absurd refuses.why
misfit texts NamesNone status.Refused refuses = absurd refuses.why
misfit texts NamesNone status.BadTree refuses = absurd refuses.why
misfit texts NamesNone status.BadNumber refuses = absurd refuses.why
misfit texts NamesNone status.NoPart refuses = absurd refuses.why
misfit texts NamesNone status.BadOutput refuses = absurd refuses.why
misfit texts NamesNone status.NotANotification refuses = absurd refuses.why
misfit texts NamesNone status.NoSuchId refuses = absurd refuses.why
misfit texts NamesNone status.SecondCompletion refuses = absurd refuses.why
misfit texts NamesNone status.WrongKind refuses = absurd refuses.why
misfit texts NamesNone status.RunIsProposed refuses = absurd refuses.why
misfit texts NamesNone status.JournalFull refuses = absurd refuses.why
misfit texts NamesNone status.BadJournal refuses = absurd refuses.why
misfit texts NamesNone status.NotAFrame refuses = absurd refuses.why
misfit texts NamesNone status.BadLine refuses = absurd refuses.why
misfit texts NamesNone status.NoResult refuses = absurd refuses.why
misfit texts NamesNone status.NotASuspension refuses = absurd refuses.why
misfit texts NamesNone status.NoJournal refuses = absurd refuses.why
misfit texts NamesNone status.NoRow refuses = absurd refuses.why
misfit texts NamesNone status.NotFrames refuses = absurd refuses.why
misfit texts NamesNone status.NoFrame refuses = absurd refuses.why
misfit texts NamesNone status.Layered refuses = absurd refuses.why

some_first : (xs ys : List (List ℕ)) → SomeIsNoText xs → SomeIsNoText (xs ++ ys)
some_first [] ys none = absurd none
some_first (x ∷ xs) ys some = elim some [ inl bad ↦ inl bad | inr more ↦ inr (some_first xs ys more) ]

some_last : (xs ys : List (List ℕ)) → SomeIsNoText ys → SomeIsNoText (xs ++ ys)
some_last [] ys some = some
some_last (x ∷ xs) ys some = inr (some_last xs ys some)

why_of : (xs ys : List (List ℕ)) → (SomeIsNoText xs → SomeIsNoText ys) → (s : Status) → IsWhy xs s → IsWhy ys s
why_of xs ys more status.NoMemory why = tt
why_of xs ys more status.BadText why = more why
why_of xs ys more status.Done why = why
why_of xs ys more status.NoSession why = why
why_of xs ys more status.NoVm why = why
why_of xs ys more status.NoRoom why = why
why_of xs ys more status.Refused why = why
why_of xs ys more status.BadTree why = why
why_of xs ys more status.BadNumber why = why
why_of xs ys more status.NoPart why = why
why_of xs ys more status.BadOutput why = why
why_of xs ys more status.NotANotification why = why
why_of xs ys more status.NoSuchId why = why
why_of xs ys more status.SecondCompletion why = why
why_of xs ys more status.WrongKind why = why
why_of xs ys more status.RunIsProposed why = why
why_of xs ys more status.JournalFull why = why
why_of xs ys more status.BadJournal why = why
why_of xs ys more status.NotAFrame why = why
why_of xs ys more status.BadLine why = why
why_of xs ys more status.NoResult why = why
why_of xs ys more status.NotASuspension why = why
why_of xs ys more status.NoJournal why = why
why_of xs ys more status.NoRow why = why
why_of xs ys more status.NotFrames why = why
why_of xs ys more status.NoFrame why = why
why_of xs ys more status.Layered why = why

-- the first texts can't be copied
pub first_refused : (xs ys : List (List ℕ)) (s : Status) → CannotCopy xs s → CannotCopy (xs ++ ys) s
first_refused xs ys s refuses = record { why = why_of xs (xs ++ ys) (some_first xs ys) s refuses.why }

-- the last texts can't be copied
pub last_refused : (xs ys : List (List ℕ)) (s : Status) → CannotCopy ys s → CannotCopy (xs ++ ys) s
last_refused xs ys s refuses = record { why = why_of ys (xs ++ ys) (some_last xs ys) s refuses.why }

-- the first text can't be copied
pub front_refused : (text : List ℕ) (texts : List (List ℕ)) (s : Status) → CannotCopy (text ∷ []) s → CannotCopy (text ∷ texts) s
front_refused text texts s refuses = first_refused (text ∷ []) texts s refuses

-- the texts after it can't be copied
pub behind_refused : (text : List ℕ) (texts : List (List ℕ)) (s : Status) → CannotCopy texts s → CannotCopy (text ∷ texts) s
behind_refused text texts s refuses = last_refused (text ∷ []) texts s refuses

-- one of the pairs can't be copied
pub pair_refused : (pairs : List Pair) (k : ℕ) (d : Pair) (s : Status) → k < length pairs → CannotCopy (texts_of_pair (get_or pairs k d)) s → CannotCopy (flat_map texts_of_pair pairs) s
pair_refused [] k d s below refuses = absurd (not-suc-le-zero below)
pair_refused (pair ∷ pairs) zero d s below refuses = first_refused (texts_of_pair pair) (flat_map texts_of_pair pairs) s refuses
pair_refused (pair ∷ pairs) (suc k) d s below refuses =
    last_refused (texts_of_pair pair) (flat_map texts_of_pair pairs) s (pair_refused pairs k d s (le_of_suc-le-suc below) refuses)

-- what keeps a call from being made by some of its texts and numbers keeps it by all of them
misfit_of : (xs ys : List (List ℕ)) (A B : Type 0) → (SomeIsNoText xs → SomeIsNoText ys) → (A → B) → (s : Status) → Misfits xs A s → Misfits ys B s
misfit_of xs ys A B more names status.NoMemory why = tt
misfit_of xs ys A B more names status.BadText why = more why
misfit_of xs ys A B more names status.BadNumber why = names why
misfit_of xs ys A B more names status.Done why = absurd why
misfit_of xs ys A B more names status.NoSession why = absurd why
misfit_of xs ys A B more names status.NoVm why = absurd why
misfit_of xs ys A B more names status.NoRoom why = absurd why
misfit_of xs ys A B more names status.Refused why = absurd why
misfit_of xs ys A B more names status.BadTree why = absurd why
misfit_of xs ys A B more names status.NoPart why = absurd why
misfit_of xs ys A B more names status.BadOutput why = absurd why
misfit_of xs ys A B more names status.NotANotification why = absurd why
misfit_of xs ys A B more names status.NoSuchId why = absurd why
misfit_of xs ys A B more names status.SecondCompletion why = absurd why
misfit_of xs ys A B more names status.WrongKind why = absurd why
misfit_of xs ys A B more names status.RunIsProposed why = absurd why
misfit_of xs ys A B more names status.JournalFull why = absurd why
misfit_of xs ys A B more names status.BadJournal why = absurd why
misfit_of xs ys A B more names status.NotAFrame why = absurd why
misfit_of xs ys A B more names status.BadLine why = absurd why
misfit_of xs ys A B more names status.NoResult why = absurd why
misfit_of xs ys A B more names status.NotASuspension why = absurd why
misfit_of xs ys A B more names status.NoJournal why = absurd why
misfit_of xs ys A B more names status.NoRow why = absurd why
misfit_of xs ys A B more names status.NotFrames why = absurd why
misfit_of xs ys A B more names status.NoFrame why = absurd why
misfit_of xs ys A B more names status.Layered why = absurd why

pub misfit_first : (xs ys : List (List ℕ)) (A B : Type 0) (s : Status) → Misfits xs A s → Misfits (xs ++ ys) (A ⊎ B) s
misfit_first xs ys A B s why = misfit_of xs (xs ++ ys) A (A ⊎ B) (some_first xs ys) (λ a. inl a) s why

pub misfit_last : (xs ys : List (List ℕ)) (A B : Type 0) (s : Status) → Misfits ys B s → Misfits (xs ++ ys) (A ⊎ B) s
misfit_last xs ys A B s why = misfit_of ys (xs ++ ys) B (A ⊎ B) (some_last xs ys) (λ b. inr b) s why

-- no type of a command is named
pub misfit_type : (given : GivenCommand) (s : Status) → has_type given.kind ≡ true → Misfits (lent_texts given.name) (command_type_at given.ty ≡ None) s → Misfits (lent_texts given.name) (NamesNoCommand given) s
misfit_type given s kind why =
    misfit_of (lent_texts given.name) (lent_texts given.name) (command_type_at given.ty ≡ None) (NamesNoCommand given) (λ some. some) (λ ty. inr (kind, ty)) s why

pub misfit_more : (xs : List (List ℕ)) (A B : Type 0) (s : Status) → Misfits xs A s → Misfits xs (A ⊎ B) s
misfit_more xs A B s why = misfit_of xs xs A (A ⊎ B) (λ some. some) (λ a. inl a) s why
