-- Which types have a name.
use Rattle.std.proofs.Common.{◌≡◌, ◌≢◌, ◌<◌, ◌+◌, ℕ, List, [], ◌∷◌, Option, Some, None, if◌then◌else◌, nat_eq, inl, inr, ap, refl, sym, ◌∙◌, arith}
use Rattle.std.proofs.lemmas.Bool.{cases_lt}
use Rattle.std.specs.Cmp.Lexicographic.{pointwise}
use Rattle.std.specs.Prelude.{codes}
use Rattle.journal_protocol.specs.MessageType.{MessageType}
use Rattle.journal_protocol.specs.MessageType.TheVariants as type
use Rattle.journal_protocol.specs.Types.{type_at, type_number}
use Rattle.journal_protocol.proofs.Facts.{type_found}
use Rattle.frame_lines.specs.Names.{type_word}

-- each type has a number below 31
has_number : (ty : MessageType) → type_number ty < 31
has_number type.Start = omega arith
has_number type.Suspension = omega arith
has_number type.Error = omega arith
has_number type.End = omega arith
has_number type.ProposeRunCompletion = omega arith
has_number type.ProposeRunCompletionAck = omega arith
has_number type.AwaitingOn = omega arith
has_number type.GetStateEphemeralCommand = omega arith
has_number type.GetStateEphemeralNotification = omega arith
has_number type.InputCommand = omega arith
has_number type.GetEagerStateCommand = omega arith
has_number type.GetLazyStateCommand = omega arith
has_number type.GetEagerStateKeysCommand = omega arith
has_number type.GetLazyStateKeysCommand = omega arith
has_number type.SetStateCommand = omega arith
has_number type.ClearStateCommand = omega arith
has_number type.ClearAllStateCommand = omega arith
has_number type.SleepCommand = omega arith
has_number type.CallCommand = omega arith
has_number type.OneWayCallCommand = omega arith
has_number type.CompleteAwakeableCommand = omega arith
has_number type.SendSignalCommand = omega arith
has_number type.GetPromiseCommand = omega arith
has_number type.PeekPromiseCommand = omega arith
has_number type.CompletePromiseCommand = omega arith
has_number type.RunCommand = omega arith
has_number type.AttachInvocationCommand = omega arith
has_number type.GetInvocationOutputCommand = omega arith
has_number type.OutputCommand = omega arith
has_number type.Notification = omega arith

pub same_type : (o : Option MessageType) (a b : MessageType) → o ≡ Some a → o ≡ Some b → a ≡ b
same_type o a b e f = cc

-- one number more
pub none_more : (name : List ℕ) (below : ℕ) → ((n : ℕ) (ty : MessageType) → n < below → type_at n ≡ Some ty → name ≢ type_word ty)
    → ((ty : MessageType) → type_at below ≡ Some ty → name ≢ type_word ty) → (n : ℕ) (ty : MessageType) → n < below + 1 → type_at n ≡ Some ty → name ≢ type_word ty
none_more name below before here n ty less at = elim (cases_lt n below) [
  | inl lower ↦ before n ty lower at
  | inr not ↦ let last : n ≡ below = omega arith in here ty (rw last at at)
]

-- so one that isn't among those below 31 is none
pub unnamed : (name : List ℕ) (below : ℕ) → 30 < below → ((n : ℕ) (ty : MessageType) → n < below → type_at n ≡ Some ty → name ≢ type_word ty) → (ty : MessageType) → name ≢ type_word ty
unnamed name below h none ty named = let small = has_number ty in none (type_number ty) ty (omega (arith, small)) (type_found ty) named

-- ---- a word is the name of one type

abbrev all : List MessageType
all = type.Start ∷ type.Suspension ∷ type.Error ∷ type.End ∷ type.ProposeRunCompletion ∷ type.ProposeRunCompletionAck ∷ type.AwaitingOn ∷ type.GetStateEphemeralCommand ∷ type.GetStateEphemeralNotification ∷ type.InputCommand ∷ type.GetEagerStateCommand ∷ type.GetLazyStateCommand ∷ type.GetEagerStateKeysCommand ∷ type.GetLazyStateKeysCommand ∷ type.SetStateCommand ∷ type.ClearStateCommand ∷ type.ClearAllStateCommand ∷ type.SleepCommand ∷ type.CallCommand ∷ type.OneWayCallCommand ∷ type.CompleteAwakeableCommand ∷ type.SendSignalCommand ∷ type.GetPromiseCommand ∷ type.PeekPromiseCommand ∷ type.CompletePromiseCommand ∷ type.RunCommand ∷ type.AttachInvocationCommand ∷ type.GetInvocationOutputCommand ∷ type.OutputCommand ∷ type.Notification ∷ []

-- the type that a word names, among these
abbrev scan : List MessageType → List ℕ → Option MessageType
scan [] word = None
scan (ty ∷ others) word = if pointwise nat_eq word (type_word ty) then Some ty else scan others word

names : (ty : MessageType) → scan all (type_word ty) ≡ Some ty
unfolding type_word
names type.Start = refl
names type.Suspension = refl
names type.Error = refl
names type.End = refl
names type.ProposeRunCompletion = refl
names type.ProposeRunCompletionAck = refl
names type.AwaitingOn = refl
names type.GetStateEphemeralCommand = refl
names type.GetStateEphemeralNotification = refl
names type.InputCommand = refl
names type.GetEagerStateCommand = refl
names type.GetLazyStateCommand = refl
names type.GetEagerStateKeysCommand = refl
names type.GetLazyStateKeysCommand = refl
names type.SetStateCommand = refl
names type.ClearStateCommand = refl
names type.ClearAllStateCommand = refl
names type.SleepCommand = refl
names type.CallCommand = refl
names type.OneWayCallCommand = refl
names type.CompleteAwakeableCommand = refl
names type.SendSignalCommand = refl
names type.GetPromiseCommand = refl
names type.PeekPromiseCommand = refl
names type.CompletePromiseCommand = refl
names type.RunCommand = refl
names type.AttachInvocationCommand = refl
names type.GetInvocationOutputCommand = refl
names type.OutputCommand = refl
names type.Notification = refl

pub one_type : (a b : MessageType) → type_word a ≡ type_word b → a ≡ b
one_type a b e = let same : Some a ≡ Some b = sym (names a) ∙ ap (scan all) e ∙ names b in cc same

raw_is_none : scan all (codes "raw") ≡ None
unfolding type_word
raw_is_none = refl

rest_is_none : scan all (codes "rest") ≡ None
unfolding type_word
rest_is_none = refl

pub no_raw : (ty : MessageType) → type_word ty ≢ codes "raw"
no_raw ty is = let found : None ≡ Some ty = sym raw_is_none ∙ sym (ap (scan all) is) ∙ names ty in cc found

pub no_rest : (ty : MessageType) → type_word ty ≢ codes "rest"
no_rest ty is = let found : None ≡ Some ty = sym rest_is_none ∙ sym (ap (scan all) is) ∙ names ty in cc found
