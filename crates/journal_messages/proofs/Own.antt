-- What is read of a command's own body says what the command says, if the two have one name and one key.
use Rattle.std.proofs.Common.{◌≡◌, List, ℕ, ◌++◌, Option, Some, None, refl, sym, ap, ◌∙◌, drop}
use Rattle.std.proofs.lemmas.List.{append_cancel_left}
use Rattle.wire.specs.Format.{bytes, option, u64s}
use Rattle.journal_state.specs.Encoding.{get_eager_state, set_state, void_or_value}
use Rattle.journal_state.specs.declared.state.SetStateCommand.{SetStateCommand}
use Rattle.journal_state.specs.declared.state.GetEagerStateCommand.{GetEagerStateCommand}
use Rattle.journal_state.specs.declared.state.VoidOrValue.{VoidOrValue}
use Rattle.journal_state.specs.declared.state.VoidOrValue.TheVariants as stands
use Rattle.journal_errors.specs.declared.types.MessageType.TheVariants as type
use Rattle.journal_messages.specs.Message.{body}
use Rattle.journal_messages.specs.Reading.{message_in}
use Rattle.journal_messages.specs.declared.message.Message.TheVariants as message
use Rattle.journal_messages.proofs.Reading.{message_is}

set_spelled : (c : SetStateCommand) → set_state c ≡ bytes c.name ++ (bytes c.key ++ bytes c.value)
unfolding set_state
set_spelled c = refl

-- the bytes after their length
bytes_behind : (v : List ℕ) → drop 8 (bytes v) ≡ v
unfolding bytes u64s
bytes_behind v = refl

value_is : (a b : SetStateCommand) → a.name ≡ b.name → a.key ≡ b.key → set_state b ≡ set_state a → a.value ≡ b.value
value_is a b n k e =
    let e' : bytes b.name ++ (bytes b.key ++ bytes b.value) ≡ bytes b.name ++ (bytes b.key ++ bytes a.value) = sym (set_spelled b) ∙ e ∙ set_spelled a ∙ (λ i. bytes (n i) ++ (bytes (k i) ++ bytes a.value)) in
    let v : bytes b.value ≡ bytes a.value = append_cancel_left (bytes b.key) (bytes b.value) (bytes a.value) (append_cancel_left (bytes b.name) (bytes b.key ++ bytes b.value) (bytes b.key ++ bytes a.value) e') in
    sym (bytes_behind a.value) ∙ ap (drop 8) (sym v) ∙ bytes_behind b.value

-- a value that is set
pub value_said : (a b : SetStateCommand) → a.name ≡ b.name → a.key ≡ b.key → message_in type.SetStateCommand (body (message.SetState b)) ≡ Some (message.SetState a) → a.value ≡ b.value
value_said a b n k is = value_is a b n k (message_is type.SetStateCommand (set_state b) (message.SetState a) is).2

result_is : (a b : Option VoidOrValue) → option void_or_value a ≡ option void_or_value b → a ≡ b
unfolding option
result_is None None e = refl
result_is None (Some b) e = absurd (cc)
result_is (Some a) None e = absurd (cc)
result_is (Some stands.Void) (Some stands.Void) e = refl
result_is (Some stands.Void) (Some (stands.Value w)) e = absurd (let x = ap (drop 1) e in cc)
result_is (Some (stands.Value v)) (Some stands.Void) e = absurd (let x = ap (drop 1) e in cc)
result_is (Some (stands.Value v)) (Some (stands.Value w)) e = ap (λ z. Some (stands.Value z)) (sym (bytes_behind v) ∙ ap (drop 10) e ∙ bytes_behind w)

eager_spelled : (c : GetEagerStateCommand) → get_eager_state c ≡ bytes c.name ++ (bytes c.key ++ option void_or_value c.result)
unfolding get_eager_state
eager_spelled c = refl

same_result : (a b : GetEagerStateCommand) → a.name ≡ b.name → a.key ≡ b.key → get_eager_state a ≡ get_eager_state b → a.result ≡ b.result
same_result a b n k e =
    let e' : bytes b.name ++ (bytes b.key ++ option void_or_value a.result) ≡ bytes b.name ++ (bytes b.key ++ option void_or_value b.result) = sym (λ i. bytes (n i) ++ (bytes (k i) ++ option void_or_value a.result)) ∙ sym (eager_spelled a) ∙ e ∙ eager_spelled b in
    result_is a.result b.result (append_cancel_left (bytes b.key) (option void_or_value a.result) (option void_or_value b.result) (append_cancel_left (bytes b.name) (bytes b.key ++ option void_or_value a.result) (bytes b.key ++ option void_or_value b.result) e'))

-- the result of an eager read
pub result_said : (a b : GetEagerStateCommand) → a.name ≡ b.name → a.key ≡ b.key → message_in type.GetEagerStateCommand (body (message.GetEagerState b)) ≡ Some (message.GetEagerState a) → a.result ≡ b.result
result_said a b n k is = same_result a b n k (sym (message_is type.GetEagerStateCommand (get_eager_state b) (message.GetEagerState a) is).2)
