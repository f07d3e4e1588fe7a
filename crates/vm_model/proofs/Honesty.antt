-- What honest rounds keep: a journal that one run made.
use Rattle.std.proofs.Common.{◌≡◌, List, [], ◌∷◌, ◌++◌, take, drop, refl, sym, ap, ◌∙◌, subst, append_assoc, inr, ⊎_elim, ◌⊎◌}
use Rattle.std.proofs.lemmas.Option.{same_Some}
use Rattle.std.proofs.lemmas.List.{take-append-drop}
use Rattle.journal_protocol.specs.RawMessage.{RawMessage}
use Rattle.journal_protocol.specs.Notification.{Notification}
use Rattle.vm_state.specs.declared.state_map.StateMap.{StateMap}
use Rattle.vm_state.specs.Entries.{IsInOrder}
use Rattle.vm_types.specs.declared.steps.Answer.{Answer}
use Rattle.vm_model.specs.Calls.{Setup, Meaning}
use Rattle.journal_entries.specs.Journal.{Entry, commands_in, notifications_in, input_read_from, messages_in}
use Rattle.vm_model.specs.Moves.{Point, changed_by, later, start}
use Rattle.vm_model.specs.Histories.{Handed, Honest, Knowledge, Made, OneBegins, Told, Undisturbed, Whole, after_head}
use Rattle.vm_model.specs.HonestRounds.{Attempted, HonestRound, HonestRounds, IsHanded, IsOneRun, IsToldOn}
use Rattle.vm_model.proofs.Attempts.{continues}
use Rattle.vm_model.proofs.Compared.{told_compare}
use Rattle.vm_model.proofs.Eager.{said_made}
use Rattle.vm_model.proofs.Lasting.{Lasting, commands-append, honest_lasts, notifications-append, whole_lasts}
use Rattle.vm_model.proofs.Runs.{made_after, made_front, made_later}

pub head_same : (a b : RawMessage) (xs ys : List RawMessage) → a ∷ xs ≡ b ∷ ys → a ≡ b
head_same a b xs ys e = cc

pub tail_same : (a b : RawMessage) (xs ys : List RawMessage) → a ∷ xs ≡ b ∷ ys → xs ≡ ys
tail_same a b xs ys e = cc

-- an honest round leaves a journal that one run made, where what was handed out lasts
round_lasts : (s : Setup) (m : Meaning) (K : Knowledge) (before : List Entry) (a : Attempted) (after : List Entry) → (h : IsOneRun s m K before) → Lasting K a.given h.at.said → IsToldOn s m before a → HonestRound before a.course after → IsOneRun s m K after
round_lasts s m K before a after h lasts t r =
    let known = notifications_in before in
    let delivered = notifications_in a.course in
    let written = commands_in a.course in
    let heads : t.first ∷ t.rest ≡ h.first ∷ h.rest = sym t.begins ∙ h.begins in
    let first : t.first ≡ h.first = head_same t.first h.first t.rest h.rest heads in
    let rest : t.rest ≡ h.rest = tail_same t.first h.first t.rest h.rest heads in
    let input : t.input ≡ h.input = same_Some t.input h.input (sym t.reads ∙ ap input_read_from first ∙ h.reads) in
    let told : Made s m (Handed a.given) t.moves (start s h.input (known ++ delivered) h.rest) written t.at = subst (λ p. Made s m (Handed a.given) t.moves p written t.at) (λ i. start s (input i) (known ++ delivered) (rest i)) t.made in
    let run = made_later s m K delivered h.moves (start s h.input known []) h.rest h.at h.made in
    let on = continues s m K (Handed a.given) h.moves (start s h.input (known ++ delivered) []) h.rest (later delivered h.at) lasts t.moves written t.at refl run told in
    let cut : h.rest ++ written ≡ (h.rest ++ take r.stored written) ++ drop r.stored written = ap (λ l. h.rest ++ l) (sym (take-append-drop r.stored written)) ∙ sym (append_assoc h.rest (take r.stored written) (drop r.stored written)) in
    let front = made_front s m K on.0 (start s h.input (known ++ delivered) []) (h.rest ++ take r.stored written) (drop r.stored written) on.1 (subst (λ l. Made s m K on.0 (start s h.input (known ++ delivered) []) l on.1) cut on.2) in
    let notes : (known ++ delivered) ++ r.undelivered ≡ notifications_in after = append_assoc known delivered r.undelivered ∙ ap (λ l. known ++ l) (sym r.notifications) ∙ sym (notifications-append before r.added) ∙ ap notifications_in (sym r.extends) in
    record {
      first = h.first;
      input = h.input;
      reads = h.reads;
      rest = h.rest ++ take r.stored written;
      begins = ap commands_in r.extends ∙ commands-append before r.added ∙ (λ i. h.begins i ++ r.commands i);
      moves = front.0;
      at = later r.undelivered front.1;
      made = subst (λ l. Made s m K front.0 (start s h.input l []) (h.rest ++ take r.stored written) (later r.undelivered front.1)) notes (made_later s m K r.undelivered front.0 (start s h.input (known ++ delivered) []) (h.rest ++ take r.stored written) front.1 front.2);
    }

-- what the journal's commands say changes the base as the run of the journal does
run_said : (s : Setup) (m : Meaning) (K : Knowledge) (journal : List Entry) (h : IsOneRun s m K journal) (base : StateMap) → changed_by (messages_in (after_head (commands_in journal))) base ≡ changed_by h.at.said base
run_said s m K journal h base = ap (λ l. changed_by (messages_in (after_head l)) base) h.begins ∙ sym (said_made s m K h.moves (start s h.input (notifications_in journal) []) h.rest h.at refl h.made base)

pub honest_round : (s : Setup) (m : Meaning) (base : StateMap) (before : List Entry) (a : Attempted) (after : List Entry) → IsInOrder base.entries → IsOneRun s m (Honest base) before → IsHanded (Honest base) before a → IsToldOn s m before a → HonestRound before a.course after → IsOneRun s m (Honest base) after
honest_round s m base before a after ordered h handed t r =
    round_lasts s m (Honest base) before a after h (honest_lasts base a.given h.at.said (messages_in (after_head (commands_in before))) ordered (run_said s m (Honest base) before h base) handed) t r

pub whole_round : (s : Setup) (m : Meaning) (base : StateMap) (before : List Entry) (a : Attempted) (after : List Entry) → IsInOrder base.entries → IsOneRun s m (Whole base) before → IsHanded (Whole base) before a → IsToldOn s m before a → HonestRound before a.course after → IsOneRun s m (Whole base) after
whole_round s m base before a after ordered h handed t r =
    round_lasts s m (Whole base) before a after h (whole_lasts base a.given h.at.said (messages_in (after_head (commands_in before))) ordered (run_said s m (Whole base) before h base) handed) t r

pub honest_rounds : (s : Setup) (m : Meaning) (base : StateMap) (before : List Entry) (rounds : List Attempted) (after : List Entry) → IsInOrder base.entries → IsOneRun s m (Honest base) before → HonestRounds s m (Honest base) before rounds after → IsOneRun s m (Honest base) after
honest_rounds s m base before [] after ordered h d = subst (IsOneRun s m (Honest base)) (sym d) h
honest_rounds s m base before (a ∷ more) after ordered h (mid, handed, told, round, others) = honest_rounds s m base mid more after ordered (honest_round s m base before a mid ordered h handed told round) others

pub whole_rounds : (s : Setup) (m : Meaning) (base : StateMap) (before : List Entry) (rounds : List Attempted) (after : List Entry) → IsInOrder base.entries → IsOneRun s m (Whole base) before → HonestRounds s m (Whole base) before rounds after → IsOneRun s m (Whole base) after
whole_rounds s m base before [] after ordered h d = subst (IsOneRun s m (Whole base)) (sym d) h
whole_rounds s m base before (a ∷ more) after ordered h (mid, handed, told, round, others) = whole_rounds s m base mid more after ordered (whole_round s m base before a mid ordered h handed told round) others

-- the commands after the input are the first of a run that nothing disturbs
pub run_is_undisturbed : (s : Setup) (m : Meaning) (base : StateMap) (journal : List Entry) (h : IsOneRun s m (Whole base) journal) → Undisturbed s m base h.input (notifications_in journal) h.rest
run_is_undisturbed s m base journal h = (h.moves, h.at, h.made)

-- ---- a point that is reached on an earlier journal, and a later attempt

one_begins : (p a : List Answer) (q : List Answer) → (a ≡ []) ⊎ (a ≡ q) → OneBegins p q → OneBegins p a
one_begins p a q answered h = ⊎_elim (λ (e : a ≡ []). inr (p, ap (λ l. l ++ p) (sym e))) (λ (e : a ≡ q). subst (OneBegins p) (sym e) h) answered

pub attempts_agree : (s : Setup) (m : Meaning) (journal more : List Entry) (a : Attempted) (t : IsToldOn s m (journal ++ more) a) (rest : List RawMessage) → commands_in journal ≡ t.first ∷ rest → (p : Point) → Told s m t.input (notifications_in journal) rest p → OneBegins p.answers a.answers
attempts_agree s m journal more a t rest begins p told =
    let delivered = notifications_in a.course in
    let written = commands_in a.course in
    let arrivals = notifications_in (journal ++ more) ++ delivered in
    let all : t.first ∷ t.rest ≡ t.first ∷ (rest ++ commands_in more) = sym t.begins ∙ commands-append journal more ∙ ap (λ l. l ++ commands_in more) begins in
    let is : t.rest ≡ rest ++ commands_in more = tail_same t.first t.first t.rest (rest ++ commands_in more) all in
    let came : arrivals ≡ notifications_in journal ++ (notifications_in more ++ delivered) = ap (λ l. l ++ delivered) (notifications-append journal more) ∙ append_assoc (notifications_in journal) (notifications_in more) delivered in
    let there : Told s m t.input arrivals (t.rest ++ written) t.at = (t.moves, made_after s m (Handed a.given) t.moves (start s t.input arrivals t.rest) written t.at t.made) in
    let also : Told s m t.input (notifications_in journal ++ (notifications_in more ++ delivered)) (rest ++ (commands_in more ++ written)) t.at =
    subst (λ (x : List Notification × List RawMessage). Told s m t.input x.0 x.1 t.at) (λ i. (came i, (ap (λ l. l ++ written) is ∙ append_assoc rest (commands_in more) written) i)) there in
    one_begins p.answers a.answers t.at.answers t.answered (told_compare s m t.input (notifications_in journal) (notifications_in more ++ delivered) rest (commands_in more ++ written) p t.at told also)
