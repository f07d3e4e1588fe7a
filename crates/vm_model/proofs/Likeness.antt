-- Two handlers whose calls replay can't tell apart on a journal: what it is of the one it is of the other.
use Rattle.std.proofs.Common.{◌≡◌, ℕ, zero, suc, List, [], ◌∷◌, ◌++◌, Option, Some, None, refl, sym, ap, ◌∙◌, subst, inl, inr}
use Rattle.std.specs.Prelude.{Result, Ok, Err}
use Rattle.std.proofs.lemmas.Option.{same_Some}
use Rattle.journal_protocol.specs.InputCommand.{InputCommand}
use Rattle.journal_protocol.specs.Message.{Message}
use Rattle.journal_protocol.specs.NamedFault.{NamedFault}
use Rattle.journal_protocol.specs.RawMessage.{RawMessage}
use Rattle.journal_protocol.specs.Notification.{Notification}
use Rattle.journal_protocol.specs.NotificationResult.{NotificationResult}
use Rattle.vm_state.specs.declared.state_map.StateMap.{StateMap}
use Rattle.vm_types.specs.declared.steps.Answer.{Answer}
use Rattle.vm_model.specs.Calls.{Setup, Meaning, Derived, Demand, Move, call_of}
use Rattle.vm_model.specs.Calls.Move.{Answers, Needs, Awaits, Ends, Refuses}
use Rattle.journal_entries.specs.Journal.{Entry, commands_in, input_read_from, notifications_in}
use Rattle.vm_model.specs.Moves.{Point, after, and_then, changed_by, command_used, found, move_at, moved, next, said_of, start, uses_arrival, uses_command}
use Rattle.vm_model.specs.Alike.{Alike, AlikeHandlers, AlikeOn, FoundAlike, LeaveAlike, LeaveAlikeOn, leaves_of, saying}
use Rattle.vm_model.specs.Finished.{HasFinished}
use Rattle.vm_model.specs.Histories.{History, OneBegins, Told}
use Rattle.vm_model.specs.HonestRounds.{Attempted, IsToldOn}
use Rattle.vm_model.specs.SoundHistories.{SoundHistory}
use Rattle.vm_model.proofs.Honesty.{attempts_agree}
use Rattle.vm_model.proofs.Runs.{and_then_some, none_some}
use Rattle.vm_model.proofs.States.{changed_by-append}

-- ---- one move

-- what is said once this call is made
abbrev pub said_on : Move → List Message → List Message
said_on (Answers gives d) said = said
said_on (Needs e gives d) said = said ++ said_of e ∷ []
said_on Awaits said = said
said_on Ends said = said
said_on (Refuses name) said = said

abbrev said_in : List Message → Option Point → Option Point
said_in said None = None
said_in said (Some p) = Some (saying said p)

held : {x y : Point} → Some x ≡ Some y → x ≡ y
held {x} {y} h = same_Some x y h

used_alike : (said : List Message) (o o' : Result (Option NotificationResult) NamedFault) (one other : Demand) (gives : List Answer) (d : Derived) (left : List RawMessage) (p q : Point) → o ≡ o' → command_used o one gives d left p ≡ Some q
    → command_used o' other gives d left (saying said p) ≡ Some (saying (said ++ said_of other ∷ []) q)
used_alike said (Err name) o' one other gives d left p q e h = none_some h
used_alike said (Ok result) o' one other gives d left p q e h =
    subst (λ (o : Result (Option NotificationResult) NamedFault). command_used o other gives d left (saying said p) ≡ Some (saying (said ++ said_of other ∷ []) q)) e (ap (said_in (said ++ said_of other ∷ [])) h)

uses_alike : (said : List Message) (one other : Demand) (gives : List Answer) (d : Derived) (left : List RawMessage) (p q : Point) → FoundAlike one other → uses_command one gives d left p ≡ Some q
    → uses_command other gives d left (saying said p) ≡ Some (saying (said ++ said_of other ∷ []) q)
uses_alike said one other gives d [] p q same h = none_some h
uses_alike said one other gives d (c ∷ left) p q same h = used_alike said (found one c) (found other c) one other gives d left p q (same c) h

arrival_alike : (said : List Message) (queue : List Notification) (p q : Point) → uses_arrival queue p ≡ Some q → uses_arrival queue (saying said p) ≡ Some (saying said q)
arrival_alike said [] p q h = none_some h
arrival_alike said (n ∷ ns) p q h = ap (said_in said) h

pub moved_same : (said : List Message) (mv : Move) (p q : Point) → moved mv p ≡ Some q → moved mv (saying said p) ≡ Some (saying (said_on mv said) q)
moved_same said (Answers gives d) p q h = ap (said_in said) h
moved_same said (Needs e gives d) p q h = uses_alike said e e gives d p.left p q (λ raw. refl) h
moved_same said Awaits p q h = arrival_alike said p.queue p q h
moved_same said Ends p q h = none_some h
moved_same said (Refuses name) p q h = none_some h

pub moved_alike : (said : List Message) (a b : Move) (p q : Point) → Alike a b → moved a p ≡ Some q → moved b (saying said p) ≡ Some (saying (said_on b said) q)
moved_alike said a b p q (inl e) h = subst (λ (mv : Move). moved mv (saying said p) ≡ Some (saying (said_on mv said) q)) e (moved_same said a p q h)
moved_alike said a b p q (inr (one, other, gives, d, is, also, same)) h =
    subst (λ (mv : Move). moved mv (saying said p) ≡ Some (saying (said_on mv said) q)) (sym also) (uses_alike said one other gives d p.left p q same (subst (λ (mv : Move). moved mv p ≡ Some q) is h))

pub alike_back : (a b : Move) → Alike a b → Alike b a
alike_back a b (inl e) = inl (sym e)
alike_back a b (inr (one, other, gives, d, is, also, same)) = inr (other, one, gives, d, also, is, λ raw. sym (same raw))

-- what two equal moves need is found alike, and they are answered alike
found_of : Move → RawMessage → Result (Option NotificationResult) NamedFault
found_of (Needs e gives d) raw = found e raw
found_of (Answers gives d) raw = Ok None
found_of Awaits raw = Ok None
found_of Ends raw = Ok None
found_of (Refuses name) raw = Ok None

gives_of : Move → List Answer
gives_of (Needs e gives d) = gives
gives_of (Answers gives d) = []
gives_of Awaits = []
gives_of Ends = []
gives_of (Refuses name) = []

behind_of : Derived → Move → Derived
behind_of none (Needs e gives d) = d
behind_of none (Answers gives d) = none
behind_of none Awaits = none
behind_of none Ends = none
behind_of none (Refuses name) = none

pub alike_along : (a b c : Move) → Alike a b → Alike b c → Alike a c
unfolding found_of gives_of behind_of
alike_along a b c (inl e) h = subst (λ (z : Move). Alike z c) (sym e) h
alike_along a b c h (inl e) = subst (λ (z : Move). Alike a z) e h
alike_along a b c (inr (one, other, gives, d, is, also, same)) (inr (next, last, then_gives, e, are, ends, on)) =
    let met : Needs other gives d ≡ Needs next then_gives e = sym also ∙ are in
    let g : gives ≡ then_gives = ap gives_of met in
    let b : d ≡ e = ap (behind_of d) met in
    inr (one, last, gives, d, is, ends ∙ (λ i. Needs last (sym g i) (sym b i)), λ raw. same raw ∙ ap (λ mv. found_of mv raw) met ∙ on raw)

pub handlers_back : (s : Setup) (m other : Meaning) → AlikeHandlers s m other → AlikeHandlers s other m
handlers_back s m other h answers d = (alike_back (call_of s (m answers) d) (call_of s (other answers) d) (h answers d).0, λ state. sym ((h answers d).1 state))

pub handlers_along : (s : Setup) (m other last : Meaning) → AlikeHandlers s m other → AlikeHandlers s other last → AlikeHandlers s m last
handlers_along s m other last h k answers d = (alike_along (call_of s (m answers) d) (call_of s (other answers) d) (call_of s (last answers) d) (h answers d).0 (k answers d).0, λ state. (h answers d).1 state ∙ (k answers d).1 state)

-- ---- what was said

used_says : (o : Result (Option NotificationResult) NamedFault) (e : Demand) (gives : List Answer) (d : Derived) (left : List RawMessage) (p q : Point) → command_used o e gives d left p ≡ Some q → q.said ≡ p.said ++ said_of e ∷ []
used_says (Err name) e gives d left p q h = none_some h
used_says (Ok result) e gives d left p q h = sym (ap (λ (z : Point). z.said) (held h))

uses_says : (e : Demand) (gives : List Answer) (d : Derived) (left : List RawMessage) (p q : Point) → uses_command e gives d left p ≡ Some q → q.said ≡ p.said ++ said_of e ∷ []
uses_says e gives d [] p q h = none_some h
uses_says e gives d (c ∷ left) p q h = used_says (found e c) e gives d left p q h

arrival_says : (queue : List Notification) (p q : Point) → uses_arrival queue p ≡ Some q → q.said ≡ p.said
arrival_says [] p q h = none_some h
arrival_says (n ∷ ns) p q h = sym (ap (λ (z : Point). z.said) (held h))

pub moved_says : (mv : Move) (p q : Point) → moved mv p ≡ Some q → q.said ≡ said_on mv p.said
moved_says (Answers gives d) p q h = sym (ap (λ (z : Point). z.said) (held h))
moved_says (Needs e gives d) p q h = uses_says e gives d p.left p q h
moved_says Awaits p q h = arrival_says p.queue p q h
moved_says Ends p q h = none_some h
moved_says (Refuses name) p q h = none_some h

left_on : (mv : Move) (said : List Message) (g : StateMap) → changed_by (said_on mv said) g ≡ leaves_of mv (changed_by said g)
left_on (Answers gives d) said g = refl
left_on (Needs e gives d) said g = changed_by-append said (said_of e ∷ []) g
left_on Awaits said g = refl
left_on Ends said g = refl
left_on (Refuses name) said g = refl

-- the commands leave the same of each state
abbrev pub Same : List Message → List Message → Type 0
Same said also = (g : StateMap) → changed_by said g ≡ changed_by also g

pub same_on : (a b : Move) (said also : List Message) → LeaveAlike a b → Same said also → Same (said_on a said) (said_on b also)
same_on a b said also leave same g = left_on a said g ∙ ap (leaves_of a) (same g) ∙ leave (changed_by also g) ∙ sym (left_on b also g)

-- ---- runs

-- this holds of the calls at each point that the run of the first leads to from here
abbrev CallsFrom : (Move → Move → Type 0) → Setup → Meaning → Meaning → Point → Type 0
CallsFrom Are s m other p = (k : ℕ) (r : Point) → after s m k p ≡ Some r → Are (move_at s m r) (move_at s other r)

calls_on : (Are : Move → Move → Type 0) (s : Setup) (m other : Meaning) (p r : Point) → next s m p ≡ Some r → CallsFrom Are s m other p → CallsFrom Are s m other r
calls_on Are s m other p r is calls k x run = calls (suc k) x (ap (λ o. and_then o (after s m k)) is ∙ run)

-- the other's run reaches the same point, except for what was said
after_alike : (s : Setup) (m other : Meaning) (n : ℕ) (p q : Point) (said : List Message) → CallsFrom Alike s m other p → after s m n p ≡ Some q
    → (more : List Message) × (after s other n (saying said p) ≡ Some (saying more q)) × (CallsFrom LeaveAlike s m other p → Same p.said said → Same q.said more)
after_alike s m other zero p q said alike h = (said, ap (said_in said) h, λ leave same g. ap (λ (z : Point). changed_by z.said g) (sym (held h)) ∙ same g)
after_alike s m other (suc n) p q said alike h =
    let x = and_then_some (next s m p) (after s m n) q h in
    let r = x.0 in
    let a = move_at s m p in
    let b = move_at s other p in
    let on : next s other (saying said p) ≡ Some (saying (said_on b said) r) = moved_alike said a b p r (alike 0 p refl) x.1 in
    let y = after_alike s m other n r q (said_on b said) (calls_on Alike s m other p r x.1 alike) x.2 in (
      y.0,
      ap (λ o. and_then o (after s other n)) on ∙ y.1,
      λ leave same. y.2 (calls_on LeaveAlike s m other p r x.1 leave) (λ g. ap (λ l. changed_by l g) (moved_says a p r x.1) ∙ same_on a b p.said said (leave 0 p refl) same g),
    )

-- and back
after_alike_back : (s : Setup) (m other : Meaning) (n : ℕ) (p q : Point) (said : List Message) → CallsFrom Alike s m other p → after s other n (saying said p) ≡ Some q → (more : List Message) × (after s m n p ≡ Some (saying more q))
after_alike_back s m other zero p q said alike h = (p.said, ap (said_in p.said) h)
after_alike_back s m other (suc n) p q said alike h =
    let x = and_then_some (next s other (saying said p)) (after s other n) q h in
    let r = x.0 in
    let a = move_at s m p in
    let b = move_at s other p in
    let back = said_on a p.said in
    let is : next s m p ≡ Some (saying back r) = moved_alike p.said b a (saying said p) r (alike_back a b (alike 0 p refl)) x.1 in
    let y = after_alike_back s m other n (saying back r) q r.said (calls_on Alike s m other p (saying back r) is alike) x.2 in (
      y.0,
      ap (λ o. and_then o (after s m n)) is ∙ y.1,
    )

-- ---- journals

calls_from : (Are : Move → Move → Type 0) (s : Setup) (m other : Meaning) (journal : List Entry) (first : RawMessage) (input : InputCommand) (rest : List RawMessage) → commands_in journal ≡ first ∷ rest → input_read_from first ≡ Some input
    → ((first : RawMessage) (input : InputCommand) (rest : List RawMessage) (p : Point) → commands_in journal ≡ first ∷ rest → input_read_from first ≡ Some input → Told s m input (notifications_in journal) rest p → Are (move_at s m p) (move_at s other p))
    → CallsFrom Are s m other (start s input (notifications_in journal) rest)
calls_from Are s m other journal first input rest begins reads calls k r run = calls first input rest r begins reads (k, run)

pub alike_on_back : (s : Setup) (m other : Meaning) (journal : List Entry) → AlikeOn s m other journal → AlikeOn s other m journal
alike_on_back s m other journal alike first input rest p begins reads told =
    let y = after_alike_back s m other told.0 (start s input (notifications_in journal) rest) p [] (calls_from Alike s m other journal first input rest begins reads alike) told.1 in
    alike_back (move_at s m p) (move_at s other p) (alike first input rest (saying y.0 p) begins reads (told.0, y.1))

told_alike_here : (s : Setup) (m other : Meaning) (journal : List Entry) (first : RawMessage) (input : InputCommand) (rest : List RawMessage) (p : Point) → AlikeOn s m other journal → commands_in journal ≡ first ∷ rest → input_read_from first ≡ Some input → Told s m input (notifications_in journal) rest p
    → (said : List Message) × Told s other input (notifications_in journal) rest (saying said p) × (LeaveAlikeOn s m other journal → Same p.said said)
told_alike_here s m other journal first input rest p alike begins reads told =
    let y = after_alike s m other told.0 (start s input (notifications_in journal) rest) p [] (calls_from Alike s m other journal first input rest begins reads alike) told.1 in
    (y.0, (told.0, y.1), λ leave. y.2 (calls_from LeaveAlike s m other journal first input rest begins reads leave) (λ g. refl))

pub told_alike : (s : Setup) (m other : Meaning) (journal : List Entry) (first : RawMessage) (input : InputCommand) (rest : List RawMessage) (p : Point) → AlikeOn s m other journal → commands_in journal ≡ first ∷ rest → input_read_from first ≡ Some input → Told s m input (notifications_in journal) rest p
    → (said : List Message) × Told s other input (notifications_in journal) rest (saying said p)
told_alike s m other journal first input rest p alike begins reads told =
    let y = told_alike_here s m other journal first input rest p alike begins reads told in (y.0, y.1)

pub history_alike : (s : Setup) (m other : Meaning) (base : StateMap) (journal : List Entry) → AlikeOn s m other journal → History s m base journal → History s other base journal
history_alike s m other base journal alike h =
    let y = told_alike_here s m other journal h.first h.input h.rest h.at alike h.begins h.reads h.told in
    record {
      first = h.first;
      input = h.input;
      reads = h.reads;
      rest = h.rest;
      begins = h.begins;
      at = saying y.0 h.at;
      told = y.1;
      uses_all = h.uses_all;
      eager = h.eager;
    }

pub sound_alike : (s : Setup) (m other : Meaning) (base : StateMap) (journal : List Entry) → AlikeOn s m other journal → LeaveAlikeOn s m other journal → SoundHistory s m base journal → SoundHistory s other base journal
unfolding history_alike
sound_alike s m other base journal alike leave h =
    let g = h.history in
    let y = told_alike_here s m other journal g.first g.input g.rest g.at alike g.begins g.reads g.told in
    record { history = history_alike s m other base journal alike g; leaves = h.leaves ∙ y.2 leave base }

ends_alike : (a b : Move) → a ≡ Ends → Alike a b → b ≡ Ends
ends_alike a b e (inl same) = sym same ∙ e
ends_alike a b e (inr (one, other, gives, d, is, also, same)) = absurd (let z : Needs one gives d ≡ Ends = sym is ∙ e in cc)

-- where the one has ended the other has
pub finished_alike : (s : Setup) (m other : Meaning) (journal : List Entry) → AlikeOn s m other journal → HasFinished s m journal → HasFinished s other journal
finished_alike s m other journal alike h =
    let y = told_alike s m other journal h.first h.input h.rest h.at alike h.begins h.reads h.told in
    record {
      first = h.first;
      input = h.input;
      reads = h.reads;
      rest = h.rest;
      begins = h.begins;
      at = saying y.0 h.at;
      told = y.1;
      uses_all = h.uses_all;
      ends = ends_alike (move_at s m h.at) (move_at s other h.at) h.ends (alike h.first h.input h.rest h.at h.begins h.reads h.told);
    }

pub agree_alike : (s : Setup) (m other : Meaning) (journal more : List Entry) (a : Attempted) (t : IsToldOn s other (journal ++ more) a) (rest : List RawMessage) → AlikeOn s m other journal → commands_in journal ≡ t.first ∷ rest → (p : Point)
    → Told s m t.input (notifications_in journal) rest p → OneBegins p.answers a.answers
agree_alike s m other journal more a t rest alike begins p told =
    let y = told_alike s m other journal t.first t.input rest p alike begins t.reads told in
    attempts_agree s other journal more a t rest begins (saying y.0 p) y.1

pub alike_everywhere : (s : Setup) (m other : Meaning) (journal : List Entry) → AlikeHandlers s m other → AlikeOn s m other journal × LeaveAlikeOn s m other journal
alike_everywhere s m other journal alike = (λ first input rest p begins reads told. (alike p.answers p.derived).0, λ first input rest p begins reads told. (alike p.answers p.derived).1)
