-- What a run makes changes the state as its calls do, and its eager reads are as the state is.
use Rattle.std.proofs.Common.{◌≡◌, ℕ, zero, suc, false, List, [], ◌∷◌, ◌++◌, Option, Some, None, refl, sym, ap, ◌∙◌, subst}
use Rattle.journal_protocol.specs.Message.{Message}
use Rattle.journal_protocol.specs.RawMessage.{RawMessage}
use Rattle.journal_protocol.specs.Version.{Version}
use Rattle.journal_protocol.specs.Message.TheVariants as message
use Rattle.journal_protocol.specs.GetEagerStateCommand.{GetEagerStateCommand}
use Rattle.journal_protocol.specs.GetEagerStateKeysCommand.{GetEagerStateKeysCommand}
use Rattle.journal_protocol.specs.Frames.{IsWhole, type_of}
use Rattle.journal_protocol.specs.Bodies.{message_in}
use Rattle.vm_state.specs.declared.state_map.Known.TheVariants.{Unknown}
use Rattle.vm_state.specs.States.{value_known, known_keys}
use Rattle.vm_asks.specs.declared.state_read.StateRead.TheVariants as reads
use Rattle.vm_asks.specs.StateReads.{own_form}
use Rattle.vm_state.specs.declared.state_map.StateMap.{StateMap}
use Rattle.vm_types.specs.declared.steps.Answer.{Answer}
use Rattle.vm_types.specs.declared.steps.Step.{Step}
use Rattle.vm_types.specs.declared.steps.Step.TheVariants as step
use Rattle.vm_asks.specs.declared.asks.Ask.{Ask}
use Rattle.vm_asks.specs.declared.asks.Ask.TheVariants as ask
use Rattle.vm_asks.specs.declared.command.Command.{Command}
use Rattle.vm_asks.specs.Asks.{EachIs, ask_of}
use Rattle.vm_asks.proofs.Numbering.{same_type}
use Rattle.vm_model.specs.Calls.{Setup, Meaning, Demand, Move}
use Rattle.vm_model.specs.Calls.Move.{Answers, Needs, Awaits, Ends, Refuses}
use Rattle.vm_model.specs.Histories.{EagerFrom, EagerReadMatches, Honest, IsTrueOf, Knowledge, Made, recorded_value}
use Rattle.journal_entries.specs.Journal.{messages_in, read_before}
use Rattle.vm_model.specs.Moves.{Point, changed_by, longer, move_at, next, said_of, supplied, supply}
use Rattle.vm_model.proofs.Demands.{OfAsk, OfMove, asked_is}
use Rattle.vm_model.proofs.Runs.{next_spent}
use Rattle.vm_model.proofs.Said.{Says, next_says}
use Rattle.vm_model.proofs.States.{changed_by-append}
use Rattle.vm_model.proofs.Stored.{IsPlain, is_eager, own_changes, own_fits, keys_brought, value_brought}

pub messages-append : (a b : List RawMessage) → messages_in (a ++ b) ≡ messages_in a ++ messages_in b
messages-append [] b = refl
messages-append (c ∷ a) b = before (message_in c.ty c.body) (messages-append a b)
  where
    before : (o : Option Message) → messages_in (a ++ b) ≡ messages_in a ++ messages_in b → read_before o (messages_in (a ++ b)) ≡ read_before o (messages_in a) ++ messages_in b
    before None e = e
    before (Some m) e = ap (λ l. m ∷ l) e

-- ---- the state

-- what a move makes changes the state as its call does
pub move_changes : (state : StateMap) (mv : Move) (p q : Point) → Says state mv p q → (g : StateMap) → changed_by q.said g ≡ changed_by (messages_in (supply state mv [])) (changed_by p.said g)
move_changes state (Needs e gives d) p q says g =
    ap (λ l. changed_by l g) says.2 ∙ changed_by-append p.said (said_of e ∷ []) g ∙ sym (own_changes state e says.0 says.1 (changed_by p.said g))
move_changes state (Answers gives d) p q says g = ap (λ l. changed_by l g) says
move_changes state Awaits p q says g = ap (λ l. changed_by l g) says
move_changes state Ends p q says g = ap (λ l. changed_by l g) says
move_changes state (Refuses name) p q says g = ap (λ l. changed_by l g) says

pub next_changes : (s : Setup) (m : Meaning) (state : StateMap) (p q : Point) → p.left ≡ [] → next s m (longer (supplied s m state p) p) ≡ Some q → (g : StateMap) → changed_by q.said g ≡ changed_by (messages_in (supplied s m state p)) (changed_by p.said g)
next_changes s m state p q spent moves g = rw spent (move_changes state (move_at s m p) p q (next_says s m state p q spent moves) g)

-- what a run said changes the state as what it made
pub said_made : (s : Setup) (m : Meaning) (K : Knowledge) (n : ℕ) (p : Point) (made : List RawMessage) (q : Point) → p.left ≡ [] → Made s m K n p made q → (g : StateMap) → changed_by q.said g ≡ changed_by (messages_in made) (changed_by p.said g)
said_made s m K zero p made q spent h g = ap (λ z. changed_by z.said g) (sym h.1) ∙ ap (λ l. changed_by (messages_in l) (changed_by p.said g)) (sym h.0)
said_made s m K (suc n) p made q spent (state, r, rest, knows, is, moves, further) g =
    let S = supplied s m state p in
    said_made s m K n r rest q (next_spent s m state p r spent moves) further g
    ∙ ap (changed_by (messages_in rest)) (next_changes s m state p r spent moves g)
    ∙ sym (changed_by-append (messages_in S) (messages_in rest) (changed_by p.said g))
    ∙ ap (λ l. changed_by l (changed_by p.said g)) (sym (messages-append S rest) ∙ ap messages_in (sym is))

-- ---- no call but a state read asks for an eager read

-- the demand of a move is no eager read of its own
abbrev Plain : Demand → List Answer → Type 0
Plain e gives = IsPlain e

abbrev IsLazy : Command → Type 0
IsLazy c = is_eager (type_of c.message) ≡ false

abbrev PlainAsk : Ask → Type 0
PlainAsk (ask.Command c) = IsLazy c
PlainAsk (ask.Commands kind first second) = EachIs IsLazy first (second ∷ [])
PlainAsk a = Unit {0}

steps_plain : (version : Version) (s : Step) → PlainAsk (ask_of version s)
steps_plain version (step.StateGet key name options) = tt
steps_plain version (step.StateGetKeys name) = tt
steps_plain version (step.CallWithDeadline target input time name options) = (refl, refl)
steps_plain version step.Awakeable = tt
steps_plain version (step.Signal name) = tt
steps_plain version (step.Await future) = tt
steps_plain version (step.Take handle) = tt
steps_plain version (step.Completed handle) = tt
steps_plain version step.End = tt
steps_plain version s = refl

plain_ask : (s : Setup) (a : Ask) → PlainAsk a → OfAsk s Plain a
plain_ask s (ask.Command c) h = λ d a. ap is_eager (same_type d.counters.completion c.message) ∙ h
plain_ask s (ask.Commands kind first second) h = (
  λ d gives. ap is_eager (same_type d.counters.completion first.message) ∙ h.0,
  λ d gives. ap is_eager (same_type d.counters.completion second.message) ∙ h.1,
)
plain_ask s a h = tt

pub plain_move : (s : Setup) (m : Meaning) (p : Point) → OfMove Plain (move_at s m p)
plain_move s m p = asked_is s Plain (λ r id gives. tt) (λ id d. refl) (ask_of s.version (m p.answers)) p.derived (plain_ask s (ask_of s.version (m p.answers)) (steps_plain s.version (m p.answers)))

-- ---- eager reads

-- what a move makes is as the state is there
pub move_fits : (now state : StateMap) (mv : Move) (p q : Point) (rest : List RawMessage) → Says state mv p q → IsTrueOf now state → OfMove Plain mv → EagerFrom (changed_by (messages_in (supply state mv [])) now) rest → EagerFrom now (supply state mv [] ++ rest)
move_fits now state (Needs e gives d) p q rest says knows plain more = (own_fits now state e says.0 knows plain says.1, more)
move_fits now state (Answers gives d) p q rest says knows plain more = more
move_fits now state Awaits p q rest says knows plain more = more
move_fits now state Ends p q rest says knows plain more = more
move_fits now state (Refuses name) p q rest says knows plain more = more

-- what a run makes is as the state is there, where what is known is so
pub eager_made : (s : Setup) (m : Meaning) (base : StateMap) (n : ℕ) (p : Point) (made : List RawMessage) (q : Point) → p.left ≡ [] → Made s m (Honest base) n p made q → EagerFrom (changed_by p.said base) made
eager_made s m base zero p made q spent h = rw h.0 tt
eager_made s m base (suc n) p made q spent (state, r, rest, knows, is, moves, further) =
    let mv = move_at s m p in
    let more : EagerFrom (changed_by r.said base) rest = eager_made s m base n r rest q (next_spent s m state p r spent moves) further in
    let says = next_says s m state p r spent moves in
    rw (is, spent) (move_fits (changed_by p.said base) state mv p r rest says knows (plain_move s m p) (rw (move_changes state mv p r says base) at more))

-- ---- what recorded eager reads bring

-- after some recorded commands
eager_behind : (base : StateMap) (before : List RawMessage) (raw : RawMessage) (cs : List RawMessage) → EagerFrom base (before ++ raw ∷ cs) → EagerReadMatches (changed_by (messages_in before) base) raw (message_in raw.ty raw.body)
eager_behind base [] raw cs h = h.0
eager_behind base (c ∷ before) raw cs h =
    subst (λ g. EagerReadMatches g raw (message_in raw.ty raw.body)) (sym (changed_by-append (messages_in (c ∷ [])) (messages_in before) base) ∙ ap (λ l. changed_by l base) (sym (messages-append (c ∷ []) before))) (eager_behind (changed_by (messages_in (c ∷ [])) base) before raw cs h.1)

pub values_brought : (base : StateMap) (before : List RawMessage) (raw : RawMessage) (cs : List RawMessage) (c : GetEagerStateCommand) → EagerFrom base (before ++ raw ∷ cs) → message_in raw.ty raw.body ≡ Some (message.GetEagerState c)
    → (value_known c.key (changed_by (messages_in before) base) ≡ Unknown → ⊥) × (c.result ≡ recorded_value (value_known c.key (changed_by (messages_in before) base)))
values_brought base before raw cs c h is = let g = changed_by (messages_in before) base in value_brought g raw c is (subst (EagerReadMatches g raw) is (eager_behind base before raw cs h))

pub all_keys_brought : (base : StateMap) (before : List RawMessage) (raw : RawMessage) (cs : List RawMessage) (c : GetEagerStateKeysCommand) → EagerFrom base (before ++ raw ∷ cs) → message_in raw.ty raw.body ≡ Some (message.GetEagerStateKeys c)
    → IsWhole (own_form (reads.Keys c.name) 0 (changed_by (messages_in before) base)) → (known_keys (changed_by (messages_in before) base) ≡ None → ⊥) × (c.value ≡ known_keys (changed_by (messages_in before) base))
all_keys_brought base before raw cs c h is whole = let g = changed_by (messages_in before) base in keys_brought g raw c is (subst (EagerReadMatches g raw) is (eager_behind base before raw cs h)) whole
