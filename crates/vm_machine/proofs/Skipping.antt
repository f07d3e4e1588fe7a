-- What is left once the input was read: the commands after it are replayed, or dropped, and then
-- the completion id that comes next is past all that they carry.
use Rattle.std.proofs.Common.{◌≡◌, ℕ, ◌+◌, ◌<◌, ◌≤◌, Bool, true, false, List, [], ◌∷◌, ◌++◌, length, Option, Some, None, Result, Ok, Err, refl, sym, ap, ◌∙◌, subst, arith}
use Rattle.std.specs.Prelude.{◌==◌, if◌then◌else◌, nat_lt, max, drop, unwrap_or}
use Rattle.std.specs.List.{AllByRecursion}
use Rattle.std.specs.Option.{option_and_then, option_map}
use Rattle.journal_protocol.specs.InputCommand.{InputCommand}
use Rattle.journal_protocol.specs.NamedFault.{NamedFault}
use Rattle.journal_protocol.specs.NamedFault.TheVariants as fault
use Rattle.journal_protocol.specs.MessageType.{MessageType}
use Rattle.journal_protocol.specs.MessageType.TheVariants as type
use Rattle.journal_protocol.specs.Types.{type_number}
use Rattle.journal_protocol.specs.Message.{Message}
use Rattle.journal_protocol.specs.Message.TheVariants as message
use Rattle.journal_protocol.specs.RawMessage.{RawMessage}
use Rattle.journal_protocol.specs.Bodies.{input_in, message_in}
use Rattle.vm_asks.specs.Carried.{AreBelow, all_carried, carried, carried_by, past, past_all, read_carried, read_past}
use Rattle.vm_state.specs.declared.counters.Counters.{Counters}
use Rattle.vm_state.specs.Counting.{missing_number, most, next_index}
use Rattle.vm_types.specs.declared.values.Input.{Input}
use Rattle.vm_machine.specs.declared.machine.Machine.{Machine}
use Rattle.vm_machine.specs.declared.phase.Phase.{Phase}
use Rattle.vm_machine.specs.declared.phase.Phase.TheVariants.{WaitingStart, WaitingReplayEntries, Replaying, Processing, Closed}
use Rattle.vm_machine.specs.Commands.{entered, phase_after, popped, popped_from}
use Rattle.vm_machine.specs.Inputs.{input_at, input_by, input_counted, input_numbered, input_of, input_past, input_read, input_step}
use Rattle.vm_machine.specs.Outcomes.{Done, Failed, Outcome, ◌>>>◌, about_last}
use Rattle.vm_machine.specs.Phases.{is_running}
use Rattle.vm_machine.specs.Skips.{counters_past, skipped}
use Rattle.vm_types.specs.Options.{skips_replay}

-- ---- the input was read

-- the machine once the input is popped, if these commands stand after it
abbrev pub popped_input : List RawMessage → Machine → Machine
popped_input rest v = record (entered type.InputCommand [] v) { commands = rest; phase = phase_after rest }

-- The first recorded command was popped and read as the input.
pub record Pops (v : Machine) (i : Input) (w : Machine) : Type 0 where
  pub first : RawMessage
  pub rest : List RawMessage
  pub commands : v.commands ≡ first ∷ rest
  pub typed : (type_number first.ty == type_number type.InputCommand) ≡ true
  pub input : InputCommand
  pub reads : input_in first.body ≡ Some input
  pub told : i ≡ input_of v.start input
  pub left : w ≡ popped_input rest v

-- what is left, by whether the commands after the input are dropped
abbrev pub IsLeft : Bool → List RawMessage → Machine → Machine → Type 0
IsLeft false rest v w = w ≡ popped_input rest v
IsLeft true rest v w =
    (id : ℕ) × (counters : Counters) × (past_all v.counters.completion rest ≡ Some id) × (counters_past (length rest) id v.counters ≡ Ok counters)
    × (w ≡ skipped counters (popped_input rest v))

-- The input was read: it is the first recorded command.
pub record ReadsInput (v : Machine) (i : Input) (w : Machine) : Type 0 where
  pub phase : v.phase ≡ Replaying
  pub first : RawMessage
  pub rest : List RawMessage
  pub commands : v.commands ≡ first ∷ rest
  pub typed : (type_number first.ty == type_number type.InputCommand) ≡ true
  pub input : InputCommand
  pub reads : input_in first.body ≡ Some input
  pub told : i ≡ input_of v.start input
  pub left : IsLeft (skips_replay v.options.journal_replay) rest v w

done_input : (i j : Input) (v w : Machine) → Done i v ≡ Done j w → (j ≡ i) × (w ≡ v)
done_input i j v w h = (cc, cc)

pub counted_is : (o : Option NamedFault) (v : Machine) (i : Input) (w : Machine) → input_counted o v ≡ Done i w → Pops v i w
unfolding popped
counted_is (Some name) v i w h = absurd (cc)
counted_is None v i w h = from v.commands refl h
  where
    from : (cs : List RawMessage) → v.commands ≡ cs → (popped_from cs type.InputCommand (entered type.InputCommand [] v) >>> λ raw u. input_read (input_in raw.body) u) ≡ Done i w → Pops v i w
    from [] e h = absurd (cc)
    from (raw ∷ rest) e h = by_type (type_number raw.ty == type_number type.InputCommand) refl h
      where
        u : Machine
        u = popped_input rest v

        by_input : (o : Option InputCommand) → input_in raw.body ≡ o → (type_number raw.ty == type_number type.InputCommand) ≡ true → input_read o u ≡ Done i w → Pops v i w
        by_input None reads typed h = absurd (cc)
        by_input (Some c) reads typed h =
            let d = done_input (input_of v.start c) i u w h in
            record { first = raw; rest = rest; commands = e; typed = typed; input = c; reads = reads; told = d.0; left = d.1 }

        by_type : (b : Bool) → (type_number raw.ty == type_number type.InputCommand) ≡ b → ((if b then Done raw u else Failed (about_last fault.CommandTypeMismatch u) u) >>> λ raw x. input_read (input_in raw.body) x) ≡ Done i w → Pops v i w
        by_type true typed h = by_input (input_in raw.body) refl typed h
        by_type false typed h = absurd (cc)

pub input_is : (v : Machine) (i : Input) (w : Machine) → input_step v ≡ Done i w → ReadsInput v i w
unfolding input_step
input_is v i w is = by_phase v.phase refl is
  where
    replays : (at : v.phase ≡ Replaying) (b : Bool) → skips_replay v.options.journal_replay ≡ b → (p : Pops v i w) → b ≡ false → ReadsInput v i w
    replays at b e p off = record { phase = at; first = p.first; rest = p.rest; commands = p.commands; typed = p.typed; input = p.input; reads = p.reads; told = p.told; left = subst (λ x. IsLeft x p.rest v w) (sym off ∙ sym e) p.left }

    skips : (at : v.phase ≡ Replaying) → skips_replay v.options.journal_replay ≡ true → (id : ℕ) → past_all v.counters.completion (drop 1 v.commands) ≡ Some id → (counters : Counters) → counters_past (length (drop 1 v.commands)) id v.counters ≡ Ok counters
        → (o : Outcome Input) → input_counted None v ≡ o → (o >>> λ input u. Done input (skipped counters u)) ≡ Done i w → ReadsInput v i w
    skips at e id past counters behind (Failed x u) is h = absurd (cc)
    skips at e id past counters behind (Done input u) is h =
        let d = done_input input i (skipped counters u) w h in
        let p = counted_is None v input u is in
        let rest : drop 1 v.commands ≡ p.rest = ap (drop 1) p.commands in
        record {
          phase = at;
          first = p.first;
          rest = p.rest;
          commands = p.commands;
          typed = p.typed;
          input = p.input;
          reads = p.reads;
          told = d.0 ∙ p.told;
          left = subst (λ x. IsLeft x p.rest v w) (sym e) (id, counters, sym (ap (past_all v.counters.completion) rest) ∙ past, sym (ap (λ l. counters_past (length l) id v.counters) rest) ∙ behind, d.1 ∙ ap (skipped counters) p.left);
        }

    by_counters : (at : v.phase ≡ Replaying) → skips_replay v.options.journal_replay ≡ true → (id : ℕ) → past_all v.counters.completion (drop 1 v.commands) ≡ Some id → (r : Result Counters NamedFault) → counters_past (length (drop 1 v.commands)) id v.counters ≡ r → input_numbered r v ≡ Done i w → ReadsInput v i w
    by_counters at e id past (Err name) behind h = absurd (cc)
    by_counters at e id past (Ok counters) behind h = skips at e id past counters behind (input_counted None v) refl h

    by_past : (at : v.phase ≡ Replaying) → skips_replay v.options.journal_replay ≡ true → (o : Option ℕ) → past_all v.counters.completion (drop 1 v.commands) ≡ o → input_past o v ≡ Done i w → ReadsInput v i w
    by_past at e None past h = absurd (cc)
    by_past at e (Some id) past h = by_counters at e id past (counters_past (length (drop 1 v.commands)) id v.counters) refl h

    by_skip : (at : v.phase ≡ Replaying) (b : Bool) → skips_replay v.options.journal_replay ≡ b → input_by b v ≡ Done i w → ReadsInput v i w
    by_skip at false e h = replays at false e (counted_is (missing_number 0 0 0 v.counters) v i w h) refl
    by_skip at true e h = by_past at e (past_all v.counters.completion (drop 1 v.commands)) refl h

    by_phase : (ph : Phase) → v.phase ≡ ph → input_at ph v ≡ Done i w → ReadsInput v i w
    by_phase WaitingStart at h = absurd (cc)
    by_phase WaitingReplayEntries at h = absurd (cc)
    by_phase Replaying at h = by_skip at (skips_replay v.options.journal_replay) refl h
    by_phase Processing at h = absurd (cc)
    by_phase Closed at h = absurd (cc)

-- ---- the completion id that is next

more_than : (a b c : ℕ) → a ≤ b → b ≤ c → a ≤ c
more_than a b c h k = omega (arith, h, k)

less_than : (a b c : ℕ) → a < b → b ≤ c → a < c
less_than a b c h k = omega (arith, h, k)

same_number : (n : ℕ) → n ≤ n
same_number n = omega arith

max_first : (a b : ℕ) → a ≤ max a b
max_first a b = omega arith

max_past : (a b : ℕ) → b < max a (b + 1)
max_past a b = omega arith

pub below_more : (a b : ℕ) (ids : List ℕ) → a ≤ b → AreBelow a ids → AreBelow b ids
below_more a b [] more h = tt
below_more a b (id ∷ ids) more h = (less_than id a b h.0 more, below_more a b ids more h.1)

pub below_append : (a : ℕ) (xs ys : List ℕ) → AreBelow a xs → AreBelow a ys → AreBelow a (xs ++ ys)
below_append a [] ys h k = k
below_append a (x ∷ xs) ys h k = (h.0, below_append a xs ys h.1 k)

past_more : (next : ℕ) (ids : List ℕ) → next ≤ past next ids
past_more next [] = same_number next
past_more next (id ∷ ids) = more_than next (max next (id + 1)) (past (max next (id + 1)) ids) (max_first next (id + 1)) (past_more (max next (id + 1)) ids)

past_below : (next : ℕ) (ids : List ℕ) → AreBelow (past next ids) ids
past_below next [] = tt
past_below next (id ∷ ids) = (less_than id (max next (id + 1)) (past (max next (id + 1)) ids) (max_past next id) (past_more (max next (id + 1)) ids), past_below (max next (id + 1)) ids)

-- the id that is next past all that commands carry
pub past_all_below : (cs : List RawMessage) (next id : ℕ) → past_all next cs ≡ Some id → (next ≤ id) × AreBelow id (all_carried cs)
past_all_below [] next id h = let same : next ≡ id = cc in (subst (λ n. next ≤ n) same (same_number next), tt)
past_all_below (c ∷ cs) next id h = by_read (λ k. past_all_below cs k id) (message_in c.ty c.body) h
  where
    by_read : ((k : ℕ) → past_all k cs ≡ Some id → (k ≤ id) × AreBelow id (all_carried cs)) → (o : Option Message) → option_and_then (λ k. past_all k cs) (read_past next o) ≡ Some id → (next ≤ id) × AreBelow id (read_carried o ++ all_carried cs)
    by_read behind None h = absurd (cc)
    by_read behind (Some m) h =
        let k = past next (carried m) in
        let rest = behind k h in
        (more_than next k id (past_more next (carried m)) rest.0, below_append id (carried m) (all_carried cs) (below_more k id (carried m) rest.0 (past_below next (carried m))) rest.1)

-- ---- an input carries no id

read_none : (o : Option InputCommand) → read_carried (option_map message.Input o) ≡ []
read_none None = refl
read_none (Some c) = refl

pub input_carries : (ty : MessageType) (b : List ℕ) → (type_number ty == type_number type.InputCommand) ≡ true → read_carried (message_in ty b) ≡ []
unfolding message_in
input_carries type.Start b e = absurd (let z : false ≡ true = e in cc)
input_carries type.Suspension b e = absurd (let z : false ≡ true = e in cc)
input_carries type.Error b e = absurd (let z : false ≡ true = e in cc)
input_carries type.End b e = absurd (let z : false ≡ true = e in cc)
input_carries type.ProposeRunCompletion b e = absurd (let z : false ≡ true = e in cc)
input_carries type.ProposeRunCompletionAck b e = absurd (let z : false ≡ true = e in cc)
input_carries type.AwaitingOn b e = absurd (let z : false ≡ true = e in cc)
input_carries type.GetStateEphemeralCommand b e = absurd (let z : false ≡ true = e in cc)
input_carries type.GetStateEphemeralNotification b e = absurd (let z : false ≡ true = e in cc)
input_carries type.InputCommand b e = read_none _
input_carries type.GetEagerStateCommand b e = absurd (let z : false ≡ true = e in cc)
input_carries type.GetLazyStateCommand b e = absurd (let z : false ≡ true = e in cc)
input_carries type.GetEagerStateKeysCommand b e = absurd (let z : false ≡ true = e in cc)
input_carries type.GetLazyStateKeysCommand b e = absurd (let z : false ≡ true = e in cc)
input_carries type.SetStateCommand b e = absurd (let z : false ≡ true = e in cc)
input_carries type.ClearStateCommand b e = absurd (let z : false ≡ true = e in cc)
input_carries type.ClearAllStateCommand b e = absurd (let z : false ≡ true = e in cc)
input_carries type.SleepCommand b e = absurd (let z : false ≡ true = e in cc)
input_carries type.CallCommand b e = absurd (let z : false ≡ true = e in cc)
input_carries type.OneWayCallCommand b e = absurd (let z : false ≡ true = e in cc)
input_carries type.CompleteAwakeableCommand b e = absurd (let z : false ≡ true = e in cc)
input_carries type.SendSignalCommand b e = absurd (let z : false ≡ true = e in cc)
input_carries type.GetPromiseCommand b e = absurd (let z : false ≡ true = e in cc)
input_carries type.PeekPromiseCommand b e = absurd (let z : false ≡ true = e in cc)
input_carries type.CompletePromiseCommand b e = absurd (let z : false ≡ true = e in cc)
input_carries type.RunCommand b e = absurd (let z : false ≡ true = e in cc)
input_carries type.AttachInvocationCommand b e = absurd (let z : false ≡ true = e in cc)
input_carries type.GetInvocationOutputCommand b e = absurd (let z : false ≡ true = e in cc)
input_carries type.OutputCommand b e = absurd (let z : false ≡ true = e in cc)
input_carries type.Notification b e = absurd (let z : false ≡ true = e in cc)

-- ---- freshness

-- the counters that are left: the completion id is the next one, and handles go on
record Past (id : ℕ) (c d : Counters) : Type 0 where
  completion : d.completion ≡ id
  handle : d.handle ≡ c.handle

past_is : (dropped id : ℕ) (c d : Counters) → counters_past dropped id c ≡ Ok d → Past id c d
past_is dropped id c d h = by_id (nat_lt most id) h
  where
    left : Counters
    left = record c { command = Some (next_index c.command + dropped); completion = id }

    ends : Counters → Result Counters NamedFault
    ends x = Ok x

    same : ends left ≡ ends d → Past id c d
    same h = let e : left ≡ d = cc in record { completion = ap (λ (x : Counters). x.completion) (sym e); handle = ap (λ (x : Counters). x.handle) (sym e) }

    by_most : (b : Bool) → (if b then Err fault.ExhaustedCommandIndexes else Ok left) ≡ Ok d → Past id c d
    by_most true h = absurd (cc)
    by_most false h = same h

    by_index : (b : Bool) → (if b then Err fault.ExhaustedCommandIndexes else if unwrap_or c.command 0 == most then Err fault.ExhaustedCommandIndexes else Ok left) ≡ Ok d → Past id c d
    by_index true h = absurd (cc)
    by_index false h = by_most (unwrap_or c.command 0 == most) h

    by_id : (b : Bool) → (if b then Err fault.ExhaustedCompletionIds else if nat_lt most (next_index c.command + dropped) then Err fault.ExhaustedCommandIndexes else if unwrap_or c.command 0 == most then Err fault.ExhaustedCommandIndexes else Ok left) ≡ Ok d → Past id c d
    by_id true h = absurd (cc)
    by_id false h = by_index (nat_lt most (next_index c.command + dropped)) h

-- the completion id that is next is the one past them
pub past_id : (dropped id : ℕ) (c d : Counters) → counters_past dropped id c ≡ Ok d → d.completion ≡ id
past_id dropped id c d h = (past_is dropped id c d h).completion

-- no handle is given
pub past_handle : (dropped id : ℕ) (c d : Counters) → counters_past dropped id c ≡ Ok d → d.handle ≡ c.handle
past_handle dropped id c d h = (past_is dropped id c d h).handle

-- ---- what stays

-- Where the input was read the handler runs, and nothing was written, proposed or failed.
pub record Alike (v w : Machine) : Type 0 where
  pub version : w.version ≡ v.version
  pub options : w.options ≡ v.options
  pub failure : w.failure ≡ v.failure
  pub proposals : w.proposals ≡ v.proposals
  pub output : w.output ≡ v.output
  pub runs : is_running w.phase ≡ true

after_runs : (left : List RawMessage) → is_running (phase_after left) ≡ true
after_runs [] = refl
after_runs (c ∷ left) = refl

popped_alike : (rest : List RawMessage) (v : Machine) → Alike v (popped_input rest v)
popped_alike rest v = record { version = refl; options = refl; failure = refl; proposals = refl; output = refl; runs = after_runs rest }

skipped_alike : (counters : Counters) (rest : List RawMessage) (v : Machine) → Alike v (skipped counters (popped_input rest v))
skipped_alike counters rest v = record { version = refl; options = refl; failure = refl; proposals = refl; output = refl; runs = refl }

pub left_alike : (b : Bool) (rest : List RawMessage) (v w : Machine) → IsLeft b rest v w → Alike v w
left_alike false rest v w h = subst (Alike v) (sym h) (popped_alike rest v)
left_alike true rest v w (id, counters, past, behind, is) = subst (Alike v) (sym is) (skipped_alike counters rest v)

-- Where recorded commands are skipped, the completion id that comes next is greater than all that they carry.
pub reads_fresh : (v : Machine) (i : Input) (w : Machine) → skips_replay v.options.journal_replay ≡ true → ReadsInput v i w → AreBelow w.counters.completion (all_carried v.commands)
reads_fresh v i w skips r =
    let l : IsLeft true r.rest v w = subst (λ b. IsLeft b r.rest v w) skips r.left in
    let next : w.counters.completion ≡ l.0 = ap (λ (x : Machine). x.counters.completion) l.4 ∙ past_id (length r.rest) l.0 v.counters l.1 l.3 in
    let all : all_carried v.commands ≡ all_carried r.rest = ap all_carried r.commands ∙ ap (λ ids. ids ++ all_carried r.rest) (input_carries r.first.ty r.first.body r.typed) in
    subst (λ ids. AreBelow w.counters.completion ids) (sym all) (subst (λ n. AreBelow n (all_carried r.rest)) (sym next) (past_all_below r.rest v.counters.completion l.0 l.2).1)

pub input_fresh : (v : Machine) (i : Input) (w : Machine) → skips_replay v.options.journal_replay ≡ true → input_step v ≡ Done i w → AreBelow w.counters.completion (all_carried v.commands)
input_fresh v i w skips is = reads_fresh v i w skips (input_is v i w is)
