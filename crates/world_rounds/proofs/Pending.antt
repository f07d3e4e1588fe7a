-- Completion ids of runs: those that are pending, and those whose results were proposed. Each is carried by a run's command that stands before
-- it, no result of it came with the journal, and it is proposed once.
use Rattle.std.proofs.Common.{◌≡◌, ℕ, ◌<◌, ◌≤◌, Bool, true, false, cond, List, [], ◌∷◌, ◌++◌, map, Option, Some, refl, sym, ap, ◌∙◌, subst, append_assoc, append-nil, arith}
use Rattle.std.specs.Prelude.{◌==◌, ◌||◌, find, if◌then◌else◌}
use Rattle.std.specs.List.{flat_map, list_any}
use Rattle.std.proofs.lemmas.Option.{same_Some}
use Rattle.std.proofs.lemmas.Bool.Decides.{nat_tests}
use Rattle.std.proofs.lemmas.Grind.{flat_map-append}
use Rattle.std.proofs.lemmas.List.{map-append}
use Rattle.journal_protocol.specs.Message.{Message}
use Rattle.journal_protocol.specs.Message.TheVariants as message
use Rattle.journal_protocol.specs.RawMessage.{RawMessage}
use Rattle.journal_protocol.specs.Bodies.{message_in}
use Rattle.journal_protocol.specs.Notification.{Notification}
use Rattle.await_trees.specs.declared.handle.NotificationHandle.{NotificationHandle}
use Rattle.vm_runs.specs.Firsts.{without_first}
use Rattle.vm_runs.specs.Pending.{has_handle}
use Rattle.journal_protocol.specs.ProposeRunCompletion.{ProposeRunCompletion}
use Rattle.vm_runs.specs.declared.pending.PendingRun.{PendingRun}
use Rattle.vm_asks.specs.Carried.{AreBelow}
use Rattle.vm_model.specs.Carried.{is_id_among}
use Rattle.journal_entries.specs.Arrivals.{completes_id}
use Rattle.journal_entries.specs.declared.storing.Written.{Written}
use Rattle.journal_entries.specs.declared.storing.Written.TheVariants.{Command, Proposal}
use Rattle.world_rounds.proofs.RunsCalled.{run_id, run_ids}
use Rattle.world_rounds.proofs.Settled.{command_in, proposal_in_item}

-- ---- commands of runs

-- what was read of a command is a run's, with this id
abbrev pub read_runs : ℕ → Option Message → Bool
read_runs id (Some (message.Run c)) = c.result_completion_id == id
read_runs id o = false

-- one of the stored commands is a run's, with this id
abbrev pub has_run : ℕ → List RawMessage → Bool
has_run id cs = list_any (λ c. read_runs id (message_in c.ty c.body)) cs

pub run_front : (id : ℕ) (cs more : List RawMessage) → has_run id cs ≡ true → has_run id (cs ++ more) ≡ true
run_front id [] more h = absurd (cc)
run_front id (c ∷ cs) more h = by_test (read_runs id (message_in c.ty c.body)) h (run_front id cs more)
  where
    by_test : (b : Bool) → (b || has_run id cs) ≡ true → (has_run id cs ≡ true → has_run id (cs ++ more) ≡ true) → (b || has_run id (cs ++ more)) ≡ true
    by_test true h ih = refl
    by_test false h ih = ih h

pub run_behind : (id : ℕ) (cs more : List RawMessage) → has_run id more ≡ true → has_run id (cs ++ more) ≡ true
run_behind id [] more h = h
run_behind id (c ∷ cs) more h = by_test (read_runs id (message_in c.ty c.body)) (run_behind id cs more h)
  where
    by_test : (b : Bool) → has_run id (cs ++ more) ≡ true → (b || has_run id (cs ++ more)) ≡ true
    by_test true h = refl
    by_test false h = h

-- ---- what was written

-- the id of a proposal
abbrev pub kept_id : ProposeRunCompletion → ℕ
kept_id p = p.id

-- the ids that these items propose
abbrev pub proposed_ids : List Written → List ℕ
proposed_ids ws = map kept_id (flat_map proposal_in_item ws)

pub ids_join : (us ws : List Written) → proposed_ids (us ++ ws) ≡ proposed_ids us ++ proposed_ids ws
ids_join us ws = ap (map kept_id) (flat_map-append proposal_in_item us ws) ∙ map-append kept_id (flat_map proposal_in_item us) (flat_map proposal_in_item ws)

-- A result may be proposed for the run of this id, after these commands and proposals: a run's command carries it, none of these notifications
-- completes it, and no proposal was for it.
pub record MayPropose (ns : List Notification) (cs : List RawMessage) (ps : List ℕ) (id : ℕ) : Type 0 where
  pub run : has_run id cs ≡ true
  pub free : completes_id id ns ≡ false
  pub new : is_id_among id ps ≡ false

-- each proposal among these items may be made after those before it
abbrev pub ProposeWell : List Notification → List RawMessage → List ℕ → List Written → Type 0
ProposeWell ns cs ps [] = Unit {0}
ProposeWell ns cs ps (Command raw ∷ ws) = ProposeWell ns (cs ++ raw ∷ []) ps ws
ProposeWell ns cs ps (Proposal p ∷ ws) = MayPropose ns cs ps p.id × ProposeWell ns cs (ps ++ p.id ∷ []) ws

pub propose_join : (ns : List Notification) (cs : List RawMessage) (ps : List ℕ) (us ws : List Written) → ProposeWell ns cs ps us → ProposeWell ns (cs ++ flat_map command_in us) (ps ++ proposed_ids us) ws → ProposeWell ns cs ps (us ++ ws)
propose_join ns cs ps [] ws h k = subst (λ (x : List RawMessage × List ℕ). ProposeWell ns x.0 x.1 ws) (λ i. (append-nil cs i, append-nil ps i)) k
propose_join ns cs ps (Command raw ∷ us) ws h k = propose_join ns (cs ++ raw ∷ []) ps us ws h (subst (λ (x : List RawMessage). ProposeWell ns x (ps ++ proposed_ids us) ws) (sym (append_assoc cs (raw ∷ []) (flat_map command_in us))) k)
propose_join ns cs ps (Proposal p ∷ us) ws h k = (h.0, propose_join ns cs (ps ++ p.id ∷ []) us ws h.1 (subst (λ (x : List ℕ). ProposeWell ns (cs ++ flat_map command_in us) x ws) (sym (append_assoc ps (p.id ∷ []) (proposed_ids us))) k))

pub propose_behind : (ns : List Notification) (cs : List RawMessage) (ps : List ℕ) (us ws : List Written) → ProposeWell ns cs ps (us ++ ws) → ProposeWell ns (cs ++ flat_map command_in us) (ps ++ proposed_ids us) ws
propose_behind ns cs ps [] ws h = subst (λ (x : List RawMessage × List ℕ). ProposeWell ns x.0 x.1 ws) (λ i. (sym (append-nil cs) i, sym (append-nil ps) i)) h
propose_behind ns cs ps (Command raw ∷ us) ws h = subst (λ (x : List RawMessage). ProposeWell ns x (ps ++ proposed_ids us) ws) (append_assoc cs (raw ∷ []) (flat_map command_in us)) (propose_behind ns (cs ++ raw ∷ []) ps us ws h)
propose_behind ns cs ps (Proposal p ∷ us) ws h = subst (λ (x : List ℕ). ProposeWell ns (cs ++ flat_map command_in us) x ws) (append_assoc ps (p.id ∷ []) (proposed_ids us)) (propose_behind ns cs (ps ++ p.id ∷ []) us ws h.1)

-- items without a proposal
pub propose_none : (ns : List Notification) (cs : List RawMessage) (ps : List ℕ) (ws : List Written) → flat_map proposal_in_item ws ≡ [] → ProposeWell ns cs ps ws
propose_none ns cs ps [] none = tt
propose_none ns cs ps (Command raw ∷ ws) none = propose_none ns (cs ++ raw ∷ []) ps ws none
propose_none ns cs ps (Proposal p ∷ ws) none = absurd (cc)

-- ---- what is pending

-- Each of these ids is less than the next one, each may be proposed, and each is there once.
abbrev pub ArePending : ℕ → List Notification → List RawMessage → List ℕ → List ℕ → Type 0
ArePending next ns cs ps [] = Unit {0}
ArePending next ns cs ps (id ∷ ids) = (id < next) × MayPropose ns cs ps id × (is_id_among id ids ≡ false) × ArePending next ns cs ps ids

less_more : (a b c : ℕ) → a < b → b ≤ c → a < c
less_more a b c h k = omega (arith, h, k)

may_later : (ns : List Notification) (cs more : List RawMessage) (ps : List ℕ) (id : ℕ) → MayPropose ns cs ps id → MayPropose ns (cs ++ more) ps id
may_later ns cs more ps id m = record { run = run_front id cs more m.run; free = m.free; new = m.new }

-- more commands were written, and more ids were given
pub pending_later : (next later : ℕ) (ns : List Notification) (cs more : List RawMessage) (ps ids : List ℕ) → next ≤ later → ArePending next ns cs ps ids → ArePending later ns (cs ++ more) ps ids
pending_later next later ns cs more ps [] l h = tt
pending_later next later ns cs more ps (id ∷ ids) l h = (less_more id next later h.0 l, may_later ns cs more ps id h.1, h.2, pending_later next later ns cs more ps ids l h.3)

pub below_later : (next later : ℕ) (ids : List ℕ) → next ≤ later → AreBelow next ids → AreBelow later ids
below_later next later [] l h = tt
below_later next later (id ∷ ids) l h = (less_more id next later h.0 l, below_later next later ids l h.1)

pub below_append : (next : ℕ) (xs ys : List ℕ) → AreBelow next xs → AreBelow next ys → AreBelow next (xs ++ ys)
below_append next [] ys h k = k
below_append next (x ∷ xs) ys h k = (h.0, below_append next xs ys h.1 k)

less_differs : (a b : ℕ) → a < b → (a == b) ≡ false
less_differs a b h = grind (arith, nat_tests)

more_differs : (a b : ℕ) → b < a → (a == b) ≡ false
more_differs a b h = grind (arith, nat_tests)

-- what is greater than all isn't among them
pub below_none : (next : ℕ) (ids : List ℕ) → AreBelow next ids → is_id_among next ids ≡ false
below_none next [] h = refl
below_none next (id ∷ ids) h = ap (λ b. b || is_id_among next ids) (less_differs id next h.0) ∙ below_none next ids h.1

pub among_append : (id : ℕ) (xs ys : List ℕ) → is_id_among id (xs ++ ys) ≡ (is_id_among id xs || is_id_among id ys)
among_append id [] ys = refl
among_append id (x ∷ xs) ys = by_test (x == id) (among_append id xs ys)
  where
    by_test : (b : Bool) → is_id_among id (xs ++ ys) ≡ (is_id_among id xs || is_id_among id ys) → (b || is_id_among id (xs ++ ys)) ≡ ((b || is_id_among id xs) || is_id_among id ys)
    by_test true ih = refl
    by_test false ih = ih

-- not among some, and not another one
among_not : (id : ℕ) (xs : List ℕ) (other : ℕ) → is_id_among id xs ≡ false → (other == id) ≡ false → is_id_among id (xs ++ other ∷ []) ≡ false
among_not id xs other h k = among_append id xs (other ∷ []) ∙ (λ i. h i || (k i || false))

pub pending_below : (next : ℕ) (ns : List Notification) (cs : List RawMessage) (ps ids : List ℕ) → ArePending next ns cs ps ids → AreBelow next ids
pending_below next ns cs ps [] h = tt
pending_below next ns cs ps (id ∷ ids) h = (h.0, pending_below next ns cs ps ids h.3)

-- one more run is pending, under the next id
pub pending_more : (next later : ℕ) (ns : List Notification) (cs : List RawMessage) (ps ids : List ℕ) → next < later → MayPropose ns cs ps next → AreBelow next ids → ArePending later ns cs ps ids → ArePending later ns cs ps (ids ++ next ∷ [])
pending_more next later ns cs ps [] l new below h = (l, new, refl, tt)
pending_more next later ns cs ps (id ∷ ids) l new below h = (h.0, h.1, among_not id ids next h.2 (more_differs next id below.0), pending_more next later ns cs ps ids l new below.1 h.3)

-- ---- a result is proposed

either_false : (a b : Bool) → (a || b) ≡ false → (a ≡ false) × (b ≡ false)
either_false true b h = absurd (cc)
either_false false b h = (refl, h)

same_differs : (a b : ℕ) → (a == b) ≡ false → (b == a) ≡ false
same_differs a b h = grind (arith, nat_tests)

-- others stay pending once a result is proposed for another id
others_stay : (next : ℕ) (ns : List Notification) (cs : List RawMessage) (ps ids : List ℕ) (other : ℕ) → is_id_among other ids ≡ false → ArePending next ns cs ps ids → ArePending next ns cs (ps ++ other ∷ []) ids
others_stay next ns cs ps [] other apart h = tt
others_stay next ns cs ps (id ∷ ids) other apart h =
    let x = either_false (id == other) (is_id_among other ids) apart in
    let m = h.1 in
    (h.0, record { run = m.run; free = m.free; new = among_not id ps other m.new (same_differs id other x.0) }, h.2, others_stay next ns cs ps ids other x.1 h.3)

among_without : (id : ℕ) (told : NotificationHandle) (runs : List PendingRun) → is_id_among id (run_ids runs) ≡ false → is_id_among id (run_ids (without_first (has_handle told) runs)) ≡ false
among_without id told [] h = refl
among_without id told (x ∷ runs) h = by_test (has_handle told x) (either_false (run_id x == id) (is_id_among id (run_ids runs)) h) (among_without id told runs)
  where
    by_test : (b : Bool) → ((run_id x == id) ≡ false) × (is_id_among id (run_ids runs) ≡ false) → (is_id_among id (run_ids runs) ≡ false → is_id_among id (run_ids (without_first (has_handle told) runs)) ≡ false)
        → is_id_among id (run_ids (if b then runs else x ∷ without_first (has_handle told) runs)) ≡ false
    by_test true e ih = e.1
    by_test false e ih = ap (λ b. b || is_id_among id (run_ids (without_first (has_handle told) runs))) e.0 ∙ ih e.1

-- what a run's result leaves: its id could be proposed, and the others can be still
pub record Told (next : ℕ) (ns : List Notification) (cs : List RawMessage) (ps ids left : List ℕ) (run : PendingRun) : Type 0 where
  pub may : MayPropose ns cs ps (run_id run)
  pub below : run_id run < next
  pub others : ArePending next ns cs (ps ++ run_id run ∷ []) left
  pub among : (id : ℕ) → is_id_among id ids ≡ false → (run_id run == id) ≡ false

pub told_at : (next : ℕ) (ns : List Notification) (cs : List RawMessage) (ps : List ℕ) (told : NotificationHandle) (runs : List PendingRun) (run : PendingRun) → find (has_handle told) runs ≡ Some run → ArePending next ns cs ps (run_ids runs) → Told next ns cs ps (run_ids runs) (run_ids (without_first (has_handle told) runs)) run
told_at next ns cs ps told [] run found h = absurd (cc)
told_at next ns cs ps told (x ∷ runs) run found h = by_test (has_handle told x) found (told_at next ns cs ps told runs run)
  where
    first : (one : PendingRun) → x ≡ one → ArePending next ns cs (ps ++ run_id one ∷ []) (run_ids runs)
    first one is = subst (λ (r : PendingRun). ArePending next ns cs (ps ++ run_id r ∷ []) (run_ids runs)) is (others_stay next ns cs ps (run_ids runs) (run_id x) h.2 h.3)

    by_test : (b : Bool) → cond b (Some x) (find (has_handle told) runs) ≡ Some run → (find (has_handle told) runs ≡ Some run → ArePending next ns cs ps (run_ids runs) → Told next ns cs ps (run_ids runs) (run_ids (without_first (has_handle told) runs)) run)
        → Told next ns cs ps (run_id x ∷ run_ids runs) (run_ids (if b then runs else x ∷ without_first (has_handle told) runs)) run
    by_test true is more =
        let same = same_Some x run is in
        record {
          may = subst (λ (r : PendingRun). MayPropose ns cs ps (run_id r)) same h.1;
          below = subst (λ (r : PendingRun). run_id r < next) same h.0;
          others = first run same;
          among = λ id e. ap (λ (r : PendingRun). run_id r == id) (sym same) ∙ (either_false (run_id x == id) (is_id_among id (run_ids runs)) e).0;
        }
    by_test false is more =
        let t = more is h.3 in
        let m = h.1 in
        record {
          may = t.may;
          below = t.below;
          others = (h.0, record { run = m.run; free = m.free; new = among_not (run_id x) ps (run_id run) m.new (t.among (run_id x) h.2) }, among_without (run_id x) told runs h.2, t.others);
          among = λ id e. t.among id (either_false (run_id x == id) (is_id_among id (run_ids runs)) e).1;
        }
