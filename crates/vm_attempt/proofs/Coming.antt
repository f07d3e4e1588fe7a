-- What came and what was written, over each call of an attempt: under all options, and for any
-- input.
use Rattle.std.proofs.Common.{◌≡◌, ◌≢◌, ◌⊎◌, ℕ, true, false, List, [], ◌∷◌, ◌++◌, Option, Some, None, Result, Ok, Err, sym, ap, ◌∙◌, subst, inl, inr, ⊎_elim, Global}
use Rattle.std.specs.declared.alloc.AllocError.{AllocError}
use Rattle.journal_protocol.specs.Error.{Error}
use Rattle.vm_types.specs.declared.steps.Answer.{Answer}
use Rattle.await_trees.specs.declared.tree.UnresolvedFuture.{UnresolvedFuture}
use Rattle.vm_machine.specs.declared.phase.Phase.TheVariants.{Closed, Processing}
use Rattle.vm_machine.specs.Phases.{is_running}
use Rattle.journal_entries.specs.Frames.{Rest}
use Rattle.invocation_vm.specs.Making.{made}
use Rattle.invocation_vm.specs.Views.{View}
use Rattle.vm_attempt.specs.Heard.{Heard}
use Rattle.vm_attempt.specs.declared.progress.Progress.{Progress}
use Rattle.vm_attempt.specs.declared.progress.Reply.{Reply}
use Rattle.vm_attempt.specs.declared.progress.Reply.TheVariants as reply
use Rattle.vm_attempt.specs.Record.{Record, heard}
use Rattle.vm_attempt.specs.Stepping.{MakesStep, CloseDoes, FeedDoes, StepDoes, Takes, step_asked, fresh_record, future_in, replied}
use Rattle.vm_asks.specs.Carried.{AreBelow, all_carried}
use Rattle.vm_machine.specs.declared.machine.Machine.{Machine}
use Rattle.vm_machine.specs.Inputs.{coverage_of, input_step}
use Rattle.vm_machine.specs.Making.{fresh}
use Rattle.vm_machine.specs.Outcomes.{Done}
use Rattle.vm_types.specs.Options.{skips_replay}
use Rattle.vm_machine.proofs.Skipping.{ReadsInput, input_is, left_alike, reads_fresh}
use Rattle.vm_types.specs.declared.steps.Answer.TheVariants as answer
use Rattle.vm_types.specs.declared.values.Input.{Input}
use Rattle.journal_protocol.specs.Bodies.{input_in}
use Rattle.vm_attempt.specs.Arrivals.{kept_after}
use Rattle.journal_entries.specs.JournalFrames.{AcknowledgesNothing}
use Rattle.vm_attempt.specs.Journals.{HasAll, StillWaits, setup_for}
use Rattle.vm_attempt.specs.Told.{Begun, JournalCame, Comes, HasCome, IsLive, Journal, Wrote, bytes_fed, commands_of, frames_fed}
use Rattle.journal_entries.specs.Frames.{frames_of}
use Rattle.std.specs.Prelude.{if◌then◌else◌}
use Rattle.std.specs.List.{AllByRecursion}
use Rattle.vm_attempt.proofs.Advanced.{made_new, steps_keep}
use Rattle.vm_attempt.proofs.Arriving.{kept_none}
use Rattle.vm_attempt.proofs.Fresh.{on_written}
use Rattle.vm_attempt.proofs.Numbers.{Numbers, same_number, step_numbers}
use Rattle.vm_attempt.proofs.Proposed.{none_found, none_front}
use Rattle.vm_attempt.proofs.Kept.{KeptBy, close_keeps, feed_keeps, take_keeps}
use Rattle.vm_attempt.proofs.Lasting.{CameBy, came_last}
use Rattle.vm_attempt.proofs.Quiet.{quiet_same, wrote_more, wrote_quiet}
use Rattle.vm_attempt.proofs.Sending.{IsLeft, Sends, step_leaves}
use Rattle.vm_model.specs.Fixed.{Fixed}

-- ---- the input is read

module _ (fixed : Fixed) (fed : Heard) (none_proposed : fed.proposed ≡ []) (taken : List (List ℕ)) (v w : View) (i : Input) (b : Begun fixed fed v.machine) (h : HasAll (setup_for fixed b.start) (record { entries = b.state; coverage = coverage_of b.start.partial }) b.aside b.start.known_entries [] [] b.others v.machine) (r : ReadsInput v.machine i w.machine) where
  -- the journal that the input was read from
  journal_read : Journal fed
  journal_read = record {
    first_frame = b.first_frame;
    entries = h.entries;
    others = h.others;
    frames = b.frames ∙ ap (λ l. b.first_frame ∷ l) h.split;
    start = b.start;
    reads_start = b.reads_start;
    count = h.count;
    none_acknowledge = none_front h.entries h.others (subst (AllByRecursion AcknowledgesNothing) h.split h.none_acknowledge);
    state = b.state;
    reads_state = b.reads_state;
    first = r.first;
    rest = r.rest;
    commands = sym (ap (λ (x : Machine). x.commands) h.machine) ∙ r.commands;
    input = r.input;
    reads_input = ap (λ t. if t then input_in r.first.body else None) r.typed ∙ r.reads;
  }

  read_comes : Wrote taken v.machine.output [] → (frames_of (bytes_fed fed)).1 ≡ Rest w.undecoded → JournalCame fixed fed (answer.Input i ∷ []) taken w
  unfolding journal_read
  read_comes wrote tail =
      let all = h.entries ++ h.others in
      let a = left_alike (skips_replay v.machine.options.journal_replay) r.rest v.machine w.machine r.left in
      record {
        journal = journal_read;
        answered = λ none. absurd (cc);
        written = [];
        wrote = wrote_quiet taken v.machine w.machine [] (quiet_same v.machine w.machine a.output) wrote;
        made_for = λ _. (a.version ∙ ap (λ (x : Machine). x.version) h.machine, a.options ∙ ap (λ (x : Machine). x.options) h.machine);
        keeps = λ _. (a.proposals ∙ ap (λ (x : Machine). x.proposals) h.machine ∙ sym (ap (λ kept. kept_after kept all) none_proposed ∙ kept_none all), none_found fed.proposed all (subst (AllByRecursion AcknowledgesNothing) h.split h.none_acknowledge));
        early = λ _. inl none_proposed;
        fresh = λ skips. record {
          next = w.machine.counters.completion;
          past = subst (λ cs. AreBelow w.machine.counters.completion (all_carried cs)) r.commands (reads_fresh v.machine i w.machine (ap (λ (x : Machine). skips_replay x.options.journal_replay) h.machine ∙ ap skips_replay skips) r);
          from = tt;
          further = λ _. same_number w.machine.counters.completion;
        };
        phase = λ _. inl a.runs;
        tail = λ _. tail;
      }

-- the input is read, under all options
pub reads_come : (fixed : Fixed) (fed : Heard) → fed.proposed ≡ [] → (taken : List (List ℕ)) (v w : View) (i : Input) → Comes fixed fed v.machine → input_step v.machine ≡ Done i w.machine → Wrote taken v.machine.output [] → (frames_of (bytes_fed fed)).1 ≡ Rest w.undecoded → JournalCame fixed fed (answer.Input i ∷ []) taken w
reads_come fixed fed none taken v w i comes is wrote tail =
    let r = input_is v.machine i w.machine is in
    let runs : is_running v.machine.phase ≡ true = ap is_running r.phase in
    ⊎_elim
    (λ (x : (frames_fed fed ≡ []) × ((alloc : Global) × (v.machine ≡ fresh alloc fixed.version fixed.options))). absurd (let z : false ≡ true = sym (ap (λ (m : Machine). is_running m.phase) x.1.1) ∙ runs in cc))
    (λ (b : Begun fixed fed v.machine).
    ⊎_elim
    (λ (x : StillWaits (setup_for fixed b.start) (record { entries = b.state; coverage = coverage_of b.start.partial }) b.aside b.start.known_entries [] [] b.others v.machine). absurd (let z : false ≡ true = sym (ap (λ (m : Machine). is_running m.phase) x.machine) ∙ runs in cc))
    (λ (x : HasAll (setup_for fixed b.start) (record { entries = b.state; coverage = coverage_of b.start.partial }) b.aside b.start.known_entries [] [] b.others v.machine). read_comes fixed fed none taken v w i b x r wrote tail)
    b.waits)
    comes

-- ---- a call

never_empty : (answers : List Answer) (a : Answer) → answers ++ a ∷ [] ≢ []
never_empty [] a = λ h. absurd (cc)
never_empty (b ∷ answers) a = λ h. absurd (cc)

module _ (fixed : Fixed) (fed : Heard) (before : List Answer) (waiting : Option UnresolvedFuture) (taken : List (List ℕ)) (v w : View) (k : CameBy fixed fed before waiting taken v) (live : IsLive v.machine) (und : w.undecoded ≡ v.undecoded) where
  -- what is sent is written after what was written before
  came_on : (answers : List Answer) (waits : Option UnresolvedFuture) → answers ≢ [] → Numbers v.machine w.machine → Sends v.machine w.machine → (w.machine.failure ≡ None → w.machine.proposals ≡ v.machine.proposals) → (w.machine.failure ≡ None → v.machine.phase ≡ Processing → is_running w.machine.phase ≡ true → w.machine.phase ≡ Processing) → (w.machine.failure ≡ None → (is_running w.machine.phase ≡ true) ⊎ (w.machine.phase ≡ Closed)) → CameBy fixed fed answers waits taken w
  came_on answers waits answered n s kept goes phase = record {
    journal = k.journal;
    answered = answered;
    written = k.written ++ commands_of n.messages;
    wrote = wrote_more taken v.machine.output w.machine.output n.messages k.written n.output k.wrote;
    made_for = λ _. (s.version ∙ (k.made_for live).0, s.options ∙ (k.made_for live).1);
    keeps = λ alive. let before = k.keeps live in (kept alive.failure ∙ before.0, before.1);
    early = λ alive. ⊎_elim (λ (none : fed.proposed ≡ []). inl none) (λ (at : v.machine.phase ≡ Processing). inr (goes alive.failure at alive.phase)) (k.early live);
    fresh = λ skips. on_written (k.journal.first ∷ k.journal.rest) k.written v.machine w.machine (k.fresh skips) live n;
    phase = phase;
    tail = λ _. k.tail live ∙ ap Rest (sym und);
  }

pub asks_come : (fixed : Fixed) (old : Record) (result : Result Progress Error) (new : Record) → CameBy fixed (heard fixed.version old) old.answers old.waiting old.taken old.vm → IsLive old.vm.machine → MakesStep fixed.handler old result new → KeptBy (CameBy fixed) fixed new
asks_come fixed old result new k live (x, w, does, is, made) = subst (KeptBy (CameBy fixed) fixed) (sym is) (inr (by_reply x (step_leaves (step_asked fixed.handler old) old.vm.machine live x w.machine does.0.0)))
  where
    on : (answers : List Answer) (waits : Option UnresolvedFuture) → answers ≢ [] → Sends old.vm.machine w.machine → (w.machine.failure ≡ None → w.machine.proposals ≡ old.vm.machine.proposals) → (w.machine.failure ≡ None → old.vm.machine.phase ≡ Processing → is_running w.machine.phase ≡ true → w.machine.phase ≡ Processing) → (w.machine.failure ≡ None → (is_running w.machine.phase ≡ true) ⊎ (w.machine.phase ≡ Closed)) → CameBy fixed (heard fixed.version old) answers waits old.taken w
    on answers waits answered = came_on fixed (heard fixed.version old) old.answers old.waiting old.taken old.vm w k live does.0.1 answers waits answered (step_numbers (step_asked fixed.handler old) old.vm.machine x w.machine does.0.0 does.1)

    by_reply : (x : Result Reply Error) → IsLeft old.vm.machine x w.machine → (let r = replied old (future_in (step_asked fixed.handler old)) x w in CameBy fixed (heard fixed.version r) r.answers r.waiting r.taken r.vm)
    by_reply (Ok (reply.Answer a)) h = on (old.answers ++ a ∷ []) None (never_empty old.answers a) h.sends (λ _. h.kept) (λ _. h.goes) (λ _. inl h.left)
    by_reply (Ok (reply.Waiting input run)) h = on old.answers (future_in (step_asked fixed.handler old)) k.answered h.sends (λ _. h.kept) (λ _. h.goes) (λ _. inl h.left)
    by_reply (Ok (reply.Execute run)) h = on old.answers (future_in (step_asked fixed.handler old)) k.answered h.sends (λ _. h.kept) (λ _. h.goes) (λ _. inl h.left.0)
    by_reply (Ok reply.Suspended) h = on old.answers old.waiting k.answered h.sends (λ _. h.kept) (λ _. h.goes) (λ _. inr h.left)
    by_reply (Ok reply.Ended) h = on old.answers old.waiting k.answered h.sends (λ _. h.kept) (λ _. h.goes) (λ _. inr h.left)
    by_reply (Err e) h = on old.answers old.waiting k.answered h.0 (λ alive. absurd (let z : None ≡ Some e = sym alive ∙ h.1 in cc)) (λ alive. absurd (let z : None ≡ Some e = sym alive ∙ h.1 in cc)) (λ alive. absurd (let z : None ≡ Some e = sym alive ∙ h.1 in cc))

-- ---- each call

pub made_comes : (alloc : Global) (fixed : Fixed) → HasCome fixed (fresh_record (made alloc fixed.options fixed.version))
made_comes alloc fixed = inl (made_new alloc fixed)

pub step_comes : (fixed : Fixed) (old : Record) (result : Result Progress Error) (new : Record) → HasCome fixed old → StepDoes fixed.handler old result new → HasCome fixed new
step_comes fixed old result new = steps_keep (CameBy fixed) (λ fed. Unit {0}) (came_last fixed) fixed (λ fed waiting taken v w i u none comes is none_waits wrote tail. reads_come fixed fed none taken v w i comes is wrote tail) (λ fed answers waiting taken v k. k.answered) (λ before given after u. asks_come fixed before given after) old result new tt

pub feed_comes : (fixed : Fixed) (piece : List ℕ) (old : Record) (result : Result Unit AllocError) (new : Record) → HasCome fixed old → FeedDoes old.starved piece old result new → HasCome fixed new
feed_comes fixed = feed_keeps (CameBy fixed) (came_last fixed) fixed

pub close_comes : (fixed : Fixed) (old : Record) (result : Result Unit AllocError) (new : Record) → HasCome fixed old → CloseDoes old.starved old result new → HasCome fixed new
close_comes fixed = close_keeps (CameBy fixed) (came_last fixed) fixed

pub take_comes : (fixed : Fixed) (old : Record) (result : Result (List ℕ) AllocError) (new : Record) → HasCome fixed old → Takes old result new → HasCome fixed new
take_comes fixed = take_keeps (CameBy fixed) (came_last fixed) fixed
