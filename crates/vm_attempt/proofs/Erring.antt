-- What a step keeps of why an attempt failed, and what its error is.
use Rattle.vm_model.specs.Histories.{Handed}
use Rattle.std.proofs.Common.{◌≡◌, ◌≢◌, ◌⊎◌, ◌+◌, Bool, true, false, List, [], ◌∷◌, ◌++◌, Option, Some, None, Result, Ok, Err, refl, sym, ap, ◌∙◌, subst, inl, inr, ⊎_elim, append-nil, Global}
use Rattle.std.specs.Prelude.{◌==◌, ℕ, ◌≤◌, length, drop, if◌then◌else◌, unwrap_or}
use Rattle.std.proofs.lemmas.Option.{same_Some}
use Rattle.std.specs.Result.{result_err}
use Rattle.journal_protocol.specs.InputCommand.{InputCommand}
use Rattle.journal_protocol.specs.Error.{Error}
use Rattle.journal_protocol.specs.NamedFault.{NamedFault}
use Rattle.journal_protocol.specs.NamedFault.TheVariants as fault
use Rattle.journal_protocol.specs.RawMessage.{RawMessage}
use Rattle.journal_protocol.specs.MessageType.TheVariants as type
use Rattle.journal_protocol.specs.Errors.{named_error, no_memory}
use Rattle.journal_protocol.specs.Bodies.{input_in}
use Rattle.journal_protocol.specs.Types.{type_number}
use Rattle.vm_state.specs.declared.state_map.StateMap.{StateMap}
use Rattle.vm_types.specs.declared.steps.Answer.{Answer}
use Rattle.vm_state.specs.Counting.{missing_number as lacking}
use Rattle.vm_machine.specs.declared.machine.Machine.{Machine}
use Rattle.vm_machine.specs.declared.phase.Phase.{Phase}
use Rattle.vm_machine.specs.declared.phase.Phase.TheVariants.{WaitingStart, WaitingReplayEntries, Replaying, Processing, Closed}
use Rattle.vm_machine.specs.Commands.{entered, phase_after, popped, popped_from}
use Rattle.vm_machine.specs.Inputs.{coverage_of, input_at, input_by, input_counted, input_numbered, input_past, input_read, input_step}
use Rattle.vm_machine.specs.Skips.{counters_past, skipped}
use Rattle.vm_types.specs.Options.{skips_replay}
use Rattle.vm_machine.proofs.Skipping.{counted_is, past_handle, popped_input}
use Rattle.vm_asks.specs.Carried.{past_all}
use Rattle.vm_state.specs.declared.counters.Counters.{Counters}
use Rattle.vm_state.specs.Counting.{fresh_counters}
use Rattle.vm_types.specs.declared.options.JournalReplay.{JournalReplay}
use Rattle.vm_types.specs.declared.options.JournalReplay.TheVariants.{Enabled, Disabled}
use Rattle.vm_types.specs.declared.values.Input.{Input}
use Rattle.vm_machine.specs.Making.{fresh}
use Rattle.vm_machine.specs.Outcomes.{DoesBy, IsStarved, Outcome, Done, Failed, ◌>>>◌, about_last, called, called_at, failed, ruled, ruled_by, settled}
use Rattle.vm_machine.specs.Phases.{is_closed, is_running}
use Rattle.invocation_vm.specs.Views.{View}
use Rattle.vm_model.specs.Calls.{Setup, Meaning}
use Rattle.vm_model.proofs.Runs.{made_add}
use Rattle.vm_attempt.specs.Heard.{Heard}
use Rattle.vm_attempt.specs.declared.progress.Progress.{Progress}
use Rattle.vm_attempt.specs.declared.progress.Progress.TheVariants as progress
use Rattle.vm_attempt.specs.declared.progress.Reply.{Reply}
use Rattle.vm_attempt.specs.declared.progress.Reply.TheVariants as reply
use Rattle.vm_attempt.specs.Agreement.{IsCutShort, CallRefused}
use Rattle.vm_attempt.specs.Blames.{BlamedAt, CannotSkip, IfError, IsBlamed, KeptBlame, LacksInput, RefusedCall, first_input, no_input_fault, skip_fault, the_input}
use Rattle.vm_attempt.specs.Blames.Blame.{Memory, NoInput, NoSkip, Call}
use Rattle.journal_entries.specs.JournalFrames.{commands_among, notifications_among}
use Rattle.vm_attempt.specs.Journals.{HasAll, StillWaits, machine_fed, with_missing, setup_for}
use Rattle.vm_attempt.specs.Record.{Record, Said, all_said, heard}
use Rattle.vm_attempt.specs.Stepping.{Advances, MakesStep, LacksMemory, InputIsRead, StepAt, StepDoes, StepFrom, StepUnless, step_asked, future_in, progress_of}
use Rattle.vm_attempt.specs.Stepping as stepping
use Rattle.vm_attempt.specs.Steps.{Performs}
use Rattle.vm_attempt.specs.Told.{BeforeInput, Begun, JournalCame, Comes, HasCome, IsKeptUnder, IsLive, Premises, HandlerRuns, begun, frames_fed, start_state}
use Rattle.vm_attempt.proofs.Advanced.{runs_of}
use Rattle.vm_attempt.proofs.Ahead.{Fewer, ahead, ahead_in, fewer_same}
use Rattle.vm_attempt.proofs.Blamed.{alive_blamed, over_blamed}
use Rattle.vm_attempt.proofs.Following.{agreeing_follows}
use Rattle.vm_attempt.proofs.Sending.{IsLeft, step_leaves}
use Rattle.vm_attempt.proofs.Stepped.{asks_next}
use Rattle.vm_model.specs.Fixed.{Fixed}

none_some : {A : Type 0} (e : Error) → None ≡ Some e → A
none_some e h = absurd (cc)

-- a call that failed has failed the machine, which hadn't
pub called_failed : {A : Type 0} (v : Machine) (o : Outcome A) (e : Error) (w : Machine) → v.failure ≡ None → called o v ≡ Failed e w → (w.failure ≡ Some e) × ((d : Error) × (u : Machine) × (o ≡ Failed d u) × (e ≡ ruled u d))
unfolding called
called_failed {A} v o e w live is = by_outcome o (ap (λ f. called_at f o v) (sym live) ∙ is)
  where
    by_outcome : (q : Outcome A) → settled q ≡ Failed e w → (w.failure ≡ Some e) × ((d : Error) × (u : Machine) × (q ≡ Failed d u) × (e ≡ ruled u d))
    by_outcome (Done a x) h = absurd (cc)
    by_outcome (Failed d x) h =
        let at : failed (ruled x d) x ≡ w = cc in
        let told : ruled x d ≡ e = cc in
        (ap (λ (z : Machine). z.failure) (sym at) ∙ ap (λ y. Some y) told, (d, x, refl, sym told))

called_done : {A : Type 0} (v : Machine) (o : Outcome A) (a : A) (w : Machine) → v.failure ≡ None → called o v ≡ Done a w → o ≡ Done a w
unfolding called
called_done {A} v o a w live is = by_outcome o (ap (λ f. called_at f o v) (sym live) ∙ is)
  where
    by_outcome : (q : Outcome A) → settled q ≡ Done a w → q ≡ Done a w
    by_outcome (Done b x) h = h
    by_outcome (Failed e x) h = absurd (cc)

-- a machine whose only failure is this error, and the reason for it
pub error_blamed : (fixed : Fixed) (over : Option Progress) (fed : Heard) (said : Said) (answers : List Answer) (w : Machine) (e : Error) → w.failure ≡ Some e → KeptBlame fixed fed said answers e → BlamedAt fixed over fed said answers w
error_blamed fixed over fed said answers w e is b = record {
  open_yet = λ going none. none_some e (sym none ∙ is);
  blame = λ going d some. subst (KeptBlame fixed fed said answers) (same_Some e d (sym is ∙ some)) b;
}

-- ---- the input is read

-- an event that is done leaves the machine alive and open, and lets no run be handed out more often
abbrev pub Opens : {A : Type 0} → Machine → Outcome A → Type 0
Opens v (Done a w) = (w.failure ≡ v.failure) × (is_closed w.phase ≡ false) × Fewer v w
Opens v (Failed e w) = Unit {0}

open_phase : (left : List RawMessage) → is_closed (phase_after left) ≡ false
open_phase [] = refl
open_phase (c ∷ left) = refl

read_opens : (o : Option InputCommand) (v w : Machine) → w.failure ≡ v.failure → is_closed w.phase ≡ false → Fewer v w → Opens v (input_read o w)
read_opens None v w f p n = tt
read_opens (Some c) v w f p n = (f, p, n)

popped_opens : (commands : List RawMessage) (v w : Machine) → w.failure ≡ v.failure → Fewer v w → Opens v (popped_from commands type.InputCommand w >>> λ raw u. input_read (input_in raw.body) u)
popped_opens [] v w f n = tt
popped_opens (raw ∷ rest) v w f n = by_test (type_number raw.ty == type_number type.InputCommand)
  where
    u : Machine
    u = record w { commands = rest; phase = phase_after rest }

    by_test : (b : Bool) → Opens v ((if b then Done raw u else Failed (about_last fault.CommandTypeMismatch u) u) >>> λ raw u. input_read (input_in raw.body) u)
    by_test true = read_opens (input_in raw.body) v u f (open_phase rest) n
    by_test false = tt

counted_opens : (o : Option NamedFault) (v : Machine) → Opens v (input_counted o v)
unfolding popped
counted_opens (Some name) v = tt
counted_opens None v = popped_opens v.commands v (entered type.InputCommand [] v) refl (fewer_same v)

-- if the commands after the input are dropped, no handle is given and no run is called
skipped_opens : (counters : Counters) (v : Machine) → counters.handle ≡ v.counters.handle → (o : Outcome Input) → input_counted None v ≡ o → Opens v (o >>> λ input w. Done input (skipped counters w))
skipped_opens counters v handles (Failed e w) is = tt
skipped_opens counters v handles (Done input w) is =
    let p = counted_is None v input w is in (
      ap (λ (x : Machine). x.failure) p.left,
      refl,
      λ handle. subst (λ n. n ≤ ahead handle v) (λ i. ahead_in handle (sym (ap (λ (x : Machine). x.runs) p.left) i) (sym handles i)) (fewer_same v handle),
    )

numbered_opens : (dropped id : ℕ) (v : Machine) (r : Result Counters NamedFault) → counters_past dropped id v.counters ≡ r → Opens v (input_numbered r v)
numbered_opens dropped id v (Err name) is = tt
numbered_opens dropped id v (Ok counters) is = skipped_opens counters v (past_handle dropped id v.counters counters is) (input_counted None v) refl

past_opens : (o : Option ℕ) (v : Machine) → Opens v (input_past o v)
past_opens None v = tt
past_opens (Some id) v = numbered_opens (length (drop 1 v.commands)) id v (counters_past (length (drop 1 v.commands)) id v.counters) refl

by_opens : (b : Bool) (v : Machine) → Opens v (input_by b v)
by_opens false v = counted_opens (lacking 0 0 0 v.counters) v
by_opens true v = past_opens (past_all v.counters.completion (drop 1 v.commands)) v

pub input_opens : (v : Machine) → Opens v (input_step v)
unfolding input_step
input_opens v = by_phase v.phase
  where
    by_phase : (ph : Phase) → Opens v (input_at ph v)
    by_phase WaitingStart = tt
    by_phase WaitingReplayEntries = tt
    by_phase Replaying = by_opens (skips_replay v.options.journal_replay) v
    by_phase Processing = tt
    by_phase Closed = tt

-- an input that isn't read: the first command is none
counted_lacks : (cs : List RawMessage) (v : Machine) → v.commands ≡ cs → (d : Error) (u : Machine) → input_counted None v ≡ Failed d u → first_input cs ≡ None
unfolding popped
counted_lacks cs v at d u h = from cs (subst (λ l. (popped_from l type.InputCommand (entered type.InputCommand [] v) >>> λ raw w. input_read (input_in raw.body) w) ≡ Failed d u) at h)
  where
    from : (cs : List RawMessage) → (popped_from cs type.InputCommand (entered type.InputCommand [] v) >>> λ raw w. input_read (input_in raw.body) w) ≡ Failed d u → first_input cs ≡ None
    from [] h = refl
    from (raw ∷ rest) h = by_type (type_number raw.ty == type_number type.InputCommand) h
      where
        w : Machine
        w = popped_input rest v

        by_input : (o : Option InputCommand) → input_read o w ≡ Failed d u → o ≡ None
        by_input None h = refl
        by_input (Some c) h = absurd (cc)

        by_type : (b : Bool) → ((if b then Done raw w else Failed (about_last fault.CommandTypeMismatch w) w) >>> λ raw x. input_read (input_in raw.body) x) ≡ Failed d u → (if b then input_in raw.body else None) ≡ None
        by_type true h = by_input (input_in raw.body) h
        by_type false h = refl

-- the error of an event that failed, and what its machine was made for
same_failed : (a d : Error) (w u : Machine) (o : Outcome Input) → o ≡ Failed a w → o ≡ Failed d u → (d ≡ a) × (u.version ≡ w.version) × (u.options ≡ w.options)
same_failed a d w u o is at =
    let error : a ≡ d = cc in
    let machine : w ≡ u = cc in
    (sym error, ap (λ (z : Machine). z.version) (sym machine), ap (λ (z : Machine). z.options) (sym machine))

-- an input that isn't read: what the error says
counted_says : (cs : List RawMessage) (v : Machine) → v.commands ≡ cs → (d : Error) (u : Machine) → input_counted None v ≡ Failed d u
    → (d ≡ about_last (no_input_fault cs) (entered type.InputCommand [] v)) × (u.version ≡ v.version) × (u.options ≡ v.options)
unfolding popped
counted_says cs v at d u h = from cs (subst (λ l. (popped_from l type.InputCommand (entered type.InputCommand [] v) >>> λ raw w. input_read (input_in raw.body) w) ≡ Failed d u) at h)
  where
    from : (cs : List RawMessage) → (popped_from cs type.InputCommand (entered type.InputCommand [] v) >>> λ raw w. input_read (input_in raw.body) w) ≡ Failed d u → (d ≡ about_last (no_input_fault cs) (entered type.InputCommand [] v)) × (u.version ≡ v.version) × (u.options ≡ v.options)
    from [] h = same_failed (about_last fault.UnavailableEntry (entered type.InputCommand [] v)) d (entered type.InputCommand [] v) u (Failed d u) (sym h) refl
    from (raw ∷ rest) h = by_type (type_number raw.ty == type_number type.InputCommand) h
      where
        by_input : (o : Option InputCommand) → input_read o (popped_input rest v) ≡ Failed d u → (d ≡ about_last fault.BadMessage (entered type.InputCommand [] v)) × (u.version ≡ v.version) × (u.options ≡ v.options)
        by_input None h = same_failed (about_last fault.BadMessage (entered type.InputCommand [] v)) d (popped_input rest v) u (Failed d u) (sym h) refl
        by_input (Some c) h = absurd (cc)

        by_type : (b : Bool) → ((if b then Done raw (popped_input rest v) else Failed (about_last fault.CommandTypeMismatch (popped_input rest v)) (popped_input rest v)) >>> λ raw x. input_read (input_in raw.body) x) ≡ Failed d u
            → (d ≡ about_last (if b then fault.BadMessage else fault.CommandTypeMismatch) (entered type.InputCommand [] v)) × (u.version ≡ v.version) × (u.options ≡ v.options)
        by_type true h = by_input (input_in raw.body) h
        by_type false h = same_failed (about_last fault.CommandTypeMismatch (entered type.InputCommand [] v)) d (popped_input rest v) u (Failed d u) (sym h) refl

-- recorded commands are skipped
skips_disabled : (option : JournalReplay) → skips_replay option ≡ true → option ≡ Disabled
skips_disabled Enabled h = absurd (cc)
skips_disabled Disabled h = refl

-- the first command is no input, or recorded commands can't be skipped; with this error
abbrev Lacks : Fixed → Heard → Error → Type 0
Lacks fixed fed e = LacksInput fixed (frames_fed fed) e ⊎ CannotSkip fixed (frames_fed fed) e

-- an input that isn't read: the journal has none, or its commands can't be skipped
read_lacks : (fixed : Fixed) (fed : Heard) (v : Machine) (b : Begun fixed fed v) (h : HasAll (setup_for fixed b.start) (record { entries = b.state; coverage = coverage_of b.start.partial }) b.aside b.start.known_entries [] [] b.others v)
    → (d : Error) (u : Machine) → input_step v ≡ Failed d u → (e : Error) → e ≡ ruled u d → Lacks fixed fed e
unfolding input_step
read_lacks fixed fed v b h d u is err ruling = fails (sym (ap input_step h.machine) ∙ is)
  where
    s : Setup
    s = setup_for fixed b.start

    given : StateMap
    given = record { entries = b.state; coverage = coverage_of b.start.partial }

    cs : List RawMessage
    cs = commands_among h.entries

    x : Machine
    x = machine_fed s given (with_missing 0 b.aside) cs (notifications_among b.others) Replaying

    frames : frames_fed fed ≡ b.first_frame ∷ (h.entries ++ h.others)
    frames = b.frames ∙ ap (λ l. b.first_frame ∷ l) h.split

    -- what failed says this, in a machine that was made for this version and these options
    says : (a : Error) → (d ≡ a) × (u.version ≡ fixed.version) × (u.options ≡ fixed.options) → err ≡ ruled_by fixed.version fixed.options a
    says a p = ruling ∙ λ i. ruled_by (p.1 i) (p.2 i) (p.0 i)

    lacks : input_counted None x ≡ Failed d u → Lacks fixed fed err
    lacks e = inl (record { first = b.first_frame; entries = h.entries; others = h.others; is = frames; start = b.start; reads = b.reads_start; count = h.count; none = counted_lacks cs x refl d u e; error = says (named_error (no_input_fault cs) (Some the_input)) (counted_says cs x refl d u e) })

    cannot : skips_replay fixed.options.journal_replay ≡ true → (why : NamedFault) → skip_fault (length (drop 1 cs)) (past_all 1 (drop 1 cs)) ≡ Some why → (d ≡ named_error why (Some the_input)) × (u.version ≡ fixed.version) × (u.options ≡ fixed.options) → Lacks fixed fed err
    cannot skips why reason p = inr (record { skips = skips_disabled fixed.options.journal_replay skips; first = b.first_frame; entries = h.entries; others = h.others; is = frames; start = b.start; reads = b.reads_start; count = h.count; why = why; reason = reason; error = says (named_error why (Some the_input)) p })

    behind_input : (counters : Counters) (o : Outcome Input) → input_counted None x ≡ o → (o >>> λ input w. Done input (skipped counters w)) ≡ Failed d u → input_counted None x ≡ Failed d u
    behind_input counters (Done input w) at e = absurd (cc)
    behind_input counters (Failed f w) at e = at ∙ e

    by_counters : skips_replay fixed.options.journal_replay ≡ true → (id : ℕ) → past_all 1 (drop 1 cs) ≡ Some id → (r : Result Counters NamedFault) → counters_past (length (drop 1 cs)) id fresh_counters ≡ r → input_numbered r x ≡ Failed d u → Lacks fixed fed err
    by_counters skips id past (Err name) counts e = cannot skips name (ap (skip_fault (length (drop 1 cs))) past ∙ ap result_err counts) (same_failed (named_error name (Some the_input)) d x u (Failed d u) (sym e) refl)
    by_counters skips id past (Ok counters) counts e = lacks (behind_input counters (input_counted None x) refl e)

    by_past : skips_replay fixed.options.journal_replay ≡ true → (o : Option ℕ) → past_all 1 (drop 1 cs) ≡ o → input_past o x ≡ Failed d u → Lacks fixed fed err
    by_past skips None past e = cannot skips fault.BadMessage (ap (skip_fault (length (drop 1 cs))) past) (same_failed (named_error fault.BadMessage (Some the_input)) d (entered type.InputCommand [] x) u (Failed d u) (sym e) refl)
    by_past skips (Some id) past e = by_counters skips id past (counters_past (length (drop 1 cs)) id fresh_counters) refl e

    by_skip : (b : Bool) → skips_replay fixed.options.journal_replay ≡ b → input_by b x ≡ Failed d u → Lacks fixed fed err
    by_skip false skips e = lacks e
    by_skip true skips e = by_past skips (past_all 1 (drop 1 cs)) refl e

    fails : input_step x ≡ Failed d u → Lacks fixed fed err
    fails e = by_skip (skips_replay fixed.options.journal_replay) refl e

waits_not : {A : Type 0} (v : Machine) → is_running v.phase ≡ true → is_running v.phase ≡ false → A
waits_not v runs not_yet = absurd (let z : true ≡ false = sym runs ∙ not_yet in cc)

input_lacks : (fixed : Fixed) (fed : Heard) (v : Machine) → is_running v.phase ≡ true → (d : Error) (u : Machine) → input_step v ≡ Failed d u → (e : Error) → e ≡ ruled u d → Comes fixed fed v → Lacks fixed fed e
input_lacks fixed fed v runs d u is e ruling =
    ⊎_elim
    (λ (x : (frames_fed fed ≡ []) × ((alloc : Global) × (v ≡ fresh alloc fixed.version fixed.options))). waits_not v runs (ap (λ (z : Machine). is_running z.phase) x.1.1))
    (λ (b : Begun fixed fed v).
    ⊎_elim
    (λ (x : StillWaits (setup_for fixed b.start) (record { entries = b.state; coverage = coverage_of b.start.partial }) b.aside b.start.known_entries [] [] b.others v). waits_not v runs (ap (λ (z : Machine). is_running z.phase) x.machine))
    (λ (x : HasAll (setup_for fixed b.start) (record { entries = b.state; coverage = coverage_of b.start.partial }) b.aside b.start.known_entries [] [] b.others v). read_lacks fixed fed v b x d u is e ruling)
    b.waits)

reads_blamed : (fixed : Fixed) (old : Record) (result : Result Progress Error) (new : Record) → BeforeInput fixed (heard fixed.version old) old.answers old.waiting old.taken old.vm → IsLive old.vm.machine → InputIsRead old result new → IsBlamed fixed new
reads_blamed fixed old (Ok made) new b live (stepped, (i, w, does, is)) =
    let o = subst (Opens old.vm.machine) (called_done old.vm.machine (input_step old.vm.machine) i w.machine live.failure does.0) (input_opens old.vm.machine) in
    subst (IsBlamed fixed) (sym is) (alive_blamed fixed _ _ _ _ w.machine (o.0 ∙ live.failure) (λ closed. let z : false ≡ true = sym o.1 ∙ ap is_closed closed in absurd (cc)))
reads_blamed fixed old (Err e) new b live (w, does, is) =
    subst (IsBlamed fixed) (sym is)
    (⊎_elim
    (λ (x : called (input_step old.vm.machine) old.vm.machine ≡ Failed e w.machine).
    let f = called_failed old.vm.machine (input_step old.vm.machine) e w.machine live.failure x in
    error_blamed fixed _ _ _ _ w.machine e f.0
    (⊎_elim (λ (y : LacksInput fixed (frames_fed (heard fixed.version old)) e). NoInput y) (λ (y : CannotSkip fixed (frames_fed (heard fixed.version old)) e). NoSkip y) (input_lacks fixed (heard fixed.version old) old.vm.machine live.phase f.1.0 f.1.1 f.1.2 e f.1.3 (b.comes live.failure))))
    (λ (x : IsStarved old.vm.machine e w.machine). starves old w e live.failure x)
    does.0)
  where
    starves : (r : Record) (w : View) (e : Error) → r.vm.machine.failure ≡ None → IsStarved r.vm.machine e w.machine → BlamedAt fixed r.over (heard fixed.version r) (all_said r) r.answers w.machine
    starves r w e live x = error_blamed fixed _ _ _ _ w.machine no_memory (x.failure ∙ ap (λ (f : Option Error). Some (unwrap_or f no_memory)) live) (Memory refl)

-- ---- the handler's call

module _ (fixed : Fixed) (r : Record) (under : Premises fixed (heard fixed.version r)) (k : HandlerRuns fixed (heard fixed.version r) r.answers r.waiting r.taken r.vm) (live : IsLive r.vm.machine) (w : View) where
  refused_call : (e : Error) → CallRefused (setup_for fixed k.journal.start) fixed.handler (start_state k.journal) k.at r.vm.machine e w.machine → RefusedCall fixed (heard fixed.version r) r.answers e
  refused_call e g =
      let a = k.agrees live in
      record {
        journal = k.journal;
        written = k.written ++ g.made;
        at = g.at;
        moves = k.moves + g.moves.moves;
        made = made_add (setup_for fixed k.journal.start) fixed.handler (Handed (start_state k.journal)) k.moves g.moves.moves (begun fixed k.journal) k.written k.at g.made g.at k.run g.moves.run;
        answers = g.moves.answers ∙ append-nil k.at.answers ∙ k.answers;
        why = g.why;
        reason = g.reason;
        related = g.related;
        error = g.error ∙ ap (λ (z : Machine). ruled z (named_error g.why g.related)) a.machine;
      }

  -- the handler's call was refused, or memory ran out
  call_refused : (e : Error) → Performs (step_asked fixed.handler r) r.vm.machine (Failed e w.machine) → (e ≡ no_memory) ⊎ RefusedCall fixed (heard fixed.version r) r.answers e
  call_refused e does =
      let same : step_asked fixed.handler r ≡ fixed.handler k.at.answers = asks_next fixed.handler k.at r.answers r.waiting k.answers k.awaits in
      ⊎_elim
      (λ (x : CallRefused (setup_for fixed k.journal.start) fixed.handler (start_state k.journal) k.at r.vm.machine e w.machine). inr (refused_call e x))
      (λ (x : IsCutShort (setup_for fixed k.journal.start) fixed.handler (start_state k.journal) k.at r.vm.machine e w.machine). inl x.error)
      (agreeing_follows (setup_for fixed k.journal.start) fixed.handler (start_state k.journal) k.written r.vm.machine k.at (Failed e w.machine) (λ future _. (under.queues, under.once k.journal k.moves k.written k.at k.run)) (k.rests live) (k.agrees live) (subst (λ q. Performs q r.vm.machine (Failed e w.machine)) same does) (tt {0}))

asks_blamed : (fixed : Fixed) (old : Record) (result : Result Progress Error) (new : Record) → (Premises fixed (heard fixed.version old) → HandlerRuns fixed (heard fixed.version old) old.answers old.waiting old.taken old.vm) → (old.vm.machine.version ≡ fixed.version) × (old.vm.machine.options ≡ fixed.options) → IsLive old.vm.machine → MakesStep fixed.handler old result new → IsBlamed fixed new
asks_blamed fixed old result new runs made_for live (x, w, does, is, made) = subst (IsBlamed fixed) (sym is) (by_reply x (step_leaves (step_asked fixed.handler old) old.vm.machine live x w.machine does.0.0) does.0.0)
  where
    -- a VM whose handler runs
    running : (answers : List Answer) → w.machine.failure ≡ old.vm.machine.failure → is_running w.machine.phase ≡ true → BlamedAt fixed old.over (heard fixed.version old) (all_said old) answers w.machine
    running answers failure at = alive_blamed fixed old.over (heard fixed.version old) (all_said old) answers w.machine (failure ∙ live.failure) (λ closed. absurd (let z : false ≡ true = sym (ap is_running closed) ∙ at in cc))

    by_reply : (x : Result Reply Error) → IsLeft old.vm.machine x w.machine → DoesBy (Performs (step_asked fixed.handler old) old.vm.machine) x old.vm.machine w.machine → IsBlamed fixed (stepping.replied old (future_in (step_asked fixed.handler old)) x w)
    by_reply (Ok (reply.Answer a)) h d = running (old.answers ++ a ∷ []) h.failure h.left
    by_reply (Ok (reply.Waiting input run)) h d = running old.answers h.failure h.left
    by_reply (Ok (reply.Execute run)) h d = running old.answers h.failure h.left.0
    by_reply (Ok reply.Suspended) h d = over_blamed fixed progress.Suspended _ _ _ _
    by_reply (Ok reply.Ended) h d = over_blamed fixed progress.Ended _ _ _ _
    by_reply (Err e) h d =
        error_blamed fixed old.over (heard fixed.version old) (all_said old) old.answers w.machine e h.1
        (⊎_elim
        (λ (y : Performs (step_asked fixed.handler old) old.vm.machine (Failed e w.machine)). Call (record { waiting = old.waiting; machine = old.vm.machine; left = w.machine; live = live; made_for = made_for; fails = y }) (λ p. call_refused fixed old p (runs p) live w e y))
        (λ (y : IsStarved old.vm.machine e w.machine). Memory y.error)
        d)

-- ---- a step

advances_blamed : (fixed : Fixed) (old : Record) (result : Result Progress Error) (new : Record) → HasCome fixed old → IsKeptUnder fixed old → IsBlamed fixed old → IsLive old.vm.machine → Advances fixed.handler old result new → IsBlamed fixed new
advances_blamed fixed old result new k u b live =
    ⊎_elim
    (λ (x : LacksMemory old result new). subst (IsBlamed fixed) (sym x.1) b)
    (λ (o : ((old.answers ≡ []) × InputIsRead old result new) ⊎ ((old.answers ≢ []) × MakesStep fixed.handler old result new)).
    ⊎_elim
    (λ (x : (old.answers ≡ []) × InputIsRead old result new).
    ⊎_elim
    (λ (y : BeforeInput fixed (heard fixed.version old) old.answers old.waiting old.taken old.vm). reads_blamed fixed old result new y live x.1)
    (λ (y : JournalCame fixed (heard fixed.version old) old.answers old.taken old.vm). absurd (y.answered x.0))
    k)
    (λ (x : (old.answers ≢ []) × MakesStep fixed.handler old result new). asks_blamed fixed old result new (λ p. runs_of fixed old (u p) x.0) (made_for_of x.0) live x.1)
    o)
  where
    made_for_of : old.answers ≢ [] → (old.vm.machine.version ≡ fixed.version) × (old.vm.machine.options ≡ fixed.options)
    made_for_of some =
        ⊎_elim
        (λ (y : BeforeInput fixed (heard fixed.version old) old.answers old.waiting old.taken old.vm). absurd (some y.answers))
        (λ (y : JournalCame fixed (heard fixed.version old) old.answers old.taken old.vm). y.made_for live)
        k

step_at : (fixed : Fixed) (old : Record) (result : Result Progress Error) (new : Record) → HasCome fixed old → IsKeptUnder fixed old → IsBlamed fixed old → old.vm.machine.failure ≡ None → (ph : Phase) → old.vm.machine.phase ≡ ph → StepAt ph fixed.handler old result new → IsBlamed fixed new
step_at fixed old result new k u b live WaitingStart at d = subst (IsBlamed fixed) (sym d.1) b
step_at fixed old result new k u b live WaitingReplayEntries at d = subst (IsBlamed fixed) (sym d.1) b
step_at fixed old result new k u b live Closed at d = subst (IsBlamed fixed) (sym d.1) b
step_at fixed old result new k u b live Replaying at d = advances_blamed fixed old result new k u b (record { failure = live; phase = ap is_running at }) d
step_at fixed old result new k u b live Processing at d = advances_blamed fixed old result new k u b (record { failure = live; phase = ap is_running at }) d

step_unless : (fixed : Fixed) (old : Record) (result : Result Progress Error) (new : Record) → HasCome fixed old → IsKeptUnder fixed old → IsBlamed fixed old → (f : Option Error) → old.vm.machine.failure ≡ f → (over : Option Progress) → StepUnless f over fixed.handler old result new → IsBlamed fixed new
step_unless fixed old result new k u b (Some e) is over d = subst (IsBlamed fixed) (sym d.1) b
step_unless fixed old result new k u b None is (Some made) d = subst (IsBlamed fixed) (sym d.1) b
step_unless fixed old result new k u b None is None d = step_at fixed old result new k u b is old.vm.machine.phase refl d

pub step_blames : (fixed : Fixed) (old : Record) (result : Result Progress Error) (new : Record) → HasCome fixed old → IsKeptUnder fixed old → IsBlamed fixed old → StepDoes fixed.handler old result new → IsBlamed fixed new
step_blames fixed old result new k u b does = by_test old.starved does
  where
    by_test : (t : Bool) → StepFrom t fixed.handler old result new → IsBlamed fixed new
    by_test true d = subst (IsBlamed fixed) (sym d.1) b
    by_test false d = step_unless fixed old result new k u b old.vm.machine.failure refl old.over d

-- ---- the error of a step

-- an error of a step is out of memory, or the failure of its VM
abbrev pub Errs : Record → Result Progress Error → Record → Type 0
Errs old result new = IfError result (λ e. (e ≡ no_memory) ⊎ ((new.vm.machine.failure ≡ Some e) × (new.over ≡ old.over)))

lacks_errs : (old : Record) (result : Result Progress Error) (new : Record) → result ≡ Err no_memory → Errs old result new
lacks_errs old result new is = subst (λ x. Errs old x new) (sym is) (inl refl)

made_errs : (old : Record) (made : Progress) (result : Result Progress Error) (new : Record) → result ≡ Ok made → Errs old result new
made_errs old made result new is = subst (λ x. Errs old x new) (sym is) tt

reads_errs : (old : Record) (result : Result Progress Error) (new : Record) → old.vm.machine.failure ≡ None → InputIsRead old result new → Errs old result new
reads_errs old (Ok made) new live d = tt
reads_errs old (Err e) new live (w, does, is) =
    ⊎_elim
    (λ (x : called (input_step old.vm.machine) old.vm.machine ≡ Failed e w.machine). inr (ap (λ (z : Record). z.vm.machine.failure) is ∙ (called_failed old.vm.machine (input_step old.vm.machine) e w.machine live x).0, ap (λ (z : Record). z.over) is))
    (λ (x : IsStarved old.vm.machine e w.machine). inl x.error)
    does.0

asks_errs : (m : Meaning) (old : Record) (result : Result Progress Error) (new : Record) → IsLive old.vm.machine → MakesStep m old result new → Errs old result new
asks_errs m old result new live (x, w, does, is, made) = subst (λ z. Errs old z new) (sym made) (by_reply x (step_leaves (step_asked m old) old.vm.machine live x w.machine does.0.0) is)
  where
    by_reply : (x : Result Reply Error) → IsLeft old.vm.machine x w.machine → new ≡ stepping.replied old (future_in (step_asked m old)) x w → Errs old (progress_of x) new
    by_reply (Ok (reply.Answer a)) h at = tt
    by_reply (Ok (reply.Waiting input run)) h at = tt
    by_reply (Ok (reply.Execute run)) h at = tt
    by_reply (Ok reply.Suspended) h at = tt
    by_reply (Ok reply.Ended) h at = tt
    by_reply (Err e) h at = inr (ap (λ (z : Record). z.vm.machine.failure) at ∙ h.1, ap (λ (z : Record). z.over) at)

advances_errs : (m : Meaning) (old : Record) (result : Result Progress Error) (new : Record) → IsLive old.vm.machine → Advances m old result new → Errs old result new
advances_errs m old result new live =
    ⊎_elim
    (λ (x : LacksMemory old result new). lacks_errs old result new x.0)
    (λ (o : ((old.answers ≡ []) × InputIsRead old result new) ⊎ ((old.answers ≢ []) × MakesStep m old result new)).
    ⊎_elim
    (λ (x : (old.answers ≡ []) × InputIsRead old result new). reads_errs old result new live.failure x.1)
    (λ (x : (old.answers ≢ []) × MakesStep m old result new). asks_errs m old result new live x.1)
    o)

errs_at : (fixed : Fixed) (old : Record) (result : Result Progress Error) (new : Record) → IsBlamed fixed old → old.over ≡ None → old.vm.machine.failure ≡ None → (ph : Phase) → old.vm.machine.phase ≡ ph → StepAt ph fixed.handler old result new → Errs old result new
errs_at fixed old result new b going live WaitingStart at d = made_errs old progress.NotReady result new d.0
errs_at fixed old result new b going live WaitingReplayEntries at d = made_errs old progress.NotReady result new d.0
errs_at fixed old result new b going live Closed at d = absurd (b.open_yet going live at)
errs_at fixed old result new b going live Replaying at d = advances_errs fixed.handler old result new (record { failure = live; phase = ap is_running at }) d
errs_at fixed old result new b going live Processing at d = advances_errs fixed.handler old result new (record { failure = live; phase = ap is_running at }) d

errs_unless : (fixed : Fixed) (old : Record) (result : Result Progress Error) (new : Record) → IsBlamed fixed old → old.over ≡ None → (f : Option Error) → old.vm.machine.failure ≡ f → (over : Option Progress) → StepUnless f over fixed.handler old result new → Errs old result new
errs_unless fixed old result new b going (Some e) is over d =
    ⊎_elim
    (λ (x : result ≡ Err e). subst (λ z. Errs old z new) (sym x) (inr (ap (λ (z : Record). z.vm.machine.failure) d.1 ∙ is, ap (λ (z : Record). z.over) d.1)))
    (λ (x : result ≡ Err no_memory). lacks_errs old result new x)
    d.0
errs_unless fixed old result new b going None is (Some made) d = made_errs old made result new d.0
errs_unless fixed old result new b going None is None d = errs_at fixed old result new b going is old.vm.machine.phase refl d

pub step_errs : (fixed : Fixed) (old : Record) (result : Result Progress Error) (new : Record) → IsBlamed fixed old → old.over ≡ None → StepDoes fixed.handler old result new → Errs old result new
step_errs fixed old result new b going does = by_test old.starved does
  where
    by_test : (t : Bool) → StepFrom t fixed.handler old result new → Errs old result new
    by_test true d = lacks_errs old result new d.0
    by_test false d = errs_unless fixed old result new b going old.vm.machine.failure refl old.over d
