-- What the steps of a replay show, and what is so of a journal by it: it is a history, and can be replayed as rounds ask.
use Rattle.std.proofs.Common.{◌≡◌, ◌≢◌, ◌++◌, ◌+◌, ◌-◌, ◌≤◌, ◌<◌, ℕ, zero, suc, List, Result, Ok, Err, false, refl, sym, ap, ◌∙◌, subst, append-nil, arith, Global}
use Rattle.std.specs.Prelude.{IfOk}
use Rattle.std.specs.List.{concat}
use Rattle.std.specs.Result.{is_err}
use Rattle.std.specs.declared.alloc.AllocError.{AllocError}
use Rattle.journal_protocol.specs.Error.{Error}
use Rattle.journal_protocol.specs.Errors.{no_memory}
use Rattle.journal_protocol.specs.Frames.{IsWhole, encoding}
use Rattle.journal_protocol.specs.Version.{Version}
use Rattle.journal_entries.specs.Entries.{journal_entries}
use Rattle.journal_entries.specs.declared.fault.JournalFault.{JournalFault}
use Rattle.vm_types.specs.declared.types.State.{State}
use Rattle.vm_types.specs.declared.types.State.TheVariants as state
use Rattle.vm_machine.specs.Queries.{state_of}
use Rattle.invocation_vm.specs.Making.{made}
use Rattle.vm_model.specs.Calls.{Meaning}
use Rattle.vm_attempt.specs.declared.progress.Progress.{Progress}
use Rattle.vm_attempt.specs.Record.{Record, heard}
use Rattle.vm_attempt.specs.Stepping.{FeedDoes, StepDoes, StepFunction, fresh_record}
use Rattle.vm_attempt.specs.Courses.{Leads}
use Rattle.vm_attempt.specs.Courses.OneCall.{Feeding, Stepping}
use Rattle.vm_attempt.specs.Told.{bytes_fed, bytes_in}
use Rattle.vm_attempt.proofs.Under.{step_fed}
use Rattle.world_rounds.specs.declared.types.Round.{Round}
use Rattle.world_rounds.specs.declared.types.Setting.{Setting}
use Rattle.world_rounds.specs.Guarantees.{Case, HasOneResultEach, HasRightReads, IsHistory, IsReplayable}
use Rattle.world_rounds.specs.Rounds.{ReplaysAndQueues}
use Rattle.world_rounds.specs.States.{HaveTextKeys, base_of, pairs_for}
use Rattle.world_rounds.specs.Worlds.{IsJournal, fixed_in, setup_of, start_message}
use Rattle.world_rounds.proofs.Completing.{completes_once_too}
use Rattle.world_rounds.proofs.Replaying.{replay_premises, world_history}
use Rattle.world_rounds.proofs.Takeover.{reads_over}
use Rattle.world_laws.specs.declared.outcome.ReplayOutcome.{ReplayOutcome}
use Rattle.world_laws.specs.declared.outcome.ReplayOutcome.TheVariants as outcome
use Rattle.world_laws.specs.Replays.{AttemptShows, IsFedAlone, JournalSetsAreCompared, StepsMade, StepsShow, case_with, shown_at}
use Rattle.world_laws.proofs.Relating.{told_sound}
use Rattle.world_laws.proofs.Replaying.{calls_prove}

-- ---- steps

-- one more step after them
pub steps_more : (m : StepFunction) (n : ℕ) (old mid : Record) (progress : Progress) (new : Record) → StepsMade m n old mid → state_of mid.vm.machine ≡ state.Replaying → StepDoes m mid (Ok progress) new → StepsMade m (suc n) old new
steps_more m zero old mid progress new is at does = (subst (λ (r : Record). state_of r.vm.machine ≡ state.Replaying) is at, new, progress, subst (λ (r : Record). StepDoes m r (Ok progress) new) is does, refl)
steps_more m (suc n) old mid progress new (here, next, made, first, more) at does = (here, next, made, first, steps_more m n next mid progress new more at does)

-- steps are calls of an attempt
steps_lead : (m : StepFunction) (n : ℕ) (old new : Record) → StepsMade m n old new → Leads m n old new
steps_lead m zero old new is = is
steps_lead m (suc n) old new (at, mid, progress, does, more) = (mid, Stepping (Ok progress) does, steps_lead m n mid new more)

-- what was fed stays over them
steps_heard : (version : Version) (m : StepFunction) (n : ℕ) (old new : Record) → StepsMade m n old new → heard version new ≡ heard version old
steps_heard version m zero old new is = ap (heard version) is
steps_heard version m (suc n) old new (at, mid, progress, does, more) = steps_heard version m n mid new more ∙ step_fed version m old (Ok progress) mid does

-- a number of steps was made, and this number of the limit is left
pub record Stepped (m : StepFunction) (limit left : ℕ) (old new : Record) : Type 0 where
  pub n : ℕ
  pub count : n + left ≡ limit
  pub steps : StepsMade m n old new

none_made : (limit : ℕ) → 0 + limit ≡ limit
none_made limit = omega arith

pub none_stepped : (m : StepFunction) (limit : ℕ) (r : Record) → Stepped m limit limit r r
none_stepped m limit r = record { n = zero; count = none_made limit; steps = refl }

less : (n left limit : ℕ) → n + left ≡ limit → n ≤ limit
less n left limit is = omega arith

lesser : (n left limit : ℕ) → n + left ≡ limit → 0 < left → n < limit
lesser n left limit is some = omega arith

all_made : (n left limit : ℕ) → n + left ≡ limit → left ≡ 0 → n ≡ limit
all_made n left limit is none = omega arith

pub one_stepped : (m : StepFunction) (limit left : ℕ) (old mid : Record) (progress : Progress) (new : Record) → Stepped m limit left old mid → 0 < left → state_of mid.vm.machine ≡ state.Replaying → StepDoes m mid (Ok progress) new → Stepped m limit (left - 1) old new
one_stepped m limit left old mid progress new x some at does = record {
  n = suc x.n;
  count = same x.n left limit x.count some;
  steps = steps_more m x.n old mid progress new x.steps at does;
}
  where
    same : (n left limit : ℕ) → n + left ≡ limit → 0 < left → suc n + (left - 1) ≡ limit
    same n left limit is some = omega arith

-- no further step is made
pub rest_shows : (m : StepFunction) (limit left : ℕ) (old new : Record) (shown : State) → Stepped m limit left old new → state_of new.vm.machine ≡ shown → (shown ≡ state.Replaying → left ≡ 0) → StepsShow m limit old new (shown_at shown)
rest_shows m limit left old new state.Processing x is none = (x.n, less x.n left limit x.count, x.steps, is)
rest_shows m limit left old new state.Replaying x is none = (subst (λ n. StepsMade m n old new) (all_made x.n left limit x.count (none refl)) x.steps, is)
rest_shows m limit left old new state.WaitingPreFlight x is none = (
  x.n,
  less x.n left limit x.count,
  x.steps,
  λ e. let z : state.WaitingPreFlight ≡ state.Replaying = sym is ∙ e in absurd (cc),
  λ e. let z : state.WaitingPreFlight ≡ state.Processing = sym is ∙ e in absurd (cc),
)
rest_shows m limit left old new state.Closed x is none = (
  x.n,
  less x.n left limit x.count,
  x.steps,
  λ e. let z : state.Closed ≡ state.Replaying = sym is ∙ e in absurd (cc),
  λ e. let z : state.Closed ≡ state.Processing = sym is ∙ e in absurd (cc),
)

-- a step is refused, unless memory ran out
pub refused_shows : (m : StepFunction) (limit left : ℕ) (old mid new : Record) (e : Error) (r : Result ReplayOutcome AllocError) → Stepped m limit left old mid → 0 < left → state_of mid.vm.machine ≡ state.Replaying → StepDoes m mid (Err e) new → IfOk r (λ o. o ≡ outcome.Differs e) → IfOk r (λ o. e ≢ no_memory)
    → IfOk r (λ o. StepsShow m limit old new o)
refused_shows m limit left old mid new e (Ok o) x some at does differs memory =
    subst (StepsShow m limit old new) (sym differs) (x.n, lesser x.n left limit x.count some, mid, x.steps, at, does, memory)
refused_shows m limit left old mid new e (Err a) x some at does differs memory = tt

-- ---- an attempt

fed_well : (alloc : Global) (w : Setting) (piece : List ℕ) (first a : Record) (result : Result Unit AllocError) → first ≡ fresh_record (made alloc w.options w.version) → is_err result ≡ false → FeedDoes first.starved piece first result a → FeedDoes false piece (fresh_record (made alloc w.options w.version)) (Ok tt) a
fed_well alloc w piece first a (Ok t) new well does = subst (λ (r : Record). FeedDoes r.starved piece r (Ok t) a) new does
fed_well alloc w piece first a (Err e) new well does = absurd (cc)

-- an attempt was fed Start and the journal at once, and made its steps
pub attempt_shows : (alloc : Global) (m : Meaning) (w : Setting) (round : Round) (journal : List (List ℕ)) (bytes : List ℕ) (first a b : Record) (fed : Result Unit AllocError) (m' : Meaning) (limit : ℕ) (r : Result ReplayOutcome AllocError) → IsJournal journal → round.partial ≡ false → IsWhole (start_message w round journal) → HaveTextKeys (pairs_for w round journal) → bytes ≡ encoding (start_message w round journal) ++ concat journal
    → first ≡ fresh_record (made alloc w.options w.version) → is_err fed ≡ false → FeedDoes first.starved bytes first fed a → m' ≡ m → IfOk r (λ o. StepsShow m' limit a b o) → IfOk r (λ o. AttemptShows (case_with m w) journal limit o)
attempt_shows alloc m w round journal bytes first a b fed m' limit (Ok o) j all whole texts is new well does m_is shown = record {
  is_journal = j;
  alloc = alloc;
  round = round;
  whole = all;
  start = whole;
  texts = texts;
  fed = a;
  feeds = subst (λ l. FeedDoes false l (fresh_record (made alloc w.options w.version)) (Ok tt) a) is (fed_well alloc w bytes first a fed new well does);
  left = b;
  steps = subst (λ n. StepsShow n limit a b o) m_is shown;
}
attempt_shows alloc m w round journal bytes first a b fed m' limit (Err e) j all whole texts is new well does m_is shown = tt

-- ---- a journal

-- The calls of an attempt that was fed Start and the journal alone prove that the journal is a history, if no recorded command is left.
pub calls_history : (c : Case) (round : Round) (journal : List (List ℕ)) (alloc : Global) (n : ℕ) (r : Record) → IsFedAlone c.setting round journal r → Leads c.handler n (fresh_record (made alloc c.setting.options c.setting.version)) r → state_of r.vm.machine ≡ state.Processing
    → ReplaysAndQueues c.setting.options → HasOneResultEach c journal → HasRightReads c journal → IsHistory c journal
calls_history c round journal alloc n r x leads is queues once eager =
    let w = c.setting in
    let fed = heard w.version r in
    world_history c.handler w round journal fed x.is_journal x.start x.bytes (calls_prove (fixed_in c.handler w) alloc n r leads is (replay_premises c.handler w round journal fed x.is_journal x.start x.bytes queues once)) eager

-- an older handler whose history it is says that no id has two results, and that its reads are right
pub history_over : (c : Case) (older : Meaning) (journal : List (List ℕ)) → IsJournal journal → (HasOneResultEach c journal → HasRightReads c journal → IsHistory c journal) → IsHistory (case_with older c.setting) journal → IsHistory c journal
history_over c older journal j is h =
    let w = c.setting in
    is (completes_once_too (setup_of w) older c.handler (base_of w) journal j h) (reads_over w older c.handler journal h)

pub calls_take_over : (c : Case) (round : Round) (journal : List (List ℕ)) (alloc : Global) (n : ℕ) (r : Record) → IsFedAlone c.setting round journal r → Leads c.handler n (fresh_record (made alloc c.setting.options c.setting.version)) r → state_of r.vm.machine ≡ state.Processing
    → ReplaysAndQueues c.setting.options → (older : Meaning) → IsHistory (case_with older c.setting) journal → IsHistory c journal
calls_take_over c round journal alloc n r x leads is queues older h = history_over c older journal x.is_journal (calls_history c round journal alloc n r x leads is queues) h

-- a new attempt that was fed a piece was fed its bytes
fed_bytes : (alloc : Global) (w : Setting) (piece : List ℕ) (a : Record) → FeedDoes false piece (fresh_record (made alloc w.options w.version)) (Ok tt) a → bytes_fed (heard w.version a) ≡ piece
fed_bytes alloc w piece a does = ap (λ (r : Record). bytes_in r.fed) does ∙ append-nil piece

attempt_history : (c : Case) (journal : List (List ℕ)) (limit : ℕ) → AttemptShows c journal limit outcome.GoesOn → ReplaysAndQueues c.setting.options → HasOneResultEach c journal → HasRightReads c journal → IsHistory c journal
attempt_history c journal limit x =
    let w = c.setting in
    let piece = encoding (start_message w x.round journal) ++ concat journal in
    let n = x.steps.0 in
    let fed : IsFedAlone w x.round journal x.left = record { is_journal = x.is_journal; start = x.start; bytes = ap bytes_fed (steps_heard w.version c.handler n x.fed x.left x.steps.2) ∙ fed_bytes x.alloc w piece x.fed x.feeds } in
    let leads : Leads c.handler (suc n) (fresh_record (made x.alloc w.options w.version)) x.left = (x.fed, Feeding piece (Ok tt) x.feeds, steps_lead c.handler n x.fed x.left x.steps.2) in
    calls_history c x.round journal x.alloc (suc n) x.left fed leads x.steps.3

abbrev returned : ReplayOutcome → Result ReplayOutcome JournalFault
returned shown = Ok shown

same_shown : (x y : ReplayOutcome) → returned x ≡ returned y → x ≡ y
same_shown x y h = cc

-- what is returned is that it goes on
pub supported_goes_on : (c : Case) (journal : List (List ℕ)) (limit : ℕ) (shown : ReplayOutcome) → AttemptShows c journal limit shown → returned shown ≡ returned outcome.GoesOn → ReplaysAndQueues c.setting.options → HasOneResultEach c journal → HasRightReads c journal → IsHistory c journal
supported_goes_on c journal limit shown x goes = attempt_history c journal limit (subst (AttemptShows c journal limit) (same_shown shown outcome.GoesOn goes) x)

-- a history can be replayed as rounds ask if the values are compared that it tells were set
pub told_replayable : (c : Case) (journal : List (List ℕ)) → ReplaysAndQueues c.setting.options → IsHistory c journal → JournalSetsAreCompared c journal → IsReplayable c journal
told_replayable c journal r h compared = record { replays = r; history = told_sound (setup_of c.setting) c.handler (base_of c.setting) (journal_entries journal) h compared }
