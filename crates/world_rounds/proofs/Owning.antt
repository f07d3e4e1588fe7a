-- The error of a round's report is its attempt's own, at a moment of the round.
use Rattle.std.proofs.Common.{◌≡◌, ◌⊎◌, ⊎_elim, inl, inr, ℕ, zero, suc, Bool, true, false, List, [], ◌∷◌, length, take, Option, Some, None, Result, Ok, Err, refl, sym, ap, ◌∙◌, subst}
use Rattle.std.specs.Prelude.{◌==◌, IfErr}
use Rattle.std.specs.List.{concat}
use Rattle.std.specs.declared.alloc.AllocError.{AllocError}
use Rattle.journal_protocol.specs.Start.{Start}
use Rattle.journal_protocol.specs.Error.{Error}
use Rattle.journal_protocol.specs.Errors.{no_memory}
use Rattle.journal_protocol.specs.Types.{type_number}
use Rattle.journal_protocol.specs.Message.TheVariants as message
use Rattle.journal_protocol.specs.RawMessage.{RawMessage}
use Rattle.journal_protocol.specs.Frames.{encoding}
use Rattle.journal_protocol.specs.Bodies.{start_in}
use Rattle.std.proofs.lemmas.Option.{same_Some}
use Rattle.invocation_vm.specs.Making.{made, supported}
use Rattle.vm_model.specs.Calls.{Meaning, Setup}
use Rattle.vm_model.specs.Histories.{History, Honest}
use Rattle.journal_entries.specs.Journal.{stored_form}
use Rattle.vm_model.specs.SoundHistories.{SoundHistory}
use Rattle.vm_state.specs.declared.state_map.StateMap.{StateMap}
use Rattle.vm_attempt.specs.Attempts.{HasCause, IsItsOwn}
use Rattle.vm_attempt.specs.Blames.{IfError, IsBlamed, IsLate}
use Rattle.vm_attempt.specs.Courses.{IsLed}
use Rattle.vm_attempt.specs.Journals.{setup_for}
use Rattle.vm_attempt.proofs.Advanced.{made_new}
use Rattle.vm_attempt.proofs.Blamed.{close_blames, feed_blames, made_blamed, take_blames}
use Rattle.vm_attempt.proofs.Caused.{cause_is_own, close_led, feed_led, finish_caused, finish_led, made_led, step_caused, step_led, take_led}
use Rattle.vm_attempt.proofs.Coming.{made_comes}
use Rattle.vm_attempt.proofs.Erring.{step_blames}
use Rattle.vm_attempt.proofs.Finishing.{finish_blames, finish_late}
use Rattle.vm_attempt.proofs.Late.{close_late, feed_late, step_late, take_late}
use Rattle.vm_attempt.specs.declared.progress.Progress.{Progress}
use Rattle.vm_attempt.specs.Record.{Record}
use Rattle.vm_attempt.specs.Stepping.{StepDoes, fresh_record}
use Rattle.world_rounds.specs.declared.types.Event.{Event}
use Rattle.world_rounds.specs.declared.types.Event.TheVariants as event
use Rattle.world_rounds.specs.declared.types.Round.{Round}
use Rattle.world_rounds.specs.declared.types.Setting.{Setting}
use Rattle.journal_entries.specs.Entries.{journal_entries}
use Rattle.world_rounds.specs.States.{HaveTextKeys, base_of}
use Rattle.world_rounds.specs.Worlds.{IsJournal, fixed_in, setup_of, start_for}
use Rattle.journal_entries.proofs.Framing.{AreFrames}
use Rattle.world_rounds.specs.Inside.{may_go_on}
use Rattle.world_rounds.specs.Owning.{AreOwn, BringsOwn, OwnOf}
use Rattle.world_rounds.specs.Rounds.{AttemptDoes, Happen, Happens, IsRefusal, Now, Pieces, ReplaysAndQueues, ReportView, RoundDoes, RoundsDo, StepHappens, StepsHappen, begin, error_of, first_error, memory_of}
use Rattle.world_rounds.specs.Sound.{IsSoundFor}
use Rattle.world_rounds.proofs.Honestly.{honest_now}
use Rattle.world_rounds.proofs.Keeping.{Going, event_keeps}
use Rattle.world_rounds.proofs.Repeating.{step_still, steps_keep}
use Rattle.world_rounds.proofs.Rounding.{begun, hands_honest, round_grows, round_lasts, sound_lasts, start_framed, start_reads}
use Rattle.world_rounds.proofs.Running.{Goes, event_runs}

-- ---- events

-- an error that comes now is the first, or there was one before
error_by : (old next now : Option Error) (e : Error) → now ≡ first_error old next → now ≡ Some e → (old ≡ Some e) ⊎ ((old ≡ None) × (next ≡ Some e))
error_by (Some x) next now e is h = inl (sym is ∙ h)
error_by None next now e is h = inr (refl, sym is ∙ h)

-- the first error stays
first_stays : (now mid : Now) (next : Option Error) (e : Error) → mid.error ≡ first_error now.error next → now.error ≡ Some e → mid.error ≡ Some e
first_stays now mid next e is some = is ∙ ap (λ o. first_error o next) some

steps_stay : (m : Meaning) (n : ℕ) (now mid : Now) (e : Error) → StepsHappen m n now mid → now.error ≡ Some e → mid.error ≡ Some e
steps_stay m zero now mid e is some = ap (λ (z : Now). z.error) is ∙ some
steps_stay m (suc n) now mid e (x, (result, a, d, is), more) some = steps_stay m n x mid e more (first_stays now x (error_of result) e (ap (λ (z : Now). z.error) is) some)

error_stays : (m : Meaning) (v : Event) (now mid : Now) (e : Error) → Happens m v now mid → now.error ≡ Some e → mid.error ≡ Some e
error_stays m (event.Piece n) now mid e d some = by_closed now.closed d
  where
    by_closed : (closed : Bool) → Pieces closed n now mid → mid.error ≡ Some e
    by_closed true is = ap (λ (z : Now). z.error) is ∙ some
    by_closed false (result, a, fed, is) = first_stays now mid (memory_of result) e (ap (λ (z : Now). z.error) is) some
error_stays m event.Close now mid e (result, a, d, is) some = first_stays now mid (memory_of result) e (ap (λ (z : Now). z.error) is) some
error_stays m event.Step now mid e (result, a, d, is) some = first_stays now mid (error_of result) e (ap (λ (z : Now). z.error) is) some
error_stays m (event.Steps n) now mid e d some = steps_stay m n now mid e d some
error_stays m (event.RunResult handle exit policy) now mid e (result, a, d, is) some = first_stays now mid (error_of result) e (ap (λ (z : Now). z.error) is) some
error_stays m (event.Arrive x) now mid e (none, is) some = ap (λ (z : Now). z.error) is ∙ some
error_stays m (event.Store n) now mid e (journal, waiting, unstored, stores, is, whole, proposed) some = ap (λ (z : Now). z.error) is ∙ some

module _ (m : Meaning) (w : Setting) (begin_bytes : List ℕ) (raw : RawMessage) (st : Start) (old : List (List ℕ)) (j : IsJournal old) (framed : AreFrames begin_bytes (raw ∷ [])) (found : start_in raw.body ≡ Some st) (known : st.known_entries ≡ length old) (s : Setup) (same_setup : setup_for (fixed_in m w) st ≡ s) (base : StateMap) (past : History s m base (journal_entries old)) (r : ReplaysAndQueues w.options) (is_start : (type_number raw.ty == 1) ≡ true) (texts : HaveTextKeys st.state) where
  -- what each event keeps of the attempt
  record Stands (now : Now) : Type 0 where
    going : Going w.version begin_bytes old now
    goes : Goes m w begin_bytes raw st old j framed found known s same_setup base past r now
    blamed : IsBlamed (fixed_in m w) now.attempt
    late : IsLate (fixed_in m w) now.attempt
    led : IsLed (fixed_in m w) now.attempt

  -- the attempt's record has this error as its own
  abbrev Owns : Now → Error → Type 0
  Owns now e = IsItsOwn (fixed_in m w) now.attempt e

  by_memory : (result : Result Unit AllocError) (now : Now) (e : Error) → memory_of result ≡ Some e → Owns now e
  by_memory (Ok t) now e h = absurd (cc)
  by_memory (Err x) now e h = let z : e ≡ no_memory = cc in (inl z, inl z)

  by_step : (result : Result Progress Error) (now : Now) (e : Error) → Stands now → IfError result (HasCause (fixed_in m w) now.attempt) → error_of result ≡ Some e → Owns now e
  by_step (Ok p) now e x b h = absurd (cc)
  by_step (Err f) now e x b h =
      cause_is_own (fixed_in m w) now.attempt e
      (honest_now m w begin_bytes raw st old j framed found known s same_setup base past r is_start texts now x.going x.goes.0)
      (subst (HasCause (fixed_in m w) now.attempt) (let z : f ≡ e = cc in z) b)

  by_result : (result : Result Unit Error) (now : Now) (e : Error) → Stands now → IfErr result (HasCause (fixed_in m w) now.attempt) → error_of result ≡ Some e → Owns now e
  by_result (Ok t) now e x b h = absurd (cc)
  by_result (Err f) now e x b h =
      cause_is_own (fixed_in m w) now.attempt e
      (honest_now m w begin_bytes raw st old j framed found known s same_setup base past r is_start texts now x.going x.goes.0)
      (subst (HasCause (fixed_in m w) now.attempt) (let z : f ≡ e = cc in z) b)

  -- what an event keeps, and that an error that comes by it is the attempt's own
  abbrev Goes_on : Now → Now → Type 0
  Goes_on now mid = Stands mid × ((e : Error) → mid.error ≡ Some e → (now.error ≡ Some e) ⊎ Owns mid e)

  -- ---- the calls of the attempt

  step_led_on : (now mid : Now) → StepHappens m now mid → IsLed (fixed_in m w) now.attempt → IsLed (fixed_in m w) mid.attempt
  step_led_on now mid (result, a, d, is) led = subst (λ (z : Now). IsLed (fixed_in m w) z.attempt) (sym is) (step_led (fixed_in m w) now.attempt result a d led)

  steps_led : (n : ℕ) (now mid : Now) → StepsHappen m n now mid → IsLed (fixed_in m w) now.attempt → IsLed (fixed_in m w) mid.attempt
  steps_led zero now mid is led = subst (λ (z : Now). IsLed (fixed_in m w) z.attempt) (sym is) led
  steps_led (suc n) now mid (next, first, more) led = steps_led n next mid more (step_led_on now next first led)

  pieces_led : (n : ℕ) (closed : Bool) (now mid : Now) → Pieces closed n now mid → IsLed (fixed_in m w) now.attempt → IsLed (fixed_in m w) mid.attempt
  pieces_led n true now mid is led = subst (λ (z : Now). IsLed (fixed_in m w) z.attempt) (sym is) led
  pieces_led n false now mid (result, a, d, is) led = subst (λ (z : Now). IsLed (fixed_in m w) z.attempt) (sym is) (feed_led (fixed_in m w) (take n now.waiting) now.attempt result a d led)

  event_led : (e : Event) (now mid : Now) → Happens m e now mid → IsLed (fixed_in m w) now.attempt → IsLed (fixed_in m w) mid.attempt
  event_led (event.Piece n) now mid d led = pieces_led n now.closed now mid d led
  event_led event.Close now mid (result, a, d, is) led = subst (λ (z : Now). IsLed (fixed_in m w) z.attempt) (sym is) (close_led (fixed_in m w) now.attempt result a d led)
  event_led event.Step now mid d led = step_led_on now mid d led
  event_led (event.Steps n) now mid d led = steps_led n now mid d led
  event_led (event.RunResult handle exit policy) now mid (result, a, d, is) led = subst (λ (z : Now). IsLed (fixed_in m w) z.attempt) (sym is) (finish_led (fixed_in m w) handle exit policy now.attempt result a d led)
  event_led (event.Arrive y) now mid (none, is) led = subst (λ (z : Now). IsLed (fixed_in m w) z.attempt) (sym is) led
  event_led (event.Store n) now mid (journal, waiting, unstored, stores, is, whole, proposed) led = subst (λ (z : Now). IsLed (fixed_in m w) z.attempt) (sym is) (take_led (fixed_in m w) now.attempt (Ok (concat now.attempt.vm.machine.output)) _ (refl, refl, whole) led)

  stands_by : (e : Event) (now mid : Now) → Happens m e now mid → Stands now → IsBlamed (fixed_in m w) mid.attempt → IsLate (fixed_in m w) mid.attempt → Stands mid
  stands_by e now mid d x b l = record {
    going = event_keeps m w.version begin_bytes old e now mid d x.going;
    goes = event_runs m w begin_bytes raw st old j framed found known s same_setup base past r e now mid d x.going x.goes;
    blamed = b;
    late = l;
    led = event_led e now mid d x.led;
  }

  same_error : (now mid : Now) → mid.error ≡ now.error → (e : Error) → mid.error ≡ Some e → (now.error ≡ Some e) ⊎ Owns mid e
  same_error now mid is e h = inl (sym is ∙ h)

  pieces_go : (n : ℕ) (closed : Bool) (now mid : Now) → Pieces closed n now mid → Stands now → IsBlamed (fixed_in m w) mid.attempt × IsLate (fixed_in m w) mid.attempt × ((e : Error) → mid.error ≡ Some e → (now.error ≡ Some e) ⊎ Owns mid e)
  pieces_go n true now mid d x = (
    subst (λ (z : Now). IsBlamed (fixed_in m w) z.attempt) (sym d) x.blamed,
    subst (λ (z : Now). IsLate (fixed_in m w) z.attempt) (sym d) x.late,
    same_error now mid (ap (λ (z : Now). z.error) d),
  )
  pieces_go n false now mid (result, a, d, is) x = (
    subst (λ (z : Now). IsBlamed (fixed_in m w) z.attempt) (sym is) (feed_blames (fixed_in m w) (take n now.waiting) now.attempt result a x.goes.1 x.blamed d),
    subst (λ (z : Now). IsLate (fixed_in m w) z.attempt) (sym is) (feed_late (fixed_in m w) (take n now.waiting) now.attempt result a x.blamed x.late d),
    λ e h. ⊎_elim (λ (y : now.error ≡ Some e). inl y) (λ (y : (now.error ≡ None) × (memory_of result ≡ Some e)). inr (by_memory result mid e y.1)) (error_by now.error (memory_of result) mid.error e (ap (λ (z : Now). z.error) is) h),
  )

  step_stands : (now mid : Now) → StepHappens m now mid → Stands now → Stands mid
  step_stands now mid (result, a, d, is) x = stands_by event.Step now mid (result, a, d, is) x
      (subst (λ (z : Now). IsBlamed (fixed_in m w) z.attempt) (sym is) (step_blames (fixed_in m w) now.attempt result a x.goes.1 (λ _. x.goes.0) x.blamed d))
      (subst (λ (z : Now). IsLate (fixed_in m w) z.attempt) (sym is) (step_late (fixed_in m w) now.attempt result a x.goes.1 x.late d))

  -- an error that comes by a step
  step_owns : (now mid : Now) (result : Result Progress Error) (a : Record) → StepDoes m now.attempt result a → mid ≡ record now { attempt = a; error = first_error now.error (error_of result) } → Stands now → (e : Error) → error_of result ≡ Some e → Owns mid e
  step_owns now mid result a d is x e h =
      let led = step_led (fixed_in m w) now.attempt result a d x.led in
      let cause = subst (λ (z : Now). IfError result (HasCause (fixed_in m w) z.attempt)) (sym is) (step_caused (fixed_in m w) now.attempt result a x.goes.1 (λ _. x.goes.0) x.blamed x.late led d) in
      by_step result mid e (step_stands now mid (result, a, d, is) x) cause h

  -- after steps an error is the one that was there, or the attempt's own, which has made its last step
  abbrev EndsOwning : Now → Now → Error → Type 0
  EndsOwning first now e = (first.error ≡ Some e) ⊎ (Owns now e × ((result : Result Progress Error) (a : Record) → StepDoes m now.attempt result a → a ≡ now.attempt))

  abbrev StepsGo : Now → Now → Type 0
  StepsGo first now = Stands now × ((e : Error) → now.error ≡ Some e → EndsOwning first now e)

  failed_goes_not : (result : Result Progress Error) (e : Error) → error_of result ≡ Some e → may_go_on result ≡ false
  failed_goes_not (Ok p) e h = absurd (cc)
  failed_goes_not (Err f) e h = refl

  step_goes : (first now mid : Now) → StepHappens m now mid → StepsGo first now → StepsGo first mid
  step_goes first now mid (result, a, d, is) (x, owns) = (step_stands now mid (result, a, d, is) x, λ e h. ⊎_elim (before e) (comes e) (error_by now.error (error_of result) mid.error e (ap (λ (z : Now). z.error) is) h))
    where
      is_a : mid.attempt ≡ a
      is_a = ap (λ (z : Now). z.attempt) is

      before : (e : Error) → now.error ≡ Some e → EndsOwning first mid e
      before e h = ⊎_elim
          (λ (y : first.error ≡ Some e). inl y)
          (λ (y : Owns now e × ((result : Result Progress Error) (b : Record) → StepDoes m now.attempt result b → b ≡ now.attempt)).
          inr (subst (λ (b : Record). IsItsOwn (fixed_in m w) b e × ((result : Result Progress Error) (c : Record) → StepDoes m b result c → c ≡ b)) (sym (is_a ∙ y.1 result a d)) y))
          (owns e h)

      comes : (e : Error) → (now.error ≡ None) × (error_of result ≡ Some e) → EndsOwning first mid e
      comes e y = inr (
        step_owns now mid result a d is x e y.1,
        subst (λ (b : Record). (result : Result Progress Error) (c : Record) → StepDoes m b result c → c ≡ b) (sym is_a) (step_still m now.attempt result a d (failed_goes_not result e y.1)),
      )

  steps_go : (n : ℕ) (now mid : Now) → StepsHappen m n now mid → Stands now → Goes_on now mid
  steps_go n now mid d x =
      let on = steps_keep m (StepsGo now) (step_goes now) n now mid d (x, λ e h. inl h) in
      (on.0, λ e h. ⊎_elim (λ (y : now.error ≡ Some e). inl y) (λ (y : Owns mid e × ((result : Result Progress Error) (a : Record) → StepDoes m mid.attempt result a → a ≡ mid.attempt)). inr y.0) (on.1 e h))

  event_goes : (e : Event) (now mid : Now) → Happens m e now mid → Stands now → Goes_on now mid
  event_goes (event.Piece n) now mid d x = let p = pieces_go n now.closed now mid d x in (stands_by (event.Piece n) now mid d x p.0 p.1, p.2)
  event_goes event.Close now mid (result, a, d, is) x = (
    stands_by event.Close now mid (result, a, d, is) x
        (subst (λ (z : Now). IsBlamed (fixed_in m w) z.attempt) (sym is) (close_blames (fixed_in m w) now.attempt result a x.goes.1 x.blamed d))
        (subst (λ (z : Now). IsLate (fixed_in m w) z.attempt) (sym is) (close_late (fixed_in m w) now.attempt result a x.late d)),
    λ e h. ⊎_elim (λ (y : now.error ≡ Some e). inl y) (λ (y : (now.error ≡ None) × (memory_of result ≡ Some e)). inr (by_memory result mid e y.1)) (error_by now.error (memory_of result) mid.error e (ap (λ (z : Now). z.error) is) h),
  )
  event_goes event.Step now mid (result, a, d, is) x =
      let on = step_stands now mid (result, a, d, is) x in
      (on, λ e h. ⊎_elim (λ (y : now.error ≡ Some e). inl y) (λ (y : (now.error ≡ None) × (error_of result ≡ Some e)). inr (step_owns now mid result a d is x e y.1)) (error_by now.error (error_of result) mid.error e (ap (λ (z : Now). z.error) is) h))
  event_goes (event.Steps n) now mid d x = steps_go n now mid d x
  event_goes (event.RunResult handle exit policy) now mid (result, a, d, is) x =
      let b = finish_blames (fixed_in m w) handle exit policy now.attempt result a x.goes.1 d x.blamed in
      let l = finish_late (fixed_in m w) handle exit policy now.attempt result a x.goes.1 d x.late in
      let on = stands_by (event.RunResult handle exit policy) now mid (result, a, d, is) x
      (subst (λ (z : Now). IsBlamed (fixed_in m w) z.attempt) (sym is) b)
      (subst (λ (z : Now). IsLate (fixed_in m w) z.attempt) (sym is) l) in
      let led = finish_led (fixed_in m w) handle exit policy now.attempt result a d x.led in
      let cause = subst (λ (z : Now). IfErr result (HasCause (fixed_in m w) z.attempt)) (sym is) (finish_caused (fixed_in m w) handle exit policy now.attempt result a d b l led) in (
        on,
        λ e h. ⊎_elim (λ (y : now.error ≡ Some e). inl y) (λ (y : (now.error ≡ None) × (error_of result ≡ Some e)). inr (by_result result mid e on cause y.1)) (error_by now.error (error_of result) mid.error e (ap (λ (z : Now). z.error) is) h),
      )
  event_goes (event.Arrive y) now mid (none, is) x = (
    stands_by (event.Arrive y) now mid (none, is) x
        (subst (λ (z : Now). IsBlamed (fixed_in m w) z.attempt) (sym is) x.blamed)
        (subst (λ (z : Now). IsLate (fixed_in m w) z.attempt) (sym is) x.late),
    same_error now mid (ap (λ (z : Now). z.error) is),
  )
  event_goes (event.Store n) now mid (journal, waiting, unstored, stores, is, whole, proposed) x = (
    stands_by (event.Store n) now mid (journal, waiting, unstored, stores, is, whole, proposed) x
        (subst (λ (z : Now). IsBlamed (fixed_in m w) z.attempt) (sym is) (take_blames (fixed_in m w) now.attempt (Ok (concat now.attempt.vm.machine.output)) _ x.blamed (refl, refl, whole)))
        (subst (λ (z : Now). IsLate (fixed_in m w) z.attempt) (sym is) (take_late (fixed_in m w) now.attempt (Ok (concat now.attempt.vm.machine.output)) _ x.late (refl, refl, whole))),
    same_error now mid (ap (λ (z : Now). z.error) is),
  )

  -- ---- a round's events

  events_own : (es : List Event) (now end : Now) (h : Happen m es now end) → Stands now → (e : Error) → end.error ≡ Some e → (now.error ≡ Some e) ⊎ BringsOwn m w es now end h e
  events_own [] now end h x e is = inl (ap (λ (z : Now). z.error) (sym h) ∙ is)
  events_own (v ∷ es) now end (mid, d, more) x e is =
      let on = event_goes v now mid d x in
      ⊎_elim
      (λ (y : mid.error ≡ Some e). brings now.error refl y (on.1 e y))
      (λ (y : BringsOwn m w es mid end more e). inr (inr y))
      (events_own es mid end more on.0 e is)
    where
      brings : (o : Option Error) → now.error ≡ o → mid.error ≡ Some e → (now.error ≡ Some e) ⊎ Owns mid e → (now.error ≡ Some e) ⊎ BringsOwn m w (v ∷ es) now end (mid, d, more) e
      brings None none y c = ⊎_elim (λ (z : now.error ≡ Some e). inl z) (λ (z : Owns mid e). inr (inl (none, y, z))) c
      brings (Some f) some y c = inl (some ∙ sym (error_stays m v now mid f d some) ∙ y)

-- ---- a round

attempt_owns : (m : Meaning) (w : Setting) (round : Round) (old : List (List ℕ)) (report : ReportView) (new : List (List ℕ)) → ReplaysAndQueues w.options → IsJournal old → History (setup_of w) m (base_of w) (journal_entries old) → (d : AttemptDoes m w round old report new) → (e : Error) → report.error ≡ Some e → BringsOwn m w round.events (begin d.alloc w round old) d.ran.now d.ran.happen e
attempt_owns m w round old report new r j past d e is =
    let st = start_for w round old in
    let bytes = encoding (message.Start st) in
    let raw = stored_form (message.Start st) in
    let framed = start_framed st d.start in
    let found = start_reads st d.start in
    let first = begin d.alloc w round old in
    let attempt = fresh_record (made d.alloc w.options w.version) in
    let stands : Stands m w bytes raw st old j framed found refl (setup_of w) refl (base_of w) past r refl d.texts first = record {
      going = begun w.version bytes old attempt j refl refl refl refl;
      goes = (inl (made_new d.alloc (fixed_in m w)), made_comes d.alloc (fixed_in m w));
      blamed = made_blamed (fixed_in m w) d.alloc;
      late = refl;
      led = made_led (fixed_in m w) d.alloc;
    } in
    ⊎_elim
    (λ (x : first.error ≡ Some e). absurd (let z : None ≡ Some e = x in cc))
    (λ (x : BringsOwn m w round.events first d.ran.now d.ran.happen e). x)
    (events_own m w bytes raw st old j framed found refl (setup_of w) refl (base_of w) past r refl d.texts round.events first d.ran.now d.ran.happen stands e (ap (λ (z : ReportView). z.error) (sym d.ran.told) ∙ is))

round_owns : (m : Meaning) (w : Setting) (round : Round) (old : List (List ℕ)) (report : ReportView) (new : List (List ℕ)) → ReplaysAndQueues w.options → IsJournal old → History (setup_of w) m (base_of w) (journal_entries old) → (d : RoundDoes m w round old report new) → OwnOf m w round old report new d
round_owns m w round old report new r j past (inl d) = λ e is. attempt_owns m w round old report new r j past d e is
round_owns m w round old report new r j past (inr d) = λ e is. subst (λ x. IsRefusal (supported w.version) x) (same_Some d.error e (ap (λ (z : ReportView). z.error) (sym d.told) ∙ is)) d.refusal

-- ---- rounds

pub rounds_own : (m : Meaning) (w : Setting) (rounds : List Round) (old : List (List ℕ)) (reports : List ReportView) (new : List (List ℕ)) → IsJournal old → IsSoundFor m w old → (d : RoundsDo m w rounds old reports new) → AreOwn m w rounds old reports new d
rounds_own m w [] old reports new j h d = tt
rounds_own m w (q ∷ qs) old reports new j h (mid, report, more, is, one, others) =
    let g = round_grows m w q old report mid j one in
    let on : SoundHistory (setup_of w) m (base_of w) (journal_entries mid) = round_lasts (Honest (base_of w)) (SoundHistory (setup_of w) m (base_of w)) m w q qs old report mid h.replays (sound_lasts m w) (hands_honest w (q ∷ qs)) j h.history one in
    (round_owns m w q old report mid h.replays j h.history.history one, rounds_own m w qs mid more new g.journal (record { replays = h.replays; history = on }) others)
