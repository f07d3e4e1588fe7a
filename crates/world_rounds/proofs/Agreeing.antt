-- What an earlier report's journal tells, and the answers of later reports.
use Rattle.std.proofs.Common.{◌≡◌, ℕ, List, [], ◌∷◌, ◌++◌, length, take, Some, sym, ap, ◌∙◌, subst, append_assoc, append-nil, inl, inr}
use Rattle.std.specs.List.{AllByRecursion}
use Rattle.std.proofs.Math.Seq.{take-append_seam}
use Rattle.std.proofs.lemmas.Option.{same_Some}
use Rattle.journal_protocol.specs.InputCommand.{InputCommand}
use Rattle.journal_protocol.specs.RawMessage.{RawMessage}
use Rattle.vm_model.specs.Calls.{Meaning, Setup}
use Rattle.journal_entries.specs.Journal.{Entry, commands_in, notifications_in, input_read_from}
use Rattle.vm_model.specs.Moves.{Point}
use Rattle.vm_model.specs.Histories.{Honest, Knowledge, OneBegins, Told}
use Rattle.vm_model.specs.HonestRounds.{Attempted, IsToldOn}
use Rattle.vm_model.specs.SoundHistories.{SoundHistory}
use Rattle.vm_model.proofs.Lasting.{commands-append}
use Rattle.vm_model.proofs.Honesty.{attempts_agree}
use Rattle.vm_attempt.proofs.Replayed.{head_same}
use Rattle.world_rounds.specs.declared.types.Round.{Round}
use Rattle.world_rounds.specs.declared.types.Setting.{Setting}
use Rattle.world_rounds.specs.Courses.{attempt_of}
use Rattle.journal_entries.specs.Entries.{journal_entries}
use Rattle.world_rounds.specs.Rounds.{Agree, ReplaysAndQueues, ReportView, RoundDoes, RoundsDo, TellsAlong}
use Rattle.world_rounds.specs.States.{base_of}
use Rattle.world_rounds.specs.Worlds.{IsJournal, setup_of}
use Rattle.world_rounds.specs.Sound.{IsSoundFor}
use Rattle.world_rounds.proofs.Rounding.{HandsOut, Lasts, entries_grow, hands_honest, round_gives, round_grows, round_honest, round_lasts, rounds_grow, sound_lasts}

-- an attempt over a journal that has grown, and the answers over the journal before
pub attempt_along : (s : Setup) (m : Meaning) (before more now : List Entry) (a : Attempted) → now ≡ before ++ more → (t : IsToldOn s m now a)
    → (first : RawMessage) (input : InputCommand) (rest : List RawMessage) (p : Point) → commands_in before ≡ first ∷ rest → input_read_from first ≡ Some input → Told s m input (notifications_in before) rest p → OneBegins p.answers a.answers
attempt_along s m before more now a grown t first input rest p begins reads told =
    let t' : IsToldOn s m (before ++ more) a = subst (λ j. IsToldOn s m j a) grown t in
    let head : first ≡ t'.first = head_same first t'.first (rest ++ commands_in more) t'.rest (sym (commands-append before more ∙ ap (λ l. l ++ commands_in more) begins) ∙ t'.begins) in
    let one : input ≡ t'.input = same_Some input t'.input (sym reads ∙ ap input_read_from head ∙ t'.reads) in
    attempts_agree s m before more a t' rest (begins ∙ ap (λ c. c ∷ rest) head) p (subst (λ i. Told s m i (notifications_in before) rest p) one told)

-- the rounds that follow, over a journal that has grown
rounds_along : (K : Knowledge) (P : List Entry → Type 0) (m : Meaning) (w : Setting) (rounds : List Round) (then_old added old : List (List ℕ)) (reports : List ReportView) (new : List (List ℕ)) → ReplaysAndQueues w.options → Lasts K P m w → HandsOut K w rounds → IsJournal old → P (journal_entries old) → old ≡ then_old ++ added → RoundsDo m w rounds old reports new → TellsAlong (setup_of w) m (journal_entries then_old) reports
rounds_along K P m w [] then_old added old reports new r l hands j b grown d first input rest p begins reads told = subst (AllByRecursion (λ v. OneBegins p.answers v.answers)) (sym d.0) tt
rounds_along K P m w (q ∷ qs) then_old added old reports new r l hands j b grown (mid, report, more, is, one, others) first input rest p begins reads told =
    let g = round_grows m w q old report mid j one in
    let h = round_honest m w q old report mid r j (l.history (journal_entries old) b) one in
    let on = round_lasts K P m w q qs old report mid r l hands j b one in
    let here : OneBegins p.answers report.answers = subst (OneBegins p.answers) (round_gives m w q old report mid one).1 (attempt_along (setup_of w) m (journal_entries then_old) (journal_entries added) (journal_entries old) (attempt_of m w q old report mid one) (entries_grow then_old old added grown) h.told first input rest p begins reads told) in
    let behind = rounds_along K P m w qs then_old (added ++ g.added) mid more new r l hands.1 g.journal on (g.extends ∙ ap (λ l. l ++ g.added) grown ∙ append_assoc then_old added g.added) others first input rest p begins reads told in
    subst (AllByRecursion (λ v. OneBegins p.answers v.answers)) (sym is) (here, behind)

-- a report counts the entries of the journal that its round leaves
pub round_counts : (m : Meaning) (w : Setting) (round : Round) (old : List (List ℕ)) (report : ReportView) (new : List (List ℕ)) → RoundDoes m w round old report new → report.entries ≡ length new
round_counts m w round old report new (inl d) = ap (λ (v : ReportView). v.entries) d.ran.told ∙ ap length (sym d.ran.left)
round_counts m w round old report new (inr d) = ap (λ (v : ReportView). v.entries) d.told

pub then_stood : (entries : ℕ) (mid added new : List (List ℕ)) → entries ≡ length mid → new ≡ mid ++ added → take entries new ≡ mid
then_stood entries mid added new e grown = (λ i. take (e i) (grown i)) ∙ take-append_seam mid added

rounds_agree : (K : Knowledge) (P : List Entry → Type 0) (m : Meaning) (w : Setting) (rounds : List Round) (old : List (List ℕ)) (reports : List ReportView) (new : List (List ℕ)) → ReplaysAndQueues w.options → Lasts K P m w → HandsOut K w rounds → IsJournal old → P (journal_entries old) → RoundsDo m w rounds old reports new → Agree (setup_of w) m new reports
rounds_agree K P m w [] old reports new r l hands j b d = subst (Agree (setup_of w) m new) (sym d.0) tt
rounds_agree K P m w (q ∷ qs) old reports new r l hands j b (mid, report, more, is, one, others) =
    let g = round_grows m w q old report mid j one in
    let b' = round_lasts K P m w q qs old report mid r l hands j b one in
    let rest = rounds_grow m w qs mid more new g.journal others in
    let stood : take report.entries new ≡ mid = then_stood report.entries mid rest.added new (round_counts m w q old report mid one) rest.extends in
    let along = rounds_along K P m w qs mid [] mid more new r l hands.1 g.journal b' (sym (append-nil mid)) others in
    subst (Agree (setup_of w) m new) (sym is) (subst (λ l. TellsAlong (setup_of w) m (journal_entries l) more) (sym stood) along, rounds_agree K P m w qs mid more new r l hands.1 g.journal b' others)

-- where the journal is sound for the handler
pub sound_rounds_agree : (m : Meaning) (w : Setting) (rounds : List Round) (old : List (List ℕ)) (reports : List ReportView) (new : List (List ℕ)) → IsSoundFor m w old → IsJournal old → RoundsDo m w rounds old reports new → Agree (setup_of w) m new reports
sound_rounds_agree m w rounds old reports new h j d = rounds_agree (Honest (base_of w)) (SoundHistory (setup_of w) m (base_of w)) m w rounds old reports new h.replays (sound_lasts m w) (hands_honest w rounds) j h.history d
