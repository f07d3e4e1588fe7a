-- Rounds of a family keep a sound history, and one run; and a replay check proves one.
use Rattle.std.proofs.Common.{◌≡◌, List, [], ◌∷◌, sym, subst}
use Rattle.journal_entries.specs.Journal.{Entry, notifications_in}
use Rattle.vm_state.specs.declared.state_map.StateMap.{StateMap}
use Rattle.vm_state.specs.Entries.{IsInOrder}
use Rattle.vm_model.specs.Alike.{AlikeHandlers, IsOneRunAlike}
use Rattle.vm_model.specs.Calls.{Meaning, Setup}
use Rattle.vm_model.specs.Histories.{EagerFrom, History, Honest, Knowledge, Whole}
use Rattle.vm_model.specs.HonestRounds.{Attempted, HonestRound, IsHanded, IsToldOn}
use Rattle.vm_model.specs.SoundHistories.{SoundHistory}
use Rattle.vm_model.proofs.Comparing.{compared_is_sound}
use Rattle.vm_model.proofs.Likeness.{alike_everywhere, handlers_back, sound_alike}
use Rattle.vm_model.proofs.Mixed.{mixed_round, mixed_whole_round}
use Rattle.vm_model.proofs.Replays.{attempt_is_history}
use Rattle.vm_model.proofs.SoundHistories.{sound_round}
use Rattle.world_laws.specs.MemberRounds.{MemberAttempt, MemberRounds}
use Rattle.world_laws.specs.ToldSets.{ToldSetsAreCompared}

-- a sound history of one handler is one of each that is alike
sound_of : (s : Setup) (m other : Meaning) (base : StateMap) (journal : List Entry) → AlikeHandlers s m other → SoundHistory s m base journal → SoundHistory s other base journal
sound_of s m other base journal alike h =
    let on = alike_everywhere s m other journal alike in
    sound_alike s m other base journal on.0 on.1 h

-- a round of another handler keeps it
sound_once : (s : Setup) (m other : Meaning) (base : StateMap) (before : List Entry) (a : Attempted) (behind : List Entry) → IsInOrder base.entries → SoundHistory s m base before → AlikeHandlers s m other → IsHanded (Honest base) before a → IsToldOn s other before a → HonestRound before a.course behind → SoundHistory s m base behind
sound_once s m other base before a behind order h alike handed told honest =
    sound_of s other m base behind (handlers_back s m other alike) (sound_round s other base before a behind order (sound_of s m other base before alike h) handed told honest)

-- what each round keeps, all keep
kept_along : (s : Setup) (m : Meaning) (Knows : Knowledge) (Has : List Entry → Type 0) → ((other : Meaning) (from : List Entry) (a : Attempted) (to : List Entry) → AlikeHandlers s m other → Has from → IsHanded Knows from a → IsToldOn s other from a → HonestRound from a.course to → Has to) → (before : List Entry) (attempts : List MemberAttempt) (behind : List Entry) → Has before → MemberRounds s m Knows before attempts behind → Has behind
kept_along s m Knows Has keeps before [] behind h same = subst Has (sym same) h
kept_along s m Knows Has keeps before (a ∷ more) behind h (mid, alike, handed, told, honest, others) =
    kept_along s m Knows Has keeps mid more behind (keeps a.handler before a.attempt mid alike h handed told honest) others

rounds_sound : (s : Setup) (m : Meaning) (base : StateMap) (before : List Entry) (attempts : List MemberAttempt) (behind : List Entry) → IsInOrder base.entries → SoundHistory s m base before → MemberRounds s m (Honest base) before attempts behind → SoundHistory s m base behind
rounds_sound s m base before attempts behind order h rounds = kept_along s m (Honest base) (SoundHistory s m base) (λ other from a to alike sound handed told honest. sound_once s m other base from a to order sound alike handed told honest) before attempts behind h rounds

pub members_sound : (s : Setup) (m other : Meaning) (base : StateMap) (before : List Entry) (attempts : List MemberAttempt) (behind : List Entry) → IsInOrder base.entries → SoundHistory s m base before → MemberRounds s m (Honest base) before attempts behind → AlikeHandlers s m other → SoundHistory s other base behind
members_sound s m other base before attempts behind order h rounds alike = sound_of s m other base behind alike (rounds_sound s m base before attempts behind order h rounds)

pub members_run : (s : Setup) (m : Meaning) (base : StateMap) (before : List Entry) (attempts : List MemberAttempt) (behind : List Entry) → IsInOrder base.entries → IsOneRunAlike s m (Honest base) before → MemberRounds s m (Honest base) before attempts behind → IsOneRunAlike s m (Honest base) behind
members_run s m base before attempts behind order h rounds = kept_along s m (Honest base) (IsOneRunAlike s m (Honest base)) (λ other from a to alike one handed told honest. mixed_round s m other base from a to alike order one handed told honest) before attempts behind h rounds

pub members_undisturbed : (s : Setup) (m : Meaning) (base : StateMap) (before : List Entry) (attempts : List MemberAttempt) (behind : List Entry) → IsInOrder base.entries → IsOneRunAlike s m (Whole base) before → MemberRounds s m (Whole base) before attempts behind → IsOneRunAlike s m (Whole base) behind
members_undisturbed s m base before attempts behind order h rounds = kept_along s m (Whole base) (IsOneRunAlike s m (Whole base)) (λ other from a to alike one handed told honest. mixed_whole_round s m other base from a to alike order one handed told honest) before attempts behind h rounds

-- ---- replay checks

pub told_sound : (s : Setup) (m : Meaning) (base : StateMap) (journal : List Entry) → History s m base journal → ToldSetsAreCompared s m journal → SoundHistory s m base journal
told_sound s m base journal h compared = compared_is_sound s m base journal h (compared h.first h.input h.rest h.at h.begins h.reads h.told)

pub replayed_sound : (s : Setup) (m : Meaning) (base : StateMap) (journal : List Entry) (a : Attempted) (t : IsToldOn s m journal a) → notifications_in a.course ≡ [] → t.at.left ≡ [] → EagerFrom base t.rest → ToldSetsAreCompared s m journal → SoundHistory s m base journal
replayed_sound s m base journal a t none all eager compared = told_sound s m base journal (attempt_is_history s m base journal a t none all eager) compared
