-- An engine sees only the events that the fence grants.
use Rattle.std.proofs.Common.{◌≡◌, Bool, true, false, List, [], ◌∷◌, ap, subst}
use Rattle.vm_model.specs.Calls.{Meaning}
use Rattle.engines.specs.declared.engine.Engine.{Engine}
use Rattle.engines.specs.declared.types.Happening.{Happening}
use Rattle.engines.specs.Between.{AllKept}
use Rattle.engines.specs.Engines.{AllHappen, HappeningDoes}
use Rattle.engines.specs.Replaying.{AllReplay}
use Rattle.world_rounds.specs.Rounds.{ReplaysAndQueues}
use Rattle.engines.proofs.Keeping.{kept_from_nothing}
use Rattle.engines.proofs.Replaying.{all_replay}
use Rattle.engine_fences.specs.declared.fences.Asked.{Asked}
use Rattle.engine_fences.specs.declared.fences.FencedEngine.{FencedEngine}
use Rattle.engine_fences.specs.Causes.{InboxesHaveCauses}
use Rattle.engine_fences.specs.Completions.{CompletionsAreAskedFor, CompletionsAreOwn}
use Rattle.engine_fences.specs.Fences.{AllFenced, FencedIf, grants}
use Rattle.engine_fences.specs.KeyStates.{StatesAreHandedOn}
use Rattle.engine_fences.specs.Signals.{NoneFromNowhere}
use Rattle.engine_fences.proofs.Completing.{completions_asked, completions_own}
use Rattle.engine_fences.proofs.HandingOn.{states_handed_on}
use Rattle.engine_fences.proofs.Inboxes.{inboxes_caused}
use Rattle.engine_fences.proofs.Signalling.{none_from_nowhere}

-- The events that are granted happen to the engine, one after another, and no others do.
record Granted {H : Type 0} (meaning : H → Meaning) (old new : Engine H) : Type 0 where
  events : List Happening
  happen : AllHappen meaning events old new

none_more : {H : Type 0} (meaning : H → Meaning) (old mid new : Engine H) → mid ≡ old → Granted meaning mid new → Granted meaning old new
none_more meaning old mid new same g = subst (λ x. Granted meaning x new) same g

one_more : {H : Type 0} (meaning : H → Meaning) (e : Happening) (old mid new : Engine H) → HappeningDoes meaning e old mid → Granted meaning mid new → Granted meaning old new
one_more meaning e old mid new does g = record { events = e ∷ g.events; happen = (mid, does, g.happen) }

are_granted : {H : Type 0} (meaning : H → Meaning) (es : List Asked) (old new : FencedEngine H) → AllFenced meaning es old new → Granted meaning old.engine new.engine
are_granted {H} meaning [] old new h = record { events = []; happen = ap (λ (f : FencedEngine H). f.engine) h }
are_granted {H} meaning (a ∷ es) old new (mid, first, more) = by (grants old a.epoch a.happening) first (are_granted meaning es mid new more)
  where
    by : (b : Bool) → FencedIf b meaning a.epoch a.happening old mid → Granted meaning mid.engine new.engine → Granted meaning old.engine new.engine
    by false same g = none_more meaning old.engine mid.engine new.engine (ap (λ (f : FencedEngine H). f.engine) same) g
    by true does g = one_more meaning a.happening old.engine mid.engine new.engine does.0 g

-- so all that holds after every list of events holds
pub fenced_kept : {H : Type 0} (meaning : H → Meaning) (es : List Asked) (old new : FencedEngine H) → old.engine.invocations.items ≡ [] → AllFenced meaning es old new → AllKept new.engine
fenced_kept meaning es old new none h =
    let g = are_granted meaning es old new h in
    kept_from_nothing meaning g.events old.engine new.engine none g.happen

pub fenced_signals : {H : Type 0} (meaning : H → Meaning) (es : List Asked) (old new : FencedEngine H) → old.engine.invocations.items ≡ [] → AllFenced meaning es old new → NoneFromNowhere new.engine
fenced_signals meaning es old new none h =
    let g = are_granted meaning es old new h in
    none_from_nowhere meaning g.events old.engine new.engine none g.happen

pub fenced_inboxes : {H : Type 0} (meaning : H → Meaning) (es : List Asked) (old new : FencedEngine H) → old.engine.invocations.items ≡ [] → AllFenced meaning es old new → InboxesHaveCauses new.engine
fenced_inboxes meaning es old new none h =
    let g = are_granted meaning es old new h in
    inboxes_caused meaning g.events old.engine new.engine none g.happen

pub fenced_completions : {H : Type 0} (meaning : H → Meaning) (es : List Asked) (old new : FencedEngine H) → old.engine.invocations.items ≡ [] → AllFenced meaning es old new → CompletionsAreAskedFor new.engine
fenced_completions meaning es old new none h =
    let g = are_granted meaning es old new h in
    completions_asked meaning g.events old.engine new.engine none g.happen

pub fenced_own : {H : Type 0} (meaning : H → Meaning) (es : List Asked) (old new : FencedEngine H) → old.engine.invocations.items ≡ [] → ReplaysAndQueues old.engine.options → AllFenced meaning es old new → CompletionsAreOwn new.engine
fenced_own meaning es old new none r h =
    let g = are_granted meaning es old new h in
    completions_own meaning g.events old.engine new.engine none r g.happen

pub fenced_states : {H : Type 0} (meaning : H → Meaning) (es : List Asked) (old new : FencedEngine H) → old.engine.invocations.items ≡ [] → AllFenced meaning es old new → StatesAreHandedOn new.engine
fenced_states meaning es old new none h =
    let g = are_granted meaning es old new h in
    states_handed_on meaning g.events old.engine new.engine none g.happen

-- and all attempts go on to replay and queue
pub fenced_replay : {H : Type 0} (meaning : H → Meaning) (es : List Asked) (old new : FencedEngine H) → AllFenced meaning es old new → AllReplay old.engine → AllReplay new.engine
fenced_replay meaning es old new h r =
    let g = are_granted meaning es old new h in
    all_replay meaning g.events old.engine new.engine g.happen r
