use Rattle.std.proofs.Common.{sym, ap, ◌∙◌, subst}
use Rattle.engines.specs.declared.engine.Engine.{Engine}
use Rattle.engines.proofs.Storing.{if_ok_then}
use Rattle.engines.specs.Between.{AllKept}
use Rattle.engines.specs.Replaying.{AllReplay}
use Rattle.engines.proofs.Replaying.{none_replays, premise_then}
use Rattle.world_rounds.specs.Rounds.{ReplaysAndQueues}
use Rattle.engine_fences.specs.declared.fences.FencedEngine.{FencedEngine}
use Rattle.engine_fences.specs.Fences.{AllFenced}
use Rattle.engine_fences.specs.Causes.{InboxesHaveCauses}
use Rattle.engine_fences.specs.Completions.{CompletionsAreAskedFor, CompletionsAreOwn}
use Rattle.engine_fences.specs.KeyStates.{StatesAreHandedOn}
use Rattle.engine_fences.specs.Signals.{NoneFromNowhere}
use Rattle.engine_fences.proofs.Unseen.{fenced_completions, fenced_inboxes, fenced_kept, fenced_own, fenced_signals, fenced_states}
use Rattle.engine_fences.proofs.fences.play_fenced.Goals as goal

pub returns-clause-kept : goal.returns-clause-kept
returns-clause-kept g c = if_ok_then c.run_fenced.result (AllFenced (λ h. g.H.Handler.meaning h) c.args.events.now c.of.result) (λ (f : FencedEngine _). AllKept f.engine) (λ f d. fenced_kept (λ h. g.H.Handler.meaning h) c.args.events.now c.of.result f (ap (λ (e : Engine _). e.invocations.items) c.of.ensures ∙ c.new-engine.ensures.none) d) c.run_fenced.ensures.does

pub returns-clause-states : goal.returns-clause-states
returns-clause-states g c = if_ok_then c.run_fenced.result (AllFenced (λ h. g.H.Handler.meaning h) c.args.events.now c.of.result) (λ (f : FencedEngine _). StatesAreHandedOn f.engine) (λ f d. fenced_states (λ h. g.H.Handler.meaning h) c.args.events.now c.of.result f (ap (λ (e : Engine _). e.invocations.items) c.of.ensures ∙ c.new-engine.ensures.none) d) c.run_fenced.ensures.does

pub returns-clause-signals : goal.returns-clause-signals
returns-clause-signals g c = if_ok_then c.run_fenced.result (AllFenced (λ h. g.H.Handler.meaning h) c.args.events.now c.of.result) (λ (f : FencedEngine _). NoneFromNowhere f.engine) (λ f d. fenced_signals (λ h. g.H.Handler.meaning h) c.args.events.now c.of.result f (ap (λ (e : Engine _). e.invocations.items) c.of.ensures ∙ c.new-engine.ensures.none) d) c.run_fenced.ensures.does

pub returns-clause-inboxes : goal.returns-clause-inboxes
returns-clause-inboxes g c = if_ok_then c.run_fenced.result (AllFenced (λ h. g.H.Handler.meaning h) c.args.events.now c.of.result) (λ (f : FencedEngine _). InboxesHaveCauses f.engine) (λ f d. fenced_inboxes (λ h. g.H.Handler.meaning h) c.args.events.now c.of.result f (ap (λ (e : Engine _). e.invocations.items) c.of.ensures ∙ c.new-engine.ensures.none) d) c.run_fenced.ensures.does

pub returns-clause-completions : goal.returns-clause-completions
returns-clause-completions g c = if_ok_then c.run_fenced.result (AllFenced (λ h. g.H.Handler.meaning h) c.args.events.now c.of.result) (λ (f : FencedEngine _). CompletionsAreAskedFor f.engine) (λ f d. fenced_completions (λ h. g.H.Handler.meaning h) c.args.events.now c.of.result f (ap (λ (e : Engine _). e.invocations.items) c.of.ensures ∙ c.new-engine.ensures.none) d) c.run_fenced.ensures.does

pub returns-clause-own : goal.returns-clause-own
returns-clause-own g c = if_ok_then c.run_fenced.result (AllFenced (λ h. g.H.Handler.meaning h) c.args.events.now c.of.result) (λ (f : FencedEngine _). ReplaysAndQueues c.args.options → CompletionsAreOwn f.engine)
    (λ f d r. fenced_own (λ h. g.H.Handler.meaning h) c.args.events.now c.of.result f (ap (λ (e : Engine _). e.invocations.items) c.of.ensures ∙ c.new-engine.ensures.none)
    (subst ReplaysAndQueues (sym (ap (λ (e : Engine _). e.options) c.of.ensures ∙ c.new-engine.ensures.options)) r) d) c.run_fenced.ensures.does

pub returns-clause-replaying : goal.returns-clause-replaying
returns-clause-replaying g c = premise_then (AllReplay c.of.result.engine) (ReplaysAndQueues c.args.options) c.run_fenced.result
    (λ r. none_replays c.of.result.engine c.args.options (ap (λ (e : Engine _). e.invocations.items) c.of.ensures ∙ c.new-engine.ensures.none) (ap (λ (e : Engine _). e.options) c.of.ensures ∙ c.new-engine.ensures.options) r)
    c.run_fenced.ensures.replaying
