-- What a whole script says: its lines, read one after another.
use Rattle.std.specs.Prelude.{◌≡◌, ◌+◌, ℕ, List, [], ◌∷◌, ◌++◌, Option, Some, None}
use Rattle.lines.specs.Text.{AreFirstLines}
use Rattle.vm_types.specs.declared.steps.Step.{Step}
use Rattle.engine_lines.specs.declared.said.Event.{Event}
use Rattle.engine_lines.specs.declared.said.Named.{Named}
use Rattle.engine_lines.specs.declared.said.Said.{Said}
use Rattle.engine_lines.specs.declared.said.Said.TheVariants as said
use Rattle.engine_lines.specs.declared.script.Numbered.{Numbered}
use Rattle.engine_lines.specs.declared.script.Planned.{Planned}
use Rattle.engine_lines.specs.declared.script.Script.{Script}
use Rattle.engine_lines.specs.declared.script.SoFar.{SoFar}
use Rattle.engine_lines.specs.Said.{SaysEngineLine}

-- what lines have said so far: the handlers but the last, the last one, if steps of it may follow,
-- and what happens
pub record ScriptParts : Type 0 where
  pub handlers : List Planned
  pub last : Option Planned
  pub events : List Numbered

-- what the fields say
abbrev pub script_parts : SoFar → ScriptParts
script_parts so_far = record {
  handlers = so_far.handlers.items;
  last = so_far.last;
  events = so_far.events.items;
}

-- nothing yet
abbrev pub no_script : ScriptParts
no_script = record { handlers = []; last = None; events = [] }

-- the handlers, the last one too
abbrev pub with_last_handler : List Planned → Option Planned → List Planned
with_last_handler handlers None = handlers
with_last_handler handlers (Some planned) = handlers ++ planned ∷ []

-- a handler without steps
abbrev pub without_steps : Named → Planned
without_steps named = record { named = named; steps = [] }

-- a step more of the last handler, if there is one
abbrev pub HasNextStep : Option Planned → Step → Option Planned → Type 0
HasNextStep None step after = ⊥
HasNextStep (Some planned) step after = after
    ≡ Some (record { named = planned.named; steps = planned.steps ++ step ∷ [] })

pub record AddsNextStep (step : Step) (before after : ScriptParts) : Type 0 where
  pub handlers : after.handlers ≡ before.handlers
  pub events : after.events ≡ before.events
  pub last : HasNextStep before.last step after.last

-- What the line of this number says more. A handler stands before all that happens.
abbrev pub AddsToScript : ℕ → Said → ScriptParts → ScriptParts → Type 0
AddsToScript number said.Nothing before after = after ≡ before
AddsToScript number (said.Handler named) before after = (before.events ≡ [])
    × (after
    ≡ record {
      handlers = with_last_handler before.handlers before.last;
      last = Some (without_steps named);
      events = before.events;
    })
AddsToScript number (said.Step step) before after = AddsNextStep step before after
AddsToScript number (said.Event e) before after = after
    ≡ record {
      handlers = with_last_handler before.handlers before.last;
      last = None;
      events = before.events ++ record { line = number; event = e } ∷ [];
    }

-- the line of this number more
abbrev pub AddsScriptLine : ℕ → List ℕ → ScriptParts → ScriptParts → Type 0
AddsScriptLine number text before after =
    (it : Said) × SaysEngineLine text it × AddsToScript number it before after

-- these lines more, of which the first has the number after this one
abbrev pub AreLinesOfScript : ℕ → List (List ℕ) → ScriptParts → ScriptParts → Type 0
AreLinesOfScript number [] before after = after ≡ before
AreLinesOfScript number (text ∷ texts) before after = (next : ScriptParts)
    × AddsScriptLine (number + 1) text before next × AreLinesOfScript (number + 1) texts next after

-- the lines of this text more
pub record IsTextAdded (number : ℕ) (text : List ℕ) (before after : ScriptParts) : Type 0 where
  pub lines : List (List ℕ)
  pub are_lines : AreFirstLines lines text []
  pub are_added : AreLinesOfScript number lines before after

-- the script has what the lines have said
pub record HasSaid (parts : ScriptParts) (script : Script) : Type 0 where
  pub handlers : script.handlers.items ≡ with_last_handler parts.handlers parts.last
  pub events : script.events.items ≡ parts.events

-- what a whole text says
pub record IsEngineScript (text : List ℕ) (script : Script) : Type 0 where
  pub parts : ScriptParts
  pub added : IsTextAdded 0 text no_script parts
  pub has : HasSaid parts script
