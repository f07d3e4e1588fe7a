-- What is fixed of the text of a report.
use Rattle.std.specs.Prelude.{◌≡◌, ◌+◌, ℕ, List, [], ◌∷◌, ◌++◌, codes, flat_map, slice_get, Option, Some, None, is_some}
use Rattle.call_lines.specs.declared.plan.Plan.{Plan}
use Rattle.engines.specs.Members.{MemberView}
use Rattle.engines.specs.declared.engine.Engine.{Engine}
use Rattle.engines.specs.declared.engine.Invocation.{Invocation}
use Rattle.engine_lines.specs.Parts.{asked_text, begun_text, callee_text, key_text, live_text, result_text, target_names, time_text, waiting_text, word_and_count}

-- its handler, by the names of an engine's targets
abbrev pub called_text : Engine Plan → Invocation Plan → List ℕ
called_text e it = target_names (slice_get e.targets.now it.target)

-- what else was asked for
abbrev pub options_text : Invocation Plan → List ℕ
options_text it = key_text it.key ++ asked_text it.idempotency_key ++ time_text it.begins

-- the line that an invocation begins with
abbrev pub invocation_head : Engine Plan → ℕ → Invocation Plan → List ℕ
invocation_head e number it = word_and_count (codes "invocation ") number ++ called_text e it
    ++ options_text it ++ codes "\n"

-- its journal, what waits, and whether an attempt lives, if its rounds are there
abbrev pub PrintsMember : Option (MemberView Plan) → List ℕ → List ℕ → Type 0
PrintsMember None old new = new ≡ old
PrintsMember (Some m) old new = (entries : List ℕ)
    × (new
    ≡ ((old ++ entries) ++ flat_map waiting_text m.waiting) ++ live_text (is_some m.course.live))

-- An invocation is printed.
pub record PrintsInvocation (e : Engine Plan) (number : ℕ) (it : Invocation Plan)
    (old new : List ℕ)
    : Type 0 where
  pub rounds : List ℕ
  pub prints : PrintsMember it.member
      (((old ++ invocation_head e number it) ++ begun_text it.begun)
      ++ flat_map callee_text it.callees.items) rounds
  pub is : new ≡ rounds ++ result_text it.ended

-- invocations are printed, one after another; the first has this number
abbrev pub PrintsAll : Engine Plan → ℕ → List (Invocation Plan) → List ℕ → List ℕ → Type 0
PrintsAll e number [] old new = new ≡ old
PrintsAll e number (it ∷ its) old new = (mid : List ℕ) × PrintsInvocation e number it old mid
    × PrintsAll e (number + 1) its mid new

-- all invocations of an engine are
abbrev pub PrintsEngine : Engine Plan → List ℕ → List ℕ → Type 0
PrintsEngine e old new = PrintsAll e 0 e.invocations.items old new
