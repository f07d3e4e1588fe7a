-- What has no place after what the lines before it have said, and those lines.
use Rattle.std.proofs.Common.{◌≡◌, ◌≢◌, ◌+◌, inl, inr, ℕ, List, [], ◌∷◌, ◌++◌, None, length, ap, refl, sym, subst, ◌∙◌, arith, length-append}
use Rattle.lines.specs.Text.{AreFirstLines, IsFirstLine}
use Rattle.world_rounds.specs.declared.types.Event.{Event}
use Rattle.world_scripts.specs.declared.given.Given.{Given}
use Rattle.world_scripts.specs.declared.script_line.ScriptLine.{ScriptLine}
use Rattle.world_scripts.specs.declared.script_line.ScriptLine.TheVariants as line
use Rattle.world_scripts.specs.Said.{IsUnread, SaysLine}
use Rattle.world_scripts.specs.Scripts.{AddsLine, AddsNothing, AreAdded, AddsEvent, HappensIn, HasNoPlace, Parts, StopsAt}

-- ---- places

nothing_happens : (e : Event) (before after : Parts) → before.last ≡ None → AddsEvent e before after → ⊥
nothing_happens e before after none happens = subst (λ l. HappensIn l e after.last) none happens.last

-- no round has begun
pub no_round : (e : Event) (before : Parts) → before.last ≡ None → HasNoPlace (line.Event e) before
no_round e before none = record { nothing = λ after adds. nothing_happens e before after none adds }

-- a round has begun
pub round_begun : (bytes : List ℕ) (before : Parts) → before.last ≢ None → HasNoPlace (line.Entry bytes) before
round_begun bytes before some = record { nothing = λ after adds. some adds.0 }

-- another world stands before
pub world_stands : (given : Given) (before : Parts) → before.given ≢ None → HasNoPlace (line.World given) before
world_stands given before some = record { nothing = λ after adds. some adds.0 }

-- or an entry
pub entries_stand : (given : Given) (before : Parts) → length before.entries ≢ 0 → HasNoPlace (line.World given) before
entries_stand given before some = record { nothing = λ after adds. some (ap length adds.1) }

-- or none
pub no_entries : (entries : List (List ℕ)) → length entries ≡ 0 → entries ≡ []
no_entries [] none = refl
no_entries (entry ∷ entries) none = absurd (omega arith)

-- or a round
pub round_stands : (given : Given) (before : Parts) → before.last ≢ None → HasNoPlace (line.World given) before
round_stands given before some = record { nothing = λ after adds. some adds.2 }

pub unread_adds_nothing : (text : List ℕ) (before : Parts) → IsUnread text → AddsNothing text before
unread_adds_nothing text before unread = inl unread

pub read_adds_nothing : (text : List ℕ) (said : ScriptLine) (before : Parts) → SaysLine text said → HasNoPlace said before → AddsNothing text before
read_adds_nothing text said before reads none = inr (said, reads, none)

-- ---- the lines in front

-- `number` lines of the text are read
pub record HasRead (text rest : List ℕ) (before now : Parts) (number : ℕ) : Type 0 where
  pub lines : List (List ℕ)
  pub begins : AreFirstLines lines text rest
  pub are_added : AreAdded lines before now
  pub counted : number ≡ length lines

pub begun_none : (text : List ℕ) (before : Parts) → HasRead text text before before 0
begun_none text before = record { lines = []; begins = refl; are_added = refl; counted = refl }

begins_more : (lines : List (List ℕ)) (text rest line behind : List ℕ) → AreFirstLines lines text rest → rest ≢ [] → IsFirstLine rest line behind → AreFirstLines (lines ++ line ∷ []) text behind
begins_more [] text rest line behind is some first = (λ none. some (sym is ∙ none), (behind, subst (λ t. IsFirstLine t line behind) (sym is) first, refl))
begins_more (l ∷ lines) text rest line behind (whole, (next, one, more)) some first = (whole, (next, one, begins_more lines next rest line behind more some first))

added_more : (lines : List (List ℕ)) (line : List ℕ) (before now next : Parts) → AreAdded lines before now → AddsLine line now next → AreAdded (lines ++ line ∷ []) before next
added_more [] line before now next is adds = (next, subst (λ p. AddsLine line p next) is adds, refl)
added_more (l ∷ lines) line before now next (then, one, more) adds = (then, one, added_more lines line then now next more adds)

pub begun_more : (text rest line behind : List ℕ) (before now next : Parts) (number more : ℕ) → HasRead text rest before now number → rest ≢ [] → IsFirstLine rest line behind → AddsLine line now next → more ≡ number + 1 → HasRead text behind before next more
begun_more text rest line behind before now next number more so_far some first adds e = record {
  lines = so_far.lines ++ line ∷ [];
  begins = begins_more so_far.lines text rest line behind so_far.begins some first;
  are_added = added_more so_far.lines line before now next so_far.are_added adds;
  counted = let n = so_far.counted in omega (arith, e, n, length-append so_far.lines (line ∷ []));
}

pub stops : (text rest line behind : List ℕ) (before now : Parts) (number more : ℕ) → HasRead text rest before now number → IsFirstLine rest line behind → AddsNothing line now → more ≡ number + 1 → StopsAt text before more
stops text rest line behind before now number more so_far first none e = record {
  lines = so_far.lines;
  rest = rest;
  begins = so_far.begins;
  so_far = now;
  are_added = so_far.are_added;
  counted = let n = so_far.counted in omega (arith, e, n);
  line = line;
  others = behind;
  first = first;
  nothing = none;
}
