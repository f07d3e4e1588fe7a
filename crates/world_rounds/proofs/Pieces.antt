-- What a piece does, once the input is known to be open.
use Rattle.std.proofs.Common.{◌≡◌, ℕ, Bool, true, false, take, drop, Result, refl, sym, subst}
use Rattle.std.specs.declared.alloc.AllocError.{AllocError}
use Rattle.vm_attempt.specs.Record.{Record}
use Rattle.vm_attempt.specs.Stepping.{FeedDoes}
use Rattle.world_rounds.specs.Rounds.{Now, Pieces, first_error, memory_of}

pub pieces_open : (closed : Bool) (n : ℕ) (old new : Now) → closed ≡ false → (result : Result Unit AllocError) (r : Record) → FeedDoes old.attempt.starved (take n old.waiting) old.attempt result r → new ≡ record old { waiting = drop n old.waiting; attempt = r; error = first_error old.error (memory_of result) } → Pieces closed n old new
pieces_open closed n old new e result r does is = subst (λ b. Pieces b n old new) (sym e) (result, r, does, is)

pub pieces_closed : (closed : Bool) (n : ℕ) (old : Now) → closed ≡ true → Pieces closed n old old
pieces_closed closed n old e = subst (λ b. Pieces b n old old) (sym e) refl
