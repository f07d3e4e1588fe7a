-- What C holds of a value in a block of the heap.
use Rattle.std.specs.Prelude.{◌≡◌, Option, Some, None}
use base.Fml.{Fml, ftrue, fex}
use denote.RattleType.{RattleType}
use denote.RawPtr.{Ptr, null_ptr}
use Rattle.std.specs.Box.Ownership.{box_owns}
use mir.Syntax.{Ty}
use Rattle.std.specs.contracts.impls.GlobalAllocator.TheImpl as heap

-- the right to free a block of the heap
abbrev pub chunk : Ty → Ptr → Fml
chunk = heap.ghosts.dealloc_token (record { memory = record { seal = tt } })

-- null, or the value in a block of the heap
abbrev pub held : (R : RattleType) → Ptr → Option R.Denot → Fml
held R p None = fex (p ≡ null_ptr) (λ _. ftrue)
held R p (Some x) = box_owns chunk R p x
