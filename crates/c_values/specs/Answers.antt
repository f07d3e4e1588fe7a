-- What C gets of a call on frames.
use Rattle.std.specs.Prelude.{◌≡◌, Bool, false, Result, Ok, Err}
use Rattle.c_values.specs.declared.status.Status.{Status}
use Rattle.c_values.specs.declared.status.Status.TheVariants as status

-- A flag is answered; or this is why there is none. Out of memory it is false.
abbrev pub IsJudged : Status → Result Bool Status → Bool → Type 0
IsJudged status.NoMemory found flag = flag ≡ false
IsJudged named (Ok is) flag = (named ≡ status.Done) × (flag ≡ is)
IsJudged named (Err why) flag = (named ≡ why) × (flag ≡ false)
