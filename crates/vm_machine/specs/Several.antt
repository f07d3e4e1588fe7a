-- A call that has several commands: what all of them need is looked for before the first is made,
-- and each is made by a call of its own.
use Rattle.std.specs.Prelude.{◌≡◌, ◌+◌, ◌<◌, ◌^◌, if◌then◌else◌, List, [], ◌∷◌, Option, Some, None, Result, Ok, Err, OnOk}
use Rattle.journal_protocol.specs.Error.{Error}
use Rattle.journal_protocol.specs.NamedFault.{NamedFault}
use Rattle.await_trees.specs.declared.handle.NotificationHandle.{NotificationHandle}
use Rattle.vm_asks.specs.declared.command.Command.{Command}
use Rattle.vm_asks.specs.Asks.{all_ids, any_refusal, missing_for}
use Rattle.vm_asks.specs.Requests.{name_of, shown_type}
use Rattle.vm_machine.specs.declared.machine.Machine.{Machine}
use Rattle.vm_machine.specs.Commands.{CanBeRead, about_next, commanded, entered}
use Rattle.vm_machine.specs.Outcomes.{Does, Done, Failed, Outcome, ◌>>>◌, about_last, called, refused}
use Rattle.vm_machine.specs.Phases.{is_running, state_fault}

-- ---- what all of them need

-- the numbers are left; or the call is refused, and relates to its first command
abbrev pub numbers_left : Option NamedFault → Command → Machine → Outcome Unit
numbers_left (Some name) c v = Failed (about_next name (shown_type c.message) (name_of c.message) v)
    v
numbers_left None c v = Done tt v

-- the state, and then the numbers
abbrev pub looked_for : Command → List Command → Machine → Outcome Unit
looked_for c cs v =
    if is_running v.phase then numbers_left (missing_for c cs v.counters) c v
    else (let w = entered (shown_type c.message) (name_of c.message) v in
    Failed (about_last (state_fault v.phase) w) w)

-- the arguments, and then the rest
abbrev pub foreseen_unless : Option NamedFault → Command → List Command → Machine → Outcome Unit
foreseen_unless (Some name) c cs v = refused name v
foreseen_unless None c cs v = looked_for c cs v

-- What a command and those after it need is looked for, before it is made: the first reason that
-- there is refuses the call.
unfoldable pub foreseen : Command → List Command → Machine → Outcome Unit
foreseen c cs v = foreseen_unless (any_refusal c cs) c cs v

-- A command with these after it; if there are any, what all of them need is looked for first.
abbrev pub commanded_before : Command → List Command → Machine → Outcome NotificationHandle
commanded_before c [] v = commanded c v
commanded_before c (b ∷ bs) v = foreseen c (b ∷ bs) v >>> λ _ w. commanded c w

-- ---- the whole call

-- one of the commands, by a call of its own; what it wrote can be read back
abbrev pub MakesOne : Command → List Command → Result NotificationHandle Error → Machine → Machine
    → Type 0
MakesOne c cs r old new =
    Does (called (commanded_before c cs old) old) r old new × OnOk r (CanBeRead c.message old)

-- a result with this answer
abbrev pub answered_so : {A B : Type 0} → B → Result A Error → Result B Error
answered_so b (Ok a) = Ok b
answered_so b (Err e) = Err e

-- after the first command: the call is answered by its handle; an error stays
abbrev pub BehindFirst : (Result NotificationHandle Error → Machine → Machine → Type 0)
    → Result NotificationHandle Error → Result NotificationHandle Error → Machine → Machine → Type 0
BehindFirst Next (Ok handle) r mid new = (given : Result NotificationHandle Error)
    × Next given mid new × (r ≡ answered_so handle given)
BehindFirst Next (Err e) r mid new = (r ≡ Err e) × (new ≡ mid)

-- A command and those after it are made, one after another, each by a call of its own; the call is
-- answered by the first one's handle.
abbrev pub MakesAll : Command → List Command → Result NotificationHandle Error → Machine → Machine
    → Type 0
MakesAll c [] r old new = MakesOne c [] r old new
MakesAll c (b ∷ bs) r old new = (first : Result NotificationHandle Error) × (mid : Machine)
    × MakesOne c (b ∷ bs) first old mid × BehindFirst (MakesAll b bs) first r mid new

-- all handles of a call fit, from its first on
abbrev pub AllFit : Command → List Command → NotificationHandle → Type 0
AllFit c cs handle = handle.0 + all_ids c cs < 2 ^ 32
