-- Words that say nothing of a world.
use Rattle.std.proofs.Common.{◌≡◌, ◌∙◌, ℕ, false, List, [], codes, sym}
use Rattle.std.specs.Borrow.{Bor}
use Rattle.plain.specs.declared.fault.Fault.{Fault}
use Rattle.lines.specs.Atoms.{IsAtom}
use Rattle.lines.specs.Readings.{Blames}
use Rattle.lines.specs.Fields.{IsSet, are_named, texts_named}
use Rattle.line_parts.specs.VmOptions.{ArePolicies}
use Rattle.world_scripts.specs.Worlds.{AreStateTexts, SaysIdentity, SaysWorld, world_names}

pub others_blamed : (words : List (Bor (List ℕ))) (fault : Fault) → are_named world_names words ≡ false → Blames (SaysWorld words) fault
others_blamed words fault other = record { nothing = λ bad given is. absurd (cc (sym other ∙ is.only)) }

pub options_blamed : (words : List (Bor (List ℕ))) (fault : Fault) → Blames (ArePolicies words) fault → Blames (SaysWorld words) fault
options_blamed words fault blames = record { nothing = λ bad given is. blames.nothing bad given.options is.options }

pub identity_blamed : (words : List (Bor (List ℕ))) (fault : Fault) → Blames (SaysIdentity words) fault → Blames (SaysWorld words) fault
identity_blamed words fault blames = record { nothing = λ bad given is. blames.nothing bad given.identity is.identity }

pub input_blamed : (words : List (Bor (List ℕ))) (fault : Fault) → Blames (IsSet IsAtom [] (texts_named (codes "input=") words)) fault → Blames (SaysWorld words) fault
input_blamed words fault blames = record { nothing = λ bad given is. blames.nothing bad given.input is.input }

pub state_blamed : (words : List (Bor (List ℕ))) (fault : Fault) → Blames (AreStateTexts (texts_named (codes "state=") words)) fault → Blames (SaysWorld words) fault
state_blamed words fault blames = record { nothing = λ bad given is. blames.nothing bad given.state.items is.state }
