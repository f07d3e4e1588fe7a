-- A recorded command that is replayed, by why it isn't the call's.
use Rattle.std.proofs.Common.{◌≡◌, Bool, true, false, if◌then◌else◌, Option, Some, None, refl, sym, ap, ◌∙◌}
use Rattle.journal_protocol.specs.Error.{Error}
use Rattle.journal_protocol.specs.NamedFault.{NamedFault}
use Rattle.journal_protocol.specs.NamedFault.TheVariants as fault
use Rattle.journal_protocol.specs.Message.{Message}
use Rattle.journal_protocol.specs.RawMessage.{RawMessage}
use Rattle.journal_protocol.specs.Frames.{type_of}
use Rattle.journal_protocol.specs.Bodies.{message_in}
use Rattle.journal_protocol.specs.Equality.{header_equal}
use Rattle.vm_machine.specs.declared.machine.Machine.{Machine}
use Rattle.vm_machine.specs.Commands.{compared, misfit_of, mismatch_unless, popped, replayed}
use Rattle.vm_machine.specs.Outcomes.{Outcome, Done, Failed, ◌>>>◌, about_last}

none_some : (f : NamedFault) → None ≡ Some f → ⊥
none_some f h = cc

some_none : (f : NamedFault) → Some f ≡ None → ⊥
some_none f h = cc

some_is : (f g : NamedFault) → Some f ≡ Some g → g ≡ f
some_is f g h = cc

fits_by : (equal : Bool) (w : Machine) → None ≡ mismatch_unless equal → (if equal then Done (tt {0}) w else Failed (about_last fault.CommandMismatch w) w) ≡ Done tt w
fits_by true w h = refl
fits_by false w h = absurd (none_some fault.CommandMismatch h)

fits : (m : Message) (ignore : Bool) (recorded : Option Message) (w : Machine) → None ≡ misfit_of m ignore recorded → compared m ignore recorded w ≡ Done tt w
fits m ignore None w h = absurd (none_some fault.BadMessage h)
fits m ignore (Some recorded) w h = fits_by (header_equal recorded m ignore) w h

misfits_by : (equal : Bool) (why : NamedFault) (w : Machine) → Some why ≡ mismatch_unless equal → (if equal then Done (tt {0}) w else Failed (about_last fault.CommandMismatch w) w) ≡ Failed (about_last why w) w
misfits_by true why w h = absurd (some_none why h)
misfits_by false why w h = ap (λ (f : NamedFault). Failed (about_last f w) w) (some_is why fault.CommandMismatch h)

misfits : (m : Message) (ignore : Bool) (recorded : Option Message) (why : NamedFault) (w : Machine) → Some why ≡ misfit_of m ignore recorded → compared m ignore recorded w ≡ Failed (about_last why w) w
misfits m ignore None why w h = ap (λ (f : NamedFault). Failed (about_last f w) w) (some_is why fault.BadMessage h)
misfits m ignore (Some recorded) why w h = misfits_by (header_equal recorded m ignore) why w h

pub replays_fit : (m : Message) (ignore : Bool) (v w : Machine) (raw : RawMessage) → popped (type_of m) v ≡ Done raw w → None ≡ misfit_of m ignore (message_in raw.ty raw.body) → replayed m ignore v ≡ Done tt w
unfolding replayed
replays_fit m ignore v w raw p h =
    ap (λ (o : Outcome RawMessage). o >>> λ x u. compared m ignore (message_in x.ty x.body) u) p ∙ fits m ignore (message_in raw.ty raw.body) w h

pub replays_misfit : (m : Message) (ignore : Bool) (v w : Machine) (raw : RawMessage) (why : NamedFault) (e : Error) → popped (type_of m) v ≡ Done raw w → Some why ≡ misfit_of m ignore (message_in raw.ty raw.body) → e ≡ about_last why w → replayed m ignore v ≡ Failed e w
unfolding replayed
replays_misfit m ignore v w raw why e p h is =
    ap (λ (o : Outcome RawMessage). o >>> λ x u. compared m ignore (message_in x.ty x.body) u) p ∙ misfits m ignore (message_in raw.ty raw.body) why w h ∙ ap (λ (said : Error). Failed said w) (sym is)
