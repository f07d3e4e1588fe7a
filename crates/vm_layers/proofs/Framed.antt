-- The frame of a message in the VM's own layer, read off again.
use Rattle.std.proofs.Common.{◌≡◌, List, [], ℕ, Err, refl, sym, ap, ◌∙◌}
use Rattle.std.proofs.lemmas.List.{append-nil}
use Rattle.journal_protocol.specs.Frames.{IsWhole, body, encoding, type_of, Malformed, NextFrame, Partial, Whole, next_of, NextIs}
use Rattle.journal_protocol.specs.Message.{Message}
use Rattle.journal_protocol.specs.RawMessage.{RawMessage}
use Rattle.journal_protocol.proofs.Facts as alone
use Rattle.plain.specs.declared.fault.Fault.{Fault}
use Rattle.plain.specs.declared.fault.Fault.TheVariants as fault
use Rattle.vm_layers.specs.Layers.{layer_fault}
use Rattle.vm_layers.specs.declared.layer.LayerFault.TheVariants.{Memory}

own : (m : Message) → IsWhole m → next_of (encoding m) ≡ Whole (record { ty = type_of m; body = body m }) []
own m w = ap next_of (sym (append-nil (encoding m))) ∙ alone.framed m [] w

abbrev raw_or : RawMessage → NextFrame → RawMessage
raw_or other (Whole raw rest) = raw
raw_or other Partial = other
raw_or other Malformed = other

pub found : (m : Message) (raw : RawMessage) (rest : List ℕ) → IsWhole m → next_of (encoding m) ≡ Whole raw rest
    → (raw.ty ≡ type_of m) × (raw.body ≡ body m) × IsWhole m
found m raw rest w e =
    let same : raw ≡ record { ty = type_of m; body = body m } = ap (raw_or raw) (sym e ∙ own m w) in
    (ap (λ (r : RawMessage). r.ty) same, ap (λ (r : RawMessage). r.body) same, w)

whole_is_no_part : (raw : RawMessage) (rest : List ℕ) → Whole raw rest ≡ Partial → ⊥
whole_is_no_part raw rest e = cc

whole_is_well_formed : (raw : RawMessage) (rest : List ℕ) → Whole raw rest ≡ Malformed → ⊥
whole_is_well_formed raw rest e = cc

pub no_part : (m : Message) → IsWhole m → next_of (encoding m) ≡ Partial → ⊥
no_part m w e = whole_is_no_part _ _ (sym (own m w) ∙ e)

well_formed : (m : Message) → IsWhole m → next_of (encoding m) ≡ Malformed → ⊥
well_formed m w e = whole_is_well_formed _ _ (sym (own m w) ∙ e)

pub only_memory : (m : Message) (why : Fault) (bs rest : List ℕ) → IsWhole m → bs ≡ encoding m → NextIs bs (Err why) rest → layer_fault why ≡ Memory
only_memory m fault.Memory bs rest w is next = refl
only_memory m fault.Malformed bs rest w is next = absurd (well_formed m w (ap next_of (sym is) ∙ next.0))
