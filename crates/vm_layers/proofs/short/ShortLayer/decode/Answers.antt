use Rattle.std.proofs.Common.{sym, ◌∙◌}
use Rattle.vm_layers.proofs.Decoded.{no_body, no_type, read, refused}
use Rattle.vm_layers.proofs.short.ShortLayer.decode.Goals as goal

pub returns-in_default-type_after : goal.returns-in_default-type_after
returns-in_default-type_after c =
    let f = rw c.as_slice.ensures at c.in-Some.ensures in
    let t = rw c.as_slice-2.ensures at c.type_after.ensures in
    no_type c.args.self.now.version c.args.stream.now c.in-Some.len (record { long = f.0; len = f.1 }) (sym t ∙ c.in_default-type_after.is)

pub returns-in_default-2 : goal.returns-in_default-2
returns-in_default-2 c =
    let f = rw c.as_slice.ensures at c.in-Some.ensures in
    no_body c.args.self.now.version c.args.stream.now c.in-Some.len (record { long = f.0; len = f.1 }) (sym c.in_ok-body.ensures ∙ c.in_default-2.is)

pub returns-in-Ok : goal.returns-in-Ok
returns-in-Ok c =
    let f = rw c.as_slice.ensures at c.in-Some.ensures in
    let t = rw c.as_slice-2.ensures at c.in-Some-type_after.ensures in
    read c.args.self.now.version c.args.stream.now c.in-Some.len c.in-Some-type_after.ty c.in-Some-2.body c.in-Ok.message (record { long = f.0; len = f.1 })
    (sym t) (sym c.in_ok-body.ensures ∙ c.in-Some-2.is) c.in-Ok.ensures.read

pub returns : goal.returns
returns c =
    let f = rw c.as_slice.ensures at c.in-Some.ensures in
    let t = rw c.as_slice-2.ensures at c.in-Some-type_after.ensures in
    rw c.from.ensures (refused c.args.self.now.version c.args.stream.now c.in-Some.len c.in-Some-type_after.ty c.in-Some-2.body c.in-Err.fault (record { long = f.0; len = f.1 })
    (sym t) (sym c.in_ok-body.ensures ∙ c.in-Some-2.is) c.in-Err.ensures.read)
