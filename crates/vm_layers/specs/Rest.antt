-- The bytes that wait in a translator.
use Rattle.std.specs.Prelude.{ℕ, List}
use Rattle.vm_layers.specs.declared.rest.Rest.{Rest}
use Rattle.vm_layers.specs.declared.rest.Rest.TheVariants.{Shared, Joined}

-- whether they are read or added to
abbrev pub rest_bytes : Rest → List ℕ
rest_bytes (Shared bytes) = bytes
rest_bytes (Joined buffer) = buffer.items
