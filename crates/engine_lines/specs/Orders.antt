-- What a line `submit` asks of an engine.
use Rattle.std.specs.Prelude.{ℕ, List, [], Option, Some, None}
use Rattle.engine_inboxes.specs.declared.order.Order.{Order}
use Rattle.engine_lines.specs.declared.said.Asked.{Asked}

-- a key that isn't named is empty
abbrev pub key_of : Option (List ℕ) → List ℕ
key_of None = []
key_of (Some key) = key

-- what a line `submit` asks for
abbrev pub submitted_order : Asked → Order
submitted_order asked = record {
  service = asked.service;
  handler = asked.handler;
  key = key_of asked.key;
  idempotency_key = asked.idempotency_key;
  parameter = asked.parameter;
  begins = asked.begins;
}
