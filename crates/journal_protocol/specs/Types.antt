-- The types of messages, by their numbers.
pub use Rattle.journal_messages.specs.Types.{type_at, type_number}
