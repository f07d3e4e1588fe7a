-- The nodes of a future as a message holds them.
pub use Rattle.journal_messages.specs.Futures.{IsFuture, are_whole}
