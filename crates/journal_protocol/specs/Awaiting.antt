-- What an await says that waits for one id.
pub use Rattle.journal_messages.specs.Awaiting.{awaiting_id}
